-- A control, order by order.
use Rattle.std.proofs.Common.{◌≡◌, ℕ, ◌+◌, ◌≤◌, List, [], ◌∷◌, ◌++◌, length, true, false, All, Some, None, IfSome, Result, ◌⊎◌, inl, inr, refl, sym, ap, ◌∙◌, subst, append_assoc, append-nil, arith}
use Rattle.std.proofs.KnownBytes.{Appends-trans}
use Rattle.std.proofs.lemmas.List.Elements.{All-cons, All-nil}
use Rattle.std.specs.Io.KnownBytes.{Appends}
use Rattle.std.specs.Prelude.{option_map}
use Rattle.std.specs.declared.option.Option.{Option}
use Rattle.sq_outside.specs.Causes.{Rose}
use Rattle.sq_outside.specs.Output.{Grew, IsProperPrefix}
use Rattle.sq_outside.specs.SourceLines.{SourceLine, lines}
use Rattle.sq_outside.specs.Told.{Openings, Texts}
use Rattle.sq_outside.proofs.Writing.{Grew_proper_after}
use Rattle.sq_rules.specs.Configurations.{Configuration}
use Rattle.sq_calls.specs.Moments.{GrewAt, IsTimely}
use Rattle.sq_calls.specs.declared.faults.DeskFault.{DeskFault}
use Rattle.sq_machine.specs.Entries.{History}
use Rattle.sq_control.specs.declared.panel.PanelEnd.{PanelEnd}
use Rattle.sq_control.specs.declared.panel.PanelEnd.TheVariants as ends
use Rattle.sq_control.specs.Rereading.{Asks, CountsMade, is_answer}
use Rattle.sq_control.specs.declared.control.Reread.{Reread}
use Rattle.sq_control.specs.declared.control.Reread.TheVariants as reread
use Rattle.sq_control.specs.Attending.{AreReread, Attends, CountsEpochs, HasCauses, HasEpoch, IsFollowed, IsReread, Seen, StatesConfiguration, Streams, counts_made, made_in}
use Rattle.sq_control.specs.Renewing.{AddsRenewal, AreRenewed, GivesConfig, Renewals, Renews, Views}
use Rattle.sq_control.specs.Orders.{IsNext, IsOrdered, counts_with, left_with, lines_left, rereads_in}
use Rattle.sq_control.specs.ControlText.{control_text, listening_text, reread_text, rereads_text}
use Rattle.sq_control.specs.declared.orders.Order.{Order}
use Rattle.sq_control.specs.declared.orders.Order.TheVariants as order
use Rattle.sq_control.proofs.OrderLaws.{open_left, open_orders}

-- what is still ordered and what was done are all that was ordered, and no `shutdown` came
abbrev pub Remains : Option (List ℕ) → Option (List ℕ) → List Reread → Type 0
Remains None now rereads = Unit {0}
Remains (Some bytes) None rereads = ⊥
Remains (Some bytes) (Some rest) rereads = (rereads_in (lines bytes) ≡ length rereads + rereads_in (lines rest))
    × (lines_left (lines bytes) ≡ lines_left (lines rest))

-- at none of them the desk had stopped
abbrev pub AreNoted : List Reread → Type 0
AreNoted rereads = All (λ r. r ≡ reread.Journal → ⊥) rereads

-- so far
pub record IsGoing (texts : Texts) (name : List ℕ) (port : ℕ) (before now : Seen) (v w : Streams) : Type 0 where
  pub rereads : List Reread
  pub are : AreReread texts name before rereads now
  pub noted : AreNoted rereads
  pub remains : Remains v.left w.left rereads
  pub writes : Appends v.contents w.contents (control_text port rereads)
  pub input_same : w.input_faults ≡ v.input_faults
  pub output_same : w.output_faults ≡ v.output_faults

-- epochs and their count

one_counted : (k : ℕ) (new : Option ℕ) (r : Reread) → CountsMade (Some k) new r
    → HasEpoch r k × (new ≡ Some (counts_made r k))
one_counted k new (reread.Made epoch) c = (omega (arith, c.1), c.0)
one_counted k new (reread.At e) c = (tt, c)
one_counted k new reread.Missing c = (tt, c)
one_counted k new reread.Read c = (tt, c)
one_counted k new reread.Epochs c = (tt, c)
one_counted k new reread.Spent c = (tt, c)
one_counted k new reread.Journal c = (tt, c)
one_counted k new reread.WantOfMemory c = (tt, c)

moved_count : (m n : ℕ) (r : Reread) → counts_made r (m + n) ≡ m + counts_made r n
moved_count m n (reread.Made epoch) = omega arith
moved_count m n (reread.At e) = refl
moved_count m n reread.Missing = refl
moved_count m n reread.Read = refl
moved_count m n reread.Epochs = refl
moved_count m n reread.Spent = refl
moved_count m n reread.Journal = refl
moved_count m n reread.WantOfMemory = refl

count_more : (old mid new : Option ℕ) (r : Reread) (older : List Reread) → CountsEpochs old mid older
    → CountsMade mid new r → CountsEpochs old new (r ∷ older)
count_more None mid new r older c one = tt
count_more (Some m) mid new r older c one =
    let both = one_counted (m + made_in older) new r (subst (λ o. CountsMade o new r) c.1 one) in
    ((both.0, c.0), both.1 ∙ ap (λ (n : ℕ). Some n) (moved_count m (made_in older) r))

pub none_counted : (old : Option ℕ) → CountsEpochs old old []
none_counted None = tt
none_counted (Some m) = (tt, ap (λ (n : ℕ). Some n) (omega arith))

pub all_counted : (texts : Texts) (name : List ℕ) (before now : Seen) (rereads : List Reread)
    → AreReread texts name before rereads now → CountsEpochs before.desk.made now.desk.made rereads
all_counted texts name before now [] same = subst (λ (s : Seen). CountsEpochs before.desk.made s.desk.made [])
    (sym same) (none_counted before.desk.made)
all_counted texts name before now (r ∷ older) (mid, are, is) =
    count_more before.desk.made mid.desk.made now.desk.made r older (all_counted texts name before mid older are)
    is.made

-- orders

one_ordered : (bytes rest : List ℕ) (after : Option (List ℕ)) (o : Order) → IsOrdered bytes after o → after ≡ Some rest
    → rereads_in (lines bytes) ≡ counts_with o (rereads_in (lines rest))
one_ordered bytes rest after o is left =
    let same : is.rest ≡ rest = cc (sym is.left ∙ left) in
    ap rereads_in is.first ∙ ap (λ (x : Order). counts_with x (rereads_in (lines is.rest))) (sym is.order_is)
    ∙ ap (λ l. counts_with o (rereads_in (lines l))) same

one_left : (bytes rest : List ℕ) (after : Option (List ℕ)) (o : Order) → IsOrdered bytes after o → after ≡ Some rest
    → lines_left (lines bytes) ≡ left_with o (lines rest) (lines_left (lines rest))
one_left bytes rest after o is left =
    let same : is.rest ≡ rest = cc (sym is.left ∙ left) in
    ap lines_left is.first ∙ ap (λ (x : Order). left_with x (lines is.rest) (lines_left (lines is.rest)))
    (sym is.order_is)
    ∙ ap (λ l. left_with o (lines l) (lines_left (lines l))) same

ordered_left : (v mid now : Option (List ℕ)) (rereads more : List Reread) (o : Order)
    → ((n : ℕ) → length rereads + counts_with o n ≡ length more + n)
    → ((behind later : List SourceLine) → left_with o behind later ≡ later) → Remains v mid rereads
    → IfSome mid (λ bytes. IsOrdered bytes now o) → Remains v now more
ordered_left None mid now rereads more o f stays r i = tt
ordered_left (Some bytes) None now rereads more o f stays r i = absurd r
ordered_left (Some bytes) (Some rest) None rereads more o f stays r i = absurd (cc (i.left))
ordered_left (Some bytes) (Some rest) (Some left) rereads more o f stays r i = (
  r.0 ∙ ap (λ (n : ℕ). length rereads + n) (one_ordered rest left (Some left) o i refl) ∙ f (rereads_in (lines left)),
  r.1 ∙ one_left rest left (Some left) o i refl ∙ stays (lines left) (lines_left (lines left)),
)

pub nothing_left : (v mid now : Option (List ℕ)) (rereads : List Reread) → Remains v mid rereads
    → IfSome mid (λ bytes. IsNext bytes now order.Nothing) → Remains v now rereads
nothing_left v mid now rereads r i = ordered_left v mid now rereads rereads order.Nothing (λ n. refl)
    (λ behind later. refl) r i

pub reread_left : (v mid now : Option (List ℕ)) (rereads : List Reread) (one : Reread) → Remains v mid rereads
    → IfSome mid (λ bytes. IsNext bytes now order.Reconfigure)
    → Remains v now (one ∷ rereads)
reread_left v mid now rereads one r i = ordered_left v mid now rereads (one ∷ rereads) order.Reconfigure
    (λ n. omega arith) (λ behind later. refl) r i

-- `shutdown` came, or the end
pub all_followed : (v mid now : Option (List ℕ)) (rereads : List Reread) (o : Order) → AreNoted rereads
    → Remains v mid rereads → IfSome mid (λ bytes. IsNext bytes now o)
    → (o ≡ order.Shutdown) ⊎ (o ≡ order.End) → IsFollowed v now rereads
all_followed None mid now rereads o noted r i e = record { noted = noted; orders = tt; left = tt }
all_followed (Some bytes) None now rereads o noted r i e = absurd r
all_followed (Some bytes) (Some rest) now rereads order.Shutdown noted r i e =
    let none : rereads_in (lines rest) ≡ 0 = one_ordered rest i.rest now order.Shutdown i i.left in
    let whole = r.0 in
    record {
      noted = noted;
      orders = omega (arith, whole, none);
      left = (i.rest, i.left, sym (r.1 ∙ one_left rest i.rest now order.Shutdown i i.left));
    }
all_followed (Some bytes) (Some rest) now rereads order.End noted r i e =
    let none : rereads_in (lines rest) ≡ 0 = open_orders rest i.0 in
    let whole = r.0 in
    record {
      noted = noted;
      orders = omega (arith, whole, none);
      left = ([], i.1, sym (r.1 ∙ open_left rest i.0));
    }
all_followed (Some bytes) (Some rest) now rereads order.Nothing noted r i (inl e) = absurd (cc)
all_followed (Some bytes) (Some rest) now rereads order.Nothing noted r i (inr e) = absurd (cc)
all_followed (Some bytes) (Some rest) now rereads order.Reconfigure noted r i (inl e) = absurd (cc)
all_followed (Some bytes) (Some rest) now rereads order.Reconfigure noted r i (inr e) = absurd (cc)

-- what is written

pub text_more : (port : ℕ) (r : Reread) (older : List Reread)
    → control_text port (r ∷ older) ≡ control_text port older ++ reread_text r
text_more port r older = sym (append_assoc (listening_text port) (rereads_text older) (reread_text r))

pub first_text : (port : ℕ) → control_text port [] ≡ listening_text port
first_text port = append-nil (listening_text port)

-- steps

pub remains_all : (left : Option (List ℕ)) → Remains left left []
remains_all None = tt
remains_all (Some bytes) = (omega arith, refl)

-- the port was written
unfoldable pub going_begins : (texts : Texts) (name : List ℕ) (port : ℕ) (before : Seen) (v w : Streams)
    → w.left ≡ v.left → Appends v.contents w.contents (listening_text port)
    → w.input_faults ≡ v.input_faults → w.output_faults ≡ v.output_faults → IsGoing texts name port before before v w
going_begins texts name port before v w left wrote input output = record {
  rereads = [];
  are = refl;
  noted = All-nil (λ (r : Reread). r ≡ reread.Journal → ⊥);
  remains = subst (λ (o : Option (List ℕ)). Remains v.left o []) (sym left) (remains_all v.left);
  writes = subst (Appends v.contents w.contents) (sym (first_text port)) wrote;
  input_same = input;
  output_same = output;
}

-- a line ordered nothing
unfoldable pub going_on : (texts : Texts) (name : List ℕ) (port : ℕ) (before now : Seen) (v w x : Streams)
    → IsGoing texts name port before now v w
    → IfSome w.left (λ bytes. IsNext bytes x.left order.Nothing) → x.contents ≡ w.contents
    → x.input_faults ≡ w.input_faults → x.output_faults ≡ w.output_faults
    → IsGoing texts name port before now v x
going_on texts name port before now v w x g next same input output = record {
  rereads = g.rereads;
  are = g.are;
  noted = g.noted;
  remains = nothing_left v.left w.left x.left g.rereads g.remains next;
  writes = subst (λ (o : Option (List ℕ)). Appends v.contents o (control_text port g.rereads)) (sym same) g.writes;
  input_same = input ∙ g.input_same;
  output_same = output ∙ g.output_same;
}

-- a reconfiguration was made, or not, and its line was written
unfoldable pub going_reread : (texts : Texts) (name : List ℕ) (port : ℕ) (before mid now : Seen) (v w x : Streams)
    (r : Reread) → IsGoing texts name port before mid v w
    → IfSome w.left (λ bytes. IsNext bytes x.left order.Reconfigure) → IsReread texts name mid r now
    → (r ≡ reread.Journal → ⊥) → Appends w.contents x.contents (reread_text r)
    → x.input_faults ≡ w.input_faults → x.output_faults ≡ w.output_faults → IsGoing texts name port before now v x
going_reread texts name port before mid now v w x r g next is noted wrote input output = record {
  rereads = r ∷ g.rereads;
  are = (mid, g.are, is);
  noted = All-cons (λ (k : Reread). k ≡ reread.Journal → ⊥) r g.rereads noted g.noted;
  remains = reread_left v.left w.left x.left g.rereads r g.remains next;
  writes = subst (Appends v.contents x.contents) (sym (text_more port r g.rereads))
      (Appends-trans v.contents w.contents x.contents (control_text port g.rereads) (reread_text r) g.writes wrote);
  input_same = input ∙ g.input_same;
  output_same = output ∙ g.output_same;
}

-- ends

pub causes_none : (v w : Streams) (end : PanelEnd) → (end ≡ ends.Ended) ⊎ (end ≡ ends.Faulted)
    → w.input_faults ≡ v.input_faults → w.output_faults ≡ v.output_faults → HasCauses v w end
causes_none v w end is input output = record {
  input_later = omega (arith, input);
  output_later = omega (arith, output);
  read = λ e. absurd (no_read e is);
  write = λ e. absurd (no_write e is);
  input_quiet = λ n. input;
  output_quiet = λ n. output;
}
  where
    no_read : end ≡ ends.ReadFault → (end ≡ ends.Ended) ⊎ (end ≡ ends.Faulted) → ⊥
    no_read e (inl f) = cc
    no_read e (inr f) = cc

    no_write : end ≡ ends.WriteFault → (end ≡ ends.Ended) ⊎ (end ≡ ends.Faulted) → ⊥
    no_write e (inl f) = cc
    no_write e (inr f) = cc

-- `shutdown` came, or the end
unfoldable pub going_ends : (texts : Texts) (name : List ℕ) (port : ℕ) (before now : Seen) (v w x : Streams) (o : Order)
    → IsGoing texts name port before now v w
    → IfSome w.left (λ bytes. IsNext bytes x.left o) → (o ≡ order.Shutdown) ⊎ (o ≡ order.End) → x.contents ≡ w.contents
    → x.input_faults ≡ w.input_faults → x.output_faults ≡ w.output_faults
    → Attends texts name port before now v x ends.Ended
going_ends texts name port before now v w x o g next last same input output = record {
  rereads = g.rereads;
  are = g.are;
  counts = all_counted texts name before now g.rereads g.are;
  follows = all_followed v.left w.left x.left g.rereads o g.noted g.remains next last;
  writes = subst (λ (c : Option (List ℕ)). Appends v.contents c (control_text port g.rereads)) (sym same) g.writes;
  causes = causes_none v x ends.Ended (inl refl) (input ∙ g.input_same) (output ∙ g.output_same);
}

-- a fault was learnt
unfoldable pub going_fails : (texts : Texts) (name : List ℕ) (port : ℕ) (before now : Seen) (v w x : Streams)
    → IsGoing texts name port before now v w
    → x.contents ≡ w.contents → x.input_faults ≡ w.input_faults → x.output_faults ≡ w.output_faults
    → Attends texts name port before now v x ends.Faulted
going_fails texts name port before now v w x g same input output = record {
  rereads = g.rereads;
  are = g.are;
  counts = all_counted texts name before now g.rereads g.are;
  follows = tt;
  writes = subst (λ (c : Option (List ℕ)). Appends v.contents c (control_text port g.rereads)) (sym same) g.writes;
  causes = causes_none v x ends.Faulted (inr refl) (input ∙ g.input_same) (output ∙ g.output_same);
}

-- a fault was learnt behind a reconfiguration, whose line was written
unfoldable pub going_over : (texts : Texts) (name : List ℕ) (port : ℕ) (before mid now : Seen) (v w x : Streams)
    (r : Reread) → IsGoing texts name port before mid v w
    → IsReread texts name mid r now → Appends w.contents x.contents (reread_text r) → x.input_faults ≡ w.input_faults
    → x.output_faults ≡ w.output_faults
    → Attends texts name port before now v x ends.Faulted
going_over texts name port before mid now v w x r g is wrote input output = record {
  rereads = r ∷ g.rereads;
  are = (mid, g.are, is);
  counts = all_counted texts name before now (r ∷ g.rereads) (mid, g.are, is);
  follows = tt;
  writes = subst (Appends v.contents x.contents) (sym (text_more port r g.rereads))
      (Appends-trans v.contents w.contents x.contents (control_text port g.rereads) (reread_text r) g.writes wrote);
  causes = causes_none v x ends.Faulted (inr refl) (input ∙ g.input_same) (output ∙ g.output_same);
}

-- an order could not be read
unfoldable pub going_unread : (texts : Texts) (name : List ℕ) (port : ℕ) (before now : Seen) (v w x : Streams)
    → IsGoing texts name port before now v w
    → x.contents ≡ w.contents → Rose w.input_faults x.input_faults → w.input_faults ≤ x.input_faults
    → x.output_faults ≡ w.output_faults
    → Attends texts name port before now v x ends.ReadFault
going_unread texts name port before now v w x g same rose later output = record {
  rereads = g.rereads;
  are = g.are;
  counts = all_counted texts name before now g.rereads g.are;
  follows = tt;
  writes = subst (λ (c : Option (List ℕ)). Appends v.contents c (control_text port g.rereads)) (sym same) g.writes;
  causes = record {
    input_later = let i = g.input_same in omega (arith, i, later);
    output_later = let o = g.output_same in omega (arith, o, output);
    read = λ e. subst (λ (n : ℕ). Rose n x.input_faults) g.input_same rose;
    write = λ e. absurd (cc);
    input_quiet = λ n. absurd (n refl);
    output_quiet = λ n. output ∙ g.output_same;
  };
}

pub causes_unwritten : (v w x : Streams) → w.input_faults ≡ v.input_faults → w.output_faults ≡ v.output_faults
    → x.input_faults ≡ w.input_faults → Rose w.output_faults x.output_faults
    → w.output_faults ≤ x.output_faults → HasCauses v x ends.WriteFault
causes_unwritten v w x input output same rose later = record {
  input_later = omega (arith, input, same);
  output_later = omega (arith, output, later);
  read = λ e. absurd (cc);
  write = λ e. subst (λ (n : ℕ). Rose n x.output_faults) output rose;
  input_quiet = λ n. same ∙ input;
  output_quiet = λ n. absurd (n refl);
}

-- the line of a reconfiguration could not be written
unfoldable pub going_unwritten : (texts : Texts) (name : List ℕ) (port : ℕ) (before mid now : Seen) (v w x : Streams)
    (r : Reread) → IsGoing texts name port before mid v w
    → IsReread texts name mid r now → Grew w.contents x.contents (λ part. IsProperPrefix part (reread_text r))
    → x.input_faults ≡ w.input_faults
    → Rose w.output_faults x.output_faults → w.output_faults ≤ x.output_faults
    → Attends texts name port before now v x ends.WriteFault
going_unwritten texts name port before mid now v w x r g is wrote input rose later = record {
  rereads = r ∷ g.rereads;
  are = (mid, g.are, is);
  counts = all_counted texts name before now (r ∷ g.rereads) (mid, g.are, is);
  follows = tt;
  writes = subst (λ (t : List ℕ). Grew v.contents x.contents (λ part. IsProperPrefix part t))
      (sym (text_more port r g.rereads))
      (Grew_proper_after v.contents w.contents x.contents (control_text port g.rereads) (reread_text r) g.writes wrote);
  causes = causes_unwritten v w x g.input_same g.output_same input rose later;
}

-- the first line could not be written
unfoldable pub unwritten : (texts : Texts) (name : List ℕ) (port : ℕ) (before : Seen) (v w : Streams)
    → Grew v.contents w.contents (λ part. IsProperPrefix part (listening_text port))
    → w.input_faults ≡ v.input_faults → Rose v.output_faults w.output_faults → v.output_faults ≤ w.output_faults
    → Attends texts name port before before v w ends.WriteFault
unwritten texts name port before v w wrote input rose later = record {
  rereads = [];
  are = refl;
  counts = none_counted before.desk.made;
  follows = tt;
  writes = subst (λ (t : List ℕ). Grew v.contents w.contents (λ part. IsProperPrefix part t)) (sym (first_text port))
      wrote;
  causes = causes_unwritten v v w refl refl input rose later;
}

-- the control ends as it was ordered, or by a fault that it learnt, behind these reconfigurations
pub going_stops : (texts : Texts) (name : List ℕ) (port : ℕ) (before now : Seen) (v w x : Streams) (o : Order)
    (end : PanelEnd) (g : IsGoing texts name port before now v w)
    → IfSome w.left (λ bytes. IsNext bytes x.left o) → (o ≡ order.Shutdown) ⊎ (o ≡ order.End)
    → (end ≡ ends.Ended) ⊎ (end ≡ ends.Faulted)
    → x.contents ≡ w.contents → x.input_faults ≡ w.input_faults → x.output_faults ≡ w.output_faults
    → (a : Attends texts name port before now v x end) × (a.rereads ≡ g.rereads)
unfolding going_ends going_fails
going_stops texts name port before now v w x o end g next last (inl e) same input output =
    subst (λ (n : PanelEnd). (a : Attends texts name port before now v x n) × (a.rereads ≡ g.rereads)) (sym e)
    (going_ends texts name port before now v w x o g next last same input output, refl)
going_stops texts name port before now v w x o end g next last (inr e) same input output =
    subst (λ (n : PanelEnd). (a : Attends texts name port before now v x n) × (a.rereads ≡ g.rereads)) (sym e)
    (going_fails texts name port before now v w x g same input output, refl)

-- texts that stayed
pub same_texts : (t u : Texts) (name : List ℕ) (v : Seen) (r : Reread) (w : Seen) → t ≡ u → IsReread t name v r w
    → IsReread u name v r w
same_texts t u name v r w e is = subst (λ (x : Texts). IsReread x name v r w) e is

-- the desk answered, so the text was accepted
pub asked_of : {K : Type 0} (texts : Texts) (before now : Openings) (name : List ℕ)
    (R : Configuration → Result ℕ DeskFault → Type 0) (old new : K) (r : Reread)
    → Asks texts before now name R old new r
    → is_answer r ≡ true → StatesConfiguration texts before now name
asked_of texts before now name R old new r (inl x) e = (x.0, x.2)
asked_of texts before now name R old new r (inr x) e = absurd (let no : true ≡ false = sym e ∙ x.1 in cc)

-- the clock is another value by now that gives the same moments
pub timely_still : {first last now : Option (List ℕ)} {old new : Option History} → last ≡ now
    → IsTimely first last old new → IsTimely first now old new
timely_still {first} {last} {now} {old} {new} e is = subst (λ (m : Option (List ℕ)). IsTimely first m old new) e is

-- what stands beside learned of an epoch with what the desk gave
pub renews_made : (configs : ℕ → Option (Option Configuration)) (r : Reread) (epoch now : ℕ) (old new : Renewals)
    (config : Option Configuration) → r ≡ reread.Made epoch → GivesConfig (configs epoch) config
    → AddsRenewal old new (record { epoch = epoch; config = config; now = now }) → Renews configs r now old new
renews_made configs r epoch now old new config is gives adds =
    subst (λ (k : Reread). Renews configs k now old new) (sym is) (config, gives, adds)

-- what a desk gave of a configuration
pub gives_config : {A : Type 0} (told : Option (Option Configuration)) (gave : Option A) (value : A → Configuration)
    → IfSome told (λ o. IfSome gave (λ c. o ≡ Some (value c))) → GivesConfig told (option_map value gave)
gives_config None gave value is = tt
gives_config (Some o) None value is = tt
gives_config (Some o) (Some c) value is = is

-- it learned of one reconfiguration more
pub renewed_more : {K : Type 0} (views : Views K) (old mid new desk : K) (older : List Reread) (r : Reread)
    (moment : ℕ) (before between then now : Renewals) → AreRenewed views old older mid before between → desk ≡ new
    → then ≡ between → GrewAt (moment ∷ []) (views.told mid) (views.told new)
    → Renews (views.configs desk) r moment then now → AreRenewed views old (r ∷ older) new before now
renewed_more {K} views old mid new desk older r moment before between then now are same stays grew renews = (
  mid,
  between,
  are,
  record {
    moment = moment;
    grew = grew;
    renews = subst (λ (k : K). Renews (views.configs k) r moment between now) same
        (subst (λ (b : Renewals). Renews (views.configs desk) r moment b now) stays renews);
  },
)

-- the same reconfigurations
pub renewed_same : {K : Type 0} (views : Views K) (old new : K) (these those : List Reread) (before now : Renewals)
    → those ≡ these → AreRenewed views old these new before now → AreRenewed views old those new before now
renewed_same views old new these those before now same are =
    subst (λ (rs : List Reread). AreRenewed views old rs new before now) (sym same) are
