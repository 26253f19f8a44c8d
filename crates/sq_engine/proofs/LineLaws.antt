-- How a line of a process is answered by the state, and what it is.
use Rattle.std.proofs.Common.{◌≡◌, ◌∙◌, ◌==◌, ℕ, zero, suc, List, [], ◌∷◌, Bool, true, false, Option, None, Some, is_some, refl, ap, sym, subst}
use Rattle.std.proofs.lemmas.Option.{none-some, same_Some}
use Rattle.std.specs.List.{slice_get}
use Rattle.std.specs.Option.{option_and_then, option_map, unwrap_or}
use Rattle.sq_base.specs.Replies.{Answer, reply_of}
use Rattle.sq_base.specs.declared.helpers.Reply.{Reply}
use Rattle.sq_channel.specs.Gots.{got_at, got_by, got_in}
use Rattle.sq_channel.specs.declared.replies.Got.{Got}
use Rattle.sq_channel.specs.declared.replies.Got.TheVariants as got
use Rattle.sq_farm.specs.Replies.{got_of}
use Rattle.sq_machine.specs.Channels.{Channels, is_open, slot_of}
use Rattle.sq_machine.specs.DueActs.{ClassId}
use Rattle.sq_machine.specs.Living.{find_proc, lives, slots_by, slots_in}
use Rattle.sq_machine.specs.Next.{gives, refuses}
use Rattle.sq_machine.specs.Transcripts.{LineIs, OnFree, Outside, ReplyTo, line_at, line_by, line_is, line_told}
use Rattle.sq_machine.specs.declared.refusals.Refusal.TheVariants as refusal
use Rattle.sq_class.specs.Parts.{PartState}
use Rattle.sq_epochs.specs.EpochProcs.{AreHomed, is_place, lives_in}
use Rattle.sq_epochs.specs.EpochStates.{home_at, part_at}
use Rattle.sq_model.specs.Answers.{channels_in, line_answer, line_of}
use Rattle.sq_model.specs.States.{State}
use Rattle.sq_engine.specs.EngineViews.{EngineView, state_of}
use Rattle.sq_engine.specs.Lines.{IsRead, got_told}
use Rattle.sq_engine.proofs.TableLaws.{number_self}

slot_open : (slots : List (Option ℕ)) (n q : ℕ) → unwrap_or (slice_get slots n) None ≡ Some q → is_open q slots ≡ true
slot_open [] n q h = absurd (cc)
slot_open (None ∷ slots) zero q h = absurd (cc)
slot_open (Some p ∷ slots) zero q h = let same : p ≡ q = same_Some _ _ h in rw (same, number_self q) refl
slot_open (None ∷ slots) (suc n) q h = slot_open slots n q h
slot_open (Some p ∷ slots) (suc n) q h = by (q == p) refl (slot_open slots n q h)
  where
    by : (b : Bool) → (q == p) ≡ b → is_open q slots ≡ true → is_open q (Some p ∷ slots) ≡ true
    by true x more = rw x refl
    by false x more = rw x more

channel_open : (slots : List (Option ℕ)) (channel : Option ℕ) (q : ℕ) → slot_of slots channel ≡ Some q
    → is_open q slots ≡ true
channel_open slots None q h = slot_open slots 0 q h
channel_open slots (Some n) q h = slot_open slots n q h

at_open : (slots : List (Option ℕ)) (o : Option ℕ) (reply x : Reply) (q : ℕ) → got_at o x ≡ got.Reply q reply
    → o ≡ Some q
at_open slots None reply x q h = absurd (cc)
at_open slots (Some p) reply x q h = cc

by_open : (slots : List (Option ℕ)) (o : Option Answer) (q : ℕ) (reply : Reply) → got_by slots o ≡ got.Reply q reply
    → is_open q slots ≡ true
by_open slots None q reply h = absurd (cc)
by_open slots (Some a) q reply h = channel_open slots a.0 q (at_open slots (slot_of slots a.0) reply a.1 q h)

-- a reply is to a question that is open on the process
got_open : (p : Channels) (line : List ℕ) (q : ℕ) (reply : Reply) → got_in p line ≡ got.Reply q reply
    → is_open q p.slots ≡ true
unfolding got_in
got_open p line q reply h = by_open p.slots (reply_of p.numbered line) q reply h

-- what a line came to, as what it is
abbrev pub as_line : Got → LineIs
as_line (got.Reply q reply) = ReplyTo q reply
as_line got.Bad = Outside
as_line got.Stray = OnFree

is_at : (o : Option ℕ) (reply : Reply) → line_at o reply ≡ as_line (got_at o reply)
is_at None reply = refl
is_at (Some q) reply = refl

is_by : (p : Channels) (o : Option Answer) → line_by p o ≡ as_line (got_by p.slots o)
is_by p None = refl
is_by p (Some a) = is_at (slot_of p.slots a.0) a.1

-- a line is what it came to
pub line_as_line : (p : Channels) (line : List ℕ) → line_is p line ≡ as_line (got_in p line)
unfolding got_in line_is
line_as_line p line = is_by p (reply_of p.numbered line)

-- and is told so
told_is : (g : Got) → line_told (as_line g) ≡ got_told g
told_is (got.Reply q reply) = refl
told_is got.Bad = refl
told_is got.Stray = refl

told_got : (p : Channels) (line : List ℕ) → line_told (line_is p line) ≡ got_told (got_in p line)
told_got p line = ap line_told (line_as_line p line) ∙ told_is (got_in p line)

-- the channels of the process of which a line came to this
pub record HasGot (k : ℕ) (p : PartState) (line : List ℕ) (g : Got) : Type 0 where
  pub channels : Channels
  pub found : find_proc k p.row.stock.procs ≡ Some channels
  pub got_is : got_in channels line ≡ g

pub has_got : (k : ℕ) (p : PartState) (line : List ℕ) (g : Got) → got_of k p.row.stock line ≡ Some g → HasGot k p line g
has_got k p line g h = by (find_proc k p.row.stock.procs) refl
  where
    by : (o : Option Channels) → find_proc k p.row.stock.procs ≡ o → HasGot k p line g
    by None is = absurd (none-some g (sym (ap (option_map (λ c. got_in c line)) is) ∙ h))
    by (Some c) is = record {
      channels = c;
      found = is;
      got_is = same_Some _ _ (sym (ap (option_map (λ z. got_in z line)) is) ∙ h);
    }

-- so its question is open
pub got_opened : (k : ℕ) (p : PartState) (line : List ℕ) (q : ℕ) (reply : Reply)
    → got_of k p.row.stock line ≡ Some (got.Reply q reply) → is_open q (slots_in k p.row.stock.procs) ≡ true
got_opened k p line q reply h =
    let g = has_got k p line (got.Reply q reply) h in
    ap (λ o. is_open q (slots_by o)) g.found ∙ got_open g.channels line q reply g.got_is

-- a process lives in the class that is its home
pub record IsHome (v : EngineView) (e c k : ℕ) : Type 0 where
  pub part : PartState
  pub is : part_at v.epochs e c ≡ Some part
  pub lives_there : lives k part.row.stock.procs ≡ true

pub at_home : (v : EngineView) (e c k : ℕ) → AreHomed v.epochs
    → home_at v.epochs k ≡ Some (record { epoch = e; class = c }) → IsHome v e c k
at_home v e c k homed home = by (part_at v.epochs e c) refl
    (homed e c k ∙ ap (is_place e c) home ∙ rw (number_self e, number_self c) refl)
  where
    by : (o : Option PartState) → part_at v.epochs e c ≡ o → lives_in k o ≡ true → IsHome v e c k
    by None is h = absurd (cc)
    by (Some p) is h = record { part = p; is = is; lives_there = h }

pub home_there : (v : EngineView) (e c k : ℕ) → AreHomed v.epochs
    → home_at v.epochs k ≡ Some (record { epoch = e; class = c }) → is_some (part_at v.epochs e c) ≡ true
home_there v e c k homed home = ap is_some (at_home v e c k homed home).is

pub home_alive : (v : EngineView) (e c k : ℕ) → AreHomed v.epochs
    → home_at v.epochs k ≡ Some (record { epoch = e; class = c }) → (p : PartState) → part_at v.epochs e c ≡ Some p
    → lives k p.row.stock.procs ≡ true
home_alive v e c k homed home p is =
    let h = at_home v e c k homed home in
    subst (λ z. lives k z.row.stock.procs ≡ true) (same_Some h.part p (sym h.is ∙ is)) h.lives_there

-- what is answered to a line of no process, and to one that came to this
pub line_unknown : (s : State) (k : ℕ) (line : List ℕ) → s.home k ≡ None
    → line_answer s k line ≡ refuses (refusal.UnknownProc k)
line_unknown s k line e = rw e refl

-- the channels of a process that lives at its home
home_channels : (v : EngineView) (e c k : ℕ) (p : PartState)
    → home_at v.epochs k ≡ Some (record { epoch = e; class = c }) → part_at v.epochs e c ≡ Some p
    → channels_in (state_of v) k ≡ find_proc k p.row.stock.procs
home_channels v e c k p home is =
    ap (option_and_then (λ (z : ClassId). option_and_then (λ r. find_proc k r.stock.procs)
    ((state_of v).row z.epoch z.class))) home
    ∙ ap (λ o. option_and_then (λ r. find_proc k r.stock.procs) (option_map (λ (z : PartState). z.row) o)) is

pub line_got : (v : EngineView) (e c k : ℕ) (line : List ℕ) (g : Got) (p : PartState)
    → home_at v.epochs k ≡ Some (record { epoch = e; class = c }) → part_at v.epochs e c ≡ Some p
    → got_of k p.row.stock line ≡ Some g → line_answer (state_of v) k line ≡ gives (got_told g)
line_got v e c k line g p home is h =
    let x = has_got k p line g h in
    ap (line_of k line) (home_channels v e c k p home is ∙ x.found)
    ∙ ap gives (told_got x.channels line ∙ ap got_told x.got_is)

-- what is read of the line is what it came to
pub line_read : (v : EngineView) (e c k : ℕ) (line : List ℕ) (g : Got) (p : PartState)
    → home_at v.epochs k ≡ Some (record { epoch = e; class = c }) → part_at v.epochs e c ≡ Some p
    → got_of k p.row.stock line ≡ Some g → IsRead (state_of v) k line g
line_read v e c k line g p home is h = λ d at.
    let x = has_got k p line g h in
    let same : d ≡ x.channels = same_Some _ _ (sym at ∙ home_channels v e c k p home is ∙ x.found) in
    ap (λ z. got_in z line) same ∙ x.got_is
