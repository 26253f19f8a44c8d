-- The lost questions of a class, handed out one after the other.
use Rattle.std.proofs.Common.{◌≡◌, ◌∙◌, ◌==◌, ◌||◌, ◌<◌, ℕ, zero, suc, List, [], ◌∷◌, Bool, true, false, not, if◌then◌else◌, filter, length, Option, None, Some, is_some, refl, ap, sym, subst, arith}
use Rattle.std.proofs.lemmas.Option.{same_Some}
use Rattle.std.specs.List.{slice_get}
use Rattle.std.specs.Prelude.{slice_set}
use Rattle.std.specs.Option.{option_and_then, option_map, option_map_or}
use Rattle.sq_base.specs.declared.helpers.Cause.{Cause}
use Rattle.sq_base.specs.declared.helpers.What.{What}
use Rattle.sq_base.specs.declared.helpers.What.TheVariants as what
use Rattle.sq_machine.specs.Events.{is_number}
use Rattle.sq_machine.specs.Losses.{Loss}
use Rattle.sq_machine.specs.OpenLookups.{LookupRow, is_open_lookup, key_of, question_of}
use Rattle.sq_model.specs.ClassRows.{ClassRow}
use Rattle.sq_lookup.specs.Waits.{has_check}
use Rattle.sq_class.specs.Losing.{IsHandedOut, handed_out, lost_cause}
use Rattle.sq_class.specs.Parts.{PartState}
use Rattle.sq_class.specs.declared.lost.Lost.{Lost}
use Rattle.sq_checks.specs.OpenChecks.{CheckParts, all_ended, ended_by, wait_at}
use Rattle.sq_checks.specs.Stages.{ended_stage, question_in}
use Rattle.sq_checks.specs.Tables.{value_at}
use Rattle.sq_checks.specs.declared.stages.CheckStage.{CheckStage}
use Rattle.sq_checks.specs.declared.stages.CheckStage.TheVariants as stage
use Rattle.sq_epochs.specs.EpochChanges.{HasNoLoss, IsHandedOn}
use Rattle.sq_epochs.specs.EpochStates.{EpochState, EpochsState, IsChanged, change_epoch, epoch_in, part_at, part_of, with_part}
use Rattle.sq_epochs.specs.HomeStates.{Home}
use Rattle.sq_engine.specs.Handing.{AreListed, HasHandedOut, all_lost, still_waits}
use Rattle.sq_engine.proofs.PlaceLaws.{part_changed}
use Rattle.sq_engine.proofs.TableLaws.{ended_at, number_is, number_sym}

apart : (a b c : ℕ) → (a == c) ≡ true → (b == c) ≡ false → (a == b) ≡ false
apart a b c x y = grind (arith, x, y)

-- the test of a number, where another was let go
number_cut : (q m : ℕ) (o : Option ℕ) → (q == m) ≡ false
    → is_number q (if is_number m o then None else o) ≡ is_number q o
number_cut q m None e = refl
number_cut q m (Some k) e = by (m == k) refl
  where
    other : (m == k) ≡ true → (q == k) ≡ false
    other x = grind (arith, x, e)

    by : (b : Bool) → (m == k) ≡ b → is_number q (if m == k then None else Some k) ≡ (q == k)
    by true x = rw x (sym (other x))
    by false x = rw x refl

-- what is waited for after one more was lost
still_more : (q : ℕ) (cause : Cause) (ls : List Loss) (o : Option ℕ)
    → still_waits ls (if is_number q o then None else o) ≡ still_waits (record { question = q; cause = cause } ∷ ls) o
still_more q cause ls None = refl
still_more q cause ls (Some m) = by (q == m) refl
  where
    by : (b : Bool) → (q == m) ≡ b
        → still_waits ls (if q == m then None else Some m)
        ≡ still_waits (record { question = q; cause = cause } ∷ ls) (Some m)
    by true x = let y : (m == q) ≡ true = number_sym m q ∙ x in rw (x, y) refl
    by false x = let y : (m == q) ≡ false = number_sym m q ∙ x in rw (x, y) refl

still_none : (o : Option ℕ) → still_waits [] o ≡ o
still_none None = refl
still_none (Some q) = refl

-- a stage waits on for other questions
stage_cut : (m now : ℕ) (w : What) (s : CheckStage)
    → question_in (ended_stage m w now s) ≡ (if is_number m (question_in s) then None else question_in s)
stage_cut m now w stage.Ready = refl
stage_cut m now w (stage.Came a) = refl
stage_cut m now w (stage.Waits n) = by (n.question == m) refl
  where
    by : (b : Bool) → (n.question == m) ≡ b
        → question_in (ended_stage m w now (stage.Waits n)) ≡ (if m == n.question then None else Some n.question)
    by true x = let y : (m == n.question) ≡ true = number_sym m n.question ∙ x in rw (x, y) refl
    by false x = let y : (m == n.question) ≡ false = number_sym m n.question ∙ x in rw (x, y) refl
stage_cut m now w (stage.Done o) = refl

wait_cut : (m now n : ℕ) (w : What) (es : List (ℕ × CheckParts))
    → wait_at n (all_ended m w now es) ≡ (if is_number m (wait_at n es) then None else wait_at n es)
wait_cut m now n w es = ap (option_and_then (λ (c : CheckParts). question_in c.stage)) (ended_at m w now n es)
    ∙ by (value_at es n)
  where
    by : (o : Option CheckParts)
        → option_and_then (λ (c : CheckParts). question_in c.stage) (option_map (ended_by m w now) o)
        ≡ (if is_number m (option_and_then (λ (c : CheckParts). question_in c.stage) o) then None
        else option_and_then (λ (c : CheckParts). question_in c.stage) o)
    by None = refl
    by (Some c) = stage_cut m now w c.stage

-- a lookup that is left was open, and is of another question
pub record WasOpen (q m : ℕ) (rows : List LookupRow) : Type 0 where
  pub opened : is_open_lookup q rows ≡ true
  pub other : (q == m) ≡ false

or_true : (b a : Bool) → a ≡ true → (b || a) ≡ true
or_true true a e = refl
or_true false a e = e

pub open_filter : (q m : ℕ) (rows : List LookupRow)
    → is_open_lookup q (filter (λ (r : LookupRow). not (m == r.question)) rows) ≡ true → WasOpen q m rows
open_filter q m [] h = absurd (cc)
open_filter q m (r ∷ rows) h = by (m == r.question) (q == r.question) refl refl h (λ k. open_filter q m rows k)
  where
    by : (b c : Bool) → (m == r.question) ≡ b → (q == r.question) ≡ c
        → is_open_lookup q (filter (λ (l : LookupRow). not (m == l.question)) (r ∷ rows)) ≡ true
        → (is_open_lookup q (filter (λ (l : LookupRow). not (m == l.question)) rows) ≡ true → WasOpen q m rows)
        → WasOpen q m (r ∷ rows)
    by true c x y h more = let was = more (rw x at h) in
        record { opened = or_true (q == r.question) (is_open_lookup q rows) was.opened; other = was.other }
    by false true x y h more = record { opened = rw y refl; other = apart q m r.question y x }
    by false false x y h more = let was = more (rw (x, y) at h) in
        record { opened = rw y was.opened; other = was.other }

key_open : (q : ℕ) (key : List ℕ) (rows : List LookupRow) → key_of q rows ≡ Some key → is_open_lookup q rows ≡ true
key_open q key [] h = absurd (cc)
key_open q key (r ∷ rows) h = by (q == r.question) refl h (λ k. key_open q key rows k)
  where
    by : (b : Bool) → (q == r.question) ≡ b → key_of q (r ∷ rows) ≡ Some key
        → (key_of q rows ≡ Some key → is_open_lookup q rows ≡ true) → is_open_lookup q (r ∷ rows) ≡ true
    by true x h more = rw x refl
    by false x h more = rw x (more (rw x at h))

-- some lost questions of a class were handed out
pub record IsLed (old new : PartState) : Type 0 where
  pub row : handed_out new.row ≡ handed_out old.row
  pub waits : (n : ℕ) → still_waits new.row.stock.losses (question_of n new.waiting)
      ≡ still_waits old.row.stock.losses (question_of n old.waiting)
  pub limit_is : new.limit ≡ old.limit
  pub still : (q : ℕ) → is_open_lookup q new.row.lookups ≡ true → is_open_lookup q old.row.lookups ≡ true
  pub opened : (q : ℕ) → is_some (lost_cause q old.row.stock.losses) ≡ true
      → is_some (lost_cause q new.row.stock.losses) ≡ false → is_open_lookup q old.row.lookups ≡ true

led_self : (p : PartState) → IsLed p p
led_self p = record { row = refl; waits = λ n. refl; limit_is = refl; still = λ q h. h; opened = λ q h g. absurd (cc) }

led_on : (p r s : PartState) (l : Lost) → IsLed p r → IsHandedOn l r s → IsLed p s
led_on p r s l i h = record {
  row = h.after ∙ i.row;
  waits = λ n. ap (still_waits s.row.stock.losses) (h.out.waiting_are n)
      ∙ still_more l.question l.cause s.row.stock.losses (question_of n r.waiting)
      ∙ ap (λ ls. still_waits ls (question_of n r.waiting)) (sym h.out.first) ∙ i.waits n;
  limit_is = h.out.limit_is ∙ i.limit_is;
  still = λ q e. i.still q
      (open_filter q l.question r.row.lookups
      (sym (ap (λ (z : ClassRow). is_open_lookup q z.lookups) h.out.row_is) ∙ e)).opened;
  opened = λ q lost gone. by q (is_some (lost_cause q r.row.stock.losses)) refl lost gone;
}
  where
    by : (q : ℕ) (b : Bool) → is_some (lost_cause q r.row.stock.losses) ≡ b
        → is_some (lost_cause q p.row.stock.losses) ≡ true → is_some (lost_cause q s.row.stock.losses) ≡ false
        → is_open_lookup q p.row.lookups ≡ true
    by q false e lost gone = i.opened q lost e
    by q true e lost gone = here (q == l.question) refl
      where
        more : is_some (lost_cause q (record { question = l.question; cause = l.cause } ∷ s.row.stock.losses)) ≡ true
        more = sym (ap (λ ls. is_some (lost_cause q ls)) h.out.first) ∙ e

        here : (b : Bool) → (q == l.question) ≡ b → is_open_lookup q p.row.lookups ≡ true
        here true x = i.still q (subst (λ m. is_open_lookup m r.row.lookups ≡ true) (sym (number_is q l.question x))
            (key_open l.question l.key r.row.lookups h.out.listed.key_is))
        here false x = absurd (let e : is_some (lost_cause q s.row.stock.losses) ≡ true = rw x at more in cc)

-- the checks that wait are listed still
listed_on : (r s : PartState) (l : Lost) (now : ℕ) (ds : List (ℕ × CheckParts)) → IsHandedOut l r s → AreListed r ds
    → AreListed s (all_ended l.question (what.Fault l.cause) now ds)
listed_on r s l now ds h a = λ n q e.
    let was = open_filter q l.question r.row.lookups
    (sym (ap (λ (z : ClassRow). is_open_lookup q z.lookups) h.row_is) ∙ e) in
    ap (is_number q) (h.waiting_are n) ∙ number_cut q l.question (question_of n r.waiting) was.other ∙ a n q was.opened
    ∙ sym (ap (is_number q) (wait_cut l.question now n (what.Fault l.cause) ds)
    ∙ number_cut q l.question (wait_at n ds) was.other)

-- a part that is set where it stands
set_same : (xs : List PartState) (c : ℕ) (a : PartState) → slice_get xs c ≡ Some a → slice_set xs c a ≡ xs
set_same [] c a e = refl
set_same (x ∷ xs) zero a e = ap (λ z. z ∷ xs) (sym (same_Some x a e))
set_same (x ∷ xs) (suc c) a e = ap (λ zs. x ∷ zs) (set_same xs c a e)

set_twice : (xs : List PartState) (c : ℕ) (a b : PartState) → slice_set (slice_set xs c a) c b ≡ slice_set xs c b
set_twice [] c a b = refl
set_twice (x ∷ xs) zero a b = refl
set_twice (x ∷ xs) (suc c) a b = ap (λ zs. x ∷ zs) (set_twice xs c a b)

epoch_same : (e c : ℕ) (a : PartState) (xs : List EpochState) → part_of c (epoch_in e xs) ≡ Some a
    → change_epoch e (with_part c a) xs ≡ xs
epoch_same e c a [] h = refl
epoch_same e c a (x ∷ xs) h = by (e == x.epoch) refl h (λ k. epoch_same e c a xs k)
  where
    by : (b : Bool) → (e == x.epoch) ≡ b → part_of c (epoch_in e (x ∷ xs)) ≡ Some a
        → (part_of c (epoch_in e xs) ≡ Some a → change_epoch e (with_part c a) xs ≡ xs)
        → change_epoch e (with_part c a) (x ∷ xs) ≡ x ∷ xs
    by true y h more = rw y (ap (λ (ps : List PartState). record x { parts = ps } ∷ xs)
        (set_same x.parts c a (rw y at h)))
    by false y h more = rw y (ap (λ zs. x ∷ zs) (more (rw y at h)))

epoch_twice : (e c : ℕ) (a b : PartState) (xs : List EpochState)
    → change_epoch e (with_part c b) (change_epoch e (with_part c a) xs) ≡ change_epoch e (with_part c b) xs
epoch_twice e c a b [] = refl
epoch_twice e c a b (x ∷ xs) = by (e == x.epoch) refl (epoch_twice e c a b xs)
  where
    by : (t : Bool) → (e == x.epoch) ≡ t
        → change_epoch e (with_part c b) (change_epoch e (with_part c a) xs) ≡ change_epoch e (with_part c b) xs
        → change_epoch e (with_part c b) (change_epoch e (with_part c a) (x ∷ xs))
        ≡ change_epoch e (with_part c b) (x ∷ xs)
    by true y more = rw y (rw y (ap (λ (ps : List PartState). record x { parts = ps } ∷ xs) (set_twice x.parts c a b)))
    by false y more = rw y (rw y (ap (λ zs. x ∷ zs) more))

-- one part is changed twice
pub changed_twice : (e c : ℕ) (R S T : PartState → PartState → Type 0) (old mid new : EpochsState)
    → ((p r s : PartState) → R p r → S r s → T p s)
    → IsChanged e c R old mid → IsChanged e c S mid new → IsChanged e c T old new
changed_twice e c R S T old mid new join i j =
    let same : j.before ≡ i.after = same_Some j.before i.after (sym j.was ∙ (part_changed e c R old mid i).here) in
    record {
      before = i.before;
      after = j.after;
      was = i.was;
      change = join i.before i.after j.after i.change (subst (λ z. S z j.after) same j.change);
      new_is = j.new_is ∙ ap (λ (z : EpochsState). record z { epochs = change_epoch e (with_part c j.after) z.epochs })
          i.new_is
          ∙ ap (λ xs. record old { epochs = xs }) (epoch_twice e c i.after j.after old.epochs);
    }

-- one part is changed, and then once more
pub changed_then : (e c : ℕ) (R S T : PartState → PartState → Type 0) (old mid new : EpochsState)
    (i : IsChanged e c R old mid) (j : IsChanged e c S mid new) → T i.before j.after → IsChanged e c T old new
changed_then e c R S T old mid new i j change = record {
  before = i.before;
  after = j.after;
  was = i.was;
  change = change;
  new_is = j.new_is ∙ ap (λ (z : EpochsState). record z { epochs = change_epoch e (with_part c j.after) z.epochs })
      i.new_is
      ∙ ap (λ xs. record old { epochs = xs }) (epoch_twice e c i.after j.after old.epochs);
}

-- what was changed first is what is changed then
pub same_between : (e c : ℕ) (R S : PartState → PartState → Type 0) (old mid new : EpochsState)
    (i : IsChanged e c R old mid) (j : IsChanged e c S mid new) → j.before ≡ i.after
same_between e c R S old mid new i j = same_Some j.before i.after (sym j.was ∙ (part_changed e c R old mid i).here)

-- homes and stops beside it are others
abbrev pub changed_beside : (e c : ℕ) (R : PartState → PartState → Type 0) (old new : EpochsState) (homes : List Home)
    (stops : List ℕ) → IsChanged e c R old new
    → IsChanged e c R (record old { homes = homes; stops = stops }) (record new { homes = homes; stops = stops })
changed_beside e c R old new homes stops i = record {
  before = i.before;
  after = i.after;
  was = i.was;
  change = i.change;
  new_is = ap (λ (z : EpochsState). record z { homes = homes; stops = stops }) i.new_is;
}

-- or not at all
pub changed_not : (e c : ℕ) (R : PartState → PartState → Type 0) (v : EpochsState) → is_some (part_at v e c) ≡ true
    → ((p : PartState) → R p p) → IsChanged e c R v v
changed_not e c R v there self = by (part_at v e c) refl there
  where
    by : (o : Option PartState) → part_at v e c ≡ o → is_some o ≡ true → IsChanged e c R v v
    by None is h = absurd (cc)
    by (Some p) is h = record {
      before = p;
      after = p;
      was = is;
      change = self p;
      new_is = ap (λ xs. record v { epochs = xs }) (sym (epoch_same e c p v.epochs is));
    }

-- the part at a place after a change
pub part_after : (e c : ℕ) (R : PartState → PartState → Type 0) (old new : EpochsState) (i : IsChanged e c R old new)
    → part_at new e c ≡ Some i.after
part_after e c R old new i = (part_changed e c R old new i).here

pub there_after : (e c : ℕ) (R : PartState → PartState → Type 0) (old new : EpochsState) → IsChanged e c R old new
    → is_some (part_at new e c) ≡ true
there_after e c R old new i = ap is_some (part_after e c R old new i)

-- how far lost questions were handed out
pub record IsHanding (e c now : ℕ) (old new : EpochsState) (cs ds : List (ℕ × CheckParts)) : Type 0 where
  pub changed : IsChanged e c IsLed old new
  pub checks_are : (p r : PartState) → part_at old e c ≡ Some p → part_at new e c ≡ Some r
      → all_lost r.row.stock.losses now ds ≡ all_lost p.row.stock.losses now cs
  pub listed : (r : PartState) → part_at new e c ≡ Some r → AreListed r ds

-- none yet
pub none_handed : (e c now : ℕ) (v : EpochsState) (cs : List (ℕ × CheckParts)) → is_some (part_at v e c) ≡ true
    → ((p : PartState) → part_at v e c ≡ Some p → AreListed p cs) → IsHanding e c now v v cs cs
none_handed e c now v cs there listed = record {
  changed = changed_not e c IsLed v there led_self;
  checks_are = λ p r at_p at_r. ap (λ (z : PartState). all_lost z.row.stock.losses now cs)
      (same_Some r p (sym at_r ∙ at_p));
  listed = listed;
}

-- those that are handed out next are those that wait
pub lost_listed : (e c now : ℕ) (old mid new : EpochsState) (cs ds : List (ℕ × CheckParts)) (l : Lost)
    → IsHanding e c now old mid cs ds → IsChanged e c (IsHandedOn l) mid new
    → (n : ℕ) → has_check n l.checks ≡ is_number l.question (wait_at n ds)
lost_listed e c now old mid new cs ds l h j = λ n.
    j.change.out.listed.checks_are n
    ∙ h.listed j.before j.was n l.question (key_open l.question l.key j.before.row.lookups j.change.out.listed.key_is)

-- one more
pub handed_on : (e c now : ℕ) (old mid new : EpochsState) (cs ds : List (ℕ × CheckParts)) (l : Lost)
    → IsHanding e c now old mid cs ds → IsChanged e c (IsHandedOn l) mid new
    → IsHanding e c now old new cs (all_ended l.question (what.Fault l.cause) now ds)
handed_on e c now old mid new cs ds l h j =
    let es : List (ℕ × CheckParts) = all_ended l.question (what.Fault l.cause) now ds in
    let here : part_at new e c ≡ Some j.after = part_after e c (IsHandedOn l) mid new j in
    record {
      changed = changed_twice e c IsLed (IsHandedOn l) IsLed old mid new (λ p r s i k. led_on p r s l i k) h.changed j;
      checks_are = λ p s at_p at_s.
          ap (λ (z : PartState). all_lost z.row.stock.losses now es) (same_Some s j.after (sym at_s ∙ here))
          ∙ ap (λ ls. all_lost ls now ds) (sym j.change.out.first) ∙ h.checks_are p j.before at_p j.was;
      listed = λ s at_s.
          subst (λ z. AreListed z es) (sym (same_Some s j.after (sym at_s ∙ here)))
          (listed_on j.before j.after l now ds j.change.out (h.listed j.before j.was));
    }

led_out : (p r s : PartState) → IsLed p r → HasNoLoss r s → HasHandedOut p s
led_out p r s i h = record {
  row_is = ap (λ (z : PartState). z.row) h.same ∙ sym h.done ∙ i.row;
  waits = λ n. ap (λ (z : PartState). question_of n z.waiting) h.same ∙ sym (still_none (question_of n r.waiting))
      ∙ ap (λ ls. still_waits ls (question_of n r.waiting)) (sym h.none) ∙ i.waits n;
  limit_is = ap (λ (z : PartState). z.limit) h.same ∙ i.limit_is;
  opened = λ q lost. i.opened q lost (ap (λ ls. is_some (lost_cause q ls)) h.none);
}

-- all of them
pub all_handed : (e c now : ℕ) (old mid new : EpochsState) (cs ds : List (ℕ × CheckParts))
    → IsHanding e c now old mid cs ds → IsChanged e c HasNoLoss mid new → IsChanged e c HasHandedOut old new
all_handed e c now old mid new cs ds h j = changed_twice e c IsLed HasNoLoss HasHandedOut old mid new led_out
    h.changed j

pub all_faulted : (e c now : ℕ) (old mid new : EpochsState) (cs ds : List (ℕ × CheckParts))
    → IsHanding e c now old mid cs ds → IsChanged e c HasNoLoss mid new
    → (p : PartState) → part_at old e c ≡ Some p → ds ≡ all_lost p.row.stock.losses now cs
all_faulted e c now old mid new cs ds h j = λ p at_p. ap (λ ls. all_lost ls now ds) (sym j.change.none)
    ∙ h.checks_are p j.before at_p j.was

-- how many questions of a class are lost
abbrev pub losses_at : EpochsState → ℕ → ℕ → ℕ
losses_at v e c = option_map_or (λ p. length p.row.stock.losses) (part_at v e c) 0

-- one less is left
pub fewer_lost : (e c : ℕ) (mid new : EpochsState) (l : Lost) → IsChanged e c (IsHandedOn l) mid new
    → losses_at new e c < losses_at mid e c
fewer_lost e c mid new l j =
    let after : losses_at new e c ≡ length j.after.row.stock.losses =
    ap (λ (o : Option PartState). option_map_or (λ p. length p.row.stock.losses) o 0)
    (part_after e c (IsHandedOn l) mid new j) in
    let before : losses_at mid e c ≡ length j.before.row.stock.losses =
    ap (λ (o : Option PartState). option_map_or (λ p. length p.row.stock.losses) o 0) j.was in
    let first : length j.before.row.stock.losses ≡ suc (length j.after.row.stock.losses) =
    ap length j.change.out.first in
    omega arith
