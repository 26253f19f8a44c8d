-- The checks after the lost questions of a class were handed out.
use Rattle.std.proofs.Common.{◌≡◌, ◌∙◌, ◌==◌, ◌<◌, ℕ, List, [], ◌∷◌, Bool, true, false, if◌then◌else◌, map, Option, None, Some, is_some, refl, ap, sym, arith}
use Rattle.std.proofs.lemmas.Option.{none-some, same_Some}
use Rattle.std.specs.Option.{option_and_then, option_map}
use Rattle.sq_base.specs.declared.helpers.Answer.{Answer}
use Rattle.sq_base.specs.declared.helpers.Cause.{Cause}
use Rattle.sq_base.specs.declared.helpers.What.TheVariants as what
use Rattle.sq_machine.specs.Losses.{Loss}
use Rattle.sq_machine.specs.Events.{is_number}
use Rattle.sq_machine.specs.OpenLookups.{LookupRow, is_open_lookup, key_of}
use Rattle.sq_machine.specs.Rising.{AreAbove, Rises}
use Rattle.sq_class.specs.Parts.{PartState}
use Rattle.sq_model.specs.CheckRows.{Ends, Held, after_ends, no_end, one_end, served, served_by}
use Rattle.sq_class.specs.Losing.{lost_cause}
use Rattle.sq_checks.specs.OpenChecks.{AllFit, CheckParts, IsFit, all_ended, both_ends, ended_by, rows_of}
use Rattle.sq_checks.specs.Stages.{ended_stage, need_in, question_in}
use Rattle.sq_checks.specs.Tables.{value_at}
use Rattle.sq_checks.specs.declared.stages.Need.{Need}
use Rattle.sq_checks.specs.declared.stages.CheckStage.{CheckStage}
use Rattle.sq_checks.specs.declared.stages.CheckStage.TheVariants as stage
use Rattle.sq_checks.proofs.RowLaws.{ends_after, rows_ended}
use Rattle.sq_model.specs.Changes.{end_answer}
use Rattle.sq_epochs.specs.EpochStates.{part_at}
use Rattle.sq_engine.specs.Engines.{IsEngine, asked_of, held_number, waits_at}
use Rattle.sq_engine.specs.EngineViews.{EngineView}
use Rattle.sq_engine.specs.Handing.{AreListed, all_lost}
use Rattle.sq_engine.proofs.TableLaws.{ended_at, number_is, number_self, same_key}

below_apart : (a b : ℕ) → a < b → (a == b) ≡ false
below_apart a b h = grind (arith, h)

-- the answer of a question of class c with this key that was lost by this cause
abbrev pub lost_answer : ℕ → ℕ → ℕ → Option (List ℕ) → Option Cause → Option Answer
lost_answer c now q key None = None
lost_answer c now q key (Some cause) = end_answer c (what.Fault cause) now q key

-- what the lost questions of class c give the checks that wait for them
abbrev pub lost_ends : ℕ → ℕ → List LookupRow → List Loss → Ends
lost_ends c now rows losses q = lost_answer c now q (key_of q rows) (lost_cause q losses)

-- the checks of a list that wait for a lost question need it of class c with its key
abbrev pub IsNeeding : ℕ → List LookupRow → List Loss → CheckStage → Type 0
IsNeeding c rows losses stage.Ready = Unit {0}
IsNeeding c rows losses (stage.Came a) = Unit {0}
IsNeeding c rows losses (stage.Waits n) = is_some (lost_cause n.question losses) ≡ true
    → (n.class ≡ c) × (key_of n.question rows ≡ Some n.key)
IsNeeding c rows losses (stage.Done o) = Unit {0}

abbrev pub AllNeeding : ℕ → List LookupRow → List Loss → List (ℕ × CheckParts) → Type 0
AllNeeding c rows losses [] = Unit {0}
AllNeeding c rows losses (e ∷ es) = IsNeeding c rows losses e.1.stage × AllNeeding c rows losses es

same_then : (f g : Ends) (o : Option ℕ) → ((q : ℕ) → f q ≡ g q) → option_and_then f o ≡ option_and_then g o
same_then f g None same = refl
same_then f g (Some q) same = same q

same_served : (f g : Ends) (h : Held) → ((q : ℕ) → f q ≡ g q) → served f h ≡ served g h
same_served f g h same = ap (λ (a : Option Answer). served_by a h) (same_then f g h.waits same)

-- ends that are the same
pub same_ends : (f g : Ends) (checks : List Held) → ((q : ℕ) → f q ≡ g q) → after_ends f checks ≡ after_ends g checks
same_ends f g [] same = refl
same_ends f g (h ∷ checks) same = ap (λ z. z ∷ after_ends f checks) (same_served f g h same)
    ∙ ap (λ zs. served g h ∷ zs) (same_ends f g checks same)

nothing_then : (o : Option ℕ) → option_and_then no_end o ≡ None
nothing_then None = refl
nothing_then (Some q) = refl

nothing_served : (h : Held) → served no_end h ≡ h
nothing_served h = ap (λ (a : Option Answer). served_by a h) (nothing_then h.waits)

no_ends : (checks : List Held) → after_ends no_end checks ≡ checks
no_ends [] = refl
no_ends (h ∷ checks) = ap (λ z. z ∷ after_ends no_end checks) (nothing_served h) ∙ ap (λ zs. h ∷ zs) (no_ends checks)

-- a lost question comes to the answer that each check is given that needs it
fit_stage : (c now : ℕ) (rows : List LookupRow) (l : Loss) (ls : List Loss) (key : List ℕ) (s : CheckStage)
    → key_of l.question rows ≡ Some key → IsNeeding c rows (l ∷ ls) s
    → IsFit l.question (record {
      class = c;
      key = key;
      what = what.Fault l.cause;
      question = Some l.question;
      date = now;
      taken = now;
    }) (what.Fault l.cause) now s
fit_stage c now rows l ls key stage.Ready found is = tt
fit_stage c now rows l ls key (stage.Came a) found is = tt
fit_stage c now rows l ls key (stage.Waits n) found is = λ same.
    let q_is : n.question ≡ l.question = number_is n.question l.question same in
    let lost : is_some (lost_cause n.question (l ∷ ls)) ≡ true = rw same refl in
    let w = is lost in
    let keys : key ≡ n.key = same_Some _ _ (sym found ∙ ap (λ q. key_of q rows) (sym q_is) ∙ w.1) in
    ap (λ (z : ℕ). record {
      class = z;
      key = key;
      what = what.Fault l.cause;
      question = Some l.question;
      date = now;
      taken = now;
    }) (sym w.0)
    ∙ ap (λ (z : List ℕ). record {
      class = n.class;
      key = z;
      what = what.Fault l.cause;
      question = Some l.question;
      date = now;
      taken = now;
    }) keys
    ∙ ap (λ (z : ℕ). record {
      class = n.class;
      key = n.key;
      what = what.Fault l.cause;
      question = Some z;
      date = now;
      taken = now;
    }) (sym q_is)
fit_stage c now rows l ls key (stage.Done o) found is = tt

all_fit : (c now : ℕ) (rows : List LookupRow) (l : Loss) (ls : List Loss) (key : List ℕ) (es : List (ℕ × CheckParts))
    → key_of l.question rows ≡ Some key → AllNeeding c rows (l ∷ ls) es
    → AllFit l.question (record {
      class = c;
      key = key;
      what = what.Fault l.cause;
      question = Some l.question;
      date = now;
      taken = now;
    }) (what.Fault l.cause) now es
all_fit c now rows l ls key [] found all = tt
all_fit c now rows l ls key (e ∷ es) found all = (
  fit_stage c now rows l ls key e.1.stage found all.0,
  all_fit c now rows l ls key es found all.1,
)

-- after one was handed out, the others are needed as before
need_stage : (c now : ℕ) (rows : List LookupRow) (l : Loss) (ls : List Loss) (s : CheckStage)
    → IsNeeding c rows (l ∷ ls) s → IsNeeding c rows ls (ended_stage l.question (what.Fault l.cause) now s)
need_stage c now rows l ls stage.Ready is = tt
need_stage c now rows l ls (stage.Came a) is = tt
need_stage c now rows l ls (stage.Waits n) is = by (n.question == l.question) refl
  where
    by : (b : Bool) → (n.question == l.question) ≡ b
        → IsNeeding c rows ls (ended_stage l.question (what.Fault l.cause) now (stage.Waits n))
    by true x = rw x tt
    by false x = rw x (λ lost. is (rw x lost))
need_stage c now rows l ls (stage.Done o) is = tt

need_all : (c now : ℕ) (rows : List LookupRow) (l : Loss) (ls : List Loss) (es : List (ℕ × CheckParts))
    → AllNeeding c rows (l ∷ ls) es → AllNeeding c rows ls (all_ended l.question (what.Fault l.cause) now es)
need_all c now rows l ls [] all = tt
need_all c now rows l ls (e ∷ es) all = (need_stage c now rows l ls e.1.stage all.0, need_all c now rows l ls es all.1)

-- one lost question and then the others are all of them
join_ends : (c now : ℕ) (rows : List LookupRow) (l : Loss) (ls : List Loss) (key : List ℕ)
    → key_of l.question rows ≡ Some key → (q : ℕ)
    → both_ends (one_end l.question
    (record { class = c; key = key; what = what.Fault l.cause; question = Some l.question; date = now; taken = now }))
    (lost_ends c now rows ls) q ≡ lost_ends c now rows (l ∷ ls) q
join_ends c now rows l ls key found q = by (q == l.question) refl
  where
    by : (b : Bool) → (q == l.question) ≡ b
        → both_ends (one_end l.question
        (record {
          class = c;
          key = key;
          what = what.Fault l.cause;
          question = Some l.question;
          date = now;
          taken = now;
        })) (lost_ends c now rows ls) q ≡ lost_ends c now rows (l ∷ ls) q
    by true x =
        let at_key : key_of q rows ≡ Some key = ap (λ z. key_of z rows) (number_is q l.question x) ∙ found in
        rw (x, at_key) (ap (λ (z : ℕ). Some
        (record { class = c; key = key; what = what.Fault l.cause; question = Some z; date = now; taken = now }))
        (sym (number_is q l.question x)))
    by false x = rw x refl

-- the rows of the checks after the lost questions of class c, which have these keys, were handed out
pub rows_lost : (c now : ℕ) (rows : List LookupRow) (losses : List Loss) (es : List (ℕ × CheckParts))
    → AllNeeding c rows losses es → ((q : ℕ) → is_some (lost_cause q losses) ≡ true → is_some (key_of q rows) ≡ true)
    → rows_of (all_lost losses now es) ≡ after_ends (lost_ends c now rows losses) (rows_of es)
rows_lost c now rows [] es all keyed = sym (no_ends (rows_of es))
rows_lost c now rows (l ∷ ls) es all keyed =
    with_key (key_of l.question rows) refl (keyed l.question (rw (number_self l.question) refl))
    (rows_lost c now rows ls (all_ended l.question (what.Fault l.cause) now es) (need_all c now rows l ls es all)
    (λ q lost. keyed q (later q lost)))
  where
    later : (q : ℕ) → is_some (lost_cause q ls) ≡ true → is_some (lost_cause q (l ∷ ls)) ≡ true
    later q lost = by (q == l.question) refl
      where
        by : (b : Bool) → (q == l.question) ≡ b → is_some (lost_cause q (l ∷ ls)) ≡ true
        by true x = rw x refl
        by false x = rw x lost

    with_key : (o : Option (List ℕ)) → key_of l.question rows ≡ o → is_some (key_of l.question rows) ≡ true
        → rows_of (all_lost ls now (all_ended l.question (what.Fault l.cause) now es))
        ≡ after_ends (lost_ends c now rows ls) (rows_of (all_ended l.question (what.Fault l.cause) now es))
        → rows_of (all_lost (l ∷ ls) now es) ≡ after_ends (lost_ends c now rows (l ∷ ls)) (rows_of es)
    with_key None is some more = absurd (let e = ap is_some is in cc)
    with_key (Some key) is some more =
        let a : Answer = record {
          class = c;
          key = key;
          what = what.Fault l.cause;
          question = Some l.question;
          date = now;
          taken = now;
        } in
        more ∙ ap (after_ends (lost_ends c now rows ls))
        (rows_ended l.question a (what.Fault l.cause) now es (all_fit c now rows l ls key es is all))
        ∙ ends_after (one_end l.question a) (lost_ends c now rows ls) (rows_of es)
        ∙ same_ends (both_ends (one_end l.question a) (lost_ends c now rows ls)) (lost_ends c now rows (l ∷ ls))
        (rows_of es) (join_ends c now rows l ls key is)

-- a check after lost questions were handed out
abbrev pub lost_by : List Loss → ℕ → CheckParts → CheckParts
lost_by [] now k = k
lost_by (l ∷ ls) now k = lost_by ls now (ended_by l.question (what.Fault l.cause) now k)

map_twice : (f g : CheckParts → CheckParts) (o : Option CheckParts)
    → option_map g (option_map f o) ≡ option_map (λ k. g (f k)) o
map_twice f g None = refl
map_twice f g (Some k) = refl

map_self : (o : Option CheckParts) → option_map (λ k. k) o ≡ o
map_self None = refl
map_self (Some k) = refl

-- what stands at a number after lost questions were handed out
pub lost_at : (losses : List Loss) (now n : ℕ) (es : List (ℕ × CheckParts))
    → value_at (all_lost losses now es) n ≡ option_map (lost_by losses now) (value_at es n)
lost_at [] now n es = sym (map_self (value_at es n))
lost_at (l ∷ ls) now n es =
    lost_at ls now n (all_ended l.question (what.Fault l.cause) now es)
    ∙ ap (option_map (lost_by ls now)) (ended_at l.question (what.Fault l.cause) now n es)
    ∙ map_twice (ended_by l.question (what.Fault l.cause) now) (lost_by ls now) (value_at es n)

-- what is needed, where the question is not lost
abbrev pub still_needs : List Loss → Option Need → Option Need
still_needs losses None = None
still_needs losses (Some n) = if is_some (lost_cause n.question losses) then None else Some n

needs_none : (ls : List Loss) → still_needs ls None ≡ None
needs_none ls = refl

needs_ended : (l : Loss) (ls : List Loss) (now : ℕ) (s : CheckStage)
    → still_needs ls (need_in (ended_stage l.question (what.Fault l.cause) now s)) ≡ still_needs (l ∷ ls) (need_in s)
needs_ended l ls now stage.Ready = refl
needs_ended l ls now (stage.Came a) = refl
needs_ended l ls now (stage.Waits n) = by (n.question == l.question) refl
  where
    by : (b : Bool) → (n.question == l.question) ≡ b
        → still_needs ls (need_in (ended_stage l.question (what.Fault l.cause) now (stage.Waits n)))
        ≡ still_needs (l ∷ ls) (Some n)
    by true x = rw x refl
    by false x = rw x refl
needs_ended l ls now (stage.Done o) = refl

needs_self : (o : Option Need) → still_needs [] o ≡ o
needs_self None = refl
needs_self (Some n) = refl

pub lost_need : (losses : List Loss) (now : ℕ) (k : CheckParts)
    → need_in (lost_by losses now k).stage ≡ still_needs losses (need_in k.stage)
lost_need [] now k = sym (needs_self (need_in k.stage))
lost_need (l ∷ ls) now k = lost_need ls now (ended_by l.question (what.Fault l.cause) now k)
    ∙ needs_ended l ls now k.stage

pub lost_epoch : (losses : List Loss) (now : ℕ) (k : CheckParts) → (lost_by losses now k).epoch ≡ k.epoch
lost_epoch [] now k = refl
lost_epoch (l ∷ ls) now k = lost_epoch ls now (ended_by l.question (what.Fault l.cause) now k)

pub lost_config : (losses : List Loss) (now : ℕ) (k : CheckParts) → (lost_by losses now k).config ≡ k.config
lost_config [] now k = refl
lost_config (l ∷ ls) now k = lost_config ls now (ended_by l.question (what.Fault l.cause) now k)

-- a check that waits needs an open question of the class that has it
none_at : (n : ℕ) (es : List (ℕ × CheckParts)) → AreAbove n (map held_number (rows_of es)) → value_at es n ≡ None
none_at n [] h = refl
none_at n (e ∷ es) h = let other : (n == e.0) ≡ false = below_apart n e.0 h.0 in
    rw (same_key n e.0, other) (none_at n es h.1)

all_needing : (c : ℕ) (rows : List LookupRow) (losses : List Loss) (es : List (ℕ × CheckParts))
    → Rises (map held_number (rows_of es))
    → ((n : ℕ) (k : CheckParts) → value_at es n ≡ Some k → IsNeeding c rows losses k.stage)
    → AllNeeding c rows losses es
all_needing c rows losses [] r h = tt
all_needing c rows losses (e ∷ es) r h = (
  h e.0 e.1 (rw (same_key e.0 e.0, number_self e.0) refl),
  all_needing c rows losses es r.1 (λ n k is. h n k (later n k is)),
)
  where
    later : (n : ℕ) (k : CheckParts) → value_at es n ≡ Some k → value_at (e ∷ es) n ≡ Some k
    later n k is = by (n == e.0) refl
      where
        by : (b : Bool) → (n == e.0) ≡ b → value_at (e ∷ es) n ≡ Some k
        by true x = absurd (none-some k (sym (none_at e.0 es r.0) ∙ ap (value_at es) (sym (number_is n e.0 x)) ∙ is))
        by false x = rw (same_key n e.0, x) is

waits_itself : (k : CheckParts) (x : Need) → need_in k.stage ≡ Some x
    → waits_at k.epoch x.class (Some k) ≡ Some x.question
waits_itself k x needs = rw (number_self k.epoch) (ap (asked_of x.class) needs ∙ (rw (number_self x.class) refl))

-- where a check waits whose question is open in the class
pub record IsThere (v : EngineView) (e c : ℕ) (p : PartState) (k : CheckParts) (x : Need) : Type 0 where
  pub epoch_is : e ≡ k.epoch
  pub class_is : c ≡ x.class
  pub key_is : key_of x.question p.row.lookups ≡ Some x.key

pub waits_there : (v : EngineView) (e c : ℕ) (p : PartState) (n : ℕ) (k : CheckParts) (x : Need) → IsEngine v
    → part_at v.epochs e c ≡ Some p → value_at v.checks n ≡ Some k → need_in k.stage ≡ Some x
    → is_open_lookup x.question p.row.lookups ≡ true → IsThere v e c p k x
waits_there v e c p n k x i part is needs here = by (part_at v.epochs k.epoch x.class) refl
    (i.waiting.there n k x is needs)
  where
    by : (o : Option PartState) → part_at v.epochs k.epoch x.class ≡ o → is_some o ≡ true → IsThere v e c p k x
    by None at h = absurd (cc)
    by (Some r) at h =
        let waits = i.waiting.waits k.epoch x.class r at n ∙ ap (waits_at k.epoch x.class) is
        ∙ waits_itself k x needs in
        let s = i.fed.apart x.question e c k.epoch x.class p r part
        at here (i.fed.waits_open k.epoch x.class n x.question r at waits) in
        record {
          epoch_is = s.0;
          class_is = s.1;
          key_is = i.keyed.keys n k x p is needs
              (ap (λ z. part_at v.epochs z x.class) (sym s.0) ∙ ap (part_at v.epochs e) (sym s.1) ∙ part);
        }

-- so the checks of an engine need lost questions of a class as it has them
pub engine_needing : (v : EngineView) (e c : ℕ) (p : PartState) (losses : List Loss) → IsEngine v
    → part_at v.epochs e c ≡ Some p → Rises (map held_number (rows_of v.checks))
    → ((q : ℕ) → is_some (lost_cause q losses) ≡ true → is_open_lookup q p.row.lookups ≡ true)
    → AllNeeding c p.row.lookups losses v.checks
engine_needing v e c p losses i part r opened = all_needing c p.row.lookups losses v.checks r
    (λ n k is. by n k is k.stage refl)
  where
    by : (n : ℕ) (k : CheckParts) → value_at v.checks n ≡ Some k → (s : CheckStage) → k.stage ≡ s
        → IsNeeding c p.row.lookups losses s
    by n k is stage.Ready e = tt
    by n k is (stage.Came a) e = tt
    by n k is (stage.Waits x) same = λ lost. let t =
        waits_there v e c p n k x i part is (ap need_in same) (opened x.question lost) in (sym t.class_is, t.key_is)
    by n k is (stage.Done o) e = tt

-- and a class lists the checks that wait for its open questions
pub engine_listed : (v : EngineView) (e c : ℕ) (p : PartState) → IsEngine v → part_at v.epochs e c ≡ Some p
    → AreListed p v.checks
engine_listed v e c p i part n q here = ap (is_number q) (i.waiting.waits e c p part n) ∙ by (value_at v.checks n) refl
  where
    none_either : (b : Bool) → is_number q (if b then None else None) ≡ false
    none_either true = refl
    none_either false = refl

    at_stage : (k : CheckParts) → value_at v.checks n ≡ Some k → (s : CheckStage) → k.stage ≡ s
        → is_number q (if e == k.epoch then asked_of c (need_in s) else None) ≡ is_number q (question_in s)
    at_stage k is stage.Ready same = none_either (e == k.epoch)
    at_stage k is (stage.Came a) same = none_either (e == k.epoch)
    at_stage k is (stage.Done o) same = none_either (e == k.epoch)
    at_stage k is (stage.Waits x) same = tests (q == x.question) refl
      where
        other : (a b : Bool) → (q == x.question) ≡ false
            → is_number q (if a then (if b then Some x.question else None) else None) ≡ false
        other true true z = z
        other true false z = refl
        other false b z = refl

        tests : (b : Bool) → (q == x.question) ≡ b
            → is_number q (if e == k.epoch then asked_of c (Some x) else None) ≡ (q == x.question)
        tests true y =
            let t = waits_there v e c p n k x i part is (ap need_in same)
            (ap (λ z. is_open_lookup z p.row.lookups) (sym (number_is q x.question y)) ∙ here) in
            let ee : (e == k.epoch) ≡ true = ap (λ z. e == z) (sym t.epoch_is) ∙ number_self e in
            let ccc : (c == x.class) ≡ true = ap (λ z. c == z) (sym t.class_is) ∙ number_self c in
            rw (ee, ccc) refl
        tests false y = other (e == k.epoch) (c == x.class) y ∙ sym y

    by : (o : Option CheckParts) → value_at v.checks n ≡ o
        → is_number q (waits_at e c o) ≡ is_number q (option_and_then (λ (k : CheckParts). question_in k.stage) o)
    by None is = refl
    by (Some k) is = at_stage k is k.stage refl
