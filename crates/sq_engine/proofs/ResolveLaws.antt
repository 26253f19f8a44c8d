-- A step that asks a class: what is told, and what is left.
use Rattle.std.proofs.Common.{◌≡◌, ◌∙◌, ◌==◌, ◌&&◌, ◌<◌, ◌≤◌, ℕ, suc, List, [], length, Bool, true, false, if◌then◌else◌, nat_le, nat_lt, Option, None, Some, is_some, refl, ap, sym, subst, arith}
use Rattle.std.proofs.lemmas.Bool.Decides.{nat_tests}
use Rattle.std.specs.List.{slice_get}
use Rattle.std.specs.Option.{option_and_then, option_map, option_map_or}
use Rattle.sq_base.specs.declared.helpers.Cause.TheVariants as cause
use Rattle.sq_rules.specs.Classes.{Class}
use Rattle.sq_machine.specs.Farms.{full}
use Rattle.sq_machine.specs.Machine.{step_next}
use Rattle.sq_machine.specs.KeptLists.{CachedReplies, fresh_for}
use Rattle.sq_machine.specs.Limits.{key_limit, last_number}
use Rattle.sq_machine.specs.Next.{gives, refuses}
use Rattle.sq_machine.specs.Marks.{Put}
use Rattle.sq_machine.specs.OpenLookups.{pending_in}
use Rattle.sq_machine.specs.StepRule.{StepSays, says_asked, says_fault, says_fresh, says_need}
use Rattle.sq_machine.specs.declared.entries.Told.{Told}
use Rattle.sq_machine.specs.declared.entries.Told.TheVariants as told
use Rattle.sq_machine.specs.declared.kept.CachedReply.{CachedReply}
use Rattle.sq_machine.specs.declared.refusals.Refusal.TheVariants as refusal
use Rattle.sq_model.specs.CheckRows.{after_step}
use Rattle.sq_model.specs.StepRows.{says_of_row, stepped_of, told_of}
use Rattle.sq_model.specs.declared.stepping.StepEffect.{StepEffect}
use Rattle.sq_model.specs.ClassChanges.{after_said}
use Rattle.sq_class.specs.Parts.{PartState}
use Rattle.sq_class.specs.Steps.{IsSpent}
use Rattle.sq_checks.proofs.StepLaws as check_steps
use Rattle.sq_checks.specs.OpenChecks.{CheckParts, rows_of, says_of}
use Rattle.sq_epochs.specs.EpochChanges.{IsResolved}
use Rattle.sq_epochs.specs.EpochStates.{EpochState, EpochsState, IsChanged, class_at, class_of, epoch_at, part_at, row_at}
use Rattle.sq_model.specs.Answers.{name_in}
use Rattle.sq_model.specs.Changes.{after_step_of}
use Rattle.sq_model.specs.Says.{class_in, says_class_in, says_place_in}
use Rattle.sq_model.specs.States.{IsSame, State}
use Rattle.sq_engine.specs.EngineViews.{EngineView, config_in, state_of}
use Rattle.sq_engine.specs.Stepping.{stepped_told}
use Rattle.sq_engine.proofs.PlaceLaws.{configs_kept, part_changed}
use Rattle.sq_engine.proofs.StepLaws.{SaysPlace, need_place, said_else, said_here}
use Rattle.sq_engine.proofs.TableLaws.{number_is, number_self}

class_same_of : (c : ℕ) (o : Option EpochState)
    → option_and_then (λ config. slice_get config.classes c) (config_in o) ≡ class_of c o
class_same_of c None = refl
class_same_of c (Some x) = refl

-- the class at a place, by the state and by the live epochs
pub class_same : (v : EngineView) (e c : ℕ) → class_in (state_of v) e c ≡ class_at v.epochs e c
class_same v e c = class_same_of c (epoch_at v.epochs e)

-- what a step says that needs a key of the class at place c of epoch e, by the row that is asked
abbrev pub says_here : EngineView → ℕ → ℕ → ℕ → List ℕ → StepSays
says_here v t e c key = says_place_in (state_of v) t e key (Some c)

pub says_is : (v : EngineView) (t e c : ℕ) (key : List ℕ) (class : Class) (p : PartState)
    → class_at v.epochs e c ≡ Some class → part_at v.epochs e c ≡ Some p
    → says_here v t e c key ≡ says_of_row class e c key t v.puts p.row
says_is v t e c key class p is was =
    ap (λ k. says_class_in (state_of v) t e c key k (row_at v.epochs e c)) (class_same v e c ∙ is)
    ∙ ap (λ o. says_class_in (state_of v) t e c key (Some class) (option_map (λ x. x.row) o)) was

-- the answer of a step is of a class by its name, or a wait
abbrev IsNamed : List ℕ → ℕ → StepSays → Type 0
IsNamed name c s = told_of name (stepped_of c s.answer) ≡ s.answer

if_named : (b : Bool) (name : List ℕ) (c : ℕ) (x y : StepSays) → IsNamed name c x → IsNamed name c y
    → IsNamed name c (if b then x else y)
if_named true name c x y f g = f
if_named false name c x y f g = g

asked_named : (name : List ℕ) (p : Put) (now : ℕ) (o : Option ℕ) (f : Bool) (count c : ℕ)
    → IsNamed name c (says_asked name p now o f count)
asked_named name p now (Some q) f count c = refl
asked_named name p now None true count c = refl
asked_named name p now None false count c = refl

fresh_named : (class : Class) (p : Put) (now : ℕ) (v : Option CachedReply) (o : Option ℕ) (f : Bool) (count c : ℕ)
    → IsNamed class.name c (says_fresh class p now v o f count)
fresh_named class p now (Some v) o f count c = refl
fresh_named class p now None o f count c = asked_named class.name p now o f count c

need_named : (class : Class) (p : Put) (now : ℕ) (kept : CachedReplies) (o : Option ℕ) (f : Bool) (count c : ℕ)
    → IsNamed class.name c (says_need class p now kept o f count)
need_named class p now kept o f count c =
    if_named (nat_lt key_limit (length p.key)) class.name c (says_fault class.name p cause.KeyTooLong now)
    (says_fresh class p now (fresh_for class p.key now kept) o f count)
    refl (fresh_named class p now (fresh_for class p.key now kept) o f count c)

told_named : (s : State) (e c : ℕ) (t : Told)
    → stepped_told s e (stepped_of c t) ≡ told_of (name_in s (record { epoch = e; class = c })) (stepped_of c t)
told_named s e c (told.Waits q) = refl
told_named s e c told.Done = refl
told_named s e c t = refl

fits_gives : (b : Bool) (count : ℕ) (s : StepSays) → is_some s.put ≡ b → (b ≡ true → suc count < last_number)
    → step_next count s ≡ gives s.answer
fits_gives true count s e fits =
    let few : nat_le last_number (suc count) ≡ false = above last_number (suc count) (fits refl) in
    rw (e, few) refl
  where
    above : (a b : ℕ) → b < a → nat_le a b ≡ false
    above a b l = grind (arith, nat_tests, l)
fits_gives false count s e fits = rw e refl

-- what is told of a step that asked a class
pub told_resolved : (v : EngineView) (t e c n : ℕ) (key : List ℕ) (class : Class) (said : StepEffect)
    (new : EpochsState) → class_at v.epochs e c ≡ Some class
    → IsChanged e c (IsResolved class c key (record { now = t; check = n; count = v.puts }) said) v.epochs new
    → step_next v.puts (says_here v t e c key) ≡ gives (stepped_told (state_of v) e said.stepped)
told_resolved v t e c n key class said new is ch =
    let s = says_of_row class e c key t v.puts ch.before.row in
    let r = says_is v t e c key class ch.before is ch.was in
    let k = ch.change e in
    let named = need_named class (record { epoch = e; class = c; key = key }) t ch.before.row.kept
    (pending_in key ch.before.row.lookups) (full ch.before.row.stock) v.puts c in
    let name : name_in (state_of v) (record { epoch = e; class = c }) ≡ class.name =
    ap (λ o. named_by o) (class_same v e c ∙ is) in
    ap (step_next v.puts) r ∙ fits_gives (is_some s.put) v.puts s refl k.fits
    ∙ ap gives (sym (ap (stepped_told (state_of v) e) (ap (λ z. z.stepped) k.said_is)
    ∙ told_named (state_of v) e c s.answer ∙ ap (λ z. told_of z (stepped_of c s.answer)) name ∙ named))
  where
    named_by : Option Class → List ℕ
    named_by o = option_map_or (λ x. x.name) o []

spent_refuses : (count : ℕ) (s : StepSays) → IsSpent count s → step_next count s ≡ refuses (refusal.Spent (suc count))
spent_refuses count s k =
    let many : nat_le last_number (suc count) ≡ true = reached last_number (suc count) k.1 in
    rw (k.0, many) refl
  where
    reached : (a b : ℕ) → a ≤ b → nat_le a b ≡ true
    reached a b l = grind (arith, nat_tests, l)

-- and of one for whose question no number is left
pub told_spent : (v : EngineView) (t e c : ℕ) (key : List ℕ) (class : Class) (p : PartState)
    → class_at v.epochs e c ≡ Some class → part_at v.epochs e c ≡ Some p
    → IsSpent v.puts (says_of_row class e c key t v.puts p.row)
    → step_next v.puts (says_here v t e c key) ≡ refuses (refusal.Spent (suc v.puts))
told_spent v t e c key class p is was spent = ap (step_next v.puts) (says_is v t e c key class p is was)
    ∙ spent_refuses v.puts (says_of_row class e c key t v.puts p.row) spent

both : (a b : Bool) → (a && b) ≡ true → (a ≡ true) × (b ≡ true)
both true b h = (refl, h)
both false b h = absurd (cc)

map_else : (e c f d count : ℕ) (s : StepSays) (o : Option PartState) → (e == f && c == d) ≡ false → SaysPlace e c s
    → option_map (λ p. p.row) o ≡ option_map (after_said (e == f) f d count s) (option_map (λ p. p.row) o)
map_else e c f d count s None apart is = refl
map_else e c f d count s (Some p) apart is = ap Some (sym (said_else e c f d count s p.row apart is))

-- what a step that asked a class leaves of the classes
pub rows_resolved : (v : EngineView) (t e c n : ℕ) (key : List ℕ) (class : Class) (said : StepEffect)
    (new : EpochsState)
    → (ch : IsChanged e c (IsResolved class c key (record { now = t; check = n; count = v.puts }) said) v.epochs new)
    → (f d : ℕ) → row_at new f d
    ≡ option_map (after_said (e == f) f d v.puts (says_of_row class e c key t v.puts ch.before.row))
    (row_at v.epochs f d)
rows_resolved v t e c n key class said new ch f d = by (e == f && c == d) refl
  where
    by : (b : Bool) → (e == f && c == d) ≡ b
        → row_at new f d ≡ option_map
        (after_said (e == f) f d v.puts (says_of_row class e c key t v.puts ch.before.row)) (row_at v.epochs f d)
    by true x =
        let s = says_of_row class e c key t v.puts ch.before.row in
        let k =
        part_changed e c (IsResolved class c key (record { now = t; check = n; count = v.puts }) said)
        v.epochs new ch in
        let place = need_place class (record { epoch = e; class = c; key = key }) t ch.before.row.kept
        (pending_in key ch.before.row.lookups) (full ch.before.row.stock) v.puts in
        let here : row_at new e c ≡ option_map (after_said (e == e) e c v.puts s) (row_at v.epochs e c) =
        ap (option_map (λ p. p.row)) k.here
        ∙ ap Some ((ch.change e).row_is ∙ sym (said_here e c v.puts s ch.before.row place))
        ∙ sym (ap (λ b. option_map (after_said b e c v.puts s) (row_at v.epochs e c)) (number_self e)
        ∙ ap (λ o. option_map (after_said true e c v.puts s) (option_map (λ p. p.row) o)) ch.was) in
        let two = both (e == f) (c == d) x in
        subst (λ g. row_at new g d ≡ option_map (after_said (e == g) g d v.puts s) (row_at v.epochs g d))
        (number_is e f two.0)
        (subst (λ i. row_at new e i ≡ option_map (after_said (e == e) e i v.puts s) (row_at v.epochs e i))
        (number_is c d two.1) here)
    by false x =
        let s = says_of_row class e c key t v.puts ch.before.row in
        let k =
        part_changed e c (IsResolved class c key (record { now = t; check = n; count = v.puts }) said)
        v.epochs new ch in
        let place = need_place class (record { epoch = e; class = c; key = key }) t ch.before.row.kept
        (pending_in key ch.before.row.lookups) (full ch.before.row.stock) v.puts in
        ap (option_map (λ p. p.row)) (k.other f d x) ∙ map_else e c f d v.puts s (part_at v.epochs f d) x place

-- what such a step leaves
pub same_resolved : (v : EngineView) (t e c n : ℕ) (key : List ℕ) (class : Class) (said : StepEffect)
    (new : EpochsState) (cs : List (ℕ × CheckParts)) (puts : ℕ) → class_at v.epochs e c ≡ Some class
    → IsChanged e c (IsResolved class c key (record { now = t; check = n; count = v.puts }) said) v.epochs new
    → rows_of cs ≡ after_step n (says_of said) (rows_of v.checks) → puts ≡ (if said.put then suc v.puts else v.puts)
    → IsSame (state_of (record v { checks = cs; puts = puts; epochs = new; latest = t }))
    (after_step_of n e (says_here v t e c key) t (state_of v))
same_resolved v t e c n key class said new cs puts is ch rows put =
    let s = says_of_row class e c key t v.puts ch.before.row in
    let k =
    part_changed e c (IsResolved class c key (record { now = t; check = n; count = v.puts }) said) v.epochs new ch in
    let said_is = (ch.change e).said_is in
    subst (λ z. IsSame (state_of (record v { checks = cs; puts = puts; epochs = new; latest = t }))
    (after_step_of n e z t (state_of v))) (sym (says_is v t e c key class ch.before is ch.was)) record {
      clients_are = λ d. refl;
      conns_are = refl;
      from_are = λ a. refl;
      checks_are = rows ∙ ap (λ z. after_step n (says_of z) (rows_of v.checks)) said_is
          ∙ check_steps.after_said c n s (rows_of v.checks);
      asks_are = refl;
      puts_are = put ∙ ap (λ z. if z.put then suc v.puts else v.puts) said_is;
      current_is = k.current_is;
      configs_are = λ f. configs_kept e c ch.before ch.after v.epochs new k f;
      rows_are = λ f d. rows_resolved v t e c n key class said new ch f d;
      procs_are = k.procs_are;
      homes_are = k.homes_are;
      stops_are = k.stops_are;
      latest_is = refl;
      offset_is = refl;
    }
