-- What a step says of a check, by how far the check has come.
use Rattle.std.proofs.Common.{◌≡◌, ◌∙◌, ℕ, List, [], ◌∷◌, true, false, Option, None, Some, IfSome, Result, is_some, refl, ap, sym, subst}
use Rattle.std.proofs.lemmas.Option.{none-some, same_Some}
use Rattle.std.specs.List.{slice_get}
use Rattle.std.specs.Option.{option_and_then, option_map, option_map_or}
use Rattle.sq_machine.specs.declared.entries.Told.{Told}
use Rattle.sq_rules.specs.declared.outcomes.Outcome.{Outcome}
use Rattle.sq_rules.specs.declared.outcomes.Why.TheVariants as why
use Rattle.sq_machine.specs.declared.refusals.Refusal.{Refusal}
use Rattle.sq_machine.specs.declared.refusals.Refusal.TheVariants as refusal
use Rattle.sq_rules.specs.declared.values.Value.TheVariants as value
use Rattle.sq_machine.specs.Checks.{Asked}
use Rattle.sq_rules.specs.Configurations.{Configuration, IsConfiguration}
use Rattle.sq_machine.specs.Next.{Next, refuses}
use Rattle.sq_machine.specs.Machine.{step_next}
use Rattle.sq_machine.specs.StepRule.{class_of_acl, says_done}
use Rattle.sq_rules.specs.Sights.{unversioned_sight}
use Rattle.sq_rules.specs.Verdicts.{verdict_over}
use Rattle.sq_model.specs.CheckRows.{held_at}
use Rattle.sq_model.proofs.ConfigurationLaws.{NeedsClass, needs_class}
use Rattle.sq_checks.specs.OpenChecks.{CheckParts, answers_in, change_at, comes_to, looked, row, rows_of, says_waits, settled, settled_by}
use Rattle.sq_checks.specs.Stages.{came_in, is_settled, need_in, question_in}
use Rattle.sq_checks.specs.Tables.{value_at}
use Rattle.sq_checks.specs.declared.stages.Need.{Need}
use Rattle.sq_checks.specs.declared.stages.CheckStage.{CheckStage}
use Rattle.sq_checks.specs.declared.stages.CheckStage.TheVariants as stage
use Rattle.sq_epochs.specs.EpochStates.{EpochState, class_of, epoch_at, part_at}
use Rattle.sq_model.specs.Changes.{after_step_of}
use Rattle.sq_model.specs.Says.{says_in, says_place_in, says_value_in, value_in}
use Rattle.sq_engine.specs.Engines.{IsEngine}
use Rattle.sq_engine.specs.EngineViews.{EngineView, config_in, state_of}
use Rattle.sq_engine.specs.Stepping.{NeedsAcl, after_step_held, after_step_now, epoch_of, says_now, says_of_wait, step_now, step_of}
use Rattle.sq_engine.specs.Tellings.{IsTold}
use Rattle.sq_engine.proofs.AskingLaws.{part_of_class}
use Rattle.sq_engine.proofs.ResolveLaws.{says_here}
use Rattle.sq_engine.proofs.TableLaws.{changed_at, mapped_if, number_self, row_at_number}

-- an open check, as a row of the state
pub held_is : (v : EngineView) (n : ℕ) (k : CheckParts) → value_at v.checks n ≡ Some k
    → held_at n (rows_of v.checks) ≡ Some (row n k)
held_is v n k is = row_at_number n v.checks ∙ ap (option_map (row n)) is

pub step_unknown : (v : EngineView) (n t : ℕ) → value_at v.checks n ≡ None
    → step_now (state_of v) n t ≡ refuses (refusal.UnknownCheck n)
step_unknown v n t is = ap (step_of (state_of v) n t) (row_at_number n v.checks ∙ ap (option_map (row n)) is)

pub step_found : (v : EngineView) (n t : ℕ) (k : CheckParts) → value_at v.checks n ≡ Some k
    → step_now (state_of v) n t ≡ step_next v.puts (says_now (state_of v) t (row n k))
step_found v n t k is = ap (step_of (state_of v) n t) (held_is v n k is)

pub after_found : (v : EngineView) (n t : ℕ) (k : CheckParts) → value_at v.checks n ≡ Some k
    → after_step_now (state_of v) n t ≡ after_step_of n k.epoch (says_now (state_of v) t (row n k)) t (state_of v)
after_found v n t k is = ap (after_step_held (state_of v) n t) (held_is v n k is)

pub epoch_found : (v : EngineView) (n : ℕ) (k : CheckParts) → value_at v.checks n ≡ Some k
    → epoch_of (state_of v) n ≡ k.epoch
epoch_found v n k is = ap (λ o. option_map_or (λ h. h.asked.epoch) o 0) (held_is v n k is)

pub epoch_missing : (v : EngineView) (n : ℕ) → value_at v.checks n ≡ None → epoch_of (state_of v) n ≡ 0
epoch_missing v n is = ap (λ o. option_map_or (λ h. h.asked.epoch) o 0)
    (row_at_number n v.checks ∙ ap (option_map (row n)) is)

question_by : (s : CheckStage) (o : Option Need) → need_in s ≡ o → question_in s ≡ option_map (λ x. x.question) o
question_by stage.Ready o e = ap (option_map (λ x. x.question)) e
question_by (stage.Came a) o e = ap (option_map (λ x. x.question)) e
question_by (stage.Waits n) o e = ap (option_map (λ x. x.question)) e
question_by (stage.Done r) o e = ap (option_map (λ x. x.question)) e

-- a check that waits waits for the question of what it needs
pub waits_for_need : (k : CheckParts) (x : Need) → need_in k.stage ≡ Some x → question_in k.stage ≡ Some x.question
waits_for_need k x is = question_by k.stage (Some x) is

-- a check that waits waits on
pub says_waiting : (v : EngineView) (n t : ℕ) (k : CheckParts) (x : Need) → need_in k.stage ≡ Some x
    → says_now (state_of v) t (row n k) ≡ says_waits x.question
says_waiting v n t k x is = ap (λ o. says_of_wait o (says_in (state_of v) t (row n k)))
    (question_by k.stage (Some x) is)

-- what a check that waits for nothing comes to
pub value_is : (v : EngineView) (n : ℕ) (k : CheckParts) → IsEngine v → value_at v.checks n ≡ Some k
    → value_in (state_of v) (row n k) ≡ comes_to k
value_is v n k i is = ap (λ o. option_map_or (λ config. verdict_over (row n k).answers config (row n k).asked.sight) o
    (value.Verdict (record { allow = false; why = why.Empty }))) (i.configured n k is)

says_idle : (v : EngineView) (n t : ℕ) (k : CheckParts) → IsEngine v → value_at v.checks n ≡ Some k
    → need_in k.stage ≡ None → says_now (state_of v) t (row n k) ≡ says_value_in (state_of v) t k.epoch (comes_to k)
says_idle v n t k i is none =
    ap (λ o. says_of_wait o (says_in (state_of v) t (row n k))) (question_by k.stage None none)
    ∙ ap (says_value_in (state_of v) t k.epoch) (value_is v n k i is)

pub says_decided : (v : EngineView) (n t : ℕ) (k : CheckParts) (o : Outcome) → IsEngine v → value_at v.checks n ≡ Some k
    → need_in k.stage ≡ None → comes_to k ≡ value.Verdict o
    → says_now (state_of v) t (row n k) ≡ says_done
says_decided v n t k o i is none comes = says_idle v n t k i is none ∙ ap (says_value_in (state_of v) t k.epoch) comes

pub says_asks : (v : EngineView) (n t : ℕ) (k : CheckParts) (acl class : ℕ) (key : List ℕ) → IsEngine v
    → value_at v.checks n ≡ Some k → need_in k.stage ≡ None → comes_to k ≡ value.Need acl key
    → class_of_acl k.config.acls acl ≡ Some class → says_now (state_of v) t (row n k) ≡ says_here v t k.epoch class key
says_asks v n t k acl class key i is none comes of =
    says_idle v n t k i is none ∙ ap (says_value_in (state_of v) t k.epoch) comes
    ∙ ap (λ o. says_place_in (state_of v) t k.epoch key (option_and_then (λ config. class_of_acl config.acls acl) o))
    (i.configured n k is)
    ∙ ap (says_place_in (state_of v) t k.epoch key) of

class_by : (c : ℕ) (config : Configuration) (o : Option EpochState) → config_in o ≡ Some config
    → class_of c o ≡ slice_get config.classes c
class_by c config None e = absurd (none-some config e)
class_by c config (Some x) e = ap (λ z. slice_get z.classes c) (same_Some _ _ e)

-- the part of a class of the configuration of a check
pub part_needed : (v : EngineView) (n c : ℕ) (k : CheckParts) → IsEngine v → value_at v.checks n ≡ Some k
    → is_some (slice_get k.config.classes c) ≡ true → is_some (part_at v.epochs k.epoch c) ≡ true
part_needed v n c k i is there = part_of_class v k.epoch c i
    (ap is_some (class_by c k.config (epoch_at v.epochs k.epoch) (i.configured n k is)) ∙ there)

-- the class that is needed stands in the configuration
pub class_needed : (config : Configuration) (acl c : ℕ) → IsConfiguration config → NeedsAcl config acl
    → class_of_acl config.acls acl ≡ Some c → is_some (slice_get config.classes c) ≡ true
class_needed config acl c i needs of =
    let a : Asked = record { conn = 0; epoch = 1; sight = needs.sight } in
    let k : NeedsClass (config ∷ []) 1 acl =
    needs_class (config ∷ []) a needs.answers acl needs.key (i, tt) needs.needs in
    let same : config ≡ k.config = same_Some _ _ k.config_is_it in
    let place : k.place ≡ c = same_Some _ _ (sym k.place_is ∙ ap (λ z. class_of_acl z.acls acl) (sym same) ∙ of) in
    ap (λ z. is_some (slice_get config.classes z)) (sym place) ∙ ap is_some k.class_is

pub class_is_there : (config : Configuration) (acl : ℕ) → IsConfiguration config → NeedsAcl config acl
    → is_some (class_of_acl config.acls acl) ≡ true
class_is_there config acl i needs =
    let a : Asked = record { conn = 0; epoch = 1; sight = needs.sight } in
    let k : NeedsClass (config ∷ []) 1 acl =
    needs_class (config ∷ []) a needs.answers acl needs.key (i, tt) needs.needs in
    let same : config ≡ k.config = same_Some _ _ k.config_is_it in
    ap is_some (ap (λ z. class_of_acl z.acls acl) same ∙ k.place_is)

-- the same is told of the same answer
pub told_by : {A : Type 0} (f g : A → Told) (m n : Next) (r : Result A Refusal) → f ≡ g → n ≡ m → IsTold f n r
    → IsTold g m r
told_by f g m n r e d t = subst (λ z. IsTold g z r) d (subst (λ z. IsTold z n r) e t)

settled_done : (s : CheckStage) (k : CheckParts) → k.stage ≡ s → is_settled (settled_by k (came_in s)).stage ≡ true
settled_done stage.Ready k e = ap is_settled e
settled_done (stage.Came a) k e = refl
settled_done (stage.Waits n) k e = ap is_settled e
settled_done (stage.Done o) k e = ap is_settled e

settled_none : (s : CheckStage) (k : CheckParts) → k.stage ≡ s → need_in k.stage ≡ None
    → need_in (settled_by k (came_in s)).stage ≡ None
settled_none stage.Ready k e n = n
settled_none (stage.Came a) k e n = refl
settled_none (stage.Waits x) k e n = n
settled_none (stage.Done o) k e n = n

pub if_has : (P : CheckParts → Type 0) (o : Option CheckParts) (k : CheckParts) → o ≡ Some k → P k → IfSome o P
if_has P o k e h = subst (λ z. IfSome z P) (sym e) h

pub value_settled : (es cs : List (ℕ × CheckParts)) (n : ℕ) (k : CheckParts) → value_at es n ≡ Some k
    → cs ≡ change_at n settled es → value_at cs n ≡ Some (settled k)
value_settled es cs n k is list = ap (λ z. value_at z n) list ∙ changed_at n n settled es
    ∙ ap (λ b. mapped_if b settled (value_at es n)) (number_self n) ∙ ap (option_map settled) is

pub there_settled : (es cs : List (ℕ × CheckParts)) (n : ℕ) (k : CheckParts) → value_at es n ≡ Some k
    → cs ≡ change_at n settled es → is_some (value_at cs n) ≡ true
there_settled es cs n k is list = ap is_some (value_settled es cs n k is list)

pub settled_settled : (es cs : List (ℕ × CheckParts)) (n : ℕ) (k : CheckParts) → value_at es n ≡ Some k
    → cs ≡ change_at n settled es → IfSome (value_at cs n) (λ z. is_settled z.stage ≡ true)
settled_settled es cs n k is list = if_has (λ z. is_settled z.stage ≡ true) (value_at cs n) (settled k)
    (value_settled es cs n k is list) (settled_done k.stage k refl)

pub settled_idle : (es cs : List (ℕ × CheckParts)) (n : ℕ) (k : CheckParts) → value_at es n ≡ Some k
    → cs ≡ change_at n settled es → need_in k.stage ≡ None → IfSome (value_at cs n) (λ z. need_in z.stage ≡ None)
settled_idle es cs n k is list none = if_has (λ z. need_in z.stage ≡ None) (value_at cs n) (settled k)
    (value_settled es cs n k is list) (settled_none k.stage k refl none)

-- the same after its looks
value_looked : (es cs : List (ℕ × CheckParts)) (n looks : ℕ) (k : CheckParts) → value_at es n ≡ Some k
    → cs ≡ change_at n (looked looks) es → value_at cs n ≡ Some (looked looks k)
value_looked es cs n looks k is list =
    ap (λ z. value_at z n) list ∙ changed_at n n (looked looks) es
    ∙ ap (λ b. mapped_if b (looked looks) (value_at es n)) (number_self n) ∙ ap (option_map (looked looks)) is

pub there_looked : (es cs ds : List (ℕ × CheckParts)) (n looks : ℕ) (k : CheckParts) → value_at es n ≡ Some k
    → cs ≡ change_at n settled es → ds ≡ change_at n (looked looks) cs
    → is_some (value_at ds n) ≡ true
there_looked es cs ds n looks k is list more = ap is_some
    (value_looked cs ds n looks (settled k) (value_settled es cs n k is list) more)

pub settled_looked : (es cs ds : List (ℕ × CheckParts)) (n looks : ℕ) (k : CheckParts) → value_at es n ≡ Some k
    → cs ≡ change_at n settled es → ds ≡ change_at n (looked looks) cs
    → IfSome (value_at ds n) (λ z. is_settled z.stage ≡ true)
settled_looked es cs ds n looks k is list more =
    if_has (λ z. is_settled z.stage ≡ true) (value_at ds n) (looked looks (settled k))
    (value_looked cs ds n looks (settled k) (value_settled es cs n k is list) more) (settled_done k.stage k refl)

pub idle_looked : (es cs ds : List (ℕ × CheckParts)) (n looks : ℕ) (k : CheckParts) → value_at es n ≡ Some k
    → cs ≡ change_at n settled es → ds ≡ change_at n (looked looks) cs → need_in k.stage ≡ None
    → IfSome (value_at ds n) (λ z. need_in z.stage ≡ None)
idle_looked es cs ds n looks k is list more none =
    if_has (λ z. need_in z.stage ≡ None) (value_at ds n) (looked looks (settled k))
    (value_looked cs ds n looks (settled k) (value_settled es cs n k is list) more) (settled_none k.stage k refl none)

-- the answer of an acl is needed to which a check comes
pub needs_acl : (k : CheckParts) (config : Configuration) (acl : ℕ) (key : List ℕ) → config ≡ k.config
    → comes_to k ≡ value.Need acl key → NeedsAcl config acl
needs_acl k config acl key same comes = subst (λ c. NeedsAcl c acl) (sym same)
    (record { answers = answers_in k; sight = unversioned_sight k.sight; key = key; needs = comes })

pub some_none : {A : Type 0} (o : Option A) → is_some o ≡ true → None ≡ o → ⊥
some_none None a b = cc
some_none (Some x) a b = cc
