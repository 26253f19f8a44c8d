-- Outcomes that are told.
use Rattle.std.proofs.Common.{◌≡◌, ◌∙◌, ◌+◌, ℕ, List, [], ◌∷◌, Bool, true, false, not, Option, None, Some, refl, ap}
use Rattle.std.specs.Option.{option_map_or}
use Rattle.sq_machine.specs.declared.entries.Told.TheVariants as told
use Rattle.sq_rules.specs.declared.configs.Acl.{Acl}
use Rattle.sq_rules.specs.declared.configs.Rule.{Rule}
use Rattle.sq_rules.specs.declared.outcomes.Outcome.{Outcome}
use Rattle.sq_rules.specs.declared.outcomes.Why.TheVariants as why
use Rattle.sq_machine.specs.declared.refusals.Refusal.TheVariants as refusal
use Rattle.sq_rules.specs.declared.values.TermValue.{TermValue}
use Rattle.sq_rules.specs.declared.values.TermValue.TheVariants as term
use Rattle.sq_rules.specs.declared.values.Value.{Value}
use Rattle.sq_rules.specs.declared.values.Value.TheVariants as value
use Rattle.sq_rules.specs.Configurations.{Configuration}
use Rattle.sq_machine.specs.Entries.{is_outcome}
use Rattle.sq_machine.specs.Next.{gives, refuse_if}
use Rattle.sq_rules.specs.Values.{rule_value, taken_at}
use Rattle.sq_rules.specs.Verdicts.{decided, default_of, outcome_so_far, rules_from, verdict_over}
use Rattle.sq_model.specs.CheckRows.{Held, held_at}
use Rattle.sq_model.specs.Answers.{take_answer, take_of_held}
use Rattle.sq_model.specs.Says.{outcome_in}
use Rattle.sq_model.specs.States.{State}

outcome_default : (rules : List Rule) → is_outcome (default_of rules) ≡ true
outcome_default [] = refl
outcome_default (r ∷ []) = refl
outcome_default (r ∷ q ∷ rules) = outcome_default (q ∷ rules)

outcome_from : (taken : ℕ → TermValue) (acls : List Acl) (default : Outcome) (number : ℕ) (rules : List Rule)
    → is_outcome default ≡ true
    → is_outcome (outcome_so_far (rules_from taken acls default number rules)) ≡ true
outcome_from taken acls default number [] e = e
outcome_from taken acls default number (r ∷ rules) e = by (rule_value taken acls r)
    (rules_from taken acls default (number + 1) rules) (outcome_from taken acls default (number + 1) rules e)
  where
    by : (t : TermValue) (rest : Value) → is_outcome (outcome_so_far rest) ≡ true
        → is_outcome (outcome_so_far (decided acls number r t rest)) ≡ true
    by term.Hit rest more = refl
    by term.Miss rest more = more
    by (term.Fault acl cause) rest more = refl
    by (term.Need acl key) rest more = refl

outcome_fits : (s : State) (h : Held) → is_outcome (outcome_in s h) ≡ true
outcome_fits s h = by (s.config h.asked.epoch)
  where
    by : (o : Option Configuration)
        → is_outcome (outcome_so_far
        (option_map_or (λ config. verdict_over h.answers config h.asked.sight) o
        (value.Verdict (record { allow = false; why = why.Empty })))) ≡ true
    by None = refl
    by (Some c) = outcome_from (taken_at c h.asked.sight h.answers) c.acls (default_of c.rules) 1 c.rules
        (outcome_default c.rules)

-- an outcome that is told is one
pub told_outcome : (s : State) (n e : ℕ) (o : Outcome) → take_answer s n ≡ gives (told.Judged e o) → is_outcome o ≡ true
told_outcome s n e o is = by (held_at n s.checks) is
  where
    judged : (h : Held) (b : Bool)
        → refuse_if b (refusal.NotDone n) (gives (told.Judged h.asked.epoch (outcome_in s h))) ≡ gives (told.Judged e o)
        → is_outcome o ≡ true
    judged h true is = absurd (cc)
    judged h false is = ap is_outcome (let same : o ≡ outcome_in s h = cc in same) ∙ outcome_fits s h

    by : (x : Option Held) → take_of_held s n x ≡ gives (told.Judged e o) → is_outcome o ≡ true
    by None is = absurd (cc)
    by (Some h) is = judged h (not h.done) is
