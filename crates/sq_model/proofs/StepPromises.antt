-- What is promised of a step.
use Rattle.std.proofs.Common.{◌≡◌, ℕ, suc, ◌≤◌, List, ◌∷◌, Bool, true, false, ◌&&◌, nat_le, Some, None, is_some, refl, sym, ap, subst, ◌∙◌}
use Rattle.sq_machine.specs.declared.entries.Event.TheVariants.{Step}
use Rattle.sq_machine.specs.declared.entries.Told.{Told}
use Rattle.sq_machine.specs.declared.entries.Told.TheVariants as told
use Rattle.sq_machine.specs.declared.refusals.Refusal.{Refusal}
use Rattle.sq_machine.specs.declared.refusals.Refusal.TheVariants as refusal
use Rattle.sq_rules.specs.Configurations.{Configuration}
use Rattle.sq_machine.specs.Entries.{History, entry_at}
use Rattle.sq_machine.specs.Machine.{next, step_next}
use Rattle.sq_machine.specs.Limits.{last_number}
use Rattle.sq_machine.specs.Next.{gives, refuse_if}
use Rattle.sq_machine.specs.Marking.{marked}
use Rattle.sq_machine.specs.Readings.{latest}
use Rattle.sq_machine.specs.StepRule.{StepSays}
use Rattle.sq_model.specs.CheckRows.{Held, held_at}
use Rattle.sq_model.proofs.ConfigurationLaws.{names_once}
use Rattle.sq_model.proofs.WaitLaws.{waiting_says}
use Rattle.sq_model.specs.Answers.{step_answer, step_of_held}
use Rattle.sq_model.specs.Changes.{after_step_of}
use Rattle.sq_model.specs.Promises.{IsAnswered, StandsFor}
use Rattle.sq_model.specs.Says.{says_in}
use Rattle.sq_model.specs.States.{Stands, State}
use Rattle.sq_model.proofs.PromiseLaws.{answered_so, law_of, next_now}
use Rattle.sq_model.proofs.StepStands.{found_held, says_is, step_marked, step_next_is}

-- what is answered to a step
pub step_told : (configs : List Configuration) (h : History) (s : State) (now n : ℕ) → StandsFor configs h s
    → latest h ≤ now
    → next configs (marked configs h) now (Step n) ≡ step_answer s n now
step_told configs h s now n st late = next_now configs h now (Step n) late
    ∙ step_next_is configs (marked configs h) s now n (law_of configs h s st) st.stands

-- a step of a check that waits says to wait for the same question, puts nothing and takes nothing
pub step_waiting : (configs : List Configuration) (h : History) (s : State) (now n q : ℕ) (k : Held)
    → StandsFor configs h s → latest h ≤ now → held_at n s.checks ≡ Some k → k.waits ≡ Some q
    → says_in s now k ≡ record { answer = told.Waits q; put = None; took = None }
step_waiting configs h s now n q k st late found waits =
    let f = found_held configs (marked configs h) s n k st.stands found in
    ap (says_in s now) f.is ∙ says_is configs (marked configs h) s now n (law_of configs h s st) st.stands f.opened
    ∙ waiting_says configs h n q now (names_once configs st.good) st.legal late
    (sym (ap (λ (z : Held). z.waits) f.is) ∙ waits)

gives_same : (b : Bool) (r : Refusal) (t answer : Told) → refuse_if b r (gives t) ≡ gives answer → t ≡ answer
gives_same true r t answer e = absurd (cc)
gives_same false r t answer e = cc

-- a step of an open check that is answered by what it says
pub step_answered : (configs : List Configuration) (h : History) (s : State) (now n : ℕ) (k : Held) (answer : Told)
    → StandsFor configs h s → latest h ≤ now → held_at n s.checks ≡ Some k
    → step_next s.puts (says_in s now k) ≡ gives answer
    → IsAnswered configs h now (Step n) answer (after_step_of n k.asked.epoch (says_in s now k) now s)
step_answered configs h s now n k answer st late found is =
    let law = law_of configs h s st in
    let says : StepSays = says_in s now k in
    let same : says.answer ≡ answer =
    gives_same (is_some says.put && nat_le last_number (suc s.puts)) (refusal.Spent (suc s.puts)) says.answer answer
    is in
    answered_so configs h s _ now (Step n) answer st refl refl tt late
    (step_next_is configs (marked configs h) s now n law st.stands ∙ ap (step_of_held s n now) found ∙ is)
    (subst (λ (t : Told). Stands configs (marked configs (entry_at now (Step n) t ∷ h))
    (after_step_of n k.asked.epoch (says_in s now k) now s)) same
    (step_marked configs (marked configs h) s now n k law st.stands found))

-- so is one of a check that waits: it waits on
pub step_waits_on : (configs : List Configuration) (h : History) (s : State) (now n q : ℕ) (k : Held)
    → StandsFor configs h s → latest h ≤ now → held_at n s.checks ≡ Some k → k.waits ≡ Some q
    → IsAnswered configs h now (Step n) (told.Waits q)
    (after_step_of n k.asked.epoch (record { answer = told.Waits q; put = None; took = None }) now s)
step_waits_on configs h s now n q k st late found waits =
    let is = step_waiting configs h s now n q k st late found waits in
    subst (λ (v : StepSays). IsAnswered configs h now (Step n) (told.Waits q)
    (after_step_of n k.asked.epoch v now s)) is
    (step_answered configs h s now n k (told.Waits q) st late found (ap (step_next s.puts) is))
