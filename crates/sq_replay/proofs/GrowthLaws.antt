-- A run only adds to its text.
use Rattle.std.proofs.Common.{◌≡◌, ℕ, List, ◌∷◌, Ok, Err, Result, pos, refl, subst}
use Rattle.sq_outside.specs.Output.{IsPrefix}
use Rattle.sq_outside.specs.SourceLines.{SourceLine}
use Rattle.sq_outside.proofs.Writing.{IsPrefix_front, IsPrefix_refl, IsPrefix_trans}
use Rattle.sq_machine.specs.declared.entries.Event.{Event}
use Rattle.sq_machine.specs.declared.entries.Event.TheVariants.{Act}
use Rattle.sq_rules.specs.Configurations.{Configuration}
use Rattle.sq_machine.specs.Entries.{History, Noted, entry_at}
use Rattle.sq_machine.specs.Readings.{current, latest}
use Rattle.sq_journal.specs.EntryText.{entry_line, written}
use Rattle.sq_replay.specs.declared.ends.RunEnd.{RunEnd}
use Rattle.sq_replay.specs.Dues.{dues}
use Rattle.sq_replay.specs.RunText.{ScriptRun, Shelf, acts, event_step, run_from, run_lines, run_on, begun_history}
use Rattle.sq_replay.specs.Runs.{step_text}
use Rattle.sq_replay.specs.Steps.{IsStep}
use Rattle.sq_replay.proofs.ActLaws.{acts_keep}
use Rattle.sq_replay.proofs.RunLaws.{event_made, lines_keep}

entry_grows : (e : Noted) (h : History) → IsPrefix (written h) (written (e ∷ h))
entry_grows e h = IsPrefix_front (written h) (entry_line e)

-- the acts add to the text
pub acts_grow : (configs : List Configuration) (h : History) → IsPrefix (written h) (written (acts configs h))
acts_grow configs h =
    acts_keep configs (λ (t : History). IsPrefix (written h) (written t))
    (λ t answer next p. IsPrefix_trans (written h) (written t) (written (entry_at (latest t) Act answer ∷ t)) p
    (entry_grows (entry_at (latest t) Act answer) t))
    (dues configs h) h (IsPrefix_refl (written h))

-- a step adds to it
pub step_grows : (files : Shelf) (configs : List Configuration) (h : History) (e : ℕ) (event : Event) (t : History)
    → IsStep files configs h e event t → IsPrefix (written h) (written t)
step_grows files configs h e event t s =
    let x = entry_at s.moment s.entered s.answer in
    subst (λ (u : History). IsPrefix (written h) (written u)) s.history_is
    (IsPrefix_trans (written h) (written (x ∷ h)) (written (acts configs (x ∷ h))) (entry_grows x h)
    (acts_grow configs (x ∷ h)))

-- whether it is made or ends the run
pub event_grows : (files : Shelf) (configs : List Configuration) (h : History) (number now : ℕ) (event : Event)
    → IsPrefix (written h) (step_text h (event_step files configs h number now event))
event_grows files configs h number now event = by (event_step files configs h number now event)
    (λ t e. step_grows files configs h (current h) event t (event_made files configs h number now event t e))
  where
    by : (step : Result History RunEnd) → ((t : History) → step ≡ Ok t → IsPrefix (written h) (written t))
        → IsPrefix (written h) (step_text h step)
    by (Ok t) more = more t refl
    by (Err end) more = IsPrefix_refl (written h)

-- a run adds to the text that it begins with
pub run_grows : (files : Shelf) (configs : List Configuration) (h : History) (number place : ℕ) (ls : List SourceLine)
    → IsPrefix (written h) (written (run_lines files configs h number place ls).history)
run_grows files configs h number place ls =
    lines_keep files configs (λ (rest : List SourceLine) (t : History). IsPrefix (written h) (written t))
    (λ (t : History). IsPrefix (written h) (written t)) (λ rest t p. p)
    (λ l rest t now event u states s p. IsPrefix_trans (written h) (written t) (written u) p
    (step_grows files configs t (current t) event u s)) h number place ls (IsPrefix_refl (written h))

-- what a step comes to begins the text of the run that goes on with it
pub going_grows : (h : History) (step : Result History RunEnd) (go : History → ScriptRun)
    → ((t : History) → IsPrefix (written t) (written (go t).history))
    → IsPrefix (step_text h step) (written (run_on h step go).history)
going_grows h (Ok t) go more = more t
going_grows h (Err end) go more = IsPrefix_refl (written h)

-- the line of `begin` begins the text of a run from its first line on
pub from_grows : (files : Shelf) (configs : List Configuration) (place now : ℕ) (ls : List SourceLine) (event : Event)
    → IsPrefix (written (begun_history configs now (pos 0)))
    (written (run_from files configs place ls now event).history)
from_grows files configs place now ls event =
    let h = begun_history configs now (pos 0) in
    let step = event_step files configs h 1 now event in
    IsPrefix_trans (written h) (step_text h step) (written (run_from files configs place ls now event).history)
    (event_grows files configs h 1 now event)
    (going_grows h step (λ t. run_lines files configs t 2 place ls) (λ t. run_grows files configs t 2 place ls))
