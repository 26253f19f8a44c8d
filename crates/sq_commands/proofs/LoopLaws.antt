-- Turn after turn.
use Rattle.std.proofs.Common.{◌≡◌, ℕ, ◌-◌, ◌<◌, suc, List, false, refl, sym, ap, ◌∙◌, arith}
use Rattle.sq_rules.specs.Configurations.{Configuration}
use Rattle.sq_machine.specs.Entries.{History}
use Rattle.sq_replay.specs.Runs.{Is, ScriptView}
use Rattle.sq_commands.specs.declared.drivers.Driver.{Driver}
use Rattle.sq_commands.specs.declared.summaries.Summary.{Summary}
use Rattle.sq_commands.specs.Rehearsals.{drive}
use Rattle.sq_commands.specs.Summaries.{counted}
use Rattle.sq_commands.specs.Turns.{Turned, TurnsTo}

-- what is left of the turns comes to the end of all of them
pub record Going (configs : List Configuration) (h : History) (turns : ℕ) (first : Driver) (v : ScriptView)
    (s : Summary) (d : Driver) (left : ℕ) : Type 0 where
  pub history : History
  pub is : Is v configs history
  pub counts : s ≡ counted history
  pub same : drive configs left d history ≡ drive configs turns first h

pub going_first : (configs : List Configuration) (h : History) (turns : ℕ) (d : Driver) (v : ScriptView) (s : Summary)
    → Is v configs h → s ≡ counted h → Going configs h turns d v s d turns
going_first configs h turns d v s is counts = record { history = h; is = is; counts = counts; same = refl }

pub going_next : (configs : List Configuration) (h : History) (turns : ℕ) (first : Driver) (v w : ScriptView)
    (s t : Summary) (d e : Driver) (left : ℕ) → 0 < left
    → ((g : History) → Is v configs g → s ≡ counted g → TurnsTo configs g d w t e)
    → Going configs h turns first v s d left → Going configs h turns first w t e (left - 1)
going_next configs h turns first v w s t d e left some turn going =
    let r = turn going.history going.is going.counts in
    let more : suc (left - 1) ≡ left = omega (arith, some) in
    record {
      history = r.history;
      is = r.is;
      counts = r.counts;
      same = sym (r.same (left - 1)) ∙ ap (λ (n : ℕ). drive configs n d going.history) more ∙ going.same;
    }

-- nothing comes any more
pub going_over : (configs : List Configuration) (h : History) (turns : ℕ) (first : Driver) (v w : ScriptView)
    (s t : Summary) (d e : Driver) (left : ℕ)
    → ((g : History) → Is v configs g → s ≡ counted g → Turned configs g d w t e false)
    → Going configs h turns first v s d left → t ≡ counted (drive configs turns first h)
going_over configs h turns first v w s t d e left turn going =
    let r = turn going.history going.is going.counts in
    r.0 ∙ ap counted (sym (r.1 left) ∙ going.same)

-- no turn is left
pub going_end : (configs : List Configuration) (h : History) (turns : ℕ) (first : Driver) (v : ScriptView) (s : Summary)
    (d : Driver) (left : ℕ) → left ≡ 0
    → Going configs h turns first v s d left → s ≡ counted (drive configs turns first h)
going_end configs h turns first v s d left none going =
    going.counts ∙ ap counted (sym (ap (λ (n : ℕ). drive configs n d going.history) none) ∙ going.same)
