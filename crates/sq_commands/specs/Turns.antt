-- What a turn of the code comes to, over every history that the machine stands for.
use Rattle.std.specs.Prelude.{◌≡◌, ℕ, suc, List, Bool, true, false}
use Rattle.sq_rules.specs.Configurations.{Configuration}
use Rattle.sq_machine.specs.Entries.{History}
use Rattle.sq_replay.specs.Runs.{Is, ScriptView}
use Rattle.sq_commands.specs.declared.drivers.Driver.{Driver}
use Rattle.sq_commands.specs.declared.summaries.Summary.{Summary}
use Rattle.sq_commands.specs.Rehearsals.{drive}
use Rattle.sq_commands.specs.Summaries.{counted}

-- the machine came to a history from which the driver goes on to the same end, and what that
-- history came to was counted
pub record TurnsTo (configs : List Configuration) (before : History) (driver : Driver)
    (view : ScriptView) (summary : Summary) (later : Driver) : Type 0 where
  pub history : History
  pub is : Is view configs history
  pub counts : summary ≡ counted history
  pub same : (k : ℕ) → drive configs (suc k) driver before ≡ drive configs k later history

-- or nothing comes after the history
abbrev pub Turned : List Configuration → History → Driver → ScriptView → Summary → Driver → Bool
    → Type 0
Turned configs before driver view summary later true =
    TurnsTo configs before driver view summary later
Turned configs before driver view summary later false = (summary ≡ counted before)
    × ((k : ℕ) → drive configs k driver before ≡ before)
