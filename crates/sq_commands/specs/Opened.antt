-- In the statement: docs/STATEMENT.md lists which definitions.
-- The openings of a command, where the files tell them: CONF first, then SCRIPT and what the script
-- names, or JOURNAL, and what comes of their texts.
use Rattle.std.specs.Prelude.{◌≡◌, ℕ, ◌+◌, ◌==◌, List, [], ◌∷◌, length, bytes_eq, if◌then◌else◌, Some, None}
use Rattle.std.specs.declared.option.Option.{Option}
use Rattle.sq_outside.specs.Output.{Grew}
use Rattle.sq_outside.specs.Told.{Opening}
use Rattle.sq_outside.specs.SourceLines.{lines}
use Rattle.sq_rules.specs.Configurations.{Configuration}
use Rattle.sq_replay.specs.declared.ends.RunEnd.{RunEnd}
use Rattle.sq_replay.specs.Openings.{RunOpened}
use Rattle.sq_replay.specs.RunText.{Shelf, run_script}
use Rattle.sq_commands.specs.declared.ends.Status.{Status}
use Rattle.sq_commands.specs.declared.ends.Status.TheVariants as ends
use Rattle.sq_commands.specs.Commands.{AuditedTexts, Command, Parse, Replay, Verify, Migrate, Rehearse, Output, RunsTrulyOver, silent, migrate_over, parse_over, ran_output, rehearse_output, replay_over, script_stage, staged, verify_over}
use Rattle.sq_commands.specs.Ends.{EndsBy, run_status}
use Rattle.sq_commands.specs.Outputs.{Delivers, IsOutput, IsSettled}

-- the file of this name was opened once at most
abbrev pub IsOnce : List ℕ → List Opening → Type 0
IsOnce name [] = Unit {0}
IsOnce name (o ∷ []) = o.name ≡ name
IsOnce name (o ∷ p ∷ more) = ⊥

-- the first opening was of the file of this name
abbrev pub BeginsWith : List ℕ → List Opening → Type 0
BeginsWith name [] = Unit {0}
BeginsWith name (o ∷ []) = o.name ≡ name
BeginsWith name (o ∷ p ∷ more) = BeginsWith name (p ∷ more)

-- the openings behind the first
abbrev pub behind_first : List Opening → List Opening
behind_first [] = []
behind_first (o ∷ []) = []
behind_first (o ∷ p ∷ more) = o ∷ behind_first (p ∷ more)

-- the text that the first opening gave
abbrev pub first_text : List Opening → Option (List ℕ)
first_text [] = None
first_text (o ∷ []) = Some o.text
first_text (o ∷ p ∷ more) = first_text (p ∷ more)

-- the run of a script of this text ended, and with it the command, or since its last lines could
-- not be written; and these are the openings of the run
pub record RanOpened (text : List ℕ) (result : Status) (more : List Opening) : Type 0 where
  pub end : RunEnd
  pub settled : IsSettled (run_status end) result
  pub opens : RunOpened 0 (lines text) end more

-- what was opened behind the script: what its run opened; without a script nothing
abbrev pub NamedOpened : Option (List ℕ) → Status → List Opening → Type 0
NamedOpened None result more = more ≡ []
NamedOpened (Some text) result more = RanOpened text result more

-- the file of the script was opened, if any was, and then what its run opened
abbrev pub ScriptOpened : List ℕ → Status → List Opening → Type 0
ScriptOpened script result more = BeginsWith script more
    × NamedOpened (first_text more) result (behind_first more)

-- what a command opened that ended so
abbrev pub IsOpened : Option Command → Status → List Opening → Type 0
IsOpened None result more = more ≡ []
IsOpened (Some (Parse conf)) result more = IsOnce conf more
IsOpened (Some (Replay conf script)) result more = BeginsWith conf more
    × ScriptOpened script result (behind_first more)
IsOpened (Some (Verify conf journal)) result more = BeginsWith conf more
    × IsOnce journal (behind_first more)
IsOpened (Some (Migrate journal)) result more = IsOnce journal more
IsOpened (Some (Rehearse count)) result more = more ≡ []

-- the shelf on which each of these openings, the newest first, stands in an epoch of its own, from
-- the first epoch on
abbrev pub shelf_over : List Opening → Shelf
shelf_over [] e name = None
shelf_over (o ∷ more) e name = if e == 1
    + length more then (if bytes_eq o.name name then Some o.text else None)
    else shelf_over more e name

-- what a run of a script comes to over the texts of its openings, of which the first is the
-- script's; the numbers are the sink's count
abbrev pub PlayOpened : List ℕ → Configuration → Option (List ℕ) → Option (List ℕ) → ℕ → ℕ → Status
    → List Opening → Type 0
PlayOpened script config old new before now result more =
    ScriptOpened script result more
    × Delivers old new before now
    (staged (script_stage script (first_text more))
    (λ text. ran_output (run_script (shelf_over (behind_first more)) config (lines text)))) result

-- what comes of the text of a journal's opening, which there is once at most; the numbers are the
-- sink's count
abbrev pub JournalOpened : List ℕ → (List ℕ → Output) → Option (List ℕ) → Option (List ℕ) → ℕ → ℕ
    → Status → List Opening → Type 0
JournalOpened journal go old new before now result more = IsOnce journal more
    × Delivers old new before now (staged (script_stage journal (first_text more)) go) result

-- what a command comes to over the texts of its openings
abbrev pub opened_output : Option Command → List Opening → Output
opened_output None more = silent ends.Usage
opened_output (Some (Parse conf)) more = parse_over (first_text more) conf
opened_output (Some (Replay conf script)) more = replay_over
    (shelf_over (behind_first (behind_first more))) (first_text more)
    (first_text (behind_first more)) conf script
opened_output (Some (Verify conf journal)) more = verify_over (first_text more)
    (first_text (behind_first more)) conf journal
opened_output (Some (Migrate journal)) more = migrate_over (first_text more) journal
opened_output (Some (Rehearse count)) more = rehearse_output count

-- what a command says of its openings before its last line: which they are, and what was written
-- and how it ended by their texts
abbrev pub CommandOpened : Option Command → Option (List ℕ) → Option (List ℕ) → ℕ → ℕ → Status
    → List Opening → Type 0
CommandOpened command old new before now result more = IsOpened command result more
    × Delivers old new before now (opened_output command more) result

-- what is true of the run of a script over the texts of these openings
abbrev pub TrueOpened : Option Command → List Opening → Type 0
TrueOpened (Some (Replay conf script)) more = RunsTrulyOver
    (shelf_over (behind_first (behind_first more))) (first_text more)
    (first_text (behind_first more)) conf
TrueOpened command more = Unit {0}

-- the journal that was judged over the texts of these openings is audited
abbrev pub AuditedOpened : Option Command → List Opening → Type 0
AuditedOpened (Some (Verify conf journal)) more = AuditedTexts (first_text more)
    (first_text (behind_first more))
AuditedOpened command more = Unit {0}

-- What came of a command by its openings: which they are; what it wrote, and how it ended, by their
-- texts, or by a fault; what is true of the run of a script; and, where it ended well, of the
-- journal that was judged. The numbers are the sink's count.
pub record CameOf (command : Option Command) (old new : Option (List ℕ)) (before now : ℕ)
    (result : Status) (more : List Opening) : Type 0 where
  pub names : IsOpened command result more
  pub bytes : Grew old new (IsOutput (opened_output command more) before now result)
  pub ended : EndsBy (opened_output command more).end result
  pub truly : TrueOpened command more
  pub audits : result ≡ ends.Ok → AuditedOpened command more
