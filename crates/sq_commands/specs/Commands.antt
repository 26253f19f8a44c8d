-- In the statement: docs/STATEMENT.md lists which definitions.
-- The commands, and what each comes to over files: the text that is written before the last line,
-- and the end.
use Rattle.std.specs.Prelude.{◌≡◌, ◌⊎◌, ◌↔◌, ℕ, ◌+◌, ◌≤◌, List, [], ◌∷◌, length, Bool, true, false, Result, Ok, Err, Some, None, IfSome, codes, bytes_eq, if◌then◌else◌}
use Rattle.std.specs.declared.option.Option.{Option}
use Rattle.sq_base.specs.Decimals.{number_of}
use Rattle.sq_base.specs.Texts.{AreBytes}
use Rattle.sq_outside.specs.SourceLines.{SourceLine, lines, total_limit}
use Rattle.sq_outside.specs.Told.{Texts}
use Rattle.sq_machine.specs.declared.entries.Event.TheVariants.{Reconfigure}
use Rattle.sq_rules.specs.Configurations.{Configuration}
use Rattle.sq_rules.specs.ConfText.{conf_result}
use Rattle.sq_rules.specs.declared.kinds.ConfError.{ConfError}
use Rattle.sq_journal.specs.EntryText.{written}
use Rattle.sq_journal.specs.Journals.{journal_text}
use Rattle.sq_replay.specs.Headline.{IsTrue, IsTrueOrNone}
use Rattle.sq_replay.specs.RunText.{ScriptRun, Shelf, configs_of, run_script, stated}
use Rattle.sq_commands.specs.Rehearsals.{configuration_text, rehearsal}
use Rattle.sq_commands.specs.Summaries.{summary_line}
use Rattle.sq_verify.specs.declared.findings.Finding.{Finding}
use Rattle.sq_verify.specs.declared.findings.Finding.TheVariants as finding
use Rattle.sq_verify.specs.declared.versions.Version.TheVariants as version
use Rattle.sq_verify.specs.Audits.{IsAudited}
use Rattle.sq_verify.specs.Judging.{judged}
use Rattle.sq_verify.specs.Migrating.{Reading, read_journal}
use Rattle.sq_verify.specs.Tellable.{AreShort}
use Rattle.sq_verify.specs.FindingText.{finding_text}
use Rattle.sq_commands.specs.declared.ends.Status.{Status}
use Rattle.sq_commands.specs.declared.ends.Status.TheVariants as ends
use Rattle.sq_commands.specs.declared.command.Command as Words
use Rattle.sq_commands.specs.declared.command.Command.TheVariants as words
use Rattle.sq_commands.specs.Ends.{run_status}
use Rattle.sq_commands.specs.ParseText.{parse_text}

-- the files that are there, as the text of each name
abbrev pub Disk : Type 0
Disk = List ℕ → Option (List ℕ)

-- a command with the names of its files, or its number
pub data Command : Type 0 where
  Parse : List ℕ → Command
  Replay : List ℕ → List ℕ → Command
  Verify : List ℕ → List ℕ → Command
  Migrate : List ℕ → Command
  Rehearse : ℕ → Command

-- up to so many requests are rehearsed
abbrev pub rehearse_limit : ℕ
rehearse_limit = 1000000

-- a rehearsal of this number of requests, if it is one
abbrev pub rehearse_of : Option ℕ → Option Command
rehearse_of None = None
rehearse_of (Some count) = Some (Rehearse count)

-- the number is spelled as in scripts
abbrev pub rehearse_command : List ℕ → Option Command
rehearse_command word = rehearse_of (number_of (rehearse_limit + 1) word)

-- the command of a word and a name or a number
abbrev pub single_command : List ℕ → List ℕ → Option Command
single_command word file =
    if bytes_eq word (codes "parse") then Some (Parse file)
    else (if bytes_eq word (codes "migrate") then Some (Migrate file)
    else (if bytes_eq word (codes "rehearse") then rehearse_command file else None))

-- the command of a word and two names
abbrev pub pair_command : List ℕ → List ℕ → List ℕ → Option Command
pair_command word conf file =
    if bytes_eq word (codes "replay") then Some (Replay conf file)
    else (if bytes_eq word (codes "verify") then Some (Verify conf file) else None)

-- the command that the words are, the program's name left out
abbrev pub command_of : List (List ℕ) → Option Command
command_of (word ∷ file ∷ []) = single_command word file
command_of (word ∷ conf ∷ file ∷ []) = pair_command word conf file
command_of words = None

-- a line of a script states a reconfiguration by the file of this name
abbrev pub NamesIn : List SourceLine → List ℕ → Type 0
NamesIn [] name = ⊥
NamesIn (l ∷ ls) name = ((now : ℕ) × (stated l.bytes ≡ Some (now, Reconfigure name)))
    ⊎ NamesIn ls name

-- where the files tell the script, one of its lines does
abbrev pub NamesFile : Texts → List ℕ → List ℕ → Type 0
NamesFile texts script name = IfSome texts
    (λ disk. IfSome (disk script) (λ text. NamesIn (lines text) name))

-- the file is one that the command names, or its script does
abbrev pub IsNamed : Texts → Option Command → List ℕ → Type 0
IsNamed texts None name = ⊥
IsNamed texts (Some (Parse conf)) name = name ≡ conf
IsNamed texts (Some (Replay conf script)) name = (name ≡ conf)
    ⊎ ((name ≡ script) ⊎ NamesFile texts script name)
IsNamed texts (Some (Verify conf journal)) name = (name ≡ conf) ⊎ (name ≡ journal)
IsNamed texts (Some (Migrate journal)) name = name ≡ journal
IsNamed texts (Some (Rehearse count)) name = ⊥

-- what a command writes before its last line, and how it ends
pub record Output : Type 0 where
  pub text : List ℕ
  pub end : Status

-- a command that ends before it writes
abbrev pub silent : Status → Output
silent end = record { text = []; end = end }

-- the text of a run, and its end
abbrev pub ran_output : ScriptRun → Output
ran_output ran = record { text = written ran.history; end = run_status ran.end }

-- one stage after another
abbrev pub staged : {A : Type 0} → Result A Status → (A → Output) → Output
staged (Ok a) go = go a
staged (Err end) go = silent end

-- the configuration that was read, or the status that its first fault ends with
abbrev pub conf_read : Result Configuration ConfError → Result Configuration Status
conf_read (Ok config) = Ok config
conf_read (Err e) = Err (ends.Config e.line e.kind)

-- the configuration of a file that has this text, if it is there
abbrev pub conf_stage : List ℕ → Option (List ℕ) → Result Configuration Status
conf_stage name None = Err (ends.Missing name)
conf_stage name (Some text) = conf_read (conf_result text)

-- the text of the file of a script or a journal, if it is there
abbrev pub script_stage : List ℕ → Option (List ℕ) → Result (List ℕ) Status
script_stage name None = Err (ends.Missing name)
script_stage name (Some text) = Ok text

-- what `parse` comes to, where this is the text of CONF's file, if it is there
abbrev pub parse_over : Option (List ℕ) → List ℕ → Output
parse_over text conf = staged (conf_stage conf text)
    (λ config. record { text = parse_text config; end = ends.Ok })

-- what `parse` writes of the configuration of this name
abbrev pub parse_output : Disk → List ℕ → Output
parse_output disk conf = parse_over (disk conf) conf

-- what `replay` comes to, where these are the texts of the two files, if they are there, and this
-- stands on the shelf for the files that the script names: the configuration is read and judged,
-- then the script is opened and run
abbrev pub replay_over : Shelf → Option (List ℕ) → Option (List ℕ) → List ℕ → List ℕ → Output
replay_over files conf_text script_text conf script =
    staged (conf_stage conf conf_text)
    (λ config. staged (script_stage script script_text)
    (λ text. ran_output (run_script files config (lines text))))

-- what a name has is what it has in each epoch
abbrev pub shelf_of : Disk → Shelf
shelf_of disk e = disk

-- what `replay` writes of these two files
abbrev pub replay_output : Disk → List ℕ → List ℕ → Output
replay_output disk conf script = replay_over (shelf_of disk) (disk conf) (disk script) conf script

-- what was found of a journal, as what a command comes to: before its last line it writes how many
-- entries were verified, and else nothing
abbrev pub found_output : Finding → Output
found_output (finding.Verified count) = record {
  text = finding_text (finding.Verified count);
  end = ends.Ok;
}
found_output (finding.Script line) = silent (ends.Script line)
found_output (finding.Differs line machine journal) = silent (ends.Differs line machine journal)
found_output finding.ReadFault = silent ends.ReadFault
found_output finding.WantOfMemory = silent ends.WantOfMemory

-- what a journal of this text comes to over a configuration
abbrev pub journal_output : Configuration → List ℕ → Output
journal_output config bytes = found_output (judged config (lines bytes)).found

-- what `verify` comes to, where these are the texts of the two files, if they are there: the
-- configuration is read and judged, then the journal is opened and judged
abbrev pub verify_over : Option (List ℕ) → Option (List ℕ) → List ℕ → List ℕ → Output
verify_over conf_text journal_text conf journal =
    staged (conf_stage conf conf_text)
    (λ config. staged (script_stage journal journal_text) (journal_output config))

-- what `verify` writes of these two files
abbrev pub verify_output : Disk → List ℕ → List ℕ → Output
verify_output disk conf journal = verify_over (disk conf) (disk journal) conf journal

-- a migration ends well, or at the line with this number
abbrev pub migrated_end : Bool → ℕ → Status
migrated_end true line = ends.Ok
migrated_end false line = ends.Script line

-- the text of version 2 of the entries before the first line that is none in its place
abbrev pub migrated : Reading → Output
migrated read = record {
  text = journal_text read.history;
  end = migrated_end read.whole (length read.history + 1);
}

-- what `migrate` writes of the bytes of a journal
abbrev pub migrated_output : List ℕ → Output
migrated_output bytes = migrated (read_journal (lines bytes))

-- what `migrate` comes to, where this is the text of the journal, if it is there
abbrev pub migrate_over : Option (List ℕ) → List ℕ → Output
migrate_over text journal = staged (script_stage journal text) migrated_output

-- what `migrate` writes of the file of this name
abbrev pub migrate_output : Disk → List ℕ → Output
migrate_output disk journal = migrate_over (disk journal) journal

-- the line that a rehearsal of so many requests comes to, over the configuration that was read: it
-- asks as many
abbrev pub rehearsed_by : ℕ → Result Configuration Status → Result (List ℕ) Status
rehearsed_by count (Ok config) =
    Ok (summary_line (record (rehearsal config count) { asks = count }))
rehearsed_by count (Err end) = Err end

-- what `rehearse` writes before its last line, over its own configuration
unfoldable pub rehearsed_stage : ℕ → Result (List ℕ) Status
rehearsed_stage count = rehearsed_by count (conf_read (conf_result configuration_text))

-- what `rehearse` comes to, which reads no file
abbrev pub rehearse_output : ℕ → Output
rehearse_output count = staged (rehearsed_stage count)
    (λ line. record { text = line; end = ends.Ok })

-- what a command writes; no command is a usage fault
abbrev pub command_output : Disk → Option Command → Output
command_output disk None = silent ends.Usage
command_output disk (Some (Parse conf)) = parse_output disk conf
command_output disk (Some (Replay conf script)) = replay_output disk conf script
command_output disk (Some (Verify conf journal)) = verify_output disk conf journal
command_output disk (Some (Migrate journal)) = migrate_output disk journal
command_output disk (Some (Rehearse count)) = rehearse_output count

-- what the words come to over these files
abbrev pub output_of : Disk → List (List ℕ) → Output
output_of disk words = command_output disk (command_of words)

-- what is true of the run over a configuration and a script, where these are the texts of the two
-- files, with what stands on the shelf for the files that the script names: nothing was run, or the
-- history is legal, with what is so of every legal history
abbrev pub RunsTrulyOver : Shelf → Option (List ℕ) → Option (List ℕ) → List ℕ → Type 0
RunsTrulyOver files conf_text script_text conf = (config : Configuration) (text : List ℕ)
    → conf_stage conf conf_text ≡ Ok config → script_text ≡ Some text
    → IsTrueOrNone (configs_of files config (lines text))
    (run_script files config (lines text)).history

-- so it is of the files that `replay` names, where they are there
abbrev pub RunsTruly : Disk → List (List ℕ) → Type 0
RunsTruly disk words = (conf script : List ℕ) → command_of words ≡ Some (Replay conf script)
    → (config : Configuration) (text : List ℕ)
    → conf_stage conf (disk conf) ≡ Ok config → disk script ≡ Some text
    → ((run_script (shelf_of disk) config (lines text)).history ≡ [])
    ⊎ IsTrue (configs_of (shelf_of disk) config (lines text))
    (run_script (shelf_of disk) config (lines text)).history

-- The journal of version 1 of this text was migrated whole, and what was written is within the
-- limits of a journal: `verify` ends well of what was written exactly where it ends well of what
-- was read, whatever CONF holds.
abbrev pub MigratesAlike : List ℕ → Type 0
MigratesAlike bytes = AreBytes bytes → (read_journal (lines bytes)).whole ≡ true
    → AreShort version.Two (read_journal (lines bytes)).history
    → length (migrated_output bytes).text ≤ total_limit
    → (conf_text : Option (List ℕ)) (conf journal : List ℕ)
    → ((verify_over conf_text (Some bytes) conf journal).end ≡ ends.Ok)
    ↔ ((verify_over conf_text (Some (migrated_output bytes).text) conf journal).end ≡ ends.Ok)

-- so it is of the file that `migrate` names
abbrev pub MigratesTruly : Disk → List (List ℕ) → Type 0
MigratesTruly disk words = (journal bytes : List ℕ) → command_of words ≡ Some (Migrate journal)
    → disk journal ≡ Some bytes → MigratesAlike bytes

-- the two texts are there, and the journal is, byte for byte, the text of a history over the
-- configuration, with all that is so of every run
pub record AuditedTexts (conf_text journal_text : Option (List ℕ)) : Type 0 where
  pub text : List ℕ
  pub config : Configuration
  pub bytes : List ℕ
  pub count : ℕ
  pub conf_there : conf_text ≡ Some text
  pub conf_reads : conf_result text ≡ Ok config
  pub journal_there : journal_text ≡ Some bytes
  pub audited : IsAudited config bytes count

-- so it is of the files that `verify` names
abbrev pub AuditsFiles : Disk → List (List ℕ) → Type 0
AuditsFiles disk words = (conf journal : List ℕ) → command_of words ≡ Some (Verify conf journal)
    → AuditedTexts (disk conf) (disk journal)

-- the command that the code reads
abbrev pub shown_command : Words.Command → Command
shown_command (words.Parse conf) = Parse conf.now
shown_command (words.Replay conf script) = Replay conf.now script.now
shown_command (words.Verify conf journal) = Verify conf.now journal.now
shown_command (words.Migrate journal) = Migrate journal.now
shown_command (words.Rehearse count) = Rehearse count
