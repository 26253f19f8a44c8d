-- In the statement: docs/STATEMENT.md lists which definitions.
-- How a command ends: its last line and its exit status, the causes of faults, and the ends that a
-- command and each part of it may have.
use Rattle.std.specs.Prelude.{◌≡◌, ◌⊎◌, ℕ, ◌≤◌, List, [], ◌∷◌, ◌++◌, Bool, true, false, codes, decimal, Result}
use Rattle.sq_verify.specs.declared.migrating.MigrateFault.{MigrateFault}
use Rattle.sq_verify.specs.declared.migrating.MigrateFault.TheVariants as migrating
use Rattle.std.specs.declared.result.Result.TheVariants as result
use Rattle.sq_base.specs.Escapes.{text_word}
use Rattle.sq_outside.specs.Causes.{Rose}
use Rattle.sq_outside.specs.Told.{Texts, IsNotTold}
use Rattle.sq_rules.specs.Kinds.{kind_number}
use Rattle.sq_replay.specs.declared.ends.RunEnd.{RunEnd}
use Rattle.sq_replay.specs.declared.ends.RunEnd.TheVariants as ended
use Rattle.sq_replay.specs.Ends.{End, Done, Refused, Faulted, Fault, Reading, Writing, Lacking}
use Rattle.sq_verify.specs.declared.findings.Finding.{Finding}
use Rattle.sq_verify.specs.declared.findings.Finding.TheVariants as finding
use Rattle.sq_verify.specs.FindingText.{differs_text}
use Rattle.sq_commands.specs.declared.ends.Status.{Status}
use Rattle.sq_commands.specs.declared.ends.Status.TheVariants.{Ok, Usage, Config, Script, ReadFault, WriteFault, Differs, JournalFault, Net, Missing, WantOfMemory}

-- the usage line of the program
abbrev pub usage_line : List ℕ
usage_line = codes
    "usage: aclproxy parse CONF | replay CONF SCRIPT | verify CONF JOURNAL | migrate JOURNAL | rehearse N | serve CONF [--port P] [--workers W] [--utc-offset M]"
    ++ 10 ∷ []

-- the line of a configuration's fault
abbrev pub config_line : ℕ → ℕ → List ℕ
config_line line kind = codes "error config " ++ decimal line ++ (32 ∷ (decimal kind ++ 10 ∷ []))

-- the last line of a command that ends so
abbrev pub last_line : Status → List ℕ
last_line Ok = []
last_line Usage = usage_line
last_line (Config line kind) = config_line line (kind_number kind)
last_line (Script line) = codes "error script " ++ decimal line ++ 10 ∷ []
last_line ReadFault = codes "error read" ++ 10 ∷ []
last_line WriteFault = []
last_line JournalFault = codes "error journal" ++ 10 ∷ []
last_line Net = codes "error net" ++ 10 ∷ []
last_line (Differs line machine journal) = differs_text line machine journal
last_line (Missing name) = codes "error missing " ++ text_word name ++ 10 ∷ []
last_line WantOfMemory = []

-- the exit status of the process
abbrev pub code_of : Status → ℕ
code_of Ok = 0
code_of Usage = 1
code_of (Config line kind) = 2
code_of (Script line) = 3
code_of ReadFault = 4
code_of WriteFault = 5
code_of JournalFault = 6
code_of (Missing name) = 7
code_of (Differs line machine journal) = 8
code_of Net = 9
code_of WantOfMemory = 10

-- what kind of end each status is; the two that a server alone has count as refusals, since they
-- have a last line
abbrev pub end_of : Status → End
end_of Ok = Done
end_of Usage = Refused
end_of (Config line kind) = Refused
end_of (Script line) = Refused
end_of ReadFault = Faulted Reading
end_of WriteFault = Faulted Writing
end_of (Differs line machine journal) = Refused
end_of JournalFault = Refused
end_of Net = Refused
end_of (Missing name) = Refused
end_of WantOfMemory = Faulted Lacking

-- the status of a run of a script that ends so; such a run ends by no difference
abbrev pub run_status : RunEnd → Status
run_status ended.Ok = Ok
run_status (ended.Script line) = Script line
run_status (ended.Config e) = Config e.line e.kind
run_status (ended.Missing name) = Missing name
run_status ended.ReadFault = ReadFault
run_status ended.WriteFault = WriteFault
run_status ended.WantOfMemory = WantOfMemory

-- the status of a migration that ends so
abbrev pub migrate_status : Result (Unit {0}) MigrateFault → Status
migrate_status (result.Ok done) = Ok
migrate_status (result.Err (migrating.Script line)) = Script line
migrate_status (result.Err migrating.ReadFault) = ReadFault
migrate_status (result.Err migrating.WriteFault) = WriteFault
migrate_status (result.Err migrating.WantOfMemory) = WantOfMemory

-- the status of a fault
abbrev pub status_of : Fault → Status
status_of Reading = ReadFault
status_of Writing = WriteFault
status_of Lacking = WantOfMemory

-- the end is a fault
abbrev pub IsFaultEnd : End → Type 0
IsFaultEnd Done = ⊥
IsFaultEnd Refused = ⊥
IsFaultEnd (Faulted fault) = Unit {0}

-- a command may end otherwise by these alone
abbrev pub IsFault : Status → Type 0
IsFault status = IsFaultEnd (end_of status)

-- only a refusal has a last line, and a fault of reading
abbrev pub is_silent : End → Bool
is_silent Done = true
is_silent Refused = false
is_silent (Faulted Reading) = false
is_silent (Faulted fault) = true

-- no device failed before the last line: it was done or refused
abbrev pub IsToldEnd : End → Type 0
IsToldEnd Done = Unit {0}
IsToldEnd Refused = Unit {0}
IsToldEnd (Faulted fault) = ⊥

-- it ends so, or by a fault
abbrev pub EndsBy : Status → Status → Type 0
EndsBy end status = (status ≡ end) ⊎ IsFault status

-- it ends so, or by want of memory
abbrev pub EndsWithoutFault : Status → Status → Type 0
EndsWithoutFault end status = (status ≡ end) ⊎ (status ≡ WantOfMemory)

-- it misses a file by this name alone
abbrev pub IfMissing : Status → (List ℕ → Type 0) → Type 0
IfMissing (Missing name) P = P name
IfMissing status P = Unit {0}

-- the counts of the files and of the sink never fall; a fault comes only where its count rose; the
-- files' stays at any end but a read fault, and the sink's where no fault came
pub record HasCauses (files_before files_now out_before out_now : ℕ)
    (status : Status) : Type 0 where
  pub files_later : files_before ≤ files_now
  pub out_later : out_before ≤ out_now
  pub read : status ≡ ReadFault → Rose files_before files_now
  pub write : status ≡ WriteFault → Rose out_before out_now
  pub files_quiet : (status ≡ ReadFault → ⊥) → files_now ≡ files_before
  pub out_quiet : IsToldEnd (end_of status) → out_now ≡ out_before

-- a configuration that cannot be had of its file ends a command by these alone, and misses only
-- this name
abbrev pub IsOpenEnd : Texts → List ℕ → Status → Type 0
IsOpenEnd texts name ReadFault = Unit {0}
IsOpenEnd texts name WantOfMemory = Unit {0}
IsOpenEnd texts name (Config line kind) = Unit {0}
IsOpenEnd texts name (Missing other) = (other ≡ name) × IsNotTold texts name
IsOpenEnd texts name status = ⊥

-- it misses this name, or there was no memory to say so
abbrev pub IsMissingOr : List ℕ → Status → Type 0
IsMissingOr name (Missing other) = other ≡ name
IsMissingOr name WantOfMemory = Unit {0}
IsMissingOr name status = ⊥

-- reading a file comes to what the stage is, or to a fault
abbrev pub Comes : {A : Type 0} → Result A Status → Result A Status → Type 0
Comes (result.Ok a) stage = stage ≡ result.Ok a
Comes (result.Err end) stage = (stage ≡ result.Err end) ⊎ IsFault end

-- a text that is no configuration ends a command by these alone
abbrev pub IsConfEnd : Status → Type 0
IsConfEnd (Config line kind) = Unit {0}
IsConfEnd WantOfMemory = Unit {0}
IsConfEnd status = ⊥

-- a rehearsal ends by these alone: it reads no file
abbrev pub IsRehearsedEnd : Status → Type 0
IsRehearsedEnd Ok = Unit {0}
IsRehearsedEnd (Config line kind) = Unit {0}
IsRehearsedEnd WriteFault = Unit {0}
IsRehearsedEnd WantOfMemory = Unit {0}
IsRehearsedEnd status = ⊥

-- a command over one file misses only this one, and is no usage
abbrev pub IsPlayedEnd : Texts → List ℕ → Status → Type 0
IsPlayedEnd texts name Usage = ⊥
IsPlayedEnd texts name (Missing other) = (other ≡ name) × IsNotTold texts name
IsPlayedEnd texts name status = Unit {0}

-- a replay misses a file that is told nowhere, and is no usage
abbrev pub IsReplayEnd : Texts → Status → Type 0
IsReplayEnd texts Usage = ⊥
IsReplayEnd texts (Missing other) = IsNotTold texts other
IsReplayEnd texts status = Unit {0}

-- what was found of a journal ends a command by these alone; where the journal was verified,
-- telling so may fail
abbrev pub IsFoundEnd : Finding → Status → Type 0
IsFoundEnd (finding.Verified count) status = (status ≡ Ok) ⊎ (status ≡ WriteFault)
IsFoundEnd (finding.Script line) status = status ≡ Script line
IsFoundEnd (finding.Differs line machine journal) status = status ≡ Differs line machine journal
IsFoundEnd finding.ReadFault status = status ≡ ReadFault
IsFoundEnd finding.WantOfMemory status = status ≡ WantOfMemory

-- a command over two files misses one of them that is told nowhere, and is no usage
abbrev pub IsVerifyEnd : Texts → List ℕ → List ℕ → Status → Type 0
IsVerifyEnd texts conf journal Usage = ⊥
IsVerifyEnd texts conf journal (Missing other) = ((other ≡ conf) ⊎ (other ≡ journal))
    × IsNotTold texts other
IsVerifyEnd texts conf journal status = Unit {0}
