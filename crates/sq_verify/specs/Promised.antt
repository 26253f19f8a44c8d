-- What the calls promise by which a journal is judged.
use Rattle.std.specs.Prelude.{◌≡◌, ◌⊎◌, ℕ, ℤ, ◌+◌, ◌≤◌, suc, max, List, [], ◌++◌, length, true, false, bytes_eq, is_some, Result, Ok, Err, Some, None, IfSome}
use Rattle.std.specs.Io.KnownBytes.{IsAtEnd}
use Rattle.std.specs.declared.option.Option.{Option}
use Rattle.sq_outside.specs.Causes.{Rose}
use Rattle.sq_outside.specs.SourceLines.{IsFaultyWithin, SourceLine, lines}
use Rattle.sq_request.specs.Written.{made_request}
use Rattle.sq_machine.specs.declared.entries.Event.{Event}
use Rattle.sq_machine.specs.declared.entries.Event.TheVariants.{Begin, Ask, Reconfigure}
use Rattle.sq_machine.specs.declared.entries.Told.{Told}
use Rattle.sq_rules.specs.ConfText.{conf_result}
use Rattle.sq_rules.specs.declared.kinds.ConfError.{ConfError}
use Rattle.sq_rules.specs.Configurations.{Configuration, IsConfiguration}
use Rattle.sq_machine.specs.Entries.{History, Noted}
use Rattle.sq_machine.specs.Machine.{next}
use Rattle.sq_machine.specs.Epochs.{config_of}
use Rattle.sq_machine.specs.Marking.{marked}
use Rattle.sq_machine.specs.Readings.{current}
use Rattle.sq_model.specs.Given.{EachOf}
use Rattle.sq_journal.specs.Journals.{epoch_at}
use Rattle.sq_journal.specs.Sinks.{epoch_behind}
use Rattle.sq_conf.specs.declared.faults.ConfFault.{ConfFault}
use Rattle.sq_conf.specs.declared.faults.ConfFault.TheVariants as conf
use Rattle.sq_replay.specs.declared.stops.Stop.{Stop}
use Rattle.sq_replay.specs.declared.stops.Stop.TheVariants as stop
use Rattle.sq_replay.specs.Making.{is_refused}
use Rattle.sq_replay.specs.Runs.{Is, IsMade, ScriptView}
use Rattle.sq_verify.specs.declared.findings.Finding.{Finding}
use Rattle.sq_verify.specs.declared.findings.Finding.TheVariants as finding
use Rattle.sq_verify.specs.declared.halts.Halt.{Halt}
use Rattle.sq_verify.specs.declared.halts.Halt.TheVariants as halt
use Rattle.sq_verify.specs.declared.versions.Version.{Version}
use Rattle.sq_verify.specs.JournalLines.{line_limit, text_in}
use Rattle.sq_verify.specs.Judging.{Judged, begun_line, judged_lines, line_number, named_from, stated_first}

-- one line

-- a line is the text, or it is not, and the text is told
abbrev pub Compares : List ℕ → List ℕ → Result (Unit {0}) Halt → Type 0
Compares text line (Ok done) = bytes_eq text line ≡ true
Compares text line (Err halt.NoLine) = ⊥
Compares text line (Err (halt.Differs other)) = (other ≡ text) × (bytes_eq text line ≡ false)
Compares text line (Err halt.WantOfMemory) = Unit {0}

-- the text of an entry behind so many, the last of which has this epoch, and the epoch of the entry
abbrev pub ComparesNext : Version → ℕ → ℕ → Noted → List ℕ → Result ℕ Halt → Type 0
ComparesNext v count epoch e line (Ok next) = (next ≡ epoch_behind epoch e.event)
    × (bytes_eq (text_in v (count + 1) next e) line ≡ true)
ComparesNext v count epoch e line (Err stop) =
    Compares (text_in v (count + 1) (epoch_behind epoch e.event) e) line (Err stop)

-- how a stop ends a journal
abbrev pub halt_for : Stop → Halt
halt_for stop.Refused = halt.NoLine
halt_for stop.WantOfMemory = halt.WantOfMemory

-- why a text gives no configuration
abbrev pub stop_for : ConfFault → Stop
stop_for (conf.At e) = stop.Refused
stop_for conf.WantOfMemory = stop.WantOfMemory

-- a text gives this configuration, or none
abbrev pub Accepts : List ℕ → Result Configuration Stop → Type 0
Accepts text (Ok config) = conf_result text ≡ Ok config
Accepts text (Err stop.Refused) = (e : ConfError) × (conf_result text ≡ Err e)
Accepts text (Err stop.WantOfMemory) = Unit {0}

-- the configuration that an event's text gives is that of the next epoch
abbrev pub HasNext : List Configuration → History → Event → Type 0
HasNext configs h (Reconfigure text) = (config : Configuration) → conf_result text ≡ Ok config
    → config_of configs (suc (current h)) ≡ Some config
HasNext configs h event = Unit {0}

abbrev pub IsNext : List Configuration → History → Option Noted → Type 0
IsNext configs h None = Unit {0}
IsNext configs h (Some e) = HasNext configs h e.event

-- the event may stand behind the first: it is no `begin`, the request that asks can be made, and
-- the text of a reconfiguration gives one
abbrev pub MayFollow : Event → Type 0
MayFollow (Begin offset) = ⊥
MayFollow (Ask conn method target fields) = is_some (made_request method target 1 fields) ≡ true
MayFollow (Reconfigure text) = (config : Configuration) × (conf_result text ≡ Ok config)
MayFollow event = Unit {0}

-- it may not, or the machine refuses it after this history
abbrev pub IsNone : List Configuration → History → ℕ → Event → Type 0
IsNone configs h moment (Begin offset) = Unit {0}
IsNone configs h moment (Ask conn method target fields) =
    (made_request method target 1 fields ≡ None)
    ⊎ (is_refused (next configs (marked configs h) moment (Ask conn method target fields)) ≡ true)
IsNone configs h moment (Reconfigure text) =
    ((e : ConfError) × (conf_result text ≡ Err e))
    ⊎ (is_refused (next configs (marked configs h) moment (Reconfigure text)) ≡ true)
IsNone configs h moment event = is_refused (next configs (marked configs h) moment event) ≡ true

-- an event behind the first is made at the greatest moment so far, or refused; where memory is
-- wanting, nothing is said
abbrev pub Plays : ScriptView → ScriptView → ℕ → Event → Result Told Stop → Type 0
Plays old new now event (Ok told) =
    MayFollow event × ((configs : List Configuration) (h : History) → Is old configs h
    → HasNext configs h event → IsMade new configs h (max now old.latest) event told)
Plays old new now event (Err stop.Refused) = (configs : List Configuration) (h : History)
    → Is old configs h → IsNone configs h (max now old.latest) event
Plays old new now event (Err stop.WantOfMemory) = Unit {0}

-- the machine stands for a history of so many entries, the newest of which has this epoch
pub record Stands (v : ScriptView) (count epoch : ℕ) (configs : List Configuration)
    (h : History) : Type 0 where
  pub is : Is v configs h
  pub count_is : count ≡ length h
  pub epoch_is : epoch ≡ epoch_at h

-- a line's entry is the machine's, which then stands for the history with it; or the line ends the
-- journal
abbrev pub Goes : ScriptView → ℕ → List Configuration → Result History Halt → Result ℕ Halt → Type 0
Goes w count configs step (Ok epoch) = (t : History) × (step ≡ Ok t)
    × Stands w count epoch configs t
Goes w count configs step (Err halt.NoLine) = step ≡ Err halt.NoLine
Goes w count configs step (Err (halt.Differs text)) = step ≡ Err (halt.Differs text)
Goes w count configs step (Err halt.WantOfMemory) = Unit {0}

-- the same of the first, over all configurations that begin with this one
abbrev pub BeginsLine : {M : Type 0} → (M → ScriptView) → Configuration → Result History Halt
    → Result M Halt → Type 0
BeginsLine machine config step (Ok m) =
    (t : History) × (step ≡ Ok t)
    × ((configs : List Configuration) → EachOf IsConfiguration configs
    → config_of configs 1 ≡ Some config → Stands (machine m) 1 1 configs t)
BeginsLine machine config step (Err halt.NoLine) = step ≡ Err halt.NoLine
BeginsLine machine config step (Err (halt.Differs text)) = step ≡ Err (halt.Differs text)
BeginsLine machine config step (Err halt.WantOfMemory) = Unit {0}

-- where the machine begins by the line of the first entry: at this moment and offset
abbrev pub Begins : Version → List ℕ → Result History Halt → Result (ℕ × ℤ) Halt → Type 0
Begins v line step (Ok at) = step ≡ begun_line v line at.0 (Begin at.1)
Begins v line step (Err halt.NoLine) = step ≡ Err halt.NoLine
Begins v line step (Err (halt.Differs text)) = ⊥
Begins v line step (Err halt.WantOfMemory) = Unit {0}

-- lines

-- no line can be read at the front of these bytes, which begin behind `place` others
abbrev pub IsUnread : Version → ℕ → List ℕ → Type 0
IsUnread v place bytes = (bytes ≡ []) ⊎ IsFaultyWithin (line_limit v) place bytes

-- what is found without the line that comes before all entries, or with the first
abbrev pub LacksLine : Version → ℕ → Option (List ℕ) → Finding → Type 0
LacksLine v place left (finding.Verified count) = ⊥
LacksLine v place left (finding.Script line) = (line ≡ line_number v 0)
    × IfSome left (IsUnread v place)
LacksLine v place left (finding.Differs line machine journal) = ⊥
LacksLine v place left finding.ReadFault = Unit {0}
LacksLine v place left finding.WantOfMemory = Unit {0}

-- behind the configurations of the epochs that have begun stand those that these lines hold
pub record AreAhead (v : Version) (configs : List Configuration) (h : History)
    (ls : List SourceLine) : Type 0 where
  pub begun : List Configuration
  pub count_is : length begun ≡ current h
  pub configs_are : configs ≡ begun ++ named_from v ls

-- what was found is what the journal comes to; or a fault came before
abbrev pub Comes : Judged → Finding → Type 0
Comes judged (finding.Verified count) = judged.found ≡ finding.Verified count
Comes judged (finding.Script line) = judged.found ≡ finding.Script line
Comes judged (finding.Differs line machine journal) = judged.found
    ≡ finding.Differs line machine journal
Comes judged finding.ReadFault = Unit {0}
Comes judged finding.WantOfMemory = Unit {0}

-- the same, of what a source has left, where it tells, and configurations that go on as its lines
-- say
abbrev pub JudgesOver : Option (List ℕ) → Version → List Configuration → History → (List ℕ → Judged)
    → Finding → Type 0
JudgesOver left v configs h judged result = IfSome left
    (λ bytes. AreAhead v configs h (lines bytes) → Comes (judged bytes) result)

-- the state that the judging has come to: what is left comes to the whole, behind so many entries
-- and bytes
pub record GoesOn (w : ScriptView) (v : Version) (left : Option (List ℕ))
    (configs : List Configuration) (whole : Judged) (count epoch place : ℕ) : Type 0 where
  pub history : History
  pub stands : Stands w count epoch configs history
  pub bytes : List ℕ
  pub left_is : left ≡ Some bytes
  pub ahead : AreAhead v configs history (lines bytes)
  pub same : judged_lines v configs history place (lines bytes) ≡ whole

-- where a journal was judged to: how many entries, the epoch of the newest, and the bytes before
-- the next line
pub record JournalSpot : Type 0 where
  pub count : ℕ
  pub epoch : ℕ
  pub place : ℕ

abbrev pub journal_spot : ℕ → ℕ → ℕ → JournalSpot
journal_spot count epoch place = record { count = count; epoch = epoch; place = place }

abbrev pub Going : ScriptView → Version → Option (List ℕ) → Option (List ℕ) → List Configuration
    → History → (List ℕ → Judged) → JournalSpot → Type 0
Going w v first left configs h judged at =
    IfSome first (λ bytes. AreAhead v configs h (lines bytes)
    → GoesOn w v left configs (judged bytes) at.count at.epoch at.place)

-- the bytes are known
abbrev pub IsKnown : Option (List ℕ) → Type 0
IsKnown o = (bytes : List ℕ) × (o ≡ Some bytes)

-- what was known at first still is
abbrev pub StaysKnown : Option (List ℕ) → Option (List ℕ) → Type 0
StaysKnown first left = IfSome first (λ bytes. IsKnown left)

-- a journal that is verified was read to its end
abbrev pub ReachesEnd : Finding → Option (List ℕ) → Option (List ℕ) → Type 0
ReachesEnd (finding.Verified count) old new = IfSome old (λ bytes. IsAtEnd new)
ReachesEnd found old new = Unit {0}

-- the source's count never falls; it rose where a read failed, and stayed where the judging ended
-- otherwise
pub record JudgeHasCauses (before now : ℕ) (found : Finding) : Type 0 where
  pub later : before ≤ now
  pub read : found ≡ finding.ReadFault → Rose before now
  pub quiet : (found ≡ finding.ReadFault → ⊥) → now ≡ before
