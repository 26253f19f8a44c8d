-- What a journal over a sink has written.
use Rattle.std.specs.Prelude.{◌≡◌, ℕ, List, ◌∷◌, ◌++◌, Bool, false, if◌then◌else◌}
use Rattle.std.specs.declared.option.Option.{Option}
use Rattle.std.specs.Io.KnownBytes.{Appends}
use Rattle.sq_outside.specs.Output.{IsProperPrefix}
use Rattle.sq_machine.specs.declared.entries.Event.{Event}
use Rattle.sq_machine.specs.Entries.{Noted, History}
use Rattle.sq_machine.specs.Events.{begins_epoch}
use Rattle.sq_journal.specs.Journals.{version_line, numbered_line, next_number, number_at, epoch_at, journal_text}
use Rattle.sq_journal.specs.declared.sink_journal.SinkJournal.{SinkJournal}

-- the sink
abbrev pub sink_of : {S : Type 0} → SinkJournal S → S
sink_of j = j.sink

-- for how many entries a place was made
abbrev pub spare_of : {S : Type 0} → SinkJournal S → ℕ
spare_of j = j.spare

-- how often a note failed
abbrev pub faults_of : {S : Type 0} → SinkJournal S → ℕ
faults_of j = j.faults

-- a note has failed, and nothing is written any more
abbrev pub has_stopped : {S : Type 0} → SinkJournal S → Bool
has_stopped j = j.stopped

-- the epoch of an entry, where that of the one before is this
abbrev pub epoch_behind : ℕ → Event → ℕ
epoch_behind epoch event = if begins_epoch event then next_number epoch else epoch

-- an entry's line, behind the version line where the entry is the first
abbrev pub line_after : Bool → ℕ → ℕ → Noted → List ℕ
line_after is_first number epoch e = if is_first then version_line ++ numbered_line number epoch e
    else numbered_line number epoch e

-- No note has failed, the numbers are those of the newest entry of this history, and since `start`
-- the history's text was written.
pub record HasWritten {S : Type 0} (start contents : Option (List ℕ)) (j : SinkJournal S)
    (h : History) : Type 0 where
  pub going : has_stopped j ≡ false
  pub number_is : j.number ≡ number_at h
  pub epoch_is : j.epoch ≡ epoch_at h
  pub wrote : Appends start contents (journal_text h)

-- the bytes are the history's text and a part, which may be empty, of what follows with this entry
pub record IsCutIn (h : History) (e : Noted) (bytes : List ℕ) : Type 0 where
  pub part : List ℕ
  pub bytes_are : bytes ≡ journal_text h ++ part
  pub short : IsProperPrefix bytes (journal_text (e ∷ h))
