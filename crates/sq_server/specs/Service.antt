-- In the statement: docs/STATEMENT.md lists which definitions.
-- What comes of a server.
use Rattle.std.specs.Prelude.{◌≡◌, ◌⊎◌, ℕ, pos, ◌+◌, ◌<◌, ◌≤◌, List, [], ◌∷◌, ◌++◌, All, Bool, true, false, codes, min, unwrap_or, IfSome}
use Rattle.std.specs.Io.KnownBytes.{Appends}
use Rattle.std.specs.Option.{ForSome}
use Rattle.std.specs.declared.option.Option.{Option}
use Rattle.std.specs.declared.result.Result.{Result}
use Rattle.std.specs.declared.result.Result.TheVariants as result
use Rattle.sq_outside.specs.Causes.{Rose, count_limit}
use Rattle.sq_outside.specs.Output.{Grew, IsProperPrefix, IsWritten}
use Rattle.sq_outside.specs.Told.{IsNotTold, Opening, Openings, Texts}
use Rattle.sq_rules.specs.Configurations.{Configuration}
use Rattle.sq_machine.specs.Entries.{History}
use Rattle.sq_machine.specs.Readings.{current, offset_of}
use Rattle.sq_calls.specs.Legality.{Beginning}
use Rattle.sq_replay.specs.Headline.{IsTrue}
use Rattle.sq_replay.specs.Openings.{Added}
use Rattle.sq_control.specs.declared.panel.PanelEnd.{PanelEnd}
use Rattle.sq_control.specs.declared.panel.PanelEnd.TheVariants as panel
use Rattle.sq_control.specs.Attending.{FilesSeen, Runs, Streams}
use Rattle.sq_commands.specs.Commands.{conf_stage}
use Rattle.sq_commands.specs.Ends.{EndsBy, IfMissing, last_line}
use Rattle.sq_commands.specs.Opened.{IsOnce, first_text}
use Rattle.sq_commands.specs.Serving.{Server}
use Rattle.sq_commands.specs.declared.ends.Status.{Status}
use Rattle.sq_commands.specs.declared.ends.Status.TheVariants as ends

-- how a server ends whose panel ended so, by whether a note of its journal failed, and whether its
-- listener did: of several faults by the one with the least code
abbrev pub ended_status : PanelEnd → Bool → Bool → Status
ended_status panel.ReadFault stopped failed = ends.ReadFault
ended_status panel.WriteFault stopped failed = ends.WriteFault
ended_status e true failed = ends.JournalFault
ended_status e false true = ends.Net
ended_status panel.Ended false false = ends.Ok
ended_status panel.Faulted false false = ends.WantOfMemory

-- How a server ended whose panel ended so, by the counts of its journal and of its listener: a note
-- of the journal failed only where its count rose, and none failed only where that stayed; the
-- listener failed only where its count rose.
pub record EndsSo (end : PanelEnd) (journal_before journal_now net_before net_now : ℕ)
    (status : Status) : Type 0 where
  pub stopped : Bool
  pub failed : Bool
  pub ended : status ≡ ended_status end stopped failed
  pub noted : stopped ≡ true → Rose journal_before journal_now
  pub quiet : stopped ≡ false → journal_now ≡ journal_before
  pub heard : failed ≡ true → Rose net_before net_now

-- a server of whose journal a note failed ends by these alone: by that fault, or by one with a
-- lesser code
abbrev pub IsNoteEnd : Status → Type 0
IsNoteEnd ends.ReadFault = Unit {0}
IsNoteEnd ends.WriteFault = Unit {0}
IsNoteEnd ends.JournalFault = Unit {0}
IsNoteEnd status = ⊥

-- the port at which a server of this configuration listens: the option's, or else the
-- configuration's
abbrev pub port_of : Server → Configuration → ℕ
port_of s config = unwrap_or s.options.port config.port

-- with what the machine of a server of this configuration begins: the offset of local time is the
-- option's, or else 0
abbrev pub beginning_of : Server → Configuration → Beginning
beginning_of s config = record { config = config; offset = unwrap_or s.options.offset (pos 0) }

-- the last line of a server that ended well
abbrev pub stopped_line : List ℕ
stopped_line = codes "stopped" ++ 10 ∷ []

-- a server that began, or could not, ends by these alone
abbrev pub IsServerEnd : Status → Type 0
IsServerEnd ends.Ok = Unit {0}
IsServerEnd ends.ReadFault = Unit {0}
IsServerEnd ends.WriteFault = Unit {0}
IsServerEnd ends.JournalFault = Unit {0}
IsServerEnd ends.Net = Unit {0}
IsServerEnd ends.WantOfMemory = Unit {0}
IsServerEnd status = ⊥

-- a server ends by these alone: by one of those, or since its configuration was refused, or is not
-- there
abbrev pub IsServiceEnd : Status → Type 0
IsServiceEnd (ends.Config line kind) = Unit {0}
IsServiceEnd (ends.Missing name) = Unit {0}
IsServiceEnd status = IsServerEnd status

-- a desk that was not made ends a server by these
abbrev pub IsUnservedEnd : Status → Type 0
IsUnservedEnd ends.JournalFault = Unit {0}
IsUnservedEnd ends.WantOfMemory = Unit {0}
IsUnservedEnd status = ⊥

-- The configuration is that of the file of this name: where the files tell their texts, of the text
-- that it has; where they tell their openings, of the text that its one opening gave.
pub record IsConf (texts : Texts) (name : List ℕ) (before now : Openings)
    (config : Configuration) : Type 0 where
  pub told : IfSome texts (λ disk. conf_stage name (disk name) ≡ result.Ok config)
  pub opened : Added before now
      (λ more. IsOnce name more × (conf_stage name (first_text more) ≡ result.Ok config))

-- The history has the offset of this beginning, and is the machine's over the configuration of that
-- and some others, which are those that the texts of its reconfigurations give; and all is so of it
-- that is so of every run.
pub record IsTrueFrom (first : Beginning) (h : History) : Type 0 where
  pub more : List Configuration
  pub offset_is : offset_of h ≡ first.offset
  pub is_true : IsTrue (first.config ∷ more) h

-- a journal that tells is such a history, or without an entry
abbrev pub IsTrueOrEmpty : Beginning → Option History → Type 0
IsTrueOrEmpty first history = IfSome history (λ h. (h ≡ []) ⊎ IsTrueFrom first h)

-- what a server's world tells: the files, the streams, and the counts of faults of its journal and
-- of its net
pub record ServerSeen : Type 0 where
  pub files : FilesSeen
  pub streams : Streams
  pub journal : ℕ
  pub net : ℕ

-- that of a world which told these
abbrev pub server_seen : FilesSeen → Streams → ℕ → ℕ → ServerSeen
server_seen files streams journal net =
    record { files = files; streams = streams; journal = journal; net = net }

-- A panel ran: how it ended, and how by that and by the counts of journal and listener the server
-- ended.
pub record HasRun (texts : Texts) (name : List ℕ) (port : ℕ) (before now : ServerSeen)
    (status : Status) : Type 0 where
  pub end : PanelEnd
  pub made : ℕ
  pub runs : Runs texts name port before.files now.files before.streams now.streams
      (record { end = end; made = made })
  pub so : EndsSo end before.journal now.journal before.net now.net status

-- the desk was not made, and files and streams are as they were; or a panel ran
abbrev pub RunsOrNot : Texts → List ℕ → ℕ → ServerSeen → ServerSeen → Status → Type 0
RunsOrNot texts name port before now status =
    ((now.files ≡ before.files) × (now.streams ≡ before.streams) × IsUnservedEnd status)
    ⊎ HasRun texts name port before now status

-- what came of a server at a port, by what its world told before and after; the net's counts are
-- those of its listener
pub record IsServed (first : Beginning) (texts : Texts) (name : List ℕ) (port : ℕ)
    (before now : ServerSeen) (history : Option History) (status : Status) : Type 0 where
  pub ok : status ≡ ends.Ok
      → (made : ℕ) × Runs texts name port before.files now.files before.streams now.streams
      (record { end = panel.Ended; made = made })
      × ForSome history (λ h. made + 1 ≡ current h)
  pub is_true : IsTrueOrEmpty first history
  pub noted : status ≡ ends.Ok → IfSome history (IsTrueFrom first)
  pub read : status ≡ ends.ReadFault
      → Rose before.streams.input_faults now.streams.input_faults
  pub write : status ≡ ends.WriteFault
      → Rose before.streams.output_faults now.streams.output_faults
  pub journal : status ≡ ends.JournalFault → Rose before.journal now.journal
  pub quiet : (IsNoteEnd status → ⊥) → now.journal ≡ before.journal
  pub net : status ≡ ends.Net → 0 < now.net
  pub end : IsServerEnd status
  pub ran : RunsOrNot texts name port before now status
  pub files_later : before.files.faults ≤ now.files.faults
  pub input_later : before.streams.input_faults ≤ now.streams.input_faults
  pub output_later : before.streams.output_faults ≤ now.streams.output_faults
  pub journal_later : min before.journal count_limit ≤ now.journal

-- A server that ended well: the configuration of its file; at which port it listened; what its
-- panel did; that it wrote so at the end; that its journal, where it tells, is true from that
-- configuration and the stated offset on, with as many reconfigurations as were made.
pub record EndsWell (s : Server) (texts : Texts) (files_before files_now : FilesSeen)
    (streams_before streams_now : Streams) (history : Option History) : Type 0 where
  pub config : Configuration
  pub begun : FilesSeen
  pub conf : IsConf texts s.conf files_before.opened begun.opened config
  pub ran : Streams
  pub made : ℕ
  pub runs : Runs texts s.conf (port_of s config) begun files_now streams_before ran
      (record { end = panel.Ended; made = made })
  pub left : streams_now.left ≡ ran.left
  pub writes : Appends ran.contents streams_now.contents stopped_line
  pub makes : ForSome history (λ h. made + 1 ≡ current h)
  pub is_true : IfSome history (IsTrueFrom (beginning_of s config))

-- how a server ends by what its configuration's file comes to
abbrev pub EndsOver : Result Configuration Status → Status → Type 0
EndsOver (result.Err end) status = EndsBy end status
EndsOver (result.Ok config) status = IsServerEnd status

-- The panel of a server did not run: the file of the configuration was opened once at most, the
-- server ended by what its text comes to, and nothing was written by then.
pub record IsUnrun (s : Server) (files_before files_now : FilesSeen)
    (streams_before streams_now : Streams) (status : Status) : Type 0 where
  pub opened : Added files_before.opened files_now.opened
      (λ more. IsOnce s.conf more × EndsOver (conf_stage s.conf (first_text more)) status)
  pub same : streams_now ≡ streams_before
  pub unwritten : status ≡ ends.WriteFault → ⊥

-- a server whose panel ended so ended by that, and wrote nothing behind what the panel wrote; or it
-- would have ended well, but of the line `stopped` it could write only a part
abbrev pub EndsAfter : PanelEnd → Streams → ServerSeen → ServerSeen → Status → Type 0
EndsAfter end ran before now status =
    ((now.streams ≡ ran) × EndsSo end before.journal now.journal before.net now.net status)
    ⊎ ((end ≡ panel.Ended) × (now.journal ≡ before.journal) × (status ≡ ends.WriteFault)
    × Grew ran.contents now.streams.contents (λ part. IsProperPrefix part stopped_line))

-- The panel of a server ran: the configuration of its file; at which port it listened; what its
-- panel did, and wrote; and how the server ended by that.
pub record IsRun (s : Server) (texts : Texts) (before now : ServerSeen)
    (status : Status) : Type 0 where
  pub config : Configuration
  pub begun : FilesSeen
  pub conf : IsConf texts s.conf before.files.opened begun.opened config
  pub ran : Streams
  pub end : PanelEnd
  pub made : ℕ
  pub runs : Runs texts s.conf (port_of s config) begun now.files before.streams ran
      (record { end = end; made = made })
  pub after : EndsAfter end ran before now status

-- What a server wrote: nothing, where its panel did not run, or what that wrote; and then this
-- line, or a part of it where a write failed.
pub record EndsByLine (line : List ℕ) (s : Server) (texts : Texts) (before now : ServerSeen)
    (status : Status) : Type 0 where
  pub told : Streams
  pub came : IsUnrun s before.files now.files before.streams told status
      ⊎ IsRun s texts before (server_seen now.files told now.journal now.net) status
  pub writes : Grew told.contents now.streams.contents
      (IsWritten told.output_faults now.streams.output_faults line)

-- The history is true from the configuration of the file and the stated offset on. That file was
-- opened first, and each later opening was of it, too.
pub record IsTrueOver (s : Server) (texts : Texts) (before now : Openings)
    (h : History) : Type 0 where
  pub config : Configuration
  pub begun : Openings
  pub conf : IsConf texts s.conf before begun config
  pub rest : Added begun now (λ more. All (λ (o : Opening). o.name ≡ s.conf) more)
  pub is_true : IsTrueFrom (beginning_of s config) h

-- what came of a server by its words, which where it did not end well wrote this line last: by what
-- its world told before and after
pub record CameTo (line : List ℕ) (s : Server) (texts : Texts) (before now : ServerSeen)
    (history : Option History) (status : Status) : Type 0 where
  pub ok : status ≡ ends.Ok
      → EndsWell s texts before.files now.files before.streams now.streams history
  pub bytes : (status ≡ ends.Ok → ⊥)
      → EndsByLine line s texts before now status
  pub is_true : IfSome history (λ h. (h ≡ [])
      ⊎ IsTrueOver s texts before.files.opened now.files.opened h)
  pub read : status ≡ ends.ReadFault → Rose before.files.faults now.files.faults
      ⊎ Rose before.streams.input_faults now.streams.input_faults
  pub write : status ≡ ends.WriteFault
      → Rose before.streams.output_faults now.streams.output_faults
  pub journal : status ≡ ends.JournalFault → Rose before.journal now.journal
  pub quiet : (IsNoteEnd status → ⊥) → now.journal ≡ before.journal
  pub net : status ≡ ends.Net → Rose before.net now.net
  pub conf : IfSome texts (λ disk. EndsOver (conf_stage s.conf (disk s.conf)) status)
  pub missing : IfMissing status (λ name. (name ≡ s.conf) × IsNotTold texts name)
  pub end : IsServiceEnd status
  pub files_later : before.files.faults ≤ now.files.faults
  pub input_later : before.streams.input_faults ≤ now.streams.input_faults
  pub output_later : before.streams.output_faults ≤ now.streams.output_faults
  pub journal_later : min before.journal count_limit ≤ now.journal
  pub net_later : before.net ≤ now.net

-- what came of a server by its words: where it did not end well, it wrote the last line of its
-- status
abbrev pub IsService : Server → Texts → ServerSeen → ServerSeen → Option History → Status → Type 0
IsService s texts before now history status =
    CameTo (last_line status) s texts before now history status
