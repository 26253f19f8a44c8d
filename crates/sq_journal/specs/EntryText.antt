-- In the statement: docs/STATEMENT.md lists which definitions.
-- The text of a journal entry: `MOMENT EVENT => ANSWER`, with one space between words. Numbers are
-- decimal, and a text is one escaped word.
use Rattle.std.specs.Prelude.{ℕ, ◌+◌, List, [], ◌∷◌, ◌++◌, map, codes, decimal, Some, None}
use Rattle.std.specs.Fmt.{signed_decimal}
use Rattle.std.specs.declared.option.Option.{Option}
use Rattle.sq_base.specs.Addresses.{address_text}
use Rattle.sq_base.specs.Bytes.{lf, colon}
use Rattle.sq_base.specs.Escapes.{text_word}
use Rattle.sq_base.specs.declared.helpers.Word.{Word}
use Rattle.sq_base.specs.declared.helpers.Word.TheVariants as reply
use Rattle.sq_base.specs.declared.requests.Field.{Field}
use Rattle.sq_machine.specs.declared.entries.Event.{Event}
use Rattle.sq_machine.specs.declared.entries.Event.TheVariants.{Begin, Open, Close, Ask, Step, Take, Started, StartFail, Line, Died, Act, Reconfigure, Seat, Grant, Leave}
use Rattle.sq_machine.specs.declared.entries.Told.{Told}
use Rattle.sq_machine.specs.declared.entries.Told.TheVariants as told
use Rattle.sq_machine.specs.Entries.{Noted, History}
use Rattle.sq_rules.specs.OutcomeText.{outcome_words}
use Rattle.sq_journal.specs.Lines.{line_of}
use Rattle.sq_rules.specs.Steps.{WordList}

-- a field's word: name, `:` and value
abbrev pub field_word : Field → List ℕ
field_word f = text_word (f.name ++ colon ∷ f.value)

-- the words of an event
abbrev pub event_words : Event → WordList
event_words (Begin offset) = codes "begin" ∷ signed_decimal offset ∷ []
event_words (Open conn addr port) = codes "open" ∷ decimal conn ∷ address_text addr ∷ decimal port
    ∷ []
event_words (Close conn) = codes "close" ∷ decimal conn ∷ []
event_words (Ask conn method target fields) = codes "ask" ∷ decimal conn ∷ text_word method
    ∷ text_word target ∷ map field_word fields
event_words (Step check) = codes "step" ∷ decimal check ∷ []
event_words (Take check) = codes "take" ∷ decimal check ∷ []
event_words (Started epoch class) = codes "started" ∷ decimal epoch ∷ text_word class ∷ []
event_words (StartFail epoch class) = codes "startfail" ∷ decimal epoch ∷ text_word class ∷ []
event_words (Line proc bytes) = codes "line" ∷ decimal proc ∷ text_word bytes ∷ []
event_words (Died proc) = codes "died" ∷ decimal proc ∷ []
event_words Act = codes "act" ∷ []
event_words (Reconfigure text) = codes "reconfigure" ∷ text_word text ∷ []
event_words (Seat conn) = codes "seat" ∷ decimal conn ∷ []
event_words (Grant seat wanted) = codes "grant" ∷ decimal seat ∷ decimal wanted ∷ []
event_words (Leave seat) = codes "leave" ∷ decimal seat ∷ []

-- the word of a reply's result
abbrev pub result_word : Word → List ℕ
result_word reply.Yes = codes "ok"
result_word reply.No = codes "err"
result_word reply.Broken = codes "bh"

-- the word of a channel; `-` where the class has none
abbrev pub channel_word : Option ℕ → List ℕ
channel_word None = codes "-"
channel_word (Some channel) = decimal channel

-- the words of an answer; a pool is counted from 1
abbrev pub told_words : Told → WordList
told_words (told.Epoch epoch) = codes "epoch" ∷ decimal epoch ∷ []
told_words told.Fine = codes "ok" ∷ []
told_words (told.Check check) = codes "check" ∷ decimal check ∷ []
told_words (told.Took class) = codes "took" ∷ text_word class ∷ []
told_words (told.Waits question) = codes "waits" ∷ decimal question ∷ []
told_words told.Done = codes "done" ∷ []
told_words (told.Judged epoch outcome) = codes "epoch" ∷ decimal epoch ∷ outcome_words outcome
told_words (told.Proc proc) = codes "proc" ∷ decimal proc ∷ []
told_words (told.Reply question word) = codes "reply" ∷ decimal question ∷ result_word word ∷ []
told_words told.Bad = codes "bad" ∷ []
told_words told.Stray = codes "stray" ∷ []
told_words (told.Start epoch class) = codes "start" ∷ decimal epoch ∷ text_word class ∷ []
told_words (told.Send proc question channel key) = codes "send" ∷ decimal proc ∷ decimal question
    ∷ channel_word channel ∷ text_word key ∷ []
told_words (told.Stop proc) = codes "stop" ∷ decimal proc ∷ []
told_words (told.Seat seat pool) = codes "seat" ∷ decimal seat ∷ decimal (pool + 1) ∷ []
told_words told.NoSeat = codes "none" ∷ []
told_words (told.Granted bytes) = codes "granted" ∷ decimal bytes ∷ []

-- the words of a moment and an event
abbrev pub dated_words : ℕ → Event → WordList
dated_words moment event = decimal moment ∷ event_words event

-- the words of an entry
abbrev pub entry_words : Noted → WordList
entry_words e = decimal e.moment ∷ event_words e.event ++ codes "=>" ∷ told_words e.answer

-- the text of a script's line: a moment and an event
abbrev pub dated_text : ℕ → Event → List ℕ
dated_text moment event = line_of (dated_words moment event)

-- the text of an entry, without LF
abbrev pub entry_text : Noted → List ℕ
entry_text e = line_of (entry_words e)

-- the line of an entry
abbrev pub entry_line : Noted → List ℕ
entry_line e = entry_text e ++ lf ∷ []

-- the lines of a history, the oldest entry first
abbrev pub written : History → List ℕ
written [] = []
written (e ∷ h) = written h ++ entry_line e
