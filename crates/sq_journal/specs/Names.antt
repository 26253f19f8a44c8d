-- In the statement: docs/STATEMENT.md lists which definitions.
-- The names by which a line's words tell events, answers, and what these hold. The word of each
-- value in the texts is its name here.
use Rattle.std.specs.Prelude.{ℕ, List, [], ◌∷◌, Bool, true, false, codes}
use Rattle.sq_base.specs.declared.helpers.Cause.{Cause}
use Rattle.sq_base.specs.declared.helpers.Cause.TheVariants as cause
use Rattle.sq_base.specs.declared.helpers.Word.{Word}
use Rattle.sq_base.specs.declared.helpers.Word.TheVariants as reply
use Rattle.sq_journal.specs.declared.names.EventName.{EventName}
use Rattle.sq_journal.specs.declared.names.EventName.TheVariants as event
use Rattle.sq_journal.specs.declared.names.AnswerName.{AnswerName}
use Rattle.sq_journal.specs.declared.names.AnswerName.TheVariants as told
use Rattle.sq_journal.specs.declared.names.WhyName.{WhyName}
use Rattle.sq_journal.specs.declared.names.WhyName.TheVariants as why

-- the names of events
abbrev pub event_names : List (List ℕ × EventName)
event_names =
    (codes "begin", event.Begin)
    ∷ (codes "open", event.Open)
    ∷ (codes "close", event.Close)
    ∷ (codes "ask", event.Ask)
    ∷ (codes "step", event.Step)
    ∷ (codes "take", event.Take)
    ∷ (codes "started", event.Started)
    ∷ (codes "startfail", event.StartFail)
    ∷ (codes "line", event.Line)
    ∷ (codes "died", event.Died)
    ∷ (codes "act", event.Act)
    ∷ (codes "reconfigure", event.Reconfigure)
    ∷ (codes "seat", event.Seat)
    ∷ (codes "grant", event.Grant)
    ∷ (codes "leave", event.Leave)
    ∷ []

-- the names of answers
abbrev pub told_names : List (List ℕ × AnswerName)
told_names =
    (codes "epoch", told.Epoch)
    ∷ (codes "ok", told.Fine)
    ∷ (codes "check", told.Check)
    ∷ (codes "took", told.Took)
    ∷ (codes "waits", told.Waits)
    ∷ (codes "done", told.Done)
    ∷ (codes "proc", told.Proc)
    ∷ (codes "reply", told.Reply)
    ∷ (codes "bad", told.Bad)
    ∷ (codes "stray", told.Stray)
    ∷ (codes "start", told.Start)
    ∷ (codes "send", told.Send)
    ∷ (codes "stop", told.Stop)
    ∷ (codes "seat", told.Seat)
    ∷ (codes "none", told.NoSeat)
    ∷ (codes "granted", told.Granted)
    ∷ []

-- the names of reasons
abbrev pub why_names : List (List ℕ × WhyName)
why_names = (codes "rule", why.Rule) ∷ (codes "default", why.Default) ∷ (codes "empty", why.Empty)
    ∷ (codes "fault", why.Fault) ∷ []

-- the names of what was decided
abbrev pub action_names : List (List ℕ × Bool)
action_names = (codes "allowed", true) ∷ (codes "denied", false) ∷ []

-- the names of causes
abbrev pub cause_names : List (List ℕ × Cause)
cause_names =
    (codes "Bh", cause.Bh)
    ∷ (codes "BadReply", cause.BadReply)
    ∷ (codes "Stray", cause.Stray)
    ∷ (codes "Died", cause.Died)
    ∷ (codes "NoHelper", cause.NoHelper)
    ∷ (codes "QueueFull", cause.QueueFull)
    ∷ (codes "KeyTooLong", cause.KeyTooLong)
    ∷ []

-- the names of results
abbrev pub result_names : List (List ℕ × Word)
result_names = (codes "ok", reply.Yes) ∷ (codes "err", reply.No) ∷ (codes "bh", reply.Broken) ∷ []

-- the one word that stands between an event and its answer
abbrev pub arrow_names : List (List ℕ × Unit {0})
arrow_names = (codes "=>", tt) ∷ []
