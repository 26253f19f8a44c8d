-- In the statement: docs/STATEMENT.md lists which definitions.
-- What a helper process was sent and what it wrote: on each channel the question that waits (helper
-- protocol page).
use Rattle.std.specs.Prelude.{ℕ, max, List, [], ◌∷◌, map, Bool, true, false, ◌&&◌, ◌==◌, if◌then◌else◌, nat_le, nat_lt, Some, None}
use Rattle.std.specs.declared.option.Option.{Option}
use Rattle.sq_base.specs.Replies.{Answer, reply_of}
use Rattle.sq_base.specs.declared.helpers.Reply.{Reply}
use Rattle.sq_machine.specs.declared.entries.Event.{Event}
use Rattle.sq_machine.specs.declared.entries.Event.TheVariants.{Line, Act}
use Rattle.sq_machine.specs.declared.entries.Told.{Told}
use Rattle.sq_machine.specs.declared.entries.Told.TheVariants as told
use Rattle.sq_machine.specs.Channels.{Channels, channel_name, slot_of}
use Rattle.sq_machine.specs.Entries.{History}
use Rattle.sq_machine.specs.Numbered.{below}
use Rattle.sq_machine.specs.Processes.{proc_count}

-- two names of channels are one; a process without channel numbers has one, of no name
abbrev pub same_channel : Option ℕ → Option ℕ → Bool
same_channel None None = true
same_channel (Some a) (Some b) = a == b
same_channel a b = false

-- what an entry does on a channel of a process: it puts a question there, a line stands on it, or
-- nothing
pub data Use : Type 0 where
  puts : ℕ → Use
  clears : Use
  keeps : Use

-- what the answer of an act does to a channel: a sent question takes it
abbrev pub use_told : History → ℕ → Option ℕ → Told → Use
use_told h k channel (told.Send p q c key) = if (k == p) && nat_le k (proc_count h)
    && same_channel c channel then puts q else keeps
use_told h k channel answer = keeps

-- a line in the grammar stands on its channel, and one outside of it on none
abbrev pub stands_on : Option Answer → Option ℕ → Bool
stands_on None channel = false
stands_on (Some a) channel = same_channel a.0 channel

-- what an event does to a channel: a send takes it, and a reply frees it
abbrev pub use_of : Bool → History → ℕ → Option ℕ → Event → Told → Use
use_of numbered h k channel Act answer = use_told h k channel answer
use_of numbered h k channel (Line p bytes) answer = if (k == p) && nat_le k (proc_count h)
    && stands_on (reply_of numbered bytes) channel then clears else keeps
use_of numbered h k channel event answer = keeps

-- the question on a channel after such a use
abbrev pub after_use : Use → Option ℕ → Option ℕ
after_use (puts q) before = Some q
after_use clears before = None
after_use keeps before = before

-- the question of the last send on this channel, where no line on it stands after; `numbered` says
-- whether lines have channels
abbrev pub holder : Bool → History → ℕ → Option ℕ → Option ℕ
holder numbered [] k channel = None
holder numbered (e ∷ h) k channel = after_use (use_of numbered h k channel e.event e.answer)
    (holder numbered h k channel)

-- the channels of a process of a class with so many: a class without channels has one
abbrev pub channels_of : ℕ → History → ℕ → Channels
channels_of concurrency h k = record {
  numbered = nat_lt 0 concurrency;
  slots = map (λ n. holder (nat_lt 0 concurrency) h k (channel_name (nat_lt 0 concurrency) n))
      (below (max 1 concurrency));
}

-- what a line is: a reply to the question that is open on its channel, outside the grammar, or on a
-- channel with none
pub data LineIs : Type 0 where
  ReplyTo : ℕ → Reply → LineIs
  Outside : LineIs
  OnFree : LineIs

-- what a reply is on a channel: an answer to its question, or one that nobody asked for
abbrev pub line_at : Option ℕ → Reply → LineIs
line_at None reply = OnFree
line_at (Some q) reply = ReplyTo q reply

-- what a line is that reads as this answer, or as none
abbrev pub line_by : Channels → Option Answer → LineIs
line_by p None = Outside
line_by p (Some a) = line_at (slot_of p.slots a.0) a.1

-- what a line of a process is, by its channels
unfoldable pub line_is : Channels → List ℕ → LineIs
line_is p bytes = line_by p (reply_of p.numbered bytes)

-- what the machine tells of such a line
abbrev pub line_told : LineIs → Told
line_told (ReplyTo q reply) = told.Reply q reply.word
line_told Outside = told.Bad
line_told OnFree = told.Stray
