-- What a line answers (helper protocol page).
use Rattle.std.specs.Prelude.{◌≡◌, ℕ, List, true, Some, None}
use Rattle.std.specs.declared.option.Option.{Option}
use Rattle.sq_base.specs.declared.helpers.Reply.{Reply}
use Rattle.sq_base.specs.Replies.{Answer, reply_of}
use Rattle.sq_channel.specs.declared.replies.Got.{Got}
use Rattle.sq_channel.specs.declared.replies.Got.TheVariants as got
use Rattle.sq_machine.specs.Channels.{Channels, is_open, settled, slot_of}

abbrev pub got_at : Option ℕ → Reply → Got
got_at None reply = got.Stray
got_at (Some q) reply = got.Reply q reply

abbrev pub got_by : List (Option ℕ) → Option Answer → Got
got_by slots None = got.Bad
got_by slots (Some a) = got_at (slot_of slots a.0) a.1

-- what the line answers: the question that is open on its channel
unfoldable pub got_in : Channels → List ℕ → Got
got_in p line = got_by p.slots (reply_of p.numbered line)

-- a reply is to a question that is open on some channel
abbrev pub names_open : List (Option ℕ) → Got → Type 0
names_open slots (got.Reply q reply) = is_open q slots ≡ true
names_open slots got.Bad = Unit {0}
names_open slots got.Stray = Unit {0}

-- a reply frees the channel of its question
abbrev pub settled_by : Got → List (Option ℕ) → List (Option ℕ)
settled_by (got.Reply q reply) slots = settled q slots
settled_by got.Bad slots = slots
settled_by got.Stray slots = slots
