-- What a line of a process comes to in its farm.
use Rattle.std.specs.Prelude.{ℕ, List, Bool, false, ◌==◌}
use Rattle.std.specs.declared.option.Option.{Option}
use Rattle.std.specs.Option.{option_map}
use Rattle.sq_base.specs.declared.helpers.Cause.TheVariants as cause
use Rattle.sq_channel.specs.Gots.{got_in}
use Rattle.sq_channel.specs.declared.replies.Got.{Got}
use Rattle.sq_channel.specs.declared.replies.Got.TheVariants as got
use Rattle.sq_machine.specs.Farms.{Stock, ended}
use Rattle.sq_machine.specs.Living.{find_proc, settled_in}

-- what a line of process k answers
abbrev pub got_of : ℕ → Stock → List ℕ → Option Got
got_of k v line = option_map (λ p. got_in p line) (find_proc k v.procs)

-- after that answer: a reply frees its channel, and any other line ends the process
abbrev pub after_got : ℕ → Got → Stock → Stock
after_got k (got.Reply q reply) v = record v { procs = settled_in k q v.procs }
after_got k got.Bad v = ended cause.BadReply k v
after_got k got.Stray v = ended cause.Stray k v

-- the answer is a reply to this question
abbrev pub is_reply_to : ℕ → Got → Bool
is_reply_to q (got.Reply p reply) = q == p
is_reply_to q got.Bad = false
is_reply_to q got.Stray = false
