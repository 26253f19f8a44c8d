-- What the lines of a rewriter's processes answer, told by the calls alone (helper protocol page,
-- "concurrency").
use Rattle.std.specs.Prelude.{ℕ, List, [], ◌∷◌, Bool, true, false, ◌&&◌, ◌==◌, if◌then◌else◌, nat_lt, Some, None}
use Rattle.std.specs.declared.option.Option.{Option}
use Rattle.sq_base.specs.Replies.{Answer, reply_of}
use Rattle.sq_channel.specs.Gots.{got_at}
use Rattle.sq_channel.specs.declared.replies.Got.{Got}
use Rattle.sq_channel.specs.declared.replies.Got.TheVariants as got
use Rattle.sq_machine.specs.Channels.{freed}
use Rattle.sq_rules.specs.Classes.{Class}
use Rattle.sq_rewrite.specs.Calls.{Calls, Asked, Acted, Started, StartFailed, Wrote, Died, Took}
use Rattle.sq_rewrite.specs.declared.acts.RewriteAct.{RewriteAct}
use Rattle.sq_rewrite.specs.declared.acts.RewriteAct.TheVariants as act

-- a channel by its number, and none where lines have no channels
abbrev pub same_channel : Option ℕ → Option ℕ → Bool
same_channel None None = true
same_channel None (Some n) = false
same_channel (Some m) None = false
same_channel (Some m) (Some n) = m == n

-- a send puts its question on its channel
abbrev pub once_put : ℕ → Option ℕ → RewriteAct → Option ℕ → Option ℕ
once_put k channel (act.Send p q other text) o = if (k == p) && same_channel channel other
    then Some q else o
once_put k channel (act.Stop p) o = o
once_put k channel act.Start o = o

-- a reply takes its question from the channels of its process
abbrev pub once_heard : ℕ → ℕ → Got → Option ℕ → Option ℕ
once_heard k p (got.Reply q reply) o = if k == p then freed q o else o
once_heard k p got.Bad o = o
once_heard k p got.Stray o = o

-- the question on a channel of process k: the one that was sent there last, where it has no reply
abbrev pub question_on : ℕ → Option ℕ → Calls → Option ℕ
question_on k channel [] = None
question_on k channel (Asked r addr q ∷ h) = question_on k channel h
question_on k channel (Acted a ∷ h) = once_put k channel a (question_on k channel h)
question_on k channel (Started p ∷ h) = question_on k channel h
question_on k channel (StartFailed ∷ h) = question_on k channel h
question_on k channel (Wrote p line g ∷ h) = once_heard k p g (question_on k channel h)
question_on k channel (Died p ∷ h) = question_on k channel h
question_on k channel (Took q w ∷ h) = question_on k channel h

abbrev pub answers_by : ℕ → Calls → Option Answer → Got
answers_by k h None = got.Bad
answers_by k h (Some a) = got_at (question_on k a.0 h) a.1

-- what a line of process k answers: one outside the grammar is bad, a reply is to the question on
-- its channel, and any other is stray
abbrev pub line_answers : Class → Calls → ℕ → List ℕ → Got
line_answers c h k line = answers_by k h (reply_of (nat_lt 0 c.concurrency) line)
