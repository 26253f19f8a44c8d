-- The calls of a rewriter that were not refused, each with its answer. A call that answers none is
-- no entry: it changes nothing.
use Rattle.std.specs.Prelude.{ℕ, List}
use Rattle.sq_base.specs.Addresses.{Address}
use Rattle.sq_base.specs.Requests.{HttpRequest}
use Rattle.sq_channel.specs.declared.replies.Got.{Got}
use Rattle.sq_rewrite.specs.declared.acts.RewriteAct.{RewriteAct}
use Rattle.sq_rewrite.specs.declared.rewritings.Rewriting.{Rewriting}

pub data Call : Type 0 where
  -- a request of a client with this address was put as this question
  Asked : HttpRequest → Address → ℕ → Call
  -- this act was due, and was made
  Acted : RewriteAct → Call
  -- a start became this process
  Started : ℕ → Call
  -- a start failed
  StartFailed : Call
  -- this process wrote this line, which came to this
  Wrote : ℕ → List ℕ → Got → Call
  -- this process died
  Died : ℕ → Call
  -- this was taken of this question
  Took : ℕ → Rewriting → Call

-- calls in their order, the last one first
abbrev pub Calls : Type 0
Calls = List Call
