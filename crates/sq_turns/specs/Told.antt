-- What is said where links and dialers tell what they hold.
use Rattle.std.specs.Prelude.{ℕ, List, Bool, false, IfSome}
use Rattle.std.specs.declared.option.Option.{Option}
use Rattle.sq_base.specs.Addresses.{Address}
use Rattle.sq_base.specs.Requests.{HttpRequest}
use Rattle.sq_checks.specs.Records.{Judged}
use Rattle.sq_forward.specs.Exchanges.{Message, ExchangeSeen}
use Rattle.sq_forward.specs.Access.{HeaderAccess}
use Rattle.sq_outside.specs.Dials.{Dialled}
use Rattle.sq_turns.specs.Begins.{BeginsSo}
use Rattle.sq_turns.specs.Carrying.{Carries, Obeys}
use Rattle.sq_turns.specs.Forwarding.{ForwardsAs, Trades, Forwards}
use Rattle.sq_turns.specs.Fronts.{FrontAnswer}
use Rattle.sq_turns.specs.Sessions.{SessionSeen, Answers, TakesTurn, Serves, IsSession}
use Rattle.sq_turns.specs.Steps.{FrontSeen, TurnSeen, Goes}
use Rattle.sq_turns.specs.Turns.{is_connect, dialled, tunnelled_turn}
use Rattle.sq_turns.specs.declared.beginning.Begun.{Begun}
use Rattle.sq_turns.specs.declared.ends.Carried.{Carried}
use Rattle.sq_turns.specs.declared.ends.End.{End}

-- an input's beginning, of what was to come and what is left
pub record BeginsTold (first left : Option (List ℕ)) (begun : Begun) : Type 0 where
  pub known : IfSome first (λ input. BeginsSo input left begun)

-- an exchange, of the client's input and the origin's bytes
pub record TradesTold (access : HeaderAccess) (sent : Message) (first told : Option (List ℕ))
    (links : ExchangeSeen) (failed : Type 0) (ended : Carried) : Type 0 where
  pub known : IfSome first
      (λ rest. IfSome told (λ bytes. Trades access sent rest bytes links failed ended))

-- a tunnel
pub record ConnectsTold (first told : Option (List ℕ)) (links : ExchangeSeen)
    (ended : Carried) : Type 0 where
  pub known : IfSome first
      (λ rest. IfSome told (λ bytes. (r : HttpRequest) (unasked : List FrontAnswer)
      → ForwardsAs (tunnelled_turn r bytes rest unasked) unasked false links ended))

-- either, as the request asks
pub record ForwardsTold (access : HeaderAccess) (sent : Message) (first told : Option (List ℕ))
    (links : ExchangeSeen) (failed : Type 0) (ended : Carried) : Type 0 where
  pub known : IfSome first
      (λ rest. IfSome told (λ bytes. Forwards access sent rest bytes links failed ended))

-- the part of a turn from the dial on, of the client's input and the dialer's word
pub record ReachesTold (access : HeaderAccess) (sent : Message) (first : Option (List ℕ))
    (seated : Bool) (links : TurnSeen) (dialled_now : Option Dialled) (failed : Type 0)
    (ended : Carried) : Type 0 where
  pub known : IfSome first
      (λ rest. IfSome dialled_now (λ now. (unasked : List FrontAnswer)
      → Goes (is_connect sent.request)
      (dialled access sent.request sent.addr sent.plan rest unasked) unasked seated links now
      failed ended))

-- the part of a turn from the scheme on
pub record CarriesTold (sent : Message) (j : Judged) (first : Option (List ℕ)) (front : FrontSeen)
    (links : TurnSeen) (dialled_now : Option Dialled) (failed : Type 0)
    (ended : Carried) : Type 0 where
  pub known : IfSome first
      (λ rest. IfSome dialled_now (λ now. Carries sent rest j front links now failed ended))

-- the part of a turn from the record on
pub record ObeysTold (sent : Message) (j : Judged) (first : Option (List ℕ)) (front : FrontSeen)
    (links : TurnSeen) (dialled_now : Option Dialled) (failed : Type 0)
    (ended : Carried) : Type 0 where
  pub known : IfSome first
      (λ rest. IfSome dialled_now (λ now. Obeys sent rest j front links now failed ended))

-- the part of a turn from the request on
pub record AnswersTold (r : HttpRequest) (addr : Address) (first : Option (List ℕ))
    (front : FrontSeen) (links : TurnSeen) (dialled_now : Option Dialled) (failed : Type 0)
    (ended : Carried) : Type 0 where
  pub known : IfSome first
      (λ rest. IfSome dialled_now (λ now. Answers r addr rest front links now failed ended))

-- a turn
pub record TurnTold (addr : Address) (first : Option (List ℕ)) (front : FrontSeen)
    (links : TurnSeen) (dialled_now : Option Dialled) (failed : Type 0)
    (ended : Carried) : Type 0 where
  pub known : IfSome first
      (λ input. IfSome dialled_now (λ now. TakesTurn addr input front links now failed ended))

-- the turns of an open connection
pub record ServesTold (addr : Address) (first : Option (List ℕ)) (front : FrontSeen)
    (links : SessionSeen) (dialled_now : Option Dialled) (failed : Type 0)
    (end : End) : Type 0 where
  pub known : IfSome first
      (λ input. IfSome dialled_now (λ now. Serves addr input front links now failed end))

-- a session
pub record SessionTold (addr : Address) (port : ℕ) (first : Option (List ℕ)) (front : FrontSeen)
    (links : SessionSeen) (dialled_now : Option Dialled) (failed : Type 0)
    (end : End) : Type 0 where
  pub known : IfSome first
      (λ input. IfSome dialled_now (λ now. IsSession addr port input front links now failed end))
