-- An allowed request with an origin that was reached.
use Rattle.std.specs.Prelude.{◌≡◌, ℕ, List, [], Bool, true, false, ◌&&◌, not, Some, None}
use Rattle.std.specs.declared.option.Option.{Option}
use Rattle.std.specs.Io.KnownBytes.{Appends}
use Rattle.sq_outside.specs.Dials.{Dial}
use Rattle.sq_outside.specs.Output.{IsPrefix}
use Rattle.sq_forward.specs.Access.{HeaderAccess}
use Rattle.sq_forward.specs.Exchanges.{Message, ExchangeSeen, exchange}
use Rattle.sq_forward.specs.Replies.{Reading}
use Rattle.sq_forward.specs.declared.tunnels.Tunnelled.{Tunnelled}
use Rattle.sq_forward.specs.declared.tunnels.Tunnelled.TheVariants as tunnelled
use Rattle.sq_turns.specs.Fronts.{FrontAnswer}
use Rattle.sq_turns.specs.Turns.{ClientTurn, text, is_connect, forwarded, exchanged_turn, ends_exchange}
use Rattle.sq_turns.specs.Steps.{is_exact, IsReply, Pays, WritesAs}
use Rattle.sq_turns.specs.declared.ends.Carried.{Carried}
use Rattle.sq_turns.specs.declared.ends.Carried.TheVariants.{Stays, Closes, Over}
use Rattle.sq_turns.specs.declared.ends.End.TheVariants as end

-- what the origin gets of a turn
abbrev pub given_by : Option Dial → List ℕ
given_by None = []
given_by (Some d) = d.written

-- a turn behind its dial: what was written to the client and to the origin
pub record ForwardsAs (t : ClientTurn) (unasked : List FrontAnswer) (broke : Bool)
    (links : ExchangeSeen) (ended : Carried) : Type 0 where
  pub written : List ℕ
  pub given : List ℕ
  pub exact : is_exact ended ≡ true → (t.ends ≡ ended) × (written ≡ text t)
  pub front : IsPrefix written (text t)
  pub gives : WritesAs (is_exact ended && not broke) given (given_by t.dial)
  pub wrote : Appends links.client.before links.client.now written
  pub gave : Appends links.origin.before links.origin.now given
  pub pays : Pays t links.client.seated written ended links.client.granted_before
      links.client.granted_now
  pub rest : ended ≡ Stays → links.left ≡ Some t.rest
  pub spare : t.unasked ≡ unasked

-- an exchange over these bytes of the origin
pub record Trades (access : HeaderAccess) (sent : Message) (rest bytes : List ℕ)
    (links : ExchangeSeen) (failed : Type 0) (ended : Carried) : Type 0 where
  pub seen : List ℕ
  pub reading : Reading
  pub broke : Bool
  pub fits : IsReply bytes seen reading broke ended
  pub broken : broke ≡ true → failed
  pub goes : (unasked : List FrontAnswer)
      → ForwardsAs (exchanged_turn sent.request bytes broke
      (ends_exchange broke (exchange access sent.request sent.addr sent.plan rest reading))
      (exchange access sent.request sent.addr sent.plan rest reading)
      unasked) unasked broke links ended

-- an exchange or a tunnel, as the request asks
pub record Forwards (access : HeaderAccess) (sent : Message) (rest bytes : List ℕ)
    (links : ExchangeSeen) (failed : Type 0) (ended : Carried) : Type 0 where
  pub seen : List ℕ
  pub reading : Reading
  pub broke : Bool
  pub fits : (is_connect sent.request ≡ false → IsReply bytes seen reading broke ended)
      × (is_connect sent.request ≡ true → broke ≡ false)
  pub broken : broke ≡ true → failed
  pub goes : (unasked : List FrontAnswer)
      → ForwardsAs (forwarded access sent rest bytes reading broke unasked) unasked broke links
      ended

-- how a turn ends by its tunnel
abbrev pub tunnel_end : Tunnelled → Carried
tunnel_end tunnelled.Ended = Closes
tunnel_end tunnelled.ClientFault = Over end.ClientFault
tunnel_end tunnelled.OriginFault = Over end.OriginFault
tunnel_end tunnelled.Starved = Over end.Starved
tunnel_end tunnelled.WantOfMemory = Over end.WantOfMemory
