-- The opening of a connection and its close, over a hub that tells.
use Rattle.std.proofs.Common.{◌≡◌, ℕ, Option, Ok, Err, sym, subst}
use Rattle.sq_base.specs.Addresses.{Address}
use Rattle.sq_machine.specs.declared.entries.Event.TheVariants as event
use Rattle.sq_machine.specs.declared.refusals.Refusal.TheVariants as refusal
use Rattle.sq_turns.specs.declared.front.CloseFault.{CloseFault}
use Rattle.sq_turns.specs.declared.front.Opened.{Opened}
use Rattle.sq_turns.specs.declared.front.Opened.TheVariants as opened
use Rattle.sq_turns.specs.Hubs.{opened_of, unclosed_of}
use Rattle.sq_turns.specs.Judging.{Closes, ClosesBy, Opens, OpensBy}
use Rattle.sq_turns.specs.Tellings.{HubState, IsFine, IsNext, Makes, MakesOn, Tells, machine_now}
use Rattle.sq_turns.specs.declared.hub.HubFault.{HubFault}
use Rattle.sq_turns.specs.declared.hub.HubFault.TheVariants.{Refused, JournalFault, WantOfMemory}
use Rattle.sq_turns.proofs.TellLaws.{tells_as}

opens_fault : (conn : ℕ) (a : Address) (port : ℕ) (fault : HubFault) (v w : HubState)
    → Makes IsFine (event.Open conn a port) (Err fault) v w
    → OpensBy (event.Open conn a port) (opened_of fault) v w.machine
opens_fault conn a port (Refused (refusal.ConnInUse n)) v w by = (by.answers (λ e. cc), by.unmade, λ m e. cc)
opens_fault conn a port (Refused (refusal.UnknownConn n)) v w by = (by.answers (λ e. cc), by.unmade, λ m e. cc)
opens_fault conn a port (Refused (refusal.TooManyConns n)) v w by = ((n, by.answers (λ e. cc)), by.unmade)
opens_fault conn a port (Refused (refusal.CheckOpen n)) v w by = (by.answers (λ e. cc), by.unmade, λ m e. cc)
opens_fault conn a port (Refused (refusal.UnknownCheck n)) v w by = (by.answers (λ e. cc), by.unmade, λ m e. cc)
opens_fault conn a port (Refused (refusal.NotDone n)) v w by = (by.answers (λ e. cc), by.unmade, λ m e. cc)
opens_fault conn a port (Refused (refusal.NoStartOpen e n)) v w by = (by.answers (λ e. cc), by.unmade, λ m e. cc)
opens_fault conn a port (Refused (refusal.UnknownProc n)) v w by = (by.answers (λ e. cc), by.unmade, λ m e. cc)
opens_fault conn a port (Refused (refusal.TooManyEpochs n)) v w by = (by.answers (λ e. cc), by.unmade, λ m e. cc)
opens_fault conn a port (Refused (refusal.Spent n)) v w by = (by.answers (λ e. cc), by.unmade, λ m e. cc)
opens_fault conn a port (Refused refusal.WantOfMemory) v w by = by.unmade
opens_fault conn a port JournalFault v w by = by.unmade
opens_fault conn a port WantOfMemory v w by = by.unmade

pub tells_in : (conn : ℕ) (addr : Address) (port : ℕ) (u : Unit {0}) (a b : Option HubState)
    → Tells (MakesOn IsFine (event.Open conn addr port) (Ok u)) a b → Tells (Opens conn addr port opened.In) a b
tells_in conn addr port u a b p =
    tells_as (MakesOn IsFine (event.Open conn addr port) (Ok u)) (Opens conn addr port opened.In) a b
    (λ v w by. record {
      opens = subst (λ t. IsNext v.machine (machine_now v) (event.Open conn addr port) t w.machine) by.makes.answers.1
          by.makes.answers.2;
      rewriter = by.makes.rewriter;
      pools = by.makes.pools;
    })
    p

pub tells_unopened : (conn : ℕ) (addr : Address) (port : ℕ) (fault : HubFault) (o : Opened) (a b : Option HubState)
    → o ≡ opened_of fault → Tells (MakesOn IsFine (event.Open conn addr port) (Err fault)) a b
    → Tells (Opens conn addr port o) a b
tells_unopened conn addr port fault o a b is p =
    subst (λ y. Tells (Opens conn addr port y) a b) (sym is)
    (tells_as (MakesOn IsFine (event.Open conn addr port) (Err fault)) (Opens conn addr port (opened_of fault)) a b
    (λ v w by. record {
      opens = opens_fault conn addr port fault v w by.makes;
      rewriter = by.makes.rewriter;
      pools
          = by.makes.pools;
    }) p)

closes_fault : (conn : ℕ) (fault : HubFault) (v w : HubState) → Makes IsFine (event.Close conn) (Err fault) v w
    → ClosesBy (event.Close conn) (Err (unclosed_of fault)) v w.machine
closes_fault conn (Refused (refusal.ConnInUse n)) v w by = (by.answers (λ e. cc), by.unmade)
closes_fault conn (Refused (refusal.UnknownConn n)) v w by = (by.answers (λ e. cc), by.unmade)
closes_fault conn (Refused (refusal.TooManyConns n)) v w by = (by.answers (λ e. cc), by.unmade)
closes_fault conn (Refused (refusal.CheckOpen n)) v w by = (by.answers (λ e. cc), by.unmade)
closes_fault conn (Refused (refusal.UnknownCheck n)) v w by = (by.answers (λ e. cc), by.unmade)
closes_fault conn (Refused (refusal.NotDone n)) v w by = (by.answers (λ e. cc), by.unmade)
closes_fault conn (Refused (refusal.NoStartOpen e n)) v w by = (by.answers (λ e. cc), by.unmade)
closes_fault conn (Refused (refusal.UnknownProc n)) v w by = (by.answers (λ e. cc), by.unmade)
closes_fault conn (Refused (refusal.TooManyEpochs n)) v w by = (by.answers (λ e. cc), by.unmade)
closes_fault conn (Refused (refusal.Spent n)) v w by = (by.answers (λ e. cc), by.unmade)
closes_fault conn (Refused refusal.WantOfMemory) v w by = by.unmade
closes_fault conn JournalFault v w by = by.unmade
closes_fault conn WantOfMemory v w by = by.unmade

pub tells_closed : (conn : ℕ) (u : Unit {0}) (a b : Option HubState)
    → Tells (MakesOn IsFine (event.Close conn) (Ok u)) a b → Tells (Closes conn (Ok u)) a b
tells_closed conn u a b p =
    tells_as (MakesOn IsFine (event.Close conn) (Ok u)) (Closes conn (Ok u)) a b
    (λ v w by. record {
      closes = subst (λ t. IsNext v.machine (machine_now v) (event.Close conn) t w.machine) by.makes.answers.1
          by.makes.answers.2;
      rewriter = by.makes.rewriter;
      pools = by.makes.pools;
    })
    p

pub tells_unclosed : (conn : ℕ) (fault : HubFault) (c : CloseFault) (a b : Option HubState) → c ≡ unclosed_of fault
    → Tells (MakesOn IsFine (event.Close conn) (Err fault)) a b → Tells (Closes conn (Err c)) a b
tells_unclosed conn fault c a b is p =
    subst (λ y. Tells (Closes conn (Err y)) a b) (sym is)
    (tells_as (MakesOn IsFine (event.Close conn) (Err fault)) (Closes conn (Err (unclosed_of fault))) a b
    (λ v w by. record {
      closes = closes_fault conn fault v w by.makes;
      rewriter = by.makes.rewriter;
      pools
          = by.makes.pools;
    }) p)
