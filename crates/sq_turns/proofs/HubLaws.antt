-- What a front answers where its hub does not make a call.
use Rattle.std.proofs.Common.{◌≡◌, ◌⊎◌, ℕ, ◌≤◌, Result, Ok, Err, sym, subst, arith}
use Rattle.sq_base.specs.Requests.{HttpRequest}
use Rattle.sq_outside.specs.Causes.{raised}
use Rattle.sq_machine.specs.declared.refusals.Refusal.TheVariants as refusal
use Rattle.sq_turns.specs.Fronts.{Decides, Asks, OpenRefuses, DecideRefuses}
use Rattle.sq_turns.specs.declared.front.Decided.{Decided}
use Rattle.sq_turns.specs.declared.front.Opened.{Opened}
use Rattle.sq_turns.specs.Hubs.{IsRefusal, HubRefuses, IsFailure, HubFails, OpenFails, DecideFails, opened_of, decided_of}
use Rattle.sq_turns.specs.declared.hub.HubFault.{HubFault}
use Rattle.sq_turns.specs.declared.hub.HubFault.TheVariants.{Refused, JournalFault, WantOfMemory}

opens_refuses : (a b : ℕ) (fault : HubFault) → IsRefusal a b fault → OpenRefuses a b (opened_of fault)
opens_refuses a b (Refused (refusal.ConnInUse n)) x = x
opens_refuses a b (Refused (refusal.UnknownConn n)) x = x
opens_refuses a b (Refused (refusal.TooManyConns n)) x = x
opens_refuses a b (Refused (refusal.CheckOpen n)) x = x
opens_refuses a b (Refused (refusal.UnknownCheck n)) x = x
opens_refuses a b (Refused (refusal.NotDone n)) x = x
opens_refuses a b (Refused (refusal.NoStartOpen e n)) x = x
opens_refuses a b (Refused (refusal.UnknownProc n)) x = x
opens_refuses a b (Refused (refusal.TooManyEpochs n)) x = x
opens_refuses a b (Refused (refusal.Spent n)) x = x
opens_refuses a b (Refused refusal.WantOfMemory) x = tt
opens_refuses a b JournalFault x = x
opens_refuses a b WantOfMemory x = tt

decides_refuses : (a b : ℕ) (fault : HubFault) → IsRefusal a b fault → DecideRefuses a b (decided_of fault)
decides_refuses a b (Refused (refusal.ConnInUse n)) x = x
decides_refuses a b (Refused (refusal.UnknownConn n)) x = x
decides_refuses a b (Refused (refusal.TooManyConns n)) x = x
decides_refuses a b (Refused (refusal.CheckOpen n)) x = x
decides_refuses a b (Refused (refusal.UnknownCheck n)) x = x
decides_refuses a b (Refused (refusal.NotDone n)) x = x
decides_refuses a b (Refused (refusal.NoStartOpen e n)) x = x
decides_refuses a b (Refused (refusal.UnknownProc n)) x = x
decides_refuses a b (Refused (refusal.TooManyEpochs n)) x = x
decides_refuses a b (Refused (refusal.Spent n)) x = x
decides_refuses a b (Refused refusal.WantOfMemory) x = tt
decides_refuses a b JournalFault x = x
decides_refuses a b WantOfMemory x = tt

opens_fails : (a b : ℕ) (fault : HubFault) → IsFailure a b fault → OpenFails a b (opened_of fault)
opens_fails a b (Refused (refusal.ConnInUse n)) x = tt
opens_fails a b (Refused (refusal.UnknownConn n)) x = tt
opens_fails a b (Refused (refusal.TooManyConns n)) x = tt
opens_fails a b (Refused (refusal.CheckOpen n)) x = tt
opens_fails a b (Refused (refusal.UnknownCheck n)) x = tt
opens_fails a b (Refused (refusal.NotDone n)) x = tt
opens_fails a b (Refused (refusal.NoStartOpen e n)) x = tt
opens_fails a b (Refused (refusal.UnknownProc n)) x = tt
opens_fails a b (Refused (refusal.TooManyEpochs n)) x = tt
opens_fails a b (Refused (refusal.Spent n)) x = tt
opens_fails a b (Refused refusal.WantOfMemory) x = tt
opens_fails a b JournalFault x = x
opens_fails a b WantOfMemory x = tt

decides_fails : (a b : ℕ) (fault : HubFault) → IsFailure a b fault → DecideFails a b (decided_of fault)
decides_fails a b (Refused (refusal.ConnInUse n)) x = tt
decides_fails a b (Refused (refusal.UnknownConn n)) x = tt
decides_fails a b (Refused (refusal.TooManyConns n)) x = tt
decides_fails a b (Refused (refusal.CheckOpen n)) x = tt
decides_fails a b (Refused (refusal.UnknownCheck n)) x = tt
decides_fails a b (Refused (refusal.NotDone n)) x = tt
decides_fails a b (Refused (refusal.NoStartOpen e n)) x = tt
decides_fails a b (Refused (refusal.UnknownProc n)) x = tt
decides_fails a b (Refused (refusal.TooManyEpochs n)) x = tt
decides_fails a b (Refused (refusal.Spent n)) x = tt
decides_fails a b (Refused refusal.WantOfMemory) x = tt
decides_fails a b JournalFault x = x
decides_fails a b WantOfMemory x = tt

decides_any : (r : HttpRequest) (fault : HubFault) → Decides r (decided_of fault)
decides_any r (Refused (refusal.ConnInUse n)) = tt
decides_any r (Refused (refusal.UnknownConn n)) = tt
decides_any r (Refused (refusal.TooManyConns n)) = tt
decides_any r (Refused (refusal.CheckOpen n)) = tt
decides_any r (Refused (refusal.UnknownCheck n)) = tt
decides_any r (Refused (refusal.NotDone n)) = tt
decides_any r (Refused (refusal.NoStartOpen e n)) = tt
decides_any r (Refused (refusal.UnknownProc n)) = tt
decides_any r (Refused (refusal.TooManyEpochs n)) = tt
decides_any r (Refused (refusal.Spent n)) = tt
decides_any r (Refused refusal.WantOfMemory) = tt
decides_any r JournalFault = tt
decides_any r WantOfMemory = tt

asks_any : (a b : ℕ) (fault : HubFault) → (b ≡ a) ⊎ (b ≡ raised a) → Asks a b (decided_of fault)
asks_any a b (Refused (refusal.ConnInUse n)) x = x
asks_any a b (Refused (refusal.UnknownConn n)) x = x
asks_any a b (Refused (refusal.TooManyConns n)) x = x
asks_any a b (Refused (refusal.CheckOpen n)) x = x
asks_any a b (Refused (refusal.UnknownCheck n)) x = x
asks_any a b (Refused (refusal.NotDone n)) x = x
asks_any a b (Refused (refusal.NoStartOpen e n)) x = x
asks_any a b (Refused (refusal.UnknownProc n)) x = x
asks_any a b (Refused (refusal.TooManyEpochs n)) x = x
asks_any a b (Refused (refusal.Spent n)) x = x
asks_any a b (Refused refusal.WantOfMemory) x = x
asks_any a b JournalFault x = x
asks_any a b WantOfMemory x = x

pub refusal_later : (a b c : ℕ) (fault : HubFault) → a ≤ b → IsRefusal b c fault → IsRefusal a c fault
refusal_later a b c (Refused why) h x = omega (arith, h, x)
refusal_later a b c JournalFault h x = omega (arith, h, x)
refusal_later a b c WantOfMemory h x = tt

pub refuses_later : {T : Type 0} (a b c : ℕ) (r : Result T HubFault) → a ≤ b → HubRefuses b c r → HubRefuses a c r
refuses_later a b c (Ok x) h y = tt
refuses_later a b c (Err fault) h y = refusal_later a b c fault h y

pub failure_later : (a b c : ℕ) (fault : HubFault) → a ≤ b → IsFailure b c fault → IsFailure a c fault
failure_later a b c (Refused why) h x = tt
failure_later a b c JournalFault h x = omega (arith, h, x)
failure_later a b c WantOfMemory h x = tt

pub fails_later : {T : Type 0} (a b c : ℕ) (r : Result T HubFault) → a ≤ b → HubFails b c r → HubFails a c r
fails_later a b c (Ok x) h y = tt
fails_later a b c (Err fault) h y = failure_later a b c fault h y

-- by what the front answered
pub opens_as : (a b : ℕ) (fault : HubFault) (o : Opened) → o ≡ opened_of fault → IsRefusal a b fault → OpenRefuses a b o
opens_as a b fault o e x = subst (OpenRefuses a b) (sym e) (opens_refuses a b fault x)

pub refuses_as : (a b c : ℕ) (fault : HubFault) (d : Decided) → d ≡ decided_of fault → a ≤ b → IsRefusal b c fault
    → DecideRefuses a c d
refuses_as a b c fault d e h x = subst (DecideRefuses a c) (sym e)
    (decides_refuses a c fault (refusal_later a b c fault h x))

pub opens_failed : (a b : ℕ) (fault : HubFault) (o : Opened) → o ≡ opened_of fault → IsFailure a b fault
    → OpenFails a b o
opens_failed a b fault o e x = subst (OpenFails a b) (sym e) (opens_fails a b fault x)

pub decides_failed : (a b c : ℕ) (fault : HubFault) (d : Decided) → d ≡ decided_of fault → a ≤ b → IsFailure b c fault
    → DecideFails a c d
decides_failed a b c fault d e h x = subst (DecideFails a c) (sym e)
    (decides_fails a c fault (failure_later a b c fault h x))

pub decides_as : (r : HttpRequest) (fault : HubFault) (d : Decided) → d ≡ decided_of fault → Decides r d
decides_as r fault d e = subst (Decides r) (sym e) (decides_any r fault)

pub asks_as : (a b : ℕ) (fault : HubFault) (d : Decided) → d ≡ decided_of fault → (b ≡ a) ⊎ (b ≡ raised a) → Asks a b d
asks_as a b fault d e x = subst (Asks a b) (sym e) (asks_any a b fault x)

pub asks_now : (a b : ℕ) (d : Decided) → b ≡ raised a → Asks a (raised a) d → Asks a b d
asks_now a b d e x = subst (λ n. Asks a n d) (sym e) x
