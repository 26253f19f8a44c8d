-- What the machine that a script runs makes of an event, over every history that it stands for.
use Rattle.std.specs.Prelude.{◌≡◌, ◌⊎◌, ℕ, suc, max, List, Bool, true, false, Result, Ok, Err, Some, None, is_some}
use Rattle.std.specs.declared.option.Option.{Option}
use Rattle.sq_base.specs.declared.memory.WantOfMemory.{WantOfMemory}
use Rattle.sq_request.specs.Written.{made_request}
use Rattle.sq_machine.specs.declared.entries.Event.{Event}
use Rattle.sq_machine.specs.declared.entries.Event.TheVariants.{Act, Ask, Begin, Grant, Leave, Reconfigure, Seat}
use Rattle.sq_machine.specs.declared.entries.Told.{Told}
use Rattle.sq_machine.specs.declared.refusals.Refusal.{Refusal}
use Rattle.sq_machine.specs.declared.refusals.Refusal.TheVariants as refusal
use Rattle.sq_rules.specs.Configurations.{Configuration}
use Rattle.sq_machine.specs.Entries.{History}
use Rattle.sq_machine.specs.Machine.{next}
use Rattle.sq_machine.specs.Epochs.{config_of}
use Rattle.sq_machine.specs.Next.{Next, gives, nothing, refuses}
use Rattle.sq_machine.specs.Marking.{marked}
use Rattle.sq_machine.specs.Readings.{current}
use Rattle.sq_replay.specs.declared.stops.Stop.{Stop}
use Rattle.sq_replay.specs.declared.stops.Stop.TheVariants as stop
use Rattle.sq_replay.specs.Runs.{Is, IsMade, ScriptView}

-- the machine has no answer
abbrev pub is_refused : Next → Bool
is_refused (gives answer) = false
is_refused (refuses r) = true
is_refused nothing = true

-- the event may stand in a line of a script behind the first: it is no `begin` and no `act`, and
-- the request that asks can be made
abbrev pub MayStand : Event → Type 0
MayStand (Begin offset) = ⊥
MayStand Act = ⊥
MayStand (Ask conn method target fields) = is_some (made_request method target 1 fields) ≡ true
MayStand event = Unit {0}

-- it may not stand there, or the machine refuses it after this history
abbrev pub IsRefusal : List Configuration → History → ℕ → Event → Type 0
IsRefusal configs h moment Act = Unit {0}
IsRefusal configs h moment (Ask conn method target fields) =
    (made_request method target 1 fields ≡ None)
    ⊎ (is_refused (next configs (marked configs h) moment (Ask conn method target fields)) ≡ true)
IsRefusal configs h moment event = is_refused (next configs (marked configs h) moment event) ≡ true

-- the event is made at the greatest moment so far, or it is refused; where memory is wanting,
-- nothing is said
abbrev pub IsMaking : ScriptView → ScriptView → ℕ → Event → Result Told Stop → Type 0
IsMaking old new now event (Ok told) = MayStand event
    × ((configs : List Configuration) (h : History) → Is old configs h
    → IsMade new configs h (max now old.latest) event told)
IsMaking old new now event (Err stop.Refused) = (configs : List Configuration) (h : History)
    → Is old configs h → IsRefusal configs h (max now old.latest) event
IsMaking old new now event (Err stop.WantOfMemory) = Unit {0}

-- an event of delay pools
abbrev pub is_pooled : Event → Bool
is_pooled (Seat conn) = true
is_pooled (Grant seat wanted) = true
is_pooled (Leave seat) = true
is_pooled event = false

-- where an event is refused, the machine stands for what it stood for
abbrev pub IsLeft : ScriptView → ScriptView → Result Told Stop → Type 0
IsLeft old new (Ok told) = Unit {0}
IsLeft old new (Err stop.Refused) = (configs : List Configuration) (h : History)
    → Is old configs h → Is new configs h
IsLeft old new (Err stop.WantOfMemory) = Unit {0}

-- the same of a reconfiguration, where this is the configuration of the next epoch
abbrev pub IsReconfiguring : ScriptView → ScriptView → ℕ → Configuration → Result Told Stop → Type 0
IsReconfiguring old new now config (Ok told) =
    (configs : List Configuration) (h : History) → Is old configs h
    → config_of configs (suc (current h)) ≡ Some config
    → IsMade new configs h (max now old.latest) (Reconfigure config.source) told
IsReconfiguring old new now config (Err stop.Refused) =
    (configs : List Configuration) (h : History) → Is old configs h
    → is_refused (next configs (marked configs h) (max now old.latest) (Reconfigure config.source))
    ≡ true
IsReconfiguring old new now config (Err stop.WantOfMemory) = Unit {0}

-- the act that is due at this moment is made; or none is due
abbrev pub IsActing : ScriptView → ScriptView → ℕ → Result (Option Told) WantOfMemory → Type 0
IsActing old new moment (Ok (Some told)) = (configs : List Configuration) (h : History)
    → Is old configs h → IsMade new configs h moment Act told
IsActing old new moment (Ok None) = (configs : List Configuration) (h : History) → Is old configs h
    → next configs (marked configs h) moment Act ≡ nothing
IsActing old new moment (Err e) = Unit {0}

-- how a refusal of the engine stops the event
abbrev pub stop_for : Refusal → Stop
stop_for refusal.WantOfMemory = stop.WantOfMemory
stop_for r = stop.Refused
