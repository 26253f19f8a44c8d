-- From the machine's parts, as contracts see them, to what it makes of an event.
use Rattle.std.proofs.Common.{◌≡◌, ℕ, ◌≤◌, max, List, true, Option, Some, None, Result, Ok, Err, IfNone, IfOk, IfSome, OnOk, refl, sym, ap, subst, ◌∙◌, arith}
use Rattle.std.proofs.lemmas.Option.{none-some, same_Some}
use Rattle.std.specs.Option.{option_map, option_map_or}
use Rattle.sq_base.specs.declared.memory.WantOfMemory.{WantOfMemory}
use Rattle.sq_machine.specs.declared.entries.Event.{Event}
use Rattle.sq_machine.specs.declared.entries.Told.{Told}
use Rattle.sq_machine.specs.declared.refusals.Refusal.{Refusal}
use Rattle.sq_rules.specs.Configurations.{Configuration}
use Rattle.sq_machine.specs.Entries.{History}
use Rattle.sq_machine.specs.Readings.{latest}
use Rattle.sq_model.specs.CheckRows.{Held}
use Rattle.sq_model.specs.Promises.{IsAnswered, StandsFor}
use Rattle.sq_model.specs.States.{IsSame, State}
use Rattle.sq_engine.specs.EngineViews.{EngineView, state_of}
use Rattle.sq_engine.specs.Promised.{IsPromised}
use Rattle.sq_replay.specs.Riding.{AreBasins}
use Rattle.sq_replay.proofs.PairLaws.{is_elsewhere}
use Rattle.sq_replay.specs.declared.stops.Stop.{Stop}
use Rattle.sq_replay.specs.declared.stops.Stop.TheVariants as stop
use Rattle.sq_replay.specs.MachineViews.{MachineView, machine_of}
use Rattle.sq_replay.specs.Making.{IsLeft, IsMaking, MayStand, stop_for}
use Rattle.sq_replay.specs.Runs.{Is, ScriptView}
use Rattle.sq_replay.proofs.EngineLaws.{IsPlain, quiet_at, stops_at}
use Rattle.sq_replay.proofs.MakingLaws.{keeps_riders, same_is}

-- an event of the engine alone is made
pub quiet_view : (m n : MachineView) (g : EngineView) (now u : ℕ) (event : Event) (answer : Told) → m ≡ n
    → u ≡ max now m.latest → AreBasins m.pools → is_elsewhere event answer ≡ true
    → keeps_riders event ≡ true → MayStand event
    → ((configs : List Configuration) (h : History) → StandsFor configs h (state_of m.engine)
    → latest h ≤ max u m.engine.latest → IsAnswered configs h (max u m.engine.latest) event answer (state_of g))
    → IsMaking (machine_of n) (machine_of (record { engine = g; pools = m.pools; latest = u; riders = m.riders })) now
    event (Ok answer)
quiet_view m n g now u event answer same e basin other keeps stands promised =
    subst (λ (z : MachineView). IsMaking (machine_of z)
    (machine_of (record { engine = g; pools = m.pools; latest = u; riders = m.riders })) now event (Ok answer)) same
    (quiet_at (machine_of m) (state_of g) now u event answer e basin other keeps stands promised)

-- or the engine refuses it, or wants memory
pub stops_view : {A : Type 0} (tell : A → Told) (m n : MachineView) (w : ScriptView) (t : State) (now u : ℕ)
    (event : Event) (r : Refusal) (s : Stop) → m ≡ n → s ≡ stop_for r → u ≡ max now m.latest → IsPlain event
    → IsPromised tell (state_of m.engine) (max u m.engine.latest) event (Err r) t
    → IsMaking (machine_of n) w now event (Err s)
stops_view tell m n w t now u event r s same by e plain p =
    subst (λ (z : MachineView). IsMaking (machine_of z) w now event (Err s)) same
    (subst (λ (x : Stop). IsMaking (machine_of m) w now event (Err x)) (sym by)
    (stops_at tell (machine_of m) w t now u event r e plain p))

-- an event that is refused leaves the machine

left_all : (v w : ScriptView) (s : Stop) → ((configs : List Configuration) (h : History) → Is v configs h → Is w configs
    h)
    → IsLeft v w (Err s)
left_all v w stop.Refused stays = stays
left_all v w stop.WantOfMemory stays = tt

-- which no call was made of
pub left_here : (m n : MachineView) (s : Stop) → m ≡ n → IsLeft (machine_of n) (machine_of m) (Err s)
left_here m n s same = subst (λ (z : MachineView). IsLeft (machine_of z) (machine_of m) (Err s)) same
    (left_all (machine_of m) (machine_of m) s (λ configs h is. is))

-- whose engine's state is the same
pub left_state : (m n : MachineView) (g : EngineView) (s : Stop) → m ≡ n → IsSame (state_of g) (state_of m.engine)
    → IsLeft (machine_of n) (machine_of (record m { engine = g })) (Err s)
left_state m n g s same is = subst
    (λ (z : MachineView). IsLeft (machine_of z) (machine_of (record m { engine = g })) (Err s)) same
    (left_all (machine_of m) (machine_of (record m { engine = g })) s
    (λ configs h stood. same_is (machine_of m) (state_of g) configs h is stood))

-- whose engine is the same
pub left_engine : (m n : MachineView) (g : EngineView) (s : Stop) → m ≡ n → g ≡ m.engine
    → IsLeft (machine_of n) (machine_of (record m { engine = g })) (Err s)
left_engine m n g s same is = subst
    (λ (x : EngineView). IsLeft (machine_of n) (machine_of (record m { engine = x })) (Err s)) (sym is)
    (left_here m n s same)

-- the epoch of a check, as it is read
pub epoch_some : (o : Option Held) (e : ℕ) → Some e ≡ option_map (λ (h : Held). h.asked.epoch) o
    → e ≡ option_map_or (λ (h : Held). h.asked.epoch) o 0
epoch_some None e is = absurd (none-some e (sym is))
epoch_some (Some h) e is = same_Some _ _ is

pub epoch_none : (o : Option Held) → None ≡ option_map (λ (h : Held). h.asked.epoch) o
    → 0 ≡ option_map_or (λ (h : Held). h.asked.epoch) o 0
epoch_none None is = refl
epoch_none (Some h) is = absurd (none-some h.asked.epoch is)

-- an act at the greatest moment leaves it
pub act_latest : (old new : MachineView) (r : Result (Option Told) WantOfMemory)
    → IfOk r (λ told. IfSome told (λ _. new.latest ≡ max old.latest old.latest))
    → IfOk r (λ told. IfNone told (new ≡ old))
    → OnOk r (new.latest ≡ old.latest)
act_latest old new (Ok None) some none = ap (λ (z : MachineView). z.latest) none
act_latest old new (Ok (Some told)) some none = some ∙ same_max old.latest
  where
    same_max : (n : ℕ) → max n n ≡ n
    same_max n = omega arith
act_latest old new (Err e) some none = tt
