-- What a call for a seat makes of what a hub tells.
use Rattle.std.proofs.Common.{◌≡◌, ◌==◌, ◌<◌, inl, inr, ℕ, List, true, false, Option, Some, None, IfSome, is_some, Result, Ok, Err, refl, ap, subst, arith}
use Rattle.sq_checks.specs.Records.{Judged, needs_tag}
use Rattle.sq_machine.specs.SeatPlaces.{pool_at, seat_place}
use Rattle.sq_machine.specs.declared.places.SeatPlace.{SeatPlace}
use Rattle.sq_machine.specs.declared.places.SeatPlace.TheVariants.{Nowhere, ByAddress, ByTag}
use Rattle.sq_pools.specs.declared.pools.ChooseFault.{ChooseFault}
use Rattle.sq_turns.specs.Fronts.{takes_seat}
use Rattle.sq_turns.specs.declared.front.SitFault.{SitFault}
use Rattle.sq_turns.specs.declared.front.SitFault.TheVariants as sit
use Rattle.sq_turns.specs.Judging.{GrantsOn, Rises, Seats, SeatsAt, Sits, emptied_on, seat_of}
use Rattle.sq_turns.specs.Tellings.{Chooses, ChoosesTag, Grants, GrantsTag, HubState, LeavesMachine, Tells}
use Rattle.sq_pools.specs.declared.held_seats.HeldSeat.{HeldSeat}
use Rattle.sq_pools.specs.declared.held_seats.HeldSeat.TheVariants as held

-- where nothing changes the machine stays
same_rest : (v w : HubState) → w ≡ v → LeavesMachine v w
same_rest v w e = record {
  machine = ap HubState.machine e;
  begun = ap HubState.begun e;
  rewriter = ap HubState.rewriter e;
}

-- a call for a seat leaves the machine
seats_at_rest : (j : Judged) (place : SeatPlace) (said : Result (Option HeldSeat) SitFault) (v w : HubState)
    → SeatsAt j place said v w → LeavesMachine v w
seats_at_rest j Nowhere said v w x = same_rest v w x.1
seats_at_rest j (ByAddress pool) said v w x = x.2.rest.rest
seats_at_rest j (ByTag pool tag) said v w x = x.2.rest.rest

pub seats_rest : (j : Judged) (said : Result (Option HeldSeat) SitFault) (v w : HubState) → Seats j said v w
    → LeavesMachine v w
seats_rest j said v w (inl x) = seats_at_rest j (seat_place j.config j.sight j.answers) said v w x
seats_rest j said v w (inr x) = same_rest v w x.2

-- so does one that gives a seat back
pub rises_rest : (seat : HeldSeat) (v w : HubState) → Rises (Some seat) v w → LeavesMachine v w
rises_rest (held.ByAddress n) v w x = x.rest.rest
rises_rest (held.ByTag n) v w x = x.rest.rest

-- and a grant
pub grants_rest : (seat : Option HeldSeat) (wanted given : ℕ) (v w : HubState) → GrantsOn seat wanted given v w
    → LeavesMachine v w
grants_rest None wanted given v w x = same_rest v w x
grants_rest (Some (held.ByAddress n)) wanted given v w x = x.rest.rest
grants_rest (Some (held.ByTag n)) wanted given v w x = x.rest.rest

-- where some bytes are wanted a hub that tells grants none exactly where a bucket of the seat is empty
pub addressed_empty : (n wanted given : ℕ) (a b : Option HubState) → Tells (Grants n wanted given) a b → 0 < wanted
    → IfSome (emptied_on (Some (held.ByAddress n)) a) (λ e. (given == 0) ≡ e)
addressed_empty n wanted given None b p some = tt
addressed_empty n wanted given (Some v) b p some = p.2.nothing some

pub tagged_empty : (n wanted given : ℕ) (a b : Option HubState) → Tells (GrantsTag n wanted given) a b → 0 < wanted
    → IfSome (emptied_on (Some (held.ByTag n)) a) (λ e. (given == 0) ≡ e)
tagged_empty n wanted given None b p some = tt
tagged_empty n wanted given (Some v) b p some = p.2.nothing some

some_wanted : (n : ℕ) → 0 < n → (n == 0) ≡ false
some_wanted n h = grind (arith, h)

-- and without a seat it grants some
pub seatless_empty : (wanted : ℕ) (a : Option HubState) → 0 < wanted
    → IfSome (emptied_on None a) (λ e. (wanted == 0) ≡ e)
seatless_empty wanted a some = some_wanted wanted some

-- what a front is granted
pub ruleset grant_empties = (addressed_empty, tagged_empty, seatless_empty)

-- a call for a seat that is refused leaves what the front held
pub tells_unseated : (j : Judged) (fault : SitFault) (before now : Option HeldSeat) (a b : Option HubState)
    → now ≡ before → Tells (Seats j (Err fault)) a b → Tells (Sits j (Err fault) before now) a b
tells_unseated j fault before now None b e p = p
tells_unseated j fault before now (Some v) b e p = (p.0, p.1, (p.2, e))

-- a record that is seated nowhere
pub tells_nowhere : (j : Judged) (a : Option HubState) → Nowhere ≡ seat_place j.config j.sight j.answers
    → Tells (Seats j (Ok None)) a a
tells_nowhere j None e = refl
tells_nowhere j (Some v) e = (v, refl, inl (subst (λ place. SeatsAt j place (Ok None) v v) e (refl, refl)))

-- one in a pool with buckets by addresses, or by tags
pub tells_addressed : (j : Judged) (pool : ℕ) (chosen : Result ℕ ChooseFault)
    (said : Result (Option HeldSeat) SitFault) (a b : Option HubState)
    → ByAddress pool ≡ seat_place j.config j.sight j.answers → said ≡ seat_of held.ByAddress chosen
    → Tells (Chooses j.epoch j.config pool j.sight.addr chosen) a b → Tells (Seats j said) a b
tells_addressed j pool chosen said None b e is p = p
tells_addressed j pool chosen said (Some v) b e is p =
    (p.0, p.1, inl (subst (λ place. SeatsAt j place said v p.0) e (chosen, is, p.2)))

pub tells_tagged : (j : Judged) (pool : ℕ) (tag : List ℕ) (chosen : Result ℕ ChooseFault)
    (said : Result (Option HeldSeat) SitFault) (a b : Option HubState)
    → ByTag pool tag ≡ seat_place j.config j.sight j.answers → said ≡ seat_of held.ByTag chosen
    → Tells (ChoosesTag j.epoch j.config pool tag chosen) a b → Tells (Seats j said) a b
tells_tagged j pool tag chosen said None b e is p = p
tells_tagged j pool tag chosen said (Some v) b e is p =
    (p.0, p.1, inl (subst (λ place. SeatsAt j place said v p.0) e (chosen, is, p.2)))

-- memory for its tag is wanting
pub tells_untagged : (j : Judged) (a : Option HubState) → needs_tag j ≡ true
    → Tells (Seats j (Err sit.WantOfMemory)) a a
tells_untagged j None e = refl
tells_untagged j (Some v) e = (v, refl, inr (e, refl, refl))

-- where a record is seated says whether it takes a seat
pub takes_at : (j : Judged) (place : SeatPlace) → place ≡ seat_place j.config j.sight j.answers
    → is_some (pool_at place) ≡ takes_seat j
takes_at j place e = ap (λ p. is_some (pool_at p)) e
