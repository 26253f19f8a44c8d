-- Seats of a script: what the pools do is what the machine makes of the event.
use Rattle.std.proofs.Common.{◌≡◌, inl, inr, ℕ, suc, ◌<◌, max, List, Some, None, Ok, Err, sym, ap, subst, arith}
use Rattle.sq_machine.specs.declared.entries.Event.TheVariants.{Grant, Leave, Seat}
use Rattle.sq_machine.specs.declared.entries.Told.TheVariants as told
use Rattle.sq_machine.specs.declared.places.SeatPlace.TheVariants.{Nowhere, ByAddress, ByTag}
use Rattle.sq_machine.specs.Limits.{last_number}
use Rattle.sq_machine.specs.SeatPlaces.{pool_at}
use Rattle.sq_pools.specs.Basins.{HasPassed, IsChosen, IsGranted, IsTagChosen, grant_in, seat_in}
use Rattle.sq_replay.specs.declared.stops.Stop.TheVariants as stop
use Rattle.sq_replay.specs.Making.{IsMaking, is_refused}
use Rattle.sq_replay.specs.Riding.{AreBasins, HasLeftOf, IsGrantedOf}
use Rattle.sq_replay.specs.Runs.{BothPools, Rider, ScriptView}
use Rattle.sq_replay.proofs.EngineLaws.{pools_moment, tags_moment}
use Rattle.sq_replay.proofs.MakingLaws.{grant_unused, granted_made, leave_unused, left_made, seat_spent, seated_made, tag_granted_made, tag_left_made, tagged_made, unridden, unseated_made}

-- no seat is given

-- the connection has no record that allows
pub seat_stops : (v w : ScriptView) (now c : ℕ) → v.riders c ≡ None → IsMaking v w now (Seat c) (Err stop.Refused)
seat_stops v w now c none = λ configs h is. ap is_refused
    (unridden v configs h (max now v.latest) c is (omega arith) none)

-- its record is seated nowhere
pub unseated_making : (v : ScriptView) (now c : ℕ) (r : Rider) → AreBasins v.pools → v.riders c ≡ Some r
    → r.place ≡ Nowhere
    → IsMaking v (record { state = v.state; pools = v.pools; latest = max now v.latest; riders = v.riders }) now
    (Seat c) (Ok told.NoSeat)
unseated_making v now c r basin rides none = (
  tt,
  λ configs h is. unseated_made v configs h (max now v.latest) c r is basin (omega arith) rides none,
)

-- the numbers of seats are used up
pub spent_stops : (v w : ScriptView) (now c pool : ℕ) (r : Rider) → v.riders c ≡ Some r → pool_at r.place ≡ Some pool
    → suc v.pools.addressed.given ≡ last_number → IsMaking v w now (Seat c) (Err stop.Refused)
spent_stops v w now c pool r rides has spent = λ configs h is. seat_spent v configs h (max now v.latest) c pool r is
    (omega arith) rides has spent

-- one is given by the client's address
pub seated_making : (v : ScriptView) (q : BothPools) (now c n pool : ℕ) (r : Rider) → AreBasins v.pools
    → v.riders c ≡ Some r → r.place ≡ ByAddress pool → n ≡ suc v.pools.addressed.given
    → suc v.pools.addressed.given < last_number
    → IsChosen v.pools.addressed q.addressed r.epoch r.config pool r.addr
    (max (max now v.latest) v.pools.addressed.latest)
    → HasPassed v.pools.tagged q.tagged
    → IsMaking v (record { state = v.state; pools = q; latest = max now v.latest; riders = v.riders }) now (Seat c)
    (Ok (told.Seat n pool))
seated_making v q now c n pool r basin rides has number few chosen passed =
    subst (λ (k : ℕ). IsMaking v (record { state = v.state; pools = q; latest = max now v.latest; riders = v.riders })
    now (Seat c) (Ok (told.Seat k pool))) (sym number) (
      tt,
      λ configs h is. seated_made v configs h (max now v.latest) c pool r q is basin (omega arith) rides has few
          (subst (λ (m : ℕ). IsChosen v.pools.addressed q.addressed r.epoch r.config pool r.addr m)
          (pools_moment v configs h now is) chosen) passed,
    )

-- or by a tag
pub tagged_making : (v : ScriptView) (q : BothPools) (now c n pool : ℕ) (tag : List ℕ) (r : Rider) → AreBasins v.pools
    → v.riders c ≡ Some r → r.place ≡ ByTag pool tag → n ≡ suc v.pools.addressed.given
    → suc v.pools.addressed.given < last_number
    → IsTagChosen v.pools.tagged q.tagged r.epoch r.config pool tag (max (max now v.latest) v.pools.tagged.latest)
    → HasPassed v.pools.addressed q.addressed
    → IsMaking v (record { state = v.state; pools = q; latest = max now v.latest; riders = v.riders }) now (Seat c)
    (Ok (told.Seat n pool))
tagged_making v q now c n pool tag r basin rides has number few chosen passed =
    subst (λ (k : ℕ). IsMaking v (record { state = v.state; pools = q; latest = max now v.latest; riders = v.riders })
    now (Seat c) (Ok (told.Seat k pool))) (sym number) (
      tt,
      λ configs h is. tagged_made v configs h (max now v.latest) c pool tag r q is basin (omega arith) rides has few
          (subst (λ (m : ℕ). IsTagChosen v.pools.tagged q.tagged r.epoch r.config pool tag m)
          (tags_moment v configs h now is) chosen) passed,
    )

-- grants

pub grant_stops : (v w : ScriptView) (now n wanted : ℕ) → seat_in v.pools.addressed n ≡ None
    → seat_in v.pools.tagged n ≡ None → IsMaking v w now (Grant n wanted) (Err stop.Refused)
grant_stops v w now n wanted none other = λ configs h is. ap is_refused
    (grant_unused v configs h (max now v.latest) n wanted is (omega arith) none other)

pub leave_stops : (v w : ScriptView) (now n : ℕ) → seat_in v.pools.addressed n ≡ None
    → seat_in v.pools.tagged n ≡ None → IsMaking v w now (Leave n) (Err stop.Refused)
leave_stops v w now n none other = λ configs h is. ap is_refused
    (leave_unused v configs h (max now v.latest) n is (omega arith) none other)

pub granted_making : (v : ScriptView) (q : BothPools) (now n wanted amount : ℕ) → AreBasins v.pools
    → IsGrantedOf v.pools q (max now v.latest) n wanted amount
    → IsMaking v (record { state = v.state; pools = q; latest = max now v.latest; riders = v.riders }) now
    (Grant n wanted) (Ok (told.Granted amount))
granted_making v q now n wanted amount basin (inl (g, same)) = (
  tt,
  λ configs h is. granted_made v configs h (max now v.latest) n wanted amount q is basin (omega arith) g.used
      (subst (λ (m : ℕ). amount ≡ grant_in v.pools.addressed m wanted (seat_in v.pools.addressed n))
      (pools_moment v configs h now is) g.amount_is)
      (subst (λ (m : ℕ). IsGranted v.pools.addressed q.addressed m amount (seat_in v.pools.addressed n))
      (pools_moment v configs h now is) g.granted) same,
)
granted_making v q now n wanted amount basin (inr (g, same)) = (
  tt,
  λ configs h is. tag_granted_made v configs h (max now v.latest) n wanted amount q is basin (omega arith) g.used
      (subst (λ (m : ℕ). amount ≡ grant_in v.pools.tagged m wanted (seat_in v.pools.tagged n))
      (tags_moment v configs h now is) g.amount_is)
      (subst (λ (m : ℕ). IsGranted v.pools.tagged q.tagged m amount (seat_in v.pools.tagged n))
      (tags_moment v configs h now is) g.granted) same,
)

pub left_making : (v : ScriptView) (q : BothPools) (now n : ℕ) → AreBasins v.pools → HasLeftOf v.pools q n
    → IsMaking v (record { state = v.state; pools = q; latest = max now v.latest; riders = v.riders }) now (Leave n)
    (Ok told.Fine)
left_making v q now n basin (inl (g, same)) =
    (tt, λ configs h is. left_made v configs h (max now v.latest) n q is basin (omega arith) g.used g.left same)
left_making v q now n basin (inr (g, same)) =
    (tt, λ configs h is. tag_left_made v configs h (max now v.latest) n q is basin (omega arith) g.used g.left same)

-- the same at a moment that is the greatest

pub unseated_at : (v : ScriptView) (now u c : ℕ) (r : Rider) → u ≡ max now v.latest → AreBasins v.pools
    → v.riders c ≡ Some r → r.place ≡ Nowhere
    → IsMaking v (record { state = v.state; pools = v.pools; latest = u; riders = v.riders }) now (Seat c)
    (Ok told.NoSeat)
unseated_at v now u c r e basin rides none =
    subst (λ (n : ℕ). IsMaking v (record { state = v.state; pools = v.pools; latest = n; riders = v.riders }) now
    (Seat c) (Ok told.NoSeat)) (sym e) (unseated_making v now c r basin rides none)

pub seated_at : (v : ScriptView) (q : BothPools) (now u c n pool : ℕ) (r : Rider) → u ≡ max now v.latest
    → AreBasins v.pools → v.riders c ≡ Some r → r.place ≡ ByAddress pool → n ≡ suc v.pools.addressed.given
    → suc v.pools.addressed.given < last_number
    → IsChosen v.pools.addressed q.addressed r.epoch r.config pool r.addr (max u v.pools.addressed.latest)
    → HasPassed v.pools.tagged q.tagged
    → IsMaking v (record { state = v.state; pools = q; latest = u; riders = v.riders }) now (Seat c)
    (Ok (told.Seat n pool))
seated_at v q now u c n pool r e basin rides has number few =
    subst (λ (m : ℕ). IsChosen v.pools.addressed q.addressed r.epoch r.config pool r.addr
    (max m v.pools.addressed.latest) → HasPassed v.pools.tagged q.tagged
    → IsMaking v (record { state = v.state; pools = q; latest = m; riders = v.riders }) now (Seat c)
    (Ok (told.Seat n pool))) (sym e) (seated_making v q now c n pool r basin rides has number few)

pub tagged_at : (v : ScriptView) (q : BothPools) (now u c n pool : ℕ) (tag : List ℕ) (r : Rider) → u ≡ max now v.latest
    → AreBasins v.pools → v.riders c ≡ Some r → r.place ≡ ByTag pool tag → n ≡ suc v.pools.addressed.given
    → suc v.pools.addressed.given < last_number
    → IsTagChosen v.pools.tagged q.tagged r.epoch r.config pool tag (max u v.pools.tagged.latest)
    → HasPassed v.pools.addressed q.addressed
    → IsMaking v (record { state = v.state; pools = q; latest = u; riders = v.riders }) now (Seat c)
    (Ok (told.Seat n pool))
tagged_at v q now u c n pool tag r e basin rides has number few =
    subst (λ (m : ℕ). IsTagChosen v.pools.tagged q.tagged r.epoch r.config pool tag (max m v.pools.tagged.latest)
    → HasPassed v.pools.addressed q.addressed
    → IsMaking v (record { state = v.state; pools = q; latest = m; riders = v.riders }) now (Seat c)
    (Ok (told.Seat n pool))) (sym e) (tagged_making v q now c n pool tag r basin rides has number few)

pub granted_at : (v : ScriptView) (q : BothPools) (now u n wanted amount : ℕ) → u ≡ max now v.latest
    → AreBasins v.pools → IsGrantedOf v.pools q u n wanted amount
    → IsMaking v (record { state = v.state; pools = q; latest = u; riders = v.riders }) now (Grant n wanted)
    (Ok (told.Granted amount))
granted_at v q now u n wanted amount e basin =
    subst (λ (m : ℕ). IsGrantedOf v.pools q m n wanted amount
    → IsMaking v (record { state = v.state; pools = q; latest = m; riders = v.riders }) now (Grant n wanted)
    (Ok (told.Granted amount))) (sym e) (granted_making v q now n wanted amount basin)

pub left_at : (v : ScriptView) (q : BothPools) (now u n : ℕ) → u ≡ max now v.latest → AreBasins v.pools
    → HasLeftOf v.pools q n
    → IsMaking v (record { state = v.state; pools = q; latest = u; riders = v.riders }) now (Leave n) (Ok told.Fine)
left_at v q now u n e basin gone =
    subst (λ (m : ℕ). IsMaking v (record { state = v.state; pools = q; latest = m; riders = v.riders }) now (Leave n)
    (Ok told.Fine)) (sym e) (left_making v q now n basin gone)
