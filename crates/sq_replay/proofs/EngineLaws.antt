-- From what is promised of the engine's calls to what the machine makes of the event.
use Rattle.std.proofs.Common.{◌≡◌, ℕ, ℤ, suc, ◌≤◌, max, List, ◌∷◌, Bool, true, false, ◌||◌, if◌then◌else◌, nat_lt, nat_le, ◌==◌, Option, Some, None, Ok, Err, is_some, refl, sym, ap, subst, ◌∙◌, arith}
use Rattle.std.proofs.lemmas.Bool.Decides.{nat_tests}
use Rattle.sq_machine.specs.declared.entries.Event.{Event}
use Rattle.sq_machine.specs.declared.entries.Event.TheVariants.{Close, Reconfigure}
use Rattle.sq_machine.specs.declared.entries.Told.{Told}
use Rattle.sq_machine.specs.declared.entries.Told.TheVariants as told
use Rattle.sq_machine.specs.declared.refusals.Refusal.{Refusal}
use Rattle.sq_machine.specs.declared.refusals.Refusal.TheVariants as refusal
use Rattle.sq_rules.specs.Configurations.{Configuration, IsConfiguration}
use Rattle.sq_machine.specs.Entries.{History, entry_at}
use Rattle.sq_machine.specs.Machine.{Legal, next}
use Rattle.sq_machine.specs.Limits.{epoch_limit, last_number}
use Rattle.sq_machine.specs.Epochs.{config_of}
use Rattle.sq_machine.specs.Next.{gives, refuse_if, refuses}
use Rattle.sq_machine.specs.Marking.{marked}
use Rattle.sq_machine.specs.PoolHistories.{Addressed, PoolKind, Tagged, pool_history}
use Rattle.sq_machine.specs.Readings.{current, latest}
use Rattle.sq_machine.specs.TakenRecords.{allowed_of, taken_answers}
use Rattle.sq_model.specs.Given.{EachOf}
use Rattle.sq_model.proofs.LegalLaws.{marked_entries}
use Rattle.sq_pools.specs.Basins.{Basin, IsBasin, IsRenewed, IsTagRenewed, made_in}
use Rattle.sq_pools.specs.Stands.{PoolsStand}
use Rattle.sq_pools.proofs.StandLaws.{moment_is, none_ahead}
use Rattle.sq_model.specs.Answers.{busy_in, reconfigure_answer}
use Rattle.sq_model.specs.Promises.{IsAnswered, StandsFor}
use Rattle.sq_model.specs.States.{State, machine_moment}
use Rattle.sq_model.proofs.PromiseLaws.{machine_first}
use Rattle.sq_engine.specs.Promised.{IsBegun, IsPromised, IsPromisedNext}
use Rattle.sq_replay.specs.Making.{IsMaking, IsReconfiguring, IsRefusal, MayStand, is_refused, stop_for}
use Rattle.sq_replay.specs.Riding.{AreBasins, AreRenewed, HaveBegun}
use Rattle.sq_replay.specs.Runs.{BothPools, Is, IsMade, ScriptView, Rider, Rides}
use Rattle.sq_replay.specs.RunText.{first_history}
use Rattle.sq_replay.proofs.MakingLaws.{both_begun, elsewhere_made, keeps_riders, late_kind, renewed_made, riders_closed, riders_kept}
use Rattle.sq_replay.proofs.PairLaws.{current_kind, is_elsewhere}

-- the moment

-- no event of the engine is later than the greatest moment
engine_late : (v : ScriptView) (configs : List Configuration) (h : History) → Is v configs h → v.state.latest ≤ v.latest
engine_late v configs h is =
    let first : machine_moment h ≤ latest h = machine_first configs h is.engine.legal in
    let own : v.state.latest ≡ machine_moment h = is.engine.stands.latest_is
    ∙ ap machine_moment (marked_entries configs h) in
    let greatest : v.latest ≡ latest h = is.latest_is in
    omega arith

-- so the engine makes an event at the greatest moment
pub engine_moment : (v : ScriptView) (configs : List Configuration) (h : History) (now : ℕ) → Is v configs h
    → max (max now v.latest) v.state.latest ≡ max now v.latest
engine_moment v configs h now is = let late = engine_late v configs h is in omega arith

-- which is none before the history's
pub late_by : (v : ScriptView) (configs : List Configuration) (h : History) (now : ℕ) → Is v configs h
    → latest h ≤ max (max now v.latest) v.state.latest
late_by v configs h now is = let greatest : v.latest ≡ latest h = is.latest_is in omega arith

pub latest_by : (v : ScriptView) (configs : List Configuration) (h : History) (now : ℕ) → Is v configs h
    → latest h ≤ max now v.latest
latest_by v configs h now is = let greatest : v.latest ≡ latest h = is.latest_is in omega arith

-- and so are grants
pub pools_moment : (v : ScriptView) (configs : List Configuration) (h : History) (now : ℕ) → Is v configs h
    → max (max now v.latest) v.pools.addressed.latest ≡ max now v.latest
pools_moment v configs h now is = moment_is v.pools.addressed (pool_history Addressed configs (marked configs h))
    (max now v.latest) is.pools.addressed
    (late_kind Addressed configs h (max now v.latest) (latest_by v configs h now is))

pub tags_moment : (v : ScriptView) (configs : List Configuration) (h : History) (now : ℕ) → Is v configs h
    → max (max now v.latest) v.pools.tagged.latest ≡ max now v.latest
tags_moment v configs h now is = moment_is v.pools.tagged (pool_history Tagged configs (marked configs h))
    (max now v.latest) is.pools.tagged (late_kind Tagged configs h (max now v.latest) (latest_by v configs h now is))

-- the engine alone

-- what the engine was promised to answer, it answers at the greatest moment
answered_now : (v : ScriptView) (configs : List Configuration) (h : History) (now : ℕ) (event : Event) (answer : Told)
    (t : State) → Is v configs h
    → IsAnswered configs h (max (max now v.latest) v.state.latest) event answer t
    → IsAnswered configs h (max now v.latest) event answer t
answered_now v configs h now event answer t is a = subst (λ (n : ℕ). IsAnswered configs h n event answer t)
    (engine_moment v configs h now is) a

-- the engine made an event of which the pools are not told
pub engine_made : (v : ScriptView) (t : State) (riders : ℕ → Option Rider) (now : ℕ) (event : Event) (answer : Told)
    → AreBasins v.pools → is_elsewhere event answer ≡ true
    → ((configs : List Configuration) (h : History) → StandsFor configs h v.state
    → latest h ≤ max (max now v.latest) v.state.latest
    → IsAnswered configs h (max (max now v.latest) v.state.latest) event answer t)
    → ((configs : List Configuration) (h : History) → Is v configs h → (c : ℕ)
    → Rides configs (allowed_of (entry_at (max now v.latest) event answer ∷ h) c)
    (taken_answers configs (marked configs (entry_at (max now v.latest) event answer ∷ h)) c) (riders c))
    → (configs : List Configuration) (h : History) → Is v configs h
    → IsMade (record { state = t; pools = v.pools; latest = max now v.latest; riders = riders }) configs h
    (max now v.latest) event answer
engine_made v t riders now event answer basin other promised ride configs h is =
    elsewhere_made v configs h (max now v.latest) event answer t riders is basin (omega arith)
    (answered_now v configs h now event answer t is (promised configs h is.engine (late_by v configs h now is))) other
    (ride configs h is)

-- one that leaves the records that were taken
pub quiet_made : (v : ScriptView) (t : State) (now : ℕ) (event : Event) (answer : Told) → AreBasins v.pools
    → is_elsewhere event answer ≡ true → keeps_riders event ≡ true → MayStand event
    → ((configs : List Configuration) (h : History) → StandsFor configs h v.state
    → latest h ≤ max (max now v.latest) v.state.latest
    → IsAnswered configs h (max (max now v.latest) v.state.latest) event answer t)
    → IsMaking v (record { state = t; pools = v.pools; latest = max now v.latest; riders = v.riders }) now event
    (Ok answer)
quiet_made v t now event answer basin other keeps stands promised = (
  stands,
  engine_made v t v.riders now event answer basin other promised
      (λ configs h is. riders_kept v configs h (max now v.latest) event answer is keeps),
)

-- a connection was closed
pub closed_making : (v : ScriptView) (t : State) (riders : ℕ → Option Rider) (now d : ℕ) (answer : Told)
    → AreBasins v.pools → is_elsewhere (Close d) answer ≡ true
    → ((configs : List Configuration) (h : History) → StandsFor configs h v.state
    → latest h ≤ max (max now v.latest) v.state.latest
    → IsAnswered configs h (max (max now v.latest) v.state.latest) (Close d) answer t)
    → ((c : ℕ) → riders c ≡ (if d == c then None else v.riders c))
    → IsMaking v (record { state = t; pools = v.pools; latest = max now v.latest; riders = riders }) now (Close d)
    (Ok answer)
closed_making v t riders now d answer basin other promised gone = (
  tt,
  engine_made v t riders now (Close d) answer basin other promised
      (λ configs h is c. subst (Rides configs (allowed_of (entry_at (max now v.latest) (Close d) answer ∷ h) c)
      (taken_answers configs (marked configs (entry_at (max now v.latest) (Close d) answer ∷ h)) c))
      (sym (gone c)) (riders_closed v configs h (max now v.latest) d answer is c)),
)

-- refusals

-- what the engine was promised to refuse is refused
pub refused_now : (v : ScriptView) (now : ℕ) (event : Event) (r : Refusal)
    → ((configs : List Configuration) (h : History) → StandsFor configs h v.state
    → latest h ≤ max (max now v.latest) v.state.latest
    → next configs (marked configs h) (max (max now v.latest) v.state.latest) event ≡ refuses r)
    → (configs : List Configuration) (h : History) → Is v configs h
    → is_refused (next configs (marked configs h) (max now v.latest) event) ≡ true
refused_now v now event r promised configs h is =
    subst (λ (n : ℕ). is_refused (next configs (marked configs h) n event) ≡ true) (engine_moment v configs h now is)
    (ap is_refused (promised configs h is.engine (late_by v configs h now is)))

-- an event is refused that the machine refuses
abbrev pub IsPlain : Event → Type 0
IsPlain event = (configs : List Configuration) (h : History) (moment : ℕ)
    → is_refused (next configs (marked configs h) moment event) ≡ true → IsRefusal configs h moment event

-- the engine refuses, or wants memory
pub engine_stops : {A : Type 0} (tell : A → Told) (v w : ScriptView) (t : State) (now : ℕ) (event : Event) (r : Refusal)
    → IsPlain event
    → IsPromised tell v.state (max (max now v.latest) v.state.latest) event (Err r) t
    → IsMaking v w now event (Err (stop_for r))
engine_stops tell v w t now event refusal.WantOfMemory plain p = tt
engine_stops tell v w t now event r plain p = λ configs h is. plain configs h (max now v.latest)
    (refused_now v now event r p configs h is)

-- a reconfiguration

-- what is given behind two refusals is the answer
given_by : (b d : Bool) (r q : Refusal) (x y : Told) → refuse_if b r (refuse_if d q (gives x)) ≡ gives y → x ≡ y
given_by true d r q x y e = absurd (cc)
given_by false true r q x y e = absurd (cc)
given_by false false r q x y e = cc

-- the number that is told is that of the next epoch
pub told_epoch : (s : State) (n : ℕ) → reconfigure_answer s ≡ gives (told.Epoch n) → n ≡ suc s.current
told_epoch s n e =
    let same : told.Epoch (suc s.current) ≡ told.Epoch n =
    given_by (nat_le last_number (suc s.current)) (nat_le epoch_limit (busy_in s)) (refusal.Spent (suc s.current))
    (refusal.TooManyEpochs epoch_limit) (told.Epoch (suc s.current)) (told.Epoch n) e in
    cc

current_here : (v : ScriptView) (configs : List Configuration) (h : History) → Is v configs h
    → v.state.current ≡ current h
current_here v configs h is = is.engine.stands.current_is ∙ ap current (marked_entries configs h)

-- the epoch is none before the newest, and pools have no generation of it
fresh_kind : (kind : PoolKind) (p : Basin) (configs : List Configuration) (h : History) (e : ℕ) → Legal configs h
    → IsBasin p → PoolsStand p (pool_history kind configs (marked configs h)) → e ≡ suc (current h)
    → (nat_lt e p.newest || is_some (made_in p e)) ≡ false
fresh_kind kind p configs h e legal basin stand own =
    let same = current_kind kind configs h legal in
    let newest = stand.newest_is in
    let behind : nat_lt e p.newest ≡ false = grind (arith, nat_tests) in
    let none : made_in p e ≡ None =
    none_ahead p (pool_history kind configs (marked configs h)) e basin stand (omega arith) in
    rw (behind, none) refl

-- the engine reconfigured, and the pools were renewed
pub reconfigured_making : (v : ScriptView) (t : State) (q : BothPools) (now e : ℕ) (config : Configuration)
    → AreBasins v.pools → reconfigure_answer v.state ≡ gives (told.Epoch e)
    → IsPromisedNext told.Epoch v.state (max (max now v.latest) v.state.latest) config (Ok e) t
    → ((nat_lt e v.pools.addressed.newest || is_some (made_in v.pools.addressed e)) ≡ false
    → (nat_lt e v.pools.tagged.newest || is_some (made_in v.pools.tagged e)) ≡ false
    → AreRenewed v.pools q e config (max now v.latest))
    → IsReconfiguring v (record { state = t; pools = q; latest = max now v.latest; riders = v.riders }) now config
    (Ok (told.Epoch e))
reconfigured_making v t q now e config basin tells promised renewed configs h is at =
    let here : v.state.current ≡ current h = current_here v configs h is in
    let own : e ≡ suc (current h) = told_epoch v.state e tells ∙ ap suc here in
    let known : config_of configs (suc v.state.current) ≡ Some config = ap (λ (n : ℕ). config_of configs (suc n)) here ∙
    at in
    let a : IsAnswered configs h (max now v.latest) (Reconfigure config.source) (told.Epoch e) t =
    answered_now v configs h now (Reconfigure config.source) (told.Epoch e) t is
    (promised configs h is.engine (late_by v configs h now is) known) in
    let r = renewed
    (fresh_kind Addressed v.pools.addressed configs h e is.engine.legal basin.addressed is.pools.addressed own)
    (fresh_kind Tagged v.pools.tagged configs h e is.engine.legal basin.tagged is.pools.tagged own) in
    subst (λ (n : ℕ). IsMade (record { state = t; pools = q; latest = max now v.latest; riders = v.riders }) configs h
    (max now v.latest) (Reconfigure config.source) (told.Epoch n)) (sym own)
    (renewed_made v configs h (max now v.latest) config.source config t q is basin (omega arith) at
    (subst (λ (n : ℕ). IsAnswered configs h (max now v.latest) (Reconfigure config.source) (told.Epoch n) t) own a)
    (subst (λ (n : ℕ). IsRenewed v.pools.addressed q.addressed n config (max now v.latest)) own
    (subst (λ (n : ℕ). IsRenewed v.pools.addressed q.addressed e config n) (pools_moment v configs h now is)
    r.addressed))
    (subst (λ (n : ℕ). IsTagRenewed v.pools.tagged q.tagged n config (max now v.latest)) own
    (subst (λ (n : ℕ). IsTagRenewed v.pools.tagged q.tagged e config n) (tags_moment v configs h now is) r.tagged)))

-- or refused
pub reconfigure_stops : (v w : ScriptView) (t : State) (now : ℕ) (config : Configuration) (r : Refusal)
    → IsPromisedNext {A = ℕ} told.Epoch v.state (max (max now v.latest) v.state.latest) config (Err r) t
    → IsReconfiguring v w now config (Err (stop_for r))
reconfigure_stops v w t now config refusal.WantOfMemory p = tt
reconfigure_stops v w t now config r p = λ configs h is. refused_now v now (Reconfigure config.source) r p configs h is

-- the beginning

-- the machine as it begins
pub begun_made : (s : State) (p : BothPools) (riders : ℕ → Option Rider) (config : Configuration) (offset : ℤ) (now : ℕ)
    → IsBegun config offset now s → HaveBegun p 1 config now → ((c : ℕ) → riders c ≡ None)
    → (configs : List Configuration) → EachOf IsConfiguration configs → config_of configs 1 ≡ Some config
    → Is (record { state = s; pools = p; latest = now; riders = riders }) configs (first_history now offset)
begun_made s p riders config offset now promised begun none configs good at = record {
  engine = promised configs good at;
  pools = both_begun configs config offset now p at begun;
  latest_is = refl;
  riders_are = λ c. subst (Rides configs (allowed_of (first_history now offset) c)
      (taken_answers configs (marked configs (first_history now offset)) c)) (sym (none c)) tt;
}

-- the same at a moment that is the greatest

pub quiet_at : (v : ScriptView) (t : State) (now u : ℕ) (event : Event) (answer : Told) → u ≡ max now v.latest
    → AreBasins v.pools → is_elsewhere event answer ≡ true → keeps_riders event ≡ true → MayStand event
    → ((configs : List Configuration) (h : History) → StandsFor configs h v.state → latest h ≤ max u v.state.latest
    → IsAnswered configs h (max u v.state.latest) event answer t)
    → IsMaking v (record { state = t; pools = v.pools; latest = u; riders = v.riders }) now event (Ok answer)
quiet_at v t now u event answer e basin other keeps stands =
    subst (λ (n : ℕ). ((configs : List Configuration) (h : History) → StandsFor configs h v.state
    → latest h ≤ max n v.state.latest → IsAnswered configs h (max n v.state.latest) event answer t)
    → IsMaking v (record { state = t; pools = v.pools; latest = n; riders = v.riders }) now event (Ok answer)) (sym
    e) (quiet_made v t now event answer basin other keeps stands)

pub closed_at : (v : ScriptView) (t : State) (riders : ℕ → Option Rider) (now u d : ℕ) (answer : Told)
    → u ≡ max now v.latest → AreBasins v.pools → is_elsewhere (Close d) answer ≡ true
    → ((configs : List Configuration) (h : History) → StandsFor configs h v.state → latest h ≤ max u v.state.latest
    → IsAnswered configs h (max u v.state.latest) (Close d) answer t)
    → ((c : ℕ) → riders c ≡ (if c == d then None else v.riders c))
    → IsMaking v (record { state = t; pools = v.pools; latest = u; riders = riders }) now (Close d) (Ok answer)
closed_at v t riders now u d answer e basin other promised gone =
    subst (λ (n : ℕ). ((configs : List Configuration) (h : History) → StandsFor configs h v.state
    → latest h ≤ max n v.state.latest → IsAnswered configs h (max n v.state.latest) (Close d) answer t)
    → IsMaking v (record { state = t; pools = v.pools; latest = n; riders = riders }) now (Close d) (Ok answer)) (sym e)
    (λ p. closed_making v t riders now d answer basin other p
    (λ c. gone c ∙ ap (λ (b : Bool). if b then None else v.riders c) (turned c d))) promised
  where
    turned : (a b : ℕ) → (a == b) ≡ (b == a)
    turned a b = grind (arith, nat_tests)

pub stops_at : {A : Type 0} (tell : A → Told) (v w : ScriptView) (t : State) (now u : ℕ) (event : Event) (r : Refusal)
    → u ≡ max now v.latest → IsPlain event
    → IsPromised tell v.state (max u v.state.latest) event (Err r) t → IsMaking v w now event (Err (stop_for r))
stops_at tell v w t now u event r e plain p = engine_stops tell v w t now event r plain
    (subst (λ (n : ℕ). IsPromised tell v.state (max n v.state.latest) event (Err r) t) e p)

pub reconfigured_at : (v : ScriptView) (t : State) (q : BothPools) (now u e : ℕ) (config : Configuration)
    → u ≡ max now v.latest → AreBasins v.pools → reconfigure_answer v.state ≡ gives (told.Epoch e)
    → IsPromisedNext told.Epoch v.state (max u v.state.latest) config (Ok e) t
    → ((nat_lt e v.pools.addressed.newest || is_some (made_in v.pools.addressed e)) ≡ false
    → (nat_lt e v.pools.tagged.newest || is_some (made_in v.pools.tagged e)) ≡ false
    → AreRenewed v.pools q e config u)
    → IsReconfiguring v (record { state = t; pools = q; latest = u; riders = v.riders }) now config (Ok (told.Epoch e))
reconfigured_at v t q now u e config is basin tells =
    subst (λ (n : ℕ). IsPromisedNext told.Epoch v.state (max n v.state.latest) config (Ok e) t
    → ((nat_lt e v.pools.addressed.newest || is_some (made_in v.pools.addressed e)) ≡ false
    → (nat_lt e v.pools.tagged.newest || is_some (made_in v.pools.tagged e)) ≡ false
    → AreRenewed v.pools q e config n)
    → IsReconfiguring v (record { state = t; pools = q; latest = n; riders = v.riders }) now config
    (Ok (told.Epoch e))) (sym is) (reconfigured_making v t q now e config basin tells)

pub reconfigure_stops_at : (v w : ScriptView) (t : State) (now u : ℕ) (config : Configuration) (r : Refusal)
    → u ≡ max now v.latest
    → IsPromisedNext {A = ℕ} told.Epoch v.state (max u v.state.latest) config (Err r) t
    → IsReconfiguring v w now config (Err (stop_for r))
reconfigure_stops_at v w t now u config r e p = reconfigure_stops v w t now config r
    (subst (λ (n : ℕ). IsPromisedNext {A = ℕ} told.Epoch v.state (max n v.state.latest) config (Err r) t) e p)
