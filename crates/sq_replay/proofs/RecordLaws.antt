-- Outcomes that are taken: the record that the engine hands out is what a seat needs.
use Rattle.std.proofs.Common.{◌≡◌, ℕ, ◌≤◌, max, List, [], ◌∷◌, ◌++◌, ◌==◌, Bool, true, false, not, if◌then◌else◌, Option, Some, None, Ok, Err, slice_get, refl, sym, ap, subst, ◌∙◌, ◌&&◌}
use Rattle.std.proofs.lemmas.List.{append-nil}
use Rattle.std.proofs.lemmas.Option.{none-some, same_Some}
use Rattle.std.specs.Option.{option_map, option_or, option_to_list}
use Rattle.sq_base.proofs.CommonLaws.{map_some}
use Rattle.sq_machine.specs.declared.entries.Event.TheVariants.{Take}
use Rattle.sq_machine.specs.declared.entries.Told.{Told}
use Rattle.sq_machine.specs.declared.entries.Told.TheVariants as told
use Rattle.sq_machine.specs.declared.places.SeatPlace.{SeatPlace}
use Rattle.sq_machine.specs.declared.places.SeatPlace.TheVariants.{Nowhere, ByAddress, ByTag}
use Rattle.sq_machine.specs.declared.refusals.Refusal.TheVariants as refusal
use Rattle.sq_base.specs.declared.helpers.Answer.{Answer}
use Rattle.sq_rules.specs.declared.configs.Acl.{Acl}
use Rattle.sq_rules.specs.declared.configs.Body.{Body}
use Rattle.sq_rules.specs.declared.configs.Body.TheVariants as body
use Rattle.sq_rules.specs.declared.sights.Sight.{Sight}
use Rattle.sq_rules.specs.Configurations.{Configuration}
use Rattle.sq_machine.specs.Entries.{History, entry_at}
use Rattle.sq_machine.specs.Next.{gives, refuse_if, refuses}
use Rattle.sq_machine.specs.Marking.{marked}
use Rattle.sq_machine.specs.SeatPlaces.{place_in, seat_place}
use Rattle.sq_rules.specs.Tags.{first_tag, tag_at, tag_in, tag_of, tag_of_acl, tag_of_body}
use Rattle.sq_machine.specs.TakenRecords.{allowed_of, taken_answers}
use Rattle.sq_machine.specs.Readings.{latest}
use Rattle.sq_rules.specs.Sights.{unversioned_sight}
use Rattle.sq_rules.specs.Verdicts.{pool_from, pool_of}
use Rattle.sq_rules.specs.Values.{answer_for}
use Rattle.sq_rules.specs.Walks.{rules_walk, walk_over}
use Rattle.sq_rules.proofs.SightLaws.{key_unversioned, taken_unversioned}
use Rattle.sq_model.specs.CheckRows.{Held, held_at}
use Rattle.sq_checks.specs.OpenChecks.{CheckParts, answers_in, row, rows_of}
use Rattle.sq_checks.specs.Records.{Judged, TakesClient, judged_of}
use Rattle.sq_checks.specs.Stages.{came_in, is_done_in}
use Rattle.sq_checks.specs.Tables.{value_at}
use Rattle.sq_checks.specs.declared.stages.CheckStage.{CheckStage}
use Rattle.sq_checks.specs.declared.stages.CheckStage.TheVariants as stage
use Rattle.sq_model.specs.Answers.{take_answer, take_of_held}
use Rattle.sq_model.specs.Promises.{IsAnswered, StandsFor}
use Rattle.sq_model.specs.Says.{outcome_in}
use Rattle.sq_model.specs.States.{State}
use Rattle.sq_engine.specs.EngineViews.{EngineView, state_of}
use Rattle.sq_engine.specs.Engines.{IsEngine}
use Rattle.sq_engine.proofs.TableLaws.{row_at_number}
use Rattle.sq_replay.specs.declared.stops.Stop.TheVariants as stop
use Rattle.sq_replay.specs.Making.{IsMaking, is_refused}
use Rattle.sq_pools.specs.Basins.{has_tag_pool}
use Rattle.sq_replay.specs.Riding.{AreBasins, IsSeatableAt, rider_of}
use Rattle.sq_replay.specs.Runs.{Is, ScriptView, Rider, Rides}
use Rattle.sq_replay.proofs.EngineLaws.{engine_made, latest_by}
use Rattle.sq_replay.proofs.MakingLaws.{riders_taken}
use Rattle.sq_replay.proofs.TakenLaws.{IsRecord, held_ask, record_rides}
use Rattle.sq_replay.proofs.ToldLaws.{take_told}

-- where the pool of a record takes its client, a seat there may be given
pub seatable : (j : Judged) (place : SeatPlace) → TakesClient j place → IsSeatableAt (rider_of j) place
seatable j Nowhere takes = tt
seatable j (ByAddress pool) takes = ap (λ b. b && not (has_tag_pool j.config pool)) takes.0 ∙ ap not takes.1
seatable j (ByTag pool tag) takes = takes

-- a check is seated by what it saw, whatever the version
tag_unversioned : (c : Configuration) (s : Sight) (answers : List Answer) (place : ℕ)
    → tag_at c (unversioned_sight s) answers place ≡ tag_at c s answers place
tag_unversioned c s answers place = by (slice_get c.acls place)
  where
    of_body : (b : Body) → tag_of_body c (unversioned_sight s) answers place b ≡ tag_of_body c s answers place b
    of_body (body.Leaf l) = refl
    of_body (body.External class arguments) = ap (λ (k : List ℕ). tag_in (answer_for answers class k))
        (key_unversioned c place s)
    of_body (body.AnyOf terms) = refl
    of_body (body.AllOf lines) = refl

    by : (o : Option Acl) → tag_of_acl c (unversioned_sight s) answers place o ≡ tag_of_acl c s answers place o
    by None = refl
    by (Some a) = of_body a.body

tags_unversioned : (c : Configuration) (s : Sight) (answers : List Answer) (places : List ℕ)
    → first_tag (tag_at c (unversioned_sight s) answers) places ≡ first_tag (tag_at c s answers) places
tags_unversioned c s answers [] = refl
tags_unversioned c s answers (place ∷ places) =
    ap (λ o. option_or o (first_tag (tag_at c (unversioned_sight s) answers) places))
    (tag_unversioned c s answers place)
    ∙ ap (option_or (tag_at c s answers place)) (tags_unversioned c s answers places)

place_unversioned : (c : Configuration) (s : Sight) (answers : List Answer)
    → seat_place c (unversioned_sight s) answers ≡ seat_place c s answers
place_unversioned c s answers =
    ap (λ taken. place_in c.pools (first_tag (tag_at c (unversioned_sight s) answers) (rules_walk taken c.acls c.rules))
    (pool_of c (unversioned_sight s))) (taken_unversioned c s answers)
    ∙ ap (λ o. place_in c.pools o (pool_of c (unversioned_sight s)))
    (tags_unversioned c s answers (walk_over answers c s))
    ∙ ap (λ taken. place_in c.pools (tag_of c s answers) (pool_from taken c.acls s.addr 0 c.pools))
    (taken_unversioned c s [])

-- an open check, as it is kept
record IsKept (v : EngineView) (n : ℕ) (h : Held) : Type 0 where
  pub parts : CheckParts
  pub found : value_at v.checks n ≡ Some parts
  pub is : row n parts ≡ h

kept_by : (v : EngineView) (n : ℕ) (h : Held) (o : Option CheckParts) → value_at v.checks n ≡ o
    → option_map (row n) o ≡ Some h → IsKept v n h
kept_by v n h None is e = absurd (none-some h e)
kept_by v n h (Some k) is e = record { parts = k; found = is; is = same_Some _ _ e }

kept : (v : EngineView) (n : ℕ) (h : Held) → held_at n (rows_of v.checks) ≡ Some h → IsKept v n h
kept v n h is = kept_by v n h (value_at v.checks n) refl (sym (row_at_number n v.checks) ∙ is)

-- what was taken was done, and had no answer to come
done_taken : (s : State) (n : ℕ) (h : Held) (a : Told) → take_of_held s n (Some h) ≡ gives a → h.done ≡ true
done_taken s n h a = by h.done
  where
    by : (b : Bool) → refuse_if (not b) (refusal.NotDone n) (gives (told.Judged h.asked.epoch (outcome_in s h)))
        ≡ gives a → b ≡ true
    by true e = refl
    by false e = absurd (cc)

settled_done : (k : CheckParts) → is_done_in k.stage ≡ true → answers_in k ≡ k.answers
settled_done k done = by k.stage done
  where
    by : (t : CheckStage) → is_done_in t ≡ true → k.answers ++ option_to_list (came_in t) ≡ k.answers
    by stage.Ready e = absurd (cc)
    by (stage.Came a) e = absurd (cc)
    by (stage.Waits x) e = absurd (cc)
    by (stage.Done o) e = append-nil k.answers

-- the record of a check whose outcome was taken, as a seat needs it
pub record_is : (v : EngineView) (n : ℕ) (h : Held) (r : Judged) (a : Told) → IsEngine v
    → held_at n (rows_of v.checks) ≡ Some h → take_answer (state_of v) n ≡ gives a
    → ((k : CheckParts) → value_at v.checks n ≡ Some k → r ≡ judged_of n r.outcome k)
    → IsRecord (state_of v) h (rider_of r)
record_is v n h r a i found takes of =
    let x = kept v n h found in
    let k = x.parts in
    let own : r ≡ judged_of n r.outcome k = of k x.found in
    let epoch : r.epoch ≡ k.epoch = ap (λ (z : Judged). z.epoch) own in
    let config : r.config ≡ k.config = ap (λ (z : Judged). z.config) own in
    let sight : r.sight ≡ k.sight = ap (λ (z : Judged). z.sight) own in
    let answers : r.answers ≡ k.answers = ap (λ (z : Judged). z.answers) own in
    let done : is_done_in k.stage ≡ true = done_taken (state_of v) n (row n k) a
    (sym (ap (take_of_held (state_of v) n) (found ∙ ap Some (sym x.is))) ∙ takes) in
    let own_answers : r.answers ≡ answers_in k = answers ∙ sym (settled_done k done) in
    let made : IsRecord (state_of v) (row n k) (rider_of r) = record {
      epoch_is = epoch;
      config_is = i.configured n k x.found ∙ ap (λ (z : Configuration). Some z) (sym config);
      place_is = ap (λ z. seat_place r.config z r.answers) sight ∙ ap (seat_place r.config k.sight) own_answers
          ∙ sym (place_unversioned r.config k.sight (answers_in k));
      addr_is = ap (λ (z : Sight). z.addr) sight;
    } in
    subst (λ (z : Held). IsRecord (state_of v) z (rider_of r)) x.is made

-- a check that is not open has no outcome to take
pub take_stops : (v w : ScriptView) (now n : ℕ)
    → option_map (λ (k : Held). k.asked.conn) (held_at n v.state.checks) ≡ None
    → IsMaking v w now (Take n) (Err stop.Refused)
take_stops v w now n none = λ configs h is.
    ap is_refused (take_told configs h v.state (max now v.latest) n is.engine (latest_by v configs h now is)
    ∙ by (held_at n v.state.checks) none)
  where
    by : (o : Option Held) → option_map (λ (k : Held). k.asked.conn) o ≡ None
        → take_of_held v.state n o ≡ refuses (refusal.UnknownCheck n)
    by None e = refl
    by (Some k) e = absurd (none-some k.asked.conn (sym e))

-- an outcome is taken: where it allows, its record is that of its connection from here on
pub taken_making : (v : ScriptView) (t : State) (riders : ℕ → Option Rider) (now n conn : ℕ) (r : Judged)
    → AreBasins v.pools → option_map (λ (k : Held). k.asked.conn) (held_at n v.state.checks) ≡ Some conn
    → ((configs : List Configuration) (h : History) → StandsFor configs h v.state
    → latest h ≤ max (max now v.latest) v.state.latest
    → IsAnswered configs h (max (max now v.latest) v.state.latest) (Take n) (told.Judged r.epoch r.outcome) t)
    → ((k : Held) → held_at n v.state.checks ≡ Some k → IsRecord v.state k (rider_of r))
    → ((c : ℕ) → riders c ≡ (if c == conn then (if r.outcome.allow then Some (rider_of r) else None) else v.riders c))
    → IsMaking v (record { state = t; pools = v.pools; latest = max now v.latest; riders = riders }) now (Take n)
    (Ok (told.Judged r.epoch r.outcome))
taken_making v t riders now n conn r basin known promised own noted =
    (tt, engine_made v t riders now (Take n) (told.Judged r.epoch r.outcome) basin refl promised rides)
  where
    by : (configs : List Configuration) (h : History) → Is v configs h → (k : Held) → held_at n v.state.checks ≡ Some k
        → k.asked.conn ≡ conn → (c : ℕ)
        → Rides configs (allowed_of (entry_at (max now v.latest) (Take n) (told.Judged r.epoch r.outcome) ∷ h) c)
        (taken_answers configs
        (marked configs (entry_at (max now v.latest) (Take n) (told.Judged r.epoch r.outcome) ∷ h)) c) (riders c)
    by configs h is k found same c =
        subst (Rides configs (allowed_of (entry_at (max now v.latest) (Take n) (told.Judged r.epoch r.outcome) ∷ h) c)
        (taken_answers configs
        (marked configs (entry_at (max now v.latest) (Take n) (told.Judged r.epoch r.outcome) ∷ h)) c))
        (ap (λ (d : ℕ). if c == d then (if r.outcome.allow then Some (rider_of r) else None) else v.riders c) same
        ∙ sym (noted c))
        (riders_taken v configs h (max now v.latest) n r.epoch r.outcome k.asked (rider_of r) is
        (held_ask configs h v.state n k is.engine found)
        (λ allows. record_rides configs h v.state n k (rider_of r) is.engine found (own k found)) c)

    rides : (configs : List Configuration) (h : History) → Is v configs h → (c : ℕ)
        → Rides configs (allowed_of (entry_at (max now v.latest) (Take n) (told.Judged r.epoch r.outcome) ∷ h) c)
        (taken_answers configs
        (marked configs (entry_at (max now v.latest) (Take n) (told.Judged r.epoch r.outcome) ∷ h)) c) (riders c)
    rides configs h is c = let k = map_some (λ (z : Held). z.asked.conn) (held_at n v.state.checks) conn known in
        by configs h is k.0 k.1 (sym k.2) c

-- the same at a moment that is the greatest
pub taken_at_moment : (v : ScriptView) (t : State) (riders : ℕ → Option Rider) (now u n conn : ℕ) (r : Judged)
    → u ≡ max now v.latest → AreBasins v.pools
    → option_map (λ (k : Held). k.asked.conn) (held_at n v.state.checks) ≡ Some conn
    → ((configs : List Configuration) (h : History) → StandsFor configs h v.state → latest h ≤ max u v.state.latest
    → IsAnswered configs h (max u v.state.latest) (Take n) (told.Judged r.epoch r.outcome) t)
    → ((k : Held) → held_at n v.state.checks ≡ Some k → IsRecord v.state k (rider_of r))
    → ((c : ℕ) → riders c ≡ (if c == conn then (if r.outcome.allow then Some (rider_of r) else None) else v.riders c))
    → IsMaking v (record { state = t; pools = v.pools; latest = u; riders = riders }) now (Take n)
    (Ok (told.Judged r.epoch r.outcome))
taken_at_moment v t riders now u n conn r e basin known promised own noted =
    subst (λ (m : ℕ). ((configs : List Configuration) (h : History) → StandsFor configs h v.state
    → latest h ≤ max m v.state.latest
    → IsAnswered configs h (max m v.state.latest) (Take n) (told.Judged r.epoch r.outcome) t)
    → IsMaking v (record { state = t; pools = v.pools; latest = m; riders = riders }) now (Take n)
    (Ok (told.Judged r.epoch r.outcome))) (sym e)
    (λ p. taken_making v t riders now n conn r basin known p own noted) promised
