-- Classes by name: what a step, an act and a start say of them.
use Rattle.std.proofs.Common.{◌≡◌, ℕ, ◌≤◌, max, List, [], true, Option, Some, None, Ok, Err, IfNone, IfSome, ◌∷◌, bytes_eq, position, get_or, option_and_then, slice_get, inl, inr, refl, sym, ap, subst, ◌∙◌, arith}
use Rattle.std.proofs.lemmas.List.Quantifiers.{position-Some}
use Rattle.std.proofs.lemmas.Option.{none-some, slice_get-get_or}
use Rattle.std.proofs.lemmas.Slice.Eq.{bytes_eq-Decides}
use Rattle.std.specs.Option.{option_map_or}
use Rattle.sq_machine.specs.declared.entries.Event.{Event}
use Rattle.sq_machine.specs.declared.entries.Event.TheVariants.{StartFail, Started}
use Rattle.sq_machine.specs.declared.entries.Told.{Told}
use Rattle.sq_machine.specs.declared.entries.Told.TheVariants as told
use Rattle.sq_machine.specs.declared.refusals.Refusal.{Refusal}
use Rattle.sq_machine.specs.declared.refusals.Refusal.TheVariants as refusal
use Rattle.sq_rules.specs.Classes.{Class}
use Rattle.sq_rules.specs.Configurations.{Configuration}
use Rattle.sq_machine.specs.Entries.{History}
use Rattle.sq_machine.specs.Machine.{next}
use Rattle.sq_machine.specs.Next.{refuses}
use Rattle.sq_machine.specs.Marking.{marked}
use Rattle.sq_machine.specs.Readings.{latest}
use Rattle.sq_model.specs.CheckRows.{Held, held_at}
use Rattle.sq_model.specs.declared.stepping.Stepped.{Stepped}
use Rattle.sq_model.specs.declared.stepping.Stepped.TheVariants as stepped
use Rattle.sq_machine.specs.declared.acts.Act.{Act}
use Rattle.sq_machine.specs.declared.acts.Act.TheVariants as act
use Rattle.sq_machine.specs.DueActs.{Due}
use Rattle.sq_model.specs.Answers.{name_in}
use Rattle.sq_model.specs.Promises.{IsAnswered, StandsFor}
use Rattle.sq_model.specs.States.{IsSame, State}
use Rattle.sq_engine.proofs.ConfigLaws.{acted_config}
use Rattle.sq_engine.specs.Acting.{after_act, told_of_act}
use Rattle.sq_engine.specs.Promised.{IsPromisedAt}
use Rattle.sq_engine.specs.Stepping.{after_step_held, after_step_now, stepped_told}
use Rattle.sq_replay.specs.Riding.{AreBasins}
use Rattle.sq_replay.proofs.PairLaws.{is_elsewhere}
use Rattle.sq_replay.specs.declared.stops.Stop.TheVariants as stop
use Rattle.sq_replay.specs.Making.{IsMaking, MayStand, stop_for}
use Rattle.sq_replay.specs.Naming.{IsNamed, IsNowhere}
use Rattle.sq_replay.specs.Runs.{ScriptView}
use Rattle.sq_replay.proofs.EngineLaws.{IsPlain, latest_by, quiet_made, refused_now}
use Rattle.sq_replay.proofs.MakingLaws.{keeps_riders}
use Rattle.sq_replay.proofs.ToldLaws.{class_there, failed_nowhere, failed_unnamed, started_nowhere, started_unnamed}

-- names stay

-- states with the same configuration of an epoch have the same names of its classes
pub name_same : (s t : State) (e c : ℕ) → t.config e ≡ s.config e
    → name_in t (record { epoch = e; class = c }) ≡ name_in s (record { epoch = e; class = c })
name_same s t e c same = ap (λ (o : Option Configuration). option_map_or (λ (class : Class). class.name)
    (option_and_then (λ (config : Configuration). slice_get config.classes c) o) []) same

-- a step changes no configuration
step_config : (s : State) (n now e : ℕ) (o : Option Held) → (after_step_held s n now o).config e ≡ s.config e
step_config s n now e None = refl
step_config s n now e (Some h) = refl

-- so what a step said is told alike before and behind it
pub stepped_same : (s t : State) (n now e : ℕ) (r : Stepped) → IsSame t (after_step_now s n now)
    → stepped_told t e r ≡ stepped_told s e r
stepped_same s t n now e (stepped.Took c) same =
    ap (λ (name : List ℕ). told.Took name)
    (name_same s t e c (same.configs_are e ∙ step_config s n now e (held_at n s.checks)))
stepped_same s t n now e (stepped.Waits q) same = refl
stepped_same s t n now e stepped.Done same = refl

pub act_same : (s t : State) (o : Option Due) (now : ℕ) (a : Act) → IsSame t (after_act o now s)
    → told_of_act t a ≡ told_of_act s a
act_same s t o now (act.Stop k) same = refl
act_same s t o now (act.Send k q channel text) same = refl
act_same s t o now (act.Start e c) same = ap (λ (name : List ℕ). told.Start e name)
    (name_same s t e c (same.configs_are e ∙ acted_config o now s e))

-- starts

-- the name at the place is the name that was searched
named_is : (s : State) (e c : ℕ) (name : List ℕ) → (i : IsNamed s e c name)
    → name_in s (record { epoch = e; class = c }) ≡ name
named_is s e c name i = ap (λ (o : Option Class). option_map_or (λ (class : Class). class.name) o []) i.class_is
    ∙ i.name_is

-- an event that names the class at a place is made
pub named_making : (v : ScriptView) (t : State) (now : ℕ) (event : ℕ → List ℕ → Event) (answer : Told) (e c : ℕ)
    (name : List ℕ) → AreBasins v.pools → IsNamed v.state e c name
    → is_elsewhere (event e name) answer ≡ true → keeps_riders (event e name) ≡ true → MayStand (event e name)
    → ((configs : List Configuration) (h : History) → StandsFor configs h v.state
    → latest h ≤ max (max now v.latest) v.state.latest
    → IsAnswered configs h (max (max now v.latest) v.state.latest)
    (event e (name_in v.state (record { epoch = e; class = c }))) answer t)
    → IsMaking v (record { state = t; pools = v.pools; latest = max now v.latest; riders = v.riders }) now
    (event e name) (Ok answer)
named_making v t now event answer e c name basin named other keeps stands promised =
    quiet_made v t now (event e name) answer basin other keeps stands
    (λ configs h st late. subst (λ (z : List ℕ). IsAnswered configs h (max (max now v.latest) v.state.latest)
    (event e z) answer t) (named_is v.state e c name named) (promised configs h st late))

-- or refused
pub named_stops : {A : Type 0} (tell : A → Told) (v w : ScriptView) (t : State) (now : ℕ) (event : ℕ → List ℕ → Event)
    (e c : ℕ) (name : List ℕ) (r : Refusal) → IsPlain (event e name) → IsNamed v.state e c name
    → IsPromisedAt tell v.state (max (max now v.latest) v.state.latest) event (record { epoch = e; class = c }) (Err r)
    t → IsMaking v w now (event e name) (Err (stop_for r))
named_stops tell v w t now event e c name refusal.WantOfMemory plain named p = tt
named_stops tell v w t now event e c name r plain named p = λ configs h is.
    plain configs h (max now v.latest) (refused_now v now (event e name) r
    (λ configs h st late. subst (λ (z : List ℕ). next configs (marked configs h) (max (max now v.latest) v.state.latest)
    (event e z) ≡ refuses r) named.name_is
    (p configs h named.class st late
    (class_there configs (marked configs h) v.state e c named.class st.stands named.class_is)))
    configs h is)

-- a start of a class that is nowhere is refused
pub started_stops : (v w : ScriptView) (now e : ℕ) (name : List ℕ) → IsNowhere v.state e name
    → IsMaking v w now (Started e name) (Err stop.Refused)
started_stops v w now e name (inl none) = λ configs h is. started_nowhere configs h v.state (max now v.latest) e name
    is.engine (latest_by v configs h now is) none
started_stops v w now e name (inr x) = λ configs h is. started_unnamed configs h v.state (max now v.latest) e name
    x.config is.engine (latest_by v configs h now is) x.config_is x.none

pub failed_stops : (v w : ScriptView) (now e : ℕ) (name : List ℕ) → IsNowhere v.state e name
    → IsMaking v w now (StartFail e name) (Err stop.Refused)
failed_stops v w now e name (inl none) = λ configs h is. failed_nowhere configs h v.state (max now v.latest) e name
    is.engine (latest_by v configs h now is) none
failed_stops v w now e name (inr x) = λ configs h is. failed_unnamed configs h v.state (max now v.latest) e name
    x.config is.engine (latest_by v configs h now is) x.config_is x.none

-- the same at a moment that is the greatest
pub named_at : (v : ScriptView) (t : State) (now u : ℕ) (event : ℕ → List ℕ → Event) (answer : Told) (e c : ℕ)
    (name : List ℕ) → u ≡ max now v.latest → AreBasins v.pools → IsNamed v.state e c name
    → is_elsewhere (event e name) answer ≡ true → keeps_riders (event e name) ≡ true → MayStand (event e name)
    → ((configs : List Configuration) (h : History) → StandsFor configs h v.state → latest h ≤ max u v.state.latest
    → IsAnswered configs h (max u v.state.latest) (event e (name_in v.state (record { epoch = e; class = c })))
    answer t)
    → IsMaking v (record { state = t; pools = v.pools; latest = u; riders = v.riders }) now (event e name) (Ok answer)
named_at v t now u event answer e c name is basin named other keeps stands =
    subst (λ (n : ℕ). ((configs : List Configuration) (h : History) → StandsFor configs h v.state
    → latest h ≤ max n v.state.latest
    → IsAnswered configs h (max n v.state.latest) (event e (name_in v.state (record { epoch = e; class = c })))
    answer t)
    → IsMaking v (record { state = t; pools = v.pools; latest = n; riders = v.riders }) now (event e name)
    (Ok answer)) (sym is) (named_making v t now event answer e c name basin named other keeps stands)

pub named_stops_at : {A : Type 0} (tell : A → Told) (v w : ScriptView) (t : State) (now u : ℕ)
    (event : ℕ → List ℕ → Event) (e c : ℕ) (name : List ℕ) (r : Refusal) → u ≡ max now v.latest → IsPlain (event e name)
    → IsNamed v.state e c name
    → IsPromisedAt tell v.state (max u v.state.latest) event (record { epoch = e; class = c }) (Err r) t
    → IsMaking v w now (event e name) (Err (stop_for r))
named_stops_at tell v w t now u event e c name r is plain named p =
    named_stops tell v w t now event e c name r plain named
    (subst (λ (n : ℕ). IsPromisedAt tell v.state (max n v.state.latest) event (record { epoch = e; class = c }) (Err r)
    t) is p)

-- the search for a class by its name

equal : (a b : List ℕ) → bytes_eq a b ≡ true → a ≡ b
equal a b e = grind (arith, e, bytes_eq-Decides a b)

-- a class that is found has the name
found_in : (classes : List Class) (name : List ℕ) (place : ℕ)
    → position (λ (class : Class). bytes_eq class.name name) classes ≡ Some place
    → (class : Class) × (slice_get classes place ≡ Some class) × (class.name ≡ name)
found_in [] name place is = absurd (none-some place is)
found_in (k ∷ classes) name place is =
    let l = position-Some (λ (class : Class). bytes_eq class.name name) (k ∷ classes) place k is in (
      get_or (k ∷ classes) place k,
      slice_get-get_or (k ∷ classes) place k l.0,
      equal (get_or (k ∷ classes) place k).name name l.1,
    )

found_named : (s : State) (e place : ℕ) (name : List ℕ) (config : Configuration) → s.config e ≡ Some config
    → position (λ (class : Class). bytes_eq class.name name) config.classes ≡ Some place → IsNamed s e place name
found_named s e place name config at is =
    let f = found_in config.classes name place is in
    record {
      class = f.0;
      class_is = ap (option_and_then (λ (k : Configuration). slice_get k.classes place)) at ∙ f.1;
      name_is = f.2;
    }

pub searched_some : (s : State) (e : ℕ) (name : List ℕ) (config : Configuration) (r : Option ℕ)
    → s.config e ≡ Some config → r ≡ position (λ (class : Class). bytes_eq class.name name) config.classes
    → IfSome r (λ place. IsNamed s e place name)
searched_some s e name config None at is = tt
searched_some s e name config (Some place) at is = found_named s e place name config at (sym is)

pub searched_none : (s : State) (e : ℕ) (name : List ℕ) (config : Configuration) (r : Option ℕ)
    → s.config e ≡ Some config → r ≡ position (λ (class : Class). bytes_eq class.name name) config.classes
    → IfNone r (IsNowhere s e name)
searched_none s e name config None at is = inr (record { config = config; config_is = at; none = sym is })
searched_none s e name config (Some place) at is = tt
