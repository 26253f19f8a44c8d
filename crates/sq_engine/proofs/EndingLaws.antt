-- The end of a process: what is left.
use Rattle.std.proofs.Common.{◌≡◌, ◌∙◌, ◌==◌, ◌&&◌, ◌||◌, ℕ, List, [], ◌∷◌, Bool, true, false, if◌then◌else◌, map, Some, is_some, refl, ap, sym, subst}
use Rattle.std.proofs.lemmas.Option.{same_Some}
use Rattle.std.specs.List.{list_any}
use Rattle.sq_base.specs.declared.helpers.Cause.{Cause}
use Rattle.sq_base.specs.declared.helpers.What.TheVariants as what
use Rattle.sq_machine.specs.DueActs.{ClassId}
use Rattle.sq_machine.specs.Rising.{Rises}
use Rattle.sq_model.specs.CheckRows.{after_ends}
use Rattle.sq_model.specs.ClassRows.{after_death}
use Rattle.sq_class.specs.Parts.{PartState}
use Rattle.sq_checks.specs.OpenChecks.{CheckParts, rows_of}
use Rattle.sq_epochs.specs.EpochProcs.{HasEnded, IsEnded}
use Rattle.sq_epochs.specs.EpochStates.{EpochsState, IsChanged, home_at, part_at}
use Rattle.sq_epochs.specs.HomeStates.{home_in, is_among, with_number}
use Rattle.sq_epochs.proofs.HomeLaws.{among_with, home_without}
use Rattle.sq_model.specs.Changes.{after_end_at, is_open_at, row_ends}
use Rattle.sq_model.specs.States.{IsSame}
use Rattle.sq_engine.specs.Engines.{IsEngine, held_number}
use Rattle.sq_engine.specs.EngineViews.{EngineView, state_of, stop_at}
use Rattle.sq_engine.specs.Handing.{AreListed, HasHandedOut, all_lost}
use Rattle.sq_engine.proofs.EndedLaws.{ended_configs, ended_rows}
use Rattle.sq_engine.proofs.HandingLaws.{part_after}
use Rattle.sq_engine.proofs.LosingLaws.{HasLost, IsLost, changed_as, gone_with, has_ended, lost_out, still_listed}
use Rattle.sq_engine.proofs.TableLaws.{number_sym}

-- the end of a process of this class, as one by which questions are lost
pub end_change : (v : EngineView) (mid : EpochsState) (e c k : ℕ) (by : Cause) (due : Bool) → IsEngine v
    → home_at v.epochs k ≡ Some (record { epoch = e; class = c }) → IsEnded by k due v.epochs mid
    → IsChanged e c (HasLost by (after_death by k) (gone_with k)) v.epochs
    (record mid { homes = v.epochs.homes; stops = v.epochs.stops })
end_change v mid e c k by due engine home end =
    let same : end.place ≡ record { epoch = e; class = c } = same_Some _ _ (sym end.home_is ∙ home) in
    changed_as e c (HasEnded by k) (HasLost by (after_death by k) (gone_with k)) v.epochs
    (record mid { homes = v.epochs.homes; stops = v.epochs.stops })
    (λ p r at h. has_ended by k p r (engine.fed.none_lost e c p at) h)
    (subst (λ (p : ClassId). IsChanged p.epoch p.class (HasEnded by k) v.epochs
    (record mid { homes = v.epochs.homes; stops = v.epochs.stops })) same end.changed)

pub end_there : (v : EngineView) (mid : EpochsState) (e c k : ℕ) (by : Cause) (due : Bool) → IsEngine v
    → home_at v.epochs k ≡ Some (record { epoch = e; class = c }) → IsEnded by k due v.epochs mid
    → is_some (part_at mid e c) ≡ true
end_there v mid e c k by due engine home end =
    ap is_some (part_after e c (HasLost by (after_death by k) (gone_with k)) v.epochs
    (record mid { homes = v.epochs.homes; stops = v.epochs.stops }) (end_change v mid e c k by due engine home end))

pub end_listed : (v : EngineView) (mid : EpochsState) (e c k : ℕ) (by : Cause) (due : Bool) → IsEngine v
    → home_at v.epochs k ≡ Some (record { epoch = e; class = c }) → IsEnded by k due v.epochs mid
    → (p : PartState) → part_at mid e c ≡ Some p → AreListed p v.checks
end_listed v mid e c k by due engine home end = still_listed v mid e c by (after_death by k) (gone_with k) engine
    (end_change v mid e c k by due engine home end)

-- a class that a process left that ended, and the checks
pub end_out : (v : EngineView) (mid new : EpochsState) (cs : List (ℕ × CheckParts)) (e c k t : ℕ) (by : Cause)
    (due : Bool) → IsEngine v → home_at v.epochs k ≡ Some (record { epoch = e; class = c })
    → IsEnded by k due v.epochs mid → IsChanged e c HasHandedOut mid new
    → ((p : PartState) → part_at mid e c ≡ Some p → cs ≡ all_lost p.row.stock.losses t v.checks)
    → Rises (map held_number (rows_of v.checks)) → IsLost v e c t by (after_death by k) (gone_with k) new cs
end_out v mid new cs e c k t by due engine home end j list rise =
    lost_out v mid new cs e c t by (after_death by k) (gone_with k) engine (λ r. refl) (λ r. refl)
    (end_change v mid e c k by due engine home end) j list rise

pub end_engine : (v : EngineView) (mid new : EpochsState) (cs : List (ℕ × CheckParts)) (e c k t : ℕ) (by : Cause)
    (due : Bool) → IsEngine v → home_at v.epochs k ≡ Some (record { epoch = e; class = c })
    → IsEnded by k due v.epochs mid → IsChanged e c HasHandedOut mid new
    → ((p : PartState) → part_at mid e c ≡ Some p → cs ≡ all_lost p.row.stock.losses t v.checks)
    → Rises (map held_number (rows_of v.checks)) → IsEngine (record v { checks = cs; epochs = new; latest = t })
end_engine v mid new cs e c k t by due engine home end j list rise =
    (end_out v mid new cs e c k t by due engine home end j list rise).engine

any_among : (j : ℕ) (ns : List ℕ) → list_any (λ n. j == n) ns ≡ is_among j ns
any_among j [] = refl
any_among j (n ∷ ns) = ap (λ b. j == n || b) (any_among j ns)

or_turned : (a b : Bool) → (a || b) ≡ (b || a)
or_turned true true = refl
or_turned true false = refl
or_turned false true = refl
or_turned false false = refl

or_false : (a : Bool) → a ≡ (a || false)
or_false true = refl
or_false false = refl

stops_if : (due : Bool) (j k : ℕ) (ns : List ℕ)
    → list_any (λ n. j == n) (if due then with_number k ns else ns) ≡ (list_any (λ n. j == n) ns || (due && k == j))
stops_if true j k ns =
    any_among j (with_number k ns) ∙ among_with j k ns ∙ ap (λ b. b || is_among j ns) (number_sym j k)
    ∙ ap (λ b. (k == j) || b) (sym (any_among j ns)) ∙ or_turned (k == j) (list_any (λ n. j == n) ns)
stops_if false j k ns = or_false (list_any (λ n. j == n) ns)

-- the state after the end of a process
pub end_same : (v : EngineView) (mid new : EpochsState) (cs : List (ℕ × CheckParts)) (e c k t : ℕ) (by : Cause)
    (due : Bool) → IsEngine v → home_at v.epochs k ≡ Some (record { epoch = e; class = c })
    → IsEnded by k due v.epochs mid → IsChanged e c HasHandedOut mid new
    → ((p : PartState) → part_at mid e c ≡ Some p → cs ≡ all_lost p.row.stock.losses t v.checks)
    → Rises (map held_number (rows_of v.checks))
    → IsSame (state_of (record v { checks = cs; epochs = new; latest = t }))
    (after_end_at (record { epoch = e; class = c }) k by due t (state_of v))
end_same v mid new cs e c k t by due engine home end j list rise =
    let out = end_out v mid new cs e c k t by due engine home end j list rise in
    let next : EpochsState = record new { homes = v.epochs.homes; stops = v.epochs.stops } in
    record {
      clients_are = λ d. refl;
      conns_are = refl;
      from_are = λ a. refl;
      checks_are = out.rows ∙ ap (λ o. after_ends (row_ends c (what.Fault by) t (is_open_at k o) o) (rows_of v.checks))
          (sym out.row_is);
      asks_are = refl;
      puts_are = refl;
      current_is = ap (λ (z : EpochsState). z.current) out.changed.new_is;
      configs_are = λ f. ended_configs v.epochs next e c f (after_death by k) (gone_with k out.row) out.changed;
      rows_are = λ f d. ended_rows v.epochs next e c f d (after_death by k) (gone_with k out.row) out.changed;
      procs_are = ap (λ (z : EpochsState). z.procs) out.changed.new_is;
      homes_are = λ i. ap (λ (z : EpochsState). home_at z i) j.new_is ∙ ap (home_in i) end.homes_are
          ∙ home_without i k v.epochs.homes;
      stops_are = λ i. ap (λ (z : EpochsState). stop_at z i) j.new_is
          ∙ ap (λ ns. list_any (λ n. i == n) ns) end.stops_are ∙ stops_if due i k v.epochs.stops;
      latest_is = refl;
      offset_is = refl;
    }
