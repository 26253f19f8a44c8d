-- Questions of a class that are lost by one cause: once they were handed out.
use Rattle.std.proofs.Common.{◌≡◌, ◌∙◌, ◌==◌, ◌&&◌, ℕ, List, [], ◌∷◌, Bool, true, false, not, if◌then◌else◌, filter, map, Option, None, Some, is_some, refl, ap, sym, subst}
use Rattle.std.proofs.lemmas.Option.{same_Some}
use Rattle.std.specs.Option.{option_map}
use Rattle.sq_base.specs.declared.helpers.Cause.{Cause}
use Rattle.sq_base.specs.declared.helpers.Cause.TheVariants as cause
use Rattle.sq_base.specs.declared.helpers.What.TheVariants as what
use Rattle.sq_machine.specs.Channels.{is_open}
use Rattle.sq_machine.specs.Farms.{is_last_start}
use Rattle.sq_machine.specs.Living.{slots_in}
use Rattle.sq_machine.specs.Losses.{Loss}
use Rattle.sq_machine.specs.OpenLookups.{LookupRow, is_open_lookup, key_of, question_of, waits_in}
use Rattle.sq_machine.specs.Rising.{Rises}
use Rattle.sq_model.specs.CheckRows.{after_ends}
use Rattle.sq_model.specs.ClassRows.{ClassRow, after_death, after_failed, is_waiting}
use Rattle.sq_class.specs.Losing.{handed_out, lost_cause}
use Rattle.sq_class.specs.Parts.{PartState}
use Rattle.sq_checks.specs.OpenChecks.{CheckParts, rows_of}
use Rattle.sq_checks.specs.Tables.{value_at}
use Rattle.sq_checks.specs.declared.stages.Need.{Need}
use Rattle.sq_epochs.specs.EpochChanges.{HasFailed}
use Rattle.sq_epochs.specs.EpochProcs.{HasEnded}
use Rattle.sq_epochs.specs.EpochStates.{EpochsState, IsChanged, home_at, part_at, row_at}
use Rattle.sq_model.specs.Changes.{after_failed_at, end_answer, is_stranded, row_ends}
use Rattle.sq_model.specs.States.{IsSame}
use Rattle.sq_engine.specs.Engines.{IsEngine, held_number}
use Rattle.sq_engine.specs.EngineViews.{EngineView, state_of, stop_at}
use Rattle.sq_engine.specs.Handing.{AreListed, HasHandedOut, all_lost, still_waits}
use Rattle.sq_engine.proofs.EndedLaws.{HasEnds, IsEnding, ended_configs, ended_engine, ended_rows, left_need, left_waits}
use Rattle.sq_engine.proofs.HandingLaws.{changed_beside, changed_then, part_after}
use Rattle.sq_engine.proofs.LostLaws.{engine_listed, engine_needing, lost_answer, lost_at, lost_by, lost_config, lost_ends, lost_epoch, lost_need, rows_lost, same_ends, still_needs}

-- these questions of a class are lost by this cause, and once they were handed out its row is F of what it was
pub record HasLost (k : Cause) (F : ClassRow → ClassRow) (gone : ClassRow → ℕ → Bool)
    (before mid : PartState) : Type 0 where
  pub lookups_are : mid.row.lookups ≡ before.row.lookups
  pub waiting_are : mid.waiting ≡ before.waiting
  pub after : handed_out mid.row ≡ F before.row
  pub lost : (q : ℕ) → lost_cause q mid.row.stock.losses ≡ (if gone before.row q then Some k else None)

-- those of a process that ended
abbrev pub gone_with : ℕ → ClassRow → ℕ → Bool
gone_with k r q = is_open q (slots_in k r.stock.procs)

-- those that wait in the queue, where the last start failed and no process lives
abbrev pub gone_stranded : ClassRow → ℕ → Bool
gone_stranded r q = is_last_start r.stock && is_waiting q r.stock.queue

pub has_ended : (c : Cause) (k : ℕ) (p m : PartState) → p.row.stock.losses ≡ [] → HasEnded c k p m
    → HasLost c (after_death c k) (gone_with k) p m
has_ended c k p m none h = record {
  lookups_are = ap (λ (z : PartState). z.row.lookups) h.value;
  waiting_are = ap (λ (z : PartState). z.waiting) h.value;
  after = h.after none;
  lost = h.lost none;
}

pub has_failed : (p m : PartState) → p.row.stock.losses ≡ [] → HasFailed p m
    → HasLost cause.NoHelper after_failed gone_stranded p m
has_failed p m none h = record {
  lookups_are = ap (λ (z : PartState). z.row.lookups) h.value;
  waiting_are = ap (λ (z : PartState). z.waiting) h.value;
  after = h.after none;
  lost = h.lost none;
}

-- a change of a class is another, where it is that of what stood there
pub changed_as : (e c : ℕ) (R S : PartState → PartState → Type 0) (old new : EpochsState)
    → ((p r : PartState) → part_at old e c ≡ Some p → R p r → S p r) → IsChanged e c R old new → IsChanged e c S old new
changed_as e c R S old new f i = record {
  before = i.before;
  after = i.after;
  was = i.was;
  change = f i.before i.after i.was i.change;
  new_is = i.new_is;
}

some_if : (b : Bool) (k : Cause) → is_some (if b then Some k else None) ≡ b
some_if true k = refl
some_if false k = refl

lost_if : (losses : List Loss) (k : Cause) (gone : ℕ → Bool)
    → ((q : ℕ) → lost_cause q losses ≡ (if gone q then Some k else None)) → (q : ℕ)
    → is_some (lost_cause q losses) ≡ gone q
lost_if losses k gone h q = ap is_some (h q) ∙ some_if (gone q) k

waits_if : (losses : List Loss) (gone : ℕ → Bool) (o : Option ℕ) → ((q : ℕ) → is_some (lost_cause q losses) ≡ gone q)
    → still_waits losses o ≡ left_waits gone o
waits_if losses gone None h = refl
waits_if losses gone (Some q) h = ap (λ b. if b then None else Some q) (h q)

needs_if : (losses : List Loss) (gone : ℕ → Bool) (o : Option Need) → ((q : ℕ) → is_some (lost_cause q losses) ≡ gone q)
    → still_needs losses o ≡ left_need gone o
needs_if losses gone None h = refl
needs_if losses gone (Some x) h = ap (λ b. if b then None else Some x) (h x.question)

-- the checks that wait for questions of the class are listed in it before they are handed out
pub still_listed : (v : EngineView) (mid : EpochsState) (e c : ℕ) (k : Cause) (F : ClassRow → ClassRow)
    (gone : ClassRow → ℕ → Bool) → IsEngine v
    → IsChanged e c (HasLost k F gone) v.epochs (record mid { homes = v.epochs.homes; stops = v.epochs.stops })
    → (p : PartState) → part_at mid e c ≡ Some p → AreListed p v.checks
still_listed v mid e c k F gone engine i p is n q here =
    let same : i.after ≡ p =
    same_Some i.after p (sym
    (part_after e c (HasLost k F gone) v.epochs (record mid { homes = v.epochs.homes; stops = v.epochs.stops }) i)
    ∙ is) in
    ap (λ w. waits_in w q n) (ap (λ (z : PartState). z.waiting) (sym same) ∙ i.change.waiting_are)
    ∙ engine_listed v e c i.before engine i.was n q
    (ap (is_open_lookup q) (sym (ap (λ (z : PartState). z.row.lookups) (sym same) ∙ i.change.lookups_are)) ∙ here)

-- how a class and the checks are left, once its questions that were lost by one cause were handed out
pub record IsLost (v : EngineView) (e c t : ℕ) (k : Cause) (F : ClassRow → ClassRow) (gone : ClassRow → ℕ → Bool)
    (new : EpochsState) (cs : List (ℕ × CheckParts)) : Type 0 where
  pub row : ClassRow
  pub row_is : row_at v.epochs e c ≡ Some row
  pub changed : IsChanged e c (HasEnds F (gone row)) v.epochs
      (record new { homes = v.epochs.homes; stops = v.epochs.stops })
  pub engine : IsEngine (record v { checks = cs; epochs = new; latest = t })
  pub rows : rows_of cs ≡ after_ends (row_ends c (what.Fault k) t (gone row) (Some row)) (rows_of v.checks)

key_there : (q : ℕ) (rows : List LookupRow) → is_open_lookup q rows ≡ true → is_some (key_of q rows) ≡ true
key_there q [] h = absurd (cc)
key_there q (l ∷ rows) h = by (q == l.question) refl h (λ x. key_there q rows x)
  where
    by : (b : Bool) → (q == l.question) ≡ b → is_open_lookup q (l ∷ rows) ≡ true
        → (is_open_lookup q rows ≡ true → is_some (key_of q rows) ≡ true) → is_some (key_of q (l ∷ rows)) ≡ true
    by true x h more = rw x refl
    by false x h more = rw x (more (rw x at h))

answer_if : (b : Bool) (c t q : ℕ) (key : Option (List ℕ)) (k : Cause)
    → lost_answer c t q key (if b then Some k else None) ≡ (if b then end_answer c (what.Fault k) t q key else None)
answer_if true c t q key k = refl
answer_if false c t q key k = refl

pub lost_out : (v : EngineView) (mid new : EpochsState) (cs : List (ℕ × CheckParts)) (e c t : ℕ) (k : Cause)
    (F : ClassRow → ClassRow) (gone : ClassRow → ℕ → Bool) → IsEngine v
    → ((r : ClassRow) → (F r).lookups ≡ filter (λ l. not (gone r l.question)) r.lookups)
    → ((r : ClassRow) → (F r).stock.losses ≡ [])
    → IsChanged e c (HasLost k F gone) v.epochs (record mid { homes = v.epochs.homes; stops = v.epochs.stops })
    → IsChanged e c HasHandedOut mid new
    → ((p : PartState) → part_at mid e c ≡ Some p → cs ≡ all_lost p.row.stock.losses t v.checks)
    → Rises (map held_number (rows_of v.checks)) → IsLost v e c t k F gone new cs
lost_out v mid new cs e c t k F gone engine cut none i j list rise = record {
  row = i.before.row;
  row_is = ap (option_map (λ p. p.row)) i.was;
  changed = changed;
  engine = ended_engine v new cs t e c F (gone i.before.row) (lost_by losses t)
      (row_ends c (what.Fault k) t (gone i.before.row) (Some i.before.row)) engine changed ending at rows;
  rows = rows;
}
  where
    losses : List Loss
    losses = i.after.row.stock.losses

    next : EpochsState
    next = record new { homes = v.epochs.homes; stops = v.epochs.stops }

    beside : IsChanged e c HasHandedOut (record mid { homes = v.epochs.homes; stops = v.epochs.stops }) next
    beside = changed_beside e c HasHandedOut mid new v.epochs.homes v.epochs.stops j

    same : j.before ≡ i.after
    same = same_Some j.before i.after
        (sym j.was ∙ part_after e c (HasLost k F gone) v.epochs
        (record mid { homes = v.epochs.homes; stops = v.epochs.stops }) i)

    handed : HasHandedOut i.after j.after
    handed = subst (λ z. HasHandedOut z j.after) same j.change

    is_gone : (q : ℕ) → is_some (lost_cause q losses) ≡ gone i.before.row q
    is_gone = lost_if losses k (gone i.before.row) i.change.lost

    row_is : j.after.row ≡ F i.before.row
    row_is = handed.row_is ∙ i.change.after

    ends : HasEnds F (gone i.before.row) i.before j.after
    ends = record {
      row_is = row_is;
      lookups_are = ap (λ (r : ClassRow). r.lookups) row_is ∙ cut i.before.row;
      waits = λ n. handed.waits n ∙ waits_if losses (gone i.before.row) (question_of n i.after.waiting) is_gone
          ∙ ap (λ w. left_waits (gone i.before.row) (question_of n w)) i.change.waiting_are;
      none_lost = ap (λ (r : ClassRow). r.stock.losses) row_is ∙ none i.before.row;
      opened = λ q g. ap (is_open_lookup q) (sym i.change.lookups_are) ∙ handed.opened q (is_gone q ∙ g);
    }

    changed : IsChanged e c (HasEnds F (gone i.before.row)) v.epochs next
    changed = changed_then e c (HasLost k F gone) HasHandedOut (HasEnds F (gone i.before.row)) v.epochs
        (record mid { homes = v.epochs.homes; stops = v.epochs.stops }) next i beside ends

    ending : IsEnding (gone i.before.row) (lost_by losses t)
    ending = record {
      epoch_is = lost_epoch losses t;
      config_is = lost_config losses t;
      need_is = λ x. lost_need losses t x ∙ needs_if losses (gone i.before.row) _ is_gone;
    }

    list_is : cs ≡ all_lost losses t v.checks
    list_is = list i.after
        (part_after e c (HasLost k F gone) v.epochs (record mid { homes = v.epochs.homes; stops = v.epochs.stops }) i)

    at : (n : ℕ) → value_at cs n ≡ option_map (lost_by losses t) (value_at v.checks n)
    at n = ap (λ es. value_at es n) list_is ∙ lost_at losses t n v.checks

    opened : (q : ℕ) → is_some (lost_cause q losses) ≡ true → is_open_lookup q i.before.row.lookups ≡ true
    opened q lost = ends.opened q (sym (is_gone q) ∙ lost)

    rows : rows_of cs ≡ after_ends (row_ends c (what.Fault k) t (gone i.before.row) (Some i.before.row))
        (rows_of v.checks)
    rows =
        ap rows_of list_is
        ∙ rows_lost c t i.before.row.lookups losses v.checks
        (engine_needing v e c i.before losses engine i.was rise opened)
        (λ q lost. key_there q i.before.row.lookups (opened q lost))
        ∙ same_ends (lost_ends c t i.before.row.lookups losses)
        (row_ends c (what.Fault k) t (gone i.before.row) (Some i.before.row)) (rows_of v.checks)
        (λ q. ap (lost_answer c t q (key_of q i.before.row.lookups)) (i.change.lost q)
        ∙ answer_if (gone i.before.row q) c t q (key_of q i.before.row.lookups) k)

-- a failed start, as one by which questions are lost
failed_change : (v : EngineView) (mid : EpochsState) (e c : ℕ) → IsEngine v → IsChanged e c HasFailed v.epochs mid
    → IsChanged e c (HasLost cause.NoHelper after_failed gone_stranded) v.epochs
    (record mid { homes = v.epochs.homes; stops = v.epochs.stops })
failed_change v mid e c engine i =
    changed_as e c HasFailed (HasLost cause.NoHelper after_failed gone_stranded) v.epochs
    (record mid { homes = v.epochs.homes; stops = v.epochs.stops })
    (λ p r at h. has_failed p r (engine.fed.none_lost e c p at) h)
    (changed_beside e c HasFailed v.epochs mid v.epochs.homes v.epochs.stops i)

pub failed_listed : (v : EngineView) (mid : EpochsState) (e c : ℕ) → IsEngine v → IsChanged e c HasFailed v.epochs mid
    → (p : PartState) → part_at mid e c ≡ Some p → AreListed p v.checks
failed_listed v mid e c engine i = still_listed v mid e c cause.NoHelper after_failed gone_stranded engine
    (failed_change v mid e c engine i)

-- a class that a failed start left, and the checks
pub failed_out : (v : EngineView) (mid new : EpochsState) (cs : List (ℕ × CheckParts)) (e c t : ℕ) → IsEngine v
    → IsChanged e c HasFailed v.epochs mid → IsChanged e c HasHandedOut mid new
    → ((p : PartState) → part_at mid e c ≡ Some p → cs ≡ all_lost p.row.stock.losses t v.checks)
    → Rises (map held_number (rows_of v.checks)) → IsLost v e c t cause.NoHelper after_failed gone_stranded new cs
failed_out v mid new cs e c t engine i j list rise =
    lost_out v mid new cs e c t cause.NoHelper after_failed gone_stranded engine (λ r. refl) (λ r. refl)
    (failed_change v mid e c engine i) j list rise

pub failed_engine : (v : EngineView) (mid new : EpochsState) (cs : List (ℕ × CheckParts)) (e c t : ℕ) → IsEngine v
    → IsChanged e c HasFailed v.epochs mid → IsChanged e c HasHandedOut mid new
    → ((p : PartState) → part_at mid e c ≡ Some p → cs ≡ all_lost p.row.stock.losses t v.checks)
    → Rises (map held_number (rows_of v.checks)) → IsEngine (record v { checks = cs; epochs = new; latest = t })
failed_engine v mid new cs e c t engine i j list rise = (failed_out v mid new cs e c t engine i j list rise).engine

homes_kept : (e c : ℕ) (R S : PartState → PartState → Type 0) (old mid new : EpochsState) → IsChanged e c R old mid
    → IsChanged e c S mid new → (k : ℕ) → home_at new k ≡ home_at old k
homes_kept e c R S old mid new i j k = ap (λ (z : EpochsState). home_at z k) j.new_is
    ∙ ap (λ (z : EpochsState). home_at z k) i.new_is

stops_kept : (e c : ℕ) (R S : PartState → PartState → Type 0) (old mid new : EpochsState) → IsChanged e c R old mid
    → IsChanged e c S mid new → (k : ℕ) → stop_at new k ≡ stop_at old k
stops_kept e c R S old mid new i j k = ap (λ (z : EpochsState). stop_at z k) j.new_is
    ∙ ap (λ (z : EpochsState). stop_at z k) i.new_is

-- the state after a failed start
pub failed_same : (v : EngineView) (mid new : EpochsState) (cs : List (ℕ × CheckParts)) (e c t : ℕ) → IsEngine v
    → IsChanged e c HasFailed v.epochs mid → IsChanged e c HasHandedOut mid new
    → ((p : PartState) → part_at mid e c ≡ Some p → cs ≡ all_lost p.row.stock.losses t v.checks)
    → Rises (map held_number (rows_of v.checks))
    → IsSame (state_of (record v { checks = cs; epochs = new; latest = t }))
    (after_failed_at (record { epoch = e; class = c }) t (state_of v))
failed_same v mid new cs e c t engine i j list rise =
    let out = failed_out v mid new cs e c t engine i j list rise in
    let next : EpochsState = record new { homes = v.epochs.homes; stops = v.epochs.stops } in
    record {
      clients_are = λ d. refl;
      conns_are = refl;
      from_are = λ a. refl;
      checks_are = out.rows ∙ ap (λ o. after_ends (row_ends c (what.Fault cause.NoHelper) t (is_stranded o) o)
          (rows_of v.checks)) (sym out.row_is);
      asks_are = refl;
      puts_are = refl;
      current_is = ap (λ (z : EpochsState). z.current) out.changed.new_is;
      configs_are = λ f. ended_configs v.epochs next e c f after_failed (gone_stranded out.row) out.changed;
      rows_are = λ f d. ended_rows v.epochs next e c f d after_failed (gone_stranded out.row) out.changed;
      procs_are = ap (λ (z : EpochsState). z.procs) out.changed.new_is;
      homes_are = homes_kept e c HasFailed HasHandedOut v.epochs mid new i j;
      stops_are = stops_kept e c HasFailed HasHandedOut v.epochs mid new i j;
      latest_is = refl;
      offset_is = refl;
    }
