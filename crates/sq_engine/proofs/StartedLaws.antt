-- How starts of processes are answered, and what a process that was started leaves.
use Rattle.std.proofs.Common.{◌≡◌, ◌∙◌, ◌==◌, ◌<◌, ◌≤◌, ℕ, suc, List, Bool, true, false, if◌then◌else◌, nat_le, Option, None, Some, is_some, refl, ap, arith}
use Rattle.std.proofs.lemmas.Bool.Decides.{nat_tests}
use Rattle.std.specs.Option.{option_or}
use Rattle.sq_machine.specs.declared.entries.Told.TheVariants as told
use Rattle.sq_machine.specs.declared.refusals.Refusal.TheVariants as refusal
use Rattle.sq_machine.specs.DueActs.{ClassId}
use Rattle.sq_machine.specs.Limits.{last_number}
use Rattle.sq_machine.specs.Next.{gives, refuses}
use Rattle.sq_machine.specs.OpenLookups.{question_of}
use Rattle.sq_model.specs.ClassRows.{after_started}
use Rattle.sq_class.specs.Parts.{PartState}
use Rattle.sq_epochs.specs.EpochProcs.{HasStarted, IsStarted, has_start}
use Rattle.sq_epochs.specs.EpochStates.{EpochsState, IsChanged, part_at}
use Rattle.sq_epochs.specs.HomeStates.{AreHomes, Home, home_in}
use Rattle.sq_epochs.proofs.HomeLaws.{home_below, home_push}
use Rattle.sq_model.specs.Answers.{died_answer, failed_answer, has_start_in, started_answer}
use Rattle.sq_model.specs.Changes.{after_started_at}
use Rattle.sq_model.specs.States.{IsSame, State}
use Rattle.sq_engine.specs.Engines.{IsEngine}
use Rattle.sq_engine.specs.EngineViews.{EngineView, state_of, stop_at}
use Rattle.sq_engine.proofs.HandingLaws.{changed_beside}
use Rattle.sq_engine.proofs.LosingLaws.{changed_as}
use Rattle.sq_engine.proofs.QuietLaws.{IsQuiet, quiet_configs, quiet_engine, quiet_rows}
use Rattle.sq_engine.proofs.TableLaws.{number_is}

-- a start that is open in a class is open in the state
pub start_read : (v : EngineView) (e c : ℕ)
    → has_start v.epochs e c ≡ has_start_in (state_of v) (record { epoch = e; class = c })
start_read v e c = by (part_at v.epochs e c) refl
  where
    by : (o : Option PartState) → part_at v.epochs e c ≡ o
        → has_start v.epochs e c ≡ has_start_in (state_of v) (record { epoch = e; class = c })
    by None is = rw is refl
    by (Some p) is = rw is refl

pub failed_none : (s : State) (p : ClassId) → has_start_in s p ≡ false
    → failed_answer s p ≡ refuses (refusal.NoStartOpen p.epoch p.class)
failed_none s p e = rw e refl

pub failed_fine : (s : State) (p : ClassId) → has_start_in s p ≡ true → failed_answer s p ≡ gives told.Fine
failed_fine s p e = rw e refl

pub died_unknown : (s : State) (k : ℕ) → s.home k ≡ None → died_answer s k ≡ refuses (refusal.UnknownProc k)
died_unknown s k e = rw e refl

pub died_fine : (s : State) (k : ℕ) (p : ClassId) → s.home k ≡ Some p → died_answer s k ≡ gives told.Fine
died_fine s k p e = rw e refl

at_most : (a b : ℕ) → a ≤ b → nat_le a b ≡ true
at_most a b h = grind (arith, nat_tests, h)

not_most : (a b : ℕ) → b < a → nat_le a b ≡ false
not_most a b h = grind (arith, nat_tests, h)

pub started_none : (s : State) (p : ClassId) → has_start_in s p ≡ false
    → started_answer s p ≡ refuses (refusal.NoStartOpen p.epoch p.class)
started_none s p e = rw e refl

pub started_spent : (s : State) (p : ClassId) → has_start_in s p ≡ true → last_number ≤ suc s.procs
    → started_answer s p ≡ refuses (refusal.Spent (suc s.procs))
started_spent s p e h = let l : nat_le last_number (suc s.procs) ≡ true = at_most last_number (suc s.procs) h in
    rw (e, l) refl

pub started_fine : (s : State) (p : ClassId) → has_start_in s p ≡ true → suc s.procs < last_number
    → started_answer s p ≡ gives (told.Proc (suc s.procs))
started_fine s p e h = let l : nat_le last_number (suc s.procs) ≡ false = not_most last_number (suc s.procs) h in
    rw (e, l) refl

pub is_true : (b : Bool) → (b ≡ false → ⊥) → b ≡ true
is_true true h = refl
is_true false h = absurd (h refl)

-- a process that was started, as a change that leaves questions
pub started_change : (v : EngineView) (new : EpochsState) (e c : ℕ) → IsStarted e c v.epochs new
    → IsChanged e c (IsQuiet (after_started (suc v.epochs.procs))) v.epochs
    (record new { procs = v.epochs.procs; homes = v.epochs.homes; stops = v.epochs.stops })
started_change v new e c st =
    changed_as e c (HasStarted (suc v.epochs.procs)) (IsQuiet (after_started (suc v.epochs.procs))) v.epochs
    (record new { procs = v.epochs.procs; homes = v.epochs.homes; stops = v.epochs.stops })
    (λ p r at h. record {
      row_is = ap (λ (z : PartState). z.row) h;
      waiting_are = λ n. ap (λ (z : PartState). question_of n z.waiting) h;
    })
    (changed_beside e c (HasStarted (suc v.epochs.procs)) v.epochs
    (record new { procs = v.epochs.procs; homes = v.epochs.homes }) v.epochs.homes v.epochs.stops st.changed)

pub started_engine : (v : EngineView) (new : EpochsState) (e c t : ℕ) → IsEngine v → IsStarted e c v.epochs new
    → IsEngine (record v { epochs = new; latest = t })
started_engine v new e c t i st = quiet_engine v new t e c (after_started (suc v.epochs.procs)) i (λ r. refl)
    (λ r. refl) (started_change v new e c st)

or_none : (o : Option ClassId) → option_or o None ≡ o
or_none None = refl
or_none (Some p) = refl

-- the home of the new process, and those of the others
home_more : (procs k : ℕ) (hs : List Home) (p : ClassId) → ((j : ℕ) → is_some (home_in j hs) ≡ true → j < suc procs)
    → option_or (home_in k hs) (if k == suc procs then Some p else None)
    ≡ (if k == suc procs then Some p else home_in k hs)
home_more procs k hs p born = by (k == suc procs) refl
  where
    none : (o : Option ClassId) → home_in k hs ≡ o → k ≡ suc procs → home_in k hs ≡ None
    none None e same = e
    none (Some x) e same = absurd (let b : k < suc procs = born k (ap is_some e) in omega arith)

    by : (b : Bool) → (k == suc procs) ≡ b
        → option_or (home_in k hs) (if k == suc procs then Some p else None)
        ≡ (if k == suc procs then Some p else home_in k hs)
    by true x = let n : home_in k hs ≡ None = none (home_in k hs) refl (number_is k (suc procs) x) in rw (x, n) refl
    by false x = rw x (or_none (home_in k hs))

-- the state after it
pub started_same : (v : EngineView) (new : EpochsState) (e c t : ℕ)
    → AreHomes v.epochs.procs v.epochs.homes v.epochs.stops → IsStarted e c v.epochs new
    → IsSame (state_of (record v { epochs = new; latest = t }))
    (after_started_at (record { epoch = e; class = c }) t (state_of v))
started_same v new e c t homes st =
    let next : EpochsState = record new { procs = v.epochs.procs; homes = v.epochs.homes; stops = v.epochs.stops } in
    let ch = started_change v new e c st in
    record {
      clients_are = λ d. refl;
      conns_are = refl;
      from_are = λ a. refl;
      checks_are = refl;
      asks_are = refl;
      puts_are = refl;
      current_is = ap (λ (z : EpochsState). z.current) ch.new_is;
      configs_are = λ f. quiet_configs v.epochs next e c f (after_started (suc v.epochs.procs)) ch;
      rows_are = λ f d. quiet_rows v.epochs next e c f d (after_started (suc v.epochs.procs)) ch;
      procs_are = st.procs_are;
      homes_are = λ k.
          ap (home_in k) st.homes_are
          ∙ home_push k (record { proc = suc v.epochs.procs; place = record { epoch = e; class = c } }) v.epochs.homes
          ∙ home_more v.epochs.procs k v.epochs.homes (record { epoch = e; class = c })
          (λ j h. home_below (suc v.epochs.procs) j v.epochs.homes homes.born h);
      stops_are = λ k. ap (λ (z : EpochsState). stop_at z k) st.changed.new_is;
      latest_is = refl;
      offset_is = refl;
    }
