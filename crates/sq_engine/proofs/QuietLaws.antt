-- An engine is one still after a class was changed whose questions and checks are as they were.
use Rattle.std.proofs.Common.{◌≡◌, ◌∙◌, ◌==◌, ◌&&◌, inl, ℕ, suc, Bool, true, false, if◌then◌else◌, Some, refl, ap, sym}
use Rattle.std.specs.Option.{option_map}
use Rattle.sq_machine.specs.OpenLookups.{all_below, is_open_lookup, question_of}
use Rattle.sq_model.specs.ClassRows.{ClassRow}
use Rattle.sq_class.specs.Parts.{PartState}
use Rattle.sq_checks.specs.OpenChecks.{rows_of}
use Rattle.sq_checks.specs.Tables.{value_at}
use Rattle.sq_epochs.specs.EpochStates.{EpochsState, IsChanged, part_at, row_at}
use Rattle.sq_engine.specs.Engines.{IsEngine}
use Rattle.sq_engine.specs.EngineViews.{EngineView, config_at}
use Rattle.sq_engine.proofs.KeyLaws.{keyed_before}
use Rattle.sq_engine.proofs.PartLaws.{fed_changed, waiting_part}
use Rattle.sq_engine.proofs.PlaceLaws.{PartChanged, configs_kept, configured_part, counted_part, part_changed}
use Rattle.sq_engine.proofs.TableLaws.{number_is}

-- the row of a class was changed so, and the same checks wait in it
pub record IsQuiet (F : ClassRow → ClassRow) (old new : PartState) : Type 0 where
  pub row_is : new.row ≡ F old.row
  pub waiting_are : (n : ℕ) → question_of n new.waiting ≡ question_of n old.waiting

both : (a b : Bool) → (a && b) ≡ true → (a ≡ true) × (b ≡ true)
both true b h = (refl, h)
both false b h = absurd (cc)

pub quiet_engine : (v : EngineView) (new : EpochsState) (t e c : ℕ) (F : ClassRow → ClassRow) → IsEngine v
    → ((r : ClassRow) → (F r).lookups ≡ r.lookups) → ((r : ClassRow) → (F r).stock.losses ≡ r.stock.losses)
    → IsChanged e c (IsQuiet F) v.epochs
    (record new { procs = v.epochs.procs; homes = v.epochs.homes; stops = v.epochs.stops })
    → IsEngine (record v { epochs = new; latest = t })
quiet_engine v new t e c F i lookups losses ch = record {
  asked = i.asked;
  counted = counted_part e c ch.before ch.after v.epochs next (rows_of v.checks) k i.counted;
  configured = configured_part e c ch.before ch.after v.epochs next (value_at v.checks) k i.configured;
  waiting = waiting_part e c ch.before ch.after v.epochs next (value_at v.checks) (value_at v.checks) k i.waiting
      (λ n. ch.change.waiting_are n ∙ i.waiting.waits e c ch.before ch.was n)
      (λ f d n apart there. refl) i.waiting.there;
  fed = fed_changed e c ch.before ch.after v.epochs next v.puts v.puts k i.fed
      (record {
        below = ap (all_below (suc v.puts)) same ∙ i.fed.below e c ch.before ch.was;
        none_lost = ap (λ (r : ClassRow). r.stock.losses) ch.change.row_is ∙ losses ch.before.row
            ∙ i.fed.none_lost e c ch.before ch.was;
        waits_open = λ n q waits. ap (is_open_lookup q) same
            ∙ i.fed.waits_open e c n q ch.before ch.was (sym (ch.change.waiting_are n) ∙ waits);
      })
      (λ q here. inl (ap (is_open_lookup q) (sym same) ∙ here)) (λ p h. h) i.fed.few;
  keyed = keyed_before e c ch.before ch.after v.epochs next (value_at v.checks) k same i.keyed;
  setup_is = ap (config_at next) k.current_is ∙ configs_kept e c ch.before ch.after v.epochs next k v.epochs.current
      ∙ i.setup_is;
}
  where
    next : EpochsState
    next = record new { procs = v.epochs.procs; homes = v.epochs.homes; stops = v.epochs.stops }

    k : PartChanged e c ch.before ch.after v.epochs next
    k = part_changed e c (IsQuiet F) v.epochs next ch

    same : ch.after.row.lookups ≡ ch.before.row.lookups
    same = ap (λ (r : ClassRow). r.lookups) ch.change.row_is ∙ lookups ch.before.row

-- a class of the state after it
pub quiet_rows : (old new : EpochsState) (e c f d : ℕ) (F : ClassRow → ClassRow) → IsChanged e c (IsQuiet F) old new
    → row_at new f d ≡ (if e == f && c == d then option_map F (row_at old f d) else row_at old f d)
quiet_rows old new e c f d F ch = by (e == f && c == d) refl
  where
    k : PartChanged e c ch.before ch.after old new
    k = part_changed e c (IsQuiet F) old new ch

    by : (b : Bool) → (e == f && c == d) ≡ b
        → row_at new f d ≡ (if e == f && c == d then option_map F (row_at old f d) else row_at old f d)
    by true x =
        let s = both (e == f) (c == d) x in
        let ef : f ≡ e = sym (number_is e f s.0) in
        let cd : d ≡ c = sym (number_is c d s.1) in
        let now : part_at new f d ≡ Some ch.after = ap (λ z. part_at new z d) ef ∙ ap (part_at new e) cd ∙ k.here in
        let was : part_at old f d ≡ Some ch.before = ap (λ z. part_at old z d) ef ∙ ap (part_at old e) cd ∙ ch.was in
        rw x (ap (option_map (λ p. p.row)) now ∙ ap Some ch.change.row_is
        ∙ sym (ap (λ o. option_map F (option_map (λ p. p.row) o)) was))
    by false x = rw x (ap (option_map (λ p. p.row)) (k.other f d x))

-- and the configurations
pub quiet_configs : (old new : EpochsState) (e c f : ℕ) (F : ClassRow → ClassRow) → IsChanged e c (IsQuiet F) old new
    → config_at new f ≡ config_at old f
quiet_configs old new e c f F ch = configs_kept e c ch.before ch.after old new
    (part_changed e c (IsQuiet F) old new ch) f
