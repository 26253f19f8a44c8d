-- The names of classes that a desk notes.
use Rattle.std.proofs.Common.{◌≡◌, ◌==◌, ℕ, List, true, false, not, max, Option, None, Some, Result, Ok, Err, IfSome, OnOk, refl}
use Rattle.std.specs.Option.{option_map_or}
use Rattle.sq_machine.specs.declared.entries.Event.TheVariants.{StartFail, Started}
use Rattle.sq_machine.specs.declared.entries.Told.TheVariants as told
use Rattle.sq_machine.specs.declared.refusals.Refusal.TheVariants as refusal
use Rattle.sq_rules.specs.Configurations.{Configuration}
use Rattle.sq_machine.specs.DueActs.{ClassId}
use Rattle.sq_machine.specs.Entries.{History}
use Rattle.sq_machine.specs.Marking.{marked}
use Rattle.sq_machine.specs.Marks.{Past}
use Rattle.sq_model.specs.ClassRows.{ClassRow}
use Rattle.sq_model.specs.Answers.{failed_answer, has_start_in, name_in, started_answer}
use Rattle.sq_model.specs.Changes.{after_failed_at, after_started_at}
use Rattle.sq_model.specs.States.{State, Stands}
use Rattle.sq_model.proofs.ActNext.{name_is}
use Rattle.sq_model.proofs.ActStands.{IsClassRow, is_class_row}
use Rattle.sq_model.proofs.StartStands.{not_refused}
use Rattle.sq_engine.specs.EngineViews.{state_of}
use Rattle.sq_calls.specs.Legality.{Beginning, HasName, IsNameOf, configs_over}
use Rattle.sq_calls.specs.declared.faults.DeskFault.{DeskFault}
use Rattle.sq_notes.specs.Calling.{DeskView, Makes}
use Rattle.sq_desk.specs.Desks.{IsDesk, IsReplay}
use Rattle.sq_desk.proofs.ReplayLaws.{over_of}

-- the row of a class of which a start is open
open_row : (configs : List Configuration) (m : Past) (s : State) (p : ClassId) → Stands configs m s
    → has_start_in s p ≡ true → (r : ClassRow) × IsClassRow configs m p.epoch p.class r
open_row configs m s p st t = by (s.row p.epoch p.class) refl t
  where
    by : (o : Option ClassRow) → s.row p.epoch p.class ≡ o
        → option_map_or (λ r. not (r.stock.starting == 0)) o false ≡ true
        → (r : ClassRow) × IsClassRow configs m p.epoch p.class r
    by None is t = absurd (cc)
    by (Some r) is t = (r, is_class_row configs m s p.epoch p.class r st is)

-- a class of which a start is open has its name in the configuration of its epoch
open_name : (first : Beginning) (s : State) (p : ClassId) (h : History) → IsReplay first s h → has_start_in s p ≡ true
    → HasName (Some first) h p.epoch p.class (name_in s p)
open_name first s p h r t =
    let o = over_of s h r in
    let configs = configs_over o.over in
    let row = (open_row configs (marked configs h) s p o.stands.stands t).1 in
    record {
      over = o.over;
      class = row.class;
      class_is = row.class_is;
      name_is = name_is configs (marked configs h) s p row.class o.stands.stands row.lives row.class_is;
    }

told_name : (first : Beginning) (s : State) (p : ClassId) (o : Option History) → IfSome o (IsReplay first s)
    → has_start_in s p ≡ true → IsNameOf (Some first) o p.epoch p.class (name_in s p)
told_name first s p None r t = tt
told_name first s p (Some h) r t = open_name first s p h r t

pub started_name : {first : Beginning} (v w : DeskView) (p : ClassId) (moment : ℕ) (r : Result ℕ DeskFault)
    → IsDesk first v
    → Makes told.Proc (started_answer (state_of v.engine) p) (max moment v.engine.latest)
    (Started p.epoch (name_in (state_of v.engine) p))
    (after_started_at p (max moment v.engine.latest) (state_of v.engine)) v r w
    → OnOk r (IsNameOf (Some first) v.notes.history p.epoch p.class (name_in (state_of v.engine) p))
started_name {first = first} v w p moment (Ok a) d m =
    told_name first (state_of v.engine) p v.notes.history (d.replay m.going)
    (not_refused (has_start_in (state_of v.engine) p) (refusal.NoStartOpen p.epoch p.class) _ (told.Proc a) m.next_is)
started_name v w p moment (Err f) d m = tt

pub failed_name : {first : Beginning} (v w : DeskView) (p : ClassId) (moment : ℕ) (r : Result (Unit {0}) DeskFault)
    → IsDesk first v
    → Makes {A = Unit {0}} (λ x. told.Fine) (failed_answer (state_of v.engine) p) (max moment v.engine.latest)
    (StartFail p.epoch (name_in (state_of v.engine) p))
    (after_failed_at p (max moment v.engine.latest) (state_of v.engine)) v r w
    → OnOk r (IsNameOf (Some first) v.notes.history p.epoch p.class (name_in (state_of v.engine) p))
failed_name {first = first} v w p moment (Ok a) d m =
    told_name first (state_of v.engine) p v.notes.history (d.replay m.going)
    (not_refused (has_start_in (state_of v.engine) p) (refusal.NoStartOpen p.epoch p.class) _ told.Fine m.next_is)
failed_name v w p moment (Err f) d m = tt
