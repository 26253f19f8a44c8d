-- Classes after a reconfiguration: the new epoch's begin with what is kept of classes that are alike,
-- and the lists of those in the epoch before are empty.
use Rattle.std.proofs.Common.{◌≡◌, ℕ, suc, ◌-◌, min, List, [], ◌∷◌, Bool, true, false, not, ◌&&◌, ◌==◌, if◌then◌else◌, is_some, refl, ap, ap₂, ◌∙◌, arith}
use Rattle.std.specs.Option.{option_map_or}
use Rattle.std.proofs.lemmas.Bool.{and_left}
use Rattle.std.proofs.lemmas.Bool.Decides.{nat_tests}
use Rattle.sq_machine.specs.declared.entries.Event.TheVariants.{Reconfigure}
use Rattle.sq_machine.specs.declared.entries.Told.{Told}
use Rattle.sq_rules.specs.Classes.{Class}
use Rattle.sq_rules.specs.Configurations.{Configuration}
use Rattle.sq_machine.specs.Epochs.{class_at}
use Rattle.sq_machine.specs.FarmReadings.{farm_with, is_put_for, is_queued, living_of, waiting_of}
use Rattle.sq_machine.specs.KeptReadings.{alike_place, kept}
use Rattle.sq_machine.specs.Marks.{Past, entries}
use Rattle.sq_machine.specs.Processes.{is_at_home, is_running, proc_count, runs_at, settled_starts}
use Rattle.sq_machine.specs.Questions.{has_ended, put_count, put_of, sent_to}
use Rattle.sq_machine.specs.Readings.{current}
use Rattle.sq_model.specs.ClassRows.{ClassRow, class_row, is_asked, lookup_of, new_row}
use Rattle.sq_model.specs.Carried.{IsUnused}
use Rattle.sq_model.specs.MarkedEntries.{noted_at}
use Rattle.sq_model.proofs.ClassParts.{itself}
use Rattle.sq_model.proofs.RowLaws.{rows_none}

-- a class of an epoch that nothing was done in
pub unused_row : (configs : List Configuration) (m : Past) (e c : ℕ) (class : Class) → IsUnused m e
    → class_row configs m e c class ≡ new_row (kept configs m e c) class
unused_row configs m e c class unused =
    λ i. record (class_row configs m e c class) {
      lookups = rows_none (lookup_of m) (is_asked configs m e c) (put_count m)
          (λ k low high. and_left (is_put_for e c (put_of m k)) (not (has_ended configs m k)) (unused.none_put c k)) i;
      stock = record (farm_with configs m e c class) {
        queue = rows_none (waiting_of m) (is_queued configs m e c) (put_count m)
            (λ k low high. ap (λ (b : Bool). b && not (is_some (sent_to m k)) && not (has_ended configs m k))
            (unused.none_put c k)) i;
        procs = rows_none (living_of class.concurrency (entries m)) (runs_at (entries m) e class.name)
            (proc_count (entries m))
            (λ k low high. and_left (is_at_home (entries m) e class.name k) (is_running (entries m) k)
            (unused.none_home class.name k)) i;
        owed = (ap (λ (n : ℕ). min class.startup class.children_max - n) (unused.none_started class.name)
            ∙ minus_zero (min class.startup class.children_max)) i;
        starting = (ap (λ (n : ℕ). n - settled_starts (entries m) e class.name) (unused.none_started class.name)
            ∙ zero_minus (settled_starts (entries m) e class.name)) i;
        held = unused.none_held c class.name i;
      };
    }
  where
    minus_zero : (n : ℕ) → n - 0 ≡ n
    minus_zero n = omega arith

    zero_minus : (n : ℕ) → 0 - n ≡ 0
    zero_minus n = omega arith

-- a class of the epoch that begins
pub class_begun : (configs : List Configuration) (m : Past) (now : ℕ) (text : List ℕ) (answer : Told) (c : ℕ)
    (class : Class) → IsUnused m (suc (current (entries m)))
    → class_row configs (noted_at now (Reconfigure text) answer ∷ m) (suc (current (entries m))) c class
    ≡ new_row (option_map_or (kept configs m (current (entries m)))
    (alike_place configs (current (entries m)) (class_at configs (suc (current (entries m))) c)) []) class
class_begun configs m now text answer c class unused =
    ap (λ (b : Bool). record (class_row configs m (suc e) c class) {
      kept = (if b then option_map_or (kept configs m e) (alike_place configs e (class_at configs (suc e) c)) []
          else (if (suc e == e) && is_some (alike_place configs (suc e) (class_at configs (suc e) c)) then []
          else kept configs m (suc e) c));
    }) (itself (suc e))
    ∙ ap (λ (r : ClassRow). record r
    { kept = option_map_or (kept configs m e) (alike_place configs e (class_at configs (suc e) c)) [] })
    (unused_row configs m (suc e) c class unused)
  where
    e : ℕ
    e = current (entries m)

-- a class of the epoch before: where the new epoch has one that is alike, its list is empty from there
pub class_left : (configs : List Configuration) (m : Past) (now : ℕ) (text : List ℕ) (answer : Told) (c : ℕ)
    (class : Class)
    → class_row configs (noted_at now (Reconfigure text) answer ∷ m) (current (entries m)) c class
    ≡ (let r = class_row configs m (current (entries m)) c class in
    if is_some (alike_place configs (suc (current (entries m))) (class_at configs (current (entries m)) c))
    then record r { kept = [] } else r)
class_left configs m now text answer c class =
    ap₂ (λ (a b : Bool). record (class_row configs m e c class) {
      kept = (if a then option_map_or (kept configs m e) (alike_place configs e (class_at configs e c)) []
          else (if b && is_some (alike_place configs (suc e) (class_at configs e c)) then [] else kept configs m e c));
    }) (not_next e) (itself e)
    ∙ by (is_some (alike_place configs (suc e) (class_at configs e c)))
  where
    e : ℕ
    e = current (entries m)

    not_next : (n : ℕ) → (n == suc n) ≡ false
    not_next n = grind (arith, nat_tests)

    by : (b : Bool) → ◌≡◌ {A = ClassRow}
        (record (class_row configs m e c class) { kept = (if b then [] else kept configs m e c) })
        (if b then record (class_row configs m e c class) { kept = [] } else class_row configs m e c class)
    by true = refl
    by false = refl

-- a class of another epoch
pub class_not_reconfigured : (configs : List Configuration) (m : Past) (now : ℕ) (text : List ℕ) (answer : Told)
    (e c : ℕ) (class : Class) → (e == suc (current (entries m))) ≡ false
    → (e == current (entries m)) ≡ false
    → class_row configs (noted_at now (Reconfigure text) answer ∷ m) e c class ≡ class_row configs m e c class
class_not_reconfigured configs m now text answer e c class new old =
    ap₂ (λ (a b : Bool). record (class_row configs m e c class) {
      kept = (if a then option_map_or (kept configs m (current (entries m)))
          (alike_place configs (current (entries m)) (class_at configs e c)) []
          else (if b && is_some (alike_place configs (suc (current (entries m))) (class_at configs e c)) then []
          else kept configs m e c));
    }) new old
