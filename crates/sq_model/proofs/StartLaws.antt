-- A class after a start that was told, after a process was started, and after a start that failed.
use Rattle.std.proofs.Common.{◌≡◌, ℕ, suc, ◌≤◌, ◌-◌, min, List, [], ◌∷◌, ◌++◌, Bool, true, false, not, ◌&&◌, ◌==◌, nat_lt, max, bytes_eq, if◌then◌else◌, Option, Some, None, is_some, refl, sym, ap, ap₂, ◌∙◌, arith}
use Rattle.std.specs.Option.{option_map_or, option_or}
use Rattle.sq_base.specs.declared.helpers.Cause.{Cause}
use Rattle.sq_machine.specs.declared.entries.Event.TheVariants.{Started, Act}
use Rattle.sq_machine.specs.declared.entries.Told.{Told}
use Rattle.sq_machine.specs.declared.entries.Told.TheVariants as told
use Rattle.sq_machine.specs.Channels.{channel_name}
use Rattle.sq_rules.specs.Classes.{Class}
use Rattle.sq_rules.specs.Configurations.{Configuration}
use Rattle.sq_machine.specs.Entries.{History}
use Rattle.sq_machine.specs.FarmReadings.{farm_with, living_of}
use Rattle.sq_machine.specs.Farms.{fresh, start_due}
use Rattle.sq_machine.specs.Living.{Living}
use Rattle.sq_machine.specs.Marks.{Marked, Past, entries}
use Rattle.sq_machine.specs.Processes.{Home, home_of, proc_count, proc_end, runs_at, settled_starts, start_count}
use Rattle.sq_machine.specs.Transcripts.{holder}
use Rattle.sq_model.specs.ClassRows.{ClassRow, after_started, after_starting, class_row}
use Rattle.sq_model.specs.MarkedEntries.{noted_at}
use Rattle.sq_model.proofs.ClassParts.{and_true, bytes_itself, itself, none_slots, not_next, with_last}
use Rattle.sq_model.proofs.NumberLaws.{holder_above, proc_end_above}
use Rattle.sq_model.proofs.RowLaws.{rows_next}

-- a start that was told, for this class or for another
starting_by : (configs : List Configuration) (m : Past) (now f : ℕ) (name : List ℕ) (e c : ℕ) (class : Class) (b : Bool)
    → ((f == e) && bytes_eq name class.name) ≡ b
    → settled_starts (entries m) e class.name ≤ start_count (entries m) e class.name
    → class_row configs (noted_at now Act (told.Start f name) ∷ m) e c class
    ≡ (let r = class_row configs m e c class in
    if b then record r { stock = record r.stock { owed = r.stock.owed - 1; starting = suc r.stock.starting } } else r)
starting_by configs m now f name e c class true is few =
    λ i. record (class_row configs m e c class) {
      stock = record (farm_with configs m e c class) {
        owed = (ap (λ (b : Bool). min class.startup class.children_max
            - (if b then suc (start_count (entries m) e class.name) else start_count (entries m) e class.name)) is
            ∙ one_less (min class.startup class.children_max) (start_count (entries m) e class.name)) i;
        starting = (ap (λ (b : Bool).
            (if b then suc (start_count (entries m) e class.name) else start_count (entries m) e class.name)
            - settled_starts (entries m) e class.name) is
            ∙ one_more (start_count (entries m) e class.name) (settled_starts (entries m) e class.name) few) i;
      };
    }
  where
    one_less : (a b : ℕ) → a - suc b ≡ (a - b) - 1
    one_less a b = omega arith

    one_more : (a b : ℕ) → b ≤ a → suc a - b ≡ suc (a - b)
    one_more a b l = omega arith
starting_by configs m now f name e c class false is few =
    λ i. record (class_row configs m e c class) {
      stock = record (farm_with configs m e c class) {
        owed = ap (λ (b : Bool). min class.startup class.children_max
            - (if b then suc (start_count (entries m) e class.name) else start_count (entries m) e class.name)) is i;
        starting = ap (λ (b : Bool).
            (if b then suc (start_count (entries m) e class.name) else start_count (entries m) e class.name)
            - settled_starts (entries m) e class.name) is i;
      };
    }

named_itself : (e : ℕ) (name : List ℕ) → ((e == e) && bytes_eq name name) ≡ true
named_itself e name = ap₂ (λ (a b : Bool). a && b) (itself e) (bytes_itself name)

-- the class whose start was due and told
pub class_starting : (configs : List Configuration) (m : Past) (now : ℕ) (e c : ℕ) (class : Class)
    → settled_starts (entries m) e class.name ≤ start_count (entries m) e class.name
    → start_due (farm_with configs m e c class) ≡ true
    → class_row configs (noted_at now Act (told.Start e class.name) ∷ m) e c class
    ≡ after_starting (class_row configs m e c class)
class_starting configs m now e c class few due =
    starting_by configs m now e class.name e c class true (named_itself e class.name) few
    ∙ sym (ap (λ (b : Bool). record (class_row configs m e c class) {
      stock = (let v = farm_with configs m e c class in
          if b then record v { owed = v.owed - 1; starting = suc v.starting } else v);
    }) due)

-- another class
pub class_not_starting : (configs : List Configuration) (m : Past) (now f : ℕ) (name : List ℕ) (e c : ℕ) (class : Class)
    → settled_starts (entries m) e class.name ≤ start_count (entries m) e class.name
    → ((f == e) && bytes_eq name class.name) ≡ false
    → class_row configs (noted_at now Act (told.Start f name) ∷ m) e c class ≡ class_row configs m e c class
class_not_starting configs m now f name e c class few other = starting_by configs m now f name e c class false other few

-- a process that was just started has no question
pub new_living : (h : History) (concurrency : ℕ)
    → living_of concurrency h (suc (proc_count h)) ≡ fresh concurrency (suc (proc_count h))
new_living h concurrency =
    ap (λ (s : List (Option ℕ)).
    record { number = suc (proc_count h); process = record { numbered = nat_lt 0 concurrency; slots = s } })
    (none_slots (λ (n : ℕ). holder (nat_lt 0 concurrency) h (suc (proc_count h))
    (channel_name (nat_lt 0 concurrency) n)) (max 1 concurrency)
    (λ n. holder_above (nat_lt 0 concurrency) h (suc (proc_count h)) (channel_name (nat_lt 0 concurrency) n)
    (omega arith)))

started_by_name : (configs : List Configuration) (m : Past) (now f : ℕ) (name : List ℕ) (answer : Told) (e c : ℕ)
    (class : Class) (b : Bool) → ((f == e) && bytes_eq name class.name) ≡ b
    → class_row configs (noted_at now (Started f name) answer ∷ m) e c class
    ≡ (if b then after_started (suc (proc_count (entries m))) (class_row configs m e c class)
    else class_row configs m e c class)
started_by_name configs m now f name answer e c class b is =
    (λ i. record (class_row configs m e c class) {
      stock = record (farm_with configs m e c class) {
        procs = rows_next (living_of class.concurrency h) (living_of class.concurrency (x.entry ∷ h))
            (runs_at h e class.name) (runs_at (x.entry ∷ h) e class.name) count b
            new_runs (λ k low high. old_runs k high) (λ k low high picked. refl) i;
        starting = ap (λ (d : Bool). start_count h e class.name
            - (if d then suc (settled_starts h e class.name) else settled_starts h e class.name)) is i;
      };
    })
    ∙ by b
  where
    x : Marked
    x = noted_at now (Started f name) answer

    h : History
    h = entries m

    count : ℕ
    count = proc_count h

    test : Option Home → Option Cause → Bool
    test o d = option_map_or (λ p. (p.epoch == e) && bytes_eq p.class class.name) o false
        && (is_some o && not (is_some d))

    old_runs : (k : ℕ) → k ≤ count → runs_at (x.entry ∷ h) e class.name k ≡ runs_at h e class.name k
    old_runs k high =
        ap (λ (t : Bool). test (option_or (if t then Some (record { epoch = f; class = name }) else None) (home_of h k))
        (proc_end h k)) (not_next k count high)

    new_runs : runs_at (x.entry ∷ h) e class.name (suc count) ≡ b
    new_runs =
        ap₂ (λ (t : Bool) (d : Option Cause). test
        (option_or (if t then Some (record { epoch = f; class = name }) else None) (home_of h (suc count))) d)
        (itself (suc count))
        (proc_end_above h (suc count) (omega arith))
        ∙ and_true ((f == e) && bytes_eq name class.name) ∙ is

    one_less : (a d : ℕ) → a - suc d ≡ (a - d) - 1
    one_less a d = omega arith

    by : (b : Bool) → ◌≡◌ {A = ClassRow} (record (class_row configs m e c class) {
      stock = record (farm_with configs m e c class) {
        procs = (if b then (farm_with configs m e c class).procs
            ++ living_of class.concurrency (x.entry ∷ h) (suc count) ∷ [] else (farm_with configs m e c class).procs);
        starting = start_count h e class.name
            - (if b then suc (settled_starts h e class.name) else settled_starts h e class.name);
      };
    })
        (if b then after_started (suc count) (class_row configs m e c class) else class_row configs m e c class)
    by true = λ i. record (class_row configs m e c class) {
      stock = record (farm_with configs m e c class) {
        procs = (ap (λ (r : Living). (farm_with configs m e c class).procs ++ r ∷ []) (new_living h class.concurrency)
            ∙ sym (with_last class.concurrency h (runs_at h e class.name) count (fresh class.concurrency (suc count))
            (omega arith))) i;
        starting = one_less (start_count h e class.name) (settled_starts h e class.name) i;
      };
    }
    by false = refl

-- the class of the process that was started
pub class_started : (configs : List Configuration) (m : Past) (now : ℕ) (answer : Told) (e c : ℕ) (class : Class)
    → class_row configs (noted_at now (Started e class.name) answer ∷ m) e c class
    ≡ after_started (suc (proc_count (entries m))) (class_row configs m e c class)
class_started configs m now answer e c class = started_by_name configs m now e class.name answer e c class true
    (named_itself e class.name)

-- another class
pub class_not_started : (configs : List Configuration) (m : Past) (now f : ℕ) (name : List ℕ) (answer : Told) (e c : ℕ)
    (class : Class) → ((f == e) && bytes_eq name class.name) ≡ false
    → class_row configs (noted_at now (Started f name) answer ∷ m) e c class ≡ class_row configs m e c class
class_not_started configs m now f name answer e c class other =
    started_by_name configs m now f name answer e c class false other
