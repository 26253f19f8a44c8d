-- A class after a start that failed.
use Rattle.std.proofs.Common.{◌≡◌, ℕ, suc, ◌≤◌, ◌-◌, List, ◌∷◌, filter, Bool, true, false, not, ◌&&◌, ◌||◌, ◌==◌, nat_le, bytes_eq, if◌then◌else◌, Option, Some, None, is_some, refl, sym, ap, ap₂, ◌∙◌, arith}
use Rattle.std.specs.Option.{option_map_or}
use Rattle.std.proofs.lemmas.Bool.Decides.{nat_tests}
use Rattle.sq_base.specs.declared.helpers.Cause.TheVariants as cause
use Rattle.sq_base.specs.declared.helpers.What.{What}
use Rattle.sq_base.specs.declared.helpers.What.TheVariants as what
use Rattle.sq_machine.specs.declared.entries.Event.TheVariants.{StartFail}
use Rattle.sq_machine.specs.declared.entries.Told.{Told}
use Rattle.sq_rules.specs.Classes.{Class}
use Rattle.sq_rules.specs.Configurations.{Configuration}
use Rattle.sq_machine.specs.Epochs.{class_at, name_of_class}
use Rattle.sq_machine.specs.OpenLookups.{LookupRow}
use Rattle.sq_machine.specs.FarmReadings.{farm_with, is_held, is_put_for, is_queued, living_of, waiting_of}
use Rattle.sq_machine.specs.Farms.{Stock, Waiting, emptied, is_last_start}
use Rattle.sq_machine.specs.Marks.{Marked, Past, entries}
use Rattle.sq_machine.specs.Numbered.{rows}
use Rattle.sq_machine.specs.Processes.{if_here, proc_count, runs_at, settled_starts, start_count, starting}
use Rattle.sq_machine.specs.Questions.{QuestionEnd, first_end, has_ended, leaves_none, put_count, put_of, question_end, sent_to}
use Rattle.sq_model.specs.ClassRows.{after_failed, class_row, handed, is_asked, is_waiting, lookup_of, lookups}
use Rattle.sq_model.specs.MarkedEntries.{noted_at}
use Rattle.sq_model.proofs.ClassParts.{bytes_itself, itself, none_living, put_named}
use Rattle.sq_model.proofs.RowLaws.{picked_given, row_among, rows_left, rows_none, rows_same}

-- a question has ended after an entry that may end it
pub ended_if : (date : ℕ) (b : Bool) (w : What) (e : Option QuestionEnd)
    → is_some (first_end date (if_here b (Some w)) e) ≡ (b || is_some e)
ended_if date true w None = refl
ended_if date true w (Some e) = refl
ended_if date false w e = refl

-- which questions of a class have ended after a failed start of a class
failed_ends : (configs : List Configuration) (m : Past) (now f : ℕ) (name : List ℕ) (answer : Told) (e c : ℕ)
    (class : Class) (b : Bool) (q : ℕ)
    → class_at configs e c ≡ Some class → ((f == e) && bytes_eq name class.name) ≡ b
    → is_put_for e c (put_of m q) ≡ true
    → has_ended configs (noted_at now (StartFail f name) answer ∷ m) q
    ≡ (((b && not (is_some (sent_to m q))) && leaves_none (entries m) f name) || has_ended configs m q)
failed_ends configs m now f name answer e c class b q at test put =
    ended_if now ((option_map_or (λ p. (p.epoch == f) && bytes_eq (name_of_class configs f p.class) name) (put_of m q)
    false && not (is_some (sent_to m q)))
    && leaves_none (entries m) f name) (what.Fault cause.NoHelper) (question_end configs m q)
    ∙ ap (λ (t : Bool). ((t && not (is_some (sent_to m q))) && leaves_none (entries m) f name) || has_ended configs m q)
    (put_named configs (put_of m q) e c class f name put at ∙ test)

-- another class
pub class_not_failed : (configs : List Configuration) (m : Past) (now f : ℕ) (name : List ℕ) (answer : Told) (e c : ℕ)
    (class : Class) → class_at configs e c ≡ Some class
    → ((f == e) && bytes_eq name class.name) ≡ false
    → class_row configs (noted_at now (StartFail f name) answer ∷ m) e c class ≡ class_row configs m e c class
class_not_failed configs m now f name answer e c class at other =
    λ i. record (class_row configs m e c class) {
      lookups = rows_same (lookup_of m) (lookup_of m) (is_asked configs m e c) (is_asked configs (x ∷ m) e c)
          (put_count m)
          (λ k low high. asked (is_put_for e c (put_of m k)) k refl) (λ k low high picked. refl) i;
      stock = record (farm_with configs m e c class) {
        queue = rows_same (waiting_of m) (waiting_of m) (is_queued configs m e c) (is_queued configs (x ∷ m) e c)
            (put_count m)
            (λ k low high. queued (is_put_for e c (put_of m k)) k refl) (λ k low high picked. refl) i;
        starting = ap (λ (d : Bool). start_count (entries m) e class.name
            - (if d then suc (settled_starts (entries m) e class.name) else settled_starts (entries m) e class.name))
            other i;
        held = ap (λ (d : Bool). if d then true else is_held m e c class.name) other i;
      };
    }
  where
    x : Marked
    x = noted_at now (StartFail f name) answer

    ended : (k : ℕ) → is_put_for e c (put_of m k) ≡ true → has_ended configs (x ∷ m) k ≡ has_ended configs m k
    ended k put = failed_ends configs m now f name answer e c class false k at other put

    asked : (b : Bool) (k : ℕ) → is_put_for e c (put_of m k) ≡ b
        → (is_put_for e c (put_of m k) && not (has_ended configs (x ∷ m) k))
        ≡ (is_put_for e c (put_of m k) && not (has_ended configs m k))
    asked true k put = ap (λ (d : Bool). is_put_for e c (put_of m k) && not d) (ended k put)
    asked false k put =
        ap (λ (d : Bool). d && not (has_ended configs (x ∷ m) k)) put
        ∙ sym (ap (λ (d : Bool). d && not (has_ended configs m k)) put)

    queued : (b : Bool) (k : ℕ) → is_put_for e c (put_of m k) ≡ b
        → (is_put_for e c (put_of m k) && not (is_some (sent_to m k)) && not (has_ended configs (x ∷ m) k))
        ≡ (is_put_for e c (put_of m k) && not (is_some (sent_to m k)) && not (has_ended configs m k))
    queued true k put = ap (λ (d : Bool). is_put_for e c (put_of m k) && not (is_some (sent_to m k)) && not d)
        (ended k put)
    queued false k put =
        ap (λ (d : Bool). d && not (is_some (sent_to m k)) && not (has_ended configs (x ∷ m) k)) put
        ∙ sym (ap (λ (d : Bool). d && not (is_some (sent_to m k)) && not (has_ended configs m k)) put)

-- whether the start that fails is the last that is open, where no process lives
pub last_start : (configs : List Configuration) (m : Past) (e c : ℕ) (class : Class)
    → 1 ≤ starting (entries m) e class.name
    → is_last_start (farm_with configs m e c class) ≡ leaves_none (entries m) e class.name
last_start configs m e c class some =
    ap₂ (λ (a b : Bool). a && b)
    (none_living (living_of class.concurrency (entries m)) (runs_at (entries m) e class.name) (proc_count (entries m)))
    (one (starting (entries m) e class.name) some)
  where
    one : (n : ℕ) → 1 ≤ n → (n == 1) ≡ nat_le n 1
    one n l = grind (arith, nat_tests)

-- the farm after a failed start, where the queue ends or stays
abbrev failed_by : Bool → Stock → Stock
failed_by d v = let e = emptied d v in record e { starting = v.starting - 1; held = true }

-- the class of the start that failed
pub class_failed : (configs : List Configuration) (m : Past) (now : ℕ) (answer : Told) (e c : ℕ) (class : Class)
    → class_at configs e c ≡ Some class
    → 1 ≤ starting (entries m) e class.name
    → class_row configs (noted_at now (StartFail e class.name) answer ∷ m) e c class
    ≡ after_failed (class_row configs m e c class)
class_failed configs m now answer e c class at some =
    by (leaves_none (entries m) e class.name) refl
  where
    x : Marked
    x = noted_at now (StartFail e class.name) answer

    v : Stock
    v = farm_with configs m e c class

    test : ((e == e) && bytes_eq class.name class.name) ≡ true
    test = ap₂ (λ (a b : Bool). a && b) (itself e) (bytes_itself class.name)

    ended : (z : Bool) → leaves_none (entries m) e class.name ≡ z → (k : ℕ) → is_put_for e c (put_of m k) ≡ true
        → has_ended configs (x ∷ m) k ≡ ((not (is_some (sent_to m k)) && z) || has_ended configs m k)
    ended z is k put =
        failed_ends configs m now e class.name answer e c class true k at test put
        ∙ ap (λ (d : Bool). (not (is_some (sent_to m k)) && d) || has_ended configs m k) is

    waits : (k : ℕ) → 1 ≤ k → k ≤ put_count m → is_waiting k v.queue ≡ is_queued configs m e c k
    waits k low high =
        row_among (λ (w : Waiting). k == w.question) (waiting_of m) (is_queued configs m e c) (put_count m) k
        (λ j a b picked. refl) ∙ picked_given (is_queued configs m e c) (put_count m) k low high

    eight : (s z d : Bool) → not ((not s && z) || d) ≡ (not d && not (z && (not s && not d)))
    eight true true true = refl
    eight true true false = refl
    eight true false true = refl
    eight true false false = refl
    eight false true true = refl
    eight false true false = refl
    eight false false true = refl
    eight false false false = refl

    kept_by : (put s z d d' : Bool) → (put ≡ true → d' ≡ ((not s && z) || d))
        → (put && not d') ≡ ((put && not d) && not (z && (put && not s && not d)))
    kept_by true s z d d' e = ap not (e refl) ∙ eight s z d
    kept_by false s z d d' e = refl

    emptied_by : (put s d d' : Bool) → (put ≡ true → d' ≡ ((not s && true) || d)) → (put && not s && not d') ≡ false
    emptied_by true true d d' e = refl
    emptied_by true false d d' e = ap not (e refl)
    emptied_by false s d d' e = refl

    stays : (put s d d' : Bool) → (put ≡ true → d' ≡ ((not s && false) || d))
        → (put && not s && not d') ≡ (put && not s && not d)
    stays true true d d' e = refl
    stays true false d d' e = ap not (e refl)
    stays false s d d' e = refl

    ends : (z : Bool) → leaves_none (entries m) e class.name ≡ z
        → lookups configs (x ∷ m) e c
        ≡ filter (λ l. not (is_last_start v && is_waiting l.question v.queue)) (lookups configs m e c)
    ends z is =
        rows_left (λ (l : LookupRow). not (is_last_start v && is_waiting l.question v.queue)) (lookup_of m)
        (lookup_of m) (is_asked configs m e c) (is_asked configs (x ∷ m) e c) (put_count m)
        (λ k low high. kept_by (is_put_for e c (put_of m k)) (is_some (sent_to m k)) z (has_ended configs m k)
        (has_ended configs (x ∷ m) k) (ended z is k)
        ∙ sym (ap₂ (λ (a b : Bool). is_asked configs m e c k && not (a && b)) (last_start configs m e c class some ∙ is)
        (waits k low high)))
        (λ k low high picked. refl)

    queue : (z : Bool) → leaves_none (entries m) e class.name ≡ z
        → rows (waiting_of m) (is_queued configs (x ∷ m) e c) (put_count m) ≡ (failed_by z v).queue
    queue true is =
        rows_none (waiting_of m) (is_queued configs (x ∷ m) e c) (put_count m)
        (λ k low high. emptied_by (is_put_for e c (put_of m k)) (is_some (sent_to m k)) (has_ended configs m k)
        (has_ended configs (x ∷ m) k) (ended true is k))
    queue false is =
        rows_same (waiting_of m) (waiting_of m) (is_queued configs m e c) (is_queued configs (x ∷ m) e c) (put_count m)
        (λ k low high. stays (is_put_for e c (put_of m k)) (is_some (sent_to m k)) (has_ended configs m k)
        (has_ended configs (x ∷ m) k) (ended false is k))
        (λ k low high picked. refl)

    one_less : (a d : ℕ) → a - suc d ≡ (a - d) - 1
    one_less a d = omega arith

    handed_by : (z : Bool) → ◌≡◌ {A = Stock}
        (record v { queue = (failed_by z v).queue; starting = v.starting - 1; held = true }) (handed (failed_by z v))
    handed_by true = refl
    handed_by false = refl

    by : (z : Bool) → leaves_none (entries m) e class.name ≡ z
        → class_row configs (x ∷ m) e c class ≡ after_failed (class_row configs m e c class)
    by z is =
        (λ i. record (class_row configs m e c class) {
          lookups = ends z is i;
          stock = record v {
            queue = queue z is i;
            starting = (ap (λ (d : Bool). start_count (entries m) e class.name
                - (if d then suc (settled_starts (entries m) e class.name)
                else settled_starts (entries m) e class.name))
                test
                ∙ one_less (start_count (entries m) e class.name) (settled_starts (entries m) e class.name)) i;
            held = ap (λ (d : Bool). if d then true else is_held m e c class.name) test i;
          };
        })
        ∙ ap (λ (s : Stock). record (class_row configs m e c class) {
          lookups = filter (λ l. not (is_last_start v && is_waiting l.question v.queue)) (lookups configs m e c);
          stock = s;
        }) (handed_by z ∙ ap (λ (d : Bool). handed (failed_by d v)) (sym is
        ∙ sym (last_start configs m e c class some)))
