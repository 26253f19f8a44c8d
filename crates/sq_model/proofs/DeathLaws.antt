-- A class after the end of one of its processes:
-- a death, or a line that is outside the grammar or stands on a free channel.
use Rattle.std.proofs.Common.{◌≡◌, ℕ, ◌≤◌, List, ◌∷◌, filter, Bool, true, false, not, ◌&&◌, ◌||◌, ◌==◌, nat_le, if◌then◌else◌, Option, Some, None, is_some, refl, sym, ap, ap₂, ◌∙◌}
use Rattle.std.specs.Option.{option_or}
use Rattle.std.proofs.lemmas.Bool.{le-leb}
use Rattle.sq_base.proofs.CommonLaws.{eq_turned}
use Rattle.sq_base.specs.declared.helpers.Cause.{Cause}
use Rattle.sq_base.specs.declared.helpers.Cause.TheVariants as cause
use Rattle.sq_base.specs.declared.helpers.What.{What}
use Rattle.sq_base.specs.declared.helpers.What.TheVariants as what
use Rattle.sq_machine.specs.declared.entries.Event.{Event}
use Rattle.sq_machine.specs.declared.entries.Event.TheVariants.{Line, Died}
use Rattle.sq_machine.specs.declared.entries.Told.{Told}
use Rattle.sq_machine.specs.declared.entries.Told.TheVariants as told
use Rattle.sq_machine.specs.Channels.{is_open}
use Rattle.sq_rules.specs.Classes.{Class}
use Rattle.sq_rules.specs.Configurations.{Configuration}
use Rattle.sq_machine.specs.Events.{is_number}
use Rattle.sq_machine.specs.FarmReadings.{farm_with, is_held, is_put_for, is_queued, living_of, waiting_of}
use Rattle.sq_machine.specs.Living.{Living, slots_in, without}
use Rattle.sq_machine.specs.Marks.{Past, entries}
use Rattle.sq_machine.specs.Numbered.{rows}
use Rattle.sq_machine.specs.OpenLookups.{LookupRow}
use Rattle.sq_machine.specs.Processes.{cause_here, ended_by, home_of, if_here, is_at_home, is_running, proc_count, proc_end, runs_at}
use Rattle.sq_machine.specs.Questions.{end_at, first_end, has_ended, put_count, put_of, question_end, sends, sent_to}
use Rattle.sq_model.specs.Agreement.{SlotsAgree}
use Rattle.sq_model.specs.ClassRows.{after_death, class_row, is_asked, lookup_of, lookups}
use Rattle.sq_model.specs.MarkedEntries.{noted_at}
use Rattle.sq_model.proofs.ClassParts.{and_true, itself}
use Rattle.sq_model.proofs.FailLaws.{ended_if}
use Rattle.sq_model.proofs.LineLaws.{runs_given, slots_found, without_is}
use Rattle.sq_model.proofs.ReplyLaws.{elsewhere, other_living}
use Rattle.sq_model.proofs.RowLaws.{rows_left, rows_same}

-- the event ends process k by this cause, and the questions that were sent to it
pub record EndsProcess (configs : List Configuration) (m : Past) (k : ℕ) (cause : Cause) (event : Event)
    (answer : Told) : Type 0 where
  pub ends_is : (q : ℕ) → end_at configs m q event answer
      ≡ if_here (is_number k (sent_to m q)) (Some (what.Fault cause))
  pub sends_none : (q : ℕ) → sends m q event answer ≡ None
  pub proc_is : (j : ℕ) → is_some (ended_by (entries m) j event answer)
      ≡ ((j == k) && nat_le j (proc_count (entries m)))

-- a death does
pub died_ends : (configs : List Configuration) (m : Past) (k : ℕ) (answer : Told)
    → EndsProcess configs m k cause.Died (Died k) answer
died_ends configs m k answer = record {
  ends_is = λ q. refl;
  sends_none = λ q. refl;
  proc_is = λ j. here ((j == k) && nat_le j (proc_count (entries m)));
}
  where
    here : (b : Bool) → is_some (if_here b (Some cause.Died)) ≡ b
    here true = refl
    here false = refl

some_cause : (c : Cause) (b : Bool) → is_some (cause_here (Some c) b) ≡ b
some_cause c true = refl
some_cause c false = refl

-- a line outside the grammar does
pub bad_ends : (configs : List Configuration) (m : Past) (k : ℕ) (bytes : List ℕ)
    → EndsProcess configs m k cause.BadReply (Line k bytes) told.Bad
bad_ends configs m k bytes = record {
  ends_is = λ q. refl;
  sends_none = λ q. refl;
  proc_is = λ j. some_cause cause.BadReply ((j == k) && nat_le j (proc_count (entries m)));
}

-- and a line on a free channel
pub stray_ends : (configs : List Configuration) (m : Past) (k : ℕ) (bytes : List ℕ)
    → EndsProcess configs m k cause.Stray (Line k bytes) told.Stray
stray_ends configs m k bytes = record {
  ends_is = λ q. refl;
  sends_none = λ q. refl;
  proc_is = λ j. some_cause cause.Stray ((j == k) && nat_le j (proc_count (entries m)));
}

-- which questions have ended then
pub died_questions : (configs : List Configuration) (m : Past) (now k : ℕ) (cause : Cause) (event : Event)
    (answer : Told) (q : ℕ) → EndsProcess configs m k cause event answer
    → has_ended configs (noted_at now event answer ∷ m) q ≡ (is_number k (sent_to m q) || has_ended configs m q)
died_questions configs m now k cause event answer q ends =
    ap (λ (o : Option What). is_some (first_end now o (question_end configs m q))) (ends.ends_is q)
    ∙ ended_if now (is_number k (sent_to m q)) (what.Fault cause) (question_end configs m q)

-- the lookups of the class
died_lookups : (configs : List Configuration) (m : Past) (now k : ℕ) (cause : Cause) (event : Event) (answer : Told)
    (e c : ℕ) (class : Class)
    → EndsProcess configs m k cause event answer → SlotsAgree configs m e class
    → runs_at (entries m) e class.name k ≡ true
    → rows (lookup_of m) (is_asked configs (noted_at now event answer ∷ m) e c) (put_count m)
    ≡ filter (λ (l : LookupRow). not (is_open l.question (slots_in k (farm_with configs m e c class).procs)))
    (lookups configs m e c)
died_lookups configs m now k cause event answer e c class ends agree runs =
    rows_left (λ (l : LookupRow). not (is_open l.question (slots_in k (farm_with configs m e c class).procs)))
    (lookup_of m) (lookup_of m) (is_asked configs m e c)
    (is_asked configs (noted_at now event answer ∷ m) e c) (put_count m)
    (λ j low high. ap (λ (d : Bool). is_put_for e c (put_of m j) && not d)
    (died_questions configs m now k cause event answer j ends)
    ∙ left_by (is_put_for e c (put_of m j)) (is_number k (sent_to m j)) (has_ended configs m j)
    ∙ sym (ap (λ (b : Bool). is_asked configs m e c j && not b)
    (ap (is_open j) (slots_found class.concurrency (entries m) e class.name k runs) ∙ agree k j runs)))
    (λ j low high picked. refl)
  where
    left_by : (a s d : Bool) → (a && not (s || d)) ≡ ((a && not d) && not (s && not d))
    left_by true true true = refl
    left_by true true false = refl
    left_by true false true = refl
    left_by true false false = refl
    left_by false s d = refl

-- the queue stays
died_queue : (configs : List Configuration) (m : Past) (now k : ℕ) (cause : Cause) (event : Event) (answer : Told)
    (e c : ℕ) → EndsProcess configs m k cause event answer
    → rows (waiting_of m) (is_queued configs (noted_at now event answer ∷ m) e c) (put_count m)
    ≡ rows (waiting_of m) (is_queued configs m e c) (put_count m)
died_queue configs m now k cause event answer e c ends =
    rows_same (waiting_of m) (waiting_of m) (is_queued configs m e c)
    (is_queued configs (noted_at now event answer ∷ m) e c) (put_count m)
    (λ j low high. ap₂ (λ (o : Option ℕ) (d : Bool). is_put_for e c (put_of m j)
    && not (is_some (option_or o (sent_to m j))) && not d) (ends.sends_none j)
    (died_questions configs m now k cause event answer j ends)
    ∙ queued_by (is_put_for e c (put_of m j)) (sent_to m j) (has_ended configs m j))
    (λ j low high picked. refl)
  where
    queued_by : (a : Bool) (o : Option ℕ) (d : Bool)
        → (a && not (is_some o) && not (is_number k o || d)) ≡ (a && not (is_some o) && not d)
    queued_by true None d = refl
    queued_by true (Some p) d = refl
    queued_by false o d = refl

runs_by : (h s p i b : Bool) → (h && (s && not (i || p))) ≡ ((h && (s && not p)) && not i)
runs_by true true true true b = refl
runs_by true true true false b = refl
runs_by true true false true b = refl
runs_by true true false false b = refl
runs_by true false p i b = refl
runs_by false s p i b = refl

ended_or : (o p : Option Cause) → is_some (option_or o p) ≡ (is_some o || is_some p)
ended_or None p = refl
ended_or (Some c) p = refl

-- which processes run
pub died_runs : (configs : List Configuration) (m : Past) (now k : ℕ) (cause : Cause) (event : Event) (answer : Told)
    (e : ℕ) (name : List ℕ) (j : ℕ)
    → EndsProcess configs m k cause event answer → j ≤ proc_count (entries m)
    → (is_at_home (entries m) e name j
    && (is_some (home_of (entries m) j)
    && not (is_some (option_or (ended_by (entries m) j event answer) (proc_end (entries m) j)))))
    ≡ (runs_at (entries m) e name j && not (k == j))
died_runs configs m now k cause event answer e name j ends high =
    ap (λ (b : Bool). is_at_home (entries m) e name j && (is_some (home_of (entries m) j) && not b))
    (ended_or (ended_by (entries m) j event answer) (proc_end (entries m) j)
    ∙ ap (λ (b : Bool). b || is_some (proc_end (entries m) j))
    (ends.proc_is j ∙ ap (λ (b : Bool). (j == k) && b) (le-leb j (proc_count (entries m)) high) ∙ and_true (j == k)
    ∙ eq_turned j k))
    ∙ runs_by (is_at_home (entries m) e name j) (is_some (home_of (entries m) j)) (is_some (proc_end (entries m) j))
    (k == j) true

-- the processes of the class
died_procs : (configs : List Configuration) (m : Past) (now k : ℕ) (cause : Cause) (event : Event) (answer : Told)
    (concurrency e : ℕ) (name : List ℕ)
    → (f : ℕ → Living) → (runs : ℕ → Bool)
    → ((j : ℕ) → runs j ≡ (is_at_home (entries m) e name j
    && (is_some (home_of (entries m) j)
    && not (is_some (option_or (ended_by (entries m) j event answer) (proc_end (entries m) j))))))
    → ((j : ℕ) → (j == k) ≡ false → f j ≡ living_of concurrency (entries m) j)
    → EndsProcess configs m k cause event answer
    → rows f runs (proc_count (entries m))
    ≡ without k (rows (living_of concurrency (entries m)) (runs_at (entries m) e name) (proc_count (entries m)))
died_procs configs m now k cause event answer concurrency e name f runs runs_is f_is ends =
    rows_left (λ (r : Living). not (k == r.number)) (living_of concurrency (entries m)) f (runs_at (entries m) e name)
    runs (proc_count (entries m))
    (λ j low high. runs_is j ∙ died_runs configs m now k cause event answer e name j ends high)
    (λ j low high picked. f_is j
    (apart (runs_at (entries m) e name j) (k == j) (j == k) (eq_turned j k)
    (sym (runs_is j ∙ died_runs configs m now k cause event answer e name j ends high) ∙ picked)))
    ∙ sym (without_is k (rows (living_of concurrency (entries m)) (runs_at (entries m) e name)
    (proc_count (entries m))))
  where
    apart : (a b d : Bool) → d ≡ b → (a && not b) ≡ true → d ≡ false
    apart true true d e t = absurd (cc)
    apart true false d e t = e
    apart false b d e t = absurd (cc)

at_home : (m : Past) (e : ℕ) (name : List ℕ) (k : ℕ) → runs_at (entries m) e name k ≡ true
    → is_at_home (entries m) e name k ≡ true
at_home m e name k runs = by (is_at_home (entries m) e name k) runs
  where
    by : (b : Bool) → (b && is_running (entries m) k) ≡ true → b ≡ true
    by true r = refl
    by false r = absurd (cc)

-- process k of the class died
pub class_died : (configs : List Configuration) (m : Past) (now k : ℕ) (answer : Told) (e c : ℕ) (class : Class)
    → SlotsAgree configs m e class → runs_at (entries m) e class.name k ≡ true
    → class_row configs (noted_at now (Died k) answer ∷ m) e c class
    ≡ after_death cause.Died k (class_row configs m e c class)
class_died configs m now k answer e c class agree runs =
    λ i. record (class_row configs m e c class) {
      lookups = died_lookups configs m now k cause.Died (Died k) answer e c class ends agree runs i;
      stock = record (farm_with configs m e c class) {
        queue = died_queue configs m now k cause.Died (Died k) answer e c ends i;
        procs = died_procs configs m now k cause.Died (Died k) answer class.concurrency e class.name
            (living_of class.concurrency (entries (noted_at now (Died k) answer ∷ m)))
            (runs_at (entries (noted_at now (Died k) answer ∷ m)) e class.name) (λ j. refl) (λ j other. refl) ends i;
        held = ap (λ (b : Bool). if b then false else is_held m e c class.name) (at_home m e class.name k runs) i;
      };
    }
  where
    ends : EndsProcess configs m k cause.Died (Died k) answer
    ends = died_ends configs m k answer

line_held : (m : Past) (e : ℕ) (name : List ℕ) (k : ℕ) (c : Cause) → runs_at (entries m) e name k ≡ true
    → (is_at_home (entries m) e name k && is_some (cause_here (Some c) ((k == k) && nat_le k (proc_count (entries m)))))
    ≡ true
line_held m e name k c runs =
    ap₂ (λ (a b : Bool). a && b) (at_home m e name k runs)
    (some_cause c ((k == k) && nat_le k (proc_count (entries m)))
    ∙ ap₂ (λ (a b : Bool). a && b) (itself k)
    (le-leb k (proc_count (entries m)) (runs_given (entries m) e name k runs).most))

-- process k of the class wrote a line outside the grammar
pub class_bad : (configs : List Configuration) (m : Past) (now k : ℕ) (bytes : List ℕ) (e c : ℕ) (class : Class)
    → SlotsAgree configs m e class → runs_at (entries m) e class.name k ≡ true
    → class_row configs (noted_at now (Line k bytes) told.Bad ∷ m) e c class
    ≡ after_death cause.BadReply k (class_row configs m e c class)
class_bad configs m now k bytes e c class agree runs =
    λ i. record (class_row configs m e c class) {
      lookups = died_lookups configs m now k cause.BadReply (Line k bytes) told.Bad e c class ends agree runs i;
      stock = record (farm_with configs m e c class) {
        queue = died_queue configs m now k cause.BadReply (Line k bytes) told.Bad e c ends i;
        procs = died_procs configs m now k cause.BadReply (Line k bytes) told.Bad class.concurrency e class.name
            (living_of class.concurrency (entries (noted_at now (Line k bytes) told.Bad ∷ m)))
            (runs_at (entries (noted_at now (Line k bytes) told.Bad ∷ m)) e class.name) (λ j. refl)
            (λ j other. other_living class.concurrency m now k bytes told.Bad j other) ends i;
        held = ap (λ (b : Bool). if b then false else is_held m e c class.name)
            (line_held m e class.name k cause.BadReply runs) i;
      };
    }
  where
    ends : EndsProcess configs m k cause.BadReply (Line k bytes) told.Bad
    ends = bad_ends configs m k bytes

-- process k of the class wrote a line on a free channel
pub class_stray : (configs : List Configuration) (m : Past) (now k : ℕ) (bytes : List ℕ) (e c : ℕ) (class : Class)
    → SlotsAgree configs m e class → runs_at (entries m) e class.name k ≡ true
    → class_row configs (noted_at now (Line k bytes) told.Stray ∷ m) e c class
    ≡ after_death cause.Stray k (class_row configs m e c class)
class_stray configs m now k bytes e c class agree runs =
    λ i. record (class_row configs m e c class) {
      lookups = died_lookups configs m now k cause.Stray (Line k bytes) told.Stray e c class ends agree runs i;
      stock = record (farm_with configs m e c class) {
        queue = died_queue configs m now k cause.Stray (Line k bytes) told.Stray e c ends i;
        procs = died_procs configs m now k cause.Stray (Line k bytes) told.Stray class.concurrency e class.name
            (living_of class.concurrency (entries (noted_at now (Line k bytes) told.Stray ∷ m)))
            (runs_at (entries (noted_at now (Line k bytes) told.Stray ∷ m)) e class.name) (λ j. refl)
            (λ j other. other_living class.concurrency m now k bytes told.Stray j other) ends i;
        held = ap (λ (b : Bool). if b then false else is_held m e c class.name)
            (line_held m e class.name k cause.Stray runs) i;
      };
    }
  where
    ends : EndsProcess configs m k cause.Stray (Line k bytes) told.Stray
    ends = stray_ends configs m k bytes

-- no question of the class at place c of epoch e was sent to process k
pub record SentNone (m : Past) (e c k : ℕ) : Type 0 where
  pub sent_none : (q : ℕ) → is_put_for e c (put_of m q) ≡ true → is_number k (sent_to m q) ≡ false

not_mine_lookups : (configs : List Configuration) (m : Past) (now k : ℕ) (cause : Cause) (event : Event) (answer : Told)
    (e c : ℕ) → EndsProcess configs m k cause event answer → SentNone m e c k
    → rows (lookup_of m) (is_asked configs (noted_at now event answer ∷ m) e c) (put_count m) ≡ lookups configs m e c
not_mine_lookups configs m now k cause event answer e c ends none =
    rows_same (lookup_of m) (lookup_of m) (is_asked configs m e c)
    (is_asked configs (noted_at now event answer ∷ m) e c) (put_count m)
    (λ j low high. ap (λ (d : Bool). is_put_for e c (put_of m j) && not d)
    (died_questions configs m now k cause event answer j ends)
    ∙ stays (is_put_for e c (put_of m j)) (is_number k (sent_to m j)) (has_ended configs m j) (none.sent_none j))
    (λ j low high picked. refl)
  where
    stays : (a s d : Bool) → (a ≡ true → s ≡ false) → (a && not (s || d)) ≡ (a && not d)
    stays true true d e = absurd (let no = e refl in cc)
    stays true false d e = refl
    stays false s d e = refl

not_mine_procs : (configs : List Configuration) (m : Past) (now k : ℕ) (cause : Cause) (event : Event) (answer : Told)
    (concurrency e : ℕ) (name : List ℕ)
    → (f : ℕ → Living) → (runs : ℕ → Bool)
    → ((j : ℕ) → runs j ≡ (is_at_home (entries m) e name j
    && (is_some (home_of (entries m) j)
    && not (is_some (option_or (ended_by (entries m) j event answer) (proc_end (entries m) j))))))
    → ((j : ℕ) → (j == k) ≡ false → f j ≡ living_of concurrency (entries m) j)
    → EndsProcess configs m k cause event answer → is_at_home (entries m) e name k ≡ false
    → rows f runs (proc_count (entries m))
    ≡ rows (living_of concurrency (entries m)) (runs_at (entries m) e name) (proc_count (entries m))
not_mine_procs configs m now k cause event answer concurrency e name f runs runs_is f_is ends away =
    rows_same (living_of concurrency (entries m)) f (runs_at (entries m) e name) runs (proc_count (entries m))
    (λ j low high. runs_is j ∙ died_runs configs m now k cause event answer e name j ends high
    ∙ stays (runs_at (entries m) e name j) (k == j) (λ t. eq_turned k j ∙ elsewhere m e name k j (j == k) refl away t))
    (λ j low high picked. f_is j (elsewhere m e name k j (j == k) refl away picked))
  where
    stays : (a b : Bool) → (a ≡ true → b ≡ false) → (a && not b) ≡ a
    stays true true e = absurd (let no = e refl in cc)
    stays true false e = refl
    stays false b e = refl

-- a class that the process is not of, after its death
pub class_not_died : (configs : List Configuration) (m : Past) (now k : ℕ) (answer : Told) (e c : ℕ) (class : Class)
    → is_at_home (entries m) e class.name k ≡ false → SentNone m e c k
    → class_row configs (noted_at now (Died k) answer ∷ m) e c class ≡ class_row configs m e c class
class_not_died configs m now k answer e c class away none =
    λ i. record (class_row configs m e c class) {
      lookups = not_mine_lookups configs m now k cause.Died (Died k) answer e c ends none i;
      stock = record (farm_with configs m e c class) {
        queue = died_queue configs m now k cause.Died (Died k) answer e c ends i;
        procs = not_mine_procs configs m now k cause.Died (Died k) answer class.concurrency e class.name
            (living_of class.concurrency (entries (noted_at now (Died k) answer ∷ m)))
            (runs_at (entries (noted_at now (Died k) answer ∷ m)) e class.name) (λ j. refl) (λ j other. refl) ends
            away i;
        held = ap (λ (b : Bool). if b then false else is_held m e c class.name) away i;
      };
    }
  where
    ends : EndsProcess configs m k cause.Died (Died k) answer
    ends = died_ends configs m k answer

-- after its line outside the grammar
pub class_not_bad : (configs : List Configuration) (m : Past) (now k : ℕ) (bytes : List ℕ) (e c : ℕ) (class : Class)
    → is_at_home (entries m) e class.name k ≡ false → SentNone m e c k
    → class_row configs (noted_at now (Line k bytes) told.Bad ∷ m) e c class ≡ class_row configs m e c class
class_not_bad configs m now k bytes e c class away none =
    λ i. record (class_row configs m e c class) {
      lookups = not_mine_lookups configs m now k cause.BadReply (Line k bytes) told.Bad e c ends none i;
      stock = record (farm_with configs m e c class) {
        queue = died_queue configs m now k cause.BadReply (Line k bytes) told.Bad e c ends i;
        procs = not_mine_procs configs m now k cause.BadReply (Line k bytes) told.Bad class.concurrency e class.name
            (living_of class.concurrency (entries (noted_at now (Line k bytes) told.Bad ∷ m)))
            (runs_at (entries (noted_at now (Line k bytes) told.Bad ∷ m)) e class.name) (λ j. refl)
            (λ j other. other_living class.concurrency m now k bytes told.Bad j other) ends away i;
        held = ap (λ (b : Bool). if b
            && is_some (cause_here (Some cause.BadReply) ((k == k) && nat_le k (proc_count (entries m)))) then false
            else is_held m e c class.name) away i;
      };
    }
  where
    ends : EndsProcess configs m k cause.BadReply (Line k bytes) told.Bad
    ends = bad_ends configs m k bytes

-- after its line on a free channel
pub class_not_stray : (configs : List Configuration) (m : Past) (now k : ℕ) (bytes : List ℕ) (e c : ℕ) (class : Class)
    → is_at_home (entries m) e class.name k ≡ false → SentNone m e c k
    → class_row configs (noted_at now (Line k bytes) told.Stray ∷ m) e c class ≡ class_row configs m e c class
class_not_stray configs m now k bytes e c class away none =
    λ i. record (class_row configs m e c class) {
      lookups = not_mine_lookups configs m now k cause.Stray (Line k bytes) told.Stray e c ends none i;
      stock = record (farm_with configs m e c class) {
        queue = died_queue configs m now k cause.Stray (Line k bytes) told.Stray e c ends i;
        procs = not_mine_procs configs m now k cause.Stray (Line k bytes) told.Stray class.concurrency e class.name
            (living_of class.concurrency (entries (noted_at now (Line k bytes) told.Stray ∷ m)))
            (runs_at (entries (noted_at now (Line k bytes) told.Stray ∷ m)) e class.name) (λ j. refl)
            (λ j other. other_living class.concurrency m now k bytes told.Stray j other) ends away i;
        held = ap (λ (b : Bool). if b
            && is_some (cause_here (Some cause.Stray) ((k == k) && nat_le k (proc_count (entries m)))) then false
            else is_held m e c class.name) away i;
      };
    }
  where
    ends : EndsProcess configs m k cause.Stray (Line k bytes) told.Stray
    ends = stray_ends configs m k bytes
