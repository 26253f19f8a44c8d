-- The end of a process, by its death or by a line that is outside the grammar or on a free channel:
-- the state after it stands for the history with the event.
use Rattle.std.proofs.Common.{◌≡◌, ℕ, List, ◌∷◌, Bool, true, false, not, ◌&&◌, ◌||◌, ◌==◌, nat_le, if◌then◌else◌, Option, Some, None, refl, sym, ap, ap₂, subst, ◌∙◌}
use Rattle.std.specs.Option.{option_map}
use Rattle.std.proofs.lemmas.Bool.{and_parts, and_right, leb-false, leb-true}
use Rattle.std.proofs.lemmas.Option.{same_Some}
use Rattle.sq_base.specs.declared.helpers.Cause.{Cause}
use Rattle.sq_base.specs.declared.helpers.Cause.TheVariants as cause
use Rattle.sq_base.specs.declared.helpers.What.TheVariants as what
use Rattle.sq_machine.specs.declared.entries.Event.{Event}
use Rattle.sq_machine.specs.declared.entries.Event.TheVariants.{Died, Line}
use Rattle.sq_machine.specs.declared.entries.Told.{Told}
use Rattle.sq_machine.specs.declared.entries.Told.TheVariants as told
use Rattle.sq_machine.specs.AnswerReadings.{answer_by}
use Rattle.sq_machine.specs.Channels.{is_open}
use Rattle.sq_rules.specs.Classes.{Class}
use Rattle.sq_rules.specs.Configurations.{Configuration}
use Rattle.sq_machine.specs.DueActs.{ClassId}
use Rattle.sq_machine.specs.Entries.{History}
use Rattle.sq_machine.specs.Epochs.{is_live, config_of}
use Rattle.sq_machine.specs.Events.{begins_epoch, is_number}
use Rattle.sq_machine.specs.FarmReadings.{is_put_for}
use Rattle.sq_machine.specs.Living.{slots_in}
use Rattle.sq_machine.specs.Marks.{Marked, Past, Put, entries}
use Rattle.sq_machine.specs.OpenLookups.{LookupRow, key_of}
use Rattle.sq_machine.specs.Processes.{Home, home_of, is_at_home, is_line_end, is_stopped, line_end, lives_on, proc_count, proc_end, stop_due}
use Rattle.sq_machine.specs.Questions.{has_ended, put_count, put_of, sent_to}
use Rattle.sq_machine.specs.Readings.{current, epoch_after}
use Rattle.sq_model.specs.CheckRows.{Ends, after_ends, ends_at, held_checks, served}
use Rattle.sq_model.specs.ClassRows.{ClassRow, after_death, class_row, is_asked, lookup_of, lookups}
use Rattle.sq_model.specs.MarkedEntries.{LeavesChecks, noted_at}
use Rattle.sq_model.proofs.CheckLaws.{held_ended}
use Rattle.sq_model.proofs.ClassParts.{and_true, equal}
use Rattle.sq_model.proofs.DeathLaws.{EndsProcess, SentNone, bad_ends, class_bad, class_died, class_not_bad, class_not_died, class_not_stray, class_stray, died_ends, stray_ends}
use Rattle.sq_model.proofs.ElsewhereLaws.{away_from, sent_none}
use Rattle.sq_model.proofs.EndLaws.{ends_lost}
use Rattle.sq_model.proofs.EpochLaws.{live_kept}
use Rattle.sq_model.proofs.LineLaws.{slots_found}
use Rattle.sq_model.proofs.NumberLaws.{home_above}
use Rattle.sq_model.proofs.ProcessLaws.{due_died, due_line, lives_by, lives_died, lives_line}
use Rattle.sq_model.proofs.PutLaws.{put_at_home}
use Rattle.sq_model.proofs.RowLaws.{row_found}
use Rattle.sq_model.specs.Changes.{after_end_at, end_answer, is_open_at, row_ends}
use Rattle.sq_model.specs.States.{Stands, State, place_of}
use Rattle.sq_model.proofs.ActStands.{due_above}
use Rattle.sq_model.proofs.EndStands.{kept_there}
use Rattle.sq_model.proofs.FailedEnds.{ends_open, key_open}
use Rattle.sq_model.proofs.InsideStands.{IsInside, other_place, rows_at, stands_inside}
use Rattle.sq_model.proofs.Lawful.{Lawful}
use Rattle.sq_model.proofs.PlaceStands.{LivesAt, home_lives, row_there}
use Rattle.sq_model.proofs.StartStands.{served_asked}

number_is : (k : ℕ) (o : Option ℕ) → is_number k o ≡ true → o ≡ Some k
number_is k None t = absurd (cc)
number_is k (Some j) t = ap (λ (i : ℕ). Some i) (sym (equal k j t))

-- a question that was not put is no open lookup
key_none : (configs : List Configuration) (m : Past) (e c q : ℕ) → put_of m q ≡ None
    → key_of q (lookups configs m e c) ≡ None
key_none configs m e c q none =
    ap (option_map (λ (l : LookupRow). l.key))
    (row_found (λ (l : LookupRow). q == l.question) (lookup_of m) (is_asked configs m e c) (put_count m) q
    (λ k low high is. refl)
    ∙ ap (λ (b : Bool). if b then Some (lookup_of m q) else None)
    (and_right (nat_le 1 q && nat_le q (put_count m)) (is_asked configs m e c q)
    (ap (λ (o : Option Put). is_put_for e c o && not (has_ended configs m q)) none)))

-- what the end of a process gives for a question that has not ended, by the row of its class
lost_ends : (configs : List Configuration) (m : Past) (s : State) (now k : ℕ) (p : ClassId) (c : Cause) (event : Event)
    (answer : Told) (q : ℕ) → Lawful configs m → Stands configs m s
    → (l : LivesAt configs m k p) → EndsProcess configs m k c event answer → has_ended configs m q ≡ false
    → ends_at configs m (noted_at now event answer) q
    ≡ row_ends p.class (what.Fault c) now (is_open_at k (s.row p.epoch p.class)) (s.row p.epoch p.class) q
lost_ends configs m s now k p c event answer q law st l ends live =
    ends_lost configs m now k c event answer q ends ∙ by (is_number k (sent_to m q)) (put_of m q) refl refl
    ∙ sym (ap (λ (t : Bool). if t then end_answer p.class (what.Fault c) now q (key_of q r.lookups) else None) open_is)
    ∙ sym (ap (λ (o : Option ClassRow). row_ends p.class (what.Fault c) now (is_open_at k o) o q)
    (row_there configs m s k p st l))
  where
    r : ClassRow
    r = class_row configs m p.epoch p.class l.class

    open_is : is_open q (slots_in k r.stock.procs) ≡ is_number k (sent_to m q)
    open_is =
        ap (is_open q) (slots_found l.class.concurrency (entries m) p.epoch l.class.name k l.runs)
        ∙ law.carried.slots_agree p.epoch p.class l.class l.class_is k q l.runs
        ∙ ap (λ (b : Bool). is_number k (sent_to m q) && not b) live ∙ and_true (is_number k (sent_to m q))

    by : (b : Bool) (o : Option Put) → is_number k (sent_to m q) ≡ b → put_of m q ≡ o
        → (if b then answer_by now q o (Some (what.Fault c)) else None)
        ≡ (if b then end_answer p.class (what.Fault c) now q (key_of q r.lookups) else None)
    by true None sent put = sym
        (ap (end_answer p.class (what.Fault c) now q) (key_none configs m p.epoch p.class q put))
    by true (Some z) sent put =
        let here : is_put_for p.epoch p.class (Some z) ≡ true =
        put_at_home configs m q k p.epoch p.class l.class z law.once law.carried law.puts l.class_is l.home
        (number_is k (sent_to m q) sent) put in
        ap (λ (i : ℕ). Some (record {
          class = i;
          key = z.key;
          what = what.Fault c;
          question = Some q;
          date = now;
          taken = now;
        }))
        (equal z.class p.class (and_parts (z.epoch == p.epoch) (z.class == p.class) here).1)
        ∙ sym (ap (end_answer p.class (what.Fault c) now q) (key_open configs m p.epoch p.class q z put here live))
    by false o sent put = refl

-- an event that ends process k of the class at a place by this cause, by a line or not
record EndsSo (configs : List Configuration) (m : Past) (now k : ℕ) (p : ClassId) (class : Class) (c : Cause)
    (by_line : Bool) (event : Event) (answer : Told) : Type 0 where
  inside : IsInside event
  epoch_none : begins_epoch event ≡ false
  leaves : LeavesChecks event
  ends : EndsProcess configs m k c event answer
  here : class_row configs (noted_at now event answer ∷ m) p.epoch p.class class
      ≡ after_death c k (class_row configs m p.epoch p.class class)
  elsewhere : (e d : ℕ) (other : Class) → is_at_home (entries m) e other.name k ≡ false → SentNone m e d k
      → class_row configs (noted_at now event answer ∷ m) e d other ≡ class_row configs m e d other
  counted : proc_count (entries (noted_at now event answer ∷ m)) ≡ proc_count (entries m)
  placed : (j : ℕ) → place_of configs (entries (noted_at now event answer ∷ m)) j ≡ place_of configs (entries m) j
  lives : ((e : ℕ) → is_live (entries (noted_at now event answer ∷ m)) e ≡ is_live (entries m) e)
      → (j : ℕ) → lives_on (entries (noted_at now event answer ∷ m)) j ≡ (lives_on (entries m) j && not (k == j))
  dues : ((e : ℕ) → is_live (entries (noted_at now event answer ∷ m)) e ≡ is_live (entries m) e)
      → (j : ℕ) → stop_due (entries (noted_at now event answer ∷ m)) j
      ≡ (stop_due (entries m) j || (by_line && (k == j)))

-- the state after it
ended_stands : (configs : List Configuration) (m : Past) (s : State) (now k : ℕ) (p : ClassId) (c : Cause)
    (by_line : Bool) (event : Event) (answer : Told) → Lawful configs m → Stands configs m s
    → (l : LivesAt configs m k p) → EndsSo configs m now k p l.class c by_line event answer
    → Stands configs (noted_at now event answer ∷ m) (after_end_at p k c by_line now s)
ended_stands configs m s now k p c by_line event answer law st l b =
    stands_inside configs m s now event answer (after_end_at p k c by_line now s) b.inside st
    (record {
      checks_are = ap (after_ends given) st.checks_are ∙ sym checks;
      current_is = st.current_is ∙ sym (ap (λ (t : Bool). epoch_after t (current (entries m))) b.epoch_none);
      configs_are = λ e. kept_there (is_live (entries m) e) (is_live (entries (x ∷ m)) e) (config_of configs e)
          (s.config e) (st.configs_are e) (live e);
      rows_are = rows_at configs m s x p (after_death c k) st live
          (λ class at. subst (λ (z : Class). class_row configs (x ∷ m) p.epoch p.class z
          ≡ after_death c k (class_row configs m p.epoch p.class z)) (same_Some _ _ (sym l.class_is ∙ at)) b.here)
          (λ e d other apart at.
          let away = away_from configs m k p.epoch p.class e d l.class other law.once l.class_is
          at l.home (other_place p e d apart) in
          b.elsewhere e d other away (sent_none configs m e d k other law.carried at away));
      procs_are = st.procs_are ∙ sym b.counted;
      homes_are = λ j. ap (λ (o : Option ClassId). if k == j then None else o) (st.homes_are j)
          ∙ gone (k == j) (lives_on (entries m) j) (place_of configs (entries m) j)
          ∙ sym (ap₂ (λ (t : Bool) (o : Option ClassId). if t then o else None) (b.lives live j) (b.placed j));
      stops_are = λ j. ap (λ (t : Bool). t || (by_line && (k == j))) (st.stops_are j) ∙ sym (b.dues live j);
    })
  where
    x : Marked
    x = noted_at now event answer

    given : Ends
    given = row_ends p.class (what.Fault c) now (is_open_at k (s.row p.epoch p.class)) (s.row p.epoch p.class)

    checks : held_checks configs (x ∷ m) ≡ after_ends given (held_checks configs m)
    checks =
        held_ended configs m x b.leaves (λ n. record { waits_put = law.carried.waits_put n })
        ∙ ends_open configs m (ends_at configs m x) given
        (λ q live. lost_ends configs m s now k p c event answer q law st l b.ends live)

    live : (e : ℕ) → is_live (entries (x ∷ m)) e ≡ is_live (entries m) e
    live e = live_kept configs m x e (served given) (served_asked given) b.epoch_none checks

    gone : (t b : Bool) (o : Option ClassId)
        → (if t then None else (if b then o else None)) ≡ (if b && not t then o else None)
    gone true true o = refl
    gone true false o = refl
    gone false true o = refl
    gone false false o = refl

-- a process that was not started does not live
lives_unborn : (h : History) (j : ℕ) → home_of h j ≡ None → lives_on h j ≡ false
lives_unborn h j none = ap (λ (o : Option Home). lives_by o (proc_end h j) (is_live h)) none

-- a line that ends its process: who lives, and which stops are due
lives_line_each : (m : Past) (now k : ℕ) (bytes : List ℕ) (answer : Told) (c : Cause) → line_end answer ≡ Some c
    → ((e : ℕ) → is_live (entries (noted_at now (Line k bytes) answer ∷ m)) e ≡ is_live (entries m) e)
    → (j : ℕ) → lives_on (entries (noted_at now (Line k bytes) answer ∷ m)) j ≡ (lives_on (entries m) j && not (k == j))
lives_line_each m now k bytes answer c ends live j = by (nat_le j (proc_count (entries m))) refl
  where
    by : (b : Bool) → nat_le j (proc_count (entries m)) ≡ b
        → lives_on (entries (noted_at now (Line k bytes) answer ∷ m)) j ≡ (lives_on (entries m) j && not (k == j))
    by true t = lives_line m now k bytes answer c j ends (leb-true j (proc_count (entries m)) t) live
    by false t =
        let none = home_above (entries m) j (leb-false j (proc_count (entries m)) t) in
        lives_unborn (entries (noted_at now (Line k bytes) answer ∷ m)) j none
        ∙ sym (ap (λ (b : Bool). b && not (k == j)) (lives_unborn (entries m) j none))

-- a process that lives is none of those that were not started
not_unborn : (h : History) (k j : ℕ) → lives_on h k ≡ true → home_of h j ≡ None → (k == j) ≡ false
not_unborn h k j lives none = by (k == j) refl
  where
    by : (b : Bool) → (k == j) ≡ b → b ≡ false
    by true same = absurd (let dead = ap (lives_on h) (equal k j same) ∙ lives_unborn h j none in
        let no : true ≡ false = sym lives ∙ dead in cc)
    by false other = refl

due_line_each : (m : Past) (now k : ℕ) (bytes : List ℕ) (answer : Told) (c : Cause) → line_end answer ≡ Some c
    → is_line_end (Some c) ≡ true
    → lives_on (entries m) k ≡ true → is_stopped (entries m) k ≡ false
    → ((e : ℕ) → is_live (entries (noted_at now (Line k bytes) answer ∷ m)) e ≡ is_live (entries m) e)
    → (j : ℕ) → stop_due (entries (noted_at now (Line k bytes) answer ∷ m)) j
    ≡ (stop_due (entries m) j || (true && (k == j)))
due_line_each m now k bytes answer c ends line lives unstopped live j = by (nat_le j (proc_count (entries m))) refl
  where
    by : (b : Bool) → nat_le j (proc_count (entries m)) ≡ b
        → stop_due (entries (noted_at now (Line k bytes) answer ∷ m)) j ≡ (stop_due (entries m) j || (true && (k == j)))
    by true t = due_line m now k bytes answer c j ends line (leb-true j (proc_count (entries m)) t) lives unstopped live
    by false t =
        let above = leb-false j (proc_count (entries m)) t in
        due_above (entries (noted_at now (Line k bytes) answer ∷ m)) j above
        ∙ sym (ap₂ (λ (a b : Bool). a || (true && b)) (due_above (entries m) j above)
        (not_unborn (entries m) k j lives (home_above (entries m) j above)))

-- a death: who lives, and which stops are due
lives_died_each : (m : Past) (now k : ℕ) (answer : Told)
    → ((e : ℕ) → is_live (entries (noted_at now (Died k) answer ∷ m)) e ≡ is_live (entries m) e)
    → (j : ℕ) → lives_on (entries (noted_at now (Died k) answer ∷ m)) j ≡ (lives_on (entries m) j && not (k == j))
lives_died_each m now k answer live j = by (nat_le j (proc_count (entries m))) refl
  where
    by : (b : Bool) → nat_le j (proc_count (entries m)) ≡ b
        → lives_on (entries (noted_at now (Died k) answer ∷ m)) j ≡ (lives_on (entries m) j && not (k == j))
    by true t = lives_died m now k answer j (leb-true j (proc_count (entries m)) t) live
    by false t =
        let none = home_above (entries m) j (leb-false j (proc_count (entries m)) t) in
        lives_unborn (entries (noted_at now (Died k) answer ∷ m)) j none
        ∙ sym (ap (λ (b : Bool). b && not (k == j)) (lives_unborn (entries m) j none))

due_died_each : (m : Past) (now k : ℕ) (answer : Told) → lives_on (entries m) k ≡ true
    → ((e : ℕ) → is_live (entries (noted_at now (Died k) answer ∷ m)) e ≡ is_live (entries m) e)
    → (j : ℕ) → stop_due (entries (noted_at now (Died k) answer ∷ m)) j
    ≡ (stop_due (entries m) j || (false && (k == j)))
due_died_each m now k answer lives live j = by (nat_le j (proc_count (entries m))) refl
    ∙ sym (or_false (stop_due (entries m) j))
  where
    or_false : (b : Bool) → (b || false) ≡ b
    or_false true = refl
    or_false false = refl

    by : (b : Bool) → nat_le j (proc_count (entries m)) ≡ b
        → stop_due (entries (noted_at now (Died k) answer ∷ m)) j ≡ stop_due (entries m) j
    by true t = due_died m now k answer j (leb-true j (proc_count (entries m)) t) lives live
    by false t =
        let above = leb-false j (proc_count (entries m)) t in
        due_above (entries (noted_at now (Died k) answer ∷ m)) j above ∙ sym (due_above (entries m) j above)

-- a process died
pub died_stands : (configs : List Configuration) (m : Past) (s : State) (now k : ℕ) (p : ClassId) → Lawful configs m
    → Stands configs m s → s.home k ≡ Some p
    → Stands configs (noted_at now (Died k) told.Fine ∷ m) (after_end_at p k cause.Died false now s)
died_stands configs m s now k p law st home =
    let l = home_lives configs m s k p law st home in
    let agree = law.carried.slots_agree p.epoch p.class l.class l.class_is in
    ended_stands configs m s now k p cause.Died false (Died k) told.Fine law st l
    (record {
      inside = record { news_none = refl; asks_none = refl; begins_none = refl; counts = refl };
      epoch_none = refl;
      leaves = record { asks_none = refl; steps_none = refl; takes_none = refl; closes_none = refl };
      ends = died_ends configs m k told.Fine;
      here = class_died configs m now k told.Fine p.epoch p.class l.class agree l.runs;
      elsewhere = λ e d other away none. class_not_died configs m now k told.Fine e d other away none;
      counted = refl;
      placed = λ j. refl;
      lives = lives_died_each m now k told.Fine;
      dues = due_died_each m now k told.Fine l.lives;
    })

-- a process wrote a line outside the grammar
pub bad_stands : (configs : List Configuration) (m : Past) (s : State) (now k : ℕ) (bytes : List ℕ) (p : ClassId)
    → Lawful configs m → Stands configs m s → s.home k ≡ Some p
    → Stands configs (noted_at now (Line k bytes) told.Bad ∷ m) (after_end_at p k cause.BadReply true now s)
bad_stands configs m s now k bytes p law st home =
    let l = home_lives configs m s k p law st home in
    let agree = law.carried.slots_agree p.epoch p.class l.class l.class_is in
    ended_stands configs m s now k p cause.BadReply true (Line k bytes) told.Bad law st l
    (record {
      inside = record { news_none = refl; asks_none = refl; begins_none = refl; counts = refl };
      epoch_none = refl;
      leaves = record { asks_none = refl; steps_none = refl; takes_none = refl; closes_none = refl };
      ends = bad_ends configs m k bytes;
      here = class_bad configs m now k bytes p.epoch p.class l.class agree l.runs;
      elsewhere = λ e d other away none. class_not_bad configs m now k bytes e d other away none;
      counted = refl;
      placed = λ j. refl;
      lives = lives_line_each m now k bytes told.Bad cause.BadReply refl;
      dues = due_line_each m now k bytes told.Bad cause.BadReply refl refl l.lives (law.stops.goes_on k l.lives);
    })

-- a process wrote a line on a free channel
pub stray_stands : (configs : List Configuration) (m : Past) (s : State) (now k : ℕ) (bytes : List ℕ) (p : ClassId)
    → Lawful configs m → Stands configs m s → s.home k ≡ Some p
    → Stands configs (noted_at now (Line k bytes) told.Stray ∷ m) (after_end_at p k cause.Stray true now s)
stray_stands configs m s now k bytes p law st home =
    let l = home_lives configs m s k p law st home in
    let agree = law.carried.slots_agree p.epoch p.class l.class l.class_is in
    ended_stands configs m s now k p cause.Stray true (Line k bytes) told.Stray law st l
    (record {
      inside = record { news_none = refl; asks_none = refl; begins_none = refl; counts = refl };
      epoch_none = refl;
      leaves = record { asks_none = refl; steps_none = refl; takes_none = refl; closes_none = refl };
      ends = stray_ends configs m k bytes;
      here = class_stray configs m now k bytes p.epoch p.class l.class agree l.runs;
      elsewhere = λ e d other away none. class_not_stray configs m now k bytes e d other away none;
      counted = refl;
      placed = λ j. refl;
      lives = lives_line_each m now k bytes told.Stray cause.Stray refl;
      dues = due_line_each m now k bytes told.Stray cause.Stray refl refl l.lives (law.stops.goes_on k l.lives);
    })
