-- A state after a process was started, and after a start that failed.
use Rattle.std.proofs.Common.{◌≡◌, ℕ, suc, ◌≤◌, List, ◌∷◌, Bool, true, false, not, ◌&&◌, ◌==◌, nat_le, if◌then◌else◌, Option, Some, None, option_and_then, refl, sym, ap, ap₂, subst, ◌∙◌, arith}
use Rattle.std.specs.Option.{option_map, option_map_or, option_or}
use Rattle.std.proofs.lemmas.Bool.{and_parts, and_right}
use Rattle.std.proofs.lemmas.Bool.Decides.{nat_tests}
use Rattle.std.proofs.lemmas.Option.{same_Some}
use Rattle.sq_base.specs.declared.helpers.Answer.{Answer}
use Rattle.sq_base.specs.declared.helpers.Cause.TheVariants as cause
use Rattle.sq_base.specs.declared.helpers.What.TheVariants as what
use Rattle.sq_machine.specs.declared.entries.Event.TheVariants.{StartFail, Started}
use Rattle.sq_machine.specs.declared.entries.Told.{Told}
use Rattle.sq_machine.specs.declared.entries.Told.TheVariants as told
use Rattle.sq_machine.specs.declared.refusals.Refusal.{Refusal}
use Rattle.sq_machine.specs.declared.refusals.Refusal.TheVariants as refusal
use Rattle.sq_rules.specs.Classes.{Class}
use Rattle.sq_rules.specs.Configurations.{Configuration}
use Rattle.sq_machine.specs.DueActs.{ClassId}
use Rattle.sq_machine.specs.Epochs.{class_at, is_live, config_of}
use Rattle.sq_machine.specs.Machine.{next_at, has_start, with_place}
use Rattle.sq_machine.specs.Limits.{last_number}
use Rattle.sq_machine.specs.Next.{Next, gives, refuse_if}
use Rattle.sq_machine.specs.Marks.{Marked, Past, entries}
use Rattle.sq_machine.specs.Processes.{Home, home_of, is_stopped, lives_on, proc_count, proc_end, starting, stop_due}
use Rattle.sq_model.specs.CheckRows.{Ends, Held, after_ends, ends_at, held_checks, served, served_by}
use Rattle.sq_model.specs.ClassRows.{ClassRow, after_failed, after_started, class_row}
use Rattle.sq_model.specs.Carried.{NamesOnce}
use Rattle.sq_model.specs.MarkedEntries.{noted_at}
use Rattle.sq_model.proofs.CheckLaws.{held_ended, held_same}
use Rattle.sq_model.proofs.ClassParts.{equal}
use Rattle.sq_model.proofs.ElsewhereLaws.{place_named}
use Rattle.sq_model.proofs.EpochLaws.{live_kept}
use Rattle.sq_model.proofs.FailLaws.{class_failed, class_not_failed}
use Rattle.sq_model.proofs.ProcessLaws.{due_by, due_like, due_started, home_new, lives_like, lives_new}
use Rattle.sq_model.proofs.StartLaws.{class_not_started, class_started}
use Rattle.sq_model.specs.Answers.{failed_answer, has_start_in, started_answer}
use Rattle.sq_model.specs.Changes.{after_failed_at, after_started_at, is_at, is_stranded, row_ends}
use Rattle.sq_model.specs.States.{State, Stands, place_of}
use Rattle.sq_model.proofs.ActStands.{due_above}
use Rattle.sq_model.proofs.EndStands.{home_by, homes_stay, kept_there, leaves_procs, live_still, placed, stops_stay}
use Rattle.sq_model.proofs.FailedEnds.{ends_failed, ends_open}
use Rattle.sq_model.proofs.InsideStands.{other_name, rows_at, stands_inside}
use Rattle.sq_model.proofs.Lawful.{Lawful, row_live}

-- whether a start of a class is open, by the state
pub start_open : (configs : List Configuration) (m : Past) (s : State) (p : ClassId) (class : Class)
    → Stands configs m s → class_at configs p.epoch p.class ≡ Some class
    → has_start_in s p ≡ has_start (entries m) p.epoch class.name
start_open configs m s p class st at =
    ap (λ (o : Option ClassRow). option_map_or (λ r. not (r.stock.starting == 0)) o false)
    (st.rows_are p.epoch p.class
    ∙ ap (λ (o : Option Class). if is_live (entries m) p.epoch then option_map (class_row configs m p.epoch p.class) o
    else None) at)
    ∙ by (is_live (entries m) p.epoch)
  where
    by : (b : Bool) → option_map_or (λ (r : ClassRow). not (r.stock.starting == 0))
        (if b then Some (class_row configs m p.epoch p.class class) else None) false
        ≡ (b && not (starting (entries m) p.epoch class.name == 0))
    by true = refl
    by false = refl

-- what is answered where a process was started
pub started_next : (configs : List Configuration) (m : Past) (s : State) (now : ℕ) (p : ClassId) (class : Class)
    → NamesOnce configs → Stands configs m s
    → class_at configs p.epoch p.class ≡ Some class
    → next_at configs m now (Started p.epoch class.name) ≡ started_answer s p
unfolding next_at
started_next configs m s now p class once st at =
    ap (λ (o : Option ℕ). with_place o
    (λ place. refuse_if (not (has_start (entries m) p.epoch class.name)) (refusal.NoStartOpen p.epoch place)
    (refuse_if (nat_le last_number (suc (proc_count (entries m)))) (refusal.Spent (suc (proc_count (entries m))))
    (gives (told.Proc (suc (proc_count (entries m))))))))
    (place_named configs p.epoch p.class class once at)
    ∙ ap₂ (λ (b : Bool) (n : ℕ). refuse_if (not b) (refusal.NoStartOpen p.epoch p.class)
    (refuse_if (nat_le last_number (suc n)) (refusal.Spent (suc n)) (gives (told.Proc (suc n)))))
    (sym (start_open configs m s p class st at)) (sym st.procs_are)

-- and where a start failed
pub failed_next : (configs : List Configuration) (m : Past) (s : State) (now : ℕ) (p : ClassId) (class : Class)
    → NamesOnce configs → Stands configs m s
    → class_at configs p.epoch p.class ≡ Some class
    → next_at configs m now (StartFail p.epoch class.name) ≡ failed_answer s p
unfolding next_at
failed_next configs m s now p class once st at =
    ap (λ (o : Option ℕ). with_place o
    (λ place. refuse_if (not (has_start (entries m) p.epoch class.name)) (refusal.NoStartOpen p.epoch place)
    (gives told.Fine)))
    (place_named configs p.epoch p.class class once at)
    ∙ ap (λ (b : Bool). refuse_if (not b) (refusal.NoStartOpen p.epoch p.class) (gives told.Fine))
    (sym (start_open configs m s p class st at))

-- what is answered where it is refused unless a test holds: it does
pub not_refused : (b : Bool) (r : Refusal) (rest : Next) (answer : Told) → refuse_if (not b) r rest ≡ gives answer
    → b ≡ true
not_refused true r rest answer e = refl
not_refused false r rest answer e = absurd (cc)

-- an open start: its epoch lives, and there is one
record IsOpenStart (m : Past) (p : ClassId) (class : Class) : Type 0 where
  lives : is_live (entries m) p.epoch ≡ true
  some : 1 ≤ starting (entries m) p.epoch class.name

is_open_start : (m : Past) (p : ClassId) (class : Class) → has_start (entries m) p.epoch class.name ≡ true
    → IsOpenStart m p class
is_open_start m p class t =
    let both = and_parts (is_live (entries m) p.epoch) (not (starting (entries m) p.epoch class.name == 0)) t in
    record { lives = both.0; some = few (starting (entries m) p.epoch class.name) both.1 }
  where
    few : (n : ℕ) → not (n == 0) ≡ true → 1 ≤ n
    few n t = grind (arith, nat_tests)

-- a process was started
pub started_stands : (configs : List Configuration) (m : Past) (s : State) (now : ℕ) (p : ClassId) (class : Class)
    (answer : Told) → Lawful configs m → Stands configs m s
    → class_at configs p.epoch p.class ≡ Some class → next_at configs m now (Started p.epoch class.name) ≡ gives answer
    → Stands configs (noted_at now (Started p.epoch class.name) answer ∷ m) (after_started_at p now s)
started_stands configs m s now p class answer law st at told_so =
    stands_inside configs m s now (Started p.epoch class.name) answer (after_started_at p now s)
    (record { news_none = refl; asks_none = refl; begins_none = refl; counts = refl }) st
    (record {
      checks_are = st.checks_are ∙ sym held;
      current_is = st.current_is;
      configs_are = λ e. kept_there (is_live (entries m) e) (is_live (entries after) e) (config_of configs e)
          (s.config e) (st.configs_are e) (live e);
      rows_are = rows_at configs m s x p (after_started (suc s.procs)) st live here others;
      procs_are = ap suc st.procs_are;
      homes_are = λ k. ap (λ (n : ℕ). if k == suc n then Some p else s.home k) st.procs_are
          ∙ home_is k (k == suc (proc_count (entries m))) refl;
      stops_are = λ k. st.stops_are k ∙ stop_is k (k == suc (proc_count (entries m))) refl;
    })
  where
    x : Marked
    x = noted_at now (Started p.epoch class.name) answer

    after : Past
    after = x ∷ m

    start : IsOpenStart m p class
    start =
        is_open_start m p class
        (sym (start_open configs m s p class st at)
        ∙ not_refused (has_start_in s p) (refusal.NoStartOpen p.epoch p.class) _ answer
        (sym (started_next configs m s now p class law.once st at) ∙ told_so))

    held : held_checks configs after ≡ held_checks configs m
    held = held_same configs m x (record { asks_none = refl; steps_none = refl; takes_none = refl; closes_none = refl })
        (λ q. refl)

    live : (e : ℕ) → is_live (entries after) e ≡ is_live (entries m) e
    live e = live_still configs m after e refl held

    here : (other : Class) → class_at configs p.epoch p.class ≡ Some other
        → class_row configs after p.epoch p.class other
        ≡ after_started (suc s.procs) (class_row configs m p.epoch p.class other)
    here other there =
        let same : class ≡ other = same_Some _ _ (sym at ∙ there) in
        subst (λ (k : Class). class_row configs after p.epoch p.class k
        ≡ after_started (suc s.procs) (class_row configs m p.epoch p.class k)) same
        (class_started configs m now answer p.epoch p.class class
        ∙ ap (λ (n : ℕ). after_started (suc n) (class_row configs m p.epoch p.class class)) (sym st.procs_are))

    others : (e c : ℕ) (other : Class) → is_at p e c ≡ false → class_at configs e c ≡ Some other
        → class_row configs after e c other ≡ class_row configs m e c other
    others e c other away there = class_not_started configs m now p.epoch class.name answer e c other
        (other_name configs p e c class other law.once at there away)

    lives_here : is_live (entries after) p.epoch ≡ true
    lives_here = live p.epoch ∙ start.lives

    new : ℕ
    new = suc (proc_count (entries m))

    new_place : Some p ≡ (if lives_on (entries after) new then place_of configs (entries after) new else None)
    new_place =
        sym (ap₂ (λ (b : Bool) (o : Option Home). if b then placed configs o else None)
        (lives_new m now p.epoch class.name answer lives_here) (home_new m now p.epoch class.name answer)
        ∙ ap (option_map (λ (c : ℕ). record { epoch = p.epoch; class = c }))
        (place_named configs p.epoch p.class class law.once at))

    -- the others are of the classes that they were of
    home_same : (k : ℕ) → (k == new) ≡ false → home_of (entries after) k ≡ home_of (entries m) k
    home_same k other = ap (λ (b : Bool). option_or
        (if b then Some (record { epoch = p.epoch; class = class.name }) else None) (home_of (entries m) k)) other

    home_is : (k : ℕ) (b : Bool) → (k == new) ≡ b
        → (if b then Some p else s.home k)
        ≡ (if lives_on (entries after) k then place_of configs (entries after) k else None)
    home_is k true same = new_place
        ∙ ap (λ (i : ℕ). if lives_on (entries after) i then place_of configs (entries after) i else None)
        (sym (equal k new same))
    home_is k false other =
        st.homes_are k
        ∙ sym (ap (λ (o : Option Home). home_by configs o (proc_end (entries m) k) (is_live (entries after)))
        (home_same k other)
        ∙ ap (λ (b : Bool). if b then placed configs (home_of (entries m) k) else None)
        (lives_like (home_of (entries m) k) (proc_end (entries m) k) (is_live (entries after)) (is_live (entries m))
        live))

    stopped_same : (k : ℕ) → is_stopped (entries after) k ≡ is_stopped (entries m) k
    stopped_same k = ap (λ (b : Bool). if b then true else is_stopped (entries m) k)
        (and_right (nat_le k (proc_count (entries m))) false refl)

    stop_is : (k : ℕ) (b : Bool) → (k == new) ≡ b → stop_due (entries m) k ≡ stop_due (entries after) k
    stop_is k true same =
        ap (stop_due (entries m)) (equal k new same) ∙ due_above (entries m) new (omega arith)
        ∙ sym (due_started m now p.epoch class.name answer lives_here)
        ∙ ap (stop_due (entries after)) (sym (equal k new same))
    stop_is k false other =
        sym (ap₂ (λ (o : Option Home) (b : Bool). due_by o b (proc_end (entries m) k) (is_live (entries after)))
        (home_same k other) (stopped_same k)
        ∙ due_like (home_of (entries m) k) (is_stopped (entries m) k) (proc_end (entries m) k) (is_live (entries after))
        (is_live (entries m)) live)

-- a check is what it was asked, whatever it is served
pub served_asked : (ends : Ends) (h : Held) → (served ends h).asked ≡ h.asked
served_asked ends h = by (option_and_then ends h.waits)
  where
    by : (o : Option Answer) → (served_by o h).asked ≡ h.asked
    by None = refl
    by (Some a) = refl

-- a start failed
pub failed_stands : (configs : List Configuration) (m : Past) (s : State) (now : ℕ) (p : ClassId) (class : Class)
    (answer : Told) → Lawful configs m → Stands configs m s
    → class_at configs p.epoch p.class ≡ Some class
    → next_at configs m now (StartFail p.epoch class.name) ≡ gives answer
    → Stands configs (noted_at now (StartFail p.epoch class.name) answer ∷ m) (after_failed_at p now s)
failed_stands configs m s now p class answer law st at told_so =
    stands_inside configs m s now (StartFail p.epoch class.name) answer (after_failed_at p now s)
    (record { news_none = refl; asks_none = refl; begins_none = refl; counts = refl }) st
    (record {
      checks_are = ap₂ (λ (o : Option ClassRow) (checks : List Held). after_ends
          (row_ends p.class (what.Fault cause.NoHelper) now (is_stranded o) o) checks) row_is st.checks_are
          ∙ ends_open configs m (row_ends p.class (what.Fault cause.NoHelper) now (is_stranded (Some row)) (Some row))
          (ends_at configs m x)
          (λ q opened. sym (ends_failed configs m now answer p.epoch p.class class q law.once law.puts
          at start.some opened))
          ∙ sym held;
      current_is = st.current_is;
      configs_are = λ e. kept_there (is_live (entries m) e) (is_live (entries after) e) (config_of configs e)
          (s.config e) (st.configs_are e) (live e);
      rows_are = rows_at configs m s x p after_failed st live here others;
      procs_are = st.procs_are;
      homes_are = λ k.
          st.homes_are k
          ∙ sym (homes_stay configs (entries m) (entries after) k
          (leaves_procs now (StartFail p.epoch class.name) answer (entries m)
          (record { starts_none = refl; ends_none = λ k. refl; stops_none = λ k. refl })) live);
      stops_are = λ k.
          st.stops_are k
          ∙ sym (stops_stay (entries m) (entries after) k
          (leaves_procs now (StartFail p.epoch class.name) answer (entries m)
          (record { starts_none = refl; ends_none = λ k. refl; stops_none = λ k. refl })) live);
    })
  where
    x : Marked
    x = noted_at now (StartFail p.epoch class.name) answer

    after : Past
    after = x ∷ m

    row : ClassRow
    row = class_row configs m p.epoch p.class class

    start : IsOpenStart m p class
    start =
        is_open_start m p class
        (sym (start_open configs m s p class st at)
        ∙ not_refused (has_start_in s p) (refusal.NoStartOpen p.epoch p.class) _ answer
        (sym (failed_next configs m s now p class law.once st at) ∙ told_so))

    row_is : s.row p.epoch p.class ≡ Some row
    row_is = row_live configs m s p.epoch p.class st start.lives
        ∙ ap (option_map (class_row configs m p.epoch p.class)) at

    held : held_checks configs after ≡ after_ends (ends_at configs m x) (held_checks configs m)
    held =
        held_ended configs m x (record { asks_none = refl; steps_none = refl; takes_none = refl; closes_none = refl })
        (λ k. record { waits_put = law.carried.waits_put k })

    live : (e : ℕ) → is_live (entries after) e ≡ is_live (entries m) e
    live e = live_kept configs m x e (served (ends_at configs m x)) (served_asked (ends_at configs m x)) refl held

    here : (other : Class) → class_at configs p.epoch p.class ≡ Some other
        → class_row configs after p.epoch p.class other ≡ after_failed (class_row configs m p.epoch p.class other)
    here other there =
        let same : class ≡ other = same_Some _ _ (sym at ∙ there) in
        subst (λ (k : Class). class_row configs after p.epoch p.class k
        ≡ after_failed (class_row configs m p.epoch p.class k)) same
        (class_failed configs m now answer p.epoch p.class class at start.some)

    others : (e c : ℕ) (other : Class) → is_at p e c ≡ false → class_at configs e c ≡ Some other
        → class_row configs after e c other ≡ class_row configs m e c other
    others e c other away there = class_not_failed configs m now p.epoch class.name answer e c other there
        (other_name configs p e c class other law.once at there away)
