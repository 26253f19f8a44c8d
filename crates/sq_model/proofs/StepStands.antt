-- A step of a check: what the machine answers by its state,
-- and that the state after it stands for the history with the step.
use Rattle.std.proofs.Common.{◌≡◌, ℕ, suc, List, [], ◌∷◌, find, cond, Bool, true, false, not, ◌||◌, ◌==◌, if◌then◌else◌, Option, Some, None, is_some, refl, sym, ap, ap₂, subst, ◌∙◌}
use Rattle.std.specs.List.{list_any}
use Rattle.std.specs.Option.{option_and_then, option_map, option_map_or}
use Rattle.std.proofs.lemmas.Bool.{or_right}
use Rattle.std.proofs.lemmas.Option.{none-some, same_Some}
use Rattle.sq_machine.specs.declared.entries.Event.TheVariants.{Step}
use Rattle.sq_rules.specs.declared.outcomes.Why.TheVariants as why
use Rattle.sq_machine.specs.declared.refusals.Refusal.TheVariants as refusal
use Rattle.sq_rules.specs.declared.values.Value.{Value}
use Rattle.sq_rules.specs.declared.values.Value.TheVariants as value
use Rattle.sq_machine.specs.AnswerReadings.{waits_told}
use Rattle.sq_machine.specs.Checks.{Asked, check_open}
use Rattle.sq_rules.specs.Classes.{Class}
use Rattle.sq_rules.specs.Configurations.{Configuration}
use Rattle.sq_machine.specs.Epochs.{class_at, is_live, config_of}
use Rattle.sq_machine.specs.Machine.{next_at, step_next}
use Rattle.sq_machine.specs.Next.{refuse_if}
use Rattle.sq_machine.specs.Marking.{mark}
use Rattle.sq_machine.specs.Marks.{Marked, Past, entries}
use Rattle.sq_machine.specs.Questions.{put_count, unended}
use Rattle.sq_machine.specs.Readings.{current}
use Rattle.sq_machine.specs.StepRule.{StepSays, class_of_acl, says_at_place, says_of_class, says_value, step_says, value_over}
use Rattle.sq_rules.specs.Verdicts.{verdict_over}
use Rattle.sq_machine.proofs.CheckLaws.{ask_count_more}
use Rattle.sq_machine.proofs.ConnectionLaws.{conns_of_quiet, open_count_quiet, peer_at_more}
use Rattle.sq_machine.proofs.ReadingLaws.{offset_of_more}
use Rattle.sq_model.specs.CheckRows.{Held, after_step, held_at, held_checks, held_of, stepped}
use Rattle.sq_model.specs.ClassRows.{ClassRow, class_part, class_row}
use Rattle.sq_model.specs.StepRows.{says_of_row}
use Rattle.sq_model.specs.ClassChanges.{after_said}
use Rattle.sq_model.specs.MarkedEntries.{stepped_at}
use Rattle.sq_model.proofs.CheckLaws.{held_found, held_stepped}
use Rattle.sq_model.proofs.ClassParts.{itself}
use Rattle.sq_model.proofs.EpochLaws.{live_by_rows, live_kept, some_of_epoch}
use Rattle.sq_model.proofs.HeldLaws.{asked_is, step_held}
use Rattle.sq_model.proofs.PendingLaws.{says_by_row, step_waits}
use Rattle.sq_model.proofs.StepLaws.{class_stepped}
use Rattle.sq_model.specs.Answers.{step_answer, step_of_held}
use Rattle.sq_model.specs.Changes.{after_step_of}
use Rattle.sq_model.specs.Says.{says_class_in, says_in, says_place_in, says_value_in, value_in}
use Rattle.sq_model.specs.States.{Stands, State}
use Rattle.sq_model.proofs.EndStands.{LeavesProcs, homes_stay, kept_there, leaves_procs, part_changed, stops_stay}
use Rattle.sq_model.proofs.Lawful.{Lawful, class_live, config_live, held_is, row_live}

-- what is found is among them
found_among : (test other : Held → Bool) (checks : List Held) (h : Held) → find test checks ≡ Some h → other h ≡ true
    → list_any other checks ≡ true
found_among test other [] h found is = absurd (none-some h found)
found_among test other (x ∷ checks) h found is = by (test x) (found_among test other checks h) found
  where
    by : (b : Bool) → (find test checks ≡ Some h → other h ≡ true → list_any other checks ≡ true)
        → cond b (Some x) (find test checks) ≡ Some h
        → (other x || list_any other checks) ≡ true
    by true more e = ap (λ (b : Bool). b || list_any other checks) (ap other (same_Some _ _ e) ∙ is)
    by false more e = or_right (other x) (list_any other checks) (more e is)

-- the epoch of an open check lives
pub asked_live : (configs : List Configuration) (m : Past) (n : ℕ) → check_open (entries m) n ≡ true
    → is_live (entries m) (held_of configs m n).asked.epoch ≡ true
asked_live configs m n opened =
    live_by_rows configs m e
    ∙ or_right (e == current (entries m)) (some_of_epoch e (held_checks configs m))
    (found_among (λ (h : Held). n == h.number) (λ (h : Held). h.asked.epoch == e) (held_checks configs m)
    (held_of configs m n)
    (held_found configs m n ∙ ap (λ (b : Bool). if b then Some (held_of configs m n) else None) opened) (itself e))
  where
    e : ℕ
    e = (held_of configs m n).asked.epoch

-- a check that is found is open, and is as the history says
pub record IsHeldOf (configs : List Configuration) (m : Past) (n : ℕ) (h : Held) : Type 0 where
  pub opened : check_open (entries m) n ≡ true
  pub is : h ≡ held_of configs m n

-- so it is of what the state has
pub found_held : (configs : List Configuration) (m : Past) (s : State) (n : ℕ) (h : Held) → Stands configs m s
    → held_at n s.checks ≡ Some h → IsHeldOf configs m n h
found_held configs m s n h st found = by (check_open (entries m) n) refl (sym (held_is configs m s n st) ∙ found)
  where
    by : (b : Bool) → check_open (entries m) n ≡ b → (if b then Some (held_of configs m n) else None) ≡ Some h
        → IsHeldOf configs m n h
    by true opened e = record { opened = opened; is = sym (same_Some _ _ e) }
    by false opened e = absurd (none-some h e)

-- what a step of an open check says, by the state, is what the rule says
pub says_is : (configs : List Configuration) (m : Past) (s : State) (now n : ℕ) → Lawful configs m → Stands configs m s
    → check_open (entries m) n ≡ true
    → says_in s now (held_of configs m n) ≡ step_says configs m n now
says_is configs m s now n law st opened =
    ap (says_value_in s now e) value_is ∙ by_value (value_over configs h.asked h.answers)
    ∙ sym (step_held configs m n now opened)
  where
    h : Held
    h = held_of configs m n

    e : ℕ
    e = h.asked.epoch

    live : is_live (entries m) e ≡ true
    live = asked_live configs m n opened

    value_is : value_in s h ≡ value_over configs h.asked h.answers
    value_is =
        ap (λ (o : Option Configuration). option_map_or (λ config. verdict_over h.answers config h.asked.sight) o
        (value.Verdict (record { allow = false; why = why.Empty })))
        (config_live configs m s e st live)

    by_class : (c : ℕ) (key : List ℕ) (o : Option Class)
        → says_class_in s now e c key o (option_map (class_row configs m e c) o) ≡ says_of_class configs m e c key now o
    by_class c key None = refl
    by_class c key (Some class) =
        ap (λ (count : ℕ). says_of_row class e c key now count (class_row configs m e c class)) st.puts_are
        ∙ sym (says_by_row configs m e c key now class law.one_open)

    by_place : (key : List ℕ) (o : Option ℕ) → says_place_in s now e key o ≡ says_at_place configs m e key now o
    by_place key None = refl
    by_place key (Some c) =
        ap₂ (says_class_in s now e c key) (class_live configs m s e c st live) (row_live configs m s e c st live)
        ∙ by_class c key (class_at configs e c)

    by_value : (v : Value) → says_value_in s now e v ≡ says_value configs m e now v
    by_value (value.Verdict o) = refl
    by_value (value.Need acl key) =
        ap (λ (o : Option Configuration). says_place_in s now e key
        (option_and_then (λ config. class_of_acl config.acls acl) o)) (config_live configs m s e st live)
        ∙ by_place key (option_and_then (λ config. class_of_acl config.acls acl) (config_of configs e))

-- what is answered to a step
pub step_next_is : (configs : List Configuration) (m : Past) (s : State) (now n : ℕ) → Lawful configs m
    → Stands configs m s → next_at configs m now (Step n) ≡ step_answer s n now
unfolding next_at
step_next_is configs m s now n law st = by (check_open (entries m) n) refl
    ∙ sym (ap (step_of_held s n now) (held_is configs m s n st))
  where
    by : (b : Bool) → check_open (entries m) n ≡ b
        → refuse_if (not b) (refusal.UnknownCheck n) (step_next (put_count m) (step_says configs m n now))
        ≡ step_of_held s n now (if b then Some (held_of configs m n) else None)
    by true opened = sym (ap₂ step_next st.puts_are (says_is configs m s now n law st opened))
    by false opened = refl

-- a step of an open check, whatever it says, where what it tells to wait for has not ended
stepped_stands : (configs : List Configuration) (m : Past) (s : State) (now n : ℕ) (says : StepSays)
    → Stands configs m s → check_open (entries m) n ≡ true
    → unended configs m (waits_told says.answer) ≡ waits_told says.answer
    → Stands configs (stepped_at now n says ∷ m) (after_step_of n (held_of configs m n).asked.epoch says now s)
stepped_stands configs m s now n says st opened waits =
    record {
      clients_are = λ c. st.clients_are c ∙ sym (peer_at_more x.entry (entries m) c);
      conns_are = st.conns_are ∙ sym (open_count_quiet x.entry (entries m) refl);
      from_are = λ a. st.from_are a ∙ sym (conns_of_quiet x.entry (entries m) a refl);
      checks_are = ap (after_step n says) st.checks_are ∙ sym checks;
      asks_are = st.asks_are ∙ sym (ask_count_more x.entry (entries m));
      puts_are = ap (λ (count : ℕ). if is_some says.put then suc count else count) st.puts_are;
      current_is = st.current_is;
      configs_are = λ f. kept_there (is_live (entries m) f) (is_live (entries (x ∷ m)) f) (config_of configs f)
          (s.config f) (st.configs_are f) (live f);
      rows_are = λ f c. ap (option_map (after_said (e == f) f c s.puts says)) (st.rows_are f c)
          ∙ mapped f c (is_live (entries m) f) (class_part configs m f c)
          ∙ ap₂ (λ (b : Bool) (o : Option ClassRow). if b then o else None) (sym (live f))
          (sym (part_changed configs m (x ∷ m) f c (after_said (e == f) f c s.puts says) (λ class at. row f c class)));
      procs_are = st.procs_are;
      homes_are = λ k. st.homes_are k ∙ sym (homes_stay configs (entries m) (entries (x ∷ m)) k procs live);
      stops_are = λ k. st.stops_are k ∙ sym (stops_stay (entries m) (entries (x ∷ m)) k procs live);
      latest_is = refl;
      offset_is = st.offset_is ∙ sym (offset_of_more x.entry (entries m));
    }
  where
    x : Marked
    x = stepped_at now n says

    e : ℕ
    e = (held_of configs m n).asked.epoch

    g : Held → Held
    g h = if n == h.number then stepped says h else h

    same : (h : Held) → (g h).asked ≡ h.asked
    same h = by (n == h.number)
      where
        by : (b : Bool) → (if b then stepped says h else h).asked ≡ h.asked
        by true = refl
        by false = refl

    checks : held_checks configs (x ∷ m) ≡ after_step n says (held_checks configs m)
    checks = held_stepped configs m now n says waits

    procs : LeavesProcs (entries m) (entries (x ∷ m))
    procs = leaves_procs now (Step n) says.answer (entries m)
        (record { starts_none = refl; ends_none = λ k. refl; stops_none = λ k. refl })

    live : (f : ℕ) → is_live (entries (x ∷ m)) f ≡ is_live (entries m) f
    live f = live_kept configs m x f g same refl checks

    mapped : (f c : ℕ) (b : Bool) (o : Option ClassRow)
        → option_map (after_said (e == f) f c s.puts says) (if b then o else None)
        ≡ (if b then option_map (after_said (e == f) f c s.puts says) o else None)
    mapped f c true o = refl
    mapped f c false o = refl

    row : (f c : ℕ) (class : Class)
        → class_row configs (x ∷ m) f c class ≡ after_said (e == f) f c s.puts says (class_row configs m f c class)
    row f c class =
        class_stepped configs m now n says f c class
        ∙ ap₂ (λ (o : Option Asked) (count : ℕ). after_said (option_map_or (λ a. a.epoch == f) o false) f c count says
        (class_row configs m f c class)) (asked_is configs m n opened) (sym st.puts_are)

-- a step of an open check, as it says by the state
pub step_stands : (configs : List Configuration) (m : Past) (s : State) (now n : ℕ) (h : Held) → Lawful configs m
    → Stands configs m s → held_at n s.checks ≡ Some h
    → Stands configs (stepped_at now n (says_in s now h) ∷ m) (after_step_of n h.asked.epoch (says_in s now h) now s)
step_stands configs m s now n h law st found =
    let f = found_held configs m s n h st found in
    subst (λ (z : Held). Stands configs (stepped_at now n (says_in s now z) ∷ m)
    (after_step_of n z.asked.epoch (says_in s now z) now s)) (sym f.is)
    (stepped_stands configs m s now n (says_in s now (held_of configs m n)) st f.opened
    (subst (λ (v : StepSays). unended configs m (waits_told v.answer) ≡ waits_told v.answer)
    (sym (says_is configs m s now n law st f.opened)) (step_waits configs m n now).waits_open))

-- and its entry is the marked one
pub step_mark : (configs : List Configuration) (m : Past) (s : State) (now n : ℕ) (h : Held) → Lawful configs m
    → Stands configs m s → held_at n s.checks ≡ Some h
    → mark configs m (record { moment = now; event = Step n; answer = (says_in s now h).answer })
    ≡ stepped_at now n (says_in s now h)
step_mark configs m s now n h law st found =
    let f = found_held configs m s n h st found in
    ap (λ (v : StepSays). record {
      entry = record { moment = now; event = Step n; answer = (says_in s now h).answer };
      put = v.put;
      took = v.took;
    })
    (sym (ap (says_in s now) f.is ∙ says_is configs m s now n law st f.opened))

-- so the state stands for the history with that entry
pub step_marked : (configs : List Configuration) (m : Past) (s : State) (now n : ℕ) (h : Held) → Lawful configs m
    → Stands configs m s → held_at n s.checks ≡ Some h
    → Stands configs (mark configs m (record { moment = now; event = Step n; answer = (says_in s now h).answer }) ∷ m)
    (after_step_of n h.asked.epoch (says_in s now h) now s)
step_marked configs m s now n h law st found =
    subst (λ (x : Marked). Stands configs (x ∷ m) (after_step_of n h.asked.epoch (says_in s now h) now s))
    (sym (step_mark configs m s now n h law st found))
    (step_stands configs m s now n h law st found)
