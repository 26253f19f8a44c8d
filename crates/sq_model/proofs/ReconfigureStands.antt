-- A state after a reconfiguration.
use Rattle.std.proofs.Common.{◌≡◌, ℕ, suc, List, [], ◌∷◌, length, slice_get, position, Bool, true, false, ◌&&◌, ◌||◌, ◌==◌, nat_le, bytes_eq, if◌then◌else◌, Option, Some, None, is_some, option_and_then, refl, sym, ap, ap₂, ◌∙◌, arith}
use Rattle.std.specs.Option.{option_map, option_map_or}
use Rattle.std.proofs.lemmas.List.Quantifiers.{position-Some}
use Rattle.std.proofs.lemmas.Option.{slice_get-get_or}
use Rattle.sq_base.proofs.CommonLaws.{then_some}
use Rattle.sq_machine.specs.declared.entries.Event.TheVariants.{Reconfigure}
use Rattle.sq_machine.specs.declared.entries.Told.{Told}
use Rattle.sq_machine.specs.declared.entries.Told.TheVariants as told
use Rattle.sq_machine.specs.declared.refusals.Refusal.TheVariants as refusal
use Rattle.sq_rules.specs.Classes.{Class}
use Rattle.sq_rules.specs.Configurations.{Configuration}
use Rattle.sq_machine.specs.DueActs.{ClassId}
use Rattle.sq_machine.specs.Epochs.{busy_epochs, class_at, has_open_check, is_live, config_of}
use Rattle.sq_machine.specs.Machine.{next_at}
use Rattle.sq_rules.specs.AlikeClasses.{is_alike}
use Rattle.sq_machine.specs.KeptLists.{CachedReplies}
use Rattle.sq_machine.specs.KeptReadings.{alike_place, kept}
use Rattle.sq_machine.specs.Limits.{epoch_limit, last_number}
use Rattle.sq_machine.specs.Next.{gives, refuse_if}
use Rattle.sq_machine.specs.Marks.{Marked, Past, entries}
use Rattle.sq_machine.specs.Numbered.{picks}
use Rattle.sq_machine.specs.Processes.{Home, home_of, is_at_home}
use Rattle.sq_machine.specs.Readings.{current}
use Rattle.sq_model.specs.CheckRows.{Held, held_checks}
use Rattle.sq_model.specs.ClassRows.{ClassRow, class_part, class_row, new_row}
use Rattle.sq_model.specs.MarkedEntries.{noted_at}
use Rattle.sq_model.proofs.CheckLaws.{held_same}
use Rattle.sq_model.proofs.ClassParts.{bytes_itself, equal, itself}
use Rattle.sq_model.proofs.EpochLaws.{busy_by_rows, live_by_rows, live_reconfigured, some_of_epoch}
use Rattle.sq_model.proofs.ReconfigureLaws.{class_begun, class_left, class_not_reconfigured}
use Rattle.sq_model.specs.Answers.{busy_in, reconfigure_answer}
use Rattle.sq_model.specs.Changes.{after_reconfigured, alike_in, begun_row, if_live, is_over, kept_in, left_class}
use Rattle.sq_model.specs.Says.{class_in}
use Rattle.sq_model.specs.States.{State, Stands, lives_with}
use Rattle.sq_model.proofs.EndStands.{LeavesProcs, NoneBack, homes_end, leaves_procs, left_there, part_kept, stops_end}
use Rattle.sq_model.proofs.InsideStands.{stands_inside}
use Rattle.sq_model.proofs.Lawful.{Lawful, class_live, config_live, row_live}

-- how many epochs have an open check, by the state
busy_is : (configs : List Configuration) (m : Past) (s : State) → Stands configs m s
    → busy_in s ≡ busy_epochs (entries m)
busy_is configs m s st =
    ap₂ (λ (checks : List Held) (n : ℕ). length (picks (λ e. some_of_epoch e checks) n)) st.checks_are st.current_is
    ∙ sym (busy_by_rows configs m)

-- what is answered to a reconfiguration
pub reconfigure_next : (configs : List Configuration) (m : Past) (s : State) (now : ℕ) (text : List ℕ)
    → Stands configs m s
    → next_at configs m now (Reconfigure text) ≡ reconfigure_answer s
unfolding next_at
reconfigure_next configs m s now text st =
    ap₂ (λ (n busy : ℕ). refuse_if (nat_le last_number (suc n)) (refusal.Spent (suc n))
    (refuse_if (nat_le epoch_limit busy) (refusal.TooManyEpochs epoch_limit) (gives (told.Epoch (suc n)))))
    (sym st.current_is) (sym (busy_is configs m s st))

-- the current epoch lives
current_lives : (m : Past) → is_live (entries m) (current (entries m)) ≡ true
current_lives m = ap (λ (b : Bool). b || has_open_check (entries m) (current (entries m)))
    (itself (current (entries m)))

-- what is kept of the class of the current epoch that is alike, by the state
alike_kept : (configs : List Configuration) (m : Past) (s : State) (class : Class) → Stands configs m s
    → option_map_or (kept_in s s.current) (alike_in (s.config s.current) class) []
    ≡ option_map_or (kept configs m (current (entries m))) (alike_place configs (current (entries m)) (Some class)) []
alike_kept configs m s class st =
    ap (λ (n : ℕ). option_map_or (kept_in s n) (alike_in (s.config n) class) []) st.current_is
    ∙ ap (λ (o : Option Configuration). option_map_or (kept_in s e) (alike_in o class) [])
    (config_live configs m s e st (current_lives m))
    ∙ by (alike_in (config_of configs e) class) refl
  where
    e : ℕ
    e = current (entries m)

    by : (o : Option ℕ) → alike_in (config_of configs e) class ≡ o
        → option_map_or (kept_in s e) o [] ≡ option_map_or (kept configs m e) o []
    by None is = refl
    by (Some d) is =
        let c = then_some (λ (x : Configuration). position (λ other. is_alike other class) x.classes)
        (config_of configs e) d is in
        let l = position-Some (λ (other : Class). is_alike other class) c.0.classes d class c.2 in
        ap (λ (o : Option ClassRow). option_map_or (λ r. r.kept) o []) (row_live configs m s e d st (current_lives m))
        ∙ ap (λ (o : Option Configuration). option_map_or (λ (r : ClassRow). r.kept)
        (option_map (class_row configs m e d) (option_and_then (λ x. slice_get x.classes d) o)) []) c.1
        ∙ ap (λ (o : Option Class). option_map_or (λ (r : ClassRow). r.kept) (option_map (class_row configs m e d) o)
        []) (slice_get-get_or c.0.classes d class l.0)

-- another configuration is current
pub reconfigure_stands : (configs : List Configuration) (m : Past) (s : State) (now : ℕ) (text : List ℕ) (answer : Told)
    (config : Configuration) → Lawful configs m → Stands configs m s
    → config_of configs (suc (current (entries m))) ≡ Some config
    → Stands configs (noted_at now (Reconfigure text) answer ∷ m) (after_reconfigured config now s)
reconfigure_stands configs m s now text answer config law st next =
    stands_inside configs m s now (Reconfigure text) answer (after_reconfigured config now s)
    (record { news_none = refl; asks_none = refl; begins_none = refl; counts = refl }) st
    (record {
      checks_are = st.checks_are ∙ sym held;
      current_is = ap suc st.current_is;
      configs_are = λ e.
          left_there (live e) (before e) (is_live (entries after) e) (config_of configs e)
          (if e == suc s.current then Some config else s.config e)
          (config_is e (e == suc s.current) refl) (same e) (lived e);
      rows_are = λ e c.
          left_there (live e) (before e) (is_live (entries after) e) (class_part configs after e c)
          (if e == suc s.current then option_map (begun_row s) (slice_get config.classes c)
          else (if e == s.current then left_class config (class_in s e c) (s.row e c) else s.row e c))
          (row_is e c (e == suc s.current) (e == s.current) refl refl) (same e) (lived e);
      procs_are = st.procs_are;
      homes_are = λ k. ap (if_live live) (st.homes_are k)
          ∙ homes_end configs (entries m) (entries after) k live procs back same;
      stops_are = λ k.
          ap₂ (λ (b : Bool) (o : Option ClassId). b || is_over live o) (st.stops_are k) (st.homes_are k)
          ∙ stops_end configs m (entries after) k live law.once law.carried law.stops procs back same;
    })
  where
    x : Marked
    x = noted_at now (Reconfigure text) answer

    after : Past
    after = x ∷ m

    old : ℕ
    old = current (entries m)

    live : ℕ → Bool
    live = lives_with (suc s.current) s.checks

    -- an epoch that may live then: the new one, and each that lived
    before : ℕ → Bool
    before e = e == suc s.current || is_live (entries m) e

    held : held_checks configs after ≡ held_checks configs m
    held = held_same configs m x (record { asks_none = refl; steps_none = refl; takes_none = refl; closes_none = refl })
        (λ q. refl)

    same : (e : ℕ) → live e ≡ is_live (entries after) e
    same e = ap₂ (λ (n : ℕ) (checks : List Held). lives_with n checks e) (ap suc st.current_is)
        (st.checks_are ∙ sym held) ∙ sym (live_by_rows configs after e)

    next_is : (e : ℕ) → (e == suc s.current) ≡ (e == suc old)
    next_is e = ap (λ (n : ℕ). e == suc n) st.current_is

    old_is : (e : ℕ) → (e == s.current) ≡ (e == old)
    old_is e = ap (λ (n : ℕ). e == n) st.current_is

    lived : (e : ℕ) → is_live (entries after) e ≡ true → before e ≡ true
    lived e t = ap (λ (b : Bool). b || is_live (entries m) e) (next_is e)
        ∙ by (e == suc old) (e == old) (has_open_check (entries m) e) (sym (live_reconfigured m now text answer e) ∙ t)
      where
        by : (a b o : Bool) → (a || o) ≡ true → (a || (b || o)) ≡ true
        by true b o t = refl
        by false true o t = refl
        by false false o t = t

    config_is : (e : ℕ) (b : Bool) → (e == suc s.current) ≡ b
        → (if b then Some config else s.config e) ≡ (if b || is_live (entries m) e then config_of configs e else None)
    config_is e true is = sym (ap (config_of configs) (equal e (suc old) (sym (next_is e) ∙ is)) ∙ next)
    config_is e false is = st.configs_are e

    class_next : (c : ℕ) → class_at configs (suc old) c ≡ slice_get config.classes c
    class_next c = ap (option_and_then (λ (k : Configuration). slice_get k.classes c)) next

    begun : (c : ℕ) (o : Option Class) → slice_get config.classes c ≡ o
        → option_map (begun_row s) o ≡ option_map (class_row configs after (suc old) c) o
    begun c None is = refl
    begun c (Some class) is =
        ap (λ (k : CachedReplies). Some (new_row k class))
        (alike_kept configs m s class st
        ∙ ap (λ (o : Option Class). option_map_or (kept configs m old) (alike_place configs old o) [])
        (sym (class_next c ∙ is)))
        ∙ ap (λ (r : ClassRow). Some r)
        (sym (class_begun configs m now text answer c class (law.carried.later_unused (suc old) (omega arith))))

    left_by : (c : ℕ) (o : Option Class) → class_at configs old c ≡ o
        → left_class config o (option_map (class_row configs m old c) o) ≡ option_map (class_row configs after old c) o
    left_by c None is = refl
    left_by c (Some class) is =
        ap (λ (o : Option Configuration). Some
        (if is_some (alike_in o class) then record (class_row configs m old c class) { kept = [] }
        else class_row configs m old c class)) (sym next)
        ∙ ap (λ (o : Option Class). Some
        (if is_some (alike_place configs (suc old) o) then record (class_row configs m old c class) { kept = [] }
        else class_row configs m old c class)) (sym is)
        ∙ ap (λ (r : ClassRow). Some r) (sym (class_left configs m now text answer c class))

    left : (c : ℕ) → left_class config (class_in s old c) (s.row old c) ≡ class_part configs after old c
    left c =
        ap₂ (left_class config) (class_live configs m s old c st (current_lives m))
        (row_live configs m s old c st (current_lives m))
        ∙ left_by c (class_at configs old c) refl

    row_is : (e c : ℕ) (a b : Bool) → (e == suc s.current) ≡ a → (e == s.current) ≡ b
        → (if a then option_map (begun_row s) (slice_get config.classes c)
        else (if b then left_class config (class_in s e c) (s.row e c) else s.row e c))
        ≡ (if a || is_live (entries m) e then class_part configs after e c else None)
    row_is e c true b new current =
        begun c (slice_get config.classes c) refl
        ∙ ap (option_map (class_row configs after (suc old) c)) (sym (class_next c))
        ∙ ap (λ (i : ℕ). class_part configs after i c) (sym (equal e (suc old) (sym (next_is e) ∙ new)))
    row_is e c false true new current =
        let here : e ≡ old = equal e old (sym (old_is e) ∙ current) in
        ap (λ (i : ℕ). left_class config (class_in s i c) (s.row i c)) here ∙ left c
        ∙ sym (ap (λ (i : ℕ). if is_live (entries m) i then class_part configs after i c else None) here
        ∙ ap (λ (b : Bool). if b then class_part configs after old c else None) (current_lives m))
    row_is e c false false new current =
        st.rows_are e c
        ∙ ap (λ (o : Option ClassRow). if is_live (entries m) e then o else None)
        (sym (part_kept configs m after e c
        (λ class at. class_not_reconfigured configs m now text answer e c class (sym (next_is e) ∙ new)
        (sym (old_is e) ∙ current))))

    procs : LeavesProcs (entries m) (entries after)
    procs = leaves_procs now (Reconfigure text) answer (entries m)
        (record { starts_none = refl; ends_none = λ k. refl; stops_none = λ k. refl })

    -- no process is of the new epoch
    none_new : (k : ℕ) (p : Home) → home_of (entries m) k ≡ Some p → (p.epoch == suc old) ≡ true → ⊥
    none_new k p is t =
        let none : is_at_home (entries m) (suc old) p.class k ≡ false =
        (law.carried.later_unused (suc old) (omega arith)).none_home p.class k in
        let some : is_at_home (entries m) (suc old) p.class k ≡ true =
        ap (λ (o : Option Home). option_map_or (λ z. (z.epoch == suc old) && bytes_eq z.class p.class) o false) is
        ∙ ap₂ (λ (a b : Bool). a && b) t (bytes_itself p.class) in
        let no : false ≡ true = sym none ∙ some in
        cc

    back : NoneBack (entries m) (entries after)
    back k p is t = by (p.epoch == suc old) refl (sym (live_reconfigured m now text answer p.epoch) ∙ t)
      where
        or_true : (b : Bool) → (b || true) ≡ true
        or_true true = refl
        or_true false = refl

        by : (b : Bool) → (p.epoch == suc old) ≡ b → (b || has_open_check (entries m) p.epoch) ≡ true
            → is_live (entries m) p.epoch ≡ true
        by true new t = absurd (none_new k p is new)
        by false other t = ap (λ (b : Bool). p.epoch == old || b) t ∙ or_true (p.epoch == old)
