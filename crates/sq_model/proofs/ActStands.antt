-- A state after an act: a stop, a send, a start.
use Rattle.std.proofs.Common.{◌≡◌, ℕ, ◌<◌, ◌≤◌, List, [], ◌∷◌, Bool, true, false, not, ◌&&◌, ◌||◌, ◌==◌, nat_le, if◌then◌else◌, Option, Some, None, is_some, refl, sym, ap, ap₂, subst, ◌∙◌, arith}
use Rattle.std.specs.List.{list_any}
use Rattle.std.proofs.lemmas.Bool.{and_parts}
use Rattle.std.proofs.lemmas.Bool.Decides.{nat_tests}
use Rattle.std.proofs.lemmas.Option.{none-some, same_Some}
use Rattle.sq_base.proofs.CommonLaws.{map_some}
use Rattle.sq_machine.specs.declared.entries.Event.TheVariants.{Act}
use Rattle.sq_machine.specs.declared.entries.Told.{Told}
use Rattle.sq_machine.specs.declared.entries.Told.TheVariants as told
use Rattle.sq_machine.specs.Channels.{channel_name, least_free}
use Rattle.sq_rules.specs.Classes.{Class}
use Rattle.sq_rules.specs.Configurations.{Configuration}
use Rattle.sq_machine.specs.DueActs.{ClassId, sending_told, sends, starts}
use Rattle.sq_machine.specs.Entries.{History}
use Rattle.sq_machine.specs.Epochs.{class_at, is_live, config_of}
use Rattle.sq_machine.specs.FarmReadings.{farm_with, is_put_for, is_queued, living_of, waiting_of}
use Rattle.sq_machine.specs.Farms.{Sending, Stock, Waiting, send_of, start_due}
use Rattle.sq_machine.specs.Living.{Living, has_free, target}
use Rattle.sq_machine.specs.Marks.{Past, entries}
use Rattle.sq_machine.specs.Processes.{Home, home_of, is_at_home, is_running, is_stopped, proc_count, proc_end, runs_at, stop_due, stop_told}
use Rattle.sq_machine.specs.Questions.{has_ended, put_count, put_of, sent_to}
use Rattle.sq_model.specs.CheckRows.{held_checks}
use Rattle.sq_model.specs.ClassRows.{ClassRow, after_sending, after_starting, class_part, class_row}
use Rattle.sq_model.specs.MarkedEntries.{noted_at}
use Rattle.sq_model.proofs.CheckLaws.{held_same}
use Rattle.sq_model.proofs.ClassParts.{itself}
use Rattle.sq_model.proofs.ElsewhereLaws.{away_from, put_once}
use Rattle.sq_model.proofs.NumberLaws.{home_above}
use Rattle.sq_model.proofs.ProcessLaws.{due_by, due_stopped, lives_like}
use Rattle.sq_model.proofs.RowLaws.{picked, row_among}
use Rattle.sq_model.proofs.SendLaws.{SendIs, class_not_sending, class_sending, send_is}
use Rattle.sq_model.proofs.StartLaws.{class_not_starting, class_starting}
use Rattle.sq_model.proofs.StepLaws.{class_stopped}
use Rattle.sq_model.specs.Acts.{due_in}
use Rattle.sq_model.specs.Answers.{name_in}
use Rattle.sq_model.specs.Changes.{after_send_at, after_start_at, after_stop_of, at, change_row, is_at}
use Rattle.sq_model.specs.States.{State, Stands, place_of}
use Rattle.sq_model.proofs.ActNext.{IsSendIn, IsStartIn, due_send_is, due_start_is, name_is}
use Rattle.sq_model.proofs.EndStands.{homes_stay, kept_there, leaves_procs, live_still, part_kept, stops_stay}
use Rattle.sq_model.proofs.InsideStands.{IsInside, other_name, other_place, rows_at, stands_inside}
use Rattle.sq_model.proofs.Lawful.{Lawful}

act_inside : IsInside Act
act_inside = record { news_none = refl; asks_none = refl; begins_none = refl; counts = refl }

-- an act leaves the open checks
act_held : (configs : List Configuration) (m : Past) (now : ℕ) (answer : Told)
    → held_checks configs (noted_at now Act answer ∷ m) ≡ held_checks configs m
act_held configs m now answer =
    held_same configs m (noted_at now Act answer)
    (record { asks_none = refl; steps_none = refl; takes_none = refl; closes_none = refl }) (λ q. refl)

-- and which epochs live
act_live : (configs : List Configuration) (m : Past) (now : ℕ) (answer : Told) (e : ℕ)
    → is_live (entries (noted_at now Act answer ∷ m)) e ≡ is_live (entries m) e
act_live configs m now answer e = live_still configs m (noted_at now Act answer ∷ m) e refl
    (act_held configs m now answer)

above : (a b : ℕ) → nat_le a b ≡ false → b < a
above a b t = grind (arith, nat_tests)

within : (a b : ℕ) → nat_le a b ≡ true → a ≤ b
within a b t = grind (arith, nat_tests)

-- no stop is due of a process that was not started
pub due_above : (h : History) (k : ℕ) → proc_count h < k → stop_due h k ≡ false
due_above h k l = ap (λ (o : Option Home). due_by o (is_stopped h k) (proc_end h k) (is_live h)) (home_above h k l)

-- a process was told to stop
pub stop_stands : (configs : List Configuration) (m : Past) (s : State) (now k : ℕ) → Stands configs m s
    → Stands configs (noted_at now Act (told.Stop k) ∷ m) (after_stop_of k now s)
stop_stands configs m s now k st =
    stands_inside configs m s now Act (told.Stop k) (after_stop_of k now s) act_inside st
    (record {
      checks_are = st.checks_are ∙ sym (act_held configs m now (told.Stop k));
      current_is = st.current_is;
      configs_are = λ e. kept_there (is_live (entries m) e) (is_live (entries after) e) (config_of configs e)
          (s.config e) (st.configs_are e) (live e);
      rows_are = λ e c.
          st.rows_are e c
          ∙ ap₂ (λ (b : Bool) (o : Option ClassRow). if b then o else None) (sym (live e))
          (sym (part_kept configs m after e c (λ class at. class_stopped configs m now (told.Stop k) e c class refl)));
      procs_are = st.procs_are;
      homes_are = λ j.
          st.homes_are j
          ∙ ap (λ (b : Bool). if b then place_of configs (entries m) j else None)
          (sym (lives_like (home_of (entries m) j) (proc_end (entries m) j) (is_live (entries after))
          (is_live (entries m)) live));
      stops_are = λ j. ap (λ (b : Bool). b && not (k == j)) (st.stops_are j)
          ∙ due j (nat_le j (proc_count (entries m))) refl;
    })
  where
    after : Past
    after = noted_at now Act (told.Stop k) ∷ m

    live : (e : ℕ) → is_live (entries after) e ≡ is_live (entries m) e
    live e = act_live configs m now (told.Stop k) e

    due : (j : ℕ) (b : Bool) → nat_le j (proc_count (entries m)) ≡ b
        → (stop_due (entries m) j && not (k == j)) ≡ stop_due (entries after) j
    due j true t = sym (due_stopped m now k j (within j (proc_count (entries m)) t) live)
    due j false t = ap (λ (b : Bool). b && not (k == j)) (due_above (entries m) j (above j (proc_count (entries m)) t))
        ∙ sym (due_above (entries after) j (above j (proc_count (entries m)) t))

-- an act of the farm of the class at one place
farm_stands : (configs : List Configuration) (m : Past) (s : State) (now : ℕ) (answer : Told) (p : ClassId)
    (f : ClassRow → ClassRow) → Stands configs m s
    → ((k : ℕ) → stop_told k answer ≡ false)
    → ((class : Class) → class_at configs p.epoch p.class ≡ Some class
    → class_row configs (noted_at now Act answer ∷ m) p.epoch p.class class
    ≡ f (class_row configs m p.epoch p.class class))
    → ((e c : ℕ) (class : Class) → is_at p e c ≡ false → class_at configs e c ≡ Some class
    → class_row configs (noted_at now Act answer ∷ m) e c class ≡ class_row configs m e c class)
    → Stands configs (noted_at now Act answer ∷ m) (at now (change_row p f s))
farm_stands configs m s now answer p f st none here others =
    stands_inside configs m s now Act answer (at now (change_row p f s)) act_inside st
    (record {
      checks_are = st.checks_are ∙ sym (act_held configs m now answer);
      current_is = st.current_is;
      configs_are = λ e. kept_there (is_live (entries m) e) (is_live (entries after) e) (config_of configs e)
          (s.config e) (st.configs_are e) (live e);
      rows_are = rows_at configs m s (noted_at now Act answer) p f st live here others;
      procs_are = st.procs_are;
      homes_are = λ k.
          st.homes_are k
          ∙ sym (homes_stay configs (entries m) (entries after) k
          (leaves_procs now Act answer (entries m)
          (record { starts_none = refl; ends_none = λ k. refl; stops_none = none })) live);
      stops_are = λ k.
          st.stops_are k ∙ sym (stops_stay (entries m) (entries after) k
          (leaves_procs now Act answer (entries m)
          (record { starts_none = refl; ends_none = λ k. refl; stops_none = none })) live);
    })
  where
    after : Past
    after = noted_at now Act answer ∷ m

    live : (e : ℕ) → is_live (entries after) e ≡ is_live (entries m) e
    live e = act_live configs m now answer e

-- the class of a row: its epoch lives
pub record IsClassRow (configs : List Configuration) (m : Past) (e c : ℕ) (row : ClassRow) : Type 0 where
  pub lives : is_live (entries m) e ≡ true
  pub class : Class
  pub class_is : class_at configs e c ≡ Some class
  pub row_is : row ≡ class_row configs m e c class

-- each row of a state is one
pub is_class_row : (configs : List Configuration) (m : Past) (s : State) (e c : ℕ) (row : ClassRow) → Stands configs m s
    → s.row e c ≡ Some row → IsClassRow configs m e c row
is_class_row configs m s e c row st is = by (is_live (entries m) e) refl (sym (st.rows_are e c) ∙ is)
  where
    by : (b : Bool) → is_live (entries m) e ≡ b → (if b then class_part configs m e c else None) ≡ Some row
        → IsClassRow configs m e c row
    by true lives e1 = let k = map_some (class_row configs m e c) (class_at configs e c) row e1 in
        record { lives = lives; class = k.0; class_is = k.1; row_is = k.2 }
    by false lives e1 = absurd (none-some row e1)

-- the question of a send that is due waits in the queue of its class
waits_here : (configs : List Configuration) (m : Past) (e c : ℕ) (class : Class) (x : Sending)
    → send_of (farm_with configs m e c class) ≡ Some x → is_put_for e c (put_of m x.question) ≡ true
waits_here configs m e c class x due =
    (and_parts (is_put_for e c (put_of m x.question)) (not (is_some (sent_to m x.question)))
    (and_parts (is_put_for e c (put_of m x.question) && not (is_some (sent_to m x.question)))
    (not (has_ended configs m x.question)) queued).0).0
  where
    farm : Stock
    farm = farm_with configs m e c class

    i : SendIs farm.queue (target farm.procs) x.proc x.question x.channel
    i = send_is farm.queue (target farm.procs) x.proc x.question x.channel x.text due

    among : list_any (λ (w : Waiting). x.question == w.question) farm.queue ≡ true
    among =
        ap (list_any (λ (w : Waiting). x.question == w.question)) i.queue_is
        ∙ ap (λ (b : Bool). b || list_any (λ (w : Waiting). x.question == w.question) i.rest)
        (ap (λ (n : ℕ). x.question == n) i.question_is ∙ itself x.question)

    found : picked (is_queued configs m e c) (put_count m) x.question ≡ true
    found =
        sym (row_among (λ (w : Waiting). x.question == w.question) (waiting_of m) (is_queued configs m e c)
        (put_count m) x.question (λ k a b t. refl)) ∙ among

    queued : is_queued configs m e c x.question ≡ true
    queued = (and_parts (nat_le 1 x.question && nat_le x.question (put_count m)) (is_queued configs m e c x.question)
        found).1

-- the process that is the target is one of the class
target_among : (rows : List Living) (k : ℕ) (channel : Option ℕ) → target rows ≡ Some (k, channel)
    → list_any (λ (r : Living). k == r.number) rows ≡ true
target_among [] k channel e = absurd (none-some (k, channel) e)
target_among (r ∷ rows) k channel e = by (has_free r) (target_among rows k channel) e
  where
    or_true : (b : Bool) → (b || true) ≡ true
    or_true true = refl
    or_true false = refl

    by : (b : Bool) → (target rows ≡ Some (k, channel) → list_any (λ (r : Living). k == r.number) rows ≡ true)
        → (if b then Some (r.number, channel_name r.process.numbered (least_free r.process.slots)) else target rows)
        ≡ Some (k, channel)
        → ((k == r.number) || list_any (λ (r : Living). k == r.number) rows) ≡ true
    by true more e =
        let same : r.number ≡ k = ap (λ (z : ℕ × Option ℕ). z.0) (same_Some _ _ e) in
        ap (λ (b : Bool). b || list_any (λ (r : Living). k == r.number) rows) (ap (λ (n : ℕ). k == n) same ∙ itself k)
    by false more e = ap (λ (b : Bool). (k == r.number) || b) (more e) ∙ or_true (k == r.number)

-- the process of a send that is due is of its class
home_here : (configs : List Configuration) (m : Past) (e c : ℕ) (class : Class) (x : Sending)
    → send_of (farm_with configs m e c class) ≡ Some x → is_at_home (entries m) e class.name x.proc ≡ true
home_here configs m e c class x due = (and_parts (is_at_home (entries m) e class.name x.proc)
    (is_running (entries m) x.proc) runs).0
  where
    farm : Stock
    farm = farm_with configs m e c class

    i : SendIs farm.queue (target farm.procs) x.proc x.question x.channel
    i = send_is farm.queue (target farm.procs) x.proc x.question x.channel x.text due

    found : picked (runs_at (entries m) e class.name) (proc_count (entries m)) x.proc ≡ true
    found =
        sym (row_among (λ (r : Living). x.proc == r.number) (living_of class.concurrency (entries m))
        (runs_at (entries m) e class.name) (proc_count (entries m)) x.proc (λ k a b t. refl))
        ∙ target_among farm.procs x.proc x.channel i.target_is

    runs : runs_at (entries m) e class.name x.proc ≡ true
    runs = (and_parts (nat_le 1 x.proc && nat_le x.proc (proc_count (entries m)))
        (runs_at (entries m) e class.name x.proc) found).1

-- a send was made that was due
pub send_stands : (configs : List Configuration) (m : Past) (s : State) (now : ℕ) (p : ClassId) (x : Sending)
    → Lawful configs m → Stands configs m s → due_in s ≡ Some (sends p x)
    → Stands configs (noted_at now Act (sending_told x) ∷ m) (after_send_at p now s)
send_stands configs m s now p x law st is =
    farm_stands configs m s now (sending_told x) p after_sending st (λ k. refl) here others
  where
    due : IsSendIn s p x
    due = due_send_is s p x is

    row : IsClassRow configs m p.epoch p.class due.row
    row = is_class_row configs m s p.epoch p.class due.row st due.row_is

    sends_it : send_of (farm_with configs m p.epoch p.class row.class) ≡ Some x
    sends_it = ap (λ (r : ClassRow). send_of r.stock) (sym row.row_is) ∙ due.due

    here : (class : Class) → class_at configs p.epoch p.class ≡ Some class
        → class_row configs (noted_at now Act (sending_told x) ∷ m) p.epoch p.class class
        ≡ after_sending (class_row configs m p.epoch p.class class)
    here class at =
        let same : row.class ≡ class = same_Some _ _ (sym row.class_is ∙ at) in
        class_sending configs m now x.proc x.question x.channel x.text p.epoch p.class class
        (ap (λ (k : Class). send_of (farm_with configs m p.epoch p.class k)) (sym same) ∙ sends_it)

    others : (e c : ℕ) (class : Class) → is_at p e c ≡ false → class_at configs e c ≡ Some class
        → class_row configs (noted_at now Act (sending_told x) ∷ m) e c class ≡ class_row configs m e c class
    others e c class away at =
        class_not_sending configs m now x.proc x.question x.channel x.text e c class
        (put_once m x.question p.epoch p.class e c (waits_here configs m p.epoch p.class row.class x sends_it)
        (other_place p e c away))
        (away_from configs m x.proc p.epoch p.class e c row.class class law.once row.class_is
        at (home_here configs m p.epoch p.class row.class x sends_it) (other_place p e c away))

-- a start was told that was due
pub start_stands : (configs : List Configuration) (m : Past) (s : State) (now : ℕ) (p : ClassId) → Lawful configs m
    → Stands configs m s → due_in s ≡ Some (starts p)
    → Stands configs (noted_at now Act (told.Start p.epoch (name_in s p)) ∷ m) (after_start_at p now s)
start_stands configs m s now p law st is =
    subst (λ (name : List ℕ). Stands configs (noted_at now Act (told.Start p.epoch name) ∷ m) (after_start_at p now s))
    (sym (name_is configs m s p row.class st row.lives row.class_is))
    (farm_stands configs m s now (told.Start p.epoch row.class.name) p after_starting st (λ k. refl) here others)
  where
    due : IsStartIn s p
    due = due_start_is s p is

    row : IsClassRow configs m p.epoch p.class due.row
    row = is_class_row configs m s p.epoch p.class due.row st due.row_is

    starts_it : start_due (farm_with configs m p.epoch p.class row.class) ≡ true
    starts_it = ap (λ (r : ClassRow). start_due r.stock) (sym row.row_is) ∙ due.due

    here : (class : Class) → class_at configs p.epoch p.class ≡ Some class
        → class_row configs (noted_at now Act (told.Start p.epoch row.class.name) ∷ m) p.epoch p.class class
        ≡ after_starting (class_row configs m p.epoch p.class class)
    here class at =
        let same : row.class ≡ class = same_Some _ _ (sym row.class_is ∙ at) in
        subst (λ (k : Class). class_row configs (noted_at now Act (told.Start p.epoch row.class.name) ∷ m) p.epoch
        p.class k ≡ after_starting (class_row configs m p.epoch p.class k)) same
        (class_starting configs m now p.epoch p.class row.class (law.carried.starts_few p.epoch row.class.name)
        starts_it)

    others : (e c : ℕ) (class : Class) → is_at p e c ≡ false → class_at configs e c ≡ Some class
        → class_row configs (noted_at now Act (told.Start p.epoch row.class.name) ∷ m) e c class
        ≡ class_row configs m e c class
    others e c class away at =
        class_not_starting configs m now p.epoch row.class.name e c class (law.carried.starts_few e class.name)
        (other_name configs p e c row.class class law.once row.class_is at away)
