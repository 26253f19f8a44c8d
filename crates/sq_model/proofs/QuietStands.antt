-- The entries of delay pools leave the state as it is, and a state stands for the history of `begin` alone.
use Rattle.std.proofs.Common.{◌≡◌, ℕ, ℤ, List, [], ◌∷◌, Bool, true, false, ◌||◌, ◌==◌, if◌then◌else◌, slice_get, Option, Some, None, refl, sym, ap, ◌∙◌}
use Rattle.std.specs.Option.{option_and_then, option_map}
use Rattle.sq_base.specs.Addresses.{Address}
use Rattle.sq_machine.specs.declared.entries.Event.{Event}
use Rattle.sq_machine.specs.declared.entries.Event.TheVariants.{Begin, Seat, Grant, Leave}
use Rattle.sq_machine.specs.declared.entries.Told.{Told}
use Rattle.sq_machine.specs.Checks.{ask_count, check_open, more_if}
use Rattle.sq_rules.specs.Classes.{Class}
use Rattle.sq_rules.specs.Configurations.{Configuration}
use Rattle.sq_machine.specs.Connections.{conns_of, open_besides, open_count, peer_after, peer_at}
use Rattle.sq_machine.specs.Entries.{Noted}
use Rattle.sq_machine.specs.Epochs.{is_live, config_of}
use Rattle.sq_machine.specs.Events.{Asking, ConnNews, begins_epoch, begun_offset, conn_news}
use Rattle.sq_machine.specs.Marking.{marked}
use Rattle.sq_machine.specs.Marks.{Past, entries}
use Rattle.sq_machine.specs.Numbered.{rows}
use Rattle.sq_machine.specs.Questions.{end_at}
use Rattle.sq_machine.specs.Readings.{current, epoch_after, offset_after, offset_of}
use Rattle.sq_machine.proofs.CheckLaws.{ask_count_more}
use Rattle.sq_machine.proofs.ConnectionLaws.{conns_of_quiet, open_count_quiet, peer_at_more}
use Rattle.sq_machine.proofs.ReadingLaws.{offset_of_more}
use Rattle.sq_model.specs.CheckRows.{Held, held_checks, held_of}
use Rattle.sq_model.specs.ClassRows.{class_part, class_row, new_row}
use Rattle.sq_model.specs.Carried.{IsUnused}
use Rattle.sq_model.specs.ClassChanges.{touches_classes}
use Rattle.sq_model.specs.MarkedEntries.{LeavesChecks, noted_at}
use Rattle.sq_model.proofs.CheckLaws.{held_same}
use Rattle.sq_model.proofs.ClassParts.{equal}
use Rattle.sq_model.proofs.EpochLaws.{live_by_rows, some_of_epoch}
use Rattle.sq_model.proofs.ReconfigureLaws.{unused_row}
use Rattle.sq_model.proofs.StepLaws.{class_untouched}
use Rattle.sq_model.specs.Changes.{first_state}
use Rattle.sq_model.specs.States.{State, Stands, is_of_pools, machine_moment}
use Rattle.sq_model.proofs.EndStands.{NoProcs, homes_stay, kept_there, leaves_procs, live_still, part_kept, procs_same, stops_stay}

-- an event that touches nothing of the state
record IsQuiet (configs : List Configuration) (m : Past) (event : Event) (answer : Told) : Type 0 where
  pub leaves : LeavesChecks event
  pub ends_none : (q : ℕ) → end_at configs m q event answer ≡ None
  pub news_none : conn_news event ≡ None
  pub begins_none : begins_epoch event ≡ false
  pub untouched : touches_classes event ≡ false
  pub procs : NoProcs (entries m) event answer
  pub offset_none : begun_offset event ≡ None
  pub of_pools : is_of_pools event ≡ true

quiet_stands : (configs : List Configuration) (m : Past) (s : State) (now : ℕ) (event : Event) (answer : Told)
    → IsQuiet configs m event answer → Stands configs m s
    → Stands configs (noted_at now event answer ∷ m) s
quiet_stands configs m s now event answer quiet st = record {
  clients_are = λ c. st.clients_are c
      ∙ sym (peer_at_more e (entries m) c
      ∙ ap (λ (n : Option ConnNews). peer_after c n (peer_at (entries m) c)) quiet.news_none);
  conns_are = st.conns_are ∙ sym (open_count_quiet e (entries m) quiet.news_none);
  from_are = λ a. st.from_are a ∙ sym (conns_of_quiet e (entries m) a quiet.news_none);
  checks_are = st.checks_are ∙ sym checks;
  asks_are = st.asks_are ∙ sym
      (ask_count_more e (entries m)
      ∙ ap (λ (o : Option Asking). more_if o (ask_count (entries m))) quiet.leaves.asks_none);
  puts_are = st.puts_are;
  current_is = st.current_is ∙ sym same;
  configs_are = λ f. kept_there (is_live (entries m) f) (is_live (e ∷ entries m) f) (config_of configs f) (s.config f)
      (st.configs_are f) (live f);
  rows_are = λ f c.
      kept_there (is_live (entries m) f) (is_live (e ∷ entries m) f)
      (class_part configs (noted_at now event answer ∷ m) f c) (s.row f c)
      (st.rows_are f c ∙ ap (λ o. if is_live (entries m) f then o else None) (sym (part f c))) (live f);
  procs_are = st.procs_are ∙ sym (procs_same now event answer (entries m) quiet.procs.starts_none);
  homes_are = λ k. st.homes_are k
      ∙ sym (homes_stay configs (entries m) (e ∷ entries m) k (leaves_procs now event answer (entries m) quiet.procs)
      live);
  stops_are = λ k. st.stops_are k
      ∙ sym (stops_stay (entries m) (e ∷ entries m) k (leaves_procs now event answer (entries m) quiet.procs) live);
  latest_is = st.latest_is ∙ sym (ap (λ (b : Bool). if b then machine_moment (entries m) else now) quiet.of_pools);
  offset_is = st.offset_is
      ∙ sym (offset_of_more e (entries m)
      ∙ ap (λ (o : Option ℤ). offset_after o (offset_of (entries m))) quiet.offset_none);
}
  where
    e : Noted
    e = record { moment = now; event = event; answer = answer }

    checks : held_checks configs (noted_at now event answer ∷ m) ≡ held_checks configs m
    checks = held_same configs m (noted_at now event answer) quiet.leaves quiet.ends_none

    same : current (e ∷ entries m) ≡ current (entries m)
    same = ap (λ (b : Bool). epoch_after b (current (entries m))) quiet.begins_none

    live : (f : ℕ) → is_live (e ∷ entries m) f ≡ is_live (entries m) f
    live f = live_still configs m (noted_at now event answer ∷ m) f same checks

    part : (f c : ℕ) → class_part configs (noted_at now event answer ∷ m) f c ≡ class_part configs m f c
    part f c = part_kept configs m (noted_at now event answer ∷ m) f c
        (λ class at. class_untouched configs m now event answer f c class quiet.untouched)

-- a seat is taken in a delay pool, or there is none
pub seat_stands : (configs : List Configuration) (m : Past) (s : State) (now c : ℕ) (answer : Told) → Stands configs m s
    → Stands configs (noted_at now (Seat c) answer ∷ m) s
seat_stands configs m s now c answer st =
    quiet_stands configs m s now (Seat c) answer
    (record {
      leaves = record { asks_none = refl; steps_none = refl; takes_none = refl; closes_none = refl };
      ends_none = λ q. refl;
      news_none = refl;
      begins_none = refl;
      untouched = refl;
      procs = record { starts_none = refl; ends_none = λ k. refl; stops_none = λ k. refl };
      offset_none = refl;
      of_pools = refl;
    }) st

-- bytes are granted to a seat
pub grant_stands : (configs : List Configuration) (m : Past) (s : State) (now n wanted : ℕ) (answer : Told)
    → Stands configs m s
    → Stands configs (noted_at now (Grant n wanted) answer ∷ m) s
grant_stands configs m s now n wanted answer st =
    quiet_stands configs m s now (Grant n wanted) answer
    (record {
      leaves = record { asks_none = refl; steps_none = refl; takes_none = refl; closes_none = refl };
      ends_none = λ q. refl;
      news_none = refl;
      begins_none = refl;
      untouched = refl;
      procs = record { starts_none = refl; ends_none = λ k. refl; stops_none = λ k. refl };
      offset_none = refl;
      of_pools = refl;
    }) st

-- a seat is left
pub leave_stands : (configs : List Configuration) (m : Past) (s : State) (now n : ℕ) (answer : Told)
    → Stands configs m s → Stands configs (noted_at now (Leave n) answer ∷ m) s
leave_stands configs m s now n answer st =
    quiet_stands configs m s now (Leave n) answer
    (record {
      leaves = record { asks_none = refl; steps_none = refl; takes_none = refl; closes_none = refl };
      ends_none = λ q. refl;
      news_none = refl;
      begins_none = refl;
      untouched = refl;
      procs = record { starts_none = refl; ends_none = λ k. refl; stops_none = λ k. refl };
      offset_none = refl;
      of_pools = refl;
    }) st

-- the entry of a beginning, alone
abbrev first_past : ℤ → ℕ → Told → Past
first_past offset now answer = noted_at now (Begin offset) answer ∷ []

none_asked : (offset : ℤ) (now : ℕ) (answer : Told) → ask_count (entries (first_past offset now answer)) ≡ 0
unfolding ask_count
none_asked offset now answer = refl

none_open : (offset : ℤ) (now : ℕ) (answer : Told) → open_count (entries (first_past offset now answer)) ≡ 0
unfolding open_count open_besides
none_open offset now answer = refl

none_from : (offset : ℤ) (now : ℕ) (answer : Told) (a : Address)
    → conns_of (entries (first_past offset now answer)) a ≡ 0
unfolding conns_of open_besides
none_from offset now answer a = refl

no_client : (offset : ℤ) (now : ℕ) (answer : Told) (c : ℕ) → peer_at (entries (first_past offset now answer)) c ≡ None
unfolding peer_at
no_client offset now answer c = refl

offset_is_it : (offset : ℤ) (now : ℕ) (answer : Told) → offset_of (entries (first_past offset now answer)) ≡ offset
unfolding offset_of
offset_is_it offset now answer = refl

none_held : (configs : List Configuration) (offset : ℤ) (now : ℕ) (answer : Told)
    → held_checks configs (first_past offset now answer) ≡ []
none_held configs offset now answer = ap (rows (held_of configs (first_past offset now answer))
    (check_open (entries (first_past offset now answer)))) (none_asked offset now answer)

-- the first epoch lives, and no other
one_lives : (configs : List Configuration) (offset : ℤ) (now : ℕ) (answer : Told) (e : ℕ)
    → is_live (entries (first_past offset now answer)) e ≡ (e == 1)
one_lives configs offset now answer e =
    live_by_rows configs (first_past offset now answer) e
    ∙ ap (λ (checks : List Held). e == 1 || some_of_epoch e checks) (none_held configs offset now answer)
    ∙ or_false (e == 1)
  where
    or_false : (b : Bool) → (b || false) ≡ b
    or_false true = refl
    or_false false = refl

-- nothing was done in it
nothing_done : (offset : ℤ) (now : ℕ) (answer : Told) (e : ℕ) → IsUnused (first_past offset now answer) e
nothing_done offset now answer e = record {
  none_put = λ c q. refl;
  none_home = λ name k. refl;
  none_started = λ name. refl;
  none_held = λ c name. refl;
}

-- the state as the machine begins stands for the history of its beginning
pub first_stands : (configs : List Configuration) (config : Configuration) (offset : ℤ) (now : ℕ) (answer : Told)
    → config_of configs 1 ≡ Some config
    → Stands configs (marked configs (record { moment = now; event = Begin offset; answer = answer } ∷ []))
    (first_state config offset now)
first_stands configs config offset now answer is = record {
  clients_are = λ c. sym (no_client offset now answer c);
  conns_are = sym (none_open offset now answer);
  from_are = λ a. sym (none_from offset now answer a);
  checks_are = sym (none_held configs offset now answer);
  asks_are = sym (none_asked offset now answer);
  puts_are = refl;
  current_is = refl;
  configs_are = λ e. configs_by e (e == 1) refl
      ∙ ap (λ (b : Bool). if b then config_of configs e else None) (sym (one_lives configs offset now answer e));
  rows_are = λ e c.
      rows_by e c (e == 1) refl
      ∙ ap (λ (b : Bool). if b then class_part configs (first_past offset now answer) e c else None)
      (sym (one_lives configs offset now answer e));
  procs_are = refl;
  homes_are = λ k. refl;
  stops_are = λ k. refl;
  latest_is = refl;
  offset_is = sym (offset_is_it offset now answer);
}
  where
    configs_by : (e : ℕ) (b : Bool) → (e == 1) ≡ b
        → (if b then Some config else None) ≡ (if b then config_of configs e else None)
    configs_by e true one = sym is ∙ ap (config_of configs) (sym (equal e 1 one))
    configs_by e false other = refl

    row_by : (c : ℕ) (o : Option Class)
        → option_map (new_row []) o ≡ option_map (class_row configs (first_past offset now answer) 1 c) o
    row_by c None = refl
    row_by c (Some class) = ap (λ r. Some r)
        (sym (unused_row configs (first_past offset now answer) 1 c class (nothing_done offset now answer 1)))

    rows_by : (e c : ℕ) (b : Bool) → (e == 1) ≡ b
        → (if b then option_map (new_row []) (slice_get config.classes c) else None)
        ≡ (if b then class_part configs (first_past offset now answer) e c else None)
    rows_by e c true one =
        row_by c (slice_get config.classes c)
        ∙ ap (λ (o : Option Configuration). option_map (class_row configs (first_past offset now answer) 1 c)
        (option_and_then (λ k. slice_get k.classes c) o)) (sym is)
        ∙ ap (λ (f : ℕ). class_part configs (first_past offset now answer) f c) (sym (equal e 1 one))
    rows_by e c false other = refl
