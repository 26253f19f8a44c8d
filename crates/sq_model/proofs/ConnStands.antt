-- The state's answers to what connections bring, and the state after it:
-- `open`, `close`, `ask`, and an outcome that is taken.
use Rattle.std.proofs.Common.{◌≡◌, ℕ, ℤ, suc, ◌-◌, List, [], ◌∷◌, ◌++◌, Bool, true, false, not, ◌||◌, ◌==◌, nat_le, filter, if◌then◌else◌, Option, Some, None, is_none, is_some, refl, sym, ap, ap₂, ◌∙◌, arith}
use Rattle.std.specs.Option.{option_map}
use Rattle.sq_base.specs.Addresses.{Address}
use Rattle.sq_base.specs.declared.requests.Field.{Field}
use Rattle.sq_machine.specs.declared.entries.Event.{Event}
use Rattle.sq_machine.specs.declared.entries.Event.TheVariants.{Ask, Close, Open, Take}
use Rattle.sq_machine.specs.declared.entries.Told.{Told}
use Rattle.sq_machine.specs.declared.entries.Told.TheVariants as told
use Rattle.sq_rules.specs.declared.outcomes.Outcome.{Outcome}
use Rattle.sq_machine.specs.declared.refusals.Refusal.{Refusal}
use Rattle.sq_machine.specs.declared.refusals.Refusal.TheVariants as refusal
use Rattle.sq_rules.specs.declared.sights.Peer.{Peer}
use Rattle.sq_machine.specs.Checks.{Asked, ask_count, ask_of, asked_by, check_open, is_done, more_if, open_check, peer_or_nobody, epoch_of}
use Rattle.sq_rules.specs.Configurations.{Configuration}
use Rattle.sq_machine.specs.Connections.{conns_of, is_address, open_count, peer_at}
use Rattle.sq_machine.specs.DueActs.{ClassId}
use Rattle.sq_machine.specs.Entries.{Noted}
use Rattle.sq_machine.specs.Epochs.{is_live, config_of}
use Rattle.sq_machine.specs.Events.{Asking, asking, begins_epoch, begun_offset}
use Rattle.sq_machine.specs.Machine.{next_at, outcome_over}
use Rattle.sq_machine.specs.Limits.{conn_limit, last_number}
use Rattle.sq_machine.specs.Next.{Next, gives, refuse_if, refuse_open}
use Rattle.sq_machine.specs.Marks.{Past, entries}
use Rattle.sq_machine.specs.Readings.{current, epoch_after, offset_after, offset_of}
use Rattle.sq_rules.specs.Sights.{asked_request, minute_of_week}
use Rattle.sq_rules.specs.Verdicts.{outcome_so_far}
use Rattle.sq_machine.proofs.CheckLaws.{ask_count_more}
use Rattle.sq_machine.proofs.ConnectionLaws.{conns_of_closed, conns_of_opened, conns_of_quiet, open_count_closed, open_count_opened, open_count_quiet, peer_at_more}
use Rattle.sq_machine.proofs.ReadingLaws.{offset_of_more}
use Rattle.sq_model.specs.CheckRows.{Held, begun, held_checks, held_of, held_on}
use Rattle.sq_model.specs.ClassRows.{class_part}
use Rattle.sq_model.specs.ClassChanges.{touches_classes}
use Rattle.sq_model.specs.MarkedEntries.{noted_at}
use Rattle.sq_model.proofs.AloneLaws.{IsAlone, held_on_is}
use Rattle.sq_model.proofs.CheckLaws.{held_asked, held_closed, held_same, held_taken}
use Rattle.sq_model.proofs.EpochLaws.{live_asked, live_fewer}
use Rattle.sq_model.proofs.HeldLaws.{asked_is, outcome_held}
use Rattle.sq_model.proofs.StepLaws.{class_untouched}
use Rattle.sq_model.specs.Answers.{ask_answer, asked_in, check_on, close_answer, open_answer, take_answer, take_of_held}
use Rattle.sq_model.specs.Changes.{after_ask, after_close, after_open, after_take, if_live, is_of_client, is_over, with_checks}
use Rattle.sq_model.specs.States.{State, Stands, is_of_pools, lives_with, machine_moment}
use Rattle.sq_model.proofs.Lawful.{Lawful, held_is, value_held}
use Rattle.sq_model.proofs.EndStands.{NoProcs, NoneBack, homes_end, homes_stay, kept_there, leaves_procs, left_there, live_still, live_with, part_kept, procs_same, stops_end, stops_stay}

-- what is answered to an `open`
pub open_next : (configs : List Configuration) (m : Past) (s : State) (now c : ℕ) (addr : Address) (port : ℕ)
    → Stands configs m s
    → next_at configs m now (Open c addr port) ≡ open_answer s c
unfolding next_at
open_next configs m s now c addr port st =
    ap₂ (λ (o : Option Peer) (n : ℕ). refuse_if (is_some o) (refusal.ConnInUse c)
    (refuse_if (nat_le conn_limit n) (refusal.TooManyConns conn_limit) (gives told.Fine)))
    (sym (st.clients_are c)) (sym st.conns_are)

-- what is answered to a `close`
pub close_next : (configs : List Configuration) (m : Past) (s : State) (now c : ℕ) → Stands configs m s
    → next_at configs m now (Close c) ≡ close_answer s c
unfolding next_at
close_next configs m s now c st = ap (λ (o : Option Peer). refuse_if (is_none o) (refusal.UnknownConn c)
    (gives told.Fine)) (sym (st.clients_are c))

-- the open check of a connection, by the state
pub check_is : (configs : List Configuration) (m : Past) (s : State) (c : ℕ) → IsAlone (entries m) → Stands configs m s
    → check_on s c ≡ open_check (entries m) c
check_is configs m s c alone st =
    ap (λ (checks : List Held). option_map (λ (h : Held). h.number) (held_on c checks)) st.checks_are
    ∙ ap (λ (o : Option Held). option_map (λ (h : Held). h.number) o) (held_on_is configs m c alone)
    ∙ by (open_check (entries m) c)
  where
    by : (o : Option ℕ) → option_map (λ (h : Held). h.number) (option_map (held_of configs m) o) ≡ o
    by None = refl
    by (Some n) = refl

-- what is answered to an `ask`
pub ask_next : (configs : List Configuration) (m : Past) (s : State) (now c : ℕ) (method target : List ℕ)
    (fields : List Field) → IsAlone (entries m) → Stands configs m s
    → next_at configs m now (Ask c method target fields) ≡ ask_answer s c
unfolding next_at
ask_next configs m s now c method target fields alone st =
    ap₂ (λ (o : Option Peer) (n : ℕ). refuse_if (is_none o) (refusal.UnknownConn c)
    (refuse_open (open_check (entries m) c)
    (refuse_if (nat_le last_number (suc n)) (refusal.Spent (suc n)) (gives (told.Check (suc n))))))
    (sym (st.clients_are c)) (sym st.asks_are)
    ∙ ap (λ (o : Option ℕ). refuse_if (is_none (s.client c)) (refusal.UnknownConn c) (refuse_open o
    (refuse_if (nat_le last_number (suc s.asks)) (refusal.Spent (suc s.asks)) (gives (told.Check (suc s.asks))))))
    (sym (check_is configs m s c alone st))

-- what is answered to a `take`
pub take_next : (configs : List Configuration) (m : Past) (s : State) (now n : ℕ) → Stands configs m s
    → next_at configs m now (Take n) ≡ take_answer s n
unfolding next_at
take_next configs m s now n st = by (check_open (entries m) n) refl
    ∙ ap (take_of_held s n) (sym (held_is configs m s n st))
  where
    by : (b : Bool) → check_open (entries m) n ≡ b
        → refuse_if (not b) (refusal.UnknownCheck n) (refuse_if (not (is_done (entries m) n)) (refusal.NotDone n)
        (gives (told.Judged (epoch_of (ask_of (entries m) n)) (outcome_over configs m n (ask_of (entries m) n)))))
        ≡ take_of_held s n (if b then Some (held_of configs m n) else None)
    by true opened =
        ap₂ (λ (e : ℕ) (o : Outcome). refuse_if (not (is_done (entries m) n)) (refusal.NotDone n)
        (gives (told.Judged e o))) (ap epoch_of (asked_is configs m n opened))
        (outcome_held configs m n opened ∙ ap outcome_so_far (sym (value_held configs m s n st opened)))
    by false shut = refl

free_of : (o : Option Peer) (r : Refusal) (rest : Next) (t : Told) → refuse_if (is_some o) r rest ≡ gives t → o ≡ None
free_of None r rest t e = refl
free_of (Some p) r rest t e = absurd (cc)

-- a connection that is opened was not open
free_conn : (configs : List Configuration) (m : Past) (now c : ℕ) (addr : Address) (port : ℕ) (answer : Told)
    → next_at configs m now (Open c addr port) ≡ gives answer
    → peer_at (entries m) c ≡ None
unfolding next_at
free_conn configs m now c addr port answer e = free_of (peer_at (entries m) c) _ _ answer e

-- a connection that is there
record IsThere (o : Option Peer) : Type 0 where
  pub peer : Peer
  pub is : o ≡ Some peer

there_of : (o : Option Peer) (r : Refusal) (rest : Next) (t : Told) → refuse_if (is_none o) r rest ≡ gives t → IsThere o
there_of None r rest t e = absurd (cc)
there_of (Some p) r rest t e = record { peer = p; is = refl }

-- a connection that is closed was open
open_conn : (configs : List Configuration) (m : Past) (now c : ℕ) (answer : Told)
    → next_at configs m now (Close c) ≡ gives answer → IsThere (peer_at (entries m) c)
unfolding next_at
open_conn configs m now c answer e = there_of (peer_at (entries m) c) _ _ answer e

-- a connection of this client opened
pub open_stands : (configs : List Configuration) (m : Past) (s : State) (now c : ℕ) (addr : Address) (port : ℕ)
    (answer : Told) → Stands configs m s
    → next_at configs m now (Open c addr port) ≡ gives answer
    → Stands configs (noted_at now (Open c addr port) answer ∷ m)
    (after_open c (record { addr = addr; port = port }) now s)
open_stands configs m s now c addr port answer st next = record {
  clients_are = λ d. ap (λ (o : Option Peer). if c == d then Some p else o) (st.clients_are d)
      ∙ sym (peer_at_more e (entries m) d);
  conns_are = ap suc st.conns_are ∙ sym (open_count_opened e (entries m) c p refl free);
  from_are = λ a. ap (λ (n : ℕ). if is_address a addr then suc n else n) (st.from_are a)
      ∙ sym (conns_of_opened e (entries m) c p a refl free);
  checks_are = st.checks_are ∙ sym checks;
  asks_are = st.asks_are ∙ sym (ask_count_more e (entries m));
  puts_are = st.puts_are;
  current_is = st.current_is;
  configs_are = λ f. kept_there (is_live (entries m) f) (is_live (e ∷ entries m) f) (config_of configs f) (s.config f)
      (st.configs_are f) (live f);
  rows_are = λ f k.
      kept_there (is_live (entries m) f) (is_live (e ∷ entries m) f)
      (class_part configs (noted_at now event answer ∷ m) f k) (s.row f k)
      (st.rows_are f k ∙ ap (λ o. if is_live (entries m) f then o else None) (sym (part f k))) (live f);
  procs_are = st.procs_are;
  homes_are = λ k. st.homes_are k
      ∙ sym (homes_stay configs (entries m) (e ∷ entries m) k (leaves_procs now event answer (entries m) procs) live);
  stops_are = λ k. st.stops_are k
      ∙ sym (stops_stay (entries m) (e ∷ entries m) k (leaves_procs now event answer (entries m) procs) live);
  latest_is = refl;
  offset_is = st.offset_is ∙ sym (offset_of_more e (entries m));
}
  where
    p : Peer
    p = record { addr = addr; port = port }

    event : Event
    event = Open c addr port

    e : Noted
    e = record { moment = now; event = event; answer = answer }

    free : peer_at (entries m) c ≡ None
    free = free_conn configs m now c addr port answer next

    checks : held_checks configs (noted_at now event answer ∷ m) ≡ held_checks configs m
    checks = held_same configs m (noted_at now event answer)
        (record { asks_none = refl; steps_none = refl; takes_none = refl; closes_none = refl }) (λ q. refl)

    live : (f : ℕ) → is_live (e ∷ entries m) f ≡ is_live (entries m) f
    live f = live_still configs m (noted_at now event answer ∷ m) f refl checks

    part : (f k : ℕ) → class_part configs (noted_at now event answer ∷ m) f k ≡ class_part configs m f k
    part f k = part_kept configs m (noted_at now event answer ∷ m) f k
        (λ class at. class_untouched configs m now event answer f k class refl)

    procs : NoProcs (entries m) event answer
    procs = record { starts_none = refl; ends_none = λ k. refl; stops_none = λ k. refl }

-- an event after which some open checks are left, and that else concerns connections alone
record IsShut (configs : List Configuration) (m : Past) (now : ℕ) (event : Event) (answer : Told)
    (keep : Held → Bool) : Type 0 where
  pub left : held_checks configs (noted_at now event answer ∷ m) ≡ filter keep (held_checks configs m)
  pub asks_none : asking event ≡ None
  pub begins_none : begins_epoch event ≡ false
  pub untouched : touches_classes event ≡ false
  pub procs : NoProcs (entries m) event answer
  pub offset_none : begun_offset event ≡ None
  pub not_of_pools : is_of_pools event ≡ false

-- the connections that it leaves
record ConnsStand (m : Past) (now : ℕ) (event : Event) (answer : Told) (client : ℕ → Option Peer) (conns : ℕ)
    (from : Address → ℕ) : Type 0 where
  pub clients_are : (c : ℕ) → client c ≡ peer_at (entries (noted_at now event answer ∷ m)) c
  pub conns_are : conns ≡ open_count (entries (noted_at now event answer ∷ m))
  pub from_are : (a : Address) → from a ≡ conns_of (entries (noted_at now event answer ∷ m)) a

shut_stands : (configs : List Configuration) (m : Past) (s : State) (now : ℕ) (event : Event) (answer : Told)
    (keep : Held → Bool) (client : ℕ → Option Peer) (conns : ℕ) (from : Address → ℕ)
    → Lawful configs m → Stands configs m s → IsShut configs m now event answer keep
    → ConnsStand m now event answer client conns from
    → Stands configs (noted_at now event answer ∷ m)
    (with_checks (filter keep s.checks) (record s { client = client; conns = conns; from = from; latest = now }))
shut_stands configs m s now event answer keep client conns from law st shut cs = record {
  clients_are = cs.clients_are;
  conns_are = cs.conns_are;
  from_are = cs.from_are;
  checks_are = sym checks;
  asks_are = st.asks_are ∙ sym
      (ask_count_more e (entries m) ∙ ap (λ (o : Option Asking). more_if o (ask_count (entries m))) shut.asks_none);
  puts_are = st.puts_are;
  current_is = st.current_is ∙ sym same;
  configs_are = λ f. left_there (live f) (is_live (entries m) f) (is_live (e ∷ entries m) f) (config_of configs f)
      (s.config f) (st.configs_are f) (lives f) (fewer f);
  rows_are = λ f k.
      left_there (live f) (is_live (entries m) f) (is_live (e ∷ entries m) f)
      (class_part configs (noted_at now event answer ∷ m) f k) (s.row f k)
      (st.rows_are f k ∙ ap (λ o. if is_live (entries m) f then o else None) (sym (part f k))) (lives f) (fewer f);
  procs_are = st.procs_are ∙ sym (procs_same now event answer (entries m) shut.procs.starts_none);
  homes_are = λ k.
      ap (if_live live) (st.homes_are k)
      ∙ homes_end configs (entries m) (e ∷ entries m) k live (leaves_procs now event answer (entries m) shut.procs) back
      lives;
  stops_are = λ k.
      ap₂ (λ (b : Bool) (o : Option ClassId). b || is_over live o) (st.stops_are k) (st.homes_are k)
      ∙ stops_end configs m (e ∷ entries m) k live law.once law.carried law.stops
      (leaves_procs now event answer (entries m) shut.procs) back lives;
  latest_is = sym (ap (λ (b : Bool). if b then machine_moment (entries m) else now) shut.not_of_pools);
  offset_is = st.offset_is
      ∙ sym (offset_of_more e (entries m)
      ∙ ap (λ (o : Option ℤ). offset_after o (offset_of (entries m))) shut.offset_none);
}
  where
    e : Noted
    e = record { moment = now; event = event; answer = answer }

    checks : held_checks configs (noted_at now event answer ∷ m) ≡ filter keep s.checks
    checks = shut.left ∙ ap (filter keep) (sym st.checks_are)

    same : current (e ∷ entries m) ≡ current (entries m)
    same = ap (λ (b : Bool). epoch_after b (current (entries m))) shut.begins_none

    live : ℕ → Bool
    live = lives_with s.current (filter keep s.checks)

    lives : (f : ℕ) → live f ≡ is_live (e ∷ entries m) f
    lives f = live_with configs m (noted_at now event answer ∷ m) s (filter keep s.checks) f st same checks

    fewer : (f : ℕ) → is_live (e ∷ entries m) f ≡ true → is_live (entries m) f ≡ true
    fewer f t = live_fewer configs m (noted_at now event answer) f keep shut.begins_none shut.left t

    back : NoneBack (entries m) (e ∷ entries m)
    back k p is t = fewer p.epoch t

    part : (f k : ℕ) → class_part configs (noted_at now event answer ∷ m) f k ≡ class_part configs m f k
    part f k = part_kept configs m (noted_at now event answer ∷ m) f k
        (λ class at. class_untouched configs m now event answer f k class shut.untouched)

-- a connection closed, with its check
pub close_stands : (configs : List Configuration) (m : Past) (s : State) (now c : ℕ) (answer : Told) → Lawful configs m
    → Stands configs m s
    → next_at configs m now (Close c) ≡ gives answer
    → Stands configs (noted_at now (Close c) answer ∷ m) (after_close c now s)
close_stands configs m s now c answer law st next =
    shut_stands configs m s now (Close c) answer (λ (h : Held). not (c == h.asked.conn))
    (λ d. if c == d then None else s.client d) (s.conns - 1)
    (λ a. if is_of_client (s.client c) (λ p. is_address a p.addr) then s.from a - 1 else s.from a) law st
    (record {
      left = held_closed configs m now c answer;
      asks_none = refl;
      begins_none = refl;
      untouched = refl;
      procs = record { starts_none = refl; ends_none = λ k. refl; stops_none = λ k. refl };
      offset_none = refl;
      not_of_pools = refl;
    })
    (record {
      clients_are = λ d. ap (λ (o : Option Peer). if c == d then None else o) (st.clients_are d)
          ∙ sym (peer_at_more e (entries m) d);
      conns_are = one_less s.conns (open_count (e ∷ entries m)) (open_count (entries m)) st.conns_are
          (open_count_closed e (entries m) c was.peer refl was.is);
      from_are = λ a.
          ap₂ (λ (o : Option Peer) (n : ℕ). if is_of_client o (λ p. is_address a p.addr) then n - 1 else n)
          (st.clients_are c ∙ was.is) (st.from_are a)
          ∙ sym (conns_of_closed e (entries m) c was.peer a refl was.is);
    })
  where
    e : Noted
    e = record { moment = now; event = Close c; answer = answer }

    was : IsThere (peer_at (entries m) c)
    was = open_conn configs m now c answer next

    one_less : (n k j : ℕ) → n ≡ j → suc k ≡ j → n - 1 ≡ k
    one_less n k j e f = omega arith

-- the outcome of a check was taken
pub take_stands : (configs : List Configuration) (m : Past) (s : State) (now n : ℕ) (answer : Told) → Lawful configs m
    → Stands configs m s
    → Stands configs (noted_at now (Take n) answer ∷ m) (after_take n now s)
take_stands configs m s now n answer law st =
    shut_stands configs m s now (Take n) answer (λ (h : Held). not (n == h.number)) s.client s.conns s.from law st
    (record {
      left = held_taken configs m now n answer;
      asks_none = refl;
      begins_none = refl;
      untouched = refl;
      procs = record { starts_none = refl; ends_none = λ k. refl; stops_none = λ k. refl };
      offset_none = refl;
      not_of_pools = refl;
    })
    (record {
      clients_are = λ d. st.clients_are d ∙ sym (peer_at_more e (entries m) d);
      conns_are = st.conns_are ∙ sym (open_count_quiet e (entries m) refl);
      from_are = λ a. st.from_are a ∙ sym (conns_of_quiet e (entries m) a refl);
    })
  where
    e : Noted
    e = record { moment = now; event = Take n; answer = answer }

-- the check that begins, by the state
pub asked_is_in : (configs : List Configuration) (m : Past) (s : State) (now c : ℕ) (method target : List ℕ)
    (fields : List Field) → Stands configs m s
    → asked_in s now c method target fields
    ≡ asked_by (entries m) now (record { conn = c; method = method; target = target; fields = fields })
asked_is_in configs m s now c method target fields st =
    ap₂ (λ (n e : ℕ). asked_so (s.client c) e s.offset n) (st.from_are (peer_or_nobody (s.client c)).addr) st.current_is
    ∙ ap₂ (λ (o : Option Peer) (z : ℤ). asked_so o (current (entries m)) z
    (conns_of (entries m) (peer_or_nobody o).addr)) (st.clients_are c) st.offset_is
  where
    asked_so : Option Peer → ℕ → ℤ → ℕ → Asked
    asked_so o e offset n = record {
      conn = c;
      epoch = e;
      sight = record {
        request = asked_request method target fields;
        addr = (peer_or_nobody o).addr;
        port = (peer_or_nobody o).port;
        minute = minute_of_week now offset;
        conns = n;
      };
    }

-- a check began
pub ask_stands : (configs : List Configuration) (m : Past) (s : State) (now c : ℕ) (method target : List ℕ)
    (fields : List Field) (answer : Told) → Stands configs m s
    → Stands configs (noted_at now (Ask c method target fields) answer ∷ m)
    (after_ask (asked_in s now c method target fields) now s)
ask_stands configs m s now c method target fields answer st = record {
  clients_are = λ d. st.clients_are d ∙ sym (peer_at_more e (entries m) d);
  conns_are = st.conns_are ∙ sym (open_count_quiet e (entries m) refl);
  from_are = λ a. st.from_are a ∙ sym (conns_of_quiet e (entries m) a refl);
  checks_are =
      ap₂ (λ (checks : List Held) (h : Held). checks ++ h ∷ []) st.checks_are
      (ap₂ (λ (n : ℕ) (a : Asked). begun (suc n) a) st.asks_are (asked_is_in configs m s now c method target fields st))
      ∙ sym (held_asked configs m now c method target fields answer);
  asks_are = ap suc st.asks_are ∙ sym (ask_count_more e (entries m));
  puts_are = st.puts_are;
  current_is = st.current_is;
  configs_are = λ f. kept_there (is_live (entries m) f) (is_live (e ∷ entries m) f) (config_of configs f) (s.config f)
      (st.configs_are f) (live f);
  rows_are = λ f k.
      kept_there (is_live (entries m) f) (is_live (e ∷ entries m) f)
      (class_part configs (noted_at now event answer ∷ m) f k) (s.row f k)
      (st.rows_are f k ∙ ap (λ o. if is_live (entries m) f then o else None) (sym (part f k))) (live f);
  procs_are = st.procs_are;
  homes_are = λ k. st.homes_are k
      ∙ sym (homes_stay configs (entries m) (e ∷ entries m) k (leaves_procs now event answer (entries m) procs) live);
  stops_are = λ k. st.stops_are k
      ∙ sym (stops_stay (entries m) (e ∷ entries m) k (leaves_procs now event answer (entries m) procs) live);
  latest_is = refl;
  offset_is = st.offset_is ∙ sym (offset_of_more e (entries m));
}
  where
    event : Event
    event = Ask c method target fields

    e : Noted
    e = record { moment = now; event = event; answer = answer }

    live : (f : ℕ) → is_live (e ∷ entries m) f ≡ is_live (entries m) f
    live f = live_asked configs m now c method target fields answer f

    part : (f k : ℕ) → class_part configs (noted_at now event answer ∷ m) f k ≡ class_part configs m f k
    part f k = part_kept configs m (noted_at now event answer ∷ m) f k
        (λ class at. class_untouched configs m now event answer f k class refl)

    procs : NoProcs (entries m) event answer
    procs = record { starts_none = refl; ends_none = λ k. refl; stops_none = λ k. refl }
