-- A rehearsal asks as many requests as it shall.
use Rattle.std.proofs.Common.{◌≡◌, inl, inr, ℕ, ℤ, ◌*◌, ◌+◌, ◌-◌, ◌≤◌, ◌<◌, ◌==◌, ◌||◌, ◌&&◌, suc, zero, max, nat_lt, nat_le, not, List, [], ◌∷◌, ◌++◌, length, drop, slice_get, Bool, true, false, if◌then◌else◌, Option, Some, None, is_some, is_none, pos, refl, sym, ap, subst, ◌∙◌, arith}
use Rattle.std.proofs.lemmas.Bool.Decides.{nat_tests}
use Rattle.std.proofs.lemmas.Option.{none-some}
use Rattle.std.specs.Prelude.{⊤, codes}
use Rattle.std.specs.Option.{option_map, option_map_or, option_and_then, option_or}
use Rattle.sq_request.specs.Written.{made_request}
use Rattle.sq_machine.specs.declared.entries.Event.{Event}
use Rattle.sq_machine.specs.declared.entries.Event.TheVariants.{Open, Close, Ask, Step, Take, Started, Line, Act}
use Rattle.sq_machine.specs.declared.entries.Told.{Told}
use Rattle.sq_machine.specs.declared.entries.Told.TheVariants as told
use Rattle.sq_machine.specs.declared.refusals.Refusal.{Refusal}
use Rattle.sq_machine.specs.declared.refusals.Refusal.TheVariants as refusal
use Rattle.sq_machine.specs.Connections.{open_besides, open_count, peer_at}
use Rattle.sq_rules.specs.declared.outcomes.Why.{Why}
use Rattle.sq_rules.specs.declared.outcomes.Why.TheVariants as why
use Rattle.sq_rules.specs.Classes.{Class}
use Rattle.sq_rules.specs.Configurations.{Configuration}
use Rattle.sq_machine.specs.declared.kept.CachedReply.{CachedReply}
use Rattle.sq_machine.specs.DueActs.{ClassId, sending_told, first_made, first_of, live_places, next_act, send_at, start_at, stop_of}
use Rattle.sq_machine.specs.Entries.{History, entry_at}
use Rattle.sq_machine.specs.Farms.{Sending, Stock, full, send_of, start_due}
use Rattle.sq_machine.specs.FarmReadings.{farm_of, farm_with}
use Rattle.sq_machine.specs.Numbered.{picks}
use Rattle.sq_machine.specs.Processes.{home_of, lives_on, proc_count, stop_due}
use Rattle.sq_base.specs.declared.helpers.Cause.TheVariants as cause
use Rattle.sq_commands.specs.Requests.{client_of, is_even_key, number_after, reply_line, target_text}
use Rattle.sq_machine.specs.Machine.{act_next, has_start, next, next_at, outcome_over, step_next, told_of_line, with_place}
use Rattle.sq_machine.specs.Marking.{marked}
use Rattle.sq_machine.specs.Marks.{Past, Put, entries}
use Rattle.sq_machine.specs.Next.{Next, gives, nothing, refuse_if, refuse_open, refuses}
use Rattle.sq_machine.specs.Readings.{counted_moment, latest}
use Rattle.sq_machine.specs.KeptLists.{CachedReplies, fresh_for}
use Rattle.sq_machine.specs.Limits.{conn_limit, key_limit, last_number}
use Rattle.sq_machine.specs.Epochs.{channels_named, name_of_class, place_of_class}
use Rattle.sq_machine.specs.Checks.{ask_count, ask_of, check_open, epoch_of, is_done, open_check}
use Rattle.sq_machine.specs.Questions.{pending, put_count}
use Rattle.sq_machine.specs.KeptReadings.{kept}
use Rattle.sq_machine.specs.StepRule.{StepSays, says_asked, says_fault, says_fresh, says_need, step_says}
use Rattle.sq_model.proofs.RuleLaws.{SaysOf, step_is}
use Rattle.sq_machine.specs.Transcripts.{LineIs, OnFree, Outside, ReplyTo, channels_of, line_is, line_told}
use Rattle.sq_replay.specs.RunText.{first_history}
use Rattle.sq_commands.specs.declared.drivers.Driver.{Driver}
use Rattle.sq_commands.specs.declared.rehearsal_stages.DriverStage.{DriverStage}
use Rattle.sq_commands.specs.declared.rehearsal_stages.DriverStage.TheVariants as stage
use Rattle.sq_commands.specs.declared.rehearsal_stages.Pending.{Pending}
use Rattle.sq_commands.specs.declared.rehearsal_stages.SentQuestion.{SentQuestion}
use Rattle.sq_commands.specs.declared.rehearsal_stages.StepKind.{StepKind}
use Rattle.sq_commands.specs.declared.rehearsal_stages.StepKind.TheVariants as said
use Rattle.sq_commands.specs.declared.summaries.Summary.{Summary}
use Rattle.sq_commands.specs.Driving.{act_made, answered, answered_at, asked, event_at, first_driver, is_acting, moment_of, reply_event, request_event, said_by}
use Rattle.sq_commands.specs.Going.{acted, acted_by, acting, after_request, at_stage, checks_begun, driven, first_driven, next_in_round, next_request, onward, put_back, round_begun, turn_taken}
use Rattle.sq_commands.specs.Rehearsals.{acted_on, answer_to, drive, made_on, rehearsal, turn_limit, turned}
use Rattle.sq_commands.specs.Summaries.{count_by, count_denied, count_told, counted}
use Rattle.sq_machine.specs.Events.{asking, conn_news}
use Rattle.sq_machine.proofs.ConnectionLaws.{peer_at_more}
use Rattle.sq_commands.proofs.FuelLaws.{acted_low, acting_low, act_low, asked_low, at_hand, fuel, length_more, next_low, onward_low, replied_low, rest, stepped_low}
use Rattle.sq_commands.proofs.TargetLaws.{target_made}
use Rattle.sq_commands.proofs.TurnLaws.{turn_acts, turn_makes}
use Rattle.sq_commands.proofs.WorldLaws.{AreHeld, AreOthers, IsOpen, IsQuiet, World, ask_given, asked_world, close_given, closed_world, held_more, none_held, open_given, opened_open, opened_world, quiet_entry, quiet_same, quiet_world}

-- what answers count as requests

abbrev asks_in : Told → ℕ
asks_in (told.Check n) = 1
asks_in t = 0

denied_asks : (w : Why) (s : Summary) → (count_denied w s).asks ≡ s.asks
denied_asks (why.Fault rule acl cause) s = refl
denied_asks (why.Rule n) s = refl
denied_asks why.Default s = refl
denied_asks why.Empty s = refl

outcome_asks : (allow : Bool) (w : Why) (s : Summary) → (count_by allow w s).asks ≡ s.asks
outcome_asks true w s = refl
outcome_asks false w s = denied_asks w s

told_asks : (t : Told) (s : Summary) → (count_told t s).asks ≡ s.asks + asks_in t
told_asks (told.Check n) s = refl
told_asks (told.Judged epoch outcome) s = outcome_asks outcome.allow outcome.why s ∙ omega arith
told_asks (told.Send proc question channel key) s = omega arith
told_asks t s = omega arith

-- what the machine answers to what

abbrev IfGives : Next → (Told → Type 0) → Type 0
IfGives (gives t) P = P t
IfGives n P = ⊤

refuse_so : (P : Told → Type 0) (b : Bool) (r : Refusal) (n : Next) → IfGives n P → IfGives (refuse_if b r n) P
refuse_so P true r n p = tt
refuse_so P false r n p = p

open_so : (P : Told → Type 0) (o : Option ℕ) (n : Next) → IfGives n P → IfGives (refuse_open o n) P
open_so P None n p = p
open_so P (Some k) n p = tt

abbrev IsOther : Told → Type 0
IsOther t = asks_in t ≡ 0

abbrev IsCheck : Told → Type 0
IsCheck t = asks_in t ≡ 1

abbrev IfTold : Option Told → Type 0
IfTold None = ⊤
IfTold (Some t) = IsOther t

or_so : (a b : Option Told) → IfTold a → IfTold b → IfTold (option_or a b)
or_so None b p q = q
or_so (Some t) b p q = p

stop_so : (o : Option ℕ) → IfTold (option_map (λ k. told.Stop k) o)
stop_so None = tt
stop_so (Some k) = refl

first_so : (f : ClassId → Option Told) (ps : List ClassId) → ((p : ClassId) → IfTold (f p)) → IfTold (first_made f ps)
first_so f [] each = tt
first_so f (p ∷ ps) each = or_so (f p) (first_made f ps) (each p) (first_so f ps each)

act_so : (o : Option Told) → IfTold o → IfGives (act_next o) IsOther
act_so None p = tt
act_so (Some t) p = p

sending_so : (o : Option Sending) → IfTold (option_map sending_told o)
sending_so None = tt
sending_so (Some s) = refl

starting_so : (b : Bool) (e : ℕ) (name : List ℕ) → IfTold (if b then Some (told.Start e name) else None)
starting_so true e name = refl
starting_so false e name = tt

start_so : (configs : List Configuration) (m : Past) (p : ClassId) → IfTold (start_at configs m p)
start_so configs m p = by (farm_of configs m p.epoch p.class)
  where
    by : (o : Option Stock) → IfTold (option_and_then (λ v. if start_due v then Some
        (told.Start p.epoch (name_of_class configs p.epoch p.class)) else None) o)
    by None = tt
    by (Some v) = starting_so (start_due v) p.epoch (name_of_class configs p.epoch p.class)

next_act_so : (configs : List Configuration) (m : Past) → IfTold (next_act configs m)
next_act_so configs m =
    let places = live_places configs (entries m) in
    or_so (stop_of (entries m)) _ (stop_so (first_of (picks (stop_due (entries m)) (proc_count (entries m)))))
    (or_so (first_made (send_at configs m) places) _
    (first_so (send_at configs m) places
    (λ p. sending_so (option_and_then send_of (farm_of configs m p.epoch p.class))))
    (first_so (start_at configs m) places (start_so configs m)))

asked_other : (name : List ℕ) (p : Put) (now : ℕ) (o : Option ℕ) (full : Bool) (count : ℕ)
    → IsOther (says_asked name p now o full count).answer
asked_other name p now (Some q) full count = refl
asked_other name p now None true count = refl
asked_other name p now None false count = refl

fresh_other : (class : Class) (p : Put) (now : ℕ) (v : Option CachedReply) (o : Option ℕ) (full : Bool) (count : ℕ)
    → IsOther (says_fresh class p now v o full count).answer
fresh_other class p now (Some v) o full count = refl
fresh_other class p now None o full count = asked_other class.name p now o full count

need_other : (class : Class) (p : Put) (now : ℕ) (k : CachedReplies) (o : Option ℕ) (full : Bool) (count : ℕ)
    → IsOther (says_need class p now k o full count).answer
need_other class p now k o full count = by (nat_lt key_limit (length p.key))
  where
    by : (b : Bool) → IsOther (if b then says_fault class.name p cause.KeyTooLong now
        else says_fresh class p now (fresh_for class p.key now k) o full count).answer
    by true = refl
    by false = fresh_other class p now (fresh_for class p.key now k) o full count

says_other : (configs : List Configuration) (m : Past) (n now : ℕ) (s : StepSays) → SaysOf configs m n now s
    → IsOther s.answer
says_other configs m n now s (inl e) = ap (λ (x : StepSays). asks_in x.answer) e
says_other configs m n now s (inr d) = ap (λ (x : StepSays). asks_in x.answer) d.is
    ∙ need_other d.needed.class
    (record { epoch = d.needed.asked.epoch; class = d.needed.place; key = d.needed.key }) now
    (kept configs m d.needed.asked.epoch d.needed.place)
    (pending configs m d.needed.asked.epoch d.needed.place d.needed.key)
    (full (farm_with configs m d.needed.asked.epoch d.needed.place d.needed.class)) (put_count m)

step_other : (configs : List Configuration) (m : Past) (n now : ℕ) → IsOther (step_says configs m n now).answer
step_other configs m n now = says_other configs m n now (step_says configs m n now) (step_is configs m n now)

line_other : (l : LineIs) → IsOther (line_told l)
line_other (ReplyTo q r) = refl
line_other Outside = refl
line_other OnFree = refl

place_so : (o : Option ℕ) (f : ℕ → Next) → ((place : ℕ) → IfGives (f place) IsOther) → IfGives (with_place o f) IsOther
place_so None f each = tt
place_so (Some place) f each = each place

-- whether an event of the driver asks a request
abbrev asks_of : Event → ℕ
asks_of (Ask c method target fields) = 1
asks_of event = 0

abbrev IsSoAt : Event → Told → Type 0
IsSoAt event t = asks_in t ≡ asks_of event

-- for the events that a driver wants
abbrev IsWanted : Event → Type 0
IsWanted (Open c addr port) = ⊤
IsWanted (Close c) = ⊤
IsWanted (Ask c method target fields) = ⊤
IsWanted (Step n) = ⊤
IsWanted (Take n) = ⊤
IsWanted (Started e name) = ⊤
IsWanted (Line k bytes) = ⊤
IsWanted Act = ⊤
IsWanted event = ⊥

wanted_so : (configs : List Configuration) (m : Past) (now : ℕ) (event : Event) → IsWanted event
    → IfGives (next_at configs m now event) (IsSoAt event)
unfolding next_at
wanted_so configs m now (Open c addr port) w =
    let full = refuse_if (nat_le conn_limit (open_count (entries m))) (refusal.TooManyConns conn_limit)
    (gives told.Fine) in
    refuse_so IsOther (is_some (peer_at (entries m) c)) (refusal.ConnInUse c) full
    (refuse_so IsOther (nat_le conn_limit (open_count (entries m))) (refusal.TooManyConns conn_limit)
    (gives told.Fine) (refl {A = ℕ} {a = 0}))
wanted_so configs m now (Close c) w = refuse_so IsOther (is_none (peer_at (entries m) c)) (refusal.UnknownConn c)
    (gives told.Fine) (refl {A = ℕ} {a = 0})
wanted_so configs m now (Ask c method target fields) w =
    let count = suc (ask_count (entries m)) in
    let spent = refuse_if (nat_le last_number count) (refusal.Spent count) (gives (told.Check count)) in
    refuse_so IsCheck (is_none (peer_at (entries m) c)) (refusal.UnknownConn c)
    (refuse_open (open_check (entries m) c) spent)
    (open_so IsCheck (open_check (entries m) c) spent
    (refuse_so IsCheck (nat_le last_number count) (refusal.Spent count) (gives (told.Check count))
    (refl {A = ℕ} {a = 1})))
wanted_so configs m now (Step n) w =
    let s = step_says configs m n now in
    refuse_so IsOther (not (check_open (entries m) n)) (refusal.UnknownCheck n) (step_next (put_count m) s)
    (refuse_so IsOther (is_some s.put && nat_le last_number (suc (put_count m))) (refusal.Spent (suc (put_count m)))
    (gives s.answer) (step_other configs m n now))
wanted_so configs m now (Take n) w =
    let judged = gives (told.Judged (epoch_of (ask_of (entries m) n)) (outcome_over configs m n (ask_of (entries m) n)))
    in
    refuse_so IsOther (not (check_open (entries m) n)) (refusal.UnknownCheck n)
    (refuse_if (not (is_done (entries m) n)) (refusal.NotDone n) judged)
    (refuse_so IsOther (not (is_done (entries m) n)) (refusal.NotDone n) judged (refl {A = ℕ} {a = 0}))
wanted_so configs m now (Started e name) w =
    let count = suc (proc_count (entries m)) in
    let spent = refuse_if (nat_le last_number count) (refusal.Spent count) (gives (told.Proc count)) in
    place_so (place_of_class configs e name)
    (λ place. refuse_if (not (has_start (entries m) e name)) (refusal.NoStartOpen e place) spent)
    (λ place. refuse_so IsOther (not (has_start (entries m) e name)) (refusal.NoStartOpen e place) spent
    (refuse_so IsOther (nat_le last_number count) (refusal.Spent count) (gives (told.Proc count))
    (refl {A = ℕ} {a = 0})))
wanted_so configs m now (Line k bytes) w =
    refuse_so IsOther (not (lives_on (entries m) k)) (refusal.UnknownProc k)
    (gives (told_of_line configs (entries m) k bytes))
    (line_other (line_is (channels_of (option_map_or (λ p. channels_named configs p.epoch p.class)
    (home_of (entries m) k) 0) (entries m) k) bytes))
wanted_so configs m now Act w = act_so (next_act configs m) (next_act_so configs m)
wanted_so configs m now event w = absurd w

next_so : (configs : List Configuration) (m : Past) (now : ℕ) (event : Event) → IsWanted event
    → IfGives (next configs m now event) (IsSoAt event)
unfolding next
next_so configs m now event w = wanted_so configs m (counted_moment (entries m) now) event w

may_so : (b : Bool) (n : Next) (P : Told → Type 0) → IfGives n P → IfGives (if b then n else nothing) P
may_so true n P p = p
may_so false n P p = tt

answer_so : (configs : List Configuration) (h : History) (now : ℕ) (event : Event) → IsWanted event
    → IfGives (answer_to configs h now event) (IsSoAt event)
answer_so configs h now (Ask conn method target fields) w =
    may_so (is_some (made_request method target 1 fields)) _ IsCheck
    (next_so configs (marked configs h) (max now (latest h)) (Ask conn method target fields) w)
answer_so configs h now event w = next_so configs (marked configs h) (max now (latest h)) event w

-- the driver

-- no check is at hand: all that were begun are put back or ended
record Free (a last : ℕ) (h : History) (d : Driver) : Type 0 where
  number_is : a ≡ d.number
  few : d.number ≤ d.last
  same : d.last ≡ last
  room : length d.others ≤ 4
  world : World a h d.others (suc d.number) (suc d.number) 0

-- a check is at hand
record Busy (a last : ℕ) (h : History) (d : Driver) : Type 0 where
  number_is : a ≡ d.number
  few : d.number ≤ d.last
  same : d.last ≡ last
  room : suc (length d.others) ≤ 4
  world : World a h d.others (suc d.number) (suc d.number) 1
  open_is : IsOpen h d.at.conn
  other : AreOthers d.at.conn d.others

-- a request was begun, and its connection did not open
record Begun (a last : ℕ) (h : History) (d : Driver) : Type 0 where
  number_is : suc a ≡ d.number
  few : d.number ≤ d.last
  same : d.last ≡ last
  room : suc (length d.others) ≤ 4
  world : World a h d.others d.number d.number 0

-- or it did
record Opened (a last : ℕ) (h : History) (d : Driver) : Type 0 where
  number_is : suc a ≡ d.number
  few : d.number ≤ d.last
  same : d.last ≡ last
  room : suc (length d.others) ≤ 4
  world : World a h d.others (suc d.number) d.number 1
  open_is : IsOpen h d.number
  other : AreOthers d.number d.others

-- so many requests were asked at each stage
abbrev IsAt : ℕ → ℕ → History → DriverStage → Driver → Type 0
IsAt a last h stage.Opening d = Begun a last h d
IsAt a last h stage.Asking d = Opened a last h d
IsAt a last h stage.Stepping d = Busy a last h d
IsAt a last h stage.Acting d = Busy a last h d
IsAt a last h (stage.Starting epoch class) d = Busy a last h d
IsAt a last h stage.Replying d = Free a last h d × (0 < length d.sent)
IsAt a last h stage.Taking d = Busy a last h d
IsAt a last h stage.Closing d = Busy a last h d
IsAt a last h stage.Over d = a ≡ last

abbrev IsNow : ℕ → ℕ → History → Driver → Type 0
IsNow a last h d = IsAt a last h d.stage d

next_now : (a last : ℕ) (h : History) (d : Driver) → suc (length d.others) ≤ 4 → Free a last h d
    → IsNow a last h (next_request d)
next_now a last h d room f = by (nat_lt d.number d.last) refl
  where
    by : (b : Bool) → nat_lt d.number d.last ≡ b → IsNow a last h (if b then record d
        { stage = stage.Opening; number = d.number + 1; x = number_after d.x; in_round = false }
        else record d { stage = stage.Over; in_round = false })
    by true less =
        let few : d.number < d.last = grind (arith, nat_tests, less) in
        record {
          number_is = omega (arith, f.number_is);
          few = omega (arith, few);
          same = f.same;
          room = room;
          world = record {
            counts = f.world.counts;
            unopened = λ c far. f.world.unopened c (omega (arith, far));
            unasked = λ n c is. let below = f.world.unasked n c is in omega (arith, below);
            held = f.world.held;
            few = f.world.few;
          };
        }
    by false less =
        let all : d.number ≡ d.last = grind (arith, nat_tests, less, f.few) in f.number_is ∙ all ∙ f.same

-- the first of these checks is driven
first_busy : (a last : ℕ) (h : History) (d e : Driver) (p : Pending) → d.others ≡ p ∷ e.others → e.at ≡ p
    → e.number ≡ d.number → e.last ≡ d.last → Free a last h d → Busy a last h e
first_busy a last h d e p is at number last_is f =
    let room : length (p ∷ e.others) ≤ 4 = subst (λ (ps : List Pending). length ps ≤ 4) is f.room in
    let held : AreHeld h (p ∷ e.others) = subst (AreHeld h) is f.world.held in
    let few : open_count h ≤ length (p ∷ e.others) + 0 =
    subst (λ (ps : List Pending). open_count h ≤ length ps + 0) is f.world.few in
    record {
      number_is = f.number_is ∙ sym number;
      few = omega (arith, f.few, number, last_is);
      same = last_is ∙ f.same;
      room = room;
      world = record {
        counts = f.world.counts;
        unopened = λ c far. f.world.unopened c (omega (arith, far, number));
        unasked = λ n c is. let below = f.world.unasked n c is in omega (arith, below, number);
        held = held.2;
        few = omega (arith, few);
      };
      open_is = subst (λ (q : Pending). IsOpen h q.conn) (sym at) held.0;
      other = subst (λ (q : Pending). AreOthers q.conn e.others) (sym at) held.1;
    }

-- no check is left
none_now : (a last : ℕ) (h : History) (d e : Driver) → e.others ≡ [] → e.number ≡ d.number → e.last ≡ d.last
    → Free a last h d → d.others ≡ [] → IsNow a last h (next_request e)
none_now a last h d e none number last_is f was =
    let none_at : length e.others ≡ 0 = ap length none in
    next_now a last h e (omega (arith, none_at)) (record {
      number_is = f.number_is ∙ sym number;
      few = omega (arith, f.few, number, last_is);
      same = last_is ∙ f.same;
      room = omega (arith, none_at);
      world = record {
        counts = f.world.counts;
        unopened = λ c far. f.world.unopened c (omega (arith, far, number));
        unasked = λ n c is. let below = f.world.unasked n c is in omega (arith, below, number);
        held = subst (AreHeld h) (was ∙ sym none) f.world.held;
        few = subst (λ (ps : List Pending). open_count h ≤ length ps + 0) (was ∙ sym none) f.world.few;
      };
    })

first_now : (a last : ℕ) (h : History) (d : Driver) (ps : List Pending) → d.others ≡ ps → Free a last h d
    → IsNow a last h (first_driven (slice_get ps 0) (record d { others = drop 1 ps }))
first_now a last h d [] is f = none_now a last h d (record d { others = [] }) refl refl refl f is
first_now a last h d (p ∷ ps) is f = first_busy a last h d
    (record d { stage = stage.Stepping; at = p; left = length ps; others = ps }) p is refl refl refl f

driven_now : (a last : ℕ) (h : History) (d : Driver) (ps : List Pending) → d.others ≡ ps → Free a last h d
    → IsNow a last h (driven (slice_get ps 0) (record d { left = d.left - 1; others = drop 1 ps }))
driven_now a last h d [] is f = none_now a last h d (record d { left = d.left - 1; others = [] }) refl refl refl f is
driven_now a last h d (p ∷ ps) is f = first_busy a last h d
    (record d { stage = stage.Stepping; at = p; left = d.left - 1; others = ps }) p is refl refl refl f

-- what is so of a driver with no check at hand is so of each with its numbers and its open_is checks
alike : (a last : ℕ) (h : History) (d e : Driver) → e.others ≡ d.others → e.number ≡ d.number → e.last ≡ d.last
    → Free a last h d → Free a last h e
alike a last h d e others number last_is f = record {
  number_is = f.number_is ∙ sym number;
  few = omega (arith, f.few, number, last_is);
  same = last_is ∙ f.same;
  room = subst (λ (ps : List Pending). length ps ≤ 4) (sym others) f.room;
  world = record {
    counts = f.world.counts;
    unopened = λ c far. f.world.unopened c (omega (arith, far, number));
    unasked = λ n c is. let below = f.world.unasked n c is in omega (arith, below, number);
    held = subst (AreHeld h) (sym others) f.world.held;
    few = subst (λ (ps : List Pending). open_count h ≤ length ps + 0) (sym others) f.world.few;
  };
}

round_now : (a last : ℕ) (h : History) (d : Driver) → Free a last h d → IsNow a last h (round_begun d)
round_now a last h d f = by (length d.sent == 0) refl
  where
    by : (b : Bool) → (length d.sent == 0) ≡ b
        → IsNow a last h (if b then checks_begun d else at_stage stage.Replying d)
    by true none = first_now a last h d d.others refl f
    by false some = (alike a last h d (at_stage stage.Replying d) refl refl refl f, grind (arith, nat_tests, some))

next_in_round_now : (a last : ℕ) (h : History) (d : Driver) → Free a last h d → IsNow a last h (next_in_round d)
next_in_round_now a last h d f = by (length d.others == 0) (d.left == 0) refl
  where
    by : (b c : Bool) → (length d.others == 0) ≡ b → IsNow a last h (if b then next_request d
        else (if c then round_begun d
        else driven (slice_get d.others 0) (record d { left = d.left - 1; others = drop 1 d.others })))
    by true c none = next_now a last h d (grind (arith, nat_tests, none)) f
    by false true some = round_now a last h d f
    by false false some = driven_now a last h d d.others refl f

after_now : (a last : ℕ) (h : History) (d : Driver) → Free a last h d → IsNow a last h (after_request d)
after_now a last h d f = by (nat_le 4 (length d.others)) (d.number == d.last) refl
  where
    by : (b c : Bool) → nat_le 4 (length d.others) ≡ b
        → IsNow a last h (if b || c then round_begun (record d { in_round = true }) else next_request d)
    by true c many = round_now a last h (record d { in_round = true }) (alike a last h d _ refl refl refl f)
    by false true few = round_now a last h (record d { in_round = true }) (alike a last h d _ refl refl refl f)
    by false false few = next_now a last h d (grind (arith, nat_tests, few)) f

onward_now : (a last : ℕ) (h : History) (d : Driver) → Free a last h d → IsNow a last h (onward d)
onward_now a last h d f = by d.in_round
  where
    by : (b : Bool) → IsNow a last h (if b then next_in_round d else after_request d)
    by true = next_in_round_now a last h d f
    by false = after_now a last h d f

-- the check at hand is put back
back_now : (a last : ℕ) (h : History) (d : Driver) → Busy a last h d → IsNow a last h (put_back d)
back_now a last h d b =
    let more : length (d.others ++ d.at ∷ []) ≡ suc (length d.others) = length_more d.others d.at in
    onward_now a last h (record d { others = d.others ++ d.at ∷ [] }) (record {
      number_is = b.number_is;
      few = b.few;
      same = b.same;
      room = omega (arith, more, b.room);
      world = record {
        counts = b.world.counts;
        unopened = b.world.unopened;
        unasked = b.world.unasked;
        held = held_more h d.others d.at b.open_is b.other b.world.held;
        few = omega (arith, more, b.world.few);
      };
    })

-- and what is so of a driver with a check at hand is so of each with these
still : (a last : ℕ) (h : History) (d e : Driver) → e.others ≡ d.others → e.number ≡ d.number → e.last ≡ d.last
    → e.at.conn ≡ d.at.conn → Busy a last h d → Busy a last h e
still a last h d e others number last_is conn b = record {
  number_is = b.number_is ∙ sym number;
  few = omega (arith, b.few, number, last_is);
  same = last_is ∙ b.same;
  room = subst (λ (ps : List Pending). suc (length ps) ≤ 4) (sym others) b.room;
  world = record {
    counts = b.world.counts;
    unopened = λ c far. b.world.unopened c (omega (arith, far, number));
    unasked = λ n c is. let below = b.world.unasked n c is in omega (arith, below, number);
    held = subst (AreHeld h) (sym others) b.world.held;
    few = subst (λ (ps : List Pending). open_count h ≤ length ps + 1) (sym others) b.world.few;
  };
  open_is = subst (IsOpen h) (sym conn) b.open_is;
  other = subst (λ (c : ℕ). AreOthers c e.others) (sym conn)
      (subst (λ (ps : List Pending). AreOthers d.at.conn ps) (sym others) b.other);
}

acted_now : (a last : ℕ) (h : History) (d : Driver) → Busy a last h d → IsNow a last h (acted d)
acted_now a last h d b = by d.said
  where
    took : (c : Bool) → IsNow a last h (if c then at_stage stage.Closing d else at_stage stage.Stepping d)
    took true = still a last h d (at_stage stage.Closing d) refl refl refl refl b
    took false = still a last h d (at_stage stage.Stepping d) refl refl refl refl b

    waits : (c : Bool) → IsNow a last h (if c then at_stage stage.Closing d else put_back d)
    waits true = still a last h d (at_stage stage.Closing d) refl refl refl refl b
    waits false = back_now a last h d b

    done : (c : Bool) → IsNow a last h (if c then at_stage stage.Taking d else put_back d)
    done true = still a last h d (at_stage stage.Taking d) refl refl refl refl b
    done false = back_now a last h d b

    by : (k : StepKind) → IsNow a last h (acted_by k d)
    by said.Took = took (d.at.more == 0)
    by said.Waits = waits (d.at.more == 0)
    by said.Done = done (d.in_round || d.at.more == 0)

acting_now : (a last : ℕ) (h : History) (d : Driver) → Busy a last h d → IsNow a last h (acting d)
acting_now a last h d b = by (d.at.more == 0)
  where
    by : (c : Bool) → IsNow a last h
        (if c then acted d else record d { stage = stage.Acting; at = turn_taken d.at })
    by true = acted_now a last h d b
    by false = still a last h d (record d { stage = stage.Acting; at = turn_taken d.at }) refl refl refl refl b

act_now : (a last : ℕ) (h : History) (t : Told) (d : Driver) → Busy a last h d → IsNow a last h (act_made t d)
act_now a last h (told.Start epoch class) d b =
    still a last h d (at_stage (stage.Starting epoch class) d) refl refl refl refl b
act_now a last h (told.Send proc question channel key) d b =
    let e : Driver = record d
    { sent = d.sent ++ (record { proc = proc; channel = channel; ok = is_even_key key }) ∷ [] } in
    acting_now a last h e (still a last h d e refl refl refl refl b)
act_now a last h t d b = acting_now a last h d b

busy_same : (a last : ℕ) (h g : History) (d : Driver) → IsQuiet h g → Busy a last h d → Busy a last g d
busy_same a last h g d quiet b = record {
  number_is = b.number_is;
  few = b.few;
  same = b.same;
  room = b.room;
  world = quiet_world a h g d.others (suc d.number) (suc d.number) 1 quiet b.world;
  open_is = ap (λ o. is_some o) (quiet.peers d.at.conn) ∙ b.open_is;
  other = b.other;
}

free_same : (a last : ℕ) (h g : History) (d : Driver) → IsQuiet h g → Free a last h d → Free a last g d
free_same a last h g d quiet f = record {
  number_is = f.number_is;
  few = f.few;
  same = f.same;
  room = f.room;
  world = quiet_world a h g d.others (suc d.number) (suc d.number) 0 quiet f.world;
}

-- turns

-- all requests were asked at the end of the turns that are left
abbrev GoesOn : ℕ → ℕ → (Driver → History → History) → Type 0
GoesOn last k go = (a : ℕ) (d : Driver) (h : History) → (counted h).asks ≡ a → IsNow a last h d → fuel d ≤ k
    → (counted (go d h)).asks ≡ last

-- an event that neither opens or closes a connection nor asks, made or refused
quiet_made : (last : ℕ) (go : Driver → History → History) (d : Driver) (h : History) (event : Event) (n : Next)
    → IfGives n (IsSoAt event) → asks_of event ≡ 0 → conn_news event ≡ None → asking event ≡ None
    → ((t : Told) (g : History) → IsQuiet h g → (counted g).asks ≡ (counted h).asks
    → (counted (go (answered t d) g)).asks ≡ last)
    → (counted (made_on go d h event n)).asks ≡ last
quiet_made last go d h event (gives t) so none news asks more =
    let moment = max (moment_of d) (latest h) in
    let e = entry_at moment event t in
    let plain : asks_in t ≡ 0 = so ∙ none in
    let count = told_asks t (counted h) in
    more t (e ∷ h) (quiet_entry e h news asks) (omega (arith, plain, count))
quiet_made last go d h event (refuses r) so none news asks more = more told.Fine h (quiet_same h) refl
quiet_made last go d h event nothing so none news asks more = more told.Fine h (quiet_same h) refl

act_turn : (last : ℕ) (go : Driver → History → History) (d : Driver) (h : History) (n : Next)
    → IfGives n (IsSoAt Act)
    → ((t : Told) (g : History) → IsQuiet h g → (counted g).asks ≡ (counted h).asks
    → (counted (go (answered t d) g)).asks ≡ last)
    → (counted (go (acted d) h)).asks ≡ last
    → (counted (acted_on go d h n)).asks ≡ last
act_turn last go d h (gives t) so more none = quiet_made last go d h Act (gives t) so refl refl refl more
act_turn last go d h (refuses r) so more none = none
act_turn last go d h nothing so more none = none

-- the event that a stage wants, and what the machine makes of it
made_at : (configs : List Configuration) (k : ℕ) (d : Driver) (h : History) (s : DriverStage) (event : Event)
    → d.stage ≡ s → is_acting s ≡ false → event_at s d ≡ Some event
    → drive configs (suc k) d h
    ≡ made_on (drive configs k) d h event (answer_to configs h (moment_of d) event)
made_at configs k d h s event is acting wanted =
    turn_makes configs k d h (ap is_acting is ∙ acting)
    ∙ ap (turned (drive configs k) configs d h) (ap (λ (x : DriverStage). event_at x d) is ∙ wanted)

abbrev AsksAll : ℕ → History → Type 0
AsksAll last h = (counted h).asks ≡ last

opening_turn : (configs : List Configuration) (last k a : ℕ) (d : Driver) (h : History) → d.stage ≡ stage.Opening
    → (counted h).asks ≡ a → Begun a last h d → 30 + rest d ≤ suc k → GoesOn last k (drive configs k)
    → AsksAll last (drive configs (suc k) d h)
opening_turn configs last k a d h is counts b low more =
    let event = Open d.number (client_of d.x) 4000 in
    let moment = max (moment_of d) (latest h) in
    let said : answer_to configs h (moment_of d) event ≡ gives told.Fine =
    open_given configs h moment d.number (client_of d.x) 4000 (b.world.unopened d.number (omega arith))
    (omega (arith, b.world.few, b.room)) in
    let g = entry_at moment event told.Fine ∷ h in
    let e = at_stage stage.Asking d in
    let there : drive configs (suc k) d h ≡ drive configs k e g =
    made_at configs k d h stage.Opening event is refl refl ∙ ap (made_on (drive configs k) d h event) said
    ∙ ap (λ (s : DriverStage). drive configs k (answered_at s told.Fine d) g) is in
    let open_is : Opened a last g e = record {
      number_is = b.number_is;
      few = b.few;
      same = b.same;
      room = b.room;
      world = opened_world a h d.others d.number moment (client_of d.x) 4000 b.world;
      open_is = opened_open h d.number moment (client_of d.x) 4000;
      other = none_held h d.number d.others (b.world.unopened d.number (omega arith)) b.world.held;
    } in
    subst (AsksAll last) (sym there) (more a e g counts open_is (omega (arith, low)))

asking_turn : (configs : List Configuration) (last k a : ℕ) (d : Driver) (h : History) → suc last < last_number
    → d.stage ≡ stage.Asking → (counted h).asks ≡ a → Opened a last h d → 29 + rest d ≤ suc k
    → GoesOn last k (drive configs k) → AsksAll last (drive configs (suc k) d h)
asking_turn configs last k a d h few is counts b low more =
    let event = request_event d in
    let moment = max (moment_of d) (latest h) in
    let n = suc (ask_count h) in
    let below : suc (ask_count h) < last_number = omega (arith, few, b.world.counts, b.number_is, b.few, b.same) in
    let next_is : next configs (marked configs h) moment event ≡ gives (told.Check n) =
    ask_given configs h moment d.number (codes "GET") (target_text d.x) [] b.open_is b.world.unasked below in
    let said : answer_to configs h (moment_of d) event ≡ gives (told.Check n) =
    ap (λ (c : Bool). if c then next configs (marked configs h) moment event else nothing) (target_made d.x) ∙ next_is
    in
    let g = entry_at moment event (told.Check n) ∷ h in
    let e = asked (told.Check n) d in
    let there : drive configs (suc k) d h ≡ drive configs k e g =
    made_at configs k d h stage.Asking event is refl refl ∙ ap (made_on (drive configs k) d h event) said
    ∙ ap (λ (s : DriverStage). drive configs k (answered_at s (told.Check n) d) g) is in
    let world = asked_world a h d.others d.number moment (codes "GET") (target_text d.x) [] n b.world in
    let busy : Busy (suc a) last g e = record {
      number_is = b.number_is;
      few = b.few;
      same = b.same;
      room = b.room;
      world = world;
      open_is = ap (λ o. is_some o) (peer_at_more (entry_at moment event (told.Check n)) h d.number) ∙ b.open_is;
      other = b.other;
    } in
    let less = asked_low (told.Check n) d in
    subst (AsksAll last) (sym there) (more (suc a) e g (omega (arith, counts)) busy (omega (arith, low, less)))

closing_turn : (configs : List Configuration) (last k a : ℕ) (d : Driver) (h : History) → d.stage ≡ stage.Closing
    → (counted h).asks ≡ a → Busy a last h d → 2 + rest d ≤ suc k → GoesOn last k (drive configs k)
    → AsksAll last (drive configs (suc k) d h)
closing_turn configs last k a d h is counts b low more =
    let event = Close d.at.conn in
    let moment = max (moment_of d) (latest h) in
    let said : answer_to configs h (moment_of d) event ≡ gives told.Fine =
    close_given configs h moment d.at.conn b.open_is in
    let g = entry_at moment event told.Fine ∷ h in
    let there : drive configs (suc k) d h ≡ drive configs k (onward d) g =
    made_at configs k d h stage.Closing event is refl refl ∙ ap (made_on (drive configs k) d h event) said
    ∙ ap (λ (s : DriverStage). drive configs k (answered_at s told.Fine d) g) is in
    let free : Free a last g d = record {
      number_is = b.number_is;
      few = b.few;
      same = b.same;
      room = omega (arith, b.room);
      world = closed_world a h d.others d.at.conn moment (suc d.number) (suc d.number) b.open_is b.other b.world;
    } in
    let less = onward_low d in
    subst (AsksAll last) (sym there) (more a (onward d) g counts (onward_now a last g d free)
    (omega (arith, low, less)))

-- a stage whose event is quiet
quiet_turn : (configs : List Configuration) (last k a : ℕ) (d : Driver) (h : History) (s : DriverStage) (event : Event)
    → d.stage ≡ s → is_acting s ≡ false → event_at s d ≡ Some event → IsWanted event → asks_of event ≡ 0
    → conn_news event ≡ None → asking event ≡ None → (counted h).asks ≡ a
    → ((t : Told) (g : History) → IsQuiet h g → IsNow a last g (answered_at s t d))
    → ((t : Told) → fuel (answered_at s t d) ≤ k)
    → GoesOn last k (drive configs k) → AsksAll last (drive configs (suc k) d h)
quiet_turn configs last k a d h s event is acting wants wanted none news asks counts now low more =
    subst (AsksAll last) (sym (made_at configs k d h s event is acting wants))
    (quiet_made last (drive configs k) d h event (answer_to configs h (moment_of d) event)
    (answer_so configs h (moment_of d) event wanted) none news asks
    (λ t g quiet same. subst (λ (x : DriverStage). AsksAll last (drive configs k (answered_at x t d) g)) (sym is)
    (more a (answered_at s t d) g (same ∙ counts) (now t g quiet) (low t))))

acting_turn : (configs : List Configuration) (last k a : ℕ) (d : Driver) (h : History) → d.stage ≡ stage.Acting
    → (counted h).asks ≡ a → Busy a last h d → 2 * d.at.more + 5 + rest d ≤ suc k → GoesOn last k (drive configs k)
    → AsksAll last (drive configs (suc k) d h)
acting_turn configs last k a d h is counts b low more =
    let now = max (moment_of d) (latest h) in
    let less = acted_low d in
    subst (AsksAll last) (sym (turn_acts configs k d h (ap is_acting is)))
    (act_turn last (drive configs k) d h (next configs (marked configs h) now Act)
    (next_so configs (marked configs h) now Act tt)
    (λ t g quiet same. subst (λ (x : DriverStage). AsksAll last (drive configs k (answered_at x t d) g)) (sym is)
    (more a (act_made t d) g (same ∙ counts) (act_now a last g t d (busy_same a last h g d quiet b))
    (let fewer = act_low t d in omega (arith, low, fewer))))
    (more a (acted d) h counts (acted_now a last h d b) (omega (arith, low, less))))

replying_turn : (configs : List Configuration) (last k a : ℕ) (d : Driver) (h : History) (sent : List SentQuestion)
    → d.sent ≡ sent → d.stage ≡ stage.Replying → (counted h).asks ≡ a → Free a last h d → 0 < length d.sent
    → 1 + rest d ≤ suc k → GoesOn last k (drive configs k) → AsksAll last (drive configs (suc k) d h)
replying_turn configs last k a d h [] sent_is is counts f some low more =
    let none : length d.sent ≡ 0 = ap length sent_is in absurd (omega (arith, none, some))
replying_turn configs last k a d h (q ∷ sent) sent_is is counts f some low more =
    let less = replied_low d some in
    quiet_turn configs last k a d h stage.Replying (Line q.proc (reply_line q.channel q.ok)) is refl
    (ap (λ (xs : List SentQuestion). reply_event (slice_get xs 0)) sent_is) tt refl refl refl counts
    (λ t g quiet. round_now a last g (record d { sent = drop 1 d.sent })
    (alike a last g d _ refl refl refl (free_same a last h g d quiet f)))
    (λ t. omega (arith, low, less)) more

over_turn : (configs : List Configuration) (last k a : ℕ) (d : Driver) (h : History) → d.stage ≡ stage.Over
    → (counted h).asks ≡ a → a ≡ last → AsksAll last (drive configs k d h)
over_turn configs last zero a d h is counts all = counts ∙ all
over_turn configs last (suc k) a d h is counts all =
    subst (AsksAll last) (sym (turn_makes configs k d h (ap is_acting is)
    ∙ ap (turned (drive configs k) configs d h) (ap (λ (x : DriverStage). event_at x d) is))) (counts ∙ all)

stage_turn : (configs : List Configuration) (last k a : ℕ) (d : Driver) (h : History) (s : DriverStage)
    → suc last < last_number → d.stage ≡ s → (counted h).asks ≡ a → IsAt a last h s d
    → at_hand s d.at.more + rest d ≤ suc k → GoesOn last k (drive configs k)
    → AsksAll last (drive configs (suc k) d h)
stage_turn configs last k a d h stage.Opening few is counts at low more =
    opening_turn configs last k a d h is counts at low more
stage_turn configs last k a d h stage.Asking few is counts at low more =
    asking_turn configs last k a d h few is counts at low more
stage_turn configs last k a d h stage.Stepping few is counts at low more =
    quiet_turn configs last k a d h stage.Stepping (Step d.at.check) is refl refl tt refl refl refl counts
    (λ t g quiet. acting_now a last g (record d { said = said_by t })
    (still a last g d (record d { said = said_by t }) refl refl refl refl (busy_same a last h g d quiet at)))
    (λ t. let less = stepped_low t d in omega (arith, low, less)) more
stage_turn configs last k a d h stage.Acting few is counts at low more =
    acting_turn configs last k a d h is counts at low more
stage_turn configs last k a d h (stage.Starting epoch class) few is counts at low more =
    let less = acting_low d in
    quiet_turn configs last k a d h (stage.Starting epoch class) (Started epoch class) is refl refl tt refl refl refl
    counts (λ t g quiet. acting_now a last g d (busy_same a last h g d quiet at))
    (λ t. omega (arith, low, less)) more
stage_turn configs last k a d h stage.Replying few is counts at low more =
    replying_turn configs last k a d h d.sent refl is counts at.0 at.1 low more
stage_turn configs last k a d h stage.Taking few is counts at low more =
    quiet_turn configs last k a d h stage.Taking (Take d.at.check) is refl refl tt refl refl refl counts
    (λ t g quiet. still a last g d (at_stage stage.Closing d) refl refl refl refl (busy_same a last h g d quiet at))
    (λ t. omega (arith, low)) more
stage_turn configs last k a d h stage.Closing few is counts at low more =
    closing_turn configs last k a d h is counts at low more
stage_turn configs last k a d h stage.Over few is counts at low more =
    over_turn configs last (suc k) a d h is counts at

-- no turn is left where none is before the driver
end_all : (a last : ℕ) (h : History) (s : DriverStage) (d : Driver) → at_hand s d.at.more + rest d ≤ 0
    → IsAt a last h s d → a ≡ last
end_all a last h stage.Over d low at = at
end_all a last h stage.Opening d low at = absurd (omega (arith, low))
end_all a last h stage.Asking d low at = absurd (omega (arith, low))
end_all a last h stage.Stepping d low at = absurd (omega (arith, low))
end_all a last h stage.Acting d low at = absurd (omega (arith, low))
end_all a last h (stage.Starting epoch class) d low at = absurd (omega (arith, low))
end_all a last h stage.Replying d low at = absurd (omega (arith, low))
end_all a last h stage.Taking d low at = absurd (omega (arith, low))
end_all a last h stage.Closing d low at = absurd (omega (arith, low))

drive_all : (configs : List Configuration) (last k : ℕ) → suc last < last_number → GoesOn last k (drive configs k)
drive_all configs last zero few a d h counts now low = counts ∙ end_all a last h d.stage d low now
drive_all configs last (suc k) few a d h counts now low =
    stage_turn configs last k a d h d.stage few refl counts now low
    (λ b e g is at less. drive_all configs last k few b e g is at less)

-- a rehearsal

abbrev begun : ℕ → Driver
begun count = record {
  stage = stage.Over;
  last = count;
  number = 0;
  x = 1;
  at = record { check = 0; conn = 0; more = 0 };
  said = said.Done;
  in_round = false;
  left = 0;
  others = [];
  sent = [];
}

begun_free : (count now : ℕ) (offset : ℤ) → Free 0 count (first_history now offset) (begun count)
unfolding ask_count peer_at ask_of open_count open_besides
begun_free count now offset = record {
  number_is = refl;
  few = omega arith;
  same = refl;
  room = omega arith;
  world = record {
    counts = refl;
    unopened = λ c far. refl;
    unasked = λ n c is. absurd (none-some c is);
    held = tt;
    few = omega arith;
  };
}

-- each asks as many requests as it shall
pub asks_all : (config : Configuration) (count : ℕ) → suc count < last_number
    → (rehearsal config count).asks ≡ count
unfolding rehearsal
asks_all config count few =
    let low = next_low (begun count) in
    drive_all (config ∷ []) count (turn_limit count) few 0 (first_driver count) (first_history 0 (pos 0)) refl
    (next_now 0 count (first_history 0 (pos 0)) (begun count) (omega arith) (begun_free count 0 (pos 0)))
    (omega (arith, low))

pub asks_told : (config : Configuration) (count : ℕ) (s : Summary) → suc count < last_number
    → s ≡ rehearsal config count → s.asks ≡ count
asks_told config count s few is = ap (λ (x : Summary). x.asks) is ∙ asks_all config count few
