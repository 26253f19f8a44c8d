-- What each call leaves is a desk.
use Rattle.std.proofs.Common.{◌≡◌, ◌∙◌, ◌==◌, ◌+◌, ◌-◌, ◌<◌, ℕ, ℤ, suc, ◌≤◌, List, [], ◌∷◌, nat_le, Bool, true, false, max, length, Option, None, Some, is_some, is_none, Result, Ok, Err, IfOk, IfSome, if◌then◌else◌, refl, ap, sym, subst, arith}
use Rattle.sq_base.specs.Addresses.{Address}
use Rattle.sq_base.specs.Targets.{target_of}
use Rattle.sq_base.specs.declared.helpers.Cause.TheVariants as cause
use Rattle.sq_base.specs.declared.requests.Field.{Field}
use Rattle.sq_machine.specs.declared.entries.Event.TheVariants.{Ask, Close, Died, Line, Open, Reconfigure, StartFail, Started, Step, Take}
use Rattle.sq_machine.specs.declared.entries.Event.TheVariants as event
use Rattle.sq_machine.specs.declared.entries.Told.{Told}
use Rattle.sq_machine.specs.declared.entries.Told.TheVariants as told
use Rattle.sq_machine.specs.declared.refusals.Refusal.TheVariants as refusal
use Rattle.sq_rules.specs.declared.sights.Peer.{Peer}
use Rattle.sq_rules.specs.Configurations.{Configuration, IsConfiguration}
use Rattle.sq_machine.specs.DueActs.{ClassId, Due, sends, starts, stops}
use Rattle.sq_machine.specs.Limits.{epoch_limit, last_number}
use Rattle.sq_machine.specs.Entries.{History, Noted, entry_at}
use Rattle.sq_machine.specs.Next.{gives, nothing, refuse_if}
use Rattle.sq_channel.specs.declared.replies.Got.{Got}
use Rattle.sq_channel.specs.declared.replies.Got.TheVariants as got
use Rattle.sq_checks.specs.Conns.{client_in}
use Rattle.sq_checks.specs.Records.{Judged}
use Rattle.sq_checks.specs.declared.conns.Link.{Link}
use Rattle.sq_model.specs.CheckRows.{Held, held_at, without_check, without_conn}
use Rattle.sq_model.specs.declared.stepping.Stepped.{Stepped}
use Rattle.sq_epochs.specs.EpochStates.{home_at}
use Rattle.sq_machine.specs.declared.acts.Act.{Act}
use Rattle.sq_model.specs.Answers.{ask_answer, asked_in, busy_in, close_answer, died_answer, failed_answer, name_in, open_answer, reconfigure_answer, started_answer, take_answer}
use Rattle.sq_model.specs.Changes.{after_ask, after_close, after_end_at, after_failed_at, after_open, after_reconfigured, after_started_at, after_take, at, first_state, with_epoch}
use Rattle.sq_model.specs.Promises.{IsAnswered}
use Rattle.sq_model.specs.States.{IsSame, State}
use Rattle.sq_model.proofs.ActPromises.{reconfigure_answered}
use Rattle.sq_engine.specs.Acting.{IsActPromised, after_act, due_now, told_of_act}
use Rattle.sq_engine.specs.Lines.{IsLineDone, got_told}
use Rattle.sq_engine.specs.Promised.{IsBegun}
use Rattle.sq_engine.specs.Stepping.{after_step_held, after_step_now, epoch_of, step_now, stepped_told}
use Rattle.sq_engine.specs.EngineViews.{EngineView, state_of}
use Rattle.sq_engine.proofs.PromiseLaws.{ask_promised, close_promised, died_promised, failed_promised, open_promised, started_promised, step_promised, take_promised}
use Rattle.sq_journal.specs.Noting.{with_entry}
use Rattle.sq_calls.specs.Legality.{Beginning, IsLegal, IsStated}
use Rattle.sq_calls.specs.declared.faults.DeskFault.{DeskFault}
use Rattle.sq_calls.specs.declared.faults.DeskFault.TheVariants as fault
use Rattle.sq_notes.specs.Calling.{Acts, DeskView, IsLinePromised, Leaves, Makes, Reads, Rereads, after_died, after_died_of, load_of}
use Rattle.sq_notes.specs.Noting.{IsNoted, IsReady, Notebook}
use Rattle.sq_desk.specs.Calling.{CountsMade}
use Rattle.sq_desk.specs.Desks.{HasSpare, IsDesk, IsReplay}
use Rattle.sq_desk.proofs.CallLaws.{same_engine, same_self}
use Rattle.sq_desk.proofs.SpareLaws.{homes_left, place_for_close, place_for_death, places_closed, places_died, places_listed, places_load, places_open, places_started}
use Rattle.sq_desk.proofs.ReplayLaws.{desk_keeps, desk_stays, IsKept, legal_of, replay_first, replay_more, replay_next, still_made, stopped_not, with_count}

late : (s : State) (moment : ℕ) → s.latest ≤ max moment s.latest
late s moment = omega arith

spare_more : (n m : ℕ) → n + 2 ≤ suc m → suc n ≤ m
spare_more n m h = omega (arith, h)

spare_one : (n m : ℕ) → n + 1 ≤ suc m → n ≤ m
spare_one n m h = omega (arith, h)

pub open_desk : {first : Beginning} (v w : DeskView) (c : ℕ) (addr : Address) (port moment : ℕ)
    (r : Result (Unit {0}) DeskFault) → IsDesk first v
    → Makes {A = Unit {0}} (λ x. told.Fine) (open_answer (state_of v.engine) c) (max moment v.engine.latest)
    (Open c addr port) (after_open c (record { addr = addr; port = port }) (max moment v.engine.latest)
    (state_of v.engine)) v r w
    → Leaves (load_of v.engine + 2) v.notes r w.notes → IsDesk first w
open_desk v w c addr port moment r d m le =
    let s = state_of v.engine in
    let now = max moment v.engine.latest in
    let after = after_open c (record { addr = addr; port = port }) now s in
    desk_stays {A = Unit {0}} (λ x. told.Fine) (open_answer s c) now (Open c addr port) after (load_of v.engine + 2) v w
    r d m le
    (λ a is h x. replay_more s after h now (Open c addr port) told.Fine refl refl (late s moment)
    (open_promised {A = Unit {0}} s after now c addr port (Ok a) is (same_self after)) x)
    (λ a is le places. places_open w.notes.spare v.engine after refl (λ k. refl)
    (spare_more (load_of v.engine) w.notes.spare le))
    (λ a is. refl)

-- an open connection counts
some_conns : (v : EngineView) (c : ℕ) → is_some (client_in v.conns c) ≡ true → 0 < length v.conns.links
some_conns v c e = by v.conns.links e
  where
    by : (links : List (ℕ × Link)) → is_some (client_in (record v.conns { links = links }) c) ≡ true → 0 < length links
    by [] e = absurd (cc)
    by (x ∷ links) e = omega arith

known_conn : (s : State) (c : ℕ) (answer : Told) → close_answer s c ≡ gives answer → is_some (s.client c) ≡ true
known_conn s c answer is = by (s.client c) is
  where
    by : (o : Option Peer) → refuse_if (is_none o) (refusal.UnknownConn c) (gives told.Fine) ≡ gives answer
        → is_some o ≡ true
    by None is = absurd (cc)
    by (Some p) is = refl

pub close_desk : {first : Beginning} (v w : DeskView) (c moment : ℕ) (r : Result (Unit {0}) DeskFault) → IsDesk first v
    → Makes {A = Unit {0}} (λ x. told.Fine) (close_answer (state_of v.engine) c) (max moment v.engine.latest) (Close c)
    (after_close c (max moment v.engine.latest) (state_of v.engine)) v r w
    → Leaves v.notes.spare v.notes r w.notes → IsDesk first w
close_desk v w c moment r d m le =
    let s = state_of v.engine in
    let now = max moment v.engine.latest in
    let after = after_close c now s in
    desk_stays {A = Unit {0}} (λ x. told.Fine) (close_answer s c) now (Close c) after v.notes.spare v w r d m le
    (λ a is h x. replay_more s after h now (Close c) told.Fine refl refl (late s moment)
    (close_promised {A = Unit {0}} s after now c (Ok a) is (same_self after)) x)
    (λ a is le places. places_closed v.notes.spare w.notes.spare s after
    (some_conns v.engine c (known_conn s c told.Fine is)) refl (λ k e. homes_left (without_conn c s.checks) s k e) le
    places)
    (λ a is. refl)

pub ask_desk : {first : Beginning} (v w : DeskView) (c : ℕ) (method target : List ℕ) (fields : List Field) (moment : ℕ)
    (r : Result ℕ DeskFault) → IsDesk first v → is_some (target_of method target) ≡ true
    → Makes told.Check (ask_answer (state_of v.engine) c) (max moment v.engine.latest) (Ask c method target fields)
    (after_ask (asked_in (state_of v.engine) (max moment v.engine.latest) c method target fields)
    (max moment v.engine.latest) (state_of v.engine)) v r w
    → Leaves (load_of v.engine + 1) v.notes r w.notes → IsDesk first w
ask_desk v w c method target fields moment r d formed m le =
    let s = state_of v.engine in
    let now = max moment v.engine.latest in
    let after = after_ask (asked_in s now c method target fields) now s in
    desk_stays told.Check (ask_answer s c) now (Ask c method target fields) after (load_of v.engine + 1) v w r d m le
    (λ a is h x. replay_more s after h now (Ask c method target fields) (told.Check a) refl refl (late s moment)
    (ask_promised told.Check s after now c method target fields (Ok a) formed is (same_self after)) x)
    (λ a is le places. places_load w.notes.spare v.engine after (omega arith) (λ k e. e)
    (spare_one (load_of v.engine) w.notes.spare le))
    (λ a is. refl)

pub started_desk : {first : Beginning} (v w : DeskView) (p : ClassId) (moment : ℕ) (r : Result ℕ DeskFault)
    → IsDesk first v
    → Makes told.Proc (started_answer (state_of v.engine) p) (max moment v.engine.latest)
    (Started p.epoch (name_in (state_of v.engine) p))
    (after_started_at p (max moment v.engine.latest) (state_of v.engine)) v r w
    → Leaves (load_of v.engine + 2) v.notes r w.notes → IsDesk first w
started_desk v w p moment r d m le =
    let s = state_of v.engine in
    let now = max moment v.engine.latest in
    let after = after_started_at p now s in
    desk_stays told.Proc (started_answer s p) now (Started p.epoch (name_in s p)) after (load_of v.engine + 2) v w r d
    m le
    (λ a is h x. replay_more s after h now (Started p.epoch (name_in s p)) (told.Proc a) refl refl (late s moment)
    (started_promised told.Proc s after now p (Ok a) is (same_self after)) x)
    (λ a is le places. places_started w.notes.spare v.engine after (suc s.procs) p refl (λ k. refl)
    (spare_more (load_of v.engine) w.notes.spare le))
    (λ a is. refl)

pub failed_desk : {first : Beginning} (v w : DeskView) (p : ClassId) (moment : ℕ) (r : Result (Unit {0}) DeskFault)
    → IsDesk first v
    → Makes {A = Unit {0}} (λ x. told.Fine) (failed_answer (state_of v.engine) p) (max moment v.engine.latest)
    (StartFail p.epoch (name_in (state_of v.engine) p))
    (after_failed_at p (max moment v.engine.latest) (state_of v.engine)) v r w
    → Leaves (load_of v.engine + 1) v.notes r w.notes → IsDesk first w
failed_desk v w p moment r d m le =
    let s = state_of v.engine in
    let now = max moment v.engine.latest in
    let after = after_failed_at p now s in
    desk_stays {A = Unit {0}} (λ x. told.Fine) (failed_answer s p) now (StartFail p.epoch (name_in s p)) after
    (load_of v.engine + 1) v w r d m le
    (λ a is h x. replay_more s after h now (StartFail p.epoch (name_in s p)) told.Fine refl refl (late s moment)
    (failed_promised {A = Unit {0}} s after now p (Ok a) is (same_self after)) x)
    (λ a is le places. places_load w.notes.spare v.engine after (omega arith) (λ k e. e)
    (spare_one (load_of v.engine) w.notes.spare le))
    (λ a is. refl)

known_proc : (s : State) (k : ℕ) (answer : Told) → died_answer s k ≡ gives answer → is_some (s.home k) ≡ true
known_proc s k answer is = by (s.home k) is
  where
    by : (o : Option ClassId) → refuse_if (is_none o) (refusal.UnknownProc k) (gives told.Fine) ≡ gives answer
        → is_some o ≡ true
    by None is = absurd (cc)
    by (Some p) is = refl

died_current : (s : State) (k now : ℕ) (o : Option ClassId) → (after_died_of k now s o).current ≡ s.current
died_current s k now None = refl
died_current s k now (Some p) = refl

pub died_desk : {first : Beginning} (v w : DeskView) (k moment : ℕ) (r : Result (Unit {0}) DeskFault) → IsDesk first v
    → Makes {A = Unit {0}} (λ x. told.Fine) (died_answer (state_of v.engine) k) (max moment v.engine.latest) (Died k)
    (after_died k (max moment v.engine.latest) (state_of v.engine)) v r w
    → Leaves v.notes.spare v.notes r w.notes → IsDesk first w
died_desk v w k moment r d m le =
    let s = state_of v.engine in
    let now = max moment v.engine.latest in
    desk_stays {A = Unit {0}} (λ x. told.Fine) (died_answer s k) now (Died k) (after_died k now s) v.notes.spare v w r d
    m le
    (λ a is h x. replay_more s (after_died k now s) h now (Died k) told.Fine refl refl (late s moment)
    (died_promised {A = Unit {0}} s (after_died k now s) now k (Ok a) is
    (λ p e. subst (λ o. IsSame (after_died_of k now s o) (after_end_at p k cause.Died false now s)) (sym e)
    (same_self (after_end_at p k cause.Died false now s)))) x)
    (λ a is le places. gone (s.home k) refl (known_proc s k told.Fine is) le places)
    (λ a is. died_current s k now (s.home k))
  where
    gone : (o : Option ClassId) → (state_of v.engine).home k ≡ o → is_some o ≡ true → v.notes.spare ≤ suc w.notes.spare
        → HasSpare v.notes.spare (state_of v.engine)
        → HasSpare w.notes.spare (after_died k (max moment v.engine.latest) (state_of v.engine))
    gone None e some le places = absurd (cc)
    gone (Some p) e some le places =
        let s = state_of v.engine in
        let now = max moment v.engine.latest in
        subst (λ o. HasSpare w.notes.spare (after_died_of k now s o)) (sym e)
        (places_died v.notes.spare w.notes.spare k s (after_end_at p k cause.Died false now s) (ap is_some e) refl
        (λ j. refl) le places)

step_conns : (s : State) (n now : ℕ) (o : Option Held) → (after_step_held s n now o).conns ≡ s.conns
step_conns s n now None = refl
step_conns s n now (Some h) = refl

step_homes : (s : State) (n now k : ℕ) (o : Option Held) → (after_step_held s n now o).home k ≡ s.home k
step_homes s n now k None = refl
step_homes s n now k (Some h) = refl

step_current : (s : State) (n now : ℕ) (o : Option Held) → (after_step_held s n now o).current ≡ s.current
step_current s n now None = refl
step_current s n now (Some h) = refl

pub step_desk : {first : Beginning} (v w : DeskView) (n moment : ℕ) (r : Result Stepped DeskFault) → IsDesk first v
    → Makes (stepped_told (state_of v.engine) (epoch_of (state_of v.engine) n))
    (step_now (state_of v.engine) n (max moment v.engine.latest)) (max moment v.engine.latest) (Step n)
    (after_step_now (state_of v.engine) n (max moment v.engine.latest)) v r w
    → Leaves (load_of v.engine + 1) v.notes r w.notes → IsDesk first w
step_desk v w n moment r d m le =
    let s = state_of v.engine in
    let now = max moment v.engine.latest in
    let after = after_step_now s n now in
    desk_stays (stepped_told s (epoch_of s n)) (step_now s n now) now (Step n) after (load_of v.engine + 1) v w r d m le
    (λ a is h x. replay_more s after h now (Step n) (stepped_told s (epoch_of s n) a) refl refl (late s moment)
    (step_promised (stepped_told s (epoch_of s n)) s after now n (Ok a) is (same_self after)) x)
    (λ a is le places. places_load w.notes.spare v.engine after
    (subst (λ (c : ℕ). c ≤ s.conns) (sym (step_conns s n now (held_at n s.checks))) (omega arith))
    (λ k e. ap is_some (sym (step_homes s n now k (held_at n s.checks))) ∙ e)
    (spare_one (load_of v.engine) w.notes.spare le))
    (λ a is. step_current s n now (held_at n s.checks))

pub take_desk : {first : Beginning} (v w : DeskView) (n moment : ℕ) (r : Result Judged DeskFault) → IsDesk first v
    → Makes {A = Judged} (λ j. told.Judged j.epoch j.outcome) (take_answer (state_of v.engine) n)
    (max moment v.engine.latest) (Take n) (after_take n (max moment v.engine.latest) (state_of v.engine)) v r w
    → Leaves (load_of v.engine + 1) v.notes r w.notes → IsDesk first w
take_desk v w n moment r d m le =
    let s = state_of v.engine in
    let now = max moment v.engine.latest in
    let after = after_take n now s in
    desk_stays {A = Judged} (λ j. told.Judged j.epoch j.outcome) (take_answer s n) now (Take n) after
    (load_of v.engine + 1) v w r d m le
    (λ a is h x. replay_more s after h now (Take n) (told.Judged a.epoch a.outcome) refl refl (late s moment)
    (take_promised {A = Judged} (λ j. told.Judged j.epoch j.outcome) s after now n (Ok a) is (same_self after)) x)
    (λ a is le places. places_load w.notes.spare v.engine after (omega arith)
    (λ k e. homes_left (without_check n s.checks) (at now s) k e) (spare_one (load_of v.engine) w.notes.spare le))
    (λ a is. refl)

act_conns : (s : State) (now : ℕ) (o : Option Due) → (after_act o now s).conns ≡ s.conns
act_conns s now None = refl
act_conns s now (Some (stops k)) = refl
act_conns s now (Some (sends p x)) = refl
act_conns s now (Some (starts p)) = refl

act_homes : (s : State) (now k : ℕ) (o : Option Due) → (after_act o now s).home k ≡ s.home k
act_homes s now k None = refl
act_homes s now k (Some (stops j)) = refl
act_homes s now k (Some (sends p x)) = refl
act_homes s now k (Some (starts p)) = refl

act_current : (s : State) (now : ℕ) (o : Option Due) → (after_act o now s).current ≡ s.current
act_current s now None = refl
act_current s now (Some (stops j)) = refl
act_current s now (Some (sends p x)) = refl
act_current s now (Some (starts p)) = refl

pub act_desk : {first : Beginning} (v w : DeskView) (moment : ℕ) (r : Result (Option Act) DeskFault) → IsDesk first v
    → Acts (max moment v.engine.latest) v r w → Leaves (load_of v.engine + 1) v.notes r w.notes
    → IfOk r (λ a. IsActPromised (state_of v.engine) (max moment v.engine.latest) a (state_of w.engine))
    → IsDesk first w
act_desk v w moment (Ok (Some a)) d m le promised =
    let s = state_of v.engine in
    let now = max moment v.engine.latest in
    desk_stays {A = Act} (told_of_act s) (gives (told_of_act s a)) now event.Act (state_of w.engine)
    (load_of v.engine + 1) v w (Ok a) d
    (record { going = m.going; next_is = refl; same = same_self (state_of w.engine); notes = m.notes }) le
    (λ b is h x. replay_more s (state_of w.engine) h now event.Act (told_of_act s b) refl refl (late s moment)
    (λ configs h st before. subst (λ z. IsAnswered configs h now event.Act z (state_of w.engine)) (same_gives _ _ is)
    (promised configs h st before)) x)
    (λ b is le places. places_load w.notes.spare v.engine (state_of w.engine)
    (subst (λ (c : ℕ). c ≤ s.conns) (sym (m.same.conns_are ∙ act_conns s now (due_now v.engine))) (omega arith))
    (λ k e. ap is_some (sym (m.same.homes_are k ∙ act_homes s now k (due_now v.engine))) ∙ e)
    (spare_one (load_of v.engine) w.notes.spare le))
    (λ b is. m.same.current_is ∙ act_current s now (due_now v.engine))
  where
    same_gives : (x y : Told) → gives x ≡ gives y → x ≡ y
    same_gives x y e = cc
act_desk v w moment (Ok None) d m le promised =
    desk_stays {A = Act} (told_of_act (state_of v.engine)) nothing 0 event.Act (state_of v.engine) 0 v w
    (Err fault.WantOfMemory) d
    (record { going = m.going; same = same_engine v.engine w.engine m.engine; notes = m.notes }) m.stay
    (λ a is h x. absurd (cc)) (λ a is le places. absurd (cc)) (λ a is. absurd (cc))
act_desk v w moment (Err fault.Stopped) d m le promised =
    desk_stays {A = Act} (told_of_act (state_of v.engine)) nothing 0 event.Act (state_of v.engine) 0 v w
    (Err fault.Stopped) d m le (λ a is h x. absurd (cc)) (λ a is le places. absurd (cc)) (λ a is. absurd (cc))
act_desk v w moment (Err (fault.Engine r)) d m le promised = absurd m
act_desk v w moment (Err fault.JournalFault) d m le promised =
    desk_stays {A = Act} (told_of_act (state_of v.engine)) nothing 0 event.Act
    (after_act (due_now v.engine) (max moment v.engine.latest) (state_of v.engine)) 0 v w (Err fault.JournalFault) d
    m le
    (λ a is h x. absurd (cc)) (λ a is le places. absurd (cc)) (λ a is. absurd (cc))
act_desk v w moment (Err fault.WantOfMemory) d m le promised =
    desk_stays {A = Act} (told_of_act (state_of v.engine)) nothing 0 event.Act (state_of v.engine) 0 v w
    (Err fault.WantOfMemory) d m le (λ a is h x. absurd (cc)) (λ a is le places. absurd (cc)) (λ a is. absurd (cc))

line_conns : (s t : State) (k now : ℕ) (g : Got) → IsLineDone s k g now t → t.conns ≡ s.conns
line_conns s t k now (got.Reply q reply) done = done.same.conns_are
line_conns s t k now got.Bad done = done.same.conns_are
line_conns s t k now got.Stray done = done.same.conns_are

line_current : (s t : State) (k now : ℕ) (g : Got) → IsLineDone s k g now t → t.current ≡ s.current
line_current s t k now (got.Reply q reply) done = done.same.current_is
line_current s t k now got.Bad done = done.same.current_is
line_current s t k now got.Stray done = done.same.current_is

line_homes : (s t : State) (k now j : ℕ) (g : Got) → IsLineDone s k g now t → is_some (t.home j) ≡ true
    → is_some (s.home j) ≡ true
line_homes s t k now j (got.Reply q reply) done e = ap is_some (sym (done.same.homes_are j)) ∙ e
line_homes s t k now j got.Bad done e = ended (k == j) (ap is_some (sym (done.same.homes_are j)) ∙ e)
  where
    ended : (b : Bool) → is_some (if b then None else s.home j) ≡ true → is_some (s.home j) ≡ true
    ended true e = absurd (cc)
    ended false e = e
line_homes s t k now j got.Stray done e = ended (k == j) (ap is_some (sym (done.same.homes_are j)) ∙ e)
  where
    ended : (b : Bool) → is_some (if b then None else s.home j) ≡ true → is_some (s.home j) ≡ true
    ended true e = absurd (cc)
    ended false e = e

-- whatever the count of refusals is
uncounted : {first : Beginning} (w : DeskView) (n : ℕ)
    → IsDesk first (record w { notes = record w.notes { refusals = n } }) → IsDesk first w
uncounted w n d = record { legal = d.legal; replay = d.replay; places = d.places; made = d.made }

pub line_desk : {first : Beginning} (v w : DeskView) (k : ℕ) (line : List ℕ) (moment : ℕ) (r : Result Got DeskFault)
    → IsDesk first v → Reads (max moment v.engine.latest) k line v r w → Leaves (load_of v.engine + 1) v.notes r w.notes
    → IsLinePromised (state_of v.engine) (max moment v.engine.latest) k line r (state_of w.engine) → IsDesk first w
line_desk v w k line moment (Ok g) d m le promised =
    let s = state_of v.engine in
    let now = max moment v.engine.latest in
    let u : DeskView = record w { notes = record w.notes { refusals = v.notes.refusals } } in
    uncounted w v.notes.refusals
    (desk_stays {A = Got} got_told (gives (got_told g)) now (Line k line) (state_of w.engine) (load_of v.engine + 1) v u
    (Ok g) d
    (record {
      going = m.going;
      next_is = refl;
      same = same_self (state_of w.engine);
      notes = ap {A = Notebook} (λ z. record z { refusals = v.notes.refusals }) m.notes;
    }) le
    (λ b is h x. replay_more s (state_of w.engine) h now (Line k line) (got_told b) refl refl (late s moment)
    (λ configs h st before. subst (λ z. IsAnswered configs h now (Line k line) z (state_of w.engine))
    (same_gives _ _ is) (promised configs h st before)) x)
    (λ b is le places. places_load w.notes.spare v.engine (state_of w.engine)
    (subst (λ (c : ℕ). c ≤ s.conns) (sym (line_conns s (state_of w.engine) k now g m.done)) (omega arith))
    (λ j e. line_homes s (state_of w.engine) k now j g m.done e) (spare_one (load_of v.engine) w.notes.spare le))
    (λ b is. line_current s (state_of w.engine) k now g m.done))
  where
    same_gives : (x y : Told) → gives x ≡ gives y → x ≡ y
    same_gives x y e = cc
line_desk v w k line moment (Err fault.Stopped) d m le promised =
    desk_stays {A = Got} got_told nothing 0 (Line k line) (state_of v.engine) 0 v w (Err fault.Stopped) d m le
    (λ a is h x. absurd (cc)) (λ a is le places. absurd (cc)) (λ a is. absurd (cc))
line_desk v w k line moment (Err (fault.Engine refusal.WantOfMemory)) d m le promised = absurd m
line_desk v w k line moment (Err (fault.Engine r)) d m le promised =
    let u : DeskView = record w { notes = record w.notes { refusals = v.notes.refusals } } in
    uncounted w v.notes.refusals
    (desk_stays {A = Got} got_told nothing 0 (Line k line) (state_of v.engine) 0 v u (Err fault.WantOfMemory) d
    (record {
      going = m.going;
      same = m.same;
      notes = ap {A = Notebook} (λ z. record z { refusals = v.notes.refusals }) m.notes;
    }) le (λ a is h x. absurd (cc))
    (λ a is le places. absurd (cc)) (λ a is. absurd (cc)))
line_desk v w k line moment (Err fault.JournalFault) d m le promised =
    desk_stays {A = Got} got_told nothing 0 (Line k line) (state_of w.engine) 0 v w (Err fault.JournalFault) d
    (record { going = m.going; same = same_self (state_of w.engine); rose = m.rose; notes = m.notes }) le
    (λ a is h x. absurd (cc)) (λ a is le places. absurd (cc)) (λ a is. absurd (cc))
line_desk v w k line moment (Err fault.WantOfMemory) d m le promised =
    desk_stays {A = Got} got_told nothing 0 (Line k line) (state_of v.engine) 0 v w (Err fault.WantOfMemory) d m le
    (λ a is h x. absurd (cc)) (λ a is le places. absurd (cc)) (λ a is. absurd (cc))

-- the epoch of a reconfiguration is the next
epoch_next : (s : State) (n : ℕ) → reconfigure_answer s ≡ gives (told.Epoch n) → n ≡ suc s.current
epoch_next s n is = by (nat_le last_number (suc s.current)) (nat_le epoch_limit (busy_in s)) is
  where
    by : (b c : Bool)
        → refuse_if b (refusal.Spent (suc s.current))
        (refuse_if c (refusal.TooManyEpochs epoch_limit) (gives (told.Epoch (suc s.current)))) ≡ gives (told.Epoch n)
        → n ≡ suc s.current
    by true c is = absurd (cc)
    by false true is = absurd (cc)
    by false false is = cc

less_one : (n m : ℕ) → n ≡ suc m → n - 1 ≡ m
less_one n m e = omega (arith, e)

-- but for the count, a reconfiguration is made as each call is
rereads_makes : (v w : DeskView) (config : Configuration) (now : ℕ) (r : Result ℕ DeskFault) → Rereads now config v r w
    → Makes told.Epoch (reconfigure_answer (state_of v.engine)) now (Reconfigure config.source)
    (after_reconfigured config now (state_of v.engine)) v r
    (record w { notes = record w.notes { made = v.notes.made } })
rereads_makes v w config now (Ok e) m = record {
  going = m.going;
  next_is = m.next_is;
  same = m.same;
  notes = ap {A = Notebook} (λ z. record z { made = v.notes.made }) m.notes;
}
rereads_makes v w config now (Err fault.Stopped) m = record {
  was = m.was;
  engine = m.engine;
  notes = ap {A = Notebook} (λ z. record z { made = v.notes.made }) m.notes;
}
rereads_makes v w config now (Err (fault.Engine refusal.WantOfMemory)) m = absurd m
rereads_makes v w config now (Err (fault.Engine r)) m = record {
  going = m.going;
  next_is = m.next_is;
  same = m.same;
  notes = ap {A = Notebook} (λ z. record z { made = v.notes.made }) m.notes;
}
rereads_makes v w config now (Err fault.JournalFault) m = record {
  going = m.going;
  same = m.same;
  rose = m.rose;
  notes = ap {A = Notebook} (λ z. record z { made = v.notes.made }) m.notes;
}
rereads_makes v w config now (Err fault.WantOfMemory) m = record {
  going = m.going;
  same = m.same;
  notes = ap {A = Notebook} (λ z. record z { made = v.notes.made }) m.notes;
}

-- how many places a call leaves is not of the count
rereads_leaves : (n : ℕ) (v w : Notebook) (made : ℕ) (r : Result ℕ DeskFault) → Leaves n v r w
    → Leaves n v r (record w { made = made })
rereads_leaves n v w made (Ok a) le = le
rereads_leaves n v w made (Err fault.Stopped) le = le
rereads_leaves n v w made (Err (fault.Engine r)) le = le
rereads_leaves n v w made (Err fault.JournalFault) le = le
rereads_leaves n v w made (Err fault.WantOfMemory) le = le

any_count : {first : Beginning} (w : DeskView) (n : ℕ) → IsKept first (record w { notes = record w.notes { made = n } })
    → IsKept first w
any_count w n k = record { legal = k.legal; replay = k.replay; places = k.places }

-- a reconfiguration leaves the count right
reread_count : {first : Beginning} (v w : DeskView) (config : Configuration) (now : ℕ) (r : Result ℕ DeskFault)
    → IsDesk first v → Rereads now config v r w → w.notes.stopped ≡ false → w.engine.epochs.current ≡ suc w.notes.made
reread_count v w config now (Ok e) d m =
    λ f. m.same.current_is ∙
    ap suc (sym (ap (λ z. z.made) m.notes
    ∙ less_one e (state_of v.engine).current (epoch_next (state_of v.engine) e m.next_is)))
reread_count v w config now (Err fault.Stopped) d m = λ e. stopped_not v.notes.stopped w.notes.stopped m.was
    (ap (λ z. z.stopped) m.notes) e
reread_count v w config now (Err (fault.Engine refusal.WantOfMemory)) d m = absurd m
reread_count v w config now (Err (fault.Engine r)) d m = λ e. still_made v w d m.going m.same.current_is
    (ap (λ z. z.made) m.notes)
reread_count v w config now (Err fault.JournalFault) d m = λ e. stopped_not true w.notes.stopped refl
    (ap (λ z. z.stopped) m.notes) e
reread_count v w config now (Err fault.WantOfMemory) d m = λ e. still_made v w d m.going m.same.current_is
    (ap (λ z. z.made) m.notes)

pub reconfigured_desk : {first : Beginning} (v w : DeskView) (config : Configuration) (moment : ℕ)
    (r : Result ℕ DeskFault) → IsDesk first v → IsConfiguration config → IsStated config
    → Rereads (max moment v.engine.latest) config v r w → Leaves (load_of v.engine + 1) v.notes r w.notes
    → IsDesk first w
reconfigured_desk v w config moment r d good stated m le =
    let s = state_of v.engine in
    let now = max moment v.engine.latest in
    let after = after_reconfigured config now s in
    let u : DeskView = record w { notes = record w.notes { made = v.notes.made } } in
    with_count w
    (any_count w v.notes.made
    (desk_keeps told.Epoch (reconfigure_answer s) now (Reconfigure config.source) after (load_of v.engine + 1) v u r d
    (rereads_makes v w config now r m) (rereads_leaves (load_of v.engine + 1) v.notes w.notes v.notes.made r le)
    (λ a is h x. replay_next s after h now config (told.Epoch a) good stated (late s moment)
    (λ configs h st before at. reconfigure_answered configs h s now config.source config (told.Epoch a) st before refl
    at is) x)
    (λ a is le places. places_load w.notes.spare v.engine after (omega arith)
    (λ k e. homes_left s.checks (record (with_epoch config s) { current = suc s.current; latest = now }) k e)
    (spare_one (load_of v.engine) w.notes.spare le))))
    (reread_count v w config now r d m)

-- a reconfiguration is one more, and its epoch is one above them
pub reconfigured_made : {first : Beginning} (v w : DeskView) (config : Configuration) (now : ℕ) (r : Result ℕ DeskFault)
    → IsDesk first v → Rereads now config v r w → CountsMade v.notes.made r w.notes.made
reconfigured_made v w config now (Ok e) d m =
    let epoch : e ≡ suc (state_of v.engine).current = epoch_next (state_of v.engine) e m.next_is in
    let made : w.notes.made ≡ (state_of v.engine).current = ap (λ z. z.made) m.notes
    ∙ less_one e (state_of v.engine).current epoch in
    let before : (state_of v.engine).current ≡ suc v.notes.made = d.made m.going in
    (next_one _ _ (made ∙ before), next_one _ _ (epoch ∙ ap suc (sym made)))
  where
    next_one : (n m : ℕ) → n ≡ suc m → n ≡ m + 1
    next_one n m e = omega (arith, e)
reconfigured_made v w config now (Err fault.Stopped) d m = ap (λ z. z.made) m.notes
reconfigured_made v w config now (Err (fault.Engine refusal.WantOfMemory)) d m = absurd m
reconfigured_made v w config now (Err (fault.Engine r)) d m = ap (λ z. z.made) m.notes
reconfigured_made v w config now (Err fault.JournalFault) d m = ap (λ z. z.made) m.notes
reconfigured_made v w config now (Err fault.WantOfMemory) d m = ap (λ z. z.made) m.notes

-- there is a place for the close of an open connection
pub close_place : {first : Beginning} (v : DeskView) (c : ℕ) → IsDesk first v → v.notes.stopped ≡ false
    → is_some (client_in v.engine.conns c) ≡ true → 0 < v.notes.spare
close_place v c d going here = place_for_close v.notes.spare (state_of v.engine) (some_conns v.engine c here)
    (d.places going)

-- there is a place for the death of a living process
pub death_place : {first : Beginning} (v : DeskView) (k : ℕ) → IsDesk first v → v.notes.stopped ≡ false
    → is_some (home_at v.engine.epochs k) ≡ true → 0 < v.notes.spare
death_place v k d going lives = place_for_death v.notes.spare k (state_of v.engine) lives (d.places going)

-- the entry of the beginning
abbrev pub first_entry : ℕ → ℤ → Noted
first_entry now offset = entry_at now (event.Begin offset) (told.Epoch 1)

begun_told : (first : Beginning) (s : State) (now : ℕ) (offset : ℤ) (o p : Option History) → IfSome o (λ h. h ≡ [])
    → p ≡ with_entry (first_entry now offset) o → IsReplay first s (first_entry now offset ∷ [])
    → IfSome p (IsReplay first s)
begun_told first s now offset None p empty is r = subst (λ z. IfSome z (IsReplay first s)) (sym is) tt
begun_told first s now offset (Some h) p empty is r = subst (λ z. IfSome z (IsReplay first s))
    (sym (is ∙ ap (λ (g : History). Some (first_entry now offset ∷ g)) empty)) r

legal_told : (first : Beginning) (s : State) (o : Option History) → IfSome o (IsReplay first s)
    → IfSome o (IsLegal first)
legal_told first s None r = tt
legal_told first s (Some h) r = legal_of s h r

-- the machine began, and its first entry is in the journal
pub begun_desk : (e : EngineView) (n0 n1 n2 : Notebook) (config : Configuration) (offset : ℤ) (now : ℕ)
    (o : Option History) → IsConfiguration config → IsBegun config offset now (state_of e)
    → IsSame (state_of e) (first_state config offset now) → IfSome o (λ h. h ≡ []) → n0.history ≡ o → n0.made ≡ 0
    → IsReady 1 n0 (Ok tt) n1 → IsNoted (first_entry now offset) n1 (Ok tt) n2
    → IsDesk (record { config = config; offset = offset }) (record { engine = e; notes = n2 })
begun_desk e n0 n1 n2 config offset now o good begun same empty h0 z0 (going, many, stay, is) (place, p) =
    let history : n2.history ≡ with_entry (first_entry now offset) o =
    ap (λ z. z.history) p ∙ ap (λ z. with_entry (first_entry now offset) z.history) is
    ∙ ap (λ z. with_entry (first_entry now offset) z) h0 in
    let here = begun_told (record { config = config; offset = offset }) (state_of e) now offset o n2.history empty
    history (replay_first (state_of e) config offset now good begun) in
    record {
      legal = legal_told (record { config = config; offset = offset }) (state_of e) n2.history here;
      replay = λ f. here;
      places = λ f. places_listed n2.spare (state_of e) []
          (λ k some. absurd (let gone : Option ClassId = None in
          let no : is_some gone ≡ true = ap is_some (sym (same.homes_are k)) ∙ some in cc))
          (let none : (state_of e).conns ≡ 0 = same.conns_are in omega (arith, none));
      made = λ f. same.current_is ∙ ap suc (sym (ap (λ z. z.made) p ∙ ap (λ z. z.made) is ∙ z0));
    }
