-- A desk whose machine stands for its journal does so after a call, too.
use Rattle.std.proofs.Common.{◌≡◌, ◌∙◌, ℕ, ℤ, suc, ◌≤◌, List, [], ◌∷◌, ◌++◌, length, Bool, true, false, Option, None, Some, IfSome, Result, Ok, Err, if◌then◌else◌, slice_get, refl, ap, sym, subst, arith, append_assoc}
use Rattle.std.proofs.lemmas.List.{append-nil, length-append}
use Rattle.sq_machine.specs.declared.entries.Event.{Event}
use Rattle.sq_machine.specs.declared.entries.Event.TheVariants.{Reconfigure}
use Rattle.sq_machine.specs.declared.entries.Event.TheVariants as event
use Rattle.sq_machine.specs.declared.entries.Told.{Told}
use Rattle.sq_machine.specs.declared.entries.Told.TheVariants as told
use Rattle.sq_machine.specs.declared.refusals.Refusal.TheVariants as refusal
use Rattle.sq_rules.specs.Configurations.{Configuration, IsConfiguration}
use Rattle.sq_machine.specs.Entries.{History, Noted, entry_at}
use Rattle.sq_machine.specs.Events.{begins_epoch, begun_offset, is_begin}
use Rattle.sq_machine.specs.Machine.{Legal}
use Rattle.sq_machine.specs.Epochs.{config_of}
use Rattle.sq_machine.specs.Next.{Next, gives}
use Rattle.sq_machine.specs.Marking.{marked}
use Rattle.sq_machine.specs.Marks.{entries}
use Rattle.sq_machine.specs.Readings.{current, epoch_after, latest, offset_after, offset_of}
use Rattle.sq_machine.proofs.ReadingLaws.{offset_of_more}
use Rattle.sq_model.specs.Given.{EachOf}
use Rattle.sq_model.proofs.LegalLaws.{marked_entries}
use Rattle.sq_model.specs.Promises.{IsAnswered, StandsFor}
use Rattle.sq_model.specs.States.{IsSame, State, is_of_pools, machine_moment}
use Rattle.sq_model.proofs.Lawful.{stands_same}
use Rattle.sq_engine.specs.EngineViews.{state_of}
use Rattle.sq_engine.specs.Promised.{IsBegun}
use Rattle.sq_journal.specs.Noting.{with_entry}
use Rattle.sq_calls.specs.Legality.{Beginning, IsLegal, IsLegalFrom, IsStated, configs_over}
use Rattle.sq_calls.specs.declared.faults.DeskFault.{DeskFault}
use Rattle.sq_calls.specs.declared.faults.DeskFault.TheVariants as fault
use Rattle.sq_notes.specs.Calling.{DeskView, Leaves, Makes}
use Rattle.sq_desk.specs.Desks.{HasSpare, IsDesk, IsReplay}
use Rattle.sq_desk.proofs.SpareLaws.{places_fewer, places_same}

-- a history that is replayed is legal
pub legal_of : {first : Beginning} (s : State) (h : History) → IsReplay first s h → IsLegal first h
legal_of {first = first} s h r =
    let st = subst (λ configs. StandsFor (first.config ∷ configs) h s) (append-nil r.given) (r.stands [] tt) in
    record {
      given = r.given;
      good = r.good;
      stated = r.stated;
      count = r.count;
      offset_is = r.offset_is;
      legal = st.legal;
      sourced = st.sourced;
    }

-- a history that is replayed is legal from the beginning on, over configurations over which the state stands for it
pub record IsOver (first : Beginning) (s : State) (h : History) : Type 0 where
  pub over : IsLegalFrom (Some first) h
  pub stands : StandsFor (configs_over over) h s

pub over_of : {first : Beginning} (s : State) (h : History) → IsReplay first s h → IsOver first s h
over_of {first = first} s h r =
    let st = subst (λ configs. StandsFor (first.config ∷ configs) h s) (append-nil r.given) (r.stands [] tt) in
    record {
      over = record {
        first = first;
        first_is = refl;
        legal = record {
          given = r.given;
          good = r.good;
          stated = r.stated;
          count = r.count;
          offset_is = r.offset_is;
          legal = st.legal;
          sourced = st.sourced;
        };
      };
      stands = st;
    }

-- states that are the same stand for the same
pub replay_same : {first : Beginning} (s t : State) (h : History) → IsSame t s → IsReplay first s h → IsReplay first t h
replay_same {first = first} s t h same r = record {
  given = r.given;
  good = r.good;
  stated = r.stated;
  count = r.count;
  late = same.latest_is ∙ r.late;
  offset_is = r.offset_is;
  stands = λ more good. let st = r.stands more good in
      record {
        good = st.good;
        legal = st.legal;
        sourced = st.sourced;
        stands = stands_same (first.config ∷ r.given ++ more) (marked (first.config ∷ r.given ++ more) h) s t same
            st.stands;
      };
}

-- the greatest moment of a state that stands for a history with this entry
pub entered_late : (configs : List Configuration) (h : History) (t : State) (now : ℕ) (event : Event) (answer : Told)
    → is_of_pools event ≡ false → StandsFor configs (entry_at now event answer ∷ h) t
    → t.latest ≡ now
entered_late configs h t now event answer other st = st.stands.latest_is
    ∙ ap (λ (b : Bool). if b then machine_moment (entries (marked configs h)) else now) other

-- an event that is not the first says no offset
says_none : (event : Event) → is_begin event ≡ false → begun_offset event ≡ None
says_none (event.Begin offset) other = absurd (cc)
says_none (event.Open conn addr port) other = refl
says_none (event.Close conn) other = refl
says_none (event.Ask conn method target fields) other = refl
says_none (event.Step check) other = refl
says_none (event.Take check) other = refl
says_none (event.Started epoch class) other = refl
says_none (event.StartFail epoch class) other = refl
says_none (event.Line proc bytes) other = refl
says_none (event.Died proc) other = refl
says_none event.Act other = refl
says_none (event.Reconfigure text) other = refl
says_none (event.Seat conn) other = refl
says_none (event.Grant seat wanted) other = refl
says_none (event.Leave seat) other = refl

-- a legal history has the offset of the one before
entered_offset : (configs : List Configuration) (h : History) (now : ℕ) (event : Event) (answer : Told)
    → Legal configs h → Legal configs (entry_at now event answer ∷ h)
    → offset_of (entry_at now event answer ∷ h) ≡ offset_of h
entered_offset configs [] now event answer before after = absurd before
entered_offset configs (e ∷ h) now event answer before after = offset_of_more (entry_at now event answer) (e ∷ h)
    ∙ ap (λ (o : Option ℤ). offset_after o (offset_of (e ∷ h))) (says_none event after.1)

-- an event that begins no epoch is entered
pub replay_more : {first : Beginning} (s t : State) (h : History) (now : ℕ) (event : Event) (answer : Told)
    → begins_epoch event ≡ false → is_of_pools event ≡ false → s.latest ≤ now
    → ((configs : List Configuration) (h : History) → StandsFor configs h s → latest h ≤ now
    → IsAnswered configs h now event answer t)
    → IsReplay first s h → IsReplay first t (entry_at now event answer ∷ h)
replay_more {first = first} s t h now event answer same other le answered r =
    let late : latest h ≤ now = subst (λ (n : ℕ). n ≤ now) r.late le in
    record {
      given = r.given;
      good = r.good;
      stated = r.stated;
      count = r.count ∙ ap (λ (b : Bool). epoch_after b (current h)) (sym same);
      late = entered_late (first.config ∷ r.given ++ []) h t now event answer other
          (answered (first.config ∷ r.given ++ []) h (r.stands [] tt) late).stands;
      offset_is = entered_offset (first.config ∷ r.given ++ []) h now event answer (r.stands [] tt).legal
          (answered (first.config ∷ r.given ++ []) h (r.stands [] tt) late).stands.legal ∙ r.offset_is;
      stands = λ more good. (answered (first.config ∷ r.given ++ more) h (r.stands more good) late).stands;
    }

-- the first of what follows
first_more : (xs ys : List Configuration) (x : Configuration) → slice_get (xs ++ x ∷ ys) (length xs) ≡ Some x
first_more [] ys x = refl
first_more (y ∷ xs) ys x = first_more xs ys x

each_more : (P : Configuration → Type 0) (xs : List Configuration) (x : Configuration) → EachOf P xs → P x
    → EachOf P (xs ++ x ∷ [])
each_more P [] x each one = (one, tt)
each_more P (y ∷ xs) x each one = (each.0, each_more P xs x each.1 one)

-- another configuration is given
pub replay_next : {first : Beginning} (s t : State) (h : History) (now : ℕ) (config : Configuration) (answer : Told)
    → IsConfiguration config → IsStated config → s.latest ≤ now
    → ((configs : List Configuration) (h : History) → StandsFor configs h s → latest h ≤ now
    → config_of configs (suc s.current) ≡ Some config → IsAnswered configs h now (Reconfigure config.source) answer t)
    → IsReplay first s h → IsReplay first t (entry_at now (Reconfigure config.source) answer ∷ h)
replay_next {first = first} s t h now config answer one stated le answered r =
    let late : latest h ≤ now = subst (λ (n : ℕ). n ≤ now) r.late le in
    record {
      given = r.given ++ config ∷ [];
      good = (r.good.0, each_more IsConfiguration r.given config r.good.1 one);
      stated = each_more IsStated r.given config r.stated stated;
      count = ap suc (length-append r.given (config ∷ []))
          ∙ (let n : suc (length r.given) ≡ current h = r.count in omega (arith, n));
      late = entered_late (first.config ∷ r.given ++ config ∷ []) h t now (Reconfigure config.source) answer refl
          (made late [] tt).stands;
      offset_is = offset_of_more (entry_at now (Reconfigure config.source) answer) h ∙ r.offset_is;
      stands = λ more good. subst (λ configs. StandsFor (first.config ∷ configs)
          (entry_at now (Reconfigure config.source) answer ∷ h) t) (sym (append_assoc r.given (config ∷ []) more))
          (made late more good).stands;
    }
  where
    made : latest h ≤ now → (more : List Configuration) → EachOf IsConfiguration more
        → IsAnswered (first.config ∷ r.given ++ config ∷ more) h now (Reconfigure config.source) answer t
    made late more good =
        let st = r.stands (config ∷ more) (one, good) in
        let here : s.current ≡ suc (length r.given) = st.stands.current_is
        ∙ ap current (marked_entries (first.config ∷ r.given ++ config ∷ more) h) ∙ sym r.count in
        answered (first.config ∷ r.given ++ config ∷ more) h st late
        (ap (λ (n : ℕ). slice_get (first.config ∷ r.given ++ config ∷ more) n) here
        ∙ first_more (first.config ∷ r.given) more config)

-- the machine begins
pub replay_first : (s : State) (config : Configuration) (offset : ℤ) (now : ℕ) → IsConfiguration config
    → IsBegun config offset now s
    → IsReplay (record { config = config; offset = offset }) s (entry_at now (event.Begin offset) (told.Epoch 1) ∷ [])
replay_first s config offset now one begun = record {
  given = [];
  good = (one, tt);
  stated = tt;
  count = refl;
  late = entered_late (config ∷ []) [] s now (event.Begin offset) (told.Epoch 1) refl
      (begun (config ∷ []) (one, tt) refl);
  offset_is = offset_of_more (entry_at now (event.Begin offset) (told.Epoch 1)) [];
  stands = λ more good. begun (config ∷ more) (one, good) refl;
}

-- what holds of a history that is told
told_as : (P Q : History → Type 0) (o p : Option History) → p ≡ o → ((h : History) → P h → Q h) → IfSome o P
    → IfSome p Q
told_as P Q None p e f x = subst (λ z. IfSome z Q) (sym e) tt
told_as P Q (Some h) p e f x = subst (λ z. IfSome z Q) (sym e) (f h x)

told_more : (P Q : History → Type 0) (e : Noted) (o p : Option History) → p ≡ with_entry e o
    → ((h : History) → P h → Q (e ∷ h)) → IfSome o P → IfSome p Q
told_more P Q e None p is f x = subst (λ z. IfSome z Q) (sym is) tt
told_more P Q e (Some h) p is f x = subst (λ z. IfSome z Q) (sym is) (f h x)

pub stopped_not : {A : Type 0} (b c : Bool) → b ≡ true → c ≡ b → c ≡ false → A
stopped_not b c t s f = absurd (let e : true ≡ false = sym t ∙ sym s ∙ f in cc)

-- what holds of a desk but for its count of reconfigurations
pub record IsKept (first : Beginning) (v : DeskView) : Type 0 where
  pub legal : IfSome v.notes.history (IsLegal first)
  pub replay : v.notes.stopped ≡ false → IfSome v.notes.history (IsReplay first (state_of v.engine))
  pub places : v.notes.stopped ≡ false → HasSpare v.notes.spare (state_of v.engine)

-- with its count it is a desk
pub with_count : {first : Beginning} (v : DeskView) → IsKept first v
    → (v.notes.stopped ≡ false → v.engine.epochs.current ≡ suc v.notes.made) → IsDesk first v
with_count v k made = record { legal = k.legal; replay = k.replay; places = k.places; made = made }

-- after each call this holds of a desk, where it does for what the machine answers
pub desk_keeps : {first : Beginning} {A : Type 0} (tell : A → Told) (next : Next) (now : ℕ) (event : Event)
    (after : State) (n : ℕ) (v w : DeskView) (r : Result A DeskFault) → IsDesk first v
    → Makes tell next now event after v r w → Leaves n v.notes r w.notes
    → ((a : A) → next ≡ gives (tell a) → (h : History) → IsReplay first (state_of v.engine) h
    → IsReplay first after (entry_at now event (tell a) ∷ h))
    → ((a : A) → next ≡ gives (tell a) → n ≤ suc w.notes.spare → HasSpare v.notes.spare (state_of v.engine)
    → HasSpare w.notes.spare after)
    → IsKept first w
desk_keeps {first = first} tell next now event after n v w (Ok a) d m le replay places =
    let is = ap (λ z. z.history) m.notes in
    let here = told_more (IsReplay first (state_of v.engine)) (IsReplay first (state_of w.engine))
    (entry_at now event (tell a)) v.notes.history w.notes.history is
    (λ h x. replay_same after (state_of w.engine) (entry_at now event (tell a) ∷ h) m.same (replay a m.next_is h x))
    (d.replay m.going) in
    record {
      legal = told_as (IsReplay first (state_of w.engine)) (IsLegal first) w.notes.history w.notes.history refl
          (legal_of (state_of w.engine)) here;
      replay = λ e. here;
      places = λ e. places_same w.notes.spare after (state_of w.engine) m.same
          (places a m.next_is le (d.places m.going));
    }
desk_keeps {first = first} tell next now event after n v w (Err fault.Stopped) d m le replay places = record {
  legal = told_as (IsLegal first) (IsLegal first) v.notes.history w.notes.history (ap (λ z. z.history) m.notes)
      (λ h x. x) d.legal;
  replay = λ e. stopped_not v.notes.stopped w.notes.stopped m.was (ap (λ z. z.stopped) m.notes) e;
  places = λ e. stopped_not v.notes.stopped w.notes.stopped m.was (ap (λ z. z.stopped) m.notes) e;
}
desk_keeps {first = first} tell next now event after n v w (Err (fault.Engine refusal.WantOfMemory)) d m le replay
    places = absurd m
desk_keeps {first = first} tell next now event after n v w (Err (fault.Engine r)) d m le replay places = record {
  legal = told_as (IsLegal first) (IsLegal first) v.notes.history w.notes.history (ap (λ z. z.history) m.notes)
      (λ h x. x) d.legal;
  replay = λ e. told_as (IsReplay first (state_of v.engine)) (IsReplay first (state_of w.engine)) v.notes.history
      w.notes.history (ap (λ z. z.history) m.notes)
      (λ h x. replay_same (state_of v.engine) (state_of w.engine) h m.same x) (d.replay m.going);
  places = λ e. still v w m.same le (d.places m.going);
}
  where
    still : (v w : DeskView) → IsSame (state_of w.engine) (state_of v.engine) → v.notes.spare ≤ w.notes.spare
        → HasSpare v.notes.spare (state_of v.engine) → HasSpare w.notes.spare (state_of w.engine)
    still v w same le places =
        places_same w.notes.spare (state_of v.engine) (state_of w.engine) same
        (places_fewer v.notes.spare w.notes.spare (state_of v.engine) (state_of v.engine) (omega arith) (λ k e. e) le
        places)
desk_keeps {first = first} tell next now event after n v w (Err fault.JournalFault) d m le replay places = record {
  legal = told_as (IsLegal first) (IsLegal first) v.notes.history w.notes.history (ap (λ z. z.history) m.notes)
      (λ h x. x) d.legal;
  replay = λ e. stopped_not true w.notes.stopped refl (ap (λ z. z.stopped) m.notes) e;
  places = λ e. stopped_not true w.notes.stopped refl (ap (λ z. z.stopped) m.notes) e;
}
desk_keeps {first = first} tell next now event after n v w (Err fault.WantOfMemory) d m le replay places = record {
  legal = told_as (IsLegal first) (IsLegal first) v.notes.history w.notes.history (ap (λ z. z.history) m.notes)
      (λ h x. x) d.legal;
  replay = λ e. told_as (IsReplay first (state_of v.engine)) (IsReplay first (state_of w.engine)) v.notes.history
      w.notes.history (ap (λ z. z.history) m.notes)
      (λ h x. replay_same (state_of v.engine) (state_of w.engine) h m.same x) (d.replay m.going);
  places = λ e. still v w m.same le (d.places m.going);
}
  where
    still : (v w : DeskView) → IsSame (state_of w.engine) (state_of v.engine) → v.notes.spare ≤ w.notes.spare
        → HasSpare v.notes.spare (state_of v.engine) → HasSpare w.notes.spare (state_of w.engine)
    still v w same le places =
        places_same w.notes.spare (state_of v.engine) (state_of w.engine) same
        (places_fewer v.notes.spare w.notes.spare (state_of v.engine) (state_of v.engine) (omega arith) (λ k e. e) le
        places)

-- what was right of the count is still right
pub still_made : {first : Beginning} (v w : DeskView) → IsDesk first v → v.notes.stopped ≡ false
    → w.engine.epochs.current ≡ v.engine.epochs.current → w.notes.made ≡ v.notes.made
    → w.engine.epochs.current ≡ suc w.notes.made
still_made v w d going same made = same ∙ d.made going ∙ ap suc (sym made)

-- a call that leaves the current epoch leaves the count right
pub made_stays : {first : Beginning} {A : Type 0} (tell : A → Told) (next : Next) (now : ℕ) (event : Event)
    (after : State) (v w : DeskView) (r : Result A DeskFault) → IsDesk first v → Makes tell next now event after v r w
    → ((a : A) → next ≡ gives (tell a) → after.current ≡ (state_of v.engine).current)
    → w.notes.stopped ≡ false → w.engine.epochs.current ≡ suc w.notes.made
made_stays tell next now event after v w (Ok a) d m stay = λ e. still_made v w d m.going
    (m.same.current_is ∙ stay a m.next_is) (ap (λ z. z.made) m.notes)
made_stays tell next now event after v w (Err fault.Stopped) d m stay =
    λ e. stopped_not v.notes.stopped w.notes.stopped m.was (ap (λ z. z.stopped) m.notes) e
made_stays tell next now event after v w (Err (fault.Engine refusal.WantOfMemory)) d m stay = absurd m
made_stays tell next now event after v w (Err (fault.Engine r)) d m stay =
    λ e. still_made v w d m.going m.same.current_is (ap (λ z. z.made) m.notes)
made_stays tell next now event after v w (Err fault.JournalFault) d m stay =
    λ e. stopped_not true w.notes.stopped refl (ap (λ z. z.stopped) m.notes) e
made_stays tell next now event after v w (Err fault.WantOfMemory) d m stay =
    λ e. still_made v w d m.going m.same.current_is (ap (λ z. z.made) m.notes)

-- what a call leaves that leaves the current epoch is a desk, where it is for what the machine answers
pub desk_stays : {first : Beginning} {A : Type 0} (tell : A → Told) (next : Next) (now : ℕ) (event : Event)
    (after : State) (n : ℕ) (v w : DeskView) (r : Result A DeskFault) → IsDesk first v
    → Makes tell next now event after v r w → Leaves n v.notes r w.notes
    → ((a : A) → next ≡ gives (tell a) → (h : History) → IsReplay first (state_of v.engine) h
    → IsReplay first after (entry_at now event (tell a) ∷ h))
    → ((a : A) → next ≡ gives (tell a) → n ≤ suc w.notes.spare → HasSpare v.notes.spare (state_of v.engine)
    → HasSpare w.notes.spare after)
    → ((a : A) → next ≡ gives (tell a) → after.current ≡ (state_of v.engine).current)
    → IsDesk first w
desk_stays {first = first} tell next now event after n v w r d m le replay places stay =
    with_count w (desk_keeps {first = first} tell next now event after n v w r d m le replay places)
    (made_stays tell next now event after v w r d m stay)
