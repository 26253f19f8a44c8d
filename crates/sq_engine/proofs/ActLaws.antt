-- The act of an engine: that of its state, what it leaves, and what is promised of it.
use Rattle.std.proofs.Common.{◌≡◌, ◌∙◌, ◌==◌, ℕ, zero, suc, List, [], ◌∷◌, ◌++◌, ◌-◌, length, map, Bool, true, false, if◌then◌else◌, Option, None, Some, IfSome, is_some, refl, ap, sym, subst}
use Rattle.std.proofs.lemmas.Option.{same_Some}
use Rattle.std.specs.List.{flat_map, slice_get}
use Rattle.std.specs.Prelude.{slice_set}
use Rattle.std.specs.Option.{option_and_then, option_map, option_map_or, option_or}
use Rattle.sq_machine.specs.declared.entries.Event.TheVariants as event
use Rattle.sq_machine.specs.DueActs.{ClassId, Due, first_made, first_of, sends, starts, stops}
use Rattle.sq_machine.specs.Farms.{Sending, Stock, Waiting, after_send, after_send_by, after_start, send_of, start_due}
use Rattle.sq_machine.specs.Living.{some_free}
use Rattle.sq_machine.specs.Numbered.{below, picks}
use Rattle.sq_machine.specs.OpenLookups.{question_of}
use Rattle.sq_model.specs.ClassRows.{ClassRow, after_sending, after_starting}
use Rattle.sq_model.proofs.RowLaws.{picks_same}
use Rattle.sq_class.specs.Parts.{PartState}
use Rattle.sq_epochs.specs.DueStates as dues
use Rattle.sq_epochs.specs.DueStates.{act_at, after_due, change_at, change_class, change_part, due_of, live_places, send_by, sent_part, start_by, started_part, told_act, told_due}
use Rattle.sq_epochs.specs.EpochProcs.{AreWhole}
use Rattle.sq_epochs.specs.EpochStates.{EpochState, EpochsState, IsChanged, change_epoch, epoch_at, epoch_in, epoch_number, part_at, part_of, with_part}
use Rattle.sq_machine.specs.declared.acts.Act.{Act}
use Rattle.sq_epochs.proofs.DueLaws.{found_self, made_same}
use Rattle.sq_epochs.proofs.NumberLaws.{live_numbers, rising_picked}
use Rattle.sq_epochs.proofs.ReadLaws.{config_acted, row_acted, stop_told}
use Rattle.sq_model.specs.Acts.{due_in, live_places_in, places_in, send_in, start_in}
use Rattle.sq_model.specs.States.{IsSame, State, live}
use Rattle.sq_model.specs.Changes.{at, change_row}
use Rattle.sq_model.proofs.ActPromises.{none_due, send_answered, start_answered, stop_answered}
use Rattle.sq_model.proofs.PromiseLaws.{answered_same}
use Rattle.sq_engine.specs.Acting.{IsActPromised, after_act, due_now}
use Rattle.sq_engine.specs.Engines.{IsEngine}
use Rattle.sq_engine.specs.EngineViews.{EngineView, config_in, state_of, stop_at}
use Rattle.sq_engine.proofs.QuietLaws.{IsQuiet, quiet_engine}

-- what is made was made of one of them
made_by : {A B : Type 0} (f : A → Option B) (xs : List A) (b : B) → first_made f xs ≡ Some b → (x : A) × (f x ≡ Some b)
made_by f [] b is = absurd (cc)
made_by {A = A} {B = B} f (x ∷ xs) b is = by (f x) refl is (made_by f xs b)
  where
    by : (o : Option B) → f x ≡ o → option_or o (first_made f xs) ≡ Some b
        → (first_made f xs ≡ Some b → (y : A) × (f y ≡ Some b)) → (y : A) × (f y ≡ Some b)
    by None e is more = more is
    by (Some z) e is more = (x, e ∙ is)

-- the due stops are those of the state
stops_read : (v : EngineView) → AreWhole v.epochs → v.epochs.stops ≡ picks (stop_at v.epochs) v.epochs.procs
stops_read v w = rising_picked (stop_at v.epochs) v.epochs.procs v.epochs.stops w.homes.stops_rise w.homes.stops_above
    w.homes.stops_born (λ k. refl)

-- lists that are made of each of these alike
flat_same : {A : Type 0} (f : EpochState → List A) (g : ℕ → List A) (xs : List EpochState)
    → ((i : ℕ) (x : EpochState) → slice_get xs i ≡ Some x → f x ≡ g x.epoch)
    → flat_map f xs ≡ flat_map g (map epoch_number xs)
flat_same f g [] same = refl
flat_same f g (x ∷ xs) same = ap (λ z. z ++ flat_map f xs) (same 0 x refl)
    ∙ ap (λ z. g x.epoch ++ z) (flat_same f g xs (λ i y at. same (suc i) y at))

-- the classes of live epochs are those of the state
places_read : (v : EngineView) → IsEngine v → AreWhole v.epochs → live_places v.epochs ≡ live_places_in (state_of v)
places_read v i w =
    flat_same dues.places_in (places_in (state_of v)) v.epochs.epochs
    (λ j x at. there x (found_self v.epochs.epochs j x w.live.rise at))
    ∙ ap (flat_map (places_in (state_of v)))
    (live_numbers v.epochs w.live
    ∙ sym (picks_same (λ e. is_some (epoch_at v.epochs e)) (live (state_of v)) v.epochs.current
    (λ k low high. sym (i.counted.live k))))
  where
    there : (x : EpochState) → epoch_at v.epochs x.epoch ≡ Some x → dues.places_in x ≡ places_in (state_of v) x.epoch
    there x is = ap (λ o. map (λ c. record { epoch = x.epoch; class = c })
        (below (option_map_or (λ config. length config.classes) (config_in o) 0))) (sym is)

-- what each class is to do is what the state says
send_read : (v : EngineView) (p : ClassId) → act_at send_by v.epochs p ≡ send_in (state_of v) p
send_read v p = by (part_at v.epochs p.epoch p.class)
  where
    by : (o : Option PartState)
        → option_and_then (send_by p) o
        ≡ option_map (sends p) (option_and_then (λ r. send_of r.stock) (option_map (λ x. x.row) o))
    by None = refl
    by (Some x) = refl

start_read : (v : EngineView) (p : ClassId) → act_at start_by v.epochs p ≡ start_in (state_of v) p
start_read v p = by (part_at v.epochs p.epoch p.class)
  where
    by : (o : Option PartState)
        → option_and_then (start_by p) o
        ≡ option_and_then (λ r. if start_due r.stock then Some (starts p) else None) (option_map (λ x. x.row) o)
    by None = refl
    by (Some x) = refl

-- what is made of the classes of live epochs is made of those of the state
made_read : (v : EngineView) (f g : ClassId → Option Due) → IsEngine v → AreWhole v.epochs → ((p : ClassId) → f p ≡ g p)
    → first_made f (live_places v.epochs) ≡ first_made g (live_places_in (state_of v))
made_read v f g i w same = made_same f g (live_places v.epochs) same ∙ ap (first_made g) (places_read v i w)

-- the next act is that of the state
pub due_read : (v : EngineView) → IsEngine v → AreWhole v.epochs → due_now v ≡ due_in (state_of v)
due_read v i w =
    ap (λ ns. option_or (option_map stops (first_of ns)) (option_or
    (first_made (act_at send_by v.epochs) (live_places v.epochs))
    (first_made (act_at start_by v.epochs) (live_places v.epochs)))) (stops_read v w)
    ∙ ap (λ z. option_or (option_map stops (first_of (picks (stop_at v.epochs) v.epochs.procs)))
    (option_or z (first_made (act_at start_by v.epochs) (live_places v.epochs))))
    (made_read v (act_at send_by v.epochs) (send_in (state_of v)) i w (send_read v))
    ∙ ap (λ z. option_or (option_map stops (first_of (picks (stop_at v.epochs) v.epochs.procs)))
    (option_or (first_made (send_in (state_of v)) (live_places_in (state_of v))) z))
    (made_read v (act_at start_by v.epochs) (start_in (state_of v)) i w (start_read v))

-- the class of an act is there
abbrev IsThere : EpochsState → Due → Type 0
IsThere v (stops k) = Unit {0}
IsThere v (sends p s) = (x : PartState) × (part_at v p.epoch p.class ≡ Some x)
IsThere v (starts p) = (x : PartState) × (part_at v p.epoch p.class ≡ Some x)

due_there : (v : EpochsState) (d : Due) → due_of v ≡ Some d → IsThere v d
due_there v d is = stop (first_of v.stops) is
  where
    starting : (q : ClassId) (o : Option PartState) → part_at v q.epoch q.class ≡ o
        → option_and_then (start_by q) o ≡ Some d → IsThere v d
    starting q None e is = absurd (cc)
    starting q (Some x) e is = by (start_due x.row.stock) is
      where
        by : (b : Bool) → (if b then Some (starts q) else None) ≡ Some d → IsThere v d
        by false is = absurd (cc)
        by true is = subst (IsThere v) (same_Some (starts q) d is) (x, e)

    sending : (q : ClassId) (o : Option PartState) → part_at v q.epoch q.class ≡ o
        → option_and_then (send_by q) o ≡ Some d → IsThere v d
    sending q None e is = absurd (cc)
    sending q (Some x) e is = by (send_of x.row.stock) is
      where
        by : (o : Option Sending) → option_map (sends q) o ≡ Some d → IsThere v d
        by None is = absurd (cc)
        by (Some s) is = subst (IsThere v) (same_Some (sends q s) d is) (x, e)

    start : first_made (act_at start_by v) (live_places v) ≡ Some d → IsThere v d
    start is = let q = made_by (act_at start_by v) (live_places v) d is in
        starting q.0 (part_at v q.0.epoch q.0.class) refl q.1

    send : (o : Option Due) → first_made (act_at send_by v) (live_places v) ≡ o
        → option_or o (first_made (act_at start_by v) (live_places v)) ≡ Some d → IsThere v d
    send None e is = start is
    send (Some x) e is = let q = made_by (act_at send_by v) (live_places v) d (e ∙ is) in
        sending q.0 (part_at v q.0.epoch q.0.class) refl q.1

    stop : (o : Option ℕ)
        → option_or (option_map stops o)
        (option_or (first_made (act_at send_by v) (live_places v)) (first_made (act_at start_by v) (live_places v)))
        ≡ Some d → IsThere v d
    stop None is = send (first_made (act_at send_by v) (live_places v)) refl is
    stop (Some k) is = subst (IsThere v) (same_Some (stops k) d is) tt

-- a part that is changed at its place
change_slice : (ps : List PartState) (c : ℕ) (p : PartState) (f : PartState → PartState) → slice_get ps c ≡ Some p
    → change_at c f ps ≡ slice_set ps c (f p)
change_slice [] c p f at = absurd (cc)
change_slice (q ∷ ps) zero p f at = ap (λ z. f z ∷ ps) (same_Some q p at)
change_slice (q ∷ ps) (suc c) p f at = ap (λ z. q ∷ z) (change_slice ps c p f at)

change_found : (e c : ℕ) (f : PartState → PartState) (x : PartState) (xs : List EpochState)
    → part_of c (epoch_in e xs) ≡ Some x → change_epoch e (change_class c f) xs ≡ change_epoch e (with_part c (f x)) xs
change_found e c f x [] is = refl
change_found e c f x (y ∷ ys) is = by (e == y.epoch) is (change_found e c f x ys)
  where
    by : (b : Bool) → part_of c (if b then Some y else epoch_in e ys) ≡ Some x
        → (part_of c (epoch_in e ys) ≡ Some x
        → change_epoch e (change_class c f) ys ≡ change_epoch e (with_part c (f x)) ys)
        → (if b then change_class c f y ∷ ys else y ∷ change_epoch e (change_class c f) ys)
        ≡ (if b then with_part c (f x) y ∷ ys else y ∷ change_epoch e (with_part c (f x)) ys)
    by true is more = ap (λ ps. record y { parts = ps } ∷ ys) (change_slice y.parts c x f is)
    by false is more = ap (λ z. y ∷ z) (more is)

-- an act of a class, as a change that leaves questions
act_change : (v : EpochsState) (p : ClassId) (f : PartState → PartState) (F : ClassRow → ClassRow) (x : PartState)
    → part_at v p.epoch p.class ≡ Some x → (f x).row ≡ F x.row
    → ((n : ℕ) → question_of n (f x).waiting ≡ question_of n x.waiting)
    → IsChanged p.epoch p.class (IsQuiet F) v (change_part p f v)
act_change v p f F x was row waits = record {
  before = x;
  after = f x;
  was = was;
  change = record { row_is = row; waiting_are = waits };
  new_is = ap (λ z. record v { epochs = z }) (change_found p.epoch p.class f x v.epochs was);
}

losses_sent : (s : Stock) → (after_send s).losses ≡ s.losses
losses_sent s = by s.queue (some_free s.procs)
  where
    by : (ws : List Waiting) (free : Bool) → (after_send_by s ws free).losses ≡ s.losses
    by [] free = refl
    by (w ∷ ws) true = refl
    by (w ∷ ws) false = refl

losses_started : (s : Stock) → (after_start s).losses ≡ s.losses
losses_started s = by (start_due s)
  where
    by : (b : Bool) → (if b then record s { owed = s.owed - 1; starting = suc s.starting } else s).losses ≡ s.losses
    by true = refl
    by false = refl

-- an engine is one still after an act
pub act_engine : (v : EngineView) (d : Due) (t : ℕ) → IsEngine v → due_of v.epochs ≡ Some d
    → IsEngine (record v { epochs = after_due (Some d) v.epochs; latest = t })
act_engine v d t i is = by d (due_there v.epochs d is)
  where
    by : (d : Due) → IsThere v.epochs d
        → IsEngine (record v { epochs = after_due (Some d) v.epochs; latest = t })
    by (stops k) there = record {
      asked = i.asked;
      counted = i.counted;
      configured = i.configured;
      waiting = i.waiting;
      fed = i.fed;
      keyed = i.keyed;
      setup_is = i.setup_is;
    }
    by (sends p s) there =
        quiet_engine v (change_part p sent_part v.epochs) t p.epoch p.class after_sending i (λ r. refl)
        (λ r. losses_sent r.stock) (act_change v.epochs p sent_part after_sending there.0 there.1 refl (λ n. refl))
    by (starts p) there =
        quiet_engine v (change_part p started_part v.epochs) t p.epoch p.class after_starting i (λ r. refl)
        (λ r. losses_started r.stock)
        (act_change v.epochs p started_part after_starting there.0 there.1 refl (λ n. refl))

-- the state after it
part_same : (v : EngineView) (p : ClassId) (f : PartState → PartState) (F : ClassRow → ClassRow) (t : ℕ)
    → ((x : PartState) → (f x).row ≡ F x.row)
    → IsSame (state_of (record v { epochs = change_part p f v.epochs; latest = t }))
    (at t (change_row p F (state_of v)))
part_same v p f F t same = record {
  clients_are = λ c. refl;
  conns_are = refl;
  from_are = λ a. refl;
  checks_are = refl;
  asks_are = refl;
  puts_are = refl;
  current_is = refl;
  configs_are = λ e. config_acted p f v.epochs e;
  rows_are = λ e c. row_acted p f F same v.epochs e c;
  procs_are = refl;
  homes_are = λ k. refl;
  stops_are = λ k. refl;
  latest_is = refl;
  offset_is = refl;
}

pub act_same : (v : EngineView) (d : Due) (t : ℕ)
    → IsSame (state_of (record v { epochs = after_due (Some d) v.epochs; latest = t }))
    (after_act (Some d) t (state_of v))
act_same v (stops k) t = record {
  clients_are = λ c. refl;
  conns_are = refl;
  from_are = λ a. refl;
  checks_are = refl;
  asks_are = refl;
  puts_are = refl;
  current_is = refl;
  configs_are = λ e. refl;
  rows_are = λ e c. refl;
  procs_are = refl;
  homes_are = λ j. refl;
  stops_are = λ j. stop_told k v.epochs.stops j;
  latest_is = refl;
  offset_is = refl;
}
act_same v (sends p s) t = part_same v p sent_part after_sending t (λ x. refl)
act_same v (starts p) t = part_same v p started_part after_starting t (λ x. refl)

-- what the live epochs leave is an engine, and its state is what the act makes of it
pub act_left : (v : EngineView) (new : EpochsState) (t : ℕ) → IsEngine v → new ≡ after_due (due_of v.epochs) v.epochs
    → IsEngine (record v { epochs = new; latest = t })
act_left v new t i left = subst (λ z. IsEngine (record v { epochs = z; latest = t })) (sym left)
    (by (due_of v.epochs) refl)
  where
    by : (o : Option Due) → due_of v.epochs ≡ o
        → IsEngine (record v { epochs = after_due o v.epochs; latest = t })
    by None e = record {
      asked = i.asked;
      counted = i.counted;
      configured = i.configured;
      waiting = i.waiting;
      fed = i.fed;
      keyed = i.keyed;
      setup_is = i.setup_is;
    }
    by (Some d) e = act_engine v d t i e

pub left_same : (v : EngineView) (new : EpochsState) (t : ℕ) (a : Act) → new ≡ after_due (due_of v.epochs) v.epochs
    → told_due (due_of v.epochs) ≡ Some a
    → IsSame (state_of (record v { epochs = new; latest = t })) (after_act (due_now v) t (state_of v))
left_same v new t a left is = subst (λ z. IsSame (state_of (record v { epochs = z; latest = t }))
    (after_act (due_now v) t (state_of v))) (sym left) (by (due_of v.epochs) is)
  where
    by : (o : Option Due) → told_due o ≡ Some a
        → IsSame (state_of (record v { epochs = after_due o v.epochs; latest = t }))
        (after_act o t (state_of v))
    by None is = absurd (cc)
    by (Some d) is = act_same v d t

-- what is promised of it
pub act_promised : (v : EngineView) (new : State) (now : ℕ) (r : Option Act) → IsEngine v → AreWhole v.epochs
    → r ≡ option_map told_act (due_now v)
    → IfSome r (λ a. IsSame new (after_act (due_now v) now (state_of v))) → IsActPromised (state_of v) now r new
act_promised v new now r i w is ok = by (due_now v) refl r is ok
  where
    read : (o : Option Due) → due_now v ≡ o → due_in (state_of v) ≡ o
    read o e = sym (due_read v i w) ∙ e

    done : (d : Due) → due_now v ≡ Some d → IsSame new (after_act (Some d) now (state_of v))
        → IsActPromised (state_of v) now (Some (told_act d)) new
    done (stops k) e same = λ configs h st late. answered_same configs h _ new now event.Act _ same
        (stop_answered configs h (state_of v) now k st late (read (Some (stops k)) e))
    done (sends p s) e same = λ configs h st late. answered_same configs h _ new now event.Act _ same
        (send_answered configs h (state_of v) now p s st late (read (Some (sends p s)) e))
    done (starts p) e same = λ configs h st late. answered_same configs h _ new now event.Act _ same
        (start_answered configs h (state_of v) now p st late (read (Some (starts p)) e))

    by : (o : Option Due) → due_now v ≡ o → (r : Option Act) → r ≡ option_map told_act o
        → IfSome r (λ a. IsSame new (after_act o now (state_of v))) → IsActPromised (state_of v) now r new
    by None e None is ok = λ configs h st late. none_due configs h (state_of v) now st late (read None e)
    by None e (Some a) is ok = absurd (cc)
    by (Some d) e None is ok = absurd (cc)
    by (Some d) e (Some a) is ok = subst (λ z. IsActPromised (state_of v) now (Some z) new) (sym (same_Some _ _ is))
        (done d e ok)
