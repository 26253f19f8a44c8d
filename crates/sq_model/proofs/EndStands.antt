-- What an entry leaves of processes and of epochs that leaves each process as it was:
-- where every epoch lives on, and where some end.
use Rattle.std.proofs.Common.{◌≡◌, ℕ, suc, List, ◌∷◌, Bool, true, false, not, ◌&&◌, ◌||◌, nat_le, if◌then◌else◌, Option, Some, None, is_some, refl, sym, ap, ap₂, ◌∙◌}
use Rattle.std.specs.Option.{option_and_then, option_map, option_or}
use Rattle.std.proofs.lemmas.Bool.{and_right}
use Rattle.sq_base.specs.declared.helpers.Cause.{Cause}
use Rattle.sq_machine.specs.declared.entries.Event.{Event}
use Rattle.sq_machine.specs.declared.entries.Told.{Told}
use Rattle.sq_machine.specs.Checks.{numbered}
use Rattle.sq_rules.specs.Classes.{Class}
use Rattle.sq_rules.specs.Configurations.{Configuration}
use Rattle.sq_machine.specs.DueActs.{ClassId}
use Rattle.sq_machine.specs.Entries.{History}
use Rattle.sq_machine.specs.Epochs.{class_at, is_live, place_of_class}
use Rattle.sq_machine.specs.Marks.{Past, entries}
use Rattle.sq_machine.specs.Processes.{Home, ended_by, home_of, is_line_end, is_stopped, lives_on, proc_count, proc_end, started_by, stop_due, stops}
use Rattle.sq_machine.specs.Readings.{current}
use Rattle.sq_model.specs.CheckRows.{Held, held_checks}
use Rattle.sq_model.specs.ClassRows.{ClassRow, class_part, class_row}
use Rattle.sq_model.specs.Carried.{Carried, HasClass, NamesOnce}
use Rattle.sq_model.proofs.ClassParts.{bytes_same}
use Rattle.sq_model.proofs.ElsewhereLaws.{place_named}
use Rattle.sq_model.proofs.EpochLaws.{live_by_rows}
use Rattle.sq_model.proofs.ProcessLaws.{due_by, due_like, lives_by, lives_like}
use Rattle.sq_model.proofs.StopLaws.{NotStopped}
use Rattle.sq_model.specs.Changes.{if_live, is_over}
use Rattle.sq_model.specs.States.{State, Stands, lives_with, place_of}

-- the processes of a history are those of the one before: of the class that they were, ended as they were,
-- and told to stop as they were
pub record LeavesProcs (h after : History) : Type 0 where
  pub homes_same : (k : ℕ) → home_of after k ≡ home_of h k
  pub ends_same : (k : ℕ) → proc_end after k ≡ proc_end h k
  pub stopped_same : (k : ℕ) → is_stopped after k ≡ is_stopped h k

-- an event that starts, ends and stops no process
pub record NoProcs (h : History) (event : Event) (answer : Told) : Type 0 where
  pub starts_none : started_by event ≡ None
  pub ends_none : (k : ℕ) → ended_by h k event answer ≡ None
  pub stops_none : (k : ℕ) → stops k event answer ≡ false

-- it leaves each process as it was
pub leaves_procs : (now : ℕ) (event : Event) (answer : Told) (h : History) → NoProcs h event answer
    → LeavesProcs h (record { moment = now; event = event; answer = answer } ∷ h)
leaves_procs now event answer h n = record {
  homes_same = λ k. ap (λ (o : Option Home). option_or (numbered k (proc_count h) o) (home_of h k)) n.starts_none;
  ends_same = λ k. ap (λ (o : Option Cause). option_or o (proc_end h k)) (n.ends_none k);
  stopped_same = λ k.
      ap (λ (b : Bool). if nat_le k (proc_count h) && b then true else is_stopped h k) (n.stops_none k)
      ∙ ap (λ (b : Bool). if b then true else is_stopped h k) (and_right (nat_le k (proc_count h)) false refl);
}

-- nor does it change how many were started
pub procs_same : (now : ℕ) (event : Event) (answer : Told) (h : History) → started_by event ≡ None
    → proc_count (record { moment = now; event = event; answer = answer } ∷ h) ≡ proc_count h
procs_same now event answer h none = ap (λ (o : Option Home). if is_some o then suc (proc_count h) else proc_count h)
    none

-- epochs that had begun and live then lived before, as far as processes are of them
abbrev pub NoneBack : History → History → Type 0
NoneBack h after = (k : ℕ) (p : Home) → home_of h k ≡ Some p → is_live after p.epoch ≡ true → is_live h p.epoch ≡ true

-- the place of a process, by its home
abbrev pub placed : List Configuration → Option Home → Option ClassId
placed configs o = option_and_then
    (λ p. option_map (λ c. record { epoch = p.epoch; class = c }) (place_of_class configs p.epoch p.class)) o

-- where it lives
abbrev pub home_by : List Configuration → Option Home → Option Cause → (ℕ → Bool) → Option ClassId
home_by configs o d live = if lives_by o d live then placed configs o else None

-- whether a process lives, where the epochs do so
lives_after : (h after : History) (k : ℕ) → LeavesProcs h after
    → lives_on after k ≡ lives_by (home_of h k) (proc_end h k) (is_live after)
lives_after h after k l = ap₂ (λ (o : Option Home) (d : Option Cause). lives_by o d (is_live after)) (l.homes_same k)
    (l.ends_same k)

due_after : (h after : History) (k : ℕ) → LeavesProcs h after
    → stop_due after k ≡ due_by (home_of h k) (is_stopped h k) (proc_end h k) (is_live after)
due_after h after k l =
    ap₂ (λ (o : Option Home) (d : Option Cause). due_by o (is_stopped after k) d (is_live after)) (l.homes_same k)
    (l.ends_same k)
    ∙ ap (λ (b : Bool). due_by (home_of h k) b (proc_end h k) (is_live after)) (l.stopped_same k)

home_after : (configs : List Configuration) (h after : History) (k : ℕ) → LeavesProcs h after
    → (if lives_on after k then place_of configs after k else None)
    ≡ home_by configs (home_of h k) (proc_end h k) (is_live after)
home_after configs h after k l =
    ap₂ (λ (o : Option Home) (d : Option Cause). home_by configs o d (is_live after)) (l.homes_same k) (l.ends_same k)

-- where every epoch lives on, each process has its place still
pub homes_stay : (configs : List Configuration) (h after : History) (k : ℕ) → LeavesProcs h after
    → ((e : ℕ) → is_live after e ≡ is_live h e)
    → (if lives_on after k then place_of configs after k else None)
    ≡ (if lives_on h k then place_of configs h k else None)
homes_stay configs h after k l live =
    home_after configs h after k l
    ∙ ap (λ (b : Bool). if b then placed configs (home_of h k) else None)
    (lives_like (home_of h k) (proc_end h k) (is_live after) (is_live h) live)

-- and the same stops are due
pub stops_stay : (h after : History) (k : ℕ) → LeavesProcs h after → ((e : ℕ) → is_live after e ≡ is_live h e)
    → stop_due after k ≡ stop_due h k
stops_stay h after k l live = due_after h after k l
    ∙ due_like (home_of h k) (is_stopped h k) (proc_end h k) (is_live after) (is_live h) live

-- where some epochs end, their processes have no place any more
pub homes_end : (configs : List Configuration) (h after : History) (k : ℕ) (live : ℕ → Bool) → LeavesProcs h after
    → NoneBack h after → ((e : ℕ) → live e ≡ is_live after e)
    → if_live live (if lives_on h k then place_of configs h k else None)
    ≡ (if lives_on after k then place_of configs after k else None)
homes_end configs h after k live l back same = by (home_of h k) (proc_end h k) (back k)
    ∙ sym (home_after configs h after k l)
  where
    at : (p : Home) (c : Option ℕ) (r b d : Bool) → live p.epoch ≡ d → (d ≡ true → b ≡ true)
        → if_live live (if r && b then option_map (λ c. record { epoch = p.epoch; class = c }) c else None)
        ≡ (if r && d then option_map (λ c. record { epoch = p.epoch; class = c }) c else None)
    at p c false b d e f = refl
    at p None true true true e f = refl
    at p None true true false e f = refl
    at p (Some c) true true d e f = ap (λ (v : Bool). if v then Some (record { epoch = p.epoch; class = c })
        else None) e
    at p c true false true e f = absurd (let no = f refl in cc)
    at p c true false false e f = refl

    by : (o : Option Home) (d : Option Cause)
        → ((p : Home) → o ≡ Some p → is_live after p.epoch ≡ true → is_live h p.epoch ≡ true)
        → if_live live (home_by configs o d (is_live h)) ≡ home_by configs o d (is_live after)
    by None d f = refl
    by (Some p) d f = at p (place_of_class configs p.epoch p.class) (not (is_some d)) (is_live h p.epoch)
        (is_live after p.epoch) (same p.epoch) (f p refl)

-- a process of a class that stands has a place
placed_is : (configs : List Configuration) (p : Home) → NamesOnce configs → HasClass configs p.epoch p.class
    → (c : ℕ) × (place_of_class configs p.epoch p.class ≡ Some c)
placed_is configs p once has = (
  has.place,
  ap (place_of_class configs p.epoch) (sym (bytes_same has.class.name p.class has.named))
      ∙ place_named configs p.epoch has.place has.class once has.at,
)

-- and the stops of those that lived are due
pub stops_end : (configs : List Configuration) (m : Past) (after : History) (k : ℕ) (live : ℕ → Bool)
    → NamesOnce configs → Carried configs m → NotStopped (entries m)
    → LeavesProcs (entries m) after → NoneBack (entries m) after → ((e : ℕ) → live e ≡ is_live after e)
    → (stop_due (entries m) k || is_over live (if lives_on (entries m) k then place_of configs (entries m) k else None))
    ≡ stop_due after k
stops_end configs m after k live once carried stopped l back same =
    by (home_of (entries m) k) (proc_end (entries m) k) (is_stopped (entries m) k) (carried.home_class k) (back k)
    (stopped.goes_on k) ∙ sym (due_after (entries m) after k l)
  where
    at : (st line r b d : Bool) → (d ≡ true → b ≡ true) → ((r && b) ≡ true → st ≡ false)
        → ((not st && (line || (r && not b))) || (if r && b then not d else false)) ≡ (not st && (line || (r && not d)))
    at st line true true d f g = rw (g refl) (last line d)
      where
        last : (line d : Bool) → ((line || false) || not d) ≡ (line || not d)
        last true d = refl
        last false d = refl
    at st line true false true f g = absurd (let no = f refl in cc)
    at true line true false false f g = refl
    at false true true false false f g = refl
    at false false true false false f g = refl
    at true line false b d f g = refl
    at false true false b d f g = refl
    at false false false b d f g = refl

    over : (p : Home) (t : Bool) (c : ℕ) → place_of_class configs p.epoch p.class ≡ Some c
        → is_over live (if t then placed configs (Some p) else None)
        ≡ (if t then not (is_live after p.epoch) else false)
    over p true c is =
        ap (λ (o : Option ℕ). is_over live (option_map (λ c. record { epoch = p.epoch; class = c }) o)) is
        ∙ ap not (same p.epoch)
    over p false c is = refl

    by : (o : Option Home) (d : Option Cause) (st : Bool) → ((p : Home) → o ≡ Some p → HasClass configs p.epoch p.class)
        → ((p : Home) → o ≡ Some p → is_live after p.epoch ≡ true → is_live (entries m) p.epoch ≡ true)
        → (lives_by o d (is_live (entries m)) ≡ true → st ≡ false)
        → (due_by o st d (is_live (entries m)) || is_over live (home_by configs o d (is_live (entries m))))
        ≡ due_by o st d (is_live after)
    by None d st has f g = refl
    by (Some p) d st has f g =
        let place = placed_is configs p once (has p refl) in
        ap (λ (b : Bool). due_by (Some p) st d (is_live (entries m)) || b)
        (over p (lives_by (Some p) d (is_live (entries m))) place.0 place.1)
        ∙ at st (is_line_end d) (not (is_some d)) (is_live (entries m) p.epoch) (is_live after p.epoch) (f p refl) g

-- what an epoch has, where fewer epochs live then
pub left_there : {A : Type 0} (live before after : Bool) (o s : Option A) → s ≡ (if before then o else None)
    → live ≡ after → (after ≡ true → before ≡ true)
    → (if live then s else None) ≡ (if after then o else None)
left_there {A = A} live true after o s is same f = ap₂ (λ (b : Bool) (x : Option A). if b then x else None) same is
left_there live false true o s is same f = absurd (let no = f refl in cc)
left_there live false false o s is same f = ap (λ (b : Bool). if b then s else None) same

-- what an epoch has, where it lives as before
pub kept_there : {A : Type 0} (before after : Bool) (o s : Option A) → s ≡ (if before then o else None) → after ≡ before
    → s ≡ (if after then o else None)
kept_there before after o s is same = is ∙ ap (λ (b : Bool). if b then o else None) (sym same)

-- a class whose row is changed so has it changed in its part
pub part_changed : (configs : List Configuration) (m m' : Past) (e c : ℕ) (f : ClassRow → ClassRow)
    → ((class : Class) → class_at configs e c ≡ Some class
    → class_row configs m' e c class ≡ f (class_row configs m e c class))
    → class_part configs m' e c ≡ option_map f (class_part configs m e c)
part_changed configs m m' e c f is = by (class_at configs e c) is
  where
    by : (o : Option Class)
        → ((class : Class) → o ≡ Some class → class_row configs m' e c class ≡ f (class_row configs m e c class))
        → option_map (class_row configs m' e c) o ≡ option_map f (option_map (class_row configs m e c) o)
    by None g = refl
    by (Some class) g = ap (λ (r : ClassRow). Some r) (g class refl)

-- and one whose row is as it was has its part as it was
pub part_kept : (configs : List Configuration) (m m' : Past) (e c : ℕ)
    → ((class : Class) → class_at configs e c ≡ Some class
    → class_row configs m' e c class ≡ class_row configs m e c class)
    → class_part configs m' e c ≡ class_part configs m e c
part_kept configs m m' e c is = by (class_at configs e c) is
  where
    by : (o : Option Class)
        → ((class : Class) → o ≡ Some class → class_row configs m' e c class ≡ class_row configs m e c class)
        → option_map (class_row configs m' e c) o ≡ option_map (class_row configs m e c) o
    by None g = refl
    by (Some class) g = ap (λ (r : ClassRow). Some r) (g class refl)

-- whether an epoch lives after an entry, by the checks that it leaves
pub live_with : (configs : List Configuration) (m m' : Past) (s : State) (checks : List Held) (e : ℕ)
    → Stands configs m s → current (entries m') ≡ current (entries m)
    → held_checks configs m' ≡ checks → lives_with s.current checks e ≡ is_live (entries m') e
live_with configs m m' s checks e st same is =
    ap₂ (λ (n : ℕ) (rows : List Held). lives_with n rows e) (st.current_is ∙ sym same) (sym is)
    ∙ sym (live_by_rows configs m' e)

-- an entry that leaves the open checks and the current epoch leaves which epochs live
pub live_still : (configs : List Configuration) (m m' : Past) (e : ℕ) → current (entries m') ≡ current (entries m)
    → held_checks configs m' ≡ held_checks configs m
    → is_live (entries m') e ≡ is_live (entries m) e
live_still configs m m' e same is =
    live_by_rows configs m' e ∙ ap₂ (λ (n : ℕ) (rows : List Held). lives_with n rows e) same is
    ∙ sym (live_by_rows configs m e)
