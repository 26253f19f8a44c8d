-- Each legal history carries what the laws of readings ask for.
use Rattle.std.proofs.Common.{◌≡◌, ℕ, zero, suc, ◌<◌, ◌≤◌, ◌-◌, max, List, [], ◌∷◌, ◌++◌, map, find, slice_get, length, cond, Bool, true, false, not, ◌&&◌, ◌||◌, ◌==◌, nat_le, nat_lt, bytes_eq, if◌then◌else◌, Option, Some, None, is_some, refl, sym, ap, ap₂, subst, ◌∙◌, arith, le_refl, le_of_eq, position}
use Rattle.std.specs.List.{flat_map, list_any, position_or_len}
use Rattle.std.specs.Option.{option_and_then, option_map, option_map_or, option_or}
use Rattle.std.proofs.lemmas.Bool.{and_parts, not-true}
use Rattle.std.proofs.lemmas.Bool.Decides.{nat_tests}
use Rattle.std.proofs.lemmas.List.Folds.{find_at}
use Rattle.std.proofs.lemmas.Option.{none-some, same_Some}
use Rattle.sq_base.proofs.CommonLaws.{map_some, then_some}
use Rattle.sq_base.specs.declared.helpers.Answer.{Answer}
use Rattle.sq_base.specs.declared.helpers.Reply.{Reply}
use Rattle.sq_base.specs.declared.helpers.What.{What}
use Rattle.sq_base.specs.declared.helpers.Word.{Word}
use Rattle.sq_machine.specs.declared.entries.Event.{Event}
use Rattle.sq_machine.specs.declared.entries.Event.TheVariants.{Begin, Step, Started, StartFail, Line, Died, Act, Reconfigure}
use Rattle.sq_machine.specs.declared.entries.Told.{Told}
use Rattle.sq_machine.specs.declared.entries.Told.TheVariants as told
use Rattle.sq_machine.specs.declared.refusals.Refusal.{Refusal}
use Rattle.sq_machine.specs.declared.refusals.Refusal.TheVariants as refusal
use Rattle.sq_rules.specs.declared.values.Value.{Value}
use Rattle.sq_rules.specs.declared.values.Value.TheVariants as value
use Rattle.sq_machine.specs.AnswerReadings.{answers}
use Rattle.sq_machine.specs.Channels.{channel_name, is_open, least_free}
use Rattle.sq_machine.specs.Checks.{Asked, ask_count, ask_of, asked_by, check_open, numbered}
use Rattle.sq_rules.specs.Classes.{Class}
use Rattle.sq_rules.specs.Configurations.{Configuration}
use Rattle.sq_machine.specs.DueActs.{ClassId, first_made, first_of, live_places, next_act, class_ids, send_at, sending_told, start_at}
use Rattle.sq_machine.specs.Entries.{History, Noted}
use Rattle.sq_machine.specs.Epochs.{channels_named, class_at, class_named, has_open_check, is_check_of, is_live, live_epochs, name_of_class, place_of_class, config_of}
use Rattle.sq_machine.specs.Events.{Asking, asking, begins_epoch, is_number, is_begin}
use Rattle.sq_machine.specs.FarmReadings.{farm_of, farm_with, is_put_for, is_queued, living_of, waiting_of}
use Rattle.sq_machine.specs.Farms.{Sending, Stock, Waiting, send_by, send_of, start_due, full}
use Rattle.sq_machine.specs.Machine.{Legal, act_next, next, next_at, has_start, told_of_line, with_place}
use Rattle.sq_machine.specs.KeptReadings.{kept}
use Rattle.sq_machine.specs.Limits.{last_number}
use Rattle.sq_machine.specs.Living.{Living, has_free, target}
use Rattle.sq_machine.specs.Next.{Next, gives, refuse_if}
use Rattle.sq_machine.specs.Marking.{mark, marked}
use Rattle.sq_machine.specs.Marks.{Past, Put, entries}
use Rattle.sq_machine.specs.Numbered.{below, picks}
use Rattle.sq_machine.specs.Processes.{Home, home_of, is_at_home, is_running, lives_on, proc_count, proc_end, stop_due, runs_at, settled_starts, start_count, starting}
use Rattle.sq_machine.specs.Questions.{has_ended, pending, put_count, put_of, said_by, sent_to, what_of}
use Rattle.sq_machine.specs.Readings.{current, epoch_after}
use Rattle.sq_machine.specs.StepRule.{class_of_acl, says_asked_of, says_at_place, says_of_class, says_value, step_says, value_over}
use Rattle.sq_machine.specs.Transcripts.{LineIs, OnFree, Outside, ReplyTo, channels_of, line_is, line_told}
use Rattle.sq_model.specs.Carried.{Carried, HasClass, NamesOnce}
use Rattle.sq_model.specs.MarkedEntries.{noted_at}
use Rattle.sq_model.proofs.AgreeLaws.{IsSent}
use Rattle.sq_model.proofs.CarriedLaws.{carried_bad, carried_died, carried_failed, carried_reconfigured, carried_replied, carried_sent, carried_started, carried_starting, carried_stepped, carried_stopped, carried_stray, carried_untouched}
use Rattle.sq_model.proofs.ClassParts.{bytes_itself, bytes_same, equal, itself, put_for}
use Rattle.sq_model.proofs.LineLaws.{StandsOnlyOn, place_of_name, replies_to, reply_holds, stands_only}
use Rattle.sq_model.proofs.OnceLaws.{held_open}
use Rattle.sq_model.proofs.PendingLaws.{puts_need, step_waits}
use Rattle.sq_model.proofs.SendLaws.{SendIs, send_is}

-- a marked history has the entries of the history
pub marked_entries : (configs : List Configuration) (h : History) → entries (marked configs h) ≡ h
marked_entries configs [] = refl
marked_entries configs (x ∷ h) = ap (λ (t : History). x ∷ t) (marked_entries configs h)

-- nothing is carried at first but what is so of nothing
pub carried_none : (configs : List Configuration) → Carried configs []
carried_none configs = record {
  waits_put = λ n q e. absurd (none-some q e);
  sent_given = λ q k e. absurd (none-some k e);
  sent_home = λ q k e c s p. absurd (none-some k s);
  home_class = λ k p e. absurd (none-some p e);
  starts_few = λ e name. le_refl 0;
  later_unused = λ e l. record {
    none_put = λ c q. refl;
    none_home = λ name k. refl;
    none_started = λ name. refl;
    none_held = λ c name. refl;
  };
  slots_agree = λ e c class at k q runs. absurd (cc);
  holds_once = λ e c class at k q runs. absurd (cc);
}

-- what is told where nothing is refused
refused_not : (b : Bool) (r : Refusal) (rest : Next) (t : Told) → refuse_if b r rest ≡ gives t
    → (b ≡ false) × (rest ≡ gives t)
refused_not true r rest t e = absurd (cc)
refused_not false r rest t e = (refl, e)

unnot : (b : Bool) → not b ≡ false → b ≡ true
unnot true e = refl
unnot false e = absurd (cc)

given_is : (a b : Told) → gives a ≡ gives b → a ≡ b
given_is a b e = cc

-- a class that is found by its name
record PlaceIs (classes : List Class) (test : Class → Bool) (i : ℕ) : Type 0 where
  found : Class
  at : slice_get classes i ≡ Some found
  passes : test found ≡ true

find_passes : (test : Class → Bool) (xs : List Class) (x : Class) → find test xs ≡ Some x → test x ≡ true
find_passes test [] x e = absurd (none-some x e)
find_passes test (y ∷ xs) x e = by (test y) refl (find_passes test xs x) e
  where
    by : (b : Bool) → test y ≡ b → (find test xs ≡ Some x → test x ≡ true) → cond b (Some y) (find test xs) ≡ Some x
        → test x ≡ true
    by true t more e = ap test (sym (same_Some _ _ e)) ∙ t
    by false t more e = more e

position_found : (test : Class → Bool) (xs : List Class) (i : ℕ) → position test xs ≡ Some i → PlaceIs xs test i
position_found test xs i e = by (nat_lt (position_or_len test xs) (length xs)) refl e
  where
    got : (o : Option Class) → slice_get xs (position_or_len test xs) ≡ o → position_or_len test xs ≡ i
        → position_or_len test xs < length xs → PlaceIs xs test i
    got (Some x) is same l = record {
      found = x;
      at = ap (slice_get xs) (sym same) ∙ is;
      passes = find_passes test xs x (find_at test xs ∙ is);
    }
    got None is same l = absurd (get_none xs (position_or_len test xs) l is)
      where
        get_none : (xs : List Class) (k : ℕ) → k < length xs → slice_get xs k ≡ None → ⊥
        get_none [] k l e = absurd (omega arith)
        get_none (x ∷ xs) zero l e = none-some x (sym e)
        get_none (x ∷ xs) (suc k) l e = get_none xs k (omega arith) e

    lower : (a b : ℕ) → nat_lt a b ≡ true → a < b
    lower a b t = grind (arith, nat_tests)

    by : (b : Bool) → nat_lt (position_or_len test xs) (length xs) ≡ b
        → cond b (Some (position_or_len test xs)) None ≡ Some i → PlaceIs xs test i
    by true t e = got (slice_get xs (position_or_len test xs)) refl (same_Some _ _ e)
        (lower (position_or_len test xs) (length xs) t)
    by false t e = absurd (none-some i e)

-- a name that has a place has a class
pub place_class : (configs : List Configuration) (e : ℕ) (name : List ℕ) (c : ℕ)
    → place_of_class configs e name ≡ Some c → HasClass configs e name
place_class configs e name c is = by (config_of configs e) refl is
  where
    by : (o : Option Configuration) → config_of configs e ≡ o
        → option_and_then (λ config. position (λ class. bytes_eq class.name name) config.classes) o ≡ Some c
        → HasClass configs e name
    by None z is = absurd (none-some c is)
    by (Some config) z is =
        let p = position_found (λ (class : Class). bytes_eq class.name name) config.classes c is in
        record {
          place = c;
          class = p.found;
          at = ap (option_and_then (λ (k : Configuration). slice_get k.classes c)) z ∙ p.at;
          named = p.passes;
        }

-- the class that a search by name finds, where one has the name
record FoundClass (classes : List Class) (test : Class → Bool) : Type 0 where
  place : ℕ
  found : Class
  at : slice_get classes place ≡ Some found
  passes : test found ≡ true
  is : find test classes ≡ Some found

find_some : (test : Class → Bool) (xs : List Class) (i : ℕ) (x : Class) → slice_get xs i ≡ Some x → test x ≡ true
    → FoundClass xs test
find_some test [] i x e t = absurd (none-some x e)
find_some test (y ∷ xs) i x e t = by (test y) refl (λ j f. find_some test xs j x f t) i e
  where
    by : (b : Bool) → test y ≡ b → ((j : ℕ) → slice_get xs j ≡ Some x → FoundClass xs test) → (i : ℕ)
        → slice_get (y ∷ xs) i ≡ Some x → FoundClass (y ∷ xs) test
    by true s more i e = record {
      place = 0;
      found = y;
      at = refl;
      passes = s;
      is = ap (λ (b : Bool). cond b (Some y) (find test xs)) s;
    }
    by false s more zero e = absurd (let no : test y ≡ true = ap test (same_Some _ _ e) ∙ t in cc)
    by false s more (suc i) e =
        let f = more i e in
        record {
          place = suc f.place;
          found = f.found;
          at = f.at;
          passes = f.passes;
          is = ap (λ (b : Bool). cond b (Some y) (find test xs)) s ∙ f.is;
        }

-- a search by name finds the class of that name
pub class_found : (configs : List Configuration) (e c : ℕ) (class : Class) (name : List ℕ) → NamesOnce configs
    → class_at configs e c ≡ Some class → bytes_eq class.name name ≡ true
    → class_named configs e name ≡ Some class
class_found configs e c class name once at named = by (config_of configs e) refl at
  where
    by : (o : Option Configuration) → config_of configs e ≡ o
        → option_and_then (λ config. slice_get config.classes c) o ≡ Some class
        → class_named configs e name ≡ Some class
    by None z is = absurd (none-some class is)
    by (Some config) z is =
        let f = find_some (λ (k : Class). bytes_eq k.name name) config.classes c class is named in
        let there : class_at configs e f.place ≡ Some f.found =
        ap (option_and_then (λ (k : Configuration). slice_get k.classes f.place)) z ∙ f.at in
        let names : class.name ≡ f.found.name = bytes_same class.name name named
        ∙ sym (bytes_same f.found.name name f.passes) in
        let same : c ≡ f.place = once e c f.place class f.found
        at there (ap (λ (w : List ℕ). bytes_eq class.name w) (sym names) ∙ bytes_itself class.name) in
        let one : class ≡ f.found = same_Some _ _ (sym is ∙ ap (slice_get config.classes) same ∙ f.at) in
        ap (option_and_then (λ (k : Configuration). find (λ (k : Class). bytes_eq k.name name) k.classes)) z ∙ f.is
        ∙ ap (λ (k : Class). Some k) (sym one)

-- two classes of which one process is are one class
pub one_class : (configs : List Configuration) (m : Past) (k e c f d : ℕ) (class other : Class) → NamesOnce configs
    → class_at configs e c ≡ Some class → class_at configs f d ≡ Some other
    → is_at_home (entries m) e class.name k ≡ true → is_at_home (entries m) f other.name k ≡ true → class ≡ other
one_class configs m k e c f d class other once at there mine his = by (home_of (entries m) k) mine his
  where
    by : (o : Option Home) → option_map_or (λ p. (p.epoch == e) && bytes_eq p.class class.name) o false ≡ true
        → option_map_or (λ p. (p.epoch == f) && bytes_eq p.class other.name) o false ≡ true
        → class ≡ other
    by None a b = absurd (cc)
    by (Some p) a b =
        let x = and_parts (p.epoch == e) (bytes_eq p.class class.name) a in
        let y = and_parts (p.epoch == f) (bytes_eq p.class other.name) b in
        let epochs : f ≡ e = sym (equal p.epoch f y.0) ∙ equal p.epoch e x.0 in
        let names : class.name ≡ other.name = sym (bytes_same p.class class.name x.1)
        ∙ bytes_same p.class other.name y.1 in
        let here : class_at configs e d ≡ Some other = ap (λ (i : ℕ). class_at configs i d) (sym epochs) ∙ there in
        let same : c ≡ d = once e c d class other
        at here (ap (λ (w : List ℕ). bytes_eq class.name w) (sym names) ∙ bytes_itself class.name) in
        same_Some _ _ (sym at ∙ ap (class_at configs e) same ∙ here)

home_of_run : (m : Past) (e : ℕ) (name : List ℕ) (k : ℕ) → runs_at (entries m) e name k ≡ true
    → is_at_home (entries m) e name k ≡ true
home_of_run m e name k runs = (and_parts (is_at_home (entries m) e name k) (is_running (entries m) k) runs).0

-- the epoch of a check has begun
pub asked_epoch : (h : History) (n : ℕ) (a : Asked) → ask_of h n ≡ Some a → a.epoch ≤ current h
unfolding ask_of
asked_epoch [] n a e = absurd (none-some a e)
asked_epoch (x ∷ h) n a e = by (numbered n (ask_count h) (asking x.event)) (asked_epoch h n a) e
  where
    grown : (b : Bool) (a n : ℕ) → a ≤ n → a ≤ epoch_after b n
    grown true a n l = omega arith
    grown false a n l = l

    by : (o : Option Asking) → (ask_of h n ≡ Some a → a.epoch ≤ current h)
        → option_or (option_map (asked_by h x.moment) o) (ask_of h n) ≡ Some a
        → a.epoch ≤ epoch_after (begins_epoch x.event) (current h)
    by None more e = grown (begins_epoch x.event) a.epoch (current h) (more e)
    by (Some y) more e =
        subst (λ (i : ℕ). i ≤ epoch_after (begins_epoch x.event) (current h))
        (ap (λ (z : Asked). z.epoch) (same_Some _ _ e))
        (grown (begins_epoch x.event) (current h) (current h) (le_refl (current h)))

any_some : (test : ℕ → Bool) (xs : List ℕ) → list_any test xs ≡ true → (k : ℕ) × (test k ≡ true)
any_some test [] e = absurd (cc)
any_some test (x ∷ xs) e = by (test x) refl (any_some test xs) e
  where
    by : (b : Bool) → test x ≡ b → (list_any test xs ≡ true → (k : ℕ) × (test k ≡ true))
        → (b || list_any test xs) ≡ true → (k : ℕ) × (test k ≡ true)
    by true t more e = (x, t)
    by false t more e = more e

-- so of every epoch that lives
pub live_begun : (h : History) (e : ℕ) → is_live h e ≡ true → e ≤ current h
live_begun h e live = by (e == current h) refl live
  where
    of_check : (n : ℕ) (o : Option Asked) → ask_of h n ≡ o
        → (option_map_or (λ a. a.epoch == e) o false && check_open h n) ≡ true → e ≤ current h
    of_check n None is t = absurd (cc)
    of_check n (Some a) is t =
        subst (λ (i : ℕ). i ≤ current h) (equal a.epoch e (and_parts (a.epoch == e) (check_open h n) t).0)
        (asked_epoch h n a is)

    by : (b : Bool) → (e == current h) ≡ b → (b || has_open_check h e) ≡ true → e ≤ current h
    by true same t = le_of_eq (equal e (current h) same)
    by false other t = let n = any_some (is_check_of h e) (picks (check_open h) (ask_count h)) t in
        of_check n.0 (ask_of h n.0) refl n.1

-- an open start was told and was not settled
open_start : (h : History) (e : ℕ) (name : List ℕ) → has_start h e name ≡ true
    → (e ≤ current h) × (settled_starts h e name < start_count h e name)
open_start h e name t =
    let a = and_parts (is_live h e) (not (starting h e name == 0)) t in
    (live_begun h e a.0, few (start_count h e name) (settled_starts h e name) a.1)
  where
    few : (a b : ℕ) → not (a - b == 0) ≡ true → b < a
    few a b t = above a b (apart (a - b) t)
      where
        apart : (n : ℕ) → not (n == 0) ≡ true → 0 < n
        apart n t = grind (arith, nat_tests)

        above : (a b : ℕ) → 0 < a - b → b < a
        above a b l = omega arith

-- what a step puts is of the check's epoch
record PutsOf (e : ℕ) (o : Option Put) : Type 0 where
  epoch_is : (p : Put) → o ≡ Some p → p.epoch ≡ e

puts_none : (e : ℕ) → PutsOf e None
puts_none e = record { epoch_is = λ p is. absurd (none-some p is) }

puts_class : (configs : List Configuration) (m : Past) (e c : ℕ) (key : List ℕ) (now : ℕ) (o : Option Class)
    → PutsOf e (says_of_class configs m e c key now o).put
puts_class configs m e c key now None = puts_none e
puts_class configs m e c key now (Some class) =
    let f = puts_need class (record { epoch = e; class = c; key = key }) now (kept configs m e c)
    (pending configs m e c key) (full (farm_with configs m e c class)) (put_count m) in
    record { epoch_is = λ p is. ap (λ (q : Put). q.epoch) (f.fresh p is).0 }

puts_place : (configs : List Configuration) (m : Past) (e : ℕ) (key : List ℕ) (now : ℕ) (o : Option ℕ)
    → PutsOf e (says_at_place configs m e key now o).put
puts_place configs m e key now None = puts_none e
puts_place configs m e key now (Some c) = puts_class configs m e c key now (class_at configs e c)

puts_value : (configs : List Configuration) (m : Past) (e now : ℕ) (v : Value)
    → PutsOf e (says_value configs m e now v).put
puts_value configs m e now (value.Verdict o) = puts_none e
puts_value configs m e now (value.Need acl key) = puts_place configs m e key now
    (option_and_then (λ config. class_of_acl config.acls acl) (config_of configs e))

puts_begun : (configs : List Configuration) (m : Past) (now : ℕ) (s : List Answer) (n : ℕ) (o : Option Asked)
    → ask_of (entries m) n ≡ o
    → (p : Put) → (says_asked_of configs m now s o).put ≡ Some p → p.epoch ≤ current (entries m)
puts_begun configs m now s n None is p e = absurd (none-some p e)
puts_begun configs m now s n (Some a) is p e =
    subst (λ (i : ℕ). i ≤ current (entries m))
    (sym ((puts_value configs m a.epoch now (value_over configs a s)).epoch_is p e)) (asked_epoch (entries m) n a is)

-- what a step of check n puts is of an epoch that has begun
pub step_begun : (configs : List Configuration) (m : Past) (n now : ℕ) (p : Put)
    → (step_says configs m n now).put ≡ Some p → p.epoch ≤ current (entries m)
step_begun configs m n now p e = puts_begun configs m now (answers configs m n) n (ask_of (entries m) n) refl p e

-- a predicate of each
abbrev AllOf : {A : Type 0} → (A → Type 0) → List A → Type 0
AllOf P [] = Unit {0}
AllOf P (x ∷ xs) = P x × AllOf P xs

all_push : {A : Type 0} (P : A → Type 0) (xs : List A) (x : A) → AllOf P xs → P x → AllOf P (xs ++ x ∷ [])
all_push P [] x all p = (p, tt)
all_push P (y ∷ xs) x all p = (all.0, all_push P xs x all.1 p)

all_append : {A : Type 0} (P : A → Type 0) (xs ys : List A) → AllOf P xs → AllOf P ys → AllOf P (xs ++ ys)
all_append P [] ys a b = b
all_append P (x ∷ xs) ys a b = (a.0, all_append P xs ys a.1 b)

-- a number that is picked: it passes, and is not above the last
abbrev IsPicked : (ℕ → Bool) → ℕ → ℕ → Type 0
IsPicked p n k = (p k ≡ true) × (k ≤ n)

all_up : (p : ℕ → Bool) (n : ℕ) (xs : List ℕ) → AllOf (IsPicked p n) xs → AllOf (IsPicked p (suc n)) xs
all_up p n [] a = tt
all_up p n (x ∷ xs) a = ((a.0.0, up x n a.0.1), all_up p n xs a.1)
  where
    up : (a b : ℕ) → a ≤ b → a ≤ suc b
    up a b l = omega arith

all_picked : (p : ℕ → Bool) (n : ℕ) → AllOf (IsPicked p n) (picks p n)
all_picked p zero = tt
all_picked p (suc n) = by (p (suc n)) refl (all_up p n (picks p n) (all_picked p n))
  where
    by : (b : Bool) → p (suc n) ≡ b → AllOf (IsPicked p (suc n)) (picks p n)
        → AllOf (IsPicked p (suc n)) (if b then picks p n ++ suc n ∷ [] else picks p n)
    by true t all = all_push (IsPicked p (suc n)) (picks p n) (suc n) all (t, le_refl (suc n))
    by false t all = all

-- the place of a class in an epoch that has begun
abbrev IsBegun : ℕ → ClassId → Type 0
IsBegun n p = p.epoch ≤ n

all_of_epoch : (n e : ℕ) (xs : List ℕ) → e ≤ n → AllOf (IsBegun n) (map (λ (c : ℕ). record { epoch = e; class = c }) xs)
all_of_epoch n e [] l = tt
all_of_epoch n e (x ∷ xs) l = (l, all_of_epoch n e xs l)

all_places : (configs : List Configuration) (n : ℕ) (p : ℕ → Bool) (es : List ℕ) → AllOf (IsPicked p n) es
    → AllOf (IsBegun n) (flat_map (class_ids configs) es)
all_places configs n p [] a = tt
all_places configs n p (e ∷ es) a =
    all_append (IsBegun n) (class_ids configs e) (flat_map (class_ids configs) es)
    (all_of_epoch n e (below (option_map_or (λ config. length config.classes) (config_of configs e) 0)) a.0.1)
    (all_places configs n p es a.1)

-- the first that something is made of
made_of : {A B : Type 0} (P : A → Type 0) (f : A → Option B) (xs : List A) (y : B) → AllOf P xs
    → first_made f xs ≡ Some y → (x : A) × P x × (f x ≡ Some y)
made_of P f [] y all e = absurd (none-some y e)
made_of {A} {B} P f (x ∷ xs) y all e = by (f x) refl (made_of P f xs y all.1) e
  where
    by : (o : Option B) → f x ≡ o → (first_made f xs ≡ Some y → (x : A) × P x × (f x ≡ Some y))
        → option_or o (first_made f xs) ≡ Some y → (x : A) × P x × (f x ≡ Some y)
    by None is more e = more e
    by (Some z) is more e = (x, all.0, is ∙ e)

-- the process that a question goes to runs, and has a free channel
record IsTarget (f : ℕ → Living) (test : ℕ → Bool) (n p : ℕ) (channel : Option ℕ) : Type 0 where
  runs : test p ≡ true
  given : p ≤ n
  free : has_free (f p) ≡ true
  channel_is : channel ≡ channel_name (f p).process.numbered (least_free (f p).process.slots)

is_target : (f : ℕ → Living) (test : ℕ → Bool) (n p : ℕ) (channel : Option ℕ) (xs : List ℕ)
    → ((j : ℕ) → (f j).number ≡ j) → AllOf (IsPicked test n) xs → target (map f xs) ≡ Some (p, channel)
    → IsTarget f test n p channel
is_target f test n p channel [] number all e = absurd (none-some (p, channel) e)
is_target f test n p channel (x ∷ xs) number all e = by (has_free (f x)) refl
    (is_target f test n p channel xs number all.1) e
  where
    by : (b : Bool) → has_free (f x) ≡ b → (target (map f xs) ≡ Some (p, channel) → IsTarget f test n p channel)
        → (if b then Some ((f x).number, channel_name (f x).process.numbered (least_free (f x).process.slots))
        else target (map f xs)) ≡ Some (p, channel) → IsTarget f test n p channel
    by true free more e =
        let same : x ≡ p = sym (number x) ∙ ap (λ (z : ℕ × Option ℕ). z.0) (same_Some _ _ e) in
        record {
          runs = ap test (sym same) ∙ all.0.0;
          given = subst (λ (i : ℕ). i ≤ n) same all.0.1;
          free = ap (λ (i : ℕ). has_free (f i)) (sym same) ∙ free;
          channel_is = sym (ap (λ (z : ℕ × Option ℕ). z.1) (same_Some _ _ e))
              ∙ ap (λ (i : ℕ). channel_name (f i).process.numbered (least_free (f i).process.slots)) same;
        }
    by false free more e = more e

-- the first of a queue
record IsFirst (test : ℕ → Bool) (n q : ℕ) : Type 0 where
  waits : test q ≡ true
  given : q ≤ n

is_first : (m : Past) (test : ℕ → Bool) (n : ℕ) (xs : List ℕ) (w : Waiting) (rest : List Waiting)
    → AllOf (IsPicked test n) xs → map (waiting_of m) xs ≡ w ∷ rest → IsFirst test n w.question
is_first m test n [] w rest all e = absurd (cc)
is_first m test n (x ∷ xs) w rest all e =
    let same : x ≡ w.question = ap number e in
    record { waits = ap test (sym same) ∙ all.0.0; given = subst (λ (i : ℕ). i ≤ n) same all.0.1 }
  where
    number : List Waiting → ℕ
    number [] = x
    number (v ∷ vs) = v.question

queued_parts : (a b d : Bool) → (a && not b && not d) ≡ true → (a ≡ true) × (b ≡ false) × (d ≡ false)
queued_parts true false false e = (refl, refl, refl)
queued_parts true true d e = absurd (cc)
queued_parts true false true e = absurd (cc)
queued_parts false b d e = absurd (cc)

none_there : (o : Option ℕ) → is_some o ≡ false → o ≡ None
none_there None e = refl
none_there (Some k) e = absurd (cc)

-- the text of the first of a queue is the key of its question
first_text : (m : Past) (xs : List ℕ) (w : Waiting) (rest : List Waiting) → map (waiting_of m) xs ≡ w ∷ rest
    → option_map_or (λ p. p.key) (put_of m w.question) [] ≡ w.text
first_text m [] w rest e = absurd (cc)
first_text m (x ∷ xs) w rest e =
    let is : waiting_of m x ≡ w = ap first e in
    ap (λ (v : Waiting). option_map_or (λ p. p.key) (put_of m v.question) []) (sym is) ∙ ap (λ (v : Waiting). v.text) is
  where
    first : List Waiting → Waiting
    first [] = w
    first (v ∷ vs) = v

-- and so is the text that is sent
sent_text : (queue : List Waiting) (t : Option (ℕ × Option ℕ)) (s : Sending) (w : Waiting) (rest : List Waiting)
    → send_by queue t ≡ Some s → queue ≡ w ∷ rest → w.text ≡ s.text
sent_text [] t s w rest e is = absurd (cc)
sent_text (v ∷ queue) None s w rest e is = absurd (none-some s e)
sent_text (v ∷ queue) (Some t) s w rest e is = sym (ap text is) ∙ ap (λ (z : Sending). z.text) (same_Some _ _ e)
  where
    text : List Waiting → List ℕ
    text [] = []
    text (z ∷ zs) = z.text

-- a send that is due: its question was put for a class, with the key that is sent,
-- was sent nowhere and has not ended, and it goes to a process of that class
pub record IsDueSend (configs : List Configuration) (m : Past) (p q : ℕ) (channel : Option ℕ)
    (key : List ℕ) : Type 0 where
  pub epoch : ℕ
  pub place : ℕ
  pub class : Class
  pub class_is : class_at configs epoch place ≡ Some class
  pub put : is_put_for epoch place (put_of m q) ≡ true
  pub key_is : option_map_or (λ p. p.key) (put_of m q) [] ≡ key
  pub unsent : sent_to m q ≡ None
  pub unended : has_ended configs m q ≡ false
  pub given : q ≤ put_count m
  pub runs : runs_at (entries m) epoch class.name p ≡ true
  pub born : p ≤ proc_count (entries m)
  pub free : has_free (living_of class.concurrency (entries m) p) ≡ true
  pub channel_is : channel
      ≡ channel_name (nat_lt 0 class.concurrency) (least_free (living_of class.concurrency (entries m) p).process.slots)

due_send : (configs : List Configuration) (m : Past) (e c : ℕ) (class : Class) (s : Sending)
    → class_at configs e c ≡ Some class → send_of (farm_with configs m e c class) ≡ Some s
    → IsDueSend configs m s.proc s.question s.channel s.text
due_send configs m e c class s at due =
    let farm = farm_with configs m e c class in
    let i : SendIs farm.queue (target farm.procs) s.proc s.question s.channel =
    send_is farm.queue (target farm.procs) s.proc s.question s.channel s.text due in
    let first = is_first m (is_queued configs m e c) (put_count m) (picks (is_queued configs m e c) (put_count m))
    i.first i.rest (all_picked (is_queued configs m e c) (put_count m)) i.queue_is in
    let q = queued_parts (is_put_for e c (put_of m i.first.question)) (is_some (sent_to m i.first.question))
    (has_ended configs m i.first.question) first.waits in
    let t = is_target (living_of class.concurrency (entries m)) (runs_at (entries m) e class.name)
    (proc_count (entries m)) s.proc s.channel
    (picks (runs_at (entries m) e class.name) (proc_count (entries m))) (λ j. refl)
    (all_picked (runs_at (entries m) e class.name) (proc_count (entries m))) i.target_is in
    record {
      epoch = e;
      place = c;
      class = class;
      class_is = at;
      put = ap (λ (j : ℕ). is_put_for e c (put_of m j)) (sym i.question_is) ∙ q.0;
      key_is = ap (λ (j : ℕ). option_map_or (λ p. p.key) (put_of m j) []) (sym i.question_is)
          ∙ first_text m (picks (is_queued configs m e c) (put_count m)) i.first i.rest i.queue_is
          ∙ sent_text farm.queue (target farm.procs) s i.first i.rest due i.queue_is;
      unsent = ap (sent_to m) (sym i.question_is) ∙ none_there (sent_to m i.first.question) q.1;
      unended = ap (has_ended configs m) (sym i.question_is) ∙ q.2;
      given = subst (λ (j : ℕ). j ≤ put_count m) i.question_is first.given;
      runs = t.runs;
      born = t.given;
      free = t.free;
      channel_is = t.channel_is;
    }

sent_by_due : (configs : List Configuration) (m : Past) (now p q : ℕ) (channel : Option ℕ) (key : List ℕ)
    → NamesOnce configs → IsDueSend configs m p q channel key → Carried configs m
    → Carried configs (noted_at now Act (told.Send p q channel key) ∷ m)
sent_by_due configs m now p q channel key once d c =
    carried_sent configs m now p q channel key d.unsent d.given d.born home
    (λ e i other there runs.
    let same : d.class ≡ other =
    one_class configs m p d.epoch d.place e i d.class other once d.class_is there
    (home_of_run m d.epoch d.class.name p d.runs) (home_of_run m e other.name p runs) in
    subst (λ (k : Class). IsSent configs m p q channel k.concurrency) same
    (record { unsent = d.unsent; unended = d.unended; given = d.given; free = d.free; channel_is = d.channel_is }))
    c
  where
    home : (e i : ℕ) → is_put_for e i (put_of m q) ≡ true
        → is_at_home (entries m) e (name_of_class configs e i) p ≡ true
    home e i here =
        let a = put_for (put_of m q) d.epoch d.place d.put in
        let b = put_for (put_of m q) e i here in
        let one : a.put ≡ b.put = same_Some _ _ (sym a.is ∙ b.is) in
        let epochs : d.epoch ≡ e = sym a.epoch_is ∙ ap (λ (z : Put). z.epoch) one ∙ b.epoch_is in
        let classes : d.place ≡ i = sym a.class_is ∙ ap (λ (z : Put). z.class) one ∙ b.class_is in
        let name : name_of_class configs e i ≡ d.class.name = sym (ap₂ (name_of_class configs) epochs classes)
        ∙ ap (λ (o : Option Class). option_map_or (λ k. k.name) o []) d.class_is in
        ap₂ (λ (j : ℕ) (w : List ℕ). is_at_home (entries m) j w p) (sym epochs) name
        ∙ home_of_run m d.epoch d.class.name p d.runs

-- a send that is due in a class
record SendAt (configs : List Configuration) (m : Past) (answer : Told) : Type 0 where
  sending : Sending
  answer_is : answer ≡ sending_told sending
  due : IsDueSend configs m sending.proc sending.question sending.channel sending.text

sent_at : (configs : List Configuration) (m : Past) (answer : Told) (p : ClassId) → send_at configs m p ≡ Some answer
    → SendAt configs m answer
sent_at configs m answer p e =
    let s = map_some sending_told (option_and_then send_of (farm_of configs m p.epoch p.class)) answer e in
    let v = then_some send_of (farm_of configs m p.epoch p.class) s.0 s.1 in
    let k = map_some (farm_with configs m p.epoch p.class) (class_at configs p.epoch p.class) v.0 v.1 in
    record {
      sending = s.0;
      answer_is = s.2;
      due = due_send configs m p.epoch p.class k.0 s.0 k.1 (ap send_of (sym k.2) ∙ v.2);
    }

carried_sending : (configs : List Configuration) (m : Past) (now : ℕ) (answer : Told) → NamesOnce configs
    → SendAt configs m answer → Carried configs m → Carried configs (noted_at now Act answer ∷ m)
carried_sending configs m now answer once s c =
    subst (λ (t : Told). Carried configs (noted_at now Act t ∷ m)) (sym s.answer_is)
    (sent_by_due configs m now s.sending.proc s.sending.question s.sending.channel s.sending.text once s.due c)

-- a start that is due in a class of an epoch that has begun
carried_start : (configs : List Configuration) (m : Past) (now : ℕ) (answer : Told) (p : ClassId)
    → p.epoch ≤ current (entries m) → start_at configs m p ≡ Some answer → Carried configs m
    → Carried configs (noted_at now Act answer ∷ m)
carried_start configs m now answer p begun e c =
    let v = then_some (λ (s : Stock). if start_due s then Some
    (told.Start p.epoch (name_of_class configs p.epoch p.class)) else None) (farm_of configs m p.epoch p.class) answer
    e in
    by (start_due v.0) v.2
  where
    by : (b : Bool) → (if b then Some (told.Start p.epoch (name_of_class configs p.epoch p.class)) else None)
        ≡ Some answer → Carried configs (noted_at now Act answer ∷ m)
    by true e = subst (λ (t : Told). Carried configs (noted_at now Act t ∷ m)) (same_Some _ _ e)
        (carried_starting configs m now p.epoch (name_of_class configs p.epoch p.class) begun c)
    by false e = absurd (none-some answer e)

carried_act : (configs : List Configuration) (m : Past) (now : ℕ) (answer : Told) → NamesOnce configs
    → next_act configs m ≡ Some answer → Carried configs m
    → Carried configs (noted_at now Act answer ∷ m)
carried_act configs m now answer once e c = by_stop (first_of (picks (stop_due (entries m)) (proc_count (entries m)))) e
  where
    places : List ClassId
    places = live_places configs (entries m)

    all : AllOf (IsBegun (current (entries m))) places
    all = all_places configs (current (entries m)) (is_live (entries m)) (live_epochs (entries m))
        (all_picked (is_live (entries m)) (current (entries m)))

    by_start : first_made (start_at configs m) places ≡ Some answer → Carried configs (noted_at now Act answer ∷ m)
    by_start e = let p = made_of (IsBegun (current (entries m))) (start_at configs m) places answer all e in
        carried_start configs m now answer p.0 p.1 p.2 c

    by_send : (o : Option Told) → first_made (send_at configs m) places ≡ o
        → option_or o (first_made (start_at configs m) places) ≡ Some answer
        → Carried configs (noted_at now Act answer ∷ m)
    by_send None is e = by_start e
    by_send (Some t) is e = let p =
        made_of (IsBegun (current (entries m))) (send_at configs m) places answer all (is ∙ e) in
        carried_sending configs m now answer once (sent_at configs m answer p.0 p.2) c

    by_stop : (o : Option ℕ)
        → option_or (option_map (λ k. told.Stop k) o)
        (option_or (first_made (send_at configs m) places) (first_made (start_at configs m) places)) ≡ Some answer
        → Carried configs (noted_at now Act answer ∷ m)
    by_stop None e = by_send (first_made (send_at configs m) places) refl e
    by_stop (Some k) e = subst (λ (t : Told). Carried configs (noted_at now Act t ∷ m)) (same_Some _ _ e)
        (carried_stopped configs m now (told.Stop k) refl c)

-- the next act, where it is a send
pub next_send : (configs : List Configuration) (m : Past) (p q : ℕ) (channel : Option ℕ) (key : List ℕ)
    → next_act configs m ≡ Some (told.Send p q channel key)
    → IsDueSend configs m p q channel key
next_send configs m p q channel key e = by_stop (first_of (picks (stop_due (entries m)) (proc_count (entries m)))) e
  where
    answer : Told
    answer = told.Send p q channel key

    places : List ClassId
    places = live_places configs (entries m)

    all : AllOf (IsBegun (current (entries m))) places
    all = all_places configs (current (entries m)) (is_live (entries m)) (live_epochs (entries m))
        (all_picked (is_live (entries m)) (current (entries m)))

    proc_in : Told → ℕ
    proc_in (told.Send i j ch w) = i
    proc_in t = p

    question_in : Told → ℕ
    question_in (told.Send i j ch w) = j
    question_in t = q

    channel_in : Told → Option ℕ
    channel_in (told.Send i j ch w) = ch
    channel_in t = channel

    key_in : Told → List ℕ
    key_in (told.Send i j ch w) = w
    key_in t = key

    sent : SendAt configs m answer → IsDueSend configs m p q channel key
    sent s =
        subst (λ (w : List ℕ). IsDueSend configs m p q channel w) (sym (ap key_in s.answer_is))
        (subst (λ (ch : Option ℕ). IsDueSend configs m p q ch s.sending.text) (sym (ap channel_in s.answer_is))
        (subst (λ (j : ℕ). IsDueSend configs m p j s.sending.channel s.sending.text) (sym (ap question_in s.answer_is))
        (subst (λ (i : ℕ). IsDueSend configs m i s.sending.question s.sending.channel s.sending.text)
        (sym (ap proc_in s.answer_is)) s.due)))

    not_start : (b : Bool) (i : ℕ) (w : List ℕ) → (if b then Some (told.Start i w) else None) ≡ Some answer → ⊥
    not_start true i w e = let no : told.Start i w ≡ answer = same_Some _ _ e in cc
    not_start false i w e = none-some answer e

    by_start : first_made (start_at configs m) places ≡ Some answer → IsDueSend configs m p q channel key
    by_start e =
        let x = made_of (IsBegun (current (entries m))) (start_at configs m) places answer all e in
        let v = then_some (λ (s : Stock). if start_due s then Some
        (told.Start x.0.epoch (name_of_class configs x.0.epoch x.0.class)) else None)
        (farm_of configs m x.0.epoch x.0.class) answer x.2 in
        absurd (not_start (start_due v.0) x.0.epoch (name_of_class configs x.0.epoch x.0.class) v.2)

    by_send : (o : Option Told) → first_made (send_at configs m) places ≡ o
        → option_or o (first_made (start_at configs m) places) ≡ Some answer → IsDueSend configs m p q channel key
    by_send None is e = by_start e
    by_send (Some t) is e = let x =
        made_of (IsBegun (current (entries m))) (send_at configs m) places answer all (is ∙ e) in
        sent (sent_at configs m answer x.0 x.2)

    by_stop : (o : Option ℕ)
        → option_or (option_map (λ k. told.Stop k) o)
        (option_or (first_made (send_at configs m) places) (first_made (start_at configs m) places)) ≡ Some answer
        → IsDueSend configs m p q channel key
    by_stop None e = by_send (first_made (send_at configs m) places) refl e
    by_stop (Some k) e = absurd (let no : told.Stop k ≡ answer = same_Some _ _ e in cc)

-- the next act, where it is a stop
pub next_stop : (configs : List Configuration) (m : Past) (p : ℕ) → next_act configs m ≡ Some (told.Stop p)
    → stop_due (entries m) p ≡ true
next_stop configs m p e =
    by_stop (picks (stop_due (entries m)) (proc_count (entries m)))
    (all_picked (stop_due (entries m)) (proc_count (entries m))) e
  where
    places : List ClassId
    places = live_places configs (entries m)

    all : AllOf (IsBegun (current (entries m))) places
    all = all_places configs (current (entries m)) (is_live (entries m)) (live_epochs (entries m))
        (all_picked (is_live (entries m)) (current (entries m)))

    proc_in : Told → ℕ
    proc_in (told.Stop i) = i
    proc_in t = p

    not_start : (b : Bool) (i : ℕ) (w : List ℕ) → (if b then Some (told.Start i w) else None) ≡ Some (told.Stop p) → ⊥
    not_start true i w e = let no : told.Start i w ≡ told.Stop p = same_Some _ _ e in cc
    not_start false i w e = none-some (told.Stop p) e

    by_start : first_made (start_at configs m) places ≡ Some (told.Stop p) → ⊥
    by_start e =
        let x = made_of (IsBegun (current (entries m))) (start_at configs m) places (told.Stop p) all e in
        let v = then_some (λ (s : Stock). if start_due s then Some
        (told.Start x.0.epoch (name_of_class configs x.0.epoch x.0.class)) else None)
        (farm_of configs m x.0.epoch x.0.class) (told.Stop p) x.2 in
        not_start (start_due v.0) x.0.epoch (name_of_class configs x.0.epoch x.0.class) v.2

    by_send : (o : Option Told) → first_made (send_at configs m) places ≡ o
        → option_or o (first_made (start_at configs m) places) ≡ Some (told.Stop p) → ⊥
    by_send None is e = by_start e
    by_send (Some t) is e =
        let x = made_of (IsBegun (current (entries m))) (send_at configs m) places (told.Stop p) all (is ∙ e) in
        let s = sent_at configs m (told.Stop p) x.0 x.2 in
        let no = s.answer_is in cc

    by_stop : (xs : List ℕ) → AllOf (IsPicked (stop_due (entries m)) (proc_count (entries m))) xs
        → option_or (option_map (λ k. told.Stop k) (first_of xs))
        (option_or (first_made (send_at configs m) places) (first_made (start_at configs m) places))
        ≡ Some (told.Stop p)
        → stop_due (entries m) p ≡ true
    by_stop [] all e = absurd (by_send (first_made (send_at configs m) places) refl e)
    by_stop (k ∷ xs) all e = ap (stop_due (entries m)) (sym (ap proc_in (same_Some _ _ e))) ∙ all.0.0

-- how many channels a process has
pub channels_are : (configs : List Configuration) (m : Past) (k e c : ℕ) (class : Class) → NamesOnce configs
    → class_at configs e c ≡ Some class → is_at_home (entries m) e class.name k ≡ true
    → option_map_or (λ p. channels_named configs p.epoch p.class) (home_of (entries m) k) 0 ≡ class.concurrency
channels_are configs m k e c class once at home = by (home_of (entries m) k) home
  where
    by : (o : Option Home) → option_map_or (λ p. (p.epoch == e) && bytes_eq p.class class.name) o false ≡ true
        → option_map_or (λ p. channels_named configs p.epoch p.class) o 0 ≡ class.concurrency
    by None a = absurd (cc)
    by (Some p) a =
        let x = and_parts (p.epoch == e) (bytes_eq p.class class.name) a in
        ap₂ (λ (i : ℕ) (w : List ℕ). channels_named configs i w) (equal p.epoch e x.0)
        (bytes_same p.class class.name x.1)
        ∙ ap (λ (o : Option Class). option_map_or (λ k. k.concurrency) o 0)
        (class_found configs e c class class.name once at (bytes_itself class.name))

-- a class that a process is of
record IsOfClass (configs : List Configuration) (m : Past) (k : ℕ) : Type 0 where
  epoch : ℕ
  place : ℕ
  class : Class
  at : class_at configs epoch place ≡ Some class
  home : is_at_home (entries m) epoch class.name k ≡ true

of_class : (configs : List Configuration) (m : Past) (k : ℕ) → is_some (home_of (entries m) k) ≡ true
    → Carried configs m → IsOfClass configs m k
of_class configs m k some c = by (home_of (entries m) k) refl some
  where
    by : (o : Option Home) → home_of (entries m) k ≡ o → is_some o ≡ true → IsOfClass configs m k
    by None is t = absurd (cc)
    by (Some p) is t =
        let has = c.home_class k p is in
        record {
          epoch = p.epoch;
          place = has.place;
          class = has.class;
          at = has.at;
          home = ap (λ (o : Option Home). option_map_or (λ z. (z.epoch == p.epoch) && bytes_eq z.class has.class.name) o
              false) is
              ∙ ap₂ (λ (a b : Bool). a && b) (itself p.epoch)
              (ap (λ (w : List ℕ). bytes_eq p.class w) (bytes_same has.class.name p.class has.named)
              ∙ bytes_itself p.class);
        }

is_number_some : (k : ℕ) (o : Option ℕ) → is_number k o ≡ true → o ≡ Some k
is_number_some k None e = absurd (cc)
is_number_some k (Some j) e = ap (λ (i : ℕ). Some i) (sym (equal k j e))

-- what a reply of a process that runs says, that its question was sent to that process and has not ended,
-- and that it stands on the question's channel alone
pub record IsReplied (configs : List Configuration) (m : Past) (k : ℕ) (bytes : List ℕ) (q : ℕ) : Type 0 where
  pub what : What
  pub says : said_by configs m k bytes ≡ Some what
  pub sent : sent_to m q ≡ Some k
  pub live : has_ended configs m q ≡ false
  pub only : (e d : ℕ) (class : Class) → class_at configs e d ≡ Some class → runs_at (entries m) e class.name k ≡ true
      → StandsOnlyOn class.concurrency (entries m) k bytes q

abbrev channels_at : List Configuration → Past → ℕ → ℕ
channels_at configs m k = option_map_or (λ p. channels_named configs p.epoch p.class) (home_of (entries m) k) 0

is_replied : (configs : List Configuration) (m : Past) (k : ℕ) (bytes : List ℕ) (q : ℕ) (reply : Reply)
    → NamesOnce configs → is_running (entries m) k ≡ true → Carried configs m
    → line_is (channels_of (channels_at configs m k) (entries m) k) bytes ≡ ReplyTo q reply
    → IsReplied configs m k bytes q
is_replied configs m k bytes q reply once running c is =
    let line : line_is (channels_of o.class.concurrency (entries m) k) bytes ≡ ReplyTo q reply =
    ap (λ (n : ℕ). line_is (channels_of n (entries m) k) bytes) (sym channels_is) ∙ is in
    let r = replies_to (channels_of (channels_at configs m k) (entries m) k) bytes q reply is in
    let mine = replies_to (channels_of o.class.concurrency (entries m) k) bytes q reply line in
    let holds = reply_holds o.class.concurrency (entries m) k bytes q reply mine in
    let opened : is_open q (channels_of o.class.concurrency (entries m) k).slots ≡ true =
    held_open o.class.concurrency m k (place_of_name mine.answer.0) q holds.within holds.holds in
    let agreed = sym (c.slots_agree o.epoch o.place o.class o.at k q runs) ∙ opened in
    record {
      what = what_of r.answer.1;
      says = ap (option_map (λ (a : Option ℕ × Reply). what_of a.1)) r.answer_is;
      sent = is_number_some k (sent_to m q)
          (and_parts (is_number k (sent_to m q)) (not (has_ended configs m q)) agreed).0;
      live = not-true (has_ended configs m q)
          (and_parts (is_number k (sent_to m q)) (not (has_ended configs m q)) agreed).1;
      only = λ e d other there here.
          let same : o.class ≡ other =
          one_class configs m k o.epoch o.place e d o.class other once o.at there o.home
          (home_of_run m e other.name k here) in
          subst (λ (z : Class). StandsOnlyOn z.concurrency (entries m) k bytes q) same
          (stands_only o.class.concurrency (entries m) k bytes q reply line
          (c.holds_once o.epoch o.place o.class o.at k q runs));
    }
  where
    o : IsOfClass configs m k
    o = of_class configs m k
        (and_parts (is_some (home_of (entries m) k)) (not (is_some (proc_end (entries m) k))) running).0 c

    runs : runs_at (entries m) o.epoch o.class.name k ≡ true
    runs = ap₂ (λ (a b : Bool). a && b) o.home running

    channels_is : channels_at configs m k ≡ o.class.concurrency
    channels_is = channels_are configs m k o.epoch o.place o.class once o.at o.home

-- a line that is answered as a reply
pub line_replied : (configs : List Configuration) (m : Past) (k : ℕ) (bytes : List ℕ) (q : ℕ) (w : Word)
    → NamesOnce configs → is_running (entries m) k ≡ true → Carried configs m
    → told_of_line configs (entries m) k bytes ≡ told.Reply q w → IsReplied configs m k bytes q
line_replied configs m k bytes q w once running c e = by
    (line_is (channels_of (channels_at configs m k) (entries m) k) bytes) refl e
  where
    number : Told → ℕ
    number (told.Reply r v) = r
    number t = q

    by : (l : LineIs) → line_is (channels_of (channels_at configs m k) (entries m) k) bytes ≡ l
        → line_told l ≡ told.Reply q w → IsReplied configs m k bytes q
    by (ReplyTo r reply) is e = subst (IsReplied configs m k bytes) (ap number e)
        (is_replied configs m k bytes r reply once running c is)
    by Outside is e = absurd (cc)
    by OnFree is e = absurd (cc)

-- a line of a process that runs
carried_line : (configs : List Configuration) (m : Past) (now k : ℕ) (bytes : List ℕ) → NamesOnce configs
    → is_running (entries m) k ≡ true → Carried configs m
    → Carried configs (noted_at now (Line k bytes) (told_of_line configs (entries m) k bytes) ∷ m)
carried_line configs m now k bytes once running c = by
    (line_is (channels_of (channels_at configs m k) (entries m) k) bytes) refl
  where
    by : (l : LineIs) → line_is (channels_of (channels_at configs m k) (entries m) k) bytes ≡ l
        → Carried configs (noted_at now (Line k bytes)
        (line_told (line_is (channels_of (channels_at configs m k) (entries m) k) bytes)) ∷ m)
    by (ReplyTo q reply) is =
        let r = is_replied configs m k bytes q reply once running c is in
        subst (λ (l : LineIs). Carried configs (noted_at now (Line k bytes) (line_told l) ∷ m)) (sym is)
        (carried_replied configs m now k bytes q reply.word r.what r.says r.sent r.only c)
    by Outside is = subst (λ (l : LineIs). Carried configs (noted_at now (Line k bytes) (line_told l) ∷ m)) (sym is)
        (carried_bad configs m now k bytes c)
    by OnFree is = subst (λ (l : LineIs). Carried configs (noted_at now (Line k bytes) (line_told l) ∷ m)) (sym is)
        (carried_stray configs m now k bytes c)

-- an entry whose answer is the next
pub carried_next : (configs : List Configuration) (m : Past) (now : ℕ) (event : Event) (answer : Told)
    → NamesOnce configs → next_at configs m now event ≡ gives answer → Carried configs m
    → Carried configs (mark configs m (record { moment = now; event = event; answer = answer }) ∷ m)
unfolding next_at
carried_next configs m now (Step n) answer once e c =
    let a = refused_not (not (check_open (entries m) n)) _ _ answer e in
    let b = refused_not (is_some (step_says configs m n now).put && nat_le last_number (suc (put_count m))) _ _ answer
    a.1 in
    subst (λ (t : Told). Carried configs
    (record {
      entry = record { moment = now; event = Step n; answer = t };
      put = (step_says configs m n now).put;
      took = (step_says configs m n now).took;
    } ∷ m))
    (given_is (step_says configs m n now).answer answer b.1)
    (carried_stepped configs m now n (step_says configs m n now) (step_waits configs m n now)
    (step_begun configs m n now) c)
carried_next configs m now (Started f name) answer once e c = by (place_of_class configs f name) refl e
  where
    by : (o : Option ℕ) → place_of_class configs f name ≡ o
        → with_place o (λ place. refuse_if (not (has_start (entries m) f name)) (refusal.NoStartOpen f place)
        (refuse_if (nat_le last_number (suc (proc_count (entries m)))) (refusal.Spent (suc (proc_count (entries m))))
        (gives (told.Proc (suc (proc_count (entries m))))))) ≡ gives answer
        → Carried configs (noted_at now (Started f name) answer ∷ m)
    by None is e = absurd (cc)
    by (Some place) is e =
        let a = refused_not (not (has_start (entries m) f name)) _ _ answer e in
        let s = open_start (entries m) f name (unnot (has_start (entries m) f name) a.0) in
        carried_started configs m now f name answer s.0 (place_class configs f name place is) s.1 c
carried_next configs m now (StartFail f name) answer once e c = by (place_of_class configs f name) e
  where
    by : (o : Option ℕ)
        → with_place o (λ place. refuse_if (not (has_start (entries m) f name)) (refusal.NoStartOpen f place)
        (gives told.Fine)) ≡ gives answer
        → Carried configs (noted_at now (StartFail f name) answer ∷ m)
    by None e = absurd (cc)
    by (Some place) e =
        let a = refused_not (not (has_start (entries m) f name)) _ _ answer e in
        let s = open_start (entries m) f name (unnot (has_start (entries m) f name) a.0) in
        carried_failed configs m now f name answer s.0 s.1 c
carried_next configs m now (Line k bytes) answer once e c =
    let a = refused_not (not (lives_on (entries m) k)) _ _ answer e in
    let l = unnot (lives_on (entries m) k) a.0 in
    subst (λ (t : Told). Carried configs (noted_at now (Line k bytes) t ∷ m)) (given_is _ answer a.1)
    (carried_line configs m now k bytes once
    (and_parts (is_running (entries m) k)
    (option_map_or (λ p. is_live (entries m) p.epoch) (home_of (entries m) k) false) l).0 c)
carried_next configs m now (Died k) answer once e c = carried_died configs m now k answer c
carried_next configs m now Act answer once e c = by (next_act configs m) refl e
  where
    by : (o : Option Told) → next_act configs m ≡ o → act_next o ≡ gives answer
        → Carried configs (noted_at now Act answer ∷ m)
    by None is e = absurd (cc)
    by (Some t) is e = carried_act configs m now answer once (is ∙ ap (λ (z : Told). Some z) (given_is t answer e)) c
carried_next configs m now (Reconfigure text) answer once e c = carried_reconfigured configs m now text answer c
carried_next configs m now event answer once e c = carried_untouched configs m now event answer refl c

-- what is answered to a line: its process runs, and what the line says is told
pub next_line : (configs : List Configuration) (m : Past) (now k : ℕ) (bytes : List ℕ) (answer : Told)
    → next_at configs m now (Line k bytes) ≡ gives answer
    → (is_running (entries m) k ≡ true) × (told_of_line configs (entries m) k bytes ≡ answer)
unfolding next_at
next_line configs m now k bytes answer e =
    let a = refused_not (not (lives_on (entries m) k)) _ _ answer e in
    let l = unnot (lives_on (entries m) k) a.0 in (
      (and_parts (is_running (entries m) k)
          (option_map_or (λ p. is_live (entries m) p.epoch) (home_of (entries m) k) false) l).0,
      given_is _ answer a.1,
    )

-- what is answered to an act is the next act
pub next_acts : (configs : List Configuration) (m : Past) (now : ℕ) (answer : Told)
    → next_at configs m now Act ≡ gives answer → next_act configs m ≡ Some answer
unfolding next_at
next_acts configs m now answer e = by (next_act configs m) e
  where
    by : (o : Option Told) → act_next o ≡ gives answer → o ≡ Some answer
    by None e = absurd (cc)
    by (Some t) e = ap (λ (z : Told). Some z) (given_is t answer e)

-- what is answered to a step is what the rule says
pub next_steps : (configs : List Configuration) (m : Past) (now n : ℕ) (answer : Told)
    → next_at configs m now (Step n) ≡ gives answer → (step_says configs m n now).answer ≡ answer
unfolding next_at
next_steps configs m now n answer e =
    let a = refused_not (not (check_open (entries m) n)) _ _ answer e in
    let b = refused_not (is_some (step_says configs m n now).put && nat_le last_number (suc (put_count m))) _ _ answer
    a.1 in
    given_is (step_says configs m n now).answer answer b.1

begins : (configs : List Configuration) (now : ℕ) (event : Event) (answer : Told) → is_begin event ≡ true
    → Carried configs (mark configs [] (record { moment = now; event = event; answer = answer }) ∷ [])
begins configs now (Begin offset) answer b = carried_untouched configs [] now (Begin offset) answer refl
    (carried_none configs)
begins configs now event answer b = absurd (cc)

-- an induction over legal histories: what is so at first,
-- and stays with each entry whose answer is the next, is so of each
pub legal_induction : (configs : List Configuration) (P : Past → Type 0) → NamesOnce configs
    → ((x : Noted) → is_begin x.event ≡ true → P (mark configs [] x ∷ []))
    → ((m : Past) (now : ℕ) (event : Event) (answer : Told) → next_at configs m now event ≡ gives answer
    → Carried configs m → P m
    → P (mark configs m (record { moment = now; event = event; answer = answer }) ∷ m))
    → (h : History) → Legal configs h → Carried configs (marked configs h) × P (marked configs h)
unfolding next
legal_induction configs P once first next [] legal = absurd legal
legal_induction configs P once first next (x ∷ []) legal = (
  begins configs x.moment x.event x.answer legal.0,
  first x legal.0,
)
legal_induction configs P once first next (x ∷ f ∷ h) legal =
    let before = legal_induction configs P once first next (f ∷ h) legal.0 in
    let is = sym (ap (λ (now : ℕ). next_at configs (marked configs (f ∷ h)) now x.event)
    (counted x.moment f.moment legal.3)) ∙ legal.4 in (
      carried_next configs (marked configs (f ∷ h)) x.moment x.event x.answer once is before.0,
      next (marked configs (f ∷ h)) x.moment x.event x.answer is before.0 before.1,
    )
  where
    counted : (a b : ℕ) → b ≤ a → max a b ≡ a
    counted a b l = omega arith

-- every legal history does, where no two classes of a configuration have one name
pub legal_carried : (configs : List Configuration) (h : History) → NamesOnce configs → Legal configs h
    → Carried configs (marked configs h)
legal_carried configs h once legal = (legal_induction configs (λ m. Unit {0}) once (λ x b. tt)
    (λ m now event answer e c p. tt) h legal).0
