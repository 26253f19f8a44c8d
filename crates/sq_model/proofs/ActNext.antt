-- The next act, by the state.
use Rattle.std.proofs.Common.{◌≡◌, ℕ, zero, suc, List, [], ◌∷◌, ◌++◌, map, length, Bool, true, false, if◌then◌else◌, Option, Some, None, option_and_then, refl, sym, ap, ap₂, subst, ◌∙◌}
use Rattle.std.specs.List.{flat_map}
use Rattle.std.specs.Option.{option_map, option_map_or, option_or}
use Rattle.std.proofs.lemmas.Grind.{flat_map-append}
use Rattle.std.proofs.lemmas.Option.{none-some}
use Rattle.sq_base.proofs.CommonLaws.{map_some, then_some}
use Rattle.sq_machine.specs.declared.entries.Event.TheVariants.{Act}
use Rattle.sq_machine.specs.declared.entries.Told.{Told}
use Rattle.sq_machine.specs.declared.entries.Told.TheVariants as told
use Rattle.sq_rules.specs.Classes.{Class}
use Rattle.sq_rules.specs.Configurations.{Configuration}
use Rattle.sq_machine.specs.DueActs.{ClassId, Due, class_ids, first_made, first_of, live_places, next_act, send_at, sending_told, sends, start_at, starts, stop_of, stops}
use Rattle.sq_machine.specs.Epochs.{class_at, is_live, name_of_class, config_of}
use Rattle.sq_machine.specs.FarmReadings.{farm_with}
use Rattle.sq_machine.specs.Farms.{Sending, send_of, start_due}
use Rattle.sq_machine.specs.Machine.{act_next, next_at}
use Rattle.sq_machine.specs.Marks.{Past, entries}
use Rattle.sq_machine.specs.Numbered.{below, picks}
use Rattle.sq_machine.specs.Processes.{proc_count, stop_due}
use Rattle.sq_machine.specs.Readings.{current}
use Rattle.sq_model.specs.ClassRows.{ClassRow, class_row}
use Rattle.sq_model.specs.Given.{EachOf}
use Rattle.sq_model.proofs.RowLaws.{picks_same}
use Rattle.sq_model.specs.Acts.{due_in, live_places_in, places_in, send_in, start_in, stop_in}
use Rattle.sq_model.specs.Answers.{act_answer, act_of, due_told, name_in}
use Rattle.sq_model.specs.States.{State, Stands, live}
use Rattle.sq_model.proofs.Lawful.{class_live, config_live, lives_is, row_live}

-- pieces that agree for each picked number make one list
flat_picks : {A : Type 0} (f g : ℕ → List A) (p : ℕ → Bool) (n : ℕ) → ((k : ℕ) → p k ≡ true → f k ≡ g k)
    → flat_map f (picks p n) ≡ flat_map g (picks p n)
flat_picks f g p zero e = refl
flat_picks {A = A} f g p (suc n) e = by (p (suc n)) refl (flat_picks f g p n e)
  where
    by : (b : Bool) → p (suc n) ≡ b → flat_map f (picks p n) ≡ flat_map g (picks p n)
        → flat_map f (if b then picks p n ++ suc n ∷ [] else picks p n)
        ≡ flat_map g (if b then picks p n ++ suc n ∷ [] else picks p n)
    by true t more =
        flat_map-append f (picks p n) (suc n ∷ []) ∙ ap₂ (λ (xs ys : List A). xs ++ (ys ++ [])) more (e (suc n) t)
        ∙ sym (flat_map-append g (picks p n) (suc n ∷ []))
    by false t more = more

-- the classes of the live epochs, by the state
places_are : (configs : List Configuration) (m : Past) (s : State) → Stands configs m s
    → live_places_in s ≡ live_places configs (entries m)
places_are configs m s st =
    ap (flat_map (places_in s))
    (ap (picks (live s)) st.current_is
    ∙ picks_same (is_live (entries m)) (live s) (current (entries m)) (λ k low high. lives_is configs m s k st))
    ∙ flat_picks (places_in s) (class_ids configs) (is_live (entries m)) (current (entries m))
    (λ e lives. ap (λ (o : Option Configuration). map (λ c. record { epoch = e; class = c })
    (below (option_map_or (λ config. length config.classes) o 0))) (config_live configs m s e st lives))

-- a place is of a live epoch
abbrev InLive : Past → ClassId → Type 0
InLive m p = is_live (entries m) p.epoch ≡ true

each_append : (P : ClassId → Type 0) (xs ys : List ClassId) → EachOf P xs → EachOf P ys → EachOf P (xs ++ ys)
each_append P [] ys a b = b
each_append P (x ∷ xs) ys a b = (a.0, each_append P xs ys a.1 b)

each_class : (m : Past) (e : ℕ) (xs : List ℕ) → is_live (entries m) e ≡ true
    → EachOf (InLive m) (map (λ (c : ℕ). record { epoch = e; class = c }) xs)
each_class m e [] lives = tt
each_class m e (c ∷ xs) lives = (lives, each_class m e xs lives)

each_place : (configs : List Configuration) (m : Past) (n : ℕ)
    → EachOf (InLive m) (flat_map (class_ids configs) (picks (is_live (entries m)) n))
each_place configs m zero = tt
each_place configs m (suc n) = by (is_live (entries m) (suc n)) refl (each_place configs m n)
  where
    ps : List ℕ
    ps = picks (is_live (entries m)) n

    by : (b : Bool) → is_live (entries m) (suc n) ≡ b → EachOf (InLive m) (flat_map (class_ids configs) ps)
        → EachOf (InLive m) (flat_map (class_ids configs) (if b then ps ++ suc n ∷ [] else ps))
    by true lives more =
        subst (EachOf (InLive m)) (sym (flat_map-append (class_ids configs) ps (suc n ∷ [])))
        (each_append (InLive m) (flat_map (class_ids configs) ps) (class_ids configs (suc n) ++ []) more
        (each_append (InLive m) (class_ids configs (suc n)) []
        (each_class m (suc n) (below (option_map_or (λ config. length config.classes) (config_of configs (suc n)) 0))
        lives) tt))
    by false lives more = more

map_or : {A B : Type 0} (f : A → B) (o r : Option A)
    → option_map f (option_or o r) ≡ option_or (option_map f o) (option_map f r)
map_or f None r = refl
map_or f (Some a) r = refl

-- the first that is made, told otherwise
made_told : {A B : Type 0} (P : ClassId → Type 0) (tell : A → B) (f : ClassId → Option A) (g : ClassId → Option B)
    (xs : List ClassId) → ((p : ClassId) → P p → option_map tell (f p) ≡ g p) → EachOf P xs
    → option_map tell (first_made f xs) ≡ first_made g xs
made_told P tell f g [] e all = refl
made_told P tell f g (x ∷ xs) e all = map_or tell (f x) (first_made f xs)
    ∙ ap₂ option_or (e x all.0) (made_told P tell f g xs e all.1)

-- a send of a class, as it is told
send_told : (configs : List Configuration) (m : Past) (s : State) (p : ClassId) → Stands configs m s
    → is_live (entries m) p.epoch ≡ true → option_map (due_told s) (send_in s p) ≡ send_at configs m p
send_told configs m s p st lives =
    ap (λ (o : Option ClassRow). option_map (due_told s)
    (option_map (sends p) (option_and_then (λ r. send_of r.stock) o))) (row_live configs m s p.epoch p.class st lives)
    ∙ by (class_at configs p.epoch p.class)
  where
    told_by : (o : Option Sending) → option_map (due_told s) (option_map (sends p) o) ≡ option_map sending_told o
    told_by None = refl
    told_by (Some x) = refl

    by : (o : Option Class)
        → option_map (due_told s)
        (option_map (sends p) (option_and_then (λ (r : ClassRow). send_of r.stock)
        (option_map (class_row configs m p.epoch p.class) o)))
        ≡ option_map sending_told (option_and_then send_of (option_map (farm_with configs m p.epoch p.class) o))
    by None = refl
    by (Some class) = told_by (send_of (farm_with configs m p.epoch p.class class))

-- the name of a class of a live epoch
name_live : (configs : List Configuration) (m : Past) (s : State) (p : ClassId) → Stands configs m s
    → is_live (entries m) p.epoch ≡ true → name_in s p ≡ name_of_class configs p.epoch p.class
name_live configs m s p st lives = ap (λ (o : Option Class). option_map_or (λ class. class.name) o [])
    (class_live configs m s p.epoch p.class st lives)

-- so it is that of the class there
pub name_is : (configs : List Configuration) (m : Past) (s : State) (p : ClassId) (class : Class) → Stands configs m s
    → is_live (entries m) p.epoch ≡ true → class_at configs p.epoch p.class ≡ Some class
    → name_in s p ≡ class.name
name_is configs m s p class st lives at = name_live configs m s p st lives
    ∙ ap (λ (o : Option Class). option_map_or (λ class. class.name) o []) at

-- a start of a class, as it is told
start_told : (configs : List Configuration) (m : Past) (s : State) (p : ClassId) → Stands configs m s
    → is_live (entries m) p.epoch ≡ true → option_map (due_told s) (start_in s p) ≡ start_at configs m p
start_told configs m s p st lives =
    ap (λ (o : Option ClassRow). option_map (due_told s)
    (option_and_then (λ r. if start_due r.stock then Some (starts p) else None) o))
    (row_live configs m s p.epoch p.class st lives)
    ∙ by (class_at configs p.epoch p.class)
  where
    told_by : (b : Bool) → option_map (due_told s) (if b then Some (starts p) else None)
        ≡ (if b then Some (told.Start p.epoch (name_of_class configs p.epoch p.class)) else None)
    told_by true = ap (λ (name : List ℕ). Some (told.Start p.epoch name)) (name_live configs m s p st lives)
    told_by false = refl

    by : (o : Option Class)
        → option_map (due_told s)
        (option_and_then (λ (r : ClassRow). if start_due r.stock then Some (starts p) else None)
        (option_map (class_row configs m p.epoch p.class) o))
        ≡ option_and_then (λ v. if start_due v then Some (told.Start p.epoch (name_of_class configs p.epoch p.class))
        else None) (option_map (farm_with configs m p.epoch p.class) o)
    by None = refl
    by (Some class) = told_by (start_due (farm_with configs m p.epoch p.class class))

-- the least process for which a stop is due
first_stop : (configs : List Configuration) (m : Past) (s : State) → Stands configs m s
    → option_map (due_told s) (stop_in s) ≡ stop_of (entries m)
first_stop configs m s st =
    ap (λ (xs : List ℕ). option_map (due_told s) (option_map stops (first_of xs)))
    (ap (picks s.stop) st.procs_are
    ∙ picks_same (stop_due (entries m)) s.stop (proc_count (entries m)) (λ k low high. st.stops_are k))
    ∙ by (first_of (picks (stop_due (entries m)) (proc_count (entries m))))
  where
    by : (o : Option ℕ) → option_map (due_told s) (option_map stops o) ≡ option_map (λ (k : ℕ). told.Stop k) o
    by None = refl
    by (Some k) = refl

-- the act that is due, as it is told, is the next act
pub due_is_next : (configs : List Configuration) (m : Past) (s : State) → Stands configs m s
    → option_map (due_told s) (due_in s) ≡ next_act configs m
due_is_next configs m s st =
    map_or (due_told s) (stop_in s)
    (option_or (first_made (send_in s) (live_places_in s)) (first_made (start_in s) (live_places_in s)))
    ∙ ap₂ option_or (first_stop configs m s st)
    (map_or (due_told s) (first_made (send_in s) (live_places_in s)) (first_made (start_in s) (live_places_in s))
    ∙ ap₂ option_or (made (send_in s) (send_at configs m) (λ p lives. send_told configs m s p st lives))
    (made (start_in s) (start_at configs m) (λ p lives. start_told configs m s p st lives)))
  where
    made : (f : ClassId → Option Due) (g : ClassId → Option Told)
        → ((p : ClassId) → is_live (entries m) p.epoch ≡ true → option_map (due_told s) (f p) ≡ g p)
        → option_map (due_told s) (first_made f (live_places_in s)) ≡ first_made g (live_places configs (entries m))
    made f g e =
        ap (λ (xs : List ClassId). option_map (due_told s) (first_made f xs)) (places_are configs m s st)
        ∙ made_told (InLive m) (due_told s) f g (live_places configs (entries m)) e
        (each_place configs m (current (entries m)))

-- what is answered to an act
pub act_next_is : (configs : List Configuration) (m : Past) (s : State) (now : ℕ) → Stands configs m s
    → next_at configs m now Act ≡ act_answer s
unfolding next_at
act_next_is configs m s now st = ap act_next (sym (due_is_next configs m s st)) ∙ by (due_in s)
  where
    by : (o : Option Due) → act_next (option_map (due_told s) o) ≡ act_of s o
    by None = refl
    by (Some d) = refl

-- something is made of one of the places
made_by : {A : Type 0} (f : ClassId → Option A) (xs : List ClassId) (y : A) → first_made f xs ≡ Some y
    → (p : ClassId) × (f p ≡ Some y)
made_by f [] y e = absurd (none-some y e)
made_by {A = A} f (x ∷ xs) y e = by (f x) refl (made_by f xs y) e
  where
    by : (o : Option A) → f x ≡ o → (first_made f xs ≡ Some y → (p : ClassId) × (f p ≡ Some y))
        → option_or o (first_made f xs) ≡ Some y → (p : ClassId) × (f p ≡ Some y)
    by None is more e = more e
    by (Some z) is more e = (x, is ∙ e)

-- a send that is due: it is that of the farm of a class
pub record IsSendIn (s : State) (p : ClassId) (sending : Sending) : Type 0 where
  pub row : ClassRow
  pub row_is : s.row p.epoch p.class ≡ Some row
  pub due : send_of row.stock ≡ Some sending

-- a start that is due
pub record IsStartIn (s : State) (p : ClassId) : Type 0 where
  pub row : ClassRow
  pub row_is : s.row p.epoch p.class ≡ Some row
  pub due : start_due row.stock ≡ true

send_from : (s : State) (q p : ClassId) (x : Sending) → send_in s q ≡ Some (sends p x) → IsSendIn s p x
send_from s q p x e =
    let made = map_some (sends q) (option_and_then (λ (r : ClassRow). send_of r.stock) (s.row q.epoch q.class))
    (sends p x) e in
    let place : q ≡ p = cc in
    let what : made.0 ≡ x = cc in
    let r = then_some (λ (r : ClassRow). send_of r.stock) (s.row q.epoch q.class) made.0 made.1 in
    record {
      row = r.0;
      row_is = ap (λ (i : ClassId). s.row i.epoch i.class) (sym place) ∙ r.1;
      due = r.2 ∙ ap (λ (i : Sending). Some i) what;
    }

start_from : (s : State) (q : ClassId) (d : Due) → start_in s q ≡ Some d → (d ≡ starts q) × IsStartIn s q
start_from s q d e =
    let r = then_some (λ (r : ClassRow). if start_due r.stock then Some (starts q) else None) (s.row q.epoch q.class) d
    e in
    by r.0 r.1 (start_due r.0.stock) refl r.2
  where
    by : (r : ClassRow) → s.row q.epoch q.class ≡ Some r → (b : Bool) → start_due r.stock ≡ b
        → (if b then Some (starts q) else None) ≡ Some d → (d ≡ starts q) × IsStartIn s q
    by r is true due e = (cc, record { row = r; row_is = is; due = due })
    by r is false due e = absurd (none-some d e)

-- the act that is due, where it is a send
pub due_send_is : (s : State) (p : ClassId) (x : Sending) → due_in s ≡ Some (sends p x) → IsSendIn s p x
due_send_is s p x e = by_stop (first_of (picks s.stop s.procs)) e
  where
    places : List ClassId
    places = live_places_in s

    by_start : first_made (start_in s) places ≡ Some (sends p x) → IsSendIn s p x
    by_start e =
        let made = made_by (start_in s) places (sends p x) e in
        let start = start_from s made.0 (sends p x) made.1 in
        absurd (let no : sends p x ≡ starts made.0 = start.0 in cc)

    by_send : (o : Option Due) → first_made (send_in s) places ≡ o
        → option_or o (first_made (start_in s) places) ≡ Some (sends p x) → IsSendIn s p x
    by_send None is e = by_start e
    by_send (Some d) is e = let made = made_by (send_in s) places (sends p x) (is ∙ e) in send_from s made.0 p x made.1

    by_stop : (o : Option ℕ)
        → option_or (option_map stops o) (option_or (first_made (send_in s) places) (first_made (start_in s) places))
        ≡ Some (sends p x) → IsSendIn s p x
    by_stop None e = by_send (first_made (send_in s) places) refl e
    by_stop (Some k) e = absurd (cc)

-- the act that is due, where it is a start
pub due_start_is : (s : State) (p : ClassId) → due_in s ≡ Some (starts p) → IsStartIn s p
due_start_is s p e = by_stop (first_of (picks s.stop s.procs)) e
  where
    places : List ClassId
    places = live_places_in s

    by_start : first_made (start_in s) places ≡ Some (starts p) → IsStartIn s p
    by_start e =
        let made = made_by (start_in s) places (starts p) e in
        let start = start_from s made.0 (starts p) made.1 in
        let same : made.0 ≡ p = (let is : starts p ≡ starts made.0 = start.0 in cc) in
        subst (IsStartIn s) same start.1

    by_send : (o : Option Due) → first_made (send_in s) places ≡ o
        → option_or o (first_made (start_in s) places) ≡ Some (starts p) → IsStartIn s p
    by_send None is e = by_start e
    by_send (Some d) is e =
        let made = made_by (send_in s) places (starts p) (is ∙ e) in
        let sent = map_some (sends made.0)
        (option_and_then (λ (r : ClassRow). send_of r.stock) (s.row made.0.epoch made.0.class)) (starts p) made.1 in
        absurd (let no : starts p ≡ sends made.0 sent.0 = sent.2 in cc)

    by_stop : (o : Option ℕ)
        → option_or (option_map stops o) (option_or (first_made (send_in s) places) (first_made (start_in s) places))
        ≡ Some (starts p) → IsStartIn s p
    by_stop None e = by_send (first_made (send_in s) places) refl e
    by_stop (Some k) e = absurd (cc)
