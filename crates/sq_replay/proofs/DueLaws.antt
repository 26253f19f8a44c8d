-- Each act lowers what is due: by the state.
use Rattle.std.proofs.Common.{◌≡◌, ◌⊎◌, inl, inr, ℕ, zero, suc, ◌+◌, ◌-◌, ◌<◌, ◌≤◌, List, [], ◌∷◌, ◌++◌, length, length-append, Bool, true, false, not, ◌&&◌, ◌==◌, nat_lt, if◌then◌else◌, Option, Some, None, option_and_then, refl, sym, ap, ap₂, subst, ◌∙◌, arith}
use Rattle.std.specs.Option.{option_map, option_or}
use Rattle.std.proofs.lemmas.Bool.{and_parts}
use Rattle.std.proofs.lemmas.Bool.Decides.{nat_tests}
use Rattle.std.proofs.lemmas.Option.{none-some, same_Some}
use Rattle.sq_base.proofs.CommonLaws.{map_some, then_some}
use Rattle.sq_machine.specs.DueActs.{ClassId, Due, first_made, first_of, sends, starts, stops}
use Rattle.sq_machine.specs.Farms.{Sending, Stock, Waiting, after_send, after_send_by, after_start, send_by, send_of, start_due}
use Rattle.sq_machine.specs.Living.{Living, asked_row, has_free, sent, some_free, target}
use Rattle.sq_machine.specs.Numbered.{picks}
use Rattle.sq_model.specs.ClassRows.{ClassRow, after_sending, after_starting}
use Rattle.sq_model.proofs.ClassParts.{equal, itself}
use Rattle.sq_model.specs.Acts.{due_in, live_places_in, send_in, start_in}
use Rattle.sq_model.specs.Changes.{after_send_at, after_start_at, after_stop_of, change_row, is_at}
use Rattle.sq_model.specs.States.{State}
use Rattle.sq_model.proofs.ActNext.{due_send_is, due_start_is}
use Rattle.sq_replay.specs.Dues.{dues_at, dues_in, dues_of_row, dues_of_stock, total}

-- numbers that a test picks

-- the number is one of those from 1 to n that the test holds of
record IsPicked (p : ℕ → Bool) (n k : ℕ) : Type 0 where
  pub holds : p k ≡ true
  pub low : 1 ≤ k
  pub high : k ≤ n

wider : (p : ℕ → Bool) (n k : ℕ) → IsPicked p n k → IsPicked p (suc n) k
wider p n k w = let h = w.high in record { holds = w.holds; low = w.low; high = omega arith }

first_picked : (p : ℕ → Bool) (n k : ℕ) → first_of (picks p n) ≡ Some k → IsPicked p n k
first_picked p zero k e = absurd (none-some k e)
first_picked p (suc n) k e = by (p (suc n)) refl (first_picked p n k) e
  where
    front : (xs : List ℕ) → picks p n ≡ xs → p (suc n) ≡ true → (first_of (picks p n) ≡ Some k → IsPicked p n k)
        → first_of (xs ++ suc n ∷ []) ≡ Some k → IsPicked p (suc n) k
    front [] is t more e = let same : suc n ≡ k = same_Some _ _ e in
        record { holds = ap p (sym same) ∙ t; low = omega arith; high = omega arith }
    front (x ∷ xs) is t more e = wider p n k (more (ap first_of is ∙ e))

    by : (b : Bool) → p (suc n) ≡ b → (first_of (picks p n) ≡ Some k → IsPicked p n k)
        → first_of (if b then picks p n ++ suc n ∷ [] else picks p n) ≡ Some k → IsPicked p (suc n) k
    by true t more e = front (picks p n) refl t more e
    by false t more e = wider p n k (more e)

-- the test, but for one number
abbrev but : (ℕ → Bool) → ℕ → ℕ → Bool
but p k j = p j && not (k == j)

grown : (xs : List ℕ) (x : ℕ) → length (xs ++ x ∷ []) ≡ suc (length xs)
grown xs x = let l = length-append xs (x ∷ []) in omega arith

none_more : (p : ℕ → Bool) (k n : ℕ) → length (picks (but p k) n) ≤ length (picks p n)
none_more p k zero = omega arith
none_more p k (suc n) = by (p (suc n)) (k == suc n) (none_more p k n)
  where
    a : List ℕ
    a = picks (but p k) n

    b : List ℕ
    b = picks p n

    by : (t c : Bool) → length a ≤ length b
        → length (if t && not c then a ++ suc n ∷ [] else a) ≤ length (if t then b ++ suc n ∷ [] else b)
    by true true l = let y = grown b (suc n) in omega arith
    by true false l = let x = grown a (suc n) in let y = grown b (suc n) in omega arith
    by false c l = l

one_fewer : (p : ℕ → Bool) (k n : ℕ) → IsPicked p n k → length (picks (but p k) n) < length (picks p n)
one_fewer p k zero w = let l = w.low in let h = w.high in absurd (omega arith)
one_fewer p k (suc n) w = by (k == suc n) refl (one_fewer p k n)
  where
    a : List ℕ
    a = picks (but p k) n

    b : List ℕ
    b = picks p n

    within : (k n : ℕ) → k ≤ suc n → (k == suc n) ≡ false → k ≤ n
    within k n l e = grind (arith, nat_tests)

    at : (t c : Bool) → t ≡ true → c ≡ true → length a ≤ length b
        → length (if t && not c then a ++ suc n ∷ [] else a) < length (if t then b ++ suc n ∷ [] else b)
    at true true e f l = let y = grown b (suc n) in omega arith
    at true false e f l = absurd (cc)
    at false c e f l = absurd (cc)

    rest : (t c : Bool) → c ≡ false → length a < length b
        → length (if t && not c then a ++ suc n ∷ [] else a) < length (if t then b ++ suc n ∷ [] else b)
    rest true false f l = let x = grown a (suc n) in let y = grown b (suc n) in omega arith
    rest false false f l = l
    rest t true f l = absurd (cc)

    by : (c : Bool) → (k == suc n) ≡ c → (IsPicked p n k → length a < length b)
        → length (picks (but p k) (suc n)) < length (picks p (suc n))
    by true same more = at (p (suc n)) (k == suc n) (ap p (sym (equal k (suc n) same)) ∙ w.holds) same (none_more p k n)
    by false other more = rest (p (suc n)) (k == suc n) other
        (more (record { holds = w.holds; low = w.low; high = within k n w.high other }))

-- sums

-- it is one of these
abbrev IsAmong : ClassId → List ClassId → Type 0
IsAmong p [] = ⊥
IsAmong p (q ∷ places) = (q ≡ p) ⊎ IsAmong p places

-- numbers that are the same have one sum
pub total_same : (f g : ClassId → ℕ) (xs : List ClassId) → ((p : ClassId) → f p ≡ g p) → total f xs ≡ total g xs
total_same f g [] e = refl
total_same f g (x ∷ xs) e = ap₂ (λ (a b : ℕ). a + b) (e x) (total_same f g xs e)

total_most : (f g : ClassId → ℕ) (xs : List ClassId) → ((p : ClassId) → f p ≤ g p) → total f xs ≤ total g xs
total_most f g [] e = omega arith
total_most f g (x ∷ xs) e = let a = e x in let b = total_most f g xs e in omega arith

total_less : (f g : ClassId → ℕ) (xs : List ClassId) (p : ClassId) → IsAmong p xs → ((q : ClassId) → f q ≤ g q)
    → f p < g p → total f xs < total g xs
total_less f g [] p among e l = absurd among
total_less f g (x ∷ xs) p (inl same) e l =
    let a : f x < g x = subst (λ (q : ClassId). f q < g q) (sym same) l in let b = total_most f g xs e in omega arith
total_less f g (x ∷ xs) p (inr more) e l = let a = e x in let b = total_less f g xs p more e l in omega arith

-- one class

sent_length : (q : ℕ) (rows : List Living) → length (sent q rows) ≡ length rows
sent_length q [] = refl
sent_length q (r ∷ rows) = by (has_free r) (sent_length q rows)
  where
    by : (b : Bool) → length (sent q rows) ≡ length rows
        → length (if b then asked_row q r ∷ rows else r ∷ sent q rows) ≡ suc (length rows)
    by true e = refl
    by false e = ap (λ (n : ℕ). suc n) e

target_free : (rows : List Living) (t : ℕ × Option ℕ) → target rows ≡ Some t → some_free rows ≡ true
target_free [] t e = absurd (none-some t e)
target_free (r ∷ rows) t e = by (has_free r) _ (target_free rows t) e
  where
    by : (b : Bool) (o : Option (ℕ × Option ℕ)) → (target rows ≡ Some t → some_free rows ≡ true)
        → (if b then o else target rows) ≡ Some t → (if b then true else some_free rows) ≡ true
    by true o more e = refl
    by false o more e = more e

sent_less : (v : Stock) (w : Waiting) (queue : List Waiting) → v.queue ≡ w ∷ queue
    → dues_of_stock (after_send_by v (w ∷ queue) true) < dues_of_stock v
sent_less v w queue is =
    let a : length v.queue ≡ suc (length queue) = ap (λ (q : List Waiting). length q) is in
    let b = sent_length w.question v.procs in
    omega arith

-- a send that is due takes a question from the queue
send_lowers_stock : (v : Stock) (x : Sending) → send_of v ≡ Some x → dues_of_stock (after_send v) < dues_of_stock v
send_lowers_stock v x e = by v.queue refl (target v.procs) refl e
  where
    by : (queue : List Waiting) → v.queue ≡ queue → (t : Option (ℕ × Option ℕ)) → target v.procs ≡ t
        → send_by queue t ≡ Some x → dues_of_stock (after_send v) < dues_of_stock v
    by [] is t goes e = absurd (none-some x e)
    by (w ∷ queue) is None goes e = absurd (none-some x e)
    by (w ∷ queue) is (Some t) goes e =
        let same : after_send v ≡ after_send_by v (w ∷ queue) true =
        ap₂ (after_send_by v) is (target_free v.procs t goes) in
        subst (λ (z : Stock). dues_of_stock z < dues_of_stock v) (sym same) (sent_less v w queue is)

send_most_stock : (v : Stock) → dues_of_stock (after_send v) ≤ dues_of_stock v
send_most_stock v = by v.queue refl (some_free v.procs)
  where
    by : (queue : List Waiting) → v.queue ≡ queue → (b : Bool)
        → dues_of_stock (after_send_by v queue b) ≤ dues_of_stock v
    by [] is b = omega arith
    by (w ∷ queue) is true = let l = sent_less v w queue is in omega arith
    by (w ∷ queue) is false = omega arith

below_of : (a b : ℕ) → nat_lt a b ≡ true → a < b
below_of a b e = grind (arith, nat_tests)

has_room : (v : Stock) → start_due v ≡ true → length v.procs + v.starting < v.children_max
unfolding start_due
has_room v e = below_of (length v.procs + v.starting) v.children_max (and_parts _ _ e).0

-- a start that is due takes one of those that may be
start_lowers_stock : (v : Stock) → start_due v ≡ true → dues_of_stock (after_start v) < dues_of_stock v
start_lowers_stock v e =
    let same : after_start v ≡ record v { owed = v.owed - 1; starting = suc v.starting } =
    ap (λ (b : Bool). if b then record v { owed = v.owed - 1; starting = suc v.starting } else v) e in
    let room = has_room v e in
    let less : length v.queue + (v.children_max - (length v.procs + suc v.starting)) < length v.queue
    + (v.children_max - (length v.procs + v.starting)) = omega arith in
    subst (λ (z : Stock). dues_of_stock z < dues_of_stock v) (sym same) less

start_most_stock : (v : Stock) → dues_of_stock (after_start v) ≤ dues_of_stock v
start_most_stock v = by (start_due v) refl
  where
    by : (b : Bool) → start_due v ≡ b → dues_of_stock (after_start v) ≤ dues_of_stock v
    by true e = let l = start_lowers_stock v e in omega arith
    by false e =
        let same : after_start v ≡ v =
        ap (λ (b : Bool). if b then record v { owed = v.owed - 1; starting = suc v.starting } else v) e in
        subst (λ (z : Stock). dues_of_stock z ≤ dues_of_stock v) (sym same) (omega arith)

-- the classes of a state

row_most : (f : ClassRow → ClassRow) → ((r : ClassRow) → dues_of_stock (f r).stock ≤ dues_of_stock r.stock)
    → (o : Option ClassRow) → dues_of_row (option_map f o) ≤ dues_of_row o
row_most f e None = omega arith
row_most f e (Some r) = e r

changed_most : (s : State) (p q : ClassId) (f : ClassRow → ClassRow)
    → ((r : ClassRow) → dues_of_stock (f r).stock ≤ dues_of_stock r.stock) → dues_at (change_row p f s) q ≤ dues_at s q
changed_most s p q f e = by (is_at p q.epoch q.class)
  where
    by : (b : Bool) → dues_of_row (if b then option_map f (s.row q.epoch q.class) else s.row q.epoch q.class)
        ≤ dues_of_row (s.row q.epoch q.class)
    by true = row_most f e (s.row q.epoch q.class)
    by false = omega arith

changed_less : (s : State) (p : ClassId) (f : ClassRow → ClassRow) (r : ClassRow) → s.row p.epoch p.class ≡ Some r
    → dues_of_stock (f r).stock < dues_of_stock r.stock
    → dues_at (change_row p f s) p < dues_at s p
changed_less s p f r is l =
    let here : is_at p p.epoch p.class ≡ true = ap₂ (λ (a b : Bool). a && b) (itself p.epoch) (itself p.class) in
    let now : dues_at (change_row p f s) p ≡ dues_of_stock (f r).stock =
    ap (λ (b : Bool). dues_of_row (if b then option_map f (s.row p.epoch p.class) else s.row p.epoch p.class)) here
    ∙ ap (λ (o : Option ClassRow). dues_of_row (option_map f o)) is in
    let old : dues_at s p ≡ dues_of_stock r.stock = ap dues_of_row is in
    omega arith

-- the act that is due

made_among : {A : Type 0} (f : ClassId → Option A) (xs : List ClassId) (y : A) → first_made f xs ≡ Some y
    → (p : ClassId) × IsAmong p xs × (f p ≡ Some y)
made_among f [] y e = absurd (none-some y e)
made_among {A = A} f (x ∷ xs) y e = by (f x) refl (made_among f xs y) e
  where
    by : (o : Option A) → f x ≡ o → (first_made f xs ≡ Some y → (p : ClassId) × IsAmong p xs × (f p ≡ Some y))
        → option_or o (first_made f xs) ≡ Some y
        → (p : ClassId) × IsAmong p (x ∷ xs) × (f p ≡ Some y)
    by None is more e = let m = more e in (m.0, inr m.1, m.2)
    by (Some z) is more e = (x, inl refl, is ∙ e)

start_is : (s : State) (q : ClassId) (d : Due) → start_in s q ≡ Some d → d ≡ starts q
start_is s q d e =
    let r = then_some (λ (r : ClassRow). if start_due r.stock then Some (starts q) else None) (s.row q.epoch q.class) d
    e in by (start_due r.0.stock) r.2
  where
    by : (b : Bool) → (if b then Some (starts q) else None) ≡ Some d → d ≡ starts q
    by true e = sym (same_Some _ _ e)
    by false e = absurd (none-some d e)

send_is : (s : State) (q : ClassId) (d : Due) → send_in s q ≡ Some d → (x : Sending) × (d ≡ sends q x)
send_is s q d e = let m =
    map_some (sends q) (option_and_then (λ (r : ClassRow). send_of r.stock) (s.row q.epoch q.class)) d e in (m.0, m.2)

-- the class of a send, or of a start, is one of those of the live epochs; and a stop is that of the first process
abbrev IsThere : State → Due → Type 0
IsThere s (stops k) = first_of (picks s.stop s.procs) ≡ Some k
IsThere s (sends p x) = IsAmong p (live_places_in s)
IsThere s (starts p) = IsAmong p (live_places_in s)

due_there : (s : State) (d : Due) → due_in s ≡ Some d → IsThere s d
due_there s d e = by_stop (first_of (picks s.stop s.procs)) refl e
  where
    places : List ClassId
    places = live_places_in s

    by_start : first_made (start_in s) places ≡ Some d → IsThere s d
    by_start e = let m = made_among (start_in s) places d e in subst (IsThere s) (sym (start_is s m.0 d m.2)) m.1

    by_send : (o : Option Due) → first_made (send_in s) places ≡ o
        → option_or o (first_made (start_in s) places) ≡ Some d → IsThere s d
    by_send None is e = by_start e
    by_send (Some z) is e =
        let m = made_among (send_in s) places d (is ∙ e) in let x = send_is s m.0 d m.2 in
        subst (IsThere s) (sym x.1) m.1

    by_stop : (o : Option ℕ) → first_of (picks s.stop s.procs) ≡ o
        → option_or (option_map stops o) (option_or (first_made (send_in s) places) (first_made (start_in s) places))
        ≡ Some d → IsThere s d
    by_stop None is e = by_send (first_made (send_in s) places) refl e
    by_stop (Some k) is e = subst (IsThere s) (same_Some _ _ e) is

sum_less : (a b c : ℕ) → a < b → a + c < b + c
sum_less a b c l = omega arith

sum_less_right : (a b c : ℕ) → b < c → a + b < a + c
sum_less_right a b c l = omega arith

-- a stop
pub stop_lowers : (s : State) (k now : ℕ) → due_in s ≡ Some (stops k) → dues_in (after_stop_of k now s) < dues_in s
stop_lowers s k now e =
    sum_less (length (picks (but s.stop k) s.procs)) (length (picks s.stop s.procs))
    (total (dues_at s) (live_places_in s))
    (one_fewer s.stop k s.procs (first_picked s.stop s.procs k (due_there s (stops k) e)))

-- a send
pub send_lowers : (s : State) (p : ClassId) (x : Sending) (now : ℕ) → due_in s ≡ Some (sends p x)
    → dues_in (after_send_at p now s) < dues_in s
send_lowers s p x now e =
    let d = due_send_is s p x e in
    sum_less_right (length (picks s.stop s.procs)) (total (dues_at (change_row p after_sending s)) (live_places_in s))
    (total (dues_at s) (live_places_in s))
    (total_less (dues_at (change_row p after_sending s)) (dues_at s) (live_places_in s) p (due_there s (sends p x) e)
    (λ q. changed_most s p q after_sending (λ r. send_most_stock r.stock))
    (changed_less s p after_sending d.row d.row_is (send_lowers_stock d.row.stock x d.due)))

-- a start
pub start_lowers : (s : State) (p : ClassId) (now : ℕ) → due_in s ≡ Some (starts p)
    → dues_in (after_start_at p now s) < dues_in s
start_lowers s p now e =
    let d = due_start_is s p e in
    sum_less_right (length (picks s.stop s.procs)) (total (dues_at (change_row p after_starting s)) (live_places_in s))
    (total (dues_at s) (live_places_in s))
    (total_less (dues_at (change_row p after_starting s)) (dues_at s) (live_places_in s) p (due_there s (starts p) e)
    (λ q. changed_most s p q after_starting (λ r. start_most_stock r.stock))
    (changed_less s p after_starting d.row d.row_is (start_lowers_stock d.row.stock d.due)))
