-- A class after a send that was told.
use Rattle.std.proofs.Common.{◌≡◌, ℕ, zero, suc, ◌<◌, ◌≤◌, max, List, [], ◌∷◌, ◌++◌, map, map-id, filter, length, get_or, set, cond, Bool, true, false, not, ◌&&◌, ◌==◌, nat_le, nat_lt, if◌then◌else◌, Option, Some, None, is_some, refl, sym, ap, ap₂, subst, ◌∙◌, arith, get_or-set_same, get_or-set_other, length-set}
use Rattle.std.specs.Option.{option_map, option_or}
use Rattle.std.proofs.lemmas.Bool.{le-leb, lt-ltb}
use Rattle.std.proofs.lemmas.Bool.Decides.{nat_tests}
use Rattle.std.proofs.lemmas.List.{length-map, same_lists}
use Rattle.std.proofs.lemmas.Option.{get_or_from_slice_get, none-some, same_Some, slice_get-map}
use Rattle.sq_base.proofs.CommonLaws.{eq_turned}
use Rattle.sq_machine.specs.declared.entries.Event.TheVariants.{Act}
use Rattle.sq_machine.specs.declared.entries.Told.TheVariants as told
use Rattle.sq_machine.specs.Channels.{asked, channel_name, free_count, least_free}
use Rattle.sq_rules.specs.Classes.{Class}
use Rattle.sq_rules.specs.Configurations.{Configuration}
use Rattle.sq_machine.specs.FarmReadings.{farm_with, is_put_for, is_queued, living_of, waiting_of}
use Rattle.sq_machine.specs.Farms.{Sending, Stock, Waiting, after_send_by, send_by, send_of, waiting_number}
use Rattle.sq_machine.specs.Living.{Living, asked_row, has_free, sent, some_free, target}
use Rattle.sq_machine.specs.Marks.{Marked, Past, entries}
use Rattle.sq_machine.specs.Numbered.{below, picks, rows}
use Rattle.sq_machine.specs.Processes.{if_here, is_at_home, proc_count, runs_at}
use Rattle.sq_machine.specs.Questions.{has_ended, put_count, put_of, sent_to}
use Rattle.sq_machine.specs.Rising.{AreAbove, AreBelow, Rises}
use Rattle.sq_machine.specs.Transcripts.{after_use, holder, keeps, puts, same_channel}
use Rattle.sq_model.specs.ClassRows.{after_sending, class_row}
use Rattle.sq_model.specs.MarkedEntries.{noted_at}
use Rattle.sq_model.proofs.ClassParts.{and_true, below_picks, equal, itself}
use Rattle.sq_model.proofs.LineLaws.{below_at, length_below, map_below}
use Rattle.sq_model.proofs.ReplyLaws.{elsewhere}
use Rattle.sq_model.proofs.RowLaws.{rows_left, rows_same}

above_push : (k : ℕ) (xs : List ℕ) (n : ℕ) → k < n → AreAbove k xs → AreAbove k (xs ++ n ∷ [])
above_push k [] n l a = (l, tt)
above_push k (x ∷ xs) n l a = (a.0, above_push k xs n l a.1)

rises_push : (xs : List ℕ) (n : ℕ) → AreBelow n xs → Rises xs → Rises (xs ++ n ∷ [])
rises_push [] n b r = (tt, tt)
rises_push (x ∷ xs) n b r = (above_push x xs n b.0 r.0, rises_push xs n b.1 r.1)

rises_if : (t : Bool) (xs : List ℕ) (n : ℕ) → AreBelow n xs → Rises xs → Rises (if t then xs ++ n ∷ [] else xs)
rises_if true xs n b r = rises_push xs n b r
rises_if false xs n b r = r

-- picked numbers rise
pub rises_picks : (p : ℕ → Bool) (n : ℕ) → Rises (picks p n)
rises_picks p zero = tt
rises_picks p (suc n) = rises_if (p (suc n)) (picks p n) (suc n) (below_picks (suc n) p n (omega arith))
    (rises_picks p n)

apart : (a b : ℕ) → a < b → (a == b) ≡ false
apart a b l = grind (arith, nat_tests)

waiting_numbers : (m : Past) (xs : List ℕ) → map waiting_number (map (waiting_of m) xs) ≡ xs
waiting_numbers m [] = refl
waiting_numbers m (x ∷ xs) = ap (λ (ys : List ℕ). x ∷ ys) (waiting_numbers m xs)

filter_above : (k : ℕ) (ws : List Waiting) → AreAbove k (map waiting_number ws)
    → filter (λ (w : Waiting). not (k == w.question)) ws ≡ ws
filter_above k [] a = refl
filter_above k (w ∷ ws) a =
    ap₂ (λ (b : Bool) (xs : List Waiting). cond (not b) (w ∷ xs) xs) (apart k w.question a.0) (filter_above k ws a.1)

-- the first of a queue is taken out by its number
first_out : (m : Past) (p : ℕ → Bool) (n : ℕ) (w : Waiting) (rest : List Waiting) → rows (waiting_of m) p n ≡ w ∷ rest
    → filter (λ (v : Waiting). not (w.question == v.question)) (rows (waiting_of m) p n) ≡ rest
first_out m p n w rest is =
    let rising : Rises (map waiting_number (w ∷ rest)) =
    subst Rises (sym (waiting_numbers m (picks p n)) ∙ ap (map waiting_number) is) (rises_picks p n) in
    ap (filter (λ (v : Waiting). not (w.question == v.question))) is
    ∙ ap (λ (b : Bool). cond (not b) (w ∷ filter (λ (v : Waiting). not (w.question == v.question)) rest)
    (filter (λ (v : Waiting). not (w.question == v.question)) rest)) (itself w.question)
    ∙ filter_above w.question rest rising.0

-- a question put on the least free channel, by place
asked_is : (q : ℕ) (slots : List (Option ℕ)) → 0 < free_count slots
    → asked q slots ≡ set slots (least_free slots) (Some q)
asked_is q [] f = absurd (omega arith)
asked_is q (None ∷ slots) f = refl
asked_is q (Some p ∷ slots) f = ap (λ (xs : List (Option ℕ)). Some p ∷ xs) (asked_is q slots f)

least_within : (slots : List (Option ℕ)) → 0 < free_count slots → least_free slots < length slots
least_within [] f = absurd (omega arith)
least_within (None ∷ slots) f = omega arith
least_within (Some p ∷ slots) f = let l = least_within slots f in omega arith

get_below : (f : ℕ → Option ℕ) (n k : ℕ) (d : Option ℕ) → k < n → get_or (map f (below n)) k d ≡ f k
get_below f n k d l =
    get_or_from_slice_get (map f (below n)) k (f k) d
    (slice_get-map f (below n) k
    ∙ ap (option_map f) (below_at n k ∙ ap (λ (b : Bool). if b then Some k else None) (lt-ltb k n l)))

length_map_below : (f : ℕ → Option ℕ) (n : ℕ) → length (map f (below n)) ≡ n
length_map_below f n = length-map (below n) f ∙ length_below n

-- slots of which the one at the least free place gets a question
pub asked_below : (hold new : ℕ → Option ℕ) (n q : ℕ) → 0 < free_count (map hold (below n))
    → ((k : ℕ) → k < n → new k ≡ (if k == least_free (map hold (below n)) then Some q else hold k))
    → map new (below n) ≡ asked q (map hold (below n))
asked_below hold new n q free is =
    same_lists (map new (below n)) (set slots (least_free slots) (Some q))
    (length_map_below new n ∙ sym (length-set slots (least_free slots) (Some q) ∙ length_map_below hold n))
    (λ k d l. at k d (subst (λ (j : ℕ). k < j) (length_map_below new n) l))
    ∙ sym (asked_is q slots free)
  where
    slots : List (Option ℕ)
    slots = map hold (below n)

    by : (k : ℕ) (d : Option ℕ) → k < n → (b : Bool) → (k == least_free slots) ≡ b
        → (if b then Some q else hold k) ≡ get_or (set slots (least_free slots) (Some q)) k d
    by k d l true same =
        sym (ap (λ (j : ℕ). get_or (set slots (least_free slots) (Some q)) j d) (equal k (least_free slots) same)
        ∙ get_or-set_same slots (least_free slots) (Some q) d (least_within slots free))
    by k d l false other =
        sym (get_or-set_other slots (least_free slots) k (Some q) d (differ k (least_free slots) other)
        ∙ get_below hold n k d l)
      where
        differ : (a b : ℕ) → (a == b) ≡ false → a ≡ b → ⊥
        differ a b e f = grind (arith, nat_tests)

    at : (k : ℕ) (d : Option ℕ) → k < n
        → get_or (map new (below n)) k d ≡ get_or (set slots (least_free slots) (Some q)) k d
    at k d l = get_below new n k d l ∙ is k l ∙ by k d l (k == least_free slots) refl

-- two channels of a process are one by their names
pub same_name : (concurrency a b : ℕ) → a < max 1 concurrency → b < max 1 concurrency
    → same_channel (channel_name (nat_lt 0 concurrency) a) (channel_name (nat_lt 0 concurrency) b) ≡ (b == a)
same_name concurrency a b la lb = by (nat_lt 0 concurrency) refl
  where
    zeros : nat_lt 0 concurrency ≡ false → true ≡ (b == a)
    zeros none = grind (arith, nat_tests)

    by : (t : Bool) → nat_lt 0 concurrency ≡ t → same_channel (channel_name t a) (channel_name t b) ≡ (b == a)
    by true e = eq_turned a b
    by false e = zeros e

put_use : (q : ℕ) (b : Bool) (o : Option ℕ) → after_use (if b then puts q else keeps) o ≡ (if b then Some q else o)
put_use q true o = refl
put_use q false o = refl

-- the least free channel of a process that has one is one of its channels
pub free_within : (concurrency : ℕ) (m : Past) (j : ℕ) → has_free (living_of concurrency (entries m) j) ≡ true
    → least_free (living_of concurrency (entries m) j).process.slots < max 1 concurrency
free_within concurrency m j free =
    subst (λ (n : ℕ). least_free (map hold (below (max 1 concurrency))) < n) (length_map_below hold (max 1 concurrency))
    (least_within (map hold (below (max 1 concurrency)))
    (positive (free_count (map hold (below (max 1 concurrency)))) free))
  where
    hold : ℕ → Option ℕ
    hold n = holder (nat_lt 0 concurrency) (entries m) j (channel_name (nat_lt 0 concurrency) n)

    positive : (n : ℕ) → nat_lt 0 n ≡ true → 0 < n
    positive n e = grind (arith, nat_tests)

-- the process that a question is sent to
pub asked_living : (concurrency : ℕ) (m : Past) (now p q : ℕ) (channel : Option ℕ) (key : List ℕ) (j : ℕ)
    → (j == p) ≡ true → j ≤ proc_count (entries m)
    → has_free (living_of concurrency (entries m) j) ≡ true
    → channel ≡ channel_name (nat_lt 0 concurrency) (least_free (living_of concurrency (entries m) j).process.slots)
    → living_of concurrency (entries (noted_at now Act (told.Send p q channel key) ∷ m)) j
    ≡ asked_row q (living_of concurrency (entries m) j)
asked_living concurrency m now p q channel key j same high free name =
    ap (λ (s : List (Option ℕ)). record { number = j; process = record { numbered = nat_lt 0 concurrency; slots = s } })
    (asked_below hold (λ (n : ℕ). holder (nat_lt 0 concurrency)
    (entries (noted_at now Act (told.Send p q channel key) ∷ m)) j (channel_name (nat_lt 0 concurrency) n))
    (max 1 concurrency) q
    some
    (λ n l. ap₂ (λ (a b : Bool). after_use
    (if a && b && same_channel channel (channel_name (nat_lt 0 concurrency) n) then puts q else keeps) (hold n)) same
    (le-leb j (proc_count (entries m)) high)
    ∙ ap (λ (o : Option ℕ). after_use (if same_channel o (channel_name (nat_lt 0 concurrency) n) then puts q else keeps)
    (hold n)) name
    ∙ ap (λ (b : Bool). after_use (if b then puts q else keeps) (hold n))
    (same_name concurrency (least_free slots) n within l)
    ∙ put_use q (n == least_free slots) (hold n)))
  where
    hold : ℕ → Option ℕ
    hold n = holder (nat_lt 0 concurrency) (entries m) j (channel_name (nat_lt 0 concurrency) n)

    slots : List (Option ℕ)
    slots = map hold (below (max 1 concurrency))

    positive : (n : ℕ) → nat_lt 0 n ≡ true → 0 < n
    positive n e = grind (arith, nat_tests)

    some : 0 < free_count slots
    some = positive (free_count slots) free

    within : least_free slots < max 1 concurrency
    within = subst (λ (n : ℕ). least_free slots < n) (length_map_below hold (max 1 concurrency))
        (least_within slots some)

-- another process
pub unsent_living : (concurrency : ℕ) (m : Past) (now p q : ℕ) (channel : Option ℕ) (key : List ℕ) (j : ℕ)
    → (j == p) ≡ false
    → living_of concurrency (entries (noted_at now Act (told.Send p q channel key) ∷ m)) j
    ≡ living_of concurrency (entries m) j
unsent_living concurrency m now p q channel key j other =
    ap (λ (s : List (Option ℕ)). record { number = j; process = record { numbered = nat_lt 0 concurrency; slots = s } })
    (map_below (λ (n : ℕ). holder (nat_lt 0 concurrency) (entries (noted_at now Act (told.Send p q channel key) ∷ m)) j
    (channel_name (nat_lt 0 concurrency) n)) (λ (o : Option ℕ). o)
    (λ (n : ℕ). holder (nat_lt 0 concurrency) (entries m) j (channel_name (nat_lt 0 concurrency) n)) (max 1 concurrency)
    (λ n l. ap (λ (b : Bool). after_use
    (if b && nat_le j (proc_count (entries m))
    && same_channel channel (channel_name (nat_lt 0 concurrency) n) then puts q else keeps)
    (holder (nat_lt 0 concurrency) (entries m) j (channel_name (nat_lt 0 concurrency) n))) other)
    ∙ map-id (map (λ (n : ℕ). holder (nat_lt 0 concurrency) (entries m) j (channel_name (nat_lt 0 concurrency) n))
    (below (max 1 concurrency))))

-- the numbers are those of processes that were started
abbrev AreGiven : ℕ → List ℕ → Type 0
AreGiven n [] = Unit {0}
AreGiven n (x ∷ xs) = (x ≤ n) × AreGiven n xs

given_picks : (p : ℕ → Bool) (n : ℕ) (xs : List ℕ) → AreBelow (suc n) xs → AreGiven n xs
given_picks p n [] b = tt
given_picks p n (x ∷ xs) b = (omega (arith, b.0), given_picks p n xs b.1)

target_above : (f : ℕ → Living) (k : ℕ) (xs : List ℕ) (t : ℕ × Option ℕ) → ((j : ℕ) → (f j).number ≡ j) → AreAbove k xs
    → target (map f xs) ≡ Some t → k < t.0
target_above f k [] t number a e = absurd (none-some t e)
target_above f k (x ∷ xs) t number a e = by (has_free (f x)) (target_above f k xs t number a.1) e
  where
    by : (b : Bool) → (target (map f xs) ≡ Some t → k < t.0)
        → (if b then Some ((f x).number, channel_name (f x).process.numbered (least_free (f x).process.slots))
        else target (map f xs)) ≡ Some t → k < t.0
    by true more e = subst (λ (n : ℕ). k < n) (sym (number x) ∙ ap (λ (z : ℕ × Option ℕ). z.0) (same_Some _ _ e)) a.0
    by false more e = more e

none_asked : (f f' : ℕ → Living) (p : ℕ) (xs : List ℕ) → AreAbove p xs → ((j : ℕ) → (j == p) ≡ false → f' j ≡ f j)
    → map f' xs ≡ map f xs
none_asked f f' p [] a e = refl
none_asked f f' p (x ∷ xs) a e = ap₂ (λ (y : Living) (ys : List Living). y ∷ ys) (e x (eq_turned x p ∙ apart p x a.0))
    (none_asked f f' p xs a.1 e)

-- the processes after a send to the one that it is for
pub sent_rows : (f f' : ℕ → Living) (n p q : ℕ) (channel : Option ℕ) (xs : List ℕ) → ((j : ℕ) → (f j).number ≡ j)
    → Rises xs → AreGiven n xs
    → ((j : ℕ) → (j == p) ≡ false → f' j ≡ f j)
    → ((j : ℕ) → (j == p) ≡ true → j ≤ n → has_free (f j) ≡ true
    → channel ≡ channel_name (f j).process.numbered (least_free (f j).process.slots) → f' j ≡ asked_row q (f j))
    → target (map f xs) ≡ Some (p, channel) → map f' xs ≡ sent q (map f xs)
sent_rows f f' n p q channel [] number r g other mine e = absurd (none-some (p, channel) e)
sent_rows f f' n p q channel (x ∷ xs) number r g other mine e =
    by (has_free (f x)) refl (sent_rows f f' n p q channel xs number r.1 g.1 other mine) e
  where
    by : (b : Bool) → has_free (f x) ≡ b → (target (map f xs) ≡ Some (p, channel) → map f' xs ≡ sent q (map f xs))
        → (if b then Some ((f x).number, channel_name (f x).process.numbered (least_free (f x).process.slots))
        else target (map f xs)) ≡ Some (p, channel)
        → f' x ∷ map f' xs ≡ (if b then asked_row q (f x) ∷ map f xs else f x ∷ sent q (map f xs))
    by true free more e =
        let same : x ≡ p = sym (number x) ∙ ap (λ (z : ℕ × Option ℕ). z.0) (same_Some _ _ e) in
        ap₂ (λ (y : Living) (ys : List Living). y ∷ ys)
        (mine x (ap (λ (j : ℕ). x == j) (sym same) ∙ itself x) g.0 free
        (sym (ap (λ (z : ℕ × Option ℕ). z.1) (same_Some _ _ e))))
        (none_asked f f' p xs (subst (λ (j : ℕ). AreAbove j xs) same r.0) other)
    by false free more e =
        ap₂ (λ (y : Living) (ys : List Living). y ∷ ys)
        (other x (apart x p (target_above f x xs (p, channel) number r.0 e))) (more e)

-- a send goes to a process with a free channel
free_target : (rs : List Living) (t : ℕ × Option ℕ) → target rs ≡ Some t → some_free rs ≡ true
free_target [] t e = absurd (none-some t e)
free_target (r ∷ rs) t e = by (has_free r) (free_target rs t) e
  where
    by : (b : Bool) → (target rs ≡ Some t → some_free rs ≡ true)
        → (if b then Some (r.number, channel_name r.process.numbered (least_free r.process.slots)) else target rs)
        ≡ Some t → (if b then true else some_free rs) ≡ true
    by true more e = refl
    by false more e = more e

-- what a send has: the first of the queue, and where it goes
pub record SendIs (queue : List Waiting) (t : Option (ℕ × Option ℕ)) (p q : ℕ) (channel : Option ℕ) : Type 0 where
  pub first : Waiting
  pub rest : List Waiting
  pub queue_is : queue ≡ first ∷ rest
  pub question_is : first.question ≡ q
  pub target_is : t ≡ Some (p, channel)

-- from the send of a farm
pub send_is : (queue : List Waiting) (t : Option (ℕ × Option ℕ)) (p q : ℕ) (channel : Option ℕ) (key : List ℕ)
    → send_by queue t ≡ Some (record { proc = p; question = q; channel = channel; text = key })
    → SendIs queue t p q channel
send_is [] t p q channel key e = absurd (none-some _ e)
send_is (w ∷ queue) None p q channel key e = absurd (none-some _ e)
send_is (w ∷ queue) (Some t) p q channel key e =
    let same = same_Some _ _ e in
    record {
      first = w;
      rest = queue;
      queue_is = refl;
      question_is = ap (λ (s : Sending). s.question) same;
      target_is = ap (λ (s : Sending). Some (s.proc, s.channel)) same;
    }

-- which questions wait after a send
sent_queue : (configs : List Configuration) (m : Past) (now p q : ℕ) (channel : Option ℕ) (key : List ℕ) (e c k : ℕ)
    → k ≤ put_count m
    → is_queued configs (noted_at now Act (told.Send p q channel key) ∷ m) e c k
    ≡ (is_queued configs m e c k && not (q == k))
sent_queue configs m now p q channel key e c k high =
    ap (λ (b : Bool). is_put_for e c (put_of m k)
    && not (is_some (option_or (if_here ((k == q) && b) (Some p)) (sent_to m k))) && not (has_ended configs m k))
    (le-leb k (put_count m) high)
    ∙ ap (λ (b : Bool). is_put_for e c (put_of m k) && not (is_some (option_or (if_here b (Some p)) (sent_to m k)))
    && not (has_ended configs m k)) (and_true (k == q) ∙ eq_turned k q)
    ∙ by (is_put_for e c (put_of m k)) (q == k) (sent_to m k) (has_ended configs m k)
  where
    by : (a b : Bool) (o : Option ℕ) (d : Bool)
        → (a && not (is_some (option_or (if_here b (Some p)) o)) && not d) ≡ ((a && not (is_some o) && not d) && not b)
    by true true None true = refl
    by true true None false = refl
    by true true (Some j) d = refl
    by true false None true = refl
    by true false None false = refl
    by true false (Some j) d = refl
    by false b o d = refl

-- the class whose send was due and told
pub class_sending : (configs : List Configuration) (m : Past) (now p q : ℕ) (channel : Option ℕ) (key : List ℕ)
    (e c : ℕ) (class : Class)
    → send_of (farm_with configs m e c class) ≡ Some (record { proc = p; question = q; channel = channel; text = key })
    → class_row configs (noted_at now Act (told.Send p q channel key) ∷ m) e c class
    ≡ after_sending (class_row configs m e c class)
class_sending configs m now p q channel key e c class due =
    (λ i. record (class_row configs m e c class) {
      stock = record v {
        queue = (rows_left (λ (w : Waiting). not (q == w.question)) (waiting_of m) (waiting_of m)
            (is_queued configs m e c) (is_queued configs (x ∷ m) e c) (put_count m)
            (λ k low high. sent_queue configs m now p q channel key e c k high) (λ k low high picked. refl)
            ∙ ap (λ (j : ℕ). filter (λ (w : Waiting). not (j == w.question)) v.queue) (sym s.question_is)
            ∙ first_out m (is_queued configs m e c) (put_count m) s.first s.rest s.queue_is) i;
        procs = (sent_rows (living_of class.concurrency (entries m)) (living_of class.concurrency (entries (x ∷ m)))
            (proc_count (entries m)) p q channel
            (picks (runs_at (entries m) e class.name) (proc_count (entries m))) (λ j. refl)
            (rises_picks (runs_at (entries m) e class.name) (proc_count (entries m)))
            (given_picks (runs_at (entries m) e class.name) (proc_count (entries m))
            (picks (runs_at (entries m) e class.name) (proc_count (entries m)))
            (below_picks (suc (proc_count (entries m))) (runs_at (entries m) e class.name) (proc_count (entries m))
            (omega arith)))
            (λ j other. unsent_living class.concurrency m now p q channel key j other)
            (λ j same high free name. asked_living class.concurrency m now p q channel key j same high free name)
            s.target_is ∙ ap (λ (j : ℕ). sent j v.procs) (sym s.question_is)) i;
      };
    })
    ∙ ap (λ (w : Stock). record (class_row configs m e c class) { stock = w })
    (sym (ap₂ (after_send_by v) s.queue_is (free_target v.procs (p, channel) s.target_is)))
  where
    x : Marked
    x = noted_at now Act (told.Send p q channel key)

    v : Stock
    v = farm_with configs m e c class

    s : SendIs v.queue (target v.procs) p q channel
    s = send_is v.queue (target v.procs) p q channel key due

-- another class
pub class_not_sending : (configs : List Configuration) (m : Past) (now p q : ℕ) (channel : Option ℕ) (key : List ℕ)
    (e c : ℕ) (class : Class)
    → is_put_for e c (put_of m q) ≡ false → is_at_home (entries m) e class.name p ≡ false
    → class_row configs (noted_at now Act (told.Send p q channel key) ∷ m) e c class ≡ class_row configs m e c class
class_not_sending configs m now p q channel key e c class other away =
    λ i. record (class_row configs m e c class) {
      stock = record (farm_with configs m e c class) {
        queue = rows_same (waiting_of m) (waiting_of m) (is_queued configs m e c) (is_queued configs (x ∷ m) e c)
            (put_count m)
            (λ k low high. sent_queue configs m now p q channel key e c k high
            ∙ stays (is_put_for e c (put_of m k)) (not (is_some (sent_to m k))) (not (has_ended configs m k)) (q == k)
            (λ t. ap (λ (j : ℕ). is_put_for e c (put_of m j)) (sym (equal q k t)) ∙ other))
            (λ k low high picked. refl) i;
        procs = rows_same (living_of class.concurrency (entries m)) (living_of class.concurrency (entries (x ∷ m)))
            (runs_at (entries m) e class.name) (runs_at (entries (x ∷ m)) e class.name)
            (proc_count (entries m)) (λ k low high. refl)
            (λ k low high runs. unsent_living class.concurrency m now p q channel key k
            (elsewhere m e class.name p k (k == p) refl away runs)) i;
      };
    }
  where
    x : Marked
    x = noted_at now Act (told.Send p q channel key)

    stays : (a s d b : Bool) → (b ≡ true → a ≡ false) → ((a && s && d) && not b) ≡ (a && s && d)
    stays true s d true e = absurd (let no = e refl in cc)
    stays true s d false e = and_true (s && d)
    stays false s d b e = refl
