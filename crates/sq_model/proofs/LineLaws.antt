-- What a line in the grammar does on the channels of its process,
-- and where a process is found among those of its class.
use Rattle.std.proofs.Common.{◌≡◌, ℕ, zero, suc, ◌<◌, ◌≤◌, max, List, [], ◌∷◌, ◌++◌, map, Bool, true, false, not, ◌&&◌, ◌==◌, nat_le, nat_lt, slice_get, if◌then◌else◌, cond, find, filter, drop, length, length-append, add-one, bytes_eq, Option, Some, None, is_some, refl, sym, ap, ap₂, ◌∙◌, arith}
use Rattle.std.specs.List.{prefix_len, take_while}
use Rattle.std.specs.Option.{option_map, option_map_or, option_or, unwrap_or}
use Rattle.std.proofs.lemmas.Bool.Decides.{nat_tests}
use Rattle.std.proofs.lemmas.List.{map-append}
use Rattle.std.proofs.lemmas.Option.{none-some, same_Some, slice_get-map}
use Rattle.sq_base.specs.Bytes.{space}
use Rattle.sq_base.specs.Decimals.{number_of}
use Rattle.sq_base.specs.Replies.{Answer, after_channel, channel_limit, is_word_byte, on_channel, reply_limit, reply_line_in, reply_of, result_in, without_last_cr}
use Rattle.sq_base.specs.declared.helpers.Reply.{Reply}
use Rattle.sq_machine.specs.Channels.{Channels, channel_name, freed, slot_at, slot_of}
use Rattle.sq_machine.specs.Checks.{numbered}
use Rattle.sq_machine.specs.Entries.{History}
use Rattle.sq_machine.specs.Events.{is_number}
use Rattle.sq_machine.specs.FarmReadings.{living_of}
use Rattle.sq_machine.specs.Living.{Living, find_proc, slots_by, slots_in, without}
use Rattle.sq_machine.specs.Numbered.{below, rows}
use Rattle.sq_machine.specs.Processes.{Home, home_of, proc_count, proc_end, runs_at, started_by}
use Rattle.sq_machine.specs.Transcripts.{LineIs, OnFree, Outside, ReplyTo, after_use, channels_of, clears, holder, keeps, line_at, line_by, line_is, same_channel, stands_on}
use Rattle.sq_model.specs.Carried.{HoldsOnce}
use Rattle.sq_model.proofs.ClassParts.{equal, itself}
use Rattle.sq_model.proofs.RowLaws.{picked_given, row_found}

-- a process that was started has a number from 1 on, up to their count
pub record IsGiven (count k : ℕ) : Type 0 where
  pub positive : 1 ≤ k
  pub most : k ≤ count

-- a process of some class was started
pub home_given : (h : History) (k : ℕ) → is_some (home_of h k) ≡ true → IsGiven (proc_count h) k
home_given [] k e = absurd (cc)
home_given (x ∷ h) k e = by (started_by x.event) (home_given h k) e
  where
    by_number : {A : Type 0} (a : A) (old : Option A) (b : Bool) → (k == suc (proc_count h)) ≡ b
        → (is_some old ≡ true → IsGiven (proc_count h) k)
        → is_some (option_or (if b then Some a else None) old) ≡ true → IsGiven (suc (proc_count h)) k
    by_number a old true same more e =
        let is : k ≡ suc (proc_count h) = equal k (suc (proc_count h)) same in
        record { positive = omega arith; most = omega arith }
    by_number a old false same more e = let g = more e in
        record { positive = g.positive; most = up k (proc_count h) g.most }
      where
        up : (k n : ℕ) → k ≤ n → k ≤ suc n
        up k n l = omega arith

    by : (o : Option Home) → (is_some (home_of h k) ≡ true → IsGiven (proc_count h) k)
        → is_some (option_or (numbered k (proc_count h) o) (home_of h k)) ≡ true
        → IsGiven (if is_some o then suc (proc_count h) else proc_count h) k
    by None more e = more e
    by (Some a) more e = by_number a (home_of h k) (k == suc (proc_count h)) refl more e

-- a process that runs in a class was started
pub runs_given : (h : History) (e : ℕ) (name : List ℕ) (k : ℕ) → runs_at h e name k ≡ true → IsGiven (proc_count h) k
runs_given h e name k r = by (home_of h k) (home_given h k) r
  where
    by : (o : Option Home) → (is_some o ≡ true → IsGiven (proc_count h) k)
        → (option_map_or (λ p. (p.epoch == e) && bytes_eq p.class name) o false
        && (is_some o && not (is_some (proc_end h k)))) ≡ true → IsGiven (proc_count h) k
    by None g r = absurd (cc)
    by (Some p) g r = g refl

find_proc_is : (k : ℕ) (rs : List Living)
    → slots_in k rs ≡ slots_by (option_map (λ (r : Living). r.process) (find (λ (r : Living). k == r.number) rs))
find_proc_is k [] = refl
find_proc_is k (r ∷ rs) = by (k == r.number) (find_proc_is k rs)
  where
    by : (b : Bool) → slots_in k rs
        ≡ slots_by (option_map (λ (r : Living). r.process) (find (λ (r : Living). k == r.number) rs))
        → slots_by (if b then Some r.process else find_proc k rs)
        ≡ slots_by (option_map (λ (r : Living). r.process) (cond b (Some r) (find (λ (r : Living). k == r.number) rs)))
    by true e = refl
    by false e = e

-- the channels of a process among those that run in a class
pub slots_found : (concurrency : ℕ) (h : History) (e : ℕ) (name : List ℕ) (k : ℕ) → runs_at h e name k ≡ true
    → slots_in k (rows (living_of concurrency h) (runs_at h e name) (proc_count h))
    ≡ (channels_of concurrency h k).slots
slots_found concurrency h e name k runs =
    find_proc_is k (rows (living_of concurrency h) (runs_at h e name) (proc_count h))
    ∙ ap (λ (o : Option Living). slots_by (option_map (λ (r : Living). r.process) o))
    (row_found (λ (r : Living). k == r.number) (living_of concurrency h) (runs_at h e name) (proc_count h) k
    (λ j low high is. refl)
    ∙ ap (λ (b : Bool). if b then Some (living_of concurrency h k) else None)
    (picked_given (runs_at h e name) (proc_count h) k (runs_given h e name k runs).positive
    (runs_given h e name k runs).most ∙ runs))

-- a process is taken out of a list by its number
pub without_is : (k : ℕ) (rs : List Living) → without k rs ≡ filter (λ (r : Living). not (k == r.number)) rs
without_is k [] = refl
without_is k (r ∷ rs) = by (k == r.number) (without_is k rs)
  where
    by : (b : Bool) → without k rs ≡ filter (λ (r : Living). not (k == r.number)) rs
        → (if b then without k rs else r ∷ without k rs)
        ≡ cond (not b) (r ∷ filter (λ (r : Living). not (k == r.number)) rs)
        (filter (λ (r : Living). not (k == r.number)) rs)
    by true e = e
    by false e = ap (λ (xs : List Living). r ∷ xs) e

-- a map over the numbers below n goes by what it does there
pub map_below : {A B : Type 0} (f : ℕ → B) (g : A → B) (v : ℕ → A) (n : ℕ) → ((k : ℕ) → k < n → f k ≡ g (v k))
    → map f (below n) ≡ map g (map v (below n))
map_below f g v zero e = refl
map_below {A} {B} f g v (suc n) e =
    map-append f (below n) (n ∷ [])
    ∙ ap₂ (λ (xs : List B) (y : B). xs ++ y ∷ []) (map_below f g v n (λ k l. e k (omega arith))) (e n (omega arith))
    ∙ sym (map-append g (map v (below n)) (v n ∷ [])) ∙ ap (map g) (sym (map-append v (below n) (n ∷ [])))

-- a reply frees the channel that its question is on
pub cleared : (q : ℕ) (b : Bool) (o : Option ℕ) → b ≡ is_number q o
    → after_use (if b then clears else keeps) o ≡ freed q o
cleared q true None e = absurd (cc)
cleared q false None e = refl
cleared q true (Some p) e = ap (λ (d : Bool). if d then None else Some p) e
cleared q false (Some p) e = ap (λ (d : Bool). if d then None else Some p) e

-- the element at a place of a list with one more
get_push : {A : Type 0} (xs : List A) (y : A) (k : ℕ)
    → slice_get (xs ++ y ∷ []) k ≡ (if k == length xs then Some y else slice_get xs k)
get_push [] y zero = refl
get_push [] y (suc k) = sym (ap (λ (b : Bool). if b then Some y else None) (apart k))
  where
    apart : (k : ℕ) → (suc k == 0) ≡ false
    apart k = grind (arith, nat_tests)
get_push (x ∷ xs) y zero = sym (ap (λ (b : Bool). if b then Some y else Some x) (apart (length xs)))
  where
    apart : (k : ℕ) → (0 == suc k) ≡ false
    apart k = grind (arith, nat_tests)
get_push (x ∷ xs) y (suc k) = get_push xs y k
    ∙ ap (λ (b : Bool). if b then Some y else slice_get xs k) (down k (length xs))
  where
    down : (a b : ℕ) → (a == b) ≡ (suc a == suc b)
    down a b = grind (arith, nat_tests)

-- there are so many
pub length_below : (n : ℕ) → length (below n) ≡ n
length_below zero = refl
length_below (suc n) = length-append (below n) (n ∷ []) ∙ add-one (length (below n)) ∙ ap suc (length_below n)

-- the numbers below a number, each at its place
pub below_at : (n k : ℕ) → slice_get (below n) k ≡ (if nat_lt k n then Some k else None)
below_at zero k = sym (ap (λ (b : Bool). if b then Some k else None) (not_below k))
  where
    not_below : (k : ℕ) → nat_lt k 0 ≡ false
    not_below k = grind (arith, nat_tests)
below_at (suc n) k =
    get_push (below n) n k
    ∙ ap₂ (λ (a : ℕ) (o : Option ℕ). if k == a then Some n else o) (length_below n) (below_at n k)
    ∙ by (k == n) refl
  where
    here : (k n : ℕ) → (k == n) ≡ true → nat_lt k (suc n) ≡ true
    here k n e = grind (arith, nat_tests)

    other : (k n : ℕ) → (k == n) ≡ false → nat_lt k (suc n) ≡ nat_lt k n
    other k n e = grind (arith, nat_tests)

    by : (b : Bool) → (k == n) ≡ b
        → (if b then Some n else (if nat_lt k n then Some k else None)) ≡ (if nat_lt k (suc n) then Some k else None)
    by true e = ap (λ (j : ℕ). Some j) (sym (equal k n e))
        ∙ sym (ap (λ (b : Bool). if b then Some k else None) (here k n e))
    by false e = sym (ap (λ (b : Bool). if b then Some k else None) (other k n e))

-- the slot at a place of the channels of a process
pub slot_is : (concurrency : ℕ) (h : History) (k n : ℕ)
    → slot_at (channels_of concurrency h k).slots n
    ≡ (if nat_lt n (max 1 concurrency) then holder (nat_lt 0 concurrency) h k (channel_name (nat_lt 0 concurrency) n)
    else None)
slot_is concurrency h k n =
    ap (λ (o : Option (Option ℕ)). unwrap_or o None)
    (slice_get-map (λ (n : ℕ). holder (nat_lt 0 concurrency) h k (channel_name (nat_lt 0 concurrency) n))
    (below (max 1 concurrency)) n
    ∙ ap (option_map (λ (n : ℕ). holder (nat_lt 0 concurrency) h k (channel_name (nat_lt 0 concurrency) n)))
    (below_at (max 1 concurrency) n))
    ∙ by (nat_lt n (max 1 concurrency))
  where
    by : (b : Bool) → unwrap_or
        (option_map (λ (n : ℕ). holder (nat_lt 0 concurrency) h k (channel_name (nat_lt 0 concurrency) n))
        (if b then Some n else None)) None
        ≡ (if b then holder (nat_lt 0 concurrency) h k (channel_name (nat_lt 0 concurrency) n) else None)
    by true = refl
    by false = refl

on_channel_is : (channel : Option ℕ) (r : Option Reply) (a : Answer) → on_channel channel r ≡ Some a → a.0 ≡ channel
on_channel_is channel None a e = absurd (none-some a e)
on_channel_is channel (Some r) a e = sym (ap (λ (x : Answer). x.0) (same_Some _ _ e))

after_channel_is : (n : Option ℕ) (bytes : List ℕ) (a : Answer) → after_channel n bytes ≡ Some a → is_some a.0 ≡ true
after_channel_is None bytes a e = absurd (none-some a e)
after_channel_is (Some n) [] a e = absurd (none-some a e)
after_channel_is (Some n) (b ∷ bs) a e = by (b == space) e
  where
    by : (t : Bool) → (if t then on_channel (Some n) (result_in bs) else None) ≡ Some a → is_some a.0 ≡ true
    by true e = ap (λ (o : Option ℕ). is_some o) (on_channel_is (Some n) (result_in bs) a e)
    by false e = absurd (none-some a e)

line_in_names : (with_channel : Bool) (bytes : List ℕ) (a : Answer) → reply_line_in with_channel bytes ≡ Some a
    → is_some a.0 ≡ with_channel
unfolding reply_line_in
line_in_names false bytes a e = ap (λ (o : Option ℕ). is_some o) (on_channel_is None (result_in bytes) a e)
line_in_names true bytes a e = after_channel_is (number_of channel_limit (take_while is_word_byte bytes))
    (drop (prefix_len is_word_byte bytes) bytes) a e

-- the channel of a line in the grammar is named where the class has channels, and else it is not
pub reply_names : (with_channel : Bool) (bytes : List ℕ) (a : Answer) → reply_of with_channel bytes ≡ Some a
    → is_some a.0 ≡ with_channel
unfolding reply_of
reply_names with_channel bytes a e = by (nat_le (length bytes) reply_limit) e
  where
    by : (t : Bool) → (if t then reply_line_in with_channel (without_last_cr bytes) else None) ≡ Some a
        → is_some a.0 ≡ with_channel
    by true e = line_in_names with_channel (without_last_cr bytes) a e
    by false e = absurd (none-some a e)

-- a line in the grammar that is a reply to question q: its channel and its reply, and that the channel holds q
pub record RepliesTo (p : Channels) (bytes : List ℕ) (q : ℕ) (reply : Reply) : Type 0 where
  pub answer : Answer
  pub answer_is : reply_of p.numbered bytes ≡ Some answer
  pub reply_is : answer.1 ≡ reply
  pub holds : slot_of p.slots answer.0 ≡ Some q

-- which of its kinds a line is, as a number: 0 for a reply
kind : LineIs → ℕ
kind (ReplyTo q reply) = 0
kind Outside = 1
kind OnFree = 2

number_in : ℕ → LineIs → ℕ
number_in d (ReplyTo q reply) = q
number_in d Outside = d
number_in d OnFree = d

reply_in : Reply → LineIs → Reply
reply_in d (ReplyTo q reply) = reply
reply_in d Outside = d
reply_in d OnFree = d

-- what a line has that is a reply
pub replies_to : (p : Channels) (bytes : List ℕ) (q : ℕ) (reply : Reply) → line_is p bytes ≡ ReplyTo q reply
    → RepliesTo p bytes q reply
unfolding line_is kind number_in reply_in
replies_to p bytes q reply e = by (reply_of p.numbered bytes) refl e
  where
    on : (a : Answer) → reply_of p.numbered bytes ≡ Some a → (o : Option ℕ) → slot_of p.slots a.0 ≡ o
        → line_at o a.1 ≡ ReplyTo q reply → RepliesTo p bytes q reply
    on a is None slot e = absurd (let no : 2 ≡ 0 = ap kind e in omega arith)
    on a is (Some r) slot e = record {
      answer = a;
      answer_is = is;
      reply_is = ap (reply_in reply) e;
      holds = slot ∙ ap (λ (n : ℕ). Some n) (ap (number_in q) e);
    }

    by : (o : Option Answer) → reply_of p.numbered bytes ≡ o → line_by p o ≡ ReplyTo q reply → RepliesTo p bytes q reply
    by None is e = absurd (let no : 1 ≡ 0 = ap kind e in omega arith)
    by (Some a) is e = on a is (slot_of p.slots a.0) refl e

-- the line stands on the channel that holds question q, and on no other
pub record StandsOnlyOn (concurrency : ℕ) (h : History) (k : ℕ) (bytes : List ℕ) (q : ℕ) : Type 0 where
  pub stands_is : (n : ℕ) → n < max 1 concurrency
      → stands_on (reply_of (nat_lt 0 concurrency) bytes) (channel_name (nat_lt 0 concurrency) n)
      ≡ is_number q (holder (nat_lt 0 concurrency) h k (channel_name (nat_lt 0 concurrency) n))

-- the place of the channel that a line names
pub place_of_name : Option ℕ → ℕ
place_of_name None = 0
place_of_name (Some n) = n

named_slot : (slots : List (Option ℕ)) (channel : Option ℕ)
    → slot_of slots channel ≡ slot_at slots (place_of_name channel)
unfolding place_of_name
named_slot slots None = refl
named_slot slots (Some n) = refl

named_same : (with_channel : Bool) (channel : Option ℕ) (n : ℕ) → is_some channel ≡ with_channel
    → (with_channel ≡ false → n ≡ 0) → same_channel channel (channel_name with_channel n) ≡ (place_of_name channel == n)
unfolding place_of_name
named_same true (Some c) n e none = refl
named_same true None n e none = absurd (cc)
named_same false None n e none = sym (ap (λ (k : ℕ). 0 == k) (none refl) ∙ itself 0)
named_same false (Some c) n e none = absurd (cc)

-- a channel of the process that holds question q, and that the line names
pub record HoldsAt (concurrency : ℕ) (h : History) (k q place : ℕ) : Type 0 where
  pub within : place < max 1 concurrency
  pub holds : holder (nat_lt 0 concurrency) h k (channel_name (nat_lt 0 concurrency) place) ≡ Some q

-- a line that is a reply names such a channel
pub reply_holds : (concurrency : ℕ) (h : History) (k : ℕ) (bytes : List ℕ) (q : ℕ) (reply : Reply)
    → (r : RepliesTo (channels_of concurrency h k) bytes q reply)
    → HoldsAt concurrency h k q (place_of_name r.answer.0)
reply_holds concurrency h k bytes q reply r =
    there (nat_lt place (max 1 concurrency)) refl
    (sym (slot_is concurrency h k place) ∙ sym (named_slot (channels_of concurrency h k).slots r.answer.0) ∙ r.holds)
  where
    place : ℕ
    place = place_of_name r.answer.0

    there : (b : Bool) → nat_lt place (max 1 concurrency) ≡ b
        → (if b then holder (nat_lt 0 concurrency) h k (channel_name (nat_lt 0 concurrency) place) else None) ≡ Some q
        → HoldsAt concurrency h k q place
    there true t e = record { within = lower place (max 1 concurrency) t; holds = e }
      where
        lower : (a b : ℕ) → nat_lt a b ≡ true → a < b
        lower a b t = grind (arith, nat_tests)
    there false t e = absurd (none-some q e)

-- a reply stands on the channel of its question alone
pub stands_only : (concurrency : ℕ) (h : History) (k : ℕ) (bytes : List ℕ) (q : ℕ) (reply : Reply)
    → line_is (channels_of concurrency h k) bytes ≡ ReplyTo q reply
    → HoldsOnce concurrency h k q → StandsOnlyOn concurrency h k bytes q
stands_only concurrency h k bytes q reply line once =
    record {
      stands_is = λ n l. ap (λ (o : Option Answer). stands_on o (channel_name (nat_lt 0 concurrency) n)) r.answer_is
          ∙ named_same (nat_lt 0 concurrency) r.answer.0 n
          (reply_names (nat_lt 0 concurrency) bytes r.answer r.answer_is) (alone n l)
          ∙ by n l (hold n) refl (place == n) refl;
    }
  where
    r : RepliesTo (channels_of concurrency h k) bytes q reply
    r = replies_to (channels_of concurrency h k) bytes q reply line

    place : ℕ
    place = place_of_name r.answer.0

    hold : ℕ → Option ℕ
    hold n = holder (nat_lt 0 concurrency) h k (channel_name (nat_lt 0 concurrency) n)

    alone : (n : ℕ) → n < max 1 concurrency → nat_lt 0 concurrency ≡ false → n ≡ 0
    alone n l none = grind (arith, nat_tests)

    found : HoldsAt concurrency h k q place
    found = reply_holds concurrency h k bytes q reply r

    by : (n : ℕ) → n < max 1 concurrency → (o : Option ℕ) → hold n ≡ o → (b : Bool) → (place == n) ≡ b
        → b ≡ is_number q (hold n)
    by n l o is true same =
        sym (ap (is_number q) (ap hold (sym (equal place n same)) ∙ found.holds) ∙ itself q)
    by n l None is false other = sym (ap (is_number q) is)
    by n l (Some p) is false other = not_q (q == p) refl ∙ sym (ap (is_number q) is)
      where
        apart : (a b : ℕ) → (a == b) ≡ false → a ≡ b → ⊥
        apart a b e f = grind (arith, nat_tests)

        not_q : (b : Bool) → (q == p) ≡ b → false ≡ (q == p)
        not_q true same = absurd
            (apart place n other (once place n found.within l found.holds
            (is ∙ ap (λ (j : ℕ). Some j) (sym (equal q p same)))))
        not_q false same = sym same
