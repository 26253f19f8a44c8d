-- Laws of the channels of a process as it keeps them: those that are free, and the one of each question.
use Rattle.std.proofs.Common.{◌≡◌, ℕ, zero, suc, ◌+◌, ◌≤◌, ◌<◌, List, [], ◌∷◌, ◌++◌, length, set, drop, get_or, replicate, Bool, true, false, ◌==◌, if◌then◌else◌, nat_lt, Some, None, is_some, refl, arith, ap, ◌∙◌, sym, subst}
use Rattle.std.specs.declared.option.Option.{Option}
use Rattle.std.specs.Option.{option_map}
use Rattle.std.specs.List.{insert}
use Rattle.std.proofs.lemmas.Bool.{lt-ltb}
use Rattle.sq_machine.specs.Channels.{asked, free_count, is_open, least_free, settled, slot_at, times_open}
use Rattle.sq_machine.specs.Rising.{AreAbove, Rises, place_among, times_of}
use Rattle.sq_channel.specs.Indexes.{channel_with, free_channels}
use Rattle.sq_channel.proofs.RisingLaws.{if_false, if_true, insert_front, place_above}
use Rattle.sq_channel.proofs.SlotLaws.{settled_none}

-- as many as there are
pub free_count_law : (n : ℕ) (slots : List (Option ℕ)) → length (free_channels n slots) ≡ free_count slots
free_count_law n [] = refl
free_count_law n (None ∷ slots) = ap suc (free_count_law (suc n) slots)
free_count_law n (Some q ∷ slots) = free_count_law (suc n) slots

-- the least is the first, and a question takes it
pub free_first : (q n : ℕ) (slots : List (Option ℕ)) → 0 < free_count slots
    → free_channels n slots ≡ (n + least_free slots) ∷ free_channels n (asked q slots)
free_first q n [] f = absurd (omega arith)
free_first q n (None ∷ slots) f = ap (λ k. k ∷ free_channels (suc n) slots) (omega arith)
free_first q n (Some p ∷ slots) f = free_first q (suc n) slots f
    ∙ ap (λ k. k ∷ free_channels (suc n) (asked q slots)) (omega arith)

pub above_free : (k n : ℕ) (slots : List (Option ℕ)) → k < n → AreAbove k (free_channels n slots)
above_free k n [] l = tt
above_free k n (None ∷ slots) l = (l, above_free k (suc n) slots (omega arith))
above_free k n (Some q ∷ slots) l = above_free k (suc n) slots (omega arith)

none_above : (k : ℕ) (ns : List ℕ) → AreAbove k ns → times_of k ns ≡ 0
none_above k [] a = refl
none_above k (n ∷ ns) a = if_false (k == n) (suc (times_of k ns)) (times_of k ns) (apart k n a.0) ∙ none_above k ns a.1
  where
    apart : (a b : ℕ) → a < b → (a == b) ≡ false
    apart a b l = grind (arith, l)

-- a channel with a question is not among them
pub not_free : (n i : ℕ) (slots : List (Option ℕ)) (q c : ℕ) → c ≡ n + i → slot_at slots i ≡ Some q
    → times_of c (free_channels n slots) ≡ 0
not_free n i [] q c at e = refl
not_free n zero (None ∷ slots) q c at e = cc
not_free n zero (Some p ∷ slots) q c at e = none_above c (free_channels (suc n) slots)
    (above_free c (suc n) slots (omega arith))
not_free n (suc i) (None ∷ slots) q c at e = if_false (c == n) (suc (times_of c (free_channels (suc n) slots)))
    (times_of c (free_channels (suc n) slots)) (apart c n (omega arith)) ∙ not_free (suc n) i slots q c (omega arith) e
  where
    apart : (a b : ℕ) → b < a → (a == b) ≡ false
    apart a b l = grind (arith, l)
not_free n (suc i) (Some p ∷ slots) q c at e = not_free (suc n) i slots q c (omega arith) e

-- a channel that becomes free goes to its place
pub free_given : (n i : ℕ) (slots : List (Option ℕ)) (q c : ℕ) → c ≡ n + i → slot_at slots i ≡ Some q
    → free_channels n (set slots i None) ≡ insert (free_channels n slots) (place_among c (free_channels n slots)) c
free_given n i [] q c at e = cc
free_given n zero (None ∷ slots) q c at e = cc
free_given n zero (Some p ∷ slots) q c at e =
    let rest = free_channels (suc n) slots in
    let same : n ≡ c = omega arith in
    ap (λ k. k ∷ rest) same ∙ sym (insert_front rest c)
    ∙ sym (ap (λ j. insert rest j c) (place_above c rest (above_free c (suc n) slots (omega arith))))
free_given n (suc i) (None ∷ slots) q c at e =
    let rest = free_channels (suc n) slots in
    ap (λ z. n ∷ z) (free_given (suc n) i slots q c (omega arith) e)
    ∙ sym (ap (λ j. insert (n ∷ rest) j c)
    (if_true (nat_lt n c) (suc (place_among c rest)) 0 (lt-ltb n c (omega arith))))
free_given n (suc i) (Some p ∷ slots) q c at e = free_given (suc n) i slots q c (omega arith) e

-- what is known of the channel of an open question
pub record OnChannel (q : ℕ) (slots : List (Option ℕ)) (n : ℕ) : Type 0 where
  pub within : n < length slots
  pub slot : slot_at slots n ≡ Some q
  pub cleared : times_open q slots ≤ 1 → set slots n None ≡ settled q slots

abbrev pub IsOn : ℕ → List (Option ℕ) → Option ℕ → Type 0
IsOn q slots None = Unit {0}
IsOn q slots (Some n) = OnChannel q slots n

equal : (a b : ℕ) → (a == b) ≡ true → a ≡ b
equal a b e = grind (arith, e)

pub on_channel_law : (q : ℕ) (slots : List (Option ℕ)) → IsOn q slots (channel_with q slots)
on_channel_law q [] = tt
on_channel_law q (None ∷ slots) = behind (channel_with q slots) (on_channel_law q slots)
  where
    behind : (o : Option ℕ) → IsOn q slots o → IsOn q (None ∷ slots) (option_map suc o)
    behind None is = tt
    behind (Some n) is = record {
      within = omega (arith, is.within);
      slot = is.slot;
      cleared = λ once. ap (λ z. None ∷ z) (is.cleared once);
    }
on_channel_law q (Some p ∷ slots) = by_test (q == p) (on_channel_law q slots) refl
  where
    here : (q == p) ≡ true → OnChannel q (Some p ∷ slots) 0
    here e = record {
      within = omega arith;
      slot = ap Some (sym (equal q p e));
      cleared = subst (λ b. (if b then suc (times_open q slots) else times_open q slots) ≤ 1
          → None ∷ slots ≡ (if b then None else Some p) ∷ settled q slots) (sym e)
          (λ once. ap (λ z. None ∷ z) (sym (settled_none q slots (omega arith))));
    }

    behind : (q == p) ≡ false → (o : Option ℕ) → IsOn q slots o → IsOn q (Some p ∷ slots) (option_map suc o)
    behind e None is = tt
    behind e (Some n) is = record {
      within = omega (arith, is.within);
      slot = is.slot;
      cleared = subst (λ b. (if b then suc (times_open q slots) else times_open q slots) ≤ 1
          → Some p ∷ set slots n None ≡ (if b then None else Some p) ∷ settled q slots) (sym e)
          (λ once. ap (λ z. Some p ∷ z) (is.cleared once));
    }

    by_test : (b : Bool) → IsOn q slots (channel_with q slots) → (q == p) ≡ b
        → IsOn q (Some p ∷ slots) (if b then Some 0 else option_map suc (channel_with q slots))
    by_test true is e = here e
    by_test false is e = behind e (channel_with q slots) is

-- an open question has a channel
pub channel_open : (q : ℕ) (slots : List (Option ℕ)) → is_some (channel_with q slots) ≡ is_open q slots
channel_open q [] = refl
channel_open q (None ∷ slots) = some_mapped (channel_with q slots) ∙ channel_open q slots
  where
    some_mapped : (o : Option ℕ) → is_some (option_map suc o) ≡ is_some o
    some_mapped None = refl
    some_mapped (Some n) = refl
channel_open q (Some p ∷ slots) = by_test (q == p) (channel_with q slots) (channel_open q slots)
  where
    by_test : (b : Bool) (o : Option ℕ) → is_some o ≡ is_open q slots
        → is_some (if b then Some 0 else option_map suc o) ≡ (if b then true else is_open q slots)
    by_test true o e = refl
    by_test false None e = e
    by_test false (Some n) e = e

not_open : (q k : ℕ) (slots : List (Option ℕ)) → is_open q (Some k ∷ slots) ≡ false
    → ((q == k) ≡ false) × (is_open q slots ≡ false)
not_open q k slots e = by_test (q == k) e
  where
    by_test : (b : Bool) → (if b then true else is_open q slots) ≡ false → (b ≡ false) × (is_open q slots ≡ false)
    by_test true e = cc
    by_test false e = (refl, e)

-- a question more
pub channel_asked : (p q : ℕ) (slots : List (Option ℕ)) → 0 < free_count slots → is_open q slots ≡ false
    → channel_with p (asked q slots) ≡ (if p == q then Some (least_free slots) else channel_with p slots)
channel_asked p q [] f other = absurd (omega arith)
channel_asked p q (None ∷ slots) f other = refl
channel_asked p q (Some k ∷ slots) f other =
    let apart = not_open q k slots other in
    step (p == k) (p == q) (channel_with p (asked q slots)) (channel_with p slots) (λ a b. both apart.0 a b)
    (channel_asked p q slots f apart.1)
  where
    both : (q == k) ≡ false → (p == k) ≡ true → (p == q) ≡ true → ⊥
    both e a b = grind (arith, e, a, b)

    step : (b d : Bool) (new old : Option ℕ) → (b ≡ true → d ≡ true → ⊥)
        → new ≡ (if d then Some (least_free slots) else old)
        → (if b then Some 0 else option_map suc new)
        ≡ (if d then Some (suc (least_free slots)) else (if b then Some 0 else option_map suc old))
    step true true new old n e = absurd (n refl refl)
    step true false new old n e = refl
    step false true new old n e = ap (option_map suc) e
    step false false new old n e = ap (option_map suc) e

-- a question less
pub channel_settled : (p q : ℕ) (slots : List (Option ℕ))
    → channel_with p (settled q slots) ≡ (if p == q then None else channel_with p slots)
channel_settled p q [] = by_test (p == q) None refl
  where
    by_test : (b : Bool) (o : Option ℕ) → o ≡ None → o ≡ (if b then None else o)
    by_test true o e = e
    by_test false o e = refl
channel_settled p q (None ∷ slots) = ap (option_map suc) (channel_settled p q slots) ∙ by_test (p == q)
  where
    by_test : (b : Bool) → option_map suc (if b then None else channel_with p slots)
        ≡ (if b then None else option_map suc (channel_with p slots))
    by_test true = refl
    by_test false = refl
channel_settled p q (Some k ∷ slots) =
    front (q == k) ∙ step (q == k) (p == k) (p == q) (channel_with p (settled q slots)) (channel_with p slots)
    (λ a b d. all a b d) (λ b d a. two b d a) (channel_settled p q slots)
  where
    all : (q == k) ≡ true → (p == k) ≡ true → (p == q) ≡ false → ⊥
    all a b d = grind (arith, a, b, d)

    two : (p == k) ≡ true → (p == q) ≡ true → (q == k) ≡ false → ⊥
    two b d a = grind (arith, a, b, d)

    front : (c : Bool) → channel_with p ((if c then None else Some k) ∷ settled q slots)
        ≡ (if c then option_map suc (channel_with p (settled q slots))
        else (if p == k then Some 0 else option_map suc (channel_with p (settled q slots))))
    front true = refl
    front false = refl

    step : (c b d : Bool) (new old : Option ℕ) → (c ≡ true → b ≡ true → d ≡ false → ⊥)
        → (b ≡ true → d ≡ true → c ≡ false → ⊥) → new ≡ (if d then None else old)
        → (if c then option_map suc new else (if b then Some 0 else option_map suc new))
        ≡ (if d then None else (if b then Some 0 else option_map suc old))
    step true b true new old m n e = ap (option_map suc) e
    step true true false new old m n e = absurd (m refl refl refl)
    step true false false new old m n e = ap (option_map suc) e
    step false true true new old m n e = absurd (n refl refl refl)
    step false false true new old m n e = ap (option_map suc) e
    step false true false new old m n e = refl
    step false false false new old m n e = ap (option_map suc) e

-- no question has a channel where none is open
pub channel_new : (q n : ℕ) → channel_with q (replicate n None) ≡ None
channel_new q zero = refl
channel_new q (suc n) = ap (option_map suc) (channel_new q n)

pub free_new : (n k : ℕ) → free_channels n (replicate k None) ++ (n + k) ∷ [] ≡ free_channels n (replicate (suc k) None)
free_new n zero = ap (λ m. m ∷ []) (omega arith)
free_new n (suc k) = ap (λ z. n ∷ z)
    (ap (λ m. free_channels (suc n) (replicate k None) ++ m ∷ []) (omega arith) ∙ free_new (suc n) k)

pub rises_free : (n : ℕ) (slots : List (Option ℕ)) → Rises (free_channels n slots)
rises_free n [] = tt
rises_free n (None ∷ slots) = (above_free n (suc n) slots (omega arith), rises_free (suc n) slots)
rises_free n (Some q ∷ slots) = rises_free (suc n) slots

pub from_zero : (n : ℕ) → 0 + n ≡ n
from_zero n = omega arith

-- the first of them
pub first-is : (slots : List (Option ℕ)) (ns : List ℕ) (r : ℕ) → 0 < free_count slots → ns ≡ free_channels 0 slots
    → r ≡ get_or ns 0 r → r ≡ least_free slots
first-is slots ns r f are is = is ∙ ap (λ z. get_or z 0 r) (are ∙ free_first 0 0 slots f) ∙ from_zero (least_free slots)

pub taken : (q : ℕ) (slots : List (Option ℕ)) (ns new : List ℕ) (r : ℕ) → 0 < free_count slots
    → ns ≡ free_channels 0 slots → ns ≡ r ∷ new
    → (r ≡ least_free slots) × (new ≡ free_channels 0 (asked q slots))
taken q slots ns new r f are cut =
    let both : r ∷ new ≡ (0 + least_free slots) ∷ free_channels 0 (asked q slots) = sym cut ∙ are
    ∙ free_first q 0 slots f in
    (ap (λ z. get_or z 0 0) both ∙ from_zero (least_free slots), ap (λ z. drop 1 z) both)

pub none-of : (o : Option ℕ) → is_some o ≡ false → o ≡ None
none-of None e = refl
none-of (Some n) e = cc
