-- What buckets grant together, name by name.
use Rattle.std.proofs.Common.{◌≡◌, ◌∙◌, ◌||◌, ◌≤◌, ◌+◌, ◌<◌, cond, Bool, true, false, ℕ, List, [], ◌∷◌, Option, None, Some, is_some, length, drop, take, get_or, min, refl, ap, sym, arith, suc, zero, add-one, drop-cons}
use Rattle.std.specs.Option.{option_map}
use Rattle.std.proofs.Math.Seq.{take-suc}
use Rattle.sq_machine.specs.BucketLevels.{Filled}
use Rattle.sq_machine.specs.PoolReadings.{BucketSpot, has_spot, is_spot}
use Rattle.sq_buckets.specs.Grants.{are_own, are_there, bucket_at, filled_if, granted_if, grants, least_at, level_in, level_or_none, opened_in}
use Rattle.sq_buckets.proofs.MapLaws.{spot_key}
use Rattle.sq_buckets.proofs.SpotLaws.{both_first, both_second, has_more, own_at, spot_same}

-- for a bucket that is there: the level of it
pub level_there : (t : ℕ) (o : Option Filled) (f : Filled) → o ≡ Some f → level_or_none t o ≡ level_in t f
level_there t o f e = rw e refl

pub unchanged : (t a : ℕ) (o : Option Filled) → o ≡ option_map (granted_if false t a) o
unchanged t a None = refl
unchanged t a (Some f) = refl

-- for the buckets after one of them granted
pub drawn_there : (t a : ℕ) (n s : BucketSpot) (es : List (BucketSpot × Filled)) (f : Filled) → bucket_at es n ≡ Some f
    → cond (is_spot s n) (Some (grants t a f)) (bucket_at es s)
    ≡ option_map (granted_if (is_spot n s) t a) (bucket_at es s)
drawn_there t a n s es f e = (elim (is_spot s n) as
    (λ y. is_spot s n ≡ y → cond (is_spot s n) (Some (grants t a f)) (bucket_at es s)
    ≡ option_map (granted_if (is_spot n s) t a) (bucket_at es s)) [
      | true ↦ λ h. let here : bucket_at es s ≡ Some f = ap (bucket_at es) (spot_same s n h) ∙ e in
          rw (spot_key.turned n s, h, here) refl
      | false ↦ λ h. rw (spot_key.turned n s, h) (unchanged t a (bucket_at es s))
    ]) refl

-- for one bucket more that is read
pub least_more : (t : ℕ) (es : List (BucketSpot × Filled)) (spots : List BucketSpot) (i least level : ℕ)
    (d : BucketSpot) → i < length spots → level ≡ level_or_none t (bucket_at es (get_or spots i d))
    → least_at t es (drop (i + 1) spots) (min least level) ≡ least_at t es (drop i spots) least
least_more t es spots i least level d h e = rw (add-one, drop-cons spots i d h, e) refl

-- for a name among those that have buckets: it has one
pub there_at : (es : List (BucketSpot × Filled)) (spots : List BucketSpot) (i : ℕ) (d : BucketSpot)
    → are_there es spots ≡ true → i < length spots → is_some (bucket_at es (get_or spots i d)) ≡ true
there_at es [] i d all h = absurd (omega arith)
there_at es (s ∷ spots) zero d all h = both_first _ (are_there es spots) all
there_at es (s ∷ spots) (suc i) d all h = there_at es spots i d (both_second (is_some (bucket_at es s)) _ all)
    (omega arith)

-- for the least: it is no more than what it begins with
pub least_below : (t : ℕ) (es : List (BucketSpot × Filled)) (spots : List BucketSpot) (wanted : ℕ)
    → least_at t es spots wanted ≤ wanted
least_below t es [] wanted = omega arith
least_below t es (s ∷ spots) wanted = let more =
    least_below t es spots (min wanted (level_or_none t (bucket_at es s))) in omega arith

-- nor than the level of any of the buckets
pub least_below_level : (t : ℕ) (es : List (BucketSpot × Filled)) (spots : List BucketSpot) (wanted i : ℕ)
    (d : BucketSpot) → i < length spots
    → least_at t es spots wanted ≤ level_or_none t (bucket_at es (get_or spots i d))
least_below_level t es [] wanted i d h = absurd (omega arith)
least_below_level t es (s ∷ spots) wanted zero d h = let more =
    least_below t es spots (min wanted (level_or_none t (bucket_at es s))) in omega arith
least_below_level t es (s ∷ spots) wanted (suc i) d h = least_below_level t es spots
    (min wanted (level_or_none t (bucket_at es s))) i d (omega arith)

-- the buckets so far have granted
abbrev pub HaveGranted : ℕ → ℕ → List BucketSpot → List (BucketSpot × Filled) → List (BucketSpot × Filled) → Type 0
HaveGranted t a spots es now = (s : BucketSpot)
    → bucket_at now s ≡ option_map (granted_if (has_spot spots s) t a) (bucket_at es s)

-- for the buckets before any granted
pub granted_none : (t a : ℕ) (es : List (BucketSpot × Filled)) → HaveGranted t a [] es es
granted_none t a es = λ s. unchanged t a (bucket_at es s)

-- for a bucket that is yet to grant: it is as before
pub yet_to_grant : (t a : ℕ) (spots : List BucketSpot) (i : ℕ) (d : BucketSpot) (es now : List (BucketSpot × Filled))
    → are_own spots ≡ true → i < length spots
    → HaveGranted t a (take i spots) es now → bucket_at now (get_or spots i d) ≡ bucket_at es (get_or spots i d)
yet_to_grant t a spots i d es now own h so =
    so (get_or spots i d) ∙ ap (λ b. option_map (granted_if b t a) (bucket_at es (get_or spots i d)))
    (own_at d spots i own h)
    ∙ sym (unchanged t a (bucket_at es (get_or spots i d)))

twice : (t a : ℕ) (b c : Bool) (o : Option Filled) → (b ≡ true → c ≡ false)
    → option_map (granted_if c t a) (option_map (granted_if b t a) o) ≡ option_map (granted_if (b || c) t a) o
twice t a b c None apart = refl
twice t a true true (Some f) apart = absurd (let no : true ≡ false = apart refl in cc)
twice t a true false (Some f) apart = refl
twice t a false c (Some f) apart = refl

-- for one bucket more that granted
pub granted_more : (t a : ℕ) (spots : List BucketSpot) (i : ℕ) (d : BucketSpot)
    (es now new : List (BucketSpot × Filled)) → are_own spots ≡ true → i < length spots
    → HaveGranted t a (take i spots) es now
    → ((s : BucketSpot) → bucket_at new s
    ≡ option_map (granted_if (is_spot (get_or spots i d) s) t a) (bucket_at now s))
    → HaveGranted t a (take (i + 1) spots) es new
granted_more t a spots i d es now new own h so step = λ s.
    let n = get_or spots i d in
    let apart : has_spot (take i spots) s ≡ true → is_spot n s ≡ false = λ e. other s e (is_spot n s) refl in
    rw (add-one, take-suc spots i d h, has_more s n (take i spots))
    (step s ∙ ap (option_map (granted_if (is_spot n s) t a)) (so s)
    ∙ twice t a (has_spot (take i spots) s) (is_spot n s) (bucket_at es s) apart) where
      other : (s : BucketSpot) → has_spot (take i spots) s ≡ true → (b : Bool) → is_spot (get_or spots i d) s ≡ b
          → is_spot (get_or spots i d) s ≡ false
      other s e false same = same
      other s e true same =
          let it : has_spot (take i spots) s ≡ false =
          ap (has_spot (take i spots)) (sym (spot_same (get_or spots i d) s same)) ∙ own_at d spots i own h in
          absurd (cc)

-- for names that are opened one after the other
pub opened_more : (b c : Bool) (new : Filled) (o : Option Filled)
    → filled_if c new (filled_if b new o) ≡ filled_if (b || c) new o
opened_more b c new (Some f) = refl
opened_more true c new None = refl
opened_more false c new None = refl

-- for a bucket that is opened where there is none
pub opened_there : (initial t : ℕ) (n s : BucketSpot) (es : List (BucketSpot × Filled)) → bucket_at es n ≡ None
    → cond (is_spot s n) (Some (opened_in initial t n)) (bucket_at es s)
    ≡ filled_if (is_spot n s) (opened_in initial t s) (bucket_at es s)
opened_there initial t n s es e = (elim (is_spot s n) as
    (λ y. is_spot s n ≡ y → cond (is_spot s n) (Some (opened_in initial t n)) (bucket_at es s)
    ≡ filled_if (is_spot n s) (opened_in initial t s) (bucket_at es s)) [
      | true ↦ λ h. let same : s ≡ n = spot_same s n h in
          let here : bucket_at es s ≡ None = ap (bucket_at es) same ∙ e in
          rw (spot_key.turned n s, h, here) (ap (λ x. Some (opened_in initial t x)) (sym same))
      | false ↦ λ h. rw (spot_key.turned n s, h) (kept (bucket_at es s) (opened_in initial t s))
    ]) refl where
      kept : (o : Option Filled) (new : Filled) → o ≡ filled_if false new o
      kept None new = refl
      kept (Some f) new = refl

-- for a name that has a bucket: to open it changes nothing
pub opened_already : (initial t : ℕ) (n s : BucketSpot) (es : List (BucketSpot × Filled)) (b : Bool)
    → is_some (bucket_at es n) ≡ true
    → filled_if (is_spot n s || b) (opened_in initial t s) (bucket_at es s)
    ≡ filled_if b (opened_in initial t s) (bucket_at es s)
opened_already initial t n s es b e = (elim (is_spot n s) as
    (λ y. is_spot n s ≡ y → filled_if (is_spot n s || b) (opened_in initial t s) (bucket_at es s)
    ≡ filled_if b (opened_in initial t s) (bucket_at es s)) [
      | true ↦ λ h. let there : is_some (bucket_at es s) ≡ true = rw (spot_same n s h) at e in
          rw h (full (bucket_at es s) there)
      | false ↦ λ h. rw h refl
    ]) refl where
      full : (o : Option Filled) → is_some o ≡ true
          → filled_if true (opened_in initial t s) o ≡ filled_if b (opened_in initial t s) o
      full None e = absurd (cc)
      full (Some f) e = refl

-- for the amount of a grant: each bucket that is yet to grant has it
pub amount_fits : (t amount wanted : ℕ) (spots : List BucketSpot) (i : ℕ) (n : BucketSpot)
    (es now : List (BucketSpot × Filled)) → amount ≡ least_at t es spots wanted → are_own spots ≡ true
    → i < length spots → HaveGranted t amount (take i spots) es now → n ≡ get_or spots i n
    → amount ≤ level_or_none t (bucket_at now n)
amount_fits t amount wanted spots i n es now is own h so e =
    let same : bucket_at now n ≡ bucket_at es n = ap (bucket_at now) e ∙ yet_to_grant t amount spots i n es now own h so
    ∙ ap (bucket_at es) (sym e) in
    let fits : amount ≤ level_or_none t (bucket_at es (get_or spots i n)) =
    rw is (least_below_level t es spots wanted i n h) in
    rw (same, e) fits

-- for a bucket that is there: it is not missing
pub not_missing : {A : Type 0} (o : Option A) → o ≡ None → is_some o ≡ true → ⊥
not_missing None e h = absurd (cc)
not_missing (Some a) e h = absurd (cc)
