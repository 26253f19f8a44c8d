-- Laws of lost questions.
use Rattle.std.proofs.Common.{◌≡◌, ℕ, suc, ◌≤◌, ◌<◌, List, [], ◌∷◌, map, length, Bool, true, false, if◌then◌else◌, nat_lt, ◌==◌, refl, arith, ap, ◌∙◌, ⊎_elim}
use Rattle.std.proofs.lemmas.Bool.{cases_Bool, ltb-true, ltb-false}
use Rattle.std.specs.List.{insert}
use Rattle.sq_base.specs.declared.helpers.Cause.{Cause}
use Rattle.sq_channel.proofs.RisingLaws.{above_more, if_false, if_true}
use Rattle.sq_machine.specs.Losses.{Loss, lose, loss_number, times_lost}
use Rattle.sq_machine.specs.Rising.{AreAbove, Rises, place_among}

-- what is put to the place that was found is put to its place
pub insert_lose : (q : ℕ) (c : Cause) (ls : List Loss)
    → insert ls (place_among q (map loss_number ls)) (record { question = q; cause = c }) ≡ lose q c ls
insert_lose q c [] = refl
insert_lose q c (l ∷ ls) = by_test (nat_lt l.question q) (insert_lose q c ls)
  where
    by_test : (b : Bool) → insert ls (place_among q (map loss_number ls)) (record { question = q; cause = c })
        ≡ lose q c ls
        → insert (l ∷ ls) (if b then suc (place_among q (map loss_number ls)) else 0)
        (record { question = q; cause = c })
        ≡ (if b then l ∷ lose q c ls else record { question = q; cause = c } ∷ l ∷ ls)
    by_test true e = ap (λ z. l ∷ z) e
    by_test false e = refl

pub above_lose : (k q : ℕ) (c : Cause) (ls : List Loss) → k < q → AreAbove k (map loss_number ls)
    → AreAbove k (map loss_number (lose q c ls))
above_lose k q c [] less a = (less, tt)
above_lose k q c (l ∷ ls) less a = by_test (nat_lt l.question q) (above_lose k q c ls less a.1)
  where
    by_test : (b : Bool) → AreAbove k (map loss_number (lose q c ls))
        → AreAbove k (map loss_number (if b then l ∷ lose q c ls else record { question = q; cause = c } ∷ l ∷ ls))
    by_test true more = (a.0, more)
    by_test false more = (less, a)

pub lost_not : (q : ℕ) (l : Loss) (ls : List Loss) → times_lost q (l ∷ ls) ≡ 0
    → ((q == l.question) ≡ false) × (times_lost q ls ≡ 0)
lost_not q l ls e = by_test (q == l.question) e
  where
    by_test : (b : Bool) → (if b then suc (times_lost q ls) else times_lost q ls) ≡ 0
        → (b ≡ false) × (times_lost q ls ≡ 0)
    by_test true e = absurd (omega arith)
    by_test false e = (refl, e)

pub rises_lose : (q : ℕ) (c : Cause) (ls : List Loss) → times_lost q ls ≡ 0 → Rises (map loss_number ls)
    → Rises (map loss_number (lose q c ls))
rises_lose q c [] e r = (tt, tt)
rises_lose q c (l ∷ ls) e r =
    let n = lost_not q l ls e in
    ⊎_elim (λ y. below y (rises_lose q c ls n.1 r.1)) (λ y. above y n.0) (cases_Bool (nat_lt l.question q))
  where
    below : nat_lt l.question q ≡ true → Rises (map loss_number (lose q c ls))
        → Rises (map loss_number (lose q c (l ∷ ls)))
    below is more = rw (if_true (nat_lt l.question q) (l ∷ lose q c ls) (record { question = q; cause = c } ∷ l ∷ ls)
        is)
        (above_lose l.question q c ls (ltb-true l.question q is) r.0, more)

    above : nat_lt l.question q ≡ false → (q == l.question) ≡ false → Rises (map loss_number (lose q c (l ∷ ls)))
    above other apart = rw (if_false (nat_lt l.question q) (l ∷ lose q c ls)
        (record { question = q; cause = c } ∷ l ∷ ls) other)
        (let less : q < l.question = strictly q l.question (ltb-false l.question q other) apart in
        ((less, above_more q l.question (map loss_number ls) (omega arith) r.0), r))
      where
        strictly : (a b : ℕ) → a ≤ b → (a == b) ≡ false → a < b
        strictly a b le e = grind (arith, e)

pub length_lose : (q : ℕ) (c : Cause) (ls : List Loss) → length (lose q c ls) ≡ suc (length ls)
length_lose q c [] = refl
length_lose q c (l ∷ ls) = by_test (nat_lt l.question q) (length_lose q c ls)
  where
    by_test : (b : Bool) → length (lose q c ls) ≡ suc (length ls)
        → length (if b then l ∷ lose q c ls else record { question = q; cause = c } ∷ l ∷ ls) ≡ suc (suc (length ls))
    by_test true e = ap suc e
    by_test false e = refl

-- a question more
pub times_lose : (k q : ℕ) (c : Cause) (ls : List Loss)
    → times_lost k (lose q c ls) ≡ (if k == q then suc (times_lost k ls) else times_lost k ls)
times_lose k q c [] = refl
times_lose k q c (l ∷ ls) = front (nat_lt l.question q)
    ∙ by_test (nat_lt l.question q) (k == l.question) (k == q) (times_lose k q c ls)
  where
    front : (b : Bool) → times_lost k (if b then l ∷ lose q c ls else record { question = q; cause = c } ∷ l ∷ ls)
        ≡ (if b then (if k == l.question then suc (times_lost k (lose q c ls)) else times_lost k (lose q c ls))
        else (if k == q then suc (times_lost k (l ∷ ls)) else times_lost k (l ∷ ls)))
    front true = refl
    front false = refl

    by_test : (b d e : Bool) → times_lost k (lose q c ls) ≡ (if e then suc (times_lost k ls) else times_lost k ls)
        → (if b then (if d then suc (times_lost k (lose q c ls)) else times_lost k (lose q c ls))
        else (if e then suc (if d then suc (times_lost k ls) else times_lost k ls)
        else (if d then suc (times_lost k ls) else times_lost k ls)))
        ≡ (if e then suc (if d then suc (times_lost k ls) else times_lost k ls)
        else (if d then suc (times_lost k ls) else times_lost k ls))
    by_test false d e h = refl
    by_test true true true h = ap suc h
    by_test true true false h = ap suc h
    by_test true false true h = h
    by_test true false false h = h
