-- Classes part by part, and small facts of their parts.
use Rattle.std.proofs.Common.{◌≡◌, ℕ, zero, suc, ◌<◌, ◌≤◌, List, [], ◌∷◌, ◌++◌, map, replicate, Bool, true, false, not, ◌&&◌, ◌||◌, ◌==◌, bytes_eq, if◌then◌else◌, Option, Some, None, refl, sym, ap, ap₂, subst, ◌∙◌, arith, add-one}
use Rattle.std.specs.List.{list_any}
use Rattle.std.specs.Option.{option_map_or}
use Rattle.std.proofs.lemmas.Bool.{lt-ltb}
use Rattle.std.proofs.lemmas.Bool.Decides.{nat_tests}
use Rattle.std.proofs.lemmas.List.{map-append, replicate_more}
use Rattle.std.proofs.lemmas.List.Folds.{list_any-append}
use Rattle.std.proofs.lemmas.Slice.Eq.{bytes_eq-Decides}
use Rattle.sq_base.proofs.CommonLaws.{bytes_turned, eq_turned}
use Rattle.sq_rules.specs.Classes.{Class}
use Rattle.sq_rules.specs.Configurations.{Configuration}
use Rattle.sq_machine.specs.Entries.{History}
use Rattle.sq_machine.specs.Epochs.{class_at, name_of_class}
use Rattle.sq_machine.specs.FarmReadings.{is_put_for, living_of}
use Rattle.sq_machine.specs.Living.{Living, is_none_living, living_number, with_proc}
use Rattle.sq_machine.specs.Marks.{Put}
use Rattle.sq_machine.specs.Numbered.{below, picks, rows}
use Rattle.sq_machine.specs.Rising.{AreBelow}
use Rattle.sq_model.specs.ClassRows.{ClassRow}

-- two rows of a class are one, part by part
pub same_row : (a b : ClassRow) → a.kept ≡ b.kept → a.lookups ≡ b.lookups → a.stock ≡ b.stock → a ≡ b
same_row a b k l s = λ i. record { kept = k i; lookups = l i; stock = s i }

-- a number is itself
pub itself : (n : ℕ) → (n == n) ≡ true
itself n = grind (arith, nat_tests)

-- a text is itself
pub bytes_itself : (w : List ℕ) → bytes_eq w w ≡ true
bytes_itself w = (bytes_eq-Decides w w).1 refl

-- texts that pass the test are one
pub bytes_same : (v w : List ℕ) → bytes_eq v w ≡ true → v ≡ w
bytes_same v w e = (bytes_eq-Decides v w).0 e

-- a number that was given is not the next
pub not_next : (k n : ℕ) → k ≤ n → (k == suc n) ≡ false
not_next k n high = grind (arith, nat_tests)

-- numbers that pass the test are one
pub equal : (a b : ℕ) → (a == b) ≡ true → a ≡ b
equal a b e = grind (arith, nat_tests)

-- what is and is true is what it is
pub and_true : (b : Bool) → (b && true) ≡ b
and_true true = refl
and_true false = refl

-- slots of which none has a question
pub none_slots : (f : ℕ → Option ℕ) (n : ℕ) → ((k : ℕ) → f k ≡ None) → map f (below n) ≡ replicate n None
none_slots f zero e = refl
none_slots f (suc n) e =
    map-append f (below n) (n ∷ [])
    ∙ ap₂ (λ (xs : List (Option ℕ)) (x : Option ℕ). xs ++ x ∷ []) (none_slots f n e) (e n)
    ∙ replicate_more n None ∙ ap (λ (k : ℕ). replicate {A = Option ℕ} k None) (add-one n)

-- one number more below
pub below_push : (k : ℕ) (xs : List ℕ) (n : ℕ) → n < k → AreBelow k xs → AreBelow k (xs ++ n ∷ [])
below_push k [] n l b = (l, tt)
below_push k (x ∷ xs) n l b = (b.0, below_push k xs n l b.1)

below_if : (k : ℕ) (t : Bool) (xs : List ℕ) (n : ℕ) → n < k → AreBelow k xs
    → AreBelow k (if t then xs ++ n ∷ [] else xs)
below_if k true xs n l b = below_push k xs n l b
below_if k false xs n l b = b

-- picked numbers are below each number above the last
pub below_picks : (k : ℕ) (p : ℕ → Bool) (n : ℕ) → n < k → AreBelow k (picks p n)
below_picks k p zero l = tt
below_picks k p (suc n) l = below_if k (p (suc n)) (picks p n) (suc n) l (below_picks k p n (omega arith))

-- the processes of a class, for some numbers, have these numbers
pub numbers_of : (concurrency : ℕ) (h : History) (xs : List ℕ)
    → map living_number (map (living_of concurrency h) xs) ≡ xs
numbers_of concurrency h [] = refl
numbers_of concurrency h (x ∷ xs) = ap (λ (ys : List ℕ). x ∷ ys) (numbers_of concurrency h xs)

last_proc : (p : Living) (rs : List Living) → AreBelow p.number (map living_number rs) → with_proc p rs ≡ rs ++ p ∷ []
last_proc p [] b = refl
last_proc p (r ∷ rs) b =
    ap₂ (λ (t : Bool) (xs : List Living). if t then r ∷ xs else p ∷ r ∷ rs) (lt-ltb r.number p.number b.0)
    (last_proc p rs b.1)

-- a process that is started stands last
pub with_last : (concurrency : ℕ) (h : History) (test : ℕ → Bool) (n : ℕ) (p : Living) → n < p.number
    → with_proc p (rows (living_of concurrency h) test n) ≡ rows (living_of concurrency h) test n ++ p ∷ []
with_last concurrency h test n p l =
    last_proc p (rows (living_of concurrency h) test n)
    (subst (AreBelow p.number) (sym (numbers_of concurrency h (picks test n))) (below_picks p.number test n l))

some_living : (f : ℕ → Living) (xs : List ℕ) (n : ℕ) → is_none_living (map f (xs ++ n ∷ [])) ≡ false
some_living f [] n = refl
some_living f (x ∷ xs) n = refl

-- whether a process lives, said by the numbers
pub none_living : (f : ℕ → Living) (p : ℕ → Bool) (n : ℕ) → is_none_living (rows f p n) ≡ not (list_any p (picks p n))
none_living f p zero = refl
none_living f p (suc n) = by (p (suc n)) refl (none_living f p n)
  where
    last : (a : Bool) → not (a || (true || false)) ≡ false
    last true = refl
    last false = refl

    by : (b : Bool) → p (suc n) ≡ b → is_none_living (map f (picks p n)) ≡ not (list_any p (picks p n))
        → is_none_living (map f (if b then picks p n ++ suc n ∷ [] else picks p n))
        ≡ not (list_any p (if b then picks p n ++ suc n ∷ [] else picks p n))
    by true e more =
        some_living f (picks p n) (suc n)
        ∙ sym (ap not (list_any-append p (picks p n) (suc n ∷ []))
        ∙ ap (λ (t : Bool). not (list_any p (picks p n) || (t || false))) e ∙ last (list_any p (picks p n)))
    by false e more = more

-- a question that was put for the class at place c of epoch e
pub record IsPutFor (o : Option Put) (e c : ℕ) : Type 0 where
  pub put : Put
  pub is : o ≡ Some put
  pub epoch_is : put.epoch ≡ e
  pub class_is : put.class ≡ c

-- from the test of it
pub put_for : (o : Option Put) (e c : ℕ) → is_put_for e c o ≡ true → IsPutFor o e c
put_for None e c t = absurd (cc)
put_for (Some p) e c t = by (p.epoch == e) (p.class == c) refl refl t
  where
    by : (a b : Bool) → (p.epoch == e) ≡ a → (p.class == c) ≡ b → (a && b) ≡ true → IsPutFor (Some p) e c
    by true true x y t = record { put = p; is = refl; epoch_is = equal p.epoch e x; class_is = equal p.class c y }
    by true false x y t = absurd (cc)
    by false b x y t = absurd (cc)

-- a question that was put for a class, by the class's name
pub put_named : (configs : List Configuration) (o : Option Put) (e c : ℕ) (class : Class) (f : ℕ) (name : List ℕ)
    → is_put_for e c o ≡ true → class_at configs e c ≡ Some class
    → option_map_or (λ p. (p.epoch == f) && bytes_eq (name_of_class configs f p.class) name) o false
    ≡ ((f == e) && bytes_eq name class.name)
put_named configs o e c class f name t is =
    let p = put_for o e c t in
    ap (λ (x : Option Put). option_map_or (λ p. (p.epoch == f) && bytes_eq (name_of_class configs f p.class) name) x
    false) p.is
    ∙ ap₂ (λ (x y : ℕ). (x == f) && bytes_eq (name_of_class configs f y) name) p.epoch_is p.class_is
    ∙ ap (λ (b : Bool). b && bytes_eq (name_of_class configs f c) name) (eq_turned e f)
    ∙ by (f == e) refl
  where
    by : (b : Bool) → (f == e) ≡ b → (b && bytes_eq (name_of_class configs f c) name) ≡ (b && bytes_eq name class.name)
    by true same =
        ap (λ (x : ℕ). bytes_eq (name_of_class configs x c) name) (equal f e same)
        ∙ ap (λ (o : Option Class). bytes_eq (option_map_or (λ k. k.name) o []) name) is ∙ bytes_turned class.name name
    by false same = refl
