-- An answer of a new class and key leaves the answers distinct.
use Rattle.std.proofs.Common.{◌≡◌, ℕ, List, [], ◌∷◌, ◌++◌, Bool, true, false, not, ◌&&◌, ◌||◌, ◌==◌, refl, ap, ◌∙◌, OnOk, OnErr, Result, Ok, Err}
use Rattle.std.specs.Str.{bytes_eq}
use Rattle.sq_base.proofs.CommonLaws.{bytes_turned, eq_turned}
use Rattle.sq_base.specs.declared.helpers.Answer.{Answer}
use Rattle.sq_base.specs.Distinct.{has_answer, are_distinct}

or_none : (b : Bool) → (b || false) ≡ b
or_none true = refl
or_none false = refl

or_grouped : (a b c : Bool) → (a || (b || c)) ≡ ((a || b) || c)
or_grouped true b c = refl
or_grouped false b c = refl

-- the same answer is looked for in a longer list
has_answer_push : (answers : List Answer) (a : Answer) (class : ℕ) (key : List ℕ)
    → has_answer (answers ++ a ∷ []) class key
    ≡ (has_answer answers class key || (a.class == class && bytes_eq a.key key))
has_answer_push [] a class key = or_none (a.class == class && bytes_eq a.key key)
has_answer_push (b ∷ answers) a class key =
    ap (λ t. (b.class == class && bytes_eq b.key key) || t) (has_answer_push answers a class key)
    ∙ or_grouped (b.class == class && bytes_eq b.key key) (has_answer answers class key)
    (a.class == class && bytes_eq a.key key)

both_of : (x d y z e : Bool) → (not x && d) ≡ true → (y || z) ≡ false → (d ≡ true → z ≡ false → e ≡ true)
    → (not (x || y) && e) ≡ true
both_of true d y z e p q k = cc
both_of false d true z e p q k = cc
both_of false d false z e p q k = k p q

-- an answer that is not among distinct ones may stand behind them
distinct_push : (answers : List Answer) (a : Answer) → are_distinct answers ≡ true
    → has_answer answers a.class a.key ≡ false → are_distinct (answers ++ a ∷ []) ≡ true
distinct_push [] a d h = refl
distinct_push (b ∷ answers) a d h =
    rw (has_answer_push answers a b.class b.key, eq_turned a.class b.class, bytes_turned a.key b.key)
    (both_of (has_answer answers b.class b.key) (are_distinct answers) (b.class == a.class && bytes_eq b.key a.key)
    (has_answer answers a.class a.key)
    (are_distinct (answers ++ a ∷ [])) d h (distinct_push answers a))

-- what a push that may fail leaves is distinct
pub distinct_after : {E : Type 0} (result : Result (Unit {0}) E) (old new : List Answer) (a : Answer)
    → OnOk result (new ≡ old ++ a ∷ []) → OnErr result (new ≡ old)
    → are_distinct old ≡ true → has_answer old a.class a.key ≡ false → are_distinct new ≡ true
distinct_after (Ok done) old new a ok err d h = rw ok (distinct_push old a d h)
distinct_after (Err e) old new a ok err d h = rw err d
