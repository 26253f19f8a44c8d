-- What is known of a question after one was put, ended, lost or taken.
use Rattle.std.proofs.Common.{◌≡◌, ◌∙◌, ◌==◌, cond, Bool, true, false, ℕ, [], ◌∷◌, Option, None, Some, refl, ap, sym, subst, arith}
use Rattle.std.specs.BTreeMap.{is_at}
use Rattle.std.specs.Map.{remove_entry, keys_of}
use Rattle.std.specs.List.{IsDistinct, AllByRecursion}
use Rattle.std.specs.List.Sorted.{IsStrictlySortedBy}
use Rattle.std.specs.Ordering.{nat_cmp, is_eq, eq_by_cmp}
use Rattle.std.specs.Option.{option_map}
use Rattle.std.specs.declared.cmp.Ordering.TheVariants.{Less, Equal, Greater}
use Rattle.std.proofs.lemmas.Bool.Decides.{nat_tests}
use Rattle.std.proofs.lemmas.Map.Keys.{IsDistinct-from_sorted}
use Rattle.sq_rewrite.specs.States.{Rows, ended_row, row_at, with_row, without_row}
use Rattle.sq_rewrite.specs.declared.rewritings.Rewriting.{Rewriting}
use Rattle.sq_rewrite.specs.declared.rows.QuestionRow.{QuestionRow}
use Rattle.sq_rewrite.specs.declared.rows.QuestionRow.TheVariants as row

-- for a number: it is itself
pub itself : (q : ℕ) → (q == q) ≡ true
itself q = grind arith

-- for two numbers that a test found equal
pub equal : (a b : ℕ) → (a == b) ≡ true → a ≡ b
equal a b e = grind (arith, e)

-- for two numbers of which one is equal to a third and the other is not
pub apart_from : (n q e : ℕ) → (q == e) ≡ false → (n == e) ≡ true → (n == q) ≡ false
apart_from n q e away same = grind (arith, nat_tests, away, same)

-- for tests of numbers: the order's test is the plain one
pub same_number : (a b : ℕ) → is_eq (nat_cmp a b) ≡ (a == b)
same_number a b = grind arith

two_ways : {X : Type 0} (b : Bool) (x y z : X) → cond b x y ≡ cond b x (cond b z y)
two_ways true x y z = refl
two_ways false x y z = refl

past : {X : Type 0} (d f : Bool) (x y z : X) → (d ≡ true → f ≡ false) → cond d x (cond f z y) ≡ cond f z (cond d x y)
past true true x y z h = let g = h refl in absurd cc
past true false x y z h = refl
past false f x y z h = refl

none_either : {X : Type 0} (b : Bool) (x : X) → x ≡ cond b x x
none_either true x = refl
none_either false x = refl

-- for what is known after a question was put
pub row_with : (n q : ℕ) (r : QuestionRow) (es : Rows)
    → row_at n (with_row q r es) ≡ cond (n == q) (Some r) (row_at n es)
row_with n q r [] = rw (same_number n q) refl
row_with n q r (e ∷ es) = (elim (nat_cmp q e.0) as
    (λ y. nat_cmp q e.0 ≡ y → row_at n (with_row q r (e ∷ es)) ≡ cond (n == q) (Some r) (row_at n (e ∷ es))) [
      | Less ↦ λ t. rw (t, same_number n q) refl
      | Equal ↦ λ t. let same : q ≡ e.0 = equal q e.0 (sym (same_number q e.0) ∙ ap is_eq t) in
          rw t (rw (same_number n e.0, same) (two_ways (n == e.0) (Some r) (row_at n es) (Some e.1)))
      | Greater ↦ λ t. let miss : (q == e.0) ≡ false = sym (same_number q e.0) ∙ ap is_eq t in
          rw (t, same_number n e.0) (ap (λ o. cond (n == e.0) (Some e.1) o) (row_with n q r es)
          ∙ past (n == e.0) (n == q) (Some e.1) (row_at n es) (Some r) (apart_from n q e.0 miss))
    ]) refl

-- what is known of a question that was there, once it has ended
abbrev pub now_ended : Rewriting → Option QuestionRow → Option QuestionRow
now_ended w o = option_map (λ _. row.Ended w) o

-- for what is known after a question ended
pub row_ended : (n q : ℕ) (w : Rewriting) (es : Rows)
    → row_at n (ended_row q w es) ≡ cond (n == q) (now_ended w (row_at n es)) (row_at n es)
row_ended n q w [] = none_either (n == q) None
row_ended n q w (e ∷ es) = (elim (q == e.0) as
    (λ y. (q == e.0) ≡ y → row_at n (ended_row q w (e ∷ es))
    ≡ cond (n == q) (now_ended w (row_at n (e ∷ es))) (row_at n (e ∷ es))) [
      | true ↦ λ t. let same : q ≡ e.0 = equal q e.0 t in
          rw (same_number q e.0, t, same_number n e.0, same) (here (n == e.0))
      | false ↦ λ t. rw (same_number q e.0, t, same_number n e.0)
          (ap (λ o. cond (n == e.0) (Some e.1) o) (row_ended n q w es)
          ∙ there (n == e.0) (n == q) (row_at n es) (apart_from n q e.0 t))
    ]) refl
  where
    here : (b : Bool) → cond b (Some (row.Ended w)) (row_at n es)
        ≡ cond b (now_ended w (cond b (Some e.1) (row_at n es))) (cond b (Some e.1) (row_at n es))
    here true = refl
    here false = refl

    there : (d f : Bool) (o : Option QuestionRow) → (d ≡ true → f ≡ false)
        → cond d (Some e.1) (cond f (now_ended w o) o)
        ≡ cond f (now_ended w (cond d (Some e.1) o)) (cond d (Some e.1) o)
    there true true o h = let g = h refl in absurd cc
    there true false o h = refl
    there false f o h = refl

-- for what is known after a question was taken
pub row_without : (n q : ℕ) (es : Rows) → row_at n (without_row q es) ≡ cond (n == q) None (row_at n es)
row_without n q [] = none_either (n == q) None
row_without n q (e ∷ es) = (elim (q == e.0) as
    (λ y. (q == e.0) ≡ y → row_at n (without_row q (e ∷ es)) ≡ cond (n == q) None (row_at n (e ∷ es))) [
      | true ↦ λ t. let same : q ≡ e.0 = equal q e.0 t in
          rw (same_number q e.0, t)
          (row_without n q es ∙ rw (same_number n e.0, same) (two_ways (n == e.0) None (row_at n es) (Some e.1)))
      | false ↦ λ t. rw (same_number q e.0, t)
          (rw (same_number n e.0) (ap (λ o. cond (n == e.0) (Some e.1) o) (row_without n q es)
          ∙ past (n == e.0) (n == q) (Some e.1) (row_at n es) None (apart_from n q e.0 t)))
    ]) refl

none_left : (q : ℕ) (es : Rows) → AllByRecursion (λ k. eq_by_cmp nat_cmp q k ≡ false) (keys_of es)
    → without_row q es ≡ es
none_left q [] h = refl
none_left q (e ∷ es) h = let miss : is_eq (nat_cmp q e.0) ≡ false = h.0 in
    rw miss (ap (λ l. e ∷ l) (none_left q es h.1))

taken_out : (q : ℕ) (es : Rows) → IsDistinct (eq_by_cmp nat_cmp) (keys_of es)
    → remove_entry (is_at (nat_cmp q)) es ≡ without_row q es
unfolding IsDistinct
taken_out q [] d = refl
taken_out q (e ∷ es) d = (elim (q == e.0) as
    (λ y. (q == e.0) ≡ y → remove_entry (is_at (nat_cmp q)) (e ∷ es) ≡ without_row q (e ∷ es)) [
      | true ↦ λ t. let above : AllByRecursion (λ k. eq_by_cmp nat_cmp q k ≡ false) (keys_of es) =
          subst (λ x. AllByRecursion (λ k. eq_by_cmp nat_cmp x k ≡ false) (keys_of es)) (sym (equal q e.0 t)) d.0 in
          rw (same_number q e.0, t) (sym (none_left q es above))
      | false ↦ λ t. rw (same_number q e.0, t) (ap (λ l. e ∷ l) (taken_out q es d.1))
    ]) refl

-- for the questions after one was taken out: all others are left
pub removed : (q : ℕ) (es : Rows) → IsStrictlySortedBy nat_cmp (keys_of es)
    → remove_entry (is_at (nat_cmp q)) es ≡ without_row q es
removed q es s = taken_out q es (IsDistinct-from_sorted nat_cmp (keys_of es) s)

not_there : (q : ℕ) (es : Rows) → row_at q es ≡ None → without_row q es ≡ es
not_there q [] h = refl
not_there q (e ∷ es) h = (elim (q == e.0) as (λ y. (q == e.0) ≡ y → without_row q (e ∷ es) ≡ e ∷ es) [
  | true ↦ λ t. let h' = rw (same_number q e.0, t) at h in absurd cc
  | false ↦ λ t. rw (same_number q e.0, t) (ap (λ l. e ∷ l) (not_there q es (rw (same_number q e.0, t) at h)))
]) refl

put_less : (q : ℕ) (r : QuestionRow) (e : ℕ × QuestionRow) (es : Rows) → nat_cmp q e.0 ≡ Less
    → with_row q r (e ∷ es) ≡ (q, r) ∷ e ∷ es
put_less q r e es t = rw t refl

put_more : (q : ℕ) (r : QuestionRow) (e : ℕ × QuestionRow) (es : Rows) → nat_cmp q e.0 ≡ Greater
    → with_row q r (e ∷ es) ≡ e ∷ with_row q r es
put_more q r e es t = rw t refl

taken_first : (q : ℕ) (r : QuestionRow) (es : Rows) → without_row q ((q, r) ∷ es) ≡ without_row q es
taken_first q r es = rw (same_number q q, itself q) refl

kept_first : (q : ℕ) (e : ℕ × QuestionRow) (es : Rows) → is_eq (nat_cmp q e.0) ≡ false
    → without_row q (e ∷ es) ≡ e ∷ without_row q es
kept_first q e es t = rw t refl

-- for a question that is taken out again
pub undone : (q : ℕ) (r : QuestionRow) (es : Rows) → row_at q es ≡ None → without_row q (with_row q r es) ≡ es
undone q r [] h = taken_first q r []
undone q r (e ∷ es) h = (elim (nat_cmp q e.0) as
    (λ y. nat_cmp q e.0 ≡ y → without_row q (with_row q r (e ∷ es)) ≡ e ∷ es) [
      | Less ↦ λ t. ap (without_row q) (put_less q r e es t) ∙ taken_first q r (e ∷ es) ∙ not_there q (e ∷ es) h
      | Equal ↦ λ t. let h' = rw t at h in absurd cc
      | Greater ↦ λ t. ap (without_row q) (put_more q r e es t) ∙ kept_first q e (with_row q r es) (ap is_eq t)
          ∙ ap (λ l. e ∷ l) (undone q r es (rw t at h))
    ]) refl

-- for a question that is not there: nothing ends
pub ended_none : (q : ℕ) (w : Rewriting) (es : Rows) → row_at q es ≡ None → ended_row q w es ≡ es
ended_none q w [] h = refl
ended_none q w (e ∷ es) h = (elim (q == e.0) as (λ y. (q == e.0) ≡ y → ended_row q w (e ∷ es) ≡ e ∷ es) [
  | true ↦ λ t. let h' = rw (same_number q e.0, t) at h in absurd cc
  | false ↦ λ t. rw (same_number q e.0, t) (ap (λ l. e ∷ l) (ended_none q w es (rw (same_number q e.0, t) at h)))
]) refl
