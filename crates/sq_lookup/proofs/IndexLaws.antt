-- The tables of open lookups agree after each change.
use Rattle.std.proofs.Common.{◌≡◌, ◌∙◌, ◌==◌, ◌&&◌, ◌||◌, not, cond, Bool, true, false, ℕ, List, [], ◌∷◌, Option, None, Some, is_some, refl, ap, sym}
use Rattle.sq_machine.specs.KeptLists.{same_key}
use Rattle.sq_machine.specs.Events.{is_number}
use Rattle.sq_machine.specs.OpenLookups.{WaitingChecks, pending_in, is_open_lookup, key_of, with_lookup, question_of, waits_in}
use Rattle.sq_lookup.specs.Index.{IsIndexed, question_at, row_at, rows_of, listed_by, listed_in, without_row}
use Rattle.sq_lookup.specs.Waits.{has_check, is_free}
use Rattle.sq_lookup.specs.declared.rows.Row.{Row}
use Rattle.sq_lookup.proofs.MapLaws.{number_is}
use Rattle.sq_lookup.proofs.OpenLaws.{none_is, pending_with, once_with, pending_without, once_without}

-- for a question: it is open where the table has its row
pub open_is : (q : ℕ) (rows : List (ℕ × Row)) → is_open_lookup q (rows_of rows) ≡ is_some (row_at rows q)
open_is q [] = refl
open_is q (e ∷ es) = (elim (q == e.0) as
    (λ y. (q == e.0) ≡ y → is_open_lookup q (rows_of (e ∷ es)) ≡ is_some (row_at (e ∷ es) q)) [
      | true ↦ λ t. rw t refl
      | false ↦ λ t. rw t (open_is q es)
    ]) refl

-- for a question with a row: its key is the row's
pub key_at : (q : ℕ) (rows : List (ℕ × Row)) (row : Row) → row_at rows q ≡ Some row
    → key_of q (rows_of rows) ≡ Some row.key
key_at q [] row h = absurd cc
key_at q (e ∷ es) row h = (elim (q == e.0) as (λ y. (q == e.0) ≡ y → key_of q (rows_of (e ∷ es)) ≡ Some row.key) [
  | true ↦ λ t. let h' = rw t at h in let same : e.1 ≡ row = cc in rw (t, same) refl
  | false ↦ λ t. rw t (key_at q es row (rw t at h))
]) refl

not_some : {A : Type 0} (o : Option A) → is_some o ≡ false → o ≡ None
not_some None h = refl
not_some (Some a) h = absurd cc

-- for a question that is not open: the table has no row
pub no_row : (q : ℕ) (rows : List (ℕ × Row)) → is_open_lookup q (rows_of rows) ≡ false → row_at rows q ≡ None
no_row q rows h = not_some (row_at rows q) (sym (open_is q rows) ∙ h)

-- for a check in a list: the table has the row
pub listed_row : (q n : ℕ) (rows : List (ℕ × Row)) → listed_in rows q n ≡ true → is_some (row_at rows q) ≡ true
listed_row q n rows h = some_row (row_at rows q) n h where
  some_row : (o : Option Row) (n : ℕ) → listed_by o n ≡ true → is_some o ≡ true
  some_row None n h = absurd cc
  some_row (Some row) n h = refl

is_same : (n : ℕ) (o : Option ℕ) → is_number n o ≡ true → o ≡ Some n
is_same n None h = absurd cc
is_same n (Some k) h = rw (number_is n k h) refl

free_none : (n : ℕ) (check : Option ℕ) (w : WaitingChecks) → is_free check w ≡ true → is_number n check ≡ true
    → question_of n w ≡ None
free_none n None w f h = absurd cc
free_none n (Some k) w f h = rw (number_is n k h) (none_is (question_of k w) f)

and_true : (a : Bool) → (a && true) ≡ a
and_true true = refl
and_true false = refl

and_false : (a : Bool) → (a && false) ≡ false
and_false true = refl
and_false false = refl

or_false : (a : Bool) → (a || false) ≡ a
or_false true = refl
or_false false = refl

not_and : (a : Bool) → (not a && a) ≡ false
not_and true = refl
not_and false = refl

-- for the waiting checks after a lookup was opened
pub waits_with : (q k n : ℕ) (check : Option ℕ) (w v : WaitingChecks) → is_free check w ≡ true
    → question_of n v ≡ cond (is_number n check) (Some q) (question_of n w)
    → waits_in v k n ≡ ((k == q && is_number n check) || waits_in w k n)
waits_with q k n check w v f s = (elim (is_number n check) as
    (λ y. is_number n check ≡ y → waits_in v k n ≡ ((k == q && is_number n check) || waits_in w k n)) [
      | true ↦ λ t. let was : question_of n w ≡ None = free_none n check w f t in
          rw (s, t, was) (sym (or_false (k == q && true) ∙ and_true (k == q)))
      | false ↦ λ t. rw (s, t, and_false (k == q)) refl
    ]) refl

-- for a check that joined: it is one more
pub waits_more : (q k n check : ℕ) (w v : WaitingChecks) → question_of check w ≡ None
    → question_of n v ≡ cond (n == check) (Some q) (question_of n w)
    → waits_in v k n ≡ ((k == q && n == check) || waits_in w k n)
waits_more q k n check w v f s = waits_with q k n (Some check) w v (rw f refl) s

-- for a check that left: it is one less
pub waits_less : (k n check : ℕ) (w v : WaitingChecks) → question_of n v ≡ cond (n == check) None (question_of n w)
    → waits_in v k n ≡ (not (n == check) && waits_in w k n)
waits_less k n check w v s = (elim (n == check) as
    (λ y. (n == check) ≡ y → waits_in v k n ≡ (not (n == check) && waits_in w k n)) [
      | true ↦ λ t. rw (s, t) refl
      | false ↦ λ t. rw (s, t) refl
    ]) refl

-- for the waiting checks after a question was answered
pub waits_without : (q k n : ℕ) (checks : List ℕ) (w v : WaitingChecks) → has_check n checks ≡ waits_in w q n
    → question_of n v ≡ cond (has_check n checks) None (question_of n w)
    → waits_in v k n ≡ (not (k == q) && waits_in w k n)
waits_without q k n checks w v l s = (elim (has_check n checks) as
    (λ y. has_check n checks ≡ y → waits_in v k n ≡ (not (k == q) && waits_in w k n)) [
      | true ↦ λ t. let was : question_of n w ≡ Some q = is_same q (question_of n w) (sym l ∙ t) in
          rw (s, t, was) (sym (not_and (k == q)))
      | false ↦ λ t. (elim (k == q) as (λ y. (k == q) ≡ y → waits_in v k n ≡ (not (k == q) && waits_in w k n)) [
        | true ↦ λ u. let none : waits_in w k n ≡ false = rw (number_is k q u) (sym l ∙ t) in rw (s, t, u) none
        | false ↦ λ u. rw (s, t, u) refl
      ]) refl
    ]) refl

-- for an opening: the tables agree after it
pub opened : (keys keys' : List (List ℕ × ℕ)) (rows rows' : List (ℕ × Row)) (w w' : WaitingChecks) (q : ℕ)
    (key : List ℕ) (check : Option ℕ) (checks : List ℕ)
    → IsIndexed keys rows w → pending_in key (rows_of rows) ≡ None → is_open_lookup q (rows_of rows) ≡ false
    → is_free check w ≡ true
    → ((n : ℕ) → has_check n checks ≡ is_number n check)
    → ((k : List ℕ) → question_at keys' k ≡ cond (same_key k key) (Some q) (question_at keys k))
    → rows_of rows' ≡ with_lookup (record { question = q; key = key }) (rows_of rows)
    → ((k n : ℕ) → listed_in rows' k n ≡ cond (k == q) (has_check n checks) (listed_in rows k n))
    → ((n : ℕ) → question_of n w' ≡ cond (is_number n check) (Some q) (question_of n w))
    → IsIndexed keys' rows' w'
opened keys keys' rows rows' w w' q key check checks i pend closed free has k r l s = record {
  known = λ key'. k key' ∙ ap (λ o. cond (same_key key' key) (Some q) o) (i.known key')
      ∙ sym (pending_with key' (record { question = q; key = key }) (rows_of rows) pend) ∙ ap (pending_in key') (sym r);
  once = rw r (once_with (record { question = q; key = key }) (rows_of rows) pend i.once);
  listed = λ k' n. l k' n ∙ opened_list k' n ∙ sym (waits_with q k' n check w w' free (s n));
} where
  opened_list : (k' n : ℕ)
      → cond (k' == q) (has_check n checks) (listed_in rows k' n) ≡ ((k' == q && is_number n check) || waits_in w k' n)
  opened_list k' n = (elim (k' == q) as
      (λ y. (k' == q) ≡ y → cond (k' == q) (has_check n checks) (listed_in rows k' n)
      ≡ ((k' == q && is_number n check) || waits_in w k' n)) [
        | true ↦ λ t.
            let none : row_at rows k' ≡ None = rw (number_is k' q t) (no_row q rows closed) in
            let empty : waits_in w k' n ≡ false = sym (i.listed k' n) ∙ ap (λ o. listed_by o n) none in
            rw (t, empty) (has n ∙ sym (or_false (is_number n check)))
        | false ↦ λ t. rw t (i.listed k' n)
      ]) refl

-- for a join: the tables agree after it
pub joined : (keys : List (List ℕ × ℕ)) (rows rows' : List (ℕ × Row)) (w w' : WaitingChecks) (q check : ℕ)
    → IsIndexed keys rows w → question_of check w ≡ None → rows_of rows' ≡ rows_of rows
    → ((k n : ℕ) → listed_in rows' k n ≡ ((k == q && n == check) || listed_in rows k n))
    → ((n : ℕ) → question_of n w' ≡ cond (n == check) (Some q) (question_of n w))
    → IsIndexed keys rows' w'
joined keys rows rows' w w' q check i free r l s = record {
  known = λ key. i.known key ∙ ap (pending_in key) (sym r);
  once = rw r i.once;
  listed = λ k n. l k n ∙ ap (λ b. (k == q && n == check) || b) (i.listed k n)
      ∙ sym (waits_more q k n check w w' free (s n));
}

-- for a leave: the tables agree after it
pub left : (keys : List (List ℕ × ℕ)) (rows rows' : List (ℕ × Row)) (w w' : WaitingChecks) (q check : ℕ)
    → IsIndexed keys rows w → question_of check w ≡ Some q → rows_of rows' ≡ rows_of rows
    → ((k n : ℕ) → listed_in rows' k n ≡ (not (k == q && n == check) && listed_in rows k n))
    → ((n : ℕ) → question_of n w' ≡ cond (n == check) None (question_of n w))
    → IsIndexed keys rows' w'
left keys rows rows' w w' q check i was r l s = record {
  known = λ key. i.known key ∙ ap (pending_in key) (sym r);
  once = rw r i.once;
  listed = λ k n. l k n ∙ ap (λ b. not (k == q && n == check) && b) (i.listed k n) ∙ left_list k n
      ∙ sym (waits_less k n check w w' (s n));
} where
  left_list : (k n : ℕ) → (not (k == q && n == check) && waits_in w k n) ≡ (not (n == check) && waits_in w k n)
  left_list k n = (elim (n == check) as
      (λ y. (n == check) ≡ y → (not (k == q && n == check) && waits_in w k n) ≡ (not (n == check) && waits_in w k n)) [
        | true ↦ λ t. let it : question_of n w ≡ Some q = rw (number_is n check t) was in
            rw (t, it, and_true (k == q)) (not_and (k == q))
        | false ↦ λ t. rw (t, and_false (k == q)) refl
      ]) refl

-- for an answer: the tables agree after it
pub removed : (keys keys' : List (List ℕ × ℕ)) (rows rows' : List (ℕ × Row)) (w w' : WaitingChecks) (q : ℕ) (row : Row)
    → IsIndexed keys rows w → row_at rows q ≡ Some row
    → ((k : List ℕ) → question_at keys' k ≡ cond (same_key k row.key) None (question_at keys k))
    → rows_of rows' ≡ without_row q (rows_of rows)
    → ((k n : ℕ) → listed_in rows' k n ≡ (not (k == q) && listed_in rows k n))
    → ((n : ℕ) → question_of n w' ≡ cond (has_check n row.checks) None (question_of n w))
    → IsIndexed keys' rows' w'
removed keys keys' rows rows' w w' q row i here k r l s = record {
  known = λ key. k key ∙ ap (λ o. cond (same_key key row.key) None o) (i.known key)
      ∙ sym (pending_without key q row.key (rows_of rows) i.once (key_at q rows row here))
      ∙ ap (pending_in key) (sym r);
  once = rw r (once_without q (rows_of rows) i.once);
  listed = λ k' n. l k' n ∙ ap (λ b. not (k' == q) && b) (i.listed k' n)
      ∙ sym (waits_without q k' n row.checks w w' (sym (ap (λ o. listed_by o n) here) ∙ i.listed q n) (s n));
}
