-- What a change of the table of rows does to the open lookups and to their lists.
use Rattle.std.proofs.Common.{◌≡◌, ◌∙◌, ◌==◌, ◌&&◌, ◌||◌, not, cond, Bool, true, false, ℕ, List, [], ◌∷◌, Option, None, Some, filter, nat_lt, refl, ap, sym, arith}
use Rattle.std.specs.BTreeMap.{is_at, insert_entry}
use Rattle.std.specs.Map.{lookup, remove_entry, set_value, keys_of}
use Rattle.std.specs.Ordering.{nat_cmp, is_eq, eq_by_cmp}
use Rattle.std.specs.declared.cmp.Ordering.TheVariants.{Less, Equal, Greater}
use Rattle.std.specs.List.{IsDistinct, AllByRecursion}
use Rattle.std.specs.List.Sorted.{IsStrictlySortedBy}
use Rattle.std.proofs.lemmas.Map.Keys.{IsDistinct-from_sorted}
use Rattle.sq_machine.specs.OpenLookups.{LookupRow, with_lookup}
use Rattle.sq_lookup.specs.Index.{row_at, rows_of, listed_by, listed_in, without_row}
use Rattle.sq_lookup.specs.Waits.{has_check}
use Rattle.sq_lookup.specs.declared.rows.Row.{Row}
use Rattle.sq_lookup.proofs.CheckLaws.{same_number}
use Rattle.sq_lookup.proofs.MapLaws.{number_is}

less_number : (a b : ℕ) → nat_cmp a b ≡ Less → nat_lt a b ≡ true
less_number a b h = grind (arith, h)

more_number : (a b : ℕ) → nat_cmp a b ≡ Greater → nat_lt a b ≡ false
more_number a b h = grind (arith, h)

-- for the open lookups after one was put
pub rows_put : (q : ℕ) (row : Row) (es : List (ℕ × Row)) → row_at es q ≡ None
    → rows_of (insert_entry nat_cmp es q row) ≡ with_lookup (record { question = q; key = row.key }) (rows_of es)
rows_put q row [] h = refl
rows_put q row (e ∷ es) h = (elim (nat_cmp q e.0) as
    (λ y. nat_cmp q e.0 ≡ y → rows_of (insert_entry nat_cmp (e ∷ es) q row)
    ≡ with_lookup (record { question = q; key = row.key }) (rows_of (e ∷ es))) [
      | Less ↦ λ t. rw (t, less_number q e.0 t) refl
      | Equal ↦ λ t. let hit : (q == e.0) ≡ true = sym (same_number q e.0) ∙ ap is_eq t in let h' = rw hit at h in cc
      | Greater ↦ λ t. let miss : (q == e.0) ≡ false = sym (same_number q e.0) ∙ ap is_eq t in
          rw (t, more_number q e.0 t)
          (ap (λ l. record { question = e.0; key = e.1.key } ∷ l) (rows_put q row es (rw miss at h)))
    ]) refl

-- for the open lookups after one was removed
pub rows_removed : (q : ℕ) (es : List (ℕ × Row))
    → rows_of (remove_entry (is_at (nat_cmp q)) es) ≡ without_row q (rows_of es)
rows_removed q [] = refl
rows_removed q (e ∷ es) = (elim (q == e.0) as
    (λ y. (q == e.0) ≡ y → rows_of (remove_entry (is_at (nat_cmp q)) (e ∷ es)) ≡ without_row q (rows_of (e ∷ es))) [
      | true ↦ λ t. rw (same_number q e.0, t) refl
      | false ↦ λ t. rw (same_number q e.0, t)
          (ap (λ l. record { question = e.0; key = e.1.key } ∷ l) (rows_removed q es))
    ]) refl

none_left : (q : ℕ) (es : List (ℕ × Row)) → AllByRecursion (λ k. eq_by_cmp nat_cmp q k ≡ false) (keys_of es)
    → filter (λ (l : LookupRow). not (q == l.question)) (rows_of es) ≡ rows_of es
none_left q [] h = refl
none_left q (e ∷ es) h =
    let miss : (q == e.0) ≡ false = sym (same_number q e.0) ∙ h.0 in
    rw miss (ap (λ l. record { question = e.0; key = e.1.key } ∷ l) (none_left q es h.1))

others : (q : ℕ) (es : List (ℕ × Row)) → IsDistinct (eq_by_cmp nat_cmp) (keys_of es)
    → without_row q (rows_of es) ≡ filter (λ (l : LookupRow). not (q == l.question)) (rows_of es)
unfolding IsDistinct
others q [] d = refl
others q (e ∷ es) d = (elim (q == e.0) as
    (λ y. (q == e.0) ≡ y → without_row q (rows_of (e ∷ es))
    ≡ filter (λ (l : LookupRow). not (q == l.question)) (rows_of (e ∷ es))) [
      | true ↦ λ t. let same : q ≡ e.0 = number_is q e.0 t in rw t (sym (none_left q es (rw same d.0)))
      | false ↦ λ t. rw t (ap (λ l. record { question = e.0; key = e.1.key } ∷ l) (others q es d.1))
    ]) refl

-- for the open lookups after one was removed: all others are left
pub others_left : (q : ℕ) (es : List (ℕ × Row)) → IsStrictlySortedBy nat_cmp (keys_of es)
    → without_row q (rows_of es) ≡ filter (λ (l : LookupRow). not (q == l.question)) (rows_of es)
others_left q es s = others q es (IsDistinct-from_sorted nat_cmp (keys_of es) s)

-- for the open lookups after a list changed
pub rows_kept : (test : ℕ → Bool) (es : List (ℕ × Row)) (row w : Row) → Some row ≡ lookup test es → w.key ≡ row.key
    → rows_of (set_value test es w) ≡ rows_of es
rows_kept test [] row w h k = refl
rows_kept test (e ∷ es) row w h k = (elim (test e.0) as
    (λ y. test e.0 ≡ y → rows_of (set_value test (e ∷ es) w) ≡ rows_of (e ∷ es)) [
      | true ↦ λ t. let h' : Some row ≡ Some e.1 = h ∙ ap (λ b. cond b (Some e.1) (lookup test es)) t in
          let same : row ≡ e.1 = cc in
          rw t (ap (λ (l : List ℕ). record { question = e.0; key = l } ∷ rows_of es) (k ∙ ap (λ r. r.key) same))
      | false ↦ λ t. let h' : Some row ≡ lookup test es = h ∙ ap (λ b. cond b (Some e.1) (lookup test es)) t in
          rw t (ap (λ l. record { question = e.0; key = e.1.key } ∷ l) (rows_kept test es row w h' k))
    ]) refl

-- for the lists after a row was put
pub listed_if : (b : Bool) (row : Row) (o : Option Row) (n : ℕ)
    → listed_by (cond b (Some row) o) n ≡ cond b (has_check n row.checks) (listed_by o n)
listed_if true row o n = refl
listed_if false row o n = refl

-- for the lists after a row was removed
pub listed_unless : (b : Bool) (o : Option Row) (n : ℕ) → listed_by (cond b None o) n ≡ (not b && listed_by o n)
listed_unless true o n = refl
listed_unless false o n = refl

-- for the lists after a check was added to one
pub listed_more : (q k n check : ℕ) (es : List (ℕ × Row)) (row w : Row) → row_at es k ≡ Some row
    → has_check n w.checks ≡ (n == check || has_check n row.checks)
    → cond (q == k) (has_check n w.checks) (listed_in es q n) ≡ ((q == k && n == check) || listed_in es q n)
listed_more q k n check es row w h more = (elim (q == k) as
    (λ y. (q == k) ≡ y → cond (q == k) (has_check n w.checks) (listed_in es q n)
    ≡ ((q == k && n == check) || listed_in es q n)) [
      | true ↦ λ t. let here : row_at es q ≡ Some row = rw (number_is q k t) h in rw (t, here) more
      | false ↦ λ t. rw t refl
    ]) refl

-- for the lists after a check was taken out of one
pub listed_less : (q k n check : ℕ) (es : List (ℕ × Row)) (row w : Row) → row_at es k ≡ Some row
    → has_check n w.checks ≡ (not (n == check) && has_check n row.checks)
    → cond (q == k) (has_check n w.checks) (listed_in es q n) ≡ (not (q == k && n == check) && listed_in es q n)
listed_less q k n check es row w h less = (elim (q == k) as
    (λ y. (q == k) ≡ y → cond (q == k) (has_check n w.checks) (listed_in es q n)
    ≡ (not (q == k && n == check) && listed_in es q n)) [
      | true ↦ λ t. let here : row_at es q ≡ Some row = rw (number_is q k t) h in rw (t, here) less
      | false ↦ λ t. rw t refl
    ]) refl
