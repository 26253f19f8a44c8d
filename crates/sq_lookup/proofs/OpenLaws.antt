-- Lists of open lookups: how a new one and an ended one change what is pending for a key.
use Rattle.std.proofs.Common.{◌≡◌, ◌∙◌, ◌==◌, ◌&&◌, ◌||◌, ◌++◌, cond, Bool, true, false, ℕ, List, [], ◌∷◌, Option, None, Some, is_none, is_some, find, nat_lt, refl, ap, arith}
use Rattle.std.specs.Option.{option_map}
use Rattle.sq_machine.specs.KeptLists.{same_key}
use Rattle.sq_machine.specs.OpenLookups.{LookupRow, pending_in, keys_once, is_open_lookup, key_of, with_lookup, all_below}
use Rattle.sq_lookup.specs.Index.{without_row}
use Rattle.sq_lookup.proofs.MapLaws.{self_number, key_is, same_again, turned}

-- for tests of both: each holds
pub both : (a b : Bool) → (a && b) ≡ true → (a ≡ true) × (b ≡ true)
both true b h = (refl, h)
both false b h = absurd cc

or_true : (a b : Bool) → b ≡ true → (a || b) ≡ true
or_true true b h = refl
or_true false b h = h

-- for an answer that is none
pub none_is : {A : Type 0} (o : Option A) → is_none o ≡ true → o ≡ None
none_is None h = refl
none_is (Some a) h = absurd cc

map_cond : (b : Bool) (l : LookupRow) (o : Option LookupRow)
    → option_map (λ (r : LookupRow). r.question) (cond b (Some l) o)
    ≡ cond b (Some l.question) (option_map (λ (r : LookupRow). r.question) o)
map_cond true l o = refl
map_cond false l o = refl

-- for a key that is not pending: it is neither the first's nor pending in the rest
pub absent : (key : List ℕ) (l : LookupRow) (rows : List LookupRow) → pending_in key (l ∷ rows) ≡ None
    → (same_key key l.key ≡ false) × (pending_in key rows ≡ None)
absent key l rows h = (elim (same_key key l.key) as
    (λ y. same_key key l.key ≡ y → (same_key key l.key ≡ false) × (pending_in key rows ≡ None)) [
      | true ↦ λ t. let h' = rw t at h in absurd cc
      | false ↦ λ t. (t, rw t at h)
    ]) refl

differ : (k l r : List ℕ) → same_key l r ≡ false → same_key k r ≡ true → same_key k l ≡ false
differ k l r away same = rw (key_is k r same) (turned r l ∙ away)

-- for what is pending after a lookup was opened
pub pending_with : (k : List ℕ) (l : LookupRow) (rows : List LookupRow) → pending_in l.key rows ≡ None
    → pending_in k (with_lookup l rows) ≡ cond (same_key k l.key) (Some l.question) (pending_in k rows)
pending_with k l [] h = map_cond (same_key k l.key) l None
pending_with k l (r ∷ rows) h =
    let no = absent l.key r rows h in
    (elim (nat_lt l.question r.question) as
    (λ y. nat_lt l.question r.question ≡ y
    → pending_in k (with_lookup l (r ∷ rows)) ≡ cond (same_key k l.key) (Some l.question) (pending_in k (r ∷ rows))) [
      | true ↦ λ t. rw t (map_cond (same_key k l.key) l (find (λ (x : LookupRow). same_key k x.key) (r ∷ rows)))
      | false ↦ λ t. rw t ((elim (same_key k r.key) as
          (λ y. same_key k r.key ≡ y
          → pending_in k (r ∷ with_lookup l rows)
          ≡ cond (same_key k l.key) (Some l.question) (pending_in k (r ∷ rows))) [
            | true ↦ λ u. rw (u, differ k l.key r.key no.0 u) refl
            | false ↦ λ u. rw u (pending_with k l rows no.1)
          ]) refl)
    ]) refl

-- for each key once, after a lookup was opened
pub once_with : (l : LookupRow) (rows : List LookupRow) → pending_in l.key rows ≡ None → keys_once rows ≡ true
    → keys_once (with_lookup l rows) ≡ true
once_with l [] h o = refl
once_with l (r ∷ rows) h o =
    let no = absent l.key r rows h in
    let here = both (is_none (pending_in r.key rows)) (keys_once rows) o in
    (elim (nat_lt l.question r.question) as
    (λ y. nat_lt l.question r.question ≡ y → keys_once (with_lookup l (r ∷ rows)) ≡ true) [
      | true ↦ λ t. rw (t, h, o) refl
      | false ↦ λ t.
          let apart : same_key r.key l.key ≡ false = turned r.key l.key ∙ no.0 in
          rw (t, pending_with r.key l rows no.1, apart, here.0) (once_with l rows no.1 here.1)
    ]) refl

-- for a key with an open question: it is pending
pub key_pending : (question : ℕ) (key : List ℕ) (rows : List LookupRow) → key_of question rows ≡ Some key
    → is_some (pending_in key rows) ≡ true
key_pending question key [] h = absurd cc
key_pending question key (l ∷ rows) h = (elim (question == l.question) as
    (λ y. (question == l.question) ≡ y → is_some (pending_in key (l ∷ rows)) ≡ true) [
      | true ↦ λ t. let h' = rw t at h in let same : l.key ≡ key = cc in rw (same, same_again key) refl
      | false ↦ λ t. (elim (same_key key l.key) as
          (λ y. same_key key l.key ≡ y → is_some (pending_in key (l ∷ rows)) ≡ true) [
            | true ↦ λ u. rw u refl
            | false ↦ λ u. rw u (key_pending question key rows (rw t at h))
          ]) refl
    ]) refl

-- for a question that is pending: it is open
pub pending_open : (question : ℕ) (key : List ℕ) (rows : List LookupRow) → pending_in key rows ≡ Some question
    → is_open_lookup question rows ≡ true
pending_open question key [] h = absurd cc
pending_open question key (l ∷ rows) h = (elim (same_key key l.key) as
    (λ y. same_key key l.key ≡ y → is_open_lookup question (l ∷ rows) ≡ true) [
      | true ↦ λ t. let h' = rw t at h in let same : l.question ≡ question = cc in rw (same, self_number question) refl
      | false ↦ λ t. or_true (question == l.question) (is_open_lookup question rows)
          (pending_open question key rows (rw t at h))
    ]) refl

apart_keys : (question : ℕ) (a key : List ℕ) (rows : List LookupRow) → pending_in a rows ≡ None
    → key_of question rows ≡ Some key → same_key a key ≡ false
apart_keys question a key rows away here = (elim (same_key a key) as
    (λ y. same_key a key ≡ y → same_key a key ≡ false) [
      | true ↦ λ t.
          let some : is_some (pending_in a rows) ≡ true = rw (key_is a key t) (key_pending question key rows here) in
          let some' = rw away at some in absurd cc
      | false ↦ λ t. t
    ]) refl

-- for what is pending after a lookup ended
pub pending_without : (k : List ℕ) (question : ℕ) (key : List ℕ) (rows : List LookupRow) → keys_once rows ≡ true
    → key_of question rows ≡ Some key
    → pending_in k (without_row question rows) ≡ cond (same_key k key) None (pending_in k rows)
pending_without k question key [] o h = absurd cc
pending_without k question key (l ∷ rows) o h =
    let here = both (is_none (pending_in l.key rows)) (keys_once rows) o in
    let alone : pending_in l.key rows ≡ None = none_is (pending_in l.key rows) here.0 in
    (elim (question == l.question) as
    (λ y. (question == l.question) ≡ y
    → pending_in k (without_row question (l ∷ rows)) ≡ cond (same_key k key) None (pending_in k (l ∷ rows))) [
      | true ↦ λ t. let h' = rw t at h in let same : l.key ≡ key = cc in
          rw (t, ← same) ((elim (same_key k l.key) as
          (λ y. same_key k l.key ≡ y → pending_in k rows ≡ cond (same_key k l.key) None (pending_in k (l ∷ rows))) [
            | true ↦ λ u. let gone : pending_in k rows ≡ None = rw (key_is k l.key u) alone in rw (u, gone) refl
            | false ↦ λ u. rw u refl
          ]) refl)
      | false ↦ λ t. let on : key_of question rows ≡ Some key = rw t at h in
          rw t ((elim (same_key k l.key) as
          (λ y. same_key k l.key ≡ y
          → pending_in k (l ∷ without_row question rows) ≡ cond (same_key k key) None (pending_in k (l ∷ rows))) [
            | true ↦ λ u. let away : same_key k key ≡ false =
                rw (key_is k l.key u) (apart_keys question l.key key rows alone on) in rw (u, away) refl
            | false ↦ λ u. rw u (pending_without k question key rows here.1 on)
          ]) refl)
    ]) refl

absent_without : (k : List ℕ) (question : ℕ) (rows : List LookupRow) → pending_in k rows ≡ None
    → pending_in k (without_row question rows) ≡ None
absent_without k question [] h = refl
absent_without k question (l ∷ rows) h =
    let no = absent k l rows h in
    (elim (question == l.question) as
    (λ y. (question == l.question) ≡ y → pending_in k (without_row question (l ∷ rows)) ≡ None) [
      | true ↦ λ t. rw t no.1
      | false ↦ λ t. rw (t, no.0) (absent_without k question rows no.1)
    ]) refl

-- for each key once, after a lookup ended
pub once_without : (question : ℕ) (rows : List LookupRow) → keys_once rows ≡ true
    → keys_once (without_row question rows) ≡ true
once_without question [] o = refl
once_without question (l ∷ rows) o =
    let here = both (is_none (pending_in l.key rows)) (keys_once rows) o in
    (elim (question == l.question) as
    (λ y. (question == l.question) ≡ y → keys_once (without_row question (l ∷ rows)) ≡ true) [
      | true ↦ λ t. rw t here.1
      | false ↦ λ t. rw (t, absent_without l.key question rows (none_is (pending_in l.key rows) here.0))
          (once_without question rows here.1)
    ]) refl

not_less : (a b : ℕ) → nat_lt a b ≡ true → nat_lt b a ≡ false
not_less a b h = grind (arith, h)

-- for a question above all that are open: it stands at the end
pub at_end : (l : LookupRow) (rows : List LookupRow) → all_below l.question rows ≡ true
    → with_lookup l rows ≡ rows ++ l ∷ []
at_end l [] h = refl
at_end l (r ∷ rows) h =
    let here = both (nat_lt r.question l.question) (all_below l.question rows) h in
    rw (not_less r.question l.question here.0) (ap (λ rest. r ∷ rest) (at_end l rows here.1))
