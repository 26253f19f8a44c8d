-- Marks at the names of fields, as options come.
use Rattle.std.proofs.Common.{◌≡◌, ℕ, zero, suc, ◌+◌, ◌<◌, List, [], ◌∷◌, ◌++◌, Bool, true, false, cond, ◌||◌, ◌&&◌, ◌==◌, not, codes, inl, inr, arith, if◌then◌else◌, Option, Some, None, take, map, length, get_or, refl, sym, ap, ◌∙◌}
use Rattle.std.proofs.lemmas.Bool.{cases_Bool}
use Rattle.std.proofs.lemmas.List.Folds.{list_any-append, list_any_more}
use Rattle.std.proofs.lemmas.Map.Text.{is_eq-slice_cmp}
use Rattle.std.specs.Borrow.{Bor}
use Rattle.std.specs.BTreeMap.{is_at}
use Rattle.std.specs.Char.{to_ascii_lowercase}
use Rattle.std.specs.Cmp.Lexicographic.{slice_cmp, same_text}
use Rattle.std.specs.List.{filter, list_any}
use Rattle.std.specs.Map.{lookup}
use Rattle.std.specs.Ordering.{nat_cmp}
use Rattle.std.specs.Prelude.{bytes_eq}
use Rattle.std.specs.Str.{str_eq_ignore_ascii_case, str_to_ascii_lowercase}
use Rattle.sq_base.specs.declared.requests.Field.{Field}
use Rattle.sq_message.specs.FieldNames.{dropped, goes_out, is_one_of, is_sent}
use Rattle.sq_message.specs.Marks.{mark_at, mark_of, marked_if, names_some, IsMarked}
use Rattle.sq_message.specs.declared.names.Direction.{Direction}

-- after one key changed
pub mark_after : (key k : List ℕ) (w : Option Bool) (before after : List (List ℕ × Bool))
    → lookup (is_at (slice_cmp nat_cmp k)) after
    ≡ cond (is_at (slice_cmp nat_cmp key) k) w (lookup (is_at (slice_cmp nat_cmp k)) before)
    → mark_at after k ≡ cond (bytes_eq key k) w (mark_at before k)
mark_after key k w before after h = h ∙ ap (λ b. cond b w (mark_at before k)) (is_eq-slice_cmp key k)

-- names without case are one
alike_is : (a b : List ℕ) → str_eq_ignore_ascii_case a b ≡ true
    → str_to_ascii_lowercase a ≡ str_to_ascii_lowercase b
alike_is a b h = same_text (str_to_ascii_lowercase a) (str_to_ascii_lowercase b) (sym h)

some_alike : (fields : List Field) (a b : List ℕ) → str_to_ascii_lowercase a ≡ str_to_ascii_lowercase b
    → names_some fields a ≡ names_some fields b
some_alike [] a b same = refl
some_alike (f ∷ fields) a b same =
    ap (λ l. bytes_eq (str_to_ascii_lowercase f.name) l || names_some fields a) same
    ∙ ap (λ t. str_eq_ignore_ascii_case f.name b || t) (some_alike fields a b same)

one_alike : (names : List (List ℕ)) (a b : List ℕ) → str_to_ascii_lowercase a ≡ str_to_ascii_lowercase b
    → is_one_of names a ≡ is_one_of names b
one_alike [] a b same = refl
one_alike (n ∷ names) a b same =
    ap (λ l. bytes_eq (str_to_ascii_lowercase n) l || is_one_of names a) same
    ∙ ap (λ t. str_eq_ignore_ascii_case n b || t) (one_alike names a b same)

or_false : (a : Bool) → (a || false) ≡ a
or_false true = refl
or_false false = refl

or_true : (a : Bool) → (a || true) ≡ true
or_true true = refl
or_true false = refl

-- one more option
one_more : (options : List (List ℕ)) (o name : List ℕ)
    → is_one_of (options ++ o ∷ []) name ≡ (is_one_of options name || str_eq_ignore_ascii_case o name)
one_more options o name =
    list_any-append (λ n. str_eq_ignore_ascii_case n name) options (o ∷ [])
    ∙ ap (λ t. is_one_of options name || t) (or_false (str_eq_ignore_ascii_case o name))

one_more_alike : (options : List (List ℕ)) (o name : List ℕ) → str_eq_ignore_ascii_case o name ≡ true
    → is_one_of (options ++ o ∷ []) name ≡ true
one_more_alike options o name is =
    one_more options o name ∙ ap (λ t. is_one_of options name || t) is ∙ or_true (is_one_of options name)

one_more_other : (options : List (List ℕ)) (o name : List ℕ) → str_eq_ignore_ascii_case o name ≡ false
    → is_one_of (options ++ o ∷ []) name ≡ is_one_of options name
one_more_other options o name is =
    one_more options o name ∙ ap (λ t. is_one_of options name || t) is ∙ or_false (is_one_of options name)

marked_some : (here mark b : Bool) → marked_if here mark ≡ Some b → (here ≡ true) × (mark ≡ b)
marked_some true mark b h = (refl, cc)
marked_some false mark b h = cc

marked_none : (here mark : Bool) → marked_if here mark ≡ None → here ≡ false
marked_none true mark h = cc
marked_none false mark h = refl

-- an option that is the first of a field's name
pub first_marked : (fields : List Field) (before after : List (List ℕ × Bool)) (kept options : List (List ℕ))
    (o : List ℕ) → IsMarked fields before kept options → mark_of before o ≡ Some false
    → ((k : List ℕ) → mark_at after k ≡ cond (bytes_eq (str_to_ascii_lowercase o) k) (Some true) (mark_at before k))
    → IsMarked fields after (kept ++ o ∷ []) (options ++ o ∷ [])
first_marked fields before after kept options o was here put =
    let at = marked_some (names_some fields o) (is_one_of kept o) false (sym (was.marked o) ∙ here) in
    record {
      marked = λ name.
          elim (cases_Bool (str_eq_ignore_ascii_case o name)) [
            | inl is ↦
                let some : names_some fields name ≡ true = sym (some_alike fields o name (alike_is o name is)) ∙ at.0 in
                put (str_to_ascii_lowercase name) ∙ ap (λ t. cond t (Some true) (mark_of before name)) is
                ∙ sym (ap (λ t. marked_if t (is_one_of (kept ++ o ∷ []) name)) some
                ∙ ap (λ t. marked_if true t) (one_more_alike kept o name is))
            | inr other ↦
                put (str_to_ascii_lowercase name) ∙ ap (λ t. cond t (Some true) (mark_of before name)) other
                ∙ was.marked name
                ∙ ap (λ t. marked_if (names_some fields name) t) (sym (one_more_other kept o name other))
          ];
      tells = λ name some.
          one_more kept o name ∙ ap (λ t. t || str_eq_ignore_ascii_case o name) (was.tells name some)
          ∙ sym (one_more options o name);
    }

-- one that is not the first
pub again_marked : (fields : List Field) (marks : List (List ℕ × Bool)) (kept options : List (List ℕ)) (o : List ℕ)
    → IsMarked fields marks kept options → mark_of marks o ≡ Some true → IsMarked fields marks kept (options ++ o ∷ [])
again_marked fields marks kept options o was here =
    let at = marked_some (names_some fields o) (is_one_of kept o) true (sym (was.marked o) ∙ here) in
    record {
      marked = was.marked;
      tells = λ name some.
          elim (cases_Bool (str_eq_ignore_ascii_case o name)) [
            | inl is ↦ sym (one_alike kept o name (alike_is o name is)) ∙ at.1 ∙ sym (one_more_alike options o name is)
            | inr other ↦ was.tells name some ∙ sym (one_more_other options o name other)
          ];
    }

-- one that names no field
pub none_marked : (fields : List Field) (marks : List (List ℕ × Bool)) (kept options : List (List ℕ)) (o : List ℕ)
    → IsMarked fields marks kept options → mark_of marks o ≡ None → IsMarked fields marks kept (options ++ o ∷ [])
none_marked fields marks kept options o was here =
    let none = marked_none (names_some fields o) (is_one_of kept o) (sym (was.marked o) ∙ here) in
    record {
      marked = was.marked;
      tells = λ name some.
          elim (cases_Bool (str_eq_ignore_ascii_case o name)) [
            | inl is ↦
                let wrong : true ≡ false = sym some ∙ sym (some_alike fields o name (alike_is o name is)) ∙ none in
                absurd (cc)
            | inr other ↦ was.tells name some ∙ sym (one_more_other options o name other)
          ];
    }

-- the name of one more field
pub one_named : (fields : List Field) (i : ℕ) (f : Field) (key name : List ℕ) (before after : List (List ℕ × Bool))
    → i < length fields → f ≡ get_or fields i f → key ≡ str_to_ascii_lowercase f.name
    → ((k : List ℕ) → mark_at after k ≡ cond (bytes_eq key k) (Some false) (mark_at before k))
    → mark_of before name ≡ marked_if (names_some (take i fields) name) false
    → mark_of after name ≡ marked_if (names_some (take (i + 1) fields) name) false
one_named fields i f key name before after within is lower put was =
    let some = names_some (take i fields) name in
    let alike = str_eq_ignore_ascii_case f.name name in
    let more : names_some (take (i + 1) fields) name ≡ (some || alike) =
    list_any_more (λ g. str_eq_ignore_ascii_case g.name name) fields i f within
    ∙ ap (λ g. some || str_eq_ignore_ascii_case g.name name) (sym is) in
    let here : mark_of after name ≡ cond alike (Some false) (marked_if some false) =
    put (str_to_ascii_lowercase name)
    ∙ ap (λ k. cond (bytes_eq k (str_to_ascii_lowercase name)) (Some false) (mark_of before name)) lower
    ∙ ap (λ m. cond alike (Some false) m) was in
    here ∙ either_named some alike ∙ sym (ap (λ t. marked_if t false) more)
  where
    either_named : (a b : Bool) → cond b (Some false) (marked_if a false) ≡ marked_if (a || b) false
    either_named true true = refl
    either_named true false = refl
    either_named false true = refl
    either_named false false = refl

-- one more of some texts that are lent
pub one_taken : (items : List (Bor (List ℕ))) (i : ℕ) (d : Bor (List ℕ)) → i < length items
    → map (λ b. b.now) (take i items) ++ (get_or items i d).now ∷ [] ≡ map (λ b. b.now) (take (i + 1) items)
one_taken [] i d within = absurd (omega arith)
one_taken (b ∷ items) zero d within = refl
one_taken (b ∷ items) (suc i) d within =
    let e : suc i + 1 ≡ suc (i + 1) = omega arith in
    rw e (ap (λ l. b.now ∷ l) (one_taken items i d (omega arith)))

-- before any option came
pub unmarked : (fields : List Field) (marks : List (List ℕ × Bool))
    → ((name : List ℕ) → mark_of marks name ≡ marked_if (names_some fields name) false) → IsMarked fields marks [] []
unmarked fields marks h = record { marked = h; tells = λ name some. refl }

self_number : (b : ℕ) → (b == b) ≡ true
self_number b = grind arith

self_alike : (a : List ℕ) → str_eq_ignore_ascii_case a a ≡ true
self_alike [] = refl
self_alike (b ∷ a) = rw (self_number (to_ascii_lowercase b), self_alike a) refl

first_named : (f : Field) (fields : List Field) → names_some (f ∷ fields) f.name ≡ true
first_named f fields = ap (λ t. t || names_some fields f.name) (self_alike f.name)

later_named : (f : Field) (fields : List Field) (name : List ℕ) → names_some fields name ≡ true
    → names_some (f ∷ fields) name ≡ true
later_named f fields name some =
    ap (λ t. str_eq_ignore_ascii_case f.name name || t) some ∙ or_true (str_eq_ignore_ascii_case f.name name)

-- options that tell the same of the names of fields keep the same of these
pub sent_same : (test : List ℕ → Bool) (way : Direction) (options others : List (List ℕ)) (fields : List Field)
    → ((name : List ℕ) → names_some fields name ≡ true → is_one_of options name ≡ is_one_of others name)
    → filter (is_sent test way options) fields ≡ filter (is_sent test way others) fields
sent_same test way options others [] same = refl
sent_same test way options others (f ∷ fields) same =
    let sent : is_sent test way options f ≡ is_sent test way others f =
    ap (λ t. goes_out test f.name && not (is_one_of (dropped way) f.name
    || (t && not (str_eq_ignore_ascii_case (codes "content-length") f.name))))
    (same f.name (first_named f fields)) in
    let rest = sent_same test way options others fields
    (λ name some. same name (later_named f fields name some)) in
    ap (λ t. if t then f ∷ filter (is_sent test way options) fields else filter (is_sent test way options) fields) sent
    ∙ ap (λ l. if is_sent test way others f then f ∷ l else l) rest
