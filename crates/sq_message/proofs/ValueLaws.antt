-- The values of the fields of a name, by the places of these fields.
use Rattle.std.proofs.Common.{◌≡◌, ℕ, zero, suc, ◌+◌, ◌<◌, ◌≤◌, List, [], ◌∷◌, Bool, true, false, cond, map, length, take, drop, get_or, nat_lt, ◌-◌, Option, Some, None, refl, sym, ap, ◌∙◌, arith}
use Rattle.std.proofs.lemmas.Bool.Decides.{nat_tests}
use Rattle.std.proofs.lemmas.List.{take_rest}
use Rattle.std.proofs.lemmas.List.Quantifiers.{position-Some}
use Rattle.std.specs.List.{filter, position, position_or_len}
use Rattle.std.specs.Option.{is_some}
use Rattle.std.specs.Str.{str_eq_ignore_ascii_case}
use Rattle.sq_base.specs.declared.requests.Field.{Field}
use Rattle.sq_rules.specs.Keys.{field_values}

-- the field has the name
abbrev pub has_name : List ℕ → Field → Bool
has_name name f = str_eq_ignore_ascii_case f.name name

-- what passes, from the first that does
filter_first : {X : Type 0} (p : X → Bool) (xs : List X) (i : ℕ) (d : X) → i < length xs → p (get_or xs i d) ≡ true
    → ((k : ℕ) → k < i → p (get_or xs k d) ≡ false)
    → filter p xs ≡ get_or xs i d ∷ filter p (drop (i + 1) xs)
filter_first p [] i d below here before = absurd (omega arith)
filter_first p (x ∷ xs) zero d below here before = rw here refl
filter_first p (x ∷ xs) (suc i) d below here before =
    let miss : p x ≡ false = before 0 (omega arith) in
    let e : suc i + 1 ≡ suc (i + 1) = omega arith in
    rw (miss, e) (filter_first p xs i d (omega arith) here (λ k under. before (suc k) (omega arith)))

-- where the first that passes stands behind the end, none does
filter_none : {X : Type 0} (p : X → Bool) (xs : List X) → length xs ≤ position_or_len p xs → filter p xs ≡ []
filter_none p [] past = refl
filter_none p (x ∷ xs) past = (elim (p x) as (λ b. p x ≡ b → filter p (x ∷ xs) ≡ []) [
  | true ↦ λ t. let past' = rw t at past in absurd (omega (arith, past'))
  | false ↦ λ t. let past' = rw t at past in rw t (filter_none p xs (omega (arith, past')))
]) refl

no_place : (a n : ℕ) → cond (nat_lt a n) (Some a) None ≡ None → n ≤ a
no_place a n e = grind (arith, nat_tests)

-- what is behind a place, as a slice has it
abbrev pub behind : List Field → ℕ → List Field
behind fields i = take (length fields - (i + 1)) (drop (i + 1) fields)

-- without a place of the name there is no value
pub values_none : (name : List ℕ) (fields : List Field) → position (has_name name) fields ≡ None
    → field_values name fields ≡ []
values_none name fields e = ap (map (λ f. f.value)) (filter_none (has_name name) fields (no_place _ _ e))

-- at the first place of the name stands the first value
pub values_first : (name : List ℕ) (fields : List Field) (i : ℕ) (d : Field) → position (has_name name) fields ≡ Some i
    → field_values name fields ≡ (get_or fields i d).value ∷ field_values name (drop (i + 1) fields)
values_first name fields i d e =
    let at = position-Some (has_name name) fields i d e in
    ap (map (λ f. f.value)) (filter_first (has_name name) fields i d at.0 at.1 at.2)

later_none : (name : List ℕ) (rest : List Field) (o : Option ℕ) → position (has_name name) rest ≡ o → is_some o ≡ false
    → field_values name rest ≡ []
later_none name rest None at none = values_none name rest at
later_none name rest (Some j) at none = cc

later_some : (name : List ℕ) (rest : List Field) (o : Option ℕ) → position (has_name name) rest ≡ o → is_some o ≡ true
    → 1 ≤ length (field_values name rest)
later_some name rest None at some = cc
later_some name rest (Some j) at some =
    omega (arith, ap length (values_first name rest j (record { name = []; value = [] }) at))

-- one place of the name, and none behind it
pub values_one : (name : List ℕ) (fields : List Field) (i : ℕ) (later : Option ℕ) (f : Field) {v : List ℕ}
    → position (has_name name) fields ≡ Some i
    → position (has_name name) (behind fields i) ≡ later → is_some later ≡ false → v ≡ (get_or fields i f).value
    → field_values name fields ≡ v ∷ []
values_one name fields i later f {v} at next none is =
    let rest : field_values name (drop (i + 1) fields) ≡ [] = ap (field_values name) (sym (take_rest fields (i + 1)))
    ∙ later_none name (behind fields i) later next none in
    values_first name fields i f at ∙ ap (λ vs. (get_or fields i f).value ∷ vs) rest ∙ ap (λ w. w ∷ []) (sym is)

-- one place of the name, and another behind it
pub values_many : (name : List ℕ) (fields : List Field) (i : ℕ) (later : Option ℕ)
    → position (has_name name) fields ≡ Some i
    → position (has_name name) (behind fields i) ≡ later → is_some later ≡ true → 2 ≤ length (field_values name fields)
values_many name fields i later at next some =
    let same : field_values name (drop (i + 1) fields) ≡ field_values name (behind fields i) =
    ap (field_values name) (sym (take_rest fields (i + 1))) in
    omega (
      arith,
      ap length (values_first name fields i (record { name = []; value = [] }) at),
      ap length same,
      later_some name (behind fields i) later next some,
    )
