-- Fields, one at a time.
use Rattle.std.proofs.Common.{◌≡◌, ℕ, ◌+◌, ◌≤◌, List, ◌∷◌, ◌++◌, Bool, true, false, length, take, drop, map, append_assoc, ap, arith, length-take, codes}
use Rattle.std.proofs.lemmas.List.{length-map}
use Rattle.std.specs.List.{filter, flat_map}
use Rattle.std.specs.Str.{str_eq_ignore_ascii_case}
use Rattle.sq_base.specs.declared.requests.Field.{Field}
use Rattle.sq_request.specs.Heads.{field_line}
use Rattle.sq_message.specs.FieldNames.{elements, connection_options}

-- there are as many fields as spans were written
pub count_of : {A B C : Type 0} (f : A → C) (g : B → C) (n m : ℕ) (xs : List A) (ys : List B)
    → map f (take n xs) ≡ map g ys → length xs ≤ m → length ys ≤ m
count_of f g n m xs ys e le =
    let same : length (map f (take n xs)) ≡ length (map g ys) = ap length e in
    omega (arith, length-map (take n xs) f, length-map ys g, length-take n xs, same, le)

-- a field that passes is put, and the rest comes behind it
pub one_put : (p : Field → Bool) (fields : List Field) (i : ℕ) (f : Field) (to new whole : List ℕ)
    → drop i fields ≡ f ∷ drop (i + 1) fields → p f ≡ true
    → new ≡ to ++ field_line f → to ++ flat_map field_line (filter p (drop i fields)) ≡ whole
    → new ++ flat_map field_line (filter p (drop (i + 1) fields)) ≡ whole
one_put p fields i f to new whole here passes put rest =
    let rest' : to ++ flat_map field_line (filter p (f ∷ drop (i + 1) fields)) ≡ whole = rw here at rest in
    let rest'' : to ++ (field_line f ++ flat_map field_line (filter p (drop (i + 1) fields))) ≡ whole = rw passes
    at rest' in
    rw put (rw append_assoc rest'')

-- another one is passed over
pub one_passed : (p : Field → Bool) (fields : List Field) (i : ℕ) (f : Field) (to new whole : List ℕ)
    → drop i fields ≡ f ∷ drop (i + 1) fields → p f ≡ false
    → new ≡ to → to ++ flat_map field_line (filter p (drop i fields)) ≡ whole
    → new ++ flat_map field_line (filter p (drop (i + 1) fields)) ≡ whole
one_passed p fields i f to new whole here passes put rest =
    let rest' : to ++ flat_map field_line (filter p (f ∷ drop (i + 1) fields)) ≡ whole = rw here at rest in
    let rest'' : to ++ flat_map field_line (filter p (drop (i + 1) fields)) ≡ whole = rw passes at rest' in
    rw put rest''

-- a Connection field's elements are put, and the rest comes behind them
pub options_put : (fields : List Field) (i : ℕ) (f : Field) (to new whole : List (List ℕ))
    → drop i fields ≡ f ∷ drop (i + 1) fields
    → str_eq_ignore_ascii_case f.name (codes "connection") ≡ true → new ≡ to ++ elements f.value
    → to ++ connection_options (drop i fields) ≡ whole
    → new ++ connection_options (drop (i + 1) fields) ≡ whole
options_put fields i f to new whole here named put rest =
    let rest' : to ++ connection_options (f ∷ drop (i + 1) fields) ≡ whole = rw here at rest in
    let rest'' : to ++ (elements f.value ++ connection_options (drop (i + 1) fields)) ≡ whole = rw named at rest' in
    rw put (rw append_assoc rest'')

-- another field is passed over
pub options_passed : (fields : List Field) (i : ℕ) (f : Field) (to new whole : List (List ℕ))
    → drop i fields ≡ f ∷ drop (i + 1) fields
    → str_eq_ignore_ascii_case f.name (codes "connection") ≡ false → new ≡ to
    → to ++ connection_options (drop i fields) ≡ whole
    → new ++ connection_options (drop (i + 1) fields) ≡ whole
options_passed fields i f to new whole here other put rest =
    let rest' : to ++ connection_options (f ∷ drop (i + 1) fields) ≡ whole = rw here at rest in
    let rest'' : to ++ connection_options (drop (i + 1) fields) ≡ whole = rw other at rest' in
    rw put rest''
