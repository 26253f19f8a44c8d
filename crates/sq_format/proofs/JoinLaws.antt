-- Texts behind one another, as loops put them.
use Rattle.std.proofs.Common.{◌≡◌, ℕ, ◌+◌, ◌≤◌, List, [], ◌∷◌, ◌++◌, length, drop, Bool, true, false, append_assoc, append-nil, codes, refl, sym, ap, ◌∙◌, map, if◌then◌else◌}
use Rattle.std.proofs.lemmas.Grind.{flat_map-append}
use Rattle.std.proofs.lemmas.List.{drop_all}
use Rattle.std.specs.List.{flat_map, join_with_byte}
use Rattle.std.specs.Str.{str_eq_ignore_ascii_case}
use Rattle.percent_encoding.specs.Percent.{percent_encode_byte}
use Rattle.sq_base.specs.declared.requests.Field.{Field}
use Rattle.sq_rules.specs.Keys.{arguments_text, key_escaped, key_escaped_byte, field_values, values_text}

-- each text after a space
abbrev pub after_spaces : List (List ℕ) → List ℕ
after_spaces [] = []
after_spaces (w ∷ ws) = 32 ∷ (w ++ after_spaces ws)

pub spaced : (w : List ℕ) (ws : List (List ℕ)) → join_with_byte 32 (w ∷ ws) ≡ w ++ after_spaces ws
spaced w [] = sym (append-nil w)
spaced w (v ∷ ws) = ap (λ t. w ++ (32 ∷ t)) (spaced v ws)

-- each value after `, `
abbrev pub after_commas : List (List ℕ) → List ℕ
after_commas [] = []
after_commas (v ∷ values) = (codes ",%20" ++ key_escaped v) ++ after_commas values

-- what is to come behind a value, or where there was none yet
abbrev pub to_come : Bool → List (List ℕ) → List ℕ
to_come true values = after_commas values
to_come false values = values_text values

escaped_append : (a b : List ℕ) → key_escaped (a ++ b) ≡ key_escaped a ++ key_escaped b
unfolding key_escaped
escaped_append a b = flat_map-append key_escaped_byte a b

comma : key_escaped (codes ", ") ≡ codes ",%20"
unfolding key_escaped percent_encode_byte
comma = refl

pub commas : (values : List (List ℕ)) → key_escaped (flat_map (λ v. codes ", " ++ v) values) ≡ after_commas values
unfolding key_escaped
commas [] = refl
commas (v ∷ values) =
    escaped_append (codes ", " ++ v) (flat_map (λ w. codes ", " ++ w) values)
    ∙ ap (λ t. t ++ key_escaped (flat_map (λ w. codes ", " ++ w) values))
    (escaped_append (codes ", ") v ∙ ap (λ t. t ++ key_escaped v) comma)
    ∙ ap (λ t. (codes ",%20" ++ key_escaped v) ++ t) (commas values)

-- the first value, and those behind it
pub first_value : (v : List ℕ) (values : List (List ℕ))
    → values_text (v ∷ values) ≡ key_escaped v ++ after_commas values
first_value v values = escaped_append v (flat_map (λ w. codes ", " ++ w) values)
    ∙ ap (λ t. key_escaped v ++ t) (commas values)

-- a value is put, and the rest comes behind it
pub next_value : (found : Bool) (v : List ℕ) (values : List (List ℕ))
    → ((if found then codes ",%20" else []) ++ key_escaped v) ++ to_come true values ≡ to_come found (v ∷ values)
next_value true v values = refl
next_value false v values = sym (first_value v values)

-- a loop that puts each text after a space, behind the first, puts them with a space between them
pub put_all : {A : Type 0} (f : A → List ℕ) (x : A) (xs all : List A) (i : ℕ) (to start end : List ℕ) → all ≡ x ∷ xs
    → start ≡ to ++ f x
    → end ++ after_spaces (map f (drop i xs)) ≡ start ++ after_spaces (map f xs) → length xs ≤ i
    → end ≡ to ++ join_with_byte 32 (map f all)
put_all f x xs all i to start end is began rest over =
    sym (append-nil end)
    ∙ ap (λ l. end ++ after_spaces (map f l)) (sym (drop_all i xs over))
    ∙ rest
    ∙ ap (λ t. t ++ after_spaces (map f xs)) began
    ∙ rw append_assoc (ap (λ t. to ++ t)
    (sym (spaced (f x) (map f xs)) ∙ ap (λ l. join_with_byte 32 (map f l)) (sym is)))

pub arguments_joined : (a : List ℕ) (arguments all : List (List ℕ)) → all ≡ a ∷ arguments
    → arguments_text all ≡ join_with_byte 32 (map key_escaped all)
arguments_joined a arguments all is = rw is refl

alike : (name : List ℕ) (f : Field) (fields : List Field) → str_eq_ignore_ascii_case f.name name ≡ true
    → field_values name (f ∷ fields) ≡ f.value ∷ field_values name fields
alike name f fields e = rw e refl

unlike : (name : List ℕ) (f : Field) (fields : List Field) → str_eq_ignore_ascii_case f.name name ≡ false
    → field_values name (f ∷ fields) ≡ field_values name fields
unlike name f fields e = rw e refl

-- a field of the name is put
pub one_put : (name : List ℕ) (fields : List Field) (i : ℕ) (f : Field) (found now : Bool) (to new whole : List ℕ)
    → drop i fields ≡ f ∷ drop (i + 1) fields
    → str_eq_ignore_ascii_case f.name name ≡ true → now ≡ true
    → new ≡ to ++ ((if found then codes ",%20" else []) ++ key_escaped f.value)
    → to ++ to_come found (field_values name (drop i fields)) ≡ whole
    → new ++ to_come now (field_values name (drop (i + 1) fields)) ≡ whole
one_put name fields i f found now to new whole here same turned put rest =
    ap (λ b. new ++ to_come b (field_values name (drop (i + 1) fields))) turned
    ∙ ap (λ t. t ++ to_come true (field_values name (drop (i + 1) fields))) put
    ∙ rw append_assoc
    (ap (λ t. to ++ t)
    (next_value found f.value (field_values name (drop (i + 1) fields))
    ∙ ap (to_come found) (sym (alike name f (drop (i + 1) fields) same) ∙ ap (field_values name) (sym here))))
    ∙ rest

-- a field of another name is passed over
pub one_passed : (name : List ℕ) (fields : List Field) (i : ℕ) (f : Field) (found now : Bool) (to new whole : List ℕ)
    → drop i fields ≡ f ∷ drop (i + 1) fields
    → str_eq_ignore_ascii_case f.name name ≡ false → now ≡ found → new ≡ to
    → to ++ to_come found (field_values name (drop i fields)) ≡ whole
    → new ++ to_come now (field_values name (drop (i + 1) fields)) ≡ whole
one_passed name fields i f found now to new whole here other kept put rest =
    ap (λ b. new ++ to_come b (field_values name (drop (i + 1) fields))) kept
    ∙ ap (λ t. t ++ to_come found (field_values name (drop (i + 1) fields))) put
    ∙ ap (λ vs. to ++ to_come found vs)
    (sym (unlike name f (drop (i + 1) fields) other) ∙ ap (field_values name) (sym here))
    ∙ rest
