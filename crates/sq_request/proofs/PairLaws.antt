-- Fields as pairs of a name and a value.
use Rattle.std.proofs.Common.{◌≡◌, ℕ, List, [], ◌∷◌, map, refl, sym, ap, ◌∙◌}
use Rattle.httparse.specs.Grammar as grammar
use Rattle.httparse.specs.Spans.{name_and_value}
use Rattle.sq_base.specs.declared.requests.Field.{Field}
use Rattle.sq_request.specs.Heads.{field_of}
use Rattle.sq_request.specs.Spans.{field_pair}

-- fields are told by their names and values
of_pair : List ℕ × List ℕ → Field
of_pair p = record { name = p.0; value = p.1 }

map_back : {A B C : Type 0} (f : A → B) (g : B → C) (h : A → C) (xs : List A) → ((x : A) → g (f x) ≡ h x)
    → map g (map f xs) ≡ map h xs
map_back f g h [] same = refl
map_back f g h (x ∷ xs) same = rw (same x, map_back f g h xs same) refl

map_same : {A : Type 0} (xs : List A) → map (λ x. x) xs ≡ xs
map_same [] = refl
map_same (x ∷ xs) = ap (λ t. x ∷ t) (map_same xs)

-- fields with the same names and values are the same
pub fields_from_pairs : (fs : List Field) (fields : List grammar.Field) → map field_pair fs ≡ map name_and_value fields
    → fs ≡ map field_of fields
unfolding of_pair
fields_from_pairs fs fields e =
    sym (map_same fs) ∙ sym (map_back field_pair of_pair (λ f. f) fs (λ f. refl)) ∙ ap (map of_pair) e
    ∙ map_back name_and_value of_pair field_of fields (λ f. refl)

-- and the other way round
pub pairs_from_fields : (fs : List Field) (fields : List grammar.Field) → map field_of fields ≡ fs
    → map name_and_value fields ≡ map field_pair fs
pairs_from_fields fs fields e = sym (map_back field_of field_pair name_and_value fields (λ f. refl))
    ∙ ap (map field_pair) e
