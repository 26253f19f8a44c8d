-- A field's word in pieces: its name, `:` and its value, each escaped.
use Rattle.std.proofs.Common.{◌≡◌, ℕ, List, [], ◌∷◌, ◌++◌, Bool, true, false, ◌&&◌, if◌then◌else◌, bytes_eq, nat_eq, codes, refl, sym, ap, ◌∙◌}
use Rattle.std.proofs.lemmas.Grind.{flat_map-append}
use Rattle.std.specs.List.{flat_map}
use Rattle.sq_base.specs.Escapes.{escaped, escaped_byte, text_word}
use Rattle.sq_base.specs.declared.requests.Field.{Field}
use Rattle.sq_journal.specs.EntryText.{field_word}

and_false : (b : Bool) → (b && false) ≡ false
and_false true = refl
and_false false = refl

-- a text of a byte that holds a colon is not `-`
no_dash : (b : ℕ) (bs value : List ℕ) → bytes_eq (b ∷ (bs ++ 58 ∷ value)) (codes "-") ≡ false
no_dash b [] value = and_false (nat_eq b 45)
no_dash b (c ∷ bs) value = and_false (nat_eq b 45)

plain_word : (name value : List ℕ) → text_word (name ++ 58 ∷ value) ≡ escaped (name ++ 58 ∷ value)
unfolding text_word
plain_word [] value = refl
plain_word (b ∷ bs) value = ap (λ t. if t then codes "%2D" else escaped (b ∷ (bs ++ 58 ∷ value))) (no_dash b bs value)

escaped_both : (name value : List ℕ) → escaped (name ++ 58 ∷ value) ≡ escaped name ++ (codes ":" ++ escaped value)
unfolding escaped
escaped_both name value = flat_map-append escaped_byte name (58 ∷ value)

-- a space and a field's word
pub field_text : (f : Field) → codes " " ++ (escaped f.name ++ (codes ":" ++ escaped f.value)) ≡ 32 ∷ field_word f
field_text f = ap (λ t. 32 ∷ t) (sym (plain_word f.name f.value ∙ escaped_both f.name f.value))
