-- Header fields of an `ask`, up to the first word that is none.
use Rattle.std.proofs.Common.{◌≡◌, ℕ, ◌+◌, ◌<◌, List, [], ◌∷◌, ◌++◌, length, Bool, true, false, not, Some, None, Option, cond, suc, nat_lt, codes, map, take, drop, position, option_and_then, arith, refl, sym, ap, subst, ◌∙◌, length-append, ltb-true}
use Rattle.std.proofs.Math.Seq.{take-append_seam}
use Rattle.std.proofs.lemmas.Bool.Decides.{nat_tests}
use Rattle.std.proofs.lemmas.List.{drop-drop}
use Rattle.std.proofs.lemmas.List.Elements.{All-append, All-cons, All-take, All-drop}
use Rattle.std.proofs.lemmas.List.Sums.{split_at_first, passes_at_first}
use Rattle.std.specs.List.{position_or_len, prefix_len, before_first, after_first}
use Rattle.std.proofs.lemmas.Option.{same_Some, none-some}
use Rattle.std.proofs.lemmas.Bool.{and_from, and_parts}
use Rattle.sq_base.proofs.CommonLaws.{then_some}
use Rattle.sq_base.specs.Requests.{has_no_colon, have_plain_names}
use Rattle.sq_base.specs.Escapes.{text_of, text_word}
use Rattle.sq_base.specs.declared.requests.Field.{Field}
use Rattle.sq_journal.specs.EntryText.{field_word}
use Rattle.sq_rules.specs.Steps.{WordList}
use Rattle.sq_journal.specs.Reading.{field_at, cut_field, field_from, fields_from, fields_in, with_field}
use Rattle.sq_base.specs.Addresses.{is_colon}
use Rattle.sq_base.specs.Texts.{AreBytes}
use Rattle.sq_journal.specs.Values.{IsField, AreFields}
use Rattle.sq_journal.proofs.FieldLaws.{IsRead, TakesOnly, bind_is}
use Rattle.sq_journal.proofs.LineLaws.{AreWords, ArePlain}
use Rattle.sq_journal.proofs.WordLaws.{ExactWord, text_exact, no_arrow}

-- a field of bytes, whose name has no `:`
abbrev pub FitsField : Field → Type 0
FitsField f = IsField f × (has_no_colon f.name ≡ true)

abbrev not_colon : ℕ → Bool
not_colon b = not (is_colon b)

-- the first colon stands behind a name without one
name_len : (name more : List ℕ) → has_no_colon name ≡ true → prefix_len not_colon (name ++ 58 ∷ more) ≡ length name
name_len [] more h = refl
name_len (b ∷ bs) more h =
    let both = and_parts (not_colon b) (has_no_colon bs) h in
    rw (both.0, name_len bs more both.1) (omega arith)

found_colon : (text : List ℕ) (k : ℕ) → position_or_len is_colon text ≡ k → k < length text
    → position is_colon text ≡ Some k
found_colon text k e l =
    let inside : nat_lt (position_or_len is_colon text) (length text) ≡ true = grind (arith, nat_tests, e) in
    rw (inside, e) refl

drop_seam : (xs ys : List ℕ) → drop (length xs) (xs ++ ys) ≡ ys
drop_seam [] ys = refl
drop_seam (x ∷ xs) ys = drop_seam xs ys

-- the text of a field is cut into that field
pub cut_again : (f : Field) → has_no_colon f.name ≡ true → cut_field (f.name ++ 58 ∷ f.value) ≡ Some f
unfolding cut_field
cut_again f h =
    let text = f.name ++ 58 ∷ f.value in
    let inside : length f.name < length text = omega (arith, length-append f.name (58 ∷ f.value)) in
    let at : position is_colon text ≡ Some (length f.name) =
    found_colon text (length f.name) (name_len f.name f.value h) inside in
    let front : take (length f.name) text ≡ f.name = take-append_seam f.name (58 ∷ f.value) in
    let back : drop (length f.name + 1) text ≡ f.value = sym (drop-drop 1 (length f.name) text)
    ∙ ap (drop 1) (drop_seam f.name (58 ∷ f.value)) in
    ap (field_at text) at ∙ rw (front, back) refl

-- before the first colon stands none
front_at : (b : ℕ) (bs : List ℕ) (t : Bool) (k : ℕ) → not_colon b ≡ t → k ≡ suc (prefix_len not_colon bs)
    → has_no_colon (take (prefix_len not_colon bs) bs) ≡ true
    → has_no_colon (take (cond t k 0) (b ∷ bs)) ≡ true
front_at b bs true k e n h = rw n (and_from (not_colon b) (has_no_colon (take (prefix_len not_colon bs) bs)) e h)
front_at b bs false k e n h = refl

front_plain : (text : List ℕ) → has_no_colon (take (prefix_len not_colon text) text) ≡ true
front_plain [] = refl
front_plain (b ∷ bs) = front_at b bs (not_colon b) (1 + prefix_len not_colon bs) refl (omega arith) (front_plain bs)

at_colon : (b : ℕ) → is_colon b ≡ true → b ≡ 58
at_colon b h = grind (arith, nat_tests, h)

cond_found : (t : Bool) (n m k : ℕ) → nat_lt n m ≡ t → cond t (Some n) None ≡ Some k → (k ≡ n) × (k < m)
cond_found true n m k is e = let same : n ≡ k = same_Some n k e in (sym same, omega (arith, ltb-true n m is, same))
cond_found false n m k is e = absurd (none-some k e)

cut_found : (text : List ℕ) (k : ℕ) → position is_colon text ≡ Some k
    → (k ≡ position_or_len is_colon text) × (k < length text)
cut_found text k e = cond_found (nat_lt (position_or_len is_colon text) (length text)) (position_or_len is_colon text)
    (length text) k refl e

cut_by_place : (text : List ℕ) (o : Option ℕ) (f : Field) → position is_colon text ≡ o → field_at text o ≡ Some f
    → (text ≡ f.name ++ 58 ∷ f.value) × (has_no_colon f.name ≡ true) × (AreBytes text → IsField f)
cut_by_place text None f is e = absurd (none-some f e)
cut_by_place text (Some k) f is e =
    let c = cut_found text k is in
    let inside : position_or_len is_colon text < length text = omega (arith, c.0, c.1) in
    let whole = split_at_first is_colon text 0 inside in
    let colon = at_colon _ (passes_at_first is_colon text 0 inside) in
    let parts : text ≡ take k text ++ 58 ∷ drop (k + 1) text =
    rw c.0 (subst (λ b. text ≡ before_first is_colon text ++ b ∷ after_first is_colon text) colon whole) in
    let name : has_no_colon (take k text) ≡ true = rw c.0 (front_plain text) in
    subst (λ g. (text ≡ g.name ++ 58 ∷ g.value) × (has_no_colon g.name ≡ true) × (AreBytes text → IsField g))
    (same_Some (record { name = take k text; value = drop (k + 1) text }) f e)
    (parts, name, λ small. (All-take (λ b. b < 256) k text small, All-drop (λ b. b < 256) (k + 1) text small))

-- a text that is cut is that of the field
pub cut_takes : (text : List ℕ) (f : Field) → cut_field text ≡ Some f
    → (text ≡ f.name ++ 58 ∷ f.value) × (has_no_colon f.name ≡ true) × (AreBytes text → IsField f)
unfolding cut_field
cut_takes text f e = cut_by_place text (position is_colon text) f refl e

field_bytes : (f : Field) → IsField f → AreBytes (f.name ++ 58 ∷ f.value)
field_bytes f h = All-append (λ b. b < 256) f.name (58 ∷ f.value) h.0
    (All-cons (λ b. b < 256) 58 f.value (omega arith) h.1)

field_again : (f : Field) → FitsField f → field_from (field_word f) ≡ Some f
unfolding field_from
field_again f h =
    bind_is (text_of (field_word f)) cut_field (f.name ++ 58 ∷ f.value) f
    (text_exact.again (f.name ++ 58 ∷ f.value) (field_bytes f h.0)) (cut_again f h.1)

field_takes : (w : List ℕ) (f : Field) → AreBytes w → field_from w ≡ Some f → (w ≡ field_word f) × FitsField f
unfolding field_from
field_takes w f small e =
    let s = then_some cut_field (text_of w) f e in
    let t = text_exact.takes w s.0 small s.1 in
    let c = cut_takes s.0 f s.2 in
    (t.0 ∙ ap text_word c.0, (c.2 t.1, c.1))

-- the words of fields
pub field_exact : ExactWord field_from field_word FitsField
field_exact = record {
  again = field_again;
  takes = field_takes;
  plain = λ f h. text_exact.plain (f.name ++ 58 ∷ f.value) (field_bytes f h.0);
}

-- no field stands next
abbrev pub EndsFields : WordList → Type 0
EndsFields [] = Unit {0}
EndsFields (w ∷ ws) = field_from w ≡ None

-- `=>` is no field
pub arrow_ends : (ws : WordList) → EndsFields (codes "=>" ∷ ws)
unfolding field_from
arrow_ends ws = ap (option_and_then cut_field) no_arrow

none_next : (rest : WordList) → EndsFields rest → fields_from rest ≡ ([], rest)
none_next [] h = refl
none_next (w ∷ ws) h = ap (λ o. with_field o (w ∷ ws) (fields_from ws)) h

-- fields that were written are read, where no field follows
pub fields_again : (fs : List Field) (rest : WordList) → AreFields fs → have_plain_names fs ≡ true → EndsFields rest
    → fields_from (map field_word fs ++ rest) ≡ (fs, rest)
fields_again [] rest small names end = none_next rest end
fields_again (f ∷ fs) rest small names end =
    let both = and_parts (has_no_colon f.name) (have_plain_names fs) names in
    let first : field_from (field_word f) ≡ Some f = field_again f (small.0, both.0) in
    ap (λ o. with_field o (field_word f ∷ map field_word fs ++ rest) (fields_from (map field_word fs ++ rest))) first
    ∙ ap (λ p. (f ∷ p.0, p.1)) (fields_again fs rest small.1 both.1 end)

-- the fields that were read, and the words that were left
pub record AreRead (ws : WordList) (fs : List Field) (rest : WordList) : Type 0 where
  pub whole : ws ≡ map field_word fs ++ rest
  pub fit : AreFields fs
  pub names : have_plain_names fs ≡ true
  pub left : AreWords rest

with_read : (w : List ℕ) (ws : WordList) (o : Option Field) → field_from w ≡ o → AreBytes w → AreWords ws
    → AreRead ws (fields_from ws).0 (fields_from ws).1
    → AreRead (w ∷ ws) (with_field o (w ∷ ws) (fields_from ws)).0 (with_field o (w ∷ ws) (fields_from ws)).1
with_read w ws None is small smalls more = record { whole = refl; fit = tt; names = refl; left = (small, smalls) }
with_read w ws (Some f) is small smalls more =
    let t = field_takes w f small is in
    record {
      whole = ap (λ v. v ∷ ws) t.0 ∙ ap (λ l. field_word f ∷ l) more.whole;
      fit = (t.1.0, more.fit);
      names = and_from (has_no_colon f.name) (have_plain_names (fields_from ws).0) t.1.1 more.names;
      left = more.left;
    }

-- the fields that stand first, whatever the words
pub fields_read : (ws : WordList) → AreWords ws → AreRead ws (fields_from ws).0 (fields_from ws).1
fields_read [] small = record { whole = refl; fit = tt; names = refl; left = tt }
fields_read (w ∷ ws) small = with_read w ws (field_from w) refl small.0 small.1 (fields_read ws small.1)

-- no word of a field has a space
pub fields_plain : (fs : List Field) → AreFields fs → ArePlain (map field_word fs)
fields_plain [] small = tt
fields_plain (f ∷ fs) small = (
  text_exact.plain (f.name ++ 58 ∷ f.value) (field_bytes f small.0),
  fields_plain fs small.1,
)

-- the fields of an event
abbrev pub FitFields : List Field → Type 0
FitFields fs = AreFields fs × (have_plain_names fs ≡ true)

-- no fields are read but those that were written
pub fields_takes : TakesOnly fields_in (map field_word) FitFields
fields_takes = record {
  of = λ ws y small e.
      let t = fields_read ws small in
      subst (λ z. IsRead (map field_word) FitFields ws z) (same_Some (fields_from ws) y e)
      (t.whole, (t.fit, t.names), t.left);
}
