-- The fields of a head: how many there are, and their names.
use Rattle.std.proofs.Common.{◌≡◌, ℕ, suc, ◌+◌, ◌≤◌, List, [], ◌∷◌, ◌++◌, true, not, ◌==◌, IsTrue, if◌then◌else◌, All, length, take, map, subst, ne_eqb, inl, inr, refl, ap, arith, length-take}
use Rattle.std.proofs.lemmas.Bool.{cases_eq}
use Rattle.std.proofs.lemmas.List.{length-map}
use Rattle.std.proofs.lemmas.List.Sums.{sum_by-append}
use Rattle.std.specs.List.{count_by, flat_map}
use Rattle.httparse.specs.Ascii.{space, colon}
use Rattle.httparse.specs.Grammar.{LineEnd, crlf, lf, print_end, print_blank, print_version, print_field, print_section, print_request, RequestHead, is_token_byte, AllPass, IsField}
use Rattle.httparse.specs.Grammar as grammar
use Rattle.sq_base.specs.Lines.{is_lf}
use Rattle.sq_base.specs.Requests.{has_no_colon, have_plain_names}
use Rattle.sq_request.specs.Heads.{IsHead, field_of}

count_append : (xs ys : List ℕ) → count_by is_lf (xs ++ ys) ≡ count_by is_lf xs + count_by is_lf ys
count_append xs ys = sum_by-append (λ b. if is_lf b then 1 else 0) xs ys

-- a line's end has one LF
end_counts : (e : LineEnd) → count_by is_lf (print_end e) ≡ 1
end_counts crlf = refl
end_counts lf = refl

field_counts : (f : grammar.Field) → 1 ≤ count_by is_lf (print_field f)
field_counts f =
    omega (arith, end_counts f.end, count_append (f.name ++ colon ∷ f.raw) (print_end f.end))

lines_count : (fields : List grammar.Field) → length fields ≤ count_by is_lf (flat_map print_field fields)
lines_count [] = omega arith
lines_count (f ∷ fs) =
    omega (arith, lines_count fs, field_counts f, count_append (print_field f) (flat_map print_field fs))

-- a head has no more fields than lines
pub fields_counted : (head : List ℕ) (h : RequestHead) → IsHead head h → length h.fields ≤ count_by is_lf head
unfolding print_request
fields_counted head h whole =
    let front = print_blank h.blank ++ h.method ++ space ∷ h.target ++ space ∷ print_version h.minor
    ++ print_end h.line_end in
    let lines = flat_map print_field h.fields in
    let e : head ≡ (front ++ print_section h.fields h.last) ++ [] = whole.1 in
    rw e (omega (
      arith,
      lines_count h.fields,
      count_append (front ++ print_section h.fields h.last) [],
      count_append front (print_section h.fields h.last),
      count_append lines (print_end h.last),
    ))

-- so there are as many fields as spans were written
pub count_of : {A B C : Type 0} (f : A → C) (g : B → C) (n : ℕ) (xs : List A) (ys : List B)
    → map f (take n xs) ≡ map g ys → n ≤ 128 → length ys ≤ 128
count_of f g n xs ys e le =
    let same : length (map f (take n xs)) ≡ length (map g ys) = ap length e in
    omega (arith, length-map (take n xs) f, length-map ys g, length-take n xs, same, le)

token_no_colon : (b : ℕ) → IsTrue (is_token_byte b) → not (b == 58) ≡ true
unfolding is_token_byte
token_no_colon b h =
    elim (cases_eq b 58) [
      | inl is ↦ let none : IsTrue (is_token_byte 58) = subst (λ x. IsTrue (is_token_byte x)) is h in absurd (cc)
      | inr other ↦ rw (ne_eqb b 58 other) refl
    ]

no_colon : (name : List ℕ) → AllPass is_token_byte name → has_no_colon name ≡ true
no_colon [] h = refl
no_colon (b ∷ bs) h = rw (token_no_colon b (h 0 0 (omega arith))) (no_colon bs (λ k d below. h (suc k) d (omega arith)))

-- the names of a head's fields have no `:`
pub plain_names : (fields : List grammar.Field) → All IsField fields → have_plain_names (map field_of fields) ≡ true
plain_names [] h = refl
plain_names (f ∷ fs) h = rw (no_colon f.name (h 0 f (omega arith)).name.1)
    (plain_names fs (λ k d below. h (suc k) d (omega arith)))
