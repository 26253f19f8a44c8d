-- Of which parts a head can be written, by its test, and the request that is made of them.
use Rattle.std.proofs.Common.{◌≡◌, ◌≢◌, ◌↔◌, ℕ, ◌≤◌, List, [], ◌∷◌, ◌++◌, Bool, true, false, IsTrue, if◌then◌else◌, ◌&&◌, All, length, map, nat_le, ltb-true, lt-ltb, leb-true, le-leb, refl, sym, ap, ◌∙◌, arith, append-nil, append_assoc, codes, ◌+◌, Some, None}
use Rattle.std.proofs.lemmas.Bool.{and_from, and_parts, false_from_ne_true}
use Rattle.std.proofs.lemmas.Bool.Decides.{nat_tests}
use Rattle.std.proofs.lemmas.List.Elements.{All-nil, All-cons, All-head, All-tail}
use Rattle.std.proofs.lemmas.List.Sums.{AllPass-from_list_all, list_all-from_AllPass}
use Rattle.std.proofs.lemmas.Slice.Eq.{bytes_eq-Decides}
use Rattle.std.proofs.lemmas.Str.{IsUtf8-from_is_utf8, is_utf8-from_IsUtf8}
use Rattle.std.specs.List.{flat_map, list_all}
use Rattle.httparse.specs.Grammar.{crlf, print_request, print_field, RequestHead, IsRequestHead, IsField, AllPass, is_token, is_uri_byte, is_value_byte, trim_ows}
use Rattle.httparse.specs.Grammar as grammar
use Rattle.httparse.proofs.TrimLemmas.{AllPass-trim_ows}
use Rattle.sq_base.specs.declared.requests.Field.{Field}
use Rattle.std.specs.declared.option.Option.{Option}
use Rattle.sq_base.specs.Requests.{HttpRequest}
use Rattle.sq_request.proofs.MethodLaws.{token_is, token_tested}
use Rattle.sq_request.proofs.TrimLaws.{trim_twice}
use Rattle.sq_request.specs.declared.faults.BadRequest.{BadRequest}
use Rattle.sq_request.specs.declared.faults.BadRequest.TheVariants.{BadHead, TooManyFields, BadTarget, WantOfMemory}
use Rattle.sq_request.specs.Heads.{most_fields, field_of, field_line, head_text, request_with, IsWrittenHead}
use Rattle.sq_request.specs.Refusals.{RefusesParts}
use Rattle.sq_request.specs.Written.{made_request, is_written, is_written_target, is_written_field}

-- ---- one field

-- the line of a field, as it is written
tree_of : Field → grammar.Field
tree_of f = record { name = f.name; raw = 32 ∷ f.value; end = crlf }

value_trimmed : (f : Field) → is_written_field f ≡ true → trim_ows f.value ≡ f.value
value_trimmed f h = (bytes_eq-Decides _ _).0 (and_parts _ _ (and_parts _ _ h).1).1

field_is : (f : Field) → is_written_field f ≡ true → IsField (tree_of f)
unfolding tree_of
field_is f h =
    let parts = and_parts _ _ h in
    record {
      name = token_is f.name parts.0;
      raw = All-cons (λ b. IsTrue (is_value_byte b)) 32 f.value refl
          (AllPass-from_list_all is_value_byte f.value (and_parts _ _ parts.1).0);
    }

field_back : (f : Field) → is_written_field f ≡ true → field_of (tree_of f) ≡ f
unfolding tree_of trim_ows
field_back f h = ap (λ (v : List ℕ). let g : Field = record { name = f.name; value = v } in g) (value_trimmed f h)

field_written : (f : grammar.Field) → IsField f → is_written_field (field_of f) ≡ true
field_written f h =
    and_from _ _ (token_tested f.name h.name)
    (and_from _ _ (list_all-from_AllPass is_value_byte (trim_ows f.raw) (AllPass-trim_ows is_value_byte f.raw h.raw))
    ((bytes_eq-Decides _ _).1 (trim_twice f.raw)))

-- ---- all fields

fields_are : (fs : List Field) → list_all is_written_field fs ≡ true → All IsField (map tree_of fs)
fields_are [] h = All-nil IsField
fields_are (f ∷ fs) h = let parts = and_parts _ _ h in
    All-cons IsField (tree_of f) (map tree_of fs) (field_is f parts.0) (fields_are fs parts.1)

fields_back : (fs : List Field) → list_all is_written_field fs ≡ true → map field_of (map tree_of fs) ≡ fs
fields_back [] h = refl
fields_back (f ∷ fs) h = let parts = and_parts _ _ h in rw (field_back f parts.0, fields_back fs parts.1) refl

lines_are : (fs : List Field) → flat_map field_line fs ≡ flat_map print_field (map tree_of fs)
unfolding tree_of
lines_are [] = refl
lines_are (f ∷ fs) = ap (λ l. field_line f ++ l) (lines_are fs)

fields_written : (fields : List grammar.Field) → All IsField fields
    → list_all is_written_field (map field_of fields) ≡ true
fields_written [] h = refl
fields_written (f ∷ fs) h = and_from _ _ (field_written f (All-head IsField f fs h))
    (fields_written fs (All-tail IsField f fs h))

-- ---- the head

head_of : List ℕ → List ℕ → ℕ → List Field → RequestHead
head_of m t n fs = record {
  blank = [];
  method = m;
  target = t;
  minor = n;
  line_end = crlf;
  fields = map tree_of fs;
  last = crlf;
}

head_joined : (a v f e : List ℕ) (d : ℕ)
    → ((a ++ v) ++ (d ∷ 13 ∷ 10 ∷ f)) ++ e ≡ ((a ++ (v ++ d ∷ [])) ++ (13 ∷ 10 ∷ [])) ++ (f ++ e)
head_joined a v f e d = simp append_assoc

text_is : (m t : List ℕ) (n : ℕ) (fs : List Field) → head_text m t n fs ≡ print_request (head_of m t n fs) ++ []
unfolding head_text print_request head_of
text_is m t n fs =
    let same : head_text m t n fs ≡ print_request (head_of m t n fs) =
    rw (lines_are fs) (head_joined (m ++ 32 ∷ t) (codes " HTTP/1.") (flat_map print_field (map tree_of fs))
    (13 ∷ 10 ∷ []) (48 + n)) in
    same ∙ sym (append-nil (print_request (head_of m t n fs)))

head_is : (m t : List ℕ) (n : ℕ) (fs : List Field) → is_written m t n fs ≡ true → IsRequestHead (head_of m t n fs)
unfolding is_written head_of
head_is m t n fs h =
    let method = and_parts _ _ h in
    let target = and_parts _ _ method.1 in
    let some = and_parts _ _ target.0 in
    let text = and_parts _ _ some.1 in
    let minor = and_parts _ _ target.1 in
    record {
      method = token_is m method.0;
      target = (ltb-true _ _ some.0, AllPass-from_list_all is_uri_byte t text.0);
      target_text = IsUtf8-from_is_utf8 t text.1;
      minor = leb-true _ _ minor.0;
      fields = fields_are fs minor.1;
    }

writes : (m t : List ℕ) (n : ℕ) (fs : List Field) → is_written m t n fs ≡ true → IsWrittenHead m t n fs
unfolding is_written head_of
writes m t n fs h =
    let method = and_parts (is_token m) _ h in
    let target = and_parts (is_written_target t) _ method.1 in
    let minor = and_parts (nat_le n 1) _ target.1 in (
      head_of m t n fs,
      (head_is m t n fs h, text_is m t n fs),
      record { method = refl; target = refl; minor = refl; fields = fields_back fs minor.1 },
    )

head_written : (h : RequestHead) → IsRequestHead h → is_written h.method h.target h.minor (map field_of h.fields) ≡ true
unfolding is_written
head_written h is =
    and_from _ _ (token_tested h.method is.method)
    (and_from _ _
    (and_from _ _ (lt-ltb _ _ is.target.0)
    (and_from _ _ (list_all-from_AllPass is_uri_byte h.target is.target.1)
    (is_utf8-from_IsUtf8 h.target is.target_text)))
    (and_from _ _ (le-leb _ _ is.minor) (fields_written h.fields is.fields)))

tested : (m t : List ℕ) (n : ℕ) (fs : List Field) → IsWrittenHead m t n fs → is_written m t n fs ≡ true
tested m t n fs w =
    rw (← w.2.method, ← w.2.target, ← w.2.minor, ← w.2.fields) (head_written w.0 w.1.0)

-- the test decides
pub is_written_decides : (m t : List ℕ) (n : ℕ) (fs : List Field)
    → IsTrue (is_written m t n fs) ↔ IsWrittenHead m t n fs
is_written_decides m t n fs = (writes m t n fs, tested m t n fs)

-- ---- the request that is made

-- it is that of the parts, where the test and the limit let it be
made_by : (a b : Bool) (o : Option HttpRequest) → a ≡ true → b ≡ true → (if a && b then o else None) ≡ o
made_by a b o e f = rw (e, f) refl

-- the request that is made of a written head is that of its parts
pub made_is : (m t : List ℕ) (n : ℕ) (fs : List Field) → IsWrittenHead m t n fs → length fs ≤ most_fields
    → made_request m t n fs ≡ request_with m t n fs
made_is m t n fs w few = made_by (is_written m t n fs) (nat_le (length fs) most_fields) (request_with m t n fs)
    (tested m t n fs w) (le-leb _ _ few)

unmade_by : (a b : Bool) (o : Option HttpRequest) → a ≡ false → (if a && b then o else None) ≡ None
unmade_by a b o e = rw e refl

unmade_many : (a b : Bool) (o : Option HttpRequest) → b ≡ false → (if a && b then o else None) ≡ None
unmade_many true b o e = rw e refl
unmade_many false b o e = refl

unmade_target : (a : Bool) (o : Option HttpRequest) → o ≡ None → (if a then o else None) ≡ None
unmade_target true o e = e
unmade_target false o e = refl

made_parts : (a b : Bool) (o : Option HttpRequest) (r : HttpRequest) → (if a && b then o else None) ≡ Some r
    → (a ≡ true) × (b ≡ true) × (o ≡ Some r)
made_parts true true o r e = (refl, refl, e)
made_parts true false o r e = absurd (cc)
made_parts false b o r e = absurd (cc)

-- what a request that is made says of its parts
pub made_says : (m t : List ℕ) (n : ℕ) (fs : List Field) (r : HttpRequest) → made_request m t n fs ≡ Some r
    → IsWrittenHead m t n fs × (length fs ≤ most_fields) × (request_with m t n fs ≡ Some r)
made_says m t n fs r e =
    let parts = made_parts (is_written m t n fs) (nat_le (length fs) most_fields) (request_with m t n fs) r e in
    (writes m t n fs parts.0, leb-true _ _ parts.1, parts.2)

-- there is none where the parts are refused
pub unmade : (m t : List ℕ) (n : ℕ) (fs : List Field) (e : BadRequest) → RefusesParts m t n fs e → e ≢ WantOfMemory
    → made_request m t n fs ≡ None
unmade m t n fs BadHead refused other =
    unmade_by (is_written m t n fs) (nat_le (length fs) most_fields) (request_with m t n fs)
    (false_from_ne_true _ (λ h. refused (writes m t n fs h)))
unmade m t n fs TooManyFields refused other =
    unmade_many (is_written m t n fs) (nat_le (length fs) most_fields) (request_with m t n fs)
    (grind (arith, nat_tests, refused.1))
unmade m t n fs BadTarget refused other =
    unmade_target (is_written m t n fs && nat_le (length fs) most_fields) (request_with m t n fs) refused.2
unmade m t n fs WantOfMemory refused other = absurd (other refl)
