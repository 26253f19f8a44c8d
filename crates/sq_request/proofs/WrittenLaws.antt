-- When the head that is written of some parts reads as these parts.
use Rattle.std.proofs.Common.{◌≡◌, ◌↔◌, ℕ, ◌<◌, List, [], Bool, true, false, IsTrue, length, take, map, get_or, sym, subst, ap, ◌∙◌}
use Rattle.std.proofs.lemmas.List.{get_or-map}
use Rattle.httparse.specs.Grammar.{IsToken}
use Rattle.httparse.specs.Spans.{header_bytes, name_and_value}
use Rattle.httparse.specs.declared.spans.HeaderSpan.{HeaderSpan}
use Rattle.httparse.specs.declared.spans.RequestSpans.{RequestSpans}
use Rattle.httparse.proofs.GrammarLemmas.{request_unique}
use Rattle.sq_base.specs.Requests.{have_plain_names}
use Rattle.sq_base.specs.declared.requests.Field.{Field}
use Rattle.sq_request.proofs.FieldLaws.{plain_names}
use Rattle.sq_request.proofs.PairLaws.{fields_from_pairs, pairs_from_fields}
use Rattle.sq_request.specs.Heads.{IsHead, head_text, IsWrittenHead}
use Rattle.sq_request.specs.Spans.{field_pair, CoversHead, CoversLine}

-- its method is one
pub written_method : (m t : List ℕ) (n : ℕ) (fs : List Field) → IsWrittenHead m t n fs → IsToken m
written_method m t n fs w = subst IsToken w.2.method w.1.0.method

-- its fields have plain names
pub written_names : (m t : List ℕ) (n : ℕ) (fs : List Field) → IsWrittenHead m t n fs → have_plain_names fs ≡ true
written_names m t n fs w = ap have_plain_names (sym w.2.fields) ∙ plain_names w.0.fields w.1.0.fields

-- the spans of such a head cover its parts
covers_parts : (head : List ℕ) (headers : List HeaderSpan) (s : RequestSpans) (m t : List ℕ) (n : ℕ) (fs : List Field)
    → CoversHead head headers s → head ≡ head_text m t n fs
    → IsWrittenHead m t n fs
    → CoversLine head s m t n × (map (header_bytes head) (take s.headers headers) ≡ map field_pair fs)
covers_parts head headers s m t n fs at e w =
    let whole : IsHead head w.0 = subst (λ x. IsHead x w.0) (sym e) w.1 in
    let same : at.0 ≡ w.0 = (request_unique head at.0 w.0 [] [] at.1.whole whole).0 in (
      record {
        method = at.1.method ∙ ap (λ h. h.method) same ∙ w.2.method;
        target = at.1.target ∙ ap (λ h. h.target) same ∙ w.2.target;
        minor = at.1.minor ∙ ap (λ h. h.minor) same ∙ w.2.minor;
      },
      at.1.fields ∙ ap (λ h. map name_and_value h.fields) same ∙ pairs_from_fields fs w.0.fields w.2.fields,
    )

-- spans that cover the parts are those of such a head
parts_covered : (head : List ℕ) (headers : List HeaderSpan) (s : RequestSpans) (m t : List ℕ) (n : ℕ) (fs : List Field)
    → CoversHead head headers s → head ≡ head_text m t n fs
    → CoversLine head s m t n → map (header_bytes head) (take s.headers headers) ≡ map field_pair fs
    → IsWrittenHead m t n fs
parts_covered head headers s m t n fs at e line fields = (
  at.0,
  subst (λ x. IsHead x at.0) e at.1.whole,
  record {
    method = sym at.1.method ∙ line.method;
    target = sym at.1.target ∙ line.target;
    minor = sym at.1.minor ∙ line.minor;
    fields = sym (fields_from_pairs fs at.0.fields (sym fields ∙ at.1.fields));
  },
)

-- a first line that differs is of no such head
pub line_differs : (head : List ℕ) (headers : List HeaderSpan) (s : RequestSpans) (m t : List ℕ) (n : ℕ)
    (fs : List Field) (b : Bool) → CoversHead head headers s → head ≡ head_text m t n fs
    → (IsTrue b ↔ CoversLine head s m t n) → b ≡ false → IsWrittenHead m t n fs → IsTrue false
line_differs head headers s m t n fs b at e line differs w =
    subst IsTrue differs (line.1 (covers_parts head headers s m t n fs at e w).0)

-- where the first line is the same, the fields decide
pub fields_decide : (head : List ℕ) (headers : List HeaderSpan) (s : RequestSpans) (m t : List ℕ) (n : ℕ)
    (fs : List Field) (a b : Bool) → CoversHead head headers s → head ≡ head_text m t n fs
    → (IsTrue a ↔ CoversLine head s m t n) → a ≡ true
    → (IsTrue b ↔ (map (header_bytes head) (take s.headers headers) ≡ map field_pair fs))
    → IsTrue b ↔ IsWrittenHead m t n fs
fields_decide head headers s m t n fs a b at e line holds fields = (
  λ h. parts_covered head headers s m t n fs at e (line.0 holds) (fields.0 h),
  λ w. fields.1 (covers_parts head headers s m t n fs at e w).1,
)

-- lists that agree, agree at each place
pub map_at : {A B C : Type 0} (f : A → C) (g : B → C) (xs : List A) (ys : List B) (i : ℕ) (d : A) (e : B)
    → map f xs ≡ map g ys → i < length xs → i < length ys
    → f (get_or xs i d) ≡ g (get_or ys i e)
map_at f g xs ys i d e same below below' =
    sym (get_or-map f xs i d (f d) below) ∙ ap (λ l. get_or l i (f d)) same ∙ get_or-map g ys i e (f d) below'
