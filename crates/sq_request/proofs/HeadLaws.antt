-- What the spans of a head say of its request.
use Rattle.std.proofs.Common.{◌≡◌, ℕ, ◌≤◌, List, true, take, map, Some, Result, Ok, Err, IfOk, IfErr, refl, sym, subst, ap, ◌∙◌, arith}
use Rattle.std.specs.List.{count_by}
use Rattle.httparse.specs.Grammar.{RequestHead, IsToken}
use Rattle.httparse.specs.Spans.{span_bytes, header_bytes}
use Rattle.httparse.specs.declared.spans.HeaderSpan.{HeaderSpan}
use Rattle.httparse.specs.declared.spans.RequestSpans.{RequestSpans}
use Rattle.sq_base.specs.Lines.{is_lf}
use Rattle.sq_base.specs.Requests.{HttpRequest, have_plain_names}
use Rattle.sq_base.specs.declared.requests.Field.{Field}
use Rattle.sq_request.proofs.FieldLaws.{fields_counted, count_of, plain_names}
use Rattle.sq_request.proofs.PairLaws.{fields_from_pairs}
use Rattle.sq_request.specs.declared.faults.BadRequest.{BadRequest}
use Rattle.sq_request.specs.declared.faults.BadRequest.TheVariants.{BadHead, TooManyFields, BadTarget, WantOfMemory}
use Rattle.sq_request.specs.Heads.{IsHead, fields_of, request_with, request_of, HasRequest}
use Rattle.sq_request.specs.Refusals.{RefusesHead, RefusesTarget}
use Rattle.sq_request.specs.Spans.{field_pair, Covers, CoversHead, HasMoreThan}

-- no head has more fields than lines
pub no_head : (room : ℕ) (head : List ℕ) (h : RequestHead) → HasMoreThan room head → room ≡ count_by is_lf head
    → IsHead head h → ⊥
no_head room head h more e whole = omega (arith, more h whole, fields_counted head h whole)

-- the fields that were copied are those of the head
pub copied : (head : List ℕ) (headers : List HeaderSpan) (s : RequestSpans) (h : RequestHead) (fs : List Field)
    → Covers head headers s h
    → map field_pair fs ≡ map (header_bytes head) (take s.headers headers) → fs ≡ fields_of h
copied head headers s h fs at e = fields_from_pairs fs h.fields (e ∙ at.fields)

-- so their names have no `:`
pub copied_plain : (head : List ℕ) (headers : List HeaderSpan) (s : RequestSpans) (fs : List Field)
    → CoversHead head headers s
    → map field_pair fs ≡ map (header_bytes head) (take s.headers headers) → have_plain_names fs ≡ true
copied_plain head headers s fs at e = ap have_plain_names (copied head headers s at.0 fs at.1 e)
    ∙ plain_names at.0.fields at.1.whole.0.fields

-- the method of the head is a token
pub spans_method : (head : List ℕ) (headers : List HeaderSpan) (s : RequestSpans) (m : List ℕ)
    → CoversHead head headers s → m ≡ span_bytes head s.method → IsToken m
spans_method head headers s m at e = subst IsToken (sym (e ∙ at.1.method)) at.1.whole.0.method

-- the request of what was read is that of the head
same_request : (head : List ℕ) (headers : List HeaderSpan) (s : RequestSpans) (h : RequestHead) (method target : List ℕ)
    (fs : List Field) → Covers head headers s h
    → method ≡ span_bytes head s.method → target ≡ span_bytes head s.path
    → map field_pair fs ≡ map (header_bytes head) (take s.headers headers)
    → request_with method target s.version fs ≡ request_of h
same_request head headers s h method target fs at m t e =
    let m' : method ≡ h.method = m ∙ at.method in
    let t' : target ≡ h.target = t ∙ at.target in
    let f' : fs ≡ fields_of h = copied head headers s h fs at e in
    rw (m', t', at.minor, f') refl

-- the clause of what is read
pub read_is : (head : List ℕ) (headers : List HeaderSpan) (s : RequestSpans) (method target : List ℕ) (fs : List Field)
    (result : Result HttpRequest BadRequest)
    → CoversHead head headers s → s.headers ≤ 128
    → method ≡ span_bytes head s.method → target ≡ span_bytes head s.path
    → map field_pair fs ≡ map (header_bytes head) (take s.headers headers)
    → IfOk result (λ r. request_with method target s.version fs ≡ Some r) → IfOk result (HasRequest head)
read_is head headers s method target fs (Ok r) at few m t e built = record {
  tree = at.0;
  whole = at.1.whole;
  few = count_of _ _ _ _ at.0.fields at.1.fields few;
  gives = sym (same_request head headers s at.0 method target fs at.1 m t e) ∙ built;
}
read_is head headers s method target fs (Err f) at few m t e built = tt

-- the clause of what is refused
pub refused_is : (head : List ℕ) (headers : List HeaderSpan) (s : RequestSpans) (method target : List ℕ)
    (fs : List Field) (result : Result HttpRequest BadRequest)
    → CoversHead head headers s → s.headers ≤ 128
    → method ≡ span_bytes head s.method → target ≡ span_bytes head s.path
    → map field_pair fs ≡ map (header_bytes head) (take s.headers headers)
    → IfErr result (RefusesTarget method target s.version fs) → IfErr result (RefusesHead head)
refused_is head headers s method target fs (Ok r) at few m t e fault = tt
refused_is head headers s method target fs (Err BadHead) at few m t e fault = absurd fault
refused_is head headers s method target fs (Err TooManyFields) at few m t e fault = absurd fault
refused_is head headers s method target fs (Err BadTarget) at few m t e fault = record {
  tree = at.0;
  whole = at.1.whole;
  few = count_of _ _ _ _ at.0.fields at.1.fields few;
  bad = sym (same_request head headers s at.0 method target fs at.1 m t e) ∙ fault;
}
refused_is head headers s method target fs (Err WantOfMemory) at few m t e fault = tt
