-- Requests of one method and target, version and fields are the same.
use Rattle.std.proofs.Common.{◌≡◌, ℕ, ◌+◌, ◌<◌, List, length, get_or, nat_lt, Bool, true, false, Some, Decides, refl, sym, ap, ◌∙◌, arith}
use Rattle.std.proofs.lemmas.Bool.Decides.{nat_tests}
use Rattle.std.proofs.lemmas.List.{get_or_default}
use Rattle.sq_base.specs.Requests.{HttpRequest, IsRequest, shown_target}
use Rattle.sq_base.specs.Targets.{Target, target_of}
use Rattle.sq_base.specs.declared.requests.Field.{Field}

abbrev request_of : List ℕ → List ℕ → Target → ℕ → List Field → HttpRequest
request_of method target t minor fields =
    record {
      method = method;
      target = target;
      scheme = t.scheme;
      host = t.host;
      literal = t.literal;
      port = t.port;
      path = t.path;
      minor = minor;
      fields = fields;
    }

pub request_same : (a b : HttpRequest) → IsRequest a → IsRequest b → a.method ≡ b.method → a.target ≡ b.target
    → a.minor ≡ b.minor → a.fields ≡ b.fields → a ≡ b
request_same a b x y em et ea ef =
    let same : Some (shown_target a) ≡ Some (shown_target b) = sym x.parts ∙ ap (λ m. target_of m a.target) em
    ∙ ap (λ t. target_of b.method t) et ∙ y.parts in
    let parts : shown_target a ≡ shown_target b = cc in
    let first : request_of a.method a.target (shown_target a) a.minor a.fields
    ≡ request_of b.method a.target (shown_target a) a.minor a.fields =
    ap (λ m. request_of m a.target (shown_target a) a.minor a.fields) em in
    let second : request_of b.method a.target (shown_target a) a.minor a.fields
    ≡ request_of b.method b.target (shown_target a) a.minor a.fields =
    ap (λ t. request_of b.method t (shown_target a) a.minor a.fields) et in
    let third : request_of b.method b.target (shown_target a) a.minor a.fields
    ≡ request_of b.method b.target (shown_target b) a.minor a.fields =
    ap (λ t. request_of b.method b.target t a.minor a.fields) parts in
    let fourth : request_of b.method b.target (shown_target b) a.minor a.fields
    ≡ request_of b.method b.target (shown_target b) b.minor a.fields =
    ap (λ m. request_of b.method b.target (shown_target b) m a.fields) ea in
    let fifth : request_of b.method b.target (shown_target b) b.minor a.fields
    ≡ request_of b.method b.target (shown_target b) b.minor b.fields =
    ap (λ f. request_of b.method b.target (shown_target b) b.minor f) ef in
    first ∙ second ∙ third ∙ fourth ∙ fifth

abbrev field_of : List ℕ → List ℕ → Field
field_of name value = record { name = name; value = value }

-- fields of one name and value are the same
pub field_same : (a b : Field) → a.name ≡ b.name → a.value ≡ b.value → a ≡ b
field_same a b n v =
    let first : field_of a.name a.value ≡ field_of b.name a.value = ap (λ w. field_of w a.value) n in
    let second : field_of b.name a.value ≡ field_of b.name b.value = ap (λ w. field_of b.name w) v in
    first ∙ second

-- one more place where both lists have the same
pub next_same : (xs ys : List Field) (i : ℕ) (x y : Field) → i < length xs → i < length ys → x ≡ get_or xs i x
    → y ≡ get_or ys i y → x ≡ y → ((k : ℕ) (d : Field) → k < i → get_or xs k d ≡ get_or ys k d)
    → (k : ℕ) (d : Field) → k < i + 1 → get_or xs k d ≡ get_or ys k d
next_same xs ys i x y inx iny ex ey e before k d below = by (nat_lt k i) refl
  where
    by : (t : Bool) → nat_lt k i ≡ t → get_or xs k d ≡ get_or ys k d
    by true t = before k d (grind (arith, nat_tests))
    by false t = let same : k ≡ i = grind (arith, nat_tests) in
        rw same (get_or_default xs i d x inx ∙ sym ex ∙ e ∙ ey ∙ get_or_default ys i y d iny)

-- a place where they differ
pub differs : (xs ys : List Field) (i : ℕ) (x y : Field) (r : Bool) → i < length ys → x ≡ get_or xs i x
    → y ≡ get_or ys i y → (x ≡ y → r ≡ true) → r ≡ false → Decides false (xs ≡ ys)
differs xs ys i x y r iny ex ey f n = (
  λ e. absurd cc,
  λ e. let same : x ≡ y = ex ∙ ap (λ l. get_or l i x) e ∙ get_or_default ys i x y iny ∙ sym ey in
      sym n ∙ f same,
)

-- the same lists, by other names
pub decides_as : (r : Bool) (a b x y : List Field) → a ≡ x → b ≡ y → Decides r (a ≡ b) → Decides r (x ≡ y)
decides_as r a b x y p q d = (λ e. sym p ∙ d.0 e ∙ q, λ e. d.1 (p ∙ e ∙ sym q))
