-- A head is one request, or is refused in one way: the grammar has one tree for it.
use Rattle.std.proofs.Common.{◌≡◌, ℕ, List, [], length, Result, Ok, Err, refl, sym, ap, ◌∙◌, arith}
use Rattle.std.proofs.lemmas.Option.{none-some, same_Some}
use Rattle.httparse.specs.Grammar.{RequestHead}
use Rattle.httparse.proofs.GrammarLemmas.{request_unique}
use Rattle.sq_base.specs.Requests.{HttpRequest}
use Rattle.sq_request.specs.declared.faults.BadRequest.{BadRequest}
use Rattle.sq_request.specs.declared.faults.BadRequest.TheVariants.{BadHead, TooManyFields, BadTarget, WantOfMemory}
use Rattle.sq_request.specs.Heads.{IsHead, request_of, HasRequest, HasTooManyFields, HasBadTarget}
use Rattle.sq_request.specs.Refusals.{ComesTo}

same_tree : (head : List ℕ) (h k : RequestHead) → IsHead head h → IsHead head k → h ≡ k
same_tree head h k p q = (request_unique head h k [] [] p q).0

two_requests : (head : List ℕ) (r s : HttpRequest) → HasRequest head r → HasRequest head s → r ≡ s
two_requests head r s a b =
    same_Some r s (sym a.gives ∙ ap request_of (same_tree head a.tree b.tree a.whole b.whole) ∙ b.gives)

request_not_many : (head : List ℕ) (r : HttpRequest) → HasRequest head r → HasTooManyFields head → ⊥
request_not_many head r a b =
    let count : length a.tree.fields ≡ length b.tree.fields =
    ap (λ h. length h.fields) (same_tree head a.tree b.tree a.whole b.whole) in
    omega (arith, count, a.few, b.many)

request_not_bad : (head : List ℕ) (r : HttpRequest) → HasRequest head r → HasBadTarget head → ⊥
request_not_bad head r a b =
    none-some r (sym b.bad ∙ ap request_of (same_tree head b.tree a.tree b.whole a.whole) ∙ a.gives)

many_not_bad : (head : List ℕ) → HasTooManyFields head → HasBadTarget head → ⊥
many_not_bad head a b =
    let count : length a.tree.fields ≡ length b.tree.fields =
    ap (λ h. length h.fields) (same_tree head a.tree b.tree a.whole b.whole) in
    omega (arith, count, a.many, b.few)

-- no two of a request and the refusals hold of the same bytes
pub head_one : (head : List ℕ) (a b : Result HttpRequest BadRequest) → ComesTo head a → ComesTo head b → a ≡ b
head_one head (Ok r) (Ok s) p q = ap (λ x. Ok x) (two_requests head r s p q)
head_one head (Ok r) (Err BadHead) p q = absurd (q p.tree p.whole)
head_one head (Ok r) (Err TooManyFields) p q = absurd (request_not_many head r p q)
head_one head (Ok r) (Err BadTarget) p q = absurd (request_not_bad head r p q)
head_one head (Ok r) (Err WantOfMemory) p q = absurd q
head_one head (Err BadHead) (Ok s) p q = absurd (p q.tree q.whole)
head_one head (Err BadHead) (Err BadHead) p q = refl
head_one head (Err BadHead) (Err TooManyFields) p q = absurd (p q.tree q.whole)
head_one head (Err BadHead) (Err BadTarget) p q = absurd (p q.tree q.whole)
head_one head (Err BadHead) (Err WantOfMemory) p q = absurd q
head_one head (Err TooManyFields) (Ok s) p q = absurd (request_not_many head s q p)
head_one head (Err TooManyFields) (Err BadHead) p q = absurd (q p.tree p.whole)
head_one head (Err TooManyFields) (Err TooManyFields) p q = refl
head_one head (Err TooManyFields) (Err BadTarget) p q = absurd (many_not_bad head p q)
head_one head (Err TooManyFields) (Err WantOfMemory) p q = absurd q
head_one head (Err BadTarget) (Ok s) p q = absurd (request_not_bad head s q p)
head_one head (Err BadTarget) (Err BadHead) p q = absurd (q p.tree p.whole)
head_one head (Err BadTarget) (Err TooManyFields) p q = absurd (many_not_bad head q p)
head_one head (Err BadTarget) (Err BadTarget) p q = refl
head_one head (Err BadTarget) (Err WantOfMemory) p q = absurd q
head_one head (Err WantOfMemory) b p q = absurd p
