-- When a head is refused, and when parts are: RFC 9112 section 3 for its request line and target,
-- RFC 9110 section 5.4 for how many fields it may have.
use Rattle.std.specs.Prelude.{◌≡◌, ℕ, ◌<◌, ◌≤◌, List, length, None, Ok, Err, ⊤}
use Rattle.std.specs.declared.result.Result.{Result}
use Rattle.httparse.specs.Grammar.{RequestHead}
use Rattle.sq_base.specs.Requests.{HttpRequest}
use Rattle.sq_base.specs.declared.requests.Field.{Field}
use Rattle.sq_request.specs.declared.faults.BadRequest.{BadRequest}
use Rattle.sq_request.specs.declared.faults.BadRequest.TheVariants.{BadHead, TooManyFields, BadTarget, WantOfMemory}
use Rattle.sq_request.specs.Heads.{most_fields, IsHead, HasRequest, HasTooManyFields, HasBadTarget, IsWrittenHead, request_with}

-- the bytes are refused so
abbrev pub RefusesHead : List ℕ → BadRequest → Type 0
RefusesHead head BadHead = (h : RequestHead) → ¬ (IsHead head h)
RefusesHead head TooManyFields = HasTooManyFields head
RefusesHead head BadTarget = HasBadTarget head
RefusesHead head WantOfMemory = ⊤

-- the bytes come to this request, or to this refusal, by the grammar alone: whatever memory there
-- is
abbrev pub ComesTo : List ℕ → Result HttpRequest BadRequest → Type 0
ComesTo head (Ok r) = HasRequest head r
ComesTo head (Err BadHead) = (h : RequestHead) → ¬ (IsHead head h)
ComesTo head (Err TooManyFields) = HasTooManyFields head
ComesTo head (Err BadTarget) = HasBadTarget head
ComesTo head (Err WantOfMemory) = ⊥

-- parts are refused so, the head that is written of them first
abbrev pub RefusesParts : List ℕ → List ℕ → ℕ → List Field → BadRequest → Type 0
RefusesParts method target minor fields BadHead = ¬ (IsWrittenHead method target minor fields)
RefusesParts method target minor fields TooManyFields = IsWrittenHead method target minor fields
    × (most_fields < length fields)
RefusesParts method target minor fields BadTarget =
    IsWrittenHead method target minor fields × (length fields ≤ most_fields)
    × (request_with method target minor fields ≡ None)
RefusesParts method target minor fields WantOfMemory = ⊤

-- the target is refused so
abbrev pub RefusesTarget : List ℕ → List ℕ → ℕ → List Field → BadRequest → Type 0
RefusesTarget method target minor fields BadHead = ⊥
RefusesTarget method target minor fields TooManyFields = ⊥
RefusesTarget method target minor fields BadTarget = request_with method target minor fields ≡ None
RefusesTarget method target minor fields WantOfMemory = ⊤
