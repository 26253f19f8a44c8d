-- What a client's input begins with: RFC 9112 sections 2.1 and 2.2 (empty lines before a head), 3.2
-- (Host).
use Rattle.std.specs.Prelude.{◌≡◌, ◌⊎◌, ℕ, ◌<◌, ◌≤◌, List, [], ◌∷◌, ◌++◌, length, Bool, true, false, not, ◌&&◌, ◌||◌, ◌==◌, count_by, if◌then◌else◌, codes, Some, None, ⊤}
use Rattle.std.specs.declared.option.Option.{Option}
use Rattle.std.specs.Str.{str_eq_ignore_ascii_case}
use Rattle.sq_base.specs.Bytes.{lf, cr}
use Rattle.sq_base.specs.Requests.{HttpRequest}
use Rattle.sq_base.specs.declared.requests.Field.{Field}
use Rattle.sq_request.specs.Endings.{head_end, IsWholeHead}
use Rattle.sq_request.specs.Heads.{HasRequest, HasTooManyFields, HasBadTarget}
use Rattle.sq_request.specs.Refusals.{RefusesHead}
use Rattle.sq_request.specs.declared.faults.BadRequest.TheVariants.{BadHead}
use Rattle.sq_message.specs.ReplyHeads.{most_bytes}
use Rattle.sq_forward.specs.Heads.{IsTooLarge}
use Rattle.sq_turns.specs.declared.beginning.Begun.{Begun}
use Rattle.sq_turns.specs.declared.beginning.Begun.TheVariants.{Asks, Nothing, Cut, TooLarge, Bad, Failed, WantOfMemory}

-- lines without a byte but one CR at most, each with its LF; the first bit says that a CR came
abbrev pub is_blank_from : Bool → List ℕ → Bool
is_blank_from after_cr [] = not after_cr
is_blank_from after_cr (b ∷ bs) = if b == lf then is_blank_from false bs
    else (not after_cr && b == cr && is_blank_from true bs)

abbrev pub is_blank : List ℕ → Bool
is_blank bytes = is_blank_from false bytes

-- the input begins with this head, and these bytes follow it
pub record HeadComes (input head rest : List ℕ) : Type 0 where
  pub cut : input ≡ head ++ rest
  pub whole : IsWholeHead head
  pub small : length head ≤ most_bytes

-- a head with too many fields comes
pub record TooManyCome (input : List ℕ) : Type 0 where
  pub head : List ℕ
  pub rest : List ℕ
  pub comes : HeadComes input head rest
  pub many : HasTooManyFields head

-- a head comes that is outside the grammar, or has a target that its method does not take
pub record BadComes (input : List ℕ) : Type 0 where
  pub head : List ℕ
  pub rest : List ℕ
  pub comes : HeadComes input head rest
  pub bad : RefusesHead head BadHead ⊎ HasBadTarget head

-- a request comes
pub record RequestComes (input : List ℕ) (r : HttpRequest) (rest : List ℕ) : Type 0 where
  pub head : List ℕ
  pub comes : HeadComes input head rest
  pub has : HasRequest head r

-- no head ends in the input, which has less bytes than a head may have, and more than empty lines
pub record CutComes (input : List ℕ) : Type 0 where
  pub endless : head_end input ≡ None
  pub short : length input < most_bytes
  pub begun : is_blank input ≡ false

-- what the input begins with: a request and what follows its head; nothing but empty lines, of
-- fewer bytes than a head may have; a head that the end cuts off; one that is too large, or
-- refused. That its link failed or that there was no memory says nothing of it
abbrev pub Begins : List ℕ → Begun → List ℕ → Type 0
Begins input (Asks r) rest = RequestComes input r rest
Begins input Nothing rest = (is_blank input ≡ true) × (length input < most_bytes)
Begins input Cut rest = CutComes input
Begins input TooLarge rest = IsTooLarge input ⊎ TooManyCome input
Begins input Bad rest = BadComes input
Begins input Failed rest = ⊤
Begins input WantOfMemory rest = ⊤

-- behind the head of a request that is what is left
abbrev pub LeavesRest : Begun → Option (List ℕ) → List ℕ → Type 0
LeavesRest (Asks r) left rest = left ≡ Some rest
LeavesRest Nothing left rest = ⊤
LeavesRest Cut left rest = ⊤
LeavesRest TooLarge left rest = ⊤
LeavesRest Bad left rest = ⊤
LeavesRest Failed left rest = ⊤
LeavesRest WantOfMemory left rest = ⊤

pub record BeginsSo (input : List ℕ) (left : Option (List ℕ)) (begun : Begun) : Type 0 where
  pub rest : List ℕ
  pub begins : Begins input begun rest
  pub left_is : LeavesRest begun left rest

-- the field is a Host field
abbrev pub is_host : Field → Bool
is_host f = str_eq_ignore_ascii_case f.name (codes "host")

-- one Host field, or none in version 1.0
abbrev pub fits_hosts : HttpRequest → Bool
fits_hosts r = count_by is_host r.fields == 1 || (count_by is_host r.fields == 0 && r.minor == 0)

-- an input that ends before a head does
abbrev pub ended_as : Bool → Begun
ended_as blank = if blank then Nothing else Cut
