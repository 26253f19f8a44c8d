-- What the code's pieces of a line stand for.
use Rattle.std.specs.Prelude.{ℕ, List, [], ◌∷◌, Bool, true, false, if◌then◌else◌, Some, None}
use Rattle.std.specs.declared.option.Option.{Option}
use Rattle.percent_encoding.specs.Percent.{percent_decode}
use Rattle.sq_base.specs.declared.helpers.Pair.{Pair}
use Rattle.sq_base.specs.Replies.{PairsFound, unquoted}
use Rattle.sq_reply.specs.declared.words.Written.{Written}
use Rattle.sq_reply.specs.declared.words.PairAndRest.{PairAndRest}

-- the value of a pair as it is written
abbrev pub value_of : Written → List ℕ
value_of w = if w.in_quotes then unquoted false w.value.now else percent_decode w.value.now

-- the pair that is written so
abbrev pub written_pair : Written → Pair
written_pair w = record { key = w.key.now; value = value_of w }

abbrev pub pairs_of_one : Option Written → List Pair
pairs_of_one None = []
pairs_of_one (Some w) = written_pair w ∷ []

-- a piece's pairs, and what stands behind it
abbrev pub found : PairAndRest → PairsFound
found p = (pairs_of_one p.pair, p.rest.now)

-- there is a pair among these
abbrev pub has_any : List Pair → Bool
has_any [] = false
has_any (p ∷ ps) = true
