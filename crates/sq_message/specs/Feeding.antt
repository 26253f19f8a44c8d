-- What a cursor does with a piece of a body.
use Rattle.std.specs.Prelude.{◌≡◌, ℕ, ◌<◌, ◌≤◌, List, [], ◌++◌, length, take, drop, Bool, true, false, ◌&&◌, nat_lt, nat_le}
use Rattle.sq_message.specs.declared.body_state.BodyState.{BodyState}
use Rattle.sq_message.specs.declared.body_state.BodyState.TheVariants.{Plain, Open, Line, Data, Refused}
use Rattle.sq_base.specs.declared.plans.BodyPlan.{BodyPlan}
use Rattle.sq_message.specs.Bodies.{line_limit, after, walk, body_of, is_whole_body, is_refused}
use Rattle.sq_message.specs.ChunkLines.{LineSoFar, Whole, Never, chunk_line_of}

-- the bytes so far are no line yet, and may become one
abbrev pub may_be_whole : LineSoFar → Bool
may_be_whole (Whole size) = false
may_be_whole Never = false
may_be_whole l = true

-- the same, and there is room for a byte more
abbrev pub is_sound_line : List ℕ → Bool
is_sound_line text = may_be_whole (chunk_line_of text) && nat_lt (length text) line_limit

-- a chunk line so far may become one, and has room
abbrev pub is_sound : BodyState → Bool
is_sound (Line text) = is_sound_line text
is_sound p = true

-- so many bytes from here are data, as far as they are of the body
abbrev pub is_data : BodyState → ℕ → Bool
is_data (Plain left) n = true
is_data Open n = true
is_data (Data left) n = nat_le n left
is_data p n = false

-- the first n bytes were taken: the rest leads from there to the end of the whole
pub record TakesFront (chunked : Bool) (p : BodyState) (rest : List ℕ) (q : BodyState) (n : ℕ)
    (before now : List ℕ) : Type 0 where
  pub grown : List ℕ
  pub wrote : now ≡ before ++ grown
  pub some : 0 < n
  pub within : n ≤ length rest
  pub walks : walk chunked p rest ≡ after grown (walk chunked q (drop n rest))
  pub sound : is_sound q ≡ true

-- the input was taken, up to the end of the body
pub record Feeds (chunked : Bool) (p : BodyState) (input : List ℕ) (q : BodyState) (used : ℕ)
    (ended : Bool) (before now : List ℕ) : Type 0 where
  pub grown : List ℕ
  pub wrote : now ≡ before ++ grown
  pub within : used ≤ length input
  pub walks : walk chunked p input ≡ record { place = q; out = grown; rest = drop used input }
  pub done : ended ≡ is_whole_body q
  pub going : is_refused q ≡ false

-- the first n bytes of the input were taken, and go out as they are
pub record Passes (p : BodyState) (input : List ℕ) (q : BodyState) (n : ℕ) : Type 0 where
  pub fed : (chunked : Bool) → Feeds chunked p input q n (is_whole_body q) [] (take n input)
  pub sound : is_sound q ≡ true

-- the input is refused, and what stands before that was written
pub record Spoils (chunked : Bool) (p : BodyState) (input : List ℕ) (q : BodyState)
    (before now : List ℕ) : Type 0 where
  pub grown : List ℕ
  pub wrote : now ≡ before ++ grown
  pub place : q ≡ Refused
  pub walks : walk chunked p input ≡ record { place = Refused; out = grown; rest = [] }

-- a front of what the input gives was written
pub record WroteOfBody (chunked : Bool) (p : BodyState) (input : List ℕ)
    (before now : List ℕ) : Type 0 where
  pub grown : List ℕ
  pub more : List ℕ
  pub wrote : now ≡ before ++ grown
  pub gives : (walk chunked p input).out ≡ grown ++ more

-- these bytes of a body lead to this place, and it goes on
abbrev pub Follows : BodyPlan → Bool → List ℕ → BodyState → Type 0
Follows plan chunked before p = ((body_of plan chunked before).place ≡ p)
    × (is_whole_body p ≡ false)

-- the bytes before and the input give what the bytes before gave, and what was put at the end now;
-- the input is left behind its used bytes
pub record Joins (plan : BodyPlan) (chunked : Bool) (before input : List ℕ) (q : BodyState)
    (used : ℕ) (old now : List ℕ) : Type 0 where
  pub grown : List ℕ
  pub wrote : now ≡ old ++ grown
  pub whole : body_of plan chunked (before ++ input)
      ≡ record {
        place = q;
        out = (body_of plan chunked before).out ++ grown;
        rest = drop used input;
      }

-- the same where the bytes are refused
pub record JoinsBad (plan : BodyPlan) (chunked : Bool) (before input : List ℕ)
    (old now : List ℕ) : Type 0 where
  pub grown : List ℕ
  pub wrote : now ≡ old ++ grown
  pub whole : body_of plan chunked (before ++ input)
      ≡ record { place = Refused; out = (body_of plan chunked before).out ++ grown; rest = [] }
