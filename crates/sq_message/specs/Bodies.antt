-- The body of a message, a byte at a time: RFC 9112 sections 6.3 (its length), 7.1 (chunks) and
-- 7.1.2 (trailers).
use Rattle.std.specs.Prelude.{ℕ, ◌+◌, ◌-◌, ◌^◌, List, [], ◌∷◌, ◌++◌, length, Bool, true, false, if◌then◌else◌, ◌==◌, nat_lt}
use Rattle.std.specs.Fmt.{digits}
use Rattle.sq_base.specs.declared.plans.BodyPlan.{BodyPlan}
use Rattle.sq_base.specs.declared.plans.BodyPlan.TheVariants as plan
use Rattle.sq_message.specs.declared.body_state.Mark.{Mark}
use Rattle.sq_message.specs.declared.body_state.Mark.TheVariants.{Begin, BeginCr, Inside, InsideCr}
use Rattle.sq_message.specs.declared.body_state.BodyState.{BodyState}
use Rattle.sq_message.specs.declared.body_state.BodyState.TheVariants.{Plain, Open, Line, Data, Feed, Trailer, Done, Refused}
use Rattle.sq_message.specs.ChunkLines.{LineSoFar, Start, Digits, Blank, Extension, Closing, Whole, Never, chunk_line_of}

-- the most bytes of a chunk line, with its CRLF
abbrev pub line_limit : ℕ
line_limit = 4096

-- the most bytes of trailers, with the empty line behind them
abbrev pub trailer_limit : ℕ
trailer_limit = 65536

-- the largest size of a chunk
abbrev pub chunk_limit : ℕ
chunk_limit = 2 ^ 63 - 1

-- the end of a line
abbrev pub crlf : List ℕ
crlf = 13 ∷ 10 ∷ []

-- the size in lower-case hexadecimal, and CRLF
abbrev pub size_line : ℕ → List ℕ
size_line size = digits 16 false size ++ crlf

-- what frames a body's data: it goes out where the output is chunked
abbrev pub framed : Bool → List ℕ → List ℕ
framed chunked text = if chunked then text else []

-- where a body begins
abbrev pub start : BodyPlan → BodyState
start plan.None = Plain 0
start (plan.Length n) = Plain n
start plan.Chunked = Line []
start plan.ToClose = Open

-- where a byte leads, and what is written at it; at a byte that is refused nothing is
pub record ByteStep : Type 0 where
  pub place : BodyState
  pub out : List ℕ

-- nothing is written
abbrev pub quiet : BodyState → ByteStep
quiet p = record { place = p; out = [] }

-- behind a whole chunk line: data of its size, or trailers behind the last chunk
abbrev pub sized : Bool → ℕ → ByteStep
sized chunked size =
    if nat_lt chunk_limit size then quiet Refused
    else if size == 0 then quiet (Trailer 0 Begin)
    else record { place = Data size; out = framed chunked (size_line size) }

-- a line that is not whole goes on where it may become one and there is room
abbrev pub open_line : List ℕ → ByteStep
open_line text = if nat_lt (length text) line_limit then quiet (Line text) else quiet Refused

-- with these bytes of a chunk line
abbrev pub lined : Bool → List ℕ → LineSoFar → ByteStep
lined chunked text (Whole size) = sized chunked size
lined chunked text Never = quiet Refused
lined chunked text Start = open_line text
lined chunked text (Digits count size) = open_line text
lined chunked text (Blank size) = open_line text
lined chunked text (Extension size) = open_line text
lined chunked text (Closing size) = open_line text

-- trailers are lines that end with CRLF; a bare CR or LF belongs to its line
abbrev pub mark_step : Mark → ℕ → Mark
mark_step Begin b = if b == 13 then BeginCr else Inside
mark_step BeginCr b = if b == 13 then InsideCr else Inside
mark_step Inside b = if b == 13 then InsideCr else Inside
mark_step InsideCr b = if b == 10 then Begin else if b == 13 then InsideCr else Inside

-- the byte ends an empty line
abbrev pub is_last : Mark → ℕ → Bool
is_last BeginCr b = b == 10
is_last m b = false

-- in trailers, behind n of their bytes: the empty line ends the body, and no trailer goes out
abbrev pub trailed : Bool → ℕ → Mark → ℕ → ByteStep
trailed chunked n m b =
    if is_last m b then record { place = Done; out = framed chunked (48 ∷ crlf ++ crlf) }
    else if nat_lt (n + 1) trailer_limit then quiet (Trailer (n + 1) (mark_step m b))
    else quiet Refused

-- one byte of a body: data as it is, chunk lines with their size alone, and CRLF behind the data
abbrev pub step : Bool → BodyState → ℕ → ByteStep
step chunked (Plain n) b = record { place = Plain (n - 1); out = b ∷ [] }
step chunked Open b = record { place = Open; out = b ∷ [] }
step chunked (Line text) b = lined chunked (text ++ b ∷ []) (chunk_line_of (text ++ b ∷ []))
step chunked (Data n) b =
    if n == 0 then (if b == 13 then quiet Feed else quiet Refused)
    else record { place = Data (n - 1); out = b ∷ [] }
step chunked Feed b = if b == 10 then record { place = Line []; out = framed chunked crlf }
    else quiet Refused
step chunked (Trailer n m) b = trailed chunked n m b
step chunked Done b = quiet Done
step chunked Refused b = quiet Refused

-- the body is complete
abbrev pub is_whole_body : BodyState → Bool
is_whole_body (Plain n) = n == 0
is_whole_body Done = true
is_whole_body p = false

-- the bytes are refused, whatever follows
abbrev pub is_refused : BodyState → Bool
is_refused Refused = true
is_refused p = false

-- how many bytes of its input a cursor keeps here: those of a chunk line that is cut
abbrev pub kept_bytes : BodyState → ℕ
kept_bytes (Line text) = length text
kept_bytes p = 0

-- how many bytes have come of a line that has not ended: of a chunk's, or of the trailers, which
-- the end of the last chunk's line begins
abbrev pub line_bytes : BodyState → ℕ
line_bytes (Line text) = length text
line_bytes Feed = 1
line_bytes (Trailer n m) = n + 1
line_bytes p = 0

-- where bytes lead, what is written at them, and what is left behind the body; nothing is left of
-- refused bytes
pub record Walk : Type 0 where
  pub place : BodyState
  pub out : List ℕ
  pub rest : List ℕ

-- the same behind more that is written
abbrev pub after : List ℕ → Walk → Walk
after out w = record { place = w.place; out = out ++ w.out; rest = w.rest }

-- the bytes lead nowhere from here
abbrev pub halted : BodyState → List ℕ → Walk
halted p bytes = record { place = p; out = []; rest = bytes }

-- these bytes from here, up to the body's end or to the byte that is refused
unfoldable pub walk : Bool → BodyState → List ℕ → Walk
walk chunked p [] = halted p []
walk chunked p (b ∷ bs) =
    if is_whole_body p then halted p (b ∷ bs)
    else if is_refused p then halted p []
    else after (step chunked p b).out (walk chunked (step chunked p b).place bs)

-- the body that these bytes begin with: what goes out, what is left behind it, and where it stands
-- then
abbrev pub body_of : BodyPlan → Bool → List ℕ → Walk
body_of plan chunked bytes = walk chunked (start plan) bytes
