-- The end of a head, looked for byte by byte: RFC 9112 section 2.1.
use Rattle.std.specs.Prelude.{◌≡◌, ℕ, ◌+◌, List, [], ◌∷◌, ◌++◌, length, Bool, true, false, not, if◌then◌else◌, ◌&&◌, ◌||◌, ◌==◌, Some, None, ⊤}
use Rattle.std.specs.Option.{option_map}
use Rattle.std.specs.declared.option.Option.{Option}
use Rattle.sq_base.specs.Bytes.{cr}
use Rattle.sq_base.specs.Lines.{is_lf}
use Rattle.sq_request.specs.Endings.{head_end}
use Rattle.sq_forward.specs.declared.searching.LinePart.{LinePart}
use Rattle.sq_forward.specs.declared.searching.LinePart.TheVariants.{Nothing, Return, Bytes}

abbrev pub is_filled : LinePart → Bool
is_filled Nothing = false
is_filled Return = false
is_filled Bytes = true

-- the line with one byte more, which is not LF
abbrev pub filled_by : LinePart → ℕ → LinePart
filled_by Nothing b = if b == cr then Return else Bytes
filled_by Return b = Bytes
filled_by Bytes b = Bytes

-- what came of the line behind this byte
abbrev pub line_by : LinePart → ℕ → LinePart
line_by line b = if is_lf b then Nothing else filled_by line b

-- whether a line with bytes has ended by then
abbrev pub begun_by : Bool → LinePart → ℕ → Bool
begun_by begun line b = begun || is_lf b && is_filled line

-- the byte ends an empty line, and a line with bytes has ended before
abbrev pub ends_by : Bool → LinePart → ℕ → Bool
ends_by begun line b = is_lf b && begun && not (is_filled line)

-- how many bytes there are up to the end of the head, this one included
abbrev pub end_behind : Bool → LinePart → List ℕ → Option ℕ
end_behind begun line [] = None
end_behind begun line (b ∷ bs) =
    if ends_by begun line b then Some 1
    else option_map (λ n. 1 + n) (end_behind (begun_by begun line b) (line_by line b) bs)

-- no head ends in these bytes, and the end of one is found in what follows them
pub record IsSought (passed : List ℕ) (begun : Bool) (line : LinePart) : Type 0 where
  pub goes_on : (more : List ℕ)
      → head_end (passed ++ more) ≡ option_map (λ n. length passed + n) (end_behind begun line more)

-- where none was found, all were looked at
abbrev pub SoughtAll : List ℕ → ℕ → Bool → LinePart → Option ℕ → Type 0
SoughtAll bytes at begun line (Some n) = ⊤
SoughtAll bytes at begun line None = (at ≡ length bytes) × IsSought bytes begun line
