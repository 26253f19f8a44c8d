-- In the statement: docs/STATEMENT.md lists which definitions.
-- The orders of a control's input, one a line.
use Rattle.std.specs.Prelude.{◌≡◌, ℕ, ◌+◌, List, [], ◌∷◌, take, true, Some, None, bytes_eq, codes, if◌then◌else◌}
use Rattle.std.specs.Io.KnownBytes.{Consumes, IsAtEnd}
use Rattle.std.specs.declared.option.Option.{Option}
use Rattle.sq_outside.specs.Holding.{NoEnd}
use Rattle.sq_outside.specs.SourceLines.{SourceLine, lines}
use Rattle.sq_control.specs.declared.orders.Order.{Order}
use Rattle.sq_control.specs.declared.orders.Order.TheVariants as order

-- what a line orders
abbrev pub order_of : List ℕ → Order
order_of line = if bytes_eq line (codes "reconfigure") then order.Reconfigure
    else (if bytes_eq line (codes "shutdown") then order.Shutdown else order.Nothing)

-- a line that no LF ends orders nothing
abbrev pub line_order : SourceLine → Order
line_order l = if l.ended then order_of l.bytes else order.Nothing

-- one reconfiguration more where a line orders it; from `shutdown` on nothing counts
abbrev pub counts_with : Order → ℕ → ℕ
counts_with order.Reconfigure n = n + 1
counts_with order.Shutdown n = 0
counts_with order.Nothing n = n
counts_with order.End n = 0

-- how many reconfigurations are ordered before the first `shutdown`
abbrev pub rereads_in : List SourceLine → ℕ
rereads_in [] = 0
rereads_in (l ∷ ls) = counts_with (line_order l) (rereads_in ls)

-- the lines behind the first `shutdown`, by those behind this line and those behind the first
-- `shutdown` of these
abbrev pub left_with : Order → List SourceLine → List SourceLine → List SourceLine
left_with order.Shutdown behind later = behind
left_with o behind later = later

-- the lines behind the first `shutdown`; none where no line orders it
abbrev pub lines_left : List SourceLine → List SourceLine
lines_left [] = []
lines_left (l ∷ ls) = left_with (line_order l) ls (lines_left ls)

-- the first twelve bytes of a line, which suffice to know its order
abbrev pub kept : List ℕ → List ℕ
kept line = take 12 line

-- the first line is ended and orders this, and what stands behind it is left
pub record IsOrdered (bytes : List ℕ) (after : Option (List ℕ)) (order : Order) : Type 0 where
  pub line : List ℕ
  pub rest : List ℕ
  pub first : lines bytes ≡ record { bytes = line; ended = true } ∷ lines rest
  pub left : after ≡ Some rest
  pub order_is : order ≡ order_of line

-- the next line orders this; or no line is ended, and nothing is left
abbrev pub IsNext : List ℕ → Option (List ℕ) → Order → Type 0
IsNext bytes after order.End = NoEnd bytes × (after ≡ Some [])
IsNext bytes after o = IsOrdered bytes after o

-- the next byte was taken, or none was left
abbrev pub Gives : Option (List ℕ) → Option (List ℕ) → Option ℕ → Type 0
Gives before after None = Consumes before after [] × IsAtEnd after
Gives before after (Some b) = Consumes before after (b ∷ [])
