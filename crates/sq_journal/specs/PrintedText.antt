-- What a text that is written to tells.
use Rattle.std.specs.Prelude.{ℕ, List}
use Rattle.sq_journal.specs.declared.putting.Printed.{Printed}

-- what was written
abbrev pub printed_text : Printed → List ℕ
printed_text p = p.text

-- how often memory ran out
abbrev pub printed_faults : Printed → ℕ
printed_faults p = p.faults
