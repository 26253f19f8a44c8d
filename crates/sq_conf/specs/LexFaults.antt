-- The faults of lines as errors: the lines of squid.conf in Squid's configuration reference.
use Rattle.std.specs.Prelude.{◌≡◌, ⊤, Some}
use Rattle.std.specs.declared.option.Option.{Option}
use Rattle.sq_base.specs.declared.config_lines.LineFault.{LineFault}
use Rattle.sq_base.specs.declared.config_lines.LineFault.TheVariants as line
use Rattle.sq_conf.specs.declared.lex_faults.LexFault.{LexFault}
use Rattle.sq_conf.specs.declared.lex_faults.LexFault.TheVariants as lex

-- a line's fault as an error
abbrev pub lex_fault : LineFault → LexFault
lex_fault (line.LineTooLong n) = lex.LineTooLong n
lex_fault (line.NotUtf8 n) = lex.NotUtf8 n

-- the error is want of memory, or names the first faulty line and its fault
abbrev pub IsFaultOf : LexFault → Option LineFault → Type 0
IsFaultOf (lex.LineTooLong n) fault = fault ≡ Some (line.LineTooLong n)
IsFaultOf (lex.NotUtf8 n) fault = fault ≡ Some (line.NotUtf8 n)
IsFaultOf lex.WantOfMemory fault = ⊤
