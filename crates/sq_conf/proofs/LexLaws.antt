-- Lines of words, one after the other.
use Rattle.std.proofs.Common.{◌++◌, List}
use Rattle.sq_base.specs.Lines.{lexed_to}
use Rattle.sq_base.specs.declared.config_lines.Line.{Line}
use Rattle.sq_base.specs.declared.config_lines.Lexed.{Lexed}

-- lines before those that are still to come
abbrev pub after : List Line → Lexed → Lexed
after lines later = lexed_to (lines ++ later.lines) later.fault
