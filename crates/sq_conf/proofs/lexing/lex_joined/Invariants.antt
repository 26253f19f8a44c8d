use Rattle.std.proofs.Common.{◌≡◌, drop}
use Rattle.sq_base.specs.Lines.{lexed_lines}
use Rattle.sq_conf.proofs.LexLaws.{after}
use Rattle.sq_conf.proofs.lexing.lex_joined.Given as goal

-- the lines so far, then those of the rest, are all
abbrev pub invariant-loop-line : goal.invariant-loop-line
invariant-loop-line l = after l.lines (lexed_lines (drop l.line-index l.joined)) ≡ lexed_lines l.joined
