use Rattle.std.proofs.Common.{◌≡◌, drop}
use Rattle.sq_rules.specs.PoolLines.{mode_step}
use Rattle.sq_rules.specs.Steps.{over}
use Rattle.sq_conf.proofs.port_lines.modes.Given as goal

-- what is noted so far, and the words that are left
abbrev pub invariant-loop-word : goal.invariant-loop-word
invariant-loop-word l = over mode_step l.so_far (drop l.word-index l.words) ≡ over mode_step l.noted l.words
