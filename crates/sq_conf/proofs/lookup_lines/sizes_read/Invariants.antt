use Rattle.std.proofs.Common.{◌≡◌, drop}
use Rattle.sq_rules.specs.LookupLines.{no_sizes, size_step}
use Rattle.sq_rules.specs.Steps.{over}
use Rattle.sq_conf.proofs.lookup_lines.sizes_read.Given as goal

abbrev pub invariant-loop-word : goal.invariant-loop-word
invariant-loop-word l = over size_step l.draft (drop l.word-index l.words)
    ≡ over size_step no_sizes l.words
