use Rattle.std.proofs.Common.{◌≡◌, ◌++◌, drop}
use Rattle.sq_conf.proofs.rewrite_lines.copied.Given as goal

-- the words so far, and those that are left
abbrev pub invariant-loop-word : goal.invariant-loop-word
invariant-loop-word l = l.texts ++ drop l.word-index l.words ≡ l.words
