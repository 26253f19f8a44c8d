use Rattle.std.proofs.Common.{◌≡◌, drop}
use Rattle.sq_rules.specs.RewriteLines.{children_step, most_children}
use Rattle.sq_rules.specs.Steps.{over}
use Rattle.sq_conf.proofs.class_drafts.ClassDraft.read_children.Given as goal

abbrev pub invariant-loop-word : goal.invariant-loop-word
invariant-loop-word l = over children_step l.draft (drop l.word-index l.words)
    ≡ over children_step (most_children l.max) l.words
