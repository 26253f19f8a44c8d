use Rattle.std.proofs.Common.{◌≡◌, drop}
use Rattle.sq_rules.specs.ClassLines.{class_step, default_class}
use Rattle.sq_rules.specs.Steps.{over}
use Rattle.sq_conf.proofs.class_drafts.ClassDraft.read.Given as goal

-- the draft so far, and the words that are left
abbrev pub invariant-loop-word : goal.invariant-loop-word
invariant-loop-word l = over class_step l.draft (drop l.word-index l.words) ≡ over class_step default_class l.words
