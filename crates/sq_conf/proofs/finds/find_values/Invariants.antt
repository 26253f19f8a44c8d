use Rattle.std.proofs.Common.{◌≡◌, [], drop, true, false}
use Rattle.std.specs.List.{list_all}
use Rattle.sq_rules.specs.AclValues.{find_step}
use Rattle.sq_rules.specs.Patterns.{is_pattern}
use Rattle.sq_rules.specs.Steps.{over}
use Rattle.sq_conf.proofs.finds.find_values.Given as goal

-- the patterns and the case so far, and the words that are left
abbrev pub invariant-loop-word : goal.invariant-loop-word
invariant-loop-word l =
    (over find_step (record { fold = l.fold; finds = l.finds }) (drop l.word-index l.words)
    ≡ over find_step (record { fold = false; finds = [] }) l.words)
    × (list_all is_pattern l.finds ≡ true)
