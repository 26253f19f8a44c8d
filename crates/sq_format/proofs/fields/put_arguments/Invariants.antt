use Rattle.std.proofs.Common.{◌≡◌, ◌++◌, map, drop}
use Rattle.sq_format.proofs.JoinLaws.{after_spaces}
use Rattle.sq_rules.specs.Keys.{key_escaped}
use Rattle.sq_format.proofs.fields.put_arguments.Given as goal

-- what was put and what is to come is the whole
abbrev pub invariant-loop-argument : goal.invariant-loop-argument
invariant-loop-argument l =
    l.to ++ after_spaces (map key_escaped (drop l.argument-index l.rest)) ≡ l.initial.to
    ++ after_spaces (map key_escaped l.rest)
