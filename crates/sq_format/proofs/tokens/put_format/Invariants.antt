use Rattle.std.proofs.Common.{◌≡◌, ◌++◌, map, drop}
use Rattle.sq_format.proofs.JoinLaws.{after_spaces}
use Rattle.sq_rules.specs.Keys.{token_text}
use Rattle.sq_format.proofs.tokens.put_format.Given as goal

-- what was put and what is to come is the whole
abbrev pub invariant-loop-token : goal.invariant-loop-token
invariant-loop-token l =
    l.to ++ after_spaces (map (token_text l.name l.arguments l.sight) (drop l.token-index l.rest)) ≡ l.initial.to
    ++ after_spaces (map (token_text l.name l.arguments l.sight) l.rest)
