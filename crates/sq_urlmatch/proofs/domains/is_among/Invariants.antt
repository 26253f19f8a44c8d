use Rattle.std.proofs.Common.{◌≡◌, false, take}
use Rattle.sq_urlmatch.specs.Names.{some_named}
use Rattle.sq_urlmatch.proofs.domains.is_among.Given as goal

-- none of the names so far is
abbrev pub invariant-loop-name : goal.invariant-loop-name
invariant-loop-name l = some_named (take l.name-index l.names) l.bytes l.whole ≡ false
