use Rattle.std.proofs.Common.{◌≡◌, length}
use Rattle.sq_system.specs.Hosts.{label_on}
use Rattle.sq_system.proofs.hosts.last_label.Given as goal

-- the last label is this one, or stands in the rest
abbrev pub invariant-loop-byte : goal.invariant-loop-byte
invariant-loop-byte l = label_on l.label l.rest ≡ label_on l.host l.host

abbrev pub decreases-loop-byte : goal.decreases-loop-byte
decreases-loop-byte l = length l.rest
