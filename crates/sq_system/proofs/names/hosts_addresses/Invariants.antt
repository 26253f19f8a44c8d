use Rattle.std.proofs.Common.{◌≡◌, drop}
use Rattle.sq_system.specs.Names.{all_read, nothing_read}
use Rattle.sq_system.proofs.names.hosts_addresses.Given as goal

-- the rest is read on from here
abbrev pub invariant-loop-byte : goal.invariant-loop-byte
invariant-loop-byte l = all_read l.host l.read (drop l.byte-index l.text) ≡ all_read l.host nothing_read l.text
