use Rattle.std.proofs.Common.{◌≡◌, ◌<◌, true, drop, length}
use Rattle.sq_rules.specs.AclLines.{member}
use Rattle.sq_rules.specs.Lookups.{takes_members}
use Rattle.sq_rules.specs.Steps.{over}
use Rattle.sq_conf.proofs.groups.members.Given as goal

-- the drafts so far, and the members that are left
abbrev pub invariant-loop-word : goal.invariant-loop-word
invariant-loop-word l =
    (over (member l.place) l.builder (drop l.word-index l.words) ≡ over (member l.place) l.fn.builder l.words)
    × (l.place < length l.builder.acls) × (takes_members l.builder.dst_lookup l.builder.acls l.place ≡ true)
