use Rattle.std.proofs.Common.{◌++◌, codes, drop}
use Rattle.std.specs.List.{flat_map}
use Rattle.std.specs.Net.Text.{hex}
use Rattle.sq_journal.specs.Putting.{Halfway}
use Rattle.sq_journal.proofs.addresses.put_more_groups.Given as goal

-- the groups so far are put, and the others are to come
abbrev pub invariant-loop-group : goal.invariant-loop-group
invariant-loop-group g l =
    Halfway (g.O.Sink.contents l.fn.to) (g.O.Sink.contents l.to) (g.O.Sink.faults l.fn.to) (g.O.Sink.faults l.to)
    (flat_map (λ group. codes ":" ++ hex group) l.groups)
    (flat_map (λ group. codes ":" ++ hex group) (drop l.group-index l.groups))
