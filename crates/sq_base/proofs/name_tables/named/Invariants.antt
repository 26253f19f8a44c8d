use Rattle.std.proofs.Common.{◌≡◌, length, map}
use Rattle.sq_base.specs.NameTables.{beside}
use Rattle.sq_base.proofs.name_tables.named.Given as goal

abbrev pub invariant-loop-table : goal.invariant-loop-table
invariant-loop-table g l =
    beside (map (λ row. (row.0.now, row.1)) l.table) l.word
    ≡ beside (map (λ row. (row.0.now, row.1)) l.initial.table) l.word

abbrev pub decreases-loop-table : goal.decreases-loop-table
decreases-loop-table g l = length l.table
