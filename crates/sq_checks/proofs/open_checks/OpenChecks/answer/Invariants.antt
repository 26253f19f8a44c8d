use Rattle.std.proofs.Common.{◌≡◌, ◌+◌, length, map}
use Rattle.std.specs.Map.Iter.{deref}
use Rattle.sq_base.specs.declared.helpers.What.{What}
use Rattle.sq_checks.specs.OpenChecks.{AllAre, ended_by}
use Rattle.sq_checks.proofs.EndLaws.{listed_changed}
use Rattle.sq_checks.proofs.open_checks.OpenChecks.answer.Given as goal

abbrev pub invariant-loop-check : goal.invariant-loop-check
invariant-loop-check l = record {
  left : length l.yielded + length l.copies.items ≡ length l.initial.copies.items;
  done : (what : What) → AllAre what l.initial.copies.items
      → AllAre what l.copies.items
      × (l.self ≡ listed_changed (map deref l.yielded) (ended_by l.question what l.now) l.initial.self);
}
