use Rattle.std.proofs.Common.{◌≡◌, length, take, Some, true, false, slice_get, refl, sym, ap, arith}
use Rattle.std.proofs.lemmas.Grind.{common_steps}
use Rattle.std.proofs.lemmas.List.{length-take-le}
use Rattle.std.proofs.lemmas.Option.{slice_get_read}
use Rattle.std.specs.Prelude.{slice_index_or}
use Rattle.sq_rules.proofs.TableLaws.{slow_kept, slow_length, slow_turns}
use Rattle.sq_rules.specs.Configurations.{slow_ones}
use Rattle.sq_rules.proofs.rechecks.slow_with.Goals as goal

pub slice_bounds-is_slow_at-end : goal.slice_bounds-is_slow_at-end
slice_bounds-is_slow_at-end c = sym
    (length-take-le c.args.place c.args.slow.now
    (omega (arith, ap length c.requires.known, slow_length c.args.acls.now)))

pub returns-then-not-grows : goal.returns-then-not-grows
returns-then-not-grows c =
    let acls = c.args.acls.now in
    let x = c.index-acls-place.result in
    let is : slice_get acls c.args.place ≡ Some x =
    slice_get_read acls _ c.args.place x refl c.requires.within c.index-acls-place.is in
    slow_kept acls c.args.place c.args.term x is
    (rw (← c.requires.known)
    (λ group asks. grind (
      arith,
      common_steps,
      c.is_group-grows.ensures,
      c.is_slow_at-asks.ensures,
      c.then-not-grows.either,
    )))

pub returns : goal.returns
returns c =
    let acls = c.args.acls.now in
    let x = c.index-acls-place.result in
    let is : slice_get acls c.args.place ≡ Some x =
    slice_get_read acls _ c.args.place x refl c.requires.within c.index-acls-place.is in
    let asks : slice_index_or (take c.args.place (slow_ones acls)) c.args.term.acl false ≡ true =
    rw (← c.requires.known) (grind (arith, common_steps, c.is_slow_at-asks.ensures, c.if-not-asks.false)) in
    rw (c.in_ok-slow_after.ensures, c.requires.known)
    (slow_turns acls c.args.place c.args.term x is
    (grind (arith, common_steps, c.is_group-grows.ensures, c.if-not-grows.false)) asks)
