use Rattle.std.proofs.Common.{◌≡◌, ◌≤◌, IfOk, Some, length, arith, sym, subst}
use Rattle.sq_request.specs.Heads.{most_fields, IsWrittenHead}
use Rattle.sq_request.specs.declared.faults.BadRequest.TheVariants as fault
use Rattle.sq_request.proofs.MadeLaws.{made_is, unmade}
use Rattle.sq_request.proofs.WrittenLaws.{written_names}
use Rattle.sq_request.proofs.making.make_request.Goals as goal

pub build-requires : goal.build-requires
build-requires c =
    let written = subst (IsWrittenHead c.args.method.now c.args.target.now c.args.minor) c.as_slice.ensures
    (c.in_ok-is_written.ensures.0 c.if-not-branch.false) in
    written_names c.args.method.now c.args.target.now c.args.minor c.args.fields written

pub returns-then-not-branch-clause-unmade : goal.returns-then-not-branch-clause-unmade
returns-then-not-branch-clause-unmade c =
    unmade c.args.method.now c.args.target.now c.args.minor c.args.fields fault.BadHead
    (λ w. absurd (cc (
      c.in_ok-is_written.ensures.1
          (subst (IsWrittenHead c.args.method.now c.args.target.now c.args.minor) (sym c.as_slice.ensures) w),
      c.if-not-branch.true,
    )))

pub returns-clause-made : goal.returns-clause-made
returns-clause-made c =
    let written = subst (IsWrittenHead c.args.method.now c.args.target.now c.args.minor) c.as_slice.ensures
    (c.in_ok-is_written.ensures.0 c.if-not-branch.false) in
    let few : length c.args.fields ≤ most_fields = omega arith in
    subst (λ o. IfOk c.build.result (λ r. o ≡ Some r))
    (sym (made_is c.args.method.now c.args.target.now c.args.minor c.args.fields written few)) c.build.ensures.built
