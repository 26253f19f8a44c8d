use Rattle.std.proofs.Common.{Err, ap}
use Rattle.sq_request.proofs.MethodLaws.{method_some, method_none}
use Rattle.sq_request.proofs.methods.read_method.Goals as goal

pub returns-in-Ok : goal.returns-in-Ok
returns-in-Ok c =
    method_some c.in-Ok.method c.args.bytes.now c.in-Ok.ensures.ok
    (λ never. absurd (cc (c.in-Ok.ensures.invalid.1 never)))

pub returns-in-Err-Invalid : goal.returns-in-Err-Invalid
returns-in-Err-Invalid c =
    method_none c.args.bytes.now (c.in-Err-Invalid.ensures.invalid.0 (ap Err c.in-Err-Invalid.field-0-is))
