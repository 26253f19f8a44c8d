use Rattle.std.proofs.Common.{◌≡◌, ◌<◌, Some, length, slice_get, ap, sym, ◌∙◌}
use Rattle.std.proofs.lemmas.Option.{slice_get-get_or}
use Rattle.sq_rules.proofs.ValueLaws.{known_here}
use Rattle.sq_checks.proofs.tags.acl_at.Goals as goal

here : (c : goal.After-index-acls-acl)
    → slice_get c.args.config.now.acls c.args.acl ≡ Some c.index-acls-acl.result
here c =
    let within : c.args.acl < length c.acls.result.now = rw c.acls.ensures.acls c.requires in
    ap (λ xs. slice_get xs c.args.acl) (sym c.acls.ensures.acls)
    ∙ slice_get-get_or c.acls.result.now c.args.acl c.index-acls-acl.result within
    ∙ ap Some (sym c.index-acls-acl.is)

pub returns-clause-known : goal.returns-clause-known
returns-clause-known c = known_here (length c.args.config.now.classes) c.args.config.now.acls c.args.acl _
    c.facts.ensures.members (here c)
