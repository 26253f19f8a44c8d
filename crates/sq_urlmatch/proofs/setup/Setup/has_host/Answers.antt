use Rattle.std.proofs.Common.{◌≡◌, Some, ap, length, ltb-true, sym, ◌∙◌}
use Rattle.std.proofs.lemmas.Option.{slice_get-get_or}
use Rattle.std.specs.List.{slice_get}
use Rattle.sq_urlmatch.specs.Members.{in_some_domain}
use Rattle.sq_urlmatch.specs.Values.{domains_at}
use Rattle.sq_urlmatch.proofs.setup.Setup.has_host.Goals as goal

pub returns-in-Some : goal.returns-in-Some
returns-in-Some c =
    let at : slice_get c.self.inside.sets.items c.args.acl ≡ Some c.in-Some.sets.now =
    let h = c.in-Some.ensures.lookup in
    let found : slice_get c.deref.result.now c.args.acl ≡ Some c.in-Some.sets.now =
    slice_get-get_or c.deref.result.now c.args.acl c.in-Some.sets.now
    (ltb-true c.args.acl (length c.deref.result.now) (sym h.0)) ∙ ap Some (sym h.1) in
    ap (λ l. slice_get l c.args.acl) (sym c.deref.ensures.value) ∙ found in
    let alike = c.self.invariant.values.each c.args.acl c.in-Some.sets.now at in
    c.has.ensures ∙ alike.hosts c.args.host.now
    ∙ ap (λ v. in_some_domain (domains_at v.acls c.args.acl) c.args.host.now) c.self.view_is
