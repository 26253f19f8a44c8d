use Rattle.std.proofs.Common.{◌≡◌, Some, inl, inr, arith, ap, subst, sym, ◌∙◌, length}
use Rattle.std.proofs.lemmas.List.{length-append}
use Rattle.std.proofs.lemmas.Option.{slice_get-get_or}
use Rattle.std.specs.List.{slice_get}
use Rattle.sq_urlmatch.proofs.ValueLaws.{before_or_last}
use Rattle.sq_urlmatch.specs.Values.{domains_at, domains_in, domains_of, ports_at, ports_in, ports_of, ranges_at, ranges_in, ranges_of, HoldAlike}
use Rattle.sq_urlmatch.proofs.sets.sets_of_each.Goals as goal

pub loop-acl-preserved : goal.loop-acl-preserved
loop-acl-preserved c =
    let acls = c.args.acls.now in
    let i = c.loop-acl.acl-index in
    let acl = c.acl-item.result in
    let items = c.in_ok-push.ensures.items in
    let here : slice_get acls i ≡ Some acl = slice_get-get_or acls i acl (omega arith) ∙ ap Some (sym c.acl-item.is) in
    record {
      long = let more = ap length items ∙ length-append c.loop-acl.sets.items _ in
          omega (arith, more, c.loop-acl.invariant.long);
      each = λ place s at.
          elim (before_or_last c.loop-acl.sets.items c.in_ok-of.field-0 place s
          (ap (λ l. slice_get l place) (sym items) ∙ at)) [
            | inl before ↦ c.loop-acl.invariant.each place s before
            | inr last ↦
                subst (λ k. HoldAlike (ranges_at acls k) (domains_at acls k) (ports_at acls k) s)
                (sym (last.0 ∙ c.loop-acl.invariant.long))
                (subst (λ o. HoldAlike (ranges_of o) (domains_of o) (ports_of o) s) (sym here)
                (subst (λ t. HoldAlike (ranges_in acl.body) (domains_in acl.body) (ports_in acl.body) t) (sym last.1)
                c.in_ok-of.ensures))
          ];
    }
