use Rattle.std.proofs.Common.{◌≡◌, ◌∙◌, ap, get_or, sym, subst, Some}
use Rattle.std.proofs.lemmas.Option.{slice_get-get_or}
use Rattle.sq_rules.specs.Facts.{acl_fact}
use Rattle.sq_urlmatch.proofs.FactLaws.{asks_patterns, ok_then, pattern_fact}
use Rattle.sq_urlmatch.specs.Patterns.{acl_has_patterns}
use Rattle.sq_urlmatch.proofs.leaves.fact_at.Goals as goal

pub returns-in-None-clause-fact : goal.returns-in-None-clause-fact
returns-in-None-clause-fact c =
    let acls = c.args.setup.now.acls in
    let same : c.acls.result.now ≡ acls = cc in
    let a = c.index-acls-place.result in
    let has = asks_patterns (acl_has_patterns a) (acl_fact c.args.sight.now a)
    (sym c.in-None.is ∙ c.plain_fact.ensures) in
    let found : a ≡ get_or acls c.args.place a =
    subst (λ xs. a ≡ get_or xs c.args.place a) same c.index-acls-place.is in
    let here = slice_get-get_or acls c.args.place a c.requires.here ∙ ap Some (sym found) in
    ok_then c.is_match.result c.is_match.ensures.found
    (λ b e. pattern_fact acls c.args.place a c.args.sight.now c.args.subject.now here has c.requires.decoded
    ∙ ap Some (sym e))
