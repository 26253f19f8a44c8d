use Rattle.std.proofs.Common.{◌≡◌, ◌-◌, length, true, ◌∙◌, sym, subst, arith}
use Rattle.std.proofs.lemmas.List.Folds.{list_any_at}
use Rattle.sq_urlmatch.specs.Names.{is_at}
use Rattle.sq_urlmatch.proofs.NameLaws.{covered_at}
use Rattle.sq_urlmatch.proofs.domains.is_covered.Goals as goal

pub returns-then-count-gt0 : goal.returns-then-count-gt0
returns-then-count-gt0 c = λ covers host at.
    list_any_at (λ n. is_at n host) c.args.kept.now (length c.args.kept.now - 1) c.index-kept-count.result
    (omega (arith, c.if-count-gt0.true))
    (subst (λ n. is_at n host ≡ true) c.index-kept-count.is
    (covered_at c.index-kept-count.result c.args.name.now host (sym c.covers.ensures ∙ covers) at))
