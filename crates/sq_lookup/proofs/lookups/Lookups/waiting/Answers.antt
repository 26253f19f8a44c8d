use Rattle.std.proofs.Common.{◌≡◌, ◌∙◌, ap, sym, is_some, Some}
use Rattle.sq_lookup.specs.Index.{row_at, listed_by}
use Rattle.sq_lookup.proofs.IndexLaws.{open_is, key_at}
use Rattle.sq_lookup.proofs.lookups.Lookups.waiting.Goals as goal

pub returns-in_err-row-clause-open : goal.returns-in_err-row-clause-open
returns-in_err-row-clause-open c = rw (c.from_residual.ensures, ← c.self.view_is)
    (sym (open_is c.args.question c.self.inside.rows ∙ ap is_some (sym c.in_err-row.ensures)))

pub returns-clause-open : goal.returns-clause-open
returns-clause-open c = rw (← c.self.view_is)
    (sym (open_is c.args.question c.self.inside.rows ∙ ap is_some (sym c.in_ok-row.ensures)))

pub returns-clause-listed : goal.returns-clause-listed
returns-clause-listed c =
    let here : row_at c.self.inside.rows c.args.question ≡ Some c.in_ok-row.row.now = sym c.in_ok-row.ensures in
    rw (← c.self.view_is) (record {
      key_is = key_at c.args.question c.self.inside.rows c.in_ok-row.row.now here;
      checks_are = λ check. sym (ap (λ o. listed_by o check) here) ∙ c.self.invariant.listed c.args.question check;
    })
