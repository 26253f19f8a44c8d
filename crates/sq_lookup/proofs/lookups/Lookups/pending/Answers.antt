use Rattle.std.proofs.Common.{◌≡◌, ◌∙◌, ap, sym, None}
use Rattle.sq_machine.specs.OpenLookups.{is_open_lookup}
use Rattle.sq_lookup.specs.Index.{listed_by, row_at, rows_of}
use Rattle.sq_lookup.proofs.IndexLaws.{no_row}
use Rattle.sq_lookup.proofs.lookups.Lookups.pending.Goals as goal

pub returns-clause-alone : goal.returns-clause-alone
returns-clause-alone c = λ q n closed.
    let same : rows_of c.self.inside.rows ≡ c.args.self.now.rows = ap (λ v. v.rows) c.self.view_is in
    let none : row_at c.self.inside.rows q ≡ None = no_row q c.self.inside.rows (ap (is_open_lookup q) same ∙ closed) in
    rw (← c.self.view_is) (sym (c.self.invariant.listed q n) ∙ ap (λ o. listed_by o n) none)
