use Rattle.std.proofs.Common.{◌≡◌, ◌∙◌, ◌∷◌, [], ◌++◌, ap, cond, Some}
use Rattle.sq_machine.specs.KeptLists.{same_key}
use Rattle.sq_machine.specs.OpenLookups.{LookupRow, is_open_lookup, pending_in, all_below}
use Rattle.sq_lookup.specs.Index.{rows_of, question_at}
use Rattle.sq_lookup.specs.Waits.{is_free}
use Rattle.sq_lookup.proofs.OpenLaws.{at_end}
use Rattle.sq_lookup.proofs.IndexLaws.{no_row, opened}
use Rattle.sq_lookup.proofs.lookups.Lookups.open.Goals as goal

pub put-requires-2 : goal.put-requires-2
put-requires-2 c =
    let same : rows_of c.self.inside.rows ≡ c.args.self.now.rows = ap (λ v. v.rows) c.self.view_is in
    no_row c.args.question c.self.inside.rows (ap (is_open_lookup c.args.question) same ∙ c.requires.question)

pub returns-in-Ok-put-clause-last : goal.returns-in-Ok-put-clause-last
returns-in-Ok-put-clause-last c = λ below.
    let same : rows_of c.self.inside.rows ≡ c.args.self.now.rows = ap (λ v. v.rows) c.self.view_is in
    let l : LookupRow = record { question = c.args.question; key = c.args.key } in
    c.in-Ok-put.ensures.rows ∙ at_end l (rows_of c.self.inside.rows) (ap (all_below c.args.question) same ∙ below)
    ∙ ap (λ rows. rows ++ l ∷ []) same

pub invariant_of-self-in-Ok-put : goal.invariant_of-self-in-Ok-put
invariant_of-self-in-Ok-put c =
    let rows : rows_of c.self.inside.rows ≡ c.args.self.now.rows = ap (λ v. v.rows) c.self.view_is in
    let waiting : c.self.inside.waiters ≡ c.args.self.now.waiting = ap (λ v. v.waiting) c.self.view_is in
    opened c.self.inside.keys c.put.new.self c.self.inside.rows c.put-2.new.self c.self.inside.waiters
    c.put_some.new.self c.args.question c.args.key c.args.check c.in_ok-checks.checks
    c.self.invariant (ap (pending_in c.args.key) rows ∙ c.requires.key)
    (ap (is_open_lookup c.args.question) rows ∙ c.requires.question)
    (ap (is_free c.args.check) waiting ∙ c.requires.check)
    c.in_ok-checks.ensures
    (λ k. c.in-Ok.ensures.ok k
    ∙ ap (λ key. cond (same_key k key) (Some c.args.question) (question_at c.self.inside.keys k)) c.in_ok-copy.ensures)
    c.in-Ok-put.ensures.rows c.in-Ok-put.ensures.lists c.in_ok-put_some.ensures.ok
