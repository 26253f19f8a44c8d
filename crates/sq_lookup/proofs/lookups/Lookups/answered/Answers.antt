use Rattle.std.proofs.Common.{◌≡◌, ◌∙◌, ap, sym, is_some, cond, None, Some}
use Rattle.sq_machine.specs.OpenLookups.{question_of}
use Rattle.sq_lookup.specs.Index.{row_at, listed_by}
use Rattle.sq_lookup.proofs.IndexLaws.{open_is, key_at, removed}
use Rattle.sq_lookup.proofs.lookups.Lookups.answered.Goals as goal

pub returns-in_default-clause-open : goal.returns-in_default-clause-open
returns-in_default-clause-open c = rw (← c.self.view_is)
    (sym (open_is c.args.question c.self.inside.rows ∙ ap is_some (sym c.in_default.ensures.row)))

pub returns-clause-open : goal.returns-clause-open
returns-clause-open c = rw (← c.self.view_is)
    (sym (open_is c.args.question c.self.inside.rows ∙ ap is_some (sym c.in-Some.ensures.row)))

pub returns-clause-listed : goal.returns-clause-listed
returns-clause-listed c =
    let here : row_at c.self.inside.rows c.args.question ≡ Some c.in-Some.row = sym c.in-Some.ensures.row in
    rw (← c.self.view_is) (record {
      key_is = key_at c.args.question c.self.inside.rows c.in-Some.row here;
      checks_are = λ check. sym (ap (λ o. listed_by o check) here) ∙ c.self.invariant.listed c.args.question check;
    })

pub returns-clause-waiting : goal.returns-clause-waiting
returns-clause-waiting c = λ n.
    let here : row_at c.self.inside.rows c.args.question ≡ Some c.in-Some.row = sym c.in-Some.ensures.row in
    rw (← c.self.view_is)
    (c.remove_all.ensures n ∙ ap (λ b. cond b None (question_of n c.self.inside.waiters))
    (sym (ap (λ o. listed_by o n) here) ∙ c.self.invariant.listed c.args.question n))

pub invariant_of-self-2 : goal.invariant_of-self-2
invariant_of-self-2 c =
    removed c.self.inside.keys c.remove-2.new.self c.self.inside.rows c.remove.new.self c.self.inside.waiters
    c.remove_all.new.self c.args.question c.in-Some.row
    c.self.invariant (sym c.in-Some.ensures.row) c.remove-2.ensures.question c.in-Some.ensures.rows
    c.in-Some.ensures.lists c.remove_all.ensures
