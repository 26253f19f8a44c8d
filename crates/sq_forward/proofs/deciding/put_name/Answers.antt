use Rattle.std.proofs.Common.{◌≡◌, ◌∙◌, Some, sym, ap, subst}
use Rattle.std.proofs.lemmas.List.Elements.{All-push}
use Rattle.std.specs.Prelude.{unwrap_or}
use Rattle.sq_eval.specs.Takings.{fact_taken}
use Rattle.sq_forward.proofs.TableLaws.{decided_by}
use Rattle.sq_forward.specs.Access.{allowed_by}
use Rattle.sq_forward.specs.Standings.{standing_at, AreDecided}
use Rattle.sq_forward.specs.declared.deciding.DecidedName.{DecidedName}
use Rattle.sq_forward.proofs.deciding.put_name.Goals as goal

pub returns-in-Some : goal.returns-in-Some
returns-in-Some c =
    let config = c.args.config.now in
    let facts = c.args.facts.now in
    let here : standing_at c.args.table.now c.in_ok-key.key ≡ Some c.in-Some.standing = sym c.in-Some.ensures in
    subst (AreDecided config facts c.args.reply) (sym c.in_ok-push-in-Some.ensures.items)
    (All-push (λ (d : DecidedName). d.allowed ≡ allowed_by config facts c.args.reply d.name.now) c.args.to.now.items
    (record { name = c.args.name; allowed = c.unwrap_or-allowed.result }) c.requires.so_far
    (c.unwrap_or-allowed.ensures
    ∙ ap (λ o. unwrap_or o c.args.others) (c.end.ensures (fact_taken facts) config.acls)
    ∙ decided_by config facts c.args.reply c.args.table.now c.args.name.now c.in-Some.standing c.args.others
    c.requires.table (ap (standing_at c.args.table.now) (sym c.in_ok-key.ensures.text) ∙ here) c.requires.others))
