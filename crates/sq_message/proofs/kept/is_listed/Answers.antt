use Rattle.std.proofs.Common.{◌≡◌, true, false, not, map, sym, ap, ◌∙◌}
use Rattle.sq_message.specs.FieldNames.{is_one_of}
use Rattle.sq_message.proofs.NameLaws.{one_of_lent}
use Rattle.sq_message.proofs.kept.is_listed.Goals as goal

pub returns-then-is_one_of : goal.returns-then-is_one_of
returns-then-is_one_of c =
    let listed : is_one_of (map (λ o. o.now) c.args.options.now) c.args.name.now ≡ true =
    sym (one_of_lent c.args.options.now c.args.name.now) ∙ sym c.is_one_of.ensures ∙ c.if-is_one_of.true in
    rw listed (ap not c.is_named.ensures)

pub returns-else-is_one_of : goal.returns-else-is_one_of
returns-else-is_one_of c =
    let listed : is_one_of (map (λ o. o.now) c.args.options.now) c.args.name.now ≡ false =
    sym (one_of_lent c.args.options.now c.args.name.now) ∙ sym c.is_one_of.ensures ∙ c.if-is_one_of.false in
    rw listed c.if-is_one_of.false
