use Rattle.std.proofs.Common.{◌≡◌, ◌++◌, map, drop}
use Rattle.std.specs.List.{filter, flat_map}
use Rattle.sq_request.specs.Heads.{field_line}
use Rattle.sq_message.specs.FieldNames.{is_sent}
use Rattle.sq_message.proofs.kept.put_unlisted.Given as goal

-- what was put and what is to come is the whole
abbrev pub invariant-loop-field : goal.invariant-loop-field
invariant-loop-field g l =
    l.to ++ flat_map field_line
    (filter (is_sent (g.T.NameTest.passes l.test) l.way (map (λ o. o.now) l.options)) (drop l.field-index l.fields))
    ≡ l.initial.to ++ flat_map field_line
    (filter (is_sent (g.T.NameTest.passes l.test) l.way (map (λ o. o.now) l.options)) l.fields)
