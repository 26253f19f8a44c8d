use Rattle.std.proofs.Common.{◌≡◌, ◌++◌, map, drop}
use Rattle.sq_message.specs.FieldNames.{connection_options}
use Rattle.sq_message.proofs.elements.connection_options.Given as goal

-- what was put and what is to come is the whole
abbrev pub invariant-loop-field : goal.invariant-loop-field
invariant-loop-field l =
    map (λ o. o.now) l.options.items ++ connection_options (drop l.field-index l.fields) ≡ connection_options l.fields
