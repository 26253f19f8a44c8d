use Rattle.std.proofs.Common.{◌≡◌, ◌++◌, drop}
use Rattle.sq_format.proofs.JoinLaws.{to_come}
use Rattle.sq_rules.specs.Keys.{field_values, values_text}
use Rattle.sq_format.proofs.fields.put_fields.Given as goal

-- what was put and what is to come is the whole
abbrev pub invariant-loop-field : goal.invariant-loop-field
invariant-loop-field l =
    l.to ++ to_come l.found (field_values l.name (drop l.field-index l.fields)) ≡ l.initial.to
    ++ values_text (field_values l.name l.fields)
