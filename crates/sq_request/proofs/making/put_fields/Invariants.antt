use Rattle.std.proofs.Common.{◌≡◌, ◌++◌, drop}
use Rattle.std.specs.List.{flat_map}
use Rattle.sq_request.specs.Heads.{field_line}
use Rattle.sq_request.proofs.making.put_fields.Given as goal

-- what was put and what is to come is the whole
abbrev pub invariant-loop-field : goal.invariant-loop-field
invariant-loop-field l =
    l.to ++ flat_map field_line (drop l.field-index l.fields) ≡ l.initial.to ++ flat_map field_line l.fields
