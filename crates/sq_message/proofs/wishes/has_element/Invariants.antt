use Rattle.std.proofs.Common.{◌≡◌}
use Rattle.sq_message.specs.FieldNames.{elements, is_one_of}
use Rattle.sq_message.specs.Values.{elements_left}
use Rattle.sq_message.proofs.wishes.has_element.Given as goal

-- none that was looked at is the name
abbrev pub invariant-loop-element : goal.invariant-loop-element
invariant-loop-element l = is_one_of (elements_left l.element-iterator) l.name ≡ is_one_of (elements l.value) l.name
