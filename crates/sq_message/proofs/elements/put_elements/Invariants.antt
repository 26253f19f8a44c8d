use Rattle.std.proofs.Common.{◌≡◌, ◌++◌, map}
use Rattle.sq_message.specs.Values.{elements_left}
use Rattle.sq_message.proofs.elements.put_elements.Given as goal

-- what was put and what is to come is the whole
abbrev pub invariant-loop-element : goal.invariant-loop-element
invariant-loop-element l =
    map (λ o. o.now) l.to.items ++ elements_left l.element-iterator ≡ map (λ o. o.now) l.initial.to.items
    ++ elements_left l.initial.element-iterator
