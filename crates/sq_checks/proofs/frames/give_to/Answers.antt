use Rattle.std.proofs.Common.{◌≡◌, ◌<◌, ℕ, List, Some, length, set, slice_index_or, ap, ◌∙◌, arith, length-set}
use Rattle.std.proofs.lemmas.Option.{get_or_from_slice_get, slice_get_within}
use Rattle.sq_checks.proofs.FrameLaws.{placed_given}
use Rattle.sq_checks.proofs.SlotLaws.{given_after, left_after, slot_there}
use Rattle.sq_checks.specs.Slots.{slots_of}
use Rattle.sq_checks.proofs.frames.give_to.Goals as goal

pub give-requires-clause-here : goal.give-requires-clause-here
give-requires-clause-here c =
    let acls = c.args.slots.now.acls in
    let at = slot_there acls c.args.acl c.requires.external in
    let within : c.args.acl < length (slots_of acls) = slice_get_within (slots_of acls) c.args.acl at.0 at.1 in
    rw c.as_slice.ensures within

pub give-requires-clause-slot : goal.give-requires-clause-slot
give-requires-clause-slot c =
    let acls = c.args.slots.now.acls in
    let at = slot_there acls c.args.acl c.requires.external in
    let same : slice_index_or (slots_of acls) c.args.acl 0 ≡ at.0 =
    get_or_from_slice_get (slots_of acls) c.args.acl at.0 0 at.1 in
    let within : slice_index_or (slots_of acls) c.args.acl 0 < length c.args.table.now.items =
    omega (arith, same, at.2, c.requires.counted) in
    rw c.as_slice.ensures within

changed : (c : goal.After-give)
    → c.give.new.table.items
    ≡ set c.args.table.now.items (slice_index_or (slots_of c.args.slots.now.acls) c.args.acl 0) (Some c.args.value)
changed c = c.give.ensures
    ∙ ap (λ (slots : List ℕ). set c.args.table.now.items (slice_index_or slots c.args.acl 0) (Some c.args.value))
    c.as_slice.ensures

pub returns-clause-counted : goal.returns-clause-counted
returns-clause-counted c = ap length (changed c)
    ∙ length-set c.args.table.now.items (slice_index_or (slots_of c.args.slots.now.acls) c.args.acl 0)
    (Some c.args.value)

pub returns-clause-given : goal.returns-clause-given
returns-clause-given c = λ other external.
    given_after c.args.slots.now.acls c.args.table.now.items c.give.new.table.items c.args.acl c.args.value other
    c.requires.counted c.requires.external (changed c) external

pub returns-clause-at : goal.returns-clause-at
returns-clause-at c = λ facts p n is.
    placed_given facts c.args.slots.now c.args.table.now.items c.give.new.table.items c.args.acl c.args.value p n
    c.requires.counted c.requires.external c.requires.none (changed c) is

pub returns-clause-left : goal.returns-clause-left
returns-clause-left c =
    left_after c.args.slots.now.acls c.args.table.now.items c.give.new.table.items c.args.acl c.args.value
    c.requires.counted c.requires.external c.requires.none (changed c)
