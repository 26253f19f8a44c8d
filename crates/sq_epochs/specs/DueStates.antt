-- The act that is due in live epochs, and what making it leaves.
use Rattle.std.specs.Prelude.{ℕ, zero, suc, List, [], ◌∷◌, Bool, not, ◌==◌, if◌then◌else◌, map, filter, length, slice_get, Some, None, is_some}
use Rattle.std.specs.List.{flat_map}
use Rattle.std.specs.Option.{option_and_then, option_map, option_or}
use Rattle.std.specs.declared.option.Option.{Option}
use Rattle.sq_machine.specs.DueActs.{ClassId, Due, first_made, first_of, sends, starts, stops}
use Rattle.sq_machine.specs.Farms.{send_of, start_due}
use Rattle.sq_machine.specs.Numbered.{below}
use Rattle.sq_model.specs.ClassRows.{after_sending, after_starting}
use Rattle.sq_class.specs.Parts.{PartState}
use Rattle.sq_machine.specs.declared.acts.Act.{Act}
use Rattle.sq_machine.specs.declared.acts.Act.TheVariants as act
use Rattle.sq_epochs.specs.EpochStates.{EpochState, EpochsState, change_epoch, part_at}

-- the classes of an epoch, in order
abbrev pub places_in : EpochState → List ClassId
places_in x = map (λ c. record { epoch = x.epoch; class = c }) (below (length x.config.classes))

-- the classes of the live epochs, by epoch and place
abbrev pub live_places : EpochsState → List ClassId
live_places v = flat_map places_in v.epochs

-- what a class at a place is to do, by its part
abbrev pub act_at : (ClassId → PartState → Option Due) → EpochsState → ClassId → Option Due
act_at by v p = option_and_then (by p) (part_at v p.epoch p.class)

-- the send of a class, where one is due
abbrev pub send_by : ClassId → PartState → Option Due
send_by p x = option_map (sends p) (send_of x.row.stock)

-- the start of a class, where one is due
abbrev pub start_by : ClassId → PartState → Option Due
start_by p x = if start_due x.row.stock then Some (starts p) else None

-- the next act: first stops, then sends, then starts
abbrev pub due_of : EpochsState → Option Due
due_of v =
    option_or (option_map stops (first_of v.stops))
    (option_or (first_made (act_at send_by v) (live_places v))
    (first_made (act_at start_by v) (live_places v)))

-- the part at a place of these changed
abbrev pub change_at : ℕ → (PartState → PartState) → List PartState → List PartState
change_at c f [] = []
change_at zero f (p ∷ ps) = f p ∷ ps
change_at (suc c) f (p ∷ ps) = p ∷ change_at c f ps

-- the part of the class at this place of an epoch changed
abbrev pub change_class : ℕ → (PartState → PartState) → EpochState → EpochState
change_class c f x = record x { parts = change_at c f x.parts }

-- the part of the class at a place changed
abbrev pub change_part : ClassId → (PartState → PartState) → EpochsState → EpochsState
change_part p f v = record v { epochs = change_epoch p.epoch (change_class p.class f) v.epochs }

abbrev pub sent_part : PartState → PartState
sent_part p = record p { row = after_sending p.row }

abbrev pub started_part : PartState → PartState
started_part p = record p { row = after_starting p.row }

-- the act was made
abbrev pub after_due : Option Due → EpochsState → EpochsState
after_due None v = v
after_due (Some (stops k)) v = record v { stops = filter (λ j. not (k == j)) v.stops }
after_due (Some (sends p s)) v = change_part p sent_part v
after_due (Some (starts p)) v = change_part p started_part v

-- the act as it is told
abbrev pub told_act : Due → Act
told_act (stops k) = act.Stop k
told_act (sends p s) = act.Send s.proc s.question s.channel s.text
told_act (starts p) = act.Start p.epoch p.class

abbrev pub told_due : Option Due → Option Act
told_due d = option_map told_act d

-- the place of the first that the test holds of
abbrev pub first_place : {A : Type 0} → (A → Bool) → List A → Option ℕ
first_place test [] = None
first_place test (x ∷ xs) = if test x then Some 0 else option_map suc (first_place test xs)

-- a send of the class is due
abbrev pub owes_send : PartState → Bool
owes_send p = is_some (send_of p.row.stock)

-- a start of the class is due
abbrev pub owes_start : PartState → Bool
owes_start p = start_due p.row.stock

-- some class of the epoch meets the test
abbrev pub has_act : (PartState → Bool) → EpochState → Bool
has_act test x = is_some (first_place test x.parts)

-- what the first class of the epoch is to do that meets the test
abbrev pub act_in : (ClassId → PartState → Option Due) → (PartState → Bool) → EpochState
    → Option Due
act_in by test x = option_and_then
    (λ c. option_and_then (by (record { epoch = x.epoch; class = c })) (slice_get x.parts c))
    (first_place test x.parts)

-- the epoch after an act of it
abbrev pub after_act_in : Option Due → EpochState → EpochState
after_act_in None x = x
after_act_in (Some (stops k)) x = x
after_act_in (Some (sends p s)) x = change_class p.class sent_part x
after_act_in (Some (starts p)) x = change_class p.class started_part x
