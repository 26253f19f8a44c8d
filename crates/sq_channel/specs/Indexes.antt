-- What a process keeps beside its channels, so that no call searches through them.
use Rattle.std.specs.Prelude.{◌≡◌, ℕ, suc, ◌≤◌, List, [], ◌∷◌, length, ◌==◌, if◌then◌else◌, Some, None}
use Rattle.std.specs.declared.option.Option.{Option}
use Rattle.std.specs.Option.{option_map}
use Rattle.sq_machine.specs.Channels.{opened}
use Rattle.sq_channel.specs.declared.questions.Slot.{Slot}

-- channels in order, and for how many there is room
pub record Numbers : Type 0 where
  pub numbers : List ℕ
  pub room : ℕ

-- the places of open questions, by question, and for how many there is room
pub record Places : Type 0 where
  pub places : List Slot
  pub room : ℕ

-- the question of a place
abbrev pub place_question : Slot → ℕ
place_question p = p.question

-- the channels that have no question, where the first of these is channel n
abbrev pub free_channels : ℕ → List (Option ℕ) → List ℕ
free_channels n [] = []
free_channels n (None ∷ slots) = n ∷ free_channels (suc n) slots
free_channels n (Some q ∷ slots) = free_channels (suc n) slots

-- the channel on which the question is open
abbrev pub channel_with : ℕ → List (Option ℕ) → Option ℕ
channel_with q [] = None
channel_with q (None ∷ slots) = option_map suc (channel_with q slots)
channel_with q (Some p ∷ slots) = if q == p then Some 0 else option_map suc (channel_with q slots)

-- the channel that stands with the question
abbrev pub channel_in : ℕ → List Slot → Option ℕ
channel_in q [] = None
channel_in q (p ∷ places) = if q == p.question then Some p.channel else channel_in q places

-- the free channels are these, and there is room for all
pub record AreFree (slots : List (Option ℕ)) (f : Numbers) : Type 0 where
  pub are : f.numbers ≡ free_channels 0 slots
  pub room : length slots ≤ f.room

-- the open questions and their channels are these, and there is room for one on each channel
pub record ArePlaces (slots : List (Option ℕ)) (o : Places) : Type 0 where
  pub are : (q : ℕ) → channel_in q o.places ≡ channel_with q slots
  pub count : length o.places ≡ length (opened slots)
  pub room : length slots ≤ o.room
