-- What the numbers and texts of events and answers are: each number is below its type's limit, each
-- amount within its own, and each text is of bytes. Every entry is so.
use Rattle.std.specs.Prelude.{◌≡◌, ℕ, ◌<◌, ◌^◌, ℤ, negsuc, pos, ◌≤ℤ◌, List, [], ◌∷◌, Bool, true, Some, None}
use Rattle.std.specs.declared.option.Option.{Option}
use Rattle.sq_base.specs.Addresses.{IsAddress}
use Rattle.sq_base.specs.Decimals.{number_limit, port_limit}
use Rattle.sq_base.specs.Replies.{channel_limit}
use Rattle.sq_base.specs.Texts.{AreBytes}
use Rattle.sq_base.specs.declared.requests.Field.{Field}
use Rattle.sq_machine.specs.declared.entries.Event.{Event}
use Rattle.sq_machine.specs.declared.entries.Event.TheVariants.{Begin, Open, Close, Ask, Step, Take, Started, StartFail, Line, Died, Act, Reconfigure, Seat, Grant, Leave}
use Rattle.sq_machine.specs.declared.entries.Told.{Told}
use Rattle.sq_machine.specs.declared.entries.Told.TheVariants as told
use Rattle.sq_rules.specs.declared.outcomes.Why.{Why}
use Rattle.sq_rules.specs.declared.outcomes.Why.TheVariants as why
use Rattle.sq_machine.specs.Entries.{Noted, IsEntry, is_event, is_amount}

-- a number of a connection, a check and the like, a moment, or an amount
abbrev pub IsNumber : ℕ → Type 0
IsNumber n = n < number_limit

-- a field of bytes
abbrev pub IsField : Field → Type 0
IsField f = AreBytes f.name × AreBytes f.value

-- each field is of bytes
abbrev pub AreFields : List Field → Type 0
AreFields [] = Unit {0}
AreFields (f ∷ fields) = IsField f × AreFields fields

-- minutes from -840 to 840
abbrev pub IsOffset : ℤ → Type 0
IsOffset minutes = (negsuc 839 ≤ℤ minutes) × (minutes ≤ℤ pos 840)

-- what an event holds
abbrev pub HoldsValues : Event → Type 0
HoldsValues (Begin offset) = IsOffset offset
HoldsValues (Open conn addr port) = IsNumber conn × IsAddress addr × (port < port_limit)
HoldsValues (Close conn) = IsNumber conn
HoldsValues (Ask conn method target fields) = IsNumber conn × AreBytes method × AreBytes target
    × AreFields fields
HoldsValues (Step check) = IsNumber check
HoldsValues (Take check) = IsNumber check
HoldsValues (Started epoch class) = IsNumber epoch × AreBytes class
HoldsValues (StartFail epoch class) = IsNumber epoch × AreBytes class
HoldsValues (Line proc bytes) = IsNumber proc × AreBytes bytes
HoldsValues (Died proc) = IsNumber proc
HoldsValues Act = Unit {0}
HoldsValues (Reconfigure text) = AreBytes text
HoldsValues (Seat conn) = IsNumber conn
HoldsValues (Grant seat wanted) = IsNumber seat × IsNumber wanted
HoldsValues (Leave seat) = IsNumber seat

-- an event as a value of its type, that meets its rules
abbrev pub IsEvent : Event → Type 0
IsEvent event = HoldsValues event × (is_event event ≡ true)

-- a reason as a value of its type
abbrev pub IsWhy : Why → Type 0
IsWhy (why.Rule number) = number < 2 ^ 32
IsWhy why.Default = Unit {0}
IsWhy why.Empty = Unit {0}
IsWhy (why.Fault rule acl cause) = (rule < 2 ^ 32) × AreBytes acl

-- a channel, where there is one, below its limit
abbrev pub IsChannel : Option ℕ → Type 0
IsChannel None = Unit {0}
IsChannel (Some channel) = channel < channel_limit

-- an answer as a value of its type
abbrev pub IsTold : Told → Type 0
IsTold (told.Epoch epoch) = IsNumber epoch
IsTold told.Fine = Unit {0}
IsTold (told.Check check) = IsNumber check
IsTold (told.Took class) = AreBytes class
IsTold (told.Waits question) = IsNumber question
IsTold told.Done = Unit {0}
IsTold (told.Judged epoch outcome) = IsNumber epoch × IsWhy outcome.why
IsTold (told.Proc proc) = IsNumber proc
IsTold (told.Reply question word) = IsNumber question
IsTold told.Bad = Unit {0}
IsTold told.Stray = Unit {0}
IsTold (told.Start epoch class) = IsNumber epoch × AreBytes class
IsTold (told.Send proc question channel key) = IsNumber proc × IsNumber question × IsChannel channel
    × AreBytes key
IsTold (told.Stop proc) = IsNumber proc
IsTold (told.Seat seat pool) = IsNumber seat × (pool < 2 ^ 32)
IsTold told.NoSeat = Unit {0}
IsTold (told.Granted bytes) = IsNumber bytes

-- an amount that was granted is within its limit
abbrev pub has_amount : Told → Bool
has_amount (told.Granted bytes) = is_amount bytes
has_amount answer = true

-- an entry as a value of its type
pub record IsNoted (e : Noted) : Type 0 where
  pub moment_is : IsNumber e.moment
  pub event_is : HoldsValues e.event
  pub answer_is : IsTold e.answer
  pub entry_is : IsEntry e.event e.answer
