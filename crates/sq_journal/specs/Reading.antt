-- In the statement: docs/STATEMENT.md lists which definitions.
-- Entries read from words, word by word.
use Rattle.std.specs.Prelude.{◌≡◌, ℕ, ◌+◌, ◌^◌, ℤ, pos, negsuc, List, [], ◌∷◌, ◌==◌, Bool, if◌then◌else◌, ◌&&◌, ◌||◌, nat_lt, Some, None, Result, Ok, Err, zero, suc, bytes_eq, take, drop, position, option_map, option_and_then}
use Rattle.std.specs.declared.option.Option.{Option}
use Rattle.sq_base.specs.Addresses.{Address, address_of, address_text, is_colon}
use Rattle.sq_base.specs.Bytes.{dash}
use Rattle.sq_base.specs.Decimals.{number_of, number_limit, port_limit}
use Rattle.sq_base.specs.Escapes.{text_of}
use Rattle.sq_base.specs.NameTables.{beside}
use Rattle.sq_base.specs.declared.requests.Field.{Field}
use Rattle.sq_machine.specs.declared.entries.Event.{Event}
use Rattle.sq_machine.specs.declared.entries.Event.TheVariants.{Begin, Open, Close, Ask, Step, Take, Started, StartFail, Line, Died, Act, Reconfigure, Seat, Grant, Leave}
use Rattle.sq_rules.specs.Steps.{WordList}
use Rattle.sq_journal.specs.declared.faults.EntryFault.{EntryFault}
use Rattle.sq_journal.specs.declared.faults.EntryFault.TheVariants.{BadEntry, WantOfMemory}
use Rattle.sq_journal.specs.declared.names.EventName.{EventName}
use Rattle.sq_journal.specs.declared.names.EventName.TheVariants as name
use Rattle.sq_journal.specs.Names.{event_names}

-- a value and the words after it
abbrev pub Reads : Type 0 → Type 0
Reads A = WordList → Option (A × WordList)

-- What a function returned, and the words that it left, are what reading gives, unless memory ran
-- out.
abbrev pub ReadsFront : {X : Type 0} → Result X EntryFault → WordList → Option (X × WordList)
    → Type 0
ReadsFront (Ok x) left read = read ≡ Some (x, left)
ReadsFront (Err BadEntry) left read = read ≡ None
ReadsFront (Err WantOfMemory) left read = Unit {0}

-- The same of a function that takes no memory, and so never wants any.
abbrev pub ReadsWithoutMemory : {X : Type 0} → Result X EntryFault → WordList
    → Option (X × WordList) → Type 0
ReadsWithoutMemory (Ok x) left read = read ≡ Some (x, left)
ReadsWithoutMemory (Err BadEntry) left read = read ≡ None
ReadsWithoutMemory (Err WantOfMemory) left read = ⊥

-- What a function returned is what reading the whole gives, unless memory ran out.
abbrev pub ReadsText : {X : Type 0} → Result X EntryFault → Option X → Type 0
ReadsText (Ok x) read = read ≡ Some x
ReadsText (Err BadEntry) read = read ≡ None
ReadsText (Err WantOfMemory) read = Unit {0}

-- A function returned this, or memory ran out.
abbrev pub Is : {X : Type 0} → X → Result X EntryFault → Type 0
Is x (Ok y) = y ≡ x
Is x (Err BadEntry) = ⊥
Is x (Err WantOfMemory) = Unit {0}

-- one word
unfoldable pub word_in : {A : Type 0} → (List ℕ → Option A) → Reads A
word_in of [] = None
word_in of (w ∷ ws) = option_map (λ x. (x, ws)) (of w)

-- the value, where no word is left
abbrev pub whole : {A : Type 0} → A × WordList → Option A
whole (x, []) = Some x
whole (x, w ∷ ws) = None

-- one reading, and by its value another over the words that it left
abbrev pub then_in : {A B : Type 0} → Reads A → (A → Reads B) → Reads B
then_in f g ws = option_and_then (λ a. g a.0 a.1) (f ws)

-- one value
abbrev pub fields1 : {A X : Type 0} → (A → X) → Reads A → Reads X
fields1 make f ws = option_map (λ a. (make a.0, a.1)) (f ws)

-- two in turn
abbrev pub fields2 : {A B X : Type 0} → (A → B → X) → Reads A → Reads B → Reads X
fields2 make f g = then_in f (λ a. fields1 (make a) g)

-- three in turn
abbrev pub fields3 : {A B C X : Type 0} → (A → B → C → X) → Reads A → Reads B → Reads C → Reads X
fields3 make f g h = then_in f (λ a. fields2 (make a) g h)

-- four in turn
abbrev pub fields4 : {A B C D X : Type 0} → (A → B → C → D → X) → Reads A → Reads B → Reads C
    → Reads D → Reads X
fields4 make f g h k = then_in f (λ a. fields3 (make a) g h k)

-- a number below a limit
abbrev pub below_in : ℕ → Reads ℕ
below_in limit = word_in (number_of limit)

-- a number of a connection and the like
abbrev pub number_in : Reads ℕ
number_in = below_in number_limit

-- a text
abbrev pub text_in : Reads (List ℕ)
text_in = word_in text_of

-- minutes below zero, if there are any
abbrev pub negative : ℕ → Option ℤ
negative zero = None
negative (suc n) = Some (negsuc n)

-- an offset of 14 hours at most
unfoldable pub offset_from : List ℕ → Option ℤ
offset_from [] = None
offset_from (b ∷ rest) = if b == dash then option_and_then negative (number_of 841 rest)
    else option_map pos (number_of 841 (b ∷ rest))

-- the number has the bits of its kind, as each that is read has
abbrev pub has_bits : Address → Bool
has_bits a = (a.v6 || nat_lt a.number (2 ^ 32)) && nat_lt a.number (2 ^ 128)

-- the address, where the word is its printed text
abbrev pub address_if : List ℕ → Option Address → Option Address
address_if word None = None
address_if word (Some a) = if has_bits a && bytes_eq word (address_text a) then Some a else None

-- the address whose printed text the word is
unfoldable pub printed_address : List ℕ → Option Address
printed_address word = address_if word (address_of word)

-- the text cut at this place
abbrev pub field_at : List ℕ → Option ℕ → Option Field
field_at text None = None
field_at text (Some k) = Some (record { name = take k text; value = drop (k + 1) text })

-- a field, cut at the first `:` of its text
unfoldable pub cut_field : List ℕ → Option Field
cut_field text = field_at text (position is_colon text)

-- the field whose word this is
unfoldable pub field_from : List ℕ → Option Field
field_from word = option_and_then cut_field (text_of word)

-- the field before those after it; or none, and all words
abbrev pub with_field : Option Field → WordList → List Field × WordList → List Field × WordList
with_field None all more = ([], all)
with_field (Some f) all more = (f ∷ more.0, more.1)

-- the fields at the front, and the words from the first that is no field's on
abbrev pub fields_from : WordList → List Field × WordList
fields_from [] = ([], [])
fields_from (w ∷ ws) = with_field (field_from w) (w ∷ ws) (fields_from ws)

-- those fields are read always: there may be none
abbrev pub fields_in : Reads (List Field)
fields_in ws = Some (fields_from ws)

-- what stands after an event's name
unfoldable pub event_after : EventName → Reads Event
event_after name.Begin = fields1 Begin (word_in offset_from)
event_after name.Open = fields3 Open number_in (word_in printed_address) (below_in port_limit)
event_after name.Close = fields1 Close number_in
event_after name.Ask = fields4 Ask number_in text_in text_in fields_in
event_after name.Step = fields1 Step number_in
event_after name.Take = fields1 Take number_in
event_after name.Started = fields2 Started number_in text_in
event_after name.StartFail = fields2 StartFail number_in text_in
event_after name.Line = fields2 Line number_in text_in
event_after name.Died = fields1 Died number_in
event_after name.Act = λ ws. Some (Act, ws)
event_after name.Reconfigure = fields1 Reconfigure text_in
event_after name.Seat = fields1 Seat number_in
event_after name.Grant = fields2 Grant number_in number_in
event_after name.Leave = fields1 Leave number_in

-- an event, by its name
unfoldable pub event_in : Reads Event
event_in = then_in (word_in (beside event_names)) event_after

-- the moment and the event of a script's line
unfoldable pub dated_of : WordList → Option (ℕ × Event)
dated_of ws = option_and_then whole
    (fields2 (λ moment event. (moment, event)) number_in event_in ws)
