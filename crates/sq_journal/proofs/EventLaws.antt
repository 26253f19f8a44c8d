-- Events: what is written of one is read, whatever follows that is no field, and nothing else is.
use Rattle.std.proofs.Common.{◌≡◌, ℕ, ◌^◌, ◌<◌, List, [], ◌∷◌, ◌++◌, true, Some, codes, decimal, map, arith, refl, ap, lt-ltb}
use Rattle.std.specs.Fmt.{signed_decimal}
use Rattle.sq_base.specs.Addresses.{IsAddress, address_text}
use Rattle.sq_base.specs.Decimals.{number_of, number_limit}
use Rattle.sq_base.specs.Escapes.{text_of, text_word}
use Rattle.sq_base.specs.Requests.{have_plain_names}
use Rattle.sq_machine.specs.declared.entries.Event.{Event}
use Rattle.sq_machine.specs.declared.entries.Event.TheVariants.{Begin, Open, Close, Ask, Step, Take, Started, StartFail, Line, Died, Act, Reconfigure, Seat, Grant, Leave}
use Rattle.sq_journal.specs.declared.names.EventName.TheVariants as name
use Rattle.sq_journal.specs.EntryText.{event_words, field_word}
use Rattle.sq_journal.specs.Names.{event_names}
use Rattle.sq_rules.specs.Steps.{WordList}
use Rattle.sq_journal.specs.Reading.{word_in, below_in, number_in, text_in, offset_from, printed_address, event_after, event_in}
use Rattle.sq_base.specs.Texts.{AreBytes}
use Rattle.sq_journal.specs.Values.{IsNumber, IsOffset, HoldsValues, IsEvent}
use Rattle.sq_journal.proofs.AddressLaws.{address_exact}
use Rattle.sq_journal.proofs.AskLaws.{EndsFields, fields_takes, fields_again, fields_plain}
use Rattle.sq_journal.proofs.FieldLaws.{◌⊗◌, TakesAfter, TakesOnly, Exact, EachRow, one_word, by_name, bind_is, fields0_takes, fields1_takes, fields2_takes, fields3_takes, fields4_takes, fields1_again, fields2_again, fields3_again}
use Rattle.sq_journal.proofs.LineLaws.{ArePlain, plain_word}
use Rattle.sq_journal.proofs.WordLaws.{number_exact, text_exact, offset_exact}

-- the word of a number below a limit, and those of the other values
pub below_word : (limit : ℕ) → limit < 2 ^ 64 → Exact (below_in limit) (λ n. decimal n ∷ []) (λ n. n < limit)
below_word limit top = one_word (number_of limit) decimal (λ n. n < limit) (number_exact limit (omega (arith, top)))

-- the words of numbers
pub number : Exact number_in (λ n. decimal n ∷ []) IsNumber
number = below_word number_limit (omega arith)

-- the words of texts
pub text : Exact text_in (λ t. text_word t ∷ []) AreBytes
text = one_word text_of text_word AreBytes text_exact

offset : Exact (word_in offset_from) (λ z. signed_decimal z ∷ []) IsOffset
offset = one_word offset_from signed_decimal IsOffset offset_exact

address : Exact (word_in printed_address) (λ a. address_text a ∷ []) IsAddress
address = one_word printed_address address_text IsAddress address_exact

port : Exact (below_in (2 ^ 16)) (λ n. decimal n ∷ []) (λ n. n < 2 ^ 16)
port = below_word (2 ^ 16) (omega arith)

-- what stands behind each event's name
event_rows : EachRow (λ w k. TakesAfter (w ∷ []) (event_after k) event_words IsEvent) event_names
unfolding event_after
event_rows =
    fields1_takes Begin _ _ _ offset.takes (codes "begin" ∷ []) event_words IsEvent (λ a. refl) (λ a p. (p, refl))
    ⊗ fields3_takes Open _ _ _ number.takes _ _ _ address.takes _ _ _ port.takes (codes "open" ∷ []) event_words IsEvent
    (λ a b c. refl) (λ a b c p q r. ((p, q, r), refl))
    ⊗ fields1_takes Close _ _ _ number.takes (codes "close" ∷ []) event_words IsEvent (λ a. refl) (λ a p. (p, refl))
    ⊗ fields4_takes Ask _ _ _ number.takes _ _ _ text.takes _ _ _ text.takes _ _ _ fields_takes (codes "ask" ∷ [])
    event_words IsEvent (λ a b c d. refl) (λ a b c d p q r s. ((p, q, r, s.0), s.1))
    ⊗ fields1_takes Step _ _ _ number.takes (codes "step" ∷ []) event_words IsEvent (λ a. refl) (λ a p. (p, refl))
    ⊗ fields1_takes Take _ _ _ number.takes (codes "take" ∷ []) event_words IsEvent (λ a. refl) (λ a p. (p, refl))
    ⊗ fields2_takes Started _ _ _ number.takes _ _ _ text.takes (codes "started" ∷ []) event_words IsEvent (λ a b. refl)
    (λ a b p q. ((p, q), refl))
    ⊗ fields2_takes StartFail _ _ _ number.takes _ _ _ text.takes (codes "startfail" ∷ []) event_words IsEvent
    (λ a b. refl) (λ a b p q. ((p, q), refl))
    ⊗ fields2_takes Line _ _ _ number.takes _ _ _ text.takes (codes "line" ∷ []) event_words IsEvent (λ a b. refl)
    (λ a b p q. ((p, q), refl))
    ⊗ fields1_takes Died _ _ _ number.takes (codes "died" ∷ []) event_words IsEvent (λ a. refl) (λ a p. (p, refl))
    ⊗ fields0_takes Act (codes "act" ∷ []) event_words IsEvent refl (tt, refl)
    ⊗ fields1_takes Reconfigure _ _ _ text.takes (codes "reconfigure" ∷ []) event_words IsEvent (λ a. refl)
    (λ a p. (p, refl))
    ⊗ fields1_takes Seat _ _ _ number.takes (codes "seat" ∷ []) event_words IsEvent (λ a. refl) (λ a p. (p, refl))
    ⊗ fields2_takes Grant _ _ _ number.takes _ _ _ number.takes (codes "grant" ∷ []) event_words IsEvent (λ a b. refl)
    (λ a b p q. ((p, q), lt-ltb b (2 ^ 63) q))
    ⊗ fields1_takes Leave _ _ _ number.takes (codes "leave" ∷ []) event_words IsEvent (λ a. refl) (λ a p. (p, refl))
    ⊗ tt

-- no event is read but one that was written
pub event_takes : TakesOnly event_in event_words IsEvent
unfolding event_in
event_takes = by_name event_names event_after event_words IsEvent event_rows

ask_again : (conn : ℕ) (method target : List ℕ) (fields : _) (rest : WordList)
    → HoldsValues (Ask conn method target fields) → have_plain_names fields ≡ true → EndsFields rest
    → event_after name.Ask (decimal conn ∷ text_word method ∷ text_word target ∷ map field_word fields ++ rest)
    ≡ Some (Ask conn method target fields, rest)
unfolding event_after
ask_again conn method target fields rest h names end =
    let more = map field_word fields ++ rest in
    bind_is (number_in (decimal conn ∷ text_word method ∷ text_word target ∷ more)) _
    (conn, text_word method ∷ text_word target ∷ more) _
    (number.again conn (text_word method ∷ text_word target ∷ more) h.0)
    (bind_is (text_in (text_word method ∷ text_word target ∷ more)) _ (method, text_word target ∷ more) _
    (text.again method (text_word target ∷ more) h.1)
    (bind_is (text_in (text_word target ∷ more)) _ (target, more) _ (text.again target more h.2)
    (ap (λ p. Some (Ask conn method target p.0, p.1)) (fields_again fields rest h.3 names end))))

-- an event that was written is read, where no field follows
pub event_again : (e : Event) (rest : WordList) → IsEvent e → EndsFields rest
    → event_in (event_words e ++ rest) ≡ Some (e, rest)
unfolding event_in word_in event_after
event_again (Begin z) rest h end = fields1_again Begin _ _ _ offset z rest h.0
event_again (Open c a p) rest h end = fields3_again Open _ _ _ number _ _ _ address _ _ _ port c a p rest h.0.0 h.0.1
    h.0.2
event_again (Close c) rest h end = fields1_again Close _ _ _ number c rest h.0
event_again (Ask c m t fs) rest h end = ask_again c m t fs rest h.0 h.1 end
event_again (Step n) rest h end = fields1_again Step _ _ _ number n rest h.0
event_again (Take n) rest h end = fields1_again Take _ _ _ number n rest h.0
event_again (Started e c) rest h end = fields2_again Started _ _ _ number _ _ _ text e c rest h.0.0 h.0.1
event_again (StartFail e c) rest h end = fields2_again StartFail _ _ _ number _ _ _ text e c rest h.0.0 h.0.1
event_again (Line p b) rest h end = fields2_again Line _ _ _ number _ _ _ text p b rest h.0.0 h.0.1
event_again (Died p) rest h end = fields1_again Died _ _ _ number p rest h.0
event_again Act rest h end = refl
event_again (Reconfigure t) rest h end = fields1_again Reconfigure _ _ _ text t rest h.0
event_again (Seat c) rest h end = fields1_again Seat _ _ _ number c rest h.0
event_again (Grant s w) rest h end = fields2_again Grant _ _ _ number _ _ _ number s w rest h.0.0 h.0.1
event_again (Leave s) rest h end = fields1_again Leave _ _ _ number s rest h.0

-- no digit is a space
pub number_plain : (n : ℕ) → IsNumber n → ArePlain (decimal n ∷ [])
number_plain n h = ((number_exact number_limit (omega arith)).plain n h, tt)

-- no word of an event has a space
pub event_plain : (e : Event) → HoldsValues e → ArePlain (event_words e)
event_plain (Begin z) h = (plain_word (codes "begin") refl, (offset_exact.plain z h, tt))
event_plain (Open c a p) h = (
  plain_word (codes "open") refl,
  ((number_plain c h.0).0, (address_exact.plain a h.1, ((number_exact (2 ^ 16) (omega arith)).plain p h.2, tt))),
)
event_plain (Close c) h = (plain_word (codes "close") refl, number_plain c h)
event_plain (Ask c m t fs) h = (
  plain_word (codes "ask") refl,
  ((number_plain c h.0).0, (text_exact.plain m h.1, (text_exact.plain t h.2, fields_plain fs h.3))),
)
event_plain (Step n) h = (plain_word (codes "step") refl, number_plain n h)
event_plain (Take n) h = (plain_word (codes "take") refl, number_plain n h)
event_plain (Started e c) h = (
  plain_word (codes "started") refl,
  ((number_plain e h.0).0, (text_exact.plain c h.1, tt)),
)
event_plain (StartFail e c) h = (
  plain_word (codes "startfail") refl,
  ((number_plain e h.0).0, (text_exact.plain c h.1, tt)),
)
event_plain (Line p b) h = (plain_word (codes "line") refl, ((number_plain p h.0).0, (text_exact.plain b h.1, tt)))
event_plain (Died p) h = (plain_word (codes "died") refl, number_plain p h)
event_plain Act h = (plain_word (codes "act") refl, tt)
event_plain (Reconfigure t) h = (plain_word (codes "reconfigure") refl, (text_exact.plain t h, tt))
event_plain (Seat c) h = (plain_word (codes "seat") refl, number_plain c h)
event_plain (Grant s w) h = (plain_word (codes "grant") refl, ((number_plain s h.0).0, number_plain w h.1))
event_plain (Leave s) h = (plain_word (codes "leave") refl, number_plain s h)
