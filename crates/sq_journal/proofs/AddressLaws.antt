-- The word of an address.
use Rattle.std.proofs.Common.{◌≡◌, ℕ, ◌^◌, List, Bool, true, false, Some, None, Option, nat_lt, bytes_eq, arith, refl, subst, inl, inr, ltb-true}
use Rattle.std.proofs.lemmas.Bool.Decides.{nat_tests}
use Rattle.std.proofs.lemmas.List.Elements.{All-weaker}
use Rattle.std.proofs.NetLemmas.Alphabet.{All-ipv4_text, All-hex_groups_text, IsDigitOrDot, IsHexOrColon}
use Rattle.std.proofs.lemmas.Option.{none-some}
use Rattle.std.proofs.lemmas.Bool.{and_parts}
use Rattle.sq_base.proofs.CommonLaws.{if_both_some}
use Rattle.sq_base.specs.Addresses.{Address, IsAddress, address_of, address_text, v4_text, v6_text, four_octets, eight_groups}
use Rattle.sq_base.proofs.AddressLaws.{text_reads_back, octets_fit, groups_fit}
use Rattle.sq_journal.specs.Lines.{is_space}
use Rattle.sq_journal.specs.Reading.{printed_address, address_if, has_bits}
use Rattle.sq_base.specs.Texts.{AreBytes}
use Rattle.sq_journal.proofs.LineLaws.{IsPlain}
use Rattle.sq_journal.proofs.WordLaws.{ExactWord, word_is, word_same}

bits_at : (v6 : Bool) (n : ℕ) → IsAddress (record { v6 = v6; number = n })
    → has_bits (record { v6 = v6; number = n }) ≡ true
bits_at true n h = h.1
bits_at false n h = rw (h.0 refl, h.1) refl

-- an address has its bits, and what has them is one
pub bits_of_address : (a : Address) → IsAddress a → has_bits a ≡ true
bits_of_address a h = bits_at a.v6 a.number h

address_at : (v6 : Bool) (n : ℕ) → has_bits (record { v6 = v6; number = n }) ≡ true
    → IsAddress (record { v6 = v6; number = n })
address_at true n h = (λ e. absurd (cc), h)
address_at false n h = let both = and_parts (nat_lt n (2 ^ 32)) (nat_lt n (2 ^ 128)) h in (λ e. both.0, both.1)

address_with_bits : (a : Address) → has_bits a ≡ true → IsAddress a
address_with_bits a h = address_at a.v6 a.number h

address_again : (a : Address) → IsAddress a → printed_address (address_text a) ≡ Some a
unfolding printed_address
address_again a h =
    let read : address_of (address_text a) ≡ Some a = text_reads_back a h in
    rw (read, bits_of_address a h, word_same (address_text a)) refl

taken_at : (w : List ℕ) (o : Option Address) (a : Address) → address_if w o ≡ Some a
    → (w ≡ address_text a) × IsAddress a
taken_at w None a e = absurd (none-some a e)
taken_at w (Some b) a e =
    let c = if_both_some (has_bits b) (bytes_eq w (address_text b)) b a e in
    subst (λ x. (w ≡ address_text x) × IsAddress x) c.2 (word_is w (address_text b) c.1, address_with_bits b c.0)

address_takes : (w : List ℕ) (a : Address) → AreBytes w → printed_address w ≡ Some a
    → (w ≡ address_text a) × IsAddress a
unfolding printed_address
address_takes w a small e = taken_at w (address_of w) a e

dot_plain : (b : ℕ) → IsDigitOrDot b → is_space b ≡ false
dot_plain b (inl r) = grind (arith, nat_tests)
dot_plain b (inr e) = rw e refl

colon_plain : (b : ℕ) → IsHexOrColon b → is_space b ≡ false
colon_plain b (inl r) = grind (arith, nat_tests)
colon_plain b (inr r) = grind (arith, nat_tests)

address_plain : (v6 : Bool) (n : ℕ) → IsAddress (record { v6 = v6; number = n })
    → IsPlain (address_text (record { v6 = v6; number = n }))
unfolding v4_text v6_text
address_plain false n h =
    All-weaker IsDigitOrDot (λ b. is_space b ≡ false) dot_plain _
    (All-ipv4_text (four_octets n) (octets_fit n (ltb-true n (2 ^ 32) (h.0 refl))))
address_plain true n h =
    All-weaker IsHexOrColon (λ b. is_space b ≡ false) colon_plain _
    (All-hex_groups_text (eight_groups n) (groups_fit n (ltb-true n (2 ^ 128) h.1)))

-- the words of addresses
pub address_exact : ExactWord printed_address address_text IsAddress
address_exact = record { again = address_again; takes = address_takes; plain = λ a h. address_plain a.v6 a.number h }
