-- The numbers that the standard library's addresses give are those of the texts.
use Rattle.std.proofs.Common.{◌≡◌, ℕ, ◌+◌, ◌*◌, List, [], ◌∷◌, inl, inr, length, get_or, Option, Some, None, arith, refl, sym, ◌∙◌, ap, length-append}
use Rattle.std.proofs.lemmas.List.{length-replicate}
use Rattle.std.proofs.NetLemmas.Arrays.{eight_items}
use Rattle.std.specs.Net.Addr.{ipv4_octets, ipv6_segments}
use Rattle.std.specs.Net.Grammar.{IsDotted, IsColonHex}
use Rattle.std.specs.declared.net.ipv4_addr.Ipv4Addr.{Ipv4Addr}
use Rattle.std.specs.declared.net.ipv6_addr.Ipv6Addr.{Ipv6Addr}
use Rattle.sq_base.specs.Addresses.{number_on, v4_of, v6_of}
use Rattle.sq_base.proofs.AddressLaws.{v4_spelled, v6_spelled, v4_read, v6_read}

four_octets_number : (octets : List ℕ) (a b c d : ℕ) → octets ≡ a ∷ b ∷ c ∷ d ∷ []
    → ((get_or octets 0 0 * 256 + get_or octets 1 0) * 256 + get_or octets 2 0) * 256 + get_or octets 3 0
    ≡ number_on 256 0 octets
four_octets_number octets a b c d e = rw e (omega arith)

-- the octets of an address that the text spells
pub v4_found : (text octets : List ℕ) → IsDotted text octets
    → Some (((get_or octets 0 0 * 256 + get_or octets 1 0) * 256 + get_or octets 2 0) * 256 + get_or octets 3 0)
    ≡ v4_of text
v4_found text octets h = ap Some (four_octets_number octets h.a h.b h.c h.d h.value) ∙ sym (v4_read text octets h)

v4_absent_at : (text : List ℕ) (o : Option ℕ) → v4_of text ≡ o → ((a : Ipv4Addr) → ¬ (IsDotted text (ipv4_octets a)))
    → None ≡ o
v4_absent_at text None e none = refl
v4_absent_at text (Some n) e none = let s = v4_spelled text n e in absurd (none (record { octets = s.0 }) s.1)

-- a text that spells no address
pub v4_absent : (text : List ℕ) → ((a : Ipv4Addr) → ¬ (IsDotted text (ipv4_octets a))) → None ≡ v4_of text
v4_absent text none = v4_absent_at text (v4_of text) refl none

eight_horner : (a b c d e f g h : ℕ)
    → (((a * 65536 + b) * 65536 + c) * 65536 + d) * 18446744073709551616 + (((e * 65536 + f) * 65536 + g) * 65536 + h)
    ≡ number_on 65536 0 (a ∷ b ∷ c ∷ d ∷ e ∷ f ∷ g ∷ h ∷ [])
eight_horner a b c d e f g h = omega arith

eight_groups_number : (g : List ℕ) → length g ≡ 8
    → (((get_or g 0 0 * 65536 + get_or g 1 0) * 65536 + get_or g 2 0) * 65536 + get_or g 3 0) * 18446744073709551616
    + (((get_or g 4 0 * 65536 + get_or g 5 0) * 65536 + get_or g 6 0) * 65536 + get_or g 7 0) ≡ number_on 65536 0 g
eight_groups_number g e =
    eight_horner (get_or g 0 0) (get_or g 1 0) (get_or g 2 0) (get_or g 3 0) (get_or g 4 0) (get_or g 5 0)
    (get_or g 6 0) (get_or g 7 0)
    ∙ ap (λ t. number_on 65536 0 t) (sym (eight_items g e))

eight_long : (text groups : List ℕ) → IsColonHex text groups → length groups ≡ 8
eight_long text groups (inl h) = h.1
eight_long text groups (inr h) = rw h.value (simp (length-append, length-replicate) (omega (arith, h.room)))

-- the groups of an address that the text spells
pub v6_found : (text g : List ℕ) → IsColonHex text g
    → Some ((((get_or g 0 0 * 65536 + get_or g 1 0) * 65536 + get_or g 2 0) * 65536 + get_or g 3 0)
    * 18446744073709551616
    + (((get_or g 4 0 * 65536 + get_or g 5 0) * 65536 + get_or g 6 0) * 65536 + get_or g 7 0)) ≡ v6_of text
v6_found text g h = ap Some (eight_groups_number g (eight_long text g h)) ∙ sym (v6_read text g h)

v6_absent_at : (text : List ℕ) (o : Option ℕ) → v6_of text ≡ o
    → ((a : Ipv6Addr) → ¬ (IsColonHex text (ipv6_segments a))) → None ≡ o
v6_absent_at text None e none = refl
v6_absent_at text (Some n) e none = let s = v6_spelled text n e in absurd (none (record { segments = s.0 }) s.1)

-- a text that spells no address
pub v6_absent : (text : List ℕ) → ((a : Ipv6Addr) → ¬ (IsColonHex text (ipv6_segments a))) → None ≡ v6_of text
v6_absent text none = v6_absent_at text (v6_of text) refl none
