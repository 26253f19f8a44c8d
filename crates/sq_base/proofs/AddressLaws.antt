-- The address of a text is the one that the text spells, and what is printed reads back.
use Rattle.std.proofs.Common.{◌≡◌, ℕ, zero, suc, ◌+◌, ◌*◌, ◌/◌, ◌%◌, ◌^◌, ◌<◌, inl, inr, Bool, true, false, List, [], ◌∷◌, ◌++◌, get_or, Option, Some, None, option_map, arith, refl, sym, ◌∙◌, ap, subst, lit≤, zero-add, eqb-true, ltb-true}
use Rattle.std.proofs.lemmas.Option.{none-some, same_Some}
use Rattle.std.proofs.Math.Nat.{div-div-eq-div-mul}
use Rattle.std.proofs.NetLemmas.Ipv4.{read_ipv4_complete, read_ipv4_sound}
use Rattle.std.proofs.NetLemmas.Ipv6.{read_ipv6_complete, read_ipv6_sound, EndsGroups-nil, IsDotted-not_colon_hex}
use Rattle.std.proofs.NetLemmas.Options.{cond_some, map_some}
use Rattle.std.proofs.NetLemmas.Texts.{IsDotted-ipv4_text, IsColonHex-hex_groups_text}
use Rattle.std.specs.Net.Grammar.{IsDotted, IsColonHex}
use Rattle.std.specs.Net.Reader.{read_ipv4, read_ipv6, whole_value}
use Rattle.sq_base.specs.Addresses.{Address, v4, v6, IsAddress, number_on, Spells, v4_of, v6_of, either_of, address_of, four_octets, eight_groups, v4_text, v6_text, address_text}

append_none : {A : Type 0} (xs : List A) → xs ++ [] ≡ xs
append_none [] = refl
append_none (x ∷ xs) = ap (λ t. x ∷ t) (append_none xs)

-- a value that was read from the whole text left nothing of it
whole_some : {A : Type 0} (r : Option (A × List ℕ)) (x : A) → whole_value r ≡ Some x → r ≡ Some (x, [])
whole_some None x e = absurd (none-some x e)
whole_some (Some (y, [])) x e = ap (λ t. Some (t, [])) (same_Some y x e)
whole_some (Some (y, b ∷ bs)) x e = let more = cond_some _ _ _ e in absurd (omega (arith, eqb-true _ _ more.0))

-- what is read as IPv4 is spelled so
pub v4_spelled : (text : List ℕ) (n : ℕ) → v4_of text ≡ Some n
    → (octets : List ℕ) × IsDotted text octets × (number_on 256 0 octets ≡ n)
unfolding v4_of
v4_spelled text n e =
    map_some (number_on 256 0) (whole_value (read_ipv4 text)) n e λ octets read value.
    let (front, split, dotted) = read_ipv4_sound text octets [] (whole_some (read_ipv4 text) octets read) in
    (octets, subst (λ t. IsDotted t octets) (sym (split ∙ append_none front)) dotted, value)

-- what is read as IPv6 is spelled so
pub v6_spelled : (text : List ℕ) (n : ℕ) → v6_of text ≡ Some n
    → (groups : List ℕ) × IsColonHex text groups × (number_on 65536 0 groups ≡ n)
unfolding v6_of
v6_spelled text n e =
    map_some (number_on 65536 0) (whole_value (read_ipv6 text)) n e λ groups read value.
    let (front, split, spelled) = read_ipv6_sound text groups [] (whole_some (read_ipv6 text) groups read) in
    (groups, subst (λ t. IsColonHex t groups) (sym (split ∙ append_none front)) spelled, value)

-- what is spelled as IPv4 is read so
pub v4_read : (text octets : List ℕ) → IsDotted text octets → v4_of text ≡ Some (number_on 256 0 octets)
unfolding v4_of
v4_read text octets h =
    let read = read_ipv4_complete text octets [] h (lit≤ tt) in
    ap (λ r. option_map (number_on 256 0) (whole_value r)) (ap read_ipv4 (sym (append_none text)) ∙ read)

-- what is spelled as IPv6 is read so
pub v6_read : (text groups : List ℕ) → IsColonHex text groups → v6_of text ≡ Some (number_on 65536 0 groups)
unfolding v6_of
v6_read text groups h =
    let read = read_ipv6_complete text groups [] h EndsGroups-nil in
    ap (λ r. option_map (number_on 65536 0) (whole_value r)) (ap read_ipv6 (sym (append_none text)) ∙ read)

not_v4_at : (text groups : List ℕ) (o : Option ℕ) → IsColonHex text groups → v4_of text ≡ o → o ≡ None
not_v4_at text groups None h e = refl
not_v4_at text groups (Some n) h e = let s = v4_spelled text n e in
    absurd (IsDotted-not_colon_hex text s.0 groups s.1 h)

-- no text spells addresses of both kinds
pub not_v4 : (text groups : List ℕ) → IsColonHex text groups → v4_of text ≡ None
not_v4 text groups h = not_v4_at text groups (v4_of text) h refl

-- what is spelled is read
pub spelled_is_read : (text : List ℕ) (a : Address) → Spells text a → address_of text ≡ Some a
unfolding address_of
spelled_is_read text a (inl s) = rw (v4_read text s.0 s.1, s.2) refl
spelled_is_read text a (inr s) = rw (not_v4 text s.0 s.1, v6_read text s.0 s.1, s.2) refl

either_spelled : (text : List ℕ) (a : Address) (p q : Option ℕ) → v4_of text ≡ p → v6_of text ≡ q
    → either_of p q ≡ Some a → Spells text a
either_spelled text a (Some n) q d g e =
    let s = v4_spelled text n d in inl (s.0, s.1, sym (same_Some _ a e) ∙ ap v4 (sym s.2))
either_spelled text a None (Some n) d g e =
    let s = v6_spelled text n g in inr (s.0, s.1, sym (same_Some _ a e) ∙ ap v6 (sym s.2))
either_spelled text a None None d g e = absurd (none-some a e)

-- what is read is spelled
pub read_is_spelled : (text : List ℕ) (a : Address) → address_of text ≡ Some a → Spells text a
unfolding address_of
read_is_spelled text a e = either_spelled text a (v4_of text) (v6_of text) refl refl e

-- what is not read is not spelled
pub none_is_spelled : (text : List ℕ) → address_of text ≡ None → (a : Address) → ¬ (Spells text a)
none_is_spelled text e a s = none-some a (sym e ∙ spelled_is_read text a s)

-- each octet of an IPv4 address fits eight bits
pub octets_fit : (n : ℕ) → n < 2 ^ 32 → (k : ℕ) → get_or (four_octets n) k 0 < 2 ^ 8
octets_fit n h zero = omega arith
octets_fit n h (suc zero) = omega arith
octets_fit n h (suc (suc zero)) = omega arith
octets_fit n h (suc (suc (suc zero))) = omega arith
octets_fit n h (suc (suc (suc (suc k)))) = omega arith

octets_number : (n : ℕ) → number_on 256 0 (four_octets n) ≡ n
octets_number n = omega arith

-- one group more
group_step : (n m k : ℕ) → m * 65536 ≡ k → n / k * 65536 + n / m % 65536 ≡ n / m
group_step n m k e =
    let q : n / m / 65536 ≡ n / k = div-div-eq-div-mul n m 65536 ∙ ap (λ t. n / t) e in
    let r : n / m / 65536 * 65536 + n / m % 65536 ≡ n / m = omega arith in
    subst (λ t. t * 65536 + n / m % 65536 ≡ n / m) q r

groups_number : (n : ℕ) → number_on 65536 0 (eight_groups n) ≡ n
groups_number n =
    rw (
      zero-add,
      group_step n (2 ^ 96) (2 ^ 112) refl,
      group_step n (2 ^ 80) (2 ^ 96) refl,
      group_step n (2 ^ 64) (2 ^ 80) refl,
      group_step n (2 ^ 48) (2 ^ 64) refl,
      group_step n (2 ^ 32) (2 ^ 48) refl,
      group_step n (2 ^ 16) (2 ^ 32) refl,
    )
    (omega arith)

-- each group of an IPv6 address fits sixteen bits
pub groups_fit : (n : ℕ) → n < 2 ^ 128 → (k : ℕ) → get_or (eight_groups n) k 0 < 2 ^ 16
groups_fit n h zero = omega arith
groups_fit n h (suc zero) = omega arith
groups_fit n h (suc (suc zero)) = omega arith
groups_fit n h (suc (suc (suc zero))) = omega arith
groups_fit n h (suc (suc (suc (suc zero)))) = omega arith
groups_fit n h (suc (suc (suc (suc (suc zero))))) = omega arith
groups_fit n h (suc (suc (suc (suc (suc (suc zero)))))) = omega arith
groups_fit n h (suc (suc (suc (suc (suc (suc (suc zero))))))) = omega arith
groups_fit n h (suc (suc (suc (suc (suc (suc (suc (suc k)))))))) = omega arith

kind_spells : (kind : Bool) (n : ℕ) → IsAddress (record { v6 = kind; number = n })
    → Spells (address_text (record { v6 = kind; number = n })) (record { v6 = kind; number = n })
unfolding v4_text v6_text
kind_spells false n h =
    inl (
      four_octets n,
      IsDotted-ipv4_text (four_octets n) refl (octets_fit n (ltb-true n (2 ^ 32) (h.0 refl))),
      ap v4 (sym (octets_number n)),
    )
kind_spells true n h =
    inr (
      eight_groups n,
      IsColonHex-hex_groups_text (eight_groups n) refl (groups_fit n (ltb-true n (2 ^ 128) h.1)),
      ap v6 (sym (groups_number n)),
    )

-- the text of an address spells it
pub text_spells : (a : Address) → IsAddress a → Spells (address_text a) a
text_spells a h = kind_spells a.v6 a.number h

-- what is printed reads back
pub text_reads_back : (a : Address) → IsAddress a → address_of (address_text a) ≡ Some a
text_reads_back a h = spelled_is_read (address_text a) a (text_spells a h)
