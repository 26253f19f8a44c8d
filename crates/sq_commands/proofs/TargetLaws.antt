-- Each request of a rehearsal can be made.
use Rattle.std.proofs.Common.{◌≡◌, ℕ, ◌/◌, ◌%◌, ◌<◌, ◌==◌, ◌&&◌, suc, zero, List, [], ◌++◌, Bool, true, false, if◌then◌else◌, is_some, refl, subst, arith}
use Rattle.std.proofs.lemmas.Bool.Decides.{nat_tests}
use Rattle.std.specs.Char.{encode_utf8 as encode}
use Rattle.std.specs.Fmt.{digits}
use Rattle.std.specs.Prelude.{codes, decimal}
use Rattle.std.specs.Str.{chars, is_utf8}
use Rattle.httparse.specs.Grammar.{is_token_byte}
use Rattle.sq_base.specs.Targets.{absolute_form as absolute, host_in, port_of as port_in, target_of, with_scheme}
use Rattle.sq_request.specs.Written.{is_written, made_request}
use Rattle.sq_commands.specs.Requests.{host_number, target_text}

abbrev text_of : ℕ → ℕ → List ℕ
text_of k port = codes "http://h" ++ decimal k ++ codes ".example:" ++ decimal port ++ codes "/"

abbrev is_made : ℕ → ℕ → Bool
is_made k port = is_some (made_request (codes "GET") (text_of k port) 1 [])

are_made : ℕ → Bool
are_made zero = true
are_made (suc k) = is_made k 80 && is_made k 81 && are_made k

all_made : are_made 50 ≡ true
unfolding are_made is_token_byte digits is_written is_utf8 chars encode target_of absolute with_scheme host_in port_in
all_made = refl

both : (a b c : Bool) → (a && b && c) ≡ true → (a ≡ true) × (b ≡ true) × (c ≡ true)
both true true true e = (refl, refl, refl)
both true true false e = absurd (cc)
both true false c e = absurd (cc)
both false b c e = absurd (cc)

made_by : (n k : ℕ) (b : Bool) → (k == n) ≡ b → (is_made n 80 ≡ true) × (is_made n 81 ≡ true)
    → ((k == n) ≡ false → (is_made k 80 ≡ true) × (is_made k 81 ≡ true))
    → (is_made k 80 ≡ true) × (is_made k 81 ≡ true)
made_by n k true same here before =
    let one : n ≡ k = grind (arith, nat_tests, same) in
    subst (λ (m : ℕ). (is_made m 80 ≡ true) × (is_made m 81 ≡ true)) one here
made_by n k false apart here before = before apart

made_below : (n k : ℕ) → are_made n ≡ true → k < n → (is_made k 80 ≡ true) × (is_made k 81 ≡ true)
unfolding are_made
made_below zero k all less = absurd (omega (arith, less))
made_below (suc n) k all less =
    let here = both (is_made n 80) (is_made n 81) (are_made n) all in
    made_by n k (k == n) refl (here.0, here.1)
    (λ apart. made_below n k here.2 (grind (arith, nat_tests, less, apart)))

pub target_made : (x : ℕ) → is_some (made_request (codes "GET") (target_text x) 1 []) ≡ true
target_made x = by (x / 1024 % 8 == 0)
  where
    below : host_number x < 50
    below = omega arith

    made : (is_made (host_number x) 80 ≡ true) × (is_made (host_number x) 81 ≡ true)
    made = made_below 50 (host_number x) all_made below

    by : (b : Bool) → is_made (host_number x) (if b then 81 else 80) ≡ true
    by true = made.1
    by false = made.0
