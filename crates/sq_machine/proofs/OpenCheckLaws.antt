-- The open check of a connection, where it has one, is open and of that connection.
use Rattle.std.proofs.Common.{◌≡◌, ℕ, Bool, true, false, if◌then◌else◌, ◌==◌, ◌&&◌, Some, None, zero, suc, refl, ap, arith, subst}
use Rattle.std.proofs.lemmas.Bool.Decides.{nat_tests}
use Rattle.std.proofs.lemmas.Option.{none-some, same_Some}
use Rattle.std.specs.declared.option.Option.{Option}
use Rattle.sq_machine.specs.Checks.{ask_count, check_open, conn_of, is_open_of, open_among, open_check}
use Rattle.sq_machine.specs.Entries.{History}
use Rattle.sq_machine.specs.Events.{is_number}

-- check n is open, and it is one of connection c
pub record IsOpenOf (h : History) (c n : ℕ) : Type 0 where
  pub open_is : check_open h n ≡ true
  pub conn_is : conn_of h n ≡ Some c

is_number_some : (n : ℕ) (o : Option ℕ) → is_number n o ≡ true → o ≡ Some n
is_number_some n None e = absurd (cc)
is_number_some n (Some k) e = let same : k ≡ n = grind (arith, nat_tests) in ap Some same

open_by : (h : History) (c n : ℕ) (b : Bool) → check_open h n ≡ b → (b && is_number c (conn_of h n)) ≡ true
    → IsOpenOf h c n
open_by h c n true same e = record { open_is = same; conn_is = is_number_some c (conn_of h n) e }
open_by h c n false same e = absurd (cc)

-- from the test of it
pub open_of : (h : History) (c n : ℕ) → is_open_of h c n ≡ true → IsOpenOf h c n
open_of h c n e = open_by h c n (check_open h n) refl e

-- a number is itself
pub is_itself : (c : ℕ) → (c == c) ≡ true
is_itself c = grind (arith, nat_tests)

among_by : (h : History) (c k n : ℕ) (b : Bool) → is_open_of h c (suc k) ≡ b
    → (open_among h c k ≡ Some n → IsOpenOf h c n)
    → (if b then Some (suc k) else open_among h c k) ≡ Some n → IsOpenOf h c n
among_by h c k n true same before e = subst (IsOpenOf h c) (same_Some _ _ e) (open_of h c (suc k) same)
among_by h c k n false same before e = before e

among_found : (h : History) (c k n : ℕ) → open_among h c k ≡ Some n → IsOpenOf h c n
unfolding open_among
among_found h c zero n e = absurd (none-some n e)
among_found h c (suc k) n e = among_by h c k n (is_open_of h c (suc k)) refl (among_found h c k n) e

-- the open check of a connection is open, and is one of the connection
pub open_check_found : (h : History) (c n : ℕ) → open_check h c ≡ Some n → IsOpenOf h c n
open_check_found h c n e = among_found h c (ask_count h) n e
