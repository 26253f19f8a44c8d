-- Laws of the checks of a history: its readings by their newest entry, and what is so of numbers that were not given.
use Rattle.std.proofs.Common.{◌≡◌, ℕ, ◌<◌, ◌≤◌, [], ◌∷◌, Bool, true, false, ◌==◌, ◌&&◌, ◌||◌, Some, None, suc, refl, sym, arith, ap, ◌∙◌, if◌then◌else◌, ◌⊎◌, inl, inr, nat_le}
use Rattle.std.proofs.lemmas.Bool.Decides.{nat_tests}
use Rattle.std.proofs.lemmas.Option.{none-some}
use Rattle.std.specs.Option.{option_map, option_or}
use Rattle.std.specs.declared.option.Option.{Option}
use Rattle.sq_machine.specs.Checks.{Asked, asked_by, ask_of, ask_count, conn_of, more_if, numbered, check_open, ends_check, lasts, is_done}
use Rattle.sq_machine.specs.Entries.{History, Noted}
use Rattle.sq_machine.specs.Events.{Asking, asking, done_check, is_number}

-- how many checks have begun after one more entry
pub ask_count_more : (e : Noted) (h : History) → ask_count (e ∷ h) ≡ more_if (asking e.event) (ask_count h)
unfolding ask_count
ask_count_more e h = refl

-- a check after one more entry
pub ask_of_more : (e : Noted) (h : History) (n : ℕ) → ask_of (e ∷ h) n
    ≡ option_or (option_map (asked_by h e.moment) (numbered n (ask_count h) (asking e.event))) (ask_of h n)
unfolding ask_of
ask_of_more e h n = refl

-- whether a check is open after one more entry
pub check_open_more : (e : Noted) (h : History) (n : ℕ) → check_open (e ∷ h) n
    ≡ lasts (numbered n (ask_count h) (asking e.event)) (ends_check n (conn_of h n) e.event) (check_open h n)
unfolding check_open
check_open_more e h n = refl

-- whether a check is done after one more entry
pub is_done_more : (e : Noted) (h : History) (n : ℕ) → is_done (e ∷ h) n
    ≡ ((is_number n (done_check e.event e.answer) && nat_le n (ask_count h)) || is_done h n)
unfolding is_done
is_done_more e h n = refl

-- an entry that does not begin a check leaves it as it began
pub ask_of_kept : (e : Noted) (h : History) (n : ℕ) → numbered n (ask_count h) (asking e.event) ≡ None
    → ask_of (e ∷ h) n ≡ ask_of h n
ask_of_kept e h n old = ask_of_more e h n ∙ ap (λ x. option_or (option_map (asked_by h e.moment) x) (ask_of h n)) old

-- and leaves it open unless it ends it
pub check_open_kept : (e : Noted) (h : History) (n : ℕ) → numbered n (ask_count h) (asking e.event) ≡ None
    → check_open (e ∷ h) n ≡ (if ends_check n (conn_of h n) e.event then false else check_open h n)
check_open_kept e h n old = check_open_more e h n
    ∙ ap (λ x. lasts x (ends_check n (conn_of h n) e.event) (check_open h n)) old

-- an entry that begins a check with this number
pub ask_of_begun : (e : Noted) (h : History) (n : ℕ) (a : Asking) → numbered n (ask_count h) (asking e.event) ≡ Some a
    → ask_of (e ∷ h) n ≡ Some (asked_by h e.moment a)
ask_of_begun e h n a new = ask_of_more e h n ∙ ap (λ x. option_or (option_map (asked_by h e.moment) x) (ask_of h n)) new

-- opens it
pub check_open_begun : (e : Noted) (h : History) (n : ℕ) (a : Asking)
    → numbered n (ask_count h) (asking e.event) ≡ Some a → check_open (e ∷ h) n ≡ true
check_open_begun e h n a new = check_open_more e h n
    ∙ ap (λ x. lasts x (ends_check n (conn_of h n) e.event) (check_open h n)) new

-- an entry without a request begins no check
pub none_numbered : (n k : ℕ) (o : Option Asking) → o ≡ None → numbered n k o ≡ None
none_numbered n k o e = ap (numbered n k) e

-- no check has this number yet
pub record IsUnborn (n count : ℕ) : Type 0 where
  pub unborn : (n ≡ 0) ⊎ (count < n)

earlier : (n count : ℕ) → (n ≡ 0) ⊎ (suc count < n) → IsUnborn n count
earlier n count (inl e) = record { unborn = inl e }
earlier n count (inr l) = record { unborn = inr (omega arith) }

-- a number that is not given by an entry was not given before
unborn_before : (o : Option Asking) (n count : ℕ) → IsUnborn n (more_if o count) → IsUnborn n count
unborn_before None n count u = u
unborn_before (Some a) n count u = earlier n count u.unborn

not_next : (n count : ℕ) → (n ≡ 0) ⊎ (suc count < n) → (n == suc count) ≡ false
not_next n count (inl e) = grind (arith, nat_tests)
not_next n count (inr l) = grind (arith, nat_tests)

-- and none is begun with it
pub numbered_none : (o : Option Asking) (n count : ℕ) → IsUnborn n (more_if o count) → numbered n count o ≡ None
numbered_none None n count u = refl
numbered_none (Some a) n count u = rw (not_next n count u.unborn) refl

-- a number that was not given has no check
pub ask_of_unborn : (h : History) (n : ℕ) → IsUnborn n (ask_count h) → ask_of h n ≡ None
unfolding ask_of ask_count
ask_of_unborn [] n u = refl
ask_of_unborn (e ∷ h) n u =
    rw (numbered_none (asking e.event) n (ask_count h) u)
    (ask_of_unborn h n (unborn_before (asking e.event) n (ask_count h) u))

lasts_none : {A : Type 0} (o : Option A) (ended before : Bool) → o ≡ None → before ≡ false
    → lasts o ended before ≡ false
lasts_none None true before e f = refl
lasts_none None false before e f = f
lasts_none (Some a) ended before e f = absurd (none-some a (sym e))

-- nor is it open
pub check_open_unborn : (h : History) (n : ℕ) → IsUnborn n (ask_count h) → check_open h n ≡ false
unfolding check_open ask_count
check_open_unborn [] n u = refl
check_open_unborn (e ∷ h) n u =
    lasts_none (numbered n (ask_count h) (asking e.event)) (ends_check n (conn_of h n) e.event) (check_open h n)
    (numbered_none (asking e.event) n (ask_count h) u)
    (check_open_unborn h n (unborn_before (asking e.event) n (ask_count h) u))

past : (n count : ℕ) → (n ≡ 0) ⊎ (count < n) → (n ≡ 0 → ⊥) → nat_le n count ≡ false
past n count (inl e) pos = absurd (pos e)
past n count (inr l) pos = grind (arith, nat_tests)

guarded : (a b before : Bool) → b ≡ false → before ≡ false → ((a && b) || before) ≡ false
guarded true b before p q = rw p q
guarded false b before p q = q

-- nor did a step of it say that it is done
pub is_done_unborn : (h : History) (n : ℕ) → IsUnborn n (ask_count h) → (n ≡ 0 → ⊥) → is_done h n ≡ false
unfolding is_done ask_count
is_done_unborn [] n u pos = refl
is_done_unborn (e ∷ h) n u pos =
    let before = unborn_before (asking e.event) n (ask_count h) u in
    guarded (is_number n (done_check e.event e.answer)) (nat_le n (ask_count h)) (is_done h n)
    (past n (ask_count h) before.unborn pos) (is_done_unborn h n before pos)

open_given : (n count : ℕ) (b given : Bool) → (IsUnborn n count → b ≡ false) → b ≡ true → nat_le n count ≡ given
    → n ≤ count
open_given n count b true shut e f = grind (arith, nat_tests)
open_given n count b false shut e f = let none : b ≡ false =
    shut (record { unborn = inr (grind (arith, nat_tests)) }) in absurd (cc)

-- the number of an open check was given
pub open_born : (h : History) (n : ℕ) → check_open h n ≡ true → n ≤ ask_count h
open_born h n e = open_given n (ask_count h) (check_open h n) (nat_le n (ask_count h)) (check_open_unborn h n) e refl

-- a check as it began
pub record IsAsked (o : Option Asked) : Type 0 where
  pub asked : Asked
  pub is : o ≡ Some asked

asked_more : (o : Option Asking) (f : Asking → Asked) (ended before : Bool) (old : Option Asked)
    → (before ≡ true → IsAsked old) → lasts o ended before ≡ true
    → IsAsked (option_or (option_map f o) old)
asked_more (Some a) f ended before old more e = record { asked = f a; is = refl }
asked_more None f true before old more e = absurd (cc)
asked_more None f false before old more e = more e

-- an open check was asked for
pub open_asked : (h : History) (n : ℕ) → check_open h n ≡ true → IsAsked (ask_of h n)
unfolding check_open ask_of
open_asked [] n e = absurd (cc)
open_asked (e ∷ h) n opened =
    asked_more (numbered n (ask_count h) (asking e.event)) (asked_by h e.moment) (ends_check n (conn_of h n) e.event)
    (check_open h n) (ask_of h n) (open_asked h n) opened
