-- Which calls of the forms in memory fail, and how their calls are told.
use Rattle.std.proofs.Common.{◌≡◌, Bool, true, false, ◌||◌, ◌&&◌, ◌==◌, if◌then◌else◌, List, ℕ, ◌+◌, min, None, Some, refl, arith}
use Rattle.std.proofs.lemmas.Bool.Decides.{nat_tests}
use Rattle.std.specs.Prelude.{is_some}
use Rattle.std.specs.declared.option.Option.{Option}
use Rattle.sq_outside.specs.Dials.{CallsMore}

-- an opening that is not listed, of a file that is not there
pub absent_no_fault : (listed full : Bool) (text : Option (List ℕ)) → listed ≡ false → text ≡ None
    → (listed || is_some text && full) ≡ false
absent_no_fault listed full text e f = rw (e, f) refl

-- a call that is not listed and finds what it asks for
pub neither_fails : (listed absent : Bool) → listed ≡ false → absent ≡ false → false ≡ (listed || absent)
neither_fails listed absent e f = rw (e, f) refl

-- two numbers that are told, where they are
more_of : (full was_full : Bool) (n m : ℕ) → (full ≡ false → was_full ≡ false) → (full ≡ false → m ≡ n + 1)
    → CallsMore (if was_full then None else Some n) (if full then None else Some m)
more_of true was_full n m f g = tt
more_of false was_full n m f g = (n, rw (f refl) refl, g refl)

-- the number of calls after one more, which stays at the limit and is not told there
pub one_more : (limit n : ℕ) → CallsMore (if n == limit then None else Some n)
    (if min (n + 1) limit == limit then None else Some (min (n + 1) limit))
one_more limit n = more_of (min (n + 1) limit == limit) (n == limit) n (min (n + 1) limit)
    (λ e. grind (arith, nat_tests)) (λ e. grind (arith, nat_tests))
