-- What the sums of the workers say of the journal and of the pools.
use Rattle.std.proofs.Common.{◌≡◌, ℕ, ◌+◌, ◌^◌, min, ap, ◌∙◌, arith}
use Rattle.std.specs.Option.{ForSome}
use Rattle.std.specs.declared.option.Option.{Option}
use Rattle.sq_outside.specs.Causes.{count_limit}
use Rattle.sq_machine.specs.Entries.{History}
use Rattle.sq_shared.specs.Books.{asks_in}

pub asks_summed : (told : Option History) (amount requests : ℕ) → ForSome told (λ h. amount ≡ asks_in h)
    → requests ≡ min amount count_limit
    → ForSome told (λ h. requests ≡ min (asks_in h) count_limit)
asks_summed told amount requests are is h e = is ∙ ap (λ n. min n count_limit) (are h e)

pub grants_summed : (pools tags amount granted : ℕ) → min (2 ^ 127) (pools + tags) ≡ min (2 ^ 127) amount
    → granted ≡ min amount count_limit → granted ≡ min (min (2 ^ 127) (pools + tags)) count_limit
grants_summed pools tags amount granted is are = grind arith
