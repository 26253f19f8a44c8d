-- What a desk and its pools have counted when they begin.
use Rattle.std.specs.Prelude.{◌≡◌, ℕ}
use Rattle.std.specs.Option.{ForSome}
use Rattle.std.specs.declared.option.Option.{Option}
use Rattle.sq_machine.specs.Entries.{History}
use Rattle.sq_shared.specs.Books.{AreCounted}

-- Where they are told, the journal has no request, no reconfiguration was made, nothing was refused
-- and nothing granted.
pub record HasCountedNone (told : Option History) (made : Option ℕ)
    (refused granted : ℕ) : Type 0 where
  pub entries : AreCounted 0 0 told
  pub makes : ForSome made (λ m. m ≡ 0)
  pub refusals : refused ≡ 0
  pub grants : granted ≡ 0
