-- What a call that writes a text does to the sink.
use Rattle.std.specs.Prelude.{◌≡◌, ℕ, List, ◌++◌, Result, OnOk, OnErr}
use Rattle.std.specs.declared.option.Option.{Option}
use Rattle.std.specs.Io.KnownBytes.{Appends}
use Rattle.sq_outside.specs.Causes.{HasCause}
use Rattle.sq_outside.specs.Output.{Grew, IsProperPrefix}

-- the text was written; or a front of it, and not all, before a fault, which the sink counted
pub record Puts {T E : Type 0} (old new : Option (List ℕ)) (before now : ℕ) (result : Result T E)
    (text : List ℕ) : Type 0 where
  pub whole : OnOk result (Appends old new text)
  pub short : OnErr result (Grew old new (λ part. IsProperPrefix part text))
  pub cause : HasCause before now result

-- what was written so far without a fault, and what is to come of the whole
pub record Halfway (old new : Option (List ℕ)) (before now : ℕ) (whole rest : List ℕ) : Type 0 where
  pub done : List ℕ
  pub wrote : Appends old new done
  pub whole_is : done ++ rest ≡ whole
  pub quiet : now ≡ before
