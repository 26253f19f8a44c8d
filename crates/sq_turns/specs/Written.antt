-- A text of the proxy's own that goes to the client.
use Rattle.std.specs.Prelude.{◌≡◌, ℕ, List}
use Rattle.std.specs.declared.option.Option.{Option}
use Rattle.std.specs.Io.KnownBytes.{Appends}
use Rattle.sq_outside.specs.Output.{IsPrefix, Grew}
use Rattle.sq_turns.specs.declared.ends.Carried.{Carried}
use Rattle.sq_turns.specs.declared.ends.Carried.TheVariants.{Stays, Closes, Over}
use Rattle.sq_turns.specs.declared.ends.End.TheVariants.{Finished, Cut, ClientFault, OriginCut, OriginFault, Starved, WantOfMemory}

-- the whole text was written, and it ends so; or a front of it, and the link failed or there was no
-- memory
abbrev pub Tells : List ℕ → Carried → Option (List ℕ) → Option (List ℕ) → Carried → Type 0
Tells text then before now Stays = (then ≡ Stays) × Appends before now text
Tells text then before now Closes = (then ≡ Closes) × Appends before now text
Tells text then before now (Over ClientFault) = Grew before now (λ part. IsPrefix part text)
Tells text then before now (Over WantOfMemory) = Grew before now (λ part. IsPrefix part text)
Tells text then before now (Over Finished) = ⊥
Tells text then before now (Over Cut) = ⊥
Tells text then before now (Over OriginCut) = ⊥
Tells text then before now (Over OriginFault) = ⊥
Tells text then before now (Over Starved) = ⊥

-- the same, of this text
pub record WritesReply (text : List ℕ) (then : Carried) (before now : Option (List ℕ))
    (ended : Carried) : Type 0 where
  pub is : Tells text then before now ended
