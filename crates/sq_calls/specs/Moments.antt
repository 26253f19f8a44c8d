-- At which moments entries were noted, as a clock gave them.
use Rattle.std.specs.Prelude.{◌≡◌, ◌⊎◌, ℕ, List, [], ◌∷◌, ◌++◌, Some, None}
use Rattle.std.specs.declared.option.Option.{Option}
use Rattle.sq_outside.specs.World.{GivesMoment}
use Rattle.sq_machine.specs.Entries.{History}
use Rattle.sq_calls.specs.Telling.{noted_at}

-- what holds of the moment that a clock gave, where it gave one
abbrev pub AtMoment : Option (List ℕ) → Option (List ℕ) → (ℕ → Type 0) → Type 0
AtMoment before now P = (moment : ℕ) × GivesMoment before now moment × P moment

-- a number is one of these
abbrev pub IsAmong : ℕ → List ℕ → Type 0
IsAmong m [] = ⊥
IsAmong m (x ∷ xs) = (m ≡ x) ⊎ IsAmong m xs

-- a clock gave these moments, the oldest first, where it tells them: what it would give before, and
-- what it will give since
abbrev pub Gave : List ℕ → Option (List ℕ) → Option (List ℕ) → Type 0
Gave [] before now = now ≡ before
Gave (m ∷ ms) before now = (between : Option (List ℕ)) × GivesMoment before between m
    × Gave ms between now

-- each of these entries over a history, the newest first, was noted at one of these moments
abbrev pub AreNotedAt : List ℕ → History → History → Type 0
AreNotedAt ms [] h = Unit {0}
AreNotedAt ms (e ∷ es) h = ((m : ℕ) × IsAmong m ms × (e.moment ≡ noted_at m (es ++ h)))
    × AreNotedAt ms es h

-- where the journal is told, it has grown by entries that were noted at these moments alone
abbrev pub GrewAt : List ℕ → Option History → Option History → Type 0
GrewAt ms None new = new ≡ None
GrewAt ms (Some h) new = (es : History) × (new ≡ Some (es ++ h)) × AreNotedAt ms es h

-- what was noted between two states of a clock and of a journal was noted at moments that the clock
-- gave meanwhile
pub record IsTimely (before now : Option (List ℕ)) (old new : Option History) : Type 0 where
  pub moments : List ℕ
  pub gave : Gave moments before now
  pub grew : GrewAt moments old new
