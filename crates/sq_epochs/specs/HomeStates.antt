-- Of which epoch and class each living process is, and for which processes a stop is due.
use Rattle.std.specs.Prelude.{◌≡◌, ℕ, suc, List, [], ◌∷◌, map, filter, Bool, false, not, ◌||◌, if◌then◌else◌, nat_lt, ◌==◌, Some, None, is_some, true}
use Rattle.std.specs.declared.option.Option.{Option}
use Rattle.sq_machine.specs.DueActs.{ClassId}
use Rattle.sq_machine.specs.Rising.{AreAbove, AreBelow, Rises, times_of}

-- a living process, and the epoch and the class of which it is
pub record Home : Type 0 where
  pub proc : ℕ
  pub place : ClassId

-- due stops by number, and for how many there is room
pub record StopsState : Type 0 where
  pub numbers : List ℕ
  pub room : ℕ

-- how many processes were numbered, those that live in live epochs, and those for which a stop is
-- due, both by number; and for how many processes more there is room
pub record HomesState : Type 0 where
  pub given : ℕ
  pub homes : List Home
  pub stops : List ℕ
  pub room : ℕ

abbrev pub home_number : Home → ℕ
home_number h = h.proc

-- of which epoch and class this process is
abbrev pub home_in : ℕ → List Home → Option ClassId
home_in k [] = None
home_in k (h ∷ homes) = if k == h.proc then Some h.place else home_in k homes

-- the homes without that of this process
abbrev pub without_home : ℕ → List Home → List Home
without_home k [] = []
without_home k (h ∷ homes) = if k == h.proc then without_home k homes else h ∷ without_home k homes

-- the home is of this epoch
abbrev pub is_of_epoch : ℕ → Home → Bool
is_of_epoch e h = e == h.place.epoch

-- the homes of other epochs
abbrev pub other_homes : ℕ → List Home → List Home
other_homes e homes = filter (λ h. not (is_of_epoch e h)) homes

-- the processes of an epoch, by number
abbrev pub procs_of : ℕ → List Home → List ℕ
procs_of e [] = []
procs_of e (h ∷ homes) = if is_of_epoch e h then h.proc ∷ procs_of e homes else procs_of e homes

-- the number is among these
abbrev pub is_among : ℕ → List ℕ → Bool
is_among k [] = false
is_among k (n ∷ ns) = k == n || is_among k ns

-- a number more at its place among numbers that rise
abbrev pub with_number : ℕ → List ℕ → List ℕ
with_number k [] = k ∷ []
with_number k (n ∷ ns) = if nat_lt n k then n ∷ with_number k ns else k ∷ n ∷ ns

-- these numbers more
abbrev pub with_numbers : List ℕ → List ℕ → List ℕ
with_numbers [] ns = ns
with_numbers (k ∷ ks) ns = with_numbers ks (with_number k ns)

-- processes rise, and so do due stops; none has the number 0, or one that was not given
pub record AreHomes (given : ℕ) (homes : List Home) (stops : List ℕ) : Type 0 where
  pub rise : Rises (map home_number homes)
  pub above : AreAbove 0 (map home_number homes)
  pub born : AreBelow (suc given) (map home_number homes)
  pub stops_rise : Rises stops
  pub stops_above : AreAbove 0 stops
  pub stops_born : AreBelow (suc given) stops
  pub apart : (k : ℕ) → is_some (home_in k homes) ≡ true → times_of k stops ≡ 0
