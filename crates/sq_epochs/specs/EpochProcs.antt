-- Which processes live in which class, and what a start, a failed start and an end make of the live
-- epochs.
use Rattle.std.specs.Prelude.{◌≡◌, ℕ, suc, [], ◌∷◌, ◌++◌, Bool, false, not, ◌&&◌, if◌then◌else◌, ◌==◌, slice_get, Some, None}
use Rattle.std.specs.Option.{option_map_or}
use Rattle.std.specs.declared.option.Option.{Option}
use Rattle.sq_base.specs.declared.helpers.Cause.{Cause}
use Rattle.sq_machine.specs.Channels.{is_open}
use Rattle.sq_machine.specs.DueActs.{ClassId}
use Rattle.sq_machine.specs.Farms.{ended}
use Rattle.sq_machine.specs.Living.{lives, slots_in}
use Rattle.sq_model.specs.ClassRows.{after_death, after_started}
use Rattle.sq_class.specs.Losing.{handed_out, lost_cause}
use Rattle.sq_class.specs.Parts.{PartState}
use Rattle.sq_epochs.specs.EpochStates.{EpochState, EpochsState, IsChanged, home_at, part_at}
use Rattle.sq_epochs.specs.HomeStates.{AreHomes, with_number, without_home}
use Rattle.sq_epochs.specs.LiveEpochs.{AreEpochs}

-- process k lives in this part
abbrev pub lives_in : ℕ → Option PartState → Bool
lives_in k p = option_map_or (λ x. lives k x.row.stock.procs) p false

-- the place is that of class c of epoch e
abbrev pub is_place : ℕ → ℕ → Option ClassId → Bool
is_place e c p = option_map_or (λ x. x.epoch == e && x.class == c) p false

-- the same processes live in each class
abbrev pub SameLiving : EpochState → EpochState → Type 0
SameLiving old new = (c k : ℕ)
    → lives_in k (slice_get new.parts c) ≡ lives_in k (slice_get old.parts c)

-- a process lives in a class exactly where its home says so
abbrev pub AreHomed : EpochsState → Type 0
AreHomed v = (e c k : ℕ) → lives_in k (part_at v e c) ≡ is_place e c (home_at v k)

-- what holds of all that is kept by epoch: of the live epochs, of homes and due stops, and that
-- homes and processes agree
pub record AreWhole (v : EpochsState) : Type 0 where
  pub live : AreEpochs v
  pub homes : AreHomes v.procs v.homes v.stops
  pub homed : AreHomed v

-- a start of the part is open
abbrev pub is_starting : Option PartState → Bool
is_starting p = option_map_or (λ x. not (x.row.stock.starting == 0)) p false

-- a start of the class at this place of this epoch is open
abbrev pub has_start : EpochsState → ℕ → ℕ → Bool
has_start v e c = is_starting (part_at v e c)

-- process k was started for an open start
abbrev pub HasStarted : ℕ → PartState → PartState → Type 0
HasStarted k old new = new ≡ record old { row = after_started k old.row }

-- the next process was started for an open start of the class at this place of this epoch
pub record IsStarted (e c : ℕ) (old new : EpochsState) : Type 0 where
  pub changed : IsChanged e c (HasStarted (suc old.procs)) old
      (record new { procs = old.procs; homes = old.homes })
  pub procs_are : new.procs ≡ suc old.procs
  pub homes_are : new.homes ≡ old.homes
      ++ record { proc = suc old.procs; place = record { epoch = e; class = c } } ∷ []

-- process k ended by this cause, and its open questions are lost; once they were handed out, the
-- row is that of a death
pub record HasEnded (cause : Cause) (k : ℕ) (old new : PartState) : Type 0 where
  pub value : new ≡ record old { row = record old.row { stock = ended cause k old.row.stock } }
  pub after : old.row.stock.losses ≡ [] → handed_out new.row ≡ after_death cause k old.row
  pub lost : old.row.stock.losses ≡ [] → (q : ℕ)
      → lost_cause q new.row.stock.losses
      ≡ (if is_open q (slots_in k old.row.stock.procs) then Some cause else None)

-- process k, which lives in the class at a place, ended by this cause; its stop is due, or not
pub record IsEnded (cause : Cause) (k : ℕ) (due : Bool) (old new : EpochsState) : Type 0 where
  pub place : ClassId
  pub home_is : home_at old k ≡ Some place
  pub changed : IsChanged place.epoch place.class (HasEnded cause k) old
      (record new { homes = old.homes; stops = old.stops })
  pub homes_are : new.homes ≡ without_home k old.homes
  pub stops_are : new.stops ≡ (if due then with_number k old.stops else old.stops)
