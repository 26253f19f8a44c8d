-- Grants of bytes, and what is written of them.
use Rattle.std.specs.Prelude.{◌≡◌, ℕ, ◌+◌, ◌≤◌, Bool, true, false, ◌&&◌, ◌==◌, nat_lt, if◌then◌else◌, min, List, length}
use Rattle.std.specs.declared.option.Option.{Option}
use Rattle.std.specs.Io.KnownBytes.{Appends}
use Rattle.sq_outside.specs.Causes.{count_limit}
use Rattle.sq_outside.specs.Output.{IsPrefix}

-- at most so many bytes are wanted at a time
abbrev pub piece_limit : ℕ
piece_limit = 16384

-- so many pauses since a grant gave some, each behind a grant that found a bucket empty, end it
abbrev pub dry_limit : ℕ
dry_limit = 3600

-- a grant wanted some and gave none, which it does only where a bucket is empty
abbrev pub is_short : ℕ → ℕ → Bool
is_short wanted given = nat_lt 0 wanted && given == 0

-- without a seat all that is wanted is given
abbrev pub Gives : Bool → ℕ → ℕ → Type 0
Gives true wanted given = given ≤ wanted
Gives false wanted given = given ≡ wanted

-- the count of granted bytes after n more: without a seat they are not counted
abbrev pub granted_after : Bool → ℕ → ℕ → ℕ
granted_after seated before n = if seated then min (before + n) count_limit else before

-- the count of pauses after a grant
abbrev pub dry_after_grant : ℕ → ℕ → ℕ
dry_after_grant given dry = if given == 0 then dry else 0

-- and after a pause: it stays at the limit of counts
abbrev pub dry_after_pause : Bool → ℕ → ℕ
dry_after_pause short dry = if short then min (dry + 1) count_limit else dry

-- a sink and the meter of what goes into it: whether that holds a seat, what the sink held before
-- and now, where it tells that, and how many bytes had been granted before and are now
pub record Metered : Type 0 where
  pub seated : Bool
  pub before : Option (List ℕ)
  pub now : Option (List ℕ)
  pub granted_before : ℕ
  pub granted_now : ℕ

abbrev pub metered : Bool → Option (List ℕ) → Option (List ℕ) → ℕ → ℕ → Metered
metered seated before now granted_before granted_now = record {
  seated = seated;
  before = before;
  now = now;
  granted_before = granted_before;
  granted_now = granted_now;
}

-- the text was written, and as many bytes were granted
pub record PaysAll (text : List ℕ) (to : Metered) : Type 0 where
  pub wrote : Appends to.before to.now text
  pub granted : to.granted_now ≡ granted_after to.seated to.granted_before (length text)

-- a front of the text was written, and as many bytes were granted, or up to `spare` more
pub record PaysPart (text : List ℕ) (to : Metered) (spare : ℕ) : Type 0 where
  pub part : List ℕ
  pub more : ℕ
  pub front : IsPrefix part text
  pub wrote : Appends to.before to.now part
  pub granted : to.granted_now ≡ granted_after to.seated to.granted_before (length part + more)
  pub close : more ≤ spare
