-- In the statement: docs/STATEMENT.md lists which definitions.
-- How long a verdict is fresh (configuration reference, `external_acl_type`, options `ttl=`,
-- `negative_ttl=` and `grace=`).
use Rattle.std.specs.Prelude.{ℕ, ◌-◌, ◌*◌, ◌/◌, Bool, ◌&&◌, nat_le, nat_lt}
use Rattle.sq_base.specs.declared.helpers.What.{What}
use Rattle.sq_base.specs.declared.helpers.What.TheVariants as what
use Rattle.sq_rules.specs.Classes.{Class}
use Rattle.sq_machine.specs.declared.kept.CachedReply.{CachedReply}

-- the seconds for which an answer is fresh: an OK has `ttl=`, an ERR `negative_ttl=`, and a fault
-- none
abbrev pub ttl_of : Class → What → ℕ
ttl_of class (what.Yes pairs) = class.ttl
ttl_of class (what.No pairs) = class.negative_ttl
ttl_of class (what.Fault cause) = 0

-- the age of a verdict in milliseconds, which is 0 where the clock fell
abbrev pub age : CachedReply → ℕ → ℕ
age v now = now - v.date

-- a verdict is fresh as long as its age is below its time
abbrev pub is_fresh : Class → CachedReply → ℕ → Bool
is_fresh class v now = nat_lt (age v now) (ttl_of class v.what * 1000)

-- the age from which a refresh is due: what `grace=` leaves of the time, cut down to whole seconds,
-- in milliseconds
abbrev pub due_age : Class → What → ℕ
due_age class w = 1000 * (ttl_of class w * (100 - class.grace) / 100)

-- the refresh of a verdict is due: it is fresh still, there is a grace, and it has come to that age
abbrev pub is_due : Class → CachedReply → ℕ → Bool
is_due class v now = is_fresh class v now && nat_lt 0 class.grace
    && nat_le (due_age class v.what) (age v now)
