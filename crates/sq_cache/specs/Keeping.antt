-- What is kept of a class, and what is taken of it.
use Rattle.std.specs.Prelude.{ℕ, List, [], None, Some}
use Rattle.std.specs.Option.{option_map}
use Rattle.std.specs.declared.option.Option.{Option}
use Rattle.lru.specs.LruCache.{LruCache}
use Rattle.sq_rules.specs.Classes.{Class}
use Rattle.sq_machine.specs.Freshness.{is_due}
use Rattle.sq_machine.specs.KeptLists.{CachedReplies, fresh_for}
use Rattle.sq_machine.specs.declared.kept.CachedReply.{CachedReply}
use Rattle.sq_cache.specs.declared.kept.Taken.{Taken}

-- the verdicts, the newest use first, and how many there may be
pub record Keeping : Type 0 where
  pub verdicts : CachedReplies
  pub limit : ℕ

-- what a table keeps; without one nothing is kept
abbrev pub keeping_of : Option (LruCache (List ℕ) CachedReply) → Keeping
keeping_of None = record { verdicts = []; limit = 0 }
keeping_of (Some c) = record { verdicts = c.entries; limit = c.cap }

-- a verdict as it is taken at a moment
abbrev pub taken_as : Class → ℕ → CachedReply → Taken
taken_as class now v = record {
  what = v.what;
  date = v.date;
  question = v.question;
  refresh = is_due class v now;
}

-- what is taken for a key: its verdict, where it is kept and fresh
abbrev pub taken_for : Class → List ℕ → ℕ → CachedReplies → Option Taken
taken_for class key now kept = option_map (taken_as class now) (fresh_for class key now kept)
