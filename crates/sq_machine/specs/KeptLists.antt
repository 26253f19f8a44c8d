-- In the statement: docs/STATEMENT.md lists which definitions.
-- The cached replies of a class, and what moves them (configuration reference, `external_acl_type`,
-- option `cache=`).
use Rattle.std.specs.Prelude.{ℕ, List, ◌∷◌, take, Bool, true, false, ◌&&◌, if◌then◌else◌, nat_lt, nat_eq, is_some, None, Some}
use Rattle.std.specs.Option.{option_map_or}
use Rattle.std.specs.declared.option.Option.{Option}
use Rattle.std.specs.Map.{lookup, lookup_entry, remove_entry}
use Rattle.std.specs.Cmp.Lexicographic.{pointwise}
use Rattle.sq_base.specs.declared.helpers.What.{What}
use Rattle.sq_base.specs.declared.helpers.What.TheVariants as what
use Rattle.sq_rules.specs.Classes.{Class}
use Rattle.sq_machine.specs.Freshness.{ttl_of, is_fresh}
use Rattle.sq_machine.specs.declared.kept.CachedReply.{CachedReply}

-- verdicts with their keys, the newest use first
abbrev pub CachedReplies : Type 0
CachedReplies = List (List ℕ × CachedReply)

-- whether these are one key
abbrev pub same_key : List ℕ → List ℕ → Bool
same_key key other = pointwise nat_eq key other

-- the cached reply under a key
abbrev pub verdict_of : List ℕ → CachedReplies → Option CachedReply
verdict_of key kept = lookup (same_key key) kept

-- the list without a key
abbrev pub kept_without : List ℕ → CachedReplies → CachedReplies
kept_without key kept = remove_entry (same_key key) kept

-- a verdict where it is fresh
abbrev pub if_fresh : Class → ℕ → Option CachedReply → Option CachedReply
if_fresh class now None = None
if_fresh class now (Some v) = if is_fresh class v now then Some v else None

-- the verdict of a key, where it is kept and fresh
abbrev pub fresh_for : Class → List ℕ → ℕ → CachedReplies → Option CachedReply
fresh_for class key now kept = if_fresh class now (verdict_of key kept)

-- a key that is kept goes to the front
abbrev pub to_front : List ℕ → CachedReplies → CachedReplies
to_front key kept = option_map_or (λ e. e ∷ kept_without key kept)
    (lookup_entry (same_key key) kept) kept

-- what a use at a moment leaves: the key goes to the front where its verdict is fresh
abbrev pub used : Class → List ℕ → ℕ → CachedReplies → CachedReplies
used class key now kept = if is_some (fresh_for class key now kept) then to_front key kept else kept

-- what a new verdict leaves: its key is taken out, and where its time and the limit are above 0 it
-- stands in front, and the end is cut
abbrev pub keep : ℕ → Class → List ℕ → CachedReply → CachedReplies → CachedReplies
keep limit class key v kept =
    if nat_lt 0 (ttl_of class v.what)
    && nat_lt 0 limit then take limit ((key, v) ∷ kept_without key kept) else kept_without key kept

-- an answer is a fault
abbrev pub is_fault : What → Bool
is_fault (what.Fault cause) = true
is_fault w = false
