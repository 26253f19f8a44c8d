-- What the reader of patterns answers, in terms of the grammar.
use Rattle.std.proofs.Common.{◌≡◌, ◌≢◌, ℕ, ◌<◌, ◌≤◌, List, length, get_or, Option, None, Some, IsSomeAnd, IfSome, is_some, ⊎_elim, ap, false, true, Bool, refl, arith, ◌&&◌, IsUtf8, All}
use Rattle.std.proofs.lemmas.Bool.{and_from}
use Rattle.std.proofs.lemmas.Bool.{cases_Bool, cases_lt}
use Rattle.std.proofs.lemmas.Bool.Decides.{nat_tests}
use Rattle.std.proofs.lemmas.List.Elements.{All-get_or}
use Rattle.std.proofs.lemmas.List.{get_or_past}
use Rattle.std.proofs.lemmas.Str.{IsUtf8-from_is_utf8}
use Rattle.std.specs.Str.{chars, is_utf8}
use Rattle.regex.proofs.ForCallers.{is_match_alike}
use Rattle.regex.specs.Patterns.{Re, find, Config, Reads, Refuses, SameCaptures}
use Rattle.regex_hir.specs.Meaning.{meaning}
use Rattle.regex_hir.specs.declared.hir.Hir.{Hir}
use Rattle.regex_syntax.specs.Brackets.{Nested}
use Rattle.regex_syntax.specs.Grammar.{Names, read, group_count}
use Rattle.regex_syntax.specs.declared.error.ErrorKind.{ErrorKind}
use Rattle.regex_syntax.specs.declared.error.ErrorKind.TheVariants.{OutOfMemory}
use Rattle.sq_rules.specs.Patterns.{is_found, is_found_by, is_pattern, options, reading, reads_well}
use Rattle.sq_rules.specs.declared.leaves.Find.{Find}
use Rattle.sq_urlmatch.specs.Found.{IsFoundAlike}

same_find : (o : Option (Nested Re × Names)) (most : ℕ) (a : Re) (names : Names) (hay : List ℕ)
    → ((k : ℕ) → get_or hay k 0 < 256) →
    IsSomeAnd o (λ (re, found). (re.depth ≤ most) × SameCaptures a re.value × (names ≡ found)
    × (group_count a ≤ length names)) →
    is_some (find a hay 0) ≡ is_found_by o hay
same_find None most a names hay bytes p = absurd p
same_find (Some r) most a names hay bytes p = is_match_alike p.1 hay bytes false 0

-- a tree that was read is found where the reading is
found_as_read : (config : Config) (source : List ℕ) (hir : Hir) (names : Names) (hay : List ℕ)
    → ((k : ℕ) → get_or hay k 0 < 256) →
    Reads config source hir names → is_some (find (meaning hir) hay 0) ≡ is_found_by (read config (chars source)) hay
unfolding Reads
found_as_read config source hir names hay bytes reads = same_find (read config (chars source)) config.nest_limit
    (meaning hir) names hay bytes reads

byte_at : (text : List ℕ) → All (λ b. b < 256) text → (k : ℕ) → get_or text k 0 < 256
byte_at text bytes k =
    ⊎_elim (λ within. All-get_or (λ b. b < 256) text k 0 within bytes)
    (λ past. rw (get_or_past text k 0 past) (omega arith)) (cases_lt k (length text))

pub alike_of_Reads : (f : Find) (hir : Hir) (names : Names) → Reads (options f.fold) f.pattern hir names
    → IsFoundAlike f hir
unfolding is_found reading
alike_of_Reads f hir names reads text bytes = found_as_read (options f.fold) f.pattern hir names text
    (byte_at text bytes) reads

well : (o : Option (Nested Re × Names)) (a : Re) (names : Names) →
    IsSomeAnd o (λ (re, found). (re.depth ≤ 250) × SameCaptures a re.value × (names ≡ found)
    × (group_count a ≤ length names)) → reads_well o ≡ true
well None a names p = absurd p
well (Some r) a names p = grind (arith, nat_tests, p.0)

well_of_Reads : (fold : Bool) (source : List ℕ) (hir : Hir) (names : Names) → Reads (options fold) source hir names
    → reads_well (read (options fold) (chars source)) ≡ true
unfolding Reads
well_of_Reads fold source hir names reads = well (read (options fold) (chars source)) (meaning hir) names reads

-- a text that was read is a pattern
pub good_of_Reads : (f : Find) (hir : Hir) (names : Names) → is_utf8 f.pattern ≡ true
    → Reads (options f.fold) f.pattern hir names → is_pattern f ≡ true
unfolding is_pattern reading
good_of_Reads f hir names utf8 reads = and_from (is_utf8 f.pattern) (reads_well (reading f)) utf8
    (well_of_Reads f.fold f.pattern hir names reads)

ill : (o : Option (Nested Re × Names)) → IfSome o (λ r. 250 < r.0.depth) → reads_well o ≡ false
ill None p = refl
ill (Some r) p = grind (arith, nat_tests, p)

ill_of_Refuses : (fold : Bool) (source : List ℕ) (kind : ErrorKind) → kind ≢ OutOfMemory
    → Refuses (options fold) source kind →
    reads_well (read (options fold) (chars source)) ≡ false
unfolding Refuses
ill_of_Refuses fold source kind other refused =
    ⊎_elim (λ memory. absurd (other memory))
    (⊎_elim (λ none. ap reads_well none) (λ deep. ill (read (options fold) (chars source)) deep.1)) refused

and_false : (a b : Bool) → b ≡ false → (a && b) ≡ false
and_false true b e = e
and_false false b e = refl

-- a text that was refused, and not for memory, is no pattern
pub bad_of_Refuses : (f : Find) (kind : ErrorKind) → kind ≢ OutOfMemory → Refuses (options f.fold) f.pattern kind
    → is_pattern f ≡ false
unfolding is_pattern reading
bad_of_Refuses f kind other refused = and_false (is_utf8 f.pattern) (reads_well (reading f))
    (ill_of_Refuses f.fold f.pattern kind other refused)

-- bytes that are no text are no pattern
pub bad_of_bytes : (f : Find) → ¬ (IsUtf8 f.pattern) → is_pattern f ≡ false
unfolding is_pattern
bad_of_bytes f wrong =
    ⊎_elim (λ yes. absurd (wrong (IsUtf8-from_is_utf8 f.pattern yes))) (λ e. ap (λ a. a && reads_well (reading f)) e)
    (cases_Bool (is_utf8 f.pattern))
