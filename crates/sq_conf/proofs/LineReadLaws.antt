-- What the other lines leave is whole where what stood before is.
use Rattle.std.proofs.Common.{◌≡◌, ℕ, ◌-◌, ◌<◌, ◌≤◌, List, [], ◌∷◌, ◌++◌, length, Bool, true, false, not, ◌&&◌, ◌||◌, ◌==◌, refl, sym, ap, ◌∙◌, arith, Option, Some, None, is_none, Ok, IfSome, nat_le, nat_lt, if◌then◌else◌}
use Rattle.std.proofs.lemmas.Bool.{and_parts}
use Rattle.std.proofs.lemmas.Bool.Decides.{nat_tests}
use Rattle.std.proofs.lemmas.Slice.Eq.{bytes_eq-Decides}
use Rattle.std.proofs.lemmas.Str.Ascii.{lowercase-lowercase}
use Rattle.std.specs.List.{list_all}
use Rattle.std.specs.Option.{option_map}
use Rattle.std.specs.Prelude.{IfOk, codes, slice_index_or}
use Rattle.std.specs.Str.{bytes_eq, str_to_ascii_lowercase}
use Rattle.sq_base.specs.Decimals.{port_limit, read_on}
use Rattle.sq_conf.proofs.AclReadLaws.{Keeps, known_so}
use Rattle.sq_conf.proofs.SoundLaws.{class_set, list_push, pairs_set}
use Rattle.sq_conf.proofs.StepLaws.{after, needed_so, some_so, then_so, unless_so, unless_then}
use Rattle.sq_conf.proofs.WholeLaws.{IsWhole, children_whole, class_whole, header_whole, initial_whole, notice_whole, pool_whole, pools_whole, port_whole, program_whole}
use Rattle.sq_conf.specs.Sound.{is_pool_draft}
use Rattle.sq_rules.specs.AclLines.{action, known_term}
use Rattle.sq_rules.specs.Building.{class_place}
use Rattle.sq_rules.specs.ClassLines.{ClassDraft, class_line, class_name, class_of, class_step, default_class, with_class, with_notice, with_notice_if}
use Rattle.sq_rules.specs.ConfNumbers.{digits_of, from_least, has_host, is_digits, number_between, port_text}
use Rattle.sq_rules.specs.Configurations.{are_known, is_known_rule, is_pool_class, is_rewriter_class, pairs_of, slow_ones, some_slow}
use Rattle.sq_rules.specs.Drafts.{Drafts, PoolDraft, is_fast, pool_at}
use Rattle.sq_rules.specs.HeaderLines.{header_line, header_name, is_field_name}
use Rattle.sq_rules.specs.Limits.{header_limit, initial_limit, name_limit, pool_limit}
use Rattle.sq_rules.specs.Lookups.{classes_within}
use Rattle.sq_rules.specs.PoolLines.{class_for_pairs, class_wanted, fast_term, first_port, initial_line, limit_pairs_of, mode_step, pair_step, place_in, pool_access_line, pool_class, pool_class_line, pool_number, pool_pairs_line, pool_place, pools_line, port_line, with_http_port, with_limits, with_pool_class, with_pool_rule}
use Rattle.sq_rules.specs.Rates.{Limit}
use Rattle.sq_rules.specs.RewriteLines.{children_line, children_words, program_line, program_words, rewriter_with}
use Rattle.sq_rules.specs.Steps.{WordList, is_empty, no_more, over, some_of, word}
use Rattle.sq_rules.specs.declared.configs.Acl.{Acl}
use Rattle.sq_rules.specs.declared.configs.Rule.{Rule}
use Rattle.sq_rules.specs.declared.configs.Term.{Term}
use Rattle.sq_rules.specs.declared.kinds.Kind.TheVariants.{BadNumber, BadValue, DuplicateClass, MissingWord, PoolOutOfRange, SlowInFastList, TooMany}

-- numbers
digits_so : (most : ℕ) (w : List ℕ) → IfSome (digits_of most w) (λ n. n ≤ most)
unfolding digits_of
digits_so most w = by (is_digits w) (nat_le (read_on 0 w) most) refl
  where
    by : (a b : Bool) → nat_le (read_on 0 w) most ≡ b
        → IfSome (if a && b then Some (read_on 0 w) else None) (λ n. n ≤ most)
    by true true few = grind (arith, nat_tests, few)
    by true false few = tt
    by false b few = tt

least_so : (least most : ℕ) (o : Option ℕ) → IfSome o (λ n. n ≤ most) → IfSome (from_least least o) (λ n. n ≤ most)
least_so least most None few = tt
least_so least most (Some n) few = by (nat_le least n)
  where
    by : (b : Bool) → IfSome (if b then Some n else None) (λ m. m ≤ most)
    by true = few
    by false = tt

number_so : (least most : ℕ) (w : List ℕ) → IfOk (number_between least most w) (λ n. n ≤ most)
unfolding number_between
number_so least most w = needed_so (λ n. n ≤ most) BadNumber (from_least least (digits_of most w))
    (least_so least most (digits_of most w) (digits_so most w))

no_more_so : {A : Type 0} (P : A → Type 0) (ws : WordList) (x : A) → P x → IfOk (no_more ws x) P
no_more_so P ws x p = unless_so P (is_empty ws) BadValue (Ok x) (λ none. p)

-- notices
notice_keeps : (b : Bool) (line : ℕ) (directive : List ℕ) (d : Drafts) → IsWhole d
    → IsWhole (with_notice_if b line directive d)
notice_keeps true line directive d whole =
    notice_whole d (d.notices ++ (record { line = line; directive = directive }) ∷ []) whole
notice_keeps false line directive d whole = whole

-- delay_pools
count_so : (w : List ℕ) → IfOk (pool_number w) (λ n. n ≤ pool_limit)
unfolding pool_number
count_so w =
    unless_so (λ n. n ≤ pool_limit) (is_digits w) BadNumber _
    (λ digits. needed_so (λ n. n ≤ pool_limit) TooMany (digits_of pool_limit w) (digits_so pool_limit w))

pub pools_keep : (d : Drafts) (ws : WordList) → IsWhole d → Keeps (pools_line d ws)
unfolding pools_line
pools_keep d ws whole =
    after IsWhole (word ws) _
    (λ first. then_so (λ n. n ≤ pool_limit) IsWhole (pool_number first.0) _ (count_so first.0)
    (λ count few. unless_so IsWhole (not d.counted) BadValue _
    (λ once. no_more_so IsWhole first.1 _ (pools_whole d count whole few))))

-- a pool
place_so : (count : ℕ) (o : Option ℕ) → IfOk (place_in count o) (λ p. p < count)
place_so count None = tt
place_so count (Some n) =
    unless_so (λ p. p < count) (nat_le 1 n && nat_le n count) PoolOutOfRange (Ok (n - 1))
    (λ within. grind (arith, nat_tests, within))

pool_so : (count : ℕ) (w : List ℕ) → IfOk (pool_place count w) (λ p. p < count)
unfolding pool_place
pool_so count w = unless_so (λ p. p < count) (is_digits w) BadNumber _
    (λ digits. place_so count (digits_of pool_limit w))

class_so : (w : List ℕ) → IfOk (pool_class w) (λ n. is_pool_class n ≡ true)
unfolding pool_class
class_so w =
    after (λ n. is_pool_class n ≡ true) (number_between 1 5 w) _
    (λ class. unless_so (λ n. is_pool_class n ≡ true) (is_pool_class class) BadNumber (Ok class) (λ one. one))

none_is : {A : Type 0} (o : Option A) → is_none o ≡ true → o ≡ None
none_is None e = refl
none_is (Some x) e = cc

class_unset : (acls : List Acl) (o : PoolDraft) (n : ℕ) (x : PoolDraft) → o ≡ x → is_none o.class ≡ true
    → is_pool_class n ≡ true → is_pool_draft acls x ≡ true → is_pool_draft acls (with_pool_class n x) ≡ true
class_unset acls o n x at none one good =
    class_set acls x n good (ap (λ (p : PoolDraft). p.class) (sym at) ∙ none_is o.class none) one

pub pool_class_keeps : (d : Drafts) (ws : WordList) → IsWhole d → Keeps (pool_class_line d ws)
unfolding pool_class_line
pool_class_keeps d ws whole =
    after IsWhole (word ws) _
    (λ first. then_so (λ p. p < length d.pools) IsWhole (pool_place (length d.pools) first.0) _
    (pool_so (length d.pools) first.0)
    (λ p within. unless_then IsWhole (is_none (pool_at d.pools p).class) BadValue (word first.1) _
    (λ none. after IsWhole (word first.1) _
    (λ second. then_so (λ n. is_pool_class n ≡ true) IsWhole (pool_class second.0) _ (class_so second.0)
    (λ class one. no_more_so IsWhole second.1 _
    (pool_whole d p (with_pool_class class) whole within
    (λ x at good. class_unset d.acls (pool_at d.pools p) class x at none one good)))))))

-- terms of acls that ask no helper
abbrev is_fast_term : List Acl → Term → Bool
is_fast_term acls t = nat_lt t.acl (length acls) && not (slice_index_or (slow_ones acls) t.acl false)

both : (a b : Bool) → a ≡ true → b ≡ true → (a && b) ≡ true
both a b e f = grind (arith, e, f)

fast_so : (acls : List Acl) (w : List ℕ) → IfOk (fast_term acls w) (λ t. is_fast_term acls t ≡ true)
unfolding fast_term
fast_so acls w =
    then_so (λ t. nat_lt t.acl (length acls) ≡ true) (λ t. is_fast_term acls t ≡ true) (known_term acls w) _
    (known_so acls w)
    (λ t known. unless_so (λ u. is_fast_term acls u ≡ true) (not (slice_index_or (slow_ones acls) t.acl false))
    SlowInFastList (Ok t) (λ fast. both (nat_lt t.acl (length acls)) _ known fast))

next_fast : (a b c s e : Bool) → ((a && not b) && e) ≡ true → (e ≡ true → (c && not s) ≡ true)
    → ((a && c) && not (b || s)) ≡ true
next_fast true false c s true is rest = rest refl
next_fast true false c s false is rest = cc
next_fast true true c s e is rest = cc
next_fast false b c s e is rest = cc

all_fast : (acls : List Acl) (ts : List Term) → list_all (is_fast_term acls) ts ≡ true
    → (are_known (length acls) ts && not (some_slow (slow_ones acls) ts)) ≡ true
all_fast acls [] all = refl
all_fast acls (t ∷ ts) all =
    next_fast (nat_lt t.acl (length acls)) (slice_index_or (slow_ones acls) t.acl false) (are_known (length acls) ts)
    (some_slow (slow_ones acls) ts) (list_all (is_fast_term acls) ts) all (all_fast acls ts)

terms_so : (acls : List Acl) (ws : WordList)
    → IfOk (some_of (fast_term acls) ws) (λ ts. list_all (is_fast_term acls) ts ≡ true)
terms_so acls ws = some_so (is_fast_term acls) (fast_term acls) (fast_so acls) ws

pub access_keeps : (d : Drafts) (ws : WordList) → IsWhole d → Keeps (pool_access_line d ws)
unfolding pool_access_line
access_keeps d ws whole =
    after IsWhole (word ws) _
    (λ first. then_so (λ p. p < length d.pools) IsWhole (pool_place (length d.pools) first.0) _
    (pool_so (length d.pools) first.0)
    (λ p within. after IsWhole (word first.1) _
    (λ second. after IsWhole (action second.0) _
    (λ allow. then_so (λ ts. list_all (is_fast_term d.acls) ts ≡ true) IsWhole (some_of (fast_term d.acls) second.1) _
    (terms_so d.acls second.1)
    (λ ts all.
    let r : Rule = record { allow = allow; terms = ts } in
    let fast = and_parts (is_known_rule (length d.acls) r) (is_fast (slow_ones d.acls) r) (all_fast d.acls ts all) in
    pool_whole d p (with_pool_rule r) whole within (λ x at good. list_push d.acls x r good fast.0 fast.1))))))

-- limits
pair_keeps : (count : ℕ) (ws : WordList) → IfOk (limit_pairs_of count ws) (λ pairs. length pairs ≡ count)
unfolding limit_pairs_of
pair_keeps count ws =
    after (λ pairs. length pairs ≡ count) (over (pair_step count) [] ws) _
    (λ pairs. unless_so (λ p. length p ≡ count) (length pairs == count) MissingWord (Ok pairs)
    (λ same. grind (arith, same)))

wanted_so : (class : Option ℕ) (pairs : Option (List (Option Limit)))
    → IfOk (class_wanted class pairs) (λ n. class ≡ Some n)
wanted_so None pairs = tt
wanted_so (Some class) (Some pairs) = tt
wanted_so (Some class) None = refl

limits_set : (acls : List Acl) (o : PoolDraft) (n : ℕ) (pairs : List (Option Limit)) (x : PoolDraft) → o ≡ x
    → o.class ≡ Some n → length pairs ≡ pairs_of n → is_pool_draft acls x ≡ true
    → is_pool_draft acls (with_limits pairs x) ≡ true
limits_set acls o n pairs x at class long good =
    pairs_set acls x pairs good
    (ap (λ (p : PoolDraft). option_map pairs_of p.class) (sym at) ∙ ap (option_map pairs_of) class
    ∙ ap Some (sym long))

pub pairs_keep : (d : Drafts) (ws : WordList) → IsWhole d → Keeps (pool_pairs_line d ws)
unfolding pool_pairs_line
pairs_keep d ws whole =
    after IsWhole (word ws) _
    (λ first. then_so (λ p. p < length d.pools) IsWhole (pool_place (length d.pools) first.0) _
    (pool_so (length d.pools) first.0)
    (λ p within. then_so (λ n. (pool_at d.pools p).class ≡ Some n) IsWhole (class_for_pairs (pool_at d.pools p)) _
    (wanted_so (pool_at d.pools p).class (pool_at d.pools p).pairs)
    (λ n class. then_so (λ pairs. length pairs ≡ pairs_of n) IsWhole (limit_pairs_of (pairs_of n) first.1) _
    (pair_keeps (pairs_of n) first.1)
    (λ pairs long. pool_whole d p (with_limits pairs) whole within
    (λ x at good. limits_set d.acls (pool_at d.pools p) n pairs x at class long good)))))

pub initial_keeps : (d : Drafts) (ws : WordList) → IsWhole d → Keeps (initial_line d ws)
unfolding initial_line
initial_keeps d ws whole =
    after IsWhole (word ws) _
    (λ first. then_so (λ n. n ≤ initial_limit) IsWhole (number_between 0 initial_limit first.0) _
    (number_so 0 initial_limit first.0)
    (λ level most. no_more_so IsWhole first.1 _ (initial_whole d level whole most)))

pub port_keeps : (line : ℕ) (d : Drafts) (ws : WordList) → IsWhole d → Keeps (port_line line d ws)
unfolding port_line
port_keeps line d ws whole =
    after IsWhole (word ws) _
    (λ first. after IsWhole (number_between 1 (port_limit - 1) (port_text first.0)) _
    (λ port. after IsWhole (over mode_step (has_host first.0) first.1) _
    (λ noted. notice_keeps noted line (codes "http_port") (with_http_port port d)
    (port_whole d (first_port d.port port) whole))))

-- classes
record IsClassName (d : Drafts) (name : List ℕ) : Type 0 where
  free : class_place d.classes name ≡ None
  room : nat_lt (length d.classes) (classes_within d.dst_lookup) ≡ true

name_so : (d : Drafts) (w : List ℕ) → IfOk (class_name d w) (IsClassName d)
name_so d w =
    unless_so (IsClassName d) (nat_le (length w) name_limit) BadValue _
    (λ short. unless_so (IsClassName d) (is_none (class_place d.classes w)) DuplicateClass _
    (λ none. unless_so (IsClassName d) (nat_lt (length d.classes) (classes_within d.dst_lookup)) TooMany (Ok w)
    (λ room. record { free = none_is (class_place d.classes w) none; room = room })))

named_as : (name : List ℕ) (s : ClassDraft) → (class_of name s).name ≡ name
unfolding class_of
named_as name s = refl

pub class_keeps : (line : ℕ) (d : Drafts) (ws : WordList) → IsWhole d → Keeps (class_line line d ws)
unfolding class_line
class_keeps line d ws whole =
    after IsWhole (word ws) _
    (λ first. then_so (IsClassName d) IsWhole (class_name d first.0) _ (name_so d first.0)
    (λ name is. after IsWhole (over class_step default_class first.1) _
    (λ s. unless_so IsWhole (not (is_empty s.words)) MissingWord _
    (λ some. notice_keeps s.noted line (codes "external_acl_type") (with_class (class_of name s) d)
    (class_whole d (class_of name s) whole is.room (ap (class_place d.classes) (named_as name s) ∙ is.free))))))

-- rules for fields
twice : (name : List ℕ) → str_to_ascii_lowercase (str_to_ascii_lowercase name) ≡ str_to_ascii_lowercase name
twice [] = refl
twice (c ∷ name) = rw (lowercase-lowercase c, twice name) refl

lower_again : (name : List ℕ)
    → bytes_eq (str_to_ascii_lowercase name) (str_to_ascii_lowercase (str_to_ascii_lowercase name)) ≡ true
lower_again name = (bytes_eq-Decides (str_to_ascii_lowercase name)
    (str_to_ascii_lowercase (str_to_ascii_lowercase name))).1 (sym (twice name))

lower_so : (w : List ℕ) → IfOk (header_name w) (λ n. bytes_eq n (str_to_ascii_lowercase n) ≡ true)
unfolding header_name
lower_so w =
    unless_so (λ n. bytes_eq n (str_to_ascii_lowercase n) ≡ true) (is_field_name w) BadValue
    (Ok (str_to_ascii_lowercase w)) (λ good. lower_again w)

pub header_keeps : (reply : Bool) (d : Drafts) (ws : WordList) → IsWhole d → Keeps (header_line reply d ws)
unfolding header_line
header_keeps reply d ws whole =
    after IsWhole (word ws) _
    (λ first. then_so (λ n. bytes_eq n (str_to_ascii_lowercase n) ≡ true) IsWhole (header_name first.0) _
    (lower_so first.0)
    (λ name lower. after IsWhole (word first.1) _
    (λ second. after IsWhole (action second.0) _
    (λ allow. unless_then IsWhole (nat_lt (length d.headers) header_limit) TooMany
    (some_of (fast_term d.acls) second.1) _
    (λ room. then_so (λ ts. list_all (is_fast_term d.acls) ts ≡ true) IsWhole (some_of (fast_term d.acls) second.1) _
    (terms_so d.acls second.1)
    (λ ts all. header_whole d (record { reply = reply; name = name; rule = record { allow = allow; terms = ts } })
    whole room (all_fast d.acls ts all) lower))))))

-- the program that rewrites
words_so : (ws : WordList) → IfOk (program_words ws) (λ words. nat_lt 0 (length words) ≡ true)
words_so [] = tt
words_so (w ∷ ws) = grind (arith, nat_tests)

pub program_keeps : (d : Drafts) (ws : WordList) → IsWhole d → Keeps (program_line d ws)
unfolding program_line
program_keeps d ws whole =
    unless_then IsWhole (is_none d.program) BadValue (program_words ws) _
    (λ once. then_so (λ words. nat_lt 0 (length words) ≡ true) IsWhole (program_words ws) _ (words_so ws)
    (λ words some. program_whole d words whole some))

rewriter_named : (s : ClassDraft) → is_rewriter_class (rewriter_with s) ≡ true
unfolding class_of
rewriter_named s = refl

pub children_keep : (d : Drafts) (ws : WordList) → IsWhole d → Keeps (children_line d ws)
unfolding children_line
children_keep d ws whole =
    unless_then IsWhole (is_none d.children) BadValue (children_words ws) _
    (λ once. after IsWhole (children_words ws) _
    (λ s. children_whole d (rewriter_with s) whole (rewriter_named s)))

-- what has no effect
pub noted_keeps : (line : ℕ) (directive : List ℕ) (d : Drafts) → IsWhole d → IsWhole (with_notice line directive d)
noted_keeps line directive d whole = notice_keeps true line directive d whole
