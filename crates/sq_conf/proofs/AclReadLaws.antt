-- What lines `acl` and `http_access` leave is whole where what stood before is.
use Rattle.std.proofs.Common.{◌≡◌, ℕ, ◌-◌, ◌<◌, List, [], length, Bool, true, false, not, ◌&&◌, ◌||◌, refl, sym, ap, subst, ◌∙◌, arith, Option, Some, None, is_some, is_none, Result, Ok, IfSome, nat_le, nat_lt, if◌then◌else◌}
use Rattle.std.proofs.lemmas.Bool.{and_parts}
use Rattle.std.proofs.lemmas.Bool.Decides.{nat_tests}
use Rattle.std.specs.List.{list_all}
use Rattle.std.specs.Prelude.{IfOk}
use Rattle.sq_base.specs.Bytes.{bang}
use Rattle.sq_base.specs.Results.{◌>>=◌}
use Rattle.sq_conf.proofs.GroupLaws.{takes_all, takes_any}
use Rattle.sq_conf.proofs.SoundLaws.{no_leaf}
use Rattle.sq_conf.proofs.StepLaws.{after, needed_so, over_so, over_some_so, some_so, then_so, unless_so, unless_then, weaker}
use Rattle.sq_conf.proofs.WholeLaws.{IsOpen, IsWhole, group_open, leaf_whole, line_open, member_open, more_whole, push_whole, rule_whole}
use Rattle.sq_rules.proofs.ListLaws.{all_push}
use Rattle.sq_rules.proofs.NameLaws.{place_within}
use Rattle.sq_rules.specs.AclLines.{acl_line, acl_named, acl_type, acl_values, action, all_of, any_of, are_free, dst_values, earlier_term, external_body, external_line, has_type, is_name, is_negated, known_class, known_term, known_terms, leaf_line, lookup_values, member, members, rule_line, term_from, term_name}
use Rattle.sq_rules.specs.AclValues.{Finding, find_step, find_values, is_unquoted, maxconn_values, method_value, plain_value, port_value, range_value, switched, time_values}
use Rattle.sq_rules.specs.Building.{class_place, place_of}
use Rattle.sq_rules.specs.Changes.{has_patterns}
use Rattle.sq_rules.specs.Configurations.{are_known, are_shallow, is_known_body, nesting_of, nestings}
use Rattle.sq_rules.specs.Drafts.{Drafts, are_fast, are_patterns, with_acl_more, with_body, with_line, with_member}
use Rattle.sq_rules.specs.Limits.{acl_limit, name_limit, rule_limit}
use Rattle.sq_rules.specs.Lookups.{has_blank, is_dst, stated_acls}
use Rattle.sq_rules.specs.Patterns.{is_pattern}
use Rattle.sq_rules.specs.Steps.{WordList, begins, is_empty, one_more, over, some_of, word}
use Rattle.sq_rules.specs.Tables.{allowed}
use Rattle.sq_rules.specs.declared.acl_types.AclType.{AclType}
use Rattle.sq_rules.specs.declared.acl_types.AclType.TheVariants as type
use Rattle.sq_rules.specs.declared.configs.Acl.{Acl}
use Rattle.sq_rules.specs.declared.configs.Body.{Body}
use Rattle.sq_rules.specs.declared.configs.Body.TheVariants as body
use Rattle.sq_rules.specs.declared.kinds.Kind.{Kind}
use Rattle.sq_rules.specs.declared.kinds.Kind.TheVariants.{BadPattern, BadValue, MissingWord, SlowInFastList, TooDeep, TooMany, TypeClash, UndefinedAcl, UndefinedClass}
use Rattle.sq_rules.specs.declared.leaves.Find.{Find}
use Rattle.sq_rules.specs.declared.leaves.Leaf.{Leaf}
use Rattle.sq_rules.specs.declared.leaves.Leaf.TheVariants as leaf

-- what a line leaves
abbrev pub Keeps : Result Drafts Kind → Type 0
Keeps r = IfOk r IsWhole

-- the acl that a line names: its place, or room for one more
record IsNamed (lookup : Bool) (acls : List Acl) (name : List ℕ) (place : Option ℕ) : Type 0 where
  place_is : place ≡ place_of acls name
  room : place ≡ None → nat_lt (stated_acls lookup acls) acl_limit ≡ true
  word : has_blank name ≡ false

not_true : (b : Bool) → not b ≡ true → b ≡ false
not_true b e = grind (arith, e)

or_second : (o : Option ℕ) (b : Bool) → (is_some o || b) ≡ true → o ≡ None → b ≡ true
or_second None b e none = e
or_second (Some i) b e none = cc

named_so : (lookup : Bool) (acls : List Acl) (w : List ℕ)
    → IfOk (acl_named lookup acls w) (IsNamed lookup acls w)
named_so lookup acls w =
    unless_so (IsNamed lookup acls w) (is_name w) BadValue _
    (λ good. unless_so (IsNamed lookup acls w)
    (is_some (place_of acls w) || nat_lt (stated_acls lookup acls) acl_limit) TooMany (Ok (place_of acls w))
    (λ room. record {
      place_is = refl;
      room = λ none. or_second (place_of acls w) (nat_lt (stated_acls lookup acls) acl_limit) room none;
      word = not_true (has_blank w)
          (and_parts (nat_le (length w) name_limit) (not (has_blank w)) (and_parts (not (begins bang w)) _ good).1).1;
    }))

-- an acl that stands
placed : (lookup : Bool) (acls : List Acl) (name : List ℕ) (p : ℕ) → IsNamed lookup acls name (Some p)
    → p < length acls
placed lookup acls name p at =
    subst (λ o. IfSome o (λ i. i < length acls)) (sym at.place_is)
    (place_within (λ (a : Acl). a.name) 0 (length acls) acls name (omega arith))

-- terms
term_so : (negated : Bool) (o : Option ℕ) (n : ℕ) → IfSome o (λ i. i < n)
    → IfOk (term_from negated o) (λ t. nat_lt t.acl n ≡ true)
term_so negated None n within = tt
term_so negated (Some i) n within = grind (arith, nat_tests, within)

pub known_so : (acls : List Acl) (w : List ℕ) → IfOk (known_term acls w) (λ t. nat_lt t.acl (length acls) ≡ true)
unfolding known_term
known_so acls w =
    term_so (is_negated w) (place_of acls (term_name w)) (length acls)
    (place_within (λ (a : Acl). a.name) 0 (length acls) acls (term_name w) (omega arith))

earlier_so : (p : ℕ) (acls : List Acl) (w : List ℕ) → IfOk (earlier_term p acls w) (λ t. t.acl < p)
earlier_so p acls w =
    after (λ t. t.acl < p) (known_term acls w) _
    (λ t. unless_so (λ u. u.acl < p) (nat_lt t.acl p) UndefinedAcl (Ok t)
    (λ less. grind (arith, nat_tests, less)))

-- members of a group
member_keeps : (p : ℕ) (d : Drafts) (w : List ℕ) → IsOpen p d → IfOk (member p d w) (IsOpen p)
unfolding member
member_keeps p d w is =
    unless_so (IsOpen p) (is_unquoted w) BadValue _
    (λ plain. then_so (λ t. t.acl < p) (IsOpen p) (earlier_term p d.acls w) _ (earlier_so p d.acls w)
    (λ t earlier.
    let e : Drafts = with_body p (with_member t) d in
    unless_so (IsOpen p) (are_fast e.acls e.pools e.headers) SlowInFastList _
    (λ fast. unless_so (IsOpen p) (are_shallow e.acls) TooDeep (Ok e)
    (λ shallow. member_open p d t is earlier fast shallow))))

members_keep : (p : ℕ) (d : Drafts) (ws : WordList) → IsOpen p d → Keeps (members p d ws)
members_keep p d ws is =
    weaker (IsOpen p) IsWhole (members p d ws)
    (over_some_so (IsOpen p) (member p) (λ s w now. member_keeps p s w now) d ws is) (λ e now. now.whole)

any_keeps : (name : List ℕ) (place : Option ℕ) (d : Drafts) (ws : WordList) → IsWhole d
    → IsNamed d.dst_lookup d.acls name place → has_type d.acls type.AnyOf place ≡ true
    → Keeps (any_of name place d ws)
unfolding any_of
any_keeps name None d ws whole at kind =
    members_keep (length d.acls) (with_acl_more name (body.AnyOf []) d) ws
    (group_open d name (body.AnyOf []) 1 whole (at.room refl) at.word (no_leaf d.dst_lookup) refl refl
    (sym at.place_is) refl)
any_keeps name (Some p) d ws whole at kind =
    members_keep p d ws (record {
      whole = whole;
      within = placed d.dst_lookup d.acls name p at;
      takes = takes_any d.dst_lookup d.acls name p at.place_is at.word kind;
    })

all_keeps : (name : List ℕ) (place : Option ℕ) (d : Drafts) (ws : WordList) → IsWhole d
    → IsNamed d.dst_lookup d.acls name place → has_type d.acls type.AllOf place ≡ true
    → Keeps (all_of name place d ws)
unfolding all_of
all_keeps name None d ws whole at kind =
    members_keep (length d.acls) (with_body (length d.acls) with_line (with_acl_more name (body.AllOf []) d)) ws
    (line_open (length d.acls) (with_acl_more name (body.AllOf []) d)
    (group_open d name (body.AllOf []) 1 whole (at.room refl) at.word (no_leaf d.dst_lookup) refl refl
    (sym at.place_is) refl))
all_keeps name (Some p) d ws whole at kind =
    members_keep p (with_body p with_line d) ws (line_open p d (record {
      whole = whole;
      within = placed d.dst_lookup d.acls name p at;
      takes = takes_all d.dst_lookup d.acls name p at.place_is at.word kind;
    }))

-- values: each pattern is one, and of type dst they are only where no names are looked up
record AreValues (lookup : Bool) (l : Leaf) : Type 0 where
  patterns : are_patterns l ≡ true
  plain : (lookup && is_dst (body.Leaf l)) ≡ false

leaf_keeps : (name : List ℕ) (place : Option ℕ) (d : Drafts) (values : Result Leaf Kind) → IsWhole d
    → IsNamed d.dst_lookup d.acls name place → IfOk values (AreValues d.dst_lookup)
    → Keeps (leaf_line name place d values)
leaf_keeps name None d values whole at good =
    then_so (AreValues d.dst_lookup) IsWhole values _ good
    (λ l are. push_whole d name (body.Leaf l) 0 whole (at.room refl) at.word are.plain refl are.patterns
    (sym at.place_is) refl)
leaf_keeps name (Some p) d values whole at good =
    then_so (AreValues d.dst_lookup) IsWhole values _ good
    (λ l are. leaf_whole d p l whole (placed d.dst_lookup d.acls name p at) are.patterns)

lookup_keeps : (name : List ℕ) (place : Option ℕ) (d : Drafts) (ws : WordList) → IsWhole d → d.dst_lookup ≡ true
    → IsNamed d.dst_lookup d.acls name place → Keeps (lookup_values name place d ws)
unfolding lookup_values
lookup_keeps name None d ws whole on at =
    unless_so IsWhole (are_free d.acls name) BadValue _
    (λ made. after IsWhole (some_of range_value ws) _
    (λ v. more_whole d name v whole on (at.room refl) at.word (sym at.place_is) made))
lookup_keeps name (Some p) d ws whole on at =
    let within : p < length d.acls = placed d.dst_lookup d.acls name p at in
    after IsWhole (some_of range_value ws) _
    (λ v. leaf_whole d (p - 3) (leaf.Dst v) whole (omega (arith, within)) refl)

dst_keeps : (name : List ℕ) (place : Option ℕ) (d : Drafts) (ws : WordList) → IsWhole d
    → IsNamed d.dst_lookup d.acls name place → Keeps (dst_values name place d ws)
dst_keeps name place d ws whole at = by d.dst_lookup refl
  where
    by : (b : Bool) → d.dst_lookup ≡ b
        → Keeps (if b then lookup_values name place d ws
        else leaf_line name place d (some_of range_value ws >>= λ v. Ok (leaf.Dst v)))
    by true on = lookup_keeps name place d ws whole on at
    by false off =
        leaf_keeps name place d (some_of range_value ws >>= λ v. Ok (leaf.Dst v)) whole at
        (after (AreValues d.dst_lookup) (some_of range_value ws) _
        (λ v. record { patterns = refl; plain = rw off refl }))

-- patterns
find_keeps : (s : Finding) (w : List ℕ) → list_all is_pattern s.finds ≡ true
    → IfOk (find_step s w) (λ e. list_all is_pattern e.finds ≡ true)
unfolding find_step
find_keeps s w all = by _
  where
    by : (o : Option Bool) → IfOk (switched o s w) (λ e. list_all is_pattern e.finds ≡ true)
    by (Some fold) = all
    by None =
        let f : Find = record { pattern = w; fold = s.fold } in
        unless_so (λ e. list_all is_pattern e.finds ≡ true) (is_pattern f) BadPattern _
        (λ good. all_push is_pattern s.finds f all good)

finds_so : (ws : WordList) → IfOk (find_values ws) (λ v. list_all is_pattern v ≡ true)
unfolding find_values
finds_so ws =
    then_so (λ e. list_all is_pattern e.finds ≡ true) (λ v. list_all is_pattern v ≡ true)
    (over find_step (record { fold = false; finds = [] }) ws) _
    (over_so (λ e. list_all is_pattern e.finds ≡ true) find_step find_keeps (record { fold = false; finds = [] }) ws
    refl)
    (λ e all. unless_so (λ v. list_all is_pattern v ≡ true) (not (is_empty e.finds)) MissingWord (Ok e.finds)
    (λ some. all))

-- an acl that asks a helper
record IsAsking (classes : ℕ) (b : Body) : Type 0 where
  known : (k : ℕ) → is_known_body classes k b ≡ true
  plain : is_dst b ≡ false
  patterns : has_patterns b ≡ true
  flat : (before : List ℕ) → nesting_of before b ≡ 0

class_so : (d : Drafts) (w : List ℕ) → IfOk (known_class d w) (λ p. p < length d.classes)
class_so d w =
    unless_so (λ p. p < length d.classes) (is_unquoted w) BadValue _
    (λ plain. needed_so (λ p. p < length d.classes) UndefinedClass (class_place d.classes w)
    (place_within (λ c. c.name) 0 (length d.classes) d.classes w (omega arith)))

asking_so : (d : Drafts) (ws : WordList) → IfOk (external_body d ws) (IsAsking (length d.classes))
unfolding external_body
asking_so d ws =
    after (IsAsking (length d.classes)) (word ws) _
    (λ class. then_so (λ p. p < length d.classes) (IsAsking (length d.classes)) (known_class d class.0) _
    (class_so d class.0)
    (λ p within. after (IsAsking (length d.classes)) (over (one_more plain_value) [] class.1) _
    (λ arguments. record {
      known = λ k. grind (arith, nat_tests, within);
      plain = refl;
      patterns = refl;
      flat = λ before. refl;
    })))

and_no : (a b : Bool) → b ≡ false → (a && b) ≡ false
and_no a b e = grind (arith, e)

none_is : (o : Option ℕ) → is_none o ≡ true → o ≡ None
none_is None e = refl
none_is (Some i) e = cc

external_keeps : (name : List ℕ) (place : Option ℕ) (d : Drafts) (ws : WordList) → IsWhole d
    → IsNamed d.dst_lookup d.acls name place → Keeps (external_line name place d ws)
unfolding external_line
external_keeps name place d ws whole at =
    unless_so IsWhole (is_none place) BadValue _
    (λ none. then_so (IsAsking (length d.classes)) IsWhole (external_body d ws) _ (asking_so d ws)
    (λ b is. push_whole d name b 0 whole (at.room (none_is place none)) at.word
    (and_no d.dst_lookup (is_dst b) is.plain) (is.known (length d.acls)) is.patterns
    (sym at.place_is ∙ none_is place none) (ap allowed (is.flat (nestings d.acls)))))

-- what a line of a type adds
simple : (lookup : Bool) (l : Leaf) → are_patterns l ≡ true → is_dst (body.Leaf l) ≡ false → AreValues lookup l
simple lookup l good other = record { patterns = good; plain = and_no lookup (is_dst (body.Leaf l)) other }

values_keep : (t : AclType) (name : List ℕ) (place : Option ℕ) (d : Drafts) (ws : WordList) → IsWhole d
    → IsNamed d.dst_lookup d.acls name place → has_type d.acls t place ≡ true → Keeps (acl_values t name place d ws)
unfolding acl_values
values_keep type.Src name place d ws whole at kind = leaf_keeps name place d _ whole at
    (after (AreValues d.dst_lookup) (some_of range_value ws) _ (λ v. simple d.dst_lookup (leaf.Src v) refl refl))
values_keep type.Dst name place d ws whole at kind = dst_keeps name place d ws whole at
values_keep type.DstDomain name place d ws whole at kind = leaf_keeps name place d _ whole at
    (after (AreValues d.dst_lookup) (some_of plain_value ws) _ (λ v. simple d.dst_lookup (leaf.DstDomain v) refl refl))
values_keep type.Port name place d ws whole at kind = leaf_keeps name place d _ whole at
    (after (AreValues d.dst_lookup) (some_of port_value ws) _ (λ v. simple d.dst_lookup (leaf.Port v) refl refl))
values_keep type.Method name place d ws whole at kind = leaf_keeps name place d _ whole at
    (after (AreValues d.dst_lookup) (some_of method_value ws) _ (λ v. simple d.dst_lookup (leaf.Method v) refl refl))
values_keep type.Proto name place d ws whole at kind = leaf_keeps name place d _ whole at
    (after (AreValues d.dst_lookup) (some_of plain_value ws) _ (λ v. simple d.dst_lookup (leaf.Proto v) refl refl))
values_keep type.Time name place d ws whole at kind = leaf_keeps name place d _ whole at
    (after (AreValues d.dst_lookup) (time_values ws) _ (λ v. simple d.dst_lookup (leaf.Time v) refl refl))
values_keep type.UrlRegex name place d ws whole at kind = leaf_keeps name place d _ whole at
    (then_so (λ v. list_all is_pattern v ≡ true) (AreValues d.dst_lookup) (find_values ws) _ (finds_so ws)
    (λ v all. simple d.dst_lookup (leaf.UrlRegex v) all refl))
values_keep type.MaxConn name place d ws whole at kind = leaf_keeps name place d _ whole at
    (after (AreValues d.dst_lookup) (maxconn_values ws) _ (λ v. simple d.dst_lookup (leaf.MaxConn v) refl refl))
values_keep type.External name place d ws whole at kind = external_keeps name place d ws whole at
values_keep type.AnyOf name place d ws whole at kind = any_keeps name place d ws whole at kind
values_keep type.AllOf name place d ws whole at kind = all_keeps name place d ws whole at kind

pub acl_keeps : (d : Drafts) (ws : WordList) → IsWhole d → Keeps (acl_line d ws)
unfolding acl_line
acl_keeps d ws whole =
    after IsWhole (word ws) _
    (λ name. then_so (IsNamed d.dst_lookup d.acls name.0) IsWhole (acl_named d.dst_lookup d.acls name.0) _
    (named_so d.dst_lookup d.acls name.0)
    (λ place at. after IsWhole (word name.1) _
    (λ kind. after IsWhole (acl_type kind.0) _
    (λ t. unless_so IsWhole (has_type d.acls t place) TypeClash (acl_values t name.0 place d kind.1)
    (λ same. values_keep t name.0 place d kind.1 whole at same)))))

pub rule_keeps : (d : Drafts) (ws : WordList) → IsWhole d → Keeps (rule_line d ws)
unfolding rule_line
rule_keeps d ws whole =
    after IsWhole (word ws) _
    (λ first. after IsWhole (action first.0) _
    (λ allow. unless_then IsWhole (nat_lt (length d.rules) rule_limit) TooMany (known_terms d.acls first.1) _
    (λ room. then_so (λ ts. are_known (length d.acls) ts ≡ true) IsWhole (known_terms d.acls first.1) _
    (some_so (λ t. nat_lt t.acl (length d.acls)) (known_term d.acls) (known_so d.acls) first.1)
    (λ ts known. rule_whole d (record { allow = allow; terms = ts }) whole room known))))
