-- What a match of an acl of type dst rests on.
use Rattle.std.proofs.Common.{◌≡◌, ℕ, ◌+◌, ◌-◌, ◌<◌, ◌≤◌, ◌^◌, ◌⊎◌, suc, zero, List, [], ◌∷◌, length, Bool, true, false, not, ◌&&◌, ◌||◌, ◌==◌, Some, None, IfSome, map, refl, sym, ap, subst, ◌∙◌, inl, inr, ⊎_elim, arith, slice_get, codes, bytes_eq, nat_le, nat_lt}
use Rattle.std.proofs.lemmas.Bool.{and_from, and_parts}
use Rattle.std.proofs.lemmas.Bool.Decides.{nat_tests}
use Rattle.std.proofs.lemmas.Slice.Eq.{bytes_eq-Decides}
use Rattle.std.specs.declared.option.Option.{Option}
use Rattle.sq_base.specs.Addresses.{Address, IsAddress, is_at_most, v4, v6}
use Rattle.sq_base.specs.Ranges.{in_range}
use Rattle.sq_base.specs.declared.addresses.Range.{Range}
use Rattle.sq_base.specs.declared.helpers.Answer.{Answer}
use Rattle.sq_base.specs.declared.helpers.Pair.{Pair}
use Rattle.sq_base.specs.declared.helpers.What.{What}
use Rattle.sq_base.specs.declared.helpers.What.TheVariants as what
use Rattle.sq_dst.specs.LookupHits.{AreDstHits, HasValues, IsAnsweredOk, IsDstAt}
use Rattle.sq_dst.specs.LookupKeys.{lookup_text}
use Rattle.sq_rules.proofs.ValueLaws.{term_over_members}
use Rattle.sq_rules.specs.Classes.{Class}
use Rattle.sq_rules.specs.Configurations.{Configuration, IsConfiguration, are_known_bodies}
use Rattle.sq_rules.specs.Keys.{acl_key, body_key, format_text, key_text}
use Rattle.sq_rules.specs.Leaves.{in_ranges}
use Rattle.sq_rules.specs.Lookups.{are_behind, are_either, are_in_four, are_looked_up, are_named, begins_literal, begins_lookup, begins_with_all, has_no_words, holds_all, is_all, is_asking, is_dst, is_either_body, is_lookup_format, is_named_body, is_no_literal, is_plain, literal_name, lookup_name, name_at, named_name, no_literal, plain_term}
use Rattle.sq_rules.specs.Values.{acl_value, answer_for, answer_value, body_value, both, either, member_value, negated, taken_at, taken_of_acl, taken_of_body, term_value, value_if}
use Rattle.sq_rules.specs.declared.classes.Token.{Token}
use Rattle.sq_rules.specs.declared.classes.Token.TheVariants as token
use Rattle.sq_rules.specs.declared.configs.Acl.{Acl}
use Rattle.sq_rules.specs.declared.configs.Body.{Body}
use Rattle.sq_rules.specs.declared.configs.Body.TheVariants as body
use Rattle.sq_rules.specs.declared.configs.Term.{Term}
use Rattle.sq_rules.specs.declared.leaves.Leaf.{Leaf}
use Rattle.sq_rules.specs.declared.leaves.Leaf.TheVariants as leaf
use Rattle.sq_rules.specs.declared.sights.Sight.{Sight}
use Rattle.sq_rules.specs.declared.values.TermValue.{TermValue}
use Rattle.sq_rules.specs.declared.values.TermValue.TheVariants.{Hit, Miss, Fault, Need}

same_of : (xs ys : List ℕ) → bytes_eq xs ys ≡ true → xs ≡ ys
same_of xs ys e = (bytes_eq-Decides xs ys).0 e

-- values

hit_if : (b : Bool) → value_if b ≡ Hit → b ≡ true
hit_if true e = refl
hit_if false e = cc

hit_alone : (v : TermValue) → either (v ∷ []) ≡ Hit → v ≡ Hit
hit_alone Hit e = refl
hit_alone Miss e = cc
hit_alone (Fault acl cause) e = cc
hit_alone (Need acl key) e = cc

hit_last : (v : TermValue) → both (v ∷ []) ≡ Hit → v ≡ Hit
hit_last Hit e = refl
hit_last Miss e = cc
hit_last (Fault acl cause) e = cc
hit_last (Need acl key) e = cc

hit_second : (b : Bool) (v : TermValue) → either (value_if b ∷ v ∷ []) ≡ Hit → (b ≡ true) ⊎ (v ≡ Hit)
hit_second true v e = inl refl
hit_second false v e = inr (hit_alone v e)

hit_both : (b : Bool) (v : TermValue) → both (negated (value_if b) ∷ v ∷ []) ≡ Hit → (b ≡ false) × (v ≡ Hit)
hit_both true v e = cc
hit_both false v e = (refl, hit_last v e)

answered : (place : ℕ) (key : List ℕ) (o : Option What) → answer_value place key o ≡ Hit
    → (pairs : List Pair) × (o ≡ Some (what.Yes pairs))
answered place key None e = cc
answered place key (Some (what.Yes pairs)) e = (pairs, refl)
answered place key (Some (what.No pairs)) e = cc
answered place key (Some (what.Fault cause)) e = cc

-- an acl of values
leaf_value : (c : Configuration) (s : Sight) (answers : List Answer) (place : ℕ) (name : List ℕ) (values : List Range)
    → HasValues c.acls place name values
    → term_value (taken_at c s answers) c.acls (plain_term place) ≡ value_if (in_ranges values s.request.literal)
leaf_value c s answers place name values is =
    ap (acl_value (taken_at c s answers) (member_value (taken_at c s answers) c.acls place) place) is
    ∙ ap (taken_of_acl c s answers place) is

-- a list that begins with every address

abbrev address_at : Bool → ℕ → Address
address_at v n = record { v6 = v; number = n }

low : (v : Bool) (n : ℕ) → is_at_most (v4 0) (address_at v n) ≡ true
low true n = refl
low false n = grind (arith, nat_tests)

high : (v : Bool) (n : ℕ) → nat_lt n (2 ^ 128) ≡ true → is_at_most (address_at v n) (v6 (2 ^ 128 - 1)) ≡ true
high true n h = grind (arith, nat_tests, h)
high false n h = refl

all_holds : (r : Range) (a : Address) → is_all r ≡ true → IsAddress a → in_range r a ≡ true
all_holds r a all fits =
    let f : r.first.v6 ≡ false = grind (arith, nat_tests, all) in
    let z : r.first.number ≡ 0 = grind (arith, nat_tests, all) in
    let l : r.last.v6 ≡ true = grind (arith, nat_tests, all) in
    let m : r.last.number ≡ 2 ^ 128 - 1 = grind (arith, nat_tests, all) in
    let first : r.first ≡ v4 0 = ap (λ b. address_at b r.first.number) f ∙ ap (address_at false) z in
    let last : r.last ≡ v6 (2 ^ 128 - 1) = ap (λ b. address_at b r.last.number) l ∙ ap (address_at true) m in
    and_from _ _ (subst (λ x. is_at_most x a ≡ true) (sym first) (low a.v6 a.number))
    (subst (λ x. is_at_most a x ≡ true) (sym last) (high a.v6 a.number fits.1))

none_of_all : (r : Range) (rs : List Range) (o : Option Address) → is_all r ≡ true → IfSome o IsAddress
    → in_ranges (r ∷ rs) o ≡ false → o ≡ None
none_of_all r rs None all fits e = refl
none_of_all r rs (Some a) all fits e =
    let here = all_holds r a all fits in
    absurd (some_or (in_range r a) _ here e)
  where
    some_or : (x y : Bool) → x ≡ true → (x || y) ≡ false → ⊥
    some_or true y p q = cc
    some_or false y p q = cc

-- four acls that stand behind one another

record IsFour (n p : ℕ) (acls : List Acl) (a : Acl) : Type 0 where
  asking : Acl
  named : Acl
  last : Acl
  asking_at : slice_get acls (suc p) ≡ Some asking
  named_at : slice_get acls (suc (suc p)) ≡ Some named
  last_at : slice_get acls (suc (suc (suc p))) ≡ Some last
  asking_name : asking.name ≡ lookup_name last.name
  asking_is : is_asking asking.body ≡ true
  named_is : is_named_body n named.body ≡ true
  last_is : is_either_body n last.body ≡ true

four_here : (n : ℕ) (a : Acl) (acls : List Acl) → are_behind n a acls ≡ true → IsFour n zero (a ∷ acls) a
four_here n a [] is = absurd (cc)
four_here n a (b ∷ []) is = absurd (cc)
four_here n a (b ∷ c ∷ []) is = absurd (cc)
four_here n a (b ∷ c ∷ d ∷ acls) is =
    let one = and_parts (bytes_eq a.name (literal_name d.name)) _ is in
    let two = and_parts (bytes_eq b.name (lookup_name d.name)) _ one.1 in
    let three = and_parts (is_asking b.body) _ two.1 in
    let four = and_parts (bytes_eq c.name (named_name d.name)) _ three.1 in
    let five = and_parts (is_named_body n c.body) _ four.1 in
    record {
      asking = b;
      named = c;
      last = d;
      asking_at = refl;
      named_at = refl;
      last_at = refl;
      asking_name = same_of b.name (lookup_name d.name) two.0;
      asking_is = three.0;
      named_is = five.0;
      last_is = five.1;
    }

third : (x y z w : Bool) → ((x || y || z) && w) ≡ true → x ≡ false → y ≡ false → z ≡ true
third x y z w e p q = grind (arith, e, p, q)

second : (x y : Bool) → (x && y) ≡ true → y ≡ true
second x y e = (and_parts x y e).1

four_in : (i p : ℕ) (acls : List Acl) (a : Acl) → are_in_four i acls ≡ true → slice_get acls p ≡ Some a
    → is_dst a.body ≡ true → 0 < i + p → IsFour (i + p) p acls a
four_in i p [] a four at dst some = absurd (cc)
four_in i zero (z ∷ acls) a four at dst some =
    let same : z ≡ a = cc in
    let here : i + 0 ≡ i = omega arith in
    let off : not (is_dst z.body) ≡ false = rw (same, dst) refl in
    let late : (i == 0) ≡ false = grind (arith, nat_tests, some) in
    let behind = third (not (is_dst z.body)) (i == 0) (are_behind i z acls) (are_in_four (suc i) acls) four off late in
    subst (λ (b : Acl). IsFour (i + 0) zero (z ∷ acls) b) same
    (subst (λ n. IsFour n zero (z ∷ acls) z) (sym here) (four_here i z acls behind))
four_in i (suc p) (z ∷ acls) a four at dst some =
    let there : suc i + p ≡ i + suc p = omega arith in
    let is = four_in (suc i) p acls a (second _ (are_in_four (suc i) acls) four) at dst (omega (arith, some)) in
    subst (λ n. IsFour n (suc p) (z ∷ acls) a) there
    (record {
      asking = is.asking;
      named = is.named;
      last = is.last;
      asking_at = is.asking_at;
      named_at = is.named_at;
      last_at = is.last_at;
      asking_name = is.asking_name;
      asking_is = is.asking_is;
      named_is = is.named_is;
      last_is = is.last_is;
    })

-- their bodies

abbrev term_at : ℕ → Bool → Term
term_at n b = record { acl = n; negated = b }

plain_same : (p : ℕ) (t : Term) → is_plain p t ≡ true → t ≡ plain_term p
plain_same p t e =
    let parts = and_parts (t.acl == p) (not t.negated) e in
    let place : t.acl ≡ p = grind (arith, nat_tests, parts.0) in
    let sign : t.negated ≡ false = grind (arith, parts.1) in
    ap (λ n. term_at n t.negated) place ∙ ap (term_at p) sign

none_same : (t : Term) → is_no_literal t ≡ true → t ≡ no_literal
none_same t e =
    let parts = and_parts (t.acl == 0) t.negated e in
    let place : t.acl ≡ 0 = grind (arith, nat_tests, parts.0) in
    ap (λ n. term_at n t.negated) place ∙ ap (term_at 0) parts.1

no_words : (ws : List (List ℕ)) → has_no_words ws ≡ true → ws ≡ []
no_words [] e = refl
no_words (w ∷ ws) e = cc

asking_same : (b : Body) → is_asking b ≡ true → b ≡ body.External 0 []
asking_same (body.Leaf l) e = cc
asking_same (body.External class arguments) e =
    let parts = and_parts (class == 0) (has_no_words arguments) e in
    let first : class ≡ 0 = grind (arith, nat_tests, parts.0) in
    ap (λ n. body.External n arguments) first ∙ ap (body.External 0) (no_words arguments parts.1)
asking_same (body.AnyOf terms) e = cc
asking_same (body.AllOf lines) e = cc

terms_named : (p : ℕ) (terms : List Term) → are_named p terms ≡ true
    → terms ≡ no_literal ∷ plain_term (suc p) ∷ []
terms_named p [] e = cc
terms_named p (t ∷ []) e = cc
terms_named p (t ∷ u ∷ []) e =
    let parts = and_parts (is_no_literal t) (is_plain (suc p) u) e in
    ap (λ x. x ∷ u ∷ []) (none_same t parts.0) ∙ ap (λ x. no_literal ∷ x ∷ []) (plain_same (suc p) u parts.1)
terms_named p (t ∷ u ∷ v ∷ terms) e = cc

named_same : (p : ℕ) (b : Body) → is_named_body p b ≡ true
    → b ≡ body.AllOf ((no_literal ∷ plain_term (suc p) ∷ []) ∷ [])
named_same p (body.Leaf l) e = cc
named_same p (body.External class arguments) e = cc
named_same p (body.AnyOf terms) e = cc
named_same p (body.AllOf []) e = cc
named_same p (body.AllOf (terms ∷ [])) e = ap (λ l. body.AllOf (l ∷ [])) (terms_named p terms e)
named_same p (body.AllOf (terms ∷ more ∷ lines)) e = cc

terms_either : (p : ℕ) (terms : List Term) → are_either p terms ≡ true
    → terms ≡ plain_term p ∷ plain_term (suc (suc p)) ∷ []
terms_either p [] e = cc
terms_either p (t ∷ []) e = cc
terms_either p (t ∷ u ∷ []) e =
    let parts = and_parts (is_plain p t) (is_plain (suc (suc p)) u) e in
    ap (λ x. x ∷ u ∷ []) (plain_same p t parts.0)
    ∙ ap (λ x. plain_term p ∷ x ∷ []) (plain_same (suc (suc p)) u parts.1)
terms_either p (t ∷ u ∷ v ∷ terms) e = cc

either_same : (p : ℕ) (b : Body) → is_either_body p b ≡ true
    → b ≡ body.AnyOf (plain_term p ∷ plain_term (suc (suc p)) ∷ [])
either_same p (body.Leaf l) e = cc
either_same p (body.External class arguments) e = cc
either_same p (body.AnyOf terms) e = ap body.AnyOf (terms_either p terms e)
either_same p (body.AllOf lines) e = cc

-- the first acl, and the first class

record IsLiteral (acls : List Acl) : Type 0 where
  name : List ℕ
  range : Range
  ranges : List Range
  at : HasValues acls 0 name (range ∷ ranges)
  all : is_all range ≡ true

literal_of : (name : List ℕ) (values : List Range) (acls : List Acl) → begins_with_all values ≡ true
    → IsLiteral (record { name = name; body = body.Leaf (leaf.Dst values) } ∷ acls)
literal_of name [] acls e = absurd (cc)
literal_of name (r ∷ ranges) acls e = record { name = name; range = r; ranges = ranges; at = refl; all = e }

literal_by : (name : List ℕ) (b : Body) (acls : List Acl) → holds_all b ≡ true
    → IsLiteral (record { name = name; body = b } ∷ acls)
literal_by name (body.Leaf (leaf.Src ranges)) acls e = absurd (cc)
literal_by name (body.Leaf (leaf.Dst values)) acls e = literal_of name values acls e
literal_by name (body.Leaf (leaf.DstDomain names)) acls e = absurd (cc)
literal_by name (body.Leaf (leaf.Port ranges)) acls e = absurd (cc)
literal_by name (body.Leaf (leaf.Method names)) acls e = absurd (cc)
literal_by name (body.Leaf (leaf.Proto names)) acls e = absurd (cc)
literal_by name (body.Leaf (leaf.Time hours)) acls e = absurd (cc)
literal_by name (body.Leaf (leaf.UrlRegex finds)) acls e = absurd (cc)
literal_by name (body.Leaf (leaf.MaxConn numbers)) acls e = absurd (cc)
literal_by name (body.External class arguments) acls e = absurd (cc)
literal_by name (body.AnyOf terms) acls e = absurd (cc)
literal_by name (body.AllOf lines) acls e = absurd (cc)

literal_first : (acls : List Acl) → begins_literal acls ≡ true → IsLiteral acls
literal_first [] e = absurd (cc)
literal_first (a ∷ acls) e = literal_by a.name a.body acls
    (second (bytes_eq a.name (codes "dst literal")) (holds_all a.body) e)

is_host : (t : Token) (rest : List Token) → is_lookup_format (t ∷ rest) ≡ true → t ≡ token.Host
is_host token.ClientAddr rest e = cc
is_host token.ClientPort rest e = cc
is_host token.Method rest e = cc
is_host token.Uri rest e = cc
is_host token.Scheme rest e = cc
is_host token.Host rest e = refl
is_host token.Port rest e = cc
is_host token.Path rest e = cc
is_host (token.Header field) rest e = cc
is_host token.AclName rest e = cc
is_host token.Arguments rest e = cc
is_host token.Percent rest e = cc

is_name : (t : Token) (rest : List Token) → is_lookup_format (token.Host ∷ t ∷ rest) ≡ true → t ≡ token.AclName
is_name token.ClientAddr rest e = cc
is_name token.ClientPort rest e = cc
is_name token.Method rest e = cc
is_name token.Uri rest e = cc
is_name token.Scheme rest e = cc
is_name token.Host rest e = cc
is_name token.Port rest e = cc
is_name token.Path rest e = cc
is_name (token.Header field) rest e = cc
is_name token.AclName rest e = refl
is_name token.Arguments rest e = cc
is_name token.Percent rest e = cc

is_arguments : (t : Token) (rest : List Token) → is_lookup_format (token.Host ∷ token.AclName ∷ t ∷ rest) ≡ true
    → t ≡ token.Arguments
is_arguments token.ClientAddr rest e = cc
is_arguments token.ClientPort rest e = cc
is_arguments token.Method rest e = cc
is_arguments token.Uri rest e = cc
is_arguments token.Scheme rest e = cc
is_arguments token.Host rest e = cc
is_arguments token.Port rest e = cc
is_arguments token.Path rest e = cc
is_arguments (token.Header field) rest e = cc
is_arguments token.AclName rest e = cc
is_arguments token.Arguments rest e = refl
is_arguments token.Percent rest e = cc

format_tail : (rest : List Token) → is_lookup_format (token.Host ∷ token.AclName ∷ token.Arguments ∷ rest) ≡ true
    → rest ≡ []
format_tail [] e = refl
format_tail (t ∷ rest) e = cc

format_last : (t : Token) (rest : List Token) → is_lookup_format (token.Host ∷ token.AclName ∷ t ∷ rest) ≡ true
    → t ∷ rest ≡ token.Arguments ∷ []
format_last t rest e =
    let same = is_arguments t rest e in
    ap (λ u. u ∷ rest) same ∙ ap (λ l. token.Arguments ∷ l)
    (format_tail rest (subst (λ u. is_lookup_format (token.Host ∷ token.AclName ∷ u ∷ rest) ≡ true) same e))

format_name : (t : Token) (rest : List Token) → is_lookup_format (token.Host ∷ t ∷ rest) ≡ true
    → t ∷ rest ≡ token.AclName ∷ token.Arguments ∷ []
format_name t [] e = absurd (none t e)
  where
    none : (u : Token) → is_lookup_format (token.Host ∷ u ∷ []) ≡ true → ⊥
    none token.ClientAddr e = cc
    none token.ClientPort e = cc
    none token.Method e = cc
    none token.Uri e = cc
    none token.Scheme e = cc
    none token.Host e = cc
    none token.Port e = cc
    none token.Path e = cc
    none (token.Header field) e = cc
    none token.AclName e = cc
    none token.Arguments e = cc
    none token.Percent e = cc
format_name t (u ∷ rest) e =
    let same = is_name t (u ∷ rest) e in
    ap (λ v. v ∷ u ∷ rest) same ∙ ap (λ l. token.AclName ∷ l)
    (format_last u rest (subst (λ v. is_lookup_format (token.Host ∷ v ∷ u ∷ rest) ≡ true) same e))

format_same : (format : List Token) → is_lookup_format format ≡ true
    → format ≡ token.Host ∷ token.AclName ∷ token.Arguments ∷ []
format_same [] e = cc
format_same (t ∷ []) e = absurd (none t e)
  where
    none : (u : Token) → is_lookup_format (u ∷ []) ≡ true → ⊥
    none token.ClientAddr e = cc
    none token.ClientPort e = cc
    none token.Method e = cc
    none token.Uri e = cc
    none token.Scheme e = cc
    none token.Host e = cc
    none token.Port e = cc
    none token.Path e = cc
    none (token.Header field) e = cc
    none token.AclName e = cc
    none token.Arguments e = cc
    none token.Percent e = cc
format_same (t ∷ u ∷ rest) e =
    let same = is_host t (u ∷ rest) e in
    ap (λ v. v ∷ u ∷ rest) same ∙ ap (λ l. token.Host ∷ l)
    (format_name u rest (subst (λ v. is_lookup_format (v ∷ u ∷ rest) ≡ true) same e))

key_of : (name : List ℕ) (s : Sight) (classes : List Class) → begins_lookup classes ≡ true
    → format_text name [] s (slice_get classes 0) ≡ lookup_text s.request.host name
key_of name s [] e = cc
key_of name s (k ∷ classes) e =
    let rest = second (bytes_eq k.name (codes "dst lookup")) _ e in
    let format = format_same k.format (and_parts (is_lookup_format k.format) _ rest).0 in
    rw format refl

-- values by the bodies of acls

abbrev value_of : Configuration → Sight → List Answer → Term → TermValue
value_of c s answers t = term_value (taken_at c s answers) c.acls t

any_value : (c : Configuration) (s : Sight) (answers : List Answer) (place : ℕ) (a : Acl) (terms : List Term)
    → are_known_bodies (length c.classes) 0 c.acls ≡ true → slice_get c.acls place ≡ Some a → a.body ≡ body.AnyOf terms
    → value_of c s answers (plain_term place) ≡ either (map (value_of c s answers) terms)
any_value c s answers place a terms known at is =
    term_over_members (taken_at c s answers) (length c.classes) c.acls (plain_term place) known
    ∙ ap (acl_value (taken_at c s answers) (value_of c s answers) place) at
    ∙ ap (body_value (taken_at c s answers) (value_of c s answers) place) is

all_value : (c : Configuration) (s : Sight) (answers : List Answer) (place : ℕ) (a : Acl) (lines : List (List Term))
    → are_known_bodies (length c.classes) 0 c.acls ≡ true → slice_get c.acls place ≡ Some a → a.body ≡ body.AllOf lines
    → value_of c s answers (plain_term place) ≡ either (map (λ l. both (map (value_of c s answers) l)) lines)
all_value c s answers place a lines known at is =
    term_over_members (taken_at c s answers) (length c.classes) c.acls (plain_term place) known
    ∙ ap (acl_value (taken_at c s answers) (value_of c s answers) place) at
    ∙ ap (body_value (taken_at c s answers) (value_of c s answers) place) is

asked_value : (c : Configuration) (s : Sight) (answers : List Answer) (place : ℕ) (a : Acl)
    → are_known_bodies (length c.classes) 0 c.acls ≡ true → slice_get c.acls place ≡ Some a
    → a.body ≡ body.External 0 []
    → value_of c s answers (plain_term place)
    ≡ answer_value place (key_text c place s) (answer_for answers 0 (key_text c place s))
asked_value c s answers place a known at is =
    term_over_members (taken_at c s answers) (length c.classes) c.acls (plain_term place) known
    ∙ ap (acl_value (taken_at c s answers) (value_of c s answers) place) at
    ∙ ap (body_value (taken_at c s answers) (value_of c s answers) place) is
    ∙ ap (taken_of_acl c s answers place) at ∙ ap (taken_of_body c s answers place) is

not_value : (c : Configuration) (s : Sight) (answers : List Answer) (name : List ℕ) (values : List Range)
    → are_known_bodies (length c.classes) 0 c.acls ≡ true → HasValues c.acls 0 name values
    → value_of c s answers no_literal ≡ negated (value_if (in_ranges values s.request.literal))
not_value c s answers name values known at =
    term_over_members (taken_at c s answers) (length c.classes) c.acls no_literal known
    ∙ ap (λ o. negated (acl_value (taken_at c s answers) (value_of c s answers) 0 o)) at
    ∙ ap (λ o. negated (taken_of_acl c s answers 0 o)) at

key_is : (c : Configuration) (s : Sight) (place : ℕ) (a : Acl) → begins_lookup c.classes ≡ true
    → slice_get c.acls place ≡ Some a → a.body ≡ body.External 0 []
    → key_text c place s ≡ lookup_text s.request.host a.name
unfolding key_text
key_is c s place a first at is = ap (acl_key c s) at ∙ ap (body_key c s a.name) is ∙ key_of a.name s c.classes first

-- the group over `!dst literal` and the look-up, where it matches
named_hit : (c : Configuration) (s : Sight) (answers : List Answer) (p : ℕ) (a : Acl) (name : List ℕ)
    → are_known_bodies (length c.classes) 0 c.acls ≡ true → (four : IsFour p p c.acls a) → four.last.name ≡ name
    → (first : IsLiteral c.acls) → begins_lookup c.classes ≡ true → IfSome s.request.literal IsAddress
    → value_of c s answers (plain_term (suc (suc p))) ≡ Hit
    → (s.request.literal ≡ None) × IsAnsweredOk answers s.request.host name
named_hit c s answers p a name known four named first class fits hit =
    let named_is = named_same p four.named.body four.named_is in
    let asking_is = asking_same four.asking.body four.asking_is in
    let asked = value_of c s answers (plain_term (suc p)) in
    let key = key_text c (suc p) s in
    let whole : either (both (value_of c s answers no_literal ∷ asked ∷ []) ∷ []) ≡ Hit =
    sym (all_value c s answers (suc (suc p)) four.named _ known four.named_at named_is) ∙ hit in
    let line : both (value_of c s answers no_literal ∷ asked ∷ []) ≡ Hit = hit_alone _ whole in
    let parted : both (negated (value_if (in_ranges (first.range ∷ first.ranges) s.request.literal)) ∷ asked ∷ [])
    ≡ Hit =
    ap (λ v. both (v ∷ asked ∷ []))
    (sym (not_value c s answers first.name (first.range ∷ first.ranges) known first.at)) ∙ line in
    let two = hit_both (in_ranges (first.range ∷ first.ranges) s.request.literal) asked parted in
    let yes = answered (suc p) key (answer_for answers 0 key)
    (sym (asked_value c s answers (suc p) four.asking known four.asking_at asking_is) ∙ two.1) in
    let key_same : key ≡ lookup_text s.request.host (lookup_name name) =
    key_is c s (suc p) four.asking class four.asking_at asking_is
    ∙ ap (lookup_text s.request.host) (four.asking_name ∙ ap lookup_name named) in (
      none_of_all first.range first.ranges s.request.literal first.all fits two.0,
      (yes.0, sym (ap (answer_for answers 0) key_same) ∙ yes.1),
    )

-- the group of a name, where it matches
group_hit : (c : Configuration) (s : Sight) (answers : List Answer) (p : ℕ) (a : Acl) (n name : List ℕ)
    (values : List Range) → are_known_bodies (length c.classes) 0 c.acls ≡ true → HasValues c.acls p n values
    → (four : IsFour p p c.acls a) → four.last.name ≡ name → IsLiteral c.acls → begins_lookup c.classes ≡ true
    → IfSome s.request.literal IsAddress
    → value_of c s answers (plain_term (suc (suc (suc p)))) ≡ Hit
    → (in_ranges values s.request.literal ≡ true)
    ⊎ ((s.request.literal ≡ None) × IsAnsweredOk answers s.request.host name)
group_hit c s answers p a n name values known has four named first class fits hit =
    let either_is = either_same p four.last.body four.last_is in
    let mine = value_of c s answers (plain_term (suc (suc p))) in
    let whole : either (value_of c s answers (plain_term p) ∷ mine ∷ []) ≡ Hit =
    sym (any_value c s answers (suc (suc (suc p))) four.last _ known four.last_at either_is) ∙ hit in
    let parted : either (value_if (in_ranges values s.request.literal) ∷ mine ∷ []) ≡ Hit =
    ap (λ v. either (v ∷ mine ∷ [])) (sym (leaf_value c s answers p n values has)) ∙ whole in
    ⊎_elim (λ is. inl is) (λ is. inr (named_hit c s answers p a name known four named first class fits is))
    (hit_second (in_ranges values s.request.literal) mine parted)

-- an acl of type dst, where it matches

on_three : (place : ℕ) → 4 ≤ place → place ≡ suc (suc (suc (place - 3)))
on_three place h = omega (arith, h)

dst_hit : (c : Configuration) (s : Sight) (answers : List Answer) (lookup : Bool) → c.dst_lookup ≡ lookup
    → IsConfiguration c → IfSome s.request.literal IsAddress → (place : ℕ) (name : List ℕ) (values : List Range)
    → IsDstAt lookup c.acls place name values → value_of c s answers (plain_term place) ≡ Hit
    → (in_ranges values s.request.literal ≡ true)
    ⊎ ((c.dst_lookup ≡ true) × (s.request.literal ≡ None) × IsAnsweredOk answers s.request.host name)
dst_hit c s answers false off config fits place name values is hit =
    inl (hit_if (in_ranges values s.request.literal) (sym (leaf_value c s answers place name values is) ∙ hit))
dst_hit c s answers true on config fits place name values is hit =
    let p = place - 3 in
    let looked : are_looked_up true c.classes c.acls ≡ true =
    ap (λ b. are_looked_up b c.classes c.acls) (sym on) ∙ config.lookups_are in
    let class = and_parts (begins_lookup c.classes) _ looked in
    let acls = and_parts (begins_literal c.acls) (are_in_four 0 c.acls) class.1 in
    let far : 4 ≤ place = grind (arith, nat_tests, (and_parts (nat_le 4 place) _ is.0).0) in
    let three : place ≡ suc (suc (suc p)) = on_three place far in
    let start : 0 + p ≡ p = omega arith in
    let values_acl : Acl = record { name = literal_name name; body = body.Leaf (leaf.Dst values) } in
    let four : IsFour p p c.acls values_acl = subst (λ n. IsFour n p c.acls values_acl) start
    (four_in 0 p c.acls values_acl acls.1 is.2 refl (omega (arith, far))) in
    let named : four.last.name ≡ name =
    sym (ap name_at four.last_at) ∙ ap (λ n. name_at (slice_get c.acls n)) (sym three) ∙ is.1 in
    let there : value_of c s answers (plain_term (suc (suc (suc p)))) ≡ Hit =
    ap (λ n. value_of c s answers (plain_term n)) (sym three) ∙ hit in
    ⊎_elim (λ has. inl has) (λ has. inr (on, has.0, has.1))
    (group_hit c s answers p values_acl (literal_name name) name values config.members is.2 four named
    (literal_first c.acls acls.0) class.0 fits there)

-- what a match of an acl of type dst says
pub are_hits : (c : Configuration) (s : Sight) (answers : List Answer) → IsConfiguration c
    → IfSome s.request.literal IsAddress → AreDstHits c s answers
are_hits c s answers config fits = λ place name values is hit.
    dst_hit c s answers c.dst_lookup refl config fits place name values is hit
