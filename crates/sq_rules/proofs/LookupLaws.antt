-- Acls of type `dst` with their look-ups: what is made of one stands behind other acls, and stays where other acls
-- change.
use Rattle.std.proofs.Common.{◌≡◌, ℕ, ◌+◌, ◌-◌, ◌≤◌, suc, zero, List, [], ◌∷◌, ◌++◌, length, set, take, drop, Bool, true, false, ◌&&◌, ◌||◌, ◌==◌, not, refl, sym, ap, subst, ◌∙◌, arith, Option, Some, None, slice_get, if◌then◌else◌, nat_eq, nat_le}
use Rattle.std.proofs.lemmas.Bool.{and_from, and_parts}
use Rattle.std.proofs.lemmas.Bool.Decides.{nat_tests}
use Rattle.std.proofs.lemmas.Slice.Eq.{bytes_eq-Decides}
use Rattle.std.specs.Prelude.{codes}
use Rattle.std.specs.List.{list_any}
use Rattle.std.specs.Str.{bytes_eq}
use Rattle.sq_base.specs.declared.addresses.Range.{Range}
use Rattle.sq_rules.proofs.NameLaws.{place_push}
use Rattle.sq_rules.specs.Classes.{Class}
use Rattle.sq_rules.specs.Configurations.{place_from}
use Rattle.sq_rules.specs.Drafts.{joined_leaves, with_leaf, with_line, with_member}
use Rattle.sq_rules.specs.Limits.{class_limit}
use Rattle.sq_rules.specs.Lookups.{are_behind, are_in_four, are_looked_up, asking_acl, begins_literal, begins_lookup, begins_with_all, classes_within, either_acl, has_blank, holds_all, is_asking, is_dst, is_either_body, is_last_of_four, is_named_body, is_values_of, literal_name, lookup_name, looked_up, name_at, named_acl, named_name, stated_of, takes_members, unmade, unmade_acls, values_acl}
use Rattle.sq_rules.specs.declared.configs.Acl.{Acl}
use Rattle.sq_rules.specs.declared.configs.Body.{Body}
use Rattle.sq_rules.specs.declared.configs.Body.TheVariants as body
use Rattle.sq_rules.specs.declared.configs.Term.{Term}
use Rattle.sq_rules.specs.declared.leaves.Leaf.{Leaf}
use Rattle.sq_rules.specs.declared.leaves.Leaf.TheVariants as leaf

-- how many names hold no blank

pub unmade_set : {A : Type 0} (f : A → List ℕ) (xs : List A) (p : ℕ) (x y : A) → slice_get xs p ≡ Some x → f y ≡ f x
    → unmade f (set xs p y) ≡ unmade f xs
unmade_set f [] p x y is same = refl
unmade_set f (z ∷ xs) zero x y is same = let named : f y ≡ f z = cc in
    ap (λ k. if has_blank k then unmade f xs else suc (unmade f xs)) named
unmade_set f (z ∷ xs) (suc p) x y is same = ap (λ n. if has_blank (f z) then n else suc n)
    (unmade_set f xs p x y is same)

one : (b : Bool) → (if b then 0 else suc 0) ≡ 0 + (if b then 0 else 1)
one true = refl
one false = refl

up : (b : Bool) (m k : ℕ) → (if b then m + k else suc (m + k)) ≡ (if b then m else suc m) + k
up true m k = refl
up false m k = omega arith

pub unmade_push : {A : Type 0} (f : A → List ℕ) (xs : List A) (x : A)
    → unmade f (xs ++ x ∷ []) ≡ unmade f xs + (if has_blank (f x) then 0 else 1)
unmade_push f [] x = one (has_blank (f x))
unmade_push f (y ∷ xs) x =
    ap (λ n. if has_blank (f y) then n else suc n) (unmade_push f xs x)
    ∙ up (has_blank (f y)) (unmade f xs) (if has_blank (f x) then 0 else 1)

most_by : (b : Bool) (m n : ℕ) → m ≤ n → (if b then m else suc m) ≤ suc n
most_by true m n l = omega (arith, l)
most_by false m n l = omega (arith, l)

-- no more than there are
pub unmade_most : {A : Type 0} (f : A → List ℕ) (xs : List A) → unmade f xs ≤ length xs
unmade_most f [] = omega arith
unmade_most f (x ∷ xs) = most_by (has_blank (f x)) (unmade f xs) (length xs) (unmade_most f xs)

-- as many stated ones in lists with as many names without a blank
pub stated_alike : {A B : Type 0} (lookup : Bool) (f : A → List ℕ) (g : B → List ℕ) (xs : List A) (ys : List B)
    → unmade f xs ≡ unmade g ys → length xs ≡ length ys → stated_of lookup f xs ≡ stated_of lookup g ys
stated_alike true f g xs ys few long = few
stated_alike false f g xs ys few long = long

-- no more are stated than there are
pub stated_most : {A : Type 0} (lookup : Bool) (f : A → List ℕ) (xs : List A) → stated_of lookup f xs ≤ length xs
stated_most true f xs = unmade_most f xs
stated_most false f xs = omega arith

-- each configuration may have the classes that one without look-ups may have
pub classes_least : (lookup : Bool) → class_limit ≤ classes_within lookup
classes_least true = omega arith
classes_least false = omega arith

-- the count of such acls, where one acl more stands at the end
pub unmade_acls_push : (old new : List Acl) (a : Acl) (m k n : ℕ) → m ≡ unmade_acls old
    → k ≡ (if has_blank a.name then 0 else 1) → n ≡ m + k → new ≡ old ++ a ∷ [] → n ≡ unmade_acls new
unmade_acls_push old new a m k n was one now more = rw (now, was, one, more)
    (sym (unmade_push (λ (z : Acl). z.name) old a))

next_by : (b : Bool) (m k n : ℕ) → m + (if b then k else suc k) ≡ n → m + (if b then 0 else 1) + k ≡ n
next_by true m k n e = omega (arith, e)
next_by false m k n e = omega (arith, e)

-- the same count over two lists, where the next of the second is put at the end of the first
pub unmade_next : {A B : Type 0} (f : A → List ℕ) (g : B → List ℕ) (xs ys : List A) (x : A) (y : B) (rest : List B)
    (n : ℕ) → ys ≡ xs ++ x ∷ [] → f x ≡ g y
    → unmade f xs + unmade g (y ∷ rest) ≡ n → unmade f ys + unmade g rest ≡ n
unmade_next f g xs ys x y rest n now same e =
    ap (λ l. unmade f l + unmade g rest) now ∙ ap (λ m. m + unmade g rest) (unmade_push f xs x)
    ∙ next_by (has_blank (f x)) (unmade f xs) (unmade g rest) n
    (subst (λ q. unmade f xs + (if has_blank q then unmade g rest else suc (unmade g rest)) ≡ n) (sym same) e)

at_most_one : (b : Bool) → (if b then 0 else 1) ≤ 1
at_most_one true = omega arith
at_most_one false = omega arith

pub unmade_acls_most : (acls : List Acl) (name : List ℕ) (m k : ℕ) → m ≡ unmade_acls acls
    → k ≡ (if has_blank name then 0 else 1) → m + k ≤ suc (length acls)
unmade_acls_most acls name m k was more =
    let few = unmade_most (λ (a : Acl). a.name) acls in
    let one = at_most_one (has_blank name) in
    omega (arith, few, one, was, more)

-- names of what is made

no_end : (n e : List ℕ) (b : ℕ) → n ++ b ∷ e ≡ n → ⊥
no_end [] e b same = cc
no_end (x ∷ n) e b same = no_end n e b (cc)

same_ends : (n a b : List ℕ) → n ++ a ≡ n ++ b → a ≡ b
same_ends [] a b same = same
same_ends (x ∷ n) a b same = same_ends n a b (cc)

by_test : (a b : List ℕ) (t : Bool) → bytes_eq a b ≡ t → (a ≡ b → ⊥) → bytes_eq a b ≡ false
by_test a b false is apart = is
by_test a b true is apart = absurd (apart ((bytes_eq-Decides a b).0 is))

-- a name with an end is another one
pub end_apart : (n e : List ℕ) (b : ℕ) → bytes_eq (n ++ b ∷ e) n ≡ false
end_apart n e b = by_test (n ++ b ∷ e) n (bytes_eq (n ++ b ∷ e) n) refl (no_end n e b)

-- and so is one with another end
pub ends_apart : (n a b : List ℕ) → bytes_eq a b ≡ false → bytes_eq (n ++ a) (n ++ b) ≡ false
ends_apart n a b apart = by_test (n ++ a) (n ++ b) (bytes_eq (n ++ a) (n ++ b)) refl
    (λ same. differ (bytes_eq a b) apart ((bytes_eq-Decides a b).1 (same_ends n a b same)))
  where
    differ : (t : Bool) → t ≡ false → t ≡ true → ⊥
    differ true e f = cc
    differ false e f = cc

-- a name that is free stays so where an acl of another name is put at the end
pub free_push : {A : Type 0} (f : A → List ℕ) (xs : List A) (x : A) (name : List ℕ) → place_from f 0 xs name ≡ None
    → bytes_eq (f x) name ≡ false → place_from f 0 (xs ++ x ∷ []) name ≡ None
free_push f xs x name free apart = place_push f 0 (length xs) xs x name (omega arith) ∙ rw (free, apart) refl

or_second : (a b : Bool) → b ≡ true → (a || b) ≡ true
or_second true b e = refl
or_second false b e = e

list_any_front : (p : ℕ → Bool) (n e : List ℕ) → list_any p e ≡ true → list_any p (n ++ e) ≡ true
list_any_front p [] e t = t
list_any_front p (x ∷ n) e t = or_second (p x) (list_any p (n ++ e)) (list_any_front p n e t)

-- a blank stands in each name that is made
pub literal_blank : (n : List ℕ) → has_blank (literal_name n) ≡ true
literal_blank n = list_any_front _ n (codes " literal") refl

pub lookup_blank : (n : List ℕ) → has_blank (lookup_name n) ≡ true
lookup_blank n = list_any_front _ n (codes " lookup") refl

pub named_blank : (n : List ℕ) → has_blank (named_name n) ≡ true
named_blank n = list_any_front _ n (codes " named") refl

bytes_same : (n : List ℕ) → bytes_eq n n ≡ true
bytes_same n = (bytes_eq-Decides n n).1 refl

-- a name compared front by front
and_front : (a b c d : Bool) → b ≡ (c && d) → (a && b) ≡ ((a && c) && d)
and_front true b c d e = e
and_front false b c d e = refl

pub front_first : (xs ps ys : List ℕ)
    → bytes_eq xs (ps ++ ys) ≡ (bytes_eq (take (length ps) xs) ps && bytes_eq (drop (length ps) xs) ys)
front_first xs [] ys = refl
front_first [] (p ∷ ps) ys = refl
front_first (x ∷ xs) (p ∷ ps) ys = and_front (nat_eq x p) (bytes_eq xs (ps ++ ys)) (bytes_eq (take (length ps) xs) ps)
    (bytes_eq (drop (length ps) xs) ys) (front_first xs ps ys)

-- four acls behind others

pub behind_longer : (p : ℕ) (a : Acl) (acls more : List Acl) → are_behind p a acls ≡ true
    → are_behind p a (acls ++ more) ≡ true
behind_longer p a [] more is = cc
behind_longer p a (b ∷ []) more is = cc
behind_longer p a (b ∷ c ∷ []) more is = cc
behind_longer p a (b ∷ c ∷ d ∷ acls) more is = is

head_so : (x y z w b c : Bool) → ((x || y || z) && b) ≡ true → (z ≡ true → w ≡ true) → (b ≡ true → c ≡ true)
    → ((x || y || w) && c) ≡ true
head_so true y z w b c is k l = l is
head_so false true z w b c is k l = l is
head_so false false true w b c is k l = and_from w c (k refl) (l is)
head_so false false false w b c is k l = cc

-- one acl more, which is no acl of values of type dst
pub fours_push : (i : ℕ) (acls : List Acl) (a : Acl) → are_in_four i acls ≡ true → is_dst a.body ≡ false
    → are_in_four i (acls ++ a ∷ []) ≡ true
fours_push i [] a four other = rw other refl
fours_push i (z ∷ acls) a four other =
    head_so (not (is_dst z.body)) (i == 0) (are_behind i z acls) (are_behind i z (acls ++ a ∷ []))
    (are_in_four (suc i) acls) (are_in_four (suc i) (acls ++ a ∷ [])) four
    (behind_longer i z acls (a ∷ [])) (λ rest. fours_push (suc i) acls a rest other)

plain_same : (k : ℕ) → (k == k) ≡ true
plain_same k = grind arith

behind_made : (k : ℕ) (name : List ℕ) (values : List Range)
    → are_behind k (values_acl name values) (asking_acl name ∷ named_acl k name ∷ either_acl k name ∷ []) ≡ true
behind_made k name values =
    let named : is_named_body k (named_acl k name).body ≡ true =
    and_from _ _ refl (and_from _ _ (plain_same (suc k)) refl) in
    let either : is_either_body k (either_acl k name).body ≡ true =
    and_from _ _ (and_from _ _ (plain_same k) refl) (and_from _ _ (plain_same (suc (suc k))) refl) in
    and_from _ _ (bytes_same (literal_name name))
    (and_from _ _ (bytes_same (lookup_name name))
    (and_from _ _ refl (and_from _ _ (bytes_same (named_name name)) (and_from _ _ named either))))

third_true : (y z : Bool) → z ≡ true → (false || y || z) ≡ true
third_true true z e = refl
third_true false z e = e

fours_here : (k : ℕ) (name : List ℕ) (values : List Range) → are_in_four k (looked_up k name values) ≡ true
fours_here k name values = and_from _ _ (third_true (k == 0) _ (behind_made k name values)) refl

-- four acls more
pub fours_more : (i k : ℕ) (acls : List Acl) (name : List ℕ) (values : List Range) → are_in_four i acls ≡ true
    → i + length acls ≡ k → are_in_four i (acls ++ looked_up k name values) ≡ true
fours_more i k [] name values four e =
    let same : k ≡ i = omega (arith, e) in
    subst (λ j. are_in_four j (looked_up k name values) ≡ true) same (fours_here k name values)
fours_more i k (z ∷ acls) name values four e =
    head_so (not (is_dst z.body)) (i == 0) (are_behind i z acls) (are_behind i z (acls ++ looked_up k name values))
    (are_in_four (suc i) acls) (are_in_four (suc i) (acls ++ looked_up k name values)) four
    (behind_longer i z acls (looked_up k name values))
    (λ rest. fours_more (suc i) k acls name values rest (omega (arith, e)))

-- an acl changed where it stands

-- further values leave an acl of values of type dst one, and others none
joined_dst : (l m : Leaf) → is_dst (body.Leaf (joined_leaves l m)) ≡ is_dst (body.Leaf l)
joined_dst (leaf.Src a) m = grind arith
joined_dst (leaf.Dst a) m = grind arith
joined_dst (leaf.DstDomain a) m = grind arith
joined_dst (leaf.Port a) m = grind arith
joined_dst (leaf.Method a) m = grind arith
joined_dst (leaf.Proto a) m = grind arith
joined_dst (leaf.Time a) m = grind arith
joined_dst (leaf.UrlRegex a) m = grind arith
joined_dst (leaf.MaxConn a) m = grind arith

pub leaf_dst : (more : Leaf) (b : Body) → is_dst (with_leaf more b) ≡ is_dst b
leaf_dst more (body.Leaf l) = joined_dst l more
leaf_dst more (body.External class arguments) = refl
leaf_dst more (body.AnyOf terms) = refl
leaf_dst more (body.AllOf lines) = refl

pub member_dst : (t : Term) (b : Body) → is_dst (with_member t b) ≡ is_dst b
member_dst t (body.Leaf l) = refl
member_dst t (body.External class arguments) = refl
member_dst t (body.AnyOf terms) = refl
member_dst t (body.AllOf lines) = refl

pub line_dst : (b : Body) → is_dst (with_line b) ≡ is_dst b
line_dst (body.Leaf l) = refl
line_dst (body.External class arguments) = refl
line_dst (body.AnyOf terms) = refl
line_dst (body.AllOf lines) = refl

-- the acl that asks is one that no change of values or members changes
pub leaf_asking : (more : Leaf) (b : Body) → is_asking b ≡ true → with_leaf more b ≡ b
leaf_asking more (body.Leaf l) is = cc
leaf_asking more (body.External class arguments) is = refl
leaf_asking more (body.AnyOf terms) is = cc
leaf_asking more (body.AllOf lines) is = cc

pub member_asking : (t : Term) (b : Body) → is_asking b ≡ true → with_member t b ≡ b
member_asking t (body.Leaf l) is = cc
member_asking t (body.External class arguments) is = refl
member_asking t (body.AnyOf terms) is = cc
member_asking t (body.AllOf lines) is = cc

pub line_asking : (b : Body) → is_asking b ≡ true → with_line b ≡ b
line_asking (body.Leaf l) is = cc
line_asking (body.External class arguments) is = refl
line_asking (body.AnyOf terms) is = cc
line_asking (body.AllOf lines) is = cc

leaf_named : (more : Leaf) (k : ℕ) (b : Body) → is_named_body k b ≡ true → with_leaf more b ≡ b
leaf_named more k (body.Leaf l) is = cc
leaf_named more k (body.External class arguments) is = refl
leaf_named more k (body.AnyOf terms) is = refl
leaf_named more k (body.AllOf lines) is = refl

leaf_either : (more : Leaf) (k : ℕ) (b : Body) → is_either_body k b ≡ true → with_leaf more b ≡ b
leaf_either more k (body.Leaf l) is = cc
leaf_either more k (body.External class arguments) is = refl
leaf_either more k (body.AnyOf terms) is = refl
leaf_either more k (body.AllOf lines) is = refl

-- what a test of three acls says
record AreThree (k : ℕ) (a b c d : Acl) : Type 0 where
  first : bytes_eq a.name (literal_name d.name) ≡ true
  second : bytes_eq b.name (lookup_name d.name) ≡ true
  asks : is_asking b.body ≡ true
  third : bytes_eq c.name (named_name d.name) ≡ true
  named : is_named_body k c.body ≡ true
  either : is_either_body k d.body ≡ true

three_of : (k : ℕ) (a b c d : Acl) (acls : List Acl) → are_behind k a (b ∷ c ∷ d ∷ acls) ≡ true → AreThree k a b c d
three_of k a b c d acls is =
    let p = and_parts _ _ is in
    let q = and_parts _ _ p.1 in
    let r = and_parts _ _ q.1 in
    let s = and_parts _ _ r.1 in
    let t = and_parts _ _ s.1 in
    record { first = p.0; second = q.0; asks = r.0; third = s.0; named = t.0; either = t.1 }

same_name : (a b : List ℕ) → bytes_eq a b ≡ true → a ≡ b
same_name a b t = (bytes_eq-Decides a b).0 t

-- an acl changed behind that of values, by a change that leaves what asks, and that no group of four gets
behind_set : (f : Body → Body) (k : ℕ) (a : Acl) (acls : List Acl) (p : ℕ) (x : Acl) → slice_get acls p ≡ Some x
    → ((b : Body) → is_asking b ≡ true → f b ≡ b)
    → (p ≡ 1 → is_named_body k x.body ≡ true → has_blank x.name ≡ true → f x.body ≡ x.body)
    → (p ≡ 2 → is_either_body k x.body ≡ true → bytes_eq a.name (literal_name x.name) ≡ true → f x.body ≡ x.body)
    → are_behind k a acls ≡ true → are_behind k a (set acls p (record x { body = f x.body })) ≡ true
behind_set f k a [] p x at asks third last is = cc
behind_set f k a (b ∷ []) p x at asks third last is = cc
behind_set f k a (b ∷ c ∷ []) p x at asks third last is = cc
behind_set f k a (b ∷ c ∷ d ∷ acls) zero x at asks third last is =
    let same : x ≡ b = cc in
    let t = three_of k a b c d acls is in
    let kept : f b.body ≡ b.body = asks b.body t.asks in
    rw (same, kept) is
behind_set f k a (b ∷ c ∷ d ∷ acls) (suc zero) x at asks third last is =
    let same : x ≡ c = cc in
    let t = three_of k a b c d acls is in
    let blank : has_blank c.name ≡ true = rw (same_name c.name (named_name d.name) t.third) (named_blank d.name) in
    let kept : f c.body ≡ c.body = subst (λ z. f z.body ≡ z.body) same (third refl (rw same t.named) (rw same blank)) in
    rw (same, kept) is
behind_set f k a (b ∷ c ∷ d ∷ acls) (suc (suc zero)) x at asks third last is =
    let same : x ≡ d = cc in
    let t = three_of k a b c d acls is in
    let kept : f d.body ≡ d.body =
    subst (λ z. f z.body ≡ z.body) same (last refl (rw same t.either) (rw same t.first)) in
    rw (same, kept) is
behind_set f k a (b ∷ c ∷ d ∷ acls) (suc (suc (suc p))) x at asks third last is = is

head_as : (x v y z w b c : Bool) → v ≡ x → ((not x || y || z) && b) ≡ true
    → (x ≡ true → y ≡ false → z ≡ true → w ≡ true) → (b ≡ true → c ≡ true) → ((not v || y || w) && c) ≡ true
head_as false v y z w b c e is k l = rw e (l is)
head_as true v true z w b c e is k l = rw e (l is)
head_as true v false true w b c e is k l = rw e (and_from w c (k refl refl refl) (l is))
head_as true v false false w b c e is k l = cc

-- what stands behind is asked for the name alone
behind_name : (k : ℕ) (a b : Acl) (acls : List Acl) → b.name ≡ a.name → are_behind k a acls ≡ true
    → are_behind k b acls ≡ true
behind_name k a b [] same is = cc
behind_name k a b (c ∷ []) same is = cc
behind_name k a b (c ∷ d ∷ []) same is = cc
behind_name k a b (c ∷ d ∷ e ∷ acls) same is = rw same is

-- the same of a list
fours_set : (f : Body → Body) (i : ℕ) (acls : List Acl) (p : ℕ) (x : Acl) → slice_get acls p ≡ Some x
    → ((b : Body) → is_dst (f b) ≡ is_dst b)
    → ((b : Body) → is_asking b ≡ true → f b ≡ b)
    → ((k : ℕ) → is_named_body k x.body ≡ true → has_blank x.name ≡ true → f x.body ≡ x.body)
    → ((k q : ℕ) (a : Acl) → slice_get acls q ≡ Some a → q + 3 ≡ p → (i + q == 0) ≡ false → is_dst a.body ≡ true
    → is_either_body k x.body ≡ true → bytes_eq a.name (literal_name x.name) ≡ true → f x.body ≡ x.body)
    → are_in_four i acls ≡ true → are_in_four i (set acls p (record x { body = f x.body })) ≡ true
fours_set f i [] p x at kind asks third last is = is
fours_set f i (a ∷ acls) zero x at kind asks third last is =
    let same : x ≡ a = cc in
    let y : Acl = record a { body = f a.body } in
    rw same (head_as (is_dst a.body) (is_dst (f a.body)) (i == 0) (are_behind i a acls) (are_behind i y acls)
    (are_in_four (suc i) acls) (are_in_four (suc i) acls) (kind a.body) is (λ d n z. behind_name i a y acls refl z)
    (λ z. z))
fours_set f i (a ∷ acls) (suc p) x at kind asks third last is =
    let y : Acl = record x { body = f x.body } in
    head_as (is_dst a.body) (is_dst a.body) (i == 0) (are_behind i a acls) (are_behind i a (set acls p y))
    (are_in_four (suc i) acls) (are_in_four (suc i) (set acls p y)) refl is
    (λ d n. behind_set f i a acls p x
    at asks (λ e. third i) (λ e. last i 0 a refl (omega (arith, e)) (rw (no_sum i) n) d))
    (fours_set f (suc i) acls p x
    at kind asks third (λ k q z get e n. last k (suc q) z get (omega (arith, e)) (positive i q)))
  where
    no_sum : (j : ℕ) → j + 0 ≡ j
    no_sum j = omega arith

    positive : (j q : ℕ) → (j + suc q == 0) ≡ false
    positive j q = grind arith

-- further values change no four
pub fours_leaf : (i : ℕ) (acls : List Acl) (p : ℕ) (x : Acl) (more : Leaf) → slice_get acls p ≡ Some x
    → are_in_four i acls ≡ true → are_in_four i (set acls p (record x { body = with_leaf more x.body })) ≡ true
fours_leaf i acls p x more at is =
    fours_set (with_leaf more) i acls p x
    at (leaf_dst more) (leaf_asking more) (λ k named blank. leaf_named more k x.body named)
    (λ k q a get e n d either named. leaf_either more k x.body either) is

both_not : (x y : Bool) → x ≡ true → y ≡ true → (x && y) ≡ false → ⊥
both_not true true d e n = cc
both_not true false d e n = cc
both_not false y d e n = cc

-- nor do members of a group that is none of four
pub fours_group : (f : Body → Body) (i : ℕ) (acls : List Acl) (p : ℕ) (x : Acl) → slice_get acls p ≡ Some x
    → ((b : Body) → is_dst (f b) ≡ is_dst b) → ((b : Body) → is_asking b ≡ true → f b ≡ b)
    → has_blank x.name ≡ false
    → ((q : ℕ) (a : Acl) → slice_get acls q ≡ Some a → q + 3 ≡ p → (i + q == 0) ≡ false
    → is_values_of (Some a) (Some x) ≡ false)
    → are_in_four i acls ≡ true → are_in_four i (set acls p (record x { body = f x.body })) ≡ true
fours_group f i acls p x at kind asks plain apart is =
    fours_set f i acls p x at kind asks (λ k named blank. absurd (cc))
    (λ k q a get e n d either named. absurd
    (both_not (is_dst a.body) (bytes_eq a.name (literal_name x.name)) d named (apart q a get e n))) is

-- the first acl is `dst literal`, also behind a change

pub literal_push : (acls more : List Acl) → begins_literal acls ≡ true → begins_literal (acls ++ more) ≡ true
literal_push [] more is = cc
literal_push (a ∷ acls) more is = is

all_longer : (v m : List Range) → begins_with_all v ≡ true → begins_with_all (v ++ m) ≡ true
all_longer [] m is = cc
all_longer (r ∷ v) m is = is

joined_all : (l m : Leaf) → holds_all (body.Leaf l) ≡ true → holds_all (body.Leaf (joined_leaves l m)) ≡ true
joined_all (leaf.Src a) m is = cc
joined_all (leaf.Dst a) (leaf.Dst b) is = all_longer a b is
joined_all (leaf.Dst a) (leaf.Src b) is = is
joined_all (leaf.Dst a) (leaf.DstDomain b) is = is
joined_all (leaf.Dst a) (leaf.Port b) is = is
joined_all (leaf.Dst a) (leaf.Method b) is = is
joined_all (leaf.Dst a) (leaf.Proto b) is = is
joined_all (leaf.Dst a) (leaf.Time b) is = is
joined_all (leaf.Dst a) (leaf.UrlRegex b) is = is
joined_all (leaf.Dst a) (leaf.MaxConn b) is = is
joined_all (leaf.DstDomain a) m is = cc
joined_all (leaf.Port a) m is = cc
joined_all (leaf.Method a) m is = cc
joined_all (leaf.Proto a) m is = cc
joined_all (leaf.Time a) m is = cc
joined_all (leaf.UrlRegex a) m is = cc
joined_all (leaf.MaxConn a) m is = cc

pub leaf_all : (more : Leaf) (b : Body) → holds_all b ≡ true → holds_all (with_leaf more b) ≡ true
leaf_all more (body.Leaf l) is = joined_all l more is
leaf_all more (body.External class arguments) is = is
leaf_all more (body.AnyOf terms) is = is
leaf_all more (body.AllOf lines) is = is

pub member_all : (t : Term) (b : Body) → holds_all b ≡ true → holds_all (with_member t b) ≡ true
member_all t (body.Leaf l) is = is
member_all t (body.External class arguments) is = is
member_all t (body.AnyOf terms) is = cc
member_all t (body.AllOf lines) is = cc

pub line_all : (b : Body) → holds_all b ≡ true → holds_all (with_line b) ≡ true
line_all (body.Leaf l) is = is
line_all (body.External class arguments) is = is
line_all (body.AnyOf terms) is = cc
line_all (body.AllOf lines) is = cc

both_as : (a b c : Bool) → (a && b) ≡ true → (b ≡ true → c ≡ true) → (a && c) ≡ true
both_as true b c is k = k is
both_as false b c is k = cc

pub literal_set : (f : Body → Body) (acls : List Acl) (p : ℕ) (x : Acl) → slice_get acls p ≡ Some x
    → ((b : Body) → holds_all b ≡ true → holds_all (f b) ≡ true)
    → begins_literal acls ≡ true → begins_literal (set acls p (record x { body = f x.body })) ≡ true
literal_set f [] p x at kept is = cc
literal_set f (a ∷ acls) zero x at kept is = let same : x ≡ a = cc in
    rw same (both_as _ (holds_all a.body) (holds_all (f a.body)) is (kept a.body))
literal_set f (a ∷ acls) (suc p) x at kept is = is

-- all of it

three_as : (lookup : Bool) (classes more : List Class) (acls longer : List Acl)
    → are_looked_up lookup classes acls ≡ true
    → (begins_lookup classes ≡ true → begins_lookup more ≡ true)
    → (begins_literal acls ≡ true → begins_literal longer ≡ true)
    → (are_in_four 0 acls ≡ true → are_in_four 0 longer ≡ true)
    → are_looked_up lookup more longer ≡ true
three_as false classes more acls longer is k l m = refl
three_as true classes more acls longer is k l m =
    let p = and_parts _ _ is in
    let q = and_parts _ _ p.1 in
    and_from (begins_lookup more) (begins_literal longer && are_in_four 0 longer) (k p.0)
    (and_from (begins_literal longer) (are_in_four 0 longer) (l q.0) (m q.1))

class_first : (classes : List Class) (c : Class) → begins_lookup classes ≡ true
    → begins_lookup (classes ++ c ∷ []) ≡ true
class_first [] c is = cc
class_first (b ∷ classes) c is = is

-- one class more
pub looked_class : (lookup : Bool) (classes : List Class) (c : Class) (acls : List Acl)
    → are_looked_up lookup classes acls ≡ true → are_looked_up lookup (classes ++ c ∷ []) acls ≡ true
looked_class lookup classes c acls is = three_as lookup classes (classes ++ c ∷ []) acls acls is (class_first classes c)
    (λ z. z) (λ z. z)

-- one acl more
pub looked_push : (lookup : Bool) (classes : List Class) (acls : List Acl) (a : Acl)
    → are_looked_up lookup classes acls ≡ true → (lookup && is_dst a.body) ≡ false
    → are_looked_up lookup classes (acls ++ a ∷ []) ≡ true
looked_push false classes acls a is other = refl
looked_push true classes acls a is other = three_as true classes classes acls (acls ++ a ∷ []) is (λ z. z)
    (literal_push acls (a ∷ [])) (λ four. fours_push 0 acls a four other)

-- four more
pub looked_more : (lookup : Bool) (classes : List Class) (acls : List Acl) (name : List ℕ) (values : List Range)
    → are_looked_up lookup classes acls ≡ true
    → are_looked_up lookup classes (acls ++ looked_up (length acls) name values) ≡ true
looked_more lookup classes acls name values is =
    three_as lookup classes classes acls (acls ++ looked_up (length acls) name values) is (λ z. z) (literal_push acls _)
    (λ four. fours_more 0 (length acls) acls name values four (omega arith))

-- further values
pub looked_leaf : (lookup : Bool) (classes : List Class) (acls : List Acl) (p : ℕ) (x : Acl) (more : Leaf)
    → slice_get acls p ≡ Some x → are_looked_up lookup classes acls ≡ true
    → are_looked_up lookup classes (set acls p (record x { body = with_leaf more x.body })) ≡ true
looked_leaf lookup classes acls p x more at is =
    three_as lookup classes classes acls (set acls p (record x { body = with_leaf more x.body })) is (λ z. z)
    (literal_set (with_leaf more) acls p x at (leaf_all more)) (fours_leaf 0 acls p x more at)

-- where three places stand before a place, and it isn't the first of four
last_at : (acls : List Acl) (p : ℕ) (x : Acl) → slice_get acls p ≡ Some x → is_last_of_four acls p ≡ false
    → (q : ℕ) (a : Acl) → slice_get acls q ≡ Some a → q + 3 ≡ p → (0 + q == 0) ≡ false
    → is_values_of (Some a) (Some x) ≡ false
last_at acls p x at other q a get e n =
    let low : nat_le 4 p ≡ true = grind (arith, nat_tests, e, n) in
    let back : p - 3 ≡ q = omega (arith, e) in
    let is : (nat_le 4 p && is_values_of (Some a) (Some x)) ≡ false =
    subst (λ o. (nat_le 4 p && is_values_of o (Some x)) ≡ false) get
    (subst (λ j. (nat_le 4 p && is_values_of (slice_get acls j) (Some x)) ≡ false) back
    (subst (λ o. (nat_le 4 p && is_values_of (slice_get acls (p - 3)) o) ≡ false) at other)) in
    grind (arith, is, low)

-- members of a group that may get them
pub looked_group : (f : Body → Body) (lookup : Bool) (classes : List Class) (acls : List Acl) (p : ℕ) (x : Acl)
    → slice_get acls p ≡ Some x → ((b : Body) → is_dst (f b) ≡ is_dst b)
    → ((b : Body) → is_asking b ≡ true → f b ≡ b) → ((b : Body) → holds_all b ≡ true → holds_all (f b) ≡ true)
    → takes_members lookup acls p ≡ true → are_looked_up lookup classes acls ≡ true
    → are_looked_up lookup classes (set acls p (record x { body = f x.body })) ≡ true
looked_group f false classes acls p x at kind asks all takes is = refl
looked_group f true classes acls p x at kind asks all takes is =
    let both = and_parts _ _ takes in
    let plain : has_blank x.name ≡ false =
    not_true (has_blank x.name) (subst (λ o. not (has_blank (name_at o)) ≡ true) at both.0) in
    three_as true classes classes acls (set acls p (record x { body = f x.body })) is (λ z. z)
    (literal_set f acls p x at all)
    (fours_group f 0 acls p x at kind asks plain (last_at acls p x at (not_true (is_last_of_four acls p) both.1)))
  where
    not_true : (b : Bool) → not b ≡ true → b ≡ false
    not_true b e = grind (arith, e)

-- what may get members still may, where the body of its acl changes
set_here : (acls : List Acl) (p : ℕ) (x y : Acl) → slice_get acls p ≡ Some x → slice_get (set acls p y) p ≡ Some y
set_here [] p x y at = cc
set_here (z ∷ acls) zero x y at = refl
set_here (z ∷ acls) (suc p) x y at = set_here acls p x y at

set_other : (acls : List Acl) (p q : ℕ) (y : Acl) → (q == p) ≡ false → slice_get (set acls p y) q ≡ slice_get acls q
set_other [] p q y n = refl
set_other (z ∷ acls) zero zero y n = absurd (cc)
set_other (z ∷ acls) zero (suc q) y n = refl
set_other (z ∷ acls) (suc p) zero y n = refl
set_other (z ∷ acls) (suc p) (suc q) y n = set_other acls p q y (grind (arith, n))

values_same : (o : Option Acl) (x y : Acl) → y.name ≡ x.name → is_values_of o (Some y) ≡ is_values_of o (Some x)
values_same None x y same = refl
values_same (Some l) x y same = ap (λ n. is_dst l.body && bytes_eq l.name (literal_name n)) same

last_set : (acls : List Acl) (p : ℕ) (x y : Acl) → slice_get acls p ≡ Some x → y.name ≡ x.name
    → is_last_of_four (set acls p y) p ≡ is_last_of_four acls p
last_set acls p x y at same = by (nat_le 4 p) refl
  where
    by : (b : Bool) → nat_le 4 p ≡ b
        → (nat_le 4 p && is_values_of (slice_get (set acls p y) (p - 3)) (slice_get (set acls p y) p))
        ≡ (nat_le 4 p && is_values_of (slice_get acls (p - 3)) (slice_get acls p))
    by false e = rw e refl
    by true e =
        let other : (p - 3 == p) ≡ false = grind (arith, nat_tests, e) in
        ap (λ o. nat_le 4 p && is_values_of (slice_get (set acls p y) (p - 3)) o) (set_here acls p x y at)
        ∙ ap (λ o. nat_le 4 p && is_values_of o (Some y)) (set_other acls p (p - 3) y other)
        ∙ ap (λ b. nat_le 4 p && b) (values_same (slice_get acls (p - 3)) x y same)
        ∙ ap (λ o. nat_le 4 p && is_values_of (slice_get acls (p - 3)) o) (sym at)

pub takes_set : (lookup : Bool) (acls : List Acl) (p : ℕ) (x y : Acl) → slice_get acls p ≡ Some x → y.name ≡ x.name
    → takes_members lookup (set acls p y) p ≡ takes_members lookup acls p
takes_set lookup acls p x y at same =
    ap (λ b. not lookup || (not (has_blank (name_at (slice_get (set acls p y) p))) && not b))
    (last_set acls p x y at same)
    ∙ ap (λ n. not lookup || (not (has_blank n) && not (is_last_of_four acls p)))
    (ap name_at (set_here acls p x y at) ∙ same ∙ ap name_at (sym at))

-- an acl of values is followed by three others
behind_three : (k : ℕ) (a : Acl) (acls : List Acl) → are_behind k a acls ≡ true → 3 ≤ length acls
behind_three k a [] is = cc
behind_three k a (b ∷ []) is = cc
behind_three k a (b ∷ c ∷ []) is = cc
behind_three k a (b ∷ c ∷ d ∷ acls) is = omega arith

four_fit : (i : ℕ) (acls : List Acl) (q : ℕ) (l : Acl) → are_in_four i acls ≡ true → slice_get acls q ≡ Some l
    → is_dst l.body ≡ true → (i + q == 0) ≡ false → q + 4 ≤ length acls
four_fit i [] q l four at dst n = absurd (cc)
four_fit i (z ∷ acls) zero l four at dst n =
    let same : z ≡ l = cc in
    let first : (i == 0) ≡ false = grind (arith, n) in
    let is : is_dst z.body ≡ true = rw same dst in
    let behind : are_behind i z acls ≡ true =
    head_behind (is_dst z.body) (i == 0) (are_behind i z acls) (are_in_four (suc i) acls) four is first in
    let three = behind_three i z acls behind in
    omega (arith, three)
  where
    head_behind : (x y z b : Bool) → ((not x || y || z) && b) ≡ true → x ≡ true → y ≡ false → z ≡ true
    head_behind x y z b is p q = grind (arith, is, p, q)
four_fit i (z ∷ acls) (suc q) l four at dst n =
    let rest : are_in_four (suc i) acls ≡ true =
    (and_parts (not (is_dst z.body) || i == 0 || are_behind i z acls) (are_in_four (suc i) acls) four).1 in
    let fit : q + 4 ≤ length acls = four_fit (suc i) acls q l rest at dst (grind arith) in
    omega (arith, fit)

-- the acls in front of the last, and the last
pub get_front : (acls : List Acl) (a : Acl) (q : ℕ) → suc q ≤ length acls
    → slice_get (acls ++ a ∷ []) q ≡ slice_get acls q
get_front [] a q l = absurd (omega (arith, l))
get_front (z ∷ acls) a zero l = refl
get_front (z ∷ acls) a (suc q) l = get_front acls a q (omega (arith, l))

pub get_end : (acls : List Acl) (a : Acl) → slice_get (acls ++ a ∷ []) (length acls) ≡ Some a
get_end [] a = refl
get_end (z ∷ acls) a = get_end acls a

none_before : (o : Option Acl) (a : Acl) → ((l : Acl) → o ≡ Some l → is_dst l.body ≡ false)
    → is_values_of o (Some a) ≡ false
none_before None a apart = refl
none_before (Some l) a apart = rw (apart l refl) refl

-- an acl that is put at the end is the last of no four
last_free : (acls : List Acl) (a : Acl) → are_in_four 0 acls ≡ true
    → is_last_of_four (acls ++ a ∷ []) (length acls) ≡ false
last_free acls a four = by (nat_le 4 (length acls)) refl
  where
    dst_by : (l : Acl) (b : Bool) → is_dst l.body ≡ b → nat_le 4 (length acls) ≡ true
        → slice_get acls (length acls - 3) ≡ Some l → is_dst l.body ≡ false
    dst_by l false e low at = e
    dst_by l true e low at = absurd
        (let fit = four_fit 0 acls (length acls - 3) l four at e (grind (arith, nat_tests, low)) in omega (arith, fit))

    by : (b : Bool) → nat_le 4 (length acls) ≡ b
        → (nat_le 4 (length acls)
        && is_values_of (slice_get (acls ++ a ∷ []) (length acls - 3)) (slice_get (acls ++ a ∷ []) (length acls)))
        ≡ false
    by false e = rw e refl
    by true e =
        let front : slice_get (acls ++ a ∷ []) (length acls - 3) ≡ slice_get acls (length acls - 3) =
        get_front acls a (length acls - 3) (grind (arith, nat_tests, e)) in
        let none : is_values_of (slice_get acls (length acls - 3)) (Some a) ≡ false =
        none_before (slice_get acls (length acls - 3)) a (λ l at. dst_by l (is_dst l.body) refl e at) in
        rw (e, front, get_end acls a) none

-- a group that is put at the end may get members
pub takes_new : (lookup : Bool) (classes : List Class) (acls : List Acl) (a : Acl)
    → are_looked_up lookup classes acls ≡ true → has_blank a.name ≡ false
    → takes_members lookup (acls ++ a ∷ []) (length acls) ≡ true
takes_new false classes acls a is word = refl
takes_new true classes acls a is word =
    let p = and_parts _ _ is in
    let q = and_parts _ _ p.1 in
    and_from (not (has_blank (name_at (slice_get (acls ++ a ∷ []) (length acls)))))
    (not (is_last_of_four (acls ++ a ∷ []) (length acls)))
    (ap (λ o. not (has_blank (name_at o))) (get_end acls a) ∙ ap not word) (ap not (last_free acls a q.1))

-- the acl at the place of a name has that name
least_by : (b : Bool) (n p : ℕ) (rest : Option ℕ) → (rest ≡ Some p → suc n ≤ p) → (if b then Some n else rest) ≡ Some p
    → n ≤ p
least_by true n p rest more e = let same : n ≡ p = cc in omega (arith, same)
least_by false n p rest more e = let above = more e in omega (arith, above)

place_least : (n : ℕ) (acls : List Acl) (q : List ℕ) (p : ℕ) → place_from (λ (a : Acl). a.name) n acls q ≡ Some p
    → n ≤ p
place_least n [] q p is = absurd (cc)
place_least n (a ∷ acls) q p is = least_by (bytes_eq a.name q) n p (place_from (λ (z : Acl). z.name) (suc n) acls q)
    (place_least (suc n) acls q p) is

placed_by : (b : Bool) (n k : ℕ) (a : Acl) (acls : List Acl) (q : List ℕ) → bytes_eq a.name q ≡ b
    → (if b then Some n else place_from (λ (z : Acl). z.name) (suc n) acls q) ≡ Some (n + k)
    → ((j : ℕ) → place_from (λ (z : Acl). z.name) (suc n) acls q ≡ Some (suc n + j) → name_at (slice_get acls j) ≡ q)
    → name_at (slice_get (a ∷ acls) k) ≡ q
placed_by true n zero a acls q t e rest = same_name a.name q t
placed_by true n (suc k) a acls q t e rest = absurd (let at : n ≡ n + suc k = cc in omega (arith, at))
placed_by false n zero a acls q t e rest = absurd
    (let more = place_least (suc n) acls q (n + zero) e in omega (arith, more))
placed_by false n (suc k) a acls q t e rest = rest k (e ∙ ap Some (omega arith))

placed_from : (n k : ℕ) (acls : List Acl) (q : List ℕ) → place_from (λ (a : Acl). a.name) n acls q ≡ Some (n + k)
    → name_at (slice_get acls k) ≡ q
placed_from n k [] q is = absurd (cc)
placed_from n k (a ∷ acls) q is = placed_by (bytes_eq a.name q) n k a acls q refl is (λ j. placed_from (suc n) j acls q)

pub placed_name : (acls : List Acl) (q : List ℕ) (p : ℕ) → place_from (λ (a : Acl). a.name) 0 acls q ≡ Some p
    → name_at (slice_get acls p) ≡ q
placed_name acls q p is = placed_from 0 p acls q (is ∙ ap Some (omega arith))
