-- The names of what is made for an acl of type `dst` are free for each word but `dst`.
use Rattle.std.proofs.Common.{◌≡◌, ℕ, List, [], ◌∷◌, ◌++◌, set, Bool, true, false, not, ◌||◌, ◌==◌, refl, sym, ap, subst, ◌∙◌, arith, Option, Some, None, is_none, is_some, slice_get, append_assoc, zero, suc}
use Rattle.std.proofs.lemmas.Bool.{and_from}
use Rattle.std.proofs.lemmas.List.{append_cancel_right}
use Rattle.std.proofs.lemmas.List.Folds.{list_all-append, list_any-append}
use Rattle.std.proofs.lemmas.Slice.Eq.{bytes_eq-Decides}
use Rattle.std.specs.List.{list_all, list_any}
use Rattle.std.specs.Prelude.{codes}
use Rattle.std.specs.Str.{bytes_eq}
use Rattle.sq_base.specs.declared.addresses.Range.{Range}
use Rattle.sq_conf.proofs.ListLaws.{all_from, first_true, second_true}
use Rattle.sq_conf.specs.MadeNames.{are_explained, is_explained, is_made, is_made_for, names_of}
use Rattle.sq_rules.proofs.LookupLaws.{literal_blank, lookup_blank, named_blank}
use Rattle.sq_rules.proofs.NameLaws.{place_tells}
use Rattle.sq_rules.specs.AclLines.{are_free}
use Rattle.sq_rules.specs.Building.{place_of}
use Rattle.sq_rules.specs.Configurations.{is_named}
use Rattle.sq_rules.specs.Lookups.{has_blank, literal_name, looked_up, lookup_name, named_name}
use Rattle.sq_rules.specs.declared.configs.Acl.{Acl}

wider : (a b c d : Bool) → (a || (b || c)) ≡ true → (a || (b || (c || d))) ≡ true
wider a b c d e = grind (arith, e)

-- a name that is explained stays so where more names stand
explained_wider : (names more : List (List ℕ)) (name : List ℕ) → is_explained names name ≡ true
    → is_explained (names ++ more) name ≡ true
explained_wider names more name is =
    rw (list_any-append (is_made_for name) names more)
    (wider (not (has_blank name)) (bytes_eq name (codes "dst literal")) (is_made names name) (is_made more name) is)

explained_more : (names more : List (List ℕ)) → are_explained names ≡ true
    → list_all (is_explained (names ++ more)) more ≡ true → are_explained (names ++ more) ≡ true
explained_more names more was new =
    list_all-append (is_explained (names ++ more)) names more
    ∙ and_from (list_all (is_explained (names ++ more)) names) (list_all (is_explained (names ++ more)) more)
    (all_from (is_explained names) (is_explained (names ++ more)) names (explained_wider names more) was) new

word_explained : (names : List (List ℕ)) (name : List ℕ) → has_blank name ≡ false → is_explained names name ≡ true
word_explained names name word = ap (λ b. not b || (bytes_eq name (codes "dst literal") || is_made names name)) word

map_push : (acls more : List Acl) → names_of (acls ++ more) ≡ names_of acls ++ names_of more
map_push [] more = refl
map_push (a ∷ acls) more = ap (λ l. a.name ∷ l) (map_push acls more)

-- one acl more, whose name holds no blank
pub explained_push : (acls : List Acl) (a : Acl) → are_explained (names_of acls) ≡ true → has_blank a.name ≡ false
    → are_explained (names_of (acls ++ a ∷ [])) ≡ true
explained_push acls a was word =
    ap are_explained (map_push acls (a ∷ []))
    ∙ explained_more (names_of acls) (a.name ∷ []) was
    (and_from (is_explained (names_of acls ++ a.name ∷ []) a.name) true
    (word_explained (names_of acls ++ a.name ∷ []) a.name word) refl)

any_behind : (p : List ℕ → Bool) (front ends : List (List ℕ)) → list_any p ends ≡ true
    → list_any p (front ++ ends) ≡ true
any_behind p front ends e = let whole = list_any-append p front ends in grind (arith, whole, e)

fourth : (p : List ℕ → Bool) (a b c d : List ℕ) → p d ≡ true → list_any p (a ∷ b ∷ c ∷ d ∷ []) ≡ true
fourth p a b c d e = grind (arith, e)

made_explained : (names : List (List ℕ)) (name : List ℕ) → is_made names name ≡ true → is_explained names name ≡ true
made_explained names name is = grind (arith, is)

same : (n : List ℕ) → bytes_eq n n ≡ true
same n = (bytes_eq-Decides n n).1 refl

-- the four acls of one more, whose name holds no blank
pub explained_four : (acls : List Acl) (k : ℕ) (n : List ℕ) (values : List Range) → are_explained (names_of acls) ≡ true
    → has_blank n ≡ false → are_explained (names_of (acls ++ looked_up k n values)) ≡ true
explained_four acls k n values was word =
    let l = literal_name n in
    let u = lookup_name n in
    let m = named_name n in
    let four = l ∷ u ∷ m ∷ n ∷ [] in
    let whole = names_of acls ++ four in
    let one : is_made_for l n ≡ true = let eq = same l in grind (arith, eq) in
    let two : is_made_for u n ≡ true = let eq = same u in grind (arith, eq) in
    let three : is_made_for m n ≡ true = let eq = same m in grind (arith, eq) in
    ap are_explained (map_push acls (looked_up k n values))
    ∙ explained_more (names_of acls) four was
    (and_from (is_explained whole l) _
    (made_explained whole l (any_behind (is_made_for l) (names_of acls) four (fourth (is_made_for l) l u m n one)))
    (and_from (is_explained whole u) _
    (made_explained whole u (any_behind (is_made_for u) (names_of acls) four (fourth (is_made_for u) l u m n two)))
    (and_from (is_explained whole m) _
    (made_explained whole m (any_behind (is_made_for m) (names_of acls) four (fourth (is_made_for m) l u m n three)))
    (and_from (is_explained whole n) true (word_explained whole n word) refl))))

-- the names stay where an acl is changed
pub names_set : (acls : List Acl) (p : ℕ) (x y : Acl) → slice_get acls p ≡ Some x → y.name ≡ x.name
    → names_of (set acls p y) ≡ names_of acls
names_set [] p x y is named = refl
names_set (z ∷ acls) zero x y is named = let eq : y.name ≡ z.name = cc in ap (λ n. n ∷ names_of acls) eq
names_set (z ∷ acls) (suc p) x y is named = ap (λ l. z.name ∷ l) (names_set acls p x y is named)

-- the last byte tells two names apart
last_same : (u v : List ℕ) (a b : ℕ) → u ++ a ∷ [] ≡ v ++ b ∷ [] → a ≡ b
last_same [] [] a b e = cc
last_same [] (y ∷ []) a b e = cc
last_same [] (y ∷ z ∷ v) a b e = cc
last_same (x ∷ []) [] a b e = cc
last_same (x ∷ w ∷ u) [] a b e = cc
last_same (x ∷ u) (y ∷ v) a b e = last_same u v a b (cc)

false_by : (t : Bool) → (t ≡ true → ⊥) → t ≡ false
false_by true never = absurd (never refl)
false_by false never = refl

first_false : (a b : Bool) → (a || b) ≡ false → a ≡ false
first_false a b e = grind (arith, e)

second_false : (a b : Bool) → (a || b) ≡ false → b ≡ false
second_false a b e = grind (arith, e)

differ : (t : Bool) → t ≡ false → t ≡ true → ⊥
differ true e f = cc
differ false e f = cc

apart : (u v : List ℕ) → (u ≡ v → ⊥) → bytes_eq u v ≡ false
apart u v never = false_by (bytes_eq u v) (λ e. never ((bytes_eq-Decides u v).0 e))

numbers_apart : (a b : ℕ) → (a == b) ≡ false → a ≡ b → ⊥
numbers_apart a b other e = let same : (a == b) ≡ true = grind (arith, e) in differ (a == b) other same

literal_split : (n : List ℕ) → literal_name n ≡ (n ++ codes " litera") ++ 108 ∷ []
literal_split n = sym (append_assoc n (codes " litera") (108 ∷ []))

lookup_split : (n : List ℕ) → lookup_name n ≡ (n ++ codes " looku") ++ 112 ∷ []
lookup_split n = sym (append_assoc n (codes " looku") (112 ∷ []))

named_split : (n : List ℕ) → named_name n ≡ (n ++ codes " name") ++ 100 ∷ []
named_split n = sym (append_assoc n (codes " name") (100 ∷ []))

ends_apart : (u v x y : List ℕ) (a b : ℕ) → u ≡ x ++ a ∷ [] → v ≡ y ++ b ∷ [] → (a == b) ≡ false
    → bytes_eq u v ≡ false
ends_apart u v x y a b one two other = apart u v (λ e. numbers_apart a b other (last_same x y a b (sym one ∙ e ∙ two)))

-- the names that are made for two names are apart as these are
begin_apart : (n x e : List ℕ) → bytes_eq x n ≡ false → bytes_eq (n ++ e) (x ++ e) ≡ false
begin_apart n x e other = apart (n ++ e) (x ++ e)
    (λ eq. differ (bytes_eq x n) other ((bytes_eq-Decides x n).1 (sym (append_cancel_right n x e eq))))

none_made : (a b c d : Bool) → a ≡ false → b ≡ false → c ≡ false → d ≡ false → ((a || (b || c)) || d) ≡ false
none_made a b c d e f g h = rw (e, f, g, h) refl

module _ (n : List ℕ) where
  literal_unmade : (names : List (List ℕ)) → list_any (λ x. bytes_eq x n) names ≡ false
      → is_made names (literal_name n) ≡ false
  literal_unmade [] free = refl
  literal_unmade (x ∷ names) free =
      none_made (bytes_eq (literal_name n) (literal_name x)) (bytes_eq (literal_name n) (lookup_name x))
      (bytes_eq (literal_name n) (named_name x)) (is_made names (literal_name n))
      (begin_apart n x (codes " literal") (first_false (bytes_eq x n) _ free))
      (ends_apart _ _ _ _ 108 112 (literal_split n) (lookup_split x) refl)
      (ends_apart _ _ _ _ 108 100 (literal_split n) (named_split x) refl)
      (literal_unmade names (second_false (bytes_eq x n) _ free))

  lookup_unmade : (names : List (List ℕ)) → list_any (λ x. bytes_eq x n) names ≡ false
      → is_made names (lookup_name n) ≡ false
  lookup_unmade [] free = refl
  lookup_unmade (x ∷ names) free =
      none_made (bytes_eq (lookup_name n) (literal_name x)) (bytes_eq (lookup_name n) (lookup_name x))
      (bytes_eq (lookup_name n) (named_name x)) (is_made names (lookup_name n))
      (ends_apart _ _ _ _ 112 108 (lookup_split n) (literal_split x) refl)
      (begin_apart n x (codes " lookup") (first_false (bytes_eq x n) _ free))
      (ends_apart _ _ _ _ 112 100 (lookup_split n) (named_split x) refl)
      (lookup_unmade names (second_false (bytes_eq x n) _ free))

  named_unmade : (names : List (List ℕ)) → list_any (λ x. bytes_eq x n) names ≡ false
      → is_made names (named_name n) ≡ false
  named_unmade [] free = refl
  named_unmade (x ∷ names) free =
      none_made (bytes_eq (named_name n) (literal_name x)) (bytes_eq (named_name n) (lookup_name x))
      (bytes_eq (named_name n) (named_name x)) (is_made names (named_name n))
      (ends_apart _ _ _ _ 100 108 (named_split n) (literal_split x) refl)
      (ends_apart _ _ _ _ 100 112 (named_split n) (lookup_split x) refl)
      (begin_apart n x (codes " named") (first_false (bytes_eq x n) _ free))
      (named_unmade names (second_false (bytes_eq x n) _ free))

-- a name with a blank that is not explained is none of explained ones
unnamed : (all names : List (List ℕ)) (q : List ℕ) → list_all (is_explained all) names ≡ true → has_blank q ≡ true
    → bytes_eq q (codes "dst literal") ≡ false → is_made all q ≡ false → list_any (λ x. bytes_eq x q) names ≡ false
unnamed all [] q known blank other made = refl
unnamed all (x ∷ names) q known blank other made =
    let none : is_explained all q ≡ false =
    ap (λ b. not b || (bytes_eq q (codes "dst literal") || is_made all q)) blank
    ∙ ap (λ b. b || is_made all q) other ∙ made in
    let first : bytes_eq x q ≡ false =
    apart x q (λ e. differ (is_explained all q) none
    (subst (λ z. is_explained all z ≡ true) e (first_true (is_explained all x) _ known))) in
    ap (λ b. b || list_any (λ z. bytes_eq z q) names) first
    ∙ unnamed all names q (second_true (is_explained all x) _ known) blank other made

named_by : (acls : List Acl) (q : List ℕ)
    → is_named (λ (a : Acl). a.name) acls q ≡ list_any (λ x. bytes_eq x q) (names_of acls)
named_by [] q = refl
named_by (a ∷ acls) q = ap (λ b. bytes_eq a.name q || b) (named_by acls q)

none_of : (o : Option ℕ) → is_some o ≡ false → is_none o ≡ true
none_of None e = refl
none_of (Some p) e = cc

free_of : (acls : List Acl) (q : List ℕ) → are_explained (names_of acls) ≡ true → has_blank q ≡ true
    → bytes_eq q (codes "dst literal") ≡ false → is_made (names_of acls) q ≡ false → is_none (place_of acls q) ≡ true
free_of acls q known blank other made =
    none_of (place_of acls q)
    (place_tells (λ (a : Acl). a.name) 0 acls q ∙ named_by acls q
    ∙ unnamed (names_of acls) (names_of acls) q known blank other made)

-- where no acl has the name, and it is not `dst`, what would be made for it is free
pub free_but_dst : (acls : List Acl) (n : List ℕ) → are_explained (names_of acls) ≡ true → place_of acls n ≡ None
    → bytes_eq n (codes "dst") ≡ false → are_free acls n ≡ true
free_but_dst acls n known free other =
    let new : list_any (λ x. bytes_eq x n) (names_of acls) ≡ false =
    sym (named_by acls n) ∙ sym (place_tells (λ (a : Acl). a.name) 0 acls n) ∙ ap is_some free in
    and_from (is_none (place_of acls (literal_name n))) _
    (free_of acls (literal_name n) known (literal_blank n) (literal_other n other)
    (literal_unmade n (names_of acls) new))
    (and_from (is_none (place_of acls (lookup_name n))) (is_none (place_of acls (named_name n)))
    (free_of acls (lookup_name n) known (lookup_blank n)
    (ends_apart (lookup_name n) (codes "dst literal") (n ++ codes " looku") (codes "dst litera") 112 108
    (lookup_split n)
    refl refl) (lookup_unmade n (names_of acls) new))
    (free_of acls (named_name n) known (named_blank n)
    (ends_apart (named_name n) (codes "dst literal") (n ++ codes " name") (codes "dst litera") 100 108 (named_split n)
    refl refl) (named_unmade n (names_of acls) new)))
  where
    literal_other : (n : List ℕ) → bytes_eq n (codes "dst") ≡ false
        → bytes_eq (literal_name n) (codes "dst literal") ≡ false
    literal_other n other = apart (literal_name n) (codes "dst literal")
        (λ e. differ (bytes_eq n (codes "dst")) other
        ((bytes_eq-Decides n (codes "dst")).1 (append_cancel_right n (codes "dst") (codes " literal") e)))
