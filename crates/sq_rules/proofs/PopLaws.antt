-- What the tables know of the acls without the last one.
use Rattle.std.proofs.Common.{◌≡◌, ℕ, ◌+◌, ◌-◌, suc, zero, List, [], ◌∷◌, ◌++◌, length, take, Bool, true, false, ◌&&◌, ◌||◌, not, cond, refl, sym, ap, subst, ◌∙◌, arith, Option, Some, None, Result, Ok, Err, OnErr, if◌then◌else◌, nat_le}
use Rattle.std.proofs.lemmas.Bool.{and_parts}
use Rattle.std.proofs.lemmas.List.{length_push}
use Rattle.std.proofs.lemmas.List.Folds.{list_all-append, list_any-append}
use Rattle.std.specs.List.{list_all}
use Rattle.std.specs.Option.{option_or}
use Rattle.std.specs.Str.{bytes_eq}
use Rattle.sq_rules.proofs.AclLaws.{nestings_longer, slow_longer}
use Rattle.sq_rules.proofs.LookupLaws.{unmade_push}
use Rattle.sq_rules.proofs.NameLaws.{own_free, place_push, same_place}
use Rattle.sq_rules.specs.Configurations.{have_own_names, is_named, is_slow, nesting_of, nestings, place_from, slow_ones}
use Rattle.sq_rules.specs.Limits.{nesting_limit}
use Rattle.sq_rules.specs.Lookups.{has_blank, unmade_acls}
use Rattle.sq_rules.specs.Names.{place_at}
use Rattle.sq_rules.specs.Tables.{KnowsAcls}
use Rattle.sq_rules.specs.declared.configs.Acl.{Acl}

take_end : {A : Type 0} (xs : List A) (y : A) (n : ℕ) → n ≡ length xs → take n (xs ++ y ∷ []) ≡ xs
take_end [] y zero e = refl
take_end [] y (suc n) e = cc
take_end (x ∷ xs) y zero e = cc
take_end (x ∷ xs) y (suc n) e = ap (λ l. x ∷ l) (take_end xs y n (omega (arith, e)))

-- a list without its last element
pub last_off : {A : Type 0} (xs less whole : List A) (y : A) → whole ≡ xs ++ y ∷ []
    → less ≡ take (length whole - 1) whole → less ≡ xs
last_off xs less whole y is off =
    off ∙ ap (λ l. take (length l - 1) l) is
    ∙ take_end xs y (length (xs ++ y ∷ []) - 1) (omega (arith, length_push xs y))

-- two that were put at the end are taken off again
pub two_off : {V E : Type 0} (r : Result V E) (acls now one none : List Acl) (a b : Acl)
    → OnErr r (now ≡ (acls ++ a ∷ []) ++ b ∷ []) → one ≡ take (length now - 1) now → none ≡ take (length one - 1) one
    → OnErr r (none ≡ acls)
two_off (Ok v) acls now one none a b is off off_too = tt
two_off (Err e) acls now one none a b is off off_too = last_off acls none one a
    (last_off (acls ++ a ∷ []) one now b is off) off_too

without : (b : Bool) (k : ℕ) (o p : Option ℕ) → p ≡ option_or o (if b then Some k else None)
    → (b ≡ true → o ≡ None) → cond b None p ≡ o
without true k o p is none = sym (none refl)
without false k None p is none = is
without false k (Some i) p is none = is

less_named : (a b o p : Bool) → (not (a || b) && o) ≡ true → (o ≡ true → p ≡ true) → (not a && p) ≡ true
less_named true b o p own k = cc
less_named false true o p own k = cc
less_named false false o p own k = k own

-- names of their own stay that without the last
own_before : {A : Type 0} (f : A → List ℕ) (xs : List A) (y : A) → have_own_names f (xs ++ y ∷ []) ≡ true
    → have_own_names f xs ≡ true
own_before f [] y own = refl
own_before f (x ∷ xs) y own =
    less_named (is_named f xs (f x)) (is_named f (y ∷ []) (f x)) (have_own_names f (xs ++ y ∷ [])) (have_own_names f xs)
    (rw (← list_any-append (λ a. bytes_eq (f a) (f x)) xs (y ∷ [])) own) (own_before f xs y)

-- a test that holds of each holds of each but the last
all_before : {A : Type 0} (p : A → Bool) (xs : List A) (y : A) → list_all p (xs ++ y ∷ []) ≡ true → list_all p xs ≡ true
all_before p xs y all = (and_parts (list_all p xs) (p y && true) (sym (list_all-append p xs (y ∷ [])) ∙ all)).0

less_by : (count m k : ℕ) → count ≡ m + k → count - k ≡ m
less_by count m k e = omega (arith, e)

-- what is known of some acls is known of those before the last
KnowsAcls_front : (front : List Acl) (x : Acl) (places after : List (List ℕ × ℕ)) (depths less : List ℕ)
    (slow fewer : List Bool) (count k : ℕ) → KnowsAcls (front ++ x ∷ []) places depths slow count
    → less ≡ take (length depths - 1) depths → fewer ≡ take (length slow - 1) slow
    → ((q : List ℕ) → place_at after q ≡ cond (bytes_eq x.name q) None (place_at places q))
    → k ≡ (if has_blank x.name then 0 else 1) → KnowsAcls front after less fewer (count - k)
KnowsAcls_front front x places after depths less slow fewer count k knows off off_slow noted one = record {
  places_are = λ q. noted q
      ∙ without (bytes_eq x.name q) (length front) (place_from (λ (a : Acl). a.name) 0 front q) (place_at places q)
      (knows.places_are q ∙ place_push (λ (a : Acl). a.name) 0 (length front) front x q (omega arith))
      (λ same. same_place (λ (a : Acl). a.name) 0 front x.name q same
      (own_free (λ (a : Acl). a.name) 0 front [] x knows.unique));
  depths_are = last_off (nestings front) less depths (nesting_of (nestings front) x.body)
      (knows.depths_are ∙ nestings_longer [] front x) off;
  slow_are = last_off (slow_ones front) fewer slow (is_slow (slow_ones front) x.body)
      (knows.slow_are ∙ slow_longer [] front x) off_slow;
  count_is = less_by count (unmade_acls front) k
      (knows.count_is ∙ unmade_push (λ (a : Acl). a.name) front x ∙ ap (λ n. unmade_acls front + n) (sym one));
  unique = own_before (λ (a : Acl). a.name) front x knows.unique;
  shallow = all_before (λ n. nat_le n nesting_limit) (nestings front) (nesting_of (nestings front) x.body)
      (subst (λ l. list_all (λ n. nat_le n nesting_limit) l ≡ true) (nestings_longer [] front x) knows.shallow);
}

pub KnowsAcls_pop : (old front : List Acl) (x : Acl) (places after : List (List ℕ × ℕ)) (depths less : List ℕ)
    (slow fewer : List Bool) (count k : ℕ) → KnowsAcls old places depths slow count → old ≡ front ++ x ∷ []
    → less ≡ take (length depths - 1) depths → fewer ≡ take (length slow - 1) slow
    → ((q : List ℕ) → place_at after q ≡ cond (bytes_eq x.name q) None (place_at places q))
    → k ≡ (if has_blank x.name then 0 else 1) → KnowsAcls front after less fewer (count - k)
KnowsAcls_pop old front x places after depths less slow fewer count k knows is =
    KnowsAcls_front front x places after depths less slow fewer count k
    (subst (λ l. KnowsAcls l places depths slow count) is knows)
