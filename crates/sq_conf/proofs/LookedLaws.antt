-- The four acls of one of type `dst` behind others: names stay their own, and none nests too deep.
use Rattle.std.proofs.Common.{◌≡◌, ℕ, suc, max, List, [], ◌∷◌, ◌++◌, length, true, refl, ap, subst, Option, Some, None, is_none}
use Rattle.std.proofs.lemmas.Bool.{and_parts}
use Rattle.std.specs.Prelude.{codes}
use Rattle.sq_base.specs.declared.addresses.Range.{Range}
use Rattle.sq_conf.proofs.SoundLaws.{four_behind}
use Rattle.sq_rules.proofs.AclLaws.{shallow_push}
use Rattle.sq_rules.proofs.FourLaws.{named_deep, named_index, values_flat, with_one, with_three, with_two}
use Rattle.sq_rules.proofs.LookupLaws.{end_apart, ends_apart, free_push}
use Rattle.sq_rules.proofs.NameLaws.{own_push}
use Rattle.sq_rules.specs.AclLines.{are_free}
use Rattle.sq_rules.specs.Building.{place_of}
use Rattle.sq_rules.specs.Configurations.{are_shallow, are_unique, nesting_of, nestings}
use Rattle.sq_rules.specs.Lookups.{asking_acl, begins_literal, either_acl, literal_name, looked_up, lookup_name, named_acl, named_name, values_acl}
use Rattle.sq_rules.specs.Tables.{allowed}
use Rattle.sq_rules.specs.declared.configs.Acl.{Acl}

abbrev named : Acl → List ℕ
named a = a.name

none_is : (o : Option ℕ) → is_none o ≡ true → o ≡ None
none_is None e = refl
none_is (Some i) e = cc

-- names of their own
pub own_more : (acls : List Acl) (n : List ℕ) (v : List Range) → are_unique acls ≡ true → place_of acls n ≡ None
    → are_free acls n ≡ true → are_unique (acls ++ looked_up (length acls) n v) ≡ true
own_more acls n v own free made =
    let a = values_acl n v in
    let b = asking_acl n in
    let c = named_acl (length acls) n in
    let e = either_acl (length acls) n in
    let parts = and_parts _ _ made in
    let others = and_parts _ _ parts.1 in
    let literal : place_of acls (literal_name n) ≡ None = none_is _ parts.0 in
    let lookup : place_of acls (lookup_name n) ≡ None = none_is _ others.0 in
    let third : place_of acls (named_name n) ≡ None = none_is _ others.1 in
    let one : are_unique (with_one acls n v) ≡ true = own_push named acls (with_one acls n v) a own literal refl in
    let two : are_unique (with_two acls n v) ≡ true =
    own_push named (with_one acls n v) (with_two acls n v) b one
    (free_push named acls a (lookup_name n) lookup (ends_apart n (codes " literal") (codes " lookup") refl)) refl in
    let three : are_unique (with_three acls n v) ≡ true =
    own_push named (with_two acls n v) (with_three acls n v) c two
    (free_push named (with_one acls n v) b (named_name n)
    (free_push named acls a (named_name n) third (ends_apart n (codes " literal") (codes " named") refl))
    (ends_apart n (codes " lookup") (codes " named") refl)) refl in
    subst (λ l. are_unique l ≡ true) (four_behind acls a b c e)
    (own_push named (with_three acls n v) (with_three acls n v ++ e ∷ []) e three
    (free_push named (with_two acls n v) c n
    (free_push named (with_one acls n v) b n (free_push named acls a n free (end_apart n (codes "literal") 32))
    (end_apart n (codes "lookup") 32)) (end_apart n (codes "named") 32)) refl)

-- how deep they nest
two_deep : (i j : ℕ) → i ≡ 0 → j ≡ 1 → suc (max i (max j 0)) ≡ 2
two_deep i j e f = rw (e, f) refl

-- none nests too deep
pub shallow_more : (acls : List Acl) (n : List ℕ) (v : List Range) → are_shallow acls ≡ true
    → begins_literal acls ≡ true → are_shallow (acls ++ looked_up (length acls) n v) ≡ true
shallow_more acls n v shallow is =
    let a = values_acl n v in
    let b = asking_acl n in
    let c = named_acl (length acls) n in
    let e = either_acl (length acls) n in
    let one : are_shallow (with_one acls n v) ≡ true =
    shallow_push (nestings acls) acls (with_one acls n v) a 0 shallow refl refl refl in
    let two : are_shallow (with_two acls n v) ≡ true =
    shallow_push (nestings (with_one acls n v)) (with_one acls n v) (with_two acls n v) b 0 one refl refl refl in
    let third : allowed (nesting_of (nestings (with_two acls n v)) c.body) ≡ Some 1 =
    ap allowed (named_deep acls n v is) in
    let three : are_shallow (with_three acls n v) ≡ true =
    shallow_push (nestings (with_two acls n v)) (with_two acls n v) (with_three acls n v) c 1 two refl third refl in
    let last : allowed (nesting_of (nestings (with_three acls n v)) e.body) ≡ Some 2 =
    ap allowed (two_deep _ _ (values_flat acls n v) (named_index acls n v is)) in
    subst (λ l. are_shallow l ≡ true) (four_behind acls a b c e)
    (shallow_push (nestings (with_three acls n v)) (with_three acls n v) (with_three acls n v ++ e ∷ []) e 2 three refl
    last refl)
