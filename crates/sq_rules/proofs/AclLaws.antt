-- Nestings, slow acls and members of a list that has one acl more at the end.
use Rattle.std.proofs.Common.{◌≡◌, ℕ, ◌+◌, suc, List, [], ◌∷◌, ◌++◌, length, Bool, true, refl, sym, arith, Some, nat_le}
use Rattle.std.proofs.lemmas.Bool.{and_from}
use Rattle.std.proofs.lemmas.Bool.Decides.{nat_tests}
use Rattle.sq_base.proofs.CommonLaws.{and_then_so}
use Rattle.sq_rules.proofs.ListLaws.{all_push}
use Rattle.sq_rules.specs.Configurations.{are_known_bodies, are_shallow, is_known_body, is_slow, nesting_of, nestings, nestings_on, slow_on, slow_ones}
use Rattle.sq_rules.specs.Limits.{nesting_limit}
use Rattle.sq_rules.specs.Tables.{allowed}
use Rattle.sq_rules.specs.declared.configs.Acl.{Acl}

-- the nestings, where one acl more stands at the end
pub nestings_longer : (before : List ℕ) (acls : List Acl) (a : Acl)
    → nestings_on before (acls ++ a ∷ []) ≡ nestings_on before acls ++ nesting_of (nestings_on before acls) a.body ∷ []
nestings_longer before [] a = refl
nestings_longer before (b ∷ acls) a = nestings_longer (before ++ nesting_of before b.body ∷ []) acls a

pub slow_longer : (before : List Bool) (acls : List Acl) (a : Acl)
    → slow_on before (acls ++ a ∷ []) ≡ slow_on before acls ++ is_slow (slow_on before acls) a.body ∷ []
slow_longer before [] a = refl
slow_longer before (b ∷ acls) a = slow_longer (before ++ is_slow before b.body ∷ []) acls a

-- the slow acls, where one acl more stands at the end
pub slow_push : (old new : List Bool) (acls longer : List Acl) (a : Acl) (s : Bool) → old ≡ slow_ones acls
    → new ≡ old ++ s ∷ [] → s ≡ is_slow old a.body →
    longer ≡ acls ++ a ∷ [] → new ≡ slow_ones longer
slow_push old new acls longer a s known noted is more = rw (noted, is, known, more) (sym (slow_longer [] acls a))

-- what is allowed is the nesting itself, which is none too deep
pub allowed_is : (m n : ℕ) → allowed m ≡ Some n → (n ≡ m) × (nat_le n nesting_limit ≡ true)
allowed_is m n e = grind (arith, nat_tests, e)

-- the nestings, where one acl more stands at the end
pub depths_push : (old new : List ℕ) (acls longer : List Acl) (a : Acl) (n : ℕ) → old ≡ nestings acls
    → new ≡ old ++ n ∷ [] → allowed (nesting_of old a.body) ≡ Some n →
    longer ≡ acls ++ a ∷ [] → new ≡ nestings longer
depths_push old new acls longer a n known noted is more = rw (
  noted,
  (allowed_is (nesting_of old a.body) n is).0,
  known,
  more,
) (sym (nestings_longer [] acls a))

-- none nests too deep, where one acl more stands at the end that does not
pub shallow_push : (old : List ℕ) (acls longer : List Acl) (a : Acl) (n : ℕ) → are_shallow acls ≡ true
    → old ≡ nestings acls → allowed (nesting_of old a.body) ≡ Some n →
    longer ≡ acls ++ a ∷ [] → are_shallow longer ≡ true
shallow_push old acls longer a n shallow known is more =
    let one = allowed_is (nesting_of old a.body) n is in
    let last : nat_le (nesting_of (nestings acls) a.body) nesting_limit ≡ true = rw (← known, ← one.0) one.1 in
    rw (more, nestings_longer [] acls a)
    (all_push (λ m. nat_le m nesting_limit) (nestings acls) (nesting_of (nestings acls) a.body) shallow last)

-- an acl that names what there is before it may stand behind others
pub known_longer : (classes place k : ℕ) (acls : List Acl) (a : Acl) → are_known_bodies classes place acls ≡ true
    → place + length acls ≡ k →
    is_known_body classes k a.body ≡ true → are_known_bodies classes place (acls ++ a ∷ []) ≡ true
known_longer classes place k [] a known e one = let same : place ≡ k = omega arith in
    rw same (and_from (is_known_body classes k a.body) true one refl)
known_longer classes place k (b ∷ acls) a known e one =
    and_then_so (is_known_body classes place b.body) (are_known_bodies classes (suc place) acls)
    (are_known_bodies classes (suc place) (acls ++ a ∷ [])) known
    (λ rest. known_longer classes (suc place) k acls a rest (omega arith) one)
