-- Where names are looked up, what a word of a file names is never what is made for that; and what would be made for a
-- new acl of any name but `dst` is free.
use Rattle.std.proofs.Common.{◌≡◌, ℕ, ◌+◌, List, [], ◌∷◌, Bool, true, false, ◌||◌, ◌==◌, refl, ap, subst, ◌∙◌, arith, Option, Some, None, Result, Ok, Err, slice_get, zero, suc, if◌then◌else◌}
use Rattle.std.proofs.lemmas.Slice.Eq.{bytes_eq-Decides}
use Rattle.std.specs.Prelude.{codes}
use Rattle.std.specs.Str.{bytes_eq}
use Rattle.sq_base.specs.Bytes.{bang}
use Rattle.sq_base.specs.declared.config_lines.Line.{Line}
use Rattle.sq_conf.proofs.FreeLaws.{free_but_dst}
use Rattle.sq_conf.proofs.StepLaws.{of_given}
use Rattle.sq_conf.proofs.TextLaws.{all_keep}
use Rattle.sq_conf.proofs.WholeLaws.{IsWhole}
use Rattle.sq_rules.proofs.LookupLaws.{placed_name}
use Rattle.sq_rules.specs.AclLines.{are_free, is_negated, known_class, known_term, term_from, term_name}
use Rattle.sq_rules.specs.AclValues.{is_unquoted}
use Rattle.sq_rules.specs.Building.{class_place, place_of}
use Rattle.sq_rules.specs.Classes.{Class}
use Rattle.sq_rules.specs.Configurations.{place_from}
use Rattle.sq_rules.specs.ConfText.{all_read}
use Rattle.sq_rules.specs.Drafts.{Drafts}
use Rattle.sq_rules.specs.Lookups.{has_blank, name_at}
use Rattle.sq_rules.specs.Steps.{needed, unless}
use Rattle.sq_rules.specs.declared.configs.Acl.{Acl}
use Rattle.sq_rules.specs.declared.configs.Term.{Term}
use Rattle.sq_rules.specs.declared.kinds.Kind.{Kind}
use Rattle.sq_rules.specs.declared.kinds.Kind.TheVariants.{BadValue, UndefinedClass}

-- what would be made for a new acl is free where lines were read, so only a list `dst` is ever refused for that
pub free_where_read : (ls : List Line) (d : Drafts) (name : List ℕ) → all_read ls ≡ Ok d → place_of d.acls name ≡ None
    → bytes_eq name (codes "dst") ≡ false → are_free d.acls name ≡ true
free_where_read ls d name read free other =
    free_but_dst d.acls name (of_given IsWhole (all_read ls) d (all_keep ls) read).made free other

second_no : (a b : Bool) → (a || b) ≡ false → b ≡ false
second_no a b e = grind (arith, e)

-- the name of a TERM holds no blank where its word holds none
term_word : (w : List ℕ) → has_blank w ≡ false → has_blank (term_name w) ≡ false
term_word [] word = refl
term_word (b ∷ bs) word = by (b == bang)
  where
    by : (t : Bool) → has_blank (if t then bs else (b ∷ bs)) ≡ false
    by true = second_no _ (has_blank bs) word
    by false = word

-- the acl that a TERM or a member names is none that is made
pub term_stated : (acls : List Acl) (w : List ℕ) (t : Term) → has_blank w ≡ false → known_term acls w ≡ Ok t
    → has_blank (name_at (slice_get acls t.acl)) ≡ false
unfolding known_term
term_stated acls w t word reads = by (place_of acls (term_name w)) refl reads
  where
    by : (o : Option ℕ) → place_of acls (term_name w) ≡ o → term_from (is_negated w) o ≡ Ok t
        → has_blank (name_at (slice_get acls t.acl)) ≡ false
    by None is e = absurd (cc)
    by (Some p) is e =
        let same : p ≡ t.acl = ap place_in e in
        subst (λ k. has_blank (name_at (slice_get acls k)) ≡ false) same
        (ap has_blank (placed_name acls (term_name w) p is) ∙ term_word w word)
      where
        place_in : Result Term Kind → ℕ
        place_in (Ok u) = u.acl
        place_in (Err k) = p

-- what stands at the place of a name has it
record IsPlaced {A : Type 0} (f : A → List ℕ) (n p : ℕ) (xs : List A) (q : List ℕ) : Type 0 where
  behind : ℕ
  here : p ≡ n + behind
  one : A
  there : slice_get xs behind ≡ Some one
  named : f one ≡ q

placed : {A : Type 0} (f : A → List ℕ) (n p : ℕ) (xs : List A) (q : List ℕ) → place_from f n xs q ≡ Some p
    → IsPlaced f n p xs q
placed f n p [] q is = absurd (cc)
placed f n p (x ∷ xs) q is = by (bytes_eq (f x) q) refl is (placed f (suc n) p xs q)
  where
    by : (t : Bool) → bytes_eq (f x) q ≡ t → (if t then Some n else place_from f (suc n) xs q) ≡ Some p
        → (place_from f (suc n) xs q ≡ Some p → IsPlaced f (suc n) p xs q) → IsPlaced f n p (x ∷ xs) q
    by true t e later =
        let same : n ≡ p = cc in
        record {
          behind = zero;
          here = omega (arith, same);
          one = x;
          there = refl;
          named = (bytes_eq-Decides (f x) q).0 t;
        }
    by false t e later =
        let r = later e in
        record { behind = suc r.behind; here = omega (arith, r.here); one = r.one; there = r.there; named = r.named }

-- the class that a list names is not the one that is made
pub class_stated : (d : Drafts) (w : List ℕ) (p : ℕ) → has_blank w ≡ false → known_class d w ≡ Ok p
    → (c : Class) × (slice_get d.classes p ≡ Some c) × (has_blank c.name ≡ false)
class_stated d w p word reads = by (is_unquoted w) reads
  where
    found : (o : Option ℕ) → class_place d.classes w ≡ o → needed UndefinedClass o ≡ Ok p
        → (c : Class) × (slice_get d.classes p ≡ Some c) × (has_blank c.name ≡ false)
    found None is e = absurd (cc)
    found (Some i) is e =
        let r = placed (λ (c : Class). c.name) 0 i d.classes w is in
        let same : i ≡ p = cc in
        let here : r.behind ≡ p = omega (arith, same, r.here) in (
          r.one,
          subst (λ k. slice_get d.classes k ≡ Some r.one) here r.there,
          ap has_blank r.named ∙ word,
        )

    by : (b : Bool) → unless b BadValue (needed UndefinedClass (class_place d.classes w)) ≡ Ok p
        → (c : Class) × (slice_get d.classes p ≡ Some c) × (has_blank c.name ≡ false)
    by true e = found (class_place d.classes w) refl e
    by false e = absurd (cc)
