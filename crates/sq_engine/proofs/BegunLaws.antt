-- What open checks have from their beginning on stays as it is.
use Rattle.std.proofs.Common.{◌≡◌, ◌∙◌, ◌==◌, ◌+◌, ◌≤◌, ℕ, min, List, [], ◌∷◌, ◌++◌, Bool, true, false, if◌then◌else◌, Option, None, Some, Result, Ok, Err, OnOk, OnErr, refl, ap, sym, subst, arith}
use Rattle.std.proofs.lemmas.Option.{none-some, same_Some}
use Rattle.std.specs.Option.{option_map}
use Rattle.sq_base.specs.declared.helpers.Answer.{Answer}
use Rattle.sq_base.specs.declared.helpers.What.{What}
use Rattle.sq_base.specs.declared.helpers.What.TheVariants as what
use Rattle.sq_base.specs.Requests.{HttpRequest}
use Rattle.sq_rules.specs.Configurations.{Configuration}
use Rattle.sq_machine.specs.Losses.{Loss}
use Rattle.sq_rules.specs.declared.sights.Sight.{Sight}
use Rattle.sq_checks.specs.Positions.{look_limit}
use Rattle.sq_checks.specs.OpenChecks.{CheckParts, all_before, all_ended, begun_parts, change_at, ended_by, looked, rows_of, settled, settled_by, without_entry}
use Rattle.sq_checks.specs.Stages.{came_in}
use Rattle.sq_checks.specs.Tables.{value_at}
use Rattle.sq_engine.specs.Begun.{AreKept, AreKeptBut, Begun, HasBegun, begun_at, begun_of, looked_more}
use Rattle.sq_engine.specs.Handing.{all_lost}
use Rattle.sq_engine.specs.Lines.{all_given}
use Rattle.sq_engine.specs.declared.lines.Share.{Share}
use Rattle.sq_engine.proofs.TableLaws.{added_at, changed_at, ended_at, mapped_if, none_above, none_if, number_is, number_self, or_this, removed_at, some_if}

pub kept_same : (es : List (ℕ × CheckParts)) → AreKept es es
kept_same es = λ n b h. h

pub kept_then : (xs ys zs : List (ℕ × CheckParts)) → AreKept xs ys → AreKept ys zs → AreKept xs zs
kept_then xs ys zs first second = λ n b h. first n b (second n b h)

-- what check m has, where it is open, has no more looks than are counted
abbrev pub IsFew : ℕ → List (ℕ × CheckParts) → Type 0
IsFew m es = (b : Begun) → begun_at es m ≡ Some b → b.looks ≤ look_limit

pub few_found : (m : ℕ) (es : List (ℕ × CheckParts)) (k : CheckParts) → value_at es m ≡ Some k → k.looks ≤ look_limit
    → IsFew m es
few_found m es k is few = λ b h.
    subst (λ (z : Begun). z.looks ≤ look_limit) (same_Some _ _ (sym (ap (option_map begun_of) is) ∙ h)) few

pub few_unknown : (m : ℕ) (es : List (ℕ × CheckParts)) → value_at es m ≡ None → IsFew m es
few_unknown m es is = λ b h. absurd (none-some b (sym (ap (option_map begun_of) is) ∙ h))

no_more : (b : Begun) → b.looks ≤ look_limit → b ≡ looked_more 0 b
no_more b few =
    let same : b.looks ≡ min look_limit (b.looks + 0) = omega (arith, few) in
    ap (λ l. record b { looks = l }) same

none_if_same : (m n : ℕ) (t : Bool) (b : Begun) (es : List (ℕ × CheckParts)) → (m == n) ≡ t → IsFew m es
    → begun_at es n ≡ Some b
    → b ≡ (if t then looked_more 0 b else b)
none_if_same m n true b es same few h =
    no_more b (few b (ap (begun_at es) (number_is m n same) ∙ h))
none_if_same m n false b es same few h = refl

-- where no check looked at more facts
pub kept_but : (m : ℕ) (xs ys : List (ℕ × CheckParts)) → IsFew m xs → AreKept xs ys → AreKeptBut m xs ys
kept_but m xs ys few all = λ n b h. (b, 0, all n b h, none_if_same m n (m == n) b xs refl few (all n b h))

-- and where one may have done so between
pub kept_between : (m : ℕ) (ws xs ys zs : List (ℕ × CheckParts)) → AreKept ws xs → AreKeptBut m xs ys → AreKept ys zs
    → AreKeptBut m ws zs
kept_between m ws xs ys zs first second third = λ n b h.
    let q = second n b (third n b h) in (q.0, q.1, first n q.0 q.2, q.3)

looked_begun : (t : Bool) (k : ℕ) (o : Option CheckParts) (b : Begun)
    → option_map begun_of (mapped_if t (looked k) o) ≡ Some b
    → (a : Begun) × (j : ℕ) × (option_map begun_of o ≡ Some a) × (b ≡ (if t then looked_more j a else a))
looked_begun true k None b e = absurd (none-some b e)
looked_begun true k (Some x) b e =
    let same : begun_of (looked k x) ≡ b = same_Some _ _ e in (begun_of x, k, refl, sym same)
looked_begun false k o b e = (b, 0, e, refl)

-- where a check looked at more facts
pub kept_looked : (m k : ℕ) (old new : List (ℕ × CheckParts)) → new ≡ change_at m (looked k) old → AreKeptBut m old new
kept_looked m k old new list = λ n b h.
    looked_begun (m == n) k (value_at old n) b
    (sym (ap (λ es. option_map begun_of (value_at es n)) list
    ∙ ap (option_map begun_of) (changed_at m n (looked k) old)) ∙ h)

mapped_begun : (t : Bool) (f : CheckParts → CheckParts) (o : Option CheckParts)
    → ((k : CheckParts) → begun_of (f k) ≡ begun_of k) → option_map begun_of (mapped_if t f o) ≡ option_map begun_of o
mapped_begun true f None same = refl
mapped_begun true f (Some k) same = ap Some (same k)
mapped_begun false f o same = refl

-- where one check is changed, and not in this
pub kept_changed : (m : ℕ) (f : CheckParts → CheckParts) (es : List (ℕ × CheckParts))
    → ((k : CheckParts) → begun_of (f k) ≡ begun_of k) → AreKept es (change_at m f es)
kept_changed m f es same = λ n b h. sym
    (ap (option_map begun_of) (changed_at m n f es) ∙ mapped_begun (m == n) f (value_at es n) same) ∙ h

pub kept_ended : (q : ℕ) (w : What) (now : ℕ) (es : List (ℕ × CheckParts)) → AreKept es (all_ended q w now es)
kept_ended q w now es = λ n b h. sym
    (ap (option_map begun_of) (ended_at q w now n es)
    ∙ mapped_begun true (ended_by q w now) (value_at es n) (λ k. refl)) ∙ h

removed_begun : (t : Bool) (o : Option CheckParts) (b : Begun) → option_map begun_of (none_if t o) ≡ Some b
    → option_map begun_of o ≡ Some b
removed_begun true o b e = absurd (none-some b e)
removed_begun false o b e = e

pub kept_removed : (m : ℕ) (es : List (ℕ × CheckParts)) → AreKept es (without_entry m es)
kept_removed m es = λ n b h. removed_begun (m == n) (value_at es n) b
    (sym (ap (option_map begun_of) (removed_at m n es)) ∙ h)

pub kept_given : (q now : ℕ) (xs : List Share) (es : List (ℕ × CheckParts)) → AreKept es (all_given q now xs es)
kept_given q now [] es = kept_same es
kept_given q now (x ∷ xs) es =
    kept_then es (all_given q now xs es) (all_given q now (x ∷ xs) es) (kept_given q now xs es)
    (kept_changed x.check (ended_by q x.what now) (all_given q now xs es) (λ k. refl))

pub kept_lost : (ls : List Loss) (now : ℕ) (es : List (ℕ × CheckParts)) → AreKept es (all_lost ls now es)
kept_lost [] now es = kept_same es
kept_lost (l ∷ ls) now es =
    let next = all_ended l.question (what.Fault l.cause) now es in
    kept_then es next (all_lost ls now next) (kept_ended l.question (what.Fault l.cause) now es) (kept_lost ls now next)

pub settled_begun : (k : CheckParts) → begun_of (settled k) ≡ begun_of k
settled_begun k = by (came_in k.stage)
  where
    by : (o : Option Answer) → begun_of (settled_by k o) ≡ begun_of k
    by None = refl
    by (Some a) = refl

-- the same, where the list is such a one
pub kept_change : (m : ℕ) (f : CheckParts → CheckParts) (old new : List (ℕ × CheckParts)) → new ≡ change_at m f old
    → ((k : CheckParts) → begun_of (f k) ≡ begun_of k) → AreKept old new
kept_change m f old new list same = subst (AreKept old) (sym list) (kept_changed m f old same)

pub kept_settled : {A B : Type 0} (m : ℕ) (old new : List (ℕ × CheckParts)) (r : Result A B)
    → OnOk r (new ≡ change_at m settled old) → OnErr r (new ≡ old) → AreKept old new
kept_settled m old new (Ok a) ok err = kept_change m settled old new ok settled_begun
kept_settled m old new (Err e) ok err = subst (AreKept old) (sym err) (kept_same old)

-- where a check is put behind the others, under a number above all
pub has_begun : (n conn epoch : ℕ) (config : Configuration) (sight : Sight) (request : HttpRequest)
    (es : List (ℕ × CheckParts)) → all_before n (rows_of es) ≡ true → sight.request ≡ request
    → HasBegun n config request es (es ++ (n, begun_parts conn epoch config sight) ∷ [])
has_begun n conn epoch config sight request es above is = record {
  sight = sight;
  request_is = is;
  begun = ap (option_map begun_of)
      (added_at n n k es ∙ ap (λ o. or_this o (some_if (n == n) k)) (none_above n es above)
      ∙ ap (λ t. some_if t k) (number_self n));
  others = λ m b apart h. by m b (value_at es m)
      (sym (ap (option_map begun_of) (added_at n m k es ∙ ap (λ t. or_this (value_at es m) (some_if t k)) apart)) ∙ h);
}
  where
    k : CheckParts
    k = begun_parts conn epoch config sight

    by : (m : ℕ) (b : Begun) (o : Option CheckParts) → option_map begun_of (or_this o None) ≡ Some b
        → option_map begun_of o ≡ Some b
    by m b None e = e
    by m b (Some x) e = e
