-- The end of a question, given to one check after another.
use Rattle.std.proofs.Common.{◌≡◌, ◌∙◌, ◌==◌, ◌||◌, Bool, true, false, ℕ, List, [], ◌∷◌, ◌++◌, Some, if◌then◌else◌, map, refl, ap, sym}
use Rattle.std.proofs.lemmas.List.Folds.{list_any-append}
use Rattle.std.specs.List.{AllByRecursion}
use Rattle.std.specs.Option.{option_and_then}
use Rattle.sq_base.proofs.CommonLaws.{eq_turned}
use Rattle.sq_base.specs.declared.helpers.What.{What}
use Rattle.sq_lookup.specs.Waits.{has_check}
use Rattle.sq_machine.specs.Events.{is_number}
use Rattle.sq_checks.specs.OpenChecks.{AllAre, CheckParts, all_ended, change_at, ended_by, wait_at}
use Rattle.sq_checks.specs.Stages.{ended_stage, question_in}
use Rattle.sq_checks.specs.Tables.{value_at}
use Rattle.sq_checks.specs.declared.stages.CheckStage.{CheckStage}
use Rattle.sq_checks.specs.declared.stages.CheckStage.TheVariants as stage
use Rattle.sq_checks.proofs.CheckLaws.{ended_twice}
use Rattle.sq_checks.proofs.MapLaws.{AreOnce, IsAbsent, self_number}
use Rattle.sq_checks.proofs.TableLaws.{same_key}

abbrev pub listed_entry : List ℕ → (CheckParts → CheckParts) → ℕ × CheckParts → ℕ × CheckParts
listed_entry ns f e = if has_check e.0 ns then (e.0, f e.1) else e

-- the checks with those changed that are listed
abbrev pub listed_changed : List ℕ → (CheckParts → CheckParts) → List (ℕ × CheckParts) → List (ℕ × CheckParts)
listed_changed ns f es = map (listed_entry ns f) es

-- for the beginning: none is listed
pub none_listed : (f : CheckParts → CheckParts) (es : List (ℕ × CheckParts)) → listed_changed [] f es ≡ es
none_listed f [] = refl
none_listed f (e ∷ es) = ap (λ l. e ∷ l) (none_listed f es)

has_more : (n k : ℕ) (ns : List ℕ) → has_check n (ns ++ k ∷ []) ≡ (has_check n ns || n == k)
has_more n k ns = list_any-append (λ m. n == m) ns (k ∷ []) ∙ ap (λ b. has_check n ns || b) (or_false (n == k))
  where
    or_false : (b : Bool) → (b || false) ≡ b
    or_false true = refl
    or_false false = refl

entry_more : (ns : List ℕ) (k : ℕ) (f : CheckParts → CheckParts) (e : ℕ × CheckParts) (a b : Bool) → f (f e.1) ≡ f e.1
    → has_check e.0 ns ≡ a → (k == e.0) ≡ b
    → change_at k f (listed_entry ns f e ∷ []) ≡ listed_entry (ns ++ k ∷ []) f e ∷ []
entry_more ns k f e true true i h t = rw (has_more e.0 k ns, h, t) (ap (λ (y : CheckParts). (e.0, y) ∷ []) i)
entry_more ns k f e true false i h t = rw (has_more e.0 k ns, h, t) refl
entry_more ns k f e false true i h t = rw (has_more e.0 k ns, h, eq_turned e.0 k, t) refl
entry_more ns k f e false false i h t = rw (has_more e.0 k ns, h, eq_turned e.0 k, t) refl

heads : {A : Type 0} (x y : A) (xs ys : List A) → x ∷ [] ≡ y ∷ [] → xs ≡ ys → x ∷ xs ≡ y ∷ ys
heads x y xs ys p q = let same : x ≡ y = cc in ap (λ z. z ∷ xs) same ∙ ap (λ zs. y ∷ zs) q

-- for one check more
pub listed_more : (ns : List ℕ) (k : ℕ) (f : CheckParts → CheckParts) (es : List (ℕ × CheckParts))
    → ((c : CheckParts) → f (f c) ≡ f c)
    → change_at k f (listed_changed ns f es) ≡ listed_changed (ns ++ k ∷ []) f es
listed_more ns k f [] i = refl
listed_more ns k f (e ∷ es) i =
    heads _ _ _ _ (entry_more ns k f e (has_check e.0 ns) (k == e.0) (i e.1) refl refl) (listed_more ns k f es i)

lift : (e : ℕ × CheckParts) (xs es : List (ℕ × CheckParts)) → IsAbsent e.0 xs
    → AllByRecursion (λ x. value_at es x.0 ≡ Some x.1) xs
    → AllByRecursion (λ x. value_at (e ∷ es) x.0 ≡ Some x.1) xs
lift e [] es a h = tt
lift e (x ∷ xs) es a h = (rw (same_key x.0 e.0, eq_turned x.0 e.0, a.0) h.0, lift e xs es a.1 h.1)

found_each : (es : List (ℕ × CheckParts)) → AreOnce es → AllByRecursion (λ x. value_at es x.0 ≡ Some x.1) es
found_each [] o = tt
found_each (e ∷ es) o = (rw (same_key e.0 e.0, self_number e.0) refl, lift e es es o.0 (found_each es o.1))

other_stage : (q : ℕ) (w : What) (now : ℕ) (s : CheckStage) → is_number q (question_in s) ≡ false
    → ended_stage q w now s ≡ s
other_stage q w now stage.Ready h = refl
other_stage q w now (stage.Came a) h = refl
other_stage q w now (stage.Waits k) h = rw (eq_turned k.question q, h) refl
other_stage q w now (stage.Done o) h = refl

end_entry : (ns : List ℕ) (q : ℕ) (w : What) (now : ℕ) (e : ℕ × CheckParts) (b : Bool) → has_check e.0 ns ≡ b
    → is_number q (question_in e.1.stage) ≡ b
    → listed_entry ns (ended_by q w now) e ≡ (e.0, ended_by q w now e.1)
end_entry ns q w now e true h i = rw h refl
end_entry ns q w now e false h i = rw h
    (ap (λ (s : CheckStage). (e.0, record e.1 { stage = s })) (sym (other_stage q w now e.1.stage i)))

ends_by : (ns : List ℕ) (q : ℕ) (w : What) (now : ℕ) (all es : List (ℕ × CheckParts))
    → AllByRecursion (λ x. value_at all x.0 ≡ Some x.1) es
    → ((n : ℕ) → has_check n ns ≡ is_number q (wait_at n all))
    → listed_changed ns (ended_by q w now) es ≡ all_ended q w now es
ends_by ns q w now all [] found is = refl
ends_by ns q w now all (e ∷ es) found is =
    let waits : has_check e.0 ns ≡ is_number q (question_in e.1.stage) = is e.0
    ∙ ap (λ o. is_number q (option_and_then (λ c. question_in c.stage) o)) found.0 in
    ap (λ x. x ∷ listed_changed ns (ended_by q w now) es)
    (end_entry ns q w now e (is_number q (question_in e.1.stage)) waits refl)
    ∙ ap (λ l. (e.0, ended_by q w now e.1) ∷ l) (ends_by ns q w now all es found.1 is)

-- for the end: where those are listed that wait for the question, each check is changed as the end says
pub all_listed : (ns : List ℕ) (q : ℕ) (w : What) (now : ℕ) (es : List (ℕ × CheckParts)) → AreOnce es
    → ((n : ℕ) → has_check n ns ≡ is_number q (wait_at n es))
    → listed_changed ns (ended_by q w now) es ≡ all_ended q w now es
all_listed ns q w now es o is = ends_by ns q w now es es (found_each es o) is

-- for an end that comes twice
pub twice : (q : ℕ) (w : What) (now : ℕ) (c : CheckParts) → ended_by q w now (ended_by q w now c) ≡ ended_by q w now c
twice q w now c = ap (λ (s : CheckStage). record c { stage = s }) (ended_twice q w now c.stage)

-- for copies, of which one is taken from the end
pub all_front : (w x : What) (xs : List What) → AllAre w (xs ++ x ∷ []) → AllAre w xs
all_front w x [] h = tt
all_front w x (y ∷ xs) h = (h.0, all_front w x xs h.1)

pub all_last : (w x : What) (xs : List What) → AllAre w (xs ++ x ∷ []) → x ≡ w
all_last w x [] h = h.0
all_last w x (y ∷ xs) h = all_last w x xs h.1
