-- What the steps of a line give, where something holds of each step.
use Rattle.std.proofs.Common.{◌≡◌, ℕ, List, [], ◌∷◌, ◌++◌, Bool, true, false, refl, Option, Some, None, Result, Ok, Err, IfSome}
use Rattle.std.specs.List.{list_all}
use Rattle.std.specs.Prelude.{IfOk}
use Rattle.sq_base.specs.Results.{◌>>=◌}
use Rattle.sq_rules.proofs.ListLaws.{all_push}
use Rattle.sq_rules.specs.Steps.{WordList, needed, one_more, over, over_some, some_of, unless}
use Rattle.sq_rules.specs.declared.kinds.Kind.{Kind}

-- a step, and those behind it
pub then_so : {A B E : Type 0} (P : A → Type 0) (Q : B → Type 0) (r : Result A E) (f : A → Result B E) → IfOk r P
    → ((x : A) → P x → IfOk (f x) Q) → IfOk (r >>= f) Q
then_so P Q (Ok x) f p q = q x p
then_so P Q (Err e) f p q = tt

-- the same, where nothing is asked of the step
pub after : {A B E : Type 0} (Q : B → Type 0) (r : Result A E) (f : A → Result B E) → ((x : A) → IfOk (f x) Q)
    → IfOk (r >>= f) Q
after Q (Ok x) f q = q x
after Q (Err e) f q = tt

pub weaker : {A E : Type 0} (P Q : A → Type 0) (r : Result A E) → IfOk r P → ((x : A) → P x → Q x) → IfOk r Q
weaker P Q (Ok x) p q = q x p
weaker P Q (Err e) p q = tt

-- what was given
pub of_given : {A E : Type 0} (P : A → Type 0) (r : Result A E) (x : A) → IfOk r P → r ≡ Ok x → P x
of_given P (Ok y) x p is = let same : x ≡ y = cc in rw same p
of_given P (Err e) x p is = absurd (cc)

pub unless_so : {A : Type 0} (Q : A → Type 0) (b : Bool) (k : Kind) (r : Result A Kind) → (b ≡ true → IfOk r Q)
    → IfOk (unless b k r) Q
unless_so Q true k r q = q refl
unless_so Q false k r q = tt

-- a test in front of a step
pub unless_then : {A B : Type 0} (Q : B → Type 0) (b : Bool) (k : Kind) (r : Result A Kind) (f : A → Result B Kind)
    → (b ≡ true → IfOk (r >>= f) Q) → IfOk (unless b k r >>= f) Q
unless_then Q true k r f q = q refl
unless_then Q false k r f q = tt

pub needed_so : {A : Type 0} (P : A → Type 0) (k : Kind) (o : Option A) → IfSome o P → IfOk (needed k o) P
needed_so P k (Some x) p = p
needed_so P k None p = tt

-- what each word keeps
pub over_so : {S : Type 0} (P : S → Type 0) (step : S → List ℕ → Result S Kind)
    → ((s : S) (w : List ℕ) → P s → IfOk (step s w) P) → (s : S) (ws : WordList) → P s → IfOk (over step s ws) P
over_so P step so s [] p = p
over_so P step so s (w ∷ ws) p =
    then_so P P (step s w) (λ next. over step next ws) (so s w p) (λ next q. over_so P step so next ws q)

pub over_some_so : {S : Type 0} (P : S → Type 0) (step : S → List ℕ → Result S Kind)
    → ((s : S) (w : List ℕ) → P s → IfOk (step s w) P) → (s : S) (ws : WordList) → P s → IfOk (over_some step s ws) P
over_some_so P step so s [] p = tt
over_some_so P step so s (w ∷ ws) p = over_so P step so s (w ∷ ws) p

-- what holds of each value
pub some_so : {A : Type 0} (p : A → Bool) (form : List ℕ → Result A Kind)
    → ((w : List ℕ) → IfOk (form w) (λ x. p x ≡ true)) → (ws : WordList)
    → IfOk (some_of form ws) (λ xs. list_all p xs ≡ true)
some_so p form so ws =
    over_some_so (λ xs. list_all p xs ≡ true) (one_more form)
    (λ xs w all. then_so (λ x. p x ≡ true) (λ ys. list_all p ys ≡ true) (form w) (λ v. Ok (xs ++ v ∷ [])) (so w)
    (λ x one. all_push p xs x all one)) [] ws refl
