-- For those who open and close connections: each has one open check at most,
-- and to leave out its checks is to leave out that one.
use Rattle.std.proofs.Common.{◌≡◌, ◌∙◌, ◌==◌, ◌<◌, ℕ, List, [], ◌∷◌, ◌++◌, Bool, true, false, if◌then◌else◌, map, Option, None, Some, refl, ap, sym, subst, arith}
use Rattle.std.proofs.lemmas.Bool.Decides.{nat_tests}
use Rattle.std.specs.Option.{option_map, option_and_then}
use Rattle.sq_base.proofs.CommonLaws.{eq_turned}
use Rattle.sq_base.specs.declared.helpers.Answer.{Answer}
use Rattle.sq_machine.specs.Rising.{AreAbove, Rises}
use Rattle.sq_machine.specs.StepRule.{StepSays}
use Rattle.sq_model.specs.CheckRows.{Ends, Held, after_ends, after_step, held_on, served, served_by, stepped, without_check, without_conn}
use Rattle.sq_checks.specs.OpenChecks.{AreAlone}
use Rattle.sq_checks.proofs.EpochLaws.{none_at}
use Rattle.sq_checks.proofs.MapLaws.{number_is, self_number}

-- a connection that has no check: there is none to leave out
pub conn_absent : (c : ℕ) (checks : List Held) → held_on c checks ≡ None → without_conn c checks ≡ checks
conn_absent c [] f = refl
conn_absent c (x ∷ checks) f = (elim (c == x.asked.conn) as
    (λ y. (c == x.asked.conn) ≡ y → without_conn c (x ∷ checks) ≡ x ∷ checks) [
      | true ↦ λ t. let f' = rw t at f in absurd cc
      | false ↦ λ t. rw t (ap (λ l. x ∷ l) (conn_absent c checks (rw t at f)))
    ]) refl

found_above : (n c : ℕ) (h : Held) (checks : List Held) → AreAbove n (map (λ x. x.number) checks)
    → held_on c checks ≡ Some h → n < h.number
found_above n c h [] a f = absurd cc
found_above n c h (x ∷ checks) a f = (elim (c == x.asked.conn) as (λ y. (c == x.asked.conn) ≡ y → n < h.number) [
  | true ↦ λ t.
      let f' = rw t at f in
      let same : x ≡ h = cc in
      subst (λ y. n < y.number) same a.0
  | false ↦ λ t. found_above n c h checks a.1 (rw t at f)
]) refl

gone : (n : ℕ) (x : Held) (checks : List Held) → (n == x.number) ≡ true
    → without_check n (x ∷ checks) ≡ without_check n checks
gone n x checks t = rw t refl

-- a connection that has a check, where the numbers rise: to leave out its checks is to leave out that one
pub conn_alone : (c : ℕ) (h : Held) (checks : List Held) → AreAlone checks → Rises (map (λ x. x.number) checks)
    → held_on c checks ≡ Some h
    → without_conn c checks ≡ without_check h.number checks
conn_alone c h [] a r f = absurd cc
conn_alone c h (x ∷ checks) a r f = (elim (c == x.asked.conn) as
    (λ y. (c == x.asked.conn) ≡ y → without_conn c (x ∷ checks) ≡ without_check h.number (x ∷ checks)) [
      | true ↦ λ t.
          let f' = rw t at f in
          let same : x ≡ h = cc in
          let is : c ≡ x.asked.conn = number_is c x.asked.conn t in
          let no_other : held_on c checks ≡ None = rw is a.0 in
          let rest : without_check x.number (x ∷ checks) ≡ checks = gone x.number x checks (self_number x.number)
          ∙ none_at x.number checks r.0 in
          rw t (conn_absent c checks no_other
          ∙ subst (λ y. checks ≡ without_check y.number (x ∷ checks)) same (sym rest))
      | false ↦ λ t.
          let found = rw t at f in
          let above : x.number < h.number = found_above x.number c h checks r.0 found in
          let other : (h.number == x.number) ≡ false = grind (arith, nat_tests) in
          rw (t, other) (ap (λ l. x ∷ l) (conn_alone c h checks a.1 r.1 found))
    ]) refl

numbered_by : (c n : ℕ) (checks : List Held) (o : Option Held) → held_on c checks ≡ o → AreAlone checks
    → Rises (map (λ x. x.number) checks)
    → option_map (λ h. h.number) o ≡ Some n → without_conn c checks ≡ without_check n checks
numbered_by c n checks None e a r f = absurd cc
numbered_by c n checks (Some h) e a r f =
    let same : h.number ≡ n = cc in
    subst (λ k. without_conn c checks ≡ without_check k checks) same (conn_alone c h checks a r e)

-- the same by the number of the check
pub conn_numbered : (c n : ℕ) (checks : List Held) → AreAlone checks → Rises (map (λ x. x.number) checks)
    → option_map (λ h. h.number) (held_on c checks) ≡ Some n
    → without_conn c checks ≡ without_check n checks
conn_numbered c n checks a r f = numbered_by c n checks (held_on c checks) refl a r f

-- what is found on a connection after a check that begins
pub held_on_more : (c : ℕ) (checks : List Held) (h : Held) → held_on c checks ≡ None
    → held_on c (checks ++ h ∷ []) ≡ (if c == h.asked.conn then Some h else None)
held_on_more c [] h f = refl
held_on_more c (x ∷ checks) h f = (elim (c == x.asked.conn) as
    (λ y. (c == x.asked.conn) ≡ y → held_on c (x ∷ checks ++ h ∷ []) ≡ (if c == h.asked.conn then Some h else None)) [
      | true ↦ λ t. let f' = rw t at f in absurd cc
      | false ↦ λ t. rw t (held_on_more c checks h (rw t at f))
    ]) refl

-- what is found of other connections stays
pub held_on_kept : (c : ℕ) (checks : List Held) (h : Held) → (c == h.asked.conn) ≡ false
    → held_on c (checks ++ h ∷ []) ≡ held_on c checks
held_on_kept c [] h f = rw f refl
held_on_kept c (x ∷ checks) h f = ap (λ o. if c == x.asked.conn then Some x else o) (held_on_kept c checks h f)

first_other : (c : ℕ) (x : Held) (checks : List Held) → held_on c (x ∷ checks) ≡ None → (c == x.asked.conn) ≡ false
first_other c x checks f = (elim (c == x.asked.conn) as (λ y. (c == x.asked.conn) ≡ y → (c == x.asked.conn) ≡ false) [
  | true ↦ λ t. let f' = rw t at f in absurd cc
  | false ↦ λ t. t
]) refl

other_conn : (c k : ℕ) (x : Held) (checks : List Held) → held_on k (x ∷ checks) ≡ None → c ≡ x.asked.conn
    → (c == k) ≡ false
other_conn c k x checks f is = rw is (eq_turned x.asked.conn k ∙ first_other k x checks f)

rest_none : (c : ℕ) (x : Held) (checks : List Held) → held_on c (x ∷ checks) ≡ None → held_on c checks ≡ None
rest_none c x checks f = (elim (c == x.asked.conn) as (λ y. (c == x.asked.conn) ≡ y → held_on c checks ≡ None) [
  | true ↦ λ t. let f' = rw t at f in absurd cc
  | false ↦ λ t. rw t at f
]) refl

-- a check that begins on a connection that has none
pub alone_more : (checks : List Held) (h : Held) → AreAlone checks → held_on h.asked.conn checks ≡ None
    → AreAlone (checks ++ h ∷ [])
alone_more [] h a f = (refl, tt)
alone_more (x ∷ checks) h a f = (
  held_on_kept x.asked.conn checks h (other_conn x.asked.conn h.asked.conn x checks f refl) ∙ a.0,
  alone_more checks h a.1 (rest_none h.asked.conn x checks f),
)

found_mapped : (f : Held → Held) (c : ℕ) (checks : List Held) → ((h : Held) → (f h).asked ≡ h.asked)
    → held_on c (map f checks) ≡ option_map f (held_on c checks)
found_mapped f c [] same = refl
found_mapped f c (x ∷ checks) same = (elim (c == x.asked.conn) as
    (λ y. (c == x.asked.conn) ≡ y → held_on c (map f (x ∷ checks)) ≡ option_map f (held_on c (x ∷ checks))) [
      | true ↦ λ t. let head : (c == (f x).asked.conn) ≡ true = ap (λ a. c == a.conn) (same x) ∙ t in rw (head, t) refl
      | false ↦ λ t. let head : (c == (f x).asked.conn) ≡ false = ap (λ a. c == a.conn) (same x) ∙ t in
          rw (head, t) (found_mapped f c checks same)
    ]) refl

alone_mapped : (f : Held → Held) (checks : List Held) → ((h : Held) → (f h).asked ≡ h.asked) → AreAlone checks
    → AreAlone (map f checks)
alone_mapped f [] same a = tt
alone_mapped f (x ∷ checks) same a = (
  ap (λ k. held_on k.conn (map f checks)) (same x) ∙ found_mapped f x.asked.conn checks same ∙ ap (option_map f) a.0,
  alone_mapped f checks same a.1,
)

step_asked : (b : Bool) (s : StepSays) (h : Held) → (if b then stepped s h else h).asked ≡ h.asked
step_asked true s h = refl
step_asked false s h = refl

step_number : (b : Bool) (s : StepSays) (h : Held) → (if b then stepped s h else h).number ≡ h.number
step_number true s h = refl
step_number false s h = refl

served_asked : (o : Option Answer) (h : Held) → (served_by o h).asked ≡ h.asked
served_asked None h = refl
served_asked (Some a) h = refl

served_number : (o : Option Answer) (h : Held) → (served_by o h).number ≡ h.number
served_number None h = refl
served_number (Some a) h = refl

-- a step leaves that
pub alone_stepped : (n : ℕ) (s : StepSays) (checks : List Held) → AreAlone checks → AreAlone (after_step n s checks)
alone_stepped n s checks a = alone_mapped (λ h. if n == h.number then stepped s h else h) checks
    (λ h. step_asked (n == h.number) s h) a

-- so does the end of a question
pub alone_ended : (ends : Ends) (checks : List Held) → AreAlone checks → AreAlone (after_ends ends checks)
alone_ended ends checks a = alone_mapped (served ends) checks (λ h. served_asked (option_and_then ends h.waits) h) a

number_mapped : (f : Held → Held) (o : Option Held) → ((h : Held) → (f h).number ≡ h.number)
    → option_map (λ h. h.number) (option_map f o) ≡ option_map (λ h. h.number) o
number_mapped f None same = refl
number_mapped f (Some h) same = ap (λ k. Some k) (same h)

-- the number of the check of a connection after a step
pub held_on_stepped : (c n : ℕ) (s : StepSays) (checks : List Held)
    → option_map (λ h. h.number) (held_on c (after_step n s checks)) ≡ option_map (λ h. h.number) (held_on c checks)
held_on_stepped c n s checks =
    ap (option_map (λ h. h.number))
    (found_mapped (λ h. if n == h.number then stepped s h else h) c checks (λ h. step_asked (n == h.number) s h))
    ∙ number_mapped (λ h. if n == h.number then stepped s h else h) (held_on c checks)
    (λ h. step_number (n == h.number) s h)

-- the number of the check of a connection after ends of questions
pub held_on_ended : (c : ℕ) (ends : Ends) (checks : List Held)
    → option_map (λ h. h.number) (held_on c (after_ends ends checks)) ≡ option_map (λ h. h.number) (held_on c checks)
held_on_ended c ends checks =
    ap (option_map (λ h. h.number))
    (found_mapped (served ends) c checks (λ h. served_asked (option_and_then ends h.waits) h))
    ∙ number_mapped (served ends) (held_on c checks) (λ h. served_number (option_and_then ends h.waits) h)

-- a connection without a check has none when one is left out
pub none_without : (c n : ℕ) (checks : List Held) → held_on c checks ≡ None → held_on c (without_check n checks) ≡ None
none_without c n [] f = refl
none_without c n (x ∷ checks) f = (elim (n == x.number) as
    (λ y. (n == x.number) ≡ y → held_on c (without_check n (x ∷ checks)) ≡ None) [
      | true ↦ λ t. rw t (none_without c n checks (rest_none c x checks f))
      | false ↦ λ t. rw (t, first_other c x checks f) (none_without c n checks (rest_none c x checks f))
    ]) refl

-- a check less
pub alone_without : (n : ℕ) (checks : List Held) → AreAlone checks → AreAlone (without_check n checks)
alone_without n [] a = tt
alone_without n (x ∷ checks) a = (elim (n == x.number) as
    (λ y. (n == x.number) ≡ y → AreAlone (without_check n (x ∷ checks))) [
      | true ↦ λ t. rw t (alone_without n checks a.1)
      | false ↦ λ t. rw t (none_without x.asked.conn n checks a.0, alone_without n checks a.1)
    ]) refl

left_by : (c k : ℕ) (x : Held) (checks : List Held) (b d e : Bool) → (c == x.asked.conn) ≡ b → (c == k) ≡ d
    → (k == x.asked.conn) ≡ e
    → held_on k (without_conn c checks) ≡ (if d then None else held_on k checks)
    → held_on k (without_conn c (x ∷ checks)) ≡ (if d then None else held_on k (x ∷ checks))
left_by c k x checks true true e t u v was = rw t was
left_by c k x checks true false true t u v was = absurd (grind (arith, t, u, v))
left_by c k x checks true false false t u v was = rw (t, v) was
left_by c k x checks false true true t u v was = absurd (grind (arith, t, u, v))
left_by c k x checks false true false t u v was = rw (t, v) was
left_by c k x checks false false true t u v was = rw (t, v) refl
left_by c k x checks false false false t u v was = rw (t, v) was

abbrev no_check : Option Held
no_check = None

if_none : (b : Bool) → no_check ≡ (if b then None else no_check)
if_none true = refl
if_none false = refl

-- what is found on a connection when the checks of one are left out
pub held_on_left : (c k : ℕ) (checks : List Held)
    → held_on k (without_conn c checks) ≡ (if c == k then None else held_on k checks)
held_on_left c k [] = if_none (c == k)
held_on_left c k (x ∷ checks) = left_by c k x checks (c == x.asked.conn) (c == k) (k == x.asked.conn) refl refl refl
    (held_on_left c k checks)
