-- What is the same of rows of checks that are changed and keep their numbers and what they are of.
use Rattle.std.proofs.Common.{◌≡◌, ◌∙◌, ◌==◌, ◌&&◌, ◌||◌, ℕ, suc, List, [], ◌∷◌, Bool, true, false, if◌then◌else◌, map, nat_lt, Option, None, Some, refl, ap, ap₂, sym, subst}
use Rattle.std.specs.List.{list_any}
use Rattle.std.specs.Option.{option_map, option_and_then}
use Rattle.sq_base.specs.declared.helpers.Answer.{Answer}
use Rattle.sq_machine.specs.StepRule.{StepSays}
use Rattle.sq_model.specs.CheckRows.{Ends, Held, after_step, held_on, served, served_by, stepped}
use Rattle.sq_checks.specs.OpenChecks.{AreAlone, all_before, of_epoch}
use Rattle.sq_epochs.specs.EpochStates.{EpochState}
use Rattle.sq_engine.specs.Engines.{AreAsked, AreCounted, held_number}

-- a change of rows that keeps what they are
pub record IsKeeping (f : Held → Held) : Type 0 where
  pub numbers : (h : Held) → (f h).number ≡ h.number
  pub askeds : (h : Held) → (f h).asked ≡ h.asked

if_number : (b : Bool) (s : StepSays) (h : Held) → (if b then stepped s h else h).number ≡ h.number
if_number true s h = refl
if_number false s h = refl

if_asked : (b : Bool) (s : StepSays) (h : Held) → (if b then stepped s h else h).asked ≡ h.asked
if_asked true s h = refl
if_asked false s h = refl

pub step_keeps : (n : ℕ) (s : StepSays) → IsKeeping (λ h. if n == h.number then stepped s h else h)
step_keeps n s = record { numbers = λ h. if_number (n == h.number) s h; askeds = λ h. if_asked (n == h.number) s h }

served_number : (o : Option Answer) (h : Held) → (served_by o h).number ≡ h.number
served_number None h = refl
served_number (Some a) h = refl

served_asked : (o : Option Answer) (h : Held) → (served_by o h).asked ≡ h.asked
served_asked None h = refl
served_asked (Some a) h = refl

pub ends_keep : (ends : Ends) → IsKeeping (served ends)
ends_keep ends = record {
  numbers = λ h. served_number (option_and_then ends h.waits) h;
  askeds = λ h. served_asked (option_and_then ends h.waits) h;
}

on_mapped : (f : Held → Held) (c : ℕ) (checks : List Held) → IsKeeping f
    → held_on c (map f checks) ≡ option_map f (held_on c checks)
on_mapped f c [] k = refl
on_mapped f c (h ∷ checks) k = by (c == h.asked.conn) refl (on_mapped f c checks k)
  where
    by : (b : Bool) → (c == h.asked.conn) ≡ b → held_on c (map f checks) ≡ option_map f (held_on c checks)
        → held_on c (map f (h ∷ checks)) ≡ option_map f (held_on c (h ∷ checks))
    by true x more = let head : (c == (f h).asked.conn) ≡ true = ap (λ a. c == a.conn) (k.askeds h) ∙ x in
        rw (head, x) refl
    by false x more = let head : (c == (f h).asked.conn) ≡ false = ap (λ a. c == a.conn) (k.askeds h) ∙ x in
        rw (head, x) more

number_mapped : (f : Held → Held) (o : Option Held) → IsKeeping f
    → option_map held_number (option_map f o) ≡ option_map held_number o
number_mapped f None k = refl
number_mapped f (Some h) k = ap Some (k.numbers h)

none_mapped : (f : Held → Held) (o : Option Held) → o ≡ None → option_map f o ≡ None
none_mapped f None e = refl
none_mapped f (Some h) e = absurd (cc)

alone_mapped : (f : Held → Held) (checks : List Held) → IsKeeping f → AreAlone checks → AreAlone (map f checks)
alone_mapped f [] k o = tt
alone_mapped f (h ∷ checks) k o = (
  ap (λ a. held_on a.conn (map f checks)) (k.askeds h) ∙ on_mapped f h.asked.conn checks k
      ∙ none_mapped f (held_on h.asked.conn checks) o.0,
  alone_mapped f checks k o.1,
)

before_mapped : (f : Held → Held) (n : ℕ) (checks : List Held) → IsKeeping f
    → all_before n (map f checks) ≡ all_before n checks
before_mapped f n [] k = refl
before_mapped f n (h ∷ checks) k = ap₂ (λ (m : ℕ) (b : Bool). nat_lt m n && b) (k.numbers h)
    (before_mapped f n checks k)

-- such a change leaves what is asked
pub asked_mapped : (f : Held → Held) (check : ℕ → Option ℕ) (checks : List Held) (asks : ℕ) → IsKeeping f
    → AreAsked check checks asks → AreAsked check (map f checks) asks
asked_mapped f check checks asks k a = record {
  on_conns = λ c. a.on_conns c
      ∙ sym (ap (option_map held_number) (on_mapped f c checks k) ∙ number_mapped f (held_on c checks) k);
  alone = alone_mapped f checks k a.alone;
  given = before_mapped f (suc asks) checks k ∙ a.given;
  few = a.few;
}

any_mapped : (f : Held → Held) (e : ℕ) (checks : List Held) → IsKeeping f
    → list_any (λ (h : Held). h.asked.epoch == e) (map f checks) ≡ list_any (λ (h : Held). h.asked.epoch == e) checks
any_mapped f e [] k = refl
any_mapped f e (h ∷ checks) k = ap (λ a. a.epoch == e || list_any (λ (x : Held). x.asked.epoch == e) (map f checks))
    (k.askeds h) ∙ ap (λ b. h.asked.epoch == e || b) (any_mapped f e checks k)

count_more : (b : Bool) (m n : ℕ) → m ≡ n → (if b then suc m else m) ≡ (if b then suc n else n)
count_more true m n e = ap suc e
count_more false m n e = e

count_mapped : (f : Held → Held) (e : ℕ) (checks : List Held) → IsKeeping f
    → of_epoch e (map f checks) ≡ of_epoch e checks
count_mapped f e [] k = refl
count_mapped f e (h ∷ checks) k =
    ap (λ a. if e == a.epoch then suc (of_epoch e (map f checks)) else of_epoch e (map f checks)) (k.askeds h)
    ∙ count_more (e == h.asked.epoch) (of_epoch e (map f checks)) (of_epoch e checks) (count_mapped f e checks k)

-- such a change leaves the counts
pub counted_mapped : (f : Held → Held) (current : ℕ) (epoch : ℕ → Option EpochState) (checks : List Held) → IsKeeping f
    → AreCounted current epoch checks → AreCounted current epoch (map f checks)
counted_mapped f current epoch checks k a = record {
  live = λ e. a.live e ∙ ap (λ b. e == current || b) (sym (any_mapped f e checks k));
  counts = λ e x is. a.counts e x is ∙ sym (count_mapped f e checks k);
  parts = a.parts;
}

-- so do steps
pub asked_stepped : (n : ℕ) (s : StepSays) (check : ℕ → Option ℕ) (checks rows : List Held) (asks : ℕ)
    → rows ≡ after_step n s checks → AreAsked check checks asks → AreAsked check rows asks
asked_stepped n s check checks rows asks is a = subst (λ r. AreAsked check r asks) (sym is)
    (asked_mapped (λ h. if n == h.number then stepped s h else h) check checks asks (step_keeps n s) a)

pub counted_stepped : (n : ℕ) (s : StepSays) (current : ℕ) (epoch : ℕ → Option EpochState) (checks rows : List Held)
    → rows ≡ after_step n s checks → AreCounted current epoch checks → AreCounted current epoch rows
counted_stepped n s current epoch checks rows is a = subst (λ r. AreCounted current epoch r) (sym is)
    (counted_mapped (λ h. if n == h.number then stepped s h else h) current epoch checks (step_keeps n s) a)
