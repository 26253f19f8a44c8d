-- What a step of a check tells: to wait only for a key that has no answer,
-- that the check is done where it needs none; and how many answers are taken.
use Rattle.std.proofs.Common.{◌≡◌, inl, inr, ℕ, suc, ◌≤◌, List, [], ◌∷◌, ◌++◌, length, length-append, Bool, true, false, not, ◌&&◌, ◌||◌, ◌==◌, nat_le, nat_lt, bytes_eq, if◌then◌else◌, Option, Some, None, is_some, option_to_list, refl, sym, ap, ap₂, subst, ◌∙◌, arith}
use Rattle.std.specs.List.{list_any}
use Rattle.std.proofs.lemmas.Bool.{and_parts}
use Rattle.std.proofs.lemmas.Bool.Decides.{nat_tests}
use Rattle.sq_base.specs.Distinct.{are_distinct, has_answer}
use Rattle.sq_base.specs.declared.helpers.Answer.{Answer}
use Rattle.sq_base.specs.declared.helpers.Cause.TheVariants as cause
use Rattle.sq_machine.specs.declared.entries.Event.{Event}
use Rattle.sq_machine.specs.declared.entries.Event.TheVariants.{Begin, Step}
use Rattle.sq_machine.specs.declared.entries.Told.{Told}
use Rattle.sq_machine.specs.declared.entries.Told.TheVariants as told
use Rattle.sq_machine.specs.declared.kept.CachedReply.{CachedReply}
use Rattle.sq_rules.specs.declared.outcomes.Outcome.{Outcome}
use Rattle.sq_machine.specs.declared.refusals.Refusal.{Refusal}
use Rattle.sq_rules.specs.declared.sights.Sight.{Sight}
use Rattle.sq_rules.specs.declared.values.Value.TheVariants as value
use Rattle.sq_machine.specs.AnswerReadings.{answer_at, answers, ended_answer, steps, waits_for, waits_told}
use Rattle.sq_machine.specs.Checks.{Asked, ask_count, ask_of, check_open}
use Rattle.sq_rules.specs.Classes.{Class}
use Rattle.sq_rules.specs.Configurations.{Configuration}
use Rattle.sq_machine.specs.Entries.{History}
use Rattle.sq_machine.specs.Events.{is_number, is_begin}
use Rattle.sq_machine.specs.FarmReadings.{farm_with}
use Rattle.sq_machine.specs.Farms.{full}
use Rattle.sq_machine.specs.Machine.{Legal, next_at}
use Rattle.sq_machine.specs.KeptLists.{CachedReplies, fresh_for}
use Rattle.sq_machine.specs.KeptReadings.{kept}
use Rattle.sq_rules.specs.Keys.{key_text}
use Rattle.sq_machine.specs.Limits.{key_limit}
use Rattle.sq_machine.specs.Next.{Next, gives, refuse_if}
use Rattle.sq_machine.specs.Marking.{mark, marked}
use Rattle.sq_machine.specs.Marks.{Marked, Past, Put, entries}
use Rattle.sq_machine.specs.Questions.{pending, put_count}
use Rattle.sq_machine.specs.StepRule.{StepSays, class_of_acl, says_asked, says_asked_of, says_done, says_fault, says_fresh, says_need, says_value, step_says, value_over}
use Rattle.sq_rules.specs.Walks.{walk_over}
use Rattle.sq_machine.proofs.CheckLaws.{open_born}
use Rattle.sq_model.specs.Carried.{NamesOnce}
use Rattle.sq_model.specs.Walked.{FewTaken, asks, external_count, is_took, times_took}
use Rattle.sq_model.specs.Waits.{IsNeeded, WaitsSo}
use Rattle.sq_model.proofs.ClassParts.{bytes_itself, bytes_same, equal, itself}
use Rattle.sq_model.proofs.DistinctLaws.{answers_distinct, needed_unanswered}
use Rattle.sq_model.proofs.LegalLaws.{legal_induction, next_steps}
use Rattle.sq_model.proofs.RuleLaws.{SaysOf, need_says, step_is}
use Rattle.sq_model.proofs.WaitLaws.{told_needs}
use Rattle.sq_model.proofs.WalkedLaws.{answers_asked}

-- waiting

given_open : (b : Bool) (r : Refusal) (n : Next) (answer : Told) → refuse_if (not b) r n ≡ gives answer → b ≡ true
given_open true r n answer e = refl
given_open false r n answer e = absurd (cc)

-- a step that is answered is of an open check, so of one that has begun
step_here : (configs : List Configuration) (m : Past) (now n : ℕ) (answer : Told)
    → next_at configs m now (Step n) ≡ gives answer → steps m n (Step n) ≡ true
unfolding next_at
step_here configs m now n answer e =
    ap₂ (λ (a b : Bool). a && b) (itself n)
    (up n (ask_count (entries m)) (open_born (entries m) n (given_open (check_open (entries m) n) _ _ answer e)))
  where
    up : (a b : ℕ) → a ≤ b → nat_le a b ≡ true
    up a b l = grind (arith, nat_tests)

-- a step that tells a check to wait tells it so for a key that it needs, and has no answer of
pub waits_so : (configs : List Configuration) (m : Past) (now n : ℕ) (answer : Told) (q : ℕ)
    → next_at configs m now (Step n) ≡ gives answer → answer ≡ told.Waits q
    → WaitsSo configs (mark configs m (record { moment = now; event = Step n; answer = answer }) ∷ m) n q
waits_so configs m now n answer q is tells =
    let d = told_needs configs m now n answer q is (step_here configs m now n answer is) (ap waits_told tells) in
    record {
      needed = d.needed;
      put_is_it = d.put_is_it;
      unanswered = needed_unanswered configs
          (mark configs m (record { moment = now; event = Step n; answer = answer }) ∷ m) n d.needed;
    }

pub waits_at : (configs : List Configuration) (m : Past) (now : ℕ) (event : Event) (answer : Told) (n q : ℕ)
    → next_at configs m now event ≡ gives answer → event ≡ Step n → answer ≡ told.Waits q
    → WaitsSo configs (mark configs m (record { moment = now; event = event; answer = answer }) ∷ m) n q
waits_at configs m now event answer n q is at tells =
    subst (λ (v : Event). WaitsSo configs (mark configs m (record { moment = now; event = v; answer = answer }) ∷ m) n
    q) (sym at)
    (waits_so configs m now n answer q (ap (next_at configs m now) (sym at) ∙ is) tells)

has_more : (xs ys : List Answer) (class : ℕ) (key : List ℕ) → has_answer xs class key ≡ true
    → has_answer (xs ++ ys) class key ≡ true
has_more [] ys class key e = absurd (let no : false ≡ true = e in cc)
has_more (a ∷ xs) ys class key e = by (a.class == class && bytes_eq a.key key) (has_more xs ys class key) e
  where
    by : (b : Bool) → (has_answer xs class key ≡ true → has_answer (xs ++ ys) class key ≡ true)
        → (b || has_answer xs class key) ≡ true → (b || has_answer (xs ++ ys) class key) ≡ true
    by true more e = refl
    by false more e = more e

-- a key that has an answer has it from then on
pub answer_lasts : (configs : List Configuration) (later m : Past) (n class : ℕ) (key : List ℕ)
    → has_answer (answers configs m n) class key ≡ true
    → has_answer (answers configs (later ++ m) n) class key ≡ true
answer_lasts configs [] m n class key e = e
answer_lasts configs (x ∷ later) m n class key e =
    has_more (answers configs (later ++ m) n) (option_to_list (answer_at configs (later ++ m) n x)) class key
    (answer_lasts configs later m n class key e)

-- so once it has one, no later step tells to wait for it
pub never_waits : (configs : List Configuration) (later m : Past) (n q : ℕ) → (w : WaitsSo configs (later ++ m) n q)
    → has_answer (answers configs m n) w.needed.place w.needed.key ≡ false
never_waits configs later m n q w = by (has_answer (answers configs m n) w.needed.place w.needed.key) refl
  where
    by : (b : Bool) → has_answer (answers configs m n) w.needed.place w.needed.key ≡ b → b ≡ false
    by false e = refl
    by true e = let no : true ≡ false = sym (answer_lasts configs later m n w.needed.place w.needed.key e)
        ∙ w.unanswered in absurd (cc)

-- being done

-- a step of a check that comes to a verdict says that it is done
verdict_done : (configs : List Configuration) (m : Past) (n now : ℕ) (a : Asked) (o : Outcome)
    → ask_of (entries m) n ≡ Some a → value_over configs a (answers configs m n) ≡ value.Verdict o
    → step_says configs m n now ≡ says_done
verdict_done configs m n now a o ask is = ap (says_asked_of configs m now (answers configs m n)) ask
    ∙ ap (says_value configs m a.epoch now) is

-- so it is answered
pub done_at : (configs : List Configuration) (m : Past) (now : ℕ) (event : Event) (answer : Told) (n : ℕ) (a : Asked)
    (o : Outcome) → next_at configs m now event ≡ gives answer → event ≡ Step n
    → ask_of (entries m) n ≡ Some a → value_over configs a (answers configs m n) ≡ value.Verdict o → answer ≡ told.Done
done_at configs m now event answer n a o is at ask v =
    sym (next_steps configs m now n answer (ap (next_at configs m now) (sym at) ∙ is))
    ∙ ap (λ (s : StepSays). s.answer) (verdict_done configs m n now a o ask v)

-- how many answers are taken

-- the places without the first of which this holds
abbrev drop_first : (ℕ → Bool) → List ℕ → List ℕ
drop_first g [] = []
drop_first g (p ∷ ps) = if g p then ps else p ∷ drop_first g ps

any_left : (f g : ℕ → Bool) (ps : List ℕ) → ((p : ℕ) → f p ≡ true → g p ≡ false) → list_any f ps ≡ true
    → list_any f (drop_first g ps) ≡ true
any_left f g [] apart e = e
any_left f g (p ∷ ps) apart e = by (f p) refl (g p) (λ t. apart p t) (any_left f g ps apart) e
  where
    by : (x : Bool) → f p ≡ x → (y : Bool) → (f p ≡ true → y ≡ false)
        → (list_any f ps ≡ true → list_any f (drop_first g ps) ≡ true) → (x || list_any f ps) ≡ true
        → list_any f (if y then ps else p ∷ drop_first g ps) ≡ true
    by true is true a more e = absurd (let no : true ≡ false = a is in cc)
    by true is false a more e = ap (λ (b : Bool). b || list_any f (drop_first g ps)) is
    by false is true a more e = e
    by false is false a more e = ap (λ (b : Bool). b || list_any f (drop_first g ps)) is ∙ more e

count_left : (c : Configuration) (g : ℕ → Bool) (ps : List ℕ)
    → ((p : ℕ) → g p ≡ true → is_some (class_of_acl c.acls p) ≡ true) → list_any g ps ≡ true
    → external_count c ps ≡ suc (external_count c (drop_first g ps))
count_left c g [] asked e = absurd (let no : false ≡ true = e in cc)
count_left c g (p ∷ ps) asked e = by (g p) (asked p) (count_left c g ps asked) e
  where
    kept : (b : Bool) (x y : ℕ) → x ≡ suc y → (if b then suc x else x) ≡ suc (if b then suc y else y)
    kept true x y e = ap suc e
    kept false x y e = e

    by : (y : Bool) → (y ≡ true → is_some (class_of_acl c.acls p) ≡ true)
        → (list_any g ps ≡ true → external_count c ps ≡ suc (external_count c (drop_first g ps)))
        → (y || list_any g ps) ≡ true
        → external_count c (p ∷ ps) ≡ suc (external_count c (if y then ps else p ∷ drop_first g ps))
    by true asked more e = ap (λ (b : Bool). if b then suc (external_count c ps) else external_count c ps) (asked refl)
    by false asked more e = kept (is_some (class_of_acl c.acls p)) (external_count c ps)
        (external_count c (drop_first g ps)) (more e)

one_class : (a b : ℕ) (o : Option ℕ) → is_number a o ≡ true → is_number b o ≡ true → a ≡ b
one_class a b None e f = absurd (let no : false ≡ true = e in cc)
one_class a b (Some k) e f = equal a k e ∙ sym (equal b k f)

some_class : (a : ℕ) (o : Option ℕ) → is_number a o ≡ true → is_some o ≡ true
some_class a None e = absurd (let no : false ≡ true = e in cc)
some_class a (Some k) e = refl

not_true : (b : Bool) → not b ≡ true → b ≡ false
not_true true e = absurd (cc)
not_true false e = refl

or_true : (b : Bool) → (b || true) ≡ true
or_true true = refl
or_true false = refl

-- distinct answers, each of which some place asks for, are at most the places that ask a class
few_asked : (c : Configuration) (s : Sight) (ps : List ℕ) (xs : List Answer) → are_distinct xs ≡ true
    → ((class : ℕ) (key : List ℕ) → has_answer xs class key ≡ true → list_any (asks c s class key) ps ≡ true)
    → length xs ≤ external_count c ps
few_asked c s ps [] d each = omega arith
few_asked c s ps (a ∷ xs) d each =
    let parts = and_parts (not (has_answer xs a.class a.key)) (are_distinct xs) d in
    let first : list_any (asks c s a.class a.key) ps ≡ true =
    each a.class a.key (ap₂ (λ (x y : Bool). (x && y) || has_answer xs a.class a.key) (itself a.class)
    (bytes_itself a.key)) in
    let count = count_left c (asks c s a.class a.key) ps
    (λ p e. some_class a.class (class_of_acl c.acls p) (asked a.class a.key p e).0) first in
    let less = few_asked c s (drop_first (asks c s a.class a.key) ps) xs parts.1
    (λ class key has. any_left (asks c s class key) (asks c s a.class a.key) ps
    (λ p e. apart class key p has (not_true (has_answer xs a.class a.key) parts.0) e (asks c s a.class a.key p) refl)
    (each class key (ap (λ (z : Bool). (a.class == class && bytes_eq a.key key) || z) has
    ∙ or_true (a.class == class && bytes_eq a.key key)))) in
    omega arith
  where
    asked : (class : ℕ) (key : List ℕ) (p : ℕ) → asks c s class key p ≡ true
        → (is_number class (class_of_acl c.acls p) ≡ true) × (bytes_eq (key_text c p s) key ≡ true)
    asked class key p e = and_parts (is_number class (class_of_acl c.acls p)) (bytes_eq (key_text c p s) key) e

    apart : (class : ℕ) (key : List ℕ) (p : ℕ) → has_answer xs class key ≡ true → has_answer xs a.class a.key ≡ false
        → asks c s class key p ≡ true
        → (b : Bool) → asks c s a.class a.key p ≡ b → b ≡ false
    apart class key p has none e false f = refl
    apart class key p has none e true f =
        let one = asked class key p e in
        let two = asked a.class a.key p f in
        let no : true ≡ false =
        sym has
        ∙ ap₂ (has_answer xs) (one_class class a.class (class_of_acl c.acls p) one.0 two.0)
        (sym (bytes_same (key_text c p s) key one.1) ∙ bytes_same (key_text c p s) a.key two.1)
        ∙ none in
        absurd (cc)

-- what a rule takes it tells
need_took : (class : Class) (p : Put) (now : ℕ) (k : CachedReplies) (o : Option ℕ) (f : Bool) (count : ℕ)
    → is_took (says_need class p now k o f count).answer ≡ is_some (says_need class p now k o f count).took
need_took class p now k o f count = by (nat_lt key_limit (length p.key))
  where
    of_asked : (o : Option ℕ) (f : Bool)
        → is_took (says_asked class.name p now o f count).answer ≡ is_some (says_asked class.name p now o f count).took
    of_asked (Some q) f = refl
    of_asked None true = refl
    of_asked None false = refl

    of_fresh : (v : Option CachedReply)
        → is_took (says_fresh class p now v o f count).answer ≡ is_some (says_fresh class p now v o f count).took
    of_fresh None = of_asked o f
    of_fresh (Some v) = refl

    by : (b : Bool) → is_took
        (if b then says_fault class.name p cause.KeyTooLong now
        else says_fresh class p now (fresh_for class p.key now k) o f count).answer
        ≡ is_some (if b then says_fault class.name p cause.KeyTooLong now
        else says_fresh class p now (fresh_for class p.key now k) o f count).took
    by true = refl
    by false = of_fresh (fresh_for class p.key now k)

need_said : (configs : List Configuration) (m : Past) (n now : ℕ) (d : IsNeeded configs m n)
    → is_took (need_says configs m n now d).answer ≡ is_some (need_says configs m n now d).took
need_said configs m n now d =
    need_took d.class (record { epoch = d.asked.epoch; class = d.place; key = d.key }) now
    (kept configs m d.asked.epoch d.place) (pending configs m d.asked.epoch d.place d.key)
    (full (farm_with configs m d.asked.epoch d.place d.class)) (put_count m)

says_took : (configs : List Configuration) (m : Past) (n now : ℕ)
    → is_took (step_says configs m n now).answer ≡ is_some (step_says configs m n now).took
says_took configs m n now = by (step_is configs m n now)
  where
    by : SaysOf configs m n now (step_says configs m n now)
        → is_took (step_says configs m n now).answer ≡ is_some (step_says configs m n now).took
    by (inl done) = ap (λ (s : StepSays). is_took s.answer) done ∙ sym (ap (λ (s : StepSays). is_some s.took) done)
    by (inr r) =
        ap (λ (s : StepSays). is_took s.answer) r.is ∙ need_said configs m n now r.needed
        ∙ sym (ap (λ (s : StepSays). is_some s.took) r.is)

told_took : (configs : List Configuration) (m : Past) (now : ℕ) (event : Event) (answer : Told) (n : ℕ)
    → next_at configs m now event ≡ gives answer → steps m n event ≡ true
    → is_took answer ≡ is_some (mark configs m (record { moment = now; event = event; answer = answer })).took
told_took configs m now (Step k) answer n is here = ap is_took (sym (next_steps configs m now k answer is))
    ∙ says_took configs m k now
told_took configs m now event answer n is here = absurd (let no : false ≡ true = here in cc)

-- each answer that a step took is one of the check's
record TookFew (configs : List Configuration) (m : Past) : Type 0 where
  few : (n : ℕ) → times_took m n ≤ length (answers configs m n)

took_next : (configs : List Configuration) (m : Past) (now : ℕ) (event : Event) (answer : Told)
    → next_at configs m now event ≡ gives answer → TookFew configs m
    → TookFew configs (mark configs m (record { moment = now; event = event; answer = answer }) ∷ m)
took_next configs m now event answer is t = record { few = λ n. by n (steps m n event) refl }
  where
    x : Marked
    x = mark configs m (record { moment = now; event = event; answer = answer })

    counted : (n : ℕ) (b : Bool) (o : Option Answer) → b ≡ is_some o → times_took m n ≤ length (answers configs m n)
        → (if b then suc (times_took m n) else times_took m n) ≤ length (answers configs m n ++ option_to_list o)
    counted n true None e l = absurd (cc)
    counted n true (Some z) e l = omega (arith, length-append (answers configs m n) (z ∷ []), l)
    counted n false o e l = omega (arith, length-append (answers configs m n) (option_to_list o), l)

    by : (n : ℕ) (b : Bool) → steps m n event ≡ b
        → (if b && is_took answer then suc (times_took m n) else times_took m n)
        ≤ length (answers configs m n
        ++ option_to_list (if b then x.took else ended_answer configs m (waits_for configs m n) now event answer))
    by n true here = counted n (is_took answer) x.took (told_took configs m now event answer n is here) (t.few n)
    by n false other =
        let l = t.few n in
        omega (
          arith,
          length-append (answers configs m n)
              (option_to_list (ended_answer configs m (waits_for configs m n) now event answer)),
          l,
        )

took_first : (configs : List Configuration) (now : ℕ) (event : Event) (answer : Told) → is_begin event ≡ true
    → TookFew configs (mark configs [] (record { moment = now; event = event; answer = answer }) ∷ [])
took_first configs now (Begin offset) answer b = record { few = λ n. omega arith }
took_first configs now event answer b = absurd (cc)

-- in every legal history the answers that steps of a check took are at most the acls of its walk that ask a class
pub few_taken : (configs : List Configuration) (h : History) → NamesOnce configs → Legal configs h
    → FewTaken configs (marked configs h)
few_taken configs h once legal = λ n a config ask at.
    let took = (legal_induction configs (TookFew configs) once (λ x b. took_first configs x.moment x.event x.answer b)
    (λ m now event answer is c p. took_next configs m now event answer is p) h legal).1.few n in
    let few = few_asked config a.sight (walk_over (answers configs (marked configs h) n) config a.sight)
    (answers configs (marked configs h) n) (answers_distinct configs h n once legal)
    (λ class key has. (answers_asked configs h once legal).asked n a config ask at class key has) in
    omega arith
