-- The answers of a check of a legal history: no two have one class and key.
use Rattle.std.proofs.Common.{◌≡◌, inl, inr, ℕ, List, [], ◌∷◌, ◌++◌, append-nil, Bool, true, false, not, ◌&&◌, ◌||◌, ◌==◌, nat_le, nat_lt, length, bytes_eq, if◌then◌else◌, Option, Some, None, option_to_list, refl, sym, ap, ap₂, ◌∙◌}
use Rattle.std.proofs.lemmas.Bool.{and_parts}
use Rattle.std.proofs.lemmas.Option.{none-some, same_Some}
use Rattle.sq_base.proofs.CommonLaws.{bytes_turned, eq_turned, then_some}
use Rattle.sq_base.specs.Distinct.{are_distinct, has_answer}
use Rattle.sq_base.specs.declared.helpers.Answer.{Answer}
use Rattle.sq_base.specs.declared.helpers.Cause.TheVariants as cause
use Rattle.sq_base.specs.declared.helpers.What.{What}
use Rattle.sq_base.specs.declared.helpers.What.TheVariants as what
use Rattle.sq_machine.specs.declared.entries.Event.{Event}
use Rattle.sq_machine.specs.declared.entries.Event.TheVariants.{Begin, Step}
use Rattle.sq_machine.specs.declared.entries.Told.{Told}
use Rattle.sq_machine.specs.declared.kept.CachedReply.{CachedReply}
use Rattle.sq_machine.specs.AnswerReadings.{answer_at, answer_by, answers, ended_answer, steps, waits_for}
use Rattle.sq_machine.specs.Checks.{ask_count}
use Rattle.sq_rules.specs.Classes.{Class}
use Rattle.sq_rules.specs.Configurations.{Configuration}
use Rattle.sq_machine.specs.Entries.{History}
use Rattle.sq_machine.specs.FarmReadings.{farm_with}
use Rattle.sq_machine.specs.Farms.{full}
use Rattle.sq_machine.specs.Machine.{Legal, next_at}
use Rattle.sq_machine.specs.KeptLists.{CachedReplies, fresh_for}
use Rattle.sq_machine.specs.KeptReadings.{kept}
use Rattle.sq_machine.specs.Limits.{key_limit}
use Rattle.sq_machine.specs.Epochs.{config_of}
use Rattle.sq_machine.specs.Events.{is_begin}
use Rattle.sq_machine.specs.Next.{gives}
use Rattle.sq_machine.specs.Marking.{mark, marked}
use Rattle.sq_machine.specs.Marks.{Marked, Past, Put, entries}
use Rattle.sq_machine.specs.Questions.{end_at, pending, put_count, put_is, put_of}
use Rattle.sq_machine.specs.StepRule.{StepSays, class_of_acl, says_asked, says_fault, says_fresh, says_need, step_says}
use Rattle.sq_rules.specs.Values.{answer_for}
use Rattle.sq_model.specs.Carried.{Carried, NamesOnce}
use Rattle.sq_model.specs.Waits.{IsNeeded, NeedsPut}
use Rattle.sq_model.proofs.ClassParts.{equal}
use Rattle.sq_model.proofs.LegalLaws.{legal_induction}
use Rattle.sq_model.proofs.NeedLaws.{value_needs}
use Rattle.sq_model.proofs.RuleLaws.{SaysOf, step_is}
use Rattle.sq_model.proofs.StayLaws.{put_parts}
use Rattle.sq_model.proofs.WaitLaws.{WaitsNeeded, needs_first, needs_next}

or_none : (b : Bool) → (b || false) ≡ b
or_none true = refl
or_none false = refl

or_grouped : (a b c : Bool) → (a || (b || c)) ≡ ((a || b) || c)
or_grouped true b c = refl
or_grouped false b c = refl

-- an answer is among some with one more where it was among them or is that one
pub has_last : (xs : List Answer) (a : Answer) (class : ℕ) (key : List ℕ)
    → has_answer (xs ++ a ∷ []) class key ≡ (has_answer xs class key || (a.class == class && bytes_eq a.key key))
has_last [] a class key = or_none (a.class == class && bytes_eq a.key key)
has_last (b ∷ xs) a class key =
    ap (λ (t : Bool). (b.class == class && bytes_eq b.key key) || t) (has_last xs a class key)
    ∙ or_grouped (b.class == class && bytes_eq b.key key) (has_answer xs class key)
    (a.class == class && bytes_eq a.key key)

-- an answer of a class and key that have none may stand behind distinct ones
distinct_last : (xs : List Answer) (a : Answer) → are_distinct xs ≡ true → has_answer xs a.class a.key ≡ false
    → are_distinct (xs ++ a ∷ []) ≡ true
distinct_last [] a d none = refl
distinct_last (b ∷ xs) a d none =
    ap₂ (λ (s t : Bool). not s && t)
    (has_last xs a b.class b.key
    ∙ ap₂ (λ (s t : Bool). has_answer xs b.class b.key || (s && t)) (eq_turned a.class b.class)
    (bytes_turned a.key b.key))
    (by (has_answer xs b.class b.key) (b.class == a.class && bytes_eq b.key a.key) (distinct_last xs a) d none)
    ∙ ends (has_answer xs b.class b.key) (b.class == a.class && bytes_eq b.key a.key) (has_answer xs a.class a.key)
    (are_distinct xs) d none
  where
    by : (x y : Bool)
        → (are_distinct xs ≡ true → has_answer xs a.class a.key ≡ false → are_distinct (xs ++ a ∷ []) ≡ true)
        → (not x && are_distinct xs) ≡ true
        → (y || has_answer xs a.class a.key) ≡ false → are_distinct (xs ++ a ∷ []) ≡ true
    by true y more d none = absurd (cc)
    by false true more d none = absurd (cc)
    by false false more d none = more d none

    ends : (x y z e : Bool) → (not x && e) ≡ true → (y || z) ≡ false → (not (x || y) && true) ≡ true
    ends true y z e d none = absurd (cc)
    ends false true z e d none = absurd (cc)
    ends false false z e d none = refl

no_answer : (xs : List Answer) (class : ℕ) (key : List ℕ) → answer_for xs class key ≡ None
    → has_answer xs class key ≡ false
no_answer [] class key e = refl
no_answer (a ∷ xs) class key e = by ((a.class == class) && bytes_eq a.key key) (no_answer xs class key) e
  where
    by : (b : Bool) → (answer_for xs class key ≡ None → has_answer xs class key ≡ false)
        → (if b then Some a.what else answer_for xs class key) ≡ None → (b || has_answer xs class key) ≡ false
    by true more e = absurd (none-some a.what (sym e))
    by false more e = more e

-- a key that a check needs has no answer
pub needed_unanswered : (configs : List Configuration) (m : Past) (n : ℕ) (d : IsNeeded configs m n)
    → has_answer (answers configs m n) d.place d.key ≡ false
needed_unanswered configs m n d =
    let t = then_some (λ (config : Configuration). class_of_acl config.acls d.acl) (config_of configs d.asked.epoch)
    d.place d.place_is in
    no_answer (answers configs m n) d.place d.key
    (value_needs configs d.asked (answers configs m n) t.0 d.acl d.key d.place t.1 d.value_is t.2)

-- what is taken for a need is of its class and key
record TakesIt (p : Put) (o : Option Answer) : Type 0 where
  takes : (a : Answer) → o ≡ Some a → (a.class ≡ p.class) × (a.key ≡ p.key)

takes_none : (p : Put) → TakesIt p None
takes_none p = record { takes = λ a e. absurd (none-some a e) }

takes_some : (p : Put) (b : Answer) → b.class ≡ p.class → b.key ≡ p.key → TakesIt p (Some b)
takes_some p b class key =
    record {
      takes = λ a e. let same = same_Some _ _ e in
          (ap (λ (z : Answer). z.class) (sym same) ∙ class, ap (λ (z : Answer). z.key) (sym same) ∙ key);
    }

takes_need : (class : Class) (p : Put) (now : ℕ) (k : CachedReplies) (o : Option ℕ) (f : Bool) (count : ℕ)
    → TakesIt p (says_need class p now k o f count).took
takes_need class p now k o f count = by (nat_lt key_limit (length p.key))
  where
    of_asked : (o : Option ℕ) (f : Bool) → TakesIt p (says_asked class.name p now o f count).took
    of_asked (Some q) f = takes_none p
    of_asked None true =
        takes_some p (record {
          class = p.class;
          key = p.key;
          what = what.Fault cause.QueueFull;
          question = None;
          date = now;
          taken = now;
        }) refl refl
    of_asked None false = takes_none p

    of_fresh : (v : Option CachedReply) → TakesIt p (says_fresh class p now v o f count).took
    of_fresh None = of_asked o f
    of_fresh (Some v) = takes_some p
        (record { class = p.class; key = p.key; what = v.what; question = Some v.question; date = v.date; taken = now })
        refl refl

    by : (b : Bool) → TakesIt p
        (if b then says_fault class.name p cause.KeyTooLong now
        else says_fresh class p now (fresh_for class p.key now k) o f count).took
    by true = takes_some p
        (record {
          class = p.class;
          key = p.key;
          what = what.Fault cause.KeyTooLong;
          question = None;
          date = now;
          taken = now;
        }) refl refl
    by false = of_fresh (fresh_for class p.key now k)

-- an answer of the class and key that check n needs
pub record MeetsNeed (configs : List Configuration) (m : Past) (n : ℕ) (a : Answer) : Type 0 where
  pub needed : IsNeeded configs m n
  pub class_is : a.class ≡ needed.place
  pub key_is : a.key ≡ needed.key

-- an answer that a check gets is one that it needs
pub record GetsNeeded (configs : List Configuration) (m : Past) (n : ℕ) (o : Option Answer) : Type 0 where
  pub gets : (a : Answer) → o ≡ Some a → MeetsNeed configs m n a

gets_none : (configs : List Configuration) (m : Past) (n : ℕ) → GetsNeeded configs m n None
gets_none configs m n = record { gets = λ a e. absurd (none-some a e) }

took_needed : (configs : List Configuration) (m : Past) (n now : ℕ)
    → GetsNeeded configs m n (step_says configs m n now).took
took_needed configs m n now = record { gets = λ a e. by (step_is configs m n now) a e }
  where
    by : SaysOf configs m n now (step_says configs m n now) → (a : Answer) → (step_says configs m n now).took ≡ Some a
        → MeetsNeed configs m n a
    by (inl done) a e = absurd (none-some a (sym (ap (λ (s : StepSays). s.took) done) ∙ e))
    by (inr r) a e =
        let t = (takes_need r.needed.class
        (record { epoch = r.needed.asked.epoch; class = r.needed.place; key = r.needed.key }) now
        (kept configs m r.needed.asked.epoch r.needed.place)
        (pending configs m r.needed.asked.epoch r.needed.place r.needed.key)
        (full (farm_with configs m r.needed.asked.epoch r.needed.place r.needed.class)) (put_count m)).takes a (sym
        (ap (λ (s : StepSays). s.took) r.is) ∙ e) in
        record { needed = r.needed; class_is = t.0; key_is = t.1 }

ended_needed : (configs : List Configuration) (m : Past) (n date : ℕ) (event : Event) (answer : Told)
    → WaitsNeeded configs m → (o : Option ℕ) → waits_for configs m n ≡ o
    → GetsNeeded configs m n (ended_answer configs m o date event answer)
ended_needed configs m n date event answer w None waits = gets_none configs m n
ended_needed configs m n date event answer w (Some q) waits = by (put_of m q) refl (end_at configs m q event answer)
  where
    s : NeedsPut configs m n q
    s = w.needs n q waits

    by : (p : Option Put) → put_of m q ≡ p → (v : Option What) → GetsNeeded configs m n (answer_by date q p v)
    by None put v = gets_none configs m n
    by (Some p) put None = gets_none configs m n
    by (Some p) put (Some v) = record {
      gets = λ a e.
          let same = same_Some _ _ e in
          let parts = put_parts s.needed.asked.epoch s.needed.place s.needed.key p
          (ap (put_is s.needed.asked.epoch s.needed.place s.needed.key) (sym put) ∙ s.put_is_it) in
          record {
            needed = s.needed;
            class_is = ap (λ (z : Answer). z.class) (sym same) ∙ parts.1;
            key_is = ap (λ (z : Answer). z.key) (sym same) ∙ parts.2;
          };
    }

stepped_needed : (configs : List Configuration) (m : Past) (now : ℕ) (event : Event) (answer : Told) (n : ℕ)
    → steps m n event ≡ true
    → GetsNeeded configs m n (mark configs m (record { moment = now; event = event; answer = answer })).took
stepped_needed configs m now (Step k) answer n here =
    record {
      gets = λ a e. (took_needed configs m n now).gets a
          (ap (λ (i : ℕ). (step_says configs m i now).took)
          (equal n k (and_parts (n == k) (nat_le n (ask_count (entries m))) here).0) ∙ e);
    }
stepped_needed configs m now event answer n here = gets_none configs m n

-- what an entry gives a check is an answer that it needs
pub gets_needed : (configs : List Configuration) (m : Past) (now : ℕ) (event : Event) (answer : Told) (n : ℕ)
    → WaitsNeeded configs m
    → GetsNeeded configs m n
    (answer_at configs m n (mark configs m (record { moment = now; event = event; answer = answer })))
gets_needed configs m now event answer n w = by (steps m n event) refl
  where
    x : Marked
    x = mark configs m (record { moment = now; event = event; answer = answer })

    by : (b : Bool) → steps m n event ≡ b
        → GetsNeeded configs m n (if b then x.took else ended_answer configs m (waits_for configs m n) now event answer)
    by true here = stepped_needed configs m now event answer n here
    by false other = ended_needed configs m n now event answer w (waits_for configs m n) refl

-- no two answers of a check have one class and key
pub record AnswersDistinct (configs : List Configuration) (m : Past) : Type 0 where
  pub waits : WaitsNeeded configs m
  pub distinct : (n : ℕ) → are_distinct (answers configs m n) ≡ true

distinct_more : (configs : List Configuration) (m : Past) (n : ℕ) (o : Option Answer)
    → are_distinct (answers configs m n) ≡ true → GetsNeeded configs m n o
    → are_distinct (answers configs m n ++ option_to_list o) ≡ true
distinct_more configs m n None d g = ap are_distinct (append-nil (answers configs m n)) ∙ d
distinct_more configs m n (Some a) d g =
    let t = g.gets a refl in
    distinct_last (answers configs m n) a d
    (ap₂ (has_answer (answers configs m n)) t.class_is t.key_is ∙ needed_unanswered configs m n t.needed)

distinct_next : (configs : List Configuration) (m : Past) (now : ℕ) (event : Event) (answer : Told) → NamesOnce configs
    → next_at configs m now event ≡ gives answer → Carried configs m
    → AnswersDistinct configs m
    → AnswersDistinct configs (mark configs m (record { moment = now; event = event; answer = answer }) ∷ m)
distinct_next configs m now event answer once is c d = record {
  waits = needs_next configs m now event answer once is c d.waits;
  distinct = λ n. distinct_more configs m n
      (answer_at configs m n (mark configs m (record { moment = now; event = event; answer = answer }))) (d.distinct n)
      (gets_needed configs m now event answer n d.waits);
}

distinct_first : (configs : List Configuration) (now : ℕ) (event : Event) (answer : Told) → is_begin event ≡ true
    → AnswersDistinct configs (mark configs [] (record { moment = now; event = event; answer = answer }) ∷ [])
distinct_first configs now (Begin offset) answer b = record {
  waits = needs_first configs now (Begin offset) answer b;
  distinct = λ n. refl;
}
distinct_first configs now event answer b = absurd (cc)

-- so it is in every legal history
pub answers_distinct : (configs : List Configuration) (h : History) (n : ℕ) → NamesOnce configs → Legal configs h
    → are_distinct (answers configs (marked configs h) n) ≡ true
answers_distinct configs h n once legal =
    (legal_induction configs (AnswersDistinct configs) once (λ x b. distinct_first configs x.moment x.event x.answer b)
    (λ m now event answer is c d. distinct_next configs m now event answer once is c d) h legal).1.distinct n
