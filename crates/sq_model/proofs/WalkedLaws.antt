-- The classes and keys of the answers of a check of a legal history are those that its walk asks for.
use Rattle.std.proofs.Common.{◌≡◌, ◌⊎◌, inl, inr, ℕ, ◌<◌, List, [], ◌∷◌, ◌++◌, append-nil, Bool, true, false, ◌&&◌, ◌||◌, ◌==◌, nat_le, bytes_eq, slice_get, if◌then◌else◌, Option, Some, None, option_to_list, refl, sym, ap, ap₂, ◌∙◌, arith}
use Rattle.std.specs.Option.{option_and_then, option_map_or}
use Rattle.std.proofs.lemmas.Bool.{and_parts, or_cases}
use Rattle.std.proofs.lemmas.Bool.Decides.{nat_tests}
use Rattle.std.proofs.lemmas.Option.{none-some, same_Some}
use Rattle.sq_base.proofs.CommonLaws.{then_some}
use Rattle.sq_base.specs.Distinct.{has_answer}
use Rattle.sq_base.specs.declared.helpers.Answer.{Answer}
use Rattle.sq_base.specs.declared.helpers.What.{What}
use Rattle.sq_base.specs.declared.helpers.What.TheVariants as what
use Rattle.sq_rules.specs.declared.configs.Acl.{Acl}
use Rattle.sq_rules.specs.declared.configs.Body.{Body}
use Rattle.sq_rules.specs.declared.configs.Body.TheVariants as body
use Rattle.sq_machine.specs.declared.entries.Event.{Event}
use Rattle.sq_machine.specs.declared.entries.Event.TheVariants.{Ask, Begin, Step}
use Rattle.sq_machine.specs.declared.entries.Told.{Told}
use Rattle.sq_machine.specs.declared.entries.Told.TheVariants as told
use Rattle.sq_rules.specs.declared.outcomes.Outcome.{Outcome}
use Rattle.sq_rules.specs.declared.outcomes.Why.TheVariants as why
use Rattle.sq_rules.specs.declared.sights.Sight.{Sight}
use Rattle.sq_rules.specs.declared.values.TermValue.{TermValue}
use Rattle.sq_rules.specs.declared.values.TermValue.TheVariants.{Need}
use Rattle.sq_rules.specs.declared.values.Value.TheVariants as value
use Rattle.sq_machine.specs.AnswerReadings.{answer_at, answers, ended_answer}
use Rattle.sq_machine.specs.Checks.{Asked, ask_count, ask_of, is_done, numbered}
use Rattle.sq_rules.specs.Configurations.{Configuration, IsConfiguration}
use Rattle.sq_machine.specs.Entries.{History}
use Rattle.sq_machine.specs.Events.{Asking, asking, done_check, is_number, is_begin}
use Rattle.sq_machine.specs.Machine.{Legal, next_at}
use Rattle.sq_rules.specs.Keys.{key_text}
use Rattle.sq_rules.specs.Leaves.{holds}
use Rattle.sq_machine.specs.Epochs.{config_of}
use Rattle.sq_machine.specs.Next.{gives}
use Rattle.sq_machine.specs.Marking.{mark, marked}
use Rattle.sq_machine.specs.Marks.{Marked, Past, entries}
use Rattle.sq_machine.specs.Questions.{unended}
use Rattle.sq_machine.specs.StepRule.{class_of_acl, class_of_body, step_says, value_over}
use Rattle.sq_rules.specs.Values.{answer_for, answer_value, taken_at, taken_of_acl, taken_of_body, value_if}
use Rattle.sq_rules.specs.Verdicts.{verdict_over}
use Rattle.sq_machine.proofs.CheckLaws.{ask_of_kept, is_done_more}
use Rattle.sq_model.specs.Carried.{Carried, NamesOnce}
use Rattle.sq_model.specs.Given.{EachOf}
use Rattle.sq_model.specs.Waits.{IsNeeded}
use Rattle.sq_model.specs.Walked.{AreWalked, asks, walk_asks}
use Rattle.sq_model.proofs.ClassParts.{bytes_itself, bytes_same, equal, itself}
use Rattle.sq_model.proofs.ConfigurationLaws.{done_decided, names_once}
use Rattle.sq_model.proofs.DistinctLaws.{GetsNeeded, MeetsNeed, gets_needed, has_last}
use Rattle.sq_model.proofs.LegalLaws.{legal_induction, next_steps}
use Rattle.sq_model.proofs.NumberLaws.{answers_above, done_above, last_wait_above, new_number}
use Rattle.sq_model.proofs.WaitLaws.{WaitsNeeded, needs_first, needs_next}
use Rattle.sq_model.proofs.WalkLaws.{is_need, need_walked, walk_answered, walk_grows}

-- what a check comes to, where its configuration is there
pub value_is : (configs : List Configuration) (a : Asked) (xs : List Answer) (config : Configuration)
    → config_of configs a.epoch ≡ Some config
    → value_over configs a xs ≡ verdict_over xs config a.sight
value_is configs a xs config at =
    ap (λ (o : Option Configuration). option_map_or (λ config. verdict_over xs config a.sight) o
    (value.Verdict (record { allow = false; why = why.Empty }))) at

answered : (xs : List Answer) (class : ℕ) (key : List ℕ) (w : What) → answer_for xs class key ≡ Some w
    → has_answer xs class key ≡ true
answered [] class key w e = absurd (none-some w e)
answered (a ∷ xs) class key w e = by ((a.class == class) && bytes_eq a.key key) (answered xs class key w) e
  where
    by : (b : Bool) → (answer_for xs class key ≡ Some w → has_answer xs class key ≡ true)
        → (if b then Some a.what else answer_for xs class key) ≡ Some w → (b || has_answer xs class key) ≡ true
    by true more e = refl
    by false more e = more e

-- a place without a need that asks for a key has an answer of that key
place_answered : (c : Configuration) (s : Sight) (xs : List Answer) (class : ℕ) (key : List ℕ) (p : ℕ)
    → is_need (taken_at c s xs p) ≡ false → asks c s class key p ≡ true
    → has_answer xs class key ≡ true
place_answered c s xs class key p clear t = by (slice_get c.acls p) clear asked.0
  where
    asked : (is_number class (class_of_acl c.acls p) ≡ true) × (bytes_eq (key_text c p s) key ≡ true)
    asked = and_parts (is_number class (class_of_acl c.acls p)) (bytes_eq (key_text c p s) key) t

    got : (d : ℕ) → class ≡ d → (o : Option What) → answer_for xs d (key_text c p s) ≡ o
        → is_need (answer_value p (key_text c p s) o) ≡ false → has_answer xs class key ≡ true
    got d same None is e = absurd (cc)
    got d same (Some w) is e = answered xs class key w
        (ap₂ (answer_for xs) same (sym (bytes_same (key_text c p s) key asked.1)) ∙ is)

    by_body : (b : Body) → is_need (taken_of_body c s xs p b) ≡ false → is_number class (class_of_body b) ≡ true
        → has_answer xs class key ≡ true
    by_body (body.External d arguments) e n = got d (equal class d n) (answer_for xs d (key_text c p s)) refl e
    by_body (body.Leaf l) e n = absurd (cc)
    by_body (body.AnyOf terms) e n = absurd (cc)
    by_body (body.AllOf lines) e n = absurd (cc)

    by : (o : Option Acl) → is_need (taken_of_acl c s xs p o) ≡ false
        → is_number class (option_and_then (λ (a : Acl). class_of_body a.body) o) ≡ true
        → has_answer xs class key ≡ true
    by None e n = absurd (cc)
    by (Some a) e n = by_body a.body e n

-- over answers that give a verdict, each key that the walk asks for has an answer
walk_has : (c : Configuration) (s : Sight) (xs : List Answer) (o : Outcome) (class : ℕ) (key : List ℕ)
    → verdict_over xs c s ≡ value.Verdict o → walk_asks xs c s class key ≡ true
    → has_answer xs class key ≡ true
walk_has c s xs o class key is t = walk_answered (asks c s class key) (has_answer xs class key) xs c s o is
    (λ p e f. place_answered c s xs class key p e f) t

needed_place : ℕ → TermValue → ℕ
needed_place d (Need acl key) = acl
needed_place d v = d

needed_text : List ℕ → TermValue → List ℕ
needed_text d (Need acl key) = key
needed_text d v = d

-- a place whose value is a need needs its own key
need_own : (c : Configuration) (s : Sight) (xs : List Answer) (p acl : ℕ) (key : List ℕ)
    → taken_at c s xs p ≡ Need acl key → (acl ≡ p) × (key ≡ key_text c p s)
unfolding needed_place needed_text
need_own c s xs p acl key e = by (slice_get c.acls p) e
  where
    leaf : (b : Bool) → value_if b ≡ Need acl key → (acl ≡ p) × (key ≡ key_text c p s)
    leaf true e = absurd (cc)
    leaf false e = absurd (cc)

    got : (o : Option What) → answer_value p (key_text c p s) o ≡ Need acl key → (acl ≡ p) × (key ≡ key_text c p s)
    got None e = (sym (ap (needed_place p) e), sym (ap (needed_text (key_text c p s)) e))
    got (Some (what.Yes pairs)) e = absurd (cc)
    got (Some (what.No pairs)) e = absurd (cc)
    got (Some (what.Fault cause)) e = absurd (cc)

    by_body : (b : Body) → taken_of_body c s xs p b ≡ Need acl key → (acl ≡ p) × (key ≡ key_text c p s)
    by_body (body.Leaf l) e = leaf (holds l s) e
    by_body (body.External d arguments) e = got (answer_for xs d (key_text c p s)) e
    by_body (body.AnyOf terms) e = absurd (cc)
    by_body (body.AllOf lines) e = absurd (cc)

    by : (o : Option Acl) → taken_of_acl c s xs p o ≡ Need acl key → (acl ≡ p) × (key ≡ key_text c p s)
    by None e = absurd (cc)
    by (Some a) e = by_body a.body e

-- a key that is needed is asked for by the walk
need_asks : (c : Configuration) (s : Sight) (xs : List Answer) (acl class : ℕ) (key : List ℕ)
    → verdict_over xs c s ≡ value.Need acl key → class_of_acl c.acls acl ≡ Some class
    → walk_asks xs c s class key ≡ true
need_asks c s xs acl class key is at =
    need_walked (asks c s class key) xs c s acl key is
    (λ p e. let own = need_own c s xs p acl key e in
    ap₂ (λ (a b : Bool). a && b)
    (ap (λ (i : ℕ). is_number class (class_of_acl c.acls i)) (sym own.0) ∙ ap (is_number class) at ∙ itself class)
    (ap (bytes_eq (key_text c p s)) own.1 ∙ bytes_itself (key_text c p s)))

-- each answer of a check is of a class and key that its walk asks for
pub record AnswersAsked (configs : List Configuration) (m : Past) : Type 0 where
  pub waits : WaitsNeeded configs m
  pub asked : (n : ℕ) (a : Asked) (config : Configuration) → ask_of (entries m) n ≡ Some a
      → config_of configs a.epoch ≡ Some config → (class : ℕ) (key : List ℕ)
      → has_answer (answers configs m n) class key ≡ true
      → walk_asks (answers configs m n) config a.sight class key ≡ true

-- the need that an answer meets, in the check's configuration
need_in : (configs : List Configuration) (m : Past) (n : ℕ) (a : Asked) (config : Configuration)
    (d : IsNeeded configs m n) → ask_of (entries m) n ≡ Some a → config_of configs a.epoch ≡ Some config
    → (verdict_over (answers configs m n) config a.sight ≡ value.Need d.acl d.key)
    × (class_of_acl config.acls d.acl ≡ Some d.place)
need_in configs m n a config d ask at =
    let same : d.asked ≡ a = same_Some _ _ (sym d.ask_is ∙ ask) in
    let t = then_some (λ (k : Configuration). class_of_acl k.acls d.acl) (config_of configs d.asked.epoch) d.place
    d.place_is in
    let one : t.0 ≡ config = same_Some _ _ (sym t.1 ∙ ap (λ (z : Asked). config_of configs z.epoch) same ∙ at) in (
      sym (value_is configs a (answers configs m n) config at)
          ∙ ap (λ (z : Asked). value_over configs z (answers configs m n)) (sym same) ∙ d.value_is,
      ap (λ (k : Configuration). class_of_acl k.acls d.acl) (sym one) ∙ t.2,
    )

-- with an answer more that meets a need
asked_more : (configs : List Configuration) (m : Past) (n : ℕ) (a : Asked) (config : Configuration) (o : Option Answer)
    → ask_of (entries m) n ≡ Some a → config_of configs a.epoch ≡ Some config
    → AnswersAsked configs m → GetsNeeded configs m n o → (class : ℕ) (key : List ℕ)
    → has_answer (answers configs m n ++ option_to_list o) class key ≡ true
    → walk_asks (answers configs m n ++ option_to_list o) config a.sight class key ≡ true
asked_more configs m n a config None ask at p g class key has =
    ap (λ (xs : List Answer). walk_asks xs config a.sight class key) (append-nil (answers configs m n))
    ∙ p.asked n a config ask
    at class key (sym (ap (λ (xs : List Answer). has_answer xs class key) (append-nil (answers configs m n))) ∙ has)
asked_more configs m n a config (Some z) ask at p g class key has =
    walk_grows (asks config a.sight class key) xs (z ∷ []) config a.sight
    (by (or_cases (has_answer xs class key) (z.class == class && bytes_eq z.key key)
    (sym (has_last xs z class key) ∙ has)))
  where
    xs : List Answer
    xs = answers configs m n

    meets : MeetsNeed configs m n z
    meets = g.gets z refl

    by : (has_answer xs class key ≡ true) ⊎ ((z.class == class && bytes_eq z.key key) ≡ true)
        → walk_asks xs config a.sight class key ≡ true
    by (inl e) = p.asked n a config ask at class key e
    by (inr e) =
        let d = need_in configs m n a config meets.needed ask at in
        let parts = and_parts (z.class == class) (bytes_eq z.key key) e in
        ap₂ (walk_asks xs config a.sight) (sym (equal z.class class parts.0) ∙ meets.class_is)
        (sym (bytes_same z.key key parts.1) ∙ meets.key_is)
        ∙ need_asks config a.sight xs meets.needed.acl meets.needed.place meets.needed.key d.0 d.1

-- a check that an entry begins has no answers yet
begun_none : (configs : List Configuration) (m : Past) (now : ℕ) (event : Event) (answer : Told) (n : ℕ) (b : Asking)
    → numbered n (ask_count (entries m)) (asking event) ≡ Some b
    → answers configs (mark configs m (record { moment = now; event = event; answer = answer }) ∷ m) n ≡ []
begun_none configs m now (Ask c method target fields) answer n b new =
    let above = new_number n (ask_count (entries m)) (asking (Ask c method target fields)) b new in
    ap₂ (λ (xs : List Answer) (o : Option ℕ). xs
    ++ option_to_list (ended_answer configs m (unended configs m o) now (Ask c method target fields) answer))
    (answers_above configs m n above) (last_wait_above m n above)
begun_none configs m now event answer n b new = absurd (none-some b new)

asked_next : (configs : List Configuration) (m : Past) (now : ℕ) (event : Event) (answer : Told) → NamesOnce configs
    → next_at configs m now event ≡ gives answer → Carried configs m
    → AnswersAsked configs m
    → AnswersAsked configs (mark configs m (record { moment = now; event = event; answer = answer }) ∷ m)
asked_next configs m now event answer once is c p = record {
  waits = needs_next configs m now event answer once is c p.waits;
  asked = λ n a config ask at class key has. by n a config ask
      at class key has (numbered n (ask_count (entries m)) (asking event)) refl;
}
  where
    x : Marked
    x = mark configs m (record { moment = now; event = event; answer = answer })

    by : (n : ℕ) (a : Asked) (config : Configuration) → ask_of (entries (x ∷ m)) n ≡ Some a
        → config_of configs a.epoch ≡ Some config → (class : ℕ) (key : List ℕ)
        → has_answer (answers configs (x ∷ m) n) class key ≡ true → (o : Option Asking)
        → numbered n (ask_count (entries m)) (asking event) ≡ o
        → walk_asks (answers configs (x ∷ m) n) config a.sight class key ≡ true
    by n a config ask at class key has None old =
        asked_more configs m n a config (answer_at configs m n x) (sym (ask_of_kept x.entry (entries m) n old) ∙ ask)
        at p (gets_needed configs m now event answer n p.waits) class key has
    by n a config ask at class key has (Some b) new =
        absurd (let none = begun_none configs m now event answer n b new in
        let no : false ≡ true = sym (ap (λ (xs : List Answer). has_answer xs class key) none) ∙ has in cc)

asked_first : (configs : List Configuration) (now : ℕ) (event : Event) (answer : Told) → is_begin event ≡ true
    → AnswersAsked configs (mark configs [] (record { moment = now; event = event; answer = answer }) ∷ [])
asked_first configs now (Begin offset) answer b =
    record {
      waits = needs_first configs now (Begin offset) answer b;
      asked = λ n a config ask at class key has. absurd (let no : false ≡ true = has in cc);
    }
asked_first configs now event answer b = absurd (cc)

-- so it is in every legal history
pub answers_asked : (configs : List Configuration) (h : History) → NamesOnce configs → Legal configs h
    → AnswersAsked configs (marked configs h)
answers_asked configs h once legal =
    (legal_induction configs (AnswersAsked configs) once (λ x b. asked_first configs x.moment x.event x.answer b)
    (λ m now event answer is c p. asked_next configs m now event answer once is c p) h legal).1

bools_same : (a b : Bool) → (a ≡ true → b ≡ true) → (b ≡ true → a ≡ true) → a ≡ b
bools_same true b f g = sym (f refl)
bools_same false true f g = g refl
bools_same false false f g = refl

-- of a check that comes to a verdict, the classes and keys of the answers are exactly those that the walk asks for
pub asked_walked : (configs : List Configuration) (m : Past) (n : ℕ) (a : Asked) (config : Configuration) (o : Outcome)
    → AnswersAsked configs m → ask_of (entries m) n ≡ Some a
    → config_of configs a.epoch ≡ Some config → value_over configs a (answers configs m n) ≡ value.Verdict o
    → AreWalked (answers configs m n) config a.sight
asked_walked configs m n a config o p ask at is = λ class key.
    bools_same (has_answer (answers configs m n) class key) (walk_asks (answers configs m n) config a.sight class key)
    (p.asked n a config ask at class key)
    (walk_has config a.sight (answers configs m n) o class key
    (sym (value_is configs a (answers configs m n) config at) ∙ is))

-- so it is in every legal history
pub answers_walked : (configs : List Configuration) (h : History) (n : ℕ) (a : Asked) (config : Configuration)
    (o : Outcome) → NamesOnce configs → Legal configs h
    → ask_of (entries (marked configs h)) n ≡ Some a → config_of configs a.epoch ≡ Some config
    → value_over configs a (answers configs (marked configs h) n) ≡ value.Verdict o
    → AreWalked (answers configs (marked configs h) n) config a.sight
answers_walked configs h n a config o once legal ask at is =
    asked_walked configs (marked configs h) n a config o (answers_asked configs h once legal) ask at is

-- a check that is done comes to a verdict over its answers
pub record DoneDecided (configs : List Configuration) (m : Past) : Type 0 where
  pub waits : WaitsNeeded configs m
  pub decided : (n : ℕ) (a : Asked) → is_done (entries m) n ≡ true → ask_of (entries m) n ≡ Some a
      → (o : Outcome) × (value_over configs a (answers configs m n) ≡ value.Verdict o)

-- a check that needs a key has no verdict
undecided : (configs : List Configuration) (m : Past) (n : ℕ) (a : Asked) (o : Outcome) (d : IsNeeded configs m n)
    → ask_of (entries m) n ≡ Some a
    → value_over configs a (answers configs m n) ≡ value.Verdict o → ⊥
undecided configs m n a o d ask is =
    let same : d.asked ≡ a = same_Some _ _ (sym d.ask_is ∙ ask) in
    let no : value.Need d.acl d.key ≡ value.Verdict o = sym d.value_is
    ∙ ap (λ (z : Asked). value_over configs z (answers configs m n)) same ∙ is in
    cc

-- a verdict over some answers stays, since no answer comes that it does not need
verdict_stays : (configs : List Configuration) (m : Past) (n : ℕ) (a : Asked) (o : Outcome) (z : Option Answer)
    → GetsNeeded configs m n z → ask_of (entries m) n ≡ Some a
    → value_over configs a (answers configs m n) ≡ value.Verdict o
    → value_over configs a (answers configs m n ++ option_to_list z) ≡ value.Verdict o
verdict_stays configs m n a o None g ask is = ap (value_over configs a) (append-nil (answers configs m n)) ∙ is
verdict_stays configs m n a o (Some z) g ask is = absurd (undecided configs m n a o (g.gets z refl).needed ask is)

-- the check whose step was answered that it is done, or one that was done before
done_here : (configs : List Configuration) (m : Past) (now : ℕ) (event : Event) (answer : Told) (n : ℕ) (a : Asked)
    → EachOf IsConfiguration configs → next_at configs m now event ≡ gives answer
    → ask_of (entries m) n ≡ Some a → is_number n (done_check event answer) ≡ true
    → (o : Outcome) × (value_over configs a (answers configs m n) ≡ value.Verdict o)
done_here configs m now (Step k) told.Done n a each is ask e =
    let same : n ≡ k = equal n k e in
    done_decided configs m n now a each ask
    (ap (λ (i : ℕ). (step_says configs m i now).answer) same ∙ next_steps configs m now k told.Done is)
done_here configs m now (Step k) answer n a each is ask e = absurd (let no : false ≡ true = e in cc)
done_here configs m now event answer n a each is ask e = absurd (let no : false ≡ true = e in cc)

decided_next : (configs : List Configuration) (m : Past) (now : ℕ) (event : Event) (answer : Told)
    → EachOf IsConfiguration configs → NamesOnce configs → next_at configs m now event ≡ gives answer
    → Carried configs m → DoneDecided configs m
    → DoneDecided configs (mark configs m (record { moment = now; event = event; answer = answer }) ∷ m)
decided_next configs m now event answer each once is c p = record {
  waits = needs_next configs m now event answer once is c p.waits;
  decided = λ n a done ask. by n a (sym (is_done_more x.entry (entries m) n) ∙ done) ask
      (numbered n (ask_count (entries m)) (asking event)) refl;
}
  where
    x : Marked
    x = mark configs m (record { moment = now; event = event; answer = answer })

    high : (a b : ℕ) → b < a → nat_le a b ≡ false
    high a b l = grind (arith, nat_tests)

    unborn : (a b d : Bool) → b ≡ false → d ≡ false → ((a && b) || d) ≡ true → ⊥
    unborn a true d e f t = absurd (cc)
    unborn true false true e f t = absurd (cc)
    unborn true false false e f t = absurd (cc)
    unborn false false true e f t = absurd (cc)
    unborn false false false e f t = absurd (cc)

    was : (n : ℕ) (a : Asked) → ask_of (entries m) n ≡ Some a
        → ((is_number n (done_check event answer) && nat_le n (ask_count (entries m))) ≡ true)
        ⊎ (is_done (entries m) n ≡ true)
        → (o : Outcome) × (value_over configs a (answers configs m n) ≡ value.Verdict o)
    was n a ask (inl here) = done_here configs m now event answer n a each is ask
        (and_parts (is_number n (done_check event answer)) (nat_le n (ask_count (entries m))) here).0
    was n a ask (inr before) = p.decided n a before ask

    by : (n : ℕ) (a : Asked)
        → ((is_number n (done_check event answer) && nat_le n (ask_count (entries m))) || is_done (entries m) n) ≡ true
        → ask_of (entries (x ∷ m)) n ≡ Some a
        → (o : Option Asking) → numbered n (ask_count (entries m)) (asking event) ≡ o
        → (o : Outcome) × (value_over configs a (answers configs (x ∷ m) n) ≡ value.Verdict o)
    by n a done ask None old =
        let before : ask_of (entries m) n ≡ Some a = sym (ask_of_kept x.entry (entries m) n old) ∙ ask in
        let v = was n a before (or_cases (is_number n (done_check event answer) && nat_le n (ask_count (entries m)))
        (is_done (entries m) n) done) in (
          v.0,
          verdict_stays configs m n a v.0 (answer_at configs m n x)
              (gets_needed configs m now event answer n p.waits) before v.1,
        )
    by n a done ask (Some b) new =
        let above = new_number n (ask_count (entries m)) (asking event) b new in
        absurd (unborn (is_number n (done_check event answer)) (nat_le n (ask_count (entries m)))
        (is_done (entries m) n) (high n (ask_count (entries m)) above) (done_above (entries m) n above) done)

none_asked : (n : ℕ) → ask_of [] n ≡ None
unfolding ask_of
none_asked n = refl

decided_first : (configs : List Configuration) (now : ℕ) (event : Event) (answer : Told) → is_begin event ≡ true
    → DoneDecided configs (mark configs [] (record { moment = now; event = event; answer = answer }) ∷ [])
decided_first configs now (Begin offset) answer b = record {
  waits = needs_first configs now (Begin offset) answer b;
  decided = λ n a done ask. absurd
      (none-some a (sym (ask_of_kept (record { moment = now; event = Begin offset; answer = answer }) [] n refl
      ∙ none_asked n) ∙ ask));
}
decided_first configs now event answer b = absurd (cc)

-- in a legal history, where each configuration is one, a check that is done comes to a verdict
pub done_verdict : (configs : List Configuration) (h : History) → EachOf IsConfiguration configs → Legal configs h
    → DoneDecided configs (marked configs h)
done_verdict configs h each legal =
    (legal_induction configs (DoneDecided configs) (names_once configs each)
    (λ x b. decided_first configs x.moment x.event x.answer b)
    (λ m now event answer is c p. decided_next configs m now event answer each (names_once configs each) is c p) h
    legal).1

-- of a check that is done, the classes and keys of the answers are exactly those that the walk asks for
pub done_walked : (configs : List Configuration) (h : History) (n : ℕ) (a : Asked) (config : Configuration)
    → EachOf IsConfiguration configs → Legal configs h
    → is_done (entries (marked configs h)) n ≡ true → ask_of (entries (marked configs h)) n ≡ Some a
    → config_of configs a.epoch ≡ Some config
    → AreWalked (answers configs (marked configs h) n) config a.sight
done_walked configs h n a config each legal done ask at =
    let v = (done_verdict configs h each legal).decided n a done ask in
    answers_walked configs h n a config v.0 (names_once configs each) legal ask at v.1
