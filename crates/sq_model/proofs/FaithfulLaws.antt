-- Every legal history is faithful: its outcomes, its questions and their sends have their sources.
use Rattle.std.proofs.Common.{Bool, List, None, Option, Some, ℕ, [], ap, arith, false, if◌then◌else◌, is_some, le_refl, length, max, nat_le, not, refl, slice_get, subst, suc, sym, true, zero, ◌<◌, ◌==◌, ◌∙◌, ◌∷◌, ◌≡◌, ◌≤◌}
use Rattle.std.specs.Option.{option_map, option_or}
use Rattle.std.proofs.lemmas.Bool.{lt-ltb}
use Rattle.std.proofs.lemmas.Option.{none-some, same_Some}
use Rattle.sq_machine.specs.declared.entries.Event.{Event}
use Rattle.sq_machine.specs.declared.entries.Event.TheVariants.{Begin, Close, Seat, Step, Take}
use Rattle.sq_machine.specs.declared.entries.Told.{Told}
use Rattle.sq_machine.specs.declared.entries.Told.TheVariants as told
use Rattle.sq_rules.specs.declared.outcomes.Outcome.{Outcome}
use Rattle.sq_machine.specs.declared.refusals.Refusal.{Refusal}
use Rattle.sq_machine.specs.declared.refusals.Refusal.TheVariants as refusal
use Rattle.sq_rules.specs.declared.values.Value.TheVariants as value
use Rattle.sq_machine.specs.AnswerReadings.{answers}
use Rattle.sq_machine.specs.Checks.{Asked, ask_count, ask_of, asked_by, check_open, conn_of, is_done, numbered, epoch_of}
use Rattle.sq_rules.specs.Configurations.{Configuration, IsConfiguration}
use Rattle.sq_machine.specs.Entries.{History, Noted}
use Rattle.sq_machine.specs.Events.{Asking, Judgement, asking, begins_epoch, is_number, judgement, is_begin}
use Rattle.sq_machine.specs.Machine.{Legal, next, next_at, outcome_over, seat_for, seat_next}
use Rattle.sq_machine.specs.Limits.{last_number}
use Rattle.sq_machine.specs.Epochs.{config_of}
use Rattle.sq_machine.specs.Next.{gives, refuse_if}
use Rattle.sq_machine.specs.Marking.{mark, marked, says_at}
use Rattle.sq_machine.specs.Marks.{Past, entries}
use Rattle.sq_machine.specs.PoolHistories.{Addressed, pool_history, record_place}
use Rattle.sq_machine.specs.PoolReadings.{seat_count}
use Rattle.sq_machine.specs.SeatPlaces.{pool_at}
use Rattle.sq_machine.specs.TakenRecords.{TakenCheck, allowed_of, if_allowed, taken_after, taken_answers, taken_of, taking}
use Rattle.sq_machine.specs.Questions.{sent_to}
use Rattle.sq_machine.specs.Readings.{counted_moment, current, epoch_after}
use Rattle.sq_machine.specs.StepRule.{value_over}
use Rattle.sq_rules.specs.Verdicts.{outcome_so_far}
use Rattle.sq_machine.proofs.CheckLaws.{IsAsked, open_asked}
use Rattle.sq_machine.proofs.EventLaws.{begin_judges, judged_event}
use Rattle.sq_model.specs.Carried.{NamesOnce}
use Rattle.sq_model.specs.Faithful.{FaultsSo, IsFaithful, IsJudgedSo, IsSeatedSo, JudgedSo, OpenOnce, SeatedSo, SentSo, StepsSo, seating_of, sending_of}
use Rattle.sq_model.specs.Given.{EachOf, times_sent}
use Rattle.sq_model.proofs.CompleteLaws.{done_at, few_taken, waits_at}
use Rattle.sq_model.proofs.ConfigurationLaws.{get_some, names_once}
use Rattle.sq_model.proofs.DistinctLaws.{answers_distinct}
use Rattle.sq_model.proofs.LegalLaws.{asked_epoch, marked_entries}
use Rattle.sq_model.proofs.QuestionLaws.{one_question, put_so, sent_once, sent_so}
use Rattle.sq_model.proofs.RuleLaws.{long_takes, no_room_takes}
use Rattle.sq_model.proofs.SoundLaws.{answers_sound}
use Rattle.sq_model.proofs.StayLaws.{put_within}
use Rattle.sq_model.proofs.WalkedLaws.{answers_walked, done_verdict, value_is}

-- the current epoch is one of those from 1 up
current_positive : (h : History) → 1 ≤ current h
current_positive [] = le_refl 1
current_positive (x ∷ h) = by (begins_epoch x.event) (current h) (current_positive h)
  where
    by : (b : Bool) (n : ℕ) → 1 ≤ n → 1 ≤ epoch_after b n
    by true n l = omega arith
    by false n l = l

-- and so is the epoch of a check
asked_positive : (h : History) (n : ℕ) (a : Asked) → ask_of h n ≡ Some a → 1 ≤ a.epoch
unfolding ask_of
asked_positive [] n a e = absurd (none-some a e)
asked_positive (x ∷ h) n a e = by (numbered n (ask_count h) (asking x.event)) (asked_positive h n a) e
  where
    by : (o : Option Asking) → (ask_of h n ≡ Some a → 1 ≤ a.epoch)
        → option_or (option_map (asked_by h x.moment) o) (ask_of h n) ≡ Some a → 1 ≤ a.epoch
    by None more e = more e
    by (Some y) more e = subst (λ (i : ℕ). 1 ≤ i) (ap (λ (z : Asked). z.epoch) (same_Some _ _ e)) (current_positive h)

-- an epoch that has begun has its configuration, where there are so many
config_there : (configs : List Configuration) (e n : ℕ) → 1 ≤ e → e ≤ n → n ≤ length configs
    → (config : Configuration) × (config_of configs e ≡ Some config)
config_there configs zero n low high few = absurd (omega arith)
config_there configs (suc e) n low high few = get_some configs e
    (lt-ltb e (length configs) (under e n (length configs) high few))
  where
    under : (a b c : ℕ) → suc a ≤ b → b ≤ c → a < c
    under a b c l k = omega arith

place_within : {A : Type 0} (xs : List A) (i : ℕ) (x : A) → slice_get xs i ≡ Some x → suc i ≤ length xs
place_within [] i x e = absurd (none-some x e)
place_within (y ∷ xs) zero x e = omega arith
place_within (y ∷ xs) (suc i) x e = let l = place_within xs i x e in omega arith

-- where an epoch has its configuration, there are so many: this of the current epoch is what `legal_faithful` asks for
pub enough_configs : (configs : List Configuration) (e : ℕ) (config : Configuration) → config_of configs e ≡ Some config
    → e ≤ length configs
enough_configs configs zero config is = omega arith
enough_configs configs (suc e) config is = place_within configs e config is

-- what was taken of an open check that is done
record IsTaken (configs : List Configuration) (m : Past) (n epoch : ℕ) (o : Outcome) : Type 0 where
  opened : check_open (entries m) n ≡ true
  done : is_done (entries m) n ≡ true
  epoch_is : epoch ≡ epoch_of (ask_of (entries m) n)
  outcome_is : o ≡ outcome_over configs m n (ask_of (entries m) n)

told_taken : (b d : Bool) (r s : Refusal) (e epoch : ℕ) (v o : Outcome)
    → refuse_if (not b) r (refuse_if (not d) s (gives (told.Judged e v))) ≡ gives (told.Judged epoch o)
    → (b ≡ true) × (d ≡ true) × (epoch ≡ e) × (o ≡ v)
told_taken true true r s e epoch v o is = (refl, refl, cc, cc)
told_taken true false r s e epoch v o is = absurd (cc)
told_taken false d r s e epoch v o is = absurd (cc)

is_taken : (configs : List Configuration) (m : Past) (now n epoch : ℕ) (o : Outcome)
    → next configs m now (Take n) ≡ gives (told.Judged epoch o) → IsTaken configs m n epoch o
unfolding next next_at
is_taken configs m now n epoch o is =
    let t = told_taken (check_open (entries m) n) (is_done (entries m) n) _ _ (epoch_of (ask_of (entries m) n)) epoch
    (outcome_over configs m n (ask_of (entries m) n)) o is in
    record { opened = t.0; done = t.1; epoch_is = t.2; outcome_is = t.3 }

asked_some : (o : Option Asked) → IsAsked o → (a : Asked) × (o ≡ Some a)
asked_some None a = let is = a.is in absurd (cc)
asked_some (Some x) a = (x, refl)

-- an outcome that is taken behind a legal history
judged_so : (configs : List Configuration) (h : History) (now n epoch : ℕ) (o : Outcome)
    → EachOf IsConfiguration configs → current h ≤ length configs → Legal configs h
    → next configs (marked configs h) now (Take n) ≡ gives (told.Judged epoch o)
    → IsJudgedSo configs (marked configs h) (record { check = n; epoch = epoch; outcome = o })
judged_so configs h now n epoch o each few legal is = record {
  asked = a;
  config = at.0;
  ask_is = ask;
  epoch_is = t.epoch_is ∙ ap epoch_of ask;
  config_is = at.1;
  verdict_is = sym (value_is configs a (answers configs m n) at.0 at.1) ∙ v.1
      ∙ ap (λ (z : Outcome). value.Verdict z) (sym outcome);
  walked = answers_walked configs h n a at.0 v.0 once legal ask at.1 v.1;
  distinct = answers_distinct configs h n once legal;
  sound = (answers_sound configs h once legal).sound n;
}
  where
    m : Past
    m = marked configs h

    once : NamesOnce configs
    once = names_once configs each

    t : IsTaken configs m n epoch o
    t = is_taken configs m now n epoch o is

    found : (z : Asked) × (ask_of (entries m) n ≡ Some z)
    found = asked_some (ask_of (entries m) n) (open_asked (entries m) n t.opened)

    a : Asked
    a = found.0

    ask : ask_of (entries m) n ≡ Some a
    ask = found.1

    here : ask_of h n ≡ Some a
    here = ap (λ (k : History). ask_of k n) (sym (marked_entries configs h)) ∙ ask

    at : (config : Configuration) × (config_of configs a.epoch ≡ Some config)
    at = config_there configs a.epoch (current h) (asked_positive h n a here) (asked_epoch h n a here) few

    v : (z : Outcome) × (value_over configs a (answers configs m n) ≡ value.Verdict z)
    v = (done_verdict configs h each legal).decided n a t.done ask

    outcome : o ≡ v.0
    outcome = t.outcome_is ∙ ap (outcome_over configs m n) ask ∙ ap outcome_so_far v.1

judged_at : (configs : List Configuration) (h : History) (now : ℕ) (event : Event) (answer : Told)
    (j : Option Judgement) → judgement event answer ≡ j → EachOf IsConfiguration configs
    → current h ≤ length configs → Legal configs h → next configs (marked configs h) now event ≡ gives answer
    → JudgedSo configs (marked configs h) j
judged_at configs h now event answer None same each few legal is = tt
judged_at configs h now event answer (Some j) same each few legal is =
    let k = judged_event event answer j same in
    judged_so configs h now j.check j.epoch j.outcome each few legal
    (ap (next configs (marked configs h) now) (sym k.event_is) ∙ is ∙ ap gives k.told_is)

open_at : (configs : List Configuration) (h : History) → OpenOnce configs (marked configs h)
open_at configs h = λ e c key q r a b live alive.
    one_question configs h e c key q r (put_within (marked configs h) e c key q a)
    (put_within (marked configs h) e c key r b) a b live alive

sent_at_most : (configs : List Configuration) (h : History) → NamesOnce configs → Legal configs h → (q : ℕ)
    → times_sent (marked configs h) q ≤ 1
sent_at_most configs h once legal q = subst (λ (n : ℕ). n ≤ 1) (sym ((sent_once configs h once legal).once q))
    (by (is_some (sent_to (marked configs h) q)))
  where
    by : (b : Bool) → (if b then 1 else 0) ≤ 1
    by true = le_refl 1
    by false = omega arith

-- a check whose epoch is one of those that have begun
record IsBegunCheck (h : History) (a : Asked) : Type 0 where
  low : 1 ≤ a.epoch
  high : a.epoch ≤ current h

begun_more : (e : Noted) (h : History) (a : Asked) → IsBegunCheck h a → IsBegunCheck (e ∷ h) a
begun_more e h a b = record { low = b.low; high = by (begins_epoch e.event) a.epoch (current h) b.high }
  where
    by : (b : Bool) (a n : ℕ) → a ≤ n → a ≤ epoch_after b n
    by true a n l = omega arith
    by false a n l = l

of_taking : (h : History) (n : ℕ) (answer : Told) (o : Option Asked) (t : TakenCheck) → ask_of h n ≡ o
    → taking answer o ≡ Some t → IsBegunCheck h t.asked
of_taking h n (told.Judged epoch o) (Some a) t ask is =
    let same : a ≡ t.asked = ap (λ (z : TakenCheck). z.asked) (same_Some _ _ is) in
    subst (IsBegunCheck h) same (record { low = asked_positive h n a ask; high = asked_epoch h n a ask })
of_taking h n (told.Judged epoch o) None t ask is = absurd (none-some t is)
of_taking h n answer o t ask is = absurd (none-some t is)

-- the check of a record that was taken
taken_begun : (h : History) (c : ℕ) (t : TakenCheck) → taken_of h c ≡ Some t → IsBegunCheck h t.asked
taken_begun [] c t is = absurd (none-some t is)
taken_begun (e ∷ h) c t is = begun_more e h t.asked (by e.event (taken_begun h c t) is)
  where
    of_take : (n : ℕ) (b : Bool) → (taken_of h c ≡ Some t → IsBegunCheck h t.asked)
        → (if b then taking e.answer (ask_of h n) else taken_of h c) ≡ Some t → IsBegunCheck h t.asked
    of_take n true more is = of_taking h n e.answer (ask_of h n) t refl is
    of_take n false more is = more is

    of_close : (b : Bool) → (taken_of h c ≡ Some t → IsBegunCheck h t.asked)
        → (if b then None else taken_of h c) ≡ Some t → IsBegunCheck h t.asked
    of_close true more is = absurd (none-some t is)
    of_close false more is = more is

    by : (event : Event) → (taken_of h c ≡ Some t → IsBegunCheck h t.asked)
        → taken_after h c event e.answer (taken_of h c) ≡ Some t → IsBegunCheck h t.asked
    by (Take n) more is = of_take n (is_number c (conn_of h n)) more is
    by (Close d) more is = of_close (d == c) more is
    by event more is = more is

allowed_begun : (h : History) (c : ℕ) (a : Asked) → allowed_of h c ≡ Some a → IsBegunCheck h a
allowed_begun h c a is = by (taken_of h c) refl is
  where
    of_allows : (t : TakenCheck) (b : Bool) → taken_of h c ≡ Some t → (if b then Some t.asked else None) ≡ Some a
        → IsBegunCheck h a
    of_allows t true at is = subst (IsBegunCheck h) (same_Some _ _ is) (taken_begun h c t at)
    of_allows t false at is = absurd (none-some a is)

    by : (o : Option TakenCheck) → taken_of h c ≡ o → if_allowed o ≡ Some a → IsBegunCheck h a
    by None at is = absurd (none-some a is)
    by (Some t) at is = of_allows t t.allows at is

seat_pool : Told → Option ℕ
seat_pool (told.Seat n pool) = Some pool
seat_pool answer = None

-- what is answered to a seat tells its pool
seat_tells : (count : ℕ) (o : Option ℕ) (answer : Told) → seat_next count o ≡ gives answer → o ≡ seat_pool answer
unfolding seat_pool
seat_tells count None answer e = let is : told.NoSeat ≡ answer = cc in ap seat_pool is
seat_tells count (Some pool) answer e = by (nat_le last_number (suc count)) e
  where
    by : (b : Bool) → refuse_if b (refusal.Spent (suc count)) (gives (told.Seat (suc count) pool)) ≡ gives answer
        → Some pool ≡ seat_pool answer
    by true e = absurd (cc)
    by false e = let is : told.Seat (suc count) pool ≡ answer = cc in ap seat_pool is

seated_by : (configs : List Configuration) (h : History) (c count : ℕ) (answer : Told) (o : Option Asked)
    → current h ≤ length configs → allowed_of (entries (marked configs h)) c ≡ o
    → seat_for configs count (taken_answers configs (marked configs h) c) o ≡ gives answer
    → IsSeatedSo configs (marked configs h) (record { conn = c; pool = seat_pool answer })
seated_by configs h c count answer None few at e = absurd (cc)
seated_by configs h c count answer (Some a) few at e =
    let b = allowed_begun h c a (ap (λ (k : History). allowed_of k c) (sym (marked_entries configs h)) ∙ at) in
    let there = config_there configs a.epoch (current h) b.low b.high few in
    let answers = taken_answers configs (marked configs h) c in
    record {
      asked = a;
      config = there.0;
      allowed_is = at;
      config_is = there.1;
      pool_is = sym (seat_tells count (pool_at (record_place answers a (config_of configs a.epoch))) answer e)
          ∙ ap (λ (o : Option Configuration). pool_at (record_place answers a o)) there.1;
    }

seated_at : (configs : List Configuration) (h : History) (now : ℕ) (event : Event) (answer : Told)
    → current h ≤ length configs → next configs (marked configs h) now event ≡ gives answer
    → SeatedSo configs (marked configs h) (seating_of event answer)
unfolding next next_at seat_pool
seated_at configs h now (Seat c) (told.Seat n pool) few e =
    seated_by configs h c (seat_count (pool_history Addressed configs (marked configs h))) (told.Seat n pool)
    (allowed_of (entries (marked configs h)) c) few refl e
seated_at configs h now (Seat c) told.NoSeat few e =
    seated_by configs h c (seat_count (pool_history Addressed configs (marked configs h))) told.NoSeat
    (allowed_of (entries (marked configs h)) c) few refl e
seated_at configs h now (Seat c) answer few e = tt
seated_at configs h now event answer few e = tt

first_seats : (configs : List Configuration) (event : Event) (answer : Told) → is_begin event ≡ true
    → SeatedSo configs [] (seating_of event answer)
first_seats configs (Begin offset) answer b = tt
first_seats configs event answer b = absurd (cc)

faults_so : (configs : List Configuration) (m : Past) (e : Noted) → FaultsSo configs m (mark configs m e)
faults_so configs m e = record {
  long = λ n d at long. ap (λ (v : Event). (says_at configs m e.moment v).took) at
      ∙ long_takes configs m n e.moment d long;
  no_room = λ n d at r. ap (λ (v : Event). (says_at configs m e.moment v).took) at
      ∙ no_room_takes configs m n e.moment d r;
}

-- at a moment that is none of the past
answered_at : (configs : List Configuration) (x f : Noted) (h : History) → f.moment ≤ x.moment
    → next configs (marked configs (f ∷ h)) x.moment x.event ≡ gives x.answer
    → next_at configs (marked configs (f ∷ h)) x.moment x.event ≡ gives x.answer
unfolding next
answered_at configs x f h late is = sym
    (ap (λ (now : ℕ). next_at configs (marked configs (f ∷ h)) now x.event) (counted x.moment f.moment late)) ∙ is
  where
    counted : (a b : ℕ) → b ≤ a → max a b ≡ a
    counted a b l = omega arith

stepped_at : (configs : List Configuration) (m : Past) (x : Noted) → next_at configs m x.moment x.event ≡ gives x.answer
    → StepsSo configs m (mark configs m x)
stepped_at configs m x is = record {
  waits = λ n q at tells. waits_at configs m x.moment x.event x.answer n q is at tells;
  done = λ n a o at ask v. done_at configs m x.moment x.event x.answer n a o is at ask v;
}

begin_steps : (event : Event) (n : ℕ) → is_begin event ≡ true → event ≡ Step n → ⊥
begin_steps event n b at = let no : true ≡ false = sym b ∙ ap is_begin at in cc

first_steps : (configs : List Configuration) (x : Noted) → is_begin x.event ≡ true
    → StepsSo configs [] (mark configs [] x)
first_steps configs x b = record {
  waits = λ n q at tells. absurd (begin_steps x.event n b at);
  done = λ n a o at ask v. absurd (begin_steps x.event n b at);
}

first_sends : (configs : List Configuration) (event : Event) (answer : Told) → is_begin event ≡ true
    → SentSo configs [] (sending_of event answer)
first_sends configs (Begin offset) answer b = tt
first_sends configs event answer b = absurd (cc)

sent_at : (configs : List Configuration) (m : Past) (now : ℕ) (event : Event) (answer : Told)
    → next configs m now event ≡ gives answer → SentSo configs m (sending_of event answer)
unfolding next
sent_at configs m now event answer e = sent_so configs m (counted_moment (entries m) now) event answer e

fewer : (x : Noted) (h : History) (n : ℕ) → current (x ∷ h) ≤ n → current h ≤ n
fewer x h n l = by (begins_epoch x.event) (current h) n l
  where
    by : (b : Bool) (k n : ℕ) → epoch_after b k ≤ n → k ≤ n
    by true k n l = omega arith
    by false k n l = l

-- every legal history is faithful, where each configuration is one and each epoch that began has its own
pub legal_faithful : (configs : List Configuration) (h : History) → EachOf IsConfiguration configs
    → current h ≤ length configs → Legal configs h → IsFaithful configs (marked configs h)
legal_faithful configs [] each few legal = tt
legal_faithful configs (x ∷ []) each few legal = (
  record {
    judged = subst (JudgedSo configs []) (sym (begin_judges x.event x.answer legal.0)) tt;
    seated = first_seats configs x.event x.answer legal.0;
    faults = faults_so configs [] x;
    stepped = first_steps configs x legal.0;
    few = few_taken configs (x ∷ []) (names_once configs each) legal;
    put = put_so configs [] x.moment x.event (says_at configs [] x.moment x.event).put refl;
    sent = first_sends configs x.event x.answer legal.0;
    open_once = open_at configs (x ∷ []);
    sent_once = sent_at_most configs (x ∷ []) (names_once configs each) legal;
  },
  tt,
)
legal_faithful configs (x ∷ f ∷ h) each few legal = (
  record {
    judged = judged_at configs (f ∷ h) x.moment x.event x.answer (judgement x.event x.answer) refl each
        (fewer x (f ∷ h) (length configs) few) legal.0 legal.4;
    seated = seated_at configs (f ∷ h) x.moment x.event x.answer (fewer x (f ∷ h) (length configs) few) legal.4;
    faults = faults_so configs (marked configs (f ∷ h)) x;
    stepped = stepped_at configs (marked configs (f ∷ h)) x (answered_at configs x f h legal.3 legal.4);
    few = few_taken configs (x ∷ f ∷ h) (names_once configs each) legal;
    put = put_so configs (marked configs (f ∷ h)) x.moment x.event
        (says_at configs (marked configs (f ∷ h)) x.moment x.event).put refl;
    sent = sent_at configs (marked configs (f ∷ h)) x.moment x.event x.answer legal.4;
    open_once = open_at configs (x ∷ f ∷ h);
    sent_once = sent_at_most configs (x ∷ f ∷ h) (names_once configs each) legal;
  },
  legal_faithful configs (f ∷ h) each (fewer x (f ∷ h) (length configs) few) legal.0,
)
