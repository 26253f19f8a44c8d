-- From what a call answers and leaves by the machine's state to what is promised of it.
use Rattle.std.proofs.Common.{◌≡◌, ◌∙◌, ℕ, ℤ, ◌≤◌, List, true, false, Option, None, Some, Result, Ok, Err, is_some, IfOk, OnOk, refl, ap, sym, subst}
use Rattle.sq_base.specs.Addresses.{Address}
use Rattle.sq_base.specs.Targets.{target_of}
use Rattle.sq_base.specs.declared.helpers.Cause.TheVariants as cause
use Rattle.sq_base.specs.declared.requests.Field.{Field}
use Rattle.sq_machine.specs.declared.entries.Event.{Event}
use Rattle.sq_machine.specs.declared.entries.Event.TheVariants.{Ask, Close, Died, Line, Open, StartFail, Started, Step, Take}
use Rattle.sq_machine.specs.declared.entries.Told.{Told}
use Rattle.sq_machine.specs.declared.entries.Told.TheVariants as told
use Rattle.sq_machine.specs.declared.refusals.Refusal.{Refusal}
use Rattle.sq_machine.specs.declared.refusals.Refusal.TheVariants as refusal
use Rattle.sq_machine.specs.Channels.{Channels}
use Rattle.sq_rules.specs.Classes.{Class}
use Rattle.sq_rules.specs.Configurations.{Configuration}
use Rattle.sq_machine.specs.DueActs.{ClassId}
use Rattle.sq_machine.specs.Entries.{History}
use Rattle.sq_machine.specs.Epochs.{class_at}
use Rattle.sq_machine.specs.Machine.{next, step_next}
use Rattle.sq_machine.specs.Next.{Next, gives, refuses}
use Rattle.sq_machine.specs.Marking.{marked}
use Rattle.sq_machine.specs.Readings.{latest}
use Rattle.sq_machine.specs.StepRule.{StepSays}
use Rattle.sq_machine.specs.Transcripts.{line_is}
use Rattle.sq_channel.specs.declared.replies.Got.{Got}
use Rattle.sq_channel.specs.declared.replies.Got.TheVariants as got
use Rattle.sq_model.specs.CheckRows.{Held, held_at}
use Rattle.sq_model.specs.Answers.{ask_answer, asked_in, channels_in, close_answer, died_answer, failed_answer, line_answer, line_of, name_in, open_answer, started_answer, step_of_held, take_answer}
use Rattle.sq_model.specs.Changes.{after_ask, after_close, after_end_at, after_failed_at, after_open, after_started_at, after_step_of, after_take, first_state}
use Rattle.sq_model.specs.Promises.{IsAnswered, StandsFor}
use Rattle.sq_model.specs.Says.{says_in}
use Rattle.sq_model.specs.States.{IsSame, State}
use Rattle.sq_model.proofs.ActPromises.{failed_answered, started_answered}
use Rattle.sq_model.proofs.ConnStands.{ask_next, close_next, open_next, take_next}
use Rattle.sq_model.proofs.LinePromises.{bad_answered, died_answered, died_told, line_told_to, reply_answered, stray_answered}
use Rattle.sq_model.proofs.PromiseLaws.{answered_same, ask_answered, close_answered, first_for, law_of, next_now, open_answered, take_answered}
use Rattle.sq_model.proofs.Lawful.{stands_same}
use Rattle.sq_model.proofs.StartStands.{failed_next, started_next}
use Rattle.sq_model.proofs.StepPromises.{step_answered, step_told, step_waiting}
use Rattle.sq_engine.specs.Lines.{IsLineDone, IsRead, got_told}
use Rattle.sq_engine.specs.Promised.{IsBegun, IsPromised, IsPromisedAt}
use Rattle.sq_engine.specs.Stepping.{after_step_held, after_step_now, says_now, says_of_wait, step_now, step_of}
use Rattle.sq_engine.specs.Tellings.{IsTold}
use Rattle.sq_engine.proofs.LineLaws.{as_line, line_as_line}

-- where the machine answers so by the state, and such an answer leaves what stands for the history with it
pub by_laws : {A : Type 0} (tell : A → Told) (s new after : State) (said : Next) (now : ℕ) (event : Event)
    (r : Result A Refusal) → IsTold tell said r → OnOk r (IsSame new after)
    → ((configs : List Configuration) (h : History) → StandsFor configs h s → latest h ≤ now
    → next configs (marked configs h) now event ≡ said)
    → ((answer : Told) → said ≡ gives answer → (configs : List Configuration) (h : History) → StandsFor configs h s
    → latest h ≤ now → IsAnswered configs h now event answer after)
    → IsPromised tell s now event r new
by_laws tell s new after said now event (Ok a) t ok law answered =
    λ configs h st late. answered_same configs h after new now event (tell a) ok (answered (tell a) t configs h st late)
by_laws tell s new after said now event (Err refusal.WantOfMemory) t ok law answered = tt
by_laws tell s new after said now event (Err r) t ok law answered = λ configs h st late. law configs h st late ∙ t

-- the same of an event that names a class
pub by_laws_at : {A : Type 0} (tell : A → Told) (s new after : State) (said : Next) (now : ℕ)
    (event : ℕ → List ℕ → Event) (p : ClassId) (r : Result A Refusal) → IsTold tell said r → OnOk r (IsSame new after)
    → ((configs : List Configuration) (h : History) (class : Class) → StandsFor configs h s → latest h ≤ now
    → class_at configs p.epoch p.class ≡ Some class
    → next configs (marked configs h) now (event p.epoch class.name) ≡ said)
    → ((answer : Told) → said ≡ gives answer → (configs : List Configuration) (h : History) → StandsFor configs h s
    → latest h ≤ now → IsAnswered configs h now (event p.epoch (name_in s p)) answer after)
    → IsPromisedAt tell s now event p r new
by_laws_at tell s new after said now event p (Ok a) t ok law answered =
    λ configs h st late. answered_same configs h after new now (event p.epoch (name_in s p)) (tell a) ok
    (answered (tell a) t configs h st late)
by_laws_at tell s new after said now event p (Err refusal.WantOfMemory) t ok law answered = tt
by_laws_at tell s new after said now event p (Err r) t ok law answered =
    λ configs h class st late at. law configs h class st late at ∙ t

pub open_promised : {A : Type 0} (s new : State) (now c : ℕ) (addr : Address) (port : ℕ) (r : Result A Refusal)
    → IsTold (λ x. told.Fine) (open_answer s c) r
    → OnOk r (IsSame new (after_open c (record { addr = addr; port = port }) now s))
    → IsPromised (λ x. told.Fine) s now (Open c addr port) r new
open_promised s new now c addr port r t ok =
    by_laws (λ x. told.Fine) s new (after_open c (record { addr = addr; port = port }) now s) (open_answer s c) now
    (Open c addr port) r t ok
    (λ configs h st late. next_now configs h now (Open c addr port) late
    ∙ open_next configs (marked configs h) s now c addr port st.stands)
    (λ answer is configs h st late. open_answered configs h s now c addr port answer st late is)

pub close_promised : {A : Type 0} (s new : State) (now c : ℕ) (r : Result A Refusal)
    → IsTold (λ x. told.Fine) (close_answer s c) r → OnOk r (IsSame new (after_close c now s))
    → IsPromised (λ x. told.Fine) s now (Close c) r new
close_promised s new now c r t ok =
    by_laws (λ x. told.Fine) s new (after_close c now s) (close_answer s c) now (Close c) r t ok
    (λ configs h st late. next_now configs h now (Close c) late
    ∙ close_next configs (marked configs h) s now c st.stands)
    (λ answer is configs h st late. close_answered configs h s now c answer st late is)

-- where the target of the request has its form
pub ask_promised : {A : Type 0} (tell : A → Told) (s new : State) (now c : ℕ) (method target : List ℕ)
    (fields : List Field) (r : Result A Refusal) → is_some (target_of method target) ≡ true
    → IsTold tell (ask_answer s c) r → OnOk r (IsSame new (after_ask (asked_in s now c method target fields) now s))
    → IsPromised tell s now (Ask c method target fields) r new
ask_promised tell s new now c method target fields r formed t ok =
    by_laws tell s new (after_ask (asked_in s now c method target fields) now s) (ask_answer s c) now
    (Ask c method target fields) r t ok
    (λ configs h st late. next_now configs h now (Ask c method target fields) late
    ∙ ask_next configs (marked configs h) s now c method target fields (law_of configs h s st).alone st.stands)
    (λ answer is configs h st late. ask_answered configs h s now c method target fields answer st late formed is)

pub take_promised : {A : Type 0} (tell : A → Told) (s new : State) (now n : ℕ) (r : Result A Refusal)
    → IsTold tell (take_answer s n) r → OnOk r (IsSame new (after_take n now s))
    → IsPromised tell s now (Take n) r new
take_promised tell s new now n r t ok =
    by_laws tell s new (after_take n now s) (take_answer s n) now (Take n) r t ok
    (λ configs h st late. next_now configs h now (Take n) late ∙ take_next configs (marked configs h) s now n st.stands)
    (λ answer is configs h st late. take_answered configs h s now n answer st late is)

pub started_promised : {A : Type 0} (tell : A → Told) (s new : State) (now : ℕ) (p : ClassId) (r : Result A Refusal)
    → IsTold tell (started_answer s p) r → OnOk r (IsSame new (after_started_at p now s))
    → IsPromisedAt tell s now Started p r new
started_promised tell s new now p r t ok =
    by_laws_at tell s new (after_started_at p now s) (started_answer s p) now Started p r t ok
    (λ configs h class st late at. next_now configs h now (Started p.epoch class.name) late
    ∙ started_next configs (marked configs h) s now p class (law_of configs h s st).once st.stands at)
    (λ answer is configs h st late. started_answered configs h s now p answer st late is)

pub failed_promised : {A : Type 0} (s new : State) (now : ℕ) (p : ClassId) (r : Result A Refusal)
    → IsTold (λ x. told.Fine) (failed_answer s p) r → OnOk r (IsSame new (after_failed_at p now s))
    → IsPromisedAt (λ x. told.Fine) s now StartFail p r new
failed_promised s new now p r t ok =
    by_laws_at (λ x. told.Fine) s new (after_failed_at p now s) (failed_answer s p) now StartFail p r t ok
    (λ configs h class st late at. next_now configs h now (StartFail p.epoch class.name) late
    ∙ failed_next configs (marked configs h) s now p class (law_of configs h s st).once st.stands at)
    (λ answer is configs h st late. failed_answered configs h s now p answer st late is)

pub died_promised : {A : Type 0} (s new : State) (now k : ℕ) (r : Result A Refusal)
    → IsTold (λ x. told.Fine) (died_answer s k) r
    → OnOk r ((p : ClassId) → s.home k ≡ Some p → IsSame new (after_end_at p k cause.Died false now s))
    → IsPromised (λ x. told.Fine) s now (Died k) r new
died_promised s new now k (Ok a) t ok = λ configs h st late. by (s.home k) refl t configs h st late
  where
    by : (o : Option ClassId) → s.home k ≡ o → died_answer s k ≡ gives told.Fine
        → (configs : List Configuration) (h : History) → StandsFor configs h s → latest h ≤ now
        → IsAnswered configs h now (Died k) told.Fine new
    by None is t configs h st late = absurd
        (let e : refuses (refusal.UnknownProc k) ≡ gives told.Fine = rw is at t in cc)
    by (Some p) is t configs h st late = answered_same configs h (after_end_at p k cause.Died false now s) new now
        (Died k) told.Fine (ok p is) (died_answered configs h s now k p st late is)
died_promised s new now k (Err refusal.WantOfMemory) t ok = tt
died_promised s new now k (Err r) t ok = λ configs h st late. died_told configs h s now k st late ∙ t

-- the channels on which a line of a process is read that is answered
pub record HasChannels (s : State) (k : ℕ) (line : List ℕ) (g : Got) : Type 0 where
  pub channels : Channels
  pub found : channels_in s k ≡ Some channels
  pub is_read : line_is channels line ≡ as_line g

has_channels : (s : State) (k : ℕ) (line : List ℕ) (g : Got) → line_answer s k line ≡ gives (got_told g)
    → IsRead s k line g → HasChannels s k line g
has_channels s k line g t read = by (channels_in s k) refl t
  where
    by : (o : Option Channels) → channels_in s k ≡ o → line_of k line o ≡ gives (got_told g) → HasChannels s k line g
    by None is t = absurd (cc)
    by (Some c) is t = record { channels = c; found = is; is_read = line_as_line c line ∙ ap as_line (read c is) }

pub line_promised : (s new : State) (now k : ℕ) (line : List ℕ) (r : Result Got Refusal)
    → IsTold got_told (line_answer s k line) r → IfOk r (λ g. IsRead s k line g)
    → IfOk r (λ g. IsLineDone s k g now new)
    → IsPromised got_told s now (Line k line) r new
line_promised s new now k line (Ok (got.Reply q reply)) t read ok = λ configs h st late.
    let x = has_channels s k line (got.Reply q reply) t read in
    answered_same configs h _ new now (Line k line) (told.Reply q reply.word) ok.same
    (reply_answered configs h s now k line q reply ok.place ok.class x.channels ok.row ok.key st late ok.home_is
    ok.class_is x.found x.is_read ok.row_is ok.key_is)
line_promised s new now k line (Ok got.Bad) t read ok = λ configs h st late.
    let x = has_channels s k line got.Bad t read in
    answered_same configs h _ new now (Line k line) told.Bad ok.same
    (bad_answered configs h s now k line ok.place x.channels st late ok.home_is x.found x.is_read)
line_promised s new now k line (Ok got.Stray) t read ok = λ configs h st late.
    let x = has_channels s k line got.Stray t read in
    answered_same configs h _ new now (Line k line) told.Stray ok.same
    (stray_answered configs h s now k line ok.place x.channels st late ok.home_is x.found x.is_read)
line_promised s new now k line (Err refusal.WantOfMemory) t read ok = tt
line_promised s new now k line (Err r) t read ok = λ configs h st late. line_told_to configs h s now k line st late ∙ t

-- what holds of a result that is fine
pub on_ok : {A B : Type 0} (P Q : Type 0) (r : Result A B) → OnOk r P → (P → Q) → OnOk r Q
on_ok P Q (Ok a) h f = f h
on_ok P Q (Err b) h f = h

-- for a legal history, what a check that waits says is what a step says by the rule
says_same : (configs : List Configuration) (h : History) (s : State) (now n : ℕ) (k : Held) → StandsFor configs h s
    → latest h ≤ now → held_at n s.checks ≡ Some k → says_now s now k ≡ says_in s now k
says_same configs h s now n k st late found = by k.waits refl
  where
    by : (o : Option ℕ) → k.waits ≡ o → says_of_wait k.waits (says_in s now k) ≡ says_in s now k
    by None e = ap (λ (o : Option ℕ). says_of_wait o (says_in s now k)) e
    by (Some q) e = ap (λ (o : Option ℕ). says_of_wait o (says_in s now k)) e
        ∙ sym (step_waiting configs h s now n q k st late found e)

step_same : (configs : List Configuration) (h : History) (s : State) (now n : ℕ) → StandsFor configs h s
    → latest h ≤ now → (o : Option Held) → held_at n s.checks ≡ o → step_of_held s n now o ≡ step_of s n now o
step_same configs h s now n st late None e = refl
step_same configs h s now n st late (Some k) e = ap (step_next s.puts) (sym (says_same configs h s now n k st late e))

pub step_promised : {A : Type 0} (tell : A → Told) (s new : State) (now n : ℕ) (r : Result A Refusal)
    → IsTold tell (step_now s n now) r → OnOk r (IsSame new (after_step_now s n now))
    → IsPromised tell s now (Step n) r new
step_promised tell s new now n r t ok =
    by_laws tell s new (after_step_now s n now) (step_now s n now) now (Step n) r t ok
    (λ configs h st late. step_told configs h s now n st late
    ∙ step_same configs h s now n st late (held_at n s.checks) refl)
    (λ answer is configs h st late. by answer configs h st late (held_at n s.checks) refl is)
  where
    by : (answer : Told) (configs : List Configuration) (h : History) → StandsFor configs h s → latest h ≤ now
        → (o : Option Held) → held_at n s.checks ≡ o → step_of s n now o ≡ gives answer
        → IsAnswered configs h now (Step n) answer (after_step_held s n now o)
    by answer configs h st late None e is = absurd (cc)
    by answer configs h st late (Some k) e is =
        let same : says_now s now k ≡ says_in s now k = says_same configs h s now n k st late e in
        subst (λ (z : StepSays). IsAnswered configs h now (Step n) answer (after_step_of n k.asked.epoch z now s))
        (sym same)
        (step_answered configs h s now n k answer st late e (ap (step_next s.puts) (sym same) ∙ is))

-- a machine that begins
pub begun_promised : (s : State) (config : Configuration) (offset : ℤ) (now : ℕ)
    → IsSame s (first_state config offset now) → IsBegun config offset now s
begun_promised s config offset now same = λ configs good is.
    let st = first_for configs config offset now good is in
    record {
      good = st.good;
      legal = st.legal;
      sourced = st.sourced;
      stands = stands_same configs _ (first_state config offset now) s same st.stands;
    }
