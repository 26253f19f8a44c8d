-- On a connection that is open without a check a question is refused only where a number would be the last.
use Rattle.std.proofs.Common.{◌≡◌, ℕ, suc, List, [], ◌∷◌, ◌++◌, Bool, true, false, not, if◌then◌else◌, ◌&&◌, ◌||◌, ◌==◌, ◌≤◌, nat_le, Option, Some, None, is_some, is_none, refl, sym, ap, ◌∙◌, arith}
use Rattle.std.proofs.lemmas.Bool.Decides.{nat_tests}
use Rattle.std.specs.List.{list_all}
use Rattle.sq_base.specs.Requests.{HttpRequest}
use Rattle.sq_model.proofs.LegalLaws.{marked_entries}
use Rattle.sq_machine.proofs.CheckLaws.{check_open_begun, check_open_kept, is_done_more, none_numbered, open_born}
use Rattle.sq_machine.specs.Checks.{ask_count, check_open, closes, conn_of, is_done, open_check}
use Rattle.sq_rules.specs.Configurations.{Configuration}
use Rattle.sq_machine.specs.Connections.{peer_at}
use Rattle.sq_machine.specs.Entries.{History, Noted, entry_at}
use Rattle.sq_machine.specs.Events.{Asking, asking, closed_conn, is_number, taken_check}
use Rattle.sq_machine.specs.Machine.{next, next_at, step_next}
use Rattle.sq_machine.specs.Limits.{last_number}
use Rattle.sq_machine.specs.Next.{Next, gives, refuses, refuse_if, refuse_open}
use Rattle.sq_machine.specs.Marking.{marked}
use Rattle.sq_machine.specs.Marks.{entries}
use Rattle.sq_machine.specs.Questions.{put_count}
use Rattle.sq_machine.specs.Readings.{counted_moment}
use Rattle.sq_machine.specs.StepRule.{StepSays, step_says}
use Rattle.sq_machine.specs.declared.entries.Event.{Event}
use Rattle.sq_machine.specs.declared.entries.Event.TheVariants as event
use Rattle.sq_machine.specs.declared.entries.Told.{Told}
use Rattle.sq_machine.specs.declared.entries.Told.TheVariants as told
use Rattle.sq_machine.specs.declared.refusals.Refusal.{Refusal}
use Rattle.sq_machine.specs.declared.refusals.Refusal.TheVariants as refusal
use Rattle.sq_rules.specs.declared.sights.Peer.{Peer}
use Rattle.sq_turns.specs.Judging.{IsForLastNumber, goes_on, is_step_of}
use Rattle.sq_turns.specs.Tellings.{asks_for, comes_outside}

pub first_of : (a b : Bool) → (a && b) ≡ true → a ≡ true
first_of true b p = refl
first_of false b p = absurd (cc)

pub second_of : (a b : Bool) → (a && b) ≡ true → b ≡ true
second_of true b p = p
second_of false b p = absurd (cc)

number_refused : (t : Bool) (n : ℕ) (answer : Told) (why : Refusal)
    → refuse_if t (refusal.Spent n) (gives answer) ≡ refuses why → IsForLastNumber why
number_refused true n answer why e = let same : refusal.Spent n ≡ why = cc in (n, sym same)
number_refused false n answer why e = absurd (cc)

-- what the machine says to a question
abbrev ask_says : ℕ → Option Peer → Option ℕ → ℕ → Next
ask_says c p o count =
    refuse_if (is_none p) (refusal.UnknownConn c)
    (refuse_open o (refuse_if (nat_le last_number (suc count)) (refusal.Spent (suc count))
    (gives (told.Check (suc count)))))

abbrev asked_after : History → ℕ → Next
asked_after h c = ask_says c (peer_at h c) (open_check h c) (ask_count h)

says_spent : (c : ℕ) (p : Option Peer) (o : Option ℕ) (count : ℕ) (why : Refusal) → is_some p ≡ true → o ≡ None
    → ask_says c p o count ≡ refuses why → IsForLastNumber why
says_spent c None o count why there free e = absurd (cc)
says_spent c (Some p) None count why there free e = number_refused (nat_le last_number (suc count)) (suc count)
    (told.Check (suc count)) why e
says_spent c (Some p) (Some k) count why there free e = absurd (cc)

number_given : (t : Bool) (k n : ℕ) → refuse_if t (refusal.Spent k) (gives (told.Check k)) ≡ gives (told.Check n)
    → n ≡ k
number_given true k n e = absurd (cc)
number_given false k n e = cc

says_number : (c : ℕ) (p : Option Peer) (o : Option ℕ) (count n : ℕ) → ask_says c p o count ≡ gives (told.Check n)
    → n ≡ suc count
says_number c None o count n e = absurd (cc)
says_number c (Some p) None count n e = number_given (nat_le last_number (suc count)) (suc count) n e
says_number c (Some p) (Some k) count n e = absurd (cc)

ask_next : (configs : List Configuration) (h : History) (now conn : ℕ) (r : HttpRequest)
    → next configs (marked configs h) now (asks_for conn r) ≡ asked_after h conn
unfolding next next_at
ask_next configs h now conn r = ap (λ (l : History). asked_after l conn) (marked_entries configs h)

-- the question itself
pub ask_spent : (configs : List Configuration) (h : History) (now conn : ℕ) (r : HttpRequest) (why : Refusal)
    → next configs (marked configs h) now (asks_for conn r) ≡ refuses why
    → is_some (peer_at h conn) ≡ true → open_check h conn ≡ None → IsForLastNumber why
ask_spent configs h now conn r why e there free = says_spent conn (peer_at h conn) (open_check h conn) (ask_count h) why
    there free (sym (ask_next configs h now conn r) ∙ e)

same_number : (n k : ℕ) → n ≡ k → (n == k) ≡ true
same_number n k e = grind (arith, nat_tests)

-- the check that it began is open
pub asked_open : (configs : List Configuration) (h : History) (now conn : ℕ) (r : HttpRequest) (n : ℕ) (answer : Told)
    → answer ≡ told.Check n
    → next configs (marked configs h) now (asks_for conn r) ≡ gives answer
    → check_open (entry_at now (asks_for conn r) answer ∷ h) n ≡ true
asked_open configs h now conn r n answer is e =
    let number : n ≡ suc (ask_count h) =
    says_number conn (peer_at h conn) (open_check h conn) (ask_count h) n
    (sym (ask_next configs h now conn r) ∙ e ∙ ap gives is) in
    let a : Asking = record { conn = conn; method = r.method; target = r.target; fields = r.fields } in
    check_open_begun (entry_at now (asks_for conn r) answer) h n a
    (ap (λ (t : Bool). if t then Some a else None) (same_number n (suc (ask_count h)) number))

-- no event of a check that goes on begins or ends one
record Quiet (e : Event) : Type 0 where
  asks : asking e ≡ None
  takes : taken_check e ≡ None
  shuts : closed_conn e ≡ None

quiet : (n : ℕ) (e : Event) → (is_step_of n e || comes_outside e) ≡ true → Quiet e
quiet n (event.Begin offset) p = absurd (cc)
quiet n (event.Open conn addr port) p = absurd (cc)
quiet n (event.Close conn) p = absurd (cc)
quiet n (event.Ask conn method target fields) p = absurd (cc)
quiet n (event.Step m) p = record { asks = refl; takes = refl; shuts = refl }
quiet n (event.Take m) p = absurd (cc)
quiet n (event.Started epoch class) p = record { asks = refl; takes = refl; shuts = refl }
quiet n (event.StartFail epoch class) p = record { asks = refl; takes = refl; shuts = refl }
quiet n (event.Line proc bytes) p = record { asks = refl; takes = refl; shuts = refl }
quiet n (event.Died proc) p = record { asks = refl; takes = refl; shuts = refl }
quiet n event.Act p = record { asks = refl; takes = refl; shuts = refl }
quiet n (event.Reconfigure text) p = record { asks = refl; takes = refl; shuts = refl }
quiet n (event.Seat conn) p = absurd (cc)
quiet n (event.Grant seat wanted) p = absurd (cc)
quiet n (event.Leave seat) p = absurd (cc)

open_later : (n : ℕ) (e : Noted) (h : History) → goes_on n e ≡ true → check_open h n ≡ true
    → check_open (e ∷ h) n ≡ true
open_later n e h on opened =
    let q = quiet n e.event on in
    check_open_kept e h n (none_numbered n (ask_count h) (asking e.event) q.asks)
    ∙ ap (λ (t : Option ℕ). if is_number n t || closes (closed_conn e.event) (conn_of h n) then false
    else check_open h n) q.takes
    ∙ ap (λ (t : Option ℕ). if closes t (conn_of h n) then false else check_open h n) q.shuts
    ∙ opened

-- a check that goes on stays open
pub stays_open : (n : ℕ) (more h : History) → list_all (goes_on n) more ≡ true → check_open h n ≡ true
    → check_open (more ++ h) n ≡ true
stays_open n [] h on opened = opened
stays_open n (e ∷ more) h on opened =
    open_later n e (more ++ h) (first_of (goes_on n e) (list_all (goes_on n) more) on)
    (stays_open n more h (second_of (goes_on n e) (list_all (goes_on n) more) on) opened)

step_says_spent : (o : Bool) (n count : ℕ) (s : StepSays) (why : Refusal) → o ≡ true
    → refuse_if (not o) (refusal.UnknownCheck n) (step_next count s) ≡ refuses why → IsForLastNumber why
step_says_spent true n count s why opened e = number_refused (is_some s.put && nat_le last_number (suc count))
    (suc count) s.answer why e
step_says_spent false n count s why opened e = absurd (cc)

-- a step of an open check
pub step_spent : (configs : List Configuration) (h : History) (now n : ℕ) (why : Refusal)
    → next configs (marked configs h) now (event.Step n) ≡ refuses why → check_open h n ≡ true → IsForLastNumber why
unfolding next next_at
step_spent configs h now n why e opened =
    step_says_spent (check_open (entries (marked configs h)) n) n (put_count (marked configs h))
    (step_says configs (marked configs h) n (counted_moment (entries (marked configs h)) now)) why
    (ap (λ (l : History). check_open l n) (marked_entries configs h) ∙ opened) e

take_says : (o d : Bool) (n : ℕ) (answer : Told) (why : Refusal) → o ≡ true → d ≡ true
    → refuse_if (not o) (refusal.UnknownCheck n) (refuse_if (not d) (refusal.NotDone n) (gives answer)) ≡ refuses why
    → IsForLastNumber why
take_says true true n answer why opened done e = absurd (cc)
take_says true false n answer why opened done e = absurd (cc)
take_says false d n answer why opened done e = absurd (cc)

-- the taking of an open check that is done
pub take_spent : (configs : List Configuration) (h : History) (now n : ℕ) (why : Refusal)
    → next configs (marked configs h) now (event.Take n) ≡ refuses why
    → check_open h n ≡ true → is_done h n ≡ true → IsForLastNumber why
unfolding next next_at
take_spent configs h now n why e opened done =
    take_says (check_open (entries (marked configs h)) n) (is_done (entries (marked configs h)) n) n _ why
    (ap (λ (l : History). check_open l n) (marked_entries configs h) ∙ opened)
    (ap (λ (l : History). is_done l n) (marked_entries configs h) ∙ done) e

done_by : (t g d : Bool) → t ≡ true → g ≡ true → (t && g || d) ≡ true
done_by true true d p q = refl
done_by true false d p q = absurd (cc)
done_by false g d p q = absurd (cc)

given : (n count : ℕ) → n ≤ count → nat_le n count ≡ true
given n count p = grind (arith, nat_tests)

-- an open check whose step answers that it is done
pub done_now : (now n : ℕ) (answer : Told) (h : History) → answer ≡ told.Done → check_open h n ≡ true
    → is_done (entry_at now (event.Step n) answer ∷ h) n ≡ true
done_now now n answer h is opened =
    ap (λ (t : Told). is_done (entry_at now (event.Step n) t ∷ h) n) is
    ∙ is_done_more (entry_at now (event.Step n) told.Done) h n
    ∙ done_by (n == n) (nat_le n (ask_count h)) (is_done h n) (same_number n n refl)
    (given n (ask_count h) (open_born h n opened))
