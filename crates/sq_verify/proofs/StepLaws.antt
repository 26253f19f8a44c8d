-- What a line comes to, from what the machine makes of its event.
use Rattle.std.proofs.Common.{◌≡◌, inl, inr, ℕ, ◌+◌, ◌≤◌, max, min, List, ◌∷◌, length, Bool, true, false, if◌then◌else◌, bytes_eq, is_some, Result, Ok, Err, refl, sym, ap, subst, ◌∙◌, arith}
use Rattle.sq_request.specs.Written.{made_request}
use Rattle.sq_machine.specs.declared.entries.Event.{Event}
use Rattle.sq_machine.specs.declared.entries.Event.TheVariants.{Begin, Ask, Reconfigure}
use Rattle.sq_machine.specs.declared.entries.Told.{Told}
use Rattle.sq_rules.specs.ConfText.{conf_result}
use Rattle.sq_rules.specs.declared.kinds.ConfError.{ConfError}
use Rattle.sq_rules.specs.Configurations.{Configuration}
use Rattle.sq_machine.specs.Entries.{History, Noted, entry_at}
use Rattle.sq_machine.specs.Events.{begins_epoch}
use Rattle.sq_machine.specs.Machine.{next}
use Rattle.sq_machine.specs.Next.{Next, gives, nothing, refuses}
use Rattle.sq_machine.specs.Marking.{marked}
use Rattle.sq_machine.specs.Readings.{current, epoch_after}
use Rattle.sq_journal.specs.Journals.{epoch_at, greatest_number, next_number, number_at}
use Rattle.sq_journal.specs.Sinks.{epoch_behind}
use Rattle.sq_replay.specs.declared.stops.Stop.{Stop}
use Rattle.sq_replay.specs.declared.stops.Stop.TheVariants as stop
use Rattle.sq_replay.specs.Making.{is_refused}
use Rattle.sq_replay.specs.Runs.{Is, IsMade, ScriptView}
use Rattle.sq_verify.specs.declared.halts.Halt.{Halt}
use Rattle.sq_verify.specs.declared.halts.Halt.TheVariants as halt
use Rattle.sq_verify.specs.declared.versions.Version.{Version}
use Rattle.sq_verify.specs.Promised.{Compares, ComparesNext, Goes, IsNone, MayFollow, Plays, Stands, halt_for}
use Rattle.sq_verify.specs.JournalLines.{line_in, text_in}
use Rattle.sq_verify.specs.Judging.{asked_line, compared, event_line, if_read, if_request, matched}

epoch_by : (b : Bool) (r : ℕ)
    → min (epoch_after b r) greatest_number ≡ (if b then next_number (min r greatest_number) else min r greatest_number)
epoch_by true r = omega arith
epoch_by false r = refl

-- the next entry's epoch
pub epoch_next : (e : Noted) (h : History) → epoch_at (e ∷ h) ≡ epoch_behind (epoch_at h) e.event
epoch_next e h = epoch_by (begins_epoch e.event) (current h)

-- the next entry's number
pub number_next : (e : Noted) (h : History) (count : ℕ) → count ≡ length h → count + 1 ≤ greatest_number
    → count + 1 ≡ number_at (e ∷ h)
number_next e h count is less = omega (arith, is, less)

-- the text with the next number and epoch is the machine's line
pub text_is : (v : Version) (e : Noted) (h : History) (count epoch next : ℕ) → count ≡ length h → epoch ≡ epoch_at h
    → count + 1 ≤ greatest_number → next ≡ epoch_behind epoch e.event
    → text_in v (count + 1) next e ≡ line_in v h e
text_is v e h count epoch next is at less n =
    ap (λ (k : ℕ). text_in v k next e) (number_next e h count is less)
    ∙ ap (λ (k : ℕ). text_in v (number_at (e ∷ h)) k e)
    (n ∙ ap (λ (k : ℕ). epoch_behind k e.event) at ∙ sym (epoch_next e h))

-- what is compared

compared_by : (v : Version) (h : History) (line : List ℕ) (e : Noted) (b : Bool) → bytes_eq (line_in v h e) line ≡ b
    → compared v h line e ≡ (if b then Ok (e ∷ h) else Err (halt.Differs (line_in v h e)))
compared_by v h line e b is = ap (λ (x : Bool). if x then Ok (e ∷ h) else Err (halt.Differs (line_in v h e))) is

-- an event that may stand behind the first is asked
pub follows : (v : Version) (configs : List Configuration) (h : History) (line : List ℕ) (now : ℕ) (event : Event)
    → MayFollow event → event_line v configs h line now event ≡ asked_line v configs h line now event
follows v configs h line now (Begin offset) may = absurd may
follows v configs h line now (Ask conn method target fields) may =
    ap (λ (b : Bool). if_request b (asked_line v configs h line now (Ask conn method target fields))) may
follows v configs h line now (Reconfigure text) may = ap (λ (r : Result Configuration ConfError). if_read r
    (asked_line v configs h line now (Reconfigure text))) may.1
follows v configs h line now event may = refl

-- the machine's answer is compared
asked_is : (v : Version) (old new : ScriptView) (configs : List Configuration) (h : History) (line : List ℕ) (now : ℕ)
    (event : Event) (answer : Told) → Is old configs h
    → IsMade new configs h (max now old.latest) event answer
    → asked_line v configs h line now event ≡ compared v h line (entry_at (max now old.latest) event answer)
asked_is v old new configs h line now event answer is m =
    ap (λ (n : ℕ). matched v h line (max now n) event (next configs (marked configs h) (max now n) event))
    (sym is.latest_is) ∙ ap (matched v h line (max now old.latest) event) m.next_is

-- what the line comes to: the machine's entry compared with it
event_is : (v : Version) (old new : ScriptView) (configs : List Configuration) (h : History) (line : List ℕ) (now : ℕ)
    (event : Event) (answer : Told) → Is old configs h → MayFollow event
    → IsMade new configs h (max now old.latest) event answer
    → event_line v configs h line now event ≡ compared v h line (entry_at (max now old.latest) event answer)
event_is v old new configs h line now event answer is may m = follows v configs h line now event may
    ∙ asked_is v old new configs h line now event answer is m

-- the line is the machine's
goes_on : (v : Version) (old new : ScriptView) (configs : List Configuration) (h : History) (line : List ℕ)
    (now : ℕ) (event : Event) (answer : Told) (count epoch next : ℕ)
    → count + 1 ≤ greatest_number → next ≡ epoch_behind epoch event → Stands old count epoch configs h → MayFollow event
    → IsMade new configs h (max now old.latest) event answer
    → bytes_eq (text_in v (count + 1) next (entry_at (max now old.latest) event answer)) line ≡ true
    → Goes new (count + 1) configs (event_line v configs h line now event) (Ok next)
goes_on v old new configs h line now event answer count epoch next less n s may m same =
    let e = entry_at (max now old.latest) event answer in
    let text = text_is v e h count epoch next s.count_is s.epoch_is less n in (
      e ∷ h,
      event_is v old new configs h line now event answer s.is may m
          ∙ compared_by v h line e true (subst (λ (t : List ℕ). bytes_eq t line ≡ true) text same),
      record {
        is = m.is;
        count_is = (let is = s.count_is in omega arith);
        epoch_is = n ∙ ap (λ (k : ℕ). epoch_behind k event) s.epoch_is ∙ sym (epoch_next e h);
      },
    )

-- the line is another, or memory was wanting
goes_no_more : (v : Version) (old new : ScriptView) (configs : List Configuration) (h : History) (line : List ℕ)
    (now : ℕ) (event : Event) (answer : Told) (count epoch next : ℕ) (stop : Halt)
    → count + 1 ≤ greatest_number → next ≡ epoch_behind epoch event → Stands old count epoch configs h → MayFollow event
    → IsMade new configs h (max now old.latest) event answer
    → Compares (text_in v (count + 1) next (entry_at (max now old.latest) event answer)) line (Err stop)
    → Goes new (count + 1) configs (event_line v configs h line now event) (Err stop)
goes_no_more v old new configs h line now event answer count epoch next halt.NoLine less n s may m c = absurd c
goes_no_more v old new configs h line now event answer count epoch next (halt.Differs other) less n s may m c =
    let e = entry_at (max now old.latest) event answer in
    let text = text_is v e h count epoch next s.count_is s.epoch_is less n in
    event_is v old new configs h line now event answer s.is may m
    ∙ compared_by v h line e false (subst (λ (t : List ℕ). bytes_eq t line ≡ false) text c.1)
    ∙ ap (λ (t : List ℕ). Err (halt.Differs t)) (sym (c.0 ∙ text))
goes_no_more v old new configs h line now event answer count epoch next halt.WantOfMemory less n s may m c = tt

-- either
pub goes_by : (v : Version) (old new : ScriptView) (configs : List Configuration) (h : History) (line : List ℕ)
    (now : ℕ) (event : Event) (answer : Told) (count epoch : ℕ) (result : Result ℕ Halt)
    → count + 1 ≤ greatest_number → Stands old count epoch configs h → MayFollow event
    → IsMade new configs h (max now old.latest) event answer
    → ComparesNext v count epoch (entry_at (max now old.latest) event answer) line result
    → Goes new (count + 1) configs (event_line v configs h line now event) result
goes_by v old new configs h line now event answer count epoch (Ok next) less s may m c =
    goes_on v old new configs h line now event answer count epoch next less c.0 s may m c.1
goes_by v old new configs h line now event answer count epoch (Err stop) less s may m c =
    goes_no_more v old new configs h line now event answer count epoch (epoch_behind epoch event) stop less refl s may m
    c

-- what is refused

refused_matched : (v : Version) (h : History) (line : List ℕ) (moment : ℕ) (event : Event) (n : Next)
    → is_refused n ≡ true → matched v h line moment event n ≡ Err halt.NoLine
refused_matched v h line moment event (gives answer) e = absurd (cc)
refused_matched v h line moment event (refuses r) e = refl
refused_matched v h line moment event nothing e = refl

refused_asked : (v : Version) (old : ScriptView) (configs : List Configuration) (h : History) (line : List ℕ) (now : ℕ)
    (event : Event) → Is old configs h
    → is_refused (next configs (marked configs h) (max now old.latest) event) ≡ true
    → asked_line v configs h line now event ≡ Err halt.NoLine
refused_asked v old configs h line now event is e =
    ap (λ (n : ℕ). matched v h line (max now n) event (next configs (marked configs h) (max now n) event))
    (sym is.latest_is)
    ∙ refused_matched v h line (max now old.latest) event (next configs (marked configs h) (max now old.latest) event) e

none_if : (b : Bool) (step : Result History Halt) → step ≡ Err halt.NoLine → if_request b step ≡ Err halt.NoLine
none_if true step e = e
none_if false step e = refl

none_read : (r : Result Configuration ConfError) (step : Result History Halt) → step ≡ Err halt.NoLine
    → if_read r step ≡ Err halt.NoLine
none_read (Ok config) step e = e
none_read (Err fault) step e = refl

-- an event that may not stand there, or that the machine refuses
none_is : (v : Version) (old : ScriptView) (configs : List Configuration) (h : History) (line : List ℕ) (now : ℕ)
    (event : Event) → Is old configs h → IsNone configs h (max now old.latest) event
    → event_line v configs h line now event ≡ Err halt.NoLine
none_is v old configs h line now (Begin offset) is none = refl
none_is v old configs h line now (Ask conn method target fields) is (inl none) =
    ap (λ (b : Bool). if_request b (asked_line v configs h line now (Ask conn method target fields))) (ap is_some none)
none_is v old configs h line now (Ask conn method target fields) is (inr refused) =
    none_if (is_some (made_request method target 1 fields))
    (asked_line v configs h line now (Ask conn method target fields))
    (refused_asked v old configs h line now (Ask conn method target fields) is refused)
none_is v old configs h line now (Reconfigure text) is (inl fault) =
    ap (λ (r : Result Configuration ConfError). if_read r (asked_line v configs h line now (Reconfigure text))) fault.1
none_is v old configs h line now (Reconfigure text) is (inr refused) =
    none_read (conf_result text) (asked_line v configs h line now (Reconfigure text))
    (refused_asked v old configs h line now (Reconfigure text) is refused)
none_is v old configs h line now event is none = refused_asked v old configs h line now event is none

pub goes_stopped : (v : Version) (old new : ScriptView) (configs : List Configuration) (h : History) (line : List ℕ)
    (now count : ℕ) (event : Event) (stop : Stop) → Is old configs h → Plays old new now event (Err stop)
    → Goes new count configs (event_line v configs h line now event) (Err (halt_for stop))
goes_stopped v old new configs h line now count event stop.Refused is plays =
    none_is v old configs h line now event is (plays configs h is)
goes_stopped v old new configs h line now count event stop.WantOfMemory is plays = tt
