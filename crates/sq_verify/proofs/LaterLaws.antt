-- A line behind the first entry whose entry is the machine's, and the configurations that are ahead of it.
use Rattle.std.proofs.Common.{◌≡◌, ℕ, suc, max, List, [], ◌∷◌, ◌++◌, append_assoc, length, length-append, Bool, true, false, if◌then◌else◌, bytes_eq, is_some, slice_get, Option, Some, None, Result, Ok, Err, refl, sym, ap, ap₂, ◌∙◌, arith}
use Rattle.sq_outside.specs.SourceLines.{SourceLine, is_within}
use Rattle.sq_request.specs.Written.{made_request}
use Rattle.sq_machine.specs.declared.entries.Event.{Event}
use Rattle.sq_machine.specs.declared.entries.Event.TheVariants.{Begin, Ask, Reconfigure}
use Rattle.sq_machine.specs.declared.entries.Told.{Told}
use Rattle.sq_rules.specs.ConfText.{conf_result}
use Rattle.sq_rules.specs.declared.kinds.ConfError.{ConfError}
use Rattle.sq_rules.specs.Configurations.{Configuration}
use Rattle.sq_machine.specs.Entries.{History, Noted, entry_at}
use Rattle.sq_machine.specs.Events.{begins_epoch}
use Rattle.sq_machine.specs.Machine.{next}
use Rattle.sq_machine.specs.Next.{Next, gives, nothing, refuses}
use Rattle.sq_machine.specs.Marking.{marked}
use Rattle.sq_machine.specs.Readings.{current, epoch_after, latest}
use Rattle.sq_replay.specs.RunText.{with_config}
use Rattle.sq_verify.specs.declared.halts.Halt.{Halt}
use Rattle.sq_verify.specs.declared.halts.Halt.TheVariants as halt
use Rattle.sq_verify.specs.declared.versions.Version.{Version}
use Rattle.sq_verify.specs.Promised.{AreAhead, HasNext, IsNext, MayFollow}
use Rattle.sq_verify.specs.JournalLines.{line_in, line_limit, noted_in}
use Rattle.sq_verify.specs.Judging.{asked_line, compared, event_line, if_read, if_request, later_line, matched, named_by, named_from, named_in, stated_line}

-- a line that goes on

-- the line states an event that may stand there, and is the text of the machine's entry
pub record IsLater (v : Version) (configs : List Configuration) (h : History) (line : List ℕ)
    (t : History) : Type 0 where
  pub stated : Noted
  pub answer : Told
  pub noted_is : noted_in v line ≡ Some stated
  pub may : MayFollow stated.event
  pub next_is : next configs (marked configs h) (max stated.moment (latest h)) stated.event ≡ gives answer
  pub text_is : bytes_eq (line_in v h (entry_at (max stated.moment (latest h)) stated.event answer)) line ≡ true
  pub history_is : entry_at (max stated.moment (latest h)) stated.event answer ∷ h ≡ t

request_ok : (b : Bool) (step : Result History Halt) (t : History) → if_request b step ≡ Ok t
    → (b ≡ true) × (step ≡ Ok t)
request_ok true step t e = (refl, e)
request_ok false step t e = absurd (cc)

read_ok : (r : Result Configuration ConfError) (step : Result History Halt) (t : History) → if_read r step ≡ Ok t
    → ((config : Configuration) × (r ≡ Ok config)) × (step ≡ Ok t)
read_ok (Ok config) step t e = ((config, refl), e)
read_ok (Err f) step t e = absurd (cc)

event_ok : (v : Version) (configs : List Configuration) (h : History) (line : List ℕ) (now : ℕ) (event : Event)
    (t : History) → event_line v configs h line now event ≡ Ok t
    → MayFollow event × (asked_line v configs h line now event ≡ Ok t)
event_ok v configs h line now (Begin offset) t e = absurd (cc)
event_ok v configs h line now (Ask conn method target fields) t e =
    request_ok (is_some (made_request method target 1 fields))
    (asked_line v configs h line now (Ask conn method target fields)) t e
event_ok v configs h line now (Reconfigure text) t e = read_ok (conf_result text)
    (asked_line v configs h line now (Reconfigure text)) t e
event_ok v configs h line now event t e = (tt, e)

matched_ok : (v : Version) (h : History) (line : List ℕ) (moment : ℕ) (event : Event) (n : Next) (t : History)
    → matched v h line moment event n ≡ Ok t
    → (answer : Told) × (n ≡ gives answer) × (compared v h line (entry_at moment event answer) ≡ Ok t)
matched_ok v h line moment event (gives answer) t e = (answer, refl, e)
matched_ok v h line moment event (refuses r) t e = absurd (cc)
matched_ok v h line moment event nothing t e = absurd (cc)

compared_if : (h : History) (e : Noted) (text : List ℕ) (t : History) (b : Bool)
    → (if b then Ok (e ∷ h) else Err (halt.Differs text)) ≡ Ok t → (b ≡ true) × (e ∷ h ≡ t)
compared_if h e text t true is = (refl, cc)
compared_if h e text t false is = absurd (cc)

pub compared_ok : (v : Version) (h : History) (line : List ℕ) (e : Noted) (t : History) → compared v h line e ≡ Ok t
    → (bytes_eq (line_in v h e) line ≡ true) × (e ∷ h ≡ t)
compared_ok v h line e t is = compared_if h e (line_in v h e) t (bytes_eq (line_in v h e) line) is

stated_ok : (v : Version) (configs : List Configuration) (h : History) (line : List ℕ) (o : Option Noted) (t : History)
    → noted_in v line ≡ o → stated_line v configs h line o ≡ Ok t → IsLater v configs h line t
stated_ok v configs h line None t is e = absurd (cc)
stated_ok v configs h line (Some s) t is e =
    let a = event_ok v configs h line s.moment s.event t e in
    let m = matched_ok v h line (max s.moment (latest h)) s.event
    (next configs (marked configs h) (max s.moment (latest h)) s.event) t a.1 in
    let c = compared_ok v h line (entry_at (max s.moment (latest h)) s.event m.0) t m.2 in
    record { stated = s; answer = m.0; noted_is = is; may = a.0; next_is = m.1; text_is = c.0; history_is = c.1 }

pub readable_ok : {A : Type 0} (b : Bool) (step : Result A Halt) (t : A) → (if b then step else Err halt.NoLine) ≡ Ok t
    → (b ≡ true) × (step ≡ Ok t)
readable_ok true step t e = (refl, e)
readable_ok false step t e = absurd (cc)

-- so it is of a line that goes on, which can be read
pub later_ok : (v : Version) (configs : List Configuration) (h : History) (place : ℕ) (l : SourceLine) (t : History)
    → later_line v configs h place l ≡ Ok t
    → (is_within (line_limit v) place l ≡ true) × IsLater v configs h l.bytes t
later_ok v configs h place l t e =
    let r = readable_ok (is_within (line_limit v) place l) (stated_line v configs h l.bytes (noted_in v l.bytes)) t e in
    (r.0, stated_ok v configs h l.bytes (noted_in v l.bytes) t refl r.1)

-- the same of what it states
pub stated_later : (v : Version) (configs : List Configuration) (h : History) (line : List ℕ) (t : History)
    → stated_line v configs h line (noted_in v line) ≡ Ok t → IsLater v configs h line t
stated_later v configs h line t e = stated_ok v configs h line (noted_in v line) t refl e

-- configurations ahead

-- what stands behind as many configurations
behind : (begun : List Configuration) (config : Configuration) (more : List Configuration)
    → slice_get (begun ++ config ∷ more) (length begun) ≡ Some config
behind [] config more = refl
behind (x ∷ begun) config more = behind begun config more

-- those that a line and the lines behind it hold
named_is : (v : Version) (l : SourceLine) (ls : List SourceLine) (e : Noted) → noted_in v l.bytes ≡ Some e
    → named_from v (l ∷ ls) ≡ named_by e.event (named_from v ls)
named_is v l ls e is = ap (λ (o : Option Noted). named_in o (named_from v ls)) is

by_text : (text : List ℕ) (config : Configuration) (more : List Configuration) → conf_result text ≡ Ok config
    → named_by (Reconfigure text) more ≡ config ∷ more
by_text text config more is = ap (λ (r : Result Configuration ConfError). with_config r more) is

-- the configuration that the next line's text gives is that of the next epoch
next_by : (v : Version) (configs : List Configuration) (h : History) (l : SourceLine) (ls : List SourceLine) (e : Noted)
    (event : Event) → noted_in v l.bytes ≡ Some e → e.event ≡ event → AreAhead v configs h (l ∷ ls)
    → HasNext configs h event
next_by v configs h l ls e (Reconfigure text) is same a = λ config read.
    let all : configs ≡ a.begun ++ config ∷ named_from v ls =
    a.configs_are ∙ ap (λ (xs : List Configuration). a.begun ++ xs)
    (named_is v l ls e is ∙ ap (λ (x : Event). named_by x (named_from v ls)) same
    ∙ by_text text config (named_from v ls) read) in
    ap₂ (λ (cs : List Configuration) (k : ℕ). slice_get cs k) all (sym a.count_is)
    ∙ behind a.begun config (named_from v ls)
next_by v configs h l ls e event is same a = tt

next_of : (v : Version) (configs : List Configuration) (h : History) (l : SourceLine) (ls : List SourceLine)
    (o : Option Noted) → noted_in v l.bytes ≡ o → AreAhead v configs h (l ∷ ls) → IsNext configs h o
next_of v configs h l ls None is a = tt
next_of v configs h l ls (Some e) is a = next_by v configs h l ls e e.event is refl a

pub ahead_next : (v : Version) (configs : List Configuration) (h : History) (l : SourceLine) (ls : List SourceLine)
    → AreAhead v configs h (l ∷ ls) → IsNext configs h (noted_in v l.bytes)
ahead_next v configs h l ls a = next_of v configs h l ls (noted_in v l.bytes) refl a

-- a line that begins no epoch holds none
plain_ahead : (v : Version) (configs : List Configuration) (h t : History) (l : SourceLine) (ls : List SourceLine)
    → named_from v (l ∷ ls) ≡ named_from v ls → current t ≡ current h → AreAhead v configs h (l ∷ ls)
    → AreAhead v configs t ls
plain_ahead v configs h t l ls same at a = record {
  begun = a.begun;
  count_is = a.count_is ∙ sym at;
  configs_are = a.configs_are ∙ ap (λ (xs : List Configuration). a.begun ++ xs) same;
}

text_ahead : (v : Version) (configs : List Configuration) (h t : History) (l : SourceLine) (ls : List SourceLine)
    (config : Configuration) → named_from v (l ∷ ls) ≡ config ∷ named_from v ls → current t ≡ suc (current h)
    → AreAhead v configs h (l ∷ ls) → AreAhead v configs t ls
text_ahead v configs h t l ls config same at a = record {
  begun = a.begun ++ config ∷ [];
  count_is = length-append a.begun (config ∷ []) ∙ (let c = a.count_is in omega arith);
  configs_are = a.configs_are ∙ ap (λ (xs : List Configuration). a.begun ++ xs) same
      ∙ sym (append_assoc a.begun (config ∷ []) (named_from v ls));
}

event_ahead : (v : Version) (configs : List Configuration) (h t : History) (l : SourceLine) (ls : List SourceLine)
    (event : Event) → MayFollow event → named_from v (l ∷ ls) ≡ named_by event (named_from v ls)
    → current t ≡ epoch_after (begins_epoch event) (current h) → AreAhead v configs h (l ∷ ls) → AreAhead v configs t ls
event_ahead v configs h t l ls (Reconfigure text) may named at a =
    text_ahead v configs h t l ls may.0 (named ∙ by_text text may.0 (named_from v ls) may.1) at a
event_ahead v configs h t l ls event may named at a = plain_ahead v configs h t l ls named at a

-- a line that goes on leaves the rest ahead
pub later_ahead : (v : Version) (configs : List Configuration) (h t : History) (l : SourceLine) (ls : List SourceLine)
    → (i : IsLater v configs h l.bytes t) → AreAhead v configs h (l ∷ ls) → AreAhead v configs t ls
later_ahead v configs h t l ls i a = event_ahead v configs h t l ls i.stated.event i.may
    (named_is v l ls i.stated i.noted_is) (sym (ap current i.history_is)) a
