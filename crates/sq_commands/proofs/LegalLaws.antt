-- The history of a rehearsal is legal.
use Rattle.std.proofs.Common.{◌≡◌, ℕ, suc, zero, max, List, [], ◌∷◌, Bool, true, false, if◌then◌else◌, Option, Some, None, Ok, Err, is_some, pos, refl, ap, subst, ◌∙◌, arith}
use Rattle.sq_base.specs.declared.requests.Field.{Field}
use Rattle.sq_request.specs.Written.{made_request}
use Rattle.sq_machine.specs.declared.entries.Event.{Event}
use Rattle.sq_machine.specs.declared.entries.Event.TheVariants.{Act, Ask}
use Rattle.sq_machine.specs.declared.entries.Told.{Told}
use Rattle.sq_rules.specs.Configurations.{Configuration}
use Rattle.sq_machine.specs.Entries.{History, entry_at}
use Rattle.sq_machine.specs.Machine.{Legal, next}
use Rattle.sq_machine.specs.Events.{has_target, is_begin}
use Rattle.sq_machine.specs.Next.{Next, gives, nothing, refuses}
use Rattle.sq_machine.specs.Marking.{marked}
use Rattle.sq_machine.specs.Readings.{latest}
use Rattle.sq_model.proofs.PromiseLaws.{legal_more}
use Rattle.sq_replay.specs.declared.ends.RunEnd.TheVariants as ends
use Rattle.sq_replay.specs.RunText.{Shelf, acts, answered as line_answered, asked_next, event_step, first_history}
use Rattle.sq_replay.proofs.RunLaws.{event_made}
use Rattle.sq_commands.specs.declared.drivers.Driver.{Driver}
use Rattle.sq_commands.specs.Driving.{answered, event_of, first_driver, is_acting, moment_of, passed}
use Rattle.sq_commands.specs.Going.{acted}
use Rattle.sq_commands.specs.Rehearsals.{acted_on, answer_to, drive, made_on, rehearsed, turn_limit, turned}
use Rattle.sq_commands.proofs.TurnLaws.{wanted_plain}

-- the driver goes on legally from each legal history
abbrev GoesLegally : List Configuration → (Driver → History → History) → Type 0
GoesLegally configs go = (d : Driver) (h : History) → Legal configs h → Legal configs (go d h)

guarded_gives : (b : Bool) (n : Next) (told : Told) → (if b then n else nothing) ≡ gives told
    → (b ≡ true) × (n ≡ gives told)
guarded_gives true n told e = (refl, e)
guarded_gives false n told e = absurd (cc)

no_files : Shelf
no_files e name = None

-- a request that is asked has a target of its method's form
asked_formed : (configs : List Configuration) (h : History) (now conn : ℕ) (method target : List ℕ)
    (fields : List Field) (told : Told) → is_some (made_request method target 1 fields) ≡ true
    → next configs (marked configs h) (max now (latest h)) (Ask conn method target fields) ≡ gives told
    → has_target (Ask conn method target fields) ≡ true
asked_formed configs h now conn method target fields told made said =
    let event = Ask conn method target fields in
    let step : event_step no_files configs h 0 now event
    ≡ Ok (acts configs (entry_at (max now (latest h)) event told ∷ h)) =
    ap (λ (b : Bool). if b then asked_next configs h 0 now event else Err (ends.Script 0)) made
    ∙ ap (line_answered configs h 0 (max now (latest h)) event) said in
    let s = event_made no_files configs h 0 now event _ step in
    subst (λ (x : Event). has_target x ≡ true) s.entered_is.0 s.formed

-- an event that is answered is one that a legal history may have next
answer_formed : (configs : List Configuration) (h : History) (now : ℕ) (event : Event) (told : Told)
    → answer_to configs h now event ≡ gives told
    → (has_target event ≡ true) × (next configs (marked configs h) (max now (latest h)) event ≡ gives told)
answer_formed configs h now (Ask conn method target fields) told e =
    let g = guarded_gives (is_some (made_request method target 1 fields))
    (next configs (marked configs h) (max now (latest h)) (Ask conn method target fields)) told e in
    (asked_formed configs h now conn method target fields told g.0 g.1, g.1)
answer_formed configs h now event told e = (refl, e)

acted_legal : (configs : List Configuration) (go : Driver → History → History) (d : Driver) (h : History) (n : Next)
    → next configs (marked configs h) (max (moment_of d) (latest h)) Act ≡ n
    → GoesLegally configs go → Legal configs h → Legal configs (acted_on go d h n)
acted_legal configs go d h (gives told) is more legal =
    let moment = max (moment_of d) (latest h) in
    more (answered told d) (entry_at moment Act told ∷ h)
    (legal_more configs h moment Act told legal refl refl (omega arith) is)
acted_legal configs go d h (refuses r) is more legal = more (acted d) h legal
acted_legal configs go d h nothing is more legal = more (acted d) h legal

made_legal : (configs : List Configuration) (go : Driver → History → History) (d : Driver) (h : History) (event : Event)
    (n : Next) → is_begin event ≡ false → answer_to configs h (moment_of d) event ≡ n
    → GoesLegally configs go → Legal configs h → Legal configs (made_on go d h event n)
made_legal configs go d h event (gives told) later is more legal =
    let moment = max (moment_of d) (latest h) in
    let formed = answer_formed configs h (moment_of d) event told is in
    more (answered told d) (entry_at moment event told ∷ h)
    (legal_more configs h moment event told legal later formed.0 (omega arith) formed.1)
made_legal configs go d h event (refuses r) later is more legal = more (passed d) h legal
made_legal configs go d h event nothing later is more legal = more (passed d) h legal

turned_legal : (configs : List Configuration) (go : Driver → History → History) (d : Driver) (h : History)
    (o : Option Event) → is_acting d.stage ≡ false → event_of d ≡ o
    → GoesLegally configs go → Legal configs h → Legal configs (turned go configs d h o)
turned_legal configs go d h None other wanted more legal = legal
turned_legal configs go d h (Some event) other wanted more legal =
    made_legal configs go d h event (answer_to configs h (moment_of d) event) (wanted_plain d event other wanted).later
    refl more legal

-- a turn
turn_legal : (configs : List Configuration) (go : Driver → History → History) (d : Driver) (h : History) (b : Bool)
    → is_acting d.stage ≡ b → GoesLegally configs go → Legal configs h
    → Legal configs (if b then acted_on go d h (next configs (marked configs h) (max (moment_of d) (latest h)) Act)
    else turned go configs d h (event_of d))
turn_legal configs go d h true acting more legal = acted_legal configs go d h
    (next configs (marked configs h) (max (moment_of d) (latest h)) Act) refl more legal
turn_legal configs go d h false acting more legal = turned_legal configs go d h (event_of d) acting refl more legal

drive_legal : (configs : List Configuration) (k : ℕ) → GoesLegally configs (drive configs k)
drive_legal configs zero d h legal = legal
drive_legal configs (suc k) d h legal = turn_legal configs (drive configs k) d h (is_acting d.stage) refl
    (λ e t l. drive_legal configs k e t l) legal

-- the history of each rehearsal
pub rehearsed_legal : (config : Configuration) (count : ℕ) → Legal (config ∷ []) (rehearsed config count)
rehearsed_legal config count = drive_legal (config ∷ []) (turn_limit count) (first_driver count)
    (first_history 0 (pos 0)) (refl, refl)
