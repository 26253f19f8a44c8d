-- From what the machine makes of an event to a turn of the driver.
use Rattle.std.proofs.Common.{◌≡◌, inl, inr, ℕ, suc, zero, max, List, ◌∷◌, Bool, true, false, if◌then◌else◌, Option, Some, None, IfSome, is_some, slice_get, Result, Ok, Err, OnOk, refl, sym, ap, subst, ◌∙◌}
use Rattle.sq_request.specs.Written.{made_request}
use Rattle.sq_machine.specs.declared.entries.Event.{Event}
use Rattle.sq_machine.specs.declared.entries.Event.TheVariants.{Act, Ask, Begin}
use Rattle.sq_machine.specs.declared.entries.Told.{Told}
use Rattle.sq_rules.specs.Configurations.{Configuration}
use Rattle.sq_machine.specs.Entries.{History, is_event, entry_at}
use Rattle.sq_machine.specs.Events.{begins_epoch, is_begin}
use Rattle.sq_machine.specs.Machine.{next}
use Rattle.sq_machine.specs.Next.{Next, gives, nothing, refuses}
use Rattle.sq_machine.specs.Marking.{marked}
use Rattle.sq_machine.specs.Readings.{latest}
use Rattle.sq_replay.specs.Making.{IsRefusal, MayStand, is_pooled, is_refused}
use Rattle.sq_replay.specs.Runs.{Is, IsMade, ScriptView}
use Rattle.sq_commands.specs.declared.drivers.Driver.{Driver}
use Rattle.sq_commands.specs.declared.rehearsal_stages.SentQuestion.{SentQuestion}
use Rattle.sq_commands.specs.declared.rehearsal_stages.DriverStage.{DriverStage}
use Rattle.sq_commands.specs.declared.rehearsal_stages.DriverStage.TheVariants as stage
use Rattle.sq_commands.specs.declared.summaries.Summary.{Summary}
use Rattle.sq_commands.specs.Driving.{answered, event_at, event_of, is_acting, moment_of, passed, reply_event}
use Rattle.sq_commands.specs.Going.{acted}
use Rattle.sq_commands.specs.Rehearsals.{acted_on, answer_to, drive, made_on, turned}
use Rattle.sq_commands.specs.Summaries.{count_told, counted}
use Rattle.sq_commands.specs.Turns.{TurnsTo}

-- the events that a driver wants

abbrev pub is_act : Event → Bool
is_act Act = true
is_act event = false

-- an event of a line of a script, but for reconfigurations
pub record IsPlain (event : Event) : Type 0 where
  pub event_is : is_event event ≡ true
  pub plain : begins_epoch event ≡ false
  pub other : is_act event ≡ false
  pub later : is_begin event ≡ false
  pub engine : is_pooled event ≡ false

reply_plain : (o : Option SentQuestion) → IfSome (reply_event o) IsPlain
reply_plain None = tt
reply_plain (Some s) = record { event_is = refl; plain = refl; other = refl; later = refl; engine = refl }

stage_plain : (s : DriverStage) (d : Driver) → is_acting s ≡ false → IfSome (event_at s d) IsPlain
stage_plain stage.Opening d other = record { event_is = refl; plain = refl; other = refl; later = refl; engine = refl }
stage_plain stage.Asking d other = record { event_is = refl; plain = refl; other = refl; later = refl; engine = refl }
stage_plain stage.Stepping d other = record { event_is = refl; plain = refl; other = refl; later = refl; engine = refl }
stage_plain stage.Acting d other = absurd (cc)
stage_plain (stage.Starting epoch class) d other =
    record { event_is = refl; plain = refl; other = refl; later = refl; engine = refl }
stage_plain stage.Replying d other = reply_plain (slice_get d.sent 0)
stage_plain stage.Taking d other = record { event_is = refl; plain = refl; other = refl; later = refl; engine = refl }
stage_plain stage.Closing d other = record { event_is = refl; plain = refl; other = refl; later = refl; engine = refl }
stage_plain stage.Over d other = tt

pub wanted_plain : (d : Driver) (event : Event) → is_acting d.stage ≡ false → event_of d ≡ Some event → IsPlain event
wanted_plain d event other wanted = subst (λ o. IfSome o IsPlain) wanted (stage_plain d.stage d other)

-- answers

answer_given : (configs : List Configuration) (h : History) (now : ℕ) (event : Event) (told : Told) → MayStand event
    → next configs (marked configs h) (max now (latest h)) event ≡ gives told
    → answer_to configs h now event ≡ gives told
answer_given configs h now (Begin offset) told may e = absurd may
answer_given configs h now Act told may e = absurd may
answer_given configs h now (Ask conn method target fields) told may e =
    ap (λ (b : Bool). if b then next configs (marked configs h) (max now (latest h)) (Ask conn method target fields)
    else nothing) may ∙ e
answer_given configs h now event told may e = e

guarded : (b : Bool) (n : Next) → is_refused n ≡ true → is_refused (if b then n else nothing) ≡ true
guarded true n r = r
guarded false n r = refl

answer_refused : (configs : List Configuration) (h : History) (now : ℕ) (event : Event) → is_act event ≡ false
    → IsRefusal configs h (max now (latest h)) event
    → is_refused (answer_to configs h now event) ≡ true
answer_refused configs h now Act other r = absurd (cc)
answer_refused configs h now (Ask conn method target fields) other (inl none) =
    ap (λ o. is_refused (if is_some o then next configs (marked configs h) (max now (latest h))
    (Ask conn method target fields) else nothing)) none
answer_refused configs h now (Ask conn method target fields) other (inr r) =
    guarded (is_some (made_request method target 1 fields))
    (next configs (marked configs h) (max now (latest h)) (Ask conn method target fields)) r
answer_refused configs h now event other r = r

made_refused : (go : Driver → History → History) (d : Driver) (h : History) (event : Event) (n : Next)
    → is_refused n ≡ true → made_on go d h event n ≡ go (passed d) h
made_refused go d h event (gives told) r = absurd (cc)
made_refused go d h event (refuses x) r = refl
made_refused go d h event nothing r = refl

-- turns

-- what follows from what a call comes to
pub on_ok : {A E : Type 0} (r : Result A E) (P Q : Type 0) → (P → Q) → OnOk r P → OnOk r Q
on_ok (Ok a) P Q f p = f p
on_ok (Err e) P Q f p = tt

-- a turn of a driver that makes acts
pub turn_acts : (configs : List Configuration) (k : ℕ) (d : Driver) (h : History) → is_acting d.stage ≡ true
    → drive configs (suc k) d h
    ≡ acted_on (drive configs k) d h (next configs (marked configs h) (max (moment_of d) (latest h)) Act)
turn_acts configs k d h acting =
    ap (λ (b : Bool). if b then acted_on (drive configs k) d h
    (next configs (marked configs h) (max (moment_of d) (latest h)) Act)
    else turned (drive configs k) configs d h (event_of d)) acting

-- and of any other
pub turn_makes : (configs : List Configuration) (k : ℕ) (d : Driver) (h : History) → is_acting d.stage ≡ false
    → drive configs (suc k) d h ≡ turned (drive configs k) configs d h (event_of d)
turn_makes configs k d h acting =
    ap (λ (b : Bool). if b then acted_on (drive configs k) d h
    (next configs (marked configs h) (max (moment_of d) (latest h)) Act)
    else turned (drive configs k) configs d h (event_of d)) acting

-- no act is due
pub act_none : (v w : ScriptView) (configs : List Configuration) (h : History) (d e : Driver) (s : Summary)
    → is_acting d.stage ≡ true → w ≡ v → e ≡ acted d
    → next configs (marked configs h) (max (moment_of d) v.latest) Act ≡ nothing → Is v configs h → s ≡ counted h
    → TurnsTo configs h d w s e
act_none v w configs h d e s acting same goes said is counts = record {
  history = h;
  is = subst (λ (x : ScriptView). Is x configs h) (sym same) is;
  counts = counts;
  same = λ k.
      let none : next configs (marked configs h) (max (moment_of d) (latest h)) Act ≡ nothing =
      subst (λ (n : ℕ). next configs (marked configs h) (max (moment_of d) n) Act ≡ nothing) is.latest_is said in
      turn_acts configs k d h acting ∙ ap (acted_on (drive configs k) d h) none
      ∙ ap (λ (x : Driver). drive configs k x h) (sym goes);
}

-- an act was made
pub act_done : (v w : ScriptView) (configs : List Configuration) (h : History) (d e : Driver) (s t : Summary)
    (told : Told) → is_acting d.stage ≡ true → e ≡ answered told d → t ≡ count_told told s
    → IsMade w configs h (max (moment_of d) v.latest) Act told → Is v configs h → s ≡ counted h
    → TurnsTo configs h d w t e
act_done v w configs h d e s t told acting goes more made is counts = record {
  history = entry_at (max (moment_of d) (latest h)) Act told ∷ h;
  is = subst (λ (n : ℕ). Is w configs (entry_at (max (moment_of d) n) Act told ∷ h)) is.latest_is made.is;
  counts = more ∙ ap (count_told told) counts;
  same = λ k.
      let said : next configs (marked configs h) (max (moment_of d) (latest h)) Act ≡ gives told =
      subst (λ (n : ℕ). next configs (marked configs h) (max (moment_of d) n) Act ≡ gives told) is.latest_is
      made.next_is in
      turn_acts configs k d h acting ∙ ap (acted_on (drive configs k) d h) said
      ∙ ap (λ (x : Driver). drive configs k x (entry_at (max (moment_of d) (latest h)) Act told ∷ h)) (sym goes);
}

-- an event was made
pub event_done : (v w : ScriptView) (configs : List Configuration) (h : History) (d e : Driver) (s t : Summary)
    (event : Event) (told : Told) → is_acting d.stage ≡ false → event_of d ≡ Some event
    → e ≡ answered told d → t ≡ count_told told s → MayStand event
    → IsMade w configs h (max (moment_of d) v.latest) event told → Is v configs h → s ≡ counted h
    → TurnsTo configs h d w t e
event_done v w configs h d e s t event told acting wanted goes more may made is counts = record {
  history = entry_at (max (moment_of d) (latest h)) event told ∷ h;
  is = subst (λ (n : ℕ). Is w configs (entry_at (max (moment_of d) n) event told ∷ h)) is.latest_is made.is;
  counts = more ∙ ap (count_told told) counts;
  same = λ k.
      let said : next configs (marked configs h) (max (moment_of d) (latest h)) event ≡ gives told =
      subst (λ (n : ℕ). next configs (marked configs h) (max (moment_of d) n) event ≡ gives told) is.latest_is
      made.next_is in
      turn_makes configs k d h acting ∙ ap (turned (drive configs k) configs d h) wanted
      ∙ ap (made_on (drive configs k) d h event) (answer_given configs h (moment_of d) event told may said)
      ∙ ap (λ (x : Driver). drive configs k x (entry_at (max (moment_of d) (latest h)) event told ∷ h)) (sym goes);
}

-- an event was refused
pub event_refused : (v w : ScriptView) (configs : List Configuration) (h : History) (d e : Driver) (s : Summary)
    (event : Event) → is_acting d.stage ≡ false → event_of d ≡ Some event → e ≡ passed d
    → IsRefusal configs h (max (moment_of d) v.latest) event → Is w configs h → Is v configs h → s ≡ counted h
    → TurnsTo configs h d w s e
event_refused v w configs h d e s event acting wanted goes r left is counts = record {
  history = h;
  is = left;
  counts = counts;
  same = λ k.
      let here : IsRefusal configs h (max (moment_of d) (latest h)) event =
      subst (λ (n : ℕ). IsRefusal configs h (max (moment_of d) n) event) is.latest_is r in
      turn_makes configs k d h acting ∙ ap (turned (drive configs k) configs d h) wanted
      ∙ made_refused (drive configs k) d h event (answer_to configs h (moment_of d) event)
      (answer_refused configs h (moment_of d) event (wanted_plain d event acting wanted).other here)
      ∙ ap (λ (x : Driver). drive configs k x h) (sym goes);
}

-- no event is wanted
pub none_wanted : (configs : List Configuration) (h : History) (d : Driver) → is_acting d.stage ≡ false
    → event_of d ≡ None → (k : ℕ) → drive configs k d h ≡ h
none_wanted configs h d acting wanted zero = refl
none_wanted configs h d acting wanted (suc k) = turn_makes configs k d h acting
    ∙ ap (turned (drive configs k) configs d h) wanted
