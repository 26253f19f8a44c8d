-- The configuration of each epoch of a run is that of the text by which the epoch began.
use Rattle.std.proofs.Common.{◌≡◌, ◌⊎◌, inl, inr, ℕ, ℤ, suc, ◌+◌, ◌≤◌, List, [], ◌∷◌, ◌++◌, append_assoc, length, length-append, Bool, true, false, if◌then◌else◌, Some, slice_get, refl, sym, ap, ap₂, subst, ◌∙◌, arith, Ok}
use Rattle.std.specs.declared.option.Option.{Option}
use Rattle.sq_outside.specs.SourceLines.{SourceLine}
use Rattle.sq_machine.specs.declared.entries.Event.{Event}
use Rattle.sq_machine.specs.declared.entries.Event.TheVariants.{Begin, Open, Close, Ask, Step, Take, Started, StartFail, Line as HelperLine, Died, Act, Reconfigure, Seat, Grant, Leave}
use Rattle.sq_rules.specs.ConfText.{conf_result}
use Rattle.sq_rules.specs.Configurations.{Configuration}
use Rattle.sq_machine.specs.Entries.{History, entry_at}
use Rattle.sq_machine.specs.Events.{begins_epoch}
use Rattle.sq_machine.specs.Machine.{Legal}
use Rattle.sq_machine.specs.Epochs.{config_of}
use Rattle.sq_machine.specs.Readings.{current, epoch_after}
use Rattle.sq_model.specs.Sources.{AreSourced, IsSourced}
use Rattle.sq_replay.specs.Dues.{dues}
use Rattle.sq_replay.specs.Headline.{AreAccepted, IsAhead, IsAccepted}
use Rattle.sq_replay.specs.RunText.{Shelf, acts, begun_history, configs_of, first_history, named_by, named_from, named_in, run_script, stated, with_config, with_text}
use Rattle.sq_replay.specs.Steps.{IsEntered, IsNamed, IsStep}
use Rattle.sq_replay.proofs.ActLaws.{acts_keep}
use Rattle.sq_conf.proofs.TextLaws.{gives_source}
use Rattle.sq_replay.proofs.RunLaws.{OrNone, Stays, begun_legal, run_keeps, step_legal}

-- acts begin no epoch
pub acts_current : (configs : List Configuration) (h : History) → current (acts configs h) ≡ current h
acts_current configs h = acts_keep configs (λ (t : History). current t ≡ current h) (λ t answer next is. is)
    (dues configs h) h refl

acts_accepted : (configs : List Configuration) (h : History) → AreAccepted configs h
    → AreAccepted configs (acts configs h)
acts_accepted configs h so = acts_keep configs (AreAccepted configs) (λ t answer next so. (tt, so)) (dues configs h)
    h so

-- an event that begins no epoch has no source
plain_accepted : (configs : List Configuration) (h : History) (event : Event) → begins_epoch event ≡ false
    → IsAccepted configs h event
plain_accepted configs h (Reconfigure text) e = absurd (cc)
plain_accepted configs h event e = tt

accepted_source : (configs : List Configuration) (h : History) (event : Event) → IsAccepted configs h event
    → IsSourced configs h event
accepted_source configs h (Reconfigure text) a = (a.0, gives_source text a.0 a.1, a.2)
accepted_source configs h event a = tt

-- a configuration that a text gives has it as its source
pub accepted_sourced : (configs : List Configuration) (h : History) → AreAccepted configs h → AreSourced configs h
accepted_sourced configs [] so = tt
accepted_sourced configs (e ∷ h) so = (accepted_source configs h e.event so.0, accepted_sourced configs h so.1)

-- what stands behind as many configurations
behind : (begun : List Configuration) (config : Configuration) (more : List Configuration)
    → slice_get (begun ++ config ∷ more) (length begun) ≡ Some config
behind [] config more = refl
behind (x ∷ begun) config more = behind begun config more

-- the lines behind one that states an event
plain_named : (files : Shelf) (event : Event) (more : ℕ → List Configuration) (e : ℕ) → begins_epoch event ≡ false
    → named_by files event more e ≡ more e
plain_named files (Reconfigure text) more e is = absurd (cc)
plain_named files event more e is = refl

-- a text that gives a configuration is named
text_named : (files : Shelf) (e : ℕ) (name text : List ℕ) (more : ℕ → List Configuration)
    (n : IsNamed files e name text) → named_by files (Reconfigure name) more e ≡ n.config ∷ more (suc e)
text_named files e name text more n = ap (λ (o : Option (List ℕ)). with_text o (more (suc e))) n.text_is
    ∙ ap (λ r. with_config r (more (suc e))) n.gives_it

-- what is so of a run under way
pub record IsUnderWay (files : Shelf) (configs : List Configuration) (ls : List SourceLine) (h : History) : Type 0 where
  pub legal : Legal configs h
  pub accepted : AreAccepted configs h
  pub ahead : IsAhead files configs h ls

-- the same, without the lines that are to come
pub record IsSourcedRun (configs : List Configuration) (h : History) : Type 0 where
  pub legal : Legal configs h
  pub accepted : AreAccepted configs h
  pub reached : current h ≤ length configs

-- each epoch that has begun has its configuration
ahead_reached : (files : Shelf) (configs : List Configuration) (h : History) (ls : List SourceLine)
    → IsAhead files configs h ls → current h ≤ length configs
ahead_reached files configs h ls a =
    let is : length configs ≡ length a.begun + length (named_from files ls (current h)) =
    ap (λ (xs : List Configuration). length xs) a.configs_are
    ∙ length-append a.begun (named_from files ls (current h)) in
    let count = a.count_is in
    omega arith

-- where the event is entered as it is
plain_ahead : (files : Shelf) (configs : List Configuration) (l : SourceLine) (ls : List SourceLine) (h t : History)
    (now : ℕ) (event : Event) → stated l.bytes ≡ Some (now, event) → begins_epoch event ≡ false
    → current t ≡ current h → IsAhead files configs h (l ∷ ls) → IsAhead files configs t ls
plain_ahead files configs l ls h t now event states plain same a = record {
  begun = a.begun;
  count_is = a.count_is ∙ sym same;
  configs_are =
      a.configs_are
      ∙ ap (λ (xs : List Configuration). a.begun ++ xs)
      (ap (λ (o : Option (ℕ × Event)). named_in files o (named_from files ls) (current h)) states
      ∙ plain_named files event (named_from files ls) (current h) plain ∙ ap (named_from files ls) (sym same));
}

-- where an epoch begins
named_ahead : (files : Shelf) (configs : List Configuration) (l : SourceLine) (ls : List SourceLine) (h t : History)
    (now : ℕ) (name text : List ℕ) → stated l.bytes ≡ Some (now, Reconfigure name)
    → IsNamed files (current h) name text → current t ≡ suc (current h) → IsAhead files configs h (l ∷ ls)
    → IsAhead files configs t ls
named_ahead files configs l ls h t now name text states n same a = record {
  begun = a.begun ++ n.config ∷ [];
  count_is = length-append a.begun (n.config ∷ []) ∙ (let c = a.count_is in omega arith);
  configs_are =
      a.configs_are
      ∙ ap (λ (xs : List Configuration). a.begun ++ xs)
      (ap (λ (o : Option (ℕ × Event)). named_in files o (named_from files ls) (current h)) states
      ∙ text_named files (current h) name text (named_from files ls) n)
      ∙ sym (append_assoc a.begun (n.config ∷ []) (named_from files ls (suc (current h))))
      ∙ ap (λ (e : ℕ). (a.begun ++ n.config ∷ []) ++ named_from files ls e) (sym same);
}

-- the configuration that such a line would read is that of the next epoch
pub named_next : (files : Shelf) (configs : List Configuration) (l : SourceLine) (ls : List SourceLine) (h : History)
    (now : ℕ) (name text : List ℕ) (config : Configuration)
    → stated l.bytes ≡ Some (now, Reconfigure name) → files (current h) name ≡ Some text → conf_result text ≡ Ok config
    → IsAhead files configs h (l ∷ ls) → config_of configs (suc (current h)) ≡ Some config
named_next files configs l ls h now name text config states is gives a =
    let n : IsNamed files (current h) name text = record { config = config; text_is = is; gives_it = gives } in
    let all : configs ≡ a.begun ++ config ∷ named_from files ls (suc (current h)) =
    a.configs_are
    ∙ ap (λ (xs : List Configuration). a.begun ++ xs)
    (ap (λ (o : Option (ℕ × Event)). named_in files o (named_from files ls) (current h)) states
    ∙ text_named files (current h) name text (named_from files ls) n) in
    ap₂ (λ (cs : List Configuration) (k : ℕ). slice_get cs k) all (sym a.count_is)
    ∙ behind a.begun config (named_from files ls (suc (current h)))

-- the configuration of the epoch that such a line begins
pub named_source : (files : Shelf) (configs : List Configuration) (l : SourceLine) (ls : List SourceLine) (h : History)
    (now : ℕ) (name text : List ℕ) → stated l.bytes ≡ Some (now, Reconfigure name)
    → IsNamed files (current h) name text → IsAhead files configs h (l ∷ ls) → IsAccepted configs h (Reconfigure text)
named_source files configs l ls h now name text states n a = (
  n.config,
  n.gives_it,
  named_next files configs l ls h now name text n.config states n.text_is n.gives_it a,
)

-- the current epoch after a step
step_current : (files : Shelf) (configs : List Configuration) (h : History) (e : ℕ) (event : Event) (t : History)
    (s : IsStep files configs h e event t)
    → current t ≡ epoch_after (begins_epoch s.entered) (current h)
step_current files configs h e event t s = sym (ap current s.history_is)
    ∙ acts_current configs (entry_at s.moment s.entered s.answer ∷ h)

step_accepted : (files : Shelf) (configs : List Configuration) (h : History) (e : ℕ) (event : Event) (t : History)
    (s : IsStep files configs h e event t) → IsAccepted configs h s.entered
    → AreAccepted configs h → AreAccepted configs t
step_accepted files configs h e event t s one so = subst (AreAccepted configs) s.history_is
    (acts_accepted configs (entry_at s.moment s.entered s.answer ∷ h) (one, so))

-- an event is entered as it is, or it is a reconfiguration
record IsNamedEvent (files : Shelf) (e : ℕ) (event entered : Event) : Type 0 where
  pub name : List ℕ
  pub text : List ℕ
  pub event_is : event ≡ Reconfigure name
  pub entered_is : entered ≡ Reconfigure text
  pub named : IsNamed files e name text

abbrev IsEither : Shelf → ℕ → Event → Event → Type 0
IsEither files e event entered = ((entered ≡ event) × (begins_epoch event ≡ false)) ⊎ IsNamedEvent files e event entered

either : (files : Shelf) (e : ℕ) (event entered : Event) → IsEntered files e event entered
    → IsEither files e event entered
either files e (Reconfigure name) entered is = inr
    (record { name = name; text = is.0; event_is = refl; entered_is = is.1; named = is.2 })
either files e (Begin offset) entered is = inl is
either files e (Open c a p) entered is = inl is
either files e (Close c) entered is = inl is
either files e (Ask c m x f) entered is = inl is
either files e (Step c) entered is = inl is
either files e (Take c) entered is = inl is
either files e (Started x c) entered is = inl is
either files e (StartFail x c) entered is = inl is
either files e (HelperLine k b) entered is = inl is
either files e (Died k) entered is = inl is
either files e Act entered is = inl is
either files e (Seat c) entered is = inl is
either files e (Grant x w) entered is = inl is
either files e (Leave x) entered is = inl is

-- an epoch begins with each reconfiguration, and with no other event
pub step_epoch : (files : Shelf) (configs : List Configuration) (h : History) (event : Event) (t : History)
    → IsStep files configs h (current h) event t
    → current t ≡ current h + (if begins_epoch event then 1 else 0)
step_epoch files configs h event t s = by (either files (current h) event s.entered s.entered_is)
  where
    more : (b : Bool) → epoch_after b (current h) ≡ current h + (if b then 1 else 0)
    more true = omega arith
    more false = omega arith

    after : (b : Bool) → begins_epoch s.entered ≡ b → begins_epoch event ≡ b
        → current t ≡ current h + (if begins_epoch event then 1 else 0)
    after b entered is =
        step_current files configs h (current h) event t s ∙ ap (λ (c : Bool). epoch_after c (current h)) entered
        ∙ more b
        ∙ sym (ap (λ (c : Bool). current h + (if c then 1 else 0)) is)

    by : IsEither files (current h) event s.entered → current t ≡ current h + (if begins_epoch event then 1 else 0)
    by (inl plain) = after false (ap begins_epoch plain.0 ∙ plain.1) plain.1
    by (inr n) = after true (ap begins_epoch n.entered_is) (ap begins_epoch n.event_is)

-- a step leaves the rest of the lines ahead
pub step_ahead : (files : Shelf) (configs : List Configuration) (l : SourceLine) (ls : List SourceLine) (h : History)
    (now : ℕ) (event : Event) (t : History) → stated l.bytes ≡ Some (now, event)
    → IsStep files configs h (current h) event t → IsAhead files configs h (l ∷ ls) → IsAhead files configs t ls
step_ahead files configs l ls h now event t states s a = by (either files (current h) event s.entered s.entered_is)
  where
    after : (b : Bool) → begins_epoch s.entered ≡ b → current t ≡ epoch_after b (current h)
    after b is = step_current files configs h (current h) event t s ∙ ap (λ (c : Bool). epoch_after c (current h)) is

    by : IsEither files (current h) event s.entered → IsAhead files configs t ls
    by (inl plain) = plain_ahead files configs l ls h t now event states plain.1
        (after false (ap begins_epoch plain.0 ∙ plain.1)) a
    by (inr n) =
        named_ahead files configs l ls h t now n.name n.text (states ∙ ap (λ (z : Event). Some (now, z)) n.event_is)
        n.named
        (after true (ap begins_epoch n.entered_is)) a

-- what it enters has its source
step_source : (files : Shelf) (configs : List Configuration) (l : SourceLine) (ls : List SourceLine) (h : History)
    (now : ℕ) (event : Event) (t : History) → stated l.bytes ≡ Some (now, event)
    → (s : IsStep files configs h (current h) event t) → IsAhead files configs h (l ∷ ls)
    → IsAccepted configs h s.entered
step_source files configs l ls h now event t states s a = by (either files (current h) event s.entered s.entered_is)
  where
    by : IsEither files (current h) event s.entered → IsAccepted configs h s.entered
    by (inl plain) = plain_accepted configs h s.entered (ap begins_epoch plain.0 ∙ plain.1)
    by (inr n) =
        subst (IsAccepted configs h) (sym n.entered_is)
        (named_source files configs l ls h now n.name n.text (states ∙ ap (λ (z : Event). Some (now, z)) n.event_is)
        n.named a)

-- what is so of a run under way stays with each line
pub under_way_stays : (files : Shelf) (configs : List Configuration) → Stays files configs (IsUnderWay files configs)
under_way_stays files configs l ls h now event t states s u = record {
  legal = step_legal files configs h (current h) event t s u.legal;
  accepted = step_accepted files configs h (current h) event t s
      (step_source files configs l ls h now event t states s u.ahead) u.accepted;
  ahead = step_ahead files configs l ls h now event t states s u.ahead;
}

-- the machine has begun, and these lines are to come
begun_under_way : (files : Shelf) (config : Configuration) (all ls : List SourceLine) (now : ℕ) (offset : ℤ)
    → named_from files all 1 ≡ named_from files ls 1
    → IsUnderWay files (configs_of files config all) ls (begun_history (configs_of files config all) now offset)
begun_under_way files config all ls now offset same =
    let configs = configs_of files config all in
    let one : current (begun_history configs now offset) ≡ 1 = acts_current configs (first_history now offset) in
    record {
      legal = begun_legal configs now offset;
      accepted = acts_accepted configs (first_history now offset) (tt, tt);
      ahead = record {
        begun = config ∷ [];
        count_is = sym one;
        configs_are = ap (λ (xs : List Configuration). config ∷ xs) same
            ∙ ap (λ (e : ℕ). config ∷ named_from files ls e) (sym one);
      };
    }

-- the history of a run is legal, and its configurations are those of its texts
pub run_sourced : (files : Shelf) (config : Configuration) (ls : List SourceLine)
    → OrNone (IsSourcedRun (configs_of files config ls)) (run_script files config ls).history
run_sourced files config ls =
    let configs = configs_of files config ls in
    run_keeps files configs (IsUnderWay files configs) (IsSourcedRun configs)
    (λ rest h u. record {
      legal = u.legal;
      accepted = u.accepted;
      reached = ahead_reached files configs h rest u.ahead;
    }) (under_way_stays files configs) ls
    (record {
      first = λ now offset. begun_under_way files config ls ls now offset refl;
      past = λ l more at now offset by is states.
          begun_under_way files config ls more now offset
          (ap (λ (all : List SourceLine). named_from files all 1) is
          ∙ ap (λ (o : Option (ℕ × Event)). named_in files o (named_from files more) 1) states);
    })
