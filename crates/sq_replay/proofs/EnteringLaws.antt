-- From what was made and written to the step of a line.
use Rattle.std.proofs.Common.{◌≡◌, inl, inr, ℕ, max, List, ◌∷◌, ◌++◌, Bool, true, false, if◌then◌else◌, Option, Some, None, Ok, Err, Result, is_some, refl, sym, ap, subst, ◌∙◌}
use Rattle.sq_base.specs.declared.requests.Field.{Field}
use Rattle.sq_outside.specs.Told.{Openings, Texts}
use Rattle.sq_outside.specs.Input.{IsWhole, ReadsFile, ReadsOpening}
use Rattle.sq_request.specs.Written.{made_request}
use Rattle.sq_machine.specs.declared.entries.Event.{Event}
use Rattle.sq_machine.specs.declared.entries.Event.TheVariants.{Begin, Open, Close, Ask, Step, Take, Started, StartFail, Line as HelperLine, Died, Act, Reconfigure, Seat, Grant, Leave}
use Rattle.sq_machine.specs.declared.entries.Told.{Told}
use Rattle.sq_rules.specs.ConfText.{conf_result}
use Rattle.sq_rules.specs.declared.kinds.Kind.TheVariants as kind
use Rattle.sq_rules.specs.Configurations.{Configuration}
use Rattle.sq_machine.specs.Entries.{History, entry_at}
use Rattle.sq_machine.specs.Events.{begins_epoch}
use Rattle.sq_machine.specs.Machine.{next}
use Rattle.sq_rules.specs.Limits.{text_limit}
use Rattle.sq_machine.specs.Next.{gives, nothing}
use Rattle.sq_machine.specs.Marking.{marked}
use Rattle.sq_machine.specs.Readings.{current, latest}
use Rattle.sq_journal.specs.EntryText.{entry_line, written}
use Rattle.sq_replay.specs.declared.ends.RunEnd.{RunEnd}
use Rattle.sq_replay.specs.declared.ends.RunEnd.TheVariants as ends
use Rattle.sq_replay.specs.declared.page.Unwritten.{Unwritten}
use Rattle.sq_replay.specs.Entering.{Arrives, IsJudgeEnd, Judges, NamedReads, named_of}
use Rattle.sq_replay.specs.Making.{IsRefusal, MayStand, is_refused}
use Rattle.sq_replay.specs.RunText.{Shelf, accepted, acts, asked_next, event_step, reconfigured}
use Rattle.sq_replay.specs.Runs.{At, Is, IsMade, ScriptView, Reached, Stops, Tells, Wrote, WroteFront, WrotePart, step_text}
use Rattle.sq_replay.proofs.ActLaws.{acts_none, acts_some}
use Rattle.sq_replay.proofs.GrowthLaws.{acts_grow, event_grows}
use Rattle.sq_replay.proofs.LoopLaws.{front_more, part_more}
use Rattle.sq_replay.proofs.MakingLaws.{made_asks, refused_asks}
use Rattle.sq_replay.proofs.OpeningLaws.{tells_text}
use Rattle.sq_conf.proofs.TextLaws.{gives_source, too_long}

-- acts

-- none is due any more
pub reached_none : (v : ScriptView) (base contents : Option (List ℕ)) (page : List ℕ) (configs : List Configuration)
    (h : History)
    → ((g : History) → Is v configs g → next configs (marked configs g) v.latest Act ≡ nothing)
    → Reached v base contents page configs h → At v base contents page configs (acts configs h)
reached_none v base contents page configs h none r =
    let is : next configs (marked configs r.history) (latest r.history) Act ≡ nothing =
    subst (λ (n : ℕ). next configs (marked configs r.history) n Act ≡ nothing) r.at.is.latest_is
    (none r.history r.at.is) in
    subst (At v base contents page configs) (sym (acts_none configs r.history is) ∙ r.same) r.at

-- memory ran out before the next
pub reached_front : (v : ScriptView) (base contents : Option (List ℕ)) (page : List ℕ) (configs : List Configuration)
    (h : History) → Reached v base contents page configs h
    → WroteFront base contents page (written (acts configs h))
reached_front v base contents page configs h r =
    subst (λ (t : History). WroteFront base contents page (written t)) r.same
    (record { front = written r.history; begins = acts_grow configs r.history; wrote = r.at.wrote })

-- an act that was made begins the acts that were due
reached_made : (v w : ScriptView) (base before : Option (List ℕ)) (old_page : List ℕ) (configs : List Configuration)
    (h : History) (answer : Told)
    → ((g : History) → Is v configs g → IsMade w configs g v.latest Act answer)
    → (r : Reached v base before old_page configs h)
    → acts configs (entry_at v.latest Act answer ∷ r.history) ≡ acts configs h
reached_made v w base before old_page configs h answer made r =
    let m = made r.history r.at.is in
    let is = r.at.is.latest_is in
    let said : next configs (marked configs r.history) (latest r.history) Act ≡ gives answer =
    subst (λ (n : ℕ). next configs (marked configs r.history) n Act ≡ gives answer) is m.next_is in
    let more : acts configs r.history ≡ acts configs (entry_at v.latest Act answer ∷ r.history) =
    acts_some configs r.history answer r.at.is.engine.good r.at.is.engine.legal said
    ∙ ap (λ (n : ℕ). acts configs (entry_at n Act answer ∷ r.history)) (sym is) in
    sym more ∙ r.same

-- its line could not be written
pub reached_failed : (v w : ScriptView) (base before contents : Option (List ℕ)) (old_page : List ℕ)
    (configs : List Configuration) (h : History) (answer : Told)
    → ((g : History) → Is v configs g → IsMade w configs g v.latest Act answer)
    → ((text : List ℕ) → Wrote base before old_page text
    → WrotePart base contents (text ++ entry_line (entry_at v.latest Act answer)))
    → Reached v base before old_page configs h → WrotePart base contents (written (acts configs h))
reached_failed v w base before contents old_page configs h answer made wrote r =
    let e = entry_at v.latest Act answer in
    subst (λ (t : History). WrotePart base contents (written t))
    (reached_made v w base before old_page configs h answer made r)
    (part_more base contents (written (e ∷ r.history)) (written (acts configs (e ∷ r.history)))
    (acts_grow configs (e ∷ r.history)) (wrote (written r.history) r.at.wrote))

pub reached_lacking : (v w : ScriptView) (base before contents : Option (List ℕ)) (old_page page : List ℕ)
    (configs : List Configuration) (h : History) (answer : Told)
    → ((g : History) → Is v configs g → IsMade w configs g v.latest Act answer)
    → ((text : List ℕ) → Wrote base before old_page text
    → WroteFront base contents page (text ++ entry_line (entry_at v.latest Act answer)))
    → Reached v base before old_page configs h → WroteFront base contents page (written (acts configs h))
reached_lacking v w base before contents old_page page configs h answer made wrote r =
    let e = entry_at v.latest Act answer in
    subst (λ (t : History). WroteFront base contents page (written t))
    (reached_made v w base before old_page configs h answer made r)
    (front_more base contents page (written (e ∷ r.history)) (written (acts configs (e ∷ r.history)))
    (acts_grow configs (e ∷ r.history)) (wrote (written r.history) r.at.wrote))

-- events of lines

-- one that may stand there is the machine's to answer
stand_asks : (files : Shelf) (configs : List Configuration) (h : History) (number now : ℕ) (event : Event)
    → MayStand event → begins_epoch event ≡ false
    → event_step files configs h number now event ≡ asked_next configs h number now event
stand_asks files configs h number now (Begin offset) may plain = absurd may
stand_asks files configs h number now Act may plain = absurd may
stand_asks files configs h number now (Reconfigure text) may plain = absurd (cc)
stand_asks files configs h number now (Ask c m t f) may plain =
    ap (λ (b : Bool). if b then asked_next configs h number now (Ask c m t f) else Err (ends.Script number)) may
stand_asks files configs h number now (Open c a p) may plain = refl
stand_asks files configs h number now (Close c) may plain = refl
stand_asks files configs h number now (Step c) may plain = refl
stand_asks files configs h number now (Take c) may plain = refl
stand_asks files configs h number now (Started e c) may plain = refl
stand_asks files configs h number now (StartFail e c) may plain = refl
stand_asks files configs h number now (HelperLine q b) may plain = refl
stand_asks files configs h number now (Died q) may plain = refl
stand_asks files configs h number now (Seat c) may plain = refl
stand_asks files configs h number now (Grant s w) may plain = refl
stand_asks files configs h number now (Leave s) may plain = refl

-- it was made
pub plain_step : (v w : ScriptView) (files : Shelf) (configs : List Configuration) (h : History) (number now : ℕ)
    (event : Event) (answer : Told) → MayStand event → begins_epoch event ≡ false → Is v configs h
    → IsMade w configs h (max now v.latest) event answer
    → event_step files configs h number now event ≡ Ok (acts configs (entry_at (max now v.latest) event answer ∷ h))
plain_step v w files configs h number now event answer may plain is m =
    stand_asks files configs h number now event may plain ∙ made_asks v w configs h number now event answer is m

ask_refused : (configs : List Configuration) (h : History) (number now c : ℕ) (m t : List ℕ) (f : List Field) (b : Bool)
    → asked_next configs h number now (Ask c m t f) ≡ Err (ends.Script number)
    → (if b then asked_next configs h number now (Ask c m t f) else Err (ends.Script number)) ≡ Err (ends.Script number)
ask_refused configs h number now c m t f true e = e
ask_refused configs h number now c m t f false e = refl

-- it is refused
pub refusal_step : (v : ScriptView) (files : Shelf) (configs : List Configuration) (h : History) (number now : ℕ)
    (event : Event) → begins_epoch event ≡ false → Is v configs h
    → IsRefusal configs h (max now v.latest) event
    → event_step files configs h number now event ≡ Err (ends.Script number)
refusal_step v files configs h number now (Begin offset) plain is r = refl
refusal_step v files configs h number now Act plain is r = refl
refusal_step v files configs h number now (Reconfigure text) plain is r = absurd (cc)
refusal_step v files configs h number now (Ask c m t f) plain is (inl none) =
    ap (λ o. if is_some o then asked_next configs h number now (Ask c m t f) else Err (ends.Script number)) none
refusal_step v files configs h number now (Ask c m t f) plain is (inr r) =
    ask_refused configs h number now c m t f (is_some (made_request m t 1 f))
    (refused_asks v configs h number now (Ask c m t f) is r)
refusal_step v files configs h number now (Open c a p) plain is r =
    refused_asks v configs h number now (Open c a p) is r
refusal_step v files configs h number now (Close c) plain is r = refused_asks v configs h number now (Close c) is r
refusal_step v files configs h number now (Step c) plain is r = refused_asks v configs h number now (Step c) is r
refusal_step v files configs h number now (Take c) plain is r = refused_asks v configs h number now (Take c) is r
refusal_step v files configs h number now (Started e c) plain is r =
    refused_asks v configs h number now (Started e c) is r
refusal_step v files configs h number now (StartFail e c) plain is r =
    refused_asks v configs h number now (StartFail e c) is r
refusal_step v files configs h number now (HelperLine q b) plain is r =
    refused_asks v configs h number now (HelperLine q b) is r
refusal_step v files configs h number now (Died q) plain is r = refused_asks v configs h number now (Died q) is r
refusal_step v files configs h number now (Seat c) plain is r = refused_asks v configs h number now (Seat c) is r
refusal_step v files configs h number now (Grant s w) plain is r = refused_asks v configs h number now (Grant s w) is r
refusal_step v files configs h number now (Leave s) plain is r = refused_asks v configs h number now (Leave s) is r

-- memory ran out at it
pub event_front : (files : Shelf) (base contents : Option (List ℕ)) (page : List ℕ) (configs : List Configuration)
    (h : History) (number now : ℕ) (event : Event) → Wrote base contents page (written h)
    → WroteFront base contents page (step_text h (event_step files configs h number now event))
event_front files base contents page configs h number now event w =
    record { front = written h; begins = event_grows files configs h number now event; wrote = w }

-- an entry at the moment that the machine then has
pub arrives_at : (v w : ScriptView) (base before contents : Option (List ℕ)) (old_page page : List ℕ)
    (configs : List Configuration) (h : History) (m n : ℕ) (event : Event) (answer : Told)
    (r : Result (Unit {0}) Unwritten)
    → m ≡ n → (Is v configs (entry_at m event answer ∷ h) → Wrote base before old_page (written h)
    → Arrives w base contents page configs (acts configs (entry_at m event answer ∷ h)) r)
    → Is v configs (entry_at n event answer ∷ h) → Wrote base before old_page (written h)
    → Arrives w base contents page configs (acts configs (entry_at n event answer ∷ h)) r
arrives_at v w base before contents old_page page configs h m n event answer r e f is wrote =
    subst (λ (k : ℕ). Arrives w base contents page configs (acts configs (entry_at k event answer ∷ h)) r) e
    (f (subst (λ (k : ℕ). Is v configs (entry_at k event answer ∷ h)) (sym e) is) wrote)

-- where the step's lines were not all written
pub part_step : (base contents : Option (List ℕ)) (h t : History) (step : Result History RunEnd) → step ≡ Ok t
    → WrotePart base contents (written t) → WrotePart base contents (step_text h step)
part_step base contents h t step e w = subst (λ s. WrotePart base contents (step_text h s)) (sym e) w

pub front_step : (base contents : Option (List ℕ)) (page : List ℕ) (h t : History) (step : Result History RunEnd)
    → step ≡ Ok t → WroteFront base contents page (written t)
    → WroteFront base contents page (step_text h step)
front_step base contents page h t step e w = subst (λ s. WroteFront base contents page (step_text h s)) (sym e) w

-- an event is one that names a file, or another

pub named_is : (event : Event) (text : List ℕ) → named_of event ≡ Ok text → event ≡ Reconfigure text
named_is (Reconfigure name) text e = cc
named_is event text e = absurd (cc)

pub plain_is : (event e : Event) → named_of event ≡ Err e → event ≡ e
plain_is (Reconfigure name) e is = absurd (cc)
plain_is event e is = cc

-- files that lines name

-- the reconfiguration by a text that gives this configuration
named_asks : (configs : List Configuration) (h : History) (number now : ℕ) (name text : List ℕ) (config : Configuration)
    (o : Option (List ℕ)) → o ≡ Some text → conf_result text ≡ Ok config
    → reconfigured configs h number now name o ≡ asked_next configs h number now (Reconfigure text)
named_asks configs h number now name text config o there read =
    ap (reconfigured configs h number now name) there
    ∙ ap (λ r. accepted r (asked_next configs h number now (Reconfigure text))) read

-- it was made
pub named_step : (v w : ScriptView) (files : Shelf) (configs : List Configuration) (h : History) (number now : ℕ)
    (name text : List ℕ) (config : Configuration) (answer : Told) → Is v configs h
    → files (current h) name ≡ Some text → conf_result text ≡ Ok config
    → IsMade w configs h (max now v.latest) (Reconfigure text) answer
    → event_step files configs h number now (Reconfigure name)
    ≡ Ok (acts configs (entry_at (max now v.latest) (Reconfigure text) answer ∷ h))
named_step v w files configs h number now name text config answer is there read m =
    named_asks configs h number now name text config (files (current h) name) there read
    ∙ made_asks v w configs h number now (Reconfigure text) answer is m

-- it is refused
pub named_refused : (v : ScriptView) (files : Shelf) (configs : List Configuration) (h : History) (number now : ℕ)
    (name text : List ℕ) (config : Configuration) → Is v configs h
    → files (current h) name ≡ Some text → conf_result text ≡ Ok config
    → is_refused (next configs (marked configs h) (max now v.latest) (Reconfigure config.source)) ≡ true
    → event_step files configs h number now (Reconfigure name) ≡ Err (ends.Script number)
named_refused v files configs h number now name text config is there read r =
    let refused : is_refused (next configs (marked configs h) (max now v.latest) (Reconfigure text)) ≡ true =
    subst (λ (t : List ℕ). is_refused (next configs (marked configs h) (max now v.latest) (Reconfigure t)) ≡ true)
    (gives_source text config read) r in
    named_asks configs h number now name text config (files (current h) name) there read
    ∙ refused_asks v configs h number now (Reconfigure text) is refused

-- none was had of the file
pub named_stops : (v : ScriptView) (files : Shelf) (base contents : Option (List ℕ)) (page : List ℕ)
    (configs : List Configuration) (h : History) (number now : ℕ) (name : List ℕ) (end : RunEnd)
    → At v base contents page configs h → NamedReads name (files (current h) name) (Err end)
    → Stops base contents page h (event_step files configs h number now (Reconfigure name)) end
named_stops v files base contents page configs h number now name (ends.Missing n) at r =
    (ap (reconfigured configs h number now name) r.1 ∙ ap (λ (x : List ℕ). Err (ends.Missing x)) (sym r.0), at.wrote)
named_stops v files base contents page configs h number now name (ends.Config e) at r = (
  ap (reconfigured configs h number now name) r.1
      ∙ ap (λ x. accepted x (asked_next configs h number now (Reconfigure r.0))) r.2,
  at.wrote,
)
named_stops v files base contents page configs h number now name ends.ReadFault at r = at.wrote
named_stops v files base contents page configs h number now name ends.WantOfMemory at r =
    event_front files base contents page configs h number now (Reconfigure name) at.wrote
named_stops v files base contents page configs h number now name ends.Ok at r = absurd r
named_stops v files base contents page configs h number now name (ends.Script n) at r = absurd r
named_stops v files base contents page configs h number now name ends.WriteFault at r = absurd r

-- a file was read whole
pub named_whole : (texts : Texts) (old new : Openings) (files : Shelf) (e : ℕ) (missing : Option (List ℕ))
    (name text : List ℕ) → ReadsFile text_limit texts name (Some text)
    → ReadsOpening text_limit old new name (Some text) → Tells texts old new files e missing → files e name ≡ Some text
named_whole texts old new files e missing name text t a tells =
    let x = tells_text texts old new files e missing name (λ bytes. IsWhole text_limit bytes (Some text)) t a tells in
    x.1 ∙ ap (λ (b : List ℕ). Some b) x.2.0

-- it gives no configuration
judged_end : (name text : List ℕ) (o : Option (List ℕ)) (end : RunEnd) → o ≡ Some text → IsJudgeEnd end
    → Judges (conf_result text) (Err end) → NamedReads name o (Err end)
judged_end name text o (ends.Config e) there is j = (text, there, j)
judged_end name text o ends.WantOfMemory there is j = tt
judged_end name text o ends.Ok there is j = absurd is
judged_end name text o (ends.Script n) there is j = absurd is
judged_end name text o (ends.Missing n) there is j = absurd is
judged_end name text o ends.ReadFault there is j = absurd is
judged_end name text o ends.WriteFault there is j = absurd is

pub named_judged : (texts : Texts) (old new : Openings) (files : Shelf) (e : ℕ) (missing : Option (List ℕ))
    (name text : List ℕ) (end : RunEnd) → ReadsFile text_limit texts name (Some text)
    → ReadsOpening text_limit old new name (Some text) → IsJudgeEnd end → Judges (conf_result text) (Err end)
    → Tells texts old new files e missing → NamedReads name (files e name) (Err end)
named_judged texts old new files e missing name text end t a is j tells =
    judged_end name text (files e name) end (named_whole texts old new files e missing name text t a tells) is j

-- it is too long
pub named_long : (texts : Texts) (old new : Openings) (files : Shelf) (e : ℕ) (missing : Option (List ℕ))
    (name : List ℕ) → ReadsFile text_limit texts name None → ReadsOpening text_limit old new name None
    → Tells texts old new files e missing
    → NamedReads name (files e name) (Err (ends.Config (record { line = 0; kind = kind.TooMany })))
named_long texts old new files e missing name t a tells =
    let x = tells_text texts old new files e missing name (λ bytes. IsWhole text_limit bytes None) t a tells in
    (x.0, x.1, too_long x.0 x.2)
