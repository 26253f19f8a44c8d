-- A loop over the lines of a script: what its next line, its end and a fault make of the run.
use Rattle.std.proofs.Common.{◌≡◌, inl, inr, ℕ, ◌+◌, List, [], ◌∷◌, ◌++◌, append_assoc, length-append, length, true, if◌then◌else◌, Some, None, Ok, Err, Result, refl, sym, ap, subst, ◌∙◌, arith}
use Rattle.std.specs.declared.option.Option.{Option}
use Rattle.sq_outside.specs.Output.{IsPrefix, IsProperPrefix}
use Rattle.sq_outside.specs.SourceLines.{Finds, IsLine, SourceLine, lines}
use Rattle.sq_outside.specs.Told.{Openings, Texts}
use Rattle.sq_outside.specs.declared.lines.LineFound.TheVariants as found
use Rattle.sq_outside.proofs.Writing.{Grew_map, IsPrefix_refl, IsPrefix_trans}
use Rattle.sq_machine.specs.declared.entries.Event.{Event}
use Rattle.sq_machine.specs.declared.entries.Event.TheVariants.{Reconfigure}
use Rattle.sq_rules.specs.Configurations.{Configuration}
use Rattle.sq_machine.specs.Entries.{History}
use Rattle.sq_machine.specs.Readings.{current}
use Rattle.sq_journal.specs.EntryText.{entry_text, written}
use Rattle.sq_replay.specs.declared.ends.RunEnd.{RunEnd}
use Rattle.sq_replay.specs.declared.ends.RunEnd.TheVariants as ends
use Rattle.sq_replay.specs.Ends.{Done, End, Faulted, Lacking, Reading, Refused, Writing, end_of}
use Rattle.sq_replay.specs.Headline.{IsAhead}
use Rattle.sq_replay.specs.RunText.{ScriptRun, Shelf, run_lines, run_on, stated, stated_step}
use Rattle.sq_replay.specs.Runs.{Adds, AddsCount, At, EndsLine, GoesOn, Going, HasNext, LineGoes, Reaches, ReachesAs, RunsOver, ScriptView, Stops, StopsAs, Tells, WhereTold, WroteFront, WrotePart, missed, openings_in, openings_of, paged, run_at, spot, step_text, told_files}
use Rattle.sq_replay.proofs.GrowthLaws.{going_grows, run_grows, step_grows}
use Rattle.sq_replay.proofs.OpeningLaws.{adds_none, count_adds, count_none, count_then, tells_after, tells_before}
use Rattle.sq_replay.proofs.RunLaws.{stated_made}
use Rattle.sq_replay.proofs.SourceLaws.{named_next, step_ahead, step_epoch}

-- of what is told

-- what follows where script and files tell, of a part of what they told
pub told_map : (texts : Texts) (old mid new : Openings) (missing : Option (List ℕ)) (left : Option (List ℕ))
    (configs : List Configuration) (h : History) (P Q : Shelf → List ℕ → Type 0) → Adds old mid → Adds mid new
    → ((files : Shelf) (bytes : List ℕ) → P files bytes → Q files bytes) → WhereTold texts old mid None left configs h P
    → WhereTold texts old new missing left configs h Q
told_map texts old mid new missing None configs h P Q a b f p = tt
told_map texts old mid new missing (Some bytes) configs h P Q a b f p =
    λ files tells ahead. f files bytes
    (p files (tells_before texts old mid new files (current h) missing a b tells) ahead)

-- a reconfiguration that the next line states reads the configuration of the next epoch
pub ahead_next : (files : Shelf) (configs : List Configuration) (h : History) (l : SourceLine) (ls : List SourceLine)
    (now : ℕ) (event : Event) → stated l.bytes ≡ Some (now, event) → IsAhead files configs h (l ∷ ls)
    → HasNext files configs h event
ahead_next files configs h l ls now (Reconfigure name) states a =
    λ text config is gives. named_next files configs l ls h now name text config states is gives a
ahead_next files configs h l ls now event states a = tt

pub ahead_stated : (files : Shelf) (configs : List Configuration) (h : History) (l : SourceLine) (ls : List SourceLine)
    (o : ℕ × Event) → stated l.bytes ≡ Some o → IsAhead files configs h (l ∷ ls) → HasNext files configs h o.1
ahead_stated files configs h l ls (now, event) states a = ahead_next files configs h l ls now event states a

-- texts

-- a front of a text is a front of a longer one
pub front_more : (base contents : Option (List ℕ)) (page text whole : List ℕ) → IsPrefix text whole
    → WroteFront base contents page text → WroteFront base contents page whole
front_more base contents page text whole p w = record {
  front = w.front;
  begins = IsPrefix_trans w.front text whole w.begins p;
  wrote = w.wrote;
}

proper_more : (part text whole : List ℕ) → IsPrefix text whole → IsProperPrefix part text → IsProperPrefix part whole
proper_more part text whole (more, e) (rest, f, l) =
    (rest ++ more, e ∙ ap (λ t. t ++ more) f ∙ append_assoc part rest more, omega (arith, length-append rest more, l))

pub part_more : (base contents : Option (List ℕ)) (text whole : List ℕ) → IsPrefix text whole
    → WrotePart base contents text → WrotePart base contents whole
part_more base contents text whole p w = Grew_map base contents _ _ (λ bytes q. proper_more bytes text whole p q) w

lines_last : (text line : List ℕ) → EndsLine (text ++ (line ++ 10 ∷ []))
lines_last text line = inr (text ++ line, sym (append_assoc text line (10 ∷ [])))

-- the text of a history is whole lines
pub written_lines : (h : History) → EndsLine (written h)
written_lines [] = inl refl
written_lines (e ∷ h) = lines_last (written h) (entry_text e)

-- the loop

-- what was written so far begins the text of the run
goes_begins : (v : ScriptView) (texts : Texts) (files : Shelf) (old new : Openings)
    (left base contents : Option (List ℕ))
    (page : List ℕ) (configs : List Configuration) (run : ScriptRun) (e number place : ℕ)
    → (g : GoesOn (run_at v (paged base contents page)) (told_files texts old new) files left configs run e
    (spot number place))
    → IsPrefix (written g.history) (written run.history)
goes_begins v texts files old new left base contents page configs run e number place g =
    subst (λ (x : ScriptRun). IsPrefix (written g.history) (written x.history)) g.same
    (run_grows files configs g.history number place (lines g.bytes))

-- before the loop
pub going_first : (v : ScriptView) (texts : Texts) (opened : Openings) (left base contents : Option (List ℕ))
    (page : List ℕ) (configs : List Configuration) (h : History) (number place : ℕ) → At v base contents page configs h
    → Going (run_at v (paged base contents page)) (told_files texts opened opened) left left configs h
    (λ files bytes. run_lines files configs h number place (lines bytes)) (spot number place)
going_first v texts opened None base contents page configs h number place at = tt
going_first v texts opened (Some bytes) base contents page configs h number place at = λ files tells ahead. record {
  history = h;
  at = at;
  bytes = bytes;
  left_is = refl;
  ahead = ahead;
  count = 0;
  adds = count_none opened opened refl;
  epoch_is = omega arith;
  same = refl;
}

-- the script was read to its end
pub going_end : (v : ScriptView) (texts : Texts) (old new : Openings) (first left after base contents : Option (List ℕ))
    (page line : List ℕ) (configs : List Configuration) (h : History) (run : Shelf → List ℕ → ScriptRun)
    (number place : ℕ)
    → Adds old new → Going (run_at v (paged base contents page)) (told_files texts old new) first left configs h run
    (spot number place)
    → Finds place left after line found.End → RunsOver (told_files texts old new) first (paged base contents page)
    configs h run ends.Ok
going_end v texts old new first left after base contents page line configs h run number place adds going f =
    told_map texts old new new None first configs h
    (λ files bytes. GoesOn (run_at v (paged base contents page)) (told_files texts old new) files left configs
    (run files bytes) (current h) (spot number place))
    (λ files bytes. Reaches base contents page (run files bytes) ends.Ok) adds (adds_none new new refl)
    (λ files bytes g. by files bytes g) going
  where
    by : (files : Shelf) (bytes : List ℕ)
        → GoesOn (run_at v (paged base contents page)) (told_files texts old new) files left configs (run files bytes)
        (current h) (spot number place)
        → Reaches base contents page (run files bytes) ends.Ok
    by files bytes g =
        let none = (subst (λ l. Finds place l after line found.End) g.left_is f).0 in
        let is : record { history = g.history; end = ends.Ok } ≡ run files bytes =
        sym (ap (λ (b : List ℕ). run_lines files configs g.history number place (lines b)) none) ∙ g.same in
        subst (λ (x : ScriptRun). Reaches base contents page x ends.Ok) is (refl, g.at.wrote)

-- its next line cannot be read
pub going_faulty : (v : ScriptView) (texts : Texts) (old new : Openings)
    (first left after base contents : Option (List ℕ)) (page line : List ℕ) (configs : List Configuration) (h : History)
    (run : Shelf → List ℕ → ScriptRun) (number place : ℕ)
    → Adds old new → Going (run_at v (paged base contents page)) (told_files texts old new) first left configs h run
    (spot number place)
    → Finds place left after line found.Faulty
    → RunsOver (told_files texts old new) first (paged base contents page) configs h run (ends.Script number)
going_faulty v texts old new first left after base contents page line configs h run number place adds going f =
    told_map texts old new new None first configs h
    (λ files bytes. GoesOn (run_at v (paged base contents page)) (told_files texts old new) files left configs
    (run files bytes) (current h) (spot number place))
    (λ files bytes. Reaches base contents page (run files bytes) (ends.Script number)) adds (adds_none new new refl)
    (λ files bytes g. by files bytes g) going
  where
    by : (files : Shelf) (bytes : List ℕ)
        → GoesOn (run_at v (paged base contents page)) (told_files texts old new) files left configs (run files bytes)
        (current h) (spot number place)
        → Reaches base contents page (run files bytes) (ends.Script number)
    by files bytes g =
        let x = subst (λ l. Finds place l after line found.Faulty) g.left_is f in
        let is : record { history = g.history; end = ends.Script number } ≡ run files bytes =
        sym (ap (run_lines files configs g.history number place) x.first
        ∙ ap (λ b. run_on g.history
        (if b then stated_step files configs g.history number (stated x.line.bytes) else Err (ends.Script number))
        (λ t. run_lines files configs t (number + 1) (place + length x.line.bytes + 1) x.rest)) x.faulty)
        ∙ g.same in
        subst (λ (y : ScriptRun). Reaches base contents page y (ends.Script number)) is (refl, g.at.wrote)

-- memory ran out before the next line
pub going_lacking : (v : ScriptView) (texts : Texts) (old new : Openings) (first left base contents : Option (List ℕ))
    (page : List ℕ) (configs : List Configuration) (h : History) (run : Shelf → List ℕ → ScriptRun) (number place : ℕ)
    → Adds old new → Going (run_at v (paged base contents page)) (told_files texts old new) first left configs h run
    (spot number place)
    → RunsOver (told_files texts old new) first (paged base contents page) configs h run ends.WantOfMemory
going_lacking v texts old new first left base contents page configs h run number place adds going =
    told_map texts old new new None first configs h
    (λ files bytes. GoesOn (run_at v (paged base contents page)) (told_files texts old new) files left configs
    (run files bytes) (current h) (spot number place))
    (λ files bytes. Reaches base contents page (run files bytes) ends.WantOfMemory) adds (adds_none new new refl)
    (λ files bytes g. record {
      front = written g.history;
      begins = goes_begins v texts files old new left base contents page configs (run files bytes) (current h) number
          place g;
      wrote = g.at.wrote;
    }) going

-- a fault of reading came before it
pub going_unread : (v : ScriptView) (texts : Texts) (old new : Openings) (first left base contents : Option (List ℕ))
    (page : List ℕ) (configs : List Configuration) (h : History) (run : Shelf → List ℕ → ScriptRun) (number place : ℕ)
    → Adds old new → Going (run_at v (paged base contents page)) (told_files texts old new) first left configs h run
    (spot number place)
    → RunsOver (told_files texts old new) first (paged base contents page) configs h run ends.ReadFault
going_unread v texts old new first left base contents page configs h run number place adds going =
    told_map texts old new new None first configs h
    (λ files bytes. GoesOn (run_at v (paged base contents page)) (told_files texts old new) files left configs
    (run files bytes) (current h) (spot number place))
    (λ files bytes. Reaches base contents page (run files bytes) ends.ReadFault) adds (adds_none new new refl)
    (λ files bytes g. record {
      front = written g.history;
      begins = goes_begins v texts files old new left base contents page configs (run files bytes) (current h) number
          place g;
      lines = written_lines g.history;
      wrote = g.at.wrote;
    }) going

-- the next line is the first of what is left
next_run : (files : Shelf) (configs : List Configuration) (h : History) (number place : ℕ) (run : ScriptRun)
    (bytes : List ℕ) (after : Option (List ℕ)) (line : List ℕ)
    → run_lines files configs h number place (lines bytes) ≡ run → (f : IsLine place bytes after line)
    → run_on h (stated_step files configs h number (stated line))
    (λ t. run_lines files configs t (number + 1) (place + length line + 1) (lines f.rest)) ≡ run
next_run files configs h number place run bytes after line same f =
    sym (ap (run_lines files configs h number place) f.first
    ∙ ap (λ b. run_on h (if b then stated_step files configs h number (stated line) else Err (ends.Script number))
    (λ t. run_lines files configs t (number + 1) (place + length line + 1) (lines f.rest))) f.readable)
    ∙ same

-- where a step stops a run
stop_as : (k : End) (base contents : Option (List ℕ)) (page : List ℕ) (h : History) (step : Result History RunEnd)
    (go : History → ScriptRun) (run : ScriptRun) (end : RunEnd) → IsPrefix (written h) (step_text h step)
    → ((t : History) → IsPrefix (written t) (written (go t).history)) → run_on h step go ≡ run
    → StopsAs k base contents page h step end → ReachesAs k base contents page run end
stop_as Done base contents page h step go run end grows more same stops = absurd stops
stop_as (Faulted Reading) base contents page h step go run end grows more same stops = record {
  front = written h;
  begins =
      subst (λ (x : ScriptRun). IsPrefix (written h) (written x.history)) same
      (IsPrefix_trans (written h) (step_text h step) (written (run_on h step go).history) grows
      (going_grows h step go more));
  lines = written_lines h;
  wrote = stops;
}
stop_as (Faulted Writing) base contents page h step go run end grows more same stops =
    subst (λ (x : ScriptRun). WrotePart base contents (written x.history)) same
    (part_more base contents (step_text h step) (written (run_on h step go).history) (going_grows h step go more) stops)
stop_as (Faulted Lacking) base contents page h step go run end grows more same stops =
    subst (λ (x : ScriptRun). WroteFront base contents page (written x.history)) same
    (front_more base contents page (step_text h step) (written (run_on h step go).history) (going_grows h step go more)
    stops)
stop_as Refused base contents page h step go run end grows more same (e, wrote) =
    let at : run_on h (Err end) go ≡ run = ap (λ s. run_on h s go) (sym e) ∙ same in
    subst (λ (x : ScriptRun). ReachesAs Refused base contents page x end) at (refl, wrote)

pub stop_reaches : (base contents : Option (List ℕ)) (page : List ℕ) (h : History) (step : Result History RunEnd)
    (go : History → ScriptRun) (run : ScriptRun) (end : RunEnd) → IsPrefix (written h) (step_text h step)
    → ((t : History) → IsPrefix (written t) (written (go t).history)) → run_on h step go ≡ run
    → Stops base contents page h step end → Reaches base contents page run end
stop_reaches base contents page h step go run end grows more same stops =
    stop_as (end_of end) base contents page h step go run end grows more same stops

-- a step of a line adds to the text
pub stated_grows : (files : Shelf) (configs : List Configuration) (h : History) (number : ℕ) (line : List ℕ)
    → IsPrefix (written h) (step_text h (stated_step files configs h number (stated line)))
stated_grows files configs h number line =
    by (stated_step files configs h number (stated line))
    (λ t e. let r = stated_made files configs h number (record { bytes = line; ended = true }) (stated line) t refl e in
    step_grows files configs h (current h) r.event t r.step)
  where
    by : (step : Result History RunEnd) → ((t : History) → step ≡ Ok t → IsPrefix (written h) (written t))
        → IsPrefix (written h) (step_text h step)
    by (Ok t) more = more t refl
    by (Err end) more = IsPrefix_refl (written h)

-- the next line was run
pub going_next : (v w : ScriptView) (texts : Texts) (old mid new : Openings)
    (first left after base before contents : Option (List ℕ)) (old_page page line : List ℕ)
    (configs : List Configuration) (h : History)
    (run : Shelf → List ℕ → ScriptRun) (number place after_place : ℕ) → Adds old mid
    → Going (run_at v (paged base before old_page)) (told_files texts old mid) first left configs h run
    (spot number place)
    → Finds place left after line found.Whole
    → after_place ≡ place + length line + 1 → AddsCount mid new (openings_in (stated line))
    → LineGoes (run_at v (paged base before old_page)) (run_at w (paged base contents page)) (told_files texts mid new)
    configs number line (Ok tt)
    → Going (run_at w (paged base contents page)) (told_files texts old new) first after configs h run
    (spot (number + 1) after_place)
going_next v w texts old mid new None left after base before contents old_page page line configs h run number place
    after_place adds going f moved counts step = tt
going_next v w texts old mid new (Some whole) left after base before contents old_page page line configs h run number
    place after_place adds going f moved counts step =
    λ files tells ahead. by files tells
    (going files (tells_before texts old mid new files (current h) None adds (count_adds mid new _ counts) tells) ahead)
  where
    by : (files : Shelf) → Tells texts old new files (current h) None
        → GoesOn (run_at v (paged base before old_page)) (told_files texts old mid) files left configs (run files whole)
        (current h) (spot number place)
        → GoesOn (run_at w (paged base contents page)) (told_files texts old new) files after configs (run files whole)
        (current h) (spot (number + 1) after_place)
    by files tells g =
        let l : SourceLine = record { bytes = line; ended = true } in
        let x = subst (λ o. Finds place o after line found.Whole) g.left_is f in
        let ahead : IsAhead files configs g.history (l ∷ lines x.rest) =
        subst (IsAhead files configs g.history) x.first g.ahead in
        let told : Tells texts mid new files (current g.history) None =
        subst (λ (e : ℕ). Tells texts mid new files e None) (sym g.epoch_is)
        (tells_after texts old mid new files (current h) g.count None g.adds (count_adds mid new _ counts) tells) in
        let goes = step g.history files (lines x.rest) g.at told ahead in
        let made = stated_made files configs g.history number l (stated line) goes.0 refl goes.1 in
        let more : AddsCount mid new (openings_of made.event) =
        subst (λ (o : Option (ℕ × Event)). AddsCount mid new (openings_in o)) made.states counts in
        let was = g.epoch_is in
        let now = step_epoch files configs g.history made.event goes.0 made.step in
        record {
          history = goes.0;
          at = goes.2;
          bytes = x.rest;
          left_is = x.left;
          ahead = step_ahead files configs l (lines x.rest) g.history made.now made.event goes.0 made.states made.step
              ahead;
          count = g.count + openings_of made.event;
          adds = count_then old mid new g.count (openings_of made.event) g.adds more;
          epoch_is = omega (arith, was, now);
          same =
              ap (λ p. run_lines files configs goes.0 (number + 1) p (lines x.rest)) moved
              ∙ sym (ap (λ r. run_on g.history r
              (λ u. run_lines files configs u (number + 1) (place + length line + 1) (lines x.rest))) goes.1)
              ∙ next_run files configs g.history number place (run files whole) g.bytes after line g.same x;
        }

-- it stopped the run
pub going_stop : (v w : ScriptView) (texts : Texts) (old mid new : Openings)
    (first left after base before contents : Option (List ℕ)) (old_page page line : List ℕ)
    (configs : List Configuration) (h : History)
    (run : Shelf → List ℕ → ScriptRun) (number place : ℕ) (end : RunEnd) → Adds old mid → Adds mid new
    → Going (run_at v (paged base before old_page)) (told_files texts old mid) first left configs h run
    (spot number place)
    → Finds place left after line found.Whole
    → LineGoes (run_at v (paged base before old_page)) (run_at w (paged base contents page)) (told_files texts mid new)
    configs number line (Err end)
    → RunsOver (told_files texts old new) first (paged base contents page) configs h run end
going_stop v w texts old mid new None left after base before contents old_page page line configs h run number place end
    adds more going f step = tt
going_stop v w texts old mid new (Some whole) left after base before contents old_page page line configs h run number
    place end adds more going f step =
    λ files tells ahead. by files tells
    (going files (tells_before texts old mid new files (current h) (missed end) adds more tells) ahead)
  where
    by : (files : Shelf) → Tells texts old new files (current h) (missed end)
        → GoesOn (run_at v (paged base before old_page)) (told_files texts old mid) files left configs (run files whole)
        (current h) (spot number place)
        → Reaches base contents page (run files whole) end
    by files tells g =
        let x = subst (λ o. Finds place o after line found.Whole) g.left_is f in
        let ahead : IsAhead files configs g.history (record { bytes = line; ended = true } ∷ lines x.rest) =
        subst (IsAhead files configs g.history) x.first g.ahead in
        let told : Tells texts mid new files (current g.history) (missed end) =
        subst (λ (e : ℕ). Tells texts mid new files e (missed end)) (sym g.epoch_is)
        (tells_after texts old mid new files (current h) g.count (missed end) g.adds more tells) in
        stop_reaches base contents page g.history (stated_step files configs g.history number (stated line))
        (λ u. run_lines files configs u (number + 1) (place + length line + 1) (lines x.rest)) (run files whole) end
        (stated_grows files configs g.history number line)
        (λ u. run_grows files configs u (number + 1) (place + length line + 1) (lines x.rest))
        (next_run files configs g.history number place (run files whole) g.bytes after line g.same x)
        (step g.history files (lines x.rest) g.at told ahead)
