-- The beginning of a run: its first line.
use Rattle.std.proofs.Common.{◌≡◌, inl, ℕ, ℤ, ◌+◌, List, [], ◌∷◌, length, true, if◌then◌else◌, Some, None, Ok, pos, refl, sym, ap, subst, ◌∙◌}
use Rattle.std.specs.Io.KnownBytes.{prepend_known}
use Rattle.std.specs.declared.option.Option.{Option}
use Rattle.sq_outside.specs.Output.{IsPrefix}
use Rattle.sq_outside.specs.SourceLines.{Finds, IsLine, SourceLine, lines}
use Rattle.sq_outside.specs.Told.{Openings, Texts}
use Rattle.sq_outside.specs.declared.lines.LineFound.TheVariants as found
use Rattle.sq_outside.proofs.Writing.{IsPrefix_nil}
use Rattle.sq_machine.specs.declared.entries.Event.{Event}
use Rattle.sq_machine.specs.declared.entries.Event.TheVariants.{Begin, Open, Close, Ask, Step, Take, Started, StartFail, Line as HelperLine, Died, Act, Reconfigure, Seat, Grant, Leave}
use Rattle.sq_rules.specs.Configurations.{Configuration, IsConfiguration}
use Rattle.sq_machine.specs.Entries.{History}
use Rattle.sq_machine.specs.Epochs.{config_of}
use Rattle.sq_machine.specs.Readings.{current}
use Rattle.sq_model.specs.Given.{EachOf}
use Rattle.sq_journal.specs.EntryText.{written}
use Rattle.sq_replay.specs.declared.beginning.FirstEvent.{FirstEvent}
use Rattle.sq_replay.specs.declared.beginning.FirstEvent.TheVariants as first
use Rattle.sq_replay.specs.declared.ends.RunEnd.{RunEnd}
use Rattle.sq_replay.specs.declared.ends.RunEnd.TheVariants as ends
use Rattle.sq_replay.specs.Ends.{Done, End, Faulted, Lacking, Reading, Refused, Writing, end_of}
use Rattle.sq_replay.specs.Entering.{first_kind}
use Rattle.sq_replay.specs.Headline.{IsAhead}
use Rattle.sq_replay.specs.RunText.{ScriptRun, Shelf, begun_history, configs_of, event_step, first_history, named_from, named_in, run_first, run_from, run_lines, run_on, run_script, run_stated, stated, stopped}
use Rattle.sq_replay.specs.Runs.{Adds, AddsCount, At, BeginsAs, FirstRuns, Goes, HasNext, Reaches, ReachesAs, RunsOver, ScriptRuns, ScriptView, Stops, Tells, Wrote, WroteFront, missed, openings_of, paged, told_files, whole_line}
use Rattle.sq_replay.proofs.GrowthLaws.{event_grows, run_grows}
use Rattle.sq_replay.proofs.LoopLaws.{ahead_next, front_more, part_more, stop_reaches}
use Rattle.sq_replay.proofs.OpeningLaws.{count_adds, tells_after, tells_before}
use Rattle.sq_replay.proofs.ReadingLaws.{configs_good}
use Rattle.sq_replay.proofs.RunLaws.{event_made}
use Rattle.sq_replay.proofs.SourceLaws.{acts_current, step_ahead, step_epoch}

-- behind the first configuration stand those that the lines name
pub first_ahead : (files : Shelf) (configs : List Configuration) (config : Configuration) (ls : List SourceLine)
    (now : ℕ) (offset : ℤ) → configs ≡ config ∷ named_from files ls 1
    → IsAhead files configs (begun_history configs now offset) ls
first_ahead files configs config ls now offset is =
    let one : current (begun_history configs now offset) ≡ 1 = acts_current configs (first_history now offset) in
    record {
      begun = config ∷ [];
      count_is = sym one;
      configs_are = is ∙ ap (λ (e : ℕ). config ∷ named_from files ls e) (sym one);
    }

begins_as : (k : End) (base contents : Option (List ℕ)) (page text : List ℕ) (run : ScriptRun) (end : RunEnd)
    → IsPrefix text (written run.history) → BeginsAs k base contents page text
    → ReachesAs k base contents page run end
begins_as Done base contents page text run end p b = absurd b
begins_as Refused base contents page text run end p b = absurd b
begins_as (Faulted Reading) base contents page text run end p b = absurd b
begins_as (Faulted Writing) base contents page text run end p b = part_more base contents text (written run.history) p b
begins_as (Faulted Lacking) base contents page text run end p b =
    front_more base contents page text (written run.history) p b

-- a fault came before the machine had begun
pub begins_reach : (base contents : Option (List ℕ)) (page text : List ℕ) (run : ScriptRun) (end : RunEnd)
    → IsPrefix text (written run.history) → BeginsAs (end_of end) base contents page text
    → Reaches base contents page run end
begins_reach base contents page text run end p b = begins_as (end_of end) base contents page text run end p b

-- the first event is made, and the rest runs
pub from_goes : (files : Shelf) (configs : List Configuration) (place now : ℕ) (ls : List SourceLine) (event : Event)
    (t : History) → event_step files configs (begun_history configs now (pos 0)) 1 now event ≡ Ok t
    → run_lines files configs t 2 place ls ≡ run_from files configs place ls now event
from_goes files configs place now ls event t step = sym
    (ap (λ s. run_on (begun_history configs now (pos 0)) s (λ u. run_lines files configs u 2 place ls)) step)

-- it stops the run
pub from_stops : (files : Shelf) (base contents : Option (List ℕ)) (page : List ℕ) (configs : List Configuration)
    (place now : ℕ) (ls : List SourceLine) (event : Event) (end : RunEnd)
    → Stops base contents page (begun_history configs now (pos 0))
    (event_step files configs (begun_history configs now (pos 0)) 1 now event) end
    → Reaches base contents page (run_from files configs place ls now event) end
from_stops files base contents page configs place now ls event end stops =
    let h = begun_history configs now (pos 0) in
    stop_reaches base contents page h (event_step files configs h 1 now event)
    (λ t. run_lines files configs t 2 place ls) (run_from files configs place ls now event) end
    (event_grows files configs h 1 now event) (λ t. run_grows files configs t 2 place ls) refl stops

-- a script without a line
pub none_script : (texts : Texts) (old new : Openings) (left after base contents : Option (List ℕ)) (page line : List ℕ)
    (config : Configuration) (end : RunEnd) → Finds 0 left after line found.End
    → ((files : Shelf) → Reaches base contents page (run_script files config []) end)
    → ScriptRuns (told_files texts old new) left (paged base contents page) config end
none_script texts old new None after base contents page line config end f r = tt
none_script texts old new (Some bytes) after base contents page line config end f r =
    λ files tells. subst (λ (b : List ℕ). Reaches base contents page (run_script files config (lines b)) end) (sym f.0)
    (r files)

-- one whose first line cannot be read
pub faulty_script : (texts : Texts) (old new : Openings) (left after base contents : Option (List ℕ))
    (page line : List ℕ) (config : Configuration) → Finds 0 left after line found.Faulty
    → Wrote base contents page [] → ScriptRuns (told_files texts old new) left (paged base contents page) config
    (ends.Script 1)
faulty_script texts old new None after base contents page line config f w = tt
faulty_script texts old new (Some bytes) after base contents page line config f w = λ files tells.
    let is : run_script files config (lines bytes) ≡ stopped (ends.Script 1) =
    ap (run_script files config) f.first
    ∙ ap (λ b. if b then run_stated files (configs_of files config (f.line ∷ f.rest)) (length f.line.bytes + 1) f.rest
    (stated f.line.bytes) else stopped (ends.Script 1)) f.faulty in
    subst (λ (x : ScriptRun). Reaches base contents page x (ends.Script 1)) (sym is) (refl, w)

none_front : (base contents : Option (List ℕ)) (page text : List ℕ) → Wrote base contents page []
    → WroteFront base contents page text
none_front base contents page text w = record { front = []; begins = IsPrefix_nil text; wrote = w }

-- memory ran out before the first line
pub lacking_script : (texts : Texts) (old new : Openings) (left base contents : Option (List ℕ)) (page : List ℕ)
    (config : Configuration) → Wrote base contents page []
    → ScriptRuns (told_files texts old new) left (paged base contents page) config ends.WantOfMemory
lacking_script texts old new None base contents page config w = tt
lacking_script texts old new (Some bytes) base contents page config w =
    λ files tells. none_front base contents page (written (run_script files config (lines bytes)).history) w

-- it could not be read
pub unread_script : (texts : Texts) (old new : Openings) (left base contents : Option (List ℕ)) (page : List ℕ)
    (config : Configuration) → Wrote base contents page []
    → ScriptRuns (told_files texts old new) left (paged base contents page) config ends.ReadFault
unread_script texts old new None base contents page config w = tt
unread_script texts old new (Some bytes) base contents page config w = λ files tells.
    record {
      front = [];
      begins = IsPrefix_nil (written (run_script files config (lines bytes)).history);
      lines = inl refl;
      wrote = w;
    }

-- one whose first line is read: what it states is run, over the configurations that this line and the others name
pub stated_script : (files : Shelf) (config : Configuration) (bytes : List ℕ) (after : Option (List ℕ)) (line : List ℕ)
    (place : ℕ) → (f : IsLine 0 bytes after line) → place ≡ length line + 1
    → run_script files config (lines bytes)
    ≡ run_stated files (configs_of files config (record { bytes = line; ended = true } ∷ lines f.rest)) place
    (lines f.rest) (stated line)
stated_script files config bytes after line place f moved =
    let l : SourceLine = record { bytes = line; ended = true } in
    let configs = configs_of files config (l ∷ lines f.rest) in
    ap (run_script files config) f.first
    ∙ ap (λ b. if b then run_stated files configs (length line + 1) (lines f.rest) (stated line)
    else stopped (ends.Script 1)) f.readable
    ∙ ap (λ (p : ℕ). run_stated files configs p (lines f.rest) (stated line)) (sym moved)

-- so its run is that of the script
pub stated_first : (texts : Texts) (old new : Openings) (left after base contents : Option (List ℕ))
    (page line same : List ℕ) (config : Configuration) (place : ℕ) (end : RunEnd) → Finds 0 left after line found.Whole
    → same ≡ line → place ≡ length line + 1
    → FirstRuns (told_files texts old new) after (paged base contents page) config (whole_line same)
    (λ files configs bytes. run_stated files configs place (lines bytes) (stated same)) end
    → ScriptRuns (told_files texts old new) left (paged base contents page) config end
stated_first texts old new None after base contents page line same config place end f e moved r = tt
stated_first texts old new (Some bytes) after base contents page line same config place end f e moved r = λ files tells.
    let go : FirstRuns (told_files texts old new) (Some f.rest) (paged base contents page) config (whole_line line)
    (λ files configs bytes. run_stated files configs place (lines bytes) (stated line)) end =
    subst (λ (o : Option (List ℕ)). FirstRuns (told_files texts old new) o (paged base contents page) config
    (whole_line line) (λ files configs bytes. run_stated files configs place (lines bytes) (stated line)) end) f.left
    (subst (λ (l : List ℕ). FirstRuns (told_files texts old new) after (paged base contents page) config (whole_line l)
    (λ files configs bytes. run_stated files configs place (lines bytes) (stated l)) end) e r) in
    subst (λ (x : ScriptRun). Reaches base contents page x end)
    (sym (stated_script files config bytes after line place f moved)) (go files tells)

-- behind the first line

-- equal runs
pub first_same : (texts : Texts) (old new : Openings) (left base contents : Option (List ℕ)) (page : List ℕ)
    (config : Configuration) (l : SourceLine) (f g : Shelf → List Configuration → List ℕ → ScriptRun) (end : RunEnd)
    → ((files : Shelf) (configs : List Configuration) (bytes : List ℕ) → f files configs bytes ≡ g files configs bytes)
    → FirstRuns (told_files texts old new) left (paged base contents page) config l f end
    → FirstRuns (told_files texts old new) left (paged base contents page) config l g end
first_same texts old new None base contents page config l f g end same r = tt
first_same texts old new (Some bytes) base contents page config l f g end same r = λ files tells.
    subst (λ (x : ScriptRun). Reaches base contents page x end)
    (same files (configs_of files config (l ∷ lines bytes)) bytes) (r files tells)

-- a run that is refused at its first line before the machine begins
pub stopped_first : (texts : Texts) (old new : Openings) (left base contents : Option (List ℕ)) (page : List ℕ)
    (config : Configuration) (l : SourceLine) (run : Shelf → List Configuration → List ℕ → ScriptRun)
    → ((files : Shelf) (configs : List Configuration) (bytes : List ℕ)
    → run files configs bytes ≡ stopped (ends.Script 1)) → Wrote base contents page []
    → FirstRuns (told_files texts old new) left (paged base contents page) config l run (ends.Script 1)
stopped_first texts old new None base contents page config l run is w = tt
stopped_first texts old new (Some bytes) base contents page config l run is w = λ files tells.
    subst (λ (x : ScriptRun). Reaches base contents page x (ends.Script 1))
    (sym (is files (configs_of files config (l ∷ lines bytes)) bytes)) (refl, w)

-- memory ran out before
pub lacking_first : (texts : Texts) (old new : Openings) (left base contents : Option (List ℕ)) (page : List ℕ)
    (config : Configuration) (l : SourceLine) (run : Shelf → List Configuration → List ℕ → ScriptRun)
    → Wrote base contents page [] → FirstRuns (told_files texts old new) left (paged base contents page) config l run
    ends.WantOfMemory
lacking_first texts old new None base contents page config l run w = tt
lacking_first texts old new (Some bytes) base contents page config l run w = λ files tells.
    none_front base contents page (written (run files (configs_of files config (l ∷ lines bytes)) bytes).history) w

-- over these configurations the machine begins
abbrev pub BeginsOver : Configuration → (List Configuration → Type 0) → Type 0
BeginsOver config P = (configs : List Configuration) → EachOf IsConfiguration configs
    → config_of configs 1 ≡ Some config → P configs

-- a fault came before the machine had begun
pub begins_first : (texts : Texts) (old new : Openings) (left base contents : Option (List ℕ)) (page : List ℕ)
    (config : Configuration) (l : SourceLine) (run : Shelf → List Configuration → List ℕ → ScriptRun) (now : ℕ)
    (offset : ℤ) (end : RunEnd) → IsConfiguration config
    → ((files : Shelf) (configs : List Configuration) (bytes : List ℕ)
    → IsPrefix (written (begun_history configs now offset)) (written (run files configs bytes).history))
    → BeginsOver config (λ configs. BeginsAs (end_of end) base contents page
    (written (begun_history configs now offset))) → FirstRuns (told_files texts old new) left (paged base contents page)
    config l run end
begins_first texts old new None base contents page config l run now offset end good p b = tt
begins_first texts old new (Some bytes) base contents page config l run now offset end good p b = λ files tells.
    let configs = configs_of files config (l ∷ lines bytes) in
    begins_reach base contents page (written (begun_history configs now offset)) (run files configs bytes) end
    (p files configs bytes) (b configs (configs_good files config (l ∷ lines bytes) good) refl)

-- what is told from the first epoch on, after the machine has begun
begun_tells : (texts : Texts) (old new : Openings) (files : Shelf) (missing : Option (List ℕ))
    (configs : List Configuration) (now : ℕ) (offset : ℤ) → Tells texts old new files 1 missing
    → Tells texts old new files (current (begun_history configs now offset)) missing
begun_tells texts old new files missing configs now offset t =
    let one : current (begun_history configs now offset) ≡ 1 = acts_current configs (first_history now offset) in
    subst (λ (e : ℕ). Tells texts old new files e missing) (sym one) t

-- the first line says where the machine begins, and the rest runs
pub begun_first : (texts : Texts) (old new : Openings) (left base contents : Option (List ℕ)) (page : List ℕ)
    (config : Configuration) (l : SourceLine) (place now : ℕ) (offset : ℤ) (end : RunEnd)
    → IsConfiguration config → stated l.bytes ≡ Some (now, Begin offset)
    → BeginsOver
    config (λ configs. RunsOver (told_files texts old new) left (paged base contents page) configs
    (begun_history configs now offset) (λ files bytes. run_lines files configs (begun_history configs now offset) 2
    place (lines bytes)) end)
    → FirstRuns (told_files texts old new) left (paged base contents page) config l
    (λ files configs bytes. run_lines files configs (begun_history configs now offset) 2 place (lines bytes)) end
begun_first texts old new None base contents page config l place now offset end good states r = tt
begun_first texts old new (Some bytes) base contents page config l place now offset end good states r = λ files tells.
    let configs = configs_of files config (l ∷ lines bytes) in
    let is : configs ≡ config ∷ named_from files (lines bytes) 1 =
    ap (λ (o : Option (ℕ × Event)). config ∷ named_in files o (named_from files (lines bytes)) 1) states in
    r configs (configs_good files config (l ∷ lines bytes) good) refl files
    (begun_tells texts old new files (missed end) configs now offset tells)
    (first_ahead files configs config (lines bytes) now offset is)

-- the first event stops the run
pub from_first_stops : (texts : Texts) (old new : Openings) (left base contents : Option (List ℕ)) (page : List ℕ)
    (config : Configuration) (l : SourceLine) (place now : ℕ) (event : Event) (end : RunEnd)
    → IsConfiguration config → stated l.bytes ≡ Some (now, event)
    → BeginsOver config (λ configs. (files : Shelf)
    → Tells texts old new files (current (begun_history configs now (pos 0))) (missed end)
    → HasNext files configs (begun_history configs now (pos 0)) event
    → Stops base contents page (begun_history configs now (pos 0))
    (event_step files configs (begun_history configs now (pos 0)) 1 now event) end)
    → FirstRuns (told_files texts old new) left (paged base contents page) config l
    (λ files configs bytes. run_from files configs place (lines bytes) now event) end
from_first_stops texts old new None base contents page config l place now event end good states stops = tt
from_first_stops texts old new (Some bytes) base contents page config l place now event end good states stops =
    λ files tells.
    let configs = configs_of files config (l ∷ lines bytes) in
    let h = begun_history configs now (pos 0) in
    from_stops files base contents page configs place now (lines bytes) event end
    (stops configs (configs_good files config (l ∷ lines bytes) good) refl files
    (begun_tells texts old new files (missed end) configs now (pos 0) tells)
    (ahead_next files configs h l (lines bytes) now event states
    (first_ahead files configs config (l ∷ lines bytes) now (pos 0) refl)))

-- it is made, and the rest runs
pub from_first_goes : (w : ScriptView) (texts : Texts) (old mid new : Openings)
    (left base before contents : Option (List ℕ)) (old_page page : List ℕ) (config : Configuration) (l : SourceLine)
    (place now : ℕ) (event : Event)
    (end : RunEnd) → IsConfiguration config → stated l.bytes ≡ Some (now, event) → AddsCount old mid (openings_of event)
    → Adds mid new
    → BeginsOver config (λ configs. (files : Shelf)
    → Tells texts old mid files (current (begun_history configs now (pos 0))) None
    → HasNext files configs (begun_history configs now (pos 0)) event
    → Goes w base before old_page configs (begun_history configs now (pos 0))
    (event_step files configs (begun_history configs now (pos 0)) 1 now event) (Ok tt))
    → ((configs : List Configuration) (t : History) → At w base before old_page configs t
    → RunsOver (told_files texts mid new) left (paged base contents page) configs t
    (λ files bytes. run_lines files configs t 2 place (lines bytes)) end)
    → FirstRuns (told_files texts old new) left (paged base contents page) config l
    (λ files configs bytes. run_from files configs place (lines bytes) now event) end
from_first_goes w texts old mid new None base before contents old_page page config l place now event end good states
    counts adds goes rest = tt
from_first_goes w texts old mid new (Some bytes) base before contents old_page page config l place now event end good
    states counts adds goes rest = λ files tells.
    let configs = configs_of files config (l ∷ lines bytes) in
    let h = begun_history configs now (pos 0) in
    let ahead : IsAhead files configs h (l ∷ lines bytes) =
    first_ahead files configs config (l ∷ lines bytes) now (pos 0) refl in
    let told : Tells texts old new files (current h) (missed end) =
    begun_tells texts old new files (missed end) configs now (pos 0) tells in
    let more : Adds old mid = count_adds old mid (openings_of event) counts in
    let first = goes configs (configs_good files config (l ∷ lines bytes) good) refl files
    (tells_before texts old mid new files (current h) (missed end) more adds told)
    (ahead_next files configs h l (lines bytes) now event states ahead) in
    let step = event_made files configs h 1 now event first.0 first.1 in
    let at : current first.0 ≡ current h + openings_of event = step_epoch files configs h event first.0 step in
    let left_told : Tells texts mid new files (current first.0) (missed end) =
    subst (λ (e : ℕ). Tells texts mid new files e (missed end)) (sym at)
    (tells_after texts old mid new files (current h) (openings_of event) (missed end) counts adds told) in
    subst (λ (x : ScriptRun). Reaches base contents page x end)
    (from_goes files configs place now (lines bytes) event first.0 first.1)
    (rest configs first.0 first.2 files left_told
    (step_ahead files configs l (lines bytes) h now event first.0 states step ahead))

-- a script's run, by what its first line states

-- the run of a script whose first line states such an event
abbrev pub run_by : FirstEvent → Shelf → List Configuration → ℕ → List SourceLine → ℕ → Event → ScriptRun
run_by (first.Begin offset) files configs place ls now event =
    run_lines files configs (begun_history configs now offset) 2 place ls
run_by first.Act files configs place ls now event = stopped (ends.Script 1)
run_by first.Other files configs place ls now event = run_from files configs place ls now event

pub first_is : (files : Shelf) (configs : List Configuration) (place now : ℕ) (ls : List SourceLine) (event : Event)
    → run_by (first_kind event) files configs place ls now event ≡ run_first files configs place ls now event
first_is files configs place now ls (Begin offset) = refl
first_is files configs place now ls Act = refl
first_is files configs place now ls (Open c a p) = refl
first_is files configs place now ls (Close c) = refl
first_is files configs place now ls (Ask c m t f) = refl
first_is files configs place now ls (Step c) = refl
first_is files configs place now ls (Take c) = refl
first_is files configs place now ls (Started e c) = refl
first_is files configs place now ls (StartFail e c) = refl
first_is files configs place now ls (HelperLine q b) = refl
first_is files configs place now ls (Died q) = refl
first_is files configs place now ls (Reconfigure t) = refl
first_is files configs place now ls (Seat c) = refl
first_is files configs place now ls (Grant s w) = refl
first_is files configs place now ls (Leave s) = refl

pub by_kind : (texts : Texts) (old new : Openings) (left base contents : Option (List ℕ)) (page : List ℕ)
    (config : Configuration) (l : SourceLine) (place now : ℕ) (event : Event) (kind : FirstEvent) (end : RunEnd)
    → kind ≡ first_kind event
    → FirstRuns (told_files texts old new) left (paged base contents page) config l
    (λ files configs bytes. run_by kind files configs place (lines bytes) now event) end
    → FirstRuns (told_files texts old new) left (paged base contents page) config l
    (λ files configs bytes. run_first files configs place (lines bytes) now event) end
by_kind texts old new left base contents page config l place now event kind end e r =
    first_same texts old new left base contents page config l _ _ end
    (λ files configs bytes. ap (λ k. run_by k files configs place (lines bytes) now event) e
    ∙ first_is files configs place now (lines bytes) event) r

-- an event that says where the machine begins
pub kind_begin : (event : Event) (offset : ℤ) → first_kind event ≡ first.Begin offset → event ≡ Begin offset
kind_begin (Begin o) offset is = cc
kind_begin event offset is = absurd (cc)

prepend_nil : (o : Option (List ℕ)) → prepend_known [] o ≡ o
prepend_nil None = refl
prepend_nil (Some bytes) = refl

-- nothing is held at first
pub not_held : (held : List ℕ) (left : Option (List ℕ)) → held ≡ [] → prepend_known held left ≡ left
not_held held left e = ap (λ h. prepend_known h left) e ∙ prepend_nil left
