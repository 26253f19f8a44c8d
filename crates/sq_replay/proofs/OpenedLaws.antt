-- What a run opened: line by line, up to its end.
use Rattle.std.proofs.Common.{◌≡◌, inl, inr, ℕ, ◌+◌, List, [], ◌∷◌, ◌++◌, append_assoc, append-nil, length-append, Option, Some, None, IfErr, IfSome, Result, Ok, Err, refl, sym, ap, subst, ◌∙◌, arith}
use Rattle.std.specs.Io.KnownBytes.{IsAtEnd, prepend_known}
use Rattle.sq_outside.specs.Input.{IsWhole, OpensAtMost}
use Rattle.sq_outside.specs.SourceLines.{Finds, SourceLine, lines}
use Rattle.sq_outside.specs.Told.{AddsText, Opening, Openings}
use Rattle.sq_outside.specs.declared.lines.LineFound.TheVariants as found
use Rattle.sq_machine.specs.declared.entries.Event.{Event}
use Rattle.sq_machine.specs.declared.entries.Event.TheVariants.{Reconfigure}
use Rattle.sq_rules.specs.ConfText.{conf_result}
use Rattle.sq_rules.specs.Configurations.{Configuration}
use Rattle.sq_rules.specs.Limits.{text_limit}
use Rattle.sq_rules.specs.declared.kinds.Kind.TheVariants as kind
use Rattle.sq_replay.specs.declared.ends.RunEnd.{RunEnd}
use Rattle.sq_replay.specs.declared.ends.RunEnd.TheVariants as ends
use Rattle.sq_replay.specs.Entering.{IsBeginEnd, IsEmptyEnd, IsJudgeEnd, IsPlainEnd, Judges, named_of}
use Rattle.sq_replay.specs.Openings.{Added, AllGive, LinesOpened, MayOpen, NameOpened, OpenedSoFar, ReachesEnd, RunOpened, StepOpened, StopOpened, before_names, name_at, name_in, name_of, names_in, next_name, opened_names}
use Rattle.sq_replay.specs.RunText.{stated}
use Rattle.sq_replay.specs.Runs.{IsStepEnd, whole_line}
use Rattle.sq_conf.proofs.TextLaws.{too_long}

-- openings that were added

-- more is said of them
pub Added_map : (old new : Openings) (P Q : List Opening → Type 0) → ((more : List Opening) → P more → Q more)
    → Added old new P → Added old new Q
Added_map None new P Q f a = tt
Added_map (Some earlier) new P Q f (more, e, p) = (more, e, f more p)

-- none
pub Added_none : (old new : Openings) (P : List Opening → Type 0) → new ≡ old → P [] → Added old new P
Added_none None new P e p = tt
Added_none (Some earlier) new P e p = ([], e, p)

-- one
pub Added_one : (old new : Openings) (name : List ℕ) (T : List ℕ → Type 0) (P : List Opening → Type 0)
    → AddsText old new name T
    → ((text : List ℕ) → T text → P (record { name = name; text = text } ∷ [])) → Added old new P
Added_one None new name T P a f = tt
Added_one (Some earlier) new name T P (text, e, t) f = (record { name = name; text = text } ∷ [], e, f text t)

-- those of one part, and then of the next
pub Added_then : (old mid new : Openings) (P Q R : List Opening → Type 0) → Added old mid P → Added mid new Q
    → ((first next : List Opening) → P first → Q next → R (next ++ first)) → Added old new R
Added_then None mid new P Q R a b f = tt
Added_then (Some earlier) mid new P Q R (first, e, p) b f =
    let next = subst (λ m. Added m new Q) e b in
    (next.0 ++ first, next.1 ∙ ap (λ l. Some l) (sym (append_assoc next.0 first earlier)), f first next.0 p next.2)

-- a file that a line names

most_opened : (name : List ℕ) (text : List ℕ) → MayOpen (Some name) (record { name = name; text = text } ∷ [])
most_opened name text = refl

-- it was opened once at most
pub may_open : (old new : Openings) (name : List ℕ) → OpensAtMost old new name → Added old new (MayOpen (Some name))
may_open old new name (inl same) = Added_none old new (MayOpen (Some name)) same tt
may_open old new name (inr one) = Added_one old new name (λ _. Unit {0}) (MayOpen (Some name)) one
    (λ text t. most_opened name text)

-- its text is too long
pub long_opened : (old new : Openings) (name : List ℕ) (number : ℕ)
    → AddsText old new name (λ bytes. IsWhole text_limit bytes None)
    → Added old new (StopOpened number (ends.Config (record { line = 0; kind = kind.TooMany })) (Some name))
long_opened old new name number adds =
    Added_one old new name (λ bytes. IsWhole text_limit bytes None)
    (StopOpened number (ends.Config (record { line = 0; kind = kind.TooMany })) (Some name)) adds
    (λ text long. (record { name = name; text = text }, refl, refl, too_long text long))

-- it gives a configuration
pub name_opened : (old new : Openings) (name text : List ℕ) (config : Configuration) → conf_result text ≡ Ok config
    → AddsText old new name (λ bytes. IsWhole text_limit bytes (Some text))
    → Added old new (NameOpened (Some name))
name_opened old new name text config reads adds =
    Added_one old new name (λ bytes. IsWhole text_limit bytes (Some text)) (NameOpened (Some name)) adds
    (λ bytes whole. (record { name = name; text = bytes }, refl, refl, (config, ap conf_result whole.0 ∙ reads)))

-- or none
judged_opened : (number : ℕ) (name text bytes : List ℕ) (end : RunEnd) → IsJudgeEnd end
    → Judges (conf_result text) (Err end) → bytes ≡ text
    → StopOpened number end (Some name) (record { name = name; text = bytes } ∷ [])
judged_opened number name text bytes (ends.Config e) is j same =
    (record { name = name; text = bytes }, refl, refl, ap conf_result same ∙ j)
judged_opened number name text bytes ends.WantOfMemory is j same = refl
judged_opened number name text bytes ends.Ok is j same = absurd is
judged_opened number name text bytes (ends.Script n) is j same = absurd is
judged_opened number name text bytes (ends.Missing n) is j same = absurd is
judged_opened number name text bytes ends.ReadFault is j same = absurd is
judged_opened number name text bytes ends.WriteFault is j same = absurd is

pub fault_opened : (old new : Openings) (number : ℕ) (name text : List ℕ) (end : RunEnd) → IsJudgeEnd end
    → Judges (conf_result text) (Err end) → AddsText old new name (λ bytes. IsWhole text_limit bytes (Some text))
    → Added old new (StopOpened number end (Some name))
fault_opened old new number name text end is j adds =
    Added_one old new name (λ bytes. IsWhole text_limit bytes (Some text)) (StopOpened number end (Some name)) adds
    (λ bytes whole. judged_opened number name text bytes end is j whole.0)

-- what was opened was opened at most
pub opened_may : (name : Option (List ℕ)) (more : List Opening) → NameOpened name more → MayOpen name more
opened_may None more e = subst (MayOpen None) (sym e) tt
opened_may (Some name) more (o, e, is, gives) = subst (MayOpen (Some name)) (sym e)
    (ap (λ (n : List ℕ). Some n) (sym is))

pub opened_stops : (old new : Openings) (name : Option (List ℕ)) → Added old new (NameOpened name)
    → Added old new (MayOpen name)
opened_stops old new name a = Added_map old new (NameOpened name) (MayOpen name) (opened_may name) a

pub opened_refused : (old new : Openings) (number : ℕ) (name : Option (List ℕ)) → Added old new (NameOpened name)
    → Added old new (StopOpened number (ends.Script number) name)
opened_refused old new number name a = Added_map old new (NameOpened name) (StopOpened number (ends.Script number) name)
    (λ more o. (refl, opened_may name more o)) a

-- an event that names no file

pub plain_none : (event e : Event) → named_of event ≡ Err e → name_of event ≡ None
plain_none (Reconfigure name) e is = absurd (cc)
plain_none event e is = refl

plain_stops : (number : ℕ) (end : RunEnd) → IsPlainEnd number end → StopOpened number end None []
plain_stops number (ends.Script line) is = (is, tt)
plain_stops number ends.WriteFault is = tt
plain_stops number ends.WantOfMemory is = tt
plain_stops number ends.Ok is = absurd is
plain_stops number (ends.Config e) is = absurd is
plain_stops number (ends.Missing n) is = absurd is
plain_stops number ends.ReadFault is = absurd is

plain_step : (number : ℕ) (r : Result (Unit {0}) RunEnd) → IfErr r (IsPlainEnd number) → StepOpened number None r []
plain_step number (Ok done) end = refl
plain_step number (Err e) end = plain_stops number e end

-- nothing was opened for it
pub plain_opened : (old : Openings) (number : ℕ) (event : Event) (r : Result (Unit {0}) RunEnd) → name_of event ≡ None
    → IfErr r (IsPlainEnd number) → Added old old (StepOpened number (name_of event) r)
plain_opened old number event r none end =
    Added_none old old (StepOpened number (name_of event) r) refl
    (subst (λ (o : Option (List ℕ)). StepOpened number o r []) (sym none) (plain_step number r end))

-- lines

names_then : (o : Option (List ℕ)) (a b : List (List ℕ)) → before_names o (a ++ b) ≡ before_names o a ++ b
names_then None a b = refl
names_then (Some name) a b = refl

names_last : (done : List SourceLine) (l : SourceLine)
    → names_in (done ++ l ∷ []) ≡ names_in done ++ before_names (name_at l) []
names_last [] l = by (name_at l)
  where
    by : (o : Option (List ℕ)) → before_names o [] ≡ [] ++ before_names o []
    by o = refl
names_last (x ∷ done) l = ap (before_names (name_at x)) (names_last done l)
    ∙ names_then (name_at x) (names_in done) (before_names (name_at l) [])

names_join : (next first : List Opening) → opened_names (next ++ first) ≡ opened_names first ++ opened_names next
names_join [] first = sym (append-nil (opened_names first))
names_join (o ∷ next) first =
    ap (λ (names : List (List ℕ)). names ++ o.name ∷ []) (names_join next first)
    ∙ append_assoc (opened_names first) (opened_names next) (o.name ∷ [])

give_join : (next first : List Opening) → AllGive next → AllGive first → AllGive (next ++ first)
give_join [] first a b = b
give_join (o ∷ next) first a b = (a.0, give_join next first a.1 b)

-- a line alone
one_opened : (o : Option (List ℕ)) (more : List Opening) → NameOpened o more
    → (opened_names more ≡ before_names o []) × AllGive more
one_opened None more e = (ap opened_names e, subst AllGive (sym e) tt)
one_opened (Some name) more (o, e, is, gives) = (
  ap opened_names e ∙ ap (λ (n : List ℕ). n ∷ []) is,
  subst AllGive (sym e) (gives, tt),
)

-- a line behind others
lines_next : (done : List SourceLine) (l : SourceLine) (first next : List Opening) → LinesOpened done first
    → NameOpened (name_at l) next → LinesOpened (done ++ l ∷ []) (next ++ first)
lines_next done l first next p q =
    let one = one_opened (name_at l) next q in
    record {
      names = names_join next first ∙ ap (λ (names : List (List ℕ)). names ++ opened_names next) p.names
          ∙ ap (λ (names : List (List ℕ)). names_in done ++ names) one.0 ∙ sym (names_last done l);
      give = give_join next first one.1 p.give;
    }

before_is : (o : Option (List ℕ)) (names : List (List ℕ)) → before_names o [] ++ names ≡ before_names o names
before_is None names = refl
before_is (Some name) names = refl

-- a line before others
lines_first : (l : SourceLine) (done : List SourceLine) (first next : List Opening) → NameOpened (name_at l) first
    → LinesOpened done next → LinesOpened (l ∷ done) (next ++ first)
lines_first l done first next q p =
    let one = one_opened (name_at l) first q in
    record {
      names = names_join next first ∙ ap (λ (names : List (List ℕ)). names ++ opened_names next) one.0
          ∙ ap (λ (names : List (List ℕ)). before_names (name_at l) [] ++ names) p.names
          ∙ before_is (name_at l) (names_in done);
      give = give_join next first p.give one.1;
    }

-- none was run yet
pub no_lines : LinesOpened [] []
no_lines = record { names = refl; give = tt }

-- a loop over lines

-- before it
pub so_far_first : (old : Openings) (left : Option (List ℕ))
    → IfSome left (λ bytes. OpenedSoFar 1 (lines bytes) old old left 2)
so_far_first old None = tt
so_far_first old (Some bytes) = record {
  done = [];
  bytes = bytes;
  left_is = refl;
  lines_are = refl;
  number_is = refl;
  ran = Added_none old old (LinesOpened []) refl no_lines;
}

-- its next line was run
so_far_more : (count : ℕ) (ls : List SourceLine) (old mid new : Openings) (left after : Option (List ℕ))
    (place number : ℕ) (line : List ℕ) → OpenedSoFar count ls old mid left number
    → Finds place left after line found.Whole
    → Added mid new (NameOpened (name_in (stated line))) → OpenedSoFar count ls old new after (number + 1)
so_far_more count ls old mid new left after place number line g finds step =
    let l : SourceLine = whole_line line in
    let f = subst (λ o. Finds place o after line found.Whole) g.left_is finds in
    let is = g.number_is in
    record {
      done = g.done ++ l ∷ [];
      bytes = f.rest;
      left_is = f.left;
      lines_are = g.lines_are ∙ ap (λ (x : List SourceLine). g.done ++ x) f.first
          ∙ sym (append_assoc g.done (l ∷ []) (lines f.rest));
      number_is = omega (arith, is, length-append g.done (l ∷ []));
      ran = Added_then old mid new (LinesOpened g.done) (NameOpened (name_in (stated line)))
          (LinesOpened (g.done ++ l ∷ [])) g.ran step
          (λ first next p q. lines_next g.done l first next p q);
    }

pub so_far_next : (old mid new : Openings) (first left after : Option (List ℕ)) (place number : ℕ) (line : List ℕ)
    → IfSome first (λ bytes. OpenedSoFar 1 (lines bytes) old mid left number) → Finds place left after line found.Whole
    → Added mid new (NameOpened (name_in (stated line)))
    → IfSome first (λ bytes. OpenedSoFar 1 (lines bytes) old new after (number + 1))
so_far_next old mid new None left after place number line g finds step = tt
so_far_next old mid new (Some bytes) left after place number line g finds step =
    so_far_more 1 (lines bytes) old mid new left after place number line g finds step

-- it stopped the run
stop_here : (count : ℕ) (ls : List SourceLine) (old mid new : Openings) (left : Option (List ℕ)) (number : ℕ)
    (end : RunEnd) → (g : OpenedSoFar count ls old mid left number)
    → Added mid new (StopOpened number end (next_name (lines g.bytes))) → (end ≡ ends.Ok → lines g.bytes ≡ [])
    → Added old new (RunOpened count ls end)
stop_here count ls old mid new left number end g step whole =
    Added_then old mid new (LinesOpened g.done) (StopOpened number end (next_name (lines g.bytes)))
    (RunOpened count ls end) g.ran step
    (λ first next p q. record {
      done = g.done;
      left = lines g.bytes;
      earlier = first;
      last = next;
      lines_are = g.lines_are;
      more_is = refl;
      ran = p;
      stops = subst (λ (n : ℕ). StopOpened n end (next_name (lines g.bytes)) next) g.number_is q;
      whole = whole;
    })

pub opened_stop : (old mid new : Openings) (first left after : Option (List ℕ)) (place number : ℕ) (line : List ℕ)
    (end : RunEnd) → IfSome first (λ bytes. OpenedSoFar 1 (lines bytes) old mid left number)
    → Finds place left after line found.Whole
    → Added mid new (StopOpened number end (name_in (stated line))) → (end ≡ ends.Ok → ⊥)
    → IfSome first (λ bytes. Added old new (RunOpened 1 (lines bytes) end))
opened_stop old mid new None left after place number line end g finds step other = tt
opened_stop old mid new (Some bytes) left after place number line end g finds step other =
    let f = subst (λ o. Finds place o after line found.Whole) g.left_is finds in
    stop_here 1 (lines bytes) old mid new left number end g
    (subst (λ (ls : List SourceLine). Added mid new (StopOpened number end (next_name ls))) (sym f.first) step)
    (λ e. absurd (other e))

-- it ended before a line was run, for a reason for which no file is opened
pub opened_before : (old mid : Openings) (first left : Option (List ℕ)) (number : ℕ) (end : RunEnd)
    → IfSome first (λ bytes. OpenedSoFar 1 (lines bytes) old mid left number)
    → ((name : Option (List ℕ)) → StopOpened number end name [])
    → (end ≡ ends.Ok → ⊥) → IfSome first (λ bytes. Added old mid (RunOpened 1 (lines bytes) end))
opened_before old mid None left number end g none other = tt
opened_before old mid (Some bytes) left number end g none other =
    stop_here 1 (lines bytes) old mid mid left number end g
    (Added_none mid mid (StopOpened number end (next_name (lines g.bytes))) refl (none (next_name (lines g.bytes))))
    (λ e. absurd (other e))

-- the lines are at their end
pub opened_end : (old mid : Openings) (first left after : Option (List ℕ)) (place number : ℕ) (line : List ℕ)
    → IfSome first (λ bytes. OpenedSoFar 1 (lines bytes) old mid left number) → Finds place left after line found.End
    → IfSome first (λ bytes. Added old mid (RunOpened 1 (lines bytes) ends.Ok))
opened_end old mid None left after place number line g finds = tt
opened_end old mid (Some bytes) left after place number line g finds =
    let f = subst (λ o. Finds place o after line found.End) g.left_is finds in
    stop_here 1 (lines bytes) old mid mid left number ends.Ok g
    (Added_none mid mid (StopOpened number ends.Ok (next_name (lines g.bytes))) refl refl) (λ e. ap lines f.0)

-- what is left behind bytes that are held, where nothing is: nothing
left_at_end : (held : List ℕ) (left : Option (List ℕ)) → IsAtEnd (prepend_known held left) → IsAtEnd left
left_at_end held None e = tt
left_at_end [] (Some bytes) e = e
left_at_end (b ∷ held) (Some bytes) e = absurd cc

pub reached_end : (old mid : Openings) (first left : Option (List ℕ)) (held : List ℕ) (rest : Option (List ℕ))
    (place number : ℕ) (line : List ℕ) → IfSome first (λ bytes. OpenedSoFar 1 (lines bytes) old mid left number)
    → Finds place left (prepend_known held rest) line found.End → ReachesEnd ends.Ok first rest
reached_end old mid None left held rest place number line g finds = tt
reached_end old mid (Some bytes) left held rest place number line g finds =
    let f = subst (λ o. Finds place o (prepend_known held rest) line found.End) g.left_is finds in
    left_at_end held rest f.1

-- any other end says nothing of that
pub not_reached : (end : RunEnd) (old new : Option (List ℕ)) → (end ≡ ends.Ok → ⊥) → ReachesEnd end old new
not_reached ends.Ok old new other = absurd (other refl)
not_reached (ends.Script n) old new other = tt
not_reached (ends.Config e) old new other = tt
not_reached (ends.Missing n) old new other = tt
not_reached ends.ReadFault old new other = tt
not_reached ends.WriteFault old new other = tt
not_reached ends.WantOfMemory old new other = tt

pub step_not_ok : (end : RunEnd) → IsStepEnd end → end ≡ ends.Ok → ⊥
step_not_ok end is e = subst IsStepEnd e is

pub begin_not_ok : (end : RunEnd) → IsBeginEnd end → end ≡ ends.Ok → ⊥
begin_not_ok end is e = subst IsBeginEnd e is

-- the first line

-- its machine did not begin
begin_none : (end : RunEnd) (name : Option (List ℕ)) → IsBeginEnd end → StopOpened 1 end name []
begin_none ends.WriteFault name is = tt
begin_none ends.WantOfMemory name is = tt
begin_none ends.Ok name is = absurd is
begin_none (ends.Script n) name is = absurd is
begin_none (ends.Config e) name is = absurd is
begin_none (ends.Missing n) name is = absurd is
begin_none ends.ReadFault name is = absurd is

-- a run that stopped at its first line, and what that opened
stop_first : (ls : List SourceLine) (end : RunEnd) (more : List Opening) → StopOpened 1 end (next_name ls) more
    → (end ≡ ends.Ok → ⊥) → RunOpened 0 ls end more
stop_first ls end more stops other = record {
  done = [];
  left = ls;
  earlier = [];
  last = more;
  lines_are = refl;
  more_is = sym (append-nil more);
  ran = no_lines;
  stops = stops;
  whole = λ e. absurd (other e);
}

-- nothing was opened, whatever is left
pub none_first : (old new : Openings) (left : Option (List ℕ)) (go : List ℕ → List SourceLine) (end : RunEnd)
    → new ≡ old → ((name : Option (List ℕ)) → StopOpened 1 end name []) → (end ≡ ends.Ok → ⊥)
    → IfSome left (λ bytes. Added old new (RunOpened 0 (go bytes) end))
none_first old new None go end same none other = tt
none_first old new (Some bytes) go end same none other =
    Added_none old new (RunOpened 0 (go bytes) end) same
    (stop_first (go bytes) end [] (none (next_name (go bytes))) other)

pub begun_none : (old new : Openings) (left : Option (List ℕ)) (l : SourceLine) (end : RunEnd) → new ≡ old
    → IsBeginEnd end → IfSome left (λ bytes. Added old new (RunOpened 0 (l ∷ lines bytes) end))
begun_none old new left l end same is = none_first old new left (λ bytes. l ∷ lines bytes) end same
    (λ name. begin_none end name is) (begin_not_ok end is)

-- its event stopped the run
pub stopped_at : (old new : Openings) (left : Option (List ℕ)) (l : SourceLine) (now : ℕ) (event : Event) (end : RunEnd)
    → stated l.bytes ≡ Some (now, event) → Added old new (StopOpened 1 end (name_of event)) → IsStepEnd end
    → IfSome left (λ bytes. Added old new (RunOpened 0 (l ∷ lines bytes) end))
stopped_at old new None l now event end states a is = tt
stopped_at old new (Some bytes) l now event end states a is =
    Added_map old new (StopOpened 1 end (name_of event)) (RunOpened 0 (l ∷ lines bytes) end)
    (λ more s. stop_first (l ∷ lines bytes) end more
    (subst (λ (o : Option (List ℕ)). StopOpened 1 end o more) (sym (ap name_in states)) s) (step_not_ok end is)) a

-- it was run, and then the others
run_behind : (l : SourceLine) (ls : List SourceLine) (end : RunEnd) (first next : List Opening)
    → NameOpened (name_at l) first → RunOpened 1 ls end next → RunOpened 0 (l ∷ ls) end (next ++ first)
run_behind l ls end first next q r = record {
  done = l ∷ r.done;
  left = r.left;
  earlier = r.earlier ++ first;
  last = r.last;
  lines_are = ap (λ (x : List SourceLine). l ∷ x) r.lines_are;
  more_is = ap (λ (x : List Opening). x ++ first) r.more_is ∙ append_assoc r.last r.earlier first;
  ran = lines_first l r.done first r.earlier q r.ran;
  stops = subst (λ (n : ℕ). StopOpened n end (next_name r.left) r.last) (omega arith) r.stops;
  whole = r.whole;
}

pub first_then : (old mid new : Openings) (left : Option (List ℕ)) (l : SourceLine) (now : ℕ) (event : Event)
    (end : RunEnd) → stated l.bytes ≡ Some (now, event) → Added old mid (NameOpened (name_of event))
    → IfSome left (λ bytes. Added mid new (RunOpened 1 (lines bytes) end))
    → IfSome left (λ bytes. Added old new (RunOpened 0 (l ∷ lines bytes) end))
first_then old mid new None l now event end states a b = tt
first_then old mid new (Some bytes) l now event end states a b =
    Added_then old mid new (NameOpened (name_of event)) (RunOpened 1 (lines bytes) end)
    (RunOpened 0 (l ∷ lines bytes) end) a b
    (λ first next p q. run_behind l (lines bytes) end first next
    (subst (λ (o : Option (List ℕ)). NameOpened o first) (sym (ap name_in states)) p) q)

-- a script

-- it has no line
empty_end : (end : RunEnd) → IsEmptyEnd end → StopOpened 1 end None []
empty_end ends.Ok is = refl
empty_end ends.WriteFault is = tt
empty_end ends.WantOfMemory is = tt
empty_end (ends.Script n) is = absurd is
empty_end (ends.Config e) is = absurd is
empty_end (ends.Missing n) is = absurd is
empty_end ends.ReadFault is = absurd is

pub none_opened : (old : Openings) (left after : Option (List ℕ)) (line : List ℕ) (end : RunEnd)
    → Finds 0 left after line found.End → IsEmptyEnd end
    → IfSome left (λ bytes. Added old old (RunOpened 0 (lines bytes) end))
none_opened old None after line end f is = tt
none_opened old (Some bytes) after line end f is =
    let none : lines bytes ≡ [] = ap lines f.0 in
    Added_none old old (RunOpened 0 (lines bytes) end) refl (record {
      done = [];
      left = [];
      earlier = [];
      last = [];
      lines_are = none;
      more_is = refl;
      ran = no_lines;
      stops = empty_end end is;
      whole = λ e. refl;
    })

at_end : (end : RunEnd) (old new : Option (List ℕ)) → IfSome old (λ bytes. IsAtEnd new) → ReachesEnd end old new
at_end ends.Ok old new a = a
at_end (ends.Script n) old new a = tt
at_end (ends.Config e) old new a = tt
at_end (ends.Missing n) old new a = tt
at_end ends.ReadFault old new a = tt
at_end ends.WriteFault old new a = tt
at_end ends.WantOfMemory old new a = tt

none_left : (left : Option (List ℕ)) (held : List ℕ) (rest : Option (List ℕ)) (line : List ℕ)
    → Finds 0 left (prepend_known held rest) line found.End → IfSome left (λ bytes. IsAtEnd rest)
none_left None held rest line f = tt
none_left (Some bytes) held rest line f = left_at_end held rest f.1

pub none_reached : (left : Option (List ℕ)) (held : List ℕ) (rest : Option (List ℕ)) (line : List ℕ) (end : RunEnd)
    → Finds 0 left (prepend_known held rest) line found.End → ReachesEnd end left rest
none_reached left held rest line end f = at_end end left rest (none_left left held rest line f)

-- its first line is this one
pub script_opened : (old new : Openings) (left after : Option (List ℕ)) (line same : List ℕ) (end : RunEnd)
    → Finds 0 left after line found.Whole → same ≡ line
    → IfSome after (λ bytes. Added old new (RunOpened 0 (whole_line same ∷ lines bytes) end))
    → IfSome left (λ bytes. Added old new (RunOpened 0 (lines bytes) end))
script_opened old new None after line same end f is a = tt
script_opened old new (Some bytes) after line same end f is a =
    let rest : Added old new (RunOpened 0 (whole_line same ∷ lines f.rest) end) =
    subst (λ (o : Option (List ℕ)). IfSome o (λ b. Added old new (RunOpened 0 (whole_line same ∷ lines b) end))) f.left
    a in
    subst (λ (ls : List SourceLine). Added old new (RunOpened 0 ls end))
    (ap (λ (x : List ℕ). whole_line x ∷ lines f.rest) is ∙ sym f.first) rest

reached_by : (end : RunEnd) (bytes : List ℕ) (after rest : Option (List ℕ)) (more : List ℕ) → after ≡ Some more
    → ReachesEnd end after rest → ReachesEnd end (Some bytes) rest
reached_by ends.Ok bytes after rest more is r = subst (λ (o : Option (List ℕ)). ReachesEnd ends.Ok o rest) is r
reached_by (ends.Script n) bytes after rest more is r = tt
reached_by (ends.Config e) bytes after rest more is r = tt
reached_by (ends.Missing n) bytes after rest more is r = tt
reached_by ends.ReadFault bytes after rest more is r = tt
reached_by ends.WriteFault bytes after rest more is r = tt
reached_by ends.WantOfMemory bytes after rest more is r = tt

pub script_reached : (left after rest : Option (List ℕ)) (line : List ℕ) (end : RunEnd)
    → Finds 0 left after line found.Whole → ReachesEnd end after rest → ReachesEnd end left rest
script_reached None after rest line end f r = at_end end None rest tt
script_reached (Some bytes) after rest line end f r = reached_by end bytes after rest f.rest f.left r
