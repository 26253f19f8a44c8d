-- A loop over the lines of a journal: what its next line, its end and a fault make of what the journal comes to.
use Rattle.std.proofs.Common.{◌≡◌, ℕ, ◌+◌, List, ◌∷◌, length, true, if◌then◌else◌, Option, Some, None, IfSome, Ok, Err, Result, refl, sym, ap, subst, ◌∙◌, arith}
use Rattle.std.specs.Io.KnownBytes.{IsAtEnd}
use Rattle.sq_outside.specs.SourceLines.{FindsWithin, IsLineWithin, SourceLine, lines}
use Rattle.sq_outside.specs.declared.lines.LineFound.TheVariants as found
use Rattle.sq_rules.specs.Configurations.{Configuration}
use Rattle.sq_machine.specs.Entries.{History}
use Rattle.sq_replay.specs.Runs.{ScriptView}
use Rattle.sq_verify.specs.declared.findings.Finding.{Finding}
use Rattle.sq_verify.specs.declared.findings.Finding.TheVariants as finding
use Rattle.sq_verify.specs.declared.halts.Halt.{Halt}
use Rattle.sq_verify.specs.declared.halts.Halt.TheVariants as halt
use Rattle.sq_verify.specs.declared.versions.Version.{Version}
use Rattle.sq_verify.specs.Promised.{AreAhead, Comes, Goes, GoesOn, Going, IsKnown, IsNext, JudgeHasCauses, JudgesOver, ReachesEnd, Stands, StaysKnown, journal_spot}
use Rattle.sq_verify.specs.JournalLines.{line_limit, noted_in}
use Rattle.sq_verify.specs.Judging.{Judged, found_at, go_on, judged_lines, line_number, stated_line}
use Rattle.sq_verify.proofs.LaterLaws.{ahead_next, later_ahead, stated_later}

-- what follows where the journal tells
pub told_map : (left : Option (List ℕ)) (v : Version) (configs : List Configuration) (h : History)
    (P Q : List ℕ → Type 0) → ((bytes : List ℕ) → P bytes → Q bytes)
    → IfSome left (λ bytes. AreAhead v configs h (lines bytes) → P bytes)
    → IfSome left (λ bytes. AreAhead v configs h (lines bytes) → Q bytes)
told_map None v configs h P Q f p = tt
told_map (Some bytes) v configs h P Q f p = λ ahead. f bytes (p ahead)

-- nothing is judged yet
pub going_first : (w : ScriptView) (v : Version) (left : Option (List ℕ)) (configs : List Configuration) (h : History)
    (count epoch place : ℕ) → Stands w count epoch configs h
    → Going w v left left configs h (λ bytes. judged_lines v configs h place (lines bytes))
    (journal_spot count epoch place)
going_first w v None configs h count epoch place s = tt
going_first w v (Some bytes) configs h count epoch place s =
    λ ahead. record { history = h; stands = s; bytes = bytes; left_is = refl; ahead = ahead; same = refl }

-- the journal was read to its end
ends_so : (w : ScriptView) (v : Version) (left after : Option (List ℕ)) (line : List ℕ) (configs : List Configuration)
    (whole : Judged) (count epoch place : ℕ) → FindsWithin (line_limit v) place left after line found.End
    → GoesOn w v left configs whole count epoch place → Comes whole (finding.Verified count)
ends_so w v left after line configs whole count epoch place f g =
    let none = (subst (λ (l : Option (List ℕ)). FindsWithin (line_limit v) place l after line found.End) g.left_is
    f).0 in
    sym (ap (λ (j : Judged). j.found) g.same)
    ∙ ap (λ (b : List ℕ). (judged_lines v configs g.history place (lines b)).found) none
    ∙ ap (λ (n : ℕ). finding.Verified n) (sym g.stands.count_is)

pub going_end : (w : ScriptView) (v : Version) (first left after : Option (List ℕ)) (line : List ℕ)
    (configs : List Configuration) (h : History) (judged : List ℕ → Judged) (count epoch place : ℕ)
    → FindsWithin (line_limit v) place left after line found.End
    → Going w v first left configs h judged (journal_spot count epoch place)
    → JudgesOver first v configs h judged (finding.Verified count)
going_end w v first left after line configs h judged count epoch place f going =
    told_map first v configs h (λ bytes. GoesOn w v left configs (judged bytes) count epoch place)
    (λ bytes. Comes (judged bytes) (finding.Verified count))
    (λ bytes g. ends_so w v left after line configs (judged bytes) count epoch place f g) going

-- its next line cannot be read
faulty_so : (w : ScriptView) (v : Version) (left after : Option (List ℕ)) (line : List ℕ) (configs : List Configuration)
    (whole : Judged) (count epoch place : ℕ) → FindsWithin (line_limit v) place left after line found.Faulty
    → GoesOn w v left configs whole count epoch place → Comes whole (finding.Script (line_number v count))
faulty_so w v left after line configs whole count epoch place f g =
    let x = subst (λ (l : Option (List ℕ)). FindsWithin (line_limit v) place l after line found.Faulty) g.left_is f in
    let go : History → Judged = λ t. judged_lines v configs t (place + length x.line.bytes + 1) x.rest in
    sym (ap (λ (j : Judged). j.found) g.same)
    ∙ ap (λ (ls : List SourceLine). (judged_lines v configs g.history place ls).found) x.first
    ∙ ap (λ b. (go_on v g.history x.line.bytes
    (if b then stated_line v configs g.history x.line.bytes (noted_in v x.line.bytes) else Err halt.NoLine) go).found)
    x.faulty
    ∙ ap (λ (n : ℕ). finding.Script (line_number v n)) (sym g.stands.count_is)

pub going_faulty : (w : ScriptView) (v : Version) (first left after : Option (List ℕ)) (line : List ℕ)
    (configs : List Configuration) (h : History) (judged : List ℕ → Judged) (count epoch place : ℕ)
    → FindsWithin (line_limit v) place left after line found.Faulty
    → Going w v first left configs h judged (journal_spot count epoch place)
    → JudgesOver first v configs h judged (finding.Script (line_number v count))
going_faulty w v first left after line configs h judged count epoch place f going =
    told_map first v configs h (λ bytes. GoesOn w v left configs (judged bytes) count epoch place)
    (λ bytes. Comes (judged bytes) (finding.Script (line_number v count)))
    (λ bytes g. faulty_so w v left after line configs (judged bytes) count epoch place f g) going

-- a fault came: nothing is said
pub going_stopped : (w : ScriptView) (v : Version) (first left : Option (List ℕ)) (configs : List Configuration)
    (h : History) (judged : List ℕ → Judged) (count epoch place : ℕ) (end : Finding) → ((j : Judged) → Comes j end)
    → Going w v first left configs h judged (journal_spot count epoch place) → JudgesOver first v configs h judged end
going_stopped w v first left configs h judged count epoch place end any going =
    told_map first v configs h (λ bytes. GoesOn w v left configs (judged bytes) count epoch place)
    (λ bytes. Comes (judged bytes) end) (λ bytes g. any (judged bytes)) going

-- what judging a line that can be read comes to
stepped : (w : ScriptView) (v : Version) (left after : Option (List ℕ)) (line : List ℕ) (configs : List Configuration)
    (whole : Judged) (count epoch place : ℕ) (g : GoesOn w v left configs whole count epoch place)
    → (f : IsLineWithin (line_limit v) place g.bytes after line)
    → go_on v g.history line (stated_line v configs g.history line (noted_in v line))
    (λ t. judged_lines v configs t (place + length line + 1) (lines f.rest)) ≡ whole
stepped w v left after line configs whole count epoch place g f =
    let go : History → Judged = λ t. judged_lines v configs t (place + length line + 1) (lines f.rest) in
    sym (ap (λ b. go_on v g.history line
    (if b then stated_line v configs g.history line (noted_in v line) else Err halt.NoLine) go) f.readable)
    ∙ sym (ap (judged_lines v configs g.history place) f.first) ∙ g.same

found_whole : (w : ScriptView) (v : Version) (left after : Option (List ℕ)) (line : List ℕ)
    (configs : List Configuration) (whole : Judged) (count epoch place : ℕ)
    (g : GoesOn w v left configs whole count epoch place)
    → FindsWithin (line_limit v) place left after line found.Whole
    → IsLineWithin (line_limit v) place g.bytes after line
found_whole w v left after line configs whole count epoch place g f =
    subst (λ (l : Option (List ℕ)). FindsWithin (line_limit v) place l after line found.Whole) g.left_is f

-- the lines that are ahead, the next one first
ahead_line : (w : ScriptView) (v : Version) (left after : Option (List ℕ)) (line : List ℕ)
    (configs : List Configuration) (whole : Judged) (count epoch place : ℕ)
    (g : GoesOn w v left configs whole count epoch place)
    → (f : IsLineWithin (line_limit v) place g.bytes after line)
    → AreAhead v configs g.history (record { bytes = line; ended = true } ∷ lines f.rest)
ahead_line w v left after line configs whole count epoch place g f =
    subst (AreAhead v configs g.history) f.first g.ahead

-- so the configuration that it gives is that of the next epoch
pub going_has_next : (w : ScriptView) (v : Version) (left after : Option (List ℕ)) (line : List ℕ)
    (configs : List Configuration) (whole : Judged) (count epoch place : ℕ)
    → FindsWithin (line_limit v) place left after line found.Whole
    → (g : GoesOn w v left configs whole count epoch place) → IsNext configs g.history (noted_in v line)
going_has_next w v left after line configs whole count epoch place found g =
    let f = found_whole w v left after line configs whole count epoch place g found in
    ahead_next v configs g.history (record { bytes = line; ended = true }) (lines f.rest)
    (ahead_line w v left after line configs whole count epoch place g f)

-- what was found of a line that ends the journal
pub stop_comes : (v : Version) (h : History) (line : List ℕ) (count n : ℕ) (configs : List Configuration)
    (w : ScriptView) (step : Result History Halt) (stop : Halt) (go : History → Judged) (whole : Judged)
    → count ≡ length h
    → Goes w n configs step (Err stop) → go_on v h line step go ≡ whole → Comes whole (found_at v count line stop)
stop_comes v h line count n configs w step halt.NoLine go whole is e same =
    sym (ap (λ (j : Judged). j.found) same) ∙ ap (λ (s : Result History Halt). (go_on v h line s go).found) e
    ∙ ap (λ (k : ℕ). finding.Script (line_number v k)) (sym is)
stop_comes v h line count n configs w step (halt.Differs text) go whole is e same =
    sym (ap (λ (j : Judged). j.found) same) ∙ ap (λ (s : Result History Halt). (go_on v h line s go).found) e
    ∙ ap (λ (k : ℕ). finding.Differs (line_number v k) text line) (sym is)
stop_comes v h line count n configs w step halt.WantOfMemory go whole is e same = tt

-- a line ends the journal, over each history that the machine stood for
pub going_stop : (old w : ScriptView) (v : Version) (first left after : Option (List ℕ)) (line : List ℕ)
    (configs : List Configuration) (h : History) (judged : List ℕ → Judged) (count epoch place : ℕ) (stop : Halt)
    → FindsWithin (line_limit v) place left after line found.Whole
    → ((cs : List Configuration) (g : History) → Stands old count epoch cs g → IsNext cs g (noted_in v line)
    → Goes w (count + 1) cs (stated_line v cs g line (noted_in v line)) (Err stop))
    → Going old v first left configs h judged (journal_spot count epoch place)
    → JudgesOver first v configs h judged (found_at v count line stop)
going_stop old w v first left after line configs h judged count epoch place stop f goes going =
    told_map first v configs h (λ bytes. GoesOn old v left configs (judged bytes) count epoch place)
    (λ bytes. Comes (judged bytes) (found_at v count line stop)) (λ bytes g. by bytes g) going
  where
    by : (bytes : List ℕ) → GoesOn old v left configs (judged bytes) count epoch place
        → Comes (judged bytes) (found_at v count line stop)
    by bytes g =
        let i = found_whole old v left after line configs (judged bytes) count epoch place g f in
        stop_comes v g.history line count (count + 1) configs w (stated_line v configs g.history line (noted_in v line))
        stop
        (λ t. judged_lines v configs t (place + length line + 1) (lines i.rest)) (judged bytes) g.stands.count_is
        (goes configs g.history g.stands
        (going_has_next old v left after line configs (judged bytes) count epoch place f g))
        (stepped old v left after line configs (judged bytes) count epoch place g i)

-- the state goes on behind a line
goes_so : (old w : ScriptView) (v : Version) (left after : Option (List ℕ)) (line : List ℕ)
    (configs : List Configuration) (whole : Judged) (count epoch place next moved : ℕ) → moved ≡ place + length line + 1
    → (g : GoesOn old v left configs whole count epoch place)
    → (f : IsLineWithin (line_limit v) place g.bytes after line)
    → (t : History) → stated_line v configs g.history line (noted_in v line) ≡ Ok t
    → Stands w (count + 1) next configs t → GoesOn w v after configs whole (count + 1) next moved
goes_so old w v left after line configs whole count epoch place next moved at g f t step s =
    let l : SourceLine = record { bytes = line; ended = true } in
    record {
      history = t;
      stands = s;
      bytes = f.rest;
      left_is = f.left;
      ahead = later_ahead v configs g.history t l (lines f.rest) (stated_later v configs g.history line t step)
          (ahead_line old v left after line configs whole count epoch place g f);
      same = ap (λ (p : ℕ). judged_lines v configs t p (lines f.rest)) at
          ∙ sym (ap (λ (s : Result History Halt). go_on v g.history line s
          (λ t. judged_lines v configs t (place + length line + 1) (lines f.rest))) step)
          ∙ stepped old v left after line configs whole count epoch place g f;
    }

-- a line's entry is the machine's
pub going_on : (old w : ScriptView) (v : Version) (first left after : Option (List ℕ)) (line : List ℕ)
    (configs : List Configuration) (h : History) (judged : List ℕ → Judged) (count epoch place next moved : ℕ)
    → FindsWithin (line_limit v) place left after line found.Whole → moved ≡ place + length line + 1
    → ((cs : List Configuration) (g : History) → Stands old count epoch cs g → IsNext cs g (noted_in v line)
    → Goes w (count + 1) cs (stated_line v cs g line (noted_in v line)) (Ok next))
    → Going old v first left configs h judged (journal_spot count epoch place)
    → Going w v first after configs h judged (journal_spot (count + 1) next moved)
going_on old w v first left after line configs h judged count epoch place next moved f at goes going =
    told_map first v configs h (λ bytes. GoesOn old v left configs (judged bytes) count epoch place)
    (λ bytes. GoesOn w v after configs (judged bytes) (count + 1) next moved) (λ bytes g. by bytes g) going
  where
    by : (bytes : List ℕ) → GoesOn old v left configs (judged bytes) count epoch place
        → GoesOn w v after configs (judged bytes) (count + 1) next moved
    by bytes g =
        let i = found_whole old v left after line configs (judged bytes) count epoch place g f in
        let s = goes configs g.history g.stands
        (going_has_next old v left after line configs (judged bytes) count epoch place f g) in
        goes_so old w v left after line configs (judged bytes) count epoch place next moved at g i s.0 s.1 s.2

-- what is known

pub known_first : (o : Option (List ℕ)) → StaysKnown o o
known_first None = tt
known_first (Some bytes) = (bytes, refl)

known_line : (limit place : ℕ) (left after : Option (List ℕ)) (line : List ℕ)
    → FindsWithin limit place left after line found.Whole → IsKnown left → IsKnown after
known_line limit place left after line f k =
    let i = subst (λ (l : Option (List ℕ)). FindsWithin limit place l after line found.Whole) k.1 f in
    (i.rest, i.left)

pub known_end : (limit place : ℕ) (left after : Option (List ℕ)) (line : List ℕ)
    → FindsWithin limit place left after line found.End → IsKnown left → IsAtEnd after
known_end limit place left after line f k = (subst (λ (l : Option (List ℕ)). FindsWithin limit place l after line
    found.End) k.1 f).1

-- behind a line that was found
pub stays_known : (first left after : Option (List ℕ)) (limit place : ℕ) (line : List ℕ)
    → FindsWithin limit place left after line found.Whole → StaysKnown first left → StaysKnown first after
stays_known None left after limit place line f k = tt
stays_known (Some bytes) left after limit place line f k = known_line limit place left after line f k

-- and at the end nothing is left
pub known_at_end : (first left after : Option (List ℕ)) (limit place : ℕ) (line : List ℕ) (count : ℕ)
    → FindsWithin limit place left after line found.End → StaysKnown first left
    → ReachesEnd (finding.Verified count) first after
known_at_end None left after limit place line count f k = tt
known_at_end (Some bytes) left after limit place line count f k = known_end limit place left after line f k

-- a journal that a line ends

pub halted_reaches : (v : Version) (count : ℕ) (line : List ℕ) (stop : Halt) (old new : Option (List ℕ))
    → ReachesEnd (found_at v count line stop) old new
halted_reaches v count line halt.NoLine old new = tt
halted_reaches v count line (halt.Differs text) old new = tt
halted_reaches v count line halt.WantOfMemory old new = tt

pub halted_causes : (v : Version) (count : ℕ) (line : List ℕ) (stop : Halt) (before now : ℕ) → now ≡ before
    → JudgeHasCauses before now (found_at v count line stop)
halted_causes v count line halt.NoLine before now same = record {
  later = omega (arith, same);
  read = λ e. absurd (cc);
  quiet = λ e. same;
}
halted_causes v count line (halt.Differs text) before now same =
    record { later = omega (arith, same); read = λ e. absurd (cc); quiet = λ e. same }
halted_causes v count line halt.WantOfMemory before now same =
    record { later = omega (arith, same); read = λ e. absurd (cc); quiet = λ e. same }
