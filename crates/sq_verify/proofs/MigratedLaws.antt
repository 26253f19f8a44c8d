-- A journal that was migrated is verified exactly where the one that was read is:
-- each of its lines is judged alike in both versions.
use Rattle.std.proofs.Common.{◌≡◌, ◌⊎◌, ◌↔◌, inl, inr, ℕ, ◌+◌, ◌<◌, ◌≤◌, max, min, suc, List, [], ◌∷◌, ◌++◌, append_assoc, append-nil, length, length-append, Bool, true, false, ◌&&◌, ◌==◌, nat_le, if◌then◌else◌, bytes_eq, codes, decimal, is_some, Option, Some, None, Result, Ok, Err, refl, sym, ap, subst, ◌∙◌, arith}
use Rattle.std.proofs.lemmas.Bool.{and_parts}
use Rattle.std.proofs.lemmas.Bool.Decides.{nat_tests}
use Rattle.std.proofs.lemmas.List.{append_cancel_left, get_or_append_left}
use Rattle.std.proofs.lemmas.List.Elements.{All-tail}
use Rattle.std.proofs.lemmas.Option.{none-some}
use Rattle.std.proofs.lemmas.Slice.Eq.{bytes_eq-Decides}
use Rattle.sq_base.specs.Texts.{AreBytes}
use Rattle.sq_outside.specs.SourceLines.{SourceLine, is_readable, is_within, lines, script_line_limit, total_limit}
use Rattle.sq_request.specs.Written.{made_request}
use Rattle.sq_machine.specs.declared.entries.Event.{Event}
use Rattle.sq_machine.specs.declared.entries.Event.TheVariants.{Ask, Begin, Reconfigure}
use Rattle.sq_machine.specs.declared.entries.Told.{Told}
use Rattle.sq_machine.specs.declared.entries.Told.TheVariants as told
use Rattle.sq_rules.specs.ConfText.{conf_result}
use Rattle.sq_rules.specs.declared.kinds.ConfError.{ConfError}
use Rattle.sq_rules.specs.Configurations.{Configuration}
use Rattle.sq_machine.specs.Entries.{History, Noted, entry_at}
use Rattle.sq_machine.specs.Events.{begins_epoch}
use Rattle.sq_machine.specs.Machine.{next}
use Rattle.sq_machine.specs.Next.{Next, gives, nothing, refuses}
use Rattle.sq_machine.specs.Marking.{marked}
use Rattle.sq_machine.specs.Readings.{current, epoch_after, latest}
use Rattle.sq_journal.specs.EntryText.{entry_text, written}
use Rattle.sq_journal.specs.Journals.{epoch_at, greatest_number, journal_text, number_at, numbered_lines, numbered_text}
use Rattle.sq_journal.specs.Lines.{line_of, spaced_words}
use Rattle.sq_journal.specs.ToldReading.{entry_of}
use Rattle.sq_journal.specs.Values.{IsNoted}
use Rattle.sq_journal.proofs.EntryLaws.{entry_takes}
use Rattle.sq_journal.proofs.LineLaws.{line_again, words_bytes}
use Rattle.sq_verify.specs.declared.findings.Finding.{Finding}
use Rattle.sq_verify.specs.declared.findings.Finding.TheVariants as finding
use Rattle.sq_verify.specs.declared.halts.Halt.{Halt}
use Rattle.sq_verify.specs.declared.halts.Halt.TheVariants as halt
use Rattle.sq_verify.specs.declared.versions.Version.{Version}
use Rattle.sq_verify.specs.declared.versions.Version.TheVariants as version
use Rattle.sq_verify.specs.Audits.{behind_end, bytes_of, lines_in}
use Rattle.sq_verify.specs.JournalLines.{is_version_line, line_in, line_limit, noted_in}
use Rattle.sq_verify.specs.Judging.{Judged, asked_line, begun_line, compared, epochs_of, event_line, first_line, found_at, go_on, if_read, if_request, judged, judged_first, judged_lines, later_line, matched, named_by, named_from, named_in, stated_first, stated_line}
use Rattle.sq_verify.specs.Migrating.{Reading, is_in_place, line_entry, placed, read_journal, read_lines, with_next}
use Rattle.sq_verify.specs.Tellable.{AreNoted, AreShort}
use Rattle.sq_verify.proofs.CompleteLaws.{line_at, lines_at, lines_ended, not_end, one_is}
use Rattle.sq_verify.proofs.TextLaws.{ended, lines_back, lines_next, more_is}
use Rattle.sq_verify.proofs.ToldLaws.{back_line, open_line, place_next, plain_line, start_of, text_fits, told_line}

-- the lines of a history of values

-- each is within the limits where it stands
abbrev AreFit : Version → History → Type 0
AreFit v [] = Unit {0}
AreFit v (e ∷ h) = AreFit v h × (is_within (line_limit v) (start_of v + length (lines_in v h)) (line_at v h e) ≡ true)

fit_lines : (v : Version) (h : History) → AreNoted h → AreShort v h → start_of v + length (lines_in v h) ≤ total_limit
    → AreFit v h
fit_lines v [] noted short fits = tt
fit_lines v (e ∷ h) noted short fits = (
  fit_lines v h noted.0 short.0 (omega (arith, place_next v h e, fits)),
  (told_line v h e noted.1 short.1 fits).fits,
)

lines_noted : (v : Version) (h : History) (rest : List ℕ) → AreNoted h
    → lines (lines_in v h ++ rest) ≡ lines_at v h ++ lines rest
lines_noted version.One [] rest n = refl
lines_noted version.Two [] rest n = refl
lines_noted v (e ∷ h) rest n =
    let line = line_in v h e in
    ap (λ (x : List ℕ). lines (x ++ rest)) (more_is v h e)
    ∙ ap lines (append_assoc (lines_in v h) (line ++ 10 ∷ []) rest
    ∙ ap (λ (x : List ℕ). lines_in v h ++ x) (append_assoc line (10 ∷ []) rest))
    ∙ lines_noted v h (line ++ 10 ∷ rest) n.0
    ∙ ap (λ (x : List SourceLine). lines_at v h ++ x) (lines_ended line rest (open_line v h e n.1))
    ∙ sym (append_assoc (lines_at v h) (line_at v h e ∷ []) (lines rest))

-- the configurations that the entries hold, before others
abbrev held : History → List Configuration → List Configuration
held [] more = more
held (e ∷ h) more = held h (named_by e.event more)

named_noted : (v : Version) (h : History) (ls : List SourceLine) → AreNoted h
    → named_from v (lines_at v h ++ ls) ≡ held h (named_from v ls)
named_noted v [] ls n = refl
named_noted v (e ∷ h) ls n =
    ap (named_from v) (append_assoc (lines_at v h) (line_at v h e ∷ []) ls) ∙ named_noted v h (line_at v h e ∷ ls) n.0
    ∙ ap (λ (o : Option Noted). held h (named_in o (named_from v ls))) (back_line v h e n.1)

-- one line in both versions

-- both go on to one history, of which P holds, or neither goes on
abbrev SameStep : (History → Type 0) → Result History Halt → Result History Halt → Type 0
SameStep P (Ok t) (Ok u) = (t ≡ u) × P t
SameStep P (Ok t) (Err y) = ⊥
SameStep P (Err x) (Ok u) = ⊥
SameStep P (Err x) (Err y) = Unit {0}

-- as many entries, in the same epoch
abbrev Agrees : History → History → Type 0
Agrees g h = (length g ≡ length h) × (current g ≡ current h)

agrees_more : (g h : History) (moment : ℕ) (event : Event) (answer : Told) (e : Noted) → event ≡ e.event → Agrees g h
    → Agrees (entry_at moment event answer ∷ g) (e ∷ h)
agrees_more g h moment event answer e same a = (
  ap (λ (n : ℕ). suc n) a.0,
  ap (λ (x : Event). epoch_after (begins_epoch x) (current g)) same ∙ ap (epoch_after (begins_epoch e.event)) a.1,
)

front_eq : (p a b : List ℕ) → bytes_eq (p ++ a) (p ++ b) ≡ bytes_eq a b
front_eq p a b = by (bytes_eq a b) (bytes_eq (p ++ a) (p ++ b)) refl refl
  where
    by : (s t : Bool) → bytes_eq a b ≡ s → bytes_eq (p ++ a) (p ++ b) ≡ t → bytes_eq (p ++ a) (p ++ b) ≡ bytes_eq a b
    by true true e f = f ∙ sym e
    by false false e f = f ∙ sym e
    by true false e f =
        let whole : bytes_eq (p ++ a) (p ++ b) ≡ true =
        (bytes_eq-Decides (p ++ a) (p ++ b)).1 (ap (λ (x : List ℕ). p ++ x) ((bytes_eq-Decides a b).0 e)) in
        absurd (let both : false ≡ true = sym f ∙ whole in cc)
    by false true e f =
        let part : bytes_eq a b ≡ true =
        (bytes_eq-Decides a b).1 (append_cancel_left p a b ((bytes_eq-Decides (p ++ a) (p ++ b)).0 f)) in
        absurd (let both : false ≡ true = sym e ∙ part in cc)

-- what stands before the text of an entry in version 2
abbrev front_of : ℕ → ℕ → List ℕ
front_of number epoch = decimal number ++ 32 ∷ (decimal epoch ++ 32 ∷ [])

numbered_is : (number epoch : ℕ) (e : Noted) → numbered_text number epoch e ≡ front_of number epoch ++ entry_text e
numbered_is number epoch e =
    sym (append_assoc (decimal number) (32 ∷ (decimal epoch ++ 32 ∷ [])) (entry_text e)
    ∙ ap (λ (x : List ℕ). decimal number ++ 32 ∷ x) (append_assoc (decimal epoch) (32 ∷ []) (entry_text e)))

-- the machine's line is the one of version 2 exactly where it is the one of version 1
text_alike : (g h : History) (x e : Noted) → Agrees (x ∷ g) (e ∷ h)
    → bytes_eq (line_in version.Two g x) (line_in version.Two h e)
    ≡ bytes_eq (line_in version.One g x) (line_in version.One h e)
text_alike g h x e a =
    let number : number_at (x ∷ g) ≡ number_at (e ∷ h) = ap (λ (n : ℕ). min n greatest_number) a.0 in
    let epoch : epoch_at (x ∷ g) ≡ epoch_at (e ∷ h) = ap (λ (n : ℕ). min n greatest_number) a.1 in
    let front = front_of (number_at (e ∷ h)) (epoch_at (e ∷ h)) in
    let one : line_in version.Two g x ≡ front ++ entry_text x =
    numbered_is (number_at (x ∷ g)) (epoch_at (x ∷ g)) x
    ∙ ap (λ (n : ℕ). front_of n (epoch_at (x ∷ g)) ++ entry_text x) number
    ∙ ap (λ (n : ℕ). front_of (number_at (e ∷ h)) n ++ entry_text x) epoch in
    ap (λ (t : List ℕ). bytes_eq t (line_in version.Two h e)) one
    ∙ ap (λ (t : List ℕ). bytes_eq (front ++ entry_text x) t) (numbered_is (number_at (e ∷ h)) (epoch_at (e ∷ h)) e)
    ∙ front_eq front (entry_text x) (entry_text e)

pair_alike : (P : History → Type 0) (t : History) (x y : Halt) (b c : Bool) → c ≡ b → P t
    → SameStep P (if b then Ok t else Err x) (if c then Ok t else Err y)
pair_alike P t x y true true e p = (refl, p)
pair_alike P t x y false false e p = tt
pair_alike P t x y true false e p = absurd (cc)
pair_alike P t x y false true e p = absurd (cc)

-- the entry of the line stands behind the stated ones as the machine's behind its own
abbrev Behind : History → Noted → History → Type 0
Behind h e t = Agrees t (e ∷ h)

compared_alike : (g h : History) (x e : Noted) → Agrees (x ∷ g) (e ∷ h)
    → SameStep (Behind h e) (compared version.One g (line_in version.One h e) x)
    (compared version.Two g (line_in version.Two h e) x)
compared_alike g h x e a =
    pair_alike (Behind h e) (x ∷ g) (halt.Differs (line_in version.One g x)) (halt.Differs (line_in version.Two g x))
    (bytes_eq (line_in version.One g x) (line_in version.One h e))
    (bytes_eq (line_in version.Two g x) (line_in version.Two h e)) (text_alike g h x e a) a

matched_alike : (g h : History) (e : Noted) (moment : ℕ) (event : Event) (n : Next) → event ≡ e.event → Agrees g h
    → SameStep (Behind h e) (matched version.One g (line_in version.One h e) moment event n)
    (matched version.Two g (line_in version.Two h e) moment event n)
matched_alike g h e moment event (gives answer) same a = compared_alike g h (entry_at moment event answer) e
    (agrees_more g h moment event answer e same a)
matched_alike g h e moment event (refuses r) same a = tt
matched_alike g h e moment event nothing same a = tt

asked_alike : (configs : List Configuration) (g h : History) (e : Noted) (now : ℕ) (event : Event) → event ≡ e.event
    → Agrees g h
    → SameStep (Behind h e) (asked_line version.One configs g (line_in version.One h e) now event)
    (asked_line version.Two configs g (line_in version.Two h e) now event)
asked_alike configs g h e now event same a = matched_alike g h e (max now (latest g)) event
    (next configs (marked configs g) (max now (latest g)) event) same a

if_alike : (P : History → Type 0) (b : Bool) (s t : Result History Halt) → SameStep P s t
    → SameStep P (if_request b s) (if_request b t)
if_alike P true s t p = p
if_alike P false s t p = tt

read_alike : (P : History → Type 0) (r : Result Configuration ConfError) (s t : Result History Halt) → SameStep P s t
    → SameStep P (if_read r s) (if_read r t)
read_alike P (Ok config) s t p = p
read_alike P (Err x) s t p = tt

event_alike : (configs : List Configuration) (g h : History) (e : Noted) (now : ℕ) (event : Event) → event ≡ e.event
    → Agrees g h
    → SameStep (Behind h e) (event_line version.One configs g (line_in version.One h e) now event)
    (event_line version.Two configs g (line_in version.Two h e) now event)
event_alike configs g h e now (Begin offset) same a = tt
event_alike configs g h e now (Ask conn method target fields) same a =
    if_alike (Behind h e) (is_some (made_request method target 1 fields)) _ _
    (asked_alike configs g h e now (Ask conn method target fields) same a)
event_alike configs g h e now (Reconfigure text) same a = read_alike (Behind h e) (conf_result text) _ _
    (asked_alike configs g h e now (Reconfigure text) same a)
event_alike configs g h e now event same a = asked_alike configs g h e now event same a

later_is : (v : Version) (configs : List Configuration) (g h : History) (e : Noted) (place : ℕ) → IsNoted e
    → is_within (line_limit v) place (line_at v h e) ≡ true
    → later_line v configs g place (line_at v h e) ≡ event_line v configs g (line_in v h e) e.moment e.event
later_is v configs g h e place n fits =
    ap (λ (b : Bool). if b then stated_line v configs g (line_in v h e) (noted_in v (line_in v h e))
    else Err halt.NoLine) fits ∙ ap (stated_line v configs g (line_in v h e)) (back_line v h e n)

begun_alike : (e : Noted) (event : Event) → event ≡ e.event
    → SameStep (Behind [] e) (begun_line version.One (line_in version.One [] e) e.moment event)
    (begun_line version.Two (line_in version.Two [] e) e.moment event)
begun_alike e (Begin offset) same = compared_alike [] [] (entry_at e.moment (Begin offset) (told.Epoch 1)) e
    (agrees_more [] [] e.moment (Begin offset) (told.Epoch 1) e same (refl, refl))
begun_alike e event same = tt

begun_is : (v : Version) (e : Noted) (place : ℕ) → IsNoted e → is_within (line_limit v) place (line_at v [] e) ≡ true
    → first_line v place (line_at v [] e) ≡ begun_line v (line_in v [] e) e.moment e.event
begun_is v e place n fits =
    ap (λ (b : Bool). if b then stated_first v (line_in v [] e) (noted_in v (line_in v [] e)) else Err halt.NoLine) fits
    ∙ ap (stated_first v (line_in v [] e)) (back_line v [] e n)

-- all lines in both versions

-- what the lines of a history come to, before others
abbrev judged_at : Version → List Configuration → History → List SourceLine → Judged
judged_at v configs h ls = judged_first v configs (start_of v) (lines_at v h ++ ls)

abbrev IsBad : Finding → Type 0
IsBad f = (n : ℕ) → f ≡ finding.Verified n → ⊥

halt_bad : (v : Version) (count : ℕ) (line : List ℕ) (x : Halt) → IsBad (found_at v count line x)
halt_bad v count line halt.NoLine = λ n e. absurd (cc)
halt_bad v count line (halt.Differs text) = λ n e. absurd (cc)
halt_bad v count line halt.WantOfMemory = λ n e. absurd (cc)

-- none of both is verified, whatever follows
abbrev AreStopped : List Configuration → History → Type 0
AreStopped configs h = (v : Version) (ls : List SourceLine) → IsBad (judged_at v configs h ls).found

-- or both come to one history
record HaveGone (configs : List Configuration) (h : History) : Type 0 where
  history : History
  agrees : Agrees history h
  goes : (v : Version) (ls : List SourceLine)
      → judged_at v configs h ls ≡ judged_lines v configs history (start_of v + length (lines_in v h)) ls

abbrev AreAlike : List Configuration → History → Type 0
AreAlike configs h = AreStopped configs h ⊎ HaveGone configs h

-- behind a line
abbrev behind_line : Version → List Configuration → History → History → Noted → Result History Halt → List SourceLine
    → Judged
behind_line v configs g h e step ls = go_on v g (line_in v h e) step
    (λ t. judged_lines v configs t (start_of v + length (lines_in v h) + length (line_in v h e) + 1) ls)

line_goes : (v : Version) (configs : List Configuration) (g h t : History) (e : Noted) (step : Result History Halt)
    (ls : List SourceLine) → step ≡ Ok t
    → behind_line v configs g h e step ls ≡ judged_lines v configs t (start_of v + length (lines_in v (e ∷ h))) ls
line_goes v configs g h t e step ls is =
    ap (λ (s : Result History Halt). behind_line v configs g h e s ls) is
    ∙ ap (λ (n : ℕ). judged_lines v configs t n ls) (place_next v h e)

line_stops : (v : Version) (configs : List Configuration) (g h : History) (e : Noted) (x : Halt)
    (step : Result History Halt) (ls : List SourceLine) → step ≡ Err x
    → IsBad (behind_line v configs g h e step ls).found
line_stops v configs g h e x step ls is = subst (λ (s : Result History Halt). IsBad
    (behind_line v configs g h e s ls).found) (sym is) (halt_bad v (length g) (line_in v h e) x)

-- by how the line was judged in each
more_alike : (configs : List Configuration) (g h : History) (e : Noted) (step : Version → Result History Halt)
    (r s : Result History Halt) → step version.One ≡ r → step version.Two ≡ s → SameStep (Behind h e) r s
    → ((v : Version) (ls : List SourceLine) → judged_at v configs (e ∷ h) ls ≡ behind_line v configs g h e (step v) ls)
    → AreAlike configs (e ∷ h)
more_alike configs g h e step (Ok t) (Ok u) one two (same, a) is = inr (record { history = t; agrees = a; goes = goes })
  where
    goes : (v : Version) (ls : List SourceLine)
        → judged_at v configs (e ∷ h) ls ≡ judged_lines v configs t (start_of v + length (lines_in v (e ∷ h))) ls
    goes version.One ls = is version.One ls ∙ line_goes version.One configs g h t e (step version.One) ls one
    goes version.Two ls = is version.Two ls
        ∙ line_goes version.Two configs g h t e (step version.Two) ls (two ∙ ap (λ (x : History). Ok x) (sym same))
more_alike configs g h e step (Err x) (Err y) one two same is = inl stops
  where
    stops : (v : Version) (ls : List SourceLine) → IsBad (judged_at v configs (e ∷ h) ls).found
    stops version.One ls = subst (λ (j : Judged). IsBad j.found) (sym (is version.One ls))
        (line_stops version.One configs g h e x (step version.One) ls one)
    stops version.Two ls = subst (λ (j : Judged). IsBad j.found) (sym (is version.Two ls))
        (line_stops version.Two configs g h e y (step version.Two) ls two)
more_alike configs g h e step (Ok t) (Err y) one two same is = absurd same
more_alike configs g h e step (Err x) (Ok u) one two same is = absurd same

no_place : (v : Version) → start_of v + length (lines_in v []) ≡ start_of v
no_place version.One = refl
no_place version.Two = refl

first_alike : (configs : List Configuration) (e : Noted) → IsNoted e
    → ((v : Version) → is_within (line_limit v) (start_of v + length (lines_in v [])) (line_at v [] e) ≡ true)
    → AreAlike configs (e ∷ [])
first_alike configs e n fits =
    let step = λ (v : Version). first_line v (start_of v + length (lines_in v [])) (line_at v [] e) in
    more_alike configs [] [] e step (begun_line version.One (line_in version.One [] e) e.moment e.event)
    (begun_line version.Two (line_in version.Two [] e) e.moment e.event)
    (begun_is version.One e _ n (fits version.One)) (begun_is version.Two e _ n (fits version.Two))
    (begun_alike e e.event refl)
    (λ v ls. ap (λ (p : ℕ). judged_first v configs p (line_at v [] e ∷ ls)) (sym (no_place v)))

next_alike : (configs : List Configuration) (h : History) (e : Noted) → IsNoted e
    → ((v : Version) → is_within (line_limit v) (start_of v + length (lines_in v h)) (line_at v h e) ≡ true)
    → AreAlike configs h → AreAlike configs (e ∷ h)
next_alike configs h e n fits (inl stopped) =
    inl (λ v ls. subst (λ (x : List SourceLine). IsBad (judged_first v configs (start_of v) x).found)
    (sym (append_assoc (lines_at v h) (line_at v h e ∷ []) ls)) (stopped v (line_at v h e ∷ ls)))
next_alike configs h e n fits (inr gone) =
    let g = gone.history in
    let step = λ (v : Version). later_line v configs g (start_of v + length (lines_in v h)) (line_at v h e) in
    more_alike configs g h e step (event_line version.One configs g (line_in version.One h e) e.moment e.event)
    (event_line version.Two configs g (line_in version.Two h e) e.moment e.event)
    (later_is version.One configs g h e _ n (fits version.One))
    (later_is version.Two configs g h e _ n (fits version.Two))
    (event_alike configs g h e e.moment e.event refl gone.agrees)
    (λ v ls. ap (judged_first v configs (start_of v)) (append_assoc (lines_at v h) (line_at v h e ∷ []) ls)
    ∙ gone.goes v (line_at v h e ∷ ls))

all_alike : (configs : List Configuration) (e : Noted) (h : History) → AreNoted (e ∷ h)
    → ((v : Version) → AreFit v (e ∷ h)) → AreAlike configs (e ∷ h)
all_alike configs e [] noted fits = first_alike configs e noted.1 (λ v. (fits v).1)
all_alike configs e (f ∷ h) noted fits = next_alike configs (f ∷ h) e noted.1 (λ v. (fits v).1)
    (all_alike configs f h noted.0 (λ v. (fits v).0))

-- so one is verified exactly where the other is
found_alike : (configs : List Configuration) (h : History) (n : ℕ) → AreAlike configs h
    → ((judged_at version.One configs h []).found ≡ finding.Verified n)
    ↔ ((judged_at version.Two configs h []).found ≡ finding.Verified n)
found_alike configs h n (inl stopped) = (
  λ e. absurd (stopped version.One [] n e),
  λ e. absurd (stopped version.Two [] n e),
)
found_alike configs h n (inr gone) =
    let one = ap (λ (j : Judged). j.found) (gone.goes version.One []) in
    let two = ap (λ (j : Judged). j.found) (gone.goes version.Two []) in
    (λ e. two ∙ sym one ∙ e, λ e. one ∙ sym two ∙ e)

-- whole texts

abbrev whole_at : Version → Configuration → History → Judged
whole_at v config h = judged_at v (config ∷ held h []) h []

lines_whole : (v : Version) (h : History) → AreNoted h → lines (lines_in v h) ≡ lines_at v h ++ []
lines_whole v h n = ap lines (sym (append-nil (lines_in v h))) ∙ lines_noted v h [] n

configs_whole : (v : Version) (config : Configuration) (h : History) → AreNoted h
    → epochs_of v config (lines_at v h ++ []) ≡ config ∷ held h []
configs_whole v config h n = ap (λ (x : List Configuration). config ∷ x) (named_noted v h [] n)

whole_is : (v : Version) (config : Configuration) (h : History) → AreNoted h
    → judged_first v (epochs_of v config (lines (lines_in v h))) (start_of v) (lines (lines_in v h))
    ≡ whole_at v config h
whole_is v config h n =
    ap (λ (ls : List SourceLine). judged_first v (epochs_of v config ls) (start_of v) ls) (lines_whole v h n)
    ∙ ap (λ (configs : List Configuration). judged_first v configs (start_of v) (lines_at v h ++ []))
    (configs_whole v config h n)

-- the first line of version 1 tells no version
first_plain : (e : Noted) (h : History) → AreNoted (e ∷ h)
    → (l : SourceLine) × (ls : List SourceLine) × (lines_at version.One (e ∷ h) ≡ l ∷ ls) × (is_version_line l ≡ false)
first_plain e [] n = (line_at version.One [] e, [], refl, plain_line version.One [] e n.1)
first_plain e (f ∷ h) n =
    let more = first_plain f h n.0 in (
      more.0,
      more.1 ++ line_at version.One (f ∷ h) e ∷ [],
      ap (λ (ls : List SourceLine). ls ++ line_at version.One (f ∷ h) e ∷ []) more.2,
      more.3,
    )

one_whole : (config : Configuration) (e : Noted) (h : History) → AreNoted (e ∷ h)
    → judged config (lines (written (e ∷ h))) ≡ whole_at version.One config (e ∷ h)
one_whole config e h n =
    let first = first_plain e h n in
    let at : lines (lines_in version.One (e ∷ h)) ≡ lines_at version.One (e ∷ h) = lines_whole version.One (e ∷ h) n
    ∙ append-nil (lines_at version.One (e ∷ h)) in
    one_is config (lines (lines_in version.One (e ∷ h))) first.0 first.1 (at ∙ first.2) first.3
    ∙ whole_is version.One config (e ∷ h) n

two_whole : (config : Configuration) (e : Noted) (h : History) → AreNoted (e ∷ h)
    → judged config (lines (journal_text (e ∷ h))) ≡ whole_at version.Two config (e ∷ h)
two_whole config e h n =
    ap (λ (ls : List SourceLine). judged config ls) (lines_ended (codes "journal 2") (numbered_lines (e ∷ h)) not_end)
    ∙ whole_is version.Two config (e ∷ h) n

texts_alike : (config : Configuration) (e : Noted) (h : History) (n : ℕ) → AreNoted (e ∷ h)
    → ((v : Version) → AreFit v (e ∷ h))
    → ((judged config (lines (written (e ∷ h)))).found ≡ finding.Verified n)
    ↔ ((judged config (lines (journal_text (e ∷ h)))).found ≡ finding.Verified n)
texts_alike config e h n noted fits =
    let one = ap (λ (j : Judged). j.found) (one_whole config e h noted) in
    let two = ap (λ (j : Judged). j.found) (two_whole config e h noted) in
    let same = found_alike (config ∷ held (e ∷ h) []) (e ∷ h) n (all_alike (config ∷ held (e ∷ h) []) e h noted fits) in
    (λ x. two ∙ same.0 (sym one ∙ x), λ x. one ∙ same.1 (sym two ∙ x))

-- a journal of version 1 that was read whole

-- it is the text of its history
record IsRead (h : History) (ls : List SourceLine) (r : History) : Type 0 where
  noted : AreNoted r
  short : AreShort version.One r
  fits : length (written r) ≤ total_limit
  text : written r ≡ written h ++ bytes_of ls
  some : r ≡ [] → ⊥

bytes_first : (a b : List ℕ) → AreBytes (a ++ b) → AreBytes a
bytes_first a b p = λ k d l. subst (λ (x : ℕ). x < 256) (get_or_append_left a b d k l)
    (p k d (omega (arith, l, length-append a b)))

bytes_next : (a b : List ℕ) → AreBytes (a ++ b) → AreBytes b
bytes_next [] b p = p
bytes_next (x ∷ a) b p = bytes_next a b (All-tail (λ c. c < 256) x (a ++ b) p)

bytes_rest : (b : Bool) (rest : List ℕ) → b ≡ true → AreBytes (behind_end b rest) → AreBytes rest
bytes_rest true rest e p = All-tail (λ c. c < 256) 10 rest p
bytes_rest false rest e p = absurd (cc)

some_placed : (b : Bool) (o : Option Noted) (e : Noted) → placed b o ≡ Some e → o ≡ Some e
some_placed b None e is = absurd (cc)
some_placed b (Some x) e is = by (is_in_place b x.event) is
  where
    by : (c : Bool) → (if c then Some x else None) ≡ Some e → Some x ≡ Some e
    by true is = is
    by false is = absurd (none-some e is)

entry_read : (b c : Bool) (words : _) (e : Noted) → (if c then placed b (entry_of words) else None) ≡ Some e
    → (c ≡ true) × (entry_of words ≡ Some e)
entry_read b true words e is = (refl, some_placed b (entry_of words) e is)
entry_read b false words e is = absurd (none-some e is)

within_is : (place : ℕ) (l : SourceLine) → is_readable place l ≡ true
    → (length l.bytes ≤ script_line_limit) × (place + length l.bytes + 1 ≤ total_limit)
within_is place l r =
    let a = (and_parts l.ended
    (nat_le (length l.bytes) script_line_limit && nat_le (place + length l.bytes + 1) total_limit) r).1 in
    let b = and_parts (nat_le (length l.bytes) script_line_limit) (nat_le (place + length l.bytes + 1) total_limit) a in
    (grind (arith, nat_tests, b.0), grind (arith, nat_tests, b.1))

-- behind a line that states an entry
line_read : (h : History) (place : ℕ) (l : SourceLine) (ls : List SourceLine) (e : Noted) (r : History) → AreNoted h
    → AreShort version.One h → place ≡ length (written h) → AreBytes (bytes_of (l ∷ ls)) → line_entry h place l ≡ Some e
    → (AreNoted (e ∷ h) → AreShort version.One (e ∷ h) → place + length l.bytes + 1 ≡ length (written (e ∷ h))
    → place + length l.bytes + 1 ≤ total_limit → AreBytes (bytes_of ls) → IsRead (e ∷ h) ls r)
    → IsRead h (l ∷ ls) r
line_read h place l ls e r noted short at bytes is more =
    let x = entry_read (length h == 0) (is_readable place l) (spaced_words l.bytes) e is in
    let line_bytes = bytes_first l.bytes (behind_end l.ended (bytes_of ls)) bytes in
    let rest_bytes = bytes_rest l.ended (bytes_of ls) (ended script_line_limit place l x.0)
    (bytes_next l.bytes (behind_end l.ended (bytes_of ls)) bytes) in
    let t = entry_takes (spaced_words l.bytes) e (words_bytes l.bytes line_bytes) x.1 in
    let same : entry_text e ≡ l.bytes = ap line_of (sym t.0) ∙ line_again l.bytes in
    let w = within_is place l x.0 in
    let long : length (entry_text e) ≡ length l.bytes = ap (λ (y : List ℕ). length y) same in
    let grown : length (written (e ∷ h)) ≡ length (written h) + (length (entry_text e) + 1) =
    length-append (written h) (entry_text e ++ 10 ∷ [])
    ∙ ap (λ (n : ℕ). length (written h) + n) (length-append (entry_text e) (10 ∷ [])) in
    let here : length (entry_text e) ≤ script_line_limit = let a = w.0 in omega (arith, long, a) in
    let y = more (noted, t.1) (short, here) (omega (arith, at, grown, long)) w.1 rest_bytes in
    record {
      noted = y.noted;
      short = y.short;
      fits = y.fits;
      text = y.text ∙ lines_next version.One h e l ls place x.0 same;
      some = y.some;
    }

next_read : (h : History) (place : ℕ) (l : SourceLine) (ls : List SourceLine) (o : Option Noted)
    (go : History → Reading) → AreNoted h → AreShort version.One h → place ≡ length (written h)
    → AreBytes (bytes_of (l ∷ ls)) → line_entry h place l ≡ o
    → ((e : Noted) → AreNoted (e ∷ h) → AreShort version.One (e ∷ h)
    → place + length l.bytes + 1 ≡ length (written (e ∷ h)) → place + length l.bytes + 1 ≤ total_limit
    → AreBytes (bytes_of ls) → (go (e ∷ h)).whole ≡ true
    → IsRead (e ∷ h) ls (go (e ∷ h)).history) → (with_next h o go).whole ≡ true → IsRead h (l
    ∷ ls) (with_next h o go).history
next_read h place l ls None go noted short at bytes is more whole = absurd (cc)
next_read h place l ls (Some e) go noted short at bytes is more whole =
    line_read h place l ls e (go (e ∷ h)).history noted short at bytes is (λ n s a f b. more e n s a f b whole)

lines_read : (h : History) (place : ℕ) (ls : List SourceLine) → AreNoted h → AreShort version.One h
    → place ≡ length (written h) → place ≤ total_limit → AreBytes (bytes_of ls) → (read_lines h place ls).whole ≡ true
    → IsRead h ls (read_lines h place ls).history
lines_read [] place [] noted short at fits bytes whole = absurd (cc)
lines_read (e ∷ h) place [] noted short at fits bytes whole = record {
  noted = noted;
  short = short;
  fits = omega (arith, at, fits);
  text = sym (append-nil (written (e ∷ h)));
  some = λ x. absurd (cc);
}
lines_read h place (l ∷ ls) noted short at fits bytes whole =
    next_read h place l ls (line_entry h place l) (λ t. read_lines t (place + length l.bytes + 1) ls) noted short
    at bytes refl
    (λ e n s a f b w. lines_read (e ∷ h) (place + length l.bytes + 1) ls n s a f b w) whole

-- its text is that of version 1 of the entries that it states
journal_read : (bytes : List ℕ) → AreBytes bytes → (read_journal (lines bytes)).whole ≡ true
    → IsRead [] (lines bytes) (read_journal (lines bytes)).history
journal_read bytes small whole = lines_read [] 0 (lines bytes) tt tt refl (omega arith)
    (subst AreBytes (sym (lines_back bytes)) small) whole

alike_by : (config : Configuration) (bytes : List ℕ) (n : ℕ) (r : History) → IsRead [] (lines bytes) r
    → AreShort version.Two r → length (journal_text r) ≤ total_limit
    → ((judged config (lines bytes)).found ≡ finding.Verified n)
    ↔ ((judged config (lines (journal_text r))).found ≡ finding.Verified n)
alike_by config bytes n [] x short fits = absurd (x.some refl)
alike_by config bytes n (e ∷ h) x short fits =
    let text : written (e ∷ h) ≡ bytes = x.text ∙ lines_back bytes in
    subst (λ (b : List ℕ). ((judged config (lines b)).found ≡ finding.Verified n)
    ↔ ((judged config (lines (journal_text (e ∷ h)))).found ≡ finding.Verified n)) text
    (texts_alike config e h n x.noted fit)
  where
    fit : (v : Version) → AreFit v (e ∷ h)
    fit version.One = fit_lines version.One (e ∷ h) x.noted x.short (text_fits version.One (e ∷ h) x.fits)
    fit version.Two = fit_lines version.Two (e ∷ h) x.noted short (text_fits version.Two (e ∷ h) fits)

-- where what was written is within the limits, it is verified exactly where the journal is that was read
pub migrated_verified : (config : Configuration) (bytes : List ℕ) (n : ℕ) → AreBytes bytes
    → (read_journal (lines bytes)).whole ≡ true → AreShort version.Two (read_journal (lines bytes)).history
    → length (journal_text (read_journal (lines bytes)).history) ≤ total_limit
    → ((judged config (lines bytes)).found ≡ finding.Verified n)
    ↔ ((judged config (lines (journal_text (read_journal (lines bytes)).history))).found ≡ finding.Verified n)
migrated_verified config bytes n small whole short fits = alike_by config bytes n (read_journal (lines bytes)).history
    (journal_read bytes small whole) short fits
