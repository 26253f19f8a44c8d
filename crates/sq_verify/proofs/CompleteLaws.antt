-- A journal that tells a legal history is verified.
use Rattle.std.proofs.Common.{◌≡◌, ℕ, ◌+◌, ◌≤◌, max, List, [], ◌∷◌, ◌++◌, append_assoc, append-nil, length, Bool, true, false, if◌then◌else◌, bytes_eq, codes, Option, Some, IfSome, Result, Ok, Err, refl, sym, ap, subst, ◌∙◌, arith}
use Rattle.std.proofs.lemmas.Slice.Eq.{bytes_eq-Decides}
use Rattle.sq_outside.specs.Holding.{NoEnd}
use Rattle.sq_outside.specs.SourceLines.{SourceLine, lines}
use Rattle.sq_machine.specs.declared.entries.Event.{Event}
use Rattle.sq_machine.specs.declared.entries.Event.TheVariants.{Ask, Begin, Reconfigure}
use Rattle.sq_machine.specs.declared.entries.Told.{Told}
use Rattle.sq_machine.specs.declared.entries.Told.TheVariants as told
use Rattle.sq_rules.specs.declared.kinds.ConfError.{ConfError}
use Rattle.sq_rules.specs.Configurations.{Configuration}
use Rattle.sq_machine.specs.Entries.{History, Noted, entry_at}
use Rattle.sq_machine.specs.Machine.{Legal, next}
use Rattle.sq_machine.specs.Events.{is_begin}
use Rattle.sq_machine.specs.Next.{Next, gives}
use Rattle.sq_machine.specs.Marking.{marked}
use Rattle.sq_machine.specs.Readings.{latest}
use Rattle.sq_journal.specs.Journals.{journal_text, numbered_lines}
use Rattle.sq_replay.specs.RunText.{with_config}
use Rattle.sq_verify.specs.declared.findings.Finding.{Finding}
use Rattle.sq_verify.specs.declared.findings.Finding.TheVariants as finding
use Rattle.sq_verify.specs.declared.halts.Halt.{Halt}
use Rattle.sq_verify.specs.declared.halts.Halt.TheVariants as halt
use Rattle.sq_verify.specs.declared.versions.Version.{Version}
use Rattle.sq_verify.specs.declared.versions.Version.TheVariants as version
use Rattle.sq_verify.specs.Audits.{lines_in, text_of}
use Rattle.sq_verify.specs.JournalLines.{is_version_line, line_in, noted_in}
use Rattle.sq_verify.specs.Judging.{Judged, asked_line, begun_line, compared, epochs_of, event_line, first_line, go_on, if_read, judged, judged_first, judged_lines, judged_one, judged_two, later_line, matched, named_by, named_from, named_in, stated_first, stated_line}
use Rattle.sq_verify.specs.Promised.{Comes, MayFollow}
use Rattle.sq_verify.specs.Tellable.{IsTellable, Verifies, held_by, held_in}
use Rattle.sq_verify.proofs.TextLaws.{more_is}
use Rattle.sq_verify.proofs.ToldLaws.{AreTold, IsTold, place_next, start_of, told_of}

-- the lines of a history's text

-- a line that LF ends stands before the lines of the rest
pub lines_ended : (l rest : List ℕ) → NoEnd l → lines (l ++ 10 ∷ rest) ≡ record { bytes = l; ended = true } ∷ lines rest
lines_ended [] rest h = refl
lines_ended (b ∷ l) rest h = rw (h.0, lines_ended l rest h.1) refl

abbrev pub line_at : Version → History → Noted → SourceLine
line_at v h e = record { bytes = line_in v h e; ended = true }

-- the lines of a history, the oldest first
abbrev pub lines_at : Version → History → List SourceLine
lines_at v [] = []
lines_at v (e ∷ h) = lines_at v h ++ line_at v h e ∷ []

told_last : (v : Version) (e : Noted) (h : History) → AreTold v (e ∷ h) → IsTold v h e
told_last v e [] t = t
told_last v e (f ∷ h) t = t.1

told_rest : (v : Version) (e : Noted) (h : History) → AreTold v (e ∷ h) → AreTold v h
told_rest v e [] t = tt
told_rest v e (f ∷ h) t = t.0

-- behind a history's text stand its lines before those of the rest
lines_are : (v : Version) (h : History) (rest : List ℕ) → AreTold v h
    → lines (lines_in v h ++ rest) ≡ lines_at v h ++ lines rest
lines_are version.One [] rest t = refl
lines_are version.Two [] rest t = refl
lines_are v (e ∷ h) rest t =
    let line = line_in v h e in
    ap (λ (x : List ℕ). lines (x ++ rest)) (more_is v h e)
    ∙ ap lines (append_assoc (lines_in v h) (line ++ 10 ∷ []) rest
    ∙ ap (λ (x : List ℕ). lines_in v h ++ x) (append_assoc line (10 ∷ []) rest))
    ∙ lines_are v h (line ++ 10 ∷ rest) (told_rest v e h t)
    ∙ ap (λ (x : List SourceLine). lines_at v h ++ x) (lines_ended line rest (told_last v e h t).one_line)
    ∙ sym (append_assoc (lines_at v h) (line_at v h e ∷ []) (lines rest))

-- its configurations

held_before : (event : Event) (more : List Configuration) → MayFollow event
    → named_by event more ≡ held_by event ++ more
held_before (Reconfigure text) more may =
    ap (λ (r : Result Configuration ConfError). with_config r more) may.1
    ∙ sym (ap (λ (r : Result Configuration ConfError). with_config r [] ++ more) may.1)
held_before event more may = refl

-- the first holds none
begin_holds : (event : Event) (more : List Configuration) → is_begin event ≡ true
    → named_by event more ≡ held_by event ++ more
begin_holds (Begin offset) more e = refl
begin_holds event more e = absurd (cc)

named_last : (v : Version) (h : History) (e : Noted) (ls : List SourceLine) → IsTold v h e
    → named_by e.event (named_from v ls) ≡ held_by e.event ++ named_from v ls
    → named_from v (line_at v h e ∷ ls) ≡ held_by e.event ++ named_from v ls
named_last v h e ls t holds = ap (λ (o : Option Noted). named_in o (named_from v ls)) t.read_back ∙ holds

named_are : (v : Version) (configs : List Configuration) (h : History) (ls : List SourceLine) → Legal configs h
    → AreTold v h → named_from v (lines_at v h ++ ls) ≡ held_in h ++ named_from v ls
named_are v configs [] ls legal t = refl
named_are v configs (e ∷ []) ls legal t = named_last v [] e ls t (begin_holds e.event (named_from v ls) legal.0)
named_are v configs (e ∷ f ∷ h) ls legal t =
    ap (named_from v) (append_assoc (lines_at v (f ∷ h)) (line_at v (f ∷ h) e ∷ []) ls)
    ∙ named_are v configs (f ∷ h) (line_at v (f ∷ h) e ∷ ls) legal.0 t.0
    ∙ ap (λ (x : List Configuration). held_in (f ∷ h) ++ x)
    (named_last v (f ∷ h) e ls t.1 (held_before e.event (named_from v ls) t.2))
    ∙ sym (append_assoc (held_in (f ∷ h)) (held_by e.event) (named_from v ls))

-- one line

same_bytes : (a : List ℕ) → bytes_eq a a ≡ true
same_bytes a = (bytes_eq-Decides a a).1 refl

compared_same : (v : Version) (h : History) (e : Noted) → compared v h (line_in v h e) e ≡ Ok (e ∷ h)
compared_same v h e = ap (λ (b : Bool). if b then Ok (e ∷ h) else Err (halt.Differs (line_in v h e)))
    (same_bytes (line_in v h e))

greatest : (now late : ℕ) → late ≤ now → max now late ≡ now
greatest now late le = omega (arith, le)

asked_same : (v : Version) (configs : List Configuration) (h : History) (e : Noted) → latest h ≤ e.moment
    → next configs (marked configs h) e.moment e.event ≡ gives e.answer
    → asked_line v configs h (line_in v h e) e.moment e.event ≡ Ok (e ∷ h)
asked_same v configs h e le said =
    ap (λ (now : ℕ). matched v h (line_in v h e) now e.event (next configs (marked configs h) now e.event))
    (greatest e.moment (latest h) le)
    ∙ ap (λ (n : Next). matched v h (line_in v h e) e.moment e.event n) said ∙ compared_same v h e

event_same : (v : Version) (configs : List Configuration) (h : History) (line : List ℕ) (now : ℕ) (event : Event)
    (t : History) → MayFollow event → asked_line v configs h line now event ≡ Ok t
    → event_line v configs h line now event ≡ Ok t
event_same v configs h line now (Begin offset) t may e = absurd may
event_same v configs h line now (Ask conn method target fields) t may e =
    ap (λ (b : Bool). if b then asked_line v configs h line now (Ask conn method target fields) else Err halt.NoLine)
    may ∙ e
event_same v configs h line now (Reconfigure text) t may e =
    ap (λ (r : Result Configuration ConfError). if_read r (asked_line v configs h line now (Reconfigure text))) may.1
    ∙ e
event_same v configs h line now event t may e = e

later_same : (v : Version) (configs : List Configuration) (h : History) (e : Noted) → IsTold v h e → MayFollow e.event
    → latest h ≤ e.moment
    → next configs (marked configs h) e.moment e.event ≡ gives e.answer
    → later_line v configs h (start_of v + length (lines_in v h)) (line_at v h e) ≡ Ok (e ∷ h)
later_same v configs h e t may le said =
    ap (λ (b : Bool). if b then stated_line v configs h (line_in v h e) (noted_in v (line_in v h e))
    else Err halt.NoLine) t.fits
    ∙ ap (stated_line v configs h (line_in v h e)) t.read_back
    ∙ event_same v configs h (line_in v h e) e.moment e.event (e ∷ h) may (asked_same v configs h e le said)

begun_same : (v : Version) (e : Noted) (event : Event) → e.event ≡ event → is_begin event ≡ true
    → e.answer ≡ told.Epoch 1 → begun_line v (line_in v [] e) e.moment event ≡ Ok (e ∷ [])
begun_same v e (Begin offset) same begins answer =
    let is : entry_at e.moment (Begin offset) (told.Epoch 1) ≡ e =
    ap (λ (x : Event). entry_at e.moment x (told.Epoch 1)) (sym same)
    ∙ ap (λ (x : Told). entry_at e.moment e.event x) (sym answer) in
    ap (compared v [] (line_in v [] e)) is ∙ compared_same v [] e
begun_same v e event same begins answer = absurd (cc)

first_same : (v : Version) (e : Noted) → IsTold v [] e → is_begin e.event ≡ true → e.answer ≡ told.Epoch 1
    → first_line v (start_of v + length (lines_in v [])) (line_at v [] e) ≡ Ok (e ∷ [])
first_same v e t begins answer =
    ap (λ (b : Bool). if b then stated_first v (line_in v [] e) (noted_in v (line_in v [] e)) else Err halt.NoLine)
    t.fits
    ∙ ap (stated_first v (line_in v [] e)) t.read_back ∙ begun_same v e e.event refl begins answer

-- all lines

no_lines : (v : Version) → start_of v + length (lines_in v []) ≡ start_of v
no_lines version.One = refl
no_lines version.Two = refl

goes_same : (v : Version) (configs : List Configuration) (h : History) (e : Noted) (ls : List SourceLine)
    (step : Result History Halt) → step ≡ Ok (e ∷ h)
    → go_on v h (line_in v h e) step
    (λ t. judged_lines v configs t (start_of v + length (lines_in v h) + length (line_in v h e) + 1) ls)
    ≡ judged_lines v configs (e ∷ h) (start_of v + length (lines_in v (e ∷ h))) ls
goes_same v configs h e ls step is =
    ap (λ (s : Result History Halt). go_on v h (line_in v h e) s
    (λ t. judged_lines v configs t (start_of v + length (lines_in v h) + length (line_in v h e) + 1) ls)) is
    ∙ ap (λ (n : ℕ). judged_lines v configs (e ∷ h) n ls) (place_next v h e)

-- the lines of a history come to that history, and the judging goes on behind it
comes_to : (v : Version) (configs : List Configuration) (h : History) (ls : List SourceLine) → Legal configs h
    → AreTold v h
    → judged_first v configs (start_of v) (lines_at v h ++ ls)
    ≡ judged_lines v configs h (start_of v + length (lines_in v h)) ls
comes_to v configs [] ls legal t = absurd legal
comes_to v configs (e ∷ []) ls legal t =
    ap (λ (n : ℕ). judged_first v configs n (line_at v [] e ∷ ls)) (sym (no_lines v))
    ∙ goes_same v configs [] e ls (first_line v (start_of v + length (lines_in v [])) (line_at v [] e))
    (first_same v e t legal.0 legal.1)
comes_to v configs (e ∷ f ∷ h) ls legal t =
    ap (judged_first v configs (start_of v)) (append_assoc (lines_at v (f ∷ h)) (line_at v (f ∷ h) e ∷ []) ls)
    ∙ comes_to v configs (f ∷ h) (line_at v (f ∷ h) e ∷ ls) legal.0 t.0
    ∙ goes_same v configs (f ∷ h) e ls
    (later_line v configs (f ∷ h) (start_of v + length (lines_in v (f ∷ h))) (line_at v (f ∷ h) e))
    (later_same v configs (f ∷ h) e t.1 t.2 legal.3 legal.4)

-- whole journals

-- its lines, over its configurations
all_verified : (config : Configuration) (v : Version) (h : History) → Legal (config ∷ held_in h) h → AreTold v h
    → (judged_first v (epochs_of v config (lines (lines_in v h))) (start_of v) (lines (lines_in v h))).found
    ≡ finding.Verified (length h)
all_verified config v h legal told =
    let at : lines (lines_in v h) ≡ lines_at v h ++ [] = ap lines (sym (append-nil (lines_in v h)))
    ∙ lines_are v h [] told in
    let configs : epochs_of v config (lines (lines_in v h)) ≡ config ∷ held_in h =
    ap (epochs_of v config) at
    ∙ ap (λ (xs : List Configuration). config ∷ xs)
    (named_are v (config ∷ held_in h) h [] legal told ∙ append-nil (held_in h)) in
    ap (λ (cs : List Configuration). (judged_first v cs (start_of v) (lines (lines_in v h))).found) configs
    ∙ ap (λ (ls : List SourceLine). (judged_first v (config ∷ held_in h) (start_of v) ls).found) at
    ∙ ap (λ (j : Judged). j.found) (comes_to v (config ∷ held_in h) h [] legal told)

-- the first line of version 1 tells no version
first_is : (h : History) (configs : List Configuration) → Legal configs h → AreTold version.One h
    → (l : SourceLine) × (ls : List SourceLine) × (lines_at version.One h ≡ l ∷ ls) × (is_version_line l ≡ false)
first_is [] configs legal t = absurd legal
first_is (e ∷ []) configs legal t = (line_at version.One [] e, [], refl, t.plain)
first_is (e ∷ f ∷ h) configs legal t =
    let more = first_is (f ∷ h) configs legal.0 t.0 in (
      more.0,
      more.1 ++ line_at version.One (f ∷ h) e ∷ [],
      ap (λ (ls : List SourceLine). ls ++ line_at version.One (f ∷ h) e ∷ []) more.2,
      more.3,
    )

pub one_is : (config : Configuration) (ls : List SourceLine) (l : SourceLine) (more : List SourceLine) → ls ≡ l ∷ more
    → is_version_line l ≡ false → judged config ls ≡ judged_one config ls
one_is config ls l more is none =
    subst (λ (xs : List SourceLine). judged config xs ≡ judged_one config xs) (sym is)
    (ap (λ (b : Bool). if b then judged_two config l more else judged_one config (l ∷ more)) none)

pub not_end : NoEnd (codes "journal 2")
not_end = (refl, (refl, (refl, (refl, (refl, (refl, (refl, (refl, (refl, tt)))))))))

text_is : (h : History) (configs : List Configuration) → Legal configs h
    → journal_text h ≡ codes "journal 2" ++ 10 ∷ numbered_lines h
text_is [] configs legal = absurd legal
text_is (e ∷ h) configs legal = refl

-- a journal that tells a legal history is verified
pub verified_text : (config : Configuration) (v : Version) (h : History) → IsTellable config v h
    → (judged config (lines (text_of v h))).found ≡ finding.Verified (length h)
verified_text config version.One h t =
    let told = told_of version.One h t.noted t.may t.short t.fits in
    let first = first_is h (config ∷ held_in h) t.legal told in
    let at : lines (lines_in version.One h) ≡ lines_at version.One h =
    ap lines (sym (append-nil (lines_in version.One h))) ∙ lines_are version.One h [] told
    ∙ append-nil (lines_at version.One h) in
    ap (λ (j : Judged). j.found) (one_is config (lines (lines_in version.One h)) first.0 first.1 (at ∙ first.2) first.3)
    ∙ all_verified config version.One h t.legal told
verified_text config version.Two h t =
    ap (λ (bytes : List ℕ). (judged config (lines bytes)).found) (text_is h (config ∷ held_in h) t.legal)
    ∙ ap (λ (ls : List SourceLine). (judged config ls).found)
    (lines_ended (codes "journal 2") (numbered_lines h) not_end)
    ∙ all_verified config version.Two h t.legal (told_of version.Two h t.noted t.may t.short t.fits)

-- so it is found, unless a fault comes before
found_verifies : (j : Judged) (n : ℕ) (f : Finding) → j.found ≡ finding.Verified n → Comes j f → Verifies f n
found_verifies j n (finding.Verified count) is comes = let same : finding.Verified count ≡ finding.Verified n =
    sym comes ∙ is in cc
found_verifies j n (finding.Script line) is comes = absurd
    (let same : finding.Script line ≡ finding.Verified n = sym comes ∙ is in cc)
found_verifies j n (finding.Differs line machine journal) is comes =
    absurd (let same : finding.Differs line machine journal ≡ finding.Verified n = sym comes ∙ is in cc)
found_verifies j n finding.ReadFault is comes = tt
found_verifies j n finding.WantOfMemory is comes = tt

-- what is found of a journal that tells a legal history
pub told_verifies : (config : Configuration) (left : Option (List ℕ)) (f : Finding) (v : Version) (h : History)
    → IfSome left (λ bytes. Comes (judged config (lines bytes)) f) → IsTellable config v h → left ≡ Some (text_of v h)
    → Verifies f (length h)
told_verifies config left f v h comes t is =
    found_verifies (judged config (lines (text_of v h))) (length h) f (verified_text config v h t)
    (subst (λ (o : Option (List ℕ)). IfSome o (λ bytes. Comes (judged config (lines bytes)) f)) is comes)
