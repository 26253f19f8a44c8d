-- The text of a history whose entries are values of their types and whose lines are within the limits:
-- each line is read back as its entry.
use Rattle.std.proofs.Common.{◌≡◌, ℕ, ◌+◌, ◌<◌, ◌≤◌, List, [], ◌∷◌, ◌++◌, length, length-append, true, false, ◌&&◌, nat_le, nat_eq, bytes_eq, codes, decimal, All, Option, Some, None, Ok, Err, refl, ap, ◌∙◌, arith, option_map}
use Rattle.std.proofs.lemmas.Bool.Decides.{nat_tests}
use Rattle.std.proofs.lemmas.Fmt.{decimal_is_IsNumeral}
use Rattle.std.proofs.lemmas.List.Elements.{All-from_get_or, All-head}
use Rattle.std.proofs.lemmas.Str.Parse.{digit_at}
use Rattle.std.specs.Int.{IsInRange}
use Rattle.sq_outside.specs.Holding.{NoEnd}
use Rattle.sq_outside.specs.SourceLines.{is_within, total_limit}
use Rattle.sq_machine.specs.Entries.{History, Noted}
use Rattle.sq_journal.specs.declared.faults.EntryFault.TheVariants.{BadEntry}
use Rattle.sq_journal.specs.EntryText.{entry_text, entry_words, event_words, told_words}
use Rattle.sq_journal.specs.Journals.{epoch_at, number_at, numbered_text, version_line}
use Rattle.sq_journal.specs.Lines.{after_spaces, line_of, spaced_words}
use Rattle.sq_journal.specs.ToldReading.{entry_of, numbered_of}
use Rattle.sq_journal.specs.Values.{IsNoted, IsNumber}
use Rattle.sq_journal.proofs.EntryLaws.{entry_again, entry_plain}
use Rattle.sq_journal.proofs.LineLaws.{line_joined, words_again}
use Rattle.sq_journal.proofs.NumberedLaws.{numbered_only}
use Rattle.sq_verify.specs.declared.versions.Version.{Version}
use Rattle.sq_verify.specs.declared.versions.Version.TheVariants as version
use Rattle.sq_verify.specs.Audits.{lines_in, text_of}
use Rattle.sq_verify.specs.JournalLines.{entry_in, line_in, line_limit, noted_in}
use Rattle.sq_verify.specs.Promised.{MayFollow}
use Rattle.sq_verify.specs.Tellable.{AreNoted, AreShort, MayStand}
use Rattle.sq_verify.proofs.EndLaws.{entry_open, numbered_open}
use Rattle.sq_verify.proofs.TextLaws.{more_is}

-- how many bytes stand before the line of the first entry
abbrev pub start_of : Version → ℕ
start_of version.One = 0
start_of version.Two = length version_line

-- the line of an entry behind this history is one line, and not the one that tells version 2;
-- it is read back as that entry, and is within the limits where it stands
pub record IsTold (v : Version) (h : History) (e : Noted) : Type 0 where
  pub one_line : NoEnd (line_in v h e)
  pub plain : bytes_eq (line_in v h e) (codes "journal 2") ≡ false
  pub read_back : noted_in v (line_in v h e) ≡ Some e
  pub fits : is_within (line_limit v) (start_of v + length (lines_in v h))
      (record { bytes = line_in v h e; ended = true }) ≡ true

-- so it is of each line, and behind the first entry each event may follow
abbrev pub AreTold : Version → History → Type 0
AreTold v [] = Unit {0}
AreTold v (e ∷ []) = IsTold v [] e
AreTold v (e ∷ f ∷ h) = AreTold v (f ∷ h) × IsTold v (f ∷ h) e × MayFollow e.event

-- numbers

number_fits : (h : History) → IsNumber (number_at h)
number_fits h = omega arith

epoch_fits : (h : History) → IsNumber (epoch_at h)
epoch_fits h = omega arith

-- one line

pub open_line : (v : Version) (h : History) (e : Noted) → IsNoted e → NoEnd (line_in v h e)
open_line version.One h e n = entry_open e n
open_line version.Two h e n = numbered_open (number_at (e ∷ h)) (epoch_at (e ∷ h)) e (number_fits (e ∷ h))
    (epoch_fits (e ∷ h)) n

-- its first word is a number, and no word `journal`
digits_first : (w rest : List ℕ) → All (λ b. IsInRange 48 57 b) w → 0 < length w
    → bytes_eq (w ++ rest) (codes "journal 2") ≡ false
digits_first [] rest h some = absurd (omega (arith, some))
digits_first (b ∷ bs) rest h some =
    let head : IsInRange 48 57 b = All-head (λ c. IsInRange 48 57 c) b bs h in
    let first : nat_eq b 106 ≡ false = grind (arith, nat_tests) in
    rw first refl

no_version : (n : ℕ) (ws : _) → IsNumber n → bytes_eq (line_of (decimal n ∷ ws)) (codes "journal 2") ≡ false
no_version n ws h =
    let numeral = decimal_is_IsNumeral n (omega (arith, h)) in
    ap (λ (t : List ℕ). bytes_eq t (codes "journal 2")) (line_joined (decimal n) ws)
    ∙ digits_first (decimal n) (after_spaces ws)
    (All-from_get_or (λ b. IsInRange 48 57 b) (decimal n) 0 (λ i l. digit_at (decimal n) i numeral.0.1 l))
    (omega (arith, numeral.0.0))

pub plain_line : (v : Version) (h : History) (e : Noted) → IsNoted e
    → bytes_eq (line_in v h e) (codes "journal 2") ≡ false
plain_line version.One h e n = no_version e.moment (event_words e.event ++ codes "=>" ∷ told_words e.answer) n.moment_is
plain_line version.Two h e n = no_version (number_at (e ∷ h)) (decimal (epoch_at (e ∷ h)) ∷ entry_words e)
    (number_fits (e ∷ h))

entry_back : (e : Noted) → IsNoted e → entry_of (spaced_words (entry_text e)) ≡ Some e
entry_back e n =
    let plain = entry_plain e n in
    ap entry_of (words_again (decimal e.moment) (event_words e.event ++ codes "=>" ∷ told_words e.answer) plain.0
    plain.1) ∙ entry_again e n

numbered_by : (number epoch : ℕ) (e : Noted) (o : Option (ℕ × ℕ × Noted))
    → numbered_of (spaced_words (numbered_text number epoch e)) ≡ o → IsNumber number → IsNumber epoch → IsNoted e
    → option_map entry_in o ≡ Some e
numbered_by number epoch e None is p q n = absurd
    (numbered_only (Err BadEntry) (numbered_text number epoch e) is number epoch e p q n refl)
numbered_by number epoch e (Some y) is p q n =
    ap (λ (x : ℕ × ℕ × Noted). Some x.2)
    (numbered_only (Ok y) (numbered_text number epoch e) is number epoch e p q n refl)

pub back_line : (v : Version) (h : History) (e : Noted) → IsNoted e → noted_in v (line_in v h e) ≡ Some e
back_line version.One h e n = entry_back e n
back_line version.Two h e n =
    numbered_by (number_at (e ∷ h)) (epoch_at (e ∷ h)) e
    (numbered_of (spaced_words (numbered_text (number_at (e ∷ h)) (epoch_at (e ∷ h)) e))) refl (number_fits (e ∷ h))
    (epoch_fits (e ∷ h)) n

-- behind a line
pub place_next : (v : Version) (h : History) (e : Noted)
    → start_of v + length (lines_in v h) + length (line_in v h e) + 1 ≡ start_of v + length (lines_in v (e ∷ h))
place_next v h e =
    let same : length (lines_in v (e ∷ h)) ≡ length (lines_in v h) + (length (line_in v h e) + 1) =
    ap (λ (x : List ℕ). length x) (more_is v h e) ∙ length-append (lines_in v h) (line_in v h e ++ 10 ∷ [])
    ∙ ap (λ (n : ℕ). length (lines_in v h) + n) (length-append (line_in v h e) (10 ∷ [])) in
    omega (arith, same)

within_by : (n limit end : ℕ) → n ≤ limit → end ≤ total_limit → nat_le n limit && nat_le end total_limit ≡ true
within_by n limit end short fits = grind (arith, nat_tests)

pub told_line : (v : Version) (h : History) (e : Noted) → IsNoted e → length (line_in v h e) ≤ line_limit v
    → start_of v + length (lines_in v (e ∷ h)) ≤ total_limit → IsTold v h e
told_line v h e n short fits = record {
  one_line = open_line v h e n;
  plain = plain_line v h e n;
  read_back = back_line v h e n;
  fits = within_by (length (line_in v h e)) (line_limit v)
      (start_of v + length (lines_in v h) + length (line_in v h e) + 1) short (omega (arith, place_next v h e, fits));
}

-- all lines

told_lines : (v : Version) (h : History) → AreNoted h → MayStand h → AreShort v h
    → start_of v + length (lines_in v h) ≤ total_limit → AreTold v h
told_lines v [] noted may short fits = tt
told_lines v (e ∷ []) noted may short fits = told_line v [] e noted.1 short.1 fits
told_lines v (e ∷ f ∷ h) noted may short fits = (
  told_lines v (f ∷ h) noted.0 may.0 short.0 (omega (arith, place_next v (f ∷ h) e, fits)),
  told_line v (f ∷ h) e noted.1 short.1 fits,
  may.1,
)

pub text_fits : (v : Version) (h : History) → length (text_of v h) ≤ total_limit
    → start_of v + length (lines_in v h) ≤ total_limit
text_fits version.One h fits = omega (arith, fits)
text_fits version.Two [] fits = omega arith
text_fits version.Two (e ∷ h) fits = omega (arith, length-append version_line (lines_in version.Two (e ∷ h)), fits)

-- the lines of a history are told where its entries are values of their types and its text is within the limits
pub told_of : (v : Version) (h : History) → AreNoted h → MayStand h → AreShort v h → length (text_of v h) ≤ total_limit
    → AreTold v h
told_of v h noted may short fits = told_lines v h noted may short (text_fits v h fits)
