-- The text of a journal of version 2, entry by entry.
use Rattle.std.proofs.Common.{◌≡◌, ℕ, ◌<◌, min, List, [], ◌∷◌, ◌++◌, Bool, true, false, ◌==◌, if◌then◌else◌, refl, sym, ap, ◌∙◌, append_assoc, subst, arith}
use Rattle.std.specs.declared.option.Option.{Option}
use Rattle.std.specs.Io.KnownBytes.{Appends}
use Rattle.std.proofs.KnownBytes.{Appends-trans}
use Rattle.sq_outside.specs.Output.{Grew, IsPrefix, IsProperPrefix}
use Rattle.sq_outside.proofs.Writing.{IsProperPrefix_after, IsPrefix_refl, IsPrefix_more}
use Rattle.sq_machine.specs.Entries.{Noted, History}
use Rattle.sq_machine.specs.Events.{begins_epoch}
use Rattle.sq_machine.specs.Readings.{current, epoch_after}
use Rattle.sq_journal.specs.Journals.{version_line, numbered_lines, numbered_line, next_number, greatest_number, number_at, epoch_at, journal_text}
use Rattle.sq_journal.specs.Sinks.{epoch_behind, line_after, HasWritten, IsCutIn, has_stopped}
use Rattle.sq_journal.specs.declared.sink_journal.SinkJournal.{SinkJournal}

not_zero : (n : ℕ) → 0 < n → (n == 0) ≡ false
not_zero n h = grind (arith, h)

-- the next entry's number
pub number_next : (e : Noted) (h : History) → number_at (e ∷ h) ≡ next_number (number_at h)
number_next e h = omega arith

epoch_by : (b : Bool) (r : ℕ)
    → min (epoch_after b r) greatest_number ≡ (if b then next_number (min r greatest_number) else min r greatest_number)
epoch_by true r = omega arith
epoch_by false r = refl

-- the next entry's epoch
pub epoch_next : (e : Noted) (h : History) → epoch_at (e ∷ h) ≡ epoch_behind (epoch_at h) e.event
epoch_next e h = epoch_by (begins_epoch e.event) (current h)

-- the text of a journal with one entry more
pub text_next : (e : Noted) (h : History)
    → journal_text (e ∷ h) ≡ journal_text h ++ line_after (number_at h == 0) (number_at (e ∷ h)) (epoch_at (e ∷ h)) e
text_next e [] = refl
text_next e (d ∷ h) =
    let line = numbered_line (number_at (e ∷ d ∷ h)) (epoch_at (e ∷ d ∷ h)) e in
    sym (append_assoc version_line (numbered_lines (d ∷ h)) line)
    ∙ ap (λ b. journal_text (d ∷ h) ++ (if b then version_line ++ line else line))
    (sym (not_zero (number_at (d ∷ h)) (omega arith)))

-- the same, by the number and the epoch of the entry before
pub text_after : (e : Noted) (h : History) (number epoch : ℕ) → number ≡ number_at h → epoch ≡ epoch_at h
    → journal_text (e ∷ h) ≡ journal_text h
    ++ line_after (number == 0) (next_number number) (epoch_behind epoch e.event) e
text_after e h number epoch p q =
    text_next e h ∙ ap (λ n. journal_text h ++ line_after (number_at h == 0) n (epoch_at (e ∷ h)) e) (number_next e h)
    ∙ ap (λ m. journal_text h ++ line_after (number_at h == 0) (next_number (number_at h)) m e) (epoch_next e h)
    ∙ ap (λ n. journal_text h ++ line_after (n == 0) (next_number n) (epoch_behind (epoch_at h) e.event) e) (sym p)
    ∙ ap (λ m. journal_text h ++ line_after (number == 0) (next_number number) (epoch_behind m e.event) e) (sym q)

-- the text of the first entries begins the whole
pub text_begins : (later first : History) → IsPrefix (journal_text first) (journal_text (later ++ first))
text_begins [] first = IsPrefix_refl (journal_text first)
text_begins (e ∷ later) first =
    subst (IsPrefix (journal_text first)) (sym (text_next e (later ++ first)))
    (IsPrefix_more (journal_text first) (journal_text (later ++ first)) _ (text_begins later first))

-- the text with an entry's line, by its number and its epoch
text_by : (e : Noted) (h : History) (number epoch n m : ℕ) → number ≡ number_at h → epoch ≡ epoch_at h
    → n ≡ next_number number → m ≡ epoch_behind epoch e.event
    → journal_text h ++ line_after (number == 0) n m e ≡ journal_text (e ∷ h)
text_by e h number epoch n m p q r s =
    ap (λ k. journal_text h ++ line_after (number == 0) k m e) r
    ∙ ap (λ k. journal_text h ++ line_after (number == 0) (next_number number) k e) s
    ∙ sym (text_after e h number epoch p q)

-- an entry's line was written
pub holds_next : {S : Type 0} (start a b : Option (List ℕ)) (j k : SinkJournal S) (h : History) (e : Noted) (n m : ℕ)
    → HasWritten start a j h
    → n ≡ next_number j.number → m ≡ epoch_behind j.epoch e.event → has_stopped k ≡ false → k.number ≡ n → k.epoch ≡ m
    → Appends a b (line_after (j.number == 0) n m e) → HasWritten start b k (e ∷ h)
holds_next start a b j k h e n m at r s going number epoch wrote = record {
  going = going;
  number_is = number ∙ r ∙ ap next_number at.number_is ∙ sym (number_next e h);
  epoch_is = epoch ∙ s ∙ ap (λ x. epoch_behind x e.event) at.epoch_is ∙ sym (epoch_next e h);
  wrote = subst (Appends start b) (text_by e h j.number j.epoch n m at.number_is at.epoch_is r s)
      (Appends-trans start a b (journal_text h) _ at.wrote wrote);
}

-- a part of an entry's line was written
pub holds_cut : {S : Type 0} (start a b : Option (List ℕ)) (j : SinkJournal S) (h : History) (e : Noted) (n m : ℕ)
    → HasWritten start a j h
    → n ≡ next_number j.number → m ≡ epoch_behind j.epoch e.event
    → Grew a b (λ part. IsProperPrefix part (line_after (j.number == 0) n m e)) → Grew start b (IsCutIn h e)
holds_cut start a b j h e n m at r s (part, grew, short) = (
  journal_text h ++ part,
  Appends-trans start a b (journal_text h) part at.wrote grew,
  record {
    part = part;
    bytes_are = refl;
    short = subst (IsProperPrefix (journal_text h ++ part))
        (text_by e h j.number j.epoch n m at.number_is at.epoch_is r s)
        (IsProperPrefix_after (journal_text h) part _ short);
  },
)
