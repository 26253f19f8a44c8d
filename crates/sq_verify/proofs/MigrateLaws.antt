-- A journal of version 1, read line by line.
use Rattle.std.proofs.Common.{◌≡◌, ◌⊎◌, inl, inr, ℕ, ◌+◌, ◌<◌, ◌≤◌, List, [], ◌∷◌, ◌++◌, length, true, false, ◌==◌, if◌then◌else◌, Some, None, IfSome, IfErr, IsErrOf, OnOk, Result, Ok, Err, refl, sym, ap, ◌∙◌, append_assoc, subst, arith}
use Rattle.std.specs.declared.option.Option.{Option}
use Rattle.std.specs.Io.KnownBytes.{IsAtEnd, prepend_known}
use Rattle.sq_outside.specs.Output.{IsPrefix}
use Rattle.sq_outside.specs.SourceLines.{SourceLine, lines, IsLine, Finds}
use Rattle.sq_outside.specs.declared.lines.LineFound.TheVariants as found
use Rattle.sq_machine.specs.Entries.{Noted, History}
use Rattle.sq_journal.specs.Journals.{epoch_at, greatest_number, journal_text, next_number, number_at, numbered_lines, numbered_text, version_line}
use Rattle.sq_journal.specs.Lines.{spaced_words}
use Rattle.sq_journal.specs.ToldReading.{entry_of}
use Rattle.sq_journal.specs.Sinks.{epoch_behind, line_after}
use Rattle.sq_journal.proofs.JournalLaws.{text_after, text_begins, epoch_next}
use Rattle.sq_replay.specs.Runs.{EndsLine, Wrote, WroteFront, WroteLines, WrotePart}
use Rattle.sq_replay.specs.declared.page.Unwritten.{Unwritten}
use Rattle.sq_replay.specs.declared.page.Unwritten.TheVariants as untold
use Rattle.sq_replay.proofs.LoopLaws.{front_more, part_more}
use Rattle.sq_verify.specs.Migrating.{Reading, placed, line_entry, with_next, at_end, read_lines, read_journal, PutsEntry, PutsText, ReadSoFar, Migrates, MigratesLine, first_behind}
use Rattle.sq_verify.specs.Promised.{StaysKnown}
use Rattle.sq_verify.specs.declared.migrating.MigrateFault.{MigrateFault}
use Rattle.sq_verify.specs.declared.migrating.MigrateFault.TheVariants as fault

-- texts on a page

-- a line was put on the page
pub puts_line : (old new : Option (List ℕ)) (page now line : List ℕ) (r : Result (Unit {0}) Unwritten)
    → OnOk r ((base : Option (List ℕ)) (text : List ℕ) → Wrote base old page text → Wrote base new now (text ++ line))
    → (IsErrOf r untold.Failed → (base : Option (List ℕ)) (text : List ℕ) → Wrote base old page text
    → WrotePart base new (text ++ line))
    → (IsErrOf r untold.WantOfMemory → (base : Option (List ℕ)) (text : List ℕ) → Wrote base old page text
    → WroteFront base new now (text ++ line)) → PutsText old new page now r line
puts_line old new page now line (Ok u) ok failed memory = ok
puts_line old new page now line (Err untold.Failed) ok failed memory = failed refl
puts_line old new page now line (Err untold.WantOfMemory) ok failed memory = memory refl

-- a line behind one that was put there
pub puts_then : (old mid new : Option (List ℕ)) (page between now first next : List ℕ) (r : Result (Unit {0}) Unwritten)
    → PutsText old mid page between (Ok tt) first → PutsText mid new between now r next
    → PutsText old new page now r (first ++ next)
puts_then old mid new page between now first next (Ok u) a b =
    λ base text w. subst (Wrote base new now) (append_assoc text first next) (b base (text ++ first) (a base text w))
puts_then old mid new page between now first next (Err untold.Failed) a b =
    λ base text w. subst (WrotePart base new) (append_assoc text first next) (b base (text ++ first) (a base text w))
puts_then old mid new page between now first next (Err untold.WantOfMemory) a b =
    λ base text w. subst (WroteFront base new now) (append_assoc text first next)
    (b base (text ++ first) (a base text w))

begins_both : (text first next : List ℕ) → IsPrefix (text ++ first) (text ++ (first ++ next))
begins_both text first next = (next, sym (append_assoc text first next))

-- the first of two was not put there
pub puts_stops : (old new : Option (List ℕ)) (page now first next : List ℕ) (f : Unwritten)
    → PutsText old new page now (Err f) first → PutsText old new page now (Err f) (first ++ next)
puts_stops old new page now first next untold.Failed a = λ base text w. part_more base new (text ++ first)
    (text ++ (first ++ next)) (begins_both text first next) (a base text w)
puts_stops old new page now first next untold.WantOfMemory a =
    λ base text w. front_more base new now (text ++ first) (text ++ (first ++ next)) (begins_both text first next)
    (a base text w)

-- what was put there, as the line of an entry
pub puts_named : (old new : Option (List ℕ)) (page now : List ℕ) (r : Result (Unit {0}) Unwritten)
    (count epoch next : ℕ) (e : Noted) (text : List ℕ) → text ≡ numbered_text (count + 1) next e
    → next ≡ epoch_behind epoch e.event
    → PutsText old new page now r (first_behind (count == 0) (text ++ 10 ∷ []))
    → PutsText old new page now r (line_after (count == 0) (count + 1) (epoch_behind epoch e.event) e)
puts_named old new page now r count epoch next e text text_is next_is puts =
    subst (λ (m : ℕ). PutsText old new page now r (line_after (count == 0) (count + 1) m e)) next_is
    (subst (λ (t : List ℕ). PutsText old new page now r (first_behind (count == 0) (t ++ 10 ∷ []))) text_is puts)

-- what a line comes to, by its entry
pub line_by : (old new : Option (List ℕ)) (page now : List ℕ) (count epoch : ℕ) (line : List ℕ) (e : Noted)
    (r : Result ℕ MigrateFault) → placed (count == 0) (entry_of (spaced_words line)) ≡ Some e
    → PutsEntry old new page now count epoch e r → MigratesLine old new page now count epoch line r
line_by old new page now count epoch line e (Ok next) some put = (e, some, put)
line_by old new page now count epoch line e (Err (fault.Script number)) some put = absurd put
line_by old new page now count epoch line e (Err fault.ReadFault) some put = absurd put
line_by old new page now count epoch line e (Err fault.WriteFault) some put = (e, some, put)
line_by old new page now count epoch line e (Err fault.WantOfMemory) some put = inr (e, some, put)

-- the text of a journal is whole lines
text_ends : (h : History) → EndsLine (journal_text h)
text_ends [] = inl refl
text_ends (e ∷ h) =
    let text = numbered_text (number_at (e ∷ h)) (epoch_at (e ∷ h)) e in
    inr (
      version_line ++ (numbered_lines h ++ text),
      ap (λ l. version_line ++ l) (sym (append_assoc (numbered_lines h) text (10 ∷ [])))
          ∙ sym (append_assoc version_line (numbered_lines h ++ text) (10 ∷ [])),
    )

-- reading

-- the entries so far are the first of all
on_grows : (h : History) (o : Option Noted) (go : History → Reading)
    → ((t : History) → (later : History) × ((go t).history ≡ later ++ t))
    → (later : History) × ((with_next h o go).history ≡ later ++ h)
on_grows h None go grows = ([], refl)
on_grows h (Some e) go grows =
    let g = grows (e ∷ h) in
    (g.0 ++ e ∷ [], g.1 ∙ sym (append_assoc g.0 (e ∷ []) h))

end_grows : (h : History) → (at_end h).history ≡ h
end_grows [] = refl
end_grows (e ∷ h) = refl

pub history_grows : (h : History) (place : ℕ) (ls : List SourceLine)
    → (later : History) × ((read_lines h place ls).history ≡ later ++ h)
history_grows h place [] = ([], end_grows h)
history_grows h place (l ∷ ls) =
    on_grows h (line_entry h place l) (λ t. read_lines t (place + length l.bytes + 1) ls)
    (λ t. history_grows t (place + length l.bytes + 1) ls)

-- nothing is read yet
pub going_begins : (now before : Option (List ℕ)) (page : List ℕ)
    → IfSome before (λ bytes. (base : Option (List ℕ)) → Wrote base now page []
    → ReadSoFar base (prepend_known [] before) now page 0 1 0 (read_journal (lines bytes)))
going_begins now None page = tt
going_begins now (Some bytes) page = λ base w. record {
  history = [];
  bytes = bytes;
  left_is = refl;
  count_is = refl;
  epoch_is = refl;
  wrote = w;
  same = refl;
}

-- the source is at its end
ends_at : (base left now : Option (List ℕ)) (page : List ℕ) (count epoch place : ℕ) (read : Reading)
    (g : ReadSoFar base left now page count epoch place read) → g.bytes ≡ [] → read ≡ at_end g.history
ends_at base left now page count epoch place read g e = sym g.same ∙ ap (λ b. read_lines g.history place (lines b)) e

found_in : (base left now after : Option (List ℕ)) (page : List ℕ) (count epoch place : ℕ) (read : Reading)
    (line : List ℕ) (f : _) (g : ReadSoFar base left now page count epoch place read) → Finds place left after line f
    → Finds place (Some g.bytes) after line f
found_in base left now after page count epoch place read line f g finds =
    subst (λ l. Finds place l after line f) g.left_is finds

ended : (base now : Option (List ℕ)) (page : List ℕ) (read : Reading) (h : History) → read ≡ at_end h → (h ≡ [] → ⊥)
    → Wrote base now page (journal_text h) → (read.whole ≡ true) × Wrote base now page (journal_text read.history)
ended base now page read [] is some wrote = absurd (some refl)
ended base now page read (e ∷ h) is some wrote = rw is (refl, wrote)

-- and there was an entry
pub going_end : (base left now after : Option (List ℕ)) (page : List ℕ) (count epoch place : ℕ) (read : Reading)
    (line : List ℕ) → (count ≡ 0 → ⊥) → ReadSoFar base left now page count epoch place read
    → Finds place left after line found.End
    → (read.whole ≡ true) × Wrote base now page (journal_text read.history)
going_end base left now after page count epoch place read line some g finds =
    let is = ends_at base left now page count epoch place read g
    (found_in base left now after page count epoch place read line found.End g finds).0 in
    ended base now page read g.history is (λ e. some (g.count_is ∙ ap length e)) g.wrote

empty : (base now : Option (List ℕ)) (page : List ℕ) (read : Reading) (h : History) → read ≡ at_end h → length h ≡ 0
    → Wrote base now page (journal_text h)
    → (read.whole ≡ false) × (1 ≡ length read.history + 1) × Wrote base now page (journal_text read.history)
empty base now page read [] is none wrote = rw is (refl, refl, wrote)
empty base now page read (e ∷ h) is none wrote = absurd (omega (arith, none))

-- and there was none
pub going_none : (base left now after : Option (List ℕ)) (page : List ℕ) (count epoch place : ℕ) (read : Reading)
    (line : List ℕ) → count ≡ 0 → ReadSoFar base left now page count epoch place read
    → Finds place left after line found.End
    → (read.whole ≡ false) × (1 ≡ length read.history + 1) × Wrote base now page (journal_text read.history)
going_none base left now after page count epoch place read line none g finds =
    let is = ends_at base left now page count epoch place read g
    (found_in base left now after page count epoch place read line found.End g finds).0 in
    empty base now page read g.history is (sym g.count_is ∙ none) g.wrote

-- a line is no entry
refused : (base now : Option (List ℕ)) (page : List ℕ) (read : Reading) (h : History) (count : ℕ)
    → read ≡ record { history = h; whole = false } → count ≡ length h → Wrote base now page (journal_text h)
    → (read.whole ≡ false) × (count + 1 ≡ length read.history + 1) × Wrote base now page (journal_text read.history)
refused base now page read h count is n wrote = rw is (refl, ap (λ k. k + 1) n, wrote)

-- a line cannot be read
pub going_faulty : (base left now after : Option (List ℕ)) (page : List ℕ) (count epoch place : ℕ) (read : Reading)
    (line : List ℕ) → ReadSoFar base left now page count epoch place read → Finds place left after line found.Faulty
    → (read.whole ≡ false) × (count + 1 ≡ length read.history + 1) × Wrote base now page (journal_text read.history)
going_faulty base left now after page count epoch place read line g finds =
    let f = found_in base left now after page count epoch place read line found.Faulty g finds in
    let go : History → Reading = λ t. read_lines t (place + length f.line.bytes + 1) f.rest in
    let is : read ≡ record { history = g.history; whole = false } =
    sym g.same ∙ ap (read_lines g.history place) f.first
    ∙ ap (λ b. with_next g.history
    (if b then placed (length g.history == 0) (entry_of (spaced_words f.line.bytes)) else None) go) f.faulty in
    refused base now page read g.history count is g.count_is g.wrote

-- what reading a line that can be read comes to
stepped : (base left now after : Option (List ℕ)) (page : List ℕ) (count epoch place : ℕ) (read : Reading)
    (line : List ℕ) (g : ReadSoFar base left now page count epoch place read)
    → (f : IsLine place g.bytes after line)
    → with_next g.history (placed (count == 0) (entry_of (spaced_words line)))
    (λ t. read_lines t (place + length line + 1) (lines f.rest)) ≡ read
stepped base left now after page count epoch place read line g f =
    let go : History → Reading = λ t. read_lines t (place + length line + 1) (lines f.rest) in
    ap (λ n. with_next g.history (placed (n == 0) (entry_of (spaced_words line))) go) g.count_is
    ∙ ap (λ b. with_next g.history (if b then placed (length g.history == 0) (entry_of (spaced_words line)) else None)
    go) (sym f.readable)
    ∙ ap (read_lines g.history place) (sym f.first) ∙ g.same

-- a line that can be read is no entry in its place
pub going_refused : (base left now after : Option (List ℕ)) (page : List ℕ) (count epoch place : ℕ) (read : Reading)
    (line : List ℕ) → ReadSoFar base left now page count epoch place read → Finds place left after line found.Whole
    → placed (count == 0) (entry_of (spaced_words line)) ≡ None
    → (read.whole ≡ false) × (count + 1 ≡ length read.history + 1) × Wrote base now page (journal_text read.history)
going_refused base left now after page count epoch place read line g finds none =
    let f = found_in base left now after page count epoch place read line found.Whole g finds in
    let is : read ≡ record { history = g.history; whole = false } =
    sym (stepped base left now after page count epoch place read line g f)
    ∙ ap (λ o. with_next g.history o (λ t. read_lines t (place + length line + 1) (lines f.rest))) none in
    refused base now page read g.history count is g.count_is g.wrote

-- what was read so far begins the whole
begins_whole : (base left now : Option (List ℕ)) (page : List ℕ) (count epoch place : ℕ) (read : Reading)
    → (g : ReadSoFar base left now page count epoch place read)
    → IsPrefix (journal_text g.history) (journal_text read.history)
begins_whole base left now page count epoch place read g =
    let grows = history_grows g.history place (lines g.bytes) in
    subst (λ (h : History). IsPrefix (journal_text g.history) (journal_text h))
    (sym (sym (ap (λ r. r.history) g.same) ∙ grows.1)) (text_begins grows.0 g.history)

-- a read failed before its end
pub going_lines : (base left now : Option (List ℕ)) (page : List ℕ) (count epoch place : ℕ) (read : Reading)
    → ReadSoFar base left now page count epoch place read
    → WroteLines base now page (journal_text read.history)
going_lines base left now page count epoch place read g = record {
  front = journal_text g.history;
  begins = begins_whole base left now page count epoch place read g;
  lines = text_ends g.history;
  wrote = g.wrote;
}

-- memory ran out before its end
pub going_front : (base left now : Option (List ℕ)) (page : List ℕ) (count epoch place : ℕ) (read : Reading)
    → ReadSoFar base left now page count epoch place read
    → WroteFront base now page (journal_text read.history)
going_front base left now page count epoch place read g = record {
  front = journal_text g.history;
  begins = begins_whole base left now page count epoch place read g;
  wrote = g.wrote;
}

-- nothing was put on the page
front_kept : (base left now new : Option (List ℕ)) (page filled : List ℕ) (count epoch place : ℕ) (read : Reading)
    → new ≡ now → filled ≡ page → ReadSoFar base left now page count epoch place read
    → WroteFront base new filled (journal_text read.history)
front_kept base left now new page filled count epoch place read same kept g =
    subst (λ (p : List ℕ). WroteFront base new p (journal_text read.history)) (sym kept)
    (subst (λ c. WroteFront base c page (journal_text read.history)) (sym same)
    (going_front base left now page count epoch place read g))

number_is : (count : ℕ) (h : History) → count ≡ length h → count + 1 ≤ greatest_number
    → (count ≡ number_at h) × (count + 1 ≡ next_number count)
number_is count h e less = (omega (arith, e, less), omega (arith, less))

-- the text with the line of a line's entry
text_with : (base left now : Option (List ℕ)) (page : List ℕ) (count epoch place : ℕ) (read : Reading) (e : Noted)
    → count + 1 ≤ greatest_number → (g : ReadSoFar base left now page count epoch place read)
    → journal_text g.history ++ line_after (count == 0) (count + 1) (epoch_behind epoch e.event) e
    ≡ journal_text (e ∷ g.history)
text_with base left now page count epoch place read e less g =
    let n = number_is count g.history g.count_is less in
    ap (λ k. journal_text g.history ++ line_after (count == 0) k (epoch_behind epoch e.event) e) n.1
    ∙ sym (text_after e g.history count epoch n.0 g.epoch_is)

-- what reading goes on to with a line's entry
same_next : (base left now after : Option (List ℕ)) (page : List ℕ) (count epoch place : ℕ) (read : Reading)
    (line : List ℕ) (e : Noted) (g : ReadSoFar base left now page count epoch place read)
    → (f : IsLine place g.bytes after line) → placed (count == 0) (entry_of (spaced_words line)) ≡ Some e
    → read_lines (e ∷ g.history) (place + length line + 1) (lines f.rest) ≡ read
same_next base left now after page count epoch place read line e g f some =
    ap (λ o. with_next g.history o (λ t. read_lines t (place + length line + 1) (lines f.rest))) (sym some)
    ∙ stepped base left now after page count epoch place read line g f

-- the text with the line of a line's entry begins the whole
begins_next : (base left now after : Option (List ℕ)) (page : List ℕ) (count epoch place : ℕ) (read : Reading)
    (line : List ℕ) (e : Noted) → count + 1 ≤ greatest_number
    → (g : ReadSoFar base left now page count epoch place read) → Finds place left after line found.Whole
    → placed (count == 0) (entry_of (spaced_words line)) ≡ Some e
    → IsPrefix (journal_text g.history ++ line_after (count == 0) (count + 1) (epoch_behind epoch e.event) e)
    (journal_text read.history)
begins_next base left now after page count epoch place read line e less g finds some =
    let f = found_in base left now after page count epoch place read line found.Whole g finds in
    let grows = history_grows (e ∷ g.history) (place + length line + 1) (lines f.rest) in
    let is : read.history ≡ grows.0 ++ e ∷ g.history =
    sym (ap (λ r. r.history) (same_next base left now after page count epoch place read line e g f some)) ∙ grows.1 in
    subst (λ (t : List ℕ). IsPrefix t (journal_text read.history))
    (sym (text_with base left now page count epoch place read e less g))
    (subst (λ (h : History). IsPrefix (journal_text (e ∷ g.history)) (journal_text h)) (sym is)
    (text_begins grows.0 (e ∷ g.history)))

-- what holds where something is told, by what follows from it
pub told_map : {A : Type 0} (o : Option A) (P Q : A → Type 0) → ((x : A) → P x → Q x) → IfSome o P → IfSome o Q
told_map None P Q f p = tt
told_map (Some x) P Q f p = f x p

-- the same of what holds since every place where nothing was written yet
pub told_based : {A : Type 0} (o : Option A) (Starts : Option (List ℕ) → Type 0) (P Q : A → Option (List ℕ) → Type 0)
    → ((x : A) (base : Option (List ℕ)) → P x base → Q x base)
    → IfSome o (λ x. (base : Option (List ℕ)) → Starts base → P x base)
    → IfSome o (λ x. (base : Option (List ℕ)) → Starts base → Q x base)
told_based None Starts P Q f p = tt
told_based (Some x) Starts P Q f p = λ base starts. f x base (p base starts)

-- the source is at its end, behind so many entries
pub going_ended : (base left now after : Option (List ℕ)) (page : List ℕ) (count epoch place : ℕ) (read : Reading)
    (line : List ℕ) (r : Result (Unit {0}) MigrateFault)
    → OnOk r (0 < count) → IfErr r (λ f. (f ≡ fault.Script 1) × (count ≡ 0)) → Finds place left after line found.End
    → ReadSoFar base left now page count epoch place read → Migrates base now page read r
going_ended base left now after page count epoch place read line (Ok u) some none finds g =
    going_end base left now after page count epoch place read line (λ e. omega (arith, some, e)) g finds
going_ended base left now after page count epoch place read line (Err f) some none finds g =
    subst (λ x. Migrates base now page read (Err x)) (sym none.0)
    (going_none base left now after page count epoch place read line none.1 g finds)

-- what is left behind bytes that are held, where nothing is: nothing
pub left_at_end : (held : List ℕ) (left : Option (List ℕ)) → IsAtEnd (prepend_known held left) → IsAtEnd left
left_at_end held None e = tt
left_at_end [] (Some bytes) e = e
left_at_end (b ∷ held) (Some bytes) e = absurd cc

-- nothing is held at first
pub nothing_held : (left : Option (List ℕ)) → StaysKnown left (prepend_known [] left)
nothing_held None = tt
nothing_held (Some bytes) = (bytes, refl)

-- where it holds whatever the answer
pub on_ok : {A E : Type 0} (P : Type 0) (r : Result A E) → P → OnOk r P
on_ok P (Ok v) p = p
on_ok P (Err e) p = tt

-- memory ran out before a line's text, or in its midst
going_wants : (base left now after new : Option (List ℕ)) (page filled : List ℕ) (count epoch place : ℕ)
    (read : Reading) (line : List ℕ) (e : Noted) → count + 1 ≤ greatest_number
    → Finds place left after line found.Whole → placed (count == 0) (entry_of (spaced_words line)) ≡ Some e
    → (g : ReadSoFar base left now page count epoch place read)
    → ((new ≡ now) × (filled ≡ page))
    ⊎ PutsText now new page filled (Err untold.WantOfMemory)
    (line_after (count == 0) (count + 1) (epoch_behind epoch e.event) e)
    → WroteFront base new filled (journal_text read.history)
going_wants base left now after new page filled count epoch place read line e less finds some g (inl (same, kept)) =
    front_kept base left now new page filled count epoch place read same kept g
going_wants base left now after new page filled count epoch place read line e less finds some g (inr put) =
    front_more base new filled
    (journal_text g.history ++ line_after (count == 0) (count + 1) (epoch_behind epoch e.event) e)
    (journal_text read.history)
    (begins_next base left now after page count epoch place read line e less g finds some)
    (put base (journal_text g.history) g.wrote)

-- a line ended the migration
pub going_stops : (base left now after new : Option (List ℕ)) (page filled : List ℕ) (count epoch place : ℕ)
    (read : Reading) (line : List ℕ) (f : MigrateFault) → count + 1 ≤ greatest_number
    → Finds place left after line found.Whole → MigratesLine now new page filled count epoch line (Err f)
    → ReadSoFar base left now page count epoch place read → Migrates base new filled read (Err f)
going_stops base left now after new page filled count epoch place read line (fault.Script number) less finds step g =
    let r = going_refused base left now after page count epoch place read line g finds step.0 in (
      r.0,
      step.1 ∙ r.1,
      subst (λ (p : List ℕ). Wrote base new p (journal_text read.history)) (sym step.3)
          (subst (λ c. Wrote base c page (journal_text read.history)) (sym step.2) r.2),
    )
going_stops base left now after new page filled count epoch place read line fault.ReadFault less finds step g =
    absurd step.2
going_stops base left now after new page filled count epoch place read line fault.WriteFault less finds step g =
    part_more base new (journal_text g.history
    ++ line_after (count == 0) (count + 1) (epoch_behind epoch step.0.event) step.0) (journal_text read.history)
    (begins_next base left now after page count epoch place read line step.0 less g finds step.1)
    (step.2 base (journal_text g.history) g.wrote)
going_stops base left now after new page filled count epoch place read line fault.WantOfMemory less finds
    (inl (same, kept)) g = front_kept base left now new page filled count epoch place read same kept g
going_stops base left now after new page filled count epoch place read line fault.WantOfMemory less finds (inr step) g =
    going_wants base left now after new page filled count epoch place read line step.0 less finds step.1 g step.2

-- a line's entry was written, or is on the page
pub going_on : (base left now after new : Option (List ℕ)) (page filled : List ℕ) (count epoch place behind next : ℕ)
    (read : Reading) (line : List ℕ) → count + 1 ≤ greatest_number
    → Finds place left after line found.Whole → behind ≡ place + length line + 1
    → MigratesLine now new page filled count epoch line (Ok next) → ReadSoFar base left now page count epoch place read
    → ReadSoFar base after new filled (count + 1) next behind read
going_on base left now after new page filled count epoch place behind next read line less finds moved step g =
    let e = step.0 in
    let put = step.2 in
    let f = found_in base left now after page count epoch place read line found.Whole g finds in
    record {
      history = e ∷ g.history;
      bytes = f.rest;
      left_is = f.left;
      count_is = omega (arith, g.count_is);
      epoch_is = put.0 ∙ ap (λ m. epoch_behind m e.event) g.epoch_is ∙ sym (epoch_next e g.history);
      wrote = subst (Wrote base new filled) (text_with base left now page count epoch place read e less g)
          (put.1 base (journal_text g.history) g.wrote);
      same = ap (λ p. read_lines (e ∷ g.history) p (lines f.rest)) moved
          ∙ same_next base left now after page count epoch place read line e g f step.1;
    }
