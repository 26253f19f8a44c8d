-- Numbered entries: what is written of one is read, and nothing else is.
use Rattle.std.proofs.Common.{◌≡◌, ℕ, List, [], ◌∷◌, Some, None, Result, Ok, Err, IfOk, decimal, refl, sym, ap, subst, ◌∙◌, option_map, option_and_then}
use Rattle.std.proofs.lemmas.Option.{same_Some, none-some}
use Rattle.sq_base.proofs.CommonLaws.{then_some, map_some}
use Rattle.sq_base.specs.Texts.{AreBytes}
use Rattle.sq_machine.specs.Entries.{Noted}
use Rattle.sq_rules.specs.Steps.{WordList}
use Rattle.sq_journal.specs.declared.faults.EntryFault.{EntryFault}
use Rattle.sq_journal.specs.declared.faults.EntryFault.TheVariants.{BadEntry, WantOfMemory}
use Rattle.sq_journal.specs.EntryText.{entry_words}
use Rattle.sq_journal.specs.Journals.{numbered_words, numbered_text}
use Rattle.sq_journal.specs.Lines.{spaced_words, line_of}
use Rattle.sq_journal.specs.Reading.{word_in, number_in, ReadsText, Is}
use Rattle.sq_journal.specs.ToldReading.{entry_of, numbered_of, numbered_from}
use Rattle.sq_journal.specs.Values.{IsNumber, IsNoted}
use Rattle.sq_journal.proofs.EntryLaws.{entry_takes, entry_again, entry_plain}
use Rattle.sq_journal.proofs.EventLaws.{number, number_plain}
use Rattle.sq_journal.proofs.FieldLaws.{bind_is}
use Rattle.sq_journal.proofs.LineLaws.{AreWords, line_again, words_again, words_bytes}

-- no words are no entry
pub no_entry : entry_of [] ≡ None
unfolding entry_of word_in
no_entry = refl

-- a number, an epoch and an entry, each within its type
abbrev pub FitNumbered : ℕ × ℕ × Noted → Type 0
FitNumbered y = IsNumber y.0 × IsNumber y.1 × IsNoted y.2

fit_as : (ws : WordList) (n m : ℕ) (e : Noted) (y : ℕ × ℕ × Noted) → y ≡ (n, m, e) → ws ≡ numbered_words n m e
    → IsNumber n → IsNumber m → IsNoted e
    → (ws ≡ numbered_words y.0 y.1 y.2) × FitNumbered y
fit_as ws n m e y same is p q r =
    subst (λ z. (ws ≡ numbered_words z.0 z.1 z.2) × FitNumbered z) (sym same) (is, (p, q, r))

-- words that are read as a numbered entry are its words
numbered_takes : (ws : WordList) (y : ℕ × ℕ × Noted) → AreWords ws → numbered_of ws ≡ Some y
    → (ws ≡ numbered_words y.0 y.1 y.2) × FitNumbered y
unfolding numbered_of
numbered_takes ws y small h =
    let s = then_some (λ n. option_and_then (λ m. option_map (numbered_from n.0 m.0) (entry_of m.1)) (number_in n.1))
    (number_in ws) y h in
    let a = number.takes.of ws s.0 small s.1 in
    let t = then_some (λ m. option_map (numbered_from s.0.0 m.0) (entry_of m.1)) (number_in s.0.1) y s.2 in
    let b = number.takes.of s.0.1 t.0 a.2 t.1 in
    let e = map_some (numbered_from s.0.0 t.0.0) (entry_of t.0.1) y t.2 in
    let c = entry_takes t.0.1 e.0 b.2 e.1 in
    fit_as ws s.0.0 t.0.0 e.0 y e.2
    (a.0 ∙ ap (λ l. decimal s.0.0 ∷ l) (b.0 ∙ ap (λ l. decimal t.0.0 ∷ l) c.0)) a.1 b.1 c.1

-- the words of a numbered entry are read as it
numbered_again : (n m : ℕ) (e : Noted) → IsNumber n → IsNumber m → IsNoted e
    → numbered_of (numbered_words n m e) ≡ Some (n, m, e)
unfolding numbered_of
numbered_again n m e p q h =
    bind_is (number_in (numbered_words n m e)) _ (n, decimal m ∷ entry_words e) _
    (number.again n (decimal m ∷ entry_words e) p)
    (bind_is (number_in (decimal m ∷ entry_words e)) _ (m, entry_words e) _ (number.again m (entry_words e) q)
    (ap (option_map (numbered_from n m)) (entry_again e h)))

numbered_cut : (n m : ℕ) (e : Noted) (line : List ℕ) → IsNumber n → IsNumber m → IsNoted e → line ≡ numbered_text n m e
    → numbered_of (spaced_words line) ≡ Some (n, m, e)
numbered_cut n m e line p q h is =
    let words : spaced_words line ≡ numbered_words n m e =
    ap spaced_words is ∙ words_again (decimal n) (decimal m ∷ entry_words e) (number_plain n p).0
    ((number_plain m q).0, entry_plain e h) in
    ap numbered_of words ∙ numbered_again n m e p q h

numbered_line_takes : (line : List ℕ) (y : ℕ × ℕ × Noted) → AreBytes line → numbered_of (spaced_words line) ≡ Some y
    → IsNumber y.0 × IsNumber y.1 × IsNoted y.2 × (line ≡ numbered_text y.0 y.1 y.2)
numbered_line_takes line y small h =
    let t = numbered_takes (spaced_words line) y (words_bytes line small) h in
    (t.1.0, t.1.1, t.1.2, sym (line_again line) ∙ ap line_of t.0)

-- the clause of what is found of a numbered entry
pub numbered_found : (r : Result (ℕ × ℕ × Noted) EntryFault) (line : List ℕ) → AreBytes line
    → ReadsText r (numbered_of (spaced_words line))
    → IfOk r (λ y. IsNumber y.0 × IsNumber y.1 × IsNoted y.2 × (line ≡ numbered_text y.0 y.1 y.2))
numbered_found (Ok y) line small h = numbered_line_takes line y small h
numbered_found (Err f) line small h = tt

-- the clause that nothing else is read where a numbered entry is printed so
pub numbered_only : (r : Result (ℕ × ℕ × Noted) EntryFault) (line : List ℕ)
    → ReadsText r (numbered_of (spaced_words line))
    → (n m : ℕ) (e : Noted) → IsNumber n → IsNumber m → IsNoted e → line ≡ numbered_text n m e → Is (n, m, e) r
numbered_only (Ok x) line g n m e p q h is = same_Some x (n, m, e) (sym g ∙ numbered_cut n m e line p q h is)
numbered_only (Err BadEntry) line g n m e p q h is = absurd
    (none-some (n, m, e) (sym g ∙ numbered_cut n m e line p q h is))
numbered_only (Err WantOfMemory) line g n m e p q h is = tt

-- no two numbered entries have one text
pub numbered_one : (m n i j : ℕ) (a b : Noted) → IsNumber m → IsNumber n → IsNumber i → IsNumber j → IsNoted a
    → IsNoted b
    → numbered_text m i a ≡ numbered_text n j b → (m ≡ n) × (i ≡ j) × (a ≡ b)
numbered_one m n i j a b p q r s h k e =
    let same = same_Some (m, i, a) (n, j, b)
    (sym (numbered_cut m i a (numbered_text m i a) p r h refl) ∙ numbered_cut n j b (numbered_text m i a) q s k e) in
    (ap (λ y. y.0) same, ap (λ y. y.1) same, ap (λ y. y.2) same)
