-- Entries: what is written of one is read, and nothing else is.
use Rattle.std.proofs.Common.{◌≡◌, ℕ, List, [], ◌∷◌, ◌++◌, Some, None, Result, Ok, Err, IfOk, if◌then◌else◌, codes, decimal, refl, sym, ap, subst, ◌∙◌, append-nil, append_assoc, option_map, option_and_then}
use Rattle.std.proofs.lemmas.Option.{same_Some, none-some}
use Rattle.sq_base.proofs.CommonLaws.{if_some, then_some}
use Rattle.sq_base.specs.NameTables.{beside}
use Rattle.sq_machine.specs.declared.entries.Event.{Event}
use Rattle.sq_machine.specs.Entries.{Noted, is_row}
use Rattle.sq_journal.specs.declared.faults.EntryFault.{EntryFault}
use Rattle.sq_journal.specs.declared.faults.EntryFault.TheVariants.{BadEntry, WantOfMemory}
use Rattle.sq_journal.specs.EntryText.{event_words, told_words, entry_words, entry_text, dated_words, dated_text}
use Rattle.sq_journal.specs.Lines.{spaced_words, line_of, after_spaces}
use Rattle.sq_rules.specs.Steps.{WordList}
use Rattle.sq_journal.specs.Names.{arrow_names}
use Rattle.sq_journal.specs.Reading.{Reads, number_in, event_in, whole, fields2, fields4, dated_of, ReadsText, Is}
use Rattle.sq_journal.specs.ToldReading.{told_in, arrow_in, noted_from, with_row, entry_of}
use Rattle.sq_base.specs.Texts.{AreBytes}
use Rattle.sq_journal.specs.Values.{IsNumber, IsEvent, IsNoted, IsTold}
use Rattle.sq_journal.proofs.AskLaws.{arrow_ends}
use Rattle.sq_journal.proofs.EventLaws.{number, number_plain, event_takes, event_again, event_plain}
use Rattle.sq_journal.proofs.FieldLaws.{◌⊗◌, Any, TakesOnly, Exact, bind_is, one_word, fields2_takes, fields4_takes, name_exact}
use Rattle.sq_journal.proofs.LineLaws.{AreWords, ArePlain, plain_word, plain_both, line_again, words_again, words_bytes, line_joined, both_after}
use Rattle.sq_journal.proofs.ToldLaws.{told_takes, told_again, told_plain}

whole_is : {A : Type 0} (x : A) (ws : WordList) (y : A) → whole (x, ws) ≡ Some y → (x ≡ y) × (ws ≡ [])
whole_is x [] y e = (same_Some x y e, refl)
whole_is x (w ∷ ws) y e = absurd (none-some y e)

-- what was read whole is what was written
whole_takes : {A : Type 0} (read : Reads A) (words : A → WordList) (Fits : A → Type 0) → TakesOnly read words Fits
    → (ws : WordList) (x : A) → AreWords ws → option_and_then whole (read ws) ≡ Some x → (ws ≡ words x) × Fits x
whole_takes read words Fits exact ws x small e =
    let s = then_some whole (read ws) x e in
    let t = exact.of ws s.0 small s.1 in
    let end = whole_is s.0.0 s.0.1 x s.2 in
    (t.0 ∙ ap (λ l. words s.0.0 ++ l) end.1 ∙ append-nil (words s.0.0) ∙ ap words end.0, subst Fits end.0 t.1)

arrow : Exact arrow_in (λ u. codes "=>" ∷ []) Any
arrow = one_word (beside arrow_names) (λ u. codes "=>") Any
    (name_exact arrow_names (λ u. codes "=>") (refl ⊗ tt) (λ u. refl) (λ u. plain_word (codes "=>") refl))

-- the parts of an entry
abbrev FitParts : Noted → Type 0
FitParts e = IsNumber e.moment × IsEvent e.event × IsTold e.answer

parts_takes : TakesOnly (fields4 noted_from number_in event_in arrow_in told_in) entry_words FitParts
parts_takes = record {
  of =
      fields4_takes noted_from _ _ _ number.takes _ _ _ event_takes _ _ _ arrow.takes _ _ _ told_takes [] entry_words
      FitParts
      (λ m e u t. sym (append_assoc (decimal m ∷ event_words e) (codes "=>" ∷ []) (told_words t)))
      (λ m e u t p q r s. (p, q, s));
}

-- words that are read as an entry are its words
pub entry_takes : (ws : WordList) (e : Noted) → AreWords ws → entry_of ws ≡ Some e → (ws ≡ entry_words e) × IsNoted e
unfolding entry_of
entry_takes ws e small h =
    let s = then_some with_row (option_and_then whole (fields4 noted_from number_in event_in arrow_in told_in ws)) e
    h in
    let t = whole_takes (fields4 noted_from number_in event_in arrow_in told_in) entry_words FitParts parts_takes ws s.0
    small s.1 in
    let parts = t.1 in
    let n = if_some (is_row s.0.event s.0.answer) (Some s.0) e s.2 in
    subst (λ z. (ws ≡ entry_words z) × IsNoted z) (same_Some s.0 e n.1) (
      t.0,
      record {
        moment_is = parts.0;
        event_is = parts.1.0;
        answer_is = parts.2;
        entry_is = record { event_is = parts.1.1; row_is = n.0 };
      },
    )

-- an entry's words are read as it
pub entry_again : (e : Noted) → IsNoted e → entry_of (entry_words e) ≡ Some e
unfolding entry_of
entry_again e h =
    let answer = told_words e.answer in
    let rest = event_words e.event ++ codes "=>" ∷ answer in
    let read : fields4 noted_from number_in event_in arrow_in told_in (entry_words e) ≡ Some (e, []) =
    bind_is (number_in (decimal e.moment ∷ rest)) _ (e.moment, rest) _ (number.again e.moment rest h.moment_is)
    (bind_is (event_in rest) _ (e.event, codes "=>" ∷ answer) _
    (event_again e.event (codes "=>" ∷ answer) (h.event_is, h.entry_is.event_is) (arrow_ends answer))
    (bind_is (arrow_in (codes "=>" ∷ answer)) _ (tt, answer) _ (arrow.again tt answer tt)
    (ap (option_map (λ r. (noted_from e.moment e.event tt r.0, r.1))) (told_again e.answer h.answer_is)))) in
    ap (λ o. option_and_then with_row (option_and_then whole o)) read
    ∙ ap (λ t. if t then Some e else None) h.entry_is.row_is

-- a moment and an event
abbrev FitDated : ℕ × Event → Type 0
FitDated y = IsNumber y.0 × IsEvent y.1

dated_parts : TakesOnly (fields2 (λ moment event. (moment, event)) number_in event_in) (λ y. dated_words y.0 y.1)
    FitDated
dated_parts = record {
  of =
      fields2_takes (λ moment event. (moment, event)) _ _ _ number.takes _ _ _ event_takes [] (λ y. dated_words y.0 y.1)
      FitDated (λ m e. refl) (λ m e p q. (p, q));
}

-- the same of a moment and an event
pub dated_takes : (ws : WordList) (y : ℕ × Event) → AreWords ws → dated_of ws ≡ Some y
    → (ws ≡ dated_words y.0 y.1) × IsNumber y.0 × IsEvent y.1
unfolding dated_of
dated_takes ws y small h =
    let t = whole_takes _ _ _ dated_parts ws y small h in
    (t.0, t.1.0, t.1.1)

-- their words are read as they are
pub dated_again : (moment : ℕ) (event : Event) → IsNumber moment → IsEvent event
    → dated_of (dated_words moment event) ≡ Some (moment, event)
unfolding dated_of
dated_again moment event h k =
    let alone : event_in (event_words event) ≡ Some (event, []) = ap event_in (sym (append-nil (event_words event)))
    ∙ event_again event [] k tt in
    ap (option_and_then whole)
    (bind_is (number_in (decimal moment ∷ event_words event)) _ (moment, event_words event) _
    (number.again moment (event_words event) h)
    (ap (option_map (λ r. ((moment, r.0), r.1))) alone))

-- what was read of a line
entry_line_takes : (line : List ℕ) (e : Noted) → AreBytes line → entry_of (spaced_words line) ≡ Some e
    → IsNoted e × (line ≡ entry_text e)
entry_line_takes line e small h =
    let t = entry_takes (spaced_words line) e (words_bytes line small) h in
    (t.1, sym (line_again line) ∙ ap line_of t.0)

-- the clause of what is found of an entry
pub entry_found : (r : Result Noted EntryFault) (line : List ℕ) → AreBytes line
    → ReadsText r (entry_of (spaced_words line)) → IfOk r (λ e. IsNoted e × (line ≡ entry_text e))
entry_found (Ok e) line small h = entry_line_takes line e small h
entry_found (Err f) line small h = tt

-- no word of an entry holds a space
pub entry_plain : (e : Noted) → IsNoted e → ArePlain (entry_words e)
entry_plain e h = (
  (number_plain e.moment h.moment_is).0,
  plain_both (event_words e.event) (codes "=>" ∷ told_words e.answer) (event_plain e.event h.event_is)
      (plain_word (codes "=>") refl, told_plain e.answer h.answer_is),
)

entry_cut : (e : Noted) (line : List ℕ) → IsNoted e → line ≡ entry_text e → entry_of (spaced_words line) ≡ Some e
entry_cut e line h is =
    let plain = entry_plain e h in
    let words : spaced_words line ≡ entry_words e = ap spaced_words is
    ∙ words_again (decimal e.moment) (event_words e.event ++ codes "=>" ∷ told_words e.answer) plain.0 plain.1 in
    ap entry_of words ∙ entry_again e h

-- the clause that nothing else is read where an entry is printed so
pub entry_only : (r : Result Noted EntryFault) (line : List ℕ) → ReadsText r (entry_of (spaced_words line))
    → (e : Noted) → IsNoted e → line ≡ entry_text e → Is e r
entry_only (Ok x) line g e h is = same_Some x e (sym g ∙ entry_cut e line h is)
entry_only (Err BadEntry) line g e h is = absurd (none-some e (sym g ∙ entry_cut e line h is))
entry_only (Err WantOfMemory) line g e h is = tt

-- no two entries have one text
pub entry_one : (a b : Noted) → IsNoted a → IsNoted b → entry_text a ≡ entry_text b → a ≡ b
entry_one a b h k e = same_Some a b (sym (entry_cut a (entry_text a) h refl) ∙ entry_cut b (entry_text a) k e)

dated_line_takes : (line : List ℕ) (y : ℕ × Event) → AreBytes line → dated_of (spaced_words line) ≡ Some y
    → IsNumber y.0 × IsEvent y.1 × (line ≡ dated_text y.0 y.1)
dated_line_takes line y small h =
    let t = dated_takes (spaced_words line) y (words_bytes line small) h in
    (t.1, t.2, sym (line_again line) ∙ ap line_of t.0)

-- the clause of what is found of a moment and an event
pub dated_found : (r : Result (ℕ × Event) EntryFault) (line : List ℕ) → AreBytes line
    → ReadsText r (dated_of (spaced_words line))
    → IfOk r (λ y. IsNumber y.0 × IsEvent y.1 × (line ≡ dated_text y.0 y.1))
dated_found (Ok y) line small h = dated_line_takes line y small h
dated_found (Err f) line small h = tt

dated_cut : (moment : ℕ) (event : Event) (line : List ℕ) → IsNumber moment → IsEvent event
    → line ≡ dated_text moment event → dated_of (spaced_words line) ≡ Some (moment, event)
dated_cut moment event line h k is =
    let words : spaced_words line ≡ dated_words moment event = ap spaced_words is
    ∙ words_again (decimal moment) (event_words event) (number_plain moment h).0 (event_plain event k.0) in
    ap dated_of words ∙ dated_again moment event h k

-- the clause that nothing else is read where they are printed so
pub dated_only : (r : Result (ℕ × Event) EntryFault) (line : List ℕ) → ReadsText r (dated_of (spaced_words line))
    → (moment : ℕ) (event : Event) → IsNumber moment → IsEvent event
    → line ≡ dated_text moment event → Is (moment, event) r
dated_only (Ok x) line g moment event h k is = same_Some x (moment, event) (sym g ∙ dated_cut moment event line h k is)
dated_only (Err BadEntry) line g moment event h k is = absurd
    (none-some (moment, event) (sym g ∙ dated_cut moment event line h k is))
dated_only (Err WantOfMemory) line g moment event h k is = tt

-- no two moments with their events have one text
pub dated_one : (m n : ℕ) (a b : Event) → IsNumber m → IsNumber n → IsEvent a → IsEvent b
    → dated_text m a ≡ dated_text n b → (m ≡ n) × (a ≡ b)
dated_one m n a b p q h k e =
    let same = same_Some (m, a) (n, b)
    (sym (dated_cut m a (dated_text m a) p h refl) ∙ dated_cut n b (dated_text m a) q k e) in
    (ap (λ y. y.0) same, ap (λ y. y.1) same)

-- an entry's text: its moment, and its other words after spaces
pub entry_is : (e : Noted)
    → decimal e.moment ++ (after_spaces (event_words e.event)
    ++ (after_spaces (codes "=>" ∷ []) ++ after_spaces (told_words e.answer))) ≡ entry_text e
entry_is e =
    let event = event_words e.event in
    let answer = told_words e.answer in
    ap (λ l. decimal e.moment ++ l)
    (ap (λ l. after_spaces event ++ l) (sym (both_after (codes "=>" ∷ []) answer))
    ∙ sym (both_after event (codes "=>" ∷ answer)))
    ∙ sym (line_joined (decimal e.moment) (event ++ codes "=>" ∷ answer))
