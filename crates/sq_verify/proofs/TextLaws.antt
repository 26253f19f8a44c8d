-- The bytes of a journal's lines.
use Rattle.std.proofs.Common.{◌≡◌, ℕ, List, [], ◌∷◌, ◌++◌, append_assoc, Bool, true, false, ◌&&◌, nat_le, ◌+◌, length, if◌then◌else◌, bytes_eq, eqb-true, refl, sym, ap, ◌∙◌}
use Rattle.std.proofs.lemmas.Bool.{and_parts}
use Rattle.std.proofs.lemmas.Slice.Eq.{bytes_eq-Decides}
use Rattle.sq_base.specs.Lines.{is_lf}
use Rattle.sq_outside.specs.SourceLines.{SourceLine, is_within, lines, onto, total_limit}
use Rattle.sq_machine.specs.Entries.{History, Noted}
use Rattle.sq_verify.specs.declared.versions.Version.{Version}
use Rattle.sq_verify.specs.declared.versions.Version.TheVariants as version
use Rattle.sq_verify.specs.Audits.{behind_end, bytes_of, lines_in}
use Rattle.sq_verify.specs.JournalLines.{line_in, line_limit}

-- bytes that are tested equal are equal
pub eq_of : (a b : List ℕ) → bytes_eq a b ≡ true → a ≡ b
eq_of a b e = (bytes_eq-Decides a b).0 e

-- lines

onto_back : (b : ℕ) (ls : List SourceLine) → bytes_of (onto b ls) ≡ b ∷ bytes_of ls
onto_back b [] = refl
onto_back b (l ∷ ls) = refl

back_if : (b : ℕ) (bs : List ℕ) (t : Bool) → is_lf b ≡ t → bytes_of (lines bs) ≡ bs
    → bytes_of (if t then record { bytes = []; ended = true } ∷ lines bs else onto b (lines bs)) ≡ b ∷ bs
back_if b bs true is so = ap (λ (xs : List ℕ). 10 ∷ xs) so ∙ ap (λ (x : ℕ). x ∷ bs) (sym (eqb-true b 10 is))
back_if b bs false is so = onto_back b (lines bs) ∙ ap (λ (xs : List ℕ). b ∷ xs) so

-- the lines of some bytes have these bytes
pub lines_back : (bytes : List ℕ) → bytes_of (lines bytes) ≡ bytes
lines_back [] = refl
lines_back (b ∷ bs) = back_if b bs (is_lf b) refl (lines_back bs)

-- the lines of a history with one entry more
pub more_is : (v : Version) (h : History) (e : Noted) → lines_in v (e ∷ h) ≡ lines_in v h ++ (line_in v h e ++ 10 ∷ [])
more_is version.One h e = refl
more_is version.Two h e = refl

-- a line that can be read is ended
pub ended : (limit place : ℕ) (l : SourceLine) → is_within limit place l ≡ true → l.ended ≡ true
ended limit place l r = (and_parts l.ended
    (nat_le (length l.bytes) limit && nat_le (place + length l.bytes + 1) total_limit) r).0

-- the next line is that of the next entry
pub lines_next : (v : Version) (h : History) (e : Noted) (l : SourceLine) (ls : List SourceLine) (place : ℕ)
    → is_within (line_limit v) place l ≡ true → line_in v h e ≡ l.bytes
    → lines_in v (e ∷ h) ++ bytes_of ls ≡ lines_in v h ++ bytes_of (l ∷ ls)
lines_next v h e l ls place r same =
    ap (λ (t : List ℕ). t ++ bytes_of ls) (more_is v h e)
    ∙ append_assoc (lines_in v h) (line_in v h e ++ 10 ∷ []) (bytes_of ls)
    ∙ ap (λ (t : List ℕ). lines_in v h ++ t) (append_assoc (line_in v h e) (10 ∷ []) (bytes_of ls)
    ∙ ap (λ (t : List ℕ). t ++ 10 ∷ bytes_of ls) same
    ∙ ap (λ (b : Bool). l.bytes ++ behind_end b (bytes_of ls)) (sym (ended (line_limit v) place l r)))
