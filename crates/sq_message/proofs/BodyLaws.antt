-- A body a byte at a time, and in pieces.
use Rattle.std.proofs.Common.{◌≡◌, ℕ, ◌-◌, ◌<◌, ◌≤◌, Bool, true, false, ◌&&◌, if◌then◌else◌, ◌==◌, nat_lt, List, [], ◌∷◌, ◌++◌, length, take, drop, refl, sym, ap, subst, ◌∙◌, ⊎_elim, arith, append_assoc, append-nil, length-append, take-append-drop}
use Rattle.std.proofs.lemmas.Bool.{cases_lt}
use Rattle.std.proofs.lemmas.List.{drop_at}
use Rattle.httparse.specs.Grammar.{ChunkLine, IsChunkLine, print_chunk_line, chunk_size, HasNoChunkLine, NeverHasChunkLine, MayBecomeChunkLine}
use Rattle.httparse.specs.Spans.{IsChunkLineAt}
use Rattle.sq_message.specs.declared.body_state.BodyState.{BodyState}
use Rattle.sq_message.specs.declared.body_state.BodyState.TheVariants.{Plain, Open, Line, Data, Refused}
use Rattle.sq_message.specs.Bodies.{line_limit, ByteStep, quiet, sized, open_line, lined, step, is_whole_body, is_refused, Walk, after, halted, walk}
use Rattle.sq_message.specs.ChunkLines.{LineSoFar, Start, Digits, Blank, Extension, Closing, Whole, Never, chunk_line_walk, chunk_line_of}
use Rattle.sq_message.specs.Feeding.{may_be_whole, is_sound_line}
use Rattle.sq_message.proofs.LineLaws.{chunk_line_walk_append, chunk_line_walk_one, chunk_line_walk_cons, chunk_line_walk_none, never_walk, whole_walk, chunk_line_of_more, line_whole, line_read, line_may}

-- two parts written one after the other are one part
pub after_after : (g h : List ℕ) (w : Walk) → after g (after h w) ≡ after (g ++ h) w
after_after g h w = ap (λ o. record { place = w.place; out = o; rest = w.rest }) (sym (append_assoc g h w.out))

-- the first byte of a body that goes on, and the rest
pub walk_one : (c : Bool) (p : BodyState) (b : ℕ) (bs : List ℕ) → is_whole_body p ≡ false → is_refused p ≡ false
    → walk c p (b ∷ bs) ≡ after (step c p b).out (walk c (step c p b).place bs)
unfolding walk
walk_one c p b bs d r = rw d (rw r refl)

-- with no byte a body stands where it stood
pub walk_none : (c : Bool) (p : BodyState) → walk c p [] ≡ halted p []
unfolding walk
walk_none c p = refl

-- what is refused stays so, and writes nothing
pub walk_refused : (c : Bool) (bs : List ℕ) → walk c Refused bs ≡ halted Refused []
unfolding walk
walk_refused c [] = refl
walk_refused c (b ∷ bs) = refl

-- what is complete takes no byte
pub walk_done : (c : Bool) (p : BodyState) (bs : List ℕ) → is_whole_body p ≡ true → walk c p bs ≡ halted p bs
unfolding walk
walk_done c p [] d = refl
walk_done c p (b ∷ bs) d = rw d refl

-- bytes that go out as they are
pub copy_plain : (c : Bool) (front rest : List ℕ) (n : ℕ) → length front ≤ n
    → walk c (Plain n) (front ++ rest) ≡ after front (walk c (Plain (n - length front)) rest)
copy_plain c [] rest n few = ap (λ k. walk c (Plain k) rest) (omega arith)
copy_plain c (b ∷ fs) rest n few =
    let some : (n == 0) ≡ false = grind arith in
    walk_one c (Plain n) b (fs ++ rest) some refl
    ∙ ap (after (b ∷ [])) (copy_plain c fs rest (n - 1) (omega arith))
    ∙ ap (λ k. after (b ∷ fs) (walk c (Plain k) rest)) (omega arith)

-- the same up to the close
pub copy_open : (c : Bool) (front rest : List ℕ) → walk c Open (front ++ rest) ≡ after front (walk c Open rest)
copy_open c [] rest = refl
copy_open c (b ∷ fs) rest = walk_one c Open b (fs ++ rest) refl refl ∙ ap (after (b ∷ [])) (copy_open c fs rest)

-- the same in a chunk
pub copy_data : (c : Bool) (front rest : List ℕ) (n : ℕ) → length front ≤ n
    → walk c (Data n) (front ++ rest) ≡ after front (walk c (Data (n - length front)) rest)
copy_data c [] rest n few = ap (λ k. walk c (Data k) rest) (omega arith)
copy_data c (b ∷ fs) rest n few =
    let some : (n == 0) ≡ false = grind arith in
    let at : step c (Data n) b ≡ record { place = Data (n - 1); out = b ∷ [] } = rw some refl in
    walk_one c (Data n) b (fs ++ rest) refl refl
    ∙ ap (λ s. after (ByteStep.out s) (walk c (ByteStep.place s) (fs ++ rest))) at
    ∙ ap (after (b ∷ [])) (copy_data c fs rest (n - 1) (omega arith))
    ∙ ap (λ k. after (b ∷ fs) (walk c (Data k) rest)) (omega arith)

-- a state from which a line becomes whole by some bytes is open
open_before : (s : LineSoFar) (x : ℕ) (xs : List ℕ) (m : ℕ) → chunk_line_walk s (x ∷ xs) ≡ Whole m
    → may_be_whole s ≡ true
open_before Start x xs m h = refl
open_before (Digits c n) x xs m h = refl
open_before (Blank n) x xs m h = refl
open_before (Extension n) x xs m h = refl
open_before (Closing n) x xs m h = refl
open_before (Whole n) x xs m h = let e : Never ≡ Whole m = sym (whole_walk n x xs) ∙ h in absurd cc
open_before Never x xs m h = let e : Never ≡ Whole m = sym (never_walk (x ∷ xs)) ∙ h in absurd cc

open_lined : (c : Bool) (text : List ℕ) (s : LineSoFar) → may_be_whole s ≡ true → lined c text s ≡ open_line text
open_lined c text Start h = refl
open_lined c text (Digits n m) h = refl
open_lined c text (Blank n) h = refl
open_lined c text (Extension n) h = refl
open_lined c text (Closing n) h = refl
open_lined c text (Whole n) h = absurd cc
open_lined c text Never h = absurd cc

line_at : (c : Bool) (text : List ℕ) (b : ℕ) (bs : List ℕ) (s : ByteStep)
    → lined c (text ++ b ∷ []) (chunk_line_of (text ++ b ∷ [])) ≡ s
    → walk c (Line text) (b ∷ bs) ≡ after s.out (walk c s.place bs)
line_at c text b bs s e = walk_one c (Line text) b bs refl refl
    ∙ ap (λ s. after (ByteStep.out s) (walk c (ByteStep.place s) bs)) e

longer : (text fs : List ℕ) (b : ℕ) → length ((text ++ b ∷ []) ++ fs) ≡ length (text ++ b ∷ fs)
longer text fs b = ap length (append_assoc text (b ∷ []) fs)

-- bytes with which a line becomes whole
pub line_front : (c : Bool) (text front rest : List ℕ) (m : ℕ) → may_be_whole (chunk_line_of text) ≡ true
    → chunk_line_walk (chunk_line_of text) front ≡ Whole m → length (text ++ front) ≤ line_limit
    → walk c (Line text) (front ++ rest) ≡ after (sized c m).out (walk c (sized c m).place rest)
line_front c text [] rest m op h few =
    let e : chunk_line_of text ≡ Whole m = sym (chunk_line_walk_none (chunk_line_of text)) ∙ h in
    let f : false ≡ true = sym (ap may_be_whole e) ∙ op in
    absurd cc
line_front c text (b ∷ []) rest m op h few =
    let e : chunk_line_of (text ++ b ∷ []) ≡ Whole m = chunk_line_of_more text b
    ∙ sym (chunk_line_walk_one (chunk_line_of text) b) ∙ h in
    line_at c text b rest (sized c m) (ap (lined c (text ++ b ∷ [])) e)
line_front c text (b ∷ x ∷ fs) rest m op h few =
    let next = text ++ b ∷ [] in
    let h2 : chunk_line_walk (chunk_line_of next) (x ∷ fs) ≡ Whole m =
    ap (λ s. chunk_line_walk s (x ∷ fs)) (chunk_line_of_more text b)
    ∙ sym (chunk_line_walk_cons (chunk_line_of text) b (x ∷ fs)) ∙ h in
    let op2 : may_be_whole (chunk_line_of next) ≡ true = open_before (chunk_line_of next) x fs m h2 in
    let room : length next < line_limit = omega (arith, length-append text (b ∷ []), length-append text (b ∷ x ∷ fs)) in
    let test : nat_lt (length next) line_limit ≡ true = grind arith in
    let at : lined c next (chunk_line_of next) ≡ quiet (Line next) = open_lined c next (chunk_line_of next) op2
    ∙ rw test refl in
    line_at c text b (x ∷ fs ++ rest) (quiet (Line next)) at
    ∙ line_front c next (x ∷ fs) rest m op2 h2 (omega (arith, longer text (x ∷ fs) b))

-- where a line that is not whole stands
unfoldable pub stood : List ℕ → BodyState
stood text = if is_sound_line text then Line text else Refused

-- no front of the bytes makes the line whole
pub NoneWhole : List ℕ → List ℕ → Type 0
NoneWhole text piece = (front more : List ℕ) (m : ℕ) → piece ≡ front ++ more → chunk_line_of (text ++ front) ≡ Whole m
    → ⊥

quiet_if : (t : Bool) (p q : BodyState) → (if t then quiet p else quiet q) ≡ quiet (if t then p else q)
quiet_if true p q = refl
quiet_if false p q = refl

still_lined : (c : Bool) (text : List ℕ) (s : LineSoFar) → ((m : ℕ) → s ≡ Whole m → ⊥)
    → lined c text s ≡ quiet (if may_be_whole s && nat_lt (length text) line_limit then Line text else Refused)
still_lined c text Start none = quiet_if (nat_lt (length text) line_limit) (Line text) Refused
still_lined c text (Digits n m) none = quiet_if (nat_lt (length text) line_limit) (Line text) Refused
still_lined c text (Blank n) none = quiet_if (nat_lt (length text) line_limit) (Line text) Refused
still_lined c text (Extension n) none = quiet_if (nat_lt (length text) line_limit) (Line text) Refused
still_lined c text (Closing n) none = quiet_if (nat_lt (length text) line_limit) (Line text) Refused
still_lined c text (Whole n) none = absurd (none n refl)
still_lined c text Never none = refl

shut_never : (s : LineSoFar) → may_be_whole s ≡ false → ((m : ℕ) → s ≡ Whole m → ⊥) → s ≡ Never
shut_never Start h none = absurd cc
shut_never (Digits n m) h none = absurd cc
shut_never (Blank n) h none = absurd cc
shut_never (Extension n) h none = absurd cc
shut_never (Closing n) h none = absurd cc
shut_never (Whole n) h none = absurd (none n refl)
shut_never Never h none = refl

-- what never becomes a line never does with more
never_stood : (text more : List ℕ) → chunk_line_of text ≡ Never → stood (text ++ more) ≡ Refused
unfolding stood
never_stood text more h =
    let e : chunk_line_of (text ++ more) ≡ Never = chunk_line_walk_append Start text more
    ∙ ap (λ s. chunk_line_walk s more) h ∙ never_walk more in
    ap (λ s. if may_be_whole s && nat_lt (length (text ++ more)) line_limit then Line (text ++ more) else Refused) e

stood_by : (t : Bool) (c : Bool) (text : List ℕ) (b x : ℕ) (fs rest : List ℕ)
    → may_be_whole (chunk_line_of (text ++ b ∷ [])) ≡ t
    → ((m : ℕ) → chunk_line_of (text ++ b ∷ []) ≡ Whole m → ⊥) → length (text ++ b ∷ x ∷ fs) ≤ line_limit
    → (may_be_whole (chunk_line_of (text ++ b ∷ [])) ≡ true
    → walk c (Line (text ++ b ∷ [])) (x ∷ fs ++ rest) ≡ walk c (stood ((text ++ b ∷ []) ++ x ∷ fs)) rest)
    → walk c (stood (text ++ b ∷ [])) (x ∷ fs ++ rest) ≡ walk c (stood ((text ++ b ∷ []) ++ x ∷ fs)) rest
unfolding stood
stood_by true c text b x fs rest e none few more =
    let room : nat_lt (length (text ++ b ∷ [])) line_limit ≡ true =
    grind (arith, length-append text (b ∷ []), length-append text (b ∷ x ∷ fs)) in
    let is : stood (text ++ b ∷ []) ≡ Line (text ++ b ∷ []) = rw e (rw room refl) in
    ap (λ p. walk c p (x ∷ fs ++ rest)) is ∙ more e
stood_by false c text b x fs rest e none few more =
    let never : chunk_line_of (text ++ b ∷ []) ≡ Never = shut_never (chunk_line_of (text ++ b ∷ [])) e none in
    let is : stood (text ++ b ∷ []) ≡ Refused = rw e refl in
    ap (λ p. walk c p (x ∷ fs ++ rest)) is
    ∙ walk_refused c (x ∷ fs ++ rest)
    ∙ sym (walk_refused c rest)
    ∙ ap (λ p. walk c p rest) (sym (never_stood (text ++ b ∷ []) (x ∷ fs) never))

-- bytes with which a line does not become whole
pub line_still : (c : Bool) (text : List ℕ) (b : ℕ) (bs rest : List ℕ) → NoneWhole text (b ∷ bs)
    → length (text ++ b ∷ bs) ≤ line_limit
    → walk c (Line text) (b ∷ bs ++ rest) ≡ walk c (stood (text ++ b ∷ bs)) rest
unfolding NoneWhole stood
line_still c text b [] rest none few =
    let next = text ++ b ∷ [] in
    line_at c text b rest (quiet (stood next)) (still_lined c next (chunk_line_of next) (λ m. none (b ∷ []) [] m refl))
line_still c text b (x ∷ fs) rest none few =
    let next = text ++ b ∷ [] in
    let first : (m : ℕ) → chunk_line_of next ≡ Whole m → ⊥ = λ m. none (b ∷ []) (x ∷ fs) m refl in
    let later : NoneWhole next (x ∷ fs) =
    λ front more m e h. none (b ∷ front) more m (ap (λ l. b ∷ l) e)
    (ap chunk_line_of (sym (append_assoc text (b ∷ []) front)) ∙ h) in
    line_at c text b (x ∷ fs ++ rest) (quiet (stood next)) (still_lined c next (chunk_line_of next) first)
    ∙ stood_by (may_be_whole (chunk_line_of next)) c text b x fs rest refl first few
    (λ _. line_still c next x fs rest later (omega (arith, longer text (x ∷ fs) b)))
    ∙ ap (λ t. walk c (stood t) rest) (append_assoc text (b ∷ []) (x ∷ fs))

-- bytes that hold no line make none whole
pub none_whole : (text piece : List ℕ) → HasNoChunkLine (text ++ piece) → NoneWhole text piece
unfolding NoneWhole
none_whole text piece no_line front more m e h =
    let l = line_read (text ++ front) m h in
    no_line l.0 more (
      l.1.0,
      ap (λ p. text ++ p) e ∙ sym (append_assoc text front more)
          ∙ ap (λ t. t ++ more) (l.1.1 ∙ append-nil (print_chunk_line l.0)),
    )

not_whole : (text : List ℕ) → HasNoChunkLine text → (m : ℕ) → chunk_line_of text ≡ Whole m → ⊥
not_whole text no_line m h = let l = line_read text m h in no_line l.0 [] l.1

-- what may become a line is open
pub may_open : (text : List ℕ) → HasNoChunkLine text → MayBecomeChunkLine text
    → may_be_whole (chunk_line_of text) ≡ true
may_open text no_line may = by (may_be_whole (chunk_line_of text)) refl
  where
    by : (t : Bool) → may_be_whole (chunk_line_of text) ≡ t → may_be_whole (chunk_line_of text) ≡ true
    by true e = e
    by false e =
        let never : chunk_line_of text ≡ Never = shut_never (chunk_line_of text) e (not_whole text no_line) in
        let l = may.1 in
        let whole : chunk_line_of (text ++ may.0) ≡ Whole (chunk_size l) =
        ap chunk_line_of (may.2.1 ∙ append-nil (print_chunk_line l)) ∙ line_whole l may.2.0 in
        let none : chunk_line_of (text ++ may.0) ≡ Never = chunk_line_walk_append Start text may.0
        ∙ ap (λ s. chunk_line_walk s may.0) never ∙ never_walk may.0 in
        let both : Never ≡ Whole (chunk_size l) = sym none ∙ whole in
        absurd cc

-- what never becomes a line is not open
pub never_shut : (text : List ℕ) → NeverHasChunkLine text → may_be_whole (chunk_line_of text) ≡ false
never_shut text never = by (may_be_whole (chunk_line_of text)) refl
  where
    by : (t : Bool) → may_be_whole (chunk_line_of text) ≡ t → may_be_whole (chunk_line_of text) ≡ false
    by false e = e
    by true e =
        let m = line_may (chunk_line_of text) e in
        let l = line_read (text ++ m.0) m.1 (chunk_line_walk_append Start text m.0 ∙ m.2) in
        absurd (never m.0 l.0 [] l.1)

-- what never has a line has none now
pub never_none : (text : List ℕ) → NeverHasChunkLine text → HasNoChunkLine text
never_none text never = subst HasNoChunkLine (append-nil text) (never [])

-- two splits of one list
split_of : (xs ys us vs : List ℕ) → xs ++ ys ≡ us ++ vs → length xs ≤ length us
    → (mid : List ℕ) × (us ≡ xs ++ mid) × (ys ≡ mid ++ vs)
split_of [] ys us vs e few = (us, refl, e)
split_of (x ∷ xs) ys [] vs e few = absurd (omega arith)
split_of (x ∷ xs) ys (u ∷ us) vs e few =
    let head : x ≡ u = cc in
    let tail : xs ++ ys ≡ us ++ vs = cc in
    let s = split_of xs ys us vs tail (omega arith) in
    (s.0, ap (λ h. h ∷ us) (sym head) ∙ ap (λ l. x ∷ l) s.1, s.2)

shut_whole : (m : ℕ) (xs : List ℕ) → may_be_whole (chunk_line_walk (Whole m) xs) ≡ false
shut_whole m [] = ap may_be_whole (chunk_line_walk_none (Whole m))
shut_whole m (x ∷ xs) = ap may_be_whole (whole_walk m x xs)

-- a line that is read in the bytes so far and more ends in the latter
pub line_past : (text piece : List ℕ) (l : ChunkLine) (vs : List ℕ) → may_be_whole (chunk_line_of text) ≡ true
    → IsChunkLine l → text ++ piece ≡ print_chunk_line l ++ vs
    → length text < length (print_chunk_line l)
line_past text piece l vs op h e = ⊎_elim (λ less. less) (λ more. absurd (false_by more))
    (cases_lt (length text) (length (print_chunk_line l)))
  where
    false_by : length (print_chunk_line l) ≤ length text → ⊥
    false_by more =
        let s = split_of (print_chunk_line l) vs text piece (sym e) more in
        let shut : may_be_whole (chunk_line_of text) ≡ false =
        ap (λ t. may_be_whole (chunk_line_of t)) s.1
        ∙ ap may_be_whole (chunk_line_walk_append Start (print_chunk_line l) s.0)
        ∙ ap (λ w. may_be_whole (chunk_line_walk w s.0)) (line_whole l h) ∙ shut_whole (chunk_size l) s.0 in
        let both : true ≡ false = sym op ∙ shut in
        cc

-- how a whole line is taken
pub record LineTaken (c : Bool) (text rest : List ℕ) (len size : ℕ) : Type 0 where
  pub past : length text < len
  pub within : len - length text ≤ length rest
  pub walks : walk c (Line text) rest
      ≡ after (sized c size).out (walk c (sized c size).place (drop (len - length text) rest))

-- the line that is read behind kept bytes is the one at which the walk goes on
pub line_taken : (c : Bool) (text rest : List ℕ) (count len size : ℕ) (l : ChunkLine)
    → may_be_whole (chunk_line_of text) ≡ true
    → IsChunkLineAt (text ++ take count rest) len size l → length (text ++ take count rest) ≤ line_limit
    → LineTaken c text rest len size
line_taken c text rest count len size l op at few =
    let piece = take count rest in
    let vs = drop len (text ++ piece) in
    let past = line_past text piece l vs op at.reads.0 at.reads.1 in
    let s = split_of text piece (print_chunk_line l) vs at.reads.1 (omega (arith, past)) in
    let mid = s.0 in
    let whole : rest ≡ mid ++ (vs ++ drop count rest) = sym (take-append-drop count rest)
    ∙ ap (λ p. p ++ drop count rest) s.2 ∙ append_assoc mid vs (drop count rest) in
    let size_of_mid : length mid ≡ len - length text =
    omega (arith, at.len_is, ap length s.1, length-append text mid) in
    let ends : chunk_line_walk (chunk_line_of text) mid ≡ Whole size =
    sym (chunk_line_walk_append Start text mid) ∙ ap chunk_line_of (sym s.1) ∙ line_whole l at.reads.0
    ∙ ap Whole (sym at.size_is) in
    let room : length (text ++ mid) ≤ line_limit =
    omega (arith, few, length-append text mid, length-append text piece, ap length s.2, length-append mid vs) in
    record {
      past = omega (arith, past, at.len_is);
      within = omega (arith, size_of_mid, ap length whole, length-append mid (vs ++ drop count rest));
      walks =
          ap (walk c (Line text)) whole
          ∙ line_front c text mid (vs ++ drop count rest) size op ends room
          ∙ ap (λ r. after (sized c size).out (walk c (sized c size).place r))
          (sym (drop_at mid (vs ++ drop count rest) (len - length text) size_of_mid)
          ∙ ap (drop (len - length text)) (sym whole));
    }
