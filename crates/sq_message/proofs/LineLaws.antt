-- The line before a chunk: a byte at a time, and as the grammar of `httparse` has it.
use Rattle.std.proofs.Common.{◌≡◌, ℕ, ◌+◌, ◌-◌, ◌*◌, ◌<◌, ◌≤◌, Bool, true, false, ◌==◌, nat_lt, IsTrue, List, [], ◌∷◌, ◌++◌, length, Option, Some, None, ◌⊎◌, ⊎_elim, refl, sym, ap, subst, ◌∙◌, arith, append_assoc, append-nil}
use Rattle.std.specs.Char.{is_ascii_hexdigit, digit_value}
use Rattle.std.specs.Str.Parse.{digits_value_after}
use Rattle.std.proofs.lemmas.List.Elements.{All-cons, All-nil, All-head, All-tail}
use Rattle.httparse.specs.Grammar.{is_ows, is_extension_byte, AllPass, print_extension, ChunkLine, IsExtension, IsChunkLine, print_chunk_line, chunk_size, ReadsChunkLine}
use Rattle.sq_message.specs.ChunkLines.{LineSoFar, Start, Digits, Blank, Extension, Closing, Whole, Never, after_size, in_digits, chunk_line_step, chunk_line_walk, chunk_line_of}
use Rattle.sq_message.specs.Feeding.{may_be_whole}

-- a line in two parts
pub chunk_line_walk_append : (l : LineSoFar) (xs ys : List ℕ)
    → chunk_line_walk l (xs ++ ys) ≡ chunk_line_walk (chunk_line_walk l xs) ys
unfolding chunk_line_walk
chunk_line_walk_append l [] ys = refl
chunk_line_walk_append l (x ∷ xs) ys = chunk_line_walk_append (chunk_line_step l x) xs ys

-- a line by one byte
pub chunk_line_walk_one : (l : LineSoFar) (b : ℕ) → chunk_line_walk l (b ∷ []) ≡ chunk_line_step l b
unfolding chunk_line_walk
chunk_line_walk_one l b = refl

-- a line by its first byte, and the rest
pub chunk_line_walk_cons : (l : LineSoFar) (b : ℕ) (bs : List ℕ)
    → chunk_line_walk l (b ∷ bs) ≡ chunk_line_walk (chunk_line_step l b) bs
unfolding chunk_line_walk
chunk_line_walk_cons l b bs = refl

-- a line by no byte
pub chunk_line_walk_none : (l : LineSoFar) → chunk_line_walk l [] ≡ l
unfolding chunk_line_walk
chunk_line_walk_none l = refl

-- what is no line stays none
pub never_walk : (xs : List ℕ) → chunk_line_walk Never xs ≡ Never
unfolding chunk_line_walk
never_walk [] = refl
never_walk (x ∷ xs) = never_walk xs

-- a whole line with more behind it is none
pub whole_walk : (n x : ℕ) (xs : List ℕ) → chunk_line_walk (Whole n) (x ∷ xs) ≡ Never
unfolding chunk_line_walk
whole_walk n x xs = never_walk xs

-- the bytes so far and one more
pub chunk_line_of_more : (text : List ℕ) (b : ℕ)
    → chunk_line_of (text ++ b ∷ []) ≡ chunk_line_step (chunk_line_of text) b
chunk_line_of_more text b = chunk_line_walk_append Start text (b ∷ []) ∙ chunk_line_walk_one (chunk_line_of text) b

-- what each state of a line comes to
end_closing : (n : ℕ) → chunk_line_walk (Closing n) (10 ∷ []) ≡ Whole n
unfolding chunk_line_walk
end_closing n = refl

digits_run : (ds : List ℕ) (count size : ℕ) → AllPass is_ascii_hexdigit ds → count + length ds ≤ 16
    → chunk_line_walk (Digits count size) ds ≡ Digits (count + length ds) (digits_value_after 16 size ds)
unfolding chunk_line_walk
digits_run [] count size all few = ap (λ c. Digits c size) (omega arith)
digits_run (d ∷ ds) count size all few =
    let hex : is_ascii_hexdigit d ≡ true = All-head (λ b. IsTrue (is_ascii_hexdigit b)) d ds all in
    let room : nat_lt count 16 ≡ true = grind arith in
    let next : in_digits count size d ≡ Digits (count + 1) (size * 16 + digit_value d) = rw hex (rw room refl) in
    ap (λ l. chunk_line_walk l ds) next
    ∙ digits_run ds (count + 1) (size * 16 + digit_value d) (All-tail (λ b. IsTrue (is_ascii_hexdigit b)) d ds all)
    (omega arith)
    ∙ ap (λ c. Digits c (digits_value_after 16 (size * 16 + digit_value d) ds)) (omega arith)

extension_run : (text : List ℕ) (n : ℕ) → AllPass is_extension_byte text
    → chunk_line_walk (Extension n) (text ++ 13 ∷ 10 ∷ []) ≡ Whole n
unfolding chunk_line_walk
extension_run [] n all = refl
extension_run (b ∷ bs) n all =
    let pass : IsTrue (is_extension_byte b) = All-head (λ b. IsTrue (is_extension_byte b)) b bs all in
    let stays : chunk_line_step (Extension n) b ≡ Extension n = stays_in b n pass in
    ap (λ l. chunk_line_walk l (bs ++ 13 ∷ 10 ∷ [])) stays
    ∙ extension_run bs n (All-tail (λ b. IsTrue (is_extension_byte b)) b bs all)
  where
    stays_in : (b n : ℕ) → IsTrue (is_extension_byte b) → chunk_line_step (Extension n) b ≡ Extension n
    stays_in b n pass = grind arith

-- behind the size and blanks: an extension or none, and CRLF
tail_run : (e : Option (List ℕ)) (n : ℕ) → IsExtension e
    → chunk_line_walk (Blank n) (print_extension e ++ 13 ∷ 10 ∷ []) ≡ Whole n
unfolding chunk_line_walk
tail_run None n all = refl
tail_run (Some text) n all = extension_run text n all

tail_digits : (e : Option (List ℕ)) (c n : ℕ) → IsExtension e
    → chunk_line_walk (Digits c n) (print_extension e ++ 13 ∷ 10 ∷ []) ≡ Whole n
unfolding chunk_line_walk
tail_digits None c n all = refl
tail_digits (Some text) c n all = extension_run text n all

ows_is : (b : ℕ) → IsTrue (is_ows b) → (b ≡ 32) ⊎ (b ≡ 9)
ows_is b h = grind arith

blank_at : (b n : ℕ) → IsTrue (is_ows b) → chunk_line_step (Blank n) b ≡ Blank n
blank_at b n h = ⊎_elim (λ e. ap (chunk_line_step (Blank n)) e) (λ e. ap (chunk_line_step (Blank n)) e) (ows_is b h)

digits_at : (b c n : ℕ) → IsTrue (is_ows b) → chunk_line_step (Digits c n) b ≡ Blank n
digits_at b c n h = ⊎_elim (λ e. ap (chunk_line_step (Digits c n)) e) (λ e. ap (chunk_line_step (Digits c n)) e)
    (ows_is b h)

blank_run : (pad : List ℕ) (n : ℕ) (e : Option (List ℕ)) → AllPass is_ows pad → IsExtension e
    → chunk_line_walk (Blank n) (pad ++ (print_extension e ++ 13 ∷ 10 ∷ [])) ≡ Whole n
unfolding chunk_line_walk
blank_run [] n e all ext = tail_run e n ext
blank_run (b ∷ bs) n e all ext =
    ap (λ l. chunk_line_walk l (bs ++ (print_extension e ++ 13 ∷ 10 ∷ [])))
    (blank_at b n (All-head (λ b. IsTrue (is_ows b)) b bs all))
    ∙ blank_run bs n e (All-tail (λ b. IsTrue (is_ows b)) b bs all) ext

pad_run : (pad : List ℕ) (c n : ℕ) (e : Option (List ℕ)) → AllPass is_ows pad → IsExtension e
    → chunk_line_walk (Digits c n) (pad ++ (print_extension e ++ 13 ∷ 10 ∷ [])) ≡ Whole n
unfolding chunk_line_walk
pad_run [] c n e all ext = tail_digits e c n ext
pad_run (b ∷ bs) c n e all ext =
    ap (λ l. chunk_line_walk l (bs ++ (print_extension e ++ 13 ∷ 10 ∷ [])))
    (digits_at b c n (All-head (λ b. IsTrue (is_ows b)) b bs all))
    ∙ blank_run bs n e (All-tail (λ b. IsTrue (is_ows b)) b bs all) ext

-- the text of a line by its parts
pub print_is : (l : ChunkLine)
    → print_chunk_line l ≡ l.digits ++ (l.pad ++ (print_extension l.extension ++ 13 ∷ 10 ∷ []))
unfolding print_chunk_line
print_is l = grind (arith, append_assoc)

start_run : (ds : List ℕ) → 0 < length ds → length ds ≤ 16 → AllPass is_ascii_hexdigit ds
    → chunk_line_walk Start ds ≡ Digits (length ds) (digits_value_after 16 0 ds)
unfolding chunk_line_walk
start_run [] some few all = absurd (omega arith)
start_run (d ∷ ds) some few all =
    let hex : is_ascii_hexdigit d ≡ true = All-head (λ b. IsTrue (is_ascii_hexdigit b)) d ds all in
    let next : chunk_line_step Start d ≡ Digits 1 (digit_value d) = rw hex refl in
    ap (λ l. chunk_line_walk l ds) next
    ∙ digits_run ds 1 (digit_value d) (All-tail (λ b. IsTrue (is_ascii_hexdigit b)) d ds all) (omega arith)
    ∙ ap (λ c. Digits c (digits_value_after 16 (digit_value d) ds)) (omega arith)
    ∙ ap (λ v. Digits (length (d ∷ ds)) (digits_value_after 16 v ds)) {x = digit_value d} {y = 0 * 16 + digit_value d}
    (omega arith)

-- a chunk line is whole
pub line_whole : (l : ChunkLine) → IsChunkLine l → chunk_line_of (print_chunk_line l) ≡ Whole (chunk_size l)
line_whole l h =
    let rest = l.pad ++ (print_extension l.extension ++ 13 ∷ 10 ∷ []) in
    ap chunk_line_of (print_is l)
    ∙ chunk_line_walk_append Start l.digits rest
    ∙ ap (λ s. chunk_line_walk s rest) (start_run l.digits h.digits.0 h.digits.1 h.digits.2)
    ∙ pad_run l.pad (length l.digits) (chunk_size l) l.extension h.pad h.extension

-- what stands behind digits where a line is whole
record Tail (xs : List ℕ) (n m : ℕ) : Type 0 where
  pad : List ℕ
  extension : Option (List ℕ)
  pads : AllPass is_ows pad
  extends : IsExtension extension
  shape : xs ≡ pad ++ (print_extension extension ++ 13 ∷ 10 ∷ [])
  same : n ≡ m

never_whole : (xs : List ℕ) (m : ℕ) → chunk_line_walk Never xs ≡ Whole m → ⊥
never_whole xs m h = let e : Never ≡ Whole m = sym (never_walk xs) ∙ h in cc

back_whole : (xs : List ℕ) (n m : ℕ) → chunk_line_walk (Whole n) xs ≡ Whole m → (xs ≡ []) × (n ≡ m)
unfolding chunk_line_walk
back_whole [] n m h = (refl, cc)
back_whole (x ∷ xs) n m h = absurd (never_whole xs m h)

back_closing : (xs : List ℕ) (n m : ℕ) → chunk_line_walk (Closing n) xs ≡ Whole m → (xs ≡ 10 ∷ []) × (n ≡ m)
unfolding chunk_line_walk
back_closing [] n m h = absurd cc
back_closing (b ∷ bs) n m h = by (b == 10) refl
  where
    by : (t : Bool) → (b == 10) ≡ t → (b ∷ bs ≡ 10 ∷ []) × (n ≡ m)
    by true e =
        let next : chunk_line_step (Closing n) b ≡ Whole n = rw e refl in
        let w = back_whole bs n m (ap (λ l. chunk_line_walk l bs) (sym next) ∙ h) in
        let ten : b ≡ 10 = grind arith in
        (ap (λ x. x ∷ bs) ten ∙ ap (λ l. 10 ∷ l) w.0, w.1)
    by false e =
        let next : chunk_line_step (Closing n) b ≡ Never = rw e refl in
        absurd (never_whole bs m (ap (λ l. chunk_line_walk l bs) (sym next) ∙ h))

Extended : List ℕ → ℕ → ℕ → Type 0
Extended xs n m = (text : List ℕ) × AllPass is_extension_byte text × (xs ≡ text ++ 13 ∷ 10 ∷ []) × (n ≡ m)

extended_by : (t u : Bool) (b : ℕ) (bs : List ℕ) (n m : ℕ) → (b == 13) ≡ t → (b == 10) ≡ u
    → chunk_line_walk (chunk_line_step (Extension n) b) bs ≡ Whole m
    → (chunk_line_walk (Extension n) bs ≡ Whole m → Extended bs n m) → Extended (b ∷ bs) n m
unfolding Extended
extended_by true u b bs n m e f h more =
    let next : chunk_line_step (Extension n) b ≡ Closing n = rw e refl in
    let w = back_closing bs n m (ap (λ l. chunk_line_walk l bs) (sym next) ∙ h) in
    let cr : b ≡ 13 = grind arith in
    ([], All-nil (λ b. IsTrue (is_extension_byte b)), ap (λ x. x ∷ bs) cr ∙ ap (λ l. 13 ∷ l) w.0, w.1)
extended_by false true b bs n m e f h more =
    let next : chunk_line_step (Extension n) b ≡ Never = rw e (rw f refl) in
    absurd (never_whole bs m (ap (λ l. chunk_line_walk l bs) (sym next) ∙ h))
extended_by false false b bs n m e f h more =
    let next : chunk_line_step (Extension n) b ≡ Extension n = rw e (rw f refl) in
    let w = more (ap (λ l. chunk_line_walk l bs) (sym next) ∙ h) in
    let pass : IsTrue (is_extension_byte b) = rw e (rw f refl) in
    (b ∷ w.0, All-cons (λ b. IsTrue (is_extension_byte b)) b w.0 pass w.1, ap (λ l. b ∷ l) w.2, w.3)

back_extension : (xs : List ℕ) (n m : ℕ) → chunk_line_walk (Extension n) xs ≡ Whole m → Extended xs n m
unfolding chunk_line_walk
back_extension [] n m h = absurd cc
back_extension (b ∷ bs) n m h = extended_by (b == 13) (b == 10) b bs n m refl refl h (back_extension bs n m)

blank_tail : (b : ℕ) (bs : List ℕ) (n m : ℕ) → IsTrue (is_ows b) → Tail bs n m → Tail (b ∷ bs) n m
blank_tail b bs n m h t =
    record {
      pad = b ∷ t.pad;
      extension = t.extension;
      pads = All-cons (λ b. IsTrue (is_ows b)) b t.pad h t.pads;
      extends = t.extends;
      shape = ap (λ l. b ∷ l) t.shape;
      same = t.same;
    }

-- behind the size: by what the byte is
after_by : (s t u : Bool) (b : ℕ) (bs : List ℕ) (n m : ℕ) → is_ows b ≡ s → (b == 59) ≡ t → (b == 13) ≡ u
    → chunk_line_walk (after_size n b) bs ≡ Whole m
    → (chunk_line_walk (Blank n) bs ≡ Whole m → Tail bs n m) → Tail (b ∷ bs) n m
unfolding Extended
after_by true t u b bs n m d e f h more =
    let next : after_size n b ≡ Blank n = rw d refl in
    blank_tail b bs n m d (more (ap (λ l. chunk_line_walk l bs) (sym next) ∙ h))
after_by false true u b bs n m d e f h more =
    let next : after_size n b ≡ Extension n = rw d (rw e refl) in
    let w = back_extension bs n m (ap (λ l. chunk_line_walk l bs) (sym next) ∙ h) in
    let semi : b ≡ 59 = grind arith in
    record {
      pad = [];
      extension = Some w.0;
      pads = All-nil (λ b. IsTrue (is_ows b));
      extends = w.1;
      shape = ap (λ x. x ∷ bs) semi ∙ ap (λ l. 59 ∷ l) w.2;
      same = w.3;
    }
after_by false false true b bs n m d e f h more =
    let next : after_size n b ≡ Closing n = rw d (rw e (rw f refl)) in
    let w = back_closing bs n m (ap (λ l. chunk_line_walk l bs) (sym next) ∙ h) in
    let cr : b ≡ 13 = grind arith in
    record {
      pad = [];
      extension = None;
      pads = All-nil (λ b. IsTrue (is_ows b));
      extends = tt;
      shape = ap (λ x. x ∷ bs) cr ∙ ap (λ l. 13 ∷ l) w.0;
      same = w.1;
    }
after_by false false false b bs n m d e f h more =
    let next : after_size n b ≡ Never = rw d (rw e (rw f refl)) in
    absurd (never_whole bs m (ap (λ l. chunk_line_walk l bs) (sym next) ∙ h))

back_blank : (xs : List ℕ) (n m : ℕ) → chunk_line_walk (Blank n) xs ≡ Whole m → Tail xs n m
unfolding chunk_line_walk
back_blank [] n m h = absurd cc
back_blank (b ∷ bs) n m h = after_by (is_ows b) (b == 59) (b == 13) b bs n m refl refl refl h (back_blank bs n m)

-- digits, and what stands behind them, where a line is whole
record Numbered (xs : List ℕ) (room : ℕ) (m : ℕ) : Type 0 where
  ds : List ℕ
  rest : List ℕ
  value : ℕ
  hex : AllPass is_ascii_hexdigit ds
  few : length ds ≤ room
  shape : xs ≡ ds ++ rest
  tail : Tail rest value m

none_numbered : (xs : List ℕ) (n room m : ℕ) → Tail xs n m → Numbered xs room m
none_numbered xs n room m t =
    record {
      ds = [];
      rest = xs;
      value = n;
      hex = All-nil (λ b. IsTrue (is_ascii_hexdigit b));
      few = omega arith;
      shape = refl;
      tail = t;
    }

digit_numbered : (b : ℕ) (bs : List ℕ) (room m : ℕ) → IsTrue (is_ascii_hexdigit b) → Numbered bs room m
    → Numbered (b ∷ bs) (room + 1) m
digit_numbered b bs room m h t =
    record {
      ds = b ∷ t.ds;
      rest = t.rest;
      value = t.value;
      hex = All-cons (λ b. IsTrue (is_ascii_hexdigit b)) b t.ds h t.hex;
      few = omega (arith, t.few);
      shape = ap (λ l. b ∷ l) t.shape;
      tail = t.tail;
    }

digits_by : (s t : Bool) (b : ℕ) (bs : List ℕ) (c n m : ℕ) → is_ascii_hexdigit b ≡ s → nat_lt c 16 ≡ t
    → chunk_line_walk (in_digits c n b) bs ≡ Whole m
    → (chunk_line_walk (Digits (c + 1) (n * 16 + digit_value b)) bs ≡ Whole m → Numbered bs (16 - (c + 1)) m)
    → Numbered (b ∷ bs) (16 - c) m
digits_by true true b bs c n m d e h more =
    let next : in_digits c n b ≡ Digits (c + 1) (n * 16 + digit_value b) = rw d (rw e refl) in
    let less : c < 16 = grind arith in
    subst (λ k. Numbered (b ∷ bs) k m) (omega (arith, less))
    (digit_numbered b bs (16 - (c + 1)) m d (more (ap (λ l. chunk_line_walk l bs) (sym next) ∙ h)))
digits_by true false b bs c n m d e h more =
    let next : in_digits c n b ≡ Never = rw d (rw e refl) in
    absurd (never_whole bs m (ap (λ l. chunk_line_walk l bs) (sym next) ∙ h))
digits_by false t b bs c n m d e h more =
    let next : in_digits c n b ≡ after_size n b = rw d refl in
    none_numbered (b ∷ bs) n (16 - c) m
    (after_by (is_ows b) (b == 59) (b == 13) b bs n m refl refl refl (ap (λ l. chunk_line_walk l bs) (sym next) ∙ h)
    (back_blank bs n m))

back_digits : (xs : List ℕ) (c n m : ℕ) → chunk_line_walk (Digits c n) xs ≡ Whole m → Numbered xs (16 - c) m
unfolding chunk_line_walk
back_digits [] c n m h = absurd cc
back_digits (b ∷ bs) c n m h = digits_by (is_ascii_hexdigit b) (nat_lt c 16) b bs c n m refl refl h
    (back_digits bs (c + 1) (n * 16 + digit_value b) m)

line_by : (b : ℕ) (bs : List ℕ) (m : ℕ) → is_ascii_hexdigit b ≡ true → Numbered bs 15 m
    → (l : ChunkLine) × ReadsChunkLine (b ∷ bs) l []
line_by b bs m e t =
    let l : ChunkLine = record { digits = b ∷ t.ds; pad = t.tail.pad; extension = t.tail.extension } in
    let is : IsChunkLine l =
    record {
      digits = (omega arith, omega (arith, t.few), All-cons (λ b. IsTrue (is_ascii_hexdigit b)) b t.ds e t.hex);
      pad = t.tail.pads;
      extension = t.tail.extends;
    } in
    let same : b ∷ bs ≡ print_chunk_line l ++ [] = ap (λ l. b ∷ l) (t.shape ∙ ap (λ l. t.ds ++ l) t.tail.shape)
    ∙ sym (append-nil (print_chunk_line l) ∙ print_is l) in
    (l, (is, same))

start_by : (s : Bool) (b : ℕ) (bs : List ℕ) (m : ℕ) → is_ascii_hexdigit b ≡ s
    → chunk_line_walk (chunk_line_step Start b) bs ≡ Whole m → (l : ChunkLine) × ReadsChunkLine (b ∷ bs) l []
start_by true b bs m e h =
    let next : chunk_line_step Start b ≡ Digits 1 (digit_value b) = rw e refl in
    line_by b bs m e (back_digits bs 1 (digit_value b) m (ap (λ l. chunk_line_walk l bs) (sym next) ∙ h))
start_by false b bs m e h =
    let next : chunk_line_step Start b ≡ Never = rw e refl in
    absurd (never_whole bs m (ap (λ l. chunk_line_walk l bs) (sym next) ∙ h))

-- what is whole is a chunk line
pub line_read : (text : List ℕ) (m : ℕ) → chunk_line_of text ≡ Whole m → (l : ChunkLine) × ReadsChunkLine text l []
unfolding chunk_line_walk
line_read [] m h = absurd cc
line_read (b ∷ bs) m h = start_by (is_ascii_hexdigit b) b bs m refl h

-- what is open may become whole
pub line_may : (l : LineSoFar) → may_be_whole l ≡ true → (more : List ℕ) × (m : ℕ) × (chunk_line_walk l more ≡ Whole m)
unfolding chunk_line_walk
line_may Start h = (48 ∷ 13 ∷ 10 ∷ [], 0, refl)
line_may (Digits c n) h = (13 ∷ 10 ∷ [], n, refl)
line_may (Blank n) h = (13 ∷ 10 ∷ [], n, refl)
line_may (Extension n) h = (13 ∷ 10 ∷ [], n, refl)
line_may (Closing n) h = (10 ∷ [], n, refl)
line_may (Whole n) h = absurd cc
line_may Never h = absurd cc
