-- How much a body gives for the bytes that it takes.
use Rattle.std.proofs.Common.{◌≡◌, ℕ, zero, suc, ◌+◌, ◌-◌, ◌^◌, ◌/◌, ◌%◌, ◌<◌, ◌≤◌, min, Bool, true, false, ◌||◌, if◌then◌else◌, ◌==◌, nat_lt, IsTrue, List, [], ◌∷◌, ◌++◌, length, refl, sym, ap, subst, ◌∙◌, arith, append-nil, length-append, length-drop, pow-suc, div-lt_iff_lt-mul}
use Rattle.std.proofs.lemmas.Int.Digits.{digits_value-lt}
use Rattle.std.proofs.lemmas.List.Elements.{All-head, All-tail}
use Rattle.std.specs.Int.{is_in_range}
use Rattle.std.specs.Char.{is_ascii_hexdigit, digit_value}
use Rattle.std.specs.Str.Parse.{AllDigits}
use Rattle.std.specs.Fmt.{digits, digits_onto, digit_glyph}
use Rattle.httparse.specs.Grammar.{ChunkLine, IsChunkLine, print_chunk_line, print_extension, chunk_size, AllPass}
use Rattle.sq_message.specs.declared.body_state.Mark.{Mark}
use Rattle.sq_message.specs.declared.body_state.Mark.TheVariants.{Begin, BeginCr, Inside, InsideCr}
use Rattle.sq_message.specs.declared.body_state.BodyState.{BodyState}
use Rattle.sq_message.specs.declared.body_state.BodyState.TheVariants.{Plain, Open, Line, Data, Feed, Trailer, Done, Refused}
use Rattle.sq_message.specs.Bodies.{crlf, size_line, framed, ByteStep, quiet, lined, mark_step, is_last, step, is_whole_body, is_refused, Walk, after, walk}
use Rattle.sq_message.specs.ChunkLines.{LineSoFar, Start, Digits, Blank, Extension, Closing, Whole, Never, chunk_line_of}
use Rattle.sq_message.specs.Feeding.{Feeds, WroteOfBody}
use Rattle.sq_message.proofs.LineLaws.{line_read, line_whole, print_is}
use Rattle.sq_message.proofs.BodyLaws.{walk_one, walk_done, walk_refused}
use Rattle.sq_message.proofs.TakeLaws.{refused_is}

onto_by : (t : Bool) (f n g : ℕ) (acc : List ℕ) (j : ℕ) → (n / 16 == 0) ≡ t → n < 16 ^ suc j
    → ((i : ℕ) → 0 < i → n / 16 < 16 ^ i → length (digits_onto f 16 false (n / 16) (g ∷ acc)) ≤ length (g ∷ acc) + i)
    → length (if t then g ∷ acc else digits_onto f 16 false (n / 16) (g ∷ acc)) ≤ length acc + suc j
onto_by true f n g acc j e few more = omega arith
onto_by false f n g acc zero e few more =
    let small : n / 16 < 16 ^ 0 = (div-lt_iff_lt-mul (omega arith)).1 (omega (arith, few, pow-suc 16 0)) in
    let none : (n / 16 == 0) ≡ true = grind arith in
    let both : true ≡ false = sym none ∙ e in
    absurd cc
onto_by false f n g acc (suc i) e few more =
    let small : n / 16 < 16 ^ suc i = (div-lt_iff_lt-mul (omega arith)).1 (omega (arith, few, pow-suc 16 (suc i))) in
    omega (arith, more (suc i) (omega arith) small)

-- a number below a power of 16 has so many digits at most
length_onto : (f n : ℕ) (acc : List ℕ) (k : ℕ) → 0 < k → n < 16 ^ k
    → length (digits_onto f 16 false n acc) ≤ length acc + k
length_onto zero n acc k some few = omega arith
length_onto (suc f) n acc zero some few = absurd (omega arith)
length_onto (suc f) n acc (suc j) some few =
    onto_by (n / 16 == 0) f n (digit_glyph false (n % 16)) acc j refl few
    (λ i p q. length_onto f (n / 16) (digit_glyph false (n % 16) ∷ acc) i p q)

-- the digits of a number below a power of 16, by their count
pub length_digits : (n k : ℕ) → 0 < k → n < 16 ^ k → length (digits 16 false n) ≤ k
unfolding digits
length_digits n k some few = omega (arith, length_onto 64 n [] k some few)

in_range : (lo hi c : ℕ) → is_in_range lo hi c ≡ true → (lo ≤ c) × (c ≤ hi)
in_range lo hi c h = (grind arith, grind arith)

decimal_digit : (c : ℕ) → 48 ≤ c → c ≤ 57 → digit_value c < 16
decimal_digit c lo hi =
    let a : nat_lt c 48 ≡ false = grind arith in
    let b : nat_lt c 58 ≡ true = grind arith in
    rw a (rw b (omega arith))

upper_digit : (c : ℕ) → 65 ≤ c → c ≤ 70 → digit_value c < 16
upper_digit c lo hi =
    let a : nat_lt c 48 ≡ false = grind arith in
    let b : nat_lt c 58 ≡ false = grind arith in
    let d : nat_lt c 65 ≡ false = grind arith in
    let e : nat_lt c 91 ≡ true = grind arith in
    rw a (rw b (rw d (rw e (omega arith))))

lower_digit : (c : ℕ) → 97 ≤ c → c ≤ 102 → digit_value c < 16
lower_digit c lo hi =
    let a : nat_lt c 48 ≡ false = grind arith in
    let b : nat_lt c 58 ≡ false = grind arith in
    let d : nat_lt c 65 ≡ false = grind arith in
    let e : nat_lt c 91 ≡ false = grind arith in
    let f : nat_lt c 97 ≡ false = grind arith in
    let g : nat_lt c 123 ≡ true = grind arith in
    rw a (rw b (rw d (rw e (rw f (rw g (omega arith))))))

hex_by : (t u v : Bool) (c : ℕ) → is_in_range 48 57 c ≡ t → is_in_range 65 70 c ≡ u → is_in_range 97 102 c ≡ v
    → IsTrue ((t || u) || v) → digit_value c < 16
hex_by true u v c e f g h = let r = in_range 48 57 c e in decimal_digit c r.0 r.1
hex_by false true v c e f g h = let r = in_range 65 70 c f in upper_digit c r.0 r.1
hex_by false false true c e f g h = let r = in_range 97 102 c g in lower_digit c r.0 r.1
hex_by false false false c e f g h = absurd (let x : false ≡ true = h in cc)

hex_digit : (b : ℕ) → IsTrue (is_ascii_hexdigit b) → digit_value b < 16
hex_digit b h = hex_by (is_in_range 48 57 b) (is_in_range 65 70 b) (is_in_range 97 102 b) b refl refl refl h

hex_digits : (ds : List ℕ) → AllPass is_ascii_hexdigit ds → AllDigits 16 ds
hex_digits [] all = tt
hex_digits (d ∷ ds) all = (
  hex_digit d (All-head (λ b. IsTrue (is_ascii_hexdigit b)) d ds all),
  hex_digits ds (All-tail (λ b. IsTrue (is_ascii_hexdigit b)) d ds all),
)

-- a line's size is written in no more bytes than the line has, and in 18 at most
size_small : (l : ChunkLine) → IsChunkLine l
    → (length (size_line (chunk_size l)) ≤ length (print_chunk_line l)) × (length (size_line (chunk_size l)) ≤ 18)
    × (3 ≤ length (print_chunk_line l))
size_small l h =
    let d = length_digits (chunk_size l) (length l.digits) h.digits.0
    (digits_value-lt 16 l.digits (hex_digits l.digits h.digits.2)) in
    let w : length (size_line (chunk_size l)) ≡ length (digits 16 false (chunk_size l)) + 2 =
    length-append (digits 16 false (chunk_size l)) crlf in
    let p : length (print_chunk_line l) ≡ length l.digits
    + (length l.pad + (length (print_extension l.extension) + 2)) =
    ap length (print_is l) ∙ length-append l.digits (l.pad ++ (print_extension l.extension ++ crlf))
    ∙ ap (λ n. length l.digits + n)
    (length-append l.pad (print_extension l.extension ++ crlf)
    ∙ ap (λ n. length l.pad + n) (length-append (print_extension l.extension) crlf)) in
    (omega (arith, d, w, p), omega (arith, d, w, h.digits.1), omega (arith, p, h.digits.0))

-- what a place may still give beyond the bytes that it takes
pub debt : BodyState → ℕ
debt (Plain n) = 0
debt Open = 0
debt (Line text) = min (length text) 18
debt (Data n) = 0
debt Feed = 1
debt (Trailer n Begin) = 3
debt (Trailer n BeginCr) = 4
debt (Trailer n Inside) = 3
debt (Trailer n InsideCr) = 3
debt Done = 0
debt Refused = 0

-- what a step writes and what may still come are within a number
pub Small : ByteStep → ℕ → Type 0
Small s n = length s.out + debt s.place ≤ n

quiet_small : (p : BodyState) (n : ℕ) → debt p ≤ n → Small (quiet p) n
unfolding Small
quiet_small p n h = omega (arith, h)

framed_small : (c : Bool) (text : List ℕ) (n : ℕ) → length text ≤ n → length (framed c text) ≤ n
framed_small true text n h = h
framed_small false text n h = omega arith

sized_by : (t u : Bool) (c : Bool) (size n : ℕ) → length (size_line size) ≤ n → 3 ≤ n
    → Small (if t then quiet Refused else if u then quiet (Trailer 0 Begin)
    else record { place = Data size; out = framed c (size_line size) }) n
unfolding Small debt
sized_by true u c size n few three = omega arith
sized_by false true c size n few three = three
sized_by false false c size n few three = omega (arith, framed_small c (size_line size) n few)

open_by : (t : Bool) (text : List ℕ) (b : ℕ)
    → Small (if t then quiet (Line (text ++ b ∷ [])) else quiet Refused) (1 + min (length text) 18)
unfolding Small debt
open_by true text b = omega (arith, length-append text (b ∷ []))
open_by false text b = omega arith

lined_small : (c : Bool) (text : List ℕ) (b : ℕ) (s : LineSoFar) → chunk_line_of (text ++ b ∷ []) ≡ s
    → Small (lined c (text ++ b ∷ []) s) (1 + min (length text) 18)
unfolding Small debt
lined_small c text b (Whole size) e =
    let l = line_read (text ++ b ∷ []) size e in
    let same : chunk_size l.0 ≡ size = let f : Whole (chunk_size l.0) ≡ Whole size = sym (line_whole l.0 l.1.0)
    ∙ ap chunk_line_of (sym (append-nil (print_chunk_line l.0)) ∙ sym l.1.1) ∙ e in cc in
    let d = size_small l.0 l.1.0 in
    let len : length (print_chunk_line l.0) ≡ length text + 1 =
    ap length (sym (append-nil (print_chunk_line l.0)) ∙ sym l.1.1) ∙ length-append text (b ∷ []) in
    let few : length (size_line size) ≤ 1 + min (length text) 18 =
    omega (arith, ap (λ n. length (size_line n)) same, d.0, d.1, len) in
    sized_by (nat_lt (2 ^ 63 - 1) size) (size == 0) c size (1 + min (length text) 18) few (omega (arith, d.2, len))
lined_small c text b Never e = omega arith
lined_small c text b Start e = open_by (nat_lt (length (text ++ b ∷ [])) 4096) text b
lined_small c text b (Digits n m) e = open_by (nat_lt (length (text ++ b ∷ [])) 4096) text b
lined_small c text b (Blank n) e = open_by (nat_lt (length (text ++ b ∷ [])) 4096) text b
lined_small c text b (Extension n) e = open_by (nat_lt (length (text ++ b ∷ [])) 4096) text b
lined_small c text b (Closing n) e = open_by (nat_lt (length (text ++ b ∷ [])) 4096) text b

trail_by : (t u : Bool) (c : Bool) (n b : ℕ) (m : Mark) → is_last m b ≡ t
    → Small (if t then record { place = Done; out = framed c (48 ∷ crlf ++ crlf) }
    else if u then quiet (Trailer (n + 1) (mark_step m b)) else quiet Refused) (1 + debt (Trailer n m))
unfolding Small debt
trail_by true u c n b BeginCr e = omega (arith, framed_small c (48 ∷ crlf ++ crlf) 5 (omega arith))
trail_by true u c n b Begin e = absurd cc
trail_by true u c n b Inside e = absurd cc
trail_by true u c n b InsideCr e = absurd cc
trail_by false false c n b m e = omega arith
trail_by false true c n b m e = mark_small m b (n + 1)
  where
    small : (k : ℕ) (x : Mark) → debt (Trailer k x) ≤ 4
    small k Begin = omega arith
    small k BeginCr = omega arith
    small k Inside = omega arith
    small k InsideCr = omega arith

    most : (k : ℕ) (x : Mark) → 3 ≤ debt (Trailer k x)
    most k Begin = omega arith
    most k BeginCr = omega arith
    most k Inside = omega arith
    most k InsideCr = omega arith

    mark_small : (x : Mark) (y k : ℕ) → Small (quiet (Trailer k (mark_step x y))) (1 + debt (Trailer n x))
    mark_small x y k = omega (arith, small k (mark_step x y), most n x)

data_by : (t u : Bool) (n b : ℕ)
    → Small (if t then (if u then quiet Feed else quiet Refused) else record { place = Data (n - 1); out = b ∷ [] }) 1
unfolding Small debt
data_by true true n b = omega arith
data_by true false n b = omega arith
data_by false u n b = omega arith

feed_by : (t : Bool) (c : Bool) → Small (if t then record { place = Line []; out = framed c crlf } else quiet Refused) 2
unfolding Small debt
feed_by true c = omega (arith, framed_small c crlf 2 (omega arith))
feed_by false c = omega arith

step_small : (c : Bool) (p : BodyState) (b : ℕ) → Small (step c p b) (1 + debt p)
unfolding Small debt
step_small c (Plain n) b = omega arith
step_small c Open b = omega arith
step_small c (Line text) b = lined_small c text b (chunk_line_of (text ++ b ∷ [])) refl
step_small c (Data n) b = data_by (n == 0) (b == 13) n b
step_small c Feed b = feed_by (b == 10) c
step_small c (Trailer n m) b = trail_by (is_last m b) (nat_lt (n + 1) 65536) c n b m refl
step_small c Done b = omega arith
step_small c Refused b = omega arith

-- what is written, what is left and what may still come, within what was taken
pub Within : Walk → ℕ → Type 0
Within w n = length w.out + length w.rest + debt w.place ≤ n

within_after : (out : List ℕ) (w : Walk) (d n : ℕ) → length out + d ≤ 1 + n → (m : ℕ) → Within w (m + d)
    → Within (after out w) (m + 1 + n)
unfolding Within
within_after out w d n h m k = omega (arith, h, k, length-append out w.out)

walk_within_by : (t u : Bool) (c : Bool) (p : BodyState) (b : ℕ) (bs : List ℕ) → is_whole_body p ≡ t → is_refused p ≡ u
    → ((q : BodyState) → Within (walk c q bs) (length bs + debt q))
    → Within (walk c p (b ∷ bs)) (length (b ∷ bs) + debt p)
unfolding Within Small
walk_within_by true u c p b bs d r more = subst (λ (w : Walk). length w.out + length w.rest + debt w.place
    ≤ length (b ∷ bs) + debt p) (sym (walk_done c p (b ∷ bs) d)) (omega arith)
walk_within_by false true c p b bs d r more =
    subst (λ (w : Walk). length w.out + length w.rest + debt w.place ≤ length (b ∷ bs) + debt p)
    (sym (ap (λ q. walk c q (b ∷ bs)) (refused_is p r) ∙ walk_refused c (b ∷ bs)))
    (omega (arith, ap debt (refused_is p r)))
walk_within_by false false c p b bs d r more =
    let s = step c p b in
    subst (λ (w : Walk). length w.out + length w.rest + debt w.place ≤ length (b ∷ bs) + debt p)
    (sym (walk_one c p b bs d r))
    (omega (arith, step_small c p b, more s.place, length-append s.out (walk c s.place bs).out))

-- no walk gives more than its bytes and what its place may still give
pub walk_within : (c : Bool) (p : BodyState) (xs : List ℕ) → Within (walk c p xs) (length xs + debt p)
unfolding Within walk
walk_within c p [] = omega arith
walk_within c p (b ∷ bs) = walk_within_by (is_whole_body p) (is_refused p) c p b bs refl refl (λ q. walk_within c q bs)

-- the most that a place may still give
pub debt_most : (p : BodyState) → debt p ≤ 18
unfolding debt
debt_most (Plain n) = omega arith
debt_most Open = omega arith
debt_most (Line text) = omega arith
debt_most (Data n) = omega arith
debt_most Feed = omega arith
debt_most (Trailer n Begin) = omega arith
debt_most (Trailer n BeginCr) = omega arith
debt_most (Trailer n Inside) = omega arith
debt_most (Trailer n InsideCr) = omega arith
debt_most Done = omega arith
debt_most Refused = omega arith

-- for a call that was taken: it writes at most 32 bytes more than it used
pub fed_small : (c : Bool) (p q : BodyState) (input : List ℕ) (used : ℕ) (ended : Bool) (a b : List ℕ)
    → Feeds c p input q used ended a b → length b ≤ length a + used + 32
unfolding Within
fed_small c p q input used ended a b f =
    let w = walk_within c p input in
    omega (
      arith,
      w,
      debt_most p,
      f.within,
      ap length f.wrote,
      length-append a f.grown,
      ap (λ x. length (Walk.out x)) f.walks,
      ap (λ x. length (Walk.rest x)) f.walks,
      length-drop used input,
    )

-- for any call: it writes at most 32 bytes more than its input has
pub part_small : (c : Bool) (p : BodyState) (input a b : List ℕ) → WroteOfBody c p input a b
    → length b ≤ length a + length input + 32
unfolding Within
part_small c p input a b f =
    let w = walk_within c p input in
    omega (
      arith,
      w,
      debt_most p,
      ap length f.wrote,
      length-append a f.grown,
      ap length f.gives,
      length-append f.grown f.more,
    )
