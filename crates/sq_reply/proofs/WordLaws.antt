-- Words and spaces of a line, one at a time.
use Rattle.std.proofs.Common.{◌≡◌, ℕ, zero, suc, ◌+◌, ◌≤◌, ◌<◌, ◌++◌, List, [], ◌∷◌, length, drop, take, Bool, true, false, ◌&&◌, ◌||◌, ◌==◌, if◌then◌else◌, Some, None, is_some, refl, sym, ap, ◌∙◌, arith, append_assoc, length-drop}
use borrow.Author.Tests.{eqb-true}
use Rattle.std.specs.Option.{option_map, option_and_then}
use Rattle.std.specs.List.{prefix_len}
use Rattle.std.specs.declared.option.Option.{Option}
use Rattle.sq_base.specs.declared.helpers.Pair.{Pair}
use Rattle.sq_base.specs.Replies.{PairsFound, is_key, is_word_byte, is_value_byte, quoted_len, quoted_in, plain_in, value_in, after_name, reply_word_in, piece_in, pairs_in, pairs_of, in_front, without_last_cr}
use Rattle.sq_reply.specs.Words.{has_any, pairs_of_one}
use Rattle.sq_reply.specs.declared.words.Written.{Written}

one : (x : ℕ) (t : Bool) (b : ℕ) → (x ∷ (if t then [] else b ∷ [])) ≡ (if t then x ∷ [] else x ∷ b ∷ [])
one x true b = refl
one x false b = refl

later : (x : ℕ) (t : Bool) (ys zs : List ℕ) → (x ∷ (if t then ys else zs)) ≡ (if t then x ∷ ys else x ∷ zs)
later x true ys zs = refl
later x false ys zs = refl

-- the byte at the end of a line
pub without_cr_last : (xs : List ℕ) (b : ℕ) → without_last_cr (xs ++ b ∷ []) ≡ (if b == 13 then xs else xs ++ b ∷ [])
unfolding without_last_cr
without_cr_last [] b = refl
without_cr_last (x ∷ []) b = one x (b == 13) b
without_cr_last (x ∷ y ∷ xs) b = ap (λ l. x ∷ l) (without_cr_last (y ∷ xs) b)
    ∙ later x (b == 13) (y ∷ xs) ((y ∷ xs) ++ b ∷ [])

-- a pair leaves what stands behind it
pair_rest : (t : Bool) (ps : List Pair) (rest : List ℕ) (w : PairsFound)
    → (if t then Some (ps, rest) else None) ≡ Some w → w.1 ≡ rest
pair_rest true ps rest w e = let same : (ps, rest) ≡ w = cc in ap (λ (v : PairsFound). v.1) (sym same)
pair_rest false ps rest w e = absurd (cc)

quoted_le : (key bytes : List ℕ) (place : Option ℕ) (w : PairsFound) → quoted_in key bytes place ≡ Some w
    → length w.1 ≤ length bytes
quoted_le key bytes None w e = absurd (cc)
quoted_le key bytes (Some n) w e = rw (pair_rest _ _ _ w e, length-drop (n + 1) bytes) (omega arith)

plain_le : (key bytes : List ℕ) (w : PairsFound) → plain_in key bytes ≡ Some w → length w.1 ≤ length bytes
plain_le key bytes w e = rw (pair_rest _ _ _ w e, length-drop (prefix_len is_value_byte bytes) bytes) (omega arith)

chosen_le : (t : Bool) (x y : Option PairsFound) (w : PairsFound) (limit : ℕ) → (if t then x else y) ≡ Some w
    → (x ≡ Some w → length w.1 ≤ limit) → (y ≡ Some w → length w.1 ≤ limit) → length w.1 ≤ limit
chosen_le true x y w limit e h k = h e
chosen_le false x y w limit e h k = k e

value_le : (key bytes : List ℕ) (w : PairsFound) → value_in key bytes ≡ Some w → length w.1 ≤ length bytes
unfolding value_in
value_le key [] w e = plain_le key [] w e
value_le key (b ∷ bs) w e =
    chosen_le (b == 34) _ _ w (length (b ∷ bs)) e
    (λ h. let le = quoted_le key bs (quoted_len false bs) w h in omega arith)
    (λ h. plain_le key (b ∷ bs) w h)

self_le : (rest : List ℕ) (w : PairsFound) → Some ([], rest) ≡ Some w → length w.1 ≤ length rest
self_le rest w e = let le = pair_rest true [] rest w e in rw le (omega arith)

after_le : (name rest : List ℕ) (w : PairsFound) → after_name name rest ≡ Some w → length w.1 ≤ length rest
after_le name [] w e = self_le [] w e
after_le name (b ∷ bs) w e =
    chosen_le (b == 32) _ _ w (length (b ∷ bs)) e (λ h. self_le (b ∷ bs) w h)
    (λ h. chosen_le (b == 61 && is_key name) (value_in name bs) None w (length (b ∷ bs)) h
    (λ k. let le = value_le name bs w k in omega arith) (λ k. absurd (cc)))

key_is_false : (t : Bool) (x : Option PairsFound) (w : PairsFound) → (if t && false then x else None) ≡ Some w → ⊥
key_is_false true x w e = cc
key_is_false false x w e = cc

-- without a byte in front of it, no word stands there
pub no_word : (b : ℕ) (bs : List ℕ) (w : PairsFound) → (b == 32) ≡ false → after_name [] (b ∷ bs) ≡ Some w → ⊥
no_word b bs w h e = key_is_false (b == 61) (value_in [] bs) w (rw h at e)

word_by : (t : Bool) (b : ℕ) (bs : List ℕ) (w : PairsFound) → is_word_byte b ≡ t → (b == 32) ≡ false
    → reply_word_in (b ∷ bs) ≡ Some w → length w.1 ≤ length bs
unfolding reply_word_in
word_by true b bs w h sp e =
    let n : ℕ = prefix_len is_word_byte (b ∷ bs) in
    let some : prefix_len is_word_byte (b ∷ bs) ≡ 1 + prefix_len is_word_byte bs = rw h refl in
    let le = after_le (take n (b ∷ bs)) (drop n (b ∷ bs)) w e in
    let rest = length-drop n (b ∷ bs) in
    omega (arith, le, rest, some)
word_by false b bs w h sp e =
    let shape : reply_word_in (b ∷ bs) ≡ after_name [] (b ∷ bs) = rw h refl in
    absurd (no_word b bs w sp (sym shape ∙ e))

piece_by : (t : Bool) (b : ℕ) (bs : List ℕ) (w : PairsFound) → (b == 32) ≡ t → piece_in (b ∷ bs) ≡ Some w
    → length w.1 ≤ length bs
piece_by true b bs w h e = self_le bs w (rw h at e)
piece_by false b bs w h e = word_by (is_word_byte b) b bs w refl h (rw h at e)

-- a piece takes a byte at least
pub piece_le : (b : ℕ) (bs : List ℕ) (w : PairsFound) → piece_in (b ∷ bs) ≡ Some w → length w.1 ≤ length bs
piece_le b bs w e = piece_by (b == 32) b bs w refl e

and_then_same : (o : Option PairsFound) (f g : PairsFound → Option (List Pair))
    → ((w : PairsFound) → o ≡ Some w → f w ≡ g w) → option_and_then f o ≡ option_and_then g o
and_then_same None f g h = refl
and_then_same (Some w) f g h = h w refl

-- no more than the length matters
pairs_more : (n m : ℕ) (bs : List ℕ) → length bs ≤ n → length bs ≤ m → pairs_in n bs ≡ pairs_in m bs
unfolding pairs_in
pairs_more zero zero bs h k = refl
pairs_more zero (suc m) [] h k = refl
pairs_more (suc n) zero [] h k = refl
pairs_more (suc n) (suc m) [] h k = refl
pairs_more zero (suc m) (b ∷ bs) h k = absurd (omega arith)
pairs_more (suc n) zero (b ∷ bs) h k = absurd (omega arith)
pairs_more (suc n) (suc m) (b ∷ bs) h k =
    and_then_same (piece_in (b ∷ bs)) (λ w. in_front w.0 (pairs_in n w.1)) (λ w. in_front w.0 (pairs_in m w.1))
    (λ w e. let le = piece_le b bs w e in ap (in_front w.0) (pairs_more n m w.1 (omega arith) (omega arith)))

pairs_cons : (b : ℕ) (bs : List ℕ)
    → pairs_of (b ∷ bs) ≡ option_and_then (λ w. in_front w.0 (pairs_of w.1)) (piece_in (b ∷ bs))
unfolding pairs_in
pairs_cons b bs =
    and_then_same (piece_in (b ∷ bs)) (λ w. in_front w.0 (pairs_in (length bs) w.1)) (λ w. in_front w.0 (pairs_of w.1))
    (λ w e. ap (in_front w.0) (pairs_more (length bs) (length w.1) w.1 (piece_le b bs w e) (omega arith)))

-- the end
pub pairs_end : (bytes : List ℕ) → (length bytes == 0) ≡ true → pairs_of bytes ≡ Some []
unfolding pairs_in
pairs_end [] h = refl
pairs_end (b ∷ bs) h = absurd (let some = eqb-true (length (b ∷ bs)) 0 h in omega arith)

-- the first piece's pairs stand in front
pub pairs_next : (bytes : List ℕ) (w : PairsFound) → piece_in bytes ≡ Some w
    → pairs_of bytes ≡ in_front w.0 (pairs_of w.1)
pairs_next [] w e = absurd (cc)
pairs_next (b ∷ bs) w e = pairs_cons b bs ∙ ap (option_and_then (λ (v : PairsFound). in_front v.0 (pairs_of v.1))) e

-- no piece stands there, and not the end
pub pairs_stop : (bytes : List ℕ) → (length bytes == 0) ≡ false → piece_in bytes ≡ None → pairs_of bytes ≡ None
pairs_stop [] h e = absurd (cc)
pairs_stop (b ∷ bs) h e = pairs_cons b bs ∙ ap (option_and_then (λ (v : PairsFound). in_front v.0 (pairs_of v.1))) e

-- a piece leaves less
pub piece_less : (bytes : List ℕ) (w : PairsFound) → piece_in bytes ≡ Some w → length w.1 < length bytes
piece_less [] w e = absurd (cc)
piece_less (b ∷ bs) w e = let le = piece_le b bs w e in omega arith

pub in_front_nil : (more : Option (List Pair)) → in_front [] more ≡ more
in_front_nil None = refl
in_front_nil (Some ps) = refl

pub in_front_append : (front back : List Pair) (more : Option (List Pair))
    → in_front front (in_front back more) ≡ in_front (front ++ back) more
in_front_append front back None = refl
in_front_append front back (Some ps) = ap (λ (l : List Pair). Some l) (sym (append_assoc front back ps))

-- whether there is a pair, where there is one in front or not
abbrev pub any_with : Bool → Option (List Pair) → Option Bool
any_with any more = option_map (λ ps. any || has_any ps) more

pub any_with_false : (more : Option (List Pair)) → any_with false more ≡ option_map has_any more
any_with_false None = refl
any_with_false (Some ps) = refl

any_more : (any : Bool) (ps others : List Pair)
    → (any || has_any (ps ++ others)) ≡ ((any || has_any ps) || has_any others)
any_more true ps others = refl
any_more false [] others = refl
any_more false (p ∷ ps) others = refl

pub any_with_in_front : (any : Bool) (ps : List Pair) (more : Option (List Pair))
    → any_with any (in_front ps more) ≡ any_with (any || has_any ps) more
any_with_in_front any ps None = refl
any_with_in_front any ps (Some others) = ap (λ (t : Bool). Some t) (any_more any ps others)

pub any_of_one : (pair : Option Written) → has_any (pairs_of_one pair) ≡ is_some pair
any_of_one None = refl
any_of_one (Some w) = refl

pub any_with_none : (any : Bool) → any_with any (Some []) ≡ Some any
any_with_none true = refl
any_with_none false = refl
