-- The end of a head, found line by line.
use Rattle.std.proofs.Common.{◌≡◌, ℕ, suc, ◌+◌, ◌-◌, ◌<◌, ◌≤◌, List, [], ◌∷◌, Bool, true, false, not, if◌then◌else◌, ◌&&◌, ◌||◌, length, take, drop, Some, None, Option, option_map, refl, sym, ap, ◌∙◌, arith, nat_lt, ltb-true, get_or, length-take, length-drop}
use Rattle.std.proofs.lemmas.Bool.Decides.{nat_tests}
use Rattle.std.proofs.lemmas.List.{take_all}
use Rattle.std.proofs.lemmas.Option.{cond_some}
use Rattle.std.proofs.lemmas.List.Splits.{slice_split_first, slice_split_none, length-slice_split}
use Rattle.std.proofs.lemmas.List.Sums.{sum_by-cons, prefix_len_passes}
use Rattle.std.specs.List.{slice_split, position, position_or_len, prefix_len, before_first, after_first}
use Rattle.sq_base.specs.Lines.{is_lf, ended_lines}
use Rattle.sq_request.specs.Endings.{is_empty_line, bytes_of, empty_front, head_lines, head_end}

-- the bytes up to the end of the first empty line, where a line with bytes has come or comes before it
abbrev pub ends_from : Bool → List (List ℕ) → Option ℕ
ends_from begun [] = None
ends_from begun (l ∷ ls) =
    if begun && is_empty_line l then Some (length l + 1)
    else option_map (λ n. length l + 1 + n) (ends_from (begun || not (is_empty_line l)) ls)

pub mapped_twice : {A B C : Type 0} (f : B → C) (g : A → B) (h : A → C) (o : Option A) → ((x : A) → f (g x) ≡ h x)
    → option_map f (option_map g o) ≡ option_map h o
mapped_twice f g h None same = refl
mapped_twice f g h (Some x) same = ap (λ t. Some t) (same x)

mapped_same : {A B : Type 0} (f g : A → B) (o : Option A) → ((x : A) → f x ≡ g x) → option_map f o ≡ option_map g o
mapped_same f g None same = refl
mapped_same f g (Some x) same = ap (λ t. Some t) (same x)

test_suc : (n m : ℕ) → nat_lt (1 + n) (suc m) ≡ nat_lt n m
test_suc n m = grind (arith, nat_tests)

test_front : (m : ℕ) → nat_lt 0 (suc m) ≡ true
test_front m = grind (arith, nat_tests)

placed : (b : Bool) (n m : ℕ)
    → (if nat_lt (if not b then 1 + n else 0) (suc m) then Some (if not b then 1 + n else 0) else None)
    ≡ (if b then Some 0 else option_map (λ k. 1 + k) (if nat_lt n m then Some n else None))
placed true n m = rw (test_front m) refl
placed false n m = rw (test_suc n m)
    (elim (nat_lt n m) as (λ t. (if t then Some (1 + n) else None)
    ≡ option_map (λ k. 1 + k) (if t then Some n else None)) [ true ↦ refl | false ↦ refl ])

-- the first place in a list, by its first element
pub position_cons : {A : Type 0} (p : A → Bool) (x : A) (xs : List A)
    → position p (x ∷ xs) ≡ (if p x then Some 0 else option_map (λ n. 1 + n) (position p xs))
position_cons p x xs = placed (p x) (position_or_len p xs) (length xs)

-- a place that is found stands in the list
pub position_below : (p : ℕ → Bool) (xs : List ℕ) (k : ℕ) → position p xs ≡ Some k → k < length xs
position_below p xs k h = let parts = cond_some _ _ _ h in omega (arith, parts.1, ltb-true _ _ parts.0)

one_line_more : (n : ℕ) (l : List ℕ) (ls : List (List ℕ))
    → length l + 1 + bytes_of (take n ls) ≡ bytes_of (take (1 + n) (l ∷ ls))
one_line_more n l ls = let e : 1 + n ≡ suc n = omega arith in
    rw e (sym (sum_by-cons (λ line. length line + 1) l (take n ls)))

-- the same of the lines of a head, if there is one
one_line_more_in : (l : List ℕ) (ls : List (List ℕ)) (o : Option ℕ)
    → option_map (λ n. length l + 1 + n) (option_map (λ n. bytes_of (take n ls)) o)
    ≡ option_map (λ n. bytes_of (take n (l ∷ ls))) (option_map (λ n. 1 + n) o)
one_line_more_in l ls None = refl
one_line_more_in l ls (Some n) = ap (λ t. Some t) (one_line_more n l ls)

begun_step : (b : Bool) (l : List ℕ) (ls : List (List ℕ)) (o : Option ℕ)
    → (if b then Some (length l + 1)
    else option_map (λ n. length l + 1 + n) (option_map (λ n. bytes_of (take (n + 1) ls)) o))
    ≡ option_map (λ n. bytes_of (take (n + 1) (l ∷ ls))) (if b then Some 0 else option_map (λ n. 1 + n) o)
begun_step true l ls o = let e : length l + 1 ≡ 0 + (length l + 1) = omega arith in ap (λ t. Some t) e
begun_step false l ls None = refl
begun_step false l ls (Some n) = let e : 1 + (n + 1) ≡ 1 + n + 1 = omega arith in
    ap (λ t. Some t) (one_line_more (n + 1) l ls ∙ ap (λ m. bytes_of (take m (l ∷ ls))) e)

begun_ends : (ls : List (List ℕ))
    → ends_from true ls ≡ option_map (λ n. bytes_of (take (n + 1) ls)) (position is_empty_line ls)
begun_ends [] = refl
begun_ends (l ∷ ls) =
    rw (position_cons is_empty_line l ls, begun_ends ls) (begun_step (is_empty_line l) l ls (position is_empty_line ls))

-- the lines of a head by the number of empty ones at the front
lines_by : ℕ → List (List ℕ) → Option ℕ
lines_by k ls = option_map (λ n. k + n + 1) (position is_empty_line (drop k ls))

empty_first : (l : List ℕ) (ls : List (List ℕ)) → is_empty_line l ≡ true
    → head_lines (l ∷ ls) ≡ option_map (λ n. 1 + n) (head_lines ls)
unfolding lines_by
empty_first l ls e =
    let front : empty_front (l ∷ ls) ≡ suc (empty_front ls) = rw e (omega arith) in
    ap (λ k. lines_by k (l ∷ ls)) front
    ∙ sym (mapped_twice (λ n. 1 + n) (λ n. empty_front ls + n + 1) (λ n. suc (empty_front ls) + n + 1)
    (position is_empty_line (drop (empty_front ls) ls)) (λ n. omega arith))

full_first : (l : List ℕ) (ls : List (List ℕ)) → is_empty_line l ≡ false
    → head_lines (l ∷ ls) ≡ option_map (λ n. 1 + n) (option_map (λ n. n + 1) (position is_empty_line ls))
unfolding lines_by
full_first l ls e =
    let front : empty_front (l ∷ ls) ≡ 0 = rw e refl in
    ap (λ k. lines_by k (l ∷ ls)) front
    ∙ ap (option_map (λ n. 0 + n + 1)) (position_cons is_empty_line l ls ∙ rw e refl)
    ∙ mapped_twice (λ n. 0 + n + 1) (λ n. 1 + n) (λ n. 1 + (n + 1)) (position is_empty_line ls) (λ n. omega arith)
    ∙ sym (mapped_twice (λ n. 1 + n) (λ n. n + 1) (λ n. 1 + (n + 1)) (position is_empty_line ls) (λ n. refl))

first_step : (b : Bool) (l : List ℕ) (ls : List (List ℕ)) → is_empty_line l ≡ b
    → ends_from false ls ≡ option_map (λ n. bytes_of (take n ls)) (head_lines ls)
    → ends_from false (l ∷ ls) ≡ option_map (λ n. bytes_of (take n (l ∷ ls))) (head_lines (l ∷ ls))
first_step true l ls e h =
    let start : ends_from false (l ∷ ls) ≡ option_map (λ n. length l + 1 + n) (ends_from false ls) = rw e refl in
    start ∙ ap (option_map (λ n. length l + 1 + n)) h ∙ one_line_more_in l ls (head_lines ls)
    ∙ ap (option_map (λ n. bytes_of (take n (l ∷ ls)))) (sym (empty_first l ls e))
first_step false l ls e h =
    let start : ends_from false (l ∷ ls) ≡ option_map (λ n. length l + 1 + n) (ends_from true ls) = rw e refl in
    start ∙ ap (option_map (λ n. length l + 1 + n))
    (begun_ends ls ∙ sym (mapped_twice (λ n. bytes_of (take n ls)) (λ n. n + 1) (λ n. bytes_of (take (n + 1) ls))
    (position is_empty_line ls) (λ n. refl)))
    ∙ one_line_more_in l ls (option_map (λ n. n + 1) (position is_empty_line ls))
    ∙ ap (option_map (λ n. bytes_of (take n (l ∷ ls)))) (sym (full_first l ls e))

all_ends : (ls : List (List ℕ)) → ends_from false ls ≡ option_map (λ n. bytes_of (take n ls)) (head_lines ls)
all_ends [] = refl
all_ends (l ∷ ls) = first_step (is_empty_line l) l ls refl (all_ends ls)

-- the end of a head, line by line
pub head_end_is : (bytes : List ℕ) → ends_from false (ended_lines bytes) ≡ head_end bytes
unfolding head_end
head_end_is bytes = all_ends (ended_lines bytes)

pub but_last_cons : (l : List ℕ) (ls : List (List ℕ)) → 0 < length ls
    → take (length (l ∷ ls) - 1) (l ∷ ls) ≡ l ∷ take (length ls - 1) ls
but_last_cons l [] h = absurd (omega arith)
but_last_cons l (m ∷ ms) h =
    let e : length (l ∷ m ∷ ms) - 1 ≡ suc (length (m ∷ ms) - 1) = omega arith in
    rw e refl

-- a line and what follows it
pub lines_next : (bytes : List ℕ) (n : ℕ) → position is_lf bytes ≡ Some n
    → ended_lines bytes ≡ take n bytes ∷ ended_lines (drop (n + 1) bytes)
lines_next bytes n h =
    let parts = cond_some _ _ _ h in
    let split = slice_split_first is_lf bytes 0 (ltb-true _ _ parts.0) in
    let more : 0 < length (slice_split is_lf (after_first is_lf bytes)) =
    omega (arith, length-slice_split is_lf (after_first is_lf bytes)) in
    rw (← parts.1) (ap (λ ls. take (length ls - 1) ls) split
    ∙ but_last_cons (before_first is_lf bytes) (slice_split is_lf (after_first is_lf bytes)) more)

not_some : {A : Type 0} (b : Bool) (x : A) → (if b then Some x else None) ≡ None → b ≡ false
not_some true x h = absurd (cc)
not_some false x h = refl

from_not : (b : Bool) → not b ≡ true → b ≡ false
from_not true h = absurd (cc)
from_not false h = refl

-- without LF no line ends
pub lines_none : (bytes : List ℕ) → position is_lf bytes ≡ None → ended_lines bytes ≡ []
lines_none bytes h =
    let past : nat_lt (position_or_len is_lf bytes) (length bytes) ≡ false =
    not_some _ (position_or_len is_lf bytes) h in
    let all : length bytes ≤ prefix_len (λ b. not (is_lf b)) bytes = grind (arith, nat_tests) in
    ap (λ ls. take (length ls - 1) ls)
    (slice_split_none is_lf bytes
    (λ k d below. from_not (is_lf (get_or bytes k d)) (prefix_len_passes (λ b. not (is_lf b)) bytes k d (omega arith))))

-- what is left of the bytes gives the end of the head
pub record LeavesEnd (passed : ℕ) (begun : Bool) (rest bytes : List ℕ) : Type 0 where
  pub ends : option_map (λ n. passed + n) (ends_from begun (ended_lines rest)) ≡ head_end bytes
  pub place : passed + length rest ≡ length bytes

-- before the first line all is left
pub leaves_all : (bytes : List ℕ) → LeavesEnd 0 false bytes bytes
leaves_all bytes = record {
  ends = mapped_none (ends_from false (ended_lines bytes)) ∙ head_end_is bytes;
  place = omega arith;
}
  where
    mapped_none : (o : Option ℕ) → option_map (λ n. 0 + n) o ≡ o
    mapped_none None = refl
    mapped_none (Some n) = let e : 0 + n ≡ n = omega arith in ap (λ t. Some t) e

-- no line ends in the rest
pub no_end : (passed : ℕ) (begun : Bool) (rest bytes : List ℕ) → LeavesEnd passed begun rest bytes
    → position is_lf rest ≡ None → head_end bytes ≡ None
no_end passed begun rest bytes h none = sym h.ends
    ∙ ap (λ ls. option_map (λ n. passed + n) (ends_from begun ls)) (lines_none rest none)

-- the first line of the rest
pub line_first : (begun : Bool) (n : ℕ) (rest : List ℕ) → position is_lf rest ≡ Some n → n < length rest
    → ends_from begun (ended_lines rest)
    ≡ (if begun && is_empty_line (take n rest) then Some (n + 1)
    else option_map (λ m. n + 1 + m)
    (ends_from (begun || not (is_empty_line (take n rest))) (ended_lines (drop (n + 1) rest))))
line_first begun n rest at below =
    let count : length (take n rest) ≡ n = omega (arith, length-take n rest) in
    ap (ends_from begun) (lines_next rest n at) ∙ rw count refl

-- it is empty, and a line with bytes came before
pub end_here : (passed n : ℕ) (rest bytes : List ℕ) → LeavesEnd passed true rest bytes → position is_lf rest ≡ Some n
    → n < length rest
    → is_empty_line (take n rest) ≡ true → head_end bytes ≡ Some (passed + (n + 1))
end_here passed n rest bytes h at below empty =
    sym h.ends ∙ ap (option_map (λ m. passed + m)) (line_first true n rest at below) ∙ rw empty refl

-- it does not end the head
passed_line : (passed n : ℕ) (begun : Bool) (rest bytes : List ℕ) → LeavesEnd passed begun rest bytes
    → position is_lf rest ≡ Some n → n < length rest
    → (begun && is_empty_line (take n rest)) ≡ false
    → LeavesEnd (passed + (n + 1)) (begun || not (is_empty_line (take n rest))) (drop (n + 1) rest) bytes
passed_line passed n begun rest bytes h at below on = record {
  ends =
      let more = ends_from (begun || not (is_empty_line (take n rest))) (ended_lines (drop (n + 1) rest)) in
      let e : ends_from begun (ended_lines rest) ≡ option_map (λ m. n + 1 + m) more = line_first begun n rest at below
      ∙ rw on refl in
      sym (mapped_twice (λ m. passed + m) (λ m. n + 1 + m) (λ m. passed + (n + 1) + m) more (λ m. omega arith))
      ∙ ap (option_map (λ m. passed + m)) (sym e) ∙ h.ends;
  place = omega (arith, length-drop (n + 1) rest, h.place);
}

rest_behind : (n : ℕ) (rest : List ℕ) → take (length rest - n) (drop n rest) ≡ drop n rest
rest_behind n rest = take_all (length rest - n) (drop n rest) (omega (arith, length-drop n rest))

-- a line with bytes
pub line_begins : (passed n : ℕ) (begun next : Bool) (rest bytes : List ℕ) → LeavesEnd passed begun rest bytes
    → position is_lf rest ≡ Some n → n < length rest
    → is_empty_line (take n rest) ≡ false → next ≡ true
    → LeavesEnd (passed + (n + 1)) next (take (length rest - (n + 1)) (drop (n + 1) rest)) bytes
line_begins passed n begun next rest bytes h at below full e =
    let on : (begun && is_empty_line (take n rest)) ≡ false =
    rw full (elim begun as (λ b. (b && false) ≡ false) [ true ↦ refl | false ↦ refl ]) in
    let same : (begun || not (is_empty_line (take n rest))) ≡ next =
    rw (full, e) (elim begun as (λ b. (b || true) ≡ true) [ true ↦ refl | false ↦ refl ]) in
    rw (rest_behind (n + 1) rest, ← same) (passed_line passed n begun rest bytes h at below on)

-- an empty line in front of a head
pub stays : (passed n : ℕ) (begun next : Bool) (rest bytes : List ℕ) → LeavesEnd passed begun rest bytes
    → position is_lf rest ≡ Some n → n < length rest
    → is_empty_line (take n rest) ≡ true → begun ≡ false → next ≡ begun
    → LeavesEnd (passed + (n + 1)) next (take (length rest - (n + 1)) (drop (n + 1) rest)) bytes
stays passed n begun next rest bytes h at below empty none e =
    let on : (begun && is_empty_line (take n rest)) ≡ false = rw none refl in
    let same : (begun || not (is_empty_line (take n rest))) ≡ next = rw (empty, e, none) refl in
    rw (rest_behind (n + 1) rest, ← same) (passed_line passed n begun rest bytes h at below on)
