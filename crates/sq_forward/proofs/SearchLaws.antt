-- The end of a head, looked for byte by byte.
use Rattle.std.proofs.Common.{◌≡◌, ℕ, suc, ◌+◌, ◌-◌, ◌<◌, ◌≤◌, List, [], ◌∷◌, ◌++◌, Bool, true, false, not, if◌then◌else◌, ◌&&◌, ◌||◌, ◌==◌, length, take, drop, get_or, Some, None, Option, option_map, refl, sym, ap, ◌∙◌, arith, append-nil, append_assoc, length-take, take-append-drop}
use Rattle.std.proofs.lemmas.List.{take_more, drop_more}
use Rattle.std.proofs.lemmas.List.Splits.{slice_split-cons_yes, slice_split-cons_no, length-slice_split}
use Rattle.std.specs.List.{slice_split, onto_first}
use Rattle.sq_base.specs.Bytes.{cr}
use Rattle.sq_base.specs.Lines.{is_lf, ended_lines}
use Rattle.sq_request.specs.Endings.{is_empty_line, head_end, IsWholeHead}
use Rattle.sq_request.proofs.EndLaws.{ends_from, mapped_twice, but_last_cons, head_end_is}
use Rattle.sq_request.proofs.MoreLaws.{head_end_within}
use Rattle.sq_forward.specs.Searching.{is_filled, filled_by, line_by, begun_by, ends_by, end_behind, IsSought}
use Rattle.sq_forward.specs.declared.searching.LinePart.{LinePart}
use Rattle.sq_forward.specs.declared.searching.LinePart.TheVariants.{Nothing, Return, Bytes}

mapped_none : (o : Option ℕ) → option_map (λ n. 0 + n) o ≡ o
mapped_none None = refl
mapped_none (Some n) = let e : 0 + n ≡ n = omega arith in ap (λ t. Some t) e

-- the line that these bytes end is empty, by what came of it before
abbrev ends_empty : LinePart → List ℕ → Bool
ends_empty Nothing l = is_empty_line l
ends_empty Return [] = true
ends_empty Return (b ∷ bs) = false
ends_empty Bytes l = false

-- the bytes up to the end of the first empty line, where something came of the first line before
abbrev ends_within : Bool → LinePart → List (List ℕ) → Option ℕ
ends_within begun line [] = None
ends_within begun line (l ∷ ls) =
    if begun && ends_empty line l then Some (length l + 1)
    else option_map (λ n. length l + 1 + n) (ends_from (begun || not (ends_empty line l)) ls)

fresh_line : (begun : Bool) (ls : List (List ℕ)) → ends_within begun Nothing ls ≡ ends_from begun ls
fresh_line begun [] = refl
fresh_line begun (l ∷ ls) = refl

-- a byte more of the line
empty_cr : (t : Bool) (l : List ℕ) (b : ℕ) → (b == cr) ≡ t
    → is_empty_line (b ∷ l) ≡ ends_empty (if t then Return else Bytes) l
empty_cr true [] b e = e
empty_cr false [] b e = e
empty_cr true (c ∷ l) b e = refl
empty_cr false (c ∷ l) b e = refl

empty_more : (line : LinePart) (b : ℕ) (l : List ℕ) → ends_empty line (b ∷ l) ≡ ends_empty (filled_by line b) l
empty_more Nothing b l = empty_cr (b == cr) l b refl
empty_more Return b l = refl
empty_more Bytes b l = refl

empty_now : (line : LinePart) → ends_empty line [] ≡ not (is_filled line)
empty_now Nothing = refl
empty_now Return = refl
empty_now Bytes = refl

-- the lines of bytes whose first line has this byte in front
abbrev onto : ℕ → List (List ℕ) → List (List ℕ)
onto b [] = []
onto b (l ∷ ls) = (b ∷ l) ∷ ls

but_last_onto : (b : ℕ) (parts : List (List ℕ))
    → take (length (onto_first b parts) - 1) (onto_first b parts) ≡ onto b (take (length parts - 1) parts)
but_last_onto b [] = refl
but_last_onto b (p ∷ []) = refl
but_last_onto b (p ∷ q ∷ qs) =
    but_last_cons (b ∷ p) (q ∷ qs) (omega arith) ∙ ap (onto b) (sym (but_last_cons p (q ∷ qs) (omega arith)))

lines_lf : (b : ℕ) (bs : List ℕ) → is_lf b ≡ true → ended_lines (b ∷ bs) ≡ [] ∷ ended_lines bs
lines_lf b bs e =
    ap (λ ls. take (length ls - 1) ls) (slice_split-cons_yes is_lf b bs e)
    ∙ but_last_cons [] (slice_split is_lf bs) (omega (arith, length-slice_split is_lf bs))

lines_other : (b : ℕ) (bs : List ℕ) → is_lf b ≡ false → ended_lines (b ∷ bs) ≡ onto b (ended_lines bs)
lines_other b bs e = ap (λ ls. take (length ls - 1) ls) (slice_split-cons_no is_lf b bs e)
    ∙ but_last_onto b (slice_split is_lf bs)

-- a line that is a byte longer
shifted : (t : Bool) (k : ℕ) (o : Option ℕ)
    → option_map (λ n. 1 + n) (if t then Some (k + 1) else option_map (λ n. k + 1 + n) o)
    ≡ (if t then Some (suc k + 1) else option_map (λ n. suc k + 1 + n) o)
shifted true k o = let e : 1 + (k + 1) ≡ suc k + 1 = omega arith in ap (λ t. Some t) e
shifted false k o = mapped_twice (λ n. 1 + n) (λ n. k + 1 + n) (λ n. suc k + 1 + n) o (λ n. omega arith)

byte_more : (begun : Bool) (line : LinePart) (b : ℕ) (ls : List (List ℕ))
    → option_map (λ n. 1 + n) (ends_within begun (filled_by line b) ls) ≡ ends_within begun line (onto b ls)
byte_more begun line b [] = refl
byte_more begun line b (l ∷ ls) =
    rw (empty_more line b l)
    (shifted (begun && ends_empty (filled_by line b) l) (length l)
    (ends_from (begun || not (ends_empty (filled_by line b) l)) ls))

-- a line ends here
line_ends : (begun : Bool) (line : LinePart) (o : Option ℕ) (ls : List (List ℕ))
    → o ≡ ends_from (begun || is_filled line) ls
    → (if begun && not (is_filled line) then Some 1 else option_map (λ n. 1 + n) o) ≡ ends_within begun line ([] ∷ ls)
line_ends begun Nothing o ls e = ap (λ x. if begun && true then Some 1 else option_map (λ n. 1 + n) x) e
line_ends begun Return o ls e = ap (λ x. if begun && true then Some 1 else option_map (λ n. 1 + n) x) e
line_ends begun Bytes o ls e = ap (λ x. if begun && false then Some 1 else option_map (λ n. 1 + n) x) e

or_false : (b : Bool) → (b || false) ≡ b
or_false true = refl
or_false false = refl

end_by_byte : (begun : Bool) (line : LinePart) (b : ℕ) (bs : List ℕ) (t : Bool) → is_lf b ≡ t
    → ((g : Bool) (l : LinePart) → end_behind g l bs ≡ ends_within g l (ended_lines bs))
    → end_behind begun line (b ∷ bs) ≡ ends_within begun line (ended_lines (b ∷ bs))
end_by_byte begun line b bs true e rest =
    let step : end_behind begun line (b ∷ bs)
    ≡ (if begun && not (is_filled line) then Some 1
    else option_map (λ n. 1 + n) (end_behind (begun || is_filled line) Nothing bs)) = rw e refl in
    step
    ∙ line_ends begun line (end_behind (begun || is_filled line) Nothing bs) (ended_lines bs)
    (rest (begun || is_filled line) Nothing ∙ fresh_line (begun || is_filled line) (ended_lines bs))
    ∙ ap (ends_within begun line) (sym (lines_lf b bs e))
end_by_byte begun line b bs false e rest =
    let step : end_behind begun line (b ∷ bs)
    ≡ option_map (λ n. 1 + n) (end_behind (begun || false) (filled_by line b) bs) = rw e refl in
    step
    ∙ ap (λ t. option_map (λ n. 1 + n) (end_behind t (filled_by line b) bs)) (or_false begun)
    ∙ ap (option_map (λ n. 1 + n)) (rest begun (filled_by line b))
    ∙ byte_more begun line b (ended_lines bs)
    ∙ ap (ends_within begun line) (sym (lines_other b bs e))

end_by_lines : (begun : Bool) (line : LinePart) (bytes : List ℕ)
    → end_behind begun line bytes ≡ ends_within begun line (ended_lines bytes)
end_by_lines begun line [] = refl
end_by_lines begun line (b ∷ bs) = end_by_byte begun line b bs (is_lf b) refl (λ g l. end_by_lines g l bs)

-- the end of a head, byte by byte
head_end_behind : (bytes : List ℕ) → head_end bytes ≡ end_behind false Nothing bytes
head_end_behind bytes = sym
    (end_by_lines false Nothing bytes ∙ fresh_line false (ended_lines bytes) ∙ head_end_is bytes)

-- before the first byte
pub sought_first : IsSought [] false Nothing
sought_first = record { goes_on = λ more. head_end_behind more ∙ sym (mapped_none (end_behind false Nothing more)) }

-- the next byte ends no head
pub sought_more : (bytes : List ℕ) (at d : ℕ) (begun later : Bool) (line after : LinePart)
    → IsSought (take at bytes) begun line → at < length bytes
    → ends_by begun line (get_or bytes at d) ≡ false → later ≡ begun_by begun line (get_or bytes at d)
    → after ≡ line_by line (get_or bytes at d) → IsSought (take (at + 1) bytes) later after
sought_more bytes at d begun later line after h below none l t = record {
  goes_on = λ more.
      let b = get_or bytes at d in
      let front : take (at + 1) bytes ≡ take at bytes ++ b ∷ [] = take_more bytes at d below in
      let behind = end_behind (begun_by begun line b) (line_by line b) more in
      let step : end_behind begun line (b ∷ more) ≡ option_map (λ n. 1 + n) behind = rw none refl in
      let counted : (n : ℕ) → length (take at bytes) + (1 + n) ≡ length (take (at + 1) bytes) + n =
      λ n. omega (arith, length-take at bytes, length-take (at + 1) bytes) in
      ap (λ x. head_end (x ++ more)) front ∙ ap head_end (append_assoc (take at bytes) (b ∷ []) more)
      ∙ h.goes_on (b ∷ more)
      ∙ ap (option_map (λ n. length (take at bytes) + n)) step
      ∙ mapped_twice (λ n. length (take at bytes) + n) (λ n. 1 + n) (λ n. length (take (at + 1) bytes) + n) behind
      counted
      ∙ ap (λ e. option_map (λ n. length (take (at + 1) bytes) + n) (end_behind e (line_by line b) more)) (sym l)
      ∙ ap (λ e. option_map (λ n. length (take (at + 1) bytes) + n) (end_behind later e more)) (sym t);
}

-- the next byte ends one
pub found_here : (bytes : List ℕ) (at d : ℕ) (begun : Bool) (line : LinePart) → IsSought (take at bytes) begun line
    → at < length bytes
    → ends_by begun line (get_or bytes at d) ≡ true → head_end bytes ≡ Some (at + 1)
found_here bytes at d begun line h below ends =
    let b = get_or bytes at d in
    let rest : drop at bytes ≡ b ∷ drop (at + 1) bytes = drop_more bytes at d below in
    let all : take at bytes ++ b ∷ drop (at + 1) bytes ≡ bytes = ap (λ x. take at bytes ++ x) (sym rest)
    ∙ take-append-drop at bytes in
    let count : length (take at bytes) + 1 ≡ at + 1 = omega (arith, length-take at bytes) in
    let step : end_behind begun line (b ∷ drop (at + 1) bytes) ≡ Some 1 = rw ends refl in
    ap head_end (sym all) ∙ h.goes_on (b ∷ drop (at + 1) bytes) ∙ ap (option_map (λ n. length (take at bytes) + n)) step
    ∙ ap (λ n. Some n) count

-- no byte is left
pub none_here : (bytes : List ℕ) (begun : Bool) (line : LinePart) → IsSought bytes begun line → head_end bytes ≡ None
none_here bytes begun line h = ap head_end (sym (append-nil bytes)) ∙ h.goes_on []

-- the bytes up to the end of a head are a whole head
pub whole_front : (bytes : List ℕ) (n : ℕ) → head_end bytes ≡ Some n → n ≤ length bytes → IsWholeHead (take n bytes)
whole_front bytes n e within =
    let count : length (take n bytes) ≡ n = omega (arith, length-take n bytes) in
    head_end_within (take n bytes) (drop n bytes) n (ap head_end (take-append-drop n bytes) ∙ e) (omega (arith, count))
    ∙ ap (λ m. Some m) (sym count)
