-- Lines gathered a byte at a time are the lines of all bytes.
use Rattle.std.proofs.Common.{◌≡◌, ℕ, suc, ◌-◌, ◌<◌, ◌++◌, List, [], ◌∷◌, length, take, map, Bool, true, false, All, refl, sym, ap, ◌∙◌, arith, append_assoc, append-nil}
use Rattle.std.proofs.lemmas.List.Elements.{All-append, All-cons, All-nil}
use Rattle.std.proofs.lemmas.List.Splits.{slice_split_none, slice_split_at, length-slice_split}
use Rattle.std.specs.List.{slice_split}
use Rattle.sq_keeper.specs.declared.desk.Handed.TheVariants.{Line}
use Rattle.sq_base.specs.Lines.{is_lf, ended_lines}
use Rattle.sq_keeper.specs.Lines.{cut, lines_handed}
use Rattle.sq_keeper.specs.Walk.{step_line, step_handed, walk_line, walk_handed}
use Rattle.sq_keeper.proofs.CutLaws.{cut_none, cut_again}

pub walk_line_append : (line xs ys : List ℕ) → walk_line line (xs ++ ys) ≡ walk_line (walk_line line xs) ys
unfolding walk_line
walk_line_append line [] ys = refl
walk_line_append line (x ∷ xs) ys = walk_line_append (step_line line x) xs ys

pub walk_handed_append : (proc : ℕ) (line xs ys : List ℕ)
    → walk_handed proc line (xs ++ ys) ≡ walk_handed proc line xs ++ walk_handed proc (walk_line line xs) ys
unfolding walk_line walk_handed
walk_handed_append proc line [] ys = refl
walk_handed_append proc line (x ∷ xs) ys =
    ap (λ l. step_handed proc line x ++ l) (walk_handed_append proc (step_line line x) xs ys)
    ∙ sym (append_assoc (step_handed proc line x) (walk_handed proc (step_line line x) xs)
    (walk_handed proc (walk_line (step_line line x) xs) ys))

pub walk_line_one : (line : List ℕ) (b : ℕ) → walk_line line (b ∷ []) ≡ step_line line b
unfolding walk_line
walk_line_one line b = refl

pub walk_handed_one : (proc : ℕ) (line : List ℕ) (b : ℕ) → walk_handed proc line (b ∷ []) ≡ step_handed proc line b
unfolding walk_handed
walk_handed_one proc line b = append-nil (step_handed proc line b)

pub walk_none : (proc : ℕ) (line : List ℕ) → walk_handed proc line [] ≡ []
unfolding walk_handed
walk_none proc line = refl

pub line_none : (line : List ℕ) → walk_line line [] ≡ line
unfolding walk_line
line_none line = refl

abbrev NotEnd : ℕ → Type 0
NotEnd b = is_lf b ≡ false

-- no LF
abbrev NoEnd : List ℕ → Type 0
NoEnd line = All NotEnd line

front_cons : (x : List ℕ) (parts : List (List ℕ)) → 0 < length parts
    → take (length (x ∷ parts) - 1) (x ∷ parts) ≡ x ∷ take (length parts - 1) parts
front_cons x [] h = absurd (omega arith)
front_cons x (y ∷ parts) h =
    let more : suc (suc (length parts)) - 1 ≡ suc (length parts) = omega arith in
    let less : suc (length parts) - 1 ≡ length parts = omega arith in
    rw (more, less) refl

some_part : (bytes : List ℕ) → 0 < length (slice_split is_lf bytes)
some_part bytes = omega (arith, length-slice_split is_lf bytes)

none_ended : (line : List ℕ) → NoEnd line → ended_lines (line ++ []) ≡ []
none_ended line h = ap (λ l. take (length (slice_split is_lf l) - 1) (slice_split is_lf l)) (append-nil line)
    ∙ ap (λ (ps : List (List ℕ)). take (length ps - 1) ps) (slice_split_none is_lf line h)

one_ended : (line : List ℕ) (b : ℕ) (bs : List ℕ) → NoEnd line → is_lf b ≡ true
    → ended_lines (line ++ b ∷ bs) ≡ line ∷ ended_lines bs
one_ended line b bs h e =
    ap (λ (ps : List (List ℕ)). take (length ps - 1) ps) (slice_split_at is_lf line b bs h e)
    ∙ front_cons line (slice_split is_lf bs) (some_part bs)

gathered_by : (t : Bool) (proc : ℕ) (line : List ℕ) (b : ℕ) (bs : List ℕ) → is_lf b ≡ t → NoEnd line
    → ((longer : List ℕ) → NoEnd longer → walk_handed proc (cut longer) bs ≡ lines_handed proc (longer ++ bs))
    → step_handed proc (cut line) b ++ walk_handed proc (step_line (cut line) b) bs ≡ lines_handed proc (line ++ b ∷ bs)
gathered_by true proc line b bs e h more =
    let first : step_handed proc (cut line) b ≡ Line proc (cut line) ∷ [] = rw e refl in
    let next : step_line (cut line) b ≡ [] = rw e refl in
    ap (λ l. step_handed proc (cut line) b ++ walk_handed proc l bs) next
    ∙ ap (λ f. f ++ walk_handed proc [] bs) first
    ∙ ap (λ l. Line proc (cut line) ∷ walk_handed proc l bs) (sym cut_none)
    ∙ ap (λ l. Line proc (cut line) ∷ l) (more [] (All-nil NotEnd))
    ∙ sym (ap (map (λ l. Line proc (cut l))) (one_ended line b bs h e))
gathered_by false proc line b bs e h more =
    let first : step_handed proc (cut line) b ≡ [] = rw e refl in
    let next : step_line (cut line) b ≡ cut (line ++ b ∷ []) = rw e (cut_again line (b ∷ [])) in
    ap (λ l. step_handed proc (cut line) b ++ walk_handed proc l bs) next
    ∙ ap (λ f. f ++ walk_handed proc (cut (line ++ b ∷ [])) bs) first
    ∙ more (line ++ b ∷ []) (All-append NotEnd line (b ∷ []) h (All-cons NotEnd b [] e (All-nil NotEnd)))
    ∙ ap (lines_handed proc) (append_assoc line (b ∷ []) bs)

gathered : (proc : ℕ) (line bs : List ℕ) → NoEnd line → walk_handed proc (cut line) bs ≡ lines_handed proc (line ++ bs)
unfolding walk_handed
gathered proc line [] h = sym (ap (map (λ l. Line proc (cut l))) (none_ended line h))
gathered proc line (b ∷ bs) h = gathered_by (is_lf b) proc line b bs refl h (λ longer k. gathered proc longer bs k)

-- all that is handed on
pub walk_all : (proc : ℕ) (bytes : List ℕ) → walk_handed proc [] bytes ≡ lines_handed proc bytes
walk_all proc bytes = ap (λ l. walk_handed proc l bytes) (sym cut_none) ∙ gathered proc [] bytes (All-nil NotEnd)

-- one more byte
pub one_more_handed : (proc : ℕ) (before line front : List ℕ) (b : ℕ) → line ≡ walk_line before front
    → walk_handed proc before front ++ step_handed proc line b ≡ walk_handed proc before (front ++ b ∷ [])
one_more_handed proc before line front b e =
    ap (λ l. walk_handed proc before front ++ step_handed proc l b) e
    ∙ sym (ap (λ l. walk_handed proc before front ++ l) (walk_handed_one proc (walk_line before front) b))
    ∙ sym (walk_handed_append proc before front (b ∷ []))

pub one_more_line : (before line front : List ℕ) (b : ℕ) → line ≡ walk_line before front
    → step_line line b ≡ walk_line before (front ++ b ∷ [])
one_more_line before line front b e =
    ap (λ l. step_line l b) e ∙ sym (walk_line_one (walk_line before front) b)
    ∙ sym (walk_line_append before front (b ∷ []))
