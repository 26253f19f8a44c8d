-- What stands between quotes, as marks.
use Rattle.std.proofs.Common.{◌≡◌, ℕ, ◌+◌, ◌++◌, List, [], ◌∷◌, length, Bool, true, false, not, ◌||◌, ◌==◌, Some, map, refl, sym, ap, ◌∙◌, arith, ⊎_elim}
use Rattle.std.proofs.lemmas.Bool.{and_parts, and_from, eqb-true}
use Rattle.std.proofs.lemmas.Bool.Decides.{nat_tests}
use Rattle.std.specs.List.{list_all, flat_map}
use Rattle.std.specs.Option.{option_map}
use Rattle.std.specs.declared.option.Option.{Option}
use Rattle.sq_base.specs.Replies.{is_line_byte, quoted_len, unquoted, meant}
use Rattle.sq_base.specs.ReplyGrammar.{Mark, Itself, Escaped, mark_text, mark_byte, is_mark}
use Rattle.sq_base.proofs.CommonLaws.{chosen, if_some, map_some}

abbrev pub marks_text : List Mark → List ℕ
marks_text marks = flat_map mark_text marks

itself_line : (b : ℕ) → is_mark (Itself b) ≡ true → is_line_byte b ≡ true
itself_line b h = (and_parts (is_line_byte b) (not (b == 34 || b == 92)) h).0

itself_quote : (b : ℕ) → is_mark (Itself b) ≡ true → (b == 34) ≡ false
itself_quote b h = grind (arith, nat_tests)

itself_mark : (b : ℕ) → is_mark (Itself b) ≡ true → (b == 92) ≡ false
itself_mark b h = grind (arith, nat_tests)

-- marks stand for their bytes
pub marks_unquoted : (marks : List Mark) → list_all is_mark marks ≡ true
    → unquoted false (marks_text marks) ≡ map mark_byte marks
unfolding unquoted
marks_unquoted [] h = refl
marks_unquoted (Itself b ∷ ms) h =
    let both = and_parts (is_mark (Itself b)) (list_all is_mark ms) h in
    rw (itself_mark b both.0) (ap (λ bs. b ∷ bs) (marks_unquoted ms both.1))
marks_unquoted (Escaped b ∷ ms) h =
    let both = and_parts (is_mark (Escaped b)) (list_all is_mark ms) h in
    ap (λ bs. meant b ∷ bs) (marks_unquoted ms both.1)

some_more : (place : Option ℕ) (n k : ℕ) → place ≡ Some n → n + 1 ≡ k → option_map (λ m. m + 1) place ≡ Some k
some_more place n k h e = ap (option_map (λ m. m + 1)) h ∙ ap (λ (m : ℕ). Some m) e

-- the quote behind marks closes
pub marks_len : (marks : List Mark) (rest : List ℕ) → list_all is_mark marks ≡ true
    → quoted_len false (marks_text marks ++ 34 ∷ rest) ≡ Some (length (marks_text marks))
unfolding quoted_len
marks_len [] rest h = refl
marks_len (Itself b ∷ ms) rest h =
    let both = and_parts (is_mark (Itself b)) (list_all is_mark ms) h in
    rw (itself_quote b both.0, itself_line b both.0, itself_mark b both.0)
    (some_more _ (length (marks_text ms)) _ (marks_len ms rest both.1) (omega arith))
marks_len (Escaped b ∷ ms) rest h =
    let both = and_parts (is_mark (Escaped b)) (list_all is_mark ms) h in
    rw (both.0)
    (some_more _ (length (marks_text ms) + 1) _ (some_more _ (length (marks_text ms)) _ (marks_len ms rest both.1) refl)
    (omega arith))

-- the bytes, behind a `\` where one stands right before
abbrev pub shown : Bool → List ℕ → List ℕ
shown true bs = 92 ∷ bs
shown false bs = bs

abbrev pub counted : Bool → ℕ → ℕ
counted true n = n + 1
counted false n = n

-- up to the quote these marks stand
pub record QuotedAt (after : Bool) (bs : List ℕ) (n : ℕ) : Type 0 where
  pub marks : List Mark
  pub rest : List ℕ
  pub text : shown after bs ≡ marks_text marks ++ 34 ∷ rest
  pub len : counted after n ≡ length (marks_text marks)
  pub valid : list_all is_mark marks ≡ true

-- a bare quote
closes_here : (b : ℕ) (bs : List ℕ) (n : ℕ) → (b == 34) ≡ true → Some 0 ≡ Some n → QuotedAt false (b ∷ bs) n
closes_here b bs n h e =
    record {
      marks = [];
      rest = bs;
      text = ap (λ c. c ∷ bs) (eqb-true b 34 h);
      len = let same : 0 ≡ n = cc in sym same;
      valid = refl;
    }

-- a `\`
begins_mark : (b : ℕ) (bs : List ℕ) (n m : ℕ) → (b == 92) ≡ true → n ≡ m + 1 → QuotedAt true bs m
    → QuotedAt false (b ∷ bs) n
begins_mark b bs n m h e q =
    record {
      marks = q.marks;
      rest = q.rest;
      text = ap (λ c. c ∷ bs) (eqb-true b 92 h) ∙ q.text;
      len = e ∙ q.len;
      valid = q.valid;
    }

-- a byte as itself
is_itself : (b : ℕ) (bs : List ℕ) (n m : ℕ) → is_line_byte b ≡ true → (b == 34) ≡ false → (b == 92) ≡ false → n ≡ m + 1
    → QuotedAt false bs m → QuotedAt false (b ∷ bs) n
is_itself b bs n m l h k e q =
    record {
      marks = Itself b ∷ q.marks;
      rest = q.rest;
      text = ap (λ cs. b ∷ cs) q.text;
      len = let same = q.len in omega (arith, e, same);
      valid = and_from _ _ (rw (l, h, k) refl) q.valid;
    }

-- a byte behind a `\`
is_escaped : (b : ℕ) (bs : List ℕ) (n m : ℕ) → is_line_byte b ≡ true → n ≡ m + 1 → QuotedAt false bs m
    → QuotedAt true (b ∷ bs) n
is_escaped b bs n m l e q =
    record {
      marks = Escaped b ∷ q.marks;
      rest = q.rest;
      text = ap (λ cs. 92 ∷ b ∷ cs) q.text;
      len = let same = q.len in omega (arith, e, same);
      valid = and_from _ _ l q.valid;
    }

-- a byte that is no closing quote, and what the bytes behind it are
byte_by : (t : Bool) (b : ℕ) (bs : List ℕ) (n m : ℕ) → (b == 92) ≡ t → is_line_byte b ≡ true → (b == 34) ≡ false
    → n ≡ m + 1 → QuotedAt t bs m → QuotedAt false (b ∷ bs) n
byte_by true b bs n m h l k e q = begins_mark b bs n m h e q
byte_by false b bs n m h l k e q = is_itself b bs n m l k h e q

-- marks stand up to each closing quote
pub quoted_sound : (after : Bool) (bs : List ℕ) (n : ℕ) → quoted_len after bs ≡ Some n → QuotedAt after bs n
unfolding quoted_len
quoted_sound true [] n e = absurd (cc)
quoted_sound false [] n e = absurd (cc)
quoted_sound true (b ∷ bs) n e =
    let parts = if_some (is_line_byte b) _ n e in
    let more = map_some (λ m. m + 1) (quoted_len false bs) n parts.1 in
    is_escaped b bs n more.0 parts.0 more.2 (quoted_sound false bs more.0 more.1)
quoted_sound false (b ∷ bs) n e =
    ⊎_elim
    (λ h. closes_here b bs n h.0 h.1)
    (λ h.
    let parts = if_some (is_line_byte b) _ n h.1 in
    let more = map_some (λ m. m + 1) (quoted_len (b == 92) bs) n parts.1 in
    byte_by (b == 92) b bs n more.0 refl parts.0 h.0 more.2 (quoted_sound (b == 92) bs more.0 more.1))
    (chosen (b == 34) (Some 0) _ (Some n) e)
