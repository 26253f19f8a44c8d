-- What is read is spelled by the grammar.
use Rattle.std.proofs.Common.{◌≡◌, ℕ, zero, suc, ◌+◌, ◌<◌, ◌++◌, List, [], ◌∷◌, drop, take, Bool, true, false, not, ◌&&◌, ◌||◌, ◌==◌, Some, None, map, replicate, refl, sym, ap, ◌∙◌, ⊎_elim, arith, append_assoc}
use Rattle.std.proofs.Math.Seq.{take-append_seam, drop-append-add}
use Rattle.std.proofs.lemmas.Bool.{and_parts, and_from, not_from_false, eqb-true}
use Rattle.std.proofs.lemmas.List.{take-append-drop}
use Rattle.std.specs.List.{list_all, prefix_len}
use Rattle.std.specs.declared.option.Option.{Option}
use Rattle.percent_encoding.specs.Percent.{percent_decode}
use Rattle.sq_base.specs.declared.helpers.Pair.{Pair}
use Rattle.sq_base.specs.Replies.{PairsFound, is_word_byte, is_value_byte, is_key, ends_word, quoted_len, unquoted, pair_before, quoted_in, plain_in, value_in, after_name, reply_word_in, piece_in, pairs_in, in_front}
use Rattle.sq_base.specs.ReplyGrammar.{ReplyWord, Bare, Plain, Quoted, SpacedWord, mark_byte, is_mark, word_text, word_pairs, is_bare, is_plain_value, is_reply_word, words_text, words_pairs, are_reply_words}
use Rattle.sq_base.proofs.CommonLaws.{chosen, if_some, map_some, then_some}
use Rattle.sq_reply.proofs.ByteLaws.{front_passes}
use Rattle.sq_reply.proofs.MarkLaws.{marks_text, marks_unquoted, QuotedAt, quoted_sound}
use Rattle.sq_reply.proofs.WordLaws.{no_word}

-- the value behind a key's `=`, as a word with this key
pub record ValueAt (key bytes : List ℕ) (w : PairsFound) : Type 0 where
  pub word : ReplyWord
  pub valid : is_reply_word word ≡ true
  pub text : key ++ 61 ∷ bytes ≡ word_text word ++ w.1
  pub pairs : w.0 ≡ word_pairs word
  pub ends : ends_word w.1 ≡ true

-- a pair that ends there
pub record PairAt (key value bytes : List ℕ) (w : PairsFound) : Type 0 where
  pub pairs : w.0 ≡ record { key = key; value = value } ∷ []
  pub rest : w.1 ≡ bytes
  pub ends : ends_word w.1 ≡ true

pair_sound : (key value rest : List ℕ) (w : PairsFound) → pair_before key value rest ≡ Some w → PairAt key value rest w
pair_sound key value rest w e =
    let pair : Pair = record { key = key; value = value } in
    let parts = if_some (ends_word rest) (Some (pair ∷ [], rest)) w e in
    let same : (pair ∷ [], rest) ≡ w = cc in
    let left : w.1 ≡ rest = ap (λ (v : PairsFound). v.1) (sym same) in
    record { pairs = ap (λ (v : PairsFound). v.0) (sym same); rest = left; ends = ap ends_word left ∙ parts.0 }

plain_text : (key value rest : List ℕ) → key ++ 61 ∷ (value ++ rest) ≡ (key ++ 61 ∷ [] ++ value) ++ rest
plain_text key value rest = simp append_assoc

quoted_text : (key m rest : List ℕ)
    → key ++ 61 ∷ 34 ∷ (m ++ 34 ∷ rest) ≡ (key ++ 61 ∷ [] ++ 34 ∷ [] ++ m ++ 34 ∷ []) ++ rest
quoted_text key m rest = simp append_assoc

-- no quote stands first
abbrev not_quote : List ℕ → Bool
not_quote [] = true
not_quote (b ∷ bs) = not (b == 34)

plain_front : (bytes : List ℕ) (n : ℕ) → list_all is_value_byte (take n bytes) ≡ true → not_quote bytes ≡ true
    → is_plain_value (take n bytes) ≡ true
plain_front bytes zero h k = refl
plain_front [] (suc n) h k = refl
plain_front (b ∷ bs) (suc n) h k = and_from (not (b == 34)) (list_all is_value_byte (b ∷ take n bs)) k h

plain_sound : (key bytes : List ℕ) (w : PairsFound) → is_key key ≡ true → not_quote bytes ≡ true
    → plain_in key bytes ≡ Some w → ValueAt key bytes w
plain_sound key bytes w h k e =
    let n = prefix_len is_value_byte bytes in
    let value = take n bytes in
    let rest = drop n bytes in
    let p = pair_sound key (percent_decode value) rest w e in
    record {
      word = Plain key value;
      valid = and_from (is_key key) (is_plain_value value) h (plain_front bytes n (front_passes is_value_byte bytes) k);
      text = ap (λ l. key ++ 61 ∷ l) (sym (take-append-drop n bytes)) ∙ plain_text key value rest
          ∙ ap (λ r. (key ++ 61 ∷ [] ++ value) ++ r) (sym p.rest);
      pairs = p.pairs;
      ends = p.ends;
    }

quoted_found : (key bytes : List ℕ) (n : ℕ) (w : PairsFound) → is_key key ≡ true → QuotedAt false bytes n
    → quoted_in key bytes (Some n) ≡ Some w → ValueAt key (34 ∷ bytes) w
quoted_found key bytes n w h q e =
    let m = marks_text q.marks in
    let p = pair_sound key (unquoted false (take n bytes)) (drop (n + 1) bytes) w e in
    let front : take n bytes ≡ m = ap (take n) q.text ∙ ap (λ k. take k (m ++ 34 ∷ q.rest)) q.len
    ∙ take-append_seam m (34 ∷ q.rest) in
    let back : drop (n + 1) bytes ≡ q.rest = ap (drop (n + 1)) q.text ∙ ap (λ k. drop (k + 1) (m ++ 34 ∷ q.rest)) q.len
    ∙ drop-append-add m (34 ∷ q.rest) 1 in
    let value : unquoted false (take n bytes) ≡ map mark_byte q.marks = ap (unquoted false) front
    ∙ marks_unquoted q.marks q.valid in
    record {
      word = Quoted key q.marks;
      valid = and_from (is_key key) (list_all is_mark q.marks) h q.valid;
      text = ap (λ l. key ++ 61 ∷ 34 ∷ l) q.text ∙ quoted_text key m q.rest
          ∙ ap (λ r. (key ++ 61 ∷ [] ++ 34 ∷ [] ++ m ++ 34 ∷ []) ++ r) (sym (p.rest ∙ back));
      pairs = p.pairs ∙ ap (λ v. record { key = key; value = v } ∷ []) value;
      ends = p.ends;
    }

quoted_found_by : (key bytes : List ℕ) (place : Option ℕ) (w : PairsFound) → is_key key ≡ true
    → quoted_len false bytes ≡ place → quoted_in key bytes place ≡ Some w → ValueAt key (34 ∷ bytes) w
quoted_found_by key bytes None w h q e = absurd (cc)
quoted_found_by key bytes (Some n) w h q e = quoted_found key bytes n w h (quoted_sound false bytes n q) e

value_at_quote : (key : List ℕ) (b : ℕ) (bs : List ℕ) (w : PairsFound) → b ≡ 34 → ValueAt key (34 ∷ bs) w
    → ValueAt key (b ∷ bs) w
value_at_quote key b bs w e v =
    record {
      word = v.word;
      valid = v.valid;
      text = ap (λ c. key ++ 61 ∷ c ∷ bs) e ∙ v.text;
      pairs = v.pairs;
      ends = v.ends;
    }

value_sound : (key bytes : List ℕ) (w : PairsFound) → is_key key ≡ true → value_in key bytes ≡ Some w
    → ValueAt key bytes w
unfolding value_in
value_sound key [] w h e = plain_sound key [] w h refl e
value_sound key (b ∷ bs) w h e =
    ⊎_elim
    (λ q. value_at_quote key b bs w (eqb-true b 34 q.0) (quoted_found_by key bs (quoted_len false bs) w h refl q.1))
    (λ q. plain_sound key (b ∷ bs) w h (not_from_false (b == 34) q.0) q.1)
    (chosen (b == 34) _ _ (Some w) e)

-- a word at the front
pub record WordAt (bytes : List ℕ) (w : PairsFound) : Type 0 where
  pub word : ReplyWord
  pub valid : is_reply_word word ≡ true
  pub text : bytes ≡ word_text word ++ w.1
  pub pairs : w.0 ≡ word_pairs word
  pub ends : ends_word w.1 ≡ true

bare_at : (name rest : List ℕ) (w : PairsFound) → is_bare name ≡ true → ends_word rest ≡ true → Some ([], rest) ≡ Some w
    → WordAt (name ++ rest) w
bare_at name rest w h k e =
    let same : ([], rest) ≡ w = cc in
    let left : rest ≡ w.1 = ap (λ (v : PairsFound). v.1) same in
    record {
      word = Bare name;
      valid = h;
      text = ap (λ r. name ++ r) left;
      pairs = ap (λ (v : PairsFound). v.0) (sym same);
      ends = sym (ap ends_word left) ∙ k;
    }

valued_at : (name bytes : List ℕ) (c : ℕ) (w : PairsFound) → c ≡ 61 → ValueAt name bytes w
    → WordAt (name ++ c ∷ bytes) w
valued_at name bytes c w e v =
    record {
      word = v.word;
      valid = v.valid;
      text = ap (λ b. name ++ b ∷ bytes) e ∙ v.text;
      pairs = v.pairs;
      ends = v.ends;
    }

after_sound : (name rest : List ℕ) (w : PairsFound) → is_bare name ≡ true → after_name name rest ≡ Some w
    → WordAt (name ++ rest) w
after_sound name [] w h e = bare_at name [] w h refl e
after_sound name (c ∷ cs) w h e =
    ⊎_elim
    (λ q. bare_at name (c ∷ cs) w h q.0 q.1)
    (λ q.
    let parts = if_some (c == 61 && is_key name) (value_in name cs) w q.1 in
    let both = and_parts (c == 61) (is_key name) parts.0 in
    valued_at name cs c w (eqb-true c 61 both.0) (value_sound name cs w both.1 parts.1))
    (chosen (c == 32) _ _ (Some w) e)

bare_take : (n b : ℕ) (bs : List ℕ) → 0 < n → list_all is_word_byte (take n (b ∷ bs)) ≡ true
    → is_bare (take n (b ∷ bs)) ≡ true
bare_take zero b bs h k = absurd (omega arith)
bare_take (suc n) b bs h k = k

word_by : (t : Bool) (b : ℕ) (bs : List ℕ) (w : PairsFound) → is_word_byte b ≡ t → (b == 32) ≡ false
    → reply_word_in (b ∷ bs) ≡ Some w → WordAt (b ∷ bs) w
unfolding reply_word_in
word_by true b bs w h sp e =
    let n = prefix_len is_word_byte (b ∷ bs) in
    let some : prefix_len is_word_byte (b ∷ bs) ≡ 1 + prefix_len is_word_byte bs = rw h refl in
    let at = after_sound (take n (b ∷ bs)) (drop n (b ∷ bs)) w
    (bare_take n b bs (omega (arith, some)) (front_passes is_word_byte (b ∷ bs))) e in
    record {
      word = at.word;
      valid = at.valid;
      text = sym (take-append-drop n (b ∷ bs)) ∙ at.text;
      pairs = at.pairs;
      ends = at.ends;
    }
word_by false b bs w h sp e =
    let shape : reply_word_in (b ∷ bs) ≡ after_name [] (b ∷ bs) = rw h refl in
    absurd (no_word b bs w sp (sym shape ∙ e))

-- words and spaces up to the end
pub record TailAt (bytes : List ℕ) (ps : List Pair) : Type 0 where
  pub words : List SpacedWord
  pub spaces : ℕ
  pub text : bytes ≡ words_text words ++ replicate spaces 32
  pub valid : are_reply_words words ≡ true
  pub pairs : ps ≡ words_pairs words

-- one more space in front
add_space : (bytes : List ℕ) (ps : List Pair) (words : List SpacedWord) (n : ℕ)
    → bytes ≡ words_text words ++ replicate n 32 → are_reply_words words ≡ true → ps ≡ words_pairs words
    → TailAt (32 ∷ bytes) ps
add_space bytes ps [] n e h k = record {
  words = [];
  spaces = suc n;
  text = ap (λ l. 32 ∷ l) e;
  valid = refl;
  pairs = k;
}
add_space bytes ps (s ∷ words) n e h k =
    record {
      words = record { more = suc s.more; word = s.word } ∷ words;
      spaces = n;
      text = ap (λ l. 32 ∷ l) e;
      valid = h;
      pairs = k;
    }

word_regroup : (word : List ℕ) (words : List SpacedWord) (n : ℕ)
    → 32 ∷ (word ++ (words_text words ++ replicate n 32)) ≡ ((32 ∷ [] ++ replicate 0 32 ++ word) ++ words_text words)
    ++ replicate n 32
word_regroup word words n = simp append_assoc

-- one more word in front
add_word : (bytes : List ℕ) (ps others : List Pair) (w : PairsFound) → WordAt bytes w → TailAt w.1 others
    → ps ≡ w.0 ++ others → TailAt (32 ∷ bytes) ps
add_word bytes ps others w at tail e =
    record {
      words = record { more = 0; word = at.word } ∷ tail.words;
      spaces = tail.spaces;
      text = ap (λ l. 32 ∷ l) at.text ∙ ap (λ l. 32 ∷ (word_text at.word ++ l)) tail.text
          ∙ word_regroup (word_text at.word) tail.words tail.spaces;
      valid = and_from (is_reply_word at.word) (are_reply_words tail.words) at.valid tail.valid;
      pairs = e ∙ ap (λ l. l ++ others) at.pairs ∙ ap (λ l. word_pairs at.word ++ l) tail.pairs;
    }

space_piece : (b : ℕ) (bs : List ℕ) (o : Option PairsFound) → (b == 32) ≡ true → piece_in (b ∷ bs) ≡ o
    → Some ([], bs) ≡ o
space_piece b bs o h e = rw h at e

-- the bytes, behind a space where one was read before
abbrev behind : Bool → List ℕ → List ℕ
behind true bs = 32 ∷ bs
behind false bs = bs

-- a space stands first, and words and spaces behind it
space_first : (b : ℕ) (bs : List ℕ) (ps others : List Pair) (w : PairsFound) → (b == 32) ≡ true → Some ([], bs) ≡ Some w
    → ps ≡ w.0 ++ others → TailAt (32 ∷ w.1) others → TailAt (b ∷ bs) ps
space_first b bs ps others w h e k tail =
    let same : ([], bs) ≡ w = cc in
    let left : bs ≡ w.1 = ap (λ (v : PairsFound). v.1) same in
    let none : w.0 ≡ [] = ap (λ (v : PairsFound). v.0) (sym same) in
    record {
      words = tail.words;
      spaces = tail.spaces;
      text = ap (λ c. c ∷ bs) (eqb-true b 32 h) ∙ ap (λ l. 32 ∷ l) left ∙ tail.text;
      valid = tail.valid;
      pairs = k ∙ ap (λ l. l ++ others) none ∙ tail.pairs;
    }

wider : (bytes : List ℕ) (ps : List Pair) → TailAt bytes ps → TailAt (32 ∷ bytes) ps
wider bytes ps tail = add_space bytes ps tail.words tail.spaces tail.text tail.valid tail.pairs

pub tail_sound : (spaced : Bool) (n : ℕ) (bs : List ℕ) (ps : List Pair) → (spaced || ends_word bs) ≡ true
    → pairs_in n bs ≡ Some ps → TailAt (behind spaced bs) ps
unfolding pairs_in
tail_sound true zero [] ps h e = record {
  words = [];
  spaces = 1;
  text = refl;
  valid = refl;
  pairs = let same : [] ≡ ps = cc in sym same;
}
tail_sound true (suc n) [] ps h e = record {
  words = [];
  spaces = 1;
  text = refl;
  valid = refl;
  pairs = let same : [] ≡ ps = cc in sym same;
}
tail_sound false zero [] ps h e = record {
  words = [];
  spaces = 0;
  text = refl;
  valid = refl;
  pairs = let same : [] ≡ ps = cc in sym same;
}
tail_sound false (suc n) [] ps h e = record {
  words = [];
  spaces = 0;
  text = refl;
  valid = refl;
  pairs = let same : [] ≡ ps = cc in sym same;
}
tail_sound true zero (b ∷ bs) ps h e = absurd (cc)
tail_sound false zero (b ∷ bs) ps h e = absurd (cc)
tail_sound false (suc n) (b ∷ bs) ps h e =
    let first = then_some (λ w. in_front w.0 (pairs_in n w.1)) (piece_in (b ∷ bs)) ps e in
    let w = first.0 in
    let more = map_some (λ others. w.0 ++ others) (pairs_in n w.1) ps first.2 in
    let piece : Some ([], bs) ≡ Some w = space_piece b bs (Some w) h first.1 in
    space_first b bs ps more.0 w h piece more.2 (tail_sound true n w.1 more.0 refl more.1)
tail_sound true (suc n) (b ∷ bs) ps h e =
    let first = then_some (λ w. in_front w.0 (pairs_in n w.1)) (piece_in (b ∷ bs)) ps e in
    let w = first.0 in
    let more = map_some (λ others. w.0 ++ others) (pairs_in n w.1) ps first.2 in
    ⊎_elim
    (λ q. wider (b ∷ bs) ps (space_first b bs ps more.0 w q.0 q.1 more.2 (tail_sound true n w.1 more.0 refl more.1)))
    (λ q.
    let at = word_by (is_word_byte b) b bs w refl q.0 q.1 in
    add_word (b ∷ bs) ps more.0 w at (tail_sound false n w.1 more.0 at.ends more.1) more.2)
    (chosen (b == 32) _ _ (Some w) first.1)
