-- A line that is read is a line of the grammar that says what was read.
use Rattle.std.proofs.Common.{◌≡◌, ℕ, ◌<◌, ◌≤◌, ◌++◌, List, [], ◌∷◌, length, drop, take, Bool, true, false, ◌==◌, Some, None, is_some, IfSome, replicate, nat_le, codes, refl, sym, ap, subst, ◌∙◌, ⊎_elim, append_assoc, decimal}
use Rattle.std.proofs.lemmas.Bool.{eqb-true, leb-true}
use Rattle.std.proofs.lemmas.List.{take-append-drop}
use Rattle.std.specs.List.{prefix_len}
use Rattle.std.specs.Str.{bytes_eq}
use Rattle.std.specs.declared.option.Option.{Option}
use Rattle.sq_base.specs.declared.helpers.Pair.{Pair}
use Rattle.sq_base.specs.declared.helpers.Reply.{Reply}
use Rattle.sq_base.specs.declared.helpers.Word.{Word}
use Rattle.sq_base.specs.declared.helpers.Word.TheVariants.{Yes, No, Broken}
use Rattle.sq_base.specs.Decimals.{number_of}
use Rattle.sq_base.specs.Replies.{Answer, reply_limit, channel_limit, is_word_byte, ends_word, pairs_of, result_of, with_pairs, after_result, result_in, on_channel, after_channel, reply_line_in, without_last_cr, reply_of, channel_text, result_text}
use Rattle.sq_base.specs.ReplyGrammar.{SpacedWord, ReplyLine, Says, words_text, words_pairs, are_reply_words, cr_text, line_text}
use Rattle.sq_base.proofs.CommonLaws.{chosen, if_some, map_some}
use Rattle.sq_base.proofs.NumberLaws.{number_sound}
use Rattle.sq_reply.proofs.ByteLaws.{same_bytes}
use Rattle.sq_reply.proofs.ReadTrees.{TailAt, tail_sound}

result_sound : (name : List ℕ) (r : Word) → result_of name ≡ Some r → name ≡ result_text r
result_sound name r e =
    ⊎_elim
    (λ q. same_bytes name (codes "OK") q.0 ∙ ap result_text (let same : Yes ≡ r = cc in same))
    (λ q. ⊎_elim
    (λ p. same_bytes name (codes "ERR") p.0 ∙ ap result_text (let same : No ≡ r = cc in same))
    (λ p. let last = if_some (bytes_eq name (codes "BH")) (Some Broken) r p.1 in
    same_bytes name (codes "BH") last.0 ∙ ap result_text (let same : Broken ≡ r = cc in same))
    (chosen (bytes_eq name (codes "ERR")) _ _ (Some r) q.1))
    (chosen (bytes_eq name (codes "OK")) _ _ (Some r) e)

-- a result and its words
pub record ResultAt (bytes : List ℕ) (reply : Reply) : Type 0 where
  pub result : Word
  pub words : List SpacedWord
  pub spaces : ℕ
  pub text : bytes ≡ result_text result ++ (words_text words ++ replicate spaces 32)
  pub valid : are_reply_words words ≡ true
  pub means : reply ≡ record { word = result; pairs = words_pairs words }

tail_result : (name rest : List ℕ) (r : Word) (reply : Reply) (ps : List Pair) → name ≡ result_text r → TailAt rest ps
    → reply ≡ record { word = r; pairs = ps } → ResultAt (name ++ rest) reply
tail_result name rest r reply ps e tail k =
    record {
      result = r;
      words = tail.words;
      spaces = tail.spaces;
      text = ap (λ n. n ++ rest) e ∙ ap (λ t. result_text r ++ t) tail.text;
      valid = tail.valid;
      means = k ∙ ap (λ l. record { word = r; pairs = l }) tail.pairs;
    }

after_result_sound : (name rest : List ℕ) (o : Option Word) (reply : Reply) → result_of name ≡ o
    → after_result o rest ≡ Some reply → ResultAt (name ++ rest) reply
after_result_sound name rest None reply h e = absurd (cc)
after_result_sound name rest (Some r) reply h e =
    let parts = if_some (ends_word rest) (with_pairs r (pairs_of rest)) reply e in
    let make : List Pair → Reply = λ ps. record { word = r; pairs = ps } in
    let more = map_some make (pairs_of rest) reply parts.1 in
    tail_result name rest r reply more.0 (result_sound name r h)
    (tail_sound false (length rest) rest more.0 parts.0 more.1) more.2

reply_sound : (bytes : List ℕ) (reply : Reply) → result_in bytes ≡ Some reply → ResultAt bytes reply
unfolding result_in
reply_sound bytes reply e =
    let n = prefix_len is_word_byte bytes in
    let at = after_result_sound (take n bytes) (drop n bytes) (result_of (take n bytes)) reply refl e in
    record {
      result = at.result;
      words = at.words;
      spaces = at.spaces;
      text = sym (take-append-drop n bytes) ∙ at.text;
      valid = at.valid;
      means = at.means;
    }

-- a line without its CR
pub record CoreAt (with_channel : Bool) (bytes : List ℕ) (answer : Answer) : Type 0 where
  pub channel : Option ℕ
  pub present : is_some channel ≡ with_channel
  pub number : IfSome channel (λ n. n < channel_limit)
  pub reply : Reply
  pub rest : List ℕ
  pub at : ResultAt rest reply
  pub text : bytes ≡ channel_text channel ++ rest
  pub means : answer ≡ (channel, reply)

split : (n : ℕ) (bytes : List ℕ) → decimal n ++ 32 ∷ bytes ≡ (decimal n ++ 32 ∷ []) ++ bytes
split n bytes = simp append_assoc

channel_regroup : (n c : ℕ) (bytes : List ℕ) → c ≡ 32 → decimal n ++ c ∷ bytes ≡ (decimal n ++ 32 ∷ []) ++ bytes
channel_regroup n c bytes e = ap (λ b. decimal n ++ b ∷ bytes) e ∙ split n bytes

numbered_sound : (name rest : List ℕ) (o : Option ℕ) (answer : Answer) → number_of channel_limit name ≡ o
    → after_channel o rest ≡ Some answer → CoreAt true (name ++ rest) answer
numbered_sound name rest None answer h e = absurd (cc)
numbered_sound name [] (Some n) answer h e = absurd (cc)
numbered_sound name (c ∷ cs) (Some n) answer h e =
    let number = number_sound channel_limit name n h in
    let parts = if_some (c == 32) (on_channel (Some n) (result_in cs)) answer e in
    let make : Reply → Answer = λ r. (Some n, r) in
    let more = map_some make (result_in cs) answer parts.1 in
    record {
      channel = Some n;
      present = refl;
      number = number.1;
      reply = more.0;
      rest = cs;
      at = reply_sound cs more.0 more.1;
      text = ap (λ w. w ++ c ∷ cs) number.0 ∙ channel_regroup n c cs (eqb-true c 32 parts.0);
      means = more.2;
    }

line_sound : (with_channel : Bool) (bytes : List ℕ) (answer : Answer) → reply_line_in with_channel bytes ≡ Some answer
    → CoreAt with_channel bytes answer
unfolding reply_line_in
line_sound false bytes answer e =
    let make : Reply → Answer = λ r. (None, r) in
    let more = map_some make (result_in bytes) answer e in
    record {
      channel = None;
      present = refl;
      number = tt;
      reply = more.0;
      rest = bytes;
      at = reply_sound bytes more.0 more.1;
      text = refl;
      means = more.2;
    }
line_sound true bytes answer e =
    let n = prefix_len is_word_byte bytes in
    let core = numbered_sound (take n bytes) (drop n bytes) (number_of channel_limit (take n bytes)) answer refl e in
    record {
      channel = core.channel;
      present = core.present;
      number = core.number;
      reply = core.reply;
      rest = core.rest;
      at = core.at;
      text = sym (take-append-drop n bytes) ∙ core.text;
      means = core.means;
    }

-- a CR at the end, or none
abbrev CrAt : List ℕ → Type 0
CrAt line = (cr : Bool) × (line ≡ without_last_cr line ++ cr_text cr)

cr_one : (t : Bool) (b : ℕ) → (b == 13) ≡ t → CrAt (b ∷ [])
unfolding without_last_cr
cr_one true b h =
    let gone : without_last_cr (b ∷ []) ≡ [] = rw h refl in
    (true, ap (λ c. c ∷ []) (eqb-true b 13 h) ∙ ap (λ l. l ++ 13 ∷ []) (sym gone))
cr_one false b h =
    let stays : without_last_cr (b ∷ []) ≡ b ∷ [] = rw h refl in
    (false, ap (λ l. l ++ []) (sym stays))

cr_at : (line : List ℕ) → CrAt line
unfolding without_last_cr
cr_at [] = (false, refl)
cr_at (b ∷ []) = cr_one (b == 13) b refl
cr_at (b ∷ c ∷ bs) = let at = cr_at (c ∷ bs) in (at.0, ap (λ l. b ∷ l) at.1)

line_regroup : (channel result words spaces cr : List ℕ)
    → (channel ++ (result ++ (words ++ spaces))) ++ cr ≡ channel ++ result ++ words ++ spaces ++ cr
line_regroup channel result words spaces cr = simp append_assoc

said_by : (with_channel : Bool) (line : List ℕ) (answer : Answer) (cr : Bool) → length line ≤ reply_limit
    → line ≡ without_last_cr line ++ cr_text cr → CoreAt with_channel (without_last_cr line) answer
    → Says with_channel line answer
said_by with_channel line answer cr short e core =
    let at = core.at in
    let tree : ReplyLine = record {
      channel = core.channel;
      result = at.result;
      words = at.words;
      spaces = at.spaces;
      cr = cr;
    } in
    let text : line ≡ line_text tree =
    e ∙ ap (λ l. l ++ cr_text cr) (core.text ∙ ap (λ l. channel_text core.channel ++ l) at.text)
    ∙ line_regroup (channel_text core.channel) (result_text at.result) (words_text at.words) (replicate at.spaces 32)
    (cr_text cr) in
    let P : List ℕ → Type 0 = λ l. length l ≤ reply_limit in
    record {
      line = tree;
      valid = record { channel = core.present; number = core.number; words = at.valid; size = subst P text short };
      text = text;
      means = core.means ∙ ap (λ (r : Reply). (core.channel, r)) at.means;
    }

-- what is read is what the line says
pub read_said : (with_channel : Bool) (line : List ℕ) (answer : Answer) → reply_of with_channel line ≡ Some answer
    → Says with_channel line answer
unfolding reply_of
read_said with_channel line answer e =
    let parts = if_some (nat_le (length line) reply_limit) (reply_line_in with_channel (without_last_cr line)) answer
    e in
    let at = cr_at line in
    said_by with_channel line answer at.0 (leb-true (length line) reply_limit parts.0) at.1
    (line_sound with_channel (without_last_cr line) answer parts.1)
