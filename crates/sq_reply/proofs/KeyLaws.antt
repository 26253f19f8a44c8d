-- Each key of a line's pairs can be written.
use Rattle.std.proofs.Common.{◌≡◌, ℕ, List, [], ◌∷◌, Bool, true, Ok, Err, Result, IfOk, refl, ap, ◌∙◌}
use Rattle.std.proofs.lemmas.Bool.{and_parts, and_from}
use Rattle.std.proofs.lemmas.List.Folds.{list_all-append}
use Rattle.std.specs.List.{list_all}
use Rattle.sq_base.specs.declared.helpers.Pair.{Pair}
use Rattle.sq_base.specs.Replies.{Answer, is_key, have_keys, reply_of}
use Rattle.sq_base.specs.ReplyGrammar.{ReplyWord, Bare, Plain, Quoted, SpacedWord, Says, is_mark, is_plain_value, is_reply_word, word_pairs, words_pairs, are_reply_words}
use Rattle.sq_reply.specs.Reading.{ReadsAs}
use Rattle.sq_reply.specs.declared.faults.ReplyFault.{ReplyFault}
use Rattle.sq_reply.proofs.ReadLines.{read_said}

word_keys : (word : ReplyWord) → is_reply_word word ≡ true → have_keys (word_pairs word) ≡ true
word_keys (Bare name) h = refl
word_keys (Plain key value) h = and_from (is_key key) true (and_parts (is_key key) (is_plain_value value) h).0 refl
word_keys (Quoted key marks) h = and_from (is_key key) true (and_parts (is_key key) (list_all is_mark marks) h).0 refl

words_keys : (words : List SpacedWord) → are_reply_words words ≡ true → have_keys (words_pairs words) ≡ true
words_keys [] h = refl
words_keys (s ∷ words) h =
    let both = and_parts (is_reply_word s.word) (are_reply_words words) h in
    list_all-append (λ (p : Pair). is_key p.key) (word_pairs s.word) (words_pairs words)
    ∙ and_from (have_keys (word_pairs s.word)) (have_keys (words_pairs words)) (word_keys s.word both.0)
    (words_keys words both.1)

said_keys : (with_channel : Bool) (line : List ℕ) (x : Answer) → Says with_channel line x → have_keys x.1.pairs ≡ true
said_keys with_channel line x s = ap (λ (a : Answer). have_keys a.1.pairs) s.means
    ∙ words_keys s.line.words s.valid.words

pub keys_from : (with_channel : Bool) (line : List ℕ) (result : Result Answer ReplyFault)
    → ReadsAs result (reply_of with_channel line) → IfOk result (λ x. have_keys x.1.pairs ≡ true)
keys_from with_channel line (Ok x) h = said_keys with_channel line x (read_said with_channel line x h)
keys_from with_channel line (Err e) h = tt
