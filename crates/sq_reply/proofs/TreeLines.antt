-- A line of the grammar is read as what it says.
use Rattle.std.proofs.Common.{◌≡◌, ℕ, zero, suc, ◌<◌, ◌≤◌, ◌^◌, ◌++◌, List, [], ◌∷◌, length, Bool, true, false, Some, None, is_some, IfSome, replicate, nat_le, refl, sym, ap, ◌∙◌, arith, append_assoc, append-nil, decimal}
use Rattle.std.proofs.lemmas.Bool.{and_parts, and_from, le-leb}
use Rattle.std.proofs.lemmas.List.Folds.{list_all-append}
use Rattle.std.specs.List.{list_all}
use Rattle.std.specs.declared.option.Option.{Option}
use Rattle.sq_base.specs.declared.helpers.Reply.{Reply}
use Rattle.sq_base.specs.declared.helpers.Word.{Word}
use Rattle.sq_base.specs.declared.helpers.Word.TheVariants.{Yes, No, Broken}
use Rattle.sq_base.specs.Replies.{Answer, reply_limit, channel_limit, is_line_byte, is_word_byte, is_value_byte, is_key, reply_line_in, without_last_cr, reply_of, channel_text, result_text}
use Rattle.sq_base.specs.ReplyGrammar.{Mark, Itself, Escaped, ReplyWord, Bare, Plain, Quoted, SpacedWord, ReplyLine, IsReplyLine, Says, is_mark, word_text, is_plain_value, is_reply_word, spaced_text, words_text, words_pairs, are_reply_words, cr_text, line_text, line_answer}
use Rattle.sq_reply.proofs.ByteLaws.{all_are, key_bytes, number_bytes, word_is_line, value_is_line, line_no_cr}
use Rattle.sq_reply.proofs.MarkLaws.{marks_text}
use Rattle.sq_reply.proofs.TreeReads.{plain_bytes, bare_bytes, tail_text, tail_ends, tail_reads, result_reads, channel_reads}
use Rattle.sq_reply.proofs.WordLaws.{without_cr_last}

-- each byte may stand in a line
abbrev are_line_bytes : List ℕ → Bool
are_line_bytes bytes = list_all is_line_byte bytes

both_lines : (xs ys : List ℕ) → are_line_bytes xs ≡ true → are_line_bytes ys ≡ true → are_line_bytes (xs ++ ys) ≡ true
both_lines xs ys h k = list_all-append is_line_byte xs ys ∙ and_from (are_line_bytes xs) (are_line_bytes ys) h k

words_are_lines : (xs : List ℕ) → list_all is_word_byte xs ≡ true → are_line_bytes xs ≡ true
words_are_lines xs h = all_are is_word_byte is_line_byte word_is_line xs h

channel_line : (channel : Option ℕ) → IfSome channel (λ n. n < channel_limit)
    → are_line_bytes (channel_text channel) ≡ true
channel_line None h = refl
channel_line (Some n) h =
    let small : n < 2 ^ 64 = omega arith in
    both_lines (decimal n) (32 ∷ []) (words_are_lines (decimal n) (number_bytes n small)) refl

result_line : (r : Word) → are_line_bytes (result_text r) ≡ true
result_line Yes = refl
result_line No = refl
result_line Broken = refl

mark_line : (b : ℕ) → is_mark (Itself b) ≡ true → is_line_byte b ≡ true
mark_line b h = (and_parts (is_line_byte b) _ h).0

marks_line : (marks : List Mark) → list_all is_mark marks ≡ true → are_line_bytes (marks_text marks) ≡ true
marks_line [] h = refl
marks_line (Itself b ∷ ms) h =
    let both = and_parts (is_mark (Itself b)) (list_all is_mark ms) h in
    and_from (is_line_byte b) (are_line_bytes (marks_text ms)) (mark_line b both.0) (marks_line ms both.1)
marks_line (Escaped b ∷ ms) h =
    let both = and_parts (is_mark (Escaped b)) (list_all is_mark ms) h in
    and_from (is_line_byte b) (are_line_bytes (marks_text ms)) both.0 (marks_line ms both.1)

key_line : (key : List ℕ) → is_key key ≡ true → are_line_bytes (key ++ 61 ∷ []) ≡ true
key_line key h = both_lines key (61 ∷ []) (words_are_lines key (key_bytes key h)) refl

word_line : (word : ReplyWord) → is_reply_word word ≡ true → are_line_bytes (word_text word) ≡ true
word_line (Bare name) h = words_are_lines name (bare_bytes name h)
word_line (Plain key value) h =
    let both = and_parts (is_key key) (is_plain_value value) h in
    both_lines (key ++ 61 ∷ []) value (key_line key both.0)
    (all_are is_value_byte is_line_byte value_is_line value (plain_bytes value both.1))
word_line (Quoted key marks) h =
    let both = and_parts (is_key key) (list_all is_mark marks) h in
    let front = both_lines (key ++ 61 ∷ []) (34 ∷ []) (key_line key both.0) refl in
    let value = both_lines (key ++ 61 ∷ [] ++ 34 ∷ []) (marks_text marks) front (marks_line marks both.1) in
    both_lines (key ++ 61 ∷ [] ++ 34 ∷ [] ++ marks_text marks) (34 ∷ []) value refl

spaces_line : (n : ℕ) → are_line_bytes (replicate n 32) ≡ true
spaces_line zero = refl
spaces_line (suc n) = spaces_line n

words_line : (words : List SpacedWord) → are_reply_words words ≡ true → are_line_bytes (words_text words) ≡ true
words_line [] h = refl
words_line (s ∷ words) h =
    let both = and_parts (is_reply_word s.word) (are_reply_words words) h in
    let front = both_lines (32 ∷ []) (replicate s.more 32) refl (spaces_line s.more) in
    let one = both_lines (32 ∷ [] ++ replicate s.more 32) (word_text s.word) front (word_line s.word both.0) in
    both_lines (spaced_text s) (words_text words) one (words_line words both.1)

without_cr_same : (bytes : List ℕ) → are_line_bytes bytes ≡ true → without_last_cr bytes ≡ bytes
unfolding without_last_cr
without_cr_same [] h = refl
without_cr_same (b ∷ []) h = let both = and_parts (is_line_byte b) true h in rw (line_no_cr b both.0) refl
without_cr_same (b ∷ c ∷ bs) h = ap (λ l. b ∷ l)
    (without_cr_same (c ∷ bs) (and_parts (is_line_byte b) (are_line_bytes (c ∷ bs)) h).1)

cr_goes : (bytes : List ℕ) (cr : Bool) → are_line_bytes bytes ≡ true → without_last_cr (bytes ++ cr_text cr) ≡ bytes
cr_goes bytes true h = without_cr_last bytes 13
cr_goes bytes false h = ap without_last_cr (append-nil bytes) ∙ without_cr_same bytes h

-- a line without its CR
abbrev pub core_text : ReplyLine → List ℕ
core_text l = channel_text l.channel ++ result_text l.result ++ words_text l.words ++ replicate l.spaces 32

core_line : (l : ReplyLine) → IfSome l.channel (λ n. n < channel_limit) → are_reply_words l.words ≡ true
    → are_line_bytes (core_text l) ≡ true
core_line l h k =
    both_lines (channel_text l.channel ++ result_text l.result ++ words_text l.words) (replicate l.spaces 32)
    (both_lines (channel_text l.channel ++ result_text l.result) (words_text l.words)
    (both_lines (channel_text l.channel) (result_text l.result) (channel_line l.channel h) (result_line l.result))
    (words_line l.words k))
    (spaces_line l.spaces)

core_regroup : (channel result words spaces : List ℕ)
    → channel ++ result ++ words ++ spaces ≡ channel ++ (result ++ (words ++ spaces))
core_regroup channel result words spaces = simp append_assoc

core_reads : (l : ReplyLine) → IfSome l.channel (λ n. n < channel_limit) → are_reply_words l.words ≡ true
    → reply_line_in (is_some l.channel) (core_text l) ≡ Some (line_answer l)
core_reads l h k =
    let tail = tail_text l.words l.spaces in
    let reply : Reply = record { word = l.result; pairs = words_pairs l.words } in
    ap (reply_line_in (is_some l.channel))
    (core_regroup (channel_text l.channel) (result_text l.result) (words_text l.words) (replicate l.spaces 32))
    ∙ channel_reads l.channel (result_text l.result ++ tail) reply h
    (result_reads l.result tail (words_pairs l.words) (tail_ends l.words l.spaces) (tail_reads l.words l.spaces k))

short_reads : (with_channel : Bool) (line : List ℕ) → length line ≤ reply_limit
    → reply_of with_channel line ≡ reply_line_in with_channel (without_last_cr line)
unfolding reply_of
short_reads with_channel line h = let short : nat_le (length line) reply_limit ≡ true =
    le-leb (length line) reply_limit h in rw short refl

-- a line of the grammar is read
pub line_reads : (with_channel : Bool) (l : ReplyLine) → IsReplyLine with_channel l
    → reply_of with_channel (line_text l) ≡ Some (line_answer l)
line_reads with_channel l v =
    short_reads with_channel (line_text l) v.size
    ∙ ap (reply_line_in with_channel) (cr_goes (core_text l) l.cr (core_line l v.number v.words))
    ∙ ap (λ t. reply_line_in t (core_text l)) (sym v.channel)
    ∙ core_reads l v.number v.words

-- what a line says is read
pub said_reads : (with_channel : Bool) (bytes : List ℕ) (answer : Answer) → Says with_channel bytes answer
    → reply_of with_channel bytes ≡ Some answer
said_reads with_channel bytes answer s =
    ap (reply_of with_channel) s.text ∙ line_reads with_channel s.line s.valid
    ∙ ap (λ (a : Answer). Some a) (sym s.means)
