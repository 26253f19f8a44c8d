-- Heads at the front of what comes.
use Rattle.std.proofs.Common.{◌≡◌, ℕ, ◌≤◌, List, [], ◌++◌, length, take, drop, Option, Some, None, IfSome, refl, sym, ap, subst, ◌∙◌, arith, append_assoc, take-append-drop}
use Rattle.std.proofs.lemmas.List.{take-append-le, take_all}
use Rattle.std.proofs.lemmas.Option.{none-some, same_Some}
use Rattle.std.specs.Io.KnownBytes.{Keeps, prepend_known}
use Rattle.sq_request.specs.Endings.{head_end, IsWholeHead}
use Rattle.sq_request.proofs.MoreLaws.{head_end_more}
use Rattle.sq_message.specs.ReplyHeads.{HasReply, RefusesReply}
use Rattle.sq_message.specs.declared.faults.ReplyHeadFault.TheVariants.{BadHead}
use Rattle.sq_message.specs.declared.replies.ReplyHead.{ReplyHead}
use Rattle.sq_forward.specs.Replies.{BeginsHead}
use Rattle.sq_forward.specs.Leading.{TakenHead}
use Rattle.sq_forward.specs.Heads.{IsTooLarge}

-- a head at the front ends where the bytes say
head_place : {bytes : List ℕ} {h : ReplyHead} {rest : List ℕ} → (b : BeginsHead bytes h rest)
    → head_end bytes ≡ Some (length b.head)
head_place b = ap head_end b.cut ∙ head_end_more b.head _ (length b.head) b.is.whole

-- a head at the front is the bytes up to where they say
head_bytes : {bytes : List ℕ} {h : ReplyHead} {rest : List ℕ} (len : ℕ) → (b : BeginsHead bytes h rest)
    → head_end bytes ≡ Some len → b.head ≡ take len bytes
head_bytes {bytes} {h} {rest} len b e =
    let same : length b.head ≡ len = same_Some (length b.head) len (sym (head_place b) ∙ e) in
    let front : take len (b.head ++ rest) ≡ take len b.head = take-append-le len b.head rest (omega (arith, same)) in
    sym (take_all len b.head (omega (arith, same))) ∙ sym front ∙ ap (take len) (sym b.cut)

-- none of more bytes than a head may have
pub missing_large : (bytes : List ℕ) → IsTooLarge bytes → (h : ReplyHead) (rest : List ℕ) → BeginsHead bytes h rest → ⊥
missing_large bytes large h rest b =
    let over = large.endless (length b.head) (head_place b) in
    let small = b.is.reads.1.small in
    absurd (omega (arith, over, small))

-- none of bytes in which none ends
pub missing_end : (bytes : List ℕ) → head_end bytes ≡ None → (h : ReplyHead) (rest : List ℕ) → BeginsHead bytes h rest
    → ⊥
missing_end bytes none h rest b = none-some (length b.head) (sym none ∙ head_place b)

nothing_ends : head_end [] ≡ None
unfolding head_end
nothing_ends = refl

-- none of no bytes
pub missing_all : (h : ReplyHead) (rest : List ℕ) → BeginsHead [] h rest → ⊥
missing_all = missing_end [] nothing_ends

-- none where the bytes up to the end of a head are no head of a reply
pub missing_bad : (bytes : List ℕ) (len : ℕ) → head_end bytes ≡ Some len → RefusesReply (take len bytes) BadHead
    → (h : ReplyHead) (rest : List ℕ) → BeginsHead bytes h rest → ⊥
missing_bad bytes len e bad h rest b =
    let reads : HasReply (take len bytes) h = subst (λ l. HasReply l h) (head_bytes len b e) b.is.reads in
    bad reads.0 reads.1

-- what was read ahead begins all that comes
ahead_of : (bytes ahead s : List ℕ) (len : ℕ) → ahead ++ s ≡ bytes → head_end ahead ≡ Some len
    → head_end bytes ≡ Some len
ahead_of bytes ahead s len k e = ap head_end (sym k) ∙ head_end_more ahead s len e

front_of : (bytes ahead s : List ℕ) (len : ℕ) → ahead ++ s ≡ bytes → len ≤ length ahead
    → take len bytes ≡ take len ahead
front_of bytes ahead s len k within = ap (take len) (sym k) ∙ take-append-le len ahead s within

-- the head ahead was taken
pub taken_head : (first : Option (List ℕ)) (ahead : List ℕ) (src left : Option (List ℕ)) (len : ℕ) (h : ReplyHead)
    → Keeps first (prepend_known ahead src) → head_end ahead ≡ Some len → len ≤ length ahead
    → IsWholeHead (take len ahead) → HasReply (take len ahead) h
    → ((a b : ReplyHead) → HasReply (take len ahead) a → HasReply (take len ahead) b → a ≡ b)
    → left ≡ prepend_known (drop len ahead) src → IfSome first (λ bytes. TakenHead bytes left h)
taken_head None ahead src left len h k e within whole reads one rest = tt
taken_head (Some bytes) ahead None left len h k e within whole reads one rest = absurd k
taken_head (Some bytes) ahead (Some s) left len h k e within whole reads one rest = record {
  rest = drop len ahead ++ s;
  left_is = rest;
  begins = record {
    head = take len ahead;
    cut = sym k ∙ ap (λ l. l ++ s) (sym (take-append-drop len ahead))
        ∙ append_assoc (take len ahead) (drop len ahead) s;
    is = record { whole = whole; reads = reads };
  };
  one = λ other more b.
      let front : b.head ≡ take len ahead = head_bytes len b (ahead_of bytes ahead s len k e)
      ∙ front_of bytes ahead s len k within in
      one other h (subst (λ l. HasReply l other) front b.is.reads) reads;
}

-- no head was taken
pub missing_by : (first : Option (List ℕ)) (told : Option (List ℕ)) (P : List ℕ → Type 0) → Keeps first told
    → IfSome told P
    → ((bytes : List ℕ) → P bytes → (h : ReplyHead) (rest : List ℕ) → BeginsHead bytes h rest → ⊥)
    → IfSome first (λ bytes. (h : ReplyHead) (rest : List ℕ) → BeginsHead bytes h rest → ⊥)
missing_by None told P k p none = tt
missing_by (Some bytes) None P k p none = absurd k
missing_by (Some bytes) (Some other) P k p none = none bytes (subst P k p)

-- the head ahead is no head of a reply
pub missing_ahead : (first : Option (List ℕ)) (ahead : List ℕ) (src : Option (List ℕ)) (len : ℕ)
    → Keeps first (prepend_known ahead src) → head_end ahead ≡ Some len → len ≤ length ahead
    → RefusesReply (take len ahead) BadHead
    → IfSome first (λ bytes. (h : ReplyHead) (rest : List ℕ) → BeginsHead bytes h rest → ⊥)
missing_ahead None ahead src len k e within bad = tt
missing_ahead (Some bytes) ahead None len k e within bad = absurd k
missing_ahead (Some bytes) ahead (Some s) len k e within bad =
    missing_bad bytes len (ahead_of bytes ahead s len k e)
    (subst (λ l. RefusesReply l BadHead) (sym (front_of bytes ahead s len k within)) bad)
