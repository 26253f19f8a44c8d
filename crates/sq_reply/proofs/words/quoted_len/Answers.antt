use Rattle.std.proofs.Common.{◌≡◌, ◌∙◌, ◌+◌, ◌∷◌, ℕ, Some, sym, ap, arith, drop, get_or, drop-cons, add-one}
use Rattle.std.proofs.Math.ListN.{drop_of_length-le}
use Rattle.sq_base.specs.Replies.{quoted_len}
use Rattle.sq_reply.proofs.QuoteLaws.{front, quote_here, quote_fails, quote_later, quote_ends}
use Rattle.sq_reply.proofs.words.quoted_len.Goals as goal

pub returns-then-closes-clause-len : goal.returns-then-closes-clause-len
returns-then-closes-clause-len c =
    let bytes = c.args.bytes.now in
    let i = c.loop-i.i in
    let cons : drop i bytes ≡ get_or bytes i 0 ∷ drop (i + 1) bytes =
    rw (add-one) (drop-cons bytes i 0 c.loop-i-test.true) in
    let here = quote_here c.loop-i.after (get_or bytes i 0) (drop (i + 1) bytes)
    (sym c.closes.ensures ∙ c.if-closes.true) in
    ap (λ (k : ℕ). Some k) (omega arith) ∙ sym (ap (front i) (ap (quoted_len c.loop-i.after) cons ∙ here))
    ∙ c.loop-i.invariant

pub returns-then-not-is_line_byte-clause-len : goal.returns-then-not-is_line_byte-clause-len
returns-then-not-is_line_byte-clause-len c =
    let bytes = c.args.bytes.now in
    let i = c.loop-i.i in
    let cons : drop i bytes ≡ get_or bytes i 0 ∷ drop (i + 1) bytes =
    rw (add-one) (drop-cons bytes i 0 c.loop-i-test.true) in
    let here = quote_fails c.loop-i.after (get_or bytes i 0) (drop (i + 1) bytes)
    (sym c.closes.ensures ∙ c.if-closes.false) (sym c.is_line_byte.ensures ∙ c.if-not-is_line_byte.true) in
    sym (ap (front i) (ap (quoted_len c.loop-i.after) cons ∙ here)) ∙ c.loop-i.invariant

pub loop-i-preserved : goal.loop-i-preserved
loop-i-preserved c =
    let bytes = c.args.bytes.now in
    let i = c.loop-i.i in
    let cons : drop i bytes ≡ get_or bytes i 0 ∷ drop (i + 1) bytes =
    rw (add-one) (drop-cons bytes i 0 c.loop-i-test.true) in
    let here = quote_later i c.loop-i.after (get_or bytes i 0) (drop (i + 1) bytes)
    (sym c.closes.ensures ∙ c.if-closes.false) (sym c.is_line_byte.ensures ∙ c.if-not-is_line_byte.false) in
    ap (λ t. front (i + 1) (quoted_len t (drop (i + 1) bytes))) c.marks-after.ensures ∙ sym here
    ∙ ap (λ l. front i (quoted_len c.loop-i.after l)) (sym cons) ∙ c.loop-i.invariant

pub returns-clause-len : goal.returns-clause-len
returns-clause-len c =
    let bytes = c.args.bytes.now in
    let none = drop_of_length-le bytes c.loop-i-test.false in
    sym (ap (front c.loop-i.i) (ap (quoted_len c.loop-i.after) none ∙ quote_ends c.loop-i.after)) ∙ c.loop-i.invariant
