use Rattle.std.proofs.Common.{◌≡◌, ◌++◌, ◌∙◌, ◌&&◌, true, false, length, take, drop, sym, ap, bytes_eq}
use Rattle.percent_encoding.specs.Iter.{encoded_text}
use Rattle.sq_rules.proofs.LookupLaws.{front_first}
use Rattle.sq_dst.proofs.EscapeLaws.{encodes}
use Rattle.sq_dst.proofs.escapes.is_escape_of.Goals as goal

pub loop-piece-init : goal.loop-piece-init
loop-piece-init c =
    ap (bytes_eq c.args.word.now)
    (ap encoded_text c.into_iter-piece-iterator.ensures.into_iter_gives ∙ c.percent_encode-piece-items.ensures.text
    ∙ encodes c.args.bytes.now)

pub returns-in-None-strip_prefix : goal.returns-in-None-strip_prefix
returns-in-None-strip_prefix c =
    let rest = c.loop-piece.rest.now in
    let piece = c.in-Some.piece.now in
    let more = encoded_text c.next.new.self in
    let steps : encoded_text c.loop-piece.piece-iterator ≡ piece ++ more = c.in-Some.ensures.steps in
    let off : bytes_eq (take (length piece) rest) piece ≡ false =
    rw (← c.as_bytes.ensures.value) c.in-None-strip_prefix.ensures.cases in
    sym (sym c.loop-piece.invariant ∙ ap (bytes_eq rest) steps ∙ front_first rest piece more
    ∙ ap (λ b. b && bytes_eq (drop (length piece) rest) more) off)

pub loop-piece-preserved : goal.loop-piece-preserved
loop-piece-preserved c =
    let rest = c.loop-piece.rest.now in
    let piece = c.in-Some.piece.now in
    let more = encoded_text c.next.new.self in
    let steps : encoded_text c.loop-piece.piece-iterator ≡ piece ++ more = c.in-Some.ensures.steps in
    let on : bytes_eq (take (length piece) rest) piece ≡ true =
    rw (← c.as_bytes.ensures.value) c.in-Some-strip_prefix.ensures.cases.0 in
    let left : c.in-Some-strip_prefix.left.now ≡ drop (length piece) rest =
    rw (← c.as_bytes.ensures.value) c.in-Some-strip_prefix.ensures.cases.1 in
    ap (λ l. bytes_eq l more) left
    ∙ sym (ap (λ b. b && bytes_eq (drop (length piece) rest) more) on)
    ∙ sym (front_first rest piece more)
    ∙ ap (bytes_eq rest) (sym steps)
    ∙ c.loop-piece.invariant
