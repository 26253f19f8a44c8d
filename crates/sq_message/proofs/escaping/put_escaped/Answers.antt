use Rattle.std.proofs.Common.{◌≡◌, ◌∙◌, ◌++◌, sym, ap, [], append-nil}
use Rattle.percent_encoding.specs.Iter.{encoded_text}
use Rattle.sq_base.specs.Escapes.{escaped}
use Rattle.sq_message.proofs.EscapeLaws.{encodes}
use Rattle.sq_message.proofs.escaping.put_escaped.Goals as goal

pub returns : goal.returns
returns c =
    let to = c.loop-piece.to in
    let none : encoded_text c.loop-piece.piece-iterator ≡ [] = c.in-None.ensures.steps in
    let start : encoded_text c.into_iter-piece-iterator.result ≡ escaped c.args.bytes.now =
    ap encoded_text c.into_iter-piece-iterator.ensures.into_iter_gives ∙ c.percent_encode-piece-items.ensures.text
    ∙ encodes c.args.bytes.now in
    sym (append-nil to) ∙ ap (λ t. to ++ t) (sym none) ∙ c.loop-piece.invariant ∙ ap (λ t. c.args.to.now ++ t) start
