use Rattle.std.proofs.Common.{◌≡◌, ◌∙◌, ◌++◌, ◌∷◌, [], List, ℕ, true, false, None, Some, cond, map, ap, sym, subst}
use Rattle.std.proofs.lemmas.List.{map-append}
use Rattle.std.specs.Borrow.{Bor}
use Rattle.std.specs.Prelude.{bytes_eq}
use Rattle.sq_message.proofs.MarkLaws.{first_marked, again_marked, none_marked}
use Rattle.sq_message.specs.Marks.{mark_at, mark_of, IsMarked}
use Rattle.sq_message.proofs.listing.keep_first.Goals as goal

pub returns-in-Some-true : goal.returns-in-Some-true
returns-in-Some-true c = λ fields options was.
    again_marked fields c.args.marks.now (map (λ (o : Bor (List ℕ)). o.now) c.args.kept.now.items) options
    c.args.option.now was
    (ap (mark_at c.args.marks.now) (sym c.in_ok-key.ensures.text) ∙ sym c.in-Some-true.ensures
    ∙ ap Some c.in-Some-true.field-0-test)

pub returns-in_ok-push-in-Some-false : goal.returns-in_ok-push-in-Some-false
returns-in_ok-push-in-Some-false c = λ fields options was.
    let before = c.args.marks.now in
    let kept = map (λ (o : Bor (List ℕ)). o.now) c.args.kept.now.items in
    let option = c.args.option.now in
    let here : mark_of before option ≡ Some false = ap (mark_at before) (sym c.in_ok-key.ensures.text)
    ∙ sym c.in-Some-false.ensures ∙ ap Some c.in-Some-false.field-0-test in
    let more : map (λ (o : Bor (List ℕ)). o.now) c.push.new.self.items ≡ kept ++ option ∷ [] =
    ap (map (λ (o : Bor (List ℕ)). o.now)) c.in_ok-push-in-Some-false.ensures.items
    ∙ map-append (λ (o : Bor (List ℕ)). o.now) c.args.kept.now.items (c.args.option ∷ []) in
    subst (λ l. IsMarked fields c.put.new.self l (options ++ option ∷ [])) (sym more)
    (first_marked fields before c.put.new.self kept options option was here
    (λ k. c.in_ok-put-in-Some-false.ensures k
    ∙ ap (λ q. cond (bytes_eq q k) (Some true) (mark_at before k)) c.in_ok-key.ensures.text))

pub returns-in-None : goal.returns-in-None
returns-in-None c = λ fields options was.
    none_marked fields c.args.marks.now (map (λ (o : Bor (List ℕ)). o.now) c.args.kept.now.items) options
    c.args.option.now was
    (ap (mark_at c.args.marks.now) (sym c.in_ok-key.ensures.text) ∙ sym c.in-None.ensures)
