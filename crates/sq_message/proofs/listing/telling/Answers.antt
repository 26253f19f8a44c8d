use Rattle.std.proofs.Common.{◌≡◌, ◌+◌, List, ℕ, map, take, arith, subst, sym}
use Rattle.std.specs.Borrow.{Bor}
use Rattle.sq_message.proofs.MarkLaws.{one_taken}
use Rattle.sq_message.specs.Marks.{IsMarked}
use Rattle.sq_message.proofs.listing.telling.Goals as goal

pub loop-option-preserved : goal.loop-option-preserved
loop-option-preserved c =
    let i = c.loop-option.option-index in
    let items = c.as_slice-option-items.result.now in
    let same : items ≡ c.args.options.items = c.as_slice-option-items.ensures.value in
    let fields = c.args.fields.now in
    let kept = map (λ (o : Bor (List ℕ)). o.now) c.keep_first.new.kept.items in
    subst (λ (l : List (Bor (List ℕ))). IsMarked fields c.keep_first.new.marks kept
    (map (λ (o : Bor (List ℕ)). o.now) (take (i + 1) l))) same
    (subst (IsMarked fields c.keep_first.new.marks kept)
    (one_taken items i _ (omega (arith, c.loop-option-test.true)))
    (c.in_ok-keep_first.ensures fields (map (λ (o : Bor (List ℕ)). o.now) (take i items))
    (subst (λ (l : List (Bor (List ℕ))). IsMarked fields c.loop-option.marks
    (map (λ (o : Bor (List ℕ)). o.now) c.loop-option.kept.items) (map (λ (o : Bor (List ℕ)). o.now) (take i l)))
    (sym same) c.loop-option.invariant)))
