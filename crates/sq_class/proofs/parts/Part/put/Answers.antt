use Rattle.std.proofs.Common.{◌≡◌, ◌∙◌, ◌+◌, ◌==◌, not, List, true, false, if◌then◌else◌, filter, ap, ap₂, sym, refl}
use Rattle.sq_lookup.specs.Waits.{is_free}
use Rattle.sq_machine.specs.Farms.{Stock, places}
use Rattle.sq_machine.specs.OpenLookups.{LookupRow, all_below, is_open_lookup}
use Rattle.sq_model.specs.ClassRows.{ClassRow}
use Rattle.sq_class.proofs.HoldLaws.{counted_next, itself, not_open, undone, undone_waiting}
use Rattle.sq_class.proofs.parts.Part.put.Goals as goal

pub open-requires-clause-question : goal.open-requires-clause-question
open-requires-clause-question c =
    let rows = c.self.inside.lookups.rows in
    let below : all_below (c.args.count + 1) rows ≡ true =
    counted_next c.args.count rows (rw (← c.self.view_is) at c.requires.counted) in
    not_open (c.args.count + 1) rows below

pub put-requires : goal.put-requires
put-requires c =
    let rows = c.self.inside.lookups.rows in
    let below : all_below (c.args.count + 1) rows ≡ true =
    counted_next c.args.count rows (rw (← c.self.view_is) at c.requires.counted) in
    c.self.invariant (c.args.count + 1) ∙ ap (λ b. if b then 1 else 0) (not_open (c.args.count + 1) rows below)

pub invariant_of-self-in-Err : goal.invariant_of-self-in-Err
invariant_of-self-in-Err c = λ q.
    let rows = c.self.inside.lookups.rows in
    let number = c.args.count + 1 in
    let below : all_below number rows ≡ true =
    counted_next c.args.count rows (rw (← c.self.view_is) at c.requires.counted) in
    let l : LookupRow = record { question = number; key = c.in_ok-name.name } in
    let same : c.answered.new.self.rows ≡ rows =
    c.answered.ensures.rows ∙ ap (filter (λ (r : LookupRow). not (number == r.question)))
    (c.in_ok-open.ensures.last below) ∙ undone number l rows (itself number) (not_open number rows below) in
    ap (places q) c.in-Err.ensures.err ∙ c.self.invariant q ∙ ap (λ xs. if is_open_lookup q xs then 1 else 0) (sym same)

pub returns-in-Err-clause-err : goal.returns-in-Err-clause-err
returns-in-Err-clause-err c =
    let rows = c.self.inside.lookups.rows in
    let number = c.args.count + 1 in
    let below : all_below number rows ≡ true =
    counted_next c.args.count rows (rw (← c.self.view_is) at c.requires.counted) in
    let l : LookupRow = record { question = number; key = c.in_ok-name.name } in
    let closed : is_open_lookup number rows ≡ false = not_open number rows below in
    let same : c.answered.new.self.rows ≡ rows =
    c.answered.ensures.rows ∙ ap (filter (λ (r : LookupRow). not (number == r.question)))
    (c.in_ok-open.ensures.last below) ∙ undone number l rows (itself number) closed in
    let free : is_free c.args.check c.self.inside.lookups.waiting ≡ true = rw (← c.self.view_is) at c.requires.check in
    rw (← c.self.view_is) (record {
      row_is = ap₂ (λ (xs : List LookupRow) (v : Stock). let r : ClassRow =
          record { kept = c.self.inside.kept.verdicts; lookups = xs; stock = v } in r) same c.in-Err.ensures.err;
      waiting_are = λ n. undone_waiting n number c.args.check c.self.inside.lookups.waiting c.open.new.self.waiting
          c.answered.new.self.waiting free (c.pending-none.ensures.alone number n closed)
          (c.in_ok-open.ensures.waiting n)
          (c.answered.ensures.waiting n);
      limit_is = refl;
    })
