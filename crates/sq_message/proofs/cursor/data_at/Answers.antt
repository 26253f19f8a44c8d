use Rattle.std.proofs.Common.{◌-◌, length, sym, subst}
use Rattle.sq_message.specs.declared.body_state.BodyState.{BodyState}
use Rattle.sq_message.specs.declared.body_state.BodyState.TheVariants.{Plain, Open, Data}
use Rattle.sq_message.specs.Feeding.{Passes}
use Rattle.sq_message.proofs.PassLaws.{plain_passes, open_passes, data_passes}
use Rattle.sq_message.proofs.cursor.data_at.Goals as goal

pub returns-in-Plain-clause-passes : goal.returns-in-Plain-clause-passes
returns-in-Plain-clause-passes c =
    let n = c.min-used.result in
    subst (λ (p : BodyState). Passes p c.args.input.now (Plain (c.in-Plain.left - n)) n) (sym c.in-Plain.is)
    (plain_passes c.in-Plain.left n c.args.input.now c.min-used.ensures)

pub returns-in-Open-clause-passes : goal.returns-in-Open-clause-passes
returns-in-Open-clause-passes c = subst (λ (p : BodyState). Passes p c.args.input.now Open (length c.args.input.now))
    (sym c.in-Open.is) (open_passes c.args.input.now)

pub returns-then-input-left-clause-passes : goal.returns-then-input-left-clause-passes
returns-then-input-left-clause-passes c =
    let n = length c.args.input.now in
    subst (λ (p : BodyState). Passes p c.args.input.now (Data (c.in-Data.left - n)) n) (sym c.in-Data.is)
    (data_passes c.in-Data.left c.args.input.now c.if-input-left.true)
