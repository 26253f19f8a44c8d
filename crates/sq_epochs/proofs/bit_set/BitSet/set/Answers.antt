use Rattle.std.proofs.Common.{ap, sym, ◌∙◌, arith, if◌then◌else◌, ◌==◌}
use Rattle.sq_epochs.specs.Sets.{is_in}
use Rattle.sq_epochs.proofs.WordLaws.{put_in, taken_out}
use Rattle.sq_epochs.proofs.bit_set.BitSet.set.Goals as goal

pub returns-then-within : goal.returns-then-within
returns-then-within c = λ p.
    put_in c.self.inside.bits c.args.place p c.requires
    ∙ ap (λ b. if p == c.args.place then b else is_in p c.self.inside.bits) (sym c.if-within.true)
    ∙ ap (λ w. if p == c.args.place then c.args.within else is_in p w) c.self.view_is

pub returns-else-within : goal.returns-else-within
returns-else-within c = λ p.
    taken_out c.self.inside.bits c.args.place p c.requires (omega arith)
    ∙ ap (λ b. if p == c.args.place then b else is_in p c.self.inside.bits) (sym c.if-within.false)
    ∙ ap (λ w. if p == c.args.place then c.args.within else is_in p w) c.self.view_is
