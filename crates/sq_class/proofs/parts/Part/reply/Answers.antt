use Rattle.std.proofs.Common.{◌≡◌, ◌∙◌, true, false}
use Rattle.sq_machine.specs.Channels.{is_open}
use Rattle.sq_machine.specs.Living.{slots_in}
use Rattle.sq_class.proofs.HoldLaws.{holds_replied, is_there, open_place}
use Rattle.sq_class.proofs.parts.Part.reply.Goals as goal

pub unreachable-requires : goal.unreachable-requires
unreachable-requires c =
    let f = c.self.inside.farm in
    let opened : is_open c.args.question (slots_in c.args.proc f.procs) ≡ true = rw (← c.self.view_is)
    at c.requires.opened in
    let t = is_there f c.self.inside.lookups.rows c.self.invariant c.args.question
    (open_place f c.args.proc c.args.question opened) in
    let no : false ≡ true = c.in_default.ensures.open ∙ t in cc

pub invariant_of-self-2 : goal.invariant_of-self-2
invariant_of-self-2 c = λ q.
    let f = c.self.inside.farm in
    let opened : is_open c.args.question (slots_in c.args.proc f.procs) ≡ true = rw (← c.self.view_is)
    at c.requires.opened in
    rw c.answered.ensures.rows
    (holds_replied f c.settle_reply.new.self c.args.proc c.args.question c.self.inside.lookups.rows c.self.invariant
    opened c.settle_reply.ensures.value c.settle_reply.ensures.stay q)
