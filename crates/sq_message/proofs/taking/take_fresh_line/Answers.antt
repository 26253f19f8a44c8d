use Rattle.std.proofs.Common.{◌≡◌, ◌-◌, ◌<◌, [], length, take, subst, sym, ◌∙◌, arith, length-take}
use Rattle.sq_message.specs.declared.chunk_line.LineRead.TheVariants as read
use Rattle.sq_message.specs.declared.body_state.BodyState.TheVariants.{Line}
use Rattle.sq_message.specs.Feeding.{TakesFront}
use Rattle.sq_message.specs.LineReads.{LineReads}
use Rattle.sq_message.proofs.TakeLaws.{holds_fresh, line_whole_taken, whole_takes, line_takes, full_takes, never_takes}
use Rattle.sq_message.proofs.taking.take_fresh_line.Goals as goal

pub returns-in_ok-place-in-Whole-clause-ok : goal.returns-in_ok-place-in-Whole-clause-ok
returns-in_ok-place-in-Whole-clause-ok c =
    let rest = c.args.rest.now in
    let count = c.min-count.result in
    let len = c.in-Whole.len in
    let size = c.in-Whole.size in
    let says = subst (λ b. LineReads b (read.Whole len size)) c.split_at.ensures.front c.in-Whole.ensures in
    let taken = line_whole_taken c.args.chunked [] rest count len size holds_fresh c.requires.some c.min-count.ensures
    says in
    let q = c.in_ok-place-in-Whole.place in
    let out = c.args.out.now in
    let ok = c.in_ok-place-in-Whole.ensures.ok in
    let all : len - 0 ≡ len = omega arith in
    subst (λ n. TakesFront c.args.chunked (Line []) rest q n out c.begin_chunk.new.out) all
    (whole_takes c.args.chunked [] rest len size q out c.begin_chunk.new.out taken ok.0 ok.1 ok.2)

pub returns-in_ok-text-in-NotYet-clause-ok : goal.returns-in_ok-text-in-NotYet-clause-ok
returns-in_ok-text-in-NotYet-clause-ok c =
    let rest = c.args.rest.now in
    let count = c.min-count.result in
    let says = subst (λ b. LineReads b read.NotYet) c.split_at.ensures.front c.in-NotYet.ensures in
    let room : length (take count rest) < 4096 = omega (arith, c.if-count-lt-LINE_LIMIT.true, length-take count rest) in
    subst (λ t. TakesFront c.args.chunked (Line []) rest (Line t) count c.args.out.now c.args.out.now)
    (sym (c.in_ok-text-in-NotYet.ensures ∙ c.split_at.ensures.front))
    (line_takes c.args.chunked [] rest count c.args.out.now holds_fresh c.requires.some c.min-count.ensures says room)

pub returns-else-count-lt-LINE_LIMIT-clause-ok : goal.returns-else-count-lt-LINE_LIMIT-clause-ok
returns-else-count-lt-LINE_LIMIT-clause-ok c =
    let rest = c.args.rest.now in
    let count = c.min-count.result in
    let says = subst (λ b. LineReads b read.NotYet) c.split_at.ensures.front c.in-NotYet.ensures in
    full_takes c.args.chunked [] rest count c.args.out.now holds_fresh c.requires.some c.min-count.ensures says
    (λ less. omega (arith, less, c.if-count-lt-LINE_LIMIT.false, c.min-count.ensures, length-take count rest))

pub returns-in-Never-clause-ok : goal.returns-in-Never-clause-ok
returns-in-Never-clause-ok c =
    let rest = c.args.rest.now in
    let count = c.min-count.result in
    let says = subst (λ b. LineReads b read.Never) c.split_at.ensures.front c.in-Never.ensures in
    never_takes c.args.chunked [] rest count c.args.out.now holds_fresh c.requires.some c.min-count.ensures says
