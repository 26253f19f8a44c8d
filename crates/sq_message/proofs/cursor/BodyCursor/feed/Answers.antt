use Rattle.std.proofs.Common.{sym, ap, arith, length, true, false}
use Rattle.sq_message.proofs.TakeLaws.{fed_done, fed_all, fed_bad, fed_part, refused_is, done_going, kept_few}
use Rattle.sq_message.proofs.GrowthLaws.{fed_small, part_small}
use Rattle.sq_message.proofs.PieceLaws.{joined, joined_bad}
use Rattle.sq_message.proofs.cursor.BodyCursor.feed.Goals as goal

pub returns-then-is_complete-clause-fed : goal.returns-then-is_complete-clause-fed
returns-then-is_complete-clause-fed c =
    let done = sym c.if-is_complete.ensures in
    fed_done c.args.self.now.chunked c.args.self.now.place c.pieces.self-inside.place c.args.input.now c.pieces.at
    c.args.out.now c.pieces.out
    c.pieces.invariant.went done (done_going c.pieces.self-inside.place done)

pub returns-then-is_refused-clause-bad : goal.returns-then-is_refused-clause-bad
returns-then-is_refused-clause-bad c = λ _.
    fed_bad c.args.self.now.chunked c.args.self.now.place c.pieces.self-inside.place c.args.input.now c.pieces.at
    c.args.out.now c.pieces.out
    c.pieces.invariant.went (refused_is c.pieces.self-inside.place (sym c.if-is_refused.ensures))

pub returns-then-at-input-clause-fed : goal.returns-then-at-input-clause-fed
returns-then-at-input-clause-fed c =
    fed_all c.args.self.now.chunked c.args.self.now.place c.pieces.self-inside.place c.args.input.now c.pieces.at
    c.args.out.now c.pieces.out
    c.pieces.invariant.went c.if-at-input.true (sym c.if-is_complete.ensures) (sym c.if-is_refused.ensures)

pub returns-then-is_complete-clause-joined : goal.returns-then-is_complete-clause-joined
returns-then-is_complete-clause-joined c = λ plan before follows.
    joined plan c.args.self.now.chunked before c.args.input.now c.args.self.now.place c.pieces.self-inside.place
    c.pieces.at true c.args.out.now c.pieces.out follows
    (returns-then-is_complete-clause-fed c)

pub returns-then-at-input-clause-joined : goal.returns-then-at-input-clause-joined
returns-then-at-input-clause-joined c = λ plan before follows.
    joined plan c.args.self.now.chunked before c.args.input.now c.args.self.now.place c.pieces.self-inside.place
    c.pieces.at false c.args.out.now c.pieces.out follows
    (returns-then-at-input-clause-fed c)

pub returns-then-is_refused-clause-joined_bad : goal.returns-then-is_refused-clause-joined_bad
returns-then-is_refused-clause-joined_bad c = λ plan before follows bad.
    joined_bad plan c.args.self.now.chunked before c.args.input.now c.args.self.now.place c.pieces.self-inside.place
    c.args.out.now c.pieces.out follows
    (returns-then-is_refused-clause-bad c bad)

pub returns-then-is_complete-clause-small : goal.returns-then-is_complete-clause-small
returns-then-is_complete-clause-small c = fed_small c.args.self.now.chunked c.args.self.now.place
    c.pieces.self-inside.place c.args.input.now c.pieces.at true c.args.out.now c.pieces.out
    (returns-then-is_complete-clause-fed c)

pub returns-then-at-input-clause-small : goal.returns-then-at-input-clause-small
returns-then-at-input-clause-small c = fed_small c.args.self.now.chunked c.args.self.now.place
    c.pieces.self-inside.place c.args.input.now c.pieces.at false c.args.out.now c.pieces.out
    (returns-then-at-input-clause-fed c)

pub returns-then-is_refused-clause-small_bad : goal.returns-then-is_refused-clause-small_bad
returns-then-is_refused-clause-small_bad c =
    part_small c.args.self.now.chunked c.args.self.now.place c.args.input.now c.args.out.now c.pieces.out
    (fed_part c.args.self.now.chunked c.args.self.now.place c.pieces.self-inside.place c.args.input.now c.pieces.at
    c.args.out.now c.pieces.out c.pieces.invariant.went)

pub returns-in-Err-clause-small_bad : goal.returns-in-Err-clause-small_bad
returns-in-Err-clause-small_bad c =
    let w = part_small c.args.self.now.chunked c.args.self.now.place c.args.input.now c.args.out.now c.pieces.out
    (fed_part c.args.self.now.chunked c.args.self.now.place c.pieces.self-inside.place c.args.input.now c.pieces.at
    c.args.out.now c.pieces.out c.pieces.invariant.went) in
    omega (arith, w, ap length c.in-Err.ensures.err)

pub returns-then-is_complete-clause-kept : goal.returns-then-is_complete-clause-kept
returns-then-is_complete-clause-kept c = kept_few c.pieces.self-inside.place c.pieces.invariant.went.sound

pub returns-then-is_refused-clause-kept : goal.returns-then-is_refused-clause-kept
returns-then-is_refused-clause-kept c = kept_few c.pieces.self-inside.place c.pieces.invariant.went.sound

pub returns-then-at-input-clause-kept : goal.returns-then-at-input-clause-kept
returns-then-at-input-clause-kept c = kept_few c.pieces.self-inside.place c.pieces.invariant.went.sound
