use Rattle.std.proofs.Common.{◌≡◌, ◌++◌, ◌-◌, ◌<◌, min, length, take, ap, subst, sym, ◌∙◌, arith}
use Rattle.sq_message.specs.declared.chunk_line.LineRead.TheVariants as read
use Rattle.sq_message.specs.declared.body_state.BodyState.TheVariants.{Line}
use Rattle.sq_message.specs.Feeding.{TakesFront}
use Rattle.sq_message.specs.LineReads.{LineReads}
use Rattle.sq_message.proofs.TakeLaws.{line_whole_taken, whole_takes, line_takes, full_takes, never_takes}
use Rattle.sq_message.proofs.taking.take_line.Goals as goal

pub overflow_sub-result : goal.overflow_sub-result
overflow_sub-result c =
    let text = c.args.text in
    let rest = c.args.rest.now in
    let count = c.min-count.result in
    let is : count ≡ min (length rest) (4096 - length text) = c.min-count.ensures
    ∙ ap (λ n. min (length rest) (4096 - n)) c.len-had.ensures in
    let buf : c.as_bytes.result.now ≡ text ++ take count rest = c.as_bytes.ensures.value ∙ c.in_ok-append.ensures.ok
    ∙ ap (λ p. text ++ p) c.split_at.ensures.front in
    let says = subst (λ b. LineReads b (read.Whole c.in-Whole.len c.in-Whole.size)) buf c.in-Whole.ensures in
    omega (
      arith,
      (line_whole_taken c.args.chunked text rest count c.in-Whole.len c.in-Whole.size c.requires.sound
          c.requires.some is says).past,
      c.len-had.ensures,
    )

pub returns-in_ok-place-in-Whole-clause-ok : goal.returns-in_ok-place-in-Whole-clause-ok
returns-in_ok-place-in-Whole-clause-ok c =
    let text = c.args.text in
    let rest = c.args.rest.now in
    let count = c.min-count.result in
    let len = c.in-Whole.len in
    let size = c.in-Whole.size in
    let is : count ≡ min (length rest) (4096 - length text) = c.min-count.ensures
    ∙ ap (λ n. min (length rest) (4096 - n)) c.len-had.ensures in
    let buf : c.as_bytes.result.now ≡ text ++ take count rest = c.as_bytes.ensures.value ∙ c.in_ok-append.ensures.ok
    ∙ ap (λ p. text ++ p) c.split_at.ensures.front in
    let says = subst (λ b. LineReads b (read.Whole len size)) buf c.in-Whole.ensures in
    let taken = line_whole_taken c.args.chunked text rest count len size c.requires.sound c.requires.some is says in
    let q = c.in_ok-place-in-Whole.place in
    let out = c.args.out.now in
    let ok = c.in_ok-place-in-Whole.ensures.ok in
    subst (λ n. TakesFront c.args.chunked (Line text) rest q (len - n) out c.begin_chunk.new.out)
    (sym c.len-had.ensures)
    (whole_takes c.args.chunked text rest len size q out c.begin_chunk.new.out taken ok.0 ok.1 ok.2)

pub returns-then-len-lt-LINE_LIMIT-clause-ok : goal.returns-then-len-lt-LINE_LIMIT-clause-ok
returns-then-len-lt-LINE_LIMIT-clause-ok c =
    let text = c.args.text in
    let rest = c.args.rest.now in
    let count = c.min-count.result in
    let is : count ≡ min (length rest) (4096 - length text) = c.min-count.ensures
    ∙ ap (λ n. min (length rest) (4096 - n)) c.len-had.ensures in
    let more : c.append.new.self ≡ text ++ take count rest = c.in_ok-append.ensures.ok
    ∙ ap (λ p. text ++ p) c.split_at.ensures.front in
    let says = subst (λ b. LineReads b read.NotYet) (c.as_bytes.ensures.value ∙ more) c.in-NotYet.ensures in
    let room : length (text ++ take count rest) < 4096 =
    omega (arith, c.if-len-lt-LINE_LIMIT.true, c.len.ensures, ap length more) in
    subst (λ t. TakesFront c.args.chunked (Line text) rest (Line t) count c.args.out.now c.args.out.now) (sym more)
    (line_takes c.args.chunked text rest count c.args.out.now c.requires.sound c.requires.some is says room)

pub returns-else-len-lt-LINE_LIMIT-clause-ok : goal.returns-else-len-lt-LINE_LIMIT-clause-ok
returns-else-len-lt-LINE_LIMIT-clause-ok c =
    let text = c.args.text in
    let rest = c.args.rest.now in
    let count = c.min-count.result in
    let is : count ≡ min (length rest) (4096 - length text) = c.min-count.ensures
    ∙ ap (λ n. min (length rest) (4096 - n)) c.len-had.ensures in
    let more : c.append.new.self ≡ text ++ take count rest = c.in_ok-append.ensures.ok
    ∙ ap (λ p. text ++ p) c.split_at.ensures.front in
    let says = subst (λ b. LineReads b read.NotYet) (c.as_bytes.ensures.value ∙ more) c.in-NotYet.ensures in
    full_takes c.args.chunked text rest count c.args.out.now c.requires.sound c.requires.some is says
    (λ less. omega (arith, less, c.if-len-lt-LINE_LIMIT.false, c.len.ensures, ap length more))

pub returns-in-Never-clause-ok : goal.returns-in-Never-clause-ok
returns-in-Never-clause-ok c =
    let text = c.args.text in
    let rest = c.args.rest.now in
    let count = c.min-count.result in
    let is : count ≡ min (length rest) (4096 - length text) = c.min-count.ensures
    ∙ ap (λ n. min (length rest) (4096 - n)) c.len-had.ensures in
    let more : c.append.new.self ≡ text ++ take count rest = c.in_ok-append.ensures.ok
    ∙ ap (λ p. text ++ p) c.split_at.ensures.front in
    let says = subst (λ b. LineReads b read.Never) (c.as_bytes.ensures.value ∙ more) c.in-Never.ensures in
    never_takes c.args.chunked text rest count c.args.out.now c.requires.sound c.requires.some is says
