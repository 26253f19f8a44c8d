use Rattle.std.proofs.Common.{◌≡◌, ◌-◌, [], take, drop, sym, subst, ◌∙◌, append-nil}
use Rattle.std.specs.Io.KnownBytes.{Consumes, IsAtEnd, Keeps}
use Rattle.sq_forward.proofs.AheadLaws.{of_some, of_none, grown, stood, keeps_as, keeps_stood, keeps_grown}
use Rattle.sq_forward.proofs.ahead.Ahead.read_once.Goals as goal

pub returns-in-Ok-Some-eq0-clause-filled : goal.returns-in-Ok-Some-eq0-clause-filled
returns-in-Ok-Some-eq0-clause-filled g c =
    let x = c.self.inside in (
      stood x.start x.end x.bytes.items c.read_at.new.bytes.items c.args.self.now c.self.invariant.ordered
          (c.read_at.ensures.front ∙ c.make_room.ensures.front) c.self.view_is,
      of_some (λ n. n ≡ 0 → IsAtEnd (g.S.Source.left c.read_at.new.source)) c.in-Ok-Some-eq0.field-0-is
          c.in-Ok-Some-eq0.ensures.over c.in-Ok-Some-eq0.field-0-0-test,
    )

pub returns-in-Ok-Some-eq0-clause-kept : goal.returns-in-Ok-Some-eq0-clause-kept
returns-in-Ok-Some-eq0-clause-kept g c =
    let x = c.self.inside in
    let same = stood x.start x.end x.bytes.items c.read_at.new.bytes.items c.args.self.now c.self.invariant.ordered
    (c.read_at.ensures.front ∙ c.make_room.ensures.front) c.self.view_is in
    keeps_grown c.args.self.now _ [] _ _ (same ∙ sym (append-nil c.args.self.now))
    (subst (λ n. Consumes (g.S.Source.left c.args.source.now) (g.S.Source.left c.read_at.new.source)
    (take n (drop x.end c.read_at.new.bytes.items))) c.in-Ok-Some-eq0.field-0-0-test
    (of_some (λ n. Consumes (g.S.Source.left c.args.source.now) (g.S.Source.left c.read_at.new.source)
    (take n (drop x.end c.read_at.new.bytes.items)))
    c.in-Ok-Some-eq0.field-0-is c.in-Ok-Some-eq0.ensures.taken))

pub returns-in-Ok-Some-eq0-clause-front : goal.returns-in-Ok-Some-eq0-clause-front
returns-in-Ok-Some-eq0-clause-front g c =
    let x = c.self.inside in (
      [],
      stood x.start x.end x.bytes.items c.read_at.new.bytes.items c.args.self.now c.self.invariant.ordered
          (c.read_at.ensures.front ∙ c.make_room.ensures.front) c.self.view_is ∙ sym (append-nil c.args.self.now),
    )

pub returns-after-soon-clause-kept : goal.returns-after-soon-clause-kept
returns-after-soon-clause-kept g c =
    let x = c.self.inside in
    keeps_grown c.args.self.now _ _ _ _
    (grown x.start x.end c.in-Ok-Some.count x.bytes.items c.read_at.new.bytes.items c.args.self.now
    c.self.invariant.ordered (c.read_at.ensures.front ∙ c.make_room.ensures.front) c.self.view_is)
    (of_some (λ n. Consumes (g.S.Source.left c.args.source.now) (g.S.Source.left c.read_at.new.source)
    (take n (drop x.end c.read_at.new.bytes.items)))
    c.in-Ok-Some.field-0-is c.in-Ok-Some.ensures.taken)

pub returns-after-soon-clause-front : goal.returns-after-soon-clause-front
returns-after-soon-clause-front g c =
    let x = c.self.inside in (
      take c.in-Ok-Some.count (drop x.end c.read_at.new.bytes.items),
      grown x.start x.end c.in-Ok-Some.count x.bytes.items c.read_at.new.bytes.items c.args.self.now
          c.self.invariant.ordered (c.read_at.ensures.front ∙ c.make_room.ensures.front) c.self.view_is,
    )

pub returns-in-Ok-None-clause-none : goal.returns-in-Ok-None-clause-none
returns-in-Ok-None-clause-none g c =
    let x = c.self.inside in
    stood x.start x.end x.bytes.items c.read_at.new.bytes.items c.args.self.now c.self.invariant.ordered
    (c.read_at.ensures.front ∙ c.make_room.ensures.front) c.self.view_is

pub returns-in-Ok-None-clause-kept : goal.returns-in-Ok-None-clause-kept
returns-in-Ok-None-clause-kept g c =
    let x = c.self.inside in
    keeps_stood c.args.self.now _ _ _
    (stood x.start x.end x.bytes.items c.read_at.new.bytes.items c.args.self.now c.self.invariant.ordered
    (c.read_at.ensures.front ∙ c.make_room.ensures.front) c.self.view_is)
    (of_none (Keeps (g.S.Source.left c.args.source.now) (g.S.Source.left c.read_at.new.source))
    c.in-Ok-None.field-0-is c.in-Ok-None.ensures.none)

pub returns-in-Ok-None-clause-front : goal.returns-in-Ok-None-clause-front
returns-in-Ok-None-clause-front g c =
    let x = c.self.inside in (
      [],
      stood x.start x.end x.bytes.items c.read_at.new.bytes.items c.args.self.now c.self.invariant.ordered
          (c.read_at.ensures.front ∙ c.make_room.ensures.front) c.self.view_is ∙ sym (append-nil c.args.self.now),
    )

pub returns-in-Err-read_at-clause-kept : goal.returns-in-Err-read_at-clause-kept
returns-in-Err-read_at-clause-kept g c =
    let x = c.self.inside in
    keeps_stood c.args.self.now _ _ _
    (stood x.start x.end x.bytes.items c.read_at.new.bytes.items c.args.self.now c.self.invariant.ordered
    (c.read_at.ensures.front ∙ c.make_room.ensures.front) c.self.view_is)
    c.in-Err-read_at.ensures.err

pub returns-in-Err-read_at-clause-front : goal.returns-in-Err-read_at-clause-front
returns-in-Err-read_at-clause-front g c =
    let x = c.self.inside in (
      [],
      stood x.start x.end x.bytes.items c.read_at.new.bytes.items c.args.self.now c.self.invariant.ordered
          (c.read_at.ensures.front ∙ c.make_room.ensures.front) c.self.view_is ∙ sym (append-nil c.args.self.now),
    )

pub returns-in-Err-clause-kept : goal.returns-in-Err-clause-kept
returns-in-Err-clause-kept g c =
    let x = c.self.inside in
    keeps_as c.args.self.now _ _
    (stood x.start x.end x.bytes.items c.make_room.new.bytes.items c.args.self.now c.self.invariant.ordered
    c.make_room.ensures.front c.self.view_is)

pub returns-in-Err-clause-front : goal.returns-in-Err-clause-front
returns-in-Err-clause-front g c =
    let x = c.self.inside in (
      [],
      stood x.start x.end x.bytes.items c.make_room.new.bytes.items c.args.self.now c.self.invariant.ordered
          c.make_room.ensures.front c.self.view_is ∙ sym (append-nil c.args.self.now),
    )
