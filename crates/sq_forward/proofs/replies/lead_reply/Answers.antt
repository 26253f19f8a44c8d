use Rattle.std.proofs.Common.{inr, IfSome, Err, refl, sym, ap, subst, ◌∙◌, arith, rules}
use Rattle.std.specs.Io.KnownBytes.{prepend_known}
use Rattle.sq_forward.specs.Access.{access_by}
use Rattle.sq_forward.specs.Exchanges.{interim_text}
use Rattle.sq_forward.specs.Leading.{TakesHead, PaysHeads}
use Rattle.sq_forward.specs.Meters.{PaysAll, metered}
use Rattle.sq_forward.proofs.LeadLaws.{leads_none, leads_own, leads_missing, leads_refused, leads_failed, leads_no_memory, leads_more, leads_part}
use Rattle.sq_forward.proofs.replies.lead_reply.Goals as goal

pub loop-init : goal.loop-init
loop-init g c = record {
  leads = leads_none _ _ _ _ _ _ (search (rules, g.M.laws));
  room = omega arith;
  dry = c.requires.dry;
  seated = refl;
  besides = refl;
  origin_later = omega arith;
  client_later = omega arith;
  dialled = refl;
  few = omega arith;
}

pub returns-in-Err-Missing-clause-leads : goal.returns-in-Err-Missing-clause-leads
returns-in-Err-Missing-clause-leads g c =
    let left = g.P.Source.left in
    let told = prepend_known c.loop.origin.ahead (left c.loop.origin.source) in
    let next = prepend_known c.take_head.new.origin.ahead (left c.take_head.new.origin.source) in
    leads_missing _ told next c.loop.invariant.leads
    (subst (λ e. IfSome told (λ bytes. TakesHead bytes next (Err e))) c.in-Err-Missing.field-0-is
    c.in-Err-Missing.ensures.takes) c.loop.invariant.room

pub returns-in-Err-Failed-clause-leads : goal.returns-in-Err-Failed-clause-leads
returns-in-Err-Failed-clause-leads g c =
    let left = g.P.Source.left in
    leads_failed _ (prepend_known c.loop.origin.ahead (left c.loop.origin.source)) _ c.loop.invariant.leads
    (omega (arith, c.in-Err-Failed.ensures.cause (ap Err c.in-Err-Failed.field-0-is), c.loop.invariant.origin_later))
    c.loop.invariant.room

pub returns-in-Err-WantOfMemory-clause-leads : goal.returns-in-Err-WantOfMemory-clause-leads
returns-in-Err-WantOfMemory-clause-leads g c =
    leads_no_memory _ (prepend_known c.loop.origin.ahead (g.P.Source.left c.loop.origin.source)) _
    c.loop.invariant.leads c.loop.invariant.room

pub returns-then-not-is_interim-clause-leads : goal.returns-then-not-is_interim-clause-leads
returns-then-not-is_interim-clause-leads g c =
    let left = g.P.Source.left in
    leads_own _ _ (prepend_known c.loop.origin.ahead (left c.loop.origin.source)) _ c.in-Ok.head c.own_head.result
    c.loop.invariant.leads c.in-Ok.ensures.takes c.loop.invariant.room
    (sym c.is_interim.ensures ∙ c.if-not-is_interim.true) c.own_head.ensures

pub returns-then-passed-eq-INTERIM_LIMIT-clause-leads : goal.returns-then-passed-eq-INTERIM_LIMIT-clause-leads
returns-then-passed-eq-INTERIM_LIMIT-clause-leads g c =
    let left = g.P.Source.left in
    leads_refused _ (prepend_known c.loop.origin.ahead (left c.loop.origin.source)) _ c.in-Ok.head
    c.loop.invariant.leads c.in-Ok.ensures.takes c.loop.invariant.room
    (inr (sym c.is_interim.ensures ∙ c.if-not-is_interim.false, c.if-passed-eq-INTERIM_LIMIT.true))

pub returns-in-Err-clause-leads : goal.returns-in-Err-clause-leads
returns-in-Err-clause-leads g c =
    let left = g.P.Source.left in
    leads_part _ (prepend_known c.loop.origin.ahead (left c.loop.origin.source)) _ c.in-Ok.head c.in-Err.end
    c.loop.invariant.leads c.in-Ok.ensures.takes
    (sym c.is_interim.ensures ∙ c.if-not-is_interim.false)
    (omega (arith, c.loop.invariant.room, c.if-passed-eq-INTERIM_LIMIT.false)) c.in-Err.ensures.other
    (subst (λ s. PaysHeads (interim_text (access_by c.args.outgoing.now.config.now c.args.outgoing.now.facts.now)
    c.args.outgoing.now.request.now c.in-Ok.head)
    (metered s (g.O.Sink.contents c.loop.to_client) (g.O.Sink.contents c.pass_on.new.to_client)
    (g.M.Meter.granted c.loop.meter) (g.M.Meter.granted c.pass_on.new.meter)) c.in-Err.end) c.loop.invariant.seated
    c.in-Err.ensures.sends)

pub loop-preserved : goal.loop-preserved
loop-preserved g c =
    let left = g.P.Source.left in
    let inv = c.loop.invariant in
    record {
      leads =
          leads_more _ (prepend_known c.loop.origin.ahead (left c.loop.origin.source)) _ c.in-Ok.head inv.leads
          c.in-Ok.ensures.takes
          (sym c.is_interim.ensures ∙ c.if-not-is_interim.false)
          (subst (λ s. PaysAll (interim_text (access_by c.args.outgoing.now.config.now c.args.outgoing.now.facts.now)
          c.args.outgoing.now.request.now
          c.in-Ok.head) (metered s (g.O.Sink.contents c.loop.to_client) (g.O.Sink.contents c.pass_on.new.to_client)
          (g.M.Meter.granted c.loop.meter) (g.M.Meter.granted c.pass_on.new.meter))) inv.seated
          c.in-Ok-pass_on.ensures.sends);
      room = omega (arith, inv.room, c.if-passed-eq-INTERIM_LIMIT.false);
      dry = c.in-Ok-pass_on.ensures.dry;
      seated = c.pass_on.ensures.seated ∙ inv.seated;
      besides = c.pass_on.ensures.besides ∙ inv.besides;
      origin_later = omega (arith, inv.origin_later, c.take_head.ensures.later);
      client_later = omega (arith, inv.client_later, c.pass_on.ensures.later);
      dialled = c.take_head.ensures.dialled ∙ inv.dialled;
      few = omega (arith, inv.few, c.take_head.ensures.few);
    }
