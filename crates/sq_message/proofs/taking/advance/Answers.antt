use Rattle.std.proofs.Common.{◌≡◌, ◌-◌, false, get_or, [], refl, sym, ap, subst, ◌∙◌, arith, append-nil}
use Rattle.sq_message.specs.declared.body_state.BodyState.{BodyState}
use Rattle.sq_message.specs.declared.body_state.BodyState.TheVariants.{Plain, Open, Line, Data, Feed, Trailer, Refused}
use Rattle.sq_message.specs.Bodies.{crlf, framed, trailed, is_whole_body}
use Rattle.sq_message.specs.Feeding.{TakesFront, is_sound}
use Rattle.sq_message.proofs.TakeLaws.{plain_takes, data_takes, open_takes, one_takes, cr_step, no_cr_step, lf_step, no_lf_step, holds_fresh}
use Rattle.sq_message.proofs.taking.advance.Goals as goal

pub returns-in_ok-count-in-Plain-clause-ok : goal.returns-in_ok-count-in-Plain-clause-ok
returns-in_ok-count-in-Plain-clause-ok c =
    let left = c.in-Plain.left in
    let count = c.in_ok-count-in-Plain.count in
    let going : is_whole_body (Plain left) ≡ false =
    subst (λ (p : BodyState). is_whole_body p ≡ false) c.in-Plain.is c.requires.going in
    subst (λ (p : BodyState). TakesFront c.args.chunked p c.args.rest.now (Plain (left - count)) count c.args.out.now
    c.copy_some.new.out) (sym c.in-Plain.is)
    (plain_takes c.args.chunked left count c.args.rest.now c.args.out.now c.copy_some.new.out
    going c.requires.some c.in_ok-count-in-Plain.ensures.ok.0 c.in_ok-count-in-Plain.ensures.ok.1)

pub returns-in_ok-count-in-Open-clause-ok : goal.returns-in_ok-count-in-Open-clause-ok
returns-in_ok-count-in-Open-clause-ok c =
    let count = c.in_ok-count-in-Open.count in
    subst (λ (p : BodyState). TakesFront c.args.chunked p c.args.rest.now Open count c.args.out.now
    c.copy_some-in-Open.new.out) (sym c.in-Open.is)
    (open_takes c.args.chunked 18446744073709551615 count c.args.rest.now c.args.out.now c.copy_some-in-Open.new.out
    (omega arith) c.requires.some c.in_ok-count-in-Open.ensures.ok.0 c.in_ok-count-in-Open.ensures.ok.1)

pub returns-then-left-gt0-clause-ok : goal.returns-then-left-gt0-clause-ok
returns-then-left-gt0-clause-ok c =
    let left = c.in-Data.left in
    let count = c.in_ok-count-in-Data.count in
    subst (λ (p : BodyState). TakesFront c.args.chunked p c.args.rest.now (Data (left - count)) count c.args.out.now
    c.copy_some-then-left-gt0.new.out) (sym c.in-Data.is)
    (data_takes c.args.chunked left count c.args.rest.now c.args.out.now c.copy_some-then-left-gt0.new.out
    c.if-left-gt0.true c.requires.some c.in_ok-count-in-Data.ensures.ok.0 c.in_ok-count-in-Data.ensures.ok.1)

pub returns-then-rest-eq13-clause-ok : goal.returns-then-rest-eq13-clause-ok
returns-then-rest-eq13-clause-ok c =
    let b = get_or c.args.rest.now 0 0 in
    subst (λ (p : BodyState). TakesFront c.args.chunked p c.args.rest.now Feed 1 c.args.out.now c.args.out.now)
    (sym c.in-Data.is)
    (one_takes c.args.chunked (Data c.in-Data.left) c.args.rest.now Feed [] c.args.out.now c.args.out.now refl refl
    c.requires.some
    (cr_step c.args.chunked c.in-Data.left b (omega (arith, c.if-left-gt0.false)) c.if-rest-eq13.true)
    (sym (append-nil c.args.out.now)) refl)

pub returns-else-rest-eq13-clause-ok : goal.returns-else-rest-eq13-clause-ok
returns-else-rest-eq13-clause-ok c =
    let b = get_or c.args.rest.now 0 0 in
    subst (λ (p : BodyState). TakesFront c.args.chunked p c.args.rest.now Refused 1 c.args.out.now c.args.out.now)
    (sym c.in-Data.is)
    (one_takes c.args.chunked (Data c.in-Data.left) c.args.rest.now Refused [] c.args.out.now c.args.out.now refl refl
    c.requires.some
    (no_cr_step c.args.chunked c.in-Data.left b (omega (arith, c.if-left-gt0.false)) c.if-rest-eq13.false)
    (sym (append-nil c.args.out.now)) refl)

pub returns-then-rest-ne10-clause-ok : goal.returns-then-rest-ne10-clause-ok
returns-then-rest-ne10-clause-ok c =
    let b = get_or c.args.rest.now 0 0 in
    subst (λ (p : BodyState). TakesFront c.args.chunked p c.args.rest.now Refused 1 c.args.out.now c.args.out.now)
    (sym c.in-Feed.is)
    (one_takes c.args.chunked Feed c.args.rest.now Refused [] c.args.out.now c.args.out.now refl refl c.requires.some
    (no_lf_step c.args.chunked b c.if-rest-ne10.true) (sym (append-nil c.args.out.now)) refl)

pub returns-in_ok-place-in-Trailer-clause-ok : goal.returns-in_ok-place-in-Trailer-clause-ok
returns-in_ok-place-in-Trailer-clause-ok c =
    let b = get_or c.args.rest.now 0 0 in
    let t = trailed c.args.chunked c.in-Trailer.count c.in-Trailer.mark b in
    let ok = c.in_ok-place-in-Trailer.ensures.ok in
    let q = c.in_ok-place-in-Trailer.place in
    subst (λ (p : BodyState). TakesFront c.args.chunked p c.args.rest.now q 1 c.args.out.now c.take_trailer.new.out)
    (sym c.in-Trailer.is)
    (one_takes c.args.chunked (Trailer c.in-Trailer.count c.in-Trailer.mark) c.args.rest.now q t.out c.args.out.now
    c.take_trailer.new.out refl refl c.requires.some
    (ap (λ (p : BodyState). record { place = p; out = t.out }) (sym ok.0)) ok.1 ok.2)

pub returns-in_ok-push_framed-in-Feed-clause-ok : goal.returns-in_ok-push_framed-in-Feed-clause-ok
returns-in_ok-push_framed-in-Feed-clause-ok c =
    let b = get_or c.args.rest.now 0 0 in
    let fresh = c.new.ensures in
    let g = framed c.args.chunked crlf in
    subst (λ (p : BodyState). TakesFront c.args.chunked p c.args.rest.now (Line c.new.result) 1 c.args.out.now
    c.push_framed.new.out) (sym c.in-Feed.is)
    (one_takes c.args.chunked Feed c.args.rest.now (Line c.new.result) g c.args.out.now c.push_framed.new.out refl refl
    c.requires.some
    (lf_step c.args.chunked b c.if-rest-ne10.false ∙ ap (λ t. record { place = Line t; out = g }) (sym fresh))
    c.in_ok-push_framed-in-Feed.ensures.ok (ap (λ t. is_sound (Line t)) fresh ∙ holds_fresh))
