use Rattle.std.proofs.Common.{◌≡◌, ◌∙◌, OnOk, subst}
use Rattle.sq_message.proofs.StatusLaws.{phrase_put, bare_put}
use Rattle.sq_message.proofs.own.put_status.Goals as goal

pub returns-in-Some : goal.returns-in-Some
returns-in-Some c =
    subst (λ t. OnOk c.append-in-Some.result (c.append-in-Some.new.self ≡ t))
    (phrase_put c.args.status c.args.to.now c.as_bytes.result.now c.append.new.self c.push.new.self
    c.as_bytes-in-Some.result.now c.in-Some.reason.now (c.as_bytes.ensures.value ∙ c.as_str.ensures)
    c.in_ok-append.ensures.ok c.in_ok-push.ensures.ok c.as_bytes-in-Some.ensures.value c.in-Some.ensures.value)
    c.append-in-Some.ensures.ok

pub returns-in-None : goal.returns-in-None
returns-in-None c =
    bare_put c.args.status c.args.to.now c.as_bytes.result.now c.append.new.self c.push.new.self
    (c.as_bytes.ensures.value ∙ c.as_str.ensures) c.in_ok-append.ensures.ok c.in_ok-push.ensures.ok
    c.in-None.ensures.value
