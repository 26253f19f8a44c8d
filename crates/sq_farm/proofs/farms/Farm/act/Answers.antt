use Rattle.std.proofs.Common.{◌≡◌, ap, sym, ◌∙◌, None}
use Rattle.sq_farm.specs.Acts.{told_start}
use Rattle.sq_machine.specs.Farms.{places, after_start, send_of, start_due}
use Rattle.sq_farm.proofs.PlaceLaws.{places_send, places_start}
use Rattle.sq_farm.proofs.DueLaws.{act_none, none_told, after_act_none, after_send_none}
use Rattle.sq_farm.proofs.farms.Farm.act.Goals as goal

pub returns-in-None-clause-act : goal.returns-in-None-clause-act
returns-in-None-clause-act c =
    let none : send_of c.args.self.now ≡ None = none_told _ (sym c.send.ensures.act ∙ c.in-None.is) in
    c.start.ensures.act ∙ ap (λ v. told_start (start_due v))
    (c.send.ensures.value ∙ after_send_none c.args.self.now none) ∙ sym (act_none c.args.self.now none)

pub returns-in-None-clause-value : goal.returns-in-None-clause-value
returns-in-None-clause-value c =
    let none : send_of c.args.self.now ≡ None = none_told _ (sym c.send.ensures.act ∙ c.in-None.is) in
    c.start.ensures.value ∙ ap after_start (c.send.ensures.value ∙ after_send_none c.args.self.now none)
    ∙ sym (after_act_none c.args.self.now none)

pub returns-in-Some-clause-stay : goal.returns-in-Some-clause-stay
returns-in-Some-clause-stay c = λ q. ap (places q) c.send.ensures.value ∙ places_send c.args.self.now q

pub returns-in-None-clause-stay : goal.returns-in-None-clause-stay
returns-in-None-clause-stay c = λ q. ap (places q) c.start.ensures.value ∙ places_start c.send.new.self q
    ∙ ap (places q) c.send.ensures.value ∙ places_send c.args.self.now q
