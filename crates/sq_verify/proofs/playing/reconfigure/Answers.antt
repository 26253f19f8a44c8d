use Rattle.std.proofs.Common.{◌≡◌, ℕ, List, Ok, subst}
use Rattle.sq_rules.specs.ConfText.{conf_result}
use Rattle.sq_verify.proofs.PlayLaws.{reconfigure_plays}
use Rattle.sq_verify.proofs.playing.reconfigure.Goals as goal

pub returns-clause-plays : goal.returns-clause-plays
returns-clause-plays g c =
    let machine = g.M.Player.machine in
    reconfigure_plays (machine c.args.machine.now) (machine c.reconfigure.new.self) c.args.now c.args.text.now
    c.in-Ok.setup c.reconfigure.result
    (subst (λ (t : List ℕ). conf_result t ≡ Ok c.in-Ok.setup) c.as_bytes.ensures.value c.in-Ok.ensures)
    c.reconfigure.ensures.making
