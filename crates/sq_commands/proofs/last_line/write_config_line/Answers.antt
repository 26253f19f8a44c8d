use Rattle.std.proofs.Common.{[], ◌∷◌, ◌++◌, OnOk, codes, decimal, subst, ◌∙◌}
use Rattle.std.specs.Io.KnownBytes.{Appends}
use Rattle.sq_commands.proofs.last_line.write_config_line.Goals as goal

pub returns-clause-ok : goal.returns-clause-ok
returns-clause-ok g c =
    let a = g.O.Sink.contents c.args.out.now in
    let b = g.O.Sink.contents c.write_pair_line.new.out in
    let r = c.write_pair_line.result in
    subst (λ y. OnOk r (Appends a b (codes "error config " ++ decimal c.args.line ++ (32 ∷ (y ++ 10 ∷ [])))))
    (c.as_bytes-kind.ensures.value ∙ c.format-2.ensures.text)
    (subst (λ x. OnOk r (Appends a b (codes "error config " ++ x ++ (32 ∷ (c.as_bytes-kind.result.now ++ 10 ∷ [])))))
    (c.as_bytes-line.ensures.value ∙ c.format.ensures.text) c.write_pair_line.ensures.ok)
