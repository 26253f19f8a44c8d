use Rattle.std.proofs.Common.{subst, ◌∙◌, ◌++◌, [], ◌∷◌, ℕ, List, Option, IsErrOf}
use Rattle.sq_replay.specs.declared.page.Unwritten.TheVariants as untold
use Rattle.sq_replay.specs.Runs.{Wrote, WrotePart}
use Rattle.sq_replay.proofs.entering.page_entry.Goals as goal

pub returns-in-Ok-clause-failed : goal.returns-in-Ok-clause-failed
returns-in-Ok-clause-failed g c =
    subst (λ l. IsErrOf c.put_line.result untold.Failed → (base : Option (List ℕ)) (text : List ℕ)
    → Wrote base (g.O.Sink.contents c.args.out.now) c.args.page.now.items text
    → WrotePart base (g.O.Sink.contents c.put_line.new.out) (text ++ (l ++ 10 ∷ [])))
    (c.as_bytes.ensures.value ∙ c.in-Ok.ensures) c.put_line.ensures.failed
