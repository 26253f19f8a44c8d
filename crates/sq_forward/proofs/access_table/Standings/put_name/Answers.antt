use Rattle.std.proofs.Common.{◌≡◌, refl}
use Rattle.std.specs.Prelude.{bytes_eq}
use Rattle.sq_forward.proofs.TableLaws.{put_all}
use Rattle.sq_forward.specs.Standings.{standing_at}
use Rattle.sq_forward.specs.declared.standing.Standing.{Standing}
use Rattle.sq_forward.specs.declared.standing.Standing.TheVariants.{Unnamed}
use Rattle.sq_forward.proofs.access_table.Standings.put_name.Goals as goal

pub returns : goal.returns
returns c = λ key.
    put_all (λ (s : Standing). s ≡ Unnamed) (bytes_eq c.in_ok-key.key key) Unnamed (standing_at c.args.self.now key)
    (standing_at c.put.new.self key) (c.in_ok-put.ensures key) refl (c.requires key)
