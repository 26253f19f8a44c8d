use Rattle.std.proofs.Common.{◌||◌, ◌∷◌, true, refl, ap, ◌∙◌, nat_eq}
use Rattle.std.specs.List.{ends_with}
use Rattle.std.specs.Str.{bytes_eq}
use Rattle.sq_base.specs.Bytes.{dot}
use Rattle.sq_urlmatch.proofs.NameLaws.{wide_at}
use Rattle.sq_urlmatch.proofs.names.wide_name.Goals as goal

pub returns-clause-stands : goal.returns-clause-stands
returns-clause-stands c = λ host.
    wide_at (record { name = c.in_ok-name.name; wide = true; hash = c.hash_of-hash.result }) host refl
    ∙ ap (λ t. bytes_eq t host || ends_with nat_eq host (dot ∷ t)) c.in_ok-name.ensures
