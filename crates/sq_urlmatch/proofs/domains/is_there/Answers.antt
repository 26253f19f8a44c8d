use Rattle.std.proofs.Common.{ap, ◌∙◌}
use Rattle.sq_urlmatch.proofs.TableLaws.{place_decides}
use Rattle.sq_urlmatch.specs.Names.{place_of}
use Rattle.sq_urlmatch.proofs.domains.is_there.Goals as goal

pub returns-then-past-names : goal.returns-then-past-names
returns-then-past-names c =
    c.is_among.ensures
    ∙ place_decides c.args.names.now c.args.shift c.args.starts.now c.args.bytes.now c.args.whole
    c.place_of-place.result c.requires.table
    (c.place_of-place.ensures ∙ ap (λ h. place_of h c.args.shift) c.requires.asked)
    c.if-place-starts-2.true c.if-first-past.true
