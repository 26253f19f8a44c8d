use Rattle.std.proofs.Common.{sym, ap, ◌∙◌}
use Rattle.sq_forward.specs.Tunnels.{dry_after_way}
use Rattle.sq_forward.proofs.WayLaws.{way_goes, way_whole, way_paid, way_dry}
use Rattle.sq_forward.proofs.ways.copy_way.Goals as goal

pub returns-clause-goes : goal.returns-clause-goes
returns-clause-goes g c = way_goes _ _ c.way_of.result c.close.ensures.contents c.way_of.ensures
    c.copy_body-copied.ensures.copies

pub returns-clause-whole : goal.returns-clause-whole
returns-clause-whole g c = λ ended. way_whole _ _ c.way_of.result c.close.ensures.contents c.way_of.ensures
    c.copy_body-copied.ensures.copies ended

pub returns-clause-paid : goal.returns-clause-paid
returns-clause-paid g c = record {
  paid =
      λ ended. way_paid _ _ c.way_of.result c.close.ensures.contents c.way_of.ensures c.copy_body-copied.ensures.copies
      ended;
}

pub returns-clause-dry : goal.returns-clause-dry
returns-clause-dry g c = c.copy_body-copied.ensures.dry ∙ way_dry c.copy_body-copied.result
    ∙ ap dry_after_way (sym c.way_of.ensures)
