use Rattle.std.proofs.Common.{refl, ap, ◌∙◌}
use Rattle.sq_engine.proofs.FreshLaws.{first_epochs, fresh_engine, fresh_same}
use Rattle.sq_engine.proofs.PromiseLaws.{begun_promised}
use Rattle.sq_engine.proofs.engines.Engine.new.Goals as goal

pub invariant_of-result : goal.invariant_of-result
invariant_of-result c = fresh_engine _ c.args.setup c.args.offset c.args.now record {
  links_are = c.new-2.ensures.links;
  counts_are = c.new-2.ensures.counts;
  checks_are = c.new-3.ensures;
  asks_are = refl;
  puts_are = refl;
  epochs_are = c.in_ok-epochs.ensures ∙ ap first_epochs (c.in_ok-config.ensures ∙ c.config.ensures);
  setup_is = c.in_ok-setup.ensures;
  offset_is = refl;
  latest_is = refl;
}

pub returns-clause-same : goal.returns-clause-same
returns-clause-same c = fresh_same _ c.args.setup c.args.offset c.args.now record {
  links_are = c.new-2.ensures.links;
  counts_are = c.new-2.ensures.counts;
  checks_are = c.new-3.ensures;
  asks_are = refl;
  puts_are = refl;
  epochs_are = c.in_ok-epochs.ensures ∙ ap first_epochs (c.in_ok-config.ensures ∙ c.config.ensures);
  setup_is = c.in_ok-setup.ensures;
  offset_is = refl;
  latest_is = refl;
}

pub returns-clause-promised : goal.returns-clause-promised
returns-clause-promised c = begun_promised _ c.args.setup c.args.offset c.args.now (returns-clause-same c)
