-- Each configuration that a script names is one.
use Rattle.std.proofs.Common.{◌≡◌, ℕ, suc, List, [], ◌∷◌, Some, None, Ok, Err, Result, refl}
use Rattle.std.specs.declared.option.Option.{Option}
use Rattle.sq_outside.specs.SourceLines.{SourceLine}
use Rattle.sq_machine.specs.declared.entries.Event.{Event}
use Rattle.sq_machine.specs.declared.entries.Event.TheVariants.{Reconfigure}
use Rattle.sq_rules.specs.declared.kinds.ConfError.{ConfError}
use Rattle.sq_rules.specs.Configurations.{Configuration, IsConfiguration}
use Rattle.sq_rules.specs.ConfText.{conf_result}
use Rattle.sq_conf.proofs.TextLaws.{gives_configuration}
use Rattle.sq_model.specs.Given.{EachOf}
use Rattle.sq_replay.specs.RunText.{Shelf, configs_of, named_by, named_from, named_in, stated, with_config, with_text}

config_good : (text : List ℕ) (r : Result Configuration ConfError) (more : List Configuration) → conf_result text ≡ r
    → EachOf IsConfiguration more → EachOf IsConfiguration (with_config r more)
config_good text (Ok config) more is good = (gives_configuration text config is, good)
config_good text (Err e) more is good = tt

text_good : (o : Option (List ℕ)) (more : List Configuration) → EachOf IsConfiguration more
    → EachOf IsConfiguration (with_text o more)
text_good None more good = tt
text_good (Some text) more good = config_good text (conf_result text) more refl good

by_good : (files : Shelf) (event : Event) (more : ℕ → List Configuration) (e : ℕ)
    → ((k : ℕ) → EachOf IsConfiguration (more k)) → EachOf IsConfiguration (named_by files event more e)
by_good files (Reconfigure name) more e good = text_good (files e name) (more (suc e)) (good (suc e))
by_good files event more e good = good e

in_good : (files : Shelf) (o : Option (ℕ × Event)) (more : ℕ → List Configuration) (e : ℕ)
    → ((k : ℕ) → EachOf IsConfiguration (more k)) → EachOf IsConfiguration (named_in files o more e)
in_good files None more e good = good e
in_good files (Some (now, event)) more e good = by_good files event more e good

pub named_good : (files : Shelf) (ls : List SourceLine) (e : ℕ) → EachOf IsConfiguration (named_from files ls e)
named_good files [] e = tt
named_good files (l ∷ ls) e = in_good files (stated l.bytes) (named_from files ls) e (λ k. named_good files ls k)

-- and so are those of all epochs of a run that begins with one
pub configs_good : (files : Shelf) (config : Configuration) (ls : List SourceLine) → IsConfiguration config
    → EachOf IsConfiguration (configs_of files config ls)
configs_good files config ls good = (good, named_good files ls 1)
