-- The files of a command, read and judged.
use Rattle.std.proofs.Common.{ℕ, List, Err, Some, None, IfSome, inl, ap, ◌∙◌}
use Rattle.sq_outside.specs.Input.{ReadsFile}
use Rattle.sq_outside.specs.Told.{Texts}
use Rattle.sq_rules.specs.Configurations.{Configuration}
use Rattle.sq_rules.specs.Limits.{text_limit}
use Rattle.sq_rules.specs.declared.kinds.Kind.TheVariants as kind
use Rattle.sq_conf.proofs.TextLaws.{too_long}
use Rattle.sq_commands.specs.declared.ends.Status.TheVariants as ends
use Rattle.sq_commands.specs.Commands.{conf_read, conf_stage}
use Rattle.sq_commands.specs.Ends.{Comes}

-- a text past its limit
pub long_conf : (texts : Texts) (name : List ℕ) → ReadsFile text_limit texts name None
    → IfSome texts (λ disk. Comes {A = Configuration} (Err (ends.Config 0 kind.TooMany)) (conf_stage name (disk name)))
long_conf None name r = tt
long_conf (Some disk) name (bytes, there, long) =
    inl (ap (conf_stage name) there ∙ ap conf_read (too_long bytes long))
