use Rattle.std.proofs.Common.{◌∙◌}
use Rattle.sq_commands.proofs.OptionLaws.{stated_on}
use Rattle.sq_commands.proofs.options.+options_from.Goals as goal

pub returns-in-Some : goal.returns-in-Some
returns-in-Some t c =
    c.options_from.ensures
    ∙ stated_on c.args.words.now c.word-item.result c.value-item.result c.args.options c.in-Some.options
    c.in-len2-up.len_at_least c.word-item.is c.value-item.is c.in-Some.ensures
