use Rattle.sq_message.proofs.SchemeLaws.{short_rest, long_rest}
use Rattle.sq_message.proofs.request_out.behind_scheme.Goals as goal

pub returns-in_default : goal.returns-in_default
returns-in_default c = short_rest c.args.target.now c.as_slice.result.now c.colon_place.result
    c.colon_place.ensures.value c.in_default.len_below c.as_slice.ensures

pub returns-in-len3-up : goal.returns-in-len3-up
returns-in-len3-up c = long_rest c.args.target.now c.colon_place.result c.colon_place.ensures.value
