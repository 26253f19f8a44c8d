use Rattle.std.proofs.Common.{◌≡◌, ◌∙◌, IfOk, rules, subst}
use Rattle.std.proofs.lemmas.Iterator.{YieldsList-from_map, YieldsList-from_slice, items_from_collect}
use Rattle.std.specs.Char.{to_ascii_lowercase}
use Rattle.std.specs.Str.{str_to_ascii_lowercase}
use Rattle.std.specs.Vec.{vec_items}
use Rattle.sq_urlmatch.proofs.names.lower.Goals as goal

pub returns : goal.returns
returns c =
    let name = c.args.name.now in
    c.from_vec.ensures
    ∙ subst (λ r. IfOk r (λ w. vec_items w ≡ str_to_ascii_lowercase name)) c.in_ok-bytes.was
    (items_from_collect c.collect.result c.collect.ensures.ran
    (YieldsList-from_map _ to_ascii_lowercase (YieldsList-from_slice name (search rules)) c.map.ensures.closure
    (λ x r q k. search rules)))
