use Rattle.std.proofs.Common.{◌≡◌, ◌++◌, ◌∙◌, List, ℕ, OnOk, map, ap, subst}
use Rattle.std.specs.Borrow.{Bor}
use Rattle.std.specs.List.{filter, flat_map}
use Rattle.sq_base.specs.declared.requests.Field.{Field}
use Rattle.sq_message.proofs.MarkLaws.{sent_same}
use Rattle.sq_message.specs.FieldNames.{connection_options, is_one_of, is_sent}
use Rattle.sq_request.specs.Heads.{field_line}
use Rattle.sq_message.proofs.kept.put_kept_fields.Goals as goal

pub returns : goal.returns
returns g c =
    let test = g.T.NameTest.passes c.args.test.now in
    let way = c.args.way in
    let fields = c.args.fields.now in
    subst (λ (l : List Field). OnOk c.put_unlisted.result
    (c.put_unlisted.new.to ≡ c.args.to.now ++ flat_map field_line l))
    (ap (λ os. filter (is_sent test way (map (λ (o : Bor (List ℕ)). o.now) os)) fields) c.as_slice.ensures.value
    ∙ sent_same test way (map (λ (o : Bor (List ℕ)). o.now) c.in_ok-options.options.items) (connection_options fields)
    fields
    (λ name some. c.in_ok-options.ensures name some
    ∙ ap (λ os. is_one_of os name) c.in_ok-connection_options.ensures))
    c.put_unlisted.ensures
