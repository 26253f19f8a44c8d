use Rattle.std.proofs.Common.{◌++◌, codes, ap}
use Rattle.sq_base.specs.Escapes.{escaped}
use Rattle.sq_journal.proofs.FieldTextLaws.{field_text}
use Rattle.sq_journal.proofs.PutLaws.{puts_then, puts_stop}
use Rattle.sq_journal.proofs.PutSameLaws.{puts_as}
use Rattle.sq_journal.proofs.printing.put_field.Goals as goal

pub returns-in-Err : goal.returns-in-Err
returns-in-Err g c =
    let f = c.args.field.now in
    puts_as _ _ _ _ _ _ _ (field_text f)
    (puts_stop _ _ _ _ _ _ (codes " ") (escaped f.name ++ (codes ":" ++ escaped f.value)) c.in-Err.ensures)

pub returns-in-Err-put_escaped : goal.returns-in-Err-put_escaped
returns-in-Err-put_escaped g c =
    let f = c.args.field.now in
    let name = escaped f.name in
    let value = escaped f.value in
    puts_as _ _ _ _ _ _ _ (field_text f)
    (puts_then _ _ _ _ _ _ _ _ (codes " ") (name ++ (codes ":" ++ value)) c.in-Ok.ensures
    (puts_stop _ _ _ _ _ _ name (codes ":" ++ value)
    (puts_as _ _ _ _ _ _ _ (ap escaped c.as_bytes.ensures.value) c.in-Err-put_escaped.ensures)))

pub returns-in-Err-put : goal.returns-in-Err-put
returns-in-Err-put g c =
    let f = c.args.field.now in
    let name = escaped f.name in
    let value = escaped f.value in
    puts_as _ _ _ _ _ _ _ (field_text f)
    (puts_then _ _ _ _ _ _ _ _ (codes " ") (name ++ (codes ":" ++ value)) c.in-Ok.ensures
    (puts_then _ _ _ _ _ _ _ _ name (codes ":" ++ value)
    (puts_as _ _ _ _ _ _ _ (ap escaped c.as_bytes.ensures.value) c.in-Ok-put_escaped.ensures)
    (puts_stop _ _ _ _ _ _ (codes ":") value c.in-Err-put.ensures)))

pub returns : goal.returns
returns g c =
    let f = c.args.field.now in
    let name = escaped f.name in
    let value = escaped f.value in
    puts_as _ _ _ _ _ _ _ (field_text f)
    (puts_then _ _ _ _ _ _ _ _ (codes " ") (name ++ (codes ":" ++ value)) c.in-Ok.ensures
    (puts_then _ _ _ _ _ _ _ _ name (codes ":" ++ value)
    (puts_as _ _ _ _ _ _ _ (ap escaped c.as_bytes.ensures.value) c.in-Ok-put_escaped.ensures)
    (puts_then _ _ _ _ _ _ _ _ (codes ":") value c.in-Ok-put.ensures
    (puts_as _ _ _ _ _ _ _ (ap escaped c.as_bytes-2.ensures.value) c.put_escaped-2.ensures))))
