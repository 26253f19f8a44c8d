use Rattle.std.proofs.Common.{◌≡◌, ℕ, ◌/◌, ◌%◌, List, ◌++◌, codes, decimal, sym}
use Rattle.sq_base.specs.Addresses.{v4_text}
use Rattle.sq_journal.proofs.PutSameLaws.{puts_as}
use Rattle.sq_journal.proofs.PutLaws.{puts_then, puts_stop, dotted}
use Rattle.sq_journal.proofs.addresses.put_v4.Goals as goal

part : ℕ → List ℕ
part n = decimal n ++ codes "."

text_is : (n : ℕ) → part (n / 16777216) ++ (part (n / 65536 % 256) ++ (part (n / 256 % 256) ++ decimal (n % 256)))
    ≡ v4_text n
unfolding v4_text part
text_is n = sym (dotted (decimal (n / 16777216)) (decimal (n / 65536 % 256)) (decimal (n / 256 % 256))
    (decimal (n % 256)) (codes "."))

pub returns-in-Err : goal.returns-in-Err
unfolding part
returns-in-Err g c =
    let n = c.args.number in
    puts_as _ _ _ _ _ _ _ (text_is n)
    (puts_stop _ _ _ _ _ _ (part (n / 16777216)) (part (n / 65536 % 256) ++ (part (n / 256 % 256) ++ decimal (n % 256)))
    c.in-Err.ensures)

pub returns-in-Err-put_dotted : goal.returns-in-Err-put_dotted
unfolding part
returns-in-Err-put_dotted g c =
    let n = c.args.number in
    puts_as _ _ _ _ _ _ _ (text_is n)
    (puts_then _ _ _ _ _ _ _ _ (part (n / 16777216))
    (part (n / 65536 % 256) ++ (part (n / 256 % 256) ++ decimal (n % 256))) c.in-Ok.ensures
    (puts_stop _ _ _ _ _ _ (part (n / 65536 % 256)) (part (n / 256 % 256) ++ decimal (n % 256))
    c.in-Err-put_dotted.ensures))

pub returns-in-Err-put_dotted-2 : goal.returns-in-Err-put_dotted-2
unfolding part
returns-in-Err-put_dotted-2 g c =
    let n = c.args.number in
    puts_as _ _ _ _ _ _ _ (text_is n)
    (puts_then _ _ _ _ _ _ _ _ (part (n / 16777216))
    (part (n / 65536 % 256) ++ (part (n / 256 % 256) ++ decimal (n % 256))) c.in-Ok.ensures
    (puts_then _ _ _ _ _ _ _ _ (part (n / 65536 % 256)) (part (n / 256 % 256) ++ decimal (n % 256))
    c.in-Ok-put_dotted.ensures
    (puts_stop _ _ _ _ _ _ (part (n / 256 % 256)) (decimal (n % 256)) c.in-Err-put_dotted-2.ensures)))

pub returns : goal.returns
unfolding part
returns g c =
    let n = c.args.number in
    puts_as _ _ _ _ _ _ _ (text_is n)
    (puts_then _ _ _ _ _ _ _ _ (part (n / 16777216))
    (part (n / 65536 % 256) ++ (part (n / 256 % 256) ++ decimal (n % 256))) c.in-Ok.ensures
    (puts_then _ _ _ _ _ _ _ _ (part (n / 65536 % 256)) (part (n / 256 % 256) ++ decimal (n % 256))
    c.in-Ok-put_dotted.ensures
    (puts_then _ _ _ _ _ _ _ _ (part (n / 256 % 256)) (decimal (n % 256)) c.in-Ok-put_dotted-2.ensures
    c.put_decimal.ensures)))
