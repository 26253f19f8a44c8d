-- Single words of answers.
use Rattle.std.proofs.Common.{◌≡◌, ℕ, ◌+◌, ◌^◌, ◌<◌, List, [], ◌∷◌, Bool, true, false, Some, None, Option, zero, suc, if◌then◌else◌, decimal, codes, bytes_eq, nat_eq, All, option_map, option_and_then, arith, refl, sym, ap, subst, ◌∙◌}
use Rattle.std.proofs.lemmas.Bool.Decides.{nat_tests}
use Rattle.std.proofs.lemmas.List.Elements.{All-head}
use Rattle.std.specs.Int.{IsInRange}
use Rattle.std.proofs.lemmas.Option.{same_Some, none-some}
use Rattle.sq_base.proofs.CommonLaws.{then_some, map_some}
use Rattle.sq_base.specs.Decimals.{number_of}
use Rattle.sq_base.specs.declared.helpers.Cause.{Cause}
use Rattle.sq_base.specs.declared.helpers.Cause.TheVariants as cause
use Rattle.sq_base.specs.declared.helpers.Word.{Word}
use Rattle.sq_base.specs.declared.helpers.Word.TheVariants as reply
use Rattle.sq_base.specs.NameTables.{beside}
use Rattle.sq_rules.specs.OutcomeText.{cause_word, action_word}
use Rattle.sq_journal.specs.EntryText.{result_word, channel_word}
use Rattle.sq_journal.specs.Names.{result_names, action_names, cause_names}
use Rattle.sq_journal.specs.ToldReading.{channel_of, pool_named, one_less}
use Rattle.sq_base.specs.Texts.{AreBytes}
use Rattle.sq_journal.specs.Values.{IsChannel}
use Rattle.sq_journal.proofs.FieldLaws.{◌⊗◌, Any, name_exact}
use Rattle.sq_journal.proofs.LineLaws.{IsPlain, plain_word}
use Rattle.sq_journal.proofs.WordLaws.{ExactWord, number_exact, decimal_plain, all_digits, word_is}

result_plain : (x : Word) → IsPlain (result_word x)
result_plain reply.Yes = plain_word (codes "ok") refl
result_plain reply.No = plain_word (codes "err") refl
result_plain reply.Broken = plain_word (codes "bh") refl

result_named : (x : Word) → beside result_names (result_word x) ≡ Some x
result_named reply.Yes = refl
result_named reply.No = refl
result_named reply.Broken = refl

-- the words of results
pub result_exact : ExactWord (beside result_names) result_word Any
result_exact = name_exact result_names result_word (refl ⊗ refl ⊗ refl ⊗ tt) result_named result_plain

action_plain : (x : Bool) → IsPlain (action_word x)
action_plain true = plain_word (codes "allowed") refl
action_plain false = plain_word (codes "denied") refl

action_again : (x : Bool) → beside action_names (action_word x) ≡ Some x
action_again true = refl
action_again false = refl

-- the words of what was decided
pub action_exact : ExactWord (beside action_names) action_word Any
action_exact = name_exact action_names action_word (refl ⊗ refl ⊗ tt) action_again action_plain

cause_plain : (x : Cause) → IsPlain (cause_word x)
cause_plain cause.Bh = plain_word (codes "Bh") refl
cause_plain cause.BadReply = plain_word (codes "BadReply") refl
cause_plain cause.Stray = plain_word (codes "Stray") refl
cause_plain cause.Died = plain_word (codes "Died") refl
cause_plain cause.NoHelper = plain_word (codes "NoHelper") refl
cause_plain cause.QueueFull = plain_word (codes "QueueFull") refl
cause_plain cause.KeyTooLong = plain_word (codes "KeyTooLong") refl

cause_again : (x : Cause) → beside cause_names (cause_word x) ≡ Some x
cause_again cause.Bh = refl
cause_again cause.BadReply = refl
cause_again cause.Stray = refl
cause_again cause.Died = refl
cause_again cause.NoHelper = refl
cause_again cause.QueueFull = refl
cause_again cause.KeyTooLong = refl

-- the words of causes
pub cause_exact : ExactWord (beside cause_names) cause_word Any
cause_exact = name_exact cause_names cause_word (refl ⊗ refl ⊗ refl ⊗ refl ⊗ refl ⊗ refl ⊗ refl ⊗ tt) cause_again
    cause_plain

no_dash : (w : List ℕ) → All (λ b. IsInRange 48 57 b) w → bytes_eq w (codes "-") ≡ false
no_dash [] h = refl
no_dash (b ∷ bs) h =
    let head : IsInRange 48 57 b = All-head (λ c. IsInRange 48 57 c) b bs h in
    let first : nat_eq b 45 ≡ false = grind (arith, nat_tests) in
    rw first refl

channel_again : (x : Option ℕ) → IsChannel x → channel_of (channel_word x) ≡ Some x
unfolding channel_of
channel_again None h = refl
channel_again (Some n) h = rw (
  no_dash (decimal n) (all_digits n (omega (arith, h))),
  (number_exact (2 ^ 32) (omega arith)).again n h,
) refl

channel_at : (w : List ℕ) (t : Bool) (x : Option ℕ) → bytes_eq w (codes "-") ≡ t → AreBytes w
    → (if t then Some None else option_map Some (number_of (2 ^ 32) w)) ≡ Some x
    → (w ≡ channel_word x) × IsChannel x
channel_at w true x is small e =
    subst (λ y. (w ≡ channel_word y) × IsChannel y) (same_Some None x e) (word_is w (codes "-") is, tt)
channel_at w false x is small e =
    let s = map_some Some (number_of (2 ^ 32) w) x e in
    let t = (number_exact (2 ^ 32) (omega arith)).takes w s.0 small s.1 in
    subst (λ y. (w ≡ channel_word y) × IsChannel y) (sym s.2) (t.0, t.1)

channel_takes : (w : List ℕ) (x : Option ℕ) → AreBytes w → channel_of w ≡ Some x → (w ≡ channel_word x) × IsChannel x
unfolding channel_of
channel_takes w x small e = channel_at w (bytes_eq w (codes "-")) x refl small e

channel_plain : (x : Option ℕ) → IsChannel x → IsPlain (channel_word x)
channel_plain None h = plain_word (codes "-") refl
channel_plain (Some n) h = decimal_plain n (omega (arith, h))

-- the words of channels
pub channel_exact : ExactWord channel_of channel_word IsChannel
channel_exact = record { again = channel_again; takes = channel_takes; plain = channel_plain }

less_of_more : (n : ℕ) → one_less (n + 1) ≡ Some n
less_of_more n = let e : n + 1 ≡ suc n = omega arith in rw e refl

pool_word_at : (w : List ℕ) (k n : ℕ) → w ≡ decimal k → k < 2 ^ 32 + 1 → one_less k ≡ Some n
    → (w ≡ decimal (n + 1)) × (n < 2 ^ 32)
pool_word_at w zero n is l e = absurd (none-some n e)
pool_word_at w (suc m) n is l e =
    let same : m ≡ n = same_Some m n e in
    let more : suc m ≡ n + 1 = omega (arith, same) in
    (is ∙ ap decimal more, omega (arith, same, l))

pool_word_again : (n : ℕ) → n < 2 ^ 32 → pool_named (decimal (n + 1)) ≡ Some n
unfolding pool_named
pool_word_again n h = ap (option_and_then one_less)
    ((number_exact (2 ^ 32 + 1) (omega arith)).again (n + 1) (omega (arith, h))) ∙ less_of_more n

pool_word_takes : (w : List ℕ) (n : ℕ) → AreBytes w → pool_named w ≡ Some n → (w ≡ decimal (n + 1)) × (n < 2 ^ 32)
unfolding pool_named
pool_word_takes w n small e =
    let s = then_some one_less (number_of (2 ^ 32 + 1) w) n e in
    let t = (number_exact (2 ^ 32 + 1) (omega arith)).takes w s.0 small s.1 in
    pool_word_at w s.0 n t.0 t.1 s.2

-- the words of pools
pub pool_exact : ExactWord pool_named (λ n. decimal (n + 1)) (λ n. n < 2 ^ 32)
pool_exact = record {
  again = pool_word_again;
  takes = pool_word_takes;
  plain = λ n h. decimal_plain (n + 1) (omega (arith, h));
}
