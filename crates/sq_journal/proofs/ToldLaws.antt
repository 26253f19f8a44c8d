-- Answers: what is written of one is read, and nothing else is.
use Rattle.std.proofs.Common.{◌≡◌, ℕ, ◌+◌, ◌^◌, ◌<◌, [], ◌∷◌, ◌++◌, Some, codes, decimal, arith, refl, sym, ap, ◌∙◌, append-nil, option_map}
use Rattle.sq_base.specs.NameTables.{beside}
use Rattle.sq_machine.specs.declared.entries.Told.{Told}
use Rattle.sq_machine.specs.declared.entries.Told.TheVariants as told
use Rattle.sq_rules.specs.declared.outcomes.Outcome.{Outcome}
use Rattle.sq_rules.specs.declared.outcomes.Why.{Why}
use Rattle.sq_rules.specs.declared.outcomes.Why.TheVariants as why
use Rattle.sq_rules.specs.OutcomeText.{cause_word, action_word, why_words, outcome_words}
use Rattle.sq_journal.specs.declared.names.AnswerName.TheVariants as name
use Rattle.sq_journal.specs.EntryText.{result_word, channel_word, told_words}
use Rattle.sq_rules.specs.Steps.{WordList}
use Rattle.sq_journal.specs.Names.{told_names, why_names, action_names, cause_names, result_names}
use Rattle.sq_journal.specs.Reading.{word_in, below_in, number_in}
use Rattle.sq_journal.specs.ToldReading.{channel_of, pool_named, why_after, why_in, outcome_from, outcome_in, epoch_told, told_after, told_in}
use Rattle.sq_journal.specs.Values.{IsNumber, IsWhy, IsChannel, IsTold}
use Rattle.sq_journal.proofs.EventLaws.{below_word, number, text, number_plain}
use Rattle.sq_journal.proofs.FieldLaws.{◌⊗◌, Any, TakesAfter, TakesOnly, Exact, EachRow, one_word, by_name, bind_is, fields0_takes, fields1_takes, fields2_takes, fields3_takes, fields4_takes, then_takes, fields1_again, fields2_again, fields3_again, fields4_again}
use Rattle.sq_journal.proofs.LineLaws.{ArePlain, plain_word}
use Rattle.sq_journal.proofs.ToldWordLaws.{result_exact, channel_exact, pool_exact, action_exact, cause_exact}
use Rattle.sq_journal.proofs.WordLaws.{decimal_plain, text_exact}

rule_number : Exact (below_in (2 ^ 32)) (λ n. decimal n ∷ []) (λ n. n < 2 ^ 32)
rule_number = below_word (2 ^ 32) (omega arith)

result : Exact (word_in (beside result_names)) (λ w. result_word w ∷ []) Any
result = one_word (beside result_names) result_word Any result_exact

channel : Exact (word_in channel_of) (λ c. channel_word c ∷ []) IsChannel
channel = one_word channel_of channel_word IsChannel channel_exact

pool : Exact (word_in pool_named) (λ n. decimal (n + 1) ∷ []) (λ n. n < 2 ^ 32)
pool = one_word pool_named (λ n. decimal (n + 1)) (λ n. n < 2 ^ 32) pool_exact

action : Exact (word_in (beside action_names)) (λ b. action_word b ∷ []) Any
action = one_word (beside action_names) action_word Any action_exact

cause : Exact (word_in (beside cause_names)) (λ c. cause_word c ∷ []) Any
cause = one_word (beside cause_names) cause_word Any cause_exact

why_takes : TakesOnly why_in why_words IsWhy
unfolding why_in why_after
why_takes =
    by_name why_names why_after why_words IsWhy
    (fields1_takes why.Rule _ _ _ rule_number.takes (codes "rule" ∷ []) why_words IsWhy (λ a. refl) (λ a p. p)
    ⊗ fields0_takes why.Default (codes "default" ∷ []) why_words IsWhy refl tt
    ⊗ fields0_takes why.Empty (codes "empty" ∷ []) why_words IsWhy refl tt
    ⊗ fields3_takes why.Fault _ _ _ rule_number.takes _ _ _ text.takes _ _ _ cause.takes (codes "fault" ∷ []) why_words
    IsWhy (λ a b c. refl) (λ a b c p q r. (p, q))
    ⊗ tt)

why_again : (w : Why) (rest : WordList) → IsWhy w → why_in (why_words w ++ rest) ≡ Some (w, rest)
unfolding why_in word_in why_after
why_again (why.Rule n) rest h = fields1_again why.Rule _ _ _ rule_number n rest h
why_again why.Default rest h = refl
why_again why.Empty rest h = refl
why_again (why.Fault n acl c) rest h = fields3_again why.Fault _ _ _ rule_number _ _ _ text _ _ _ cause n acl c rest h.0
    h.1 tt

reasons : Exact why_in why_words IsWhy
reasons = record { again = why_again; takes = why_takes }

abbrev FitsOutcome : Outcome → Type 0
FitsOutcome o = IsWhy o.why

outcome_takes : TakesOnly outcome_in outcome_words FitsOutcome
unfolding outcome_in
outcome_takes = record {
  of =
      fields2_takes outcome_from _ _ _ action.takes _ _ _ reasons.takes [] outcome_words FitsOutcome (λ a b. refl)
      (λ a b p q. q);
}

outcome_again : (o : Outcome) → FitsOutcome o → outcome_in (outcome_words o) ≡ Some (o, [])
unfolding outcome_in
outcome_again o h =
    ap outcome_in (sym (append-nil (outcome_words o)))
    ∙ fields2_again outcome_from _ _ _ action _ _ _ reasons o.allow o.why [] tt h

-- an epoch alone, or with an outcome
epoch_takes : (epoch : ℕ) → IsNumber epoch
    → TakesAfter (codes "epoch" ∷ decimal epoch ∷ []) (epoch_told epoch) told_words IsTold
epoch_takes epoch h [] y small e = fields0_takes (told.Epoch epoch) (codes "epoch" ∷ decimal epoch ∷ []) told_words
    IsTold refl h [] y small e
epoch_takes epoch h (w ∷ ws) y small e =
    fields1_takes (told.Judged epoch) _ _ _ outcome_takes (codes "epoch" ∷ decimal epoch ∷ []) told_words IsTold
    (λ o. refl) (λ o p. (h, p)) (w ∷ ws) y small e

-- what stands behind each answer's name
told_rows : EachRow (λ w k. TakesAfter (w ∷ []) (told_after k) told_words IsTold) told_names
unfolding told_after
told_rows =
    then_takes number_in (λ n. decimal n ∷ []) IsNumber number.takes epoch_told (codes "epoch" ∷ []) told_words IsTold
    epoch_takes
    ⊗ fields0_takes told.Fine (codes "ok" ∷ []) told_words IsTold refl tt
    ⊗ fields1_takes told.Check _ _ _ number.takes (codes "check" ∷ []) told_words IsTold (λ a. refl) (λ a p. p)
    ⊗ fields1_takes told.Took _ _ _ text.takes (codes "took" ∷ []) told_words IsTold (λ a. refl) (λ a p. p)
    ⊗ fields1_takes told.Waits _ _ _ number.takes (codes "waits" ∷ []) told_words IsTold (λ a. refl) (λ a p. p)
    ⊗ fields0_takes told.Done (codes "done" ∷ []) told_words IsTold refl tt
    ⊗ fields1_takes told.Proc _ _ _ number.takes (codes "proc" ∷ []) told_words IsTold (λ a. refl) (λ a p. p)
    ⊗ fields2_takes told.Reply _ _ _ number.takes _ _ _ result.takes (codes "reply" ∷ []) told_words IsTold
    (λ a b. refl) (λ a b p q. p)
    ⊗ fields0_takes told.Bad (codes "bad" ∷ []) told_words IsTold refl tt
    ⊗ fields0_takes told.Stray (codes "stray" ∷ []) told_words IsTold refl tt
    ⊗ fields2_takes told.Start _ _ _ number.takes _ _ _ text.takes (codes "start" ∷ []) told_words IsTold (λ a b. refl)
    (λ a b p q. (p, q))
    ⊗ fields4_takes told.Send _ _ _ number.takes _ _ _ number.takes _ _ _ channel.takes _ _ _ text.takes
    (codes "send" ∷ []) told_words IsTold (λ a b c d. refl) (λ a b c d p q r s. (p, q, r, s))
    ⊗ fields1_takes told.Stop _ _ _ number.takes (codes "stop" ∷ []) told_words IsTold (λ a. refl) (λ a p. p)
    ⊗ fields2_takes told.Seat _ _ _ number.takes _ _ _ pool.takes (codes "seat" ∷ []) told_words IsTold (λ a b. refl)
    (λ a b p q. (p, q))
    ⊗ fields0_takes told.NoSeat (codes "none" ∷ []) told_words IsTold refl tt
    ⊗ fields1_takes told.Granted _ _ _ number.takes (codes "granted" ∷ []) told_words IsTold (λ a. refl) (λ a p. p)
    ⊗ tt

-- no answer is read but one that was written
pub told_takes : TakesOnly told_in told_words IsTold
unfolding told_in
told_takes = by_name told_names told_after told_words IsTold told_rows

judged_again : (epoch : ℕ) (o : Outcome) → IsNumber epoch → FitsOutcome o
    → told_after name.Epoch (decimal epoch ∷ outcome_words o) ≡ Some (told.Judged epoch o, [])
unfolding told_after
judged_again epoch o h k =
    bind_is (number_in (decimal epoch ∷ outcome_words o)) _ (epoch, outcome_words o) _
    (number.again epoch (outcome_words o) h)
    (ap (option_map (λ r. (told.Judged epoch r.0, r.1))) (outcome_again o k))

bare_epoch_again : (epoch : ℕ) → IsNumber epoch
    → told_after name.Epoch (decimal epoch ∷ []) ≡ Some (told.Epoch epoch, [])
unfolding told_after
bare_epoch_again epoch h = bind_is (number_in (decimal epoch ∷ [])) _ (epoch, []) _ (number.again epoch [] h) refl

-- an answer that was written is read
pub told_again : (t : Told) → IsTold t → told_in (told_words t) ≡ Some (t, [])
unfolding told_in word_in told_after
told_again (told.Epoch e) h = bare_epoch_again e h
told_again told.Fine h = refl
told_again (told.Check n) h = fields1_again told.Check _ _ _ number n [] h
told_again (told.Took c) h = fields1_again told.Took _ _ _ text c [] h
told_again (told.Waits q) h = fields1_again told.Waits _ _ _ number q [] h
told_again told.Done h = refl
told_again (told.Judged e o) h = judged_again e o h.0 h.1
told_again (told.Proc p) h = fields1_again told.Proc _ _ _ number p [] h
told_again (told.Reply q w) h = fields2_again told.Reply _ _ _ number _ _ _ result q w [] h tt
told_again told.Bad h = refl
told_again told.Stray h = refl
told_again (told.Start e c) h = fields2_again told.Start _ _ _ number _ _ _ text e c [] h.0 h.1
told_again (told.Send p q c k) h = fields4_again told.Send _ _ _ number _ _ _ number _ _ _ channel _ _ _ text p q c k []
    h.0 h.1 h.2 h.3
told_again (told.Stop p) h = fields1_again told.Stop _ _ _ number p [] h
told_again (told.Seat s n) h = fields2_again told.Seat _ _ _ number _ _ _ pool s n [] h.0 h.1
told_again told.NoSeat h = refl
told_again (told.Granted n) h = fields1_again told.Granted _ _ _ number n [] h

why_plain : (w : Why) → IsWhy w → ArePlain (why_words w)
why_plain (why.Rule n) h = (plain_word (codes "rule") refl, (decimal_plain n (omega (arith, h)), tt))
why_plain why.Default h = (plain_word (codes "default") refl, tt)
why_plain why.Empty h = (plain_word (codes "empty") refl, tt)
why_plain (why.Fault n acl c) h = (
  plain_word (codes "fault") refl,
  (decimal_plain n (omega (arith, h.0)), (text_exact.plain acl h.1, (cause_exact.plain c tt, tt))),
)

-- no word of an answer has a space
pub told_plain : (t : Told) → IsTold t → ArePlain (told_words t)
told_plain (told.Epoch e) h = (plain_word (codes "epoch") refl, number_plain e h)
told_plain told.Fine h = (plain_word (codes "ok") refl, tt)
told_plain (told.Check n) h = (plain_word (codes "check") refl, number_plain n h)
told_plain (told.Took c) h = (plain_word (codes "took") refl, (text_exact.plain c h, tt))
told_plain (told.Waits q) h = (plain_word (codes "waits") refl, number_plain q h)
told_plain told.Done h = (plain_word (codes "done") refl, tt)
told_plain (told.Judged e o) h = (
  plain_word (codes "epoch") refl,
  ((number_plain e h.0).0, (action_exact.plain o.allow tt, why_plain o.why h.1)),
)
told_plain (told.Proc p) h = (plain_word (codes "proc") refl, number_plain p h)
told_plain (told.Reply q w) h = (plain_word (codes "reply") refl, ((number_plain q h).0, (result_exact.plain w tt, tt)))
told_plain told.Bad h = (plain_word (codes "bad") refl, tt)
told_plain told.Stray h = (plain_word (codes "stray") refl, tt)
told_plain (told.Start e c) h = (
  plain_word (codes "start") refl,
  ((number_plain e h.0).0, (text_exact.plain c h.1, tt)),
)
told_plain (told.Send p q c k) h = (
  plain_word (codes "send") refl,
  ((number_plain p h.0).0, ((number_plain q h.1).0, (channel_exact.plain c h.2, (text_exact.plain k h.3, tt)))),
)
told_plain (told.Stop p) h = (plain_word (codes "stop") refl, number_plain p h)
told_plain (told.Seat s n) h = (plain_word (codes "seat") refl, ((number_plain s h.0).0, (pool_exact.plain n h.1, tt)))
told_plain told.NoSeat h = (plain_word (codes "none") refl, tt)
told_plain (told.Granted n) h = (plain_word (codes "granted") refl, number_plain n h)
