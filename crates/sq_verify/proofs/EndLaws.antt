-- No line of an entry holds LF.
use Rattle.std.proofs.Common.{◌≡◌, ℕ, ◌+◌, ◌^◌, ◌<◌, ℤ, pos, negsuc, suc, List, [], ◌∷◌, ◌++◌, Bool, true, false, not, if◌then◌else◌, decimal, codes, bytes_eq, map, All, Option, Some, None, arith, refl, subst, sym, ◌∙◌, inl, inr, ltb-true}
use Rattle.std.proofs.Math.Dec.{leb→le}
use Rattle.std.proofs.lemmas.Bool.{and_parts}
use Rattle.std.proofs.lemmas.Bool.Decides.{nat_tests}
use Rattle.std.proofs.lemmas.Fmt.{decimal_is_IsNumeral}
use Rattle.std.proofs.lemmas.List.Elements.{All-from_get_or, All-head, All-tail, All-weaker}
use Rattle.std.proofs.lemmas.Str.Parse.{digit_at}
use Rattle.std.proofs.NetLemmas.Alphabet.{All-ipv4_text, All-hex_groups_text, IsDigitOrDot, IsHexOrColon}
use Rattle.std.specs.Fmt.{signed_decimal}
use Rattle.std.specs.Int.{IsInRange}
use Rattle.std.specs.List.{list_all}
use Rattle.percent_encoding.specs.AsciiSet.{should_percent_encode}
use Rattle.percent_encoding.proofs.PercentLemmas.{All-percent_encode, IsEscapeByte}
use Rattle.sq_base.specs.Addresses.{IsAddress, address_text, eight_groups, four_octets, v4_text, v6_text}
use Rattle.sq_base.specs.Escapes.{escaped, is_escaped, text_word}
use Rattle.sq_base.specs.Lines.{is_lf}
use Rattle.sq_base.specs.declared.helpers.Cause.{Cause}
use Rattle.sq_base.specs.declared.helpers.Cause.TheVariants as cause
use Rattle.sq_base.specs.declared.helpers.Word.{Word}
use Rattle.sq_base.specs.declared.helpers.Word.TheVariants as reply
use Rattle.sq_base.specs.declared.requests.Field.{Field}
use Rattle.sq_base.proofs.AddressLaws.{groups_fit, octets_fit}
use Rattle.sq_outside.specs.Holding.{NoEnd}
use Rattle.sq_machine.specs.declared.entries.Event.{Event}
use Rattle.sq_machine.specs.declared.entries.Event.TheVariants.{Begin, Open, Close, Ask, Step, Take, Started, StartFail, Line, Died, Act, Reconfigure, Seat, Grant, Leave}
use Rattle.sq_machine.specs.declared.entries.Told.{Told}
use Rattle.sq_machine.specs.declared.entries.Told.TheVariants as told
use Rattle.sq_rules.specs.declared.outcomes.Why.{Why}
use Rattle.sq_rules.specs.declared.outcomes.Why.TheVariants as why
use Rattle.sq_machine.specs.Entries.{Noted}
use Rattle.sq_rules.specs.OutcomeText.{action_word, cause_word, why_words}
use Rattle.sq_rules.specs.Steps.{WordList}
use Rattle.sq_journal.specs.declared.escapes.TheConstants.{ESCAPES}
use Rattle.sq_journal.specs.EntryText.{channel_word, entry_text, event_words, field_word, result_word, told_words}
use Rattle.sq_journal.specs.Journals.{numbered_text}
use Rattle.sq_journal.specs.Lines.{line_of}
use Rattle.sq_journal.specs.Values.{HoldsValues, IsChannel, IsNoted, IsNumber, IsOffset, IsTold, IsWhy}
use Rattle.sq_journal.proofs.EscapeLaws.{encodes, same_test}

-- lines of words

-- no word holds LF
abbrev AreOpen : WordList → Type 0
AreOpen [] = Unit {0}
AreOpen (w ∷ ws) = NoEnd w × AreOpen ws

both_open : (xs ys : WordList) → AreOpen xs → AreOpen ys → AreOpen (xs ++ ys)
both_open [] ys p q = q
both_open (x ∷ xs) ys p q = (p.0, both_open xs ys p.1 q)

no_end_both : (a b : List ℕ) → NoEnd a → NoEnd b → NoEnd (a ++ b)
no_end_both [] b p q = q
no_end_both (x ∷ a) b p q = (p.0, no_end_both a b p.1 q)

-- words without LF, with one space between them
line_open : (w : List ℕ) (ws : WordList) → NoEnd w → AreOpen ws → NoEnd (line_of (w ∷ ws))
line_open w [] p q = p
line_open w (v ∷ ws) p q = no_end_both w (32 ∷ line_of (v ∷ ws)) p (refl, line_open v ws q.0 q.1)

-- words

all_open : (w : List ℕ) → All (λ b. is_lf b ≡ false) w → NoEnd w
all_open [] h = tt
all_open (b ∷ bs) h = (All-head (λ c. is_lf c ≡ false) b bs h, all_open bs (All-tail (λ c. is_lf c ≡ false) b bs h))

not_lf : (b : Bool) → not b ≡ true → b ≡ false
not_lf true h = absurd (cc)
not_lf false h = refl

-- a word that is tested whole
word_open : (w : List ℕ) → list_all (λ b. not (is_lf b)) w ≡ true → NoEnd w
word_open [] h = tt
word_open (b ∷ bs) h =
    let both = and_parts (not (is_lf b)) (list_all (λ c. not (is_lf c)) bs) h in
    (not_lf (is_lf b) both.0, word_open bs both.1)

digit_open : (c : ℕ) → IsInRange 48 57 c → is_lf c ≡ false
digit_open c h = grind (arith, nat_tests)

decimal_open : (n : ℕ) → n < 2 ^ 64 → NoEnd (decimal n)
decimal_open n h = all_open (decimal n)
    (All-from_get_or (λ b. is_lf b ≡ false) (decimal n) 0
    (λ i l. digit_open _ (digit_at (decimal n) i (decimal_is_IsNumeral n h).0.1 l)))

number_open : (n : ℕ) → IsNumber n → NoEnd (decimal n)
number_open n h = decimal_open n (omega (arith, h))

offset_open : (z : ℤ) → IsOffset z → NoEnd (signed_decimal z)
offset_open (pos n) h = decimal_open n (omega (arith, leb→le n 840 h.1.le))
offset_open (negsuc n) h = (refl, decimal_open (suc n) (omega (arith, leb→le n 839 h.0.le)))

dot_open : (b : ℕ) → IsDigitOrDot b → is_lf b ≡ false
dot_open b (inl r) = grind (arith, nat_tests)
dot_open b (inr e) = rw e refl

colon_open : (b : ℕ) → IsHexOrColon b → is_lf b ≡ false
colon_open b (inl r) = grind (arith, nat_tests)
colon_open b (inr r) = grind (arith, nat_tests)

address_open : (v6 : Bool) (n : ℕ) → IsAddress (record { v6 = v6; number = n })
    → NoEnd (address_text (record { v6 = v6; number = n }))
unfolding v4_text v6_text
address_open false n h =
    all_open _ (All-weaker IsDigitOrDot (λ b. is_lf b ≡ false) dot_open _
    (All-ipv4_text (four_octets n) (octets_fit n (ltb-true n (2 ^ 32) (h.0 refl)))))
address_open true n h =
    all_open _ (All-weaker IsHexOrColon (λ b. is_lf b ≡ false) colon_open _
    (All-hex_groups_text (eight_groups n) (groups_fit n (ltb-true n (2 ^ 128) h.1))))

kept_open : (b : ℕ) → should_percent_encode ESCAPES b ≡ false → is_lf b ≡ false
kept_open b h = let kept : is_escaped b ≡ false = sym (same_test b) ∙ h in grind (arith, nat_tests, kept)

escape_open : (b : ℕ) → IsEscapeByte b → is_lf b ≡ false
escape_open b (inl e) = rw e refl
escape_open b (inr (inl r)) = grind (arith, nat_tests)
escape_open b (inr (inr r)) = grind (arith, nat_tests)

escaped_open : (bytes : List ℕ) → NoEnd (escaped bytes)
escaped_open bytes = subst NoEnd (encodes bytes)
    (all_open _ (All-percent_encode (λ b. is_lf b ≡ false) ESCAPES bytes kept_open escape_open))

text_by : (bytes : List ℕ) (t : Bool) → NoEnd (if t then codes "%2D" else escaped bytes)
text_by bytes true = word_open (codes "%2D") refl
text_by bytes false = escaped_open bytes

text_open : (bytes : List ℕ) → NoEnd (text_word bytes)
unfolding text_word
text_open [] = word_open (codes "-") refl
text_open (b ∷ bs) = text_by (b ∷ bs) (bytes_eq (b ∷ bs) (codes "-"))

fields_open : (fs : List Field) → AreOpen (map field_word fs)
fields_open [] = tt
fields_open (f ∷ fs) = (text_open (f.name ++ 58 ∷ f.value), fields_open fs)

-- events

event_open : (e : Event) → HoldsValues e → AreOpen (event_words e)
event_open (Begin z) h = (word_open (codes "begin") refl, (offset_open z h, tt))
event_open (Open c a p) h = (
  word_open (codes "open") refl,
  (number_open c h.0, (address_open a.v6 a.number h.1, (decimal_open p (omega (arith, h.2)), tt))),
)
event_open (Close c) h = (word_open (codes "close") refl, (number_open c h, tt))
event_open (Ask c m t fs) h = (
  word_open (codes "ask") refl,
  (number_open c h.0, (text_open m, (text_open t, fields_open fs))),
)
event_open (Step n) h = (word_open (codes "step") refl, (number_open n h, tt))
event_open (Take n) h = (word_open (codes "take") refl, (number_open n h, tt))
event_open (Started e c) h = (word_open (codes "started") refl, (number_open e h.0, (text_open c, tt)))
event_open (StartFail e c) h = (word_open (codes "startfail") refl, (number_open e h.0, (text_open c, tt)))
event_open (Line p b) h = (word_open (codes "line") refl, (number_open p h.0, (text_open b, tt)))
event_open (Died p) h = (word_open (codes "died") refl, (number_open p h, tt))
event_open Act h = (word_open (codes "act") refl, tt)
event_open (Reconfigure t) h = (word_open (codes "reconfigure") refl, (text_open t, tt))
event_open (Seat c) h = (word_open (codes "seat") refl, (number_open c h, tt))
event_open (Grant s w) h = (word_open (codes "grant") refl, (number_open s h.0, (number_open w h.1, tt)))
event_open (Leave s) h = (word_open (codes "leave") refl, (number_open s h, tt))

-- answers

action_open : (allow : Bool) → NoEnd (action_word allow)
action_open true = word_open (codes "allowed") refl
action_open false = word_open (codes "denied") refl

cause_open : (x : Cause) → NoEnd (cause_word x)
cause_open cause.Bh = word_open (codes "Bh") refl
cause_open cause.BadReply = word_open (codes "BadReply") refl
cause_open cause.Stray = word_open (codes "Stray") refl
cause_open cause.Died = word_open (codes "Died") refl
cause_open cause.NoHelper = word_open (codes "NoHelper") refl
cause_open cause.QueueFull = word_open (codes "QueueFull") refl
cause_open cause.KeyTooLong = word_open (codes "KeyTooLong") refl

why_open : (w : Why) → IsWhy w → AreOpen (why_words w)
why_open (why.Rule n) h = (word_open (codes "rule") refl, (decimal_open n (omega (arith, h)), tt))
why_open why.Default h = (word_open (codes "default") refl, tt)
why_open why.Empty h = (word_open (codes "empty") refl, tt)
why_open (why.Fault n acl c) h = (
  word_open (codes "fault") refl,
  (decimal_open n (omega (arith, h.0)), (text_open acl, (cause_open c, tt))),
)

result_open : (x : Word) → NoEnd (result_word x)
result_open reply.Yes = word_open (codes "ok") refl
result_open reply.No = word_open (codes "err") refl
result_open reply.Broken = word_open (codes "bh") refl

channel_open : (x : Option ℕ) → IsChannel x → NoEnd (channel_word x)
channel_open None h = word_open (codes "-") refl
channel_open (Some n) h = decimal_open n (omega (arith, h))

told_open : (t : Told) → IsTold t → AreOpen (told_words t)
told_open (told.Epoch e) h = (word_open (codes "epoch") refl, (number_open e h, tt))
told_open told.Fine h = (word_open (codes "ok") refl, tt)
told_open (told.Check n) h = (word_open (codes "check") refl, (number_open n h, tt))
told_open (told.Took c) h = (word_open (codes "took") refl, (text_open c, tt))
told_open (told.Waits q) h = (word_open (codes "waits") refl, (number_open q h, tt))
told_open told.Done h = (word_open (codes "done") refl, tt)
told_open (told.Judged e o) h = (
  word_open (codes "epoch") refl,
  (number_open e h.0, (action_open o.allow, why_open o.why h.1)),
)
told_open (told.Proc p) h = (word_open (codes "proc") refl, (number_open p h, tt))
told_open (told.Reply q w) h = (word_open (codes "reply") refl, (number_open q h, (result_open w, tt)))
told_open told.Bad h = (word_open (codes "bad") refl, tt)
told_open told.Stray h = (word_open (codes "stray") refl, tt)
told_open (told.Start e c) h = (word_open (codes "start") refl, (number_open e h.0, (text_open c, tt)))
told_open (told.Send p q c k) h = (
  word_open (codes "send") refl,
  (number_open p h.0, (number_open q h.1, (channel_open c h.2, (text_open k, tt)))),
)
told_open (told.Stop p) h = (word_open (codes "stop") refl, (number_open p h, tt))
told_open (told.Seat s n) h = (
  word_open (codes "seat") refl,
  (number_open s h.0, (decimal_open (n + 1) (omega (arith, h.1)), tt)),
)
told_open told.NoSeat h = (word_open (codes "none") refl, tt)
told_open (told.Granted n) h = (word_open (codes "granted") refl, (number_open n h, tt))

-- entries

rest_open : (e : Noted) → IsNoted e → AreOpen (event_words e.event ++ codes "=>" ∷ told_words e.answer)
rest_open e h = both_open (event_words e.event) (codes "=>" ∷ told_words e.answer) (event_open e.event h.event_is)
    (word_open (codes "=>") refl, told_open e.answer h.answer_is)

-- the text of an entry has no LF, in either version
pub entry_open : (e : Noted) → IsNoted e → NoEnd (entry_text e)
entry_open e h = line_open (decimal e.moment) (event_words e.event ++ codes "=>" ∷ told_words e.answer)
    (number_open e.moment h.moment_is) (rest_open e h)

pub numbered_open : (number epoch : ℕ) (e : Noted) → IsNumber number → IsNumber epoch → IsNoted e
    → NoEnd (numbered_text number epoch e)
numbered_open number epoch e p q h =
    line_open (decimal number)
    (decimal epoch ∷ decimal e.moment ∷ event_words e.event ++ codes "=>" ∷ told_words e.answer) (number_open number p)
    (number_open epoch q, (number_open e.moment h.moment_is, rest_open e h))
