-- Each question is on one channel of a process at most: so it stays after each event.
use Rattle.std.proofs.Common.{◌≡◌, ℕ, zero, suc, ◌<◌, max, List, [], ◌∷◌, slice_get, Bool, true, false, ◌&&◌, ◌==◌, nat_le, nat_lt, if◌then◌else◌, Option, Some, None, refl, sym, ap, ◌∙◌}
use Rattle.std.specs.Option.{option_map}
use Rattle.std.proofs.lemmas.Bool.{lt-ltb}
use Rattle.std.proofs.lemmas.Option.{none-some, same_Some, slice_get-map}
use Rattle.sq_base.specs.Replies.{reply_of}
use Rattle.sq_machine.specs.declared.entries.Event.TheVariants.{Line, Act}
use Rattle.sq_machine.specs.declared.entries.Told.{Told}
use Rattle.sq_machine.specs.declared.entries.Told.TheVariants as told
use Rattle.sq_machine.specs.Channels.{channel_name, is_open}
use Rattle.sq_machine.specs.Events.{is_number}
use Rattle.sq_machine.specs.Marks.{Past, entries}
use Rattle.sq_machine.specs.Numbered.{below}
use Rattle.sq_machine.specs.Processes.{proc_count}
use Rattle.sq_machine.specs.Transcripts.{after_use, channels_of, clears, holder, keeps, puts, same_channel, stands_on}
use Rattle.sq_model.specs.Carried.{HoldsOnce}
use Rattle.sq_model.specs.MarkedEntries.{noted_at}
use Rattle.sq_model.proofs.ClassParts.{equal, itself}
use Rattle.sq_model.proofs.LineLaws.{below_at}
use Rattle.sq_model.proofs.SendLaws.{same_name}

was_held : (b : Bool) (o : Option ℕ) (q : ℕ) → after_use (if b then clears else keeps) o ≡ Some q → o ≡ Some q
was_held true o q e = absurd (none-some q e)
was_held false o q e = e

-- a line, whatever it is
pub once_line : (concurrency : ℕ) (m : Past) (now p : ℕ) (bytes : List ℕ) (answer : Told) (k q : ℕ)
    → HoldsOnce concurrency (entries m) k q
    → HoldsOnce concurrency (entries (noted_at now (Line p bytes) answer ∷ m)) k q
once_line concurrency m now p bytes answer k q once = λ n j ln lj a b. once n j ln lj (before n a) (before j b)
  where
    before : (n : ℕ) → holder (nat_lt 0 concurrency) (entries (noted_at now (Line p bytes) answer ∷ m)) k
        (channel_name (nat_lt 0 concurrency) n) ≡ Some q
        → holder (nat_lt 0 concurrency) (entries m) k (channel_name (nat_lt 0 concurrency) n) ≡ Some q
    before n e =
        was_held ((k == p) && nat_le k (proc_count (entries m))
        && stands_on (reply_of (nat_lt 0 concurrency) bytes) (channel_name (nat_lt 0 concurrency) n))
        (holder (nat_lt 0 concurrency) (entries m) k (channel_name (nat_lt 0 concurrency) n)) q e

-- a question in a slot is open
pub open_there : (slots : List (Option ℕ)) (n q : ℕ) → slice_get slots n ≡ Some (Some q) → is_open q slots ≡ true
open_there [] n q e = absurd (none-some (Some q) e)
open_there (None ∷ slots) zero q e = absurd (none-some q (same_Some _ _ e))
open_there (Some p ∷ slots) zero q e =
    ap (λ (b : Bool). if b then true else is_open q slots)
    (ap (λ (o : Option ℕ). is_number q o) (same_Some _ _ e) ∙ itself q)
open_there (None ∷ slots) (suc n) q e = open_there slots n q e
open_there (Some p ∷ slots) (suc n) q e = by (q == p) (open_there slots n q e)
  where
    by : (b : Bool) → is_open q slots ≡ true → (if b then true else is_open q slots) ≡ true
    by true o = refl
    by false o = o

-- what a channel holds is open on the process
pub held_open : (concurrency : ℕ) (m : Past) (k n q : ℕ) → n < max 1 concurrency
    → holder (nat_lt 0 concurrency) (entries m) k (channel_name (nat_lt 0 concurrency) n) ≡ Some q
    → is_open q (channels_of concurrency (entries m) k).slots ≡ true
held_open concurrency m k n q l e =
    open_there (channels_of concurrency (entries m) k).slots n q
    (slice_get-map hold (below (max 1 concurrency)) n
    ∙ ap (option_map hold) (below_at (max 1 concurrency) n
    ∙ ap (λ (b : Bool). if b then Some n else None) (lt-ltb n (max 1 concurrency) l))
    ∙ ap (λ (o : Option ℕ). Some o) e)
  where
    hold : ℕ → Option ℕ
    hold n = holder (nat_lt 0 concurrency) (entries m) k (channel_name (nat_lt 0 concurrency) n)

-- a send of a question that is open nowhere on its process, to a channel of that
pub once_sent : (concurrency : ℕ) (m : Past) (now p q : ℕ) (channel : Option ℕ) (key : List ℕ) (k i : ℕ)
    → (k ≡ p → is_open q (channels_of concurrency (entries m) k).slots ≡ false)
    → (k ≡ p → (place : ℕ) × (place < max 1 concurrency) × (channel ≡ channel_name (nat_lt 0 concurrency) place))
    → HoldsOnce concurrency (entries m) k i
    → HoldsOnce concurrency (entries (noted_at now Act (told.Send p q channel key) ∷ m)) k i
once_sent concurrency m now p q channel key k i shut at once = λ n j ln lj a b. by n j ln lj a b (k == p) refl
  where
    hold : ℕ → Option ℕ
    hold n = holder (nat_lt 0 concurrency) (entries m) k (channel_name (nat_lt 0 concurrency) n)

    same : ℕ → Bool
    same n = same_channel channel (channel_name (nat_lt 0 concurrency) n)

    same_place : k ≡ p → (n j : ℕ) → n < max 1 concurrency → j < max 1 concurrency → same n ≡ true → same j ≡ true
        → n ≡ j
    same_place kp n j ln lj a b =
        let t = at kp in
        equal n t.0 (sym (same_name concurrency t.0 n t.1 ln)
        ∙ sym (ap (λ (o : Option ℕ). same_channel o (channel_name (nat_lt 0 concurrency) n)) t.2) ∙ a)
        ∙ sym (equal j t.0 (sym (same_name concurrency t.0 j t.1 lj)
        ∙ sym (ap (λ (o : Option ℕ). same_channel o (channel_name (nat_lt 0 concurrency) j)) t.2) ∙ b))

    new : k ≡ p → (n : ℕ) → n < max 1 concurrency → hold n ≡ Some q → ⊥
    new kp n l e = let here = held_open concurrency m k n q l e in let no = shut kp in cc

    both : k ≡ p → (n j : ℕ) → n < max 1 concurrency → j < max 1 concurrency → (g : Bool) → (s t : Bool) → same n ≡ s
        → same j ≡ t
        → after_use (if g && s then puts q else keeps) (hold n) ≡ Some i
        → after_use (if g && t then puts q else keeps) (hold j) ≡ Some i → n ≡ j
    both kp n j ln lj true true true sn sj a b = same_place kp n j ln lj sn sj
    both kp n j ln lj true true false sn sj a b = absurd (new kp j lj (b ∙ sym a))
    both kp n j ln lj true false true sn sj a b = absurd (new kp n ln (a ∙ sym b))
    both kp n j ln lj true false false sn sj a b = once n j ln lj a b
    both kp n j ln lj false s t sn sj a b = once n j ln lj a b

    turned : (d n : ℕ) → (g : Bool)
        → after_use (if true && g && same n then puts q else keeps) (hold n)
        ≡ after_use (if g && same n then puts q else keeps) (hold n)
    turned d n true = refl
    turned d n false = refl

    by : (n j : ℕ) → n < max 1 concurrency → j < max 1 concurrency
        → after_use (if (k == p) && nat_le k (proc_count (entries m)) && same n then puts q else keeps) (hold n)
        ≡ Some i
        → after_use (if (k == p) && nat_le k (proc_count (entries m)) && same j then puts q else keeps) (hold j)
        ≡ Some i → (b : Bool) → (k == p) ≡ b → n ≡ j
    by n j ln lj a b true is =
        both (equal k p is) n j ln lj (nat_le k (proc_count (entries m))) (same n) (same j) refl refl
        (sym (ap (λ (d : Bool). after_use (if d && nat_le k (proc_count (entries m)) && same n then puts q else keeps)
        (hold n)) is ∙ turned 0 n (nat_le k (proc_count (entries m)))) ∙ a)
        (sym (ap (λ (d : Bool). after_use (if d && nat_le k (proc_count (entries m)) && same j then puts q else keeps)
        (hold j)) is ∙ turned 0 j (nat_le k (proc_count (entries m)))) ∙ b)
    by n j ln lj a b false other =
        once n j ln lj
        (sym (ap (λ (d : Bool). after_use (if d && nat_le k (proc_count (entries m)) && same n then puts q else keeps)
        (hold n)) other) ∙ a)
        (sym (ap (λ (d : Bool). after_use (if d && nat_le k (proc_count (entries m)) && same j then puts q else keeps)
        (hold j)) other) ∙ b)
