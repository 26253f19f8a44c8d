-- What a desk that tells no journal says of its calls, and how its count of refusals stands to a share.
use Rattle.std.proofs.Common.{◌≡◌, ℕ, ◌+◌, ◌≤◌, ◌==◌, if◌then◌else◌, min, List, Bool, true, false, Result, Ok, Err, Some, None, IfOk, refl, sym, ap, subst, ◌∙◌, arith}
use Rattle.std.proofs.lemmas.Bool.Decides.{nat_tests}
use Rattle.std.specs.declared.option.Option.{Option}
use Rattle.sq_outside.specs.Causes.{count_limit, raised}
use Rattle.sq_calls.specs.Legality.{Beginning}
use Rattle.sq_calls.specs.Telling.{CountsReconfigured, CountsLine, CountsRefusal, MayAct, Notes, Refuses, RefusesAt}
use Rattle.sq_calls.specs.declared.faults.DeskFault.{DeskFault}
use Rattle.sq_calls.specs.declared.faults.DeskFault.TheVariants as fault
use Rattle.sq_channel.specs.declared.replies.Got.{Got}
use Rattle.sq_channel.specs.declared.replies.Got.TheVariants as got
use Rattle.sq_machine.specs.declared.acts.Act.{Act}
use Rattle.sq_machine.specs.declared.entries.Event.{Event}
use Rattle.sq_machine.specs.declared.entries.Told.{Told}
use Rattle.sq_machine.specs.declared.refusals.Refusal.TheVariants as refusal
use Rattle.sq_shared.specs.Books.{SharesLine, SharesMade, SharesRefusal}

pub untold : {A : Type 0} (first : Option Beginning) (now : ℕ) (told : A → Told) (P : Event → Type 0)
    (r : Result A DeskFault) → Notes first now told P None None r
untold first now told P (Ok a) = refl
untold first now told P (Err f) = refl

pub untold_act : (first : Option Beginning) (now : ℕ) (r : Result (Option Act) DeskFault) → MayAct first now None None r
untold_act first now (Ok (Some a)) = refl
untold_act first now (Ok None) = (tt, refl)
untold_act first now (Err f) = refl

pub unrefused : {A : Type 0} (first : Option Beginning) (now : ℕ) (e : Event) (r : Result A DeskFault)
    → Refuses first now e None r
unrefused first now e (Ok a) = tt
unrefused first now e (Err fault.Stopped) = tt
unrefused first now e (Err (fault.Engine refusal.WantOfMemory)) = tt
unrefused first now e (Err (fault.Engine r)) = tt
unrefused first now e (Err fault.JournalFault) = tt
unrefused first now e (Err fault.WantOfMemory) = tt

pub unrefused_at : {A : Type 0} (first : Option Beginning) (now : ℕ) (e : List ℕ → Event) (epoch place : ℕ)
    (r : Result A DeskFault) → RefusesAt first now e epoch place None r
unrefused_at first now e epoch place (Ok a) = tt
unrefused_at first now e epoch place (Err fault.Stopped) = tt
unrefused_at first now e epoch place (Err (fault.Engine refusal.WantOfMemory)) = tt
unrefused_at first now e epoch place (Err (fault.Engine r)) = tt
unrefused_at first now e epoch place (Err fault.JournalFault) = tt
unrefused_at first now e epoch place (Err fault.WantOfMemory) = tt

stays : (a b : ℕ) → b ≡ a → min b count_limit ≡ min a count_limit
stays a b e = ap (λ n. min n count_limit) e

rises : (a b : ℕ) → b ≡ a + 1 → min a count_limit ≤ min b count_limit
rises a b e = grind arith

is_raised : (a b : ℕ) → b ≡ a + 1 → min b count_limit ≡ raised (min a count_limit)
is_raised a b e = grind arith

pub share_counts : {A : Type 0} (a b : ℕ) (r : Result A DeskFault) → SharesRefusal a b r
    → CountsRefusal (min a count_limit) (min b count_limit) r
share_counts a b (Ok x) s = stays a b s
share_counts a b (Err fault.WantOfMemory) s = stays a b s
share_counts a b (Err fault.Stopped) s = (rises a b s, is_raised a b s)
share_counts a b (Err (fault.Engine r)) s = (rises a b s, is_raised a b s)
share_counts a b (Err fault.JournalFault) s = (rises a b s, is_raised a b s)

-- a start, and one that failed, of a desk behind a lock, which tells no entries
pub ruleset untold_start = (untold, unrefused_at, share_counts)

pub share_counts_line : (a b : ℕ) (r : Result Got DeskFault) → SharesLine a b r
    → CountsLine (min a count_limit) (min b count_limit) r
share_counts_line a b (Ok (got.Reply q x)) s = stays a b s
share_counts_line a b (Ok got.Bad) s = (rises a b s, is_raised a b s)
share_counts_line a b (Ok got.Stray) s = (rises a b s, is_raised a b s)
share_counts_line a b (Err fault.WantOfMemory) s = stays a b s
share_counts_line a b (Err fault.Stopped) s = (rises a b s, is_raised a b s)
share_counts_line a b (Err (fault.Engine r)) s = (rises a b s, is_raised a b s)
share_counts_line a b (Err fault.JournalFault) s = (rises a b s, is_raised a b s)

-- what a share tells of reconfigurations, where it is the whole of their book
made_if : (t : Bool) (a b : ℕ) (r : Result ℕ DeskFault) → SharesMade a b r → (t ≡ true → IfOk r (λ e. e ≡ b + 1))
    → CountsReconfigured (if t then Some a else None) (if t then Some b else None) r
made_if true a b (Ok e) s whole = (ap Some s, whole refl ∙ ap (λ n. n + 1) s)
made_if true a b (Err f) s whole = ap Some s
made_if false a b (Ok e) s whole = tt
made_if false a b (Err f) s whole = refl

is_same : (p m : ℕ) → (p == m) ≡ true → p ≡ m
is_same p m e = grind (arith, nat_tests)

pub share_made : (p q m a b : ℕ) (r : Result ℕ DeskFault) → q ≡ p → SharesMade a b r → (p ≡ m → IfOk r (λ e. e ≡ b + 1))
    → CountsReconfigured (if p == m then Some a else None) (if q == m then Some b else None) r
share_made p q m a b r same s whole =
    subst (λ k. CountsReconfigured (if p == m then Some a else None) (if k == m then Some b else None) r) (sym same)
    (made_if (p == m) a b r s (λ e. whole (is_same p m e)))
