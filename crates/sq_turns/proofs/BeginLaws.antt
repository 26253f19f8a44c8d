-- What an input begins with, by what is ahead of it.
use Rattle.std.proofs.Common.{◌≡◌, ℕ, ◌<◌, ◌≤◌, List, [], ◌++◌, length, take, drop, Bool, true, false, Option, Some, None, IfSome, refl, sym, ap, subst, ◌∙◌, arith, append_assoc, take-append-drop, length-take}
use Rattle.std.specs.Io.KnownBytes.{Keeps, prepend_known}
use Rattle.sq_request.specs.Endings.{head_end, IsWholeHead}
use Rattle.sq_message.specs.ReplyHeads.{most_bytes}
use Rattle.sq_turns.specs.Begins.{Begins, LeavesRest, HeadComes, is_blank, ended_as}
use Rattle.sq_turns.specs.Told.{BeginsTold}
use Rattle.sq_turns.specs.declared.beginning.Begun.{Begun}

-- by what holds of all that comes
pub begins_by : (first told : Option (List ℕ)) (P : List ℕ → Type 0) (b : Begun) (left : Option (List ℕ))
    → Keeps first told → IfSome told P → ((bytes : List ℕ) → P bytes → Begins bytes b []) → LeavesRest b left []
    → BeginsTold first left b
begins_by None told P b left k p f l = record { known = tt }
begins_by (Some bytes) None P b left k p f l = absurd k
begins_by (Some bytes) (Some other) P b left k p f l = record {
  known =
      record { rest = []; begins = f bytes (subst P k p); left_is = l };
}

-- where nothing is said
pub begins_any : (first : Option (List ℕ)) (b : Begun) (left : Option (List ℕ)) → ((bytes : List ℕ) → Begins bytes b [])
    → LeavesRest b left [] → BeginsTold first left b
begins_any None b left f l = record { known = tt }
begins_any (Some bytes) b left f l = record { known = record { rest = []; begins = f bytes; left_is = l } }

-- the head ahead is the first
pub head_comes : (bytes ahead s head : List ℕ) (len : ℕ) → ahead ++ s ≡ bytes → IsWholeHead (take len ahead)
    → len ≤ most_bytes → head ≡ take len ahead → HeadComes bytes head (drop len ahead ++ s)
head_comes bytes ahead s head len k whole few is = record {
  cut = sym k ∙ ap (λ l. l ++ s) (sym (take-append-drop len ahead)) ∙ append_assoc (take len ahead) (drop len ahead) s
      ∙ ap (λ l. l ++ (drop len ahead ++ s)) (sym is);
  whole = subst IsWholeHead (sym is) whole;
  small = omega (arith, ap length is, length-take len ahead, few);
}

pub begins_head : (first : Option (List ℕ)) (ahead : List ℕ) (src : Option (List ℕ)) (head : List ℕ) (len : ℕ)
    (b : Begun) (left : Option (List ℕ)) → Keeps first (prepend_known ahead src) → IsWholeHead (take len ahead)
    → len ≤ most_bytes → head ≡ take len ahead
    → ((bytes rest : List ℕ) → HeadComes bytes head rest → Begins bytes b rest)
    → ((s : List ℕ) → src ≡ Some s → LeavesRest b left (drop len ahead ++ s)) → BeginsTold first left b
begins_head None ahead src head len b left k whole few is f l = record { known = tt }
begins_head (Some bytes) ahead None head len b left k whole few is f l = absurd k
begins_head (Some bytes) ahead (Some s) head len b left k whole few is f l =
    record {
      known = record {
        rest = drop len ahead ++ s;
        begins = f bytes (drop len ahead ++ s) (head_comes bytes ahead s head len k whole few is);
        left_is = l s refl;
      };
    }

-- what a half has left once the head ahead is dropped
pub passed : {S : Type 0} (left : S → Option (List ℕ)) (ahead now : List ℕ) (source source_now : S) (len : ℕ)
    → now ≡ drop len ahead → source_now ≡ source → (s : List ℕ) → left source ≡ Some s
    → prepend_known now (left source_now) ≡ Some (drop len ahead ++ s)
passed left ahead now source source_now len e f s is = ap (λ o. prepend_known now (left o)) f
    ∙ ap (λ o. prepend_known now o) is ∙ ap (λ l. Some (l ++ s)) e

-- an input that ends before a head does
ended_begins : (bytes : List ℕ) (b : Begun) (t : Bool) → is_blank bytes ≡ t → b ≡ ended_as t → head_end bytes ≡ None
    → length bytes < most_bytes → Begins bytes b []
ended_begins bytes b true e i none few = subst (λ x. Begins bytes x []) (sym i) (e, few)
ended_begins bytes b false e i none few = subst (λ x. Begins bytes x []) (sym i)
    (record { endless = none; short = few; begun = e })

ended_leaves : (b : Begun) (t : Bool) (left : Option (List ℕ)) → b ≡ ended_as t → LeavesRest b left []
ended_leaves b true left i = subst (λ x. LeavesRest x left []) (sym i) tt
ended_leaves b false left i = subst (λ x. LeavesRest x left []) (sym i) tt

pub begins_end : (first : Option (List ℕ)) (ahead text : List ℕ) (src left : Option (List ℕ)) (b : Begun)
    → Keeps first (prepend_known ahead src) → text ≡ ahead → b ≡ ended_as (is_blank text)
    → head_end ahead ≡ None → length ahead < most_bytes → IfSome (prepend_known ahead src) (λ bytes. bytes ≡ ahead)
    → BeginsTold first left b
begins_end first ahead text src left b k same i none few all =
    begins_by first (prepend_known ahead src) (λ bytes. bytes ≡ ahead) b left k all
    (λ bytes e. ended_begins bytes b (is_blank bytes) refl (i ∙ ap (λ l. ended_as (is_blank l)) (same ∙ sym e))
    (ap head_end e ∙ none) (omega (arith, ap length e, few)))
    (ended_leaves b (is_blank text) left i)
