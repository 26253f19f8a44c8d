-- Lines that are read byte by byte, and what they order.
use Rattle.std.proofs.Common.{◌≡◌, ℕ, ◌<◌, ◌≤◌, min, List, [], ◌∷◌, ◌++◌, Bool, true, false, if◌then◌else◌, length, take, Some, None, IfSome, bytes_eq, codes, ◌⊎◌, inl, inr, lit<, refl, sym, ap, ◌∙◌, subst, append_assoc, append-nil, eqb-true, arith}
use Rattle.std.specs.Io.KnownBytes.{Consumes, IsAtEnd}
use Rattle.std.specs.declared.option.Option.{Option}
use Rattle.std.proofs.KnownBytes.{Consumes-trans}
use Rattle.std.proofs.lemmas.List.{length-take, take_all, take-append-le}
use Rattle.std.proofs.lemmas.Bool.{cases_lt}
use Rattle.std.proofs.lemmas.Bool.Decides.{same_from_decides}
use Rattle.std.proofs.lemmas.Slice.Eq.{bytes_eq-Decides}
use Rattle.sq_base.specs.Lines.{is_lf}
use Rattle.sq_outside.specs.Holding.{NoEnd}
use Rattle.sq_outside.specs.SourceLines.{lines, onto}
use Rattle.sq_control.specs.declared.orders.Order.{Order}
use Rattle.sq_control.specs.declared.orders.Order.TheVariants as order
use Rattle.sq_control.specs.Orders.{IsNext, IsOrdered, kept, lines_left, order_of, rereads_in}

-- a line that LF ends stands before the lines of the rest
pub lines_ended : (l rest : List ℕ) → NoEnd l → lines (l ++ 10 ∷ rest) ≡ record { bytes = l; ended = true } ∷ lines rest
lines_ended [] rest h = refl
lines_ended (b ∷ l) rest h = rw (h.0, lines_ended l rest h.1) refl

-- bytes without LF are one line, which is not ended
lines_open : (b : ℕ) (l : List ℕ) → NoEnd (b ∷ l) → lines (b ∷ l) ≡ record { bytes = b ∷ l; ended = false } ∷ []
lines_open b [] h = rw (h.0) refl
lines_open b (c ∷ l) h = rw (h.0) (ap (onto b) (lines_open c l h.1))

-- and order nothing
pub open_orders : (l : List ℕ) → NoEnd l → rereads_in (lines l) ≡ 0
open_orders [] h = refl
open_orders (b ∷ l) h = ap rereads_in (lines_open b l h)

-- and none is behind a `shutdown` of theirs
pub open_left : (l : List ℕ) → NoEnd l → lines_left (lines l) ≡ []
open_left [] h = refl
open_left (b ∷ l) h = ap lines_left (lines_open b l h)

no_end_more : (l : List ℕ) (b : ℕ) → NoEnd l → is_lf b ≡ false → NoEnd (l ++ b ∷ [])
no_end_more [] b h e = (e, tt)
no_end_more (x ∷ l) b h e = (h.0, no_end_more l b h.1 e)

-- the first bytes, which are more than a word has, are that word exactly where all are
front_same : (n : ℕ) (l w : List ℕ) → length w < n → take n l ≡ w → l ≡ w
front_same n l w less e =
    let long : min n (length l) ≡ length w = sym (length-take n l) ∙ ap length e in
    sym (take_all n l (omega (arith, long))) ∙ e

same_front : (n : ℕ) (l w : List ℕ) → length w < n → l ≡ w → take n l ≡ w
same_front n l w less e = take_all n l (omega (arith, ap length e)) ∙ e

kept_eq : (n : ℕ) (l w : List ℕ) → length w < n → bytes_eq (take n l) w ≡ bytes_eq l w
kept_eq n l w less =
    let front = bytes_eq-Decides (take n l) w in
    same_from_decides {P = l ≡ w} (bytes_eq (take n l) w) (bytes_eq l w)
    (λ t. front_same n l w less (front.0 t), λ e. front.1 (same_front n l w less e))
    (bytes_eq-Decides l w)

-- the front of a line orders what the line does
pub kept_orders : (l : List ℕ) → order_of (kept l) ≡ order_of l
kept_orders l = rw (kept_eq 12 l (codes "reconfigure") (lit< tt), kept_eq 12 l (codes "shutdown") (lit< tt)) refl

take_more_by : (n : ℕ) (l : List ℕ) (b : ℕ) → (length l < n) ⊎ (n ≤ length l)
    → take n (take n l ++ b ∷ []) ≡ take n (l ++ b ∷ [])
take_more_by n l b (inl less) = rw (take_all n l (omega arith)) refl
take_more_by n l b (inr more) =
    let long : length (take n l) ≡ n = length-take n l ∙ omega (arith, more) in
    take-append-le n (take n l) (b ∷ []) (omega (arith, long)) ∙ take_all n (take n l) (omega (arith, long))
    ∙ sym (take-append-le n l (b ∷ []) more)

-- one byte more
pub kept_more : (held l : List ℕ) (b : ℕ) → held ≡ kept l → kept (held ++ b ∷ []) ≡ kept (l ++ b ∷ [])
kept_more held l b e = rw e (take_more_by 12 l b (cases_lt (length l) 12))

-- so far: the bytes of a line that were read
pub record IsReading (before now : Option (List ℕ)) (front : List ℕ) : Type 0 where
  pub line : List ℕ
  pub read : Consumes before now line
  pub unended : NoEnd line
  pub front_is : front ≡ kept line

pub reading_more : (before mid now : Option (List ℕ)) (front next : List ℕ) (b : ℕ) → IsReading before mid front
    → Consumes mid now (b ∷ []) → is_lf b ≡ false
    → next ≡ kept (front ++ b ∷ []) → IsReading before now next
reading_more before mid now front next b r read e is = record {
  line = r.line ++ b ∷ [];
  read = Consumes-trans before mid now r.line (b ∷ []) r.read read;
  unended = no_end_more r.line b r.unended e;
  front_is = is ∙ kept_more front r.line b r.front_is;
}

next_of : (bytes : List ℕ) (after : Option (List ℕ)) (line : List ℕ) (a b : Bool)
    → IsOrdered bytes after (if a then order.Reconfigure else (if b then order.Shutdown else order.Nothing))
    → IsNext bytes after (if a then order.Reconfigure else (if b then order.Shutdown else order.Nothing))
next_of bytes after line true b o = o
next_of bytes after line false true o = o
next_of bytes after line false false o = o

ordered : (before after : Option (List ℕ)) (line : List ℕ) → Consumes before after (line ++ 10 ∷ []) → NoEnd line
    → IfSome before (λ bytes. IsNext bytes after (order_of line))
ordered None after line read open_ = tt
ordered (Some xs) None line read open_ = absurd read
ordered (Some xs) (Some ys) line read open_ =
    next_of xs (Some ys) line (bytes_eq line (codes "reconfigure")) (bytes_eq line (codes "shutdown")) (record {
      line = line;
      rest = ys;
      first = ap lines (read ∙ append_assoc line (10 ∷ []) ys) ∙ lines_ended line ys open_;
      left = refl;
      order_is = refl;
    })

-- LF came
pub reading_ends : (before mid now : Option (List ℕ)) (front : List ℕ) (b : ℕ) (o : Order) → IsReading before mid front
    → Consumes mid now (b ∷ []) → b ≡ 10 → o ≡ order_of front
    → IfSome before (λ bytes. IsNext bytes now o)
reading_ends before mid now front b o r read lf is =
    let whole : Consumes before now (r.line ++ 10 ∷ []) =
    subst (λ x. Consumes before now (r.line ++ x ∷ [])) lf
    (Consumes-trans before mid now r.line (b ∷ []) r.read read) in
    subst (λ (x : Order). IfSome before (λ bytes. IsNext bytes now x))
    (sym (is ∙ ap order_of r.front_is ∙ kept_orders r.line)) (ordered before now r.line whole r.unended)

-- nothing is left
pub reading_stops : (before mid now : Option (List ℕ)) (front : List ℕ) → IsReading before mid front
    → Consumes mid now [] → IsAtEnd now
    → IfSome before (λ bytes. IsNext bytes now order.End)
reading_stops before mid now front r read end = at before now (Consumes-trans before mid now r.line [] r.read read) end
  where
    at : (a b : Option (List ℕ)) → Consumes a b (r.line ++ []) → IsAtEnd b
        → IfSome a (λ bytes. IsNext bytes b order.End)
    at None b c e = tt
    at (Some xs) None c e = absurd c
    at (Some xs) (Some ys) c e =
        let all : xs ≡ r.line = c ∙ ap (λ l. (r.line ++ []) ++ l) e ∙ append-nil (r.line ++ []) ∙ append-nil r.line in
        (subst NoEnd (sym all) r.unended, ap (λ (l : List ℕ). Some l) e)

test_false : (b : Bool) → (b ≡ true → ⊥) → b ≡ false
test_false true n = absurd (n refl)
test_false false n = refl

-- a byte that is not LF
pub no_lf : (b : ℕ) → (b ≡ 10 → ⊥) → is_lf b ≡ false
no_lf b n = test_false (is_lf b) (λ e. n (eqb-true b 10 e))
