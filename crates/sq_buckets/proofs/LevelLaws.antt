-- Many seconds at once, and that a bucket's books balance.
use Rattle.std.proofs.Common.{◌≡◌, ℕ, ◌+◌, ◌-◌, ◌*◌, ◌≤◌, ◌<◌, ◌^◌, min, suc, zero, arith, refl, ap, ◌∙◌, sym, mul-add}
use Rattle.sq_rules.specs.Rates.{Limit}
use Rattle.sq_machine.specs.BucketLevels.{Tally, seconds, Filled, IsFilled}

-- the same bucket after so many seconds, reckoned at once
abbrev pub at_once : Limit → ℕ → Tally → Tally
at_once r n b = record {
  level = min r.max (b.level + r.restore * n);
  opened = b.opened;
  restored = b.restored + r.restore * n;
  spilled = b.spilled + (b.level + r.restore * n - r.max);
  granted = b.granted;
}

-- a bucket's numbers, written out
abbrev tally : ℕ → ℕ → ℕ → ℕ → ℕ → Tally
tally l o r s g = record { level = l; opened = o; restored = r; spilled = s; granted = g }

same_tally : (l l' o r r' s s' g : ℕ) → l ≡ l' → r ≡ r' → s ≡ s' → tally l o r s g ≡ tally l' o r' s' g
same_tally l l' o r r' s s' g a b c = rw (a, b, c) refl

-- second by second is the same as at once, for a bucket within its limit
pub seconds_at_once : (r : Limit) (n : ℕ) (b : Tally) → b.level ≤ r.max → seconds r n b ≡ at_once r n b
seconds_at_once r zero b h = same_tally b.level _ b.opened b.restored _ b.spilled _ b.granted (omega arith)
    (omega arith) (omega arith)
seconds_at_once r (suc n) b h =
    let before : seconds r n b ≡ at_once r n b = seconds_at_once r n b h in
    let more : r.restore * suc n ≡ r.restore * n + r.restore = grind arith in
    rw before (same_tally _ _ b.opened _ _ _ _ b.granted (omega arith) (omega arith) (omega arith))

-- the numbers that the code writes
pub seconds_written : (r : Limit) (n : ℕ) (b : Tally) (level : ℕ) → b.level ≤ r.max
    → level ≡ min (b.level + n * r.restore) r.max
    → record {
      level = level;
      opened = b.opened;
      restored = b.restored + n * r.restore;
      spilled = b.spilled + (b.level + n * r.restore - level);
      granted = b.granted;
    } ≡ seconds r n b
seconds_written r n b level within e =
    let gain : n * r.restore ≡ r.restore * n = grind arith in
    same_tally level _ b.opened _ _ _ _ b.granted (omega arith) (omega arith) (omega arith)
    ∙ sym (seconds_at_once r n b within)

-- what holds of a bucket holds after it was reckoned up to a later second
pub filled_later : (f : Filled) (t : ℕ) → IsFilled f → f.second < t → t < 2 ^ 63
    → IsFilled (record { limit = f.limit; second = t; tally = seconds f.limit (t - f.second) f.tally })
filled_later f t k later small =
    let within = k.within in
    let opened_is = k.opened_is in
    let gained = k.gained in
    let n = t - f.second in
    let split : f.limit.restore * t ≡ f.limit.restore * f.second + f.limit.restore * n =
    ap (λ (x : ℕ). f.limit.restore * x) (omega arith) ∙ mul-add f.limit.restore f.second n in
    rw (seconds_at_once f.limit n f.tally within) record {
      within = omega arith;
      opened_is = opened_is;
      gained = omega arith;
      second_is = small;
    }
