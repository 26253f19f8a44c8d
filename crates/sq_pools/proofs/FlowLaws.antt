-- What a bucket can grant between two moments.
use Rattle.std.proofs.Common.{◌≡◌, ℕ, ◌+◌, ◌*◌, ◌≤◌, suc, zero, arith, refl, ap, ◌∙◌, sym, mul-add}
use Rattle.sq_rules.specs.Rates.{Limit}
use Rattle.sq_machine.specs.BucketLevels.{Tally, seconds, drawn}
use Rattle.sq_pools.specs.Flows.{Flows}

pub flows_none : (r : Limit) (a : Tally) → Flows r 0 a a
flows_none r a = record { gains = omega arith; spills = omega arith; opens = refl; restores = omega arith }

-- one bucket after another
pub flows_on : (r : Limit) (n m t : ℕ) (a b c : Tally) → n + m ≡ t → Flows r n a b → Flows r m b c → Flows r t a c
flows_on r n m t a b c sum p q =
    let p1 = p.gains in
    let p2 = p.spills in
    let p4 = p.restores in
    let q1 = q.gains in
    let q2 = q.spills in
    let q4 = q.restores in
    let split : r.restore * t ≡ r.restore * n + r.restore * m = ap (λ (x : ℕ). r.restore * x) (sym sum)
    ∙ mul-add r.restore n m in
    record { gains = omega arith; spills = omega arith; opens = q.opens ∙ p.opens; restores = omega arith }

pub flows_seconds : (r : Limit) (n : ℕ) (a : Tally) → Flows r n a (seconds r n a)
flows_seconds r zero a = flows_none r a
flows_seconds r (suc n) a =
    let p = flows_seconds r n a in
    let p1 = p.gains in
    let p2 = p.spills in
    let p4 = p.restores in
    let b = seconds r n a in
    let split : r.restore * suc n ≡ r.restore * n + r.restore = grind arith in
    record { gains = omega arith; spills = omega arith; opens = p.opens; restores = omega arith }

pub flows_drawn : (r : Limit) (amount : ℕ) (a : Tally) → amount ≤ a.level → Flows r 0 a (drawn amount a)
flows_drawn r amount a h = record { gains = omega arith; spills = omega arith; opens = refl; restores = omega arith }

-- no more than the level and what was restored
pub flows_bound : (r : Limit) (n : ℕ) (a b : Tally) → Flows r n a b → b.granted ≤ a.granted + (a.level + r.restore * n)
flows_bound r n a b p =
    let p1 = p.gains in
    let p2 = p.spills in
    omega arith

-- the books stay balanced
pub flows_balanced : (r : Limit) (n : ℕ) (a b : Tally) → Flows r n a b
    → a.opened + a.restored ≡ a.level + a.granted + a.spilled → b.opened + b.restored ≡ b.level + b.granted + b.spilled
flows_balanced r n a b p e =
    let p1 = p.gains in
    let p3 = p.opens in
    let p4 = p.restores in
    omega arith
