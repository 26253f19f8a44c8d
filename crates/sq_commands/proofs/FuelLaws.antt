-- Each turn of a driver lowers what it has before it, so its turns suffice.
use Rattle.std.proofs.Common.{◌≡◌, ℕ, ◌+◌, ◌*◌, ◌-◌, ◌≤◌, ◌<◌, ◌==◌, ◌||◌, suc, nat_lt, nat_le, List, [], ◌∷◌, ◌++◌, length, drop, slice_get, Bool, true, false, if◌then◌else◌, refl, ap, arith}
use Rattle.std.proofs.lemmas.Bool.Decides.{nat_tests}
use Rattle.sq_machine.specs.declared.entries.Told.{Told}
use Rattle.sq_machine.specs.declared.entries.Told.TheVariants as told
use Rattle.sq_commands.specs.declared.drivers.Driver.{Driver}
use Rattle.sq_commands.specs.declared.rehearsal_stages.DriverStage.{DriverStage}
use Rattle.sq_commands.specs.declared.rehearsal_stages.DriverStage.TheVariants as stage
use Rattle.sq_commands.specs.declared.rehearsal_stages.Pending.{Pending}
use Rattle.sq_commands.specs.declared.rehearsal_stages.SentQuestion.{SentQuestion}
use Rattle.sq_commands.specs.declared.rehearsal_stages.StepKind.{StepKind}
use Rattle.sq_commands.specs.declared.rehearsal_stages.StepKind.TheVariants as said
use Rattle.sq_commands.specs.Driving.{act_made, asked, replied, said_by, stepped}
use Rattle.sq_commands.specs.Going.{acted, acted_by, acting, after_request, at_stage, checks_begun, driven, first_driven, next_in_round, next_request, onward, put_back, round_begun, turn_taken}
use Rattle.sq_commands.specs.Requests.{is_even_key, number_after}

-- what is before a driver

-- the turns of an open check that is not driven
abbrev pub weight : Pending → ℕ
weight p = 2 * p.more + 3

abbrev pub weights : List Pending → ℕ
weights [] = 0
weights (p ∷ ps) = weight p + weights ps

-- those of the requests that it did not begin, of the open checks that it does not drive, and of the questions
abbrev pub rest : Driver → ℕ
rest d = 30 * (d.last - d.number) + weights d.others + length d.sent

-- those that its stage has, where its check has so many turns
abbrev pub at_hand : DriverStage → ℕ → ℕ
at_hand stage.Opening m = 30
at_hand stage.Asking m = 29
at_hand stage.Stepping m = 2 * m + 4
at_hand stage.Acting m = 2 * m + 5
at_hand (stage.Starting epoch class) m = 2 * m + 4
at_hand stage.Replying m = 1
at_hand stage.Taking m = 3
at_hand stage.Closing m = 2
at_hand stage.Over m = 0

-- all of them
abbrev pub fuel : Driver → ℕ
fuel d = at_hand d.stage d.at.more + rest d

weights_more : (ps : List Pending) (p : Pending) → weights (ps ++ p ∷ []) ≡ weights ps + weight p
weights_more [] p = omega arith
weights_more (q ∷ ps) p = let more = weights_more ps p in omega (arith, more)

pub length_more : {A : Type 0} (xs : List A) (x : A) → length (xs ++ x ∷ []) ≡ suc (length xs)
length_more [] x = refl
length_more (y ∷ xs) x = ap suc (length_more xs x)

-- from check to check

pub next_low : (d : Driver) → fuel (next_request d) ≤ rest d
next_low d = by (nat_lt d.number d.last) refl
  where
    by : (b : Bool) → nat_lt d.number d.last ≡ b → fuel (if b then record d
        { stage = stage.Opening; number = d.number + 1; x = number_after d.x; in_round = false }
        else record d { stage = stage.Over; in_round = false }) ≤ rest d
    by true less = let few : d.number < d.last = grind (arith, nat_tests, less) in omega (arith, few)
    by false less = omega arith

first_low : (ps : List Pending) (d : Driver)
    → fuel (first_driven (slice_get ps 0) (record d { others = drop 1 ps }))
    ≤ 30 * (d.last - d.number) + weights ps + length d.sent + 1
first_low [] d = let low = next_low (record d { others = [] }) in omega (arith, low)
first_low (p ∷ ps) d = omega arith

driven_low : (ps : List Pending) (d : Driver)
    → fuel (driven (slice_get ps 0) (record d { left = d.left - 1; others = drop 1 ps }))
    ≤ 30 * (d.last - d.number) + weights ps + length d.sent + 1
driven_low [] d = let low = next_low (record d { left = d.left - 1; others = [] }) in omega (arith, low)
driven_low (p ∷ ps) d = omega arith

round_low : (d : Driver) → fuel (round_begun d) ≤ rest d + 1
round_low d = by (length d.sent == 0)
  where
    by : (b : Bool) → fuel (if b then checks_begun d else at_stage stage.Replying d) ≤ rest d + 1
    by true = first_low d.others d
    by false = omega arith

next_in_round_low : (d : Driver) → fuel (next_in_round d) ≤ rest d + 1
next_in_round_low d = by (length d.others == 0) (d.left == 0)
  where
    by : (b c : Bool) → fuel (if b then next_request d else (if c then round_begun d
        else driven (slice_get d.others 0) (record d { left = d.left - 1; others = drop 1 d.others }))) ≤ rest d + 1
    by true c = let low = next_low d in omega (arith, low)
    by false true = round_low d
    by false false = driven_low d.others d

after_low : (d : Driver) → fuel (after_request d) ≤ rest d + 1
after_low d = by (nat_le 4 (length d.others) || d.number == d.last)
  where
    by : (b : Bool) → fuel (if b then round_begun (record d { in_round = true }) else next_request d) ≤ rest d + 1
    by true = round_low (record d { in_round = true })
    by false = let low = next_low d in omega (arith, low)

pub onward_low : (d : Driver) → fuel (onward d) ≤ rest d + 1
onward_low d = by d.in_round
  where
    by : (b : Bool) → fuel (if b then next_in_round d else after_request d) ≤ rest d + 1
    by true = next_in_round_low d
    by false = after_low d

back_low : (d : Driver) → fuel (put_back d) ≤ rest d + (2 * d.at.more + 4)
back_low d =
    let low = onward_low (record d { others = d.others ++ d.at ∷ [] }) in
    let more = weights_more d.others d.at in
    omega (arith, low, more)

-- where a check has no turn left, it is ended
none_low : (d : Driver) → d.at.more ≡ 0 → fuel (acted d) ≤ rest d + 3
none_low d none = by d.said
  where
    none_is : (d.at.more == 0) ≡ true
    none_is = grind (arith, nat_tests, none)

    took : (b : Bool) → b ≡ true → fuel (if b then at_stage stage.Closing d else at_stage stage.Stepping d) ≤ rest d + 3
    took true is = omega arith
    took false is = absurd (cc)

    waits : (b : Bool) → b ≡ true → fuel (if b then at_stage stage.Closing d else put_back d) ≤ rest d + 3
    waits true is = omega arith
    waits false is = absurd (cc)

    done : (a b : Bool) → b ≡ true → fuel (if a || b then at_stage stage.Taking d else put_back d) ≤ rest d + 3
    done true b is = omega arith
    done false true is = omega arith
    done false false is = absurd (cc)

    by : (k : StepKind) → fuel (acted_by k d) ≤ rest d + 3
    by said.Took = took (d.at.more == 0) none_is
    by said.Waits = waits (d.at.more == 0) none_is
    by said.Done = done d.in_round (d.at.more == 0) none_is

pub acted_low : (d : Driver) → fuel (acted d) ≤ rest d + (2 * d.at.more + 4)
acted_low d = by d.said
  where
    back : fuel (put_back d) ≤ rest d + (2 * d.at.more + 4)
    back = back_low d

    took : (b : Bool) → fuel (if b then at_stage stage.Closing d else at_stage stage.Stepping d)
        ≤ rest d + (2 * d.at.more + 4)
    took true = omega arith
    took false = omega arith

    waits : (b : Bool) → fuel (if b then at_stage stage.Closing d else put_back d) ≤ rest d + (2 * d.at.more + 4)
    waits true = omega arith
    waits false = back

    done : (b : Bool) → fuel (if b then at_stage stage.Taking d else put_back d) ≤ rest d + (2 * d.at.more + 4)
    done true = omega arith
    done false = back

    by : (k : StepKind) → fuel (acted_by k d) ≤ rest d + (2 * d.at.more + 4)
    by said.Took = took (d.at.more == 0)
    by said.Waits = waits (d.at.more == 0)
    by said.Done = done (d.in_round || d.at.more == 0)

pub acting_low : (d : Driver) → fuel (acting d) ≤ rest d + (2 * d.at.more + 3)
acting_low d = by (d.at.more == 0) refl
  where
    by : (b : Bool) → (d.at.more == 0) ≡ b
        → fuel (if b then acted d else record d { stage = stage.Acting; at = turn_taken d.at })
        ≤ rest d + (2 * d.at.more + 3)
    by true is =
        let none : d.at.more ≡ 0 = grind (arith, nat_tests, is) in
        let low = none_low d none in omega (arith, low)
    by false is = let some : 0 < d.at.more = grind (arith, nat_tests, is) in omega (arith, some)

-- the turns

pub asked_low : (t : Told) (d : Driver) → fuel (asked t d) < 29 + rest d
asked_low (told.Check n) d = omega arith
asked_low t d = omega arith

pub stepped_low : (t : Told) (d : Driver) → fuel (stepped t d) < 2 * d.at.more + 4 + rest d
stepped_low t d = let low = acting_low (record d { said = said_by t }) in omega (arith, low)

pub act_low : (t : Told) (d : Driver) → fuel (act_made t d) < 2 * d.at.more + 5 + rest d
act_low (told.Start epoch class) d = omega arith
act_low (told.Send proc question channel key) d =
    let low = acting_low (record d
    { sent = d.sent ++ (record { proc = proc; channel = channel; ok = is_even_key key }) ∷ [] }) in
    let more = length_more {A = SentQuestion} d.sent (record { proc = proc; channel = channel; ok = is_even_key key })
    in
    omega (arith, low, more)
act_low t d = let low = acting_low d in omega (arith, low)

-- of questions that have no answer
fewer : (xs : List SentQuestion) → 0 < length xs → suc (length (drop 1 xs)) ≡ length xs
fewer [] some = absurd (omega (arith, some))
fewer (x ∷ xs) some = refl

pub replied_low : (d : Driver) → 0 < length d.sent → fuel (replied d) < 1 + rest d
replied_low d some =
    let low = round_low (record d { sent = drop 1 d.sent }) in
    let less = fewer d.sent some in
    omega (arith, low, less)
