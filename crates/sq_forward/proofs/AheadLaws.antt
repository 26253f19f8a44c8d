-- Bytes that are read behind others.
use Rattle.std.proofs.Common.{◌≡◌, ℕ, ◌+◌, ◌-◌, ◌≤◌, List, ◌++◌, take, drop, Option, Some, None, IfSome, IfNone, sym, ap, subst, ◌∙◌, arith, append_assoc, append-nil}
use Rattle.std.proofs.lemmas.List.{drop-drop, drop-take}
use Rattle.std.proofs.Math.Seq.{take-add}
use Rattle.std.specs.Io.KnownBytes.{Consumes, Keeps, prepend_known}

grown_by : (s d n : ℕ) (old now ahead : List ℕ) → take (s + d) now ≡ take (s + d) old → take d (drop s old) ≡ ahead
    → take (d + n) (drop s now) ≡ ahead ++ take n (drop (s + d) now)
grown_by s d n old now ahead same is =
    take-add d n (drop s now)
    ∙ ap (λ t. t ++ take n (drop d (drop s now))) (sym (drop-take s d now) ∙ ap (drop s) same ∙ drop-take s d old ∙ is)
    ∙ ap (λ t. ahead ++ take n t) (drop-drop d s now ∙ ap (λ k. drop k now) (omega arith))

-- the bytes from s to e, and n more that were written behind them
pub grown : (s e n : ℕ) (old now ahead : List ℕ) → s ≤ e → take e now ≡ take e old → take (e - s) (drop s old) ≡ ahead
    → take (e + n - s) (drop s now) ≡ ahead ++ take n (drop e now)
grown s e n old now ahead h same is =
    let at : s + (e - s) ≡ e = omega (arith, h) in
    let same_at : take (s + (e - s)) now ≡ take (s + (e - s)) old = ap (λ k. take k now) at ∙ same
    ∙ ap (λ k. take k old) (sym at) in
    ap (λ k. take k (drop s now)) (omega (arith, h)) ∙ grown_by s (e - s) n old now ahead same_at is
    ∙ ap (λ k. ahead ++ take n (drop k now)) at

-- the same, where nothing was written
pub stood : (s e : ℕ) (old now ahead : List ℕ) → s ≤ e → take e now ≡ take e old → take (e - s) (drop s old) ≡ ahead
    → take (e - s) (drop s now) ≡ ahead
stood s e old now ahead h same is = ap (λ k. take k (drop s now)) (omega (arith, h))
    ∙ grown s e 0 old now ahead h same is ∙ append-nil ahead

-- the bytes ahead and those to come stay the same
pub keeps_grown : (ahead now got : List ℕ) (a b : Option (List ℕ)) → now ≡ ahead ++ got → Consumes a b got
    → Keeps (prepend_known ahead a) (prepend_known now b)
keeps_grown ahead now got None b e h = tt
keeps_grown ahead now got (Some xs) None e h = absurd h
keeps_grown ahead now got (Some xs) (Some ys) e h = ap (λ l. l ++ ys) e ∙ append_assoc ahead got ys
    ∙ ap (λ l. ahead ++ l) (sym h)

pub keeps_stood : (ahead now : List ℕ) (a b : Option (List ℕ)) → now ≡ ahead → Keeps a b
    → Keeps (prepend_known ahead a) (prepend_known now b)
keeps_stood ahead now None b e h = tt
keeps_stood ahead now (Some xs) None e h = absurd h
keeps_stood ahead now (Some xs) (Some ys) e h = ap (λ l. l ++ ys) e ∙ ap (λ l. ahead ++ l) h

-- nothing was read
pub keeps_as : (ahead now : List ℕ) (a : Option (List ℕ)) → now ≡ ahead
    → Keeps (prepend_known ahead a) (prepend_known now a)
keeps_as ahead now None e = tt
keeps_as ahead now (Some xs) e = ap (λ l. l ++ xs) e

-- some of the bytes are dropped at their front
pub dropped : (s e n : ℕ) (bytes ahead : List ℕ) → s ≤ e → n ≤ e - s → take (e - s) (drop s bytes) ≡ ahead
    → take (e - (s + n)) (drop (s + n) bytes) ≡ drop n ahead
dropped s e n bytes ahead h within is =
    let cut : n + (e - s - n) ≡ e - s = omega (arith, h, within) in
    ap (λ k. take k (drop (s + n) bytes)) (omega (arith, h, within))
    ∙ ap (take (e - s - n)) (sym (drop-drop n s bytes ∙ ap (λ k. drop k bytes) (omega arith)))
    ∙ sym (drop-take n (e - s - n) (drop s bytes))
    ∙ ap (λ k. drop n (take k (drop s bytes))) cut ∙ ap (drop n) is

-- what holds of a count that came
pub of_some : (P : ℕ → Type 0) {came : Option ℕ} {n : ℕ} → came ≡ Some n → IfSome came P → P n
of_some P is h = subst (λ o. IfSome o P) is h

-- what holds where none came
pub of_none : (P : Type 0) {came : Option ℕ} → came ≡ None → IfNone came P → P
of_none P is h = subst (λ o. IfNone o P) is h
