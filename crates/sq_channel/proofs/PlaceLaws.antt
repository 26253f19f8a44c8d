-- Laws of the places of open questions.
use Rattle.std.proofs.Common.{◌≡◌, ℕ, suc, ◌≤◌, ◌<◌, List, [], ◌∷◌, length, map, get_or, Bool, true, false, ◌==◌, if◌then◌else◌, nat_lt, Some, None, is_some, refl, arith, ap, ◌∙◌, sym, subst}
use Rattle.std.specs.declared.option.Option.{Option}
use Rattle.std.specs.List.{insert, remove}
use Rattle.std.proofs.lemmas.Bool.{le-ltb, lt-ltb, ltb-true}
use Rattle.sq_machine.specs.Rising.{AreAbove, Rises, place_among, times_of}
use Rattle.sq_channel.specs.Indexes.{channel_in, place_question}
use Rattle.sq_channel.specs.declared.questions.Slot.{Slot}
use Rattle.sq_channel.proofs.RisingLaws.{if_false, if_true}

-- a question without a channel is not among them
pub not_placed : (q : ℕ) (ps : List Slot) → channel_in q ps ≡ None → times_of q (map place_question ps) ≡ 0
not_placed q [] e = refl
not_placed q (p ∷ ps) e = by_test (q == p.question) (not_placed q ps) e
  where
    by_test : (b : Bool) → (channel_in q ps ≡ None → times_of q (map place_question ps) ≡ 0)
        → (if b then Some p.channel else channel_in q ps) ≡ None
        → (if b then suc (times_of q (map place_question ps)) else times_of q (map place_question ps)) ≡ 0
    by_test true more e = cc
    by_test false more e = more e

-- a question more
pub channel_noted : (k q n : ℕ) (ps : List Slot)
    → channel_in k (insert ps (place_among q (map place_question ps)) (record { question = q; channel = n }))
    ≡ (if k == q then Some n else channel_in k ps)
channel_noted k q n [] = refl
channel_noted k q n (p ∷ ps) = by_test (nat_lt p.question q) (channel_noted k q n ps) refl
  where
    new : Slot
    new = record { question = q; channel = n }

    both : p.question < q → (k == p.question) ≡ true → (k == q) ≡ true → ⊥
    both l a b = grind (arith, l, a, b)

    step : (b d : Bool) (with old : Option ℕ) → (b ≡ true → d ≡ true → ⊥) → with ≡ (if d then Some n else old)
        → (if b then Some p.channel else with) ≡ (if d then Some n else (if b then Some p.channel else old))
    step true true with old m e = absurd (m refl refl)
    step true false with old m e = refl
    step false d with old m e = e

    by_test : (b : Bool) → channel_in k (insert ps (place_among q (map place_question ps)) new)
        ≡ (if k == q then Some n else channel_in k ps) → nat_lt p.question q ≡ b
        → channel_in k (insert (p ∷ ps) (if b then suc (place_among q (map place_question ps)) else 0) new)
        ≡ (if k == q then Some n else channel_in k (p ∷ ps))
    by_test true more e = step (k == p.question) (k == q)
        (channel_in k (insert ps (place_among q (map place_question ps)) new)) (channel_in k ps)
        (λ a b. both (ltb-true p.question q e) a b) more
    by_test false more e = refl

-- questions above k are not k, nor below it
none_above : (j k : ℕ) (ps : List Slot) → j ≤ k → AreAbove k (map place_question ps) → channel_in j ps ≡ None
none_above j k [] le a = refl
none_above j k (p ∷ ps) le a = if_false (j == p.question) (Some p.channel) (channel_in j ps)
    (apart j p.question (omega (arith, a.0))) ∙ none_above j k ps le a.1
  where
    apart : (a b : ℕ) → a < b → (a == b) ≡ false
    apart a b l = grind (arith, l)

above_some : (k q : ℕ) (ps : List Slot) → AreAbove k (map place_question ps) → is_some (channel_in q ps) ≡ true → k < q
above_some k q [] a e = cc
above_some k q (p ∷ ps) a e = by_test (q == p.question) (above_some k q ps a.1) refl
  where
    equal : (a b : ℕ) → (a == b) ≡ true → a ≡ b
    equal a b e = grind (arith, e)

    by_test : (b : Bool) → (is_some (channel_in q ps) ≡ true → k < q) → (q == p.question) ≡ b → k < q
    by_test true more y = rw (equal q p.question y) a.0
    by_test false more y = more (sym (ap is_some (if_false (q == p.question) (Some p.channel) (channel_in q ps) y)) ∙ e)

-- a question that is among them, at its place, and what is left without it
pub record Found (q : ℕ) (ps : List Slot) (i : ℕ) : Type 0 where
  pub within : i < length ps
  pub channel : (d : Slot) → Some (get_or ps i d).channel ≡ channel_in q ps
  pub left : (k : ℕ) → channel_in k (remove ps i) ≡ (if k == q then None else channel_in k ps)
  pub above : (k : ℕ) → AreAbove k (map place_question ps) → AreAbove k (map place_question (remove ps i))
  pub rises : Rises (map place_question (remove ps i))

pub found : (q : ℕ) (ps : List Slot) → Rises (map place_question ps) → is_some (channel_in q ps) ≡ true
    → Found q ps (place_among q (map place_question ps))
found q [] r e = cc
found q (p ∷ ps) r e = by_test (q == p.question) (found q ps r.1) refl
  where
    equal : (a b : ℕ) → (a == b) ≡ true → a ≡ b
    equal a b e = grind (arith, e)

    here : q ≡ p.question → (q == p.question) ≡ true → Found q (p ∷ ps) 0
    here same y = record {
      within = omega arith;
      channel = λ d. sym (if_true (q == p.question) (Some p.channel) (channel_in q ps) y);
      left = λ k. gone k;
      above = λ k a. a.1;
      rises = r.1;
    }
      where
        gone : (k : ℕ) → channel_in k ps ≡ (if k == q then None else channel_in k (p ∷ ps))
        gone k = by_both (k == q) (k == p.question) refl (apart_both k q p.question same)
          where
            apart_both : (k q n : ℕ) → q ≡ n → (k == q) ≡ (k == n)
            apart_both k q n e = ap (λ m. k == m) e

            by_both : (b d : Bool) → (k == q) ≡ b → b ≡ d
                → channel_in k ps ≡ (if b then None else (if d then Some p.channel else channel_in k ps))
            by_both true d is e = none_above k p.question ps (grind (arith, equal k q is, same)) r.0
            by_both false true is e = cc
            by_both false false is e = refl

    behind : (q == p.question) ≡ false → p.question < q → Found q ps (place_among q (map place_question ps))
        → Found q (p ∷ ps) (suc (place_among q (map place_question ps)))
    behind y l f = record {
      within = omega (arith, f.within);
      channel = λ d. f.channel d ∙ sym (if_false (q == p.question) (Some p.channel) (channel_in q ps) y);
      left = λ k. left_by (k == p.question) (k == q) (channel_in k (remove ps (place_among q (map place_question ps))))
          (channel_in k ps) (λ a b. both k l a b) (f.left k);
      above = λ k a. (a.0, f.above k a.1);
      rises = (f.above p.question r.0, f.rises);
    }
      where
        both : (k : ℕ) → p.question < q → (k == p.question) ≡ true → (k == q) ≡ true → ⊥
        both k l a b = grind (arith, l, a, b)

        left_by : (b d : Bool) (new old : Option ℕ) → (b ≡ true → d ≡ true → ⊥) → new ≡ (if d then None else old)
            → (if b then Some p.channel else new) ≡ (if d then None else (if b then Some p.channel else old))
        left_by true true new old m e = absurd (m refl refl)
        left_by true false new old m e = refl
        left_by false d new old m e = e

    by_test : (b : Bool) → (is_some (channel_in q ps) ≡ true → Found q ps (place_among q (map place_question ps)))
        → (q == p.question) ≡ b → Found q (p ∷ ps) (place_among q (map place_question (p ∷ ps)))
    by_test true more y = subst (Found q (p ∷ ps))
        (sym (if_false (nat_lt p.question q) (suc (place_among q (map place_question ps))) 0
        (le-ltb p.question q (grind (arith, equal q p.question y))))) (here (equal q p.question y) y)
    by_test false more y =
        let some = sym (ap is_some (if_false (q == p.question) (Some p.channel) (channel_in q ps) y)) ∙ e in
        let l = above_some p.question q ps r.0 some in
        subst (Found q (p ∷ ps))
        (sym (if_true (nat_lt p.question q) (suc (place_among q (map place_question ps))) 0 (lt-ltb p.question q l)))
        (behind y l (more some))
