-- Data that goes out as it is.
use Rattle.std.proofs.Common.{◌≡◌, ℕ, ◌-◌, ◌<◌, ◌≤◌, Bool, true, false, ◌==◌, min, List, [], ◌∷◌, length, take, drop, refl, sym, ap, ◌∙◌, arith, append-nil, take-append-drop, length-drop}
use Rattle.std.proofs.lemmas.List.{length-take-le}
use Rattle.sq_message.specs.declared.body_state.BodyState.{BodyState}
use Rattle.sq_message.specs.declared.body_state.BodyState.TheVariants.{Plain, Open, Data}
use Rattle.sq_message.specs.Bodies.{is_whole_body, is_refused, after, halted, walk}
use Rattle.sq_message.specs.Feeding.{Feeds, Passes}
use Rattle.sq_message.proofs.BodyLaws.{walk_none, walk_done, copy_plain, copy_open, copy_data}

-- where the body or the input is at its end nothing more is taken
stops : (c : Bool) (q : BodyState) (rest : List ℕ) → (t : Bool) → is_whole_body q ≡ t → (t ≡ false → rest ≡ [])
    → walk c q rest ≡ halted q rest
stops c q rest true done over = walk_done c q rest done
stops c q rest false done over = ap (walk c q) (over refl) ∙ walk_none c q ∙ ap (halted q) (sym (over refl))

-- all of the front was taken
feeds_front : (c : Bool) (p q : BodyState) (input : List ℕ) (n : ℕ) → n ≤ length input
    → walk c p input ≡ after (take n input) (walk c q (drop n input)) → is_refused q ≡ false
    → (is_whole_body q ≡ false → drop n input ≡ []) → Feeds c p input q n (is_whole_body q) [] (take n input)
feeds_front c p q input n within walks fine over = record {
  grown = take n input;
  wrote = refl;
  within = within;
  walks = walks ∙ ap (after (take n input)) (stops c q (drop n input) (is_whole_body q) refl over)
      ∙ ap (λ o. record { place = q; out = o; rest = drop n input }) (append-nil (take n input));
  done = refl;
  going = fine;
}

none_left : (n : ℕ) (input : List ℕ) → length input ≤ n → drop n input ≡ []
none_left n input h = no_length (drop n input) (omega (arith, h, length-drop n input))
  where
    no_length : (xs : List ℕ) → length xs ≡ 0 → xs ≡ []
    no_length [] e = refl
    no_length (x ∷ xs) e = absurd (omega (arith, e))

pub plain_passes : (left n : ℕ) (input : List ℕ) → n ≡ min (length input) left
    → Passes (Plain left) input (Plain (left - n)) n
plain_passes left n input is = record {
  fed = λ c.
      let len : length (take n input) ≡ n = length-take-le n input (omega (arith, is)) in
      feeds_front c (Plain left) (Plain (left - n)) input n (omega (arith, is))
      (ap (walk c (Plain left)) (sym (take-append-drop n input))
      ∙ copy_plain c (take n input) (drop n input) left (omega (arith, is, len))
      ∙ ap (λ j. after (take n input) (walk c (Plain (left - j)) (drop n input))) len)
      refl (λ more. none_left n input (at_end left n input more is));
  sound = refl;
}
  where
    at_end : (left n : ℕ) (input : List ℕ) → ((left - n) == 0) ≡ false → n ≡ min (length input) left → length input ≤ n
    at_end left n input more is = let some : 0 < left - n = grind arith in omega (arith, is, some)

pub open_passes : (input : List ℕ) → Passes Open input Open (length input)
open_passes input = record {
  fed = λ c.
      feeds_front c Open Open input (length input) (omega arith)
      (ap (walk c Open) (sym (take-append-drop (length input) input))
      ∙ copy_open c (take (length input) input) (drop (length input) input))
      refl (λ more. none_left (length input) input (omega arith));
  sound = refl;
}

pub data_passes : (left : ℕ) (input : List ℕ) → length input ≤ left
    → Passes (Data left) input (Data (left - length input)) (length input)
data_passes left input within = record {
  fed = λ c.
      let n = length input in
      let len : length (take n input) ≡ n = length-take-le n input (omega arith) in
      feeds_front c (Data left) (Data (left - n)) input n (omega arith)
      (ap (walk c (Data left)) (sym (take-append-drop n input))
      ∙ copy_data c (take n input) (drop n input) left (omega (arith, within, len))
      ∙ ap (λ j. after (take n input) (walk c (Data (left - j)) (drop n input))) len)
      refl (λ more. none_left n input (omega arith));
  sound = refl;
}
