-- Pieces of a body that are taken.
use Rattle.std.proofs.Common.{◌≡◌, ℕ, ◌+◌, ◌-◌, ◌<◌, ◌≤◌, Bool, true, false, ◌==◌, nat_lt, min, List, [], ◌∷◌, ◌++◌, length, get_or, take, drop, refl, sym, ap, subst, ◌∙◌, arith, append-nil, append_assoc, take-append-drop, length-append, length-take, length-drop}
use Rattle.std.proofs.lemmas.List.{length-take-le, drop-drop, drop_all}
use Rattle.httparse.specs.Grammar.{HasNoChunkLine}
use Rattle.sq_message.specs.declared.body_state.BodyState.{BodyState}
use Rattle.sq_message.specs.declared.body_state.BodyState.TheVariants.{Plain, Open, Line, Data, Feed, Trailer, Done, Refused}
use Rattle.sq_message.specs.declared.chunk_line.LineRead.TheVariants as read
use Rattle.sq_message.specs.Bodies.{line_limit, crlf, framed, ByteStep, sized, step, is_whole_body, is_refused, kept_bytes, Walk, after, halted, walk}
use Rattle.sq_message.specs.ChunkLines.{chunk_line_walk, chunk_line_of}
use Rattle.sq_message.specs.Feeding.{may_be_whole, is_sound_line, is_sound, TakesFront, Feeds, Spoils, WroteOfBody}
use Rattle.sq_message.specs.LineReads.{LineReads}
use Rattle.sq_message.proofs.BodyLaws.{after_after, walk_one, walk_none, walk_refused, walk_done, copy_plain, copy_open, copy_data, stood, line_still, none_whole, may_open, never_shut, never_none, LineTaken, line_taken}

-- some bytes that go out as they are
pub plain_takes : (c : Bool) (n k : ℕ) (rest before now : List ℕ) → is_whole_body (Plain n) ≡ false → 0 < length rest
    → k ≡ min n (length rest) → now ≡ before ++ take k rest
    → TakesFront c (Plain n) rest (Plain (n - k)) k before now
plain_takes c n k rest before now going some is wrote =
    let pos : 0 < n = grind arith in
    let len : length (take k rest) ≡ k = length-take-le k rest (omega arith) in
    record {
      grown = take k rest;
      wrote = wrote;
      some = omega arith;
      within = omega arith;
      walks =
          ap (walk c (Plain n)) (sym (take-append-drop k rest))
          ∙ copy_plain c (take k rest) (drop k rest) n (omega arith)
          ∙ ap (λ j. after (take k rest) (walk c (Plain (n - j)) (drop k rest))) len;
      sound = refl;
    }

-- the same in a chunk
pub data_takes : (c : Bool) (n k : ℕ) (rest before now : List ℕ) → 0 < n → 0 < length rest → k ≡ min n (length rest)
    → now ≡ before ++ take k rest
    → TakesFront c (Data n) rest (Data (n - k)) k before now
data_takes c n k rest before now pos some is wrote =
    let len : length (take k rest) ≡ k = length-take-le k rest (omega arith) in
    record {
      grown = take k rest;
      wrote = wrote;
      some = omega arith;
      within = omega arith;
      walks =
          ap (walk c (Data n)) (sym (take-append-drop k rest)) ∙ copy_data c (take k rest) (drop k rest) n (omega arith)
          ∙ ap (λ j. after (take k rest) (walk c (Data (n - j)) (drop k rest))) len;
      sound = refl;
    }

-- the same up to the close
pub open_takes : (c : Bool) (n k : ℕ) (rest before now : List ℕ) → 0 < n → 0 < length rest → k ≡ min n (length rest)
    → now ≡ before ++ take k rest
    → TakesFront c Open rest Open k before now
open_takes c n k rest before now pos some is wrote =
    record {
      grown = take k rest;
      wrote = wrote;
      some = omega arith;
      within = omega arith;
      walks = ap (walk c Open) (sym (take-append-drop k rest)) ∙ copy_open c (take k rest) (drop k rest);
      sound = refl;
    }

first_cons : (rest : List ℕ) → 0 < length rest → rest ≡ get_or rest 0 0 ∷ drop 1 rest
first_cons [] some = absurd (omega arith)
first_cons (b ∷ bs) some = refl

-- one byte
pub one_takes : (c : Bool) (p : BodyState) (rest : List ℕ) (q : BodyState) (g before now : List ℕ)
    → is_whole_body p ≡ false → is_refused p ≡ false → 0 < length rest
    → step c p (get_or rest 0 0) ≡ record { place = q; out = g } → now ≡ before ++ g → is_sound q ≡ true
    → TakesFront c p rest q 1 before now
one_takes c p rest q g before now d r some at wrote sound =
    let cons = first_cons rest some in
    record {
      grown = g;
      wrote = wrote;
      some = omega arith;
      within = omega arith;
      walks = ap (walk c p) cons ∙ walk_one c p (get_or rest 0 0) (drop 1 rest) d r
          ∙ ap (λ s. after (ByteStep.out s) (walk c (ByteStep.place s) (drop 1 rest))) at;
      sound = sound;
    }

opened : (text : List ℕ) → is_sound_line text ≡ true → may_be_whole (chunk_line_of text) ≡ true
opened text h = grind arith

roomy : (text : List ℕ) → is_sound_line text ≡ true → length text < line_limit
roomy text h = grind arith

-- a whole line
pub line_whole_taken : (c : Bool) (text rest : List ℕ) (count len size : ℕ) → is_sound_line text ≡ true
    → 0 < length rest → count ≡ min (length rest) (line_limit - length text)
    → LineReads (text ++ take count rest) (read.Whole len size) → LineTaken c text rest len size
line_whole_taken c text rest count len size h some is (l, at) =
    let room = roomy text h in
    line_taken c text rest count len size l (opened text h)
    at (omega (arith, room, length-append text (take count rest), length-take count rest))

-- where a whole line leads
pub whole_takes : (c : Bool) (text rest : List ℕ) (len size : ℕ) (q : BodyState) (before now : List ℕ)
    → LineTaken c text rest len size
    → q ≡ (sized c size).place → now ≡ before ++ (sized c size).out → is_sound q ≡ true
    → TakesFront c (Line text) rest q (len - length text) before now
whole_takes c text rest len size q before now t e wrote sound =
    record {
      grown = (sized c size).out;
      wrote = wrote;
      some = omega (arith, t.past);
      within = t.within;
      walks = t.walks ∙ ap (λ p. after (sized c size).out (walk c p (drop (len - length text) rest))) (sym e);
      sound = sound;
    }

still_takes_by : (c : Bool) (text rest : List ℕ) (count : ℕ) (q : BodyState) (before : List ℕ)
    → 0 < length (take count rest) → count ≤ length rest
    → (b : ℕ) (bs : List ℕ) → take count rest ≡ b ∷ bs
    → walk c (Line text) (b ∷ bs ++ drop count rest) ≡ walk c q (drop count rest)
    → is_sound q ≡ true → TakesFront c (Line text) rest q count before before
still_takes_by c text rest count q before some within b bs e walks sound =
    record {
      grown = [];
      wrote = sym (append-nil before);
      some = omega (arith, some, length-take count rest);
      within = within;
      walks = ap (walk c (Line text)) (sym (take-append-drop count rest) ∙ ap (λ p. p ++ drop count rest) e) ∙ walks;
      sound = sound;
    }

still_piece : (c : Bool) (text rest : List ℕ) (count : ℕ) (q : BodyState) (before : List ℕ) → is_sound_line text ≡ true
    → 0 < length rest → count ≡ min (length rest) (line_limit - length text)
    → HasNoChunkLine (text ++ take count rest) → stood (text ++ take count rest) ≡ q → is_sound q ≡ true
    → (piece : List ℕ) → take count rest ≡ piece → TakesFront c (Line text) rest q count before before
still_piece c text rest count q before h some is none stands sound [] e =
    absurd (omega (arith, roomy text h, ap length e, length-take count rest))
still_piece c text rest count q before h some is none stands sound (b ∷ bs) e =
    let room : length (text ++ b ∷ bs) ≤ line_limit =
    omega (arith, roomy text h, length-append text (b ∷ bs), ap length e, length-take count rest) in
    let walks = line_still c text b bs (drop count rest)
    (none_whole text (b ∷ bs) (subst (λ p. HasNoChunkLine (text ++ p)) e none)) room in
    still_takes_by c text rest count q before (omega (arith, roomy text h, length-take count rest)) (omega arith) b bs e
    (walks ∙ ap (λ p. walk c (stood (text ++ p)) (drop count rest)) (sym e)
    ∙ ap (λ t. walk c t (drop count rest)) stands) sound

-- a line that is not whole: it stands where it may become one and there is room
pub line_takes : (c : Bool) (text rest : List ℕ) (count : ℕ) (before : List ℕ) → is_sound_line text ≡ true
    → 0 < length rest → count ≡ min (length rest) (line_limit - length text)
    → LineReads (text ++ take count rest) read.NotYet → length (text ++ take count rest) < line_limit
    → TakesFront c (Line text) rest (Line (text ++ take count rest)) count before before
unfolding stood
line_takes c text rest count before h some is (none, may) room =
    let op = may_open (text ++ take count rest) none may in
    let test : nat_lt (length (text ++ take count rest)) line_limit ≡ true = grind arith in
    let sound : is_sound_line (text ++ take count rest) ≡ true = rw op (rw test refl) in
    still_piece c text rest count (Line (text ++ take count rest)) before h some is none (rw sound refl) sound
    (take count rest) refl

-- the same where there is no room
pub full_takes : (c : Bool) (text rest : List ℕ) (count : ℕ) (before : List ℕ) → is_sound_line text ≡ true
    → 0 < length rest → count ≡ min (length rest) (line_limit - length text)
    → LineReads (text ++ take count rest) read.NotYet → (length (text ++ take count rest) < line_limit → ⊥)
    → TakesFront c (Line text) rest Refused count before before
unfolding stood
full_takes c text rest count before h some is (none, may) room =
    let test : nat_lt (length (text ++ take count rest)) line_limit ≡ false = grind arith in
    let op = may_open (text ++ take count rest) none may in
    let shut : is_sound_line (text ++ take count rest) ≡ false = rw op (rw test refl) in
    still_piece c text rest count Refused before h some is none (rw shut refl) refl (take count rest) refl

-- bytes that never become a line
pub never_takes : (c : Bool) (text rest : List ℕ) (count : ℕ) (before : List ℕ) → is_sound_line text ≡ true
    → 0 < length rest → count ≡ min (length rest) (line_limit - length text)
    → LineReads (text ++ take count rest) read.Never → TakesFront c (Line text) rest Refused count before before
unfolding stood
never_takes c text rest count before h some is never =
    let op = never_shut (text ++ take count rest) never in
    let shut : is_sound_line (text ++ take count rest) ≡ false = rw op refl in
    still_piece c text rest count Refused before h some is (never_none (text ++ take count rest) never) (rw shut refl)
    refl (take count rest) refl

-- how far a walk was taken
pub record Went (c : Bool) (p : BodyState) (input : List ℕ) (q : BodyState) (at : ℕ)
    (before now : List ℕ) : Type 0 where
  pub grown : List ℕ
  pub wrote : now ≡ before ++ grown
  pub within : at ≤ length input
  pub walks : walk c p input ≡ after grown (walk c q (drop at input))
  pub sound : is_sound q ≡ true

-- before the first byte
pub went_none : (c : Bool) (p : BodyState) (input before : List ℕ) → is_sound p ≡ true
    → Went c p input p 0 before before
went_none c p input before h = record {
  grown = [];
  wrote = sym (append-nil before);
  within = omega arith;
  walks = refl;
  sound = h;
}

-- behind some bytes, some more
pub went_on : (c : Bool) (p q r : BodyState) (input : List ℕ) (at n : ℕ) (a b d : List ℕ) → Went c p input q at a b
    → TakesFront c q (drop at input) r n b d → Went c p input r (at + n) a d
went_on c p q r input at n a b d w t =
    record {
      grown = w.grown ++ t.grown;
      wrote = t.wrote ∙ ap (λ x. x ++ t.grown) w.wrote ∙ append_assoc a w.grown t.grown;
      within = omega (arith, w.within, t.within, length-drop at input);
      walks = w.walks ∙ ap (after w.grown) t.walks ∙ after_after w.grown t.grown (walk c r (drop n (drop at input)))
          ∙ ap (λ i. after (w.grown ++ t.grown) (walk c r i)) (drop-drop n at input);
      sound = t.sound;
    }

whole_of : (w : Walk) (g : List ℕ) (p : BodyState) (bs : List ℕ) → w ≡ after g (halted p bs)
    → w ≡ record { place = p; out = g; rest = bs }
whole_of w g p bs e = e ∙ ap (λ o. record { place = p; out = o; rest = bs }) (append-nil g)

-- for a return at the end of the body
pub fed_done : (c : Bool) (p q : BodyState) (input : List ℕ) (at : ℕ) (a b : List ℕ) → Went c p input q at a b
    → is_whole_body q ≡ true → is_refused q ≡ false → Feeds c p input q at true a b
fed_done c p q input at a b w d r =
    record {
      grown = w.grown;
      wrote = w.wrote;
      within = w.within;
      walks = whole_of _ w.grown q (drop at input) (w.walks ∙ ap (after w.grown) (walk_done c q (drop at input) d));
      done = sym d;
      going = r;
    }

-- for a return at the end of the input
pub fed_all : (c : Bool) (p q : BodyState) (input : List ℕ) (at : ℕ) (a b : List ℕ) → Went c p input q at a b
    → at ≡ length input → is_whole_body q ≡ false → is_refused q ≡ false → Feeds c p input q at false a b
fed_all c p q input at a b w e d r =
    let none : drop at input ≡ [] = drop_all at input (omega arith) in
    record {
      grown = w.grown;
      wrote = w.wrote;
      within = w.within;
      walks = whole_of _ w.grown q (drop at input)
          (w.walks ∙ ap (λ i. after w.grown (walk c q i)) none ∙ ap (after w.grown) (walk_none c q)
          ∙ ap (λ i. after w.grown (halted q i)) (sym none));
      done = sym d;
      going = r;
    }

-- for a return at a refusal
pub fed_bad : (c : Bool) (p q : BodyState) (input : List ℕ) (at : ℕ) (a b : List ℕ) → Went c p input q at a b
    → q ≡ Refused → Spoils c p input q a b
fed_bad c p q input at a b w e =
    record {
      grown = w.grown;
      wrote = w.wrote;
      place = e;
      walks = whole_of _ w.grown Refused []
          (w.walks ∙ ap (λ r. after w.grown (walk c r (drop at input))) e
          ∙ ap (after w.grown) (walk_refused c (drop at input)));
    }

-- for a return at any point: a front was written
pub fed_part : (c : Bool) (p q : BodyState) (input : List ℕ) (at : ℕ) (a b : List ℕ) → Went c p input q at a b
    → WroteOfBody c p input a b
fed_part c p q input at a b w = record {
  grown = w.grown;
  more = (walk c q (drop at input)).out;
  wrote = w.wrote;
  gives = ap Walk.out w.walks;
}

-- a line of which nothing came
pub holds_fresh : is_sound (Line []) ≡ true
unfolding chunk_line_walk
holds_fresh = refl

-- CR behind a chunk
pub cr_step : (c : Bool) (n b : ℕ) → n ≡ 0 → b ≡ 13 → step c (Data n) b ≡ record { place = Feed; out = [] }
cr_step c n b z e = ap (λ m. step c (Data m) b) z ∙ ap (step c (Data 0)) e

-- no CR behind a chunk
pub no_cr_step : (c : Bool) (n b : ℕ) → n ≡ 0 → (b ≡ 13 → ⊥) → step c (Data n) b ≡ record { place = Refused; out = [] }
no_cr_step c n b z e = let no : (b == 13) ≡ false = grind arith in ap (λ m. step c (Data m) b) z ∙ rw no refl

-- LF behind that CR
pub lf_step : (c : Bool) (b : ℕ) → b ≡ 10 → step c Feed b ≡ record { place = Line []; out = framed c crlf }
lf_step c b e = ap (step c Feed) e

-- no LF behind that CR
pub no_lf_step : (c : Bool) (b : ℕ) → (b ≡ 10 → ⊥) → step c Feed b ≡ record { place = Refused; out = [] }
no_lf_step c b e = let no : (b == 10) ≡ false = grind arith in rw no refl

-- the test for a refusal tells the place
pub refused_is : (p : BodyState) → is_refused p ≡ true → p ≡ Refused
refused_is (Plain n) h = absurd cc
refused_is Open h = absurd cc
refused_is (Line text) h = absurd cc
refused_is (Data n) h = absurd cc
refused_is Feed h = absurd cc
refused_is (Trailer n m) h = absurd cc
refused_is Done h = absurd cc
refused_is Refused h = refl

-- what is complete is not refused
pub done_going : (p : BodyState) → is_whole_body p ≡ true → is_refused p ≡ false
done_going (Plain n) h = refl
done_going Open h = refl
done_going (Line text) h = refl
done_going (Data n) h = refl
done_going Feed h = refl
done_going (Trailer n m) h = refl
done_going Done h = refl
done_going Refused h = absurd cc

-- what a cursor keeps is below the limit of a chunk line
pub kept_few : (p : BodyState) → is_sound p ≡ true → kept_bytes p ≤ line_limit
kept_few (Plain n) h = omega arith
kept_few Open h = omega arith
kept_few (Line text) h = omega (arith, roomy text h)
kept_few (Data n) h = omega arith
kept_few Feed h = omega arith
kept_few (Trailer n m) h = omega arith
kept_few Done h = omega arith
kept_few Refused h = omega arith
