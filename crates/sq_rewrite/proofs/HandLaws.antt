-- What was handed out, half by half, and what follows of it.
use Rattle.std.proofs.Common.{◌≡◌, ◌+◌, List, [], ◌∷◌, ◌++◌, Bool, true, false, length, refl, sym, ap, ◌∙◌, append_assoc, arith, length-append}
use Rattle.std.proofs.lemmas.List.{append-nil}
use Rattle.sq_outside.specs.Causes.{Rose, raised}
use Rattle.sq_rewrite.specs.PumpRounds.{HandsOut, counted, counted_if}
use Rattle.sq_rewrite.specs.Pumps.{RewritePumpView}
use Rattle.sq_rewrite.specs.declared.half_counts.HalfCounts.{HalfCounts}
use Rattle.sq_rewrite.specs.declared.unread.UnreadHalf.{UnreadHalf}

-- the last ones of the halves were given to keepers, each of them is counted, and nothing else changed
pub record Gives {P Q : Type 0} (before : RewritePumpView P Q) (had : HalfCounts) (now : RewritePumpView P Q)
    (has : HalfCounts) : Type 0 where
  pub given : List (UnreadHalf P)
  pub held : before.readers ≡ now.readers ++ given
  pub given_is : has.given ≡ counted given had.given
  pub refused_is : has.refused ≡ had.refused
  pub same : now ≡ record before { readers = now.readers; room = now.room }

-- with the halves that another one has to be read
abbrev pub with_readers : {P Q : Type 0} → RewritePumpView P Q → RewritePumpView P Q → RewritePumpView P Q
with_readers now before = record before { readers = now.readers; room = now.room }

-- none so far
pub gives_none : {P Q : Type 0} (pump : RewritePumpView P Q) (counts : HalfCounts) → Gives pump counts pump counts
gives_none pump counts = record {
  given = [];
  held = sym (append-nil pump.readers);
  given_is = refl;
  refused_is = refl;
  same = refl;
}

-- one more
pub gives_more : {P Q : Type 0} (before mid now : RewritePumpView P Q) (had then has : HalfCounts)
    (half : UnreadHalf P) → Gives before had mid then → mid.readers ≡ now.readers ++ half ∷ []
    → now ≡ record mid { readers = now.readers; room = now.room } → has.given ≡ raised then.given
    → has.refused ≡ then.refused → Gives before had now has
gives_more before mid now had then has half gives popped same given refused = record {
  given = half ∷ gives.given;
  held = gives.held ∙ ap (λ l. l ++ gives.given) popped ∙ append_assoc now.readers (half ∷ []) gives.given;
  given_is = given ∙ ap raised gives.given_is;
  refused_is = refused ∙ gives.refused_is;
  same = same ∙ ap (with_readers now) gives.same;
}

-- all of them
pub gives_all : {P Q : Type 0} (before mid now : RewritePumpView P Q) (had then has : HalfCounts)
    → Gives before had mid then → mid.readers ≡ [] → now ≡ mid → has ≡ then → HandsOut before had false now has
gives_all before mid now had then has gives none stays counts = record {
  given = gives.given;
  halves = (gives.held ∙ ap (λ l. l ++ gives.given) none, ap (λ v. v.readers) stays ∙ none);
  given_is = ap (λ c. c.given) counts ∙ gives.given_is;
  refused_is = ap (λ c. c.refused) counts ∙ gives.refused_is;
  same = stays ∙ gives.same ∙ ap (λ v. with_readers v before) (sym stays);
}

-- all behind one, in whose place one came back
pub gives_some : {P Q : Type 0} (before mid popped now : RewritePumpView P Q) (had then has : HalfCounts)
    (half back : UnreadHalf P) → Gives before had mid then → mid.readers ≡ popped.readers ++ half ∷ []
    → popped ≡ with_readers popped mid → has.given ≡ then.given → has.refused ≡ raised then.refused
    → now.readers ≡ popped.readers ++ back ∷ [] → now ≡ with_readers now popped → HandsOut before had true now has
gives_some before mid popped now had then has half back gives taken left given refused put stays = record {
  given = gives.given;
  halves = (
    popped.readers,
    half,
    back,
    gives.held ∙ ap (λ l. l ++ gives.given) taken ∙ append_assoc popped.readers (half ∷ []) gives.given,
    put,
  );
  given_is = given ∙ gives.given_is;
  refused_is = refused ∙ ap raised gives.refused_is;
  same = stays ∙ ap (with_readers now) left ∙ ap (with_readers now) gives.same;
}

-- What is said of a refusal: the count rose, or had reached the limit.
pub refusal_rose : {P Q : Type 0} (before now : RewritePumpView P Q) (had has : HalfCounts) (is_refused : Bool)
    → HandsOut before had is_refused now has → is_refused ≡ true → Rose had.refused has.refused
refusal_rose before now had has is_refused hands refused =
    let is : has.refused ≡ raised had.refused = hands.refused_is ∙ ap (λ b. counted_if b had.refused) refused in
    grind (arith, is)

-- No half is lost: each that was held is held or was given.
pub none_lost : {P Q : Type 0} (before now : RewritePumpView P Q) (had has : HalfCounts) (is_refused : Bool)
    (hands : HandsOut before had is_refused now has)
    → length before.readers ≡ length now.readers + length hands.given
none_lost before now had has false hands =
    let was = ap length hands.halves.0 in
    let is = ap length hands.halves.1 in
    grind (arith, was, is)
none_lost before now had has true hands =
    let (front, half, back, held, kept) = hands.halves in
    let was = ap length held ∙ length-append front (half ∷ hands.given) in
    let is = ap length kept ∙ length-append front (back ∷ []) in
    grind (arith, was, is)
