-- What was handed out, half by half, and what follows of it.
use Rattle.std.proofs.Common.{◌≡◌, ◌+◌, List, [], ◌∷◌, ◌++◌, true, length, map, refl, sym, ap, ◌∙◌, append_assoc, arith, length-append}
use Rattle.std.proofs.lemmas.List.{append-nil, length-map}
use Rattle.sq_outside.specs.Causes.{Rose, raised}
use Rattle.sq_helper_threads.specs.PumpRounds.{HandsOut, KeepersSeen, OnlyHalves, PutsBack, counted, counted_if, held_halves, is_refusal}
use Rattle.sq_helper_threads.specs.Pumps.{PumpView}
use Rattle.sq_helper_threads.specs.declared.keeper_halves.ProcOut.{ProcOut}
use Rattle.sq_helper_threads.specs.declared.keeper_halves.ProcOut.TheVariants.{Asker, Child}
use Rattle.sq_helper_threads.specs.declared.rounds.HandEnd.{HandEnd}
use Rattle.sq_helper_threads.specs.declared.rounds.HandEnd.TheVariants as hand

-- the last ones of the halves were given to keepers, each of them is counted, and nothing else changed
pub record Gives {P Q R D : Type 0} (before : PumpView P Q R D) (had : KeepersSeen) (now : PumpView P Q R D)
    (has : KeepersSeen) : Type 0 where
  pub given : List (ProcOut P R)
  pub held : held_halves before ≡ held_halves now ++ given
  pub given_is : has.given ≡ counted given had.given
  pub unhad_is : has.unhad ≡ had.unhad
  pub spare_is : had.spare ≡ has.spare + length given
  pub same : OnlyHalves before now

-- with the halves of programs of one pump, and those of threads that answer look-ups of another
abbrev pub with_kinds : {P Q R D : Type 0} → PumpView P Q R D → PumpView P Q R D → PumpView P Q R D
    → PumpView P Q R D
with_kinds programs askers before = record before {
  readers = programs.readers;
  room = programs.room;
  asking = askers.asking;
  asking_room = askers.asking_room;
}

-- with the halves of one pump, and the room for them of another
abbrev pub with_lists : {P Q R D : Type 0} → PumpView P Q R D → PumpView P Q R D → PumpView P Q R D
    → PumpView P Q R D
with_lists lists room before = record before {
  readers = lists.readers;
  room = room.room;
  asking = lists.asking;
  asking_room = room.asking_room;
}

-- none so far
pub gives_none : {P Q R D : Type 0} (before now : PumpView P Q R D) (keepers : KeepersSeen)
    → now ≡ record before { room = now.room; asking_room = now.asking_room } → Gives before keepers now keepers
gives_none before now keepers same = record {
  given = [];
  held = sym (append-nil (held_halves now) ∙ ap held_halves same);
  given_is = refl;
  unhad_is = refl;
  spare_is = grind arith;
  same = same ∙ ap (λ v. with_lists v now before) (sym same);
}

-- one more
pub gives_more : {P Q R D : Type 0} (before mid now : PumpView P Q R D) (had then has : KeepersSeen)
    (half : ProcOut P R) → Gives before had mid then → held_halves mid ≡ held_halves now ++ half ∷ []
    → OnlyHalves mid now → has.given ≡ raised then.given → has.unhad ≡ then.unhad → then.spare ≡ has.spare + 1
    → Gives before had now has
gives_more before mid now had then has half gives popped same given unhad spare = record {
  given = half ∷ gives.given;
  held = gives.held ∙ ap (λ l. l ++ gives.given) popped ∙ append_assoc (held_halves now) (half ∷ []) gives.given;
  given_is = given ∙ ap raised gives.given_is;
  unhad_is = unhad ∙ gives.unhad_is;
  spare_is = let was = gives.spare_is in grind (arith, was, spare);
  same = same ∙ ap (with_kinds now now) gives.same;
}

-- all of them
pub gives_all : {P Q R D : Type 0} (before mid now : PumpView P Q R D) (had has : KeepersSeen)
    → Gives before had mid has → now.readers ≡ [] → now.asking ≡ [] → now ≡ mid
    → HandsOut before had hand.All now has
gives_all before mid now had has gives readers asking stays = record {
  given = gives.given;
  halves = (
    gives.held ∙ ap (λ v. held_halves v ++ gives.given) (sym stays)
        ∙ ap (λ l. (map Asker now.asking ++ map Child l) ++ gives.given) readers
        ∙ ap (λ l. (map Asker l ++ []) ++ gives.given) asking,
    readers,
    asking,
  );
  given_is = gives.given_is;
  unhad_is = gives.unhad_is;
  spare_is = gives.spare_is;
  same = stays ∙ gives.same ∙ ap (λ v. with_kinds v v before) (sym stays);
}

-- nothing but the halves of one kind, and the room for them, changed
pub puts_only : {P Q R D : Type 0} (half : ProcOut P R) (before now : PumpView P Q R D) → PutsBack half before now
    → OnlyHalves before now
puts_only (Child half) before now puts = puts.1 ∙ ap (λ v. with_kinds now v before) (sym puts.1)
puts_only (Asker half) before now puts = puts.1 ∙ ap (λ v. with_kinds v now before) (sym puts.1)

-- all behind one, in whose place one came back
pub gives_some : {P Q R D : Type 0} (before mid left now : PumpView P Q R D) (had then has : KeepersSeen)
    (half back : ProcOut P R) → Gives before had mid then → held_halves mid ≡ held_halves left ++ half ∷ []
    → OnlyHalves mid left → has.given ≡ then.given → has.unhad ≡ raised then.unhad → has.spare ≡ then.spare
    → PutsBack back left now → HandsOut before had hand.Refused now has
gives_some before mid left now had then has half back gives taken same given unhad spare puts = record {
  given = gives.given;
  halves = (
    left,
    half,
    back,
    gives.held ∙ ap (λ l. l ++ gives.given) taken ∙ append_assoc (held_halves left) (half ∷ []) gives.given,
    puts,
  );
  given_is = given ∙ gives.given_is;
  unhad_is = unhad ∙ ap raised gives.unhad_is;
  spare_is = gives.spare_is ∙ ap (λ n. n + length gives.given) (sym spare);
  same = puts_only back left now puts ∙ ap (with_kinds now now) same ∙ ap (with_kinds now now) gives.same;
}

-- What is said of a refusal: the count rose, or had reached the limit.
pub refusal_rose : {P Q R D : Type 0} (before now : PumpView P Q R D) (had has : KeepersSeen) (end : HandEnd)
    → HandsOut before had end now has → is_refusal end ≡ true → Rose had.unhad has.unhad
refusal_rose before now had has end hands refused =
    let is : has.unhad ≡ raised had.unhad = hands.unhad_is ∙ ap (λ b. counted_if b had.unhad) refused in
    grind (arith, is)

-- how many halves are held
pub held_count : {P Q R D : Type 0} (pump : PumpView P Q R D)
    → length (held_halves pump) ≡ length pump.asking + length pump.readers
held_count {P = P} {R = R} pump =
    let all = length-append (map Asker pump.asking) (map Child pump.readers) in
    let asking = length-map {B = ProcOut P R} pump.asking Asker in
    let readers = length-map {B = ProcOut P R} pump.readers Child in
    grind (arith, all, asking, readers)

-- one more than before, where one was put back
pub puts_one : {P Q R D : Type 0} (half : ProcOut P R) (before now : PumpView P Q R D) → PutsBack half before now
    → length (held_halves now) ≡ length (held_halves before) + 1
puts_one (Child half) before now puts =
    let was = held_count before in
    let is = held_count now in
    let put = ap length puts.0 ∙ length-append before.readers (half ∷ []) in
    let same = ap (λ v. length v.asking) puts.1 in
    grind (arith, was, is, put, same)
puts_one (Asker half) before now puts =
    let was = held_count before in
    let is = held_count now in
    let put = ap length puts.0 ∙ length-append before.asking (half ∷ []) in
    let same = ap (λ v. length v.readers) puts.1 in
    grind (arith, was, is, put, same)

-- No half is lost: each that was held is held or was given.
pub none_lost : {P Q R D : Type 0} (before now : PumpView P Q R D) (had has : KeepersSeen) (end : HandEnd)
    (hands : HandsOut before had end now has)
    → length (held_halves before) ≡ length (held_halves now) + length hands.given
none_lost before now had has hand.All hands =
    let was = ap length hands.halves.0 in
    let readers = ap length hands.halves.1 in
    let asking = ap length hands.halves.2 in
    let is = held_count now in
    grind (arith, was, readers, asking, is)
none_lost before now had has hand.Refused hands =
    let (left, half, back, held, puts) = hands.halves in
    let was = ap length held ∙ length-append (held_halves left) (half ∷ hands.given) in
    let is = puts_one back left now puts in
    grind (arith, was, is)
none_lost before now had has hand.WantOfMemory hands =
    let given = ap length hands.halves.0 in
    let readers = ap length hands.halves.1 in
    let asking = ap length hands.halves.2 in
    let was = held_count before in
    let is = held_count now in
    grind (arith, given, readers, asking, was, is)
