-- What files tell of a shelf: before, in and after a part of a run.
use Rattle.std.proofs.Common.{◌≡◌, inl, inr, ℕ, ◌+◌, List, [], ◌∷◌, ◌++◌, append_assoc, length-append, length, Some, None, IfSome, refl, sym, ap, subst, ◌∙◌, arith}
use Rattle.std.specs.declared.option.Option.{Option}
use Rattle.std.proofs.lemmas.List.{append_cancel_right}
use Rattle.std.proofs.lemmas.Option.{none-some, same_Some}
use Rattle.sq_outside.specs.Told.{AddsText, Opening, Openings, Texts}
use Rattle.sq_outside.specs.Input.{OpensAtMost}
use Rattle.sq_replay.specs.RunText.{Shelf}
use Rattle.sq_replay.specs.Runs.{Adds, AddsCount, Lacks, Opened, StandOn, Tells}

-- no opening was added
pub adds_none : (old new : Openings) → new ≡ old → Adds old new
adds_none None new e = tt
adds_none (Some earlier) new e = ([], e)

-- one was added
pub adds_one : (old new : Openings) (name : List ℕ) (T : List ℕ → Type 0) → AddsText old new name T → Adds old new
adds_one None new name T a = tt
adds_one (Some earlier) new name T a = (record { name = name; text = a.0 } ∷ [], a.1)

pub adds_most : (old new : Openings) (name : List ℕ) → OpensAtMost old new name → Adds old new
adds_most old new name (inl same) = adds_none old new same
adds_most old new name (inr one) = adds_one old new name (λ _. Unit {0}) one

-- some were added, and then some more
pub adds_then : (old mid new : Openings) → Adds old mid → Adds mid new → Adds old new
adds_then None mid new a b = tt
adds_then (Some earlier) mid new a b =
    let c = subst (λ (m : Openings). Adds m new) a.1 b in
    (c.0 ++ a.0, c.1 ∙ ap (λ (l : List Opening). Some l) (sym (append_assoc c.0 a.0 earlier)))

-- so many

pub count_none : (old new : Openings) → new ≡ old → AddsCount old new 0
count_none None new e = tt
count_none (Some earlier) new e = ([], e, refl)

pub count_one : (old new : Openings) (name : List ℕ) (T : List ℕ → Type 0) → AddsText old new name T
    → AddsCount old new 1
count_one None new name T a = tt
count_one (Some earlier) new name T a = (record { name = name; text = a.0 } ∷ [], a.1, refl)

pub count_adds : (old new : Openings) (n : ℕ) → AddsCount old new n → Adds old new
count_adds None new n a = tt
count_adds (Some earlier) new n a = (a.0, a.1)

pub count_then : (old mid new : Openings) (n m : ℕ) → AddsCount old mid n → AddsCount mid new m
    → AddsCount old new (n + m)
count_then None mid new n m a b = tt
count_then (Some earlier) mid new n m a b =
    let c = subst (λ (x : Openings). AddsCount x new m) a.1 b in
    let first = a.2 in
    let next = c.2 in (
      c.0 ++ a.0,
      c.1 ∙ ap (λ (l : List Opening). Some l) (sym (append_assoc c.0 a.0 earlier)),
      omega (arith, length-append c.0 a.0, first, next),
    )

-- parts of the openings

stand_first : (files : Shelf) (e : ℕ) (next first : List Opening) → StandOn files e (next ++ first)
    → StandOn files e first
stand_first files e [] first s = s
stand_first files e (o ∷ next) first s = stand_first files e next first s.1

stand_next : (files : Shelf) (e : ℕ) (next first : List Opening) → StandOn files e (next ++ first)
    → StandOn files (e + length first) next
stand_next files e [] first s = tt
stand_next files e (o ∷ next) first s =
    let at : e + length (next ++ first) ≡ (e + length first) + length next = omega (arith, length-append next first) in
    (subst (λ (k : ℕ). files k o.name ≡ Some o.text) at s.0, stand_next files e next first s.1)

-- the openings of a whole are those of its second part before those of its first
whole_is : (old mid new : Openings) (earlier more first : List Opening) → old ≡ Some earlier
    → new ≡ Some (more ++ earlier) → mid ≡ Some (first ++ earlier) → (a : Adds mid new)
    → (next : List Opening) × (new ≡ Some (next ++ (first ++ earlier))) × (more ≡ next ++ first)
whole_is old mid new earlier more first is new_is mid_is a =
    let b = subst (λ (m : Openings). Adds m new) mid_is a in
    let same : more ++ earlier ≡ (b.0 ++ first) ++ earlier = same_Some _ _ (sym new_is ∙ b.1)
    ∙ sym (append_assoc b.0 first earlier) in
    (b.0, b.1, append_cancel_right more (b.0 ++ first) earlier same)

-- what files told of a whole they told of its first part
opened_before : (old mid new : Openings) (files : Shelf) (e : ℕ) (missing : Option (List ℕ))
    → Opened old new files e missing → Adds old mid → Adds mid new → Opened old mid files e None
opened_before old mid new files e missing o a b =
    let first = subst (λ (x : Openings). Adds x mid) o.old_is a in
    let w = whole_is old mid new o.earlier o.more first.0 o.old_is o.new_is first.1 b in
    record {
      earlier = o.earlier;
      more = first.0;
      old_is = o.old_is;
      new_is = first.1;
      stand = stand_first files e w.0 first.0 (subst (StandOn files e) w.2 o.stand);
      lacks = tt;
    }

pub tells_before : (texts : Texts) (old mid new : Openings) (files : Shelf) (e : ℕ) (missing : Option (List ℕ))
    → Adds old mid → Adds mid new → Tells texts old new files e missing
    → Tells texts old mid files e None
tells_before texts old mid new files e missing a b (inl shelf) = inl shelf
tells_before texts old mid new files e missing a b (inr o) = inr (opened_before old mid new files e missing o a b)

-- and of its second, from the epoch on to which the first came
opened_after : (old mid new : Openings) (files : Shelf) (e n : ℕ) (missing : Option (List ℕ))
    → Opened old new files e missing → AddsCount old mid n → Adds mid new → Opened mid new files (e + n) missing
opened_after old mid new files e n missing o a b =
    let first = subst (λ (x : Openings). AddsCount x mid n) o.old_is a in
    let w = whole_is old mid new o.earlier o.more first.0 o.old_is o.new_is first.1 b in
    let count = first.2 in
    let at : e + length o.more ≡ (e + n) + length w.0 = ap (λ (l : List Opening). e + length l) w.2
    ∙ omega (arith, length-append w.0 first.0, count) in
    record {
      earlier = first.0 ++ o.earlier;
      more = w.0;
      old_is = first.1;
      new_is = w.1;
      stand = subst (λ (k : ℕ). StandOn files (e + k) w.0) count
          (stand_next files e w.0 first.0 (subst (StandOn files e) w.2 o.stand));
      lacks = subst (λ (k : ℕ). Lacks files k missing) at o.lacks;
    }

pub tells_after : (texts : Texts) (old mid new : Openings) (files : Shelf) (e n : ℕ) (missing : Option (List ℕ))
    → AddsCount old mid n → Adds mid new → Tells texts old new files e missing
    → Tells texts mid new files (e + n) missing
tells_after texts old mid new files e n missing a b (inl shelf) = inl shelf
tells_after texts old mid new files e n missing a b (inr o) = inr (opened_after old mid new files e n missing o a b)

-- where an opening of this name was told, its text is what stands on the shelf
pub tells_text : (texts : Texts) (old new : Openings) (files : Shelf) (e : ℕ) (missing : Option (List ℕ))
    (name : List ℕ) (P : List ℕ → Type 0)
    → IfSome texts (λ disk. (bytes : List ℕ) × (disk name ≡ Some bytes) × P bytes) → AddsText old new name P
    → Tells texts old new files e missing
    → (bytes : List ℕ) × (files e name ≡ Some bytes) × P bytes
tells_text None old new files e missing name P t a (inl shelf) = absurd shelf
tells_text (Some disk) old new files e missing name P t a (inl shelf) = (t.0, shelf e name ∙ t.1, t.2)
tells_text texts old new files e missing name P t a (inr o) = by old a o.earlier o.more o.old_is o.new_is o.stand
  where
    by : (old : Openings) → AddsText old new name P → (earlier more : List Opening) → old ≡ Some earlier
        → new ≡ Some (more ++ earlier) → StandOn files e more
        → (bytes : List ℕ) × (files e name ≡ Some bytes) × P bytes
    by None a earlier more is new_is stand = absurd (none-some earlier is)
    by (Some first) a earlier more is new_is stand =
        let same : more ++ earlier ≡ (record { name = name; text = a.0 } ∷ []) ++ earlier =
        same_Some _ _ (sym new_is ∙ a.1)
        ∙ ap (λ (l : List Opening). record { name = name; text = a.0 } ∷ l) (same_Some _ _ is) in
        let one : more ≡ record { name = name; text = a.0 } ∷ [] =
        append_cancel_right more (record { name = name; text = a.0 } ∷ []) earlier same in
        let stands = subst (StandOn files e) one stand in
        (a.0, subst (λ (k : ℕ). files k name ≡ Some a.0) (omega arith) stands.0, a.2)

-- where a file was missed, none stands there
pub tells_none : (texts : Texts) (old new : Openings) (files : Shelf) (e : ℕ) (name : List ℕ)
    → IfSome texts (λ disk. disk name ≡ None) → new ≡ old → Tells texts old new files e (Some name)
    → files e name ≡ None
tells_none None old new files e name t same (inl shelf) = absurd shelf
tells_none (Some disk) old new files e name t same (inl shelf) = shelf e name ∙ t
tells_none texts old new files e name t same (inr o) =
    let all : o.more ++ o.earlier ≡ [] ++ o.earlier = same_Some _ _ (sym o.new_is ∙ same ∙ o.old_is) in
    let none : o.more ≡ [] = append_cancel_right o.more [] o.earlier all in
    subst (λ (k : ℕ). files k name ≡ None) (ap (λ (l : List Opening). e + length l) none ∙ omega arith) o.lacks
