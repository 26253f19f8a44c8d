-- Openings as a shelf, and those before and behind the first.
use Rattle.std.proofs.Common.{◌≡◌, inr, ℕ, ◌+◌, ◌<◌, ◌≤◌, ◌==◌, List, [], ◌∷◌, ◌++◌, length, Bool, false, bytes_eq, if◌then◌else◌, Option, Some, None, refl, ap, ◌∙◌, arith}
use Rattle.std.proofs.lemmas.Bool.Decides.{nat_tests}
use Rattle.sq_outside.specs.Told.{Opening, Openings, Texts}
use Rattle.sq_model.proofs.ClassParts.{bytes_itself, itself}
use Rattle.sq_replay.specs.Runs.{StandOn, Tells}
use Rattle.sq_commands.specs.Opened.{BeginsWith, behind_first, first_text, shelf_over}

other : (a b : ℕ) → a < b → (a == b) ≡ false
other a b l = grind (arith, nat_tests)

-- an opening more leaves what stood there
stand_more : (o : Opening) (all more : List Opening) → length more ≤ length all → StandOn (shelf_over all) 1 more
    → StandOn (shelf_over (o ∷ all)) 1 more
stand_more o all [] l s = tt
stand_more o all (p ∷ more) l s =
    let ne : (1 + length more == 1 + length all) ≡ false =
    other (1 + length more) (1 + length all) (omega (arith, l)) in (
      ap (λ (b : Bool). if b then (if bytes_eq o.name p.name then Some o.text else None)
          else shelf_over all (1 + length more) p.name) ne ∙ s.0,
      stand_more o all more (omega (arith, l)) s.1,
    )

-- openings stand on their shelf
pub stand_over : (more : List Opening) → StandOn (shelf_over more) 1 more
stand_over [] = tt
stand_over (o ∷ more) = (
  ap (λ (b : Bool). if b then (if bytes_eq o.name o.name then Some o.text else None)
      else shelf_over more (1 + length more) o.name) (itself (1 + length more))
      ∙ ap (λ (b : Bool). if b then Some o.text else None) (bytes_itself o.name),
  stand_more o more more (omega arith) (stand_over more),
)

-- and nothing stands behind them
pub none_over : (more : List Opening) (e : ℕ) (name : List ℕ) → length more < e → shelf_over more e name ≡ None
none_over [] e name l = refl
none_over (o ∷ more) e name l =
    let ne : (e == 1 + length more) ≡ false = grind (arith, nat_tests, l) in
    ap (λ (b : Bool). if b then (if bytes_eq o.name name then Some o.text else None) else shelf_over more e name) ne
    ∙ none_over more e name (omega (arith, l))

-- so the files tell it
pub tells_over : (texts : Texts) (earlier more : List Opening) (old new : Openings) (missing : Option (List ℕ))
    → old ≡ Some earlier → new ≡ Some (more ++ earlier) → Tells texts old new (shelf_over more) 1 missing
tells_over texts earlier more old new None was is = inr
    (record { earlier = earlier; more = more; old_is = was; new_is = is; stand = stand_over more; lacks = tt })
tells_over texts earlier more old new (Some name) was is =
    inr (record {
      earlier = earlier;
      more = more;
      old_is = was;
      new_is = is;
      stand = stand_over more;
      lacks = none_over more (1 + length more) name (omega arith);
    })

-- openings behind a first one
pub behind_is : (more : List Opening) (o : Opening) → behind_first (more ++ o ∷ []) ≡ more
behind_is [] o = refl
behind_is (p ∷ []) o = refl
behind_is (p ∷ q ∷ more) o = ap (λ (l : List Opening). p ∷ l) (behind_is (q ∷ more) o)

pub first_is : (more : List Opening) (o : Opening) → first_text (more ++ o ∷ []) ≡ Some o.text
first_is [] o = refl
first_is (p ∷ []) o = refl
first_is (p ∷ q ∷ more) o = first_is (q ∷ more) o

pub begins_is : (more : List Opening) (o : Opening) (name : List ℕ) → o.name ≡ name → BeginsWith name (more ++ o ∷ [])
begins_is [] o name e = e
begins_is (p ∷ []) o name e = e
begins_is (p ∷ q ∷ more) o name e = begins_is (q ∷ more) o name e
