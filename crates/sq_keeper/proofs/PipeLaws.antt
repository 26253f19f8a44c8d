-- A half of a process that changes.
use Rattle.std.proofs.Common.{refl, ◌≡◌, ℕ, ◌==◌, List, Some, IfSome, get_or, ap, sym, ◌∙◌, subst}
use Rattle.std.specs.Prelude.{slice_set}
use Rattle.std.specs.declared.option.Option.{Option}
use Rattle.std.proofs.lemmas.List.Quantifiers.{position-Some}
use Rattle.std.proofs.lemmas.Option.{slice_get-get_or}
use Rattle.sq_keeper.specs.declared.pipes.Pipe.{Pipe}
use Rattle.sq_keeper.specs.Pipes.{Changes, pipe_place}

-- the half at the place of the process was changed
pub changes_there : {O : Type 0} (proc : ℕ) (P : Pipe O → Pipe O → Type 0) (pipes : List (Pipe O)) (found : Option ℕ)
    (place : ℕ) (before now : Pipe O)
    → found ≡ pipe_place proc pipes → found ≡ Some place → before ≡ get_or pipes place before → P before now
    → Changes proc P pipes (slice_set pipes place now)
changes_there proc P pipes found place before now looked at read p =
    let is : pipe_place proc pipes ≡ Some place = sym looked ∙ at in
    let inside = (position-Some (λ q. q.proc == proc) pipes place before is).0 in
    record {
      place = place;
      before = before;
      now = now;
      place_is = is;
      before_is = slice_get-get_or pipes place before inside ∙ ap Some (sym read);
      new_is = refl;
      changed = p;
    }

pub changes_if : {O : Type 0} (proc : ℕ) (P : Pipe O → Pipe O → Type 0) (old new : List (Pipe O))
    → Changes proc P old new → IfSome (pipe_place proc old) (λ _. Changes proc P old new)
changes_if proc P old new c = subst (λ o. IfSome o (λ _. Changes proc P old new)) (sym c.place_is) c
