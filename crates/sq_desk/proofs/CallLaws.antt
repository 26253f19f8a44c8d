-- States that are the same.
use Rattle.std.proofs.Common.{◌≡◌, refl, subst}
use Rattle.sq_model.specs.States.{IsSame, State}
use Rattle.sq_engine.specs.EngineViews.{EngineView, state_of}

-- a state is itself
pub same_self : (s : State) → IsSame s s
same_self s = record {
  clients_are = λ c. refl;
  conns_are = refl;
  from_are = λ a. refl;
  checks_are = refl;
  asks_are = refl;
  puts_are = refl;
  current_is = refl;
  configs_are = λ e. refl;
  rows_are = λ e c. refl;
  procs_are = refl;
  homes_are = λ k. refl;
  stops_are = λ k. refl;
  latest_is = refl;
  offset_is = refl;
}

-- engines that are one have one state
pub same_engine : (v w : EngineView) → w ≡ v → IsSame (state_of w) (state_of v)
same_engine v w e = subst (λ z. IsSame (state_of w) (state_of z)) e (same_self (state_of w))
