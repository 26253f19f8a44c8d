-- What is read of live epochs is what the state has.
use Rattle.std.proofs.Common.{◌≡◌, ℕ, Option, None, Some, refl}
use Rattle.sq_epochs.specs.EpochStates.{EpochState, class_at, epoch_at}
use Rattle.sq_model.specs.Says.{class_in}
use Rattle.sq_engine.specs.EngineViews.{EngineView, state_of}

-- the class at a place of a live epoch
pub class_read : (v : EngineView) (e c : ℕ) → class_at v.epochs e c ≡ class_in (state_of v) e c
class_read v e c = by (epoch_at v.epochs e) refl
  where
    by : (o : Option EpochState) → epoch_at v.epochs e ≡ o → class_at v.epochs e c ≡ class_in (state_of v) e c
    by None is = rw is refl
    by (Some x) is = rw is refl
