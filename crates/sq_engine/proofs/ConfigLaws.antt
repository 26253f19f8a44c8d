-- What an act leaves of the configurations of epochs.
use Rattle.std.proofs.Common.{◌≡◌, ℕ, Option, Some, None, refl}
use Rattle.sq_machine.specs.DueActs.{Due, sends, starts, stops}
use Rattle.sq_model.specs.States.{State}
use Rattle.sq_engine.specs.Acting.{after_act}

pub acted_config : (o : Option Due) (now : ℕ) (s : State) (e : ℕ) → (after_act o now s).config e ≡ s.config e
acted_config None now s e = refl
acted_config (Some (stops k)) now s e = refl
acted_config (Some (sends p x)) now s e = refl
acted_config (Some (starts p)) now s e = refl
