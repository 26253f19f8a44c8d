-- Classes of live epochs by name.
use Rattle.std.specs.Prelude.{◌≡◌, ◌⊎◌, ℕ, List, None, Some, bytes_eq, position}
use Rattle.sq_rules.specs.Classes.{Class}
use Rattle.sq_rules.specs.Configurations.{Configuration}
use Rattle.sq_model.specs.Says.{class_in}
use Rattle.sq_model.specs.States.{State}

-- the class at a place of epoch e has this name
pub record IsNamed (s : State) (e place : ℕ) (name : List ℕ) : Type 0 where
  pub class : Class
  pub class_is : class_in s e place ≡ Some class
  pub name_is : class.name ≡ name

-- this configuration, of epoch e, has no class of this name
pub record HasNone (s : State) (e : ℕ) (name : List ℕ) : Type 0 where
  pub config : Configuration
  pub config_is : s.config e ≡ Some config
  pub none : position (λ (class : Class). bytes_eq class.name name) config.classes ≡ None

-- epoch e does not live, or has no class of this name
abbrev pub IsNowhere : State → ℕ → List ℕ → Type 0
IsNowhere s e name = (s.config e ≡ None) ⊎ HasNone s e name
