-- In the statement: docs/STATEMENT.md lists which definitions.
-- Which histories are legal from a beginning on, and over which configurations.
use Rattle.std.specs.Prelude.{◌≡◌, ℕ, ℤ, suc, List, ◌∷◌, length, Some, None, IfSome}
use Rattle.std.specs.declared.option.Option.{Option}
use Rattle.sq_rules.specs.Classes.{Class}
use Rattle.sq_rules.specs.ConfText.{conf_gives}
use Rattle.sq_rules.specs.Configurations.{Configuration, IsConfiguration}
use Rattle.sq_machine.specs.Entries.{History}
use Rattle.sq_machine.specs.Epochs.{class_at}
use Rattle.sq_machine.specs.Machine.{Legal}
use Rattle.sq_machine.specs.Readings.{current, offset_of}
use Rattle.sq_model.specs.Given.{EachOf}
use Rattle.sq_model.specs.Sources.{AreSourced}

-- with what a machine begins: its first configuration, and the offset of local time, in minutes
pub record Beginning : Type 0 where
  pub config : Configuration
  pub offset : ℤ

-- the configuration is the one that its source states
abbrev pub IsStated : Configuration → Type 0
IsStated c = conf_gives c.source c

-- the history has the offset of its beginning, and is legal over the first configuration and those
-- of its reconfigurations, one for each, which hold the sources of these; each is what its source
-- states
pub record IsLegal (first : Beginning) (h : History) : Type 0 where
  pub given : List Configuration
  pub good : EachOf IsConfiguration (first.config ∷ given)
  pub stated : EachOf IsStated given
  pub count : suc (length given) ≡ current h
  pub offset_is : offset_of h ≡ first.offset
  pub legal : Legal (first.config ∷ given) h
  pub sourced : AreSourced (first.config ∷ given) h

-- the history is legal from a beginning on, which is this one where one is told
pub record IsLegalFrom (told : Option Beginning) (h : History) : Type 0 where
  pub first : Beginning
  pub first_is : IfSome told (λ b. first ≡ b)
  pub legal : IsLegal first h

-- the configurations over which it is legal, one for each epoch
abbrev pub configs_over : {told : Option Beginning} {h : History} → IsLegalFrom told h
    → List Configuration
configs_over l = l.first.config ∷ l.legal.given

-- over the configurations of a legal history, this is the name of the class at a place of an epoch
pub record HasName (told : Option Beginning) (h : History) (epoch place : ℕ)
    (name : List ℕ) : Type 0 where
  pub over : IsLegalFrom told h
  pub class : Class
  pub class_is : class_at (configs_over over) epoch place ≡ Some class
  pub name_is : name ≡ class.name

-- the same where the journal is told
abbrev pub IsNameOf : Option Beginning → Option History → ℕ → ℕ → List ℕ → Type 0
IsNameOf told None epoch place name = Unit {0}
IsNameOf told (Some h) epoch place name = HasName told h epoch place name
