-- What stands beside a control learns of the epochs that began.
use Rattle.std.specs.Prelude.{◌≡◌, ℕ, List, [], ◌∷◌, None, Some, IfSome}
use Rattle.std.specs.declared.option.Option.{Option}
use Rattle.sq_calls.specs.Moments.{GrewAt}
use Rattle.sq_machine.specs.Entries.{History}
use Rattle.sq_rules.specs.Configurations.{Configuration}
use Rattle.sq_control.specs.declared.control.Reread.{Reread}
use Rattle.sq_control.specs.declared.control.Reread.TheVariants as reread

-- an epoch that began: its number, its configuration, where the desk gave that, and the moment
pub record Renewal : Type 0 where
  pub epoch : ℕ
  pub config : Option Configuration
  pub now : ℕ

-- the epochs of which it learned, the newest first; None where it does not tell
abbrev pub Renewals : Type 0
Renewals = Option (List Renewal)

-- where they are told, this one stands in front of the earlier ones
abbrev pub AddsRenewal : Renewals → Renewals → Renewal → Type 0
AddsRenewal None new r = new ≡ None
AddsRenewal (Some earlier) new r = new ≡ Some (r ∷ earlier)

-- where the desk tells its configurations, it gave that of this epoch, or none
abbrev pub GivesConfig : Option (Option Configuration) → Option Configuration → Type 0
GivesConfig told gave = IfSome told (λ o. IfSome gave (λ c. o ≡ Some c))

-- of a reconfiguration that was made, it learned of the epoch that began, with what the desk gave
-- of its configuration; of any other, nothing
abbrev pub Renews : (ℕ → Option (Option Configuration)) → Reread → ℕ → Renewals → Renewals → Type 0
Renews configs (reread.Made epoch) now old new = (gave : Option Configuration)
    × GivesConfig (configs epoch) gave
    × AddsRenewal old new (record { epoch = epoch; config = gave; now = now })
Renews configs r now old new = new ≡ old

-- what a desk tells, which is such a value: its journal, and the configurations of its epochs
pub record Views (K : Type 0) : Type 0 where
  pub told : K → Option History
  pub configs : K → ℕ → Option (Option Configuration)

-- This became of one reconfiguration, which took the desk from the one to the other, and it learned
-- so much of it: of the moment at which it was noted, and what the desk had then.
pub record IsRenewed {K : Type 0} (views : Views K) (old new : K) (r : Reread)
    (before now : Renewals) : Type 0 where
  pub moment : ℕ
  pub grew : GrewAt (moment ∷ []) (views.told old) (views.told new)
  pub renews : Renews (views.configs new) r moment before now

-- of each of some reconfigurations, one after the other; the newest stands first
abbrev pub AreRenewed : {K : Type 0} → Views K → K → List Reread → K → Renewals → Renewals → Type 0
AreRenewed views old [] new before now = (new ≡ old) × (now ≡ before)
AreRenewed {K} views old (r ∷ older) new before now = (mid : K) × (between : Renewals)
    × AreRenewed views old older mid before between × IsRenewed views mid new r between now
