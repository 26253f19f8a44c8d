-- The journal of a desk is a history of which all is so that is so of every run.
use Rattle.std.proofs.Common.{◌≡◌, inl, inr, ℕ, zero, suc, ◌≤◌, List, [], ◌∷◌, Bool, true, false, slice_get, Some, None, IfSome, subst, arith}
use Rattle.std.proofs.lemmas.Option.{none-some, same_Some}
use Rattle.std.specs.declared.option.Option.{Option}
use Rattle.sq_machine.specs.declared.entries.Event.{Event}
use Rattle.sq_machine.specs.declared.entries.Event.TheVariants.{Reconfigure}
use Rattle.sq_rules.specs.Configurations.{Configuration}
use Rattle.sq_rules.specs.ConfText.{conf_gives}
use Rattle.sq_machine.specs.Entries.{History}
use Rattle.sq_machine.specs.Events.{begins_epoch}
use Rattle.sq_machine.specs.Epochs.{config_of}
use Rattle.sq_machine.specs.Readings.{current, epoch_after}
use Rattle.sq_model.specs.Given.{EachOf}
use Rattle.sq_model.specs.Sources.{AreSourced, IsSourced}
use Rattle.sq_calls.specs.Legality.{Beginning, IsLegal, IsStated}
use Rattle.sq_replay.specs.Headline.{AreAccepted, IsAccepted}
use Rattle.sq_replay.proofs.HeadlineLaws.{history_true}
use Rattle.sq_server.specs.Service.{IsTrueFrom, IsTrueOrEmpty}

-- the current epoch is one of those from 1 up
current_positive : (h : History) → 1 ≤ current h
current_positive [] = omega arith
current_positive (x ∷ h) = by (begins_epoch x.event) (current h) (current_positive h)
  where
    by : (b : Bool) (n : ℕ) → 1 ≤ n → 1 ≤ epoch_after b n
    by true n l = omega arith
    by false n l = l

stated_at : (given : List Configuration) (i : ℕ) (config : Configuration) → EachOf IsStated given
    → slice_get given i ≡ Some config → IsStated config
stated_at [] i config each e = absurd (none-some config e)
stated_at (c ∷ given) zero config each e = subst IsStated (same_Some _ _ e) each.0
stated_at (c ∷ given) (suc i) config each e = stated_at given i config each.1 e

-- the configuration of an epoch behind the first is one that was given
stated_behind : (first : Configuration) (given : List Configuration) (epoch : ℕ) (config : Configuration) → 1 ≤ epoch
    → EachOf IsStated given
    → config_of (first ∷ given) (suc epoch) ≡ Some config → IsStated config
stated_behind first given zero config late each at = absurd (omega (arith, late))
stated_behind first given (suc i) config late each at = stated_at given i config each at

accepted : (first : Configuration) (given : List Configuration) (h : History) (event : Event) → EachOf IsStated given
    → IsSourced (first ∷ given) h event
    → IsAccepted (first ∷ given) h event
accepted first given h (Reconfigure text) each s = (
  s.0,
  subst (λ (source : List ℕ). conf_gives source s.0) s.1
      (stated_behind first given (current h) s.0 (current_positive h) each s.2),
  s.2,
)
accepted first given h event each s = tt

all_accepted : (first : Configuration) (given : List Configuration) (h : History) → EachOf IsStated given
    → AreSourced (first ∷ given) h
    → AreAccepted (first ∷ given) h
all_accepted first given [] each s = tt
all_accepted first given (e ∷ h) each s = (accepted first given h e.event each s.0, all_accepted first given h each s.1)

pub legal_true : (first : Beginning) (h : History) → IsLegal first h → IsTrueFrom first h
legal_true first h l =
    let count = l.count in
    record {
      more = l.given;
      offset_is = l.offset_is;
      is_true = history_true (first.config ∷ l.given) h l.good (record {
        legal = l.legal;
        accepted = all_accepted first.config l.given h l.stated l.sourced;
        reached = omega (arith, count);
      });
    }

pub journal_true : (first : Beginning) (history : Option History) → IfSome history (IsLegal first)
    → IfSome history (IsTrueFrom first)
journal_true first None legal = tt
journal_true first (Some h) legal = legal_true first h legal

pub true_ran : (first : Beginning) (history : Option History) → IfSome history (IsLegal first)
    → IsTrueOrEmpty first history
true_ran first None legal = tt
true_ran first (Some h) legal = inr (legal_true first h legal)

pub true_unran : (first : Beginning) (history : Option History) → IfSome history (λ h. h ≡ [])
    → IsTrueOrEmpty first history
true_unran first None empty = tt
true_unran first (Some h) empty = inl empty
