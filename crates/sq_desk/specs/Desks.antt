-- What a desk stands for.
use Rattle.std.specs.Prelude.{◌≡◌, ℕ, suc, pos, ◌+◌, ◌≤◌, List, [], ◌∷◌, ◌++◌, length, true, false, None, is_some, IfSome, nat_eq}
use Rattle.std.specs.List.{IsDistinct}
use Rattle.std.specs.Set.{is_member}
use Rattle.sq_rules.specs.Configurations.{Configuration, IsConfiguration}
use Rattle.sq_machine.specs.Entries.{History}
use Rattle.sq_machine.specs.Readings.{current, latest, offset_of}
use Rattle.sq_model.specs.Given.{EachOf}
use Rattle.sq_model.specs.Promises.{StandsFor}
use Rattle.sq_model.specs.States.{State}
use Rattle.sq_engine.specs.EngineViews.{state_of}
use Rattle.sq_calls.specs.Legality.{Beginning, IsLegal, IsStated}
use Rattle.sq_notes.specs.Calling.{DeskView}

-- one that states nothing
abbrev pub no_configuration : Configuration
no_configuration = record {
  source = [];
  dst_lookup = false;
  classes = [];
  acls = [];
  rules = [];
  pools = [];
  initial = 0;
  port = 0;
  rewriter = None;
  headers = [];
  notices = [];
}

-- with this one, and at the offset 0
abbrev pub no_beginning : Beginning
no_beginning = record { config = no_configuration; offset = pos 0 }

-- the state stands for the history over the first configuration and those that were given since,
-- one for each epoch, whatever may follow them; and it has the offset of the beginning
pub record IsReplay (first : Beginning) (s : State) (h : History) : Type 0 where
  pub given : List Configuration
  pub good : EachOf IsConfiguration (first.config ∷ given)
  pub stated : EachOf IsStated given
  pub count : suc (length given) ≡ current h
  pub late : s.latest ≡ latest h
  pub offset_is : offset_of h ≡ first.offset
  pub stands : (more : List Configuration) → EachOf IsConfiguration more
      → StandsFor (first.config ∷ given ++ more) h s

-- there is a place for each open connection and each living process
abbrev pub HasSpare : ℕ → State → Type 0
HasSpare spare s = (ks : List ℕ) → IsDistinct nat_eq ks
    → ((k : ℕ) → is_member nat_eq ks k ≡ true → is_some (s.home k) ≡ true)
    → s.conns + length ks ≤ spare

-- what holds of every desk that began so: a journal that tells is legal; and until a note failed,
-- the machine's state is the replay of the journal, closes and deaths have their places, and the
-- current epoch is the one after as many reconfigurations as were noted
pub record IsDesk (first : Beginning) (v : DeskView) : Type 0 where
  pub legal : IfSome v.notes.history (IsLegal first)
  pub replay : v.notes.stopped ≡ false → IfSome v.notes.history (IsReplay first (state_of v.engine))
  pub places : v.notes.stopped ≡ false → HasSpare v.notes.spare (state_of v.engine)
  pub made : v.notes.stopped ≡ false → v.engine.epochs.current ≡ suc v.notes.made
