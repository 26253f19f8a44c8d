-- In the statement: docs/STATEMENT.md lists which definitions.
-- The lines that a control writes.
use Rattle.std.specs.Prelude.{ℕ, List, [], ◌∷◌, ◌++◌, codes, decimal}
use Rattle.sq_rules.specs.Kinds.{kind_number}
use Rattle.sq_control.specs.declared.control.Reread.{Reread}
use Rattle.sq_control.specs.declared.control.Reread.TheVariants as reread

-- the line that says at which port a server listens
abbrev pub listening_text : ℕ → List ℕ
listening_text port = codes "listening " ++ decimal port ++ 10 ∷ []

-- the line of a reconfiguration of which this became; of one that the desk could not note there is
-- none
abbrev pub reread_text : Reread → List ℕ
reread_text (reread.Made epoch) = codes "reconfigured " ++ decimal epoch ++ 10 ∷ []
reread_text (reread.At e) = codes "kept old " ++ decimal e.line
    ++ (32 ∷ (decimal (kind_number e.kind) ++ 10 ∷ []))
reread_text reread.Missing = codes "kept old missing" ++ 10 ∷ []
reread_text reread.Read = codes "kept old read" ++ 10 ∷ []
reread_text reread.Epochs = codes "kept old epochs" ++ 10 ∷ []
reread_text reread.Spent = codes "kept old spent" ++ 10 ∷ []
reread_text reread.WantOfMemory = codes "kept old memory" ++ 10 ∷ []
reread_text reread.Journal = []

-- the lines of reconfigurations, of which the newest stands first
abbrev pub rereads_text : List Reread → List ℕ
rereads_text [] = []
rereads_text (r ∷ older) = rereads_text older ++ reread_text r

-- all that a control writes
abbrev pub control_text : ℕ → List Reread → List ℕ
control_text port rereads = listening_text port ++ rereads_text rereads
