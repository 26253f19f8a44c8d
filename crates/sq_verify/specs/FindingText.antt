-- In the statement: docs/STATEMENT.md lists which definitions.
-- What is written of what was found of a journal.
use Rattle.std.specs.Prelude.{ℕ, List, [], ◌∷◌, ◌++◌, codes, decimal}
use Rattle.sq_verify.specs.declared.findings.Finding.{Finding}
use Rattle.sq_verify.specs.declared.findings.Finding.TheVariants.{Verified, Script, Differs, ReadFault, WantOfMemory}

-- a word or more and a number, in a line
abbrev pub number_line : List ℕ → ℕ → List ℕ
number_line head number = head ++ decimal number ++ 10 ∷ []

-- the machine's text and the journal's, each in a line
abbrev pub texts_lines : List ℕ → List ℕ → List ℕ
texts_lines machine journal = (codes "machine " ++ machine ++ 10 ∷ [])
    ++ (codes "journal " ++ journal ++ 10 ∷ [])

-- a line of the journal is not the machine's
abbrev pub differs_text : ℕ → List ℕ → List ℕ → List ℕ
differs_text line machine journal = number_line (codes "differs ") line
    ++ texts_lines machine journal

-- what is written of a finding
abbrev pub finding_text : Finding → List ℕ
finding_text (Verified count) = number_line (codes "verified ") count
finding_text (Script line) = number_line (codes "error script ") line
finding_text (Differs line machine journal) = differs_text line machine journal
finding_text ReadFault = codes "error read" ++ 10 ∷ []
finding_text WantOfMemory = []
