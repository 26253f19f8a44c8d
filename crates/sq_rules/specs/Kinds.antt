-- In the statement: docs/STATEMENT.md lists which definitions.
-- The numbers of the faults of a configuration's text.
use Rattle.std.specs.Prelude.{ℕ, List, ◌++◌, codes}
use Rattle.std.specs.Fmt.{decimal}
use Rattle.sq_rules.specs.declared.kinds.ConfError.{ConfError}
use Rattle.sq_rules.specs.declared.kinds.Kind.{Kind}
use Rattle.sq_rules.specs.declared.kinds.Kind.TheVariants as kind

-- the number that is printed
abbrev pub kind_number : Kind → ℕ
kind_number kind.LineTooLong = 1
kind_number kind.UnknownDirective = 2
kind_number kind.MissingWord = 3
kind_number kind.BadNumber = 4
kind_number kind.UnknownAclType = 5
kind_number kind.TypeClash = 6
kind_number kind.UndefinedAcl = 7
kind_number kind.BadValue = 8
kind_number kind.UndefinedClass = 9
kind_number kind.DuplicateClass = 10
kind_number kind.UnknownOption = 11
kind_number kind.UnknownToken = 12
kind_number kind.SlowInFastList = 13
kind_number kind.BadPattern = 14
kind_number kind.PoolOutOfRange = 15
kind_number kind.PoolIncomplete = 16
kind_number kind.TooMany = 17
kind_number kind.TooDeep = 18
kind_number kind.NotUtf8 = 19
kind_number kind.BadTime = 20

-- a fault as it is displayed: its line and its kind by their numbers
abbrev pub fault_text : ConfError → List ℕ
fault_text e = codes "line "
    ++ (decimal e.line ++ (codes ", kind " ++ decimal (kind_number e.kind)))
