use Rattle.std.proofs.Common.{ℕ, List, false, true, length, arith, sym, subst, ap, is_some}
use Rattle.regex_dfa.specs.Search.{IsEnd, end_from}
use Rattle.regex_dfa.specs.declared.forward.End.{End}
use Rattle.regex_meta.proofs.LeftmostLemmas.{are_bytes}
use Rattle.regex_meta.proofs.ProgramLemmas.{IsLocated_end, leftmost_no_end}
use Rattle.regex_meta.specs.declared.program.Program.{Program}
use Rattle.sq_urlmatch.proofs.matcher.is_found.Goals as goal

-- what the rows say of a whole text, by the end that came
abbrev Ends : Program → List ℕ → End → Type 0
Ends p hay = IsEnd p.dfa.nfa hay 0 (length hay) false true (end_from p.dfa.nfa hay (length hay) p.dfa.nfa.unanchored 0)

pub returns-in-At-clause-found : goal.returns-in-At-clause-found
returns-in-At-clause-found c =
    let p = c.args.program.now in
    let hay = c.args.subject.now in
    let h = subst (Ends p hay) c.in-At.is c.find_end.ensures.end in
    sym (IsLocated_end p hay (are_bytes hay c.type_inv.subject) 0 c.in-At.field-0 true h.2 h.3 h.0 h.1).0

pub returns-in-NoMatch-clause-found : goal.returns-in-NoMatch-clause-found
returns-in-NoMatch-clause-found c =
    let p = c.args.program.now in
    let hay = c.args.subject.now in
    let none = subst (Ends p hay) c.in-NoMatch.is c.find_end.ensures.end in
    sym (ap is_some (leftmost_no_end p hay (are_bytes hay c.type_inv.subject) 0 (omega arith) none))
