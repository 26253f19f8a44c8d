use Rattle.sq_rewrite.proofs.FarmLaws.{heard_law}
use Rattle.sq_rewrite.proofs.RunLaws.{known_law, replied_law, sent_law, sent_once_law, taken_law, taken_once_law}
use Rattle.sq_rewrite.proofs.laws.rewriting_laws.Goals as goal

pub returns-clause-taken : goal.returns-clause-taken
returns-clause-taken c = taken_law

pub returns-clause-known : goal.returns-clause-known
returns-clause-known c = known_law

pub returns-clause-heard : goal.returns-clause-heard
returns-clause-heard c = heard_law

pub returns-clause-replied : goal.returns-clause-replied
returns-clause-replied c = replied_law

pub returns-clause-sent : goal.returns-clause-sent
returns-clause-sent c = sent_law

pub returns-clause-sent_once : goal.returns-clause-sent_once
returns-clause-sent_once c = sent_once_law

pub returns-clause-taken_once : goal.returns-clause-taken_once
returns-clause-taken_once c = taken_once_law
