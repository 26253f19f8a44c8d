use Rattle.std.proofs.Common.{ℕ, List, subst, ◌∙◌}
use Rattle.sq_checks.proofs.FrameLaws.{placed_after, placed_looked, placed_value, placed_whole}
use Rattle.sq_checks.specs.GivenValues.{needed_by, taken_given}
use Rattle.sq_checks.specs.Positions.{Asks, Goes, IsStop}
use Rattle.sq_checks.specs.Slots.{slots_of}
use Rattle.sq_checks.proofs.frames.run_over.Goals as goal

pub returns-clause-value : goal.returns-clause-value
returns-clause-value g c =
    let config = c.args.config.now in
    let facts = c.args.facts.now in
    let table = c.args.table.now in
    let p = c.run_on.new.position in
    let goes : Goes (taken_given config.acls (slots_of config.acls) facts table) config c.args.position.now p
    c.args.steps.now c.run_on.new.steps =
    subst (λ (slots : List ℕ). Goes (taken_given config.acls slots facts table) config c.args.position.now p
    c.args.steps.now c.run_on.new.steps) c.requires.slots c.run_on.ensures.goes in
    let stop : IsStop (taken_given config.acls (slots_of config.acls) facts table) config p c.run_on.result =
    subst (λ (slots : List ℕ). IsStop (taken_given config.acls slots facts table) config p c.run_on.result)
    c.requires.slots c.run_on.ensures.stop in
    let after = placed_after facts config table c.args.position.now p c.requires.over.0 c.args.steps.now
    c.run_on.new.steps c.requires.over.1 goes in
    stop.ran ∙ placed_value facts config table p _ after.2

pub returns-clause-fault : goal.returns-clause-fault
returns-clause-fault g c =
    let config = c.args.config.now in
    let stop : IsStop (taken_given config.acls (slots_of config.acls) c.args.facts.now c.args.table.now) config
    c.run_on.new.position c.run_on.result =
    subst (λ (slots : List ℕ). IsStop (taken_given config.acls slots c.args.facts.now c.args.table.now) config
    c.run_on.new.position c.run_on.result) c.requires.slots c.run_on.ensures.stop in
    stop.fault_is

pub returns-clause-looked : goal.returns-clause-looked
returns-clause-looked g c =
    let config = c.args.config.now in
    let facts = c.args.facts.now in
    let table = c.args.table.now in
    let p = c.run_on.new.position in
    let goes : Goes (taken_given config.acls (slots_of config.acls) facts table) config c.args.position.now p
    c.args.steps.now c.run_on.new.steps =
    subst (λ (slots : List ℕ). Goes (taken_given config.acls slots facts table) config c.args.position.now p
    c.args.steps.now c.run_on.new.steps) c.requires.slots c.run_on.ensures.goes in
    let stop : IsStop (taken_given config.acls (slots_of config.acls) facts table) config p c.run_on.result =
    subst (λ (slots : List ℕ). IsStop (taken_given config.acls slots facts table) config p c.run_on.result)
    c.requires.slots c.run_on.ensures.stop in
    let asks : Asks config.acls (slots_of config.acls) table (needed_by c.run_on.result) =
    subst (λ (slots : List ℕ). Asks config.acls slots table (needed_by c.run_on.result)) c.requires.slots
    c.run_on.ensures.asks in
    let after = placed_after facts config table c.args.position.now p c.requires.over.0 c.args.steps.now
    c.run_on.new.steps c.requires.over.1 goes in
    placed_looked facts config table p _ (needed_by c.run_on.result) after.2 stop.none_left asks

pub returns-clause-whole : goal.returns-clause-whole
returns-clause-whole g c =
    let config = c.args.config.now in
    let facts = c.args.facts.now in
    let table = c.args.table.now in
    let p = c.run_on.new.position in
    let goes : Goes (taken_given config.acls (slots_of config.acls) facts table) config c.args.position.now p
    c.args.steps.now c.run_on.new.steps =
    subst (λ (slots : List ℕ). Goes (taken_given config.acls slots facts table) config c.args.position.now p
    c.args.steps.now c.run_on.new.steps) c.requires.slots c.run_on.ensures.goes in
    let stop : IsStop (taken_given config.acls (slots_of config.acls) facts table) config p c.run_on.result =
    subst (λ (slots : List ℕ). IsStop (taken_given config.acls slots facts table) config p c.run_on.result)
    c.requires.slots c.run_on.ensures.stop in
    let asks : Asks config.acls (slots_of config.acls) table (needed_by c.run_on.result) =
    subst (λ (slots : List ℕ). Asks config.acls slots table (needed_by c.run_on.result)) c.requires.slots
    c.run_on.ensures.asks in
    let after = placed_after facts config table c.args.position.now p c.requires.over.0 c.args.steps.now
    c.run_on.new.steps c.requires.over.1 goes in
    placed_whole facts config table p _ (needed_by c.run_on.result) after.2 stop.none_left asks

pub returns-clause-at : goal.returns-clause-at
returns-clause-at g c = λ n is.
    let config = c.args.config.now in
    let facts = c.args.facts.now in
    let table = c.args.table.now in
    let goes : Goes (taken_given config.acls (slots_of config.acls) facts table) config c.args.position.now
    c.run_on.new.position c.args.steps.now c.run_on.new.steps =
    subst (λ (slots : List ℕ). Goes (taken_given config.acls slots facts table) config c.args.position.now
    c.run_on.new.position c.args.steps.now c.run_on.new.steps) c.requires.slots c.run_on.ensures.goes in
    placed_after facts config table c.args.position.now c.run_on.new.position n c.args.steps.now c.run_on.new.steps is
    goes
