use Rattle.std.proofs.Common.{◌≡◌, ◌+◌, ◌∙◌, Some, refl, sym, subst, arith}
use Rattle.std.proofs.lemmas.List.{take_all}
use Rattle.sq_request.specs.Endings.{head_end}
use Rattle.sq_forward.specs.Searching.{IsSought}
use Rattle.sq_forward.proofs.SearchLaws.{found_here, none_here, sought_more, whole_front}
use Rattle.sq_forward.proofs.searching.HeadSearch.look.Goals as goal

-- the end that was found
found : (c : goal.Then-ends_by) → head_end c.args.bytes.now ≡ Some (c.loop-at.at + 1)
found c = found_here c.args.bytes.now c.loop-at.at 0 c.loop-at.self.begun c.loop-at.self.line c.loop-at.invariant
    c.loop-at-test.true (sym c.ends_by.ensures.ends ∙ c.if-ends_by.true)

pub returns-then-ends_by-clause-place : goal.returns-then-ends_by-clause-place
returns-then-ends_by-clause-place c = sym (found c)

pub returns-then-ends_by-clause-whole : goal.returns-then-ends_by-clause-whole
returns-then-ends_by-clause-whole c = whole_front c.args.bytes.now (c.loop-at.at + 1) (found c)
    (omega (arith, c.loop-at-test.true))

pub loop-at-preserved : goal.loop-at-preserved
loop-at-preserved c =
    sought_more c.args.bytes.now c.loop-at.at 0 c.loop-at.self.begun c.ends_by.new.self.begun c.loop-at.self.line
    c.ends_by.new.self.line c.loop-at.invariant c.loop-at-test.true
    (sym c.ends_by.ensures.ends ∙ c.if-ends_by.false) c.ends_by.ensures.begun c.ends_by.ensures.line

-- all bytes were looked at
all_sought : (c : goal.After-self-1) → IsSought c.args.bytes.now c.loop-at.self.begun c.loop-at.self.line
all_sought c =
    subst (λ bytes. IsSought bytes c.loop-at.self.begun c.loop-at.self.line)
    (take_all c.loop-at.at c.args.bytes.now (omega (arith, c.loop-at-test.false))) c.loop-at.invariant

pub returns-clause-place : goal.returns-clause-place
returns-clause-place c = sym (none_here c.args.bytes.now c.loop-at.self.begun c.loop-at.self.line (all_sought c))

pub returns-clause-sought : goal.returns-clause-sought
returns-clause-sought c = (refl, all_sought c)
