-- That a setup crosses threads, from its parts.
use denote.Param.Send.{IsSend, sendable, view_send}
use denote.Param.SendFields.{FieldsHave, declared_send}
use Rattle.std.proofs.Crossing.{crosses, Vec-send}
use Rattle.sq_rules.proofs.ThreadLaws.{config_send, config_sync}
use Rattle.sq_urlmatch.proofs.SetThreadLaws.{addr_set_send, domain_set_send, spans_send}
use Rattle.regex_hir.specs.contracts.hir.Hir as hir
use Rattle.regex_hir.proofs.hir.Hir.TheLaws.TheKnot as knot
use Rattle.regex_dfa.specs.contracts.dfa.Dfa as dfa
use Rattle.regex_dfa.specs.contracts.forward.Forward as forward
use Rattle.regex_literal.specs.contracts.byte_set.ByteSet as byte_set
use Rattle.regex_literal.specs.contracts.prefilter.Prefilter as prefilter
use Rattle.regex_literal.specs.contracts.caseless.Caseless as caseless
use Rattle.regex_extract.specs.contracts.frames.Frame as frame
use Rattle.regex_meta.specs.contracts.plan.Plan as plan
use Rattle.regex_meta.specs.contracts.plan.Plans as plans
use Rattle.regex_meta.specs.contracts.signs.Signs as signs
use Rattle.regex_meta.specs.contracts.program.Program as program
use Rattle.sq_urlmatch.specs.contracts.compiled.Compiled as compiled
use Rattle.sq_urlmatch.specs.contracts.compiled.Compiled.TheInside as compiled_inside
use Rattle.sq_urlmatch.specs.contracts.matcher.Matcher as matcher
use Rattle.sq_urlmatch.specs.contracts.patterns.Patterns as patterns
use Rattle.sq_urlmatch.specs.contracts.patterns.Patterns.TheInside as patterns_inside
use Rattle.sq_urlmatch.specs.contracts.sets.ValueSets as value_sets
use Rattle.sq_urlmatch.specs.contracts.setup.Setup as setup
use Rattle.sq_urlmatch.specs.contracts.setup.Setup.TheInside as setup_inside

hir_send : IsSend hir.the_row
hir_send = search (sendable, crosses, knot.crosses) depth 40 fits 20000

dfa_send : IsSend dfa.the_row
dfa_send = search (sendable, crosses) depth 40 fits 20000

byte_set_send : IsSend byte_set.the_row
byte_set_send = search (sendable, crosses) depth 40 fits 20000

prefilter_send : IsSend prefilter.the_row
prefilter_send = search (sendable, crosses) depth 40 fits 20000

caseless_send : IsSend caseless.the_row
caseless_send = search (sendable, crosses) depth 40 fits 20000

frame_send : IsSend frame.the_row
frame_send = search (sendable, crosses) depth 40 fits 20000

plan_send : IsSend plan.the_row
plan_send = search (sendable, crosses, prefilter_send, frame_send, hir_send) depth 40 fits 20000

plans_send : IsSend plans.the_row
plans_send = search (sendable, crosses, plan_send) depth 40 fits 20000

signs_send : IsSend signs.the_row
signs_send = search (sendable, crosses, caseless_send, hir_send) depth 40 fits 20000

program_send : IsSend program.the_row
program_send =
    let parts : FieldsHave IsSend (program.the_type).parts = (
      search (sendable, crosses, hir_send) depth 40 fits 20000,
      (
        search (sendable, crosses, dfa_send) depth 40 fits 20000,
        (
          search (sendable, crosses, plans_send) depth 40 fits 20000,
          (
            search (sendable, crosses, signs_send) depth 40 fits 20000,
            (
              search (sendable, crosses, byte_set_send) depth 40 fits 20000,
              (
                search (sendable, crosses) depth 40 fits 20000,
                (search (sendable, crosses) depth 40 fits 20000, (search (sendable, crosses) depth 40 fits 20000, tt)),
              ),
            ),
          ),
        ),
      ),
    ) in
    declared_send program.the_type parts

forward_send : IsSend forward.the_row
forward_send = search (sendable, crosses) depth 40 fits 20000

matcher_send : IsSend matcher.the_row
matcher_send =
    let parts : FieldsHave IsSend (matcher.the_type).parts =
    (search (sendable, program_send), (search (sendable, forward_send), tt)) in
    declared_send matcher.the_type parts

compiled_inside_send : IsSend compiled_inside.the_row
compiled_inside_send =
    let parts : FieldsHave IsSend (compiled_inside.the_type).parts =
    (search (sendable, crosses) depth 40 fits 20000, (search (sendable, Vec-send, matcher_send), tt)) in
    declared_send compiled_inside.the_type parts

compiled_send : IsSend compiled.the_row
compiled_send = view_send _ _ _ _ _ compiled_inside_send

patterns_inside_send : IsSend patterns_inside.the_row
patterns_inside_send =
    let parts : FieldsHave IsSend (patterns_inside.the_type).parts = (search (sendable, Vec-send, compiled_send), tt) in
    declared_send patterns_inside.the_type parts

patterns_send : IsSend patterns.the_row
patterns_send = view_send _ _ _ _ _ patterns_inside_send

value_sets_send : IsSend value_sets.the_row
value_sets_send =
    let parts : FieldsHave IsSend (value_sets.the_type).parts =
    (search (sendable, addr_set_send), (search (sendable, domain_set_send), (search (sendable, spans_send), tt))) in
    declared_send value_sets.the_type parts

setup_inside_send : IsSend setup_inside.the_row
setup_inside_send =
    let parts : FieldsHave IsSend (setup_inside.the_type).parts = (
      search (sendable, crosses, config_send, config_sync) depth 40 fits 20000,
      (search (sendable, patterns_send), (search (sendable, Vec-send, value_sets_send), tt)),
    ) in
    declared_send setup_inside.the_type parts

pub setup_send : IsSend setup.the_row
setup_send = view_send _ _ _ _ _ setup_inside_send
