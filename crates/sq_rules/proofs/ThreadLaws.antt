-- That a configuration and the facts of a check cross threads, from their parts.
use denote.Param.Send.{IsSend, IsSync, sendable, view_send, view_sync}
use denote.Param.SendFields.{FieldsHave, declared_send, declared_sync}
use Rattle.std.proofs.Crossing.{crosses}
use Rattle.sq_rules.specs.contracts.classes.Token as token
use Rattle.sq_rules.specs.contracts.classes.Class as class
use Rattle.sq_rules.specs.contracts.configs.Acl as acl
use Rattle.sq_rules.specs.contracts.configs.Rule as rule
use Rattle.sq_rules.specs.contracts.headers.HeaderRule as header
use Rattle.sq_rules.specs.contracts.pools.Limit as limit
use Rattle.sq_rules.specs.contracts.pools.Pool as pool
use Rattle.sq_rules.specs.contracts.notices.Notice as notice
use Rattle.sq_rules.specs.contracts.configs.Config as config
use Rattle.sq_rules.specs.contracts.configs.Config.TheInside as inside
use Rattle.sq_rules.specs.contracts.facts.Facts as facts
use Rattle.sq_rules.specs.contracts.facts.Facts.TheInside as facts_inside

token_send : IsSend token.the_row
token_send = search (sendable, crosses) depth 40 fits 20000

class_send : IsSend class.the_row
class_send = search (sendable, crosses, token_send) depth 40 fits 20000

acl_send : IsSend acl.the_row
acl_send = search (sendable, crosses) depth 40 fits 20000

rule_send : IsSend rule.the_row
rule_send = search (sendable, crosses) depth 40 fits 20000

header_send : IsSend header.the_row
header_send = search (sendable, crosses) depth 40 fits 20000

limit_send : IsSend limit.the_row
limit_send = search (sendable, crosses) depth 40 fits 20000

pool_send : IsSend pool.the_row
pool_send = search (sendable, crosses, rule_send, limit_send) depth 40 fits 20000

notice_send : IsSend notice.the_row
notice_send = search (sendable, crosses) depth 40 fits 20000

inside_send : IsSend inside.the_row
inside_send =
    let parts : FieldsHave IsSend (inside.the_type).parts = (
      search (sendable, crosses) depth 40 fits 20000,
      (
        search (sendable, crosses) depth 40 fits 20000,
        (
          search (sendable, crosses, class_send) depth 40 fits 20000,
          (
            search (sendable, crosses, acl_send) depth 40 fits 20000,
            (
              search (sendable, crosses, rule_send) depth 40 fits 20000,
              (
                search (sendable, crosses, pool_send) depth 40 fits 20000,
                (
                  search (sendable, crosses) depth 40 fits 20000,
                  (
                    search (sendable, crosses) depth 40 fits 20000,
                    (
                      search (sendable, crosses, class_send) depth 40 fits 20000,
                      (
                        search (sendable, crosses, header_send) depth 40 fits 20000,
                        (search (sendable, crosses, notice_send) depth 40 fits 20000, tt),
                      ),
                    ),
                  ),
                ),
              ),
            ),
          ),
        ),
      ),
    ) in
    declared_send inside.the_type parts

-- a configuration may go to another thread, for structs that hold one
pub config_send : IsSend config.the_row
config_send = view_send _ _ _ _ _ inside_send

token_sync : IsSync token.the_row
token_sync = search (sendable, crosses) depth 40 fits 20000

class_sync : IsSync class.the_row
class_sync = search (sendable, crosses, token_sync) depth 40 fits 20000

acl_sync : IsSync acl.the_row
acl_sync = search (sendable, crosses) depth 40 fits 20000

rule_sync : IsSync rule.the_row
rule_sync = search (sendable, crosses) depth 40 fits 20000

header_sync : IsSync header.the_row
header_sync = search (sendable, crosses) depth 40 fits 20000

limit_sync : IsSync limit.the_row
limit_sync = search (sendable, crosses) depth 40 fits 20000

pool_sync : IsSync pool.the_row
pool_sync = search (sendable, crosses, rule_sync, limit_sync) depth 40 fits 20000

notice_sync : IsSync notice.the_row
notice_sync = search (sendable, crosses) depth 40 fits 20000

inside_sync : IsSync inside.the_row
inside_sync =
    let parts : FieldsHave IsSync (inside.the_type).parts = (
      search (sendable, crosses) depth 40 fits 20000,
      (
        search (sendable, crosses) depth 40 fits 20000,
        (
          search (sendable, crosses, class_sync) depth 40 fits 20000,
          (
            search (sendable, crosses, acl_sync) depth 40 fits 20000,
            (
              search (sendable, crosses, rule_sync) depth 40 fits 20000,
              (
                search (sendable, crosses, pool_sync) depth 40 fits 20000,
                (
                  search (sendable, crosses) depth 40 fits 20000,
                  (
                    search (sendable, crosses) depth 40 fits 20000,
                    (
                      search (sendable, crosses, class_sync) depth 40 fits 20000,
                      (
                        search (sendable, crosses, header_sync) depth 40 fits 20000,
                        (search (sendable, crosses, notice_sync) depth 40 fits 20000, tt),
                      ),
                    ),
                  ),
                ),
              ),
            ),
          ),
        ),
      ),
    ) in
    declared_sync inside.the_type parts

-- a configuration may be read by several threads, for structs that hold one
pub config_sync : IsSync config.the_row
config_sync = view_sync _ _ _ _ _ inside_sync

facts_inside_send : IsSend facts_inside.the_row
facts_inside_send = search (sendable, crosses) depth 40 fits 20000

-- facts may go to another thread, for structs that hold them
pub facts_send : IsSend facts.the_row
facts_send = view_send _ _ _ _ _ facts_inside_send

facts_inside_sync : IsSync facts_inside.the_row
facts_inside_sync = search (sendable, crosses) depth 40 fits 20000

-- facts may be read by several threads, for structs that hold them
pub facts_sync : IsSync facts.the_row
facts_sync = view_sync _ _ _ _ _ facts_inside_sync
