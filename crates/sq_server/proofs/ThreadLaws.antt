-- That the machine crosses threads, from its parts.
use denote.RattleType.{RattleType}
use denote.Param.Send.{IsSend, IsSync, param_send, sendable, view_send, view_sync}
use denote.Param.SendFields.{FieldsHave, declared_send, declared_sync}
use Rattle.std.proofs.Crossing.{crosses, Vec-send}
use Rattle.std_collections.proofs.Crosses.{BTreeMap-send, HashMap-send}
use Rattle.lru.proofs.Crosses.{KeyRef-send, KeyRef-sync, List-send, Deed-send}
use Rattle.sq_rules.proofs.ThreadLaws.{config_send, config_sync, facts_send}
use Rattle.sq_server.proofs.SetupLaws.{setup_send}
use Rattle.sq_channel.specs.contracts.processes.Process as process
use Rattle.sq_farm.specs.contracts.procs.Procs as procs
use Rattle.sq_farm.specs.contracts.farms.Farm as farm
use Rattle.sq_cache.specs.contracts.kept.Kept as kept
use Rattle.sq_lookup.specs.contracts.checks.Checks as checks
use Rattle.sq_lookup.specs.contracts.keys.Keys as keys
use Rattle.sq_lookup.specs.contracts.rows.Row as row
use Rattle.sq_lookup.specs.contracts.rows.Rows as rows
use Rattle.sq_lookup.specs.contracts.waiters.Waiters as waiters
use Rattle.sq_lookup.specs.contracts.lookups.Lookups as lookups
use Rattle.sq_class.specs.contracts.parts.Part as part
use Rattle.sq_class.specs.contracts.parts.Part.TheInside as part_inside
use Rattle.sq_epochs.specs.contracts.epoch.Epoch as epoch
use Rattle.sq_epochs.specs.contracts.epoch.Epoch.TheInside as epoch_inside
use Rattle.sq_epochs.specs.contracts.homes.Homes as homes
use Rattle.sq_epochs.specs.contracts.epochs.Epochs as epochs
use Rattle.sq_epochs.specs.contracts.epochs.Epochs.TheInside as epochs_inside
use Rattle.sq_checks.specs.contracts.slots.Slots as slots
use Rattle.sq_checks.specs.contracts.slots.Slots.TheInside as slots_inside
use Rattle.sq_checks.specs.contracts.spots.Spots as spots
use Rattle.sq_checks.specs.contracts.spots.Spots.TheInside as spots_inside
use Rattle.sq_checks.specs.contracts.positions.Position as position
use Rattle.sq_checks.specs.contracts.frames.Frames as frames
use Rattle.sq_checks.specs.contracts.frames.Frames.TheInside as frames_inside
use Rattle.sq_checks.specs.contracts.conns.Link as link
use Rattle.sq_checks.specs.contracts.counts.ConnCounts as counts
use Rattle.sq_checks.specs.contracts.counts.ConnCounts.TheInside as counts_inside
use Rattle.sq_checks.specs.contracts.conns.Conns as conns
use Rattle.sq_checks.specs.contracts.stages.CheckStage as stage
use Rattle.sq_checks.specs.contracts.check_state.CheckState as check_state
use Rattle.sq_checks.specs.contracts.check_state.CheckState.TheInside as check_state_inside
use Rattle.sq_checks.specs.contracts.open_check.OpenCheck as open_check
use Rattle.sq_checks.specs.contracts.open_check.OpenCheck.TheInside as open_check_inside
use Rattle.sq_checks.specs.contracts.open_checks.OpenChecks as open_checks
use Rattle.sq_engine.specs.contracts.current.Current as current
use Rattle.sq_engine.specs.contracts.current.Current.TheInside as current_inside
use Rattle.sq_engine.specs.contracts.engines.Engine as engine
use Rattle.sq_engine.specs.contracts.engines.Engine.TheInside as engine_inside
use Rattle.sq_journal.specs.declared.journal.Journal as journal
use Rattle.sq_notes.specs.contracts.notes.Notes as notes
use Rattle.sq_notes.specs.contracts.notes.Notes.TheInside as notes_inside
use Rattle.sq_desk.specs.declared.desks.DeskStart as first
use Rattle.sq_desk.specs.contracts.desks.Desk as desk
use Rattle.sq_desk.specs.contracts.desks.Desk.TheInside as desk_inside
use Rattle.sq_server.specs.declared.watched.Before as before
use Rattle.sq_server.specs.contracts.watched.Watched as watched

process_send : IsSend process.the_row
process_send = search (sendable, crosses) depth 40 fits 20000

procs_send : IsSend procs.the_row
procs_send = search (sendable, crosses, process_send) depth 40 fits 20000

farm_send : IsSend farm.the_row
farm_send = search (sendable, crosses, procs_send) depth 40 fits 20000

kept_send : IsSend kept.the_row
kept_send = search (sendable, crosses, HashMap-send, KeyRef-send, KeyRef-sync, List-send, Deed-send) depth 60 fits 40000

checks_send : IsSend checks.the_row
checks_send = search (sendable, crosses, BTreeMap-send) depth 40 fits 20000

keys_send : IsSend keys.the_row
keys_send = search (sendable, crosses, BTreeMap-send) depth 40 fits 20000

row_send : IsSend row.the_row
row_send = search (sendable, crosses, checks_send) depth 40 fits 20000

rows_send : IsSend rows.the_row
rows_send = search (sendable, crosses, BTreeMap-send, row_send) depth 40 fits 20000

waiters_send : IsSend waiters.the_row
waiters_send = search (sendable, crosses, BTreeMap-send) depth 40 fits 20000

lookups_send : IsSend lookups.the_row
lookups_send = search (sendable, keys_send, rows_send, waiters_send) depth 40 fits 20000

part_inside_send : IsSend part_inside.the_row
part_inside_send =
    let parts : FieldsHave IsSend (part_inside.the_type).parts =
    (search (sendable, kept_send), (search (sendable, lookups_send), (search (sendable, farm_send), tt))) in
    declared_send part_inside.the_type parts

part_send : IsSend part.the_row
part_send = view_send _ _ _ _ _ part_inside_send

epoch_inside_send : IsSend epoch_inside.the_row
epoch_inside_send =
    let parts : FieldsHave IsSend (epoch_inside.the_type).parts = (
      search (sendable, crosses) depth 40 fits 20000,
      (
        search (sendable, crosses, config_send, config_sync) depth 40 fits 20000,
        (
          search (sendable, crosses) depth 40 fits 20000,
          (search (sendable, Vec-send, part_send), (search (sendable, crosses) depth 40 fits 20000, tt)),
        ),
      ),
    ) in
    declared_send epoch_inside.the_type parts

epoch_send : IsSend epoch.the_row
epoch_send = view_send _ _ _ _ _ epoch_inside_send

homes_send : IsSend homes.the_row
homes_send = search (sendable, crosses) depth 40 fits 20000

epochs_inside_send : IsSend epochs_inside.the_row
epochs_inside_send =
    let parts : FieldsHave IsSend (epochs_inside.the_type).parts = (
      search (sendable, crosses) depth 40 fits 20000,
      (search (sendable, Vec-send, epoch_send), (search (sendable, homes_send), tt)),
    ) in
    declared_send epochs_inside.the_type parts

epochs_send : IsSend epochs.the_row
epochs_send = view_send _ _ _ _ _ epochs_inside_send

slots_inside_send : IsSend slots_inside.the_row
slots_inside_send =
    let parts : FieldsHave IsSend (slots_inside.the_type).parts = (
      search (sendable, crosses, config_send, config_sync) depth 40 fits 20000,
      (
        search (sendable, crosses) depth 40 fits 20000,
        (search (sendable, crosses) depth 40 fits 20000, (search (sendable, crosses) depth 40 fits 20000, tt)),
      ),
    ) in
    declared_send slots_inside.the_type parts

slots_send : IsSend slots.the_row
slots_send = view_send _ _ _ _ _ slots_inside_send

slots_inside_sync : IsSync slots_inside.the_row
slots_inside_sync =
    let parts : FieldsHave IsSync (slots_inside.the_type).parts = (
      search (sendable, crosses, config_send, config_sync) depth 40 fits 20000,
      (
        search (sendable, crosses) depth 40 fits 20000,
        (search (sendable, crosses) depth 40 fits 20000, (search (sendable, crosses) depth 40 fits 20000, tt)),
      ),
    ) in
    declared_sync slots_inside.the_type parts

slots_sync : IsSync slots.the_row
slots_sync = view_sync _ _ _ _ _ slots_inside_sync

spots_inside_send : IsSend spots_inside.the_row
spots_inside_send = search (sendable, crosses) depth 40 fits 20000

spots_send : IsSend spots.the_row
spots_send = view_send _ _ _ _ _ spots_inside_send

position_send : IsSend position.the_row
position_send = search (sendable, crosses, spots_send) depth 40 fits 20000

frames_inside_send : IsSend frames_inside.the_row
frames_inside_send =
    let parts : FieldsHave IsSend (frames_inside.the_type).parts = (
      search (sendable, crosses, slots_send, slots_sync) depth 40 fits 20000,
      (
        search (sendable, crosses) depth 40 fits 20000,
        (search (sendable, position_send), (search (sendable, crosses) depth 40 fits 20000, tt)),
      ),
    ) in
    declared_send frames_inside.the_type parts

frames_send : IsSend frames.the_row
frames_send = view_send _ _ _ _ _ frames_inside_send

link_send : IsSend link.the_row
link_send = search (sendable, crosses) depth 40 fits 20000

counts_inside_send : IsSend counts_inside.the_row
counts_inside_send = search (sendable, crosses, BTreeMap-send) depth 40 fits 20000

counts_send : IsSend counts.the_row
counts_send = view_send _ _ _ _ _ counts_inside_send

conns_send : IsSend conns.the_row
conns_send = search (sendable, crosses, BTreeMap-send, link_send, counts_send) depth 40 fits 20000

stage_send : IsSend stage.the_row
stage_send = search (sendable, crosses) depth 40 fits 20000

check_state_inside_send : IsSend check_state_inside.the_row
check_state_inside_send =
    let parts : FieldsHave IsSend (check_state_inside.the_type).parts = (
      search (sendable, crosses) depth 40 fits 20000,
      (
        search (sendable, crosses) depth 40 fits 20000,
        (
          search (sendable, crosses, config_send, config_sync) depth 40 fits 20000,
          (
            search (sendable, crosses) depth 40 fits 20000,
            (
              search (sendable, facts_send),
              (
                search (sendable, frames_send),
                (
                  search (sendable, crosses) depth 40 fits 20000,
                  (
                    search (sendable, crosses) depth 40 fits 20000,
                    (
                      search (sendable, stage_send),
                      (
                        search (sendable, crosses) depth 40 fits 20000,
                        (search (sendable, crosses) depth 40 fits 20000, tt),
                      ),
                    ),
                  ),
                ),
              ),
            ),
          ),
        ),
      ),
    ) in
    declared_send check_state_inside.the_type parts

check_state_send : IsSend check_state.the_row
check_state_send = view_send _ _ _ _ _ check_state_inside_send

open_check_inside_send : IsSend open_check_inside.the_row
open_check_inside_send =
    let parts : FieldsHave IsSend (open_check_inside.the_type).parts =
    (search (sendable, crosses, check_state_send) depth 40 fits 20000, tt) in
    declared_send open_check_inside.the_type parts

open_check_send : IsSend open_check.the_row
open_check_send = view_send _ _ _ _ _ open_check_inside_send

open_checks_send : IsSend open_checks.the_row
open_checks_send = search (sendable, crosses, BTreeMap-send, open_check_send) depth 40 fits 20000

current_inside_send : IsSend current_inside.the_row
current_inside_send =
    let parts : FieldsHave IsSend (current_inside.the_type).parts =
    (search (sendable, setup_send), (search (sendable, crosses, slots_send, slots_sync) depth 40 fits 20000, tt)) in
    declared_send current_inside.the_type parts

current_send : IsSend current.the_row
current_send = view_send _ _ _ _ _ current_inside_send

engine_inside_send : IsSend engine_inside.the_row
engine_inside_send =
    let parts : FieldsHave IsSend (engine_inside.the_type).parts = (
      search (sendable, conns_send),
      (
        search (sendable, open_checks_send),
        (
          search (sendable, crosses) depth 40 fits 20000,
          (
            search (sendable, crosses) depth 40 fits 20000,
            (
              search (sendable, epochs_send),
              (
                search (sendable, current_send),
                (
                  search (sendable, crosses) depth 40 fits 20000,
                  (
                    search (sendable, crosses) depth 40 fits 20000,
                    (search (sendable, crosses) depth 40 fits 20000, tt),
                  ),
                ),
              ),
            ),
          ),
        ),
      ),
    ) in
    declared_send engine_inside.the_type parts

engine_send : IsSend engine.the_row
engine_send = view_send _ _ _ _ _ engine_inside_send

notes_inside_send : (J : RattleType) (j : journal.Ghosts J.Denot) → IsSend J → IsSend (notes_inside.the_row J j)
notes_inside_send J j s =
    let parts : FieldsHave IsSend (notes_inside.the_type J j).parts =
    (search (sendable, param_send), (search sendable, (search sendable, (search sendable, tt)))) in
    declared_send (notes_inside.the_type J j) parts

notes_send : (J : RattleType) (j : journal.Ghosts J.Denot) → IsSend J → IsSend (notes.the_row J j)
notes_send J j s = view_send _ _ _ _ _ (notes_inside_send J j s)

desk_inside_send : (J F : RattleType) (j : journal.Ghosts J.Denot) (f : first.Ghosts F.Denot) → IsSend J → IsSend F
    → IsSend (desk_inside.the_row J F j f)
desk_inside_send J F j f s t =
    let parts : FieldsHave IsSend (desk_inside.the_type J F j f).parts =
    (search (sendable, engine_send), (search (sendable, notes_send), (search (sendable, crosses, param_send), tt))) in
    declared_send (desk_inside.the_type J F j f) parts

-- a desk over a journal that crosses threads does so, too
pub desk_send : (J F : RattleType) (j : journal.Ghosts J.Denot) (f : first.Ghosts F.Denot) → IsSend J → IsSend F
    → IsSend (desk.the_row J F j f)
desk_send J F j f s t = view_send _ _ _ _ _ (desk_inside_send J F j f s t)

-- and so does a journal that remembers whether it failed
pub watched_send : (J B : RattleType) (j : journal.Ghosts J.Denot) (b : before.Ghosts B.Denot) → IsSend J → IsSend B
    → IsSend (watched.the_row J B j b)
watched_send J B j b s t =
    let parts : FieldsHave IsSend (watched.the_type J B j b).parts =
    (search (sendable, param_send), (search sendable, (search (sendable, crosses, param_send), tt))) in
    declared_send (watched.the_type J B j b) parts
