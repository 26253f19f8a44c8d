use Rattle.std.proofs.Common.{◌≡◌, false, None, rules}
use Rattle.sq_outside_mem.specs.Memory.{text_at, files_list, files_lists_next, files_fails_next}
use Rattle.sq_outside_mem.proofs.Failing.{absent_no_fault}
use Rattle.sq_outside_mem.proofs.mem_files.MemFilesFiles.open.Goals as goal

pub returns-in-None-clause-fails : goal.returns-in-None-clause-fails
returns-in-None-clause-fails c =
    let self = c.args.self.now in
    let name = c.args.name.now in
    let listed : files_lists_next self ≡ false = cc in
    let absent : text_at (files_list self) name ≡ None = search rules in
    let stays : files_fails_next self name ≡ false = absent_no_fault _ _ _ listed absent in
    λ fails. absurd (cc)
