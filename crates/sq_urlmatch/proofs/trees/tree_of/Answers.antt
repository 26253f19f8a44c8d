use Rattle.std.proofs.Common.{◌≡◌, true}
use Rattle.std.proofs.lemmas.Str.{is_utf8-from_IsUtf8}
use Rattle.std.specs.Str.{is_utf8}
use Rattle.sq_urlmatch.proofs.ReadLaws.{alike_of_Reads, bad_of_Refuses, bad_of_bytes, good_of_Reads}
use Rattle.sq_urlmatch.proofs.trees.tree_of.Goals as goal

pub returns-in_default-clause-bad : goal.returns-in_default-clause-bad
returns-in_default-clause-bad c = λ _. bad_of_bytes (record { pattern = c.args.pattern.now; fold = c.args.fold })
    c.in_default.ensures.cases.0

pub returns-in-Ok-parse-clause-alike : goal.returns-in-Ok-parse-clause-alike
returns-in-Ok-parse-clause-alike c =
    let reads = rw (c.default-config.ensures, c.in-Ok.ensures.cases.0) at c.in-Ok-parse.ensures.ok in
    alike_of_Reads (record { pattern = c.args.pattern.now; fold = c.args.fold }) c.in-Ok-parse.parsed.hir _ reads

pub returns-in-Ok-parse-clause-good : goal.returns-in-Ok-parse-clause-good
returns-in-Ok-parse-clause-good c =
    let reads = rw (c.default-config.ensures, c.in-Ok.ensures.cases.0) at c.in-Ok-parse.ensures.ok in
    let utf8 : is_utf8 c.args.pattern.now ≡ true = is_utf8-from_IsUtf8 _ c.in-Ok.ensures.cases.1 in
    good_of_Reads (record { pattern = c.args.pattern.now; fold = c.args.fold }) c.in-Ok-parse.parsed.hir _ utf8 reads

pub returns-in_default-kind : goal.returns-in_default-kind
returns-in_default-kind c =
    let refused = rw (c.default-config.ensures, c.in-Ok.ensures.cases.0) at c.in-Err.ensures.err in
    record {
      alike = tt;
      good = tt;
      bad = λ _. bad_of_Refuses (record { pattern = c.args.pattern.now; fold = c.args.fold }) _
          c.in_default-kind.not-OutOfMemory refused;
    }
