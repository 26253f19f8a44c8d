-- What a migration writes, how it ends, and its openings.
use Rattle.std.proofs.Common.{◌≡◌, ◌⊎◌, inl, inr, ℕ, ◌+◌, ◌<◌, ◌≤◌, List, [], length, arith, Result, Ok, Err, Some, None, IfSome, true, false, refl, sym, ap, ◌∙◌, subst}
use Rattle.std.specs.declared.option.Option.{Option}
use Rattle.sq_outside.specs.Causes.{Rose, TakesBack}
use Rattle.sq_outside.specs.SourceLines.{lines}
use Rattle.sq_outside.specs.Told.{Texts}
use Rattle.sq_journal.specs.Journals.{journal_text}
use Rattle.sq_replay.specs.Runs.{Wrote}
use Rattle.sq_verify.specs.Migrating.{MigrateHasCauses, Migrates, Reading, read_journal}
use Rattle.sq_verify.specs.declared.migrating.MigrateFault.{MigrateFault}
use Rattle.sq_verify.specs.declared.migrating.MigrateFault.TheVariants as fault
use Rattle.sq_commands.specs.declared.ends.Status.{Status}
use Rattle.sq_commands.specs.declared.ends.Status.TheVariants as ends
use Rattle.sq_commands.specs.Commands.{migrated, migrated_end, migrated_output}
use Rattle.sq_commands.specs.Ends.{HasCauses, IsPlayedEnd, IsToldEnd, end_of, migrate_status}
use Rattle.sq_commands.specs.Outputs.{Delivers, IsSettled, failed_end, is_write_fault}
use Rattle.sq_commands.proofs.SettleLaws.{Breaks, Flushes, all_written, delivers_later, front_broken, front_written, lines_broken, lines_written, nothing_yet, told_end}

-- the last page

-- it was written
pub settled_ok : (base a b : Option (List ℕ)) (before after : ℕ) (page now : List ℕ) (read : Reading)
    (r : Result (Unit {0}) MigrateFault) → is_write_fault (migrate_status r) ≡ false → Flushes a b page now → now ≡ []
    → Migrates base a page read r → Delivers base b before after (migrated read) (migrate_status r)
settled_ok base a b before after page now read (Ok u) going flush n (whole, w) = (
  ap (λ t. migrated_end t (length read.history + 1)) (sym whole),
  all_written base b now (journal_text read.history) n (flush base (journal_text read.history) w),
)
settled_ok base a b before after page now read (Err (fault.Script line)) going flush n (whole, number, w) = (
  ap (λ k. ends.Script k) number ∙ ap (λ t. migrated_end t (length read.history + 1)) (sym whole),
  all_written base b now (journal_text read.history) n (flush base (journal_text read.history) w),
)
settled_ok base a b before after page now read (Err fault.ReadFault) going flush n w =
    lines_written base a b page now (journal_text read.history) before after flush n w
settled_ok base a b before after page now read (Err fault.WriteFault) going flush n w = absurd (cc)
settled_ok base a b before after page now read (Err fault.WantOfMemory) going flush n w =
    front_written base a b page now (journal_text read.history) flush n w

-- it could not be written
pub settled_err : (base a b : Option (List ℕ)) (before after : ℕ) (page : List ℕ) (read : Reading)
    (r : Result (Unit {0}) MigrateFault) → is_write_fault (migrate_status r) ≡ false → Breaks a b page
    → Rose before after
    → Migrates base a page read r → Delivers base b before after (migrated read) (failed_end (migrate_status r))
settled_err base a b before after page read (Ok u) going break rose (whole, w) =
    break base (journal_text read.history) w
settled_err base a b before after page read (Err (fault.Script line)) going break rose (whole, number, w) =
    break base (journal_text read.history) w
settled_err base a b before after page read (Err fault.ReadFault) going break rose w =
    lines_broken base a b page (journal_text read.history) before after break rose w
settled_err base a b before after page read (Err fault.WriteFault) going break rose w = absurd (cc)
settled_err base a b before after page read (Err fault.WantOfMemory) going break rose w =
    front_broken base a b page (journal_text read.history) break w

-- one whose output could not be written stays so
pub settled_fault : (base a : Option (List ℕ)) (before now : ℕ) (page : List ℕ) (read : Reading)
    (r : Result (Unit {0}) MigrateFault) → is_write_fault (migrate_status r) ≡ true → Migrates base a page read r
    → Delivers base a before now (migrated read) (migrate_status r)
settled_fault base a before now page read (Ok u) e m = absurd (cc)
settled_fault base a before now page read (Err (fault.Script line)) e m = absurd (cc)
settled_fault base a before now page read (Err fault.ReadFault) e m = absurd (cc)
settled_fault base a before now page read (Err fault.WriteFault) e m = m
settled_fault base a before now page read (Err fault.WantOfMemory) e m = absurd (cc)

-- whatever the source has left, by the status that is settled
pub migrate_told : (left a mid b : Option (List ℕ)) (before later now : ℕ) (page filled : List ℕ)
    (r : Result (Unit {0}) MigrateFault) (result : Status) → page ≡ [] → before ≤ later
    → IfSome left (λ bytes. (base : Option (List ℕ)) → Wrote base a page []
    → Migrates base mid filled (read_journal (lines bytes)) r)
    → ((base : Option (List ℕ)) (read : Reading) → Migrates base mid filled read r
    → Delivers base b later now (migrated read) result)
    → IfSome left (λ bytes. Delivers a b before now (migrated_output bytes) result)
migrate_told None a mid b before later now page filled r result none le m settle = tt
migrate_told (Some bytes) a mid b before later now page filled r result none le m settle =
    delivers_later a b before later now (migrated_output bytes) result le
    (settle a (read_journal (lines bytes)) (m a (nothing_yet a page none)))

-- causes

rose_back : (f0 f1 f2 s0 s1 : ℕ) → f1 ≡ f0 → s0 ≡ 0 → (0 < s1 → Rose f1 f2) → Rose s0 s1 → Rose f0 f2
rose_back f0 f1 f2 s0 s1 is none back rose = let up : Rose f1 f2 = back (omega (arith, rose, none)) in
    omega (arith, up, is)

quiet_files : (f0 f1 f2 s0 s1 : ℕ) → f1 ≡ f0 → s0 ≡ 0 → (s1 ≡ 0 → f2 ≡ f1) → s1 ≡ s0 → f2 ≡ f0
quiet_files f0 f1 f2 s0 s1 is none same quiet = same (quiet ∙ none) ∙ is

causes_of : (f0 f1 f2 s0 s1 o0 o1 : ℕ) (r : Result (Unit {0}) MigrateFault) → f1 ≡ f0 → s0 ≡ 0
    → MigrateHasCauses s0 s1 o0 o1 r → TakesBack f1 f2 s1 → HasCauses f0 f2 o0 o1 (migrate_status r)
causes_of f0 f1 f2 s0 s1 o0 o1 (Ok u) is none ran back = record {
  files_later = let b = back.later in omega (arith, is, b);
  out_later = ran.out_later;
  read = λ e. absurd (cc);
  write = λ e. absurd (cc);
  files_quiet = λ n. quiet_files f0 f1 f2 s0 s1 is none back.same (ran.quiet (λ x. absurd (cc)));
  out_quiet = λ told. ran.out_quiet (λ x. absurd (cc));
}
causes_of f0 f1 f2 s0 s1 o0 o1 (Err (fault.Script line)) is none ran back = record {
  files_later = let b = back.later in omega (arith, is, b);
  out_later = ran.out_later;
  read = λ e. absurd (cc);
  write = λ e. absurd (cc);
  files_quiet = λ n. quiet_files f0 f1 f2 s0 s1 is none back.same (ran.quiet (λ x. absurd (cc)));
  out_quiet = λ told. ran.out_quiet (λ x. absurd (cc));
}
causes_of f0 f1 f2 s0 s1 o0 o1 (Err fault.ReadFault) is none ran back = record {
  files_later = let b = back.later in omega (arith, is, b);
  out_later = ran.out_later;
  read = λ e. rose_back f0 f1 f2 s0 s1 is none back.rose (ran.read refl);
  write = λ e. absurd (cc);
  files_quiet = λ n. absurd (n refl);
  out_quiet = λ told. absurd told;
}
causes_of f0 f1 f2 s0 s1 o0 o1 (Err fault.WriteFault) is none ran back = record {
  files_later = let b = back.later in omega (arith, is, b);
  out_later = ran.out_later;
  read = λ e. absurd (cc);
  write = λ e. ran.write refl;
  files_quiet = λ n. quiet_files f0 f1 f2 s0 s1 is none back.same (ran.quiet (λ x. absurd (cc)));
  out_quiet = λ told. absurd told;
}
causes_of f0 f1 f2 s0 s1 o0 o1 (Err fault.WantOfMemory) is none ran back = record {
  files_later = let b = back.later in omega (arith, is, b);
  out_later = ran.out_later;
  read = λ e. absurd (cc);
  write = λ e. absurd (cc);
  files_quiet = λ n. quiet_files f0 f1 f2 s0 s1 is none back.same (ran.quiet (λ x. absurd (cc)));
  out_quiet = λ told. absurd told;
}

-- the causes at the end of the migration, by those before its last page
settled_causes : (f0 f2 o0 o1 o2 : ℕ) (end result : Status) → HasCauses f0 f2 o0 o1 end → IsSettled end result
    → (end ≡ ends.ReadFault → result ≡ ends.ReadFault) → o1 ≤ o2
    → (result ≡ ends.WriteFault → (end ≡ ends.WriteFault) ⊎ Rose o1 o2) → (IsToldEnd (end_of result) → o2 ≡ o1)
    → HasCauses f0 f2 o0 o2 result
settled_causes f0 f2 o0 o1 o2 end result c settled kept later write quiet = record {
  files_later = c.files_later;
  out_later = let a = c.out_later in omega (arith, a, later);
  read = λ e. c.read (read_end end result settled e);
  write = λ e. rose_later (write e);
  files_quiet = λ n. c.files_quiet (λ e. n (kept e));
  out_quiet = λ told. quiet told
      ∙ c.out_quiet (subst (λ (s : Status). IsToldEnd (end_of s)) (told_end end result settled told) told);
}
  where
    read_end : (end result : Status) → IsSettled end result → result ≡ ends.ReadFault → end ≡ ends.ReadFault
    read_end end result (inl same) e = sym same ∙ e
    read_end end result (inr wrote) e = absurd (let both : ends.WriteFault ≡ ends.ReadFault = sym wrote ∙ e in cc)

    rose_later : (end ≡ ends.WriteFault) ⊎ Rose o1 o2 → Rose o0 o2
    rose_later (inl e) = let rose : Rose o0 o1 = c.write e in omega (arith, rose, later)
    rose_later (inr rose) = let a = c.out_later in omega (arith, rose, a)

pub migrate_causes : (f0 f1 f2 s0 s1 o0 o1 o2 : ℕ) (r : Result (Unit {0}) MigrateFault) (result : Status) → f1 ≡ f0
    → s0 ≡ 0 → MigrateHasCauses s0 s1 o0 o1 r → TakesBack f1 f2 s1
    → IsSettled (migrate_status r) result → (migrate_status r ≡ ends.ReadFault → result ≡ ends.ReadFault) → o1 ≤ o2
    → (result ≡ ends.WriteFault → (migrate_status r ≡ ends.WriteFault) ⊎ Rose o1 o2)
    → (IsToldEnd (end_of result) → o2 ≡ o1) → HasCauses f0 f2 o0 o2 result
migrate_causes f0 f1 f2 s0 s1 o0 o1 o2 r result same none ran back settled kept later write quiet =
    settled_causes f0 f2 o0 o1 o2 (migrate_status r) result (causes_of f0 f1 f2 s0 s1 o0 o1 r same none ran back)
    settled kept later write quiet

-- how it ends
played : (texts : Texts) (name : List ℕ) (r : Result (Unit {0}) MigrateFault)
    → IsPlayedEnd texts name (migrate_status r)
played texts name (Ok u) = tt
played texts name (Err (fault.Script line)) = tt
played texts name (Err fault.ReadFault) = tt
played texts name (Err fault.WriteFault) = tt
played texts name (Err fault.WantOfMemory) = tt

pub migrate_played : (texts : Texts) (name : List ℕ) (r : Result (Unit {0}) MigrateFault) (result : Status)
    → IsSettled (migrate_status r) result → IsPlayedEnd texts name result
migrate_played texts name r result (inl is) = subst (IsPlayedEnd texts name) (sym is) (played texts name r)
migrate_played texts name r result (inr is) = subst (IsPlayedEnd texts name) (sym is) tt
