-- A journal that was verified is the text of a history of which all is so that is so of every run.
use Rattle.std.proofs.Common.{◌≡◌, ℕ, ◌+◌, ◌≤◌, max, List, [], ◌∷◌, ◌++◌, length, length-append, Bool, true, false, ◌&&◌, nat_le, if◌then◌else◌, bytes_eq, codes, is_some, Option, Some, None, IfSome, Result, Ok, Err, refl, sym, ap, subst, ◌∙◌, arith}
use Rattle.std.specs.Option.{option_map}
use Rattle.std.proofs.lemmas.Bool.{and_parts}
use Rattle.sq_base.specs.Targets.{Target, target_of}
use Rattle.sq_base.specs.declared.requests.Field.{Field}
use Rattle.sq_outside.specs.SourceLines.{SourceLine, lines}
use Rattle.sq_request.specs.Heads.{at_target, most_fields, request_with}
use Rattle.sq_request.specs.Written.{is_written}
use Rattle.sq_machine.specs.declared.entries.Event.{Event}
use Rattle.sq_machine.specs.declared.entries.Event.TheVariants.{Ask, Begin, Reconfigure}
use Rattle.sq_rules.specs.Configurations.{Configuration, IsConfiguration}
use Rattle.sq_machine.specs.Entries.{History, Noted, entry_at}
use Rattle.sq_machine.specs.Machine.{Legal}
use Rattle.sq_machine.specs.Events.{has_target, is_begin}
use Rattle.sq_machine.specs.Readings.{current, latest}
use Rattle.sq_journal.specs.EntryText.{written}
use Rattle.sq_journal.specs.Journals.{journal_text, numbered_lines, version_line}
use Rattle.sq_model.proofs.PromiseLaws.{legal_more}
use Rattle.sq_replay.specs.Headline.{AreAccepted, IsAccepted, IsTrue}
use Rattle.sq_replay.proofs.HeadlineLaws.{history_true}
use Rattle.sq_verify.specs.declared.findings.Finding.{Finding}
use Rattle.sq_verify.specs.declared.findings.Finding.TheVariants as finding
use Rattle.sq_verify.specs.declared.halts.Halt.{Halt}
use Rattle.sq_verify.specs.declared.halts.Halt.TheVariants as halt
use Rattle.sq_verify.specs.declared.versions.Version.{Version}
use Rattle.sq_verify.specs.declared.versions.Version.TheVariants as version
use Rattle.sq_verify.specs.Audits.{Audits, IsAudited, behind_end, bytes_of, lines_in}
use Rattle.sq_verify.specs.Promised.{AreAhead, Comes, HasNext, IsNext, MayFollow}
use Rattle.sq_verify.specs.JournalLines.{is_version_line, line_in, noted_in}
use Rattle.sq_verify.specs.Judging.{Judged, epochs_of, first_line, go_on, judged, judged_first, judged_lines, judged_one, judged_two, later_line, named_from, named_in}
use Rattle.sq_verify.proofs.FirstLaws.{epochs_good, first_ok}
use Rattle.sq_verify.proofs.LaterLaws.{ahead_next, later_ahead, later_ok}
use Rattle.sq_verify.proofs.TextLaws.{eq_of, lines_back, lines_next}

-- what stays so behind each line

-- what is so of a journal under way
pub record IsUnderWay (v : Version) (configs : List Configuration) (all : List ℕ) (ls : List SourceLine)
    (h : History) : Type 0 where
  pub legal : Legal configs h
  pub accepted : AreAccepted configs h
  pub ahead : AreAhead v configs h ls
  pub text : lines_in v h ++ bytes_of ls ≡ all

-- an event that may follow begins nothing
begins_none : (event : Event) → MayFollow event → is_begin event ≡ false
begins_none (Begin offset) may = absurd may
begins_none event may = refl

with_target : (method target : List ℕ) (fields : List Field) (o : Option Target) → target_of method target ≡ o
    → is_some (option_map (at_target method target 1 fields) o) ≡ true
    → is_some (target_of method target) ≡ true
with_target method target fields None e s = absurd (cc)
with_target method target fields (Some t) e s = ap is_some e

if_made : (method target : List ℕ) (fields : List Field) (b : Bool)
    → is_some (if b then request_with method target 1 fields else None) ≡ true
    → is_some (target_of method target) ≡ true
if_made method target fields true e = with_target method target fields (target_of method target) refl e
if_made method target fields false e = absurd (cc)

-- a request that is made has a target of its method's form
formed : (event : Event) → MayFollow event → has_target event ≡ true
formed (Ask conn method target fields) may = if_made method target fields
    (is_written method target 1 fields && nat_le (length fields) most_fields) may
formed event may = refl

-- the text of a reconfiguration gives the configuration of the next epoch
accepts : (configs : List Configuration) (h : History) (event : Event) → MayFollow event → HasNext configs h event
    → IsAccepted configs h event
accepts configs h (Reconfigure text) may next = (may.0, may.1, next may.0 may.1)
accepts configs h event may next = tt

has_next : (configs : List Configuration) (h : History) (o : Option Noted) (e : Noted) → o ≡ Some e → IsNext configs h o
    → HasNext configs h e.event
has_next configs h o e is next = subst (IsNext configs h) is next

pub later_stays : (v : Version) (configs : List Configuration) (all : List ℕ) (l : SourceLine) (ls : List SourceLine)
    (h : History) (place : ℕ) (t : History) → later_line v configs h place l ≡ Ok t
    → IsUnderWay v configs all (l ∷ ls) h → IsUnderWay v configs all ls t
later_stays v configs all l ls h place t e u =
    let ok = later_ok v configs h place l t e in
    let i = ok.1 in
    let now = max i.stated.moment (latest h) in
    let entry = entry_at now i.stated.event i.answer in
    let next = has_next configs h (noted_in v l.bytes) i.stated i.noted_is (ahead_next v configs h l ls u.ahead) in
    record {
      legal = subst (Legal configs) i.history_is
          (legal_more configs h now i.stated.event i.answer u.legal (begins_none i.stated.event i.may)
          (formed i.stated.event i.may) (omega arith) i.next_is);
      accepted = subst (AreAccepted configs) i.history_is (accepts configs h i.stated.event i.may next, u.accepted);
      ahead = later_ahead v configs h t l ls i u.ahead;
      text = subst (λ (g : History). lines_in v g ++ bytes_of ls ≡ all) i.history_is
          (lines_next v h entry l ls place ok.0 (eq_of (line_in v h entry) l.bytes i.text_is) ∙ u.text);
    }

on_keeps : (P : History → Type 0) (v : Version) (h : History) (line : List ℕ) (step step' : Result History Halt)
    (go : History → Judged) (n : ℕ) → step ≡ step'
    → ((t : History) → step ≡ Ok t → (go t).found ≡ finding.Verified n → P (go t).history)
    → (go_on v h line step' go).found ≡ finding.Verified n → P (go_on v h line step' go).history
on_keeps P v h line step (Ok t) go n same more is = more t same is
on_keeps P v h line step (Err halt.NoLine) go n same more is = absurd (cc)
on_keeps P v h line step (Err (halt.Differs text)) go n same more is = absurd (cc)
on_keeps P v h line step (Err halt.WantOfMemory) go n same more is = absurd (cc)

-- where each line goes on, what was found counts the entries, and no line is left
abbrev IsDone : Version → List Configuration → List ℕ → ℕ → History → Type 0
IsDone v configs all n h = IsUnderWay v configs all [] h × (length h ≡ n)

counted : (h : History) (n : ℕ) → finding.Verified (length h) ≡ finding.Verified n → length h ≡ n
counted h n e = cc

lines_keep : (v : Version) (configs : List Configuration) (all : List ℕ) (n : ℕ) (h : History) (place : ℕ)
    (ls : List SourceLine) → IsUnderWay v configs all ls h
    → (judged_lines v configs h place ls).found ≡ finding.Verified n
    → IsDone v configs all n (judged_lines v configs h place ls).history
lines_keep v configs all n h place [] u is = (u, counted h n is)
lines_keep v configs all n h place (l ∷ ls) u is =
    let step = later_line v configs h place l in
    on_keeps (IsDone v configs all n) v h l.bytes step step
    (λ t. judged_lines v configs t (place + length l.bytes + 1) ls) n refl
    (λ t e more. lines_keep v configs all n t (place + length l.bytes + 1) ls
    (later_stays v configs all l ls h place t e u) more) is

none_yet : (v : Version) (bytes : List ℕ) → lines_in v [] ++ bytes ≡ bytes
none_yet version.One bytes = refl
none_yet version.Two bytes = refl

-- the machine has begun
first_under_way : (v : Version) (config : Configuration) (place : ℕ) (l : SourceLine) (ls : List SourceLine)
    (t : History) → first_line v place l ≡ Ok t
    → IsUnderWay v (epochs_of v config (l ∷ ls)) (bytes_of (l ∷ ls)) ls t
first_under_way v config place l ls t e =
    let ok = first_ok v place l t e in
    let i = ok.1 in
    let configs = epochs_of v config (l ∷ ls) in
    let named : named_from v (l ∷ ls) ≡ named_from v ls =
    ap (λ (o : Option Noted). named_in o (named_from v ls)) i.noted_is ∙ i.begins (named_from v ls) in
    record {
      legal = subst (Legal configs) i.history_is (i.starts, i.answer_is);
      accepted = subst (AreAccepted configs) i.history_is (i.accepted configs, tt);
      ahead = record {
        begun = config ∷ [];
        count_is = sym (sym (ap current i.history_is) ∙ i.current_is);
        configs_are = ap (λ (xs : List Configuration). config ∷ xs) named;
      };
      text = subst (λ (g : History). lines_in v g ++ bytes_of ls ≡ bytes_of (l ∷ ls)) i.history_is
          (lines_next v [] i.entry l ls place ok.0 (eq_of (line_in v [] i.entry) l.bytes i.text_is)
          ∙ none_yet v (bytes_of (l ∷ ls)));
    }

first_keeps : (v : Version) (config : Configuration) (n place : ℕ) (ls : List SourceLine)
    → (judged_first v (epochs_of v config ls) place ls).found ≡ finding.Verified n
    → IsDone v (epochs_of v config ls) (bytes_of ls) n (judged_first v (epochs_of v config ls) place ls).history
first_keeps v config n place [] is = absurd (cc)
first_keeps v config n place (l ∷ ls) is =
    let step = first_line v place l in
    on_keeps (IsDone v (epochs_of v config (l ∷ ls)) (bytes_of (l ∷ ls)) n) v [] l.bytes step step
    (λ t. judged_lines v (epochs_of v config (l ∷ ls)) t (place + length l.bytes + 1) ls) n refl
    (λ t e more. lines_keep v (epochs_of v config (l ∷ ls)) (bytes_of (l ∷ ls)) n t (place + length l.bytes + 1) ls
    (first_under_way v config place l ls t e) more) is

-- the headline

reached : (v : Version) (configs : List Configuration) (h : History) (ls : List SourceLine) → AreAhead v configs h ls
    → current h ≤ length configs
reached v configs h ls a =
    let is : length configs ≡ length a.begun + length (named_from v ls) =
    ap (λ (xs : List Configuration). length xs) a.configs_are ∙ length-append a.begun (named_from v ls) in
    let count = a.count_is in
    omega arith

journal_is : (h : History) (configs : List Configuration) → Legal configs h
    → journal_text h ≡ version_line ++ numbered_lines h
journal_is [] configs legal = absurd legal
journal_is (e ∷ h) configs legal = refl

nothing_more : (text all : List ℕ) → text ++ bytes_of [] ≡ all → text ≡ all
nothing_more text all e = sym (append_nil_is text) ∙ e
  where
    append_nil_is : (xs : List ℕ) → xs ++ [] ≡ xs
    append_nil_is [] = refl
    append_nil_is (x ∷ xs) = ap (λ (ys : List ℕ). x ∷ ys) (append_nil_is xs)

true_of : (v : Version) (config : Configuration) (ls : List SourceLine) (all : List ℕ) (n : ℕ) (h : History)
    → IsConfiguration config → (d : IsDone v (epochs_of v config ls) all n h) → IsTrue (epochs_of v config ls) h
true_of v config ls all n h good d =
    history_true (epochs_of v config ls) h (epochs_good v config ls good)
    (record { legal = d.0.legal; accepted = d.0.accepted; reached = reached v (epochs_of v config ls) h [] d.0.ahead })

one_audited : (config : Configuration) (ls : List SourceLine) (bytes : List ℕ) (n : ℕ) → IsConfiguration config
    → bytes_of ls ≡ bytes → (judged_one config ls).found ≡ finding.Verified n → IsAudited config bytes n
one_audited config ls bytes n good same is =
    let d = first_keeps version.One config n 0 ls is in
    record {
      version = version.One;
      more = named_from version.One ls;
      history = (judged_one config ls).history;
      text_is = nothing_more (written (judged_one config ls).history) (bytes_of ls) d.0.text ∙ same;
      count_is = d.1;
      is_true = true_of version.One config ls (bytes_of ls) n (judged_one config ls).history good d;
    }

two_audited : (config : Configuration) (l : SourceLine) (ls : List SourceLine) (bytes : List ℕ) (n : ℕ)
    → IsConfiguration config → is_version_line l ≡ true → bytes_of (l ∷ ls) ≡ bytes
    → (judged_two config l ls).found ≡ finding.Verified n
    → IsAudited config bytes n
two_audited config l ls bytes n good version_is same is =
    let h = (judged_two config l ls).history in
    let d = first_keeps version.Two config n (length l.bytes + 1) ls is in
    let parts = and_parts l.ended (bytes_eq l.bytes (codes "journal 2")) version_is in
    let head : bytes_of (l ∷ ls) ≡ version_line ++ bytes_of ls =
    ap (λ (b : Bool). l.bytes ++ behind_end b (bytes_of ls)) parts.0
    ∙ ap (λ (t : List ℕ). t ++ 10 ∷ bytes_of ls) (eq_of l.bytes (codes "journal 2") parts.1) in
    record {
      version = version.Two;
      more = named_from version.Two ls;
      history = h;
      text_is = journal_is h (epochs_of version.Two config ls) d.0.legal
          ∙ ap (λ (t : List ℕ). version_line ++ t) (nothing_more (numbered_lines h) (bytes_of ls) d.0.text) ∙ sym head
          ∙ same;
      count_is = d.1;
      is_true = true_of version.Two config ls (bytes_of ls) n h good d;
    }

either : (config : Configuration) (l : SourceLine) (ls : List SourceLine) (bytes : List ℕ) (n : ℕ) (b : Bool)
    → IsConfiguration config → is_version_line l ≡ b → bytes_of (l ∷ ls) ≡ bytes
    → (if b then judged_two config l ls else judged_one config (l ∷ ls)).found ≡ finding.Verified n
    → IsAudited config bytes n
either config l ls bytes n true good v same is = two_audited config l ls bytes n good v same is
either config l ls bytes n false good v same is = one_audited config (l ∷ ls) bytes n good same is

by_lines : (config : Configuration) (ls : List SourceLine) (bytes : List ℕ) (n : ℕ) → IsConfiguration config
    → bytes_of ls ≡ bytes → (judged config ls).found ≡ finding.Verified n → IsAudited config bytes n
by_lines config [] bytes n good same is = absurd (cc)
by_lines config (l ∷ ls) bytes n good same is = either config l ls bytes n (is_version_line l) good refl same is

-- a journal that is verified is audited
pub audited : (config : Configuration) (bytes : List ℕ) (n : ℕ) → IsConfiguration config
    → (judged config (lines bytes)).found ≡ finding.Verified n → IsAudited config bytes n
audited config bytes n good is = by_lines config (lines bytes) bytes n good (lines_back bytes) is

audits_known : (config : Configuration) (left : Option (List ℕ)) (n : ℕ) → IsConfiguration config
    → IfSome left (λ bytes. (judged config (lines bytes)).found ≡ finding.Verified n)
    → IfSome left (λ bytes. IsAudited config bytes n)
audits_known config None n good is = tt
audits_known config (Some bytes) n good is = audited config bytes n good is

-- whatever is found of a journal
pub comes_audited : (config : Configuration) (left : Option (List ℕ)) (f : Finding) → IsConfiguration config
    → IfSome left (λ bytes. Comes (judged config (lines bytes)) f) → Audits config left f
comes_audited config left (finding.Verified n) good comes = audits_known config left n good comes
comes_audited config left (finding.Script line) good comes = tt
comes_audited config left (finding.Differs line machine journal) good comes = tt
comes_audited config left finding.ReadFault good comes = tt
comes_audited config left finding.WantOfMemory good comes = tt
