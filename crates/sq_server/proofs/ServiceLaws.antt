-- How a server ends, and what came of it.
use Rattle.std.proofs.Common.{◌≡◌, ◌⊎◌, inl, inr, ℕ, ℤ, pos, ◌+◌, ◌<◌, ◌≤◌, List, [], ◌∷◌, ◌++◌, All, Bool, true, false, min, Result, Ok, Err, Some, None, IfSome, refl, sym, ap, ◌∙◌, subst, unwrap_or, arith}
use Rattle.std.specs.Option.{ForSome}
use Rattle.std.specs.declared.option.Option.{Option}
use Rattle.std.specs.Io.KnownBytes.{Appends}
use Rattle.std.proofs.KnownBytes.{Appends-nil, Appends-trans}
use Rattle.std.proofs.lemmas.List.Elements.{All-append, All-cons, All-nil}
use Rattle.sq_outside.specs.Causes.{Rose, TakesBack, count_limit}
use Rattle.sq_outside.specs.Input.{OpensAtMost}
use Rattle.sq_outside.specs.Output.{Grew, IsProperPrefix, IsWritten}
use Rattle.sq_outside.proofs.Writing.{IsPrefix_nil}
use Rattle.sq_outside.specs.Told.{IsNotTold, Opening, Openings, Texts}
use Rattle.sq_rules.specs.Configurations.{Configuration}
use Rattle.sq_machine.specs.Entries.{History}
use Rattle.sq_machine.specs.Readings.{current}
use Rattle.sq_calls.specs.declared.faults.DeskFault.{DeskFault}
use Rattle.sq_calls.specs.declared.faults.DeskFault.TheVariants as desk
use Rattle.sq_desk.specs.Calling.{IsUnbegun}
use Rattle.sq_calls.specs.Legality.{Beginning, IsLegal}
use Rattle.sq_control.specs.declared.panel.PanelEnd.{PanelEnd}
use Rattle.sq_control.specs.declared.panel.PanelEnd.TheVariants as panel
use Rattle.sq_control.specs.declared.control.Reread.{Reread}
use Rattle.sq_control.specs.Attending.{AreReread, FilesSeen, Runs, Seen, Streams}
use Rattle.sq_commands.specs.Commands.{conf_stage}
use Rattle.sq_commands.specs.Ends.{Comes, IfMissing, IsFault, IsOpenEnd, last_line}
use Rattle.sq_commands.specs.Opened.{IsOnce, first_text}
use Rattle.sq_commands.specs.Outputs.{IsSettled}
use Rattle.sq_commands.specs.Serving.{Server}
use Rattle.sq_commands.specs.declared.ends.Status.{Status}
use Rattle.sq_commands.specs.declared.ends.Status.TheVariants as ends
use Rattle.sq_server.specs.Service.{CameTo, EndsByLine, EndsOver, EndsWell, IsConf, IsNoteEnd, IsServed, IsServerEnd, IsService, IsServiceEnd, IsTrueOrEmpty, IsTrueOver, IsUnservedEnd, RunsOrNot, beginning_of, ended_status, port_of, server_seen, stopped_line}
use Rattle.sq_commands.proofs.EndLaws.{empty_line}
use Rattle.sq_replay.specs.Openings.{Added}
use Rattle.sq_replay.proofs.OpenedLaws.{Added_map, Added_none, Added_one, Added_then}
use Rattle.sq_server.proofs.TrueLaws.{journal_true, true_ran, true_unran}

pub stopped_is : (e : PanelEnd) (stopped failed : Bool) → ended_status e stopped failed ≡ ends.JournalFault
    → stopped ≡ true
stopped_is panel.ReadFault stopped failed e = absurd (cc)
stopped_is panel.WriteFault stopped failed e = absurd (cc)
stopped_is panel.Ended true failed e = refl
stopped_is panel.Ended false true e = absurd (cc)
stopped_is panel.Ended false false e = absurd (cc)
stopped_is panel.Faulted true failed e = refl
stopped_is panel.Faulted false true e = absurd (cc)
stopped_is panel.Faulted false false e = absurd (cc)

pub failed_is : (e : PanelEnd) (stopped failed : Bool) → ended_status e stopped failed ≡ ends.Net → failed ≡ true
failed_is panel.ReadFault stopped failed e = absurd (cc)
failed_is panel.WriteFault stopped failed e = absurd (cc)
failed_is panel.Ended true failed e = absurd (cc)
failed_is panel.Ended false true e = refl
failed_is panel.Ended false false e = absurd (cc)
failed_is panel.Faulted true failed e = absurd (cc)
failed_is panel.Faulted false true e = refl
failed_is panel.Faulted false false e = absurd (cc)

ended_ok : (e : PanelEnd) (stopped failed : Bool) → ended_status e stopped failed ≡ ends.Ok → e ≡ panel.Ended
ended_ok panel.ReadFault stopped failed e = absurd (cc)
ended_ok panel.WriteFault stopped failed e = absurd (cc)
ended_ok panel.Ended stopped failed e = refl
ended_ok panel.Faulted true failed e = absurd (cc)
ended_ok panel.Faulted false true e = absurd (cc)
ended_ok panel.Faulted false false e = absurd (cc)

ended_read : (e : PanelEnd) (stopped failed : Bool) → ended_status e stopped failed ≡ ends.ReadFault
    → e ≡ panel.ReadFault
ended_read panel.ReadFault stopped failed e = refl
ended_read panel.WriteFault stopped failed e = absurd (cc)
ended_read panel.Ended true failed e = absurd (cc)
ended_read panel.Ended false true e = absurd (cc)
ended_read panel.Ended false false e = absurd (cc)
ended_read panel.Faulted true failed e = absurd (cc)
ended_read panel.Faulted false true e = absurd (cc)
ended_read panel.Faulted false false e = absurd (cc)

ended_write : (e : PanelEnd) (stopped failed : Bool) → ended_status e stopped failed ≡ ends.WriteFault
    → e ≡ panel.WriteFault
ended_write panel.ReadFault stopped failed e = absurd (cc)
ended_write panel.WriteFault stopped failed e = refl
ended_write panel.Ended true failed e = absurd (cc)
ended_write panel.Ended false true e = absurd (cc)
ended_write panel.Ended false false e = absurd (cc)
ended_write panel.Faulted true failed e = absurd (cc)
ended_write panel.Faulted false true e = absurd (cc)
ended_write panel.Faulted false false e = absurd (cc)

ended_server : (e : PanelEnd) (stopped failed : Bool) → IsServerEnd (ended_status e stopped failed)
ended_server panel.ReadFault stopped failed = tt
ended_server panel.WriteFault stopped failed = tt
ended_server panel.Ended true failed = tt
ended_server panel.Ended false true = tt
ended_server panel.Ended false false = tt
ended_server panel.Faulted true failed = tt
ended_server panel.Faulted false true = tt
ended_server panel.Faulted false false = tt

-- where a server ends by none of the ends of a note that failed, none failed
noted_quiet : (e : PanelEnd) (stopped failed : Bool) (jb jn : ℕ) → (stopped ≡ false → jn ≡ jb)
    → (IsNoteEnd (ended_status e stopped failed) → ⊥) → jn ≡ jb
noted_quiet e false failed jb jn quiet other = quiet refl
noted_quiet panel.ReadFault true failed jb jn quiet other = absurd (other tt)
noted_quiet panel.WriteFault true failed jb jn quiet other = absurd (other tt)
noted_quiet panel.Ended true failed jb jn quiet other = absurd (other tt)
noted_quiet panel.Faulted true failed jb jn quiet other = absurd (other tt)

unserved_server : (s : Status) → IsUnservedEnd s → IsServerEnd s
unserved_server ends.JournalFault u = tt
unserved_server ends.WantOfMemory u = tt
unserved_server ends.Ok u = absurd u
unserved_server ends.Usage u = absurd u
unserved_server (ends.Config l k) u = absurd u
unserved_server (ends.Script n) u = absurd u
unserved_server ends.ReadFault u = absurd u
unserved_server ends.WriteFault u = absurd u
unserved_server (ends.Differs l m j) u = absurd u
unserved_server ends.Net u = absurd u
unserved_server (ends.Missing n) u = absurd u

unserved_not : (s t : Status) → IsUnservedEnd s → s ≡ t → IsUnservedEnd t
unserved_not s t u e = subst IsUnservedEnd e u

-- a server of which no desk was made
unserved : (first : Beginning) (texts : Texts) (name : List ℕ) (port : ℕ) (f : FilesSeen) (v : Streams) (jb jn ln : ℕ)
    (history : Option History) (status : Status) → IsUnservedEnd status
    → IsTrueOrEmpty first history → (status ≡ ends.JournalFault → Rose jb jn)
    → ((IsNoteEnd status → ⊥) → jn ≡ jb) → min jb count_limit ≤ jn
    → IsServed first texts name port (server_seen f v jb 0) (server_seen f v jn ln) history status
unserved first texts name port f v jb jn ln history status u is_true journal quiet later = record {
  ok = λ e. absurd (unserved_not status ends.Ok u e);
  is_true = is_true;
  noted = λ e. absurd (unserved_not status ends.Ok u e);
  read = λ e. absurd (unserved_not status ends.ReadFault u e);
  write = λ e. absurd (unserved_not status ends.WriteFault u e);
  journal = journal;
  quiet = quiet;
  net = λ e. absurd (unserved_not status ends.Net u e);
  end = unserved_server status u;
  ran = inl (refl, refl, u);
  files_later = omega arith;
  input_later = omega arith;
  output_later = omega arith;
  journal_later = later;
}

-- the count of the files never falls over some reconfigurations
reread_later : (texts : Texts) (name : List ℕ) (v : Seen) (rereads : List Reread) (w : Seen)
    → AreReread texts name v rereads w → v.files.faults ≤ w.files.faults
reread_later texts name v [] w same = let is : w.files.faults ≡ v.files.faults =
    ap (λ (x : Seen). x.files.faults) same in omega (arith, is)
reread_later texts name v (r ∷ older) w (u, before, last) =
    let first : v.files.faults ≤ u.files.faults = reread_later texts name v older u before in
    let next : u.files.faults ≤ w.files.faults = last.later in
    omega (arith, first, next)

-- a server whose panel ran
pub served : (first : Beginning) (texts : Texts) (name : List ℕ) (port : ℕ) (f g : FilesSeen) (v w : Streams)
    (jb jn ln : ℕ) (history : Option History) (end : PanelEnd) (stopped failed : Bool) (made : ℕ)
    (status : Status) → status ≡ ended_status end stopped failed
    → Runs texts name port f g v w (record { end = end; made = made })
    → ForSome history (λ h. made + 1 ≡ current h) → IfSome history (IsLegal first)
    → (stopped ≡ true → Rose jb jn) → (stopped ≡ false → jn ≡ jb) → (failed ≡ true → 0 < ln) → jb ≤ jn
    → IsServed first texts name port (server_seen f v jb 0) (server_seen g w jn ln) history status
served first texts name port f g v w jb jn ln history end stopped failed made status is runs makes legal noted quiet
    heard later =
    let causes = runs.4.causes in
    record {
      ok = λ e. (
        made,
        subst (λ (x : PanelEnd). Runs texts name port f g v w (record { end = x; made = made }))
            (ended_ok end stopped failed (sym is ∙ e)) runs,
        makes,
      );
      is_true = true_ran first history legal;
      noted = λ e. journal_true first history legal;
      read = λ e. causes.read (ended_read end stopped failed (sym is ∙ e));
      write = λ e. causes.write (ended_write end stopped failed (sym is ∙ e));
      journal = λ e. noted (stopped_is end stopped failed (sym is ∙ e));
      quiet = λ other. noted_quiet end stopped failed jb jn quiet (λ n. other (subst IsNoteEnd (sym is) n));
      net = λ e. heard (failed_is end stopped failed (sym is ∙ e));
      end = subst IsServerEnd (sym is) (ended_server end stopped failed);
      ran = inr (record {
        end = end;
        made = made;
        runs = runs;
        so = record {
          stopped = stopped;
          failed = failed;
          ended = is;
          noted = noted;
          quiet = quiet;
          heard = λ e. let up : 0 < ln = heard e in omega (arith, up);
        };
      });
      files_later = reread_later texts name (record { files = f; desk = runs.0 }) runs.4.rereads
          (record { files = g; desk = runs.1 }) runs.4.are;
      input_later = causes.input_later;
      output_later = causes.output_later;
      journal_later = omega (arith, later);
    }

-- the same of a server whose panel is as it was
pub unserved_moved : (first : Beginning) (texts : Texts) (name : List ℕ) (port : ℕ) (f g : FilesSeen) (v w : Streams)
    (jb jn ln : ℕ) (history before : Option History) (status : Status) → g ≡ f → w ≡ v
    → IsUnservedEnd status → history ≡ before → IfSome before (λ h. h ≡ []) → (status ≡ ends.JournalFault → Rose jb jn)
    → ((IsNoteEnd status → ⊥) → jn ≡ jb)
    → min jb count_limit ≤ jn → IsServed first texts name port (server_seen f v jb 0) (server_seen g w jn ln) history
    status
unserved_moved first texts name port f g v w jb jn ln history before status e k u same empty journal quiet later =
    subst (λ (h : FilesSeen). IsServed first texts name port (server_seen f v jb 0) (server_seen h w jn ln) history
    status) (sym e)
    (subst (λ (x : Streams). IsServed first texts name port (server_seen f v jb 0) (server_seen f x jn ln) history
    status) (sym k)
    (unserved first texts name port f v jb jn ln history status u
    (true_unran first history (subst (λ (o : Option History). IfSome o (λ h. h ≡ [])) (sym same) empty)) journal quiet
    later))

-- a server whose configuration could not be had

open_server : (texts : Texts) (name : List ℕ) (s : Status) → IsOpenEnd texts name s → IsFault s → IsServerEnd s
open_server texts name ends.ReadFault o f = tt
open_server texts name ends.WantOfMemory o f = tt
open_server texts name (ends.Config l k) o f = absurd f
open_server texts name (ends.Missing n) o f = absurd f
open_server texts name ends.Ok o f = absurd o
open_server texts name ends.Usage o f = absurd o
open_server texts name (ends.Script n) o f = absurd o
open_server texts name ends.WriteFault o f = absurd o
open_server texts name (ends.Differs l m j) o f = absurd o
open_server texts name ends.JournalFault o f = absurd o
open_server texts name ends.Net o f = absurd o

open_missing : (texts : Texts) (name : List ℕ) (s : Status) → IsOpenEnd texts name s
    → IfMissing s (λ n. (n ≡ name) × IsNotTold texts n)
open_missing texts name (ends.Missing other) (e, told) = (e, subst (IsNotTold texts) (sym e) told)
open_missing texts name ends.ReadFault o = tt
open_missing texts name ends.WantOfMemory o = tt
open_missing texts name (ends.Config l k) o = tt
open_missing texts name ends.Ok o = tt
open_missing texts name ends.Usage o = tt
open_missing texts name (ends.Script n) o = tt
open_missing texts name ends.WriteFault o = tt
open_missing texts name (ends.Differs l m j) o = tt
open_missing texts name ends.JournalFault o = tt
open_missing texts name ends.Net o = tt

over_err : (texts : Texts) (name : List ℕ) (stage : Result Configuration Status) (s : Status) → IsOpenEnd texts name s
    → (stage ≡ Err s) ⊎ IsFault s → EndsOver stage s
over_err texts name (Err e) s o (inl is) = inl (let same : e ≡ s = cc in sym same)
over_err texts name (Ok config) s o (inl is) = absurd (cc)
over_err texts name (Err e) s o (inr fault) = inr fault
over_err texts name (Ok config) s o (inr fault) = open_server texts name s o fault

over_all : (texts : Texts) (name : List ℕ) (s : Status) → IsOpenEnd texts name s → (told : Texts)
    → IfSome told (λ disk. Comes {A = Configuration} (Err s) (conf_stage name (disk name)))
    → IfSome told (λ disk. EndsOver (conf_stage name (disk name)) s)
over_all texts name s o None c = tt
over_all texts name s o (Some disk) c = over_err texts name (conf_stage name (disk name)) s o c

no_end : (texts : Texts) (name : List ℕ) (s t : Status) → IsOpenEnd texts name s → s ≡ t → IsOpenEnd texts name t
no_end texts name s t o e = subst (IsOpenEnd texts name) e o

empty_over : (s : Server) (texts : Texts) (before now : Openings) (history : Option History)
    → IfSome history (λ h. h ≡ []) → IfSome history (λ h. (h ≡ []) ⊎ IsTrueOver s texts before now h)
empty_over s texts before now None e = tt
empty_over s texts before now (Some h) e = inl e

-- all of these openings are of the file of this name
abbrev AreOf : List ℕ → List Opening → Type 0
AreOf name more = All (λ (o : Opening). o.name ≡ name) more

one_of : (name text : List ℕ) → AreOf name (record { name = name; text = text } ∷ [])
one_of name text = All-cons (λ (o : Opening). o.name ≡ name) (record { name = name; text = text }) [] refl
    (All-nil (λ (o : Opening). o.name ≡ name))

most_of : (before now : Openings) (name : List ℕ) → OpensAtMost before now name → Added before now (AreOf name)
most_of before now name (inl same) = Added_none before now (AreOf name) same (All-nil (λ (o : Opening). o.name ≡ name))
most_of before now name (inr one) = Added_one before now name (λ _. Unit {0}) (AreOf name) one
    (λ text t. one_of name text)

-- what a control opened is the file of its name, each time
rereads_of : (texts : Texts) (name : List ℕ) (before now : Seen) (rereads : List Reread)
    → AreReread texts name before rereads now → Added before.files.opened now.files.opened (AreOf name)
rereads_of texts name before now [] same = Added_none before.files.opened now.files.opened (AreOf name)
    (ap (λ (s : Seen). s.files.opened) same) (All-nil (λ (o : Opening). o.name ≡ name))
rereads_of texts name before now (r ∷ older) (mid, are, is) =
    Added_then before.files.opened mid.files.opened now.files.opened (AreOf name) (AreOf name) (AreOf name)
    (rereads_of texts name before mid older are) (most_of mid.files.opened now.files.opened name is.opened)
    (λ first next f n. All-append (λ (o : Opening). o.name ≡ name) next first n f)

-- and so is what a server opened once it had read its configuration
ran_of : (texts : Texts) (name : List ℕ) (port : ℕ) (begun g : FilesSeen) (v w : Streams) (jb jn nb ln : ℕ)
    (status : Status) → RunsOrNot texts name port (server_seen begun v jb nb) (server_seen g w jn ln) status
    → Added begun.opened g.opened (AreOf name)
ran_of texts name port begun g v w jb jn nb ln status (inl (files, same, u)) =
    Added_none begun.opened g.opened (AreOf name)
    (ap (λ (f : FilesSeen). f.opened) files) (All-nil (λ (o : Opening). o.name ≡ name))
ran_of texts name port begun g v w jb jn nb ln status (inr run) = by run.runs
  where
    by : Runs texts name port begun g v w (record { end = run.end; made = run.made })
        → Added begun.opened g.opened (AreOf name)
    by (desk, later, none, made, attends) = rereads_of texts name (record { files = begun; desk = desk })
        (record { files = g; desk = later }) attends.rereads attends.are

true_over : (s : Server) (texts : Texts) (before begun now : Openings) (config : Configuration)
    (history : Option History)
    → IsConf texts s.conf before begun config → Added begun now (AreOf s.conf)
    → IsTrueOrEmpty (beginning_of s config) history
    → IfSome history (λ h. (h ≡ []) ⊎ IsTrueOver s texts before now h)
true_over s texts before begun now config None conf rest is = tt
true_over s texts before begun now config (Some h) conf rest (inl empty) = inl empty
true_over s texts before begun now config (Some h) conf rest (inr is) =
    inr (record { config = config; begun = begun; conf = conf; rest = rest; is_true = is })

open_end : (texts : Texts) (name : List ℕ) (s : Status) → IsOpenEnd texts name s → IsServiceEnd s
open_end texts name ends.ReadFault o = tt
open_end texts name ends.WantOfMemory o = tt
open_end texts name (ends.Config l k) o = tt
open_end texts name (ends.Missing n) o = tt
open_end texts name ends.Ok o = absurd o
open_end texts name ends.Usage o = absurd o
open_end texts name (ends.Script n) o = absurd o
open_end texts name ends.WriteFault o = absurd o
open_end texts name (ends.Differs l m j) o = absurd o
open_end texts name ends.JournalFault o = absurd o
open_end texts name ends.Net o = absurd o

server_end : (s : Status) → IsServerEnd s → IsServiceEnd s
server_end ends.ReadFault e = tt
server_end ends.WantOfMemory e = tt
server_end ends.Ok e = tt
server_end ends.WriteFault e = tt
server_end ends.JournalFault e = tt
server_end ends.Net e = tt
server_end (ends.Config l k) e = tt
server_end (ends.Missing n) e = tt
server_end ends.Usage e = absurd e
server_end (ends.Script n) e = absurd e
server_end (ends.Differs l m j) e = absurd e

-- nothing was written, and no line was to be
no_line : (a : Option (List ℕ)) (n : ℕ) → Grew a a (IsWritten n n [])
no_line a n = ([], Appends-nil a, record { front = IsPrefix_nil []; all = inl (refl, refl) })

-- no panel ran
unrun : (s : Server) (texts : Texts) (f g : FilesSeen) (v w : Streams) (jb jn nb nn : ℕ) (status : Status)
    → Added f.opened g.opened (λ more. IsOnce s.conf more × EndsOver (conf_stage s.conf (first_text more)) status)
    → w ≡ v → (status ≡ ends.WriteFault → ⊥)
    → EndsByLine [] s texts (server_seen f v jb nb) (server_seen g w jn nn) status
unrun s texts f g v w jb jn nb nn status opened same unwritten = record {
  told = w;
  came = inl (record { opened = opened; same = same; unwritten = unwritten });
  writes = no_line w.contents w.output_faults;
}

pub conf_failed : (s : Server) (texts : Texts) (f g : FilesSeen) (v : Streams) (jb nb : ℕ) (history : Option History)
    (status : Status) → IsOpenEnd texts s.conf status
    → IfSome texts (λ disk. Comes {A = Configuration} (Err status) (conf_stage s.conf (disk s.conf)))
    → (status ≡ ends.ReadFault → Rose f.faults g.faults) → IfSome history (λ h. h ≡ [])
    → f.faults ≤ g.faults → Added f.opened g.opened
    (λ more. IsOnce s.conf more × Comes {A = Configuration} (Err status) (conf_stage s.conf (first_text more)))
    → CameTo [] s texts (server_seen f v jb nb) (server_seen g v jb nb) history status
conf_failed s texts f g v jb nb history status o comes read empty later opened = record {
  ok = λ e. absurd (no_end texts s.conf status ends.Ok o e);
  bytes = λ e. unrun s texts f g v v jb jb nb nb status
      (Added_map f.opened g.opened
      (λ more. IsOnce s.conf more × Comes {A = Configuration} (Err status) (conf_stage s.conf (first_text more)))
      (λ more. IsOnce s.conf more × EndsOver (conf_stage s.conf (first_text more)) status)
      (λ more p. (p.0, over_err texts s.conf (conf_stage s.conf (first_text more)) status o p.1)) opened)
      refl (λ w. no_end texts s.conf status ends.WriteFault o w);
  is_true = empty_over s texts f.opened g.opened history empty;
  read = λ e. inl (read e);
  write = λ e. absurd (no_end texts s.conf status ends.WriteFault o e);
  journal = λ e. absurd (no_end texts s.conf status ends.JournalFault o e);
  quiet = λ other. refl;
  net = λ e. absurd (no_end texts s.conf status ends.Net o e);
  conf = over_all texts s.conf status o texts comes;
  missing = open_missing texts s.conf status o;
  end = open_end texts s.conf status o;
  files_later = later;
  input_later = omega arith;
  output_later = omega arith;
  journal_later = omega arith;
  net_later = omega arith;
}

-- a server over a configuration

over_ok : (told : Texts) (name : List ℕ) (config : Configuration) (s : Status) → IsServerEnd s
    → IfSome told (λ disk. conf_stage name (disk name) ≡ Ok config)
    → IfSome told (λ disk. EndsOver (conf_stage name (disk name)) s)
over_ok None name config s e c = tt
over_ok (Some disk) name config s e c = subst (λ (r : Result Configuration Status). EndsOver r s) (sym c) e

server_missing : (s : Status) (P : List ℕ → Type 0) → IsServerEnd s → IfMissing s P
server_missing (ends.Missing n) P e = absurd e
server_missing ends.ReadFault P e = tt
server_missing ends.WantOfMemory P e = tt
server_missing (ends.Config l k) P e = tt
server_missing ends.Ok P e = tt
server_missing ends.Usage P e = tt
server_missing (ends.Script n) P e = tt
server_missing ends.WriteFault P e = tt
server_missing (ends.Differs l m j) P e = tt
server_missing ends.JournalFault P e = tt
server_missing ends.Net P e = tt

-- a server that ended so over a configuration ends by what the text of its opening comes to
opened_over : (name : List ℕ) (before now : Openings) (config : Configuration) (s : Status) → IsServerEnd s
    → Added before now (λ more. IsOnce name more × (conf_stage name (first_text more) ≡ Ok config))
    → Added before now (λ more. IsOnce name more × EndsOver (conf_stage name (first_text more)) s)
opened_over name before now config s e a =
    Added_map before now (λ more. IsOnce name more × (conf_stage name (first_text more) ≡ Ok config))
    (λ more. IsOnce name more × EndsOver (conf_stage name (first_text more)) s)
    (λ more p. (p.0, subst (λ (r : Result Configuration Status). EndsOver r s) (sym p.1) e)) a

-- the net could not be opened
pub net_failed : (s : Server) (texts : Texts) (f g : FilesSeen) (v : Streams) (jb nb nn : ℕ) (history : Option History)
    (config : Configuration)
    → IfSome texts (λ disk. conf_stage s.conf (disk s.conf) ≡ Ok config) → Rose nb nn → nb ≤ nn
    → IfSome history (λ h. h ≡ []) → f.faults ≤ g.faults
    → Added f.opened g.opened (λ more. IsOnce s.conf more × (conf_stage s.conf (first_text more) ≡ Ok config))
    → CameTo [] s texts (server_seen f v jb nb) (server_seen g v jb nn) history ends.Net
net_failed s texts f g v jb nb nn history config comes rose net empty later opened = record {
  ok = λ e. absurd (cc);
  bytes = λ e. unrun s texts f g v v jb jb nb nn ends.Net
      (opened_over s.conf f.opened g.opened config ends.Net tt opened) refl (λ w. cc);
  is_true = empty_over s texts f.opened g.opened history empty;
  read = λ e. absurd (cc);
  write = λ e. absurd (cc);
  journal = λ e. absurd (cc);
  quiet = λ other. refl;
  net = λ e. rose;
  conf = over_ok texts s.conf config ends.Net tt comes;
  missing = tt;
  end = tt;
  files_later = later;
  input_later = omega arith;
  output_later = omega arith;
  journal_later = omega arith;
  net_later = net;
}

settled_end : (s r : Status) → IsServerEnd s → IsSettled s r → IsServerEnd r
settled_end s r e (inl same) = subst IsServerEnd (sym same) e
settled_end s r e (inr write) = subst IsServerEnd (sym write) tt

settled_note : (s r : Status) → IsSettled s r → IsNoteEnd s → IsNoteEnd r
settled_note s r (inl same) n = subst IsNoteEnd (sym same) n
settled_note s r (inr write) n = subst IsNoteEnd (sym write) tt

settled_is : (s r t : Status) → IsSettled s r → r ≡ t → (ends.WriteFault ≡ t → ⊥) → s ≡ t
settled_is s r t (inl same) e other = sym same ∙ e
settled_is s r t (inr write) e other = absurd (other (sym write ∙ e))

is_ok : (s : Status) → (s ≡ ends.Ok) ⊎ (s ≡ ends.Ok → ⊥)
is_ok ends.Ok = inl refl
is_ok ends.Usage = inr (λ e. cc)
is_ok (ends.Config l k) = inr (λ e. cc)
is_ok (ends.Script n) = inr (λ e. cc)
is_ok ends.ReadFault = inr (λ e. cc)
is_ok ends.WriteFault = inr (λ e. cc)
is_ok (ends.Differs l m j) = inr (λ e. cc)
is_ok ends.JournalFault = inr (λ e. cc)
is_ok ends.Net = inr (λ e. cc)
is_ok (ends.Missing n) = inr (λ e. cc)
is_ok ends.WantOfMemory = inr (λ e. cc)

-- what a server wrote that did not end well: the line `stopped` is told of in `told`
run_told : (s : Server) (texts : Texts) (f begun g : FilesSeen) (v w x : Streams) (jb jn nb nn ln port : ℕ)
    (config : Configuration) (status r : Status) → port ≡ port_of s config
    → IsConf texts s.conf f.opened begun.opened config → IsServerEnd status
    → RunsOrNot texts s.conf port (server_seen begun v jb 0) (server_seen g w jn ln) status
    → (status ≡ ends.Ok → jn ≡ jb) → (Rose 0 ln → Rose nb nn) → IsSettled status r
    → ((status ≡ ends.Ok → ⊥) → (r ≡ status) × (x ≡ w))
    → (status ≡ ends.Ok → r ≡ ends.WriteFault → Grew w.contents x.contents (λ part. IsProperPrefix part stopped_line))
    → (r ≡ ends.Ok → ⊥) → EndsByLine [] s texts (server_seen f v jb nb) (server_seen g x jn nn) r
run_told s texts f begun g v w x jb jn nb nn ln port config status r is_port conf end ran quiet heard settled kept
    short unwell =
    by (is_ok status) ran
  where
    failed : status ≡ ends.Ok → r ≡ ends.WriteFault
    failed is = write settled
      where
        write : IsSettled status r → r ≡ ends.WriteFault
        write (inl same) = absurd (unwell (same ∙ is))
        write (inr w) = w

    by : (status ≡ ends.Ok) ⊎ (status ≡ ends.Ok → ⊥)
        → RunsOrNot texts s.conf port (server_seen begun v jb 0) (server_seen g w jn ln) status
        → EndsByLine [] s texts (server_seen f v jb nb) (server_seen g x jn nn) r
    by (inl is) (inl (files, same, u)) = absurd (unserved_not status ends.Ok u is)
    by (inr other) (inl (files, same, u)) =
        let both = kept other in
        unrun s texts f g v x jb jn nb nn r
        (opened_over s.conf f.opened g.opened config r (subst IsServerEnd (sym both.0) end)
        (subst (λ (h : FilesSeen). Added f.opened h.opened
        (λ more. IsOnce s.conf more × (conf_stage s.conf (first_text more) ≡ Ok config))) (sym files) conf.opened))
        (both.1 ∙ same) (λ e. unserved_not status ends.WriteFault u (sym both.0 ∙ e))
    by (inl is) (inr run) = record {
      told = x;
      came = inr (record {
        config = config;
        begun = begun;
        conf = conf;
        ran = w;
        end = run.end;
        made = run.made;
        runs = subst (λ (p : ℕ). Runs texts s.conf p begun g v w
            (record { end = run.end; made = run.made })) is_port run.runs;
        after = inr (
          ended_ok run.end run.so.stopped run.so.failed (sym run.so.ended ∙ is),
          quiet is,
          failed is,
          short is (failed is),
        );
      });
      writes = no_line x.contents x.output_faults;
    }
    by (inr other) (inr run) = record {
      told = x;
      came = inr (record {
        config = config;
        begun = begun;
        conf = conf;
        ran = w;
        end = run.end;
        made = run.made;
        runs = subst (λ (p : ℕ). Runs texts s.conf p begun g v w
            (record { end = run.end; made = run.made })) is_port run.runs;
        after = inl (
          (kept other).1,
          record {
            stopped = run.so.stopped;
            failed = run.so.failed;
            ended = (kept other).0 ∙ run.so.ended;
            noted = run.so.noted;
            quiet = run.so.quiet;
            heard = λ e. heard (run.so.heard e);
          },
        );
      });
      writes = no_line x.contents x.output_faults;
    }

pub served_service : (s : Server) (texts : Texts) (f begun g : FilesSeen) (v w x : Streams) (jb jn nb nm nn ln port : ℕ)
    (history : Option History) (config : Configuration) (status r : Status)
    → port ≡ port_of s config → IsConf texts s.conf f.opened begun.opened config
    → IsServed (beginning_of s config) texts s.conf port (server_seen begun v jb 0) (server_seen g w jn ln) history
    status → nm ≡ nb
    → TakesBack nm nn ln → f.faults ≤ begun.faults
    → (r ≡ ends.Ok → (status ≡ ends.Ok) × Appends w.contents x.contents stopped_line) → IsSettled status r
    → (r ≡ ends.WriteFault → (status ≡ ends.WriteFault) ⊎ Rose w.output_faults x.output_faults)
    → ((status ≡ ends.Ok → ⊥) → (r ≡ status) × (x ≡ w))
    → (status ≡ ends.Ok → r ≡ ends.WriteFault → Grew w.contents x.contents (λ part. IsProperPrefix part stopped_line))
    → x.left ≡ w.left → x.input_faults ≡ w.input_faults → w.output_faults ≤ x.output_faults
    → CameTo [] s texts (server_seen f v jb nb) (server_seen g x jn nn) history r
served_service s texts f begun g v w x jb jn nb nm nn ln port history config status r is_port conf served same back
    read_later told settled unwritten kept short left input later = record {
      ok = λ e.
          let both = told e in
          let ran = served.ok both.0 in
          record {
            config = config;
            begun = begun;
            conf = conf;
            ran = w;
            made = ran.0;
            runs = subst (λ (p : ℕ). Runs texts s.conf p begun g v w
                (record { end = panel.Ended; made = ran.0 })) is_port ran.1;
            left = left;
            writes = both.1;
            makes = ran.2;
            is_true = served.noted both.0;
          };
      bytes = run_told s texts f begun g v w x jb jn nb nn ln port config status r is_port conf served.end served.ran
          (λ e. served.quiet (λ n. subst IsNoteEnd e n))
          (λ up. subst (λ (n : ℕ). Rose n nn) same (back.rose (omega (arith, up)))) settled kept short;
      is_true = true_over s texts f.opened begun.opened g.opened config history conf
          (ran_of texts s.conf port begun g v w jb jn 0 ln status served.ran) served.is_true;
      read = λ e. inr (subst (λ (n : ℕ). Rose v.input_faults n) (sym input)
          (served.read (settled_is status r ends.ReadFault settled e (λ n. cc))));
      write = λ e. wrote (unwritten e);
      journal = λ e. served.journal (settled_is status r ends.JournalFault settled e (λ n. cc));
      quiet = λ other. served.quiet (λ n. other (settled_note status r settled n));
      net = λ e. subst (λ (n : ℕ). Rose n nn) same
          (back.rose (served.net (settled_is status r ends.Net settled e (λ n. cc))));
      conf = over_ok texts s.conf config r (settled_end status r served.end settled) conf.told;
      missing = server_missing r (λ n. (n ≡ s.conf) × IsNotTold texts n) (settled_end status r served.end settled);
      end = server_end r (settled_end status r served.end settled);
      files_later = let next : begun.faults ≤ g.faults = served.files_later in omega (arith, read_later, next);
      input_later = let next : v.input_faults ≤ w.input_faults = served.input_later in omega (arith, input, next);
      output_later = let first : v.output_faults ≤ w.output_faults = served.output_later in omega (arith, later, first);
      journal_later = served.journal_later;
      net_later = let next : nm ≤ nn = back.later in omega (arith, same, next);
    }
  where
    wrote : (status ≡ ends.WriteFault) ⊎ Rose w.output_faults x.output_faults → Rose v.output_faults x.output_faults
    wrote (inl e) = let up : Rose v.output_faults w.output_faults = served.write e in omega (arith, up, later)
    wrote (inr up) = let first : v.output_faults ≤ w.output_faults = served.output_later in omega (arith, up, first)

-- no line was written, and then this one
then_line : (a b c : Option (List ℕ)) (before mid now : ℕ) (line : List ℕ) → mid ≤ now
    → Grew a b (IsWritten before mid []) → Grew b c (IsWritten mid now line) → Grew a c (IsWritten before now line)
then_line a b c before mid now line later (first, wrote, w) (part, grew, l) = (
  part,
  subst (λ (bytes : List ℕ). Appends a c (bytes ++ part)) (empty_line first w.front)
      (Appends-trans a b c first part wrote grew),
  record { front = l.front; all = by w.all l.all },
)
  where
    by : ((first ≡ []) × (mid ≡ before)) ⊎ Rose before mid → ((part ≡ line) × (now ≡ mid)) ⊎ Rose mid now
        → ((part ≡ line) × (now ≡ before)) ⊎ Rose before now
    by (inl (none, same)) (inl (all, quiet)) = inl (all, quiet ∙ same)
    by (inl (none, same)) (inr up) = inr (subst (λ (n : ℕ). Rose n now) same up)
    by (inr up) l = inr (omega (arith, up, later))

told_line : (line : List ℕ) (s : Server) (texts : Texts) (f g : FilesSeen) (v w x : Streams) (jb jn nb nn : ℕ)
    (status : Status)
    → w.output_faults ≤ x.output_faults
    → Grew w.contents x.contents (IsWritten w.output_faults x.output_faults line)
    → EndsByLine [] s texts (server_seen f v jb nb) (server_seen g w jn nn) status
    → EndsByLine line s texts (server_seen f v jb nb) (server_seen g x jn nn) status
told_line line s texts f g v w x jb jn nb nn status later grew e = record {
  told = e.told;
  came = e.came;
  writes = then_line e.told.contents w.contents x.contents e.told.output_faults w.output_faults x.output_faults line
      later e.writes grew;
}

-- the last line was written
pub finished : (s : Server) (texts : Texts) (f g : FilesSeen) (v w x : Streams) (jb jn nb nn : ℕ)
    (history : Option History) (status r : Status) → r ≡ status
    → CameTo [] s texts (server_seen f v jb nb) (server_seen g w jn nn) history status → (status ≡ ends.Ok → x ≡ w)
    → Grew w.contents x.contents (IsWritten w.output_faults x.output_faults (last_line status))
    → x.input_faults ≡ w.input_faults → w.output_faults ≤ x.output_faults
    → IsService s texts (server_seen f v jb nb) (server_seen g x jn nn) history r
finished s texts f g v w x jb jn nb nn history status r is h ok grew input later =
    subst (λ (t : Status). IsService s texts (server_seen f v jb nb) (server_seen g x jn nn) history t) (sym is)
    (record {
      ok = λ e. subst (λ (y : Streams). EndsWell s texts f g v y history) (sym (ok e)) (h.ok e);
      bytes = λ e. told_line (last_line status) s texts f g v w x jb jn nb nn status later grew (h.bytes e);
      is_true = h.is_true;
      read = λ e. reads (h.read e);
      write = λ e. let up : Rose v.output_faults w.output_faults = h.write e in omega (arith, up, later);
      journal = h.journal;
      quiet = h.quiet;
      net = h.net;
      conf = h.conf;
      missing = h.missing;
      end = h.end;
      files_later = h.files_later;
      input_later = let first : v.input_faults ≤ w.input_faults = h.input_later in omega (arith, input, first);
      output_later = let first : v.output_faults ≤ w.output_faults = h.output_later in omega (arith, later, first);
      journal_later = h.journal_later;
      net_later = h.net_later;
    })
  where
    reads : Rose f.faults g.faults ⊎ Rose v.input_faults w.input_faults
        → Rose f.faults g.faults ⊎ Rose v.input_faults x.input_faults
    reads (inl up) = inl up
    reads (inr up) = inr (subst (λ (n : ℕ). Rose v.input_faults n) (sym input) up)

-- the same of a server at an offset that is the stated one
pub served_from : (s : Server) (config : Configuration) (offset : ℤ) (texts : Texts) (name : List ℕ) (port : ℕ)
    (f g : FilesSeen) (v w : Streams) (jb jn ln : ℕ) (history : Option History) (status : Status)
    → offset ≡ unwrap_or s.options.offset (pos 0)
    → IsServed (record { config = config; offset = offset }) texts name port (server_seen f v jb 0)
    (server_seen g w jn ln) history status
    → IsServed (beginning_of s config) texts name port (server_seen f v jb 0) (server_seen g w jn ln) history status
served_from s config offset texts name port f g v w jb jn ln history status e h =
    subst (λ (z : ℤ). IsServed (record { config = config; offset = z }) texts name port (server_seen f v jb 0)
    (server_seen g w jn ln) history status)
    e h

-- the same of a server over texts that are these
pub served_texts : (first : Beginning) (t u : Texts) (name : List ℕ) (port : ℕ) (f g : FilesSeen) (v w : Streams)
    (jb jn ln : ℕ) (history : Option History) (status : Status) → t ≡ u
    → IsServed first t name port (server_seen f v jb 0) (server_seen g w jn ln) history status
    → IsServed first u name port (server_seen f v jb 0) (server_seen g w jn ln) history status
served_texts first t u name port f g v w jb jn ln history status e h =
    subst (λ (x : Texts). IsServed first x name port (server_seen f v jb 0) (server_seen g w jn ln) history status) e h

pub begun_fault : (fault : DeskFault) (before now : ℕ) → fault ≡ desk.JournalFault → IsUnbegun fault before now
    → Rose before now
begun_fault fault before now is unbegun = subst (λ f. IsUnbegun f before now) is unbegun

-- where the end is none of a note that failed, none did
pub unbegun_quiet : (fault : DeskFault) (before now : ℕ) (status : Status)
    → (fault ≡ desk.JournalFault → status ≡ ends.JournalFault) → IsUnbegun fault before now
    → (IsNoteEnd status → ⊥) → now ≡ before
unbegun_quiet desk.JournalFault before now status noted up other =
    absurd (other (subst IsNoteEnd (sym (noted refl)) tt))
unbegun_quiet desk.WantOfMemory before now status noted same other = same
unbegun_quiet desk.Stopped before now status noted never other = absurd never
unbegun_quiet (desk.Engine r) before now status noted never other = absurd never

pub unbegun_later : (fault : DeskFault) (before now : ℕ) → IsUnbegun fault before now → min before count_limit ≤ now
unbegun_later desk.JournalFault before now up = omega (arith, up)
unbegun_later desk.WantOfMemory before now same = omega (arith, same)
unbegun_later desk.Stopped before now never = absurd never
unbegun_later (desk.Engine r) before now never = absurd never
