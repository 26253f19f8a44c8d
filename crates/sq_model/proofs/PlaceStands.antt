-- Where a process that lives stands: its place, its class, its row and its channels;
-- and what the machine answers to lines and deaths.
use Rattle.std.proofs.Common.{◌≡◌, ℕ, List, [], ◌∷◌, find, cond, Bool, true, false, not, ◌&&◌, ◌==◌, bytes_eq, if◌then◌else◌, Option, Some, None, is_none, option_and_then, refl, sym, ap, ap₂, subst, ◌∙◌}
use Rattle.std.specs.Option.{option_map, option_map_or}
use Rattle.std.proofs.lemmas.Bool.{and_parts}
use Rattle.std.proofs.lemmas.Option.{none-some, same_Some}
use Rattle.sq_machine.specs.declared.entries.Event.TheVariants.{Died, Line}
use Rattle.sq_machine.specs.declared.entries.Told.{Told}
use Rattle.sq_machine.specs.declared.entries.Told.TheVariants as told
use Rattle.sq_machine.specs.declared.refusals.Refusal.TheVariants as refusal
use Rattle.sq_rules.specs.Classes.{Class}
use Rattle.sq_rules.specs.Configurations.{Configuration}
use Rattle.sq_machine.specs.DueActs.{ClassId}
use Rattle.sq_machine.specs.Entries.{History}
use Rattle.sq_machine.specs.Epochs.{class_at, is_live, place_of_class}
use Rattle.sq_machine.specs.FarmReadings.{living_of}
use Rattle.sq_machine.specs.Machine.{next_at, told_of_line}
use Rattle.sq_machine.specs.Living.{Living, find_proc}
use Rattle.sq_machine.specs.Next.{gives, refuse_if}
use Rattle.sq_machine.specs.Marks.{Past, entries}
use Rattle.sq_machine.specs.Numbered.{rows}
use Rattle.sq_machine.specs.Processes.{Home, home_of, is_at_home, is_running, lives_on, proc_count, runs_at}
use Rattle.sq_machine.specs.Transcripts.{channels_of, line_is, line_told}
use Rattle.sq_model.specs.ClassRows.{ClassRow, class_row}
use Rattle.sq_model.proofs.ClassParts.{bytes_itself, bytes_same, itself}
use Rattle.sq_model.proofs.ElsewhereLaws.{place_named}
use Rattle.sq_model.proofs.LegalLaws.{channels_are}
use Rattle.sq_model.proofs.LineLaws.{runs_given}
use Rattle.sq_model.proofs.RowLaws.{picked_given, row_found}
use Rattle.sq_model.specs.Answers.{channels_in, died_answer, line_answer, line_of}
use Rattle.sq_model.specs.States.{Stands, State, place_of}
use Rattle.sq_model.proofs.Lawful.{Lawful, row_live}

find_proc_is : (k : ℕ) (rs : List Living)
    → find_proc k rs ≡ option_map (λ (r : Living). r.process) (find (λ (r : Living). k == r.number) rs)
find_proc_is k [] = refl
find_proc_is k (r ∷ rs) = by (k == r.number) (find_proc_is k rs)
  where
    by : (b : Bool) → find_proc k rs ≡ option_map (λ (r : Living). r.process) (find (λ (r : Living). k == r.number) rs)
        → (if b then Some r.process else find_proc k rs)
        ≡ option_map (λ (r : Living). r.process) (cond b (Some r) (find (λ (r : Living). k == r.number) rs))
    by true e = refl
    by false e = e

-- the channels of a process, among those that run in a class
pub proc_found : (concurrency : ℕ) (h : History) (e : ℕ) (name : List ℕ) (k : ℕ) → runs_at h e name k ≡ true
    → find_proc k (rows (living_of concurrency h) (runs_at h e name) (proc_count h))
    ≡ Some (channels_of concurrency h k)
proc_found concurrency h e name k runs =
    find_proc_is k (rows (living_of concurrency h) (runs_at h e name) (proc_count h))
    ∙ ap (option_map (λ (r : Living). r.process))
    (row_found (λ (r : Living). k == r.number) (living_of concurrency h) (runs_at h e name) (proc_count h) k
    (λ j low high is. refl)
    ∙ ap (λ (b : Bool). if b then Some (living_of concurrency h k) else None)
    (picked_given (runs_at h e name) (proc_count h) k (runs_given h e name k runs).positive
    (runs_given h e name k runs).most ∙ runs))

-- a process that lives runs in the class at its place, which is of a live epoch
pub record LivesAt (configs : List Configuration) (m : Past) (k : ℕ) (p : ClassId) : Type 0 where
  pub class : Class
  pub lives : lives_on (entries m) k ≡ true
  pub placed : place_of configs (entries m) k ≡ Some p
  pub class_is : class_at configs p.epoch p.class ≡ Some class
  pub live : is_live (entries m) p.epoch ≡ true
  pub home : is_at_home (entries m) p.epoch class.name k ≡ true
  pub running : is_running (entries m) k ≡ true
  pub runs : runs_at (entries m) p.epoch class.name k ≡ true

-- each process that lives is somewhere
pub lives_somewhere : (configs : List Configuration) (m : Past) (k : ℕ) → Lawful configs m
    → lives_on (entries m) k ≡ true → (p : ClassId) × LivesAt configs m k p
lives_somewhere configs m k law lives = by (home_of (entries m) k) refl
  where
    parts : (is_running (entries m) k ≡ true)
        × (option_map_or (λ p. is_live (entries m) p.epoch) (home_of (entries m) k) false ≡ true)
    parts = and_parts (is_running (entries m) k)
        (option_map_or (λ p. is_live (entries m) p.epoch) (home_of (entries m) k) false) lives

    by : (o : Option Home) → home_of (entries m) k ≡ o → (p : ClassId) × LivesAt configs m k p
    by None none = absurd (let no : false ≡ true =
        sym (ap (λ (o : Option Home). option_map_or (λ p. is_live (entries m) p.epoch) o false) none) ∙ parts.1 in cc)
    by (Some w) is =
        let has = law.carried.home_class k w is in
        let name : has.class.name ≡ w.class = bytes_same has.class.name w.class has.named in
        let home : is_at_home (entries m) w.epoch has.class.name k ≡ true =
        ap (λ (o : Option Home). option_map_or (λ p. (p.epoch == w.epoch) && bytes_eq p.class has.class.name) o
        false) is
        ∙ ap₂ (λ (a b : Bool). a && b) (itself w.epoch) (ap (bytes_eq w.class) name ∙ bytes_itself w.class) in (
          record { epoch = w.epoch; class = has.place },
          record {
            class = has.class;
            lives = lives;
            placed = ap (option_and_then
                (λ (p : Home). option_map (λ (c : ℕ). record { epoch = p.epoch; class = c })
                (place_of_class configs p.epoch p.class))) is
                ∙ ap (option_map (λ (c : ℕ). record { epoch = w.epoch; class = c }))
                (ap (place_of_class configs w.epoch) (sym name)
                ∙ place_named configs w.epoch has.place has.class law.once has.at);
            class_is = has.at;
            live = sym (ap (λ (o : Option Home). option_map_or (λ p. is_live (entries m) p.epoch) o false) is)
                ∙ parts.1;
            home = home;
            running = parts.0;
            runs = ap₂ (λ (a b : Bool). a && b) home parts.0;
          },
        )

-- a process has a place in the state where it lives
pub home_lives : (configs : List Configuration) (m : Past) (s : State) (k : ℕ) (p : ClassId) → Lawful configs m
    → Stands configs m s → s.home k ≡ Some p → LivesAt configs m k p
home_lives configs m s k p law st home = by (lives_on (entries m) k) refl (sym (st.homes_are k) ∙ home)
  where
    by : (b : Bool) → lives_on (entries m) k ≡ b → (if b then place_of configs (entries m) k else None) ≡ Some p
        → LivesAt configs m k p
    by true lives is =
        let w = lives_somewhere configs m k law lives in
        subst (LivesAt configs m k) (same_Some _ _ (sym w.1.placed ∙ is)) w.1
    by false dead is = absurd (none-some p is)

-- and none where it does not
pub home_is_none : (configs : List Configuration) (m : Past) (s : State) (k : ℕ) → Lawful configs m → Stands configs m s
    → is_none (s.home k) ≡ not (lives_on (entries m) k)
home_is_none configs m s k law st = ap (λ (o : Option ClassId). is_none o) (st.homes_are k)
    ∙ by (lives_on (entries m) k) refl
  where
    by : (b : Bool) → lives_on (entries m) k ≡ b → is_none (if b then place_of configs (entries m) k else None) ≡ not b
    by true lives = ap (λ (o : Option ClassId). is_none o) (lives_somewhere configs m k law lives).1.placed
    by false dead = refl

-- the row of the class at its place
pub row_there : (configs : List Configuration) (m : Past) (s : State) (k : ℕ) (p : ClassId) → Stands configs m s
    → (l : LivesAt configs m k p)
    → s.row p.epoch p.class ≡ Some (class_row configs m p.epoch p.class l.class)
row_there configs m s k p st l = row_live configs m s p.epoch p.class st l.live
    ∙ ap (option_map (class_row configs m p.epoch p.class)) l.class_is

-- its channels
pub channels_there : (configs : List Configuration) (m : Past) (s : State) (k : ℕ) (p : ClassId) → Stands configs m s
    → s.home k ≡ Some p → (l : LivesAt configs m k p)
    → channels_in s k ≡ Some (channels_of l.class.concurrency (entries m) k)
channels_there configs m s k p st home l =
    ap (option_and_then (λ (p : ClassId). option_and_then (λ (r : ClassRow). find_proc k r.stock.procs)
    (s.row p.epoch p.class))) home
    ∙ ap (option_and_then (λ (r : ClassRow). find_proc k r.stock.procs)) (row_there configs m s k p st l)
    ∙ proc_found l.class.concurrency (entries m) p.epoch l.class.name k l.runs

-- a line of a process is told by its channels
pub told_there : (configs : List Configuration) (m : Past) (k : ℕ) (bytes : List ℕ) (p : ClassId) → Lawful configs m
    → (l : LivesAt configs m k p)
    → told_of_line configs (entries m) k bytes
    ≡ line_told (line_is (channels_of l.class.concurrency (entries m) k) bytes)
told_there configs m k bytes p law l =
    ap (λ (n : ℕ). line_told (line_is (channels_of n (entries m) k) bytes))
    (channels_are configs m k p.epoch p.class l.class law.once l.class_is l.home)

-- what is answered to a line
pub line_next : (configs : List Configuration) (m : Past) (s : State) (now k : ℕ) (bytes : List ℕ) → Lawful configs m
    → Stands configs m s
    → next_at configs m now (Line k bytes) ≡ line_answer s k bytes
unfolding next_at
line_next configs m s now k bytes law st = by (lives_on (entries m) k) refl (st.homes_are k)
  where
    by : (b : Bool) → lives_on (entries m) k ≡ b → s.home k ≡ (if b then place_of configs (entries m) k else None)
        → refuse_if (not b) (refusal.UnknownProc k) (gives (told_of_line configs (entries m) k bytes))
        ≡ line_of k bytes (channels_in s k)
    by true lives home =
        let w = lives_somewhere configs m k law lives in
        ap (λ (t : Told). gives t) (told_there configs m k bytes w.0 law w.1)
        ∙ sym (ap (line_of k bytes) (channels_there configs m s k w.0 st (home ∙ w.1.placed) w.1))
    by false dead home =
        sym (ap (λ (o : Option ClassId). line_of k bytes
        (option_and_then (λ (p : ClassId). option_and_then (λ (r : ClassRow). find_proc k r.stock.procs)
        (s.row p.epoch p.class)) o)) home)

-- what is answered to a death
pub died_next : (configs : List Configuration) (m : Past) (s : State) (now k : ℕ) → Lawful configs m
    → Stands configs m s → next_at configs m now (Died k) ≡ died_answer s k
unfolding next_at
died_next configs m s now k law st = ap (λ (b : Bool). refuse_if b (refusal.UnknownProc k) (gives told.Fine))
    (sym (home_is_none configs m s k law st))
