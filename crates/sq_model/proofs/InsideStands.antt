-- A state after an entry that opens, closes and asks nothing and puts nothing:
-- by its checks, epochs and processes, which alone it changes.
use Rattle.std.proofs.Common.{◌≡◌, ℕ, ℤ, List, ◌∷◌, Bool, true, false, ◌&&◌, ◌==◌, bytes_eq, if◌then◌else◌, Option, Some, None, refl, sym, ap, ap₂, subst, ◌∙◌}
use Rattle.std.specs.Option.{option_map}
use Rattle.std.proofs.lemmas.Bool.{and_parts}
use Rattle.sq_machine.specs.declared.entries.Event.{Event}
use Rattle.sq_machine.specs.declared.entries.Told.{Told}
use Rattle.sq_machine.specs.Checks.{ask_count, more_if}
use Rattle.sq_rules.specs.Classes.{Class}
use Rattle.sq_rules.specs.Configurations.{Configuration}
use Rattle.sq_machine.specs.Connections.{peer_after, peer_at}
use Rattle.sq_machine.specs.DueActs.{ClassId}
use Rattle.sq_machine.specs.Epochs.{class_at, is_live, config_of}
use Rattle.sq_machine.specs.Events.{Asking, ConnNews, asking, begun_offset, conn_news}
use Rattle.sq_machine.specs.Marks.{Marked, Past, entries}
use Rattle.sq_machine.specs.Processes.{lives_on, proc_count, stop_due}
use Rattle.sq_machine.specs.Readings.{current, offset_after, offset_of}
use Rattle.sq_machine.proofs.CheckLaws.{ask_count_more}
use Rattle.sq_machine.proofs.ConnectionLaws.{conns_of_quiet, open_count_quiet, peer_at_more}
use Rattle.sq_machine.proofs.ReadingLaws.{offset_of_more}
use Rattle.sq_model.specs.CheckRows.{held_checks}
use Rattle.sq_model.specs.ClassRows.{ClassRow, class_part, class_row}
use Rattle.sq_model.specs.Carried.{NamesOnce}
use Rattle.sq_model.specs.MarkedEntries.{noted_at}
use Rattle.sq_model.proofs.ClassParts.{equal, itself}
use Rattle.sq_model.proofs.ElsewhereLaws.{IsSamePlace}
use Rattle.sq_model.specs.Changes.{change_row, is_at}
use Rattle.sq_model.specs.States.{State, Stands, is_of_pools, machine_moment, place_of}
use Rattle.sq_model.proofs.EndStands.{part_changed, part_kept}

-- the event is none of connections, requests and delay pools, and is no beginning
pub record IsInside (event : Event) : Type 0 where
  pub news_none : conn_news event ≡ None
  pub asks_none : asking event ≡ None
  pub begins_none : begun_offset event ≡ None
  pub counts : is_of_pools event ≡ false

-- the checks, epochs and processes of a state are those of a history
pub record Inside (configs : List Configuration) (m : Past) (t : State) : Type 0 where
  pub checks_are : t.checks ≡ held_checks configs m
  pub current_is : t.current ≡ current (entries m)
  pub configs_are : (e : ℕ) → t.config e ≡ (if is_live (entries m) e then config_of configs e else None)
  pub rows_are : (e c : ℕ) → t.row e c ≡ (if is_live (entries m) e then class_part configs m e c else None)
  pub procs_are : t.procs ≡ proc_count (entries m)
  pub homes_are : (k : ℕ) → t.home k ≡ (if lives_on (entries m) k then place_of configs (entries m) k else None)
  pub stops_are : (k : ℕ) → t.stop k ≡ stop_due (entries m) k

-- the state with the checks, epochs and processes of another, at a moment
abbrev pub with_inside : ℕ → State → State → State
with_inside now t s = record s {
  checks = t.checks;
  current = t.current;
  config = t.config;
  row = t.row;
  procs = t.procs;
  home = t.home;
  stop = t.stop;
  latest = now;
}

-- it stands where these are those of the history with the entry
pub stands_inside : (configs : List Configuration) (m : Past) (s : State) (now : ℕ) (event : Event) (answer : Told)
    (t : State) → IsInside event → Stands configs m s
    → Inside configs (noted_at now event answer ∷ m) t
    → Stands configs (noted_at now event answer ∷ m) (with_inside now t s)
stands_inside configs m s now event answer t is st new = record {
  clients_are = λ c. st.clients_are c
      ∙ sym (peer_at_more x.entry (entries m) c
      ∙ ap (λ (o : Option ConnNews). peer_after c o (peer_at (entries m) c)) is.news_none);
  conns_are = st.conns_are ∙ sym (open_count_quiet x.entry (entries m) is.news_none);
  from_are = λ a. st.from_are a ∙ sym (conns_of_quiet x.entry (entries m) a is.news_none);
  checks_are = new.checks_are;
  asks_are = st.asks_are ∙ sym
      (ask_count_more x.entry (entries m) ∙ ap (λ (o : Option Asking). more_if o (ask_count (entries m))) is.asks_none);
  puts_are = st.puts_are;
  current_is = new.current_is;
  configs_are = new.configs_are;
  rows_are = new.rows_are;
  procs_are = new.procs_are;
  homes_are = new.homes_are;
  stops_are = new.stops_are;
  latest_is = sym (ap (λ (b : Bool). if b then machine_moment (entries m) else now) is.counts);
  offset_is = st.offset_is
      ∙ sym (offset_of_more x.entry (entries m)
      ∙ ap (λ (o : Option ℤ). offset_after o (offset_of (entries m))) is.begins_none);
}
  where
    x : Marked
    x = noted_at now event answer

-- a place that is found is the place
pub same_place : (p : ClassId) (e c : ℕ) → is_at p e c ≡ true → IsSamePlace p.epoch p.class e c
same_place p e c t =
    let both = and_parts (p.epoch == e) (p.class == c) t in
    record { epoch_is = equal p.epoch e both.0; class_is = equal p.class c both.1 }

-- and one that is another is not the same
pub other_place : (p : ClassId) (e c : ℕ) → is_at p e c ≡ false → IsSamePlace p.epoch p.class e c → ⊥
other_place p e c t same =
    let at : is_at p e c ≡ true =
    ap₂ (λ (a b : ℕ). (p.epoch == a) && (p.class == b)) (sym same.epoch_is) (sym same.class_is)
    ∙ ap₂ (λ (a b : Bool). a && b) (itself p.epoch) (itself p.class) in
    let no : false ≡ true = sym t ∙ at in
    cc

-- the classes of two places: the name of one, with its epoch, is not the other's
pub other_name : (configs : List Configuration) (p : ClassId) (e c : ℕ) (class other : Class) → NamesOnce configs
    → class_at configs p.epoch p.class ≡ Some class → class_at configs e c ≡ Some other
    → is_at p e c ≡ false → ((p.epoch == e) && bytes_eq class.name other.name) ≡ false
other_name configs p e c class other once at there away = by (p.epoch == e) (bytes_eq class.name other.name) refl refl
  where
    by : (a b : Bool) → (p.epoch == e) ≡ a → bytes_eq class.name other.name ≡ b → (a && b) ≡ false
    by true true same named =
        let epoch : p.epoch ≡ e = equal p.epoch e same in
        let place : p.class ≡ c =
        once e p.class c class other (ap (λ (i : ℕ). class_at configs i p.class) (sym epoch) ∙ at) there named in
        absurd (other_place p e c away (record { epoch_is = epoch; class_is = place }))
    by true false same named = refl
    by false b same named = refl

-- the rows after an entry that changes the class at one place
pub rows_at : (configs : List Configuration) (m : Past) (s : State) (x : Marked) (p : ClassId) (f : ClassRow → ClassRow)
    → Stands configs m s
    → ((e : ℕ) → is_live (entries (x ∷ m)) e ≡ is_live (entries m) e)
    → ((class : Class) → class_at configs p.epoch p.class ≡ Some class
    → class_row configs (x ∷ m) p.epoch p.class class ≡ f (class_row configs m p.epoch p.class class))
    → ((e c : ℕ) (class : Class) → is_at p e c ≡ false → class_at configs e c ≡ Some class
    → class_row configs (x ∷ m) e c class ≡ class_row configs m e c class)
    → (e c : ℕ) → (change_row p f s).row e c
    ≡ (if is_live (entries (x ∷ m)) e then class_part configs (x ∷ m) e c else None)
rows_at configs m s x p f st live here others e c = by (is_at p e c) refl
  where
    mapped : (b : Bool) (o : Option ClassRow)
        → option_map f (if b then o else None) ≡ (if b then option_map f o else None)
    mapped true o = refl
    mapped false o = refl

    at_place : option_map f (s.row p.epoch p.class)
        ≡ (if is_live (entries (x ∷ m)) p.epoch then class_part configs (x ∷ m) p.epoch p.class else None)
    at_place =
        ap (option_map f) (st.rows_are p.epoch p.class)
        ∙ mapped (is_live (entries m) p.epoch) (class_part configs m p.epoch p.class)
        ∙ ap₂ (λ (b : Bool) (o : Option ClassRow). if b then o else None) (sym (live p.epoch))
        (sym (part_changed configs m (x ∷ m) p.epoch p.class f here))

    by : (b : Bool) → is_at p e c ≡ b
        → (if b then option_map f (s.row e c) else s.row e c)
        ≡ (if is_live (entries (x ∷ m)) e then class_part configs (x ∷ m) e c else None)
    by true t =
        let same = same_place p e c t in
        subst (λ (i : ℕ). option_map f (s.row i c)
        ≡ (if is_live (entries (x ∷ m)) i then class_part configs (x ∷ m) i c else None)) same.epoch_is
        (subst (λ (i : ℕ). option_map f (s.row p.epoch i)
        ≡ (if is_live (entries (x ∷ m)) p.epoch then class_part configs (x ∷ m) p.epoch i else None)) same.class_is
        at_place)
    by false t =
        st.rows_are e c
        ∙ ap₂ (λ (b : Bool) (o : Option ClassRow). if b then o else None) (sym (live e))
        (sym (part_kept configs m (x ∷ m) e c (λ class at. others e c class t at)))
