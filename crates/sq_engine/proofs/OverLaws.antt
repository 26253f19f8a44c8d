-- An engine of which an open check is over: it is one still, and what is left.
use Rattle.std.proofs.Common.{◌≡◌, ◌∙◌, ◌==◌, ◌&&◌, ◌||◌, ℕ, suc, List, [], ◌∷◌, Bool, true, false, not, if◌then◌else◌, map, length, nat_lt, Option, None, Some, is_some, refl, ap, ap₂, sym, subst}
use Rattle.std.proofs.lemmas.Option.{none-some, same_Some}
use Rattle.std.specs.List.{list_any}
use Rattle.std.specs.Option.{option_map}
use Rattle.sq_base.specs.Addresses.{Address}
use Rattle.sq_rules.specs.declared.sights.Peer.{Peer}
use Rattle.sq_rules.specs.Configurations.{Configuration}
use Rattle.sq_machine.specs.DueActs.{ClassId}
use Rattle.sq_machine.specs.OpenLookups.{all_below, is_open_lookup, key_of, question_of}
use Rattle.sq_machine.specs.Rising.{Rises}
use Rattle.sq_model.specs.CheckRows.{Held, held_at, held_on, without_check, without_conn}
use Rattle.sq_model.specs.ClassRows.{ClassRow}
use Rattle.sq_class.specs.Parts.{PartState}
use Rattle.sq_checks.proofs.AloneLaws.{alone_without, conn_alone, held_on_left}
use Rattle.sq_checks.specs.Conns.{OpenConns, check_in, client_in}
use Rattle.sq_checks.specs.Counts.{tally}
use Rattle.sq_checks.specs.OpenChecks.{AreAlone, CheckParts, all_before, row, rows_of, without_entry}
use Rattle.sq_checks.specs.Tables.{value_at}
use Rattle.sq_epochs.proofs.EndLaws.{epoch_counted, epoch_dropped, if_there, is_gone}
use Rattle.sq_epochs.proofs.OverLaws.{config_ended, home_ended, row_ended, stop_ended}
use Rattle.sq_epochs.specs.EpochProcs.{AreHomed}
use Rattle.sq_epochs.specs.EpochStates.{EpochState, EpochsState, change_epoch, epoch_at, home_at, part_at, part_of}
use Rattle.sq_epochs.specs.HomeStates.{home_number}
use Rattle.sq_epochs.specs.LiveEpochs.{after_ended, check_less, drop_epoch, ends_with_check}
use Rattle.sq_model.specs.Changes.{if_live, is_over, with_checks}
use Rattle.sq_model.specs.States.{IsSame, lives_with}
use Rattle.sq_engine.specs.Engines.{AreCounted, AreOnce, IsEngine, held_number, waits_at}
use Rattle.sq_engine.specs.EngineViews.{EngineView, config_at, config_in, state_of}
use Rattle.sq_engine.proofs.CountLaws.{counted_over, if_false, if_true}
use Rattle.sq_engine.proofs.LeavingLaws.{LeftBy, WasPart}
use Rattle.sq_engine.proofs.NowLaws.{held_is}
use Rattle.sq_engine.proofs.TableLaws.{none_if, number_is, number_self, number_sym, removed_at, same_key}

-- a check is the one of its connection
pub held_alone : (n : ℕ) (h : Held) (checks : List Held) → AreAlone checks → held_at n checks ≡ Some h
    → held_on h.asked.conn checks ≡ Some h
held_alone n h [] a f = absurd (none-some h f)
held_alone n h (x ∷ checks) a f = by (n == x.number) refl f (held_alone n h checks a.1)
  where
    by : (b : Bool) → (n == x.number) ≡ b → held_at n (x ∷ checks) ≡ Some h
        → (held_at n checks ≡ Some h → held_on h.asked.conn checks ≡ Some h)
        → held_on h.asked.conn (x ∷ checks) ≡ Some h
    by true t g rest =
        let same : x ≡ h = same_Some _ _ (sym (if_true (n == x.number) (Some x) (held_at n checks) t) ∙ g) in
        subst (λ z. held_on z.asked.conn (x ∷ checks) ≡ Some z) same
        (if_true (x.asked.conn == x.asked.conn) (Some x) (held_on x.asked.conn checks) (number_self x.asked.conn))
    by false t g rest = more (h.asked.conn == x.asked.conn) refl
        (rest (sym (if_false (n == x.number) (Some x) (held_at n checks) t) ∙ g))
      where
        more : (b : Bool) → (h.asked.conn == x.asked.conn) ≡ b → held_on h.asked.conn checks ≡ Some h
            → held_on h.asked.conn (x ∷ checks) ≡ Some h
        more true y on = absurd (none-some h
            (sym a.0 ∙ ap (λ z. held_on z checks) (sym (number_is h.asked.conn x.asked.conn y)) ∙ on))
        more false y on = if_false (h.asked.conn == x.asked.conn) (Some x) (held_on h.asked.conn checks) y ∙ on

both_and : (a b : Bool) → (a && b) ≡ true → (a ≡ true) × (b ≡ true)
both_and true b h = (refl, h)
both_and false b h = absurd (cc)

before_without : (m n : ℕ) (checks : List Held) → all_before m checks ≡ true
    → all_before m (without_check n checks) ≡ true
before_without m n [] h = refl
before_without m n (x ∷ checks) h =
    let p = both_and (nat_lt x.number m) (all_before m checks) h in
    by (n == x.number) refl p.0 (before_without m n checks p.1)
  where
    by : (b : Bool) → (n == x.number) ≡ b → nat_lt x.number m ≡ true → all_before m (without_check n checks) ≡ true
        → all_before m (without_check n (x ∷ checks)) ≡ true
    by true t p more = rw t more
    by false t p more = rw (t, p) more

or_true : (a b : Bool) → b ≡ true → (a || b) ≡ true
or_true true b e = refl
or_true false b e = e

-- the epoch of a check that is found has one
pub found_lives : (m : ℕ) (k : CheckParts) (es : List (ℕ × CheckParts)) → value_at es m ≡ Some k
    → list_any (λ (h : Held). h.asked.epoch == k.epoch) (rows_of es) ≡ true
found_lives m k [] f = absurd (none-some k f)
found_lives m k (e ∷ es) f = by (m == e.0) refl f (found_lives m k es)
  where
    by : (b : Bool) → (m == e.0) ≡ b → value_at (e ∷ es) m ≡ Some k
        → (value_at es m ≡ Some k → list_any (λ (h : Held). h.asked.epoch == k.epoch) (rows_of es) ≡ true)
        → (e.1.epoch == k.epoch || list_any (λ (h : Held). h.asked.epoch == k.epoch) (rows_of es)) ≡ true
    by true t g more =
        let same : e.1 ≡ k = same_Some _ _ (rw (same_key m e.0, t) at g) in
        ap (λ b. b || list_any (λ (h : Held). h.asked.epoch == k.epoch) (rows_of es))
        (ap (λ z. z.epoch == k.epoch) same ∙ number_self k.epoch)
    by false t g more = or_true (e.1.epoch == k.epoch) (list_any (λ (h : Held). h.asked.epoch == k.epoch) (rows_of es))
        (more (rw (same_key m e.0, t) at g))

current_by : (b : Bool) (e : ℕ) (v : EpochsState)
    → (if b then drop_epoch e v else record v { epochs = change_epoch e check_less v.epochs }).current ≡ v.current
current_by true e v = refl
current_by false e v = refl

pub current_over : (e : ℕ) (v : EpochsState) → (after_ended e v).current ≡ v.current
current_over e v = current_by (ends_with_check e v) e v

procs_by : (b : Bool) (e : ℕ) (v : EpochsState)
    → (if b then drop_epoch e v else record v { epochs = change_epoch e check_less v.epochs }).procs ≡ v.procs
procs_by true e v = refl
procs_by false e v = refl

less_part : (b : Bool) (c : ℕ) (o : Option EpochState)
    → part_of c (if b then option_map check_less o else o)
    ≡ (if is_some (if b then option_map check_less o else o) then part_of c o else None)
less_part true c None = refl
less_part true c (Some x) = refl
less_part false c None = refl
less_part false c (Some x) = refl

drop_part : (b : Bool) (c : ℕ) (o : Option EpochState)
    → part_of c (if b then None else o) ≡ (if is_some (if b then None else o) then part_of c o else None)
drop_part true c o = refl
drop_part false c None = refl
drop_part false c (Some x) = refl

-- the parts of the epochs that live then
pub part_over : (e f c : ℕ) (v : EpochsState)
    → part_at (after_ended e v) f c ≡ (if is_some (epoch_at (after_ended e v) f) then part_at v f c else None)
part_over e f c v = by (ends_with_check e v) refl
  where
    by : (b : Bool) → ends_with_check e v ≡ b
        → part_at (after_ended e v) f c ≡ (if is_some (epoch_at (after_ended e v) f) then part_at v f c else None)
    by true x =
        let w : after_ended e v ≡ drop_epoch e v =
        if_true (ends_with_check e v) (drop_epoch e v) (record v { epochs = change_epoch e check_less v.epochs }) x in
        subst (λ z. part_at z f c ≡ (if is_some (epoch_at z f) then part_at v f c else None)) (sym w)
        (ap (part_of c) (epoch_dropped e f v) ∙ drop_part (e == f) c (epoch_at v f)
        ∙ sym (ap (λ o. if is_some o then part_at v f c else None) (epoch_dropped e f v)))
    by false x =
        let w : after_ended e v ≡ record v { epochs = change_epoch e check_less v.epochs } =
        if_false (ends_with_check e v) (drop_epoch e v) (record v { epochs = change_epoch e check_less v.epochs }) x in
        let read = epoch_counted e f check_less v (λ y. refl) in
        subst (λ z. part_at z f c ≡ (if is_some (epoch_at z f) then part_at v f c else None)) (sym w)
        (ap (part_of c) read ∙ less_part (f == e) c (epoch_at v f)
        ∙ sym (ap (λ o. if is_some o then part_at v f c else None) read))

pub some_then : (b : Bool) (o : Option PartState) (p : PartState) → (if b then o else None) ≡ Some p
    → (b ≡ true) × (o ≡ Some p)
some_then true o p e = (refl, e)
some_then false o p e = absurd (none-some p e)

-- what an open check of an engine is over by: its connection has none, its epoch counts it no more
pub record IsOver (v : EngineView) (n : ℕ) (k : CheckParts) (left : EpochsState) : Type 0 where
  pub found : value_at v.checks n ≡ Some k
  pub rise : Rises (map held_number (rows_of v.checks))
  pub leaves : LeftBy n v.epochs left

none_at : (b : Bool) (m n : ℕ) (o : Option CheckParts) (k : CheckParts) → none_if b o ≡ Some k
    → (b ≡ false) × (o ≡ Some k)
none_at true m n o k e = absurd (none-some k e)
none_at false m n o k e = (refl, e)

-- a check that is found after that was there
still_there : (v : EngineView) (n m : ℕ) (k : CheckParts) (cs : List (ℕ × CheckParts)) → cs ≡ without_entry n v.checks
    → value_at cs m ≡ Some k → value_at v.checks m ≡ Some k
still_there v n m k cs list is = (none_at (n == m) m n (value_at v.checks m) k
    (sym (ap (λ z. value_at z m) list ∙ removed_at n m v.checks) ∙ is)).1

wait_gone : (f d m n : ℕ) (b : Bool) (o : Option CheckParts) (q : Option ℕ) → q ≡ waits_at f d o
    → (if b then None else q) ≡ waits_at f d (none_if b o)
wait_gone f d m n true o q e = refl
wait_gone f d m n false o q e = e

if_option : {A : Type 0} (b : Bool) (x y o : Option A) → x ≡ y → (if b then o else x) ≡ (if b then o else y)
if_option b x y o e = ap (λ z. if b then o else z) e

number_if : (b : Bool) (o : Option Held)
    → (if b then None else option_map held_number o) ≡ option_map held_number (if b then None else o)
number_if true o = refl
number_if false o = refl

pub counted_left : (v : EngineView) (n : ℕ) (k : CheckParts) (left : EpochsState) → IsEngine v → IsOver v n k left
    → AreCounted (after_ended k.epoch left).current (epoch_at (after_ended k.epoch left))
    (without_check n (rows_of v.checks))
counted_left v n k left i o = counted_over left k.epoch n (row n k) (rows_of v.checks) o.rise (held_is v n k o.found)
    refl (o.leaves.counted (rows_of v.checks) i.counted)

-- to leave out the check is to leave out those of its connection
pub conn_out : (v : EngineView) (n : ℕ) (k : CheckParts) (left : EpochsState) → IsEngine v → IsOver v n k left
    → without_conn k.conn (rows_of v.checks) ≡ without_check n (rows_of v.checks)
conn_out v n k left i o = conn_alone k.conn (row n k) (rows_of v.checks) i.asked.alone o.rise
    (held_alone n (row n k) (rows_of v.checks) i.asked.alone (held_is v n k o.found))

-- a part that is found then was there
part_was : (v : EngineView) (n : ℕ) (k : CheckParts) (left : EpochsState) → IsOver v n k left
    → (f d : ℕ) (p : PartState) → part_at (after_ended k.epoch left) f d ≡ Some p → WasPart n (part_at v.epochs f d) p
part_was v n k left o f d p is = o.leaves.parts_are f d p
    (some_then (is_some (epoch_at (after_ended k.epoch left) f)) (part_at left f d) p
    (sym (part_over k.epoch f d left) ∙ is)).1

pub over_engine : (v : EngineView) (n t : ℕ) (k : CheckParts) (left ep : EpochsState) (ks : OpenConns)
    (cs : List (ℕ × CheckParts)) → IsEngine v → IsOver v n k left → ep ≡ after_ended k.epoch left
    → cs ≡ without_entry n v.checks → rows_of cs ≡ without_check n (rows_of v.checks)
    → ((c : ℕ) → check_in ks c ≡ (if k.conn == c then None else check_in v.conns c))
    → IsEngine (record v { conns = ks; checks = cs; epochs = ep; latest = t })
over_engine v n t k left ep ks cs i o is list rows conns = subst (λ e. IsEngine
    (record v { conns = ks; checks = cs; epochs = e; latest = t })) (sym is) record {
      asked = record {
        on_conns = λ c. conns c ∙ ap (λ z. if k.conn == c then None else z) (i.asked.on_conns c)
            ∙ number_if (k.conn == c) (held_on c (rows_of v.checks))
            ∙ sym (ap (option_map held_number)
            (ap (held_on c) (rows ∙ sym (conn_out v n k left i o)) ∙ held_on_left k.conn c (rows_of v.checks)));
        alone = subst AreAlone (sym rows) (alone_without n (rows_of v.checks) i.asked.alone);
        given = ap (all_before (suc v.asks)) rows ∙ before_without (suc v.asks) n (rows_of v.checks) i.asked.given;
        few = i.asked.few;
      };
      counted = counted;
      configured = λ m j found.
          config_ended k.epoch j.epoch left
          ∙ if_true (is_some (epoch_at new j.epoch)) (config_in (epoch_at left j.epoch)) None (lives m j found)
          ∙ o.leaves.configs_are j.epoch ∙ i.configured m j (still_there v n m j cs list found);
      waiting = record {
        waits = λ f d p found m.
            let w = part_was v n k left o f d p found in
            w.waiting_are m ∙ ap (λ b. if b then None else question_of m w.part.waiting) (number_sym m n)
            ∙ wait_gone f d m n (n == m) (value_at v.checks m) (question_of m w.part.waiting)
            (i.waiting.waits f d w.part w.was m)
            ∙ sym (ap (waits_at f d) (ap (λ z. value_at z m) list ∙ removed_at n m v.checks));
        there = λ m j x found needs.
            ap is_some (part_over k.epoch j.epoch x.class left
            ∙ if_true (is_some (epoch_at new j.epoch)) (part_at left j.epoch x.class) None (lives m j found))
            ∙ o.leaves.there j.epoch x.class (i.waiting.there m j x (still_there v n m j cs list found) needs);
      };
      fed = record {
        below = λ f d p found. let w = part_was v n k left o f d p found in
            ap (λ r. all_below (suc v.puts) r.lookups) w.row_is ∙ i.fed.below f d w.part w.was;
        apart = λ q f d g h p r found other here there.
            let w = part_was v n k left o f d p found in
            let u = part_was v n k left o g h r other in
            i.fed.apart q f d g h w.part u.part w.was u.was (ap (λ z. is_open_lookup q z.lookups) (sym w.row_is) ∙ here)
            (ap (λ z. is_open_lookup q z.lookups) (sym u.row_is) ∙ there);
        waits_open = λ f d m q p found waits.
            let w = part_was v n k left o f d p found in
            ap (λ r. is_open_lookup q r.lookups) w.row_is
            ∙ i.fed.waits_open f d m q w.part w.was
            (not_gone (m == n) (question_of m w.part.waiting) q (sym (w.waiting_are m) ∙ waits));
        none_lost = λ f d p found. let w = part_was v n k left o f d p found in
            ap (λ r. r.stock.losses) w.row_is ∙ i.fed.none_lost f d w.part w.was;
        few = i.fed.few;
      };
      keyed = record {
        once = λ f d p found. let w = part_was v n k left o f d p found in
            subst (λ r. AreOnce r.lookups) (sym w.row_is) (i.keyed.once f d w.part w.was);
        keys = λ m j x p found needs at.
            let w = part_was v n k left o j.epoch x.class p at in
            ap (λ r. key_of x.question r.lookups) w.row_is
            ∙ i.keyed.keys m j x w.part (still_there v n m j cs list found) needs w.was;
      };
      setup_is =
          ap (config_at new) (current_over k.epoch left ∙ o.leaves.current_is)
          ∙ config_ended k.epoch v.epochs.current left
          ∙ if_true (is_some (epoch_at new v.epochs.current)) (config_in (epoch_at left v.epochs.current)) None
          current_lives ∙ o.leaves.configs_are v.epochs.current ∙ i.setup_is;
    }
  where
    new : EpochsState
    new = after_ended k.epoch left

    counted : AreCounted new.current (epoch_at new) (rows_of cs)
    counted = subst (AreCounted new.current (epoch_at new)) (sym rows) (counted_left v n k left i o)

    lives : (m : ℕ) (j : CheckParts) → value_at cs m ≡ Some j → is_some (epoch_at new j.epoch) ≡ true
    lives m j found = counted.live j.epoch
        ∙ or_true (j.epoch == new.current) (list_any (λ (h : Held). h.asked.epoch == j.epoch) (rows_of cs))
        (found_lives m j cs found)

    current_lives : is_some (epoch_at new v.epochs.current) ≡ true
    current_lives = counted.live v.epochs.current
        ∙ ap (λ b. b || list_any (λ (h : Held). h.asked.epoch == v.epochs.current) (rows_of cs))
        (ap (λ z. v.epochs.current == z) (current_over k.epoch left ∙ o.leaves.current_is)
        ∙ number_self v.epochs.current)

    not_gone : (b : Bool) (q : Option ℕ) (a : ℕ) → (if b then None else q) ≡ Some a → q ≡ Some a
    not_gone true q a e = absurd (none-some a e)
    not_gone false q a e = e

pub live_place : (w : EpochsState) (lives : ℕ → Bool) → ((f : ℕ) → is_some (epoch_at w f) ≡ lives f)
    → (p : Option ClassId) → if_there w p ≡ if_live lives p
live_place w lives is None = refl
live_place w lives is (Some p) = ap (λ b. if b then Some p else None) (is p.epoch)

pub live_gone : (w : EpochsState) (lives : ℕ → Bool) → ((f : ℕ) → is_some (epoch_at w f) ≡ lives f)
    → (p : Option ClassId) → is_gone w p ≡ is_over lives p
live_gone w lives is None = refl
live_gone w lives is (Some p) = ap not (is p.epoch)

-- what is left, where connections and the moment are these
pub over_same : (v : EngineView) (n t : ℕ) (k : CheckParts) (left ep : EpochsState) (ks : OpenConns)
    (cs : List (ℕ × CheckParts)) (client : ℕ → Option Peer) (conns : ℕ) (from : Address → ℕ) → IsEngine v
    → IsOver v n k left
    → AreHomed left → Rises (map home_number left.homes) → ep ≡ after_ended k.epoch left
    → rows_of cs ≡ without_check n (rows_of v.checks)
    → ((c : ℕ) → client_in ks c ≡ client c) → length ks.links ≡ conns → ((a : Address) → tally ks.counts a ≡ from a)
    → IsSame (state_of (record v { conns = ks; checks = cs; epochs = ep; latest = t }))
    (with_checks (without_check n (rows_of v.checks))
    (record (state_of v) { client = client; conns = conns; from = from; latest = t }))
over_same v n t k left ep ks cs client conns from i o homed rise is rows clients len counts =
    subst (λ e. IsSame (state_of (record v { conns = ks; checks = cs; epochs = e; latest = t }))
    (with_checks (without_check n (rows_of v.checks))
    (record (state_of v) { client = client; conns = conns; from = from; latest = t }))) (sym is) record {
      clients_are = clients;
      conns_are = len;
      from_are = counts;
      checks_are = rows;
      asks_are = refl;
      puts_are = refl;
      current_is = current;
      configs_are = λ f. config_ended k.epoch f left
          ∙ ap₂ (λ (b : Bool) (c : Option Configuration). if b then c else None) (lives f) (o.leaves.configs_are f);
      rows_are = λ f d. row_ended k.epoch f d left
          ∙ ap₂ (λ (b : Bool) (c : Option ClassRow). if b then c else None) (lives f) (o.leaves.rows_are f d);
      procs_are = procs_by (ends_with_check k.epoch left) k.epoch left ∙ o.leaves.procs_are;
      homes_are = λ j. home_ended k.epoch j left homed rise ∙ live_place new alive lives (home_at left j)
          ∙ ap (if_live alive) (o.leaves.homes_are j);
      stops_are = λ j. stop_ended k.epoch j left homed rise
          ∙ ap₂ (λ (a b : Bool). a || b) (o.leaves.stops_are j)
          (live_gone new alive lives (home_at left j) ∙ ap (is_over alive) (o.leaves.homes_are j));
      latest_is = refl;
      offset_is = refl;
    }
  where
    new : EpochsState
    new = after_ended k.epoch left

    current : new.current ≡ v.epochs.current
    current = current_over k.epoch left ∙ o.leaves.current_is

    alive : ℕ → Bool
    alive = lives_with v.epochs.current (without_check n (rows_of v.checks))

    lives : (f : ℕ) → is_some (epoch_at new f) ≡ lives_with v.epochs.current (without_check n (rows_of v.checks)) f
    lives f = (counted_left v n k left i o).live f
        ∙ ap (λ z. lives_with z (without_check n (rows_of v.checks)) f) current
