-- The connections and the checks of a rehearsal's history.
use Rattle.std.proofs.Common.{◌≡◌, ℕ, ◌+◌, ◌≤◌, ◌<◌, ◌==◌, suc, nat_le, List, [], ◌∷◌, ◌++◌, length, Bool, true, false, if◌then◌else◌, Option, Some, None, is_some, is_none, refl, sym, ap, subst, ◌∙◌, arith}
use Rattle.std.proofs.lemmas.Bool.Decides.{nat_tests}
use Rattle.std.proofs.lemmas.Option.{none-some, same_Some}
use Rattle.std.specs.Prelude.{⊤}
use Rattle.std.specs.Option.{option_map, option_or}
use Rattle.sq_base.specs.Addresses.{Address}
use Rattle.sq_base.specs.declared.requests.Field.{Field}
use Rattle.sq_machine.specs.declared.entries.Event.TheVariants.{Ask, Close, Open}
use Rattle.sq_machine.specs.declared.entries.Told.TheVariants as told
use Rattle.sq_machine.specs.declared.refusals.Refusal.TheVariants as refusal
use Rattle.sq_rules.specs.Configurations.{Configuration}
use Rattle.sq_rules.specs.declared.sights.Peer.{Peer}
use Rattle.sq_machine.specs.Checks.{ask_count, ask_of, asked_by, conn_in, conn_of, more_if, open_check}
use Rattle.sq_machine.specs.Connections.{open_count, peer_after, peer_at}
use Rattle.sq_machine.specs.Entries.{History, Noted, entry_at}
use Rattle.sq_machine.specs.Events.{Asking, ConnNews, asking, conn_news}
use Rattle.sq_machine.specs.Limits.{conn_limit, last_number}
use Rattle.sq_machine.specs.Machine.{next, next_at}
use Rattle.sq_machine.specs.Marking.{marked}
use Rattle.sq_machine.specs.Next.{gives, refuse_if, refuse_open}
use Rattle.sq_machine.proofs.CheckLaws.{ask_count_more, ask_of_kept, ask_of_more, none_numbered}
use Rattle.sq_machine.proofs.ConnectionLaws.{open_count_closed, open_count_opened, open_count_quiet, peer_at_more}
use Rattle.sq_machine.proofs.OpenCheckLaws.{open_check_found}
use Rattle.sq_model.proofs.LegalLaws.{marked_entries}
use Rattle.sq_commands.specs.declared.rehearsal_stages.Pending.{Pending}

-- connections

abbrev pub IsOpen : History → ℕ → Type 0
IsOpen h c = is_some (peer_at h c) ≡ true

-- none of these checks is of this connection
abbrev pub AreOthers : ℕ → List Pending → Type 0
AreOthers c [] = ⊤
AreOthers c (p ∷ ps) = (p.conn ≡ c → ⊥) × AreOthers c ps

-- the connections of these checks are open_is, and no two are the same
abbrev pub AreHeld : History → List Pending → Type 0
AreHeld h [] = ⊤
AreHeld h (p ∷ ps) = IsOpen h p.conn × AreOthers p.conn ps × AreHeld h ps

pub others_more : (c : ℕ) (ps : List Pending) (p : Pending) → (p.conn ≡ c → ⊥) → AreOthers c ps
    → AreOthers c (ps ++ p ∷ [])
others_more c [] p other all = (other, tt)
others_more c (q ∷ ps) p other all = (all.0, others_more c ps p other all.1)

pub held_more : (h : History) (ps : List Pending) (p : Pending) → IsOpen h p.conn → AreOthers p.conn ps → AreHeld h ps
    → AreHeld h (ps ++ p ∷ [])
held_more h [] p open_is other held = (open_is, tt, tt)
held_more h (q ∷ ps) p open_is other held = (
  held.0,
  others_more q.conn ps p (λ e. other.0 (sym e)) held.1,
  held_more h ps p open_is other.1 held.2,
)

-- a connection that is not open is none of theirs
pub none_held : (h : History) (c : ℕ) (ps : List Pending) → peer_at h c ≡ None → AreHeld h ps → AreOthers c ps
none_held h c [] none held = tt
none_held h c (p ∷ ps) none held = (
  λ e. shut (peer_at h c) none (subst (λ (k : ℕ). IsOpen h k) e held.0),
  none_held h c ps none held.2,
)
  where
    shut : (o : Option Peer) → o ≡ None → is_some o ≡ true → ⊥
    shut None is some = absurd (cc)
    shut (Some p) is some = absurd (none-some p (sym is))

-- they stay so where none of their connections closes
held_same : (h g : History) (ps : List Pending) → ((c : ℕ) → peer_at g c ≡ peer_at h c) → AreHeld h ps → AreHeld g ps
held_same h g [] same held = tt
held_same h g (p ∷ ps) same held = (
  ap (λ o. is_some o) (same p.conn) ∙ held.0,
  held.1,
  held_same h g ps same held.2,
)

held_opened : (h g : History) (c : ℕ) (peer : Peer) (ps : List Pending)
    → ((k : ℕ) → peer_at g k ≡ (if c == k then Some peer else peer_at h k)) → AreHeld h ps → AreHeld g ps
held_opened h g c peer [] is held = tt
held_opened h g c peer (p ∷ ps) is held = (
  ap (λ o. is_some o) (is p.conn) ∙ by (c == p.conn),
  held.1,
  held_opened h g c peer ps is held.2,
)
  where
    by : (b : Bool) → is_some (if b then Some peer else peer_at h p.conn) ≡ true
    by true = refl
    by false = held.0

held_closed : (h g : History) (c : ℕ) (ps : List Pending)
    → ((k : ℕ) → peer_at g k ≡ (if c == k then None else peer_at h k)) → AreOthers c ps → AreHeld h ps → AreHeld g ps
held_closed h g c [] is other held = tt
held_closed h g c (p ∷ ps) is other held =
    let apart : (c == p.conn) ≡ false = by (c == p.conn) refl in (
      ap (λ o. is_some o) (is p.conn ∙ ap (λ (b : Bool). if b then None else peer_at h p.conn) apart) ∙ held.0,
      held.1,
      held_closed h g c ps is other.1 held.2,
    )
  where
    by : (b : Bool) → (c == p.conn) ≡ b → b ≡ false
    by true same = let one : p.conn ≡ c = grind (arith, nat_tests, same) in absurd (other.0 one)
    by false same = refl

-- a history: so many checks began, connections from `opens` on did not open, none from `asks` on has a check, and no
-- more are open_is than these checks' and so many others
pub record World (a : ℕ) (h : History) (ps : List Pending) (opens asks hand : ℕ) : Type 0 where
  pub counts : ask_count h ≡ a
  pub unopened : (c : ℕ) → opens ≤ c → peer_at h c ≡ None
  pub unasked : (n c : ℕ) → conn_of h n ≡ Some c → c < asks
  pub held : AreHeld h ps
  pub few : open_count h ≤ length ps + hand

-- what neither opens or closes a connection nor begins a check
pub record IsQuiet (h g : History) : Type 0 where
  pub peers : (c : ℕ) → peer_at g c ≡ peer_at h c
  pub checks : (n : ℕ) → conn_of g n ≡ conn_of h n
  pub count : ask_count g ≡ ask_count h
  pub opens : open_count g ≡ open_count h

pub quiet_same : (h : History) → IsQuiet h h
quiet_same h = record { peers = λ c. refl; checks = λ n. refl; count = refl; opens = refl }

pub quiet_entry : (e : Noted) (h : History) → conn_news e.event ≡ None → asking e.event ≡ None → IsQuiet h (e ∷ h)
quiet_entry e h news asks = record {
  peers = λ c. peer_at_more e h c ∙ ap (λ (o : Option ConnNews). peer_after c o (peer_at h c)) news;
  checks = λ n. ap conn_in (ask_of_kept e h n (none_numbered n (ask_count h) (asking e.event) asks));
  count = ask_count_more e h ∙ ap (λ (o : Option Asking). more_if o (ask_count h)) asks;
  opens = open_count_quiet e h news;
}

pub quiet_world : (a : ℕ) (h g : History) (ps : List Pending) (opens asks hand : ℕ) → IsQuiet h g
    → World a h ps opens asks hand → World a g ps opens asks hand
quiet_world a h g ps opens asks hand quiet w = record {
  counts = quiet.count ∙ w.counts;
  unopened = λ c far. quiet.peers c ∙ w.unopened c far;
  unasked = λ n c is. w.unasked n c (sym (quiet.checks n) ∙ is);
  held = held_same h g ps quiet.peers w.held;
  few = subst (λ (n : ℕ). n ≤ length ps + hand) (sym quiet.opens) w.few;
}

-- connection c opens
pub opened_world : (a : ℕ) (h : History) (ps : List Pending) (c moment : ℕ) (addr : Address) (port : ℕ)
    → World a h ps c c 0 → World a (entry_at moment (Open c addr port) told.Fine ∷ h) ps (suc c) c 1
opened_world a h ps c moment addr port w =
    let e = entry_at moment (Open c addr port) told.Fine in
    let peer : Peer = record { addr = addr; port = port } in
    let more = open_count_opened e h c peer refl (w.unopened c (omega arith)) in
    record {
      counts = ask_count_more e h ∙ w.counts;
      unopened = λ k far. peer_at_more e h k ∙ elsewhere (c == k) (w.unopened k (omega (arith, far)))
          (grind (arith, nat_tests, far));
      unasked = λ n k is. w.unasked n k (sym (ap conn_in (ask_of_kept e h n refl)) ∙ is);
      held = held_opened h (e ∷ h) c peer ps (λ k. peer_at_more e h k) w.held;
      few = omega (arith, more, w.few);
    }
  where
    elsewhere : (b : Bool) {o : Option Peer} → o ≡ None → b ≡ false
        → (if b then Some (record { addr = addr; port = port }) else o) ≡ None
    elsewhere true none apart = absurd (cc)
    elsewhere false none apart = none

pub opened_open : (h : History) (c moment : ℕ) (addr : Address) (port : ℕ)
    → IsOpen (entry_at moment (Open c addr port) told.Fine ∷ h) c
opened_open h c moment addr port =
    let e = entry_at moment (Open c addr port) told.Fine in
    let same : (c == c) ≡ true = grind (arith, nat_tests) in
    ap (λ o. is_some o) (peer_at_more e h c
    ∙ ap (λ (b : Bool). if b then Some (record { addr = addr; port = port }) else peer_at h c) same)

-- a check of connection c begins
pub asked_world : (a : ℕ) (h : History) (ps : List Pending) (c moment : ℕ) (method target : List ℕ)
    (fields : List Field) (n : ℕ) → World a h ps (suc c) c 1
    → World (suc a) (entry_at moment (Ask c method target fields) (told.Check n) ∷ h) ps (suc c) (suc c) 1
asked_world a h ps c moment method target fields n w =
    let e = entry_at moment (Ask c method target fields) (told.Check n) in
    record {
      counts = ask_count_more e h ∙ ap suc w.counts;
      unopened = λ k far. peer_at_more e h k ∙ w.unopened k far;
      unasked = λ m k is. by (m == suc (ask_count h)) k m (sym (ap conn_in (ask_of_more e h m)) ∙ is);
      held = held_same h (e ∷ h) ps (λ k. peer_at_more e h k) w.held;
      few = subst (λ (k : ℕ). k ≤ length ps + 1) (sym (open_count_quiet e h refl)) w.few;
    }
  where
    new : Asking
    new = record { conn = c; method = method; target = target; fields = fields }

    by : (b : Bool) (k m : ℕ) → conn_in (option_or (option_map (asked_by h moment) (if b then Some new else None))
        (ask_of h m)) ≡ Some k → k < suc c
    by true k m is = let same : c ≡ k = same_Some _ _ is in omega (arith, same)
    by false k m is = let less = w.unasked m k is in omega (arith, less)

-- connection c closes
pub closed_world : (a : ℕ) (h : History) (ps : List Pending) (c moment opens asks : ℕ) → IsOpen h c → AreOthers c ps
    → World a h ps opens asks 1 → World a (entry_at moment (Close c) told.Fine ∷ h) ps opens asks 0
closed_world a h ps c moment opens asks open_is other w = by (peer_at h c) refl
  where
    gone : (b : Bool) {o : Option Peer} → o ≡ None → (if b then None else o) ≡ None
    gone true none = refl
    gone false none = none

    by : (o : Option Peer) → peer_at h c ≡ o → World a (entry_at moment (Close c) told.Fine ∷ h) ps opens asks 0
    by None is = absurd (cc)
    by (Some peer) is =
        let e = entry_at moment (Close c) told.Fine in
        let less = open_count_closed e h c peer refl is in
        record {
          counts = ask_count_more e h ∙ w.counts;
          unopened = λ k far. peer_at_more e h k ∙ gone (c == k) (w.unopened k far);
          unasked = λ n k is. w.unasked n k (sym (ap conn_in (ask_of_kept e h n refl)) ∙ is);
          held = held_closed h (e ∷ h) c ps (λ k. peer_at_more e h k) other w.held;
          few = omega (arith, less, w.few);
        }

-- what the machine answers

pub open_given : (configs : List Configuration) (h : History) (now c : ℕ) (addr : Address) (port : ℕ)
    → peer_at h c ≡ None → open_count h ≤ 4
    → next configs (marked configs h) now (Open c addr port) ≡ gives told.Fine
unfolding next next_at
open_given configs h now c addr port free few =
    subst (λ (g : History). refuse_if (is_some (peer_at g c)) (refusal.ConnInUse c)
    (refuse_if (nat_le conn_limit (open_count g)) (refusal.TooManyConns conn_limit) (gives told.Fine)) ≡ gives
    told.Fine)
    (sym (marked_entries configs h))
    (ap (λ (o : Option Peer). refuse_if (is_some o) (refusal.ConnInUse c)
    (refuse_if (nat_le conn_limit (open_count h)) (refusal.TooManyConns conn_limit) (gives told.Fine))) free
    ∙ ap (λ (b : Bool). refuse_if b (refusal.TooManyConns conn_limit) (gives told.Fine)) room)
  where
    room : nat_le 65536 (open_count h) ≡ false
    room = grind (arith, nat_tests, few)

pub close_given : (configs : List Configuration) (h : History) (now c : ℕ) → IsOpen h c
    → next configs (marked configs h) now (Close c) ≡ gives told.Fine
unfolding next next_at
close_given configs h now c open_is =
    subst (λ (g : History). refuse_if (is_none (peer_at g c)) (refusal.UnknownConn c) (gives told.Fine) ≡ gives
    told.Fine)
    (sym (marked_entries configs h)) (by (peer_at h c) open_is)
  where
    by : (o : Option Peer) → is_some o ≡ true
        → refuse_if (is_none o) (refusal.UnknownConn c) (gives told.Fine) ≡ gives told.Fine
    by None open_is = absurd (cc)
    by (Some p) open_is = refl

pub ask_given : (configs : List Configuration) (h : History) (now c : ℕ) (method target : List ℕ) (fields : List Field)
    → IsOpen h c → ((n k : ℕ) → conn_of h n ≡ Some k → k < c) → suc (ask_count h) < last_number
    → next configs (marked configs h) now (Ask c method target fields) ≡ gives (told.Check (suc (ask_count h)))
unfolding next next_at
ask_given configs h now c method target fields open_is unasked few =
    subst (λ (g : History). refuse_if (is_none (peer_at g c)) (refusal.UnknownConn c) (refuse_open (open_check g c)
    (refuse_if (nat_le last_number (suc (ask_count g))) (refusal.Spent (suc (ask_count g)))
    (gives (told.Check (suc (ask_count g)))))) ≡ gives (told.Check (suc (ask_count h))))
    (sym (marked_entries configs h))
    (by (peer_at h c) open_is (open_check h c) refl (nat_le last_number (suc (ask_count h)))
    (grind (arith, nat_tests, few)))
  where
    by : (o : Option Peer) → is_some o ≡ true → (v : Option ℕ) → open_check h c ≡ v → (b : Bool) → b ≡ false
        → refuse_if (is_none o) (refusal.UnknownConn c) (refuse_open v (refuse_if b (refusal.Spent (suc (ask_count h)))
        (gives (told.Check (suc (ask_count h)))))) ≡ gives (told.Check (suc (ask_count h)))
    by None open_is v is b room = absurd (cc)
    by (Some p) open_is (Some n) is b room =
        let less : c < c = unasked n c (open_check_found h c n is).conn_is in absurd (omega (arith, less))
    by (Some p) open_is None is true room = absurd (cc)
    by (Some p) open_is None is false room = refl
