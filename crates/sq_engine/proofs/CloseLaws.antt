-- A connection that closes: what is answered, and what is left.
use Rattle.std.proofs.Common.{◌≡◌, ◌∙◌, ◌==◌, ◌-◌, ◌||◌, ℕ, Bool, true, false, not, if◌then◌else◌, length, Option, None, Some, is_none, is_some, refl, ap, sym, subst, arith}
use Rattle.std.proofs.lemmas.Option.{none-some}
use Rattle.std.specs.Option.{option_map}
use Rattle.sq_base.specs.Addresses.{Address}
use Rattle.sq_machine.specs.declared.entries.Told.TheVariants as told
use Rattle.sq_machine.specs.declared.refusals.Refusal.TheVariants as refusal
use Rattle.sq_rules.specs.declared.sights.Peer.{Peer}
use Rattle.sq_machine.specs.Connections.{is_address}
use Rattle.sq_machine.specs.DueActs.{ClassId}
use Rattle.sq_machine.specs.Next.{gives, refuses}
use Rattle.sq_model.specs.CheckRows.{Held, held_on, without_conn}
use Rattle.sq_checks.proofs.AloneLaws.{conn_absent}
use Rattle.sq_checks.specs.Conns.{OpenConns, check_in, client_in, lowered}
use Rattle.sq_checks.specs.Counts.{tally}
use Rattle.sq_checks.specs.OpenChecks.{rows_of}
use Rattle.sq_epochs.proofs.EndLaws.{homes_there, if_there, is_gone, none_gone}
use Rattle.sq_epochs.specs.EpochProcs.{AreHomed}
use Rattle.sq_epochs.specs.EpochStates.{EpochState, EpochsState, epoch_at, home_at, part_of, row_at}
use Rattle.sq_model.specs.Answers.{close_answer}
use Rattle.sq_model.specs.Changes.{after_close, if_live, is_of_client, is_over, with_checks}
use Rattle.sq_model.specs.States.{IsSame, State, lives_with}
use Rattle.sq_engine.specs.Engines.{IsEngine, held_number}
use Rattle.sq_engine.specs.EngineViews.{EngineView, config_at, config_in, state_of}

pub close_unknown : (s : State) (c : ℕ) → is_none (s.client c) ≡ true
    → close_answer s c ≡ refuses (refusal.UnknownConn c)
close_unknown s c e = rw e refl

pub close_fine : (s : State) (c : ℕ) → is_none (s.client c) ≡ false → close_answer s c ≡ gives told.Fine
close_fine s c e = rw e refl

-- whether there is none, by whether there is one
pub none_by : (o : Option Peer) (b : Bool) → is_some o ≡ not b → is_none o ≡ b
none_by None true e = refl
none_by None false e = absurd (cc)
none_by (Some p) true e = absurd (cc)
none_by (Some p) false e = refl

no_number : (o : Option Held) → None ≡ option_map held_number o → o ≡ None
no_number None e = refl
no_number (Some h) e = absurd (none-some h.number e)

-- a connection without a check is that of none
pub none_on : (v : EngineView) (c : ℕ) → IsEngine v → check_in v.conns c ≡ None → held_on c (rows_of v.checks) ≡ None
none_on v c i none = no_number (held_on c (rows_of v.checks)) (sym none ∙ i.asked.on_conns c)

config_there : (o : Option EpochState) → config_in o ≡ (if is_some o then config_in o else None)
config_there None = refl
config_there (Some x) = refl

row_there : (c : ℕ) (o : Option EpochState)
    → option_map (λ p. p.row) (part_of c o) ≡ (if is_some o then option_map (λ p. p.row) (part_of c o) else None)
row_there c None = refl
row_there c (Some x) = refl

live_place : (w : EpochsState) (lives : ℕ → Bool) → ((f : ℕ) → is_some (epoch_at w f) ≡ lives f) → (p : Option ClassId)
    → if_there w p ≡ if_live lives p
live_place w lives is None = refl
live_place w lives is (Some p) = ap (λ b. if b then Some p else None) (is p.epoch)

live_gone : (w : EpochsState) (lives : ℕ → Bool) → ((f : ℕ) → is_some (epoch_at w f) ≡ lives f) → (p : Option ClassId)
    → is_gone w p ≡ is_over lives p
live_gone w lives is None = refl
live_gone w lives is (Some p) = ap not (is p.epoch)

or_none : (a b : Bool) → b ≡ false → a ≡ (a || b)
or_none true b e = refl
or_none false b e = sym e

-- nothing ends where all checks are left open
pub same_all : (v : EngineView) → IsEngine v → AreHomed v.epochs
    → IsSame (state_of v) (with_checks (rows_of v.checks) (state_of v))
same_all v i homed = record {
  clients_are = λ c. refl;
  conns_are = refl;
  from_are = λ a. refl;
  checks_are = refl;
  asks_are = refl;
  puts_are = refl;
  current_is = refl;
  configs_are = λ f. config_there (epoch_at v.epochs f)
      ∙ ap (λ b. if b then config_at v.epochs f else None) (i.counted.live f);
  rows_are = λ f d. row_there d (epoch_at v.epochs f)
      ∙ ap (λ b. if b then row_at v.epochs f d else None) (i.counted.live f);
  procs_are = refl;
  homes_are = λ k. homes_there v.epochs k homed
      ∙ live_place v.epochs (lives_with v.epochs.current (rows_of v.checks)) i.counted.live (home_at v.epochs k);
  stops_are = λ k. or_none _ _
      (sym (live_gone v.epochs (lives_with v.epochs.current (rows_of v.checks)) i.counted.live (home_at v.epochs k))
      ∙ none_gone v.epochs k homed);
  latest_is = refl;
  offset_is = refl;
}

-- a connection without a check: there is none to drop
pub dropped_none : (v : EngineView) (c : ℕ) → IsEngine v → AreHomed v.epochs → check_in v.conns c ≡ None
    → IsSame (state_of v) (with_checks (without_conn c (rows_of v.checks)) (state_of v))
dropped_none v c i homed none = subst (λ r. IsSame (state_of v) (with_checks r (state_of v)))
    (sym (conn_absent c (rows_of v.checks) (none_on v c i none))) (same_all v i homed)

-- the connections after one closed
pub record Closed (c : ℕ) (old new : OpenConns) (p : Option Peer) : Type 0 where
  pub client : p ≡ client_in old c
  pub clients : (d : ℕ) → client_in new d ≡ (if c == d then None else client_in old d)
  pub checks : (d : ℕ) → check_in new d ≡ (if c == d then None else check_in old d)
  pub len : length new.links ≡ (if is_some p then length old.links - 1 else length old.links)
  pub counts : (a : Address) → tally new.counts a ≡ lowered p a (tally old.counts a)

none_both : (b : Bool) (o : Option ℕ) → (b ≡ true → o ≡ None) → (if b then None else o) ≡ o
none_both true o e = sym (e refl)
none_both false o e = refl

number_is : (a b : ℕ) → (a == b) ≡ true → a ≡ b
number_is a b h = grind (arith, h)

pub closed_engine : (v : EngineView) (c t : ℕ) (ks : OpenConns) (p : Option Peer) → IsEngine v
    → check_in v.conns c ≡ None → Closed c v.conns ks p → IsEngine (record v { conns = ks; latest = t })
closed_engine v c t ks p i free k = record {
  asked = record {
    on_conns = λ d. k.checks d
        ∙ none_both (c == d) (check_in v.conns d) (λ e. ap (check_in v.conns) (sym (number_is c d e)) ∙ free)
        ∙ i.asked.on_conns d;
    alone = i.asked.alone;
    given = i.asked.given;
    few = i.asked.few;
  };
  counted = i.counted;
  configured = i.configured;
  waiting = i.waiting;
  fed = i.fed;
  keyed = i.keyed;
  setup_is = i.setup_is;
}

lowered_is : (p : Option Peer) (a : Address) (n : ℕ)
    → lowered p a n ≡ (if is_of_client p (λ z. is_address a z.addr) then n - 1 else n)
lowered_is None a n = refl
lowered_is (Some p) a n = refl

if_some : (p : Option Peer) (n : ℕ) → is_none p ≡ false → (if is_some p then n - 1 else n) ≡ n - 1
if_some None n e = absurd (cc)
if_some (Some p) n e = refl

pub closed_same : (s : State) (v : EngineView) (c t : ℕ) (ks : OpenConns) (p : Option Peer)
    → IsSame (state_of v) (with_checks (without_conn c s.checks) s) → is_none (s.client c) ≡ false
    → Closed c v.conns ks p
    → IsSame (state_of (record v { conns = ks; latest = t })) (after_close c t s)
closed_same s v c t ks p is known k =
    let client : p ≡ s.client c = k.client ∙ is.clients_are c in
    record {
      clients_are = λ d. k.clients d ∙ ap (λ o. if c == d then None else o) (is.clients_are d);
      conns_are = k.len ∙ if_some p (length v.conns.links) (ap is_none client ∙ known) ∙ ap (λ n. n - 1) is.conns_are;
      from_are = λ a. k.counts a ∙ lowered_is p a (tally v.conns.counts a)
          ∙ ap (λ o. if is_of_client o (λ z. is_address a z.addr) then tally v.conns.counts a - 1
          else tally v.conns.counts a) client
          ∙ ap (λ n. if is_of_client (s.client c) (λ z. is_address a z.addr) then n - 1 else n) (is.from_are a);
      checks_are = is.checks_are;
      asks_are = is.asks_are;
      puts_are = is.puts_are;
      current_is = is.current_is;
      configs_are = is.configs_are;
      rows_are = is.rows_are;
      procs_are = is.procs_are;
      homes_are = is.homes_are;
      stops_are = is.stops_are;
      latest_is = refl;
      offset_is = is.offset_is;
    }
