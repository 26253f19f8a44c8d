-- A connection that opens: what is answered, and what is left.
use Rattle.std.proofs.Common.{◌≡◌, ◌∙◌, ◌==◌, ℕ, suc, true, false, if◌then◌else◌, nat_le, length, Some, is_some, refl}
use Rattle.sq_base.specs.Addresses.{Address}
use Rattle.sq_machine.specs.declared.entries.Told.TheVariants as told
use Rattle.sq_machine.specs.declared.refusals.Refusal.TheVariants as refusal
use Rattle.sq_rules.specs.declared.sights.Peer.{Peer}
use Rattle.sq_machine.specs.Connections.{is_address}
use Rattle.sq_machine.specs.Limits.{conn_limit}
use Rattle.sq_machine.specs.Next.{gives, refuses}
use Rattle.sq_checks.specs.Conns.{OpenConns, check_in, client_in}
use Rattle.sq_checks.specs.Counts.{tally}
use Rattle.sq_model.specs.Answers.{open_answer}
use Rattle.sq_model.specs.Changes.{after_open}
use Rattle.sq_model.specs.States.{IsSame, State}
use Rattle.sq_engine.specs.Engines.{IsEngine}
use Rattle.sq_engine.specs.EngineViews.{EngineView, state_of}

pub open_in_use : (s : State) (c : ℕ) → is_some (s.client c) ≡ true → open_answer s c ≡ refuses (refusal.ConnInUse c)
open_in_use s c e = rw e refl

pub open_full : (s : State) (c : ℕ) → is_some (s.client c) ≡ false → nat_le conn_limit s.conns ≡ true
    → open_answer s c ≡ refuses (refusal.TooManyConns conn_limit)
open_full s c e f = rw (e, f) refl

pub open_fine : (s : State) (c : ℕ) → is_some (s.client c) ≡ false → nat_le conn_limit s.conns ≡ false
    → open_answer s c ≡ gives told.Fine
open_fine s c e f = rw (e, f) refl

-- the connections after one of this client opened
pub record Opened (c : ℕ) (p : Peer) (old new : OpenConns) : Type 0 where
  pub clients : (d : ℕ) → client_in new d ≡ (if c == d then Some p else client_in old d)
  pub checks : (d : ℕ) → check_in new d ≡ check_in old d
  pub len : length new.links ≡ suc (length old.links)
  pub counts : (a : Address)
      → tally new.counts a ≡ (if is_address a p.addr then suc (tally old.counts a) else tally old.counts a)

pub opened_engine : (v : EngineView) (k : OpenConns) (t c : ℕ) (p : Peer) → Opened c p v.conns k → IsEngine v
    → IsEngine (record v { conns = k; latest = t })
opened_engine v k t c p o i = record {
  asked = record {
    on_conns = λ d. o.checks d ∙ i.asked.on_conns d;
    alone = i.asked.alone;
    given = i.asked.given;
    few = i.asked.few;
  };
  counted = i.counted;
  configured = i.configured;
  waiting = i.waiting;
  fed = i.fed;
  keyed = i.keyed;
  setup_is = i.setup_is;
}

pub opened_same : (v : EngineView) (k : OpenConns) (t c : ℕ) (p : Peer) → Opened c p v.conns k
    → IsSame (state_of (record v { conns = k; latest = t })) (after_open c p t (state_of v))
opened_same v k t c p o = record {
  clients_are = o.clients;
  conns_are = o.len;
  from_are = o.counts;
  checks_are = refl;
  asks_are = refl;
  puts_are = refl;
  current_is = refl;
  configs_are = λ e. refl;
  rows_are = λ e d. refl;
  procs_are = refl;
  homes_are = λ j. refl;
  stops_are = λ j. refl;
  latest_is = refl;
  offset_is = refl;
}

-- a state is itself
pub same_self : (s : State) → IsSame s s
same_self s = record {
  clients_are = λ c. refl;
  conns_are = refl;
  from_are = λ a. refl;
  checks_are = refl;
  asks_are = refl;
  puts_are = refl;
  current_is = refl;
  configs_are = λ e. refl;
  rows_are = λ e c. refl;
  procs_are = refl;
  homes_are = λ k. refl;
  stops_are = λ k. refl;
  latest_is = refl;
  offset_is = refl;
}
