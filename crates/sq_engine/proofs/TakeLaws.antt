-- A check whose outcome is taken, and the removal of a check.
use Rattle.std.proofs.Common.{◌≡◌, ◌∙◌, ◌++◌, ◌<◌, ℕ, true, Option, None, Some, IfSome, is_some, refl, ap, sym, subst}
use Rattle.std.proofs.lemmas.List.{append-nil}
use Rattle.std.proofs.lemmas.Option.{none-some}
use Rattle.std.specs.Option.{option_and_then, option_map, option_to_list}
use Rattle.sq_rules.proofs.SightLaws.{over_unversioned}
use Rattle.sq_machine.specs.declared.entries.Told.TheVariants as told
use Rattle.sq_rules.specs.declared.outcomes.Outcome.{Outcome}
use Rattle.sq_machine.specs.declared.refusals.Refusal.TheVariants as refusal
use Rattle.sq_rules.specs.declared.values.Value.TheVariants as value
use Rattle.sq_machine.specs.Next.{gives, refuses}
use Rattle.sq_rules.specs.Sights.{unversioned_sight}
use Rattle.sq_rules.specs.Verdicts.{outcome_so_far, verdict_over}
use Rattle.sq_checks.specs.Conns.{OpenConns, check_in, client_in}
use Rattle.sq_checks.specs.OpenChecks.{CheckParts, comes_to, row, rows_of}
use Rattle.sq_checks.specs.Records.{Judged, judged_of}
use Rattle.sq_checks.specs.Stages.{came_in, decided_in, is_done_in, need_in}
use Rattle.sq_checks.specs.Tables.{value_at}
use Rattle.sq_checks.specs.declared.conns.Link.{Link}
use Rattle.sq_checks.specs.declared.stages.Need.{Need}
use Rattle.sq_checks.specs.declared.stages.CheckStage.{CheckStage}
use Rattle.sq_checks.specs.declared.stages.CheckStage.TheVariants as stage
use Rattle.sq_epochs.specs.EpochChanges.{HasLeft}
use Rattle.sq_epochs.specs.EpochStates.{EpochsState, IsChanged}
use Rattle.sq_epochs.specs.LiveEpochs.{checks_at}
use Rattle.sq_model.specs.Answers.{take_answer, take_of_held}
use Rattle.sq_model.specs.Changes.{after_take}
use Rattle.sq_model.specs.Says.{outcome_in}
use Rattle.sq_model.specs.States.{IsSame, State}
use Rattle.sq_engine.specs.Engines.{IsEngine, held_number}
use Rattle.sq_engine.specs.EngineViews.{EngineView, state_of}
use Rattle.sq_engine.specs.Stepping.{epoch_of}
use Rattle.sq_engine.proofs.CountLaws.{counts_some}
use Rattle.sq_engine.proofs.LeavingLaws.{LeftBy, left_none, left_part}
use Rattle.sq_engine.proofs.NowLaws.{epoch_found, held_is, value_is}
use Rattle.sq_engine.proofs.OverLaws.{IsOver, held_alone}
use Rattle.sq_engine.proofs.TableLaws.{row_at_number}

pub take_unknown : (v : EngineView) (n : ℕ) → value_at v.checks n ≡ None
    → take_answer (state_of v) n ≡ refuses (refusal.UnknownCheck n)
take_unknown v n is = ap (take_of_held (state_of v) n) (row_at_number n v.checks ∙ ap (option_map (row n)) is)

take_found : (v : EngineView) (n : ℕ) (k : CheckParts) → value_at v.checks n ≡ Some k
    → take_answer (state_of v) n ≡ take_of_held (state_of v) n (Some (row n k))
take_found v n k is = ap (take_of_held (state_of v) n) (held_is v n k is)

done_by : (s : CheckStage) → is_done_in s ≡ is_some (decided_in s)
done_by stage.Ready = refl
done_by (stage.Came a) = refl
done_by (stage.Waits x) = refl
done_by (stage.Done o) = refl

pub take_early : (v : EngineView) (n : ℕ) (k : CheckParts) → value_at v.checks n ≡ Some k → decided_in k.stage ≡ None
    → take_answer (state_of v) n ≡ refuses (refusal.NotDone n)
take_early v n k is none = take_found v n k is ∙ rw (done_by k.stage ∙ ap is_some none) refl

came_none : (s : CheckStage) → is_some (decided_in s) ≡ true → came_in s ≡ None
came_none stage.Ready e = absurd (cc)
came_none (stage.Came a) e = absurd (cc)
came_none (stage.Waits x) e = absurd (cc)
came_none (stage.Done o) e = refl

comes_by : (k : CheckParts) → is_some (decided_in k.stage) ≡ true → comes_to k ≡ verdict_over k.answers k.config k.sight
comes_by k e =
    ap (λ o. verdict_over (k.answers ++ option_to_list o) k.config (unversioned_sight k.sight)) (came_none k.stage e)
    ∙ ap (λ l. verdict_over l k.config (unversioned_sight k.sight)) (append-nil k.answers)
    ∙ over_unversioned k.answers k.config k.sight

pub take_told : (v : EngineView) (n : ℕ) (k : CheckParts) (r : Judged) → IsEngine v → value_at v.checks n ≡ Some k
    → is_some (decided_in k.stage) ≡ true → r ≡ judged_of n r.outcome k
    → verdict_over r.answers r.config r.sight ≡ value.Verdict r.outcome
    → take_answer (state_of v) n ≡ gives (told.Judged r.epoch r.outcome)
take_told v n k r i is done of verdict =
    let comes : comes_to k ≡ value.Verdict r.outcome = comes_by k done
    ∙ sym (ap (λ z. verdict_over z.answers z.config z.sight) of) ∙ verdict in
    let out : outcome_in (state_of v) (row n k) ≡ r.outcome = ap outcome_so_far (value_is v n k i is ∙ comes) in
    take_found v n k is ∙ rw (done_by k.stage ∙ done)
    (ap (λ z. gives (told.Judged k.epoch z)) out
    ∙ ap (λ z. gives (told.Judged z r.outcome)) (ap (λ z. z.epoch) (sym of)))

-- the outcome that a check has is the one that is taken
pub outcome_told : (v : EngineView) (n : ℕ) (k : CheckParts) (o : Outcome) → IsEngine v → value_at v.checks n ≡ Some k
    → decided_in k.stage ≡ Some o
    → IfSome (decided_in k.stage) (λ x. verdict_over k.answers k.config k.sight ≡ value.Verdict x)
    → take_answer (state_of v) n ≡ gives (told.Judged (epoch_of (state_of v) n) o)
outcome_told v n k o i is done verdict =
    take_told v n k (judged_of n o k) i is (ap is_some done) refl (found_so verdict)
    ∙ ap (λ e. gives (told.Judged e o)) (sym (epoch_found v n k is))
  where
    found_so : IfSome (decided_in k.stage) (λ x. verdict_over k.answers k.config k.sight ≡ value.Verdict x)
        → verdict_over k.answers k.config k.sight ≡ value.Verdict o
    found_so h = subst (λ (z : Option Outcome). IfSome z
        (λ x. verdict_over k.answers k.config k.sight ≡ value.Verdict x)) done h

-- the client of a connection with a check is there
client_of : (o : Option Link) (n : ℕ) → option_and_then (λ l. l.check) o ≡ Some n
    → is_some (option_map (λ l. l.peer) o) ≡ true
client_of None n e = absurd (none-some n e)
client_of (Some l) n e = refl

pub client_there : (v : OpenConns) (c n : ℕ) → check_in v c ≡ Some n → is_some (client_in v c) ≡ true
client_there v c n e = client_of (value_at v.links c) n e

-- the check that is marked at its connection
pub marked_there : (v : EngineView) (n : ℕ) (k : CheckParts) → IsEngine v → value_at v.checks n ≡ Some k
    → check_in v.conns k.conn ≡ Some n
marked_there v n k i is = i.asked.on_conns k.conn
    ∙ ap (option_map held_number) (held_alone n (row n k) (rows_of v.checks) i.asked.alone (held_is v n k is))

-- a check that was taken from the list in which it waits, if it waits
pub left_by : (v : EngineView) (n : ℕ) (k : CheckParts) (new : EpochsState) → IsEngine v → value_at v.checks n ≡ Some k
    → ((x : Need) → need_in k.stage ≡ Some x → IsChanged k.epoch x.class (HasLeft n) v.epochs new)
    → (need_in k.stage ≡ None → new ≡ v.epochs) → LeftBy n v.epochs new
left_by v n k new i found waits none = by (need_in k.stage) refl
  where
    by : (o : Option Need) → need_in k.stage ≡ o → LeftBy n v.epochs new
    by None e = subst (LeftBy n v.epochs) (sym (none e)) (left_none v n k i found e)
    by (Some x) e = left_part v n k x new i found e (waits x e)

-- its epoch counts it still
pub over_counts : (v : EngineView) (n : ℕ) (k : CheckParts) (left : EpochsState) → IsEngine v → IsOver v n k left
    → 0 < checks_at left k.epoch
over_counts v n k left i o = counts_some left k.epoch n (row n k) (rows_of v.checks) o.rise (held_is v n k o.found) refl
    (o.leaves.counted (rows_of v.checks) i.counted)

-- at another moment
pub same_later : (s r : State) (t : ℕ) → IsSame s r → IsSame (record s { latest = t }) (record r { latest = t })
same_later s r t is = record {
  clients_are = is.clients_are;
  conns_are = is.conns_are;
  from_are = is.from_are;
  checks_are = is.checks_are;
  asks_are = is.asks_are;
  puts_are = is.puts_are;
  current_is = is.current_is;
  configs_are = is.configs_are;
  rows_are = is.rows_are;
  procs_are = is.procs_are;
  homes_are = is.homes_are;
  stops_are = is.stops_are;
  latest_is = refl;
  offset_is = is.offset_is;
}

-- an engine is one at another moment
pub later_engine : (v : EngineView) (t : ℕ) → IsEngine v → IsEngine (record v { latest = t })
later_engine v t i = record {
  asked = i.asked;
  counted = i.counted;
  configured = i.configured;
  waiting = i.waiting;
  fed = i.fed;
  keyed = i.keyed;
  setup_is = i.setup_is;
}

-- what is left of a check with an outcome is judged so
pub judged_is : (n : ℕ) (r : Judged) (k : CheckParts) → IfSome (decided_in k.stage) (λ o. r ≡ judged_of n o k)
    → is_some (decided_in k.stage) ≡ true → r ≡ judged_of n r.outcome k
judged_is n r k = by (decided_in k.stage)
  where
    by : (o : Option Outcome) → IfSome o (λ x. r ≡ judged_of n x k) → is_some o ≡ true → r ≡ judged_of n r.outcome k
    by None h e = absurd (cc)
    by (Some x) h e = h ∙ ap (λ z. judged_of n z k) (sym (ap (λ (z : Judged). z.outcome) h))

-- a check taken out at another moment
pub taken_at : (w : EngineView) (n l t : ℕ) (s : State) → IsSame (state_of w) (after_take n l s)
    → IsSame (state_of (record w { latest = t })) (after_take n t s)
taken_at w n l t s same = record {
  clients_are = same.clients_are;
  conns_are = same.conns_are;
  from_are = same.from_are;
  checks_are = same.checks_are;
  asks_are = same.asks_are;
  puts_are = same.puts_are;
  current_is = same.current_is;
  configs_are = same.configs_are;
  rows_are = same.rows_are;
  procs_are = same.procs_are;
  homes_are = same.homes_are;
  stops_are = same.stops_are;
  latest_is = refl;
  offset_is = same.offset_is;
}
