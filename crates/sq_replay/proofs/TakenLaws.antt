-- Outcomes that are taken and connections that close: what they make of the machine that a script runs.
use Rattle.std.proofs.Common.{◌≡◌, ℕ, ◌≤◌, List, true, ◌==◌, if◌then◌else◌, Option, Some, None, refl, sym, ap, subst, ◌∙◌}
use Rattle.std.specs.Option.{unwrap_or}
use Rattle.sq_machine.specs.declared.entries.Event.TheVariants.{Close, Take}
use Rattle.sq_machine.specs.declared.entries.Told.{Told}
use Rattle.sq_machine.specs.declared.entries.Told.TheVariants as told
use Rattle.sq_rules.specs.declared.outcomes.Outcome.{Outcome}
use Rattle.sq_machine.specs.Checks.{Asked, ask_of}
use Rattle.sq_rules.specs.Configurations.{Configuration}
use Rattle.sq_machine.specs.Entries.{History}
use Rattle.sq_machine.specs.Next.{gives}
use Rattle.sq_machine.specs.Marking.{marked}
use Rattle.sq_machine.specs.Marks.{entries}
use Rattle.sq_machine.specs.Readings.{latest}
use Rattle.sq_machine.specs.AnswerReadings.{answers}
use Rattle.sq_machine.specs.SeatPlaces.{seat_place}
use Rattle.sq_machine.proofs.CheckLaws.{open_asked}
use Rattle.sq_model.specs.CheckRows.{Held, held_at, unasked}
use Rattle.sq_model.proofs.LegalLaws.{marked_entries}
use Rattle.sq_model.specs.Answers.{close_answer, take_answer}
use Rattle.sq_model.specs.Changes.{after_close, after_take}
use Rattle.sq_model.specs.Promises.{StandsFor}
use Rattle.sq_model.specs.States.{IsSame, State}
use Rattle.sq_model.proofs.PromiseLaws.{answered_same, close_answered, take_answered}
use Rattle.sq_model.proofs.StepStands.{found_held}
use Rattle.sq_replay.specs.Riding.{AreBasins}
use Rattle.sq_replay.specs.Runs.{Is, IsMade, IsRider, ScriptView, Rider}
use Rattle.sq_replay.proofs.MakingLaws.{elsewhere_made, riders_closed, riders_taken}
use Rattle.sq_replay.proofs.ToldLaws.{config_there}

-- the check that the engine holds is that of the history
pub held_ask : (configs : List Configuration) (h : History) (s : State) (n : ℕ) (k : Held) → StandsFor configs h s
    → held_at n s.checks ≡ Some k → ask_of h n ≡ Some k.asked
held_ask configs h s n k st found =
    let f = found_held configs (marked configs h) s n k st.stands found in
    let a = open_asked (entries (marked configs h)) n f.opened in
    let own : k.asked ≡ a.asked = ap (λ (z : Held). z.asked) f.is
    ∙ ap (λ (o : Option Asked). unwrap_or o unasked) a.is in
    ap (λ (g : History). ask_of g n) (sym (marked_entries configs h)) ∙ a.is ∙ ap (λ (z : Asked). Some z) (sym own)

-- the answers that it has are those of the history
pub held_answers : (configs : List Configuration) (h : History) (s : State) (n : ℕ) (k : Held) → StandsFor configs h s
    → held_at n s.checks ≡ Some k → answers configs (marked configs h) n ≡ k.answers
held_answers configs h s n k st found =
    let f = found_held configs (marked configs h) s n k st.stands found in
    sym (ap (λ (z : Held). z.answers) f.is)

-- a record of a check, as a seat needs it
pub record IsRecord (s : State) (k : Held) (r : Rider) : Type 0 where
  pub epoch_is : r.epoch ≡ k.asked.epoch
  pub config_is : s.config k.asked.epoch ≡ Some r.config
  pub place_is : r.place ≡ seat_place r.config k.asked.sight k.answers
  pub addr_is : r.addr ≡ k.asked.sight.addr

-- so it is the record of the history
pub record_rides : (configs : List Configuration) (h : History) (s : State) (n : ℕ) (k : Held) (r : Rider)
    → StandsFor configs h s → held_at n s.checks ≡ Some k → IsRecord s k r
    → IsRider configs k.asked (answers configs (marked configs h) n) r
record_rides configs h s n k r st found x = record {
  epoch_is = x.epoch_is;
  config_is = config_there configs (marked configs h) s k.asked.epoch r.config st.stands x.config_is;
  place_is = x.place_is ∙ ap (seat_place r.config k.asked.sight) (sym (held_answers configs h s n k st found));
  addr_is = x.addr_is;
}

-- the engine handed out a record, which is the last of its connection from here on, where it allows
pub taken_made : (v : ScriptView) (configs : List Configuration) (h : History) (moment n epoch : ℕ) (o : Outcome)
    (k : Held) (r : Rider) (t : State) → Is v configs h → AreBasins v.pools → v.latest ≤ moment
    → held_at n v.state.checks ≡ Some k → take_answer v.state n ≡ gives (told.Judged epoch o)
    → IsSame t (after_take n moment v.state) → (o.allow ≡ true → IsRecord v.state k r)
    → IsMade (record {
      state = t;
      pools = v.pools;
      latest = moment;
      riders = λ c. if c == k.asked.conn then (if o.allow then Some r else None) else v.riders c;
    }) configs h moment
    (Take n) (told.Judged epoch o)
taken_made v configs h moment n epoch o k r t is basin late found takes same own =
    let after : latest h ≤ moment = subst (λ (m : ℕ). m ≤ moment) is.latest_is late in
    elsewhere_made v configs h moment (Take n) (told.Judged epoch o) t
    (λ c. if c == k.asked.conn then (if o.allow then Some r else None) else v.riders c) is basin late
    (answered_same configs h (after_take n moment v.state) t moment (Take n) (told.Judged epoch o) same
    (take_answered configs h v.state moment n (told.Judged epoch o) is.engine after takes)) refl
    (riders_taken v configs h moment n epoch o k.asked r is (held_ask configs h v.state n k is.engine found)
    (λ allows. record_rides configs h v.state n k r is.engine found (own allows)))

-- it closed a connection, whose record is forgotten
pub closed_made : (v : ScriptView) (configs : List Configuration) (h : History) (moment d : ℕ) (answer : Told)
    (t : State) → Is v configs h → AreBasins v.pools → v.latest ≤ moment
    → close_answer v.state d ≡ gives answer → IsSame t (after_close d moment v.state)
    → IsMade (record { state = t; pools = v.pools; latest = moment; riders = λ c. if d == c then None else v.riders c })
    configs h moment (Close d) answer
closed_made v configs h moment d answer t is basin late closes same =
    let after : latest h ≤ moment = subst (λ (m : ℕ). m ≤ moment) is.latest_is late in
    elsewhere_made v configs h moment (Close d) answer t (λ c. if d == c then None else v.riders c) is basin late
    (answered_same configs h (after_close d moment v.state) t moment (Close d) answer same
    (close_answered configs h v.state moment d answer is.engine after closes)) refl
    (riders_closed v configs h moment d answer is)
