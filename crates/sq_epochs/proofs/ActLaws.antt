-- Laws of making the act that is due.
use Rattle.std.proofs.Common.{◌≡◌, ℕ, true, refl, ap, ◌∙◌, Some, None, is_some, IfOk, Ok, Err}
use Rattle.std.specs.Option.{option_and_then, option_map}
use Rattle.std.specs.declared.option.Option.{Option}
use Rattle.std.specs.declared.result.Result.{Result}
use Rattle.std.specs.List.{slice_get}
use Rattle.sq_channel.proofs.RisingLaws.{if_true}
use Rattle.sq_machine.specs.Farms.{Sending, send_of}
use Rattle.sq_class.specs.Parts.{PartState}
use Rattle.sq_machine.specs.DueActs.{sends, starts, stops}
use Rattle.sq_epochs.specs.DueStates.{act_in, after_due, first_place, owes_send, owes_start, send_by, start_by}
use Rattle.sq_epochs.specs.EpochStates.{EpochState, EpochsState}
use Rattle.sq_epochs.proofs.DueLaws.{first_is, record_stops}

-- a send that is due is made
pub nothing_sent : (r o : Option Sending) → r ≡ o → r ≡ None → is_some o ≡ true → ⊥
nothing_sent r None e n is = cc
nothing_sent r (Some s) e n is = cc

-- what the first class is to do
pub send_told : (x : EpochState) (c : ℕ) (p : PartState) (s : Sending) → first_place owes_send x.parts ≡ Some c
    → slice_get x.parts c ≡ Some p → send_of p.row.stock ≡ Some s
    → act_in send_by owes_send x ≡ Some (sends (record { epoch = x.epoch; class = c }) s)
send_told x c p s first at sending =
    ap (option_and_then (λ d. option_and_then (send_by (record { epoch = x.epoch; class = d })) (slice_get x.parts d)))
    first
    ∙ ap (option_and_then (send_by (record { epoch = x.epoch; class = c }))) at
    ∙ ap (option_map (sends (record { epoch = x.epoch; class = c }))) sending

pub start_told : (x : EpochState) (c : ℕ) → first_place owes_start x.parts ≡ Some c
    → act_in start_by owes_start x ≡ Some (starts (record { epoch = x.epoch; class = c }))
start_told x c first =
    let f = first_is owes_start x.parts c first in
    ap (option_and_then (λ d. option_and_then (start_by (record { epoch = x.epoch; class = d })) (slice_get x.parts d)))
    first
    ∙ ap (option_and_then (start_by (record { epoch = x.epoch; class = c }))) f.at
    ∙ if_true (owes_start f.it) (Some (starts (record { epoch = x.epoch; class = c }))) None f.hit

-- a stop was made
pub after_stop : (v : EpochsState) (o : Option ℕ)
    → after_due (option_map stops o) v ≡ record v { stops = record_stops o v.stops }
after_stop v None = refl
after_stop v (Some k) = refl

-- a result that is told in other words
pub ok_same : {A E : Type 0} (r : Result A E) (a b : A) → a ≡ b → IfOk r (λ z. z ≡ a) → IfOk r (λ z. z ≡ b)
ok_same (Ok z) a b e ok = ok ∙ e
ok_same (Err x) a b e ok = tt
