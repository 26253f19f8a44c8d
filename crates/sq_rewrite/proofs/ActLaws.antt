-- The act that is due, and what it makes of the farm.
use Rattle.std.proofs.Common.{◌≡◌, ◌∙◌, ◌-◌, Bool, true, false, ℕ, suc, List, [], ◌∷◌, Option, None, Some, if◌then◌else◌, is_some, refl, ap}
use Rattle.std.specs.Option.{option_map}
use Rattle.sq_farm.specs.Acts.{act_by, act_of}
use Rattle.sq_machine.specs.Channels.{channel_name, least_free}
use Rattle.sq_machine.specs.Farms.{Sending, Stock, Waiting, after_act, after_send, send_by, send_of, start_due}
use Rattle.sq_machine.specs.Living.{Living, has_free, sent, some_free, target}
use Rattle.sq_rewrite.specs.States.{RewriteState, act_due, as_act, due_by}
use Rattle.sq_rewrite.specs.declared.acts.RewriteAct.{RewriteAct}
use Rattle.sq_rewrite.specs.declared.acts.RewriteAct.TheVariants as act

-- a send: the question at the front of the queue, to the process that gets it
pub record SendIs (v : Stock) (k q : ℕ) (channel : Option ℕ) (text : List ℕ) : Type 0 where
  pub rest : List Waiting
  pub queue_is : v.queue ≡ record { question = q; text = text } ∷ rest
  pub target_is : target v.procs ≡ Some (k, channel)

sending_inside : (x y : Sending) → Some x ≡ Some y → x ≡ y
sending_inside x y e = cc

send_is : (v : Stock) (k q : ℕ) (channel : Option ℕ) (text : List ℕ)
    → send_of v ≡ Some (record { proc = k; question = q; channel = channel; text = text }) → SendIs v k q channel text
send_is v k q channel text e = by_parts v.queue (target v.procs) refl refl e
  where
    by_parts : (queue : List Waiting) (t : Option (ℕ × Option ℕ)) → v.queue ≡ queue → target v.procs ≡ t
        → send_by queue t ≡ Some (record { proc = k; question = q; channel = channel; text = text })
        → SendIs v k q channel text
    by_parts [] t e f g = absurd cc
    by_parts (w ∷ queue) None e f g = absurd cc
    by_parts (w ∷ queue) (Some t) e f g =
        let s = sending_inside (record { proc = t.0; question = w.question; channel = t.1; text = w.text })
        (record { proc = k; question = q; channel = channel; text = text }) g in
        record {
          rest = queue;
          queue_is = e ∙ ap (λ (x : Sending). let y : Waiting = record { question = x.question; text = x.text } in
              y ∷ queue) s;
          target_is = f ∙ ap (λ (x : Sending). Some (x.proc, x.channel)) s;
        }

target_free : (rows : List Living) (t : ℕ × Option ℕ) → target rows ≡ Some t → some_free rows ≡ true
target_free [] t e = absurd cc
target_free (r ∷ rows) t e = by_test (has_free r) (channel_name r.process.numbered (least_free r.process.slots)) e
    (target_free rows t)
  where
    by_test : (b : Bool) (c : Option ℕ) → (if b then Some (r.number, c) else target rows) ≡ Some t
        → (target rows ≡ Some t → some_free rows ≡ true) → (if b then true else some_free rows) ≡ true
    by_test true c e more = refl
    by_test false c e more = more e

pub after_sent : (v : Stock) (k q : ℕ) (channel : Option ℕ) (text : List ℕ) (s : SendIs v k q channel text)
    → after_act v ≡ record v { queue = s.rest; procs = sent q v.procs }
after_sent v k q channel text s =
    let free = target_free v.procs (k, channel) s.target_is in
    rw (s.queue_is, s.target_is, free) refl

act_inside : (x y : RewriteAct) → Some x ≡ Some y → x ≡ y
act_inside x y e = cc

send_parts : (x : Sending) (k q : ℕ) (channel : Option ℕ) (text : List ℕ)
    → act.Send x.proc x.question x.channel x.text ≡ act.Send k q channel text
    → x ≡ record { proc = k; question = q; channel = channel; text = text }
send_parts x k q channel text g =
    let a : x.proc ≡ k = cc in let b : x.question ≡ q = cc in let c : x.channel ≡ channel = cc in
    let d : x.text ≡ text = cc in
    rw (← a, ← b, ← c, ← d) refl

send_of_act : (v : Stock) (k q : ℕ) (channel : Option ℕ) (text : List ℕ)
    → option_map as_act (act_of v) ≡ Some (act.Send k q channel text)
    → send_of v ≡ Some (record { proc = k; question = q; channel = channel; text = text })
send_of_act v k q channel text e = by_parts (send_of v) (start_due v) e
  where
    by_parts : (o : Option Sending) (b : Bool) → option_map as_act (act_by o b) ≡ Some (act.Send k q channel text)
        → o ≡ Some (record { proc = k; question = q; channel = channel; text = text })
    by_parts None true f = let g = act_inside act.Start (act.Send k q channel text) f in absurd cc
    by_parts None false f = absurd cc
    by_parts (Some x) b f = ap Some
        (send_parts x k q channel text
        (act_inside (act.Send x.proc x.question x.channel x.text) (act.Send k q channel text) f))

-- a farm is another one with a start more
abbrev pub HasStartMore : Stock → Stock → Type 0
HasStartMore u v = (u.queue ≡ v.queue) × (u.procs ≡ v.procs) × (u.losses ≡ v.losses)
    × (u.concurrency ≡ v.concurrency) × (u.starting ≡ suc v.starting)

pub start_kept : (v : Stock) → option_map as_act (act_of v) ≡ Some act.Start → HasStartMore (after_act v) v
start_kept v e = by_send (send_of v) (start_due v) e
  where
    by_send : (o : Option Sending) (b : Bool) → option_map as_act (act_by o b) ≡ Some act.Start
        → HasStartMore (if is_some o then after_send v
        else (if b then record v { owed = v.owed - 1; starting = suc v.starting } else v)) v
    by_send None true f = (refl, refl, refl, refl, refl)
    by_send None false f = absurd cc
    by_send (Some x) b f = let g = act_inside (act.Send x.proc x.question x.channel x.text) act.Start f in absurd cc

-- for an act of the farm: no stop is due
pub due_send : (s : RewriteState) (k q : ℕ) (channel : Option ℕ) (text : List ℕ)
    → act_due s ≡ Some (act.Send k q channel text) → SendIs s.stock k q channel text
due_send s k q channel text e = by_stops s.stops e
  where
    by_stops : (stops : List ℕ) → due_by stops (act_of s.stock) ≡ Some (act.Send k q channel text)
        → SendIs s.stock k q channel text
    by_stops [] f = send_is s.stock k q channel text (send_of_act s.stock k q channel text f)
    by_stops (p ∷ ps) f = absurd cc

pub due_start : (s : RewriteState) → act_due s ≡ Some act.Start → option_map as_act (act_of s.stock) ≡ Some act.Start
due_start s e = by_stops s.stops e
  where
    by_stops : (stops : List ℕ) → due_by stops (act_of s.stock) ≡ Some act.Start
        → option_map as_act (act_of s.stock) ≡ Some act.Start
    by_stops [] f = f
    by_stops (p ∷ ps) f = absurd cc
