use Rattle.std.proofs.Common.{◌≡◌, ◌+◌, ◌<◌, ◌∷◌, true, is_some, drop, length, arith, ap, sym, subst, ◌∙◌, map, if◌then◌else◌, ℕ}
use Rattle.std.proofs.lemmas.Grind.{common_steps}
use Rattle.std.proofs.lemmas.List.{drop_more}
use Rattle.sq_machine.specs.Rising.{Rises, times_of}
use Rattle.sq_epochs.specs.HomeStates.{home_in, home_number, is_of_epoch, procs_of, with_number, with_numbers}
use Rattle.sq_epochs.proofs.HomeLaws.{apart_step, home_first, length_if, procs_step}
use Rattle.sq_epochs.proofs.homes.put_all.Goals as goal

pub loop-home-preserved : goal.loop-home-preserved
loop-home-preserved c =
    let hs = c.args.homes.now in
    let h = c.home-item.result in
    let i = c.loop-home.home-index in
    let e = c.args.epoch in
    let rest = drop (i + 1) hs in
    let within : i < length hs = grind (arith, common_steps) in
    let all : drop i hs ≡ h ∷ rest = drop_more hs i h within ∙ ap (λ z. z ∷ rest) (sym c.home-item.is) in
    let ns = c.loop-home.stops.numbers in
    let put : c.put_if.new.stops.numbers ≡ (if is_of_epoch e h then with_number h.proc ns else ns) =
    c.put_if.ensures.numbers ∙ ap (λ b. if b then with_number c.home.inside.proc ns else ns) c.is_of_epoch-due.ensures
    ∙ ap (λ z. if is_of_epoch e h then with_number z ns else ns) (ap home_number c.home.view_is) in
    let rise : Rises (map home_number (h ∷ rest)) =
    subst (λ z. Rises (map home_number z)) all c.loop-home.invariant.rise in
    let apart : (k : ℕ) → is_some (home_in k (h ∷ rest)) ≡ true
    → times_of k ns ≡ 0 = rw all at c.loop-home.invariant.apart in
    record {
      numbers = ap (with_numbers (procs_of e rest)) put ∙ sym (procs_step e h rest ns)
          ∙ ap (λ z. with_numbers (procs_of e z) ns) (sym all) ∙ c.loop-home.invariant.numbers;
      room = let l = ap length all in let m = length_if (is_of_epoch e h) h.proc ns in let q = ap length put in
          let r = c.loop-home.invariant.room in let p = c.put_if.ensures.room in omega arith;
      more = let r = c.loop-home.invariant.more in let p = c.put_if.ensures.room in omega arith;
      rise = rise.1;
      apart = λ k is. ap (times_of k) put ∙ apart_step h rest ns (is_of_epoch e h) rise apart k is;
    }

pub put_if-requires-clause-room : goal.put_if-requires-clause-room
put_if-requires-clause-room c =
    let hs = c.args.homes.now in
    let h = c.home-item.result in
    let i = c.loop-home.home-index in
    let within : i < length hs = grind (arith, common_steps) in
    let l = ap length (drop_more hs i h within) in
    let r = c.loop-home.invariant.room in
    omega arith

pub put_if-requires-clause-other : goal.put_if-requires-clause-other
put_if-requires-clause-other c =
    let hs = c.args.homes.now in
    let h = c.home-item.result in
    let i = c.loop-home.home-index in
    let rest = drop (i + 1) hs in
    let within : i < length hs = grind (arith, common_steps) in
    let all : drop i hs ≡ h ∷ rest = drop_more hs i h within ∙ ap (λ z. z ∷ rest) (sym c.home-item.is) in
    let ns = c.loop-home.stops.numbers in
    let apart : (k : ℕ) → is_some (home_in k (h ∷ rest)) ≡ true
    → times_of k ns ≡ 0 = rw all at c.loop-home.invariant.apart in
    ap (λ z. times_of z ns) (ap home_number c.home.view_is) ∙ apart h.proc (home_first h rest)
