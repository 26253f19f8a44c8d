-- A reply to a question: the checks that wait for it are given what it says, and what is left.
use Rattle.std.proofs.Common.{◌≡◌, ◌∙◌, ◌==◌, ◌<◌, ℕ, List, [], ◌∷◌, Bool, true, false, if◌then◌else◌, map, Option, None, Some, refl, ap, sym, arith}
use Rattle.std.proofs.lemmas.Option.{none-some, same_Some}
use Rattle.sq_base.specs.declared.helpers.Answer.{Answer}
use Rattle.sq_base.specs.declared.helpers.What.{What}
use Rattle.sq_rules.specs.Classes.{Class}
use Rattle.sq_machine.specs.Events.{is_number}
use Rattle.sq_machine.specs.OpenLookups.{LookupRow, is_open_lookup, key_of, question_of}
use Rattle.sq_machine.specs.Rising.{AreAbove, Rises}
use Rattle.sq_model.specs.CheckRows.{after_ends, one_end}
use Rattle.sq_model.specs.ClassRows.{ClassRow, after_reply}
use Rattle.sq_class.specs.Parts.{PartState}
use Rattle.sq_checks.proofs.RowLaws.{rows_ended}
use Rattle.sq_checks.specs.OpenChecks.{AllFit, CheckParts, IsFit, all_ended, ended_by, rows_of}
use Rattle.sq_checks.specs.Stages.{ended_stage, need_in}
use Rattle.sq_checks.specs.Tables.{value_at}
use Rattle.sq_checks.specs.declared.stages.CheckStage.{CheckStage}
use Rattle.sq_checks.specs.declared.stages.CheckStage.TheVariants as stage
use Rattle.sq_epochs.specs.EpochChanges.{HasReplied}
use Rattle.sq_epochs.specs.EpochStates.{EpochsState, IsChanged, home_at, part_at}
use Rattle.sq_model.specs.Changes.{after_reply_at}
use Rattle.sq_model.specs.States.{IsSame}
use Rattle.sq_engine.specs.Engines.{IsEngine, held_number}
use Rattle.sq_engine.specs.EngineViews.{EngineView, state_of, stop_at}
use Rattle.sq_engine.proofs.EndedLaws.{HasEnds, IsEnding, ended_configs, ended_engine, ended_rows, left_need, left_waits}
use Rattle.sq_engine.proofs.HandingLaws.{changed_beside}
use Rattle.sq_engine.proofs.LosingLaws.{changed_as}
use Rattle.sq_engine.proofs.LostLaws.{waits_there}
use Rattle.sq_engine.proofs.TableLaws.{ended_at, number_is, number_self, number_sym, same_key}

-- a check that waits for the question that was replied to is given its answer
fit_at : (v : EngineView) (e c q t : ℕ) (key : List ℕ) (w : What) (p : PartState) (n : ℕ) (k : CheckParts) → IsEngine v
    → part_at v.epochs e c ≡ Some p → is_open_lookup q p.row.lookups ≡ true
    → key_of q p.row.lookups ≡ Some key → value_at v.checks n ≡ Some k → (s : CheckStage) → k.stage ≡ s
    → IsFit q (record { class = c; key = key; what = w; question = Some q; date = t; taken = t }) w t s
fit_at v e c q t key w p n k i part here found is stage.Ready same = tt
fit_at v e c q t key w p n k i part here found is (stage.Came a) same = tt
fit_at v e c q t key w p n k i part here found is (stage.Waits x) same = λ test.
    let xq : x.question ≡ q = number_is x.question q test in
    let u = waits_there v e c p n k x i part is (ap need_in same)
    (ap (λ z. is_open_lookup z p.row.lookups) xq ∙ here) in
    let keys : key ≡ x.key = same_Some _ _ (sym found ∙ ap (λ z. key_of z p.row.lookups) (sym xq) ∙ u.key_is) in
    ap (λ (z : ℕ). record { class = z; key = key; what = w; question = Some q; date = t; taken = t }) u.class_is
    ∙ ap (λ (z : List ℕ). record { class = x.class; key = z; what = w; question = Some q; date = t; taken = t }) keys
    ∙ ap (λ (z : ℕ). record { class = x.class; key = x.key; what = w; question = Some z; date = t; taken = t }) (sym xq)
fit_at v e c q t key w p n k i part here found is (stage.Done o) same = tt

below_apart : (a b : ℕ) → a < b → (a == b) ≡ false
below_apart a b h = grind (arith, h)

-- each of a list
abbrev pub Each : (ℕ × CheckParts → Type 0) → List (ℕ × CheckParts) → Type 0
Each P [] = Unit {0}
Each P (e ∷ es) = P e × Each P es

-- each check of a list whose numbers rise stands at its number
none_at : (n : ℕ) (es : List (ℕ × CheckParts)) → AreAbove n (map held_number (rows_of es)) → value_at es n ≡ None
none_at n [] h = refl
none_at n (e ∷ es) h = let other : (n == e.0) ≡ false = below_apart n e.0 h.0 in
    rw (same_key n e.0, other) (none_at n es h.1)

pub each_at : (P : ℕ × CheckParts → Type 0) (es : List (ℕ × CheckParts)) → Rises (map held_number (rows_of es))
    → ((e : ℕ × CheckParts) → value_at es e.0 ≡ Some e.1 → P e) → Each P es
each_at P [] r h = tt
each_at P (e ∷ es) r h = (
  h e (rw (same_key e.0 e.0, number_self e.0) refl),
  each_at P es r.1 (λ x is. h x (later x is)),
)
  where
    later : (x : ℕ × CheckParts) → value_at es x.0 ≡ Some x.1 → value_at (e ∷ es) x.0 ≡ Some x.1
    later x is = by (x.0 == e.0) refl
      where
        by : (b : Bool) → (x.0 == e.0) ≡ b → value_at (e ∷ es) x.0 ≡ Some x.1
        by true y = absurd (none-some x.1
            (sym (none_at e.0 es r.0) ∙ ap (value_at es) (sym (number_is x.0 e.0 y)) ∙ is))
        by false y = rw (same_key x.0 e.0, y) is

fit_each : (q t : ℕ) (a : Answer) (w : What) (es : List (ℕ × CheckParts)) → Each (λ e. IsFit q a w t e.1.stage) es
    → AllFit q a w t es
fit_each q t a w [] h = tt
fit_each q t a w (e ∷ es) h = (h.0, fit_each q t a w es h.1)

-- the question that was replied to, and no other
abbrev pub gone_one : ℕ → ℕ → Bool
gone_one q r = q == r

waits_one : (q : ℕ) (o : Option ℕ) → (if is_number q o then None else o) ≡ left_waits (gone_one q) o
waits_one q None = refl
waits_one q (Some m) = refl

need_one : (q t : ℕ) (w : What) (s : CheckStage) → need_in (ended_stage q w t s) ≡ left_need (gone_one q) (need_in s)
need_one q t w stage.Ready = refl
need_one q t w (stage.Came a) = refl
need_one q t w (stage.Waits x) = by (q == x.question) refl
  where
    by : (b : Bool) → (q == x.question) ≡ b
        → need_in (ended_stage q w t (stage.Waits x)) ≡ left_need (gone_one q) (Some x)
    by true y = let z : (x.question == q) ≡ true = number_sym x.question q ∙ y in rw (y, z) refl
    by false y = let z : (x.question == q) ≡ false = number_sym x.question q ∙ y in rw (y, z) refl
need_one q t w (stage.Done o) = refl

ending_one : (q t : ℕ) (w : What) → IsEnding (gone_one q) (ended_by q w t)
ending_one q t w = record { epoch_is = λ k. refl; config_is = λ k. refl; need_is = λ k. need_one q t w k.stage }

pub key_open : (q : ℕ) (key : List ℕ) (rows : List LookupRow) → key_of q rows ≡ Some key → is_open_lookup q rows ≡ true
key_open q key [] h = absurd (cc)
key_open q key (r ∷ rows) h = by (q == r.question) refl h (λ k. key_open q key rows k)
  where
    by : (b : Bool) → (q == r.question) ≡ b → key_of q (r ∷ rows) ≡ Some key
        → (key_of q rows ≡ Some key → is_open_lookup q rows ≡ true) → is_open_lookup q (r ∷ rows) ≡ true
    by true x h more = rw x refl
    by false x h more = rw x (more (rw x at h))

-- the class to whose question a reply came
pub record IsOfPart (v : EngineView) (e c : ℕ) : Type 0 where
  pub part : PartState
  pub is : part_at v.epochs e c ≡ Some part

part_of_reply : (v : EngineView) (new : EpochsState) (e c k q t : ℕ) (key : List ℕ) (w : What) (class : Class)
    (checks : List ℕ) → IsChanged e c (HasReplied class k q key (record { what = w; date = t }) checks) v.epochs new
    → IsOfPart v e c
part_of_reply v new e c k q t key w class checks ch = record { part = ch.before; is = ch.was }

-- the rows of the checks after it
pub reply_rows : (v : EngineView) (cs : List (ℕ × CheckParts)) (e c q t : ℕ) (key : List ℕ) (w : What) → IsEngine v
    → IsOfPart v e c → ((p : PartState) → part_at v.epochs e c ≡ Some p → key_of q p.row.lookups ≡ Some key)
    → cs ≡ all_ended q w t v.checks → Rises (map held_number (rows_of v.checks))
    → rows_of cs ≡ after_ends
    (one_end q (record { class = c; key = key; what = w; question = Some q; date = t; taken = t })) (rows_of v.checks)
reply_rows v cs e c q t key w i of found list rise =
    let a : Answer = record { class = c; key = key; what = w; question = Some q; date = t; taken = t } in
    let here = key_open q key of.part.row.lookups (found of.part of.is) in
    ap rows_of list
    ∙ rows_ended q a w t v.checks (fit_each q t a w v.checks (each_at (λ x. IsFit q a w t x.1.stage) v.checks rise
    (λ x at. fit_at v e c q t key w of.part x.0 x.1 i of.is here (found of.part of.is) at x.1.stage refl)))

-- a reply, as the end of one question
pub reply_change : (v : EngineView) (new : EpochsState) (e c k q t : ℕ) (key : List ℕ) (w : What) (class : Class)
    (checks : List ℕ) → IsEngine v
    → ((p : PartState) → part_at v.epochs e c ≡ Some p → key_of q p.row.lookups ≡ Some key)
    → IsChanged e c (HasReplied class k q key (record { what = w; date = t }) checks) v.epochs new
    → IsChanged e c (HasEnds (after_reply class k q key w t) (gone_one q)) v.epochs
    (record new { homes = v.epochs.homes; stops = v.epochs.stops })
reply_change v new e c k q t key w class checks i found ch =
    changed_as e c (HasReplied class k q key (record { what = w; date = t }) checks)
    (HasEnds (after_reply class k q key w t) (gone_one q)) v.epochs
    (record new { homes = v.epochs.homes; stops = v.epochs.stops }) change
    (changed_beside e c (HasReplied class k q key (record { what = w; date = t }) checks) v.epochs
    new v.epochs.homes v.epochs.stops ch)
  where
    opened : (p : PartState) → part_at v.epochs e c ≡ Some p → (r : ℕ) → gone_one q r ≡ true
        → is_open_lookup r p.row.lookups ≡ true
    opened p at r x = key_open r key p.row.lookups
        (ap (λ z. key_of z p.row.lookups) (sym (number_is q r x)) ∙ found p at)

    change : (p r : PartState) → part_at v.epochs e c ≡ Some p
        → HasReplied class k q key (record { what = w; date = t }) checks p r
        → HasEnds (after_reply class k q key w t) (gone_one q) p r
    change p r at h = record {
      row_is = h.row_is;
      lookups_are = ap (λ (z : ClassRow). z.lookups) h.row_is;
      waits = λ n. h.waiting_are n ∙ waits_one q (question_of n p.waiting);
      none_lost = ap (λ (z : ClassRow). z.stock.losses) h.row_is ∙ i.fed.none_lost e c p at;
      opened = opened p at;
    }

pub reply_engine : (v : EngineView) (new : EpochsState) (cs : List (ℕ × CheckParts)) (e c k q t : ℕ) (key : List ℕ)
    (w : What) (class : Class) (checks : List ℕ) → IsEngine v
    → ((p : PartState) → part_at v.epochs e c ≡ Some p → key_of q p.row.lookups ≡ Some key)
    → IsChanged e c (HasReplied class k q key (record { what = w; date = t }) checks) v.epochs new
    → cs ≡ all_ended q w t v.checks → Rises (map held_number (rows_of v.checks))
    → IsEngine (record v { checks = cs; epochs = new; latest = t })
reply_engine v new cs e c k q t key w class checks i found ch list rise =
    ended_engine v new cs t e c (after_reply class k q key w t) (gone_one q) (ended_by q w t)
    (one_end q (record { class = c; key = key; what = w; question = Some q; date = t; taken = t })) i
    (reply_change v new e c k q t key w class checks i found ch) (ending_one q t w)
    (λ n. ap (λ es. value_at es n) list ∙ ended_at q w t n v.checks)
    (reply_rows v cs e c q t key w i (part_of_reply v new e c k q t key w class checks ch) found list rise)

pub reply_same : (v : EngineView) (new : EpochsState) (cs : List (ℕ × CheckParts)) (e c k q t : ℕ) (key : List ℕ)
    (w : What) (class : Class) (checks : List ℕ) → IsEngine v
    → ((p : PartState) → part_at v.epochs e c ≡ Some p → key_of q p.row.lookups ≡ Some key)
    → IsChanged e c (HasReplied class k q key (record { what = w; date = t }) checks) v.epochs new
    → cs ≡ all_ended q w t v.checks → Rises (map held_number (rows_of v.checks))
    → IsSame (state_of (record v { checks = cs; epochs = new; latest = t }))
    (after_reply_at (record { epoch = e; class = c }) class k q key w t (state_of v))
reply_same v new cs e c k q t key w class checks i found ch list rise =
    let next : EpochsState = record new { homes = v.epochs.homes; stops = v.epochs.stops } in
    let ends = reply_change v new e c k q t key w class checks i found ch in
    record {
      clients_are = λ d. refl;
      conns_are = refl;
      from_are = λ a. refl;
      checks_are = reply_rows v cs e c q t key w i (part_of_reply v new e c k q t key w class checks ch) found list
          rise;
      asks_are = refl;
      puts_are = refl;
      current_is = ap (λ (z : EpochsState). z.current) ch.new_is;
      configs_are = λ f. ended_configs v.epochs next e c f (after_reply class k q key w t) (gone_one q) ends;
      rows_are = λ f d. ended_rows v.epochs next e c f d (after_reply class k q key w t) (gone_one q) ends;
      procs_are = ap (λ (z : EpochsState). z.procs) ch.new_is;
      homes_are = λ j. ap (λ (z : EpochsState). home_at z j) ch.new_is;
      stops_are = λ j. ap (λ (z : EpochsState). stop_at z j) ch.new_is;
      latest_is = refl;
      offset_is = refl;
    }
