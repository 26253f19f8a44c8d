-- Checks that are given, one after the other, what a question ended with.
use Rattle.std.proofs.Common.{◌≡◌, ◌∙◌, ◌==◌, ℕ, List, [], ◌∷◌, ◌++◌, Bool, true, false, if◌then◌else◌, map, Bor, refl, ap, sym}
use Rattle.std.proofs.lemmas.List.{map-append}
use Rattle.std.specs.Map.Iter.{deref}
use Rattle.std.specs.Option.{option_and_then}
use Rattle.sq_base.specs.declared.helpers.What.{What}
use Rattle.sq_lookup.specs.Waits.{has_check}
use Rattle.sq_machine.specs.Events.{is_number}
use Rattle.sq_machine.specs.Rising.{Rises}
use Rattle.sq_checks.specs.OpenChecks.{CheckParts, all_ended, change_at, change_entry, ended_by, rows_of, wait_at}
use Rattle.sq_checks.specs.Stages.{ended_stage, question_in}
use Rattle.sq_checks.specs.declared.stages.CheckStage.{CheckStage}
use Rattle.sq_checks.specs.declared.stages.CheckStage.TheVariants as stage
use Rattle.sq_engine.specs.Engines.{held_number}
use Rattle.sq_engine.specs.Lines.{all_given, share_of}
use Rattle.sq_engine.specs.declared.lines.Share.{Share}
use Rattle.sq_engine.proofs.ReplyLaws.{Each, each_at}
use Rattle.sq_engine.proofs.TableLaws.{number_sym}

-- the last one first
pub given_last : (q now : ℕ) (xs : List Share) (x : Share) (cs : List (ℕ × CheckParts))
    → all_given q now (xs ++ x ∷ []) cs ≡ all_given q now xs (change_at x.check (ended_by q x.what now) cs)
given_last q now [] x cs = refl
given_last q now (y ∷ xs) x cs = ap (change_at y.check (ended_by q y.what now)) (given_last q now xs x cs)

stage_twice : (q now : ℕ) (w : What) (s : CheckStage)
    → ended_stage q w now (ended_stage q w now s) ≡ ended_stage q w now s
stage_twice q now w stage.Ready = refl
stage_twice q now w (stage.Came a) = refl
stage_twice q now w (stage.Waits n) = by (n.question == q) refl
  where
    by : (b : Bool) → (n.question == q) ≡ b
        → ended_stage q w now (ended_stage q w now (stage.Waits n)) ≡ ended_stage q w now (stage.Waits n)
    by true x = rw x refl
    by false x = rw x (rw x refl)
stage_twice q now w (stage.Done o) = refl

twice : (q now : ℕ) (w : What) (k : CheckParts) → ended_by q w now (ended_by q w now k) ≡ ended_by q w now k
twice q now w k = ap (λ (s : CheckStage). record k { stage = s }) (stage_twice q now w k.stage)

abbrev listed_entry : List ℕ → (CheckParts → CheckParts) → ℕ × CheckParts → ℕ × CheckParts
listed_entry ns f e = if has_check e.0 ns then (e.0, f e.1) else e

none_listed : (f : CheckParts → CheckParts) (es : List (ℕ × CheckParts)) → map (listed_entry [] f) es ≡ es
none_listed f [] = refl
none_listed f (e ∷ es) = ap (λ l. e ∷ l) (none_listed f es)

entry_more : (n : ℕ) (ns : List ℕ) (f : CheckParts → CheckParts) (e : ℕ × CheckParts) (a b : Bool) → f (f e.1) ≡ f e.1
    → has_check e.0 ns ≡ a → (n == e.0) ≡ b
    → change_entry n f (listed_entry ns f e) ≡ listed_entry (n ∷ ns) f e
entry_more n ns f e true true i h t = let u : (e.0 == n) ≡ true = number_sym e.0 n ∙ t in
    rw (h, t, u) (ap (λ (y : CheckParts). (e.0, y)) i)
entry_more n ns f e true false i h t = let u : (e.0 == n) ≡ false = number_sym e.0 n ∙ t in rw (h, t, u) refl
entry_more n ns f e false true i h t = let u : (e.0 == n) ≡ true = number_sym e.0 n ∙ t in rw (h, t, u) refl
entry_more n ns f e false false i h t = let u : (e.0 == n) ≡ false = number_sym e.0 n ∙ t in rw (h, t, u) refl

list_more : (n : ℕ) (ns : List ℕ) (f : CheckParts → CheckParts) (es : List (ℕ × CheckParts))
    → ((k : CheckParts) → f (f k) ≡ f k) → change_at n f (map (listed_entry ns f) es) ≡ map (listed_entry (n ∷ ns) f) es
list_more n ns f [] i = refl
list_more n ns f (e ∷ es) i =
    ap (λ x. x ∷ change_at n f (map (listed_entry ns f) es))
    (entry_more n ns f e (has_check e.0 ns) (n == e.0) (i e.1) refl refl)
    ∙ ap (λ l. listed_entry (n ∷ ns) f e ∷ l) (list_more n ns f es i)

given_listed : (q now : ℕ) (w : What) (ns : List ℕ) (es : List (ℕ × CheckParts))
    → all_given q now (map (share_of w) ns) es ≡ map (listed_entry ns (ended_by q w now)) es
given_listed q now w [] es = sym (none_listed (ended_by q w now) es)
given_listed q now w (n ∷ ns) es = ap (change_at n (ended_by q w now)) (given_listed q now w ns es)
    ∙ list_more n ns (ended_by q w now) es (twice q now w)

other_stage : (q now : ℕ) (w : What) (s : CheckStage) → is_number q (question_in s) ≡ false → ended_stage q w now s ≡ s
other_stage q now w stage.Ready h = refl
other_stage q now w (stage.Came a) h = refl
other_stage q now w (stage.Waits n) h = let u : (n.question == q) ≡ false = number_sym n.question q ∙ h in rw u refl
other_stage q now w (stage.Done o) h = refl

end_entry : (ns : List ℕ) (q now : ℕ) (w : What) (e : ℕ × CheckParts) (b : Bool) → has_check e.0 ns ≡ b
    → is_number q (question_in e.1.stage) ≡ b
    → listed_entry ns (ended_by q w now) e ≡ (e.0, ended_by q w now e.1)
end_entry ns q now w e true h i = rw h refl
end_entry ns q now w e false h i = rw h
    (ap (λ (s : CheckStage). (e.0, record e.1 { stage = s })) (sym (other_stage q now w e.1.stage i)))

map_each : (f : ℕ × CheckParts → ℕ × CheckParts) (q now : ℕ) (w : What) (es : List (ℕ × CheckParts))
    → Each (λ e. f e ≡ (e.0, ended_by q w now e.1)) es → map f es ≡ all_ended q w now es
map_each f q now w [] h = refl
map_each f q now w (e ∷ es) h = ap (λ x. x ∷ map f es) h.0
    ∙ ap (λ l. (e.0, ended_by q w now e.1) ∷ l) (map_each f q now w es h.1)

-- where those are given it that wait for the question, each check is changed as the end says
pub all_shared : (q now : ℕ) (w : What) (ns : List ℕ) (es : List (ℕ × CheckParts))
    → Rises (map held_number (rows_of es)) → ((n : ℕ) → has_check n ns ≡ is_number q (wait_at n es))
    → all_given q now (map (share_of w) ns) es ≡ all_ended q w now es
all_shared q now w ns es rise is =
    given_listed q now w ns es
    ∙ map_each (listed_entry ns (ended_by q w now)) q now w es
    (each_at (λ e. listed_entry ns (ended_by q w now) e ≡ (e.0, ended_by q w now e.1)) es rise
    (λ e at.
    let waits : has_check e.0 ns ≡ is_number q (question_in e.1.stage) = is e.0
    ∙ ap (λ o. is_number q (option_and_then (λ (k : CheckParts). question_in k.stage) o)) at in
    end_entry ns q now w e (is_number q (question_in e.1.stage)) waits refl))

-- a copy more
pub shares_more : (w : What) (ys : List (Bor ℕ)) (y : Bor ℕ)
    → map (share_of w) (map deref ys) ++ share_of w y.now ∷ [] ≡ map (share_of w) (map deref (ys ++ y ∷ []))
shares_more w ys y = sym
    (ap (map (share_of w)) (map-append deref ys (y ∷ [])) ∙ map-append (share_of w) (map deref ys) (y.now ∷ []))
