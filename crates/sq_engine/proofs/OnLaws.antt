-- The open check of a connection.
use Rattle.std.proofs.Common.{◌≡◌, ◌∙◌, ◌==◌, ◌<◌, ℕ, List, [], ◌∷◌, Bool, true, false, map, Option, None, Some, refl, sym, subst, arith}
use Rattle.std.proofs.lemmas.Option.{none-some, same_Some}
use Rattle.std.specs.Option.{option_map}
use Rattle.sq_machine.specs.Rising.{AreAbove, Rises}
use Rattle.sq_model.specs.CheckRows.{Held, held_on}
use Rattle.sq_checks.specs.Conns.{check_in}
use Rattle.sq_checks.specs.OpenChecks.{CheckParts, row, rows_of}
use Rattle.sq_checks.specs.Tables.{value_at}
use Rattle.sq_engine.specs.Engines.{IsEngine, held_number}
use Rattle.sq_engine.specs.EngineViews.{EngineView}
use Rattle.sq_engine.proofs.CountLaws.{if_false, if_true}
use Rattle.sq_engine.proofs.TableLaws.{number_is, number_self, same_key}

found_above : (n c : ℕ) (h : Held) (checks : List Held) → AreAbove n (map held_number checks)
    → held_on c checks ≡ Some h → n < h.number
found_above n c h [] a f = absurd (none-some h f)
found_above n c h (x ∷ checks) a f = by (c == x.asked.conn) refl f (found_above n c h checks a.1)
  where
    by : (b : Bool) → (c == x.asked.conn) ≡ b → held_on c (x ∷ checks) ≡ Some h
        → (held_on c checks ≡ Some h → n < h.number) → n < h.number
    by true t g more = subst (λ z. n < z.number)
        (same_Some _ _ (sym (if_true (c == x.asked.conn) (Some x) (held_on c checks) t) ∙ g)) a.0
    by false t g more = more (sym (if_false (c == x.asked.conn) (Some x) (held_on c checks) t) ∙ g)

-- a check that stands at its number, of this connection
pub record StandsOn (es : List (ℕ × CheckParts)) (c n : ℕ) : Type 0 where
  pub check : CheckParts
  pub at : value_at es n ≡ Some check
  pub conn_is : check.conn ≡ c

apart : (a b : ℕ) → b < a → (a == b) ≡ false
apart a b l = grind (arith, l)

found_on : (c : ℕ) (h : Held) (es : List (ℕ × CheckParts)) → Rises (map held_number (rows_of es))
    → held_on c (rows_of es) ≡ Some h → StandsOn es c h.number
found_on c h [] r f = absurd (none-some h f)
found_on c h (e ∷ es) r f = by (c == e.1.conn) refl f (found_on c h es r.1)
  where
    by : (b : Bool) → (c == e.1.conn) ≡ b → held_on c (rows_of (e ∷ es)) ≡ Some h
        → (held_on c (rows_of es) ≡ Some h → StandsOn es c h.number) → StandsOn (e ∷ es) c h.number
    by true t g more =
        let same : row e.0 e.1 ≡ h =
        same_Some _ _ (sym (if_true (c == e.1.conn) (Some (row e.0 e.1)) (held_on c (rows_of es)) t) ∙ g) in
        subst (λ z. StandsOn (e ∷ es) c z.number) same record {
          check = e.1;
          at = rw (same_key e.0 e.0, number_self e.0) refl;
          conn_is = sym (number_is c e.1.conn t);
        }
    by false t g more =
        let on = sym (if_false (c == e.1.conn) (Some (row e.0 e.1)) (held_on c (rows_of es)) t) ∙ g in
        let rest = more on in
        let above : e.0 < h.number = found_above e.0 c h (rows_of es) r.0 on in
        record {
          check = rest.check;
          at = rw (same_key h.number e.0, apart h.number e.0 above) rest.at;
          conn_is = rest.conn_is;
        }

-- the check that is marked at a connection
pub stands_on : (v : EngineView) (c n : ℕ) → IsEngine v → Rises (map held_number (rows_of v.checks))
    → check_in v.conns c ≡ Some n → StandsOn v.checks c n
stands_on v c n i r has = by (held_on c (rows_of v.checks)) refl (sym (i.asked.on_conns c) ∙ has)
  where
    by : (o : Option Held) → held_on c (rows_of v.checks) ≡ o → option_map held_number o ≡ Some n
        → StandsOn v.checks c n
    by None e f = absurd (none-some n f)
    by (Some h) e f = subst (StandsOn v.checks c) (same_Some _ _ f) (found_on c h v.checks r e)
