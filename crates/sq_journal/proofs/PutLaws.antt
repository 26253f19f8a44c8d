-- Texts that are written in pieces.
use Rattle.std.proofs.Common.{◌≡◌, ℕ, ◌+◌, ◌<◌, ◌≤◌, List, [], ◌∷◌, ◌++◌, length, map, drop, get_or, Result, Ok, Err, refl, sym, ap, ◌∙◌, append_assoc, append-nil, add-one, drop-cons, subst, arith}
use Rattle.std.proofs.KnownBytes.{Appends-trans, Appends-nil}
use Rattle.std.specs.declared.option.Option.{Option}
use Rattle.std.specs.Io.KnownBytes.{Appends}
use Rattle.std.specs.List.{flat_map}
use Rattle.std.proofs.lemmas.List.{drop_all}
use Rattle.std.proofs.lemmas.List.Concat.{flat_map-cons}
use Rattle.sq_outside.specs.Causes.{Rose}
use Rattle.sq_outside.proofs.Writing.{Grew_proper_more, Grew_proper_after}
use Rattle.sq_outside.specs.Output.{Grew, IsProperPrefix}
use Rattle.sq_journal.specs.Lines.{after_spaces}
use Rattle.sq_journal.specs.Putting.{Puts, Halfway}

-- after a first text, what the next call wrote
pub puts_then : {T U E F : Type 0} (a b c : Option (List ℕ)) (m n k : ℕ) (u : T) (r : Result U F) (first next : List ℕ)
    → Puts {T = T} {E = E} a b m n (Ok u) first → Puts b c n k r next → Puts a c m k r (first ++ next)
puts_then a b c m n k u (Ok x) first next p q = record {
  whole = Appends-trans a b c first next p.whole q.whole;
  short = tt;
  cause = record {
    later = omega (arith, p.cause.quiet, q.cause.later);
    failed = tt;
    quiet = q.cause.quiet ∙ p.cause.quiet;
  };
}
puts_then a b c m n k u (Err e) first next p q = record {
  whole = tt;
  short = Grew_proper_after a b c first next p.whole q.short;
  cause = record {
    later = omega (arith, p.cause.quiet, q.cause.later);
    failed = subst (λ x. Rose x k) p.cause.quiet q.cause.failed;
    quiet = tt;
  };
}

-- a fault in the first text
pub puts_stop : {T U E F : Type 0} (a b : Option (List ℕ)) (m n : ℕ) (e : E) (f : F) (first next : List ℕ)
    → Puts {T = T} a b m n (Err e) first → Puts {T = U} a b m n (Err f) (first ++ next)
puts_stop a b m n e f first next p = record {
  whole = tt;
  short = Grew_proper_more a b first next p.short;
  cause = record { later = p.cause.later; failed = p.cause.failed; quiet = tt };
}

-- nothing is written yet
pub halfway_none : (a : Option (List ℕ)) (m : ℕ) (whole : List ℕ) → Halfway a a m m whole whole
halfway_none a m whole = record { done = []; wrote = Appends-nil a; whole_is = refl; quiet = refl }

-- one piece more
pub halfway_more : {T E : Type 0} (a b c : Option (List ℕ)) (m n k : ℕ) (u : T) (whole rest piece next : List ℕ)
    → Halfway a b m n whole rest → rest ≡ piece ++ next
    → Puts {E = E} b c n k (Ok u) piece → Halfway a c m k whole next
halfway_more a b c m n k u whole rest piece next h e p = record {
  done = h.done ++ piece;
  wrote = Appends-trans a b c h.done piece h.wrote p.whole;
  whole_is = append_assoc h.done piece next ∙ ap (λ r. h.done ++ r) (sym e) ∙ h.whole_is;
  quiet = p.cause.quiet ∙ h.quiet;
}

-- a fault in the next piece
pub halfway_stop : {T U E F : Type 0} (a b c : Option (List ℕ)) (m n k : ℕ) (e : E) (f : F)
    (whole rest piece next : List ℕ) → Halfway a b m n whole rest → rest ≡ piece ++ next
    → Puts {T = T} b c n k (Err e) piece → Puts {T = U} a c m k (Err f) whole
halfway_stop a b c m n k e f whole rest piece next h is p =
    let all : (h.done ++ piece) ++ next ≡ whole = append_assoc h.done piece next ∙ ap (λ r. h.done ++ r) (sym is)
    ∙ h.whole_is in
    record {
      whole = tt;
      short = subst (λ w. Grew a c (λ part. IsProperPrefix part w)) all
          (Grew_proper_more a c (h.done ++ piece) next (Grew_proper_after a b c h.done piece h.wrote p.short));
      cause = record {
        later = omega (arith, h.quiet, p.cause.later);
        failed = subst (λ x. Rose x k) h.quiet p.cause.failed;
        quiet = tt;
      };
    }

-- nothing is to come
pub halfway_done : {T E : Type 0} (a b : Option (List ℕ)) (m n : ℕ) (u : T) (whole rest : List ℕ)
    → Halfway a b m n whole rest → rest ≡ [] → Puts {E = E} a b m n (Ok u) whole
halfway_done a b m n u whole rest h e = record {
  whole = subst (Appends a b) (sym (append-nil h.done) ∙ ap (λ r. h.done ++ r) (sym e) ∙ h.whole_is) h.wrote;
  short = tt;
  cause = record { later = omega (arith, h.quiet); failed = tt; quiet = h.quiet };
}

-- the next of some words after spaces
pub spaced_next : {A : Type 0} (f : A → List ℕ) (xs : List A) (i : ℕ) (d : A) → i < length xs
    → after_spaces (map f (drop i xs)) ≡ (32 ∷ f (get_or xs i d)) ++ after_spaces (map f (drop (i + 1) xs))
spaced_next f xs i d below = ap (λ l. after_spaces (map f l))
    (drop-cons xs i d below ∙ ap (λ k. get_or xs i d ∷ drop k xs) (sym (add-one i)))

-- past the last word nothing is to come
pub spaced_end : {A : Type 0} (f : A → List ℕ) (xs : List A) (i : ℕ) → length xs ≤ i
    → after_spaces (map f (drop i xs)) ≡ []
spaced_end f xs i over = ap (λ l. after_spaces (map f l)) (drop_all i xs over)

-- the next of some texts one behind the other
pub joined_next : {A : Type 0} (f : A → List ℕ) (xs : List A) (i : ℕ) (d : A) → i < length xs
    → flat_map f (drop i xs) ≡ f (get_or xs i d) ++ flat_map f (drop (i + 1) xs)
joined_next f xs i d below =
    ap (λ l. flat_map f l) (drop-cons xs i d below ∙ ap (λ k. get_or xs i d ∷ drop k xs) (sym (add-one i)))
    ∙ flat_map-cons f (get_or xs i d) (drop (i + 1) xs)

-- past the last text nothing is to come
pub joined_end : {A : Type 0} (f : A → List ℕ) (xs : List A) (i : ℕ) → length xs ≤ i → flat_map f (drop i xs) ≡ []
joined_end f xs i over = ap (λ l. flat_map f l) (drop_all i xs over)

-- four texts with one between
pub dotted : (a b c d dot : List ℕ)
    → a ++ dot ++ b ++ dot ++ c ++ dot ++ d ≡ (a ++ dot) ++ ((b ++ dot) ++ ((c ++ dot) ++ d))
dotted a b c d dot =
    append_assoc (a ++ dot ++ b ++ dot ++ c) dot d
    ∙ append_assoc (a ++ dot ++ b ++ dot) c (dot ++ d)
    ∙ append_assoc (a ++ dot ++ b) dot (c ++ (dot ++ d))
    ∙ append_assoc (a ++ dot) b (dot ++ (c ++ (dot ++ d)))
    ∙ ap (λ l. (a ++ dot) ++ l)
    (sym (append_assoc b dot (c ++ (dot ++ d))) ∙ ap (λ l. (b ++ dot) ++ l) (sym (append_assoc c dot d)))
