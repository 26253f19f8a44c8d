-- Which class an event names, and that the others are not named: by homes, names and places.
use Rattle.std.proofs.Common.{◌≡◌, ℕ, zero, suc, ◌+◌, one-add, ◌<◌, List, [], ◌∷◌, position, length, slice_get, cond, Bool, true, false, not, ◌&&◌, ◌==◌, bytes_eq, Option, Some, None, refl, sym, ap, subst, ◌∙◌, arith}
use Rattle.std.specs.List.{position_or_len}
use Rattle.std.specs.Option.{option_and_then, option_map_or}
use Rattle.std.proofs.lemmas.Bool.{and_parts, lt-ltb}
use Rattle.std.proofs.lemmas.Option.{none-some, same_Some}
use Rattle.sq_rules.specs.Classes.{Class}
use Rattle.sq_rules.specs.Configurations.{Configuration}
use Rattle.sq_machine.specs.Epochs.{class_at, place_of_class, config_of}
use Rattle.sq_machine.specs.Events.{is_number}
use Rattle.sq_machine.specs.FarmReadings.{is_put_for}
use Rattle.sq_machine.specs.Marks.{Past, Put, entries}
use Rattle.sq_machine.specs.Processes.{Home, home_of, is_at_home}
use Rattle.sq_machine.specs.Questions.{put_of, sent_to}
use Rattle.sq_model.specs.Carried.{Carried, NamesOnce}
use Rattle.sq_model.proofs.ClassParts.{bytes_itself, bytes_same, equal, put_for}
use Rattle.sq_model.proofs.DeathLaws.{SentNone}

-- two places of classes are one
pub record IsSamePlace (e c f d : ℕ) : Type 0 where
  pub epoch_is : e ≡ f
  pub class_is : c ≡ d

-- a process that is of the classes at two places: they are one place
pub one_place : (configs : List Configuration) (m : Past) (k e c f d : ℕ) (class other : Class) → NamesOnce configs
    → class_at configs e c ≡ Some class → class_at configs f d ≡ Some other
    → is_at_home (entries m) e class.name k ≡ true → is_at_home (entries m) f other.name k ≡ true → IsSamePlace e c f d
one_place configs m k e c f d class other once at there mine his = by (home_of (entries m) k) mine his
  where
    by : (o : Option Home) → option_map_or (λ p. (p.epoch == e) && bytes_eq p.class class.name) o false ≡ true
        → option_map_or (λ p. (p.epoch == f) && bytes_eq p.class other.name) o false ≡ true
        → IsSamePlace e c f d
    by None a b = absurd (cc)
    by (Some p) a b =
        let x = and_parts (p.epoch == e) (bytes_eq p.class class.name) a in
        let y = and_parts (p.epoch == f) (bytes_eq p.class other.name) b in
        let epochs : e ≡ f = sym (equal p.epoch e x.0) ∙ equal p.epoch f y.0 in
        let names : class.name ≡ other.name = sym (bytes_same p.class class.name x.1)
        ∙ bytes_same p.class other.name y.1 in
        record {
          epoch_is = epochs;
          class_is = once e c d class other
              at (ap (λ (i : ℕ). class_at configs i d) epochs ∙ there)
              (ap (λ (w : List ℕ). bytes_eq class.name w) (sym names) ∙ bytes_itself class.name);
        }

-- a process of one class is of no other
pub away_from : (configs : List Configuration) (m : Past) (k e c f d : ℕ) (class other : Class) → NamesOnce configs
    → class_at configs e c ≡ Some class → class_at configs f d ≡ Some other
    → is_at_home (entries m) e class.name k ≡ true → (IsSamePlace e c f d → ⊥)
    → is_at_home (entries m) f other.name k ≡ false
away_from configs m k e c f d class other once at there mine apart = by (is_at_home (entries m) f other.name k) refl
  where
    by : (b : Bool) → is_at_home (entries m) f other.name k ≡ b → b ≡ false
    by true his = absurd (apart (one_place configs m k e c f d class other once at there mine his))
    by false his = refl

-- a question that was put for one class was put for no other
pub put_once : (m : Past) (q e c f d : ℕ) → is_put_for e c (put_of m q) ≡ true → (IsSamePlace e c f d → ⊥)
    → is_put_for f d (put_of m q) ≡ false
put_once m q e c f d put apart = by (is_put_for f d (put_of m q)) refl
  where
    by : (b : Bool) → is_put_for f d (put_of m q) ≡ b → b ≡ false
    by true other =
        let a = put_for (put_of m q) e c put in
        let b = put_for (put_of m q) f d other in
        let one : a.put ≡ b.put = same_Some _ _ (sym a.is ∙ b.is) in
        absurd (apart (record {
          epoch_is = sym a.epoch_is ∙ ap (λ (z : Put). z.epoch) one ∙ b.epoch_is;
          class_is = sym a.class_is ∙ ap (λ (z : Put). z.class) one ∙ b.class_is;
        }))
    by false other = refl

sent_here : (configs : List Configuration) (m : Past) (q k e c : ℕ) (class : Class) → Carried configs m
    → class_at configs e c ≡ Some class → sent_to m q ≡ Some k
    → is_put_for e c (put_of m q) ≡ true → is_at_home (entries m) e class.name k ≡ true
sent_here configs m q k e c class carried at sent put =
    sym (ap (λ (o : Option Class). is_at_home (entries m) e (option_map_or (λ z. z.name) o []) k) at)
    ∙ carried.sent_home q k e c sent put

-- a question that was sent to a process was put for no class that the process is not of
pub not_put_here : (configs : List Configuration) (m : Past) (q k e c : ℕ) (class : Class) → Carried configs m
    → class_at configs e c ≡ Some class → sent_to m q ≡ Some k
    → is_at_home (entries m) e class.name k ≡ false → is_put_for e c (put_of m q) ≡ false
not_put_here configs m q k e c class carried at sent away = by (is_put_for e c (put_of m q)) refl
  where
    by : (b : Bool) → is_put_for e c (put_of m q) ≡ b → b ≡ false
    by true put = let here = sent_here configs m q k e c class carried at sent put in absurd (cc)
    by false put = refl

-- no question of a class was sent to a process that is not of it
pub sent_none : (configs : List Configuration) (m : Past) (e c k : ℕ) (class : Class) → Carried configs m
    → class_at configs e c ≡ Some class
    → is_at_home (entries m) e class.name k ≡ false → SentNone m e c k
sent_none configs m e c k class carried at away = record { sent_none = λ q put. by q put (sent_to m q) refl }
  where
    not_k : (q j : ℕ) → is_put_for e c (put_of m q) ≡ true → sent_to m q ≡ Some j → (b : Bool) → (k == j) ≡ b
        → b ≡ false
    not_k q j put sent true same =
        let here = sent_here configs m q j e c class carried at sent put in
        let there : is_at_home (entries m) e class.name k ≡ true =
        ap (is_at_home (entries m) e class.name) (equal k j same) ∙ here in absurd (cc)
    not_k q j put sent false other = refl

    by : (q : ℕ) → is_put_for e c (put_of m q) ≡ true → (o : Option ℕ) → sent_to m q ≡ o → is_number k o ≡ false
    by q put None sent = refl
    by q put (Some j) sent = not_k q j put sent (k == j) refl

-- the first class that passes a test, by its place
record FirstPlace (test : Class → Bool) (classes : List Class) : Type 0 where
  place : ℕ
  class : Class
  at : slice_get classes place ≡ Some class
  passes : test class ≡ true
  is : position_or_len test classes ≡ place
  within : place < length classes

first_place : (test : Class → Bool) (xs : List Class) (i : ℕ) (x : Class) → slice_get xs i ≡ Some x → test x ≡ true
    → FirstPlace test xs
first_place test [] i x e t = absurd (none-some x e)
first_place test (y ∷ xs) i x e t = by (test y) refl (λ j f. first_place test xs j x f t) i e
  where
    by : (b : Bool) → test y ≡ b → ((j : ℕ) → slice_get xs j ≡ Some x → FirstPlace test xs) → (i : ℕ)
        → slice_get (y ∷ xs) i ≡ Some x → FirstPlace test (y ∷ xs)
    by true s more i e =
        record {
          place = 0;
          class = y;
          at = refl;
          passes = s;
          is = ap (λ (b : Bool). cond (not b) (1 + position_or_len test xs) 0) s;
          within = omega arith;
        }
    by false s more zero e = absurd (let no : test y ≡ true = ap test (same_Some _ _ e) ∙ t in cc)
    by false s more (suc i) e =
        let f = more i e in
        let w = f.within in
        record {
          place = suc f.place;
          class = f.class;
          at = f.at;
          passes = f.passes;
          is = ap (λ (b : Bool). cond (not b) (1 + position_or_len test xs) 0) s ∙ one-add (position_or_len test xs)
              ∙ ap suc f.is;
          within = omega arith;
        }

-- a class is found at its place by its name
pub place_named : (configs : List Configuration) (e c : ℕ) (class : Class) → NamesOnce configs
    → class_at configs e c ≡ Some class → place_of_class configs e class.name ≡ Some c
place_named configs e c class once at = by (config_of configs e) refl at
  where
    by : (o : Option Configuration) → config_of configs e ≡ o
        → option_and_then (λ config. slice_get config.classes c) o ≡ Some class
        → place_of_class configs e class.name ≡ Some c
    by None z is = absurd (none-some class is)
    by (Some config) z is =
        let f = first_place (λ (k : Class). bytes_eq k.name class.name) config.classes c class is
        (bytes_itself class.name) in
        let there : class_at configs e f.place ≡ Some f.class =
        ap (option_and_then (λ (k : Configuration). slice_get k.classes f.place)) z ∙ f.at in
        let same : c ≡ f.place = once e c f.place class f.class
        at there (ap (λ (w : List ℕ). bytes_eq class.name w) (bytes_same f.class.name class.name f.passes)
        ∙ bytes_itself class.name) in
        let p = position_or_len (λ (k : Class). bytes_eq k.name class.name) config.classes in
        ap (option_and_then (λ (k : Configuration). position (λ (k : Class). bytes_eq k.name class.name) k.classes)) z
        ∙ ap (λ (b : Bool). cond b (Some p) None)
        (lt-ltb p (length config.classes) (subst (λ (i : ℕ). i < length config.classes) (sym f.is) f.within))
        ∙ ap (λ (i : ℕ). Some i) (f.is ∙ sym same)
