-- Laws of classes that are alike, and of the first of them in a list.
use Rattle.std.proofs.Common.{◌≡◌, ℕ, suc, ◌+◌, List, [], ◌∷◌, length, Bool, true, false, not, ◌&&◌, ◌||◌, cond, if◌then◌else◌, nat_lt, nat_eq, ◌==◌, refl, arith, ap, ◌∙◌, Some, None, is_some}
use Rattle.std.specs.declared.option.Option.{Option}
use Rattle.std.specs.Cmp.Lexicographic.{pointwise}
use Rattle.std.specs.List.{list_any, position, position_or_len}
use Rattle.std.specs.Option.{option_map}
use Rattle.std.specs.Str.{bytes_eq}
use Rattle.std.proofs.lemmas.Slice.Eq.{bytes_eq-Decides}
use Rattle.sq_base.proofs.CommonLaws.{eq_turned}
use Rattle.sq_rules.specs.Classes.{Class}
use Rattle.sq_rules.specs.AlikeClasses.{is_alike, same_processes, same_times, same_token}
use Rattle.sq_rules.specs.declared.classes.Token.{Token}
use Rattle.sq_rules.specs.declared.classes.Token.TheVariants as token

both : (a b c d : Bool) → a ≡ c → b ≡ d → (a && b) ≡ (c && d)
both a b c d e f = cc

lists_turned : {X : Type 0} (E : X → X → Bool) → ((x y : X) → E x y ≡ E y x) → (xs ys : List X)
    → pointwise E xs ys ≡ pointwise E ys xs
lists_turned E t [] [] = refl
lists_turned E t [] (y ∷ ys) = refl
lists_turned E t (x ∷ xs) [] = refl
lists_turned E t (x ∷ xs) (y ∷ ys) = both (E x y) (pointwise E xs ys) (E y x) (pointwise E ys xs) (t x y)
    (lists_turned E t xs ys)

token_turned : (t u : Token) → same_token t u ≡ same_token u t
token_turned token.ClientAddr token.ClientAddr = refl
token_turned token.ClientPort token.ClientPort = refl
token_turned token.Method token.Method = refl
token_turned token.Uri token.Uri = refl
token_turned token.Scheme token.Scheme = refl
token_turned token.Host token.Host = refl
token_turned token.Port token.Port = refl
token_turned token.Path token.Path = refl
token_turned (token.Header a) (token.Header b) = lists_turned nat_eq eq_turned a b
token_turned token.AclName token.AclName = refl
token_turned token.Arguments token.Arguments = refl
token_turned token.Percent token.Percent = refl
token_turned t u = refl

four : (a b c d a' b' c' d' : Bool) → a ≡ a' → b ≡ b' → c ≡ c' → d ≡ d' → (a && b && c && d) ≡ (a' && b' && c' && d')
four a b c d a' b' c' d' p q r s = cc

times_turned : (c d : Class) → same_times c d ≡ same_times d c
times_turned c d =
    four (c.ttl == d.ttl) (c.negative_ttl == d.negative_ttl) (c.grace == d.grace) (c.cache == d.cache) (d.ttl == c.ttl)
    (d.negative_ttl == c.negative_ttl) (d.grace == c.grace) (d.cache == c.cache)
    (eq_turned c.ttl d.ttl) (eq_turned c.negative_ttl d.negative_ttl) (eq_turned c.grace d.grace)
    (eq_turned c.cache d.cache)

processes_turned : (c d : Class) → same_processes c d ≡ same_processes d c
processes_turned c d =
    four (c.children_max == d.children_max) (c.startup == d.startup) (c.concurrency == d.concurrency)
    (c.queue_size == d.queue_size)
    (d.children_max == c.children_max) (d.startup == c.startup) (d.concurrency == c.concurrency)
    (d.queue_size == c.queue_size)
    (eq_turned c.children_max d.children_max) (eq_turned c.startup d.startup) (eq_turned c.concurrency d.concurrency)
    (eq_turned c.queue_size d.queue_size)

five : (a b c d e a' b' c' d' e' : Bool) → a ≡ a' → b ≡ b' → c ≡ c' → d ≡ d' → e ≡ e'
    → (a && b && c && d && e) ≡ (a' && b' && c' && d' && e')
five a b c d e a' b' c' d' e' p q r s t = cc

-- two classes are alike in either order
pub alike_turned : (c d : Class) → is_alike c d ≡ is_alike d c
alike_turned c d =
    five (pointwise nat_eq c.name d.name) (same_times c d) (same_processes c d) (pointwise same_token c.format d.format)
    (pointwise (pointwise nat_eq) c.words d.words)
    (pointwise nat_eq d.name c.name) (same_times d c) (same_processes d c) (pointwise same_token d.format c.format)
    (pointwise (pointwise nat_eq) d.words c.words)
    (lists_turned nat_eq eq_turned c.name d.name) (times_turned c d) (processes_turned c d)
    (lists_turned same_token token_turned c.format d.format)
    (lists_turned (pointwise nat_eq) (lists_turned nat_eq eq_turned) c.words d.words)

left_of : (a b : Bool) → (a && b) ≡ true → a ≡ true
left_of true b e = refl
left_of false b e = e

right_of : (a b : Bool) → (a && b) ≡ true → b ≡ true
right_of true b e = e
right_of false b e = absurd cc

-- what is the same of two classes that are alike: the name, and the times
alike_parts : (c d : Class) → is_alike c d ≡ true → (pointwise nat_eq c.name d.name ≡ true) × (same_times c d ≡ true)
alike_parts c d e =
    let n = pointwise nat_eq c.name d.name in
    let t = same_times c d in
    let s = same_processes c d in
    let f = pointwise same_token c.format d.format in
    let w = pointwise (pointwise nat_eq) c.words d.words in
    let both_are : (n && t) ≡ true = left_of (n && t) s (left_of (n && t && s) f (left_of (n && t && s && f) w e)) in
    (left_of n t both_are, right_of n t both_are)

-- classes that are alike have one name
pub alike_name : (c d : Class) → is_alike c d ≡ true → c.name ≡ d.name
alike_name c d e = let same : bytes_eq c.name d.name ≡ true = (alike_parts c d e).0 in same_bytes c.name d.name same
  where
    same_bytes : (a b : List ℕ) → bytes_eq a b ≡ true → a ≡ b
    same_bytes a b e = grind (arith, e, bytes_eq-Decides a b)

equal : (a b : ℕ) → (a == b) ≡ true → a ≡ b
equal a b e = grind (arith, e)

-- classes that are alike keep as many verdicts
pub alike_cache : (c d : Class) → is_alike c d ≡ true → c.cache ≡ d.cache
alike_cache c d e = equal c.cache d.cache
    (right_of (c.ttl == d.ttl && c.negative_ttl == d.negative_ttl && c.grace == d.grace) (c.cache == d.cache)
    (alike_parts c d e).1)

-- a class is not alike to one of another name
pub not_alike : (c d : Class) → bytes_eq c.name d.name ≡ false → is_alike c d ≡ false
not_alike c d e = by_name (pointwise nat_eq c.name d.name) e
  where
    by_name : (b : Bool) → b ≡ false
        → (b && same_times c d && same_processes c d && pointwise same_token c.format d.format
        && pointwise (pointwise nat_eq) c.words d.words) ≡ false
    by_name true e = absurd cc
    by_name false e = refl

-- a class with the name of one that is alike to another has the other's name
pub named_alike : (a c d : Class) → is_alike c d ≡ true → bytes_eq a.name c.name ≡ bytes_eq a.name d.name
named_alike a c d e = ap (λ n. bytes_eq a.name n) (alike_name c d e)

shift : (a b : ℕ) (i : ℕ)
    → cond (nat_lt (1 + a) (suc b)) (Some (1 + a)) None ≡ option_map suc (cond (nat_lt a b) (Some a) None)
shift a b i = by_less (nat_lt a b) refl
  where
    again : (t : Bool) → nat_lt a b ≡ t → nat_lt (1 + a) (suc b) ≡ t
    again true e = grind (arith, e)
    again false e = grind (arith, e)

    next : 1 + a ≡ suc a
    next = omega arith

    by_less : (t : Bool) → nat_lt a b ≡ t
        → cond (nat_lt (1 + a) (suc b)) (Some (1 + a)) None ≡ option_map suc (cond t (Some a) None)
    by_less true e = ap (λ z. cond z (Some (1 + a)) None) (again true e) ∙ ap Some next
    by_less false e = ap (λ z. cond z (Some (1 + a)) None) (again false e)

-- where the first that passes stands, in a list with one element more in front
pub position_cons : {X : Type 0} (p : X → Bool) (x : X) (xs : List X)
    → position p (x ∷ xs) ≡ (if p x then Some 0 else option_map suc (position p xs))
position_cons p x xs = by_test (p x) refl
  where
    short : nat_lt 0 (suc (length xs)) ≡ true
    short = grind arith

    by_test : (t : Bool) → p x ≡ t → position p (x ∷ xs) ≡ (if t then Some 0 else option_map suc (position p xs))
    by_test true e =
        ap (λ z. cond (nat_lt (cond (not z) (1 + position_or_len p xs) 0) (suc (length xs)))
        (Some (cond (not z) (1 + position_or_len p xs) 0)) None) e
        ∙ ap (λ z. cond z (Some 0) None) short
    by_test false e =
        ap (λ z. cond (nat_lt (cond (not z) (1 + position_or_len p xs) 0) (suc (length xs)))
        (Some (cond (not z) (1 + position_or_len p xs) 0)) None) e
        ∙ shift (position_or_len p xs) (length xs) 0

-- something passes where there is a first
pub some_position : {X : Type 0} (p : X → Bool) (xs : List X) → is_some (position p xs) ≡ list_any p xs
some_position p [] = refl
some_position p (x ∷ xs) = ap is_some (position_cons p x xs) ∙ by_test (p x) (position p xs) (some_position p xs)
  where
    by_test : (t : Bool) (o : Option ℕ) → is_some o ≡ list_any p xs
        → is_some (if t then Some 0 else option_map suc o) ≡ (t || list_any p xs)
    by_test true o e = refl
    by_test false None e = e
    by_test false (Some i) e = e
