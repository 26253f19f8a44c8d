-- Tokens and methods, in the words of `httparse` and of `http`.
use Rattle.std.proofs.Common.{◌≡◌, ℕ, List, Bool, true, false, Some, None, if◌then◌else◌, IsTrue, ltb-true, lt-ltb, refl, sym, ap, subst, ◌∙◌}
use Rattle.std.proofs.lemmas.Bool.{and_from, and_parts, false_from_ne_true}
use Rattle.std.proofs.lemmas.List.Sums.{AllPass-from_list_all, list_all-from_AllPass}
use Rattle.std.specs.Option.{is_some}
use Rattle.std.specs.declared.option.Option.{Option}
use Rattle.http_header.specs.Token as http
use Rattle.httparse.specs.Grammar.{is_token, is_token_byte, IsToken}

-- a token by its test
pub token_is : (bytes : List ℕ) → is_token bytes ≡ true → IsToken bytes
token_is bytes h =
    let parts = and_parts _ _ h in
    (ltb-true _ _ parts.0, AllPass-from_list_all is_token_byte bytes parts.1)

pub token_tested : (bytes : List ℕ) → IsToken bytes → is_token bytes ≡ true
token_tested bytes h = and_from _ _ (lt-ltb _ _ h.0) (list_all-from_AllPass is_token_byte bytes h.1)

-- both libraries name the same bytes
pub same_token : (bytes : List ℕ) → IsToken bytes → http.IsToken bytes
unfolding is_token_byte http.is_token_byte
same_token bytes h = h

token_back : (bytes : List ℕ) → http.IsToken bytes → IsToken bytes
unfolding is_token_byte http.is_token_byte
token_back bytes h = h

stable : (b : Bool) → ((b ≡ true → ⊥) → ⊥) → b ≡ true
stable true h = refl
stable false h = absurd (h (λ e. absurd (cc e)))

some_if : (b : Bool) (m bytes : List ℕ) → m ≡ bytes → b ≡ true → Some m ≡ (if b then Some bytes else None)
some_if b m bytes e t = rw (t, e) refl

none_if : (b : Bool) (bytes : List ℕ) → b ≡ false → None ≡ (if b then Some bytes else None)
none_if b bytes f = rw f refl

-- a method that was made is a token
pub method_some : (m bytes : List ℕ) → m ≡ bytes → ((http.IsToken bytes → ⊥) → ⊥)
    → Some m ≡ (if is_token bytes then Some bytes else None)
method_some m bytes e possible =
    some_if (is_token bytes) m bytes e
    (stable (is_token bytes) (λ untested. possible (λ t. untested (token_tested bytes (token_back bytes t)))))

-- where none was made there is none
pub method_none : (bytes : List ℕ) → (http.IsToken bytes → ⊥)
    → None ≡ (if is_token bytes then Some bytes else None)
method_none bytes never =
    none_if (is_token bytes) bytes
    (false_from_ne_true (is_token bytes) (λ t. never (same_token bytes (token_is bytes t))))

-- a token is a method
pub token_method : (bytes : List ℕ) (o : Option (List ℕ)) → IsToken bytes
    → o ≡ (if is_token bytes then Some bytes else None) → o ≡ Some bytes
token_method bytes o t e = rw (token_tested bytes t) at e

some_of : (b : Bool) (m bytes : List ℕ) → Some m ≡ (if b then Some bytes else None) → m ≡ bytes
some_of true m bytes e = cc e
some_of false m bytes e = absurd (cc e)

-- the method of some bytes is these bytes
pub method_is : (bytes : List ℕ) (o : Option (List ℕ)) (m : List ℕ) → o ≡ Some m
    → o ≡ (if is_token bytes then Some bytes else None) → m ≡ bytes
method_is bytes o m is e = some_of (is_token bytes) m bytes (sym is ∙ e)

-- where there is no method the bytes are no token
pub no_method : (bytes : List ℕ) (o : Option (List ℕ)) → IsToken bytes
    → o ≡ (if is_token bytes then Some bytes else None) → is_some o ≡ false → IsTrue false
no_method bytes o t e none = subst IsTrue (sym (ap is_some (token_method bytes o t e)) ∙ none) refl
