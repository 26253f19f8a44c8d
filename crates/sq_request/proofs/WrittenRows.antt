-- Parts of which a head can be written, or not.
use Rattle.std.proofs.Common.{◌≡◌, ℕ, List, [], ◌∷◌, true, false, codes, refl}
use Rattle.httparse.proofs.OnLiterals.{httparse_on_literals}
use Rattle.std.specs.Str.{is_utf8, chars}
use Rattle.sq_base.specs.declared.requests.Field.{Field}
use Rattle.sq_request.specs.Written.{is_written}

abbrev pub with_value : List ℕ → Field
with_value v = record { name = codes "Accept"; value = v }

pub plain : is_written (codes "GET") (codes "http://a.example/") 1 (with_value (codes "a b") ∷ []) ≡ true
unfolding is_written httparse_on_literals is_utf8 chars lib.Utf8.encode
plain = refl

-- an empty value
pub empty_value : is_written (codes "GET") (codes "/") 0 (with_value [] ∷ []) ≡ true
unfolding is_written httparse_on_literals is_utf8 chars lib.Utf8.encode
empty_value = refl

-- white space at an end of a value
pub blank_front : is_written (codes "GET") (codes "/") 1 (with_value (codes " a") ∷ []) ≡ false
unfolding is_written httparse_on_literals is_utf8 chars lib.Utf8.encode
blank_front = refl

-- a space in a target, and in a method
pub spaced_target : is_written (codes "GET") (codes "/ a") 1 [] ≡ false
unfolding is_written httparse_on_literals is_utf8 chars lib.Utf8.encode
spaced_target = refl

pub spaced_method : is_written (codes "G T") (codes "/") 1 [] ≡ false
unfolding is_written httparse_on_literals is_utf8 chars lib.Utf8.encode
spaced_method = refl

-- a byte past ASCII that no UTF-8 has
pub broken_target : is_written (codes "GET") (47 ∷ 255 ∷ []) 1 [] ≡ false
unfolding is_written httparse_on_literals is_utf8 chars lib.Utf8.encode
broken_target = refl
