-- What the code writes of a status: its digits and its phrase, from the table of `http` (RFC 9110
-- section 15).
use Rattle.std.specs.Prelude.{ℕ, List, [], ◌∷◌, ◌++◌, unwrap_or}
use Rattle.http.specs.StatusCode.{code_digits, reason_phrase}
use Rattle.sq_base.specs.Bytes.{space}
use Rattle.sq_message.specs.declared.own.Own.{Own}
use Rattle.sq_message.specs.declared.own.Own.TheVariants.{BadRequest, HeadTooLarge, Inner, Stopped, NoMemory, NotImplemented, BadGateway, TooManyConns}

-- a code and its phrase, if it has one
unfoldable pub status_words : ℕ → List ℕ
status_words code = code_digits code ++ space ∷ unwrap_or (reason_phrase code) []

abbrev pub own_code : Own → ℕ
own_code BadRequest = 400
own_code HeadTooLarge = 431
own_code Inner = 500
own_code Stopped = 500
own_code NoMemory = 500
own_code NotImplemented = 501
own_code BadGateway = 502
own_code TooManyConns = 503
