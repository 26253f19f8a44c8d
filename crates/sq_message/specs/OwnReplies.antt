-- The replies of the proxy's own: RFC 9112 sections 2.1 and 4, RFC 9110 sections 10.2.2 (Location)
-- and 15.
use Rattle.std.specs.Prelude.{ℕ, ◌+◌, List, [], ◌∷◌, ◌++◌, length, Bool, true, if◌then◌else◌, codes, decimal}
use Rattle.std.specs.List.{flat_map}
use Rattle.sq_base.specs.Bytes.{lf, space}
use Rattle.sq_rules.specs.OutcomeText.{action_word, why_words}
use Rattle.sq_rules.specs.declared.outcomes.Outcome.{Outcome}
use Rattle.sq_message.specs.declared.own.Own.{Own}
use Rattle.sq_message.specs.declared.own.Own.TheVariants.{BadRequest, HeadTooLarge, Inner, Stopped, NoMemory, NotImplemented, BadGateway, TooManyConns}
use Rattle.sq_message.specs.RequestHeads.{crlf, closing_line}
use Rattle.sq_message.specs.Statuses.{status_words}

-- the code and phrase of a reply
abbrev pub own_status : Own → List ℕ
own_status BadRequest = codes "400 Bad Request"
own_status HeadTooLarge = codes "431 Request Header Fields Too Large"
own_status Inner = codes "500 Internal Server Error"
own_status Stopped = codes "500 Internal Server Error"
own_status NoMemory = codes "500 Internal Server Error"
own_status NotImplemented = codes "501 Not Implemented"
own_status BadGateway = codes "502 Bad Gateway"
own_status TooManyConns = codes "503 Service Unavailable"

-- the line that it says
abbrev pub own_words : Own → List ℕ
own_words BadRequest = codes "bad request"
own_words HeadTooLarge = codes "head too large"
own_words Inner = codes "internal error"
own_words Stopped = codes "journal stopped"
own_words NoMemory = codes "out of memory"
own_words NotImplemented = codes "not implemented"
own_words BadGateway = codes "bad gateway"
own_words TooManyConns = codes "too many connections"

-- the line of a body; the answer to HEAD has none
abbrev pub own_body : Bool → List ℕ → List ℕ
own_body no_body words = if no_body then [] else words ++ lf ∷ []

-- a reply with this status, whose body says these words in a line
abbrev pub own_reply : List ℕ → List ℕ → Bool → Bool → List ℕ
own_reply status words no_body closes =
    codes "HTTP/1.1 " ++ status ++ crlf ++ codes "Content-Type: text/plain" ++ crlf
    ++ codes "Content-Length: " ++ decimal (length words + 1) ++ crlf ++ closing_line closes ++ crlf
    ++ own_body no_body words

-- such a reply closes the connection
unfoldable pub error_text : Own → Bool → List ℕ
error_text own no_body = own_reply (own_status own) (own_words own) no_body true

-- the reply that sends a client elsewhere, behind which the connection closes
unfoldable pub redirect_text : ℕ → List ℕ → List ℕ
redirect_text status url =
    codes "HTTP/1.1 " ++ status_words status ++ crlf ++ codes "Location: " ++ url ++ crlf
    ++ codes "Content-Length: 0" ++ crlf ++ closing_line true ++ crlf

-- `denied rule 1`, `denied default` and the like
abbrev pub outcome_text : Outcome → List ℕ
outcome_text o = action_word o.allow ++ flat_map (λ word. space ∷ word) (why_words o.why)

-- the reply to a request that is denied
unfoldable pub denial : Outcome → Bool → Bool → List ℕ
denial o no_body closes = own_reply (codes "403 Forbidden") (outcome_text o) no_body closes
