-- How the bytes of an origin begin: RFC 9110 section 15.2 (interim replies), RFC 9112 section 4.
use Rattle.std.specs.Prelude.{◌≡◌, ◌⊎◌, ℕ, ◌≤◌, List, [], ◌∷◌, ◌++◌, length, Bool, true, false, ◌&&◌, not, ◌==◌, nat_le, nat_lt, Some, None}
use Rattle.std.specs.declared.option.Option.{Option}
use Rattle.sq_request.specs.Endings.{IsWholeHead}
use Rattle.sq_message.specs.ReplyHeads.{HasReply}
use Rattle.sq_message.specs.declared.replies.ReplyHead.{ReplyHead}

-- so many heads at most are passed on before that of the reply
abbrev pub interim_limit : ℕ
interim_limit = 16

-- a head that is not the reply's own; 101 is none of these
abbrev pub is_interim : ReplyHead → Bool
is_interim h = nat_le 100 h.status && nat_lt h.status 200 && not (h.status == 101)

-- the bytes are a head of a reply that has these parts, and nothing more
pub record IsHead (bytes : List ℕ) (h : ReplyHead) : Type 0 where
  pub whole : IsWholeHead bytes
  pub reads : HasReply bytes h

-- the bytes begin with this head, and these follow it
pub record BeginsHead (bytes : List ℕ) (h : ReplyHead) (rest : List ℕ) : Type 0 where
  pub head : List ℕ
  pub cut : bytes ≡ head ++ rest
  pub is : IsHead head h

-- the bytes are these heads, none of which is the reply's own
abbrev pub AreInterim : List ℕ → List ReplyHead → Type 0
AreInterim bytes [] = bytes ≡ []
AreInterim bytes (h ∷ hs) = (rest : List ℕ) × BeginsHead bytes h rest × (is_interim h ≡ true)
    × AreInterim rest hs

-- heads that are not the reply's own; its own head, if there is one that can be passed on; and what
-- follows
pub record Reading : Type 0 where
  pub interim : List ReplyHead
  pub final : Option ReplyHead
  pub rest : List ℕ

-- a head that is refused behind so many others: 101, or one too many
abbrev pub IsRefusedHead : ℕ → ReplyHead → Type 0
IsRefusedHead n h = (h.status ≡ 101) ⊎ ((is_interim h ≡ true) × (n ≡ interim_limit))

-- behind so many heads: the reply's own head and what follows it; or no head that can be passed on
abbrev pub EndsReading : ℕ → List ℕ → Option ReplyHead → List ℕ → Type 0
EndsReading n bytes (Some h) rest = BeginsHead bytes h rest × (is_interim h ≡ false)
    × (h.status ≡ 101 → ⊥)
EndsReading n bytes None rest = ((h : ReplyHead) (more : List ℕ) → BeginsHead bytes h more
    → IsRefusedHead n h) × (rest ≡ [])

-- the bytes read so
pub record IsReading (bytes : List ℕ) (r : Reading) : Type 0 where
  pub heads : List ℕ
  pub more : List ℕ
  pub cut : bytes ≡ heads ++ more
  pub interim : AreInterim heads r.interim
  pub few : length r.interim ≤ interim_limit
  pub final : EndsReading (length r.interim) more r.final r.rest
