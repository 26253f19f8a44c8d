use Rattle.std.proofs.Common.{◌≡◌, ◌∙◌, ◌++◌, List, ℕ, true, codes, ap, append_assoc}
use Rattle.sq_message.specs.OwnReplies.{redirect_text}
use Rattle.sq_message.specs.RequestHeads.{closing_line, crlf}
use Rattle.sq_message.specs.Statuses.{status_words}
use Rattle.sq_message.proofs.own.redirect_text.Goals as goal

joined : (h w n l u z k : List ℕ)
    → ((((h ++ w) ++ (n ++ l)) ++ u) ++ (n ++ (z ++ n))) ++ k ++ n ≡ h ++ w ++ n ++ l ++ u ++ n ++ z ++ n ++ k ++ n
joined h w n l u z k = simp append_assoc

-- the parts are put one behind the other
parts : (status : ℕ) (url a b c d e f g : List ℕ) → a ≡ codes "HTTP/1.1 " → b ≡ a ++ status_words status
    → c ≡ b ++ codes "\r\nLocation: " → d ≡ c ++ url
    → e ≡ d ++ codes "\r\nContent-Length: 0\r\n" → f ≡ e ++ closing_line true → g ≡ f ++ codes "\r\n"
    → g ≡ redirect_text status url
unfolding redirect_text
parts status url a b c d e f g p q r s t u v =
    rw (v, u, t, s, r, q, p)
    (joined (codes "HTTP/1.1 ") (status_words status) crlf (codes "Location: ") url (codes "Content-Length: 0")
    (closing_line true))

pub returns : goal.returns
returns c =
    let status : status_words c.in-Ok.status ≡ status_words c.args.status = ap status_words c.in-Ok.ensures.1 in
    record {
      text =
          parts c.args.status c.args.url.now c.in_ok-text.text c.put_status.new.to c.append.new.self c.append-2.new.self
          c.append-3.new.self c.put_closing.new.to c.append-4.new.self
          c.in_ok-text.ensures (c.in_ok-put_status.ensures ∙ ap (λ w. c.in_ok-text.text ++ w) status)
          c.in_ok-append.ensures.ok c.in_ok-append-2.ensures.ok c.in_ok-append-3.ensures.ok c.in_ok-put_closing.ensures
          c.in_ok-append-4.ensures.ok;
    }
