-- Bytes that are granted and written.
use Rattle.std.proofs.Common.{◌≡◌, ℕ, ◌+◌, ◌≤◌, Bool, true, false, ◌==◌, List, [], ◌++◌, length, take, drop, Option, refl, sym, ap, ◌∙◌, arith, append_assoc, take-append-drop, length-append}
use Rattle.std.proofs.lemmas.List.{length-take-le}
use Rattle.std.proofs.Math.Seq.{take-add}
use Rattle.std.specs.Io.KnownBytes.{Appends}
use Rattle.std.proofs.KnownBytes.{Appends-trans, Appends-nil}
use Rattle.sq_outside.specs.Causes.{count_limit}
use Rattle.sq_outside.specs.Output.{IsPrefix, Grew}
use Rattle.sq_outside.proofs.Writing.{IsPrefix_refl, IsPrefix_nil, IsPrefix_more, IsPrefix_after}
use Rattle.sq_forward.specs.Meters.{granted_after, PaysAll, PaysPart, piece_limit, Gives, dry_after_grant, metered}

-- no byte more
pub granted_none : (seated : Bool) (before : ℕ) → before ≤ count_limit → before ≡ granted_after seated before 0
granted_none true before h = omega (arith, h)
granted_none false before h = refl

-- twice some bytes more
pub granted_more : (seated : Bool) (before a n : ℕ)
    → granted_after seated (granted_after seated before a) n ≡ granted_after seated before (a + n)
granted_more true before a n = omega arith
granted_more false before a n = refl

-- the first bytes of the rest, behind the first bytes
pub take_more : (at n : ℕ) (bytes rest piece : List ℕ) → rest ≡ drop at bytes → piece ≡ take n rest
    → take at bytes ++ piece ≡ take (at + n) bytes
take_more at n bytes rest piece e f = ap (λ p. take at bytes ++ p) (f ∙ ap (take n) e) ∙ sym (take-add at n bytes)

-- what was written before a pause too many
pub starved_part : (seated : Bool) (bytes : List ℕ) (before now : Option (List ℕ)) (g h at spare : ℕ)
    → at ≤ length bytes → Appends before now (take at bytes) → h ≡ granted_after seated g at
    → PaysPart bytes (metered seated before now g h) spare
starved_part seated bytes before now g h at spare within wrote granted = record {
  part = take at bytes;
  more = 0;
  front = (drop at bytes, sym (take-append-drop at bytes));
  wrote = wrote;
  granted = granted ∙ ap (granted_after seated g) (omega (arith, length-take-le at bytes within));
  close = omega arith;
}

-- what was written before the sink failed
pub failed_part : (seated : Bool) (bytes rest piece : List ℕ) (before mid now : Option (List ℕ)) (g h at n : ℕ)
    → at ≤ length bytes → rest ≡ drop at bytes → piece ≡ take n rest → n ≤ piece_limit → length piece ≡ n
    → Appends before mid (take at bytes) → Grew mid now (λ part. IsPrefix part piece)
    → h ≡ granted_after seated g (at + n) → PaysPart bytes (metered seated before now g h) piece_limit
failed_part seated bytes rest piece before mid now g h
    at n within e f few len wrote (part, grew, (more, front)) granted =
    let whole : bytes ≡ (take at bytes ++ part) ++ (more ++ drop n rest) =
    sym (take-append-drop at bytes)
    ∙ ap (λ r. take at bytes ++ r)
    (sym e ∙ sym (take-append-drop n rest) ∙ ap (λ p. p ++ drop n rest) (sym f ∙ front)
    ∙ append_assoc part more (drop n rest))
    ∙ sym (append_assoc (take at bytes) part (more ++ drop n rest)) in
    let sum : length part + length more ≡ n = omega (arith, len, ap length front, length-append part more) in
    record {
      part = take at bytes ++ part;
      more = length more;
      front = (more ++ drop n rest, whole);
      wrote = Appends-trans before mid now (take at bytes) part wrote grew;
      granted = granted ∙ ap (granted_after seated g)
          (omega (arith, sum, length-append (take at bytes) part, length-take-le at bytes within));
      close = omega (arith, sum, few);
    }

-- at most all that is wanted is given
pub gives_most : (seated : Bool) (wanted given : ℕ) → Gives seated wanted given → given ≤ wanted
gives_most true wanted given h = h
gives_most false wanted given h = omega (arith, h)

-- a grant that gives some
pub dry_reset : (given dry : ℕ) → (given ≡ 0 → ⊥) → dry_after_grant given dry ≡ 0
dry_reset given dry h = let some : (given == 0) ≡ false = grind arith in rw some refl

-- nothing was written yet
pub pays_none : (seated : Bool) (out : Option (List ℕ)) (g : ℕ) → g ≤ count_limit → PaysAll []
    (metered seated out out g g)
pays_none seated out g few = record { wrote = Appends-nil out; granted = granted_none seated g few }

-- nothing was written of a text
pub pays_nothing : (seated : Bool) (text : List ℕ) (out : Option (List ℕ)) (g : ℕ) → g ≤ count_limit
    → PaysPart text (metered seated out out g g) 0
pays_nothing seated text out g few = record {
  part = [];
  more = 0;
  front = IsPrefix_nil text;
  wrote = Appends-nil out;
  granted = granted_none seated g few;
  close = omega arith;
}

-- a text behind another
pub pays_after : {seated : Bool} {front text : List ℕ} {a b d : Option (List ℕ)} {g h k : ℕ}
    → PaysAll front (metered seated a b g h) → PaysAll text (metered seated b d h k) → PaysAll (front ++ text)
    (metered seated a d g k)
pays_after {seated} {front} {text} {a} {b} {d} {g} {h} {k} x y = record {
  wrote = Appends-trans a b d front text x.wrote y.wrote;
  granted =
      y.granted ∙ ap (λ n. granted_after seated n (length text)) x.granted
      ∙ granted_more seated g (length front) (length text)
      ∙ ap (granted_after seated g) (sym (length-append front text));
}

-- a part of a text behind another
unfoldable pub pays_part_after : {seated : Bool} {front text : List ℕ} {a b d : Option (List ℕ)} {g h k spare : ℕ}
    → PaysAll front (metered seated a b g h) → PaysPart text (metered seated b d h k) spare → PaysPart (front ++ text)
    (metered seated a d g k) spare
pays_part_after {seated} {front} {text} {a} {b} {d} {g} {h} {k} {spare} x y = record {
  part = front ++ y.part;
  more = y.more;
  front = IsPrefix_after front y.part text y.front;
  wrote = Appends-trans a b d front y.part x.wrote y.wrote;
  granted =
      y.granted ∙ ap (λ n. granted_after seated n (length y.part + y.more)) x.granted
      ∙ granted_more seated g (length front) (length y.part + y.more)
      ∙ ap (granted_after seated g) (omega (arith, length-append front y.part));
  close = y.close;
}

-- a part of a text that has more
pub pays_part_more : {seated : Bool} {front : List ℕ} (text : List ℕ) {a b : Option (List ℕ)} {g h spare : ℕ}
    → PaysPart front (metered seated a b g h) spare → PaysPart (front ++ text) (metered seated a b g h) spare
pays_part_more {seated} {front} text {a} {b} {g} {h} {spare} y = record {
  part = y.part;
  more = y.more;
  front = IsPrefix_more y.part front text y.front;
  wrote = y.wrote;
  granted = y.granted;
  close = y.close;
}

-- the whole of a text is a part of it
pub pays_whole : {seated : Bool} {text : List ℕ} {a b : Option (List ℕ)} {g h : ℕ} → PaysAll text
    (metered seated a b g h)
    → PaysPart text (metered seated a b g h) 0
pays_whole {seated} {text} {a} {b} {g} {h} x = record {
  part = text;
  more = 0;
  front = IsPrefix_refl text;
  wrote = x.wrote;
  granted = x.granted ∙ ap (granted_after seated g) (omega arith);
  close = omega arith;
}

-- more may be granted than was
pub pays_spare : {seated : Bool} {text : List ℕ} {a b : Option (List ℕ)} {g h : ℕ} (m n : ℕ) → m ≤ n
    → PaysPart text (metered seated a b g h) m → PaysPart text (metered seated a b g h) n
pays_spare {seated} {text} {a} {b} {g} {h} m n few y = record {
  part = y.part;
  more = y.more;
  front = y.front;
  wrote = y.wrote;
  granted = y.granted;
  close = omega (arith, few, y.close);
}
