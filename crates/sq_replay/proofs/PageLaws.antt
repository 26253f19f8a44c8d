-- What a page holds of a text, and what was written of it.
use Rattle.std.proofs.Common.{◌≡◌, ℕ, List, [], ◌++◌, sym, ap, ◌∙◌, append-nil, append_assoc, subst}
use Rattle.std.proofs.KnownBytes.{Appends-trans}
use Rattle.std.specs.Io.KnownBytes.{Appends}
use Rattle.std.specs.declared.option.Option.{Option}
use Rattle.sq_outside.specs.Output.{Grew, IsProperPrefix}
use Rattle.sq_outside.proofs.Writing.{IsPrefix_after, IsProperPrefix_after}
use Rattle.sq_replay.specs.Runs.{Wrote, WroteFront, WrotePart, HoldsFront}

-- the page was written, and holds nothing
pub page_written : (base a b : Option (List ℕ)) (page now text : List ℕ) → Wrote base a page text → Appends a b page
    → now ≡ [] → Wrote base b now text
page_written base a b page now text w wrote none = record {
  done = w.done ++ page;
  appends = Appends-trans base a b w.done page w.appends wrote;
  whole = ap (λ p. (w.done ++ page) ++ p) none ∙ append-nil (w.done ++ page) ∙ w.whole;
}

-- a part of the page was written
pub page_failed : (base a b : Option (List ℕ)) (page text : List ℕ) → Wrote base a page text
    → Grew a b (λ part. IsProperPrefix part page) → WrotePart base b text
page_failed base a b page text w (part, wrote, short) = (
  w.done ++ part,
  Appends-trans base a b w.done part w.appends wrote,
  subst (IsProperPrefix (w.done ++ part)) w.whole (IsProperPrefix_after w.done part page short),
)

-- the page holds a line more
pub page_more : (base a : Option (List ℕ)) (page now line text : List ℕ) → Wrote base a page text → now ≡ page ++ line
    → Wrote base a now (text ++ line)
page_more base a page now line text w e = record {
  done = w.done;
  appends = w.appends;
  whole = ap (λ p. w.done ++ p) e ∙ sym (append_assoc w.done page line) ∙ ap (λ t. t ++ line) w.whole;
}

-- or a front of it
pub page_front : (base a : Option (List ℕ)) (page now line text : List ℕ) → Wrote base a page text
    → HoldsFront page now line → WroteFront base a now (text ++ line)
page_front base a page now line text w h = record {
  front = text ++ h.front;
  begins = IsPrefix_after text h.front line h.begins;
  wrote = page_more base a page now h.front text w h.page_is;
}
