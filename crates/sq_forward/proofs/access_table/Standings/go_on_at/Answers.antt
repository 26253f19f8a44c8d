use Rattle.std.proofs.Common.{◌≡◌, ◌∙◌, Some, cond, is_some, sym, ap}
use Rattle.std.specs.Cmp.Lexicographic.{same_text}
use Rattle.std.specs.Prelude.{bytes_eq}
use Rattle.std.specs.Str.{str_to_ascii_lowercase}
use Rattle.sq_eval.specs.Takings.{fact_taken}
use Rattle.sq_forward.proofs.TableLaws.{one_on, standing_after}
use Rattle.sq_forward.specs.Standings.{standing_at}
use Rattle.sq_forward.proofs.access_table.Standings.go_on_at.Goals as goal

pub returns : goal.returns
returns c =
    let es = c.self.inside.map.entries in
    let name = c.args.rule.now.name in
    let key : name ≡ str_to_ascii_lowercase name =
    same_text name (str_to_ascii_lowercase name) (sym c.requires.lower) in
    let here : standing_at es (str_to_ascii_lowercase c.args.rule.now.name) ≡ Some c.in-Some.standing.now =
    ap (standing_at es) (sym key) ∙ sym c.in-Some.ensures.value in
    let there = ap is_some (sym c.in-Some.ensures.value) in
    rw (← c.self.view_is)
    (one_on (fact_taken c.args.facts.now) c.args.config.now.acls c.args.reply c.args.rule.now c.in-Some.standing.now
    c.behind.result es _ c.requires.way here c.behind.ensures
    (λ k. standing_after name k (Some c.behind.result) es _ (((c.get_mut.follows.holds c.behind.result).3 there).0 k)
    ∙ ap (λ q. cond (bytes_eq q k) (Some c.behind.result) (standing_at es k)) key))
