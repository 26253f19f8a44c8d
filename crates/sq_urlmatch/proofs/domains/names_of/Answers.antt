use Rattle.std.proofs.Common.{◌≡◌, ◌∙◌, ◌++◌, ◌∷◌, [], ap}
use Rattle.std.proofs.lemmas.List.Elements.{All-push, All-same}
use Rattle.std.specs.Str.{str_to_ascii_lowercase}
use Rattle.sq_base.specs.Domains.{in_domain}
use Rattle.sq_urlmatch.proofs.SearchLaws.{both_more}
use Rattle.sq_urlmatch.specs.Names.{has_host, hash_of, is_at}
use Rattle.sq_urlmatch.specs.declared.names.Name.{Name}
use Rattle.sq_urlmatch.proofs.domains.names_of.Goals as goal

abbrev is_hashed : Name → Type 0
is_hashed n = n.hash ≡ hash_of n.name

pub loop-domain-preserved : goal.loop-domain-preserved
loop-domain-preserved c =
    let names = c.loop-domain.names.items in
    let name = c.in_ok-of.field-0 in
    record {
      same = λ host.
          ap (λ l. has_host l host) c.in_ok-push.ensures.items
          ∙ both_more (λ (n : Name). is_at n host) (λ d. in_domain host (str_to_ascii_lowercase d)) names name
          c.args.domains.now c.loop-domain.domain-index c.domain-item.result c.loop-domain-test.true c.domain-item.is
          (c.in_ok-of.ensures.stands host
          ∙ ap (λ d. in_domain host (str_to_ascii_lowercase d)) c.as_bytes.ensures.value)
          (c.loop-domain.invariant.same host);
      hashed = All-same is_hashed c.push.new.self.items (names ++ name ∷ []) c.in_ok-push.ensures.items
          (All-push is_hashed names name c.loop-domain.invariant.hashed c.in_ok-of.ensures.hash);
    }
