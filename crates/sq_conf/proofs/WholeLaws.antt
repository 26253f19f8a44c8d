-- What holds of drafts as lines leave them, after each of their changes.
use Rattle.std.proofs.Common.{◌≡◌, ℕ, ◌≤◌, ◌<◌, List, [], ◌∷◌, ◌++◌, length, map, set, take, Bool, true, false, ◌&&◌, refl, ap, subst, ◌∙◌, arith, Option, Some, None, nat_le, nat_lt, is_some}
use Rattle.std.proofs.lemmas.Bool.{and_parts}
use Rattle.std.proofs.lemmas.Bool.Decides.{nat_tests}
use Rattle.std.proofs.lemmas.List.{length-map, length-set, length_push}
use Rattle.std.specs.List.{list_all}
use Rattle.sq_base.specs.declared.addresses.Range.{Range}
use Rattle.sq_conf.proofs.FirstLaws.{begun_acls, begun_classes, begun_looked, begun_members, begun_patterns, begun_stated}
use Rattle.sq_conf.proofs.FreeLaws.{explained_four, explained_push, names_set}
use Rattle.sq_conf.proofs.ListLaws.{all_at, found}
use Rattle.sq_conf.proofs.LookedLaws.{own_more, shallow_more}
use Rattle.sq_conf.proofs.SoundLaws.{IsSound_class, IsSound_count, IsSound_header, IsSound_leaf, IsSound_line, IsSound_member, IsSound_more, IsSound_pool, IsSound_push, at_place, pool_changed, pools_finished, rewriter_finished}
use Rattle.sq_conf.specs.MadeNames.{are_explained, names_of}
use Rattle.sq_conf.specs.Sound.{IsSound, has_words, is_children, is_pool_draft}
use Rattle.sq_rules.proofs.AclLaws.{shallow_push}
use Rattle.sq_rules.proofs.ListLaws.{all_push}
use Rattle.sq_rules.proofs.LookupLaws.{takes_new, takes_set}
use Rattle.sq_rules.proofs.MemberLaws.{leaf_depth, line_depth}
use Rattle.sq_rules.proofs.NameLaws.{own_push}
use Rattle.sq_rules.proofs.TableLaws.{changed_at, nestings_same, own_set}
use Rattle.sq_rules.specs.AclLines.{are_free}
use Rattle.sq_rules.specs.Building.{class_place, place_of}
use Rattle.sq_rules.specs.Changes.{has_patterns}
use Rattle.sq_rules.specs.Classes.{Class}
use Rattle.sq_rules.specs.Configurations.{IsConfiguration, are_shallow, are_unique, have_distinct_names, is_header, is_known_body, is_known_rule, is_lower, nesting_of, nestings}
use Rattle.sq_rules.specs.Drafts.{Drafts, PoolDraft, are_complete, are_fast, are_patterns, begun, change_body, finished, first_acls, first_classes, pool_at, pool_of_draft, with_acl_more, with_body, with_leaf, with_line, with_lookup, with_member, with_pool, with_pools}
use Rattle.sq_rules.specs.Limits.{acl_limit, header_limit, initial_limit, nesting_limit, pool_limit, rule_limit, text_limit}
use Rattle.sq_rules.specs.Lookups.{are_looked_up, begins_literal, classes_within, has_blank, is_dst, stated_acls, takes_members, LookupSizes}
use Rattle.sq_rules.specs.Tables.{allowed}
use Rattle.sq_rules.specs.declared.configs.Acl.{Acl}
use Rattle.sq_rules.specs.declared.configs.Body.{Body}
use Rattle.sq_rules.specs.declared.configs.Rule.{Rule}
use Rattle.sq_rules.specs.declared.configs.Term.{Term}
use Rattle.sq_rules.specs.declared.headers.HeaderRule.{HeaderRule}
use Rattle.sq_rules.specs.declared.leaves.Leaf.{Leaf}
use Rattle.sq_rules.specs.declared.notices.Notice.{Notice}

-- the drafts are sound, names are their own and those with a blank are made, and no acl nests too deep
pub record IsWhole (d : Drafts) : Type 0 where
  pub sound : IsSound d
  pub names : are_unique d.acls ≡ true
  pub made : are_explained (names_of d.acls) ≡ true
  pub class_names : have_distinct_names d.classes ≡ true
  pub shallow : are_shallow d.acls ≡ true

-- what stands before the lines
begun_names : (lookup : Bool) → are_unique (first_acls lookup) ≡ true
begun_names true = refl
begun_names false = refl

begun_made : (lookup : Bool) → are_explained (names_of (first_acls lookup)) ≡ true
begun_made true = refl
begun_made false = refl

begun_class_names : (sizes : Option LookupSizes) → have_distinct_names (first_classes sizes) ≡ true
begun_class_names (Some sizes) = refl
begun_class_names None = refl

begun_shallow : (lookup : Bool) → are_shallow (first_acls lookup) ≡ true
begun_shallow true = refl
begun_shallow false = refl

pub begun_whole : (sizes : Option LookupSizes) → IsWhole (begun sizes)
unfolding begun
begun_whole sizes = record {
  sound = record {
    members = begun_members sizes;
    patterns = begun_patterns (is_some sizes);
    places = refl;
    pools_are = refl;
    headers_are = refl;
    lower_headers = refl;
    program_is = refl;
    children_are = refl;
    lookups_are = begun_looked sizes;
    few_classes = begun_classes sizes;
    few_acls = begun_stated (is_some sizes);
    all_acls = begun_acls (is_some sizes);
    few_rules = omega arith;
    few_pools = omega arith;
    few_headers = omega arith;
    initial_is = omega arith;
  };
  names = begun_names (is_some sizes);
  made = begun_made (is_some sizes);
  class_names = begun_class_names sizes;
  shallow = begun_shallow (is_some sizes);
}

-- what stands beside acls, classes, pools and rules for fields
aside : (d : Drafts) (rules : List Rule) (initial : ℕ) (port : Option ℕ) (program : Option (List (List ℕ)))
    (children : Option Class) (notices : List Notice) → IsWhole d
    → list_all (is_known_rule (length d.acls)) rules ≡ true → length rules ≤ rule_limit → initial ≤ initial_limit
    → has_words program ≡ true → is_children children ≡ true
    → IsWhole (record d {
      rules = rules;
      initial = initial;
      port = port;
      program = program;
      children = children;
      notices = notices;
    })
aside d rules initial port program children notices whole places few level words named =
    let sound = whole.sound in record {
      sound = record {
        members = sound.members;
        patterns = sound.patterns;
        places = places;
        pools_are = sound.pools_are;
        headers_are = sound.headers_are;
        lower_headers = sound.lower_headers;
        program_is = words;
        children_are = named;
        lookups_are = sound.lookups_are;
        few_classes = sound.few_classes;
        few_acls = sound.few_acls;
        all_acls = sound.all_acls;
        few_rules = few;
        few_pools = sound.few_pools;
        few_headers = sound.few_headers;
        initial_is = level;
      };
      names = whole.names;
      made = whole.made;
      class_names = whole.class_names;
      shallow = whole.shallow;
    }

pub rule_whole : (d : Drafts) (r : Rule) → IsWhole d → nat_lt (length d.rules) rule_limit ≡ true
    → is_known_rule (length d.acls) r ≡ true → IsWhole (record d { rules = d.rules ++ r ∷ [] })
rule_whole d r whole room known =
    aside d (d.rules ++ r ∷ []) d.initial d.port d.program d.children d.notices whole
    (all_push (is_known_rule (length d.acls)) d.rules r whole.sound.places known)
    (grind (arith, nat_tests, room, length_push d.rules r)) whole.sound.initial_is whole.sound.program_is
    whole.sound.children_are

pub initial_whole : (d : Drafts) (level : ℕ) → IsWhole d → level ≤ initial_limit
    → IsWhole (record d { initial = level })
initial_whole d level whole most = aside d d.rules level d.port d.program d.children d.notices whole
    whole.sound.places whole.sound.few_rules most whole.sound.program_is whole.sound.children_are

pub port_whole : (d : Drafts) (port : Option ℕ) → IsWhole d → IsWhole (record d { port = port })
port_whole d port whole = aside d d.rules d.initial port d.program d.children d.notices whole whole.sound.places
    whole.sound.few_rules whole.sound.initial_is whole.sound.program_is whole.sound.children_are

pub program_whole : (d : Drafts) (words : List (List ℕ)) → IsWhole d → nat_lt 0 (length words) ≡ true
    → IsWhole (record d { program = Some words })
program_whole d words whole some = aside d d.rules d.initial d.port (Some words) d.children d.notices whole
    whole.sound.places whole.sound.few_rules whole.sound.initial_is some whole.sound.children_are

pub children_whole : (d : Drafts) (c : Class) → IsWhole d → is_children (Some c) ≡ true
    → IsWhole (record d { children = Some c })
children_whole d c whole named = aside d d.rules d.initial d.port d.program (Some c) d.notices whole
    whole.sound.places whole.sound.few_rules whole.sound.initial_is whole.sound.program_is named

pub notice_whole : (d : Drafts) (notices : List Notice) → IsWhole d → IsWhole (record d { notices = notices })
notice_whole d notices whole = aside d d.rules d.initial d.port d.program d.children notices whole whole.sound.places
    whole.sound.few_rules whole.sound.initial_is whole.sound.program_is whole.sound.children_are

-- one acl more
pub push_whole : (d : Drafts) (name : List ℕ) (b : Body) (n : ℕ) → IsWhole d
    → nat_lt (stated_acls d.dst_lookup d.acls) acl_limit ≡ true → has_blank name ≡ false
    → (d.dst_lookup && is_dst b) ≡ false → is_known_body (length d.classes) (length d.acls) b ≡ true
    → has_patterns b ≡ true → place_of d.acls name ≡ None → allowed (nesting_of (nestings d.acls) b) ≡ Some n
    → IsWhole (with_acl_more name b d)
push_whole d name b n whole room word plain known good free low =
    let a : Acl = record { name = name; body = b } in record {
      sound = IsSound_push d a whole.sound room word plain known good;
      names = own_push (λ (z : Acl). z.name) d.acls (d.acls ++ a ∷ []) a whole.names free refl;
      made = explained_push d.acls a whole.made word;
      class_names = whole.class_names;
      shallow = shallow_push (nestings d.acls) d.acls (d.acls ++ a ∷ []) a n whole.shallow refl low refl;
    }

literal_there : (lookup : Bool) (classes : List Class) (acls : List Acl) → lookup ≡ true
    → are_looked_up lookup classes acls ≡ true → begins_literal acls ≡ true
literal_there true classes acls on is = (and_parts _ _ (and_parts _ _ is).1).0
literal_there false classes acls on is = cc

-- the four acls of one of type dst more
pub more_whole : (d : Drafts) (name : List ℕ) (values : List Range) → IsWhole d → d.dst_lookup ≡ true
    → nat_lt (stated_acls d.dst_lookup d.acls) acl_limit ≡ true → has_blank name ≡ false
    → place_of d.acls name ≡ None → are_free d.acls name ≡ true → IsWhole (with_lookup name values d)
more_whole d name values whole on room word free made = record {
  sound = IsSound_more d name values whole.sound on room word;
  names = own_more d.acls name values whole.names free made;
  made = explained_four d.acls (length d.acls) name values whole.made word;
  class_names = whole.class_names;
  shallow = shallow_more d.acls name values whole.shallow
      (literal_there d.dst_lookup d.classes d.acls on whole.sound.lookups_are);
}

-- a body changed where it stands
names_kept : (acls : List Acl) (p : ℕ) (f : Body → Body) → p < length acls → are_unique acls ≡ true
    → are_unique (change_body p f acls) ≡ true
names_kept acls p f within own =
    let at = found acls p within in
    ap are_unique (changed_at acls p at.0 f at.1)
    ∙ own_set (λ (a : Acl). a.name) acls p at.0 (record at.0 { body = f at.0.body }) at.1 refl ∙ own

made_kept : (acls : List Acl) (p : ℕ) (f : Body → Body) → p < length acls → are_explained (names_of acls) ≡ true
    → are_explained (names_of (change_body p f acls)) ≡ true
made_kept acls p f within made =
    let at = found acls p within in
    ap (λ l. are_explained (names_of l)) (changed_at acls p at.0 f at.1)
    ∙ ap are_explained (names_set acls p at.0 (record at.0 { body = f at.0.body }) at.1 refl) ∙ made

shallow_kept : (acls : List Acl) (p : ℕ) (f : Body → Body) → p < length acls
    → ((before : List ℕ) (b : Body) → nesting_of before (f b) ≡ nesting_of before b) → are_shallow acls ≡ true
    → are_shallow (change_body p f acls) ≡ true
shallow_kept acls p f within same shallow =
    let at = found acls p within in
    ap are_shallow (changed_at acls p at.0 f at.1)
    ∙ ap (list_all (λ n. nat_le n nesting_limit))
    (nestings_same acls p at.0 (record at.0 { body = f at.0.body }) at.1 (same (take p (nestings acls)) at.0.body))
    ∙ shallow

-- further values
pub leaf_whole : (d : Drafts) (p : ℕ) (more : Leaf) → IsWhole d → p < length d.acls → are_patterns more ≡ true
    → IsWhole (with_body p (with_leaf more) d)
leaf_whole d p more whole within good = record {
  sound = IsSound_leaf d p more whole.sound within good;
  names = names_kept d.acls p (with_leaf more) within whole.names;
  made = made_kept d.acls p (with_leaf more) within whole.made;
  class_names = whole.class_names;
  shallow = shallow_kept d.acls p (with_leaf more) within (λ before b. leaf_depth before more b) whole.shallow;
}

-- the group at a place may get members
pub record IsOpen (p : ℕ) (d : Drafts) : Type 0 where
  pub whole : IsWhole d
  pub within : p < length d.acls
  pub takes : takes_members d.dst_lookup d.acls p ≡ true

long_kept : (acls : List Acl) (p : ℕ) (f : Body → Body) → p < length acls
    → length (change_body p f acls) ≡ length acls
long_kept acls p f within =
    let at = found acls p within in
    ap length (changed_at acls p at.0 f at.1) ∙ length-set acls p (record at.0 { body = f at.0.body })

takes_kept : (lookup : Bool) (acls : List Acl) (p : ℕ) (f : Body → Body) → p < length acls
    → takes_members lookup acls p ≡ true → takes_members lookup (change_body p f acls) p ≡ true
takes_kept lookup acls p f within takes =
    let at = found acls p within in
    ap (λ l. takes_members lookup l p) (changed_at acls p at.0 f at.1)
    ∙ takes_set lookup acls p at.0 (record at.0 { body = f at.0.body }) at.1 refl ∙ takes

-- a new group
pub group_open : (d : Drafts) (name : List ℕ) (b : Body) (n : ℕ) → IsWhole d
    → nat_lt (stated_acls d.dst_lookup d.acls) acl_limit ≡ true → has_blank name ≡ false
    → (d.dst_lookup && is_dst b) ≡ false → is_known_body (length d.classes) (length d.acls) b ≡ true
    → has_patterns b ≡ true → place_of d.acls name ≡ None → allowed (nesting_of (nestings d.acls) b) ≡ Some n
    → IsOpen (length d.acls) (with_acl_more name b d)
group_open d name b n whole room word plain known good free low =
    let a : Acl = record { name = name; body = b } in record {
      whole = push_whole d name b n whole room word plain known good free low;
      within = omega (arith, length_push d.acls a);
      takes = takes_new d.dst_lookup d.classes d.acls a whole.sound.lookups_are word;
    }

-- a further line
pub line_open : (p : ℕ) (d : Drafts) → IsOpen p d → IsOpen p (with_body p with_line d)
line_open p d is = record {
  whole = record {
    sound = IsSound_line d p is.whole.sound is.within is.takes;
    names = names_kept d.acls p with_line is.within is.whole.names;
    made = made_kept d.acls p with_line is.within is.whole.made;
    class_names = is.whole.class_names;
    shallow = shallow_kept d.acls p with_line is.within (λ before b. line_depth before b) is.whole.shallow;
  };
  within = omega (arith, long_kept d.acls p with_line is.within, is.within);
  takes = takes_kept d.dst_lookup d.acls p with_line is.within is.takes;
}

-- a further member
pub member_open : (p : ℕ) (d : Drafts) (t : Term) → IsOpen p d → t.acl < p
    → are_fast (change_body p (with_member t) d.acls) d.pools d.headers ≡ true
    → are_shallow (change_body p (with_member t) d.acls) ≡ true → IsOpen p (with_body p (with_member t) d)
member_open p d t is earlier fast shallow = record {
  whole = record {
    sound = IsSound_member d p t is.whole.sound is.within earlier is.takes fast;
    names = names_kept d.acls p (with_member t) is.within is.whole.names;
    made = made_kept d.acls p (with_member t) is.within is.whole.made;
    class_names = is.whole.class_names;
    shallow = shallow;
  };
  within = omega (arith, long_kept d.acls p (with_member t) is.within, is.within);
  takes = takes_kept d.dst_lookup d.acls p (with_member t) is.within is.takes;
}

-- one class more
pub class_whole : (d : Drafts) (c : Class) → IsWhole d
    → nat_lt (length d.classes) (classes_within d.dst_lookup) ≡ true → class_place d.classes c.name ≡ None
    → IsWhole (record d { classes = d.classes ++ c ∷ [] })
class_whole d c whole room free = record {
  sound = IsSound_class d c whole.sound room;
  names = whole.names;
  made = whole.made;
  class_names = own_push (λ (z : Class). z.name) d.classes (d.classes ++ c ∷ []) c whole.class_names free refl;
  shallow = whole.shallow;
}

-- one rule for fields more
pub header_whole : (d : Drafts) (h : HeaderRule) → IsWhole d → nat_lt (length d.headers) header_limit ≡ true
    → is_header d.acls h ≡ true → is_lower h ≡ true → IsWhole (record d { headers = d.headers ++ h ∷ [] })
header_whole d h whole room good lower = record {
  sound = IsSound_header d h whole.sound room good lower;
  names = whole.names;
  made = whole.made;
  class_names = whole.class_names;
  shallow = whole.shallow;
}

-- so many pools
pub pools_whole : (d : Drafts) (count : ℕ) → IsWhole d → count ≤ pool_limit → IsWhole (with_pools count d)
pools_whole d count whole few = record {
  sound = IsSound_count d true count _ whole.sound refl few;
  names = whole.names;
  made = whole.made;
  class_names = whole.class_names;
  shallow = whole.shallow;
}

-- a pool changed where it stands
pub pool_whole : (d : Drafts) (p : ℕ) (f : PoolDraft → PoolDraft) → IsWhole d → p < length d.pools
    → ((x : PoolDraft) → pool_at d.pools p ≡ x → is_pool_draft d.acls x ≡ true → is_pool_draft d.acls (f x) ≡ true)
    → IsWhole (with_pool p f d)
pool_whole d p f whole within step =
    let at = found d.pools p within in
    let was : is_pool_draft d.acls at.0 ≡ true =
    all_at (is_pool_draft d.acls) d.pools p at.0 whole.sound.pools_are at.1 in
    let now : IsWhole (record d { pools = set d.pools p (f at.0) }) = record {
      sound = IsSound_pool d p (f at.0) whole.sound (step at.0 (at_place d.pools p at.0 at.1) was);
      names = whole.names;
      made = whole.made;
      class_names = whole.class_names;
      shallow = whole.shallow;
    } in
    subst IsWhole (pool_changed d p at.0 f at.1) now

-- what all lines state is a configuration
pub finished_whole : (source : List ℕ) (d : Drafts) → IsWhole d → length source ≤ text_limit
    → are_complete d.pools ≡ true → IsConfiguration (finished source d)
unfolding finished
finished_whole source d whole short complete =
    let sound = whole.sound in
    let long : length (map pool_of_draft d.pools) ≡ length d.pools = length-map d.pools pool_of_draft in
    record {
      short = short;
      class_names = whole.class_names;
      names = whole.names;
      members = sound.members;
      shallow = whole.shallow;
      places = sound.places;
      pools_are = pools_finished d.acls d.pools sound.pools_are complete;
      headers_are = sound.headers_are;
      lower_headers = sound.lower_headers;
      rewriter_is = rewriter_finished d.program d.children sound.program_is sound.children_are;
      lookups_are = sound.lookups_are;
      few_classes = sound.few_classes;
      few_acls = sound.few_acls;
      all_acls = omega (arith, sound.all_acls, sound.few_acls);
      few_rules = sound.few_rules;
      few_pools = omega (arith, long, sound.few_pools);
      few_headers = sound.few_headers;
      initial_is = sound.initial_is;
    }
