-- Texts of configurations, and what they state or how they are refused.
use Rattle.std.proofs.Common.{◌≡◌, ℕ, List, [], ◌∷◌, refl, length}
use Rattle.std.specs.Prelude.{codes, Ok, Err}
use lib.Utf8.{encode}
use Rattle.std.specs.Fmt.{digits}
use Rattle.std.specs.Net.Reader.{read_ipv4, read_ipv6, read_number, read_octet, read_segment, read_segments}
use Rattle.std.specs.Str.{is_utf8, chars}
use Rattle.std.specs.declared.result.Result.{Result}
use Rattle.sq_base.specs.Addresses.{v4_of, v6_of, address_of}
use Rattle.sq_base.specs.Decimals.{number_of}
use Rattle.sq_base.specs.Lines.{file_lines, words_of, is_comment, lexed}
use Rattle.sq_base.specs.Ranges.{range_of, block_size}
use Rattle.sq_rules.specs.AclLines.{acl_type, known_term, member, any_of, acl_values, acl_line, action, rule_line}
use Rattle.sq_rules.specs.AclValues.{ports_of, day_bits, days_of, short_number, minute_of, period_of, time_value}
use Rattle.sq_rules.specs.ConfNumbers.{digits_of, number_between, port_text, has_host}
use Rattle.sq_rules.specs.ConfText.{all_read, conf_refuses, conf_result, directive_of, by_directive, line_read}
use Rattle.sq_rules.specs.Configurations.{Configuration}
use Rattle.sq_rules.specs.Drafts.{begun, finished}
use Rattle.sq_rules.specs.PoolLines.{pool_class, pool_class_line, pool_number, pool_place, pools_line, port_line}
use Rattle.sq_rules.specs.declared.kinds.ConfError.{ConfError}
use Rattle.sq_rules.specs.declared.kinds.Kind.TheVariants.{BadNumber, BadTime, BadValue, PoolIncomplete, TypeClash, UndefinedAcl}

-- a name that stands with another type
clash : conf_refuses (codes "acl a port 70\nacl a src 10.0.0.1\n") 2 TypeClash
unfolding is_utf8 chars encode v4_of v6_of address_of number_of digits read_ipv4 read_octet read_number read_ipv6
    read_segments read_segment file_lines words_of is_comment lexed range_of acl_type acl_values acl_line ports_of
    conf_result all_read directive_of by_directive line_read begun
clash = refl

-- a member that stands nowhere
missing : conf_refuses (codes "acl g any-of nosuch\n") 1 UndefinedAcl
unfolding is_utf8 chars encode file_lines words_of is_comment lexed acl_type known_term member any_of acl_values
    acl_line conf_result all_read directive_of by_directive line_read begun
missing = refl

-- a pool without a class
incomplete : conf_refuses (codes "delay_pools 1\n") 0 PoolIncomplete
unfolding is_utf8 chars encode file_lines words_of is_comment lexed digits_of pool_number pools_line conf_result
    all_read directive_of by_directive line_read begun
incomplete = refl

-- hours of which the last is not later
no_time : conf_refuses (codes "acl t time 9:0-9:00\n") 1 BadTime
unfolding is_utf8 chars encode file_lines words_of is_comment lexed acl_type digits_of day_bits days_of short_number
    minute_of period_of time_value acl_values acl_line conf_result all_read directive_of by_directive line_read begun
no_time = refl

-- a port that is none, before a term that stands nowhere
no_port : conf_refuses (codes "acl lan src 10.0.0.0/8\nacl web port 80x\nhttp_access allow lan wob\n") 2 BadValue
unfolding is_utf8 chars encode v4_of v6_of address_of number_of digits read_ipv4 read_octet read_number read_ipv6
    read_segments read_segment block_size file_lines words_of is_comment lexed range_of acl_type acl_values acl_line
    ports_of conf_result all_read directive_of by_directive line_read begun
no_port = refl

-- look-ups are stated by the first line with words or not at all
late : conf_refuses (codes "acl a src all\ndst_lookup on\n") 2 BadValue
unfolding is_utf8 chars encode v4_of v6_of address_of number_of digits read_ipv4 read_octet read_number read_ipv6
    read_segments read_segment file_lines words_of is_comment lexed range_of acl_type acl_values acl_line conf_result
    all_read directive_of by_directive line_read begun
late = refl

-- there are no pools of class 4
no_class : conf_refuses (codes "delay_pools 1\ndelay_class 1 4\n") 2 BadNumber
unfolding is_utf8 chars encode file_lines words_of is_comment lexed digits_of number_between pool_number pools_line
    pool_place pool_class pool_class_line conf_result all_read directive_of by_directive line_read begun
no_class = refl

-- how many acls, rules and notices a text states, where it is accepted
abbrev counts : Result Configuration ConfError → List ℕ
counts (Ok c) = length c.acls ∷ length c.rules ∷ length c.notices ∷ []
counts (Err e) = []

-- a configuration of the kind that is installed
installed : counts (conf_result
    (codes
    "acl localnet src 0.0.0.1-0.255.255.255 # RFC 1122 \"this\" network (LAN)\nacl localnet src 10.0.0.0/8 # RFC 1918 local private network (LAN)\nacl localnet src 100.64.0.0/10\nacl localnet src fc00::/7\nacl SSL_ports port 443\nacl Safe_ports port 80 # http\nacl Safe_ports port 1025-65535 # unregistered ports\nhttp_access deny !Safe_ports\nhttp_access deny CONNECT !SSL_ports\nhttp_access allow localhost manager\nhttp_access deny all\nhttp_port 3128\ncoredump_dir /var/spool/squid\nrefresh_pattern ^ftp: 1440 20% 10080\n"))
    ≡ 9 ∷ 4 ∷ 2 ∷ []
unfolding is_utf8 chars encode v4_of v6_of address_of number_of digits read_ipv4 read_octet read_number read_ipv6
    read_segments read_segment block_size file_lines words_of is_comment lexed range_of acl_type acl_values acl_line
    ports_of action known_term rule_line digits_of number_between port_text has_host port_line conf_result all_read
    directive_of by_directive line_read begun finished
installed = refl
