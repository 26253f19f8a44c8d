-- The predefined acls as their lines would state them, computed.
use Rattle.std.proofs.Common.{◌≡◌, ◌*◌, ◌^◌, codes, refl, true, false, Some}
use Rattle.std.specs.Fmt.{digits}
use Rattle.std.specs.Net.Reader.{read_ipv4, read_ipv6, read_number, read_octet, read_segment, read_segments}
use Rattle.regex.proofs.OnLiterals.{regex_on_literals}
use Rattle.sq_base.specs.Addresses.{address_of, v4, v4_of, v6, v6_of}
use Rattle.sq_base.specs.Decimals.{number_of}
use Rattle.sq_base.specs.Ranges.{block, block_size, range_of, single}
use Rattle.sq_rules.specs.Patterns.{is_pattern, reading}

localhost_v4 : range_of (codes "127.0.0.1/32") ≡ Some (single (v4 2130706433))
unfolding range_of block_size address_of v4_of v6_of number_of read_ipv4 read_octet read_number read_ipv6 read_segments
    read_segment digits
localhost_v4 = refl

localhost_v6 : range_of (codes "::1") ≡ Some (single (v6 1))
unfolding range_of block_size address_of v4_of v6_of number_of read_ipv4 read_octet read_number read_ipv6 read_segments
    read_segment digits
localhost_v6 = refl

loopback : range_of (codes "127.0.0.0/8") ≡ Some (block (2 ^ 24) (v4 2130706432))
unfolding range_of block_size address_of v4_of v6_of number_of read_ipv4 read_octet read_number read_ipv6 read_segments
    read_segment digits
loopback = refl

unset_v4 : range_of (codes "0.0.0.0/32") ≡ Some (single (v4 0))
unfolding range_of block_size address_of v4_of v6_of number_of read_ipv4 read_octet read_number read_ipv6 read_segments
    read_segment digits
unset_v4 = refl

unset_v6 : range_of (codes "::") ≡ Some (single (v6 0))
unfolding range_of block_size address_of v4_of v6_of number_of read_ipv4 read_octet read_number read_ipv6 read_segments
    read_segment digits
unset_v6 = refl

linklocal_v4 : range_of (codes "169.254.0.0/16") ≡ Some (block (2 ^ 16) (v4 2851995648))
unfolding range_of block_size address_of v4_of v6_of number_of read_ipv4 read_octet read_number read_ipv6 read_segments
    read_segment digits
linklocal_v4 = refl

linklocal_v6 : range_of (codes "fe80::/10") ≡ Some (block (2 ^ 118) (v6 (65152 * 2 ^ 112)))
unfolding range_of block_size address_of v4_of v6_of number_of read_ipv4 read_octet read_number read_ipv6 read_segments
    read_segment digits
linklocal_v6 = refl

-- the first pattern of `manager` is one, for the configuration that has it from the start
pub cache_objects : is_pattern (record { pattern = codes "^cache_object://"; fold = true }) ≡ true
unfolding is_pattern reading regex_on_literals
cache_objects = refl

-- the second pattern of `manager` is one
pub managers : is_pattern (record { pattern = codes "^[^:]+://[^/]+/squid-internal-mgr/"; fold = false }) ≡ true
unfolding is_pattern reading regex_on_literals
managers = refl
