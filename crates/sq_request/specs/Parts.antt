-- What the code's pieces of a target stand for: RFC 9112 section 3.2.
use Rattle.std.specs.Str.{str_to_ascii_lowercase}
use Rattle.sq_base.specs.Targets as target
use Rattle.sq_request.specs.declared.hosts.Host.{Host}
use Rattle.sq_request.specs.declared.targets.TargetParts.{TargetParts}

-- a host in lower case
abbrev pub shown_host : Host → target.Host
shown_host h = record {
  name = str_to_ascii_lowercase h.name.now;
  literal = h.literal;
  rest = h.rest.now;
}

-- a target's parts, scheme and host in lower case
abbrev pub shown_parts : TargetParts → target.Target
shown_parts p = record {
  scheme = str_to_ascii_lowercase p.scheme.now;
  host = str_to_ascii_lowercase p.host.now;
  literal = p.literal;
  port = p.port;
  path = p.path.now;
}
