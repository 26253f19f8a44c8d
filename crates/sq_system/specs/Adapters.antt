-- How often the halves of the adapters over sockets and child programs have failed.
use Rattle.std.specs.Prelude.{ℕ}
use Rattle.sq_system.specs.declared.tcp.RealIn.{RealIn}
use Rattle.sq_system.specs.declared.tcp.RealOut.{RealOut}
use Rattle.sq_system.specs.declared.tcp_server.RealListener.{RealListener}

-- of the half that is read
abbrev pub in_faults : {R : Type 0} → RealIn R → ℕ
in_faults s = s.faults

-- of the half that is written
abbrev pub out_faults : {R : Type 0} → RealOut R → ℕ
out_faults s = s.faults

-- of a listener
abbrev pub accept_faults : {R : Type 0} → RealListener R → ℕ
accept_faults s = s.faults
