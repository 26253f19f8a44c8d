-- What a farm asks for next.
use Rattle.std.specs.Prelude.{Bool, true, false, Some, None}
use Rattle.std.specs.declared.option.Option.{Option}
use Rattle.sq_farm.specs.declared.acts.FarmAct.{FarmAct}
use Rattle.sq_farm.specs.declared.acts.FarmAct.TheVariants as act
use Rattle.sq_machine.specs.Farms.{Sending, Stock, send_of, start_due}

-- a send as an act
abbrev pub told_send : Option Sending → Option FarmAct
told_send None = None
told_send (Some s) = Some (act.Send s.proc s.question s.channel s.text)

-- a start as an act
abbrev pub told_start : Bool → Option FarmAct
told_start true = Some act.Start
told_start false = None

abbrev pub act_by : Option Sending → Bool → Option FarmAct
act_by None starts = told_start starts
act_by (Some s) starts = told_send (Some s)

-- the next act: the send that is due, else the start
abbrev pub act_of : Stock → Option FarmAct
act_of v = act_by (send_of v) (start_due v)
