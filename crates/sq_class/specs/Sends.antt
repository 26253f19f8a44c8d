-- What a farm's act sends.
use Rattle.std.specs.Prelude.{Some, None}
use Rattle.std.specs.declared.option.Option.{Option}
use Rattle.sq_farm.specs.declared.acts.FarmAct.{FarmAct}
use Rattle.sq_farm.specs.declared.acts.FarmAct.TheVariants as act
use Rattle.sq_machine.specs.Farms.{Sending}

-- the send that an act is
abbrev pub sending_of : Option FarmAct → Option Sending
sending_of None = None
sending_of (Some act.Start) = None
sending_of (Some (act.Send k q ch text)) = Some
    (record { proc = k; question = q; channel = ch; text = text })
