-- The desk of a control.
use Rattle.sq_control.specs.declared.control.Control.{Control}

abbrev pub desk_of : {K : Type 0} → Control K → K
desk_of c = c.desk
