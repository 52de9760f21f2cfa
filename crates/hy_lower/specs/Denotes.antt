-- The frame of a body of the program.
use Rattle.hy_lower.specs.declared.body.Body.{Body}
use Rattle.hy_lower.specs.Frames.{Frame}

abbrev pub frame : Body → Frame
frame b = record { types = b.types.now; sizes = b.sizes.now; locals = b.locals; homes = b.homes; scratch = b.scratch; slot = b.slot }
