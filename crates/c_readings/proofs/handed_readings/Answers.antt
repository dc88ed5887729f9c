-- `handed_readings` builds the model, then holds the row against it.
use Rattle.c_readings.proofs.handed_readings.Goals as goal

pub returns : goal.returns
returns c = rw (c.row_held.ensures, c.taken-m.ensures)
