-- A periodic row as the code holds it, and as the model does.
-- Assumes nothing.
use Rattle.theory.specs.Sheet.{Periodic}
use Rattle.periodics.specs.declared.PeriodicRow.{PeriodicRow}

abbrev pub periodic_of : PeriodicRow → Periodic
periodic_of w = record { begin = w.begin; end = w.end; period = w.period; first = w.first; run = w.run; event = w.event; priority = w.priority }
