use Rattle.wbt_run_seats.proofs.Fitting.{flusher_fits, flusher_has_rooms}
use Rattle.wbt_run_seats.proofs.laws.opened.flusher_fits.Goals as goal

pub returns-clause-fits : goal.returns-clause-fits
returns-clause-fits c = flusher_fits

pub returns-clause-rooms : goal.returns-clause-rooms
returns-clause-rooms c = flusher_has_rooms
