-- The parts of an answered job; a refused one leaves all.
use mathlib.Core.Path.{refl}
use Rattle.export_sheets.proofs.jobs.tell_job.Goals as goal

pub returns-in-Ok : goal.returns-in-Ok
returns-in-Ok c = rw c.in-Ok.is record { number = refl; vertices = refl; floors = refl; some_edges = refl; some_pairs = refl; some-betas = refl }

pub returns-in-Err : goal.returns-in-Err
returns-in-Err c =
    let e = c.in-Err.is in
    record { number = rw e c.number.ensures; vertices = rw e; floors = rw e; some_edges = rw e; some_pairs = rw e; some-betas = rw e }
