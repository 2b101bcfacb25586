use Rattle.std.proofs.Common.{refl}
use Rattle.worker_requester.proofs.BareLaws.{fits_bare, fresh_bare}
use Rattle.example_device.proofs.register_run.guest_worker.Goals as goal

pub make-requires-clause-fresh : goal.make-requires-clause-fresh
make-requires-clause-fresh c = fresh_bare c.args.end _ _ c.requires.fresh

pub make-requires-clause-pages : goal.make-requires-clause-pages
make-requires-clause-pages c = fits_bare _ _ c.args.end _ _ refl c.requires.fresh
