use Rattle.std.proofs.Common.{refl}
use Rattle.worker_requester.proofs.BareLaws.{fits_bare, fresh_bare}
use Rattle.test_workers.proofs.channel_tests.asker_of.Goals as goal

pub make-requires-clause-fresh : goal.make-requires-clause-fresh
make-requires-clause-fresh g c = fresh_bare c.args.end _ _ c.requires.fresh

pub make-requires-clause-pages : goal.make-requires-clause-pages
make-requires-clause-pages g c = fits_bare _ _ c.args.end _ _ refl c.requires.fresh
