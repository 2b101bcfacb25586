use Rattle.std.proofs.Common.{◌≡◌, ap, arith, length, count_by, is_some}
use Rattle.std.proofs.lemmas.Bool.Decides.{nat_tests}
use Rattle.worker_server.proofs.OwnLaws.{all_taken}
use Rattle.worker_server.proofs.responder.Responder.is_full.Goals as goal

pub returns-clause-full : goal.returns-clause-full
returns-clause-full g c full =
    let table = ap (λ d. d.table) c.self.view_is in
    let all : c.count.result ≡ 64 = grind (arith, nat_tests, full) in
    all_taken c.args.self.now.table (omega (arith, all, c.count.ensures, c.self.invariant.places, ap length table, ap (λ l. count_by is_some l) table))
