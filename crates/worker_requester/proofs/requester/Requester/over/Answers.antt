use Rattle.std.proofs.Common.{ℕ, refl, sym, subst, ap, length, arith, count_by, is_some, None, Option}
use Rattle.std.proofs.lemmas.List.{length-replicate}
use Rattle.worker_requester.proofs.Tables.{none_count}
use Rattle.worker_requester.proofs.AskSteps.{new_kept}
use Rattle.worker_port.specs.Homes.{HasHome}
use Rattle.worker_requester.specs.Asking.{is_open_in}
use Rattle.worker_requester.proofs.requester.Requester.over.Goals as goal

pub invariant_of-result : goal.invariant_of-result
invariant_of-result g c =
    let fresh = c.requires.fresh in
    let n = c.requires.window.0 in
    let t = c.requires.window.2 in
    let none : Option ℕ = None in
    λ _. record {
      pages = c.requires.pages;
      home = subst (λ l. HasHome (is_open_in (g.T.Protocol.format c.args.protocol) (g.T.Protocol.asks c.args.protocol) l) c.args.port.end.state) (sym fresh.0) c.requires.home;
      live = new_kept (g.T.Protocol.format c.args.protocol) (g.T.Protocol.keeps c.args.protocol) (g.T.Protocol.asks c.args.protocol) _ n fresh.0 fresh.1 refl t refl refl c.requires.none refl fresh.2;
      replies = omega (arith, c.requires.replies, ap (count_by is_some) t, none_count ℕ n);
      spare = omega (arith, c.requires.rescinded, c.requires.window.1, ap length t, length-replicate n none);
      size = omega (arith, c.requires.window.1, ap length t, length-replicate n none);
      room = c.requires.room;
      side = c.requires.side;
    }
