use Rattle.std.proofs.Common.{sym}
use Rattle.sock_workers.proofs.Leaving.{guest_leaves}
use Rattle.sock_workers.proofs.guest.SockGuest.done.Goals as goal

pub returns-clause-leaves : goal.returns-clause-leaves
returns-clause-leaves c = guest_leaves c.args.self _ _ _ _ c.args.ended c.mark.result (sym c.self.view_is) c.self.invariant c.requires.ended c.mark.ensures.same c.mark.ensures.lists c.mark.ensures.past
