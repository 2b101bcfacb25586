use Rattle.std.proofs.Common.{ap}
use Rattle.control_path.proofs.Parts.{new_rests}
use Rattle.control_path.proofs.path.join.Goals as goal

pub returns-clause-joined : goal.returns-clause-joined
returns-clause-joined g c =
    new_rests c.args.guest c.args.host _ _ _ _ _ _ _ _ _ _ _ _ c.requires.new (ap (λ b. b.size) c.in_ok-to_host.ensures) (ap (λ b. b.size) c.in_ok-to_guest.ensures) c.requires.to_host.0 c.requires.to_host.1 c.requires.to_guest.0 c.requires.to_guest.1
    c.split-guest_post.ensures.post c.split-guest_post.ensures.fetch c.split-host_post.ensures.post c.split-host_post.ensures.fetch
    c.in_ok-guest_box.ensures c.in_ok-host_box.ensures
