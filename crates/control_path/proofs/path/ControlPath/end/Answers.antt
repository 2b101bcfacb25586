use Rattle.control_path.proofs.Parts.{ends, got_all}
use Rattle.control_path.proofs.path.ControlPath.end.Goals as goal

pub returns-clause-over : goal.returns-clause-over
returns-clause-over g c = ends c.args.self c.requires.rests c.requires.last

pub returns-clause-host_got : goal.returns-clause-host_got
returns-clause-host_got g c =
    got_all _ _ _ _ _ _ _ c.requires.rests.guest_rests c.requires.rests.host_rests c.close-to_host.ensures (ends c.args.self c.requires.rests c.requires.last).host_fed

pub returns-clause-guest_got : goal.returns-clause-guest_got
returns-clause-guest_got g c =
    got_all _ _ _ _ _ _ _ c.requires.rests.host_rests c.requires.rests.guest_rests c.close-to_guest.ensures (ends c.args.self c.requires.rests c.requires.last).guest_fed
