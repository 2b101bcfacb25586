use Rattle.std.proofs.Common.{refl}
use Rattle.control_laws.proofs.laws.say_so.Goals as goal

pub returns : goal.returns
returns c = record {
  guest = refl;
  host = refl;
  guest_old = refl;
  host_old = refl;
  guest_first = refl;
  host_first = refl;
  guest_second = refl;
  host_second = refl;
  guest_closes_subs = refl;
  host_closes_subs = refl;
  guest_gives_subs = refl;
  host_takes_subs = refl;
  states = (refl, refl, refl);
  sub_states = (refl, refl);
  guest_moves = (refl, refl, refl);
  host_answers = (refl, refl);
  vps = (refl, refl);
  guest_fills = refl;
  host_fills = refl;
  guest_dials = λ port. refl;
  host_offers = λ port. refl;
  sock_state = λ port. refl;
}
