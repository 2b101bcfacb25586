use Rattle.std.proofs.Common.{◌≡◌, ℕ, List, [], ◌∷◌, refl, sym}
use Rattle.channel_trace.specs.declared.event.Event.{Event}
use Rattle.channel_trace.specs.declared.event.Event.TheVariants.{Sent, Got, Empty, Marked, Saw}
use Rattle.channel_trace.specs.Runs.{Guest, Host}
use Rattle.channel_trace.specs.Laws.{AreOfOneRun}
use Rattle.test_rings.proofs.channel_trace_tests.one_packet.Goals as goal

are_of_one_run : (p : List ℕ) (guest host : List (Event (List ℕ))) → guest ≡ Marked ∷ Sent p ∷ [] → host ≡ Empty ∷ Saw ∷ Got p ∷ [] → AreOfOneRun guest host
are_of_one_run p guest host g h = record {
  turns = Host Empty ∷ Host Saw ∷ Guest Marked ∷ Host (Got p) ∷ Guest (Sent p) ∷ [];
  run = ((refl, refl), ((refl, refl), (refl, ((refl, ([], refl)), (refl, tt)))));
  guest_is = sym g;
  host_is = sym h;
}

pub returns-clause-run : goal.returns-clause-run
returns-clause-run c = are_of_one_run c.args.packet.now c.marked-guest.result.events c.empty-host.result.events (cc) (cc)
