-- What both ends of a channel did, read off their two pasts.
use Rattle.std.proofs.Common.{◌≡◌, ℕ, true, List, sym, ap, ◌∙◌}
use Rattle.channel_trace.specs.Runs.{IsFront, sent_of, got_of, is_drained}
use Rattle.channel_trace.specs.Laws.{AreOfOneRun}
use Rattle.channel_trace.proofs.RunLaws.{drains_all}
use Rattle.ring_machine.specs.declared.state.EndState.{EndState}
use Rattle.ring_pair_laws.specs.Ring.{ChannelOk}

module _ (n : ℕ) (ws : List ℕ) (g h : EndState) (c : ChannelOk n ws g h) where
  pub guest_front : IsFront g.got h.sent
  guest_front = (c.to_guest.waiting, c.to_guest.sent_is)

  pub host_front : IsFront h.got g.sent
  host_front = (c.to_host.waiting, c.to_host.sent_is)

  pub one_run : AreOfOneRun g.past h.past
  one_run = record { turns = c.turns; run = c.run; guest_is = c.guest_turns; host_is = c.host_turns }

  pub guest_drained : g.machine.drained ≡ true → g.got ≡ h.sent
  guest_drained d =
      sym c.guest_past.got ∙ (ap got_of (sym c.guest_turns) ∙ ((drains_all c.turns c.run).guest (ap is_drained c.guest_turns ∙ (c.guest_past.drained ∙ d)) ∙ (ap sent_of c.host_turns ∙ c.host_past.sent)))

  pub host_drained : h.machine.drained ≡ true → h.got ≡ g.sent
  host_drained d =
      sym c.host_past.got ∙ (ap got_of (sym c.host_turns) ∙ ((drains_all c.turns c.run).host (ap is_drained c.host_turns ∙ (c.host_past.drained ∙ d)) ∙ (ap sent_of c.guest_turns ∙ c.guest_past.sent)))
