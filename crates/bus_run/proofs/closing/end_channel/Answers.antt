use Rattle.std.proofs.Common.{◌≡◌, ◌∙◌, ap, sym, subst}
use Rattle.std.specs.Prelude.{unwrap_or}
use Rattle.bus_run.specs.Closing.{ChannelEnded}
use Rattle.bus_run.proofs.ServedLines.{few_serials, outcomes_told}
use Rattle.bus_run.proofs.closing.end_channel.Goals as goal

pub of-requires : goal.of-requires
of-requires c =
    let w = c.requires in
    rw c.into_parts-settled.ensures (few_serials w.0 w.1 c.args.done c.args.asked w.2 w.3)

pub returns-clause-ended : goal.returns-clause-ended
returns-clause-ended c order first many ran =
    let parts = c.into_parts-settled.ensures in
    let same : ran.back ≡ c.in-Some.seat = ap (λ o. unwrap_or o c.in-Some.seat) (sym (sym c.in-Some.is ∙ (rw parts at c.serving_seat.ensures) ∙ ran.serving)) in
    rw parts (subst (λ s. ChannelEnded order first c.args.done.settled s c.of.result) same
    (record {
      channel = ran.channel;
      same = ran.same;
      outcomes = outcomes_told order first c.args.done c.args.asked c.of.result many ran (rw parts at c.of.ensures);
    }))
