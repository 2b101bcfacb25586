use Rattle.std.proofs.Common.{◌≡◌, true, sym, subst}
use Rattle.std.specs.Prelude.{is_some}
use Rattle.bus_model.specs.Run.{nth_of}
use Rattle.bus_plan.specs.Outcomes.{TakesTurn}
use Rattle.bus_plan.proofs.Listed.{seen_at, seen_set}
use Rattle.bus_plan.proofs.phase_outcomes.Outcomes.take_next.Goals as goal

pub take_turn-requires : goal.take_turn-requires
take_turn-requires c =
    subst (λ l. is_some (nth_of l 0) ≡ true) (seen_at (λ d. d.items) c.args.self.now c.self.inside.devices.items c.args.device c.index_mut.result.now c.self.view_is c.requires.device c.index_mut.ensures.value) c.requires.some

pub returns : goal.returns
returns c =
    let old = seen_at (λ d. d.items) c.args.self.now c.self.inside.devices.items c.args.device c.index_mut.result.now c.self.view_is c.requires.device c.index_mut.ensures.value in
    let after = c.take_turn.new.channels.items in (
      after,
      seen_set (λ d. d.items) c.args.self.now c.self.inside.devices.items c.args.device c.take_turn.new.channels c.self.view_is,
      subst (λ l. TakesTurn l c.take_turn.result after) (sym old) c.take_turn.ensures,
    )
