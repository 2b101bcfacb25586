use Rattle.std.proofs.Common.{[], ◌∷◌, ap, arith, Some}
use Rattle.hist_lock.proofs.Rows.{new_all}
use Rattle.device_any.proofs.Growing.{none_served, first_state}
use Rattle.device_any.proofs.machine_box.MachineBox.make.Goals as goal

pub close-machine-requires : goal.close-machine-requires
close-machine-requires g c = new_all c.args.machine [] (0 ∷ []) c.in_ok-seats.seats.items (omega arith) c.in_ok-seats.ensures

pub returns-clause-new : goal.returns-clause-new
returns-clause-new g c =
    let m = g.M.Machine in
    let none = none_served m.after m.reply_to c.args.machine c.in_ok-seats.seats.items _ c.in_ok-seats.ensures c.close-machine.ensures.closes in
    record {
      state = ap (λ s. Some s) (first_state m.first m.after m.reply_to c.args.machine c.close-machine.result.0 c.in_ok-seats.seats.items _ c.in_ok-seats.ensures none c.close-machine.ensures.first c.close-machine.ensures.leaves);
      past = none;
    }
