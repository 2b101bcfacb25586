use Rattle.std.proofs.Common.{◌≡◌, ◌-◌, length, take, drop, length-drop, ap, ◌∙◌, arith}
use Rattle.std.proofs.lemmas.List.{length-take-le}
use Rattle.util_ic.specs.Messages.{zeros}
use Rattle.util_ic.proofs.ByteLaws.{end_written}
use Rattle.util_ic.proofs.request.put_zeros.Goals as goal

pub returns : goal.returns
returns c =
    let message = c.args.message.now in
    let at = c.args.at in
    let k = length message - at in
    let size : length (take k (drop at message)) ≡ c.args.len = omega (arith, length-drop at message, length-take-le k (drop at message) (omega (arith, length-drop at message))) in
    end_written message c.clear.new.part (zeros c.args.len) at k (omega arith) (c.clear.ensures ∙ ap zeros size)
