use Rattle.std.proofs.Common.{append_assoc}
use Rattle.std.specs.Prelude.{codes}
use Rattle.std.specs.Fmt.{decimal}
use Rattle.bus_script.proofs.writing.push_moved.Goals as goal

pub returns-clause-text : goal.returns-clause-text
returns-clause-text c =
    cc (append_assoc c.args.text.now.items (codes "modified ") (decimal c.args.vp), c.in_ok-extend_from_slice.ensures.items, c.in_ok-push_decimal.ensures.text)
