use Rattle.vmbus_main.proofs.Parting.{first_between}
use Rattle.vmbus_main.proofs.run.contacted.Goals as goal

pub returns : goal.returns
returns g c = record {
  between =
      first_between c.args.script.now c.args.runner.now c.args.path c.in_ok-run.field-0 c.requires.so_far c.requires.none c.requires.rests c.requires.guest c.requires.path c.in_ok-run.ensures.ran;
}
