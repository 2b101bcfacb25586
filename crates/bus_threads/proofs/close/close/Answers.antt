use Rattle.std.proofs.Common.{refl}
use Rattle.io_edge.specs.declared.side.Side.TheVariants.{Guest, Host}
use Rattle.worker_pair.proofs.Roles.{left_at_side}
use Rattle.bus_threads.proofs.Closing.{one_channel, replies_of_one, serials_of_one}
use Rattle.bus_threads.proofs.Running.{runs_pair}
use Rattle.bus_threads.proofs.close.close.Goals as goal

pub finish-requires : goal.finish-requires
finish-requires c = record { one_channel = one_channel c.args.pair.now.value.guest c.args.pair.now.value.host c.args.guest c.args.host c.requires.pair.pair c.requires.guest c.requires.host }

pub of_device-requires : goal.of_device-requires
of_device-requires c = left_at_side Guest c.args.pair.now.value.guest c.args.guest c.requires.pair.guest c.requires.guest

pub of_device-requires-2 : goal.of_device-requires-2
of_device-requires-2 c = left_at_side Host c.args.pair.now.value.host c.args.host c.requires.pair.host c.requires.host

pub either-requires : goal.either-requires
either-requires c = serials_of_one c.args.pair.now.value.guest c.args.pair.now.value.host c.args.guest c.args.host c.requires.pair.pair.roles c.requires.guest c.requires.host

pub either-requires-2 : goal.either-requires-2
either-requires-2 c = replies_of_one c.args.pair.now.value.guest c.args.pair.now.value.host c.args.guest c.args.host c.requires.pair.pair.roles c.requires.guest c.requires.host

pub returns : goal.returns
returns c = runs_pair c.args.pair.now.value.guest c.args.pair.now.value.host c.args.guest c.args.host _ (record {
  pair = c.requires.pair.pair;
  guest_leaves = c.requires.guest;
  host_leaves = c.requires.host;
  run = c.finish.ensures.run;
  guest_lists = c.finish.ensures.guest;
  host_lists = c.finish.ensures.host;
  fronts = c.finish.ensures.fronts;
  pasts = c.finish.ensures.pasts;
  guest_items = c.finish.ensures.guest_items;
  host_items = c.finish.ensures.host_items;
  item_fronts = c.finish.ensures.item_fronts;
  guest_seat = c.of_device.ensures;
  host_seat = c.of_device-2.ensures;
  guest_ended = refl;
  host_ended = refl;
  serials = c.either.ensures;
  replies = c.either-2.ensures;
})
