use Rattle.std.proofs.Common.{sym, ◌∙◌}
use Rattle.stor_proto.specs.Srbs.{cdb_in}
use Rattle.disk_format.proofs.DoneLaws.{cdb_read}
use Rattle.device_disk.proofs.PageHeadLaws.{stops_lacking, stops_unread, stops_short, asks_with_room}
use Rattle.device_disk.proofs.page_disks.stopped.Goals as goal

pub returns-then-lacks : goal.returns-then-lacks
returns-then-lacks c = stops_lacking c.args.v.now c.args.lacks c.args.room c.requires.srb c.if-lacks.true

pub returns-in-Some : goal.returns-in-Some
returns-in-Some c = stops_unread c.args.v.now c.args.lacks c.args.room c.in-Some.stop c.requires.srb c.if-lacks.false c.in-Some.ensures

pub returns-then-has_room : goal.returns-then-has_room
returns-then-has_room c =
    let v = c.args.v.now in
    asks_with_room v c.args.lacks c.args.room (cdb_in v) c.requires.srb c.if-lacks.false c.in_default.ensures (cdb_read v) (sym c.has_room.ensures.value ∙ c.if-has_room.true) c.requires.page

pub returns-else-has_room : goal.returns-else-has_room
returns-else-has_room c =
    let v = c.args.v.now in
    stops_short v c.args.lacks c.args.room (cdb_in v) c.requires.srb c.if-lacks.false c.in_default.ensures (cdb_read v) (sym c.has_room.ensures.value ∙ c.if-has_room.false) c.requires.page
