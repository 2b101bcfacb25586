use Rattle.wire_table.specs.Tables.{at_of, width_of}
use Rattle.stor_proto.proofs.FieldLaws.{put_is}
use Rattle.stor_proto.specs.declared.srb.TheConstants.{SRB}
use Rattle.stor_proto.proofs.srb.put.Goals as goal

pub returns : goal.returns
returns c = put_is c.args.rest.now c.put.new.bytes (at_of SRB.fields c.args.field) (width_of SRB.fields c.args.field) c.args.v (rw c.srb_table.ensures at c.put.ensures.front) (rw c.srb_table.ensures at c.put.ensures.rest)
