use Rattle.std.proofs.Common.{◌-◌, [], length, arith}
use Rattle.util_ic.specs.Messages.{request_rows, beat_content}
use Rattle.util_ic.proofs.ByteLaws.{content_written}
use Rattle.util_ic.proofs.request.write_beat.Goals as goal

pub returns : goal.returns
returns c =
    let message = c.write_headers.new.message in
    content_written (request_rows 3 1 40 []) (beat_content c.args.seq) message c.put_beat.new.content 28 (length message - 28) (omega arith) c.write_headers.ensures c.put_beat.ensures
