use Rattle.std.proofs.Common.{◌-◌, [], length, arith}
use Rattle.util_ic.specs.Messages.{request_rows, down_content}
use Rattle.util_ic.proofs.ByteLaws.{content_written}
use Rattle.util_ic.proofs.request.write_down.Goals as goal

pub returns : goal.returns
returns c =
    let message = c.write_headers.new.message in
    content_written (request_rows 3 3 2060 []) (down_content c.args.reason c.args.timeout c.args.flags) message c.put_down.new.content 28 (length message - 28) (omega arith) c.write_headers.ensures c.put_down.ensures
