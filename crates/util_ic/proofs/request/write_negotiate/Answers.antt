use Rattle.std.proofs.Common.{◌-◌, [], length, arith}
use Rattle.util_ic.specs.Messages.{request_rows, offer_content}
use Rattle.util_ic.proofs.ByteLaws.{content_written}
use Rattle.util_ic.proofs.request.write_negotiate.Goals as goal

pub returns : goal.returns
returns c =
    let message = c.write_headers.new.message in
    content_written (request_rows 0 0 24 []) offer_content message c.put_offer.new.content 28 (length message - 28) (omega arith) c.write_headers.ensures c.put_offer.ensures
