use Rattle.example_control.proofs.Taking.{took}
use Rattle.example_control.proofs.message_bytes.host_takes.Goals as goal

pub returns-in-Ok-feed-clause-taken : goal.returns-in-Ok-feed-clause-taken
returns-in-Ok-feed-clause-taken c =
    let t = took c.args.control.now c.feed.new.self c.in-Ok.message c.args.post.now c.feed.new.post _ c.in-Ok-feed.ensures in
    (c.in-Ok.message, t.0, c.in-Ok.ensures.found, t.1, t.2)
