use Rattle.std.proofs.Common.{◌≡◌, ◌++◌, take, drop, ap, sym, ◌∙◌, rules}
use Rattle.channel_protocol.specs.Paged.{words_lent}
use Rattle.test_workers.specs.Swap.{swap_request}
use Rattle.test_workers.specs.SwapLaws.{swap_lends}
use Rattle.test_workers.proofs.swap.SwapProtocol.encode.Goals as goal

pub returns-clause-lent : goal.returns-clause-lent
returns-clause-lent c = λ lends.
    let is : take 6 (c.copy_from_slice.new.self ++ drop 6 c.args.out.now) ≡ swap_request c.args.id = search rules in
    sym (ap words_lent is ∙ swap_lends c.args.id (c.requires.id lends))
