use Rattle.std.proofs.Common.{◌≤◌, length, rules}
use Rattle.pkt_desc.specs.Ranges.{range_count}
use Rattle.pkt_desc.proofs.RangeLaws.{one_word, one_range}
use Rattle.pkt_desc.proofs.lend.span_lent.Goals as goal

pub bounds-words-3 : goal.bounds-words-3
bounds-words-3 c =
    let p = c.args.words.now in
    let long : 4 ≤ length p = one_word p (range_count p) (search rules) c.requires.fit in
    search rules

pub bounds-words-4 : goal.bounds-words-4
bounds-words-4 c =
    let p = c.args.words.now in
    let long : 5 ≤ length p = one_range p (range_count p) (search rules) (search rules) c.requires.fit in
    search rules
