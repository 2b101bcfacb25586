use Rattle.std.proofs.Common.{◌*◌, ap, take, sym, arith}
use Rattle.std.proofs.lemmas.List.{drop_all}
use Rattle.vm_page.specs.Words.{number_of}
use Rattle.vm_page.proofs.words.word_of.Goals as goal

pub returns-then-i-whole-2 : goal.returns-then-i-whole-2
unfolding number_of
returns-then-i-whole-2 c = sym (ap (λ l. number_of (take 8 l)) (drop_all (8 * c.args.i) c.args.bytes.now (omega arith)))
