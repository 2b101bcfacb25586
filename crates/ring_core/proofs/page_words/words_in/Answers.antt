use Rattle.std.proofs.Common.{length, sym, ap, ◌∙◌}
use Rattle.ring_core.specs.Pages.{part_len}
use Rattle.ring_core.proofs.Paging.{values_long}
use Rattle.ring_core.proofs.page_words.words_in.Goals as goal

pub returns-in-Some-clause-len : goal.returns-in-Some-clause-len
returns-in-Some-clause-len c = ap length c.words.ensures ∙ (values_long _ _ ∙ sym (ap part_len c.in-Some.is))
