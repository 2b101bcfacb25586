use Rattle.std.proofs.Common.{Some, length, sym, ap, ◌∙◌}
use Rattle.ring_core.specs.Pages.{part_len}
use Rattle.ring_core.proofs.Paging.{part_long}
use Rattle.ring_core.proofs.lean_end.LeanEnd.words_of.Goals as goal

pub returns-in-Some-clause-len : goal.returns-in-Some-clause-len
returns-in-Some-clause-len g c = ap length c.words.ensures ∙ (part_long c.args.self.now.driven.state.pages.copy (Some c.in-Some.part) ∙ ap part_len (sym c.in-Some.is))
