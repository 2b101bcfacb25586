use Rattle.std.proofs.Common.{◌∙◌}
use Rattle.test_pages.proofs.lean_page_tests.lean.Goals as goal

pub make-requires-clause-told : goal.make-requires-clause-told
make-requires-clause-told g c = λ u h. c.into_parts-seat.ensures.told u h ∙ c.requires
