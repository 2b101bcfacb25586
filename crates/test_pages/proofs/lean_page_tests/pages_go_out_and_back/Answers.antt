use Rattle.std.proofs.Common.{◌≡◌, Result, IfOk, subst}
use Rattle.ring_core.specs.declared.Side.TheVariants.{Guest, Host}
use Rattle.ring_seat.specs.Whole.{new_paged}
use Rattle.test_pages.proofs.lean_page_tests.pages_go_out_and_back.Goals as goal

pub lean-guest-requires : goal.lean-guest-requires
lean-guest-requires g c = subst (λ (r : Result _ _). IfOk r (λ p. p.0.state ≡ new_paged 512 2 Guest)) c.expect-guest.ensures c.make.ensures.guest

pub lean-host-requires : goal.lean-host-requires
lean-host-requires g c = subst (λ (r : Result _ _). IfOk r (λ p. p.1.state ≡ new_paged 512 2 Host)) c.expect-guest.ensures c.make.ensures.host
