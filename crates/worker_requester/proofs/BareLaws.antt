-- A new end of a channel without data pages, for a protocol whose packets lend none.
use Rattle.std.proofs.Common.{◌≡◌, ℕ, Bool, true, false, sym, ap, ◌∙◌}
use Rattle.io_edge.specs.declared.side.Side.{Side}
use Rattle.ring_core.specs.Seen.{Seen}
use Rattle.worker_port.specs.Line.{new_end, paged_end}
use Rattle.worker_requester.specs.Asking.{FitsPages}

pub fresh_bare : {S : Type 0} (e : Seen S) (n : ℕ) (x : Side) → e.state ≡ new_end n x → e.state ≡ paged_end e.state.pages.count e.state.machine.cells e.state.machine.side
fresh_bare e n x fresh = fresh ∙ (λ i. paged_end (sym fresh i).pages.count (sym fresh i).machine.cells (sym fresh i).machine.side)

pub fits_bare : {S : Type 0} (lends : Bool) (window : ℕ) (e : Seen S) (n : ℕ) (x : Side) → lends ≡ false → e.state ≡ new_end n x → FitsPages lends window e.state
fits_bare lends window e n x none fresh = record {
  bare = λ _. ap (λ s. s.pages.count) fresh;
  enough = λ l. absurd (let bad : true ≡ false = sym l ∙ none in cc);
  guest = λ l. absurd (let bad : true ≡ false = sym l ∙ none in cc);
}
