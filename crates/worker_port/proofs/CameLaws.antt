-- An end came from a new one by whole calls alone.
use Rattle.std.proofs.Common.{◌≡◌, ℕ, List, Option, Some, None, refl, sym, ap, ◌∙◌, subst}
use Rattle.page_kept.specs.Layouts.{Loan}
use Rattle.page_kept.specs.declared.due.Due.{Due}
use Rattle.page_kept.specs.declared.due.Due.TheVariants.{Clear, Loads as DueLoads}
use Rattle.ring_machine.specs.declared.machine.Stage.TheVariants.{Idle}
use Rattle.ring_machine.specs.declared.state.EndState.{EndState}
use Rattle.ring_core.specs.declared.told.Told.{Told}
use Rattle.ring_core.specs.Laying.{RanStores}
use Rattle.ring_core.specs.Loading.{Loads}
use Rattle.ring_core.specs.Seen.{Seen}
use Rattle.ring_core.specs.Told.{Tale}
use Rattle.ring_end_history.specs.Calls.{Came}
use Rattle.ring_end_history.proofs.Joining.{came_loads, came_refl, came_same, came_stores, came_trans}
use Rattle.worker_port.specs.Line.{CameNew, IsLine, IsPort, paged_end}

module _ {S : Type 0} (tale : S → Tale) where
  pub came_new : (e : Seen S) → e.state ≡ paged_end e.state.pages.count e.state.machine.cells e.state.machine.side → CameNew tale e
  came_new e fresh = record { first = e; new = fresh; came = came_refl tale e }

  pub came_on : (old new : Seen S) → CameNew tale old → Came tale old new → CameNew tale new
  came_on old new h came = record { first = h.first; new = h.new; came = came_trans tale h.first old new h.came came }

  module _ (told : S → Option Told) (old new : Seen S) (idle : old.state.machine.stage ≡ Idle) where
    -- a load of what is due, if something is
    pub loads_came : (same : S → S → Type 0) → Loads S told tale same old new → Came tale old new
    loads_came same loads = by old.state.pages.due refl
      where
        by : (d : Due) → old.state.pages.due ≡ d → Came tale old new
        by Clear e = subst (Came tale old) (sym (loads.none e)) (came_refl tale old)
        by (DueLoads q n j) e = let all = loads.all q n j e in came_loads tale told q n old new idle (e ∙ ap (DueLoads q n) all.0) all.2.ran

    -- stores of page words, if there is a part of a page for them
    pub lays_came : (o : Option Loan) (words : List ℕ) → (o ≡ None → new ≡ old) → ((a : Loan) → o ≡ Some a → RanStores old.state new.state a.page words (told old.seat) (told new.seat) (tale old.seat) (tale new.seat)) → Came tale old new
    lays_came None words none ran = subst (Came tale old) (sym (none refl)) (came_refl tale old)
    lays_came (Some a) words none ran = came_stores tale told a.page words old new idle (ran a refl)

  -- room that is made is no call
  pub reserved : (told : S → Option Told) (old new : Seen S) → new.state ≡ old.state → new.seat ≡ old.seat → IsPort told tale old → IsPort told tale new
  reserved told old new state seat h = record {
    line = subst (λ (z : EndState × S). IsLine told (record { state = z.0; seat = z.1; spare_sent = new.spare_sent; spare_got = new.spare_got })) (λ i. (sym state i, sym seat i))
        (record { rests = h.line.rests; dozes = h.line.dozes; honest = h.line.honest; sent = h.line.sent; got = h.line.got; packets = h.line.packets; committed = h.line.committed; mark = h.line.mark; size = h.line.size; pages = h.line.pages });
    came = came_on old new h.came (came_same tale old new state seat);
  }
