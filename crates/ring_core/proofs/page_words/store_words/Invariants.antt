use Rattle.std.proofs.Common.{◌≡◌, ℕ, List, take}
use Rattle.channel_trace.specs.declared.event.Event.{Event}
use Rattle.page_table.specs.Table.{Table}
use Rattle.ring_core.specs.Laying.{RanStores}
use Rattle.ring_core.specs.Pages.{Paged, resting_in}
use Rattle.ring_core.specs.PageWords.{TellsAs}
use Rattle.ring_machine.specs.declared.end_core.EndCore.{EndCore}
use Rattle.ring_core.proofs.Laying.{stored_in}
use Rattle.ring_core.proofs.page_words.store_words.Given as goal

-- fast : the copy of the machine; the first j words are stored
abbrev pub IsAt : (g : goal.Over) → g.row.S.Denot → g.row.S.Denot → EndCore → EndCore → Table → Table → ℕ → List ℕ → ℕ → Type 0
IsAt g from seat core fast table table' q words j =
    record {
      ran : (sent got : Paged) (past : List (Event (List ℕ))) → TellsAs (g.S.Seatlike.told from) (resting_in core.machine core.pages sent got past table)
          → RanStores (resting_in core.machine core.pages sent got past table) (resting_in core.machine core.pages sent got past (stored_in core.machine core.pages sent got past table q (take j words))) q (take j words)
          (g.S.Seatlike.told from) (g.S.Seatlike.told seat) (g.S.Seatlike.tale from) (g.S.Seatlike.tale seat);
      machine : fast.machine ≡ core.machine;
      pages : fast.pages ≡ core.pages;
      same : g.S.Seatlike.same from seat;
      cells : g.S.Seatlike.cells seat ≡ core.machine.cells;
      table : table' ≡ table;
    }

abbrev pub invariant-loop-word : goal.invariant-loop-word
invariant-loop-word g l = IsAt g l.fn.seat l.seat l.core l.fast l.fn.table l.table l.page l.words l.word
