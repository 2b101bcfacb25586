use Rattle.std.proofs.Common.{◌≡◌, ℕ, List}
use Rattle.channel_trace.specs.declared.event.Event.{Event}
use Rattle.page_table.specs.Table.{Table}
use Rattle.ring_core.specs.Pages.{Paged, resting_in}
use Rattle.ring_core.specs.PageWords.{TellsAs}
use Rattle.ring_machine.specs.declared.end_core.EndCore.{EndCore}
use Rattle.ring_core.proofs.Loading.{LoadedSome, core_at}
use Rattle.ring_core.proofs.page_words.load_words.Given as goal

-- fast : the copy of the machine, which has loaded j of the n words of page q
abbrev pub IsAt : (g : goal.Over) → g.row.S.Denot → g.row.S.Denot → EndCore → EndCore → EndCore → Table → Table → ℕ → ℕ → ℕ → Type 0
IsAt g from seat core core' fast table table' q n j =
    record {
      loaded : (sent got : Paged) (past : List (Event (List ℕ))) → TellsAs (g.S.Seatlike.told from) (resting_in core.machine core.pages sent got past table)
          → LoadedSome (resting_in core.machine core.pages sent got past table) core.pages sent got table q n j table'.copy (g.S.Seatlike.told from) (g.S.Seatlike.told seat) (g.S.Seatlike.tale from) (g.S.Seatlike.tale seat);
      machine : fast.machine ≡ core.machine;
      pages : fast.pages ≡ core_at core.pages q n j;
      same : g.S.Seatlike.same from seat;
      cells : g.S.Seatlike.cells seat ≡ core.machine.cells;
      core : core' ≡ core;
      owners : table'.owners ≡ table.owners;
      counts : table'.counts ≡ table.counts;
    }

abbrev pub invariant-loop-word : goal.invariant-loop-word
invariant-loop-word g l = IsAt g l.fn.seat l.seat l.fn.core l.core l.fast l.fn.table l.table l.page l.words l.word
