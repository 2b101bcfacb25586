use Rattle.std.proofs.Common.{rules, ℕ, ◌<◌, sym, subst}
use Rattle.std.specs.Arc.{arc_value}
use Rattle.hostile_memory.proofs.Allowed.{place_small, scribbles}
use Rattle.hostile_memory.proofs.scribbler.Scribbler.look.Goals as goal

pub load-requires : goal.load-requires
load-requires c =
    let it = c.args.self.now in (
      search rules,
      rw c.deref.ensures (subst (λ (i : ℕ). i < (arc_value it.board).shared.table_id.words) (sym c.place_index-word.ensures) (place_small it.cells it.pages _ c.args.place c.requires.place it.sized)),
      scribbles _ _ _ _ (λ n. n),
    )
