use Rattle.std.proofs.Common.{◌≡◌, ◌++◌, List, ℕ, Option, None, unwrap_or, nat_eq, rules, ap, sym, ◌∙◌}
use Rattle.std.specs.Map.{lookup}
use Rattle.scsi_disk.specs.DiskModel.{zero_block}
use Rattle.scsi_disk.proofs.store.Store.append_block.Goals as goal

pub returns-in-None-clause-all : goal.returns-in-None-clause-all
returns-in-None-clause-all c =
    let none : lookup (nat_eq c.args.place) c.args.self.now.written ≡ None = search rules in
    let zeros : c.extend-in-None.new.self ≡ c.args.chunk.now ++ zero_block = c.extend-in-None.ensures.value in
    zeros ∙ ap (λ (found : Option (List ℕ)). c.args.chunk.now ++ unwrap_or found zero_block) (sym none)
