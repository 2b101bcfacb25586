use Rattle.std.proofs.Common.{◌≡◌, ℕ, nat_eq, cond, sym, ap, ◌∙◌, ◌+◌, arith}
use Rattle.std.specs.List.{list_any}
use Rattle.std.specs.Map.{keys_of}
use Rattle.std.proofs.lemmas.Map.Made.{is_some-lookup}
use Rattle.scsi_disk.proofs.SpaceLaws.{first_more}
use Rattle.scsi_disk.proofs.store.Store.fresh.Goals as goal
use Rattle.scsi_disk.proofs.store.Store.fresh.Goals.{then-not-contains_key, else-not-contains_key}

pub loop-i-preserved : goal.loop-i-preserved
loop-i-preserved c =
    let ks = keys_of c.args.self.now.written in
    let more = first_more ks c.args.lba c.loop-i.i in
    let here = nat_eq (c.args.lba + c.loop-i.i) in
    let found : list_any here ks ≡ c.contains_key.result =
    sym (ap (λ s. list_any here (keys_of s.written)) c.self.view_is) ∙ sym (is_some-lookup here c.self.inside.written.entries) ∙ sym c.contains_key.ensures in
    elim c.if-not-contains_key.branch [
      | then-not-contains_key w ↦ let one = ap {B = ℕ} (λ b. cond b 0 1) (found ∙ w.if-not-contains_key.true) in record { counted = omega (arith, more, one, c.loop-i.invariant.counted, w.fresh-is); few = omega (arith, c.loop-i.invariant.few, w.fresh-is) }
      | else-not-contains_key w ↦ let none = ap {B = ℕ} (λ b. cond b 0 1) (found ∙ w.if-not-contains_key.false) in record { counted = omega (arith, more, none, c.loop-i.invariant.counted, w.fresh-is); few = omega (arith, c.loop-i.invariant.few, w.fresh-is) }
    ]
