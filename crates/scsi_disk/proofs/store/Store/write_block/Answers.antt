use Rattle.std.proofs.Common.{◌≡◌, ◌∙◌, ◌<◌, List, ℕ, Option, None, nat_eq, is_some, is_ok, true, length, sym, ap, subst, cond, arith}
use Rattle.std.specs.Map.{keys_of, lookup}
use Rattle.std.specs.List.{AllByRecursion}
use Rattle.scsi_disk.specs.DiskModel.{most_written}
use Rattle.scsi_disk.specs.Room.{HasRoom, Written}
use Rattle.indexmap.specs.IndexMap.{get, insert_entry}
use Rattle.scsi_disk.proofs.RoomLaws.{has_room, within_more}
use Rattle.scsi_disk.proofs.BlockLaws.{set_value-present}
use Rattle.scsi_disk.proofs.SpaceLaws.{length-insert_entry}
use Rattle.scsi_disk.proofs.store.Store.write_block.Goals as goal

pub unreachable-requires : goal.unreachable-requires
unreachable-requires c =
    let m = c.get_mut.follows.lender-at-none in
    let kept = subst (HasRoom c.self.inside.blocks) (sym c.get_mut.follows.holds-at-none) c.self.invariant in
    let lt : c.args.place < c.self.inside.blocks = omega (arith, c.requires.within, ap (λ x. x.blocks) c.self.view_is) in
    let absent = c.in_default-insert.ensures.absent in
    let put = λ (es : List (ℕ × List ℕ)). insert_entry nat_eq es c.args.place c.args.block.now in
    let same = ap (λ (w : Written). length (put w.entries)) c.get_mut.follows.holds-at-none ∙ ap (λ s. length (put s.written)) c.self.view_is in
    let few : length m.entries < most_written = omega (arith, same, length-insert_entry c.args.place c.args.block.now m.entries absent, c.requires.few) in
    let ok = c.insert.ensures.succeeds (has_room m c.self.inside.blocks c.args.place kept lt few absent) in
    let no = ap is_ok c.in_default-insert.is in
    cc

pub invariant_of-self-2 : goal.invariant_of-self-2
invariant_of-self-2 c =
    let m = c.get_mut.follows.lender-at-none in
    let kept = subst (HasRoom c.self.inside.blocks) (sym c.get_mut.follows.holds-at-none) c.self.invariant in
    let lt : c.args.place < c.self.inside.blocks = omega (arith, c.requires.within, ap (λ x. x.blocks) c.self.view_is) in
    let did = c.in-Ok.ensures in
    record {
      within = subst (λ (es : List (ℕ × List ℕ)). AllByRecursion (λ q. q < c.self.inside.blocks) (keys_of es)) (sym did.entries) (within_more c.self.inside.blocks c.args.place _ m.entries lt kept.within);
      apart = did.unique;
      room =
          let none : c.in-Ok.field-0 ≡ None = did.old ∙ (ap (λ (w : Written). get nat_eq w c.args.place) c.get_mut.follows.holds-at-none ∙ sym c.in_default.ensures.value) in
          let one = ap {B = ℕ} (λ (o : Option (List ℕ)). cond (is_some o) 0 1) none in
          omega (arith, kept.room, did.spare, did.len, one);
    }

pub returns-in-Some-clause-written : goal.returns-in-Some-clause-written
returns-in-Some-clause-written c =
    let es = c.self.inside.written.entries in
    let there : is_some (lookup (nat_eq c.args.place) es) ≡ true = sym (ap is_some c.in-Some.ensures.value) in
    let w = c.copy_from_slice.new.self in
    (c.get_mut.follows.holds w).0 ∙ set_value-present c.args.place w es there
    ∙ (ap (insert_entry nat_eq es c.args.place) c.copy_from_slice.ensures.after ∙ ap (λ s. insert_entry nat_eq s.written c.args.place c.args.block.now) c.self.view_is)
