use Rattle.std.proofs.Common.{◌∙◌, Some, sym, ap}
use Rattle.ring_machine.specs.declared.place.Op.{Op}
use Rattle.ring_machine.specs.declared.place.Op.TheVariants.{Load, Store, Raise, TakeSignal, StoreMark}
use Rattle.hostile_memory.proofs.Allowed.{calls}
use Rattle.hostile_memory.proofs.open_seat.perform_as.Goals as goal

pub load-requires : goal.load-requires
load-requires g c =
    let step = c.in-Some-Load.is ∙ ap (λ (o : Op). Some o) c.in-Some-Load.field-0-is in
    calls _ _ _ _ _ c.args.core.now.pages c.args.core.now.machine c.args.packet.now (Load c.in-Some-Load.place) c.place_index.result c.requires.seated c.requires.sized c.requires.pages c.requires.empty c.requires.busy c.requires.base c.args.core.now.sound c.args.core.now.fit (λ b. sym (c.next.ensures.rings b) ∙ step) (sym c.next.ensures.whole ∙ step) c.place_index.ensures

pub store-requires : goal.store-requires
store-requires g c =
    let step = c.in-Some-Store.is ∙ ap (λ (o : Op). Some o) c.in-Some-Store.field-0-is in
    calls _ _ _ _ _ c.args.core.now.pages c.args.core.now.machine c.args.packet.now (Store c.in-Some-Store.place c.in-Some-Store.v) c.place_index-in-Some-Store.result c.requires.seated c.requires.sized c.requires.pages c.requires.empty c.requires.busy c.requires.base c.args.core.now.sound c.args.core.now.fit (λ b. sym (c.next.ensures.rings b) ∙ step) (sym c.next.ensures.whole ∙ step) c.place_index-in-Some-Store.ensures

pub store-requires-in-Some-Raise : goal.store-requires-in-Some-Raise
store-requires-in-Some-Raise g c =
    let step = c.in-Some-Raise.is ∙ ap (λ (o : Op). Some o) c.in-Some-Raise.field-0-is in
    calls _ _ _ _ _ c.args.core.now.pages c.args.core.now.machine c.args.packet.now (Raise c.in-Some-Raise.side) c.signal_index.result c.requires.seated c.requires.sized c.requires.pages c.requires.empty c.requires.busy c.requires.base c.args.core.now.sound c.args.core.now.fit (λ b. sym (c.next.ensures.rings b) ∙ step) (sym c.next.ensures.whole ∙ step) c.signal_index.ensures

pub swap-requires : goal.swap-requires
swap-requires g c =
    let step = c.in-Some-TakeSignal.is ∙ ap (λ (o : Op). Some o) c.in-Some-TakeSignal.field-0-is in
    calls _ _ _ _ _ c.args.core.now.pages c.args.core.now.machine c.args.packet.now (TakeSignal c.in-Some-TakeSignal.side) c.signal_index-in-Some-TakeSignal.result c.requires.seated c.requires.sized c.requires.pages c.requires.empty c.requires.busy c.requires.base c.args.core.now.sound c.args.core.now.fit (λ b. sym (c.next.ensures.rings b) ∙ step) (sym c.next.ensures.whole ∙ step) c.signal_index-in-Some-TakeSignal.ensures

pub store-requires-in-Some-StoreMark : goal.store-requires-in-Some-StoreMark
store-requires-in-Some-StoreMark g c =
    let step = c.in-Some-StoreMark.is ∙ ap (λ (o : Op). Some o) c.in-Some-StoreMark.field-0-is in
    calls _ _ _ _ _ c.args.core.now.pages c.args.core.now.machine c.args.packet.now (StoreMark c.in-Some-StoreMark.side) c.mark_index.result c.requires.seated c.requires.sized c.requires.pages c.requires.empty c.requires.busy c.requires.base c.args.core.now.sound c.args.core.now.fit (λ b. sym (c.next.ensures.rings b) ∙ step) (sym c.next.ensures.whole ∙ step) c.mark_index.ensures
