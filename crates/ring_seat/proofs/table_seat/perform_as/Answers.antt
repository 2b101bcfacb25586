use Rattle.std.proofs.Common.{◌∙◌, Some, ap}
use Rattle.ring_machine.specs.declared.place.Op.{Op}
use Rattle.ring_machine.specs.declared.place.Op.TheVariants.{Load, Store, Raise, TakeSignal, StoreMark}
use Rattle.ring_seat.proofs.Allowed.{calls}
use Rattle.ring_seat.proofs.table_seat.perform_as.Goals as goal

pub load-requires : goal.load-requires
load-requires g c =
    let r = c.requires in
    let k = c.args.core.now in
    calls _ _ _ _ _ _ _ _ _ _ _ _ (Load c.in-Some-Load.place) _ r.seated r.sized r.view r.base k.sound k.fit r.busy r.pages r.goes_on c.next.ensures.rings c.next.ensures.whole (c.in-Some-Load.is ∙ ap (λ (o : Op). Some o) c.in-Some-Load.field-0-is) c.place_index.ensures

pub store-requires : goal.store-requires
store-requires g c =
    let r = c.requires in
    let k = c.args.core.now in
    calls _ _ _ _ _ _ _ _ _ _ _ _ (Store c.in-Some-Store.place c.in-Some-Store.v) _ r.seated r.sized r.view r.base k.sound k.fit r.busy r.pages r.goes_on c.next.ensures.rings c.next.ensures.whole (c.in-Some-Store.is ∙ ap (λ (o : Op). Some o) c.in-Some-Store.field-0-is) c.place_index-in-Some-Store.ensures

pub store-requires-in-Some-Raise : goal.store-requires-in-Some-Raise
store-requires-in-Some-Raise g c =
    let r = c.requires in
    let k = c.args.core.now in
    calls _ _ _ _ _ _ _ _ _ _ _ _ (Raise c.in-Some-Raise.side) _ r.seated r.sized r.view r.base k.sound k.fit r.busy r.pages r.goes_on c.next.ensures.rings c.next.ensures.whole (c.in-Some-Raise.is ∙ ap (λ (o : Op). Some o) c.in-Some-Raise.field-0-is) c.signal_index.ensures

pub swap-requires : goal.swap-requires
swap-requires g c =
    let r = c.requires in
    let k = c.args.core.now in
    calls _ _ _ _ _ _ _ _ _ _ _ _ (TakeSignal c.in-Some-TakeSignal.side) _ r.seated r.sized r.view r.base k.sound k.fit r.busy r.pages r.goes_on c.next.ensures.rings c.next.ensures.whole (c.in-Some-TakeSignal.is ∙ ap (λ (o : Op). Some o) c.in-Some-TakeSignal.field-0-is) c.signal_index-in-Some-TakeSignal.ensures

pub store-requires-in-Some-StoreMark : goal.store-requires-in-Some-StoreMark
store-requires-in-Some-StoreMark g c =
    let r = c.requires in
    let k = c.args.core.now in
    calls _ _ _ _ _ _ _ _ _ _ _ _ (StoreMark c.in-Some-StoreMark.side) _ r.seated r.sized r.view r.base k.sound k.fit r.busy r.pages r.goes_on c.next.ensures.rings c.next.ensures.whole (c.in-Some-StoreMark.is ∙ ap (λ (o : Op). Some o) c.in-Some-StoreMark.field-0-is) c.mark_index.ensures
