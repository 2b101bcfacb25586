use Rattle.std.proofs.Common.{◌≡◌, ◌∙◌, sym, arith, Some}
use Rattle.page_call_plan.specs.Ids.{room_for}
use Rattle.page_call_plan.proofs.Requests.{is_room}
use Rattle.page_call_plan.proofs.ids.add_id.Goals as goal

pub overflow_add-slots : goal.overflow_add-slots
overflow_add-slots c =
    let e : room_for c.args.tid c.args.slots.now ≡ Some c.in-Some.i = sym c.room_for.ensures ∙ c.in-Some.is in
    omega (arith, (is_room c.args.tid c.in-Some.i c.args.slots.now e).small)
