use Rattle.std.proofs.Common.{◌≡◌, ◌+◌, ◌≤◌, ◌∙◌, refl, ap, sym, subst, arith, length, slice_set, replicate, []}
use Rattle.std.specs.Vec.Iter.{into_iter_items}
use Rattle.std.proofs.lemmas.List.{length-map}
use Rattle.bus_run.specs.Due.{due_of}
use Rattle.bus_run.specs.Opening.{order_at}
use Rattle.bus_run.specs.declared.due.Due.{Due}
use Rattle.bus_run.proofs.Closed.{ClosedNow, closed_start, due_at, due_is, here_within, next, closed_more, closed_end}
use Rattle.bus_run.proofs.OpenedAs.{left_start, left_more, left_end}
use Rattle.bus_run.proofs.closing.close_all.Goals as goal

pub loop-due-init : goal.loop-due-init
loop-due-init c = (
  λ old given all.
      let count : c.len.result ≡ length c.args.boxes.now.items = omega (arith, c.len.ensures, c.args.boxes.now.ok.0) in
      subst (λ ds. ClosedNow c.args.phase 0 old given c.args.boxes.now.items c.args.boxes.now.items ds c.args.settled.now.items c.args.settled.now.items c.in_ok-outcomes.outcomes) (sym c.into_iter-dones.ensures.rest)
      (closed_start c.args.phase c.args.dues.now old given c.args.boxes.now.items c.args.done.items c.args.settled.now.items c.in_ok-outcomes.outcomes all (c.in_ok-outcomes.ensures ∙ ap (λ n. replicate n []) count)),
  left_start c.args.settled.now.items c.args.done.items _ c.into_iter-dones.ensures.rest,
)

pub index_mut-requires : goal.index_mut-requires
index_mut-requires c =
    let w = c.requires in
    let now = c.loop-due.invariant.0 w.0 w.1 w.2 in
    let low = (here_within c.args.phase c.args.dues.now c.loop-due.due-index w.0 w.1 c.args.boxes.now.items c.loop-due.boxes.items (due_at c.args.dues.now c.loop-due.due-index) c.args.done.items (into_iter_items c.loop-due.dones) c.args.settled.now.items c.loop-due.settled.items c.loop-due.outcomes w.2 now c.loop-due-test.true (due_is c.args.dues.now c.loop-due.due-index c.loop-due-test.true)).0 in
    omega (arith, low, c.loop-due.boxes.ok.0)

pub push-requires : goal.push-requires
push-requires c =
    let w = c.requires in
    let now = c.loop-due.invariant.0 w.0 w.1 w.2 in
    (here_within c.args.phase c.args.dues.now c.loop-due.due-index w.0 w.1 c.args.boxes.now.items c.loop-due.boxes.items (due_at c.args.dues.now c.loop-due.due-index) c.args.done.items (into_iter_items c.loop-due.dones) c.args.settled.now.items c.loop-due.settled.items c.loop-due.outcomes w.2 now c.loop-due-test.true (due_is c.args.dues.now c.loop-due.due-index c.loop-due-test.true)).1

pub close_channel-requires : goal.close_channel-requires
close_channel-requires c =
    let w = c.requires in
    let now = c.loop-due.invariant.0 w.0 w.1 w.2 in
    let x = (due_at c.args.dues.now c.loop-due.due-index) in
    let n = next c.args.phase c.args.dues.now c.loop-due.due-index w.0 w.1 c.args.boxes.now.items c.loop-due.boxes.items c.index_mut.result.now x c.args.done.items (into_iter_items c.loop-due.dones) c.args.settled.now.items c.loop-due.settled.items c.loop-due.outcomes w.2 now c.loop-due-test.true (due_is c.args.dues.now c.loop-due.due-index c.loop-due-test.true) c.index_mut.ensures.value in
    (order_at w.0 n.next.item.order, n.next.item.seat, n.done, n.rest, ap (λ (d : Due). d.count) n.due_is, n.kind, n.dones_are, n.ran)

pub loop-due-preserved : goal.loop-due-preserved
loop-due-preserved c = (
  λ old given all.
      let now = c.loop-due.invariant.0 old given all in
      let x = (due_at c.args.dues.now c.loop-due.due-index) in
      let own = c.index_mut.result.now in
      let n = next c.args.phase c.args.dues.now c.loop-due.due-index old given c.args.boxes.now.items c.loop-due.boxes.items own x c.args.done.items (into_iter_items c.loop-due.dones) c.args.settled.now.items c.loop-due.settled.items c.loop-due.outcomes all now c.loop-due-test.true (due_is c.args.dues.now c.loop-due.due-index c.loop-due-test.true) c.index_mut.ensures.value in
      let closed = c.in_ok-channel.ensures.closed (order_at old n.next.item.order) n.next.item.seat n.done n.rest (ap (λ (d : Due). d.count) n.due_is) n.dones_are n.ran in
      let rest = c.in_ok-channel.ensures.rest n.done n.rest n.dones_are in
      subst (ClosedNow c.args.phase (c.loop-due.due-index + 1) old given c.args.boxes.now.items (slice_set c.loop-due.boxes.items x.opening.device c.close_channel.new.own) (into_iter_items c.close_channel.new.dones) c.args.settled.now.items c.close_channel.new.settled.items) (sym c.in_ok-push.ensures)
      (closed_more c.args.phase c.loop-due.due-index old given c.args.boxes.now.items c.loop-due.boxes.items own c.close_channel.new.own x (into_iter_items c.loop-due.dones) (into_iter_items c.close_channel.new.dones) c.args.settled.now.items c.loop-due.settled.items c.close_channel.new.settled.items c.loop-due.outcomes
      c.in_ok-channel.channel now n rest closed),
  let w = c.requires in
      let x = (due_at c.args.dues.now c.loop-due.due-index) in
      let n = next c.args.phase c.args.dues.now c.loop-due.due-index w.0 w.1 c.args.boxes.now.items c.loop-due.boxes.items c.index_mut.result.now x c.args.done.items (into_iter_items c.loop-due.dones) c.args.settled.now.items c.loop-due.settled.items c.loop-due.outcomes w.2 (c.loop-due.invariant.0 w.0 w.1 w.2) c.loop-due-test.true (due_is c.args.dues.now c.loop-due.due-index c.loop-due-test.true) c.index_mut.ensures.value in
      left_more c.args.settled.now.items c.loop-due.settled.items c.close_channel.new.settled.items c.args.done.items (into_iter_items c.loop-due.dones) n.rest (into_iter_items c.close_channel.new.dones) n.done _ c.loop-due.invariant.1 n.dones_are
      (c.in_ok-channel.ensures.rest n.done n.rest n.dones_are) (c.in_ok-channel.ensures.carried n.done n.rest n.dones_are) refl,
)

pub returns-clause-closed : goal.returns-clause-closed
returns-clause-closed c old given all =
    let over : length given ≤ c.loop-due.due-index = omega (arith, c.loop-due-test.false, length-map given (λ g. due_of g.order), ap length all.planned) in
    closed_end c.args.phase c.loop-due.due-index old given c.args.boxes.now.items c.loop-due.boxes.items (into_iter_items c.loop-due.dones) c.args.settled.now.items c.loop-due.settled.items c.loop-due.outcomes (c.loop-due.invariant.0 old given all) over

pub returns-clause-left : goal.returns-clause-left
returns-clause-left c =
    let w = c.requires in
    let over : length w.1 ≤ c.loop-due.due-index = omega (arith, c.loop-due-test.false, length-map w.1 (λ g. due_of g.order), ap length w.2.planned) in
    left_end c.args.settled.now.items c.loop-due.settled.items c.args.done.items (into_iter_items c.loop-due.dones) w.0 w.1 c.loop-due.due-index c.loop-due.invariant.1 over (c.loop-due.invariant.0 w.0 w.1 w.2).left
