-- Two workers that ended make a run of their channel.
use Rattle.std.proofs.Common.{◌≡◌, ◌≤◌, ℕ, Bool, true, List, length, map, Some, ap, ◌∙◌, arith, subst, inl, inr}
use Rattle.std.specs.Prelude.{◌&&◌, nat_le}
use Rattle.std.specs.List.{AllByRecursion}
use Rattle.std.proofs.lemmas.Bool.Decides.{nat_tests}
use Rattle.std.proofs.lemmas.List.{length-map}
use Rattle.page_kept.specs.declared.item.Item.{Item}
use Rattle.channel_trace.specs.declared.event.Event.{Event}
use Rattle.channel_trace.specs.Runs.{sent_of, got_of}
use Rattle.channel_trace.specs.Laws.{AreOfOneRun}
use Rattle.bus_script.specs.declared.outcome.Reply.{Reply}
use Rattle.device_wire.specs.declared.want.Want.TheVariants.{Request as Script}
use Rattle.device_kinds.specs.Kinds.{DeviceWant as Want}
use Rattle.device_kinds.specs.Kinds.{IsAskable}
use Rattle.device_wire.specs.declared.buffer_lists.BufferLists.{BufferLists}
use Rattle.device_kinds.specs.Formats.{format_of}
use Rattle.device_kinds.proofs.KindLaws.{keeps, start_is_fixed, script_asks}
use Rattle.channel_model.specs.Server.{answered}
use Rattle.channel_model.specs.Channel.{AskerEnds, AskerSettles, IsRequestPlan, ServerEnds, asks_of as channel_asks, count_of, held_of, IsProtocolRun as Runs}
use Rattle.channel_model.proofs.Ends.{joins, settles_in_order}
use Rattle.device_kinds.specs.Served.{Served}
use Rattle.bus_model.specs.Orders.{Order, plan_of}
use Rattle.bus_model.specs.Channel.{replies_to}
use Rattle.bus_threads.specs.Pairs.{LeavesOne}
use Rattle.bus_threads.proofs.Stops.{all_called_for, none_held}

-- the ends of both workers, for what the phase orders
pub record BothEnd (order : Order) (tells : BufferLists) (asker server : List (Event Item)) (calls : List Served) (told : List Reply) : Type 0 where
  pub can : AllByRecursion (IsAskable order.kind) order.asks
  pub one : AreOfOneRun asker server
  pub asker_ends : AskerEnds (format_of order.kind) (plan_of tells order) asker told
  pub server_ends : ServerEnds (format_of order.kind) (plan_of tells order) server calls

plan_is : (order : Order) (tells : BufferLists) → AllByRecursion (IsAskable order.kind) order.asks → IsRequestPlan (format_of order.kind) (plan_of tells order)
plan_is order tells can = record {
  fixed = start_is_fixed order.kind order.sub order.subs tells;
  asks = script_asks order.kind order.asks can;
}

run_of : (order : Order) (tells : BufferLists) (asker server : List (Event Item)) (calls : List Served) (told : List Reply) → BothEnd order tells asker server calls told
    → Runs (format_of order.kind) (plan_of tells order) (sent_of asker) (got_of asker) (sent_of server) (got_of server) calls told
run_of order tells asker server calls told both =
    joins (format_of order.kind) (keeps order.kind) (plan_of tells order) (plan_is order tells both.can) asker server calls told both.one both.asker_ends both.server_ends

-- where the service leaves a request without its answer, the end that asks doesn't settle all
pub never_settles : (order : Order) (tells : BufferLists) (asker server : List (Event Item)) (calls : List Served) (told : List Reply) → BothEnd order tells asker server calls told → (k : ℕ × Bool) → order.stop ≡ Some k → LeavesOne k (length order.asks)
    → AskerSettles (format_of order.kind) (plan_of tells order) asker → ⊥
never_settles order tells asker server calls told both k stop (inl less) settles =
    let s = format_of order.kind in
    let plan = plan_of tells order in
    let run = run_of order tells asker server calls told both in
    let done = settles_in_order s (channel_asks s plan) asker server both.one both.server_ends.order both.asker_ends.encoded in
    let count = length-map {B = Want} order.asks Script in
    let serve = ap (λ o. count_of o (length plan.script)) stop in
    let called = all_called_for s (keeps order.kind) plan asker server calls told told (plan_is order tells both.can) both.asker_ends done settles run in
    omega (arith, called, run.count, serve, count, less)
never_settles order tells asker server calls told both k stop (inr (is, some, most)) settles =
    let s = format_of order.kind in
    let plan = plan_of tells order in
    let run = run_of order tells asker server calls told both in
    let done = settles_in_order s (channel_asks s plan) asker server both.one both.server_ends.order both.asker_ends.encoded in
    let count = length-map {B = Want} order.asks Script in
    let serve = ap (λ o. count_of o (length plan.script)) stop in
    let within : k.0 ≤ length plan.script = omega (arith, most, count) in
    let last : nat_le k.0 (length plan.script) ≡ true = grind (arith, nat_tests, within) in
    let held : held_of plan.stop (length plan.script) ≡ true = ap (λ o. held_of o (length plan.script)) stop ∙ (ap (λ b. b && nat_le k.0 (length plan.script)) is ∙ last) in
    none_held s (keeps order.kind) plan asker server calls told told both.asker_ends done settles run held (omega (arith, serve, some, within))

-- the replies that were read are those of the calls that were answered, in order
pub told_is : (order : Order) (tells : BufferLists) (asker server : List (Event Item)) (calls : List Served) (told : List Reply) → BothEnd order tells asker server calls told → told ≡ map (λ c. c.reply) (replies_to order calls)
told_is order tells asker server calls told both =
    (run_of order tells asker server calls told both).replies ∙ ap (λ m. map (λ (c : Served). c.reply) (answered (format_of order.kind) (held_of order.stop m) (count_of order.stop m) calls)) (length-map {B = Want} order.asks Script)

pub runs : (order : Order) (tells : BufferLists) (asker server : List (Event Item)) (calls : List Served) (told : List Reply) → BothEnd order tells asker server calls told
    → Runs (format_of order.kind) (plan_of tells order) (sent_of asker) (got_of asker) (sent_of server) (got_of server) calls (map (λ c. c.reply) (replies_to order calls))
runs order tells asker server calls told both =
    subst (λ t. Runs (format_of order.kind) (plan_of tells order) (sent_of asker) (got_of asker) (sent_of server) (got_of server) calls t) (told_is order tells asker server calls told both) (run_of order tells asker server calls told both)
