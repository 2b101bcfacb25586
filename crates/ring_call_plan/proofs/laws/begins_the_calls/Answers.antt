use Rattle.ring_call_plan.proofs.PlanLaws.{begins_send, begins_take, begins_commit, begins_arm, begins_poll, begins_mark}
use Rattle.ring_call_plan.proofs.laws.begins_the_calls.Goals as goal

pub returns : goal.returns
returns c = record {
  send = λ e s p v h r. begins_send e s h r p v;
  take = λ e s v h r. begins_take e s h r v;
  commit = λ e s h r. begins_commit e s h r;
  arm = λ e s want h r. begins_arm e s h r want;
  poll = λ e s v h r. begins_poll e s h r v;
  mark = λ e s h r. begins_mark e s h r;
}
