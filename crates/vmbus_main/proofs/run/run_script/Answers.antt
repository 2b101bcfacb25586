use Rattle.std.proofs.Common.{◌∙◌, ap, sym}
use Rattle.bus_model.proofs.Counting.{one_each_lem}
use Rattle.vmbus_main.proofs.Parting.{same_on}
use Rattle.vmbus_main.proofs.run.run_script.Goals as goal

pub returns-clause-each : goal.returns-clause-each
returns-clause-each g c =
    one_each_lem c.args.script.now c.in-Ok-end.run'.settled.items c.in-Ok-end.run'.histories.items c.in-Ok-end.run'.results.items
    (c.in-Ok-end.ensures.run c.args.script.now c.in-Ok-run_parts.ensures.ran.1.ran c.in-Ok-run_parts.ensures.all)

pub returns-clause-work : goal.returns-clause-work
returns-clause-work g c = c.in-Ok-end.ensures.work c.args.script.now c.in-Ok-run_parts.ensures.ran.1.ran c.in-Ok-run_parts.ensures.all

pub returns-clause-round : goal.returns-clause-round
returns-clause-round g c =
    let same = same_on _ _ _ c.in-Ok-run_parts.ensures.ran.1.same c.in-Ok-run_parts.ensures.ran.2.same in
    let kept = c.in-Ok-end.ensures.path in
    record {
      to_host = c.end-over.ensures.to_host.queue ∙ (same.to_host ∙ sym (ap (λ p. p.guest_post.queue) kept));
      to_guest = c.end-over.ensures.to_guest.queue ∙ (same.to_guest ∙ sym (ap (λ p. p.host_post.queue) kept));
      host_got = c.end-over.ensures.host_got.0;
      guest_got = c.end-over.ensures.guest_got.0;
    }
