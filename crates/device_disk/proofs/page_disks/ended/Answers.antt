use Rattle.std.proofs.Common.{sym, ap, ◌∙◌}
use Rattle.device_packets.specs.Packets.{is_completion}
use Rattle.device_packets.specs.Said.{has_vstor, vstor_of}
use Rattle.device_disk.proofs.PageHeadLaws.{result_is, result_other, result_none, result_bare, ended_came, kind_done}
use Rattle.device_disk.proofs.page_disks.ended.Goals as goal

pub returns-then-not-is_completion : goal.returns-then-not-is_completion
returns-then-not-is_completion c i is = result_none i (ap is_completion is ∙ (sym c.is_completion.ensures.value ∙ c.if-not-is_completion.true))

pub returns-in_default : goal.returns-in_default
returns-in_default c i is = result_bare i (ap has_vstor is ∙ c.in_default.ensures)

pub returns-then-v-eq1 : goal.returns-then-v-eq1
returns-then-v-eq1 c =
    let seen = c.in-Some.ensures in
    let done = sym c.is_completion.ensures.value ∙ c.if-not-is_completion.false in (
      seen.1,
      ended_came c.args.packet.now c.in-Some.v seen.0 seen.1,
      (λ i is. result_is i c.in-Some.v (ap is_completion is ∙ done) (ap has_vstor is ∙ seen.0) (seen.1 ∙ sym (ap vstor_of is)) c.if-v-eq1.true),
      kind_done c.args.packet.now done,
    )

pub returns-else-v-eq1 : goal.returns-else-v-eq1
returns-else-v-eq1 c i is =
    let seen = c.in-Some.ensures in
    result_other i c.in-Some.v (ap is_completion is ∙ (sym c.is_completion.ensures.value ∙ c.if-not-is_completion.false)) (ap has_vstor is ∙ seen.0) (seen.1 ∙ sym (ap vstor_of is)) c.if-v-eq1.false
