use Rattle.std.proofs.Common.{refl, sym, ap, subst, ◌∙◌}
use Rattle.stor_proto.specs.Packets.{IsAllowed}
use Rattle.disk_format.specs.PageDisks.{silent_answer}
use Rattle.device_disk.proofs.PageHeadLaws.{fixed_other, fixed_srb, fixed_not}
use Rattle.device_disk.proofs.page_disks.fixed.Goals as goal

pub start_answer-requires : goal.start_answer-requires
start_answer-requires c = subst IsAllowed (sym c.answer.ensures) (refl, λ other. absurd (other refl))

pub returns-then-v-ne3 : goal.returns-then-v-ne3
returns-then-v-ne3 c =
    fixed_other c.args.v.now c.args.lacks c.args.room c.start_answer.result c.if-v-ne3.true c.start_answer.ensures.allowed (c.start_answer.ensures.value ∙ ap silent_answer c.answer.ensures)

pub returns-in-Some : goal.returns-in-Some
returns-in-Some c = fixed_srb c.args.v.now c.args.lacks c.args.room c.srb_stop.result c.in-Some.status c.in-Some.ensures c.srb_stop.ensures

pub returns-in-None : goal.returns-in-None
returns-in-None c = fixed_not c.args.v.now c.args.lacks c.args.room c.in-None.ensures
