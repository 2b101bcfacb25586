use Rattle.std.proofs.Common.{◌≡◌, length, take, refl, sym, ap, subst, ◌∙◌, arith}
use Rattle.util_ic.specs.Answers.{row_of, answer_by, short_answer, HasRoom}
use Rattle.util_ic.proofs.ByteLaws.{front_written}
use Rattle.util_ic.proofs.TableLaws.{short_served}
use Rattle.util_ic.proofs.AnswerLaws.{answered}
use Rattle.util_ic.proofs.PacketLaws.{served_carries}
use Rattle.util_ic.proofs.answer.serve.Goals as goal

pub returns-then-request-lt28-clause-count : goal.returns-then-request-lt28-clause-count
returns-then-request-lt28-clause-count c =
    let w = front_written c.args.reply.now c.short.new.reply short_answer 28 c.requires.room c.short.auto.reply c.short.ensures in
    w.0 ∙ ap length (sym (short_served c.args.kind c.args.request.now c.if-request-lt28.true))

pub returns-then-request-lt28-clause-answer : goal.returns-then-request-lt28-clause-answer
returns-then-request-lt28-clause-answer c =
    let w = front_written c.args.reply.now c.short.new.reply short_answer 28 c.requires.room c.short.auto.reply c.short.ensures in
    w.1 ∙ sym (short_served c.args.kind c.args.request.now c.if-request-lt28.true)

pub returns-then-request-lt28-clause-rest : goal.returns-then-request-lt28-clause-rest
returns-then-request-lt28-clause-rest c =
    let w = front_written c.args.reply.now c.short.new.reply short_answer 28 c.requires.room c.short.auto.reply c.short.ensures in
    w.2

pub returns-clause-asked : goal.returns-clause-asked
returns-clause-asked c ask asked =
    let b = c.args.request.now in
    let kind = c.args.kind in
    let row = c.first_row-row.ensures.row in
    let is : c.answer.new.message ≡ answer_by (row_of kind b) b = c.answer.ensures ∙ (ap (answer_by c.first_row-row.result) c.copy_from_slice.ensures.after ∙ ap (λ r. answer_by r b) row) in
    let size : length c.answer.new.message ≡ length (take (length b) c.args.reply.now) = omega arith in
    let w = front_written c.args.reply.now c.answer.new.message (answer_by (row_of kind b) b) (length b) c.requires.fits size is in
    let room = subst (λ r. HasRoom r (length b)) row c.first_row-row.ensures.room in
    rw w.1 (answered (row_of kind b) kind b ask refl room asked)

pub returns-then-request-lt28-clause-packet : goal.returns-then-request-lt28-clause-packet
returns-then-request-lt28-clause-packet c id few =
    served_carries id c.args.kind c.args.request.now _ 28 (returns-then-request-lt28-clause-answer c) (λ i. omega (arith, c.type_inv.reply i)) few

pub returns-clause-packet : goal.returns-clause-packet
returns-clause-packet c id few =
    let b = c.args.request.now in
    let kind = c.args.kind in
    let row = c.first_row-row.ensures.row in
    let is : c.answer.new.message ≡ answer_by (row_of kind b) b = c.answer.ensures ∙ (ap (answer_by c.first_row-row.result) c.copy_from_slice.ensures.after ∙ ap (λ r. answer_by r b) row) in
    let size : length c.answer.new.message ≡ length (take (length b) c.args.reply.now) = omega arith in
    let w = front_written c.args.reply.now c.answer.new.message (answer_by (row_of kind b) b) (length b) c.requires.fits size is in
    served_carries id kind b _ (length b) w.1 (λ i. omega (arith, c.type_inv.reply i)) few
