use Rattle.std.proofs.Common.{◌≡◌, ◌+◌, ◌≤◌, length, ap, ◌∙◌, arith}
use Rattle.kvp_ic.specs.declared.text.TextPlace.{TextPlace}
use Rattle.kvp_ic.specs.Messages.{operation_of, record_at, key_place, value_place}
use Rattle.kvp_ic.proofs.ReplyLaws.{part_fits, some_other, answer_back, refusal_back}
use Rattle.kvp_ic.proofs.answers.answer.Goals as goal

pub put_part-requires : goal.put_part-requires
put_part-requires c =
    let b = c.args.request.now in
    let is = c.value_place.ensures ∙ ap value_place c.operation_in-operation.ensures in
    let at : c.value_place.result.at ≡ record_at (operation_of b) + 524 = ap (λ (p : TextPlace). p.at) is in
    let size : c.value_place.result.size_at ≡ record_at (operation_of b) + 8 = ap (λ (p : TextPlace). p.size_at) is in
    let len : length c.finish.new.message ≡ length b = c.finish.auto.message ∙ ap length c.copy_from_slice.ensures.after in (
      omega arith,
      (
        omega (arith, at, size),
        (
          some_other {P = λ _. record_at (operation_of b) + 2572 ≤ length b} {Q = λ _. c.value_place.result.at + 2048 ≤ length c.finish.new.message} c.args.r.now.value (λ us le. omega (arith, le, at, len)) (part_fits c.args.r.now.value b c.requires.carried.value),
          (omega arith, omega arith),
        ),
      ),
    )

pub put_part-requires-2 : goal.put_part-requires-2
put_part-requires-2 c =
    let b = c.args.request.now in
    let is = c.key_place.ensures ∙ ap key_place c.operation_in-operation.ensures in
    let at : c.key_place.result.at ≡ record_at (operation_of b) + 12 = ap (λ (p : TextPlace). p.at) is in
    let size : c.key_place.result.size_at ≡ record_at (operation_of b) + 4 = ap (λ (p : TextPlace). p.size_at) is in
    let len : length c.put_part.new.message ≡ length b = c.put_part.auto.message ∙ (c.finish.auto.message ∙ ap length c.copy_from_slice.ensures.after) in (
      omega arith,
      (
        omega (arith, at, size),
        (
          some_other {P = λ _. record_at (operation_of b) + 2572 ≤ length b} {Q = λ _. c.key_place.result.at + 512 ≤ length c.put_part.new.message} c.args.r.now.key (λ us le. omega (arith, le, at, len)) (part_fits c.args.r.now.key b c.requires.carried.key),
          (omega arith, omega arith),
        ),
      ),
    )

pub returns-clause-read_back : goal.returns-clause-read_back
returns-clause-read_back c m more asks reply =
    let b = c.args.request.now in
    let r = c.args.r.now in
    answer_back m b more r c.requires.long (omega arith) (c.put_part-2.ensures.text, c.put_part.ensures.text, part_fits r.key b c.requires.carried.key, part_fits r.value b c.requires.carried.value) asks reply

pub returns-clause-refusal : goal.returns-clause-refusal
returns-clause-refusal c more some =
    let b = c.args.request.now in
    let r = c.args.r.now in
    refusal_back b more r c.requires.long (omega arith) (c.put_part-2.ensures.text, c.put_part.ensures.text, part_fits r.key b c.requires.carried.key, part_fits r.value b c.requires.carried.value) some
