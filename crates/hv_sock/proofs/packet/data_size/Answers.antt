use Rattle.std.proofs.Common.{◌<◌, ◌*◌, ◌/◌, ◌%◌, ◌^◌, false, true, length, get_or, sym, ◌∙◌, arith, rules}
use Rattle.hv_sock.proofs.PacketLaws.{another_kind, size_of_words, sized, words_fault}
use Rattle.hv_sock.proofs.packet.data_size.Goals as goal

pub returns-then-kind-ne-DATA : goal.returns-then-kind-ne-DATA
returns-then-kind-ne-DATA c =
    let ws = c.args.payload.now in
    let v = get_or ws 0 0 in
    let some : 0 < length ws = search rules in
    let word : v < 2 ^ 64 = omega (arith, c.type_inv.payload 0) in
    words_fault ws some word ∙ another_kind (v % 2 ^ 32) (v / 2 ^ 32) (8 * length ws) (λ e. omega (arith, e))

pub returns-then-not-is_size : goal.returns-then-not-is_size
returns-then-not-is_size c =
    let ws = c.args.payload.now in
    let v = get_or ws 0 0 in
    let some : 0 < length ws = search rules in
    let word : v < 2 ^ 64 = omega (arith, c.type_inv.payload 0) in
    words_fault ws some word ∙ sized (v % 2 ^ 32) (v / 2 ^ 32) (8 * length ws) false (omega arith) (sym c.is_size.ensures ∙ c.if-not-is_size.true)

pub returns : goal.returns
returns c =
    let ws = c.args.payload.now in
    let v = get_or ws 0 0 in
    let some : 0 < length ws = search rules in
    let word : v < 2 ^ 64 = omega (arith, c.type_inv.payload 0) in (
      words_fault ws some word ∙ sized (v % 2 ^ 32) (v / 2 ^ 32) (8 * length ws) true (omega arith) (sym c.is_size.ensures ∙ c.if-not-is_size.false),
      sym (size_of_words ws some word),
    )
