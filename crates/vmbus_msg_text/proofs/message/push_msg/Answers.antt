use Rattle.std.proofs.Common.{◌≡◌, ℕ, ◌+◌, ◌≤◌, length, ◌==◌, ◌||◌, true, false, subst, sym, arith}
use Rattle.std.proofs.lemmas.Bool.Decides.{nat_tests}
use Rattle.wire_table.specs.Rows.{total}
use Rattle.vmbus_msg.specs.Grammar.{kinds_of}
use Rattle.vmbus_msg_text.proofs.Found.{read_within, plain_told, framed_told}
use Rattle.vmbus_msg_text.proofs.message.push_msg.Goals as goal
use Rattle.vmbus_msg_text.proofs.message.push_msg.Goals.{then-kind-eq8-via-then-kind-eq8, then-kind-eq8-via-else-kind-eq8+then-kind-eq9}

pub get_at-kind-requires-clause-within : goal.get_at-kind-requires-clause-within
get_at-kind-requires-clause-within c = let h = read_within c.args.bytes.now c.args.message.now c.requires in omega (arith, h)

pub push_known-requires : goal.push_known-requires
push_known-requires c =
    subst (λ (k : ℕ). 4 + total (kinds_of k) ≤ length c.args.bytes.now) (sym c.get_at-kind.ensures.value) (read_within c.args.bytes.now c.args.message.now c.requires)

pub returns-in_ok-push_numbers-clause-text : goal.returns-in_ok-push_numbers-clause-text
returns-in_ok-push_numbers-clause-text c =
    let framed : (c.get_at-kind.result == 8 || c.get_at-kind.result == 9) ≡ true = elim c.then-kind-eq8.branch [
      | then-kind-eq8-via-then-kind-eq8 w ↦ let h = w.if-kind-eq8.true in grind (arith, nat_tests, h)
      | then-kind-eq8-via-else-kind-eq8+then-kind-eq9 w ↦ let h = w.if-kind-eq9.true in grind (arith, nat_tests, h)
    ] in
    framed_told c.args.bytes.now c.args.message.now c.get_at-kind.result c.args.text.now.items _ _ _ c.requires c.get_at-kind.ensures.value framed c.in_ok-push_known.ensures.text c.in_ok-push_name.ensures.text
    (rw c.frames_of.ensures.value at c.in_ok-push_numbers.ensures.text)

pub returns-else-kind-eq9-clause-text : goal.returns-else-kind-eq9-clause-text
returns-else-kind-eq9-clause-text c =
    let a = c.if-kind-eq8.false in
    let b = c.if-kind-eq9.false in
    let other : (c.get_at-kind.result == 8 || c.get_at-kind.result == 9) ≡ false = grind (arith, nat_tests, a, b) in
    plain_told c.args.bytes.now c.args.message.now c.get_at-kind.result c.args.text.now.items _ c.requires c.get_at-kind.ensures.value other c.in_ok-push_known.ensures.text
