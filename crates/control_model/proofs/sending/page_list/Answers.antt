use Rattle.std.proofs.Common.{ℕ, ◌+◌, ◌*◌, ◌≤◌, ◌∙◌, length, ap, arith, List, Result, IfOk, Ok, Err, Vec, Global}
use Rattle.std.proofs.lemmas.List.FromFn.{length-range_with_len}
use Rattle.vmbus_msg.specs.declared.msg.Msg.{Msg}
use Rattle.gpadl.specs.Cut.{AreMessagesOf}
use Rattle.control_model.proofs.PlanLaws.{messages_few}
use Rattle.control_model.proofs.sending.page_list.Goals as goal

few : {E : Type 0} (relid gpadl : ℕ) (pages : List ℕ) (r : Result (Vec Msg Global) E) → length pages ≤ 54 → IfOk r (λ sent. AreMessagesOf relid gpadl pages sent.items) → IfOk r (λ sent. length sent.items ≤ 2)
few relid gpadl pages (Ok sent) short are = messages_few relid gpadl pages sent.items short are
few relid gpadl pages (Err e) short are = tt

pub to_messages-requires : goal.to_messages-requires
to_messages-requires c =
    let all = c.as_slice.ensures.value ∙ c.in_ok-pages.ensures in
    let count = ap length all ∙ length-range_with_len c.args.o.now.first_page (2 * c.args.o.now.ring_pages + 2) in
    (omega (arith, count), omega (arith, count, c.requires.few_pages))

pub returns-clause-few : goal.returns-clause-few
returns-clause-few c =
    let all = c.as_slice.ensures.value ∙ c.in_ok-pages.ensures in
    let count = ap length all ∙ length-range_with_len c.args.o.now.first_page (2 * c.args.o.now.ring_pages + 2) in
    few c.args.o.now.relid c.args.o.now.gpadl c.as_slice.result.now c.to_messages.result (omega (arith, count, c.requires.few_pages)) c.to_messages.ensures
