use Rattle.std.proofs.Common.{ℕ, ◌≤◌, ◌∙◌, length, ap, subst, arith, List, Result, IfOk, Ok, Err, Vec, Global}
use Rattle.std.proofs.lemmas.List.FromFn.{length-range_with_len}
use Rattle.vmbus_msg.specs.declared.msg.Msg.{Msg}
use Rattle.gpadl.specs.Cut.{AreMessagesOf}
use Rattle.std.specs.List.{range_with_len}
use Rattle.control_model.specs.Plan.{buffer_list}
use Rattle.control_model.proofs.PlanLaws.{messages_three}
use Rattle.control_model.proofs.sending.buffer_pages.Goals as goal

few : {E : Type 0} (relid gpadl : ℕ) (pages : List ℕ) (r : Result (Vec Msg Global) E) → length pages ≤ 82 → IfOk r (λ sent. AreMessagesOf relid gpadl pages sent.items) → IfOk r (λ sent. length sent.items ≤ 3)
few relid gpadl pages (Ok sent) short are = messages_three relid gpadl pages sent.items short are
few relid gpadl pages (Err e) short are = tt

pub to_messages-requires : goal.to_messages-requires
to_messages-requires c =
    let all = c.as_slice.ensures.value ∙ c.in_ok-pages.ensures in
    let count = ap length all ∙ length-range_with_len c.buffer_begins.result 64 in
    (omega (arith, count), omega (arith, count))

pub returns-clause-few : goal.returns-clause-few
returns-clause-few c =
    let all = c.as_slice.ensures.value ∙ c.in_ok-pages.ensures in
    let count = ap length all ∙ length-range_with_len c.buffer_begins.result 64 in
    few c.args.o.now.relid c.buffer_list.result c.as_slice.result.now c.to_messages.result (omega (arith, count)) c.to_messages.ensures

pub returns-clause-sends : goal.returns-clause-sends
returns-clause-sends c =
    let all = c.as_slice.ensures.value ∙ c.in_ok-pages.ensures ∙ ap (λ (n : ℕ). range_with_len n 64) c.buffer_begins.ensures.begins in
    let named = subst (λ (h : ℕ). IfOk c.to_messages.result (λ sent. AreMessagesOf c.args.o.now.relid h c.as_slice.result.now sent.items)) c.buffer_list.ensures c.to_messages.ensures in
    subst (λ (ps : List ℕ). IfOk c.to_messages.result (λ sent. AreMessagesOf c.args.o.now.relid (buffer_list c.args.o.now c.args.buffer) ps sent.items)) all named
