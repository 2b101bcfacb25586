-- A line leads on where its end goes on.
use Rattle.std.proofs.Common.{◌≡◌, ℕ, List, Option, Some, None, MatchOption, refl, sym, ◌∙◌, ap, subst}
use Rattle.io_edge.specs.declared.side.Side.{Side}
use Rattle.io_edge.specs.declared.side.Side.TheVariants.{Guest, Host}
use Rattle.ring_machine.specs.declared.place.Op.{Op}
use Rattle.ring_machine.specs.declared.state.EndState.{EndState}
use Rattle.ring_machine.specs.Steps.{next_of}
use Rattle.ring_machine.specs.States.{after, entered}
use Rattle.ring_core.specs.Told.{written, answer_in}
use Rattle.trace_model.specs.Traces.{Moment, end_at, with_end_at, MayCall, begun_by, packet_by, LineLeads, IsWrong}
use Rattle.trace_model.specs.declared.what.TraceCall.{TraceCall}
use Rattle.trace_model.specs.declared.what.TraceWhat.{TraceWhat}
use Rattle.trace_model.specs.declared.what.TraceWhat.TheVariants.{Call, Step}
use Rattle.trace_model.specs.declared.verdict.WrongWhy.{WrongWhy}
use Rattle.trace_model.specs.declared.verdict.WrongWhy.TheVariants.{Busy, Condition, Idle, Step as WrongStep, Value}
use Rattle.trace_check.specs.declared.watched.Watched.{Watched}
use Rattle.trace_check.specs.declared.checker.Checker.{Checker}
use Rattle.trace_check.specs.Watching.{IsEnd, Stands, CallRefused, StepRefused}

-- an answer tells more
match_on : {A P R : Type 0} (Q S : A → Type 0) (o : Option A) → (P → R) → ((x : A) → Q x → S x) → MatchOption o P Q → MatchOption o R S
match_on Q S None f g h = f h
match_on Q S (Some x) f g h = g x h

call_wrong : (why : WrongWhy) (x : Side) (c : TraceCall) (m : Moment) → CallRefused why c (end_at m x) → IsWrong why (Call x c) m
call_wrong Busy x c m r = r
call_wrong Condition x c m r = r
call_wrong Idle x c m r = r
call_wrong WrongStep x c m r = r
call_wrong Value x c m r = r

step_wrong : (why : WrongWhy) (x : Side) (op : Op) (v : ℕ) (m : Moment) → StepRefused why op v (end_at m x) m.words → IsWrong why (Step x op v) m
step_wrong Busy x op v m r = r
step_wrong Condition x op v m r = r
step_wrong Idle x op v m r = r
step_wrong WrongStep x op v m r = r
step_wrong Value x op v m r = r

-- what a call of an end gives, and a step
abbrev pub CallGoes : Option WrongWhy → TraceCall → Watched → Watched → Type 0
CallGoes o c old new = (e : EndState) → IsEnd old e → MatchOption o (MayCall c e × IsEnd new (entered e (begun_by c e.machine) (packet_by c))) (λ why. CallRefused why c e × IsEnd new e)

abbrev pub StepGoes : Option WrongWhy → Op → ℕ → Watched → Watched → List ℕ → List ℕ → Type 0
StepGoes o op v old new words words' = (e : EndState) → IsEnd old e → MatchOption o
    ((next_of e.machine e.packet ≡ Some op) × (answer_in e.machine.cells op words ≡ v) × IsEnd new (after e v) × (words' ≡ written e.machine.cells op words))
    (λ why. StepRefused why op v e words × IsEnd new e × (words' ≡ words))

-- what a line gives
abbrev pub Leads : Option WrongWhy → TraceWhat → Checker → Checker → Type 0
Leads o w old new = (m : Moment) → Stands old m → MatchOption o ((n : Moment) × LineLeads w m n × Stands new n) (λ why. IsWrong why w m × Stands new m)

pub call_guest : (old new : Checker) (w : TraceWhat) (x : Side) (c : TraceCall) (o : Option WrongWhy) → w ≡ Call x c → x ≡ Guest → CallGoes o c old.guest new.guest
    → new.mem.memory.words ≡ old.mem.memory.words → new.host ≡ old.host → Leads o w old new
call_guest old new w x c o is guest goes words host m st =
    let what : Call Guest c ≡ w = sym (is ∙ ap (λ (y : Side). Call y c) guest) in
    let there : IsEnd new.host m.host = subst (λ (h : Watched). IsEnd h m.host) (sym host) st.host in
    let next : Moment = with_end_at Guest (entered m.guest (begun_by c m.guest.machine) (packet_by c)) m in
    subst (λ (v : TraceWhat). MatchOption o ((n : Moment) × LineLeads v m n × Stands new n) (λ (why : WrongWhy). IsWrong why v m × Stands new m)) what
    (match_on (λ (why : WrongWhy). CallRefused why c m.guest × IsEnd new.guest m.guest) (λ (why : WrongWhy). IsWrong why (Call Guest c) m × Stands new m) o
    (λ p. (next, (p.0, refl), record { words = words ∙ st.words; guest = p.1; host = there }))
    (λ why p. (call_wrong why Guest c m p.0, record { words = words ∙ st.words; guest = p.1; host = there }))
    (goes m.guest st.guest))

pub call_host : (old new : Checker) (w : TraceWhat) (x : Side) (c : TraceCall) (o : Option WrongWhy) → w ≡ Call x c → x ≡ Host → CallGoes o c old.host new.host
    → new.mem.memory.words ≡ old.mem.memory.words → new.guest ≡ old.guest → Leads o w old new
call_host old new w x c o is host goes words guest m st =
    let what : Call Host c ≡ w = sym (is ∙ ap (λ (y : Side). Call y c) host) in
    let there : IsEnd new.guest m.guest = subst (λ (h : Watched). IsEnd h m.guest) (sym guest) st.guest in
    let next : Moment = with_end_at Host (entered m.host (begun_by c m.host.machine) (packet_by c)) m in
    subst (λ (v : TraceWhat). MatchOption o ((n : Moment) × LineLeads v m n × Stands new n) (λ (why : WrongWhy). IsWrong why v m × Stands new m)) what
    (match_on (λ (why : WrongWhy). CallRefused why c m.host × IsEnd new.host m.host) (λ (why : WrongWhy). IsWrong why (Call Host c) m × Stands new m) o
    (λ p. (next, (p.0, refl), record { words = words ∙ st.words; guest = there; host = p.1 }))
    (λ why p. (call_wrong why Host c m p.0, record { words = words ∙ st.words; guest = there; host = p.1 }))
    (goes m.host st.host))

pub step_guest : (old new : Checker) (w : TraceWhat) (x : Side) (op : Op) (v : ℕ) (o : Option WrongWhy) → w ≡ Step x op v → x ≡ Guest
    → StepGoes o op v old.guest new.guest old.mem.memory.words new.mem.memory.words → new.host ≡ old.host → Leads o w old new
step_guest old new w x op v o is guest goes host m st =
    let what : Step Guest op v ≡ w = sym (is ∙ ap (λ (y : Side). Step y op v) guest) in
    let there : IsEnd new.host m.host = subst (λ (h : Watched). IsEnd h m.host) (sym host) st.host in
    let next : Moment = record { words = written m.guest.machine.cells op m.words; guest = after m.guest v; host = m.host } in
    let here : (ws : List ℕ) → old.mem.memory.words ≡ ws → MatchOption o
    ((next_of m.guest.machine m.guest.packet ≡ Some op) × (answer_in m.guest.machine.cells op ws ≡ v) × IsEnd new.guest (after m.guest v) × (new.mem.memory.words ≡ written m.guest.machine.cells op ws))
    (λ (why : WrongWhy). StepRefused why op v m.guest ws × IsEnd new.guest m.guest × (new.mem.memory.words ≡ ws)) =
    λ ws e. subst (λ (us : List ℕ). MatchOption o
    ((next_of m.guest.machine m.guest.packet ≡ Some op) × (answer_in m.guest.machine.cells op us ≡ v) × IsEnd new.guest (after m.guest v) × (new.mem.memory.words ≡ written m.guest.machine.cells op us))
    (λ (why : WrongWhy). StepRefused why op v m.guest us × IsEnd new.guest m.guest × (new.mem.memory.words ≡ us))) e (goes m.guest st.guest) in
    subst (λ (u : TraceWhat). MatchOption o ((n : Moment) × LineLeads u m n × Stands new n) (λ (why : WrongWhy). IsWrong why u m × Stands new m)) what
    (match_on (λ (why : WrongWhy). StepRefused why op v m.guest m.words × IsEnd new.guest m.guest × (new.mem.memory.words ≡ m.words)) (λ (why : WrongWhy). IsWrong why (Step Guest op v) m × Stands new m) o
    (λ p. (next, (record { next = p.0; answer = p.1 }, refl), record { words = p.3; guest = p.2; host = there }))
    (λ why p. (step_wrong why Guest op v m p.0, record { words = p.2; guest = p.1; host = there }))
    (here m.words st.words))

pub step_host : (old new : Checker) (w : TraceWhat) (x : Side) (op : Op) (v : ℕ) (o : Option WrongWhy) → w ≡ Step x op v → x ≡ Host
    → StepGoes o op v old.host new.host old.mem.memory.words new.mem.memory.words → new.guest ≡ old.guest → Leads o w old new
step_host old new w x op v o is host goes guest m st =
    let what : Step Host op v ≡ w = sym (is ∙ ap (λ (y : Side). Step y op v) host) in
    let there : IsEnd new.guest m.guest = subst (λ (h : Watched). IsEnd h m.guest) (sym guest) st.guest in
    let next : Moment = record { words = written m.host.machine.cells op m.words; guest = m.guest; host = after m.host v } in
    let here : (ws : List ℕ) → old.mem.memory.words ≡ ws → MatchOption o
    ((next_of m.host.machine m.host.packet ≡ Some op) × (answer_in m.host.machine.cells op ws ≡ v) × IsEnd new.host (after m.host v) × (new.mem.memory.words ≡ written m.host.machine.cells op ws))
    (λ (why : WrongWhy). StepRefused why op v m.host ws × IsEnd new.host m.host × (new.mem.memory.words ≡ ws)) =
    λ ws e. subst (λ (us : List ℕ). MatchOption o
    ((next_of m.host.machine m.host.packet ≡ Some op) × (answer_in m.host.machine.cells op us ≡ v) × IsEnd new.host (after m.host v) × (new.mem.memory.words ≡ written m.host.machine.cells op us))
    (λ (why : WrongWhy). StepRefused why op v m.host us × IsEnd new.host m.host × (new.mem.memory.words ≡ us))) e (goes m.host st.host) in
    subst (λ (u : TraceWhat). MatchOption o ((n : Moment) × LineLeads u m n × Stands new n) (λ (why : WrongWhy). IsWrong why u m × Stands new m)) what
    (match_on (λ (why : WrongWhy). StepRefused why op v m.host m.words × IsEnd new.host m.host × (new.mem.memory.words ≡ m.words)) (λ (why : WrongWhy). IsWrong why (Step Host op v) m × Stands new m) o
    (λ p. (next, (record { next = p.0; answer = p.1 }, refl), record { words = p.3; guest = there; host = p.2 }))
    (λ why p. (step_wrong why Host op v m p.0, record { words = p.2; guest = there; host = p.1 }))
    (here m.words st.words))
