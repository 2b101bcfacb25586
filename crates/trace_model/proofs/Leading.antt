-- Lines that lead from one moment to another.
use Rattle.std.proofs.Common.{◌≡◌, ℕ, true, false, List, [], ◌∷◌, ◌++◌, Some, refl, sym, ◌∙◌, ap, subst, true≢false}
use Rattle.ring_machine.specs.Steps.{is_busy_at, next_at, next_of}
use Rattle.ring_machine.specs.declared.machine.EndMachine.{EndMachine}
use Rattle.ring_machine.specs.declared.machine.Stage.TheVariants.{Idle as IsIdle, Stopped}
use Rattle.ring_machine.specs.declared.place.Op.{Op}
use Rattle.ring_machine.specs.declared.machine.Stage.{Stage}
use Rattle.trace_model.specs.Traces.{TraceLine, Moment, end_at, is_calling, MayCall, LineLeads, LinesLead, IsWrong}
use Rattle.trace_model.specs.declared.what.TraceCall.{TraceCall}
use Rattle.trace_model.specs.declared.what.TraceCall.TheVariants.{Send, Take, Commit, Arm, Poll, Mark, PeerMark}
use Rattle.trace_model.specs.declared.what.TraceWhat.{TraceWhat}
use Rattle.trace_model.specs.declared.what.TraceWhat.TheVariants.{Call, Step}
use Rattle.trace_model.specs.declared.verdict.WrongWhy.{WrongWhy}
use Rattle.trace_model.specs.declared.verdict.WrongWhy.TheVariants.{Busy, Condition, Idle, Step as WrongStep, Value}
use Rattle.ring_machine.specs.declared.state.EndState.{EndState}

-- a line leads to one moment
pub one_line : (w : TraceWhat) (m a b : Moment) → LineLeads w m a → LineLeads w m b → a ≡ b
one_line (Call x c) m a b p q = p.1 ∙ sym q.1
one_line (Step x op v) m a b p q = p.1 ∙ sym q.1

-- and so do lines
pub one_moment : (ls : List TraceLine) (m a b : Moment) → LinesLead ls m a → LinesLead ls m b → a ≡ b
one_moment [] m a b p q = p ∙ sym q
one_moment (l ∷ ls) m a b p q = one_moment ls q.0 a b (subst (λ (k : Moment). LinesLead ls k a) (one_line l.what m p.0 q.0 p.1 q.1) p.2) q.2

-- lines lead on, and each front of them does
pub lead_join : (first more : List TraceLine) (m k n : Moment) → LinesLead first m k → LinesLead more k n → LinesLead (first ++ more) m n
lead_join [] more m k n p q = subst (λ (j : Moment). LinesLead more j n) p q
lead_join (l ∷ ls) more m k n p q = (p.0, p.1, lead_join ls more p.0 k n p.2 q)

pub lead_split : (first more : List TraceLine) (m n : Moment) → LinesLead (first ++ more) m n → (k : Moment) × LinesLead first m k × LinesLead more k n
lead_split [] more m n p = (m, refl, p)
lead_split (l ∷ ls) more m n p = let rest = lead_split ls more p.0 n p.2 in (rest.0, (p.0, p.1, rest.1), rest.2)

-- a call begins where none is under way
may_idle : (c : TraceCall) (e : EndState) → MayCall c e → is_calling e ≡ false
may_idle (Send p) e may = ap is_busy_at may.0.idle
may_idle Take e may = ap is_busy_at may.idle
may_idle Commit e may = ap is_busy_at may.idle
may_idle (Arm want) e may = ap is_busy_at may.0.idle
may_idle Poll e may = ap is_busy_at may.0
may_idle Mark e may = ap is_busy_at may.idle
may_idle PeerMark e may = ap is_busy_at may.idle

-- a step is named where a call is under way, at each stage
stage_next : (st : Stage) (m : EndMachine) (p : List ℕ) (op : Op) → next_at st m p ≡ Some op → is_busy_at st ≡ true
stage_next IsIdle m p op is = absurd (cc (is))
stage_next Stopped m p op is = absurd (cc (is))
stage_next _ m p op is = refl

pub busy_next : (e : EndState) (op : Op) → next_of e.machine e.packet ≡ Some op → is_calling e ≡ true
busy_next e op is = stage_next e.machine.stage e.machine e.packet op is

-- a line that is wrong leads nowhere
pub wrong_leads_not : (why : WrongWhy) (w : TraceWhat) (m n : Moment) → IsWrong why w m → LineLeads w m n → ⊥
wrong_leads_not Busy (Call x c) m n wrong leads = true≢false (sym wrong ∙ may_idle c (end_at m x) leads.0)
wrong_leads_not Busy (Step x op v) m n wrong leads = wrong
wrong_leads_not Condition (Call x c) m n wrong leads = wrong.1 leads.0
wrong_leads_not Condition (Step x op v) m n wrong leads = wrong
wrong_leads_not Idle (Call x c) m n wrong leads = wrong
wrong_leads_not Idle (Step x op v) m n wrong leads = true≢false (sym (busy_next (end_at m x) op leads.0.next) ∙ wrong)
wrong_leads_not WrongStep (Call x c) m n wrong leads = wrong
wrong_leads_not WrongStep (Step x op v) m n wrong leads = wrong.1 leads.0.next
wrong_leads_not Value (Call x c) m n wrong leads = wrong
wrong_leads_not Value (Step x op v) m n wrong leads = wrong.1 leads.0.answer
