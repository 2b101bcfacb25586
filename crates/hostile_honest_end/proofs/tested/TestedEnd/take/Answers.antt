use Rattle.std.proofs.Common.{rules, ◌≡◌, ℕ, true, false, not, List, [], ◌++◌, length, cond, sym, ap, ◌∙◌, subst, arith, refl, Some, None}
use Rattle.ring_machine.specs.declared.machine.EndMachine.{EndMachine}
use Rattle.ring_machine.specs.declared.machine.Stage.{Stage}
use Rattle.ring_machine.specs.declared.machine.Stage.TheVariants.{Idle}
use Rattle.ring_machine.specs.declared.state.EndState.{EndState}
use Rattle.ring_machine.specs.PageCalls.{newest}
use Rattle.ring_machine.specs.Steps.{is_busy_at, is_broken, take_begun}
use Rattle.ring_core.specs.Told.{Pair, pair}
use Rattle.std.specs.Result.{OnOk}
use Rattle.hostile_honest_end.specs.Calls.{Leads, by_stage, said_of}
use Rattle.hostile_honest_end.specs.Text.{took_text}
use Rattle.hostile_honest_end.proofs.Made.{on_ok, rests_by, leads_by, says_by, took_said}
use Rattle.hostile_honest_end.proofs.tested.TestedEnd.take.Goals as goal

pub invariant_of-self-2 : goal.invariant_of-self-2
invariant_of-self-2 c =
    let st : c.reserve.new.self.state ≡ c.self.inside.end.state = c.reserve.ensures.state.0 in
    let idle : c.reserve.new.self.state.machine.stage ≡ Idle = ap (λ (e : EndState). e.machine.stage) st ∙ search rules in
    let takes = c.take_in-answer.ensures.takes in
    let cells : c.take_in-answer.new.self.state.machine.cells ≡ c.self.inside.end.state.machine.cells = takes.cells ∙ ap (λ (e : EndState). e.machine.cells) st in
    let old = c.self.invariant in
    record {
      dozes = λ e. absurd (let a = takes.awake.0 in let z : true ≡ false = sym e ∙ a in (cc));
      rests = ap is_busy_at (takes.idle idle).leaves.stage ∙ rests_by (is_broken c.take_in-answer.new.self.state.machine.ended);
      unmarked = takes.awake.1;
      bare = c.take_in-answer.ensures.count ∙ (ap (λ (e : EndState). e.pages.count) st ∙ old.bare);
      size = (let s = old.size in (let a = s.0 in omega (arith, a, cells), let a = s.1 in omega (arith, a, cells)));
    }

pub returns-clause-leads : goal.returns-clause-leads
returns-clause-leads c =
    let st : c.reserve.new.self.state ≡ c.self.inside.end.state = c.reserve.ensures.state.0 in
    let idle : c.reserve.new.self.state.machine.stage ≡ Idle = ap (λ (e : EndState). e.machine.stage) st ∙ search rules in
    let takes = c.take_in-answer.ensures.takes.idle idle in
    on_ok c.push_took.result
    (subst (λ (p : Pair). Leads (by_stage p.state.machine (take_begun p.state.machine) []) p (pair c.take_in-answer.new.self.state c.take_in-answer.new.self.seat.memory)) c.self.view_is
    (leads_by c.self.inside.end c.reserve.new.self c.take_in-answer.new.self st c.reserve.ensures.state.1 (search rules) (search rules) take_begun [] [] refl takes.ran
    (ap is_busy_at takes.leaves.stage ∙ rests_by (is_broken c.take_in-answer.new.self.state.machine.ended))))

pub returns-clause-says : goal.returns-clause-says
returns-clause-says c =
    let st : c.reserve.new.self.state ≡ c.self.inside.end.state = c.reserve.ensures.state.0 in
    let idle : c.reserve.new.self.state.machine.stage ≡ Idle = ap (λ (e : EndState). e.machine.stage) st ∙ search rules in
    let takes = c.take_in-answer.ensures.takes.idle idle in
    let new : Pair = pair c.take_in-answer.new.self.state c.take_in-answer.new.self.seat.memory in
    let said : took_text c.take_in-answer.result c.last.result.now ≡ said_of (by_stage c.self.inside.end.state.machine (take_begun c.self.inside.end.state.machine) []) new
    = ap (took_text c.take_in-answer.result) c.last.ensures ∙ (took_said c.take_in-answer.new.self.state.machine.ended c.take_in-answer.new.self.state.machine c.take_in-answer.result (newest c.take_in-answer.new.self.state.got) takes.call takes.answer
    ∙ sym (says_by c.self.inside.end c.reserve.new.self c.take_in-answer.new.self st c.reserve.ensures.state.1 (search rules) (search rules) (take_begun c.self.inside.end.state.machine) [])) in
    subst (λ (p : Pair). OnOk c.push_took.result (c.push_took.new.text.items ≡ c.args.text.now.items ++ said_of (by_stage p.state.machine (take_begun p.state.machine) []) new)) c.self.view_is
    (subst (λ (t : List ℕ). OnOk c.push_took.result (c.push_took.new.text.items ≡ c.args.text.now.items ++ t)) said c.push_took.ensures.text)
