use Rattle.std.proofs.Common.{rules, ◌≡◌, ℕ, true, false, not, List, ◌++◌, length, cond, sym, ap, ◌∙◌, subst, arith, refl, None}
use Rattle.ring_machine.specs.declared.machine.EndMachine.{EndMachine}
use Rattle.ring_machine.specs.declared.machine.Stage.{Stage}
use Rattle.ring_machine.specs.declared.machine.Stage.TheVariants.{Idle}
use Rattle.ring_machine.specs.declared.state.EndState.{EndState}
use Rattle.ring_machine.specs.PageCalls.{newest}
use Rattle.ring_machine.specs.Steps.{is_busy_at, is_broken, send_begun}
use Rattle.ring_core.specs.Told.{Held, MakesSteps, Pair, pair, tells_memory}
use Rattle.std.specs.Result.{OnOk}
use Rattle.hostile_honest_end.specs.Calls.{in_band, is_idle, Leads, by_stage, said_of}
use Rattle.hostile_honest_end.specs.Text.{sent_text, ending_text}
use Rattle.hostile_honest_end.proofs.Made.{on_ok, rests_by, leads_by, says_by, sent_said}
use Rattle.hostile_honest_end.proofs.tested.TestedEnd.send.Goals as goal

pub invariant_of-self-2 : goal.invariant_of-self-2
invariant_of-self-2 c =
    let st : c.reserve.new.self.state ≡ c.self.inside.end.state = c.reserve.ensures.state.0 in
    let idle : c.reserve.new.self.state.machine.stage ≡ Idle = ap (λ (e : EndState). e.machine.stage) st ∙ search rules in
    let leaves = c.send.ensures.leaves idle in
    let cells : c.send.new.self.state.machine.cells ≡ c.self.inside.end.state.machine.cells = c.send.ensures.same.1 ∙ ap (λ (e : EndState). e.machine.cells) st in
    let old = c.self.invariant in
    record {
      dozes = λ e. absurd (let a = c.send.ensures.awake.0 in let z : true ≡ false = sym e ∙ a in (cc));
      rests = ap is_busy_at leaves.stage ∙ rests_by (is_broken c.send.new.self.state.machine.ended);
      unmarked = c.send.ensures.awake.1;
      bare = c.send.ensures.count ∙ (ap (λ (e : EndState). e.pages.count) st ∙ old.bare);
      size = (let s = old.size in (let a = s.0 in omega (arith, a, cells), let a = s.1 in omega (arith, a, cells)));
    }

pub returns-clause-leads : goal.returns-clause-leads
returns-clause-leads c =
    let st : c.reserve.new.self.state ≡ c.self.inside.end.state = c.reserve.ensures.state.0 in
    let idle : c.reserve.new.self.state.machine.stage ≡ Idle = ap (λ (e : EndState). e.machine.stage) st ∙ search rules in
    let leaves = c.send.ensures.leaves idle in
    let words : c.deref.result.now ≡ in_band c.args.len = c.deref.ensures.value ∙ search rules in
    let len : length c.deref.result.now ≡ c.args.len = search rules in
    let ran : MakesSteps (λ (s : Held). None) (λ (s : Held). tells_memory s.memory) (send_begun c.reserve.new.self.state.machine c.args.len) c.deref.result.now c.reserve.new.self c.send.new.self
    = subst (λ (n : ℕ). MakesSteps (λ (s : Held). None) (λ (s : Held). tells_memory s.memory) (send_begun c.reserve.new.self.state.machine n) c.deref.result.now c.reserve.new.self c.send.new.self) len (c.send.ensures.ran idle) in
    on_ok c.push_sent.result
    (subst (λ (p : Pair). Leads (by_stage p.state.machine (send_begun p.state.machine c.args.len) (in_band c.args.len)) p (pair c.send.new.self.state c.send.new.self.seat.memory)) c.self.view_is
    (leads_by c.self.inside.end c.reserve.new.self c.send.new.self st c.reserve.ensures.state.1 (search rules) (search rules) (λ (m : EndMachine). send_begun m c.args.len) (in_band c.args.len) c.deref.result.now words ran
    (ap is_busy_at leaves.stage ∙ rests_by (is_broken c.send.new.self.state.machine.ended))))

pub returns-clause-says : goal.returns-clause-says
returns-clause-says c =
    let st : c.reserve.new.self.state ≡ c.self.inside.end.state = c.reserve.ensures.state.0 in
    let idle : c.reserve.new.self.state.machine.stage ≡ Idle = ap (λ (e : EndState). e.machine.stage) st ∙ search rules in
    let answer = c.send.ensures.answer idle in
    let new : Pair = pair c.send.new.self.state c.send.new.self.seat.memory in
    let said : sent_text c.send.result ≡ said_of (by_stage c.self.inside.end.state.machine (send_begun c.self.inside.end.state.machine c.args.len) (in_band c.args.len)) new
    = ap sent_text answer.0 ∙ (sent_said c.send.new.self.state.machine.ended c.send.new.self.state.machine (newest c.send.new.self.state.got) answer.1
    ∙ sym (says_by c.self.inside.end c.reserve.new.self c.send.new.self st c.reserve.ensures.state.1 (search rules) (search rules) (send_begun c.self.inside.end.state.machine c.args.len) (in_band c.args.len))) in
    subst (λ (p : Pair). OnOk c.push_sent.result (c.push_sent.new.text.items ≡ c.args.text.now.items ++ said_of (by_stage p.state.machine (send_begun p.state.machine c.args.len) (in_band c.args.len)) new)) c.self.view_is
    (subst (λ (t : List ℕ). OnOk c.push_sent.result (c.push_sent.new.text.items ≡ c.args.text.now.items ++ t)) said c.push_sent.ensures.text)
