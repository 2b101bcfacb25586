use Rattle.std.proofs.Common.{◌≡◌, ◌+◌, ◌*◌, ◌≤◌, length, map, vec_len}
use Rattle.std.specs.Prelude.{MatchOption, ⊤}
use Rattle.script_lines.specs.Parts.{parts}
use Rattle.phase_plan.specs.Opened.{parts_left}
use Rattle.control_model.specs.Plan.{first_gpadl}
use Rattle.control_model.proofs.PhaseLaws.{SoFar}
use Rattle.control_model.proofs.planning.phases.Given as goal

abbrev pub decreases-loop-left : goal.decreases-loop-left
decreases-loop-left l = length (parts_left l.lines l.left)

abbrev pub invariant-loop-left : goal.invariant-loop-left
invariant-loop-left l = record {
  so_far : SoFar l.lines l.left (map (λ phase. phase.items) l.phases.items) l.ended.items l.next l.relid;
  within : MatchOption l.left ⊤ (λ at. at ≤ length l.lines);
  ended : length l.ended.items ≡ length l.specs;
  few : vec_len l.phases + length (parts_left l.lines l.left) ≡ length (parts l.lines);
  gpadl : l.next.gpadl ≤ first_gpadl + 192 * vec_len l.phases;
  page : l.next.page ≤ 10368 * vec_len l.phases;
  relid : l.relid ≤ 17 + 48 * vec_len l.phases;
}
