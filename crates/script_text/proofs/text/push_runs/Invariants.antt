use Rattle.std.proofs.Common.{◌≡◌, ◌≤◌, ◌+◌, ◌*◌, ◌++◌, length, vec_len}
use Rattle.std.specs.Prelude.{codes}
use Rattle.std.specs.List.{flat_map}
use Rattle.script_text.specs.Runs.{run_text, runs_of, joined_runs}
use Rattle.script_text.proofs.text.push_runs.Given as goal

abbrev pub invariant-loop-run : goal.invariant-loop-run
invariant-loop-run l = record {
  told : l.text.items ++ flat_map (λ s. codes "+" ++ run_text s) (runs_of l.rest) ≡ l.fn.text.items ++ joined_runs (runs_of l.fn.bytes);
  short : vec_len l.text + 24 * length (runs_of l.rest) ≤ vec_len l.fn.text + 24 * length (runs_of l.fn.bytes);
}

abbrev pub decreases-loop-run : goal.decreases-loop-run
decreases-loop-run l = length l.rest
