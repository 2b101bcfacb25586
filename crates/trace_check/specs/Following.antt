-- What a checker keeps of the lines so far.
use Rattle.std.specs.Prelude.{◌≡◌, ℕ, ◌+◌, List, Option, Some, None, count_by}
use Rattle.trace_model.specs.Traces.{TraceLine, Moment, IsTraceRun, IsFirstWrong, is_step}
use Rattle.trace_model.specs.declared.verdict.WrongWhy.{WrongWhy}
use Rattle.trace_check.specs.declared.checker.Checker.{Checker}
use Rattle.trace_check.specs.declared.watch.Found.{Found}
use Rattle.trace_check.specs.declared.watch.Watch.{Watch}
use Rattle.trace_check.specs.Watching.{Stands, steps_of}

-- the lines are a run, and the channel stands where they lead, which made as many steps as they say
pub record FollowsRun (d : ℕ) (lines : List TraceLine) (c : Checker) : Type 0 where
  pub moment : Moment
  pub run : IsTraceRun d lines moment
  pub stands : Stands c moment
  pub count : steps_of c ≡ count_by is_step lines

-- the line that is wrong, where there is a reason against it
abbrev pub found_at : ℕ → Option WrongWhy → Option Found
found_at line None = None
found_at line (Some why) = Some (record { line = line; why = why })

-- the lines are such a run, or have this first wrong line
abbrev pub FollowsBy : Option Found → ℕ → List TraceLine → Checker → Type 0
FollowsBy None d lines c = FollowsRun d lines c
FollowsBy (Some found) d lines c = IsFirstWrong d lines found.line found.why

abbrev pub Follows : ℕ → List TraceLine → Watch → Type 0
Follows d lines w = FollowsBy w.wrong d lines w.checker

abbrev pub done_in : Watch → ℕ
done_in w = steps_of w.checker
