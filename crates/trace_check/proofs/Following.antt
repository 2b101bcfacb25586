-- A line more is followed.
use Rattle.std.proofs.Common.{◌≡◌, ℕ, ◌+◌, Bool, true, false, cond, List, [], ◌∷◌, ◌++◌, Option, Some, None, MatchOption, refl, sym, ◌∙◌, ap, arith, append_assoc}
use Rattle.std.specs.Prelude.{is_some}
use Rattle.std.specs.List.{count_by}
use Rattle.std.proofs.lemmas.List.Sums.{sum_by-append}
use Rattle.trace_model.specs.Traces.{TraceLine, Moment, LineLeads, IsTraceRun, IsFirstWrong, IsWrong, is_step, opened_at}
use Rattle.trace_model.specs.declared.what.TraceWhat.{TraceWhat}
use Rattle.trace_model.specs.declared.what.TraceWhat.TheVariants.{Call, Step}
use Rattle.trace_model.specs.declared.verdict.WrongWhy.{WrongWhy}
use Rattle.trace_model.proofs.Leading.{lead_join}
use Rattle.trace_check.specs.declared.checker.Checker.{Checker}
use Rattle.trace_check.specs.declared.watch.Found.{Found}
use Rattle.trace_check.specs.Watching.{Stands, steps_of, steps_in}
use Rattle.trace_check.specs.Following.{FollowsRun, FollowsBy, found_at}
use Rattle.trace_check.proofs.Leads.{Leads}

abbrev line_of : ℕ → TraceWhat → TraceLine
line_of number what = record { number = number; what = what }

-- a line behind the first wrong one changes nothing
pub wrong_stays : (d : ℕ) (lines : List TraceLine) (l : TraceLine) (line : ℕ) (why : WrongWhy) → IsFirstWrong d lines line why → IsFirstWrong d (lines ++ l ∷ []) line why
wrong_stays d lines l line why w = record {
  good = w.good;
  bad = w.bad;
  rest = w.rest ++ l ∷ [];
  split = ap (λ (ls : List TraceLine). ls ++ l ∷ []) w.split ∙ append_assoc w.good (w.bad ∷ w.rest) (l ∷ []);
  moment = w.moment;
  run = w.run;
  number = w.number;
  wrong = w.wrong;
}

one_step : (number : ℕ) (what : TraceWhat) → count_by is_step (line_of number what ∷ []) ≡ steps_in what
one_step number (Call x c) = refl
one_step number (Step x op v) = refl

counted : (lines : List TraceLine) (number : ℕ) (what : TraceWhat) → count_by is_step (lines ++ line_of number what ∷ []) ≡ count_by is_step lines + steps_in what
counted lines number what = sum_by-append (λ (l : TraceLine). cond (is_step l) 1 0) lines (line_of number what ∷ []) ∙ ap (λ (k : ℕ). count_by is_step lines + k) (one_step number what)

-- nor does a line behind a verdict that is out
pub found_stays : (d : ℕ) (lines : List TraceLine) (l : TraceLine) (o : Option Found) (c : Checker) → is_some o ≡ true → FollowsBy o d lines c → FollowsBy o d (lines ++ l ∷ []) c
found_stays d lines l None c some f = absurd (cc (some))
found_stays d lines l (Some found) c some f = wrong_stays d lines l found.line found.why f

-- a verdict that isn't out is that of a run
not_out : (d : ℕ) (lines : List TraceLine) (o : Option Found) (c : Checker) → is_some o ≡ false → FollowsBy o d lines c → FollowsRun d lines c
not_out d lines None c none f = f
not_out d lines (Some found) c none f = absurd (cc (none))

pub run_more : (d : ℕ) (lines : List TraceLine) (number : ℕ) (what : TraceWhat) (old new : Checker) (o : Option WrongWhy)
    → Leads o what old new → MatchOption o (steps_of new ≡ steps_of old + steps_in what) (λ why. steps_of new ≡ steps_of old)
    → FollowsRun d lines old → FollowsBy (found_at number o) d (lines ++ line_of number what ∷ []) new
run_more d lines number what old new None leads steps f =
    let next = leads f.moment f.stands in
    record {
      moment = next.0;
      run = lead_join lines (line_of number what ∷ []) (opened_at d) f.moment next.0 f.run (next.0, next.1, refl);
      stands = next.2;
      count = steps ∙ ap (λ (k : ℕ). k + steps_in what) f.count ∙ sym (counted lines number what);
    }
run_more d lines number what old new (Some why) leads steps f =
    let wrong = leads f.moment f.stands in
    record {
      good = lines;
      bad = line_of number what;
      rest = [];
      split = refl;
      moment = f.moment;
      run = f.run;
      number = refl;
      wrong = wrong.0;
    }

-- a line more, where no line was wrong so far
pub follow_more : (d : ℕ) (lines : List TraceLine) (number : ℕ) (what : TraceWhat) (out : Option Found) (old new : Checker) (o : Option WrongWhy)
    → Leads o what old new → MatchOption o (steps_of new ≡ steps_of old + steps_in what) (λ why. steps_of new ≡ steps_of old)
    → is_some out ≡ false → FollowsBy out d lines old → FollowsBy (found_at number o) d (lines ++ line_of number what ∷ []) new
follow_more d lines number what out old new o leads steps none f = run_more d lines number what old new o leads steps (not_out d lines out old none f)
