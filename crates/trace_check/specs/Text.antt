-- The text of a verdict.
use Rattle.std.specs.Prelude.{ℕ, ◌++◌, List, codes}
use Rattle.std.specs.Fmt.{decimal}
use Rattle.trace_model.specs.declared.verdict.WrongWhy.{WrongWhy}
use Rattle.trace_model.specs.declared.verdict.WrongWhy.TheVariants.{Busy, Condition, Idle, Step, Value}
use Rattle.trace_model.specs.declared.verdict.Verdict.{Verdict}
use Rattle.trace_model.specs.declared.verdict.Verdict.TheVariants.{Run, Wrong}

abbrev pub why_text : WrongWhy → List ℕ
why_text Busy = codes "busy"
why_text Condition = codes "condition"
why_text Idle = codes "idle"
why_text Step = codes "step"
why_text Value = codes "value"

-- run steps N guest A B host C D, with what each end sent and got; or wrong LINE WHY
unfoldable pub verdict_text : Verdict → List ℕ
verdict_text (Run steps guest_sent guest_got host_sent host_got) =
    codes "run steps " ++ decimal steps ++ codes " guest " ++ decimal guest_sent ++ codes " " ++ decimal guest_got ++ codes " host " ++ decimal host_sent ++ codes " " ++ decimal host_got ++ codes "\n"
verdict_text (Wrong line why) = codes "wrong " ++ decimal line ++ codes " " ++ why_text why ++ codes "\n"
