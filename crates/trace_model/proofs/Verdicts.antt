-- A trace has one verdict.
use Rattle.std.proofs.Common.{◌≡◌, ℕ, List, [], ◌∷◌, ◌++◌, length, refl, sym, ◌∙◌, ap, subst, true≢false}
use Rattle.trace_model.specs.Traces.{TraceLine, Moment, end_at, LineLeads, LinesLead, IsWrong, WrongFrom, IsVerdict, IsRunOf, opened_at}
use Rattle.trace_model.specs.declared.what.TraceWhat.{TraceWhat}
use Rattle.trace_model.specs.declared.what.TraceWhat.TheVariants.{Call, Step}
use Rattle.trace_model.specs.declared.verdict.WrongWhy.{WrongWhy}
use Rattle.trace_model.specs.declared.verdict.WrongWhy.TheVariants.{Busy, Condition, Idle, Step as WrongStep, Value}
use Rattle.trace_model.specs.declared.verdict.Verdict.{Verdict}
use Rattle.trace_model.specs.declared.verdict.Verdict.TheVariants.{Run, Wrong}
use Rattle.trace_model.proofs.Leading.{one_line, one_moment, lead_split, wrong_leads_not, busy_next}

-- the first reason against a line is one
one_reason : (a b : WrongWhy) (w : TraceWhat) (m : Moment) → IsWrong a w m → IsWrong b w m → a ≡ b
one_reason Busy Busy w m p q = refl
one_reason Busy Condition (Call x c) m p q = absurd (true≢false (sym p ∙ q.0))
one_reason Busy Condition (Step x op v) m p q = absurd p
one_reason Busy Idle (Call x c) m p q = absurd q
one_reason Busy Idle (Step x op v) m p q = absurd p
one_reason Busy WrongStep (Call x c) m p q = absurd q
one_reason Busy WrongStep (Step x op v) m p q = absurd p
one_reason Busy Value (Call x c) m p q = absurd q
one_reason Busy Value (Step x op v) m p q = absurd p
one_reason Condition Busy (Call x c) m p q = absurd (true≢false (sym q ∙ p.0))
one_reason Condition Busy (Step x op v) m p q = absurd q
one_reason Condition Condition w m p q = refl
one_reason Condition Idle (Call x c) m p q = absurd q
one_reason Condition Idle (Step x op v) m p q = absurd p
one_reason Condition WrongStep (Call x c) m p q = absurd q
one_reason Condition WrongStep (Step x op v) m p q = absurd p
one_reason Condition Value (Call x c) m p q = absurd q
one_reason Condition Value (Step x op v) m p q = absurd p
one_reason Idle Busy (Call x c) m p q = absurd p
one_reason Idle Busy (Step x op v) m p q = absurd q
one_reason Idle Condition (Call x c) m p q = absurd p
one_reason Idle Condition (Step x op v) m p q = absurd q
one_reason Idle Idle w m p q = refl
one_reason Idle WrongStep (Call x c) m p q = absurd p
one_reason Idle WrongStep (Step x op v) m p q = absurd (true≢false (sym q.0 ∙ p))
one_reason Idle Value (Call x c) m p q = absurd p
one_reason Idle Value (Step x op v) m p q = absurd (true≢false (sym (busy_next (end_at m x) op q.0) ∙ p))
one_reason WrongStep Busy (Call x c) m p q = absurd p
one_reason WrongStep Busy (Step x op v) m p q = absurd q
one_reason WrongStep Condition (Call x c) m p q = absurd p
one_reason WrongStep Condition (Step x op v) m p q = absurd q
one_reason WrongStep Idle (Call x c) m p q = absurd p
one_reason WrongStep Idle (Step x op v) m p q = absurd (true≢false (sym p.0 ∙ q))
one_reason WrongStep WrongStep w m p q = refl
one_reason WrongStep Value (Call x c) m p q = absurd p
one_reason WrongStep Value (Step x op v) m p q = absurd (p.1 q.0)
one_reason Value Busy (Call x c) m p q = absurd p
one_reason Value Busy (Step x op v) m p q = absurd q
one_reason Value Condition (Call x c) m p q = absurd p
one_reason Value Condition (Step x op v) m p q = absurd q
one_reason Value Idle (Call x c) m p q = absurd p
one_reason Value Idle (Step x op v) m p q = absurd (true≢false (sym (busy_next (end_at m x) op p.0) ∙ q))
one_reason Value WrongStep (Call x c) m p q = absurd p
one_reason Value WrongStep (Step x op v) m p q = absurd (q.1 p.0)
one_reason Value Value w m p q = refl

-- two lines that are wrong, each the first from this moment, are one line, and for one reason
first_wrong : (good good' : List TraceLine) (bad bad' : TraceLine) (rest rest' : List TraceLine) (m k k' : Moment) (a b : WrongWhy)
    → good ++ bad ∷ rest ≡ good' ++ bad' ∷ rest' → LinesLead good m k → LinesLead good' m k' → IsWrong a bad.what k → IsWrong b bad'.what k'
    → (bad ≡ bad') × (a ≡ b)
first_wrong [] [] bad bad' rest rest' m k k' a b same p q wa wb =
    let line : bad ≡ bad' = cc (same) in
    (line, one_reason a b bad'.what m (subst (λ (l : TraceLine). IsWrong a l.what m) line (subst (λ (j : Moment). IsWrong a bad.what j) p wa)) (subst (λ (j : Moment). IsWrong b bad'.what j) q wb))
first_wrong [] (g ∷ gs) bad bad' rest rest' m k k' a b same p q wa wb =
    let line : bad ≡ g = cc (same) in
    absurd (wrong_leads_not a g.what m q.0 (subst (λ (l : TraceLine). IsWrong a l.what m) line (subst (λ (j : Moment). IsWrong a bad.what j) p wa)) q.1)
first_wrong (g ∷ gs) [] bad bad' rest rest' m k k' a b same p q wa wb =
    let line : bad' ≡ g = cc (same) in
    absurd (wrong_leads_not b g.what m p.0 (subst (λ (l : TraceLine). IsWrong b l.what m) line (subst (λ (j : Moment). IsWrong b bad'.what j) q wb)) p.1)
first_wrong (g ∷ gs) (h ∷ hs) bad bad' rest rest' m k k' a b same p q wa wb =
    let line : g ≡ h = cc (same) in
    let more : gs ++ bad ∷ rest ≡ hs ++ bad' ∷ rest' = cc (same) in
    let on : p.0 ≡ q.0 = one_line h.what m p.0 q.0 (subst (λ (l : TraceLine). LineLeads l.what m p.0) line p.1) q.1 in
    first_wrong gs hs bad bad' rest rest' q.0 k k' a b more (subst (λ (j : Moment). LinesLead gs j k) on p.2) q.2 wa wb

-- lines with a wrong one are no run
run_not_wrong : (m n : Moment) (ls : List TraceLine) (line : ℕ) (why : WrongWhy) → LinesLead ls m n → WrongFrom m ls line why → ⊥
run_not_wrong m n ls line why leads w =
    let cut = lead_split w.good (w.bad ∷ w.rest) m n (subst (λ (l : List TraceLine). LinesLead l m n) w.split leads) in
    let there : w.moment ≡ cut.0 = one_moment w.good m w.moment cut.0 w.run cut.1 in
    wrong_leads_not why w.bad.what cut.0 cut.2.0 (subst (λ (j : Moment). IsWrong why w.bad.what j) there w.wrong) cut.2.1

run_same : (d : ℕ) (ls : List TraceLine) (s a b e f s' a' b' e' f' : ℕ) → IsRunOf d ls s a b e f → IsRunOf d ls s' a' b' e' f' → Run s a b e f ≡ Run s' a' b' e' f'
run_same d ls s a b e f s' a' b' e' f' p q =
    let there : p.moment ≡ q.moment = one_moment ls (opened_at d) p.moment q.moment p.run q.run in
    let steps : s ≡ s' = p.counted ∙ sym q.counted in
    let one : a ≡ a' = p.guest_sends ∙ ap (λ (n : Moment). length n.guest.sent) there ∙ sym q.guest_sends in
    let two : b ≡ b' = p.guest_gets ∙ ap (λ (n : Moment). length n.guest.got) there ∙ sym q.guest_gets in
    let three : e ≡ e' = p.host_sends ∙ ap (λ (n : Moment). length n.host.sent) there ∙ sym q.host_sends in
    let four : f ≡ f' = p.host_gets ∙ ap (λ (n : Moment). length n.host.got) there ∙ sym q.host_gets in
    cc (steps, one, two, three, four)

pub verdict_same : (d : ℕ) (ls : List TraceLine) (a b : Verdict) → IsVerdict d ls a → IsVerdict d ls b → a ≡ b
verdict_same d ls (Run s a b e f) (Run s' a' b' e' f') p q = run_same d ls s a b e f s' a' b' e' f' p q
verdict_same d ls (Run s a b e f) (Wrong line why) p q = absurd (run_not_wrong (opened_at d) p.moment ls line why p.run q)
verdict_same d ls (Wrong line why) (Run s a b e f) p q = absurd (run_not_wrong (opened_at d) q.moment ls line why q.run p)
verdict_same d ls (Wrong line why) (Wrong line' why') p q =
    let both = first_wrong p.good q.good p.bad q.bad p.rest q.rest (opened_at d) p.moment q.moment why why' (sym p.split ∙ q.split) p.run q.run p.wrong q.wrong in
    let number : line ≡ line' = sym p.number ∙ ap (λ (l : TraceLine). l.number) both.0 ∙ q.number in
    let reason : why ≡ why' = both.1 in
    cc (number, reason)
