-- Each line of a run keeps the rule.
use Rattle.std.proofs.Common.{◌≡◌, ℕ, ◌+◌, ◌*◌, ◌/◌, ◌<◌, ◌≤◌, Bool, true, false, cond, ltb, List, [], ◌∷◌, ◌++◌, Option, Some, None, refl, sym, ◌∙◌, ap, subst, arith, inl, inr}
use Rattle.io_edge.specs.declared.side.Side.{Side}
use Rattle.io_edge.specs.declared.side.Side.TheVariants.{Guest, Host}
use Rattle.page_kept.specs.declared.kept.Kept.{Kept}
use Rattle.page_kept.specs.Kept.{no_pages}
use Rattle.ring_machine.specs.declared.place.Op.{Op}
use Rattle.ring_machine.specs.declared.machine.EndMachine.{EndMachine}
use Rattle.ring_machine.specs.declared.machine.Stage.{Stage}
use Rattle.ring_machine.specs.declared.machine.Stage.TheVariants.{Idle, SendWrite, TakeFirst, TakeCell}
use Rattle.ring_machine.specs.declared.state.EndState.{EndState}
use Rattle.ring_machine.specs.Places.{IsRingSize, peer_of}
use Rattle.ring_machine.specs.Steps.{next_of, fed}
use Rattle.ring_machine.specs.Endings.{IsWant, want_of}
use Rattle.ring_machine.specs.States.{after, entered, Begins, copied_at, copied_after, pages_after}
use Rattle.ring_core.specs.Told.{written, answer_in}
use Rattle.ring_seat.specs.Rule.{OwnPart, ChannelInvariant, with_end}
use Rattle.ring_seat.specs.Waking.{WakePending}
use Rattle.trace_model.specs.declared.what.TraceCall.{TraceCall}
use Rattle.trace_model.specs.declared.what.TraceCall.TheVariants.{Send, Take, Commit, Arm, Poll, Mark, PeerMark}
use Rattle.trace_model.specs.declared.what.TraceWhat.{TraceWhat}
use Rattle.trace_model.specs.declared.what.TraceWhat.TheVariants.{Call, Step}
use Rattle.trace_model.specs.Traces.{TraceLine, Moment, end_at, MayCall, begun_by, packet_by, LineLeads, LinesLead, IsTraceRun, opened_at}
use Rattle.trace_model.proofs.Leading.{lead_split}
use Rattle.trace_laws.proofs.Beginnings.{first_keeps}

-- an end without data pages, which copies no packet where no call is under way
record Quiet (e : EndState) : Type 0 where
  pages : e.pages ≡ no_pages
  copied : e.machine.stage ≡ Idle → e.copied ≡ []

same_either : {A : Type 0} (b : Bool) (x : A) → cond b x x ≡ x
same_either true x = refl
same_either false x = refl

none_after : (st : Stage) (m : EndMachine) (p xs : List ℕ) (v : ℕ) → pages_after st m no_pages p xs v ≡ no_pages
none_after SendWrite m p xs v = refl
none_after TakeCell m p xs v = same_either (ltb (m.done + 1) m.len) no_pages
none_after _ m p xs v = refl

idle_copied : (st : Stage) (k : EndMachine) (xs : List ℕ) (v : ℕ) → k.stage ≡ Idle → copied_after st k xs v ≡ []
idle_copied TakeFirst k xs v is = ap (λ (s : Stage). copied_at s (v ∷ [])) is
idle_copied TakeCell k xs v is = ap (λ (s : Stage). copied_at s (xs ++ v ∷ [])) is
idle_copied _ k xs v is = refl

quiet_after : (e : EndState) (v : ℕ) → Quiet e → Quiet (after e v)
quiet_after e v q = record {
  pages = ap (λ (k : Kept). pages_after e.machine.stage e.machine k e.packet e.copied v) q.pages ∙ none_after e.machine.stage e.machine e.packet e.copied v;
  copied = λ idle. idle_copied e.machine.stage (fed e.machine v) e.copied v idle;
}

want_less : (want : Option ℕ) (n : ℕ) → 512 ≤ n → IsWant n want → want_of want < 8 * n
want_less None n large is = omega (arith, large)
want_less (Some want) n large is = is.1

-- a call that may begin begins
begins : (c : TraceCall) (e : EndState) → 512 ≤ e.machine.cells → Quiet e → MayCall c e → Begins e (begun_by c e.machine) (packet_by c)
begins (Send p) e large q may = ((q.copied may.0.idle, ap (λ (k : Kept). k.call) q.pages), inl (refl, may.1, may.2, may.0, λ some. absurd (some (ap (λ (k : Kept). k.count) q.pages))))
begins Take e large q may = ((q.copied may.idle, ap (λ (k : Kept). k.call) q.pages), inr (inl (refl, refl, may, ap (λ (k : Kept). k.due) q.pages)))
begins Commit e large q may = ((q.copied may.idle, ap (λ (k : Kept). k.call) q.pages), inr (inr (inl (refl, refl, may, ap (λ (k : Kept). k.due) q.pages))))
begins (Arm want) e large q may =
    ((q.copied may.0.idle, ap (λ (k : Kept). k.call) q.pages), inr (inr (inr (inl (want_of want, refl, want_less want e.machine.cells large may.2, refl, may.0, may.1, ap (λ (k : Kept). k.due) q.pages)))))
begins Poll e large q may = ((q.copied may.0, ap (λ (k : Kept). k.call) q.pages), inr (inr (inr (inr (inl (refl, refl, may.0, may.1))))))
begins Mark e large q may = ((q.copied may.idle, ap (λ (k : Kept). k.call) q.pages), inr (inr (inr (inr (inr (inl (refl, refl, may, ap (λ (k : Kept). k.due) q.pages)))))))
begins PeerMark e large q may = ((q.copied may.idle, ap (λ (k : Kept). k.call) q.pages), inr (inr (inr (inr (inr (inr (refl, refl, may)))))))

may_idle : (c : TraceCall) (e : EndState) → MayCall c e → e.machine.stage ≡ Idle
may_idle (Send p) e may = may.0.idle
may_idle Take e may = may.idle
may_idle Commit e may = may.idle
may_idle (Arm want) e may = may.0.idle
may_idle Poll e may = may.0
may_idle Mark e may = may.idle
may_idle PeerMark e may = may.idle

quiet_entered : (c : TraceCall) (e : EndState) (m : EndMachine) (p : List ℕ) → Quiet e → MayCall c e → Quiet (entered e m p)
quiet_entered c e m p q may = record { pages = q.pages; copied = λ idle. q.copied (may_idle c e may) }

-- what is known where a run stands
record Goes (n : ℕ) (m : Moment) : Type 0 where
  rule : ChannelInvariant n m.words (end_at m)
  guest : Quiet m.guest
  host : Quiet m.host

-- another end at a side
guest_own : (n : ℕ) (ws : List ℕ) (e : EndState) (m : Moment) → ChannelInvariant n ws (with_end Guest e (end_at m)) → (x : Side) → OwnPart n ws x (end_at (record { words = ws; guest = e; host = m.host }) x)
guest_own n ws e m h Guest = h.own Guest
guest_own n ws e m h Host = h.own Host

guest_wakes : (n : ℕ) (ws : List ℕ) (e : EndState) (m : Moment) → ChannelInvariant n ws (with_end Guest e (end_at m)) → (x : Side)
    → WakePending n ws x (end_at (record { words = ws; guest = e; host = m.host }) x).machine (end_at (record { words = ws; guest = e; host = m.host }) (peer_of x)).machine
guest_wakes n ws e m h Guest = h.wakes Guest
guest_wakes n ws e m h Host = h.wakes Host

guest_rule : (n : ℕ) (ws : List ℕ) (e : EndState) (m : Moment) → ChannelInvariant n ws (with_end Guest e (end_at m)) → ChannelInvariant n ws (end_at (record { words = ws; guest = e; host = m.host }))
guest_rule n ws e m h = record { channel = h.channel; own = guest_own n ws e m h; wakes = guest_wakes n ws e m h }

host_own : (n : ℕ) (ws : List ℕ) (e : EndState) (m : Moment) → ChannelInvariant n ws (with_end Host e (end_at m)) → (x : Side) → OwnPart n ws x (end_at (record { words = ws; guest = m.guest; host = e }) x)
host_own n ws e m h Guest = h.own Guest
host_own n ws e m h Host = h.own Host

host_wakes : (n : ℕ) (ws : List ℕ) (e : EndState) (m : Moment) → ChannelInvariant n ws (with_end Host e (end_at m)) → (x : Side)
    → WakePending n ws x (end_at (record { words = ws; guest = m.guest; host = e }) x).machine (end_at (record { words = ws; guest = m.guest; host = e }) (peer_of x)).machine
host_wakes n ws e m h Guest = h.wakes Guest
host_wakes n ws e m h Host = h.wakes Host

host_rule : (n : ℕ) (ws : List ℕ) (e : EndState) (m : Moment) → ChannelInvariant n ws (with_end Host e (end_at m)) → ChannelInvariant n ws (end_at (record { words = ws; guest = m.guest; host = e }))
host_rule n ws e m h = record { channel = h.channel; own = host_own n ws e m h; wakes = host_wakes n ws e m h }

-- the laws of the rule
abbrev pub StepLaw : Type 0
StepLaw = (n : ℕ) (ws : List ℕ) (ends : Side → EndState) (x : Side) (op : Op) → ChannelInvariant n ws ends → next_of (ends x).machine (ends x).packet ≡ Some op
    → ChannelInvariant n (written n op ws) (with_end x (after (ends x) (answer_in n op ws)) ends)

abbrev pub CallLaw : Type 0
CallLaw = (n : ℕ) (ws : List ℕ) (ends : Side → EndState) (x : Side) (m : EndMachine) (p : List ℕ) → ChannelInvariant n ws ends → Begins (ends x) m p
    → ChannelInvariant n ws (with_end x (entered (ends x) m p) ends)

-- a step on the words, whose end counts these cells and was answered so
stepped : (n : ℕ) (c : ℕ) (ws : List ℕ) (ends : Side → EndState) (x : Side) (op : Op) (v : ℕ) → c ≡ n → answer_in c op ws ≡ v
    → ChannelInvariant n (written n op ws) (with_end x (after (ends x) (answer_in n op ws)) ends) → ChannelInvariant n (written c op ws) (with_end x (after (ends x) v) ends)
stepped n c ws ends x op v cells answer h =
    subst (λ (k : ℕ). ChannelInvariant n (written k op ws) (with_end x (after (ends x) v) ends)) (sym cells)
    (subst (λ (u : ℕ). ChannelInvariant n (written n op ws) (with_end x (after (ends x) u) ends)) (ap (λ (k : ℕ). answer_in k op ws) (sym cells) ∙ answer) h)

line_keeps : (step : StepLaw) (call : CallLaw) (n : ℕ) (w : TraceWhat) (m k : Moment) → 512 ≤ n → Goes n m → LineLeads w m k → Goes n k
line_keeps step call n (Call Guest c) m k large g leads =
    let cells : 512 ≤ m.guest.machine.cells = omega (arith, large, g.rule.channel.guest_fits.cells) in
    let e : EndState = entered m.guest (begun_by c m.guest.machine) (packet_by c) in
    subst (Goes n) (sym leads.1) (record {
      rule = guest_rule n m.words e m (call n m.words (end_at m) Guest (begun_by c m.guest.machine) (packet_by c) g.rule (begins c m.guest cells g.guest leads.0));
      guest = quiet_entered c m.guest (begun_by c m.guest.machine) (packet_by c) g.guest leads.0;
      host = g.host;
    })
line_keeps step call n (Call Host c) m k large g leads =
    let cells : 512 ≤ m.host.machine.cells = omega (arith, large, g.rule.channel.host_fits.cells) in
    let e : EndState = entered m.host (begun_by c m.host.machine) (packet_by c) in
    subst (Goes n) (sym leads.1) (record {
      rule = host_rule n m.words e m (call n m.words (end_at m) Host (begun_by c m.host.machine) (packet_by c) g.rule (begins c m.host cells g.host leads.0));
      guest = g.guest;
      host = quiet_entered c m.host (begun_by c m.host.machine) (packet_by c) g.host leads.0;
    })
line_keeps step call n (Step Guest op v) m k large g leads =
    subst (Goes n) (sym leads.1) (record {
      rule = guest_rule n (written m.guest.machine.cells op m.words) (after m.guest v) m (stepped n m.guest.machine.cells m.words (end_at m) Guest op v g.rule.channel.guest_fits.cells leads.0.answer (step n m.words (end_at m) Guest op g.rule leads.0.next));
      guest = quiet_after m.guest v g.guest;
      host = g.host;
    })
line_keeps step call n (Step Host op v) m k large g leads =
    subst (Goes n) (sym leads.1) (record {
      rule = host_rule n (written m.host.machine.cells op m.words) (after m.host v) m (stepped n m.host.machine.cells m.words (end_at m) Host op v g.rule.channel.host_fits.cells leads.0.answer (step n m.words (end_at m) Host op g.rule leads.0.next));
      guest = g.guest;
      host = quiet_after m.host v g.host;
    })

lines_keep : (step : StepLaw) (call : CallLaw) (n : ℕ) (ls : List TraceLine) (m k : Moment) → 512 ≤ n → Goes n m → LinesLead ls m k → Goes n k
lines_keep step call n [] m k large g leads = subst (Goes n) (sym leads) g
lines_keep step call n (l ∷ ls) m k large g leads = lines_keep step call n ls leads.0 k large (line_keeps step call n l.what m leads.0 large g leads.1) leads.2

-- where a run stands the channel keeps the rule
pub run_keeps : (step : StepLaw) (call : CallLaw) (d : ℕ) (ls : List TraceLine) (n : Moment) → IsRingSize d → IsTraceRun d ls n → ChannelInvariant (d / 8) n.words (end_at n)
run_keeps step call d ls n size run =
    let large : 512 ≤ d / 8 = omega (arith, size.some) in
    let small : d / 8 ≤ 16777216 = omega (arith, size.most) in
    (lines_keep step call (d / 8) ls (opened_at d) n large (record {
      rule = first_keeps (d / 8) large small;
      guest = record { pages = refl; copied = λ idle. refl };
      host = record { pages = refl; copied = λ idle. refl };
    }) run).rule

-- and after each line
pub front_keeps : (step : StepLaw) (call : CallLaw) (d : ℕ) (first more : List TraceLine) (n : Moment) → IsRingSize d → IsTraceRun d (first ++ more) n
    → (m : Moment) × IsTraceRun d first m × ChannelInvariant (d / 8) m.words (end_at m)
front_keeps step call d first more n size run =
    let cut = lead_split first more (opened_at d) n run in
    (cut.0, cut.1, run_keeps step call d first cut.0 size cut.1)
