-- Which of the two ends of a channel marked itself first.
use Rattle.std.proofs.Common.{◌≡◌, ◌⊎◌, ℕ, Bool, true, false, List, [], ◌∷◌, ◌++◌, Option, Some, None, refl, sym, ap, ◌∙◌, inl, inr}
use Rattle.page_kept.specs.declared.item.Item.{Item}
use Rattle.channel_trace.specs.declared.event.Event.{Event}
use Rattle.channel_trace.specs.declared.event.Event.TheVariants.{Sent, Got, Empty, Marked as MarkedEvent, Saw}
use Rattle.channel_trace.specs.Laws.{AreOfOneRun, EndsAtMark, Follows, MarksFirst}
use Rattle.channel_trace.specs.Runs.{has_marked, has_seen, is_drained, guest_of, host_of}
use Rattle.channel_trace.proofs.Pasts.{true_false}
use Rattle.channel_trace.proofs.RunLaws.{ends_at_mark, has_first_mark}
use Rattle.channel_model.specs.Channel.{RequestPlan, AskerEnds, AskerSettles, ServerEnds, ServerStops}
use Rattle.channel_model.specs.WireFormat.{WireFormat}
use Rattle.hist_lock.specs.Seat.{Call}
use Rattle.worker_requester.specs.Asking.{AsksBy}
use Rattle.worker_server.specs.Serving.{Serving, EndsBy}
use Rattle.worker_port.specs.Line.{Line}
use Rattle.worker_port.specs.declared.ended.Ended.{Ended}
use Rattle.worker_port.specs.declared.ended.Ended.TheVariants.{Marked, PeerMarked, Room, Broken}
use Rattle.bus_threads.specs.Pairs.{LeavesOne, MarkedFirst, is_whole}

-- how an end ended is by what it saw before it marked itself
abbrev pub EndsSo : {P : Type 0} → Ended → List (Event P) → Type 0
EndsSo Marked past = (has_marked past ≡ true) × (has_seen past ≡ false)
EndsSo PeerMarked past = (has_marked past ≡ true) × (has_seen past ≡ true)
EndsSo (Room packets words left) past = ⊥
EndsSo (Broken why) past = ⊥

pub asks_so : {A Q R : Type 0} (s : WireFormat Item A Q R) (how : Ended) (asks : List A) (past : List (Event Item)) (told : List R) → is_whole how ≡ true → AsksBy s how asks past told → EndsSo how past
asks_so s Marked asks past told whole by = (by.1, by.2)
asks_so s PeerMarked asks past told whole by = (by.1, by.2)
asks_so s (Room packets words left) asks past told whole by = absurd (cc (whole))
asks_so s (Broken why) asks past told whole by = absurd (cc (whole))

pub serves_so : {T S E A Q R : Type 0} (s : WireFormat Item A Q R) (besides : Bool) (how : Ended) (w : Serving T S E Q R) (e : Line E) (calls : List (Call Q R)) → is_whole how ≡ true → EndsBy s besides how w e calls → EndsSo how e.state.past
serves_so s besides Marked w e calls whole by = (by.3, by.4)
serves_so s besides PeerMarked w e calls whole by = (by.3, by.4)
serves_so s besides (Room packets words left) w e calls whole by = absurd (cc (whole))
serves_so s besides (Broken why) w e calls whole by = absurd (cc (whole))

-- an end that stops nowhere follows the other one
pub stops_nowhere : {P A Q R : Type 0} (s : WireFormat P A Q R) (plan : RequestPlan A) (past : List (Event P)) (calls : List (Call Q R)) → plan.stop ≡ None → ServerEnds s plan past calls → Follows past
stops_nowhere s plan past calls none ends = by_end ends.end
  where
    by_end : {X Y : Type 0} → (ServerStops s plan past calls × X × Y) ⊎ ((is_drained past ≡ true) × Follows past) → Follows past
    by_end (inl stops) = absurd (let z : None ≡ Some stops.0.after = sym none ∙ stops.0.stop in cc)
    by_end (inr follows) = follows.1

-- one that follows saw the other end's mark
follows_seen : {P : Type 0} (past : List (Event P)) → Follows past → has_marked past ≡ true → has_seen past ≡ true
follows_seen [] f marked = absurd (cc)
follows_seen (Sent p ∷ past) f marked = follows_seen past f marked
follows_seen (Got p ∷ past) f marked = follows_seen past f marked
follows_seen (Empty ∷ past) f marked = follows_seen past f marked
follows_seen (MarkedEvent ∷ past) f marked = f.0
follows_seen (Saw ∷ past) f marked = refl

first_unseen : {P : Type 0} (mine other : List (Event P)) → EndsAtMark mine other → MarksFirst mine → has_seen mine ≡ false
first_unseen {P} mine other ends first = ap has_seen (first.is ∙ ap (λ (l : List (Event P)). l ++ MarkedEvent ∷ first.before) (ends first.later first.before first.is)) ∙ first.unseen

-- not both saw the other one's mark
not_both : {P : Type 0} (a b : List (Event P)) → AreOfOneRun a b → has_marked a ≡ true → has_seen a ≡ true → has_seen b ≡ true → ⊥
not_both {P} a b one marked saw seen =
    let ends = ends_at_mark one.turns one.run in
    let first : MarksFirst (guest_of one.turns) ⊎ MarksFirst (host_of one.turns) = (has_first_mark one.turns one.run).guest (ap has_marked one.guest_is ∙ marked) in
    by_first first ends.guest ends.host
  where
    by_first : MarksFirst (guest_of one.turns) ⊎ MarksFirst (host_of one.turns) → EndsAtMark (guest_of one.turns) (host_of one.turns) → EndsAtMark (host_of one.turns) (guest_of one.turns) → ⊥
    by_first (inl m) g h = true_false (has_seen a) saw (ap has_seen (sym one.guest_is) ∙ first_unseen (guest_of one.turns) (host_of one.turns) g m)
    by_first (inr m) g h = true_false (has_seen b) seen (ap has_seen (sym one.host_is) ∙ first_unseen (host_of one.turns) (guest_of one.turns) h m)

-- one that marked itself first settled all
pub settled_first : {P A Q R : Type 0} (s : WireFormat P A Q R) (plan : RequestPlan A) (past : List (Event P)) (told : List R) → AskerEnds s plan past told → has_marked past ≡ true → has_seen past ≡ false → AskerSettles s plan past
settled_first s plan past told ends marked unseen = by_end ends.end
  where
    by_end : AskerSettles s plan past ⊎ ((is_drained past ≡ true) × Follows past) → AskerSettles s plan past
    by_end (inl settles) = settles
    by_end (inr follows) = absurd (true_false (has_seen past) (follows_seen past follows.1 marked) unseen)

-- where the service leaves a request without its answer, the one that asks doesn't mark itself first
pub marked_first : {P : Type 0} (stop : Option (ℕ × Bool)) (count : ℕ) (asked served : Ended) (a s : List (Event P)) → AreOfOneRun a s → EndsSo asked a → EndsSo served s → (stop ≡ None → Follows s)
    → ((k : ℕ × Bool) → stop ≡ Some k → LeavesOne k count → has_marked a ≡ true → has_seen a ≡ false → ⊥) → MarkedFirst stop count asked served
marked_first None count Marked Marked a s one e f follows before = absurd (true_false (has_seen s) (follows_seen s (follows refl) f.0) f.1)
marked_first None count Marked PeerMarked a s one e f follows before = (refl, refl)
marked_first None count PeerMarked Marked a s one e f follows before = absurd (true_false (has_seen s) (follows_seen s (follows refl) f.0) f.1)
marked_first None count PeerMarked PeerMarked a s one e f follows before = absurd (not_both a s one e.0 e.1 f.1)
marked_first (Some k) count Marked served a s one e f follows before = (inl refl, λ leaves. absurd (before k refl leaves e.0 e.1))
marked_first (Some k) count PeerMarked Marked a s one e f follows before = (inr refl, λ leaves. (refl, refl))
marked_first (Some k) count PeerMarked PeerMarked a s one e f follows before = absurd (not_both a s one e.0 e.1 f.1)
marked_first stop count (Room packets words left) served a s one e f follows before = absurd e
marked_first stop count (Broken why) served a s one e f follows before = absurd e
marked_first stop count asked (Room packets words left) a s one e f follows before = absurd f
marked_first stop count asked (Broken why) a s one e f follows before = absurd f
