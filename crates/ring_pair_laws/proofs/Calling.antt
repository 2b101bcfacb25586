-- What a send, a commit and a take leave of both ends.
use Rattle.std.proofs.Common.{◌≡◌, ℕ, ◌<◌, ◌+◌, List, [], length, get_or, Result, IfOk, refl, sym, ap, ◌∙◌, subst, arith, inl, inr}
use Rattle.io_edge.specs.declared.side.Side.{Side}
use Rattle.ring_machine.specs.declared.last.Signalled.{Signalled}
use Rattle.ring_machine.specs.declared.last.SendRefusal.{SendRefusal}
use Rattle.ring_machine.specs.declared.last.TakeRefusal.{TakeRefusal}
use Rattle.ring_machine.specs.declared.state.EndState.{EndState}
use Rattle.ring_machine.specs.Places.{peer_of, base_of, out_of}
use Rattle.ring_machine.specs.Steps.{send_begun, take_begun, commit_begun}
use Rattle.ring_machine.specs.States.{IsPacket, IsAwake, entered}
use Rattle.ring_core.specs.declared.room.Room.{Room}
use Rattle.ring_core.specs.Told.{Held, Memory}
use Rattle.ring_core.specs.Seen.{Seen, Kept}
use Rattle.ring_pair_laws.specs.Pair.{TwoEnds, IsPair, SendKeeps, TakeKeeps, end_of, handed, called, memory_of, cells_of}
use Rattle.ring_pair_laws.specs.Results.{SendMeets}
use Rattle.ring_pair_laws.specs.Signals.{send_raises, signalled}
use Rattle.ring_pair_laws.specs.Calls.{SendSays, CommitSays, TakeSays, IsAwakeAt, AfterSend, AfterCommit, AfterTake}
use Rattle.ring_pair_laws.proofs.Pairing.{Called, call_on, held_at, handed_stays, lent_is, lent_memory, stays, send_meets, TakeMeets, take_meets, off_by, clear_by, lends_none}
use Rattle.ring_pair_laws.proofs.Knowing.{call_knows}
use Rattle.ring_pair_laws.proofs.Raising.{Committing, commit_keeps, commit_ends, Sending, send_keeps, send_ends}

is_awake : (s : TwoEnds) (x : Side) → IsPair s → IsAwakeAt s x → IsAwake (end_of (handed s x) x).state
is_awake s x ok awake =
    let same = (handed_stays s x x).state in
    record { idle = (held_at s x ok).rests.idle; awake = ap (λ (e : EndState). e.machine.asleep) same ∙ awake.0; unmarked = ap (λ (e : EndState). e.machine.marked) same ∙ awake.1 }

pub after_send : (s : TwoEnds) (x : Side) (q : List ℕ) (new : Seen Held) (result : Result Signalled SendRefusal) → IsPair s → IsAwakeAt s x → IsPacket q → length q + 1 < (end_of s x).state.machine.cells
    → SendSays (end_of (handed s x) x) new q result → AfterSend s (called s x new) x q result
after_send s x q new result ok awake packet fits says =
    let old : Seen Held = end_of (handed s x) x in
    let was = handed_stays s x x in
    let h = held_at s x ok in
    let idle = h.rests.idle in
    let mine : new ≡ end_of (called s x new) x = sym (lent_is s x new) in
    let wide : length q + 1 < old.state.machine.cells = omega (arith, fits, ap (λ (e : EndState). e.machine.cells) was.state) in
    let c : Called s x q new = call_on s x ok (send_begun old.state.machine (length q)) q new ((h.rests.clear, off_by old.state h.rests), inl (refl, packet, wide, is_awake s x ok awake, lends_none old.state q h.rests)) (says.ran idle) (says.leaves idle).stage in
    let n : ℕ = cells_of s in
    let ws : List ℕ = (memory_of s).words in
    let write : ℕ = (end_of s x).state.machine.write in
    let knows = call_knows (λ (n : ℕ) (x : Side). Sending n x write ws) (send_keeps write ws) n x (entered old.state (send_begun old.state.machine (length q)) q) new.state old.seat.memory new.seat.memory (says.ran idle)
    (ap (λ (m : Memory). m.due) h.memory ∙ ok.alone) h.both.fits.side h.both.fits.cells (record {
      mask = ap (λ (m : Memory). get_or m.words (base_of n (out_of x) + 2) 0) h.memory;
      read = ap (λ (m : Memory). get_or m.words (base_of n (out_of x) + 1) 0) h.memory;
      at = ap (λ (e : EndState). e.machine.write) was.state;
    }) in
    record {
      pair = c.pair;
      sent = subst (λ (k : EndState × EndState × Result Signalled SendRefusal). SendMeets k.2 q k.0 k.1 (end_of s (peer_of x)).state) (λ j. (was.state j, (mine j).state, sym (says.answer idle).0 j))
          (send_meets n x _ _ q old.state (end_of s (peer_of x)).state new.state h.both c.goes c.idle (says.answer idle).1 ((says.after idle).whole c.idle) (says.sent idle));
      raises = subst (λ (r : Result Signalled SendRefusal). IfOk r (λ g. g ≡ signalled (send_raises n ws x write))) (sym (says.answer idle).0) (send_ends n x write ws new.state.machine new.seat.memory.words c.idle knows);
      indices = subst (SendKeeps (end_of s x)) mine (record {
        read = (says.after idle).read (λ h. cc) ∙ ap (λ (e : EndState). e.machine.read) was.state;
        start = (says.after idle).start (λ h. cc) ∙ ap (λ (e : EndState). e.machine.start) was.state;
      });
      got = (ap (λ (y : Seen Held). y.state.got) (sym mine) ∙ (says.kept.0 ∙ ap (λ (e : EndState). e.got) was.state), ap (λ (y : Seen Held). y.spare_got) (sym mine) ∙ (says.kept.1 ∙ was.spare_got));
      awake = (ap (λ (y : Seen Held). y.state.machine.asleep) (sym mine) ∙ says.awake.0, ap (λ (y : Seen Held). y.state.machine.marked) (sym mine) ∙ says.awake.1);
      room = (
        omega (arith, says.room.packets, ap (λ (r : Room). r.packets) was.spare_sent, ap (λ (y : Seen Held). y.spare_sent.packets) mine),
        omega (arith, says.room.words, ap (λ (r : Room). r.words) was.spare_sent, ap (λ (y : Seen Held). y.spare_sent.words) mine),
      );
      other = stays s x new;
    }

pub after_commit : (s : TwoEnds) (x : Side) (new : Seen Held) (answer : Signalled) → IsPair s → IsAwakeAt s x → CommitSays (end_of (handed s x) x) new answer → AfterCommit s (called s x new) x answer
after_commit s x new answer ok awake says =
    let old : Seen Held = end_of (handed s x) x in
    let was = handed_stays s x x in
    let h = held_at s x ok in
    let mine : end_of (called s x new) x ≡ new = lent_is s x new in
    let c : Called s x [] new = call_on s x ok (commit_begun old.state.machine) [] new ((h.rests.clear, off_by old.state h.rests), inr (inr (inl (refl, refl, is_awake s x ok awake, clear_by old.state h.rests)))) says.ran says.leaves.stage in
    let n : ℕ = cells_of s in
    let ws : List ℕ = (memory_of s).words in
    let start : ℕ = (end_of s x).state.machine.start in
    let read : ℕ = (end_of s x).state.machine.read in
    let knows = call_knows (λ (n : ℕ) (x : Side). Committing n x start read ws) (commit_keeps start read ws) n x (entered old.state (commit_begun old.state.machine) []) new.state old.seat.memory new.seat.memory says.ran
    (ap (λ (m : Memory). m.due) h.memory ∙ ok.alone) h.both.fits.side h.both.fits.cells
    (ap (λ (m : Memory). m.words) h.memory, ap (λ (e : EndState). e.machine.start) was.state, ap (λ (e : EndState). e.machine.read) was.state) in
    let ends = commit_ends n x start read ws new.state.machine new.seat.memory.words c.idle knows in
    record {
      pair = c.pair;
      raises = says.answer_is ∙ ends.0;
      words = ap (λ (m : Memory). m.words) (lent_memory s x new) ∙ ends.1;
      committed = ap (λ (y : Seen Held). y.state.machine.start) mine ∙ (says.after.committed refl ∙ (says.after.read (λ h. cc) ∙ ap (λ (e : EndState). e.machine.read) was.state));
      kept = subst (λ (y : Seen Held). Kept (end_of s x) y) (sym mine) (record {
        sent = says.kept.sent ∙ ap (λ (e : EndState). e.sent) was.state;
        got = says.kept.got ∙ ap (λ (e : EndState). e.got) was.state;
        pages = says.kept.pages ∙ ap (λ (e : EndState). e.pages) was.state;
        spare_sent = says.kept.spare_sent ∙ was.spare_sent;
        spare_got = says.kept.spare_got ∙ was.spare_got;
      });
      awake = (
        ap (λ (y : Seen Held). y.state.machine.asleep) mine ∙ says.after.awake (λ h. cc) (λ h. cc),
        ap (λ (y : Seen Held). y.state.machine.marked) mine ∙ says.after.unmarked (λ h. cc),
      );
      other = stays s x new;
    }

pub after_take : (s : TwoEnds) (x : Side) (new : Seen Held) (result : Result (List ℕ) TakeRefusal) → IsPair s → IsAwakeAt s x → TakeSays (end_of (handed s x) x) new result → AfterTake s (called s x new) x result
after_take s x new result ok awake says =
    let old : Seen Held = end_of (handed s x) x in
    let was = handed_stays s x x in
    let h = held_at s x ok in
    let t = says.takes in
    let f = t.idle h.rests.idle in
    let mine : new ≡ end_of (called s x new) x = sym (lent_is s x new) in
    let c : Called s x [] new = call_on s x ok (take_begun old.state.machine) [] new ((h.rests.clear, off_by old.state h.rests), inr (inl (refl, refl, is_awake s x ok awake, clear_by old.state h.rests))) f.ran f.leaves.stage in
    record {
      pair = c.pair;
      keeps = subst (TakeKeeps (end_of s x)) mine (record {
        awake = t.awake;
        start = f.after.start (λ h. cc) ∙ ap (λ (e : EndState). e.machine.start) was.state;
        sent = t.kept.0 ∙ ap (λ (e : EndState). e.sent) was.state;
        spare_sent = t.kept.1 ∙ was.spare_sent;
        packets = omega (arith, t.room.0, ap (λ (r : Room). r.packets) was.spare_got);
        words = omega (arith, t.room.1, ap (λ (r : Room). r.words) was.spare_got);
      });
      takes = subst (λ (k : EndState × EndState × EndState). TakeMeets result k.0 (end_of s (peer_of x)).state k.1 k.2) (λ j. (was.state j, (mine j).state, sym (stays s x new).state j))
          (take_meets (cells_of s) x _ _ old.state (end_of s (peer_of x)).state new.state h.both c.goes c.idle f.call (f.after.whole c.idle) (λ i. (f.refused i).0) result f.answer says.lends);
      other = stays s x new;
    }
