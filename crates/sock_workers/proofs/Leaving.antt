-- What the workers of a socket leave, once they marked their ends.
use Rattle.std.proofs.Common.{◌≡◌, ◌∷◌, ◌++◌, ◌&&◌, ℕ, Bool, true, false, cond, List, [], Option, drop, sym, ap, ◌∙◌, subst, ⊎_elim, inl, inr}
use Rattle.channel_trace.specs.declared.event.Event.TheVariants.{Marked as MarkedEvent}
use Rattle.channel_trace.specs.Runs.{has_marked, has_seen, is_drained}
use Rattle.channel_trace.specs.Laws.{Follows}
use Rattle.ring_core.specs.Seen.{Seen}
use Rattle.ring_seat.specs.Settling.{IsSameEnd}
use Rattle.ring_seat.specs.declared.table_seat.TableSeat.{TableSeat}
use Rattle.hv_sock.specs.Streams.{is_closed, fault_in, stream_of}
use Rattle.sock_workers.specs.declared.ended.Ended.{Ended}
use Rattle.sock_workers.specs.declared.ended.Ended.TheVariants.{Marked, PeerMarked, Room, Fault}
use Rattle.sock_workers.specs.Pieces.{echoed, ending, owed, packets_of}
use Rattle.sock_workers.specs.Ports.{UsesUp}
use Rattle.sock_workers.specs.Workers.{Echoes, Guest, GuestGoes, GuestLeaves, Host, HostLeaves, IsGuest, IsHost, LeavesEnd, is_over, unsent}

module _ (e r : Seen TableSeat) (lists : (r.state.sent ≡ e.state.sent) × (r.state.got ≡ e.state.got)) (past : r.state.past ≡ MarkedEvent ∷ e.state.past) where
  over : is_over r ≡ is_over e
  over = ap (λ s. is_closed s && is_closed r.state.got) lists.0 ∙ ap (λ g. is_closed e.state.sent && is_closed g) lists.1

  marks_so : (how : Ended) (room : ℕ) → LeavesEnd how room e → LeavesEnd how room r
  marks_so Marked room left = over ∙ left
  marks_so PeerMarked room left = record {
    over = over ∙ left.over;
    seen = ap has_seen past ∙ left.seen;
    follows = subst Follows (sym past) (left.seen, left.follows);
    left = ⊎_elim (λ (unclosed : is_closed e.state.sent ≡ false). inl (ap is_closed lists.0 ∙ unclosed)) (λ (drained : is_drained e.state.past ≡ true). inr (ap is_drained past ∙ drained)) left.left;
  }
  marks_so Room room left =
      ⊎_elim
      (λ (s : (is_closed e.state.sent ≡ false) × UsesUp room e.state.sent). inl (ap is_closed lists.0 ∙ s.0, subst (UsesUp room) (sym lists.0) s.1))
      (λ (g : (is_closed e.state.got ≡ false) × UsesUp room e.state.got). inr (ap is_closed lists.1 ∙ g.0, subst (UsesUp room) (sym lists.1) g.1))
      left
  marks_so (Fault f) room left = ap fault_in lists.1 ∙ left

  echoes_so : (held : Option (List ℕ)) → Echoes held e → Echoes held r
  echoes_so held ok = record {
    pieces = ap (λ s. s ++ owed held) lists.0 ∙ (ok.pieces ∙ (ap (λ g. echoed g ++ ending (is_closed e.state.sent)) (sym lists.1) ∙ ap (λ s. echoed r.state.got ++ ending (is_closed s)) (sym lists.0)));
    behind = λ closed. (ap is_closed lists.1 ∙ (ok.behind (sym (ap is_closed lists.0) ∙ closed)).0, (ok.behind (sym (ap is_closed lists.0) ∙ closed)).1);
  }

  marked_now : has_marked r.state.past ≡ true
  marked_now = ap has_marked past

-- a host that marks its end
pub host_leaves : (w v : Host) (held : Option ℕ) (shut closed : Bool) (how : Ended) (r : Seen TableSeat) → w ≡ v → IsHost v held shut closed → LeavesEnd how w.port.room w.port.end → IsSameEnd v.port.end r
    → (r.state.sent ≡ v.port.end.state.sent) × (r.state.got ≡ v.port.end.state.got) → r.state.past ≡ MarkedEvent ∷ v.port.end.state.past → HostLeaves w how r
host_leaves w v held shut closed how r is ok left same lists past = subst (λ (x : Host). HostLeaves x how r) (sym is) (record {
  ended = marks_so v.port.end r lists past how v.port.room (subst (λ (x : Host). LeavesEnd how x.port.room x.port.end) is left);
  held = v.held;
  echoes = echoes_so v.port.end r lists past v.held ok.echoes;
  same = same;
  marked = marked_now v.port.end r lists past;
})

-- and a guest
pub guest_leaves : (w v : Guest) (shut closed : Bool) (n : ℕ) (how : Ended) (r : Seen TableSeat) → w ≡ v → IsGuest v shut closed n → LeavesEnd how w.port.room w.port.end → IsSameEnd v.port.end r
    → (r.state.sent ≡ v.port.end.state.sent) × (r.state.got ≡ v.port.end.state.got) → r.state.past ≡ MarkedEvent ∷ v.port.end.state.past → GuestLeaves w how v.output r
guest_leaves w v shut closed n how r is ok left same lists past = subst (λ (x : Guest). GuestLeaves x how v.output r) (sym is) (record {
  ended = marks_so v.port.end r lists past how v.port.room (subst (λ (x : Guest). LeavesEnd how x.port.room x.port.end) is left);
  unsent_are = unsent v;
  sent = ap (λ s. s ++ unsent v) lists.0 ∙ ok.sends;
  all = λ over. ap (λ b. cond b [] (packets_of (drop v.at v.input))) (sym (ap is_closed lists.0) ∙ over);
  output_is = ok.keeps ∙ ap stream_of (sym lists.1);
  same = same;
  marked = marked_now v.port.end r lists past;
})

-- what a guest leaves later is left of it as it was before
pub guest_later : (w v : Guest) (how : Ended) (output : List ℕ) (r : Seen TableSeat) → GuestGoes w v → GuestLeaves v how output r → GuestLeaves w how output r
guest_later w v how output r goes left = record {
  ended = subst (λ n. LeavesEnd how n r) goes.port.room left.ended;
  unsent_are = left.unsent_are;
  sent = left.sent ∙ ap packets_of goes.input;
  all = left.all;
  output_is = left.output_is;
  same = record { seat = left.same.seat ∙ goes.port.same.seat; side = left.same.side ∙ goes.port.same.side };
  marked = left.marked;
}
