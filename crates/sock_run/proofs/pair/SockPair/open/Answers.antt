use Rattle.std.proofs.Common.{◌≡◌, ◌<◌, ℕ, List, length, get_or, ap, sym, ◌∙◌, subst}
use Rattle.ring_machine.specs.declared.state.EndState.{EndState}
use Rattle.ring_seat.specs.declared.table_seat.TableSeat.{TableSeat}
use Rattle.hv_sock.specs.Streams.{fault_in}
use Rattle.sock_workers.specs.Pieces.{packets_for}
use Rattle.sock_run.proofs.pair.SockPair.open.Goals as goal

pub invariant_of-result : goal.invariant_of-result
invariant_of-result c =
    let e = c.in_ok-guest.ensures in
    let g = c.in_ok-guest-2.ensures in
    let h = c.in_ok-host.ensures in
    let input = g.input.0 in
    let bytes : c.as_slice.result.now ≡ c.args.input.items = c.as_slice.ensures.value in
    record {
      one_channel = record {
        same = ap (λ (s : TableSeat). s.seat.table_id) g.end.1 ∙ (e.one_channel.same ∙ sym (ap (λ (s : TableSeat). s.seat.table_id) h.end.1));
        guest = ap (λ (s : EndState). s.machine.side) g.end.0 ∙ e.one_channel.guest;
        host = ap (λ (s : EndState). s.machine.side) h.end.0 ∙ e.one_channel.host;
      };
      guest_room = g.input.1 ∙ ap (λ (l : List ℕ). packets_for (length l)) (sym input);
      host_room = h.room ∙ (c.packets_for-packets.ensures ∙ ap packets_for (c.len.ensures ∙ (c.args.input.ok.0 ∙ ap length (sym input))));
      guest_live = ap (λ (s : EndState). fault_in s.got) (g.end.0 ∙ e.guest);
      host_live = ap (λ (s : EndState). fault_in s.got) (h.end.0 ∙ e.host);
      bytes = λ i. subst (λ (l : List ℕ). get_or l i 0 < 256) (bytes ∙ sym input) (c.are_bytes.ensures i);
    }
