-- Two workers that ended left a run of their socket.
use Rattle.std.proofs.Common.{◌≡◌, ℕ, ◌+◌, ◌≤◌, ◌⊎◌, inl, inr, ⊎_elim, Bool, true, false, ◌&&◌, List, [], ◌∷◌, ◌++◌, length, Option, Some, None, append-nil, refl, sym, ap, ◌∙◌, subst, arith}
use Rattle.std.proofs.lemmas.Bool.{and_parts}
use Rattle.channel_trace.specs.Laws.{AreOfOneRun, DrainsAll, StaysUnmarked}
use Rattle.channel_trace.specs.Runs.{IsFront, got_of, is_drained, sent_of}
use Rattle.channel_trace.proofs.Fronts.{front_trans}
use Rattle.channel_trace.proofs.RunLaws.{drains_all, stays_unmarked}
use Rattle.channel_trace.proofs.Steps.{of_guest}
use Rattle.ring_core.specs.Seen.{Seen}
use Rattle.ring_seat.specs.declared.table_seat.TableSeat.{TableSeat}
use Rattle.hv_sock.specs.Packets.{sock_packet}
use Rattle.hv_sock.specs.Streams.{fault_in, is_closed, stream_of}
use Rattle.hv_sock.proofs.PacketLaws.{closed_whole}
use Rattle.hv_sock.proofs.StreamLaws.{reads_all, reads_of}
use Rattle.ring_pair_laws.specs.Lists.{Lists}
use Rattle.sock_workers.specs.declared.ended.Ended.{Ended}
use Rattle.sock_workers.specs.declared.ended.Ended.TheVariants.{Marked, PeerMarked, Room, Fault}
use Rattle.sock_workers.specs.Pieces.{echoed, ending, owed, packets_for, packets_of}
use Rattle.sock_workers.specs.Ports.{UsesUp}
use Rattle.sock_workers.specs.Workers.{Echoes, FollowsPeer, GuestLeaves, HostLeaves, LeavesEnd, is_over}
use Rattle.sock_run.specs.Pairs.{ArePair, Pairing}
use Rattle.sock_run.specs.Runs.{IsSockRun}
use Rattle.sock_run.proofs.PacketRuns.{ArePackets, IsPart, packets_are}

by_bool : {P : Type 0} (b : Bool) → (b ≡ true → P) → (b ≡ false → P) → P
by_bool true f g = f refl
by_bool false f g = g refl

-- a front of the packets of a stream that is closed is all of them
closed_all : (bytes : List ℕ) (w ps : List (List ℕ)) → ArePackets bytes w → IsFront ps w → is_closed ps ≡ true → ps ≡ w
closed_all bytes w ps are f closed = ⊎_elim (λ all. all) (λ part. let bad : true ≡ false = sym closed ∙ part.2.unclosed in absurd (cc)) (are.front ps f)

-- none breaks off
front_whole : (bytes : List ℕ) (w ps : List (List ℕ)) → ArePackets bytes w → IsFront ps w → fault_in ps ≡ None
front_whole bytes w ps are f = ⊎_elim (λ all. closed_whole ps (ap is_closed all ∙ are.closed)) (λ part. part.2.whole) (are.front ps f)

-- and none that isn't closed uses up the room for all of them
never_up : (bytes : List ℕ) (w ps : List (List ℕ)) (room : ℕ) → ArePackets bytes w → IsFront ps w → packets_for (length bytes) ≤ room → is_closed ps ≡ false → UsesUp room ps → ⊥
never_up bytes w ps room are f fits unclosed uses = ⊎_elim (λ all. let bad : true ≡ false = sym are.closed ∙ (ap is_closed (sym all) ∙ unclosed) in absurd (cc)) by_part (are.front ps f)
  where
    by_part : ((n : ℕ) × (n + 1 ≤ packets_for (length bytes)) × IsPart n ps) → ⊥
    by_part part =
        let few = part.2.few in
        let words = part.2.words in
        ⊎_elim (λ full. omega (arith, full, few, part.1, fits)) (λ full. omega (arith, full, few, words, part.1, fits)) uses

-- how a worker ended, where both of its lists are fronts of the packets of one stream
settles : (bytes : List ℕ) (w : List (List ℕ)) (how : Ended) (room : ℕ) (e : Seen TableSeat) → ArePackets bytes w → IsFront e.state.sent w → IsFront e.state.got w → packets_for (length bytes) ≤ room → LeavesEnd how room e
    → (is_over e ≡ true) ⊎ FollowsPeer e
settles bytes w Marked room e are sent got fits leaves = inl leaves
settles bytes w PeerMarked room e are sent got fits leaves = inr leaves
settles bytes w Room room e are sent got fits leaves =
    absurd (⊎_elim (λ s. never_up bytes w e.state.sent room are sent fits s.0 s.1) (λ g. never_up bytes w e.state.got room are got fits g.0 g.1) leaves)
settles bytes w (Fault f) room e are sent got fits leaves = let bad : None ≡ Some f = sym (front_whole bytes w e.state.got are got) ∙ leaves in absurd (cc)

-- what a host sent is a front of them too
host_front : (bytes : List ℕ) (w : List (List ℕ)) (held : Option (List ℕ)) (e : Seen TableSeat) → ArePackets bytes w → IsFront e.state.got w → Echoes held e → IsFront e.state.sent w
host_front bytes w held e are got h = by_bool (is_closed e.state.sent) shut unshut
  where
    shut : is_closed e.state.sent ≡ true → IsFront e.state.sent w
    shut closed =
        let b = h.behind closed in
        let all = closed_all bytes w e.state.got are got b.0 in
        let sent : e.state.sent ≡ w =
        sym (append-nil e.state.sent)
        ∙ (ap (λ (o : Option (List ℕ)). e.state.sent ++ owed o) (sym b.1)
        ∙ (h.pieces ∙ ((λ i. echoed (all i) ++ ending (closed i)) ∙ are.echo))) in
        ([], sym sent ∙ sym (append-nil e.state.sent))

    echo_front : IsFront (echoed e.state.got) w
    echo_front = ⊎_elim (λ all. (sock_packet [] ∷ [], sym are.echo ∙ ap (λ (l : List (List ℕ)). echoed l ++ sock_packet [] ∷ []) (sym all))) (λ part. subst (λ (l : List (List ℕ)). IsFront l w) (sym part.2.echo) got) (are.front e.state.got got)

    unshut : is_closed e.state.sent ≡ false → IsFront e.state.sent w
    unshut still =
        let so : e.state.sent ++ owed held ≡ echoed e.state.got = h.pieces ∙ (ap (λ (b : Bool). echoed e.state.got ++ ending b) still ∙ append-nil (echoed e.state.got)) in
        front_trans e.state.sent (echoed e.state.got) w (owed held, sym so) echo_front

pub record Ends (p : Pairing) (how_g how_h : Ended) (output : List ℕ) (g h : Seen TableSeat) (s : Lists) : Type 0 where
  pub pair : ArePair p
  pub guest : GuestLeaves p.guest how_g output g
  pub host : HostLeaves p.host how_h h
  pub run : AreOfOneRun g.state.past h.state.past
  pub guest_front : IsFront g.state.got h.state.sent
  pub host_front_is : IsFront h.state.got g.state.sent
  pub guest_past : (g.state.sent ≡ sent_of g.state.past) × (g.state.got ≡ got_of g.state.past)
  pub host_past : (h.state.sent ≡ sent_of h.state.past) × (h.state.got ≡ got_of h.state.past)
  pub guest_lists : (s.guest_sent ≡ g.state.sent) × (s.guest_got ≡ g.state.got)
  pub host_lists : (s.host_sent ≡ h.state.sent) × (s.host_got ≡ h.state.got)

module _ (p : Pairing) (how_g how_h : Ended) (output : List ℕ) (g h : Seen TableSeat) (s : Lists) (e : Ends p how_g how_h output g h s) where
  abbrev input : List ℕ
  input = p.guest.input

  abbrev w : List (List ℕ)
  w = packets_of input

  are : ArePackets input w
  are = packets_are input e.pair.bytes

  guest_sent : IsFront g.state.sent w
  guest_sent = (e.guest.unsent_are, sym e.guest.sent)

  host_got : IsFront h.state.got w
  host_got = front_trans h.state.got g.state.sent w e.host_front_is guest_sent

  host_sent : IsFront h.state.sent w
  host_sent = host_front input w e.host.held h are host_got e.host.echoes

  guest_got : IsFront g.state.got w
  guest_got = front_trans g.state.got h.state.sent w e.guest_front host_sent

  guest_how : (is_over g ≡ true) ⊎ FollowsPeer g
  guest_how = settles input w how_g p.guest.port.room g are guest_sent guest_got (omega (arith, e.pair.guest_room)) e.guest.ended

  host_how : (is_over h ≡ true) ⊎ FollowsPeer h
  host_how = settles input w how_h p.host.port.room h are host_sent host_got (omega (arith, e.pair.host_room)) e.host.ended

  over_parts : (x : Seen TableSeat) → is_over x ≡ true → (is_closed x.state.sent ≡ true) × (is_closed x.state.got ≡ true)
  over_parts x over = and_parts (is_closed x.state.sent) (is_closed x.state.got) over

  over_by : (x : Seen TableSeat) → is_closed x.state.sent ≡ true → is_closed x.state.got ≡ true → is_over x ≡ true
  over_by x a b = (λ i. a i && b i)

  -- where the guest is at its end the host is
  host_over : is_closed g.state.got ≡ true → is_over h ≡ true
  host_over closed =
      let sent = (reads_all g.state.got h.state.sent e.guest_front closed).1 in
      over_by h sent (e.host.echoes.behind sent).0

  guest_closed : is_over h ≡ true → is_closed g.state.sent ≡ true
  guest_closed over = (reads_all h.state.got g.state.sent e.host_front_is (over_parts h over).1).1

  guest_follows : FollowsPeer g → is_over h ≡ true → ⊥
  guest_follows f over = ⊎_elim by_sent by_drained f.left
    where
      by_sent : is_closed g.state.sent ≡ false → ⊥
      by_sent unclosed = let bad : true ≡ false = sym (guest_closed over) ∙ unclosed in absurd (cc)

      by_drained : is_drained g.state.past ≡ true → ⊥
      by_drained drained =
          let all : g.state.got ≡ h.state.sent = e.guest_past.1 ∙ (of_guest DrainsAll drains_all g.state.past h.state.past e.run drained ∙ sym e.host_past.0) in
          let closed : is_closed g.state.got ≡ true = ap is_closed all ∙ (over_parts h over).0 in
          let bad : true ≡ false = sym (over_by g (guest_closed over) closed) ∙ f.over in absurd (cc)

  both_follow : FollowsPeer g → FollowsPeer h → ⊥
  both_follow f k = let bad : true ≡ false = sym e.guest.marked ∙ of_guest StaysUnmarked stays_unmarked g.state.past h.state.past e.run f.follows k.follows in absurd (cc)

  guest_ends : is_over g ≡ true
  guest_ends = ⊎_elim (λ over. over) (λ f. absurd (⊎_elim (λ over. guest_follows f over) (λ k. both_follow f k) host_how)) guest_how

  host_ends : is_over h ≡ true
  host_ends = host_over (over_parts g guest_ends).1

  all_guest_sent : g.state.sent ≡ w
  all_guest_sent = closed_all input w g.state.sent are guest_sent (over_parts g guest_ends).0

  all_guest_got : g.state.got ≡ w
  all_guest_got = closed_all input w g.state.got are guest_got (over_parts g guest_ends).1

  all_host_sent : h.state.sent ≡ w
  all_host_sent = closed_all input w h.state.sent are host_sent (over_parts h host_ends).0

  all_host_got : h.state.got ≡ w
  all_host_got = closed_all input w h.state.got are host_got (over_parts h host_ends).1

  pub joins : IsSockRun p.guest.input output s
  joins =
      let a = e.guest_lists.0 ∙ all_guest_sent in
      let b = e.host_lists.1 ∙ all_host_got in
      let c = e.host_lists.0 ∙ all_host_sent in
      let d = e.guest_lists.1 ∙ all_guest_got in record {
        guest_sent = a;
        host_got = b;
        host_sent = c;
        guest_got = d;
        streams = (ap stream_of a ∙ are.stream, ap stream_of b ∙ are.stream, ap stream_of c ∙ are.stream, ap stream_of d ∙ are.stream);
        closed = (ap is_closed a ∙ are.closed, ap is_closed b ∙ are.closed, ap is_closed c ∙ are.closed, ap is_closed d ∙ are.closed);
        to_host = reads_of s.host_got s.guest_sent ([], a ∙ (sym b ∙ sym (append-nil s.host_got)));
        to_guest = reads_of s.guest_got s.host_sent ([], c ∙ (sym d ∙ sym (append-nil s.guest_got)));
        output_is = e.guest.output_is ∙ ap stream_of (sym e.guest_lists.1);
      }
