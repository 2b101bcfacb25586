-- What the calls of a port leave.
use Rattle.std.proofs.Common.{◌≡◌, ◌+◌, ◌*◌, ◌<◌, ◌≤◌, ◌⊎◌, inl, inr, ⊎_elim, ℕ, zero, suc, List, [], ◌∷◌, ◌++◌, length, take, drop, Option, Some, None, Result, Ok, Err, Bool, true, false, cond, eqb, leb, refl, sym, ap, ◌∙◌, subst, arith, length-drop, length-take-le}
use Rattle.std.specs.Prelude.{IsTrue, OnOk, OnErr}
use Rattle.std.proofs.lemmas.Bool.{leb-true}
use Rattle.std.proofs.lemmas.Bool.Decides.{nat_tests}
use Rattle.std.proofs.lemmas.List.{take_at}
use Rattle.channel_trace.specs.declared.event.Event.{Event}
use Rattle.channel_trace.specs.declared.event.Event.TheVariants.{Empty as EmptyEvent}
use Rattle.channel_trace.specs.Runs.{has_marked, has_seen, is_drained}
use Rattle.vm_page.specs.Words.{bytes_in, words_for}
use Rattle.pkt_desc.specs.Packets.{payload_of}
use Rattle.ring_machine.specs.declared.last.SendRefusal.{SendRefusal}
use Rattle.ring_machine.specs.declared.last.Signalled.{Signalled}
use Rattle.ring_machine.specs.declared.last.TakeRefusal.{TakeRefusal}
use Rattle.ring_machine.specs.declared.machine.EndMachine.{EndMachine}
use Rattle.ring_machine.specs.declared.machine.Ending.{Ending}
use Rattle.ring_machine.specs.declared.machine.Ending.TheVariants.{Empty, BadIndex, BadLength, BadOffset, CommittedQuiet, CommittedRaised, SentQuiet, SentRaised, Full, BadPeer}
use Rattle.ring_machine.specs.declared.machine.Stage.TheVariants.{Idle}
use Rattle.ring_machine.specs.EndCalls.{Commit, Send, Take}
use Rattle.ring_machine.specs.Endings.{is_honest_send, send_answer, take_refusal}
use Rattle.ring_machine.specs.States.{past_of}
use Rattle.ring_machine.specs.Steps.{call_by, is_sent, is_took}
use Rattle.ring_core.specs.declared.room.Room.{Room}
use Rattle.ring_core.specs.Seen.{Seen}
use Rattle.ring_core.specs.Taking.{is_honest_take}
use Rattle.ring_seat.specs.declared.table_seat.TableSeat.{TableSeat}
use Rattle.ring_seat.specs.Seats.{told_in}
use Rattle.hv_sock.specs.declared.got.Got.{Got}
use Rattle.hv_sock.specs.declared.sock_fault.SockFault.{SockFault}
use Rattle.hv_sock.specs.declared.sock_fault.SockFault.TheVariants.{Ended, Take as SockTake, Short, Kind, Size}
use Rattle.hv_sock.specs.Ends.{Reads, Sends, SendsIdle}
use Rattle.hv_sock.specs.Packets.{Said, Data, Close, Fault, answer_of, content_fault, data_in, left_in, said_by, says, size_in}
use Rattle.hv_sock.specs.Streams.{breaks_off, closes, closed_by, fault_by, is_closed}
use Rattle.hv_sock.proofs.PacketLaws.{allowed, answer_says}
use Rattle.sock_workers.specs.declared.port.Found.{Found}
use Rattle.sock_workers.specs.declared.port.Found.TheVariants.{Fault as FoundFault}
use Rattle.sock_workers.specs.Ports.{Port, IsPort, HasRoom, UsesUp, FoundNone, Finds, Tries, found_of, has_gone, tried_of, told_at, tale_at, words_in}

pub words_more : (ps : List (List ℕ)) (p : List ℕ) → words_in (ps ++ p ∷ []) ≡ words_in ps + length p
words_more [] p = omega arith
words_more (q ∷ ps) p = omega (arith, words_more ps p)

pub length_more : (ps : List (List ℕ)) (p : List ℕ) → length (ps ++ p ∷ []) ≡ length ps + 1
length_more [] p = omega arith
length_more (q ∷ ps) p = omega (arith, length_more ps p)

refusal_cases : (o : Option TakeRefusal) → (o ≡ None) ⊎ ((r : TakeRefusal) × (o ≡ Some r))
refusal_cases None = inl refl
refusal_cases (Some r) = inr (r, refl)

untook : (took : Bool) (r other : TakeRefusal) → Some r ≡ cond took None (Some other) → (took ≡ false) × (r ≡ other)
untook true r other e = absurd (cc)
untook false r other e = (refl, cc)

took_it : (took : Bool) (other : TakeRefusal) → None ≡ cond took None (Some other) → took ≡ true
took_it true other e = refl
took_it false other e = absurd (cc)

empty_how : (how : Ending) (m : EndMachine) (r : TakeRefusal) → call_by how ≡ Take → is_took how ≡ false → r ≡ take_refusal how m → is_honest_take (Some r) ≡ true → how ≡ Empty
empty_how Empty m r call none is honest = refl
empty_how BadIndex m r call none is honest = let bad : false ≡ true = ap (λ (x : TakeRefusal). is_honest_take (Some x)) (sym is) ∙ honest in absurd (cc)
empty_how BadLength m r call none is honest = let bad : false ≡ true = ap (λ (x : TakeRefusal). is_honest_take (Some x)) (sym is) ∙ honest in absurd (cc)
empty_how BadOffset m r call none is honest = let bad : false ≡ true = ap (λ (x : TakeRefusal). is_honest_take (Some x)) (sym is) ∙ honest in absurd (cc)
empty_how _ m r call none is honest = absurd (cc)

commit_past : (how : Ending) (saw : Bool) (past : List (Event (List ℕ))) → call_by how ≡ Commit → past_of how saw [] past ≡ past
commit_past CommittedQuiet saw past e = refl
commit_past CommittedRaised saw past e = refl
commit_past _ saw past e = absurd (cc)

sent_marked : (how : Ending) (saw : Bool) (p : List ℕ) (past : List (Event (List ℕ))) → call_by how ≡ Send → (has_marked (past_of how saw p past) ≡ has_marked past) × (has_seen (past_of how saw p past) ≡ has_seen past)
sent_marked SentQuiet saw p past e = (refl, refl)
sent_marked SentRaised saw p past e = (refl, refl)
sent_marked Full saw p past e = (refl, refl)
sent_marked BadPeer saw p past e = (refl, refl)
sent_marked _ saw p past e = absurd (cc)

-- what is left of the room behind a packet that took its part of it
room_more : (room more n : ℕ) (old new : Room) (ps : List (List ℕ)) (p : List ℕ) → length p ≡ n → old.packets ≤ new.packets + 1 → old.words ≤ new.words + n → HasRoom room more old ps → HasRoom room more new (ps ++ p ∷ [])
room_more room more n old new ps p long packets words h = record {
  packets = omega (arith, h.packets, packets, length_more ps p);
  words = omega (arith, h.words, words, words_more ps p, long);
}

-- what a call leaves of what a worker knows of its end
pub record Keeps (old new : Seen TableSeat) : Type 0 where
  pub idle : new.state.machine.stage ≡ Idle
  pub marked : has_marked new.state.past ≡ has_marked old.state.past
  pub seen : has_seen new.state.past ≡ has_seen old.state.past
  pub sent_room : (room : ℕ) → HasRoom room 0 old.spare_sent old.state.sent → HasRoom room 0 new.spare_sent new.state.sent
  pub got_room : (room more : ℕ) → HasRoom room more old.spare_got old.state.got → HasRoom room more new.spare_got new.state.got

pub kept_port : (old new : Seen TableSeat) (room : ℕ) (seen : Bool) → Keeps old new → new.state.machine.marked ≡ false → new.state.machine.cells ≡ old.state.machine.cells → IsPort (record { end = old; room = room; seen = seen }) → IsPort (record { end = new; room = room; seen = seen })
kept_port old new room seen k unmarked cells h = record {
  idle = k.idle;
  unmarked = unmarked;
  unset = k.marked ∙ h.unset;
  seen_is = k.seen ∙ h.seen_is;
  size = subst (λ (n : ℕ). 512 ≤ n) (sym cells) h.size;
  sent_room = k.sent_room room h.sent_room;
  got_room = subst (λ (n : ℕ). HasRoom room n new.spare_got new.state.got) (sym cells) (k.got_room room old.state.machine.cells h.got_room);
}

-- the bytes of a packet with data
data_by : (o : Option SockFault) (c d : List ℕ) → (o ≡ None → (8 ≤ length c) × (size_in c ≤ 2048) × (length c ≡ 8 * words_for (8 + size_in c))) → said_by o c ≡ Data d → (1 ≤ length d) × (length d ≤ 2048)
data_by (Some f) c d fits is = absurd (cc)
data_by None c d fits is = by_size (eqb (size_in c) 0) refl is
  where
    a : (8 ≤ length c) × (size_in c ≤ 2048) × (length c ≡ 8 * words_for (8 + size_in c))
    a = fits refl

    long : length (data_in c) ≡ size_in c
    long = length-take-le (size_in c) (drop 8 c) (omega (arith, a.0, a.1, a.2, length-drop 8 c))

    by_size : (b : Bool) → eqb (size_in c) 0 ≡ b → cond b Close (Data (data_in c)) ≡ Data d → (1 ≤ length d) × (length d ≤ 2048)
    by_size true zero_is same = absurd (cc)
    by_size false some same =
        let e : data_in c ≡ d = cc in
        let more : 1 ≤ size_in c = grind (arith, nat_tests, some) in
        let size : length d ≡ size_in c = ap length (sym e) ∙ long in
        (omega (arith, size, more), omega (arith, size, a.1))

pub data_size : (p d : List ℕ) → says p ≡ Data d → (1 ≤ length d) × (length d ≤ 2048)
data_size p d is = data_by (content_fault (bytes_in (payload_of p))) (bytes_in (payload_of p)) d (λ none. allowed (bytes_in (payload_of p)) none) is

-- a fault of a packet is none of a read's own
fault_found : (f : SockFault) → closes (Err f) ≡ false → breaks_off (Err f) ≡ Some f → found_of (Err f) ≡ FoundFault f
fault_found Ended own_read is = absurd (cc)
fault_found (SockTake r) own_read is = absurd (cc)
fault_found (Short have) own_read is = refl
fault_found (Kind value) own_read is = refl
fault_found (Size value have) own_read is = refl

abbrev pub port_at : Seen TableSeat → ℕ → Bool → Port
port_at e room seen = record { end = e; room = room; seen = seen }

module _ (same : TableSeat → TableSeat → Type 0) where
  -- a read keeps it
  pub read_keeps : (old new : Seen TableSeat) (result : Result Got SockFault) (out out' : List ℕ) → old.state.machine.stage ≡ Idle → (new.state.sent ≡ old.state.sent) × (new.spare_sent ≡ old.spare_sent) → Reads TableSeat told_at tale_at same old new result out out' → Keeps old new
  read_keeps old new result out out' idle kept r = ⊎_elim took refused (refusal_cases r.refusal)
    where
      took : r.refusal ≡ None → Keeps old new
      took none =
          let between = r.takes.between in
          let m = between.state.machine in
          let t = r.takes.takes.idle idle in
          let g = t.took (took_it (is_took m.ended) (take_refusal m.ended m) (sym none ∙ t.answer)) in
          let c = r.takes.commits none in
          let past = c.past ∙ (commit_past new.state.machine.ended new.state.machine.saw between.state.past c.call ∙ g.past_is) in record {
            idle = c.after.idle (λ e. cc) (λ e. cc);
            marked = ap has_marked past;
            seen = ap has_seen past;
            sent_room = λ room h. subst (λ (x : Room). HasRoom room 0 x new.state.sent) (sym kept.1) (subst (λ (ps : List (List ℕ)). HasRoom room 0 old.spare_sent ps) (sym kept.0) h);
            got_room = λ room more h.
                subst (λ (x : Room). HasRoom room more x new.state.got) (sym c.kept.spare_got)
                (subst (λ (ps : List (List ℕ)). HasRoom room more between.spare_got ps) (sym (c.kept.got ∙ g.list)) (room_more room more m.len old.spare_got between.spare_got old.state.got g.words g.size r.takes.takes.room.0 r.takes.takes.room.1 h));
          }

      refused : ((q : TakeRefusal) × (r.refusal ≡ Some q)) → Keeps old new
      refused q =
          let between = r.takes.between in
          let m = between.state.machine in
          let t = r.takes.takes.idle idle in
          let not_so = untook (is_took m.ended) q.0 (take_refusal m.ended m) (sym q.1 ∙ t.answer) in
          let honest = r.takes.takes.honest (told_in old.seat.seat.me.0) refl in
          let how = empty_how m.ended m q.0 t.call not_so.0 not_so.1 (ap is_honest_take (sym q.1) ∙ honest.2) in
          let past = (t.refused not_so.0).1 ∙ ap (λ (e : Ending). past_of e m.saw [] old.state.past) how in
          let is = (r.takes.refused q.0 q.1).0 in
          subst (λ (x : Seen TableSeat). Keeps old x) (sym is) (record {
            idle = honest.1;
            marked = ap has_marked past;
            seen = ap has_seen past;
            sent_room = λ room h. subst (λ (x : Room). HasRoom room 0 x between.state.sent) (sym r.takes.takes.kept.1) (subst (λ (ps : List (List ℕ)). HasRoom room 0 old.spare_sent ps) (sym r.takes.takes.kept.0) h);
            got_room = λ room more h. subst (λ (x : Room). HasRoom room more x between.state.got) (sym (t.refused not_so.0).2) (subst (λ (ps : List (List ℕ)). HasRoom room more old.spare_got ps) (sym (t.refused not_so.0).0) h);
          })

  -- what it found
  pub read_finds : (old new : Seen TableSeat) (room : ℕ) (seen : Bool) (result : Result Got SockFault) (out out' : List ℕ) → old.state.machine.stage ≡ Idle → has_seen old.state.past ≡ seen → Reads TableSeat told_at tale_at same old new result out out'
      → Finds (found_of result) (port_at old room seen) (port_at new room seen) out'
  read_finds old new room seen result out out' idle saw r = ⊎_elim took refused (refusal_cases r.refusal)
    where
      took : r.refusal ≡ None → Finds (found_of result) (port_at old room seen) (port_at new room seen) out'
      took none = by_said (says (r.read none).packet) refl
        where
          by_said : (s : Said) → says (r.read none).packet ≡ s → Finds (found_of result) (port_at old room seen) (port_at new room seen) out'
          by_said (Data d) is =
              let g = r.read none in
              let fits = data_size g.packet d is in
              let front : take (length d) out' ≡ d = ap (take (length d)) (g.out_is ∙ ap (λ (s : Said). left_in s out) is) ∙ take_at d (drop (length d) out) (length d) refl in
              subst (λ (x : Result Got SockFault). Finds (found_of x) (port_at old room seen) (port_at new room seen) out') (sym (g.answer ∙ ap answer_of is)) (g.packet, g.got, is ∙ ap (λ (l : List ℕ). Data l) (sym front), fits.0, fits.1)
          by_said Close is = let g = r.read none in subst (λ (x : Result Got SockFault). Finds (found_of x) (port_at old room seen) (port_at new room seen) out') (sym (g.answer ∙ ap answer_of is)) (g.packet, g.got, is)
          by_said (Fault f) is =
              let g = r.read none in
              let own = answer_says g.packet in
              let own_read : closes (Err f) ≡ false = ap (λ (s : Said). closes (answer_of s)) (sym is) ∙ (own.0 ∙ ap (λ (s : Said). closed_by s false) is) in
              let off : breaks_off (Err f) ≡ Some f = ap (λ (s : Said). breaks_off (answer_of s)) (sym is) ∙ (own.1 ∙ ap (λ (s : Said). fault_by s None) is) in
              subst (λ (x : Found). Finds x (port_at old room seen) (port_at new room seen) out') (sym (ap found_of (g.answer ∙ ap answer_of is) ∙ fault_found f own_read off)) (g.packet, g.got, is)

      refused : ((q : TakeRefusal) × (r.refusal ≡ Some q)) → Finds (found_of result) (port_at old room seen) (port_at new room seen) out'
      refused q =
          let between = r.takes.between in
          let m = between.state.machine in
          let t = r.takes.takes.idle idle in
          let not_so = untook (is_took m.ended) q.0 (take_refusal m.ended m) (sym q.1 ∙ t.answer) in
          let honest = r.takes.takes.honest (told_in old.seat.seat.me.0) refl in
          let how = empty_how m.ended m q.0 t.call not_so.0 not_so.1 (ap is_honest_take (sym q.1) ∙ honest.2) in
          let past = (t.refused not_so.0).1 ∙ ap (λ (e : Ending). past_of e m.saw [] old.state.past) how in
          let drained : seen ≡ true → is_drained between.state.past ≡ true = λ up. ap is_drained past ∙ drains old.state.past (saw ∙ up) in
          let is = (r.takes.refused q.0 q.1).0 in
          subst (λ (x : Result Got SockFault). Finds (found_of x) (port_at old room seen) (port_at new room seen) out') (sym (r.refused q.0 q.1).0)
          (subst (λ (x : Seen TableSeat). (x.state.got ≡ old.state.got) × FoundNone old x × (seen ≡ true → is_drained x.state.past ≡ true)) (sym is) ((t.refused not_so.0).0, record { looked = t.ran; none = how }, drained))
        where
          drains : (past : List (Event (List ℕ))) → has_seen past ≡ true → is_drained (EmptyEvent ∷ past) ≡ true
          drains past up = grind (arith, up)

  -- a send keeps it
  pub send_keeps : (old new : Seen TableSeat) (p : List ℕ) (result : Result Signalled SendRefusal) → old.state.machine.stage ≡ Idle → Sends TableSeat told_at tale_at same p old new result → Keeps old new
  send_keeps old new p result idle s =
      let t = s.idle idle in
      let m = new.state.machine in
      let marks = sent_marked m.ended m.saw p old.state.past t.call in record {
        idle = (s.honest (told_in old.seat.seat.me.0) refl).1;
        marked = ap has_marked t.past ∙ marks.0;
        seen = ap has_seen t.past ∙ marks.1;
        sent_room = λ room h. by_sent room h (is_sent m.ended) refl;
        got_room = λ room more h. subst (λ (x : Room). HasRoom room more x new.state.got) (sym s.kept.1) (subst (λ (ps : List (List ℕ)). HasRoom room more old.spare_got ps) (sym s.kept.0) h);
      }
    where
      by_sent : (room : ℕ) → HasRoom room 0 old.spare_sent old.state.sent → (b : Bool) → is_sent new.state.machine.ended ≡ b → HasRoom room 0 new.spare_sent new.state.sent
      by_sent room h true is =
          let sent : new.state.sent ≡ old.state.sent ++ p ∷ [] = (s.idle idle).sent ∙ ap (λ (b : Bool). cond b (old.state.sent ++ p ∷ []) old.state.sent) is in
          subst (λ (ps : List (List ℕ)). HasRoom room 0 new.spare_sent ps) (sym sent) (room_more room 0 (length p) old.spare_sent new.spare_sent old.state.sent p refl s.room.packets s.room.words h)
      by_sent room h false is =
          let sent : new.state.sent ≡ old.state.sent = (s.idle idle).sent ∙ ap (λ (b : Bool). cond b (old.state.sent ++ p ∷ []) old.state.sent) is in
          subst (λ (x : Room). HasRoom room 0 x new.state.sent) (sym (s.room.same is)) (subst (λ (ps : List (List ℕ)). HasRoom room 0 old.spare_sent ps) (sym sent) h)

  -- what became of the packet
  pub send_tries : (old new : Seen TableSeat) (room : ℕ) (seen : Bool) (p : List ℕ) (result : Result Signalled SendRefusal) → old.state.machine.stage ≡ Idle → Sends TableSeat told_at tale_at same p old new result
      → Tries (tried_of result) p (port_at old room seen) (port_at new room seen)
  send_tries old new room seen p result idle s = by_how new.state.machine.ended refl t.call t.answer t.sent
    where
      t : SendsIdle TableSeat told_at tale_at p old new result
      t = s.idle idle

      by_how : (how : Ending) → new.state.machine.ended ≡ how → call_by new.state.machine.ended ≡ Send → result ≡ send_answer new.state.machine.ended new.state.machine → new.state.sent ≡ cond (is_sent new.state.machine.ended) (old.state.sent ++ p ∷ []) old.state.sent → Tries (tried_of result) p (port_at old room seen) (port_at new room seen)
      by_how SentQuiet at call answer sent = subst (λ (x : Result Signalled SendRefusal). Tries (tried_of x) p (port_at old room seen) (port_at new room seen)) (sym (answer ∙ ap (λ (e : Ending). send_answer e new.state.machine) at)) (sent ∙ ap (λ (e : Ending). cond (is_sent e) (old.state.sent ++ p ∷ []) old.state.sent) at)
      by_how SentRaised at call answer sent = subst (λ (x : Result Signalled SendRefusal). Tries (tried_of x) p (port_at old room seen) (port_at new room seen)) (sym (answer ∙ ap (λ (e : Ending). send_answer e new.state.machine) at)) (sent ∙ ap (λ (e : Ending). cond (is_sent e) (old.state.sent ++ p ∷ []) old.state.sent) at)
      by_how Full at call answer sent = subst (λ (x : Result Signalled SendRefusal). Tries (tried_of x) p (port_at old room seen) (port_at new room seen)) (sym (answer ∙ ap (λ (e : Ending). send_answer e new.state.machine) at)) (sent ∙ ap (λ (e : Ending). cond (is_sent e) (old.state.sent ++ p ∷ []) old.state.sent) at, record { tried = t.ran; full = at })
      by_how BadPeer at call answer sent =
          let bad : false ≡ true = ap is_honest_send (sym (answer ∙ ap (λ (e : Ending). send_answer e new.state.machine) at)) ∙ (s.honest (told_in old.seat.seat.me.0) refl).2 in
          absurd (cc)
      by_how _ at call answer sent = let bad = ap call_by (sym at) ∙ call in absurd (cc)

-- a port that may not begin lacks room
pub lacks : (room more least : ℕ) (spare : Room) (ps : List (List ℕ)) (may : Bool) → HasRoom room more spare ps → may ≡ false → (0 < spare.packets → least ≤ spare.words → IsTrue may) → least ≤ 259 + more → UsesUp room ps
lacks room more least spare ps true h not_so whole few = absurd (cc)
lacks room more least spare ps false h not_so whole few = by_packets spare.packets refl (leb least spare.words) refl
  where
    by_packets : (n : ℕ) → spare.packets ≡ n → (b : Bool) → leb least spare.words ≡ b → UsesUp room ps
    by_packets zero at b le = inl (omega (arith, h.packets, at))
    by_packets (suc n) at true le = (let bad : false ≡ true = whole (omega (arith, at)) (leb-true least spare.words le) in absurd (cc))
    by_packets (suc n) at false le = let less : spare.words < least = grind (arith, nat_tests, le) in inr (omega (arith, h.words, less, few))

-- and one that may not write, or shut
pub lacks_sent : (e : Seen TableSeat) (room n : ℕ) (may : Bool) → HasRoom room 0 e.spare_sent e.state.sent → may ≡ false → (0 < e.spare_sent.packets → 3 + n ≤ e.spare_sent.words → IsTrue may) → n ≤ 256 → UsesUp room e.state.sent
lacks_sent e room n may h not_so whole few = lacks room 0 (3 + n) e.spare_sent e.state.sent may h not_so whole (omega (arith, few))

-- a direction that was ended, by what became of the packet
pub shut_closed : (X : Type 0) (result : Result Signalled SendRefusal) (sent sent' : List (List ℕ)) → is_closed sent ≡ false → OnOk result (is_closed sent' ≡ true) → OnErr result ((sent' ≡ sent) × X) → is_closed sent' ≡ has_gone (tried_of result)
shut_closed X (Ok how) sent sent' unclosed ok err = ok
shut_closed X (Err why) sent sent' unclosed ok err = ap is_closed err.0 ∙ unclosed
