-- What the workers know, from turn to turn.
use Rattle.std.proofs.Common.{◌≡◌, ℕ, ◌+◌, ◌*◌, ◌≤◌, ◌<◌, inl, inr, Bool, true, false, cond, ◌&&◌, leb, min, ◌-◌, List, [], ◌∷◌, ◌++◌, length, take, drop, Option, Some, None, append-nil, append_assoc, length-append, length-drop, length-take-le, refl, sym, ap, ◌∙◌, subst, arith}
use Rattle.std.specs.Prelude.{is_some, not}
use Rattle.std.proofs.lemmas.Bool.{leb-true}
use Rattle.std.proofs.lemmas.Bool.Decides.{nat_tests}
use Rattle.std.proofs.lemmas.List.{drop-drop, drop_all, take_all}
use Rattle.vm_page.specs.Words.{words_for}
use Rattle.hv_sock.specs.Packets.{Said, Data, Close, Fault, says, sock_packet}
use Rattle.hv_sock.specs.Streams.{IsOpen, closed_by, data_then, fault_by, fault_in, is_closed, stream_of}
use Rattle.hv_sock.proofs.PacketLaws.{sock_length}
use Rattle.hv_sock.proofs.StreamLaws.{closed_more, fault_more, stream_more}
use Rattle.sock_workers.specs.declared.port.Tried.{Tried}
use Rattle.sock_workers.specs.declared.port.Tried.TheVariants.{Sent, Full, Room}
use Rattle.sock_workers.specs.Pieces.{echo_then, echoed, ending, owed, packets_of}
use Rattle.ring_machine.specs.declared.machine.Ending.TheVariants.{FellAsleep, FoundWork}
use Rattle.ring_core.specs.Seen.{Seen}
use Rattle.ring_seat.specs.declared.table_seat.TableSeat.{TableSeat}
use Rattle.sock_workers.specs.declared.ended.Ended.{Ended}
use Rattle.sock_workers.specs.declared.ended.Turn.{Turn}
use Rattle.sock_workers.specs.declared.ended.Turn.TheVariants.{Moved, Idle, Ended as TurnEnded}
use Rattle.sock_workers.specs.Ports.{ArmedOnce, Port, Rests, Tries, has_gone}
use Rattle.sock_workers.specs.Workers.{back_next, host_next, host_reads, is_none, Causes, Guest, Host, IsBlocked, IsGuest, IsHost, IsPiece, LacksRoom, Looks, TriesNext, packet_at, unsent, want_for}
use Rattle.sock_workers.proofs.PieceLaws.{echo_more, packets_first, packets_none}
use Rattle.sock_workers.proofs.PortLaws.{data_size}

-- what one packet more adds to a list that can go on
pub record Adds (ps ps' : List (List ℕ)) (said : Said) : Type 0 where
  pub stream : stream_of ps' ≡ stream_of ps ++ data_then said []
  pub closed : is_closed ps' ≡ closed_by said false
  pub fault : fault_in ps' ≡ fault_by said None
  pub echo : echoed ps' ≡ echoed ps ++ echo_then said []

pub adds : (ps ps' : List (List ℕ)) (p : List ℕ) (said : Said) → IsOpen ps → ps' ≡ ps ++ p ∷ [] → says p ≡ said → Adds ps ps' said
adds ps ps' p said can is says_so = record {
  stream = ap stream_of is ∙ (stream_more ps p can ∙ ap (λ (s : Said). stream_of ps ++ data_then s []) says_so);
  closed = ap is_closed is ∙ (closed_more ps p can ∙ ap (λ (s : Said). closed_by s false) says_so);
  fault = ap fault_in is ∙ (fault_more ps p can ∙ ap (λ (s : Said). fault_by s None) says_so);
  echo = ap echoed is ∙ (echo_more ps p can ∙ ap (λ (s : Said). echoed ps ++ echo_then s []) says_so);
}

data_length : (s : Said) (rest : List ℕ) (n : ℕ) → ((d : List ℕ) → s ≡ Data d → length d ≤ 2048) → length rest ≤ 2048 * n → length (data_then s rest) ≤ 2048 * (n + 1)
data_length (Data d) rest n fits le = omega (arith, length-append d rest, fits d refl, le)
data_length Close rest n fits le = omega arith
data_length (Fault f) rest n fits le = omega arith

-- each packet carries 2,048 bytes at most
pub stream_length : (ps : List (List ℕ)) → length (stream_of ps) ≤ 2048 * length ps
stream_length [] = omega arith
stream_length (p ∷ ps) = let h = data_length (says p) (stream_of ps) (length ps) (λ d is. (data_size p d is).1) (stream_length ps) in omega (arith, h)

-- a guest that read, and keeps what it read
pub guest_read : (w w' : Guest) (shut ended ended' : Bool) (room room' : ℕ) → IsGuest w shut ended room → w'.port.end.state.sent ≡ w.port.end.state.sent → w'.input ≡ w.input → w'.at ≡ w.at → w'.port.room ≡ w.port.room
    → ended' ≡ is_closed w'.port.end.state.got → w'.output ≡ stream_of w'.port.end.state.got → room ≤ room' → IsGuest w' shut ended' room'
guest_read w w' shut ended ended' room room' h sent input at same ended_is keeps more = record {
  sends = (λ i. sent i ++ cond (is_closed (sent i)) [] (packets_of (drop (at i) (input i)))) ∙ (h.sends ∙ ap packets_of (sym input));
  shut_is = h.shut_is ∙ ap is_closed (sym sent);
  ended_is = ended_is;
  keeps = keeps;
  within = omega (arith, h.within, at, ap length input);
  room = omega (arith, h.room, more, same);
}

-- a guest without room for what comes
pub guest_lacks : (w : Guest) (shut ended : Bool) (capacity : ℕ) → IsGuest w shut ended capacity → ended ≡ false → capacity < length w.output + 2048 → LacksRoom w.port.room w.port.end
guest_lacks w shut ended capacity h reads less =
    let long = stream_length w.port.end.state.got in
    inr (sym h.ended_is ∙ reads, inl (omega (arith, h.room, less, ap length h.keeps, long)))

take_min : (ys : List ℕ) (m n : ℕ) → n ≡ min (length ys) m → (take n ys ≡ take m ys) × (drop n ys ≡ drop m ys)
take_min ys m n is = by_less (leb (length ys) m) refl
  where
    by_less : (b : Bool) → leb (length ys) m ≡ b → (take n ys ≡ take m ys) × (drop n ys ≡ drop m ys)
    by_less true le =
        let less : length ys ≤ m = leb-true (length ys) m le in
        let e : n ≡ length ys = omega (arith, is, less) in
        (take_all n ys (omega (arith, e)) ∙ sym (take_all m ys less), drop_all n ys (omega (arith, e)) ∙ sym (drop_all m ys less))
    by_less false le =
        let more : m < length ys = grind (arith, nat_tests, le) in
        let e : n ≡ m = omega (arith, is, more) in
        (ap (λ (k : ℕ). take k ys) e, ap (λ (k : ℕ). drop k ys) e)

-- the packet that a guest sends next
pub packet_end : (w : Guest) → w.at ≡ length w.input → packet_at w ≡ sock_packet []
unfolding packet_at
packet_end w all = ap (λ (l : List ℕ). sock_packet (take 2048 l)) (drop_all w.at w.input (omega (arith, all)))

pub packet_piece : (w : Guest) (n : ℕ) → n ≡ min (length (drop w.at w.input)) 2048 → packet_at w ≡ sock_packet (take n (drop w.at w.input))
unfolding packet_at
packet_piece w n is = ap sock_packet (sym (take_min (drop w.at w.input) 2048 n is).0)

pub packet_need : (w : Guest) (n : ℕ) → n ≡ min (length w.input - w.at) 2048 → length (packet_at w) ≡ 3 + words_for n
packet_need w n is =
    let ys = drop w.at w.input in
    let e : n ≡ min (length ys) 2048 = omega (arith, is, length-drop w.at w.input) in
    let long : length (take n ys) ≡ n = length-take-le n ys (omega (arith, e)) in
    ap length (packet_piece w n e) ∙ (sock_length (take n ys) (omega (arith, long, e)) ∙ ap (λ (k : ℕ). 3 + words_for k) long)

-- a guest that tried to end its direction
pub guest_shut : (w w' : Guest) (tried : Tried) (shut ended : Bool) (capacity : ℕ) → IsGuest w shut ended capacity → is_closed w.port.end.state.sent ≡ false → w.at ≡ length w.input → Tries tried (sock_packet []) w.port w'.port
    → is_closed w'.port.end.state.sent ≡ has_gone tried → w'.port.end.state.got ≡ w.port.end.state.got → w'.port.room ≡ w.port.room → w'.input ≡ w.input → w'.at ≡ w.at → w'.output ≡ w.output → IsGuest w' (has_gone tried) ended capacity
guest_shut w w' tried shut ended capacity h unclosed all tries closed got room input at output = record {
  sends = by_tried tried tries closed;
  shut_is = sym closed;
  ended_is = h.ended_is ∙ ap is_closed (sym got);
  keeps = output ∙ (h.keeps ∙ ap stream_of (sym got));
  within = omega (arith, h.within, at, ap length input);
  room = omega (arith, h.room, room);
}
  where
    before : w.port.end.state.sent ++ packets_of (drop w.at w.input) ≡ packets_of w'.input
    before = ap (λ (b : Bool). w.port.end.state.sent ++ cond b [] (packets_of (drop w.at w.input))) (sym unclosed) ∙ (h.sends ∙ ap packets_of (sym input))

    kept : w'.port.end.state.sent ≡ w.port.end.state.sent → is_closed w'.port.end.state.sent ≡ false → w'.port.end.state.sent ++ unsent w' ≡ packets_of w'.input
    kept sent still = (λ i. sent i ++ cond (still i) [] (packets_of (drop (at i) (input i)))) ∙ before

    by_tried : (t : Tried) → Tries t (sock_packet []) w.port w'.port → is_closed w'.port.end.state.sent ≡ has_gone t → w'.port.end.state.sent ++ unsent w' ≡ packets_of w'.input
    by_tried Sent sent is =
        (λ i. sent i ++ cond (is i) [] (packets_of (drop w'.at w'.input)))
        ∙ (append-nil (w.port.end.state.sent ++ sock_packet [] ∷ []) ∙ (ap (λ (l : List (List ℕ)). w.port.end.state.sent ++ l) (sym (ap packets_of (drop_all w.at w.input (omega (arith, all))) ∙ packets_none)) ∙ before))
    by_tried Full t is = kept t.0 is
    by_tried Room t is = kept (ap (λ (p : Port). p.end.state.sent) t.0) is

-- a guest that sent a piece
pub guest_sent : (w w' : Guest) (n : ℕ) (shut ended : Bool) (capacity : ℕ) → IsGuest w shut ended capacity → is_closed w.port.end.state.sent ≡ false → (w.at ≡ length w.input → ⊥) → n ≡ min (length (drop w.at w.input)) 2048
    → w'.port.end.state.sent ≡ w.port.end.state.sent ++ sock_packet (take n (drop w.at w.input)) ∷ []
    → is_closed w'.port.end.state.sent ≡ false → w'.port.end.state.got ≡ w.port.end.state.got → w'.port.room ≡ w.port.room → w'.input ≡ w.input → w'.at ≡ w.at + n → w'.output ≡ w.output → IsGuest w' shut ended capacity
guest_sent w w' n shut ended capacity h unclosed less is sent still got room input at output =
    let ys = drop w.at w.input in
    let some : 0 < length ys = omega (arith, length-drop w.at w.input, h.within, less) in
    let cut = take_min ys 2048 n is in
    let first : packets_of ys ≡ sock_packet (take n ys) ∷ packets_of (drop w'.at w'.input) =
    packets_first ys some
    ∙ (λ i. sock_packet (sym cut.0 i) ∷ packets_of (sym cut.1 i))
    ∙ ap (λ (l : List ℕ). sock_packet (take n ys) ∷ packets_of l) (drop-drop n w.at w.input ∙ (λ i. drop (rest_at i) (sym input i))) in record {
      sends =
          (λ i. sent i ++ cond (still i) [] (packets_of (drop w'.at w'.input)))
          ∙ (append_assoc w.port.end.state.sent (sock_packet (take n ys) ∷ []) (packets_of (drop w'.at w'.input))
          ∙ (ap (λ (l : List (List ℕ)). w.port.end.state.sent ++ l) (sym first)
          ∙ (ap (λ (b : Bool). w.port.end.state.sent ++ cond b [] (packets_of ys)) (sym unclosed) ∙ (h.sends ∙ ap packets_of (sym input)))));
      shut_is = h.shut_is ∙ (unclosed ∙ sym still);
      ended_is = h.ended_is ∙ ap is_closed (sym got);
      keeps = output ∙ (h.keeps ∙ ap stream_of (sym got));
      within = omega (arith, h.within, at, is, length-drop w.at w.input, ap length input);
      room = omega (arith, h.room, room);
    }
  where
    rest_at : w.at + n ≡ w'.at
    rest_at = sym at

pub gone : (t : Tried) (p : List ℕ) (old new : Port) → has_gone t ≡ true → Tries t p old new → new.end.state.sent ≡ old.end.state.sent ++ p ∷ []
gone Sent p old new is tries = tries
gone Full p old new is tries = absurd (cc)
gone Room p old new is tries = absurd (cc)

pub packet_same : (w w' : Guest) → w'.at ≡ w.at → w'.input ≡ w.input → packet_at w' ≡ packet_at w
unfolding packet_at
packet_same w w' at input = λ i. sock_packet (take 2048 (drop (at i) (input i)))

-- why a rest went so, behind a look for a packet and a try of the next one
pub rest_cause : (turn : Turn) (reads : Bool) (next : Option (List ℕ)) (before looked : Seen TableSeat) (want : Option ℕ) (p q : Port) → Looks reads before looked → TriesNext next looked p.end → want ≡ want_for next → Rests want turn p q
    → Causes turn reads next before q.end
rest_cause Moved reads next before looked want p q looks tries is r =
    inr (inr (record { before = p.end; blocked = record { between = looked; looks = looks; tries = tries }; armed = subst (λ (x : Option ℕ). ArmedOnce x FoundWork p.end q.end) is r }))
rest_cause Idle reads next before looked want p q looks tries is r =
    record { before = p.end; blocked = record { between = looked; looks = looks; tries = tries }; armed = subst (λ (x : Option ℕ). ArmedOnce x FellAsleep p.end q.end) is r.0 }
rest_cause (TurnEnded how) reads next before looked want p q looks tries is r =
    subst (λ (h : Ended). Causes (TurnEnded h) reads next before q.end) (sym r.0)
    (subst (λ (x : Port). IsBlocked reads next before x.end) (sym r.1) (record { between = looked; looks = looks; tries = tries }))

-- a host that read
pub host_read : (w w' : Host) (held held' : Option ℕ) (shut ended ended' : Bool) (said : Said) → IsHost w held shut ended → w.held ≡ None → IsOpen w.port.end.state.got → w'.port.end.state.sent ≡ w.port.end.state.sent → Adds w.port.end.state.got w'.port.end.state.got said
    → echo_then said [] ≡ owed w'.held → ended' ≡ is_closed w'.port.end.state.got → IsPiece held' → IsHost w' held' shut ended'
host_read w w' held held' shut ended ended' said h free can sent a holds ended_is piece = record {
  echoes = record {
    pieces = pieces;
    behind = λ closed. let shut_too = h.echoes.behind (ap is_closed (sym sent) ∙ closed) in let bad : true ≡ false = sym shut_too.0 ∙ can.unclosed in absurd (cc);
  };
  shut_is = h.shut_is ∙ ap is_closed (sym sent);
  ended_is = ended_is;
  piece = piece;
}
  where
    by_shut : (b : Bool) → is_closed w.port.end.state.sent ≡ b → is_closed w.port.end.state.sent ≡ false
    by_shut true is = let bad : true ≡ false = sym (h.echoes.behind is).0 ∙ can.unclosed in absurd (cc)
    by_shut false is = is

    unshut : is_closed w.port.end.state.sent ≡ false
    unshut = by_shut (is_closed w.port.end.state.sent) refl

    before : w.port.end.state.sent ≡ echoed w.port.end.state.got
    before =
        sym (append-nil w.port.end.state.sent) ∙ (ap (λ (o : Option (List ℕ)). w.port.end.state.sent ++ owed o) (sym free)
        ∙ (h.echoes.pieces ∙ (ap (λ (b : Bool). echoed w.port.end.state.got ++ ending b) unshut ∙ append-nil (echoed w.port.end.state.got))))

    pieces : w'.port.end.state.sent ++ owed w'.held ≡ echoed w'.port.end.state.got ++ ending (is_closed w'.port.end.state.sent)
    pieces =
        (λ i. (sent ∙ before) i ++ sym holds i)
        ∙ (sym a.echo ∙ (sym (append-nil (echoed w'.port.end.state.got)) ∙ ap (λ (b : Bool). echoed w'.port.end.state.got ++ ending b) (sym (ap is_closed sent ∙ unshut))))

pub none_held : {A : Type 0} (o : Option A) → is_some o ≡ false → o ≡ None
none_held None is = refl
none_held (Some a) is = absurd (cc)

-- a host goes on to send back the piece that it holds
pub host_holds : (w : Host) (bytes : List ℕ) → w.held ≡ Some bytes → (host_reads w ≡ false) × (host_next w ≡ Some (sock_packet bytes))
host_holds w bytes is = (ap (λ (o : Option (List ℕ)). is_none o && not (is_closed w.port.end.state.got)) is, ap (λ (o : Option (List ℕ)). back_next o w.port.end) is)

-- a host that holds nothing waits for the other end's end, and then ends its own direction
pub host_waits : (w : Host) → w.held ≡ None → is_closed w.port.end.state.got ≡ false → host_next w ≡ None
host_waits w is unclosed = ap (λ (o : Option (List ℕ)). back_next o w.port.end) is ∙ ap (λ (b : Bool). cond (b && not (is_closed w.port.end.state.sent)) (Some (sock_packet [])) None) unclosed

pub host_ends : (w : Host) → w.held ≡ None → is_closed w.port.end.state.got ≡ true → is_closed w.port.end.state.sent ≡ false → host_next w ≡ Some (sock_packet [])
host_ends w is closed unshut =
    ap (λ (o : Option (List ℕ)). back_next o w.port.end) is
    ∙ (ap (λ (b : Bool). cond (b && not (is_closed w.port.end.state.sent)) (Some (sock_packet [])) None) closed ∙ ap (λ (b : Bool). cond (not b) (Some (sock_packet [])) None) unshut)
