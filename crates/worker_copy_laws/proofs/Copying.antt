-- What a worker's end got are copies, and its device is asked what these say.
use Rattle.std.proofs.Common.{◌≡◌, ℕ, List, ◌++◌, Option, Bool, true, false, map, inl, inr, sym, ap, ◌∙◌, subst, append_assoc}
use Rattle.std.specs.Prelude.{filter_map}
use Rattle.std.proofs.lemmas.List.Elements.{filter_map-append}
use Rattle.channel_trace.specs.Runs.{IsFront, got_of}
use Rattle.channel_model.specs.WireFormat.{Keeps, WireFormat}
use Rattle.channel_model.specs.Server.{Serves}
use Rattle.channel_model.proofs.Counts.{calls_front}
use Rattle.hist_lock.specs.Seat.{Call}
use Rattle.page_kept.specs.declared.item.Item.{Item}
use Rattle.ring_machine.specs.declared.machine.Stage.TheVariants.{Idle, Stopped}
use Rattle.ring_core.specs.declared.told.Told.{Told}
use Rattle.ring_core.specs.Seen.{Seen}
use Rattle.ring_core.specs.Told.{Tale}
use Rattle.ring_copy_laws.specs.Copies.{Copied}
use Rattle.ring_copy_laws.proofs.Copying.{broke, copied}
use Rattle.worker_port.specs.Line.{CameNew, IsLine, Line, line_of}
use Rattle.worker_port.specs.Rooms.{OnlyWith}
use Rattle.worker_port.specs.declared.ended.Ended.{Ended}
use Rattle.worker_port.specs.declared.ended.Ended.TheVariants.{Marked, PeerMarked, Room, Broken}
use Rattle.worker_port.proofs.ItemRuns.{items_got, items_packets}
use Rattle.worker_server.specs.Serving.{EndsBy, LeftOff, Serving}
use Rattle.worker_copy_laws.specs.Copies.{KnowsCopies, ServesCopies}

module _ {S : Type 0} (told : S → Option Told) (tale : S → Tale) (f : Item → Item) (e : Seen S) where
  pub knows : IsLine told e → CameNew tale e → KnowsCopies f tale e
  knows h c =
      let it = copied c.came.calls c.first.state e.state c.came.leads in
      let all : e.state.got ≡ it.0 = it.1 ∙ ap (λ (l : List (List ℕ)). l ++ it.0) (ap (λ s. s.got) c.new) in
      record {
        first = c.first;
        new = c.new;
        came = c.came;
        copied = subst (Copied c.came.calls c.first.state e.state) (sym all) it.2;
        packets_are = (items_packets told e h).1;
        read = items_got f e h;
        broke = broke c.came.calls c.first.state e.state c.came.leads (λ off. let z : Stopped ≡ Idle = sym off ∙ ap (λ s. s.machine.stage) c.new in absurd (cc));
      }

with_messages : {P : Type 0} (b : Bool) → OnlyWith b P → P
with_messages true h = h
with_messages false h = absurd h

module _ {T S E A Q R : Type 0} (s : WireFormat Item A Q R) (keeps : Keeps s) (besides : Bool) (w : Serving T S E Q R) (e : Line E) (calls : List (Call Q R)) where
  abbrev got : List Item
  got = got_of e.state.past

  abbrev Asked : Type 0
  Asked = IsFront (map (λ c. c.request) calls) (filter_map s.read got)

  -- what the first packets that came ask
  asks_of : (served sent : List Item) → IsFront served got → Serves s w.responder.held served w.serve calls sent → Asked
  asks_of served sent front h =
      let a = calls_front s keeps w.responder.held served w.serve calls sent h in (
        a.0 ++ filter_map s.read front.0,
        ap (filter_map s.read) front.1
            ∙ (filter_map-append s.read served front.0 ∙ (ap (λ l. l ++ filter_map s.read front.0) a.1 ∙ append_assoc (map (λ c. c.request) calls) a.0 (filter_map s.read front.0))),
      )

  asks_all : (sent : List Item) → Serves s w.responder.held got w.serve calls sent → Asked
  asks_all sent h = calls_front s keeps w.responder.held got w.serve calls sent h

  left_off : LeftOff s besides w e calls → Asked
  left_off (inl (inl h)) = asks_all _ h.serves
  left_off (inl (inr h)) = asks_of h.served _ h.first h.serves
  left_off (inr h) = let k = with_messages besides h in asks_of k.served _ k.first k.serves

  pub asked : (how : Ended) → EndsBy s besides how w e calls → Asked
  asked Marked h = asks_all _ h.1.serves
  asked PeerMarked h = left_off h.1
  asked (Room packets words left) h = asks_of h.0.served _ h.0.first h.0.serves
  asked (Broken why) h = asks_of h.0.served _ h.0.first h.0.serves

-- where a worker ended so, its device is asked what these copies say
pub serves : {T D E A Q R : Type 0} (told : E → Option Told) (tale : E → Tale) (f : Item → Item) (s : WireFormat Item A Q R) → Keeps s → (besides : Bool) (how : Ended) (w : Serving T D E Q R) (e : Seen E) (calls : List (Call Q R))
    → IsLine told e → CameNew tale e → EndsBy s besides how w (line_of f e) calls → ServesCopies s.read f tale e calls
serves told tale f s keeps besides how w e calls h came ends =
    let k = knows told tale f e h came in
    record {
      knows = k;
      asked = subst (λ (l : List Item). IsFront (map (λ c. c.request) calls) (filter_map s.read l)) k.read (asked s keeps besides w (line_of f e) calls how ends);
    }
