-- What acknowledges a message may be sent: more messages of its id came than completions with it went.
use Rattle.page_kept.specs.declared.item.Item.{Item}
use Rattle.page_kept.specs.Items.{packets}
use Rattle.page_kept.specs.Counts.{bit, count, is_ask, is_done}
use Rattle.pkt_desc.specs.Packets.{id_of, kind_of}
use Rattle.std.proofs.Common.{◌≡◌, ℕ, ◌+◌, ◌<◌, ◌≤◌, List, [], ◌∷◌, ◌++◌, length, filter, map, refl, sym, ap, ◌∙◌, subst, arith, Bool, true, false, cond}
use Rattle.std.specs.Prelude.{◌==◌, ◌&&◌, not}
use Rattle.std.proofs.lemmas.Bool.Decides.{nat_tests}
use Rattle.channel_trace.specs.declared.event.Event.{Event}
use Rattle.channel_trace.specs.Runs.{got_of, sent_of}
use Rattle.channel_model.specs.WireFormat.{WireFormat, Keeps}
use Rattle.channel_model.specs.Asker.{Encoded, requests_of}
use Rattle.channel_model.specs.Amounts.{SendsKinds}
use Rattle.channel_model.specs.Workers.{AcksKept}
use Rattle.channel_model.proofs.Opens.{by_test}
use Rattle.channel_protocol.specs.Paged.{KeepsPages}

few_bit : (b : Bool) → bit b ≤ 1
few_bit true = omega arith
few_bit false = omega arith

-- a completion with an id, by its type and by its id
done_if : (k n : Bool) → k ≡ false → bit (k && n) ≡ 0
done_if true n e = absurd (cc)
done_if false n e = refl

ask_if : (k n d : Bool) → k ≡ false → bit (d && n) ≤ bit (not k && n)
ask_if true n d e = absurd (cc)
ask_if false true true e = omega arith
ask_if false true false e = omega arith
ask_if false false true e = omega arith
ask_if false false false e = omega arith

ask_here : (k n : Bool) → k ≡ false → n ≡ true → bit (not k && n) ≡ 1
ask_here true n e f = absurd (cc)
ask_here false true e f = refl
ask_here false false e f = absurd (cc)

module _ {A Q R : Type 0} (s : WireFormat Item A Q R) (keeps : Keeps s) (paged : KeepsPages s) (t : ℕ) where
  abbrev done_in : List Item → ℕ
  done_in xs = count (is_done t) (packets xs)

  abbrev asked_in : List Item → ℕ
  asked_in xs = count (is_ask t) (packets xs)

  -- a request is no completion
  asks_none : (p : Item) (a : A) → p ≡ s.encode (s.id_of p) a → bit (is_done t p.packet) ≡ 0
  asks_none p a is = done_if (kind_of p.packet == 11) (id_of p.packet == t) (ap (λ (x : Item). kind_of x.packet == 11) is ∙ paged.asks (s.id_of p) a)

  some_first : (asks : List A) (p : Item) (ps : List Item) → Encoded s asks (p ∷ ps) → (bit (is_done t p.packet) ≡ 0) × ((more : List A) × Encoded s more ps)
  some_first [] p ps enc = absurd enc
  some_first (a ∷ asks) p ps enc = (asks_none p a enc.0, (asks, enc.1))

  -- of packets whose requests ask, all completions but those that are none of the two kinds acknowledge
  abbrev Few : List Item → Type 0
  Few xs = done_in xs + (length (filter s.is_request xs) + length (filter s.is_ack xs)) ≤ done_in (filter s.is_ack xs) + length xs

  few_done : (asks : List A) (xs : List Item) → Encoded s asks (filter s.is_request xs) → Few xs
  few_done asks [] enc = omega arith
  few_done asks (x ∷ xs) enc =
      by_test {P = Few (x ∷ xs)} (s.is_request x)
      (λ r.
      let first = some_first asks x (filter s.is_request xs) (subst (Encoded s asks) (ap (λ b. cond b (x ∷ filter s.is_request xs) (filter s.is_request xs)) r) enc) in
      let h = few_done first.1.0 xs first.1.1 in
      by_test {P = Few (x ∷ xs)} (s.is_ack x)
      (λ a. let bad : true ≡ false = sym r ∙ keeps.ack_asks x a in absurd (cc))
      (λ a.
      let rs : length (filter s.is_request (x ∷ xs)) ≡ length (x ∷ filter s.is_request xs) = ap (λ b. length (cond b (x ∷ filter s.is_request xs) (filter s.is_request xs))) r in
      let ks : filter s.is_ack (x ∷ xs) ≡ filter s.is_ack xs = ap (λ b. cond b (x ∷ filter s.is_ack xs) (filter s.is_ack xs)) a in
      omega (arith, h, first.0, rs, ap length ks, ap done_in ks)))
      (λ r.
      let rest : Encoded s asks (filter s.is_request xs) = subst (Encoded s asks) (ap (λ b. cond b (x ∷ filter s.is_request xs) (filter s.is_request xs)) r) enc in
      let h = few_done asks xs rest in
      let rs : length (filter s.is_request (x ∷ xs)) ≡ length (filter s.is_request xs) = ap (λ b. length (cond b (x ∷ filter s.is_request xs) (filter s.is_request xs))) r in
      by_test {P = Few (x ∷ xs)} (s.is_ack x)
      (λ a.
      let ks : filter s.is_ack (x ∷ xs) ≡ x ∷ filter s.is_ack xs = ap (λ b. cond b (x ∷ filter s.is_ack xs) (filter s.is_ack xs)) a in
      omega (arith, h, rs, ap length ks, ap done_in ks))
      (λ a.
      let ks : filter s.is_ack (x ∷ xs) ≡ filter s.is_ack xs = ap (λ b. cond b (x ∷ filter s.is_ack xs) (filter s.is_ack xs)) a in
      omega (arith, h, rs, ap length ks, ap done_in ks, few_bit (is_done t x.packet))))

  -- what acknowledges messages are no more completions with an id than messages with it came
  few_acks : (ms : List Item) → done_in (map s.ack (filter s.is_message ms)) ≤ asked_in ms
  few_acks [] = omega arith
  few_acks (m ∷ ms) =
      let h = few_acks ms in
      by_test {P = done_in (map s.ack (filter s.is_message (m ∷ ms))) ≤ asked_in (m ∷ ms)} (s.is_message m)
      (λ e.
      let more : map s.ack (filter s.is_message (m ∷ ms)) ≡ s.ack m ∷ map s.ack (filter s.is_message ms) = ap (λ b. map s.ack (cond b (m ∷ filter s.is_message ms) (filter s.is_message ms))) e in
      let same : id_of (s.ack m).packet ≡ id_of m.packet = sym (paged.ids (s.ack m)) ∙ ((keeps.acks m e).1 ∙ paged.ids m) in
      let one = ask_if (kind_of m.packet == 11) (id_of m.packet == t) (kind_of (s.ack m).packet == 11) (paged.messages m e) in
      let here : bit (is_done t (s.ack m).packet) ≡ bit ((kind_of (s.ack m).packet == 11) && (id_of m.packet == t)) = ap (λ k. bit ((kind_of (s.ack m).packet == 11) && (k == t))) same in
      omega (arith, h, one, here, ap done_in more))
      (λ e.
      let more : map s.ack (filter s.is_message (m ∷ ms)) ≡ map s.ack (filter s.is_message ms) = ap (λ b. map s.ack (cond b (m ∷ filter s.is_message ms) (filter s.is_message ms))) e in
      omega (arith, h, ap done_in more))

  asked_more : (ms : List Item) (m : Item) (more : List Item) → asked_in (ms ++ m ∷ more) ≡ asked_in ms + (bit (is_ask t m.packet) + asked_in more)
  asked_more [] m more = omega arith
  asked_more (x ∷ ms) m more = omega (arith, asked_more ms m more)

  pub may_ack : (asks : List A) (past : List (Event Item)) (m : Item) (more : List Item) → Encoded s asks (requests_of s past) → SendsKinds s past → AcksKept s past (m ∷ more) → s.is_message m ≡ true → id_of (s.ack m).packet ≡ t
      → done_in (sent_of past) < asked_in (got_of past)
  may_ack asks past m more enc kinds acks is at =
      let sent : List Item = sent_of past in
      let few = few_done asks sent enc in
      let same : id_of m.packet ≡ t = sym (paged.ids m) ∙ (sym (keeps.acks m is).1 ∙ (paged.ids (s.ack m) ∙ at)) in
      let tests : (id_of m.packet == t) ≡ true = grind (arith, nat_tests, same) in
      let here = ask_here (kind_of m.packet == 11) (id_of m.packet == t) (paged.messages m is) tests in
      omega (arith, few, kinds, ap done_in acks.acks, few_acks acks.done, ap asked_in acks.got_is, asked_more acks.done m more, here)

-- items as they are read have the packets of the items
pub packets_read : (f : Item → Item) → ((i : Item) → (f i).packet ≡ i.packet) → (is : List Item) → packets (map f is) ≡ packets is
packets_read f same [] = refl
packets_read f same (i ∷ is) = (λ j. same i j ∷ packets_read f same is j)
