-- A run of items is a run of their packets, where items carry the packets of a wire format as they are.
use Rattle.std.proofs.Common.{◌≡◌, ℕ, zero, suc, Bool, true, false, cond, List, [], ◌∷◌, ◌++◌, length, map, filter, refl, sym, ap, ◌∙◌, subst, arith, Option, Some, None}
use Rattle.std.specs.Prelude.{◌==◌, ◌&&◌, filter_map, if◌then◌else◌}
use Rattle.std.specs.List.{cons_option}
use Rattle.page_kept.specs.declared.item.Item.{Item}
use Rattle.page_kept.specs.Items.{packets}
use Rattle.hist_lock.specs.Seat.{Call}
use Rattle.channel_trace.specs.Runs.{IsFront}
use Rattle.channel_model.specs.WireFormat.{WireFormat, Back, listed, packets_in, packets_of, under_own}
use Rattle.channel_model.specs.Lift.{mapped}
use Rattle.channel_model.specs.Carried.{back_by}
use Rattle.channel_model.specs.Acks.{acks_for}
use Rattle.channel_model.specs.Asker.{Encoded}
use Rattle.channel_model.specs.Server.{Serves, ServesAsk, ServesOne, answered}
use Rattle.channel_model.specs.Channel.{RequestPlan, IsProtocolRun, asks_of, count_of, held_of}
use Rattle.channel_protocol.specs.Paged.{bare_item, in_packets}

packets_append : (xs ys : List Item) → packets (xs ++ ys) ≡ packets xs ++ packets ys
packets_append [] ys = refl
packets_append (x ∷ xs) ys = ap (λ (l : List (List ℕ)). x.packet ∷ l) (packets_append xs ys)

packets_long : (xs : List Item) → length (packets xs) ≡ length xs
packets_long [] = refl
packets_long (x ∷ xs) = ap suc (packets_long xs)

-- packets without page words are what they were
pub packets_bare : (ps : List (List ℕ)) → packets (map bare_item ps) ≡ ps
packets_bare [] = refl
packets_bare (p ∷ ps) = ap (λ (l : List (List ℕ)). p ∷ l) (packets_bare ps)

fronts : (xs ys : List Item) → IsFront xs ys → IsFront (packets xs) (packets ys)
fronts xs ys front = (packets front.0, ap packets front.1 ∙ packets_append xs front.0)

chosen : (b : Bool) (i : Item) (is : List Item) → packets (cond b (i ∷ is) is) ≡ cond b (i.packet ∷ packets is) (packets is)
chosen true i is = refl
chosen false i is = refl

filtered : (f : List ℕ → Bool) (is : List Item) → packets (filter (λ (i : Item). f i.packet) is) ≡ filter f (packets is)
filtered f [] = refl
filtered f (i ∷ is) = chosen (f i.packet) i (filter (λ (j : Item). f j.packet) is) ∙ ap (λ (l : List (List ℕ)). cond (f i.packet) (i.packet ∷ l) l) (filtered f is)

filter_mapped : {Q : Type 0} (f : List ℕ → Option Q) (is : List Item) → filter_map (λ (i : Item). f i.packet) is ≡ filter_map f (packets is)
filter_mapped f [] = refl
filter_mapped f (i ∷ is) = ap (cons_option (f i.packet)) (filter_mapped f is)

acked_bare : (f : List ℕ → List ℕ) (is : List Item) → packets (map (λ (i : Item). bare_item (f i.packet)) is) ≡ map f (packets is)
acked_bare f [] = refl
acked_bare f (i ∷ is) = ap (λ (l : List (List ℕ)). f i.packet ∷ l) (acked_bare f is)

own_bare : (own : ℕ) (o : Option (ℕ → List ℕ)) → packets (listed (under_own own (mapped (λ (m : ℕ → List ℕ) (own : ℕ). bare_item (m own)) o))) ≡ listed (under_own own o)
own_bare own None = refl
own_bare own (Some m) = refl

back_bare : (own : ℕ) (b : Back (List ℕ)) → packets (packets_of own (back_by bare_item bare_item b)) ≡ packets_of own b
back_bare own b =
    packets_append (listed (under_own own (mapped (λ (m : ℕ → List ℕ) (own : ℕ). bare_item (m own)) b.message))) (bare_item b.answer ∷ [])
    ∙ ap (λ (l : List (List ℕ)). l ++ b.answer ∷ []) (own_bare own b.message)

fixed_bare : (own : ℕ) (o : Option (Back (List ℕ))) → packets (packets_in own (mapped (back_by bare_item bare_item) o)) ≡ packets_in own o
fixed_bare own None = refl
fixed_bare own (Some b) = back_bare own b

module _ {A Q R : Type 0} (s : WireFormat (List ℕ) A Q R) where
  abbrev c : WireFormat Item A Q R
  c = in_packets s

  encoded : (asks : List A) (is : List Item) → Encoded c asks is → Encoded s asks (packets is)
  encoded asks [] h = tt
  encoded [] (i ∷ is) h = absurd h
  encoded (a ∷ asks) (i ∷ is) h = (ap (λ (j : Item). j.packet) h.0, encoded asks is h.1)

  acks : (is : List Item) → packets (acks_for c is) ≡ acks_for s (packets is)
  acks is = acked_bare s.ack (filter (λ (i : Item). s.is_message i.packet) is) ∙ ap (map s.ack) (filtered s.is_message is)

  same_answers : (held : Bool) (n : ℕ) (calls : List (Call Q R)) → answered c held n calls ≡ answered s held n calls
  same_answers held n [] = refl
  same_answers held zero (x ∷ calls) = refl
  same_answers held (suc n) (x ∷ calls) = ap (λ (l : List (Call Q R)). if held && n == 0 then [] else x ∷ l) (same_answers held n calls)

  -- what goes back for a request, and for any packet, with what is met behind it
  serves_ask : (b : Bool) (i : Item) (n : ℕ) (x : Call Q R) (calls : List (Call Q R)) (sent : List Item) (more : ℕ → List (Call Q R) → List Item → Type 0) (more' : ℕ → List (Call Q R) → List (List ℕ) → Type 0)
      → ((m : ℕ) (later : List (Call Q R)) (rest : List Item) → more m later rest → more' m later (packets rest)) → ServesAsk c b i n x calls sent more → ServesAsk s b i.packet n x calls (packets sent) more'
  serves_ask true i n x calls sent more more' go h = (h.0, ap packets h.1)
  serves_ask false i n x calls sent more more' go h = (
    h.0,
    packets h.1,
    ap packets h.2 ∙ (packets_append (packets_of h.0 (back_by bare_item bare_item (s.gives i.packet x.reply))) h.1 ∙ ap (λ (l : List (List ℕ)). l ++ packets h.1) (back_bare h.0 (s.gives i.packet x.reply))),
    go n calls h.1 h.3,
  )

  serves_one : (held : Bool) (i : Item) (o : Option Q) (n : ℕ) (calls : List (Call Q R)) (sent : List Item) (more : ℕ → List (Call Q R) → List Item → Type 0) (more' : ℕ → List (Call Q R) → List (List ℕ) → Type 0)
      → ((m : ℕ) (later : List (Call Q R)) (rest : List Item) → more m later rest → more' m later (packets rest)) → ServesOne c held i o n calls sent more → ServesOne s held i.packet o n calls (packets sent) more'
  serves_one held i None n calls sent more more' go h = (
    h.0,
    packets h.1,
    ap packets h.2 ∙ (packets_append (packets_in h.0 (mapped (back_by bare_item bare_item) (s.fixed i.packet))) h.1 ∙ ap (λ (l : List (List ℕ)). l ++ packets h.1) (fixed_bare h.0 (s.fixed i.packet))),
    go n calls h.1 h.3,
  )
  serves_one held i (Some q) zero calls sent more more' go h = (h.0, ap packets h.1)
  serves_one held i (Some q) (suc n) [] sent more more' go h = absurd h
  serves_one held i (Some q) (suc n) (x ∷ calls) sent more more' go h = (record { asked = h.0.asked; fits = h.0.fits }, serves_ask (held && n == 0) i n x calls sent more more' go h.1)

  serves : (held : Bool) (got : List Item) (n : ℕ) (calls : List (Call Q R)) (sent : List Item) → Serves c held got n calls sent → Serves s held (packets got) n calls (packets sent)
  serves held [] n calls sent h = (h.0, ap packets h.1)
  serves held (i ∷ got) n calls sent h =
      serves_one held i (s.read i.packet) n calls sent (λ m later rest. Serves c held got m later rest) (λ m later rest. Serves s held (packets got) m later rest) (λ m later rest some. serves held got m later rest some) h

  pub packets_run : (plan : RequestPlan A) (sent got server_sent server_got : List Item) (calls : List (Call Q R)) (told : List R) → IsProtocolRun c plan sent got server_sent server_got calls told
      → IsProtocolRun s plan (packets sent) (packets got) (packets server_sent) (packets server_got) calls told
  packets_run plan sent got server_sent server_got calls told h =
      let n = count_of plan.stop (length plan.script) in
      let held = held_of plan.stop (length plan.script) in
      let requests = filter (λ (i : Item). s.is_request i.packet) sent in
      let came = filter (λ (i : Item). s.is_request i.packet) server_got in
      let waiting : filter s.waits (filter s.is_request (packets server_got)) ≡ packets (filter (λ (i : Item). s.waits i.packet) came) = ap (filter s.waits) (sym (filtered s.is_request server_got)) ∙ sym (filtered s.waits came) in
      record {
        front = fronts server_got sent h.front;
        whole_got = λ none. ap packets (h.whole_got none);
        answers_got = ap packets h.answers_got;
        requests = subst (Encoded s (asks_of s plan)) (filtered s.is_request sent) (encoded (asks_of c plan) requests h.requests);
        whole = λ none. ap length (sym (filtered s.is_request sent)) ∙ (packets_long requests ∙ h.whole none);
        acks = subst (λ (l : List (List ℕ)). IsFront l (acks_for s (packets server_sent))) (filtered s.is_ack sent)
            (subst (IsFront (packets (filter (λ (i : Item). s.is_ack i.packet) sent))) (acks server_sent) (fronts (filter (λ (i : Item). s.is_ack i.packet) sent) (acks_for c server_sent) h.acks));
        all_acked = λ none. sym (filtered s.is_ack sent) ∙ (ap packets (h.all_acked none) ∙ acks server_sent);
        served = serves held server_got n calls server_sent h.served;
        started = omega (arith, h.started, ap length waiting, packets_long (filter (λ (i : Item). s.waits i.packet) came));
        asked = subst (IsFront (map (λ (x : Call Q R). x.request) calls)) (filter_mapped s.read sent) h.asked;
        count = h.count;
        replies = h.replies ∙ ap (map (λ (x : Call Q R). x.reply)) (same_answers held n calls);
      }
