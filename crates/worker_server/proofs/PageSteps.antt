-- The serving worker's steps keep what its pages ask.
use Rattle.std.proofs.Common.{◌≡◌, ◌≢◌, ℕ, ◌+◌, ◌<◌, ◌≤◌, ◌⊎◌, ⊎_elim, inl, inr, cond, List, [], ◌∷◌, ◌++◌, length, map, drop, refl, sym, ap, ◌∙◌, subst, arith, append_assoc, Option, Some, None, is_some, Bool, true, false}
use Rattle.std.specs.Prelude.{slice_get, take, ◌==◌}
use Rattle.std.proofs.lemmas.List.{append_cancel_right, take_more, take-append-drop, take-append-le}
use Rattle.std.proofs.lemmas.Option.{get_or_from_slice_get}
use Rattle.channel_trace.specs.Runs.{sent_of, got_of}
use Rattle.channel_model.specs.WireFormat.{WireFormat, Keeps}
use Rattle.channel_model.specs.Workers.{ServerKept}
use Rattle.channel_model.specs.Server.{Serves}
use Rattle.channel_protocol.specs.Paged.{KeepsPages, Lays}
use Rattle.page_kept.specs.declared.item.Item.{Item}
use Rattle.page_kept.specs.Items.{item_of, packets}
use Rattle.ring_core.specs.declared.told.Told.{Told}
use Rattle.ring_core.specs.Pages.{IsClear, along}
use Rattle.ring_seat.specs.Lawful.{IsLawful, Lawfully}
use Rattle.ring_core.specs.Seen.{Seen}
use Rattle.ring_core.specs.Told.{Tale}
use Rattle.ring_core.proofs.Paging.{none_along}
use Rattle.ring_machine.specs.declared.machine.Ending.TheVariants.{Full as EndedFull}
use Rattle.worker_port.specs.Line.{CanLay, IsSameEnd, Line}
use Rattle.worker_port.specs.Owed.{HasSendRoom, MetFull, Written}
use Rattle.worker_port.specs.Tries.{TriedWith}
use Rattle.worker_port.specs.declared.found.Tried.TheVariants.{Sent as TriedSent, Full as TriedFull, Broken as TriedBroken}
use Rattle.worker_server.specs.Serving.{FirstFull, HasRoomFor, Serving, ServesOn}
use Rattle.worker_server.proofs.ServeSteps.{room_still}
use Rattle.worker_server.specs.Sheets.{AnswersTo, AreBare, GoBackLast, GoesBack, HasPages, TellsOwn, is_own_open, item_on, read_all}
use Rattle.worker_server.proofs.HomeSteps.{home_came, own_said, own_told}
use Rattle.worker_server.proofs.OwnLaws.{own_within}
use Rattle.worker_server.specs.Serving.{own_in}
use Rattle.worker_port.specs.Homes.{HasHome, KeepsHome, SendsHome, open_tried}
use Rattle.worker_port.specs.Line.{past_tried}
use Rattle.worker_port.specs.declared.found.Tried.{Tried}
use Rattle.worker_port.proofs.HomeLaws.{home_lends}
use Rattle.worker_port.proofs.LentLaws.{along_lent, lends_own}
use Rattle.channel_trace.specs.declared.event.Event.TheVariants.{Got}
use Rattle.channel_model.specs.Acks.{OwnFrom, is_in, own_open}
use Rattle.channel_model.specs.Workers.{OwnKept}
use Rattle.channel_model.proofs.Acking.{own_from}
use Rattle.channel_model.proofs.Opens.{by_test}
use Rattle.io_edge.specs.declared.side.Side.TheVariants.{Host}
use Rattle.page_home_laws.specs.Home.{closed, first_of, opened}
use Rattle.pkt_desc.specs.Packets.{id_of, kind_of}
use Rattle.pkt_desc.specs.Lending.{lent_of}
use Rattle.pkt_desc.specs.declared.loan.Lent.{Lent as LentBytes}
use Rattle.ring_machine.specs.declared.state.EndState.{EndState}
use Rattle.worker_server.proofs.OwedLaws.{drop_bare}
use Rattle.worker_server.proofs.PageLaws as laws

what_is : {X : Type 0} (o : Option X) → is_some o ≡ true → (x : X) × (o ≡ Some x)
what_is None some = absurd (cc)
what_is (Some x) some = (x, refl)

-- one more is served
pub taken_next : (got : List Item) (n : ℕ) (p : Item) → n + 1 ≤ length got → slice_get got n ≡ Some p → take (n + 1) got ≡ take n got ++ p ∷ []
taken_next got n p less at = take_more got n (item_of [] []) (omega (arith, less)) ∙ ap (λ x. take n got ++ x ∷ []) (get_or_from_slice_get got n p (item_of [] []) at)

module _ {A Q R : Type 0} (said : Item → Item) (s : WireFormat Item A Q R) (besides : Bool) where
  drop_back : (p : Item) (o : Written) (os : List Written) → GoesBack said s besides p (o ∷ os) → GoesBack said s besides p os
  drop_back p o [] h = tt
  drop_back p o (a ∷ []) h = h.1
  drop_back p o (a ∷ q ∷ os) h = absurd h

  drop_last : (served : List Item) (os : List Written) → GoBackLast said s besides served os → GoBackLast said s besides served (drop 1 os)
  drop_last served [] h = tt
  drop_last served (o ∷ []) h = tt
  drop_last served (o ∷ p ∷ os) h = record { before = h.before; packet = h.packet; last = h.last; back = drop_back h.packet o (p ∷ os) h.back }

  next_last : (before : List Item) (p : Item) (os : List Written) → GoesBack said s besides p os → GoBackLast said s besides (before ++ p ∷ []) os
  next_last before p [] h = tt
  next_last before p (o ∷ os) h = record { before = before; packet = p; last = refl; back = h }

  -- what goes back first is the answer alone, or a message, and then the answer
  abbrev IsAlone : Item → Written → List Written → Type 0
  IsAlone p o os = AnswersTo said s p o × (os ≡ [])

  abbrev IsBefore : Item → Written → List Written → Type 0
  IsBefore p o os = TellsOwn said s besides o × ((a : Written) × (os ≡ a ∷ []) × AnswersTo said s p a)

  first_back : (p : Item) (o : Written) (os : List Written) → GoesBack said s besides p (o ∷ os) → IsAlone p o os ⊎ IsBefore p o os
  first_back p o [] h = inl (h, refl)
  first_back p o (a ∷ []) h = inr (h.0, (a, refl, h.1))
  first_back p o (a ∷ q ∷ os) h = absurd h

module _ {T S E A Q R : Type 0} (told : E → Option Told) (said : Item → Item) (sp : T → WireFormat Item A Q R) (lends besides : T → Bool) where
  abbrev pub PagesOf : Serving T S E Q R → Type 0
  PagesOf w = HasPages told said (sp w.responder.protocol) (lends w.responder.protocol) (besides w.responder.protocol) w

  -- of each id of its own messages it has the page, or has lent it
  abbrev pub HomeOf : Serving T S E Q R → Type 0
  HomeOf w = HasHome (is_own_open (sp w.responder.protocol) w.end.state.past) w.end.end.state

  -- the old worker, as one with the new one's protocol
  as_new : (old new : Serving T S E Q R) → new.responder.protocol ≡ old.responder.protocol → PagesOf old → HasPages told said (sp new.responder.protocol) (lends new.responder.protocol) (besides new.responder.protocol) old
  as_new old new protocol h = subst (λ t. HasPages told said (sp t) (lends t) (besides t) old) (sym protocol) h

  -- nothing else was written, and the packets that were served are the same
  pub pages_on : (old new : Serving T S E Q R) → new.responder.protocol ≡ old.responder.protocol → new.responder.sheets ≡ old.responder.sheets → take new.served new.end.state.got ≡ take old.served old.end.state.got
      → new.end.end.state.pages.count ≡ old.end.end.state.pages.count → new.end.end.state.machine.side ≡ old.end.end.state.machine.side → is_some (told new.end.seat) ≡ is_some (told old.end.seat) → (lends new.responder.protocol ≡ true → HomeOf new) → PagesOf old → PagesOf new
  pages_on old new protocol sheets served count side tells home h =
      let k = as_new old new protocol h in
      record {
        none = λ l. count ∙ k.none l;
        bare = λ l. subst AreBare (sym sheets) (k.bare l);
        some = λ l z. k.some l (sym count ∙ z);
        host = λ l. side ∙ k.host l;
        enough = λ l m. omega (arith, count, k.enough l m);
        tells = λ l. tells ∙ k.tells l;
        lawful = k.lawful;
        goes = λ l. subst (λ (x : List Item × List Written). GoBackLast said (sp new.responder.protocol) (besides new.responder.protocol) x.0 x.1) (λ i. (sym served i, sym sheets i)) (k.goes l);
        home = home;
      }

  -- a call that sends and takes nothing
  home_quiet : (old new : Serving T S E Q R) → new.responder.protocol ≡ old.responder.protocol → ((s : WireFormat Item A Q R) → own_open s new.end.state.past ≡ own_open s old.end.state.past) → KeepsHome old.end.end.state new.end.end.state → PagesOf old → lends new.responder.protocol ≡ true → HomeOf new
  home_quiet old new protocol opens keeps h l =
      let s = sp new.responder.protocol in
      let k = as_new old new protocol h in
      let same : is_own_open s new.end.state.past ≡ is_own_open s old.end.state.past = λ i t. is_in t (opens s i) in
      subst (λ f. HasHome f new.end.end.state) (sym same) (keeps (is_own_open s old.end.state.past) (k.home l))

  pub pages_quiet : (old new : Serving T S E Q R) → new.responder.protocol ≡ old.responder.protocol → new.responder.sheets ≡ old.responder.sheets → new.served ≡ old.served → new.end.state.got ≡ old.end.state.got
      → new.end.end.state.pages.count ≡ old.end.end.state.pages.count → new.end.end.state.machine.side ≡ old.end.end.state.machine.side → is_some (told new.end.seat) ≡ is_some (told old.end.seat)
      → ((s : WireFormat Item A Q R) → own_open s new.end.state.past ≡ own_open s old.end.state.past) → KeepsHome old.end.end.state new.end.end.state → PagesOf old → PagesOf new
  pages_quiet old new protocol sheets served got count side tells opens keeps h =
      pages_on old new protocol sheets (λ i. take (served i) (got i)) count side tells (home_quiet old new protocol opens keeps h) h

  -- a packet was taken
  pub pages_took : (old new : Serving T S E Q R) (p : Item) → ((t : T) → lends t ≡ true → KeepsPages (sp t)) → new.responder.protocol ≡ old.responder.protocol → new.responder.sheets ≡ old.responder.sheets → new.served ≡ old.served → new.end.state.got ≡ old.end.state.got ++ p ∷ [] → old.served ≤ length old.end.state.got
      → new.end.end.state.pages.count ≡ old.end.end.state.pages.count → new.end.end.state.machine.side ≡ old.end.end.state.machine.side → is_some (told new.end.seat) ≡ is_some (told old.end.seat) → new.end.state.past ≡ Got p ∷ old.end.state.past
      → OwnKept (sp old.responder.protocol) old.end.state.past old.responder.owed (own_in old.responder.table)
      → ((f : ℕ → Bool) → HasHome f old.end.end.state → HasHome (cond (kind_of p.packet == 11) (closed f (id_of p.packet)) f) new.end.end.state) → PagesOf old → PagesOf new
  pages_took old new p paged protocol sheets served got within count side tells past own takes h =
      let k = as_new old new protocol h in
      let t = new.responder.protocol in
      pages_on old new protocol sheets ((λ i. take (served i) (got i)) ∙ take-append-le old.served old.end.state.got (p ∷ []) within) count side tells
      (λ l.
      let kept = subst (λ x. OwnKept (sp x) old.end.state.past old.responder.owed (own_in old.responder.table)) (sym protocol) own in
      subst (λ q. HasHome (is_own_open (sp t) q) new.end.end.state) (sym past)
      (home_came (sp t) old.end.state.past (paged t l) p old.responder.owed (own_in old.responder.table) new.end.end.state kept (takes (is_own_open (sp t) old.end.state.past) (k.home l)))) h

  -- what was owed first was sent
  pub pages_gave : (old new : Serving T S E Q R) → new.responder.protocol ≡ old.responder.protocol → new.responder.sheets ≡ drop 1 old.responder.sheets → new.served ≡ old.served → new.end.state.got ≡ old.end.state.got
      → new.end.end.state.pages.count ≡ old.end.end.state.pages.count → new.end.end.state.machine.side ≡ old.end.end.state.machine.side → is_some (told new.end.seat) ≡ is_some (told old.end.seat) → (lends new.responder.protocol ≡ true → HomeOf new) → PagesOf old → PagesOf new
  pages_gave old new protocol sheets served got count side tells home h =
      let k = as_new old new protocol h in
      record {
        none = λ l. count ∙ k.none l;
        bare = λ l. subst AreBare (sym sheets) (drop_bare old.responder.sheets (k.bare l));
        some = λ l z. k.some l (sym count ∙ z);
        host = λ l. side ∙ k.host l;
        enough = λ l m. omega (arith, count, k.enough l m);
        tells = λ l. tells ∙ k.tells l;
        lawful = k.lawful;
        goes = λ l.
            subst (λ (x : List Item × List Written). GoBackLast said (sp new.responder.protocol) (besides new.responder.protocol) x.0 x.1) (λ i. (take (sym served i) (sym got i), sym sheets i))
            (drop_last said (sp new.responder.protocol) (besides new.responder.protocol) (take old.served old.end.state.got) old.responder.sheets (k.goes l));
        home = home;
      }

  -- a packet that came was served
  pub pages_served : (old new : Serving T S E Q R) (p : Item) → new.responder.protocol ≡ old.responder.protocol → take new.served new.end.state.got ≡ take old.served old.end.state.got ++ p ∷ [] → new.end ≡ old.end
      → (lends new.responder.protocol ≡ false → AreBare new.responder.sheets) → (lends new.responder.protocol ≡ true → GoesBack said (sp new.responder.protocol) (besides new.responder.protocol) p new.responder.sheets) → PagesOf old → PagesOf new
  pages_served old new p protocol served end bare goes h =
      let k = as_new old new protocol h in
      record {
        none = λ l. ap (λ (e : Line E). e.end.state.pages.count) end ∙ k.none l;
        bare = bare;
        some = λ l z. k.some l (ap (λ (e : Line E). e.end.state.pages.count) (sym end) ∙ z);
        host = λ l. ap (λ (e : Line E). e.end.state.machine.side) end ∙ k.host l;
        enough = λ l m. omega (arith, ap (λ (e : Line E). e.end.state.pages.count) end, k.enough l m);
        tells = λ l. ap (λ (e : Line E). is_some (told e.seat)) end ∙ k.tells l;
        lawful = k.lawful;
        goes = λ l.
            subst (λ (x : List Item). GoBackLast said (sp new.responder.protocol) (besides new.responder.protocol) x new.responder.sheets) (sym served)
            (next_last said (sp new.responder.protocol) (besides new.responder.protocol) (take old.served old.end.state.got) p new.responder.sheets (goes l));
        home = λ l. subst (λ (e : Line E). HasHome (is_own_open (sp new.responder.protocol) e.state.past) e.end.state) (sym end) (k.home l);
      }

  -- a new worker
  pub pages_new : (w : Serving T S E Q R) → w.responder.sheets ≡ [] → w.end.state.past ≡ [] → (lends w.responder.protocol ≡ false → w.end.end.state.pages.count ≡ 0) → (lends w.responder.protocol ≡ true → w.end.end.state.pages.count ≢ 0)
      → (lends w.responder.protocol ≡ true → w.end.end.state.machine.side ≡ Host) → (lends w.responder.protocol ≡ true → besides w.responder.protocol ≡ true → 128 ≤ w.end.end.state.pages.count)
      → (lends w.responder.protocol ≡ true → is_some (told w.end.seat) ≡ true) → (lends w.responder.protocol ≡ true → (e : E) (u : Told) → told e ≡ Some u → Lawfully u.state) → HasHome (λ t. false) w.end.end.state → PagesOf w
  pages_new w sheets past none some host enough tells lawful home = record {
    none = none;
    bare = λ l. subst AreBare (sym sheets) tt;
    some = some;
    host = host;
    enough = enough;
    tells = tells;
    lawful = lawful;
    goes = λ l. subst (GoBackLast said (sp w.responder.protocol) (besides w.responder.protocol) (take w.served w.end.state.got)) (sym sheets) tt;
    home = λ l. subst (λ q. HasHome (is_own_open (sp w.responder.protocol) q) w.end.end.state) (sym past) home;
  }

-- What is owed first may be sent, behind the stores of its page words, and is then read as it was meant; and a try keeps the pages under the ids of its own messages
pub record CanGive {S A Q R : Type 0} (said : Item → Item) (s : WireFormat Item A Q R) (lends : Bool) (e : Line S) (o : Written) : Type 0 where
  pub can : CanLay e.end o.packet o.words
  pub reads : (i : Item) → Lays o.packet o.words (along e.end.state.pages o.packet) i → (e.end.state.pages.count ≡ 0 → i ≡ item_of o.packet []) → said i ≡ said (item_on o)
  pub home : lends ≡ true → (how : Tried) (new : EndState) → SendsHome how o.packet e.end.state new → HasHome (is_own_open s (past_tried how (said (item_on o)) e.state.past)) new

module _ {T S E A Q R : Type 0} (told : E → Option Told) (said : Item → Item) (s : WireFormat Item A Q R) (besides : Bool) (w : Serving T S E Q R) (o : Written) (first : w.responder.sheets ≡ o ∷ drop 1 w.responder.sheets) where
  bare_on : (o.words ≡ []) × (o.lent ≡ 0) → said (item_of o.packet []) ≡ said (item_on o)
  bare_on none = subst (λ (z : List ℕ × ℕ). said (item_of o.packet []) ≡ said (item_on (record { packet = o.packet; words = z.0; lent = z.1 }))) (λ i. (sym none.0 i, sym none.1 i)) refl

  give_bare : HasPages told said s false besides w → CanGive said s false w.end o
  give_bare h =
      let none : (o.words ≡ []) × (o.lent ≡ 0) = (subst AreBare first (h.bare refl)).0 in
      let zero = h.none refl in
      record {
        can = record { may = λ some. absurd (some zero); fits = omega (arith, ap length none.0) };
        reads = λ i lays bare. ap said (bare zero) ∙ bare_on none;
        home = λ l. absurd (let bad : false ≡ true = l in cc);
      }

  -- what is true of the worker that gives
  module _ (keeps : Keeps s) (kp : KeepsPages s) (same : (i : Item) → (said i).packet ≡ i.packet) (few : (i : Item) → length (said i).words ≤ length i.words) (le : length o.words ≤ o.lent) (read : w.responder.owed ≡ read_all said w.responder.sheets)
      (kept : ServerKept s w.responder.held w.serve w.end.state.past w.responder.calls w.responder.owed w.responder.left (drop w.served w.end.state.got)) (own : OwnKept s w.end.state.past w.responder.owed (own_in w.responder.table)) (from : OwnFrom s 64 w.end.state.past) (places : length w.responder.table ≡ 64)
      (clear : IsClear w.end.end.state.pages) (items : w.end.end.state.pages.count ≢ 0 → (packets w.end.end.state.pages.sent ≡ w.end.end.state.sent) × (packets w.end.end.state.pages.got ≡ w.end.end.state.got))
      (lists : w.end.end.state.pages.count ≢ 0 → (sent_of w.end.state.past ≡ map said w.end.end.state.pages.sent) × (got_of w.end.state.past ≡ map said w.end.end.state.pages.got))
      (listed : length w.end.end.state.pages.owners ≡ w.end.end.state.pages.count) (got : got_of w.end.state.past ≡ w.end.state.got) (tell : (u : Told) → told w.end.seat ≡ Some u → u.state ≡ w.end.end.state) (h : HasPages told said s true besides w) where
    -- an answer that is owed alone
    give_answer : (before : List Item) (p : Item) → take w.served w.end.state.got ≡ before ++ p ∷ [] → AnswersTo said s p o → drop 1 w.responder.sheets ≡ [] → CanGive said s true w.end o
    give_answer before p last answers alone =
        let e = w.end.end.state in
        let some = h.some refl in
        let a : Item = said (item_on o) in
        let owes : w.responder.owed ≡ a ∷ [] = read ∙ ap (read_all said) (first ∙ ap (λ (x : List Written). o ∷ x) alone) in
        let whole : kept.served ++ drop w.served w.end.state.got ≡ take w.served w.end.state.got ++ drop w.served w.end.state.got = sym kept.got_is ∙ (got ∙ sym (take-append-drop w.served w.end.state.got)) in
        let served : kept.served ≡ before ++ p ∷ [] = append_cancel_right kept.served (take w.served w.end.state.got) (drop w.served w.end.state.got) whole ∙ last in
        let serves : Serves s w.responder.held (before ++ p ∷ []) w.serve w.responder.calls (sent_of w.end.state.past ++ a ∷ []) =
        subst (λ (x : List Item × List Item). Serves s w.responder.held x.0 w.serve w.responder.calls (sent_of w.end.state.past ++ x.1)) (λ i. (served i, owes i)) kept.serves in
        let after : map said e.pages.got ≡ before ++ p ∷ drop w.served w.end.state.got =
        sym (lists some).1 ∙ (kept.got_is ∙ (ap (λ (x : List Item). x ++ drop w.served w.end.state.got) served ∙ append_assoc before (p ∷ []) (drop w.served w.end.state.got))) in
        let u = what_is (told w.end.seat) (h.tells refl) in
        let lawful : IsLawful e = subst Lawfully (tell u.0 u.1) (h.lawful refl w.end.seat u.0 u.1) some (clear some) in
        let named : a.packet ≡ o.packet = same (item_on o) in
        let fits = laws.fits s kp said same keeps w.responder.held w.serve before p w.responder.calls (sent_of w.end.state.past) a serves answers.waits answers.is_answer few e some clear listed (items some) lawful (lists some).0 (drop w.served w.end.state.got) after o.packet named answers.same o.lent answers.brings.within in
        let done : (kind_of o.packet == 11) ≡ true = ap (λ (q : List ℕ). kind_of q == 11) (sym named) ∙ (sym (kp.answers a) ∙ answers.is_answer) in
        let silent : s.is_message a ≡ false = by_test (s.is_message a) (λ m. absurd (let bad : true ≡ false = sym done ∙ (ap (λ (q : List ℕ). kind_of q == 11) (sym named) ∙ kp.messages a m) in cc)) (λ m. m) in
        record {
          can = record {
            may = laws.may_send s kp said same keeps w.responder.held w.serve before p w.responder.calls (sent_of w.end.state.past) a serves answers.waits answers.is_answer few e some clear listed (items some) lawful (lists some).0 (drop w.served w.end.state.got) after o.packet named answers.same;
            fits = omega (arith, le, fits);
          };
          reads = λ i lays bare. answers.brings.whole (along e.pages o.packet) i fits lays;
          home = λ l how new sends. answer_tried a silent how new (sends.ends (is_own_open s w.end.state.past) done (h.home refl));
        }
      where
        answer_tried : (a : Item) → s.is_message a ≡ false → (how : Tried) (new : EndState) → HasHome (is_own_open s w.end.state.past) new → HasHome (is_own_open s (past_tried how a w.end.state.past)) new
        answer_tried a silent TriedSent new home = subst (λ f. HasHome f new) (own_said s w.end.state.past a silent) home
        answer_tried a silent TriedFull new home = home
        answer_tried a silent TriedBroken new home = home

    -- a message of its own
    give_own : TellsOwn said s besides o → CanGive said s true w.end o
    give_own tells =
        let e = w.end.end.state in
        let m : Item = said (item_on o) in
        let owes : w.responder.owed ≡ m ∷ read_all said (drop 1 w.responder.sheets) = read ∙ ap (read_all said) first in
        let goes = (own_from s 64 w.end.state.past m (read_all said (drop 1 w.responder.sheets)) (own_in w.responder.table) (λ id is. let z = own_within w.responder.table id is in (z.0, omega (arith, z.1, places))) (subst (λ (l : List Item). OwnKept s w.end.state.past l (own_in w.responder.table)) owes own) from).0 tells.message in
        let named : m.packet ≡ o.packet = same (item_on o) in
        let id : s.id_of m ≡ id_of o.packet = kp.ids m ∙ ap id_of named in
        let ask : (kind_of o.packet == 11) ≡ false = ap (λ (q : List ℕ). kind_of q == 11) (sym named) ∙ kp.messages m tells.message in
        let free : is_own_open s w.end.state.past (id_of o.packet) ≡ false = ap (is_own_open s w.end.state.past) (sym id) ∙ goes.2 in
        let page : (l : LentBytes) → lent_of o.packet ≡ Some l → l.page ≡ 63 + id_of o.packet = λ l is. tells.own l (omega (arith, id, goes.0)) (omega (arith, id, goes.1)) is in
        let host : first_of e.machine.side ≡ 64 = ap first_of (h.host refl) in
        let lends = lends_own e.pages.count e.machine.side o.packet (λ l is. (omega (arith, id, goes.0), omega (arith, id, goes.1), omega (arith, page l is, host))) in
        let inside : (l : LentBytes) → lent_of o.packet ≡ Some l → l.page < e.pages.count = λ l is. omega (arith, page l is, id, goes.1, h.enough refl tells.may) in
        let whole : along e.pages o.packet ≡ o.lent = along_lent e.pages o.packet ask inside ∙ sym tells.lends.lent in
        record {
          can = record { may = home_lends e clear (is_own_open s w.end.state.past) o.packet (h.home refl) ask free lends; fits = omega (arith, le, whole) };
          reads = λ i lays bare. tells.lends.whole i (subst (λ n. Lays o.packet o.words n i) whole lays);
          home = λ l how new sends. told_tried m id tells.message how new (sends.asks (is_own_open s w.end.state.past) ask free lends (h.home refl));
        }
      where
        told_tried : (m : Item) → s.id_of m ≡ id_of o.packet → s.is_message m ≡ true → (how : Tried) (new : EndState) → HasHome (open_tried how (is_own_open s w.end.state.past) (id_of o.packet)) new → HasHome (is_own_open s (past_tried how m w.end.state.past)) new
        told_tried m id is TriedSent new home = subst (λ f. HasHome f new) (ap (opened (is_own_open s w.end.state.past)) (sym id) ∙ own_told s w.end.state.past m is) home
        told_tried m id is TriedFull new home = home
        told_tried m id is TriedBroken new home = home

    give_paged : CanGive said s true w.end o
    give_paged =
        let l = subst (GoBackLast said s besides (take w.served w.end.state.got)) first (h.goes refl) in
        ⊎_elim (λ alone. give_answer l.before l.packet l.last alone.0 alone.1) (λ both. give_own both.0) (first_back said s besides l.packet o (drop 1 w.responder.sheets) l.back)

  pub can_give : (lends : Bool) (keeps : Keeps s) → (lends ≡ true → KeepsPages s) → ((i : Item) → (said i).packet ≡ i.packet) → ((i : Item) → length (said i).words ≤ length i.words) → length o.words ≤ o.lent → w.responder.owed ≡ read_all said w.responder.sheets
      → ServerKept s w.responder.held w.serve w.end.state.past w.responder.calls w.responder.owed w.responder.left (drop w.served w.end.state.got) → OwnKept s w.end.state.past w.responder.owed (own_in w.responder.table) → OwnFrom s 64 w.end.state.past → length w.responder.table ≡ 64 → IsClear w.end.end.state.pages
      → (w.end.end.state.pages.count ≢ 0 → (packets w.end.end.state.pages.sent ≡ w.end.end.state.sent) × (packets w.end.end.state.pages.got ≡ w.end.end.state.got))
      → (w.end.end.state.pages.count ≢ 0 → (sent_of w.end.state.past ≡ map said w.end.end.state.pages.sent) × (got_of w.end.state.past ≡ map said w.end.end.state.pages.got))
      → length w.end.end.state.pages.owners ≡ w.end.end.state.pages.count → got_of w.end.state.past ≡ w.end.state.got → ((u : Told) → told w.end.seat ≡ Some u → u.state ≡ w.end.end.state) → HasPages told said s lends besides w → CanGive said s lends w.end o
  can_give false keeps kp same few le read kept own from places clear items lists listed got tell h = give_bare h
  can_give true keeps kp same few le read kept own from places clear items lists listed got tell h = give_paged keeps (kp refl) same few le read kept own from places clear items lists listed got tell h

pub full_unsent : TriedFull ≡ TriedSent → ⊥
full_unsent e = absurd (cc)

pub broken_unsent : TriedBroken ≡ TriedSent → ⊥
broken_unsent e = absurd (cc)

nil_by : (ws : List ℕ) → length ws ≤ 0 → ws ≡ []
nil_by [] le = refl
nil_by (w ∷ ws) le = absurd (omega (arith, le))

-- what is owed first found no room
pub met_full : {S : Type 0} (owed : List Item) (i : Item) (p : List ℕ) (e : Line S) → owed ≡ i ∷ drop 1 owed → i.packet ≡ p → (e.state.machine.room ≤ length p + 1) × (e.state.machine.words ≡ length p) → MetFull owed e
met_full owed i p e first named found = record { packet = i; rest = drop 1 owed; first = first; room = omega (arith, found.0, ap length named); words = found.1 ∙ ap length (sym named) }

pub has_room : {S : Type 0} (owed : List Item) (i : Item) (p : List ℕ) (old new : Line S) → owed ≡ i ∷ drop 1 owed → i.packet ≡ p → new.end.state.pages.count ≡ old.end.state.pages.count → new.spare_sent ≡ old.spare_sent → HasSendRoom p old → HasRoomFor owed new
has_room owed i p old new first named pages same room =
    room_still owed old new pages same (subst (λ l. HasRoomFor l old) (sym first) (subst (λ q. HasSendRoom q old) (sym named) room))

pub first_full : {S : Type 0} (told : S → Option Told) (tale : S → Tale) (owed : List Item) (i : Item) (p words : List ℕ) (old new : Seen S) → owed ≡ i ∷ drop 1 owed → i.packet ≡ p → length words ≤ along old.state.pages p
    → TriedWith told tale p words old new → new.state.machine.ended ≡ EndedFull → FirstFull told tale owed old new
first_full told tale owed i p words old new first named fits tried full = record {
  packet = i;
  rest = drop 1 owed;
  first = first;
  full = record {
    words = words;
    bare = λ zero. nil_by words (omega (arith, fits, none_along old.state.pages p zero));
    tried = subst (λ q. TriedWith told tale q words old new) (sym named) tried;
    full = full;
  };
}

-- the same worker still, whatever it owes
pub on_port : {T S E Q R C : Type 0} (same : S → S → Type 0) (channel : E → C) (told : E → Option Told) → ((a : S) → same a a) → (old new : Serving T S E Q R) (owed : List Item) (sheets : List Written) → new.responder ≡ record old.responder { owed = owed; sheets = sheets }
    → new.serve ≡ old.serve → new.stops ≡ old.stops → new.starts ≡ old.starts → new.come ≡ old.come → IsSameEnd channel old.end.end new.end.end → is_some (told new.end.seat) ≡ is_some (told old.end.seat) → ServesOn same channel told old new
on_port same channel told r old new owed sheets responder serve stops starts come end tells = record {
  protocol = ap (λ d. d.protocol) responder;
  relid = ap (λ d. d.relid) responder;
  held = ap (λ d. d.held) responder;
  serve = serve;
  stops = stops;
  starts = starts;
  come = come;
  before = ap (λ d. d.before) responder;
  end = end;
  tells = tells;
  seat = subst (λ x. same old.responder.seat x) (sym (ap (λ d. d.seat) responder)) (r old.responder.seat);
}
