-- What the asking worker's steps make of the pages under the ids of its requests.
use Rattle.page_kept.specs.declared.item.Item.{Item}
use Rattle.page_kept.specs.Counts.{count, is_ask, is_done}
use Rattle.page_kept.specs.Items.{item_of, packets}
use Rattle.page_kept.specs.Layouts.{layout, loan_in}
use Rattle.page_home_laws.specs.Home.{LendsItsOwn, closed as closed_id, first_of as first_page_of, opened}
use Rattle.pkt_desc.specs.Packets.{id_of, kind_of}
use Rattle.pkt_desc.specs.Lending.{lent_of}
use Rattle.pkt_desc.specs.declared.loan.Lent.{Lent as LentBytes}
use Rattle.io_edge.specs.declared.side.Side.{Side}
use Rattle.io_edge.specs.declared.side.Side.TheVariants.{Guest}
use Rattle.std.proofs.Common.{◌≡◌, ◌≢◌, ℕ, ◌+◌, ◌<◌, ◌≤◌, List, [], ◌∷◌, length, drop, map, refl, sym, ap, ◌∙◌, subst, arith, Some, None, Bool, true, false, cond, is_some}
use Rattle.std.specs.Prelude.{◌==◌, slice_get}
use Rattle.channel_trace.specs.declared.event.Event.{Event}
use Rattle.channel_trace.specs.declared.event.Event.TheVariants.{Sent, Got}
use Rattle.channel_trace.specs.Runs.{got_of, sent_of}
use Rattle.channel_model.specs.WireFormat.{WireFormat, Keeps}
use Rattle.channel_model.specs.Asker.{open_of, under}
use Rattle.channel_model.specs.Workers.{AcksKept}
use Rattle.channel_protocol.specs.Paged.{KeepsPages, words_lent}
use Rattle.ring_core.specs.Pages.{IsClear, along}
use Rattle.ring_core.specs.Seen.{Seen}
use Rattle.ring_core.proofs.Paging.{none_along}
use Rattle.ring_machine.specs.declared.state.EndState.{EndState}
use Rattle.ring_machine.specs.States.{MayLend}
use Rattle.worker_port.specs.Homes.{HasHome, KeepsHome, SendsHome}
use Rattle.worker_port.specs.Line.{CanLay, IsSameEnd}
use Rattle.worker_port.specs.Owed.{Written}
use Rattle.worker_port.specs.declared.found.Tried.TheVariants.{Sent as TriedSent}
use Rattle.worker_port.proofs.LentLaws.{along_lent, lends_own}
use Rattle.worker_requester.specs.Asking.{Asking, FitsPages, IsAsking, is_open_in}
use Rattle.worker_requester.proofs.AckLaws.{may_ack, packets_read}
use Rattle.worker_requester.proofs.AskSteps.{goes_free}
use Rattle.worker_requester.proofs.NextLaws.{first_of}
use Rattle.worker_requester.proofs.OpenLaws.{apart_front, open_acked, open_got, open_said, open_sent}

some_same : {X : Type 0} (x y : X) → Some x ≡ Some y → x ≡ y
some_same x y e = cc

-- the same end fits
pub pages_on : {S C : Type 0} {channel : S → C} {old new : Seen S} (lends : Bool) (window : ℕ) → IsSameEnd channel old new → FitsPages lends window old.state → FitsPages lends window new.state
pages_on lends window same h = record { bare = λ e. same.pages ∙ h.bare e; enough = λ e. omega (arith, same.pages, h.enough e); guest = λ e. same.side ∙ h.guest e }

-- where no packet lends a page there is none to have
pub by_lends : (lends : Bool) (window : ℕ) (e : EndState) (f : ℕ → Bool) → FitsPages lends window e → (lends ≡ true → HasHome f e) → HasHome f e
by_lends true window e f fits home = home refl
by_lends false window e f fits home = λ some. absurd (some (fits.bare refl))

module _ {A Q R : Type 0} (s : WireFormat Item A Q R) (asks : List A) where
  -- a call that sends and takes nothing
  pub home_quiet : (past past' : List (Event Item)) (old new : EndState) → is_open_in s asks past' ≡ is_open_in s asks past → KeepsHome old new → HasHome (is_open_in s asks past) old → HasHome (is_open_in s asks past') new
  home_quiet past past' old new same keeps h = subst (λ f. HasHome f new) (sym same) (keeps (is_open_in s asks past) h)

-- What a request that goes under an id that isn't open keeps to, in a channel of so many pages
pub record IsOwnAsk (pages : ℕ) (x : Side) (is_open : ℕ → Bool) (p : List ℕ) : Type 0 where
  pub ask : (kind_of p == 11) ≡ false
  pub closed : is_open (id_of p) ≡ false
  pub own : LendsItsOwn (layout pages) x p
  pub inside : (l : LentBytes) → lent_of p ≡ Some l → l.page < pages

module _ {T S A Q R : Type 0} (s : WireFormat Item A Q R) (keeps : Keeps s) (paged : KeepsPages s) (asks : List A) (w : Asking T S R) (h : IsAsking s asks w) where
  -- the request that waits
  pub waits_own : (id : ℕ) (a : A) (p : List ℕ) (pages : ℕ) (x : Side) → w.waiting ≡ Some id → slice_get asks w.next ≡ Some a → (s.encode id a).packet ≡ p → length w.table ≤ 64 → length w.table ≤ pages → x ≡ Guest
      → IsOwnAsk pages x (is_open_in s asks w.end.state.past) p
  waits_own id a p pages x waits at pk few enough guest =
      let asked = h.asked id waits in
      let answers : s.has_answer a ≡ true = ap s.has_answer (sym (some_same asked.0 a (sym asked.1 ∙ at))) ∙ asked.2 in
      let q = s.encode id a in
      let same : s.id_of q ≡ id = keeps.id_kept id a asked.3 answers in
      let free = goes_free s asks w id a q waits at same h in
      let idp : id_of p ≡ id = ap id_of (sym pk) ∙ (sym (paged.ids q) ∙ same) in
      let named : (l : LentBytes) → lent_of p ≡ Some l → l.page + 1 ≡ id = λ l e. paged.lent id a l (omega (arith, free.least, same)) (omega (arith, free.within, same, few)) answers (ap lent_of pk ∙ e) in
      record {
        ask = ap (λ r. kind_of r == 11) (sym pk) ∙ paged.asks id a;
        closed = ap (λ n. is_some (under s n (open_of s asks w.end.state.past))) (idp ∙ sym same) ∙ ap (λ o. is_some o) free.none;
        own = lends_own pages x p (λ l e. (omega (arith, idp, free.least, same), omega (arith, idp, free.within, same, few), omega (arith, named l e, idp, ap first_page_of guest)));
        inside = λ l e. omega (arith, named l e, free.within, same, enough);
      }

  -- it was sent
  pub home_asked : (id : ℕ) (a : A) (p : List ℕ) (new : EndState) (past' : List (Event Item)) → w.waiting ≡ Some id → slice_get asks w.next ≡ Some a → (s.encode id a).packet ≡ p → IsOwnAsk w.end.end.state.pages.count w.end.end.state.machine.side (is_open_in s asks w.end.state.past) p
      → past' ≡ Sent (s.encode id a) ∷ w.end.state.past → SendsHome TriedSent p w.end.end.state new → HasHome (is_open_in s asks w.end.state.past) w.end.end.state → HasHome (is_open_in s asks past') new
  home_asked id a p new past' waits at pk own past sends home =
      let asked = h.asked id waits in
      let answers : s.has_answer a ≡ true = ap s.has_answer (sym (some_same asked.0 a (sym asked.1 ∙ at))) ∙ asked.2 in
      let q = s.encode id a in
      let same : s.id_of q ≡ id = keeps.id_kept id a asked.3 answers in
      let free = goes_free s asks w id a q waits at same h in
      let idq : id_of p ≡ s.id_of q = ap id_of (sym pk) ∙ sym (paged.ids q) in
      let opens = open_sent s asks w.end.state.past q a (drop (w.next + 1) asks) (keeps.encodes id a) (keeps.waits_ask id a ∙ answers) (h.kept.rest ∙ first_of asks w.next a at) free.none in
      subst (λ l. HasHome (is_open_in s asks l) new) (sym past)
      (subst (λ f. HasHome f new) (ap (opened (is_open_in s asks w.end.state.past)) idq ∙ opens) (sends.asks (is_open_in s asks w.end.state.past) own.ask own.closed own.own home))

  -- a request that has no answer was sent
  pub home_said : (a : A) (p : List ℕ) (new : EndState) (past' : List (Event Item)) → slice_get asks w.next ≡ Some a → s.has_answer a ≡ false → (s.encode 0 a).packet ≡ p → past' ≡ Sent (s.encode 0 a) ∷ w.end.state.past
      → SendsHome TriedSent p w.end.end.state new → HasHome (is_open_in s asks w.end.state.past) w.end.end.state → HasHome (is_open_in s asks past') new
  home_said a p new past' at silent pk past sends home =
      let q = s.encode 0 a in
      let none = paged.silent 0 a silent in
      let opens = open_said s asks w.end.state.past q a (drop (w.next + 1) asks) (keeps.encodes 0 a) (keeps.waits_ask 0 a ∙ silent) (h.kept.rest ∙ first_of asks w.next a at) in
      subst (λ l. HasHome (is_open_in s asks l) new) (sym past)
      (subst (λ f. HasHome f new) opens (sends.says (is_open_in s asks w.end.state.past) (ap (λ r. kind_of r == 11) (sym pk) ∙ paged.asks 0 a) (ap id_of (sym pk) ∙ none.0) (ap (loan_in w.end.end.state.pages.count) (ap lent_of (sym pk) ∙ none.1)) home))

  -- a message was acknowledged
  pub home_acked : (m : Item) (p : List ℕ) (new : EndState) (past' : List (Event Item)) → s.is_message m ≡ true → (s.ack m).packet ≡ p → past' ≡ Sent (s.ack m) ∷ w.end.state.past → SendsHome TriedSent p w.end.end.state new
      → HasHome (is_open_in s asks w.end.state.past) w.end.end.state → HasHome (is_open_in s asks past') new
  home_acked m p new past' is pk past sends home =
      let acks = (keeps.acks m is).0 in
      subst (λ l. HasHome (is_open_in s asks l) new) (sym past)
      (subst (λ f. HasHome f new) (open_acked s asks w.end.state.past (s.ack m) (keeps.ack_asks (s.ack m) acks)) (sends.ends (is_open_in s asks w.end.state.past) (ap (λ r. kind_of r == 11) (sym pk) ∙ paged.acks (s.ack m) acks) home))

  -- a packet was taken
  pub home_came : (i : Item) (new : EndState) (past' : List (Event Item)) → past' ≡ Got i ∷ w.end.state.past
      → HasHome (cond (kind_of i.packet == 11) (closed_id (is_open_in s asks w.end.state.past) (id_of i.packet)) (is_open_in s asks w.end.state.past)) new → HasHome (is_open_in s asks past') new
  home_came i new past' past home =
      let f = is_open_in s asks w.end.state.past in
      let closes = open_got s asks w.end.state.past i (apart_front s _ _ h.kept.apart) (kind_of i.packet == 11) (paged.answers i) in
      subst (λ l. HasHome (is_open_in s asks l) new) (sym past)
      (subst (λ g. HasHome g new) (ap (λ n. cond (kind_of i.packet == 11) (closed_id f n) f) (sym (paged.ids i)) ∙ closes) home)

  -- what acknowledges the next message may be sent
  pub ack_lends : (said : Item → Item) → ((i : Item) → (said i).packet ≡ i.packet) → IsClear w.end.end.state.pages
      → (w.end.end.state.pages.count ≢ 0 → (packets w.end.end.state.pages.sent ≡ w.end.end.state.sent) × (packets w.end.end.state.pages.got ≡ w.end.end.state.got))
      → (w.end.end.state.pages.count ≢ 0 → (sent_of w.end.state.past ≡ map said w.end.end.state.pages.sent) × (got_of w.end.state.past ≡ map said w.end.end.state.pages.got))
      → (m : Item) (p : List ℕ) → slice_get w.end.state.got w.acked ≡ Some m → s.is_message m ≡ true → (s.ack m).packet ≡ p → MayLend w.end.end.state p
  ack_lends said same clear items read m p at is pk = λ some.
      let done : (kind_of p == 11) ≡ true = ap (λ r. kind_of r == 11) (sym pk) ∙ paged.acks (s.ack m) (keeps.acks m is).0 in
      let e : EndState = w.end.end.state in
      let past = w.end.state.past in
      let t = id_of p in
      let may = may_ack s keeps paged t asks past m (drop (w.acked + 1) w.end.state.got) h.kept.encoded h.kinds (subst (AcksKept s past) (first_of w.end.state.got w.acked m at) h.acks) is (ap id_of pk) in
      let sent : packets (sent_of past) ≡ packets e.pages.sent = ap packets (read some).0 ∙ packets_read said same e.pages.sent in
      let got : packets (got_of past) ≡ e.got = ap packets (read some).1 ∙ (packets_read said same e.pages.got ∙ (items some).1) in
      record {
        clear = clear some;
        has = λ a ask l. absurd (let bad : true ≡ false = sym done ∙ ask in cc);
        settled = λ a ask l. absurd (let bad : true ≡ false = sym done ∙ ask in cc);
        answers = λ _. omega (arith, may, ap (count (is_done t)) sent, ap (count (is_ask t)) got);
      }

  -- and a request that has no answer
  pub said_lends : IsClear w.end.end.state.pages → (a : A) (p : List ℕ) → s.has_answer a ≡ false → (s.encode 0 a).packet ≡ p → MayLend w.end.end.state p
  said_lends clear a p silent pk = λ some.
      let ask : (kind_of p == 11) ≡ false = ap (λ r. kind_of r == 11) (sym pk) ∙ paged.asks 0 a in
      let none : (layout w.end.end.state.pages.count).lends p ≡ None = ap (loan_in w.end.end.state.pages.count) (ap lent_of (sym pk) ∙ (paged.silent 0 a silent).1) in
      record {
        clear = clear some;
        has = λ a _ l. absurd (let bad : None ≡ Some a = sym none ∙ l in cc);
        settled = λ a _ l. absurd (let bad : None ≡ Some a = sym none ∙ l in cc);
        answers = λ done. absurd (let bad : true ≡ false = sym done ∙ ask in cc);
      }

-- as many page words go along with a request as were written for it
pub along_is : (lends : Bool) (window : ℕ) (e : EndState) (r : Written) (p : List ℕ) → FitsPages lends window e → p ≡ r.packet → (lends ≡ false → (r.words ≡ []) × (r.lent ≡ 0)) → (lends ≡ true → r.lent ≡ words_lent r.packet)
    → (lends ≡ true → ((kind_of p == 11) ≡ false) × ((l : LentBytes) → lent_of p ≡ Some l → l.page < e.pages.count)) → along e.pages p ≡ r.lent
along_is true window e r p fits pk none lent inside = let i = inside refl in along_lent e.pages p i.0 i.1 ∙ (ap words_lent pk ∙ sym (lent refl))
along_is false window e r p fits pk none lent inside = none_along e.pages p (fits.bare refl) ∙ sym (none refl).1

-- and these may be stored for it
pub can_lay : {S : Type 0} (e : Seen S) (lends : Bool) (window : ℕ) (p words : List ℕ) (n : ℕ) → FitsPages lends window e.state → along e.state.pages p ≡ n → length words ≤ n → (lends ≡ true → MayLend e.state p) → CanLay e p words
can_lay e true window p words n fits is few may = record { may = may refl; fits = omega (arith, is, few) }
can_lay e false window p words n fits is few may = record { may = λ some. absurd (some (fits.bare refl)); fits = omega (arith, is, few) }

pub may_by : (lends : Bool) (window : ℕ) (e : EndState) (p : List ℕ) → FitsPages lends window e → (lends ≡ true → MayLend e p) → MayLend e p
may_by true window e p fits may = may refl
may_by false window e p fits may = λ some. absurd (some (fits.bare refl))

-- what acknowledges is read as such, with whatever page words it brings back
pub ack_made : (said : Item → Item) → ((p : List ℕ) → said (item_of p []) ≡ item_of p []) → (lends : Bool) (window : ℕ) (e : EndState) (p : List ℕ) (j q : Item) → FitsPages lends window e → (e.pages.count ≡ 0 → j ≡ item_of p []) → item_of p [] ≡ q → (lends ≡ true → said j ≡ q) → said j ≡ q
ack_made said same true window e p j q fits bare value back = back refl
ack_made said same false window e p j q fits bare value back = ap said (bare (fits.bare refl)) ∙ (same p ∙ value)

-- a try that sent nothing
pub home_left : {A Q R : Type 0} (s : WireFormat Item A Q R) (asks : List A) (past past' : List (Event Item)) (new : EndState) → past' ≡ past → HasHome (is_open_in s asks past) new → HasHome (is_open_in s asks past') new
home_left s asks past past' new same h = subst (λ l. HasHome (is_open_in s asks l) new) (sym same) h

module _ {T S A Q R : Type 0} (s : WireFormat Item A Q R) (keeps : Keeps s) (asks : List A) (w : Asking T S R) (h : IsAsking s asks w) where
  -- the id of the request that waits is one of the table's
  pub waits_within : (id : ℕ) → w.waiting ≡ Some id → id ≤ length w.table
  waits_within id waits =
      let asked = h.asked id waits in
      let same = keeps.id_kept id asked.0 asked.3 asked.2 in
      omega (arith, (goes_free s asks w id asked.0 (s.encode id asked.0) waits asked.1 same h).within, same)

-- a request that has no answer
pub record IsOwnSaid (p : List ℕ) : Type 0 where
  pub ask : (kind_of p == 11) ≡ false
  pub zero : id_of p ≡ 0
  pub none : lent_of p ≡ None

pub said_own : {A Q R : Type 0} (s : WireFormat Item A Q R) → KeepsPages s → (a : A) (p : List ℕ) → s.has_answer a ≡ false → (s.encode 0 a).packet ≡ p → IsOwnSaid p
said_own s paged a p silent pk =
    let none = paged.silent 0 a silent in
    record { ask = ap (λ r. kind_of r == 11) (sym pk) ∙ paged.asks 0 a; zero = ap id_of (sym pk) ∙ none.0; none = ap lent_of (sym pk) ∙ none.1 }

pub none_inside : (p : List ℕ) (n : ℕ) → IsOwnSaid p → (l : LentBytes) → lent_of p ≡ Some l → l.page < n
none_inside p n own l e = absurd (let bad : None ≡ Some l = sym own.none ∙ e in cc)
