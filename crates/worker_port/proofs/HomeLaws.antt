-- What the calls of an end make of its pages under the ids of its requests.
use Rattle.std.proofs.Common.{◌≡◌, ◌≢◌, ℕ, zero, suc, ◌==◌, Bool, true, false, cond, List, [], ◌∷◌, ◌++◌, length, get_or, None, refl, sym, ap, ◌∙◌, subst}
use Rattle.pkt_desc.specs.Packets.{kind_of, id_of}
use Rattle.io_edge.specs.declared.side.Side.{Side}
use Rattle.page_kept.specs.declared.item.Item.{Item}
use Rattle.page_kept.specs.declared.kept.Kept.{Kept}
use Rattle.page_kept.specs.declared.owner.Owner.{Owner}
use Rattle.page_kept.specs.Keepers.{keeper}
use Rattle.page_kept.specs.Kept.{first_owner, pages_sent, pages_took}
use Rattle.page_table.specs.Table.{first_owners}
use Rattle.page_table.proofs.Moves.{first_long}
use Rattle.page_kept.specs.Layouts.{layout}
use Rattle.page_kept.proofs.Loans as loans
use Rattle.page_home_laws.specs.Home.{HasOrLent, HomeKept, IsListed, LendsItsOwn, closed, opened}
use Rattle.page_home_laws.proofs.Keeping.{keeps_ask, keeps_back, keeps_given, keeps_said, keeps_taken, may_lend, new_has}
use Rattle.ring_machine.specs.declared.state.EndState.{EndState}
use Rattle.ring_machine.specs.States.{MayLend}
use Rattle.ring_core.specs.Pages.{IsClear}
use Rattle.ring_core.specs.Seen.{Seen, Kept as SeenKept}
use Rattle.worker_port.specs.Line.{paged_end}
use Rattle.worker_port.specs.declared.found.Tried.{Tried}
use Rattle.worker_port.specs.declared.found.Tried.TheVariants.{Sent as TriedSent}
use Rattle.worker_port.specs.Homes.{HasHome, KeepsHome, SendsHome}
use Rattle.ring_core.proofs.Paging.{first_of}
use Rattle.worker_port.proofs.PageLaws.{is_more, is_zero, sent_pages, took_pages}
use Rattle.worker_port.proofs.SendLaws.{Stored}

abbrev HomeOf : Side → (ℕ → Bool) → List (List ℕ) → Kept → Type 0
HomeOf s f got k = HomeKept s k.count f (keeper (layout k.count) s got k)

-- of the pages only the number, the items sent and the owners matter
home_on : (s s' : Side) (f : ℕ → Bool) (got got' : List (List ℕ)) (k k' : Kept) → s' ≡ s → got' ≡ got → k'.count ≡ k.count → k'.sent ≡ k.sent → k'.owners ≡ k.owners → HomeOf s f got k → HomeOf s' f got' k'
home_on s s' f got got' k k' side list count sent owners h =
    let z : HomeOf s f got (record { count = k.count; sent = k.sent; got = k'.got; owners = k.owners; copy = k'.copy; due = k'.due; call = k'.call }) = record { page = h.page; lent = h.lent; completed = h.completed } in
    subst (λ (w : Side × List (List ℕ) × ℕ × List Item × List Owner). HomeOf w.0 f w.1 (record { count = w.2; sent = w.3; got = k'.got; owners = w.4; copy = k'.copy; due = k'.due; call = k'.call }))
    (λ i. (sym side i, sym list i, sym count i, sym sent i, sym owners i)) z

pub home_same : (old new : EndState) → new.machine.side ≡ old.machine.side → new.got ≡ old.got → new.pages.count ≡ old.pages.count → new.pages.sent ≡ old.pages.sent → new.pages.owners ≡ old.pages.owners → KeepsHome old new
home_same old new side list count sent owners = λ f h some.
    home_on old.machine.side new.machine.side f old.got new.got old.pages new.pages side list count sent owners (h (λ z. some (count ∙ z)))

listed : (k : Kept) → k.count ≢ 0 → length k.owners ≡ k.count → IsListed (layout k.count) k
listed k some long = record { pages = is_more k.count some; listed = long; inside = λ p a e. (loans.fits k.count p a e).0 }

at_count : (s : Side) (f : ℕ → Bool) (got : List (List ℕ)) (k k' m : Kept) → k' ≡ m → m.count ≡ k.count → HomeKept s k.count f (keeper (layout k.count) s got m) → HomeOf s f got k'
at_count s f got k k' m is count h = rw is (subst (λ c. HomeKept s c f (keeper (layout c) s got m)) (sym count) h)

taken : (s : Side) (f : ℕ → Bool) (got : List (List ℕ)) (k k' : Kept) (p : List ℕ) (some : k.count ≢ 0) → length k.owners ≡ k.count → HomeOf s f got k → k' ≡ pages_took (layout k.count) k p → (b : Bool) → (kind_of p == 11) ≡ b
    → HomeOf s (cond b (closed f (id_of p)) f) (got ++ p ∷ []) k'
taken s f got k k' p some long h is true e = at_count s (closed f (id_of p)) (got ++ p ∷ []) k k' _ is (took_pages k.count k p some).count (keeps_back (layout k.count) s f got k (listed k some long) h p e)
taken s f got k k' p some long h is false e = at_count s f (got ++ p ∷ []) k k' _ is (took_pages k.count k p some).count (keeps_taken (layout k.count) s f got k (listed k some long) h p e)

-- a take, and the loads behind it
pub home_taken : (old new : EndState) (mid : Kept) (p : List ℕ) → length old.pages.owners ≡ old.pages.count → mid ≡ pages_took (layout old.pages.count) old.pages p
    → new.machine.side ≡ old.machine.side → new.got ≡ old.got ++ p ∷ [] → new.pages.count ≡ old.pages.count → new.pages.sent ≡ mid.sent → new.pages.owners ≡ mid.owners
    → (f : ℕ → Bool) → HasHome f old → HasHome (cond (kind_of p == 11) (closed f (id_of p)) f) new
home_taken old new mid p long took side list count sent owners f h some =
    let more : old.pages.count ≢ 0 = λ z. some (count ∙ z) in
    let mid_count = ap (λ x. x.count) took ∙ (took_pages old.pages.count old.pages p more).count in
    home_on old.machine.side new.machine.side _ (old.got ++ p ∷ []) new.got mid new.pages side list (count ∙ sym mid_count) sent owners
    (taken old.machine.side f old.got old.pages mid p more long (h more) took (kind_of p == 11) refl)

-- a send, behind the stores for it
module _ (old new : EndState) (l : Kept) (p ws : List ℕ) (laid_is : Stored old.pages l) (long : length old.pages.owners ≡ old.pages.count) (side : new.machine.side ≡ old.machine.side) (list : new.got ≡ old.got) where
  l_long : length l.owners ≡ l.count
  l_long = ap length laid_is.owners ∙ (long ∙ sym laid_is.count)

  at_l : (f : ℕ → Bool) → l.count ≢ 0 → HasHome f old → HomeOf old.machine.side f old.got l
  at_l f some h = home_on old.machine.side old.machine.side f old.got old.got old.pages l refl refl laid_is.count laid_is.sent laid_is.owners (h (λ z. some (laid_is.count ∙ z)))

  to_new : (f : ℕ → Bool) → HomeOf old.machine.side f old.got new.pages → HomeOf new.machine.side f new.got new.pages
  to_new f h = home_on old.machine.side new.machine.side f old.got new.got new.pages new.pages side list refl refl refl h

  unsent : new.pages ≡ l → KeepsHome old new
  unsent is = λ f h some. to_new f (subst (HomeOf old.machine.side f old.got) (sym is) (at_l f (λ z. some (ap (λ x. x.count) is ∙ z)) h))

  module _ (is : new.pages ≡ pages_sent (layout l.count) l p) (some : new.pages.count ≢ 0) where
    l_some : l.count ≢ 0
    l_some z = some (ap (λ (x : Kept). x.count) is ∙ (ap (λ (x : Kept). x.count) (first_of (l.count == 0) l _ (is_zero l.count z)) ∙ z))

    -- a law of the pages of such an end, behind the stores
    sends : (f f' : ℕ → Bool) → HasHome f old → (IsListed (layout l.count) l → HomeOf old.machine.side f old.got l → HomeKept old.machine.side l.count f' (keeper (layout l.count) old.machine.side old.got (pages_sent (layout l.count) l p))) → HomeOf new.machine.side f' new.got new.pages
    sends f f' h keeps = to_new f' (at_count old.machine.side f' old.got l new.pages _ is (sent_pages l.count l p l_some).count (keeps (listed l l_some l_long) (at_l f l_some h)))

  pub home_sent : (how : Tried) (b : Bool) → (how ≡ TriedSent → b ≡ true) → ((how ≡ TriedSent → ⊥) → b ≡ false) → new.pages ≡ cond b (pages_sent (layout l.count) l p) l → SendsHome how p old new
  home_sent TriedSent true went stays is = let s = old.machine.side in record {
    asks = λ f a b own h some. sends is some f (opened f (id_of p)) h (λ k m. keeps_ask (layout l.count) s f old.got l k m p a b (subst (λ c. LendsItsOwn (layout c) s p) (sym laid_is.count) own));
    says = λ f a b none h some. sends is some f f h (λ k m. keeps_said (layout l.count) s f old.got l k m p a b (subst (λ c. (layout c).lends p ≡ None) (sym laid_is.count) none));
    ends = λ f a h some. sends is some f f h (λ k m. keeps_given (layout l.count) s f old.got l k m p a);
  }
  home_sent TriedSent false went stays is = cc (went refl)
  home_sent _ true went stays is = cc (stays (λ e. cc))
  home_sent _ false went stays is = record { asks = λ f a b own h. unsent is f h; says = λ f a b none h. unsent is f h; ends = λ f a h. unsent is f h }

-- a call that keeps the lists and the pages
pub quiet_home : {S : Type 0} (old new : Seen S) → SeenKept old new → new.state.machine.side ≡ old.state.machine.side → KeepsHome old.state new.state
quiet_home old new kept side = home_same old.state new.state side kept.got (ap (λ k. k.count) kept.pages) (ap (λ k. k.sent) kept.pages) (ap (λ k. k.owners) kept.pages)

-- an end of a new channel
at_end : (os : List Owner) (o d : Owner) (q : ℕ) → (q ≡ length os → o ≡ d) → get_or os q d ≡ d → get_or (os ++ o ∷ []) q d ≡ d
at_end [] o d zero same h = same refl
at_end [] o d (suc q) same h = refl
at_end (w ∷ os) o d zero same h = h
at_end (w ∷ os) o d (suc q) same h = at_end os o d q (λ e. same (ap suc e)) h

first_at : (x : Side) (c q : ℕ) → get_or (first_owners x c) q (first_owner x ((layout 0).home q)) ≡ first_owner x ((layout 0).home q)
first_at x zero q = refl
first_at x (suc c) q = at_end (first_owners x c) (first_owner x ((layout 0).home c)) (first_owner x ((layout 0).home q)) q (λ e. ap (λ n. first_owner x ((layout 0).home n)) (sym (e ∙ first_long x c))) (first_at x c q)

new_home : (c n : ℕ) (x : Side) → HasHome (λ t. false) (paged_end c n x)
new_home c n x some =
    let h = new_has c x in
    record {
      page = λ t q a b e w. subst (HasOrLent (λ u. false) t) (sym (first_at x c q)) (h.page t q a b e w);
      lent = λ q t m e. h.lent q t m (sym (first_at x c q) ∙ e);
      completed = h.completed;
    }

pub home_new : (e : EndState) → e ≡ paged_end e.pages.count e.machine.cells e.machine.side → HasHome (λ t. false) e
home_new e fresh = subst (HasHome (λ t. false)) (sym fresh) (new_home e.pages.count e.machine.cells e.machine.side)

-- a request under an id that isn't open
pub home_lends : (e : EndState) → IsClear e.pages → (f : ℕ → Bool) (p : List ℕ) → HasHome f e → (kind_of p == 11) ≡ false → f (id_of p) ≡ false → LendsItsOwn (layout e.pages.count) e.machine.side p → MayLend e p
home_lends e clear f p h ask free own = λ some. may_lend (layout e.pages.count) e.machine.side e.pages.count f (keeper (layout e.pages.count) e.machine.side e.got e.pages) p (h some) (clear some) ask free own (λ a lends. (loans.fits e.pages.count p a lends).0)
