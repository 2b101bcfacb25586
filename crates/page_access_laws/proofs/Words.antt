-- Whole stores and loads of page words.
use Rattle.std.proofs.Common.{◌≡◌, ℕ, ◌+◌, ◌<◌, ◌≤◌, ◌==◌, Bool, true, false, not, ◌&&◌, cond, ltb, nat_le, nat_lt, List, [], ◌∷◌, ◌++◌, length, refl, sym, ap, ◌∙◌, subst, arith}
use Rattle.std.proofs.lemmas.Bool.Decides.{nat_tests}
use Rattle.io_edge.specs.declared.side.Side.{Side}
use Rattle.page_kept.specs.declared.due.Due.{Due}
use Rattle.page_kept.specs.declared.due.Due.TheVariants.{Clear, Loads}
use Rattle.page_kept.specs.declared.kept.Kept.{Kept}
use Rattle.page_kept.specs.declared.item.Item.{Item}
use Rattle.page_kept.specs.declared.page_call.PageCall.{PageCall}
use Rattle.page_kept.specs.Counts.{count, is_ask}
use Rattle.page_kept.specs.Items.{item_of, packets, values}
use Rattle.page_call_plan.specs.declared.ids.IdSlot.{IdSlot}
use Rattle.page_kept.specs.Kept.{copy_in}
use Rattle.page_kept.specs.Stepped.{page_loaded, page_loaded_at, page_stored, with_word}
use Rattle.ring_machine.specs.declared.state.EndState.{EndState}
use Rattle.ring_machine.specs.PageCalls.{newest, with_pages}
use Rattle.ring_machine.specs.Steps.{is_busy_at}
use Rattle.page_call_plan.specs.declared.end.PageEnd.{PageEnd}
use Rattle.page_call_plan.specs.declared.slot.PageSlot.{PageSlot}
use Rattle.page_call_plan.specs.Answers.{no_call, planned}
use Rattle.page_call_plan.specs.Ends.{is_at, load_says, store_says}
use Rattle.page_call_plan.specs.Shown.{IsExact, MayStoreAll, loads, stores}
use Rattle.page_call_plan.proofs.Showing.{call_planned, left, loaded_all, passed, right, stores_may, stores_show}
use Rattle.page_call_plan_laws.proofs.Keeping.{still}
use Rattle.page_access_laws.specs.Calls.{IsExactIn, BacksAsked, PagedEnd, IsShown, StoreCall, LoadCall, IsPagedCall, StoresWord, LoadsWord, PagedAccess, AreAllowed, after_all, left_by, loads_on, stores_on}

-- a run of stores
pub stores_allowed : (s : EndState) (before : List PagedAccess) (q w : ℕ) (vs : List ℕ) → AreAllowed s before → is_busy_at (after_all s before).machine.stage ≡ false
    → MayStoreAll (after_all s before).machine.side (after_all s before).pages q w (length vs) → AreAllowed s (stores_on before q w vs)
stores_allowed s before q w [] h n may = h
stores_allowed s before q w (v ∷ vs) h n may =
    let t : EndState = after_all s before in
    stores_allowed s (StoresWord q w v ∷ before) q (w + 1) vs ((n, may w (omega arith) (omega arith)), h) n
    (still t.machine.side t.pages q w v (w + 1) (length vs) (λ i low high. may i (omega (arith, low)) (omega (arith, high))))

pub stores_are : (s : EndState) (before : List PagedAccess) (q w : ℕ) (vs : List ℕ) → after_all s (stores_on before q w vs) ≡ with_pages (after_all s before) (stores (after_all s before).pages q w vs)
stores_are s before q w [] = refl
stores_are s before q w (v ∷ vs) = stores_are s (StoresWord q w v ∷ before) q (w + 1) vs

-- the call that is under way, and the packets that were sent
abbrev frame_of : Kept → PageCall × List Item
frame_of k = (k.call, k.sent)

stores_frame : (k : Kept) (q w : ℕ) (vs : List ℕ) → frame_of (stores k q w vs) ≡ frame_of k
stores_frame k q w [] = refl
stores_frame k q w (v ∷ vs) = stores_frame (page_stored k q w v) q (w + 1) vs

-- numbers stay exact where no packet is sent or taken
exact_same : (x : Side) (got : List (List ℕ)) (k k' : Kept) (asks : List IdSlot) → k'.sent ≡ k.sent → IsExact x got k asks → IsExact x got k' asks
exact_same x got k k' asks same e = λ t. ap (λ (is : List Item). count (is_ask t) (packets is)) same ∙ e t

pub store_call : (s : EndState) (z : PagedEnd) → IsShown z s → (q w : ℕ) (vs : List ℕ) → store_says z.pages z.slots q w (length vs) ≡ planned → IsPagedCall s z (StoreCall q w vs)
store_call s z sh q w vs lets = record {
  begins = tt;
  steps = stores_allowed s [] q w vs tt sh.between (stores_may s.machine.side s.got s.pages z.pages z.slots z.asks z.owed q w (length vs) sh.pages lets);
  shows = subst (IsShown (left_by z (StoreCall q w vs))) (sym (stores_are s [] q w vs)) record {
    ring = sh.ring;
    pages = stores_show s.machine.side s.got s.pages z.pages z.slots z.asks z.owed 0 q w vs sh.pages;
    between = sh.between;
    idle = refl;
    copied = sh.copied;
    call = ap (λ (f : PageCall × List Item). f.0) (stores_frame s.pages q w vs) ∙ sh.call;
    fit = sh.fit;
  };
  exact = subst (λ (u : EndState). IsExactIn s z.asks → BacksAsked u → IsExactIn u z.asks) (sym (stores_are s [] q w vs)) (λ e most. exact_same s.machine.side s.got s.pages (stores s.pages q w vs) z.asks (ap (λ (f : PageCall × List Item). f.1) (stores_frame s.pages q w vs)) e);
}

-- a run of loads
abbrev loaded_by : Bool → Kept → List ℕ → ℕ → ℕ → ℕ → ℕ → Kept
loaded_by b k p q n j v = cond b (with_word k q j v k.got (Loads q n (j + 1))) (with_word k q j v (k.got ++ item_of p (values n (copy_in (with_word k q j v k.got Clear) q)) ∷ []) Clear)

loaded_is : (k : Kept) (p : List ℕ) (q n j v : ℕ) → k.due ≡ Loads q n j → page_loaded k p v ≡ loaded_by (ltb (j + 1) n) k p q n j v
loaded_is k p q n j v due = ap (λ (d : Due). page_loaded_at d k p v) due

by_count : (b : Bool) (k : Kept) (p : List ℕ) (q n j v : ℕ) → (loaded_by b k p q n j v).count ≡ k.count
by_count true k p q n j v = refl
by_count false k p q n j v = refl

by_frame : (b : Bool) (k : Kept) (p : List ℕ) (q n j v : ℕ) → frame_of (loaded_by b k p q n j v) ≡ frame_of k
by_frame true k p q n j v = refl
by_frame false k p q n j v = refl

frame_at : (d : Due) (k : Kept) (p : List ℕ) (v : ℕ) → frame_of (page_loaded_at d k p v) ≡ frame_of k
frame_at Clear k p v = refl
frame_at (Loads q n j) k p v = by_frame (ltb (j + 1) n) k p q n j v

loads_frame : (k : Kept) (p vs : List ℕ) → frame_of (loads k p vs) ≡ frame_of k
loads_frame k p [] = refl
loads_frame k p (v ∷ vs) = loads_frame (page_loaded k p v) p vs ∙ frame_at k.due k p v

pub loads_allowed : (s : EndState) (before : List PagedAccess) (q n j : ℕ) (vs : List ℕ) → AreAllowed s before → is_busy_at (after_all s before).machine.stage ≡ false → (0 < length vs → (after_all s before).pages.due ≡ Loads q n j)
    → q < (after_all s before).pages.count → length vs + j ≤ n → n ≤ 512 → AreAllowed s (loads_on before q j vs)
loads_allowed s before q n j [] h b due inside some most = h
loads_allowed s before q n j (v ∷ vs) h b due inside some most =
    let t : EndState = after_all s before in
    let now : t.pages.due ≡ Loads q n j = due (omega arith) in
    let next : page_loaded t.pages (newest t.got) v ≡ loaded_by (ltb (j + 1) n) t.pages (newest t.got) q n j v = loaded_is t.pages (newest t.got) q n j v now in
    let count : (page_loaded t.pages (newest t.got) v).count ≡ t.pages.count = ap (λ (k : Kept). k.count) next ∙ by_count (ltb (j + 1) n) t.pages (newest t.got) q n j v in
    loads_allowed s (LoadsWord q j v ∷ before) q n (j + 1) vs ((b, n, now, inside, omega (arith, some), most), h) b
    (λ more.
    let test : ltb (j + 1) n ≡ true = (let less : j + 1 < n = omega (arith, some, more) in grind (arith, nat_tests, less)) in
    ap (λ (k : Kept). k.due) next ∙ ap (λ (c : Bool). (loaded_by c t.pages (newest t.got) q n j v).due) test)
    (omega (arith, count, inside)) (omega (arith, some)) most

pub loads_are : (s : EndState) (before : List PagedAccess) (q j : ℕ) (vs : List ℕ) → after_all s (loads_on before q j vs) ≡ with_pages (after_all s before) (loads (after_all s before).pages (newest (after_all s before).got) vs)
loads_are s before q j [] = refl
loads_are s before q j (v ∷ vs) = loads_are s (LoadsWord q j v ∷ before) q (j + 1) vs

-- what a load that is planned loads
load_parts : (e : PageEnd) (ss : List PageSlot) → load_says e ss ≡ planned → (e.due_words ≤ 512) × (e.due_page < length ss)
load_parts e ss h =
    let a = (passed (is_at e 0 ss && (not (e.due_words == 0) && (nat_le e.due_words 512 && nat_lt e.due_page (length ss)))) planned no_call planned call_planned h).0 in
    let b = right (not (e.due_words == 0)) (nat_le e.due_words 512 && nat_lt e.due_page (length ss)) (right (is_at e 0 ss) (not (e.due_words == 0) && (nat_le e.due_words 512 && nat_lt e.due_page (length ss))) a) in
    (most_of e.due_words (left (nat_le e.due_words 512) (nat_lt e.due_page (length ss)) b), below_of e.due_page (length ss) (right (nat_le e.due_words 512) (nat_lt e.due_page (length ss)) b))
  where
    most_of : (n : ℕ) → nat_le n 512 ≡ true → n ≤ 512
    most_of n t = grind (arith, nat_tests, t)

    below_of : (a b : ℕ) → nat_lt a b ≡ true → a < b
    below_of a b t = grind (arith, nat_tests, t)

pub load_call : (s : EndState) (z : PagedEnd) → IsShown z s → (vs : List ℕ) → load_says z.pages z.slots ≡ planned → length vs ≡ z.pages.due_words → IsPagedCall s z (LoadCall vs)
load_call s z sh vs lets size =
    let all = loaded_all s.machine.side s.got s.pages z.pages z.slots z.asks z.owed (newest s.got) vs sh.pages lets size in
    let parts = load_parts z.pages z.slots lets in
    record {
      begins = tt;
      steps = loads_allowed s [] z.pages.due_page z.pages.due_words 0 vs tt sh.between (λ _. all.0) (let c = sh.pages.count in let d = parts.1 in omega (arith, c, d)) (omega (arith, size)) parts.0;
      shows = subst (IsShown (left_by z (LoadCall vs))) (sym (loads_are s [] z.pages.due_page 0 vs)) record {
        ring = sh.ring;
        pages = all.1;
        between = sh.between;
        idle = refl;
        copied = sh.copied;
        call = ap (λ (f : PageCall × List Item). f.0) (loads_frame s.pages (newest s.got) vs) ∙ sh.call;
        fit = sh.fit;
      };
      exact = subst (λ (u : EndState). IsExactIn s z.asks → BacksAsked u → IsExactIn u z.asks) (sym (loads_are s [] z.pages.due_page 0 vs))
          (λ e most. exact_same s.machine.side s.got s.pages (loads s.pages (newest s.got) vs) z.asks (ap (λ (f : PageCall × List Item). f.1) (loads_frame s.pages (newest s.got) vs)) e);
    }
