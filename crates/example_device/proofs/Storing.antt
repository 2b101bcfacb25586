-- The history that the only seat of a register leaves, behind a worker that serves it.
use Rattle.std.proofs.Common.{◌≡◌, ◌==◌, ◌+◌, ℕ, zero, suc, Bool, true, List, [], ◌∷◌, ◌++◌, All, map, length, refl, sym, ap, ◌∙◌, subst, arith}
use Rattle.std.specs.Prelude.{Some, slice_get, filter_map, if◌then◌else◌}
use Rattle.std.specs.List.{AllByRecursion}
use Rattle.std.proofs.lemmas.Bool.Decides.{nat_tests}
use Rattle.std.proofs.lemmas.List.Elements.{All-weaker, recursion_from_All}
use Rattle.channel_trace.specs.Runs.{IsFront}
use Rattle.hist_lock.specs.declared.history.Entry.{Entry}
use Rattle.hist_lock.specs.Calls.{Closes, IsSeatOf, call, calls_from}
use Rattle.hist_lock.specs.Legal.{IsLegal}
use Rattle.hist_lock.specs.Seat.{AreAll, AreNew, Call, Lock, Seat, seats_from}
use Rattle.ring_core.specs.Seen.{Seen}
use Rattle.ring_core.specs.Told.{Tale}
use Rattle.worker_copy_laws.specs.Copies.{ServesCopies, read_as}
use Rattle.worker_server.specs.Serving.{calls_behind}
use Rattle.example_device.specs.Beside.{StoresCopies, register_of}
use Rattle.example_device.specs.Registers.{register_items}
use Rattle.example_device.specs.declared.register.Register.{Register}

abbrev pub Place : Type 0
Place = Seat Register ℕ ℕ

abbrev Line : Type 0
Line = Entry Register ℕ ℕ

abbrev after : Register → ℕ → Register
after s q = register_of q

abbrev reply_to : Register → ℕ → ℕ
reply_to s q = s.value

-- where all entries are of one seat, its calls ask what they ask
requests_all : (n k : ℕ) (es : List Line) → AllByRecursion (λ (e : Line). e.seat ≡ n) es → map (λ (c : Call ℕ ℕ). c.request) (calls_from n k es) ≡ map (λ (e : Line). e.request) es
requests_all n k [] h = refl
requests_all n k (e ∷ es) h =
    let t : (e.seat == n) ≡ true = let is = h.0 in grind (arith, nat_tests, is) in
    ap (λ (b : Bool). map (λ (c : Call ℕ ℕ). c.request) (if b then call k e ∷ calls_from n (k + 1) es else calls_from n (k + 1) es)) t ∙ ap (λ (l : List ℕ). e.request ∷ l) (requests_all n (k + 1) es h.1)

seat_at : (k : ℕ) (a s : Place) (n : ℕ) → slice_get (a ∷ []) k ≡ Some s → s.number ≡ n → n ≡ a.number
seat_at zero a s n is number = let same : a ≡ s = cc in sym number ∙ ap (λ (x : Place). x.number) (sym same)
seat_at (suc k) a s n is number = absurd cc

-- what was taken from behind a list of one
cut_one : (p : List Place) (a x : Place) → p ++ a ∷ [] ≡ x ∷ [] → (p ≡ []) × (a ≡ x)
cut_one [] a x e = (refl, cc)
cut_one (s ∷ []) a x e = absurd cc
cut_one (s ∷ t ∷ p) a x e = absurd cc

-- what it leaves, once it is closed
stored : {S : Type 0} (tale : S → Tale) (e : Seen S) (a : Place) (es : List Line) (calls : List (Call ℕ ℕ)) → a.lock.first ≡ register_of 0 → a.lock.past ≡ [] → a.calls ≡ calls → Closes after reply_to (a ∷ []) es
    → ServesCopies register_items.read (λ i. i) tale e calls → StoresCopies tale e es
stored tale e a es calls first past is closed serves =
    let same : es ≡ closed.since = closed.begins 0 a refl ∙ ap (λ (l : List Line). l ++ closed.since) past in
    let own : All (λ (x : Line). x.seat ≡ a.number) closed.since = All-weaker (λ (x : Line). IsSeatOf (a ∷ []) x.seat) (λ (x : Line). x.seat ≡ a.number) (λ x h. seat_at h.0 a h.1.0 x.seat h.1.1.0 h.1.1.1) closed.since closed.others in
    let asked : map (λ (c : Call ℕ ℕ). c.request) calls ≡ map (λ (x : Line). x.request) es =
    ap (map (λ (c : Call ℕ ℕ). c.request)) (sym is ∙ sym (closed.calls 0 a refl))
    ∙ (requests_all a.number (length a.lock.past) closed.since (recursion_from_All (λ (x : Line). x.seat ≡ a.number) closed.since own) ∙ ap (map (λ (x : Line). x.request)) (sym same)) in
    record {
      knows = serves.knows;
      legal = subst (λ (s : Register). IsLegal after reply_to s es) first (closed.legal 0 a refl);
      stored = subst (λ (l : List ℕ). IsFront l (filter_map register_items.read (read_as (λ i. i) e))) asked serves.asked;
    }

-- The only seat of a new lock, as it was taken and as it was given back, is all of the lock's
pub all_back : (start : Register) (quotas : List ℕ) (n : ℕ) (items p q : List Place) (a b : Place)
    → quotas ≡ n ∷ [] → AreNew start [] quotas items → items ≡ p ++ a ∷ [] → b.lock ≡ a.lock → b.number ≡ a.number → q ≡ p ++ b ∷ [] → AreAll q
all_back start quotas n items p q a b qs made popped lock number pushed =
    let x : Place = record { lock = made.lock; number = 0; left = n; calls = [] } in
    let c = cut_one p a x (sym popped ∙ (made.seats_are ∙ ap (λ (l : List ℕ). seats_from made.lock 0 l) qs)) in
    let all : q ≡ b ∷ [] = pushed ∙ ap (λ (l : List Place). l ++ b ∷ []) c.0 in
    let its : b.lock ≡ made.lock = lock ∙ ap (λ (s : Place). s.lock) c.1 in
    let seats : b.lock.seats ≡ 1 = ap (λ (l : Lock Register ℕ ℕ). l.seats) its ∙ (made.count ∙ ap length qs) in
    let zeroth : b.number ≡ 0 = number ∙ ap (λ (s : Place). s.number) c.1 in
    let one : AreAll (b ∷ []) = record { lock = b.lock; some = omega arith; all = sym seats; each = (refl, zeroth, tt) } in
    subst AreAll (sym all) one

-- and what is left once it is closed, behind a worker that served so
pub stores : {S : Type 0} (tale : S → Tale) (start : Register) (quotas : List ℕ) (n : ℕ) (items p q : List Place) (a b : Place) (e : Seen S) (es : List Line)
    → start ≡ register_of 0 → quotas ≡ n ∷ [] → AreNew start [] quotas items → items ≡ p ++ a ∷ [] → b.lock ≡ a.lock → q ≡ p ++ b ∷ [] → Closes after reply_to q es
    → ServesCopies register_items.read (λ i. i) tale e (calls_behind a.calls b.calls) → StoresCopies tale e es
stores tale start quotas n items p q a b e es new qs made popped lock pushed closed serves =
    let x : Place = record { lock = made.lock; number = 0; left = n; calls = [] } in
    let c = cut_one p a x (sym popped ∙ (made.seats_are ∙ ap (λ (l : List ℕ). seats_from made.lock 0 l) qs)) in
    let all : q ≡ b ∷ [] = pushed ∙ ap (λ (l : List Place). l ++ b ∷ []) c.0 in
    let its : b.lock ≡ made.lock = lock ∙ ap (λ (s : Place). s.lock) c.1 in
    let calls : b.calls ≡ calls_behind a.calls b.calls = sym (ap (λ (s : Place). calls_behind s.calls b.calls) c.1) in
    stored tale e b es (calls_behind a.calls b.calls) (ap (λ (l : Lock Register ℕ ℕ). l.first) its ∙ (made.first_is ∙ new)) (ap (λ (l : Lock Register ℕ ℕ). l.past) its ∙ made.past_is) calls
    (subst (λ (l : List Place). Closes after reply_to l es) all closed) serves
