-- What steps leave of an end's page call, and of what is due.
use Rattle.std.proofs.Common.{rules, ◌≡◌, ℕ, true, List, [], ◌∷◌, ◌++◌, get_or, refl, sym, ap, ◌∙◌, subst, arith}
use Rattle.std.proofs.Math.Seq.{get_or-append_seam}
use Rattle.std.proofs.lemmas.List.{length-append}
use Rattle.page_kept.specs.Items.{packets}
use Rattle.page_kept.specs.Stepped.{call_fed, with_call, page_loaded, page_loaded_at, page_fed}
use Rattle.page_kept.specs.declared.due.Due.{Due}
use Rattle.page_kept.specs.declared.due.Due.TheVariants.{Clear, Loads}
use Rattle.page_kept.specs.declared.kept.Kept.{Kept}
use Rattle.page_kept.specs.declared.page_call.PageCall.{PageCall}
use Rattle.page_kept.specs.declared.page_call.PageCall.TheVariants.{Off, StoreWord, LoadWords}
use Rattle.ring_machine.specs.declared.machine.Stage.{Stage}
use Rattle.ring_machine.specs.declared.machine.Stage.TheVariants.{SendWrite, TakeCell}
use Rattle.ring_machine.specs.declared.machine.EndMachine.{EndMachine}
use Rattle.ring_machine.specs.PageCalls.{newest}
use Rattle.ring_machine.specs.States.{pages_after}
use Rattle.ring_seat.specs.PageRule.{is_unsent_at, is_taking_at}
use Rattle.ring_seat.specs.Seats.{IsLoading}
use Rattle.ring_seat.proofs.PageLists.{Left, stepped_pages}

-- where nothing is due, no load is under way
none_loading : (c c' : PageCall) (d d' : Due) → c' ≡ c → d ≡ Clear → IsLoading c d → IsLoading c' d'
none_loading Off c' d d' e clear h = subst (λ (z : PageCall). IsLoading z d') (sym e) tt
none_loading (StoreWord q w v) c' d d' e clear h = absurd h
none_loading (LoadWords q n j) c' d d' e clear h = absurd (cc)

pub step_loading : (st : Stage) (m : EndMachine) (k : Kept) (p xs : List ℕ) (v : ℕ) → (is_unsent_at st ≡ true → k.due ≡ Clear) → (is_taking_at st ≡ true → k.due ≡ Clear) → IsLoading k.call k.due
    → IsLoading (pages_after st m k p xs v).call (pages_after st m k p xs v).due
step_loading SendWrite m k p xs v sends takes h = none_loading k.call _ k.due _ (stepped_pages SendWrite m k p xs v).call (sends refl) h
step_loading TakeCell m k p xs v sends takes h = none_loading k.call _ k.due _ (stepped_pages TakeCell m k p xs v).call (takes refl) h
step_loading _ m k p xs v sends takes h = h

-- a page word that is loaded
pub loaded : (d : Due) (k : Kept) (p : List ℕ) (v : ℕ) → Left k (page_loaded_at d k p v) (packets k.sent)
loaded Clear k p v = search rules
loaded (Loads q n j) k p v = search rules

pub fed_count : (c : PageCall) (k : Kept) (p : List ℕ) (v : ℕ) → (page_fed c k p v).count ≡ k.count
fed_count (LoadWords q n j) k p v = (loaded k.due k p v).count
fed_count _ k p v = refl

pub load_loading : (k : Kept) (q n j : ℕ) (p : List ℕ) (v : ℕ) → k.due ≡ Loads q n j → IsLoading (call_fed (LoadWords q n j)) (page_loaded k p v).due
load_loading k q n j p v due = subst (λ (d : Due). IsLoading (call_fed (LoadWords q n j)) (page_loaded_at d k p v).due) (sym due) (search rules)

-- a load doesn't see the call
loaded_called : (u : Due) (c d : PageCall) (k : Kept) (p : List ℕ) (v : ℕ) → with_call d (page_loaded_at u (with_call c k) p v) ≡ with_call d (page_loaded_at u k p v)
loaded_called Clear c d k p v = refl
loaded_called (Loads q n j) c d k p v = search rules

pub load_called : (c d : PageCall) (k : Kept) (p : List ℕ) (v : ℕ) → with_call d (page_loaded (with_call c k) p v) ≡ with_call d (page_loaded k p v)
load_called c d k p v = loaded_called k.due c d k p v

-- the packet that was got last
pub newest_is : (ps qs : List (List ℕ)) (p : List ℕ) → ps ≡ qs ++ p ∷ [] → newest ps ≡ p
newest_is ps qs p e = ap newest e ∙ (ap (λ (i : ℕ). get_or (qs ++ p ∷ []) i []) (let l = length-append qs (p ∷ []) in omega (arith, l)) ∙ get_or-append_seam qs p [] [])
