-- What an end's machine knows of its pages fits after each call that begins, and after each step.
use Rattle.std.proofs.Common.{◌≡◌, ℕ, ◌+◌, ◌<◌, ◌≤◌, Bool, true, false, ◌&&◌, ltb, leb, refl, sym, ap, ◌∙◌, arith}
use Rattle.std.proofs.lemmas.Bool.Decides.{nat_tests}
use Rattle.page_kept.specs.declared.page_call.PageCall.{PageCall}
use Rattle.page_kept.specs.declared.page_call.PageCall.TheVariants.{Off, StoreWord, LoadWords}
use Rattle.page_kept.specs.Stepped.{call_fed}
use Rattle.ring_machine.specs.declared.machine.Stage.{Stage}
use Rattle.ring_machine.specs.declared.machine.Stage.TheVariants.{Idle}
use Rattle.ring_machine.specs.declared.page_core.PageCore.{PageCore}
use Rattle.ring_machine.specs.PageCalls.{is_paging, is_call_of, PagesFit, core_pages, page_store_begun, lent_load_begun, owes, pages_fed}
use Rattle.ring_machine.specs.Steps.{is_busy_at}
use Rattle.ring_machine.proofs.Sound.{at_cond, and_left, and_right}

not_paging : (c : PageCall) → c ≡ Off → is_paging c ≡ true → ⊥
not_paging c off h = absurd (let z : true ≡ false = sym h ∙ ap is_paging off in (cc))

-- a call of the rings begins where no page call is under way
pub fit_begun : (k : PageCore) (st to : Stage) → PagesFit k st → k.call ≡ Off → PagesFit k to
fit_begun k st to f off = record { count = f.count; call = f.call; due = f.due; idle = λ h. absurd (not_paging k.call off h) }

-- a call of the rings that goes on is under way where no page call is
pub busy_off : (k : PageCore) (st : Stage) → PagesFit k st → is_busy_at st ≡ true → is_paging k.call ≡ false
busy_off k st f b = by_test (is_paging k.call) refl
  where
    by_test : (t : Bool) → is_paging k.call ≡ t → is_paging k.call ≡ false
    by_test true e = absurd (let z : true ≡ false = sym b ∙ ap is_busy_at (f.idle e) in (cc))
    by_test false e = e

pub fit_on : (k : PageCore) (st to : Stage) → PagesFit k st → is_busy_at st ≡ true → PagesFit k to
fit_on k st to f b = record { count = f.count; call = f.call; due = f.due; idle = λ h. absurd (let z : true ≡ false = sym h ∙ busy_off k st f b in (cc)) }

-- what a page call names is in the channel
pub inside_store : (c q w v : ℕ) → is_call_of c (StoreWord q w v) ≡ true → (q < c) × (w < 512)
inside_store c q w v h = ((let z = and_left (ltb q c) (ltb w 512) h in grind (arith, nat_tests, z)), (let z = and_right (ltb q c) (ltb w 512) h in grind (arith, nat_tests, z)))

pub inside_load : (c q n j : ℕ) → is_call_of c (LoadWords q n j) ≡ true → (q < c) × (j < n) × (n ≤ 512)
inside_load c q n j h =
    let r : (ltb j n && leb n 512) ≡ true = and_right (ltb q c) (ltb j n && leb n 512) h in (
      (let z = and_left (ltb q c) (ltb j n && leb n 512) h in grind (arith, nat_tests, z)),
      (let z = and_left (ltb j n) (leb n 512) r in grind (arith, nat_tests, z)),
      (let z = and_right (ltb j n) (leb n 512) r in grind (arith, nat_tests, z)),
    )

both : (a b : Bool) → a ≡ true → b ≡ true → (a && b) ≡ true
both true b e f = f
both false b e f = e

less : (a b : ℕ) → a < b → ltb a b ≡ true
less a b h = grind (arith, nat_tests, h)

most : (a b : ℕ) → a ≤ b → leb a b ≡ true
most a b h = grind (arith, nat_tests, h)

stores : (c q w v : ℕ) → q < c → w < 512 → is_call_of c (StoreWord q w v) ≡ true
stores c q w v a b = both (ltb q c) (ltb w 512) (less q c a) (less w 512 b)

loads : (c q n j : ℕ) → q < c → j < n → n ≤ 512 → is_call_of c (LoadWords q n j) ≡ true
loads c q n j a b d = both (ltb q c) (ltb j n && leb n 512) (less q c a) (both (ltb j n) (leb n 512) (less j n b) (most n 512 d))

-- a page call goes on inside the channel
call_on : (n : ℕ) (c : PageCall) → is_call_of n c ≡ true → is_call_of n (call_fed c) ≡ true
call_on n Off h = refl
call_on n (StoreWord q w v) h = refl
call_on n (LoadWords q m j) h =
    let i = inside_load n q m j h in
    at_cond (λ (c : PageCall). is_call_of n c ≡ true) (ltb (j + 1) m) _ _ (λ t. loads n q m (j + 1) i.0 (let z : j + 1 < m = grind (arith, nat_tests, t) in z) i.2) (λ _. refl)

pub fit_fed : (k : PageCore) (st : Stage) → PagesFit k st → st ≡ Idle → PagesFit (pages_fed k) st
fit_fed k st f e = record { count = f.count; call = call_on k.count k.call f.call; due = f.due; idle = λ _. e }

pub fit_new : (n : ℕ) (st : Stage) → n ≤ 128 → PagesFit (core_pages n) st
fit_new n st h = record { count = h; call = refl; due = refl; idle = λ e. absurd (cc) }

pub fit_store : (k : PageCore) (st : Stage) (q w v : ℕ) → PagesFit k st → st ≡ Idle → q < k.count → w < 512 → PagesFit (page_store_begun k q w v) st
fit_store k st q w v f e a b = record { count = f.count; call = stores k.count q w v a b; due = f.due; idle = λ _. e }

pub fit_load : (k : PageCore) (st : Stage) → PagesFit k st → st ≡ Idle → PagesFit (lent_load_begun k) st
fit_load k st f e = record { count = f.count; call = f.due; due = refl; idle = λ _. e }

pub fit_owes : (k : PageCore) (st : Stage) (q n : ℕ) → PagesFit k st → q < k.count → 0 < n → n ≤ 512 → PagesFit (owes k q n) st
fit_owes k st q n f a b c = record { count = f.count; call = f.call; due = loads k.count q n 0 a b c; idle = f.idle }
