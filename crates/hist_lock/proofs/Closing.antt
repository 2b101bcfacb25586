-- The seats are put together, and the lock ends.
use Rattle.std.proofs.Common.{◌≡◌, ℕ, zero, suc, ◌+◌, ◌<◌, List, [], ◌∷◌, ◌++◌, length, sym, refl, ap, ◌∙◌, subst, arith, append_assoc, slice_get, Some}
use Rattle.std.proofs.lemmas.List.Elements.{All-weaker}
use mathlib.Core.Option.{some}
use lib.ListN.{get_elem?}
use Rattle.atomic_table.specs.Table.{Joins}
use Rattle.atomic_table.specs.Seated.{TableId}
use Rattle.hist_lock.specs.declared.history.Entry.{Entry}
use Rattle.hist_lock.specs.declared.view.Terms.{Terms}
use Rattle.hist_lock.specs.declared.view.Line.{Line}
use Rattle.hist_lock.specs.declared.view.Stage.TheVariants.{Idle}
use Rattle.hist_lock.specs.declared.view.Kept.{Kept}
use Rattle.hist_lock.specs.Legal.{IsLegal, state_after, Leaves}
use Rattle.hist_lock.specs.Calls.{calls_from, IsSeatOf, Closes}
use Rattle.hist_lock.specs.Seat.{Lock, Seat, AreFrom, AreAll}
use Rattle.hist_lock.specs.Rule.{Each, Fits, view, line, Rule}
use Rattle.hist_lock.specs.Plays.{Sat, joined, spent, Took}
use Rattle.hist_lock.specs.Sitting.{IsAt, IsSeated, calls_in, lock_of, lines_of, Covers}
use Rattle.hist_lock.proofs.Histories.{first_after}
use Rattle.hist_lock.proofs.Totals.{each_all}
use Rattle.hist_lock.proofs.Seats.{joins}

module _ {S Q A : Type 0} where
  -- the last seats of all are one, and the others are left
  pub record Gathered (t : Terms S Q A) (table : TableId) (all left : List (Seat S Q A)) (seat : TableId) (me : Sat S Q A) : Type 0 where
    pub gone : List (Seat S Q A)
    pub parts : left ++ gone ≡ all
    pub ours : (h : AreAll all) → h.lock ≡ lock_of table t
    pub at : IsAt table seat
    pub sits : me ≡ (view t (lines_of gone) Idle, [])

  lock_here : (lock : Lock S Q A) (n : ℕ) (xs : List (Seat S Q A)) (y : Seat S Q A) (zs : List (Seat S Q A)) → AreFrom lock n (xs ++ y ∷ zs) → y.lock ≡ lock
  lock_here lock n [] y zs h = h.0
  lock_here lock n (x ∷ xs) y zs h = lock_here lock (n + 1) xs y zs h.2

  -- the seat between the others is of the lock
  pub is_of : (all xs : List (Seat S Q A)) (y : Seat S Q A) (zs : List (Seat S Q A)) → (xs ++ y ∷ []) ++ zs ≡ all → (h : AreAll all) → y.lock ≡ h.lock
  is_of all xs y zs is h = lock_here h.lock 0 xs y zs (subst (AreFrom h.lock 0) (sym is ∙ append_assoc xs (y ∷ []) zs) h.each)

  -- a seat alone
  pub alone : (first : S → S) (t : Terms S Q A) (table seat : TableId) (me : Sat S Q A) (s : Seat S Q A) (number left : ℕ) → record { lock = lock_of table t; number = number; left = left; calls = calls_in me.0.lines } ≡ s → IsSeated first t table seat me number left
      → me ≡ (view t (lines_of (s ∷ [])) Idle, [])
  alone first t table seat me s number left is h = h.idle ∙ ap (λ (x : Seat S Q A). (view t (lines_of (x ∷ [])) Idle, [])) is

  pub joins_at : (after : S → Q → S) (reply_to : S → Q → A) (t u : Terms S Q A) (id other : ℕ) (me you : Sat S Q A) (ls ms : List (Line S Q A)) → me ≡ (view t ls Idle, []) → you ≡ (view u ms Idle, [])
      → Joins (Rule after reply_to t) id me.0 other you.0 (joined me.0 you.0) spent
  joins_at after reply_to t u id other me you ls ms a b =
      subst (λ (x : Sat S Q A × Sat S Q A). Joins (Rule after reply_to t) id x.0.0 other x.1.0 (joined x.0.0 x.1.0) spent) (λ i. (sym a i, sym b i)) (joins after reply_to t id ls other u ms)

  pub joined_at : (t u : Terms S Q A) (s : Seat S Q A) (gone : List (Seat S Q A)) (me you now : Sat S Q A) → me ≡ (view t (lines_of gone) Idle, []) → you ≡ (view u (lines_of (s ∷ [])) Idle, [])
      → now ≡ (joined me.0 you.0, me.1) → now ≡ (view t (lines_of (s ∷ gone)) Idle, [])
  joined_at t u s gone me you now a b is = is ∙ (λ i. (joined (a i).0 (b i).0, (a i).1))

  covers_from : (lock : Lock S Q A) (n i : ℕ) (ss : List (Seat S Q A)) → AreFrom lock n ss → i < length ss → (l : Line S Q A) × (get_elem? (lines_of ss) i ≡ some l) × (l.number ≡ n + i)
  covers_from lock n i [] h lt = absurd (omega arith)
  covers_from lock n zero (s ∷ ss) h lt = (line s.number s.left s.calls, refl, omega (arith, h.1))
  covers_from lock n (suc i) (s ∷ ss) h lt = let r = covers_from lock (n + 1) i ss h.2 (omega arith) in (r.0, r.1, r.2 ∙ (let e : (n + 1) + i ≡ n + suc i = omega arith in e))

  pub covers : (t : Terms S Q A) (table : TableId) (all : List (Seat S Q A)) (h : AreAll all) → h.lock ≡ lock_of table t → Covers t (lines_of all)
  covers t table all h is i lt =
      let few : length all ≡ length t.quotas = h.all ∙ ap (λ l. l.seats) is in
      let r = covers_from h.lock 0 i all h.each (omega arith) in (r.0, r.1, r.2 ∙ (let e : 0 + i ≡ i = omega arith in e))

  -- each of the seats has the lock, and a number below theirs has one
  locked : (lock : Lock S Q A) (n k : ℕ) (ss : List (Seat S Q A)) (s : Seat S Q A) → AreFrom lock n ss → slice_get ss k ≡ Some s → s.lock ≡ lock
  locked lock n k [] s h at = absurd (cc (at))
  locked lock n zero (x ∷ ss) s h at = let same : x ≡ s = cc (at) in ap (λ (y : Seat S Q A). y.lock) (sym same) ∙ h.0
  locked lock n (suc k) (x ∷ ss) s h at = locked lock (n + 1) k ss s h.2 at

  pub lock_at : (ss : List (Seat S Q A)) (h : AreAll ss) (k : ℕ) (s : Seat S Q A) → slice_get ss k ≡ Some s → s.lock ≡ h.lock
  lock_at ss h k s at = locked h.lock 0 k ss s h.each at

  seat_below : (lock : Lock S Q A) (n k : ℕ) (ss : List (Seat S Q A)) → AreFrom lock n ss → k < length ss → (s : Seat S Q A) × (slice_get ss k ≡ Some s) × (s.number ≡ n + k)
  seat_below lock n k [] h lt = absurd (omega arith)
  seat_below lock n zero (s ∷ ss) h lt = (s, refl, omega (arith, h.1))
  seat_below lock n (suc k) (s ∷ ss) h lt = let r = seat_below lock (n + 1) k ss h.2 (omega arith) in (r.0, r.1, r.2 ∙ (let e : (n + 1) + k ≡ n + suc k = omega arith in e))

  is_seat : (ss : List (Seat S Q A)) (h : AreAll ss) (n : ℕ) → n < h.lock.seats → IsSeatOf ss n
  is_seat ss h n lt = let all = h.all in let r = seat_below h.lock 0 n ss h.each (omega arith) in (n, (r.0, (r.1, r.2 ∙ (let e : 0 + n ≡ n = omega arith in e))))

  made_at : (n : ℕ) (since : List (Entry S Q A)) (ss : List (Seat S Q A)) (k : ℕ) (s : Seat S Q A) → Each (λ (l : Line S Q A). l.calls ≡ calls_from l.number n since) (lines_of ss) → slice_get ss k ≡ Some s → calls_from s.number n since ≡ s.calls
  made_at n since [] k s h at = absurd (cc (at))
  made_at n since (x ∷ ss) zero s h at = let same : x ≡ s = cc (at) in subst (λ (y : Seat S Q A). calls_from y.number n since ≡ y.calls) same (sym h.0)
  made_at n since (x ∷ ss) (suc k) s h at = made_at n since ss k s h.1 at

  -- what was taken at the end is legal, and has all calls of the seats
  pub closes : (after : S → Q → S) (reply_to : S → Q → A) (t : Terms S Q A) (table : TableId) (all : List (Seat S Q A)) (h : AreAll all) (since : List (Entry S Q A)) (kept : Kept S Q A)
      → h.lock ≡ lock_of table t → Took after reply_to t since kept (lines_of all) → Closes after reply_to all kept.entries.items
  closes after reply_to t table all h since kept is took =
      let here = λ (k : ℕ) (s : Seat S Q A) (at : slice_get all k ≡ Some s). let same : lock_of table t ≡ s.lock = sym (lock_at all h k s at ∙ is) in same in
      record {
        since = since;
        legal = λ k s at. subst (λ (l : Lock S Q A). IsLegal after reply_to l.first kept.entries.items) (here k s at) (subst (IsLegal after reply_to t.start) (sym took.fits.entries) took.legal);
        begins = λ k s at. subst (λ (l : Lock S Q A). kept.entries.items ≡ l.past ++ since) (here k s at) took.fits.entries;
        calls = λ k s at. subst (λ (l : Lock S Q A). calls_from s.number (length l.past) since ≡ s.calls) (here k s at) (made_at (length t.past) since all k s took.made at);
        others = All-weaker (λ (e : Entry S Q A). e.seat < length t.quotas) (λ (e : Entry S Q A). IsSeatOf all e.seat)
            (λ e below. is_seat all h e.seat (subst (λ (l : Lock S Q A). e.seat < l.seats) (sym is) below)) since (each_all (λ (e : Entry S Q A). e.seat < length t.quotas) since took.numbered);
      }

  -- the machine has the setup that it began with
  pub same_setup : (first : S → S) (after : S → Q → S) → ((s : S) (q : Q) → first (after s q) ≡ first s) → (t : Terms S Q A) → first t.start ≡ t.start → (log : List (Entry S Q A)) (kept : Kept S Q A) → Fits after t log kept → first kept.state ≡ t.start
  same_setup first after keeps t settled log kept fits = ap first fits.state ∙ first_after first after keeps t.start log ∙ settled

  pub leaves : (first : S → S) (after : S → Q → S) (reply_to : S → Q → A) (t : Terms S Q A) (since : List (Entry S Q A)) (kept : Kept S Q A) (lines : List (Line S Q A)) → first kept.state ≡ t.start → Took after reply_to t since kept lines
      → Leaves first after reply_to kept.entries.items kept.state
  leaves first after reply_to t since kept lines same took = record {
    legal = subst (λ (x : S × List (Entry S Q A)). IsLegal after reply_to x.0 x.1) (λ i. (sym same i, sym took.fits.entries i)) took.legal;
    left_by = took.fits.state ∙ (λ i. state_after after (sym same i) (sym took.fits.entries i));
  }

  pub all_gone : (xs gone all : List (Seat S Q A)) → length xs ≡ 0 → xs ++ gone ≡ all → gone ≡ all
  all_gone [] gone all none is = is
  all_gone (x ∷ xs) gone all none is = absurd (omega arith)
