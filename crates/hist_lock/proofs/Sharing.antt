-- Seats are cut off one after another.
use Rattle.std.proofs.Common.{◌≡◌, ℕ, suc, ◌+◌, List, [], ◌∷◌, ◌++◌, length, sym, ap, ◌∙◌, subst, arith}
use Rattle.atomic_table.specs.Table.{Splits}
use Rattle.hist_lock.specs.declared.view.Terms.{Terms}
use Rattle.hist_lock.specs.declared.view.Stage.TheVariants.{Idle}
use Rattle.hist_lock.specs.Seat.{Lock, Seat, seats_from}
use Rattle.hist_lock.specs.Rule.{view, line, Rule}
use Rattle.hist_lock.specs.Plays.{Sat, others, one_off, lines_from}
use Rattle.hist_lock.proofs.Seats.{splits, lines_later}

module _ {S Q A : Type 0} where
  pub splits_at : (after : S → Q → S) (reply_to : S → Q → A) (t : Terms S Q A) (id : ℕ) (me : Sat S Q A) (n q : ℕ) (qs : List ℕ) → me ≡ (view t (lines_from n (q ∷ qs)) Idle, [])
      → Splits (Rule after reply_to t) id me.0 (others me.0) (one_off me.0)
  splits_at after reply_to t id me n q qs is = subst (λ (x : Sat S Q A). Splits (Rule after reply_to t) id x.0 (others x.0) (one_off x.0)) (sym is)
      (splits after reply_to t id (line n q []) (lines_from (suc n) qs) (lines_later S Q A n (suc n) qs (omega arith)))

  -- the seats that are left, and the one that was cut off
  pub left_at : (t : Terms S Q A) (me now : Sat S Q A) (n q : ℕ) (qs : List ℕ) → me ≡ (view t (lines_from n (q ∷ qs)) Idle, []) → now ≡ (others me.0, me.1) → now ≡ (view t (lines_from (suc n) qs) Idle, [])
  left_at t me now n q qs is told = told ∙ ap (λ (x : Sat S Q A). (others x.0, x.1)) is

  pub cut_at : (t : Terms S Q A) (me cut : Sat S Q A) (n q : ℕ) (qs : List ℕ) → me ≡ (view t (lines_from n (q ∷ qs)) Idle, []) → cut ≡ (one_off me.0, []) → cut ≡ (view t (line n q [] ∷ []) Idle, [])
  cut_at t me cut n q qs is told = told ∙ ap (λ (x : Sat S Q A). (one_off x.0, [])) is

  -- one quota more
  pub seats_from_push : (lock : Lock S Q A) (n m : ℕ) (qs : List ℕ) (q : ℕ) → n + length qs ≡ m → seats_from lock n (qs ++ q ∷ []) ≡ seats_from lock n qs ++ record { lock = lock; number = m; left = q; calls = [] } ∷ []
  seats_from_push lock n m [] q is = let same : n ≡ m = omega arith in ap (λ (k : ℕ). record { lock = lock; number = k; left = q; calls = [] } ∷ []) same
  seats_from_push lock n m (x ∷ xs) q is = ap (λ (l : List (Seat S Q A)). record { lock = lock; number = n; left = x; calls = [] } ∷ l) (seats_from_push lock (n + 1) m xs q (omega arith))
