-- The history of a lock whose one seat may make no call.
use Rattle.std.proofs.Common.{◌≡◌, ℕ, zero, suc, List, [], ◌∷◌, ◌++◌, length, get_or, Some, ap, sym, ◌∙◌, subst, slice_get, refl}
use Rattle.std.specs.Prelude.{All}
use Rattle.std.proofs.lemmas.List.{nil_from_length}
use Rattle.hist_lock.specs.Seat.{Seat, AreNew}
use Rattle.hist_lock.specs.Legal.{Leaves, state_after}
use Rattle.hist_lock.specs.Calls.{IsSeatOf, Closes}
use Rattle.hist_lock.specs.declared.history.Entry.{Entry}
use Rattle.device_any.proofs.Histories.{log_long}

module _ {S Q A : Type 0} (seat : Seat S Q A) where
  that_seat : (j : ℕ) (s : Seat S Q A) → slice_get (seat ∷ []) j ≡ Some s → s ≡ seat
  that_seat zero s is = cc (is)
  that_seat (suc j) s is = absurd (cc (is))

  numbered : (n : ℕ) → seat.number ≡ 0 → IsSeatOf (seat ∷ []) n → n ≡ 0
  numbered n first of = sym of.1.1.1 ∙ (ap (λ (s : Seat S Q A). s.number) (that_seat of.0 of.1.0 of.1.1.0) ∙ first)

  -- all entries are the one seat's
  all_own : (entries : List (Entry S Q A)) → seat.number ≡ 0 → All (λ (e : Entry S Q A). IsSeatOf (seat ∷ []) e.seat) entries → All (λ (e : Entry S Q A). e.seat ≡ 0) entries
  all_own entries first others k d lt = numbered (get_or entries k d).seat first (others k d lt)

-- a lock whose one seat may make no call leaves no history
pub none_served : {S Q A : Type 0} (after : S → Q → S) (reply_to : S → Q → A) (machine : S) (seats : List (Seat S Q A)) (entries : List (Entry S Q A)) → AreNew machine [] (0 ∷ []) seats → Closes after reply_to seats entries → entries ≡ []
none_served {S} {Q} {A} after reply_to machine seats entries new closes =
    let seat : Seat S Q A = record { lock = new.lock; number = 0; left = 0; calls = [] } in
    let shut : Closes after reply_to (seat ∷ []) entries = subst (λ l. Closes after reply_to l entries) new.seats_are closes in
    let none : length shut.since ≡ 0 = sym (log_long (length new.lock.past) shut.since (all_own seat shut.since refl shut.others)) ∙ ap length (shut.calls 0 seat refl) in
    shut.begins 0 seat refl ∙ ap (λ l. l ++ shut.since) new.past_is ∙ nil_from_length shut.since none

pub first_state : {S Q A : Type 0} (first : S → S) (after : S → Q → S) (reply_to : S → Q → A) (machine state : S) (seats : List (Seat S Q A)) (entries : List (Entry S Q A)) → AreNew machine [] (0 ∷ []) seats → entries ≡ []
    → ((k : ℕ) (s : Seat S Q A) → slice_get seats k ≡ Some s → first state ≡ s.lock.first) → Leaves first after reply_to entries state → state ≡ machine
first_state {S} {Q} {A} first after reply_to machine state seats entries new none firsts leaves =
    let seat : Seat S Q A = record { lock = new.lock; number = 0; left = 0; calls = [] } in
    let here : slice_get seats 0 ≡ Some seat = ap (λ l. slice_get l 0) new.seats_are in
    leaves.left_by ∙ ap (λ es. state_after after (first state) es) none ∙ firsts 0 seat here ∙ new.first_is
