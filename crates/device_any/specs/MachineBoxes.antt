-- A machine with its history, or its seats.
use Rattle.std.specs.Prelude.{ℕ, ◌≡◌, Bool, true, false, List, [], Option, Some, None, slice_get}
use Rattle.hist_lock.specs.Calls.{Closes}
use Rattle.hist_lock.specs.History.{entries_of}
use Rattle.hist_lock.specs.Legal.{Leaves}
use Rattle.hist_lock.specs.Seat.{Seat, AreAll, AreNew}
use Rattle.hist_lock.specs.declared.history.Entry.{Entry}
use Rattle.device_any.specs.declared.machine_box.MachineBox.{MachineBox}
use Rattle.device_any.specs.declared.machine_box.MachineBox.TheVariants.{Whole, Shared, Empty}

module _ {S Q A : Type 0} where
  -- the machine, where it stands here
  abbrev pub state_in : MachineBox S Q A → Option S
  state_in (Whole state history) = Some state
  state_in _ = None

  -- what it served
  abbrev pub past_in : MachineBox S Q A → List (Entry S Q A)
  past_in (Whole state history) = entries_of history
  past_in _ = []

  -- the seats that stand here, in order
  abbrev pub own_seats : MachineBox S Q A → List (Seat S Q A)
  own_seats (Shared seats) = seats.items
  own_seats _ = []

  -- its channels have it
  abbrev pub is_shared : MachineBox S Q A → Bool
  is_shared (Shared seats) = true
  is_shared _ = false

  -- a machine that has served nothing
  pub record IsNew (machine : S) (box : MachineBox S Q A) : Type 0 where
    pub state : state_in box ≡ Some machine
    pub past : past_in box ≡ []

  -- no seat stands here, or all of the machine's do
  abbrev pub CanUnite : MachineBox S Q A → Type 0
  CanUnite (Shared seats) = AreAll seats.items
  CanUnite _ = Unit {0}

  module _ (first : S → S) where
    -- new seats of this machine's history, one for each of these quotas
    abbrev pub AreSeatsOf : MachineBox S Q A → List ℕ → List (Seat S Q A) → Type 0
    AreSeatsOf (Whole state history) quotas seats = AreNew (first state) (entries_of history) quotas seats
    AreSeatsOf _ quotas seats = ⊥

    module _ (after : S → Q → S) (reply_to : S → Q → A) where
      -- the machine stands here, and its history is legal and leaves the state that it is in
      abbrev pub IsWhole : MachineBox S Q A → Type 0
      IsWhole (Whole state history) = Leaves first after reply_to (entries_of history) state
      IsWhole _ = ⊥

      -- the machine whose seats these were: its history is the one that they began with, and then exactly their calls
      pub record IsUnited (seats : List (Seat S Q A)) (state : S) (entries : List (Entry S Q A)) : Type 0 where
        pub leaves : Leaves first after reply_to entries state
        pub closes : Closes after reply_to seats entries
        pub first_is : (k : ℕ) (s : Seat S Q A) → slice_get seats k ≡ Some s → first state ≡ s.lock.first

      -- shared before, it is whole now, and else it is as it was
      abbrev pub Unites : MachineBox S Q A → MachineBox S Q A → Type 0
      Unites (Shared seats) (Whole state history) = IsUnited seats.items state (entries_of history)
      Unites (Shared seats) _ = ⊥
      Unites (Whole state history) new = new ≡ Whole state history
      Unites Empty new = new ≡ Empty
