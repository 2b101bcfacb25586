-- Steps inside a channel, and the calls that store to a place.
use Rattle.std.specs.Prelude.{◌≡◌, ◌⊎◌, ℕ, Option, Some, None}
use Rattle.io_edge.specs.declared.side.Side.{Side}
use Rattle.ring_machine.specs.declared.place.Place.{Place}
use Rattle.ring_machine.specs.declared.place.Place.TheVariants.{Write, Read, Mask, Pending, Feature, Cell, Signal, Mark, Page}
use Rattle.ring_machine.specs.declared.place.Op.{Op}
use Rattle.ring_machine.specs.declared.place.Op.TheVariants.{Load, Store, Raise, TakeSignal, StoreMark}
use Rattle.page_kept.specs.declared.page_call.PageCall.{PageCall}
use Rattle.page_kept.specs.declared.page_call.PageCall.TheVariants.{Off, StoreWord, LoadWords}
use Rattle.ring_machine.specs.declared.machine.Stage.{Stage}
use Rattle.ring_machine.specs.EndCalls.{EndCall, Send, Commit, Arm, Poll, Mark as MarkCall, StorePage, LoadLent}
use Rattle.ring_machine.specs.Places.{IsPlaceOf, out_of, in_of, peer_of}
use Rattle.ring_machine.specs.Steps.{call_at}

-- a step on a place of a channel of c data pages, whose rings have n cells
abbrev pub IsOpOf : ℕ → ℕ → Op → Type 0
IsOpOf n c (Load p) = IsPlaceOf n c p
IsOpOf n c (Store p v) = IsPlaceOf n c p
IsOpOf n c (Raise x) = Unit {0}
IsOpOf n c (TakeSignal x) = Unit {0}
IsOpOf n c (StoreMark x) = Unit {0}

abbrev pub IsInside : ℕ → ℕ → Option Op → Type 0
IsInside n c None = Unit {0}
IsInside n c (Some op) = IsOpOf n c op

-- the call under way: that of the rings, or the page call
abbrev pub call_in : Stage → PageCall → EndCall
call_in st Off = call_at st
call_in st (StoreWord q w v) = StorePage
call_in st (LoadWords q n j) = LoadLent

-- The calls that store to a place. A send stores to the cells and the write word of the ring that
-- its end fills, a commit to the read word of the ring that it empties, an arm and a poll to the mask of the latter and the pending word of the former
abbrev pub IsStoreAt : EndCall → Side → Place → Type 0
IsStoreAt call x (Cell r at) = (call ≡ Send) × (r ≡ out_of x)
IsStoreAt call x (Write r) = (call ≡ Send) × (r ≡ out_of x)
IsStoreAt call x (Read r) = (call ≡ Commit) × (r ≡ in_of x)
IsStoreAt call x (Mask r) = ((call ≡ Arm) ⊎ (call ≡ Poll)) × (r ≡ in_of x)
IsStoreAt call x (Pending r) = ((call ≡ Arm) ⊎ (call ≡ Poll)) × (r ≡ out_of x)
IsStoreAt call x (Feature r) = ⊥
IsStoreAt call x (Signal y) = ⊥
IsStoreAt call x (Mark y) = ⊥
IsStoreAt call x (Page q w) = call ≡ StorePage

-- what a step of a call may change: a send, a commit and a mark raise the peer, a poll takes the end's own signal, and a mark stores its own mark
abbrev pub IsChangeOf : EndCall → Side → Op → Type 0
IsChangeOf call x (Load p) = Unit {0}
IsChangeOf call x (Store p v) = IsStoreAt call x p
IsChangeOf call x (Raise y) = ((call ≡ Send) ⊎ ((call ≡ Commit) ⊎ (call ≡ MarkCall))) × (y ≡ peer_of x)
IsChangeOf call x (TakeSignal y) = (call ≡ Poll) × (y ≡ x)
IsChangeOf call x (StoreMark y) = (call ≡ MarkCall) × (y ≡ x)

abbrev pub ChangesOnly : EndCall → Side → Option Op → Type 0
ChangesOnly call x None = Unit {0}
ChangesOnly call x (Some op) = IsChangeOf call x op
