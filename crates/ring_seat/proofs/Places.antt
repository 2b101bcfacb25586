-- The word of each step is one of the channel's.
use Rattle.std.proofs.Common.{◌≡◌, ℕ, ◌+◌, ◌*◌, ◌<◌, List, Some, refl, subst, arith}
use Rattle.io_edge.specs.declared.side.Side.{Side}
use Rattle.io_edge.specs.declared.side.Side.TheVariants.{Guest, Host}
use Rattle.ring_machine.specs.declared.machine.EndMachine.{EndMachine}
use Rattle.ring_machine.specs.declared.place.Ring.TheVariants.{ToHost, ToGuest}
use Rattle.ring_machine.specs.declared.place.Place.{Place}
use Rattle.ring_machine.specs.declared.place.Place.TheVariants.{Write, Read, Mask, Pending, Feature, Cell, Signal, Mark, Page}
use Rattle.ring_machine.specs.declared.place.Op.{Op}
use Rattle.ring_machine.specs.declared.place.Op.TheVariants.{Load, Store, Raise, TakeSignal, StoreMark}
use Rattle.ring_machine.specs.Inside.{IsOpOf, IsInside}
use Rattle.ring_machine.specs.Places.{IsPlaceOf, index_of, signal_of, words_of}
use Rattle.ring_machine.specs.Steps.{IsSound, next_of}
use Rattle.ring_machine.proofs.Bounds.{inside_at}
use Rattle.ring_seat.specs.Seats.{word_at}

place_small : (n : ℕ) (p : Place) → IsPlaceOf n 0 p → index_of n p < words_of n
place_small n (Write ToHost) h = omega arith
place_small n (Write ToGuest) h = omega arith
place_small n (Read ToHost) h = omega arith
place_small n (Read ToGuest) h = omega arith
place_small n (Mask ToHost) h = omega arith
place_small n (Mask ToGuest) h = omega arith
place_small n (Pending ToHost) h = omega arith
place_small n (Pending ToGuest) h = omega arith
place_small n (Feature ToHost) h = omega arith
place_small n (Feature ToGuest) h = omega arith
place_small n (Cell ToHost at) h = omega (arith, h.1)
place_small n (Cell ToGuest at) h = omega (arith, h.1)
place_small n (Signal Guest) h = omega arith
place_small n (Signal Host) h = omega arith
place_small n (Mark Guest) h = omega arith
place_small n (Mark Host) h = omega arith
place_small n (Page q w) h = absurd (omega (arith, h.0))

op_small : (n : ℕ) (op : Op) → IsOpOf n 0 op → word_at n op < words_of n
op_small n (Load p) h = place_small n p h
op_small n (Store p v) h = place_small n p h
op_small n (Raise x) h = place_small n (Signal x) tt
op_small n (TakeSignal x) h = place_small n (Signal x) tt
op_small n (StoreMark x) h = place_small n (Mark x) tt

pub signal_small : (n : ℕ) (x : Side) → signal_of n x < words_of n
signal_small n x = place_small n (Signal x) tt

-- a step of the rings
pub word_small : (m : EndMachine) (q : List ℕ) (op : Op) (i words : ℕ) → IsSound m → next_of m q ≡ Some op → i ≡ word_at m.cells op → words ≡ words_of m.cells → i < words
word_small m q op i words sound h at all =
    let small : word_at m.cells op < words_of m.cells = op_small m.cells op (subst (IsInside m.cells 0) h (inside_at m 0 q sound m.stage refl)) in
    omega (arith, at, all)

-- a step on a page word of a channel of c data pages
pub page_small : (n c q w : ℕ) → q < c → w < 512 → words_of n + (512 * q + w) < words_of n + 512 * c
page_small n c q w a b = omega (arith, a, b)
