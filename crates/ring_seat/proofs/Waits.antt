-- What each step of an end makes of the words that say who waits: masks, wanted rooms, feature bits and signals.
use Rattle.std.proofs.Common.{◌≡◌, ◌≢◌, ℕ, ◌+◌, ◌<◌, List, length, get_or, set, Some, refl, subst, arith}
use Rattle.std.proofs.lemmas.List.{get_or-set_same, get_or-set_other}
use Rattle.io_edge.specs.declared.side.Side.{Side}
use Rattle.io_edge.specs.declared.side.Side.TheVariants.{Guest, Host}
use Rattle.ring_machine.specs.declared.machine.Stage.{Stage}
use Rattle.ring_machine.specs.declared.machine.Stage.TheVariants.{Idle, Stopped, SendCell, SendWrite, SendRaise, CommitRead, CommitRaise, ArmPending, ArmMask, ArmUndoMask, ArmUndoPending, PollSignal, PollMask, PollPending, MarkStore, MarkRaise}
use Rattle.ring_machine.specs.declared.machine.EndMachine.{EndMachine}
use Rattle.ring_machine.specs.declared.place.Ring.{Ring}
use Rattle.ring_machine.specs.declared.place.Ring.TheVariants.{ToHost, ToGuest}
use Rattle.ring_machine.specs.declared.place.Op.{Op}
use Rattle.ring_machine.specs.Places.{out_of, in_of, peer_of, base_of, signal_of, mark_of, words_of, ahead}
use Rattle.ring_machine.specs.Steps.{IsSound, next_at, next_of}
use Rattle.ring_core.specs.Told.{written}
use Rattle.ring_machine.proofs.Sound.{ahead_below}
use Rattle.ring_pair_laws.specs.Ring.{ring_in}

-- The words of an end's waiting: its mask, its wanted room and its signal; its peer's three; and both feature words
pub record Waits (n : ℕ) (x : Side) (ws : List ℕ) (a b c d : ℕ) (old : List ℕ) : Type 0 where
  pub mask : ring_in n ws (in_of x) 2 ≡ a
  pub pending : ring_in n ws (out_of x) 3 ≡ b
  pub signal : get_or ws (signal_of n x) 0 ≡ c
  pub raised : get_or ws (signal_of n (peer_of x)) 0 ≡ d
  pub peers_mask : ring_in n ws (out_of x) 2 ≡ ring_in n old (out_of x) 2
  pub peers_pending : ring_in n ws (in_of x) 3 ≡ ring_in n old (in_of x) 3
  pub feature : ring_in n ws (out_of x) 4 ≡ ring_in n old (out_of x) 4
  pub peers_feature : ring_in n ws (in_of x) 4 ≡ ring_in n old (in_of x) 4

-- what a step makes of the four that it can change
abbrev pub mask_after : Stage → ℕ → ℕ
mask_after ArmMask w = 0
mask_after ArmUndoMask w = 1
mask_after PollMask w = 1
mask_after _ w = w

abbrev pub pending_after : Stage → ℕ → ℕ → ℕ
pending_after ArmPending want w = want
pending_after ArmUndoPending want w = 0
pending_after PollPending want w = 0
pending_after _ want w = w

abbrev pub signal_after : Stage → ℕ → ℕ
signal_after PollSignal w = 0
signal_after _ w = w

abbrev pub raised_after : Stage → ℕ → ℕ
raised_after SendRaise w = 1
raised_after CommitRaise w = 1
raised_after MarkRaise w = 1
raised_after _ w = w

abbrev pub WaitsBy : Stage → ℕ → Side → ℕ → List ℕ → List ℕ → Type 0
WaitsBy st n x want ws ws' = Waits n x ws' (mask_after st (ring_in n ws (in_of x) 2)) (pending_after st want (ring_in n ws (out_of x) 3)) (signal_after st (get_or ws (signal_of n x) 0)) (raised_after st (get_or ws (signal_of n (peer_of x)) 0)) ws

-- a word that none of them is
record Apart (n i : ℕ) : Type 0 where
  pub host_mask : 2 ≢ i
  pub host_pending : 3 ≢ i
  pub host_feature : 4 ≢ i
  pub guest_mask : n + 5 + 2 ≢ i
  pub guest_pending : n + 5 + 3 ≢ i
  pub guest_feature : n + 5 + 4 ≢ i
  pub guest_signal : n + n + 10 ≢ i
  pub host_signal : n + n + 11 ≢ i

module _ (n : ℕ) (ws : List ℕ) where
  abbrev Same : Side → List ℕ → Type 0
  Same x l = Waits n x l (ring_in n ws (in_of x) 2) (ring_in n ws (out_of x) 3) (get_or ws (signal_of n x) 0) (get_or ws (signal_of n (peer_of x)) 0) ws

  same : (x : Side) → Same x ws
  same x = record { mask = refl; pending = refl; signal = refl; raised = refl; peers_mask = refl; peers_pending = refl; feature = refl; peers_feature = refl }

  stays : (i j w : ℕ) → j ≢ i → get_or (set ws i w) j 0 ≡ get_or ws j 0
  stays i j w ne = get_or-set_other ws i j w 0 ne

  elsewhere : (x : Side) (i w : ℕ) → Apart n i → Same x (set ws i w)
  elsewhere Guest i w a = record { mask = stays i (n + 5 + 2) w a.guest_mask; pending = stays i 3 w a.host_pending; signal = stays i (n + n + 10) w a.guest_signal; raised = stays i (n + n + 11) w a.host_signal; peers_mask = stays i 2 w a.host_mask; peers_pending = stays i (n + 5 + 3) w a.guest_pending; feature = stays i 4 w a.host_feature; peers_feature = stays i (n + 5 + 4) w a.guest_feature }
  elsewhere Host i w a = record { mask = stays i 2 w a.host_mask; pending = stays i (n + 5 + 3) w a.guest_pending; signal = stays i (n + n + 11) w a.host_signal; raised = stays i (n + n + 10) w a.guest_signal; peers_mask = stays i (n + 5 + 2) w a.guest_mask; peers_pending = stays i 3 w a.host_pending; feature = stays i (n + 5 + 4) w a.guest_feature; peers_feature = stays i 4 w a.host_feature }

  -- the words of a ring but its mask, its pending and its feature
  apart_ring : (y : Ring) (i k : ℕ) → i ≡ base_of n y + k → k < n + 5 → k ≢ 2 → k ≢ 3 → k ≢ 4 → Apart n i
  apart_ring ToHost i k at in_ring a b c = record { host_mask = λ e. a (omega (arith, at, e)); host_pending = λ e. b (omega (arith, at, e)); host_feature = λ e. c (omega (arith, at, e)); guest_mask = λ e. omega (arith, at, e, in_ring); guest_pending = λ e. omega (arith, at, e, in_ring); guest_feature = λ e. omega (arith, at, e, in_ring); guest_signal = λ e. omega (arith, at, e, in_ring); host_signal = λ e. omega (arith, at, e, in_ring) }
  apart_ring ToGuest i k at in_ring a b c = record { host_mask = λ e. omega (arith, at, e); host_pending = λ e. omega (arith, at, e); host_feature = λ e. omega (arith, at, e); guest_mask = λ e. a (omega (arith, at, e)); guest_pending = λ e. b (omega (arith, at, e)); guest_feature = λ e. c (omega (arith, at, e)); guest_signal = λ e. omega (arith, at, e, in_ring); host_signal = λ e. omega (arith, at, e, in_ring) }

  apart_mark : (x : Side) → Apart n (mark_of n x)
  apart_mark Guest = record { host_mask = λ e. omega arith; host_pending = λ e. omega arith; host_feature = λ e. omega arith; guest_mask = λ e. omega arith; guest_pending = λ e. omega arith; guest_feature = λ e. omega arith; guest_signal = λ e. omega arith; host_signal = λ e. omega arith }
  apart_mark Host = record { host_mask = λ e. omega arith; host_pending = λ e. omega arith; host_feature = λ e. omega arith; guest_mask = λ e. omega arith; guest_pending = λ e. omega arith; guest_feature = λ e. omega arith; guest_signal = λ e. omega arith; host_signal = λ e. omega arith }

  module _ (long : length ws ≡ words_of n) where
    here : (i w : ℕ) → i < words_of n → get_or (set ws i w) i 0 ≡ w
    here i w h = get_or-set_same ws i w 0 (omega (arith, long))

    put_mask : (x : Side) (w : ℕ) → Waits n x (set ws (base_of n (in_of x) + 2) w) w (ring_in n ws (out_of x) 3) (get_or ws (signal_of n x) 0) (get_or ws (signal_of n (peer_of x)) 0) ws
    put_mask Guest w = record { mask = here (n + 5 + 2) w (omega arith); pending = stays (n + 5 + 2) (3) w (λ e. omega arith); signal = stays (n + 5 + 2) (n + n + 10) w (λ e. omega arith); raised = stays (n + 5 + 2) (n + n + 11) w (λ e. omega arith); peers_mask = stays (n + 5 + 2) (2) w (λ e. omega arith); peers_pending = stays (n + 5 + 2) (n + 5 + 3) w (λ e. omega arith); feature = stays (n + 5 + 2) (4) w (λ e. omega arith); peers_feature = stays (n + 5 + 2) (n + 5 + 4) w (λ e. omega arith) }
    put_mask Host w = record { mask = here (2) w (omega arith); pending = stays (2) (n + 5 + 3) w (λ e. omega arith); signal = stays (2) (n + n + 11) w (λ e. omega arith); raised = stays (2) (n + n + 10) w (λ e. omega arith); peers_mask = stays (2) (n + 5 + 2) w (λ e. omega arith); peers_pending = stays (2) (3) w (λ e. omega arith); feature = stays (2) (n + 5 + 4) w (λ e. omega arith); peers_feature = stays (2) (4) w (λ e. omega arith) }

    put_pending : (x : Side) (w : ℕ) → Waits n x (set ws (base_of n (out_of x) + 3) w) (ring_in n ws (in_of x) 2) w (get_or ws (signal_of n x) 0) (get_or ws (signal_of n (peer_of x)) 0) ws
    put_pending Guest w = record { mask = stays (3) (n + 5 + 2) w (λ e. omega arith); pending = here (3) w (omega arith); signal = stays (3) (n + n + 10) w (λ e. omega arith); raised = stays (3) (n + n + 11) w (λ e. omega arith); peers_mask = stays (3) (2) w (λ e. omega arith); peers_pending = stays (3) (n + 5 + 3) w (λ e. omega arith); feature = stays (3) (4) w (λ e. omega arith); peers_feature = stays (3) (n + 5 + 4) w (λ e. omega arith) }
    put_pending Host w = record { mask = stays (n + 5 + 3) (2) w (λ e. omega arith); pending = here (n + 5 + 3) w (omega arith); signal = stays (n + 5 + 3) (n + n + 11) w (λ e. omega arith); raised = stays (n + 5 + 3) (n + n + 10) w (λ e. omega arith); peers_mask = stays (n + 5 + 3) (n + 5 + 2) w (λ e. omega arith); peers_pending = stays (n + 5 + 3) (3) w (λ e. omega arith); feature = stays (n + 5 + 3) (n + 5 + 4) w (λ e. omega arith); peers_feature = stays (n + 5 + 3) (4) w (λ e. omega arith) }

    put_signal : (x : Side) (w : ℕ) → Waits n x (set ws (signal_of n x) w) (ring_in n ws (in_of x) 2) (ring_in n ws (out_of x) 3) w (get_or ws (signal_of n (peer_of x)) 0) ws
    put_signal Guest w = record { mask = stays (n + n + 10) (n + 5 + 2) w (λ e. omega arith); pending = stays (n + n + 10) (3) w (λ e. omega arith); signal = here (n + n + 10) w (omega arith); raised = stays (n + n + 10) (n + n + 11) w (λ e. omega arith); peers_mask = stays (n + n + 10) (2) w (λ e. omega arith); peers_pending = stays (n + n + 10) (n + 5 + 3) w (λ e. omega arith); feature = stays (n + n + 10) (4) w (λ e. omega arith); peers_feature = stays (n + n + 10) (n + 5 + 4) w (λ e. omega arith) }
    put_signal Host w = record { mask = stays (n + n + 11) (2) w (λ e. omega arith); pending = stays (n + n + 11) (n + 5 + 3) w (λ e. omega arith); signal = here (n + n + 11) w (omega arith); raised = stays (n + n + 11) (n + n + 10) w (λ e. omega arith); peers_mask = stays (n + n + 11) (n + 5 + 2) w (λ e. omega arith); peers_pending = stays (n + n + 11) (3) w (λ e. omega arith); feature = stays (n + n + 11) (n + 5 + 4) w (λ e. omega arith); peers_feature = stays (n + n + 11) (4) w (λ e. omega arith) }

    put_raised : (x : Side) (w : ℕ) → Waits n x (set ws (signal_of n (peer_of x)) w) (ring_in n ws (in_of x) 2) (ring_in n ws (out_of x) 3) (get_or ws (signal_of n x) 0) w ws
    put_raised Guest w = record { mask = stays (n + n + 11) (n + 5 + 2) w (λ e. omega arith); pending = stays (n + n + 11) (3) w (λ e. omega arith); signal = stays (n + n + 11) (n + n + 10) w (λ e. omega arith); raised = here (n + n + 11) w (omega arith); peers_mask = stays (n + n + 11) (2) w (λ e. omega arith); peers_pending = stays (n + n + 11) (n + 5 + 3) w (λ e. omega arith); feature = stays (n + n + 11) (4) w (λ e. omega arith); peers_feature = stays (n + n + 11) (n + 5 + 4) w (λ e. omega arith) }
    put_raised Host w = record { mask = stays (n + n + 10) (2) w (λ e. omega arith); pending = stays (n + n + 10) (n + 5 + 3) w (λ e. omega arith); signal = stays (n + n + 10) (n + n + 11) w (λ e. omega arith); raised = here (n + n + 10) w (omega arith); peers_mask = stays (n + n + 10) (n + 5 + 2) w (λ e. omega arith); peers_pending = stays (n + n + 10) (3) w (λ e. omega arith); feature = stays (n + n + 10) (n + 5 + 4) w (λ e. omega arith); peers_feature = stays (n + n + 10) (4) w (λ e. omega arith) }

module _ (m : EndMachine) (p ws : List ℕ) (s : IsSound m) (long : length ws ≡ words_of m.cells) where
  abbrev After : Stage → Op → Type 0
  After st op = WaitsBy st m.cells m.side m.want ws (written m.cells op ws)

  given : (st : Stage) (op op' : Op) → Some op ≡ Some op' → After st op → After st op'
  given st op op' h = let is : op ≡ op' = cc in subst (After st) is

  waits_at : (st : Stage) (op : Op) → next_at st m p ≡ Some op → After st op
  waits_at Idle op h = absurd (cc)
  waits_at Stopped op h = absurd (cc)
  waits_at SendCell op h = given SendCell _ op h (elsewhere m.cells ws m.side _ _ (let c = ahead_below m.cells m.write m.done s.write (omega (arith, s.done, s.len)) in apart_ring m.cells ws (out_of m.side) _ (5 + ahead m.cells m.write m.done) (omega arith) (omega (arith, c)) (λ e. omega arith) (λ e. omega arith) (λ e. omega arith)))
  waits_at SendWrite op h = given SendWrite _ op h (elsewhere m.cells ws m.side _ _ (apart_ring m.cells ws (out_of m.side) _ 0 (omega arith) (omega arith) (λ e. omega arith) (λ e. omega arith) (λ e. omega arith)))
  waits_at SendRaise op h = given SendRaise _ op h (put_raised m.cells ws long m.side 1)
  waits_at CommitRead op h = given CommitRead _ op h (elsewhere m.cells ws m.side _ _ (apart_ring m.cells ws (in_of m.side) _ 1 refl (omega arith) (λ e. omega arith) (λ e. omega arith) (λ e. omega arith)))
  waits_at CommitRaise op h = given CommitRaise _ op h (put_raised m.cells ws long m.side 1)
  waits_at ArmPending op h = given ArmPending _ op h (put_pending m.cells ws long m.side m.want)
  waits_at ArmMask op h = given ArmMask _ op h (put_mask m.cells ws long m.side 0)
  waits_at ArmUndoMask op h = given ArmUndoMask _ op h (put_mask m.cells ws long m.side 1)
  waits_at ArmUndoPending op h = given ArmUndoPending _ op h (put_pending m.cells ws long m.side 0)
  waits_at PollSignal op h = given PollSignal _ op h (put_signal m.cells ws long m.side 0)
  waits_at PollMask op h = given PollMask _ op h (put_mask m.cells ws long m.side 1)
  waits_at PollPending op h = given PollPending _ op h (put_pending m.cells ws long m.side 0)
  waits_at MarkStore op h = given MarkStore _ op h (elsewhere m.cells ws m.side _ _ (apart_mark m.cells ws m.side))
  waits_at MarkRaise op h = given MarkRaise _ op h (put_raised m.cells ws long m.side 1)
  waits_at st op h = given st _ op h (same m.cells ws m.side)

  -- what the next step makes of the waiting words
  pub step_waits : (op : Op) → next_of m p ≡ Some op → WaitsBy m.stage m.cells m.side m.want ws (written m.cells op ws)
  step_waits op h = waits_at m.stage op h
