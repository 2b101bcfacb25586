-- A new channel: its words are the opening ones, and its ends did nothing.
use Rattle.std.proofs.Common.{◌≡◌, ◌≢◌, ℕ, ◌+◌, ◌<◌, ◌≤◌, List, [], length, get_or, refl, sym, ap, ◌∙◌, arith, length-set, subst}
use Rattle.std.proofs.lemmas.List.{append-nil, get_or-set_other, get_or-replicate, length-replicate}
use Rattle.std.proofs.lemmas.List.Elements.{All-nil}
use Rattle.io_edge.specs.declared.side.Side.{Side}
use Rattle.io_edge.specs.declared.side.Side.TheVariants.{Guest, Host}
use Rattle.ring_machine.specs.declared.place.Ring.{Ring}
use Rattle.ring_machine.specs.declared.place.Ring.TheVariants.{ToHost, ToGuest}
use Rattle.ring_machine.specs.Places.{mark_of, words_of}
use Rattle.ring_machine.specs.Steps.{IsSound, machine_new}
use Rattle.ring_machine.specs.States.{IsPacket, resting}
use Rattle.ring_core.specs.Told.{opening, opening_with}
use Rattle.ring_pair_laws.specs.Ring.{RingOk, AtRest, ring_in}
use Rattle.ring_core.specs.Told.{Held}
use Rattle.ring_pair_laws.specs.Pair.{TwoEnds, IsPair, end_of}
use Rattle.ring_pair_laws.proofs.Keeping.{Both, both_of}
use Rattle.ring_pair_laws.proofs.Turns.{small_mod}
use Rattle.ring_pair_laws.proofs.Pairing.{pair_by}

-- the words that the opening leaves 0
pub still : (n i : ℕ) → i < words_of n → i ≢ 2 → i ≢ 4 → i ≢ n + 5 + 2 → i ≢ n + 5 + 4 → get_or (opening n) i 0 ≡ 0
still n i h a b c d =
    get_or-set_other _ 4 i 1 0 b ∙ (get_or-set_other _ 2 i 1 0 a ∙ (get_or-set_other _ (n + 5 + 4) i 1 0 d ∙ (get_or-set_other _ (n + 5 + 2) i 1 0 c ∙ get_or-replicate (words_of n) i 0 0 h)))

header : (n : ℕ) (r : Ring) (k : ℕ) → k < 2 → ring_in n (opening n) r k ≡ 0
header n ToHost k h = still n (0 + k) (omega arith) (λ e. omega arith) (λ e. omega arith) (λ e. omega arith) (λ e. omega arith)
header n ToGuest k h = still n (n + 5 + k) (omega arith) (λ e. omega arith) (λ e. omega arith) (λ e. omega arith) (λ e. omega arith)

mark_down : (n : ℕ) (x : Side) → get_or (opening n) (mark_of n x) 0 ≡ 0
mark_down n Guest = still n (n + n + 12) (omega arith) (λ e. omega arith) (λ e. omega arith) (λ e. omega arith) (λ e. omega arith)
mark_down n Host = still n (n + n + 13) (omega arith) (λ e. omega arith) (λ e. omega arith) (λ e. omega arith) (λ e. omega arith)

pub opening_length : (n : ℕ) → length (opening n) ≡ words_of n
opening_length n = length-set _ 4 1 ∙ (length-set _ 2 1 ∙ (length-set _ (n + 5 + 4) 1 ∙ (length-set _ (n + 5 + 2) 1 ∙ length-replicate (words_of n) 0)))

new_sound : (n : ℕ) (x : Side) → 512 ≤ n → n ≤ 16777216 → IsSound (machine_new x n)
new_sound n x a b = record {
  cells = (a, b);
  write = omega arith;
  read = omega arith;
  start = omega arith;
  seen = omega arith;
  old = omega arith;
  len = omega arith;
  done = omega arith;
  value = omega arith;
  want = omega arith;
  room = omega arith;
  words = omega arith;
  arming = λ h. refl;
  looking = λ h. absurd (cc);
  asleep = λ h. absurd (cc);
  unmarked = λ h. refl;
  first = λ h. refl;
  copying = λ h. absurd (cc);
  wanting = (λ h. absurd (cc), λ h. absurd (cc));
  broken = λ h. absurd (cc);
  stopped = λ h. absurd (cc);
}

new_ring : (n : ℕ) (r : Ring) (x y : Side) → 0 < n → RingOk n (ring_in n (opening n) r) (resting (machine_new x n) [] [] []) (resting (machine_new y n) [] [] [])
new_ring n r x y some = record {
  given_back = [];
  since = [];
  waiting = [];
  got_is = refl;
  sent_is = refl;
  packets = All-nil IsPacket;
  room = omega arith;
  write = sym (small_mod n 0 some);
  read = sym (small_mod n 0 some);
  start = sym (small_mod n 0 some);
  write_word = header n r 0 (omega arith);
  read_word = header n r 1 (omega arith);
  cells = λ k lo hi. absurd (omega arith);
  sending = tt;
  taking = tt;
}

pub new_channel : (n : ℕ) → 512 ≤ n → n ≤ 16777216 → AtRest n (opening n) (resting (machine_new Guest n) [] [] []) (resting (machine_new Host n) [] [] [])
new_channel n a b = record {
  channel = record {
    words = opening_length n;
    guest_fits = record { side = refl; cells = refl; sound = new_sound n Guest a b };
    host_fits = record { side = refl; cells = refl; sound = new_sound n Host a b };
    to_host = new_ring n ToHost Guest Host (omega arith);
    to_guest = new_ring n ToGuest Host Guest (omega arith);
    guest_past = record { sent = refl; got = refl; marked = refl; seen = refl; drained = refl; word = mark_down n Guest };
    host_past = record { sent = refl; got = refl; marked = refl; seen = refl; drained = refl; word = mark_down n Host };
    turns = [];
    run = tt;
    guest_turns = refl;
    host_turns = refl;
  };
  guest_rests = record { idle = refl; clear = refl; bare = refl };
  host_rests = record { idle = refl; clear = refl; bare = refl };
}

pub new_pair : (s : TwoEnds) (n : ℕ) → s.at ≡ Guest → s.guest.state ≡ resting (machine_new Guest n) [] [] [] → s.host.state ≡ resting (machine_new Host n) [] [] []
    → s.guest.seat ≡ record { cells = n; pages = 0; memory = record { words = opening_with n 0; steps = 0; due = [] } } → 512 ≤ n → n ≤ 16777216 → IsPair s
new_pair s n at guest host seat a b =
    let c = new_channel n a b in
    pair_by s Guest n _ _ _ ((λ j. (end_of s (at j)).seat.memory) ∙ ap (λ (k : Held). k.memory) seat) guest host refl
    (subst (λ (l : List ℕ). Both n Guest l (resting (machine_new Guest n) [] [] []) (resting (machine_new Host n) [] [] [])) (sym (append-nil (opening n))) (both_of n Guest _ _ _ c.channel)) c.guest_rests c.host_rests
