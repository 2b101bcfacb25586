-- A new channel keeps the rule.
use Rattle.std.proofs.Common.{◌≡◌, ◌≢◌, ℕ, ◌+◌, ◌<◌, ◌≤◌, List, [], length, get_or, set, replicate, ◌∙◌, arith, length-set}
use Rattle.std.proofs.lemmas.List.{get_or-set_same, get_or-set_other, length-replicate}
use Rattle.io_edge.specs.declared.side.Side.{Side}
use Rattle.io_edge.specs.declared.side.Side.TheVariants.{Guest, Host}
use Rattle.ring_machine.specs.Places.{signal_of, words_of, peer_of}
use Rattle.ring_machine.specs.Steps.{machine_new}
use Rattle.ring_machine.specs.States.{resting}
use Rattle.ring_core.specs.Told.{opening}
use Rattle.ring_pair_laws.proofs.Opening.{still, new_channel}
use Rattle.ring_seat.specs.Rule.{OwnWords, OwnPart, ChannelInvariant}
use Rattle.ring_seat.specs.Waking.{WakePending}
use Rattle.ring_seat.proofs.PointLaws.{new_point}
use Rattle.trace_model.specs.Traces.{Moment, end_at}

module _ (n : ℕ) where
  -- the channel at first
  abbrev pub first_moment : Moment
  first_moment = record { words = opening n; guest = resting (machine_new Guest n) [] [] []; host = resting (machine_new Host n) [] [] [] }

  abbrev zeros : List ℕ
  zeros = replicate (words_of n) 0

  abbrev one : List ℕ
  one = set zeros (n + 5 + 2) 1

  abbrev two : List ℕ
  two = set one (n + 5 + 4) 1

  abbrev three : List ℕ
  three = set two 2 1

  one_long : length one ≡ words_of n
  one_long = length-set zeros (n + 5 + 2) 1 ∙ length-replicate (words_of n) 0

  two_long : length two ≡ words_of n
  two_long = length-set one (n + 5 + 4) 1 ∙ one_long

  three_long : length three ≡ words_of n
  three_long = length-set two 2 1 ∙ two_long

  host_mask : get_or (opening n) 2 0 ≡ 1
  host_mask = get_or-set_other three 4 2 1 0 (λ e. omega arith) ∙ get_or-set_same two 2 1 0 (omega (arith, two_long))

  host_feature : get_or (opening n) 4 0 ≡ 1
  host_feature = get_or-set_same three 4 1 0 (omega (arith, three_long))

  guest_feature : get_or (opening n) (n + 5 + 4) 0 ≡ 1
  guest_feature = get_or-set_other three 4 (n + 5 + 4) 1 0 (λ e. omega arith) ∙ (get_or-set_other two 2 (n + 5 + 4) 1 0 (λ e. omega arith) ∙ get_or-set_same one (n + 5 + 4) 1 0 (omega (arith, one_long)))

  guest_mask : get_or (opening n) (n + 5 + 2) 0 ≡ 1
  guest_mask =
      get_or-set_other three 4 (n + 5 + 2) 1 0 (λ e. omega arith) ∙ (get_or-set_other two 2 (n + 5 + 2) 1 0 (λ e. omega arith)
      ∙ (get_or-set_other one (n + 5 + 4) (n + 5 + 2) 1 0 (λ e. omega arith) ∙ get_or-set_same zeros (n + 5 + 2) 1 0 (omega (arith, length-replicate {A = ℕ} (words_of n) 0))))

  zero_at : (i : ℕ) → i < words_of n → i ≢ 2 → i ≢ 4 → i ≢ n + 5 + 2 → i ≢ n + 5 + 4 → get_or (opening n) i 0 ≡ 0
  zero_at i = still n i

  down : (x : Side) → get_or (opening n) (signal_of n x) 0 < 2
  down Guest = let z = zero_at (n + n + 10) (omega arith) (λ e. omega arith) (λ e. omega arith) (λ e. omega arith) (λ e. omega arith) in omega (arith, z)
  down Host = let z = zero_at (n + n + 11) (omega arith) (λ e. omega arith) (λ e. omega arith) (λ e. omega arith) (λ e. omega arith) in omega (arith, z)

  new_words : (x : Side) → OwnWords n (opening n) x (machine_new x n)
  new_words Guest = record { mask = guest_mask; pending = zero_at 3 (omega arith) (λ e. omega arith) (λ e. omega arith) (λ e. omega arith) (λ e. omega arith); feature = host_feature; signal = down Guest }
  new_words Host = record { mask = host_mask; pending = zero_at (n + 5 + 3) (omega arith) (λ e. omega arith) (λ e. omega arith) (λ e. omega arith) (λ e. omega arith); feature = guest_feature; signal = down Host }

  new_own : (x : Side) → OwnPart n (opening n) x (end_at first_moment x)
  new_own Guest = record { goes = λ e. cc; point = new_point n Guest; committed = λ h. absurd (cc); words = new_words Guest }
  new_own Host = record { goes = λ e. cc; point = new_point n Host; committed = λ h. absurd (cc); words = new_words Host }

  new_wakes : (x : Side) → WakePending n (opening n) x (end_at first_moment x).machine (end_at first_moment (peer_of x)).machine
  new_wakes Guest = record { packets = λ h. absurd (cc); room = λ h. absurd (cc); mark = λ h. absurd (cc) }
  new_wakes Host = record { packets = λ h. absurd (cc); room = λ h. absurd (cc); mark = λ h. absurd (cc) }

  pub first_keeps : 512 ≤ n → n ≤ 16777216 → ChannelInvariant n (opening n) (end_at first_moment)
  first_keeps a b = record { channel = (new_channel n a b).channel; own = new_own; wakes = new_wakes }
