-- Where the steps of a send and of a commit raise the peer's signal, by the words that the call found.
use Rattle.std.proofs.Common.{◌≡◌, ◌≢◌, ℕ, ◌+◌, ◌*◌, ◌/◌, ◌%◌, Bool, true, false, ◌&&◌, not, cond, eqb, leb, ltb, List, get_or, set, IfOk, refl, sym, ap, ◌∙◌, subst, arith}
use Rattle.std.proofs.lemmas.List.{get_or-set_other}
use Rattle.io_edge.specs.declared.side.Side.{Side}
use Rattle.ring_machine.specs.declared.machine.Stage.{Stage}
use Rattle.ring_machine.specs.declared.machine.Stage.TheVariants.{Idle, Stopped, SendRead, SendCell, SendWrite, SendMask, SendLook, SendRaise, CommitRead, CommitFeature, CommitPending, CommitWrite, CommitRaise}
use Rattle.ring_machine.specs.declared.machine.Ending.{Ending}
use Rattle.ring_machine.specs.declared.machine.Ending.TheVariants.{SentQuiet, SentRaised, Full, BadPeer, CommittedQuiet, CommittedRaised}
use Rattle.ring_machine.specs.declared.machine.EndMachine.{EndMachine}
use Rattle.ring_machine.specs.declared.place.Place.TheVariants.{Write, Read, Mask, Pending, Feature}
use Rattle.ring_machine.specs.Places.{in_of, out_of, peer_of, base_of, signal_of, low, is_index, cell_of, free, ahead, trailer, raises_on_commit}
use Rattle.ring_machine.specs.Steps.{next_of, makes_room}
use Rattle.ring_machine.specs.Endings.{commit_answer, send_answer}
use Rattle.ring_pair_laws.specs.Signals.{word_at, header, send_raises, commit_raises, words_given, words_committed, signalled}
use Rattle.ring_machine.proofs.Sound.{at_cond}
use Rattle.ring_pair_laws.proofs.Words.{base_most, behind}
use Rattle.ring_pair_laws.proofs.Knowing.{Next}

module _ (n : ℕ) (x : Side) (start read : ℕ) (found : List ℕ) where
  abbrev raises : Bool
  raises = commit_raises n found x start read

  -- the producer waits for room, and this commit makes it
  abbrev waits : Bool
  waits = not (eqb (header n found (Pending (in_of x))) 0)

  abbrev makes : Bool
  makes = is_index n (word_at n found (Write (in_of x))) && raises_on_commit (8 * n) (header n found (Write (in_of x))) (8 * start) (8 * read) (header n found (Pending (in_of x)))

  abbrev given : List ℕ
  given = words_given n found x read

  -- a commit that ended so
  abbrev Committed_by : Ending → List ℕ → Type 0
  Committed_by CommittedQuiet ws = (ws ≡ given) × (raises ≡ false)
  Committed_by CommittedRaised ws = (ws ≡ set given (signal_of n (peer_of x)) 1) × (raises ≡ true)
  Committed_by _ ws = ⊥

  -- what a commit knows at each of its steps
  abbrev Committing_at : Stage → EndMachine → List ℕ → Type 0
  Committing_at CommitRead m ws = (ws ≡ found) × (m.start ≡ start) × (m.read ≡ read)
  Committing_at CommitFeature m ws = (ws ≡ given) × (m.old ≡ start) × (m.read ≡ read)
  Committing_at CommitPending m ws = (ws ≡ given) × (m.old ≡ start) × (m.read ≡ read) × (raises ≡ (waits && makes))
  Committing_at CommitWrite m ws = (ws ≡ given) × (m.old ≡ start) × (m.read ≡ read) × (m.value ≡ header n found (Pending (in_of x))) × (raises ≡ makes)
  Committing_at CommitRaise m ws = (ws ≡ given) × (raises ≡ true)
  Committing_at Idle m ws = Committed_by m.ended ws
  Committing_at _ m ws = ⊥

  abbrev pub Committing : EndMachine → List ℕ → Type 0
  Committing m ws = Committing_at m.stage m ws

  -- how a commit ends
  pub commit_ends : (m : EndMachine) (ws : List ℕ) → m.stage ≡ Idle → Committing m ws → (commit_answer m.ended ≡ signalled raises) × (ws ≡ words_committed n found x read raises)
  commit_ends m ws idle k = by_ending m.ended (subst (λ (st : Stage). Committing_at st m ws) idle k)
    where
      by_ending : (how : Ending) → Committed_by how ws → (commit_answer how ≡ signalled raises) × (ws ≡ words_committed n found x read raises)
      by_ending CommittedQuiet k = (ap signalled (sym k.1), k.0 ∙ ap (words_committed n found x read) (sym k.1))
      by_ending CommittedRaised k = (ap signalled (sym k.1), k.0 ∙ ap (words_committed n found x read) (sym k.1))
      by_ending _ k = absurd k

-- each step of a commit
module _ (start read : ℕ) (found : List ℕ) (m : EndMachine) (q ws : List ℕ) where
  -- a word that a commit loads is the one that the call found
  loads : (at : ℕ) → ws ≡ words_given m.cells found m.side read → at ≢ base_of m.cells (in_of m.side) + 1 → get_or ws at 0 ≡ get_or found at 0
  loads at is ne = ap (λ (l : List ℕ). get_or l at 0) is ∙ get_or-set_other found (base_of m.cells (in_of m.side) + 1) at (8 * read) 0 ne

  pub commit_keeps : (st : Stage) → Committing m.cells m.side start read found (record m { stage = st }) ws → Next (Committing m.cells m.side start read found) (record m { stage = st }) ws (next_of (record m { stage = st }) q)
  commit_keeps CommitRead k = ((λ j. set (k.0 j) (base_of m.cells (in_of m.side) + 1) (8 * k.2 j)), k.1, k.2)
  commit_keeps CommitFeature k =
      let low_is : low (get_or ws (base_of m.cells (in_of m.side) + 4) 0) ≡ header m.cells found (Feature (in_of m.side)) = ap low (loads (base_of m.cells (in_of m.side) + 4) k.0 (λ i. omega arith)) in
      rw low_is (at_cond (λ (m' : EndMachine). Committing m.cells m.side start read found m' ws) (eqb (header m.cells found (Feature (in_of m.side)) % 2) 1) _ _ (λ t. (k.0, k.1, k.2, (rw t))) (λ t. (k.0, (rw t))))
  commit_keeps CommitPending k =
      let low_is : low (get_or ws (base_of m.cells (in_of m.side) + 3) 0) ≡ header m.cells found (Pending (in_of m.side)) = ap low (loads (base_of m.cells (in_of m.side) + 3) k.0 (λ i. omega arith)) in
      rw low_is (at_cond (λ (m' : EndMachine). Committing m.cells m.side start read found m' ws) (eqb (header m.cells found (Pending (in_of m.side))) 0) _ _ (λ t. (k.0, k.3 ∙ (rw t))) (λ t. (k.0, k.1, k.2, refl, k.3 ∙ (rw t))))
  commit_keeps CommitWrite k =
      let v : ℕ = get_or ws (base_of m.cells (in_of m.side)) 0 in
      let v_is : v ≡ word_at m.cells found (Write (in_of m.side)) = loads (base_of m.cells (in_of m.side)) k.0 (λ i. omega arith) in
      let test_is : makes_room m v ≡ makes m.cells m.side start read found = λ j. is_index m.cells (v_is j) && raises_on_commit (8 * m.cells) (low (v_is j)) (8 * k.1 j) (8 * k.2 j) (k.3 j) in
      at_cond (λ (m' : EndMachine). Committing m.cells m.side start read found m' ws) (makes_room m v) _ _ (λ t. (k.0, k.4 ∙ (sym test_is ∙ t))) (λ t. (k.0, k.4 ∙ (sym test_is ∙ t)))
  commit_keeps CommitRaise k = ((λ j. set (k.0 j) (signal_of m.cells (peer_of m.side)) 1), k.1)
  commit_keeps Idle k = tt
  commit_keeps _ k = absurd k

module _ (n : ℕ) (x : Side) (write : ℕ) (found : List ℕ) where
  abbrev sent_raises : Bool
  sent_raises = send_raises n found x write

  -- a send that ended so
  abbrev Sent_by : Ending → Type 0
  Sent_by SentQuiet = sent_raises ≡ false
  Sent_by SentRaised = sent_raises ≡ true
  Sent_by Full = Unit {0}
  Sent_by BadPeer = Unit {0}
  Sent_by _ = ⊥

  -- what a send knows at each of its steps
  abbrev Sending_at : Stage → EndMachine → Type 0
  Sending_at SendRead m = m.write ≡ write
  Sending_at SendCell m = m.write ≡ write
  Sending_at SendWrite m = m.write ≡ write
  Sending_at SendMask m = m.old ≡ write
  Sending_at SendLook m = (m.old ≡ write) × (eqb (header n found (Mask (out_of x))) 0 ≡ true)
  Sending_at SendRaise m = sent_raises ≡ true
  Sending_at Idle m = Sent_by m.ended
  Sending_at Stopped m = Sent_by m.ended
  Sending_at _ m = ⊥

  -- the words of mask and read are those that the call found
  pub record Sending (m : EndMachine) (ws : List ℕ) : Type 0 where
    pub mask : get_or ws (base_of n (out_of x) + 2) 0 ≡ get_or found (base_of n (out_of x) + 2) 0
    pub read : get_or ws (base_of n (out_of x) + 1) 0 ≡ get_or found (base_of n (out_of x) + 1) 0
    pub at : Sending_at m.stage m

  -- a store elsewhere
  stored : {m m' : EndMachine} {ws : List ℕ} → Sending m ws → (i v : ℕ) → base_of n (out_of x) + 2 ≢ i → base_of n (out_of x) + 1 ≢ i → Sending_at m'.stage m' → Sending m' (set ws i v)
  stored k i v a b at = record { mask = get_or-set_other _ i (base_of n (out_of x) + 2) v 0 a ∙ k.mask; read = get_or-set_other _ i (base_of n (out_of x) + 1) v 0 b ∙ k.read; at = at }

  -- how a send ends
  pub send_ends : (m : EndMachine) (ws : List ℕ) → m.stage ≡ Idle → Sending m ws → IfOk (send_answer m.ended m) (λ r. r ≡ signalled sent_raises)
  send_ends m ws idle k = by_ending m.ended (subst (λ (st : Stage). Sending_at st m) idle k.at)
    where
      by_ending : (how : Ending) → Sent_by how → IfOk (send_answer how m) (λ r. r ≡ signalled sent_raises)
      by_ending SentQuiet k = ap signalled (sym k)
      by_ending SentRaised k = ap signalled (sym k)
      by_ending Full k = tt
      by_ending BadPeer k = tt
      by_ending _ k = absurd k

-- each step of a send
module _ (write : ℕ) (found : List ℕ) (m : EndMachine) (q ws : List ℕ) where
  pub send_keeps : (st : Stage) → Sending m.cells m.side write found (record m { stage = st }) ws → Next (Sending m.cells m.side write found) (record m { stage = st }) ws (next_of (record m { stage = st }) q)
  send_keeps SendRead k =
      let v : ℕ = get_or ws (base_of m.cells (out_of m.side) + 1) 0 in
      at_cond (λ (m' : EndMachine). Sending m.cells m.side write found m' ws) (is_index m.cells v) _ _
      (λ t. at_cond (λ (m' : EndMachine). Sending m.cells m.side write found m' ws) (leb (free m.cells (cell_of v) m.write) (m.len + 1)) _ _ (λ u. record { mask = k.mask; read = k.read; at = tt }) (λ u. record { mask = k.mask; read = k.read; at = k.at }))
      (λ t. record { mask = k.mask; read = k.read; at = tt })
  send_keeps SendCell k =
      let i : ℕ = base_of m.cells (out_of m.side) + 5 + 8 * ahead m.cells m.write m.done / 8 in
      let w : ℕ = cond (ltb m.done m.len) (get_or q m.done 0) (trailer m.write) in
      at_cond (λ (m' : EndMachine). Sending m.cells m.side write found m' (set ws i w)) (ltb m.done m.len) _ _
      (λ t. stored m.cells m.side write found k i _ (λ h. omega arith) (λ h. omega arith) k.at) (λ t. stored m.cells m.side write found k i _ (λ h. omega arith) (λ h. omega arith) k.at)
  send_keeps SendWrite k = stored m.cells m.side write found k _ _ (λ h. omega arith) (λ h. omega arith) k.at
  send_keeps SendMask k =
      rw k.mask (at_cond (λ (m' : EndMachine). Sending m.cells m.side write found m' ws) (eqb (header m.cells found (Mask (out_of m.side))) 0) _ _
      (λ t. record { mask = k.mask; read = k.read; at = (k.at, t) }) (λ t. record { mask = k.mask; read = k.read; at = rw t }))
  send_keeps SendLook k =
      rw (k.read, k.at.0) (at_cond (λ (m' : EndMachine). Sending m.cells m.side write found m' ws) (eqb (header m.cells found (Read (out_of m.side))) (8 * write)) _ _
      (λ t. record { mask = k.mask; read = k.read; at = λ j. k.at.1 j && t j }) (λ t. record { mask = k.mask; read = k.read; at = λ j. k.at.1 j && t j }))
  send_keeps SendRaise k =
      let far = behind m.cells (peer_of m.side) in
      let near = base_most m.cells (out_of m.side) in
      stored m.cells m.side write found k _ _ (λ h. omega arith) (λ h. omega arith) k.at
  send_keeps Idle k = tt
  send_keeps Stopped k = tt
  send_keeps _ k = absurd k.at
