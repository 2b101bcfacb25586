-- No lost wake-up is kept by each step of either end, and where a call begins.
use Rattle.std.proofs.Common.{rules, Option, None, ◌≡◌, ℕ, ◌*◌, ◌<◌, ◌≤◌, Bool, true, false, cond, List, get_or, Some, refl, sym, ap, ◌∙◌, subst, arith, add-zero}
use Rattle.io_edge.specs.declared.side.Side.{Side}
use Rattle.io_edge.specs.declared.side.Side.TheVariants.{Guest, Host}
use Rattle.ring_machine.specs.declared.machine.Stage.{Stage}
use Rattle.ring_machine.specs.declared.machine.Stage.TheVariants.{Idle, MarkRaise}
use Rattle.ring_machine.specs.declared.machine.EndMachine.{EndMachine}
use Rattle.ring_machine.specs.declared.state.EndState.{EndState}
use Rattle.ring_machine.specs.declared.place.Op.{Op}
use Rattle.ring_machine.specs.declared.place.Ring.{Ring}
use Rattle.ring_seat.proofs.PointLaws.{Opens}
use Rattle.ring_machine.specs.Places.{out_of, in_of, peer_of, base_of, signal_of, free, cell_of}
use Rattle.ring_machine.specs.Steps.{next_at, next_of}
use Rattle.ring_core.specs.Told.{answer_in}
use Rattle.ring_machine.specs.Loops.{is_given_at}
use Rattle.ring_pair_laws.specs.Ring.{ring_in}
use Rattle.ring_pair_laws.proofs.Turns.{cell_here}
use Rattle.ring_pair_laws.proofs.Keeping.{Both}
use Rattle.ring_seat.specs.Rule.{OwnWords}
use Rattle.ring_seat.specs.Waking.{is_sent_at, IsSendingFrom, IsGivingBack, WakePending}
use Rattle.ring_seat.proofs.OwnWakes.{Waking, KnownBy, shut_waking, or_yes, three, is_down}

-- the same channel from the peer's side
pub turned : (n : ℕ) (x : Side) (ws : List ℕ) (e p : EndState) → Both n x ws e p → Both n (peer_of x) ws p e
turned n Guest ws e p b = record { words = b.words; fits = b.peer_fits; peer_fits = b.fits; out = b.inn; inn = b.out; past = b.peers; peers = b.past; turns = b.turns; run = b.run; mine = b.others; others = b.mine }
turned n Host ws e p b = record { words = b.words; fits = b.peer_fits; peer_fits = b.fits; out = b.inn; inn = b.out; past = b.peers; peers = b.past; turns = b.turns; run = b.run; mine = b.others; others = b.mine }

in_peer : (x : Side) → in_of (peer_of x) ≡ out_of x
in_peer Guest = refl
in_peer Host = refl

out_peer : (x : Side) → out_of (peer_of x) ≡ in_of x
out_peer Guest = refl
out_peer Host = refl

-- what the next step of an end loads
module _ (ws : List ℕ) (e p : EndState) (b : Both e.machine.cells e.machine.side ws e p) (o : OwnWords e.machine.cells ws (peer_of e.machine.side) p.machine) where
  abbrev answer : Option Op → ℕ
  answer None = 0
  answer (Some op) = answer_in e.machine.cells op ws

  known_at : (st : Stage) (op : Op) → Some op ≡ next_at st e.machine e.packet → KnownBy st (get_or ws (signal_of e.machine.cells e.machine.side) 0) p.machine (answer_in e.machine.cells op ws)
  known_at Idle op h = tt
  known_at _ op h =
      let a = ap answer h in
      let mask = ap (λ (r : Ring). ring_in e.machine.cells ws r 2) (sym (in_peer e.machine.side)) ∙ o.mask in
      let pending = ap (λ (r : Ring). ring_in e.machine.cells ws r 3) (sym (out_peer e.machine.side)) ∙ o.pending in
      let feature = ap (λ (r : Ring). ring_in e.machine.cells ws r 4) (sym (out_peer e.machine.side)) ∙ o.feature in
      let write = ap (λ (k : ℕ). get_or ws k 0) (sym (add-zero (base_of e.machine.cells (in_of e.machine.side)))) ∙ b.inn.write_word in
      search rules

  pub known : (op : Op) → next_of e.machine e.packet ≡ Some op → KnownBy e.machine.stage (get_or ws (signal_of e.machine.cells e.machine.side) 0) p.machine (answer_in e.machine.cells op ws)
  known op h = known_at e.machine.stage op (sym h)

-- by the channel's words, and by both machines and the end's signal
module _ (n : ℕ) (x : Side) (ws : List ℕ) (e p : EndState) (b : Both n x ws e p) where
  cell : cell_of (ring_in n ws (out_of x) 1) ≡ p.machine.start
  cell =
      let small : p.machine.start < n = subst (λ (k : ℕ). p.machine.start < k) b.peer_fits.cells b.peer_fits.sound.start in
      let most : n ≤ 16777216 = subst (λ (k : ℕ). k ≤ 16777216) b.peer_fits.cells b.peer_fits.sound.cells.1 in
      ap cell_of b.out.read_word ∙ cell_here n p.machine.start most small

  cells : e.machine.cells ≡ n
  cells = b.fits.cells

  pub to_waking : WakePending n ws x e.machine p.machine → Waking (get_or ws (signal_of n x) 0) e.machine p.machine
  to_waking w = record {
    packets = λ h. three (λ a. let is : 8 * p.machine.write ≡ 8 * e.machine.read = sym b.inn.write_word ∙ a in omega arith) (λ c. c) (w.packets h);
    room = λ h wants. three (λ (a : 8 * free n (cell_of (ring_in n ws (out_of x) 1)) e.machine.write ≤ e.machine.want). subst (λ (k : ℕ × ℕ). 8 * free k.0 k.1 e.machine.write ≤ e.machine.want) (λ j. (sym cells j, cell j)) a)
        (λ (c : IsGivingBack p.machine n e.machine.write e.machine.want). subst (λ (k : ℕ). IsGivingBack p.machine k e.machine.write e.machine.want) (sym cells) c) (w.room h wants);
    mark = λ h. three (λ a. is_down _ (sym b.peers.word ∙ a)) (λ c. c) (w.mark h);
  }

  pub of_waking : Waking (get_or ws (signal_of n x) 0) e.machine p.machine → WakePending n ws x e.machine p.machine
  of_waking w = record {
    packets = λ h. three (λ (a : p.machine.write ≡ e.machine.read). b.inn.write_word ∙ ap (λ (k : ℕ). 8 * k) a) (λ c. c) (w.packets h);
    room = λ h wants. three (λ (a : 8 * free e.machine.cells p.machine.start e.machine.write ≤ e.machine.want). subst (λ (k : ℕ × ℕ). 8 * free k.0 k.1 e.machine.write ≤ e.machine.want) (λ j. (cells j, sym cell j)) a)
        (λ (c : IsGivingBack p.machine e.machine.cells e.machine.write e.machine.want). subst (λ (k : ℕ). IsGivingBack p.machine k e.machine.write e.machine.want) cells c) (w.room h wants);
    mark = λ h. three (λ a. b.peers.word ∙ ap (λ (k : Bool). cond k 1 0) a) (λ c. c) (w.mark h);
  }

-- where a call begins
module _ (e : EndState) (k : EndMachine) (q : List ℕ) (o : Opens e k q) where
  -- the end that begins it
  pub opens_own : (sig : ℕ) (p : EndMachine) → Waking sig e.machine p → Waking sig k p
  opens_own sig p w = by_sleep e.machine.asleep refl
    where
      by_sleep : (b : Bool) → e.machine.asleep ≡ b → Waking sig k p
      by_sleep true a = subst (λ (c : EndMachine). Waking sig c p) (sym (o.sleeps a)) (record { packets = λ h. w.packets (or_yes _ _ a); room = λ h. w.room (or_yes _ _ a); mark = λ h. w.mark h })
      by_sleep false a = shut_waking sig k p (record { stage = o.shut; awake = o.asleep ∙ a })

  -- its peer
  pub opens_peers : (sig : ℕ) (p : EndMachine) → Waking sig p e.machine → Waking sig p k
  opens_peers sig p w = record {
    packets = λ h. three (λ a. o.write ∙ a) (λ (c : IsSendingFrom e.machine p.read). absurd (let never : is_sent_at e.machine.stage ≡ false = ap is_sent_at o.idle in let yes = c.past in cc)) (w.packets h);
    room = λ h wants. three (λ (a : 8 * free p.cells e.machine.start p.write ≤ p.want). subst (λ (c : ℕ). 8 * free p.cells c p.write ≤ p.want) (sym o.start) a)
        (λ (c : IsGivingBack e.machine p.cells p.write p.want). absurd (let never : is_given_at e.machine.stage ≡ false = ap is_given_at o.idle in let yes = c.past in cc)) (w.room h wants);
    mark = λ h. three (λ a. o.marks ∙ a) (λ (c : e.machine.stage ≡ MarkRaise). absurd (let two : Idle ≡ MarkRaise = sym o.idle ∙ c in cc)) (w.mark h);
  }
