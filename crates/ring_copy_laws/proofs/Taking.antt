-- The steps of a take, one after another: what they load, and what becomes of it.
use Rattle.std.proofs.Common.{◌≡◌, ◌⊎◌, ℕ, suc, ◌+◌, ◌<◌, ◌≤◌, ◌==◌, ◌&&◌, true, false, leb, ltb, List, [], ◌∷◌, ◌++◌, length, reverse, Some, refl, sym, ap, ◌∙◌, subst, inl, inr, arith, length-append}
use Rattle.std.proofs.lemmas.Bool.Decides.{nat_tests}
use Rattle.std.proofs.lemmas.List.{length-reverse, reverse-append}
use Rattle.ring_machine.specs.declared.machine.EndMachine.{EndMachine}
use Rattle.ring_machine.specs.declared.machine.Stage.TheVariants.{TakeCell, TakeFirst}
use Rattle.ring_machine.specs.declared.place.Op.TheVariants.{Load}
use Rattle.ring_machine.specs.declared.state.EndState.{EndState}
use Rattle.ring_machine.specs.Places.{cell_of, is_index, len8_of, offset8_of, used}
use Rattle.ring_machine.specs.States.{IsPacket, afters, copied_after, copied_at, entered, got_after}
use Rattle.ring_machine.specs.Steps.{fed, is_busy_at, next_of, take_begun}
use Rattle.ring_machine.proofs.Sound.{at_both, at_cond}
use Rattle.ring_core.specs.Told.{AreSteps}
use Rattle.ring_copy_laws.specs.Copies.{AreLoaded, place_at}

-- what a take sees of an end's state
pub record Spot : Type 0 where
  pub machine : EndMachine
  pub copied : List ℕ
  pub got : List (List ℕ)

abbrev spot : EndMachine → List ℕ → List (List ℕ) → Spot
spot m xs g = record { machine = m; copied = xs; got = g }

abbrev pub spot_of : EndState → Spot
spot_of s = record { machine = s.machine; copied = s.copied; got = s.got }

abbrev next : Spot → ℕ → Spot
next x v = record { machine = fed x.machine v; copied = copied_after x.machine.stage (fed x.machine v) x.copied v; got = got_after x.machine.stage x.machine x.got x.copied v }

module _ (u : EndState) where
  abbrev at_first : ℕ → EndMachine
  at_first i = record u.machine { stage = TakeFirst; len = 0; seen = cell_of i; done = 0 }

  abbrev at_cell : ℕ → ℕ → ℕ → EndMachine
  at_cell i len n = record u.machine { stage = TakeCell; len = len; seen = cell_of i; done = n }

  -- the first word of a packet that may be taken, where the write index was this
  record IsHead (i w : ℕ) : Type 0 where
    two : 1 < len8_of w
    fits : len8_of w + 1 ≤ used u.machine.cells u.machine.read (cell_of i)
    offset : (2 ≤ offset8_of w) × (offset8_of w ≤ len8_of w)

  -- no step was made
  record Fresh (x : Spot) (vs : List ℕ) : Type 0 where
    copied : List ℕ
    is : x ≡ spot (take_begun u.machine) copied u.got
    all : vs ≡ []

  -- the write index was loaded
  record First (x : Spot) (vs : List ℕ) : Type 0 where
    index : ℕ
    is : x ≡ spot (at_first index) [] u.got
    all : vs ≡ index ∷ []

  -- and some words behind it, with more to come
  record Cells (x : Spot) (vs : List ℕ) : Type 0 where
    index : ℕ
    word : ℕ
    words : List ℕ
    is : x ≡ spot (at_cell index (len8_of word) (length (word ∷ words))) (word ∷ words) u.got
    all : vs ≡ reverse (word ∷ words) ++ index ∷ []
    head : IsHead index word
    more : length (word ∷ words) < len8_of word

  -- a packet was taken
  pub record Took (x : Spot) (vs : List ℕ) : Type 0 where
    pub index : ℕ
    pub words : List ℕ
    pub got : x.got ≡ u.got ++ words ∷ []
    pub all : vs ≡ reverse words ++ index ∷ []
    pub packet : IsPacket words
    pub fits : length words + 1 ≤ used u.machine.cells u.machine.read (cell_of index)

  -- the take is over
  pub record Over (x : Spot) (vs : List ℕ) : Type 0 where
    pub rests : is_busy_at x.machine.stage ≡ false
    pub took : (x.got ≡ u.got) ⊎ Took x vs

  abbrev Taking : Spot → List ℕ → Type 0
  Taking x vs = Fresh x vs ⊎ (First x vs ⊎ (Cells x vs ⊎ Over x vs))

  over : (x : Spot) (vs : List ℕ) → is_busy_at x.machine.stage ≡ false → x.got ≡ u.got → Taking x vs
  over x vs rests got = inr (inr (inr (record { rests = rests; took = inl got })))

  -- the first step: the write index is none, or leaves nothing, or some words
  fresh_step : (xs : List ℕ) (v : ℕ) → Taking (next (spot (take_begun u.machine) xs u.got) v) (v ∷ [])
  fresh_step xs v =
      let P : EndMachine → Type 0 = λ m. Taking (spot m [] u.got) (v ∷ []) in
      at_cond P (is_index u.machine.cells v) _ _
      (λ _. at_cond P (cell_of v == u.machine.read) _ _ (λ _. over _ _ refl refl) (λ _. inr (inl (record { index = v; is = refl; all = refl }))))
      (λ _. over _ _ refl refl)

  -- the second one: the first word is that of a packet that fits, or breaks a rule
  first_step : (i v : ℕ) → Taking (next (spot (at_first i) [] u.got) v) (v ∷ i ∷ [])
  first_step i v =
      let P : EndMachine → Type 0 = λ m. Taking (spot m (copied_at m.stage (v ∷ [])) u.got) (v ∷ i ∷ []) in
      let n : ℕ = used u.machine.cells u.machine.read (cell_of i) in
      at_cond P (leb 2 (len8_of v) && ltb (len8_of v) n) _ _
      (λ a. at_cond P (leb 2 (offset8_of v) && leb (offset8_of v) (len8_of v)) _ _
      (λ b. inr (inr (inl (record { index = i; word = v; words = []; is = refl; all = refl; head = record { two = grind (arith, nat_tests, a); fits = grind (arith, nat_tests, a); offset = (grind (arith, nat_tests, b), grind (arith, nat_tests, b)) }; more = grind (arith, nat_tests, a) }))))
      (λ _. over _ _ refl refl))
      (λ _. over _ _ refl refl)

  -- the words that were loaded are a packet
  is_packet : (i w : ℕ) (ws : List ℕ) → IsHead i w → length (w ∷ ws) ≡ len8_of w → IsPacket (w ∷ ws)
  is_packet i w ws h e = record { two = omega (arith, e, h.two); length_is = sym e; offset = (h.offset.0, omega (arith, e, h.offset.1)) }

  -- each later one: one word more, or the last one
  cells_step : (i w : ℕ) (ws : List ℕ) (v : ℕ) (vs : List ℕ) → IsHead i w → length (w ∷ ws) < len8_of w → vs ≡ reverse (w ∷ ws) ++ i ∷ []
      → Taking (next (spot (at_cell i (len8_of w) (length (w ∷ ws))) (w ∷ ws) u.got) v) (v ∷ vs)
  cells_step i w ws v vs head more all =
      let P : EndMachine → List (List ℕ) → Type 0 = λ m g. Taking (spot m (copied_at m.stage (w ∷ (ws ++ v ∷ []))) g) (v ∷ vs) in
      let size : length (w ∷ ws) + 1 ≡ length (w ∷ (ws ++ v ∷ [])) = omega (arith, length-append ws (v ∷ [])) in
      let all' : v ∷ vs ≡ reverse (w ∷ (ws ++ v ∷ [])) ++ i ∷ [] = ap (λ (l : List ℕ). v ∷ l) all ∙ ap (λ (l : List ℕ). l ++ i ∷ []) (sym (reverse-append (w ∷ ws) (v ∷ []))) in
      at_both P (ltb (length (w ∷ ws) + 1) (len8_of w)) _ _ _ _
      (λ t.
      let lt : length (w ∷ ws) + 1 < len8_of w = grind (arith, nat_tests, t) in
      inr (inr (inl (record {
        index = i;
        word = w;
        words = ws ++ v ∷ [];
        is = ap (λ (n : ℕ). spot (at_cell i (len8_of w) n) (w ∷ (ws ++ v ∷ [])) u.got) size;
        all = all';
        head = head;
        more = omega (arith, lt, size);
      }))))
      (λ f.
      let le : len8_of w ≤ length (w ∷ ws) + 1 = grind (arith, nat_tests, f) in
      let whole : length (w ∷ (ws ++ v ∷ [])) ≡ len8_of w = omega (arith, le, more, size) in
      inr (inr (inr (record {
        rests = refl;
        took = inr (record { index = i; words = w ∷ (ws ++ v ∷ []); got = refl; all = all'; packet = is_packet i w (ws ++ v ∷ []) head whole; fits = omega (arith, whole, head.fits) });
      }))))

  -- a step of a take
  goes : (x : Spot) (vs : List ℕ) (v : ℕ) → Taking x vs → is_busy_at x.machine.stage ≡ true → Taking (next x v) (v ∷ vs)
  goes x vs v (inl f) busy = subst (λ (y : Spot × List ℕ). Taking (next y.0 v) (v ∷ y.1)) (λ i. (sym f.is i, sym f.all i)) (fresh_step f.copied v)
  goes x vs v (inr (inl f)) busy = subst (λ (y : Spot × List ℕ). Taking (next y.0 v) (v ∷ y.1)) (λ i. (sym f.is i, sym f.all i)) (first_step f.index v)
  goes x vs v (inr (inr (inl f))) busy = subst (λ (y : Spot). Taking (next y v) (v ∷ vs)) (sym f.is) (cells_step f.index f.word f.words v vs f.head f.more f.all)
  goes x vs v (inr (inr (inr f))) busy = absurd (let z : false ≡ true = sym f.rests ∙ busy in cc)

  -- and what it loads
  names : (x : Spot) (vs : List ℕ) → Taking x vs → is_busy_at x.machine.stage ≡ true → next_of x.machine [] ≡ Some (Load (place_at u.machine (length vs)))
  names x vs (inl f) busy = ap (λ (y : Spot). next_of y.machine []) f.is ∙ ap (λ (l : List ℕ). Some (Load (place_at u.machine (length l)))) (sym f.all)
  names x vs (inr (inl f)) busy = ap (λ (y : Spot). next_of y.machine []) f.is ∙ ap (λ (l : List ℕ). Some (Load (place_at u.machine (length l)))) (sym f.all)
  names x vs (inr (inr (inl f))) busy =
      let long : suc (suc (length f.words)) ≡ length vs = omega (arith, ap length f.all, length-append (reverse (f.word ∷ f.words)) (f.index ∷ []), length-reverse (f.word ∷ f.words)) in
      ap (λ (y : Spot). next_of y.machine []) f.is ∙ ap (λ (n : ℕ). Some (Load (place_at u.machine n))) long
  names x vs (inr (inr (inr f))) busy = absurd (let z : false ≡ true = sym f.rests ∙ busy in cc)

  abbrev pub first_state : EndState
  first_state = entered u (take_begun u.machine) []

  steps : (vs : List ℕ) → AreSteps first_state vs → Taking (spot_of (afters first_state vs)) vs × AreLoaded u.machine first_state vs
  steps [] h = (inl (record { copied = u.copied; is = refl; all = refl }), tt)
  steps (v ∷ vs) h =
      let it = steps vs h.1 in
      (goes (spot_of (afters first_state vs)) vs v it.0 h.0, (names (spot_of (afters first_state vs)) vs it.0 h.0, it.1))

  -- a take that is over took a packet, or none
  pub taken : (vs : List ℕ) → AreSteps first_state vs → is_busy_at (afters first_state vs).machine.stage ≡ false
      → (((afters first_state vs).got ≡ u.got) ⊎ Took (spot_of (afters first_state vs)) vs) × AreLoaded u.machine first_state vs
  taken vs h rests = let it = steps vs h in (by it.0, it.1)
    where
      ends : (y : Spot) → spot_of (afters first_state vs) ≡ y → is_busy_at y.machine.stage ≡ true → ⊥
      ends y is busy = let z : is_busy_at y.machine.stage ≡ false = ap (λ (k : Spot). is_busy_at k.machine.stage) (sym is) ∙ rests in cc

      by : Taking (spot_of (afters first_state vs)) vs → ((afters first_state vs).got ≡ u.got) ⊎ Took (spot_of (afters first_state vs)) vs
      by (inl f) = absurd (ends _ f.is refl)
      by (inr (inl f)) = absurd (ends _ f.is refl)
      by (inr (inr (inl f))) = absurd (ends _ f.is refl)
      by (inr (inr (inr f))) = f.took
