-- What follows of a kind of device from what it keeps to.
use Rattle.std.proofs.Common.{◌≡◌, ℕ, zero, suc, ◌+◌, ◌-◌, ◌<◌, ◌≤◌, Bool, true, false, List, [], ◌∷◌, ◌++◌, length, length-append, Option, Some, None, slice_get, cond, refl, sym, ap, subst, ◌∙◌, arith}
use Rattle.std.specs.Prelude.{map, filter, is_some}
use Rattle.std.specs.List.{AllByRecursion}
use Rattle.std.proofs.lemmas.List.{length-map}
use Rattle.page_kept.specs.declared.item.Item.{Item}
use Rattle.channel_model.specs.Amounts.{HasNoMessages, MayHaveMessages}
use Rattle.channel_model.specs.WireFormat.{WireFormat, Back, under_own}
use Rattle.channel_model.specs.Channel.{AllFixed, AllAsk}
use Rattle.channel_protocol.specs.Listed.{has_message_in, message_in}
use Rattle.device_wire.specs.declared.buffer_lists.BufferLists.{BufferLists}
use Rattle.device_wire.specs.declared.want.Want.{Want}
use Rattle.device_wire.specs.declared.want.Want.TheVariants.{Step, Request}
use Rattle.device_wire.specs.WireModels.{WireModel, KeepsWire, startup_in}
use Rattle.device_wire.specs.EndScripts.{EndScript, asks_in}

by_test : {P : Type 0} (b : Bool) → (b ≡ true → P) → (b ≡ false → P) → P
by_test true f g = f refl
by_test false f g = g refl

-- of no messages

none_in_back : {P : Type 0} (o : Option (Back P)) → ((b : Back P) → o ≡ Some b → b.message ≡ None) → has_message_in o ≡ false
none_in_back None none = refl
none_in_back (Some b) none = ap is_some (none b refl)

none_for : {P : Type 0} (own : ℕ) (o : Option (Back P)) → ((b : Back P) → o ≡ Some b → b.message ≡ None) → message_in own o ≡ None
none_for own None none = refl
none_for own (Some b) none = ap (under_own own) (none b refl)

-- of lists

front_at : {S Q : Type 0} (ss : List S) (rest : List (Want S Q)) (k : ℕ) (step : S) (a : Want S Q) → slice_get ss k ≡ Some step → slice_get (map Step ss ++ rest) k ≡ Some a → a ≡ Step step
front_at [] rest k step a is h = cc
front_at {S} {Q} (x ∷ ss) rest zero step a is h =
    let same : x ≡ step = cc in
    let first : Want S Q = Step x in
    let at : first ≡ a = cc in sym at ∙ ap Step same
front_at (x ∷ ss) rest (suc k) step a is h = front_at ss rest k step a is h

pub behind : {A : Type 0} (xs ys : List A) (j : ℕ) → slice_get (xs ++ ys) (length xs + j) ≡ slice_get ys j
behind {A} [] ys j = let e : length {A = A} [] + j ≡ j = omega arith in ap (slice_get ys) e
behind (x ∷ xs) ys j =
    let e : length (x ∷ xs) + j ≡ suc (length xs + j) = omega arith in
    ap (slice_get (x ∷ (xs ++ ys))) e ∙ behind xs ys j

pub found : {S Q : Type 0} (asks : List Q) (j : ℕ) (a : Want S Q) → slice_get {X = Want S Q} (map Request asks) j ≡ Some a → (q : Q) × (slice_get asks j ≡ Some q) × (a ≡ Request q)
found [] j a h = cc
found {S} {Q} (x ∷ asks) zero a h =
    let first : Want S Q = Request x in
    let same : first ≡ a = cc in (x, refl, sym same)
found (x ∷ asks) (suc j) a h = found asks j a h

pub all_at : {Q : Type 0} (P : Q → Type 0) (asks : List Q) (j : ℕ) (q : Q) → AllByRecursion P asks → slice_get asks j ≡ Some q → P q
all_at P [] j q all h = cc
all_at P (x ∷ asks) zero q all h = let same : x ≡ q = cc in subst P same all.0
all_at P (x ∷ asks) (suc j) q all h = all_at P asks j q all.1 h

-- the step at a place
step_there : {S : Type 0} (ss : List S) (k : ℕ) → k < length ss → (step : S) × (slice_get ss k ≡ Some step)
step_there [] k lt = absurd (omega arith)
step_there (x ∷ ss) zero lt = (x, refl)
step_there (x ∷ ss) (suc k) lt = step_there ss k (omega arith)

-- how many are so
abbrev pub ones : List Bool → ℕ
ones [] = 0
ones (b ∷ bs) = cond b (suc (ones bs)) (ones bs)

pub filter_ones : {S Q : Type 0} (f : Want S Q → Bool) (g : S → Bool) (ss : List S) → ((s : S) → f (Step s) ≡ g s) → length (filter f (map Step ss)) ≡ ones (map g ss)
filter_ones f g [] same = refl
filter_ones f g (s ∷ ss) same = by_test (g s)
    (λ is. let own = same s ∙ is in rw (own, is) (ap suc (filter_ones f g ss same)))
    (λ not. let own = same s ∙ not in rw (own, not) (filter_ones f g ss same))

module _ {S Q R : Type 0} (m : WireModel S Q R) where
  -- the start-up is part of what is asked, and each of its places is one of the first channel's steps
  pub starts_within : (sub subs : ℕ) (lists : BufferLists) (asks : List (Want S Q)) → length (startup_in m sub subs lists) ≤ length (startup_in m sub subs lists ++ asks)
  starts_within sub subs lists asks = omega (arith, length-append (startup_in m sub subs lists) asks)

  pub is_step : (sub subs : ℕ) (lists : BufferLists) (k : ℕ) → k < length (startup_in m sub subs lists) → k < length (m.steps subs lists)
  is_step zero subs lists k lt = let step : S → Want S Q = Step in omega (arith, lt, length-map (m.steps subs lists) step)
  is_step (suc n) subs lists k lt = absurd (omega arith)

  pub at_start : (sub subs : ℕ) (lists : BufferLists) (rest : List (Want S Q)) (k : ℕ) (a : Want S Q) → k < length (startup_in m sub subs lists) → slice_get (startup_in m sub subs lists ++ rest) k ≡ Some a
      → (step : S) × (slice_get (m.steps subs lists) k ≡ Some step) × (a ≡ Step step)
  at_start zero subs lists rest k a lt h =
      let there = step_there (m.steps subs lists) k (is_step zero subs lists k lt) in
      (there.0, there.1, front_at (m.steps subs lists) rest k there.0 a there.1 h)
  at_start (suc n) subs lists rest k a lt h = absurd (omega arith)

module _ {S Q R : Type 0} (m : WireModel S Q R) (Can : Q → Type 0) (kept : KeepsWire m Can) where
  -- where none are, no message goes back besides
  silent_at : (besides : Bool) → MayHaveMessages m.format besides → besides ≡ false → HasNoMessages m.format
  silent_at false none is = none
  silent_at true may is = cc

  pub no_messages : m.besides ≡ false → HasNoMessages m.format
  no_messages none = silent_at m.besides kept.may none

  pub none_fixed : (i : Item) → m.besides ≡ false → has_message_in (m.format.fixed i) ≡ false
  none_fixed i none = none_in_back (m.format.fixed i) ((no_messages none).fixed i)

  pub none_fixed_in : (own : ℕ) (i : Item) → m.besides ≡ false → message_in own (m.format.fixed i) ≡ None
  none_fixed_in own i none = none_for own (m.format.fixed i) ((no_messages none).fixed i)

  -- the start-up asks no device
  steps_fixed : (ss : List S) → AllFixed m.format (map Step ss)
  steps_fixed [] = tt
  steps_fixed (s ∷ ss) = (λ id. kept.fixed id s, steps_fixed ss)

  pub start_is_fixed : (sub subs : ℕ) (lists : BufferLists) → AllFixed m.format (startup_in m sub subs lists)
  start_is_fixed zero subs lists = steps_fixed (m.steps subs lists)
  start_is_fixed (suc n) subs lists = tt

  pub few_starts : (sub subs : ℕ) (lists : BufferLists) → length (startup_in m sub subs lists) ≤ 5
  few_starts zero subs lists = let step : S → Want S Q = Step in omega (arith, kept.few subs lists, length-map (m.steps subs lists) step)
  few_starts (suc n) subs lists = omega arith

  -- as many steps whatever page lists it tells, and as many that have answers
  pub same_starts : (sub subs : ℕ) (lists others : BufferLists) → length (startup_in m sub subs lists) ≡ length (startup_in m sub subs others)
  same_starts zero subs lists others =
      let step : S → Want S Q = Step in
      length-map (m.steps subs lists) step ∙ sym (length-map (m.steps subs lists) m.answered) ∙ (ap length (kept.same subs lists others) ∙ (length-map (m.steps subs others) m.answered ∙ sym (length-map (m.steps subs others) step)))
  same_starts (suc n) subs lists others = refl

  pub same_answers : (sub subs : ℕ) (lists others : BufferLists) → length (filter m.format.has_answer (startup_in m sub subs lists)) ≡ length (filter m.format.has_answer (startup_in m sub subs others))
  same_answers zero subs lists others =
      filter_ones m.format.has_answer m.answered (m.steps subs lists) kept.waits ∙ (ap ones (kept.same subs lists others) ∙ sym (filter_ones m.format.has_answer m.answered (m.steps subs others) kept.waits))
  same_answers (suc n) subs lists others = refl

  -- the script does, and has answers
  pub script_asks : (asks : List Q) → AllByRecursion Can asks → AllAsk m.format (map Request asks)
  script_asks [] all = tt
  script_asks (q ∷ asks) all = (λ id. (m.asked_as id q, kept.asked id q all.0), script_asks asks all.1)

  pub read_waits : (i : Item) (q : Q) → m.format.read i ≡ Some q → m.format.waits i ≡ true
  read_waits i q h = by_test (m.format.waits i) (λ is. is) (λ not. let none : m.format.read i ≡ None = kept.keeps.unread i not in cc)

  pub script_waits : (q : Q) → Can q → m.format.has_answer (Request q) ≡ true
  script_waits q can = sym (kept.keeps.waits_ask 0 (Request q)) ∙ read_waits (m.format.encode 0 (Request q)) (m.asked_as 0 q) (kept.asked 0 q can)
