-- Each step is allowed at open memory, and stands in the table.
use Rattle.std.proofs.Common.{◌≡◌, ℕ, ◌+◌, ◌*◌, ◌<◌, ◌≤◌, Bool, true, false, List, [], ◌∷◌, Option, Some, refl, sym, ap, ◌∙◌, subst, arith}
use mathlib.Core.Option.{none}
use Rattle.atomic_table.specs.Table.{State, Me, step, keeps, Allows, Splits}
use Rattle.page_kept.specs.declared.page_call.PageCall.{PageCall}
use Rattle.page_kept.specs.declared.page_call.PageCall.TheVariants.{Off, StoreWord, LoadWords}
use Rattle.ring_machine.specs.declared.machine.EndMachine.{EndMachine}
use Rattle.ring_machine.specs.declared.page_core.PageCore.{PageCore}
use Rattle.ring_machine.specs.declared.place.Place.{Place}
use Rattle.ring_machine.specs.declared.place.Place.TheVariants.{Write, Read, Mask, Pending, Feature, Cell, Signal, Mark, Page}
use Rattle.ring_machine.specs.declared.place.Ring.TheVariants.{ToHost, ToGuest}
use Rattle.io_edge.specs.declared.side.Side.TheVariants.{Guest, Host}
use Rattle.ring_machine.specs.declared.place.Op.{Op}
use Rattle.ring_machine.specs.PageCalls.{PagesFit, is_call_of, is_paging, is_under_way, page_op, next_in}
use Rattle.ring_machine.specs.Places.{IsPlaceOf, index_of, words_of}
use Rattle.ring_machine.specs.Steps.{IsSound, next_of, is_busy_at}
use Rattle.ring_machine.proofs.Fitting.{inside_store, inside_load}
use Rattle.ring_core.proofs.Performed.{page_next}
use Rattle.ring_seat.specs.Seats.{IsOp, word_at, stored_by}
use Rattle.ring_seat.proofs.Allowed.{becomes, answers, paging_of}
use Rattle.ring_seat.proofs.Known.{the_op}
use Rattle.ring_seat.proofs.Places.{word_small, page_small}
use Rattle.hostile_memory.specs.Open.{Making, IsNamed, IsHeard, heard_in}
use Rattle.hostile_memory.specs.declared.rule.OpenView.{OpenView}
use Rattle.hostile_memory.specs.declared.rule.OpenView.TheVariants.{Hears}

-- each word may have any value at each moment
abbrev pub any_words : State (Unit {0}) OpenView → Type 0
any_words s = Unit {0}

-- each place of a channel of c data pages stands in its table
pub place_small : (n c words : ℕ) (p : Place) → IsPlaceOf n c p → words ≡ words_of n + 512 * c → index_of n p < words
place_small n c words (Write ToHost) h e = omega (arith, e)
place_small n c words (Write ToGuest) h e = omega (arith, e)
place_small n c words (Read ToHost) h e = omega (arith, e)
place_small n c words (Read ToGuest) h e = omega (arith, e)
place_small n c words (Mask ToHost) h e = omega (arith, e)
place_small n c words (Mask ToGuest) h e = omega (arith, e)
place_small n c words (Pending ToHost) h e = omega (arith, e)
place_small n c words (Pending ToGuest) h e = omega (arith, e)
place_small n c words (Feature ToHost) h e = omega (arith, e)
place_small n c words (Feature ToGuest) h e = omega (arith, e)
place_small n c words (Cell ToHost at) h e = omega (arith, e, h.1)
place_small n c words (Cell ToGuest at) h e = omega (arith, e, h.1)
place_small n c words (Signal Guest) h e = omega (arith, e)
place_small n c words (Signal Host) h e = omega (arith, e)
place_small n c words (Mark Guest) h e = omega (arith, e)
place_small n c words (Mark Host) h e = omega (arith, e)
place_small n c words (Page q w) h e = omega (arith, e, h.0, h.1)

page_word : (n c : ℕ) (d : PageCall) (op : Op) → is_call_of c d ≡ true → page_op d ≡ Some op → word_at n op < words_of n + 512 * c
page_word n c Off op h e = absurd (cc)
page_word n c (StoreWord q w v) op h e = let z = inside_store c q w v h in subst (λ (o : Op). word_at n o < words_of n + 512 * c) (ap the_op e) (page_small n c q w z.0 z.1)
page_word n c (LoadWords q m j) op h e = let z = inside_load c q m j h in subst (λ (o : Op). word_at n o < words_of n + 512 * c) (ap the_op e) (page_small n c q j z.0 (omega (arith, z.1, z.2)))

-- the word of each step stands in the table
op_small : (words : ℕ) (core : PageCore) (m : EndMachine) (p : List ℕ) (op : Op) → IsSound m → PagesFit core m.stage → is_under_way m.stage core.call ≡ true → words_of m.cells ≤ words
    → (is_paging core.call ≡ true → words ≡ words_of m.cells + 512 * core.count) → (is_busy_at m.stage ≡ true → next_of m p ≡ Some op) → next_in m core.call p ≡ Some op → word_at m.cells op < words
op_small words core m p op sound fit way sized pages ring named = by (is_busy_at m.stage) refl
  where
    by : (b : Bool) → is_busy_at m.stage ≡ b → word_at m.cells op < words
    by true e = let z = word_small m p op (word_at m.cells op) (words_of m.cells) sound (ring e) refl refl in omega (arith, z, sized)
    by false e =
        let all = pages (paging_of m.stage core.call way e) in
        let z = page_word m.cells core.count core.call op fit.call (sym (page_next m core.call p e) ∙ named) in
        omega (arith, z, all)

-- what a call on the table requires, which makes the step that the machine names
pub calls : {T : Type 0} {table board : T} (words slots id : ℕ) (me : Me (Unit {0}) OpenView) (base : Making) (core : PageCore) (m : EndMachine) (p : List ℕ) (op : Op) (i : ℕ) → table ≡ board → words_of m.cells ≤ words
    → (is_paging core.call ≡ true → words ≡ words_of m.cells + 512 * core.count) → me.1 ≡ [] → is_under_way m.stage core.call ≡ true → base ≡ record { machine = m; call = core.call; packet = p } → IsSound m → PagesFit core m.stage
    → (is_busy_at m.stage ≡ true → next_of m p ≡ Some op) → next_in m core.call p ≡ Some op → i ≡ word_at m.cells op
    → (table ≡ board) × (i < words) × Allows any_words slots id me i (becomes op) (λ f now. IsNamed base (step slots i (stored_by op) 0 none) × IsHeard (answers op f) me now)
calls words slots id me base core m p op i seated sized pages empty way is sound fit ring named at =
    (seated, (let z = op_small words core m p op sound fit way sized pages ring named in omega (arith, z, at)), allows)
  where
    k : Making
    k = record { machine = m; call = core.call; packet = p }

    named_step : IsNamed base (step slots i (stored_by op) 0 none)
    named_step = subst (λ (b : Making). IsNamed b (step slots i (stored_by op) 0 none)) (sym is) (subst (λ (o : Option Op). IsOp m.cells o (step slots i (stored_by op) 0 none)) (sym named) (at, refl))

    allows : Allows any_words slots id me i (becomes op) (λ f now. IsNamed base (step slots i (stored_by op) 0 none) × IsHeard (answers op f) me now)
    allows s it deep there small =
        let v = answers op (Rattle.std.specs.Prelude.slice_index s.words i) in
        (Hears (v ∷ heard_in me.0), keeps, tt, tt, (named_step, ap (λ (held : List (ℕ × Unit {0})). (Hears (v ∷ heard_in me.0), held)) empty))

-- a step of the hand leaves its view as it is
pub scribbles : (slots id i : ℕ) (me : Me (Unit {0}) OpenView) (f : ℕ → ℕ) → Allows any_words slots id me i f (λ v now. now ≡ me)
scribbles slots id i me f s it deep there small = (me.0, keeps, tt, tt, refl)

pub splits : (id : ℕ) (v left right : OpenView) → Splits any_words id v left right
splits id v left right s it at = tt
