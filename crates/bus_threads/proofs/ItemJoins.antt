-- What each end of a channel got, in items, is a front of what the other one sent.
use Rattle.std.proofs.Common.{◌≡◌, ◌≢◌, ℕ, zero, suc, List, [], ◌∷◌, ◌++◌, length, length-append, map, refl, sym, ap, ◌∙◌, subst, arith, Option}
use Rattle.std.proofs.lemmas.List.{append-nil, length-map}
use Rattle.page_kept.specs.declared.item.Item.{Item}
use Rattle.page_kept.specs.Items.{item_of}
use Rattle.channel_trace.specs.Runs.{IsFront}
use Rattle.ring_core.specs.Seen.{Seen}
use Rattle.ring_core.specs.declared.told.Told.{Told}
use Rattle.bus_model.specs.Channel.{items_of}
use Rattle.worker_port.specs.Line.{GotItems, IsLine, whole}
use Rattle.worker_port.proofs.ItemRuns.{whole_is}

-- packets with their page words are the same things in both words for them
pub items_are : (ps : List (List ℕ)) (is : List Item) → items_of ps is ≡ whole ps is
items_are [] is = refl
items_are (p ∷ ps) [] = ap (λ (l : List Item). item_of p [] ∷ l) (items_are ps [])
items_are (p ∷ ps) (i ∷ is) = ap (λ (l : List Item). i ∷ l) (items_are ps is)

bare_append : (xs ys : List (List ℕ)) → whole (xs ++ ys) [] ≡ whole xs [] ++ whole ys []
bare_append [] ys = refl
bare_append (x ∷ xs) ys = ap (λ (l : List Item). item_of x [] ∷ l) (bare_append xs ys)

by_pages : {P : Type 0} (n : ℕ) → (n ≡ 0 → P) → (n ≢ 0 → P) → P
by_pages zero f g = f refl
by_pages (suc n) f g = g (λ e. omega (arith, e))

module _ {S : Type 0} (told : S → Option Told) where
  pub got_items : (mine other : Seen S) → IsLine told mine → IsLine told other → mine.state.pages.count ≡ other.state.pages.count → IsFront mine.state.got other.state.sent
      → (mine.state.pages.count ≢ 0 → IsFront mine.state.pages.got other.state.pages.sent) → GotItems mine.state other.state
  got_items mine other h k same lists items = by_pages mine.state.pages.count
      (λ bare.
      subst (λ (is : List Item). IsFront (whole mine.state.got is) (whole other.state.sent other.state.pages.sent)) (sym (h.pages.none bare).1)
      (subst (λ (is : List Item). IsFront (whole mine.state.got []) (whole other.state.sent is)) (sym (k.pages.none (sym same ∙ bare)).0)
      (whole lists.0 [], ap (λ (l : List (List ℕ)). whole l []) lists.1 ∙ bare_append mine.state.got lists.0)))
      (λ some.
      let got : whole mine.state.got mine.state.pages.got ≡ mine.state.pages.got = whole_is mine.state.got mine.state.pages.got (h.pages.items some).1 in
      let sent : whole other.state.sent other.state.pages.sent ≡ other.state.pages.sent = whole_is other.state.sent other.state.pages.sent (k.pages.items (λ z. some (same ∙ z))).0 in
      subst (λ (l : List Item). IsFront l (whole other.state.sent other.state.pages.sent)) (sym got) (subst (λ (l : List Item). IsFront mine.state.pages.got l) (sym sent) (items some)))

-- a front as long as all is all
none_by : {A : Type 0} (xs : List A) → length xs ≡ 0 → xs ≡ []
none_by [] e = refl
none_by (x ∷ xs) e = absurd (omega (arith, e))

pub front_all : {A B : Type 0} (f : A → B) (xs ys : List A) → IsFront xs ys → map f xs ≡ map f ys → xs ≡ ys
front_all {A} f xs ys front same =
    let long : length front.0 ≡ 0 = omega (arith, ap length same, length-map xs f, length-map ys f, ap length front.1, length-append xs front.0) in
    sym (front.1 ∙ (ap (λ (l : List A). xs ++ l) (none_by front.0 long) ∙ append-nil xs))
