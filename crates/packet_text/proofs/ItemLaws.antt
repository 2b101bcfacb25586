-- The packets of a list, each with its page words, place by place.
use Rattle.std.proofs.Common.{◌≡◌, ℕ, zero, suc, List, [], ◌∷◌, ◌++◌, ◌≤◌, append-nil, drop, length, refl, ap, sym, subst, ◌∙◌}
use Rattle.std.proofs.lemmas.List.{drop_all}
use Rattle.std.specs.List.{flat_map}
use Rattle.std.specs.Prelude.{Some, slice_get, slice_index_or}
use Rattle.page_kept.specs.declared.item.Item.{Item}
use Rattle.page_kept.specs.Items.{item_of}
use Rattle.ring_core.specs.Pages.{items_of as kept_items}
use Rattle.bus_model.specs.Channel.{items_of}

abbrev pub items : List (List ℕ) → List (List ℕ) → List Item
items ps ws = items_of ps (kept_items ps ws)

pub items_at : (ps ws : List (List ℕ)) (i : ℕ) (p : List ℕ) → slice_get ps i ≡ Some p → slice_get (items ps ws) i ≡ Some (item_of p (slice_index_or ws i []))
items_at [] ws i p is = absurd (cc)
items_at (q ∷ ps) [] zero p is = cc
items_at (q ∷ ps) (w ∷ ws) zero p is = cc
items_at (q ∷ ps) [] (suc i) p is = bare_at ps i p is
  where
    bare_at : (ps : List (List ℕ)) (i : ℕ) (p : List ℕ) → slice_get ps i ≡ Some p → slice_get (items_of ps []) i ≡ Some (item_of p [])
    bare_at [] i p is = absurd (cc)
    bare_at (q ∷ ps) zero p is = cc
    bare_at (q ∷ ps) (suc i) p is = bare_at ps i p is
items_at (q ∷ ps) (w ∷ ws) (suc i) p is = items_at ps ws i p is

items_long : (ps : List (List ℕ)) (is : List Item) → length (items_of ps is) ≡ length ps
items_long [] is = refl
items_long (p ∷ ps) [] = ap suc (items_long ps [])
items_long (p ∷ ps) (i ∷ is) = ap suc (items_long ps is)

-- behind the last place nothing is left
pub all_shown : {Y : Type 0} (f : Item → List Y) (ps ws : List (List ℕ)) (i : ℕ) (text all : List Y) → length ps ≤ i → text ++ flat_map f (drop i (items ps ws)) ≡ all → text ≡ all
all_shown {Y} f ps ws i text all past so_far =
    let long : length (items ps ws) ≤ i = subst (λ n. n ≤ i) (sym (items_long ps (kept_items ps ws))) past in
    sym (append-nil text) ∙ (ap (λ (l : List Item). text ++ flat_map f l) (sym (drop_all i (items ps ws) long)) ∙ so_far)
