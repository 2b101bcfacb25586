-- The outcomes of devices, channel by channel, as the code keeps them.
use Rattle.std.proofs.Common.{◌≡◌, ℕ, ◌<◌, List, [], ◌∷◌, ◌++◌, length, get_or, ap, sym, ◌∙◌, arith, slice_index_or, slice_set}
use Rattle.std.specs.Prelude.{map}
use Rattle.std.proofs.lemmas.List.{length-map, get_or-map, map-set}
use Rattle.bus_script.specs.declared.outcome.LineResult.{LineResult}

module _ {D : Type 0} (items : D → List (List LineResult)) where
  pub seen_at : (now : List (List (List LineResult))) (ds : List D) (k : ℕ) (d : D) → map items ds ≡ now → k < length now → d ≡ get_or ds k d → slice_index_or now k [] ≡ items d
  seen_at now ds k d view less is =
      let within : k < length ds = omega (arith, less, ap length view, length-map ds items) in
      sym (ap (λ l. slice_index_or l k []) view) ∙ (get_or-map items ds k d [] within ∙ ap items (sym is))

  -- a device's have changed
  pub seen_set : (now : List (List (List LineResult))) (ds : List D) (k : ℕ) (new : D) → map items ds ≡ now → map items (slice_set ds k new) ≡ slice_set now k (items new)
  seen_set now ds k new view = map-set items ds k new ∙ ap (λ l. slice_set l k (items new)) view

  pub seen_pushed : (now : List (List (List LineResult))) (ds : List D) (k : ℕ) (d new : D) (ch : List LineResult) → map items ds ≡ now → k < length now → d ≡ get_or ds k d → items new ≡ items d ++ ch ∷ []
      → map items (slice_set ds k new) ≡ slice_set now k (slice_index_or now k [] ++ ch ∷ [])
  seen_pushed now ds k d new ch view less is grown =
      let here : items new ≡ slice_index_or now k [] ++ ch ∷ [] = grown ∙ ap (λ l. l ++ ch ∷ []) (sym (seen_at now ds k d view less is)) in
      seen_set now ds k new view ∙ ap (slice_set now k) here
