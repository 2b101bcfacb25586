-- The pieces that a page list is cut into are in form.
use Rattle.std.proofs.Common.{◌≡◌, ◌∙◌, ℕ, ◌+◌, ◌*◌, min, List, ◌∷◌, length, take, refl, sym, ap, arith}
use Rattle.std.proofs.lemmas.List.{length-take}
use Rattle.vmbus_msg.specs.Pages.{pages_of, IsHeaderForm, IsBodyForm}

-- a header with the first 26 pages of a list of at least one
pub header_form : (page : ℕ) (pages : List ℕ) → IsHeaderForm (8 + 8 * length (page ∷ pages)) 1 (take 26 (page ∷ pages))
header_form page pages =
    let all : pages_of (8 + 8 * length (page ∷ pages)) ≡ length (page ∷ pages) = omega arith in
    (ap (λ k. 8 + 8 * k) (sym all), omega (arith, all), refl, length-take 26 (page ∷ pages) ∙ ap (λ k. min 26 k) (sym all))

-- a body with the first 28 frames that are left
pub body_form : (frame : ℕ) (frames : List ℕ) → IsBodyForm (take 28 (frame ∷ frames))
body_form frame frames = let count = length-take 28 (frame ∷ frames) in (omega (arith, count), omega (arith, count))
