-- The messages of a page list are those that it is cut into.
use Rattle.std.proofs.Common.{◌≡◌, ℕ, zero, suc, ◌+◌, ◌≤◌, List, [], ◌∷◌, length, take, drop, refl, ap, length-drop, arith}
use Rattle.vmbus_msg.specs.declared.msg.Msg.{Msg}
use Rattle.vmbus_msg.specs.declared.msg.Msg.TheVariants.{GpadlHeader, GpadlBody}
use Rattle.vmbus_msg.proofs.PartLaws.{same_parts}
use Rattle.vmbus_msg.proofs.Forms.{body_form}
use Rattle.gpadl.specs.Cut.{IsHeaderOf, IsBodyOf, AreBodiesOf, bodies, header, CutsSo, CutsWell}

-- a body that says so is the one that the cut has
pub body_is : (handle number frame : ℕ) (frames : List ℕ) (m : Msg) → IsBodyOf handle number (take 28 (frame ∷ frames)) m
    → m ≡ GpadlBody (record { padding = 0; msgnumber = number; gpadl = handle; frames = take 28 (frame ∷ frames); in_form = body_form frame frames })
body_is handle number frame frames (GpadlBody b) is =
    let e0 = is.0 in let e1 = is.1 in let e2 = is.2 in
    same_parts (GpadlBody b) (GpadlBody (record { padding = 0; msgnumber = number; gpadl = handle; frames = take 28 (frame ∷ frames); in_form = body_form frame frames })) refl (rw (e0, e1, e2) refl) is.3
body_is handle number frame frames _ is = absurd is

-- a header likewise
pub header_is : (relid handle page : ℕ) (pages : List ℕ) (m : Msg) → IsHeaderOf relid handle (page ∷ pages) m → m ≡ header relid handle page pages
header_is relid handle page pages (GpadlHeader h) is =
    let e0 = is.0 in let e1 = is.1 in let e2 = is.2 in let e3 = is.3 in let e4 = is.4 in let e5 = is.5 in let e6 = is.6 in
    same_parts (GpadlHeader h) (header relid handle page pages) refl (rw (e0, e1, e2, e3, e4, e5, e6) refl) is.7
header_is relid handle page pages _ is = absurd is

-- a body has a frame, so none comes where no frame is left
no_body : (handle number : ℕ) (m : Msg) → IsBodyOf handle number [] m → ⊥
no_body handle number (GpadlBody b) is = let form = b.in_form.0 in let none = ap length is.3 in omega (arith, form, none)
no_body handle number _ is = absurd is

bodies_are : (most handle number : ℕ) (frames : List ℕ) (ms : List Msg) → length frames ≤ most → AreBodiesOf handle number frames ms → ms ≡ bodies most handle number frames
bodies_are zero handle number [] [] few are = refl
bodies_are zero handle number [] (m ∷ ms) few are = absurd (no_body handle number m are.0)
bodies_are zero handle number (frame ∷ frames) ms few are = absurd (omega (arith, few))
bodies_are (suc most) handle number [] [] few are = refl
bodies_are (suc most) handle number [] (m ∷ ms) few are = absurd (no_body handle number m are.0)
bodies_are (suc most) handle number (frame ∷ frames) [] few are = absurd (let none = ap length are in omega (arith, none))
bodies_are (suc most) handle number (frame ∷ frames) (m ∷ ms) few are =
    let less = length-drop 28 (frame ∷ frames) in
    let rest = bodies_are most handle (number + 1) (drop 28 (frame ∷ frames)) ms (omega (arith, less, few)) are.1 in
    let here = body_is handle number frame frames m are.0 in
    (λ i. here i ∷ rest i)

pub cuts_so : CutsSo
cuts_so relid handle pages [] are = absurd are
cuts_so relid handle [] (m ∷ ms) are = absurd (no_header relid handle m are.0)
  where
    no_header : (relid handle : ℕ) (m : Msg) → IsHeaderOf relid handle [] m → ⊥
    no_header relid handle (GpadlHeader h) is = let form = h.in_form.1 in let length_is = is.3 in omega (arith, form, length_is)
    no_header relid handle _ is = absurd is
cuts_so relid handle (page ∷ pages) (m ∷ ms) are =
    let here = header_is relid handle page pages m are.0 in
    let less = length-drop 26 (page ∷ pages) in
    let rest = bodies_are (length pages) handle 0 (drop 26 (page ∷ pages)) ms (omega (arith, less)) are.1 in
    (λ i. here i ∷ rest i)

are_bodies : (most handle number : ℕ) (frames : List ℕ) → length frames ≤ most → AreBodiesOf handle number frames (bodies most handle number frames)
are_bodies zero handle number [] few = refl
are_bodies zero handle number (frame ∷ frames) few = absurd (omega (arith, few))
are_bodies (suc most) handle number [] few = refl
are_bodies (suc most) handle number (frame ∷ frames) few =
    let less = length-drop 28 (frame ∷ frames) in
    ((refl, refl, refl, refl), are_bodies most handle (number + 1) (drop 28 (frame ∷ frames)) (omega (arith, less, few)))

pub cuts_well : CutsWell
cuts_well relid handle [] some = absurd (omega (arith, some))
cuts_well relid handle (page ∷ pages) some =
    let less = length-drop 26 (page ∷ pages) in
    ((refl, refl, refl, refl, refl, refl, refl, refl), are_bodies (length pages) handle 0 (drop 26 (page ∷ pages)) (omega (arith, less)))
