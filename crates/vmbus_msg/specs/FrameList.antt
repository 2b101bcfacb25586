-- A list in an array of 28 places, with zeros after it.
use Rattle.std.specs.Prelude.{◌≡◌, ℕ, ◌-◌, ◌≤◌, List, ◌++◌, length, take, drop, replicate}
use Rattle.std.proofs.Common.{ap, sym, ◌∙◌, arith}
use Rattle.std.proofs.lemmas.List.{take-append-drop, length-take-le}
use Rattle.vmbus_msg.specs.declared.frames.Frames.TheInside.{Inside}

-- the numbers that are there
abbrev pub list_in : Inside → List ℕ
list_in f = take f.len f.items

-- the list fits, and past it all is zero, so that the list gives the fields back
pub record Holds (f : Inside) : Type 0 where
  pub places : length f.items ≡ 28
  pub few : f.len ≤ 28
  pub zeros : drop f.len f.items ≡ replicate (28 - f.len) 0

-- the fields of a list
abbrev pub fields_of : List ℕ → Inside
fields_of xs = record { len = length xs; items = xs ++ replicate (28 - length xs) 0 }

with_fields : (m n : ℕ) (xs ys : List ℕ) → m ≡ n → xs ≡ ys → (let f : Inside = record { len = m; items = xs } in f) ≡ (let f : Inside = record { len = n; items = ys } in f)
with_fields m n xs ys e h = let F : ℕ → List ℕ → Inside = λ k zs. record { len = k; items = zs } in ap (λ k. F k xs) e ∙ ap (F n) h

-- a list gives its fields back
pub fields_again : (f : Inside) → Holds f → fields_of (list_in f) ≡ f
fields_again f h =
    let e : length (take f.len f.items) ≡ f.len = length-take-le f.len f.items (omega (arith, h.places, h.few)) in
    let z : replicate (28 - length (take f.len f.items)) 0 ≡ drop f.len f.items = ap (λ k. replicate (28 - k) 0) e ∙ sym h.zeros in
    with_fields (length (take f.len f.items)) f.len (take f.len f.items ++ replicate (28 - length (take f.len f.items)) 0) f.items e (ap (λ (ys : List ℕ). take f.len f.items ++ ys) z ∙ take-append-drop f.len f.items)
