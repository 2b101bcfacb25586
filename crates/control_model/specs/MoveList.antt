-- A list in an array of 16 places, with none after it.
use Rattle.std.specs.Prelude.{◌≡◌, ℕ, ◌-◌, ◌≤◌, List, ◌++◌, length, take, drop, replicate}
use Rattle.std.proofs.Common.{ap, sym, ◌∙◌, arith}
use Rattle.std.proofs.lemmas.List.{take-append-drop, length-take-le}
use Rattle.control_model.specs.declared.moves.Move.{Move}
use Rattle.control_model.specs.declared.moves.Moves.TheInside.{Inside}

-- none
abbrev pub no_move : Move
no_move = record { relid = 0; vp = 0 }

-- the channels that are there
abbrev pub list_in : Inside → List Move
list_in f = take f.len f.items

-- the list fits, and past it there is none, so that the list gives the fields back
pub record Holds (f : Inside) : Type 0 where
  pub places : length f.items ≡ 16
  pub few : f.len ≤ 16
  pub empty : drop f.len f.items ≡ replicate (16 - f.len) no_move

-- the fields of a list
abbrev pub fields_of : List Move → Inside
fields_of xs = record { len = length xs; items = xs ++ replicate (16 - length xs) no_move }

with_fields : (m n : ℕ) (xs ys : List Move) → m ≡ n → xs ≡ ys → (let f : Inside = record { len = m; items = xs } in f) ≡ (let f : Inside = record { len = n; items = ys } in f)
with_fields m n xs ys e h = let F : ℕ → List Move → Inside = λ k zs. record { len = k; items = zs } in ap (λ k. F k xs) e ∙ ap (F n) h

-- a list gives its fields back
pub fields_again : (f : Inside) → Holds f → fields_of (list_in f) ≡ f
fields_again f h =
    let e : length (take f.len f.items) ≡ f.len = length-take-le f.len f.items (omega (arith, h.places, h.few)) in
    let z : replicate (16 - length (take f.len f.items)) no_move ≡ drop f.len f.items = ap (λ k. replicate (16 - k) no_move) e ∙ sym h.empty in
    with_fields (length (take f.len f.items)) f.len (take f.len f.items ++ replicate (16 - length (take f.len f.items)) no_move) f.items e (ap (λ (ys : List Move). take f.len f.items ++ ys) z ∙ take-append-drop f.len f.items)
