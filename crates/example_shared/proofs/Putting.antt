-- The next message of a list may be put.
use Rattle.std.proofs.Common.{◌≡◌, ◌<◌, ◌+◌, ℕ, List, [], ◌∷◌, ◌++◌, length, take, drop, get_or, inl, ap, sym, ◌∙◌}
use Rattle.std.proofs.lemmas.List.{take_more, take-append-drop}
use Rattle.vmbus_msg.specs.declared.msg.Msg.{Msg}
use Rattle.mail_box.specs.Letters.{MaySay}

pub may_put : (named messages put : List Msg) (last m : Msg) (n : ℕ) → named ≡ messages → put ≡ take n messages → n < length messages → m ≡ get_or messages n m → MaySay named last (put ++ m ∷ [])
may_put named messages put last m n is front less at =
    let whole : put ++ m ∷ [] ≡ take (n + 1) messages = ap (λ p. p ++ m ∷ []) front ∙ ap (λ x. take n messages ++ x ∷ []) at ∙ sym (take_more messages n m less) in
    inl (drop (n + 1) messages, ap (λ l. l ++ drop (n + 1) messages) whole ∙ take-append-drop (n + 1) messages ∙ sym is)
