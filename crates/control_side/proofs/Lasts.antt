-- The last message of a list.
use Rattle.std.proofs.Common.{◌≡◌, List, [], ◌∷◌, ◌++◌}
use Rattle.vmbus_msg.specs.declared.msg.Msg.{Msg}

-- lists that are equal end with the same message
pub last_same : (xs ys : List Msg) (x y : Msg) → xs ++ x ∷ [] ≡ ys ++ y ∷ [] → x ≡ y
last_same [] [] x y e = cc e
last_same [] (b ∷ []) x y e = absurd (cc e)
last_same [] (b ∷ c ∷ ys) x y e = absurd (cc e)
last_same (a ∷ []) [] x y e = absurd (cc e)
last_same (a ∷ c ∷ xs) [] x y e = absurd (cc e)
last_same (a ∷ xs) (b ∷ ys) x y e = last_same xs ys x y (cc e)
