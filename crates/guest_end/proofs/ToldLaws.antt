-- The page lists that were told, one message after the other.
use Rattle.std.proofs.Common.{◌≡◌, ℕ, ◌+◌, ◌<◌, List, [], ◌∷◌, ◌++◌, length, take, get_or, refl, sym, ap, ◌∙◌}
use Rattle.std.proofs.lemmas.List.{take_more}
use Rattle.vmbus_msg.specs.declared.msg.Msg.{Msg}
use Rattle.guest_end.specs.Told.{lists_told, told_by}

push_told : (relid : ℕ) (told : ℕ × ℕ) (ms : List Msg) (m : Msg) → lists_told relid told (ms ++ m ∷ []) ≡ told_by relid (lists_told relid told ms) m
push_told relid told [] m = refl
push_told relid told (x ∷ ms) m = push_told relid (told_by relid told x) ms m

pub told_more : (relid : ℕ) (ms : List Msg) (i : ℕ) (m : Msg) (told next : ℕ × ℕ) → i < length ms → m ≡ get_or ms i m → lists_told relid (0, 0) (take i ms) ≡ told → next ≡ told_by relid told m → lists_told relid (0, 0) (take (i + 1) ms) ≡ next
told_more relid ms i m told next below is so by =
    ap (lists_told relid (0, 0)) (take_more ms i m below ∙ ap (λ y. take i ms ++ y ∷ []) (sym is)) ∙ (push_told relid (0, 0) (take i ms) m ∙ (ap (λ t. told_by relid t m) so ∙ sym by))
