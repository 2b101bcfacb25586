use Rattle.std.proofs.Common.{◌≡◌, ◌∙◌, ◌++◌, ◌∷◌, [], List, ap, sym, inl}
use Rattle.vmbus_msg.specs.declared.msg.Msg.{Msg}
use Rattle.vmbus_msg.specs.declared.msg.Msg.TheVariants.{RelidReleased}
use Rattle.mail_box.specs.Mail.{Post}
use Rattle.test_messages.proofs.mail_box_tests.split_box_of_one.Goals as goal

pub put-requires-clause-may : goal.put-requires-clause-may
put-requires-clause-may g c =
    let second : List Msg = RelidReleased 0 8 ∷ [] in
    let none : c.split-post.result.0.put ≡ [] = ap (λ (p : Post). p.put) c.split-post.ensures.post in
    let named : c.split-post.result.0.named ≡ RelidReleased 0 7 ∷ second = ap (λ (p : Post). p.named) c.split-post.ensures.post in
    inl (second, (λ i. (none i ++ (c.released.ensures i) ∷ []) ++ second) ∙ sym named)
