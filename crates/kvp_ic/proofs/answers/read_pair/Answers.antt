use Rattle.std.proofs.Common.{◌≡◌, Some, None, ap, ◌∙◌}
use Rattle.kvp_ic.specs.Texts.{text_in}
use Rattle.kvp_ic.specs.Messages.{key_place, value_place}
use Rattle.kvp_ic.specs.Answers.{pair_told}
use Rattle.kvp_ic.proofs.answers.read_pair.Goals as goal

pub returns-in-None : goal.returns-in-None
returns-in-None c = ap (λ o. pair_told o (text_in 0 1023 (value_place 3) c.args.answer.now)) (rw c.key_place.ensures at c.in-None.ensures)

pub returns-in-Some-find_text : goal.returns-in-Some-find_text
returns-in-Some-find_text c =
    let k : Some c.in-Some.key ≡ text_in 1 255 (key_place 3) c.args.answer.now = rw c.key_place.ensures at c.in-Some.ensures in
    let v : Some c.in-Some-find_text.value ≡ text_in 0 1023 (value_place 3) c.args.answer.now = rw c.value_place.ensures at c.in-Some-find_text.ensures in
    ap (λ o. pair_told o (Some c.in-Some-find_text.value)) k ∙ ap (pair_told (text_in 1 255 (key_place 3) c.args.answer.now)) v

pub returns-in-None-find_text : goal.returns-in-None-find_text
returns-in-None-find_text c =
    let k : Some c.in-Some.key ≡ text_in 1 255 (key_place 3) c.args.answer.now = rw c.key_place.ensures at c.in-Some.ensures in
    let v : None ≡ text_in 0 1023 (value_place 3) c.args.answer.now = rw c.value_place.ensures at c.in-None-find_text.ensures in
    ap (λ o. pair_told o None) k ∙ ap (pair_told (text_in 1 255 (key_place 3) c.args.answer.now)) v
