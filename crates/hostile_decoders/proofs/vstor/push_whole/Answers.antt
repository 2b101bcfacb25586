use Rattle.std.proofs.Common.{◌≡◌, ℕ, ◌++◌, List, [], sym, ap, ◌∙◌, subst}
use Rattle.std.specs.Prelude.{codes}
use Rattle.std.specs.Fmt.{decimal}
use Rattle.std.specs.Result.{OnOk}
use Rattle.stor_proto.specs.Srbs.{request_of}
use Rattle.stor_proto.specs.declared.vstor.Vstor.{Vstor}
use Rattle.hostile_decoders.specs.Storage.{srb_said}
use Rattle.hostile_decoders.proofs.Told.{whole_else, whole_srb, srb_ok}
use Rattle.hostile_decoders.proofs.vstor.push_whole.Goals as goal

pub returns-then-p-ne3-clause-text : goal.returns-then-p-ne3-clause-text
returns-then-p-ne3-clause-text c =
    subst (λ (t : List ℕ). OnOk c.push_named.result (c.push_named.new.text.items ≡ c.args.text.now.items ++ t)) (ap (λ (n : ℕ). codes "vstor status " ++ decimal n) (c.from.ensures ∙ ap (λ (v : Vstor). v.status) c.answer.ensures) ∙ sym (whole_else c.args.p.now c.if-p-ne3.true))
    c.push_named.ensures.text

pub returns-in-Some-clause-text : goal.returns-in-Some-clause-text
returns-in-Some-clause-text c =
    subst (λ (t : List ℕ). OnOk c.push_named-in-Some.result (c.push_named-in-Some.new.text.items ≡ c.args.text.now.items ++ t))
    (ap (λ (n : ℕ). codes "srb stop " ++ decimal n) c.from-in-Some.ensures ∙ (sym (ap srb_said (c.in-Some.ensures [])) ∙ sym (whole_srb c.args.p.now c.if-p-ne3.false)))
    c.push_named-in-Some.ensures.text

pub returns-in-None-clause-text : goal.returns-in-None-clause-text
returns-in-None-clause-text c =
    subst (λ (t : List ℕ). OnOk c.push.result (c.push.new.text.items ≡ c.args.text.now.items ++ t))
    (sym (srb_ok (request_of c.args.p.now []) (c.in-None.ensures [])) ∙ sym (whole_srb c.args.p.now c.if-p-ne3.false))
    c.push.ensures.text
