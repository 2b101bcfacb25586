use Rattle.std.proofs.Common.{[], sym, subst, ◌∙◌}
use Rattle.std.proofs.lemmas.List.{append-nil}
use Rattle.kvp_ic.specs.Messages.{kvp_bytes, Asks}
use Rattle.kvp_ic.proofs.laws.encode_and_decode.Goals as goal

pub returns : goal.returns
returns c =
    let m = c.args.m.now in
    c.decode.ensures.only m (subst (λ b. Asks m b) (append-nil (kvp_bytes m) ∙ sym c.encode-len.ensures.message) (c.encode-len.ensures.asks c.requires []))
