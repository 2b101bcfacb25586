use Rattle.std.proofs.Common.{◌≡◌, [], take, sym, ◌∙◌, rules, arith}
use Rattle.std.proofs.lemmas.List.{take_all}
use Rattle.wire_table.specs.Rows.{spelled_after}
use Rattle.util_ic.specs.Messages.{offer_content}
use Rattle.util_ic.proofs.request.put_offer.Goals as goal

pub returns : goal.returns
returns c =
    let content = c.put_version-4.new.message in
    let front : take 24 content ≡ spelled_after [] offer_content = search rules in
    sym (take_all 24 content (omega (arith, c.put_version.auto.message, c.put_version-2.auto.message, c.put_version-3.auto.message, c.put_version-4.auto.message))) ∙ front
