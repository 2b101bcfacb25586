use Rattle.std.proofs.Common.{◌*◌, drop, ap, ◌∙◌, arith}
use Rattle.util_ic.specs.Versions.{versions_in, greatest_known}
use Rattle.util_ic.proofs.TableLaws.{negotiation_is}
use Rattle.util_ic.proofs.row.negotiation.Goals as goal

pub returns-in-Some-Some-clause-row : goal.returns-in-Some-Some-clause-row
returns-in-Some-Some-clause-row c =
    let table = c.negotiate_table-table.ensures in
    let fs = rw table at c.get-frames.ensures.value in
    let ms = rw table at c.get-messages.ensures.value in
    let versions = c.split_at.ensures.back in
    let later = c.split_at-2.ensures.back ∙ ap (drop (4 * c.get-frames.result)) versions in
    let f = c.greatest.ensures.value ∙ ap (λ l. greatest_known (versions_in c.get-frames.result l)) versions in
    let m = c.greatest-2.ensures.value ∙ ap (λ l. greatest_known (versions_in c.get-messages.result l)) later in
    let row = negotiation_is c.args.request.now c.get-frames.result c.get-messages.result c.greatest.result c.greatest-2.result fs ms (omega arith) (omega arith) f m in
    rw (c.in-Some-Some.is-0, c.in-Some-Some.is-1) at row

pub returns-in_default-clause-row : goal.returns-in_default-clause-row
returns-in_default-clause-row c =
    let table = c.negotiate_table-table.ensures in
    let fs = rw table at c.get-frames.ensures.value in
    let ms = rw table at c.get-messages.ensures.value in
    let versions = c.split_at.ensures.back in
    let later = c.split_at-2.ensures.back ∙ ap (drop (4 * c.get-frames.result)) versions in
    let f = c.greatest.ensures.value ∙ ap (λ l. greatest_known (versions_in c.get-frames.result l)) versions in
    let m = c.greatest-2.ensures.value ∙ ap (λ l. greatest_known (versions_in c.get-messages.result l)) later in
    let row = negotiation_is c.args.request.now c.get-frames.result c.get-messages.result c.greatest.result c.greatest-2.result fs ms (omega arith) (omega arith) f m in
    rw (c.in_default.is-0, c.in_default.is-1) at row

pub returns-in_default-2-clause-row : goal.returns-in_default-2-clause-row
returns-in_default-2-clause-row c =
    let table = c.negotiate_table-table.ensures in
    let fs = rw table at c.get-frames.ensures.value in
    let ms = rw table at c.get-messages.ensures.value in
    let versions = c.split_at.ensures.back in
    let later = c.split_at-2.ensures.back ∙ ap (drop (4 * c.get-frames.result)) versions in
    let f = c.greatest.ensures.value ∙ ap (λ l. greatest_known (versions_in c.get-frames.result l)) versions in
    let m = c.greatest-2.ensures.value ∙ ap (λ l. greatest_known (versions_in c.get-messages.result l)) later in
    let row = negotiation_is c.args.request.now c.get-frames.result c.get-messages.result c.greatest.result c.greatest-2.result fs ms (omega arith) (omega arith) f m in
    rw c.in_default.is-0 at row
