use Rattle.std.proofs.Common.{◌≡◌, ◌++◌, inr, refl}
use Rattle.hostile_decoders.specs.Storage.{whole_said}
use Rattle.hostile_decoders.proofs.Told.{on_ok_map}
use Rattle.hostile_decoders.proofs.vstor.push_vstor.Goals as goal

pub returns-in-Ok-clause-text : goal.returns-in-Ok-clause-text
returns-in-Ok-clause-text c =
    let found = c.in-Ok.ensures.found in
    on_ok_map c.push_whole.result (λ text. (whole_said c.in-Ok.p, inr (record { packet = c.in-Ok.p; begins = record { form = found.0; allowed = found.1; bytes = found.2 }; says = refl }), text)) c.push_whole.ensures.text
