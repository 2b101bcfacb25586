use Rattle.std.proofs.Common.{◌≡◌, ◌+◌, ap, sym, subst, ◌∙◌, refl, length, arith, replicate, None}
use Rattle.std.proofs.lemmas.List.{length-map}
use Rattle.script_lines.specs.Parts.{offered}
use Rattle.script_phases.specs.Agreed.{agreed_in}
use Rattle.device_any.specs.Boxes.{spec_of}
use Rattle.bus_run.specs.Whole.{AreFresh}
use Rattle.bus_run.specs.Settings.{SettingsOf}
use Rattle.bus_run.proofs.Phases.{start}
use Rattle.bus_run.proofs.runner.Runner.make.Goals as goal

-- 16 devices at most are offered
pub all_settings-requires : goal.all_settings-requires
all_settings-requires c =
    let lines = c.args.script.now in
    let boxes = c.in_ok-boxes.boxes in
    let fresh = subst (λ l. AreFresh l (offered l) boxes.items) c.lines-lines.ensures.lines c.in_ok-boxes.ensures in
    let many = sym (length-map boxes.items spec_of) ∙ ap length fresh.kinds_are in
    omega (arith, many, c.len-count.ensures, boxes.ok.0, c.lines-lines.ensures.script.few)

pub first_relid-relid-requires : goal.first_relid-relid-requires
first_relid-relid-requires c =
    let lines = c.args.script.now in
    let boxes = c.in_ok-boxes.boxes in
    let fresh = subst (λ l. AreFresh l (offered l) boxes.items) c.lines-lines.ensures.lines c.in_ok-boxes.ensures in
    let many = sym (length-map boxes.items spec_of) ∙ ap length fresh.kinds_are in
    omega (arith, many, c.len-count.ensures, boxes.ok.0, c.lines-lines.ensures.script.few)

pub returns-clause-so_far : goal.returns-clause-so_far
returns-clause-so_far c =
    let lines = c.args.script.now in
    let boxes = c.in_ok-boxes.boxes in
    let fresh = subst (λ l. AreFresh l (offered l) boxes.items) c.lines-lines.ensures.lines c.in_ok-boxes.ensures in
    let long : c.len-count.result ≡ length boxes.items = omega (arith, c.len-count.ensures, boxes.ok.0) in
    let settings = subst (λ n. SettingsOf lines n c.in_ok-settings.settings.items) long (subst (λ l. SettingsOf l c.len-count.result c.in_ok-settings.settings.items) c.lines-lines.ensures.lines c.in_ok-settings.ensures) in
    let none = c.in_ok-ended.ensures ∙ ap (λ n. replicate n None) long in
    let relid : c.first_relid-relid.result ≡ length boxes.items + 1 = omega (arith, c.first_relid-relid.ensures, long) in
    let agreed = subst (λ l. c.agreed.result.0 ≡ agreed_in l) c.lines-lines.ensures.lines c.agreed.ensures in
    start lines _ agreed fresh settings none relid c.lines-lines.ensures.script.few refl refl c.new.ensures.items c.in_ok-results.ensures.none c.new-2.ensures.items
