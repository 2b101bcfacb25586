use Rattle.std.proofs.Common.{◌++◌, ◌∷◌, [], ◌∙◌, true, refl, ap, sym, subst}
use Rattle.std.proofs.lemmas.List.{append-nil}
use Rattle.script_lines.specs.Lines.{Asks, Rescinds, Shuts, Modifies}
use Rattle.phase_plan.specs.declared.device_lines.DeviceLines.{DeviceLines}
use Rattle.phase_plan.specs.Told.{IsTold, says_told, stop_told}
use Rattle.phase_plan.proofs.Noting.{told_more, map_push, none_first, or_false, or_true, stop_or}
use Rattle.phase_plan.proofs.device_lines.DeviceLines.note.Goals as goal

pub returns-in_ok-push-in-Asks : goal.returns-in_ok-push-in-Asks
returns-in_ok-push-in-Asks c ss told =
    let d = c.args.self.now in
    let e : DeviceLines = record { asks = c.push.new.self; stop = d.stop; is_closed = d.is_closed; vp = d.vp; is_named = true } in
    subst (λ l. IsTold (ss ++ says_told l ∷ []) e) (sym c.in-Asks.is)
    (told_more ss (Asks c.in-Asks.ask.now) d e told (map_push _ d.asks.items c.push.new.self.items c.in-Asks.ask c.in_ok-push-in-Asks.ensures.items) (sym (none_first (stop_told d.stop))) (sym (or_false d.is_closed)) (sym (none_first d.vp)) refl)

pub returns-in-Rescinds : goal.returns-in-Rescinds
returns-in-Rescinds c ss told =
    let d = c.args.self.now in
    let s = c.in-Rescinds.stop in
    let e : DeviceLines = record { asks = d.asks; stop = c.or-self.result; is_closed = d.is_closed; vp = d.vp; is_named = true } in
    subst (λ l. IsTold (ss ++ says_told l ∷ []) e) (sym c.in-Rescinds.is)
    (told_more ss (Rescinds s.after s.held) d e told (sym (append-nil _)) (ap stop_told c.or-self.ensures ∙ stop_or d.stop s) (sym (or_false d.is_closed)) (sym (none_first d.vp)) refl)

pub returns-in-Shuts : goal.returns-in-Shuts
returns-in-Shuts c ss told =
    let d = c.args.self.now in
    let e : DeviceLines = record { asks = d.asks; stop = d.stop; is_closed = true; vp = d.vp; is_named = true } in
    subst (λ l. IsTold (ss ++ says_told l ∷ []) e) (sym c.in-Shuts.is)
    (told_more ss Shuts d e told (sym (append-nil _)) (sym (none_first (stop_told d.stop))) (sym (or_true d.is_closed)) (sym (none_first d.vp)) refl)

pub returns-in-Modifies : goal.returns-in-Modifies
returns-in-Modifies c ss told =
    let d = c.args.self.now in
    let e : DeviceLines = record { asks = d.asks; stop = d.stop; is_closed = d.is_closed; vp = c.or-self-in-Modifies.result; is_named = true } in
    subst (λ l. IsTold (ss ++ says_told l ∷ []) e) (sym c.in-Modifies.is)
    (told_more ss (Modifies c.in-Modifies.vp) d e told (sym (append-nil _)) (sym (none_first (stop_told d.stop))) (sym (or_false d.is_closed)) c.or-self-in-Modifies.ensures refl)
