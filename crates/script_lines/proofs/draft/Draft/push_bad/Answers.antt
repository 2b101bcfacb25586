use Rattle.std.proofs.Common.{◌≡◌, sym, subst, ap, refl, ◌∙◌, ◌++◌, ◌∷◌, [], false}
use Rattle.std.specs.Prelude.{if◌then◌else◌}
use Rattle.std.specs.List.{list_any}
use Rattle.script_lines.specs.declared.line.What.TheVariants.{Bad}
use Rattle.script_lines.specs.WellFormed.{Fits}
use Rattle.script_lines.proofs.Drafts.{keeps_bad, any_places, is_place}
use Rattle.script_lines.proofs.draft.Draft.push_bad.Goals as goal

pub invariant_of-self-in_err-insert : goal.invariant_of-self-in_err-insert
invariant_of-self-in_err-insert c = rw (c.reserve.ensures.items, c.in_err-insert.ensures.err) c.self.invariant

pub invariant_of-self-2 : goal.invariant_of-self-2
invariant_of-self-2 c =
    let s = c.self.inside in
    let d = c.args.device in
    let l = c.args.lba in
    let fits = subst (λ ls. Fits ls (Bad d l)) (sym c.self.view_is) c.requires in
    let none : list_any (is_place d l) s.bad.keys ≡ false = ap (list_any (is_place d l)) c.self.invariant.bad_places ∙ any_places d l s.lines.items ∙ fits.fresh in
    let keys : c.insert.new.self.keys ≡ s.bad.keys ++ record { device = d; lba = l } ∷ [] =
    c.in_ok-insert.ensures.keys ∙ ap (λ b. if b then s.bad.keys else s.bad.keys ++ record { device = d; lba = l } ∷ []) none in
    rw (c.push_reserved.ensures.items, c.reserve.ensures.items, keys)
    (keeps_bad s.lines.items s.names.keys s.seen.items s.channels s.asks s.phase s.settings s.bad.keys c.self.invariant c.args.number d l _ fits refl)
