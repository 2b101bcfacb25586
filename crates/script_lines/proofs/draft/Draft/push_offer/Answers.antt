use Rattle.std.proofs.Common.{◌≡◌, sym, subst, ap, refl, ◌∙◌, ◌++◌, ◌∷◌, []}
use Rattle.std.specs.Prelude.{position, if◌then◌else◌}
use Rattle.indexmap.specs.IndexSet.{insert_key}
use Rattle.std.specs.Str.{bytes_eq}
use Rattle.script_lines.specs.declared.line.What.TheVariants.{Offer}
use Rattle.script_lines.specs.WellFormed.{Fits}
use Rattle.script_lines.proofs.Drafts.{keeps_offer, none_placed}
use Rattle.script_lines.proofs.draft.Draft.push_offer.Goals as goal

pub invariant_of-self-in_err-insert : goal.invariant_of-self-in_err-insert
invariant_of-self-in_err-insert c = rw (c.reserve.ensures.items, c.in_err-insert.ensures.err, c.reserve-2.ensures.items) c.self.invariant

pub invariant_of-self-2 : goal.invariant_of-self-2
invariant_of-self-2 c =
    let s = c.self.inside in
    let fits = subst (λ ls. Fits ls (Offer c.args.name c.args.spec)) (sym c.self.view_is) c.requires in
    let none = none_placed (bytes_eq c.args.name) s.names.keys (ap (position (bytes_eq c.args.name)) c.self.invariant.names ∙ fits.new c.args.name refl) in
    let keys : c.insert.new.self.keys ≡ s.names.keys ++ c.args.name ∷ [] =
    c.in_ok-insert.ensures.keys ∙ ap (insert_key bytes_eq s.names.keys) c.again.ensures ∙ ap (λ b. if b then s.names.keys else s.names.keys ++ c.args.name ∷ []) none in
    rw (c.push_reserved-2.ensures.items, c.reserve.ensures.items, keys, c.push_reserved.ensures.items, c.reserve-2.ensures.items)
    (keeps_offer s.lines.items s.names.keys s.seen.items s.channels s.asks s.phase s.settings s.bad.keys c.self.invariant c.args.number c.args.name c.args.spec _ c.channels_of.result fits refl c.channels_of.ensures.count)
