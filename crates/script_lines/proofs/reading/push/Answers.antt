use Rattle.std.proofs.Common.{◌≡◌, None, subst}
use Rattle.script_lines.specs.Faults.{device_said, row_fault}
use Rattle.script_lines.specs.WellFormed.{InRange}
use Rattle.script_lines.proofs.Fitting.{fits_offer, fits_bad, fits_ring, fits_window, fits_request, fits_rescind, fits_close, fits_modify, fits_phase}
use Rattle.script_lines.proofs.reading.push.Goals as goal

pub push_ring-requires : goal.push_ring-requires
push_ring-requires c =
    rw (c.unwrap_or-device.ensures, c.unwrap_or-in-Ring.ensures) (fits_ring c.args.number c.args.draft.now c.requires.behind c.in-Ring.field-0 c.in-Ring.pages c.args.device
    (subst (λ s. row_fault c.args.number c.args.draft.now c.args.device s ≡ None) c.in-Ring.is c.requires.right) (subst InRange c.in-Ring.is c.requires.range) c.requires.within)

pub push_window-requires : goal.push_window-requires
push_window-requires c =
    rw (c.unwrap_or-device.ensures, c.unwrap_or-in-Window.ensures) (fits_window c.args.number c.args.draft.now c.requires.behind c.in-Window.field-0 c.in-Window.size c.args.device
    (subst (λ s. row_fault c.args.number c.args.draft.now c.args.device s ≡ None) c.in-Window.is c.requires.right) (subst InRange c.in-Window.is c.requires.range) c.requires.within)

pub push_ask-requires : goal.push_ask-requires
push_ask-requires c =
    rw (c.unwrap_or-device.ensures, c.ask_of.ensures) (fits_request c.args.number c.args.draft.now c.requires.behind c.in-Request.field-0 c.in-Request.asked c.args.device
    (subst (λ s. row_fault c.args.number c.args.draft.now c.args.device s ≡ None) c.in-Request.is c.requires.right) (subst InRange c.in-Request.is c.requires.range))

pub push_rescind-requires : goal.push_rescind-requires
push_rescind-requires c =
    rw (c.unwrap_or-device.ensures, c.unwrap_or-in-Rescind.ensures) (fits_rescind c.args.number c.args.draft.now c.requires.behind c.in-Rescind.field-0 c.in-Rescind.after c.in-Rescind.held c.args.device
    (subst (λ s. row_fault c.args.number c.args.draft.now c.args.device s ≡ None) c.in-Rescind.is c.requires.right) (subst InRange c.in-Rescind.is c.requires.range))

pub push_shut-requires : goal.push_shut-requires
push_shut-requires c =
    rw (c.unwrap_or-device.ensures) (fits_close c.args.number c.args.draft.now c.requires.behind c.in-Close.field-0 c.args.device
    (subst (λ s. row_fault c.args.number c.args.draft.now c.args.device s ≡ None) c.in-Close.is c.requires.right) c.requires.within)

pub push_modify-requires : goal.push_modify-requires
push_modify-requires c =
    rw (c.unwrap_or-device.ensures, c.unwrap_or-in-Modify.ensures) (fits_modify c.args.number c.args.draft.now c.requires.behind c.in-Modify.field-0 c.in-Modify.vp c.args.device
    (subst (λ s. row_fault c.args.number c.args.draft.now c.args.device s ≡ None) c.in-Modify.is c.requires.right) (subst InRange c.in-Modify.is c.requires.range) c.requires.within)

pub push_phase-requires : goal.push_phase-requires
push_phase-requires c = fits_phase c.args.number c.args.draft.now c.requires.behind c.args.device
    (subst (λ s. row_fault c.args.number c.args.draft.now c.args.device s ≡ None) c.in-Phase.is c.requires.right)

pub push_offer-requires : goal.push_offer-requires
push_offer-requires c =
    rw (c.spec_of.ensures) (fits_offer c.args.number c.args.draft.now c.requires.behind c.in-Offer.name c.in-Offer.offering c.args.device
    (subst (λ s. c.args.device ≡ device_said c.args.draft.now s) c.in-Offer.is c.requires.device)
    (subst (λ s. row_fault c.args.number c.args.draft.now c.args.device s ≡ None) c.in-Offer.is c.requires.right) (subst InRange c.in-Offer.is c.requires.range))

pub push_bad-requires : goal.push_bad-requires
push_bad-requires c =
    rw (c.unwrap_or-device.ensures, c.unwrap_or.ensures) (fits_bad c.args.number c.args.draft.now c.requires.behind c.in-Bad.field-0 c.in-Bad.lba c.args.device
    (subst (λ s. row_fault c.args.number c.args.draft.now c.args.device s ≡ None) c.in-Bad.is c.requires.right))
