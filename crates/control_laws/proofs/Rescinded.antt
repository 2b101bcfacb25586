-- What holds of a channel that a phase rescinds, and of a sub-channel, at the end.
use Rattle.std.proofs.Common.{◌≡◌, ◌∙◌, ℕ, suc, ◌≤◌, length, ◌==◌, ◌&&◌, ◌||◌, Bool, true, List, ◌∷◌, ◌++◌, Some, if◌then◌else◌, refl, ap, arith}
use Rattle.std.specs.List.{list_any}
use Rattle.std.proofs.lemmas.List.Folds.{list_any-append}
use Rattle.control_laws.proofs.Words.{Closed, Released, Opening}
use Rattle.chan_state.specs.declared.state.State.TheVariants.{Offered}
use Rattle.control_model.specs.Plan.{BusPlan, IsPlan, is_sub, opening_at}
use Rattle.control_model.specs.Said.{ends_given_back, is_given_back, is_opened, channel_count, last_state}
use Rattle.control_model.specs.Guest.{GuestSeen, state_of}
use Rattle.control_model.specs.Host.{HostSeen, host_state_of}
use Rattle.control_laws.specs.Over.{IsOver}
use Rattle.control_laws.specs.Laws.{RescindedAreReleased, SubsAreReleased}
use Rattle.control_laws.proofs.Marks.{same, or_true}
use Rattle.control_laws.proofs.Relids.{offered_grows, all_offered}
use Rattle.control_laws.proofs.Plans.{cut_at, facts}
use Rattle.control_laws.proofs.States.{each_law}

any_here : (test : Opening → Bool) (before : List Opening) (done : List Opening) (o : Opening) (left after : List Opening) → test o ≡ true → list_any test (before ++ ((done ++ o ∷ left) ++ after)) ≡ true
any_here test before done o left after is =
    let mid : list_any test (done ++ o ∷ left) ≡ true = list_any-append test done (o ∷ left) ∙ ap (λ b. list_any test done || (b || list_any test left)) is ∙ or_true (list_any test done) in
    let rest : list_any test ((done ++ o ∷ left) ++ after) ≡ true = list_any-append test (done ++ o ∷ left) after ∙ ap (λ b. b || list_any test after) mid in
    list_any-append test before ((done ++ o ∷ left) ++ after) ∙ ap (λ b. list_any test before || b) rest ∙ or_true (list_any test before)

given_back : (plan : BusPlan) (g : GuestSeen) (h : HostSeen) (phase place : ℕ) (o : Opening) → IsPlan plan → IsOver plan g h → opening_at plan phase place ≡ Some o → ends_given_back o ≡ true
    → (state_of g o.relid ≡ Some Released) × (host_state_of h o.relid ≡ Some Released)
given_back plan g h phase place o planned over is gone =
    let cut = cut_at plan phase place o is in
    let fact = facts plan phase place cut.done o cut.left planned cut.at in
    let each = each_law plan g h over in
    let test : Opening → Bool = λ p. (p.relid == o.relid) && ends_given_back p in
    let here : test o ≡ true = rw (same o.relid, gone) refl in
    let known : o.relid ≤ channel_count plan = omega (arith, fact.known, offered_grows plan (suc phase) (length plan.phases) cut.at.in_plan (omega arith), all_offered plan) in
    let taken : is_given_back plan o.relid ≡ true = ap (list_any test) cut.whole ∙ any_here test cut.before cut.done o cut.left cut.after here in
    let state : last_state plan o.relid ≡ Released = ap (λ b. if b then Released else if is_opened plan o.relid then Closed else Offered) taken in
    (each.guest_each o.relid fact.fits.named known ∙ ap (λ s. Some s) state, each.host_each o.relid fact.fits.named known ∙ ap (λ s. Some s) state)

pub released_law : RescindedAreReleased
released_law plan g h phase place o planned over is gone = given_back plan g h phase place o planned over is (ap (λ b. b || is_sub o) gone)

pub subs_law : SubsAreReleased
subs_law plan g h phase place o planned over is sub = given_back plan g h phase place o planned over is (ap (λ b. o.rescinded || b) sub ∙ or_true o.rescinded)
