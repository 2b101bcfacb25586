use Rattle.std.proofs.Common.{◌≡◌, Bool, false, ◌∙◌, ◌+◌, ◌≤◌, ◌∷◌, [], Some, List, length, map, sym, ap, subst, arith}
use Rattle.std.specs.Prelude.{All}
use Rattle.std.proofs.lemmas.List.{length-map, map-append, length-replicate}
use Rattle.std.proofs.lemmas.List.FromFn.{length-map-range_with_len}
use Rattle.script_lines.specs.Parts.{offered, ring_pages_of}
use Rattle.script_phases.specs.Openings.{is_opened, opened_from, others, subs_of}
use Rattle.phase_plan.specs.Told.{AreDealt}
use Rattle.phase_plan.specs.Opened.{AreDevices, AreEnded, IsOfDevice, parts_left, plain}
use Rattle.phase_plan.proofs.Noting.{written as written_over}
use Rattle.control_model.specs.declared.opening.Opening.{Opening}
use Rattle.control_model.specs.Numbering.{AreChannels}
use Rattle.control_model.proofs.PhaseLaws.{SoFar, channels_known, none_left, none_over, none_so_far, phase_on, small_sizes}
use Rattle.control_model.proofs.ScriptLaws.{few_subs, parts_count}
use Rattle.control_model.proofs.planning.phases.Goals as goal

pub all_subs-requires : goal.all_subs-requires
all_subs-requires c = subst (All (λ spec. subs_of spec ≤ 3)) (sym c.requires.specs) (few_subs (offered c.args.lines.now) c.args.lines.now c.requires.script.right)

pub phase_openings-requires-clause-most : goal.phase_openings-requires-clause-most
phase_openings-requires-clause-most c = subst (All (λ n. n ≤ 3)) (sym c.as_slice-in-Some-2.ensures.value) c.in_ok-subs.ensures.most

pub phase_openings-requires-clause-few : goal.phase_openings-requires-clause-few
phase_openings-requires-clause-few c = omega (arith, ap length c.as_slice-in-Some.ensures.value, c.in_ok-devices.ensures.count, ap length c.requires.specs, c.requires.script.few)

pub phase_openings-requires-clause-ended : goal.phase_openings-requires-clause-ended
phase_openings-requires-clause-ended c = ap length c.as_slice.ensures.value ∙ c.loop-left.invariant.ended ∙ sym (ap length c.as_slice-in-Some.ensures.value ∙ c.in_ok-devices.ensures.count)

pub phase_openings-requires-clause-subs : goal.phase_openings-requires-clause-subs
phase_openings-requires-clause-subs c =
    ap length (c.as_slice-in-Some-2.ensures.value ∙ c.in_ok-subs.ensures.subs) ∙ length-map c.args.specs.now subs_of ∙ sym (ap length c.as_slice-in-Some.ensures.value ∙ c.in_ok-devices.ensures.count)

-- there are 20,001 phases at most
pub phase_openings-requires-clause-room : goal.phase_openings-requires-clause-room
phase_openings-requires-clause-room c = let many = parts_count c.args.lines.now in omega (arith, c.loop-left.invariant.relid, c.loop-left.invariant.few, many.1, c.requires.script.short)

pub number-requires-clause-gpadl : goal.number-requires-clause-gpadl
number-requires-clause-gpadl c = let many = parts_count c.args.lines.now in omega (arith, c.loop-left.invariant.gpadl, c.loop-left.invariant.few, many.1, c.requires.script.short)

pub number-requires-clause-page : goal.number-requires-clause-page
number-requires-clause-page c = let many = parts_count c.args.lines.now in omega (arith, c.loop-left.invariant.page, c.loop-left.invariant.few, many.1, c.requires.script.short)

pub number-requires-clause-within : goal.number-requires-clause-within
number-requires-clause-within c =
    subst (All (IsOfDevice (length c.as_slice-in-Some-5.result.now))) (sym c.as_slice-in-Some-3.ensures.value)
    (subst (λ n. All (IsOfDevice n) c.in_ok-opened.opened.items) (ap length (c.as_slice-in-Some.ensures.value ∙ sym c.as_slice-in-Some-5.ensures.value)) c.in_ok-opened.ensures.within)

pub number-requires-clause-specs : goal.number-requires-clause-specs
number-requires-clause-specs c = sym (ap length c.as_slice-in-Some-5.ensures.value ∙ c.in_ok-devices.ensures.count)

pub number-requires-clause-sizes : goal.number-requires-clause-sizes
number-requires-clause-sizes c =
    ap length (c.as_slice-in-Some-4.ensures.value ∙ c.in_ok-sizes.ensures) ∙ length-map-range_with_len (λ d. ring_pages_of d c.args.lines.now) 0 (length c.args.specs.now) ∙ sym (ap length c.as_slice-in-Some-5.ensures.value ∙ c.in_ok-devices.ensures.count)

pub number-requires-clause-few : goal.number-requires-clause-few
number-requires-clause-few c = omega (arith, ap length c.as_slice-in-Some-3.ensures.value, c.in_ok-opened.ensures.few_more)

pub end_devices-requires : goal.end_devices-requires
end_devices-requires c = ap length c.deref_mut.ensures.value ∙ c.loop-left.invariant.ended ∙ sym (ap length c.as_slice-in-Some-6.ensures.value ∙ c.in_ok-devices.ensures.count)

pub number-requires-clause-small : goal.number-requires-clause-small
number-requires-clause-small c = subst (All (λ n. n ≤ 16)) (sym c.as_slice-in-Some-4.ensures.value) (small_sizes c.args.lines.now (length c.args.specs.now) c.in_ok-sizes.sizes.items c.requires.script.right c.in_ok-sizes.ensures)

pub loop-left-init : goal.loop-left-init
loop-left-init c =
    let lines = c.args.lines.now in
    let count = ap length c.requires.specs in
    let none = ap (map (λ phase. phase.items)) c.new-phases.ensures.items in
    let none_ended = c.in_ok-ended.ensures.items_if_clones_equal (λ b is. is) in
    record {
      so_far = none_so_far lines (map (λ phase. phase.items) c.new-phases.result.items) c.in_ok-ended.ended.items (length c.args.specs.now + 1) none (ap (λ n. n + 1) count) (subst (AreEnded []) (sym none_ended) (none_over (length c.args.specs.now)));
      within = omega arith;
      ended = ap length none_ended ∙ length-replicate (length c.args.specs.now) false;
      few = omega (arith, c.new-phases.ensures.len);
      gpadl = omega (arith, c.new-phases.ensures.len);
      page = omega (arith, c.new-phases.ensures.len);
      relid = omega (arith, c.new-phases.ensures.len, count, c.requires.script.few);
    }

pub loop-left-preserved : goal.loop-left-preserved
loop-left-preserved c =
    let lines = c.args.lines.now in
    let specs = c.args.specs.now in
    let at = c.in-Some.at in
    let part = c.part_at-behind.result.0.now in
    let left = c.part_at-behind.result.1 in
    let devices = c.in_ok-devices.devices.items in
    let dealt = c.in_ok-devices.ensures.dealt in
    let next = c.loop-left.next in
    let relid = c.loop-left.relid in
    let made : List (List Opening) = map (λ phase. phase.items) c.loop-left.phases.items in
    let so_far : SoFar lines (Some at) made c.loop-left.ended.items next relid = subst (λ l. SoFar lines l made c.loop-left.ended.items next relid) c.in-Some.is c.loop-left.invariant.so_far in
    let are : AreDevices so_far.earlier part specs c.as_slice.result.now c.as_slice-in-Some.result.now c.as_slice-in-Some-2.result.now = record {
      ended_are = subst (AreEnded so_far.earlier) (sym c.as_slice.ensures.value) so_far.ended_are;
      dealt = subst (AreDealt part) (sym c.as_slice-in-Some.ensures.value) dealt;
      subs_are = sym (c.as_slice-in-Some-2.ensures.value ∙ c.in_ok-subs.ensures.subs);
    } in
    let opened : c.as_slice-in-Some-3.result.now ≡ map plain (opened_from (is_opened so_far.earlier part) 0 relid specs) = c.as_slice-in-Some-3.ensures.value ∙ c.in_ok-opened.ensures.opened so_far.earlier part specs are in
    let known : AreChannels (λ d. ring_pages_of d lines) part specs c.as_slice-in-Some-4.result.now c.as_slice-in-Some-5.result.now (opened_from (is_opened so_far.earlier part) 0 relid (offered lines)) c.as_slice-in-Some-3.result.now =
    channels_known lines part specs c.as_slice-in-Some-4.result.now c.as_slice-in-Some-5.result.now (is_opened so_far.earlier part) relid c.as_slice-in-Some-3.result.now c.requires.specs (c.as_slice-in-Some-4.ensures.value ∙ c.in_ok-sizes.ensures) opened (subst (AreDealt part) (sym c.as_slice-in-Some-5.ensures.value) dealt) in
    let numbered = c.in_ok-openings.ensures.numbered (λ d. ring_pages_of d lines) part (opened_from (is_opened so_far.earlier part) 0 relid (offered lines)) known in
    let later = c.in_ok-opened.ensures.next so_far.earlier part specs are ∙ ap (λ ss. relid + length (others (opened_from (is_opened so_far.earlier part) 0 relid ss))) c.requires.specs in
    let over = c.end_devices.ensures.ended so_far.earlier part (subst (AreEnded so_far.earlier) (sym c.deref_mut.ensures.value) so_far.ended_are) (subst (AreDealt part) (sym c.as_slice-in-Some-6.ensures.value) dealt) in
    let written : _ ≡ c.end_devices.new.ended = written_over c.loop-left.ended.len c.loop-left.ended.items c.end_devices.new.ended (omega (arith, c.loop-left.ended.ok)) (c.end_devices.ensures.count ∙ ap length c.deref_mut.ensures.value) in
    let pushed = ap (map (λ phase. phase.items)) c.in_ok-push.ensures.items ∙ map-append (λ phase. phase.items) c.loop-left.phases.items (c.in_ok-openings.openings ∷ []) in
    let on = phase_on lines part at left made c.in_ok-openings.openings.items c.loop-left.ended.items c.end_devices.new.ended next c.number.new.next relid c.phase_openings.new.next so_far c.part_at-behind.ensures.parts numbered later over in
    let cut = ap length (ap (parts_left lines) c.in-Some.is ∙ c.part_at-behind.ensures.parts) in
    record {
      so_far = subst (λ (e : List Bool). SoFar lines left (map (λ phase. phase.items) c.push.new.self.items) e c.number.new.next c.phase_openings.new.next) (sym written) (subst (λ (m : List (List Opening)). SoFar lines left m c.end_devices.new.ended c.number.new.next c.phase_openings.new.next) (sym pushed) on);
      within = c.part_at-behind.ensures.within;
      ended = ap length written ∙ c.end_devices.ensures.count ∙ ap length c.deref_mut.ensures.value ∙ c.loop-left.invariant.ended;
      few = omega (arith, c.in_ok-push.ensures.len, c.loop-left.invariant.few, cut);
      gpadl = omega (arith, c.in_ok-push.ensures.len, c.loop-left.invariant.gpadl, c.in_ok-openings.ensures.few_more.0);
      page = omega (arith, c.in_ok-push.ensures.len, c.loop-left.invariant.page, c.in_ok-openings.ensures.few_more.1);
      relid = omega (arith, c.in_ok-push.ensures.len, c.loop-left.invariant.relid, c.in_ok-opened.ensures.room);
    }

pub returns : goal.returns
returns c =
    let made : List (List Opening) = map (λ phase. phase.items) c.loop-left.phases.items in
    sym (none_left c.args.lines.now made c.loop-left.ended.items c.loop-left.next c.loop-left.relid c.loop-left.left c.loop-left.invariant.so_far c.in_default.is)
