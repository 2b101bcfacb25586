use Rattle.std.proofs.Common.{◌≡◌, ◌∙◌, ◌+◌, ◌++◌, ◌∷◌, [], length, map, ap, sym, subst, arith, length-append}
use Rattle.std.specs.Prelude.{All}
use Rattle.std.proofs.lemmas.List.Elements.{All-nil, All-cons, All-append}
use Rattle.script_phases.specs.Openings.{subs_of, subs_from}
use Rattle.phase_plan.specs.declared.opening.Opening.{Opening}
use Rattle.phase_plan.specs.Opened.{IsOfDevice, channels_if, plain}
use Rattle.phase_plan.proofs.Channels.{first_of, sub_opened}
use Rattle.phase_plan.proofs.openings.open_device.Goals as goal

pub loop-i-preserved : goal.loop-i-preserved
loop-i-preserved c =
    let x : Opening = record { relid = c.loop-i.next; device = c.args.device; sub = 1 + c.loop-i.i } in
    let items = c.in_ok-push-2.ensures.items in
    let long = ap length items in
    let more = length-append c.loop-i.openings.items (x ∷ []) in
    record {
      openings = λ spec. sub_opened c.args.device c.args.next.now c.loop-i.i c.loop-i.next spec c.args.openings.now.items c.loop-i.openings.items c.push-in-loop-i.new.self.items (c.loop-i.invariant.openings spec) c.loop-i.invariant.next items;
      next = omega (arith, c.loop-i.invariant.next);
      within = λ count less all.
          let one : IsOfDevice count x = record { device = less; sub = omega (arith, c.loop-i-test.true, c.requires.subs) } in
          subst (All (IsOfDevice count)) (sym items) (All-append (IsOfDevice count) c.loop-i.openings.items (x ∷ []) (c.loop-i.invariant.within count less all) (All-cons (IsOfDevice count) x [] one (All-nil (IsOfDevice count))));
      few = omega (arith, long, more, c.loop-i.invariant.few);
    }

pub returns-clause-openings : goal.returns-clause-openings
returns-clause-openings c spec count =
    let all : c.loop-i.i ≡ subs_of spec = omega (arith, c.loop-i-test.false, c.loop-i.auto.i-end, count) in
    c.loop-i.invariant.openings spec ∙ ap (λ n. c.args.openings.now.items ++ map plain (first_of c.args.device spec ∷ subs_from c.args.device spec 1 c.args.next.now n)) all
    ∙ ap (λ b. c.args.openings.now.items ++ map plain (channels_if b c.args.device spec c.args.next.now)) (sym c.if-not-opened.false)
