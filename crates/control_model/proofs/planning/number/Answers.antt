use Rattle.std.proofs.Common.{[], length, ap, subst, arith}
use Rattle.std.proofs.lemmas.List.{take_all, length-map}
use Rattle.phase_plan.specs.Opened.{plain}
use Rattle.phase_plan.specs.declared.opening.Opening.{Opening as Place}
use Rattle.control_model.specs.Openings.{fate_of}
use Rattle.control_model.specs.Numbering.{Numbered}
use Rattle.control_model.proofs.NumberingLaws.{numbered_none, numbered_next}
use Rattle.control_model.proofs.planning.number.Goals as goal

pub number_one-requires-clause-inside : goal.number_one-requires-clause-inside
number_one-requires-clause-inside c = c.requires.within c.loop-o.o-index _ c.loop-o-test.true

pub number_one-requires-clause-gpadl : goal.number_one-requires-clause-gpadl
number_one-requires-clause-gpadl c = omega (arith, c.loop-o.invariant.gpadl, c.requires.gpadl, c.requires.few, c.loop-o-test.true)

pub number_one-requires-clause-page : goal.number_one-requires-clause-page
number_one-requires-clause-page c = omega (arith, c.loop-o.invariant.page, c.requires.page, c.requires.few, c.loop-o-test.true)

pub loop-o-init : goal.loop-o-init
loop-o-init c = record {
  numbered = λ pages part cs are. numbered_none pages (λ device. fate_of device part) c.in_ok-openings.openings.items c.args.next.now c.in_ok-openings.ensures.items;
  gpadl = omega arith;
  page = omega arith;
}

pub loop-o-preserved : goal.loop-o-preserved
loop-o-preserved c =
    let done = c.in_ok-number_one.ensures in
    let no_place : Place = record { relid = 0; device = 0; sub = 0 } in
    record {
      numbered = λ pages part cs are.
          numbered_next pages part c.args.specs.now c.args.sizes.now c.args.devices.now cs c.args.opened.now c.loop-o.o-index no_place c.loop-o.openings.items c.number_one.new.openings.items c.args.next.now c.loop-o.next c.number_one.new.next are c.loop-o-test.true
          (c.loop-o.invariant.numbered pages part cs are) done.numbered;
      gpadl = omega (arith, done.few.0, c.loop-o.invariant.gpadl);
      page = omega (arith, done.few.1, c.loop-o.invariant.page);
    }

pub returns-clause-numbered : goal.returns-clause-numbered
returns-clause-numbered c pages part cs are =
    let long = length-map cs plain in
    subst (λ l. Numbered pages (λ device. fate_of device part) l [] c.args.next.now c.loop-o.openings.items c.loop-o.next) (take_all c.loop-o.o-index cs (omega (arith, long, ap length are.same, c.loop-o-test.false)))
    (c.loop-o.invariant.numbered pages part cs are)
