use Rattle.std.proofs.Common.{rules, ◌≡◌, ℕ, zero, suc, refl, ◌≤◌, Some, slice_get, subst, sym, arith}
use Rattle.gpadl.specs.Cut.{cut}
use Rattle.vmbus_control_c.proofs.CutLaws.{header_at, later_at, later_within}
use Rattle.vmbus_control_c.proofs.page_cut.message.Goals as goal

not_first : (n : ℕ) → (n ≡ 0 → ⊥) → 1 ≤ n
not_first zero above = absurd (above refl)
not_first (suc n) above = omega arith

pub returns-then-number-eq0-clause-whose : goal.returns-then-number-eq0-clause-whose
returns-then-number-eq0-clause-whose c =
    let first : c.args.number ≡ 0 = c.if-number-eq0.true in
    subst (λ n. slice_get (cut c.args.relid c.args.handle c.args.pages.now) n ≡ Some c.header.result) (sym first) (header_at c.args.relid c.args.handle c.args.pages.now c.header.result (search rules) c.header.ensures)

pub returns-clause-whose : goal.returns-clause-whose
returns-clause-whose c = later_at c.args.relid c.args.handle c.args.number c.args.pages.now c.body_of.result (not_first c.args.number c.if-number-eq0.false) c.body_of.ensures.value

pub returns-clause-every : goal.returns-clause-every
returns-clause-every c = λ few within. c.body_of.ensures.every (later_within c.args.relid c.args.handle c.args.number c.args.pages.now (not_first c.args.number c.if-number-eq0.false) within)
