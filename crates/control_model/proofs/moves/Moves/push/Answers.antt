use Rattle.std.proofs.Common.{◌≡◌, ◌+◌, ◌-◌, ◌∙◌, drop, replicate, length, arith, ap, sym}
use Rattle.std.proofs.lemmas.List.{length-set, drop-set-lt, drop-drop, drop-replicate, length-take-le}
use Rattle.control_model.specs.MoveList.{no_move}
use Rattle.control_model.proofs.moves.Moves.push.Goals as goal

pub invariant_of-self : goal.invariant_of-self
invariant_of-self c =
    let f = c.self.inside in
    let h = c.self.invariant in
    let len : length c.args.self.now ≡ f.len = ap length (sym c.self.view_is) ∙ length-take-le f.len f.items (omega (arith, h.places, h.few)) in
    record {
      places = length-set f.items f.len c.args.one ∙ h.places;
      few = omega (arith, len, c.requires);
      empty =
          drop-set-lt (f.len + 1) f.items f.len c.args.one (omega arith)
          ∙ (sym (drop-drop 1 f.len f.items) ∙ (ap (drop 1) h.empty ∙ (drop-replicate 1 (16 - f.len) no_move ∙ ap (λ k. replicate k no_move) (omega arith))));
    }
