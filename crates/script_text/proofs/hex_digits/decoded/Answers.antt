use Rattle.std.proofs.Common.{List, [], ℕ, Result, ap, sym, ◌∙◌}
use Rattle.std.specs.Result.{result_unwrap_or}
use Rattle.hex.specs.declared.error.FromHexError.{FromHexError}
use Rattle.script_text.specs.Forms.{bytes_of}
use Rattle.script_text.proofs.HexNumbers.{decodes}
use Rattle.script_text.proofs.hex_digits.decoded.Goals as goal

pub unreachable-requires : goal.unreachable-requires
unreachable-requires g c =
    c.in_default.not-Ok (bytes_of c.args.digits.now) (c.from_hex.ensures ∙ decodes c.args.digits.now g.row.N c.requires.places c.requires.digits)

pub returns : goal.returns
returns g c =
    ap (λ (r : Result (List ℕ) FromHexError). result_unwrap_or r [])
    (sym c.in-Ok.is ∙ (c.from_hex.ensures ∙ decodes c.args.digits.now g.row.N c.requires.places c.requires.digits))
