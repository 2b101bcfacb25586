use Rattle.std.proofs.Common.{◌≡◌, ℕ, ◌<◌, List, get_or, take, Result, Ok, Err, None, Some, MatchResult, IfOk, ap, ◌∙◌, arith}
use Rattle.stor_proto.specs.Packets.{InForm, IsAllowed, vstor_bytes, vstor_in, vstor_fault}
use Rattle.stor_proto.specs.declared.vstor.Vstor.{Vstor}
use Rattle.stor_proto.specs.declared.fault.VstorFault.{VstorFault}
use Rattle.stor_proto.proofs.PacketLaws.{vstor_found, vstor_only}
use Rattle.stor_proto.proofs.codec.decode_vstor.Goals as goal

found : (b : List ℕ) (r : Result Vstor VstorFault) → ((i : ℕ) → get_or b i 0 < 256) → MatchResult r (λ p. (vstor_fault b ≡ None) × (p ≡ vstor_in b)) (λ e. vstor_fault b ≡ Some e)
    → IfOk r (λ p. InForm p × IsAllowed p × (take 64 b ≡ vstor_bytes p))
found b (Ok p) bytes h = rw h.1 (vstor_found b bytes h.0)
found b (Err e) bytes h = tt

only : (b : List ℕ) (r : Result Vstor VstorFault) → MatchResult r (λ p. (vstor_fault b ≡ None) × (p ≡ vstor_in b)) (λ e. vstor_fault b ≡ Some e)
    → (p : Vstor) → InForm p → IsAllowed p → take 64 b ≡ vstor_bytes p → r ≡ Ok p
only b (Ok q) h p form allowed is = ap Ok (h.1 ∙ (vstor_only p b form allowed is).1)
only b (Err e) h p form allowed is = let none = (vstor_only p b form allowed is).0 in cc

pub returns-clause-found : goal.returns-clause-found
returns-clause-found c = found c.args.bytes.now c.parse.result (λ k. omega (arith, c.type_inv.bytes k)) c.parse.ensures

pub returns-clause-only : goal.returns-clause-only
returns-clause-only c = only c.args.bytes.now c.parse.result c.parse.ensures
