use Rattle.std.proofs.Common.{◌≡◌, ◌<◌, length, take, Result, Ok, Err, Some, None, List, ℕ, refl, ap, sym, subst, ◌∙◌, arith}
use Rattle.std.proofs.lemmas.List.{take-take, length-take}
use Rattle.vmbus_msg.specs.declared.fault.MsgFault.{MsgFault}
use Rattle.vmbus_msg.specs.declared.fault.MsgFault.TheVariants.{Short}
use Rattle.vmbus_msg.specs.declared.msg.Msg.{Msg}
use Rattle.vmbus_msg.specs.Faults.{fault_of}
use Rattle.vmbus_msg.specs.Grammar.{IsMessage, bytes_of_message}
use Rattle.vmbus_msg.specs.Reading.{Parses}
use Rattle.vmbus_msg_truncated.specs.Fronts.{needed}
use Rattle.vmbus_msg_truncated.proofs.FrontLaws.{front_short, front_frames}
use Rattle.vmbus_msg_truncated.proofs.prefix.read_prefix.Goals as goal

-- the front of a message is that of the buffer into which it was written
same_front : (m : Msg) (b out : List ℕ) (n len : ℕ) → n < length b → IsMessage m (take len out) → b ≡ bytes_of_message m → take n b ≡ take n out
same_front m b out n len low is all =
    let whole : take len out ≡ b = is.spelled ∙ sym all in
    let size : length (take len out) ≡ length b = ap length whole in
    ap (take n) (sym whole) ∙ take-take n len out (omega (arith, size, length-take len out))

-- the fault of bytes is what reading them comes to
fault_read : (b : List ℕ) (r : Result Msg MsgFault) (e : MsgFault) → Parses b r → fault_of b ≡ Some e → r ≡ Err e
unfolding Parses
fault_read b (Ok m) e p f = let none : fault_of b ≡ None = p.0 in cc
fault_read b (Err x) e p f = cc

pub returns-clause-short : goal.returns-clause-short
returns-clause-short c ends =
    let m = c.args.m.now in
    let b = bytes_of_message m in
    let n = c.args.n in
    let is : IsMessage m b = record { form = c.encode.ensures.message.form; spelled = refl } in
    let same : take n b ≡ take n c.encode.new.out = same_front m b c.encode.new.out n c.encode.result c.requires.front c.encode.ensures.message refl in
    fault_read (take n c.encode.new.out) c.decode.result (Short n (needed m n)) c.decode.ensures.reads (ap fault_of (sym same) ∙ front_short m b n is c.requires.front ends)

pub returns-clause-fewer : goal.returns-clause-fewer
returns-clause-fewer c ends =
    let m = c.args.m.now in
    let b = bytes_of_message m in
    let n = c.args.n in
    let is : IsMessage m b = record { form = c.encode.ensures.message.form; spelled = refl } in
    let found = front_frames m b n is c.requires.front ends in
    let same : take n b ≡ take n c.encode.new.out = same_front m b c.encode.new.out n c.encode.result c.requires.front c.encode.ensures.message refl in
    (found.0, c.decode.ensures.only found.0 (subst (IsMessage found.0) same found.2), found.1)
