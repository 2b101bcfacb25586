use Rattle.std.proofs.Common.{◌≡◌, ◌≤◌, List, ℕ, length, sym, ap, subst, ◌∙◌}
use Rattle.scsi_disk.specs.declared.reply.DiskReply.TheVariants.{Good, Check}
use Rattle.stor_proto.specs.Srbs.{completed, good_srb, reply_of, IsReadBack}
use Rattle.stor_proto.specs.declared.vstor.Vstor.{Vstor}
use Rattle.stor_proto.proofs.SrbLaws.{good_read_back, check_read_back}
use Rattle.stor_proto.proofs.host.srb_reply.Goals as goal

pub returns-in-Good-clause-read_back : goal.returns-in-Good-clause-read_back
returns-in-Good-clause-read_back c =
    let p = c.args.p.now in
    let back = c.in-Good.back in
    let P : Vstor → Type 0 = λ v. IsReadBack p (Good back) v in
    let is : c.good.result ≡ reply_of p (Good back) = c.good.ensures.value ∙ ap (λ (bs : List ℕ). completed p (good_srb p (length bs))) c.bytes.ensures.value in
    let few = subst (λ (bs : List ℕ). length bs ≤ 4096) c.bytes.ensures.value c.bytes.ensures.most in
    rw c.in-Good.is (subst P (sym is) (good_read_back p c.good.ensures.len back few))

pub returns-in-Check-clause-read_back : goal.returns-in-Check-clause-read_back
returns-in-Check-clause-read_back c =
    let p = c.args.p.now in
    let P : Vstor → Type 0 = λ v. IsReadBack p (Check c.in-Check.key c.in-Check.asc c.in-Check.ascq) v in
    rw c.in-Check.is (subst P (sym c.check.ensures.value) (check_read_back p c.check.ensures.len c.in-Check.key c.in-Check.asc c.in-Check.ascq))
