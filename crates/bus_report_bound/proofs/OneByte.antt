-- The histories of disks whose blocks are each of one byte.
use Rattle.std.proofs.Common.{◌≤◌, List, [], ◌∷◌, length, sym, subst, arith}
use Rattle.std.specs.List.{AllByRecursion}
use Rattle.hist_lock.specs.declared.history.Entry.{Entry}
use Rattle.hist_lock.specs.Legal.{IsLegal}
use Rattle.scsi_disk.specs.DiskModel.{DiskState, disk_reply, disk_after}
use Rattle.scsi_disk.specs.declared.request.DiskRequest.{DiskRequest}
use Rattle.scsi_disk.specs.declared.reply.DiskReply.{DiskReply}
use Rattle.scsi_disk.specs.declared.reply.DiskReply.TheVariants.{Good, Check}
use Rattle.scsi_disk.proofs.OneByteLaws.{IsOneByte, HasPlainBlocks, GoodHas, stays_plain, reply_has}
use Rattle.bus_script.specs.Report.{disk_runs}
use Rattle.script_text.specs.Runs.{runs_of}
use Rattle.bus_report_bound.proofs.RunCounts.{runs_most, runs_of_blocks}

few_of_good : (r : DiskReply) → GoodHas (λ bytes. length (runs_of bytes) ≤ 36) r → disk_runs r ≤ 36
few_of_good (Good bytes) has = has
few_of_good (Check key asc ascq) has = omega arith

-- such a disk's reply has few runs
few_reply : (d : DiskState) (q : DiskRequest) → HasPlainBlocks d → disk_runs (disk_reply d q) ≤ 36
few_reply d q plain =
    few_of_good (disk_reply d q) (reply_has d (λ bytes. length (runs_of bytes) ≤ 36) (λ bytes short. omega (arith, runs_most bytes, short))
    (λ lba count few. omega (arith, runs_of_blocks d.bytes_at plain lba count, few)) q)

-- where the data of each request are all the same byte, each reply has few runs
pub entries_few : {S : Type 0} (d : DiskState) (es : List (Entry S DiskRequest DiskReply)) → HasPlainBlocks d → AllByRecursion (λ e. IsOneByte e.request.out) es → IsLegal disk_after disk_reply d es
    → AllByRecursion (λ e. disk_runs e.reply ≤ 36) es
entries_few d [] plain ones log = tt
entries_few d (e ∷ es) plain ones log =
    (subst (λ r. disk_runs r ≤ 36) (sym log.0) (few_reply d e.request plain), entries_few (disk_after d e.request) es (stays_plain d e.request plain ones.0) ones.1 log.1)
