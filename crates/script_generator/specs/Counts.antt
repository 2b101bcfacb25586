-- What came of a load, in one line.
use Rattle.std.specs.Prelude.{ℕ, List, [], ◌++◌, length, codes, count_by}
use Rattle.std.specs.List.{flat_map, sum}
use Rattle.std.specs.Fmt.{decimal}
use Rattle.scsi_disk.specs.declared.reply.DiskReply.{DiskReply}
use Rattle.scsi_disk.specs.declared.reply.DiskReply.TheVariants.{Good, Check}
use Rattle.bus_script.specs.declared.outcome.Reply.{Reply}
use Rattle.bus_script.specs.declared.outcome.Reply.TheVariants.{Disk as ReplyDisk}
use Rattle.bus_script.specs.declared.outcome.LineResult.{LineResult}
use Rattle.bus_script.specs.declared.outcome.LineResult.TheVariants.{Version as Agreed, Done, RescindedServed, Unserved, Modified, Unsupported, Gone, Closed}
use Rattle.bus_script.specs.Report.{is_done}

-- the bytes that a disk gave
abbrev pub disk_back : DiskReply → List ℕ
disk_back (Good back) = back
disk_back (Check key asc ascq) = []

abbrev pub reply_back : Reply → List ℕ
reply_back (ReplyDisk reply) = disk_back reply
reply_back _ = []

-- the bytes that came back to a line
abbrev pub back_of : LineResult → List ℕ
back_of (Agreed count) = []
back_of (Done serial reply) = reply_back reply
back_of (RescindedServed serial) = []
back_of Unserved = []
back_of (Modified vp answered) = []
back_of Unsupported = []
back_of Gone = []
back_of Closed = []

-- the bytes that were read, line by line
abbrev pub bytes_read : List LineResult → List ℕ
bytes_read results = flat_map back_of results

-- load requests COUNT done D bytes B sum S
abbrev pub load_text : ℕ → ℕ → ℕ → ℕ → List ℕ
load_text requests done bytes sum =
    codes "load requests " ++ (decimal requests ++ (codes " done " ++ (decimal done ++ (codes " bytes " ++ (decimal bytes ++ (codes " sum " ++ (decimal sum ++ codes "\n")))))))

-- how many requests there were, how many of them are done, how many bytes were read, and the sum of these bytes
abbrev pub load_output : ℕ → List LineResult → List ℕ
load_output requests results = load_text requests (count_by is_done results) (length (bytes_read results)) (sum (bytes_read results))
