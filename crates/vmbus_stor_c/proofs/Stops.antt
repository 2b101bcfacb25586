-- What isn't stopped has no status.
use Rattle.std.proofs.Common.{◌≡◌, Result, Ok, Err, refl, rules}
use Rattle.std.specs.Prelude.{IsOk}
use Rattle.scsi_disk.specs.declared.request.DiskRequest.{DiskRequest}
use Rattle.stor_proto.specs.declared.stop.SrbStop.{SrbStop}
use Rattle.vmbus_stor_c.specs.Storage.{stop_in}

pub goes_on : (r : Result DiskRequest SrbStop) → IsOk r → 0 ≡ stop_in r
goes_on (Ok r) is = refl
goes_on (Err stop) is = search rules
