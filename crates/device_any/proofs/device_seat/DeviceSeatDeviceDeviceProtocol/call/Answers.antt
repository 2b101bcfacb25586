use Rattle.device_kinds.proofs.KindLaws.{beat_fits, down_fits, disk_reply_fits, net_reply_fits}
use Rattle.kvp_format.proofs.PairLaws.{pair_reply_fits}
use Rattle.device_any.proofs.SeatLaws.{fits_at}
use Rattle.device_any.proofs.device_seat.DeviceSeatDeviceDeviceProtocol.call.Goals as goal

pub returns-in-Beat-clause-fits : goal.returns-in-Beat-clause-fits
returns-in-Beat-clause-fits g c = fits_at _ c.in-Beat.is c.requires.serves c.in-Ic.is (beat_fits c.in-Ic.own c.with-receipt.result.reply c.with-receipt.ensures.fits)

pub returns-in-Down-clause-fits : goal.returns-in-Down-clause-fits
returns-in-Down-clause-fits g c = fits_at _ c.in-Down.is c.requires.serves c.in-Ic-request.is (down_fits c.in-Ic-request.own c.with-receipt-in-Down.result.reply c.with-receipt-in-Down.ensures.fits)

pub returns-in-Disk-clause-fits : goal.returns-in-Disk-clause-fits
returns-in-Disk-clause-fits g c = fits_at _ c.in-Disk.is c.requires.serves c.in-Disk-request.is (disk_reply_fits c.in-Disk-request.own c.with-receipt-in-Disk.result.reply c.with-receipt-in-Disk.ensures.fits)

pub returns-in-Net-clause-fits : goal.returns-in-Net-clause-fits
returns-in-Net-clause-fits g c = fits_at _ c.in-Net.is c.requires.serves c.in-Net-request.is (net_reply_fits c.in-Net-request.message c.with-receipt-in-Net.result.reply c.with-receipt-in-Net.ensures.fits)

pub returns-in-Kvp-clause-fits : goal.returns-in-Kvp-clause-fits
returns-in-Kvp-clause-fits g c = fits_at _ c.in-Kvp.is c.requires.serves c.in-Kvp-request.is (pair_reply_fits c.in-Kvp-request.own c.with-receipt-in-Kvp.result.reply c.with-receipt-in-Kvp.ensures.fits)
