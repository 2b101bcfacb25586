use Rattle.std.proofs.Common.{rules}
use Rattle.bus_run.proofs.SettingLines.{settings_more}
use Rattle.bus_run.proofs.settings.all_settings.Goals as goal

pub loop-device-preserved : goal.loop-device-preserved
loop-device-preserved c = record {
  are = settings_more c.args.lines.now c.loop-device.device c.loop-device.settings.items c.push_reserved.new.self.items c.settings_of.result c.loop-device.invariant.are c.push_reserved.ensures.items c.settings_of.ensures;
  len = search rules;
  room = search rules;
}
