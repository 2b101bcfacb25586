use Rattle.std.proofs.Common.{◌≡◌, ◌≤◌, vec_len, vec_capacity}
use Rattle.bus_run.specs.Settings.{SettingsOf}
use Rattle.bus_run.proofs.settings.all_settings.Given as goal

abbrev pub invariant-loop-device : goal.invariant-loop-device
invariant-loop-device l = record {
  are : SettingsOf l.fn.lines l.device l.settings.items;
  len : vec_len l.settings ≡ l.device;
  room : l.fn.devices ≤ vec_capacity l.settings;
}
