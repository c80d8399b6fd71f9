use Rattle.std.proofs.Common.{rules}
use Rattle.model_commands.proofs.BlankPackets.{is_blank}
use Rattle.model_commands.proofs.packets.blank_packet.Goals as goal

pub returns : goal.returns
returns c = is_blank c.blank.result (record {
  extra_temps = search rules;
  soil_temps = search rules;
  leaf_temps = search rules;
  extra_humids = search rules;
  soil_moists = search rules;
  leaf_wets = search rules;
  alarms = search rules;
}) c.blank.ensures
