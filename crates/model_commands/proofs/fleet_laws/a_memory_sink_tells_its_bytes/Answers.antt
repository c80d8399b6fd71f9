use Rattle.model_commands.proofs.fleet_laws.a_memory_sink_tells_its_bytes.Goals as goal

pub returns : goal.returns
returns c = λ before after bytes wrote. wrote
