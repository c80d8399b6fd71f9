use Rattle.std.proofs.Common.{◌++◌}
use Rattle.replay_laws.specs.DumpCounts.{dump_counts}
use Rattle.replay_laws.specs.Schedule.{records}
use Rattle.replay_laws.proofs.CountedRows.{few_of}
use Rattle.replay_laws.proofs.run_laws.no_more_rows_than_records.Goals as goal

pub returns-clause-found : goal.returns-clause-found
returns-clause-found c = λ settings steps ok past rows h. few_of settings (records steps) ok.rises ok.are_records past.dumps rows h.gathers

pub returns-clause-rounds : goal.returns-clause-rounds
returns-clause-rounds c = λ settings steps ok past round h. few_of settings (records steps) ok.rises ok.are_records (past.dumps ++ dump_counts round.tried) round.rows h.gathers
