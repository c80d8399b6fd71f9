use Rattle.station_top.proofs.program.perform.Goals as goal

pub returns-in-Some-Pages : goal.returns-in-Some-Pages
returns-in-Some-Pages g c = rw c.in-Some-Pages.is (rw c.in-Some-Pages.field-0-is c.print_file.ensures)

pub returns-in-Some-CorrectedPages : goal.returns-in-Some-CorrectedPages
returns-in-Some-CorrectedPages g c = rw c.in-Some-CorrectedPages.is (rw c.in-Some-CorrectedPages.field-0-is c.corrected_pages.ensures)

pub returns-in-Some-Task : goal.returns-in-Some-Task
returns-in-Some-Task g c = rw c.in-Some-Task.is (rw c.in-Some-Task.field-0-is c.call_for.ensures)

pub returns-in-Some-Report : goal.returns-in-Some-Report
returns-in-Some-Report g c = rw c.in-Some-Report.is (rw c.in-Some-Report.field-0-is c.report.ensures)

pub returns-in-Some-Replay : goal.returns-in-Some-Replay
returns-in-Some-Replay g c = rw c.in-Some-Replay.is (rw c.in-Some-Replay.field-0-is c.replay_files.ensures)

pub returns-in-Some-Copy : goal.returns-in-Some-Copy
returns-in-Some-Copy g c = rw c.in-Some-Copy.is (rw c.in-Some-Copy.field-0-is c.copy_files.ensures)

pub returns-in-Some-Import : goal.returns-in-Some-Import
returns-in-Some-Import g c = rw c.in-Some-Import.is (rw c.in-Some-Import.field-0-is c.import_text.ensures)

pub returns-in-Some-Station : goal.returns-in-Some-Station
returns-in-Some-Station g c = rw c.in-Some-Station.is (rw c.in-Some-Station.field-0-is c.catch_up.ensures)

pub returns-in-Some-Stay : goal.returns-in-Some-Stay
returns-in-Some-Stay g c = rw c.in-Some-Stay.is (rw c.in-Some-Stay.field-0-is c.stay.ensures)

pub returns-in-Some-Console : goal.returns-in-Some-Console
returns-in-Some-Console g c = rw c.in-Some-Console.is (rw c.in-Some-Console.field-0-is c.serve_files.ensures)

pub returns-in-Some-Soft : goal.returns-in-Some-Soft
returns-in-Some-Soft g c = rw c.in-Some-Soft.is (rw c.in-Some-Soft.field-0-is c.soft_rows.ensures)

pub returns-in-Some-Climate : goal.returns-in-Some-Climate
returns-in-Some-Climate g c = rw c.in-Some-Climate.is (rw c.in-Some-Climate.field-0-is c.print_climate.ensures)

pub returns-in-Some-Serve : goal.returns-in-Some-Serve
returns-in-Some-Serve g c = rw c.in-Some-Serve.is (rw c.in-Some-Serve.field-0-is c.answer_requests.ensures)

pub returns-in-Some-Fleet : goal.returns-in-Some-Fleet
returns-in-Some-Fleet g c = rw c.in-Some-Fleet.is (rw c.in-Some-Fleet.field-0-is c.run_fleet.ensures)
