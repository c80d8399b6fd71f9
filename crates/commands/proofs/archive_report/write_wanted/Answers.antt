use Rattle.commands.proofs.archive_report.write_wanted.Goals as goal

pub returns-in-Rows : goal.returns-in-Rows
returns-in-Rows g c = rw c.in-Rows.is c.listing.ensures

pub returns-in-Days : goal.returns-in-Days
returns-in-Days g c = rw c.in-Days.is c.day_table.ensures

pub returns-in-Months : goal.returns-in-Months
returns-in-Months g c = rw c.in-Months.is c.month_table.ensures
