use Rattle.std.proofs.Common.{◌<◌, arith, refl}
use Rattle.std.specs.Fmt.{decimal}
use Rattle.station_base.specs.Period.{IsPeriod}
use Rattle.vantage_frames.specs.LineWriting.{line_of, bytes_text, AreInEeprom}
use Rattle.vantage_frames.proofs.Written.{bytes_written, packets_written, period_written}
use Rattle.vantage_frames.proofs.writing.write_line.Goals as goal

pub returns-in-LoopFor-clause-line : goal.returns-in-LoopFor-clause-line
unfolding line_of
returns-in-LoopFor-clause-line c =
    let said = rw c.in-LoopFor.is at c.requires in
    rw c.in-LoopFor.is (decimal c.in-LoopFor.packets, refl, packets_written c.in-LoopFor.packets said.0 said.1)

pub returns-in-EepromRead-clause-line : goal.returns-in-EepromRead-clause-line
unfolding line_of
returns-in-EepromRead-clause-line c =
    let small : c.in-EepromRead.count < 256 = omega arith in
    let said : AreInEeprom c.in-EepromRead.at c.in-EepromRead.count = rw c.in-EepromRead.is at c.requires in
    rw c.in-EepromRead.is (bytes_text c.in-EepromRead.at c.in-EepromRead.count, refl, bytes_written c.in-EepromRead.at c.in-EepromRead.count small said)

pub returns-in-EepromWrite-clause-line : goal.returns-in-EepromWrite-clause-line
unfolding line_of
returns-in-EepromWrite-clause-line c =
    let small : c.in-EepromWrite.count < 256 = omega arith in
    let said : AreInEeprom c.in-EepromWrite.at c.in-EepromWrite.count = rw c.in-EepromWrite.is at c.requires in
    rw c.in-EepromWrite.is (bytes_text c.in-EepromWrite.at c.in-EepromWrite.count, refl, bytes_written c.in-EepromWrite.at c.in-EepromWrite.count small said)

pub returns-in-SetPeriod-clause-line : goal.returns-in-SetPeriod-clause-line
unfolding line_of
returns-in-SetPeriod-clause-line c =
    let period : IsPeriod c.in-SetPeriod.period = rw c.minutes.ensures.minutes at c.minutes.ensures.period in
    rw c.in-SetPeriod.is (decimal c.in-SetPeriod.period, refl, period_written c.in-SetPeriod.period period)
