use Rattle.type_table_io.proofs.report.RunErrorHasText.write_text.Goals as goal

pub returns-in-Malformed : goal.returns-in-Malformed
returns-in-Malformed g c = rw c.in-Malformed.is c.report.ensures

pub returns-in-TrailingBytes : goal.returns-in-TrailingBytes
returns-in-TrailingBytes g c = rw c.in-TrailingBytes.is c.report-in-TrailingBytes.ensures

pub returns-in-NoSuchType : goal.returns-in-NoSuchType
returns-in-NoSuchType g c = rw c.in-NoSuchType.is c.report_number.ensures

pub returns-in-Dangling : goal.returns-in-Dangling
returns-in-Dangling g c = rw c.in-Dangling.is c.report_number-in-Dangling.ensures

pub returns-in-Memory : goal.returns-in-Memory
returns-in-Memory g c = rw c.in-Memory.is c.report-in-Memory.ensures

pub returns-in-Input : goal.returns-in-Input
returns-in-Input g c = rw c.in-Input.is c.report-in-Input.ensures

pub returns-in-Output : goal.returns-in-Output
returns-in-Output g c = rw c.in-Output.is c.report-in-Output.ensures
