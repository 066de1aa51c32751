-- `write_header`: the bytes of the literal are the header's.
-- Rests on the contract of what is called.
use Rattle.interface.specs.Numbers.{bytes}
use Rattle.csv_file.specs.Csv.{csv_record, header}
use Rattle.csv_file.proofs.write_header.Goals as goal

pub returns : goal.returns
unfolding header csv_record bytes
returns c = c.copy.ensures
