-- What is shown of header error control.
-- Assumes nothing.
use Rattle.repair.specs.Statements.{Repairs}
use Rattle.repair.proofs.Generator.{the_code}
use Rattle.repair.proofs.Absent.{absent_refused}
use Rattle.repair.proofs.Setting.{header_read}

pub repairs : Repairs
repairs = record { the_code = the_code; absent_refused = absent_refused; header_read = header_read }
