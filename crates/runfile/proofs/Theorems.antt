-- The statements about run files and their reader, proved.
-- Assumes nothing.
use Rattle.runfile.specs.Statements.{ReadsRunFiles}
use Rattle.runfile.proofs.Heard.{heard_is_reading}
use Rattle.runfile.proofs.RunFiles.{written_read, read_run}

pub reads_run_files : ReadsRunFiles
reads_run_files = record { written_read = written_read; read_run = read_run; heard_is_reading = heard_is_reading }
