use Rattle.hexadecimal.proofs.Again.{line_reads_again}
use Rattle.hexadecimal.proofs.lines.write_line.Goals as goal

pub returns-then-is_empty-clause-reads_again : goal.returns-then-is_empty-clause-reads_again
returns-then-is_empty-clause-reads_again c = line_reads_again

pub returns-then-memory-bytes-clause-reads_again : goal.returns-then-memory-bytes-clause-reads_again
returns-then-memory-bytes-clause-reads_again c = line_reads_again

pub returns-clause-reads_again : goal.returns-clause-reads_again
returns-clause-reads_again c = line_reads_again
