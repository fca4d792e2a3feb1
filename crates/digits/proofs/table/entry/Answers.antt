use Rattle.std.proofs.Common.{arith}
use Rattle.std.proofs.lemmas.List.FromFn.{get_or-map-range_with_len}
use Rattle.digits.specs.Bytes.{number_of_byte}
use Rattle.digits.proofs.table.entry.Goals as goal

-- the table is the list of the numbers of the bytes 0 to 255, by computation
pub returns : goal.returns
returns c = get_or-map-range_with_len number_of_byte 0 256 c.args.place c.args.place 0 (omega arith) (omega arith)
