use Rattle.std.proofs.Common.{length, arith}
use Rattle.digits.proofs.Fields.{field_back, exactly_one_field}
use Rattle.digits.proofs.writing.write_field.Goals as goal

pub returns-then-width-gt-MOST_BYTES-clause-one_field : goal.returns-then-width-gt-MOST_BYTES-clause-one_field
returns-then-width-gt-MOST_BYTES-clause-one_field c = exactly_one_field

pub returns-then-number-limit-clause-one_field : goal.returns-then-number-limit-clause-one_field
returns-then-number-limit-clause-one_field c = exactly_one_field

pub returns-clause-reads_back : goal.returns-clause-reads_back
returns-clause-reads_back c =
    λ done. field_back c.args.order (length c.args.field.now) c.args.number _ (omega arith) (omega (arith, c.limit.ensures)) c.write_in_order.ensures

pub returns-clause-one_field : goal.returns-clause-one_field
returns-clause-one_field c = exactly_one_field
