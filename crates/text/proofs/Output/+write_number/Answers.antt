-- `write_number` meets its contract: the digits of the tenth, if there are any, and then the last one.
use Rattle.std.proofs.Common.{sym, ap, arith, length}
use Rattle.text.proofs.WroteLaws.{adds_length, adds_then, adds_as}
use Rattle.text.proofs.DecimalLaws.{decimal_small, decimal_large, decimal-length}
use Rattle.text.proofs.Output.+write_number.Goals as goal

pub write_byte-requires : goal.write_byte-requires
write_byte-requires t c = omega (arith, c.requires, ap length (decimal_small c.args.n (omega arith)))

pub returns-then-n-lt10 : goal.returns-then-n-lt10
returns-then-n-lt10 t c = adds_as (sym (decimal_small c.args.n (omega arith))) c.write_byte.ensures

pub write_number-requires : goal.write_number-requires
write_number-requires t c = (omega arith, omega (arith, c.requires, decimal-length c.args.n (omega arith)))

pub write_byte-requires-2 : goal.write_byte-requires-2
write_byte-requires-2 t c =
    let w = c.write_number.ensures in
    omega (arith, c.requires, decimal-length c.args.n (omega arith), w.wrote.place, adds_length w)

pub returns : goal.returns
returns t c =
    adds_as (sym (decimal_large c.args.n (omega arith))) (adds_then c.write_number.ensures c.write_byte-2.ensures)
