use Rattle.std.proofs.Common.{rules, ◌-◌, Some, ap, length}
use Rattle.casper_io.proofs.PieceLemmas.{rest_of_line, too_long_piece, part_of_line}
use Rattle.casper_io.proofs.line.Line.take_piece.Goals as goal

pub returns-in-Some-clause-gives : goal.returns-in-Some-clause-gives
returns-in-Some-clause-gives c =
    let grown = rest_of_line c.args.bytes.now c.args.self.now c.push_all.new.list.items c.min-reach.result c.in-Some.at
    (search rules) (search rules) (search rules) (search rules) (search rules) in
    (_, grown.0, ap Some grown.1)

pub returns-in-None-clause-gives : goal.returns-in-None-clause-gives
returns-in-None-clause-gives c =
    let grown = too_long_piece c.args.bytes.now c.args.self.now c.push_all-in-None.new.list.items c.min-reach.result (1024 - length c.args.self.now)
    (search rules) (search rules) (search rules) (search rules) (search rules) in
    (_, grown.0, grown.1, grown.2, grown.3, ap Some grown.4)

pub returns-in-None-3-clause-gives : goal.returns-in-None-3-clause-gives
returns-in-None-3-clause-gives c =
    let grown = part_of_line c.args.bytes.now c.args.self.now c.push_all-in-None-3.new.list.items c.min-reach.result
    (search rules) (search rules) (search rules) (search rules) (search rules) in
    (_, grown.0, grown.1, ap Some grown.2)
