use Rattle.hostile_lines.proofs.row.part_row.Goals as goal

pub returns-in_ok-gpadl_of-in-Some-clause-range : goal.returns-in_ok-gpadl_of-in-Some-clause-range
returns-in_ok-gpadl_of-in-Some-clause-range c = c.in_ok-gpadl_of-in-Some.ensures.range c.args.d

pub returns-in_ok-packet_of-in-Some-one_digits-clause-range : goal.returns-in_ok-packet_of-in-Some-one_digits-clause-range
returns-in_ok-packet_of-in-Some-one_digits-clause-range c = c.in_ok-packet_of-in-Some-one_digits.ensures.range c.args.d

pub returns-in_ok-vstor_of-in-Some-one_digits-2-clause-range : goal.returns-in_ok-vstor_of-in-Some-one_digits-2-clause-range
returns-in_ok-vstor_of-in-Some-one_digits-2-clause-range c = c.in_ok-vstor_of-in-Some-one_digits-2.ensures.range c.args.d
