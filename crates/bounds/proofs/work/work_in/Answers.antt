use Rattle.std.proofs.Common.{arith}
use Rattle.bounds.proofs.Works.{whole_le}
use Rattle.bounds.proofs.work.work_in.Goals as goal

pub overflow_mul-result : goal.overflow_mul-result
overflow_mul-result c = omega (arith, whole_le c.args.q c.period-period.result c.wcet-wcet.result (omega (arith, c.args.row.ok, c.wcet-wcet.ensures, c.period-period.ensures)))

pub overflow_add-result : goal.overflow_add-result
overflow_add-result c = omega (arith, whole_le c.args.q c.period-period.result c.wcet-wcet.result (omega (arith, c.args.row.ok, c.wcet-wcet.ensures, c.period-period.ensures)), c.args.row.ok, c.wcet-wcet.ensures)
