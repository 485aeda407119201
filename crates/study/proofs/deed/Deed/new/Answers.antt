use Rattle.std.proofs.Common.{length, take, refl}
use Rattle.table.specs.Rows.{view}
use Rattle.study.proofs.Turned.{lows_within}
use Rattle.study.proofs.deed.Deed.new.Goals as goal

pub returns-in-Order : goal.returns-in-Order
returns-in-Order g c =
    let rows = view c.args.table.now in (
      (take (length rows) c.in_default.field-0, c.in_default.ensures.decides c.requires),
      (take (length rows) c.in-Order.order, c.in-Order.ensures.decides (lows_within rows c.args.taken.now c.requires)),
      (_, refl, (c.in-Order.ensures.order, refl)),
    )
