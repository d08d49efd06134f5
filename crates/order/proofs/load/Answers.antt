-- `load` meets its contract: the slots behind the frames stay zero.
use Rattle.std.proofs.Common.{rules, ◌≡◌, ◌≤◌, length}
use Rattle.order.proofs.Spare.{spare_after, length_after, fits_after}
use Rattle.order.proofs.load.Goals as goal

pub invariant_of-result : goal.invariant_of-result
invariant_of-result c = let long : length c.copy.new.to ≡ c.args.used = search rules in
    let small : c.args.used ≤ 65 = search rules in
    (length_after c.args.used 65 _ long small, fits_after c.args.used 65 _ long small, spare_after _ 65 _ long)
