-- `compact::delete_folded`: the page's committed rows stand where the survey says.
use Rattle.record.proofs.Rows.{length_rows}
use Rattle.compact.proofs.delete_folded.Goals as goal

pub delete-k-requires : goal.delete-k-requires
delete-k-requires c =
    let u = c.requires.3 in
    let n = length_rows 19 c.args.m c.args.online.now 0 in
    (c.requires.1, c.requires.2, u.ordered, rw n at u.within, u.from, rw n at u.to)
