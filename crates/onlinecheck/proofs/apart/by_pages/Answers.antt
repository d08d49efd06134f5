-- `onlinecheck::apart::by_pages` meets its contract: from empty chains and no marks, rows that are free page by page are apart.
use Rattle.onlinecheck.proofs.Bytes.{pass_none}
use Rattle.onlinecheck.proofs.apart.by_pages.Goals as goal

pub rows_apart-requires : goal.rows_apart-requires
rows_apart-requires c = (c.requires.0, c.requires.1, c.requires.2, c.link.ensures, pass_none c.args.online.now _)
