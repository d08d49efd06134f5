-- `ventarico_wal_write` keeps its promise: refused as `judge_write` says, else the log that `log_of` says.
use Prim.Native.Nat.{ℕ}
use native.Mathlib.Omega.{arith}
use mathlib.Core.Path.{sym, ap, ◌∙◌}
use Rattle.record.specs.Rows.{rows}
use Rattle.record.specs.Record.{online_width}
use Rattle.rules.specs.Lent.{lent_of}
use Rattle.walwrite.proofs.Laws.{went, go_parts, pages_fit, rows_fit, write_asks, write_refused, write_done}
use Rattle.walwrite.proofs.ventarico_wal_write.Goals as goal

pub params_of-given-requires : goal.params_of-given-requires
params_of-given-requires c = (went _ _ _ _ _ c.judge_write.ensures c.in-Ok.is).0.sized.fixed

pub count_of-requires : goal.count_of-requires
count_of-requires c = omega (arith, (went _ _ _ _ _ c.judge_write.ensures c.in-Ok.is).0.sized.tables)

pub overflow_cast-pages : goal.overflow_cast-pages
overflow_cast-pages c = omega (arith, (went _ _ _ _ _ c.judge_write.ensures c.in-Ok.is).0.sized.pages, c.params_of-given.ensures.pages)

pub overflow_cast-list : goal.overflow_cast-list
overflow_cast-list c = omega (arith, (go_parts _ _ _ _ _ (went _ _ _ _ _ c.judge_write.ensures c.in-Ok.is).1).1)

pub invariant_of-pages : goal.invariant_of-pages
invariant_of-pages c =
    let p = c.params_of-given.ensures in
    let f = pages_fit _ _ _ (went _ _ _ _ _ c.judge_write.ensures c.in-Ok.is).0 p.size p.pages in
    record { small = f.0; all_stored = f.1 }

pub first_rows-requires : goal.first_rows-requires
first_rows-requires c = (omega arith, (omega arith, omega arith, rows_fit _ _ (went _ _ _ _ _ c.judge_write.ensures c.in-Ok.is).0 c.count_of.ensures.0))

pub write_log-requires : goal.write_log-requires
write_log-requires c =
    let p = c.params_of-given.ensures in
    write_asks _ _ _ _ _ _ _ p.size p.pages (went _ _ _ _ _ c.judge_write.ensures c.in-Ok.is).1

pub returns-in-Err : goal.returns-in-Err
returns-in-Err c = write_refused (lent_of c.args.fixed.now c.args.marks.now c.args.log.now c.args.stored.now c.args.tables.now c.args.online.now c.args.pool.now) _ _ _ _ _ _ _ _ _ c.judge_write.ensures c.in-Err.is c.from.ensures

pub returns-in-Ok : goal.returns-in-Ok
returns-in-Ok c =
    let p = c.params_of-given.ensures in
    write_done (lent_of c.args.fixed.now c.args.marks.now c.args.log.now c.args.stored.now c.args.tables.now c.args.online.now c.args.pool.now) _ _ _ _ _ _ _ _ _ _ _ (sym c.judge_write.ensures ∙ c.in-Ok.is) c.from-in-Ok.ensures p.size p.pages (c.first_rows.ensures ∙ ap (λ (n : ℕ). rows online_width n c.args.online.now 0) c.count_of.ensures.0) c.write_log.ensures
