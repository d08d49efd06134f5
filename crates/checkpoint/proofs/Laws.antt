-- The marks of pages with committed rows; and the state after the first j compactions: at the start, a turn, at the end; and close after the last.
use Prim.Native.Nat.{ℕ, suc, ◌+◌, ◌≤◌, ◌<◌}
use native.Mathlib.Omega.{arith}
use native.Mathlib.Numerals.{add-one}
use mathlib.Core.Path.{◌≡◌, refl, sym, ap, ◌∙◌}
use mathlib.Core.Bool.{Bool, true, false, cond, ◌&&◌}
use mathlib.Core.List.{List, [], ◌∷◌}
use lib.ListN.{length, get_or, replicate, length-replicate}
use lib.Dec.{eqb}
use borrow.Author.Tests.{ne_eqb}
use Rattle.record.specs.Rows.{rows, cons_if, keep, any}
use Rattle.record.specs.Record.{committed, on_page, committed_on}
use Rattle.rules.specs.Lent.{Lent, pages_of, last_of, logged_of, count_of, online_of}
use Rattle.rules.specs.Shape.{Shaped}
use Rattle.rules.specs.Steps.{due, foldable, from_frame, compacted, compact_step, closed, after_pages, checkpointed}
use Rattle.table.specs.Marks.{mark_pages}
use Rattle.table.proofs.Marks.{marked_page, marked_length}
use Rattle.std.specs.Prelude.{Option, None}
use Rattle.compact.specs.declared.Compacted.{Compacted}
use Rattle.compact.proofs.Laws.{step_not}
use Rattle.rules.proofs.Kept.{fixed_step, last_step, logged_step, logs_pages}
use Rattle.compact.proofs.Shapes.{shaped_step, foldable_step}
use Rattle.checkpoint.specs.Noted.{Noted}
use Rattle.checkpoint.specs.Halfway.{Halfway}

-- where no committed row is of a page, the page has no committed row
none_on : (p : ℕ) (l : List (List ℕ)) → any (on_page p) (keep committed l) ≡ false → length (keep (committed_on p) l) ≡ 0
unfolding any keep
none_on p [] h = refl
none_on p (r ∷ l) h = pick (committed r) (on_page p r) refl (none_on p l) h
  where
    pick : (c b : Bool) → on_page p r ≡ b → (any (on_page p) (keep committed l) ≡ false → length (keep (committed_on p) l) ≡ 0)
        → any (on_page p) (cons_if c r (keep committed l)) ≡ false → length (cons_if (b && c) r (keep (committed_on p) l)) ≡ 0
    pick true true e f k = absurd (mathlib.Core.Bool.false≢true (sym (rw e at k)))
    pick true false e f k = f (rw e at k)
    pick false true e f k = f k
    pick false false e f k = f k

-- the marks say which pages have no committed row
pub noted_all : (a : List ℕ) (s : Lent) (m : ℕ) → m ≡ count_of s → a ≡ mark_pages (keep committed (rows 19 m s.lost.online 0)) (replicate 1024 0) → Noted a s
noted_all a s m c h = record { long = ap length e ∙ marked_length (keep committed (online_of s)) (replicate 1024 0) ∙ z; none = one }
  where
    e : a ≡ mark_pages (keep committed (online_of s)) (replicate 1024 0)
    e = rw c at h

    z : length {A = ℕ} (replicate 1024 0) ≡ 1024
    z = length-replicate {A = ℕ} 1024 0

    one : (p : ℕ) → p < 1024 → (get_or a p 0 ≡ 1 → ⊥) → length (foldable s p) ≡ 0
    one p l k =
        let g : eqb (get_or a p 0) 1 ≡ any (on_page p) (keep committed (online_of s)) = marked_page (keep committed (online_of s)) a p l e in
        none_on p (online_of s) (sym g ∙ ne_eqb (get_or a p 0) 1 k)

-- a page without a mark: the step does nothing
pub step_unmarked : (min_del max_age : ℕ) (a : List ℕ) (s : Lent) (p : ℕ) → Shaped s → p < pages_of s → Noted a s → (get_or a p 0 ≡ 1 → ⊥)
    → (0 ≡ (compact_step min_del max_age s p).reads) × ((0 ≡ (compact_step min_del max_age s p).writes) × (s ≡ (compact_step min_del max_age s p).lent))
unfolding due
step_unmarked min_del max_age a s p w h n k =
    let z : length (foldable s p) ≡ 0 = n.none p (omega (arith, w.sized.pages)) k in
    step_not min_del max_age p s false (rw z) refl

-- a step reads and writes at most a page
one_most : (b : Bool) → cond b 0 1 ≤ 1
one_most true = omega arith
one_most false = omega arith

pub step_reads : (min_del max_age : ℕ) (s : Lent) (p : ℕ) → (compact_step min_del max_age s p).reads ≤ 1
unfolding compact_step compacted
step_reads min_del max_age s p = go (due s p min_del max_age)
  where
    go : (b : Bool) → (cond b (compacted s p) (record { lent = s; reads = 0; writes = 0; logs = 0 })).reads ≤ 1
    go true = one_most (from_frame s p)
    go false = omega arith

pub step_writes : (min_del max_age : ℕ) (s : Lent) (p : ℕ) → (compact_step min_del max_age s p).writes ≤ 1
unfolding compact_step compacted
step_writes min_del max_age s p = go (due s p min_del max_age)
  where
    go : (b : Bool) → (cond b (compacted s p) (record { lent = s; reads = 0; writes = 0; logs = 0 })).writes ≤ 1
    go true = omega arith
    go false = omega arith

-- a step that was not due counts for nothing
pub none_more : (count : Option Compacted → ℕ) (n k : ℕ) (d : Option Compacted) → count None ≡ 0 → d ≡ None → k ≡ n → k ≡ n + count d
none_more count n k d z e h = let y : count d ≡ 0 = ap count e ∙ z in omega arith

-- nothing compacted yet
pub after_none : (min_del max_age : ℕ) (o : Lent) → Shaped o → logged_of o ≤ last_of o → Halfway min_del max_age o o 0 0 0
unfolding after_pages
after_none min_del max_age o w h =
    record {
      within = omega arith;
      state = refl;
      read = refl;
      written = refl;
      reads_most = omega arith;
      writes_most = omega arith;
      shaped = w;
      fixed = refl;
      logged = h;
    }

-- one compaction more
after_lent : (min_del max_age j : ℕ) (o : Lent) → (after_pages min_del max_age (suc j) o).lent ≡ (compact_step min_del max_age (after_pages min_del max_age j o).lent j).lent
unfolding after_pages
after_lent min_del max_age j o = refl

after_reads : (min_del max_age j : ℕ) (o : Lent) → (after_pages min_del max_age (suc j) o).reads ≡ (after_pages min_del max_age j o).reads + (compact_step min_del max_age (after_pages min_del max_age j o).lent j).reads
unfolding after_pages
after_reads min_del max_age j o = refl

after_writes : (min_del max_age j : ℕ) (o : Lent) → (after_pages min_del max_age (suc j) o).writes ≡ (after_pages min_del max_age j o).writes + (compact_step min_del max_age (after_pages min_del max_age j o).lent j).writes
unfolding after_pages
after_writes min_del max_age j o = refl

module _ (min_del max_age : ℕ) (o s : Lent) (reads writes j : ℕ) (a : Halfway min_del max_age o s reads writes j) where
  -- what the next compaction asks
  pub next_there : (n : ℕ) → n ≡ pages_of o → j < n → j < pages_of s
  next_there n k h = rw (a.fixed, ← k) h

  -- the counts stay small
  pub reads_fit : (n r : ℕ) → n ≡ pages_of o → j < n → Shaped o → r ≡ (compact_step min_del max_age s j).reads → reads + r < 4294967296
  reads_fit n r k h w e = omega (arith, a.reads_most, w.sized.pages, step_reads min_del max_age s j)

  pub writes_fit : (n w : ℕ) → n ≡ pages_of o → j < n → Shaped o → w ≡ (compact_step min_del max_age s j).writes → writes + w < 4294967296
  writes_fit n w k h y e = omega (arith, a.writes_most, y.sized.pages, step_writes min_del max_age s j)

  pub after_more : (s' : Lent) (r w n : ℕ) → n ≡ pages_of o → j < n
      → (r ≡ (compact_step min_del max_age s j).reads) × ((w ≡ (compact_step min_del max_age s j).writes) × (s' ≡ (compact_step min_del max_age s j).lent))
      → Halfway min_del max_age o s' (reads + r) (writes + w) (j + 1)
  after_more s' r w n k h e =
      let h' : j < pages_of s = next_there n k h in
      let l : s' ≡ (compact_step min_del max_age s j).lent = e.1.1 in
      let er : (compact_step min_del max_age s j).reads ≡ (compact_step min_del max_age (after_pages min_del max_age j o).lent j).reads = ap (λ (x : Lent). (compact_step min_del max_age x j).reads) a.state in
      let ew : (compact_step min_del max_age s j).writes ≡ (compact_step min_del max_age (after_pages min_del max_age j o).lent j).writes = ap (λ (x : Lent). (compact_step min_del max_age x j).writes) a.state in
      record {
        within = omega arith;
        state = rw (add-one j) (l ∙ ap (λ (x : Lent). (compact_step min_del max_age x j).lent) a.state ∙ sym (after_lent min_del max_age j o));
        read = rw (add-one j) (omega (arith, a.read, e.0, er, after_reads min_del max_age j o));
        written = rw (add-one j) (omega (arith, a.written, e.1.0, ew, after_writes min_del max_age j o));
        reads_most = omega (arith, a.reads_most, e.0, step_reads min_del max_age s j);
        writes_most = omega (arith, a.writes_most, e.1.0, step_writes min_del max_age s j);
        shaped = rw l (shaped_step min_del max_age s j a.shaped h');
        fixed = rw l (fixed_step min_del max_age s j ∙ a.fixed);
        logged = rw l (omega (arith, last_step min_del max_age s j, logged_step min_del max_age s j, a.logged));
      }

  -- the marks still say so
  pub noted_more : (m : List ℕ) (s' : Lent) (n : ℕ) → n ≡ pages_of o → j < n → Noted m s → s' ≡ (compact_step min_del max_age s j).lent → Noted m s'
  noted_more m s' n k h q e =
      record {
        long = q.long;
        none = λ p l f. rw e (omega (arith, foldable_step min_del max_age s j a.shaped (next_there n k h) p, q.none p l f));
      }

-- close after the last
pub after_all : (min_del max_age : ℕ) (o s s' : Lent) (reads writes : ℕ) → Halfway min_del max_age o s reads writes (pages_of o) → s' ≡ (closed s).lent
    → (reads ≡ (checkpointed min_del max_age o).reads) × ((writes ≡ (checkpointed min_del max_age o).writes) × (s' ≡ (checkpointed min_del max_age o).lent))
unfolding checkpointed closed
after_all min_del max_age o s s' reads writes a e = (omega (arith, a.read), (omega (arith, a.written), e ∙ ap (λ (x : Lent). (closed x).lent) a.state))

-- its log writes: none of a compaction, one of close
pub checkpoint_logs : (min_del max_age : ℕ) (s : Lent) → (checkpointed min_del max_age s).logs ≡ 1
unfolding checkpointed closed
checkpoint_logs min_del max_age s = omega (arith, logs_pages min_del max_age (pages_of s) s)
