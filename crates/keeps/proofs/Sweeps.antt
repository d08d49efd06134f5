-- A checkpoint with min_del 1 on any sound tables: no committed record is online afterwards, the log is empty, and the records of open transactions are there still.
use Prim.Native.Nat.{ℕ, zero, suc, ◌+◌, ◌*◌, ◌-◌, ◌≤◌, ◌<◌}
use native.Mathlib.Omega.{arith}
use mathlib.Core.Path.{◌≡◌, refl, sym, ap, ◌∙◌}
use mathlib.Core.Bool.{Bool, true, false, cond, not, ◌&&◌, ◌||◌, true≢false}
use mathlib.Core.List.{List, []}
use lib.ListN.{length, replicate, length-replicate}
use lib.Dec.{eqb, leb, ltb}
use borrow.Author.Tests.{eqb-false, eq-eqb, leb-false, ltb-false, le-ltb}
use Rattle.word.specs.Word.{num, put}
use Rattle.word.proofs.Laws.{length_put}
use Rattle.word.proofs.Puts.{num_put}
use Rattle.record.specs.Part.{with_part}
use Rattle.record.specs.Rows.{keep}
use Rattle.record.specs.Record.{page_of, committed, committed_on, greatest, smallest}
use Rattle.record.proofs.Parts.{length_with}
use Rattle.rules.specs.Lent.{Lent, size_of, pages_of, online_size_of, last_of, logged_of, stamp_at, dirty_at, online_of}
use Rattle.rules.specs.Sound.{every, sound}
use Rattle.rules.specs.Steps.{left, foldable, due, compacted, compact_step, lowered, dropped_by, closed, after_pages, checkpointed}
use Rattle.rules.proofs.Every.{every_keep, every_kept_where}
use Rattle.rules.proofs.Extremes.{smallest_nothing}
use Rattle.rules.proofs.Needed.{unfolded_open}
use Rattle.rules.proofs.Clauses.{formed_page}
use Rattle.redo.proofs.Views.{keep_none}
use Rattle.redo.proofs.Reader.{every_both, none_each}
use Rattle.seats.proofs.Loops.{any_kept}
use Rattle.readback.proofs.Seen.{Whole, whole}
use Rattle.readback.proofs.Tables.{pages_below}
use Rattle.readback.proofs.Lost.{reads_compacted, reads_closed}
use Rattle.rules.proofs.Kept.{length_lowered}
use Rattle.keeps.proofs.Tests.{every_all}
use Rattle.keeps.proofs.Clauses.{sound_sized, sound_whole, sound_holds}

-- of an open transaction
abbrev pub uncommitted : List ℕ → Bool
uncommitted r = not (committed r)

-- not a committed row of the first j pages
abbrev past : ℕ → List ℕ → Bool
past j r = not (committed r && ltb (page_of r) j)

-- t is what compact for each of the first j pages leaves of s
pub record Sweeps (s t : Lent) (j : ℕ) : Type 0 where
  pub reads : Whole t
  pub fixed : t.durable.fixed ≡ s.durable.fixed
  pub marks : length t.durable.marks ≡ length s.durable.marks
  pub below : pages_below (pages_of s) (online_of t) ≡ true
  pub swept : every (past j) (online_of t) ≡ true
  pub still : keep uncommitted (online_of t) ≡ keep uncommitted (online_of s)

-- one page more
past_more : (j : ℕ) (r : List ℕ) → not (committed_on j r) ≡ true → past j r ≡ true → past (suc j) r ≡ true
past_more j r h k = go (committed r) refl (ltb (page_of r) j) refl (eqb (page_of r) j) refl
  where
    go : (c : Bool) → committed r ≡ c → (b : Bool) → ltb (page_of r) j ≡ b → (d : Bool) → eqb (page_of r) j ≡ d → not (c && ltb (page_of r) (suc j)) ≡ true
    go false ec b eb d ed = refl
    go true ec true eb d ed = absurd (true≢false (sym k ∙ ap (λ (t : Bool). not (t && ltb (page_of r) j)) ec ∙ ap not eb))
    go true ec false eb true ed = absurd (true≢false (sym h ∙ ap (λ (t : Bool). not (eqb (page_of r) j && t)) ec ∙ ap (λ (t : Bool). not (t && true)) ed))
    go true ec false eb false ed =
        let n = eqb-false (page_of r) j ed in
        ap not (le-ltb (page_of r) (suc j) (omega (arith, ltb-false (page_of r) j eb)))

-- compact is due with min_del 1 where the page has a committed record
due_one : (c : ℕ) (old : Bool) → (leb 1 c && (leb 1 c || old)) ≡ false → c ≡ 0
due_one c old h = go (leb 1 c) refl h
  where
    go : (b : Bool) → leb 1 c ≡ b → (b && (b || old)) ≡ false → c ≡ 0
    go true e k = absurd (true≢false k)
    go false e k = omega (arith, leb-false 1 c e)

none_due : (t : Lent) (j max_age : ℕ) → due t j 1 max_age ≡ false → every (λ (r : List ℕ). not (committed_on j r)) (online_of t) ≡ true
unfolding due
none_due t j max_age h =
    none_each (committed_on j) (online_of t)
    (any_kept (committed_on j) (online_of t) ∙ ap not (eq-eqb (length (foldable t j)) 0 (due_one (length (foldable t j)) (leb max_age (last_of t - smallest 0 (foldable t j))) h)))

module _ (s : Lent) (e : sound s ≡ true) (max_age : ℕ) where
  -- one page
  sweep_one : (t : Lent) (j : ℕ) → j < pages_of s → Sweeps s t j → Sweeps s (compact_step 1 max_age t j).lent (suc j)
  unfolding compact_step compacted
  sweep_one t j k w = go (due t j 1 max_age) refl
    where
      few : online_size_of t ≤ 512
      few = rw w.fixed (sound_sized s e).online_size

      there : j < pages_of t
      there = rw w.fixed k

      go : (b : Bool) → due t j 1 max_age ≡ b → Sweeps s (cond b (compacted t j) (left t 0 0 0)).lent (suc j)
      go true d =
          let r = reads_compacted t j w.reads few there in
          record {
            reads = whole r;
            fixed = w.fixed;
            marks = length_put 4 t.durable.marks (stamp_at j) (greatest 0 (foldable t j)) ∙ w.marks;
            below = ap (λ (l : List (List ℕ)). pages_below (pages_of s) l) r.online_read ∙ every_keep (λ (x : List ℕ). not (committed_on j x)) (λ (x : List ℕ). ltb (page_of x) (pages_of s)) (online_of t) w.below;
            swept = ap (λ (l : List (List ℕ)). every (past (suc j)) l) r.online_read ∙ every_kept_where (λ (x : List ℕ). not (committed_on j x)) (past j) (past (suc j)) (past_more j) (online_of t) w.swept;
            still = ap (λ (l : List (List ℕ)). keep uncommitted l) r.online_read ∙ unfolded_open t j ∙ w.still;
          }
      go false d =
          record {
            reads = w.reads;
            fixed = w.fixed;
            marks = w.marks;
            below = w.below;
            swept = every_both (λ (x : List ℕ). not (committed_on j x)) (past j) (past (suc j)) (past_more j) (online_of t) (none_due t j max_age d) w.swept;
            still = w.still;
          }

  sweep : (j : ℕ) → j ≤ pages_of s → Sweeps s (after_pages 1 max_age j s).lent j
  unfolding after_pages
  sweep zero k =
      record {
        reads = sound_whole s e;
        fixed = refl;
        marks = refl;
        below = formed_page (size_of s) (pages_of s) (online_of s) (sound_holds s e).formed;
        swept = every_all (past 0) (λ r. ap not (none (committed r) (ltb (page_of r) 0) (le-ltb (page_of r) 0 (omega arith)))) (online_of s);
        still = refl;
      }
    where
      none : (a b : Bool) → b ≡ false → (a && b) ≡ false
      none true b h = h
      none false b h = refl
  sweep (suc j) k = sweep_one (after_pages 1 max_age j s).lent j (omega arith) (sweep j (omega arith))

  -- when all pages were compacted
  abbrev all_swept : Lent
  all_swept = (after_pages 1 max_age (pages_of s) s).lent

  swept_all : Sweeps s all_swept (pages_of s)
  swept_all = sweep (pages_of s) (omega arith)

  none_committed : every uncommitted (online_of all_swept) ≡ true
  none_committed =
      every_both (λ (r : List ℕ). ltb (page_of r) (pages_of s)) (past (pages_of s)) uncommitted
      (λ r h k. sym (ap (λ (t : Bool). not (committed r && t)) h ∙ ap not (last (committed r))) ∙ k) (online_of all_swept) swept_all.below swept_all.swept
    where
      last : (b : Bool) → (b && true) ≡ b
      last true = refl
      last false = refl

  nothing_committed : keep committed (online_of all_swept) ≡ []
  nothing_committed = keep_none committed (online_of all_swept) none_committed

  -- close drops the whole log then
  all_dropped : dropped_by all_swept ≡ logged_of all_swept
  unfolding dropped_by
  all_dropped =
      ap (λ (l : List (List ℕ)). cond (eqb (smallest 0 l) 0) (logged_of all_swept) (smallest 0 l - (last_of all_swept - logged_of all_swept + 1))) nothing_committed
      ∙ ap (λ (n : ℕ). cond (eqb n 0) (logged_of all_swept) (n - (last_of all_swept - logged_of all_swept + 1))) smallest_nothing

  -- the marks before the log's count is written
  shut : List ℕ
  shut = put 4 (lowered (pages_of all_swept) (online_of all_swept) (with_part (dirty_at (pages_of all_swept) 0) (4 * pages_of all_swept) all_swept.durable.marks (replicate (4 * pages_of all_swept) 0))) 4 (last_of all_swept)

  shut_long : 12 ≤ length shut
  unfolding shut
  shut_long =
      let n : ℕ = pages_of all_swept in
      let ms : List ℕ = all_swept.durable.marks in
      let f : pages_of all_swept ≡ pages_of s = ap (λ (l : List ℕ). num 4 l 4) swept_all.fixed in
      let m : length ms ≡ 12 + 8 * pages_of s = swept_all.marks ∙ (sound_sized s e).marks in
      let blank : List ℕ = with_part (dirty_at n 0) (4 * n) ms (replicate (4 * n) 0) in
      let a : length blank ≡ length ms = length_with (dirty_at n 0) (4 * n) ms (replicate (4 * n) 0) (omega arith) (length-replicate (4 * n) 0) in
      let b : length (lowered n (online_of all_swept) blank) ≡ length blank = length_lowered n (online_of all_swept) blank in
      let c : length (put 4 (lowered n (online_of all_swept) blank) 4 (last_of all_swept)) ≡ length (lowered n (online_of all_swept) blank) = length_put 4 (lowered n (online_of all_swept) blank) 4 (last_of all_swept) in
      omega arith

  pub checkpoint_empties : logged_of (checkpointed 1 max_age s).lent ≡ 0
  unfolding checkpointed closed shut
  checkpoint_empties =
      let z : logged_of all_swept - dropped_by all_swept ≡ 0 = omega (arith, all_dropped) in
      ap (λ (n : ℕ). num 4 (put 4 shut 8 n) 8) z ∙ num_put 4 shut 8 0 shut_long (omega arith)

  pub checkpoint_open : every uncommitted (online_of (checkpointed 1 max_age s).lent) ≡ true
  unfolding checkpointed closed
  checkpoint_open = none_committed

  pub checkpoint_still : keep uncommitted (online_of (checkpointed 1 max_age s).lent) ≡ keep uncommitted (online_of s)
  unfolding checkpointed closed
  checkpoint_still = swept_all.still

  pub checkpoint_fixed : (checkpointed 1 max_age s).lent.durable.fixed ≡ s.durable.fixed
  unfolding checkpointed closed
  checkpoint_fixed = swept_all.fixed

  pub checkpoint_reads : Whole (checkpointed 1 max_age s).lent
  unfolding checkpointed
  checkpoint_reads = whole (reads_closed all_swept swept_all.reads)
