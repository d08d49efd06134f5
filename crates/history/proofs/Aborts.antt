-- Abort keeps what is right: the owner's updates leave history and online table alike, and each page that had one loses its frame.
use Prim.Native.Nat.{ℕ, ◌+◌, ◌-◌, ◌≤◌, ◌<◌}
use native.Mathlib.Omega.{arith}
use mathlib.Core.Path.{◌≡◌, sym, ap, ◌∙◌, subst}
use mathlib.Core.Bool.{Bool, true, not, ◌&&◌}
use mathlib.Core.List.{List, ◌++◌}
use lib.ListN.{length, get_or, set}
use lib.Dec.{eqb, ltb}
use Rattle.record.specs.Rows.{keep}
use Rattle.record.specs.Record.{page_of, applied, on_page, owned_by, committed, well_formed}
use Rattle.rules.proofs.Every.{every_keep}
use Rattle.record.proofs.Rows.{Wide}
use Rattle.rules.specs.Lent.{Lent, pages_of, frames_of, order_of, entry_at, entries_of, online_of, in_frame, frame_of, page_in}
use Rattle.rules.specs.Steps.{owned, others, frames_freed, aborted}
use Rattle.rules.specs.Sound.{every}
use Rattle.rules.proofs.Clauses.{formed_page}
use Rattle.redo.proofs.Loose.{◌≅◌, ≅-keep}
use Rattle.redo.proofs.View.{keep_append}
use Rattle.redo.proofs.Numbered.{keep_others_all, numbered_from_committed}
use Rattle.seats.proofs.Loops.{judged_entries, judged_length, seated_abort, abort_dirty, abort_rows, abort_stays}
use Rattle.readback.proofs.Seen.{lives_of}
use Rattle.readback.proofs.Lost.{entry_whole, reads_aborted}
use Rattle.history.specs.Past.{Past, aborts}
use Rattle.history.proofs.Right.{Ground, LostRight, Right, rows_of, open_of, above_stamp}
use Rattle.history.proofs.Settle.{settle}
use Rattle.history.proofs.Facts.{done_paged, open_every, ranges, online_each}
use Rattle.history.proofs.Pasts.{past_abort, open_abort}
use Rattle.history.proofs.Carried.{lost_ended}

-- the page of each online record is one of the store's
pub online_below : {g : Ground} {done : List (List ℕ)} {h : Past} {s : Lent} → Right g done h s → every (λ (r : List ℕ). ltb (page_of r) (pages_of s)) (online_of s) ≡ true
online_below {g} {done} {h} {s} r =
    ap (λ (n : ℕ). every (λ (q : List ℕ). ltb (page_of q) n) (online_of s)) r.durable.pages
    ∙ online_each r (λ (q : List ℕ). ltb (page_of q) g.pages) (done_paged r.past) (formed_page g.size g.pages (open_of h) (open_every r.past (well_formed g.size g.pages) (λ q f. f.formed)))

-- the lost part, as lists: a page that stays in its frame had no record of the owner's
module _ (g : Ground) (done opened : List (List ℕ)) (live : ℕ → Bool) (frames : ℕ) (marks stored pool order lives entries : List ℕ) (online : List (List ℕ)) (x : ℕ) (tables : List ℕ)
    (l : LostRight g done opened live frames marks stored pool order lives entries online) (p : 1 ≤ x) where
  abbrev other : List ℕ → Bool
  other r = not (owned_by x r)

  lost_aborted : Wide 14 done → every (λ (r : List ℕ). ltb (page_of r) g.pages) online ≡ true → ((i : ℕ) → i < g.pages → get_or tables (entry_at frames i) 0 ≡ get_or entries i 0)
      → LostRight g done (keep other opened) live frames marks stored pool (frames_freed frames tables (keep (owned_by x) online) order) lives
      (judged_entries (keep other online) (keep (owned_by x) online) entries) (keep other online)
  lost_aborted w b t =
      record {
        seated =
            seated_abort frames rest mine entries tables order l.seated
            (ap (λ (n : ℕ). every (λ (r : List ℕ). ltb (page_of r) n) mine) l.entries_length ∙ every_keep (owned_by x) (λ (r : List ℕ). ltb (page_of r) g.pages) online b)
            (λ i h. t i (omega (arith, l.entries_length)));
        entries_length = judged_length rest mine entries ∙ l.entries_length;
        lives_length = l.lives_length;
        lives_bits = l.lives_bits;
        alive = l.alive;
        dirty = λ i h. abort_dirty x i online entries (inside i h) (l.dirty i h);
        online_is = subst (λ (m : List (List ℕ)). rest ≅ m) parted (≅-keep other l.online_is);
        frame = framed;
      }
    where
      rest : List (List ℕ)
      rest = keep other online

      mine : List (List ℕ)
      mine = keep (owned_by x) online

      above : List (List ℕ)
      above = keep (above_stamp marks) (rows_of g done)

      inside : (i : ℕ) → i < g.pages → i < length entries
      inside i h = omega (arith, l.entries_length)

      parted : keep other (above ++ opened) ≡ above ++ keep other opened
      parted =
          keep_append other above opened
          ∙ ap (λ (m : List (List ℕ)). m ++ keep other opened) (keep_others_all x above p (every_keep (above_stamp marks) committed (rows_of g done) (numbered_from_committed (g.base + 1) w)))

      framed : (i : ℕ) → i < g.pages → in_frame (get_or (judged_entries rest mine entries) i 0) ≡ true
          → page_in g.size (frame_of (get_or (judged_entries rest mine entries) i 0)) pool ≡ applied (keep (on_page i) rest) (page_in g.size i stored)
      framed i h k =
          let e = abort_stays rest mine entries i (inside i h) k in
          ap (λ (d : ℕ). page_in g.size (frame_of d) pool) e.1
          ∙ l.frame i h (ap (λ (d : ℕ). in_frame d) (sym e.1) ∙ k)
          ∙ ap (λ (m : List (List ℕ)). applied m (page_in g.size i stored)) (sym (abort_rows x i online e.0))

-- abort: the history loses the owner's updates, the online table its records
pub keeps_abort : {g : Ground} {done : List (List ℕ)} {h : Past} {s : Lent} (x : ℕ) → 1 ≤ x → x ≤ 32 → Right g done h s → Right g done (aborts h x) (aborted s x).lent
unfolding aborted aborts
keeps_abort {g} {done} {h} {s} x a b r =
    settle (reads_aborted s x r.whole (ranges r.durable).online_most a b (online_below r))
    (past_abort r.past x a) r.durable
    (subst (λ (o : List (List ℕ)). LostRight g done o (λ (y : ℕ). not (eqb y x) && h.live y) (frames_of s) s.durable.marks s.durable.stored s.lost.pool
    (frames_freed (frames_of s) s.lost.tables (owned s x) (order_of s)) (set (lives_of s) (x - 1) 0) (judged_entries (others s x) (owned s x) (entries_of s)) (others s x))
    (sym (open_abort h x))
    (lost_aborted g done (open_of h) (λ (y : ℕ). not (eqb y x) && h.live y) (frames_of s) s.durable.marks s.durable.stored s.lost.pool (order_of s) (set (lives_of s) (x - 1) 0) (entries_of s) (online_of s) x s.lost.tables
    (lost_ended r.lost x a b) a r.past.done_wide
    (ap (λ (n : ℕ). every (λ (q : List ℕ). ltb (page_of q) n) (online_of s)) (sym r.durable.pages) ∙ online_below r)
    (λ i k. entry_whole s i r.whole (omega (arith, r.durable.pages)))))
