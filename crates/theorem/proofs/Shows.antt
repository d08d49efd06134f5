-- Demand 3 of one store, over every run. Four public statements say it:
-- `read_shows`: "after any calls and power losses, an accepted read shows the starting page with all committed updates, and the reader's own, applied in the order made".
-- `stored_shows`: "Each stored page is the starting page with just those committed updates numbered up to its stamp", at every moment.
-- `restart_accepted`: "An accepted restart follows each loss", and one without a loss is accepted too. `always_sound`: soundness holds after every call.
use Rattle.std.specs.Prelude.{Ok, Err}
use Prim.Native.Nat.{ℕ, ◌+◌, ◌≤◌, ◌<◌}
use native.Mathlib.Omega.{arith}
use mathlib.Core.Path.{◌≡◌, refl, sym, ap, ◌∙◌, subst}
use mathlib.Core.Bool.{Bool, true, false, not, ◌&&◌, ◌||◌}
use mathlib.Core.List.{List, [], ◌++◌}
use lib.ListN.{length, drop}
use lib.Dec.{leb}
use borrow.Author.Tests.{le-ltb}
use Rattle.word.specs.Word.{num}
use Rattle.record.specs.Part.{part}
use Rattle.record.specs.Rows.{keep}
use Rattle.record.specs.Record.{number_of, committed, applied, on_page, committed_on, owned_by}
use Rattle.record.proofs.Changes.{length_applied}
use Rattle.rules.specs.declared.Answer.TheVariants.{Done}
use Rattle.rules.specs.declared.Counts.{Counts}
use Rattle.rules.specs.Calls.{Verdict}
use Rattle.rules.specs.Lent.{Lent, Durable, size_of, pages_of, online_size_of, stamp_at, stamp_of, online_of, page_in}
use Rattle.rules.specs.Sound.{sound}
use Rattle.rules.specs.Steps.{place_of, fetched_pool, read_step, read_bytes, entering_all, restarted}
use Rattle.rules.specs.Calls.{refuse_if, verdict_of, settled, done_with, judge_read, read_call, judge_restart, restart_call}
use Rattle.rules.proofs.Went.{read_went, read_whose}
use Rattle.redo.proofs.Loose.{≅-free}
use Rattle.redo.proofs.Reader.{reader_bytes, stored_to_stamp}
use Rattle.readback.proofs.Pages.{page_length}
use Rattle.history.specs.Past.{Past, start_page, shown, stored_up_to}
use Rattle.history.specs.Run.{Run}
use Rattle.history.proofs.Right.{Ground, PastRight, DurableRight, Right, Down, rows_of, open_of, above_stamp}
use Rattle.history.proofs.Facts.{done_committed, done_rising, open_unset}
use Rattle.history.proofs.Soundly.{durable_sound, right_sound}
use Rattle.history.proofs.Fetches.{fetched_page}
use Rattle.history.proofs.Restarts.{restart_fits, falls_down}
use Rattle.theorem.proofs.Stands.{Stands, up, down, run_stands}

-- a run that is up is right, for some list of what was committed
pub record Rightly (h : Past) (s : Lent) : Type 0 where
  pub ground : Ground
  pub done : List (List ℕ)
  pub right : Right ground done h s

pub run_right : {h : Past} {s : Lent} → Run h s → h.down ≡ false → Rightly h s
run_right {h} {s} r n = go (run_stands r)
  where
    go : Stands h s → Rightly h s
    go (up g done m q) = record { ground = g; done = done; right = q }
    go (down g done m d) = absurd (mathlib.Core.Bool.false≢true (sym n ∙ m))

-- soundness holds after every call, from a format on: refusal 1 never comes up
pub always_sound : {h : Past} {s : Lent} → Run h s → h.down ≡ false → sound s ≡ true
always_sound {h} {s} r n = let q = run_right r n in right_sound q.ground q.done h s q.right

-- a restart is accepted at any time: what is durable is sound, and the online table has room for what enters
goes : {g : Ground} {done : List (List ℕ)} {h : Past} {s : Lent} → Down g done h s → judge_restart s ≡ Ok tt
unfolding judge_restart refuse_if verdict_of
goes {g} {done} {h} {s} d = rw (durable_sound g done s d.durable d.past.formed d.areas, le-ltb (online_size_of s) (length (entering_all s)) (restart_fits d)) refl

pub restart_accepted : {h : Past} {s : Lent} → Run h s → (restart_call s).answer ≡ Done (record { reads = 0; writes = 0; logs = 0 })
unfolding restart_call restarted
restart_accepted {h} {s} r = ap (λ (v : Verdict). (settled v s [] (done_with (restarted s) [])).answer) (go (run_stands r))
  where
    go : Stands h s → judge_restart s ≡ Ok tt
    go (up g done m q) = goes (falls_down q)
    go (down g done m d) = goes d

-- a starting page is the history's
same_start : {g : Ground} {done : List (List ℕ)} {h : Past} → PastRight g done h → (p : ℕ) → page_in g.size p g.start ≡ start_page h p
same_start {g} {done} {h} a p = ap (λ (n : ℕ). page_in n p g.start) (sym a.size) ∙ ap (λ (l : List ℕ). page_in h.size p l) (sym a.start)

-- and as long as a page
start_length : {g : Ground} {done : List (List ℕ)} {u : Durable} → DurableRight g done u → (p : ℕ) → p < g.pages → length (page_in g.size p g.start) ≡ g.size
start_length {g} {done} {u} d p m =
    sym (length_applied (keep (λ (r : List ℕ). on_page p r && not (above_stamp u.marks r)) (rows_of g done)) (page_in g.size p g.start))
    ∙ ap (λ (l : List ℕ). length l) (sym (d.page p m))
    ∙ page_length g.size g.pages u.stored d.stored p m

-- a stored page, from what is right of the history and of the durable part
stored_page : {g : Ground} {done : List (List ℕ)} {h : Past} {u : Durable} → PastRight g done h → DurableRight g done u → (p : ℕ) → p < h.pages → page_in h.size p u.stored ≡ stored_up_to h (num 4 u.marks (stamp_at p)) p
unfolding stored_up_to
stored_page {g} {done} {h} {u} a d p m =
    ap (λ (n : ℕ). page_in n p u.stored) a.size
    ∙ d.page p (subst (λ (n : ℕ). p < n) a.pages m)
    ∙ stored_to_stamp p u.marks h.made (rows_of g done) (open_of h) (≅-free a.made) (done_committed a) (open_unset a) (page_in g.size p g.start)
    ∙ ap (λ (l : List ℕ). applied mine l) (same_start a p)
  where
    mine : List (List ℕ)
    mine = keep (λ (r : List ℕ). committed_on p r && leb (number_of r) (num 4 u.marks (stamp_at p))) h.made

-- "Each stored page is the starting page with just those committed updates numbered up to its stamp"
pub stored_shows : {h : Past} {s : Lent} → Run h s → (p : ℕ) → p < h.pages → page_in h.size p s.durable.stored ≡ stored_up_to h (stamp_of s p) p
stored_shows {h} {s} r p m = go (run_stands r)
  where
    go : Stands h s → page_in h.size p s.durable.stored ≡ stored_up_to h (stamp_of s p) p
    go (up g done n q) = stored_page q.past q.durable p m
    go (down g done n d) = stored_page d.past d.durable p m

-- what a read that is accepted copies, from what is right
module _ {g : Ground} {done : List (List ℕ)} {h : Past} {s : Lent} (q : Right g done h s) (buffer : List ℕ) (x p offset w : ℕ) (e : judge_read s (length buffer) x p offset w ≡ Ok tt) where
  asked : p < pages_of s
  asked = (read_went s (length buffer) x p offset w e).1

  page_bytes : part offset w (page_in (size_of s) (place_of s p) (fetched_pool s p)) ≡ part offset w (shown h x p)
  unfolding shown
  page_bytes =
      ap (λ (l : List ℕ). part offset w l) (fetched_page p asked q)
      ∙ ap (λ (n : ℕ). part offset w (applied (keep (on_page p) (online_of s)) (page_in n p s.durable.stored))) q.durable.size
      ∙ reader_bytes x p offset w s.durable.marks h.made (online_of s) (rows_of g done) (open_of h) (≅-free q.past.made) (≅-free q.lost.online_is) (done_rising q.past) (done_committed q.past) (open_unset q.past) q.past.apart
      (read_whose s (length buffer) x p offset w e).2 (page_in g.size p g.start) (page_in g.size p s.durable.stored) (q.durable.page p below) room
      ∙ ap (λ (l : List ℕ). part offset w (applied (keep (λ (r : List ℕ). on_page p r && (committed r || owned_by x r)) h.made) l)) (same_start q.past p)
    where
      below : p < g.pages
      below = subst (λ (n : ℕ). p < n) q.durable.pages asked

      room : offset + w ≤ length (page_in g.size p g.start)
      room = omega (arith, start_length q.durable p below, q.durable.size, (read_went s (length buffer) x p offset w e).2)

  pub read_right : read_bytes s p offset w buffer ≡ part offset w (shown h x p) ++ drop w buffer
  unfolding read_bytes
  read_right = ap (λ (l : List ℕ). l ++ drop w buffer) page_bytes

-- "an accepted read shows the starting page with all committed updates, and the reader's own, applied in the order made"
pub read_shows : {h : Past} {s : Lent} → Run h s → h.down ≡ false → (buffer : List ℕ) (x p offset w : ℕ) (c : Counts) → (read_call s buffer x p offset w).answer ≡ Done c → (read_call s buffer x p offset w).buffer ≡ part offset w (shown h x p) ++ drop w buffer
unfolding read_call
read_shows {h} {s} r n buffer x p offset w c e = go (judge_read s (length buffer) x p offset w) refl e
  where
    go : (v : Verdict) → judge_read s (length buffer) x p offset w ≡ v → (settled v s buffer (done_with (read_step s p) (read_bytes s p offset w buffer))).answer ≡ Done c → (settled v s buffer (done_with (read_step s p) (read_bytes s p offset w buffer))).buffer ≡ part offset w (shown h x p) ++ drop w buffer
    go (Ok tt) f k = read_right (run_right r n).right buffer x p offset w f
    go (Err why) f k = let z : ◌≡◌ {A = Bool} false true = cc in absurd (mathlib.Core.Bool.false≢true z)
