-- Commit on sound tables leaves sound tables: the owner's rows get the next numbers, and the log has their records at its end.
use Prim.Native.Nat.{ℕ, ◌+◌, ◌-◌, ◌≤◌, ◌<◌}
use native.Mathlib.Omega.{arith}
use mathlib.Core.Path.{◌≡◌, refl, sym, ap, ◌∙◌}
use mathlib.Core.Logic.{◌⊎◌, inl, inr}
use mathlib.Core.Bool.{Bool, true, false, cond, not, ◌&&◌, ◌||◌}
use mathlib.Core.List.{List, [], ◌++◌, map}
use lib.ListN.{length, get_or, set, get_or-append, get_or-map}
use lib.Seq.{get_or-append-add, length-take-le}
use lib.Dec.{eqb, leb, ltb}
use borrow.Author.Tests.{eqb-true, ltb-true, leb-true, lt-ltb, le-leb}
use Rattle.word.proofs.Tests.{and_both, and_in}
use Rattle.record.specs.Rows.{row_at}
use Rattle.record.specs.Record.{page_of, owner_of, number_of, committed, owned_by, body_of, well_formed, numbered, number_rows, free}
use Rattle.record.proofs.Rows.{wide_keep, length_rows}
use Rattle.rules.specs.Lent.{Lent, Durable, size_of, pages_of, log_size_of, last_of, closed_of, logged_of, first_number_of, stamp_of, dirty_of, log_of, online_of}
use Rattle.rules.specs.Sound.{every, pairs, between, same, apart, sound}
use Rattle.rules.specs.Steps.{owned, committing}
use Rattle.rules.proofs.Every.{every_set, every_keep}
use Rattle.rules.proofs.Every.{every_imp}
use Rattle.rules.proofs.Clauses.{formed_page}
use Rattle.redo.proofs.View.{body_page, numbered_body, number_rows_bodies}
use Rattle.redo.proofs.Numbered.{body_formed, numbered_committed, numbered_number, numbered_entered, entered_bytes}
use Rattle.redo.proofs.Reader.{every_both}
use Rattle.readback.proofs.Seen.{only, lives_of, Whole}
use Rattle.readback.proofs.Lost.{reads_committing}
use Rattle.readback.proofs.Marks.{marks_commit, last_commit, closed_commit, logged_commit, stamp_commit, dirty_commit}
use Rattle.readback.proofs.Log.{log_commit, log_zero_commit, log_length_commit}
use Rattle.keeps.proofs.Tests.{every_append, same_itself, differ, differ_by}
use Rattle.keeps.proofs.Clauses.{owned_right, in_log, stamp_below, HoldsIn, sound_gives_durable, sound_sized, sound_whole, sound_holds, sound_by}
use Rattle.keeps.proofs.Durables.{DurableHolds, durable_holds, holds_durable}
use Rattle.keeps.proofs.Begins.{others_owned}
use Rattle.keeps.proofs.Numbering.{every_get_d, wide_get_d, rows_at, bodies_any, bodies_formed, theirs, every_number, pairs_number}

-- a committed row: its number is one of those given out
pub owned_number : (d : Durable) (lives r : List ℕ) → owned_right d lives r ≡ true → number_of r ≤ last_of (only d)
owned_number d lives r h = go (committed r) h
  where
    go : (b : Bool) → cond b (between 1 (number_of r) (last_of (only d))) (leb (owner_of r) 32 && eqb (number_of r) 0 && eqb (get_or lives (owner_of r - 1) 0) 1) ≡ true → number_of r ≤ last_of (only d)
    go true k = leb-true (number_of r) (last_of (only d)) (and_both (leb 1 (number_of r)) (leb (number_of r) (last_of (only d))) k).1
    go false k =
        let a = and_both (leb (owner_of r) 32 && eqb (number_of r) 0) (eqb (get_or lives (owner_of r - 1) 0) 1) k in
        let b = and_both (leb (owner_of r) 32) (eqb (number_of r) 0) a.0 in
        omega (arith, eqb-true (number_of r) 0 b.1)

-- and it is so with a later last number
pub owned_later : (d c : Durable) (lives r : List ℕ) → last_of (only d) ≤ last_of (only c) → owned_right d lives r ≡ true → owned_right c lives r ≡ true
owned_later d c lives r m h = go (committed r) h
  where
    rest : Bool
    rest = leb (owner_of r) 32 && eqb (number_of r) 0 && eqb (get_or lives (owner_of r - 1) 0) 1

    go : (b : Bool) → cond b (between 1 (number_of r) (last_of (only d))) rest ≡ true → cond b (between 1 (number_of r) (last_of (only c))) rest ≡ true
    go true k =
        let a = and_both (leb 1 (number_of r)) (leb (number_of r) (last_of (only d))) k in
        and_in (leb 1 (number_of r)) (leb (number_of r) (last_of (only c))) a.0 (le-leb (number_of r) (last_of (only c)) (omega (arith, leb-true (number_of r) (last_of (only d)) a.1)))
    go false k = k

-- a test of committed rows, where it holds of this one if it is committed
pub if_committed : (b t u : Bool) → (b ≡ true → t ≡ true → u ≡ true) → (not b || t) ≡ true → (not b || u) ≡ true
if_committed true t u f h = f refl h
if_committed false t u f h = refl

-- what is committed is apart from all
first_apart : (a b : List ℕ) → committed a ≡ true → apart a b ≡ true
unfolding apart
first_apart a b h = rw h

last_apart : (a b : List ℕ) → committed b ≡ true → apart a b ≡ true
unfolding apart
last_apart a b h = go (committed a)
  where
    go : (t : Bool) → (t || committed b || eqb (owner_of a) (owner_of b) || free a b) ≡ true
    go true = refl
    go false = rw h

module _ (s : Lent) (x : ℕ) (e : sound s ≡ true) (low : 1 ≤ x) (high : x ≤ 32) (space : logged_of s + length (owned s x) ≤ log_size_of s) (numbers : last_of s + length (owned s x) ≤ 4294967295) where
  abbrev after : Lent
  after = (committing s x).lent

  abbrev k : ℕ
  k = length (owned s x)

  abbrev next : ℕ
  next = last_of s + 1

  durable : DurableHolds s
  durable = durable_holds s (sound_gives_durable s e)

  reads : Whole s
  reads = sound_whole s e

  holds : HoldsIn s
  holds = sound_holds s e

  logs : logged_of s + k ≤ 4294967295
  logs = omega (arith, (sound_sized s e).log_size)

  last_on : last_of after ≡ last_of s + k
  last_on = last_commit s durable.marks x numbers logs

  logged_on : logged_of after ≡ logged_of s + k
  logged_on = logged_commit s durable.marks x numbers logs

  closed_left : closed_of after ≡ closed_of s
  closed_left = closed_commit s durable.marks x numbers logs

  stamp_left : (p : ℕ) → stamp_of after p ≡ stamp_of s p
  stamp_left = stamp_commit s durable.marks x numbers logs

  dirty_left : (p : ℕ) → dirty_of after p ≡ dirty_of s p
  dirty_left = dirty_commit s durable.marks x numbers logs

  first_left : first_number_of after ≡ first_number_of s
  first_left = omega (arith, last_on, logged_on, durable.logged_last)

  log_read : log_of after ≡ log_of s ++ map body_of (owned s x)
  log_read = log_commit s durable.marks durable.log durable.logged x reads.wide numbers logs

  log_length : length (log_of s) ≡ logged_of s
  log_length = length_rows 14 (logged_of s) s.durable.log 0

  commit_durable : DurableHolds after
  unfolding committing
  commit_durable =
      record {
        fixed = durable.fixed;
        range = durable.range;
        marks = marks_commit s durable.marks x numbers logs ∙ durable.marks;
        log = log_length_commit s durable.marks durable.log durable.logged x reads.wide numbers logs space ∙ durable.log;
        stored = durable.stored;
        logged = omega (arith, logged_on);
        logged_last = omega (arith, logged_on, last_on, durable.logged_last);
        first = omega (arith, first_left, closed_left, durable.first);
        closed_last = omega (arith, closed_left, last_on, durable.closed_last);
        stamps = λ p m. omega (arith, stamp_left p, last_on, durable.stamps p m);
        dirty = λ p m. pick p (durable.dirty p m);
        formed =
            ap (λ (l : List (List ℕ)). every (well_formed (size_of s) (pages_of s)) l) log_read
            ∙ every_append (well_formed (size_of s) (pages_of s)) (log_of s) (map body_of (owned s x)) durable.formed
            (bodies_formed (size_of s) (pages_of s) (owned s x) (every_keep (owned_by x) (well_formed (size_of s) (pages_of s)) (online_of s) holds.formed));
        clear = log_zero_commit s durable.marks durable.log durable.logged x reads.wide numbers logs;
      }
    where
      pick : (p : ℕ) → (dirty_of s p ≡ 0) ⊎ ((first_number_of s ≤ dirty_of s p) × (dirty_of s p ≤ closed_of s)) → (dirty_of (committing s x).lent p ≡ 0) ⊎ ((first_number_of (committing s x).lent ≤ dirty_of (committing s x).lent p) × (dirty_of (committing s x).lent p ≤ closed_of (committing s x).lent))
      pick p (inl z) = inl (dirty_left p ∙ z)
      pick p (inr z) = inr (omega (arith, first_left, dirty_left p, z.0), omega (arith, closed_left, dirty_left p, z.1))

  -- the owner's row i, and the number that it gets
  row : ℕ → List ℕ
  row i = get_or (owned s x) i []

  row_wide : (i : ℕ) → i < k → length (row i) ≡ 19
  unfolding row
  row_wide i m = wide_get_d i (wide_keep (owned_by x) reads.wide) m

  row_number : (i : ℕ) → i < k → number_of (numbered (row i) (next + i)) ≡ next + i
  row_number i m = numbered_number (row i) (next + i) (row_wide i m) (omega arith)

  row_set : (i : ℕ) → i < k → committed (numbered (row i) (next + i)) ≡ true
  row_set i m = numbered_committed (row i) (next + i) (row_wide i m)

  row_formed : (i : ℕ) → i < k → well_formed (size_of s) (pages_of s) (row i) ≡ true
  unfolding row
  row_formed i m = every_get_d (well_formed (size_of s) (pages_of s)) (owned s x) i (every_keep (owned_by x) (well_formed (size_of s) (pages_of s)) (online_of s) holds.formed) m

  row_page : (i : ℕ) → i < k → page_of (row i) < pages_of s
  unfolding row
  row_page i m =
      ltb-true (page_of (row i)) (pages_of s)
      (every_get_d (λ (r : List ℕ). ltb (page_of r) (pages_of s)) (owned s x) i (every_keep (owned_by x) (λ (r : List ℕ). ltb (page_of r) (pages_of s)) (online_of s) (formed_page (size_of s) (pages_of s) (online_of s) holds.formed)) m)

  -- S8
  abbrev lives : List ℕ
  lives = set (lives_of s) (x - 1) 0

  new_owned : (i : ℕ) → i < k → owned_right after.durable lives (numbered (row i) (next + i)) ≡ true
  new_owned i m =
      let n : number_of (numbered (row i) (next + i)) ≡ next + i = row_number i m in
      rw (row_set i m)
      (and_in (leb 1 (number_of (numbered (row i) (next + i)))) (leb (number_of (numbered (row i) (next + i))) (last_of after))
      (le-leb 1 (number_of (numbered (row i) (next + i))) (omega (arith, n))) (le-leb (number_of (numbered (row i) (next + i))) (last_of after) (omega (arith, n, last_on))))

  owners_after : every (owned_right after.durable lives) (number_rows x next (online_of s)) ≡ true
  unfolding row
  owners_after =
      every_number (owned_right after.durable lives) x next (online_of s) new_owned
      (every_imp (owned_right s.durable lives) (owned_right after.durable lives) (λ r. owned_later s.durable after.durable lives r (omega (arith, last_on))) (theirs x (online_of s))
      (others_owned s.durable (lives_of s) x (online_of s) low holds.owners))

  -- S10: the log's rows of the numbers that were, and of the new ones
  log_old : (j : ℕ) → j < logged_of s → row_at 14 after.durable.log j ≡ row_at 14 s.durable.log j
  log_old j m =
      let z : j ≡ 0 + j = omega arith in
      ap (λ (i : ℕ). row_at 14 after.durable.log i) z
      ∙ sym (rows_at 14 (logged_of after) after.durable.log 0 j (omega (arith, logged_on)))
      ∙ ap (λ (l : List (List ℕ)). get_or l j []) log_read
      ∙ get_or-append (log_of s) (map body_of (owned s x)) [] j (omega (arith, log_length))
      ∙ rows_at 14 (logged_of s) s.durable.log 0 j m
      ∙ ap (λ (i : ℕ). row_at 14 s.durable.log i) (sym z)

  log_new : (i : ℕ) → i < k → row_at 14 after.durable.log (logged_of s + i) ≡ body_of (row i)
  unfolding row
  log_new i m =
      let z : logged_of s + i ≡ 0 + (logged_of s + i) = omega arith in
      ap (λ (j : ℕ). row_at 14 after.durable.log j) z
      ∙ sym (rows_at 14 (logged_of after) after.durable.log 0 (logged_of s + i) (omega (arith, logged_on)))
      ∙ ap (λ (l : List (List ℕ)). get_or l (logged_of s + i) []) log_read
      ∙ ap (λ (n : ℕ). get_or (log_of s ++ map body_of (owned s x)) (n + i) []) (sym log_length)
      ∙ get_or-append-add (log_of s) (map body_of (owned s x)) i []
      ∙ get_or-map body_of (owned s x) i []

  new_body : (i : ℕ) → i < k → body_of (numbered (row i) (next + i)) ≡ body_of (row i)
  new_body i m =
      ap (λ (r : List ℕ). body_of r) (numbered_entered (row i) (next + i) (row_wide i m))
      ∙ entered_bytes (body_of (row i)) (next + i) (length-take-le 14 (row i) (omega (arith, row_wide i m)))

  new_logged : (i : ℕ) → i < k → in_log after.durable (numbered (row i) (next + i)) ≡ true
  new_logged i m =
      let r : List ℕ = numbered (row i) (next + i) in
      let n : number_of r ≡ next + i = row_number i m in
      let at : number_of r - first_number_of after ≡ logged_of s + i = omega (arith, n, first_left, durable.logged_last) in
      rw (row_set i m)
      (and_in (leb (first_number_of after) (number_of r)) (same (body_of r) (row_at 14 after.durable.log (number_of r - first_number_of after)))
      (le-leb (first_number_of after) (number_of r) (omega (arith, n, first_left, durable.logged_last)))
      (ap (λ (j : ℕ). same (body_of r) (row_at 14 after.durable.log j)) at
      ∙ ap (λ (b : List ℕ). same (body_of r) b) (log_new i m ∙ sym (new_body i m))
      ∙ same_itself (body_of r)))

  old_logged : (r : List ℕ) → owned_right s.durable (lives_of s) r ≡ true → in_log s.durable r ≡ true → in_log after.durable r ≡ true
  old_logged r h =
      if_committed (committed r) (leb (first_number_of s) (number_of r) && same (body_of r) (row_at 14 s.durable.log (number_of r - first_number_of s)))
      (leb (first_number_of after) (number_of r) && same (body_of r) (row_at 14 after.durable.log (number_of r - first_number_of after)))
      (λ c t.
      let p = and_both (leb (first_number_of s) (number_of r)) (same (body_of r) (row_at 14 s.durable.log (number_of r - first_number_of s))) t in
      let f : first_number_of s ≤ number_of r = leb-true (first_number_of s) (number_of r) p.0 in
      and_in (leb (first_number_of after) (number_of r)) (same (body_of r) (row_at 14 after.durable.log (number_of r - first_number_of after)))
      (ap (λ (n : ℕ). leb n (number_of r)) first_left ∙ p.0)
      (ap (λ (n : ℕ). same (body_of r) (row_at 14 after.durable.log (number_of r - n))) first_left
      ∙ ap (λ (b : List ℕ). same (body_of r) b) (log_old (number_of r - first_number_of s) (omega (arith, owned_number s.durable (lives_of s) r h, durable.logged_last)))
      ∙ p.1))

  logged_after : every (in_log after.durable) (number_rows x next (online_of s)) ≡ true
  unfolding row
  logged_after =
      every_number (in_log after.durable) x next (online_of s) new_logged
      (every_keep (λ (r : List ℕ). not (owned_by x r)) (in_log after.durable) (online_of s)
      (every_both (owned_right s.durable (lives_of s)) (in_log s.durable) (in_log after.durable) old_logged (online_of s) holds.owners holds.logged))

  -- S11
  new_above : (i : ℕ) → i < k → stamp_below after.durable (numbered (row i) (next + i)) ≡ true
  new_above i m =
      let r : List ℕ = numbered (row i) (next + i) in
      let n : number_of r ≡ next + i = row_number i m in
      let p : page_of r ≡ page_of (row i) = body_page r (row i) (numbered_body (row i) (next + i)) in
      rw (row_set i m)
      (ap (λ (q : ℕ). ltb (stamp_of after q) (number_of r)) p
      ∙ lt-ltb (stamp_of after (page_of (row i))) (number_of r) (omega (arith, n, stamp_left (page_of (row i)), durable.stamps (page_of (row i)) (row_page i m))))

  above_after : every (stamp_below after.durable) (number_rows x next (online_of s)) ≡ true
  unfolding row
  above_after =
      every_number (stamp_below after.durable) x next (online_of s) new_above
      (every_keep (λ (r : List ℕ). not (owned_by x r)) (stamp_below after.durable) (online_of s)
      (every_imp (stamp_below s.durable) (stamp_below after.durable) (λ r h. ap (λ (n : ℕ). not (committed r) || ltb n (number_of r)) (stamp_left (page_of r)) ∙ h) (online_of s) holds.above))

  -- S7
  formed_after : every (well_formed (size_of s) (pages_of s)) (number_rows x next (online_of s)) ≡ true
  unfolding row
  formed_after =
      every_number (well_formed (size_of s) (pages_of s)) x next (online_of s)
      (λ i m. body_formed (size_of s) (pages_of s) (numbered (row i) (next + i)) (row i) (numbered_body (row i) (next + i)) ∙ row_formed i m)
      (every_keep (λ (r : List ℕ). not (owned_by x r)) (well_formed (size_of s) (pages_of s)) (online_of s) holds.formed)

  -- S9: the new numbers are above the last, and each is another
  abbrev known : List ℕ → Bool
  known r = leb (number_of r) (last_of s)

  all_known : every known (online_of s) ≡ true
  all_known = every_imp (owned_right s.durable (lives_of s)) known (λ r h. le-leb (number_of r) (last_of s) (owned_number s.durable (lives_of s) r h)) (online_of s) holds.owners

  once_after : pairs differ (number_rows x next (online_of s)) ≡ true
  once_after =
      pairs_number differ known x next (next + k)
      (λ r q i j a b u v w. differ_by (numbered r i) (numbered q j) (λ z. absurd (omega (arith, z, numbered_number r i a (omega arith), numbered_number q j b (omega arith)))))
      (λ r q i a b u v. differ_by (numbered r i) q (λ z. absurd (omega (arith, z, numbered_number r i a (omega arith), leb-true (number_of q) (last_of s) b))))
      (λ r q i a b u v. differ_by r (numbered q i) (λ z. absurd (omega (arith, z, numbered_number q i b (omega arith), leb-true (number_of r) (last_of s) a))))
      next reads.wide (omega arith) (omega arith) all_known holds.once

  -- S13: what is committed is apart from all
  apart_after : pairs apart (number_rows x next (online_of s)) ≡ true
  apart_after =
      pairs_number apart known x next (next + k)
      (λ r q i j a b u v w. first_apart (numbered r i) (numbered q j) (numbered_committed r i a))
      (λ r q i a b u v. first_apart (numbered r i) q (numbered_committed r i a))
      (λ r q i a b u v. last_apart r (numbered q i) (numbered_committed q i b))
      next reads.wide (omega arith) (omega arith) all_known holds.apart_all

  -- commit
  pub sound_commit : sound (committing s x).lent ≡ true
  unfolding committing
  sound_commit =
      let r = reads_committing s x reads low high in
      sound_by (holds_durable (committing s x).lent commit_durable r.areas) r
      (record {
        seated = holds.seated;
        live = every_set (λ (b : ℕ). leb b 1) (lives_of s) (x - 1) 0 holds.live refl;
        formed = formed_after;
        owners = owners_after;
        logged = logged_after;
        above = above_after;
        once = once_after;
        dirty = λ p m. holds.dirty p m ∙ sym (bodies_any p (number_rows_bodies x next (online_of s)));
        apart_all = apart_after;
      })
