-- The durable part after a commit: L and the log's count go on by the records that were numbered, the log has them at its end,
-- and no stored page has them, as they are numbered above every stamp.
use Prim.Native.Nat.{ℕ, ◌+◌, ◌-◌, ◌≤◌, ◌<◌}
use native.Mathlib.Omega.{arith}
use mathlib.Core.Path.{◌≡◌, sym, ap, ◌∙◌}
use mathlib.Core.Bool.{Bool, true, not, ◌&&◌, ◌||◌, and-false}
use mathlib.Core.List.{List, ◌++◌, map, append-nil}
use lib.ListN.{length, drop, length-append, length-map}
use lib.Seq.{drop-append-le}
use lib.Dec.{eqb, leb, ltb}
use borrow.Author.Tests.{leb-true, ltb-true, lt-ltb, le-leb, lt-leb}
use Rattle.word.specs.Word.{num}
use Rattle.word.proofs.Tests.{and_both}
use Rattle.record.specs.Rows.{keep}
use Rattle.record.specs.Record.{page_of, number_of, body_of, applied, on_page, owned_by, well_formed}
use Rattle.record.proofs.Rows.{Wide, wide_keep, wide_bodies}
use Rattle.rules.specs.Lent.{Lent, online_size_of, log_size_of, last_of, closed_of, logged_of, first_number_of, stamp_at, dirty_of, log_of, online_of, page_in}
use Rattle.rules.specs.Steps.{owned, committing}
use Rattle.rules.specs.Sound.{every}
use Rattle.rules.proofs.Every.{or_right, every_imp}
use Rattle.rules.proofs.Clauses.{formed_page}
use Rattle.redo.proofs.View.{keep_append}
use Rattle.redo.proofs.Views.{keep_same, keep_all, keep_none}
use Rattle.redo.proofs.Loose.{numbered_from, ≅-length}
use Rattle.redo.proofs.Numbered.{numbered_from_append, numbered_from_length, numbered_from_formed, numbered_from_from}
use Rattle.redo.proofs.Reader.{every_both}
use Rattle.readback.proofs.Marks.{marks_commit, last_commit, closed_commit, logged_commit, stamp_commit, dirty_commit}
use Rattle.readback.proofs.Log.{log_commit, log_zero_commit, log_length_commit}
use Rattle.keeps.proofs.Tests.{every_append}
use Rattle.history.specs.Past.{Past}
use Rattle.history.proofs.Right.{Ground, Right, DurableRight, rows_of, open_of, above_stamp}
use Rattle.history.proofs.Facts.{dirt_same, ranges, marks_long}

-- of records numbered on from L: each number is above L
abbrev after : ℕ → List ℕ → Bool
after last r = ltb last (number_of r)

numbered_after : (last : ℕ) {l : List (List ℕ)} → Wide 14 l → last + 1 + length l ≤ 4294967296 → every (after last) (numbered_from (last + 1) l) ≡ true
numbered_after last {l} w m = every_imp (λ (r : List ℕ). leb (last + 1) (number_of r) && ltb (number_of r) (last + 1 + length l)) (after last) at (numbered_from (last + 1) l) (numbered_from_from (last + 1) w m)
  where
    at : (r : List ℕ) → (leb (last + 1) (number_of r) && ltb (number_of r) (last + 1 + length l)) ≡ true → after last r ≡ true
    at r e = lt-ltb last (number_of r) (omega (arith, leb-true (last + 1) (number_of r) (and_both (leb (last + 1) (number_of r)) (ltb (number_of r) (last + 1 + length l)) e).0))

-- and so above the stamp of its page
numbered_above : (size pages last : ℕ) (marks : List ℕ) → ((p : ℕ) → p < pages → num 4 marks (stamp_at p) ≤ last)
    → {l : List (List ℕ)} → Wide 14 l → every (well_formed size pages) l ≡ true → last + 1 + length l ≤ 4294967296 → every (above_stamp marks) (numbered_from (last + 1) l) ≡ true
numbered_above size pages last marks stamps {l} w f m =
    every_both (λ (r : List ℕ). ltb (page_of r) pages) (after last) (above_stamp marks) at (numbered_from (last + 1) l)
    (formed_page size pages (numbered_from (last + 1) l) (numbered_from_formed size pages (last + 1) w f)) (numbered_after last w m)
  where
    at : (r : List ℕ) → ltb (page_of r) pages ≡ true → after last r ≡ true → above_stamp marks r ≡ true
    at r p q = lt-ltb (num 4 marks (stamp_at (page_of r))) (number_of r) (omega (arith, stamps (page_of r) (ltb-true (page_of r) pages p), ltb-true last (number_of r) q))

-- rows behind others, where a test, also as it is said anew, picks all of them: what it picks of both, what it leaves of a page, and what those have that it picks
module _ (a b : List ℕ → Bool) (same : (r : List ℕ) → b r ≡ a r) (old new : List (List ℕ)) (all : every a new ≡ true) where
  picked : keep b (old ++ new) ≡ keep a old ++ new
  picked = keep_same b a same (old ++ new) ∙ keep_append a old new ∙ ap (λ (l : List (List ℕ)). keep a old ++ l) (keep_all a new all)

  passed_over : (p : ℕ) → keep (λ (r : List ℕ). on_page p r && not (b r)) (old ++ new) ≡ keep (λ (r : List ℕ). on_page p r && not (a r)) old
  passed_over p =
      keep_same (λ (r : List ℕ). on_page p r && not (b r)) (λ (r : List ℕ). on_page p r && not (a r)) (λ (r : List ℕ). ap (λ (t : Bool). on_page p r && not t) (same r)) (old ++ new)
      ∙ keep_append (λ (r : List ℕ). on_page p r && not (a r)) old new
      ∙ ap (λ (l : List (List ℕ)). keep (λ (r : List ℕ). on_page p r && not (a r)) old ++ l) (keep_none (λ (r : List ℕ). on_page p r && not (a r)) new (every_imp a (λ (r : List ℕ). not (on_page p r && not (a r))) none new all))
      ∙ append-nil (keep (λ (r : List ℕ). on_page p r && not (a r)) old)
    where
      none : (r : List ℕ) → a r ≡ true → not (on_page p r && not (a r)) ≡ true
      none r e = ap (λ (t : Bool). not (on_page p r && not t)) e ∙ ap not (and-false (on_page p r))

  have : (c d : List ℕ → Bool) → ((r : List ℕ) → d r ≡ c r) → every (λ (r : List ℕ). not (a r) || c r) old ≡ true → every c new ≡ true → every (λ (r : List ℕ). not (b r) || d r) (old ++ new) ≡ true
  have c d e p q =
      (λ i. every (λ (r : List ℕ). not (same r i) || e r i) (old ++ new))
      ∙ every_append (λ (r : List ℕ). not (a r) || c r) old new p (every_imp c (λ (r : List ℕ). not (a r) || c r) (λ r. or_right (not (a r)) (c r)) new q)

module _ {g : Ground} {done : List (List ℕ)} {h : Past} {s : Lent} (x : ℕ) (r : Right g done h s)
    (space : logged_of s + length (owned s x) ≤ log_size_of s) (numbers : last_of s + length (owned s x) ≤ 4294967295)
    (formed : every (well_formed g.size g.pages) (map body_of (owned s x)) ≡ true) (known : length (owned s x) ≤ length (open_of h)) where
  abbrev more : List (List ℕ)
  more = map body_of (owned s x)

  abbrev after_marks : List ℕ
  after_marks = (committing s x).lent.durable.marks

  more_wide : Wide 14 more
  more_wide = wide_bodies (wide_keep (owned_by x) r.whole.wide)

  more_length : length more ≡ length (owned s x)
  more_length = length-map (owned s x) body_of

  logs : logged_of s + length (owned s x) ≤ 4294967295
  logs = omega (arith, (ranges r.durable).log_most)

  -- the marks that a commit moves on, and the first number of the log, which it leaves
  last_on : last_of (committing s x).lent ≡ last_of s + length (owned s x)
  last_on = last_commit s (marks_long r.durable) x numbers logs

  logged_on : logged_of (committing s x).lent ≡ logged_of s + length (owned s x)
  logged_on = logged_commit s (marks_long r.durable) x numbers logs

  closed_left : closed_of (committing s x).lent ≡ closed_of s
  closed_left = closed_commit s (marks_long r.durable) x numbers logs

  first_left : first_number_of (committing s x).lent ≡ first_number_of s
  first_left = omega (arith, last_on, logged_on)

  dirty_left : (p : ℕ) → dirty_of (committing s x).lent p ≡ dirty_of s p
  dirty_left = dirty_commit s (marks_long r.durable) x numbers logs

  above_left : (b : List ℕ) → above_stamp after_marks b ≡ above_stamp s.durable.marks b
  above_left b = ap (λ (n : ℕ). ltb n (number_of b)) (stamp_commit s (marks_long r.durable) x numbers logs (page_of b))

  -- what is committed afterwards: what was, then the owner's, numbered on from L
  newer : List (List ℕ)
  newer = numbered_from (last_of s + 1) more

  rows_more : rows_of g (done ++ more) ≡ rows_of g done ++ newer
  unfolding newer
  rows_more =
      let e : g.base + 1 + length done ≡ last_of s + 1 = omega (arith, r.durable.last) in
      numbered_from_append (g.base + 1) done more ∙ ap (λ (n : ℕ). rows_of g done ++ numbered_from n more) e

  ends : last_of s + 1 + length more ≤ 4294967296
  ends = omega (arith, more_length)

  newer_above : every (above_stamp s.durable.marks) newer ≡ true
  unfolding newer
  newer_above = numbered_above g.size g.pages (last_of s) s.durable.marks r.durable.stamps more_wide formed ends

  newer_after : every (after (last_of s)) newer ≡ true
  unfolding newer
  newer_after = numbered_after (last_of s) more_wide ends

  -- none of the owner's is in a stored page
  pub above_commit : keep (above_stamp after_marks) (rows_of g (done ++ more)) ≡ keep (above_stamp s.durable.marks) (rows_of g done) ++ numbered_from (last_of s + 1) more
  unfolding newer
  above_commit =
      ap (λ (l : List (List ℕ)). keep (above_stamp after_marks) l) rows_more
      ∙ picked (above_stamp s.durable.marks) (above_stamp after_marks) above_left (rows_of g done) newer newer_above

  log_end : log_of (committing s x).lent ≡ drop (length (done ++ more) - logged_of (committing s x).lent) (done ++ more)
  log_end =
      let d : ℕ = length done - logged_of s in
      let e : d ≡ length (done ++ more) - logged_of (committing s x).lent = omega (arith, length-append done more, more_length, logged_on, r.durable.logged_done) in
      log_commit s (marks_long r.durable) r.durable.log r.durable.logged x r.whole.wide numbers logs
      ∙ ap (λ (l : List (List ℕ)). l ++ more) r.durable.log_read
      ∙ sym (drop-append-le d done more (omega arith))
      ∙ ap (λ (n : ℕ). drop n (done ++ more)) e

  room_left : length (keep (above_stamp after_marks) (rows_of g (done ++ more))) ≤ online_size_of s
  unfolding newer
  room_left =
      let old : List (List ℕ) = keep (above_stamp s.durable.marks) (rows_of g done) in
      let all : length (online_of s) ≡ length old + length (open_of h) = ≅-length r.lost.online_is ∙ length-append old (open_of h) in
      let now : length (keep (above_stamp after_marks) (rows_of g (done ++ more))) ≡ length old + length newer = ap (λ (l : List (List ℕ)). length l) above_commit ∙ length-append old newer in
      let n : length newer ≡ length more = numbered_from_length (last_of s + 1) more in
      omega (arith, all, now, n, more_length, known, r.whole.room)

  -- the owner's are numbered above the log's first and above K, so that restart passes over none of them
  needed_more : every (λ (b : List ℕ). not (above_stamp after_marks b) || leb (first_number_of (committing s x).lent) (number_of b)) (rows_of g (done ++ more)) ≡ true
  needed_more =
      ap (λ (l : List (List ℕ)). every (λ (b : List ℕ). not (above_stamp after_marks b) || leb (first_number_of (committing s x).lent) (number_of b)) l) rows_more
      ∙ have (above_stamp s.durable.marks) (above_stamp after_marks) above_left (rows_of g done) newer newer_above
      (λ (b : List ℕ). leb (first_number_of s) (number_of b)) (λ (b : List ℕ). leb (first_number_of (committing s x).lent) (number_of b))
      (λ (b : List ℕ). ap (λ (n : ℕ). leb n (number_of b)) first_left) r.durable.needed
      (every_imp (after (last_of s)) (λ (b : List ℕ). leb (first_number_of s) (number_of b)) (λ (b : List ℕ) e. le-leb (first_number_of s) (number_of b) (omega (arith, ltb-true (last_of s) (number_of b) e))) newer newer_after)

  entered_more : every (λ (b : List ℕ). not (above_stamp after_marks b) || not (leb (number_of b) (closed_of (committing s x).lent) && eqb (dirty_of (committing s x).lent (page_of b)) 0)) (rows_of g (done ++ more)) ≡ true
  entered_more =
      ap (λ (l : List (List ℕ)). every (λ (b : List ℕ). not (above_stamp after_marks b) || not (leb (number_of b) (closed_of (committing s x).lent) && eqb (dirty_of (committing s x).lent (page_of b)) 0)) l) rows_more
      ∙ have (above_stamp s.durable.marks) (above_stamp after_marks) above_left (rows_of g done) newer newer_above
      (λ (b : List ℕ). not (leb (number_of b) (closed_of s) && eqb (dirty_of s (page_of b)) 0)) (λ (b : List ℕ). not (leb (number_of b) (closed_of (committing s x).lent) && eqb (dirty_of (committing s x).lent (page_of b)) 0))
      (λ (b : List ℕ). λ i. not (leb (number_of b) (closed_left i) && eqb (dirty_left (page_of b) i) 0)) r.durable.entered
      (every_imp (after (last_of s)) (λ (b : List ℕ). not (leb (number_of b) (closed_of s) && eqb (dirty_of s (page_of b)) 0)) later newer newer_after)
    where
      later : (b : List ℕ) → after (last_of s) b ≡ true → not (leb (number_of b) (closed_of s) && eqb (dirty_of s (page_of b)) 0) ≡ true
      later b e = ap (λ (t : Bool). not (t && eqb (dirty_of s (page_of b)) 0)) (lt-leb (number_of b) (closed_of s) (omega (arith, ltb-true (last_of s) (number_of b) e, r.durable.closed)))

  page_more : (p : ℕ) → p < g.pages → page_in g.size p s.durable.stored ≡ applied (keep (λ (b : List ℕ). on_page p b && not (above_stamp after_marks b)) (rows_of g (done ++ more))) (page_in g.size p g.start)
  page_more p m =
      r.durable.page p m
      ∙ sym (ap (λ (l : List (List ℕ)). applied l (page_in g.size p g.start))
      (ap (λ (l : List (List ℕ)). keep (λ (b : List ℕ). on_page p b && not (above_stamp after_marks b)) l) rows_more
      ∙ passed_over (above_stamp s.durable.marks) (above_stamp after_marks) above_left (rows_of g done) newer newer_above p))

  -- the durable part is right for all that is committed now
  pub durable_commit : DurableRight g (done ++ more) (committing s x).lent.durable
  unfolding committing newer
  durable_commit =
      record {
        fixed = r.durable.fixed;
        range = r.durable.range;
        size = r.durable.size;
        pages = r.durable.pages;
        marks = marks_commit s (marks_long r.durable) x numbers logs ∙ r.durable.marks;
        log = log_length_commit s (marks_long r.durable) r.durable.log r.durable.logged x r.whole.wide numbers logs space ∙ r.durable.log;
        stored = r.durable.stored;
        last = omega (arith, last_on, r.durable.last, length-append done more, more_length);
        bound = omega (arith, last_on);
        logged = omega (arith, logged_on);
        logged_done = omega (arith, logged_on, r.durable.logged_done, length-append done more, more_length);
        log_read = log_end;
        log_zero = log_zero_commit s (marks_long r.durable) r.durable.log r.durable.logged x r.whole.wide numbers logs;
        stamps = λ (p : ℕ) (m : p < g.pages). omega (arith, stamp_commit s (marks_long r.durable) x numbers logs p, r.durable.stamps p m, last_on);
        closed = omega (arith, closed_left, r.durable.closed, last_on);
        dirty = λ (p : ℕ) (m : p < g.pages). dirt_same first_left (dirty_left p) closed_left (r.durable.dirty p m);
        first = omega (arith, first_left, closed_left, r.durable.first);
        needed = needed_more;
        entered = entered_more;
        fits = room_left;
        page = page_more;
      }
