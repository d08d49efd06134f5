-- Soundness follows from the invariant: each clause of "Sound tables", S1 to S20, read off what the history and the bytes keep between them.
-- So no call after an honest use is refused as not sound.
use Prim.Native.Nat.{ℕ, ◌+◌, ◌-◌, ◌≤◌, ◌<◌}
use native.Mathlib.Omega.{arith}
use mathlib.Core.Path.{◌≡◌, refl, sym, ap, ◌∙◌}
use mathlib.Core.Bool.{Bool, true, false, not, ◌&&◌, ◌||◌}
use mathlib.Core.List.{List, [], ◌∷◌, ◌++◌}
use lib.ListN.{length, get_or, drop}
use lib.Seq.{get_or-drop}
use lib.Dec.{eqb, leb}
use borrow.Author.Tests.{eq-eqb, eqb-true, le-leb, leb-true, ltb-true}
use Rattle.word.proofs.Tests.{and_both, and_in}
use Rattle.record.specs.Rows.{row_at, rows, keep}
use Rattle.record.specs.Record.{owner_of, number_of, committed, body_of, entered, well_formed, free}
use Rattle.rules.specs.Lent.{Lent, Durable, size_of, pages_of, last_of, logged_of, first_number_of, log_of, live_of, online_of}
use Rattle.rules.specs.Sound.{every, pairs, apart, same, sound_durable, sound}
use Rattle.rules.proofs.Every.{or_left, or_right, every_keep, every_imp}
use Rattle.redo.proofs.Order.{free_sym, pairs_imp}
use Rattle.redo.proofs.Views.{rising}
use Rattle.redo.proofs.Loose.{≅-sym, ≅-pairs-true}
use Rattle.redo.proofs.Numbered.{entered_committed, entered_number, entered_bytes}
use Rattle.redo.proofs.Reader.{every_both}
use Rattle.readback.proofs.Seen.{only, lives_of, Areas}
use Rattle.readback.proofs.Lost.{live_whole}
use Rattle.keeps.proofs.Tests.{every_drop, every_append, every_all, pairs_keep, differ, differ_by, differ_then, same_itself}
use Rattle.keeps.proofs.Durables.{DurableHolds, holds_durable}
use Rattle.keeps.proofs.Numbering.{rows_at}
use Rattle.keeps.proofs.Clauses.{owned_right, in_log, stamp_below, HoldsIn, sound_by}
use Rattle.history.specs.Past.{Past}
use Rattle.history.proofs.Right.{Ground, rows_of, open_of, above_stamp, DurableRight, Right}
use Rattle.history.proofs.Tested.{every_numbered}
use Rattle.history.proofs.Facts.{done_formed, done_committed, done_rising, open_every, marks_long, stored_long, logged_last, online_every, online_each}

-- what restart checks holds of the durable part, and of the lengths of the lost one
module _ (g : Ground) (done : List (List ℕ)) (s : Lent) (d : DurableRight g done s.durable) where
  page_within : (p : ℕ) → p < pages_of s → p < g.pages
  page_within p h = omega (arith, d.pages)

  -- "records are well formed" of what was committed is so of the log, its end
  log_formed : every (well_formed g.size g.pages) done ≡ true → every (well_formed (size_of s) (pages_of s)) (log_of s) ≡ true
  log_formed h =
      ap (λ (n : ℕ). every (well_formed n (pages_of s)) (log_of s)) d.size
      ∙ ap (λ (n : ℕ). every (well_formed g.size n) (log_of s)) d.pages
      ∙ ap (λ (l : List (List ℕ)). every (well_formed g.size g.pages) l) d.log_read
      ∙ every_drop (well_formed g.size g.pages) (length done - logged_of s) done h

  right_durable : every (well_formed g.size g.pages) done ≡ true → DurableHolds s
  right_durable h =
      record {
        fixed = d.fixed;
        range = d.range;
        marks = marks_long d;
        log = d.log;
        stored = stored_long d;
        logged = d.logged;
        logged_last = logged_last d;
        first = d.first;
        closed_last = d.closed;
        stamps = λ p k. d.stamps p (page_within p k);
        dirty = λ p k. d.dirty p (page_within p k);
        formed = log_formed h;
        clear = d.log_zero;
      }

pub durable_sound : (g : Ground) (done : List (List ℕ)) (s : Lent) → DurableRight g done s.durable → every (well_formed g.size g.pages) done ≡ true → Areas s → sound_durable s ≡ true
durable_sound g done s d formed areas = holds_durable s (right_durable g done s d formed) areas

-- S8 of a committed record, and of an uncommitted one
owned_committed : (d : Durable) (lives r : List ℕ) → committed r ≡ true → 1 ≤ number_of r → number_of r ≤ last_of (only d) → owned_right d lives r ≡ true
owned_committed d lives r e low high =
    rw e (and_in (leb 1 (number_of r)) (leb (number_of r) (last_of (only d))) (le-leb 1 (number_of r) low) (le-leb (number_of r) (last_of (only d)) high))

owned_open : (d : Durable) (lives r : List ℕ) → committed r ≡ false → owner_of r ≤ 32 → number_of r ≡ 0 → eqb (get_or lives (owner_of r - 1) 0) 1 ≡ true → owned_right d lives r ≡ true
owned_open d lives r e high n live = rw (e, le-leb (owner_of r) 32 high, n) live

-- S9 of two records, either first
differ_sym : (a b : List ℕ) → differ a b ≡ true → differ b a ≡ true
differ_sym a b h = differ_by b a (λ e. e ∙ differ_then a b h (sym e))

-- each two differ if the first ones do and the rest have no number
differ_append : (l m : List (List ℕ)) → pairs differ l ≡ true → every (λ (r : List ℕ). eqb (number_of r) 0) m ≡ true → pairs differ (l ++ m) ≡ true
unfolding pairs every
differ_append [] [] h k = refl
differ_append [] (r ∷ m) h k =
    let e = and_both (eqb (number_of r) 0) (every (λ (q : List ℕ). eqb (number_of q) 0) m) k in
    and_in (every (differ r) m) (pairs differ m)
    (every_imp (λ (q : List ℕ). eqb (number_of q) 0) (differ r) (λ q f. or_left (eqb (number_of r) 0) (not (eqb (number_of r) (number_of q))) e.0) m e.1)
    (differ_append [] m h e.1)
differ_append (r ∷ l) m h k =
    let e = and_both (every (differ r) l) (pairs differ l) h in
    and_in (every (differ r) (l ++ m)) (pairs differ (l ++ m))
    (every_append (differ r) l m e.0 (every_imp (λ (q : List ℕ). eqb (number_of q) 0) (differ r) (λ q f. differ_by r q (λ n. n ∙ eqb-true (number_of q) 0 f)) m k))
    (differ_append l m e.1 k)

-- S13: a committed record is apart from any other
apart_sym : (a b : List ℕ) → apart a b ≡ true → apart b a ≡ true
unfolding apart
apart_sym a b h = pick (committed a) (committed b) (eqb (owner_of a) (owner_of b)) refl h
  where
    pick : (x y z : Bool) → eqb (owner_of a) (owner_of b) ≡ z → (x || y || z || free a b) ≡ true → (y || x || eqb (owner_of b) (owner_of a) || free b a) ≡ true
    pick true true z e p = refl
    pick true false z e p = refl
    pick false true z e p = refl
    pick false false true e p = or_left (eqb (owner_of b) (owner_of a)) (free b a) (eq-eqb (owner_of b) (owner_of a) (sym (eqb-true (owner_of a) (owner_of b) e)))
    pick false false false e p = or_right (eqb (owner_of b) (owner_of a)) (free b a) (free_sym a b p)

apart_append : (l m : List (List ℕ)) → every committed l ≡ true → pairs apart m ≡ true → pairs apart (l ++ m) ≡ true
unfolding pairs every apart
apart_append [] m h k = k
apart_append (r ∷ l) m h k =
    let e = and_both (committed r) (every committed l) h in
    and_in (every (apart r) (l ++ m)) (pairs apart (l ++ m)) (every_all (apart r) (λ q. rw e.0) (l ++ m)) (apart_append l m e.1 k)

-- where a record above its stamp is in the log's numbers, and one in the log's numbers is the log's record
log_holds : (above within it done : Bool) → (not above || within) ≡ true → (not within || it) ≡ true → (not above || (not done || (within && it))) ≡ true
log_holds true true it true p q = q
log_holds true true it false p q = refl
log_holds true false it done p q = let z : ◌≡◌ {A = ℕ} 0 1 = cc in absurd (omega arith)
log_holds false within it done p q = refl

-- the log's record of a number
log_at : (n logged i j : ℕ) (log : List ℕ) (done : List (List ℕ)) → rows 14 logged log 0 ≡ drop (n - logged) done → j < logged → n - logged + j ≡ i → row_at 14 log j ≡ get_or done i []
log_at n logged i j log done e h f =
    let z : j ≡ 0 + j = omega arith in
    ap (λ (k : ℕ). row_at 14 log k) z ∙ sym (rows_at 14 logged log 0 j h) ∙ ap (λ (l : List (List ℕ)). get_or l j []) e ∙ get_or-drop (n - logged) done j [] ∙ ap (λ (k : ℕ). get_or done k []) f

module _ (g : Ground) (done : List (List ℕ)) (h : Past) (s : Lent) (x : Right g done h s) where
  -- a test that each committed record passes, by its place
  done_every : (c : List ℕ → Bool) → ((i : ℕ) → i < length done → length (get_or done i []) ≡ 14 → c (entered (get_or done i []) (g.base + 1 + i)) ≡ true) → every c (rows_of g done) ≡ true
  done_every c f = every_numbered c (g.base + 1) done x.past.done_wide f

  online_formed : every (well_formed (size_of s) (pages_of s)) (online_of s) ≡ true
  online_formed =
      ap (λ (n : ℕ). every (well_formed n (pages_of s)) (online_of s)) x.durable.size
      ∙ ap (λ (n : ℕ). every (well_formed g.size n) (online_of s)) x.durable.pages
      ∙ online_each x (well_formed g.size g.pages) (done_formed x.past) (open_every x.past (well_formed g.size g.pages) (λ r f. f.formed))

  -- the live byte of a number is its place in the live set
  pub live_byte : (y : ℕ) → 1 ≤ y → y ≤ 32 → eqb (live_of s y) 1 ≡ h.live y
  live_byte y low high = ap (λ (n : ℕ). eqb n 1) (live_whole s y x.whole low high) ∙ x.lost.alive y low high

  number_of_done : (i : ℕ) → i < length done → length (get_or done i []) ≡ 14 → number_of (entered (get_or done i []) (g.base + 1 + i)) ≡ g.base + 1 + i
  number_of_done i p q = entered_number (get_or done i []) (g.base + 1 + i) q (omega (arith, x.durable.last, x.durable.bound))

  owners_right : every (owned_right s.durable (lives_of s)) (online_of s) ≡ true
  owners_right =
      online_each x (owned_right s.durable (lives_of s))
      (done_every (owned_right s.durable (lives_of s)) (λ i p q.
      let n : number_of (entered (get_or done i []) (g.base + 1 + i)) ≡ g.base + 1 + i = number_of_done i p q in
      owned_committed s.durable (lives_of s) (entered (get_or done i []) (g.base + 1 + i)) (entered_committed (get_or done i []) (g.base + 1 + i) q) (omega (arith, n)) (omega (arith, n, x.durable.last))))
      (open_every x.past (owned_right s.durable (lives_of s)) (λ r f. owned_open s.durable (lives_of s) r f.owned f.high f.number (x.lost.alive (owner_of r) f.low f.high ∙ f.alive)))

  -- each committed record within the log's numbers is the log's record of its number
  abbrev is_logged : List ℕ → Bool
  is_logged r = same (body_of r) (row_at 14 s.durable.log (number_of r - first_number_of s))

  done_logged : every (λ (r : List ℕ). not (leb (first_number_of s) (number_of r)) || is_logged r) (rows_of g done) ≡ true
  done_logged = done_every (λ (r : List ℕ). not (leb (first_number_of s) (number_of r)) || is_logged r) (λ i p q. pick i p q (leb (first_number_of s) (number_of (entered (get_or done i []) (g.base + 1 + i)))) refl)
    where
      pick : (i : ℕ) → i < length done → length (get_or done i []) ≡ 14 → (t : Bool) → leb (first_number_of s) (number_of (entered (get_or done i []) (g.base + 1 + i))) ≡ t → (not t || is_logged (entered (get_or done i []) (g.base + 1 + i))) ≡ true
      pick i p q false e = refl
      pick i p q true e =
          let r : List ℕ = entered (get_or done i []) (g.base + 1 + i) in
          let n : number_of r ≡ g.base + 1 + i = number_of_done i p q in
          let f : first_number_of s ≤ number_of r = leb-true (first_number_of s) (number_of r) e in
          let low : number_of r - first_number_of s < logged_of s = omega (arith, n, f, x.durable.last, x.durable.logged_done) in
          let at : length done - logged_of s + (number_of r - first_number_of s) ≡ i = omega (arith, n, f, x.durable.last, x.durable.logged_done) in
          ap (λ (b : List ℕ). same b (row_at 14 s.durable.log (number_of r - first_number_of s))) (entered_bytes (get_or done i []) (g.base + 1 + i) q)
          ∙ ap (λ (b : List ℕ). same (get_or done i []) b) (log_at (length done) (logged_of s) i (number_of r - first_number_of s) s.durable.log done x.durable.log_read low at)
          ∙ same_itself (get_or done i [])

  online_logged : every (in_log s.durable) (online_of s) ≡ true
  online_logged =
      online_every x (in_log s.durable)
      (every_both (λ (r : List ℕ). not (above_stamp s.durable.marks r) || leb (first_number_of s) (number_of r)) (λ (r : List ℕ). not (leb (first_number_of s) (number_of r)) || is_logged r)
      (λ (r : List ℕ). not (above_stamp s.durable.marks r) || (not (committed r) || (leb (first_number_of s) (number_of r) && is_logged r)))
      (λ r p q. log_holds (above_stamp s.durable.marks r) (leb (first_number_of s) (number_of r)) (is_logged r) (committed r) p q)
      (rows_of g done) x.durable.needed done_logged)
      (open_every x.past (in_log s.durable) (λ r f. or_left (not (committed r)) (leb (first_number_of s) (number_of r) && is_logged r) (ap not f.owned)))

  online_above : every (stamp_below s.durable) (online_of s) ≡ true
  online_above =
      online_every x (λ (r : List ℕ). not (committed r) || above_stamp s.durable.marks r)
      (every_all (λ (r : List ℕ). not (above_stamp s.durable.marks r) || (not (committed r) || above_stamp s.durable.marks r)) (λ r. pick (above_stamp s.durable.marks r) (committed r)) (rows_of g done))
      (open_every x.past (λ (r : List ℕ). not (committed r) || above_stamp s.durable.marks r) (λ r f. or_left (not (committed r)) (above_stamp s.durable.marks r) (ap not f.owned)))
    where
      pick : (a c : Bool) → (not a || (not c || a)) ≡ true
      pick true true = refl
      pick true false = refl
      pick false c = refl

  number_once : pairs differ (online_of s) ≡ true
  number_once =
      ≅-pairs-true differ differ_sym (≅-sym x.lost.online_is)
      (differ_append (keep (above_stamp s.durable.marks) (rows_of g done)) (open_of h)
      (pairs_keep (above_stamp s.durable.marks) differ (rows_of g done) (pairs_imp rising differ (λ a b e. differ_by a b (λ n. absurd (omega (arith, ltb-true (number_of a) (number_of b) e)))) (rows_of g done) (done_rising x.past)))
      (open_every x.past (λ (r : List ℕ). eqb (number_of r) 0) (λ r f. eq-eqb (number_of r) 0 f.number)))

  online_apart : pairs apart (online_of s) ≡ true
  online_apart =
      ≅-pairs-true apart apart_sym (≅-sym x.lost.online_is)
      (apart_append (keep (above_stamp s.durable.marks) (rows_of g done)) (open_of h) (every_keep (above_stamp s.durable.marks) committed (rows_of g done) (done_committed x.past)) x.past.apart)

  right_holds : HoldsIn s
  right_holds =
      record {
        seated = x.lost.seated;
        live = x.lost.lives_bits;
        formed = online_formed;
        owners = owners_right;
        logged = online_logged;
        above = online_above;
        once = number_once;
        dirty = λ p k. x.lost.dirty p (page_within g done s x.durable p k);
        apart_all = online_apart;
      }

-- what every call but format and restart checks
pub right_sound : (g : Ground) (done : List (List ℕ)) (h : Past) (s : Lent) → Right g done h s → sound s ≡ true
right_sound g done h s x = sound_by (durable_sound g done s x.durable x.past.formed x.whole.areas) x.whole (right_holds g done h s x)
