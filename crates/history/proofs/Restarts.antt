-- Restart reads the log alone, and what enters is just what no stored page holds: the committed updates numbered above their page's stamp.
-- So restart makes right what a power loss left, and a loss at any time leaves enough for it.
use Prim.Native.Nat.{ℕ, zero, suc, ◌+◌, ◌-◌, ◌≤◌}
use native.Mathlib.Omega.{arith}
use mathlib.Core.Path.{◌≡◌, refl, sym, ap, ◌∙◌, subst}
use mathlib.Core.Bool.{Bool, true, false, not, ◌&&◌, ◌||◌, and-false, false≢true}
use mathlib.Core.List.{List, [], append-nil}
use lib.ListN.{length, drop, replicate, length-drop, length-replicate, get_or-replicate}
use lib.Dec.{eqb, leb, ltb}
use borrow.Author.Tests.{ltb-true, ltb-false, lt-ltb, le-leb, lt-leb}
use Rattle.word.proofs.Tests.{and_both}
use Rattle.record.specs.Rows.{cons_if, keep}
use Rattle.record.specs.Record.{page_of, number_of, entered, committed}
use Rattle.record.proofs.Rows.{Wide, none, one, wide_drop, wide_keep}
use Rattle.rules.specs.Lent.{Lent, Lost, pages_of, frames_of, online_size_of, closed_of, logged_of, stamp_of, dirty_of, first_number_of}
use Rattle.rules.specs.Steps.{enters, entering, entering_all, restarted}
use Rattle.rules.specs.Sound.{every}
use Rattle.rules.proofs.Every.{keep_within, every_keep, every_imp}
use Rattle.rules.proofs.Needed.{enters_above}
use Rattle.redo.proofs.Loose.{numbered_from, ≅-equal}
use Rattle.redo.proofs.Numbered.{entered_page, entered_number, numbered_from_wide}
use Rattle.redo.proofs.Views.{keep_same_where}
use Rattle.seats.proofs.Loops.{evicted_entries, evicted_length, seated_restart, restart_unframed, restart_dirty}
use Rattle.readback.proofs.Seen.{Areas}
use Rattle.readback.proofs.Lost.{reads_restarted}
use Rattle.history.specs.Past.{Past, falls, rises}
use Rattle.history.specs.Run.{Fits, after_loss}
use Rattle.history.proofs.Right.{Ground, DurableRight, LostRight, Right, Down, rows_of, above_stamp}
use Rattle.history.proofs.Settle.{settle}
use Rattle.history.proofs.Facts.{done_paged, ranges}
use Rattle.history.proofs.Pasts.{past_falls, past_rises, open_falls, open_rises}

-- restart's rule, by the number and page of a row
abbrev rule : Lent → ℕ → ℕ → Bool
rule s n p = not (leb n (closed_of s) && eqb (dirty_of s p) 0) && not (leb n (stamp_of s p))

abbrev ruled : Lent → List ℕ → Bool
ruled s r = rule s (number_of r) (page_of r)

-- what enters of log records numbered from k on is what the rule picks of them as rows
entering_picks : (s : Lent) (k : ℕ) {bs : List (List ℕ)} → Wide 14 bs → k + length bs ≤ 4294967296 → entering s k bs ≡ keep (ruled s) (numbered_from k bs)
unfolding entering numbered_from keep
entering_picks s k none m = refl
entering_picks s k (one {r = b} {rs = bs} e h) m =
    let n : number_of (entered b k) ≡ k = entered_number b k e (omega arith) in
    let q : enters s k b ≡ ruled s (entered b k) = ap (λ (p : ℕ). rule s k p) (sym (entered_page b k e)) ∙ ap (λ (i : ℕ). rule s i (page_of (entered b k))) (sym n) in
    ap (λ (t : Bool). cons_if t (entered b k) (entering s (k + 1) bs)) q
    ∙ ap (λ (l : List (List ℕ)). cons_if (ruled s (entered b k)) (entered b k) l) (entering_picks s (k + 1) h (omega arith))

-- of rows numbered from k on, those before the number `first` can be left out, if the test picks none of them
front_passed : (c : List ℕ → Bool) (first k d : ℕ) {l : List (List ℕ)} → Wide 14 l → k + d ≡ first → d ≤ length l → k + length l ≤ 4294967296
    → every (λ (r : List ℕ). not (c r) || leb first (number_of r)) (numbered_from k l) ≡ true → keep c (numbered_from k l) ≡ keep c (numbered_from first (drop d l))
unfolding numbered_from keep every
front_passed c first k zero {l} w e p m h =
    let q : k ≡ first = omega arith in
    ap (λ (n : ℕ). keep c (numbered_from n l)) q
front_passed c first k (suc d) none e p m h = absurd (omega arith)
front_passed c first k (suc d) (one {r = b} {rs = l} w ws) e p m h =
    ap (λ (t : Bool). cons_if t (entered b k) (keep c (numbered_from (k + 1) l))) (unpicked (c (entered b k)) both.0)
    ∙ front_passed c first (k + 1) d ws (omega arith) (omega arith) (omega arith) both.1
  where
    test : List ℕ → Bool
    test r = not (c r) || leb first (number_of r)

    both : (test (entered b k) ≡ true) × (every test (numbered_from (k + 1) l) ≡ true)
    both = and_both (test (entered b k)) (every test (numbered_from (k + 1) l)) h

    low : leb first (number_of (entered b k)) ≡ false
    low = lt-leb first (number_of (entered b k)) (omega (arith, entered_number b k w (omega arith)))

    unpicked : (t : Bool) → (not t || leb first (number_of (entered b k))) ≡ true → t ≡ false
    unpicked true z = absurd (false≢true (sym low ∙ z))
    unpicked false z = refl

-- the second rule is that the row is above its stamp; the first decides nothing of such a row
ruled_same : (x : Bool) (stamp n : ℕ) → (not (ltb stamp n) || not x) ≡ true → (not x && not (leb n stamp)) ≡ ltb stamp n
ruled_same x stamp n h = go (ltb stamp n) refl h
  where
    go : (t : Bool) → ltb stamp n ≡ t → (not t || not x) ≡ true → (not x && not (leb n stamp)) ≡ t
    go true e k = rw (k, lt-leb n stamp (ltb-true stamp n e))
    go false e k = rw (le-leb n stamp (ltb-false stamp n e)) (and-false (not x))

-- what enters is what no stored page holds
pub entering_is : (g : Ground) (done : List (List ℕ)) (s : Lent) → Wide 14 done → DurableRight g done s.durable → entering_all s ≡ keep (above_stamp s.durable.marks) (rows_of g done)
entering_is g done s w d =
    ap (λ (l : List (List ℕ)). entering s (first_number_of s) l) d.log_read
    ∙ entering_picks s (first_number_of s) (wide_drop gone w) (omega (arith, length-drop gone done))
    ∙ sym (front_passed (ruled s) (first_number_of s) (g.base + 1) gone w (omega arith) (omega arith) (omega arith) needed)
    ∙ keep_same_where (λ (r : List ℕ). not (above r) || not (passed r)) (ruled s) above (λ r h. ruled_same (passed r) (stamp_of s (page_of r)) (number_of r) h) (rows_of g done) d.entered
  where
    -- how many log records were dropped
    gone : ℕ
    gone = length done - logged_of s

    above : List ℕ → Bool
    above r = above_stamp s.durable.marks r

    -- the first rule passes over the row
    passed : List ℕ → Bool
    passed r = leb (number_of r) (closed_of s) && eqb (dirty_of s (page_of r)) 0

    needed : every (λ (r : List ℕ). not (ruled s r) || leb (first_number_of s) (number_of r)) (rows_of g done) ≡ true
    needed = every_imp (λ (r : List ℕ). not (above r) || leb (first_number_of s) (number_of r)) (λ (r : List ℕ). not (ruled s r) || leb (first_number_of s) (number_of r)) (λ r h. go r (ruled s r) refl h) (rows_of g done) d.needed
      where
        go : (r : List ℕ) (t : Bool) → ruled s r ≡ t → (not (above r) || leb (first_number_of s) (number_of r)) ≡ true → (not t || leb (first_number_of s) (number_of r)) ≡ true
        go r true e h = ap (λ (t : Bool). not t || leb (first_number_of s) (number_of r)) (sym (lt-ltb (stamp_of s (page_of r)) (number_of r) (enters_above s (number_of r) r e))) ∙ h
        go r false e h = refl

-- what enters fits the online table
pub restart_fits : {g : Ground} {done : List (List ℕ)} {h : Past} {s : Lent} → Down g done h s → length (entering_all s) ≤ online_size_of s
restart_fits {g} {done} {h} {s} d = omega (arith, ap (λ (l : List (List ℕ)). length l) (entering_is g done s d.past.done_wide d.durable), d.durable.fits)

-- with nobody live and no page in a frame, online is what no stored page holds
module _ (g : Ground) (done : List (List ℕ)) (live : ℕ → Bool) (frames pages : ℕ) (marks stored pool : List ℕ) (rs : List (List ℕ)) where
  lost_risen : rs ≡ keep (above_stamp marks) (rows_of g done) → pages ≡ g.pages → ((x : ℕ) → live x ≡ false)
      → LostRight g done [] live frames marks stored pool [] (replicate 32 0) (evicted_entries rs (replicate pages 0)) rs
  unfolding every
  lost_risen e n dead =
      record {
        seated = seated_restart frames pages rs;
        entries_length = evicted_length rs (replicate pages 0) ∙ length-replicate {A = ℕ} pages 0 ∙ n;
        lives_length = refl;
        lives_bits = refl;
        alive = λ x a c. ap (λ (k : ℕ). eqb k 1) (get_or-replicate 32 (x - 1) 0 0 (omega arith)) ∙ sym (dead x);
        dirty = λ p h. restart_dirty pages rs p (omega arith);
        online_is = ≅-equal (e ∙ sym (append-nil (keep (above_stamp marks) (rows_of g done))));
        frame = λ p h i. absurd (false≢true (sym (restart_unframed pages rs p (omega arith)) ∙ i));
      }

-- restart: the history keeps what is committed
pub keeps_restart : {g : Ground} {done : List (List ℕ)} {h : Past} {s : Lent} → Down g done h s → Right g done (rises h) (restarted s).lent
unfolding restarted rises
keeps_restart {g} {done} {h} {s} d =
    settle (reads_restarted s d.areas (ranges d.durable).online_most (restart_fits d) wide below)
    (past_rises d.past) d.durable
    (subst (λ (o : List (List ℕ)). LostRight g done o (λ (x : ℕ). false) (frames_of s) marks s.durable.stored s.lost.pool [] (replicate 32 0) (evicted_entries (entering_all s) (replicate (pages_of s) 0)) (entering_all s))
    (sym (open_rises h))
    (lost_risen g done (λ (x : ℕ). false) (frames_of s) (pages_of s) marks s.durable.stored s.lost.pool (entering_all s) is d.durable.pages (λ x. refl)))
  where
    marks : List ℕ
    marks = s.durable.marks

    is : entering_all s ≡ keep (above_stamp marks) (rows_of g done)
    is = entering_is g done s d.past.done_wide d.durable

    wide : Wide 19 (entering_all s)
    wide = subst (λ (l : List (List ℕ)). Wide 19 l) (sym is) (wide_keep (above_stamp marks) (numbered_from_wide (g.base + 1) d.past.done_wide))

    below : every (λ (r : List ℕ). ltb (page_of r) (pages_of s)) (entering_all s) ≡ true
    below =
        ap (λ (n : ℕ). every (λ (r : List ℕ). ltb (page_of r) n) (entering_all s)) d.durable.pages
        ∙ ap (λ (l : List (List ℕ)). every (λ (r : List ℕ). ltb (page_of r) g.pages) l) is
        ∙ every_keep (above_stamp marks) (λ (r : List ℕ). ltb (page_of r) g.pages) (rows_of g done) (done_paged d.past)

-- a power loss leaves the durable part as it is, and the lost areas with their lengths
areas_fit : {s : Lent} (l : Lost) → Fits s l → Areas s → Areas (after_loss s l)
areas_fit l f a = record { tables = f.tables ∙ a.tables; online = f.online ∙ a.online; pool = f.pool ∙ a.pool }

-- restart without a loss, and again
pub falls_down : {g : Ground} {done : List (List ℕ)} {h : Past} {s : Lent} → Right g done h s → Down g done (falls h) s
falls_down {h = h} r = record { past = past_falls r.past; durable = r.durable; areas = r.whole.areas; none_open = open_falls h }

-- a power loss before the restart of another
pub keeps_loss_down : {g : Ground} {done : List (List ℕ)} {h : Past} {s : Lent} (l : Lost) → Fits s l → Down g done h s → Down g done (falls h) (after_loss s l)
keeps_loss_down {h = h} l f d = record { past = past_falls d.past; durable = d.durable; areas = areas_fit l f d.areas; none_open = open_falls h }

-- a power loss, at any time
pub keeps_loss : {g : Ground} {done : List (List ℕ)} {h : Past} {s : Lent} (l : Lost) → Fits s l → Right g done h s → Down g done (falls h) (after_loss s l)
keeps_loss {h = h} l f r = record { past = past_falls r.past; durable = r.durable; areas = areas_fit l f r.whole.areas; none_open = open_falls h }

-- what a loss left of the history, a restart leaves
pub rises_falls : (h : Past) → rises (falls h) ≡ rises h
unfolding rises falls
rises_falls h = ap (λ (l : List (List ℕ)). record { size = h.size; pages = h.pages; start = h.start; last = h.last; made = l; live = λ (y : ℕ). false; down = false }) (keep_within committed committed (λ r e. e) h.made)

-- restart while power was never lost
pub keeps_restart_up : {g : Ground} {done : List (List ℕ)} {h : Past} {s : Lent} → Right g done h s → Right g done (rises h) (restarted s).lent
keeps_restart_up {g} {done} {h} {s} r = subst (λ (k : Past). Right g done k (restarted s).lent) (rises_falls h) (keeps_restart (falls_down r))
