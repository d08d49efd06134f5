-- What steps keep: the frame for a page is one of the frames; close and compact leave what format fixed, and the marks' length; no compaction writes the log.
use Prim.Native.Nat.{ℕ, zero, suc, ◌+◌, ◌≤◌, ◌<◌}
use native.Mathlib.Omega.{arith}
use mathlib.Core.Path.{◌≡◌, refl, ◌∙◌}
use mathlib.Core.Bool.{Bool, true, false, cond}
use mathlib.Core.List.{List, [], ◌∷◌}
use lib.ListN.{length}
use lib.Dec.{ltb}
use borrow.Author.Tests.{ltb-true}
use Rattle.word.specs.Word.{num}
use Rattle.word.proofs.Laws.{length_put}
use Rattle.word.proofs.Puts.{num_put_below}
use Rattle.record.specs.Record.{page_of, number_of, committed, lesser, greatest}
use Rattle.record.proofs.Laws.{either_length}
use Rattle.order.specs.Order.{named, victim, frame_from, frame_for}
use Rattle.rules.specs.Lent.{Lent, last_of, logged_of, stamp_at, dirty_at}
use Rattle.rules.specs.Sound.{every}
use Rattle.rules.specs.Steps.{left, foldable, due, compacted, compact_step, lowered, after_pages}
use Rattle.rules.proofs.Every.{every_at}

-- the frame for a page is one of the frames
frame_from_below : (n f frames : ℕ) (o : List ℕ) → f + n ≤ frames → victim o < frames → frame_from n f o < frames
unfolding frame_from
frame_from_below zero f frames o p h = h
frame_from_below (suc n) f frames o p h = go (named f o) (frame_from_below n (f + 1) frames o (omega arith) h)
  where
    go : (b : Bool) → frame_from n (f + 1) o < frames → cond b (frame_from n (f + 1) o) f < frames
    go true q = q
    go false q = omega arith

victim_below : (frames : ℕ) (o : List ℕ) → 1 ≤ frames → every (λ (f : ℕ). ltb f frames) o ≡ true → victim o < frames
unfolding victim
victim_below frames [] p h = p
victim_below frames (f ∷ o) p h = ltb-true f frames (every_at (λ (f : ℕ). ltb f frames) (f ∷ o) 0 h (omega arith))

pub frame_below : (frames : ℕ) (o : List ℕ) → 1 ≤ frames → every (λ (f : ℕ). ltb f frames) o ≡ true → frame_for frames o < frames
unfolding frame_for
frame_below frames o p h = frame_from_below frames 0 frames o (omega arith) (victim_below frames o p h)

-- a dirty number that is lowered leaves the length
pub length_lowered : (pages : ℕ) (rs : List (List ℕ)) (ms : List ℕ) → length (lowered pages rs ms) ≡ length ms
unfolding lowered
length_lowered pages [] ms = refl
length_lowered pages (r ∷ rs) ms =
    length_lowered pages rs _ ∙ either_length (committed r) (length ms) _ ms (length_put 4 ms (dirty_at pages (page_of r)) (lesser (num 4 ms (dirty_at pages (page_of r))) (number_of r))) refl

-- compact, and compact as a step
pub fixed_compact : (s : Lent) (p : ℕ) → (compacted s p).lent.durable.fixed ≡ s.durable.fixed
unfolding compacted
fixed_compact s p = refl

pub last_compact : (s : Lent) (p : ℕ) → last_of (compacted s p).lent ≡ last_of s
unfolding compacted
last_compact s p = num_put_below 4 4 s.durable.marks (stamp_at p) (greatest 0 (foldable s p)) 0 (omega arith)

pub logged_compact : (s : Lent) (p : ℕ) → logged_of (compacted s p).lent ≡ logged_of s
unfolding compacted
logged_compact s p = num_put_below 4 4 s.durable.marks (stamp_at p) (greatest 0 (foldable s p)) 8 (omega arith)

module _ (min_del max_age : ℕ) (s : Lent) (p : ℕ) where
  pub fixed_step : (compact_step min_del max_age s p).lent.durable.fixed ≡ s.durable.fixed
  unfolding compact_step
  fixed_step = go (due s p min_del max_age)
    where
      go : (b : Bool) → (cond b (compacted s p) (record { lent = s; reads = 0; writes = 0; logs = 0 })).lent.durable.fixed ≡ s.durable.fixed
      go true = fixed_compact s p
      go false = refl

  pub last_step : last_of (compact_step min_del max_age s p).lent ≡ last_of s
  unfolding compact_step
  last_step = go (due s p min_del max_age)
    where
      go : (b : Bool) → last_of (cond b (compacted s p) (record { lent = s; reads = 0; writes = 0; logs = 0 })).lent ≡ last_of s
      go true = last_compact s p
      go false = refl

  pub logged_step : logged_of (compact_step min_del max_age s p).lent ≡ logged_of s
  unfolding compact_step
  logged_step = go (due s p min_del max_age)
    where
      go : (b : Bool) → logged_of (cond b (compacted s p) (record { lent = s; reads = 0; writes = 0; logs = 0 })).lent ≡ logged_of s
      go true = logged_compact s p
      go false = refl

  -- "log writes": none
  pub logs_step : (compact_step min_del max_age s p).logs ≡ 0
  unfolding compact_step compacted
  logs_step = go (due s p min_del max_age)
    where
      go : (b : Bool) → (cond b (compacted s p) (left s 0 0 0)).logs ≡ 0
      go true = refl
      go false = refl

pub logs_pages : (min_del max_age j : ℕ) (s : Lent) → (after_pages min_del max_age j s).logs ≡ 0
unfolding after_pages
logs_pages min_del max_age zero s = refl
logs_pages min_del max_age (suc j) s = omega (arith, logs_pages min_del max_age j s, logs_step min_del max_age (after_pages min_del max_age j s).lent j)
