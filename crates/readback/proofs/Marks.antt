-- What the durable marks say after each step that writes them: the last number L, the checkpoint number K, the log's count, the stamps and the dirty numbers.
-- Also what format fixed. Each law is over plain lists first, then over the lent bytes of the step.
use Prim.Native.Nat.{ℕ, zero, suc, ◌+◌, ◌*◌, ◌-◌, ◌≤◌, ◌<◌}
use native.Mathlib.Omega.{arith}
use mathlib.Core.Path.{◌≡◌, refl, sym, ap, ◌∙◌}
use mathlib.Core.Bool.{Bool, true, false, cond, ◌&&◌}
use mathlib.Core.List.{List, [], ◌∷◌}
use lib.ListN.{length, replicate, length-replicate}
use lib.Dec.{eqb, leb}
use borrow.Author.Tests.{eqb-true, eqb-false, leb-true, leb-false}
use Rattle.word.specs.Word.{num, put}
use Rattle.word.proofs.Laws.{length_put}
use Rattle.word.proofs.Puts.{num_put, num_put_below, num_put_above}
use Rattle.word.proofs.Tests.{and_both}
use Rattle.record.specs.Part.{with_part}
use Rattle.record.specs.Rows.{keep, cons_if}
use Rattle.record.specs.Record.{page_of, number_of, committed, committed_on, lesser, smallest}
use Rattle.record.proofs.Laws.{num_part}
use Rattle.record.proofs.Parts.{length_with, get_d_with_below, part_with}
use Rattle.order.proofs.Laws.{blank_at}
use Rattle.rules.specs.declared.Params.{Params}
use Rattle.rules.specs.Lent.{params_of, Lent, size_of, pages_of, frames_of, online_size_of, log_size_of, last_of, closed_of, logged_of, stamp_at, dirty_at, stamp_of, dirty_of, online_of}
use Rattle.rules.specs.Sound.{every, in_range}
use Rattle.rules.specs.Steps.{owned, committing, foldable, lowered, dropped_by, closed, stamped, formatted}
use Rattle.rules.proofs.Extremes.{number_at_most, lesser_most}
use Rattle.rules.proofs.Kept.{length_lowered}
use Rattle.rules.specs.Shape.{Ranged}
use Rattle.rules.proofs.Ranges.{ranged}

-- a number of 4 bytes where it was put
here : (l : List ℕ) (at v : ℕ) → at + 4 ≤ length l → v ≤ 4294967295 → num 4 (put 4 l at v) at ≡ v
here l at v h k = let k' : v < 4294967296 = omega arith in num_put 4 l at v h k'

-- zero bytes hold the number 0
pub num_zeros : (k n i : ℕ) → num k (replicate n 0) i ≡ 0
unfolding num
num_zeros zero n i = refl
num_zeros (suc k) n i = rw (blank_at {A = ℕ} n i 0, num_zeros k n (i + 1))

-- a number before a part that is written
num_with_below : (k a m : ℕ) (l ys : List ℕ) (i : ℕ) → a ≤ length l → i + k ≤ a → num k (with_part a m l ys) i ≡ num k l i
unfolding num
num_with_below zero a m l ys i h g = refl
num_with_below (suc k) a m l ys i h g =
    let g₁ : i < a = omega arith in
    let g₂ : i + 1 + k ≤ a = omega arith in
    rw (get_d_with_below a m l ys i h g₁, num_with_below k a m l ys (i + 1) h g₂)

-- rows that lower dirty numbers leave what is before those
num_pick : (b : Bool) (x ms : List ℕ) (i : ℕ) → num 4 x i ≡ num 4 ms i → num 4 (cond b x ms) i ≡ num 4 ms i
num_pick true x ms i h = h
num_pick false x ms i h = refl

lowered_front : (pages : ℕ) (rs : List (List ℕ)) (ms : List ℕ) (i : ℕ) → i + 4 ≤ 12 + 4 * pages → num 4 (lowered pages rs ms) i ≡ num 4 ms i
unfolding lowered
lowered_front pages [] ms i h = refl
lowered_front pages (r ∷ rs) ms i h =
    let v : ℕ = lesser (num 4 ms (dirty_at pages (page_of r))) (number_of r) in
    let x : List ℕ = put 4 ms (dirty_at pages (page_of r)) v in
    let k : i + 4 ≤ dirty_at pages (page_of r) = omega arith in
    lowered_front pages rs (cond (committed r) x ms) i h ∙ num_pick (committed r) x ms i (num_put_below 4 4 ms (dirty_at pages (page_of r)) v i k)

-- a dirty number elsewhere than where one is written
dirty_other : (pages : ℕ) (ms : List ℕ) (p q v : ℕ) → (q ≡ p → ⊥) → num 4 (put 4 ms (dirty_at pages q) v) (dirty_at pages p) ≡ num 4 ms (dirty_at pages p)
dirty_other pages ms p q v d = go (leb p q) refl
  where
    go : (b : Bool) → leb p q ≡ b → num 4 (put 4 ms (dirty_at pages q) v) (dirty_at pages p) ≡ num 4 ms (dirty_at pages p)
    go true e = num_put_below 4 4 ms (dirty_at pages q) v (dirty_at pages p) (omega (arith, leb-true p q e, d))
    go false e = num_put_above 4 4 ms (dirty_at pages q) v (dirty_at pages p) (omega (arith, leb-false p q e))

-- one row and the dirty number of page p
lowered_one : (pages : ℕ) (ms : List ℕ) (p : ℕ) (r : List ℕ) (rs : List (List ℕ)) → length ms ≡ 12 + 8 * pages → p < pages → number_of r ≤ 4294967295
    → smallest (num 4 (cond (committed r) (put 4 ms (dirty_at pages (page_of r)) (lesser (num 4 ms (dirty_at pages (page_of r))) (number_of r))) ms) (dirty_at pages p)) rs
    ≡ smallest (num 4 ms (dirty_at pages p)) (cons_if (committed_on p r) r rs)
unfolding smallest
lowered_one pages ms p r rs h k b = go (eqb (page_of r) p) (committed r) refl
  where
    written : (q : ℕ) → List ℕ
    written q = put 4 ms (dirty_at pages q) (lesser (num 4 ms (dirty_at pages q)) (number_of r))

    back : num 4 (written p) (dirty_at pages p) ≡ lesser (num 4 ms (dirty_at pages p)) (number_of r)
    back =
        let v : ℕ = lesser (num 4 ms (dirty_at pages p)) (number_of r) in
        let e : v ≤ number_of r = lesser_most (num 4 ms (dirty_at pages p)) (number_of r) in
        here ms (dirty_at pages p) v (omega arith) (omega arith)

    go : (y c : Bool) → eqb (page_of r) p ≡ y → smallest (num 4 (cond c (written (page_of r)) ms) (dirty_at pages p)) rs ≡ smallest (num 4 ms (dirty_at pages p)) (cons_if (y && c) r rs)
    go true true e = ap (λ (x : ℕ). smallest x rs) (ap (λ (q : ℕ). num 4 (written q) (dirty_at pages p)) (eqb-true (page_of r) p e) ∙ back)
    go false true e = ap (λ (x : ℕ). smallest x rs) (dirty_other pages ms p (page_of r) (lesser (num 4 ms (dirty_at pages (page_of r))) (number_of r)) (eqb-false (page_of r) p e))
    go true false e = refl
    go false false e = refl

-- rows lower the dirty number of page p to their smallest committed number on it
lowered_dirty : (pages : ℕ) (rs : List (List ℕ)) (ms : List ℕ) (p : ℕ) → length ms ≡ 12 + 8 * pages → p < pages → every (number_at_most 4294967295) rs ≡ true
    → num 4 (lowered pages rs ms) (dirty_at pages p) ≡ smallest (num 4 ms (dirty_at pages p)) (keep (committed_on p) rs)
unfolding lowered keep every smallest
lowered_dirty pages [] ms p h k b = refl
lowered_dirty pages (r ∷ rs) ms p h k b =
    let e = and_both (number_at_most 4294967295 r) (every (number_at_most 4294967295) rs) b in
    let x : List ℕ = cond (committed r) (put 4 ms (dirty_at pages (page_of r)) (lesser (num 4 ms (dirty_at pages (page_of r))) (number_of r))) ms in
    let n : length x ≡ length ms = length_lowered pages (r ∷ []) ms in
    lowered_dirty pages rs x p (n ∙ h) k e.1 ∙ lowered_one pages ms p r (keep (committed_on p) rs) h k (leb-true (number_of r) 4294967295 e.0)

-- stamps written from page p on: as many bytes, what is before them, what is behind them, each of them
length_stamped : (n p last : ℕ) (ms : List ℕ) → length (stamped n p last ms) ≡ length ms
unfolding stamped
length_stamped zero p last ms = refl
length_stamped (suc n) p last ms = length_stamped n (p + 1) last (put 4 ms (stamp_at p) last) ∙ length_put 4 ms (stamp_at p) last

stamped_before : (n p last : ℕ) (ms : List ℕ) (i : ℕ) → i + 4 ≤ stamp_at p → num 4 (stamped n p last ms) i ≡ num 4 ms i
unfolding stamped
stamped_before zero p last ms i h = refl
stamped_before (suc n) p last ms i h = stamped_before n (p + 1) last (put 4 ms (stamp_at p) last) i (omega arith) ∙ num_put_below 4 4 ms (stamp_at p) last i h

stamped_behind : (n p last : ℕ) (ms : List ℕ) (i : ℕ) → stamp_at (p + n) ≤ i → num 4 (stamped n p last ms) i ≡ num 4 ms i
unfolding stamped
stamped_behind zero p last ms i h = refl
stamped_behind (suc n) p last ms i h = stamped_behind n (p + 1) last (put 4 ms (stamp_at p) last) i (omega arith) ∙ num_put_above 4 4 ms (stamp_at p) last i (omega arith)

stamped_each : (n p last : ℕ) (ms : List ℕ) (q : ℕ) → p ≤ q → q < p + n → stamp_at (p + n) ≤ length ms → last ≤ 4294967295 → num 4 (stamped n p last ms) (stamp_at q) ≡ last
unfolding stamped
stamped_each zero p last ms q a b h k = absurd (omega arith)
stamped_each (suc n) p last ms q a b h k =
    let x : List ℕ = put 4 ms (stamp_at p) last in
    let e : length x ≡ length ms = length_put 4 ms (stamp_at p) last in
    go (eqb q p) refl (λ (d : q ≡ p → ⊥). stamped_each n (p + 1) last x q (omega (arith, d)) (omega arith) (omega arith) k)
  where
    go : (y : Bool) → eqb q p ≡ y → ((q ≡ p → ⊥) → num 4 (stamped n (p + 1) last (put 4 ms (stamp_at p) last)) (stamp_at q) ≡ last) → num 4 (stamped n (p + 1) last (put 4 ms (stamp_at p) last)) (stamp_at q) ≡ last
    go true e f =
        let x : List ℕ = put 4 ms (stamp_at p) last in
        let i : q ≡ p = eqb-true q p e in
        ap (λ (j : ℕ). num 4 (stamped n (p + 1) last x) (stamp_at j)) i
        ∙ stamped_before n (p + 1) last x (stamp_at p) (omega arith) ∙ here ms (stamp_at p) last (omega arith) k
    go false e f = f (eqb-false q p e)

-- the marks of so many pages
module _ (pages : ℕ) (ms : List ℕ) (h : length ms ≡ 12 + 8 * pages) where
  -- commit writes L and the log's count
  module _ (l n : ℕ) (hl : l ≤ 4294967295) (hn : n ≤ 4294967295) where
    abbrev counted : List ℕ
    counted = put 4 (put 4 ms 0 l) 8 n

    pub counted_length : length counted ≡ length ms
    counted_length = length_put 4 (put 4 ms 0 l) 8 n ∙ length_put 4 ms 0 l

    pub counted_last : num 4 counted 0 ≡ l
    counted_last = num_put_below 4 4 (put 4 ms 0 l) 8 n 0 (omega arith) ∙ here ms 0 l (omega arith) hl

    pub counted_closed : num 4 counted 4 ≡ num 4 ms 4
    counted_closed = num_put_below 4 4 (put 4 ms 0 l) 8 n 4 (omega arith) ∙ num_put_above 4 4 ms 0 l 4 (omega arith)

    pub counted_logged : num 4 counted 8 ≡ n
    counted_logged = let e : length (put 4 ms 0 l) ≡ length ms = length_put 4 ms 0 l in here (put 4 ms 0 l) 8 n (omega arith) hn

    -- stamps and dirty numbers are behind them
    pub counted_behind : (i : ℕ) → 12 ≤ i → num 4 counted i ≡ num 4 ms i
    counted_behind i k = num_put_above 4 4 (put 4 ms 0 l) 8 n i (omega arith) ∙ num_put_above 4 4 ms 0 l i (omega arith)

  -- compact writes the stamp of a page
  module _ (p g : ℕ) (k : p < pages) (hg : g ≤ 4294967295) where
    abbrev restamped : List ℕ
    restamped = put 4 ms (stamp_at p) g

    pub restamped_length : length restamped ≡ length ms
    restamped_length = length_put 4 ms (stamp_at p) g

    pub restamped_front : (i : ℕ) → i + 4 ≤ 12 → num 4 restamped i ≡ num 4 ms i
    restamped_front i j = num_put_below 4 4 ms (stamp_at p) g i (omega arith)

    pub restamped_same : num 4 restamped (stamp_at p) ≡ g
    restamped_same = here ms (stamp_at p) g (omega arith) hg

    pub restamped_other : (q : ℕ) → (q ≡ p → ⊥) → num 4 restamped (stamp_at q) ≡ num 4 ms (stamp_at q)
    restamped_other q d = go (leb q p) refl
      where
        go : (b : Bool) → leb q p ≡ b → num 4 (put 4 ms (stamp_at p) g) (stamp_at q) ≡ num 4 ms (stamp_at q)
        go true e = num_put_below 4 4 ms (stamp_at p) g (stamp_at q) (omega (arith, leb-true q p e, d))
        go false e = num_put_above 4 4 ms (stamp_at p) g (stamp_at q) (omega (arith, leb-false q p e))

    pub restamped_dirty : (q : ℕ) → num 4 restamped (dirty_at pages q) ≡ num 4 ms (dirty_at pages q)
    restamped_dirty q = num_put_above 4 4 ms (stamp_at p) g (dirty_at pages q) (omega arith)

  -- close empties the dirty numbers, lowers them by the online rows, and writes K and the log's count
  module _ (rs : List (List ℕ)) (l n : ℕ) (hl : l ≤ 4294967295) (hn : n ≤ 4294967295) where
    abbrev emptied : List ℕ
    emptied = with_part (dirty_at pages 0) (4 * pages) ms (replicate (4 * pages) 0)

    emptied_length : length emptied ≡ length ms
    emptied_length = length_with (dirty_at pages 0) (4 * pages) ms (replicate (4 * pages) 0) (omega arith) (length-replicate (4 * pages) 0)

    emptied_front : (i : ℕ) → i + 4 ≤ 12 + 4 * pages → num 4 emptied i ≡ num 4 ms i
    emptied_front i k = num_with_below 4 (dirty_at pages 0) (4 * pages) ms (replicate (4 * pages) 0) i (omega arith) (omega arith)

    emptied_dirty : (p : ℕ) → p < pages → num 4 emptied (dirty_at pages p) ≡ 0
    emptied_dirty p k =
        let e : dirty_at pages p ≡ dirty_at pages 0 + 4 * p = omega arith in
        ap (λ (i : ℕ). num 4 emptied i) e
        ∙ sym (num_part 4 (4 * p) (dirty_at pages 0) (4 * pages) emptied (omega arith))
        ∙ ap (λ (x : List ℕ). num 4 x (4 * p)) (part_with (dirty_at pages 0) (4 * pages) ms (replicate (4 * pages) 0) (omega arith) (length-replicate (4 * pages) 0))
        ∙ num_zeros 4 (4 * pages) (4 * p)

    abbrev anew : List ℕ
    anew = lowered pages rs emptied

    anew_length : length anew ≡ length ms
    anew_length = length_lowered pages rs emptied ∙ emptied_length

    abbrev shut : List ℕ
    shut = put 4 (put 4 anew 4 l) 8 n

    pub shut_length : length shut ≡ length ms
    shut_length = length_put 4 (put 4 anew 4 l) 8 n ∙ length_put 4 anew 4 l ∙ anew_length

    pub shut_last : num 4 shut 0 ≡ num 4 ms 0
    shut_last =
        num_put_below 4 4 (put 4 anew 4 l) 8 n 0 (omega arith) ∙ num_put_below 4 4 anew 4 l 0 (omega arith)
        ∙ lowered_front pages rs emptied 0 (omega arith) ∙ emptied_front 0 (omega arith)

    pub shut_closed : num 4 shut 4 ≡ l
    shut_closed =
        let e : length anew ≡ length ms = anew_length in
        num_put_below 4 4 (put 4 anew 4 l) 8 n 4 (omega arith) ∙ here anew 4 l (omega arith) hl

    pub shut_logged : num 4 shut 8 ≡ n
    shut_logged =
        let e : length (put 4 anew 4 l) ≡ length ms = length_put 4 anew 4 l ∙ anew_length in
        here (put 4 anew 4 l) 8 n (omega arith) hn

    shut_behind : (i : ℕ) → 12 ≤ i → num 4 shut i ≡ num 4 anew i
    shut_behind i k = num_put_above 4 4 (put 4 anew 4 l) 8 n i (omega arith) ∙ num_put_above 4 4 anew 4 l i (omega arith)

    pub shut_stamp : (p : ℕ) → p < pages → num 4 shut (stamp_at p) ≡ num 4 ms (stamp_at p)
    shut_stamp p k = shut_behind (stamp_at p) (omega arith) ∙ lowered_front pages rs emptied (stamp_at p) (omega arith) ∙ emptied_front (stamp_at p) (omega arith)

    pub shut_dirty : (p : ℕ) → p < pages → every (number_at_most 4294967295) rs ≡ true → num 4 shut (dirty_at pages p) ≡ smallest 0 (keep (committed_on p) rs)
    shut_dirty p k b =
        shut_behind (dirty_at pages p) (omega arith)
        ∙ lowered_dirty pages rs emptied p (emptied_length ∙ h) k b
        ∙ ap (λ (x : ℕ). smallest x (keep (committed_on p) rs)) (emptied_dirty p k)

-- format writes L, K and every stamp into zero bytes
module _ (pages n last : ℕ) (h : n ≡ 12 + 8 * pages) (hl : last ≤ 4294967295) where
  abbrev blank : List ℕ
  blank = replicate n 0

  abbrev fresh : List ℕ
  fresh = put 4 (put 4 blank 0 last) 4 last

  fresh_length : length fresh ≡ n
  fresh_length = length_put 4 (put 4 blank 0 last) 4 last ∙ length_put 4 blank 0 last ∙ length-replicate n 0

  fresh_behind : (i : ℕ) → 8 ≤ i → num 4 fresh i ≡ 0
  fresh_behind i k = num_put_above 4 4 (put 4 blank 0 last) 4 last i (omega arith) ∙ num_put_above 4 4 blank 0 last i (omega arith) ∙ num_zeros 4 n i

  abbrev made : List ℕ
  made = stamped pages 0 last fresh

  pub made_length : length made ≡ n
  made_length = length_stamped pages 0 last fresh ∙ fresh_length

  pub made_last : num 4 made 0 ≡ last
  made_last =
      let e : length blank ≡ n = length-replicate n 0 in
      stamped_before pages 0 last fresh 0 (omega arith) ∙ num_put_below 4 4 (put 4 blank 0 last) 4 last 0 (omega arith) ∙ here blank 0 last (omega arith) hl

  pub made_closed : num 4 made 4 ≡ last
  made_closed =
      let e : length (put 4 blank 0 last) ≡ n = length_put 4 blank 0 last ∙ length-replicate n 0 in
      stamped_before pages 0 last fresh 4 (omega arith) ∙ here (put 4 blank 0 last) 4 last (omega arith) hl

  pub made_logged : num 4 made 8 ≡ 0
  made_logged = stamped_before pages 0 last fresh 8 (omega arith) ∙ fresh_behind 8 (omega arith)

  pub made_stamp : (p : ℕ) → p < pages → num 4 made (stamp_at p) ≡ last
  made_stamp p k = let e : length fresh ≡ n = fresh_length in stamped_each pages 0 last fresh p (omega arith) (omega arith) (omega arith) hl

  pub made_dirty : (p : ℕ) → num 4 made (dirty_at pages p) ≡ 0
  made_dirty p = stamped_behind pages 0 last fresh (dirty_at pages p) (omega arith) ∙ fresh_behind (dirty_at pages p) (omega arith)

-- format writes what it was given, each number in 4 bytes
module _ (g : Params) (r : in_range g ≡ true) where
  abbrev f₁ : List ℕ
  f₁ = put 4 (replicate 20 0) 0 g.size

  abbrev f₂ : List ℕ
  f₂ = put 4 f₁ 4 g.pages

  abbrev f₃ : List ℕ
  f₃ = put 4 f₂ 8 g.frames

  abbrev f₄ : List ℕ
  f₄ = put 4 f₃ 12 g.online

  abbrev f₅ : List ℕ
  f₅ = put 4 f₄ 16 g.log

  within : Ranged g
  within = ranged g r

  length_three : length f₃ ≡ 20
  length_three = length_put 4 f₂ 8 g.frames ∙ length_put 4 f₁ 4 g.pages ∙ length_put 4 (replicate 20 0) 0 g.size

  length_five : length f₅ ≡ 20
  length_five = length_put 4 f₄ 16 g.log ∙ length_put 4 f₃ 12 g.online ∙ length_three

  -- a number before the last ones
  before_five : (i : ℕ) → i + 4 ≤ 12 → num 4 f₅ i ≡ num 4 f₃ i
  before_five i h = num_put_below 4 4 f₄ 16 g.log i (omega arith) ∙ num_put_below 4 4 f₃ 12 g.online i (omega arith)

  size_five : num 4 f₅ 0 ≡ g.size
  size_five =
      before_five 0 (omega arith) ∙ num_put_below 4 4 f₂ 8 g.frames 0 (omega arith) ∙ num_put_below 4 4 f₁ 4 g.pages 0 (omega arith)
      ∙ here (replicate 20 0) 0 g.size (omega arith) (omega (arith, within.size_most))

  pages_five : num 4 f₅ 4 ≡ g.pages
  pages_five =
      let e : length f₁ ≡ 20 = length_put 4 (replicate 20 0) 0 g.size in
      before_five 4 (omega arith) ∙ num_put_below 4 4 f₂ 8 g.frames 4 (omega arith) ∙ here f₁ 4 g.pages (omega arith) (omega (arith, within.pages_most))

  frames_five : num 4 f₅ 8 ≡ g.frames
  frames_five =
      let e : length f₂ ≡ 20 = length_put 4 f₁ 4 g.pages ∙ length_put 4 (replicate 20 0) 0 g.size in
      before_five 8 (omega arith) ∙ here f₂ 8 g.frames (omega arith) (omega (arith, within.frames_most))

  online_size_five : num 4 f₅ 12 ≡ g.online
  online_size_five =
      num_put_below 4 4 f₄ 16 g.log 12 (omega arith) ∙ here f₃ 12 g.online (omega (arith, length_three)) (omega (arith, within.online_most))

  log_size_five : num 4 f₅ 16 ≡ g.log
  log_size_five =
      let e : length f₄ ≡ 20 = length_put 4 f₃ 12 g.online ∙ length_three in
      here f₄ 16 g.log (omega arith) (omega (arith, within.log_most))

-- the lent bytes of a step
module _ (s : Lent) (h : length s.durable.marks ≡ 12 + 8 * pages_of s) where
  -- commit moves L and the log's count on, no other mark
  module _ (x : ℕ) (hl : last_of s + length (owned s x) ≤ 4294967295) (hn : logged_of s + length (owned s x) ≤ 4294967295) where
    pub marks_commit : length (committing s x).lent.durable.marks ≡ length s.durable.marks
    unfolding committing
    marks_commit = counted_length (pages_of s) s.durable.marks h (last_of s + length (owned s x)) (logged_of s + length (owned s x)) hl hn

    pub last_commit : last_of (committing s x).lent ≡ last_of s + length (owned s x)
    unfolding committing
    last_commit = counted_last (pages_of s) s.durable.marks h (last_of s + length (owned s x)) (logged_of s + length (owned s x)) hl hn

    pub closed_commit : closed_of (committing s x).lent ≡ closed_of s
    unfolding committing
    closed_commit = counted_closed (pages_of s) s.durable.marks h (last_of s + length (owned s x)) (logged_of s + length (owned s x)) hl hn

    pub logged_commit : logged_of (committing s x).lent ≡ logged_of s + length (owned s x)
    unfolding committing
    logged_commit = counted_logged (pages_of s) s.durable.marks h (last_of s + length (owned s x)) (logged_of s + length (owned s x)) hl hn

    pub stamp_commit : (p : ℕ) → stamp_of (committing s x).lent p ≡ stamp_of s p
    unfolding committing
    stamp_commit p = counted_behind (pages_of s) s.durable.marks h (last_of s + length (owned s x)) (logged_of s + length (owned s x)) hl hn (stamp_at p) (omega arith)

    pub dirty_commit : (p : ℕ) → dirty_of (committing s x).lent p ≡ dirty_of s p
    unfolding committing
    dirty_commit p = counted_behind (pages_of s) s.durable.marks h (last_of s + length (owned s x)) (logged_of s + length (owned s x)) hl hn (dirty_at (pages_of s) p) (omega arith)

  -- close makes K the last number, each dirty number the page's smallest committed online number, and takes the dropped from the log's count
  module _ (hl : last_of s ≤ 4294967295) (hn : logged_of s ≤ 4294967295) where
    fewer : logged_of s - dropped_by s ≤ 4294967295
    fewer = omega arith

    pub marks_close : length (closed s).lent.durable.marks ≡ length s.durable.marks
    unfolding closed
    marks_close = shut_length (pages_of s) s.durable.marks h (online_of s) (last_of s) (logged_of s - dropped_by s) hl fewer

    pub last_close : last_of (closed s).lent ≡ last_of s
    unfolding closed
    last_close = shut_last (pages_of s) s.durable.marks h (online_of s) (last_of s) (logged_of s - dropped_by s) hl fewer

    pub closed_close : closed_of (closed s).lent ≡ last_of s
    unfolding closed
    closed_close = shut_closed (pages_of s) s.durable.marks h (online_of s) (last_of s) (logged_of s - dropped_by s) hl fewer

    pub logged_close : logged_of (closed s).lent ≡ logged_of s - dropped_by s
    unfolding closed
    logged_close = shut_logged (pages_of s) s.durable.marks h (online_of s) (last_of s) (logged_of s - dropped_by s) hl fewer

    pub stamp_close : (p : ℕ) → p < pages_of s → stamp_of (closed s).lent p ≡ stamp_of s p
    unfolding closed
    stamp_close = shut_stamp (pages_of s) s.durable.marks h (online_of s) (last_of s) (logged_of s - dropped_by s) hl fewer

    pub dirty_close : (p : ℕ) → p < pages_of s → every (number_at_most 4294967295) (online_of s) ≡ true → dirty_of (closed s).lent p ≡ smallest 0 (foldable s p)
    unfolding closed
    dirty_close = shut_dirty (pages_of s) s.durable.marks h (online_of s) (last_of s) (logged_of s - dropped_by s) hl fewer

-- format: what it was given is what is read; L, K and the stamps are the L given, the rest is 0
module _ (s : Lent) (g : Params) (last : ℕ) (r : in_range g ≡ true) where
  pub fixed_format : length (formatted s g last).lent.durable.fixed ≡ 20
  unfolding formatted
  fixed_format = length_five g r

  pub size_format : size_of (formatted s g last).lent ≡ g.size
  unfolding formatted
  size_format = size_five g r

  pub pages_format : pages_of (formatted s g last).lent ≡ g.pages
  unfolding formatted
  pages_format = pages_five g r

  pub frames_format : frames_of (formatted s g last).lent ≡ g.frames
  unfolding formatted
  frames_format = frames_five g r

  pub online_size_format : online_size_of (formatted s g last).lent ≡ g.online
  unfolding formatted
  online_size_format = online_size_five g r

  pub log_size_format : log_size_of (formatted s g last).lent ≡ g.log
  unfolding formatted
  log_size_format = log_size_five g r

  pub range_format : in_range (params_of (formatted s g last).lent) ≡ true
  range_format = rw (size_format, pages_format, frames_format, online_size_format, log_size_format) r

  module _ (h : length s.durable.marks ≡ 12 + 8 * g.pages) (hl : last ≤ 4294967295) where
    pub marks_format : length (formatted s g last).lent.durable.marks ≡ length s.durable.marks
    unfolding formatted
    marks_format = made_length g.pages (length s.durable.marks) last h hl

    pub last_format : last_of (formatted s g last).lent ≡ last
    unfolding formatted
    last_format = made_last g.pages (length s.durable.marks) last h hl

    pub closed_format : closed_of (formatted s g last).lent ≡ last
    unfolding formatted
    closed_format = made_closed g.pages (length s.durable.marks) last h hl

    pub logged_format : logged_of (formatted s g last).lent ≡ 0
    unfolding formatted
    logged_format = made_logged g.pages (length s.durable.marks) last h hl

    pub stamp_format : (p : ℕ) → p < g.pages → stamp_of (formatted s g last).lent p ≡ last
    unfolding formatted
    stamp_format = made_stamp g.pages (length s.durable.marks) last h hl

    pub dirty_format : (p : ℕ) → dirty_of (formatted s g last).lent p ≡ 0
    unfolding formatted
    dirty_format p =
        ap (λ (n : ℕ). num 4 (stamped g.pages 0 last (put 4 (put 4 (replicate (length s.durable.marks) 0) 0 last) 4 last)) (dirty_at n p)) pages_format
        ∙ made_dirty g.pages (length s.durable.marks) last h hl p
