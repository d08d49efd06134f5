-- What is read back of the tables with another use order, and with another count of online rows too. And what an entry names.
use Prim.Native.Nat.{ℕ, ◌+◌, ◌/◌, ◌≤◌, ◌<◌}
use native.Mathlib.Omega.{arith}
use mathlib.Core.Path.{◌≡◌, refl, sym, ap, ◌∙◌}
use mathlib.Core.List.{List, ◌++◌}
use lib.ListN.{length, get_or, take, drop, set, replicate, length-append, length-set, length-replicate}
use lib.Seq.{get_or-set_same, get_or-set_other, get_or-drop, drop-set-lt, take_at, take-take, length-take-le}
use lib.Dec.{leb}
use borrow.Author.Tests.{leb-true}
use Rattle.word.specs.Word.{num}
use Rattle.word.proofs.Laws.{length_put}
use Rattle.word.proofs.Puts.{get_d_put_above, num_put, drop_put}
use Rattle.record.specs.Part.{part, with_part}
use Rattle.record.proofs.Parts.{length_with, get_d_with_below, drop_with, part_with, length_part}
use Rattle.record.proofs.Laws.{get_d_part}
use Rattle.rules.specs.Lent.{entry_at, with_order, with_count, Lent, pages_of, frames_of, entry_of, entries_of}
use Rattle.rules.specs.Shape.{Shaped}
use Rattle.rules.proofs.Every.{every_at}

-- a count is of the first two bytes
count_same : (t u : List ℕ) → get_or u 0 0 ≡ get_or t 0 0 → get_or u 1 0 ≡ get_or t 1 0 → num 2 u 0 ≡ num 2 t 0
unfolding num
count_same t u d e = rw (d, e)

module _ (frames : ℕ) (o t : List ℕ) (h : 35 + frames ≤ length t) where
  filled : List ℕ
  filled = take frames (o ++ replicate frames 0)

  filled_length : length filled ≡ frames
  unfolding filled
  filled_length =
      let e : length (o ++ replicate frames 0) ≡ length o + frames = length-append o (replicate frames 0) ∙ ap (λ (x : ℕ). length o + x) (length-replicate {A = ℕ} frames 0) in
      length-take-le frames (o ++ replicate frames 0) (omega arith)

  ordered : List ℕ
  ordered = with_part 35 frames t filled

  ordered_length : length ordered ≡ length t
  unfolding ordered
  ordered_length = length_with 35 frames t filled h filled_length

  -- another use order: the count of online rows, and each entry, are as before
  order_byte : (i : ℕ) → i < 2 → get_or (with_order frames o t) i 0 ≡ get_or t i 0
  unfolding ordered filled
  order_byte i k = get_or-set_other ordered 2 i (length o) 0 (λ e. omega arith) ∙ get_d_with_below 35 frames t filled i (omega arith) (omega arith)

  order_count : num 2 (with_order frames o t) 0 ≡ num 2 t 0
  order_count = count_same t (with_order frames o t) (order_byte 0 (omega arith)) (order_byte 1 (omega arith))

  order_entry : (p : ℕ) → get_or (with_order frames o t) (entry_at frames p) 0 ≡ get_or t (entry_at frames p) 0
  unfolding ordered filled
  order_entry p =
      sym (get_or-drop (35 + frames) (with_order frames o t) p 0)
      ∙ ap (λ (l : List ℕ). get_or l p 0) (drop-set-lt (35 + frames) ordered 2 (length o) (omega arith) ∙ drop_with 35 frames t filled h filled_length)
      ∙ get_or-drop (35 + frames) t p 0

  -- another use order and another count
  module _ (count : ℕ) where
    pub tables_keep_length : length (with_count count (with_order frames o t)) ≡ length t
    unfolding ordered filled
    tables_keep_length =
        length_put 2 (with_order frames o t) 0 count ∙ length-set ordered 2 (length o) ∙ ordered_length

    -- the count
    pub tables_count : count < 65536 → num 2 (with_count count (with_order frames o t)) 0 ≡ count
    unfolding ordered filled
    tables_count k =
        let e : length (with_order frames o t) ≡ length t = length-set ordered 2 (length o) ∙ ordered_length in
        let g : 0 + 2 ≤ length (with_order frames o t) = omega arith in
        num_put 2 (with_order frames o t) 0 count g k

    -- the length of the order
    pub tables_used : get_or (with_count count (with_order frames o t)) 2 0 ≡ length o
    unfolding ordered filled
    tables_used =
        let e : length ordered ≡ length t = ordered_length in
        let g : 2 < length ordered = omega arith in
        get_d_put_above 2 (with_order frames o t) 0 count 2 (omega arith) ∙ get_or-set_same ordered 2 (length o) 0 g

    behind : (n : ℕ) → 3 ≤ n → drop n (with_count count (with_order frames o t)) ≡ drop n ordered
    unfolding ordered filled
    behind n k = drop_put 2 (with_order frames o t) 0 count n (omega arith) ∙ drop-set-lt n ordered 2 (length o) (omega arith)

    -- the order
    pub tables_order : length o ≤ frames → part 35 (length o) (with_count count (with_order frames o t)) ≡ o
    unfolding ordered filled
    tables_order k =
        let g : 35 ≤ length t = omega arith in
        ap (λ (x : List ℕ). take (length o) x) (behind 35 (omega arith))
        ∙ sym (take-take (length o) frames (drop 35 ordered) k)
        ∙ ap (λ (x : List ℕ). take (length o) x) (part_with 35 frames t filled g filled_length)
        ∙ take-take (length o) frames (o ++ replicate frames 0) k
        ∙ take_at o (replicate frames 0) (length o) refl

    -- what is behind the order
    pub tables_behind : drop (35 + frames) (with_count count (with_order frames o t)) ≡ drop (35 + frames) t
    unfolding ordered filled
    tables_behind = behind (35 + frames) (omega arith) ∙ drop_with 35 frames t filled h filled_length

-- one entry and the use order change: the count of online rows is as before, and the entry is the new one
module _ (frames p e : ℕ) (o t : List ℕ) where
  changed_length : length (set t (entry_at frames p) e) ≡ length t
  changed_length = length-set t (entry_at frames p) e

  changed_byte : (i : ℕ) → i < 2 → get_or (set t (entry_at frames p) e) i 0 ≡ get_or t i 0
  changed_byte i k = get_or-set_other t (entry_at frames p) i e 0 (λ q. omega arith)

  pub changed_count : 35 + frames ≤ length t → num 2 (with_order frames o (set t (entry_at frames p) e)) 0 ≡ num 2 t 0
  changed_count h =
      order_count frames o (set t (entry_at frames p) e) (omega (arith, changed_length))
      ∙ count_same t (set t (entry_at frames p) e) (changed_byte 0 (omega arith)) (changed_byte 1 (omega arith))

  pub changed_entry : entry_at frames p < length t → get_or (with_order frames o (set t (entry_at frames p) e)) (entry_at frames p) 0 ≡ e
  changed_entry h = order_entry frames o (set t (entry_at frames p) e) (omega (arith, changed_length)) p ∙ get_or-set_same t (entry_at frames p) e 0 h

-- an entry names a frame, or none
pub entry_below : (s : Lent) (p : ℕ) → Shaped s → p < pages_of s → entry_of s p / 2 ≤ frames_of s
entry_below s p w h =
    let z = w.sized in
    let n : length (entries_of s) ≡ pages_of s = length_part (35 + frames_of s) (pages_of s) s.lost.tables (omega arith) in
    let k : p < length (entries_of s) = omega arith in
    let e : get_or (entries_of s) p 0 ≡ entry_of s p = get_d_part p (35 + frames_of s) (pages_of s) s.lost.tables h in
    rw e at (leb-true (get_or (entries_of s) p 0 / 2) (frames_of s) (every_at (λ (x : ℕ). leb (x / 2) (frames_of s)) (entries_of s) p w.entries k))
