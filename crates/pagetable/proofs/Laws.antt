-- What the test of the tables area is, and what it gives.
use Prim.Native.Nat.{ℕ, ◌+◌, ◌-◌, ◌/◌, ◌≤◌}
use mathlib.Core.Path.{◌≡◌, refl, sym, ◌∙◌}
use mathlib.Core.Bool.{Bool, true, false, ◌&&◌, and_comm}
use mathlib.Core.List.{List}
use lib.ListN.{get_or}
use lib.Dec.{eqb, leb, ltb}
use native.Mathlib.Omega.{arith}
use borrow.Author.Tests.{leb-true}
use Rattle.word.specs.Word.{num}
use Rattle.word.proofs.Tests.{and_both, and_six}
use Rattle.record.specs.Part.{part}
use Rattle.rules.specs.Lent.{used_in, order_in, entries_in, Lent, pages_of, frames_of, online_size_of}
use Rattle.rules.specs.Sound.{every, up_to, zeros, serving, times, s3_counts, s20_live, s4_entries, s5_frame_once, s6_order, s14_order_zero}
use Rattle.pagetable.specs.Test.{tables_test}

-- the test is the six sentences, in their order
pub tables_is : (s : Lent) → tables_test s.lost.tables (pages_of s) (frames_of s) (online_size_of s) ≡ (s3_counts s && s20_live s && s4_entries s && s5_frame_once s && s6_order s && s14_order_zero s)
unfolding tables_test s3_counts s20_live s4_entries s5_frame_once s6_order s14_order_zero
tables_is s = refl

-- what callers want of it
pub record Within (tables : List ℕ) (pages frames room : ℕ) : Type 0 where
  pub count : num 2 tables 0 ≤ room
  pub used : used_in tables ≤ frames
  pub live : every (λ (b : ℕ). leb b 1) (part 3 32 tables) ≡ true
  pub entries : every (λ (e : ℕ). leb (e / 2) frames) (entries_in tables pages frames) ≡ true
  pub once : up_to (λ (f : ℕ). leb (serving f (entries_in tables pages frames)) 1) frames 0 ≡ true
  pub order : every (λ (f : ℕ). ltb f frames) (order_in tables) ≡ true
  pub named : up_to (λ (f : ℕ). eqb (times f (order_in tables)) (serving f (entries_in tables pages frames))) frames 0 ≡ true
  pub tail : zeros (part (35 + used_in tables) (frames - used_in tables) tables) ≡ true

module _ (tables : List ℕ) (pages frames room : ℕ) (t : tables_test tables pages frames room ≡ true) where
  pub within : Within tables pages frames room
  unfolding tables_test
  within =
      let h = and_six (leb (num 2 tables 0) room && leb (used_in tables) frames) (every (λ (b : ℕ). leb b 1) (part 3 32 tables))
      (every (λ (e : ℕ). leb (e / 2) frames) (entries_in tables pages frames))
      (up_to (λ (f : ℕ). leb (serving f (entries_in tables pages frames)) 1) frames 0)
      (every (λ (f : ℕ). ltb f frames) (order_in tables) && up_to (λ (f : ℕ). eqb (times f (order_in tables)) (serving f (entries_in tables pages frames))) frames 0)
      (zeros (part (35 + used_in tables) (frames - used_in tables) tables)) t in
      let k = and_both (leb (num 2 tables 0) room) (leb (used_in tables) frames) h.0 in
      let o = and_both (every (λ (f : ℕ). ltb f frames) (order_in tables)) (up_to (λ (f : ℕ). eqb (times f (order_in tables)) (serving f (entries_in tables pages frames))) frames 0) h.4 in
      record {
        count = leb-true (num 2 tables 0) room k.0;
        used = leb-true (used_in tables) frames k.1;
        live = h.1;
        entries = h.2;
        once = h.3;
        order = o.0;
        named = o.1;
        tail = h.5;
      }

  pub count_within : num 2 tables 0 ≤ room
  count_within = within.count

  pub used_within : get_or tables 2 0 ≤ frames
  used_within = within.used

  pub entries_within : every (λ (e : ℕ). leb (e / 2) frames) (part (35 + frames) pages tables) ≡ true
  entries_within = within.entries

  pub order_within : every (λ (f : ℕ). ltb f frames) (part 35 (get_or tables 2 0) tables) ≡ true
  order_within = within.order

-- `sound_tables`: counts that do not fit; and the tests in the order of the code
pub test_refused : (tables : List ℕ) (pages frames room : ℕ) (k : Bool) → k ≡ (leb (num 2 tables 0) room && leb (get_or tables 2 0) frames) → k ≡ false → false ≡ tables_test tables pages frames room
unfolding tables_test
test_refused tables pages frames room k e h =
    let z : (leb (num 2 tables 0) room && leb (get_or tables 2 0) frames) ≡ false = sym e ∙ h in
    rw z

used_from : (tables : List ℕ) (frames room : ℕ) (k : Bool) → k ≡ (leb (num 2 tables 0) room && leb (get_or tables 2 0) frames) → k ≡ true → get_or tables 2 0 ≤ frames
used_from tables frames room k e h = leb-true (get_or tables 2 0) frames (and_both (leb (num 2 tables 0) room) (leb (get_or tables 2 0) frames) (sym e ∙ h)).1

pub used_fits : (tables : List ℕ) (frames room u : ℕ) (k : Bool) → k ≡ (leb (num 2 tables 0) room && leb (get_or tables 2 0) frames) → k ≡ true → u ≡ get_or tables 2 0 → u ≤ frames
used_fits tables frames room u k e h q = omega (arith, q, used_from tables frames room k e h)

shuffle : (l e o t a b : Bool) → (l && e && o && t && (a && b)) ≡ (l && e && a && (o && b) && t)
shuffle false e o t a b = refl
shuffle true false o t a b = refl
shuffle true true false t true b = refl
shuffle true true false t false b = refl
shuffle true true true t a b = and_comm t (a && b)

pub test_same : (tables : List ℕ) (pages frames room u : ℕ) (k l e o t s : Bool)
    → k ≡ (leb (num 2 tables 0) room && leb (get_or tables 2 0) frames) → k ≡ true → u ≡ get_or tables 2 0
    → l ≡ every (λ (b : ℕ). leb b 1) (part 3 32 tables)
    → e ≡ every (λ (x : ℕ). leb (x / 2) frames) (part (35 + frames) pages tables)
    → o ≡ every (λ (f : ℕ). ltb f frames) (part 35 u tables)
    → t ≡ zeros (part (35 + u) (frames - u) tables)
    → s ≡ (up_to (λ (f : ℕ). leb (serving f (part (35 + frames) pages tables)) 1) frames 0 && up_to (λ (f : ℕ). eqb (times f (part 35 u tables)) (serving f (part (35 + frames) pages tables))) frames 0)
    → (l && e && o && t && s) ≡ tables_test tables pages frames room
unfolding tables_test
test_same tables pages frames room u k l e o t s ek hk eu el ee eo et es =
    let z : (leb (num 2 tables 0) room && leb (get_or tables 2 0) frames) ≡ true = sym ek ∙ hk in
    rw (z, ← eu, el, ee, eo, et, es)
    (shuffle (every (λ (b : ℕ). leb b 1) (part 3 32 tables)) (every (λ (x : ℕ). leb (x / 2) frames) (part (35 + frames) pages tables))
    (every (λ (f : ℕ). ltb f frames) (part 35 u tables)) (zeros (part (35 + u) (frames - u) tables))
    (up_to (λ (f : ℕ). leb (serving f (part (35 + frames) pages tables)) 1) frames 0)
    (up_to (λ (f : ℕ). eqb (times f (part 35 u tables)) (serving f (part (35 + frames) pages tables))) frames 0))
