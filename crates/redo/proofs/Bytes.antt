-- What a change does byte by byte: it keeps every byte outside its range, and what it writes inside depends on the bytes inside only.
-- That changes which share no byte commute is read off from these two.
use Prim.Native.Nat.{ℕ, zero, suc, ◌+◌, ◌/◌, ◌%◌, ◌≤◌, ◌<◌}
use native.Mathlib.Omega.{arith}
use mathlib.Core.Path.{◌≡◌, refl, sym, ◌∙◌}
use mathlib.Core.Logic.{◌⊎◌, inl, inr}
use mathlib.Core.Bool.{Bool, true, false, cond, ◌&&◌}
use mathlib.Core.List.{List}
use lib.ListN.{length, get_or, set, length-set}
use lib.Seq.{get_or-set_same}
use lib.Dec.{leb}
use borrow.Author.Tests.{leb-true, leb-false}
use Rattle.word.specs.Word.{num, put}
use Rattle.word.proofs.Puts.{get_d_put_below, get_d_put_above}
use Rattle.record.specs.Record.{changed, change}
use Rattle.record.proofs.Changes.{room_both}

-- a place is outside the n bytes from a on
abbrev pub Outside : ℕ → ℕ → ℕ → Type 0
Outside a n i = (i < a) ⊎ (a + n ≤ i)

-- two pages have the same n bytes from a on
abbrev pub Agree : ℕ → ℕ → List ℕ → List ℕ → Type 0
Agree a n g h = (i : ℕ) → a ≤ i → i < a + n → get_or g i 0 ≡ get_or h i 0

-- a number is that of its bytes
pub num_agree : (w : ℕ) (g h : List ℕ) (at : ℕ) → Agree at w g h → num w g at ≡ num w h at
unfolding num
num_agree zero g h at e = refl
num_agree (suc w) g h at e =
    let a : get_or g at 0 ≡ get_or h at 0 = e at (omega arith) (omega arith) in
    let b : num w g (at + 1) ≡ num w h (at + 1) = num_agree w g h (at + 1) (λ i p q. e i (omega arith) (omega arith)) in
    rw (a, b)

-- bytes where a number is put, and elsewhere
pub put_outside : (w : ℕ) (g : List ℕ) (at v i : ℕ) → Outside at w i → get_or (put w g at v) i 0 ≡ get_or g i 0
put_outside w g at v i (inl h) = get_d_put_below w g at v i h
put_outside w g at v i (inr h) = get_d_put_above w g at v i h

pub put_inside : (w : ℕ) (g h : List ℕ) (at v : ℕ) → at + w ≤ length g → at + w ≤ length h → Agree at w (put w g at v) (put w h at v)
unfolding put
put_inside zero g h at v m n i p q = absurd (omega arith)
put_inside (suc w) g h at v m n i p q =
    let m' : at + 1 + w ≤ length (set g at (v % 256)) = omega (arith, length-set g at (v % 256)) in
    let n' : at + 1 + w ≤ length (set h at (v % 256)) = omega (arith, length-set h at (v % 256)) in
    go (leb i at) refl (put_inside w (set g at (v % 256)) (set h at (v % 256)) (at + 1) (v / 256) m' n' i)
  where
    after : List ℕ → List ℕ
    after l = put w (set l at (v % 256)) (at + 1) (v / 256)

    first : (l : List ℕ) → at + suc w ≤ length l → i ≡ at → get_or (after l) i 0 ≡ v % 256
    first l k e = rw e (get_d_put_below w (set l at (v % 256)) (at + 1) (v / 256) at (omega arith) ∙ get_or-set_same l at (v % 256) 0 (omega arith))

    go : (b : Bool) → leb i at ≡ b → (at + 1 ≤ i → i < at + 1 + w → get_or (after g) i 0 ≡ get_or (after h) i 0) → get_or (after g) i 0 ≡ get_or (after h) i 0
    go true t others =
        let e : i ≡ at = omega (arith, leb-true i at t) in
        first g m e ∙ sym (first h n e)
    go false t others = others (omega (arith, leb-false i at t)) (omega arith)

-- a change keeps the bytes outside its range
pub change_outside : (offset w kind v : ℕ) (g : List ℕ) (i : ℕ) → Outside offset w i → get_or (change offset w kind v g) i 0 ≡ get_or g i 0
unfolding change
change_outside offset w kind v g i h = pick (leb (offset + w) (length g) && leb w 8)
  where
    pick : (b : Bool) → get_or (cond b (put w g offset (changed kind w (num w g offset) v)) g) i 0 ≡ get_or g i 0
    pick true = put_outside w g offset (changed kind w (num w g offset) v) i h
    pick false = refl

-- and what it makes of those inside depends on those inside
pub change_inside : (offset w kind v : ℕ) (g h : List ℕ) → length g ≡ length h → Agree offset w g h → Agree offset w (change offset w kind v g) (change offset w kind v h)
unfolding change
change_inside offset w kind v g h n e i p q = rw (← n, ← num_agree w g h offset e) (pick (leb (offset + w) (length g) && leb w 8) refl)
  where
    new : ℕ
    new = changed kind w (num w g offset) v

    pick : (b : Bool) → (leb (offset + w) (length g) && leb w 8) ≡ b → get_or (cond b (put w g offset new) g) i 0 ≡ get_or (cond b (put w h offset new) h) i 0
    pick true t =
        let m : offset + w ≤ length g = (room_both (length g) offset w t).1 in
        put_inside w g h offset new m (omega arith) i p q
    pick false t = e i p q
