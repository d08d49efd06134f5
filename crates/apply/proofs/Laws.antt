-- Laws of `put` at a remainder, of a change by its fields, and of the turns of `fold`.
use Rattle.std.proofs.Common.{◌≡◌, ℕ, zero, suc, ◌+◌, ◌/◌, ◌%◌, ◌^◌, ◌<◌, ◌≤◌, Bool, true, false, cond, ◌&&◌, eqb, leb, List, length, get_or, drop, set, sym, refl, ◌∙◌, pow-suc, arith}
use mathlib.Core.List.{[], ◌∷◌}
use lib.Arith.{mod-mul, digits_div, digits_mod}
use Rattle.word.specs.Word.{num, put}
use Rattle.record.specs.Rows.{keep}
use Rattle.record.specs.Record.{changed, change, apply, applied}
use Rattle.record.proofs.Changes.{room_both}
use Rattle.record.proofs.Listed.{done_more, done_all}

-- a remainder by a power of 256: its lowest byte, and what is above it
pow_pos : (k : ℕ) → 0 < 256 ^ k
pow_pos zero = omega arith
pow_pos (suc k) = rw pow-suc (omega (arith, pow_pos k))

low : (k x : ℕ) → x % 256 ^ suc k % 256 ≡ x % 256
low k x =
    let b : x % 256 < 256 = omega arith in
    rw (pow-suc, mod-mul x {m = 256 ^ k} {c = 256} (pow_pos k) (omega arith)) (digits_mod (x / 256 % 256 ^ k) b)

high : (k x : ℕ) → x % 256 ^ suc k / 256 ≡ x / 256 % 256 ^ k
high k x =
    let b : x % 256 < 256 = omega arith in
    rw (pow-suc, mod-mul x {m = 256 ^ k} {c = 256} (pow_pos k) (omega arith)) (digits_div (x / 256 % 256 ^ k) b)

-- w bytes do not see what is above k bytes
pub put_below : (w k : ℕ) (l : List ℕ) (at x : ℕ) → w ≤ k → put w l at (x % 256 ^ k) ≡ put w l at x
unfolding put
put_below zero k l at x h = refl
put_below (suc w) zero l at x h = absurd (omega arith)
put_below (suc w) (suc k) l at x h = rw (low k x, high k x) (put_below w k (set l at (x % 256)) (at + 1) (x / 256) (omega arith))

-- only the number's lowest w bytes are written
pub put_mod : (w : ℕ) (l : List ℕ) (at x : ℕ) → put w l at (x % 256 ^ w) ≡ put w l at x
put_mod w l at x = put_below w w l at x (omega arith)

-- so a sum that wraps at eight bytes serves for one that wraps at its own length
pub put_wrap : (w : ℕ) (l : List ℕ) (at x : ℕ) → w ≤ 8 → put w l at (x % 2 ^ 64) ≡ put w l at (x % 256 ^ w)
put_wrap w l at x h = put_below w 8 l at x h ∙ sym (put_mod w l at x)

-- `write_change`: a change that fits, and one that does not
put_written : (b : Bool) (w : ℕ) (l : List ℕ) (at s v : ℕ) → w ≤ 8 → put w l at (cond b (s % 2 ^ 64) v) ≡ put w l at (cond b (s % 256 ^ w) v)
put_written true w l at s v h = put_wrap w l at s h
put_written false w l at s v h = refl

pub change_room : (offset w kind v old x : ℕ) (g g' : List ℕ) → (leb (offset + w) (length g) && leb w 8) ≡ true → old ≡ num w g offset → x ≡ cond (eqb kind 1) ((old + v) % 2 ^ 64) v → g' ≡ put w g offset x → g' ≡ change offset w kind v g
unfolding change changed
change_room offset w kind v old x g g' h eo ex eg =
    rw (h, ← eo, eg, ex) (put_written (eqb kind 1) w g offset (old + v) v (room_both (length g) offset w h).0)

pub change_none : (offset w kind v : ℕ) (g : List ℕ) → (leb (offset + w) (length g) && leb w 8) ≡ false → g ≡ change offset w kind v g
unfolding change
change_none offset w kind v g h = rw h

-- `fold`: a turn, and the end
applied_nil : (g : List ℕ) → applied [] g ≡ g
unfolding applied
applied_nil g = refl

applied_cons : (r : List ℕ) (rs : List (List ℕ)) (g : List ℕ) → applied (r ∷ rs) g ≡ applied rs (apply r g)
unfolding applied
applied_cons r rs g = refl

pub fold_turn : (b : List ℕ → Bool) (rs : List (List ℕ)) (i : ℕ) (g g' h : List ℕ) → i < length rs → g' ≡ cond (b (get_or rs i [])) (apply (get_or rs i []) g) g → applied (keep b (drop i rs)) g ≡ h → applied (keep b (drop (i + 1) rs)) g' ≡ h
fold_turn b rs = done_more applied apply applied_nil applied_cons b rs

pub fold_done : (b : List ℕ → Bool) (rs : List (List ℕ)) (i : ℕ) (g h : List ℕ) → length rs ≤ i → applied (keep b (drop i rs)) g ≡ h → g ≡ h
fold_done b rs = done_all applied apply applied_nil applied_cons b rs
