-- What changes to a page leave as it was: its length. And where a change has room.
use Prim.Native.Nat.{ℕ, ◌+◌, ◌≤◌}
use mathlib.Core.Path.{◌≡◌, refl, ◌∙◌}
use mathlib.Core.Bool.{Bool, true, false, cond, ◌&&◌}
use mathlib.Core.List.{List, [], ◌∷◌}
use lib.ListN.{length}
use lib.Dec.{leb}
use borrow.Author.Tests.{leb-true}
use Rattle.word.specs.Word.{num}
use Rattle.word.proofs.Laws.{length_put}
use Rattle.word.proofs.Tests.{and_both}
use Rattle.record.specs.Rows.{keep, cons_if}
use Rattle.record.specs.Record.{changed, change, apply, applied}
use Rattle.record.proofs.Laws.{either_length}

-- a page keeps its length
pub length_change : (offset w kind v : ℕ) (g : List ℕ) → length (change offset w kind v g) ≡ length g
unfolding change
length_change offset w kind v g = either_length (leb (offset + w) (length g) && leb w 8) (length g) _ g (length_put w g offset (changed kind w (num w g offset) v)) refl

pub length_apply : (r g : List ℕ) → length (apply r g) ≡ length g
unfolding apply
length_apply r g = length_change _ _ _ _ g

pub length_applied : (rs : List (List ℕ)) (g : List ℕ) → length (applied rs g) ≡ length g
unfolding applied
length_applied [] g = refl
length_applied (r ∷ rs) g = length_applied rs (apply r g) ∙ length_apply r g

-- a change that fits its page
pub room_both : (n offset w : ℕ) → (leb (offset + w) n && leb w 8) ≡ true → (w ≤ 8) × (offset + w ≤ n)
room_both n offset w h =
    let e = and_both (leb (offset + w) n) (leb w 8) h in
    (leb-true w 8 e.1, leb-true (offset + w) n e.0)

-- one row more is looked at
pub applied_keep : (b : List ℕ → Bool) (r : List ℕ) (rs : List (List ℕ)) (g : List ℕ) → applied (keep b (r ∷ rs)) g ≡ applied (keep b rs) (cond (b r) (apply r g) g)
unfolding keep applied
applied_keep b r rs g = pick (b r)
  where
    pick : (x : Bool) → applied (cons_if x r (keep b rs)) g ≡ applied (keep b rs) (cond x (apply r g) g)
    pick true = refl
    pick false = refl
