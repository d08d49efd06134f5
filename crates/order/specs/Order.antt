-- The use order: the frames in use, the least recently used first. docs/RULES.md 6.
use Rattle.std.specs.Prelude.{ℕ, zero, suc, ◌+◌, Bool, false, cond, ◌||◌, List, [], ◌∷◌, ◌++◌, get_or, eqb}

-- the frame stands in the order: it is in use
unfoldable pub named : ℕ → List ℕ → Bool
named f [] = false
named f (g ∷ o) = eqb g f || named f o

-- the frame leaves the order, "where the others keep theirs"
unfoldable pub without : ℕ → List ℕ → List ℕ
without f [] = []
without f (g ∷ o) = cond (eqb g f) (without f o) (g ∷ without f o)

-- "touching hands back the order with that frame last"
unfoldable pub touched : ℕ → List ℕ → List ℕ
touched f o = without f o ++ (f ∷ [])

-- the least recently used frame
unfoldable pub victim : List ℕ → ℕ
victim o = get_or o 0 0

-- "the lowest free frame is taken, or, with none free, the least recently used": n frames are left to try, from f on
unfoldable pub frame_from : ℕ → ℕ → List ℕ → ℕ
frame_from zero f o = victim o
frame_from (suc n) f o = cond (named f o) (frame_from n (f + 1) o) f

unfoldable pub frame_for : ℕ → List ℕ → ℕ
frame_for frames o = frame_from frames 0 o
