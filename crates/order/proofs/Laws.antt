-- Laws of the use order, and a turn and an end for each loop.
use Prim.Native.Nat.{ℕ, zero, suc, ◌+◌, ◌-◌, ◌≤◌, ◌<◌}
use native.Mathlib.Omega.{arith}
use native.Mathlib.Numerals.{add-one}
use native.Mathlib.Nat.{add-zero, le_refl}
use mathlib.Core.Path.{◌≡◌, refl, sym, ap, ◌∙◌}
use mir.Val.{bool_byte}
use mathlib.Core.Bool.{Bool, true, false, cond, not, ◌||◌, or-true, or-false}
use mathlib.Core.List.{List, [], ◌∷◌, ◌++◌, append-nil}
use lib.ListN.{length, get_or, take, set, replicate, length-append, length-set, length-replicate}
use lib.Seq.{take-suc, take-suc-set, take-set-le, get_or-set_same, get_or-set_other}
use lib.Dec.{eqb}
use borrow.Author.Tests.{eqb-true, eqb-false}
use Rattle.order.specs.Order.{named, without, touched, victim, frame_from, frame_for}

-- a list of one value has that value everywhere
pub blank_at : {A : Type 0} (n i : ℕ) (d : A) → get_or (replicate n d) i d ≡ d
blank_at zero i d = refl
blank_at (suc n) zero d = refl
blank_at (suc n) (suc i) d = blank_at n i d

-- how long the orders get
pub length_without : (f : ℕ) (o : List ℕ) → length (without f o) ≤ length o
unfolding without
length_without f [] = omega arith
length_without f (g ∷ o) = go (eqb g f) (length_without f o)
  where
    go : (b : Bool) → length (without f o) ≤ length o → length (cond b (without f o) (g ∷ without f o)) ≤ suc (length o)
    go true h = omega arith
    go false h = omega arith

-- a copy from the front, one more element
pub copy_turn : (t s : List ℕ) (i : ℕ) → i < length s → i < length t → take i s ≡ take i t → take (i + 1) (set s i (get_or t i 0)) ≡ take (i + 1) t
copy_turn t s i p q e =
    rw add-one (take-suc-set s i (get_or t i 0) p ∙ ap (λ (l : List ℕ). l ++ (get_or t i 0 ∷ [])) e ∙ sym (take-suc t i 0 q))

-- one more frame leaves or stays
pub without_last : (f g : ℕ) (o : List ℕ) → without f (o ++ (g ∷ [])) ≡ without f o ++ cond (eqb g f) [] (g ∷ [])
unfolding without
without_last f g [] = refl
without_last f g (x ∷ o) = go (eqb x f) _ _ (without_last f g o)
  where
    go : (b : Bool) (l k : List ℕ) → l ≡ k ++ cond (eqb g f) [] (g ∷ []) → cond b l (x ∷ l) ≡ cond b k (x ∷ k) ++ cond (eqb g f) [] (g ∷ [])
    go true l k e = e
    go false l k e = ap (λ (m : List ℕ). x ∷ m) e

keep_turn : (b : Bool) (s : List ℕ) (k g : ℕ) → k < length s → take (k + bool_byte (not b)) (set s k g) ≡ take k s ++ cond b [] (g ∷ [])
keep_turn true s k g p = rw add-zero (take-set-le k s k g (le_refl k) ∙ sym (append-nil (take k s)))
keep_turn false s k g p = rw add-one (take-suc-set s k g p)

pub free_turn : (f g r : ℕ) (from s : List ℕ) (k i : ℕ) → i < length from → k < length s → g ≡ get_or from i 0 → r ≡ bool_byte (not (eqb g f)) → take k s ≡ without f (take i from) → take (k + r) (set s k (get_or from i 0)) ≡ without f (take (i + 1) from)
free_turn f g r from s k i p q e₁ e₂ e =
    rw (e₂, ← e₁, add-one i, take-suc from i 0 p, ← e₁, without_last, ← e) (keep_turn (eqb g f) s k g q)

-- the frame freed and put last
pub touch_last : (f : ℕ) (o s : List ℕ) (n : ℕ) → n < length s → take n s ≡ without f o → take (n + 1) (set s n f) ≡ touched f o
unfolding touched
touch_last f o s n p e = rw add-one (take-suc-set s n f p ∙ ap (λ (l : List ℕ). l ++ (f ∷ [])) e)

-- the marks tell who is named
pub record Marks (m : List Bool) (o : List ℕ) : Type 0 where
  pub long : length m ≡ 256
  pub tells : (f : ℕ) → f < 256 → get_or m f false ≡ named f o

named_last : (f g : ℕ) (o : List ℕ) → named f (o ++ (g ∷ [])) ≡ (named f o || eqb g f)
unfolding named
named_last f g [] = or-false (eqb g f)
named_last f g (x ∷ o) = go (eqb x f) _ _ (named_last f g o)
  where
    go : (b c d : Bool) → c ≡ (d || eqb g f) → (b || c) ≡ ((b || d) || eqb g f)
    go true c d e = refl
    go false c d e = e

-- nothing is marked at first
pub marks_none : Marks (replicate 256 false) []
unfolding named
marks_none = record { long = refl; tells = λ f h. blank_at 256 f false }

mark_at : (m : List Bool) (f g : ℕ) (b : Bool) → f < length m → get_or m f false ≡ b → get_or (set m g true) f false ≡ (b || eqb g f)
mark_at m f g b h e = go (eqb g f) refl
  where
    go : (d : Bool) → eqb g f ≡ d → get_or (set m g true) f false ≡ (b || d)
    go true q = rw (eqb-true g f q, get_or-set_same m f true false h, or-true)
    go false q = rw (get_or-set_other m g f true false (λ r. eqb-false g f q (sym r)), e, or-false)

mark_turn : (m : List Bool) (o : List ℕ) (g : ℕ) → Marks m o → Marks (set m g true) (o ++ (g ∷ []))
mark_turn m o g w =
    record {
      long = length-set m g true ∙ w.long;
      tells = λ f h. mark_at m f g (named f o) (omega arith) (w.tells f h) ∙ sym (named_last f g o);
    }

pub marks_turn : (m : List Bool) (l : List ℕ) (i g : ℕ) → i < length l → g ≡ get_or l i 0 → Marks m (take i l) → Marks (set m g true) (take (i + 1) l)
marks_turn m l i g p e w = rw (add-one, take-suc l i 0 p, ← e) (mark_turn m (take i l) g w)

-- the search for a free frame: one that is in use, one that is free, none
pub frame_start : (n : ℕ) (o : List ℕ) → frame_from (n - 0) 0 o ≡ frame_for n o
unfolding frame_for
frame_start n o = let a : n - 0 ≡ n = omega arith in rw a

pub frame_turn : (n f : ℕ) (o : List ℕ) → f < n → named f o ≡ true → frame_from (n - f) f o ≡ frame_from (n - (f + 1)) (f + 1) o
unfolding frame_from
frame_turn n f o p e = let a : n - f ≡ suc (n - (f + 1)) = omega arith in rw (a, e)

pub frame_found : (n f : ℕ) (o : List ℕ) → f < n → named f o ≡ false → f ≡ frame_from (n - f) f o
unfolding frame_from
frame_found n f o p e = let a : n - f ≡ suc (n - (f + 1)) = omega arith in rw (a, e)

pub frame_none : (n f : ℕ) (o : List ℕ) → n ≤ f → victim o ≡ frame_from (n - f) f o
unfolding frame_from
frame_none n f o p = let a : n - f ≡ 0 = omega arith in rw a

-- an order's table: zeros past its end
pub padded_at : (l : List ℕ) (n i : ℕ) → get_or (l ++ replicate n 0) i 0 ≡ get_or l i 0
padded_at [] n i = blank_at n i 0
padded_at (x ∷ l) n zero = refl
padded_at (x ∷ l) n (suc i) = padded_at l n i

pub save_turn : (l t : List ℕ) (n i v : ℕ) → i < n → length t ≡ n → v ≡ get_or l i 0 → take i t ≡ take i (l ++ replicate n 0) → take (i + 1) (set t i v) ≡ take (i + 1) (l ++ replicate n 0)
save_turn l t n i v p q e h =
    rw (e ∙ sym (padded_at l n i))
    (copy_turn (l ++ replicate n 0) t i (omega arith) (omega (arith, length-append l (replicate n 0), length-replicate {A = ℕ} n 0)) h)
