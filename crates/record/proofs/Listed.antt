-- Laws of a loop that goes through listed rows: what is left of them from row i on. And a table's first rows as arrays.
use Prim.Native.Nat.{ℕ, zero, suc, ◌+◌, ◌*◌, ◌≤◌, ◌<◌, ◌/◌}
use native.Mathlib.Omega.{arith}
use mathlib.Core.Path.{◌≡◌, refl, sym, ap, ◌∙◌}
use mathlib.Core.Bool.{Bool, true, false, cond, ◌||◌}
use mathlib.Core.List.{List, [], ◌∷◌}
use native.Mathlib.Nat.{add-mul, one-mul, zero-mul}
use Rattle.std.proofs.lemmas.List.{drop-drop, drop_more, drop_all}
use Rattle.std.specs.Simd.{first_chunks}
use lib.ListN.{length, get_or, take, drop}
use Rattle.record.specs.Part.{part}
use Rattle.record.specs.Rows.{rows, cons_if, keep, any}
use Rattle.record.proofs.Rows.{keep_nil}

module _ (b : List ℕ → Bool) (rs : List (List ℕ)) (i : ℕ) where
  -- the kept ones of what is left
  pub keep_left : i < length rs → keep b (drop i rs) ≡ cons_if (b (get_or rs i [])) (get_or rs i []) (keep b (drop (i + 1) rs))
  unfolding keep
  keep_left h = ap (λ (l : List (List ℕ)). keep b l) (drop_more rs i [] h)

  pub keep_none_left : length rs ≤ i → keep b (drop i rs) ≡ []
  keep_none_left h = ap (λ (l : List (List ℕ)). keep b l) (drop_all i rs h) ∙ keep_nil b

  -- one of what is left
  any_left : i < length rs → any b (drop i rs) ≡ (b (get_or rs i []) || any b (drop (i + 1) rs))
  unfolding any
  any_left h = ap (λ (l : List (List ℕ)). any b l) (drop_more rs i [] h)

  pub any_found : i < length rs → b (get_or rs i []) ≡ true → true ≡ any b (drop i rs)
  any_found h e = sym (any_left h ∙ ap (λ (z : Bool). z || any b (drop (i + 1) rs)) e)

  pub any_passed : i < length rs → b (get_or rs i []) ≡ false → any b (drop (i + 1) rs) ≡ any b (drop i rs)
  any_passed h e = sym (any_left h ∙ ap (λ (z : Bool). z || any b (drop (i + 1) rs)) e)

  pub any_none_left : length rs ≤ i → false ≡ any b (drop i rs)
  unfolding any
  any_none_left h = sym (ap (λ (l : List (List ℕ)). any b l) (drop_all i rs h))

-- a loop that does something at each row of a kind: F is what all of them do, g what one does
module _ {X : Type 0} (F : List (List ℕ) → X → X) (g : List ℕ → X → X) (none : (x : X) → F [] x ≡ x) (more : (r : List ℕ) (rs : List (List ℕ)) (x : X) → F (r ∷ rs) x ≡ F rs (g r x)) (b : List ℕ → Bool) (rs : List (List ℕ)) where
  one : (c : Bool) (r : List ℕ) (l : List (List ℕ)) (x : X) → F (cons_if c r l) x ≡ F l (cond c (g r x) x)
  one true r l x = more r l x
  one false r l x = refl

  pub done_more : (i : ℕ) (x x' z : X) → i < length rs → x' ≡ cond (b (get_or rs i [])) (g (get_or rs i []) x) x → F (keep b (drop i rs)) x ≡ z → F (keep b (drop (i + 1) rs)) x' ≡ z
  done_more i x x' z h q p =
      ap (λ (y : X). F (keep b (drop (i + 1) rs)) y) q ∙ sym (one (b (get_or rs i [])) (get_or rs i []) (keep b (drop (i + 1) rs)) x)
      ∙ ap (λ (y : List (List ℕ)). F y x) (sym (keep_left b rs i h)) ∙ p

  pub done_all : (i : ℕ) (x z : X) → length rs ≤ i → F (keep b (drop i rs)) x ≡ z → x ≡ z
  done_all i x z h p = sym (none x) ∙ ap (λ (y : List (List ℕ)). F y x) (sym (keep_none_left b rs i h)) ∙ p

-- a table's first rows, as many whole ones as are taken
chunks_rows : (w k : ℕ) (t : List ℕ) (i : ℕ) → first_chunks w k (drop (i * w) t) ≡ rows w k t i
unfolding rows
chunks_rows w zero t i = refl
chunks_rows w (suc k) t i =
    let e : i * w + w ≡ (i + 1) * w = sym (add-mul i 1 w ∙ ap (λ (n : ℕ). i * w + n) (one-mul w)) in
    ap (λ (l : List (List ℕ)). part (i * w) w t ∷ l)
    (ap (λ (l : List ℕ). first_chunks w k l) (drop-drop w (i * w) t ∙ ap (λ (n : ℕ). drop n t) e) ∙ chunks_rows w k t (i + 1))

take_chunks : (w m k : ℕ) (t : List ℕ) → m ≤ k → take m (first_chunks w k t) ≡ first_chunks w m t
take_chunks w zero zero t h = refl
take_chunks w zero (suc k) t h = refl
take_chunks w (suc m) zero t h = absurd (omega arith)
take_chunks w (suc m) (suc k) t h = ap (λ (l : List (List ℕ)). take w t ∷ l) (take_chunks w m k (drop w t) (omega arith))

pub listed : (w m : ℕ) (t : List ℕ) → m ≤ length t / w → take m (first_chunks w (length t / w) t) ≡ rows w m t 0
listed w m t h = take_chunks w m (length t / w) t h ∙ ap (λ (n : ℕ). first_chunks w m (drop n t)) (sym (zero-mul w)) ∙ chunks_rows w m t 0

-- what stands after a step that is done where a test holds, from what the test answered
pub when_so : {X : Type 0} (r b : Bool) (x y z : X) → r ≡ b → r ≡ true → z ≡ x → z ≡ cond b x y
when_so r b x y z e h k = rw (← e, h) k

pub when_not : {X : Type 0} (r b : Bool) (x y z : X) → r ≡ b → r ≡ false → z ≡ y → z ≡ cond b x y
when_not r b x y z e h k = rw (← e, h) k

-- a loop that counts the rows of a kind
module _ (b : List ℕ → Bool) (rs : List (List ℕ)) where
  pub count_more : (i n k s : ℕ) → i < length rs → k ≡ cond (b (get_or rs i [])) (n + 1) n → n + length (keep b (drop i rs)) ≡ s → k + length (keep b (drop (i + 1) rs)) ≡ s
  count_more = done_more (λ (l : List (List ℕ)) (n : ℕ). n + length l) (λ (r : List ℕ) (n : ℕ). n + 1) (λ (n : ℕ). omega arith) (λ (r : List ℕ) (l : List (List ℕ)) (n : ℕ). omega arith) b rs

  pub count_all : (i n s : ℕ) → length rs ≤ i → n + length (keep b (drop i rs)) ≡ s → n ≡ s
  count_all = done_all (λ (l : List (List ℕ)) (n : ℕ). n + length l) (λ (r : List ℕ) (n : ℕ). n + 1) (λ (n : ℕ). omega arith) (λ (r : List ℕ) (l : List (List ℕ)) (n : ℕ). omega arith) b rs
