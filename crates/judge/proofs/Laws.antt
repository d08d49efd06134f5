-- Laws of a test that a call answered, of the rows that clash, and of a length that is eight.
use Prim.Native.Nat.{ℕ, ◌+◌, ◌^◌, ◌≤◌, ◌<◌}
use native.Mathlib.Omega.{arith}
use mathlib.Core.Path.{◌≡◌, refl, sym, ap, ◌∙◌}
use mathlib.Core.Bool.{Bool, true, false, not, ◌&&◌, ◌||◌, not-not}
use mathlib.Core.List.{List, [], ◌∷◌}
use lib.Dec.{eqb, ltb}
use Rattle.std.specs.List.{list_any}
use borrow.Author.Tests.{eqb-true, ne_eqb, lt-ltb}
use Rattle.record.specs.Rows.{any}
use Rattle.record.specs.Record.{page_of, offset_of, length_of, owner_of, committed, is_length, row_of, overlaps, share_byte, free}
use Rattle.record.proofs.Fields.{row_page, row_offset, row_length, row_owner}
use Rattle.rules.specs.Sound.{apart}
use Rattle.rules.specs.Calls.{clashes, held_to_read, held_to_update}

-- a test's negation from the test's value
pub turned : (r b t : Bool) → r ≡ b → not r ≡ t → not b ≡ t
turned r b t e h = ap not (sym e) ∙ h

pub same : (r b t : Bool) → r ≡ b → r ≡ t → b ≡ t
same r b t e h = sym e ∙ h

-- a row's clash from its fields
pub clash_fields : (x p offset w : ℕ) (r : List ℕ) (o g f l : ℕ) → o ≡ owner_of r → g ≡ page_of r → f ≡ offset_of r → l ≡ length_of r
    → (not (eqb o 0) && not (eqb o x) && (eqb g p && ltb f (offset + w) && ltb offset (f + l))) ≡ clashes x p offset w r
unfolding clashes
clash_fields x p offset w r o g f l e₁ e₂ e₃ e₄ = λ i. not (eqb (e₁ i) 0) && not (eqb (e₁ i) x) && (eqb (e₂ i) p && ltb (e₃ i) (offset + w) && ltb offset (e₃ i + e₄ i))

-- a row that an update's row would not be apart from is one that clashes with its bytes
not_apart : (p offset w kind v x : ℕ) → p < 65536 → offset < 65536 → 1 ≤ x → (a : List ℕ) → clashes x p offset w a ≡ not (apart a (row_of p offset w kind v x))
unfolding clashes apart free share_byte
not_apart p offset w kind v x h k n a =
    let z : eqb x 0 ≡ false = ne_eqb x 0 (λ e. omega arith) in
    rw (row_page p offset w kind v x h, row_offset p offset w kind v x k, row_length p offset w kind v x, row_owner p offset w kind v x, z)
    (go (committed a) (eqb (owner_of a) x) (overlaps p offset w a))
  where
    go : (c o y : Bool) → (not c && not o && y) ≡ not (c || false || o || not y)
    go true o y = refl
    go false true y = refl
    go false false y = sym (not-not y)

pub held_apart : (p offset w kind v x : ℕ) → p < 65536 → offset < 65536 → 1 ≤ x → (l : List (List ℕ)) → held_to_read l x p offset w ≡ held_to_update l (row_of p offset w kind v x)
unfolding any
held_apart p offset w kind v x h k n [] = refl
held_apart p offset w kind v x h k n (a ∷ l) = λ i. not_apart p offset w kind v x h k n a i || held_apart p offset w kind v x h k n l i

-- a length that is none of the other three is eight, and any value is below 256 to the power of eight
pub eight_value : (v w : ℕ) → is_length w ≡ true → (w ≡ 1 → ⊥) → (w ≡ 2 → ⊥) → (w ≡ 4 → ⊥) → v < 2 ^ 64 → true ≡ ltb v (256 ^ w)
unfolding is_length
eight_value v w e a b c h = sym (ap (λ (k : ℕ). ltb v (256 ^ k)) eight ∙ lt-ltb v (256 ^ 8) h)
  where
    eight : w ≡ 8
    eight = eqb-true w 8 (sym (λ i. ne_eqb w 1 a i || ne_eqb w 2 b i || ne_eqb w 4 c i || eqb w 8) ∙ e)

-- the library's test of a list is the rules' test of rows
pub any_listed : (b : List ℕ → Bool) (l : List (List ℕ)) → list_any b l ≡ any b l
unfolding any
any_listed b [] = refl
any_listed b (x ∷ l) = ap (λ (y : Bool). b x || y) (any_listed b l)
