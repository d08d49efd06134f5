-- The row that update writes: its fields, and that it has no number.
use Prim.Native.Nat.{ℕ, ◌^◌, ◌≤◌, ◌<◌}
use native.Mathlib.Omega.{arith}
use native.Mathlib.Nat.{pow-le-pow_right, lt_of_lt_of_le}
use mathlib.Core.Path.{◌≡◌, refl}
use Rattle.word.specs.Word.{num, put}
use Rattle.record.specs.Record.{page_of, offset_of, length_of, kind_of, value_of, owner_of, number_of, row_of}

module _ (page offset w kind v owner : ℕ) where
  pub row_page : page < 65536 → page_of (row_of page offset w kind v owner) ≡ page
  unfolding row_of put num
  row_page h = omega arith

  pub row_offset : offset < 65536 → offset_of (row_of page offset w kind v owner) ≡ offset
  unfolding row_of put num
  row_offset h = omega arith

  pub row_length : length_of (row_of page offset w kind v owner) ≡ w
  unfolding row_of put
  row_length = refl

  pub row_kind : kind_of (row_of page offset w kind v owner) ≡ kind
  unfolding row_of put
  row_kind = refl

  pub row_owner : owner_of (row_of page offset w kind v owner) ≡ owner
  unfolding row_of put
  row_owner = refl

  pub row_number : number_of (row_of page offset w kind v owner) ≡ 0
  unfolding row_of put num
  row_number = refl

  -- "a value below 256 to the power of the length": one of at most eight bytes
  pub row_value : (n : ℕ) → n ≤ 8 → v < 256 ^ n → value_of (row_of page offset w kind v owner) ≡ v
  unfolding row_of put num
  row_value n m h =
      let k : v < 256 ^ 8 = lt_of_lt_of_le h (pow-le-pow_right {n = 256} (omega arith) {i = n} {j = 8} m) in
      omega arith
