-- Numbers in SQLite's write-ahead log, and the running sums over it.
use Rattle.std.specs.Prelude.{ℕ, zero, suc, ◌+◌, ◌%◌, ◌^◌, Bool, cond, List, [], ◌∷◌, ◌++◌}
use Rattle.word.specs.Word.{num, big as field, bytes_of}
use Rattle.wal.specs.declared.Sums.{Sums}

-- fields, one behind the other: each four bytes, highest byte first
unfoldable pub fields_of : List ℕ → List ℕ
fields_of [] = []
fields_of (v ∷ vs) = bytes_of v ++ fields_of vs

-- the same four bytes as a word to be summed: highest byte first, or lowest
unfoldable pub word_at : Bool → List ℕ → ℕ → ℕ
word_at big l at = cond big (field l at) (num 4 l at)

abbrev pub no_sums : Sums
no_sums = record { s0 = 0; s1 = 0 }

-- a pair of words summed: "s0 += x(i) + s1", "then s1 += x(i+1) + s0", modulo 2^32
abbrev pub first_sum : Sums → ℕ → ℕ
first_sum s x = (s.s0 + x + s.s1) % 2 ^ 32

unfoldable pub paired : Sums → ℕ → ℕ → Sums
paired s x y = record { s0 = first_sum s x; s1 = (s.s1 + y + first_sum s x) % 2 ^ 32 }

-- the sums gone on over n pairs of words from the place at
unfoldable pub summed : Bool → ℕ → List ℕ → ℕ → Sums → Sums
summed big zero l at s = s
summed big (suc n) l at s = summed big n l (at + 8) (paired s (word_at big l at) (word_at big l (at + 4)))
