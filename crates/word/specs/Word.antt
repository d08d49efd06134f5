-- Numbers in bytes: lowest byte first (document 01: "A set writes the value, lowest byte first"), and of 4 bytes, highest byte first.
use Rattle.std.specs.Prelude.{ℕ, zero, suc, ◌+◌, ◌*◌, ◌/◌, ◌%◌, List, [], ◌∷◌, get_or, set, slice_index}

-- the number that w bytes of l hold from the place at
unfoldable pub num : ℕ → List ℕ → ℕ → ℕ
num zero l at = 0
num (suc w) l at = get_or l at 0 + 256 * num w l (at + 1)

-- l with the w lowest bytes of v from the place at; a byte past l's end is not there to write
unfoldable pub put : ℕ → List ℕ → ℕ → ℕ → List ℕ
put zero l at v = l
put (suc w) l at v = put w (set l at (v % 256)) (at + 1) (v / 256)

-- the number that four bytes hold from the place at, highest byte first
unfoldable pub big : List ℕ → ℕ → ℕ
big l at = slice_index l at * 16777216 + slice_index l (at + 1) * 65536 + slice_index l (at + 2) * 256 + slice_index l (at + 3)

-- the four bytes of a number, highest byte first
unfoldable pub bytes_of : ℕ → List ℕ
bytes_of v = v / 16777216 % 256 ∷ v / 65536 % 256 ∷ v / 256 % 256 ∷ v % 256 ∷ []
