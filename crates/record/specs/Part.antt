-- Parts of a list: k elements from the place a, and the list with others in their place.
use Rattle.std.specs.Prelude.{ℕ, List, ◌++◌, take, drop}

abbrev pub part : ℕ → ℕ → List ℕ → List ℕ
part a k l = take k (drop a l)

abbrev pub with_part : ℕ → ℕ → List ℕ → List ℕ → List ℕ
with_part a k l ys = take a l ++ (ys ++ drop k (drop a l))
