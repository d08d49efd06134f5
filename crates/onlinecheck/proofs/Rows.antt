-- Tests over listed rows: two in one, what a row passes that every row passes, and the turns of the loops that ask each two.
use Prim.Native.Nat.{ℕ, zero, suc, ◌+◌, ◌-◌, ◌≤◌, ◌<◌}
use native.Mathlib.Omega.{arith}
use mathlib.Core.Path.{◌≡◌, refl, ap, ◌∙◌}
use mathlib.Core.Bool.{Bool, true, false, ◌&&◌}
use mathlib.Core.List.{List, [], ◌∷◌}
use lib.ListN.{length, get_or, take, drop}
use borrow.Author.Tests.{ltb-true}
use Rattle.word.proofs.Tests.{and_both, and_swap}
use Rattle.std.proofs.lemmas.List.{drop_more, drop_all}
use Rattle.durable.proofs.Laws.{rest_lent}
use Rattle.record.specs.Record.{page_of}
use Rattle.rules.specs.Shape.{page_below}
use Rattle.rules.specs.Sound.{every, pairs}

-- two tests in one
pub every_both : (b d : List ℕ → Bool) (l : List (List ℕ)) → every (λ r. b r && d r) l ≡ (every b l && every d l)
unfolding every
every_both b d [] = refl
every_both b d (r ∷ l) = rw (every_both b d l) (and_swap (b r) (d r) (every b l) (every d l))

-- what every row passes, a row passes; and what each row passes, every row does
pub every_at : (b : List ℕ → Bool) (l : List (List ℕ)) (i : ℕ) → i < length l → every b l ≡ true → b (get_or l i []) ≡ true
unfolding every
every_at b [] i p h = absurd (omega arith)
every_at b (r ∷ l) zero p h = (and_both (b r) (every b l) h).0
every_at b (r ∷ l) (suc i) p h = every_at b l i (omega arith) (and_both (b r) (every b l) h).1

pub every_all : (b : List ℕ → Bool) (l : List (List ℕ)) → ((i : ℕ) → i < length l → b (get_or l i []) ≡ true) → every b l ≡ true
unfolding every
every_all b [] f = refl
every_all b (r ∷ l) f = rw (f 0 (omega arith)) (every_all b l (λ i p. f (suc i) (omega arith)))

-- so a row's page is in the store
pub page_at : (pages : ℕ) (l : List (List ℕ)) (i : ℕ) → i < length l → every (page_below pages) l ≡ true → page_of (get_or l i []) < pages
page_at pages l i p h = ltb-true (page_of (get_or l i [])) pages (every_at (page_below pages) l i p h)

-- the loop that asks a row and all later ones
module _ (b : List ℕ → List ℕ → Bool) (l : List (List ℕ)) (i : ℕ) (x z : Bool) where
  pairs_left : i < length l → x ≡ every (b (get_or l i [])) (take (length l - (i + 1)) (drop (i + 1) l)) → pairs b (drop i l) ≡ (x && pairs b (drop (i + 1) l))
  unfolding pairs
  pairs_left h e = ap (λ (k : List (List ℕ)). pairs b k) (drop_more l i [] h) ∙ rw (e, rest_lent l (i + 1))

  pub pairs_fail : i < length l → x ≡ every (b (get_or l i [])) (take (length l - (i + 1)) (drop (i + 1) l)) → x ≡ false → pairs b (drop i l) ≡ z → false ≡ z
  pairs_fail h e f inv = rw (pairs_left h e, f) at inv

  pub pairs_turn : i < length l → x ≡ every (b (get_or l i [])) (take (length l - (i + 1)) (drop (i + 1) l)) → x ≡ true → pairs b (drop i l) ≡ z → pairs b (drop (i + 1) l) ≡ z
  pairs_turn h e f inv = rw (pairs_left h e, f) at inv

  pub pairs_done : length l ≤ i → pairs b (drop i l) ≡ z → true ≡ z
  unfolding pairs
  pairs_done h inv = rw (drop_all i l h) at inv
