-- The smallest numbers of committed online records, from which close takes the dirty numbers and what it drops from the log, over plain rows.
-- They are numbers of updates that no stored page holds, and what bounds the numbers of all committed online records bounds those of all such updates, so close drops none that is needed.
use Prim.Native.Nat.{ℕ, ◌≤◌}
use native.Mathlib.Omega.{arith}
use mathlib.Core.Path.{◌≡◌, refl, sym, ◌∙◌}
use mathlib.Core.Logic.{◌⊎◌}
use mathlib.Core.Bool.{Bool, true, false, not, ◌||◌}
use mathlib.Core.List.{List, [], ◌∷◌, ◌++◌}
use lib.ListN.{length}
use lib.Dec.{eqb, leb}
use borrow.Author.Tests.{eqb-false, eq-eqb, leb-true, le-leb, not-true}
use Rattle.word.proofs.Tests.{and_both, and_in}
use Rattle.record.specs.Rows.{keep, any}
use Rattle.record.specs.Record.{page_of, number_of, committed, committed_on, smallest}
use Rattle.rules.specs.Sound.{every, between}
use Rattle.rules.proofs.Extremes.{has_number, smallest_some}
use Rattle.rules.proofs.Every.{or_left, or_right, every_keep, every_imp}
use Rattle.redo.proofs.Loose.{◌≅◌, ≅-any, ≅-every}
use Rattle.redo.proofs.Reader.{every_both}
use Rattle.seats.proofs.Loops.{any_kept}
use Rattle.keeps.proofs.Tests.{picked_every}
use Rattle.keeps.proofs.Closes.{least_between}
use Rattle.history.proofs.Right.{uncommitted}
use Rattle.history.proofs.Tested.{every_front, every_picked, online_all}

any_front : (c : List ℕ → Bool) (l m : List (List ℕ)) → any c l ≡ true → any c (l ++ m) ≡ true
unfolding any
any_front c [] m h = let z : ◌≡◌ {A = ℕ} 0 1 = cc in absurd (omega arith)
any_front c (r ∷ l) m h = pick (c r) (any_front c l m) h
  where
    pick : (t : Bool) → (any c l ≡ true → any c (l ++ m) ≡ true) → (t || any c l) ≡ true → (t || any c (l ++ m)) ≡ true
    pick true f k = refl
    pick false f k = f k

-- each row is found among the rows by a test that it passes
each_found : (c : List ℕ → Bool) (d : List ℕ → List ℕ → Bool) → ((r : List ℕ) → c r ≡ true → d r r ≡ true)
    → (l m : List (List ℕ)) → ((t : List ℕ → Bool) → any t l ≡ true → any t m ≡ true) → every c l ≡ true → every (λ (r : List ℕ). any (d r) m) l ≡ true
unfolding every any
each_found c d f [] m g h = refl
each_found c d f (r ∷ l) m g h =
    let e : (c r ≡ true) × (every c l ≡ true) = and_both (c r) (every c l) h in
    and_in (any (d r) m) (every (λ (q : List ℕ). any (d q) m) l)
    (g (d r) (or_left (d r r) (any (d r) l) (f r e.0)))
    (each_found c d f l m (λ t k. g t (or_right (t r) (any t l) k)) e.1)

-- rows numbered from `first` to `last` have numbers
between_numbered : (first last : ℕ) → 1 ≤ first → (l : List (List ℕ)) → every (λ (r : List ℕ). between first (number_of r) last) l ≡ true → every has_number l ≡ true
between_numbered first last low l h =
    every_imp (λ (r : List ℕ). between first (number_of r) last) has_number (λ r e. le-leb 1 (number_of r) (omega (arith, leb-true first (number_of r) (and_both (leb first (number_of r)) (leb (number_of r) last) e).0))) l h

-- one passes, so one is kept
some_kept : (d : List ℕ → Bool) (l : List (List ℕ)) → any d l ≡ true → 1 ≤ length (keep d l)
some_kept d l h = let n = eqb-false (length (keep d l)) 0 (not-true (eqb (length (keep d l)) 0) (sym (any_kept d l) ∙ h)) in omega arith

-- `above` picks the committed updates that no stored page holds: online are these, then the uncommitted ones
module _ (above : List ℕ → Bool) (rows opened : List (List ℕ)) {online : List (List ℕ)} (is : online ≅ keep above rows ++ opened) where
  lacked_all : (c : List ℕ → Bool) → every c online ≡ true → every (λ (r : List ℕ). not (above r) || c r) rows ≡ true
  lacked_all c h = picked_every above c rows (every_front c (keep above rows) opened (sym (≅-every c is) ∙ h))

  -- where no committed online record is numbered below n, no update that a stored page lacks is
  pub lacked_from : every committed rows ≡ true → (n : ℕ) → every (λ (r : List ℕ). leb n (number_of r)) (keep committed online) ≡ true → every (λ (r : List ℕ). not (above r) || leb n (number_of r)) rows ≡ true
  lacked_from all_committed n h =
      every_both committed (λ (r : List ℕ). not (above r) || (not (committed r) || leb n (number_of r))) (λ (r : List ℕ). not (above r) || leb n (number_of r))
      (λ r e k. rw (e) at k) rows all_committed
      (lacked_all (λ (r : List ℕ). not (committed r) || leb n (number_of r)) (picked_every committed (λ (r : List ℕ). leb n (number_of r)) online h))

  -- the updates that no stored page holds are numbered from `first` to `last`
  module _ (first last : ℕ) (low : 1 ≤ first) (within : every (λ (r : List ℕ). not (above r) || between first (number_of r) last) rows ≡ true) (unset : every uncommitted opened ≡ true) where
    -- those of one page, or all
    module _ (d : List ℕ → Bool) (picks : (r : List ℕ) → d r ≡ true → committed r ≡ true) where
      kept_within : every (λ (r : List ℕ). between first (number_of r) last) (keep d online) ≡ true
      kept_within = every_picked d (λ (r : List ℕ). between first (number_of r) last) online (online_all above rows opened is (λ (r : List ℕ). not (d r) || between first (number_of r) last)
          (every_imp (λ (r : List ℕ). not (above r) || between first (number_of r) last) (λ (r : List ℕ). not (above r) || (not (d r) || between first (number_of r) last)) (λ r e. more (above r) (d r) (between first (number_of r) last) e) rows within)
          (every_imp uncommitted (λ (r : List ℕ). not (d r) || between first (number_of r) last) (λ r e. passes_not r (d r) refl e) opened unset))
        where
          more : (a b c : Bool) → (not a || c) ≡ true → (not a || (not b || c)) ≡ true
          more true b c h = or_right (not b) c h
          more false b c h = refl

          passes_not : (r : List ℕ) (t : Bool) → d r ≡ t → not (committed r) ≡ true → (not t || between first (number_of r) last) ≡ true
          passes_not r true e h = let f : committed r ≡ true = picks r e in let z : ◌≡◌ {A = ℕ} 0 1 = cc in absurd (omega arith)
          passes_not r false e h = refl

      -- they have numbers, and none below `first`
      pub kept_numbered : every has_number (keep d online) ≡ true
      kept_numbered = between_numbered first last low (keep d online) kept_within

      pub kept_from : every (λ (r : List ℕ). leb first (number_of r)) (keep d online) ≡ true
      kept_from = every_imp (λ (r : List ℕ). between first (number_of r) last) (λ (r : List ℕ). leb first (number_of r)) (λ r e. (and_both (leb first (number_of r)) (leb (number_of r) last) e).0) (keep d online) kept_within

      -- the smallest number of such online records: none, or one of those numbers
      pub least_within : (smallest 0 (keep d online) ≡ 0) ⊎ ((first ≤ smallest 0 (keep d online)) × (smallest 0 (keep d online) ≤ last))
      least_within = least_between first last low (keep d online) kept_within

      found_least : any d online ≡ true → 1 ≤ smallest 0 (keep d online)
      found_least k = smallest_some (keep d online) kept_numbered (some_kept d online k)

    module _ (all_committed : every committed rows ≡ true) where
      -- the page of an update that a stored page lacks has a smallest number
      pub lacked_dirty : every (λ (r : List ℕ). not (above r) || leb 1 (smallest 0 (keep (committed_on (page_of r)) online))) rows ≡ true
      lacked_dirty = picked_every above (λ (r : List ℕ). leb 1 (smallest 0 (keep (committed_on (page_of r)) online))) rows
          (every_imp (λ (r : List ℕ). any (committed_on (page_of r)) (keep above rows ++ opened)) (λ (r : List ℕ). leb 1 (smallest 0 (keep (committed_on (page_of r)) online)))
          (λ r e. le-leb 1 (smallest 0 (keep (committed_on (page_of r)) online)) (found_least (committed_on (page_of r)) (λ q k. (and_both (eqb (page_of q) (page_of r)) (committed q) k).1) (≅-any (committed_on (page_of r)) is ∙ e)))
          (keep above rows)
          (each_found committed (λ (r q : List ℕ). committed_on (page_of r) q) (λ r e. and_in (eqb (page_of r) (page_of r)) (committed r) (eq-eqb (page_of r) (page_of r) refl) e) (keep above rows) (keep above rows ++ opened)
          (λ t k. any_front t (keep above rows) opened k) (every_keep above committed rows all_committed)))
