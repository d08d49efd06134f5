-- What a commit does to the order: the owner's updates come behind all that was committed before, in their order and with their numbers,
-- and the other owners' updates stay as they were. So the order made becomes the order committed.
use Prim.Native.Nat.{ℕ, ◌+◌, ◌≤◌}
use native.Mathlib.Omega.{arith}
use mathlib.Core.Path.{◌≡◌, refl, sym, ap, ◌∙◌}
use mathlib.Core.Bool.{Bool, true, false, cond, not, ◌||◌, or-true, true≢false}
use mathlib.Core.List.{List, [], ◌∷◌, ◌++◌, map}
use lib.ListN.{length}
use lib.Seq.{length-take-le}
use lib.Dec.{eqb}
use borrow.Author.Tests.{eqb-true, not-true}
use Rattle.word.proofs.Tests.{and_both}
use Rattle.record.specs.Rows.{keep, cons_if}
use Rattle.record.specs.Record.{owner_of, committed, owned_by, body_of, numbered, entered, number_rows, free}
use Rattle.record.proofs.Rows.{Wide, none, one}
use Rattle.rules.specs.Sound.{every, pairs, apart}
use Rattle.redo.proofs.View.{body_free, entered_body}
use Rattle.redo.proofs.Loose.{loose, make_loose, ◌≅◌, still, exchange, under, then, numbered_from, ≅-equal, ≅-after, owned_open}
use Rattle.redo.proofs.Numbered.{entered_committed, numbered_committed, numbered_entered, every_not_owned}

-- a row moves past those that it is loose of
pub ≅-move : (x : List ℕ) (k m : List (List ℕ)) → every (loose x) k ≡ true → x ∷ k ++ m ≅ k ++ x ∷ m
unfolding every
≅-move x [] m h = still
≅-move x (y ∷ k) m h =
    let e : (loose x y ≡ true) × (every (loose x) k ≡ true) = and_both (loose x y) (every (loose x) k) h in
    then (exchange x y (k ++ m) e.0) (under y (≅-move x k m e.1))

-- uncommitted rows of two owners are free of each other
apart_free : (a b : List ℕ) → apart a b ≡ true → committed a ≡ false → committed b ≡ false → eqb (owner_of a) (owner_of b) ≡ false → free a b ≡ true
unfolding apart
apart_free a b h p q e = rw (p, q, e) at h

-- a row of another owner is loose of those that a commit numbers
module _ (x : ℕ) (p : 1 ≤ x) (r : List ℕ) (c : committed r ≡ false) (n : owned_by x r ≡ false) where
  past_one : (y : List ℕ) (k : ℕ) → length y ≡ 19 → owned_by x y ≡ true → apart r y ≡ true → loose r (entered (body_of y) k) ≡ true
  past_one y k w o h =
      let e : owner_of y ≡ x = eqb-true (owner_of y) x o in
      let d : eqb (owner_of r) (owner_of y) ≡ false = ap (λ (z : ℕ). eqb (owner_of r) z) e ∙ n in
      make_loose r (entered (body_of y) k)
      (body_free r (entered (body_of y) k) r y (λ i s t. refl) (entered_body y k (omega arith)) ∙ apart_free r y h c (owned_open x p y o) d)
      (ap (λ (z : Bool). committed r || z) (entered_committed (body_of y) k (length-take-le 14 y (omega arith))) ∙ or-true (committed r))

  past_all : (k : ℕ) {o : List (List ℕ)} → Wide 19 o → every (apart r) o ≡ true → every (loose r) (numbered_from k (map body_of (keep (owned_by x) o))) ≡ true
  unfolding every keep numbered_from
  past_all k none h = refl
  past_all k (one {r = y} {rs = o} w ws) h = pick (owned_by x y) refl (past_all (k + 1) ws g.1) (past_all k ws g.1)
    where
      g : (apart r y ≡ true) × (every (apart r) o ≡ true)
      g = and_both (apart r y) (every (apart r) o) h

      front : ℕ → List (List ℕ)
      front n = numbered_from n (map body_of (keep (owned_by x) o))

      pick : (t : Bool) → owned_by x y ≡ t → every (loose r) (front (k + 1)) ≡ true → every (loose r) (front k) ≡ true → every (loose r) (numbered_from k (map body_of (cons_if t y (keep (owned_by x) o)))) ≡ true
      pick true e i j = rw (past_one y k w e g.0) i
      pick false e i j = j

-- a commit among uncommitted rows: the owner's come first, numbered
numbered_first : (x k : ℕ) → 1 ≤ x → {o : List (List ℕ)} → Wide 19 o → every (λ (r : List ℕ). not (committed r)) o ≡ true → pairs apart o ≡ true
    → number_rows x k o ≅ numbered_from k (map body_of (keep (owned_by x) o)) ++ keep (λ (r : List ℕ). not (owned_by x r)) o
unfolding number_rows keep numbered_from every pairs
numbered_first x k p none u h = still
numbered_first x k p (one {r} {rs = o} w ws) u h = pick (owned_by x r) refl (numbered_first x (k + 1) p ws v.1 g.1) (numbered_first x k p ws v.1 g.1)
  where
    v : (not (committed r) ≡ true) × (every (λ (y : List ℕ). not (committed y)) o ≡ true)
    v = and_both (not (committed r)) (every (λ (y : List ℕ). not (committed y)) o) u

    g : (every (apart r) o ≡ true) × (pairs apart o ≡ true)
    g = and_both (every (apart r) o) (pairs apart o) h

    front : ℕ → List (List ℕ)
    front n = numbered_from n (map body_of (keep (owned_by x) o))

    rest : List (List ℕ)
    rest = keep (λ (y : List ℕ). not (owned_by x y)) o

    pick : (t : Bool) → owned_by x r ≡ t → number_rows x (k + 1) o ≅ front (k + 1) ++ rest → number_rows x k o ≅ front k ++ rest
        → cond t (numbered r k ∷ number_rows x (k + 1) o) (r ∷ number_rows x k o) ≅ numbered_from k (map body_of (cons_if t r (keep (owned_by x) o))) ++ cons_if (not t) r rest
    pick true e i j = then (under (numbered r k) i) (≅-equal (ap (λ (z : List ℕ). z ∷ front (k + 1) ++ rest) (numbered_entered r k w)))
    pick false e i j = then (under r j) (≅-move r (front k) rest (past_all x p r (not-true (committed r) v.0) e k ws g.0))

-- and it passes over what no owner has
number_rows_past : (x k : ℕ) (a o : List (List ℕ)) → every (λ (r : List ℕ). not (owned_by x r)) a ≡ true → number_rows x k (a ++ o) ≡ a ++ number_rows x k o
unfolding number_rows every
number_rows_past x k [] o h = refl
number_rows_past x k (r ∷ a) o h =
    let e : (not (owned_by x r) ≡ true) × (every (λ (y : List ℕ). not (owned_by x y)) a ≡ true) = and_both (not (owned_by x r)) (every (λ (y : List ℕ). not (owned_by x y)) a) h in
    ap (λ (t : Bool). cond t (numbered r k ∷ number_rows x (k + 1) (a ++ o)) (r ∷ number_rows x k (a ++ o))) (not-true (owned_by x r) e.0)
    ∙ ap (λ (l : List (List ℕ)). r ∷ l) (number_rows_past x k a o e.1)

-- committed rows, then uncommitted ones: a commit puts the owner's between them
pub commit_loose : (x k : ℕ) (a o : List (List ℕ)) → 1 ≤ x → every committed a ≡ true → every (λ (r : List ℕ). not (committed r)) o ≡ true → pairs apart o ≡ true → Wide 19 o
    → number_rows x k (a ++ o) ≅ a ++ (numbered_from k (map body_of (keep (owned_by x) o)) ++ keep (λ (r : List ℕ). not (owned_by x r)) o)
commit_loose x k a o p c u h w = then (≅-equal (number_rows_past x k a o (every_not_owned x a p c))) (≅-after a (numbered_first x k p w u h))

-- what is uncommitted afterwards: what was, but for the owner's
pub commit_open : (x k : ℕ) → 1 ≤ x → {l : List (List ℕ)} → Wide 19 l
    → keep (λ (r : List ℕ). not (committed r)) (number_rows x k l) ≡ keep (λ (r : List ℕ). not (owned_by x r)) (keep (λ (r : List ℕ). not (committed r)) l)
unfolding number_rows keep
commit_open x k p none = refl
commit_open x k p (one {r} {rs = l} w ws) = pick (owned_by x r) (committed r) refl refl (commit_open x (k + 1) p ws) (commit_open x k p ws)
  where
    open_rows : List (List ℕ) → List (List ℕ)
    open_rows z = keep (λ (y : List ℕ). not (committed y)) z

    others : List (List ℕ) → List (List ℕ)
    others z = keep (λ (y : List ℕ). not (owned_by x y)) z

    pick : (s t : Bool) → owned_by x r ≡ s → committed r ≡ t → open_rows (number_rows x (k + 1) l) ≡ others (open_rows l) → open_rows (number_rows x k l) ≡ others (open_rows l)
        → open_rows (cond s (numbered r k ∷ number_rows x (k + 1) l) (r ∷ number_rows x k l)) ≡ others (cons_if (not t) r (open_rows l))
    pick true true e f i j = absurd (true≢false (sym f ∙ owned_open x p r e))
    pick true false e f i j =
        ap (λ (z : Bool). cons_if (not z) (numbered r k) (open_rows (number_rows x (k + 1) l))) (numbered_committed r k w) ∙ i
        ∙ sym (ap (λ (z : Bool). cons_if (not z) r (others (open_rows l))) e)
    pick false true e f i j = ap (λ (z : Bool). cons_if (not z) r (open_rows (number_rows x k l))) f ∙ j
    pick false false e f i j =
        ap (λ (z : Bool). cons_if (not z) r (open_rows (number_rows x k l))) f ∙ ap (λ (z : List (List ℕ)). r ∷ z) j
        ∙ sym (ap (λ (z : Bool). cons_if (not z) r (others (open_rows l))) e)
