-- Tests of the rows that a commit numbers: those of the owner, each by its place among them, and those of the others as they were.
use Prim.Native.Nat.{ℕ, zero, suc, ◌+◌, ◌≤◌, ◌<◌}
use native.Mathlib.Omega.{arith}
use mathlib.Core.Path.{◌≡◌, refl, ap, ◌∙◌}
use mathlib.Core.Bool.{Bool, true, false, cond, not, ◌||◌}
use mathlib.Core.List.{List, [], ◌∷◌, map}
use lib.ListN.{length, get_or}
use lib.Seq.{get_or-take}
use lib.Dec.{eqb}
use Rattle.word.proofs.Tests.{and_both, and_in}
use Rattle.record.specs.Rows.{row_at, rows, keep, cons_if, any}
use Rattle.record.specs.Record.{on_page, owned_by, body_of, well_formed, numbered, number_rows}
use Rattle.record.proofs.Rows.{Wide, none, one, wide_keep}
use Rattle.rules.specs.Sound.{every, pairs}
use Rattle.rules.proofs.Every.{every_keep}
use Rattle.redo.proofs.View.{SameBody, SameBodies, none as no_bodies, one as one_body, body_page}
use Rattle.redo.proofs.Numbered.{body_formed}

-- one of rows that all pass a test, and its width
pub every_get_d : (b : List ℕ → Bool) (l : List (List ℕ)) (i : ℕ) → every b l ≡ true → i < length l → b (get_or l i []) ≡ true
unfolding every
every_get_d b [] i h k = absurd (omega arith)
every_get_d b (r ∷ l) zero h k = (and_both (b r) (every b l) h).0
every_get_d b (r ∷ l) (suc i) h k = every_get_d b l i (and_both (b r) (every b l) h).1 (omega arith)

pub wide_get_d : {w : ℕ} {l : List (List ℕ)} (i : ℕ) → Wide w l → i < length l → length (get_or l i []) ≡ w
wide_get_d i none k = absurd (omega arith)
wide_get_d zero (one e h) k = e
wide_get_d (suc i) (one e h) k = wide_get_d i h (omega arith)

-- row i of the first n
pub rows_at : (w n : ℕ) (t : List ℕ) (k i : ℕ) → i < n → get_or (rows w n t k) i [] ≡ row_at w t (k + i)
unfolding rows
rows_at w zero t k i p = absurd (omega arith)
rows_at w (suc n) t k zero p = ap (λ (j : ℕ). row_at w t j) (omega arith)
rows_at w (suc n) t k (suc i) p = rows_at w n t (k + 1) i (omega arith) ∙ ap (λ (j : ℕ). row_at w t j) (omega arith)

-- rows with the same bodies are on the same pages
pub bodies_any : (p : ℕ) {l m : List (List ℕ)} → SameBodies l m → any (on_page p) l ≡ any (on_page p) m
unfolding any
bodies_any p no_bodies = refl
bodies_any p (one_body {r} {s} {l} {m} e h) = λ i. eqb (body_page r s e i) p || bodies_any p h i

-- the records of well-formed rows are well formed
body_same : (r : List ℕ) → SameBody (body_of r) r
body_same r i p q = get_or-take 14 r i 0 q

pub bodies_formed : (size pages : ℕ) (l : List (List ℕ)) → every (well_formed size pages) l ≡ true → every (well_formed size pages) (map body_of l) ≡ true
unfolding every
bodies_formed size pages [] h = refl
bodies_formed size pages (r ∷ l) h =
    let e : (well_formed size pages r ≡ true) × (every (well_formed size pages) l ≡ true) = and_both (well_formed size pages r) (every (well_formed size pages) l) h in
    rw (body_formed size pages (body_of r) r (body_same r) ∙ e.0) (bodies_formed size pages l e.1)

-- the rows of an owner, and of the others
abbrev pub mine : ℕ → List (List ℕ) → List (List ℕ)
mine x l = keep (owned_by x) l

abbrev pub theirs : ℕ → List (List ℕ) → List (List ℕ)
theirs x l = keep (λ (r : List ℕ). not (owned_by x r)) l

-- every row
pub every_number : (c : List ℕ → Bool) (x k : ℕ) (l : List (List ℕ)) → ((i : ℕ) → i < length (mine x l) → c (numbered (get_or (mine x l) i []) (k + i)) ≡ true) → every c (theirs x l) ≡ true → every c (number_rows x k l) ≡ true
unfolding every keep number_rows
every_number c x k [] f h = refl
every_number c x k (r ∷ l) f h = go (owned_by x r) f h (λ m. every_number c x m l)
  where
    go : (b : Bool) → ((i : ℕ) → i < length (cons_if b r (mine x l)) → c (numbered (get_or (cons_if b r (mine x l)) i []) (k + i)) ≡ true) → every c (cons_if (not b) r (theirs x l)) ≡ true
        → ((m : ℕ) → ((i : ℕ) → i < length (mine x l) → c (numbered (get_or (mine x l) i []) (m + i)) ≡ true) → every c (theirs x l) ≡ true → every c (number_rows x m l) ≡ true)
        → every c (cond b (numbered r k ∷ number_rows x (k + 1) l) (r ∷ number_rows x k l)) ≡ true
    go true g j rest =
        and_in (c (numbered r k)) (every c (number_rows x (k + 1) l))
        (ap (λ (n : ℕ). c (numbered r n)) (omega arith) ∙ g 0 (omega arith))
        (rest (k + 1) (λ i p. ap (λ (n : ℕ). c (numbered (get_or (mine x l) i []) n)) (omega arith) ∙ g (suc i) (omega arith)) j)
    go false g j rest =
        let e = and_both (c r) (every c (theirs x l)) j in
        and_in (c r) (every c (number_rows x k l)) e.0 (rest k g e.1)

-- each two: `b` is what the rows were known to pass, and numbers go from low to below top
module _ (c : List ℕ → List ℕ → Bool) (b : List ℕ → Bool) (x low top : ℕ)
    (new_new : (r q : List ℕ) (i j : ℕ) → length r ≡ 19 → length q ≡ 19 → low ≤ i → i < j → j < top → c (numbered r i) (numbered q j) ≡ true)
    (new_old : (r q : List ℕ) (i : ℕ) → length r ≡ 19 → b q ≡ true → low ≤ i → i < top → c (numbered r i) q ≡ true)
    (old_new : (r q : List ℕ) (i : ℕ) → b r ≡ true → length q ≡ 19 → low ≤ i → i < top → c r (numbered q i) ≡ true) where
  pub pairs_number : (k : ℕ) {l : List (List ℕ)} → Wide 19 l → low ≤ k → k + length (mine x l) ≤ top → every b l ≡ true → pairs c l ≡ true → pairs c (number_rows x k l) ≡ true
  unfolding every pairs keep number_rows
  pairs_number k none p t h g = refl
  pairs_number k (one {r} {rs = l} w v) p t h g =
      let e = and_both (b r) (every b l) h in
      let f = and_both (every (c r) l) (pairs c l) g in
      go (owned_by x r) t e.0 (every_keep (λ (q : List ℕ). not (owned_by x q)) b l e.1) (every_keep (λ (q : List ℕ). not (owned_by x q)) (c r) l f.0) (λ m i j. pairs_number m v i j e.1 f.1)
    where
      wide : (i : ℕ) → i < length (mine x l) → length (get_or (mine x l) i []) ≡ 19
      wide i n = wide_get_d i (wide_keep (owned_by x) v) n

      go : (a : Bool) → k + length (cons_if a r (mine x l)) ≤ top → b r ≡ true → every b (theirs x l) ≡ true → every (c r) (theirs x l) ≡ true
          → ((m : ℕ) → low ≤ m → m + length (mine x l) ≤ top → pairs c (number_rows x m l) ≡ true)
          → pairs c (cond a (numbered r k ∷ number_rows x (k + 1) l) (r ∷ number_rows x k l)) ≡ true
      go true n br bt ct rest =
          and_in (every (c (numbered r k)) (number_rows x (k + 1) l)) (pairs c (number_rows x (k + 1) l))
          (every_number (c (numbered r k)) x (k + 1) l
          (λ i m. new_new r (get_or (mine x l) i []) k (k + 1 + i) w (wide i m) p (omega arith) (omega arith))
          (each (theirs x l) bt))
          (rest (k + 1) (omega arith) (omega arith))
        where
          each : (m : List (List ℕ)) → every b m ≡ true → every (c (numbered r k)) m ≡ true
          each [] y = refl
          each (q ∷ m) y =
              let z = and_both (b q) (every b m) y in
              and_in (c (numbered r k) q) (every (c (numbered r k)) m) (new_old r q k w z.0 p (omega arith)) (each m z.1)
      go false n br bt ct rest =
          and_in (every (c r) (number_rows x k l)) (pairs c (number_rows x k l))
          (every_number (c r) x k l (λ i m. old_new r (get_or (mine x l) i []) (k + i) br (wide i m) (omega arith) (omega arith)) ct)
          (rest k p n)
