-- Laws of the rows that enter: the test, a turn of a loop over the log, and the same over the lent tables.
use Prim.Native.Nat.{ℕ, zero, suc, ◌+◌, ◌≤◌, ◌<◌}
use native.Mathlib.Omega.{arith}
use mathlib.Core.Path.{◌≡◌, refl, sym, ap, ◌∙◌}
use mathlib.Core.Bool.{Bool, true, false, not, ◌&&◌}
use mathlib.Core.List.{List, [], ◌∷◌}
use lib.ListN.{length, get_or, drop}
use lib.Dec.{eqb, leb}
use borrow.Author.Tests.{ltb-true, le-leb, lt-leb}
use Rattle.word.specs.Word.{num}
use Rattle.record.specs.Rows.{rows, cons_if}
use Rattle.record.specs.Record.{page_of, entered, well_formed}
use Rattle.rules.specs.Lent.{Lent, size_of, pages_of, log_of, first_number_of, stamp_at, dirty_at}
use Rattle.rules.specs.Sound.{every}
use Rattle.rules.specs.Steps.{entering, entering_all}
use Rattle.std.proofs.lemmas.List.{at_drop_more, at_drop_all}
use Rattle.word.proofs.Tests.{and_both}
use Rattle.rules.proofs.Every.{every_imp}
use Rattle.rules.specs.Shape.{page_below}
use Rattle.restart.specs.Enter.{enters_by, entering_by, first_by, all_by, Readable, Restartable}

-- `enters`: a row above the checkpoint number goes by its page's stamp, another by the dirty number too
pub enters_new : (marks b : List ℕ) (pages k p closed stamp : ℕ) → p ≡ page_of b → stamp ≡ num 4 marks (stamp_at p) → closed ≡ num 4 marks 4 → closed < k
    → not (leb k stamp) ≡ enters_by marks pages k b
enters_new marks b pages k p closed stamp e h f lt =
    let above : leb k (num 4 marks 4) ≡ false = rw f at (lt-leb k closed lt) in
    ap (λ (z : ℕ). not (leb k z)) (h ∙ ap (λ (q : ℕ). num 4 marks (stamp_at q)) e)
    ∙ ap (λ (z : Bool). not (z && eqb (num 4 marks (dirty_at pages (page_of b))) 0) && not (leb k (num 4 marks (stamp_at (page_of b))))) (sym above)

pub enters_old : (marks b : List ℕ) (pages k p closed dirty stamp : ℕ) → p ≡ page_of b → stamp ≡ num 4 marks (stamp_at p) → closed ≡ num 4 marks 4 → k ≤ closed
    → dirty ≡ num 4 marks (dirty_at pages p) → (not (eqb dirty 0) && not (leb k stamp)) ≡ enters_by marks pages k b
enters_old marks b pages k p closed dirty stamp e h f le g =
    let within : leb k (num 4 marks 4) ≡ true = rw f at (le-leb k closed le) in
    ap (λ (z : ℕ). not (eqb dirty 0) && not (leb k z)) (h ∙ ap (λ (q : ℕ). num 4 marks (stamp_at q)) e)
    ∙ ap (λ (z : ℕ). not (eqb z 0) && not (leb k (num 4 marks (stamp_at (page_of b))))) (g ∙ ap (λ (q : ℕ). num 4 marks (dirty_at pages q)) e)
    ∙ ap (λ (z : Bool). not (z && eqb (num 4 marks (dirty_at pages (page_of b))) 0) && not (leb k (num 4 marks (stamp_at (page_of b))))) (sym within)

-- the rows still to come in a loop over the log
abbrev pub rest : List ℕ → ℕ → ℕ → List (List ℕ) → ℕ → List (List ℕ)
rest marks pages first rs i = entering_by marks pages (first + i) (drop i rs)

module _ (marks : List ℕ) (pages first : ℕ) (rs : List (List ℕ)) (i : ℕ) where
  pub rest_more : i < length rs
      → rest marks pages first rs i ≡ cons_if (enters_by marks pages (first + i) (get_or rs i [])) (entered (get_or rs i []) (first + i)) (rest marks pages first rs (i + 1))
  unfolding entering_by
  rest_more h =
      let e : first + i + 1 ≡ first + (i + 1) = omega arith in
      at_drop_more (λ (l : List (List ℕ)). entering_by marks pages (first + i) l) rs i [] h
      ∙ ap (λ (k : ℕ). cons_if (enters_by marks pages (first + i) (get_or rs i [])) (entered (get_or rs i []) (first + i)) (entering_by marks pages k (drop (i + 1) rs))) e

  pub rest_end : length rs ≤ i → rest marks pages first rs i ≡ []
  unfolding entering_by
  rest_end h = at_drop_all (λ (l : List (List ℕ)). entering_by marks pages (first + i) l) rs i h

  -- a row that enters, and one that is passed over
  pub rest_yes : i < length rs → enters_by marks pages (first + i) (get_or rs i []) ≡ true
      → rest marks pages first rs i ≡ entered (get_or rs i []) (first + i) ∷ rest marks pages first rs (i + 1)
  rest_yes h t = rest_more h ∙ ap (λ (z : Bool). cons_if z (entered (get_or rs i []) (first + i)) (rest marks pages first rs (i + 1))) t

  pub rest_no : i < length rs → enters_by marks pages (first + i) (get_or rs i []) ≡ false
      → rest marks pages first rs i ≡ rest marks pages first rs (i + 1)
  rest_no h t = rest_more h ∙ ap (λ (z : Bool). cons_if z (entered (get_or rs i []) (first + i)) (rest marks pages first rs (i + 1))) t

  -- how many are still to come
  pub count_yes : i < length rs → enters_by marks pages (first + i) (get_or rs i []) ≡ true → length (rest marks pages first rs i) ≡ suc (length (rest marks pages first rs (i + 1)))
  count_yes h t = ap (λ (l : List (List ℕ)). length l) (rest_yes h t)

  pub count_no : i < length rs → enters_by marks pages (first + i) (get_or rs i []) ≡ false → length (rest marks pages first rs i) ≡ length (rest marks pages first rs (i + 1))
  count_no h t = ap (λ (l : List (List ℕ)). length l) (rest_no h t)

  pub count_end : length rs ≤ i → length (rest marks pages first rs i) ≡ 0
  count_end h = ap (λ (l : List (List ℕ)). length l) (rest_end h)

-- the rows that enter, over the lent tables
pub entering_is_by : (s : Lent) (k : ℕ) (bs : List (List ℕ)) → entering s k bs ≡ entering_by s.durable.marks (pages_of s) k bs
unfolding entering entering_by
entering_is_by s k [] = refl
entering_is_by s k (b ∷ bs) = ap (λ (l : List (List ℕ)). cons_if (enters_by s.durable.marks (pages_of s) k b) (entered b k) l) (entering_is_by s (k + 1) bs)

-- a row of rows whose pages are pages of the store
pub row_paged : (pages : ℕ) (rs : List (List ℕ)) (i : ℕ) → every (page_below pages) rs ≡ true → i < length rs → page_of (get_or rs i []) < pages
unfolding every
row_paged pages [] i h k = absurd (omega arith)
row_paged pages (r ∷ rs) zero h k = ltb-true (page_of r) pages (and_both (page_below pages r) (every (page_below pages) rs) h).0
row_paged pages (r ∷ rs) (suc i) h k = row_paged pages rs i (and_both (page_below pages r) (every (page_below pages) rs) h).1 (omega arith)

well_page : (size pages : ℕ) (r : List ℕ) → well_formed size pages r ≡ true → page_below pages r ≡ true
unfolding well_formed
well_page size pages r e = go (page_below pages r) refl
  where
    go : (z : Bool) → page_below pages r ≡ z → page_below pages r ≡ true
    go true d = d
    go false d = let w : false ≡ true = rw d at e in let z : ◌≡◌ {A = ℕ} 0 1 = cc in absurd (omega arith)

pub readable : (s : Lent) → Restartable s → Readable s.durable.fixed s.durable.marks s.durable.log
readable s (sized, span, last, well) =
    record {
      fixed_exact = sized.fixed;
      marks_exact = sized.marks;
      pages_most = sized.pages;
      frames_most = sized.frames;
      last_least = last;
      within = omega (arith, sized.log);
      inside = every_imp (well_formed (size_of s) (pages_of s)) (page_below (pages_of s)) (well_page (size_of s) (pages_of s)) (log_of s) well;
    }

-- what was read
pub all_read : (fixed marks log : List ℕ) (pages first n : ℕ) (rs : List (List ℕ)) → pages ≡ num 4 fixed 4 → first ≡ first_by marks → n ≡ num 4 marks 8 → rs ≡ rows 14 n log 0
    → entering_by marks pages first rs ≡ all_by fixed marks log
all_read fixed marks log pages first n rs e f g h = rw (h, e, f, g)

pub entering_all_by : (s : Lent) → entering_all s ≡ all_by s.durable.fixed s.durable.marks s.durable.log
entering_all_by s = entering_is_by s (first_number_of s) (log_of s)
