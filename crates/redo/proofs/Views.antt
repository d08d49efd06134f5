-- What pages show, as tests on rows: tests after tests, and tests that agree on the rows at hand.
-- And a page is the stored page, with the updates up to its stamp, under those above it.
use Prim.Native.Nat.{ℕ, ◌<◌}
use native.Mathlib.Omega.{arith}
use mathlib.Core.Path.{◌≡◌, refl, sym, ap, ◌∙◌}
use mathlib.Core.Bool.{Bool, true, false, not, ◌&&◌, ◌||◌, and_comm, not-not}
use mathlib.Core.List.{List, [], ◌∷◌, ◌++◌}
use lib.Dec.{leb, ltb}
use borrow.Author.Tests.{ltb-true, ltb-false, leb-false, le-leb, lt-leb, eqb-true, not-true}
use Rattle.word.specs.Word.{num}
use Rattle.word.proofs.Tests.{and_both}
use Rattle.record.specs.Rows.{keep, cons_if}
use Rattle.record.specs.Record.{page_of, number_of, applied, on_page}
use Rattle.rules.specs.Lent.{stamp_at}
use Rattle.rules.specs.Sound.{every, pairs}
use Rattle.redo.proofs.Order.{pairs_imp}
use Rattle.redo.proofs.View.{applied_append, keep_append}

module _ {A : Type 0} where
  -- what passes one test, and of that what passes another
  pub keep_keep : (a b : A → Bool) (l : List A) → keep a (keep b l) ≡ keep (λ (r : A). b r && a r) l
  unfolding keep
  keep_keep a b [] = refl
  keep_keep a b (x ∷ l) = pick (b x) (keep_keep a b l)
    where
      pick : (t : Bool) → keep a (keep b l) ≡ keep (λ (r : A). b r && a r) l → keep a (cons_if t x (keep b l)) ≡ cons_if (t && a x) x (keep (λ (r : A). b r && a r) l)
      pick true e = ap (λ (k : List A). cons_if (a x) x k) e
      pick false e = e

  -- tests that say the same keep the same
  pub keep_same : (a b : A → Bool) → ((r : A) → a r ≡ b r) → (l : List A) → keep a l ≡ keep b l
  keep_same a b e l = λ i. keep (λ (r : A). e r i) l

  -- and so do tests that say the same of rows which pass a third, as all these do
  pub keep_same_where : (c a b : A → Bool) → ((r : A) → c r ≡ true → a r ≡ b r) → (l : List A) → every c l ≡ true → keep a l ≡ keep b l
  unfolding keep every
  keep_same_where c a b e [] h = refl
  keep_same_where c a b e (x ∷ l) h =
      let s : (c x ≡ true) × (every c l ≡ true) = and_both (c x) (every c l) h in
      ap (λ (t : Bool). cons_if t x (keep a l)) (e x s.0) ∙ ap (λ (k : List A). cons_if (b x) x k) (keep_same_where c a b e l s.1)

  -- the tests in the order that they stand in
  pub keep_both : (a b : A → Bool) (l : List A) → keep a (keep b l) ≡ keep (λ (r : A). a r && b r) l
  keep_both a b l = keep_keep a b l ∙ keep_same (λ (r : A). b r && a r) (λ (r : A). a r && b r) (λ r. and_comm (b r) (a r)) l

  -- which test comes first does not matter
  pub keep_swap : (a b : A → Bool) (l : List A) → keep a (keep b l) ≡ keep b (keep a l)
  keep_swap a b l = keep_keep a b l ∙ sym (keep_both b a l)

  -- all of them, none of them
  pub keep_all : (b : A → Bool) (l : List A) → every b l ≡ true → keep b l ≡ l
  unfolding keep every
  keep_all b [] h = refl
  keep_all b (x ∷ l) h =
      let s : (b x ≡ true) × (every b l ≡ true) = and_both (b x) (every b l) h in
      ap (λ (t : Bool). cons_if t x (keep b l)) s.0 ∙ ap (λ (k : List A). x ∷ k) (keep_all b l s.1)

  pub keep_none : (b : A → Bool) (l : List A) → every (λ (r : A). not (b r)) l ≡ true → keep b l ≡ []
  unfolding keep every
  keep_none b [] h = refl
  keep_none b (x ∷ l) h =
      let s : (not (b x) ≡ true) × (every (λ (r : A). not (b r)) l ≡ true) = and_both (not (b x)) (every (λ (r : A). not (b r)) l) h in
      ap (λ (t : Bool). cons_if t x (keep b l)) (not-true (b x) s.0) ∙ keep_none b l s.1

-- a test that, once it fails, fails from there on
abbrev pub steady : (List ℕ → Bool) → List ℕ → List ℕ → Bool
steady t a b = t a || not (t b)

-- it cuts the rows in two
pub split : (t : List ℕ → Bool) (l : List (List ℕ)) → pairs (steady t) l ≡ true → l ≡ keep t l ++ keep (λ (r : List ℕ). not (t r)) l
unfolding pairs keep
split t [] h = refl
split t (x ∷ l) h =
    let s : (every (steady t x) l ≡ true) × (pairs (steady t) l ≡ true) = and_both (every (steady t x) l) (pairs (steady t) l) h in
    pick (t x) s.0 (split t l s.1)
  where
    rest : List (List ℕ)
    rest = keep (λ (r : List ℕ). not (t r)) l

    pick : (q : Bool) → every (λ (r : List ℕ). q || not (t r)) l ≡ true → l ≡ keep t l ++ rest → x ∷ l ≡ cons_if q x (keep t l) ++ cons_if (not q) x rest
    pick true e f = ap (λ (k : List (List ℕ)). x ∷ k) f
    pick false e f = ap (λ (k : List (List ℕ)). x ∷ k) (sym (keep_all (λ (r : List ℕ). not (t r)) l e)) ∙ ap (λ (k : List (List ℕ)). k ++ x ∷ rest) (sym (keep_none t l e))

-- and what passes another test of them
pub split_kept : (q t : List ℕ → Bool) (l : List (List ℕ)) → pairs (steady t) l ≡ true → keep q l ≡ keep (λ (r : List ℕ). q r && t r) l ++ keep (λ (r : List ℕ). q r && not (t r)) l
split_kept q t l h =
    ap (λ (k : List (List ℕ)). keep q k) (split t l h)
    ∙ keep_append q (keep t l) (keep t' l)
    ∙ ap (λ (k : List (List ℕ)). k ++ keep q (keep t' l)) (keep_both q t l)
    ∙ ap (λ (k : List (List ℕ)). keep (λ (r : List ℕ). q r && t r) l ++ k) (keep_both q t' l)
  where
    t' : List ℕ → Bool
    t' r = not (t r)

-- a page sees those before the cut, then those after it
pub applied_split : (q t : List ℕ → Bool) (l : List (List ℕ)) (g : List ℕ) → pairs (steady t) l ≡ true → applied (keep (λ (r : List ℕ). q r && not (t r)) l) (applied (keep (λ (r : List ℕ). q r && t r) l) g) ≡ applied (keep q l) g
applied_split q t l g h =
    sym (applied_append (keep (λ (r : List ℕ). q r && t r) l) (keep (λ (r : List ℕ). q r && not (t r)) l) g)
    ∙ ap (λ (k : List (List ℕ)). applied k g) (sym (split_kept q t l h))

-- the earlier row has the smaller number
abbrev pub rising : List ℕ → List ℕ → Bool
rising a b = ltb (number_of a) (number_of b)

-- not above a stamp is up to it
pub not_above : (n k : ℕ) → not (ltb n k) ≡ leb k n
not_above n k = go (ltb n k) refl
  where
    go : (t : Bool) → ltb n k ≡ t → not t ≡ leb k n
    go true e = sym (lt-leb k n (ltb-true n k e))
    go false e = sym (le-leb k n (ltb-false n k e))

-- where numbers rise, the rows up to a number come first
pub rising_steady : (n : ℕ) (l : List (List ℕ)) → pairs rising l ≡ true → pairs (steady (λ (r : List ℕ). leb (number_of r) n)) l ≡ true
rising_steady n l h = pairs_imp rising (steady (λ (r : List ℕ). leb (number_of r) n)) (λ a b e. later (number_of a) (number_of b) (ltb-true (number_of a) (number_of b) e)) l h
  where
    later : (i j : ℕ) → i < j → (leb i n || not (leb j n)) ≡ true
    later i j e = go (leb i n) refl
      where
        go : (t : Bool) → leb i n ≡ t → (t || not (leb j n)) ≡ true
        go true f = refl
        go false f = let m : n < j = omega (arith, leb-false i n f) in ap not (lt-leb j n m)

-- of a page's rows, those not above their page's stamp are those numbered up to the stamp of that page
pub page_up_to : (marks : List ℕ) (p : ℕ) (r : List ℕ) → (on_page p r && not (ltb (num 4 marks (stamp_at (page_of r))) (number_of r))) ≡ (on_page p r && leb (number_of r) (num 4 marks (stamp_at p)))
page_up_to marks p r = go (on_page p r) refl
  where
    go : (t : Bool) → on_page p r ≡ t → (t && not (ltb (num 4 marks (stamp_at (page_of r))) (number_of r))) ≡ (t && leb (number_of r) (num 4 marks (stamp_at p)))
    go true e =
        ap (λ (q : ℕ). not (ltb (num 4 marks (stamp_at q)) (number_of r))) (eqb-true (page_of r) p e)
        ∙ not_above (num 4 marks (stamp_at p)) (number_of r)
    go false e = refl

pub page_above : (marks : List ℕ) (p : ℕ) (r : List ℕ) → (on_page p r && ltb (num 4 marks (stamp_at (page_of r))) (number_of r)) ≡ (on_page p r && not (leb (number_of r) (num 4 marks (stamp_at p))))
page_above marks p r = turn (on_page p r) (ltb (num 4 marks (stamp_at (page_of r))) (number_of r)) (leb (number_of r) (num 4 marks (stamp_at p))) (page_up_to marks p r)
  where
    turn : (a b c : Bool) → (a && not b) ≡ (a && c) → (a && b) ≡ (a && not c)
    turn true b c e = sym (not-not b) ∙ ap not e
    turn false b c e = refl

-- the committed updates up to a page's stamp, which its stored page has, then those above it, which are online: all of the page
pub stored_then_online : (marks : List ℕ) (p : ℕ) (rows : List (List ℕ)) (g : List ℕ) → pairs rising rows ≡ true → applied (keep (on_page p) (keep (λ (r : List ℕ). ltb (num 4 marks (stamp_at (page_of r))) (number_of r)) rows)) (applied (keep (λ (r : List ℕ). on_page p r && not (ltb (num 4 marks (stamp_at (page_of r))) (number_of r))) rows) g) ≡ applied (keep (on_page p) rows) g
stored_then_online marks p rows g h =
    ap (λ (k : List (List ℕ)). applied k (applied (keep (λ (r : List ℕ). on_page p r && not (above r)) rows) g)) (keep_both (on_page p) above rows ∙ keep_same (λ (r : List ℕ). on_page p r && above r) (λ (r : List ℕ). on_page p r && not (up_to r)) (page_above marks p) rows)
    ∙ ap (λ (k : List (List ℕ)). applied (keep (λ (r : List ℕ). on_page p r && not (up_to r)) rows) (applied k g)) (keep_same (λ (r : List ℕ). on_page p r && not (above r)) (λ (r : List ℕ). on_page p r && up_to r) (page_up_to marks p) rows)
    ∙ applied_split (on_page p) up_to rows g (rising_steady (num 4 marks (stamp_at p)) rows h)
  where
    above : List ℕ → Bool
    above r = ltb (num 4 marks (stamp_at (page_of r))) (number_of r)

    up_to : List ℕ → Bool
    up_to r = leb (number_of r) (num 4 marks (stamp_at p))
