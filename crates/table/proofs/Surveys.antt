-- Laws of a survey: one row more, and the turns of the loop over rows.
use Prim.Native.Nat.{ℕ, suc, ◌+◌, ◌≤◌, ◌<◌, min, max}
use native.Mathlib.Omega.{arith}
use native.Mathlib.Numerals.{add-one}
use mathlib.Core.Path.{◌≡◌, refl, sym, ap, subst, ◌∙◌}
use mathlib.Core.Bool.{Bool, true, false, cond, ◌&&◌}
use mathlib.Core.List.{List, [], ◌∷◌}
use lib.ListN.{length, get_or, drop}
use lib.Dec.{eqb, leb}
use borrow.Author.Tests.{leb-true, leb-false}
use Rattle.record.specs.Rows.{cons_if, keep}
use Rattle.record.specs.Record.{page_of, owner_of, number_of, committed, on_page, committed_on, lesser, smallest, greatest}
use Rattle.table.specs.declared.page.Survey.{Survey}
use Rattle.table.specs.Before.{NoneBefore, NoneFrom, start, pass}
use Rattle.table.specs.Seen.{Seen, Surveyed}
use Rattle.record.proofs.Listed.{keep_left, keep_none_left, count_all}

keep_one : (b : List ℕ → Bool) (x : List ℕ) (z : Bool) → b x ≡ z → keep b (x ∷ []) ≡ cons_if z x []
unfolding keep
keep_one b x z e = ap (λ (w : Bool). cons_if w x []) e

seen_by : (s r : Survey) (p i : ℕ) (x : List ℕ) (u v : Bool) → on_page p x ≡ u → committed_on p x ≡ v
    → r.all ≡ s.all + length (cons_if u x []) → r.committed ≡ s.committed + length (cons_if v x [])
    → r.least ≡ smallest s.least (cons_if v x []) → r.most ≡ greatest s.most (cons_if v x []) → r.from ≡ cond v (min s.from i) s.from
    → r.to ≡ cond v (i + 1) s.to → Seen s p i x r
seen_by s r p i x u v ue ve ae ce le me fe te =
    record {
      all = ae ∙ ap (λ (l : List (List ℕ)). s.all + length l) (sym (keep_one (on_page p) x u ue));
      committed = ce ∙ ap (λ (l : List (List ℕ)). s.committed + length l) (sym (keep_one (committed_on p) x v ve));
      least = le ∙ ap (λ (l : List (List ℕ)). smallest s.least l) (sym (keep_one (committed_on p) x v ve));
      most = me ∙ ap (λ (l : List (List ℕ)). greatest s.most l) (sym (keep_one (committed_on p) x v ve));
      from = fe ∙ ap (λ (z : Bool). cond z (min s.from i) s.from) (sym ve);
      to = te ∙ ap (λ (z : Bool). cond z (i + 1) s.to) (sym ve);
    }

-- a row of another page
pub seen_other : (s : Survey) (p i : ℕ) (x : List ℕ) → eqb (page_of x) p ≡ false → Seen s p i x s
unfolding smallest greatest
seen_other s p i x e = seen_by s s p i x false false e (ap (λ (z : Bool). z && committed x) e) (omega arith) (omega arith) refl refl refl refl

-- a row of the page that is not committed
pub seen_open : (s r : Survey) (p i : ℕ) (x : List ℕ) → eqb (page_of x) p ≡ true → eqb (owner_of x) 0 ≡ false
    → r.all ≡ s.all + 1 → r.committed ≡ s.committed → r.least ≡ s.least → r.most ≡ s.most → r.from ≡ s.from → r.to ≡ s.to → Seen s p i x r
unfolding smallest greatest
seen_open s r p i x e f ae ce le me fe te =
    seen_by s r p i x true false e (ap (λ (z : Bool). z && committed x) e ∙ f) (omega arith) (omega arith) le me fe te

-- a committed row of the page
pub seen_committed : (s r : Survey) (p i : ℕ) (x : List ℕ) → eqb (page_of x) p ≡ true → eqb (owner_of x) 0 ≡ true
    → r.all ≡ s.all + 1 → r.committed ≡ s.committed + 1 → r.least ≡ lesser s.least (number_of x) → r.most ≡ max s.most (number_of x) → r.from ≡ min s.from i → r.to ≡ i + 1 → Seen s p i x r
unfolding smallest greatest
seen_committed s r p i x e f ae ce le me fe te =
    seen_by s r p i x true true e (ap (λ (z : Bool). z && committed x) e ∙ f) (omega arith) (omega arith) le me fe te

-- the rows up to i are in the survey
pub record Surveying (p : ℕ) (rs : List (List ℕ)) (s : Survey) (i : ℕ) : Type 0 where
  pub within : i ≤ length rs
  pub all : s.all + length (keep (on_page p) (drop i rs)) ≡ 0 + length (keep (on_page p) rs)
  pub committed : s.committed + length (keep (committed_on p) (drop i rs)) ≡ 0 + length (keep (committed_on p) rs)
  pub least : smallest s.least (keep (committed_on p) (drop i rs)) ≡ smallest 0 (keep (committed_on p) rs)
  pub most : greatest s.most (keep (committed_on p) (drop i rs)) ≡ greatest 0 (keep (committed_on p) rs)
  pub fewer : s.committed ≤ s.all
  pub below : s.all ≤ i
  pub clear : NoneBefore (committed_on p) rs (min i s.from)
  pub behind : NoneFrom (committed_on p) rs (min i s.to) i
  pub ordered : s.from ≤ s.to
  pub end : s.to ≤ length rs

pub survey_none : (p : ℕ) (rs : List (List ℕ)) (s : Survey) → s.all ≡ 0 → s.committed ≡ 0 → s.least ≡ 0 → s.most ≡ 0 → s.from ≡ length rs → s.to ≡ length rs → Surveying p rs s 0
survey_none p rs s ae ce le me fe te =
    let z : min 0 s.from ≡ 0 = omega arith in
    let y : min 0 s.to ≡ 0 = omega arith in
    record {
      within = omega arith;
      all = ap (λ (n : ℕ). n + length (keep (on_page p) (drop 0 rs))) ae;
      committed = ap (λ (n : ℕ). n + length (keep (committed_on p) (drop 0 rs))) ce;
      least = ap (λ (n : ℕ). smallest n (keep (committed_on p) (drop 0 rs))) le;
      most = ap (λ (n : ℕ). greatest n (keep (committed_on p) (drop 0 rs))) me;
      fewer = omega arith;
      below = omega arith;
      clear = rw z start;
      behind = rw y start;
      ordered = omega arith;
      end = omega arith;
    }

-- a row in front, and those after it
length_cut : (z : Bool) (x : List ℕ) (l : List (List ℕ)) (n : ℕ) → n + length (cons_if z x []) + length l ≡ n + length (cons_if z x l)
length_cut true x l n = omega arith
length_cut false x l n = omega arith

smallest_cut : (z : Bool) (x : List ℕ) (l : List (List ℕ)) (n : ℕ) → smallest (smallest n (cons_if z x [])) l ≡ smallest n (cons_if z x l)
unfolding smallest
smallest_cut true x l n = refl
smallest_cut false x l n = refl

greatest_cut : (z : Bool) (x : List ℕ) (l : List (List ℕ)) (n : ℕ) → greatest (greatest n (cons_if z x [])) l ≡ greatest n (cons_if z x l)
unfolding greatest
greatest_cut true x l n = refl
greatest_cut false x l n = refl

fewer_one : (u v : Bool) (x : List ℕ) → length (cons_if (u && v) x []) ≤ length (cons_if u x [])
fewer_one true true x = omega arith
fewer_one true false x = omega arith
fewer_one false v x = omega arith

one_at_most : (u : Bool) (x : List ℕ) → length (cons_if u x []) ≤ 1
one_at_most true x = omega arith
one_at_most false x = omega arith

-- no row that passes stands before the first that does, and none before row i while none is found
before_more : (b : List ℕ → Bool) (rs : List (List ℕ)) (i f g : ℕ) → NoneBefore b rs (min i f) → g ≡ cond (b (get_or rs i [])) (min f i) f → NoneBefore b rs (min (i + 1) g)
before_more b rs i f g h = pick (b (get_or rs i [])) refl
  where
    place : (z : Bool) → leb f i ≡ z → b (get_or rs i []) ≡ false → g ≡ f → NoneBefore b rs (min (i + 1) g)
    place true l e q = let n : min (i + 1) g ≡ min i f = omega (arith, leb-true f i l) in rw n h
    place false l e q =
        let n : min (i + 1) g ≡ suc i = omega (arith, leb-false f i l) in
        let o : min i f ≡ i = omega (arith, leb-false f i l) in
        rw n (pass (rw o at h) e)

    pick : (z : Bool) → b (get_or rs i []) ≡ z → g ≡ cond z (min f i) f → NoneBefore b rs (min (i + 1) g)
    pick true e q = let n : min (i + 1) g ≡ min i f = omega arith in rw n h
    pick false e q = place (leb f i) refl e q

-- none stands behind the last that passes
behind_more : (b : List ℕ → Bool) (rs : List (List ℕ)) (i f g : ℕ) → NoneFrom b rs (min i f) i → g ≡ cond (b (get_or rs i [])) (i + 1) f → NoneFrom b rs (min (i + 1) g) (i + 1)
behind_more b rs i f g h = pick (b (get_or rs i [])) refl
  where
    place : (z : Bool) → leb f i ≡ z → b (get_or rs i []) ≡ false → g ≡ f → NoneFrom b rs (min (i + 1) g) (i + 1)
    place true l e q =
        let n : min (i + 1) g ≡ min i f = omega (arith, leb-true f i l) in
        rw (n, add-one i) (pass h e)
    place false l e q = let n : min (i + 1) g ≡ i + 1 = omega (arith, leb-false f i l) in rw n start

    pick : (z : Bool) → b (get_or rs i []) ≡ z → g ≡ cond z (i + 1) f → NoneFrom b rs (min (i + 1) g) (i + 1)
    pick true e q = let n : min (i + 1) g ≡ i + 1 = omega arith in rw n start
    pick false e q = place (leb f i) refl e q

-- the first that passes stands before the end of the last, and both within the rows
ends_more : (z : Bool) (f i g t u m : ℕ) → g ≡ cond z (min f i) f → u ≡ cond z (i + 1) t → i < m → f ≤ t → t ≤ m → (g ≤ u) × (u ≤ m)
ends_more true f i g t u m e q lt h k = (omega arith, omega arith)
ends_more false f i g t u m e q lt h k = (omega arith, omega arith)

module _ (b : List ℕ → Bool) (rs : List (List ℕ)) (i n k : ℕ) (lt : i < length rs) where
  count_cut : k ≡ n + length (keep b (get_or rs i [] ∷ [])) → k + length (keep b (drop (i + 1) rs)) ≡ n + length (keep b (drop i rs))
  count_cut e =
      let l : List (List ℕ) = keep b (drop (i + 1) rs) in
      ap (λ (q : ℕ). q + length l) (e ∙ ap (λ (q : List (List ℕ)). n + length q) (keep_one b (get_or rs i []) (b (get_or rs i [])) refl))
      ∙ length_cut (b (get_or rs i [])) (get_or rs i []) l n ∙ ap (λ (q : List (List ℕ)). n + length q) (sym (keep_left b rs i lt))

  least_cut : k ≡ smallest n (keep b (get_or rs i [] ∷ [])) → smallest k (keep b (drop (i + 1) rs)) ≡ smallest n (keep b (drop i rs))
  least_cut e =
      let l : List (List ℕ) = keep b (drop (i + 1) rs) in
      ap (λ (q : ℕ). smallest q l) (e ∙ ap (λ (q : List (List ℕ)). smallest n q) (keep_one b (get_or rs i []) (b (get_or rs i [])) refl))
      ∙ smallest_cut (b (get_or rs i [])) (get_or rs i []) l n ∙ ap (λ (q : List (List ℕ)). smallest n q) (sym (keep_left b rs i lt))

  most_cut : k ≡ greatest n (keep b (get_or rs i [] ∷ [])) → greatest k (keep b (drop (i + 1) rs)) ≡ greatest n (keep b (drop i rs))
  most_cut e =
      let l : List (List ℕ) = keep b (drop (i + 1) rs) in
      ap (λ (q : ℕ). greatest q l) (e ∙ ap (λ (q : List (List ℕ)). greatest n q) (keep_one b (get_or rs i []) (b (get_or rs i [])) refl))
      ∙ greatest_cut (b (get_or rs i [])) (get_or rs i []) l n ∙ ap (λ (q : List (List ℕ)). greatest n q) (sym (keep_left b rs i lt))

pub survey_more : (p : ℕ) (rs : List (List ℕ)) (s : Survey) (i : ℕ) (r : Survey) → Surveying p rs s i → i < length rs → Seen s p i (get_or rs i []) r → Surveying p rs r (i + 1)
survey_more p rs s i r inv lt e =
    let x : List ℕ = get_or rs i [] in
    let ka : length (keep (on_page p) (x ∷ [])) ≡ length (cons_if (eqb (page_of x) p) x []) = ap (λ (l : List (List ℕ)). length l) (keep_one (on_page p) x (eqb (page_of x) p) refl) in
    let kc : length (keep (committed_on p) (x ∷ [])) ≡ length (cons_if (eqb (page_of x) p && committed x) x []) = ap (λ (l : List (List ℕ)). length l) (keep_one (committed_on p) x (eqb (page_of x) p && committed x) refl) in
    let f : length (cons_if (eqb (page_of x) p && committed x) x []) ≤ length (cons_if (eqb (page_of x) p) x []) = fewer_one (eqb (page_of x) p) (committed x) x in
    let o : length (cons_if (eqb (page_of x) p) x []) ≤ 1 = one_at_most (eqb (page_of x) p) x in
    let n : (r.from ≤ r.to) × (r.to ≤ length rs) = ends_more (committed_on p x) s.from i r.from s.to r.to (length rs) e.from e.to lt inv.ordered inv.end in
    record {
      within = omega arith;
      all = count_cut (on_page p) rs i s.all r.all lt e.all ∙ inv.all;
      committed = count_cut (committed_on p) rs i s.committed r.committed lt e.committed ∙ inv.committed;
      least = least_cut (committed_on p) rs i s.least r.least lt e.least ∙ inv.least;
      most = most_cut (committed_on p) rs i s.most r.most lt e.most ∙ inv.most;
      fewer = omega (arith, e.all, e.committed, inv.fewer);
      below = omega (arith, e.all, inv.below);
      clear = before_more (committed_on p) rs i s.from r.from inv.clear e.from;
      behind = behind_more (committed_on p) rs i s.to r.to inv.behind e.to;
      ordered = n.0;
      end = n.1;
    }

pub survey_all : (p : ℕ) (rs : List (List ℕ)) (s : Survey) (i : ℕ) → Surveying p rs s i → length rs ≤ i → Surveyed p rs s
unfolding smallest greatest
survey_all p rs s i inv q =
    let ae : s.all ≡ 0 + length (keep (on_page p) rs) = count_all (on_page p) rs i s.all _ q inv.all in
    let ce : s.committed ≡ 0 + length (keep (committed_on p) rs) = count_all (committed_on p) rs i s.committed _ q inv.committed in
    let fe : min i s.from ≡ s.from = omega (arith, inv.ordered, inv.end) in
    let te : min i s.to ≡ s.to = omega (arith, inv.end) in
    let ie : i ≡ length rs = omega (arith, inv.within) in
    record {
      all = omega arith;
      committed = omega arith;
      least = ap (λ (l : List (List ℕ)). smallest s.least l) (sym (keep_none_left (committed_on p) rs i q)) ∙ inv.least;
      most = ap (λ (l : List (List ℕ)). greatest s.most l) (sym (keep_none_left (committed_on p) rs i q)) ∙ inv.most;
      fewer = inv.fewer;
      below = omega (arith, inv.below, inv.within);
      from = rw fe at inv.clear;
      to = subst (λ (k : ℕ). NoneFrom (committed_on p) rs s.to k) ie (rw te at inv.behind);
      ordered = inv.ordered;
      within = inv.end;
    }
