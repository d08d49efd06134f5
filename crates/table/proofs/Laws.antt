-- Laws of the rows that a walk may leave out: those kept of all rows stand between two places.
use Prim.Native.Nat.{ℕ, zero, suc, ◌+◌, ◌-◌, ◌≤◌}
use native.Mathlib.Omega.{arith}
use mathlib.Core.Path.{◌≡◌, refl, sym, ap, ◌∙◌}
use mathlib.Core.Bool.{Bool, true, false, not}
use mathlib.Core.List.{List, [], ◌∷◌, ◌++◌, append-nil}
use lib.ListN.{length, get_or, take, drop, take-append-drop, length-append}
use lib.Seq.{drop-drop}
use Rattle.std.proofs.lemmas.List.{drop_all}
use Rattle.record.specs.Rows.{row_at, rows, cons_if, keep}
use Rattle.record.proofs.Rows.{keep_nil, length_rows, drop_rows}
use Rattle.record.proofs.Listed.{keep_left}
use Rattle.table.specs.Before.{NoneBefore, NoneFrom, start, pass}

-- those kept of some rows and of others
append_if : (z : Bool) (x : List ℕ) (l k : List (List ℕ)) → cons_if z x l ++ k ≡ cons_if z x (l ++ k)
append_if true x l k = refl
append_if false x l k = refl

keep_append : (b : List ℕ → Bool) (l k : List (List ℕ)) → keep b (l ++ k) ≡ keep b l ++ keep b k
unfolding keep
keep_append b [] k = refl
keep_append b (x ∷ l) k = ap (λ (r : List (List ℕ)). cons_if (b x) x r) (keep_append b l k) ∙ sym (append_if (b x) x (keep b l) (keep b k))

keep_cut : (b : List ℕ → Bool) (rs : List (List ℕ)) (i : ℕ) → keep b rs ≡ keep b (take i rs) ++ keep b (drop i rs)
keep_cut b rs i = ap (λ (l : List (List ℕ)). keep b l) (sym (take-append-drop i rs)) ∙ keep_append b (take i rs) (drop i rs)

-- none of the rows from row a up to row c is kept
keep_none : (b : List ℕ → Bool) (rs : List (List ℕ)) (a : ℕ) {c : ℕ} → NoneFrom b rs a c → c ≤ length rs → (a ≤ c) × (keep b (drop a rs) ≡ keep b (drop c rs))
keep_none b rs a start h = (omega arith, refl)
keep_none b rs a (pass {m} k e) h =
    let n = keep_none b rs a k (omega arith) in
    let s : m + 1 ≡ suc m = omega arith in
    (omega (arith, n.0), n.1 ∙ keep_left b rs m (omega arith) ∙ ap (λ (z : Bool). cons_if z (get_or rs m []) (keep b (drop (m + 1) rs))) e ∙ ap (λ (i : ℕ). keep b (drop i rs)) s)

keep_none_after : (b : List ℕ → Bool) (rs : List (List ℕ)) (c : ℕ) → NoneFrom b rs c (length rs) → keep b (drop c rs) ≡ []
keep_none_after b rs c k =
    (keep_none b rs c k (omega arith)).1 ∙ ap (λ (l : List (List ℕ)). keep b l) (drop_all (length rs) rs (omega arith)) ∙ keep_nil b

keep_none_before : (b : List ℕ → Bool) (rs : List (List ℕ)) (a : ℕ) → NoneBefore b rs a → a ≤ length rs → keep b (take a rs) ≡ []
keep_none_before b rs a k h =
    let e : length (keep b rs) ≡ length (keep b (drop a rs)) = ap (λ (l : List (List ℕ)). length l) (keep_none b rs 0 k h).1 in
    let f : length (keep b rs) ≡ length (keep b (take a rs)) + length (keep b (drop a rs)) = ap (λ (l : List (List ℕ)). length l) (keep_cut b rs a) ∙ length-append (keep b (take a rs)) (keep b (drop a rs)) in
    none (keep b (take a rs)) (omega arith)
  where
    none : (l : List (List ℕ)) → length l ≡ 0 → l ≡ []
    none [] e = refl
    none (x ∷ l) e = absurd (omega arith)

-- so those kept of all rows stand between the two
pub keep_rows_between : (b : List ℕ → Bool) (rs : List (List ℕ)) (a c : ℕ) → NoneBefore b rs a → NoneFrom b rs c (length rs) → a ≤ c → c ≤ length rs → keep b (take (c - a) (drop a rs)) ≡ keep b rs
keep_rows_between b rs a c k n h q =
    let l : List (List ℕ) = keep b (take (c - a) (drop a rs)) in
    let e : a + (c - a) ≡ c = omega arith in
    sym ((keep_none b rs 0 k (omega arith)).1 ∙ keep_cut b (drop a rs) (c - a)
    ∙ ap (λ (r : List (List ℕ)). l ++ keep b r) (drop-drop (c - a) a rs ∙ ap (λ (i : ℕ). drop i rs) e)
    ∙ ap (λ (r : List (List ℕ)). l ++ r) (keep_none_after b rs c n) ∙ append-nil l)

-- rows of which none passes the test all stay
all_stay : (b : List ℕ → Bool) (rs : List (List ℕ)) → keep b rs ≡ [] → keep (λ (x : List ℕ). not (b x)) rs ≡ rs
unfolding keep
all_stay b [] e = refl
all_stay b (x ∷ rs) e = pick (b x) refl (λ (h : keep b rs ≡ []). all_stay b rs h)
  where
    pick : (z : Bool) → b x ≡ z → (keep b rs ≡ [] → keep (λ (y : List ℕ). not (b y)) rs ≡ rs) → cons_if (not (b x)) x (keep (λ (y : List ℕ). not (b y)) rs) ≡ x ∷ rs
    pick true f k = let n : suc (length (keep b rs)) ≡ 0 = ap (λ (l : List (List ℕ)). length l) (sym (ap (λ (z : Bool). cons_if z x (keep b rs)) f) ∙ e) in absurd (omega arith)
    pick false f k =
        ap (λ (z : Bool). cons_if (not z) x (keep (λ (y : List ℕ). not (b y)) rs)) f
        ∙ ap (λ (l : List (List ℕ)). x ∷ l) (k (sym (ap (λ (z : Bool). cons_if z x (keep b rs)) f) ∙ e))

-- a table's rows up to row a, and from it on
take_rows : (w m a : ℕ) (t : List ℕ) (i : ℕ) → a ≤ m → take a (rows w m t i) ≡ rows w a t i
unfolding rows
take_rows w m zero t i h = refl
take_rows w zero (suc a) t i h = absurd (omega arith)
take_rows w (suc m) (suc a) t i h = ap (λ (l : List (List ℕ)). row_at w t i ∷ l) (take_rows w m a t (i + 1) (omega arith))

rest_rows : (m a : ℕ) (t : List ℕ) → a ≤ m → drop a (rows 19 m t 0) ≡ rows 19 (m - a) t a
rest_rows m a t h = let z : 0 + a ≡ a = omega arith in drop_rows 19 m a t 0 h ∙ ap (λ (i : ℕ). rows 19 (m - a) t i) z

pub keep_rows_split : (b : List ℕ → Bool) (m : ℕ) (t : List ℕ) (a : ℕ) → a ≤ m → keep b (rows 19 m t 0) ≡ keep b (rows 19 a t 0) ++ keep b (rows 19 (m - a) t a)
keep_rows_split b m t a h =
    keep_cut b (rows 19 m t 0) a ∙ ap (λ (l : List (List ℕ)). keep b l ++ keep b (drop a (rows 19 m t 0))) (take_rows 19 m a t 0 h)
    ∙ ap (λ (l : List (List ℕ)). keep b (rows 19 a t 0) ++ keep b l) (rest_rows m a t h)

module _ (b : List ℕ → Bool) (m : ℕ) (t : List ℕ) (a : ℕ) (h : a ≤ m) where
  pub stay_before : NoneBefore b (rows 19 m t 0) a → keep (λ (x : List ℕ). not (b x)) (rows 19 a t 0) ≡ rows 19 a t 0
  stay_before k =
      ap (λ (l : List (List ℕ)). keep (λ (x : List ℕ). not (b x)) l) (sym (take_rows 19 m a t 0 h))
      ∙ all_stay b (take a (rows 19 m t 0)) (keep_none_before b (rows 19 m t 0) a k (rw (length_rows 19 m t 0) h)) ∙ take_rows 19 m a t 0 h

  pub stay_behind : NoneFrom b (rows 19 m t 0) a m → keep (λ (x : List ℕ). not (b x)) (rows 19 (m - a) t a) ≡ rows 19 (m - a) t a
  stay_behind k =
      ap (λ (l : List (List ℕ)). keep (λ (x : List ℕ). not (b x)) l) (sym (rest_rows m a t h))
      ∙ all_stay b (drop a (rows 19 m t 0)) (keep_none_after b (rows 19 m t 0) a (rw length_rows k)) ∙ rest_rows m a t h
