-- The turns and ends of this crate's loops over rows.
use Prim.Native.Nat.{ℕ, suc, ◌+◌, ◌*◌, ◌-◌, ◌≤◌, ◌<◌}
use native.Mathlib.Omega.{arith}
use mathlib.Core.Path.{◌≡◌, refl, sym, ap, ◌∙◌}
use mathlib.Core.Bool.{Bool, true, false, cond}
use mathlib.Core.List.{List, [], ◌∷◌, ◌++◌, append_assoc, append-nil, map}
use lib.ListN.{length, get_or, take, drop, replicate, take-append-drop, length-append, length-drop}
use lib.Seq.{drop-drop, length-take-le}
use Rattle.record.specs.Part.{part, with_part}
use Rattle.record.specs.Rows.{row_at, rows, joined, table, cons_if, keep}
use Rattle.record.specs.Record.{body_of, owned_by, numbered, number_rows}
use Rattle.record.proofs.Parts.{length_part, with_take, with_drop, with_length}
use Rattle.record.proofs.Rows.{rows_more, rows_end, keep_rows_more, keep_rows_end, row_width, sub_mul, joined_cons, joined_rows, joined_all, joined_append, length_rows, drop_rows, count_turn, count_end}
use Rattle.record.proofs.Listed.{keep_left, keep_none_left, count_more, count_all}
use Rattle.table.proofs.Laws.{keep_rows_split}
use Rattle.table.proofs.Moves.{lent_back, lent_length}

-- a step of a count goes up by one at most
pub step_le : (z : Bool) (n k : ℕ) → k ≡ cond z (n + 1) n → k ≤ n + 1
step_le true n k e = omega arith
step_le false n k e = omega arith

-- the lent row is the row of the table at the start
pub lent_row : (a e k : ℕ) (l o : List ℕ) → e ≡ a + k → drop a l ≡ drop a o → take (e - a) (drop a l) ≡ take k (drop a o)
lent_row a e k l o h q =
    let d : e - a ≡ k = omega arith in
    ap (λ (n : ℕ). take n (drop a l)) d ∙ ap (λ (x : List ℕ). take k x) q

-- what is the same from a place on is the same from a later one on
after_more : (a k b : ℕ) (l o : List ℕ) → b ≡ a + k → drop a l ≡ drop a o → drop b l ≡ drop b o
after_more a k b l o h q =
    ap (λ (n : ℕ). drop n l) h ∙ sym (drop-drop k a l) ∙ ap (λ (x : List ℕ). drop k x) q ∙ drop-drop k a o ∙ ap (λ (n : ℕ). drop n o) (sym h)

-- `number_rows`
number_rows_cons : (x k : ℕ) (r : List ℕ) (rs : List (List ℕ))
    → number_rows x k (r ∷ rs) ≡ cond (owned_by x r) (numbered r k) r ∷ number_rows x (cond (owned_by x r) (k + 1) k) rs
unfolding number_rows
number_rows_cons x k r rs = pick (owned_by x r)
  where
    pick : (z : Bool) → cond z (numbered r k ∷ number_rows x (k + 1) rs) (r ∷ number_rows x k rs) ≡ cond z (numbered r k) r ∷ number_rows x (cond z (k + 1) k) rs
    pick true = refl
    pick false = refl

number_turn : (x m j k i : ℕ) (o t s p y z f : List ℕ) → j < m → m * 19 ≤ length o → length t ≡ length o → p ≡ row_at 19 o j
    → length y ≡ 19 → y ≡ cond (owned_by x p) (numbered p k) p → i ≡ cond (owned_by x p) (k + 1) k → s ≡ with_part (j * 19) 19 t y
    → take (j * 19) t ++ (joined (number_rows x k (rows 19 (m - j) o j)) ++ z) ≡ f
    → take ((j + 1) * 19) s ++ (joined (number_rows x i (rows 19 (m - (j + 1)) o (j + 1))) ++ z) ≡ f
number_turn x m j k i o t s p y z f lt fit same pe ly ye ie se inv =
    let n : (j + 1) * 19 ≡ j * 19 + 19 = omega arith in
    let h : j * 19 + 19 ≤ length t = omega arith in
    let rs : List (List ℕ) = rows 19 (m - (j + 1)) o (j + 1) in
    let yr : y ≡ cond (owned_by x (row_at 19 o j)) (numbered (row_at 19 o j) k) (row_at 19 o j) = ye ∙ ap (λ (q : List ℕ). cond (owned_by x q) (numbered q k) q) pe in
    let ir : i ≡ cond (owned_by x (row_at 19 o j)) (k + 1) k = ie ∙ ap (λ (q : List ℕ). cond (owned_by x q) (k + 1) k) pe in
    let e : number_rows x k (rows 19 (m - j) o j) ≡ y ∷ number_rows x i rs =
    ap (λ (l : List (List ℕ)). number_rows x k l) (rows_more 19 m o j lt) ∙ number_rows_cons x k (row_at 19 o j) rs
    ∙ ap (λ (q : List ℕ). q ∷ number_rows x (cond (owned_by x (row_at 19 o j)) (k + 1) k) rs) (sym yr) ∙ ap (λ (q : ℕ). y ∷ number_rows x q rs) (sym ir) in
    ap (λ (q : List ℕ). q ++ (joined (number_rows x i rs) ++ z)) (with_take (j * 19) 19 ((j + 1) * 19) t s y h ly n se)
    ∙ append_assoc (take (j * 19) t) y (joined (number_rows x i rs) ++ z)
    ∙ ap (λ (q : List ℕ). take (j * 19) t ++ q) (sym (append_assoc y (joined (number_rows x i rs)) z))
    ∙ ap (λ (q : List ℕ). take (j * 19) t ++ (q ++ z)) (sym (ap (λ (l : List (List ℕ)). joined l) e ∙ joined_cons y (number_rows x i rs)))
    ∙ inv

-- j rows are passed, and k is the next number: the rows passed are written, those after are as they were
pub record Numbering (x next m : ℕ) (o t : List ℕ) (k j : ℕ) : Type 0 where
  pub within : j ≤ m
  pub same : length t ≡ length o
  pub after : drop (j * 19) t ≡ drop (j * 19) o
  pub bytes : take (j * 19) t ++ (joined (number_rows x k (rows 19 (m - j) o j)) ++ drop (m * 19) o) ≡ joined (number_rows x next (rows 19 m o 0)) ++ drop (m * 19) o
  pub count : k + length (keep (owned_by x) (rows 19 (m - j) o j)) ≡ next + length (keep (owned_by x) (rows 19 m o 0))
  pub below : k ≤ next + j

pub number_more : (x next m : ℕ) (o t : List ℕ) (k j i : ℕ) (y : List ℕ) → Numbering x next m o t k j → m * 19 ≤ length o → j < m
    → length y ≡ length (take (j * 19 + 19 - j * 19) (drop (j * 19) t))
    → y ≡ cond (owned_by x (take (j * 19 + 19 - j * 19) (drop (j * 19) t))) (numbered (take (j * 19 + 19 - j * 19) (drop (j * 19) t)) k) (take (j * 19 + 19 - j * 19) (drop (j * 19) t))
    → i ≡ cond (owned_by x (take (j * 19 + 19 - j * 19) (drop (j * 19) t))) (k + 1) k
    → Numbering x next m o (with_part (j * 19) (j * 19 + 19 - j * 19) t y) i (j + 1)
number_more x next m o t k j i y inv fit lt ly ye ie =
    let p : List ℕ = take (j * 19 + 19 - j * 19) (drop (j * 19) t) in
    let s : List ℕ = with_part (j * 19) (j * 19 + 19 - j * 19) t y in
    let h : j * 19 + 19 ≤ length t = omega arith in
    let n : (j + 1) * 19 ≡ j * 19 + 19 = omega arith in
    let ly₁ : length y ≡ 19 = ly ∙ lent_length (j * 19) 19 t h in
    let pe : p ≡ row_at 19 o j = lent_row (j * 19) (j * 19 + 19) 19 t o refl inv.after in
    let se : s ≡ with_part (j * 19) 19 t y = lent_back (j * 19) (j * 19 + 19) 19 t y y refl refl in
    record {
      within = omega arith;
      same = with_length (j * 19) 19 ((j + 1) * 19) t s y h ly₁ n se ∙ inv.same;
      after = with_drop (j * 19) 19 ((j + 1) * 19) t s y h ly₁ n se ∙ after_more (j * 19) 19 ((j + 1) * 19) t o n inv.after;
      bytes = number_turn x m j k i o t s p y (drop (m * 19) o) _ lt fit inv.same pe ly₁ ye ie se inv.bytes;
      count = count_turn (owned_by x) 19 m o j k i _ lt (ie ∙ ap (λ (q : List ℕ). cond (owned_by x q) (k + 1) k) pe) inv.count;
      below = omega (arith, step_le (owned_by x p) k i ie);
    }

number_end : (x m j k : ℕ) (o t f : List ℕ) → j ≤ m → m ≤ j → drop (j * 19) t ≡ drop (j * 19) o
    → take (j * 19) t ++ (joined (number_rows x k (rows 19 (m - j) o j)) ++ drop (m * 19) o) ≡ f → t ≡ f
unfolding number_rows joined
number_end x m j k o t f p q d inv =
    let e : j ≡ m = omega arith in
    sym (take-append-drop (j * 19) t) ∙ ap (λ (l : List ℕ). take (j * 19) t ++ l) (d ∙ ap (λ (i : ℕ). drop (i * 19) o) e)
    ∙ ap (λ (l : List (List ℕ)). take (j * 19) t ++ (joined (number_rows x k l) ++ drop (m * 19) o)) (sym (rows_end 19 m o j q))
    ∙ inv

pub number_all : (x next m : ℕ) (o t : List ℕ) (k j : ℕ) → Numbering x next m o t k j → m ≤ j
    → (t ≡ joined (number_rows x next (rows 19 m o 0)) ++ drop (m * 19) o) × (k ≡ next + length (keep (owned_by x) (rows 19 m o 0)))
number_all x next m o t k j inv q =
    (number_end x m j k o t _ inv.within q inv.after inv.bytes, count_end (owned_by x) 19 m o j k _ q inv.count)

-- `append_log`: j rows of t are passed, and k is the next row of the log
pub record Logging (x n : ℕ) (rs : List (List ℕ)) (o l : List ℕ) (k j : ℕ) : Type 0 where
  pub within : j ≤ length rs
  pub same : length l ≡ length o
  pub after : drop (k * 14) l ≡ drop (k * 14) o
  pub bytes : take (k * 14) l ++ (joined (map body_of (keep (owned_by x) (drop j rs))) ++ drop ((n + length (keep (owned_by x) rs)) * 14) o)
      ≡ take (n * 14) o ++ (joined (map body_of (keep (owned_by x) rs)) ++ drop ((n + length (keep (owned_by x) rs)) * 14) o)
  pub count : k + length (keep (owned_by x) (drop j rs)) ≡ n + length (keep (owned_by x) rs)

-- there is room for one row more of the owner's
pub log_room : (x n : ℕ) (rs : List (List ℕ)) (o l : List ℕ) (k j : ℕ) → Logging x n rs o l k j → n * 14 + length (keep (owned_by x) rs) * 14 ≤ length o
    → j < length rs → owned_by x (get_or rs j []) ≡ true → k * 14 + 14 ≤ length l
log_room x n rs o l k j inv room lt own =
    let r : List (List ℕ) = keep (owned_by x) (drop (j + 1) rs) in
    let e : length (keep (owned_by x) (drop j rs)) ≡ suc (length r) =
    ap (λ (q : List (List ℕ)). length q) (keep_left (owned_by x) rs j lt) ∙ ap (λ (z : Bool). length (cons_if z (get_or rs j []) r)) own in
    omega arith

pub log_more : (x n : ℕ) (rs : List (List ℕ)) (o l : List ℕ) (k j : ℕ) (s : List ℕ) (i : ℕ) → Logging x n rs o l k j
    → length (get_or rs j []) ≡ 19 → n * 14 + length (keep (owned_by x) rs) * 14 ≤ length o → j < length rs
    → s ≡ cond (owned_by x (get_or rs j [])) (with_part (k * 14) 14 l (body_of (get_or rs j []))) l → i ≡ cond (owned_by x (get_or rs j [])) (k + 1) k
    → Logging x n rs o s i (j + 1)
log_more x n rs o l k j s i inv fit room lt = go (owned_by x (get_or rs j [])) refl
  where
    r : List (List ℕ)
    r = keep (owned_by x) (drop (j + 1) rs)

    y : List ℕ
    y = body_of (get_or rs j [])

    z : List ℕ
    z = drop ((n + length (keep (owned_by x) rs)) * 14) o

    go : (w : Bool) → owned_by x (get_or rs j []) ≡ w → s ≡ cond w (with_part (k * 14) 14 l y) l → i ≡ cond w (k + 1) k → Logging x n rs o s i (j + 1)
    go true own se ie =
        let h : k * 14 + 14 ≤ length l = log_room x n rs o l k j inv room lt own in
        let ly : length y ≡ 14 = length-take-le 14 (get_or rs j []) (omega arith) in
        let e : i * 14 ≡ k * 14 + 14 = omega arith in
        record {
          within = omega arith;
          same = with_length (k * 14) 14 (i * 14) l s y h ly e se ∙ inv.same;
          after = with_drop (k * 14) 14 (i * 14) l s y h ly e se ∙ after_more (k * 14) 14 (i * 14) l o e inv.after;
          bytes =
              ap (λ (q : List ℕ). q ++ (joined (map body_of r) ++ z)) (with_take (k * 14) 14 (i * 14) l s y h ly e se)
              ∙ append_assoc (take (k * 14) l) y (joined (map body_of r) ++ z)
              ∙ ap (λ (q : List ℕ). take (k * 14) l ++ q) (sym (append_assoc y (joined (map body_of r)) z))
              ∙ ap (λ (q : List ℕ). take (k * 14) l ++ (q ++ z)) (sym (joined_cons y (map body_of r)))
              ∙ ap (λ (q : List (List ℕ)). take (k * 14) l ++ (joined (map body_of q) ++ z)) (sym (keep_left (owned_by x) rs j lt ∙ ap (λ (w : Bool). cons_if w (get_or rs j []) r) own))
              ∙ inv.bytes;
          count = count_more (owned_by x) rs j k i _ lt (ie ∙ ap (λ (w : Bool). cond w (k + 1) k) (sym own)) inv.count;
        }
    go false own se ie =
        record {
          within = omega arith;
          same = ap (λ (q : List ℕ). length q) se ∙ inv.same;
          after = ap (λ (q : List ℕ). drop (i * 14) q) se ∙ ap (λ (q : ℕ). drop (q * 14) l) ie ∙ inv.after ∙ ap (λ (q : ℕ). drop (q * 14) o) (sym ie);
          bytes =
              ap (λ (q : List ℕ). take (i * 14) q ++ (joined (map body_of r) ++ z)) se
              ∙ ap (λ (q : ℕ). take (q * 14) l ++ (joined (map body_of r) ++ z)) ie
              ∙ ap (λ (q : List (List ℕ)). take (k * 14) l ++ (joined (map body_of q) ++ z)) (sym (keep_left (owned_by x) rs j lt ∙ ap (λ (w : Bool). cons_if w (get_or rs j []) r) own))
              ∙ inv.bytes;
          count = count_more (owned_by x) rs j k i _ lt (ie ∙ ap (λ (w : Bool). cond w (k + 1) k) (sym own)) inv.count;
        }

pub log_all : (x n : ℕ) (rs : List (List ℕ)) (o l : List ℕ) (k j : ℕ) → Logging x n rs o l k j → length rs ≤ j
    → (l ≡ take (n * 14) o ++ (joined (map body_of (keep (owned_by x) rs)) ++ drop ((n + length (keep (owned_by x) rs)) * 14) o))
    × (k ≡ n + length (keep (owned_by x) rs))
unfolding joined
log_all x n rs o l k j inv q =
    let e : k ≡ n + length (keep (owned_by x) rs) = count_all (owned_by x) rs j k _ q inv.count in (
      sym (take-append-drop (k * 14) l) ∙ ap (λ (y : List ℕ). take (k * 14) l ++ y) (inv.after ∙ ap (λ (i : ℕ). drop (i * 14) o) e)
          ∙ ap (λ (y : List (List ℕ)). take (k * 14) l ++ (joined (map body_of y) ++ drop ((n + length (keep (owned_by x) rs)) * 14) o)) (sym (keep_none_left (owned_by x) rs j q))
          ∙ inv.bytes,
      e,
    )

-- `squeeze`: j rows are passed, of which k stay
pub record Squeezing (b : List ℕ → Bool) (m : ℕ) (o t : List ℕ) (k j : ℕ) : Type 0 where
  pub within : j ≤ m
  pub less : k ≤ j
  pub same : length t ≡ length o
  pub after : drop (j * 19) t ≡ drop (j * 19) o
  pub bytes : take (k * 19) t ++ joined (keep b (rows 19 (m - j) o j)) ≡ joined (keep b (rows 19 m o 0))
  pub count : k + length (keep b (rows 19 (m - j) o j)) ≡ length (keep b (rows 19 m o 0))

pub squeeze_more : (b : List ℕ → Bool) (m : ℕ) (o t : List ℕ) (k j : ℕ) (s : List ℕ) (i : ℕ) → Squeezing b m o t k j → m * 19 ≤ length o → j < m
    → s ≡ cond (b (row_at 19 t j)) (with_part (k * 19) 19 t (row_at 19 t j)) t → i ≡ cond (b (row_at 19 t j)) (k + 1) k
    → Squeezing b m o s i (j + 1)
squeeze_more b m o t k j s i inv fit lt se₀ ie₀ =
    go (b y) refl
    (se₀ ∙ ap (λ (q : List ℕ). cond (b q) (with_part (k * 19) 19 t q) t) same_row)
    (ie₀ ∙ ap (λ (q : List ℕ). cond (b q) (k + 1) k) same_row)
  where
    y : List ℕ
    y = row_at 19 o j

    r : List (List ℕ)
    r = keep b (rows 19 (m - (j + 1)) o (j + 1))

    same_row : row_at 19 t j ≡ y
    same_row = ap (λ (q : List ℕ). take 19 q) inv.after

    next : (j + 1) * 19 ≡ j * 19 + 19
    next = omega arith

    go : (w : Bool) → b y ≡ w → s ≡ cond w (with_part (k * 19) 19 t y) t → i ≡ cond w (k + 1) k → Squeezing b m o s i (j + 1)
    go true b_is se ie =
        let h : k * 19 + 19 ≤ length t = omega arith in
        let ly : length y ≡ 19 = row_width 19 o j (omega arith) in
        let e : i * 19 ≡ k * 19 + 19 = omega arith in
        let f : (j + 1) * 19 ≡ i * 19 + (j - k) * 19 = omega arith in
        record {
          within = omega arith;
          less = omega arith;
          same = with_length (k * 19) 19 (i * 19) t s y h ly e se ∙ inv.same;
          after =
              after_more (i * 19) ((j - k) * 19) ((j + 1) * 19) s t f (with_drop (k * 19) 19 (i * 19) t s y h ly e se)
              ∙ after_more (j * 19) 19 ((j + 1) * 19) t o next inv.after;
          bytes =
              ap (λ (q : List ℕ). q ++ joined r) (with_take (k * 19) 19 (i * 19) t s y h ly e se)
              ∙ append_assoc (take (k * 19) t) y (joined r)
              ∙ ap (λ (q : List ℕ). take (k * 19) t ++ q) (sym (joined_cons y r))
              ∙ ap (λ (q : List (List ℕ)). take (k * 19) t ++ joined q) (sym (keep_rows_more b 19 m o j lt ∙ ap (λ (w : Bool). cons_if w y r) b_is))
              ∙ inv.bytes;
          count = count_turn b 19 m o j k i _ lt (ie ∙ ap (λ (w : Bool). cond w (k + 1) k) (sym b_is)) inv.count;
        }
    go false b_is se ie =
        record {
          within = omega arith;
          less = omega arith;
          same = ap (λ (q : List ℕ). length q) se ∙ inv.same;
          after = ap (λ (q : List ℕ). drop ((j + 1) * 19) q) se ∙ after_more (j * 19) 19 ((j + 1) * 19) t o next inv.after;
          bytes =
              ap (λ (q : List ℕ). take (i * 19) q ++ joined r) se
              ∙ ap (λ (q : ℕ). take (q * 19) t ++ joined r) ie
              ∙ ap (λ (q : List (List ℕ)). take (k * 19) t ++ joined q) (sym (keep_rows_more b 19 m o j lt ∙ ap (λ (w : Bool). cons_if w y r) b_is))
              ∙ inv.bytes;
          count = count_turn b 19 m o j k i _ lt (ie ∙ ap (λ (w : Bool). cond w (k + 1) k) (sym b_is)) inv.count;
        }

-- the first rows all stay, and the table is as it was
pub squeeze_start : (b : List ℕ → Bool) (m : ℕ) (o : List ℕ) (a : ℕ) → keep b (rows 19 a o 0) ≡ rows 19 a o 0 → a ≤ m → Squeezing b m o o a a
squeeze_start b m o a e h =
    let all : keep b (rows 19 m o 0) ≡ rows 19 a o 0 ++ keep b (rows 19 (m - a) o a) = keep_rows_split b m o a h ∙ ap (λ (q : List (List ℕ)). q ++ keep b (rows 19 (m - a) o a)) e in
    record {
      within = h;
      less = omega arith;
      same = refl;
      after = refl;
      bytes =
          ap (λ (q : List ℕ). q ++ joined (keep b (rows 19 (m - a) o a))) (sym (joined_all 19 a o))
          ∙ sym (ap (λ (q : List (List ℕ)). joined q) all ∙ joined_append (rows 19 a o 0) (keep b (rows 19 (m - a) o a)));
      count =
          ap (λ (q : ℕ). q + length (keep b (rows 19 (m - a) o a))) (sym (length_rows 19 a o 0))
          ∙ sym (ap (λ (q : List (List ℕ)). length q) all ∙ length-append (rows 19 a o 0) (keep b (rows 19 (m - a) o a)));
    }

pub squeeze_all : (b : List ℕ → Bool) (m : ℕ) (o t : List ℕ) (k j : ℕ) → Squeezing b m o t k j → m ≤ j
    → (take (k * 19) t ≡ joined (keep b (rows 19 m o 0))) × (k ≡ length (keep b (rows 19 m o 0))) × (k ≤ m) × (drop (m * 19) t ≡ drop (m * 19) o)
unfolding joined
squeeze_all b m o t k j inv q =
    let e : j ≡ m = omega (arith, inv.within) in (
      sym (append-nil (take (k * 19) t)) ∙ ap (λ (y : List (List ℕ)). take (k * 19) t ++ joined y) (sym (keep_rows_end b 19 m o j q)) ∙ inv.bytes,
      count_end b 19 m o j k _ q inv.count,
      omega (arith, inv.less),
      rw e at inv.after,
    )

-- `close_up`: the first k rows, and behind them those that were moved
pub moved_up : (to m k : ℕ) (l t : List ℕ) → m * 19 ≤ length l → to ≤ m → k ≤ to → t ≡ with_part (k * 19) ((m - to) * 19) l (part (to * 19) ((m - to) * 19) l)
    → take ((k + (m - to)) * 19) t ≡ take (k * 19) l ++ joined (rows 19 (m - to) l to)
moved_up to m k l t h p q e =
    with_take (k * 19) ((m - to) * 19) ((k + (m - to)) * 19) l t (part (to * 19) ((m - to) * 19) l) (omega arith) (length_part (to * 19) ((m - to) * 19) l (omega arith)) (omega arith) e
    ∙ ap (λ (x : List ℕ). take (k * 19) l ++ x) (sym (joined_rows 19 (m - to) l to))

-- `delete`: the rows before row a that stay, and behind them all those from it on, are the rows that stay
pub closed_up : (b : List ℕ → Bool) (a m : ℕ) (o t s : List ℕ) (k n : ℕ) → keep b (rows 19 (m - a) o a) ≡ rows 19 (m - a) o a → a ≤ m
    → take (k * 19) t ≡ joined (keep b (rows 19 a o 0)) → k ≡ length (keep b (rows 19 a o 0)) → drop (a * 19) t ≡ drop (a * 19) o
    → take (n * 19) s ≡ take (k * 19) t ++ joined (rows 19 (m - a) t a) → n ≡ k + (m - a)
    → (take (n * 19) s ≡ joined (keep b (rows 19 m o 0))) × (n ≡ length (keep b (rows 19 m o 0)))
closed_up b a m o t s k n h le te ke de se ne =
    let l : List (List ℕ) = keep b (rows 19 a o 0) in
    let r : List (List ℕ) = rows 19 (m - a) o a in
    let all : keep b (rows 19 m o 0) ≡ l ++ r = keep_rows_split b m o a le ∙ ap (λ (q : List (List ℕ)). l ++ q) h in
    let re : joined (rows 19 (m - a) t a) ≡ joined r = joined_rows 19 (m - a) t a ∙ ap (λ (q : List ℕ). take ((m - a) * 19) q) de ∙ sym (joined_rows 19 (m - a) o a) in (
      se ∙ ap (λ (q : List ℕ). q ++ joined (rows 19 (m - a) t a)) te ∙ ap (λ (q : List ℕ). joined l ++ q) re
          ∙ sym (ap (λ (q : List (List ℕ)). joined q) all ∙ joined_append l r),
      ne ∙ ap (λ (q : ℕ). q + (m - a)) ke ∙ ap (λ (q : ℕ). length l + q) (sym (length_rows 19 (m - a) o a))
          ∙ sym (ap (λ (q : List (List ℕ)). length q) all ∙ length-append l r),
    )

-- rows at the front, and zeros from there on
pub cleared : (w size k : ℕ) (rs : List (List ℕ)) (o t s : List ℕ) → length o ≡ size * w → length t ≡ length o → k ≡ length rs → take (k * w) t ≡ joined rs
    → s ≡ take (k * w) t ++ replicate (length t - k * w) 0 → s ≡ table w size rs
unfolding table
cleared w size k rs o t s lo lt ke te se =
    let e : length t - k * w ≡ (size - length rs) * w =
    ap (λ (q : ℕ). q - k * w) (lt ∙ lo) ∙ ap (λ (q : ℕ). size * w - q * w) ke ∙ sym (sub_mul size (length rs) w) in
    se ∙ ap (λ (q : List ℕ). q ++ replicate (length t - k * w) 0) te ∙ ap (λ (q : ℕ). joined rs ++ replicate q 0) e

-- `shift`
pub shifted : (n size d : ℕ) (o t s : List ℕ) → length o ≡ size * 14 → n ≤ size → d ≤ n → length t ≡ length o
    → t ≡ with_part 0 ((n - d) * 14) o (part (d * 14) ((n - d) * 14) o)
    → s ≡ take ((n - d) * 14) t ++ replicate (length t - (n - d) * 14) 0 → s ≡ table 14 size (drop d (rows 14 n o 0))
shifted n size d o t s lo le ld lt te se =
    let k : ℕ = (n - d) * 14 in
    let h : 0 + k ≤ length o = omega arith in
    let g : k ≤ length (drop (d * 14) o) = rw (length-drop (d * 14) o) (omega arith) in
    let z : 0 + d ≡ d = omega arith in
    let e : k ≡ 0 + k = omega arith in
    let rs : drop d (rows 14 n o 0) ≡ rows 14 (n - d) o d = drop_rows 14 n d o 0 ld ∙ ap (λ (q : ℕ). rows 14 (n - d) o q) z in
    cleared 14 size (n - d) (drop d (rows 14 n o 0)) o t s lo lt
    (sym (ap (λ (q : List (List ℕ)). length q) rs ∙ length_rows 14 (n - d) o d))
    (with_take 0 k k o t (part (d * 14) k o) h (length-take-le k (drop (d * 14) o) g) e te ∙ sym (ap (λ (q : List (List ℕ)). joined q) rs ∙ joined_rows 14 (n - d) o d))
    se
