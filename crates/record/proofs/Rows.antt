-- Laws of rows: a turn of a loop over them, rows as bytes, their width, tables in canonical form.
use Prim.Native.Nat.{ℕ, zero, suc, ◌+◌, ◌*◌, ◌-◌, ◌≤◌, ◌<◌}
use native.Mathlib.Omega.{arith}
use native.Mathlib.Nat.{suc-mul, zero-mul, add-mul, one-mul, mul_comm, mul-sub, add_comm}
use mathlib.Core.Path.{◌≡◌, refl, sym, ap, ◌∙◌}
use mathlib.Core.Bool.{Bool, true, false, cond}
use mathlib.Core.List.{List, [], ◌∷◌, ◌++◌, append_assoc, map}
use lib.ListN.{length, take, drop, set, replicate, length-append, length-drop, length-set, length-replicate}
use lib.Seq.{take-add, drop-drop, take_at, drop_at, length-take-le}
use Rattle.record.specs.Part.{part}
use Rattle.record.specs.Rows.{row_at, rows, joined, table, cons_if, keep}
use Rattle.record.specs.Record.{body_of, owned_by, row_of, entered, numbered, number_rows}
use Rattle.word.specs.Word.{put}
use Rattle.word.proofs.Laws.{length_put}

module _ {A : Type 0} where
  pub keep_nil : (b : A → Bool) → keep b [] ≡ []
  unfolding keep
  keep_nil b = refl

  cons_if_length : (z : Bool) (x : A) (l : List A) → length (cons_if z x l) ≤ suc (length l)
  cons_if_length true x l = omega arith
  cons_if_length false x l = omega arith

  pub keep_length : (b : A → Bool) (l : List A) → length (keep b l) ≤ length l
  unfolding keep
  keep_length b [] = omega arith
  keep_length b (x ∷ l) = omega (arith, cons_if_length (b x) x (keep b l), keep_length b l)

-- rows from row i on, in a loop that counts i up to m
pub rows_more : (w m : ℕ) (t : List ℕ) (i : ℕ) → i < m → rows w (m - i) t i ≡ row_at w t i ∷ rows w (m - (i + 1)) t (i + 1)
unfolding rows
rows_more w m t i h = let e : m - i ≡ suc (m - (i + 1)) = omega arith in rw e

pub rows_end : (w m : ℕ) (t : List ℕ) (i : ℕ) → m ≤ i → rows w (m - i) t i ≡ []
unfolding rows
rows_end w m t i h = let e : m - i ≡ 0 = omega arith in rw e

pub rows_start : (w m : ℕ) (t : List ℕ) → rows w (m - 0) t 0 ≡ rows w m t 0
rows_start w m t = let e : m - 0 ≡ m = omega arith in rw e

pub length_rows : (w n : ℕ) (t : List ℕ) (i : ℕ) → length (rows w n t i) ≡ n
unfolding rows
length_rows w zero t i = refl
length_rows w (suc n) t i = ap suc (length_rows w n t (i + 1))

-- the kept ones of the rows from row i on
pub keep_rows_more : (b : List ℕ → Bool) (w m : ℕ) (t : List ℕ) (i : ℕ) → i < m
    → keep b (rows w (m - i) t i) ≡ cons_if (b (row_at w t i)) (row_at w t i) (keep b (rows w (m - (i + 1)) t (i + 1)))
unfolding keep
keep_rows_more b w m t i h = ap (λ (l : List (List ℕ)). keep b l) (rows_more w m t i h)

pub keep_rows_end : (b : List ℕ → Bool) (w m : ℕ) (t : List ℕ) (i : ℕ) → m ≤ i → keep b (rows w (m - i) t i) ≡ []
keep_rows_end b w m t i h = ap (λ (l : List (List ℕ)). keep b l) (rows_end w m t i h) ∙ keep_nil b

step_length : (z : Bool) (x : List ℕ) (l : List (List ℕ)) (n : ℕ) → n + length (cons_if z x l) ≡ cond z (n + 1) n + length l
step_length true x l n = omega arith
step_length false x l n = refl

pub count_turn : (b : List ℕ → Bool) (w m : ℕ) (t : List ℕ) (i n k s : ℕ) → i < m → k ≡ cond (b (row_at w t i)) (n + 1) n
    → n + length (keep b (rows w (m - i) t i)) ≡ s → k + length (keep b (rows w (m - (i + 1)) t (i + 1))) ≡ s
count_turn b w m t i n k s h q p =
    let l : List (List ℕ) = keep b (rows w (m - (i + 1)) t (i + 1)) in
    ap (λ (x : ℕ). x + length l) q ∙ sym (step_length (b (row_at w t i)) (row_at w t i) l n)
    ∙ ap (λ (x : List (List ℕ)). n + length x) (sym (keep_rows_more b w m t i h)) ∙ p

pub count_end : (b : List ℕ → Bool) (w m : ℕ) (t : List ℕ) (i n s : ℕ) → m ≤ i
    → n + length (keep b (rows w (m - i) t i)) ≡ s → n ≡ s
count_end b w m t i n s h p = omega (arith, ap (λ (l : List (List ℕ)). length l) (keep_rows_end b w m t i h))

-- rows as bytes
pub joined_cons : (r : List ℕ) (rs : List (List ℕ)) → joined (r ∷ rs) ≡ r ++ joined rs
unfolding joined
joined_cons r rs = refl

pub joined_rows : (w n : ℕ) (t : List ℕ) (i : ℕ) → joined (rows w n t i) ≡ part (i * w) (n * w) t
unfolding rows joined
joined_rows w zero t i = ap (λ (k : ℕ). take k (drop (i * w) t)) (sym (zero-mul w))
joined_rows w (suc n) t i =
    ap (λ (l : List ℕ). row_at w t i ++ l) (joined_rows w n t (i + 1))
    ∙ ap (λ (k : ℕ). row_at w t i ++ part k (n * w) t) (add-mul i 1 w ∙ ap (λ (k : ℕ). i * w + k) (one-mul w))
    ∙ ap (λ (l : List ℕ). row_at w t i ++ take (n * w) l) (sym (drop-drop w (i * w) t))
    ∙ sym (take-add w (n * w) (drop (i * w) t))
    ∙ ap (λ (k : ℕ). part (i * w) k t) (add_comm w (n * w) ∙ sym (suc-mul n w))

pub joined_all : (w n : ℕ) (t : List ℕ) → joined (rows w n t 0) ≡ take (n * w) t
joined_all w n t = joined_rows w n t 0 ∙ ap (λ (k : ℕ). part k (n * w) t) (zero-mul w)

-- rows without the first of them
pub drop_rows : (w n d : ℕ) (t : List ℕ) (i : ℕ) → d ≤ n → drop d (rows w n t i) ≡ rows w (n - d) t (i + d)
unfolding rows
drop_rows w n zero t i h =
    let e : n - 0 ≡ n = omega arith in
    let f : i + 0 ≡ i = omega arith in
    rw (e, f)
drop_rows w zero (suc d) t i h = absurd (omega arith)
drop_rows w (suc n) (suc d) t i h =
    let e : suc n - suc d ≡ n - d = omega arith in
    let f : i + suc d ≡ i + 1 + d = omega arith in
    let g : d ≤ n = omega arith in
    rw (e, f) (drop_rows w n d t (i + 1) g)

pub sub_mul : (m n k : ℕ) → (m - n) * k ≡ m * k - n * k
sub_mul m n k = mul_comm (m - n) k ∙ mul-sub k m n ∙ ap (λ (q : ℕ). q - k * n) (mul_comm k m) ∙ ap (λ (q : ℕ). m * k - q) (mul_comm k n)

-- a row within the table has its width
pub row_width : (w : ℕ) (t : List ℕ) (j : ℕ) → j * w + w ≤ length t → length (row_at w t j) ≡ w
row_width w t j h =
    let g : w ≤ length (drop (j * w) t) = rw (length-drop (j * w) t) (omega arith) in
    length-take-le w (drop (j * w) t) g

-- every row has w bytes
pub data Wide (w : ℕ) : List (List ℕ) → Type 0 where
  none : Wide w []
  one : {r : List ℕ} {rs : List (List ℕ)} → length r ≡ w → Wide w rs → Wide w (r ∷ rs)

row_after : (i w : ℕ) → (i + 1) * w ≡ i * w + w
row_after i w = add-mul i 1 w ∙ ap (λ (k : ℕ). i * w + k) (one-mul w)

pub wide_rows : (w n : ℕ) (t : List ℕ) (i : ℕ) → i * w + n * w ≤ length t → Wide w (rows w n t i)
unfolding rows
wide_rows w zero t i h = none
wide_rows w (suc n) t i h =
    let e : suc n * w ≡ n * w + w = suc-mul n w in
    let f : (i + 1) * w ≡ i * w + w = row_after i w in
    one (row_width w t i (omega arith)) (wide_rows w n t (i + 1) (omega arith))

-- the rows of a table
pub wide_all : (w n : ℕ) (t : List ℕ) → n * w ≤ length t → Wide w (rows w n t 0)
wide_all w n t h = let z : 0 * w ≡ 0 = zero-mul w in wide_rows w n t 0 (omega arith)

wide_if : {w : ℕ} (z : Bool) (r : List ℕ) {rs : List (List ℕ)} → length r ≡ w → Wide w rs → Wide w (cons_if z r rs)
wide_if true r e h = one e h
wide_if false r e h = h

pub wide_keep : {w : ℕ} (b : List ℕ → Bool) {rs : List (List ℕ)} → Wide w rs → Wide w (keep b rs)
unfolding keep
wide_keep b none = none
wide_keep b (one {r} {rs} e h) = wide_if (b r) r e (wide_keep b h)

pub wide_drop : {w : ℕ} (d : ℕ) {rs : List (List ℕ)} → Wide w rs → Wide w (drop d rs)
wide_drop zero h = h
wide_drop (suc d) none = none
wide_drop (suc d) (one e h) = wide_drop d h

pub wide_append : {w : ℕ} {rs ss : List (List ℕ)} → Wide w rs → Wide w ss → Wide w (rs ++ ss)
wide_append none k = k
wide_append (one e h) k = one e (wide_append h k)

-- the records of online rows
pub wide_bodies : {rs : List (List ℕ)} → Wide 19 rs → Wide 14 (map body_of rs)
wide_bodies none = none
wide_bodies (one {r} {rs} e h) = one (length-take-le 14 r (omega arith)) (wide_bodies h)

pub length_numbered : (r : List ℕ) (k : ℕ) → length (numbered r k) ≡ length r
unfolding numbered
length_numbered r k = length_put 4 (set r 14 0) 15 k ∙ length-set r 14 0

wide_numbered : (z : Bool) (r : List ℕ) {xs ys : List (List ℕ)} (k : ℕ) → length r ≡ 19 → Wide 19 xs → Wide 19 ys → Wide 19 (cond z (numbered r k ∷ xs) (r ∷ ys))
wide_numbered true r k e h i = one (length_numbered r k ∙ e) h
wide_numbered false r k e h i = one e i

pub wide_number : {rs : List (List ℕ)} (x k : ℕ) → Wide 19 rs → Wide 19 (number_rows x k rs)
unfolding number_rows
wide_number x k none = none
wide_number x k (one {r} {rs} e h) = wide_numbered (owned_by x r) r k e (wide_number x (k + 1) h) (wide_number x k h)

length_numbered_rows : (z : Bool) (r : List ℕ) (n k : ℕ) (xs ys : List (List ℕ)) → length xs ≡ n → length ys ≡ n → length (cond z (numbered r k ∷ xs) (r ∷ ys)) ≡ suc n
length_numbered_rows true r n k xs ys e f = ap suc e
length_numbered_rows false r n k xs ys e f = ap suc f

pub length_number : (x k : ℕ) (rs : List (List ℕ)) → length (number_rows x k rs) ≡ length rs
unfolding number_rows
length_number x k [] = refl
length_number x k (r ∷ rs) = length_numbered_rows (owned_by x r) r (length rs) k _ _ (length_number x (k + 1) rs) (length_number x k rs)

-- so many bytes in all
pub length_joined : {w : ℕ} {rs : List (List ℕ)} → Wide w rs → length (joined rs) ≡ length rs * w
unfolding joined
length_joined {w} none = sym (zero-mul w)
length_joined {w} (one {r} {rs} e h) =
    length-append r (joined rs) ∙ ap (λ (n : ℕ). n + length (joined rs)) e ∙ ap (λ (n : ℕ). w + n) (length_joined h)
    ∙ add_comm w (length rs * w) ∙ sym (suc-mul (length rs) w)

pub joined_append : (rs ss : List (List ℕ)) → joined (rs ++ ss) ≡ joined rs ++ joined ss
unfolding joined
joined_append [] ss = refl
joined_append (r ∷ rs) ss = ap (λ (l : List ℕ). r ++ l) (joined_append rs ss) ∙ sym (append_assoc r (joined rs) (joined ss))

-- rows that were joined are read again
rows_from : {w : ℕ} {rs : List (List ℕ)} (f z : List ℕ) (i : ℕ) → Wide w rs → length f ≡ i * w → rows w (length rs) (f ++ (joined rs ++ z)) i ≡ rs
unfolding rows joined
rows_from f z i none e = refl
rows_from {w} f z i (one {r} {rs} le h) e =
    let a : f ++ ((r ++ joined rs) ++ z) ≡ f ++ (r ++ (joined rs ++ z)) = ap (λ (l : List ℕ). f ++ l) (append_assoc r (joined rs) z) in
    let b : f ++ ((r ++ joined rs) ++ z) ≡ f ++ r ++ (joined rs ++ z) = a ∙ sym (append_assoc f r (joined rs ++ z)) in
    let n : length (f ++ r) ≡ (i + 1) * w = length-append f r ∙ ap (λ (k : ℕ). k + length r) e ∙ ap (λ (k : ℕ). i * w + k) le ∙ sym (row_after i w) in
    let row : row_at w (f ++ ((r ++ joined rs) ++ z)) i ≡ r =
    ap (λ (l : List ℕ). take w (drop (i * w) l)) a ∙ ap (λ (l : List ℕ). take w l) (drop_at f (r ++ (joined rs ++ z)) (i * w) e) ∙ take_at r (joined rs ++ z) w le in
    let rest : rows w (length rs) (f ++ ((r ++ joined rs) ++ z)) (i + 1) ≡ rs =
    ap (λ (l : List ℕ). rows w (length rs) l (i + 1)) b ∙ rows_from (f ++ r) z (i + 1) h n in
    ap (λ (x : List ℕ). x ∷ rows w (length rs) (f ++ ((r ++ joined rs) ++ z)) (i + 1)) row ∙ ap (λ (l : List (List ℕ)). r ∷ l) rest

pub rows_joined : {w : ℕ} {rs : List (List ℕ)} (z : List ℕ) → Wide w rs → rows w (length rs) (joined rs ++ z) 0 ≡ rs
rows_joined {w} z h = rows_from [] z 0 h (sym (zero-mul w))

-- a table of such rows: its length, its rows, its zeros
pub length_table : {w : ℕ} (size : ℕ) {rs : List (List ℕ)} → Wide w rs → length rs ≤ size → length (table w size rs) ≡ size * w
unfolding table
length_table {w} size {rs} h le =
    let z : List ℕ = replicate ((size - length rs) * w) 0 in
    let e : length (joined rs ++ z) ≡ length rs * w + (size - length rs) * w =
    length-append (joined rs) z ∙ ap (λ (n : ℕ). n + length z) (length_joined h)
    ∙ ap (λ (n : ℕ). length rs * w + n) (length-replicate {A = ℕ} ((size - length rs) * w) 0) in
    let f : length rs + (size - length rs) ≡ size = omega arith in
    e ∙ sym (add-mul (length rs) (size - length rs) w) ∙ ap (λ (n : ℕ). n * w) f

pub rows_table : {w : ℕ} (size : ℕ) {rs : List (List ℕ)} → Wide w rs → rows w (length rs) (table w size rs) 0 ≡ rs
unfolding table
rows_table {w} size {rs} h = rows_joined (replicate ((size - length rs) * w) 0) h

pub zeros_table : {w : ℕ} (size : ℕ) {rs : List (List ℕ)} → Wide w rs → drop (length rs * w) (table w size rs) ≡ replicate ((size - length rs) * w) 0
unfolding table
zeros_table {w} size {rs} h = drop_at (joined rs) (replicate ((size - length rs) * w) 0) (length rs * w) (length_joined h)

-- a table of those kept of the first n rows
pub length_kept_table : (b : List ℕ → Bool) (n size : ℕ) (t : List ℕ) → n ≤ size → length t ≡ size * 19 → length (table 19 size (keep b (rows 19 n t 0))) ≡ size * 19
length_kept_table b n size t h e =
    length_table size (wide_keep b (wide_all 19 n t (omega arith))) (omega (arith, keep_length b (rows 19 n t 0), length_rows 19 n t 0))

-- the rows that `append` and `enter` write have their width
pub length_row_of : (page offset w kind v owner : ℕ) → length (row_of page offset w kind v owner) ≡ 19
unfolding row_of
length_row_of page offset w kind v owner =
    let z : List ℕ = put 2 (put 2 (replicate 19 0) 0 page) 2 offset in
    let a : length z ≡ 19 = length_put 2 (put 2 (replicate 19 0) 0 page) 2 offset ∙ length_put 2 (replicate 19 0) 0 page ∙ length-replicate {A = ℕ} 19 0 in
    length-set (put 8 (set (set z 4 w) 5 kind) 6 v) 14 owner ∙ length_put 8 (set (set z 4 w) 5 kind) 6 v ∙ length-set (set z 4 w) 5 kind ∙ length-set z 4 w ∙ a

pub length_entered : (b : List ℕ) (k : ℕ) → length b ≡ 14 → length (entered b k) ≡ 19
unfolding entered
length_entered b k e = length_put 4 (b ++ replicate 5 0) 15 k ∙ length-append b (replicate 5 0) ∙ ap (λ (n : ℕ). n + 5) e
