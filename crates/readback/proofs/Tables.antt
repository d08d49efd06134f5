-- What the bytes of the tables area say, as lists: count of online rows, use order, live bytes and page entries, and what they say after each kind of writing.
-- Every step writes this area by these few writings only, so what the lost areas say after a step (Lost.antt) is read off here.
use Prim.Native.Nat.{ℕ, zero, suc, ◌+◌, ◌-◌, ◌≤◌, ◌<◌}
use native.Mathlib.Omega.{arith}
use mathlib.Core.Path.{◌≡◌, refl, sym, ap, ◌∙◌}
use mathlib.Core.Logic.{◌⊎◌, inl, inr}
use mathlib.Core.Bool.{Bool, true, cond}
use mathlib.Core.List.{List, [], ◌∷◌, ◌++◌}
use lib.ListN.{length, get_or, take, drop, set, replicate, length-append, length-set, length-replicate}
use lib.Seq.{take_at, take_all, take-append-add, drop_at, drop-drop, take-set-le, drop-set-lt, get_or-set_same, length-take-le}
use lib.Dec.{ltb}
use borrow.Author.Tests.{ltb-true}
use Rattle.word.specs.Word.{num, put}
use Rattle.word.proofs.Laws.{length_put}
use Rattle.word.proofs.Puts.{num_put, drop_put, take_put}
use Rattle.word.proofs.Tests.{and_both}
use Rattle.record.specs.Part.{part, with_part}
use Rattle.record.specs.Rows.{any}
use Rattle.record.specs.Record.{page_of, on_page}
use Rattle.record.proofs.Laws.{get_d_part, num_front, drop_zeros}
use Rattle.record.proofs.Parts.{length_with, drop_with, part_with, part_set, part_front, part_inner}
use Rattle.rules.specs.Lent.{live_at, entry_at, with_order, with_entries, with_count}
use Rattle.rules.specs.Sound.{every, zeros}
use Rattle.rules.specs.Steps.{judged_anew, evicted_all}
use Rattle.seats.proofs.Loops.{judged_entries, evicted_entries}
use Rattle.readback.proofs.Marks.{num_zeros}

-- count of online rows, use order, live bytes and page entries that are read in tables t
pub record Says (frames pages : ℕ) (t : List ℕ) (count : ℕ) (order lives entries : List ℕ) : Type 0 where
  pub long : length t ≡ 35 + frames + pages
  pub count_read : num 2 t 0 ≡ count
  pub used : get_or t 2 0 ≡ length order
  pub fits : length order ≤ frames
  pub order_read : part 35 (length order) t ≡ order
  pub order_zero : zeros (part (35 + length order) (frames - length order) t) ≡ true
  pub lives_read : part 3 32 t ≡ lives
  pub entries_read : part (35 + frames) pages t ≡ entries

-- u is t with no byte changed but the k bytes from a on
record Within (a k : ℕ) (t u : List ℕ) : Type 0 where
  long : length u ≡ length t
  before : take a u ≡ take a t
  behind : drop (a + k) u ≡ drop (a + k) t

within_set : (t : List ℕ) (i v : ℕ) → Within i 1 t (set t i v)
within_set t i v = record { long = length-set t i v; before = take-set-le i t i v (omega arith); behind = drop-set-lt (i + 1) t i v (omega arith) }

within_put : (t : List ℕ) (m : ℕ) → Within 0 2 t (put 2 t 0 m)
within_put t m = record { long = length_put 2 t 0 m; before = take_put 2 t 0 m 0 (omega arith); behind = drop_put 2 t 0 m 2 (omega arith) }

within_with : (a k : ℕ) (t ys : List ℕ) → a + k ≤ length t → length ys ≡ k → Within a k t (with_part a k t ys)
within_with a k t ys h q =
    let g : a ≤ length t = omega arith in
    record {
      long = length_with a k t ys h q;
      before = take_at (take a t) (ys ++ drop k (drop a t)) a (length-take-le a t g);
      behind = drop_with a k t ys h q;
    }

-- a part outside those bytes is as it was
part_outside : {a k : ℕ} {t u : List ℕ} → Within a k t u → (b n : ℕ) → (b + n ≤ a) ⊎ (a + k ≤ b) → part b n u ≡ part b n t
part_outside {a} {k} {t} {u} w b n (inl h) = sym (part_front a b n u h) ∙ ap (λ (x : List ℕ). part b n x) w.before ∙ part_front a b n t h
part_outside {a} {k} {t} {u} w b n (inr h) =
    let e : a + k + (b - (a + k)) ≡ b = omega arith in
    ap (λ (i : ℕ). part i n u) (sym e)
    ∙ ap (λ (x : List ℕ). take n x) (sym (drop-drop (b - (a + k)) (a + k) u) ∙ ap (λ (x : List ℕ). drop (b - (a + k)) x) w.behind ∙ drop-drop (b - (a + k)) (a + k) t)
    ∙ ap (λ (i : ℕ). part i n t) e

-- so are the count and the length of the order
count_outside : {a k : ℕ} {t u : List ℕ} → Within a k t u → (2 ≤ a) ⊎ (a + k ≤ 0) → num 2 u 0 ≡ num 2 t 0
count_outside {a} {k} {t} {u} w h =
    sym (num_front 2 0 2 u (omega arith)) ∙ ap (λ (x : List ℕ). num 2 x 0) (part_outside w 0 2 h) ∙ num_front 2 0 2 t (omega arith)

used_outside : {a k : ℕ} {t u : List ℕ} → Within a k t u → (3 ≤ a) ⊎ (a + k ≤ 2) → get_or u 2 0 ≡ get_or t 2 0
used_outside {a} {k} {t} {u} w h =
    sym (get_d_part 0 2 1 u (omega arith)) ∙ ap (λ (x : List ℕ). get_or x 0 0) (part_outside w 2 1 h) ∙ get_d_part 0 2 1 t (omega arith)

-- zero bytes
pub zeros_replicate : (n : ℕ) → zeros (replicate n 0) ≡ true
unfolding zeros every
zeros_replicate zero = refl
zeros_replicate (suc n) = zeros_replicate n

take_replicate : (k n : ℕ) → k ≤ n → ◌≡◌ {A = List ℕ} (take k (replicate n 0)) (replicate k 0)
take_replicate zero n h = refl
take_replicate (suc k) zero h = absurd (omega arith)
take_replicate (suc k) (suc n) h = ap (λ (l : List ℕ). 0 ∷ l) (take_replicate k n (omega arith))

part_replicate : (a k n : ℕ) → a + k ≤ n → part a k (replicate n 0) ≡ replicate k 0
part_replicate a k n h =
    ap (λ (l : List ℕ). take k l) (drop_zeros n a) ∙ take_replicate k (n - a) (omega arith)

-- tables of zeros: no online row, no frame in use, no number live, every page absent
pub says_none : (frames pages : ℕ) → Says frames pages (replicate (35 + frames + pages) 0) 0 [] (replicate 32 0) (replicate pages 0)
says_none frames pages =
    record {
      long = length-replicate {A = ℕ} (35 + frames + pages) 0;
      count_read = num_zeros 2 (35 + frames + pages) 0;
      used = sym (get_d_part 0 2 1 (replicate (35 + frames + pages) 0) (omega arith)) ∙ ap (λ (x : List ℕ). get_or x 0 0) (part_replicate 2 1 (35 + frames + pages) (omega arith));
      fits = omega arith;
      order_read = refl;
      order_zero =
          ap (λ (l : List ℕ). zeros l) (part_replicate (35 + 0) (frames - 0) (35 + frames + pages) (omega arith)) ∙ zeros_replicate (frames - 0);
      lives_read = part_replicate 3 32 (35 + frames + pages) (omega arith);
      entries_read = part_replicate (35 + frames) pages (35 + frames + pages) (omega arith);
    }

-- an order with zeros behind it, as it is written
module _ (frames : ℕ) (o : List ℕ) (h : length o ≤ frames) where
  filled : List ℕ
  filled = o ++ replicate (frames - length o) 0

  filled_is : take frames (o ++ replicate frames 0) ≡ filled
  unfolding filled
  filled_is =
      let e : frames ≡ length o + (frames - length o) = omega arith in
      ap (λ (i : ℕ). take i (o ++ replicate frames 0)) e ∙ take-append-add o (replicate frames 0) (frames - length o)
      ∙ ap (λ (l : List ℕ). o ++ l) (take_replicate (frames - length o) frames (omega arith))

  filled_length : length filled ≡ frames
  unfolding filled
  filled_length =
      let z : List ℕ = replicate (frames - length o) 0 in
      let e : length (o ++ z) ≡ length o + length z = length-append o z in
      let f : length z ≡ frames - length o = length-replicate {A = ℕ} (frames - length o) 0 in
      omega arith

  filled_order : part 0 (length o) filled ≡ o
  unfolding filled
  filled_order = take_at o (replicate (frames - length o) 0) (length o) refl

  filled_zero : part (length o) (frames - length o) filled ≡ replicate (frames - length o) 0
  unfolding filled
  filled_zero =
      let z : List ℕ = replicate (frames - length o) 0 in
      let f : length z ≡ frames - length o = length-replicate {A = ℕ} (frames - length o) 0 in
      ap (λ (l : List ℕ). take (frames - length o) l) (drop_at o z (length o) refl) ∙ take_all (frames - length o) z (omega arith)

module _ {frames pages : ℕ} {t : List ℕ} {count : ℕ} {order lives entries : List ℕ} (h : Says frames pages t count order lives entries) where
  -- an entry and a live byte as they are read
  pub entry_says : (p : ℕ) → p < pages → get_or t (entry_at frames p) 0 ≡ get_or entries p 0
  entry_says p k = sym (get_d_part p (35 + frames) pages t k) ∙ ap (λ (l : List ℕ). get_or l p 0) h.entries_read

  pub live_says : (x : ℕ) → 1 ≤ x → x ≤ 32 → get_or t (live_at x) 0 ≡ get_or lives (x - 1) 0
  live_says x k m =
      let e : 2 + x ≡ 3 + (x - 1) = omega arith in
      ap (λ (i : ℕ). get_or t i 0) e ∙ sym (get_d_part (x - 1) 3 32 t (omega arith)) ∙ ap (λ (l : List ℕ). get_or l (x - 1) 0) h.lives_read

  zero_outside : {a k : ℕ} {u : List ℕ} → Within a k t u → (35 + frames ≤ a) ⊎ (a + k ≤ 35) → zeros (part (35 + length order) (frames - length order) u) ≡ true
  zero_outside {a} {k} {u} w q = ap (λ (l : List ℕ). zeros l) (part_outside w (35 + length order) (frames - length order) (go q)) ∙ h.order_zero
    where
      go : (35 + frames ≤ a) ⊎ (a + k ≤ 35) → (35 + length order + (frames - length order) ≤ a) ⊎ (a + k ≤ 35 + length order)
      go (inl g) = inl (omega (arith, h.fits))
      go (inr g) = inr (omega arith)

  order_outside : {a k : ℕ} {u : List ℕ} → Within a k t u → (35 + frames ≤ a) ⊎ (a + k ≤ 35) → part 35 (length order) u ≡ order
  order_outside {a} {k} {u} w q = part_outside w 35 (length order) (go q) ∙ h.order_read
    where
      go : (35 + frames ≤ a) ⊎ (a + k ≤ 35) → (35 + length order ≤ a) ⊎ (a + k ≤ 35)
      go (inl g) = inl (omega (arith, h.fits))
      go (inr g) = inr g

  -- another count of online rows
  pub says_count : (m : ℕ) → m < 65536 → Says frames pages (with_count m t) m order lives entries
  says_count m k =
      let w : Within 0 2 t (put 2 t 0 m) = within_put t m in
      record {
        long = w.long ∙ h.long;
        count_read = num_put 2 t 0 m (omega (arith, h.long)) k;
        used = used_outside w (inr (omega arith)) ∙ h.used;
        fits = h.fits;
        order_read = order_outside w (inr (omega arith));
        order_zero = zero_outside w (inr (omega arith));
        lives_read = part_outside w 3 32 (inr (omega arith)) ∙ h.lives_read;
        entries_read = part_outside w (35 + frames) pages (inr (omega arith)) ∙ h.entries_read;
      }

  -- another live byte
  pub says_live : (x b : ℕ) → 1 ≤ x → x ≤ 32 → Says frames pages (set t (live_at x) b) count order (set lives (x - 1) b) entries
  says_live x b k m =
      let w : Within (2 + x) 1 t (set t (2 + x) b) = within_set t (2 + x) b in
      let e : 2 + x ≡ 3 + (x - 1) = omega arith in
      record {
        long = w.long ∙ h.long;
        count_read = count_outside w (inl (omega arith)) ∙ h.count_read;
        used = used_outside w (inl (omega arith)) ∙ h.used;
        fits = h.fits;
        order_read = order_outside w (inr (omega arith));
        order_zero = zero_outside w (inr (omega arith));
        lives_read =
            ap (λ (i : ℕ). part 3 32 (set t i b)) e ∙ part_set 3 32 t (x - 1) b (omega arith) ∙ ap (λ (l : List ℕ). set l (x - 1) b) h.lives_read;
        entries_read = part_outside w (35 + frames) pages (inr (omega arith)) ∙ h.entries_read;
      }

  -- another entry, or others: what is before the entries stays
  says_behind : {a k : ℕ} {u es : List ℕ} → Within a k t u → 35 + frames ≤ a → part (35 + frames) pages u ≡ es → Says frames pages u count order lives es
  says_behind w g e =
      record {
        long = w.long ∙ h.long;
        count_read = count_outside w (inl (omega arith)) ∙ h.count_read;
        used = used_outside w (inl (omega arith)) ∙ h.used;
        fits = h.fits;
        order_read = order_outside w (inl g);
        order_zero = zero_outside w (inl g);
        lives_read = part_outside w 3 32 (inl (omega arith)) ∙ h.lives_read;
        entries_read = e;
      }

  pub says_entry : (p e : ℕ) → p < pages → Says frames pages (set t (entry_at frames p) e) count order lives (set entries p e)
  says_entry p e k = says_behind (within_set t (35 + frames + p) e) (omega arith) (part_set (35 + frames) pages t p e k ∙ ap (λ (l : List ℕ). set l p e) h.entries_read)

  pub says_entries : (es : List ℕ) → length es ≡ pages → Says frames pages (with_entries frames pages es t) count order lives es
  says_entries es q =
      let g : 35 + frames + pages ≤ length t = omega (arith, h.long) in
      says_behind (within_with (35 + frames) pages t es g q) (omega arith) (part_with (35 + frames) pages t es (omega arith) q)

  -- another use order
  pub says_order : (o : List ℕ) → length o ≤ frames → Says frames pages (with_order frames o t) count o lives entries
  says_order o q =
      let ys : List ℕ = take frames (o ++ replicate frames 0) in
      let e : ys ≡ filled frames o q = filled_is frames o q in
      let n : length ys ≡ frames = ap (λ (l : List ℕ). length l) e ∙ filled_length frames o q in
      let g : 35 + frames ≤ length t = omega (arith, h.long) in
      let u : List ℕ = with_part 35 frames t ys in
      let w : Within 35 frames t u = within_with 35 frames t ys g n in
      let v : Within 2 1 u (set u 2 (length o)) = within_set u 2 (length o) in
      let m : part 35 frames (set u 2 (length o)) ≡ filled frames o q =
      part_outside v 35 frames (inr (omega arith)) ∙ part_with 35 frames t ys (omega arith) n ∙ e in
      record {
        long = v.long ∙ w.long ∙ h.long;
        count_read = count_outside v (inl (omega arith)) ∙ count_outside w (inl (omega arith)) ∙ h.count_read;
        used = get_or-set_same u 2 (length o) 0 (omega (arith, w.long));
        fits = q;
        order_read =
            sym (part_inner 35 frames 0 (length o) (set u 2 (length o)) (omega arith)) ∙ ap (λ (l : List ℕ). part 0 (length o) l) m ∙ filled_order frames o q;
        order_zero =
            ap (λ (l : List ℕ). zeros l)
            (sym (part_inner 35 frames (length o) (frames - length o) (set u 2 (length o)) (omega arith))
            ∙ ap (λ (l : List ℕ). part (length o) (frames - length o) l) m ∙ filled_zero frames o q)
            ∙ zeros_replicate (frames - length o);
        lives_read = part_outside v 3 32 (inr (omega arith)) ∙ part_outside w 3 32 (inl (omega arith)) ∙ h.lives_read;
        entries_read = part_outside v (35 + frames) pages (inr (omega arith)) ∙ part_outside w (35 + frames) pages (inr (omega arith)) ∙ h.entries_read;
      }

-- the page of each row is one of the store's
abbrev pub pages_below : ℕ → List (List ℕ) → Bool
pages_below pages rs = every (λ (r : List ℕ). ltb (page_of r) pages) rs

below_both : (pages : ℕ) (r : List ℕ) (rs : List (List ℕ)) → pages_below pages (r ∷ rs) ≡ true → (page_of r < pages) × (pages_below pages rs ≡ true)
unfolding every
below_both pages r rs e =
    let k = and_both (ltb (page_of r) pages) (pages_below pages rs) e in
    (ltb-true (page_of r) pages k.0, k.1)

-- pages judged anew by the rows that remain
pub says_judged : {frames pages count : ℕ} (remain rs : List (List ℕ)) (t order lives entries : List ℕ) → pages_below pages rs ≡ true → Says frames pages t count order lives entries
    → Says frames pages (judged_anew frames remain rs t) count order lives (judged_entries remain rs entries)
unfolding judged_anew judged_entries
says_judged remain [] t order lives entries b h = h
says_judged {frames} {pages} remain (r ∷ rs) t order lives entries b h =
    let e : ℕ = cond (any (on_page (page_of r)) remain) 1 0 in
    let k = below_both pages r rs b in
    says_judged remain rs (set t (entry_at frames (page_of r)) e) order lives (set entries (page_of r) e) k.1 (says_entry h (page_of r) e k.0)

-- pages of rows that enter become evicted
pub says_evicted : {frames pages count : ℕ} (rs : List (List ℕ)) (t order lives entries : List ℕ) → pages_below pages rs ≡ true → Says frames pages t count order lives entries
    → Says frames pages (evicted_all frames rs t) count order lives (evicted_entries rs entries)
unfolding evicted_all evicted_entries
says_evicted [] t order lives entries b h = h
says_evicted {frames} {pages} (r ∷ rs) t order lives entries b h =
    let k = below_both pages r rs b in
    says_evicted rs (set t (entry_at frames (page_of r)) 1) order lives (set entries (page_of r) 1) k.1 (says_entry h (page_of r) 1 k.0)
