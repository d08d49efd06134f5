-- The list judged, an image put, the frames written one behind the other.
use Prim.Native.Nat.{ℕ, zero, suc, ◌+◌, ◌*◌, ◌-◌, ◌≤◌, ◌<◌}
use native.Mathlib.Omega.{arith}
use native.Mathlib.Nat.{suc-mul, mul-le-mul_right}
use native.Mathlib.Numerals.{add-one}
use mathlib.Core.Path.{◌≡◌, refl, sym, ap, ◌∙◌}
use mathlib.Core.Bool.{Bool, true, false, cond, not, ◌&&◌, true≢false}
use mathlib.Core.List.{List, [], ◌∷◌, ◌++◌, append_assoc, append-nil}
use lib.ListN.{length, get_or, take, drop, length-append, length-drop, drop_of_length-le, take-append-drop}
use lib.Seq.{drop-cons, take_at, drop_at, drop-drop, length-take-le}
use lib.Dec.{eqb, leb, ltb}
use borrow.Author.Tests.{ltb-true, ltb-false, lt-ltb, le-ltb, leb-true, eqb-false}
use Rattle.word.proofs.Tests.{so, not_so}
use Rattle.record.specs.Part.{with_part}
use Rattle.record.specs.Rows.{cons_if, keep}
use Rattle.std.specs.Prelude.{Option, MatchOption, Ok, Err, Some, None, is_some, position}
use Rattle.std.proofs.Math.Seq.{take-length}
use Rattle.std.specs.List.{position_or_len}
use Rattle.std.proofs.lemmas.List.{drop_more}
use Rattle.std.proofs.lemmas.List.Quantifiers.{position-Some}
use Rattle.record.proofs.Changes.{applied_keep}
use Rattle.record.proofs.Listed.{done_more}
use Rattle.record.specs.Record.{online_width, on_page, committed, committed_on, chosen, apply, applied}
use Rattle.rules.specs.declared.Bad.TheVariants.{Page, Parameter}
use Rattle.rules.specs.declared.Refusal.TheVariants.{NotSound, Argument}
use Rattle.rules.specs.declared.Reply.{Reply}
use Rattle.rules.specs.Lent.{Lent, size_of, pages_of, count_of, online_of}
use Rattle.rules.specs.Shape.{Shaped}
use Rattle.rules.specs.Sound.{every, sound}
use Rattle.rules.proofs.Every.{every_at}
use Rattle.sound.proofs.Laws.{sound_shaped}
use Rattle.wal.specs.declared.Sums.{Sums}
use Rattle.wal.specs.declared.Header.{Header}
use Rattle.wal.specs.Sum.{fields_of}
use Rattle.wal.specs.Written.{head_fields, head_of, head_bytes, image_sums, frame_bytes, commit_before, frames_bytes, written}
use Rattle.word.specs.Word.{bytes_of}
use Rattle.word.proofs.Bigs.{grow}
use Rattle.walwrite.specs.declared.Why.{Why}
use Rattle.walwrite.specs.declared.Why.TheVariants.{Store, ShortTarget, EmptyList}
use Rattle.walwrite.specs.Image.{image_in}
use Rattle.walwrite.specs.Write.{Ruling, reply_of_why, listed, refuse_if, may_write, judge_write, log_of, settled, write_call}

-- the rest of a list, from a place within it
rest : (l : List ℕ) (i : ℕ) → i < length l → drop i l ≡ get_or l i 0 ∷ drop (i + 1) l
rest l i h = drop-cons l i 0 h ∙ ap (λ (k : ℕ). get_or l i 0 ∷ drop k l) (sym (add-one i))

-- `all_below`
pub below_turn : (pages i : ℕ) (l : List ℕ) (t : Bool) → i < length l → get_or l i 0 < pages → listed pages (drop i l) ≡ t → listed pages (drop (i + 1) l) ≡ t
unfolding every
below_turn pages i l t h k inv = go (rw (rest l i h) at inv)
  where
    go : (ltb (get_or l i 0) pages && listed pages (drop (i + 1) l)) ≡ t → listed pages (drop (i + 1) l) ≡ t
    go e = rw (lt-ltb (get_or l i 0) pages k) at e

pub below_stop : (pages i : ℕ) (l : List ℕ) (t : Bool) → i < length l → pages ≤ get_or l i 0 → listed pages (drop i l) ≡ t → false ≡ t
unfolding every
below_stop pages i l t h k inv = go (rw (rest l i h) at inv)
  where
    go : (ltb (get_or l i 0) pages && listed pages (drop (i + 1) l)) ≡ t → false ≡ t
    go e = rw (le-ltb (get_or l i 0) pages k) at e

pub below_done : (pages i : ℕ) (l : List ℕ) (t : Bool) → length l ≤ i → listed pages (drop i l) ≡ t → true ≡ t
unfolding every
below_done pages i l t h inv = rw (drop_of_length-le l h) at inv

-- `next_of`: rows that fail a test are passed by, up to the end
module _ (b t : List ℕ → Bool) (fails : (r : List ℕ) → t r ≡ false → b r ≡ false) where
  kept_from : (l : List (List ℕ)) (i : ℕ) → i < length l → ((k : ℕ) → k < i → t (get_or l k []) ≡ false) → keep b l ≡ keep b (drop i l)
  unfolding keep
  kept_from [] i h n = absurd (omega arith)
  kept_from (r ∷ l) zero h n = refl
  kept_from (r ∷ l) (suc i) h n = rw (fails r (n 0 (omega arith))) (kept_from l i (omega arith) (λ k a. n (suc k) (omega arith)))

  kept_none : (l : List (List ℕ)) → (position_or_len t l < length l → ⊥) → keep b l ≡ []
  unfolding keep
  kept_none [] h = refl
  kept_none (r ∷ l) h = pick (t r) refl (kept_none l) h
    where
      pick : (c : Bool) → t r ≡ c → ((position_or_len t l < length l → ⊥) → keep b l ≡ []) → (cond (not c) (1 + position_or_len t l) 0 < suc (length l) → ⊥) → cons_if (b r) r (keep b l) ≡ []
      pick true e f h = absurd (h (omega arith))
      pick false e f h = rw (fails r e) (f (λ m. h (omega arith)))

  next : (l : List (List ℕ)) (r : Option ℕ) → r ≡ position t l → MatchOption r (keep b l ≡ []) (λ i. (i < length l) × (keep b l ≡ keep b (drop i l)))
  next l None e = kept_none l (λ m. true≢false (ap is_some (at_place m) ∙ sym (ap is_some e)))
    where
      at_place : position_or_len t l < length l → Some (position_or_len t l) ≡ position t l
      at_place m = rw (lt-ltb (position_or_len t l) (length l) m) refl
  next l (Some i) e = let q = position-Some t l i [] (sym e) in (q.0, kept_from l i q.0 q.2)

pub next_is : (p : ℕ) (l : List (List ℕ)) (r : Option ℕ) → r ≡ position (on_page p) l → MatchOption r (keep (committed_on p) l ≡ []) (λ i. (i < length l) × (keep (committed_on p) l ≡ keep (committed_on p) (drop i l)))
next_is p = next (committed_on p) (on_page p) (λ r e. ap (λ (c : Bool). c && committed r) e)

-- `fold`: the rows behind a place; a turn, its end
pub behind : (k : ℕ) (l : List (List ℕ)) → take (length l - k) (drop k l) ≡ drop k l
behind k l = rw (← length-drop k l) (take-length (drop k l))

pub fold_turn : (p i : ℕ) (l : List (List ℕ)) (g g' t : List ℕ) → i < length l → keep (committed_on p) l ≡ keep (committed_on p) (drop i l) → g' ≡ applied (keep (chosen true p) (take (i + 1 - i) (drop i l))) g → applied (keep (committed_on p) l) g ≡ t → applied (keep (committed_on p) (drop (i + 1) l)) g' ≡ t
unfolding keep applied
fold_turn p i l g g' t h f e inv =
    let r : List ℕ = get_or l i [] in
    let one : i + 1 - i ≡ 1 = omega arith in
    let row : take (i + 1 - i) (drop i l) ≡ r ∷ [] = ap (λ (n : ℕ). take n (drop i l)) one ∙ ap (take 1) (drop_more l i [] h) in
    done_more applied apply (λ x. refl) (λ q k x. refl) (committed_on p) l i g g' t h
    (e ∙ ap (λ (k : List (List ℕ)). applied (keep (committed_on p) k) g) row ∙ applied_keep (committed_on p) r [] g)
    (ap (λ (k : List (List ℕ)). applied k g) (sym f) ∙ inv)

pub fold_done : (k : List (List ℕ)) (g t : List ℕ) → k ≡ [] → applied k g ≡ t → g ≡ t
unfolding applied
fold_done k g t e inv = rw e at inv

-- `put_image`: the stored page, then its committed rows
pub image_put : (stored g₁ g₂ : List ℕ) (online : List (List ℕ)) (size p : ℕ) → g₁ ≡ take (p * size + size - p * size) (drop (p * size) stored) → g₂ ≡ applied (keep (committed_on p) online) g₁ → g₂ ≡ image_in size stored online p
unfolding image_in
image_put stored g₁ g₂ online size p e₁ e₂ =
    let d : p * size + size - p * size ≡ size = omega arith in
    e₂ ∙ ap (λ (x : List ℕ). applied (keep (committed_on p) online) x) e₁ ∙ ap (λ (k : ℕ). applied (keep (committed_on p) online) (take k (drop (p * size) stored))) d

-- `write_frame`: what stands behind the 24 bytes of the fields is the image
image_part : (f ys : List ℕ) → 24 ≤ length f → drop 24 (with_part 24 (length f - 24) f ys) ≡ ys
image_part f ys h =
    let k : length (drop 24 f) ≤ length f - 24 = omega (arith, length-drop 24 f) in
    drop_at (take 24 f) (ys ++ drop (length f - 24) (drop 24 f)) 24 (length-take-le 24 f h)
    ∙ ap (λ (x : List ℕ). ys ++ x) (drop_of_length-le (drop 24 f) k)
    ∙ append-nil ys

pub frame_image : (h : Header) (s r : Sums) (page commit : ℕ) (f f' ys image : List ℕ) → 24 ≤ length f → ys ≡ image → (f' ≡ frame_bytes h s page commit (drop 24 (with_part 24 (length f - 24) f ys))) × (r ≡ image_sums h s page commit (drop 24 (with_part 24 (length f - 24) f ys))) → (f' ≡ frame_bytes h s page commit image) × (r ≡ image_sums h s page commit image)
frame_image h s r page commit f f' ys image k e did =
    let g : drop 24 (with_part 24 (length f - 24) f ys) ≡ image = image_part f ys k ∙ e in
    (did.0 ∙ ap (frame_bytes h s page commit) g, did.1 ∙ ap (image_sums h s page commit) g)

-- room for the frame at a place, and where the next one begins
pub room_turn : (n i w room : ℕ) → i < n → 32 + n * w ≤ room → (32 + i * w + w ≤ room) × (32 + (i + 1) * w ≡ 32 + i * w + w)
room_turn n i w room h k =
    let e : (i + 1) * w ≡ i * w + w = ap (λ (x : ℕ). x * w) (add-one i) ∙ suc-mul i w in
    let l : i + 1 ≤ n = omega arith in
    let m : (i + 1) * w ≤ n * w = mul-le-mul_right w l in
    (omega arith, omega arith)

-- a page listed is one of the pages
pub page_below : (l : List ℕ) (i count : ℕ) → listed count l ≡ true → i < length l → get_or l i 0 < count
page_below l i count h k = ltb-true (get_or l i 0) count (every_at (λ (p : ℕ). ltb p count) l i h k)

-- the part that is lent for a frame
pub lent_frame : (l : List ℕ) (at w : ℕ) → at + w ≤ length l → length (take (at + w - at) (drop at l)) ≡ w
lent_frame l at w h =
    let d : at + w - at ≡ w = omega arith in
    let k : w ≤ length (drop at l) = omega (arith, length-drop at l) in
    ap (λ (x : ℕ). length (take x (drop at l))) d ∙ length-take-le w (drop at l) k

-- the commit field: the last frame's, the others'
pub commit_last : (l : List ℕ) (i count c : ℕ) → i + 1 ≡ length l → c ≡ count → c ≡ commit_before count (drop (i + 1) l)
commit_last l i count c n e = let k : length l ≤ i + 1 = omega arith in rw (drop_of_length-le l k) e

pub commit_other : (l : List ℕ) (i count c : ℕ) → i < length l → (i + 1 ≡ length l → ⊥) → c ≡ 0 → c ≡ commit_before count (drop (i + 1) l)
commit_other l i count c h n e = let k : i + 1 < length l = omega arith in rw (rest l (i + 1) k) e

-- a frame more: t with ys in the place of the w bytes at a place
module _ (t ys : List ℕ) (at w : ℕ) (n : length ys ≡ w) (h : at + w ≤ length t) where
  pub put_take : take (at + w) (with_part at (at + w - at) t ys) ≡ take at t ++ ys
  put_take =
      let a : length (take at t) ≡ at = length-take-le at t (omega arith) in
      let e : length (take at t ++ ys) ≡ at + w = length-append (take at t) ys ∙ (λ i. a i + n i) in
      ap (take (at + w)) (sym (append_assoc (take at t) ys (drop (at + w - at) (drop at t)))) ∙ take_at (take at t ++ ys) (drop (at + w - at) (drop at t)) (at + w) e

  pub put_drop : drop (at + w) (with_part at (at + w - at) t ys) ≡ drop (at + w) t
  put_drop =
      let a : length (take at t) ≡ at = length-take-le at t (omega arith) in
      let e : length (take at t ++ ys) ≡ at + w = length-append (take at t) ys ∙ (λ i. a i + n i) in
      let d : at + w - at ≡ w = omega arith in
      ap (drop (at + w)) (sym (append_assoc (take at t) ys (drop (at + w - at) (drop at t))))
      ∙ drop_at (take at t ++ ys) (drop (at + w - at) (drop at t)) (at + w) e
      ∙ ap (λ (k : ℕ). drop k (drop at t)) d
      ∙ drop-drop w at t

  pub put_length : length (with_part at (at + w - at) t ys) ≡ length t
  put_length =
      let d : at + w - at ≡ w = omega arith in
      let a : length (take at t) ≡ at = length-take-le at t (omega arith) in
      let b : length (drop w (drop at t)) ≡ length t - at - w = length-drop w (drop at t) ∙ ap (λ (k : ℕ). k - w) (length-drop at t) in
      ap (λ (k : ℕ). length (with_part at k t ys)) d
      ∙ length-append (take at t) (ys ++ drop w (drop at t))
      ∙ ap (λ (k : ℕ). length (take at t) + k) (length-append ys (drop w (drop at t)))
      ∙ omega arith

  pub put_behind : (t₀ : List ℕ) → drop at t ≡ drop at t₀ → drop (at + w) (with_part at (at + w - at) t ys) ≡ drop (at + w) t₀
  put_behind t₀ e = put_drop ∙ sym (drop-drop w at t) ∙ ap (drop w) e ∙ drop-drop w at t₀

-- `write_frames`: a turn, its end
pub frames_turn : (h : Header) (image : ℕ → List ℕ) (count i at w c : ℕ) (l t ys u : List ℕ) (s r : Sums) → i < length l → at + w ≤ length t → length ys ≡ w → c ≡ commit_before count (drop (i + 1) l) → (ys ≡ frame_bytes h s (get_or l i 0 + 1) c (image (get_or l i 0))) × (r ≡ image_sums h s (get_or l i 0 + 1) c (image (get_or l i 0))) → take at t ++ frames_bytes h image count (drop i l) s ≡ u → take (at + w) (with_part at (at + w - at) t ys) ++ frames_bytes h image count (drop (i + 1) l) r ≡ u
unfolding frames_bytes
frames_turn h image count i at w c l t ys u s r k room n e did inv =
    let p : ℕ = get_or l i 0 in
    let ey : ys ≡ frame_bytes h s (p + 1) (commit_before count (drop (i + 1) l)) (image p) = did.0 ∙ ap (λ (x : ℕ). frame_bytes h s (p + 1) x (image p)) e in
    let er : r ≡ image_sums h s (p + 1) (commit_before count (drop (i + 1) l)) (image p) = did.1 ∙ ap (λ (x : ℕ). image_sums h s (p + 1) x (image p)) e in
    let g : frames_bytes h image count (drop i l) s ≡ ys ++ frames_bytes h image count (drop (i + 1) l) r =
    ap (λ (x : List ℕ). frames_bytes h image count x s) (rest l i k) ∙ (λ j. sym ey j ++ frames_bytes h image count (drop (i + 1) l) (sym er j))
    in
    ap (λ (x : List ℕ). x ++ frames_bytes h image count (drop (i + 1) l) r) (put_take t ys at w n room)
    ∙ append_assoc (take at t) ys (frames_bytes h image count (drop (i + 1) l) r)
    ∙ ap (λ (x : List ℕ). take at t ++ x) (sym g)
    ∙ inv

pub frames_done : (h : Header) (image : ℕ → List ℕ) (count i at : ℕ) (l t t₀ : List ℕ) (s s₀ : Sums) → length l ≤ i → at ≤ length t → 32 ≤ length t₀ → take at t ++ frames_bytes h image count (drop i l) s ≡ take 32 t₀ ++ frames_bytes h image count l s₀ → drop at t ≡ drop at t₀ → t ≡ take 32 t₀ ++ (frames_bytes h image count l s₀ ++ drop (32 + length (frames_bytes h image count l s₀)) t₀)
unfolding frames_bytes
frames_done h image count i at l t t₀ s s₀ k whole front inv back =
    let fs : List ℕ = frames_bytes h image count l s₀ in
    let e : take at t ≡ take 32 t₀ ++ fs = sym (append-nil (take at t)) ∙ ap (λ (x : List ℕ). take at t ++ frames_bytes h image count x s) (sym (drop_of_length-le l k)) ∙ inv in
    let n : at ≡ 32 + length fs = sym (length-take-le at t whole) ∙ ap length e ∙ length-append (take 32 t₀) fs ∙ ap (λ (x : ℕ). x + length fs) (length-take-le 32 t₀ front) in
    sym (take-append-drop at t)
    ∙ (λ j. e j ++ back j)
    ∙ append_assoc (take 32 t₀) fs (drop at t₀)
    ∙ ap (λ (x : ℕ). take 32 t₀ ++ (fs ++ drop x t₀)) n

-- `write_log`: the frames behind the header
pub log_written : (head fs t t₁ t₂ : List ℕ) → length head ≡ 32 → t₁ ≡ head ++ drop 32 t → t₂ ≡ take 32 t₁ ++ (fs ++ drop (32 + length fs) t₁) → t₂ ≡ (head ++ fs) ++ drop (length (head ++ fs)) t
log_written head fs t t₁ t₂ n e₁ e₂ =
    let m : length (head ++ fs) ≡ 32 + length fs = length-append head fs ∙ ap (λ (k : ℕ). k + length fs) n in
    grow 32 (length fs) t t₁ t₂ head fs n e₁ e₂ ∙ ap (λ (k : ℕ). (head ++ fs) ++ drop k t) (sym m)

pub head_length : (big : Bool) (size sequence salt1 salt2 : ℕ) → length (head_bytes big size sequence salt1 salt2) ≡ 32
unfolding head_bytes head_fields fields_of bytes_of
head_length big size sequence salt1 salt2 = refl

pub log_as : (big : Bool) (size sequence salt1 salt2 count : ℕ) (image : ℕ → List ℕ) (list t t₁ t₂ : List ℕ) (h : Header) → (t₁ ≡ head_bytes big size sequence salt1 salt2 ++ drop 32 t) × (h ≡ head_of big size sequence salt1 salt2) → t₂ ≡ take 32 t₁ ++ (frames_bytes h image count list h.sums ++ drop (32 + length (frames_bytes h image count list h.sums)) t₁) → t₂ ≡ written big size sequence salt1 salt2 image count list ++ drop (length (written big size sequence salt1 salt2 image count list)) t
unfolding written
log_as big size sequence salt1 salt2 count image list t t₁ t₂ h head e =
    log_written (head_bytes big size sequence salt1 salt2) (frames_bytes (head_of big size sequence salt1 salt2) image count list (head_of big size sequence salt1 salt2).sums) t t₁ t₂ (head_length big size sequence salt1 salt2) head.0
    (e ∙ ap (λ (x : Header). take 32 t₁ ++ (frames_bytes x image count list x.sums ++ drop (32 + length (frames_bytes x image count list x.sums)) t₁)) head.1)

-- the header says the page size that it was given
pub head_size : (big : Bool) (size sequence salt1 salt2 : ℕ) (h : Header) → h ≡ head_of big size sequence salt1 salt2 → h.size ≡ size
unfolding head_of
head_size big size sequence salt1 salt2 h e = ap (λ (x : Header). x.size) e

-- what go says
pub go_parts : (size pages room order : ℕ) (l : List ℕ) → may_write size pages l room order ≡ (Ok tt) → (listed pages l ≡ true) × (length l ≤ 4294967295) × (32 + length l * (24 + size) ≤ room)
unfolding may_write refuse_if
go_parts size pages room order l = pick (listed pages l) (leb order 1) (leb (length l) 4294967295) (ltb room (32 + length l * (24 + size))) refl refl refl
  where
    pick : (a b c d : Bool) → listed pages l ≡ a → leb (length l) 4294967295 ≡ c → ltb room (32 + length l * (24 + size)) ≡ d → refuse_if (not a) (Store (Argument Page)) (refuse_if (not (b && c)) (Store (Argument Parameter)) (refuse_if d ShortTarget (refuse_if (eqb (length l) 0) EmptyList (Ok tt)))) ≡ (Ok tt) → (listed pages l ≡ true) × (length l ≤ 4294967295) × (32 + length l * (24 + size) ≤ room)
    pick false b c d ea ec ed k = let z : ◌≡◌ {A = ℕ} 0 1 = cc in absurd (omega arith)
    pick true false c d ea ec ed k = let z : ◌≡◌ {A = ℕ} 0 1 = cc in absurd (omega arith)
    pick true true false d ea ec ed k = let z : ◌≡◌ {A = ℕ} 0 1 = cc in absurd (omega arith)
    pick true true true true ea ec ed k = let z : ◌≡◌ {A = ℕ} 0 1 = cc in absurd (omega arith)
    pick true true true false ea ec ed k = (ea, leb-true (length l) 4294967295 ec, ltb-false room (32 + length l * (24 + size)) ed)

-- and that the list is not empty
some : (n : ℕ) → (n ≡ 0 → ⊥) → 1 ≤ n
some zero f = absurd (f refl)
some (suc n) f = omega arith

pub go_some : (size pages room order : ℕ) (l : List ℕ) → may_write size pages l room order ≡ (Ok tt) → 1 ≤ length l
unfolding may_write refuse_if
go_some size pages room order l = pick (listed pages l) (leb order 1 && leb (length l) 4294967295) (ltb room (32 + length l * (24 + size))) (eqb (length l) 0) refl
  where
    pick : (a b c d : Bool) → eqb (length l) 0 ≡ d → refuse_if (not a) (Store (Argument Page)) (refuse_if (not b) (Store (Argument Parameter)) (refuse_if c ShortTarget (refuse_if d EmptyList (Ok tt)))) ≡ (Ok tt) → 1 ≤ length l
    pick false b c d e k = let z : ◌≡◌ {A = ℕ} 0 1 = cc in absurd (omega arith)
    pick true false c d e k = let z : ◌≡◌ {A = ℕ} 0 1 = cc in absurd (omega arith)
    pick true true true d e k = let z : ◌≡◌ {A = ℕ} 0 1 = cc in absurd (omega arith)
    pick true true false true e k = let z : ◌≡◌ {A = ℕ} 0 1 = cc in absurd (omega arith)
    pick true true false false e k = some (length l) (eqb-false (length l) 0 e)

-- `judge_write`
pub judge_unsound : (s : Lent) (l : List ℕ) (room order : ℕ) (b : Bool) → b ≡ sound s → not b ≡ true → Err (Store NotSound) ≡ judge_write s l room order
unfolding judge_write refuse_if
judge_unsound s l room order b e h = rw (not_so b (sound s) e h)

pub judge_sound : (s : Lent) (l : List ℕ) (room order : ℕ) (b : Bool) (v : Ruling) → b ≡ sound s → not b ≡ false → v ≡ may_write (size_of s) (pages_of s) l room order → v ≡ judge_write s l room order
unfolding judge_write refuse_if
judge_sound s l room order b v e h k = rw (so b (sound s) e h) k

pub judged_go : (s : Lent) (l : List ℕ) (room order : ℕ) → judge_write s l room order ≡ (Ok tt) → (sound s ≡ true) × (may_write (size_of s) (pages_of s) l room order ≡ (Ok tt))
unfolding judge_write refuse_if
judged_go s l room order = pick (sound s) refl
  where
    pick : (a : Bool) → sound s ≡ a → refuse_if (not a) (Store NotSound) (may_write (size_of s) (pages_of s) l room order) ≡ (Ok tt) → (sound s ≡ true) × (may_write (size_of s) (pages_of s) l room order ≡ (Ok tt))
    pick true e k = (e, k)
    pick false e k = let z : ◌≡◌ {A = ℕ} 0 1 = cc in absurd (omega arith)

pub went : (s : Lent) (l : List ℕ) (room order : ℕ) (v : Ruling) → v ≡ judge_write s l room order → v ≡ Ok tt → Shaped s × (may_write (size_of s) (pages_of s) l room order ≡ Ok tt)
went s l room order v e f = let g = judged_go s l room order (sym e ∙ f) in (sound_shaped s g.0, g.1)

-- what go and sound tables give, by the numbers that the call reads
pub pages_fit : (s : Lent) (size pages : ℕ) → Shaped s → size ≡ size_of s → pages ≡ pages_of s → ((size ≤ 4096) × (pages ≤ 1024)) × (length s.durable.stored ≡ size * pages)
pages_fit s size pages h es ep = rw (es, ep) ((h.sized.size, h.sized.pages), h.sized.stored)

pub rows_fit : (s : Lent) (m : ℕ) → Shaped s → m ≡ count_of s → m * online_width ≤ length s.lost.online
rows_fit s m h em = rw em (omega (arith, h.count, h.sized.online))

pub write_asks : (size pages size' pages' room order : ℕ) (l : List ℕ) → size ≡ size' → pages ≡ pages' → may_write size' pages' l room order ≡ (Ok tt) → (32 + length l * (24 + size) ≤ room) × (listed pages l ≡ true)
write_asks size pages size' pages' room order l es ep go =
    let p = go_parts size' pages' room order l go in
    rw (es, ep) (p.2, p.0)

-- the call: refused, and done
pub write_refused : (s : Lent) (l t : List ℕ) (a b q order : ℕ) (v : Ruling) (w : Why) (r : Reply) → v ≡ judge_write s l (length t) order → v ≡ Err w → r ≡ reply_of_why w → record { reply = r; target = t } ≡ write_call s l t a b q order
unfolding write_call
write_refused s l t a b q order v w r e f k =
    let g : judge_write s l (length t) order ≡ Err w = sym e ∙ f in
    (λ i. record { reply = k i; target = t }) ∙ ap (λ (x : Ruling). settled x l t (log_of s l a b q order)) (sym g)

pub write_done : (s : Lent) (l t t' : List ℕ) (a b q order size pages : ℕ) (online : List (List ℕ)) (r : Reply) → judge_write s l (length t) order ≡ Ok tt → r ≡ record { code = 0; note = 0; reads = length l; writes = 0; logs = 0 } → size ≡ size_of s → pages ≡ pages_of s → online ≡ online_of s
    → t' ≡ written (eqb order 1) size q a b (image_in size s.durable.stored online) pages l ++ drop (length (written (eqb order 1) size q a b (image_in size s.durable.stored online) pages l)) t
    → record { reply = r; target = t' } ≡ write_call s l t a b q order
unfolding write_call
write_done s l t t' a b q order size pages online r g er es ep em e =
    let w : written (eqb order 1) size q a b (image_in size s.durable.stored online) pages l ≡ log_of s l a b q order =
    λ i. written (eqb order 1) (es i) q a b (image_in (es i) s.durable.stored (em i)) (ep i) l
    in
    (λ i. record { reply = er i; target = (e ∙ ap (λ (x : List ℕ). x ++ drop (length x) t) w) i })
    ∙ ap (λ (x : Ruling). settled x l t (log_of s l a b q order)) (sym g)
