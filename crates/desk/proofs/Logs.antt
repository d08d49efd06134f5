-- A log that was written, judged: every frame is valid, the last is the commit frame, and each page listed is found with its image, the last one.
use Prim.Native.Nat.{ℕ, zero, suc, ◌+◌, ◌*◌, ◌^◌, ◌≤◌, ◌<◌}
use native.Mathlib.Omega.{arith}
use native.Mathlib.Nat.{suc-mul}
use mathlib.Core.Path.{◌≡◌, refl, sym, ap, ◌∙◌}
use mathlib.Core.Bool.{Bool, true, false, cond, not, ◌&&◌, ◌||◌}
use mathlib.Core.List.{List, [], ◌∷◌, ◌++◌, append_assoc, append-nil}
use lib.ListN.{length, take, drop, length-append}
use lib.Seq.{take_at, drop_at, drop-drop}
use lib.Dec.{eqb, ltb}
use borrow.Author.Tests.{ltb-true, lt-leb, eqb-true, eqb-false, eq-eqb, ne_eqb}
use Rattle.word.proofs.Tests.{and_both}
use Rattle.record.specs.Rows.{any}
use Rattle.rules.specs.Sound.{every}
use Rattle.wal.specs.declared.Sums.{Sums}
use Rattle.wal.specs.declared.Header.{Header}
use Rattle.std.specs.Prelude.{Ok, Some}
use Rattle.word.specs.Word.{bytes_of}
use Rattle.wal.specs.Sum.{fields_of}
use Rattle.wal.specs.Layout.{Frame, is_page_size, opened, frame_size, is_valid, seen, frame_at, frames_from, valid_frames}
use Rattle.wal.specs.Written.{head_of, head_bytes, image_sums, frame_bytes, commit_before, frames_bytes, written}
use Rattle.wal.proofs.Frames.{more, none}
use Rattle.wal.proofs.Opens.{size_range}
use Rattle.waljudge.specs.Judge.{is_commit, is_of, up_to_commit, last_place, end_of, judged_by, judged, found_by, found_in}
use Rattle.walwrite.specs.Write.{listed}
use Rattle.walwrite.proofs.Laws.{head_length}
use Rattle.rules.specs.declared.Bad.TheVariants.{Page}
use Rattle.rules.specs.declared.Refusal.TheVariants.{Argument}
use Rattle.rules.specs.Answers.{code_of}
use Rattle.desk.specs.Desk.{last_listed, Reads}
use Rattle.desk.proofs.Fields.{log_opened, frame_seen}

-- the frames that a list of pages gives, from a place on
unfoldable pub log_frames : ℕ → ℕ → ℕ → List ℕ → List Frame
log_frames w count at [] = []
log_frames w count at (p ∷ ps) = record { page = p + 1; commit = commit_before count ps; place = at + 24 } ∷ log_frames w count (at + w) ps

length_frames : (w count at : ℕ) (l : List ℕ) → length (log_frames w count at l) ≡ length l
unfolding log_frames
length_frames w count at [] = refl
length_frames w count at (p ∷ ps) = ap suc (length_frames w count (at + w) ps)

commit_below : (count : ℕ) (l : List ℕ) → count ≤ 1024 → commit_before count l < 2 ^ 32
commit_below count [] h = omega arith
commit_below count (p ∷ ps) h = omega arith

frame_length : (h : Header) (s : Sums) (page commit : ℕ) (image : List ℕ) → length (frame_bytes h s page commit image) ≡ 24 + length image
unfolding frame_bytes fields_of bytes_of
frame_length h s page commit image = omega arith

fields_behind : (h : Header) (s : Sums) (page commit : ℕ) (image rest : List ℕ) → drop 24 (frame_bytes h s page commit image ++ rest) ≡ image ++ rest
unfolding frame_bytes fields_of bytes_of
fields_behind h s page commit image rest = refl

listed_none : (w p at other : ℕ) (l : List ℕ) → any (λ (q : ℕ). eqb q p) l ≡ false → last_listed w p at other l ≡ other
unfolding last_listed any
listed_none w p at other [] k = refl
listed_none w p at other (q ∷ qs) k = pick (eqb q p) k (listed_none w p (at + w) other qs)
  where
    pick : (x : Bool) → (x || any (λ (z : ℕ). eqb z p) qs) ≡ false → (any (λ (z : ℕ). eqb z p) qs ≡ false → last_listed w p (at + w) other qs ≡ other) → last_listed w p (at + w) (cond x (at + 24) other) qs ≡ other
    pick true e f = let z : ◌≡◌ {A = ℕ} 0 1 = cc in absurd (omega arith)
    pick false e f = f e

-- a part behind another
behind : (pre f rest : List ℕ) (at w : ℕ) → length pre ≡ at → length f ≡ w → take w (drop at (pre ++ (f ++ rest))) ≡ f
behind pre f rest at w a b = ap (take w) (drop_at pre (f ++ rest) at a) ∙ take_at f rest w b

module _ (h : Header) (image : ℕ → List ℕ) (count : ℕ) (few : count ≤ 1024) (ha : h.salt1 < 2 ^ 32) (hb : h.salt2 < 2 ^ 32) (sized : (p : ℕ) → p < count → length (image p) ≡ h.size) where
  -- every frame is valid
  frames_valid : (l pre : List ℕ) (at n : ℕ) (s : Sums) → listed count l ≡ true → length pre ≡ at → length l ≤ n → frames_from h (pre ++ frames_bytes h image count l s) n at s ≡ log_frames (frame_size h) count at l
  unfolding frames_bytes log_frames every
  frames_valid [] pre at n s k e m =
      let x : length (pre ++ []) ≡ at = ap length (append-nil pre) ∙ e in
      none h (pre ++ []) n at s (ap (λ (t : Bool). t && is_valid h s (frame_at h (pre ++ []) at)) (lt-leb (at + frame_size h) (length (pre ++ [])) (omega arith)))
  frames_valid (p ∷ ps) pre at zero s k e m = absurd (omega arith)
  frames_valid (p ∷ ps) pre at (suc n) s k e m =
      let b = and_both (ltb p count) (listed count ps) k in
      let below : p < count = ltb-true p count b.0 in
      let c : ℕ = commit_before count ps in
      let f : List ℕ = frame_bytes h s (p + 1) c (image p) in
      let s' : Sums = image_sums h s (p + 1) c (image p) in
      let rest : List ℕ = frames_bytes h image count ps s' in
      let n₁ : length f ≡ frame_size h = frame_length h s (p + 1) c (image p) ∙ ap (λ (x : ℕ). 24 + x) (sized p below) in
      let n₂ : length (pre ++ (f ++ rest)) ≡ at + (frame_size h + length rest) = length-append pre (f ++ rest) ∙ (λ i. e i + (length-append f rest ∙ ap (λ (x : ℕ). x + length rest) n₁) i) in
      let n₃ : length (pre ++ f) ≡ at + frame_size h = length-append pre f ∙ (λ i. e i + n₁ i) in
      let v : seen h s (frame_at h (pre ++ (f ++ rest)) at) ≡ Some (record { page = p + 1; commit = c; sums = s' }) = ap (seen h s) (behind pre f rest at (frame_size h) e n₁) ∙ frame_seen h s (p + 1) c (image p) (omega arith) (commit_below count ps few) ha hb in
      more h (pre ++ (f ++ rest)) n at s (record { page = p + 1; commit = c; sums = s' }) (omega arith) v
      ∙ ap (λ (x : List ℕ). record { page = p + 1; commit = c; place = at + 24 } ∷ frames_from h x n (at + frame_size h) s') (sym (append_assoc pre f rest))
      ∙ ap (λ (x : List Frame). record { page = p + 1; commit = c; place = at + 24 } ∷ x) (frames_valid ps (pre ++ f) (at + frame_size h) n s' b.1 n₃ (omega arith))

  -- a listed page's image stands where its last frame says
  image_stands : (p : ℕ) (l pre : List ℕ) (at other : ℕ) (s : Sums) → listed count l ≡ true → length pre ≡ at → any (λ (q : ℕ). eqb q p) l ≡ true → take h.size (drop (last_listed (frame_size h) p at other l) (pre ++ frames_bytes h image count l s)) ≡ image p
  unfolding frames_bytes last_listed every any
  image_stands p [] pre at other s k e m = let z : ◌≡◌ {A = ℕ} 0 1 = cc in absurd (omega arith)
  image_stands p (q ∷ qs) pre at other s k e m =
      let b = and_both (ltb q count) (listed count qs) k in
      let below : q < count = ltb-true q count b.0 in
      let c : ℕ = commit_before count qs in
      let f : List ℕ = frame_bytes h s (q + 1) c (image q) in
      let s' : Sums = image_sums h s (q + 1) c (image q) in
      let rest : List ℕ = frames_bytes h image count qs s' in
      let n₁ : length f ≡ frame_size h = frame_length h s (q + 1) c (image q) ∙ ap (λ (x : ℕ). 24 + x) (sized q below) in
      let n₃ : length (pre ++ f) ≡ at + frame_size h = length-append pre f ∙ (λ i. e i + n₁ i) in
      pick p q qs (pre ++ (f ++ rest)) at other (eqb q p) (any (λ (x : ℕ). eqb x p) qs) refl refl m
      (λ (t : any (λ (x : ℕ). eqb x p) qs ≡ true). ap (λ (x : List ℕ). take h.size (drop (last_listed (frame_size h) p (at + frame_size h) (cond (eqb q p) (at + 24) other) qs) x)) (sym (append_assoc pre f rest)) ∙ image_stands p qs (pre ++ f) (at + frame_size h) (cond (eqb q p) (at + 24) other) s' b.1 n₃ t)
      (here pre f rest at q c s e (sized q below) refl)
    where
      here : (pre f rest : List ℕ) (at q c : ℕ) (s : Sums) → length pre ≡ at → length (image q) ≡ h.size → f ≡ frame_bytes h s (q + 1) c (image q) → take h.size (drop (at + 24) (pre ++ (f ++ rest))) ≡ image q
      here pre f rest at q c s e n d =
          let g : drop 24 (f ++ rest) ≡ image q ++ rest = ap (λ (x : List ℕ). drop 24 (x ++ rest)) d ∙ fields_behind h s (q + 1) c (image q) rest in
          ap (take h.size) (sym (drop-drop 24 at (pre ++ (f ++ rest))) ∙ ap (drop 24) (drop_at pre (f ++ rest) at e) ∙ g) ∙ take_at (image q) rest h.size n

      pick : (p q : ℕ) (qs l : List ℕ) (at other : ℕ) (x y : Bool) → eqb q p ≡ x → any (λ (z : ℕ). eqb z p) qs ≡ y → (x || y) ≡ true
          → (any (λ (z : ℕ). eqb z p) qs ≡ true → take h.size (drop (last_listed (frame_size h) p (at + frame_size h) (cond (eqb q p) (at + 24) other) qs) l) ≡ image p)
          → take h.size (drop (at + 24) l) ≡ image q
          → take h.size (drop (last_listed (frame_size h) p (at + frame_size h) (cond (eqb q p) (at + 24) other) qs) l) ≡ image p
      pick p q qs l at other x true ex ey m later now = later ey
      pick p q qs l at other true false ex ey m later now =
          ap (λ (k : ℕ). take h.size (drop k l)) (listed_none (frame_size h) p (at + frame_size h) (cond (eqb q p) (at + 24) other) qs ey ∙ ap (λ (t : Bool). cond t (at + 24) other) ex)
          ∙ now ∙ ap image (eqb-true q p ex)
      pick p q qs l at other false false ex ey m later now = let z : ◌≡◌ {A = ℕ} 0 1 = cc in absurd (omega arith)

-- the last frame, and no other, is a commit frame
module _ (w count : ℕ) (some : 1 ≤ count) where
  last_is_commit : (k place : ℕ) → is_commit (record { page = k; commit = count; place = place }) ≡ true
  last_is_commit k place = ap not (ne_eqb count 0 (λ (z : count ≡ 0). omega arith))

  any_commit : (at p : ℕ) (ps : List ℕ) → any is_commit (log_frames w count at (p ∷ ps)) ≡ true
  unfolding any log_frames
  any_commit at p [] = ap (λ (t : Bool). t || false) (last_is_commit (p + 1) (at + 24))
  any_commit at p (q ∷ qs) = any_commit (at + w) q qs

  end_commit : (at other p : ℕ) (ps : List ℕ) → last_place is_commit other (log_frames w count at (p ∷ ps)) + w ≡ at + 24 + length (p ∷ ps) * w
  unfolding last_place log_frames
  end_commit at other p [] = ap (λ (t : Bool). cond t (at + 24) other + w) (last_is_commit (p + 1) (at + 24)) ∙ omega arith
  end_commit at other p (q ∷ qs) = end_commit (at + w) other q qs ∙ omega (arith, suc-mul (suc (length qs)) w)

  first : (at p : ℕ) (ps : List ℕ) → (is_commit (record { page = p + 1; commit = commit_before count ps; place = at + 24 }) || any is_commit (log_frames w count (at + w) ps)) ≡ true
  unfolding any log_frames
  first at p [] = ap (λ (t : Bool). t || false) (last_is_commit (p + 1) (at + 24))
  first at p (q ∷ qs) = any_commit (at + w) q qs

  all_up : (at : ℕ) (l : List ℕ) → up_to_commit (log_frames w count at l) ≡ log_frames w count at l
  unfolding up_to_commit log_frames
  all_up at [] = refl
  all_up at (p ∷ ps) =
      ap (λ (t : Bool). cond t (record { page = p + 1; commit = commit_before count ps; place = at + 24 } ∷ up_to_commit (log_frames w count (at + w) ps)) []) (first at p ps)
      ∙ ap (λ (fs : List Frame). record { page = p + 1; commit = commit_before count ps; place = at + 24 } ∷ fs) (all_up (at + w) ps)

-- the frames of a page are its listings
same_page : (q p : ℕ) → eqb (q + 1) (p + 1) ≡ eqb q p
same_page q p = go (eqb q p) refl
  where
    go : (x : Bool) → eqb q p ≡ x → eqb (q + 1) (p + 1) ≡ x
    go true e = eq-eqb (q + 1) (p + 1) (ap (λ (k : ℕ). k + 1) (eqb-true q p e))
    go false e = ne_eqb (q + 1) (p + 1) (λ (z : q + 1 ≡ p + 1). eqb-false q p e (omega arith))

any_listed : (w count p at : ℕ) (l : List ℕ) → any (is_of (p + 1)) (log_frames w count at l) ≡ any (λ (q : ℕ). eqb q p) l
unfolding any log_frames
any_listed w count p at [] = refl
any_listed w count p at (q ∷ qs) = λ i. same_page q p i || any_listed w count p (at + w) qs i

last_place_listed : (w count p at other : ℕ) (l : List ℕ) → last_place (is_of (p + 1)) other (log_frames w count at l) ≡ last_listed w p at other l
unfolding last_place log_frames last_listed
last_place_listed w count p at other [] = refl
last_place_listed w count p at other (q ∷ qs) = ap (λ (t : Bool). last_place (is_of (p + 1)) (cond t (at + 24) other) (log_frames w count (at + w) qs)) (same_page q p) ∙ last_place_listed w count p (at + w) (cond (eqb q p) (at + 24) other) qs

-- more bytes than frames
few_frames : (h : Header) (image : ℕ → List ℕ) (count : ℕ) (l : List ℕ) (s : Sums) → length l ≤ length (frames_bytes h image count l s)
unfolding frames_bytes
few_frames h image count [] s = omega arith
few_frames h image count (p ∷ ps) s =
    let c : ℕ = commit_before count ps in
    omega (arith, few_frames h image count ps (image_sums h s (p + 1) c (image p)), length-append (frame_bytes h s (p + 1) c (image p)) (frames_bytes h image count ps (image_sums h s (p + 1) c (image p))), frame_length h s (p + 1) c (image p))

frames_length : (h : Header) (image : ℕ → List ℕ) (count : ℕ) → ((p : ℕ) → p < count → length (image p) ≡ h.size) → (l : List ℕ) (s : Sums) → listed count l ≡ true → length (frames_bytes h image count l s) ≡ length l * frame_size h
unfolding frames_bytes every
frames_length h image count sized [] s k = omega arith
frames_length h image count sized (p ∷ ps) s k =
    let b = and_both (ltb p count) (listed count ps) k in
    let c : ℕ = commit_before count ps in
    let s' : Sums = image_sums h s (p + 1) c (image p) in
    let below : p < count = ltb-true p count b.0 in
    length-append (frame_bytes h s (p + 1) c (image p)) (frames_bytes h image count ps s')
    ∙ omega (arith, frame_length h s (p + 1) c (image p), sized p below, frames_length h image count sized ps s' b.1, suc-mul (length ps) (frame_size h))

-- the whole: what a reader finds in a log that was written
module _ (big : Bool) (size sequence a b : ℕ) (image : ℕ → List ℕ) (count : ℕ) (list : List ℕ) (zs : is_page_size size ≡ true) (ha : a < 2 ^ 32) (hb : b < 2 ^ 32) (some : 1 ≤ count) (few : count ≤ 1024) (sized : (p : ℕ) → p < count → length (image p) ≡ size) (all : listed count list ≡ true) where
  head : Header
  head = head_of big size sequence a b

  log : List ℕ
  log = written big size sequence a b image count list

  log_length : length log ≡ 32 + length list * (24 + size)
  unfolding log written head head_of
  log_length =
      length-append (head_bytes big size sequence a b) (frames_bytes head image count list head.sums)
      ∙ (λ i. head_length big size sequence a b i + frames_length head image count sized list head.sums all i)

  log_good : opened log ≡ Ok head
  unfolding log written head
  log_good = log_opened big size sequence a b (frames_bytes head image count list head.sums) zs (omega (arith, (size_range size zs).1)) ha hb

  frames_of_log : valid_frames head log ≡ log_frames (24 + size) count 32 list
  unfolding valid_frames log written head head_of
  frames_of_log =
      let n : length list ≤ length log = omega (arith, few_frames head image count list head.sums, length-append (head_bytes big size sequence a b) (frames_bytes head image count list head.sums)) in
      frames_valid head image count few ha hb sized list (head_bytes big size sequence a b) 32 (length log) head.sums all (head_length big size sequence a b) n

  log_valid : (1 ≤ length list) → judged log ≡ record { code = 0; frames = length list; end = length log }
  unfolding judged head head_of
  log_valid m =
      let w : ℕ = 24 + size in
      let n : length (valid_frames head log) ≡ length list = ap length frames_of_log ∙ length_frames w count 32 list in
      let e : end_of size (valid_frames head log) ≡ length log = ap (end_of size) frames_of_log ∙ ends list m ∙ sym log_length in
      ap (judged_by log) log_good ∙ (λ i. record { code = 0; frames = n i; end = e i })
    where
      ends : (l : List ℕ) → 1 ≤ length l → end_of size (log_frames (24 + size) count 32 l) ≡ 32 + length l * (24 + size)
      ends [] k = absurd (omega arith)
      ends (p ∷ ps) k =
          ap (λ (t : Bool). cond t (last_place is_commit 0 (log_frames (24 + size) count 32 (p ∷ ps)) + size) 0) (any_commit (24 + size) count some 32 p ps)
          ∙ omega (arith, end_commit (24 + size) count some 32 0 p ps)

  log_found : (p : ℕ) → any (λ (q : ℕ). eqb q p) list ≡ true → found_in log (p + 1) ≡ record { code = 0; found = 1; at = last_listed (24 + size) p 32 0 list }
  unfolding found_in
  log_found p m =
      let w : ℕ = 24 + size in
      let up : up_to_commit (valid_frames head log) ≡ log_frames w count 32 list = ap up_to_commit frames_of_log ∙ all_up w count some 32 list in
      let n : any (is_of (p + 1)) (up_to_commit (valid_frames head log)) ≡ true = ap (any (is_of (p + 1))) up ∙ any_listed w count p 32 list ∙ m in
      let e : last_place (is_of (p + 1)) 0 (up_to_commit (valid_frames head log)) ≡ last_listed w p 32 0 list = ap (last_place (is_of (p + 1)) 0) up ∙ last_place_listed w count p 32 0 list in
      ap (λ (t : Bool). cond t (record { code = code_of (Argument Page); found = 0; at = 0 }) (found_by log (p + 1) (opened log))) (ne_eqb (p + 1) 0 (λ (z : p + 1 ≡ 0). omega arith))
      ∙ ap (found_by log (p + 1)) log_good
      ∙ (λ i. record { code = 0; found = cond (n i) 1 0; at = e i })

  log_shows : (p : ℕ) → any (λ (q : ℕ). eqb q p) list ≡ true → take size (drop (last_listed (24 + size) p 32 0 list) log) ≡ image p
  unfolding log written head head_of
  log_shows p m = image_stands head image count few ha hb sized p list (head_bytes big size sequence a b) 32 0 head.sums all (head_length big size sequence a b) m

  -- a log written by Two is accepted to its last frame, its commit frame is the last, and each page listed is found with the image written, the last one
  pub log_reads : (1 ≤ length list) → Reads size image list (written big size sequence a b image count list)
  unfolding log
  log_reads m = record { whole = log_length; valid = log_valid m; found = log_found; shows = log_shows }
