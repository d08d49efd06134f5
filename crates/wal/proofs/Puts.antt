-- Fields written one behind the other, and the sums of what was written.
use Rattle.std.proofs.Common.{◌≡◌, ℕ, zero, suc, ◌+◌, ◌*◌, ◌/◌, ◌≤◌, Bool, true, false, List, [], ◌∷◌, ◌++◌, length, get_or, take, drop, sym, refl, ap, ◌∙◌, append_assoc, arith, length-append, length-take-le, get_or-drop, drop-drop}
use Rattle.word.specs.Word.{num, big as field, bytes_of}
use Rattle.wal.specs.declared.Sums.{Sums}
use Rattle.wal.specs.declared.Header.{Header}
use Rattle.word.proofs.Bigs.{big_drop, grow}
use Rattle.wal.specs.Sum.{fields_of, word_at, no_sums, paired, summed}
use Rattle.wal.specs.Layout.{magic_of, version, frame_sums}
use Rattle.wal.specs.Written.{head_fields, head_of, sum_fields, head_bytes, image_sums, frame_bytes}

pub pair_put : (l t t' : List ℕ) (at v w : ℕ) → at + 8 ≤ length l → t ≡ take at l ++ (bytes_of v ++ drop (at + 4) l) → t' ≡ take (at + 4) t ++ (bytes_of w ++ drop (at + 4 + 4) t) → t' ≡ take at l ++ (fields_of (v ∷ w ∷ []) ++ drop (at + 8) l)
unfolding fields_of bytes_of
pair_put l t t' at v w h et et' =
    let n : length (take at l ++ bytes_of v) ≡ at + 4 = length-append (take at l) (bytes_of v) ∙ ap (λ (k : ℕ). k + 4) (length-take-le at l (omega arith)) in
    let e : at + 4 + 4 ≡ at + 8 = omega arith in
    grow (at + 4) 4 l t t' (take at l ++ bytes_of v) (bytes_of w) n (et ∙ sym (append_assoc (take at l) (bytes_of v) (drop (at + 4) l))) et'
    ∙ append_assoc (take at l ++ bytes_of v) (bytes_of w) (drop (at + 4 + 4) l)
    ∙ append_assoc (take at l) (bytes_of v) (bytes_of w ++ drop (at + 4 + 4) l)
    ∙ ap (λ (k : ℕ). take at l ++ (bytes_of v ++ (bytes_of w ++ drop k l))) e

-- `write_header`
pub header_put : (big : Bool) (size sequence a b m : ℕ) (t t₁ t₂ t₃ t₄ : List ℕ) (s : Sums) → m ≡ magic_of big → t₁ ≡ take 0 t ++ (fields_of (m ∷ version ∷ []) ++ drop 8 t) → t₂ ≡ take 8 t₁ ++ (fields_of (size ∷ sequence ∷ []) ++ drop 16 t₁) → t₃ ≡ take 16 t₂ ++ (fields_of (a ∷ b ∷ []) ++ drop 24 t₂) → s ≡ summed big 3 t₃ 0 no_sums → t₄ ≡ take 24 t₃ ++ (fields_of (s.s0 ∷ s.s1 ∷ []) ++ drop 32 t₃)
    → (t₄ ≡ head_bytes big size sequence a b ++ drop 32 t) × (record { big = big; size = size; salt1 = a; salt2 = b; sums = s } ≡ head_of big size sequence a b)
unfolding head_bytes head_of head_fields fields_of summed paired word_at field num bytes_of
header_put big size sequence a b m t t₁ t₂ t₃ t₄ s em e₁ e₂ e₃ es e₄ =
    let g₁ : t₁ ≡ fields_of (magic_of big ∷ version ∷ []) ++ drop 8 t = e₁ ∙ ap (λ (x : ℕ). fields_of (x ∷ version ∷ []) ++ drop 8 t) em in
    let g₂ = grow 8 8 t t₁ t₂ (fields_of (magic_of big ∷ version ∷ [])) (fields_of (size ∷ sequence ∷ [])) refl g₁ e₂ in
    let g₃ : t₃ ≡ head_fields big size sequence a b ++ drop 24 t = grow 16 8 t t₂ t₃ (fields_of (magic_of big ∷ version ∷ size ∷ sequence ∷ [])) (fields_of (a ∷ b ∷ [])) refl g₂ e₃ in
    let gs : s ≡ (head_of big size sequence a b).sums = es ∙ ap (λ (x : List ℕ). summed big 3 x 0 no_sums) g₃ in (
      grow 24 8 t t₃ t₄ (head_fields big size sequence a b) (fields_of (s.s0 ∷ s.s1 ∷ [])) refl g₃ e₄ ∙ ap (λ (x : Sums). (head_fields big size sequence a b ++ sum_fields x) ++ drop 32 t) gs,
      λ i. record { big = big; size = size; salt1 = a; salt2 = b; sums = gs i },
    )

-- what is summed from a place on is what stands there
num_drop : (w k : ℕ) (l : List ℕ) (at : ℕ) → num w l (k + at) ≡ num w (drop k l) at
unfolding num
num_drop zero k l at = refl
num_drop (suc w) k l at =
    let e : k + at + 1 ≡ k + (at + 1) = omega arith in
    (λ i. sym (get_or-drop k l at 0) i + 256 * num w l (e i)) ∙ ap (λ (x : ℕ). get_or (drop k l) at 0 + 256 * x) (num_drop w k l (at + 1))

word_drop : (big : Bool) (k : ℕ) (l : List ℕ) (at : ℕ) → word_at big l (k + at) ≡ word_at big (drop k l) at
unfolding word_at
word_drop true k l at = sym (big_drop k at l)
word_drop false k l at = num_drop 4 k l at

pub summed_drop : (big : Bool) (n k : ℕ) (l : List ℕ) (at : ℕ) (s : Sums) → summed big n l (k + at) s ≡ summed big n (drop k l) at s
unfolding summed
summed_drop big zero k l at s = refl
summed_drop big (suc n) k l at s =
    let e : k + at + 8 ≡ k + (at + 8) = omega arith in
    let f : k + at + 4 ≡ k + (at + 4) = omega arith in
    (λ i. summed big n l (e i) (paired s (word_drop big k l at i) (word_at big l (f i))))
    ∙ (λ i. summed big n l (k + (at + 8)) (paired s (word_at big (drop k l) at) (word_drop big k l (at + 4) i)))
    ∙ summed_drop big n k l (at + 8) (paired s (word_at big (drop k l) at) (word_at big (drop k l) (at + 4)))

-- the sums of a frame, by its page number, its commit field and its image
pub frame_summed : (h : Header) (s : Sums) (page commit a b : ℕ) (image : List ℕ) → frame_sums h s (fields_of (page ∷ commit ∷ a ∷ b ∷ []) ++ image) ≡ image_sums h s page commit (drop 8 image)
unfolding frame_sums image_sums fields_of summed paired word_at field num bytes_of
frame_summed h s page commit a b image = summed_drop h.big (h.size / 8) 24 (fields_of (page ∷ commit ∷ a ∷ b ∷ []) ++ image) 0 _ ∙ ap (λ (x : Sums). summed h.big (h.size / 8) (drop 8 image) 0 x) (first h.big)
  where
    first : (big : Bool) → summed big 1 (fields_of (page ∷ commit ∷ a ∷ b ∷ []) ++ image) 0 s ≡ summed big 1 (fields_of (page ∷ commit ∷ [])) 0 s
    first true = refl
    first false = refl

-- `write_fields`
pub frame_put : (h : Header) (s r : Sums) (page commit : ℕ) (f f₁ f₂ f₃ : List ℕ) → f₁ ≡ take 0 f ++ (fields_of (page ∷ commit ∷ []) ++ drop 8 f) → f₂ ≡ take 8 f₁ ++ (fields_of (h.salt1 ∷ h.salt2 ∷ []) ++ drop 16 f₁) → r ≡ frame_sums h s f₂ → f₃ ≡ take 16 f₂ ++ (fields_of (r.s0 ∷ r.s1 ∷ []) ++ drop 24 f₂)
    → (f₃ ≡ frame_bytes h s page commit (drop 24 f)) × (r ≡ image_sums h s page commit (drop 24 f))
unfolding frame_bytes fields_of bytes_of
frame_put h s r page commit f f₁ f₂ f₃ e₁ e₂ er e₃ =
    let g₂ : f₂ ≡ fields_of (page ∷ commit ∷ h.salt1 ∷ h.salt2 ∷ []) ++ drop 16 f = grow 8 8 f f₁ f₂ (fields_of (page ∷ commit ∷ [])) (fields_of (h.salt1 ∷ h.salt2 ∷ [])) refl e₁ e₂ in
    let gr : r ≡ image_sums h s page commit (drop 24 f) = er ∙ ap (frame_sums h s) g₂ ∙ frame_summed h s page commit h.salt1 h.salt2 (drop 16 f) ∙ ap (image_sums h s page commit) (drop-drop 8 16 f) in
    (grow 16 8 f f₂ f₃ (fields_of (page ∷ commit ∷ h.salt1 ∷ h.salt2 ∷ [])) (fields_of (r.s0 ∷ r.s1 ∷ [])) refl g₂ e₃ ∙ ap (λ (x : Sums). fields_of (page ∷ commit ∷ h.salt1 ∷ h.salt2 ∷ x.s0 ∷ x.s1 ∷ []) ++ drop 24 f) gr, gr)
